-- Brackets that were opened and are closed.
use Rattle.std.proofs.Common.{ℕ, ◌≡◌, ◌≤◌, List, sym, subst, arith, ◌∙◌}
use Rattle.js_base.specs.declared.source_type.SourceType.{SourceType}
use Rattle.js_base.specs.declared.span.Span.{Span}
use Rattle.js_grammar.specs.Lexed.{NextLexeme, all_faults}
use Rattle.js_grammar.specs.LexicalFaults.{Reached}
use Rattle.js_grammar.specs.Marks.{LexemeAt, a_lexeme, opens}
use Rattle.js_grammar.specs.Productions.{Flags}
use Rattle.js_cursor.specs.js_lex.States.{goal_of}
use Rattle.js_cursor.specs.Moves.{Opened}
use Rattle.js_cursor.specs.Parsers.{Parser}
use Rattle.js_cursor.specs.Places.{goal}
use Rattle.laws_shared.specs.Moves.{Moved}
use Rattle.laws_shared.specs.States.{At, Same}
use Rattle.js_base.specs.declared.kind.Kind.{Kind}
use Rattle.js_base.specs.declared.kind.Kind.TheVariants.{LParen, LBrack, LCurly}
use Rattle.js_base.specs.Kinds.{one_of_kinds}
use Rattle.std.specs.Prelude.{true, ◌∷◌, []}

-- a bracket that was passed was opened
pub opened_here : {text : List ℕ} {f : Flags} {p q : Parser} → At text f p → one_of_kinds (LParen ∷ LBrack ∷ LCurly ∷ []) p.token.kind ≡ true → Moved text f p q → Opened q p.token.span
opened_here {text} {f} {p} {q} a k m = record {
  bracket = record {
    lexeme = m.lexeme;
    of_text = a_lexeme (subst (λ (v : List ℕ). Reached v p.prev_token_end) (a.text_is ∙ sym m.at.text_is) a.at.reached) (subst (λ (v : List ℕ). NextLexeme all_faults v p.prev_token_end m.lexeme) (sym m.at.text_is) m.stood);
    is = (sym m.tells.start, sym m.tells.end);
    passes = subst (λ (v : Kind). one_of_kinds (LParen ∷ LBrack ∷ LCurly ∷ []) v ≡ true) m.tells.kind k;
  };
  before = let t = m.tells.end in let u = m.ends in omega arith;
}

pub opened_later : {p q : Parser} {opening : Span} → Same p q → p.prev_token_end ≤ q.prev_token_end → Opened p opening → Opened q opening
opened_later {p} {q} {opening} s l a = record {
  bracket = subst (λ (v : List ℕ). LexemeAt opens (goal q) v opening) (sym s.follows.text) (subst (λ (v : SourceType). LexemeAt opens (goal_of v) p.text opening) (sym s.follows.source_type) a.bracket);
  before = let b = a.before in omega arith;
}
