-- Operators of TypeScript behind an expression: they are told, and no statement ends before one.
use Rattle.std.proofs.Common.{ℕ, ◌≡◌, inl, inr, true, false, not, ◌&&◌, IsTrue, List, [], ◌∷◌, length, Option, None, Some, refl, sym, ap, subst, ◌∙◌}
use Rattle.std.proofs.lemmas.Bool.{and_from, false≢true, or_left}
use Rattle.js_base.specs.declared.diagnostic.DiagnosticKind.{DiagnosticKind}
use Rattle.js_base.specs.declared.diagnostic.DiagnosticKind.TheVariants.{AsInTs, SatisfiesInTs}
use Rattle.js_base.specs.declared.kind.Kind.{Kind}
use Rattle.js_base.specs.declared.kind.Kind.TheVariants.{As, RAngle, Satisfies}
use Rattle.js_base.specs.declared.span.Span.{Span}
use Rattle.js_base.specs.Kinds.{one_of_kinds, same_kind}
use Rattle.js_base.specs.Texts.{words}
use Rattle.js_grammar.specs.Trees.{Label, Slots, end, tree}
use Rattle.js_grammar.specs.Grammar.{Lexeme, Lexemes, is_nothing, is_such, last, nothing, such, Takes}
use Rattle.js_grammar.specs.Lexed.{Lexes, NextLexeme, all_faults}
use Rattle.js_grammar.specs.LexicalFaults.{Reached}
use Rattle.js_grammar.specs.Marks.{BehindExpression, Mark, StandsAt, of_kinds, loose}
use Rattle.js_grammar.specs.Parsing.{always}
use Rattle.js_grammar.specs.Productions.{Flags, at, Expression}
use Rattle.js_grammar.specs.Table.{rule}
use Rattle.js_grammar.specs.Follow.{after}
use Rattle.js_grammar.proofs.BuiltLines.{in_whole}
use Rattle.js_grammar.proofs.Loose.{strict_is_loose}
use Rattle.js_grammar.proofs.Looks.{same_self}
use Rattle.laws_shared.specs.js_tree.declared.id.NodeId.{NodeId}
use Rattle.laws_shared.specs.js_cursor.Moves.{MayEnd, ends_statement, is_last}
use Rattle.laws_shared.specs.js_cursor.Parsers.{Parser}
use Rattle.laws_shared.specs.js_cursor.Places.{IsAt, goal}
use Rattle.laws_shared.specs.Answers.{Numbered, Stretch, Underived, Verdict, clean, unclean, wider}
use Rattle.laws_shared.specs.Classes.{EndsParse}
use Rattle.laws_shared.specs.Lexemes.{Lex, is_read_kind}
use Rattle.laws_shared.specs.Stands.{StandsHere}
use Rattle.laws_shared.specs.States.{At}
use Rattle.laws_shared.specs.Statements.{NoEnd}
use Rattle.laws_shared.specs.Told.{unrelated_at}
use Rattle.laws_shared.proofs.Here.{found, uncut}
use Rattle.laws_shared.proofs.Paths.{read_of}
use Rattle.laws_operators.proofs.Exponents.{longer}
use Rattle.laws_operators.proofs.parse_targets.Covers.{all_stand}
use Rattle.laws_statements.specs.ForeignOperators.{FindsForeign}

-- a word on its line behind an expression in which nothing was found
module _ {text : List ℕ} {f : Flags} {p q : Parser} {id : NodeId} (a : At text f p) (x : Numbered text f (at Expression f) p q id) (w : Kind) (h : StandsHere q w true) (o : q.token.is_on_new_line ≡ false) (r : same_kind RAngle w ≡ false) (n : is_last w ≡ false) (d : is_read_kind w ≡ true) where
  -- the lexeme that stands there
  word : (y : Lexeme) × Lex text q.prev_token_end y × (y.from ≡ q.token.span.start) × (y.to ≡ q.token.span.end) × IsTrue (of_kinds (w ∷ []) y && not y.newline)
  word =
      let z = found x.answer.at (uncut x.answer.at (ap (same_kind RAngle) h.0 ∙ r)) (ap is_last h.0 ∙ n) in
      let k : z.0.kind ≡ w = sym z.2.kind ∙ h.0 in
      let i : one_of_kinds (w ∷ []) z.0.kind ≡ true = subst (λ (v : Kind). one_of_kinds (w ∷ []) v ≡ true) (sym k) (or_left (same_kind w w) false (same_self w)) in
      (z.0, (z.1, read_of z.0 k d), sym z.2.start, sym z.2.end, and_from (of_kinds (w ∷ []) z.0) (not z.0.newline) (and_from (one_of_kinds (w ∷ []) z.0.kind) (not z.0.escaped) i (ap not (sym z.2.escaped ∙ h.1))) (ap not (sym z.2.newline ∙ o)))

  derived_of : {ls rest : Lexemes} {l : Label} {cs : Slots} {s s' : ℕ} → Takes rule (such (at Expression f) always) end (tree l cs end) s ls end s' rest → Takes rule (rule (at Expression f)) end (tree l cs end) s ls end s' rest
  derived_of (is_such d c) = d

  behind : Stretch text (after (at Expression f)) (such (at Expression f) always) p.prev_token_end nothing q.prev_token_end (tree x.answer.label x.answer.slots) x.answer.pass → BehindExpression w q.text q.token.span
  behind y =
      let z = word in
      let lx : Lexes (Lex text) q.prev_token_end (last z.0) = z.1 in
      let ls = x.answer.pass (last z.0) in
      let l = y.goes.passes.lexed (last z.0) lx in
      record {
        place = p.prev_token_end;
        lexemes = ls;
        part = record { reached = subst (λ (v : List ℕ). Reached v p.prev_token_end) (sym x.answer.same.follows.text) a.at.reached; lexed = subst (λ (v : List ℕ). Lexes (NextLexeme all_faults v) p.prev_token_end ls) (sym x.answer.at.text_is) (all_stand text p.prev_token_end ls l) };
        flags = f;
        tree = record { label = x.answer.label; slots = x.answer.slots };
        end = q.prev_token_end;
        rest = last z.0;
        derived = in_whole (at Expression (loose f)) (record { label = x.answer.label; slots = x.answer.slots }) (strict_is_loose (at Expression f) (record { label = x.answer.label; slots = x.answer.slots }) (derived_of (y.goes.sound end end q.prev_token_end (last z.0) (last z.0) lx (inl y.near) is_nothing)));
        is = (z.2, z.3);
        word = z.4;
      }

  behind_it : length q.errors ≡ length p.errors → BehindExpression w q.text q.token.span
  behind_it e = by x.answer.verdict
    where
      by : Verdict (f.wide ≡ true) p.errors q.errors (Stretch text (after (at Expression f)) (such (at Expression f) always) p.prev_token_end nothing q.prev_token_end (tree x.answer.label x.answer.slots) x.answer.pass) (Underived text (at Expression f) p.prev_token_end) → BehindExpression w q.text q.token.span
      by (clean i y) = behind y
      by (unclean g m) = absurd (longer g (sym e))
      by (wider v g m) = absurd (longer g (sym e))

marked : (p : Parser) (k : DiagnosticKind) → IsAt p → StandsAt k (goal p) p.text p.token.span None None → Mark (goal p) p.text (unrelated_at k p.token.span)
marked p k a h = record {
  ordered = a.lies.ordered;
  within = a.lies.ends_whole.0;
  begins_between = a.lies.starts_whole;
  ends_between = a.lies.ends_whole;
  stands = h;
}

unended : (q : Parser) (w : Kind) → q.token.kind ≡ w → q.token.is_on_new_line ≡ false → ends_statement w ≡ false → MayEnd q → ⊥
unended q w k o e (inl h) = false≢true (sym e ∙ (sym (ap ends_statement k) ∙ h))
unended q w k o e (inr h) = false≢true (sym o ∙ h)

-- what was found
pub found_foreign : (q : Parser) {n m : ℕ} {o : Option DiagnosticKind} {k : DiagnosticKind} → o ≡ Some k → n ≡ m → FindsForeign n q o → FindsForeign m q (Some k)
found_foreign q {n} {m} {o} {k} e i h = subst (λ (v : ℕ). FindsForeign v q (Some k)) i (subst (λ (v : Option DiagnosticKind). FindsForeign n q v) e h)

-- it has its mark
pub foreign_marked : {text : List ℕ} {f : Flags} {p q : Parser} {id : NodeId} (k : DiagnosticKind) → At text f p → Numbered text f (at Expression f) p q id → FindsForeign (length p.errors) q (Some k) → Mark (goal q) q.text (unrelated_at k q.token.span)
unfolding words
foreign_marked {q = q} AsInTs a x (e, o, h) = marked q AsInTs x.answer.at.at (behind_it a x As h o refl refl refl e, (refl, refl))
foreign_marked {q = q} SatisfiesInTs a x (e, o, h) = marked q SatisfiesInTs x.answer.at.at (behind_it a x Satisfies h o refl refl refl e, (refl, refl))
foreign_marked _ a x (e, o, h) = absurd h

-- its class ends a parse
pub foreign_ends : (q : Parser) (n : ℕ) (k : DiagnosticKind) (s : Span) → FindsForeign n q (Some k) → EndsParse (unrelated_at k s)
foreign_ends q n AsInTs s h = refl
foreign_ends q n SatisfiesInTs s h = refl
foreign_ends q n _ s (e, o, h) = absurd h

-- and no statement ends before it
pub foreign_unended : (q : Parser) (n : ℕ) (k : DiagnosticKind) → FindsForeign n q (Some k) → NoEnd q
foreign_unended q n AsInTs (e, o, h) = inr (unended q As h.0 o refl)
foreign_unended q n SatisfiesInTs (e, o, h) = inr (unended q Satisfies h.0 o refl)
foreign_unended q n _ (e, o, h) = absurd h
