-- Where a semicolon stands or may be left out (ECMA-262, 12.10), by the token at a parser's place.
use Rattle.std.proofs.Common.{ℕ, ◌≡◌, inl, inr, List, true, not, ◌&&◌, IsTrue, refl, ap, ◌∙◌}
use Rattle.std.proofs.lemmas.Bool.{and_from}
use Rattle.js_base.specs.Kinds.{same_kind}
use Rattle.js_base.specs.declared.kind.Kind.TheVariants.{Semicolon}
use Rattle.js_grammar.specs.Grammar.{Lexeme, Look, is, may_omit, seen, semicolon}
use Rattle.js_grammar.specs.Parsing.{Test, Fails}
use Rattle.js_grammar.specs.Productions.{Flags}
use Rattle.js_grammar.specs.Table.{rule}
use Rattle.js_grammar.specs.Trees.{end}
use Rattle.js_grammar.proofs.Calculus.{fails_semicolon}
use Rattle.js_grammar.proofs.Looks.{covers, covered}
use Rattle.laws_statements.proofs.Statements.{closer_here, closes_here, closes_or_line, no_close, no_semicolon, omitted_so}
use Rattle.laws_shared.specs.js_cursor.Moves.{MayEnd}
use Rattle.laws_shared.specs.js_cursor.Parsers.{Parser}
use Rattle.laws_shared.specs.Lexemes.{Lex}
use Rattle.laws_shared.specs.States.{At}
use Rattle.laws_shared.proofs.Here.{newline_here}

semicolon_closes : covers (is Semicolon) closes_or_line ≡ true
unfolding covers
semicolon_closes = refl

module _ {text : List ℕ} {f : Flags} {q : Parser} (a : At text f q) where
  -- it neither stands here, nor may it be left out
  pub unended : {X : Test} (l : Look) → (MayEnd q → ⊥) → Fails rule (Lex text) X end (semicolon l) q.prev_token_end
  unended l m = fails_semicolon l (λ y i h. no_close a m y i (covered (is Semicolon) closes_or_line semicolon_closes y.kind y.newline y.escaped h)) (λ y i h. no_close a m y i (covered (may_omit l) closes_or_line (omitted_so l) y.kind y.newline y.escaped h))

  -- where the token says that it may be left out, it may before what goes on with nothing
  pub omits : (l : Look) → covers (λ k w e. closes_here k w e && not (same_kind Semicolon k)) (may_omit l) ≡ true → covers (λ k w e. w && (not (same_kind Semicolon k) && not (l k w e))) (may_omit l) ≡ true → (q.token.is_on_new_line ≡ true → (y : Lexeme) → Lex text q.prev_token_end y → not (seen l y) ≡ true) → MayEnd q → (q.token.kind ≡ Semicolon → ⊥) → (y : Lexeme) → Lex text q.prev_token_end y → IsTrue (seen (may_omit l) y)
  omits l c d h (inl e) n y i = covered (λ k w e. closes_here k w e && not (same_kind Semicolon k)) (may_omit l) c y.kind y.newline y.escaped (and_from _ _ (closer_here a e y i) (ap not (no_semicolon a n y i)))
  omits l c d h (inr w) n y i = covered (λ k w e. w && (not (same_kind Semicolon k) && not (l k w e))) (may_omit l) d y.kind y.newline y.escaped (and_from _ _ (newline_here a y i ∙ w) (and_from _ _ (ap not (no_semicolon a n y i)) (h w y i)))
