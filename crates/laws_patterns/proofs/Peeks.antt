-- What a peek tells of the lexeme behind the current one.
use Rattle.std.proofs.Common.{ℕ, ◌≡◌, ◌⊎◌, List, Bool, true, false, refl, sym, ap, subst, ◌∙◌, inl, inr}
use Rattle.std.proofs.lemmas.Bool.{false≢true}
use Rattle.js_base.specs.declared.kind.Kind.{Kind}
use Rattle.js_base.specs.declared.kind.Kind.TheVariants.{RAngle}
use Rattle.js_base.specs.declared.token.Token.{Token}
use Rattle.js_base.specs.Kinds.{same_kind, one_of_kinds}
use Rattle.js_grammar.specs.Grammar.{Lexeme}
use Rattle.js_grammar.specs.Lexemes.{division}
use Rattle.js_grammar.specs.Productions.{Flags}
use Rattle.laws_shared.specs.js_lex.Reading.{cut, is_right_angle, GivesLexeme}
use Rattle.laws_shared.proofs.js_lex.Again.{cut_same}
use Rattle.laws_shared.specs.js_cursor.Moves.{Peeks}
use Rattle.laws_shared.specs.js_cursor.Parsers.{Parser}
use Rattle.laws_primary.proofs.AsyncWords.{given_behind}
use Rattle.laws_shared.specs.Lexemes.{Lex, other_goals, signs, signs_of}
use Rattle.laws_shared.specs.States.{At}
use Rattle.laws_shared.proofs.Here.{signs_are, one_plain, plainly, unsettled, settled_kind, plain_there, plain_same, Plainly}

module _ {text : List ℕ} {f : Flags} {p : Parser} {t : Token} (a : At text f p) (h : Peeks p t) where
  -- a token that isn't `>` tells its kind
  pub peeked_kind : one_of_kinds unsettled t.kind ≡ false → (y : Lexeme) → Lex text p.token.span.end y → y.kind ≡ t.kind
  peeked_kind u y l = given_behind a h
      (λ d u n. let z = plain_there l in absurd (n.none z.lexeme z.stands))
      (λ x. by x (is_right_angle x.lexeme.kind) refl)
    where
      r : same_kind RAngle t.kind ≡ false
      r = (settled_kind t.kind u).0

      -- it is of no other goal, since no sign of one stands there by the plain goal
      of_plain : (x : GivesLexeme division cut text p.token.span.end t) → is_right_angle x.lexeme.kind ≡ false → y ≡ x.lexeme
      of_plain x e = which z.which
        where
          z : Plainly text p.token.span.end y
          z = plain_there l

          same : x.lexeme ≡ z.lexeme
          same = plain_same z x

          which : (z.lexeme ≡ y) ⊎ ((one_of_kinds other_goals y.kind ≡ true) × (one_of_kinds (signs_of y.kind) z.lexeme.kind ≡ true)) → y ≡ x.lexeme
          which (inl k) = sym (same ∙ k)
          which (inr k) = absurd (false≢true (sym (settled_kind t.kind u).1 ∙ subst (λ (v : Kind). one_of_kinds signs v ≡ true) (ap (λ (v : Lexeme). v.kind) (sym same ∙ sym (cut_same x.lexeme e)) ∙ sym x.tells.kind) (signs_are y.kind z.lexeme.kind k.1)))

      by : (x : GivesLexeme division cut text p.token.span.end t) → (b : Bool) → is_right_angle x.lexeme.kind ≡ b → y.kind ≡ t.kind
      by x true e = absurd (false≢true (sym r ∙ (let c : (cut x.lexeme).kind ≡ RAngle = rw (e, cut) refl in ap (same_kind RAngle) (x.tells.kind ∙ c))))
      by x false e = ap (λ (z : Lexeme). z.kind) (of_plain x e) ∙ (ap (λ (z : Lexeme). z.kind) (sym (cut_same x.lexeme e)) ∙ sym x.tells.kind)

  -- a lexeme that doesn't begin with `>` is told whole
  pub peeked_whole : (y : Lexeme) → Lex text p.token.span.end y → is_right_angle y.kind ≡ false → one_of_kinds other_goals y.kind ≡ false → y.kind ≡ t.kind
  peeked_whole y l r n = given_behind a h
      (λ d u i. absurd (i.none y (record { lex = l.0; of_goal = plainly l.0 l.1 n })))
      (λ x. let e = one_plain l n x in ap (λ (z : Lexeme). z.kind) e ∙ (ap (λ (z : Lexeme). z.kind) (sym (cut_same x.lexeme (sym (ap (λ (z : Lexeme). is_right_angle z.kind) e) ∙ r))) ∙ sym x.tells.kind))
