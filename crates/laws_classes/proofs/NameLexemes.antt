-- The lexeme that stands where the name of an element begins: its kind tells it whole, and it is the only one (ECMA-262, 15.7).
use Rattle.std.proofs.Common.{ℕ, ◌≡◌, Bool, true, false, List, refl, sym, subst, ◌∙◌}
use Rattle.js_base.specs.declared.kind.Kind.{Kind}
use Rattle.js_base.specs.declared.kind.Kind.TheVariants.{RAngle}
use Rattle.js_base.specs.KindSets.{identifier_name_kinds}
use Rattle.js_base.specs.Kinds.{same_kind, one_of_kinds}
use Rattle.js_grammar.specs.Grammar.{Lexeme}
use Rattle.js_grammar.specs.Productions.{Flags}
use Rattle.js_grammar.proofs.Looks.{covers, covered, apart, not_both}
use Rattle.laws_primary.specs.js_cursor.Moves.{is_last}
use Rattle.laws_primary.specs.js_cursor.Parsers.{Parser}
use Rattle.laws_primary.specs.js_cursor.js_lex.Reading.{Tells}
use Rattle.laws_primary.specs.laws_shared.Lexemes.{Lex, is_read_kind, signs}
use Rattle.laws_primary.specs.laws_shared.States.{At}
use Rattle.laws_primary.proofs.laws_shared.Here.{found, settled_kind, told, uncut, unsettled}
use Rattle.laws_primary.proofs.laws_shared.Paths.{one_read}
use Rattle.laws_primary.proofs.Properties.{kinds_apart}
use Rattle.laws_classes.specs.Elements.{name_kinds}

module _ {text : List ℕ} {f : Flags} {p : Parser} (a : At text f p) (i : one_of_kinds name_kinds p.token.kind ≡ true) where
  pub name_plain : (same_kind RAngle p.token.kind ≡ false) × (one_of_kinds signs p.token.kind ≡ false)
  unfolding apart
  name_plain = settled_kind p.token.kind (kinds_apart name_kinds unsettled refl p.token.kind i)

  pub name_passable : is_last p.token.kind ≡ false
  unfolding apart
  name_passable = by (is_last p.token.kind) refl
    where
      by : (d : Bool) → is_last p.token.kind ≡ d → is_last p.token.kind ≡ false
      by true h = absurd (not_both (λ k w e. one_of_kinds name_kinds k) (λ k w e. is_last k) refl p.token.kind false false i h)
      by false h = h

  pub name_lexeme : (y : Lexeme) × Tells y p.token × ((z : Lexeme) → Lex text p.prev_token_end z → z ≡ y)
  name_lexeme =
      let u = uncut a name_plain.0 in
      let o = found a u name_passable in
      (o.0, o.2, λ z j. one_read a name_plain.1 j (o.1, subst (λ (v : Kind). is_read_kind v ≡ true) (sym (told a u name_plain.1 z j).kind ∙ o.2.kind) j.1))

-- where it is a word
pub word_lexeme : {text : List ℕ} {f : Flags} {p : Parser} → At text f p → one_of_kinds identifier_name_kinds p.token.kind ≡ true → (y : Lexeme) × Tells y p.token × ((z : Lexeme) → Lex text p.prev_token_end z → z ≡ y)
unfolding covers
word_lexeme {p = p} a w = name_lexeme a (covered (λ k v e. one_of_kinds identifier_name_kinds k) (λ k v e. one_of_kinds name_kinds k) refl p.token.kind false false w)
