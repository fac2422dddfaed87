use Rattle.std.proofs.Common.{◌≡◌, ℕ, List, [], ◌∷◌, refl, sym, subst}
use Rattle.std.specs.Prelude.{IsSome, codes}
use Rattle.std.specs.Str.{chars}
use Rattle.js_base.specs.part_text.Decoding.{name_text}
use Rattle.test_units.proofs.decoding.is_plain.Goals as goal

known : (n bs : List ℕ) → IsSome (name_text (chars n)) → bs ≡ n → IsSome (name_text (chars bs))
known n bs w e = subst (λ (v : List ℕ). IsSome (name_text (chars v))) (sym e) w

plain_name : IsSome (name_text (chars (codes "plain")))
unfolding chars lib.Utf8.encode
plain_name = refl

accented_name : IsSome (name_text (chars (195 ∷ 169 ∷ [])))
unfolding chars lib.Utf8.encode
accented_name = refl

pub returns-in-plain : goal.returns-in-plain
returns-in-plain c = λ _. known (codes "plain") c.args.raw.now plain_name (cc)

pub returns-in-plain-2 : goal.returns-in-plain-2
returns-in-plain-2 c = λ _. known (195 ∷ 169 ∷ []) c.args.raw.now accented_name (cc)
