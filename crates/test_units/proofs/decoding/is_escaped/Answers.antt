use Rattle.std.proofs.Common.{◌≡◌, ℕ, List, refl, sym, subst}
use Rattle.std.specs.Prelude.{IsSome, codes}
use Rattle.std.specs.Str.{chars}
use Rattle.js_base.specs.part_text.Decoding.{name_text}
use Rattle.test_units.proofs.decoding.is_escaped.Goals as goal

known : (n bs : List ℕ) → IsSome (name_text (chars n)) → bs ≡ n → IsSome (name_text (chars bs))
known n bs w e = subst (λ (v : List ℕ). IsSome (name_text (chars v))) (sym e) w

one_letter_name : IsSome (name_text (chars (codes "\\u0061b")))
unfolding chars lib.Utf8.encode
one_letter_name = refl

braced_name : IsSome (name_text (chars (codes "\\u{61}wait")))
unfolding chars lib.Utf8.encode
braced_name = refl

digit_name : IsSome (name_text (chars (codes "x\\u{1D7D8}")))
unfolding chars lib.Utf8.encode
digit_name = refl

pub returns-in-text : goal.returns-in-text
returns-in-text c = λ _. known (codes "\\u0061b") c.args.raw.now one_letter_name (cc)

pub returns-in-text-2 : goal.returns-in-text-2
returns-in-text-2 c = λ _. known (codes "\\u{61}wait") c.args.raw.now braced_name (cc)

pub returns-in-text-3 : goal.returns-in-text-3
returns-in-text-3 c = λ _. known (codes "x\\u{1D7D8}") c.args.raw.now digit_name (cc)
