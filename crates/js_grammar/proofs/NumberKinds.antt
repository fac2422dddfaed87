-- Each reading of a number gives a kind of a number.
use Rattle.std.proofs.Common.{◌≡◌, ℕ, ◌==◌, Bool, true, false, List, [], ◌∷◌, refl, subst, ◌||◌, Option, Some, None}
use Rattle.std.specs.Prelude.{nat_le}
use Rattle.js_base.specs.declared.kind.Kind.{Kind}
use Rattle.js_base.specs.declared.kind.Kind.TheVariants.{Decimal, Float, Binary, Octal, Hex, PositiveExponential, NegativeExponential, DecimalBigInt, BinaryBigInt, OctalBigInt, HexBigInt}
use Rattle.js_base.specs.part_text.Characters.{one_of, is_decimal, is_hex, is_octal, is_binary}
use Rattle.js_grammar.specs.Numbers.{Rest, ends, suffix, digits, signed, exponent, fraction, decimal_rest, integer_rest, legacy, zero_rest, number_kind, is_number}

abbrev numeric : Option Kind → Bool
numeric None = true
numeric (Some k) = is_number k

cond_numeric : (b : Bool) (x y : Option Kind) → numeric x ≡ true → numeric y ≡ true → numeric (elim b [ true ↦ x | false ↦ y ]) ≡ true
cond_numeric true x y h k = h
cond_numeric false x y h k = k

abbrev Numeric : Rest → Type 0
Numeric r = (v : List ℕ) → numeric (r v) ≡ true

ends_numeric : (k : Kind) → is_number k ≡ true → Numeric (ends k)
ends_numeric k h [] = h
ends_numeric k h (c ∷ v) = refl

suffix_numeric : (k big : Kind) → is_number k ≡ true → is_number big ≡ true → Numeric (suffix k big)
suffix_numeric k big h g [] = h
suffix_numeric k big h g (c ∷ v) = cond_numeric (c == 110) _ _ (ends_numeric big g v) refl

digits_numeric : (d : ℕ → Bool) (r : Rest) → Numeric r → (digit : Bool) → Numeric (digits d r digit)
digits_numeric d r h digit [] = cond_numeric digit _ _ (h []) refl
digits_numeric d r h digit (c ∷ v) = cond_numeric (d c) _ _ (digits_numeric d r h true v) (cond_numeric digit _ _ (cond_numeric (c == 95) _ _ (digits_numeric d r h false v) (h (c ∷ v))) refl)

signed_numeric : Numeric signed
signed_numeric [] = refl
signed_numeric (c ∷ v) = cond_numeric (c == 45) _ _ (digits_numeric is_decimal (ends NegativeExponential) (ends_numeric NegativeExponential refl) false v)
    (cond_numeric (c == 43) _ _ (digits_numeric is_decimal (ends PositiveExponential) (ends_numeric PositiveExponential refl) false v) (digits_numeric is_decimal (ends PositiveExponential) (ends_numeric PositiveExponential refl) false (c ∷ v)))

exponent_numeric : (k : Kind) → is_number k ≡ true → Numeric (exponent k)
exponent_numeric k h [] = h
exponent_numeric k h (c ∷ v) = cond_numeric (one_of (69 ∷ 101 ∷ []) c) _ _ (signed_numeric v) refl

fraction_numeric : Numeric fraction
fraction_numeric [] = refl
fraction_numeric (c ∷ v) = cond_numeric (is_decimal c) _ _ (digits_numeric is_decimal (exponent Float) (exponent_numeric Float refl) true v) (exponent_numeric Float refl (c ∷ v))

decimal_numeric : Numeric decimal_rest
decimal_numeric [] = refl
decimal_numeric (c ∷ v) = cond_numeric (c == 46) _ _ (fraction_numeric v) (exponent_numeric Decimal refl (c ∷ v))

integer_numeric : Numeric integer_rest
integer_numeric [] = refl
integer_numeric (c ∷ v) = cond_numeric (c == 110) _ _ (ends_numeric DecimalBigInt refl v) (decimal_numeric (c ∷ v))

legacy_numeric : (above : Bool) → Numeric (legacy above)
legacy_numeric above [] = cond_numeric above _ _ refl refl
legacy_numeric above (c ∷ v) = cond_numeric (is_decimal c) _ _ (legacy_numeric (above || nat_le 56 c) v) (cond_numeric above _ _ (decimal_numeric (c ∷ v)) refl)

zero_numeric : Numeric zero_rest
zero_numeric [] = refl
zero_numeric (c ∷ v) = cond_numeric (is_decimal c) _ _ (legacy_numeric (nat_le 56 c) v)
    (cond_numeric (one_of (88 ∷ 120 ∷ []) c) _ _ (digits_numeric is_hex (suffix Hex HexBigInt) (suffix_numeric Hex HexBigInt refl refl) false v)
    (cond_numeric (one_of (79 ∷ 111 ∷ []) c) _ _ (digits_numeric is_octal (suffix Octal OctalBigInt) (suffix_numeric Octal OctalBigInt refl refl) false v)
    (cond_numeric (one_of (66 ∷ 98 ∷ []) c) _ _ (digits_numeric is_binary (suffix Binary BinaryBigInt) (suffix_numeric Binary BinaryBigInt refl refl) false v) (integer_numeric (c ∷ v)))))

number_numeric : Numeric number_kind
number_numeric [] = refl
number_numeric (c ∷ v) = cond_numeric (c == 46) _ _ (digits_numeric is_decimal (exponent Float) (exponent_numeric Float refl) false v)
    (cond_numeric (c == 48) _ _ (zero_numeric v) (cond_numeric (is_decimal c) _ _ (digits_numeric is_decimal integer_rest integer_numeric true v) refl))

pub kind_numeric : (w : List ℕ) (k : Kind) → number_kind w ≡ Some k → is_number k ≡ true
kind_numeric w k e = subst (λ (o : Option Kind). numeric o ≡ true) e (number_numeric w)
