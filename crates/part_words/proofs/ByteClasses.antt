-- The table of the classes of bytes tells what the characters are.
use Rattle.std.proofs.Common.{◌≡◌, ◌<◌, ℕ, Bool, true, false, List, [], ◌∷◌, zero, suc, refl, sym, subst, ◌&&◌, ◌||◌, not, nat_lt, arith, ◌⊎◌, inl, inr, slice_index_or}
use Rattle.js_grammar.specs.Characters.{is_identifier_start}
use Rattle.js_grammar.specs.Lexemes.{opening}
use Rattle.part_words.specs.Names.{is_ascii_part}
use Rattle.part_words.specs.declared.byte_class.ByteClass.{ByteClass}
use Rattle.part_words.specs.declared.byte_class.ByteClass.TheVariants.{Letter}
use Rattle.part_words.specs.declared.byte_class.TheConstants.{CLASSES}
use Rattle.part_words.specs.ByteClasses.{IsOf, is_letter_class, is_name_class, is_trivia_class, opens, begins_no_trivia, is_line_class, is_comment_class, stays_on_line, stays_in_comment, Stays, is_alone_class, is_end_class, is_lone, ends_sign}
use Rattle.part_words.specs.Places.{Peeks}

-- what a function gives for the numbers below n, the greatest first
abbrev row : {A : Type 0} → ℕ → (ℕ → A) → List A
row zero f = []
row (suc n) f = f n ∷ row n f

-- functions whose rows are the same agree there
pub agree : {A : Type 0} (n : ℕ) (f g : ℕ → A) → row n f ≡ row n g → (c : ℕ) → c < n → f c ≡ g c
agree zero f g e c l = absurd (omega arith)
agree (suc n) f g e c l = elim (last c n l) [
  | inl s ↦ subst (λ (x : ℕ). f x ≡ g x) (sym s) (let h = e in cc)
  | inr m ↦ agree n f g (let h = e in cc) c m
]
  where
    last : (c n : ℕ) → c < suc n → (c ≡ n) ⊎ (c < n)
    last c n l = grind arith

abbrev class : ℕ → ByteClass
class b = slice_index_or CLASSES b Letter

opening_of : (b : ℕ) → b < 128 → (digit : Bool) → opens (class b) digit ≡ opening b digit
opening_of b h true = agree 128 (λ c. opens (class c) true) (λ c. opening c true) refl b h
opening_of b h false = agree 128 (λ c. opens (class c) false) (λ c. opening c false) refl b h

pub is_of : (b : ℕ) → b < 256 → IsOf b (class b)
is_of b l = record {
  letter = agree 256 (λ c. is_letter_class (class c)) (λ c. nat_lt c 128 && is_identifier_start c) refl b l;
  part = agree 256 (λ c. is_name_class (class c)) is_ascii_part refl b l;
  opening = opening_of b;
  trivia = agree 256 (λ c. is_trivia_class (class c) || begins_no_trivia c) (λ c. true) refl b l;
  line = agree 256 (λ c. is_line_class (class c) || stays_on_line c) (λ c. true) refl b l;
  comment = agree 256 (λ c. is_comment_class (class c) || stays_in_comment c) (λ c. true) refl b l;
  alone = agree 256 (λ c. not (is_alone_class (class c)) || is_lone c) (λ c. true) refl b l;
  ends = agree 256 (λ c. not (is_end_class (class c)) || ends_sign c) (λ c. true) refl b l;
}

-- a byte of which the class tells that a character that passes stands there
pub stays : {text : List ℕ} {i b : ℕ} (p : ℕ → Bool) (k : Bool) → Peeks text i b → (k || p b) ≡ true → k ≡ false → (p b ≡ true → b < 128) → Stays p text i
stays {b = b} p k h o n low =
    let t : p b ≡ true = subst (λ (x : Bool). (x || p b) ≡ true) n o in
    record { character = b; word = h.ascii (low t); passes = t }
