-- The classes of characters are those of the standard: among ASCII, the tables of Unicode hold what the definitions say.
use Rattle.std.proofs.Common.{◌≡◌, ◌<◌, ℕ, Bool, true, false, [], ◌∷◌, refl, ap, ◌∙◌, ◌||◌, ◌==◌, arith}
use Rattle.std.proofs.lemmas.Bool.Decides.{nat_tests}
use Rattle.std.specs.Bool.{beq, nat_lt}
use Rattle.std.specs.Char.{is_ascii_alphabetic, is_ascii_alphanumeric}
use Rattle.ucd_table.specs.Rows.{in_ranges, value_in}
use Rattle.ucd_table.proofs.Facts.{same_from_beq}
use Rattle.ucd_derived.specs.Binary.{is_id_start, is_id_continue}
use Rattle.ucd_derived.specs.IdStartRanges.{id_start_ranges}
use Rattle.ucd_derived.specs.IdContinueRanges.{id_continue_ranges}
use Rattle.ucd_category.specs.GeneralCategory.{general_category, general_category_eq}
use Rattle.ucd_category.specs.GeneralCategoryRows.{general_category_rows}
use Rattle.ucd_category.specs.declared.GeneralCategory.TheVariants.{SpaceSeparator}
use Rattle.js_base.specs.part_text.Characters.{one_of}
use Rattle.js_grammar.specs.Characters.{is_white_space, is_identifier_start, is_identifier_part}
use Rattle.js_grammar.specs.LexicalLaws.{CharacterClasses}
use Rattle.js_grammar.proofs.CoreLemmas.{below}
use Rattle.js_grammar.proofs.CoreFirst.{lt-true}

abbrev starts_so : ℕ → Bool
starts_so c = beq (is_identifier_start c) (is_id_start c || one_of (36 ∷ 95 ∷ []) c)

abbrev goes_on_so : ℕ → Bool
goes_on_so c = beq (is_identifier_part c) (is_id_continue c || one_of (36 ∷ 0x200C ∷ 0x200D ∷ []) c)

abbrev is_white_so : ℕ → Bool
is_white_so c = beq (is_white_space c) (one_of (9 ∷ 11 ∷ 12 ∷ 0xFEFF ∷ []) c || general_category_eq (general_category c) SpaceSeparator)

start_ascii : (c : ℕ) → c < 128 → is_identifier_start c ≡ (is_id_start c || one_of (36 ∷ 95 ∷ []) c)
unfolding is_id_start in_ranges id_start_ranges
start_ascii c h = same_from_beq _ _ (below 128 starts_so c refl h)

part_ascii : (c : ℕ) → c < 128 → is_identifier_part c ≡ (is_id_continue c || one_of (36 ∷ 0x200C ∷ 0x200D ∷ []) c)
unfolding is_id_continue in_ranges id_continue_ranges
part_ascii c h = same_from_beq _ _ (below 128 goes_on_so c refl h)

white_ascii : (c : ℕ) → c < 128 → is_white_space c ≡ (one_of (9 ∷ 11 ∷ 12 ∷ 0xFEFF ∷ []) c || general_category_eq (general_category c) SpaceSeparator)
unfolding general_category value_in general_category_rows
white_ascii c h = same_from_beq _ _ (below 128 is_white_so c refl h)

or-swap : (a b : Bool) → (a || b) ≡ (b || a)
or-swap true true = refl
or-swap true false = refl
or-swap false true = refl
or-swap false false = refl

beyond : (n c : ℕ) → n < 128 → nat_lt c 128 ≡ false → (n == c) ≡ false
beyond n c l h = grind (arith, nat_tests)

start_beyond : (c : ℕ) → nat_lt c 128 ≡ false → is_identifier_start c ≡ (is_id_start c || one_of (36 ∷ 95 ∷ []) c)
start_beyond c h = ap (λ (b : Bool). one_of (36 ∷ 95 ∷ []) c || elim b [ true ↦ is_ascii_alphabetic c | false ↦ is_id_start c ]) h ∙ or-swap (one_of (36 ∷ 95 ∷ []) c) (is_id_start c)

part_beyond : (c : ℕ) → nat_lt c 128 ≡ false → is_identifier_part c ≡ (is_id_continue c || one_of (36 ∷ 0x200C ∷ 0x200D ∷ []) c)
part_beyond c h =
    let e : (95 == c) ≡ false = beyond 95 c (omega arith) h in
    ap (λ (b : Bool). one_of (36 ∷ 95 ∷ 0x200C ∷ 0x200D ∷ []) c || elim b [ true ↦ is_ascii_alphanumeric c | false ↦ is_id_continue c ]) h
    ∙ ap (λ (b : Bool). ((36 == c) || (b || one_of (0x200C ∷ 0x200D ∷ []) c)) || is_id_continue c) e
    ∙ or-swap (one_of (36 ∷ 0x200C ∷ 0x200D ∷ []) c) (is_id_continue c)

white_beyond : (c : ℕ) → nat_lt c 128 ≡ false → is_white_space c ≡ (one_of (9 ∷ 11 ∷ 12 ∷ 0xFEFF ∷ []) c || general_category_eq (general_category c) SpaceSeparator)
white_beyond c h =
    let e : (32 == c) ≡ false = beyond 32 c (omega arith) h in
    ap (λ (b : Bool). one_of (9 ∷ 11 ∷ 12 ∷ 32 ∷ 0xFEFF ∷ []) c || elim b [ true ↦ false | false ↦ general_category_eq (general_category c) SpaceSeparator ]) h
    ∙ ap (λ (b : Bool). ((9 == c) || ((11 == c) || ((12 == c) || (b || one_of (0xFEFF ∷ []) c)))) || general_category_eq (general_category c) SpaceSeparator) e

by_size : (c : ℕ) (A : Type 0) → (c < 128 → A) → (nat_lt c 128 ≡ false → A) → A
by_size c A f g = go (nat_lt c 128) refl
  where
    go : (b : Bool) → nat_lt c 128 ≡ b → A
    go true e = f (lt-true c 128 e)
    go false e = g e

pub character_classes : CharacterClasses
character_classes = record {
  white_space = λ c. by_size c (is_white_space c ≡ (one_of (9 ∷ 11 ∷ 12 ∷ 0xFEFF ∷ []) c || general_category_eq (general_category c) SpaceSeparator)) (white_ascii c) (white_beyond c);
  identifier_start = λ c. by_size c (is_identifier_start c ≡ (is_id_start c || one_of (36 ∷ 95 ∷ []) c)) (start_ascii c) (start_beyond c);
  identifier_part = λ c. by_size c (is_identifier_part c ≡ (is_id_continue c || one_of (36 ∷ 0x200C ∷ 0x200D ∷ []) c)) (part_ascii c) (part_beyond c);
}
