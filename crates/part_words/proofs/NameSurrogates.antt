-- No number but a Unicode scalar value is an identifier character.
use Rattle.std.proofs.Common.{◌≡◌, ◌<◌, ◌≤◌, ℕ, Bool, true, false, List, [], ◌∷◌, refl, ap, ◌∙◌, not, ◌&&◌, ◌||◌, nat_lt, arith, ◌⊎◌, inl, inr}
use Rattle.std.specs.Char.{OutOfScalarRange}
use Rattle.std.specs.Prelude.{nat_le}
use Rattle.std.specs.List.{list_all}
use Rattle.std.proofs.lemmas.Bool.Decides.{nat_tests}
use Rattle.ucd_table.specs.Rows.{Range, in_ranges}
use Rattle.ucd_derived.specs.Binary.{is_id_start, is_id_continue}
use Rattle.ucd_derived.specs.IdStartRanges.{id_start_ranges}
use Rattle.ucd_derived.specs.IdContinueRanges.{id_continue_ranges}
use Rattle.js_base.specs.part_text.Characters.{is_scalar}
use Rattle.js_grammar.proofs.LongestLemmas.{both-left, both-right}
use Rattle.part_words.specs.declared.name.Position.{Position}
use Rattle.part_words.specs.declared.name.Position.TheVariants.{Start, Part}
use Rattle.part_words.specs.Names.{may_stand}

-- the range has scalar values alone
abbrev is_scalar_range : Range → Bool
is_scalar_range r = nat_lt r.1 0xD800 || (nat_le 0xE000 r.0 && nat_le r.1 0x10_FFFF)

outside_range : (lo hi c : ℕ) → (nat_lt hi 0xD800 || (nat_le 0xE000 lo && nat_le hi 0x10_FFFF)) ≡ true → is_scalar c ≡ false → (nat_le lo c && nat_le c hi) ≡ false
outside_range lo hi c h n = grind (arith, nat_tests)

outside_ranges : (rs : List Range) (c : ℕ) → list_all is_scalar_range rs ≡ true → is_scalar c ≡ false → in_ranges rs c ≡ false
unfolding in_ranges
outside_ranges [] c h n = refl
outside_ranges (r ∷ rs) c h n =
    let a = outside_range r.0 r.1 c (both-left (is_scalar_range r) (list_all is_scalar_range rs) h) n in
    let b = outside_ranges rs c (both-right (is_scalar_range r) (list_all is_scalar_range rs) h) n in
    rw a b

no_start : (c : ℕ) → is_scalar c ≡ false → is_id_start c ≡ false
unfolding is_id_start id_start_ranges
no_start c n = outside_ranges id_start_ranges c refl n

no_continue : (c : ℕ) → is_scalar c ≡ false → is_id_continue c ≡ false
unfolding is_id_continue id_continue_ranges
no_continue c n = outside_ranges id_continue_ranges c refl n

other : (d c : ℕ) → is_scalar d ≡ true → is_scalar c ≡ false → (Rattle.std.proofs.Common.◌==◌ d c) ≡ false
other d c h n = grind (arith, nat_tests)

beyond : (c : ℕ) → is_scalar c ≡ false → nat_lt c 128 ≡ false
beyond c n = grind (arith, nat_tests)

pub may_stand-scalar : (p : Position) (c : ℕ) → is_scalar c ≡ false → may_stand p c ≡ false
may_stand-scalar Start c n =
    let a = other 36 c refl n in
    let b = other 95 c refl n in
    let d = beyond c n in
    let e = no_start c n in
    rw (a, b, d) e
may_stand-scalar Part c n =
    let a = other 36 c refl n in
    let b = other 95 c refl n in
    let f = other 0x200C c refl n in
    let g = other 0x200D c refl n in
    let d = beyond c n in
    let e = no_continue c n in
    rw (a, b, f, g, d) e

pub no-scalar : (c : ℕ) → OutOfScalarRange c → is_scalar c ≡ false
no-scalar c (inl h) = grind (arith, nat_tests)
no-scalar c (inr h) = grind (arith, nat_tests)
