-- A word is the candidate that the table tells, or no word of the keyword table.
use Rattle.std.proofs.Common.{◌≡◌, ◌<◌, ◌≤◌, ℕ, ◌+◌, ◌*◌, Bool, true, false, List, refl, sym, ap, ◌∙◌, not, ◌&&◌, length, arith, slice_index}
use Rattle.std.specs.Prelude.{nat_le, ◌%◌, if◌then◌else◌}
use Rattle.std.specs.Str.{bytes_eq}
use Rattle.std.proofs.lemmas.Bool.Decides.{nat_tests}
use Rattle.std.proofs.lemmas.Slice.Eq.{bytes_eq-Decides}
use Rattle.js_base.specs.declared.kind.Kind.{Kind}
use Rattle.js_base.specs.declared.kind.Kind.TheVariants.{Ident}
use Rattle.js_base.specs.Kinds.{same_kind}
use Rattle.js_base.specs.Texts.{text_of, words}
use Rattle.js_base.specs.Keywords.{keyword_of}
use Rattle.js_base.proofs.KindLemmas.{kind_of_same}
use Rattle.part_words.specs.Words.{candidate, word_in}
use Rattle.part_words.proofs.NameKinds.{unlike}
use Rattle.part_words.proofs.ByteClasses.{agree}

own_slots : (i : ℕ) → i < 512 → same_kind (keyword_of (text_of (word_in i))) (word_in i) ≡ true
unfolding keyword_of words
own_slots i l = agree 512 (λ n. same_kind (keyword_of (text_of (word_in n))) (word_in n)) (λ n. true) refl i l

own_name : keyword_of (text_of Ident) ≡ Ident
unfolding keyword_of words
own_name = kind_of_same (keyword_of (text_of Ident)) Ident refl

own : (w : List ℕ) → keyword_of (text_of (candidate w)) ≡ candidate w
own w = go (nat_le 2 (length w) && nat_le (length w) 11)
  where
    i : ℕ
    i = (slice_index w 0 + 20 * slice_index w 1 + 27 * length w) % 512

    go : (b : Bool) → keyword_of (text_of (if b then word_in i else Ident)) ≡ (if b then word_in i else Ident)
    go true = kind_of_same (keyword_of (text_of (word_in i))) (word_in i) (own_slots i (omega arith))
    go false = own_name

-- no candidate
pub no_candidate : (w : List ℕ) → candidate w ≡ Ident → keyword_of w ≡ Ident
unfolding keyword_of words
no_candidate w e = unlike (λ v. not (same_kind Ident (candidate v))) words w refl (ap (λ (k : Kind). not (same_kind Ident k)) e)

-- another word than the candidate
other_word : (w : List ℕ) → bytes_eq (text_of (candidate w)) w ≡ false → keyword_of w ≡ Ident
unfolding keyword_of words
other_word w e = unlike (λ v. bytes_eq (text_of (candidate v)) v) words w refl e

-- the candidate, or not, as its text tells
pub candidate_word : (k : Kind) (v w : List ℕ) → k ≡ candidate w → v ≡ text_of k → bytes_eq v w ≡ true → k ≡ keyword_of w
candidate_word k v w e f h =
    let t : text_of (candidate w) ≡ w = ap text_of (sym e) ∙ sym f ∙ (bytes_eq-Decides v w).0 h in
    e ∙ sym (own w) ∙ ap keyword_of t

pub another_word : (k : Kind) (v w : List ℕ) → k ≡ candidate w → v ≡ text_of k → bytes_eq v w ≡ false → Ident ≡ keyword_of w
another_word k v w e f h = sym (other_word w (ap (λ (u : List ℕ). bytes_eq u w) (sym (f ∙ ap text_of e)) ∙ h))

pub short_enough : (w : List ℕ) → 2 ≤ length w → length w ≤ 11 → candidate w ≡ word_in ((slice_index w 0 + 20 * slice_index w 1 + 27 * length w) % 512)
short_enough w a b =
    let c : nat_le 2 (length w) ≡ true = grind (arith, nat_tests) in
    let d : nat_le (length w) 11 ≡ true = grind (arith, nat_tests) in
    rw (c, d) refl
