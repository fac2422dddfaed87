-- Flags that stand one behind the other.
use Rattle.std.proofs.Common.{◌≡◌, ◌≤◌, ℕ, List, [], ◌∷◌, ◌++◌, sym, ap, ◌∙◌, drop, arith}
use Rattle.std.specs.Prelude.{chars, slice_range, IsUtf8, IsCharBoundary}
use Rattle.std.proofs.lemmas.Str.{IsUtf8-between, chars-append}
use Rattle.std.proofs.lemmas.List.{append_cancel_right}
use Rattle.std.proofs.lemmas.List.Folds.{drop_split}
use Rattle.js_grammar.specs.LexicalFaults.{behind}
use Rattle.part_words.specs.Places.{Word}

-- the characters that stand between two places are those that the bytes between them spell
pub spelled : (text : List ℕ) (i j : ℕ) (w : List ℕ) → IsUtf8 text → IsCharBoundary text i → i ≤ j → Word text i j w → chars (slice_range text i j) ≡ w
spelled text i j w u b o s =
    let piece : IsUtf8 (slice_range text i j) = IsUtf8-between text i j u o b s.boundary in
    append_cancel_right (chars (slice_range text i j)) w (behind text j) (sym (chars-append (slice_range text i j) (drop j text) piece) ∙ ap chars (sym (drop_split text i j o)) ∙ s.splits)

-- Of characters that stand between two places, the first one ends where the others begin.
pub others_stand : {text : List ℕ} {i j k c d : ℕ} {rest : List ℕ} → Word text i j (c ∷ []) → Word text i k (d ∷ rest) → (c ≡ d) × Word text j k rest
others_stand {text = text} {i = i} {j = j} {k = k} {c = c} {d = d} {rest = rest} a b =
    let both : c ∷ behind text j ≡ d ∷ (rest ++ behind text k) = sym a.splits ∙ b.splits in
    let same : c ≡ d = cc in
    let left : behind text j ≡ rest ++ behind text k = cc in
    let f = a.end in
    let g = b.end in
    let n = ap Rattle.std.specs.Char.len_utf8 same in
    (same, record { boundary = b.boundary; splits = left; end = omega arith })
