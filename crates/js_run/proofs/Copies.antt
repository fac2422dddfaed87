-- Steps of the ends of a run.
use Rattle.std.proofs.Common.{ℕ, ◌≡◌, ◌+◌, ◌-◌, ◌≤◌, List, ◌++◌, length, take, drop, sym, ap, ◌∙◌, arith}
use Rattle.std.proofs.lemmas.List.{take-append-drop, drop-drop, length-take-le}
use Rattle.std.proofs.Math.Seq.{take-append_seam}
use Rattle.js_run.specs.Ends.{GivesNext}

-- A piece of bytes was copied to the front of a buffer.
pub copied : (bs now into piece left : List ℕ) (at n : ℕ) → drop at bs ≡ left → now ≡ bs → piece ≡ take (at + n - at) (drop at now) → n ≤ length left → GivesNext left (drop (at + n) bs) (piece ++ drop n into) n
copied bs now into piece left at n view same copy few =
    let k : at + n - at ≡ n = omega arith in
    let is : piece ≡ take n left = copy ∙ ap (λ m. take m (drop at now)) k ∙ ap (λ l. take n (drop at l)) same ∙ ap (take n) view in
    let count : length piece ≡ n = ap length is ∙ length-take-le n left few in
    let front : take n (piece ++ drop n into) ≡ piece = ap (λ m. take m (piece ++ drop n into)) (sym count) ∙ take-append_seam piece (drop n into) in
    let rest : drop n left ≡ drop (at + n) bs = ap (drop n) (sym view) ∙ drop-drop n at bs in
    record { front = sym (take-append-drop n left) ∙ ap (λ l. l ++ drop n left) (sym is ∙ sym front) ∙ ap (λ l. take n (piece ++ drop n into) ++ l) rest; count = ap length front ∙ count }
