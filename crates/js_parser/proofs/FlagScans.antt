-- The flags of a regular expression, character by character.
use Rattle.std.proofs.Common.{◌≡◌, ◌+◌, ◌<◌, ℕ, Bool, List, [], ◌∷◌, ◌++◌, length, drop, get_or, sym, ap, ◌∙◌, arith}
use Rattle.std.proofs.lemmas.List.{drop_more, length_push, drop_all}
use Rattle.js_parser.specs.FlagScans.{both_behind}
use Rattle.js_parser.specs.declared.flags.Read.{Read}

-- a step of the loop
pub read_turn : (cs ys : List ℕ) (whole : Bool) (a b : Read) (c : ℕ) → ((rest : List ℕ) → both_behind b rest ≡ both_behind a (c ∷ rest)) → (length ys < length cs) × (c ≡ get_or cs (length ys) c) → both_behind a (drop (length ys) cs) ≡ whole → both_behind b (drop (length (ys ++ c ∷ [])) cs) ≡ whole
read_turn cs ys whole a b c step t h =
    let n : length (ys ++ c ∷ []) ≡ length ys + 1 = length_push ys c in
    let d : drop (length ys) cs ≡ c ∷ drop (length ys + 1) cs = drop_more cs (length ys) c t.0 ∙ ap (λ (x : ℕ). x ∷ drop (length ys + 1) cs) (sym t.1) in
    ap (λ (k : ℕ). both_behind b (drop k cs)) n ∙ step (drop (length ys + 1) cs) ∙ ap (both_behind a) (sym d) ∙ h

pub read_end : (cs ys : List ℕ) (whole : Bool) (a : Read) → length ys ≡ length cs → both_behind a (drop (length ys) cs) ≡ whole → both_behind a [] ≡ whole
read_end cs ys whole a e h = ap (both_behind a) (sym (drop_all (length ys) cs (omega arith))) ∙ h
