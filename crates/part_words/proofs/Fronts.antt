-- Fronts of a text that are of a class, and the text's end.
use Rattle.std.proofs.Common.{◌≡◌, ◌<◌, ℕ, Bool, false, List, [], ◌∷◌, ◌++◌, refl, sym, ap, ◌∙◌, append_assoc, arith, length, drop, length-drop}
use Rattle.std.specs.List.{list_all}
use Rattle.std.proofs.lemmas.Bool.{and_right}
use Rattle.std.specs.Prelude.{encode_utf8_all, IsUtf8, IsCharBoundary}
use Rattle.std.proofs.lemmas.Str.{IsUtf8-drop, encodes-chars}
use Rattle.js_grammar.specs.LexicalFaults.{behind}
use Rattle.part_words.specs.Places.{Word}

-- what is known of all that goes on behind a front, one character on
pub onwards : {A : Type 0} (f g : List ℕ → A) (w : List ℕ) (c : ℕ) → ((v : List ℕ) → f (w ++ v) ≡ g v) → (v : List ℕ) → f ((w ++ c ∷ []) ++ v) ≡ g (c ∷ v)
onwards f g w c h v = ap f (append_assoc w (c ∷ []) v) ∙ h (c ∷ v)

-- nothing stands behind the text's end alone
pub ends_there : (text : List ℕ) (i : ℕ) → IsUtf8 text → IsCharBoundary text i → behind text i ≡ [] → i ≡ length text
ends_there text i u b e =
    let d : drop i text ≡ [] = sym (encodes-chars (drop i text) (IsUtf8-drop text i u b)) ∙ ap encode_utf8_all e in
    let l : length (drop i text) ≡ 0 = ap length d in
    let m = length-drop i text in
    let w = b.0 in
    omega arith

-- a character is passed
pub passes : {text : List ℕ} {i j c : ℕ} → Word text i j (c ∷ []) → i < j
passes {c = c} w = let e = w.end in let l = (Rattle.std.proofs.lemmas.Str.len_utf8_bounds c).0 in omega arith

-- a list with an element that fails
pub not_all : (t : ℕ → Bool) (w : List ℕ) (d : ℕ) (x : List ℕ) → t d ≡ false → list_all t (w ++ d ∷ x) ≡ false
not_all t [] d x h = rw h refl
not_all t (c ∷ w) d x h = and_right (t c) (list_all t (w ++ d ∷ x)) (not_all t w d x h)
