-- A text with line feeds, character by character.
use Rattle.std.proofs.Common.{◌≡◌, ◌==◌, ◌&&◌, ◌+◌, ◌<◌, ℕ, Bool, true, false, List, [], ◌∷◌, ◌++◌, length, drop, get_or, sym, ap, ◌∙◌, arith, append_assoc, append-nil}
use Rattle.std.specs.Prelude.{encode_utf8, encode_utf8_all}
use Rattle.std.proofs.lemmas.List.{drop_more, length_push, drop_all}
use Rattle.std.proofs.lemmas.Bool.{ne_eqb}
use Rattle.js_base.specs.part_text.Escapes.{line_feeds_after}

-- a step of the loop
pub line-turn : (us vs cs ys whole : List ℕ) (a b : Bool) (c : ℕ)
    → ((rest : List ℕ) → vs ++ encode_utf8_all (line_feeds_after b rest) ≡ us ++ encode_utf8_all (line_feeds_after a (c ∷ rest)))
    → (length ys < length cs) × (c ≡ get_or cs (length ys) c)
    → us ++ encode_utf8_all (line_feeds_after a (drop (length ys) cs)) ≡ whole
    → vs ++ encode_utf8_all (line_feeds_after b (drop (length (ys ++ c ∷ [])) cs)) ≡ whole
line-turn us vs cs ys whole a b c step t h =
    let n : length (ys ++ c ∷ []) ≡ length ys + 1 = length_push ys c in
    let d : drop (length ys) cs ≡ c ∷ drop (length ys + 1) cs = drop_more cs (length ys) c t.0 ∙ ap (λ (x : ℕ). x ∷ drop (length ys + 1) cs) (sym t.1) in
    ap (λ (k : ℕ). vs ++ encode_utf8_all (line_feeds_after b (drop k cs))) n ∙ step (drop (length ys + 1) cs) ∙ ap (λ (x : List ℕ). us ++ encode_utf8_all (line_feeds_after a x)) (sym d) ∙ h

pub line-end : (us cs ys whole : List ℕ) (a : Bool) → length ys ≡ length cs → us ++ encode_utf8_all (line_feeds_after a (drop (length ys) cs)) ≡ whole → us ≡ whole
line-end us cs ys whole a e h = sym (append-nil us) ∙ ap (λ (x : List ℕ). us ++ encode_utf8_all (line_feeds_after a x)) (sym (drop_all (length ys) cs (omega arith))) ∙ h

-- the three kinds of characters
pub carriage : (a : Bool) (c : ℕ) (rest : List ℕ) → (c == 13) ≡ true → line_feeds_after a (c ∷ rest) ≡ 10 ∷ line_feeds_after true rest
carriage a c rest e = ap (λ (b : Bool). elim b [ true ↦ 10 ∷ line_feeds_after true rest | false ↦ elim (a && (c == 10)) [ true ↦ line_feeds_after false rest | false ↦ c ∷ line_feeds_after false rest ] ]) e

pub feed_behind : (a : Bool) (c : ℕ) (rest : List ℕ) → (c == 13) ≡ false → (a && (c == 10)) ≡ true → line_feeds_after a (c ∷ rest) ≡ line_feeds_after false rest
feed_behind a c rest e f = ap (λ (b : Bool). elim b [ true ↦ 10 ∷ line_feeds_after true rest | false ↦ elim (a && (c == 10)) [ true ↦ line_feeds_after false rest | false ↦ c ∷ line_feeds_after false rest ] ]) e ∙ ap (λ (b : Bool). elim b [ true ↦ line_feeds_after false rest | false ↦ c ∷ line_feeds_after false rest ]) f

pub other : (a : Bool) (c : ℕ) (rest : List ℕ) → (c == 13) ≡ false → (a && (c == 10)) ≡ false → line_feeds_after a (c ∷ rest) ≡ c ∷ line_feeds_after false rest
other a c rest e f = ap (λ (b : Bool). elim b [ true ↦ 10 ∷ line_feeds_after true rest | false ↦ elim (a && (c == 10)) [ true ↦ line_feeds_after false rest | false ↦ c ∷ line_feeds_after false rest ] ]) e ∙ ap (λ (b : Bool). elim b [ true ↦ line_feeds_after false rest | false ↦ c ∷ line_feeds_after false rest ]) f

-- a character that counts as itself, at the end
pub pushed : (us vs cs : List ℕ) (a : Bool) (c : ℕ) → (c ≡ 13 → ⊥) → (a && (c == 10)) ≡ false → vs ≡ us ++ encode_utf8 c → vs ++ encode_utf8_all (line_feeds_after (c == 13) cs) ≡ us ++ encode_utf8_all (line_feeds_after a (c ∷ cs))
pushed us vs cs a c n f h =
    let e : (c == 13) ≡ false = ne_eqb c 13 n in
    ap (λ (b : Bool). vs ++ encode_utf8_all (line_feeds_after b cs)) e ∙ ap (λ (x : List ℕ). x ++ encode_utf8_all (line_feeds_after false cs)) h ∙ append_assoc us (encode_utf8 c) (encode_utf8_all (line_feeds_after false cs)) ∙ ap (λ (x : List ℕ). us ++ encode_utf8_all x) (sym (other a c cs e f))
