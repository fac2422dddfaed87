-- Runs of the characters of names: what a scan of one has read, and that one run alone begins at a place.
use Rattle.std.proofs.Common.{◌≡◌, ◌+◌, ℕ, Bool, true, false, List, [], ◌∷◌, ◌++◌, refl, sym, ap, subst, ◌∙◌}
use Rattle.std.specs.Prelude.{IsCharBoundary, nat_lt}
use Rattle.std.specs.List.{list_all}
use Rattle.js_grammar.specs.Characters.{width, begins, is_identifier_part}
use Rattle.js_grammar.specs.LexicalFaults.{behind}
use Rattle.js_grammar.proofs.LongestLemmas.{both, both-left, both-right}
use Rattle.js_grammar.proofs.Finding.{all-append}
use Rattle.part_words.specs.Places.{Word}
use Rattle.part_words.specs.Faults.{is_part, PartsEnd}
use Rattle.part_words.specs.Names.{is_ascii_part, AsciiParts}
use Rattle.part_words.proofs.Places.{none_passed, then}

-- such characters stand between the places
pub record PartsRead (dots : Bool) (text : List ℕ) (i j : ℕ) : Type 0 where
  pub word : List ℕ
  pub stands : Word text i j word
  pub pass : list_all (is_part dots) word ≡ true

pub parts_none : (dots : Bool) (text : List ℕ) (i : ℕ) → IsCharBoundary text i → PartsRead dots text i i
parts_none dots text i b = record { word = []; stands = none_passed text i b; pass = refl }

pub parts_on : {dots : Bool} {text : List ℕ} {i j k c : ℕ} → PartsRead dots text i j → Word text j k (c ∷ []) → is_part dots c ≡ true → PartsRead dots text i k
parts_on {dots = dots} {c = c} r w f = record {
  word = r.word ++ c ∷ [];
  stands = then r.stands w;
  pass = all-append (is_part dots) r.word (c ∷ []) r.pass (both (is_part dots c) true f refl);
}

pub parts_stop : {dots : Bool} {text : List ℕ} {i j k c : ℕ} → PartsRead dots text i j → Word text j k (c ∷ []) → is_part dots c ≡ false → PartsEnd dots text i j
parts_stop {dots = dots} r w e = record { word = r.word; stands = r.stands; pass = r.pass; no_more = ap (begins (is_part dots)) w.splits ∙ e }

pub parts_all : {dots : Bool} {text : List ℕ} {i j : ℕ} → PartsRead dots text i j → behind text j ≡ [] → PartsEnd dots text i j
parts_all {dots = dots} r e = record { word = r.word; stands = r.stands; pass = r.pass; no_more = ap (begins (is_part dots)) e }

is_part_ascii : (dots : Bool) (c : ℕ) → is_ascii_part c ≡ true → is_part dots c ≡ true
is_part_ascii true c h = let e = both-right (nat_lt c 128) (is_identifier_part c) h in rw e refl
is_part_ascii false c h = both-right (nat_lt c 128) (is_identifier_part c) h

are_parts_ascii : (dots : Bool) (w : List ℕ) → list_all is_ascii_part w ≡ true → list_all (is_part dots) w ≡ true
are_parts_ascii dots [] h = refl
are_parts_ascii dots (c ∷ w) h = both (is_part dots c) (list_all (is_part dots) w) (is_part_ascii dots c (both-left (is_ascii_part c) (list_all is_ascii_part w) h)) (are_parts_ascii dots w (both-right (is_ascii_part c) (list_all is_ascii_part w) h))

-- the ASCII characters behind them, too
pub parts_ascii : {dots : Bool} {text : List ℕ} {i j k : ℕ} → PartsRead dots text i j → AsciiParts text j k → PartsRead dots text i k
parts_ascii {dots = dots} r a = record {
  word = r.word ++ a.word;
  stands = then r.stands a.stands;
  pass = all-append (is_part dots) r.word a.word r.pass (are_parts_ascii dots a.word a.parts);
}

-- of two runs from one place both end alike
run-same : (p : ℕ → Bool) (w rest v more : List ℕ) → w ++ rest ≡ v ++ more → list_all p w ≡ true → begins p rest ≡ false → list_all p v ≡ true → begins p more ≡ false → w ≡ v
run-same p [] rest [] more e a b d f = refl
run-same p [] rest (c ∷ v) more e a b d f = absurd (let g : begins p (c ∷ v ++ more) ≡ false = subst (λ (x : List ℕ). begins p x ≡ false) e b in let h = both-left (p c) (list_all p v) d in cc)
run-same p (c ∷ w) rest [] more e a b d f = absurd (let g : begins p (c ∷ w ++ rest) ≡ false = subst (λ (x : List ℕ). begins p x ≡ false) (sym e) f in let h = both-left (p c) (list_all p w) a in cc)
run-same p (c ∷ w) rest (x ∷ v) more e a b d f =
    let s : c ≡ x = cc in
    let t : w ++ rest ≡ v ++ more = cc in
    let g = run-same p w rest v more t (both-right (p c) (list_all p w) a) b (both-right (p x) (list_all p v) d) f in
    cc

pub parts_same : {dots : Bool} {text : List ℕ} {i j k : ℕ} → PartsEnd dots text i j → PartsEnd dots text i k → j ≡ k
parts_same {dots = dots} {text = text} {i = i} {j = j} {k = k} a b =
    let e = run-same (is_part dots) a.word (behind text j) b.word (behind text k) (sym a.stands.splits ∙ b.stands.splits) a.pass a.no_more b.pass b.no_more in
    a.stands.end ∙ ap (λ (v : List ℕ). i + width v) e ∙ sym b.stands.end

-- a run that begins with such a character isn't empty
pub parts_some : {dots : Bool} {text : List ℕ} {i j : ℕ} → begins (is_part dots) (behind text i) ≡ true → PartsEnd dots text i j → (c : ℕ) × (cs : List ℕ) × (j ≡ i + width (c ∷ cs))
parts_some {dots = dots} {text = text} {i = i} {j = j} h r = by r.word r.stands
  where
    by : (w : List ℕ) → Word text i j w → (c : ℕ) × (cs : List ℕ) × (j ≡ i + width (c ∷ cs))
    by [] w = absurd (let e : begins (is_part dots) (behind text i) ≡ begins (is_part dots) (behind text j) = ap (begins (is_part dots)) w.splits in let f = r.no_more in cc)
    by (c ∷ cs) w = (c, cs, w.end)
