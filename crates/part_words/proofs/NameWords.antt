-- Names at places of a text: the letters that are kept of them, and names of ASCII characters.
use Rattle.std.proofs.Common.{◌≡◌, ◌<◌, ◌≤◌, ℕ, ◌+◌, ◌-◌, ◌==◌, Bool, true, false, List, [], ◌∷◌, ◌++◌, refl, sym, ap, subst, ◌∙◌, not, ◌&&◌, ◌||◌, append_assoc, nat_lt, arith, length, length-append, take, drop}
use Rattle.std.specs.Prelude.{IsCharBoundary, IsUtf8, encode_utf8_all, slice_range}
use Rattle.std.specs.List.{list_all}
use Rattle.std.proofs.Math.Seq.{take-append_seam}
use Rattle.std.proofs.lemmas.Bool.Decides.{nat_tests}
use Rattle.std.proofs.lemmas.Str.{IsUtf8-drop, encode_ascii, encodes-chars}
use Rattle.js_base.specs.declared.kind.Kind.{Kind}
use Rattle.js_base.specs.declared.kind.Kind.TheVariants.{Ident}
use Rattle.js_base.specs.part_text.Escapes.{in_name}
use Rattle.js_base.specs.Keywords.{keyword_of}
use Rattle.js_grammar.specs.Characters.{is_identifier_start, is_identifier_part}
use Rattle.js_grammar.specs.Names.{is_plain_name, has_backslash}
use Rattle.js_grammar.specs.LexicalFaults.{behind}
use Rattle.js_grammar.proofs.LongestLemmas.{both-left, both-right, both}
use Rattle.js_grammar.proofs.Finding.{all-append, all-mono, neither-left, neither-right}
use Rattle.js_grammar.proofs.CoreFirst.{lt-true, lt-is}
use Rattle.js_grammar.proofs.CorePlain.{no_backslash, points-plain}
use Rattle.js_grammar.proofs.Runs.{ascii_width}
use Rattle.js_grammar.proofs.CoreNames.{no_backslash_has}
use Rattle.part_words.specs.declared.name.Letters.{Letters}
use Rattle.part_words.specs.declared.name.Piece.{Piece}
use Rattle.part_words.specs.Places.{Word, Peeks}
use Rattle.part_words.specs.Names.{Spells, NoFrontPasses, Holds, AsciiParts, AsciiName, IsPiece, IsName, is_ascii_part}
use Rattle.part_words.proofs.Places.{then}
use Rattle.part_words.proofs.Names.{spells-then, spells-plain, spells-whole, backslash-append, plain-more}
use Rattle.part_words.proofs.NameKinds.{long-front}

-- Of code points of which the letters hold no more, one more begins no word either.
pub other-more : (s : Letters) (ps qs : List ℕ) (p : ℕ) → Holds s ps → s.is_other ≡ true → keyword_of ((ps ++ p ∷ []) ++ qs) ≡ Ident
other-more s ps qs p h e = ap keyword_of (append_assoc ps (p ∷ []) qs) ∙ h.other e (p ∷ qs)

pub full-more : (s : Letters) (ps qs : List ℕ) (p : ℕ) → Holds s ps → s.is_other ≡ false → s.len ≡ 11 → keyword_of ((ps ++ p ∷ []) ++ qs) ≡ Ident
full-more s ps qs p h e l =
    let a = h.counted e in
    let c = length-append ps (p ∷ []) in
    long-front (ps ++ p ∷ []) qs (omega arith)

-- letters that hold nothing but that a name is no word
pub all-other : (s : Letters) (ps : List ℕ) → s.len ≤ 11 → ((qs : List ℕ) → keyword_of (ps ++ qs) ≡ Ident) → Holds (record { letters = s.letters; len = s.len; is_other = true }) ps
all-other s ps l f = record { short = l; counted = λ e. absurd (cc); held = λ e. absurd (cc); other = λ e qs. f qs }

-- the bytes of ASCII characters
encodes-ascii : (w r : List ℕ) → list_all (λ c. nat_lt c 128) w ≡ true → encode_utf8_all (w ++ r) ≡ w ++ encode_utf8_all r
encodes-ascii [] r h = refl
encodes-ascii (c ∷ w) r h =
    ap (λ (x : List ℕ). x ++ encode_utf8_all (w ++ r)) (encode_ascii c (lt-true c 128 (both-left (nat_lt c 128) (list_all (λ d. nat_lt d 128) w) h)))
    ∙ ap (λ (x : List ℕ). c ∷ x) (encodes-ascii w r (both-right (nat_lt c 128) (list_all (λ d. nat_lt d 128) w) h))

pub ascii-bytes : (text : List ℕ) (i j : ℕ) (w : List ℕ) → IsUtf8 text → IsCharBoundary text i → Word text i j w → list_all (λ c. nat_lt c 128) w ≡ true → slice_range text i j ≡ w
ascii-bytes text i j w u b s h =
    let e : drop i text ≡ w ++ encode_utf8_all (behind text j) = sym (encodes-chars (drop i text) (IsUtf8-drop text i u b)) ∙ ap encode_utf8_all s.splits ∙ encodes-ascii w (behind text j) h in
    let n : j - i ≡ length w = let a = s.end in let z = ascii_width w h in omega arith in
    ap (λ (m : ℕ). take m (drop i text)) n ∙ ap (λ (v : List ℕ). take (length w) v) e ∙ take-append_seam w (encode_utf8_all (behind text j))

-- Names of ASCII characters.
part-plain : (c : ℕ) → is_identifier_part c ≡ true → no_backslash c ≡ true
part-plain c h = go (c == 92) refl
  where
    go : (b : Bool) → (c == 92) ≡ b → not b ≡ true
    go true e = absurd (let s : c ≡ 92 = grind (arith, nat_tests) in let g : is_identifier_part 92 ≡ true = subst (λ (x : ℕ). is_identifier_part x ≡ true) s h in cc)
    go false e = refl

start-plain : (c : ℕ) → is_identifier_start c ≡ true → no_backslash c ≡ true
start-plain c h = go (c == 92) refl
  where
    go : (b : Bool) → (c == 92) ≡ b → not b ≡ true
    go true e = absurd (let s : c ≡ 92 = grind (arith, nat_tests) in let g : is_identifier_start 92 ≡ true = subst (λ (x : ℕ). is_identifier_start x ≡ true) s h in cc)
    go false e = refl

name-plain : (w : List ℕ) → is_plain_name w ≡ true → list_all no_backslash w ≡ true
name-plain [] h = refl
name-plain (c ∷ w) h = both (no_backslash c) (list_all no_backslash w) (start-plain c (both-left (is_identifier_start c) (list_all is_identifier_part w) h))
    (all-mono is_identifier_part no_backslash w part-plain (both-right (is_identifier_start c) (list_all is_identifier_part w) h))

all-plain : (w : List ℕ) → has_backslash w ≡ false → list_all no_backslash w ≡ true
all-plain [] h = refl
all-plain (c ∷ w) h =
    let a : (c == 92) ≡ false = neither-left (c == 92) (has_backslash w) h in
    let b = all-plain w (neither-right (c == 92) (has_backslash w) h) in
    rw a b

pub ascii-name : {text : List ℕ} {i j : ℕ} (k : Kind) → (a : AsciiName text i j) → NoFrontPasses is_identifier_part (behind text j) → k ≡ keyword_of a.word → IsName text i (record { kind = k; end = j; escaped = false })
ascii-name k a r e = record {
  word = a.word;
  points = a.word;
  stands = a.stands;
  spells = spells-plain a.word (name-plain a.word a.is);
  is = a.is;
  ends = r;
  kind = e;
  escaped = sym (no_backslash_has a.word (name-plain a.word a.is));
}

-- a name of which one ASCII character was read, and others behind it
one-letter : (w : List ℕ) (p : ℕ) → Spells w (p ∷ []) → has_backslash w ≡ false → w ≡ p ∷ []
one-letter w p s h = let a = spells-whole w (p ∷ []) s in let b = points-plain in_name w (all-plain w h) in cc

pub ascii-whole : {text : List ℕ} {i j : ℕ} {first : Piece} → IsPiece is_identifier_start text i first → first.code_point < 128 → first.escaped ≡ false → AsciiParts text first.end j → AsciiName text i j
ascii-whole {text = text} {i = i} {j = j} {first = first} f l n a =
    let same : f.word ≡ first.code_point ∷ [] = one-letter f.word first.code_point f.spells (sym f.escaped ∙ n) in
    record {
      word = first.code_point ∷ a.word;
      stands = subst (λ (v : List ℕ). Word text i j (v ++ a.word)) same (then f.stands a.stands);
      is = both (is_identifier_start first.code_point) (list_all is_identifier_part a.word) f.passes
          (all-mono is_ascii_part is_identifier_part a.word (λ c h. both-right (nat_lt c 128) (is_identifier_part c) h) a.parts);
      ascii = both (nat_lt first.code_point 128) (list_all (λ c. nat_lt c 128) a.word) (lt-is first.code_point 128 l)
          (all-mono is_ascii_part (λ c. nat_lt c 128) a.word (λ c h. both-left (nat_lt c 128) (is_identifier_part c) h) a.parts);
    }

-- a name that begins with an ASCII character
pub ascii-opened : {text : List ℕ} {i j b : ℕ} → Peeks text i b → (nat_lt b 128 && is_identifier_start b) ≡ true → AsciiParts text (i + 1) j → AsciiName text i j
ascii-opened {b = b} p h a =
    let low = both-left (nat_lt b 128) (is_identifier_start b) h in
    record {
      word = b ∷ a.word;
      stands = then (p.ascii (lt-true b 128 low)) a.stands;
      is = both (is_identifier_start b) (list_all is_identifier_part a.word) (both-right (nat_lt b 128) (is_identifier_start b) h)
          (all-mono is_ascii_part is_identifier_part a.word (λ c h. both-right (nat_lt c 128) (is_identifier_part c) h) a.parts);
      ascii = both (nat_lt b 128) (list_all (λ c. nat_lt c 128) a.word) low
          (all-mono is_ascii_part (λ c. nat_lt c 128) a.word (λ c h. both-left (nat_lt c 128) (is_identifier_part c) h) a.parts);
    }

-- ASCII characters of a name, as far as they are read
pub record AsciiRead (text : List ℕ) (i j : ℕ) : Type 0 where
  pub word : List ℕ
  pub stands : Word text i j word
  pub parts : list_all is_ascii_part word ≡ true

pub ascii-more : {text : List ℕ} {i j b : ℕ} → AsciiRead text i j → Peeks text j b → is_ascii_part b ≡ true → AsciiRead text i (j + 1)
ascii-more {b = b} a p h = record {
  word = a.word ++ b ∷ [];
  stands = then a.stands (p.ascii (lt-true b 128 (both-left (nat_lt b 128) (is_identifier_part b) h)));
  parts = all-append is_ascii_part a.word (b ∷ []) a.parts (both (is_ascii_part b) true h refl);
}

-- a name as far as it is read
pub record Read (text : List ℕ) (i j : ℕ) (s : Letters) (escaped : Bool) : Type 0 where
  pub word : List ℕ
  pub points : List ℕ
  pub stands : Word text i j word
  pub spells : Spells word points
  pub is : is_plain_name points ≡ true
  pub holds : Holds s points
  pub marked : escaped ≡ has_backslash word

pub no_letters : (s : Letters) → s.len ≡ 0 → s.is_other ≡ false → Holds s []
no_letters s l n = record { short = omega arith; counted = λ e. l; held = λ e. rw l refl; other = λ e. absurd (cc) }

pub read-first : {text : List ℕ} {i : ℕ} {s : Letters} {first : Piece} → IsPiece is_identifier_start text i first → Holds s (first.code_point ∷ []) → Read text i first.end s first.escaped
read-first {first = first} f h = record {
  word = f.word;
  points = first.code_point ∷ [];
  stands = f.stands;
  spells = f.spells;
  is = both (is_identifier_start first.code_point) true f.passes refl;
  holds = h;
  marked = f.escaped;
}

pub read-more : {text : List ℕ} {i j : ℕ} {s t : Letters} {escaped : Bool} {p : Piece} → Read text i j s escaped → IsPiece is_identifier_part text j p
    → ((ps : List ℕ) → Holds s ps → Holds t (ps ++ p.code_point ∷ [])) → Read text i p.end t (escaped || p.escaped)
read-more {escaped = escaped} {p = p} r f h = record {
  word = r.word ++ f.word;
  points = r.points ++ p.code_point ∷ [];
  stands = then r.stands f.stands;
  spells = spells-then r.word f.word r.points (p.code_point ∷ []) r.spells f.spells;
  is = plain-more r.points p.code_point r.is f.passes;
  holds = h r.points r.holds;
  marked = ap (λ (b : Bool). b || p.escaped) r.marked ∙ ap (λ (b : Bool). has_backslash r.word || b) f.escaped ∙ sym (backslash-append r.word f.word);
}

or-marked : (a b : Bool) → a ≡ true → (a || b) ≡ a
or-marked a b e = rw e refl

or-unmarked : (a b : Bool) → a ≡ false → (a || b) ≡ b
or-unmarked a b e = rw e refl

pub read-marked : {text : List ℕ} {i j : ℕ} {s t : Letters} {escaped : Bool} {p : Piece} → Read text i j s escaped → IsPiece is_identifier_part text j p
    → ((ps : List ℕ) → Holds s ps → Holds t (ps ++ p.code_point ∷ [])) → escaped ≡ true → Read text i p.end t escaped
read-marked {text = text} {i = i} {t = t} {escaped = escaped} {p = p} r f h e = subst (λ (b : Bool). Read text i p.end t b) (or-marked escaped p.escaped e) (read-more r f h)

pub read-unmarked : {text : List ℕ} {i j : ℕ} {s t : Letters} {escaped : Bool} {p : Piece} → Read text i j s escaped → IsPiece is_identifier_part text j p
    → ((ps : List ℕ) → Holds s ps → Holds t (ps ++ p.code_point ∷ [])) → escaped ≡ false → Read text i p.end t p.escaped
read-unmarked {text = text} {i = i} {t = t} {escaped = escaped} {p = p} r f h e = subst (λ (b : Bool). Read text i p.end t b) (or-unmarked escaped p.escaped e) (read-more r f h)
