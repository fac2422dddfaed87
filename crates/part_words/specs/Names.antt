-- How a name is read, one code point after the other (ECMA-262, 12.7).
use Rattle.std.specs.Prelude.{ℕ, ◌≡◌, ◌<◌, ◌≤◌, Bool, true, false, not, ◌&&◌, List, [], ◌∷◌, ◌++◌, Option, Some, None, length, take, nat_lt}
use Rattle.std.specs.List.{list_all}
use Rattle.js_base.specs.declared.kind.Kind.TheVariants.{Ident}
use Rattle.js_base.specs.part_text.Escapes.{in_name, code_points, before_all}
use Rattle.js_base.specs.Keywords.{keyword_of}
use Rattle.js_grammar.specs.Characters.{is_identifier_start, is_identifier_part, begins}
use Rattle.js_grammar.specs.Names.{is_plain_name, has_backslash}
use Rattle.js_grammar.specs.LexicalFaults.{behind}
use Rattle.part_words.specs.declared.name.Position.{Position}
use Rattle.part_words.specs.declared.name.Position.TheVariants.{Start, Part}
use Rattle.part_words.specs.declared.name.Escape.{Escape}
use Rattle.part_words.specs.declared.name.Piece.{Piece}
use Rattle.part_words.specs.declared.name.Letters.{Letters}
use Rattle.part_words.specs.declared.name.Name.{Name}
use Rattle.part_words.specs.Places.{Word}

-- IdentifierStartChar, IdentifierPartChar (12.7)
abbrev pub may_stand : Position → ℕ → Bool
may_stand Start c = is_identifier_start c
may_stand Part c = is_identifier_part c

-- The characters stand for these code points, whatever stands behind them.
abbrev pub Spells : List ℕ → List ℕ → Type 0
Spells w ps = (v : List ℕ) → code_points in_name (w ++ v) ≡ before_all ps (code_points in_name v)

-- no code points, or the first of them doesn't pass
abbrev pub is_refused : (ℕ → Bool) → Option (List ℕ) → Bool
is_refused test None = true
is_refused test (Some []) = false
is_refused test (Some (p ∷ ps)) = not (test p)

-- No front of the characters stands for code points of which the first passes.
abbrev pub NoFrontPasses : (ℕ → Bool) → List ℕ → Type 0
NoFrontPasses test cs = (c : ℕ) (x more : List ℕ) → cs ≡ c ∷ x ++ more → is_refused test (code_points in_name (c ∷ x)) ≡ true

-- No front of the characters but the empty one and the whole stands for code points.
abbrev pub Unfinished : List ℕ → Type 0
Unfinished w = (c : ℕ) (x : List ℕ) (d : ℕ) (more : List ℕ) → w ≡ c ∷ x ++ d ∷ more → code_points in_name (c ∷ x) ≡ None

-- an escape sequence stands at the place
pub record IsEscape (text : List ℕ) (i : ℕ) (e : Escape) : Type 0 where
  pub word : List ℕ
  pub stands : Word text i e.end word
  pub spells : Spells word (e.code_point ∷ [])
  pub unfinished : Unfinished word
  pub escaped : has_backslash word ≡ true
  pub some : i < e.end

-- a character or an escape sequence stands at the place, and its code point passes
pub record IsPiece (test : ℕ → Bool) (text : List ℕ) (i : ℕ) (p : Piece) : Type 0 where
  pub word : List ℕ
  pub stands : Word text i p.end word
  pub spells : Spells word (p.code_point ∷ [])
  pub passes : test p.code_point ≡ true
  pub escaped : p.escaped ≡ has_backslash word
  pub some : i < p.end

-- an ASCII character of a name
abbrev pub is_ascii_part : ℕ → Bool
is_ascii_part c = nat_lt c 128 && is_identifier_part c

-- ASCII characters of a name, and no more of them
pub record AsciiParts (text : List ℕ) (i j : ℕ) : Type 0 where
  pub word : List ℕ
  pub stands : Word text i j word
  pub parts : list_all is_ascii_part word ≡ true
  pub stops : begins is_ascii_part (behind text j) ≡ false

-- a name of ASCII characters alone
pub record AsciiName (text : List ℕ) (i j : ℕ) : Type 0 where
  pub word : List ℕ
  pub stands : Word text i j word
  pub is : is_plain_name word ≡ true
  pub ascii : list_all (λ c. nat_lt c 128) word ≡ true

-- such a name, behind which no name goes on
pub record IsAsciiName (text : List ℕ) (i j : ℕ) : Type 0 where
  pub name : AsciiName text i j
  pub ends : NoFrontPasses is_identifier_part (behind text j)

-- The letters hold the code points; else no word of the keyword table begins with these.
pub record Holds (s : Letters) (ps : List ℕ) : Type 0 where
  pub short : s.len ≤ 11
  pub counted : s.is_other ≡ false → s.len ≡ length ps
  pub held : s.is_other ≡ false → take s.len s.letters ≡ ps
  pub other : s.is_other ≡ true → (qs : List ℕ) → keyword_of (ps ++ qs) ≡ Ident

-- The longest name that stands at the place.
pub record IsName (text : List ℕ) (i : ℕ) (n : Name) : Type 0 where
  pub word : List ℕ
  pub points : List ℕ
  pub stands : Word text i n.end word
  pub spells : Spells word points
  pub is : is_plain_name points ≡ true
  pub ends : NoFrontPasses is_identifier_part (behind text n.end)
  pub kind : n.kind ≡ keyword_of points
  pub escaped : n.escaped ≡ has_backslash word
