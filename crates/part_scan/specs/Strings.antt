-- What is known of the inside of a string while it is scanned (ECMA-262, 12.9.4).
use Rattle.std.specs.Prelude.{ℕ, ◌+◌, ◌≡◌, ◌≤◌, ◌⊎◌, Bool, true, false, not, ◌&&◌, ◌||◌, List, [], ◌∷◌, ◌++◌, ◌==◌}
use Rattle.std.specs.List.{list_all}
use Rattle.js_base.specs.part_text.Characters.{one_of}
use Rattle.js_base.specs.part_text.Escapes.{line_feeds}
use Rattle.part_words.specs.js_grammar.Characters.{begins}
use Rattle.part_words.specs.js_grammar.Strings.{nothing_left, closes_string}
use Rattle.part_words.specs.js_grammar.LexicalFaults.{behind, lacks_line_end}
use Rattle.part_scan.specs.declared.string.Inside.{Inside}
use Rattle.part_words.specs.Places.{Word}

-- The characters w don't close a string, and whether others behind them do, or end its line, is as if w weren't there.
pub record Within (quote : ℕ) (w rest : List ℕ) : Type 0 where
  pub closes : (v more : List ℕ) → rest ≡ v ++ more → closes_string quote false (line_feeds (w ++ v)) ≡ closes_string quote false (line_feeds v)
  pub lacks : (v more : List ℕ) → rest ≡ v ++ more → lacks_line_end false (line_feeds (w ++ v)) ≡ lacks_line_end false (line_feeds v)
  pub unclosed : (v more : List ℕ) → w ≡ v ++ more → closes_string quote false (line_feeds v) ≡ false

abbrev pub lacks_backslash : List ℕ → Bool
lacks_backslash = list_all (λ c. not (c == 92))

-- the byte is no quote and no line end
pub record IsInner (quote byte : ℕ) : Type 0 where
  pub no_quote : byte ≡ quote → ⊥
  pub no_line_feed : byte ≡ 10 → ⊥
  pub no_carriage : byte ≡ 13 → ⊥

-- one character stands between the places, ASCII as its byte says or above
pub record OneCharacter (text : List ℕ) (i byte j : ℕ) : Type 0 where
  pub character : ℕ
  pub word : Word text i j (character ∷ [])
  pub same : (character ≡ byte) ⊎ (128 ≤ character)

-- Behind a backslash: nothing at the end of the text, CR LF, or a character, but no CR before LF.
abbrev pub is_escaped_word : List ℕ → List ℕ → Bool
is_escaped_word [] rest = nothing_left rest
is_escaped_word (c ∷ []) rest = not (c == 13) || not (begins (λ d. d == 10) rest)
is_escaped_word (c ∷ d ∷ []) rest = (c == 13) && (d == 10)
is_escaped_word (c ∷ d ∷ e ∷ cs) rest = false

pub record Escapes (text : List ℕ) (i j : ℕ) : Type 0 where
  pub word : List ℕ
  pub stands : Word text i j word
  pub escaped : is_escaped_word word (behind text j) ≡ true

-- behind a CR: an LF, or nothing where none stands there
abbrev pub is_line_feed_word : List ℕ → List ℕ → Bool
is_line_feed_word [] rest = not (begins (λ d. d == 10) rest)
is_line_feed_word (c ∷ cs) rest = (c == 10) && nothing_left cs

pub record EndsLine (text : List ℕ) (i j : ℕ) : Type 0 where
  pub word : List ℕ
  pub stands : Word text i j word
  pub line_feed : is_line_feed_word word (behind text j) ≡ true

-- characters of the inside stand between the places
pub record Passes (quote : ℕ) (text : List ℕ) (i byte j : ℕ) : Type 0 where
  pub word : List ℕ
  pub stands : Word text i j word
  pub within : Within quote word (behind text j)
  pub plain : (byte ≡ 92 → ⊥) → lacks_backslash word ≡ true

-- the text or its line ends
abbrev pub ends_line : List ℕ → Bool
ends_line [] = true
ends_line (c ∷ cs) = one_of (10 ∷ 13 ∷ []) c

-- the inside of a string stands from a place on, as far as it goes
pub record IsInside (quote : ℕ) (text : List ℕ) (i : ℕ) (inside : Inside) : Type 0 where
  pub word : List ℕ
  pub stands : Word text i inside.end word
  pub within : Within quote word (behind text inside.end)
  pub plain : inside.has_backslash ≡ false → lacks_backslash word ≡ true
  pub closed : inside.is_closed ≡ true → begins (λ c. c == quote) (behind text inside.end) ≡ true
  pub ends : inside.is_closed ≡ false → ends_line (behind text inside.end) ≡ true

-- a closed string stands at the place i, and its inside ends at the place j
pub record StandsBetween (text : List ℕ) (i j : ℕ) : Type 0 where
  pub quote : ℕ
  pub inside : List ℕ
  pub is_quote : one_of (34 ∷ 39 ∷ []) quote ≡ true
  pub opens : Word text i (i + 1) (quote ∷ [])
  pub stands : Word text (i + 1) j inside
  pub within : Within quote inside (behind text j)
  pub closes : Word text j (j + 1) (quote ∷ [])
