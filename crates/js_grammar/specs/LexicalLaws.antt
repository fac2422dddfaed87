-- Laws of the lexemes of a text.
use Rattle.std.specs.Prelude.{ℕ, List, [], ◌∷◌, ◌≡◌, ◌||◌, ◌⊎◌, IsUtf8, IsTrue, codes}
use Rattle.std.specs.Str.{byte}
use Rattle.unicode.specs.Binary.{is_id_start, is_id_continue}
use Rattle.ucd_category.specs.GeneralCategory.{general_category, general_category_eq}
use Rattle.ucd_category.specs.declared.GeneralCategory.TheVariants.{SpaceSeparator}
use Rattle.js_base.specs.part_text.Characters.{one_of}
use Rattle.js_grammar.specs.Characters.{is_white_space, is_identifier_start, is_identifier_part}
use Rattle.js_grammar.specs.Grammar.{Lexeme, Lexemes}
use Rattle.js_grammar.specs.Lexed.{Lexes}
use Rattle.js_grammar.specs.Lexed.{Passing, all_faults, NextLexeme, Stands, Lexed, end_of, join}
use Rattle.js_grammar.specs.Settings.{Goal}
use Rattle.js_grammar.specs.CoreTexts.{CoreSource}

-- a part, and another from its end on, are one part together
abbrev pub Joining : Type 0
Joining = (passing : Passing) (text : List ℕ) (s : ℕ) (ls ms : Lexemes) → Lexes (NextLexeme passing text) s ls → Lexes (NextLexeme passing text) (end_of ls) ms → Lexes (NextLexeme passing text) s (join ls ms)

-- a part that is cut behind a lexeme is two parts, of which the second begins where the first ends
abbrev pub Cutting : Type 0
Cutting = (passing : Passing) (text : List ℕ) (s : ℕ) (ls ms : Lexemes) → Lexes (NextLexeme passing text) s (join ls ms) → Lexes (NextLexeme passing text) s ls × Lexes (NextLexeme passing text) (end_of ls) ms

-- one list of lexemes, and no other, whichever the goal
pub record OneList (text : List ℕ) : Type 0 where
  pub lexemes : Lexemes
  pub lexed : (goal : Goal) → Lexed goal text lexemes
  pub only : (goal : Goal) (ls : Lexemes) → Lexed goal text ls → ls ≡ lexemes

-- a core text has one list of lexemes, the same at every goal
abbrev pub CoreText : Type 0
CoreText = (text : List ℕ) → IsUtf8 text → CoreSource text → OneList text

-- the classes of characters in the standard's words, by the tables of Unicode alone
pub record CharacterClasses : Type 0 where
  pub white_space : (c : ℕ) → is_white_space c ≡ (one_of (byte "\t" ∷ byte "\u{b}" ∷ byte "\u{c}" ∷ 0xFEFF ∷ []) c || general_category_eq (general_category c) SpaceSeparator)
  pub identifier_start : (c : ℕ) → is_identifier_start c ≡ (is_id_start c || one_of (codes "$_") c)
  pub identifier_part : (c : ℕ) → is_identifier_part c ≡ (is_id_continue c || one_of (byte "$" ∷ 0x200C ∷ 0x200D ∷ []) c)

-- faults aside, the marks of diagnostics allow what texts allow
abbrev pub Leniency : Type 0
Leniency = (passing : Passing) (text : List ℕ) (s : ℕ) (y : Lexeme) → NextLexeme passing text s y → NextLexeme all_faults text s y

-- behind trivia, a slash or a right brace stands
pub record AtSlashOrBrace (text : List ℕ) (s : ℕ) : Type 0 where
  pub pieces : List (List ℕ)
  pub first : ℕ
  pub others : List ℕ
  pub stands : Stands text s pieces [] (first ∷ others)
  pub is : IsTrue (one_of (codes "/}") first)

-- nothing else is left to choice, whichever faults pass
abbrev pub Choice : Type 0
Choice = (p q : Passing) (text : List ℕ) (s : ℕ) (y z : Lexeme) → NextLexeme p text s y → NextLexeme q text s z → (y ≡ z) ⊎ AtSlashOrBrace text s
