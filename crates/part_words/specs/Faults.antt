-- Which fault is told where no lexeme stands, and how far its span goes. The marks of faults leave both open: two of them may hold at one place, and an ill-formed escape or number has no end of its own.
use Rattle.std.specs.Prelude.{ℕ, ◌+◌, ◌≡◌, ◌==◌, Bool, true, false, ◌||◌, List, [], ◌∷◌, IsTrue}
use Rattle.std.specs.Str.{byte}
use Rattle.std.specs.List.{list_all}
use Rattle.js_base.specs.part_text.Characters.{is_decimal}
use Rattle.js_base.specs.declared.diagnostic.DiagnosticKind.{DiagnosticKind}
use Rattle.js_base.specs.declared.diagnostic.DiagnosticKind.TheVariants as fault
use Rattle.js_grammar.specs.Characters.{is_identifier_part, begins}
use Rattle.js_grammar.specs.Longest.{none_begins}
use Rattle.js_grammar.specs.Lexemes.{Opening, opening, a_name, a_number, a_string, a_template, a_private_name, a_punctuator}
use Rattle.js_grammar.specs.LexicalFaults.{behind, is_closed_string}
use Rattle.part_words.specs.Places.{Word}

-- of a character that may begin a punctuator
abbrev pub stray_kind : ℕ → List ℕ → DiagnosticKind
stray_kind c cs =
    elim (c == byte "/") [
      | true ↦ elim (begins (λ d. d == byte "*") cs) [ true ↦ fault.UnterminatedComment | false ↦ fault.UnterminatedRegexp ]
      | false ↦
          elim (c == byte "}") [
            | true ↦ fault.UnterminatedTemplate
            | false ↦ elim (c == 0xFFFD) [ true ↦ fault.BinaryFile | false ↦ fault.InvalidCharacter ]
          ]
    ]

-- of characters by what the first begins: that a string has no end is told before its escapes, and an escape behind `#` before the `#`
abbrev pub kind_of_fault : Opening → ℕ → List ℕ → DiagnosticKind
kind_of_fault a_name c cs = fault.InvalidEscape
kind_of_fault a_number c cs = fault.InvalidNumber
kind_of_fault a_string c cs = elim (none_begins is_closed_string (c ∷ cs)) [ true ↦ fault.UnterminatedString | false ↦ fault.InvalidEscape ]
kind_of_fault a_template c cs = fault.UnterminatedTemplate
kind_of_fault a_private_name c cs = elim (begins (λ d. d == byte "\\") cs) [ true ↦ fault.InvalidEscape | false ↦ fault.InvalidCharacter ]
kind_of_fault a_punctuator c cs = stray_kind c cs

-- the kind of the fault, of the characters from the place on at which a lexeme was due; some stand there
abbrev pub fault_kind : List ℕ → DiagnosticKind
fault_kind [] = fault.InvalidCharacter
fault_kind (c ∷ cs) = kind_of_fault (opening c (begins is_decimal cs)) c cs

-- IdentifierPartChar (12.7); with `dots`, a dot too
abbrev pub is_part : Bool → ℕ → Bool
is_part true c = is_identifier_part c || (c == byte ".")
is_part false c = is_identifier_part c

-- such characters stand between the places, and none behind them
pub record PartsEnd (dots : Bool) (text : List ℕ) (i j : ℕ) : Type 0 where
  pub word : List ℕ
  pub stands : Word text i j word
  pub pass : IsTrue (list_all (is_part dots) word)
  pub no_more : begins (is_part dots) (behind text j) ≡ false

-- The span of an ill-formed escape is its backslash and the characters of a name behind it; that of an ill-formed number, its characters of a name and dots. The other marks have an end.
abbrev pub Reaches : DiagnosticKind → List ℕ → ℕ → ℕ → Type 0
Reaches fault.InvalidEscape text from to = PartsEnd false text (from + 1) to
Reaches fault.InvalidNumber text from to = PartsEnd true text from to
Reaches _ text from to = Unit {0}
