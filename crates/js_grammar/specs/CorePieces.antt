-- The lexemes of a core text, by its pieces: each but the blanks is one, and behind the last stands the end.
use Rattle.std.specs.Prelude.{ℕ, ◌+◌, Bool, true, false, ◌&&◌, ◌||◌, List, [], ◌∷◌, bytes_eq, unwrap_or}
use Rattle.std.specs.List.{find}
use Rattle.js_base.specs.declared.kind.Kind.{Kind}
use Rattle.js_base.specs.declared.kind.Kind.TheVariants.{Str, Decimal, Eof}
use Rattle.js_base.specs.Texts.{text_of}
use Rattle.js_base.specs.Keywords.{keyword_of}
use Rattle.js_base.specs.part_text.Escapes.{code_units}
use Rattle.js_grammar.specs.Characters.{width, has_line_terminator}
use Rattle.js_grammar.specs.Longest.{joined}
use Rattle.js_grammar.specs.Grammar.{Lexeme, Lexemes, last, next}
use Rattle.js_grammar.specs.Strings.{string_inside}
use Rattle.js_grammar.specs.Lexemes.{may_precede}
use Rattle.js_grammar.specs.CoreTexts.{is_core_blank, is_ascii_name, is_core_number, is_core_string, core_punctuators}

-- the kind of a piece that is no blank, before the rest
abbrev pub piece_kind : List ℕ → List ℕ → Kind
piece_kind w rest =
    elim (is_ascii_name w) [
      | true ↦ keyword_of w
      | false ↦
          elim (is_core_number w) [
            | true ↦ Decimal
            | false ↦
                elim (is_core_string w) [ true ↦ Str | false ↦ unwrap_or (find (λ k. bytes_eq (text_of k) w && may_precede k rest) core_punctuators) Eof ]
          ]
    ]

-- the code units that a name or a string stands for; of any other piece none
abbrev pub piece_units : List ℕ → List ℕ
piece_units w = elim (is_ascii_name w) [ true ↦ code_units w | false ↦ elim (is_core_string w) [ true ↦ code_units (string_inside w) | false ↦ [] ] ]

-- the lexeme of a piece at a place, and the end; `newline`: a line break stands before it
abbrev pub piece_lexeme : ℕ → Bool → List ℕ → List ℕ → Lexeme
piece_lexeme i newline w rest = record { kind = piece_kind w rest; from = i; to = i + width w; newline = newline; escaped = false; units = piece_units w }

abbrev pub end_lexeme : ℕ → Bool → Lexeme
end_lexeme i newline = record { kind = Eof; from = i; to = i; newline = newline; escaped = false; units = [] }

abbrev pub lexemes_from : ℕ → Bool → List (List ℕ) → Lexemes
lexemes_from i newline [] = last (end_lexeme i newline)
lexemes_from i newline (p ∷ ps) =
    elim (is_core_blank p) [
      | true ↦ lexemes_from (i + width p) (newline || has_line_terminator p) ps
      | false ↦ next (piece_lexeme i newline p (joined ps)) (lexemes_from (i + width p) false ps)
    ]

abbrev pub piece_lexemes : List (List ℕ) → Lexemes
piece_lexemes ps = lexemes_from 0 false ps
