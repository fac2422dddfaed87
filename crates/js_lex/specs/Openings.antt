-- What a character begins, and the end of the text.
use Rattle.std.specs.Prelude.{ℕ, false}
use Rattle.js_base.specs.declared.kind.Kind.TheVariants.{Eof}
use Rattle.part_words.specs.js_grammar.Lexemes as lexemes
use Rattle.part_words.specs.declared.scan.Scanned.{Scanned}
use Rattle.js_lex.specs.declared.plain_goal.Opening.{Opening}
use Rattle.js_lex.specs.declared.plain_goal.Opening.TheVariants as opens

abbrev pub opening_told : Opening → lexemes.Opening
opening_told opens.Name = lexemes.a_name
opening_told opens.Number = lexemes.a_number
opening_told opens.String = lexemes.a_string
opening_told opens.Template = lexemes.a_template
opening_told opens.PrivateName = lexemes.a_private_name
opening_told opens.Punctuator = lexemes.a_punctuator

abbrev pub end_at : ℕ → Scanned
end_at i = record { kind = Eof; end = i; escaped = false; has_separator = false }
