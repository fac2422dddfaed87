-- What the parse function of where imports and exports come from answers (ECMA-262, 16.2.2).
use Rattle.std.specs.Prelude.{ℕ, List, [], ◌∷◌, Some, Result, Ok, Err}
use Rattle.js_grammar.specs.Grammar.{nothing}
use Rattle.js_grammar.specs.Parsing.{plain, full, Fails}
use Rattle.js_grammar.specs.Productions.{Flags}
use Rattle.js_grammar.specs.Table.{rule, source}
use Rattle.js_grammar.specs.Trees.{end}
use Rattle.laws_shared.specs.js_cursor.Parsers.{Parser}
use Rattle.laws_shared.specs.js_cursor.declared.stop.Stop.{Stop}
use Rattle.laws_shared.specs.Answers.{Stops}
use Rattle.laws_shared.specs.Arguments.{Partway}
use Rattle.laws_shared.specs.Lexemes.{Lex}
use Rattle.laws_shared.specs.States.{At}
use Rattle.laws_modules.specs.declared.forms.ModuleSource.{ModuleSource}

abbrev pub NoSource : List ℕ → Flags → ℕ → Type 0
NoSource text f s = Fails rule (Lex text) (plain full) end (source f) s

-- the string that names a module, its attributes or none, and a semicolon, written or left out
abbrev pub ReadsSource : Parser → Parser → Result ModuleSource Stop → Type 0
ReadsSource p q (Ok s) = (text : List ℕ) (f : Flags) → At text f p → Partway text f (source f) nothing p q [] (Some s.specifier ∷ s.attributes ∷ [])
ReadsSource p q (Err e) = (text : List ℕ) (f : Flags) → At text f p → Stops p q e (NoSource text f p.prev_token_end)
