-- What the parse functions of array literals answer (ECMA-262, 13.2.4): elements and gaps, as far as they were read.
use Rattle.std.specs.Prelude.{ℕ, List, [], ◌∷◌, ◌++◌, Option, Some, Result, Ok, Err}
use Rattle.js_grammar.specs.Trees.{end}
use Rattle.js_grammar.specs.Grammar.{nothing}
use Rattle.js_grammar.specs.Parsing.{plain, full, Fails}
use Rattle.js_grammar.specs.Productions.{Flags}
use Rattle.js_grammar.specs.Table.{rule}
use Rattle.laws_shared.specs.js_tree.declared.id.NodeId.{NodeId}
use Rattle.laws_shared.specs.js_cursor.Parsers.{Parser}
use Rattle.laws_shared.specs.js_cursor.declared.stop.Stop.{Stop}
use Rattle.laws_shared.specs.Answers.{Stops}
use Rattle.laws_shared.specs.ArrayLiterals.{array_of, elements}
use Rattle.laws_shared.specs.Arguments.{Partway}
use Rattle.laws_shared.specs.Lexemes.{Lex}
use Rattle.laws_shared.specs.States.{At}

-- One more child, an element or a gap: what is left is elements too.
abbrev pub TakesElement : Parser → Parser → Result NodeId Stop → Type 0
TakesElement p q (Ok id) = (text : List ℕ) (f : Flags) → At text f p → (ids : List (Option NodeId)) → Partway text f (elements f) (elements f) p q ids (ids ++ Some id ∷ [])
TakesElement p q (Err e) = (text : List ℕ) (f : Flags) → At text f p → Stops p q e (Fails rule (Lex text) (plain full) end (elements f) p.prev_token_end)

-- the literal with its brackets
abbrev pub Elements : List (Option NodeId) → Parser → Parser → Type 0
Elements ids p q = (text : List ℕ) (f : Flags) → At text f p → Partway text f (array_of f) nothing p q [] ids

abbrev pub NoElements : Parser → Parser → Stop → Type 0
NoElements p q e = (text : List ℕ) (f : Flags) → At text f p → Stops p q e (Fails rule (Lex text) (plain full) end (array_of f) p.prev_token_end)
