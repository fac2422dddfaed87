-- What the parse function of a SpreadElement answers (ECMA-262, 13.2.4, 13.2.5, 13.3.8), wherever it is an item.
use Rattle.std.specs.Prelude.{ℕ, List, Result, Ok, Err}
use Rattle.js_base.specs.declared.kind.Kind.TheVariants.{Dot3}
use Rattle.js_grammar.specs.Trees.{end, spread_element}
use Rattle.js_grammar.specs.Grammar.{◌▸◌}
use Rattle.js_grammar.specs.Parsing.{Fails}
use Rattle.js_grammar.specs.Productions.{G, Flags, mk, plus_in, tok, Assignment}
use Rattle.js_grammar.specs.Productions.{sym as symbol}
use Rattle.js_grammar.specs.Table.{rule}
use Rattle.laws_shared.specs.js_tree.declared.id.NodeId.{NodeId}
use Rattle.laws_shared.specs.js_cursor.Parsers.{Parser}
use Rattle.laws_shared.specs.js_cursor.declared.stop.Stop.{Stop}
use Rattle.laws_shared.specs.Answers.{Stops}
use Rattle.laws_shared.specs.Arguments.{PartTaken, behind_item}
use Rattle.laws_shared.specs.Lexemes.{Lex}
use Rattle.laws_shared.specs.States.{At}

abbrev pub spread : Flags → G
spread f = mk spread_element (tok Dot3 ▸ symbol Assignment (plus_in f))

-- a part of a list was read, before what may stand behind an item
abbrev pub PartOutcome : List ℕ → Flags → G → Parser → Parser → Result NodeId Stop → Type 0
PartOutcome text f g p q (Ok id) = PartTaken text f g p q id
PartOutcome text f g p q (Err e) = Stops p q e (Fails rule (Lex text) behind_item end g p.prev_token_end)

abbrev pub ReadsSpread : Parser → Parser → Result NodeId Stop → Type 0
ReadsSpread p q r = (text : List ℕ) (f : Flags) → At text f p → PartOutcome text f (spread f) p q r
