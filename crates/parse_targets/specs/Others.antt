-- Where an AssignmentExpression is neither an arrow function nor a YieldExpression (ECMA-262, 13.15).
use Rattle.std.specs.Prelude.{ℕ, List}
use Rattle.js_grammar.specs.Trees.{end}
use Rattle.js_grammar.specs.Grammar.{when}
use Rattle.js_grammar.specs.Follow.{after}
use Rattle.js_grammar.specs.Parsing.{Fails}
use Rattle.js_grammar.specs.Productions.{Flags, at, sym, Arrow', Assignment, Yield}
use Rattle.js_grammar.specs.Table.{rule}
use Rattle.parse_shared.specs.laws_shared.Answers.{Underived}
use Rattle.parse_shared.specs.laws_shared.Lexemes.{Lex}

-- no YieldExpression begins at the place, or Yield isn't in force
abbrev pub NoYield : List ℕ → Flags → ℕ → Type 0
NoYield text f s = Fails rule (Lex text) (after (at Assignment f)) end (when f.yield_ (sym Yield f)) s

-- nor does an arrow function
abbrev pub OnlyOthers : List ℕ → Flags → ℕ → Type 0
OnlyOthers text f s = Underived text (at Arrow' f) s × NoYield text f s
