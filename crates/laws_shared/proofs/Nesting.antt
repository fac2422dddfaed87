-- Where less of the text is left, productions may nest.
use Rattle.std.proofs.Common.{ℕ, ◌<◌, ◌≤◌, List, length, ap, arith}
use Rattle.js_grammar.specs.Productions.{Flags}
use Rattle.js_cursor.specs.Parsers.{Parser}
use Rattle.laws_shared.specs.declared.nested.Nonterminal.{Nonterminal}
use Rattle.laws_shared.specs.Moves.{Moved}
use Rattle.laws_shared.specs.Nesting.{CanNest, room}
use Rattle.laws_shared.specs.States.{At, Same}

-- a lexeme was passed
pub nested_room : {text : List ℕ} {f : Flags} {p q : Parser} → At text f p → Moved text f p q → room q < room p
nested_room a m = let x = m.further in let y = a.behind in let z = a.at.between.0 in let g = m.same.follows.text in omega (arith, ap length g)

-- what is allowed here is allowed where less is left
pub nests_later : {can : Parser → Nonterminal → Type 0} {m n : ℕ} → CanNest can n → m ≤ n → CanNest can m
nests_later c l = λ q g a i. c q g a (omega arith)

-- behind what was read
pub later_room : {p q : Parser} → p.prev_token_end ≤ q.prev_token_end → Same p q → room q ≤ room p
later_room l s = let g = s.follows.text in omega (arith, ap length g)
