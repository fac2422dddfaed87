-- One stretch of a grammar behind another.
use Rattle.std.proofs.Common.{ℕ, ◌≤◌, max, List, arith}
use Rattle.js_grammar.specs.Trees.{Slots}
use Rattle.js_grammar.specs.Grammar.{Lexemes}
use Rattle.js_grammar.specs.Parsing.{plain, full}
use Rattle.js_grammar.specs.Productions.{G}
use Rattle.js_grammar.proofs.Calculus.{◌▹◌}
use Rattle.laws_shared.specs.Answers.{Stretch}

pub stretches : {text : List ℕ} {g g' g'' : G} {s s' s'' : ℕ} {h i : Slots → Slots} {pass more : Lexemes → Lexemes} → Stretch text (plain full) g s g' s' h pass → Stretch text (plain full) g' s' g'' s'' i more → s' ≤ s'' → Stretch text (plain full) g s g'' s'' (λ us. h (i us)) (λ ls. pass (more ls))
stretches a b o = record { reach = max a.reach b.reach; near = let i = a.near in let j = b.near in omega arith; goes = a.goes ▹ b.goes }
