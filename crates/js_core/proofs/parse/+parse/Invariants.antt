use Rattle.parse_shared.specs.laws_shared.Nesting.{room}
use Rattle.js_core.proofs.parse.+parse.Given as goal

abbrev pub decreases-parse : goal.decreases-parse
decreases-parse l = room l.p.now
