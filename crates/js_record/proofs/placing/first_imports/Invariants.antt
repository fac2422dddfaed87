use Rattle.std.proofs.Common.{take}
use Rattle.js_record.specs.Firsts.{AreFirst}
use Rattle.js_record.proofs.placing.first_imports.Given as goal

-- the map has the first entries among those so far
abbrev pub invariant-loop-i : goal.invariant-loop-i
invariant-loop-i l = AreFirst l.firsts.entries l.imports (take l.i l.imports)
