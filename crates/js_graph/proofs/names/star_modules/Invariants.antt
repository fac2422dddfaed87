use Rattle.std.proofs.Common.{◌-◌, ◌^◌}
use Rattle.js_graph.specs.Names.{stars_at}
use Rattle.js_graph.proofs.PathLemmas.{AreFollowed}
use Rattle.js_graph.proofs.names.star_modules.Given as goal

-- the star entries of those so far are followed
abbrev pub invariant-loop-done : goal.invariant-loop-done
invariant-loop-done l = AreFollowed (stars_at l.modules.items) l.number l.reached.keys l.done

-- no list has 2 ^ 64 items
abbrev pub decreases-loop-done : goal.decreases-loop-done
decreases-loop-done l = 2 ^ 64 - l.done
