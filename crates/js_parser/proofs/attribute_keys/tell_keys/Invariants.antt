use Rattle.std.proofs.Common.{◌++◌, []}
use Rattle.js_tree.specs.Nodes.{node_at}
use Rattle.js_parser.specs.AttributeKeys.{keys_at, told_keys}
use Rattle.js_parser.proofs.ClauseKeys.{Telling}
use Rattle.js_parser.proofs.attribute_keys.tell_keys.Given as goal

abbrev pub invariant-loop-i : goal.invariant-loop-i
invariant-loop-i l = let ids = (node_at l.tree l.clause).children in Telling l.source l.tree ids l.i l.last.entries l.told (l.initial.told ++ told_keys l.source [] (keys_at l.tree ids))
