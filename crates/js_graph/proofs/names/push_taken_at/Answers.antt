use Rattle.std.proofs.Common.{◌≤◌, length, arith}
use Rattle.std.proofs.lemmas.Bool.Decides.{nat_tests}
use Rattle.js_graph.specs.Names.{is_taken}
use Rattle.js_graph.proofs.NameLemmas.{taken_none}
use Rattle.js_graph.proofs.names.push_taken_at.Goals as goal

pub returns-in-None : goal.returns-in-None
returns-in-None c =
    let past : length c.args.modules.now.items ≤ c.args.number = grind (arith, nat_tests, c.deref.ensures.value, c.in-None.ensures.lookup.0) in
    taken_none (is_taken c.args.first.now) c.args.names.now.items c.args.modules.now.items c.args.number past
