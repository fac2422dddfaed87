use Rattle.std.proofs.Common.{length, arith}
use Rattle.js_tree.proofs.HoldingLemmas.{HoldsAll-none, HoldsAll-one, Made-holds}
use Rattle.test_units.proofs.record.import_call.Goals as goal

pub visit_import_expression-requires : goal.visit_import_expression-requires
visit_import_expression-requires c =
    let ns = c.args.tree.now in
    let leaf = Made-holds c.in_ok-child.ensures (HoldsAll-none ns 0 (length ns) (omega arith)) in
    let h = Made-holds c.in_ok-id.ensures (HoldsAll-one c.in_ok-child.child leaf) in
    record { label = _; slots = _; numbers = h.numbers; stands = h.stands }
