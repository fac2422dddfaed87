use Rattle.js_tree.proofs.HoldingLemmas.{Made-holds}
use Rattle.test_units.proofs.record.declare.Goals as goal

pub visit-requires : goal.visit-requires
visit-requires c =
    let h = Made-holds c.in_ok-id.ensures c.requires.holds in
    record { label = _; slots = _; numbers = h.numbers; stands = h.stands; read = c.requires.read }
