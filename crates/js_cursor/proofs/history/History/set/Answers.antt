use Rattle.std.proofs.Common.{ap, Some, length, arith}
use Rattle.js_cursor.proofs.Recording.{recorded-push, recorded-same, counts-put, room-with}
use Rattle.js_cursor.proofs.history.History.set.Goals as goal

pub invariant_of-self-in_err-insert : goal.invariant_of-self-in_err-insert
invariant_of-self-in_err-insert g c = recorded-same c.self.inside.values c.insert.new.self c.self.invariant c.in_err-insert.ensures.err c.in_ok-reserve.ensures.items c.in_ok-reserve.ensures.capacity

pub invariant_of-self-2 : goal.invariant_of-self-2
invariant_of-self-2 g c =
    let e = c.in_ok-reserve.ensures.items in
    let m = c.min-self-inside.ensures in
    recorded-push c.self.inside.values c.insert.new.self _ c.self.invariant c.in_ok-insert.ensures.updates c.found-before.ensures c.put.ensures.items e
    (room-with c.self.inside.values c.insert.new.self _ (Some c.args.value) _ (counts-put c.self.inside.values c.insert.new.self _ _ c.in_ok-insert.ensures.was_ordered c.in_ok-insert.ensures.entries) (omega (arith, c.in_ok-reserve.ensures.ok, ap length e, c.len.ensures.len)) c.put.ensures.capacity) (omega (arith, m)) (λ h. omega (arith, m)) c.ranges.place.fits
