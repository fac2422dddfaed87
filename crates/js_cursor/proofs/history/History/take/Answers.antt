use Rattle.std.proofs.Common.{refl, arith}
use Rattle.std.proofs.lemmas.Bool.{false≢true}
use Rattle.js_cursor.proofs.Recording.{recorded-push, room-without}
use Rattle.js_cursor.proofs.history.History.take.Goals as goal

pub invariant_of-self : goal.invariant_of-self
invariant_of-self g c = recorded-push c.self.inside.values c.replace.new.values _ c.self.invariant c.replace.ensures.updates c.in-Some.ensures c.put.ensures.items refl (room-without c.self.inside.values c.replace.new.values _ _ c.in-Some.ensures c.replace.ensures.counts c.self.invariant.has_room c.put.ensures.capacity) (omega arith) (λ h. absurd (false≢true h)) c.ranges.place.fits
