use Rattle.std.proofs.Common.{arith}
use Rattle.js_cursor.proofs.Recording.{recorded-back, known-last}
use Rattle.js_cursor.proofs.history.History.undo.Goals as goal

pub replace-requires : goal.replace-requires
replace-requires g c = known-last c.self.inside.values c.pop.new.self.items c.in-Some.change c.self.invariant.known c.in-Some.ensures.items

pub invariant_of-self : goal.invariant_of-self
invariant_of-self g c = let m = c.min-self-inside.ensures in let k = c.in-Some.ensures.capacity in recorded-back c.self.inside.values c.replace.new.values c.in-Some.change c.self.invariant c.replace.ensures c.in-Some.ensures.items (omega arith) (omega (arith, m)) (omega (arith, m))
