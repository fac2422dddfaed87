use Rattle.std.proofs.Common.{◌≤◌, length, arith, ap}
use Rattle.std.proofs.lemmas.Grind.{common_steps}
use Rattle.js_run.specs.Ends.{Steady}
use Rattle.js_run.proofs.Copies.{copied}
use Rattle.js_run.proofs.steady.SteadySourceSource.read.Goals as goal

pub returns-clause-next : goal.returns-clause-next
returns-clause-next c =
    let view = ap (λ (s : Steady). s.left) c.self.view_is in
    let few : c.min-n.result ≤ length c.args.self.now.left = grind (arith, common_steps, view) in
    copied c.self.inside.bytes.items c.deref.result.now c.args.into.now c.copy_from_slice.new.self c.args.self.now.left c.self.inside.at c.min-n.result view c.deref.ensures.value c.copy_from_slice.ensures.after few
