use Rattle.std.proofs.Common.{Option, Some, None, refl, subst}
use Rattle.std.specs.Prelude.{Ok, Err}
use Rattle.parse_shared.specs.js_tree.declared.id.NodeId.{NodeId}
use Rattle.parse_targets.specs.Targets.{unnoted}
use Rattle.parse_targets.specs.Covered.{no_places, simple_answer}
use Rattle.parse_targets.proofs.Answers.{Answer, covers_there, nothing_told}
use Rattle.parse_targets.proofs.TargetLaws.{simple_law}
use Rattle.parse_targets.proofs.convert.cover_simple_target.Goals as goal

pub returns-in_default : goal.returns-in_default
returns-in_default g c =
    let v = subst (λ (found : Option NodeId). Answer no_places simple_answer c.args.p.now.nodes c.args.p.now.nodes c.args.id unnoted found) c.in_default.is c.simple_node.ensures in
    covers_there simple_law {q = c.args.p.now} refl None (Err c.set_unexpected.result) c.set_unexpected.new.self v c.requires.at c.set_unexpected.ensures

pub returns : goal.returns
returns g c =
    let v = subst (λ (found : Option NodeId). Answer no_places simple_answer c.args.p.now.nodes c.args.p.now.nodes c.args.id unnoted found) c.in-Some.is c.simple_node.ensures in
    covers_there simple_law {q = c.args.p.now} refl (Some c.in-Some.target) (Ok c.in-Some.target) c.args.p.now v c.requires.at (refl, nothing_told c.args.p.now)
