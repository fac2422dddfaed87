use Rattle.std.proofs.Common.{refl, sym, true≢false, subst, List, Option}
use Rattle.js_tree.specs.declared.id.NodeId.{NodeId}
use Rattle.js_record.specs.Checked.{AreUnder}
use Rattle.test_units.proofs.record.is_sound.Goals as goal

pub returns-then-not-is_read : goal.returns-then-not-is_read
returns-then-not-is_read c = λ e. absurd (true≢false (sym e))

pub returns : goal.returns
returns c = λ e. record { read = c.if-not-is_read.ensures refl; under = subst (λ (v : List (Option NodeId)). AreUnder c.args.id v) c.children.ensures (c.are_below.ensures e) }
