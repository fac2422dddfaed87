use Rattle.std.proofs.Common.{ap, ◌∙◌}
use Rattle.std.proofs.lemmas.Result.{err_from_is_err_and}
use Rattle.js_base.specs.Kinds.{same_kind}
use Rattle.js_base.specs.declared.kind.Kind.TheVariants.{RAngle, Target}
use Rattle.parse_shared.specs.laws_shared.Moves.{unpassable}
use Rattle.parse_shared.proofs.laws_shared.Giving.{memory_stops}
use Rattle.parse_shared.proofs.laws_shared.Here.{uncut}
use Rattle.parse_shared.proofs.laws_shared.Moving.{standing}
use Rattle.parse_primary.proofs.laws_primary.Members.{stands_so}
use Rattle.parse_primary.proofs.laws_primary.NewTargets.{behind_dot, outside_marked, start_before, target_stops, target_taken}
use Rattle.parse_members.proofs.new_target.parse_new_target.Goals as goal

pub returns-in_err-advance : goal.returns-in_err-advance
returns-in_err-advance g c =
    let p = err_from_is_err_and c.from_residual.result c.from_residual.ensures.1 in
    rw (p.1, p.2) (λ text f o a s e m. memory_stops _ _ _ _ c.in_err-advance.ensures)

pub advance-requires-clause-whole : goal.advance-requires-clause-whole
advance-requires-clause-whole g c = (uncut c.requires.at (ap (same_kind RAngle) c.requires.dot.0), ap unpassable c.requires.dot.0)

pub refuse_target-requires-clause-at : goal.refuse_target-requires-clause-at
refuse_target-requires-clause-at g c = standing (c.in_ok-advance.ensures _ _ c.requires.at).at

pub refuse_target-requires-clause-behind : goal.refuse_target-requires-clause-behind
refuse_target-requires-clause-behind g c = behind_dot c.requires.behind c.requires.at c.requires.dot (c.in_ok-advance.ensures _ _ c.requires.at)

pub refuse_target-requires-clause-other : goal.refuse_target-requires-clause-other
refuse_target-requires-clause-other g c = stands_so c.advance.new.p Target c.if-not-stands.true c.stands.ensures

pub returns-then-not-stands : goal.returns-then-not-stands
returns-then-not-stands g c = λ text f o a s e m. target_stops a s m c.requires.dot (c.in_ok-advance.ensures text f m.at) (stands_so c.advance.new.p Target c.if-not-stands.true c.stands.ensures) _ c.refuse_target.result c.refuse_target.ensures

pub advance-requires-2-clause-at : goal.advance-requires-2-clause-at
advance-requires-2-clause-at g c = standing (c.in_ok-advance.ensures _ _ c.requires.at).at

pub advance-requires-2-clause-whole : goal.advance-requires-2-clause-whole
advance-requires-2-clause-whole g c =
    let t = stands_so c.advance.new.p Target c.if-not-stands.false c.stands.ensures in
    (uncut (c.in_ok-advance.ensures _ _ c.requires.at).at (ap (same_kind RAngle) t.0), ap unpassable t.0)

pub end_span-span-requires : goal.end_span-span-requires
end_span-span-requires g c =
    let m = c.in_ok-advance.ensures _ _ c.requires.at in
    start_before c.requires.behind c.requires.at m (c.in_ok-advance-2.ensures _ _ m.at)

pub check_new_target-requires-clause-at : goal.check_new_target-requires-clause-at
check_new_target-requires-clause-at g c = (c.in_ok-advance-2.ensures _ _ (c.in_ok-advance.ensures _ _ c.requires.at).at).at.at

pub check_new_target-requires-clause-mark : goal.check_new_target-requires-clause-mark
check_new_target-requires-clause-mark g c =
    let m = c.in_ok-advance.ensures _ _ c.requires.at in
    outside_marked c.requires.behind c.requires.at m (c.in_ok-advance-2.ensures _ _ m.at) _ c.end_span-span.ensures.start c.end_span-span.ensures.end

pub returns : goal.returns
returns g c = λ text f o a s e m.
    let n = c.in_ok-advance.ensures text f m.at in
    target_taken a s m c.requires.dot n (stands_so c.advance.new.p Target c.if-not-stands.false c.stands.ensures) (c.in_ok-advance-2.ensures text f n.at) c.in_ok-check_new_target.ensures (c.end_span-span.ensures.start ∙ e) c.end_span-span.ensures.end c.in_ok-node.ensures
