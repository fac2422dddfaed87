use Rattle.std.proofs.Common.{ap, refl, arith, ◌∙◌}
use Rattle.parse_shared.specs.js_cursor.Tokens.{may_be_read_again}
use Rattle.parse_shared.proofs.js_cursor.Changing.{may_return}
use Rattle.parse_shared.proofs.laws_shared.Moving.{standing}
use Rattle.parse_shared.proofs.laws_shared.Nesting.{later_room, nests_later}
use Rattle.laws_operators.proofs.Arrows.{dropped, went_back}
use Rattle.laws_operators.proofs.NotedHeads.{operand_noted_here}
use Rattle.laws_operators.proofs.SlashedHeads.{never_stands, none_here, told_from, told_so, told_went_on, tries_there, unmoved_both}
use Rattle.parse_arrows.proofs.arrow.attempt_head_again.Goals as goal

pub rewind-requires-clause-at : goal.rewind-requires-clause-at
rewind-requires-clause-at g c = (told_went_on c.args.p.now c.is_arrow_due.new.p c.in_ok-excluded.excluded (told_from c.args.p.now _ c.is_arrow_due.new.p c.in_ok-excluded.excluded c.in_ok-here.ensures.same c.in_ok-excluded.ensures)).0.1

pub rewind-requires-clause-may : goal.rewind-requires-clause-may
rewind-requires-clause-may g c = may_return c.requires.at.at c.in_ok-here.ensures.remembers refl (told_went_on c.args.p.now c.is_arrow_due.new.p c.in_ok-excluded.excluded (told_from c.args.p.now _ c.is_arrow_due.new.p c.in_ok-excluded.excluded c.in_ok-here.ensures.same c.in_ok-excluded.ensures)).0.0

pub note_no_head-requires-clause-at : goal.note_no_head-requires-clause-at
note_no_head-requires-clause-at g c =
    let t = told_from c.args.p.now _ c.is_arrow_due.new.p c.in_ok-excluded.excluded c.in_ok-here.ensures.same c.in_ok-excluded.ensures in
    let w = dropped c.node_count-nodes.ensures.count (went_back (ap may_be_read_again c.requires.open) c.in_ok-here.ensures.remembers (told_went_on c.args.p.now c.is_arrow_due.new.p c.in_ok-excluded.excluded t) c.rewind.ensures) c.drop_nodes.ensures in
    standing (w.at _ _ c.requires.at)

pub note_no_head-requires-clause-place : goal.note_no_head-requires-clause-place
note_no_head-requires-clause-place g c =
    let t = told_from c.args.p.now _ c.is_arrow_due.new.p c.in_ok-excluded.excluded c.in_ok-here.ensures.same c.in_ok-excluded.ensures in
    let w = dropped c.node_count-nodes.ensures.count (went_back (ap may_be_read_again c.requires.open) c.in_ok-here.ensures.remembers (told_went_on c.args.p.now c.is_arrow_due.new.p c.in_ok-excluded.excluded t) c.rewind.ensures) c.drop_nodes.ensures in
    let u = w.place in let k = c.prev_token_end-place.ensures in omega arith

pub note_no_head-requires-clause-none : goal.note_no_head-requires-clause-none
note_no_head-requires-clause-none g c =
    let t = told_from c.args.p.now _ c.is_arrow_due.new.p c.in_ok-excluded.excluded c.in_ok-here.ensures.same c.in_ok-excluded.ensures in
    let w = dropped c.node_count-nodes.ensures.count (went_back (ap may_be_read_again c.requires.open) c.in_ok-here.ensures.remembers (told_went_on c.args.p.now c.is_arrow_due.new.p c.in_ok-excluded.excluded t) c.rewind.ensures) c.drop_nodes.ensures in
    none_here c.args.is_async c.requires.at w (never_stands c.args.is_async c.requires.at (c.requires.stood c.if-is_told.false) (told_so c.args.p.now c.is_arrow_due.new.p c.if-not-excluded.true t).1)

pub returns-then-not-excluded : goal.returns-then-not-excluded
returns-then-not-excluded g c =
    let t = told_from c.args.p.now _ c.is_arrow_due.new.p c.in_ok-excluded.excluded c.in_ok-here.ensures.same c.in_ok-excluded.ensures in
    let w = dropped c.node_count-nodes.ensures.count (went_back (ap may_be_read_again c.requires.open) c.in_ok-here.ensures.remembers (told_went_on c.args.p.now c.is_arrow_due.new.p c.in_ok-excluded.excluded t) c.rewind.ensures) c.drop_nodes.ensures in
    (unmoved_both w c.in_ok-note_no_head.ensures, never_stands c.args.is_async c.requires.at (c.requires.stood c.if-is_told.false) (told_so c.args.p.now c.is_arrow_due.new.p c.if-not-excluded.true t).1)

pub note_operand_failed-requires : goal.note_operand_failed-requires
note_operand_failed-requires g c =
    let t = told_from c.args.p.now _ c.is_arrow_due.new.p c.in_ok-excluded.excluded c.in_ok-here.ensures.same c.in_ok-excluded.ensures in
    let w = dropped c.node_count-nodes.ensures.count (went_back (ap may_be_read_again c.requires.open) c.in_ok-here.ensures.remembers (told_went_on c.args.p.now c.is_arrow_due.new.p c.in_ok-excluded.excluded t) c.rewind.ensures) c.drop_nodes.ensures in
    (w.at _ _ c.requires.at).at

pub attempt_parameters-requires-clause-at : goal.attempt_parameters-requires-clause-at
attempt_parameters-requires-clause-at g c =
    let t = told_from c.args.p.now _ c.is_arrow_due.new.p c.in_ok-excluded.excluded c.in_ok-here.ensures.same c.in_ok-excluded.ensures in
    let w = dropped c.node_count-nodes.ensures.count (went_back (ap may_be_read_again c.requires.open) c.in_ok-here.ensures.remembers (told_went_on c.args.p.now c.is_arrow_due.new.p c.in_ok-excluded.excluded t) c.rewind.ensures) c.drop_nodes.ensures in
    standing ((operand_noted_here c.requires.at w (told_so c.args.p.now c.is_arrow_due.new.p c.if-not-excluded.false t).1 c.prev_token_end-place.ensures c.in_ok-note_operand_failed.ensures.ok).at _ _ c.requires.at)

pub attempt_parameters-requires-clause-nests : goal.attempt_parameters-requires-clause-nests
attempt_parameters-requires-clause-nests g c =
    let t = told_from c.args.p.now _ c.is_arrow_due.new.p c.in_ok-excluded.excluded c.in_ok-here.ensures.same c.in_ok-excluded.ensures in
    let w = dropped c.node_count-nodes.ensures.count (went_back (ap may_be_read_again c.requires.open) c.in_ok-here.ensures.remembers (told_went_on c.args.p.now c.is_arrow_due.new.p c.in_ok-excluded.excluded t) c.rewind.ensures) c.drop_nodes.ensures in
    let u = operand_noted_here c.requires.at w (told_so c.args.p.now c.is_arrow_due.new.p c.if-not-excluded.false t).1 c.prev_token_end-place.ensures c.in_ok-note_operand_failed.ensures.ok in
    nests_later c.requires.nests (let v = u.place in later_room (omega arith) u.same)

pub attempt_parameters-requires-clause-open : goal.attempt_parameters-requires-clause-open
attempt_parameters-requires-clause-open g c =
    let t = told_from c.args.p.now _ c.is_arrow_due.new.p c.in_ok-excluded.excluded c.in_ok-here.ensures.same c.in_ok-excluded.ensures in
    let w = dropped c.node_count-nodes.ensures.count (went_back (ap may_be_read_again c.requires.open) c.in_ok-here.ensures.remembers (told_went_on c.args.p.now c.is_arrow_due.new.p c.in_ok-excluded.excluded t) c.rewind.ensures) c.drop_nodes.ensures in
    (operand_noted_here c.requires.at w (told_so c.args.p.now c.is_arrow_due.new.p c.if-not-excluded.false t).1 c.prev_token_end-place.ensures c.in_ok-note_operand_failed.ensures.ok).kind ∙ c.requires.open

pub returns : goal.returns
returns g c =
    let t = told_from c.args.p.now _ c.is_arrow_due.new.p c.in_ok-excluded.excluded c.in_ok-here.ensures.same c.in_ok-excluded.ensures in
    let w = dropped c.node_count-nodes.ensures.count (went_back (ap may_be_read_again c.requires.open) c.in_ok-here.ensures.remembers (told_went_on c.args.p.now c.is_arrow_due.new.p c.in_ok-excluded.excluded t) c.rewind.ensures) c.drop_nodes.ensures in
    let n = (told_so c.args.p.now c.is_arrow_due.new.p c.if-not-excluded.false t).1 in
    tries_there c.args.is_async c.attempt_parameters.new.p _ (operand_noted_here c.requires.at w n c.prev_token_end-place.ensures c.in_ok-note_operand_failed.ensures.ok) n c.attempt_parameters.ensures

pub drop_nodes-requires : goal.drop_nodes-requires
drop_nodes-requires g c = c.node_count-nodes.ensures.some
