use Rattle.std.proofs.Common.{ap, refl, sym, arith, ◌∙◌}
use Rattle.parse_shared.specs.js_cursor.Tokens.{may_be_read_again}
use Rattle.parse_shared.proofs.js_cursor.Changing.{may_return}
use Rattle.parse_shared.proofs.laws_shared.Moving.{standing}
use Rattle.parse_shared.proofs.laws_shared.Nesting.{later_room, nests_later}
use Rattle.laws_operators.proofs.Arrows.{dropped, went_back}
use Rattle.laws_operators.proofs.SlashedHeads.{attempts_there, excluded_more, excluded_so, head_between, head_more, head_noted, head_settled, head_stands, head_went_on, none_told, none_tried, some_tried, stands_there, stood_here}
use Rattle.parse_arrows.proofs.arrow.attempt_head.Goals as goal

pub excludes_operand-requires-clause-at : goal.excludes_operand-requires-clause-at
excludes_operand-requires-clause-at g c = head_stands c.args.is_async c.requires.at (some_tried c.args.is_async _ _ c.attempt_parameters.new.p _ _ c.in_ok-here.ensures.same c.in-Some.is c.in_ok-parameters.ensures)

pub excludes_operand-requires-clause-between : goal.excludes_operand-requires-clause-between
excludes_operand-requires-clause-between g c = head_between c.args.is_async c.requires.at (some_tried c.args.is_async _ _ c.attempt_parameters.new.p _ _ c.in_ok-here.ensures.same c.in-Some.is c.in_ok-parameters.ensures) c.prev_token_end-place.ensures

pub note_operand_failed-requires : goal.note_operand_failed-requires
note_operand_failed-requires g c = (head_stands c.args.is_async c.requires.at (head_more c.args.is_async (some_tried c.args.is_async _ _ c.attempt_parameters.new.p _ _ c.in_ok-here.ensures.same c.in-Some.is c.in_ok-parameters.ensures) (excluded_more _ _ c.attempt_parameters.new.p c.excludes_operand.new.p _ c.in_ok-excludes_operand.ensures))).at

pub returns-in_ok-note_operand_failed : goal.returns-in_ok-note_operand_failed
returns-in_ok-note_operand_failed g c =
    let x = head_more c.args.is_async (some_tried c.args.is_async _ _ c.attempt_parameters.new.p _ _ c.in_ok-here.ensures.same c.in-Some.is c.in_ok-parameters.ensures) (excluded_more _ _ c.attempt_parameters.new.p c.excludes_operand.new.p _ c.in_ok-excludes_operand.ensures) in
    let n = head_settled c.args.is_async _ _ c.kept_so_far-kept.ensures c.prev_token_end-place.ensures x (excluded_so _ _ c.attempt_parameters.new.p c.excludes_operand.new.p c.if-branch.true c.in_ok-excludes_operand.ensures) in
    (head_noted c.args.is_async c.requires.at c.prev_token_end-place.ensures x n c.in_ok-note_operand_failed.ensures.ok, n)

pub returns-else-kept_so_far-kept : goal.returns-else-kept_so_far-kept
returns-else-kept_so_far-kept g c =
    let x = head_more c.args.is_async (some_tried c.args.is_async _ _ c.attempt_parameters.new.p _ _ c.in_ok-here.ensures.same c.in-Some.is c.in_ok-parameters.ensures) (excluded_more _ _ c.attempt_parameters.new.p c.excludes_operand.new.p _ c.in_ok-excludes_operand.ensures) in
    (x, head_settled c.args.is_async _ _ c.kept_so_far-kept.ensures c.prev_token_end-place.ensures x (excluded_so _ _ c.attempt_parameters.new.p c.excludes_operand.new.p c.if-branch.true c.in_ok-excludes_operand.ensures))

pub rewind-requires-clause-at : goal.rewind-requires-clause-at
rewind-requires-clause-at g c = (head_went_on c.args.is_async c.requires.at (head_more c.args.is_async (some_tried c.args.is_async _ _ c.attempt_parameters.new.p _ _ c.in_ok-here.ensures.same c.in-Some.is c.in_ok-parameters.ensures) (excluded_more _ _ c.attempt_parameters.new.p c.excludes_operand.new.p _ c.in_ok-excludes_operand.ensures))).0.1

pub rewind-requires-clause-may : goal.rewind-requires-clause-may
rewind-requires-clause-may g c = may_return c.requires.at.at c.in_ok-here.ensures.remembers refl (head_went_on c.args.is_async c.requires.at (head_more c.args.is_async (some_tried c.args.is_async _ _ c.attempt_parameters.new.p _ _ c.in_ok-here.ensures.same c.in-Some.is c.in_ok-parameters.ensures) (excluded_more _ _ c.attempt_parameters.new.p c.excludes_operand.new.p _ c.in_ok-excludes_operand.ensures))).0.0

pub attempt_head_again-requires-clause-at : goal.attempt_head_again-requires-clause-at
attempt_head_again-requires-clause-at g c =
    let x = head_went_on c.args.is_async c.requires.at (head_more c.args.is_async (some_tried c.args.is_async _ _ c.attempt_parameters.new.p _ _ c.in_ok-here.ensures.same c.in-Some.is c.in_ok-parameters.ensures) (excluded_more _ _ c.attempt_parameters.new.p c.excludes_operand.new.p _ c.in_ok-excludes_operand.ensures)) in
    standing ((dropped c.node_count-nodes.ensures.count (went_back (ap may_be_read_again c.requires.open) c.in_ok-here.ensures.remembers x c.rewind.ensures) c.drop_nodes.ensures).at _ _ c.requires.at)

pub attempt_head_again-requires-clause-nests : goal.attempt_head_again-requires-clause-nests
attempt_head_again-requires-clause-nests g c =
    let x = head_went_on c.args.is_async c.requires.at (head_more c.args.is_async (some_tried c.args.is_async _ _ c.attempt_parameters.new.p _ _ c.in_ok-here.ensures.same c.in-Some.is c.in_ok-parameters.ensures) (excluded_more _ _ c.attempt_parameters.new.p c.excludes_operand.new.p _ c.in_ok-excludes_operand.ensures)) in
    let w = dropped c.node_count-nodes.ensures.count (went_back (ap may_be_read_again c.requires.open) c.in_ok-here.ensures.remembers x c.rewind.ensures) c.drop_nodes.ensures in
    nests_later c.requires.nests (let u = w.place in later_room (omega arith) w.same)

pub attempt_head_again-requires-clause-open : goal.attempt_head_again-requires-clause-open
attempt_head_again-requires-clause-open g c =
    let x = head_went_on c.args.is_async c.requires.at (head_more c.args.is_async (some_tried c.args.is_async _ _ c.attempt_parameters.new.p _ _ c.in_ok-here.ensures.same c.in-Some.is c.in_ok-parameters.ensures) (excluded_more _ _ c.attempt_parameters.new.p c.excludes_operand.new.p _ c.in_ok-excludes_operand.ensures)) in
    (dropped c.node_count-nodes.ensures.count (went_back (ap may_be_read_again c.requires.open) c.in_ok-here.ensures.remembers x c.rewind.ensures) c.drop_nodes.ensures).kind ∙ c.requires.open

pub attempt_head_again-requires-clause-stood : goal.attempt_head_again-requires-clause-stood
attempt_head_again-requires-clause-stood g c = λ n.
    let x = head_more c.args.is_async (some_tried c.args.is_async _ _ c.attempt_parameters.new.p _ _ c.in_ok-here.ensures.same c.in-Some.is c.in_ok-parameters.ensures) (excluded_more _ _ c.attempt_parameters.new.p c.excludes_operand.new.p _ c.in_ok-excludes_operand.ensures) in
    let w = dropped c.node_count-nodes.ensures.count (went_back (ap may_be_read_again c.requires.open) c.in_ok-here.ensures.remembers (head_went_on c.args.is_async c.requires.at x) c.rewind.ensures) c.drop_nodes.ensures in
    stands_there c.args.is_async c.requires.at w (stood_here c.args.is_async c.requires.open x (sym c.kept_so_far-in-Some.ensures ∙ (none_told _ _ n ∙ c.kept_so_far-kept.ensures)))

pub returns-in-Some : goal.returns-in-Some
returns-in-Some g c =
    let x = head_went_on c.args.is_async c.requires.at (head_more c.args.is_async (some_tried c.args.is_async _ _ c.attempt_parameters.new.p _ _ c.in_ok-here.ensures.same c.in-Some.is c.in_ok-parameters.ensures) (excluded_more _ _ c.attempt_parameters.new.p c.excludes_operand.new.p _ c.in_ok-excludes_operand.ensures)) in
    attempts_there c.args.is_async c.attempt_head_again.new.p _ (dropped c.node_count-nodes.ensures.count (went_back (ap may_be_read_again c.requires.open) c.in_ok-here.ensures.remembers x c.rewind.ensures) c.drop_nodes.ensures) c.attempt_head_again.ensures

pub returns : goal.returns
returns g c = none_tried c.args.is_async _ _ c.attempt_parameters.new.p _ c.in_ok-here.ensures.same c.in_default.is c.in_ok-parameters.ensures

pub drop_nodes-requires : goal.drop_nodes-requires
drop_nodes-requires g c = c.node_count-nodes.ensures.some
