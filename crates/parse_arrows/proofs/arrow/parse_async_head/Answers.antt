use Rattle.std.proofs.Common.{ap, arith, length, refl, sym, subst, ◌∙◌}
use Rattle.js_base.specs.declared.kind.Kind.TheVariants.{Async}
use Rattle.parse_shared.specs.js_cursor.Parsers.{Parser}
use Rattle.parse_shared.specs.laws_shared.Moves.{IsWholeHere}
use Rattle.parse_shared.specs.laws_shared.States.{Standing}
use Rattle.parse_shared.proofs.laws_shared.Moving.{standing}
use Rattle.parse_shared.proofs.laws_shared.Nesting.{nested_room, nests_later}
use Rattle.parse_shared.proofs.laws_shared.Signs.{whole_sign}
use Rattle.laws_operators.proofs.Arrows.{dropped, unmoved}
use Rattle.laws_operators.proofs.AsyncHeads.{async_read, async_unread, back_to_word, begins_so, may_go_to_word, moves_from, none_behind, some_behind}
use Rattle.parse_arrows.proofs.arrow.parse_async_head.Goals as goal

pub returns-then-not-branch : goal.returns-then-not-branch
returns-then-not-branch g c = let b = begins_so c.args.p.now c.begins_async_head.new.p c.if-not-branch.true c.in_ok-begins_async_head.ensures in (unmoved b.0, b.1)

pub advance-requires-clause-at : goal.advance-requires-clause-at
advance-requires-clause-at g c =
    let b = begins_so c.args.p.now c.begins_async_head.new.p c.if-not-branch.false c.in_ok-begins_async_head.ensures in
    subst (λ (z : Parser). Standing z) (sym (c.in_ok-here.ensures.same ∙ b.0)) c.requires.at

pub advance-requires-clause-whole : goal.advance-requires-clause-whole
advance-requires-clause-whole g c =
    let b = begins_so c.args.p.now c.begins_async_head.new.p c.if-not-branch.false c.in_ok-begins_async_head.ensures in
    subst (λ (z : Parser). IsWholeHere z) (sym (c.in_ok-here.ensures.same ∙ b.0)) (whole_sign Async c.requires.at b.1.0 refl refl)

pub parse_head_behind_async-requires-clause-at : goal.parse_head_behind_async-requires-clause-at
parse_head_behind_async-requires-clause-at g c =
    let b = begins_so c.args.p.now c.begins_async_head.new.p c.if-not-branch.false c.in_ok-begins_async_head.ensures in
    standing (moves_from (c.in_ok-here.ensures.same ∙ b.0) c.in_ok-advance.ensures _ _ c.requires.at).at

pub parse_head_behind_async-requires-clause-nests : goal.parse_head_behind_async-requires-clause-nests
parse_head_behind_async-requires-clause-nests g c =
    let b = begins_so c.args.p.now c.begins_async_head.new.p c.if-not-branch.false c.in_ok-begins_async_head.ensures in
    let r = nested_room c.requires.at (moves_from (c.in_ok-here.ensures.same ∙ b.0) c.in_ok-advance.ensures _ _ c.requires.at) in
    nests_later c.requires.nests (omega arith)

pub returns-in-Some : goal.returns-in-Some
returns-in-Some g c =
    let b = begins_so c.args.p.now c.begins_async_head.new.p c.if-not-branch.false c.in_ok-begins_async_head.ensures in
    async_read b.1 b.2 (moves_from (c.in_ok-here.ensures.same ∙ b.0) c.in_ok-advance.ensures) _ (some_behind _ c.parse_head_behind_async.new.p _ _ c.in-Some.is c.in_ok-parameters.ensures)

pub rewind-requires-clause-at : goal.rewind-requires-clause-at
rewind-requires-clause-at g c =
    let b = begins_so c.args.p.now c.begins_async_head.new.p c.if-not-branch.false c.in_ok-begins_async_head.ensures in
    (async_unread b.1 b.2 (moves_from (c.in_ok-here.ensures.same ∙ b.0) c.in_ok-advance.ensures) c.requires.at (none_behind _ c.parse_head_behind_async.new.p _ c.in_default.is c.in_ok-parameters.ensures)).0.0.1

pub rewind-requires-clause-may : goal.rewind-requires-clause-may
rewind-requires-clause-may g c =
    let b = begins_so c.args.p.now c.begins_async_head.new.p c.if-not-branch.false c.in_ok-begins_async_head.ensures in
    may_go_to_word c.requires.at b.0 c.in_ok-here.ensures.remembers (async_unread b.1 b.2 (moves_from (c.in_ok-here.ensures.same ∙ b.0) c.in_ok-advance.ensures) c.requires.at (none_behind _ c.parse_head_behind_async.new.p _ c.in_default.is c.in_ok-parameters.ensures)).0

pub returns : goal.returns
returns g c =
    let b = begins_so c.args.p.now c.begins_async_head.new.p c.if-not-branch.false c.in_ok-begins_async_head.ensures in
    let n = async_unread b.1 b.2 (moves_from (c.in_ok-here.ensures.same ∙ b.0) c.in_ok-advance.ensures) c.requires.at (none_behind _ c.parse_head_behind_async.new.p _ c.in_default.is c.in_ok-parameters.ensures) in
    (dropped (c.node_count-nodes.ensures.count ∙ ap (λ (z : Parser). length z.nodes) b.0) (back_to_word b.0 b.1.0 c.in_ok-here.ensures.remembers n.0 c.rewind.ensures) c.drop_nodes.ensures, n.1)

pub drop_nodes-requires : goal.drop_nodes-requires
drop_nodes-requires g c = c.node_count-nodes.ensures.some
