use Rattle.laws_operators.proofs.HeadOperands.{made_no_target}
use Rattle.std.proofs.Common.{ap, arith, ◌∙◌, inl, refl}
use Rattle.std.proofs.lemmas.Result.{err_from_is_err_and}
use Rattle.js_base.specs.declared.token.Token.{Token}
use Rattle.parse_shared.specs.js_cursor.Moves.{is_last}
use Rattle.laws_operators.proofs.ArrayAnswers.{array_answers, right_unread, room_same, without_target}
use Rattle.parse_shared.proofs.laws_shared.Giving.{memory_stops}
use Rattle.parse_shared.proofs.laws_shared.Moving.{same_both, standing, stops_behind, stops_so}
use Rattle.parse_shared.proofs.laws_shared.Nesting.{nested_room}
use Rattle.parse_shared.proofs.laws_shared.Verdicts.{after, grown_then}
use Rattle.parse_operators.proofs.assignment.parse_destructuring_assignment.Goals as goal

pub returns-in_err-target-clause-answers : goal.returns-in_err-target-clause-answers
returns-in_err-target-clause-answers t c = λ text f first a na s k x h.
    let p = err_from_is_err_and c.from_residual.result c.from_residual.ensures.1 in
    rw (p.1, p.2) (stops_so first _ _ (λ n. without_target x.answer na c.requires.whole c.requires.equals h n) (c.in_err-target.ensures text f first a s k x h))

pub advance-requires-clause-at : goal.advance-requires-clause-at
advance-requires-clause-at t c =
    let r = c.requires.read in
    let z = c.in_ok-target.ensures r.text r.flags r.first r.begins r.start_is r.kept_is r.read r.literal in
    standing z.stands_at

pub advance-requires-clause-whole : goal.advance-requires-clause-whole
advance-requires-clause-whole t c =
    let r = c.requires.read in
    let z = c.in_ok-target.ensures r.text r.flags r.first r.begins r.start_is r.kept_is r.read r.literal in
    (z.cut ∙ c.requires.whole, ap (λ (v : Token). is_last v.kind) z.token ∙ ap is_last c.requires.equals)

pub returns-in_err-advance-clause-answers : goal.returns-in_err-advance-clause-answers
returns-in_err-advance-clause-answers t c = λ text f first a na s k x h.
    let p = err_from_is_err_and c.from_residual-in_err-advance.result c.from_residual-in_err-advance.ensures.1 in
    rw (p.1, p.2) (memory_stops _ _ _ _ c.in_err-advance.ensures)

pub assignment-requires : goal.assignment-requires
assignment-requires t c =
    let r = c.requires.read in
    let z = c.in_ok-target.ensures r.text r.flags r.first r.begins r.start_is r.kept_is r.read r.literal in
    let m = c.in_ok-advance.ensures _ _ z.stands_at in
    let n = nested_room z.stands_at m in
    let e = room_same r.read.answer.at z.stands_at z.place in
    c.requires.nests _ _ (standing m.at) (omega arith)

pub returns-in_err-right-clause-answers : goal.returns-in_err-right-clause-answers
returns-in_err-right-clause-answers t c = λ text f first a na s k x h.
    let p = err_from_is_err_and c.from_residual-in_err-right.result c.from_residual-in_err-right.ensures.1 in
    let z = c.in_ok-target.ensures text f first a s k x h in
    let m = c.in_ok-advance.ensures text f z.stands_at in
    rw (p.1, p.2) (stops_behind _ _ (same_both z.same m.same) (λ g. after z.verdict (grown_then m.kept g)) (λ n. right_unread x.answer na c.requires.whole c.requires.equals h z m n) (c.in_err-right.ensures text f m.at))

pub end_span-span-requires : goal.end_span-span-requires
end_span-span-requires t c =
    let r = c.requires.read in
    let z = c.in_ok-target.ensures r.text r.flags r.first r.begins r.start_is r.kept_is r.read r.literal in
    let m = c.in_ok-advance.ensures _ _ z.stands_at in
    let y = (c.in_ok-right.ensures _ _ m.at).answer in
    let e = z.place in
    let g = z.stands_at.behind in let d = m.further in let h = m.at.behind in let i = y.further in let s = c.requires.start in omega arith

pub returns-clause-answers : goal.returns-clause-answers
returns-clause-answers t c = λ text f first a na s k x h.
    let z = c.in_ok-target.ensures text f first a s k x h in
    let m = c.in_ok-advance.ensures text f z.stands_at in
    array_answers x.answer na c.requires.whole c.requires.equals h z m _ a (c.in_ok-right.ensures text f m.at) (c.end_span-span.ensures.start ∙ s) c.end_span-span.ensures.end c.in_ok-node.ensures

pub returns-clause-node : goal.returns-clause-node
returns-clause-node t c = made_no_target refl (λ cs. refl) c.in_ok-node.ensures

pub literal_target-requires-clause-sign : goal.literal_target-requires-clause-sign
literal_target-requires-clause-sign t c = inl c.requires.equals
