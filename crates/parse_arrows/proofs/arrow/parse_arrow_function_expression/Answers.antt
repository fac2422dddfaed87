use Rattle.laws_operators.proofs.HeadOperands.{made_kind, made_no_target}
use Rattle.std.proofs.Common.{arith, refl, ap, ◌∙◌}
use Rattle.std.proofs.lemmas.Result.{err_from_is_err_and}
use Rattle.js_base.specs.declared.kind.Kind.TheVariants.{Arrow}
use Rattle.laws_operators.proofs.Arrows.{before_answers, before_at, before_stops, line_at, line_place, line_same, line_token}
use Rattle.parse_shared.proofs.laws_shared.Signs.{whole_sign}
use Rattle.parse_shared.proofs.laws_shared.Moving.{standing}
use Rattle.parse_shared.proofs.laws_shared.Nesting.{nests_later, nested_room, later_room}
use Rattle.parse_arrows.proofs.arrow.parse_arrow_function_expression.Goals as goal

pub advance-requires-clause-at : goal.advance-requires-clause-at
advance-requires-clause-at g c = standing (line_at c.requires.at c.in_ok-check_line.ensures)

pub advance-requires-clause-whole : goal.advance-requires-clause-whole
advance-requires-clause-whole g c = whole_sign Arrow (line_at c.requires.at c.in_ok-check_line.ensures) (ap (λ t. t.kind) (line_token c.in_ok-check_line.ensures) ∙ c.requires.arrow) refl refl

pub parse_arrow_body-requires-clause-at : goal.parse_arrow_body-requires-clause-at
parse_arrow_body-requires-clause-at g c = standing (c.in_ok-advance.ensures _ _ (line_at c.requires.at c.in_ok-check_line.ensures)).at

pub parse_arrow_body-requires-clause-nests : goal.parse_arrow_body-requires-clause-nests
parse_arrow_body-requires-clause-nests g c =
    let a = line_at c.requires.at c.in_ok-check_line.ensures in
    let r = nested_room a (c.in_ok-advance.ensures _ _ a) in
    let s = later_room (let e = line_place c.in_ok-check_line.ensures in omega arith) (line_same c.in_ok-check_line.ensures) in
    nests_later c.requires.nests (omega arith)

pub returns-in_err-body-clause-answers : goal.returns-in_err-body-clause-answers
returns-in_err-body-clause-answers g c = λ text f o a e h.
    let p = err_from_is_err_and c.from_residual-in_err-body.result c.from_residual-in_err-body.ensures.1 in
    let m = c.in_ok-advance.ensures text f (line_at (before_at c.args.head.is_async h) c.in_ok-check_line.ensures) in
    let x = c.in_err-body.ensures in
    rw (p.1, p.2) (before_stops c.args.head.is_async h c.requires.arrow c.in_ok-check_line.ensures m x.0 x.1 _ _ (x.2 text f m.at))

pub end_span-span-requires : goal.end_span-span-requires
end_span-span-requires g c =
    let b = line_at c.requires.at c.in_ok-check_line.ensures in
    let m = c.in_ok-advance.ensures _ _ b in
    let y = (c.in_ok-body.ensures.2 _ _ m.at).answer in
    let s = c.requires.start in let e = line_place c.in_ok-check_line.ensures in let d = b.behind in let h = m.further in let i = m.at.behind in let j = y.further in omega arith

pub returns-clause-answers : goal.returns-clause-answers
returns-clause-answers g c = λ text f o a e h.
    let m = c.in_ok-advance.ensures text f (line_at (before_at c.args.head.is_async h) c.in_ok-check_line.ensures) in
    let x = c.in_ok-body.ensures in
    before_answers c.args.head.is_async h c.requires.arrow c.in_ok-check_line.ensures m x.0 x.1 _ a (x.2 text f m.at) (c.end_span-span.ensures.start ∙ e) c.end_span-span.ensures.end c.in_ok-node.ensures

pub returns-clause-node : goal.returns-clause-node
returns-clause-node g c = made_no_target refl (λ cs. refl) c.in_ok-node.ensures

pub returns-clause-kind : goal.returns-clause-kind
returns-clause-kind g c = made_kind c.in_ok-node.ensures
