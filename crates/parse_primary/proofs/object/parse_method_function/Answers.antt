use Rattle.std.proofs.Common.{arith}
use Rattle.std.proofs.lemmas.Result.{err_from_is_err_and}
use Rattle.laws_primary.proofs.laws_shared.Moving.{standing, stops_so}
use Rattle.laws_primary.proofs.laws_shared.Nesting.{later_room, nests_later}
use Rattle.laws_primary.proofs.Methods.{body_stops, function_taken, no_params}
use Rattle.parse_primary.proofs.object.parse_method_function.Goals as goal

pub returns-in_err-parameters : goal.returns-in_err-parameters
returns-in_err-parameters g c = λ text f a.
    let p = err_from_is_err_and c.from_residual.result c.from_residual.ensures.1 in
    rw (p.1, p.2) (stops_so _ _ _ (λ n. no_params f c.args.form c.args.is_async c.args.generator n) (c.in_err-parameters.ensures text f a))

pub body_of_function-requires-clause-at : goal.body_of_function-requires-clause-at
body_of_function-requires-clause-at g c = standing (c.in_ok-parameters.ensures _ _ c.requires.at).at

pub body_of_function-requires-clause-nests : goal.body_of_function-requires-clause-nests
body_of_function-requires-clause-nests g c = nests_later c.requires.nests (let x = c.in_ok-parameters.ensures _ _ c.requires.at in let r = later_room (let i = x.further in let j = c.requires.at.behind in omega arith) x.same in omega arith)

pub returns-in_err-body : goal.returns-in_err-body
returns-in_err-body g c = λ text f a.
    let p = err_from_is_err_and c.from_residual-in_err-body.result c.from_residual-in_err-body.ensures.1 in
    let x = c.in_ok-parameters.ensures text f a in
    rw (p.1, p.2) (body_stops c.args.form c.args.is_async c.args.generator x _ _ (c.in_err-body.ensures text f x.at))

pub make_function-requires : goal.make_function-requires
make_function-requires g c =
    let x = c.in_ok-parameters.ensures _ _ c.requires.at in
    let y = (c.in_ok-body.ensures _ _ x.at).answer in
    let i = x.further in let j = x.at.behind in let k = y.further in let s = c.cur_start-start.ensures in omega arith

pub returns : goal.returns
returns g c = λ text f a.
    let x = c.in_ok-parameters.ensures text f a in
    let y = c.in_ok-body.ensures text f x.at in
    function_taken c.args.form c.args.is_async c.args.generator x a y c.cur_start-start.ensures c.in_ok-node.ensures
