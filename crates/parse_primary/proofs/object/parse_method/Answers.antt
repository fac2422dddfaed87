use Rattle.std.proofs.Common.{arith}
use Rattle.std.proofs.lemmas.Result.{err_from_is_err_and}
use Rattle.laws_primary.specs.Objects.{flags_of_form, op_of_form}
use Rattle.laws_primary.proofs.Methods.{method_made, method_stops, method_taken}
use Rattle.parse_primary.proofs.object.parse_method.Goals as goal

pub returns-in_err-function : goal.returns-in_err-function
returns-in_err-function g c = λ text f first i a e x.
    let p = err_from_is_err_and c.from_residual.result c.from_residual.ensures.1 in
    rw (p.1, p.2) (method_stops a (op_of_form c.args.form) (flags_of_form c.args.form c.args.name.computed) x _ _ (c.in_err-function.ensures text f x.at))

pub make_property-requires : goal.make_property-requires
make_property-requires g c =
    let y = c.in_ok-function.ensures _ _ c.requires.at in
    let k = y.further in let b = c.requires.before in let d = c.requires.at.behind in omega arith

pub returns : goal.returns
returns g c = λ text f first i a e x.
    let y = c.in_ok-function.ensures text f x.at in
    method_taken a (op_of_form c.args.form) (flags_of_form c.args.form c.args.name.computed) x y (method_made first c.args.form c.args.name.computed e (c.method_flags-flags.ensures, c.property_kind.ensures) c.in_ok-node.ensures)
