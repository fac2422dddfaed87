use Rattle.std.proofs.Common.{arith}
use Rattle.std.proofs.lemmas.Result.{err_from_is_err_and}
use Rattle.laws_classes.specs.Elements.{element_flags}
use Rattle.laws_classes.proofs.Methods.{form_so, method_made, method_stops, method_taken}
use Rattle.parse_classes.proofs.method.parse_method.Goals as goal

pub returns-in_err-function : goal.returns-in_err-function
returns-in_err-function g c = λ text f first i a e x.
    let p = err_from_is_err_and c.from_residual.result c.from_residual.ensures.1 in
    rw (p.1, p.2) (method_stops a c.args.kind (element_flags c.args.head.is_static c.args.name.computed) (form_so c.args.is_async c.args.generator c.form_of_method.ensures x) _ _ (c.in_err-function.ensures text f x.at))

pub make_method-requires : goal.make_method-requires
make_method-requires g c =
    let y = c.in_ok-function.ensures _ _ c.requires.at in
    let k = y.further in let b = c.requires.before in let d = c.requires.at.behind in omega arith

pub returns : goal.returns
returns g c = λ text f first i a e x.
    let y = c.in_ok-function.ensures text f x.at in
    method_taken a c.args.kind (element_flags c.args.head.is_static c.args.name.computed) (form_so c.args.is_async c.args.generator c.form_of_method.ensures x) y (method_made first {n = element_flags c.args.head.is_static c.args.name.computed} c.args.kind e c.element_flags-flags.ensures c.in_ok-node.ensures)
