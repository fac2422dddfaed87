use Rattle.std.proofs.Common.{arith, sym, ◌∙◌}
use Rattle.std.proofs.lemmas.Bool.{false≢true}
use Rattle.std.proofs.lemmas.Result.{err_from_is_err_and}
use Rattle.laws_classes.specs.Elements.{element_flags}
use Rattle.laws_classes.specs.Fields.{node_of_field}
use Rattle.laws_classes.proofs.Fields.{bare_stops, bare_taken, field_element, field_end, field_made}
use Rattle.parse_classes.proofs.field.parse_field.Goals as goal

pub returns-in_err-end_field : goal.returns-in_err-end_field
returns-in_err-end_field g c = λ text f s h g0 first p a e d.
    let z = err_from_is_err_and c.from_residual.result c.from_residual.ensures.1 in
    rw (z.1, z.2) (bare_stops a (node_of_field c.args.kind) (element_flags c.args.head.is_static c.args.name.computed) d (λ k. false≢true (sym c.if-at.false ∙ c.at.ensures.1 k)) _ _ c.in_err-end_field.ensures)

pub make_field-requires : goal.make_field-requires
make_field-requires g c =
    let z = field_end c.requires.at c.in_ok-end_field.ensures in
    let i = z.further in let b = c.requires.before in omega arith

pub returns : goal.returns
returns g c = λ text f s h g0 first p a e d.
    bare_taken a (node_of_field c.args.kind) (element_flags c.args.head.is_static c.args.name.computed) d (λ k. false≢true (sym c.if-at.false ∙ c.at.ensures.1 k)) (field_element c.args.kind) c.in_ok-end_field.ensures (field_made first c.args.kind e c.element_flags-flags.ensures c.in_ok-node.ensures)
