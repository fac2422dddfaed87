use Rattle.std.proofs.Common.{arith, refl, ◌∙◌}
use Rattle.std.proofs.lemmas.Result.{err_from_is_err_and}
use Rattle.js_base.specs.declared.kind.Kind.TheVariants.{Colon}
use Rattle.parse_shared.proofs.laws_shared.Expected.{expected}
use Rattle.parse_shared.proofs.laws_shared.Moving.{standing}
use Rattle.parse_shared.proofs.laws_shared.Nesting.{nests_later, nested_room}
use Rattle.laws_patterns.proofs.ObjectPatterns.{colon_stops, element_stops, property_answers}
use Rattle.parse_patterns.proofs.object_pattern.parse_property_value.Goals as goal

pub returns-in_err-expect : goal.returns-in_err-expect
returns-in_err-expect g c = λ text f o a s x n.
    let p = err_from_is_err_and c.from_residual.result c.from_residual.ensures.1 in
    rw (p.1, p.2) (colon_stops x n _ _ c.in_err-expect.ensures)

pub parse_binding_element-requires-clause-at : goal.parse_binding_element-requires-clause-at
parse_binding_element-requires-clause-at g c = let i = c.in_ok-expect.ensures in standing (expected c.requires.at Colon i.0 i.1 refl refl).at

pub parse_binding_element-requires-clause-nests : goal.parse_binding_element-requires-clause-nests
parse_binding_element-requires-clause-nests g c = let i = c.in_ok-expect.ensures in nests_later c.requires.nests (let r = nested_room c.requires.at (expected c.requires.at Colon i.0 i.1 refl refl) in omega arith)

pub returns-in_err-value : goal.returns-in_err-value
returns-in_err-value g c = λ text f o a s x n.
    let p = err_from_is_err_and c.from_residual-in_err-value.result c.from_residual-in_err-value.ensures.1 in
    let i = c.in_ok-expect.ensures in
    let m = expected x.at Colon i.0 i.1 refl refl in
    rw (p.1, p.2) (element_stops x n a i.0 m _ _ (c.in_err-value.ensures text f m.at))

pub end_span-span-requires : goal.end_span-span-requires
end_span-span-requires g c =
    let i = c.in_ok-expect.ensures in
    let m = expected c.requires.at Colon i.0 i.1 refl refl in
    let y = c.in_ok-value.ensures _ _ m.at in
    let s = c.requires.before in let b = c.requires.at.behind in let d = m.further in let e = m.at.behind in let h = y.further in omega arith

pub returns : goal.returns
returns g c = λ text f o a s x n.
    let i = c.in_ok-expect.ensures in
    let m = expected x.at Colon i.0 i.1 refl refl in
    property_answers x n a i.0 m _ (c.in_ok-value.ensures text f m.at) c.name_flags.ensures (c.end_span-span.ensures.start ∙ s) c.end_span-span.ensures.end c.in_ok-node.ensures
