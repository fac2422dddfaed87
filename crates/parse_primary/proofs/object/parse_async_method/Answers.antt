use Rattle.std.proofs.Common.{arith, ◌∙◌}
use Rattle.std.proofs.lemmas.Result.{err_from_is_err_and}
use Rattle.laws_primary.proofs.laws_shared.Giving.{memory_stops}
use Rattle.laws_primary.proofs.laws_shared.Moving.{same_both, standing, stops_behind}
use Rattle.laws_primary.proofs.laws_shared.Nesting.{later_room, nests_later}
use Rattle.laws_primary.proofs.laws_shared.Verdicts.{grown_then}
use Rattle.laws_primary.proofs.AsyncMethods.{async_part, eaten_at, eaten_further, eaten_kept, eaten_room, eaten_same, methods_only, no_methods_named}
use Rattle.laws_primary.proofs.Wholes.{part_by}
use Rattle.parse_primary.proofs.object.parse_async_method.Goals as goal

pub eat-requires : goal.eat-requires
eat-requires g c = c.requires.at.at

pub returns-in_err-generator : goal.returns-in_err-generator
returns-in_err-generator g c = λ text f first a s k e z m. let p = err_from_is_err_and c.from_residual.result c.from_residual.ensures.1 in rw (p.1, p.2) (memory_stops _ _ _ _ c.in_err-generator.ensures)

pub parse_property_name-requires-clause-at : goal.parse_property_name-requires-clause-at
parse_property_name-requires-clause-at g c = standing (eaten_at _ c.requires.at c.in_ok-generator.generator c.in_ok-generator.ensures)

pub parse_property_name-requires-clause-nests : goal.parse_property_name-requires-clause-nests
parse_property_name-requires-clause-nests g c = nests_later c.requires.nests (let l = eaten_room _ c.requires.at c.in_ok-generator.generator c.in_ok-generator.ensures in omega arith)

pub returns-in_err-name : goal.returns-in_err-name
returns-in_err-name g c = λ text f first a s k e z m.
    let p = err_from_is_err_and c.from_residual-in_err-name.result c.from_residual-in_err-name.ensures.1 in
    let h = c.in_ok-generator.ensures in
    let b = c.in_ok-generator.generator in
    rw (p.1, p.2) (stops_behind _ _ (same_both m.same (eaten_same _ m.at b h)) (λ g. grown_then (eaten_kept _ m.at b h ∙ m.kept) g) (λ n. no_methods_named a k e m c.requires.line z b _ h n) (c.in_err-name.ensures text f (eaten_at _ m.at b h)))

pub parse_method-requires-clause-at : goal.parse_method-requires-clause-at
parse_method-requires-clause-at g c = standing (c.in_ok-name.ensures _ _ (eaten_at _ c.requires.at c.in_ok-generator.generator c.in_ok-generator.ensures)).at

pub parse_method-requires-clause-nests : goal.parse_method-requires-clause-nests
parse_method-requires-clause-nests g c = nests_later c.requires.nests (
    let b = eaten_at _ c.requires.at c.in_ok-generator.generator c.in_ok-generator.ensures in
    let x = c.in_ok-name.ensures _ _ b in
    let l = eaten_room _ c.requires.at c.in_ok-generator.generator c.in_ok-generator.ensures in
    let r = later_room (let i = x.further in let j = b.behind in omega arith) x.same in omega arith)

pub parse_method-requires-clause-before : goal.parse_method-requires-clause-before
parse_method-requires-clause-before g c =
    let b = eaten_at _ c.requires.at c.in_ok-generator.generator c.in_ok-generator.ensures in
    let x = c.in_ok-name.ensures _ _ b in
    let l = eaten_further _ c.requires.at c.in_ok-generator.generator c.in_ok-generator.ensures in
    let i = x.further in let j = b.behind in let s = c.requires.before in omega arith

pub returns : goal.returns
returns g c = λ text f first a s k e z m.
    let h = c.in_ok-generator.ensures in
    let b = c.in_ok-generator.generator in
    let x = c.in_ok-name.ensures text f (eaten_at _ m.at b h) in
    part_by text f first _ c.parse_method.result (methods_only a k e m c.requires.line z b _ h c.in_ok-name.name.computed x.other) (c.parse_method.ensures text f first _ a s (async_part a k e m c.requires.line z b _ h c.in_ok-name.name.computed x))
