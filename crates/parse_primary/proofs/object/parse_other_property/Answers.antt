use Rattle.std.proofs.Common.{arith}
use Rattle.std.proofs.lemmas.Result.{err_from_is_err_and}
use Rattle.js_grammar.specs.Productions.{at, Property}
use Rattle.laws_primary.proofs.laws_shared.Moving.{standing, stops_so}
use Rattle.laws_primary.proofs.laws_shared.Nesting.{later_room, nests_later}
use Rattle.laws_primary.proofs.PropertyForms.{no_other_name, other_async, other_named, other_star}
use Rattle.laws_primary.proofs.Wholes.{item_by}
use Rattle.parse_primary.proofs.object.parse_other_property.Goals as goal

pub parse_property_name-requires-clause-nests : goal.parse_property_name-requires-clause-nests
parse_property_name-requires-clause-nests g c = nests_later c.requires.nests (omega arith)

pub returns-in_err-name : goal.returns-in_err-name
returns-in_err-name g c = λ text f a.
    let p = err_from_is_err_and c.from_residual.result c.from_residual.ensures.1 in
    rw (p.1, p.2) (stops_so _ _ _ (λ n. no_other_name a c.requires.no_word c.requires.no_sign n) (c.in_err-name.ensures text f a))

pub parse_behind_name-requires-clause-at : goal.parse_behind_name-requires-clause-at
parse_behind_name-requires-clause-at g c = standing (c.in_ok-name.ensures _ _ c.requires.at).at

pub parse_behind_name-requires-clause-nests : goal.parse_behind_name-requires-clause-nests
parse_behind_name-requires-clause-nests g c = nests_later c.requires.nests (let x = c.in_ok-name.ensures _ _ c.requires.at in let r = later_room (let i = x.further in let j = c.requires.at.behind in omega arith) x.same in omega arith)

pub parse_behind_name-requires-clause-before : goal.parse_behind_name-requires-clause-before
parse_behind_name-requires-clause-before g c = let x = c.in_ok-name.ensures _ _ c.requires.at in let i = x.further in let s = c.cur_start-start.ensures in omega arith

pub returns : goal.returns
returns g c = λ text f a.
    let x = c.in_ok-name.ensures text f a in
    item_by text f c.args.p.now (at Property f) _ c.parse_behind_name.result (other_named a c.requires.no_word c.requires.no_sign c.in_ok-name.name.computed x) (c.parse_behind_name.ensures text f c.args.p.now a c.cur_start-start.ensures (other_star a c.requires.no_word c.requires.no_sign) (other_async a c.requires.no_word c.requires.no_sign c.in_ok-name.name.computed) x)
