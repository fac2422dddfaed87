use Rattle.std.proofs.Common.{ap, arith, refl}
use Rattle.laws_primary.specs.js_cursor.Parsers.{Parser}
use Rattle.laws_primary.specs.laws_shared.Nesting.{room}
use Rattle.laws_primary.proofs.laws_shared.Moving.{standing}
use Rattle.laws_primary.proofs.laws_shared.Nesting.{nests_later}
use Rattle.laws_primary.proofs.Spreads.{spread_item, told_dots, told_outcome}
use Rattle.laws_primary.proofs.laws_shared.Told.{told_at}
use Rattle.parse_primary.proofs.arguments.parse_refused_spread.Goals as goal

pub parse_spread_element-requires-clause-at : goal.parse_spread_element-requires-clause-at
parse_spread_element-requires-clause-at g c = standing (told_at c.in_ok-tell_spread.ensures c.requires.at)

pub parse_spread_element-requires-clause-nests : goal.parse_spread_element-requires-clause-nests
parse_spread_element-requires-clause-nests g c = nests_later c.requires.nests (let e = ap (λ (z : Parser). room z) c.in_ok-tell_spread.ensures.is in omega arith)

pub parse_spread_element-requires-clause-sign : goal.parse_spread_element-requires-clause-sign
parse_spread_element-requires-clause-sign g c = told_dots c.requires.at c.requires.sign c.in_ok-tell_spread.ensures

pub returns : goal.returns
returns g c = λ text f a. told_outcome _ c.parse_spread_element.result a c.requires.sign c.in_ok-tell_spread.ensures refl (let b = told_at c.in_ok-tell_spread.ensures a in spread_item b (told_dots a c.requires.sign c.in_ok-tell_spread.ensures) _ c.parse_spread_element.result (c.parse_spread_element.ensures text f b))
