use Rattle.std.proofs.Common.{Bool, sym, subst}
use Rattle.js_base.specs.declared.kind.Kind.TheVariants.{Dot3}
use Rattle.laws_primary.specs.laws_shared.Arguments.{TakesItem}
use Rattle.laws_primary.proofs.Members.{stands_so}
use Rattle.laws_primary.proofs.Spreads.{plain_item, spread_item}
use Rattle.parse_primary.proofs.arguments.parse_argument.Goals as goal

pub returns-then-not-stands : goal.returns-then-not-stands
returns-then-not-stands g c = λ text f a. plain_item c.args.spreads _ c.assignment_with_in.result a (stands_so c.args.p.now Dot3 c.if-not-stands.true c.stands.ensures) (c.assignment_with_in.ensures text f a)

pub parse_spread_element-requires-clause-sign : goal.parse_spread_element-requires-clause-sign
parse_spread_element-requires-clause-sign g c = stands_so c.args.p.now Dot3 c.if-not-stands.false c.stands.ensures

pub parse_refused_spread-requires-clause-sign : goal.parse_refused_spread-requires-clause-sign
parse_refused_spread-requires-clause-sign g c = stands_so c.args.p.now Dot3 c.if-not-stands.false c.stands.ensures

pub returns-then-spreads : goal.returns-then-spreads
returns-then-spreads g c = subst (λ (b : Bool). TakesItem b c.args.p.now c.parse_spread_element.new.p c.parse_spread_element.result) (sym c.if-spreads.true) (λ text f a. spread_item a (stands_so c.args.p.now Dot3 c.if-not-stands.false c.stands.ensures) _ c.parse_spread_element.result (c.parse_spread_element.ensures text f a))

pub returns : goal.returns
returns g c = subst (λ (b : Bool). TakesItem b c.args.p.now c.parse_refused_spread.new.p c.parse_refused_spread.result) (sym c.if-spreads.false) c.parse_refused_spread.ensures
