use Rattle.js_base.specs.declared.kind.Kind.TheVariants.{LParen}
use Rattle.laws_patterns.proofs.laws_primary.Members.{stands_so}
use Rattle.parse_shared.proofs.laws_shared.Giving.{gives_up_here}
use Rattle.laws_patterns.proofs.MethodParameters.{method_outcome, no_parameters}
use Rattle.parse_patterns.proofs.method_parameters.parse_method_parameters.Goals as goal

pub returns-then-not-stands : goal.returns-then-not-stands
returns-then-not-stands g c = λ text f a. gives_up_here _ _ c.set_unexpected.result a c.set_unexpected.ensures (no_parameters c.args.form a (stands_so c.args.p.now LParen c.if-not-stands.true c.stands.ensures))

pub parse_formal_parameters-requires-clause-open : goal.parse_formal_parameters-requires-clause-open
parse_formal_parameters-requires-clause-open g c = (stands_so c.args.p.now LParen c.if-not-stands.false c.stands.ensures).0

pub parse_getter_parameters-requires-clause-open : goal.parse_getter_parameters-requires-clause-open
parse_getter_parameters-requires-clause-open g c = (stands_so c.args.p.now LParen c.if-not-stands.false c.stands.ensures).0

pub parse_setter_parameters-requires-clause-open : goal.parse_setter_parameters-requires-clause-open
parse_setter_parameters-requires-clause-open g c = (stands_so c.args.p.now LParen c.if-not-stands.false c.stands.ensures).0

pub returns-in-Method : goal.returns-in-Method
returns-in-Method g c = rw (c.in-Method.is) (λ text f a. method_outcome text f _ _ c.parse_formal_parameters.result (c.parse_formal_parameters.ensures text f a))

pub returns-in-Getter : goal.returns-in-Getter
returns-in-Getter g c = rw (c.in-Getter.is) c.parse_getter_parameters.ensures

pub returns-in-Setter : goal.returns-in-Setter
returns-in-Setter g c = rw (c.in-Setter.is) c.parse_setter_parameters.ensures
