use Rattle.std.proofs.lemmas.Result.{err_from_is_err_and}
use Rattle.js_base.specs.declared.kind.Kind.TheVariants.{LBrack}
use Rattle.laws_primary.proofs.Members.{stands_so}
use Rattle.parse_primary.proofs.property_name.parse_property_name.Goals as goal

pub parse_computed_name-requires-clause-open : goal.parse_computed_name-requires-clause-open
parse_computed_name-requires-clause-open g c = stands_so c.args.p.now LBrack c.if-stands.true c.stands.ensures

pub returns-in_err-key : goal.returns-in_err-key
returns-in_err-key g c = let p = err_from_is_err_and c.from_residual.result c.from_residual.ensures.1 in rw (p.1, p.2) (λ text f a. c.in_err-key.ensures text f a)

pub returns-then-stands : goal.returns-then-stands
returns-then-stands g c = λ text f a. c.in_ok-key.ensures text f a

pub parse_plain_name-requires-clause-no_bracket : goal.parse_plain_name-requires-clause-no_bracket
parse_plain_name-requires-clause-no_bracket g c = stands_so c.args.p.now LBrack c.if-stands.false c.stands.ensures

pub returns : goal.returns
returns g c = λ text f a. c.in_ok-key-2.ensures text f a
