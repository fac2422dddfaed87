use Rattle.js_base.specs.declared.kind.Kind.TheVariants.{Async, Function}
use Rattle.laws_primary.proofs.AsyncWords.{begins_there, by_next, here_so, none_there}
use Rattle.parse_primary.proofs.function.function_stands.Goals as goal

pub returns-then-stands : goal.returns-then-stands
returns-then-stands g c = begins_there (here_so c.args.p.now Function c.if-stands.true c.stands.ensures)

pub returns-then-not-stands : goal.returns-then-not-stands
returns-then-not-stands g c = none_there (here_so c.args.p.now Function c.if-stands.false c.stands.ensures) (here_so c.args.p.now Async c.if-not-stands.true c.stands-2.ensures)

pub returns : goal.returns
returns g c = by_next c.args.p.now _ _ (here_so c.args.p.now Function c.if-stands.false c.stands.ensures) (here_so c.args.p.now Async c.if-not-stands.false c.stands-2.ensures) c.is_function_behind.ensures
