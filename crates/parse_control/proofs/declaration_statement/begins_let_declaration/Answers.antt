use Rattle.std.proofs.Common.{refl}
use Rattle.js_base.specs.declared.kind.Kind.TheVariants.{Let}
use Rattle.parse_primary.proofs.laws_primary.Members.{stands_so}
use Rattle.laws_statements.proofs.WordLookaheads.{no_let_here}
use Rattle.laws_statements.proofs.LetStatements.{let_begins}
use Rattle.parse_control.proofs.declaration_statement.begins_let_declaration.Goals as goal

pub returns-then-not-stands : goal.returns-then-not-stands
returns-then-not-stands g c = (refl, λ text f a. no_let_here a (stands_so c.args.p.now Let c.if-not-stands.true c.stands.ensures) c.args.in_list)

pub returns : goal.returns
returns g c = let_begins c.args.in_list c.args.p.now c.peek_token.new.self _ _ c.goes_on_with_let.result (stands_so c.args.p.now Let c.if-not-stands.false c.stands.ensures) c.in_ok-next.ensures.same c.in_ok-next.ensures.answer c.kind.ensures c.goes_on_with_let.ensures
