use Rattle.js_base.specs.declared.kind.Kind.TheVariants.{LParen}
use Rattle.std.proofs.Common.{refl}
use Rattle.laws_operators.proofs.Arrows.{name_finds, neither, unmoved}
use Rattle.parse_primary.proofs.laws_primary.Members.{stands_so}
use Rattle.parse_shared.proofs.laws_shared.NameKinds.{name_so}
use Rattle.parse_arrows.proofs.arrow.parse_plain_head.Goals as goal

pub parse_name_head-requires-clause-name : goal.parse_name_head-requires-clause-name
parse_name_head-requires-clause-name g c = name_so c.args.p.now c.if-name_stands.true c.name_stands.ensures

pub returns-then-name_stands : goal.returns-then-name_stands
returns-then-name_stands g c = name_finds c.args.p.now c.parse_name_head.new.p _ c.requires.at (name_so c.args.p.now c.if-name_stands.true c.name_stands.ensures) c.in_ok-found.ensures

pub parse_head_at_parenthesis-requires-clause-open : goal.parse_head_at_parenthesis-requires-clause-open
parse_head_at_parenthesis-requires-clause-open g c = (stands_so c.args.p.now LParen c.if-stands.true c.stands.ensures).0

pub returns : goal.returns
returns g c = (unmoved refl, neither (name_so c.args.p.now c.if-name_stands.false c.name_stands.ensures) (stands_so c.args.p.now LParen c.if-stands.false c.stands.ensures))
