use Rattle.js_base.specs.declared.kind.Kind.TheVariants.{LParen, LBrack}
use Rattle.parse_primary.proofs.laws_primary.Members.{call_outcome, dot_left, index_outcome, stands_so}
use Rattle.parse_members.proofs.left_hand_side.parse_link.Goals as goal

pub parse_with_arguments-requires-clause-open : goal.parse_with_arguments-requires-clause-open
parse_with_arguments-requires-clause-open t c = (stands_so c.args.p.now LParen c.if-stands.true c.stands.ensures).0

pub returns-then-stands : goal.returns-then-stands
returns-then-stands t c = λ text f a. call_outcome _ _ _ c.parse_with_arguments.result a (stands_so c.args.p.now LParen c.if-stands.true c.stands.ensures) c.parse_with_arguments.ensures

pub parse_with_index-requires-clause-open : goal.parse_with_index-requires-clause-open
parse_with_index-requires-clause-open t c = (stands_so c.args.p.now LBrack c.if-stands-2.true c.stands-2.ensures).0

pub returns-then-stands-2 : goal.returns-then-stands-2
returns-then-stands-2 t c = λ text f a. index_outcome _ _ _ c.parse_with_index.result a (stands_so c.args.p.now LBrack c.if-stands-2.true c.stands-2.ensures) c.parse_with_index.ensures

pub parse_named_link-requires-clause-sign : goal.parse_named_link-requires-clause-sign
parse_named_link-requires-clause-sign t c = dot_left c.requires.link (stands_so c.args.p.now LParen c.if-stands.false c.stands.ensures) (stands_so c.args.p.now LBrack c.if-stands-2.false c.stands-2.ensures)
