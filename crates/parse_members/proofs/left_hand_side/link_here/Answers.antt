use Rattle.std.proofs.Common.{true, false, sym, subst}
use Rattle.parse_primary.specs.laws_primary.declared.forms.LinkBase.{LinkBase}
use Rattle.parse_primary.specs.laws_primary.Members.{LinkHere}
use Rattle.js_base.specs.declared.kind.Kind.TheVariants.{LParen, Dot, LBrack}
use Rattle.parse_primary.proofs.laws_primary.Members.{bracket_here, call_or_none, chain_or_none, name_here, no_access_here, paren_here, stands_so}
use Rattle.parse_members.proofs.left_hand_side.link_here.Goals as goal

pub returns-then-stands : goal.returns-then-stands
returns-then-stands g c = name_here c.args.base (stands_so c.args.p.now Dot c.if-stands.true c.stands.ensures)

pub returns-then-stands-2 : goal.returns-then-stands-2
returns-then-stands-2 g c = bracket_here c.args.base (stands_so c.args.p.now LBrack c.if-stands-2.true c.stands-2.ensures)

pub returns-then-stands-3 : goal.returns-then-stands-3
returns-then-stands-3 g c = subst (λ (b : LinkBase). LinkHere c.args.p.now b true) (sym c.in-Chain.is) (paren_here (stands_so c.args.p.now LParen c.if-stands-3.true c.stands-in-Chain.ensures))

pub returns-in-Member : goal.returns-in-Member
returns-in-Member g c = subst (λ (b : LinkBase). LinkHere c.args.p.now b false) (sym c.in-Member.is) (no_access_here (stands_so c.args.p.now Dot c.if-stands.false c.stands.ensures) (stands_so c.args.p.now LBrack c.if-stands-2.false c.stands-2.ensures))

pub returns-in-Call : goal.returns-in-Call
returns-in-Call g c = subst (λ (b : LinkBase). LinkHere c.args.p.now b c.stands-in-Call.result) (sym c.in-Call.is) (call_or_none (stands_so c.args.p.now Dot c.if-stands.false c.stands.ensures) (stands_so c.args.p.now LBrack c.if-stands-2.false c.stands-2.ensures) c.stands-in-Call.result c.stands-in-Call.ensures)

pub returns-else-stands-3 : goal.returns-else-stands-3
returns-else-stands-3 g c = subst (λ (b : LinkBase). LinkHere c.args.p.now b c.stands-in-Chain-2.result) (sym c.in-Chain.is) (chain_or_none (stands_so c.args.p.now Dot c.if-stands.false c.stands.ensures) (stands_so c.args.p.now LBrack c.if-stands-2.false c.stands-2.ensures) c.stands-in-Chain-2.result (stands_so c.args.p.now LParen c.if-stands-3.false c.stands-in-Chain.ensures) c.stands-in-Chain-2.ensures)
