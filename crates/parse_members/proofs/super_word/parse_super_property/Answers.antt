use Rattle.parse_primary.specs.laws_primary.declared.forms.LinkBase.TheVariants as base
use Rattle.parse_primary.proofs.laws_primary.Members.{here_so, member_too}
use Rattle.parse_primary.proofs.laws_primary.Supers.{property_outcome, super_alone}
use Rattle.parse_members.proofs.super_word.parse_super_property.Goals as goal

pub returns-then-not-link_here : goal.returns-then-not-link_here
returns-then-not-link_here g c = λ text f o a s e x. super_alone a s x (here_so c.args.p.now base.Member c.if-not-link_here.true c.link_here.ensures) c.requires.uncalled

pub parse_link-requires-clause-link : goal.parse_link-requires-clause-link
parse_link-requires-clause-link g c = member_too (here_so c.args.p.now base.Member c.if-not-link_here.false c.link_here.ensures)

pub returns : goal.returns
returns g c = λ text f o a s e x. property_outcome a s x (here_so c.args.p.now base.Member c.if-not-link_here.false c.link_here.ensures) c.requires.uncalled e _ c.parse_link.result (c.parse_link.ensures text f x.at)
