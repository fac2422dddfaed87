use Rattle.std.proofs.Common.{false, ◌∙◌}
use Rattle.js_base.specs.declared.kind.Kind.TheVariants.{Async}
use Rattle.parse_primary.proofs.laws_primary.Members.{stands_so}
use Rattle.laws_operators.proofs.Lists.{list_begins, no_word}
use Rattle.parse_arrows.proofs.arrow.begins_async_list.Goals as goal

pub returns-then-not-stands : goal.returns-then-not-stands
returns-then-not-stands g c = no_word (stands_so c.args.p.now Async c.if-not-stands.true c.stands.ensures)

pub returns-in_default : goal.returns-in_default
returns-in_default g c = list_begins (stands_so c.args.p.now Async c.if-not-stands.false c.stands.ensures) c.in_ok-next.ensures.same c.in_ok-next.ensures.answer false (λ e k. c.in_default.not-LParen (c.kind.ensures ∙ k))
