use Rattle.std.proofs.Common.{refl, sym, ap, ◌∙◌}
use Rattle.js_base.specs.declared.kind.Kind.TheVariants.{Async, LParen}
use Rattle.js_base.specs.Kinds.{one_of_kinds}
use Rattle.js_base.specs.KindSets.{binding_identifier_kinds}
use Rattle.std.proofs.Common.{◌∷◌}
use Rattle.parse_primary.proofs.laws_primary.Members.{stands_so}
use Rattle.laws_operators.proofs.AsyncHeads.{async_begins, async_on_new_line, no_async_word}
use Rattle.parse_arrows.proofs.arrow.begins_async_head.Goals as goal

pub returns-then-not-stands : goal.returns-then-not-stands
returns-then-not-stands g c = (refl, no_async_word (stands_so c.args.p.now Async c.if-not-stands.true c.stands.ensures))

pub returns-then-is_on_new_line : goal.returns-then-is_on_new_line
returns-then-is_on_new_line g c = (c.in_ok-next.ensures.same, async_on_new_line (stands_so c.args.p.now Async c.if-not-stands.false c.stands.ensures) c.in_ok-next.ensures.answer (sym c.is_on_new_line.ensures ∙ c.if-is_on_new_line.true))

pub returns : goal.returns
returns g c = async_begins (stands_so c.args.p.now Async c.if-not-stands.false c.stands.ensures) c.in_ok-next.ensures.same c.in_ok-next.ensures.answer (sym c.is_on_new_line.ensures ∙ c.if-is_on_new_line.false) _ (c.begins_parameters.ensures ∙ ap (one_of_kinds (LParen ∷ binding_identifier_kinds)) c.kind.ensures)
