use Rattle.std.proofs.Common.{◌∙◌, ap}
use Rattle.js_base.specs.Kinds.{one_of_kinds}
use Rattle.js_base.specs.declared.kind.Kind.TheVariants.{Import}
use Rattle.laws_modules.specs.Items.{import_links}
use Rattle.laws_modules.proofs.Items.{by_peek, no_word}
use Rattle.laws_modules.proofs.laws_primary.Members.{stands_so}
use Rattle.parse_modules.proofs.module_item.import_stands.Goals as goal

pub returns-then-not-stands : goal.returns-then-not-stands
returns-then-not-stands g c = no_word (stands_so c.args.p.now Import c.if-not-stands.true c.stands.ensures)

pub returns : goal.returns
returns g c = by_peek c.is_link.result (stands_so c.args.p.now Import c.if-not-stands.false c.stands.ensures) c.in_ok-next.ensures.answer c.in_ok-next.ensures.same (c.is_link.ensures ∙ ap (one_of_kinds import_links) c.kind.ensures)
