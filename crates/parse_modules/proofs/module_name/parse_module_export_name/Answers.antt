use Rattle.std.proofs.Common.{ap, sym, ◌∙◌}
use Rattle.std.proofs.lemmas.Bool.{false≢true}
use Rattle.js_base.specs.Kinds.{one_of_kinds}
use Rattle.js_base.specs.KindSets.{identifier_name_kinds}
use Rattle.laws_modules.proofs.laws_primary.laws_shared.Giving.{gives_up_here}
use Rattle.laws_modules.proofs.ModuleNames.{no_export_name, word_taken}
use Rattle.parse_modules.proofs.module_name.parse_module_export_name.Goals as goal

pub returns-then-not-is_identifier_name : goal.returns-then-not-is_identifier_name
returns-then-not-is_identifier_name g c = λ text f a. gives_up_here _ _ c.set_unexpected.result a c.set_unexpected.ensures (no_export_name a (sym (ap (one_of_kinds identifier_name_kinds) c.cur_kind.ensures) ∙ (sym c.is_identifier_name.ensures ∙ c.if-not-is_identifier_name.true)) (λ k. false≢true (sym c.if-at.false ∙ c.at.ensures.1 k)))

pub returns : goal.returns
returns g c = word_taken _ _ c.parse_name.result (sym (ap (one_of_kinds identifier_name_kinds) c.cur_kind.ensures) ∙ (sym c.is_identifier_name.ensures ∙ c.if-not-is_identifier_name.false)) c.parse_name.ensures
