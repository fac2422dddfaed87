use Rattle.std.proofs.Common.{ap, sym, ◌∙◌}
use Rattle.js_base.specs.Kinds.{one_of_kinds}
use Rattle.js_base.specs.KindSets.{identifier_name_kinds}
use Rattle.laws_primary.proofs.laws_shared.Giving.{gives_up_here}
use Rattle.laws_primary.proofs.Members.{no_name, word_whole, name_taken}
use Rattle.parse_primary.proofs.leaf.parse_identifier_name.Goals as goal

pub returns-then-not-is_identifier_name : goal.returns-then-not-is_identifier_name
returns-then-not-is_identifier_name g c = λ text f a. gives_up_here _ _ c.set_unexpected.result a c.set_unexpected.ensures (no_name a (sym (ap (one_of_kinds identifier_name_kinds) c.cur_kind.ensures) ∙ (sym c.is_identifier_name.ensures ∙ c.if-not-is_identifier_name.true)))

pub parse_name-requires-clause-whole : goal.parse_name-requires-clause-whole
parse_name-requires-clause-whole g c = word_whole c.requires (sym (ap (one_of_kinds identifier_name_kinds) c.cur_kind.ensures) ∙ (sym c.is_identifier_name.ensures ∙ c.if-not-is_identifier_name.false))

pub returns : goal.returns
returns g c = λ text f a. name_taken text f _ _ c.parse_name.result a (sym (ap (one_of_kinds identifier_name_kinds) c.cur_kind.ensures) ∙ (sym c.is_identifier_name.ensures ∙ c.if-not-is_identifier_name.false)) c.parse_name.ensures

pub parse_name-requires-clause-word : goal.parse_name-requires-clause-word
parse_name-requires-clause-word g c = sym (ap (one_of_kinds identifier_name_kinds) c.cur_kind.ensures) ∙ (sym c.is_identifier_name.ensures ∙ c.if-not-is_identifier_name.false)
