use Rattle.std.proofs.Common.{ap, sym, ◌∙◌}
use Rattle.std.proofs.lemmas.Bool.{false≢true}
use Rattle.js_base.specs.KindSets.{identifier_name_kinds}
use Rattle.js_base.specs.Kinds.{one_of_kinds}
use Rattle.laws_classes.specs.Members.{name_kinds}
use Rattle.laws_classes.proofs.Elements.{at_first}
use Rattle.laws_classes.proofs.NoMembers.{member_unexpected, plain_here, unlisted}
use Rattle.parse_classes.proofs.member.parse_member.Goals as goal

pub parse_word_member-requires-clause-word : goal.parse_word_member-requires-clause-word
parse_word_member-requires-clause-word g c = sym (ap (one_of_kinds identifier_name_kinds) c.cur_kind.ensures) ∙ (sym c.is_identifier_name.ensures ∙ c.if-is_identifier_name.true)

pub parse_generator_method-requires-clause-sign : goal.parse_generator_method-requires-clause-sign
parse_generator_method-requires-clause-sign g c = c.at.ensures.0 c.if-at.true

pub parse_string_member-requires-clause-string : goal.parse_string_member-requires-clause-string
parse_string_member-requires-clause-string g c = c.at-2.ensures.0 c.if-at-2.true

pub returns-then-not-begins_name : goal.returns-then-not-begins_name
returns-then-not-begins_name g c = λ text f first af s b.
    let a = at_first c.args.head.is_static af b in
    member_unexpected c.args.head.is_static af b a (unlisted a c.requires.undecorated (λ k. false≢true (sym c.if-at.false ∙ c.at.ensures.1 k)) (sym (ap (one_of_kinds name_kinds) c.cur_kind-2.ensures) ∙ (sym c.begins_name.ensures ∙ c.if-not-begins_name.true))) _ c.set_unexpected.result c.set_unexpected.ensures

pub parse_other_member-requires-clause-plain : goal.parse_other_member-requires-clause-plain
parse_other_member-requires-clause-plain g c = plain_here c.requires.at (λ k. false≢true (sym c.if-at-2.false ∙ c.at-2.ensures.1 k)) (λ k. false≢true (sym c.if-at.false ∙ c.at.ensures.1 k)) (sym (ap (one_of_kinds identifier_name_kinds) c.cur_kind.ensures) ∙ (sym c.is_identifier_name.ensures ∙ c.if-is_identifier_name.false))

pub parse_other_member-requires-clause-name : goal.parse_other_member-requires-clause-name
parse_other_member-requires-clause-name g c = sym (ap (one_of_kinds name_kinds) c.cur_kind-2.ensures) ∙ (sym c.begins_name.ensures ∙ c.if-not-begins_name.false)
