use Rattle.std.proofs.Common.{[], ◌∷◌, ap, sym, refl, ◌∙◌}
use Rattle.js_base.specs.Kinds.{one_of_kinds}
use Rattle.js_base.specs.KindSets.{identifier_name_kinds}
use Rattle.js_base.specs.declared.kind.Kind.TheVariants.{Dot3, Star}
use Rattle.js_grammar.specs.Productions.{at, Property}
use Rattle.laws_primary.proofs.laws_shared.NameKinds.{or_kind}
use Rattle.laws_primary.proofs.PropertyForms.{dots_only, dots_stand, star_stands}
use Rattle.laws_primary.proofs.Wholes.{item_by}
use Rattle.parse_primary.proofs.object.parse_property.Goals as goal

pub parse_word_property-requires-clause-word : goal.parse_word_property-requires-clause-word
parse_word_property-requires-clause-word g c = sym (ap (one_of_kinds identifier_name_kinds) c.cur_kind.ensures) ∙ (sym c.is_identifier_name.ensures ∙ c.if-is_identifier_name.true)

pub parse_spread_element-requires-clause-sign : goal.parse_spread_element-requires-clause-sign
parse_spread_element-requires-clause-sign g c = dots_stand c.requires.at (sym c.cur_kind-2.ensures ∙ c.in-Dot3.is)

pub returns-in-Dot3 : goal.returns-in-Dot3
returns-in-Dot3 g c = λ text f a. item_by text f c.args.p.now (at Property f) _ c.parse_spread_element.result (dots_only a (sym c.cur_kind-2.ensures ∙ c.in-Dot3.is)) (c.parse_spread_element.ensures text f a)

pub parse_generator_method-requires-clause-sign : goal.parse_generator_method-requires-clause-sign
parse_generator_method-requires-clause-sign g c = star_stands c.requires.at (sym c.cur_kind-2.ensures ∙ c.in-Star.is)

pub parse_other_property-requires-clause-no_word : goal.parse_other_property-requires-clause-no_word
parse_other_property-requires-clause-no_word g c = sym (ap (one_of_kinds identifier_name_kinds) c.cur_kind.ensures) ∙ (sym c.is_identifier_name.ensures ∙ c.if-is_identifier_name.false)

pub parse_other_property-requires-clause-no_sign : goal.parse_other_property-requires-clause-no_sign
parse_other_property-requires-clause-no_sign g c = or_kind Dot3 (Star ∷ []) _ (λ k. c.in_default.not-Dot3 (c.cur_kind-2.ensures ∙ k)) (or_kind Star [] _ (λ k. c.in_default.not-Star (c.cur_kind-2.ensures ∙ k)) refl)
