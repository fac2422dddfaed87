use Rattle.std.proofs.Common.{Bool, None, Some, subst, sym, ◌∙◌}
use Rattle.parse_shared.proofs.laws_shared.Classes.{unexpected_ends}
use Rattle.parse_primary.proofs.laws_primary.NewTargets.{ends_so}
use Rattle.laws_statements.proofs.laws_operators.Refusals.{stood}
use Rattle.laws_statements.specs.ForParts.{HeadExpressionRead}
use Rattle.laws_statements.proofs.ForParts.{cover_is, head_marked, literal_outcome, literal_read, simple_stops, simple_taken}
use Rattle.parse_control.proofs.for_parts.head_target.Goals as goal

pub is_array_or_object-requires : goal.is_array_or_object-requires
is_array_or_object-requires g c = stood c.requires.read.read

pub literal_target-requires-clause-read : goal.literal_target-requires-clause-read
literal_target-requires-clause-read g c = literal_read c.requires.read (λ lo hi l cs h. sym (c.is_array_or_object.ensures lo hi l cs h) ∙ c.if-is_array_or_object.true)

pub returns-then-is_array_or_object : goal.returns-then-is_array_or_object
returns-then-is_array_or_object g c = literal_outcome _ _ (λ lo hi l cs h. sym (c.is_array_or_object.ensures lo hi l cs h) ∙ c.if-is_array_or_object.true) c.literal_target.ensures

pub cover-requires : goal.cover-requires
cover-requires g c = stood c.requires.read.read

pub refuse_target-requires-clause-marked : goal.refuse_target-requires-clause-marked
refuse_target-requires-clause-marked g c = λ n. head_marked (subst (λ (b : Bool). HeadExpressionRead b c.args.start c.args.expression c.args.kept c.args.p.now) c.if-begins_async.false c.requires.read) (λ lo hi l cs h. sym (c.is_array_or_object.ensures lo hi l cs h) ∙ c.if-is_array_or_object.false) (cover_is c.args.p.now c.args.expression c.cover.result None c.in-None.is c.cover.ensures) c.requires.through n

pub returns-in-Some : goal.returns-in-Some
returns-in-Some g c = λ text f first a i s k x o. simple_taken a i x o (cover_is c.args.p.now c.args.expression c.cover.result (Some c.in-Some.target) c.in-Some.is c.cover.ensures)

pub returns-then-begins_async : goal.returns-then-begins_async
returns-then-begins_async g c = λ text f first a i s k x o. simple_stops a i x o (λ lo hi l cs h. sym (c.is_array_or_object.ensures lo hi l cs h) ∙ c.if-is_array_or_object.false) (cover_is c.args.p.now c.args.expression c.cover.result None c.in-None.is c.cover.ensures) _ c.set_unexpected.result (ends_so _ _ _ c.set_unexpected.result (λ d e. unexpected_ends c.requires.at.at d e) c.set_unexpected.ensures)

pub returns-else-begins_async : goal.returns-else-begins_async
returns-else-begins_async g c = λ text f first a i s k x o. simple_stops a i x o (λ lo hi l cs h. sym (c.is_array_or_object.ensures lo hi l cs h) ∙ c.if-is_array_or_object.false) (cover_is c.args.p.now c.args.expression c.cover.result None c.in-None.is c.cover.ensures) _ c.refuse_target.result c.refuse_target.ensures
