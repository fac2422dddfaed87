use Rattle.std.proofs.Common.{sym, arith, ◌∙◌}
use Rattle.std.proofs.lemmas.Bool.{false≢true}
use Rattle.std.proofs.lemmas.Result.{err_from_is_err_and}
use Rattle.laws_modules.proofs.laws_primary.laws_shared.Giving.{memory_stops}
use Rattle.laws_modules.proofs.laws_primary.laws_shared.Moving.{standing}
use Rattle.laws_modules.proofs.Attributes.{attribute_answers, attribute_start, colon_moved, key_stops, no_colon, no_value}
use Rattle.parse_modules.proofs.attributes.parse_attribute.Goals as goal

pub returns-in_err-key : goal.returns-in_err-key
returns-in_err-key g c =
    let z = err_from_is_err_and c.from_residual.result c.from_residual.ensures.1 in
    rw (z.1, z.2) (λ text f a. key_stops _ _ a (c.in_err-key.ensures text f a))

pub expect-requires : goal.expect-requires
expect-requires g c = (c.in_ok-key.ensures _ _ c.requires).at.at

pub returns-in_err-expect : goal.returns-in_err-expect
returns-in_err-expect g c =
    let z = err_from_is_err_and c.from_residual-in_err-expect.result c.from_residual-in_err-expect.ensures.1 in
    rw (z.1, z.2) (λ text f a. no_colon a (c.in_ok-key.ensures text f a) _ _ c.in_err-expect.ensures)

pub refuse_value-requires : goal.refuse_value-requires
refuse_value-requires g c = standing (colon_moved c.requires (c.in_ok-key.ensures _ _ c.requires) c.in_ok-expect.ensures).at

pub returns-then-not-at : goal.returns-then-not-at
returns-then-not-at g c = λ text f a. no_value a (c.in_ok-key.ensures text f a) c.in_ok-expect.ensures _ _ (λ k. false≢true (sym c.if-not-at.true ∙ c.at.ensures.1 k)) c.refuse_value.ensures

pub parse_string-requires-clause-at : goal.parse_string-requires-clause-at
parse_string-requires-clause-at g c = standing (colon_moved c.requires (c.in_ok-key.ensures _ _ c.requires) c.in_ok-expect.ensures).at

pub end_span-span-requires : goal.end_span-span-requires
end_span-span-requires g c =
    let i = attribute_start c.requires (c.in_ok-key.ensures _ _ c.requires) c.in_ok-expect.ensures (c.at.ensures.0 c.if-not-at.false) c.in_ok-value.ensures in
    let j = c.cur_start-start.ensures in
    omega arith

pub returns : goal.returns
returns g c = λ text f a. attribute_answers a (c.in_ok-key.ensures text f a) c.in_ok-expect.ensures (c.at.ensures.0 c.if-not-at.false) c.in_ok-value.ensures c.end_span-span.result (c.end_span-span.ensures.start ∙ c.cur_start-start.ensures) c.end_span-span.ensures.end c.in_ok-node.ensures

pub returns-in_err-value : goal.returns-in_err-value
returns-in_err-value g c =
    let z = err_from_is_err_and c.from_residual-in_err-value.result c.from_residual-in_err-value.ensures.1 in
    rw (z.1, z.2) (λ text f a. memory_stops _ _ _ _ c.in_err-value.ensures)
