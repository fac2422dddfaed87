use Rattle.std.proofs.Common.{arith, ◌∙◌}
use Rattle.std.proofs.lemmas.Result.{err_from_is_err_and}
use Rattle.std.proofs.lemmas.Bool.{not-true, not-false}
use Rattle.laws_primary.proofs.laws_shared.Moving.{standing}
use Rattle.laws_primary.proofs.laws_shared.Nesting.{nests_later}
use Rattle.laws_primary.proofs.Templates.{part_here, part_less, part_standing, parts_first, parts_next, parts_room, parts_stop, parts_stop_later, template_made}
use Rattle.parse_primary.proofs.template.parse_template_literal.Goals as goal

pub parts-init : goal.parts-init
parts-init g c = parts_first c.requires.template c.cur_start-start.ensures (λ text f a. c.in_ok-part.ensures text f (part_here a c.requires.template)) c.in_ok-push.ensures.items c.new-children.ensures.items

pub pass_part-requires : goal.pass_part-requires
pass_part-requires g c = record { at = part_standing (part_here c.requires.at c.requires.template) }

pub expression_with_in-requires-clause-at : goal.expression_with_in-requires-clause-at
expression_with_in-requires-clause-at g c = standing (c.parts.invariant.goes _ _ c.requires.at).way.at

pub expression_with_in-requires-clause-nests : goal.expression_with_in-requires-clause-nests
expression_with_in-requires-clause-nests g c = nests_later c.requires.nests (let r = parts_room c.requires.at (c.parts.invariant.goes _ _ c.requires.at) in omega arith)

pub returns-in_err-expression : goal.returns-in_err-expression
returns-in_err-expression g c =
    let p = err_from_is_err_and c.from_residual-in_err-expression.result c.from_residual-in_err-expression.ensures.1 in
    rw (p.1, p.2) (λ text f a. let x = c.parts.invariant.goes text f a in parts_stop _ _ (not-true c.parts.part.is_last c.parts-test.true) x (c.in_err-expression.ensures text f x.way.at))

pub re_lex_part-requires : goal.re_lex_part-requires
re_lex_part-requires g c = record { at = standing (c.in_ok-expression.ensures _ _ (c.parts.invariant.goes _ _ c.requires.at).way.at).answer.at }

pub returns-in_err-re_lex_part : goal.returns-in_err-re_lex_part
returns-in_err-re_lex_part g c =
    let p = err_from_is_err_and c.from_residual-in_err-re_lex_part.result c.from_residual-in_err-re_lex_part.ensures.1 in
    rw (p.1, p.2) (λ text f a. let x = c.parts.invariant.goes text f a in let y = c.in_ok-expression.ensures text f x.way.at in parts_stop_later _ _ (not-true c.parts.part.is_last c.parts-test.true) x y (c.in_err-re_lex_part.ensures text f y.answer.at))

pub pass_part-requires-in-parts : goal.pass_part-requires-in-parts
pass_part-requires-in-parts g c = record { at = part_standing (c.in_ok-re_lex_part.ensures _ _ (c.in_ok-expression.ensures _ _ (c.parts.invariant.goes _ _ c.requires.at).way.at).answer.at).at }

pub parts-smaller : goal.parts-smaller
parts-smaller g c =
    let x = c.parts.invariant.goes _ _ c.requires.at in
    let y = c.in_ok-expression.ensures _ _ x.way.at in
    let b = c.in_ok-re_lex_part.ensures _ _ y.answer.at in
    part_less x.way.at y b (c.in_ok-part-2.ensures _ _ b.at)

pub parts-preserved : goal.parts-preserved
parts-preserved g c = parts_next (not-true c.parts.part.is_last c.parts-test.true) c.parts.invariant c.in_ok-expression.ensures c.in_ok-re_lex_part.ensures c.in_ok-part-2.ensures c.in_ok-push-2.ensures.items c.in_ok-push-3.ensures.items

pub end_span-span-requires : goal.end_span-span-requires
end_span-span-requires g c = let x = (c.parts.invariant.goes _ _ c.requires.at).way.further in let s = c.parts.invariant.start_is in omega arith

pub returns : goal.returns
returns g c = λ text f a. let z = c.parts.invariant.goes text f a in template_made a (not-false c.parts.part.is_last c.parts-test.false) z (c.end_span-span.ensures.start ∙ c.parts.invariant.start_is) c.end_span-span.ensures.end c.in_ok-node.ensures
