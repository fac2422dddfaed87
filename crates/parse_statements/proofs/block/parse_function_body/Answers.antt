use Rattle.std.proofs.Common.{◌∙◌, arith, sym}
use Rattle.std.proofs.lemmas.Bool.{false≢true}
use Rattle.std.proofs.lemmas.Result.{err_from_is_err_and}
use Rattle.parse_shared.specs.laws_shared.Classes.{EndsParse}
use Rattle.parse_shared.proofs.laws_shared.Giving.{gives_up}
use Rattle.parse_shared.proofs.laws_shared.Moving.{stops_so}
use Rattle.parse_control.proofs.laws_statements.Blocks.{bodiless, body_answers, body_none}
use Rattle.parse_statements.proofs.block.parse_function_body.Goals as goal

pub returns-in_err-items : goal.returns-in_err-items
returns-in_err-items t c = λ text f a.
    let p = err_from_is_err_and c.from_residual.result c.from_residual.ensures.1 in
    rw (p.1, p.2) (stops_so _ _ _ (λ n. body_none n) (c.in_err-items.ensures text f a))

pub returns-then-not-at : goal.returns-then-not-at
returns-then-not-at t c = λ text f a. gives_up EndsParse _ _ c.refuse_bodiless.result a c.refuse_bodiless.ensures (λ d u. u) (bodiless a (λ k. false≢true (sym c.if-not-at.true ∙ c.at.ensures.1 k)))

pub end_span-span-requires : goal.end_span-span-requires
end_span-span-requires t c = let x = (c.in_ok-items.ensures _ _ c.requires.at).further in let s = c.cur_start-start.ensures in omega arith

pub returns : goal.returns
returns t c = λ text f a. body_answers a (c.in_ok-items.ensures text f a) _ (c.end_span-span.ensures.start ∙ c.cur_start-start.ensures) c.end_span-span.ensures.end c.in_ok-node.ensures
