use Rattle.std.proofs.Common.{◌∙◌, arith, sym}
use Rattle.std.proofs.lemmas.Bool.{false≢true}
use Rattle.std.proofs.lemmas.Result.{err_from_is_err_and}
use Rattle.laws_patterns.proofs.RestInitialisers.{finish_stops, finished_alone, finished_with}
use Rattle.parse_patterns.proofs.binding.finish_rest.Goals as goal

pub end_span-span-requires : goal.end_span-span-requires
end_span-span-requires g c = let i = c.requires.before in let j = c.requires.begins.before in omega arith

pub returns-then-not-at : goal.returns-then-not-at
returns-then-not-at g c = λ text f k o a e x. finished_alone a x _ (λ i. false≢true (sym c.if-not-at.true ∙ c.at.ensures.1 i)) (c.end_span-span.ensures.start ∙ e) c.end_span-span.ensures.end c.in_ok-node.ensures

pub parse_rest_initialiser-requires-clause-equals : goal.parse_rest_initialiser-requires-clause-equals
parse_rest_initialiser-requires-clause-equals g c = c.at.ensures.0 c.if-not-at.false

pub returns-in_err-initialiser : goal.returns-in_err-initialiser
returns-in_err-initialiser g c = λ text f k o a e x.
    let p = err_from_is_err_and c.from_residual-in_err-initialiser.result c.from_residual-in_err-initialiser.ensures.1 in
    rw (p.1, p.2) (finish_stops a x _ _ (c.in_err-initialiser.ensures text f x.at))

pub end_span-span-requires-2 : goal.end_span-span-requires-2
end_span-span-requires-2 g c =
    let y = c.in_ok-initialiser.ensures _ _ c.requires.at in
    let i = c.requires.before in let j = c.requires.begins.before in let b = c.requires.at.behind in let h = y.further in omega arith

pub returns : goal.returns
returns g c = λ text f k o a e x. finished_with a x _ (c.in_ok-initialiser.ensures text f x.at) (c.end_span-span-2.ensures.start ∙ e) c.end_span-span-2.ensures.end c.in_ok-node-2.ensures
