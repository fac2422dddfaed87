use Rattle.std.proofs.Common.{arith}
use Rattle.std.proofs.lemmas.Result.{err_from_is_err_and}
use Rattle.laws_primary.proofs.Templates.{templated}
use Rattle.parse_primary.proofs.template.parse_tagged_template.Goals as goal

pub returns-in_err-template : goal.returns-in_err-template
returns-in_err-template g c =
    let p = err_from_is_err_and c.from_residual.result c.from_residual.ensures.1 in
    rw (p.1, p.2) (λ text f a. c.in_err-template.ensures text f a)

pub end_span-span-requires : goal.end_span-span-requires
end_span-span-requires g c =
    let x = (c.in_ok-template.ensures _ _ c.requires.at).read.answer.further in
    let b = c.requires.at.behind in
    let s = c.requires.start in
    omega arith

pub returns : goal.returns
returns g c = λ text f a. templated c.requires.template (c.in_ok-template.ensures text f a) c.end_span-span.ensures.start c.end_span-span.ensures.end c.in_ok-node.ensures
