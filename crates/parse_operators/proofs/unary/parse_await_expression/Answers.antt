use Rattle.std.proofs.Common.{◌∙◌, ap, arith}
use Rattle.js_base.specs.Kinds.{one_of_kinds}
use Rattle.js_base.specs.KindSets.{identifier_name_kinds}
use Rattle.std.proofs.lemmas.Result.{err_from_is_err_and}
use Rattle.parse_shared.proofs.laws_shared.Moving.{standing, stops_behind}
use Rattle.parse_shared.proofs.laws_shared.Nesting.{nested_room}
use Rattle.parse_shared.proofs.laws_shared.Verdicts.{grown_then}
use Rattle.parse_primary.proofs.laws_primary.Members.{word_whole}
use Rattle.laws_operators.proofs.Awaits.{await_answers, await_fails, awaits_at}
use Rattle.parse_operators.proofs.unary.parse_await_expression.Goals as goal

pub advance-requires-clause-whole : goal.advance-requires-clause-whole
advance-requires-clause-whole t c = word_whole c.requires.at (ap (one_of_kinds identifier_name_kinds) c.requires.word.kind)

pub unary-requires : goal.unary-requires
unary-requires t c = let m = c.in_ok-advance.ensures _ _ c.requires.at in c.requires.nests _ _ (standing m.at) (nested_room c.requires.at m)

pub returns-in_err-argument : goal.returns-in_err-argument
returns-in_err-argument t c = λ text f a.
    let p = err_from_is_err_and c.from_residual-in_err-argument.result c.from_residual-in_err-argument.ensures.1 in
    let m = c.in_ok-advance.ensures text f a in
    rw (p.1, p.2) (stops_behind _ _ m.same (λ g. grown_then m.kept g) (await_fails a c.requires.word.kind (awaits_at a c.requires.word.awaits) c.requires.plain m) (c.in_err-argument.ensures text f m.at))

pub end_span-span-requires : goal.end_span-span-requires
end_span-span-requires t c =
    let m = c.in_ok-advance.ensures _ _ c.requires.at in
    let x = (c.in_ok-argument.ensures _ _ m.at).answer in
    let a = m.further in let b = x.further in let d = m.at.behind in let s = c.cur_start-start.ensures in omega arith

pub returns : goal.returns
returns t c = λ text f a.
    let m = c.in_ok-advance.ensures text f a in
    await_answers a c.requires.word.kind (awaits_at a c.requires.word.awaits) c.requires.plain m _ (c.in_ok-argument.ensures text f m.at) (c.end_span-span.ensures.start ∙ c.cur_start-start.ensures) c.end_span-span.ensures.end c.in_ok-node.ensures
