use Rattle.std.proofs.Common.{refl, sym, ap, arith, ◌∙◌}
use Rattle.js_base.specs.Kinds.{one_of_kinds}
use Rattle.js_base.specs.KindSets.{identifier_name_kinds}
use Rattle.std.proofs.lemmas.Bool.{false≢true}
use Rattle.std.proofs.lemmas.Result.{err_from_is_err_and}
use Rattle.parse_shared.proofs.laws_shared.Moving.{standing, stops_behind}
use Rattle.parse_shared.proofs.laws_shared.Nesting.{nested_room, nests_later}
use Rattle.parse_shared.proofs.laws_shared.Verdicts.{grown_then}
use Rattle.parse_primary.proofs.laws_primary.Members.{word_whole}
use Rattle.laws_operators.proofs.HeadOperands.{made_no_target}
use Rattle.laws_operators.proofs.Yields.{argued_is, argument_answers, argument_none, bare_answers, bare_is}
use Rattle.parse_operators.proofs.yield_expression.parse_yield_expression.Goals as goal

pub advance-requires-clause-whole : goal.advance-requires-clause-whole
advance-requires-clause-whole g c = word_whole c.requires.at (ap (one_of_kinds identifier_name_kinds) c.requires.word.kind)

pub end_span-span-requires : goal.end_span-span-requires
end_span-span-requires g c = let m = c.in_ok-advance.ensures _ _ c.requires.at in let a = m.further in let s = c.cur_start-start.ensures in omega arith

pub returns-then-is_bare-clause-answers : goal.returns-then-is_bare-clause-answers
returns-then-is_bare-clause-answers g c = λ text f a. bare_answers a c.requires.word (c.in_ok-advance.ensures text f a) _ (bare_is _ _ (sym c.is_bare.ensures ∙ c.if-is_bare.true)) (c.end_span-span.ensures.start ∙ c.cur_start-start.ensures) c.end_span-span.ensures.end c.in_ok-node.ensures

pub parse_delegate-requires-clause-at : goal.parse_delegate-requires-clause-at
parse_delegate-requires-clause-at g c = standing (c.in_ok-advance.ensures _ _ c.requires.at).at

pub parse_delegate-requires-clause-nests : goal.parse_delegate-requires-clause-nests
parse_delegate-requires-clause-nests g c = nests_later c.requires.nests (let r = nested_room c.requires.at (c.in_ok-advance.ensures _ _ c.requires.at) in omega arith)

pub parse_delegate-requires-clause-start : goal.parse_delegate-requires-clause-start
parse_delegate-requires-clause-start g c = let m = c.in_ok-advance.ensures _ _ c.requires.at in let a = m.further in let s = c.cur_start-start.ensures in omega arith

pub parse_delegate-requires-clause-star : goal.parse_delegate-requires-clause-star
parse_delegate-requires-clause-star g c = c.at.ensures.0 c.if-at.true

pub returns-then-at-clause-answers : goal.returns-then-at-clause-answers
returns-then-at-clause-answers g c = λ text f a. c.parse_delegate.ensures.answers text f c.args.p.now a c.requires.word (c.in_ok-advance.ensures text f a) (argued_is _ _ (sym c.is_bare.ensures ∙ c.if-is_bare.false)).0 c.cur_start-start.ensures

pub assignment-requires : goal.assignment-requires
assignment-requires g c = let m = c.in_ok-advance.ensures _ _ c.requires.at in c.requires.nests _ _ (standing m.at) (nested_room c.requires.at m)

pub returns-in_err-argument-clause-answers : goal.returns-in_err-argument-clause-answers
returns-in_err-argument-clause-answers g c = λ text f a.
    let p = err_from_is_err_and c.from_residual-in_err-argument.result c.from_residual-in_err-argument.ensures.1 in
    let m = c.in_ok-advance.ensures text f a in
    let z = argued_is _ _ (sym c.is_bare.ensures ∙ c.if-is_bare.false) in
    rw (p.1, p.2) (stops_behind _ _ m.same (λ g. grown_then m.kept g) (argument_none a c.requires.word m z.0 z.1 (λ k. false≢true (sym c.if-at.false ∙ c.at.ensures.1 k))) (c.in_err-argument.ensures text f m.at))

pub end_span-span-requires-2 : goal.end_span-span-requires-2
end_span-span-requires-2 g c =
    let m = c.in_ok-advance.ensures _ _ c.requires.at in
    let x = (c.in_ok-argument.ensures _ _ m.at).answer in
    let a = m.further in let b = x.further in let d = m.at.behind in let s = c.cur_start-start.ensures in omega arith

pub returns-clause-answers : goal.returns-clause-answers
returns-clause-answers g c = λ text f a.
    let m = c.in_ok-advance.ensures text f a in
    let z = argued_is _ _ (sym c.is_bare.ensures ∙ c.if-is_bare.false) in
    argument_answers a c.requires.word m z.0 z.1 _ (λ k. false≢true (sym c.if-at.false ∙ c.at.ensures.1 k)) (c.in_ok-argument.ensures text f m.at) (c.end_span-span-2.ensures.start ∙ c.cur_start-start.ensures) c.end_span-span-2.ensures.end c.in_ok-node-2.ensures

pub returns-then-is_bare-clause-node : goal.returns-then-is_bare-clause-node
returns-then-is_bare-clause-node g c = made_no_target refl (λ cs. refl) c.in_ok-node.ensures

pub returns-clause-node : goal.returns-clause-node
returns-clause-node g c = made_no_target refl (λ cs. refl) c.in_ok-node-2.ensures
