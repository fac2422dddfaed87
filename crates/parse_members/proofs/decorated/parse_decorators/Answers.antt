use Rattle.std.proofs.Common.{◌≡◌, ◌∙◌, List, Option, arith, refl, subst, sym}
use Rattle.std.proofs.lemmas.Bool.{false≢true}
use Rattle.std.proofs.lemmas.Result.{err_from_is_err_and}
use Rattle.parse_shared.proofs.laws_shared.Moving.{standing}
use Rattle.parse_shared.proofs.laws_shared.Nesting.{nests_later}
use Rattle.parse_primary.specs.laws_primary.Decorators.{DecoratorsTaken}
use Rattle.parse_primary.proofs.laws_primary.DecoratorLists.{first_stops, more_stops, more_taken, one_taken}
use Rattle.parse_primary.proofs.laws_primary.Functions.{room_less}
use Rattle.parse_members.proofs.decorated.parse_decorators.Goals as goal

pub returns-in_err-first : goal.returns-in_err-first
returns-in_err-first g c =
    let p = err_from_is_err_and c.from_residual.result c.from_residual.ensures.1 in
    rw (p.1, p.2) (λ text f a. first_stops a c.requires.sign _ _ (c.in_err-first.ensures text f a))

pub decorators-init : goal.decorators-init
decorators-init g c = λ text f a. rw (c.in_ok-push.ensures.items, c.new-decorators.ensures.items) (one_taken a c.requires.sign (c.in_ok-first.ensures text f a))

pub parse_decorator-requires-in-decorators-clause-at : goal.parse_decorator-requires-in-decorators-clause-at
parse_decorator-requires-in-decorators-clause-at g c = standing (c.decorators.invariant _ _ c.requires.at).at

pub parse_decorator-requires-in-decorators-clause-nests : goal.parse_decorator-requires-in-decorators-clause-nests
parse_decorator-requires-in-decorators-clause-nests g c =
    let x = c.decorators.invariant _ _ c.requires.at in
    nests_later c.requires.nests (let r = room_less c.requires.at x.further x.same in omega arith)

pub returns-in_err-decorator : goal.returns-in_err-decorator
returns-in_err-decorator g c =
    let p = err_from_is_err_and c.from_residual-in_err-decorator.result c.from_residual-in_err-decorator.ensures.1 in
    rw (p.1, p.2) (λ text f a. let x = c.decorators.invariant text f a in more_stops x (c.at.ensures.0 c.decorators-test.true) _ _ (c.in_err-decorator.ensures text f x.at))

pub decorators-smaller : goal.decorators-smaller
decorators-smaller g c =
    let x = c.decorators.invariant _ _ c.requires.at in
    let y = (c.in_ok-decorator.ensures _ _ x.at).answer in
    room_less x.at y.further y.same

pub decorators-preserved : goal.decorators-preserved
decorators-preserved g c = λ text f a.
    let x = c.decorators.invariant text f a in
    rw (c.in_ok-push-2.ensures.items) (more_taken x (c.at.ensures.0 c.decorators-test.true) (c.in_ok-decorator.ensures text f x.at))

pub returns : goal.returns
returns g c = (λ k. false≢true (sym c.decorators-test.false ∙ c.at.ensures.1 k), c.decorators.invariant)
