use Rattle.std.proofs.Common.{◌∙◌, refl, arith, sym, subst}
use Rattle.std.proofs.lemmas.Bool.{false≢true}
use Rattle.std.proofs.lemmas.Result.{err_from_is_err_and}
use Rattle.js_base.specs.declared.diagnostic.DiagnosticKind.TheVariants.{BindingRestElementLast}
use Rattle.laws_patterns.proofs.BehindRests.{rest_marked}
use Rattle.laws_patterns.proofs.Lists.{more_stops, one_and_more}
use Rattle.parse_shared.proofs.laws_shared.Moving.{standing}
use Rattle.laws_patterns.proofs.PatternLists.{rest_stops, rest_taken}
use Rattle.parse_patterns.proofs.binding.parse_last_element.Goals as goal
use Rattle.parse_shared.specs.laws_shared.Classes.{EndsParse}

pub returns-in_err-rest : goal.returns-in_err-rest
returns-in_err-rest g c =
    let p = err_from_is_err_and c.from_residual.result c.from_residual.ensures.1 in
    rw (p.1, p.2) (λ text f a. rest_stops a c.requires.sign _ _ (c.in_err-rest.ensures text f a))

pub end_span-span-requires : goal.end_span-span-requires
end_span-span-requires g c = let x = (c.in_ok-rest.ensures _ _ c.requires.at).further in let s = c.cur_start-start.ensures in omega arith

pub check_behind_rest-requires-clause-at : goal.check_behind_rest-requires-clause-at
check_behind_rest-requires-clause-at g c = standing (c.in_ok-rest.ensures _ _ c.requires.at).at

pub check_behind_rest-requires-clause-mark : goal.check_behind_rest-requires-clause-mark
check_behind_rest-requires-clause-mark g c =
    let x = c.in_ok-rest.ensures _ _ c.requires.at in
    rest_marked BindingRestElementLast _ c.diagnostic_at-misplaced.ensures (λ s y. (y, (refl, refl))) c.requires.at c.requires.sign x.at x.same x.further (c.end_span-span.ensures.start ∙ c.cur_start-start.ensures) c.end_span-span.ensures.end

pub check_behind_rest-requires-clause-ends : goal.check_behind_rest-requires-clause-ends
check_behind_rest-requires-clause-ends g c = subst EndsParse (sym c.diagnostic_at-misplaced.ensures) refl

pub returns-in_err-check_behind_rest : goal.returns-in_err-check_behind_rest
returns-in_err-check_behind_rest g c =
    let p = err_from_is_err_and c.from_residual-in_err-check_behind_rest.result c.from_residual-in_err-check_behind_rest.ensures.1 in
    rw (p.1, p.2) (λ text f a. let x = rest_taken a c.requires.sign (c.in_ok-rest.ensures text f a) c.in_ok-push.ensures.items in more_stops _ _ x (c.in_err-check_behind_rest.ensures text f x.at))

pub returns : goal.returns
returns g c = (λ e. absurd (false≢true e), λ text f a. let x = rest_taken a c.requires.sign (c.in_ok-rest.ensures text f a) c.in_ok-push.ensures.items in one_and_more x (c.in_ok-check_behind_rest.ensures text f x.at _))
