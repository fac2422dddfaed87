use Rattle.std.proofs.Common.{[], ◌≡◌, subst, sym}
use Rattle.js_base.specs.declared.diagnostic.Diagnostic.{Diagnostic}
use Rattle.parse_shared.specs.laws_shared.Classes.{EndsParse}
use Rattle.parse_shared.proofs.laws_shared.Giving.{gives_up}
use Rattle.parse_shared.proofs.laws_shared.Moving.{stops_behind, stops_so}
use Rattle.parse_shared.proofs.laws_shared.Verdicts.{after}
use Rattle.laws_patterns.proofs.BehindRests.{mark_later}
use Rattle.parse_patterns.proofs.object_pattern.refuse_rest.Goals as goal

pub set_fatal_error-requires-clause-at : goal.set_fatal_error-requires-clause-at
set_fatal_error-requires-clause-at g c = (c.in-Ok.ensures _ _ c.requires.at []).at.at

pub set_fatal_error-requires-clause-mark : goal.set_fatal_error-requires-clause-mark
set_fatal_error-requires-clause-mark g c = mark_later (c.in-Ok.ensures _ _ c.requires.at []).same c.requires.mark_unnamed

pub returns-in-Ok : goal.returns-in-Ok
returns-in-Ok g c = λ text f a.
    let x = c.in-Ok.ensures text f a [] in
    stops_behind _ _ x.same (λ e. after x.verdict e) (λ n. tt) (gives_up (λ (d : Diagnostic). d ≡ c.args.unnamed) _ _ {F = Unit {0}} _ x.at c.set_fatal_error.ensures (λ d u. subst EndsParse (sym u) c.requires.ends_unnamed) tt)

pub returns-in-Err : goal.returns-in-Err
returns-in-Err g c = λ text f a. stops_so _ _ _ (λ n. tt) (c.in-Err.ensures text f a)
