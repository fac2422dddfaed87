use Rattle.std.proofs.Common.{arith, refl}
use Rattle.std.proofs.lemmas.Result.{err_from_is_err_and}
use Rattle.js_base.specs.declared.kind.Kind.TheVariants.{Eq}
use Rattle.parse_shared.proofs.laws_shared.Signs.{whole_sign}
use Rattle.parse_shared.proofs.laws_shared.Moving.{standing}
use Rattle.parse_shared.proofs.laws_shared.Nesting.{nests_later, nested_room}
use Rattle.laws_patterns.proofs.RestInitialisers.{goes_on, initialiser_marked, kind_so, told_initialiser, value_stops}
use Rattle.parse_patterns.proofs.binding.parse_rest_initialiser.Goals as goal

pub advance-requires-clause-whole : goal.advance-requires-clause-whole
advance-requires-clause-whole g c = whole_sign Eq c.requires.at c.requires.equals refl refl

pub assignment_with_in-requires-clause-at : goal.assignment_with_in-requires-clause-at
assignment_with_in-requires-clause-at g c = standing (c.in_ok-advance.ensures _ _ c.requires.at).at

pub assignment_with_in-requires-clause-nests : goal.assignment_with_in-requires-clause-nests
assignment_with_in-requires-clause-nests g c = nests_later c.requires.nests (let r = nested_room c.requires.at (c.in_ok-advance.ensures _ _ c.requires.at) in omega arith)

pub returns-in_err-initialiser : goal.returns-in_err-initialiser
returns-in_err-initialiser g c = λ text f a.
    let p = err_from_is_err_and c.from_residual-in_err-initialiser.result c.from_residual-in_err-initialiser.ensures.1 in
    let m = c.in_ok-advance.ensures text f a in
    rw (p.1, p.2) (value_stops a c.requires.equals m _ _ (c.in_err-initialiser.ensures text f m.at))

pub end_span-span-requires : goal.end_span-span-requires
end_span-span-requires g c =
    let m = c.in_ok-advance.ensures _ _ c.requires.at in
    let y = (c.in_ok-initialiser.ensures _ _ m.at).answer in
    let s = c.requires.begins.before in let b = c.requires.at.behind in let d = m.further in let e = m.at.behind in let h = y.further in omega arith

pub error-requires-clause-at : goal.error-requires-clause-at
error-requires-clause-at g c =
    let m = c.in_ok-advance.ensures _ _ c.requires.at in
    (c.in_ok-initialiser.ensures _ _ m.at).answer.at.at

pub error-requires-clause-mark : goal.error-requires-clause-mark
error-requires-clause-mark g c =
    let m = c.in_ok-advance.ensures _ _ c.requires.at in
    initialiser_marked c.requires.at m (c.in_ok-initialiser.ensures _ _ m.at) c.args.place _ (kind_so c.args.place _ c.rest_initialiser_kind.ensures c.diagnostic_at.ensures) c.requires.begins c.end_span-span.ensures.start c.end_span-span.ensures.end

pub returns : goal.returns
returns g c = λ text f a.
    let m = c.in_ok-advance.ensures text f a in
    told_initialiser a c.requires.equals m (c.in_ok-initialiser.ensures text f m.at) c.in_ok-error.ensures (goes_on c.args.place (kind_so c.args.place _ c.rest_initialiser_kind.ensures c.diagnostic_at.ensures))
