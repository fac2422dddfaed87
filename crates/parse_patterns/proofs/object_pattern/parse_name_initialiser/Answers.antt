use Rattle.std.proofs.Common.{ap, arith, refl, sym, ◌∙◌}
use Rattle.std.proofs.lemmas.Bool.{false≢true}
use Rattle.std.proofs.lemmas.Result.{err_from_is_err_and}
use Rattle.js_base.specs.declared.kind.Kind.TheVariants.{Eq}
use Rattle.parse_shared.specs.js_cursor.Parsers.{Parser}
use Rattle.parse_shared.proofs.laws_shared.Giving.{memory_stops}
use Rattle.parse_shared.proofs.laws_shared.Moving.{standing}
use Rattle.parse_shared.proofs.laws_shared.Nesting.{nests_later, nested_room}
use Rattle.parse_shared.proofs.laws_shared.Signs.{whole_sign}
use Rattle.laws_patterns.proofs.ObjectPatterns.{at_here, bound_alone, bound_initialised, value_stops}
use Rattle.parse_patterns.proofs.object_pattern.parse_name_initialiser.Goals as goal

pub returns-then-not-at-clause-answers : goal.returns-then-not-at-clause-answers
returns-then-not-at-clause-answers g c = λ text f o k s n. bound_alone n (λ i. false≢true (sym c.if-not-at.true ∙ c.at.ensures.1 i))

pub advance-requires-clause-whole : goal.advance-requires-clause-whole
advance-requires-clause-whole g c = whole_sign Eq c.requires.at (c.at.ensures.0 c.if-not-at.false) refl refl

pub assignment_with_in-requires-clause-at : goal.assignment_with_in-requires-clause-at
assignment_with_in-requires-clause-at g c = standing (c.in_ok-advance.ensures _ _ c.requires.at).at

pub assignment_with_in-requires-clause-nests : goal.assignment_with_in-requires-clause-nests
assignment_with_in-requires-clause-nests g c = nests_later c.requires.nests (let r = nested_room c.requires.at (c.in_ok-advance.ensures _ _ c.requires.at) in omega arith)

pub returns-in_err-advance-clause-answers : goal.returns-in_err-advance-clause-answers
returns-in_err-advance-clause-answers g c = λ text f o k s n.
    let p = err_from_is_err_and c.from_residual.result c.from_residual.ensures.1 in
    rw (p.1, p.2) (memory_stops _ _ _ _ c.in_err-advance.ensures)

pub returns-in_err-initialiser-clause-answers : goal.returns-in_err-initialiser-clause-answers
returns-in_err-initialiser-clause-answers g c = λ text f o k s n.
    let p = err_from_is_err_and c.from_residual-in_err-initialiser.result c.from_residual-in_err-initialiser.ensures.1 in
    let m = c.in_ok-advance.ensures text f (at_here n) in
    rw (p.1, p.2) (value_stops n (c.at.ensures.0 c.if-not-at.false) m _ _ (c.in_err-initialiser.ensures text f m.at))

pub end_span-span-requires : goal.end_span-span-requires
end_span-span-requires g c =
    let m = c.in_ok-advance.ensures _ _ c.requires.at in
    let y = (c.in_ok-initialiser.ensures _ _ m.at).answer in
    let s = c.requires.before in let b = c.requires.at.behind in let d = m.further in let e = m.at.behind in let h = y.further in omega arith

pub returns-clause-answers : goal.returns-clause-answers
returns-clause-answers g c = λ text f o k s n.
    let m = c.in_ok-advance.ensures text f (at_here n) in
    bound_initialised n (c.at.ensures.0 c.if-not-at.false) m _ (c.in_ok-initialiser.ensures text f m.at) (c.end_span-span.ensures.start ∙ s) c.end_span-span.ensures.end c.in_ok-node.ensures

pub returns-clause-behind : goal.returns-clause-behind
returns-clause-behind g c =
    let m = c.in_ok-advance.ensures _ _ c.requires.at in
    let y = (c.in_ok-initialiser.ensures _ _ m.at).answer in
    let z = ap (λ (r : Parser). r.prev_token_end) c.in_ok-node.ensures.stays in
    let s = c.requires.before in let b = c.requires.at.behind in let d = m.further in let e = m.at.behind in let h = y.further in omega arith
