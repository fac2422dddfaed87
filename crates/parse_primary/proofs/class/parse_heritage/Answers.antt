use Rattle.std.proofs.Common.{refl}
use Rattle.std.proofs.lemmas.Result.{err_from_is_err_and}
use Rattle.js_base.specs.declared.kind.Kind.TheVariants.{Extends}
use Rattle.laws_primary.proofs.AsyncWords.{here_so}
use Rattle.laws_primary.proofs.laws_shared.Giving.{memory_stops}
use Rattle.laws_primary.proofs.laws_shared.Moving.{standing}
use Rattle.laws_primary.proofs.laws_shared.Nesting.{nested_room}
use Rattle.laws_primary.proofs.laws_shared.Signs.{whole_sign}
use Rattle.laws_primary.proofs.Classes.{heritage_stops, heritage_taken}
use Rattle.parse_primary.proofs.class.parse_heritage.Goals as goal

pub returns-then-not-stands : goal.returns-then-not-stands
returns-then-not-stands g c = (here_so c.args.p.now Extends c.if-not-stands.true c.stands.ensures, refl)

pub advance-requires-clause-whole : goal.advance-requires-clause-whole
advance-requires-clause-whole g c = whole_sign Extends c.requires.at (here_so c.args.p.now Extends c.if-not-stands.false c.stands.ensures).0 refl refl

pub returns-in_err-advance : goal.returns-in_err-advance
returns-in_err-advance g c =
    let p = err_from_is_err_and c.from_residual.result c.from_residual.ensures.1 in
    rw (p.1, p.2) (λ text f a. memory_stops _ _ _ _ c.in_err-advance.ensures)

pub left_hand_side-requires : goal.left_hand_side-requires
left_hand_side-requires g c = let m = c.in_ok-advance.ensures _ _ c.requires.at in c.requires.nests _ _ (standing m.at) (nested_room c.requires.at m)

pub returns-in_err-heritage : goal.returns-in_err-heritage
returns-in_err-heritage g c =
    let p = err_from_is_err_and c.from_residual-in_err-heritage.result c.from_residual-in_err-heritage.ensures.1 in
    let h = here_so c.args.p.now Extends c.if-not-stands.false c.stands.ensures in
    rw (p.1, p.2) (λ text f a.
    let m = c.in_ok-advance.ensures text f a in
    heritage_stops a h m _ _ (c.in_err-heritage.ensures text f m.at))

pub returns : goal.returns
returns g c =
    let h = here_so c.args.p.now Extends c.if-not-stands.false c.stands.ensures in
    λ text f ids a.
    let m = c.in_ok-advance.ensures text f a in
    heritage_taken a h m ids (c.in_ok-heritage.ensures text f m.at)
