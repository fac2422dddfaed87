use Rattle.std.proofs.Common.{◌<◌, refl, arith, length}
use Rattle.std.proofs.lemmas.Option.{slice_get_read}
use Rattle.parse_shared.proofs.laws_shared.Moving.{standing}
use Rattle.parse_targets.proofs.PlacesTold.{next_place, place_fits, place_spotted, places_begin, places_end, places_next}
use Rattle.parse_targets.proofs.widening.tell_places.Goals as goal

pub places-init : goal.places-init
places-init g c = places_begin c.requires.spotted c.requires.fits

pub tell_place-requires-clause-at : goal.tell_place-requires-clause-at
tell_place-requires-clause-at g c = standing ((c.places.invariant).at _ _ c.requires.at)

pub tell_place-requires-clause-spotted : goal.tell_place-requires-clause-spotted
tell_place-requires-clause-spotted g c =
    let b = c.places-test.true in
    let n = c.len.ensures in
    let m = c.args.places.now.ok.0 in
    let l : c.places.next < length c.args.places.now.items = omega arith in
    let q = next_place c.args.places.now.items c.places.next c.index.result.now (slice_get_read c.args.places.now.items (length c.args.places.now.items) c.places.next c.index.result.now refl l c.index.ensures) in
    place_spotted c.places.invariant q

pub tell_place-requires-clause-fits : goal.tell_place-requires-clause-fits
tell_place-requires-clause-fits g c =
    let b = c.places-test.true in
    let n = c.len.ensures in
    let m = c.args.places.now.ok.0 in
    let l : c.places.next < length c.args.places.now.items = omega arith in
    let q = next_place c.args.places.now.items c.places.next c.index.result.now (slice_get_read c.args.places.now.items (length c.args.places.now.items) c.places.next c.index.result.now refl l c.index.ensures) in
    place_fits c.places.invariant q

pub places-preserved : goal.places-preserved
places-preserved g c =
    let b = c.places-test.true in
    let n = c.len.ensures in
    let m = c.args.places.now.ok.0 in
    let l : c.places.next < length c.args.places.now.items = omega arith in
    let q = next_place c.args.places.now.items c.places.next c.index.result.now (slice_get_read c.args.places.now.items (length c.args.places.now.items) c.places.next c.index.result.now refl l c.index.ensures) in
    places_next c.places.invariant q (omega arith) c.in_ok-tell_place.ensures

pub returns : goal.returns
returns g c =
    let b = c.places-test.false in
    let n = c.len.ensures in
    let m = c.args.places.now.ok.0 in
    places_end c.places.invariant (omega arith)
