use Rattle.std.proofs.Common.{sym, ◌∙◌}
use Rattle.part_text.proofs.EscapeLemmas.{along, at_stop, at_end_right, at_end_cut}
use Rattle.part_text.proofs.escape.invalid_escape.Goals as goal

pub loop-place-preserved : goal.loop-place-preserved
loop-place-preserved c =
    let l = c.loop-place.invariant.0 in (
      along c.args.inside.now c.loop-place.place-iterator c.next.new.self c.loop-place.reading c.in-Some-read.next c.in-Some.place c.in-Some.c l c.in-Some.ensures.steps (c.in-Some-read.ensures.read l.front (c.in-Some.ensures.steps.0 ∙ l.place) l.read),
      c.in-Some-read.ensures.fits,
    )

pub returns-in-None-read : goal.returns-in-None-read
returns-in-None-read c =
    let l = c.loop-place.invariant.0 in
    at_stop c.args.inside.now c.loop-place.place-iterator c.next.new.self c.loop-place.reading c.in-Some.place c.in-Some.c l c.in-Some.ensures.steps (c.in-None-read.ensures.read l.front (c.in-Some.ensures.steps.0 ∙ l.place) l.read)

pub returns-in-Some-finish : goal.returns-in-Some-finish
returns-in-Some-finish c = at_end_right c.args.inside.now c.loop-place.place-iterator c.loop-place.reading _ c.loop-place.invariant.0 c.in-None.ensures.steps.0 (sym c.in-Some-finish.ensures)

pub returns-in-None-finish : goal.returns-in-None-finish
returns-in-None-finish c = at_end_cut c.args.inside.now c.loop-place.place-iterator c.loop-place.reading c.utf8.inside c.loop-place.invariant.0 c.in-None.ensures.steps.0 (sym c.in-None-finish.ensures)
