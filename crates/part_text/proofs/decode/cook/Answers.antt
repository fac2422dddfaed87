use Rattle.std.proofs.lemmas.Iterator.{YieldsList-from_chars}
use Rattle.std.proofs.lemmas.Iterator.Consumers.{YieldsList-turn, YieldsList-end}
use Rattle.std.specs.Str.{chars}
use Rattle.part_text.specs.DecodingSteps.{form_of, state_of}
use Rattle.part_text.proofs.DecodingLemmas.{turn-some, turn-none, turn-fits, end-some, end-none}
use Rattle.part_text.proofs.decode.cook.Goals as goal

pub returns-in-None-2 : goal.returns-in-None-2
returns-in-None-2 c =
    let t = YieldsList-turn (YieldsList-from_chars c.args.raw.now c.utf8.raw cc) c.loop-c.yielded _ c.loop-c.yielded_by _ _ c.in-Some.c c.in-Some.is c.next.ensures.steps in
    turn-none (form_of c.args.form) c.loop-c.units c.feed_line.new.units (chars c.args.raw.now) c.loop-c.yielded (state_of c.loop-c.state) c.loop-c.after_carriage c.in_ok-next.field-0 c.in-Some.c _ c.in-None-2.is c.in_ok-next.ensures.read t c.loop-c.invariant.0

pub loop-c-preserved : goal.loop-c-preserved
loop-c-preserved c =
    let t = YieldsList-turn (YieldsList-from_chars c.args.raw.now c.utf8.raw cc) c.loop-c.yielded _ c.loop-c.yielded_by _ _ c.in-Some.c c.in-Some.is c.next.ensures.steps in (
      turn-some (form_of c.args.form) c.loop-c.units _ (chars c.args.raw.now) c.loop-c.yielded (state_of c.loop-c.state) c.loop-c.after_carriage c.in_ok-next.field-0 c.in-Some-2.next c.in-Some.c _ c.in-Some-2.is c.in_ok-next.ensures.read t c.loop-c.invariant.0,
      turn-fits c.in_ok-next.field-0 c.in-Some-2.next c.in-Some-2.is c.in_ok-next.ensures.fits,
    )

pub returns-in_default : goal.returns-in_default
returns-in_default c =
    let t = YieldsList-end (YieldsList-from_chars c.args.raw.now c.utf8.raw cc) c.loop-c.yielded _ c.loop-c.yielded_by _ _ c.in-None.is c.next.ensures.steps in
    end-none (form_of c.args.form) c.loop-c.units (chars c.args.raw.now) c.loop-c.yielded (state_of c.loop-c.state) c.loop-c.after_carriage c.finish.result _ t.1 c.finish.ensures c.in_default.is c.loop-c.invariant.0

pub returns : goal.returns
returns c =
    let t = YieldsList-end (YieldsList-from_chars c.args.raw.now c.utf8.raw cc) c.loop-c.yielded _ c.loop-c.yielded_by _ _ c.in-None.is c.next.ensures.steps in
    end-some (form_of c.args.form) c.loop-c.units c.push_points.new.units (chars c.args.raw.now) c.loop-c.yielded (state_of c.loop-c.state) c.loop-c.after_carriage c.finish.result c.in-Some-finish.points _ t.1 c.finish.ensures c.in-Some-finish.is c.in_ok-push_points.ensures c.loop-c.invariant.0
