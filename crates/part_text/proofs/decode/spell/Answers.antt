use Rattle.std.proofs.lemmas.Iterator.{YieldsList-from_chars}
use Rattle.std.proofs.lemmas.Iterator.Consumers.{YieldsList-turn, YieldsList-end}
use Rattle.std.specs.Str.{chars}
use Rattle.part_text.specs.DecodingSteps.{state_of}
use Rattle.part_text.proofs.DecodingLemmas.{turn-fits, spelled-some, spelled-none, spelled-end-none, spelled-end-some}
use Rattle.part_text.proofs.decode.spell.Goals as goal

pub returns-in-None-2 : goal.returns-in-None-2
returns-in-None-2 c =
    let t = YieldsList-turn (YieldsList-from_chars c.args.raw.now c.utf8.raw cc) c.loop-c.yielded _ c.loop-c.yielded_by _ _ c.in-Some.c c.in-Some.is c.next.ensures.steps in
    spelled-none c.loop-c.text c.feed_name.new.text (chars c.args.raw.now) c.loop-c.yielded (state_of c.loop-c.state) c.in_ok-next.field-0 c.in-Some.c _ c.in-None-2.is c.in_ok-next.ensures.read t c.loop-c.invariant.0

pub loop-c-preserved : goal.loop-c-preserved
loop-c-preserved c =
    let t = YieldsList-turn (YieldsList-from_chars c.args.raw.now c.utf8.raw cc) c.loop-c.yielded _ c.loop-c.yielded_by _ _ c.in-Some.c c.in-Some.is c.next.ensures.steps in (
      spelled-some c.loop-c.text _ (chars c.args.raw.now) c.loop-c.yielded (state_of c.loop-c.state) c.in_ok-next.field-0 c.in-Some-2.next c.in-Some.c _ c.in-Some-2.is c.in_ok-next.ensures.read t c.loop-c.invariant.0,
      turn-fits c.in_ok-next.field-0 c.in-Some-2.next c.in-Some-2.is c.in_ok-next.ensures.fits,
    )

pub returns-in_default : goal.returns-in_default
returns-in_default c =
    let t = YieldsList-end (YieldsList-from_chars c.args.raw.now c.utf8.raw cc) c.loop-c.yielded _ c.loop-c.yielded_by _ _ c.in-None.is c.next.ensures.steps in
    spelled-end-none c.loop-c.text (chars c.args.raw.now) c.loop-c.yielded (state_of c.loop-c.state) c.finish.result _ t.1 c.finish.ensures c.in_default.is c.loop-c.invariant.0

pub returns-then-branch : goal.returns-then-branch
returns-then-branch c =
    let t = YieldsList-end (YieldsList-from_chars c.args.raw.now c.utf8.raw cc) c.loop-c.yielded _ c.loop-c.yielded_by _ _ c.in-None.is c.next.ensures.steps in
    spelled-end-some c.loop-c.text c.push_characters.new.text (chars c.args.raw.now) c.loop-c.yielded (state_of c.loop-c.state) c.finish.result c.in-Some-finish.points c.in_ok-push_characters.field-0 _ t.1 c.finish.ensures c.in-Some-finish.is c.in_ok-push_characters.ensures.scalar c.if-branch.true c.in_ok-push_characters.ensures.text c.loop-c.invariant.0
