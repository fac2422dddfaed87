use Rattle.std.proofs.Common.{◌∙◌}
use Rattle.std.proofs.lemmas.Iterator.{YieldsList-from_chars}
use Rattle.std.proofs.lemmas.Iterator.Consumers.{YieldsList-turn, YieldsList-end}
use Rattle.std.specs.Prelude.{chars}
use Rattle.js_parser.specs.FlagScans.{both_behind}
use Rattle.js_parser.specs.declared.flags.Read.TheVariants.{Nothing}
use Rattle.js_parser.proofs.FlagScans.{read_turn, read_end}
use Rattle.js_parser.proofs.flags.has_u_and_v.Goals as goal

pub loop-c-preserved : goal.loop-c-preserved
loop-c-preserved c =
    let t = YieldsList-turn (YieldsList-from_chars c.args.literal.now c.utf8.literal cc) c.loop-c.yielded _ c.loop-c.yielded_by _ _ c.in-Some.c c.in-Some.is c.next.ensures.steps in
    read_turn (chars c.args.literal.now) c.loop-c.yielded (both_behind Nothing (chars c.args.literal.now)) c.loop-c.read c.read_character-read.result c.in-Some.c c.read_character-read.ensures t c.loop-c.invariant

pub returns : goal.returns
returns c =
    let t = YieldsList-end (YieldsList-from_chars c.args.literal.now c.utf8.literal cc) c.loop-c.yielded _ c.loop-c.yielded_by _ _ c.in-None.is c.next.ensures.steps in
    c.has_both.ensures ∙ read_end (chars c.args.literal.now) c.loop-c.yielded (both_behind Nothing (chars c.args.literal.now)) c.loop-c.read t.1 c.loop-c.invariant
