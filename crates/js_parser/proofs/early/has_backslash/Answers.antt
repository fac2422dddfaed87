use Rattle.std.proofs.Common.{sym}
use Rattle.std.proofs.lemmas.Iterator.{YieldsList-from_chars}
use Rattle.std.proofs.lemmas.Iterator.Consumers.{YieldsList-turn, YieldsList-end}
use Rattle.std.specs.Prelude.{chars}
use Rattle.js_parser.proofs.Cooked.{backslash_found, no_backslash, no_backslash_yet}
use Rattle.js_parser.proofs.early.has_backslash.Goals as goal

pub returns-then-c-eq92 : goal.returns-then-c-eq92
returns-then-c-eq92 c =
    let t = YieldsList-turn (YieldsList-from_chars c.args.text.now c.utf8.text cc) c.loop-c.yielded _ c.loop-c.yielded_by _ _ c.in-Some.c c.in-Some.is c.next.ensures.steps in
    sym (backslash_found (chars c.args.text.now) c.loop-c.yielded c.in-Some.c t c.if-c-eq92.true c.loop-c.invariant)

pub loop-c-preserved : goal.loop-c-preserved
loop-c-preserved c =
    let t = YieldsList-turn (YieldsList-from_chars c.args.text.now c.utf8.text cc) c.loop-c.yielded _ c.loop-c.yielded_by _ _ c.in-Some.c c.in-Some.is c.next.ensures.steps in
    no_backslash_yet (chars c.args.text.now) c.loop-c.yielded c.in-Some.c t c.if-c-eq92.false c.loop-c.invariant

pub returns : goal.returns
returns c =
    let t = YieldsList-end (YieldsList-from_chars c.args.text.now c.utf8.text cc) c.loop-c.yielded _ c.loop-c.yielded_by _ _ c.in-None.is c.next.ensures.steps in
    sym (no_backslash (chars c.args.text.now) c.loop-c.yielded t.1 c.loop-c.invariant)
