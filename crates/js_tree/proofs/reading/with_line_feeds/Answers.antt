use Rattle.std.proofs.Common.{refl}
use Rattle.std.proofs.lemmas.Iterator.{YieldsList-from_chars}
use Rattle.std.proofs.lemmas.Iterator.Consumers.{YieldsList-turn, YieldsList-end}
use Rattle.std.specs.Prelude.{string_bytes, encode_utf8_all}
use Rattle.std.specs.Str.{chars}
use Rattle.js_base.specs.part_text.Decoding.{raw_text}
use Rattle.js_tree.proofs.LineLemmas.{line-turn, line-end}
use Rattle.js_tree.proofs.reading.with_line_feeds.Goals as goal

pub loop-c-init : goal.loop-c-init
loop-c-init c = rw c.new-lines.ensures.bytes refl

pub loop-c-preserved : goal.loop-c-preserved
loop-c-preserved c =
    let t = YieldsList-turn (YieldsList-from_chars c.args.text.now c.utf8.text cc) c.loop-c.yielded _ c.loop-c.yielded_by _ _ c.in-Some.c c.in-Some.is c.next.ensures.steps in
    line-turn (string_bytes c.loop-c.lines) (string_bytes c.push_character.new.lines) (chars c.args.text.now) c.loop-c.yielded _ c.loop-c.after_carriage _ c.in-Some.c c.in_ok-push_character.ensures t c.loop-c.invariant

pub returns : goal.returns
returns c =
    let t = YieldsList-end (YieldsList-from_chars c.args.text.now c.utf8.text cc) c.loop-c.yielded _ c.loop-c.yielded_by _ _ c.in-None.is c.next.ensures.steps in
    rw (← line-end (string_bytes c.loop-c.lines) (chars c.args.text.now) c.loop-c.yielded (encode_utf8_all (raw_text (chars c.args.text.now))) c.loop-c.after_carriage t.1 c.loop-c.invariant, ← c.as_str.ensures.value) c.from_str.ensures
