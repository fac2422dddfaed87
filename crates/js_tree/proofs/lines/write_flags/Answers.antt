use Rattle.js_tree.proofs.WalkLemmas.{flags_step}
use Rattle.js_tree.proofs.lines.write_flags.Goals as goal

pub loop-bit-preserved : goal.loop-bit-preserved
loop-bit-preserved c = rw c.in_ok-write_flag.ensures (flags_step c.loop-bit.out.items c.args.out.now.items c.loop-bit.bit c.args.bits c.loop-bit.rest c.flag_word.result.now c.loop-bit-test.true c.flag_word.ensures c.loop-bit.invariant)
