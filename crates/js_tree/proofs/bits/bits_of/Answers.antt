use Rattle.js_tree.proofs.BitLemmas.{flags_of-number_of}
use Rattle.js_tree.proofs.bits.bits_of.Goals as goal

pub returns-clause-flags : goal.returns-clause-flags
returns-clause-flags c = rw (c.with_bit.ensures.value, c.with_bit-bits-13.ensures.value, c.with_bit-bits-12.ensures.value, c.with_bit-bits-11.ensures.value, c.with_bit-bits-10.ensures.value, c.with_bit-bits-9.ensures.value, c.with_bit-bits-8.ensures.value, c.with_bit-bits-7.ensures.value, c.with_bit-bits-6.ensures.value, c.with_bit-bits-5.ensures.value, c.with_bit-bits-4.ensures.value, c.with_bit-bits-3.ensures.value, c.with_bit-bits-2.ensures.value, c.with_bit-bits.ensures.value) (flags_of-number_of c.args.flags)
