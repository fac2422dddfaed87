use Rattle.js_tree.specs.Bits.{flags_of}
use Rattle.js_tree.proofs.bits.flags_of.Goals as goal

pub returns : goal.returns
unfolding flags_of
returns c = rw (c.take_bit-14.ensures.bit, c.take_bit-13.ensures.rest, c.take_bit-13.ensures.bit, c.take_bit-12.ensures.rest, c.take_bit-12.ensures.bit, c.take_bit-11.ensures.rest, c.take_bit-11.ensures.bit, c.take_bit-10.ensures.rest, c.take_bit-10.ensures.bit, c.take_bit-9.ensures.rest, c.take_bit-9.ensures.bit, c.take_bit-8.ensures.rest, c.take_bit-8.ensures.bit, c.take_bit-7.ensures.rest, c.take_bit-7.ensures.bit, c.take_bit-6.ensures.rest, c.take_bit-6.ensures.bit, c.take_bit-5.ensures.rest, c.take_bit-5.ensures.bit, c.take_bit-4.ensures.rest, c.take_bit-4.ensures.bit, c.take_bit-3.ensures.rest, c.take_bit-3.ensures.bit, c.take_bit-2.ensures.rest, c.take_bit-2.ensures.bit, c.take_bit.ensures.rest, c.take_bit.ensures.bit)
