use Rattle.part_text.specs.DecodingSteps.{state_of}
use Rattle.part_text.proofs.EscapeLemmas.{passed, counts_plain}
use Rattle.part_text.proofs.escape.read.Goals as goal

pub returns-then-c-eq10-clause-read : goal.returns-then-c-eq10-clause-read
returns-then-c-eq10-clause-read c = λ w q r. passed w c.args.c (state_of c.args.reading.state) c.args.reading.after_carriage c.args.reading.backslash c.if-reading.true c.if-c-eq10.true r

pub returns-clause-read : goal.returns-clause-read
returns-clause-read c = λ w q r. c.read_plainly-2.ensures.read w c.args.c q r (counts_plain c.args.reading.after_carriage c.args.c c.if-c-eq13.false c.else-reading.either)
