use Rattle.part_text.specs.Escapes.{in_name}
use Rattle.part_text.specs.DecodingSteps.{state_of}
use Rattle.part_text.proofs.DecodingLemmas.{fits-made, utf8-made, char-point}
use Rattle.part_text.proofs.decode.feed_name.Goals as goal

pub returns-then-branch-clause-read : goal.returns-then-branch-clause-read
returns-then-branch-clause-read c = λ cs. utf8-made (state_of c.args.state) c.args.c c.step.result c.in-Some.progress c.args.text.now _ cs c.in_ok-push_characters.field-0 c.step.ensures c.in-Some.is c.in_ok-push_characters.ensures.scalar c.if-branch.true c.in_ok-push_characters.ensures.text

pub returns-then-branch-clause-fits : goal.returns-then-branch-clause-fits
returns-then-branch-clause-fits c = fits-made in_name (state_of c.args.state) c.args.c c.step.result c.in-Some.progress c.requires (char-point c.args.c c.ranges.c.0) c.step.ensures c.in-Some.is
