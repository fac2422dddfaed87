use Rattle.part_text.specs.DecodingSteps.{form_of, state_of}
use Rattle.part_text.proofs.DecodingLemmas.{fits-made, points-made, units-made, char-point}
use Rattle.part_text.proofs.decode.feed.Goals as goal

pub push_points-requires : goal.push_points-requires
push_points-requires c = points-made (form_of c.args.form) (state_of c.args.state) c.args.c c.step.result c.in-Some.progress c.requires (char-point c.args.c c.ranges.c.0) c.step.ensures c.in-Some.is

pub returns-clause-read : goal.returns-clause-read
returns-clause-read c = λ cs. units-made (form_of c.args.form) (state_of c.args.state) c.args.c c.step.result c.in-Some.progress _ _ cs c.step.ensures c.in-Some.is c.in_ok-push_points.ensures

pub returns-clause-fits : goal.returns-clause-fits
returns-clause-fits c = fits-made (form_of c.args.form) (state_of c.args.state) c.args.c c.step.result c.in-Some.progress c.requires (char-point c.args.c c.ranges.c.0) c.step.ensures c.in-Some.is
