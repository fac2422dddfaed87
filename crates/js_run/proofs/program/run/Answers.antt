use Rattle.std.proofs.Common.{refl}
use Rattle.js_run.proofs.Runs.{answer_if_told, core_answer_if_told, marked_if_told, long_if_told, no_text_if_told}
use Rattle.js_run.proofs.program.run.Goals as goal

pub returns-clause-headline : goal.returns-clause-headline
returns-clause-headline g c = answer_if_told _ _ _ (g.S.Source.remaining c.args.source.now) refl c.steps.ensures.words c.steps.ensures.cause

pub returns-clause-marks : goal.returns-clause-marks
returns-clause-marks g c = marked_if_told _ _ _ (g.S.Source.remaining c.args.source.now) refl c.steps.ensures.words c.steps.ensures.cause

pub returns-clause-core_headline : goal.returns-clause-core_headline
returns-clause-core_headline g c = core_answer_if_told _ _ _ (g.S.Source.remaining c.args.source.now) refl c.steps.ensures.words c.steps.ensures.cause

pub returns-clause-cause : goal.returns-clause-cause
returns-clause-cause g c = c.steps.ensures.cause

pub returns-clause-too_long : goal.returns-clause-too_long
returns-clause-too_long g c = long_if_told _ _ _ (g.S.Source.remaining c.args.source.now) refl c.steps.ensures.cause

pub returns-clause-not_utf8 : goal.returns-clause-not_utf8
returns-clause-not_utf8 g c = no_text_if_told _ _ _ (g.S.Source.remaining c.args.source.now) refl c.steps.ensures.cause

pub returns-clause-words : goal.returns-clause-words
returns-clause-words g c = c.steps.ensures.words

pub returns-clause-leaves_source : goal.returns-clause-leaves_source
returns-clause-leaves_source g c = c.steps.ensures.leaves_source

pub returns-clause-leaves_sink : goal.returns-clause-leaves_sink
returns-clause-leaves_sink g c = c.steps.ensures.leaves_sink
