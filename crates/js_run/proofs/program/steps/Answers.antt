use Rattle.std.proofs.Common.{map, string_bytes, Global}
use Rattle.js_run.specs.Runs.{told}
use Rattle.js_run.proofs.Runs.{put_has_cause, put_fits_words, put_leaves_sink, put_leaves_source, stop_has_cause, stop_fits_words, stop_leaves_sink, stop_leaves_source}
use Rattle.js_run.proofs.program.steps.Goals as goal

pub returns-in-Ok-make-clause-cause : goal.returns-in-Ok-make-clause-cause
returns-in-Ok-make-clause-cause g c =
    put_has_cause c.put.result (map (string_bytes {Z = Global}) c.args.words.now.items) _ c.in-Ok-make.made.refused c.in-Ok-make.made.output.items
    (told g.S.Source.remaining g.S.Source.faults g.K.Sink.taken g.K.Sink.faults c.args.source.now c.make.new.source c.args.sink.now c.put.new.sink)
    c.in-Ok.ensures c.in-Ok-make.ensures.ok c.put.ensures.cause

pub returns-in-Ok-make-clause-words : goal.returns-in-Ok-make-clause-words
returns-in-Ok-make-clause-words g c = put_fits_words c.put.result _ _ _ _ _ _ _ c.put.ensures.cause (_, c.in-Ok.ensures.admitted)

pub returns-in-Ok-make-clause-leaves_sink : goal.returns-in-Ok-make-clause-leaves_sink
returns-in-Ok-make-clause-leaves_sink g c = put_leaves_sink c.put.result _ _ _ _ _ _ _ _ c.put.ensures.cause

pub returns-in-Ok-make-clause-leaves_source : goal.returns-in-Ok-make-clause-leaves_source
returns-in-Ok-make-clause-leaves_source g c = put_leaves_source c.put.result _ _ _ _ _ _ _ _ c.put.ensures.cause

pub returns-in-Err-clause-cause : goal.returns-in-Err-clause-cause
returns-in-Err-clause-cause g c =
    stop_has_cause c.in-Err.status (map (string_bytes {Z = Global}) c.args.words.now.items)
    (told g.S.Source.remaining g.S.Source.faults g.K.Sink.taken g.K.Sink.faults c.args.source.now c.make.new.source c.args.sink.now c.args.sink.now)
    c.in-Err.ensures.stopped

pub returns-in-Err-clause-words : goal.returns-in-Err-clause-words
returns-in-Err-clause-words g c = stop_fits_words c.in-Err.status _ _ _ _ _ c.in-Err.ensures.stopped (_, c.in-Ok.ensures.admitted)

pub returns-in-Err-clause-leaves_sink : goal.returns-in-Err-clause-leaves_sink
returns-in-Err-clause-leaves_sink g c = stop_leaves_sink c.in-Err.status c.args.sink.now

pub returns-in-Err-clause-leaves_source : goal.returns-in-Err-clause-leaves_source
returns-in-Err-clause-leaves_source g c = stop_leaves_source c.in-Err.status _ _ _ _ _ _ c.in-Err.ensures.stopped
