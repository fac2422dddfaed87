use Rattle.std.proofs.Common.{sym, ◌∙◌}
use Rattle.js_record.proofs.DefaultWords.{along_here, along_next, along_end}
use Rattle.js_record.proofs.default_word.first_word.Goals as goal

pub returns-then-begins-clause-is : goal.returns-then-begins-clause-is
returns-then-begins-clause-is c = along_here c.args.text.now c.loop-place.place-iterator c.next.new.self c.loop-place.between c.in-Some.place c.in-Some.c c.loop-place.invariant c.in-Some.ensures.steps (sym c.begins.ensures ∙ c.if-begins.true)

pub loop-place-preserved : goal.loop-place-preserved
loop-place-preserved c = along_next c.args.text.now c.loop-place.place-iterator c.next.new.self c.loop-place.between c.in-Some.place c.in-Some.c c.loop-place.invariant c.in-Some.ensures.steps c.behind-between.result (sym c.begins.ensures ∙ c.if-begins.false) c.behind-between.ensures

pub returns-clause-is : goal.returns-clause-is
returns-clause-is c = along_end c.args.text.now c.loop-place.place-iterator c.loop-place.between c.loop-place.invariant c.in-None.ensures.steps.0
