use Rattle.std.proofs.Common.{◌∙◌}
use Rattle.js_run.proofs.Given.{answered, accepts, refuses, true_of, false_of}
use Rattle.js_run.proofs.answer.answer_to.Goals as goal

pub returns-then-is_empty : goal.returns-then-is_empty
returns-then-is_empty c = accepts c.args.settings.now (answered (c.with_options-parser.ensures.source_text ∙ c.new.ensures.source_text) (c.with_options-parser.ensures.source_type ∙ c.new.ensures.source_type) c.with_options-parser.ensures.options c.in_ok-parsed.ensures.answers) c.requires (true_of c.is_empty.ensures c.if-is_empty.true) c.in_ok-output.ensures

pub returns : goal.returns
returns c = refuses c.args.settings.now (answered (c.with_options-parser.ensures.source_text ∙ c.new.ensures.source_text) (c.with_options-parser.ensures.source_type ∙ c.new.ensures.source_type) c.with_options-parser.ensures.options c.in_ok-parsed.ensures.answers) c.requires (false_of c.is_empty.ensures c.if-is_empty.false) c.in_ok-output-2.ensures
