use Rattle.js_lex.proofs.Giving.{quick_next, quick_boundary}
use Rattle.js_lex.proofs.reading.quick_at.Goals as goal

pub returns-clause-gives : goal.returns-clause-gives
returns-clause-gives c = quick_next c.args.text.now c.args.at c.pass_blanks-blanks.result c.quick_behind.result c.utf8.text c.requires.boundary c.pass_blanks-blanks.ensures.passes c.quick_behind.ensures

pub returns-clause-boundary : goal.returns-clause-boundary
returns-clause-boundary c = quick_boundary c.pass_blanks-blanks.result.end c.pass_blanks-blanks.result.has_newline c.quick_behind.result c.utf8.text c.pass_blanks-blanks.ensures.boundary c.quick_behind.ensures
