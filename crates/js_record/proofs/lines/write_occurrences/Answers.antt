use Rattle.js_grammar.specs.RecordLines.{request_line}
use Rattle.js_record.proofs.LineLemmas.{next_line, all_lines}
use Rattle.js_record.proofs.lines.write_occurrences.Goals as goal

pub loop-i-preserved : goal.loop-i-preserved
loop-i-preserved c = next_line request_line c.args.occurrences.now c.loop-i.i c.len-i-end.result c.index.result.now c.args.out.now.items c.loop-i.out.items c.write_requested.new.out.items c.len-i-end.ensures c.loop-i-test.true c.index.ensures c.loop-i.invariant c.in_ok-write_requested.ensures

pub returns : goal.returns
returns c = all_lines request_line c.args.occurrences.now c.loop-i.i c.len-i-end.result c.args.out.now.items c.loop-i.out.items c.len-i-end.ensures c.loop-i-test.false c.loop-i.invariant
