use Rattle.js_grammar.specs.RecordLines.{import_line}
use Rattle.js_record.proofs.LineLemmas.{next_line, all_lines}
use Rattle.js_record.proofs.lines.write_imports.Goals as goal

pub loop-i-preserved : goal.loop-i-preserved
loop-i-preserved c = next_line import_line c.args.entries.now c.loop-i.i c.len-i-end.result c.index.result.now c.args.out.now.items c.loop-i.out.items c.write_import.new.out.items c.len-i-end.ensures c.loop-i-test.true c.index.ensures c.loop-i.invariant c.in_ok-write_import.ensures

pub returns : goal.returns
returns c = all_lines import_line c.args.entries.now c.loop-i.i c.len-i-end.result c.args.out.now.items c.loop-i.out.items c.len-i-end.ensures c.loop-i-test.false c.loop-i.invariant
