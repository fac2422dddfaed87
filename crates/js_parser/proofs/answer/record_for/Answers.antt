use Rattle.std.proofs.Common.{List, ap}
use Rattle.js_base.specs.declared.diagnostic.Diagnostic.{Diagnostic}
use Rattle.js_grammar.specs.ModuleRecords.{ModuleRecord}
use Rattle.js_parser.proofs.answer.record_for.Goals as goal

pub returns : goal.returns
returns c = λ y s cs h. ap (λ (p : ModuleRecord × List Diagnostic). p.0) (c.in_ok-record-2.ensures s cs h)
