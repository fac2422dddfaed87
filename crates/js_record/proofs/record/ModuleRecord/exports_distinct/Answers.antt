use Rattle.std.proofs.Common.{◌↔◌, subst}
use Rattle.std.specs.Prelude.{bytes_eq, IsTrue}
use Rattle.std.specs.List.{IsDistinct}
use Rattle.js_grammar.specs.ModuleRecords.{ModuleRecord, own_export_names}
use Rattle.js_record.proofs.DistinctLemmas.{own_answer}
use Rattle.js_record.proofs.record.ModuleRecord.exports_distinct.Goals as goal

pub returns : goal.returns
returns c = subst (λ (v : ModuleRecord). IsTrue c.are_all_distinct.result ↔ IsDistinct bytes_eq (own_export_names v)) c.self.view_is (own_answer c.self.inside.local_export_entries c.self.inside.indirect_export_entries c.are_all_distinct.result c.are_all_distinct.ensures)
