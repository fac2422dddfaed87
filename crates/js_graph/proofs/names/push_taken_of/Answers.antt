use Rattle.std.proofs.Common.{◌≡◌, ◌++◌, List, ℕ, subst}
use Rattle.std.specs.Prelude.{filter}
use Rattle.std.proofs.lemmas.Result.{on_ok_weaker}
use Rattle.js_grammar.specs.ModuleRecords.{ModuleRecord, own_export_names}
use Rattle.js_record.specs.contracts.record.ModuleRecord.{the_view}
use Rattle.js_graph.specs.Names.{is_taken}
use Rattle.js_graph.proofs.NameLemmas.{taken_both}
use Rattle.js_graph.proofs.names.push_taken_of.Goals as goal

pub returns : goal.returns
returns c =
    let old : List (List ℕ) = c.args.names.now.items in
    let mid : List (List ℕ) = c.push_taken.new.names.items in
    let new : List (List ℕ) = c.push_taken-2.new.names.items in
    on_ok_weaker c.push_taken-2.result (λ e. subst (λ (v : ModuleRecord). new ≡ old ++ filter (is_taken c.args.first.now) (own_export_names v)) c.module_record.view_is (taken_both (is_taken c.args.first.now) old mid new (the_view c.module_record.inside) c.in_ok-push_taken.ensures e)) c.push_taken-2.ensures
