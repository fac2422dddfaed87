use Rattle.std.proofs.Common.{◌++◌, ap, ◌∙◌}
use Rattle.std.proofs.lemmas.Result.{on_ok_weaker}
use Rattle.js_grammar.specs.ModuleRecords.{ImportEntry}
use Rattle.js_grammar.specs.RecordLines.{import_line}
use Rattle.part_visits.specs.declared.entry.ImportEntry.TheInside.{Inside}
use Rattle.part_visits.specs.Names.{import_name_of}
use Rattle.js_record.proofs.LineLemmas.{behind}
use Rattle.js_record.proofs.lines.write_import.Goals as goal

abbrev seen : Inside → ImportEntry
seen i = record { statement_span = i.statement_span; module_request = i.module_request; import_name = import_name_of i.import_name; local_name = i.local_name }

pub returns : goal.returns
returns c =
    let out = c.args.out.now.items in
    on_ok_weaker c.write_text-2.result
    (λ e. behind out _ c.write_labelled.new.out.items _ c.write_text-2.new.out.items c.in_ok-write_labelled.ensures
    (behind c.write_labelled.new.out.items _ c.write_labelled-2.new.out.items _ c.write_text-2.new.out.items c.in_ok-write_labelled-2.ensures
    (behind c.write_labelled-2.new.out.items _ c.write_text.new.out.items _ c.write_text-2.new.out.items c.in_ok-write_text.ensures
    (behind c.write_text.new.out.items _ c.write_import_name.new.out.items _ c.write_text-2.new.out.items c.in_ok-write_import_name.ensures
    (behind c.write_import_name.new.out.items _ c.write_labelled-3.new.out.items _ c.write_text-2.new.out.items c.in_ok-write_labelled-3.ensures e))))
    ∙ ap (λ v. out ++ import_line v) (ap seen c.entry-inside.view_is ∙ c.entry.view_is))
    c.write_text-2.ensures
