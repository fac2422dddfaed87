use Rattle.js_grammar.specs.ModuleRecords.{ExportEntry, place, if_local, if_indirect, if_star}
use Rattle.js_record.proofs.ExportLemmas.{one_more}
use Rattle.js_record.proofs.placing.place_each.Goals as goal

pub loop-entry-preserved : goal.loop-entry-preserved
loop-entry-preserved c =
    let e = c.in-Some.entry in
    let es = c.loop-entry.yielded in
    let is = c.args.imports.now in
    let i = c.loop-entry.invariant in
    let n = c.in_ok-place_in.ensures in (
      one_more (λ (ee : ExportEntry). if_local (place is ee)) es e c.loop-entry.places.local c.place_in.new.places.local i.0 n.local,
      one_more (λ (ee : ExportEntry). if_indirect (place is ee)) es e c.loop-entry.places.indirect c.place_in.new.places.indirect i.1 n.indirect,
      one_more (λ (ee : ExportEntry). if_star (place is ee)) es e c.loop-entry.places.star c.place_in.new.places.star i.2 n.star,
    )
