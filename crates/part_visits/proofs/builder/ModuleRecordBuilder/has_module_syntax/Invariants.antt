use Rattle.std.proofs.Common.{◌≡◌, false, take}
use Rattle.std.specs.List.{list_any}
use Rattle.part_visits.proofs.PartLemmas.{is_syntax}
use Rattle.part_visits.proofs.builder.ModuleRecordBuilder.has_module_syntax.Given as goal

-- none so far is
abbrev pub invariant-loop-visit : goal.invariant-loop-visit
invariant-loop-visit l = list_any is_syntax (take l.visit-index l.visit-items) ≡ false
