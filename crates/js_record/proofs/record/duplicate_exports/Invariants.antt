use Rattle.std.proofs.Common.{◌≡◌, map, take}
use Rattle.js_grammar.specs.ModuleRecords.{duplicate_export}
use Rattle.js_record.proofs.record.duplicate_exports.Given as goal

-- the errors are those of the bindings so far
abbrev pub invariant-loop-binding : goal.invariant-loop-binding
invariant-loop-binding l = l.errors ≡ map (duplicate_export l.exported.bindings.entries) (take l.binding-index l.exported.replaced.items)
