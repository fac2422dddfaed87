use Rattle.std.proofs.Common.{◌≡◌, []}
use Rattle.std.specs.Prelude.{fold}
use Rattle.js_grammar.specs.ModuleRecords.{with_binding, replaced}
use Rattle.js_record.proofs.record.bind_all.Given as goal

-- names and replaced ones are those of the bindings so far
abbrev pub invariant-loop-binding : goal.invariant-loop-binding
invariant-loop-binding l = (l.exported.bindings.entries ≡ fold with_binding [] l.yielded) × (l.exported.replaced.items ≡ replaced [] l.yielded)
