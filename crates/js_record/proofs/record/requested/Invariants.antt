use Rattle.std.proofs.Common.{◌≡◌, []}
use Rattle.std.specs.Prelude.{fold}
use Rattle.js_grammar.specs.ModuleRecords.{with_request}
use Rattle.js_record.proofs.record.requested.Given as goal

-- the modules are those of the requests so far
abbrev pub invariant-loop-request : goal.invariant-loop-request
invariant-loop-request l = l.modules.entries ≡ fold with_request [] l.yielded
