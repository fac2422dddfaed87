use Rattle.std.proofs.Common.{◌≡◌, take}
use Rattle.std.specs.List.{flat_map}
use Rattle.js_record.specs.Shown.{import_shown}
use Rattle.js_record.proofs.visiting.import_entries.Given as goal

-- those of the slots so far
abbrev pub invariant-loop-slot : goal.invariant-loop-slot
invariant-loop-slot l = l.entries.items ≡ flat_map (import_shown l.tree l.source l.statement l.request) (take l.slot-index l.slots)
