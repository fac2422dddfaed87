use Rattle.std.proofs.Common.{◌≡◌, ◌++◌, take}
use Rattle.js_grammar.specs.ModuleRecords.{defaults_among}
use Rattle.js_record.proofs.record.add_defaults.Given as goal

-- the places of the entries so far stand behind the others
abbrev pub invariant-loop-i : goal.invariant-loop-i
invariant-loop-i l = l.places.items ≡ l.initial.places.items ++ defaults_among (take l.i l.entries)
