use Rattle.std.proofs.Common.{◌≡◌, map, take}
use Rattle.js_grammar.specs.Modules.{declared_entry}
use Rattle.js_record.proofs.visiting.declared_entries.Given as goal

-- the entries of the names so far
abbrev pub invariant-loop-name : goal.invariant-loop-name
invariant-loop-name l = l.entries.items ≡ map (declared_entry l.statement l.declaration) (take l.name-index l.names.items)
