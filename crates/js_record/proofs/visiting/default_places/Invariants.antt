use Rattle.std.proofs.Common.{◌≡◌, take}
use Rattle.js_grammar.specs.Modules.{defaults_of}
use Rattle.js_record.proofs.visiting.default_places.Given as goal

-- those of the names so far
abbrev pub invariant-loop-name : goal.invariant-loop-name
invariant-loop-name l = l.places.items ≡ defaults_of (take l.name-index l.names.items)
