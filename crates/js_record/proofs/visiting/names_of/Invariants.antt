use Rattle.std.proofs.Common.{◌≡◌, map, take}
use Rattle.js_grammar.specs.Modules.{named}
use Rattle.js_record.specs.Shown.{label_at}
use Rattle.js_record.proofs.visiting.names_of.Given as goal

-- the names of the nodes so far
abbrev pub invariant-loop-id : goal.invariant-loop-id
invariant-loop-id l = l.names.items ≡ map (λ id. named l.source (label_at l.tree id)) (take l.id-index l.ids.items)
