use Rattle.std.proofs.Common.{◌≡◌}
use Rattle.std.specs.List.{flat_map}
use Rattle.js_grammar.specs.ModuleRecords.{place, if_local, if_indirect, if_star}
use Rattle.js_record.proofs.placing.place_each.Given as goal

-- the lists have the entries so far
abbrev pub invariant-loop-entry : goal.invariant-loop-entry
invariant-loop-entry l = (l.places.local ≡ flat_map (λ ee. if_local (place l.imports ee)) l.yielded)
    × (l.places.indirect ≡ flat_map (λ ee. if_indirect (place l.imports ee)) l.yielded)
    × (l.places.star ≡ flat_map (λ ee. if_star (place l.imports ee)) l.yielded)
