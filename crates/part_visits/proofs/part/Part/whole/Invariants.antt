use Rattle.std.proofs.Common.{◌≡◌}
use Rattle.js_grammar.specs.ModuleRecords.{whole}
use Rattle.part_visits.proofs.part.Part.whole.Given as goal

-- the part so far is that of the parts so far
abbrev pub invariant-loop-part : goal.invariant-loop-part
invariant-loop-part l = l.all ≡ whole l.yielded
