use Rattle.std.proofs.Common.{◌-◌}
use Rattle.js_lex.proofs.FlagFaults.{FlaggedSo}
use Rattle.js_lex.proofs.relexing.keep_wrong_flags.Given as goal

abbrev pub invariant-flags : goal.invariant-flags
invariant-flags l = FlaggedSo l.text l.found.pattern_end l.found.end l.at l.seen l.initial.kept l.kept

abbrev pub decreases-flags : goal.decreases-flags
decreases-flags l = l.found.end - l.at
