use Rattle.std.proofs.Common.{subst}
use Rattle.js_lex.specs.Settling.{HasFlags}
use Rattle.js_lex.proofs.relexing.keep_flags.Goals as goal

pub keep_wrong_flags-requires-clause-begins : goal.keep_wrong_flags-requires-clause-begins
keep_wrong_flags-requires-clause-begins c = (subst (HasFlags c.args.text.now) c.in-Some.is c.requires.flags).0

pub keep_wrong_flags-requires-clause-flags : goal.keep_wrong_flags-requires-clause-flags
keep_wrong_flags-requires-clause-flags c = (subst (HasFlags c.args.text.now) c.in-Some.is c.requires.flags).1
