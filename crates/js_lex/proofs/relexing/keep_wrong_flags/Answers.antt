use Rattle.std.proofs.Common.{arith, subst, sym}
use Rattle.js_lex.specs.declared.output.LexerOutput.{LexerOutput}
use Rattle.js_lex.proofs.Keeping.{extend_on, on_err}
use Rattle.js_lex.proofs.FlagFaults.{FlaggedSo, flagged_so_none, flagged_all, flagged_end, flagged_wrong, flagged_right}
use Rattle.js_lex.proofs.relexing.keep_wrong_flags.Goals as goal
use Rattle.js_lex.proofs.relexing.keep_wrong_flags.Goals.{then-flag+in_ok-keep_fault, else-flag}

pub flags-init : goal.flags-init
flags-init c = flagged_so_none c.args.text.now c.args.found.pattern_end c.args.found.end c.args.kept.now c.requires.begins c.requires.flags

pub flag_at-requires : goal.flag_at-requires
flag_at-requires c = c.flags.invariant.flagged.passed.boundary

pub returns-in_default-clause-ok : goal.returns-in_default-clause-ok
returns-in_default-clause-ok c = flagged_all c.flags.invariant.flagged (flagged_end c.flags.invariant.flagged c.in_default.ensures)

pub returns-in_err-keep_fault-clause-err : goal.returns-in_err-keep_fault-clause-err
returns-in_err-keep_fault-clause-err c = on_err c.from_residual.result (extend_on c.flags.invariant.flagged.grows c.in_err-keep_fault.ensures.err)

pub flags-preserved : goal.flags-preserved
flags-preserved c = elim c.if-flag.branch [
  | then-flag+in_ok-keep_fault w ↦ subst (λ (o : LexerOutput). FlaggedSo c.args.text.now c.args.found.pattern_end c.args.found.end c.in-Some.flag.end c.in-Some.flag.seen c.args.kept.now o) (sym w.kept-is) (flagged_wrong w.keep_fault.new.self c.in-Some.flag w.new-span.result c.flags.invariant c.in-Some.ensures c.flags-test.true w.if-flag.true w.new-span.ensures.start w.new-span.ensures.end w.in_ok-keep_fault.ensures.ok)
  | else-flag w ↦ subst (λ (o : LexerOutput). FlaggedSo c.args.text.now c.args.found.pattern_end c.args.found.end c.in-Some.flag.end c.in-Some.flag.seen c.args.kept.now o) (sym w.kept-is) (flagged_right c.in-Some.flag c.flags.invariant c.in-Some.ensures c.flags-test.true w.if-flag.false)
]

pub returns-clause-ok : goal.returns-clause-ok
returns-clause-ok c = flagged_all c.flags.invariant.flagged (let e = c.flags-test.false in omega arith)
