use Rattle.std.proofs.Common.{[], ◌∷◌, ◌++◌, arith}
use Rattle.part_words.proofs.NameWords.{other-more, full-more, all-other}
use Rattle.part_words.proofs.NameKinds.{high-front}
use Rattle.part_words.proofs.name.with_letter.Goals as goal
use Rattle.part_words.proofs.name.with_letter.Goals.{then-before-via-then-before, then-before-via-else-before+then-code_point-ge128, then-before-via-else-before+else-code_point-ge128+then-before-eq11}

pub returns-then-before : goal.returns-then-before
returns-then-before c = λ ps h. all-other c.args.before (ps ++ c.args.code_point ∷ []) c.requires (λ qs. elim c.then-before.branch [
  | then-before-via-then-before w ↦ other-more c.args.before ps qs c.args.code_point h w.if-before.true
  | then-before-via-else-before+then-code_point-ge128 w ↦ high-front ps qs c.args.code_point w.if-code_point-ge128.true
  | then-before-via-else-before+else-code_point-ge128+then-before-eq11 w ↦ full-more c.args.before ps qs c.args.code_point h w.if-before.false (let e = w.if-before-eq11.true in omega arith)
])
