use Rattle.std.proofs.Common.{◌==◌}
use Rattle.std.specs.Prelude.{string_bytes}
use Rattle.std.proofs.lemmas.Bool.{ne_eqb, and_left, and_right}
use Rattle.js_tree.proofs.LineLemmas.{pushed}
use Rattle.js_tree.proofs.reading.push_character.Goals as goal
use Rattle.js_tree.proofs.reading.push_character.Goals.{else-after_carriage-via-then-after_carriage+else-c-eq10, else-after_carriage-via-else-after_carriage}

pub returns : goal.returns
returns c cs = pushed (string_bytes c.args.lines.now) (string_bytes c.push-2.new.self) cs c.args.after_carriage c.args.c c.if-c-eq13.false (elim c.else-after_carriage.branch [
  | else-after_carriage-via-then-after_carriage+else-c-eq10 w ↦ and_right c.args.after_carriage (c.args.c == 10) (ne_eqb c.args.c 10 w.if-c-eq10.false)
  | else-after_carriage-via-else-after_carriage w ↦ and_left c.args.after_carriage (c.args.c == 10) w.if-after_carriage.false
]) c.in_ok-push-2.ensures.bytes
