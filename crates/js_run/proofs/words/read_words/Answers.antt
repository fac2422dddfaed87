use Rattle.std.proofs.Common.{ℕ, ◌-◌, ◌≡◌, List, get_or, length, map, take, drop, string_bytes, Global, arith, ap, sym, subst, ◌∙◌}
use Rattle.js_run.specs.Words.{NamesGoal}
use Rattle.js_run.proofs.WordOrders.{behind_first, never_at, sets_first, sets_last, sets_alone}
use Rattle.js_run.proofs.words.read_words.Goals as goal
use Rattle.js_run.proofs.words.read_words.Goals.{else-count-gt0-via-then-count-gt0+else-is_v8, else-count-gt0-via-else-count-gt0, else-count-gt0-2-via-then-count-gt0-2+else-is_v8-2, else-count-gt0-2-via-else-count-gt0-2}

pub returns-then-is_v8 : goal.returns-then-is_v8
returns-then-is_v8 c = sets_first (string_bytes {Z = Global}) c.args.words.now.items _ c.index.result.now c.goal_of_words.result c.set_by.result (omega (arith, c.len-count.ensures)) c.index.ensures (c.is_v8.ensures.0 c.if-is_v8.true) (behind_first (string_bytes {Z = Global}) c.deref.result.now ∙ ap (drop 1) c.deref.ensures.value) c.goal_of_words.ensures c.set_by.ensures

pub returns-then-is_v8-2 : goal.returns-then-is_v8-2
returns-then-is_v8-2 c = sets_last (string_bytes {Z = Global}) c.args.words.now.items _ (c.len-count.result - 1) c.index-then-count-gt0-2.result.now c.goal_of_words-then-is_v8-2.result c.set_by-then-is_v8-2.result
    (elim c.else-count-gt0.branch [
      | else-count-gt0-via-then-count-gt0+else-is_v8 w ↦ λ l. never_at (string_bytes {Z = Global}) c.args.words.now.items 0 w.index.result.now w.is_v8.result l w.index.ensures w.is_v8.ensures w.if-is_v8.false
      | else-count-gt0-via-else-count-gt0 w ↦ λ l. absurd (omega (arith, c.len-count.ensures))
    ])
    (omega (arith, c.len-count.ensures)) c.index-then-count-gt0-2.ensures (c.is_v8-then-count-gt0-2.ensures.0 c.if-is_v8-2.true) (ap (take (c.len-count.result - 1)) c.deref-then-is_v8-2.ensures.value) c.goal_of_words-then-is_v8-2.ensures c.set_by-then-is_v8-2.ensures

pub returns : goal.returns
returns c = sets_alone (string_bytes {Z = Global}) c.args.words.now.items c.goal_of_words-2.result c.set_by-2.result
    (elim c.else-count-gt0.branch [
      | else-count-gt0-via-then-count-gt0+else-is_v8 w ↦ λ l. never_at (string_bytes {Z = Global}) c.args.words.now.items 0 w.index.result.now w.is_v8.result l w.index.ensures w.is_v8.ensures w.if-is_v8.false
      | else-count-gt0-via-else-count-gt0 w ↦ λ l. absurd (omega (arith, c.len-count.ensures))
    ])
    (elim c.else-count-gt0-2.branch [
      | else-count-gt0-2-via-then-count-gt0-2+else-is_v8-2 w ↦ λ k l. never_at (string_bytes {Z = Global}) c.args.words.now.items k w.index-then-count-gt0-2.result.now w.is_v8-then-count-gt0-2.result (omega arith) (subst (λ (n : ℕ). w.index-then-count-gt0-2.result.now ≡ get_or c.args.words.now.items n w.index-then-count-gt0-2.result.now) (omega (arith, c.len-count.ensures)) w.index-then-count-gt0-2.ensures) w.is_v8-then-count-gt0-2.ensures w.if-is_v8-2.false
      | else-count-gt0-2-via-else-count-gt0-2 w ↦ λ k l. absurd (omega (arith, c.len-count.ensures))
    ])
    (subst (λ ws. NamesGoal (map (string_bytes {Z = Global}) ws) c.goal_of_words-2.result) c.as_slice.ensures.value c.goal_of_words-2.ensures) c.set_by-2.ensures
