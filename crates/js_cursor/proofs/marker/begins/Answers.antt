use Rattle.std.proofs.Common.{ℕ, Bool, ◌||◌, ◌==◌, sym, ap, ◌∙◌}
use Rattle.js_cursor.proofs.Partnering.{begins_so}
use Rattle.js_cursor.proofs.marker.begins.Goals as goal
use Rattle.js_cursor.proofs.marker.begins.Goals.{then-is_on_new_line, else-is_on_new_line}

pub returns-then-start-eq0 : goal.returns-then-start-eq0
returns-then-start-eq0 c =
    begins_so c.args.signs.now c.args.text.now c.as_bytes.result.now c.args.token c.start.result c.starts_with.result c.requires.seven
    (elim c.if-is_on_new_line.branch [
      | then-is_on_new_line w ↦ ap (λ (b : Bool). b || (c.args.token.span.start == 0)) (sym c.is_on_new_line.ensures ∙ w.if-is_on_new_line.true)
      | else-is_on_new_line w ↦ ap (λ (b : Bool). b || (c.args.token.span.start == 0)) (sym c.is_on_new_line.ensures ∙ w.if-is_on_new_line.false) ∙ ap (λ (n : ℕ). n == 0) (sym w.start-else-is_on_new_line.ensures) ∙ sym w.value-is ∙ c.if-start-eq0.true
    ])
    c.as_bytes.ensures.value c.start.ensures c.starts_with.ensures.value
