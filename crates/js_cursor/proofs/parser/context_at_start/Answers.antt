use Rattle.std.proofs.Common.{sym, ap, ◌∙◌, ◌||◌, Bool}
use Rattle.js_cursor.proofs.Starting.{at_start}
use Rattle.js_cursor.proofs.parser.context_at_start.Goals as goal
use Rattle.js_cursor.proofs.parser.context_at_start.Goals.{then-is_body, else-is_body}

pub returns : goal.returns
returns c = at_start _ _ _ c.default.ensures c.is_module-awaits.ensures c.is_commonjs-is_body.ensures
    (elim c.if-is_body.branch [
      | then-is_body w ↦ w.and_return-is ∙ w.if-is_body.true ∙ sym (ap (λ (b : Bool). b || c.args.options.allow_return_outside_function) w.if-is_body.true)
      | else-is_body w ↦ w.and_return-is ∙ sym (ap (λ (b : Bool). b || c.args.options.allow_return_outside_function) w.if-is_body.false)
    ])
    c.and_await.ensures c.and_await_expression.ensures c.and_return.ensures c.and_new_target.ensures
