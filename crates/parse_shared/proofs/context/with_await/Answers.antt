use Rattle.std.proofs.Common.{◌≡◌, ◌&&◌, Bool, true, false, refl, ◌∙◌}
use Rattle.js_base.specs.Contexts.{await_flag}
use Rattle.parse_shared.proofs.context.with_await.Goals as goal

both_so : (a b v : Bool) → a ≡ v → b ≡ v → (a && b) ≡ v
both_so a b true e f = rw (e, f) refl
both_so a b false e f = rw e refl

pub returns : goal.returns
returns c = record {
  flag = c.and_await_expression.ensures.others await_flag (λ e. cc) ∙ c.and_await.ensures.flag;
  reads = both_so _ _ _ (c.and_await_expression.ensures.others await_flag (λ e. cc) ∙ c.and_await.ensures.flag) c.and_await_expression.ensures.flag;
  others = λ j n m. c.and_await_expression.ensures.others j m ∙ c.and_await.ensures.others j n;
}
