use Rattle.std.proofs.Common.{◌&&◌, Bool, ap₂, ◌∙◌}
use Rattle.js_base.specs.Contexts.{in_flag, yield_flag, await_flag, return_flag, new_target_flag}
use Rattle.parse_classes.proofs.static_block.in_static_block.Goals as goal

pub returns : goal.returns
returns c = record {
  allows_in = c.and_await_expression.ensures.others in_flag (λ e. cc) ∙ (c.and_await.ensures.others in_flag (λ e. cc) ∙ (c.and_new_target-within.ensures.others in_flag (λ e. cc) ∙ c.and_in.ensures.flag));
  allows_yield = c.and_await_expression.ensures.others yield_flag (λ e. cc) ∙ (c.and_await.ensures.others yield_flag (λ e. cc) ∙ (c.and_new_target-within.ensures.others yield_flag (λ e. cc) ∙ (c.and_in.ensures.others yield_flag (λ e. cc) ∙ (c.and_return-without.ensures.others yield_flag (λ e. cc) ∙ c.and_yield.ensures.flag))));
  allows_await = c.and_await_expression.ensures.others await_flag (λ e. cc) ∙ c.and_await.ensures.flag;
  awaits = ap₂ (λ (a b : Bool). a && b) (c.and_await_expression.ensures.others await_flag (λ e. cc) ∙ c.and_await.ensures.flag) c.and_await_expression.ensures.flag;
  allows_return = c.and_await_expression.ensures.others return_flag (λ e. cc) ∙ (c.and_await.ensures.others return_flag (λ e. cc) ∙ (c.and_new_target-within.ensures.others return_flag (λ e. cc) ∙ (c.and_in.ensures.others return_flag (λ e. cc) ∙ c.and_return-without.ensures.flag)));
  allows_new_target = c.and_await_expression.ensures.others new_target_flag (λ e. cc) ∙ (c.and_await.ensures.others new_target_flag (λ e. cc) ∙ c.and_new_target-within.ensures.flag);
}
