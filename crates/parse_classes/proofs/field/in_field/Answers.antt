use Rattle.std.proofs.Common.{◌&&◌, Bool, ap₂, ◌∙◌}
use Rattle.js_base.specs.Contexts.{in_flag, yield_flag, await_flag, await_expression_flag, return_flag}
use Rattle.parse_classes.proofs.field.in_field.Goals as goal

pub returns : goal.returns
returns c = record {
  allows_in = c.and_new_target.ensures.others in_flag (λ e. cc) ∙ (c.and_await_expression.ensures.others in_flag (λ e. cc) ∙ (c.and_await-inner.ensures.others in_flag (λ e. cc) ∙ (c.and_yield.ensures.others in_flag (λ e. cc) ∙ c.and_in.ensures.flag)));
  allows_yield = c.and_new_target.ensures.others yield_flag (λ e. cc) ∙ (c.and_await_expression.ensures.others yield_flag (λ e. cc) ∙ (c.and_await-inner.ensures.others yield_flag (λ e. cc) ∙ c.and_yield.ensures.flag));
  allows_await = c.and_new_target.ensures.others await_flag (λ e. cc) ∙ (c.and_await_expression.ensures.others await_flag (λ e. cc) ∙ c.and_await-inner.ensures.flag);
  awaits = ap₂ (λ (a b : Bool). a && b) (c.and_new_target.ensures.others await_flag (λ e. cc) ∙ (c.and_await_expression.ensures.others await_flag (λ e. cc) ∙ c.and_await-inner.ensures.flag)) (c.and_new_target.ensures.others await_expression_flag (λ e. cc) ∙ c.and_await_expression.ensures.flag);
  allows_new_target = c.and_new_target.ensures.flag;
  returns_same = c.and_new_target.ensures.others return_flag (λ e. cc) ∙ (c.and_await_expression.ensures.others return_flag (λ e. cc) ∙ (c.and_await-inner.ensures.others return_flag (λ e. cc) ∙ (c.and_yield.ensures.others return_flag (λ e. cc) ∙ c.and_in.ensures.others return_flag (λ e. cc))));
}
