use Rattle.std.proofs.Common.{◌&&◌, Bool, ap₂, ◌∙◌}
use Rattle.js_base.specs.Contexts.{await_flag}
use Rattle.parse_shared.proofs.context.in_async_head.Goals as goal

pub returns : goal.returns
returns c = record {
  flag = c.and_await_expression.ensures.others await_flag (λ e. cc) ∙ c.and_await.ensures.flag;
  reads = ap₂ (λ (a b : Bool). a && b) (c.and_await_expression.ensures.others await_flag (λ e. cc) ∙ c.and_await.ensures.flag) (c.and_await_expression.ensures.flag ∙ c.reads_await.ensures);
  others = λ j n m. c.and_await_expression.ensures.others j m ∙ c.and_await.ensures.others j n;
}
