use Rattle.std.proofs.Common.{arith, ap, sym, subst, ◌∙◌, Option}
use Rattle.parse_shared.specs.js_tree.declared.id.NodeId.{NodeId}
use Rattle.parse_shared.specs.js_tree.Labels.{kind_of}
use Rattle.parse_targets.specs.Targets.{is_target, IsTarget}
use Rattle.parse_targets.proofs.CoveredNodes.{empty_parens, in_the_parens, itself, no_target, child_stood, child_less}
use Rattle.parse_targets.proofs.ConvertedNodes.{SimpleAnswer, simple_none, simple_inside, simple_itself, simple_refused}
use Rattle.parse_targets.proofs.cover.+simple_target.Goals as goal
use Rattle.js_grammar.specs.TreeForms.{is_parenthesized}

pub returns-in_err-inner-clause-tree : goal.returns-in_err-inner-clause-tree
returns-in_err-inner-clause-tree t c = λ lo hi l cs h. subst (λ (r : Option NodeId). IsTarget c.args.ast.now lo hi l cs r) (sym c.from_residual.ensures) (empty_parens c.in_err-inner.ensures (ap (λ k. is_parenthesized (kind_of k)) (sym c.kind-kind.ensures) ∙ (sym c.is_parens.ensures ∙ c.if-is_parens.true)) h)

pub simple_target-requires : goal.simple_target-requires
simple_target-requires t c = (let l = child_less c.in_ok-inner.inner c.in_ok-inner.ensures c.requires in let e = c.decreases in omega arith, child_stood c.in_ok-inner.inner c.in_ok-inner.ensures c.requires)

pub returns-then-is_parens-clause-tree : goal.returns-then-is_parens-clause-tree
returns-then-is_parens-clause-tree t c = λ lo hi l cs h. in_the_parens c.in_ok-inner.inner c.simple_target.result c.in_ok-inner.ensures (ap (λ k. is_parenthesized (kind_of k)) (sym c.kind-kind.ensures) ∙ (sym c.is_parens.ensures ∙ c.if-is_parens.true)) h (λ m ds i. c.simple_target.ensures.tree lo hi m ds i)

pub returns-then-is_target-clause-tree : goal.returns-then-is_target-clause-tree
returns-then-is_target-clause-tree t c = λ lo hi l cs h. itself (ap (λ k. is_parenthesized (kind_of k)) (sym c.kind-kind.ensures) ∙ (sym c.is_parens.ensures ∙ c.if-is_parens.false)) (ap (λ k. is_target (kind_of k)) (sym c.kind-kind.ensures) ∙ (sym c.is_target.ensures ∙ c.if-is_target.true)) h

pub returns-else-is_target-clause-tree : goal.returns-else-is_target-clause-tree
returns-else-is_target-clause-tree t c = λ lo hi l cs h. no_target (ap (λ k. is_parenthesized (kind_of k)) (sym c.kind-kind.ensures) ∙ (sym c.is_parens.ensures ∙ c.if-is_parens.false)) (ap (λ k. is_target (kind_of k)) (sym c.kind-kind.ensures) ∙ (sym c.is_target.ensures ∙ c.if-is_target.false)) h

pub returns-in_err-inner-clause-node : goal.returns-in_err-inner-clause-node
returns-in_err-inner-clause-node t c = subst (λ (r : Option NodeId). SimpleAnswer c.args.ast.now c.args.id r) (sym c.from_residual.ensures) (simple_none {id = c.args.id} (ap (λ k. is_parenthesized (kind_of k)) (sym c.kind-kind.ensures) ∙ (sym c.is_parens.ensures ∙ c.if-is_parens.true)) c.in_err-inner.ensures)

pub returns-then-is_parens-clause-node : goal.returns-then-is_parens-clause-node
returns-then-is_parens-clause-node t c = simple_inside {id = c.args.id} {c = c.in_ok-inner.inner} c.simple_target.result (ap (λ k. is_parenthesized (kind_of k)) (sym c.kind-kind.ensures) ∙ (sym c.is_parens.ensures ∙ c.if-is_parens.true)) c.in_ok-inner.ensures c.simple_target.ensures.node

pub returns-then-is_target-clause-node : goal.returns-then-is_target-clause-node
returns-then-is_target-clause-node t c = simple_itself {id = c.args.id} (ap (λ k. is_parenthesized (kind_of k)) (sym c.kind-kind.ensures) ∙ (sym c.is_parens.ensures ∙ c.if-is_parens.false)) (ap (λ k. is_target (kind_of k)) (sym c.kind-kind.ensures) ∙ (sym c.is_target.ensures ∙ c.if-is_target.true))

pub returns-else-is_target-clause-node : goal.returns-else-is_target-clause-node
returns-else-is_target-clause-node t c = simple_refused {id = c.args.id} (ap (λ k. is_parenthesized (kind_of k)) (sym c.kind-kind.ensures) ∙ (sym c.is_parens.ensures ∙ c.if-is_parens.false)) (ap (λ k. is_target (kind_of k)) (sym c.kind-kind.ensures) ∙ (sym c.is_target.ensures ∙ c.if-is_target.false))
