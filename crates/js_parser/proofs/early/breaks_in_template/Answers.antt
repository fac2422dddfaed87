use Rattle.std.proofs.Common.{◌≡◌, ℕ, false, List, None, subst, sym}
use Rattle.js_tree.specs.Labels.{kind_of}
use Rattle.js_tree.specs.declared.kind.NodeKind.{NodeKind}
use Rattle.js_parser.specs.AttributeKeys.{is_clause}
use Rattle.js_parser.specs.Broken.{broken_rule}
use Rattle.js_grammar.specs.EarlyRules.{is_member}
use Rattle.js_parser.specs.declared.early.Position.{Position}
use Rattle.js_parser.proofs.Broken.{by_kind_none}
use Rattle.js_parser.proofs.early.breaks_in_template.Goals as goal

pub returns-then-not-may_break : goal.returns-then-not-may_break
returns-then-not-may_break c = sym (by_kind_none c.args.source.now c.args.tree.now c.args.id (subst (λ (k : NodeKind). (p : Position) (w : List ℕ) → broken_rule p (kind_of k) w ≡ None) c.kind.ensures (c.may_break.ensures.rule c.if-not-may_break.true)) (subst (λ (k : NodeKind). is_member (kind_of k) ≡ false) c.kind.ensures (c.may_break.ensures.name c.if-not-may_break.true)) (subst (λ (k : NodeKind). is_clause (kind_of k) ≡ false) c.kind.ensures (c.may_break.ensures.keys c.if-not-may_break.true)))
