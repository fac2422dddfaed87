use Rattle.std.proofs.Common.{◌≡◌, length, arith, ap, ◌∙◌, subst, below_more}
use Rattle.std.proofs.lemmas.List.{length-map}
use Rattle.std.proofs.lemmas.List.Elements.{All-from_get_or}
use Rattle.js_base.specs.Spans.{LiesIn}
use Rattle.js_base.specs.declared.span.Span.{Span}
use Rattle.js_tree.specs.Nodes.{Node, empty_program}
use Rattle.test_units.proofs.json.all_lie_in.Goals as goal

pub loop-i-preserved : goal.loop-i-preserved
loop-i-preserved c = below_more _ _ c.loop-i.invariant (subst (λ (s : Span). LiesIn s c.args.source.now) c.span.ensures (c.lies_in.ensures c.if-not-lies_in.false))

pub returns : goal.returns
returns c h = All-from_get_or (λ (n : Node). LiesIn n.span c.args.source.now) c.args.tree.now empty_program (λ k w. c.loop-i.invariant k (let e : length c.kinds-i-end.result.now ≡ length c.args.tree.now = ap length c.kinds-i-end.ensures ∙ length-map c.args.tree.now (λ (n : Node). n.kind) in let z = c.loop-i-test.false in omega arith))
