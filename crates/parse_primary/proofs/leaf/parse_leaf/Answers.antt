use Rattle.std.proofs.Common.{◌≡◌, [], subst}
use Rattle.js_base.specs.declared.span.Span.{Span}
use Rattle.laws_primary.specs.laws_shared.Moves.{MadeHere, plain_label}
use Rattle.parse_primary.proofs.leaf.parse_leaf.Goals as goal

pub returns : goal.returns
returns t c = λ text f a. record {
  mid = c.advance.new.p;
  moved = c.in_ok-advance.ensures text f a;
  made = subst (λ (s : Span). MadeHere (plain_label c.args.kind c.args.op s) [] c.advance.new.p c.make_leaf.new.p c.in_ok-node.node) (let e : c.span-span.result ≡ c.args.p.now.token.span = search in e) c.in_ok-node.ensures;
}
