use Rattle.std.proofs.Common.{◌≡◌, [], subst}
use Rattle.js_base.specs.declared.span.Span.{Span}
use Rattle.js_base.specs.Kinds.{same_kind}
use Rattle.laws_primary.specs.js_tree.declared.kind.NodeKind.TheVariants as node
use Rattle.laws_primary.specs.js_tree.declared.op.Op.TheVariants as op
use Rattle.std.proofs.Common.{ap}
use Rattle.js_base.specs.declared.kind.Kind.TheVariants.{RAngle}
use Rattle.laws_primary.specs.laws_shared.Moves.{MadeHere, plain_label, unpassable}
use Rattle.laws_primary.proofs.laws_shared.Here.{uncut}
use Rattle.laws_primary.proofs.laws_shared.NodeTexts.{string_later}
use Rattle.parse_primary.proofs.leaf.parse_string.Goals as goal

pub advance-requires-clause-whole : goal.advance-requires-clause-whole
advance-requires-clause-whole g c = (uncut c.requires.at (ap (same_kind RAngle) c.requires.string), ap unpassable c.requires.string)

pub make_string-requires : goal.make_string-requires
make_string-requires g c = string_later _ c.requires.at c.requires.string (let e : c.span-span.result ≡ c.args.p.now.token.span = search in e) (c.in_ok-advance.ensures _ _ c.requires.at).same.follows.text

pub returns : goal.returns
returns g c = λ text f a. record {
  mid = c.advance.new.p;
  moved = c.in_ok-advance.ensures text f a;
  made = subst (λ (s : Span). MadeHere (plain_label node.StringLiteral op.None s) [] c.advance.new.p c.make_string.new.p c.in_ok-node.node) (let e : c.span-span.result ≡ c.args.p.now.token.span = search in e) c.in_ok-node.ensures;
}
