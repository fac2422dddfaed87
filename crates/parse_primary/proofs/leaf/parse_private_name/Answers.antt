use Rattle.std.proofs.Common.{ap, [], subst}
use Rattle.js_base.specs.Kinds.{same_kind}
use Rattle.js_base.specs.declared.kind.Kind.TheVariants.{RAngle}
use Rattle.js_base.specs.declared.token.Token.{Token}
use Rattle.laws_primary.specs.js_tree.declared.kind.NodeKind.TheVariants as node
use Rattle.laws_primary.specs.js_tree.declared.op.Op.TheVariants as op
use Rattle.laws_primary.specs.laws_shared.Moves.{MadeHere, plain_label, unpassable}
use Rattle.laws_primary.proofs.laws_shared.Here.{uncut}
use Rattle.laws_primary.proofs.laws_shared.NodeTexts.{private_later}
use Rattle.parse_primary.proofs.leaf.parse_private_name.Goals as goal

pub advance-requires-clause-whole : goal.advance-requires-clause-whole
advance-requires-clause-whole g c = (uncut c.requires.at (ap (same_kind RAngle) c.requires.private), ap unpassable c.requires.private)

pub make_private_name-requires : goal.make_private_name-requires
make_private_name-requires g c = private_later c.requires.at c.requires.private c.cur_token-token.ensures (c.in_ok-advance.ensures _ _ c.requires.at).same.follows.text

pub returns : goal.returns
returns g c = λ text f a. record {
  mid = c.advance.new.p;
  moved = c.in_ok-advance.ensures text f a;
  made = subst (λ (t : Token). MadeHere (plain_label node.PrivateIdentifier op.None t.span) [] c.advance.new.p c.make_private_name.new.p c.in_ok-node.node) c.cur_token-token.ensures c.in_ok-node.ensures;
}
