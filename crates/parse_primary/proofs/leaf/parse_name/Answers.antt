use Rattle.std.proofs.Common.{[], subst}
use Rattle.js_base.specs.declared.token.Token.{Token}
use Rattle.laws_primary.specs.js_tree.declared.op.Op.TheVariants as op
use Rattle.laws_primary.specs.laws_shared.Moves.{MadeHere, plain_label}
use Rattle.laws_primary.proofs.laws_shared.NodeTexts.{spells_later}
use Rattle.parse_primary.proofs.leaf.parse_name.Goals as goal

pub make_name-requires-clause-spells : goal.make_name-requires-clause-spells
make_name-requires-clause-spells g c = spells_later c.requires.at c.requires.word c.cur_token-token.ensures (c.in_ok-advance.ensures _ _ c.requires.at).same.follows.text

pub returns : goal.returns
returns g c = λ text f a. record {
  mid = c.advance.new.p;
  moved = c.in_ok-advance.ensures text f a;
  made = subst (λ (t : Token). MadeHere (plain_label c.args.kind op.None t.span) [] c.advance.new.p c.make_name.new.p c.in_ok-node.node) c.cur_token-token.ensures c.in_ok-node.ensures;
}
