use Rattle.std.proofs.Common.{refl}
use Rattle.parse_shared.proofs.laws_shared.Signs.{whole_sign}
use Rattle.parse_primary.proofs.laws_primary.Operands.{number_outcome, number_passable}
use Rattle.parse_members.proofs.primary.parse_number.Goals as goal

pub returns : goal.returns
returns t c = λ text f a. number_outcome text f _ _ _ _ _ c.parse_leaf.result c.requires.number c.cur_kind-kind.ensures c.number_node.ensures.node c.number_op.ensures a c.requires.plain c.parse_leaf.ensures

pub parse_leaf-requires-clause-whole : goal.parse_leaf-requires-clause-whole
parse_leaf-requires-clause-whole t c = let u = number_passable _ c.requires.number in whole_sign _ c.requires.at refl u.0 u.1
