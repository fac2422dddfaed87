use Rattle.std.proofs.Common.{arith, ap}
use Rattle.parse_shared.specs.laws_shared.Moves.{unpassable}
use Rattle.js_base.specs.declared.kind.Kind.TheVariants.{RAngle}
use Rattle.js_base.specs.Kinds.{same_kind}
use Rattle.parse_shared.proofs.laws_shared.Here.{uncut}
use Rattle.parse_shared.proofs.laws_shared.Moving.{standing}
use Rattle.parse_primary.proofs.laws_primary.Members.{name_outcome}
use Rattle.parse_members.proofs.left_hand_side.parse_named_link.Goals as goal

pub advance-requires-clause-whole : goal.advance-requires-clause-whole
advance-requires-clause-whole g c = (uncut c.requires.at (ap (same_kind RAngle) c.requires.sign.0), ap unpassable c.requires.sign.0)

pub parse_member_name-requires-clause-at : goal.parse_member_name-requires-clause-at
parse_member_name-requires-clause-at g c = standing (c.in_ok-advance.ensures _ _ c.requires.at).at

pub parse_member_name-requires-clause-start : goal.parse_member_name-requires-clause-start
parse_member_name-requires-clause-start g c = let m = (c.in_ok-advance.ensures _ _ c.requires.at).further in let b = c.requires.at.behind in let s = c.requires.start in omega arith

pub returns : goal.returns
returns g c = λ text f a. name_outcome a c.requires.sign (c.in_ok-advance.ensures text f a) _ _ _ c.parse_member_name.result c.parse_member_name.ensures
