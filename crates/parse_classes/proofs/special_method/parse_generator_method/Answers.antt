use Rattle.std.proofs.Common.{arith, ap}
use Rattle.js_base.specs.declared.kind.Kind.TheVariants.{RAngle}
use Rattle.js_base.specs.Kinds.{same_kind}
use Rattle.laws_classes.specs.laws_primary.laws_shared.Moves.{unpassable}
use Rattle.laws_classes.proofs.laws_primary.laws_shared.Here.{uncut}
use Rattle.laws_classes.proofs.laws_primary.laws_shared.Moving.{standing}
use Rattle.laws_classes.proofs.laws_primary.laws_shared.Nesting.{nested_room, nests_later}
use Rattle.laws_classes.proofs.Elements.{at_first}
use Rattle.laws_classes.proofs.SpecialMethods.{generator_begins}
use Rattle.parse_classes.proofs.special_method.parse_generator_method.Goals as goal

pub advance-requires-clause-whole : goal.advance-requires-clause-whole
advance-requires-clause-whole g c = (uncut c.requires.at (ap (same_kind RAngle) c.requires.sign), ap unpassable c.requires.sign)

pub parse_named_method-requires-clause-at : goal.parse_named_method-requires-clause-at
parse_named_method-requires-clause-at g c = standing (c.in_ok-advance.ensures _ _ c.requires.at).at

pub parse_named_method-requires-clause-nests : goal.parse_named_method-requires-clause-nests
parse_named_method-requires-clause-nests g c = nests_later c.requires.nests (let r = nested_room c.requires.at (c.in_ok-advance.ensures _ _ c.requires.at) in omega arith)

pub parse_named_method-requires-clause-before : goal.parse_named_method-requires-clause-before
parse_named_method-requires-clause-before g c =
    let m = c.in_ok-advance.ensures _ _ c.requires.at in
    let i = m.further in let b = c.requires.before in omega arith

pub returns : goal.returns
returns g c = λ text f first af s b.
    let a = at_first c.args.head.is_static af b in
    c.parse_named_method.ensures text f first af s (generator_begins c.args.head.is_static af b a c.requires.sign (c.in_ok-advance.ensures text f a))
