use Rattle.std.proofs.Common.{arith, ap, sym, ◌∙◌}
use Rattle.std.proofs.lemmas.Bool.{false≢true}
use Rattle.js_base.specs.declared.kind.Kind.TheVariants.{RAngle, Star}
use Rattle.js_base.specs.Kinds.{same_kind}
use Rattle.laws_classes.specs.laws_primary.laws_shared.Moves.{unpassable}
use Rattle.laws_classes.proofs.laws_primary.laws_shared.Here.{uncut}
use Rattle.laws_classes.proofs.laws_primary.laws_shared.Moving.{standing}
use Rattle.laws_classes.proofs.laws_primary.laws_shared.Nesting.{nested_room, nests_later}
use Rattle.laws_classes.proofs.laws_primary.laws_shared.Signs.{other_kind}
use Rattle.laws_classes.proofs.SpecialMethods.{async_begins, async_generator_begins}
use Rattle.parse_classes.proofs.special_method.parse_async_method.Goals as goal

pub advance-requires-clause-whole : goal.advance-requires-clause-whole
advance-requires-clause-whole g c = (uncut c.requires.at (ap (same_kind RAngle) (c.at.ensures.0 c.if-at.true)), ap unpassable (c.at.ensures.0 c.if-at.true))

pub parse_named_method-requires-clause-at : goal.parse_named_method-requires-clause-at
parse_named_method-requires-clause-at g c = standing (c.in_ok-advance.ensures _ _ c.requires.at).at

pub parse_named_method-requires-clause-nests : goal.parse_named_method-requires-clause-nests
parse_named_method-requires-clause-nests g c = nests_later c.requires.nests (let r = nested_room c.requires.at (c.in_ok-advance.ensures _ _ c.requires.at) in omega arith)

pub parse_named_method-requires-clause-before : goal.parse_named_method-requires-clause-before
parse_named_method-requires-clause-before g c =
    let m = c.in_ok-advance.ensures _ _ c.requires.at in
    let i = m.further in let j = c.requires.at.behind in let b = c.requires.before in omega arith

pub returns-then-at : goal.returns-then-at
returns-then-at g c = λ text f first p af s a b k e l i m.
    c.parse_named_method.ensures text f first af s (async_generator_begins c.args.head.is_static af b a k e l i m (c.at.ensures.0 c.if-at.true) (c.in_ok-advance.ensures text f m.at))

pub returns : goal.returns
returns g c = λ text f first p af s a b k e l i m.
    c.parse_named_method-2.ensures text f first af s (async_begins c.args.head.is_static af b a k e l i m (other_kind Star _ (λ h. false≢true (sym c.if-at.false ∙ c.at.ensures.1 h))))
