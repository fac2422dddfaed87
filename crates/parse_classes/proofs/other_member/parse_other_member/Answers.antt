use Rattle.std.proofs.Common.{arith, sym, ◌∙◌}
use Rattle.std.proofs.lemmas.Bool.{false≢true}
use Rattle.std.proofs.lemmas.Result.{err_from_is_err_and}
use Rattle.laws_classes.proofs.laws_primary.laws_shared.Moving.{standing}
use Rattle.laws_classes.proofs.laws_primary.laws_shared.Nesting.{later_room, nests_later}
use Rattle.laws_classes.proofs.Elements.{at_first}
use Rattle.laws_classes.proofs.OtherMembers.{no_prefix_first, no_word_first, other_field_read, other_method_read, other_stops, other_tested}
use Rattle.parse_classes.proofs.other_member.parse_other_member.Goals as goal

pub parse_element_name-requires-clause-nests : goal.parse_element_name-requires-clause-nests
parse_element_name-requires-clause-nests g c = nests_later c.requires.nests (omega arith)

pub returns-in_err-name : goal.returns-in_err-name
returns-in_err-name g c = λ text f first af s b.
    let z = err_from_is_err_and c.from_residual.result c.from_residual.ensures.1 in
    rw (z.1, z.2) (other_stops c.args.head.is_static af b (at_first c.args.head.is_static af b) (no_prefix_first (at_first c.args.head.is_static af b) c.requires.plain) c.requires.name _ _ (c.in_err-name.ensures text f (at_first c.args.head.is_static af b)))

pub parse_method-requires-clause-at : goal.parse_method-requires-clause-at
parse_method-requires-clause-at g c = standing (c.in_ok-name.ensures _ _ c.requires.at).whole.at

pub parse_method-requires-clause-nests : goal.parse_method-requires-clause-nests
parse_method-requires-clause-nests g c = nests_later c.requires.nests (
    let x = (c.in_ok-name.ensures _ _ c.requires.at).whole in
    let r = later_room (let i = x.further in let j = c.requires.at.behind in omega arith) x.same in omega arith)

pub parse_method-requires-clause-before : goal.parse_method-requires-clause-before
parse_method-requires-clause-before g c =
    let x = (c.in_ok-name.ensures _ _ c.requires.at).whole in
    let i = x.further in let b = c.requires.before in omega arith

pub returns-then-at : goal.returns-then-at
returns-then-at g c = λ text f first af s b.
    other_method_read c.args.head.is_static af b (at_first c.args.head.is_static af b) (no_prefix_first (at_first c.args.head.is_static af b) c.requires.plain) c.requires.name _ c.parse_method.result c.args.head.start c.in_ok-name.name s (c.in_ok-name.ensures text f (at_first c.args.head.is_static af b)) (c.at.ensures.0 c.if-at.true) (other_tested (at_first c.args.head.is_static af b) (no_word_first (at_first c.args.head.is_static af b) c.requires.plain)) c.parse_method.ensures

pub parse_field-requires-clause-at : goal.parse_field-requires-clause-at
parse_field-requires-clause-at g c = standing (c.in_ok-name.ensures _ _ c.requires.at).whole.at

pub parse_field-requires-clause-nests : goal.parse_field-requires-clause-nests
parse_field-requires-clause-nests g c = nests_later c.requires.nests (
    let x = (c.in_ok-name.ensures _ _ c.requires.at).whole in
    let r = later_room (let i = x.further in let j = c.requires.at.behind in omega arith) x.same in omega arith)

pub parse_field-requires-clause-before : goal.parse_field-requires-clause-before
parse_field-requires-clause-before g c =
    let x = (c.in_ok-name.ensures _ _ c.requires.at).whole in
    let i = x.further in let b = c.requires.before in omega arith

pub returns : goal.returns
returns g c = λ text f first af s b.
    other_field_read c.args.head.is_static af b (at_first c.args.head.is_static af b) (no_prefix_first (at_first c.args.head.is_static af b) c.requires.plain) c.requires.name _ c.parse_field.result c.args.head.start c.in_ok-name.name s (c.in_ok-name.ensures text f (at_first c.args.head.is_static af b)) (λ k. false≢true (sym c.if-at.false ∙ c.at.ensures.1 k)) c.parse_field.ensures
