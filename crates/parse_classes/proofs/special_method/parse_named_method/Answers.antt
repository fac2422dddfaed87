use Rattle.std.proofs.Common.{◌||◌, ap, arith, sym, ◌∙◌}
use Rattle.std.proofs.lemmas.Bool.{false≢true}
use Rattle.std.proofs.lemmas.Result.{err_from_is_err_and}
use Rattle.laws_classes.specs.Members.{kind_of_word}
use Rattle.laws_classes.proofs.laws_primary.laws_shared.Moving.{standing}
use Rattle.laws_classes.proofs.laws_primary.laws_shared.Nesting.{later_room, nests_later}
use Rattle.laws_classes.proofs.NamedMethods.{named_stops, plain_method_read}
use Rattle.parse_classes.proofs.special_method.parse_named_method.Goals as goal

pub parse_string_method-requires-clause-string : goal.parse_string_method-requires-clause-string
parse_string_method-requires-clause-string g c = c.at.ensures.0 c.if-at.true

pub parse_element_name-requires-clause-nests : goal.parse_element_name-requires-clause-nests
parse_element_name-requires-clause-nests g c = nests_later c.requires.nests (omega arith)

pub returns-in_err-name : goal.returns-in_err-name
returns-in_err-name g c = λ text f first af s x.
    let z = err_from_is_err_and c.from_residual.result c.from_residual.ensures.1 in
    rw (z.1, z.2) (named_stops c.args.head.is_static _ _ x (c.in_err-name.ensures text f x.at))

pub parse_method-requires-clause-at : goal.parse_method-requires-clause-at
parse_method-requires-clause-at g c = standing (c.in_ok-name.ensures _ _ c.requires.at).whole.at

pub parse_method-requires-clause-nests : goal.parse_method-requires-clause-nests
parse_method-requires-clause-nests g c = nests_later c.requires.nests (
    let x = (c.in_ok-name.ensures _ _ c.requires.at).whole in
    let r = later_room (let i = x.further in let j = c.requires.at.behind in omega arith) x.same in omega arith)

pub parse_method-requires-clause-before : goal.parse_method-requires-clause-before
parse_method-requires-clause-before g c =
    let x = (c.in_ok-name.ensures _ _ c.requires.at).whole in
    let i = x.further in let j = c.requires.at.behind in let b = c.requires.before in omega arith

pub returns : goal.returns
returns g c = λ text f first af s x.
    plain_method_read c.args.head.is_static _ c.parse_method.result c.args.head.start c.in_ok-name.name af x s (c.in_ok-name.ensures text f x.at) (λ k. false≢true (sym c.if-at.false ∙ c.at.ensures.1 k)) _ (c.kind_of_named-kind.ensures ∙ ap (kind_of_word (c.in_ok-name.name.computed || c.args.head.is_static)) c.cur_kind-first.ensures) c.parse_method.ensures
