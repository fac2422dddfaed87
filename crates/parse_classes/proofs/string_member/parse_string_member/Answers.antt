use Rattle.std.proofs.Common.{arith, sym, ap, ◌∙◌}
use Rattle.std.proofs.lemmas.Bool.{false≢true}
use Rattle.std.proofs.lemmas.Result.{err_from_is_err_and}
use Rattle.js_base.specs.Kinds.{one_of_kinds}
use Rattle.laws_classes.specs.Members.{name_kinds, prefix_kinds}
use Rattle.laws_classes.proofs.laws_primary.laws_shared.Moving.{standing}
use Rattle.laws_classes.proofs.laws_primary.laws_shared.Nesting.{later_room, nests_later}
use Rattle.laws_classes.proofs.Elements.{at_first}
use Rattle.laws_classes.proofs.OtherMembers.{other_field_read}
use Rattle.laws_classes.proofs.StringMembers.{only_memory, string_contained, string_is, string_lies, string_method, string_read}
use Rattle.parse_classes.proofs.string_member.parse_string_member.Goals as goal

pub returns-in_err-key : goal.returns-in_err-key
returns-in_err-key g c = λ text f first af s b.
    let z = err_from_is_err_and c.from_residual.result c.from_residual.ensures.1 in
    rw (z.1, z.2) (only_memory _ _ _ _ c.in_err-key.ensures)

pub kind_of_string-requires-clause-contained : goal.kind_of_string-requires-clause-contained
kind_of_string-requires-clause-contained g c = string_contained c.requires.at c.requires.string c.in_ok-key.ensures

pub kind_of_string-requires-clause-lies : goal.kind_of_string-requires-clause-lies
kind_of_string-requires-clause-lies g c = string_lies c.requires.at c.requires.string c.in_ok-key.ensures

pub kind_of_string-requires-clause-string : goal.kind_of_string-requires-clause-string
kind_of_string-requires-clause-string g c = string_is c.requires.at c.requires.string c.in_ok-key.ensures

pub parse_method-requires-clause-at : goal.parse_method-requires-clause-at
parse_method-requires-clause-at g c = standing (string_read c.requires.at c.requires.string c.in_ok-key.ensures).whole.at

pub parse_method-requires-clause-nests : goal.parse_method-requires-clause-nests
parse_method-requires-clause-nests g c = nests_later c.requires.nests (
    let x = (string_read c.requires.at c.requires.string c.in_ok-key.ensures).whole in
    let r = later_room (let i = x.further in let j = c.requires.at.behind in omega arith) x.same in omega arith)

pub parse_method-requires-clause-before : goal.parse_method-requires-clause-before
parse_method-requires-clause-before g c =
    let x = (string_read c.requires.at c.requires.string c.in_ok-key.ensures).whole in
    let i = x.further in let b = c.requires.before in omega arith

pub returns-then-at : goal.returns-then-at
returns-then-at g c = λ text f first af s b.
    string_method (at_first c.args.head.is_static af b) c.requires.string c.in_ok-key.ensures c.args.head.is_static _ c.parse_method.result c.args.head.start af b s (c.at.ensures.0 c.if-at.true) _ c.in_ok-kind.ensures c.parse_method.ensures

pub parse_field-requires-clause-at : goal.parse_field-requires-clause-at
parse_field-requires-clause-at g c = standing (string_read c.requires.at c.requires.string c.in_ok-key.ensures).whole.at

pub parse_field-requires-clause-nests : goal.parse_field-requires-clause-nests
parse_field-requires-clause-nests g c = nests_later c.requires.nests (
    let x = (string_read c.requires.at c.requires.string c.in_ok-key.ensures).whole in
    let r = later_room (let i = x.further in let j = c.requires.at.behind in omega arith) x.same in omega arith)

pub parse_field-requires-clause-before : goal.parse_field-requires-clause-before
parse_field-requires-clause-before g c =
    let x = (string_read c.requires.at c.requires.string c.in_ok-key.ensures).whole in
    let i = x.further in let b = c.requires.before in omega arith

pub returns : goal.returns
returns g c = λ text f first af s b.
    let a = at_first c.args.head.is_static af b in
    other_field_read c.args.head.is_static af b a (ap (one_of_kinds prefix_kinds) c.requires.string) (ap (one_of_kinds name_kinds) c.requires.string) _ c.parse_field.result c.args.head.start _ s (string_read a c.requires.string c.in_ok-key.ensures) (λ k. false≢true (sym c.if-at.false ∙ c.at.ensures.1 k)) c.parse_field.ensures
