use Rattle.std.proofs.Common.{arith}
use Rattle.std.proofs.lemmas.Result.{err_from_is_err_and}
use Rattle.laws_classes.proofs.laws_primary.laws_shared.Moving.{standing}
use Rattle.laws_classes.proofs.laws_primary.laws_shared.Nesting.{later_room, nests_later}
use Rattle.laws_classes.proofs.StringMembers.{only_memory, string_contained, string_is, string_lies, string_named_method, string_read}
use Rattle.parse_classes.proofs.special_method.parse_string_method.Goals as goal

pub returns-in_err-key : goal.returns-in_err-key
returns-in_err-key g c = λ text f first af s x.
    let z = err_from_is_err_and c.from_residual.result c.from_residual.ensures.1 in
    rw (z.1, z.2) (only_memory _ _ _ _ c.in_err-key.ensures)

pub kind_of_string-requires-clause-contained : goal.kind_of_string-requires-clause-contained
kind_of_string-requires-clause-contained g c = string_contained c.requires.at c.requires.string c.in_ok-key.ensures

pub kind_of_string-requires-clause-lies : goal.kind_of_string-requires-clause-lies
kind_of_string-requires-clause-lies g c = string_lies c.requires.at c.requires.string c.in_ok-key.ensures

pub kind_of_string-requires-clause-string : goal.kind_of_string-requires-clause-string
kind_of_string-requires-clause-string g c = string_is c.requires.at c.requires.string c.in_ok-key.ensures

pub parse_method-requires-clause-at : goal.parse_method-requires-clause-at
parse_method-requires-clause-at g c = standing (string_read c.requires.at c.requires.string c.in_ok-key.ensures).whole.at

pub parse_method-requires-clause-nests : goal.parse_method-requires-clause-nests
parse_method-requires-clause-nests g c = nests_later c.requires.nests (
    let x = (string_read c.requires.at c.requires.string c.in_ok-key.ensures).whole in
    let r = later_room (let i = x.further in let j = c.requires.at.behind in omega arith) x.same in omega arith)

pub parse_method-requires-clause-before : goal.parse_method-requires-clause-before
parse_method-requires-clause-before g c =
    let x = (string_read c.requires.at c.requires.string c.in_ok-key.ensures).whole in
    let i = x.further in let j = c.requires.at.behind in let b = c.requires.before in omega arith

pub returns : goal.returns
returns g c = λ text f first af s x.
    string_named_method x.at c.requires.string c.in_ok-key.ensures c.args.head.is_static _ c.parse_method.result c.args.head.start af x s _ c.in_ok-kind.ensures c.parse_method.ensures
