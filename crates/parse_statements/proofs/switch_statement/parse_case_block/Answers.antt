use Rattle.std.proofs.Common.{◌∙◌, ap, arith, refl}
use Rattle.std.proofs.lemmas.Result.{err_from_is_err_and}
use Rattle.js_base.specs.Contexts.{has_flag, in_flag}
use Rattle.js_base.specs.declared.kind.Kind.TheVariants.{LCurly, RCurly}
use Rattle.parse_shared.proofs.laws_shared.Moving.{standing}
use Rattle.parse_shared.proofs.laws_shared.Nesting.{nested_room, nests_later}
use Rattle.parse_shared.proofs.laws_shared.Signs.{whole_sign}
use Rattle.parse_shared.proofs.laws_shared.Expected.{unexpected, expected}
use Rattle.parse_control.proofs.laws_statements.SwitchStatements.{block_taken, clauses_stop, no_block_here}
use Rattle.parse_statements.proofs.switch_statement.parse_case_block.Goals as goal

pub returns-in_err-expect : goal.returns-in_err-expect
returns-in_err-expect t c =
    let p = err_from_is_err_and c.from_residual.result c.from_residual.ensures.1 in
    rw (p.1, p.2) (λ text f a. unexpected a LCurly _ _ c.in_err-expect.ensures (λ n. no_block_here a n))

pub parse_clauses-requires-clause-at : goal.parse_clauses-requires-clause-at
parse_clauses-requires-clause-at t c =
    let i = c.in_ok-expect.ensures in
    standing (expected c.requires.at LCurly i.0 i.1 refl refl).at

pub parse_clauses-requires-clause-nests : goal.parse_clauses-requires-clause-nests
parse_clauses-requires-clause-nests t c =
    let i = c.in_ok-expect.ensures in
    nests_later c.requires.nests (let r = nested_room c.requires.at (expected c.requires.at LCurly i.0 i.1 refl refl) in omega arith)

pub parse_clauses-requires-clause-allows_in : goal.parse_clauses-requires-clause-allows_in
parse_clauses-requires-clause-allows_in t c =
    let i = c.in_ok-expect.ensures in
    ap (has_flag in_flag) (expected c.requires.at LCurly i.0 i.1 refl refl).same.ctx ∙ c.requires.allows_in

pub returns-in_err-clauses : goal.returns-in_err-clauses
returns-in_err-clauses t c =
    let p = err_from_is_err_and c.from_residual-in_err-clauses.result c.from_residual-in_err-clauses.ensures.1 in
    let i = c.in_ok-expect.ensures in
    rw (p.1, p.2) (λ text f a.
    let m = expected a LCurly i.0 i.1 refl refl in
    clauses_stop a i.0 m _ _ (c.in_err-clauses.ensures text f m.at))

pub advance-requires-clause-at : goal.advance-requires-clause-at
advance-requires-clause-at t c =
    let i = c.in_ok-expect.ensures in
    standing (c.in_ok-clauses.ensures.1 _ _ (expected c.requires.at LCurly i.0 i.1 refl refl).at).at

pub advance-requires-clause-whole : goal.advance-requires-clause-whole
advance-requires-clause-whole t c =
    let i = c.in_ok-expect.ensures in
    let y = c.in_ok-clauses.ensures in
    whole_sign RCurly (y.1 _ _ (expected c.requires.at LCurly i.0 i.1 refl refl).at).at y.0 refl refl

pub returns : goal.returns
returns t c = λ text f a.
    let i = c.in_ok-expect.ensures in
    let m = expected a LCurly i.0 i.1 refl refl in
    let y = c.in_ok-clauses.ensures in
    let x = y.1 text f m.at in
    block_taken a i.0 m x y.0 (c.in_ok-advance.ensures text f x.at)
