use Rattle.std.proofs.Common.{◌∙◌, ap, refl}
use Rattle.std.proofs.lemmas.Result.{err_from_is_err_and}
use Rattle.js_base.specs.Contexts.{has_flag, in_flag}
use Rattle.js_base.specs.declared.kind.Kind.TheVariants.{Else}
use Rattle.parse_primary.proofs.laws_primary.Members.{stands_so}
use Rattle.parse_shared.proofs.laws_shared.Moving.{standing}
use Rattle.parse_shared.proofs.laws_shared.Nesting.{nested_room}
use Rattle.laws_statements.proofs.CompoundStatements.{alternate_memory, alternate_refused}
use Rattle.laws_statements.proofs.WordStatements.{word_here}
use Rattle.parse_control.proofs.compound_statement.parse_alternate.Goals as goal

pub returns-then-not-stands : goal.returns-then-not-stands
returns-then-not-stands t c = (stands_so c.args.p.now Else c.if-not-stands.true c.stands.ensures, refl)

pub advance-requires-clause-whole : goal.advance-requires-clause-whole
advance-requires-clause-whole t c = word_here Else c.requires.at (stands_so c.args.p.now Else c.if-not-stands.false c.stands.ensures) refl

pub returns-in_err-advance : goal.returns-in_err-advance
returns-in_err-advance t c =
    let p = err_from_is_err_and c.from_residual.result c.from_residual.ensures.1 in
    rw (p.1, p.2) (alternate_memory c.args.p.now c.advance.new.p _ c.in_err-advance.ensures)

pub statement-requires : goal.statement-requires
statement-requires t c =
    let m = c.in_ok-advance.ensures _ _ c.requires.at in
    c.requires.nests _ _ (standing m.at, ap (has_flag in_flag) m.same.ctx ∙ c.requires.allows_in) (nested_room c.requires.at m)

pub returns-in_err-alternate : goal.returns-in_err-alternate
returns-in_err-alternate t c =
    let p = err_from_is_err_and c.from_residual-in_err-alternate.result c.from_residual-in_err-alternate.ensures.1 in
    rw (p.1, p.2) (alternate_refused c.args.p.now c.advance.new.p c.statement.new.p _ (stands_so c.args.p.now Else c.if-not-stands.false c.stands.ensures) c.in_ok-advance.ensures c.in_err-alternate.ensures)

pub returns : goal.returns
returns t c = (stands_so c.args.p.now Else c.if-not-stands.false c.stands.ensures, λ text f a. let m = c.in_ok-advance.ensures text f a in record { mid = c.advance.new.p; moved = m; taken = c.in_ok-alternate.ensures text f m.at })
