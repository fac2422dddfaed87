use Rattle.std.proofs.Common.{ap, arith, sym, ◌∙◌}
use Rattle.std.proofs.lemmas.Result.{err_from_is_err_and}
use Rattle.parse_shared.specs.laws_shared.Nesting.{room}
use Rattle.parse_shared.proofs.laws_shared.Contexts.{no_in_at}
use Rattle.parse_shared.proofs.laws_shared.Moving.{standing}
use Rattle.parse_shared.proofs.laws_shared.Nesting.{nests_later}
use Rattle.js_base.specs.declared.kind.Kind.TheVariants.{Semicolon}
use Rattle.parse_shared.specs.js_cursor.Parsers.{Parser}
use Rattle.laws_statements.proofs.ForHeads.{at_end_so, first_empty}
use Rattle.laws_statements.proofs.ForContexts.{first_outside, first_stops_outside}
use Rattle.parse_control.proofs.for_statement.parse_first_part.Goals as goal

pub returns-then-at_end : goal.returns-then-at_end
returns-then-at_end g c = λ text f a. first_empty a c.args.is_await (at_end_so Semicolon c.args.p.now c.if-at_end.true c.at_end.ensures)

pub parse_part_without_in-requires-clause-other : goal.parse_part_without_in-requires-clause-other
parse_part_without_in-requires-clause-other g c = λ k. (at_end_so Semicolon c.args.p.now c.if-at_end.false c.at_end.ensures).0 (ap (λ (v : Parser). v.token.kind) (sym c.set_context.ensures) ∙ k)

pub parse_part_without_in-requires-clause-at : goal.parse_part_without_in-requires-clause-at
parse_part_without_in-requires-clause-at g c = standing (no_in_at c.requires.at c.context-outer.ensures c.and_in.ensures c.set_context.ensures)

pub parse_part_without_in-requires-clause-nests : goal.parse_part_without_in-requires-clause-nests
parse_part_without_in-requires-clause-nests g c = nests_later c.requires.nests (let e = ap room c.set_context.ensures in omega arith)

pub returns-in_err-first : goal.returns-in_err-first
returns-in_err-first g c =
    let p = err_from_is_err_and c.from_residual.result c.from_residual.ensures.1 in
    rw (p.1, p.2) (λ text f a. first_stops_outside text f c.args.is_await _ _ _ _ _ a.at c.set_context.ensures (c.in_err-first.ensures text _ (no_in_at a c.context-outer.ensures c.and_in.ensures c.set_context.ensures)))

pub returns : goal.returns
returns g c = λ text f a. first_outside a c.context-outer.ensures c.set_context.ensures (c.in_ok-first.ensures text _ (no_in_at a c.context-outer.ensures c.and_in.ensures c.set_context.ensures)) c.set_context-2.ensures
