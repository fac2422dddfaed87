use Rattle.std.proofs.Common.{◌∙◌, ap, arith, refl}
use Rattle.std.proofs.lemmas.Result.{err_from_is_err_and}
use Rattle.js_base.specs.Contexts.{has_flag, in_flag}
use Rattle.js_base.specs.declared.kind.Kind.TheVariants.{Finally}
use Rattle.parse_primary.proofs.laws_primary.Members.{stands_so}
use Rattle.parse_shared.proofs.laws_shared.Moving.{standing}
use Rattle.parse_shared.proofs.laws_shared.Nesting.{nested_room, nests_later}
use Rattle.parse_control.proofs.laws_statements.TryStatements.{finally_stops, finally_taken, part_memory, part_stops}
use Rattle.parse_control.proofs.laws_statements.WordStatements.{word_here}
use Rattle.parse_control.specs.laws_statements.TryStatements.{finally_of}
use Rattle.parse_statements.proofs.try_statement.parse_finally.Goals as goal

pub returns-then-not-stands : goal.returns-then-not-stands
returns-then-not-stands t c = (stands_so c.args.p.now Finally c.if-not-stands.true c.stands.ensures, refl)

pub advance-requires-clause-whole : goal.advance-requires-clause-whole
advance-requires-clause-whole t c = word_here Finally c.requires.at (stands_so c.args.p.now Finally c.if-not-stands.false c.stands.ensures) refl

pub returns-in_err-advance : goal.returns-in_err-advance
returns-in_err-advance t c =
    let p = err_from_is_err_and c.from_residual.result c.from_residual.ensures.1 in
    rw (p.1, p.2) (part_memory finally_of Finally c.args.p.now c.advance.new.p _ c.in_err-advance.ensures)

pub parse_block-requires-clause-at : goal.parse_block-requires-clause-at
parse_block-requires-clause-at t c = standing (c.in_ok-advance.ensures _ _ c.requires.at).at

pub parse_block-requires-clause-nests : goal.parse_block-requires-clause-nests
parse_block-requires-clause-nests t c = nests_later c.requires.nests (let r = nested_room c.requires.at (c.in_ok-advance.ensures _ _ c.requires.at) in omega arith)

pub parse_block-requires-clause-allows_in : goal.parse_block-requires-clause-allows_in
parse_block-requires-clause-allows_in t c = ap (has_flag in_flag) (c.in_ok-advance.ensures _ _ c.requires.at).same.ctx ∙ c.requires.allows_in

pub returns-in_err-block : goal.returns-in_err-block
returns-in_err-block t c =
    let p = err_from_is_err_and c.from_residual-in_err-block.result c.from_residual-in_err-block.ensures.1 in
    let h = stands_so c.args.p.now Finally c.if-not-stands.false c.stands.ensures in
    rw (p.1, p.2) (part_stops finally_of Finally c.args.p.now c.parse_block.new.p _ h (λ text f a. let m = c.in_ok-advance.ensures text f a in finally_stops a h m _ _ (c.in_err-block.ensures text f m.at)))

pub returns : goal.returns
returns t c =
    let h = stands_so c.args.p.now Finally c.if-not-stands.false c.stands.ensures in
    (h, λ text f a. let m = c.in_ok-advance.ensures text f a in finally_taken a h m (c.in_ok-block.ensures text f m.at))
