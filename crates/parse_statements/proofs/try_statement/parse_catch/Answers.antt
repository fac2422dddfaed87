use Rattle.std.proofs.Common.{◌∙◌, ap, arith, refl}
use Rattle.std.proofs.lemmas.Result.{err_from_is_err_and}
use Rattle.js_base.specs.Contexts.{has_flag, in_flag}
use Rattle.js_base.specs.declared.kind.Kind.TheVariants.{Catch}
use Rattle.js_grammar.specs.Productions.{sym}
use Rattle.js_grammar.specs.Productions.{Catch as ACatch}
use Rattle.parse_primary.proofs.laws_primary.Members.{stands_so}
use Rattle.parse_shared.proofs.laws_shared.Moving.{standing}
use Rattle.parse_shared.proofs.laws_shared.Nesting.{later_room, nested_room, nests_later}
use Rattle.parse_control.proofs.laws_statements.TryStatements.{catch_stops, catch_taken, parameter_at, parameter_forward, parameter_read, parameter_same, parameter_stops, part_memory, part_stops}
use Rattle.parse_control.proofs.laws_statements.WordStatements.{word_here}
use Rattle.parse_statements.proofs.try_statement.parse_catch.Goals as goal

pub returns-then-not-stands : goal.returns-then-not-stands
returns-then-not-stands t c = (stands_so c.args.p.now Catch c.if-not-stands.true c.stands.ensures, refl)

pub advance-requires-clause-whole : goal.advance-requires-clause-whole
advance-requires-clause-whole t c = word_here Catch c.requires.at (stands_so c.args.p.now Catch c.if-not-stands.false c.stands.ensures) refl

pub returns-in_err-advance : goal.returns-in_err-advance
returns-in_err-advance t c =
    let p = err_from_is_err_and c.from_residual.result c.from_residual.ensures.1 in
    rw (p.1, p.2) (part_memory (sym ACatch) Catch c.args.p.now c.advance.new.p _ c.in_err-advance.ensures)

pub parse_catch_parameter-requires-clause-at : goal.parse_catch_parameter-requires-clause-at
parse_catch_parameter-requires-clause-at t c = standing (c.in_ok-advance.ensures _ _ c.requires.at).at

pub parse_catch_parameter-requires-clause-nests : goal.parse_catch_parameter-requires-clause-nests
parse_catch_parameter-requires-clause-nests t c = nests_later c.requires.nests (let r = nested_room c.requires.at (c.in_ok-advance.ensures _ _ c.requires.at) in omega arith)

pub returns-in_err-parameter : goal.returns-in_err-parameter
returns-in_err-parameter t c =
    let p = err_from_is_err_and c.from_residual-in_err-parameter.result c.from_residual-in_err-parameter.ensures.1 in
    let h = stands_so c.args.p.now Catch c.if-not-stands.false c.stands.ensures in
    rw (p.1, p.2) (part_stops (sym ACatch) Catch c.args.p.now c.parse_catch_parameter.new.p _ h (λ text f a. parameter_stops a h (c.in_ok-advance.ensures text f a) _ _ c.in_err-parameter.ensures))

pub parse_block-requires-clause-at : goal.parse_block-requires-clause-at
parse_block-requires-clause-at t c =
    let h = stands_so c.args.p.now Catch c.if-not-stands.false c.stands.ensures in
    let m = c.in_ok-advance.ensures _ _ c.requires.at in
    standing (parameter_at c.requires.at h m (parameter_read c.requires.at h m c.in_ok-parameter.parameter c.in_ok-parameter.ensures))

pub parse_block-requires-clause-nests : goal.parse_block-requires-clause-nests
parse_block-requires-clause-nests t c =
    let h = stands_so c.args.p.now Catch c.if-not-stands.false c.stands.ensures in
    let m = c.in_ok-advance.ensures _ _ c.requires.at in
    let x = parameter_read c.requires.at h m c.in_ok-parameter.parameter c.in_ok-parameter.ensures in
    nests_later c.requires.nests (let s = later_room (let i = parameter_forward c.requires.at h m x in let j = m.further in let k = c.requires.at.behind in omega arith) (parameter_same c.requires.at h m x) in omega arith)

pub parse_block-requires-clause-allows_in : goal.parse_block-requires-clause-allows_in
parse_block-requires-clause-allows_in t c =
    let h = stands_so c.args.p.now Catch c.if-not-stands.false c.stands.ensures in
    let m = c.in_ok-advance.ensures _ _ c.requires.at in
    let x = parameter_read c.requires.at h m c.in_ok-parameter.parameter c.in_ok-parameter.ensures in
    ap (has_flag in_flag) (parameter_same c.requires.at h m x).ctx ∙ c.requires.allows_in

pub returns-in_err-block : goal.returns-in_err-block
returns-in_err-block t c =
    let p = err_from_is_err_and c.from_residual-in_err-block.result c.from_residual-in_err-block.ensures.1 in
    let h = stands_so c.args.p.now Catch c.if-not-stands.false c.stands.ensures in
    rw (p.1, p.2) (part_stops (sym ACatch) Catch c.args.p.now c.parse_block.new.p _ h (λ text f a.
    let m = c.in_ok-advance.ensures text f a in
    let x = parameter_read a h m c.in_ok-parameter.parameter c.in_ok-parameter.ensures in
    catch_stops a h m x _ _ (c.in_err-block.ensures text f (parameter_at a h m x))))

pub end_span-span-requires : goal.end_span-span-requires
end_span-span-requires t c =
    let h = stands_so c.args.p.now Catch c.if-not-stands.false c.stands.ensures in
    let m = c.in_ok-advance.ensures _ _ c.requires.at in
    let x = parameter_read c.requires.at h m c.in_ok-parameter.parameter c.in_ok-parameter.ensures in
    let y = (c.in_ok-block.ensures _ _ (parameter_at c.requires.at h m x)).answer.further in
    let i = parameter_forward c.requires.at h m x in let j = m.further in let k = (parameter_at c.requires.at h m x).behind in let s = c.cur_start-start.ensures in omega arith

pub returns : goal.returns
returns t c =
    let h = stands_so c.args.p.now Catch c.if-not-stands.false c.stands.ensures in (
      h,
      λ text f a.
          let m = c.in_ok-advance.ensures text f a in
          let x = parameter_read a h m c.in_ok-parameter.parameter c.in_ok-parameter.ensures in
          catch_taken a h m x _ (c.in_ok-block.ensures text f (parameter_at a h m x)) (c.end_span-span.ensures.start ∙ c.cur_start-start.ensures) c.end_span-span.ensures.end c.in_ok-node.ensures,
    )
