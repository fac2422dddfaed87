use Rattle.std.proofs.Common.{◌∙◌, ap, arith, refl}
use Rattle.std.proofs.lemmas.Result.{err_from_is_err_and}
use Rattle.js_base.specs.Contexts.{has_flag, in_flag}
use Rattle.js_base.specs.declared.kind.Kind.TheVariants.{If}
use Rattle.parse_shared.proofs.laws_shared.Moving.{standing}
use Rattle.parse_shared.proofs.laws_shared.Nesting.{later_room, nested_room, nests_later}
use Rattle.laws_statements.proofs.CompoundStatements.{alternate_stops, consequent_stops, if_answers, if_further, if_same, if_stops}
use Rattle.laws_statements.proofs.WordStatements.{word_here}
use Rattle.parse_control.proofs.compound_statement.parse_if_statement.Goals as goal

pub advance-requires-clause-whole : goal.advance-requires-clause-whole
advance-requires-clause-whole t c = word_here If c.requires.at c.requires.word refl

pub parse_paren_expression-requires-clause-at : goal.parse_paren_expression-requires-clause-at
parse_paren_expression-requires-clause-at t c = standing (c.in_ok-advance.ensures _ _ c.requires.at).at

pub parse_paren_expression-requires-clause-nests : goal.parse_paren_expression-requires-clause-nests
parse_paren_expression-requires-clause-nests t c = nests_later c.requires.nests (let r = nested_room c.requires.at (c.in_ok-advance.ensures _ _ c.requires.at) in omega arith)

pub returns-in_err-test : goal.returns-in_err-test
returns-in_err-test t c = λ b text f a.
    let p = err_from_is_err_and c.from_residual-in_err-test.result c.from_residual-in_err-test.ensures.1 in
    let m = c.in_ok-advance.ensures text f a in
    rw (p.1, p.2) (if_stops a c.requires.word m b _ _ (c.in_err-test.ensures text f m.at))

pub statement-requires : goal.statement-requires
statement-requires t c =
    let m = c.in_ok-advance.ensures _ _ c.requires.at in
    let x = c.in_ok-test.ensures _ _ m.at in
    let r = nested_room c.requires.at m in
    let s = later_room (let i = x.further in let j = m.at.behind in omega arith) x.same in
    c.requires.nests _ _ (standing x.at, ap (has_flag in_flag) (if_same c.requires.at c.requires.word m x).ctx ∙ c.requires.allows_in) (omega arith)

pub returns-in_err-consequent : goal.returns-in_err-consequent
returns-in_err-consequent t c = λ b text f a.
    let p = err_from_is_err_and c.from_residual-in_err-consequent.result c.from_residual-in_err-consequent.ensures.1 in
    let m = c.in_ok-advance.ensures text f a in
    let x = c.in_ok-test.ensures text f m.at in
    rw (p.1, p.2) (consequent_stops a c.requires.word m x b _ _ (c.in_err-consequent.ensures text f x.at))

pub parse_alternate-requires-clause-at : goal.parse_alternate-requires-clause-at
parse_alternate-requires-clause-at t c =
    let m = c.in_ok-advance.ensures _ _ c.requires.at in
    let x = c.in_ok-test.ensures _ _ m.at in
    standing (c.in_ok-consequent.ensures _ _ x.at).at

pub parse_alternate-requires-clause-nests : goal.parse_alternate-requires-clause-nests
parse_alternate-requires-clause-nests t c =
    let m = c.in_ok-advance.ensures _ _ c.requires.at in
    let x = c.in_ok-test.ensures _ _ m.at in
    let y = c.in_ok-consequent.ensures _ _ x.at in
    let r = nested_room c.requires.at m in
    let s = later_room (let i = x.further in let j = m.at.behind in omega arith) x.same in
    let u = later_room (let i = y.further in let j = x.at.behind in omega arith) y.same in
    nests_later c.requires.nests (omega arith)

pub parse_alternate-requires-clause-allows_in : goal.parse_alternate-requires-clause-allows_in
parse_alternate-requires-clause-allows_in t c =
    let m = c.in_ok-advance.ensures _ _ c.requires.at in
    let x = c.in_ok-test.ensures _ _ m.at in
    ap (has_flag in_flag) ((c.in_ok-consequent.ensures _ _ x.at).same.ctx ∙ (if_same c.requires.at c.requires.word m x).ctx) ∙ c.requires.allows_in

pub returns-in_err-alternate : goal.returns-in_err-alternate
returns-in_err-alternate t c = λ b text f a.
    let p = err_from_is_err_and c.from_residual-in_err-alternate.result c.from_residual-in_err-alternate.ensures.1 in
    let m = c.in_ok-advance.ensures text f a in
    let x = c.in_ok-test.ensures text f m.at in
    rw (p.1, p.2) (alternate_stops a c.requires.word m x (c.in_ok-consequent.ensures text f x.at) c.parse_alternate.new.p b _ c.in_err-alternate.ensures)

pub end_span-span-requires : goal.end_span-span-requires
end_span-span-requires t c =
    let m = c.in_ok-advance.ensures _ _ c.requires.at in
    let x = c.in_ok-test.ensures _ _ m.at in
    let i = if_further c.requires.at c.requires.word m x (c.in_ok-consequent.ensures _ _ x.at) c.parse_alternate.new.p c.in_ok-alternate.alternate c.in_ok-alternate.ensures in let s = c.cur_start-start.ensures in omega arith

pub returns : goal.returns
returns t c = λ b text f a.
    let m = c.in_ok-advance.ensures text f a in
    let x = c.in_ok-test.ensures text f m.at in
    if_answers a c.requires.word m x (c.in_ok-consequent.ensures text f x.at) c.parse_alternate.new.p c.in_ok-alternate.alternate c.in_ok-alternate.ensures b _ (c.end_span-span.ensures.start ∙ c.cur_start-start.ensures) c.end_span-span.ensures.end c.in_ok-node.ensures
