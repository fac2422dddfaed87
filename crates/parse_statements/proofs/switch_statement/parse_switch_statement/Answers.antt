use Rattle.std.proofs.Common.{◌∙◌, ap, arith, refl}
use Rattle.std.proofs.lemmas.Result.{err_from_is_err_and}
use Rattle.js_base.specs.Contexts.{has_flag, in_flag}
use Rattle.js_base.specs.declared.kind.Kind.TheVariants.{Switch}
use Rattle.parse_shared.proofs.laws_shared.Moving.{standing}
use Rattle.parse_shared.proofs.laws_shared.Nesting.{later_room, nested_room, nests_later}
use Rattle.parse_control.proofs.laws_statements.SwitchStatements.{case_block_stops, switch_answers, switch_further, switch_same, switch_stops}
use Rattle.parse_control.proofs.laws_statements.WordStatements.{word_here}
use Rattle.parse_statements.proofs.switch_statement.parse_switch_statement.Goals as goal

pub advance-requires-clause-whole : goal.advance-requires-clause-whole
advance-requires-clause-whole t c = word_here Switch c.requires.at c.requires.word refl

pub parse_paren_expression-requires-clause-at : goal.parse_paren_expression-requires-clause-at
parse_paren_expression-requires-clause-at t c = standing (c.in_ok-advance.ensures _ _ c.requires.at).at

pub parse_paren_expression-requires-clause-nests : goal.parse_paren_expression-requires-clause-nests
parse_paren_expression-requires-clause-nests t c = nests_later c.requires.nests (let r = nested_room c.requires.at (c.in_ok-advance.ensures _ _ c.requires.at) in omega arith)

pub returns-in_err-discriminant : goal.returns-in_err-discriminant
returns-in_err-discriminant t c = λ b text f a.
    let p = err_from_is_err_and c.from_residual-in_err-discriminant.result c.from_residual-in_err-discriminant.ensures.1 in
    let m = c.in_ok-advance.ensures text f a in
    rw (p.1, p.2) (switch_stops a c.requires.word m b _ _ (c.in_err-discriminant.ensures text f m.at))

pub parse_case_block-requires-clause-at : goal.parse_case_block-requires-clause-at
parse_case_block-requires-clause-at t c =
    let m = c.in_ok-advance.ensures _ _ c.requires.at in
    standing (c.in_ok-discriminant.ensures _ _ m.at).at

pub parse_case_block-requires-clause-nests : goal.parse_case_block-requires-clause-nests
parse_case_block-requires-clause-nests t c =
    let m = c.in_ok-advance.ensures _ _ c.requires.at in
    let x = c.in_ok-discriminant.ensures _ _ m.at in
    let r = nested_room c.requires.at m in
    let s = later_room (let i = x.further in let j = m.at.behind in omega arith) x.same in
    nests_later c.requires.nests (omega arith)

pub parse_case_block-requires-clause-allows_in : goal.parse_case_block-requires-clause-allows_in
parse_case_block-requires-clause-allows_in t c =
    let m = c.in_ok-advance.ensures _ _ c.requires.at in
    ap (has_flag in_flag) (switch_same c.requires.at c.requires.word m (c.in_ok-discriminant.ensures _ _ m.at)).ctx ∙ c.requires.allows_in

pub returns-in_err-children : goal.returns-in_err-children
returns-in_err-children t c = λ b text f a.
    let p = err_from_is_err_and c.from_residual-in_err-children.result c.from_residual-in_err-children.ensures.1 in
    let m = c.in_ok-advance.ensures text f a in
    let x = c.in_ok-discriminant.ensures text f m.at in
    rw (p.1, p.2) (case_block_stops a c.requires.word m x b _ _ (c.in_err-children.ensures text f x.at))

pub end_span-span-requires : goal.end_span-span-requires
end_span-span-requires t c =
    let m = c.in_ok-advance.ensures _ _ c.requires.at in
    let x = c.in_ok-discriminant.ensures _ _ m.at in
    let i = switch_further c.requires.at c.requires.word m x (c.in_ok-children.ensures _ _ x.at) in let s = c.cur_start-start.ensures in omega arith

pub returns : goal.returns
returns t c = λ b text f a.
    let m = c.in_ok-advance.ensures text f a in
    let x = c.in_ok-discriminant.ensures text f m.at in
    switch_answers a c.requires.word m x (c.in_ok-children.ensures text f x.at) b _ c.in_ok-insert.ensures.items (c.end_span-span.ensures.start ∙ c.cur_start-start.ensures) c.end_span-span.ensures.end c.in_ok-node.ensures
