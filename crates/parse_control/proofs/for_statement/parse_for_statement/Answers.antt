use Rattle.std.proofs.Common.{ap, arith, refl, ◌∙◌}
use Rattle.std.proofs.lemmas.Result.{err_from_is_err_and}
use Rattle.js_base.specs.Contexts.{has_flag, in_flag}
use Rattle.js_base.specs.declared.kind.Kind.TheVariants.{For}
use Rattle.parse_shared.proofs.laws_shared.Moving.{standing}
use Rattle.parse_shared.proofs.laws_shared.Nesting.{later_room, nests_later}
use Rattle.laws_statements.proofs.ForStatements.{begun, body_stops, ending_at, ending_marked, ending_room, ending_same, for_answers, for_further, for_stops, head_edge, head_further, head_same}
use Rattle.laws_statements.proofs.WordStatements.{word_here}
use Rattle.parse_control.proofs.for_statement.parse_for_statement.Goals as goal

pub advance-requires-clause-whole : goal.advance-requires-clause-whole
advance-requires-clause-whole g c = word_here For c.requires.at c.requires.word refl

pub pass_await-requires : goal.pass_await-requires
pass_await-requires g c = standing (c.in_ok-advance.ensures _ _ c.requires.at).at

pub parse_paren_for_head-requires-clause-at : goal.parse_paren_for_head-requires-clause-at
parse_paren_for_head-requires-clause-at g c = standing (begun c.requires.at c.requires.word (c.in_ok-advance.ensures _ _ c.requires.at) _ _ c.in_ok-is_await.ensures).at

pub parse_paren_for_head-requires-clause-nests : goal.parse_paren_for_head-requires-clause-nests
parse_paren_for_head-requires-clause-nests g c = nests_later c.requires.nests (let b = begun c.requires.at c.requires.word (c.in_ok-advance.ensures _ _ c.requires.at) _ _ c.in_ok-is_await.ensures in let i = b.less in omega arith)

pub returns-in_err-ending : goal.returns-in_err-ending
returns-in_err-ending g c = λ b text f a.
    let p = err_from_is_err_and c.from_residual-in_err-ending.result c.from_residual-in_err-ending.ensures.1 in
    let m = begun a c.requires.word (c.in_ok-advance.ensures text f a) _ _ c.in_ok-is_await.ensures in
    rw (p.1, p.2) (for_stops a c.requires.word m b _ _ (c.in_err-ending.ensures text f m.at))

pub check_ending-requires-clause-at : goal.check_ending-requires-clause-at
check_ending-requires-clause-at g c =
    let m = begun c.requires.at c.requires.word (c.in_ok-advance.ensures _ _ c.requires.at) _ _ c.in_ok-is_await.ensures in
    (c.in_ok-ending.ensures _ _ m.at).path.at.at

pub check_ending-requires-clause-start : goal.check_ending-requires-clause-start
check_ending-requires-clause-start g c =
    let m = begun c.requires.at c.requires.word (c.in_ok-advance.ensures _ _ c.requires.at) _ _ c.in_ok-is_await.ensures in
    let i = head_further c.requires.at c.requires.word m (c.in_ok-ending.ensures _ _ m.at) in
    let s = c.cur_start-start.ensures in omega arith

pub check_ending-requires-clause-mark : goal.check_ending-requires-clause-mark
check_ending-requires-clause-mark g c =
    let m = begun c.requires.at c.requires.word (c.in_ok-advance.ensures _ _ c.requires.at) _ _ c.in_ok-is_await.ensures in
    let x = c.in_ok-ending.ensures _ _ m.at in
    ending_marked c.requires.at c.requires.word (head_same c.requires.at c.requires.word m x) x.path.at (head_edge c.requires.at c.requires.word m x) c.cur_start-start.ensures (head_further c.requires.at c.requires.word m x)

pub statement-requires : goal.statement-requires
statement-requires g c =
    let m = begun c.requires.at c.requires.word (c.in_ok-advance.ensures _ _ c.requires.at) _ _ c.in_ok-is_await.ensures in
    let x = c.in_ok-ending.ensures _ _ m.at in
    let o = c.in_ok-check_ending.ensures in
    let b = ending_at c.requires.at c.requires.word m x o in
    let r = m.less in
    let s = later_room (let i = x.path.further in let j = m.at.behind in omega arith) x.same in
    let k = ending_room c.requires.at c.requires.word m x o in
    c.requires.nests _ _ (standing b, ap (has_flag in_flag) (ending_same c.requires.at c.requires.word m x o).ctx ∙ c.requires.allows_in) (omega arith)

pub returns-in_err-body : goal.returns-in_err-body
returns-in_err-body g c = λ b text f a.
    let p = err_from_is_err_and c.from_residual-in_err-body.result c.from_residual-in_err-body.ensures.1 in
    let m = begun a c.requires.word (c.in_ok-advance.ensures text f a) _ _ c.in_ok-is_await.ensures in
    let x = c.in_ok-ending.ensures text f m.at in
    let o = c.in_ok-check_ending.ensures in
    rw (p.1, p.2) (body_stops a c.requires.word m x o b _ _ (c.in_err-body.ensures text f (ending_at a c.requires.word m x o)))

pub end_span-span-requires : goal.end_span-span-requires
end_span-span-requires g c =
    let m = begun c.requires.at c.requires.word (c.in_ok-advance.ensures _ _ c.requires.at) _ _ c.in_ok-is_await.ensures in
    let x = c.in_ok-ending.ensures _ _ m.at in
    let o = c.in_ok-check_ending.ensures in
    let i = for_further c.requires.at c.requires.word m x o (c.in_ok-body.ensures _ _ (ending_at c.requires.at c.requires.word m x o)) in
    let s = c.cur_start-start.ensures in omega arith

pub returns : goal.returns
returns g c = λ b text f a.
    let m = begun a c.requires.word (c.in_ok-advance.ensures text f a) _ _ c.in_ok-is_await.ensures in
    let x = c.in_ok-ending.ensures text f m.at in
    let o = c.in_ok-check_ending.ensures in
    for_answers a c.requires.word m x o (c.in_ok-body.ensures text f (ending_at a c.requires.word m x o)) b _ c.in_ok-push.ensures.items (c.end_span-span.ensures.start ∙ c.cur_start-start.ensures) c.end_span-span.ensures.end c.node_kind.result c.node_kind.ensures.kind c.in_ok-node.ensures
