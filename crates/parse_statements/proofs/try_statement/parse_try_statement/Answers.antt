use Rattle.std.proofs.Common.{◌∙◌, ap, arith, refl}
use Rattle.std.proofs.lemmas.Result.{err_from_is_err_and}
use Rattle.js_base.specs.Contexts.{has_flag, in_flag}
use Rattle.js_base.specs.declared.kind.Kind.TheVariants.{Try}
use Rattle.parse_shared.proofs.laws_shared.Moving.{standing}
use Rattle.parse_shared.proofs.laws_shared.Nesting.{later_room, nested_room, nests_later}
use Rattle.parse_control.proofs.laws_statements.TryStatements.{block_edge, block_stops, clauses_stop, tried_same, try_answers, try_further}
use Rattle.parse_control.proofs.laws_statements.WordStatements.{word_here}
use Rattle.parse_statements.proofs.try_statement.parse_try_statement.Goals as goal

pub advance-requires-clause-whole : goal.advance-requires-clause-whole
advance-requires-clause-whole t c = word_here Try c.requires.at c.requires.word refl

pub parse_block-requires-clause-at : goal.parse_block-requires-clause-at
parse_block-requires-clause-at t c = standing (c.in_ok-advance.ensures _ _ c.requires.at).at

pub parse_block-requires-clause-nests : goal.parse_block-requires-clause-nests
parse_block-requires-clause-nests t c = nests_later c.requires.nests (let r = nested_room c.requires.at (c.in_ok-advance.ensures _ _ c.requires.at) in omega arith)

pub parse_block-requires-clause-allows_in : goal.parse_block-requires-clause-allows_in
parse_block-requires-clause-allows_in t c = ap (has_flag in_flag) (c.in_ok-advance.ensures _ _ c.requires.at).same.ctx ∙ c.requires.allows_in

pub returns-in_err-block : goal.returns-in_err-block
returns-in_err-block t c = λ b text f a.
    let p = err_from_is_err_and c.from_residual-in_err-block.result c.from_residual-in_err-block.ensures.1 in
    let m = c.in_ok-advance.ensures text f a in
    rw (p.1, p.2) (block_stops a c.requires.word m b _ _ (c.in_err-block.ensures text f m.at))

pub parse_clauses-requires-clause-at : goal.parse_clauses-requires-clause-at
parse_clauses-requires-clause-at t c = standing (c.in_ok-block.ensures _ _ (c.in_ok-advance.ensures _ _ c.requires.at).at).answer.at

pub parse_clauses-requires-clause-nests : goal.parse_clauses-requires-clause-nests
parse_clauses-requires-clause-nests t c =
    let m = c.in_ok-advance.ensures _ _ c.requires.at in
    let x = (c.in_ok-block.ensures _ _ m.at).answer in
    let r = nested_room c.requires.at m in
    let s = later_room (let i = x.further in let j = m.at.behind in omega arith) x.same in
    nests_later c.requires.nests (omega arith)

pub parse_clauses-requires-clause-allows_in : goal.parse_clauses-requires-clause-allows_in
parse_clauses-requires-clause-allows_in t c =
    let m = c.in_ok-advance.ensures _ _ c.requires.at in
    ap (has_flag in_flag) (tried_same c.requires.at c.requires.word m (c.in_ok-block.ensures _ _ m.at)).ctx ∙ c.requires.allows_in

pub parse_clauses-requires-clause-edge : goal.parse_clauses-requires-clause-edge
parse_clauses-requires-clause-edge t c = let m = c.in_ok-advance.ensures _ _ c.requires.at in block_edge m (c.in_ok-block.ensures _ _ m.at)

pub returns-in_err-handler : goal.returns-in_err-handler
returns-in_err-handler t c = λ b text f a.
    let p = err_from_is_err_and c.from_residual-in_err-handler.result c.from_residual-in_err-handler.ensures.1 in
    let m = c.in_ok-advance.ensures text f a in
    let x = c.in_ok-block.ensures text f m.at in
    rw (p.1, p.2) (clauses_stop a c.requires.word m x b _ _ (c.in_err-handler.ensures text f x.answer.at))

pub end_span-span-requires : goal.end_span-span-requires
end_span-span-requires t c =
    let m = c.in_ok-advance.ensures _ _ c.requires.at in
    let x = c.in_ok-block.ensures _ _ m.at in
    let i = try_further c.requires.at c.requires.word m x (c.in_ok-handler.ensures _ _ x.answer.at) in let s = c.cur_start-start.ensures in omega arith

pub returns : goal.returns
returns t c = λ b text f a.
    let m = c.in_ok-advance.ensures text f a in
    let x = c.in_ok-block.ensures text f m.at in
    try_answers a c.requires.word m x (c.in_ok-handler.ensures text f x.answer.at) b _ (c.end_span-span.ensures.start ∙ c.cur_start-start.ensures) c.end_span-span.ensures.end c.in_ok-node.ensures
