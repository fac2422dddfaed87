use Rattle.std.proofs.Common.{ap, arith, ◌∙◌}
use Rattle.std.proofs.lemmas.Result.{err_from_is_err_and}
use Rattle.js_grammar.specs.Productions.{static_of}
use Rattle.laws_classes.specs.laws_primary.laws_shared.Nesting.{room}
use Rattle.laws_classes.proofs.laws_primary.laws_shared.Moving.{standing}
use Rattle.laws_classes.proofs.laws_primary.laws_shared.Nesting.{nests_later}
use Rattle.laws_classes.proofs.StaticBlocks.{block_allows_in, block_at, block_read, block_stops, block_taken}
use Rattle.parse_classes.proofs.static_block.parse_static_block.Goals as goal

pub parse_statements_in_braces-requires-clause-at : goal.parse_statements_in_braces-requires-clause-at
parse_statements_in_braces-requires-clause-at g c = standing (block_at c.requires.at c.in_static_block.ensures c.set_context.ensures)

pub parse_statements_in_braces-requires-clause-nests : goal.parse_statements_in_braces-requires-clause-nests
parse_statements_in_braces-requires-clause-nests g c = nests_later c.requires.nests (let e = ap room c.set_context.ensures in omega arith)

pub parse_statements_in_braces-requires-clause-allows_in : goal.parse_statements_in_braces-requires-clause-allows_in
parse_statements_in_braces-requires-clause-allows_in g c = block_allows_in c.args.p.now c.in_static_block.ensures c.set_context.ensures

pub returns-in_err-items : goal.returns-in_err-items
returns-in_err-items g c = λ text f first af s h m.
    let z = err_from_is_err_and c.from_residual.result c.from_residual.ensures.1 in
    rw (z.1, z.2) (block_stops af h m _ _ c.set_context.ensures (c.in_err-items.ensures text (static_of f) (block_at m.at c.in_static_block.ensures c.set_context.ensures)))

pub end_span-span-requires : goal.end_span-span-requires
end_span-span-requires g c =
    let x = block_read c.requires.at c.context-outer.ensures c.set_context.ensures (c.in_ok-items.ensures _ _ (block_at c.requires.at c.in_static_block.ensures c.set_context.ensures)) c.set_context-2.ensures in
    let i = x.path.further in let j = c.requires.at.behind in let b = c.requires.before in omega arith

pub returns : goal.returns
returns g c = λ text f first af s h m.
    let x = block_read m.at c.context-outer.ensures c.set_context.ensures (c.in_ok-items.ensures text (static_of f) (block_at m.at c.in_static_block.ensures c.set_context.ensures)) c.set_context-2.ensures in
    block_taken af h m x _ (c.end_span-span.ensures.start ∙ s) c.end_span-span.ensures.end c.in_ok-node.ensures
