use Rattle.std.proofs.Common.{[], ◌∷◌, Some, ap, subst}
use Rattle.std.specs.Prelude.{IfOk}
use Rattle.js_grammar.specs.Trees.{Label, of}
use Rattle.parse_shared.specs.laws_shared.Moves.{MadeHere}
use Rattle.laws_operators.proofs.BinaryOperators.{kind_found, no_logical}
use Rattle.parse_operators.proofs.operators.make_operation.Goals as goal

pub returns-in_default : goal.returns-in_default
returns-in_default g c =
    let k = no_logical c.args.operator c.in_default.not-Pipe2 c.in_default.not-Amp2 in
    let o = ap of (kind_found c.args.operator c.map_binary_operator.result c.map_binary_operator.ensures.row) in
    subst (λ (l : Label). IfOk c.make_two-in_default.result (λ id. MadeHere l (Some c.args.left ∷ Some c.args.right ∷ []) c.args.p.now c.make_two-in_default.new.p id))
    (λ i. record { kind = k i; op = o i; flags = 0; span = record { from = c.end_span-span.ensures.start i; to = c.end_span-span.ensures.end i } })
    c.make_two-in_default.ensures
