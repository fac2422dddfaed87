use Rattle.std.proofs.Common.{◌∙◌, ap, refl, arith, List, ℕ, ◌≡◌, false, length}
use Rattle.std.proofs.lemmas.Grind.{common_steps}
use Rattle.std.specs.Ordering.{nat_cmp}
use Rattle.std.specs.BTreeMap.{is_at}
use Rattle.js_tree.specs.Nodes.{Node, program_node}
use Rattle.js_tree.specs.Holding.{with_program}
use Rattle.js_tree.specs.Rows.{entries_of}
use Rattle.js_tree.proofs.RowLemmas.{rows-finished}
use Rattle.js_tree.proofs.columns.Columns.finish.Goals as goal

other : (i : ℕ) → (i ≡ 0 → ⊥) → is_at (nat_cmp 0) i ≡ false
other i ne = grind (arith, common_steps)

pub returns : goal.returns
returns c =
    let start : c.in_ok-start.start ≡ length c.columns.inside.slots.items = omega (arith, c.in_ok-start.ensures, c.len.ensures, c.columns.inside.slots.ok.0) in
    rows-finished (entries_of c.columns.inside) _ c.args.span c.args.children.now c.columns.invariant (record { kinds = refl; entries = rw (c.of_program.ensures, start, c.in_ok-count.ensures) refl; slots = c.in_ok-extend_from_slice.ensures.items; names = λ i ne. c.remove.ensures.updates.2 i (other i ne); name_is = c.remove.ensures.updates.1 }) ∙ ap (λ (ns : List Node). with_program (program_node c.args.span c.args.children.now) ns) c.columns.view_is
