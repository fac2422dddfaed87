use Rattle.std.proofs.Common.{refl, ◌≡◌, ℕ, List, None}
use Rattle.std.specs.BTreeMap.{BTreeMap, IsEmpty, get}
use Rattle.std.specs.Ordering.{nat_cmp}
use Rattle.js_base.specs.declared.span.Span.{Span}
use Rattle.js_tree.specs.declared.op.Op.TheVariants as op
use Rattle.js_tree.specs.Rows.{entries_of, entry_of, no_entry}
use Rattle.js_tree.proofs.RowLemmas.{rows-new}
use Rattle.js_tree.proofs.columns.Columns.new.Goals as goal

same : (s : Span) → s.start ≡ 0 → s.end ≡ 0 → entry_of s 0 0 0 op.None ≡ no_entry
same s e f = λ i. entry_of record { start = e i; end = f i } 0 0 0 op.None

none : (m : BTreeMap ℕ (List ℕ)) → IsEmpty m → get nat_cmp m 0 ≡ None
none m e = rw e refl

pub returns : goal.returns
returns c = rows-new (entries_of record { kinds = c.push.new.self; entries = c.push-2.new.self; slots = c.column_for-slots.result; names = c.new.result }) (rw (c.in_ok-push.ensures.items, c.column_for-kinds.ensures) refl) (rw (c.in_ok-push-2.ensures.items, c.column_for-entries.ensures, c.of_program.ensures, same _ c.empty.ensures.start c.empty.ensures.end) refl) c.column_for-slots.ensures (none c.new.result c.new.ensures.empty)
