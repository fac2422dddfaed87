use Rattle.std.proofs.Common.{◌++◌, ◌∷◌, [], None, Some, refl, subst, ◌∙◌}
use Rattle.js_record.specs.Shown.{IsDeep, from_shown}
use Rattle.js_record.proofs.ShownLemmas.{next_shown, none_shown, all_shown}
use Rattle.js_record.proofs.visiting.from_entries.Goals as goal
use Rattle.js_record.proofs.visiting.from_entries.Goals.{in-Some+in_ok-from_entry+in_ok-push, in_default}

pub from_entry-requires : goal.from_entry-requires
from_entry-requires c = subst (IsDeep c.args.tree.now c.args.source.now) c.in-Some.is (c.requires c.loop-slot.slot-index None c.loop-slot-test.true)

pub loop-slot-preserved : goal.loop-slot-preserved
loop-slot-preserved c =
    let f = from_shown c.args.tree.now c.args.source.now c.args.statement c.args.request.now in
    let old = c.loop-slot.entries.items in
    elim c.match-slot.branch [
      | in-Some+in_ok-from_entry+in_ok-push w ↦ rw w.entries-is (next_shown f c.args.slots.now c.loop-slot.slot-index None (Some w.in-Some.id) c.loop-slot-test.true w.in-Some.is old c.loop-slot.invariant _ (w.in_ok-push.ensures.items ∙ (λ j. old ++ w.in_ok-from_entry.ensures j ∷ [])))
      | in_default w ↦ rw w.entries-is (none_shown f c.args.slots.now c.loop-slot.slot-index None None c.loop-slot-test.true w.in_default.is old c.loop-slot.invariant _ refl refl)
    ]

pub returns : goal.returns
returns c = all_shown (from_shown c.args.tree.now c.args.source.now c.args.statement c.args.request.now) c.args.slots.now c.loop-slot.slot-index c.loop-slot.entries.items c.loop-slot-test.false c.loop-slot.invariant
