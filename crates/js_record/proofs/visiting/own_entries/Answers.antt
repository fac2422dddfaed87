use Rattle.std.proofs.Common.{◌++◌, ◌∷◌, [], None, Some, refl, ap, subst, ◌∙◌}
use Rattle.js_grammar.specs.Modules.{own_entry}
use Rattle.js_record.specs.Shown.{IsDeep, first_shown, second_shown, own_shown}
use Rattle.js_record.proofs.ShownLemmas.{next_shown, none_shown, all_shown}
use Rattle.js_record.proofs.visiting.own_entries.Goals as goal
use Rattle.js_record.proofs.visiting.own_entries.Goals.{in-Some+in_ok-name+in_ok-own+in_ok-push, in_default}

pub children-slots-requires : goal.children-slots-requires
children-slots-requires c = (subst (IsDeep c.args.tree.now c.args.source.now) c.in-Some.is (c.requires c.loop-slot.slot-index None c.loop-slot-test.true)).0

pub second_name-requires : goal.second_name-requires
second_name-requires c = rw c.children-slots.ensures (subst (IsDeep c.args.tree.now c.args.source.now) c.in-Some.is (c.requires c.loop-slot.slot-index None c.loop-slot-test.true)).2

pub first_name-requires : goal.first_name-requires
first_name-requires c = rw c.children-slots.ensures (subst (IsDeep c.args.tree.now c.args.source.now) c.in-Some.is (c.requires c.loop-slot.slot-index None c.loop-slot-test.true)).2

pub span-requires : goal.span-requires
span-requires c = (subst (IsDeep c.args.tree.now c.args.source.now) c.in-Some.is (c.requires c.loop-slot.slot-index None c.loop-slot-test.true)).0

pub loop-slot-preserved : goal.loop-slot-preserved
loop-slot-preserved c =
    let ns = c.args.tree.now in
    let text = c.args.source.now in
    let f = own_shown ns text c.args.statement in
    let old = c.loop-slot.entries.items in
    elim c.match-slot.branch [
      | in-Some+in_ok-name+in_ok-own+in_ok-push w ↦
          rw w.entries-is (next_shown f c.args.slots.now c.loop-slot.slot-index None (Some w.in-Some.id) c.loop-slot-test.true w.in-Some.is old c.loop-slot.invariant _
          (w.in_ok-push.ensures.items ∙ ap (λ e. old ++ e ∷ []) (w.own_entry.ensures
          ∙ (λ j. own_entry c.args.statement (w.span.ensures j) ((w.in_ok-name.ensures ∙ ap (second_shown ns text) w.children-slots.ensures) j) ((w.in_ok-own.ensures ∙ ap (first_shown ns text) w.children-slots.ensures) j)))))
      | in_default w ↦ rw w.entries-is (none_shown f c.args.slots.now c.loop-slot.slot-index None None c.loop-slot-test.true w.in_default.is old c.loop-slot.invariant _ refl refl)
    ]

pub returns : goal.returns
returns c = all_shown (own_shown c.args.tree.now c.args.source.now c.args.statement) c.args.slots.now c.loop-slot.slot-index c.loop-slot.entries.items c.loop-slot-test.false c.loop-slot.invariant
