use Rattle.std.proofs.Common.{◌≡◌, ◌∙◌, refl, subst, sym}
use Rattle.js_base.specs.declared.diagnostic.Diagnostic.{Diagnostic}
use Rattle.js_base.specs.declared.diagnostic.DiagnosticKind.TheVariants as fault
use Rattle.js_grammar.specs.Marks.{Mark}
use Rattle.parse_shared.specs.js_cursor.Places.{goal as goal_at}
use Rattle.parse_primary.specs.laws_primary.Supers.{callee_from}
use Rattle.parse_members.proofs.super_word.check_new_callee.Goals as goal
use Rattle.parse_shared.specs.laws_shared.Told.{unrelated_at}

pub error-requires-clause-mark : goal.error-requires-clause-mark
error-requires-clause-mark g c =
    let e : unrelated_at fault.NewSuper c.end_span-span.result ≡ callee_from c.args.start c.args.p.now.prev_token_end = rw (c.end_span-span.ensures.start, c.end_span-span.ensures.end) refl in
    subst (λ (d : Diagnostic). Mark (goal_at c.args.p.now) c.args.p.now.text d) (sym (c.diagnostic_at.ensures ∙ e)) (c.requires.mark c.if-super_alone.true)
