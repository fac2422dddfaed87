use Rattle.std.proofs.Common.{◌≡◌, ◌∙◌, refl, subst, sym}
use Rattle.js_base.specs.declared.diagnostic.Diagnostic.{Diagnostic}
use Rattle.js_base.specs.declared.diagnostic.DiagnosticKind.TheVariants as fault
use Rattle.js_grammar.specs.Marks.{Mark}
use Rattle.parse_shared.specs.js_cursor.Places.{goal as goal_at}
use Rattle.parse_shared.specs.laws_shared.Told.{unrelated_at}
use Rattle.parse_primary.specs.laws_primary.Supers.{private_from}
use Rattle.parse_members.proofs.super_word.check_super_member.Goals as goal

pub error-requires-clause-mark : goal.error-requires-clause-mark
error-requires-clause-mark g c =
    let e : unrelated_at fault.SuperPrivate c.end_span-span.result ≡ private_from c.args.start c.args.p.now.prev_token_end = rw (c.end_span-span.ensures.start, c.end_span-span.ensures.end) refl in
    subst (λ (d : Diagnostic). Mark (goal_at c.args.p.now) c.args.p.now.text d) (sym (c.diagnostic_at.ensures ∙ e)) (c.requires.mark (sym c.is_private_member.ensures ∙ c.if-is_private_member.true))
