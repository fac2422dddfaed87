use Rattle.std.proofs.Common.{sym, subst, ◌∙◌, None}
use Rattle.js_base.specs.declared.diagnostic.DiagnosticKind.TheVariants as fault
use Rattle.js_base.specs.declared.span.Span.{Span}
use Rattle.js_grammar.specs.Marks.{Mark}
use Rattle.parse_shared.specs.js_cursor.Places.{goal as source}
use Rattle.parse_shared.proofs.laws_shared.Signs.{span_is}
use Rattle.parse_targets.proofs.cover.tell_not_simple.Goals as goal

pub error-requires-clause-mark : goal.error-requires-clause-mark
error-requires-clause-mark t c = subst (λ (s : Span). Mark (source c.args.p.now) c.args.p.now.text (record { kind = fault.AssignmentIsNotSimple; span = s; first = None; second = None })) (sym (span_is c.end_span.result c.end_span.ensures.start c.end_span.ensures.end)) (c.requires.marked (sym c.kept_so_far.ensures ∙ c.if-kept_so_far-kept.true))
