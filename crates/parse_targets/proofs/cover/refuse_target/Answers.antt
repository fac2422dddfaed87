use Rattle.std.proofs.Common.{ap, sym, subst, ◌∙◌, None}
use Rattle.js_base.specs.Diagnostics.{class_of}
use Rattle.js_base.specs.declared.diagnostic.Diagnostic.{Diagnostic}
use Rattle.js_base.specs.declared.diagnostic.DiagnosticKind.TheVariants as fault
use Rattle.js_base.specs.declared.span.Span.{Span}
use Rattle.js_grammar.specs.Marks.{Mark}
use Rattle.parse_shared.specs.js_cursor.Places.{goal as source}
use Rattle.parse_shared.specs.laws_shared.Classes.{ends_parse}
use Rattle.parse_shared.proofs.laws_shared.Classes.{gives_up_by, unexpected_ends}
use Rattle.parse_shared.proofs.laws_shared.Signs.{span_is}
use Rattle.parse_targets.proofs.cover.refuse_target.Goals as goal

pub set_fatal_error-requires-clause-mark : goal.set_fatal_error-requires-clause-mark
set_fatal_error-requires-clause-mark t c = subst (λ (s : Span). Mark (source c.args.p.now) c.args.p.now.text (record { kind = fault.InvalidAssignment; span = s; first = None; second = None })) (sym (span_is c.end_span-span.result c.end_span-span.ensures.start c.end_span-span.ensures.end)) (c.requires.marked (sym c.kept_so_far.ensures ∙ c.if-kept_so_far-kept.false))

pub set_fatal_error-requires-clause-at : goal.set_fatal_error-requires-clause-at
set_fatal_error-requires-clause-at t c = c.requires.at.at

pub returns-then-kept_so_far-kept : goal.returns-then-kept_so_far-kept
returns-then-kept_so_far-kept t c = gives_up_by _ _ c.set_unexpected.result c.set_unexpected.ensures (λ d h. unexpected_ends c.requires.at.at d h)

pub returns : goal.returns
returns t c = gives_up_by _ _ c.set_fatal_error.result c.set_fatal_error.ensures (λ d e. ap (λ (x : Diagnostic). ends_parse (class_of x.kind)) e)
