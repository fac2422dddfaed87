use Rattle.std.proofs.Common.{Option, ap, sym, subst, ◌∙◌}
use Rattle.js_base.specs.Diagnostics.{class_of}
use Rattle.js_base.specs.declared.diagnostic.Diagnostic.{Diagnostic}
use Rattle.js_base.specs.declared.span.Span.{Span}
use Rattle.js_grammar.specs.Marks.{Mark}
use Rattle.parse_shared.specs.js_cursor.Places.{goal as source}
use Rattle.parse_shared.specs.laws_shared.Classes.{ends_parse}
use Rattle.parse_shared.proofs.laws_shared.Classes.{gives_up_by, unexpected_ends}
use Rattle.parse_targets.specs.Taken.{refusal_at}
use Rattle.parse_targets.proofs.array_target.refuse_literal.Goals as goal

pub refuse_target-requires-clause-marked : goal.refuse_target-requires-clause-marked
refuse_target-requires-clause-marked g c = λ n. subst (λ (o : Option Span). Mark (source c.args.p.now) c.args.p.now.text (refusal_at c.args.start c.args.p.now.prev_token_end o)) c.in_default.is (c.requires.marked n)

pub set_fatal_error-requires-clause-mark : goal.set_fatal_error-requires-clause-mark
set_fatal_error-requires-clause-mark g c = subst (λ (d : Diagnostic). Mark (source c.args.p.now) c.args.p.now.text d) (sym c.diagnostic_at.ensures) (subst (λ (o : Option Span). Mark (source c.args.p.now) c.args.p.now.text (refusal_at c.args.start c.args.p.now.prev_token_end o)) c.in-Some.is (c.requires.marked (sym c.kept_so_far.ensures ∙ c.if-kept_so_far-kept.false)))

pub set_fatal_error-requires-clause-at : goal.set_fatal_error-requires-clause-at
set_fatal_error-requires-clause-at g c = c.requires.at.at

pub returns-then-kept_so_far-kept : goal.returns-then-kept_so_far-kept
returns-then-kept_so_far-kept g c = gives_up_by _ _ c.set_unexpected.result c.set_unexpected.ensures (λ d h. unexpected_ends c.requires.at.at d h)

pub returns : goal.returns
returns g c = gives_up_by _ _ c.set_fatal_error.result c.set_fatal_error.ensures (λ d e. ap (λ (x : Diagnostic). ends_parse (class_of x.kind)) (e ∙ c.diagnostic_at.ensures))
