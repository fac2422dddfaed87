use Rattle.std.proofs.Common.{◌≡◌, sym, subst, true, length}
use Rattle.js_base.specs.declared.diagnostic.DiagnosticKind.TheVariants.{UnaryExponentiationLeftOperand}
use Rattle.js_base.specs.declared.span.Span.{Span}
use Rattle.std.specs.Prelude.{None}
use Rattle.js_grammar.specs.Marks.{Mark}
use Rattle.parse_shared.specs.js_cursor.Places.{goal as goal_of}
use Rattle.laws_operators.proofs.Exponents.{same_span}
use Rattle.parse_operators.proofs.operators.check_base.Goals as goal

pub error-requires-clause-mark : goal.error-requires-clause-mark
error-requires-clause-mark t c = subst (λ (s : Span). Mark (goal_of c.args.p.now) c.args.p.now.text (record { kind = UnaryExponentiationLeftOperand; span = s; first = None; second = None })) (sym (same_span c.end_span.ensures.start c.end_span.ensures.end)) (let u : c.args.is_unary ≡ true = search in let v : c.args.found ≡ length c.args.p.now.errors = search in c.requires.mark u v)
