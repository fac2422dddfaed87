use Rattle.std.proofs.Common.{◌≡◌, inl, true, Bool, sym, subst, length}
use Rattle.std.specs.Prelude.{None}
use Rattle.js_base.specs.declared.diagnostic.DiagnosticKind.TheVariants.{MixedCoalesce}
use Rattle.js_base.specs.declared.span.Span.{Span}
use Rattle.js_grammar.specs.Marks.{Mark}
use Rattle.parse_shared.specs.js_cursor.Moves.{KeepsDiagnostic}
use Rattle.parse_shared.specs.js_cursor.Places.{goal as goal_of}
use Rattle.parse_shared.specs.laws_shared.Stands.{ReadsHere}
use Rattle.laws_operators.proofs.Exponents.{same_span}
use Rattle.parse_operators.proofs.operators.check_mixed.Goals as goal
use Rattle.parse_shared.proofs.laws_shared.Classes.{gives_up_by, unexpected_ends}

pub error-requires-clause-mark : goal.error-requires-clause-mark
error-requires-clause-mark g c =
    let u : c.args.mixed ≡ true = search in
    let v : c.args.found ≡ length c.args.p.now.errors = search in
    let r : c.reads_here.result ≡ true = search in
    let y = subst (λ (b : Bool). ReadsHere c.args.p.now b) r c.reads_here.ensures in
    subst (λ (s : Span). Mark (goal_of c.args.p.now) c.args.p.now.text (record { kind = MixedCoalesce; span = s; first = None; second = None })) (sym (same_span c.end_span.ensures.start c.end_span.ensures.end)) (c.requires.mark u v y.0 y.1)

pub returns-then-not-reads_here : goal.returns-then-not-reads_here
returns-then-not-reads_here g c =
    let u : c.args.mixed ≡ true = search in
    (u, gives_up_by _ _ c.set_unexpected.result c.set_unexpected.ensures (λ d h. unexpected_ends c.requires.at.at d h))

pub returns : goal.returns
returns g c =
    let u : c.args.mixed ≡ true = search in
    inl (u, subst (λ (s : Span). KeepsDiagnostic (record { kind = MixedCoalesce; span = s; first = None; second = None }) c.args.p.now c.error.new.self) (same_span c.end_span.ensures.start c.end_span.ensures.end) c.in_ok-error.ensures)
