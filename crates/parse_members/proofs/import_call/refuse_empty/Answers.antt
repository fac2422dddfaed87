use Rattle.std.proofs.Common.{◌≡◌, ap, arith, refl, subst, sym, ◌∙◌}
use Rattle.js_base.specs.declared.diagnostic.Diagnostic.{Diagnostic}
use Rattle.js_base.specs.declared.diagnostic.DiagnosticKind.TheVariants.{ImportRequiresASpecifier}
use Rattle.js_base.specs.declared.kind.Kind.TheVariants.{RParen, Undetermined}
use Rattle.js_base.specs.declared.span.Span.{Span}
use Rattle.js_grammar.specs.Marks.{Mark}
use Rattle.parse_shared.specs.js_cursor.Places.{goal as goal_of}
use Rattle.parse_primary.proofs.laws_primary.ImportWords.{before_here, here_marked, told_ends}
use Rattle.parse_members.proofs.import_call.refuse_empty.Goals as goal

pub new-span-requires : goal.new-span-requires
new-span-requires g c =
    let e : c.span.result ≡ c.args.p.now.token.span = search in
    let i = before_here ImportRequiresASpecifier (λ g t s x. (x, (refl, refl))) c.requires.behind c.requires.at in
    let j = ap (λ (s : Span). s.end) e in omega arith

pub set_fatal_error-requires-clause-mark : goal.set_fatal_error-requires-clause-mark
set_fatal_error-requires-clause-mark g c =
    let e : c.span.result ≡ c.args.p.now.token.span = search in
    subst (λ (d : Diagnostic). Mark (goal_of c.args.p.now) c.args.p.now.text d) (sym c.diagnostic_at.ensures)
    (here_marked ImportRequiresASpecifier (λ g t s x. (x, (refl, refl))) c.requires.behind c.requires.at (λ i. let u : RParen ≡ Undetermined = sym c.requires.sign.0 ∙ i in cc) c.new-span.result c.new-span.ensures.start (c.new-span.ensures.end ∙ ap (λ (s : Span). s.end) e))

pub returns : goal.returns
returns g c = told_ends ImportRequiresASpecifier c.new-span.result _ _ c.set_fatal_error.result refl c.diagnostic_at.ensures c.set_fatal_error.ensures
