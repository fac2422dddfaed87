use Rattle.std.proofs.Common.{◌≡◌, true, ap, arith, refl, subst, sym, ◌∙◌}
use Rattle.std.proofs.lemmas.Bool.{false≢true}
use Rattle.js_base.specs.KindSets.{identifier_name_kinds}
use Rattle.js_base.specs.Kinds.{one_of_kinds}
use Rattle.js_base.specs.declared.diagnostic.Diagnostic.{Diagnostic}
use Rattle.js_base.specs.declared.diagnostic.DiagnosticKind.TheVariants.{InvalidImportProperty}
use Rattle.js_base.specs.declared.span.Span.{Span}
use Rattle.js_grammar.specs.Marks.{Mark}
use Rattle.parse_shared.specs.js_cursor.Places.{goal as goal_of}
use Rattle.parse_shared.proofs.laws_shared.Classes.{gives_up_by, unexpected_ends}
use Rattle.parse_primary.proofs.laws_primary.ImportWords.{before_here, here_marked, told_ends}
use Rattle.parse_members.proofs.import_meta.refuse_property.Goals as goal

pub returns-then-not-is_identifier_name : goal.returns-then-not-is_identifier_name
returns-then-not-is_identifier_name g c = gives_up_by _ _ c.set_unexpected.result c.set_unexpected.ensures (λ d u. unexpected_ends c.requires.at.at d u)

pub new-span-requires : goal.new-span-requires
new-span-requires g c =
    let e : c.span.result ≡ c.args.p.now.token.span = search in
    let i = before_here InvalidImportProperty (λ g t s x. (x, (refl, refl))) c.requires.behind c.requires.at in
    let j = ap (λ (s : Span). s.end) e in omega arith

pub set_fatal_error-requires-clause-mark : goal.set_fatal_error-requires-clause-mark
set_fatal_error-requires-clause-mark g c =
    let w : one_of_kinds identifier_name_kinds c.args.p.now.token.kind ≡ true = ap (one_of_kinds identifier_name_kinds) (sym c.cur_kind.ensures) ∙ (sym c.is_identifier_name.ensures ∙ c.if-not-is_identifier_name.false) in
    let e : c.span.result ≡ c.args.p.now.token.span = search in
    subst (λ (d : Diagnostic). Mark (goal_of c.args.p.now) c.args.p.now.text d) (sym c.diagnostic_at.ensures)
    (here_marked InvalidImportProperty (λ g t s x. (x, (refl, refl))) c.requires.behind c.requires.at (λ i. false≢true (sym (ap (one_of_kinds identifier_name_kinds) i) ∙ w)) c.new-span.result c.new-span.ensures.start (c.new-span.ensures.end ∙ ap (λ (s : Span). s.end) e))

pub returns : goal.returns
returns g c = told_ends InvalidImportProperty c.new-span.result _ _ c.set_fatal_error.result refl c.diagnostic_at.ensures c.set_fatal_error.ensures
