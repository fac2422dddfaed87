use Rattle.std.proofs.Common.{◌≡◌, ◌∙◌, ap, refl, sym}
use Rattle.js_base.specs.declared.diagnostic.DiagnosticKind.TheVariants.{DynamicImportArgumentSpread}
use Rattle.js_base.specs.declared.kind.Kind.TheVariants.{Dot3, Undetermined}
use Rattle.js_base.specs.declared.token.Token.{Token}
use Rattle.parse_shared.specs.laws_shared.Told.{unrelated_at}
use Rattle.parse_primary.proofs.laws_primary.ImportWords.{told_ends, token_marked}
use Rattle.parse_members.proofs.import_call.refuse_spread.Goals as goal

pub set_fatal_error-requires-clause-mark : goal.set_fatal_error-requires-clause-mark
set_fatal_error-requires-clause-mark g c = token_marked DynamicImportArgumentSpread (λ g t s x. (x, (refl, refl))) c.requires.at.at (λ i. let u : Dot3 ≡ Undetermined = sym c.requires.sign.0 ∙ i in cc) (c.diagnostic_at.ensures ∙ ap (unrelated_at DynamicImportArgumentSpread) (c.span-span.ensures ∙ ap (λ (t : Token). t.span) c.cur_token.ensures))

pub returns : goal.returns
returns g c = told_ends DynamicImportArgumentSpread c.span-span.result _ _ c.set_fatal_error.result refl c.diagnostic_at.ensures c.set_fatal_error.ensures
