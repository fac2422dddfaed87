use Rattle.std.proofs.Common.{◌≡◌, ap, subst, sym, ◌∙◌}
use Rattle.js_base.specs.declared.diagnostic.Diagnostic.{Diagnostic}
use Rattle.js_base.specs.declared.token.Token.{Token}
use Rattle.parse_modules.specs.Prelude.{Mark, string_bound}
use Rattle.parse_modules.specs.Prelude.{goal as goal_of}
use Rattle.laws_modules.specs.laws_primary.js_cursor.Moves.{KeepsDiagnostic}
use Rattle.laws_modules.proofs.ImportSpecifiers.{bound_marked, string_bound_read}
use Rattle.laws_modules.proofs.ModuleNames.{no_undetermined}
use Rattle.parse_modules.proofs.import_specifier.parse_string_as_binding.Goals as goal

pub error-requires-clause-mark : goal.error-requires-clause-mark
error-requires-clause-mark g c =
    let e : c.span-span.result ≡ c.args.p.now.token.span = c.span-span.ensures ∙ ap (λ (t : Token). t.span) c.cur_token.ensures in
    subst (λ (d : Diagnostic). Mark (goal_of c.args.p.now) c.args.p.now.text d) (sym (c.diagnostic_at.ensures ∙ ap string_bound e)) (bound_marked c.requires.at.at (no_undetermined c.args.p.now c.requires.string)).0

pub returns : goal.returns
returns g c =
    let e : c.span-span.result ≡ c.args.p.now.token.span = c.span-span.ensures ∙ ap (λ (t : Token). t.span) c.cur_token.ensures in
    λ text f a. string_bound_read text f _ _ a c.error.new.self c.parse_string.result c.requires.string (subst (λ (d : Diagnostic). KeepsDiagnostic d c.args.p.now c.error.new.self) (c.diagnostic_at.ensures ∙ ap string_bound e) c.in_ok-error.ensures) c.parse_string.ensures
