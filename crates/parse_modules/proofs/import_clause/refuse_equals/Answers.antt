use Rattle.std.proofs.Common.{◌≡◌, ap, ◌∙◌}
use Rattle.js_base.specs.declared.token.Token.{Token}
use Rattle.laws_modules.specs.ImportClauses.{import_equals}
use Rattle.laws_modules.proofs.ImportClauses.{equals_ends, equals_marked}
use Rattle.parse_modules.proofs.import_clause.refuse_equals.Goals as goal

pub set_fatal_error-requires-clause-mark : goal.set_fatal_error-requires-clause-mark
set_fatal_error-requires-clause-mark g c =
    let e : c.span-span.result ≡ c.args.p.now.token.span = c.span-span.ensures ∙ ap (λ (t : Token). t.span) c.cur_token.ensures in
    equals_marked c.args.p.now c.requires.at c.requires.sign (c.diagnostic_at.ensures ∙ ap import_equals e)

pub returns : goal.returns
returns g c =
    let e : c.span-span.result ≡ c.args.p.now.token.span = c.span-span.ensures ∙ ap (λ (t : Token). t.span) c.cur_token.ensures in
    equals_ends c.args.p.now _ _ c.set_fatal_error.result (c.diagnostic_at.ensures ∙ ap import_equals e) c.set_fatal_error.ensures
