use Rattle.std.proofs.Common.{◌∙◌, ap}
use Rattle.std.specs.Prelude.{Ok, Err}
use Rattle.js_base.specs.declared.diagnostic.DiagnosticKind.TheVariants.{PrivateIdentifierInPropertyName}
use Rattle.js_base.specs.declared.token.Token.{Token}
use Rattle.laws_primary.specs.js_cursor.Parsers.{Parser}
use Rattle.laws_primary.specs.laws_shared.Told.{unrelated_at}
use Rattle.laws_primary.proofs.laws_shared.Moving.{standing}
use Rattle.laws_primary.proofs.laws_shared.Told.{told_at}
use Rattle.laws_primary.proofs.PrivateKeys.{key_marked, key_told}
use Rattle.parse_primary.proofs.property_name.parse_private_key.Goals as goal

pub error-requires-clause-mark : goal.error-requires-clause-mark
error-requires-clause-mark g c = key_marked c.args.p.now c.requires.at.at c.requires.private (c.diagnostic_at.ensures ∙ ap (unrelated_at PrivateIdentifierInPropertyName) (c.span-span.ensures ∙ ap (λ (t : Token). t.span) c.cur_token.ensures))

pub parse_private_name-requires-clause-at : goal.parse_private_name-requires-clause-at
parse_private_name-requires-clause-at g c = standing (told_at c.in_ok-error.ensures c.requires.at)

pub parse_private_name-requires-clause-private : goal.parse_private_name-requires-clause-private
parse_private_name-requires-clause-private g c = ap (λ (v : Parser). v.token.kind) c.in_ok-error.ensures.is ∙ c.requires.private

pub returns : goal.returns
returns g c = key_told c.args.p.now _ _ (Ok c.in_ok-key.key) c.requires.private (c.diagnostic_at.ensures ∙ ap (unrelated_at PrivateIdentifierInPropertyName) (c.span-span.ensures ∙ ap (λ (t : Token). t.span) c.cur_token.ensures)) c.in_ok-error.ensures c.in_ok-key.ensures
