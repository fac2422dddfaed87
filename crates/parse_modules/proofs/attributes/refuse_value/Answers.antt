use Rattle.std.proofs.Common.{◌≡◌, ap, sym, ◌∙◌}
use Rattle.std.proofs.lemmas.Bool.{false≢true}
use Rattle.js_base.specs.declared.token.Token.{Token}
use Rattle.laws_modules.specs.Attributes.{ill_valued}
use Rattle.laws_modules.proofs.Attributes.{lexeme_ends, value_ends, value_marked}
use Rattle.parse_modules.proofs.attributes.refuse_value.Goals as goal

pub returns-then-at : goal.returns-then-at
returns-then-at g c = lexeme_ends _ _ c.set_unexpected.result c.requires.at c.set_unexpected.ensures

pub set_fatal_error-requires-clause-mark : goal.set_fatal_error-requires-clause-mark
set_fatal_error-requires-clause-mark g c =
    let e : c.span-span.result ≡ c.args.p.now.token.span = c.span-span.ensures ∙ ap (λ (t : Token). t.span) c.cur_token.ensures in
    value_marked c.args.p.now c.requires.at (λ u. false≢true (sym c.if-at.false ∙ c.at.ensures.1 u)) (c.diagnostic_at.ensures ∙ ap ill_valued e)

pub returns : goal.returns
returns g c =
    let e : c.span-span.result ≡ c.args.p.now.token.span = c.span-span.ensures ∙ ap (λ (t : Token). t.span) c.cur_token.ensures in
    value_ends c.args.p.now _ _ c.set_fatal_error.result (c.diagnostic_at.ensures ∙ ap ill_valued e) c.set_fatal_error.ensures
