use Rattle.std.proofs.Common.{sym, ◌∙◌}
use Rattle.std.proofs.lemmas.Bool.{false≢true}
use Rattle.std.proofs.lemmas.Result.{err_from_is_err_and}
use Rattle.laws_modules.proofs.laws_primary.laws_shared.Moving.{standing}
use Rattle.laws_modules.proofs.Sources.{attributes_at, attributes_stop, named, no_string_stops, source_read, source_unended}
use Rattle.parse_modules.proofs.source.parse_source.Goals as goal

pub returns-then-not-at : goal.returns-then-not-at
returns-then-not-at g c = λ text f a. no_string_stops _ _ a (λ k. false≢true (sym c.if-not-at.true ∙ c.at.ensures.1 k)) c.set_unexpected.ensures

pub parse_attributes-requires : goal.parse_attributes-requires
parse_attributes-requires g c = standing (named c.requires (c.at.ensures.0 c.if-not-at.false) c.in_ok-specifier.ensures).at

pub returns-in_err-attributes : goal.returns-in_err-attributes
returns-in_err-attributes g c =
    let z = err_from_is_err_and c.from_residual-in_err-attributes.result c.from_residual-in_err-attributes.ensures.1 in
    rw (z.1, z.2) (λ text f a. attributes_stop a (c.at.ensures.0 c.if-not-at.false) c.in_ok-specifier.ensures _ _ c.in_err-attributes.ensures)

pub asi-requires : goal.asi-requires
asi-requires g c = (attributes_at c.requires (c.at.ensures.0 c.if-not-at.false) c.in_ok-specifier.ensures _ c.in_ok-attributes.ensures).at

pub returns-in_err-asi : goal.returns-in_err-asi
returns-in_err-asi g c =
    let z = err_from_is_err_and c.from_residual-in_err-asi.result c.from_residual-in_err-asi.ensures.1 in
    rw (z.1, z.2) (λ text f a. source_unended a (c.at.ensures.0 c.if-not-at.false) c.in_ok-specifier.ensures _ _ _ _ c.in_ok-attributes.ensures c.in_err-asi.ensures)

pub returns : goal.returns
returns g c = λ text f a. source_read a (c.at.ensures.0 c.if-not-at.false) c.in_ok-specifier.ensures _ c.in_ok-attributes.ensures c.in_ok-asi.ensures
