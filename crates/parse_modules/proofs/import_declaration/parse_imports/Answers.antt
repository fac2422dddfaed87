use Rattle.std.proofs.Common.{◌≡◌, true, inl, inr, refl, sym, ◌∙◌}
use Rattle.std.proofs.lemmas.Bool.{false≢true}
use Rattle.std.proofs.lemmas.Result.{err_from_is_err_and}
use Rattle.js_grammar.specs.FirstSets.{first}
use Rattle.js_grammar.specs.Parsing.{full}
use Rattle.js_grammar.specs.Productions.{Flags}
use Rattle.js_grammar.proofs.First.{starts}
use Rattle.js_grammar.proofs.Looks.{covers}
use Rattle.laws_modules.specs.ImportClauses.{ends_clause}
use Rattle.laws_modules.specs.ImportDeclarations.{behind_clause}
use Rattle.laws_modules.proofs.laws_primary.laws_shared.Moving.{stops_so}
use Rattle.laws_modules.proofs.ImportDeclarations.{from_missing}
use Rattle.laws_modules.proofs.KeptParts.{kept_fails}
use Rattle.parse_modules.proofs.import_declaration.parse_imports.Goals as goal

-- what stands behind a clause begins with `from`
from_first : (f : Flags) → covers (starts first (behind_clause f) full) ends_clause ≡ true
unfolding covers
from_first f = refl

pub returns-then-at : goal.returns-then-at
returns-then-at g c = inl (c.at.ensures.0 c.if-at.true, c.new.ensures.items, refl)

pub returns-in_err-specifiers : goal.returns-in_err-specifiers
returns-in_err-specifiers g c =
    let z = err_from_is_err_and c.from_residual.result c.from_residual.ensures.1 in
    rw (z.1, z.2) (λ k. false≢true (sym c.if-at.false ∙ c.at.ensures.1 k), λ text f a. stops_so _ _ _ (λ m. kept_fails (from_first f) m) (c.in_err-specifiers.ensures text f a))

pub expect-requires : goal.expect-requires
expect-requires g c = (c.in_ok-specifiers.ensures _ _ c.requires).path.at.at

pub returns-in_err-expect : goal.returns-in_err-expect
returns-in_err-expect g c =
    let z = err_from_is_err_and c.from_residual-in_err-expect.result c.from_residual-in_err-expect.ensures.1 in
    rw (z.1, z.2) (λ k. false≢true (sym c.if-at.false ∙ c.at.ensures.1 k), λ text f a. from_missing (c.in_ok-specifiers.ensures text f a) _ _ c.in_err-expect.ensures)

pub returns : goal.returns
returns g c = inr (λ k. false≢true (sym c.if-at.false ∙ c.at.ensures.1 k), record { mid = c.parse_import_clause.new.p; imports = c.in_ok-specifiers.ensures; from = c.in_ok-expect.ensures })
