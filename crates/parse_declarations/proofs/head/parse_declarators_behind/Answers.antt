use Rattle.std.proofs.Common.{◌≡◌, ◌∙◌, List, [], ◌∷◌, ◌++◌, Some, Option, ap, refl, sym, arith}
use Rattle.std.proofs.lemmas.Bool.{false≢true}
use Rattle.std.proofs.lemmas.Result.{err_from_is_err_and}
use Rattle.js_base.specs.declared.kind.Kind.TheVariants.{Comma}
use Rattle.parse_shared.specs.js_tree.declared.id.NodeId.{NodeId}
use Rattle.parse_shared.proofs.laws_shared.Giving.{memory_stops}
use Rattle.parse_shared.proofs.laws_shared.Moving.{standing}
use Rattle.parse_shared.proofs.laws_shared.Nesting.{nested_room, nests_later}
use Rattle.parse_shared.proofs.laws_shared.Signs.{whole_sign}
use Rattle.parse_declarations.proofs.HeadDeclarators.{list_alone, list_more, list_stops}
use Rattle.parse_declarations.proofs.head.parse_declarators_behind.Goals as goal

pub returns-then-not-at : goal.returns-then-not-at
returns-then-not-at g c = list_alone (c.in_ok-push.ensures.items ∙ ap (λ (v : List (Option NodeId)). v ++ Some c.args.first ∷ []) (let e : c.new-declarators.result.items ≡ [] = search in e)) refl (λ k. false≢true (sym c.if-not-at.true ∙ c.at.ensures.1 k))

pub advance-requires-clause-at : goal.advance-requires-clause-at
advance-requires-clause-at g c = c.requires.at

pub advance-requires-clause-whole : goal.advance-requires-clause-whole
advance-requires-clause-whole g c = whole_sign Comma c.requires.at (c.at.ensures.0 c.if-not-at.false) refl refl

pub returns-in_err-advance : goal.returns-in_err-advance
returns-in_err-advance g c =
    let p = err_from_is_err_and c.from_residual-in_err-advance.result c.from_residual-in_err-advance.ensures.1 in
    rw (p.1, p.2) (λ text f o a d. memory_stops _ _ _ _ c.in_err-advance.ensures)

pub parse_declarators-requires-clause-at : goal.parse_declarators-requires-clause-at
parse_declarators-requires-clause-at g c = standing (c.in_ok-advance.ensures _ _ c.requires.at).at

pub parse_declarators-requires-clause-nests : goal.parse_declarators-requires-clause-nests
parse_declarators-requires-clause-nests g c = nests_later c.requires.nests (let r = nested_room c.requires.at (c.in_ok-advance.ensures _ _ c.requires.at) in omega arith)

pub returns-in_err-declarators : goal.returns-in_err-declarators
returns-in_err-declarators g c =
    let p = err_from_is_err_and c.from_residual-in_err-declarators.result c.from_residual-in_err-declarators.ensures.1 in
    rw (p.1, p.2) (list_stops _ _ (c.at.ensures.0 c.if-not-at.false) c.in_ok-advance.ensures c.in_err-declarators.ensures)

pub returns : goal.returns
returns g c = list_more c.in_ok-insert.ensures.items (c.at.ensures.0 c.if-not-at.false) c.in_ok-advance.ensures c.in_ok-declarators.ensures
