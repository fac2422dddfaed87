use Rattle.std.proofs.Common.{◌≡◌, inl, inr, Bool, true, false, ap, subst, sym, arith, ◌∙◌}
use Rattle.std.specs.Prelude.{Ok, Err}
use Rattle.std.proofs.lemmas.Result.{err_from_is_err_and}
use Rattle.js_base.specs.declared.kind.Kind.TheVariants.{As}
use Rattle.js_base.specs.declared.token.Token.{Token}
use Rattle.laws_modules.specs.laws_primary.js_tree.declared.id.NodeId.{NodeId}
use Rattle.laws_modules.specs.laws_primary.js_cursor.Moves.{Eats, IsKind, MovesOn}
use Rattle.laws_modules.specs.laws_primary.js_cursor.Parsers.{Parser}
use Rattle.laws_modules.proofs.laws_primary.laws_shared.Moving.{standing}
use Rattle.laws_modules.proofs.ImportSpecifiers.{as_moved, bound_stops, double_answers, double_start, first_marked, first_read, first_spells, name_stops, single_answers, single_stops}
use Rattle.parse_modules.specs.Prelude.{BindsSingle, BoundMarked, SpellsExport, Standing, StandsHere}
use Rattle.parse_modules.proofs.import_specifier.parse_import_specifier.Goals as goal

-- what `eat` answers
eaten : {q r : Parser} {b : Bool} → Eats As q r b → b ≡ true → IsKind As q × MovesOn q r
eaten {q} {r} e h = subst (λ (b : Bool). Eats As q r b) h e

uneaten : {q r : Parser} {b : Bool} → Eats As q r b → b ≡ false → StandsHere q As false × (r ≡ q)
uneaten {q} {r} e h = let z : Eats As q r false = subst (λ (b : Bool). Eats As q r b) h e in (λ k n. z.0 (k, n), z.1)

single_place : {t : Token} {q r : Parser} {id : NodeId} → BindsSingle t q r (Ok id) → r.prev_token_end ≡ q.prev_token_end
single_place (inl (h, d)) = ap (λ (v : Parser). v.prev_token_end) d.stays
single_place (inr (h, d)) = ap (λ (v : Parser). v.prev_token_end) d.made.stays ∙ ap (λ (v : Parser). v.prev_token_end) d.keeps.is

pub returns-in_err-imported : goal.returns-in_err-imported
returns-in_err-imported g c =
    let z = err_from_is_err_and c.from_residual.result c.from_residual.ensures.1 in
    rw (z.1, z.2) (λ text f a. name_stops _ _ a c.in_err-imported.ensures)

pub eat-requires : goal.eat-requires
eat-requires g c = (first_read c.requires c.in_ok-imported.ensures).at.at

pub parse_bound_name-requires : goal.parse_bound_name-requires
parse_bound_name-requires g c = standing (as_moved c.requires c.in_ok-imported.ensures (eaten c.in_ok-eat.ensures c.if-branch.true)).at

pub returns-in_err-local : goal.returns-in_err-local
returns-in_err-local g c =
    let z = err_from_is_err_and c.from_residual-in_err-local.result c.from_residual-in_err-local.ensures.1 in
    let e = eaten c.in_ok-eat.ensures c.if-branch.true in
    rw (z.1, z.2) (λ text f a. bound_stops a c.in_ok-imported.ensures e _ _ (c.in_err-local.ensures text f (as_moved a c.in_ok-imported.ensures e).at))

pub make_specifier-requires : goal.make_specifier-requires
make_specifier-requires g c =
    let e = eaten c.in_ok-eat.ensures c.if-branch.true in
    let i = double_start c.requires c.in_ok-imported.ensures e (c.in_ok-local.ensures _ _ (as_moved c.requires c.in_ok-imported.ensures e).at) in
    let j = c.cur_start-start.ensures in
    record { before = omega arith }

pub returns-then-branch : goal.returns-then-branch
returns-then-branch g c =
    let e = eaten c.in_ok-eat.ensures c.if-branch.true in
    λ text f a. double_answers a c.in_ok-imported.ensures e (c.in_ok-local.ensures text f (as_moved a c.in_ok-imported.ensures e).at) c.cur_start-start.ensures c.in_ok-node.ensures

pub single_name-requires-clause-at : goal.single_name-requires-clause-at
single_name-requires-clause-at g c = subst (λ (v : Parser). Standing v) (sym (uneaten c.in_ok-eat.ensures c.if-branch.false).1) (standing (first_read c.requires c.in_ok-imported.ensures).at)

pub single_name-requires-clause-spells : goal.single_name-requires-clause-spells
single_name-requires-clause-spells g c = subst (λ (v : Parser). SpellsExport v.text c.cur_token-first.result) (sym (uneaten c.in_ok-eat.ensures c.if-branch.false).1) (first_spells c.requires c.in_ok-imported.ensures c.cur_token-first.ensures)

pub single_name-requires-clause-marked : goal.single_name-requires-clause-marked
single_name-requires-clause-marked g c = subst (λ (v : Parser). BoundMarked v c.cur_token-first.result.span) (sym (uneaten c.in_ok-eat.ensures c.if-branch.false).1) (first_marked c.requires c.in_ok-imported.ensures c.cur_token-first.ensures)

pub returns-in_err-local-2 : goal.returns-in_err-local-2
returns-in_err-local-2 g c =
    let z = err_from_is_err_and c.from_residual-in_err-local-2.result c.from_residual-in_err-local-2.ensures.1 in
    let u = uneaten c.in_ok-eat.ensures c.if-branch.false in
    let s = subst (λ (t : Token). BindsSingle t c.parse_module_export_name.new.p c.single_name.new.p (Err c.in_err-local-2.field-0.0)) c.cur_token-first.ensures (subst (λ (v : Parser). BindsSingle c.cur_token-first.result v c.single_name.new.p (Err c.in_err-local-2.field-0.0)) u.1 c.in_err-local-2.ensures) in
    rw (z.1, z.2) (λ text f a. single_stops a c.in_ok-imported.ensures u.0 _ _ s)

pub make_specifier-requires-2 : goal.make_specifier-requires-2
make_specifier-requires-2 g c =
    let u = uneaten c.in_ok-eat.ensures c.if-branch.false in
    let i = single_place c.in_ok-local-2.ensures ∙ ap (λ (v : Parser). v.prev_token_end) u.1 in
    let j = (first_read c.requires c.in_ok-imported.ensures).further in
    let k = c.cur_start-start.ensures in
    record { before = omega arith }

pub returns : goal.returns
returns g c =
    let u = uneaten c.in_ok-eat.ensures c.if-branch.false in
    let s = subst (λ (t : Token). BindsSingle t c.parse_module_export_name.new.p c.single_name.new.p (Ok c.in_ok-local-2.local)) c.cur_token-first.ensures (subst (λ (v : Parser). BindsSingle c.cur_token-first.result v c.single_name.new.p (Ok c.in_ok-local-2.local)) u.1 c.in_ok-local-2.ensures) in
    λ text f a. single_answers a c.in_ok-imported.ensures u.0 c.cur_start-start.ensures s c.in_ok-node-2.ensures
