use Rattle.std.proofs.Common.{◌≡◌, ◌∷◌, ◌++◌, Bool, List, Option, Some, [], true, false, ap, subst, sym, ◌∙◌}
use Rattle.std.specs.Prelude.{MatchResult, Result, Ok, Err}
use Rattle.std.proofs.lemmas.Result.{err_from_is_err_and}
use Rattle.js_base.specs.declared.kind.Kind.TheVariants.{Comma}
use Rattle.laws_modules.specs.laws_primary.js_tree.declared.id.NodeId.{NodeId}
use Rattle.laws_modules.specs.laws_primary.js_cursor.Moves.{Eats, IsKind, MovesOn}
use Rattle.laws_modules.specs.laws_primary.js_cursor.Parsers.{Parser}
use Rattle.laws_modules.specs.laws_primary.js_cursor.declared.stop.Stop.{Stop}
use Rattle.laws_modules.specs.laws_primary.laws_shared.Stands.{NameHere}
use Rattle.laws_modules.proofs.laws_primary.laws_shared.Moving.{standing}
use Rattle.laws_modules.proofs.ImportClauses.{both_read, both_stop, comma_moved, default_alone, equals_stops, no_clause, others_fail, others_read}
use Rattle.parse_modules.specs.Prelude.{EndsParse, Eq, GivesUp, ImportsStop, ImportsTaken, NoOthers, OthersTaken, ReadsWhole, StandsHere, Standing, default_part}
use Rattle.parse_modules.proofs.import_clause.parse_import_clause.Goals as goal

-- what `eat` answers
eaten : {q r : Parser} {b : Bool} → Eats Comma q r b → b ≡ true → IsKind Comma q × MovesOn q r
eaten {q} {r} e h = subst (λ (b : Bool). Eats Comma q r b) h e

uneaten : {q r : Parser} {b : Bool} → Eats Comma q r b → b ≡ false → StandsHere q Comma false × (r ≡ q)
uneaten {q} {r} e h = let z : Eats Comma q r false = subst (λ (b : Bool). Eats Comma q r b) h e in (λ k n. z.0 (k, n), z.1)

-- what `name_stands` answers
known : (p : Parser) {b v : Bool} → NameHere p b → b ≡ v → NameHere p v
known p h e = subst (λ (b : Bool). NameHere p b) e h

-- the others alone
alone : (p q : Parser) (ids : List (Option NodeId)) {V : Type 0} (r : Result V Stop) (items : V → List (Option NodeId)) → NameHere p false → ids ≡ [] → MatchResult r (λ v. OthersTaken ids (items v) p q) (λ e. NoOthers p q e) → MatchResult r (λ v. ImportsTaken (items v) p q) (λ e. ImportsStop p q e)
alone p q ids (Ok v) items n i x = λ text f a. others_read a n (subst (λ (js : List (Option NodeId)). OthersTaken js (items v) p q) i x)
alone p q ids (Err e) items n i x = λ text f a. others_fail a n q e x

-- and behind the one for the default export
both : (p q r t : Parser) (d : NodeId) (ids : List (Option NodeId)) {V : Type 0} (w : Result V Stop) (items : V → List (Option NodeId)) → NameHere p true → ReadsWhole (λ f. default_part f) p q (Ok d) → IsKind Comma q × MovesOn q r → ids ≡ Some d ∷ [] → MatchResult w (λ v. OthersTaken ids (items v) r t) (λ e. NoOthers r t e) → MatchResult w (λ v. ImportsTaken (items v) p t) (λ e. ImportsStop p t e)
both p q r t d ids (Ok v) items h x e i z = λ text f a. both_read a h (x text f a) e (subst (λ (js : List (Option NodeId)). OthersTaken js (items v) r t) i z)
both p q r t d ids (Err s) items h x e i z = λ text f a. both_stop a h (x text f a) e t s z

-- that one alone
only_default : {p q r : Parser} {d : NodeId} {ids : List (Option NodeId)} → NameHere p true → ReadsWhole (λ f. default_part f) p q (Ok d) → StandsHere q Comma false × (r ≡ q) → ids ≡ Some d ∷ [] → ImportsTaken ids p r
only_default {p} {q} {r} {d} {ids} h x u i = subst (λ (v : Parser). ImportsTaken ids p v) (sym u.1) (subst (λ (is : List (Option NodeId)). ImportsTaken is p q) (sym i) (λ text f a. default_alone a h (x text f a) u.0))

pub returns-then-not-name_stands : goal.returns-then-not-name_stands
returns-then-not-name_stands g c = alone c.args.p.now c.parse_other_specifiers.new.p _ c.parse_other_specifiers.result (λ v. v.items) (known c.args.p.now c.name_stands.ensures c.if-not-name_stands.true) c.new-specifiers.ensures.items c.parse_other_specifiers.ensures

pub returns-in_err-default : goal.returns-in_err-default
returns-in_err-default g c =
    let z = err_from_is_err_and c.from_residual.result c.from_residual.ensures.1 in
    rw (z.1, z.2) (λ text f a. no_clause a (known c.args.p.now c.name_stands.ensures c.if-not-name_stands.false) _ _ (c.in_err-default.ensures text f a))

pub eat-requires : goal.eat-requires
eat-requires g c = (c.in_ok-default.ensures _ _ c.requires).at.at

pub parse_other_specifiers-requires-then-branch : goal.parse_other_specifiers-requires-then-branch
parse_other_specifiers-requires-then-branch g c = standing (comma_moved c.requires (known c.args.p.now c.name_stands.ensures c.if-not-name_stands.false) (c.in_ok-default.ensures _ _ c.requires) (eaten c.in_ok-eat.ensures c.if-branch.true)).at

pub returns-then-branch : goal.returns-then-branch
returns-then-branch g c = both c.args.p.now c.parse_default_specifier.new.p c.eat.new.self c.parse_other_specifiers-then-branch.new.p c.in_ok-default.default _ c.parse_other_specifiers-then-branch.result (λ v. v.items) (known c.args.p.now c.name_stands.ensures c.if-not-name_stands.false) c.in_ok-default.ensures (eaten c.in_ok-eat.ensures c.if-branch.true) (c.in_ok-push.ensures.items ∙ ap (λ (is : List (Option NodeId)). is ++ Some c.in_ok-default.default ∷ []) c.new-specifiers.ensures.items) c.parse_other_specifiers-then-branch.ensures

pub refuse_equals-requires-clause-at : goal.refuse_equals-requires-clause-at
refuse_equals-requires-clause-at g c = subst (λ (v : Parser). Standing v) (sym (uneaten c.in_ok-eat.ensures c.if-branch.false).1) (standing (c.in_ok-default.ensures _ _ c.requires).at)

pub returns-then-at : goal.returns-then-at
returns-then-at g c =
    let u = uneaten c.in_ok-eat.ensures c.if-branch.false in
    let k : c.eat.new.self.token.kind ≡ Eq = c.at.ensures.0 c.if-at.true in
    λ text f a. equals_stops a (known c.args.p.now c.name_stands.ensures c.if-not-name_stands.false) (c.in_ok-default.ensures text f a) u.0 _ _ (subst (λ (v : Parser). v.token.kind ≡ Eq) u.1 k) (subst (λ (v : Parser). GivesUp EndsParse v c.refuse_equals.new.p c.refuse_equals.result) u.1 c.refuse_equals.ensures)

pub returns : goal.returns
returns g c = only_default (known c.args.p.now c.name_stands.ensures c.if-not-name_stands.false) c.in_ok-default.ensures (uneaten c.in_ok-eat.ensures c.if-branch.false) (c.in_ok-push.ensures.items ∙ ap (λ (is : List (Option NodeId)). is ++ Some c.in_ok-default.default ∷ []) c.new-specifiers.ensures.items)
