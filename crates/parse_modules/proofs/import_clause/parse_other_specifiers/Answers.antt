use Rattle.std.proofs.Common.{◌≡◌, Bool, true, false, List, [], ◌∷◌, Option, ◌||◌, sym, ◌∙◌}
use Rattle.std.specs.Prelude.{MatchResult, Result, Ok, Err}
use Rattle.std.proofs.lemmas.Bool.{false≢true}
use Rattle.js_base.specs.Kinds.{one_of_kinds, same_kind}
use Rattle.js_base.specs.declared.kind.Kind.{Kind}
use Rattle.js_base.specs.declared.kind.Kind.TheVariants.{LCurly, Star}
use Rattle.laws_modules.specs.laws_primary.js_tree.declared.id.NodeId.{NodeId}
use Rattle.laws_modules.specs.laws_primary.js_cursor.Parsers.{Parser}
use Rattle.laws_modules.specs.laws_primary.js_cursor.declared.stop.Stop.{Stop}
use Rattle.laws_modules.proofs.laws_primary.laws_shared.Signs.{other_kind}
use Rattle.laws_modules.proofs.ImportClauses.{list_other, list_other_stops, others_stop}
use Rattle.parse_modules.specs.Prelude.{Imports, ListTaken, NoList, NoOthers, OthersTaken}
use Rattle.parse_modules.proofs.import_clause.parse_other_specifiers.Goals as goal

either_false : (x y : Bool) → (x || false) ≡ false → y ≡ false → (x || y) ≡ false
either_false true y e h = absurd (false≢true (sym e))
either_false false y e h = h

neither : (k : Kind) → (k ≡ Star → ⊥) → (k ≡ LCurly → ⊥) → one_of_kinds (Star ∷ LCurly ∷ []) k ≡ false
neither k m n = either_false (same_kind Star k) (one_of_kinds (LCurly ∷ []) k) (other_kind Star k m) (other_kind LCurly k n)

listed : (p q : Parser) (ids : List (Option NodeId)) {V : Type 0} (r : Result V Stop) (items : V → List (Option NodeId)) → p.token.kind ≡ LCurly → MatchResult r (λ v. ListTaken Imports ids (items v) p q) (λ e. NoList Imports p q e) → MatchResult r (λ v. OthersTaken ids (items v) p q) (λ e. NoOthers p q e)
listed p q ids (Ok v) items k x = λ text f a. list_other a ids (items v) k x
listed p q ids (Err e) items k x = λ text f a. list_other_stops a q e k x

pub parse_namespace_import-requires-clause-sign : goal.parse_namespace_import-requires-clause-sign
parse_namespace_import-requires-clause-sign g c = sym c.cur_kind.ensures ∙ c.in-Star.is

pub returns-in-LCurly : goal.returns-in-LCurly
returns-in-LCurly g c = listed c.args.p.now c.parse_name_list.new.p c.args.specifiers.items c.parse_name_list.result (λ v. v.items) (sym c.cur_kind.ensures ∙ c.in-LCurly.is) c.parse_name_list.ensures

pub returns-in_default : goal.returns-in_default
returns-in_default g c = λ text f a. others_stop a _ c.set_unexpected.result (neither _ (λ k. c.in_default.not-Star (c.cur_kind.ensures ∙ k)) (λ k. c.in_default.not-LCurly (c.cur_kind.ensures ∙ k))) c.set_unexpected.ensures
