-- Words before the name of a member (ECMA-262, 15.7): which of them are prefixes there.
use Rattle.std.proofs.Common.{◌≡◌, ◌⊎◌, inl, inr, Bool, true, false, not, ◌||◌, ◌∷◌, Some, None, refl, sym, ap, ap₂, ◌∙◌}
use Rattle.std.specs.Prelude.{if◌then◌else◌}
use Rattle.std.proofs.lemmas.Bool.{false≢true}
use Rattle.std.proofs.Math.Bool.{beq}
use Rattle.std.specs.Cmp.{booleans_Decides}
use Rattle.js_base.specs.declared.kind.Kind.{Kind}
use Rattle.js_base.specs.declared.kind.Kind.TheVariants.{Accessor, Async, Get, Set, Star, Static}
use Rattle.js_base.specs.declared.token.Token.{Token}
use Rattle.js_base.specs.KindSets.{identifier_name_kinds, number_kinds}
use Rattle.js_base.specs.Kinds.{kinds, same_kind, one_of_kinds}
use Rattle.js_base.proofs.KindLemmas.{at_each, kind_of_same}
use Rattle.laws_primary.specs.js_tree.declared.op.MethodKind.{MethodKind}
use Rattle.laws_primary.specs.js_tree.declared.op.MethodKind.TheVariants as kind
use Rattle.laws_primary.specs.js_cursor.Parsers.{Parser}
use Rattle.laws_primary.specs.laws_shared.Lexemes.{keyword_kind}
use Rattle.laws_primary.proofs.laws_shared.Escapes.{keyword_is, keyword_plain}
use Rattle.laws_classes.specs.Members.{BeginsAccessor, NamesMember, accessor_of, begins_accessor, begins_async, name_kinds, other_name_kinds}

-- by which of the lists a name may begin with it
listed : (k : Kind) → (one_of_kinds other_name_kinds k || (one_of_kinds number_kinds k || one_of_kinds identifier_name_kinds k)) ≡ one_of_kinds name_kinds k
unfolding kinds
listed k = (booleans_Decides _ _).0 (at_each (λ j. beq (one_of_kinds other_name_kinds j || (one_of_kinds number_kinds j || one_of_kinds identifier_name_kinds j)) (one_of_kinds name_kinds j)) refl k)

pub name_begins : (k : Kind) {a b c : Bool} → one_of_kinds other_name_kinds k ≡ a → one_of_kinds number_kinds k ≡ b → one_of_kinds identifier_name_kinds k ≡ c → (a || (b || c)) ≡ one_of_kinds name_kinds k
name_begins k h i j = sym (ap₂ (λ (x y : Bool). x || y) h (ap₂ (λ (x y : Bool). x || y) i j)) ∙ listed k

-- ---- a getter or a setter

pub one_accessor : {w b k j : Kind} (o : MethodKind) → w ≡ k → b ≡ j → accessor_of w b ≡ Some o → BeginsAccessor o k × (one_of_kinds name_kinds j ≡ true)
one_accessor {k = k} {j = j} o h i e = go (one_of_kinds name_kinds j) (same_kind Get k) (same_kind Set k) o (λ g. sym (kind_of_same Get k g)) (λ g. sym (kind_of_same Set k g)) (sym (ap₂ accessor_of h i) ∙ e)
  where
    go : (n g s : Bool) (o : MethodKind) → (g ≡ true → k ≡ Get) → (s ≡ true → k ≡ Set) → (if not n then None else (if g then Some kind.Get else (if s then Some kind.Set else None))) ≡ Some o → BeginsAccessor o k × (n ≡ true)
    go false g s o x y e = absurd cc
    go true true s kind.Get x y e = (x refl, refl)
    go true true s kind.Set x y e = absurd cc
    go true true s kind.Method x y e = absurd cc
    go true true s kind.Constructor x y e = absurd cc
    go true false true kind.Set x y e = (y refl, refl)
    go true false true kind.Get x y e = absurd cc
    go true false true kind.Method x y e = absurd cc
    go true false true kind.Constructor x y e = absurd cc
    go true false false o x y e = absurd cc

pub accessor_plain : (t : Token) (o : MethodKind) → BeginsAccessor o (keyword_kind t) → BeginsAccessor o t.kind × (t.escaped ≡ false)
accessor_plain t kind.Get k = keyword_is t k refl
accessor_plain t kind.Set k = keyword_is t k refl
accessor_plain t kind.Method k = absurd k
accessor_plain t kind.Constructor k = absurd k

no_accessor_name : (n g s : Bool) → (g || (s || false)) ≡ true → (if not n then None else (if g then Some kind.Get else (if s then Some kind.Set else None))) ≡ None → n ≡ false
no_accessor_name false g s h e = refl
no_accessor_name true true s h e = absurd cc
no_accessor_name true false true h e = absurd cc
no_accessor_name true false false h e = absurd (false≢true h)

-- ---- `async` and `accessor`

both_hold : (n w z : Bool) → (if not n || w then false else z) ≡ true → (z ≡ true) × (n ≡ true) × (w ≡ false)
both_hold false w z h = absurd (false≢true h)
both_hold true true z h = absurd (false≢true h)
both_hold true false z h = (h, refl, refl)

one_fails : (n w : Bool) → (if not n || w then false else true) ≡ false → (w ≡ true) ⊎ (n ≡ false)
one_fails false w h = inr refl
one_fails true true h = inl refl
one_fails true false h = absurd (false≢true (sym h))

pub async_is : (k b : Kind) (w : Bool) → begins_async k b w ≡ true → (k ≡ Async) × (one_of_kinds (Star ∷ name_kinds) b ≡ true) × (w ≡ false)
async_is k b w h = let z = both_hold (one_of_kinds (Star ∷ name_kinds) b) w (same_kind Async k) h in (sym (kind_of_same Async k z.0), z.1, z.2)

pub accessor_is : (k b : Kind) (w : Bool) → begins_accessor k b w ≡ true → (k ≡ Accessor) × (one_of_kinds name_kinds b ≡ true) × (w ≡ false)
accessor_is k b w h = let z = both_hold (one_of_kinds name_kinds b) w (same_kind Accessor k) h in (sym (kind_of_same Accessor k z.0), z.1, z.2)

-- as the code told it
pub told_so : (F : Kind → Kind → Bool → Bool) {w k : Kind} {t u : Token} {r b : Bool} → w ≡ k → t ≡ u → r ≡ F w t.kind t.is_on_new_line → r ≡ b → F k u.kind u.is_on_new_line ≡ b
told_so F {w} {k} {t} {u} e h i j = sym (ap (λ (x : Kind). F x t.kind t.is_on_new_line) e ∙ ap (λ (x : Token). F k x.kind x.is_on_new_line) h) ∙ (sym i ∙ j)

-- ---- none of them: the word is a name

pub names_member : {p q : Parser} (st : Bool) → accessor_of (keyword_kind p.token) q.token.kind ≡ None → begins_async (keyword_kind p.token) q.token.kind q.token.is_on_new_line ≡ false → begins_accessor (keyword_kind p.token) q.token.kind q.token.is_on_new_line ≡ false → (st ≡ false → p.token.kind ≡ Static → p.token.escaped ≡ false → ⊥) → NamesMember st p q
names_member {p} {q} st o s x n = record {
  accessor_method = λ e k. no_accessor_name (one_of_kinds name_kinds q.token.kind) (same_kind Get p.token.kind) (same_kind Set p.token.kind) k (sym (ap (λ (v : Kind). accessor_of v q.token.kind) (keyword_plain p.token e)) ∙ o);
  async_method = λ e k. one_fails (one_of_kinds (Star ∷ name_kinds) q.token.kind) q.token.is_on_new_line (sym (ap (λ (v : Kind). begins_async v q.token.kind q.token.is_on_new_line) (keyword_plain p.token e ∙ k)) ∙ s);
  accessor_field = λ e k. one_fails (one_of_kinds name_kinds q.token.kind) q.token.is_on_new_line (sym (ap (λ (v : Kind). begins_accessor v q.token.kind q.token.is_on_new_line) (keyword_plain p.token e ∙ k)) ∙ x);
  static_member = λ u e k. absurd (n u k e);
}
