-- What holds of the kinds of names, and what stands at a name.
use Rattle.std.proofs.Common.{ℕ, ◌≡◌, Bool, true, false, not, ◌&&◌, ◌||◌, List, ◌∷◌, IsTrue, refl, sym, ap, subst, ◌∙◌}
use Rattle.std.proofs.lemmas.Bool.{false≢true, and_from, not-true}
use Rattle.js_base.specs.declared.kind.Kind.{Kind}
use Rattle.js_base.specs.declared.kind.Kind.TheVariants.{Yield, Await, RAngle}
use Rattle.js_base.specs.Contexts.{has_flag, yield_flag, await_flag}
use Rattle.js_base.specs.Kinds.{same_kind, one_of_kinds}
use Rattle.js_base.specs.KindSets.{binding_identifier_kinds}
use Rattle.js_base.proofs.KindLemmas.{kind_of_same}
use Rattle.js_grammar.specs.Trees.{end}
use Rattle.js_grammar.specs.Grammar.{Lexeme, Look, seen}
use Rattle.js_grammar.specs.Insertion.{may_bind}
use Rattle.js_grammar.specs.Parsing.{Test, Goes, still}
use Rattle.js_grammar.specs.Productions.{G, Flags}
use Rattle.js_grammar.specs.Table.{rule}
use Rattle.js_grammar.specs.FirstSets.{first}
use Rattle.js_grammar.proofs.Looks.{covers, covered, apart, not_both}
use Rattle.js_grammar.proofs.FirstRules.{pick}
use Rattle.js_cursor.specs.Moves.{is_last}
use Rattle.js_cursor.specs.Parsers.{Parser}
use Rattle.laws_shared.specs.Lexemes.{Lex, is_read, may_name, is_read_kind}
use Rattle.laws_shared.specs.Moves.{IsWholeHere}
use Rattle.laws_shared.specs.Stands.{NameHere, NameUnder}
use Rattle.laws_shared.specs.States.{At}
use Rattle.laws_shared.proofs.Here.{uncut}
use Rattle.laws_shared.proofs.Paths.{at_kinds, reads}

-- the kinds of names
abbrev pub a_name : Look
a_name k w e = one_of_kinds binding_identifier_kinds k

-- the test of the lexeme of a name
abbrev pub name_test : Flags → Look
name_test f a w e = may_bind a && not (same_kind Yield a && f.yield_) && not (same_kind Await a && f.await_)

abbrev name_is_read : Look
name_is_read k w e = is_read_kind k

pub name_read : (k : Kind) → one_of_kinds binding_identifier_kinds k ≡ true → is_read_kind k ≡ true
unfolding covers
name_read k h = covered a_name name_is_read refl k false false h

-- the same test, by the parameters Yield and Await
abbrev bindable : Bool → Bool → Look
bindable y t a w e = may_bind a && not (same_kind Yield a && y) && not (same_kind Await a && t)

-- what is a name by these parameters
abbrev named : Bool → Bool → Look
named y t k w e = may_name y t k

names_bind : (y t : Bool) → covers (named y t) (bindable y t) ≡ true
unfolding covers
names_bind true true = refl
names_bind true false = refl
names_bind false true = refl
names_bind false false = refl

-- a name passes the test
pub name_passes : (f : Flags) (y : Lexeme) → may_name f.yield_ f.await_ y.kind ≡ true → IsTrue (seen (name_test f) y)
name_passes f y h = covered (named f.yield_ f.await_) (bindable f.yield_ f.await_) (names_bind f.yield_ f.await_) y.kind y.newline y.escaped h

-- what is read and passes it is a name
abbrev bindable_read : Bool → Bool → Look
bindable_read y t k w e = bindable y t k w e && reads k w e

passes_named : (y t : Bool) → covers (bindable_read y t) (named y t) ≡ true
unfolding covers
passes_named true true = refl
passes_named true false = refl
passes_named false true = refl
passes_named false false = refl

pub test_named : (f : Flags) (y : Lexeme) → IsTrue (is_read y) → IsTrue (seen (name_test f) y) → may_name f.yield_ f.await_ y.kind ≡ true
test_named f y r h = covered (bindable_read f.yield_ f.await_) (named f.yield_ f.await_) (passes_named f.yield_ f.await_) y.kind y.newline y.escaped (and_from _ _ h r)

-- it is one of the kinds of names
names_listed : (y t : Bool) → covers (named y t) a_name ≡ true
unfolding covers
names_listed true true = refl
names_listed true false = refl
names_listed false true = refl
names_listed false false = refl

pub listed_name : (y t : Bool) (k : Kind) → may_name y t k ≡ true → one_of_kinds binding_identifier_kinds k ≡ true
listed_name y t k h = covered (named y t) a_name (names_listed y t) k false false h

-- and what is none of these kinds is no name
pub no_listed_name : (y t : Bool) (k : Kind) → one_of_kinds binding_identifier_kinds k ≡ false → may_name y t k ≡ false
no_listed_name y t k n = go (may_name y t k) refl
  where
    go : (b : Bool) → may_name y t k ≡ b → may_name y t k ≡ false
    go true h = absurd (false≢true (sym n ∙ listed_name y t k h))
    go false h = h

-- it isn't the end of the text, and no sign that is cut
abbrev no_end : Look
no_end k w e = not (is_last k)

abbrev no_sign : Look
no_sign k w e = not (same_kind RAngle k)

-- it is none of these kinds
pub name_apart : (ks : List Kind) → apart a_name (λ k w e. one_of_kinds ks k) ≡ true → (k : Kind) → one_of_kinds binding_identifier_kinds k ≡ true → one_of_kinds ks k ≡ false
name_apart ks d k h = go (one_of_kinds ks k) refl
  where
    go : (b : Bool) → one_of_kinds ks k ≡ b → one_of_kinds ks k ≡ false
    go true e = absurd (not_both a_name (λ k w e. one_of_kinds ks k) d k false false h e)
    go false e = e

-- it may be passed
pub name_whole : {text : List ℕ} {f : Flags} {p : Parser} → At text f p → one_of_kinds binding_identifier_kinds p.token.kind ≡ true → IsWholeHere p
unfolding covers
name_whole {p = p} a h = (uncut a (not-true (same_kind RAngle p.token.kind) (covered a_name no_sign refl p.token.kind false false h)), not-true (is_last p.token.kind) (covered a_name no_end refl p.token.kind false false h))

-- a choice, cut down where a name stands
pub at_name : {text : List ℕ} {f : Flags} {p : Parser} {X : Test} {g : G} → At text f p → one_of_kinds binding_identifier_kinds p.token.kind ≡ true → Goes rule (Lex text) X end g p.prev_token_end (pick first X.base g binding_identifier_kinds) p.prev_token_end (λ us. us) (still 0)
unfolding apart
at_name a h = at_kinds a binding_identifier_kinds refl h

-- one more kind
pub or_kind : (a : Kind) (ks : List Kind) (k : Kind) → (k ≡ a → ⊥) → one_of_kinds ks k ≡ false → one_of_kinds (a ∷ ks) k ≡ false
or_kind a ks k n m = go (same_kind a k) refl
  where
    go : (b : Bool) → same_kind a k ≡ b → (b || one_of_kinds ks k) ≡ false
    go true e = absurd (n (sym (kind_of_same a k e)))
    go false e = m

pub name_so : (p : Parser) {b r : Bool} → r ≡ b → NameHere p r → NameHere p b
name_so p e s = subst (λ (c : Bool). NameHere p c) e s

-- the parameters in force are those of the text's place
pub name_at : {text : List ℕ} {f : Flags} {p : Parser} (b : Bool) → At text f p → NameHere p b → NameUnder f.yield_ f.await_ p b
name_at {p = p} b a h = subst (λ (g : Flags). NameUnder g.yield_ g.await_ p b) a.flags_are h

-- a name that stands here is one of the kinds
pub listed_here : (p : Parser) → NameHere p true → one_of_kinds binding_identifier_kinds p.token.kind ≡ true
listed_here p h = listed_name (has_flag yield_flag p.ctx) (has_flag await_flag p.ctx) p.token.kind h

-- which kinds are names is told by either, whatever is said of it
pub names_at : {text : List ℕ} {f : Flags} {p : Parser} → At text f p → (P : Bool → Bool) (k : Kind) → P (may_name f.yield_ f.await_ k) ≡ P (may_name (has_flag yield_flag p.ctx) (has_flag await_flag p.ctx) k)
names_at a P k = sym (ap (λ (g : Flags). P (may_name g.yield_ g.await_ k)) a.flags_are)
