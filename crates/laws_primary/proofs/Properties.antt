-- The line of a property (ECMA-262, 13.2.5): which of its forms is left, by what stands where it begins and behind its name.
use Rattle.std.proofs.Common.{ℕ, ◌≡◌, Bool, true, false, not, List, [], ◌∷◌, ◌++◌, Some, refl, ap, subst}
use Rattle.js_base.specs.KindSets.{number_kinds, binding_identifier_kinds, identifier_name_kinds}
use Rattle.js_base.specs.Kinds.{one_of_kinds}
use Rattle.js_base.specs.declared.kind.Kind.{Kind}
use Rattle.js_base.specs.declared.kind.Kind.TheVariants.{Async, Await, Break, Case, Catch, Class, Colon, Comma, Const, Continue, Debugger, Default, Delete, Do, Dot3, Else, Enum, Eq, Export, Extends, False, Finally, For, Function, Get, If, Import, In, Instanceof, LBrack, LParen, New, Null, RBrack, RCurly, RParen, Return, Set, Star, Str, Super, Switch, Target, This, Throw, True, Try, Typeof, Var, Void, While, With, Yield}
use Rattle.js_grammar.specs.Trees.{end}
use Rattle.js_grammar.specs.Grammar.{Look, alt, nothing, when, ◌▸◌, ◌◇◌}
use Rattle.js_grammar.specs.Parsing.{Test, plain, full, still, Goes, Fails}
use Rattle.js_grammar.specs.Productions.{G, Flags, at, opt, plus_in, tok, Init, Property}
use Rattle.js_grammar.specs.Productions.{sym as symbol}
use Rattle.js_grammar.specs.Table.{rule, rule_of, name, plain_method}
use Rattle.js_grammar.proofs.Looks.{covers, apart, not_both}
use Rattle.js_grammar.proofs.Calculus.{◌▹◌, ◌▹✗◌, both, done, fails_alt, fails_node, inside_full, left, right, stay}
use Rattle.laws_shared.specs.js_tree.declared.id.NodeId.{NodeId}
use Rattle.laws_shared.specs.js_cursor.Parsers.{Parser}
use Rattle.laws_primary.specs.Objects.{NoAsyncMethod, accessors, getter_of, method_left, methods, named, setter_of, shorthand, value_left, with_method, with_value}
use Rattle.laws_primary.specs.PropertyNames.{NameRead, NoName}
use Rattle.laws_primary.specs.Spreads.{spread}
use Rattle.laws_shared.specs.declared.nested.MethodForm.TheVariants.{Method, Getter, Setter}
use Rattle.laws_shared.specs.Arguments.{Partway, behind_item}
use Rattle.laws_shared.specs.Lexemes.{Lex, may_name}
use Rattle.laws_shared.proofs.NamedFirsts.{fails_unnamed}
use Rattle.laws_shared.specs.Methods.{WholeTaken}
use Rattle.laws_shared.specs.States.{At}
use Rattle.laws_shared.proofs.Parts.{part_from}
use Rattle.laws_shared.proofs.Paths.{◌⟶✗◌, fails_at}
use Rattle.laws_primary.proofs.Methods.{no_first}
use Rattle.laws_primary.proofs.Wholes.{part_under, whole_part}

-- ---- the forms of the line

abbrev pub forms : Bool → Flags → G
forms c f = with_value c f ◇ with_method c f ◇ getter_of c f ◇ setter_of c f

line : (f : Flags) → rule (at Property f) ≡ alt (shorthand f) (alt (alt (forms false f) (forms true f)) (spread f))
unfolding rule rule_of
line f = refl

abbrev pub No : List ℕ → Test → ℕ → G → Type 0
No text X s g = Fails rule (Lex text) X end g s

module _ {text : List ℕ} (f : Flags) {X : Test} {s : ℕ} where
  to_line : Goes rule (Lex text) X end (rule (at Property f)) s (alt (shorthand f) (alt (alt (forms false f) (forms true f)) (spread f))) s (λ us. us) (still 0)
  to_line = subst (λ (g : G). Goes rule (Lex text) X end (rule (at Property f)) s g s (λ us. us) (still 0)) (line f) stay

  only_forms : No text X s (shorthand f) → No text X s (spread f) → Goes rule (Lex text) X end (rule (at Property f)) s (alt (forms false f) (forms true f)) s (λ us. us) (still 0)
  only_forms n m = to_line ▹ (right n ▹ left m)

  pub only_spread : No text X s (shorthand f) → ((c : Bool) → No text X s (forms c f)) → Goes rule (Lex text) X end (rule (at Property f)) s (spread f) s (λ us. us) (still 0)
  only_spread n m = to_line ▹ (right n ▹ right (fails_alt (m false) (m true)))

  pub only_shorthand : ((c : Bool) → No text X s (forms c f)) → No text X s (spread f) → Goes rule (Lex text) X end (rule (at Property f)) s (shorthand f) s (λ us. us) (still 0)
  only_shorthand n m = to_line ▹ left (fails_alt (fails_alt (n false) (n true)) m)

  only_named_so : (c : Bool) → No text X s (getter_of c f) → No text X s (setter_of c f) → Goes rule (Lex text) X end (forms c f) s (named c f) s (λ us. us) (still 0)
  only_named_so c n m = both stay (left (fails_alt n m))

  pub only_named : (c : Bool) → No text X s (shorthand f) → No text X s (spread f) → No text X s (getter_of c f) → No text X s (setter_of c f) → No text X s (forms (not c) f) → Goes rule (Lex text) X end (rule (at Property f)) s (named c f) s (λ us. us) (still 0)
  only_named false n m g t o = only_forms n m ▹ (left o ▹ only_named_so false g t)
  only_named true n m g t o = only_forms n m ▹ (right o ▹ only_named_so true g t)

  pub only_getters : No text X s (shorthand f) → No text X s (spread f) → ((c : Bool) → No text X s (with_value c f)) → ((c : Bool) → No text X s (with_method c f)) → ((c : Bool) → No text X s (setter_of c f)) → Goes rule (Lex text) X end (rule (at Property f)) s (accessors Getter f) s (λ us. us) (still 0)
  only_getters n m v w t = only_forms n m ▹ both (so false) (so true)
    where
      so : (c : Bool) → Goes rule (Lex text) X end (forms c f) s (getter_of c f) s (λ us. us) (still 0)
      so c = right (v c) ▹ (right (w c) ▹ left (t c))

  pub only_setters : No text X s (shorthand f) → No text X s (spread f) → ((c : Bool) → No text X s (with_value c f)) → ((c : Bool) → No text X s (with_method c f)) → ((c : Bool) → No text X s (getter_of c f)) → Goes rule (Lex text) X end (rule (at Property f)) s (accessors Setter f) s (λ us. us) (still 0)
  only_setters n m v w t = only_forms n m ▹ both (so false) (so true)
    where
      so : (c : Bool) → Goes rule (Lex text) X end (forms c f) s (setter_of c f) s (λ us. us) (still 0)
      so c = right (v c) ▹ (right (w c) ▹ right (t c))

  -- a method that is no accessor
  pub only_methods : No text X s (shorthand f) → No text X s (spread f) → ((c : Bool) → No text X s (with_value c f)) → ((c : Bool) → No text X s (getter_of c f)) → ((c : Bool) → No text X s (setter_of c f)) → Goes rule (Lex text) X end (rule (at Property f)) s (methods f) s (λ us. us) (still 0)
  only_methods n m v g t = only_forms n m ▹ both (so false) (so true)
    where
      so : (c : Bool) → Goes rule (Lex text) X end (forms c f) s (with_method c f) s (λ us. us) (still 0)
      so c = right (v c) ▹ left (fails_alt (g c) (t c))

  only_method_so : (c : Bool) → No text X s (with_value c f) → No text X s (getter_of c f) → No text X s (setter_of c f) → Goes rule (Lex text) X end (forms c f) s (with_method c f) s (λ us. us) (still 0)
  only_method_so c v g t = right v ▹ left (fails_alt g t)

  pub only_method : (c : Bool) → No text X s (shorthand f) → No text X s (spread f) → ((d : Bool) → No text X s (with_value d f)) → ((d : Bool) → No text X s (getter_of d f)) → ((d : Bool) → No text X s (setter_of d f)) → No text X s (with_method (not c) f) → Goes rule (Lex text) X end (rule (at Property f)) s (with_method c f) s (λ us. us) (still 0)
  only_method false n m v g t o = only_forms n m ▹ (left (fails_alt (v true) (fails_alt o (fails_alt (g true) (t true)))) ▹ only_method_so false (v false) (g false) (t false))
  only_method true n m v g t o = only_forms n m ▹ (right (fails_alt (v false) (fails_alt o (fails_alt (g false) (t false)))) ▹ only_method_so true (v true) (g true) (t true))

  -- nothing of it
  pub none_of_line : No text X s (shorthand f) → ((c : Bool) → No text X s (forms c f)) → No text X s (spread f) → No text X s (rule (at Property f))
  none_of_line n m o = to_line ▹✗ fails_alt n (fails_alt (fails_alt (m false) (m true)) o)

  pub no_forms : (c : Bool) → No text X s (with_value c f) → No text X s (with_method c f) → No text X s (getter_of c f) → No text X s (setter_of c f) → No text X s (forms c f)
  no_forms c n m g t = fails_alt n (fails_alt m (fails_alt g t))

  pub no_named : (c : Bool) → No text X s (with_value c f) → No text X s (with_method c f) → No text X s (named c f)
  no_named c n m = fails_alt n m

-- ---- kinds

-- what is of one list is of none that has nothing in common with it
pub kinds_apart : (ks ls : List Kind) → apart (λ k w e. one_of_kinds ks k) (λ k w e. one_of_kinds ls k) ≡ true → (k : Kind) → one_of_kinds ks k ≡ true → one_of_kinds ls k ≡ false
kinds_apart ks ls d k h = go (one_of_kinds ls k) refl
  where
    go : (b : Bool) → one_of_kinds ls k ≡ b → one_of_kinds ls k ≡ false
    go true e = absurd (not_both (λ k w e. one_of_kinds ks k) (λ k w e. one_of_kinds ls k) d k false false h e)
    go false e = e

abbrev read_words : Look
read_words k w e = one_of_kinds identifier_name_kinds k

pub word_apart : (ls : List Kind) → apart read_words (λ k w e. one_of_kinds ls k) ≡ true → (k : Kind) → one_of_kinds identifier_name_kinds k ≡ true → one_of_kinds ls k ≡ false
word_apart ls d k h = go (one_of_kinds ls k) refl
  where
    go : (b : Bool) → one_of_kinds ls k ≡ b → one_of_kinds ls k ≡ false
    go true e = absurd (not_both read_words (λ k w e. one_of_kinds ls k) d k false false h e)
    go false e = e

-- what the name of a property begins with, of what is read
abbrev pub property_name_kinds : List Kind
property_name_kinds = LBrack ∷ Str ∷ This ∷ Null ∷ True ∷ False ∷ Typeof ∷ Void ∷ Delete ∷ In ∷ Instanceof ∷ New ∷ Break ∷ Continue ∷ Debugger ∷ Throw ∷ If ∷ Else ∷ While ∷ Do ∷ With ∷ Var ∷ Const ∷ Case ∷ Catch ∷ Class ∷ Default ∷ Enum ∷ Export ∷ Extends ∷ Finally ∷ For ∷ Function ∷ Import ∷ Return ∷ Super ∷ Switch ∷ Try ∷ Yield ∷ Await ∷ Async ∷ Target ∷ number_kinds ++ binding_identifier_kinds

abbrev next_kinds : Look
next_kinds k w e = one_of_kinds (Comma ∷ RParen ∷ RBrack ∷ RCurly ∷ []) k

-- what may stand behind a name alone
abbrev pub behind_shorthand : List Kind
behind_shorthand = Eq ∷ Comma ∷ RParen ∷ RBrack ∷ RCurly ∷ []

abbrev pub initialiser : Flags → G
initialiser f = opt (when f.cover (symbol Init (plus_in f)))

-- ---- by what stands where it begins

module _ {text : List ℕ} {f : Flags} {p : Parser} (a : At text f p) where
  pub no_name_begins : (c : Bool) → one_of_kinds property_name_kinds p.token.kind ≡ false → NoName text c f p.prev_token_end
  unfolding covers apart
  no_name_begins true n = fails_at a (name true false f) property_name_kinds refl n
  no_name_begins false n = fails_at a (name false false f) property_name_kinds refl n

  pub no_shorthand : one_of_kinds binding_identifier_kinds p.token.kind ≡ false → Fails rule (Lex text) behind_item end (shorthand f) p.prev_token_end
  unfolding covers apart
  no_shorthand n = fails_at a (shorthand f) binding_identifier_kinds refl n

  -- nor where a word stands that is no name by the parameters in force
  pub no_named_shorthand : may_name f.yield_ f.await_ p.token.kind ≡ false → Fails rule (Lex text) behind_item end (shorthand f) p.prev_token_end
  unfolding covers apart
  no_named_shorthand n = fails_unnamed a f (λ g. shorthand g) [] refl refl refl refl refl n refl

  pub no_spread : one_of_kinds (Dot3 ∷ []) p.token.kind ≡ false → Fails rule (Lex text) behind_item end (spread f) p.prev_token_end
  unfolding covers apart
  no_spread n = fails_at a (spread f) (Dot3 ∷ []) refl n

  pub no_getter : (c : Bool) → one_of_kinds (Get ∷ []) p.token.kind ≡ false → Fails rule (Lex text) behind_item end (getter_of c f) p.prev_token_end
  unfolding covers apart
  no_getter c n = fails_at a (getter_of c f) (Get ∷ []) refl n

  pub no_setter : (c : Bool) → one_of_kinds (Set ∷ []) p.token.kind ≡ false → Fails rule (Lex text) behind_item end (setter_of c f) p.prev_token_end
  unfolding covers apart
  no_setter c n = fails_at a (setter_of c f) (Set ∷ []) refl n

  -- a method, with its `*` or without one
  module _ (c : Bool) where
    abbrev unstarred : G
    unstarred = nothing ▸ nothing ▸ nothing ▸ name c false f ▸ method_left Method false false f

    abbrev starred : G
    starred = nothing ▸ tok Star ▸ nothing ▸ name c false f ▸ method_left Method false true f

    pub no_async_line : one_of_kinds (Async ∷ []) p.token.kind ≡ false → NoAsyncMethod text c f p.prev_token_end
    unfolding covers apart
    no_async_line n s = no_first (no_first (fails_at a (tok Async) (Async ∷ []) refl n))

    pub without_star : one_of_kinds (Star ∷ []) p.token.kind ≡ false → NoAsyncMethod text c f p.prev_token_end → Goes rule (Lex text) (plain full) end (plain_method nothing c false f) p.prev_token_end (name c false f ▸ method_left Method false false f) p.prev_token_end (λ us. us) (still 0)
    unfolding covers apart
    without_star n k = left (fails_alt (k false) (k true)) ▹ (left (fails_at a starred (Star ∷ []) refl n) ▹ (done ▹ (done ▹ done)))

    pub with_star : p.token.kind ≡ Star → Goes rule (Lex text) (plain full) end (plain_method nothing c false f) p.prev_token_end (tok Star ▸ nothing ▸ name c false f ▸ method_left Method false true f) p.prev_token_end (λ us. us) (still 0)
    unfolding covers apart
    with_star k = left (fails_alt (no_async_line (ap (one_of_kinds (Async ∷ [])) k) false) (no_async_line (ap (one_of_kinds (Async ∷ [])) k) true)) ▹ (right ((done ▹ (done ▹ done)) ▹✗ no_first (no_name_begins c (ap (one_of_kinds property_name_kinds) k))) ▹ done)

    pub no_value : NoName text c f p.prev_token_end → Fails rule (Lex text) behind_item end (with_value c f) p.prev_token_end
    no_value n = fails_node inside_full (no_first n)

    pub no_method : one_of_kinds (Star ∷ []) p.token.kind ≡ false → NoAsyncMethod text c f p.prev_token_end → NoName text c f p.prev_token_end → Fails rule (Lex text) behind_item end (with_method c f) p.prev_token_end
    no_method i k n = fails_node inside_full (without_star i k ▹✗ no_first n)

  -- ---- behind its name

  module _ {q : Parser} (c : Bool) {id : NodeId} (x : NameRead text f c p q id) where
    name_taken : WholeTaken text f (name c false f) p q id
    name_taken = record { at = x.at; same = x.same; further = x.further; label = x.label; slots = x.slots; pass = x.pass; walked = x.walked; verdict = x.verdict; holds = x.holds; keeps = x.keeps }

    pub name_part : {b : G} → Partway text f (name c false f ▸ b) b p q [] (Some id ∷ [])
    name_part = whole_part name_taken []

    pub no_value_behind : one_of_kinds (Colon ∷ []) q.token.kind ≡ false → Fails rule (Lex text) behind_item end (with_value c f) p.prev_token_end
    unfolding covers apart
    no_value_behind n = fails_node inside_full (part_under name_part ⟶✗ fails_at x.at (value_left f) (Colon ∷ []) refl n)

    pub no_method_behind : one_of_kinds (Star ∷ []) p.token.kind ≡ false → NoAsyncMethod text c f p.prev_token_end → one_of_kinds (LParen ∷ []) q.token.kind ≡ false → Fails rule (Lex text) behind_item end (with_method c f) p.prev_token_end
    unfolding covers apart
    no_method_behind i k n = fails_node inside_full (without_star c i k ▹✗ (part_under name_part ⟶✗ fails_at x.at (method_left Method false false f) (LParen ∷ []) refl n))

    pub method_part : one_of_kinds (Star ∷ []) p.token.kind ≡ false → NoAsyncMethod text c f p.prev_token_end → Partway text f (plain_method nothing c false f) (method_left Method false false f) p q [] (Some id ∷ [])
    method_part i k = part_from (without_star c i k) name_part
