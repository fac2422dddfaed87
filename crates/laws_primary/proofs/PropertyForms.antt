-- Which form of a property stands here (ECMA-262, 13.2.5), and how it is read from its beginning.
use Rattle.std.proofs.Common.{ℕ, ◌≡◌, Bool, true, false, not, ◌&&◌, ◌||◌, List, [], ◌∷◌, Some, None, refl, sym, ap, subst, ◌∙◌}
use Rattle.std.specs.Prelude.{Result, Ok}
use Rattle.std.proofs.lemmas.Bool.{false≢true, or_parts}
use Rattle.js_base.specs.Kinds.{same_kind, one_of_kinds}
use Rattle.js_base.specs.KindSets.{binding_identifier_kinds, identifier_name_kinds}
use Rattle.js_base.specs.Texts.{words}
use Rattle.js_base.specs.declared.kind.Kind.{Kind}
use Rattle.js_base.specs.declared.kind.Kind.TheVariants.{Async, Colon, Dot3, Get, LBrack, LParen, Set, Star}
use Rattle.js_base.specs.declared.token.Token.{Token}
use Rattle.js_grammar.specs.Grammar.{Look, nothing}
use Rattle.js_grammar.specs.Parsing.{still, Goes, Fails}
use Rattle.js_grammar.specs.Productions.{Flags, at, Property}
use Rattle.js_grammar.specs.Table.{rule, getter, plain_method, setter}
use Rattle.js_grammar.specs.Trees.{Label, end}
use Rattle.js_grammar.proofs.Looks.{covers, covered, apart}
use Rattle.js_grammar.proofs.Calculus.{◌▹✗◌, done, fails_alt, fails_node, fails_rule, inside_full, left, right}
use Rattle.laws_shared.specs.js_tree.declared.id.NodeId.{NodeId}
use Rattle.laws_shared.specs.js_cursor.Parsers.{Parser}
use Rattle.laws_primary.specs.Objects.{Begins, NoAsyncMethod, accessors, begins_async, methods, ReadsMethod, ends_name_kinds, form_of, getter_of, method_left, named, setter_of, shorthand, with_method}
use Rattle.laws_primary.specs.PropertyNames.{NameRead, NoName, NoNames}
use Rattle.laws_shared.specs.js_cursor.declared.stop.Stop.{Stop}
use Rattle.laws_primary.specs.declared.forms.PropertyName.{PropertyName}
use Rattle.laws_primary.specs.Spreads.{PartOutcome, spread}
use Rattle.laws_primary.proofs.Wholes.{part_by}
use Rattle.laws_shared.proofs.Escapes.{keyword_is}
use Rattle.laws_shared.specs.declared.nested.MethodForm.{MethodForm}
use Rattle.laws_shared.specs.declared.nested.MethodForm.TheVariants.{Method, Getter, Setter}
use Rattle.laws_shared.specs.Arguments.{NoItem, Partway, behind_item}
use Rattle.laws_shared.specs.Lexemes.{Lex, may_name, keyword_kind}
use Rattle.laws_shared.specs.Moves.{LeafTaken, MadeHere, Moved, Moves, plain_label}
use Rattle.laws_shared.specs.Nesting.{room}
use Rattle.js_base.specs.declared.span.Span.{Span}
use Rattle.laws_shared.specs.js_tree.declared.kind.NodeKind.TheVariants as node
use Rattle.laws_shared.specs.js_tree.declared.op.Op.TheVariants as op_made
use Rattle.laws_primary.proofs.Members.{name_taken}
use Rattle.laws_primary.proofs.PropertyNames.{literal_kinds, word_outcome}
use Rattle.laws_shared.specs.States.{At}
use Rattle.laws_shared.proofs.Moving.{beside_nodes}
use Rattle.laws_shared.proofs.Parts.{part_from, part_sign, parts}
use Rattle.laws_shared.proofs.Paths.{◌⟶✗◌, token}
use Rattle.laws_shared.proofs.Signs.{plain_sign}
use Rattle.laws_shared.specs.Stands.{StandsHere}
use Rattle.laws_primary.proofs.Methods.{no_first}
use Rattle.laws_primary.proofs.Properties.{behind_shorthand, forms, kinds_apart, name_part, no_async_line, no_forms, no_getter, no_method, no_name_begins, no_setter, no_named_shorthand, no_shorthand, no_spread, no_value, only_getters, only_method, only_methods, only_named, only_setters, only_shorthand, only_spread, property_name_kinds, none_of_line, with_star, word_apart}
use Rattle.laws_primary.proofs.WordProperties.{name_async, no_accessor, no_dots, no_methods, no_star, no_values, not_alone, one_begins}

abbrev read_words : Look
read_words k w e = one_of_kinds identifier_name_kinds k

-- no word that is read is none of these
no_word_of : (ls : List Kind) → covers (λ k w e. one_of_kinds ls k) read_words ≡ true → (k : Kind) → one_of_kinds identifier_name_kinds k ≡ false → one_of_kinds ls k ≡ false
no_word_of ls d k h = go (one_of_kinds ls k) refl
  where
    go : (b : Bool) → one_of_kinds ls k ≡ b → one_of_kinds ls k ≡ false
    go true e = absurd (false≢true (sym h ∙ covered (λ k w e. one_of_kinds ls k) read_words d k false false e))
    go false e = e

-- what isn't of a longer list
no_sign_of : (a b k : Kind) → one_of_kinds (a ∷ b ∷ []) k ≡ false → (one_of_kinds (a ∷ []) k ≡ false) × (one_of_kinds (b ∷ []) k ≡ false)
no_sign_of a b k h = let z = or_parts (same_kind a k) (same_kind b k || false) h in (ap (λ (x : Bool). x || false) z.0, z.1)

pub no_kind_of : (a b k : Kind) (ks : List Kind) → one_of_kinds (a ∷ b ∷ ks) k ≡ false → (one_of_kinds (a ∷ []) k ≡ false) × (one_of_kinds (b ∷ []) k ≡ false) × (one_of_kinds ks k ≡ false)
no_kind_of a b k ks h = let z = or_parts (same_kind a k) _ h in let y = or_parts (same_kind b k) _ z.1 in (ap (λ (x : Bool). x || false) z.0, ap (λ (x : Bool). x || false) y.0, y.1)

module _ {text : List ℕ} {f : Flags} {p : Parser} (a : At text f p) where
  pub dots_stand : p.token.kind ≡ Dot3 → StandsHere p Dot3 true
  unfolding words
  dots_stand k = (k, plain_sign Dot3 a k refl refl refl)

  pub star_stands : p.token.kind ≡ Star → StandsHere p Star true
  unfolding words
  star_stands k = (k, plain_sign Star a k refl refl refl)

  -- a spread
  pub dots_only : p.token.kind ≡ Dot3 → Goes rule (Lex text) behind_item end (rule (at Property f)) p.prev_token_end (spread f) p.prev_token_end (λ us. us) (still 0)
  dots_only k =
      let i = ap (one_of_kinds property_name_kinds) k in
      let s = ap (one_of_kinds (Star ∷ [])) k in
      only_spread f (no_shorthand a (ap (one_of_kinds binding_identifier_kinds) k)) (λ c. no_forms f c (no_value a c (no_name_begins a c i)) (no_method a c s (no_async_line a c (ap (one_of_kinds (Async ∷ [])) k)) (no_name_begins a c i)) (no_getter a c (ap (one_of_kinds (Get ∷ [])) k)) (no_setter a c (ap (one_of_kinds (Set ∷ [])) k)))

  -- a name that is no word
  module _ (w : one_of_kinds identifier_name_kinds p.token.kind ≡ false) (h : one_of_kinds (Dot3 ∷ Star ∷ []) p.token.kind ≡ false) where
    no_reference : one_of_kinds binding_identifier_kinds p.token.kind ≡ false
    unfolding covers
    no_reference = no_word_of binding_identifier_kinds refl p.token.kind w

    no_get : one_of_kinds (Get ∷ []) p.token.kind ≡ false
    unfolding covers
    no_get = no_word_of (Get ∷ []) refl p.token.kind w

    no_set : one_of_kinds (Set ∷ []) p.token.kind ≡ false
    unfolding covers
    no_set = no_word_of (Set ∷ []) refl p.token.kind w

    pub other_star : one_of_kinds (Star ∷ []) p.token.kind ≡ false
    other_star = (no_sign_of Dot3 Star p.token.kind h).1

    pub other_async : (c : Bool) → NoAsyncMethod text c f p.prev_token_end
    unfolding covers
    other_async c = no_async_line a c (no_word_of (Async ∷ []) refl p.token.kind w)

    other_dots : one_of_kinds (Dot3 ∷ []) p.token.kind ≡ false
    other_dots = (no_sign_of Dot3 Star p.token.kind h).0

    no_other : (c : Bool) → NoName text c f p.prev_token_end → Fails rule (Lex text) behind_item end (forms c f) p.prev_token_end
    no_other c n = no_forms f c (no_value a c n) (no_method a c other_star (other_async c) n) (no_getter a c no_get) (no_setter a c no_set)

    pub other_named : {q : Parser} {id : NodeId} (c : Bool) → NameRead text f c p q id → Goes rule (Lex text) behind_item end (rule (at Property f)) p.prev_token_end (named c f) p.prev_token_end (λ us. us) (still 0)
    other_named c x = only_named f c (no_shorthand a no_reference) (no_spread a other_dots) (no_getter a c no_get) (no_setter a c no_set) (no_other (not c) x.other)

    pub no_other_name : NoNames text f p.prev_token_end → NoItem text (at Property f) p.prev_token_end
    no_other_name n = fails_rule {X' = behind_item} (λ l cs vs y d. d) (none_of_line f (no_shorthand a no_reference) (λ c. no_other c (n c)) (no_spread a other_dots))

  -- a generator method
  module _ {q : Parser} (k : p.token.kind ≡ Star) (e : p.token.escaped ≡ false) (m : Moved text f p q) where
    no_starred : (c : Bool) → NoName text c f q.prev_token_end → Fails rule (Lex text) behind_item end (with_method c f) p.prev_token_end
    no_starred c n = fails_node inside_full (with_star a c k ▹✗ (token Star a k e refl m ⟶✗ (done ▹✗ no_first n)))

    no_first_name : (c : Bool) → NoName text c f p.prev_token_end
    no_first_name c = no_name_begins a c (ap (one_of_kinds property_name_kinds) k)

    pub starred_part : {r : Parser} {id : NodeId} (c : Bool) → NameRead text f c q r id → Partway text f (plain_method nothing c false f) (method_left Method false true f) p r [] (Some id ∷ [])
    starred_part c x = part_from (with_star a c k) (parts (part_sign Star a k e refl m) (part_from done (name_part m.at c x)))

    pub starred_only : {r : Parser} {id : NodeId} (c : Bool) → NameRead text f c q r id → Goes rule (Lex text) behind_item end (rule (at Property f)) p.prev_token_end (with_method c f) p.prev_token_end (λ us. us) (still 0)
    starred_only c x = only_method f c (no_shorthand a (ap (one_of_kinds binding_identifier_kinds) k)) (no_spread a (ap (one_of_kinds (Dot3 ∷ [])) k)) (λ d. no_value a d (no_first_name d)) (λ d. no_getter a d (ap (one_of_kinds (Get ∷ [])) k)) (λ d. no_setter a d (ap (one_of_kinds (Set ∷ [])) k)) (no_starred (not c) x.other)

    pub no_starred_name : NoNames text f q.prev_token_end → NoItem text (at Property f) p.prev_token_end
    no_starred_name n = fails_rule {X' = behind_item} (λ l cs vs y d. d) (none_of_line f (no_shorthand a (ap (one_of_kinds binding_identifier_kinds) k)) (λ c. no_forms f c (no_value a c (no_first_name c)) (no_starred c (n c)) (no_getter a c (ap (one_of_kinds (Get ∷ [])) k)) (no_setter a c (ap (one_of_kinds (Set ∷ [])) k))) (no_spread a (ap (one_of_kinds (Dot3 ∷ [])) k)))

  -- ---- a word

  module _ {q : Parser} (r : one_of_kinds identifier_name_kinds p.token.kind ≡ true) (m : Moved text f p q) where
    -- an accessor
    no_shorthand_so : one_of_kinds behind_shorthand q.token.kind ≡ false → Fails rule (Lex text) behind_item end (shorthand f) p.prev_token_end
    no_shorthand_so h = go (may_name f.yield_ f.await_ p.token.kind) refl
      where
        go : (b : Bool) → may_name f.yield_ f.await_ p.token.kind ≡ b → Fails rule (Lex text) behind_item end (shorthand f) p.prev_token_end
        go true i = not_alone a i m h
        go false i = no_named_shorthand a i

    pub accessor_only : (form : MethodForm) → Begins form p.token.kind × (one_of_kinds ends_name_kinds q.token.kind ≡ false) → Goes rule (Lex text) behind_item end (rule (at Property f)) p.prev_token_end (accessors form f) p.prev_token_end (λ us. us) (still 0)
    accessor_only Method z = absurd z.0
    accessor_only Getter z =
        let h = no_kind_of Colon LParen q.token.kind behind_shorthand z.1 in
        only_getters f (no_shorthand_so h.2) (no_spread a (no_dots a r m)) (no_values a r m h.0) (no_methods a r m (λ c. no_async_line a c (ap (one_of_kinds (Async ∷ [])) z.0)) h.1) (λ c. no_setter a c (ap (one_of_kinds (Set ∷ [])) z.0))
    accessor_only Setter z =
        let h = no_kind_of Colon LParen q.token.kind behind_shorthand z.1 in
        only_setters f (no_shorthand_so h.2) (no_spread a (no_dots a r m)) (no_values a r m h.0) (no_methods a r m (λ c. no_async_line a c (ap (one_of_kinds (Async ∷ [])) z.0)) h.1) (λ c. no_getter a c (ap (one_of_kinds (Get ∷ [])) z.0))

    -- the `async` of a method
    pub async_only : p.token.kind ≡ Async → one_of_kinds ends_name_kinds q.token.kind ≡ false → Goes rule (Lex text) behind_item end (rule (at Property f)) p.prev_token_end (methods f) p.prev_token_end (λ us. us) (still 0)
    async_only k z =
        let h = no_kind_of Colon LParen q.token.kind behind_shorthand z in
        only_methods f (no_shorthand_so h.2) (no_spread a (no_dots a r m)) (no_values a r m h.0) (λ c. no_getter a c (ap (one_of_kinds (Get ∷ [])) k)) (λ c. no_setter a c (ap (one_of_kinds (Set ∷ [])) k))

    -- its name alone
    pub shorthand_only : form_of (keyword_kind p.token) q.token.kind ≡ None → begins_async (keyword_kind p.token) q.token.kind q.token.is_on_new_line ≡ false → one_of_kinds (Colon ∷ LParen ∷ []) q.token.kind ≡ false → Goes rule (Lex text) behind_item end (rule (at Property f)) p.prev_token_end (shorthand f) p.prev_token_end (λ us. us) (still 0)
    shorthand_only n j h =
        let z = no_sign_of Colon LParen q.token.kind h in
        only_shorthand f (λ c. let y = no_accessor a r m n c in no_forms f c (no_values a r m z.0 c) (no_methods a r m (name_async a r m j) z.1 c) y.0 y.1) (no_spread a (no_dots a r m))

    -- its name with something behind it
    pub word_only : form_of (keyword_kind p.token) q.token.kind ≡ None → begins_async (keyword_kind p.token) q.token.kind q.token.is_on_new_line ≡ false → (may_name f.yield_ f.await_ p.token.kind && not (one_of_kinds (Colon ∷ LParen ∷ []) q.token.kind)) ≡ false → NoName text true f p.prev_token_end → Goes rule (Lex text) behind_item end (rule (at Property f)) p.prev_token_end (named false f) p.prev_token_end (λ us. us) (still 0)
    unfolding apart
    word_only n j h o =
        let y = no_accessor a r m n in
        only_named f false no_short (no_spread a (no_dots a r m)) (y false).0 (y false).1 (no_forms f true (no_value a true o) (no_method a true (no_star a r m) (name_async a r m j true) o) (y true).0 (y true).1)
      where
        go : (b c : Bool) → may_name f.yield_ f.await_ p.token.kind ≡ b → one_of_kinds (Colon ∷ LParen ∷ []) q.token.kind ≡ c → (b && not c) ≡ false → Fails rule (Lex text) behind_item end (shorthand f) p.prev_token_end
        go true true i j z = not_alone a i m (kinds_apart (Colon ∷ LParen ∷ []) behind_shorthand refl q.token.kind j)
        go true false i j z = absurd (false≢true (sym z))
        go false c i j z = no_named_shorthand a i

        no_short : Fails rule (Lex text) behind_item end (shorthand f) p.prev_token_end
        no_short = go (may_name f.yield_ f.await_ p.token.kind) (one_of_kinds (Colon ∷ LParen ∷ []) q.token.kind) refl refl h

-- ---- an accessor, from its name on

module _ {text : List ℕ} {f : Flags} {p q : Parser} (a : At text f p) (e : p.token.escaped ≡ false) (m : Moved text f p q) where
  get_part : {r : Parser} {id : NodeId} → p.token.kind ≡ Get → (c : Bool) → NameRead text f c q r id → Partway text f (getter c false f) (method_left Getter false false f) p r [] (Some id ∷ [])
  get_part k c x = parts (part_sign Get a k e refl m) (name_part m.at c x)

  set_part : {r : Parser} {id : NodeId} → p.token.kind ≡ Set → (c : Bool) → NameRead text f c q r id → Partway text f (setter c false f) (method_left Setter false false f) p r [] (Some id ∷ [])
  set_part k c x = parts (part_sign Set a k e refl m) (name_part m.at c x)

  no_get_named : p.token.kind ≡ Get → (c : Bool) → NoName text c f q.prev_token_end → Fails rule (Lex text) behind_item end (getter_of c f) p.prev_token_end
  no_get_named k c n = fails_node inside_full (token Get a k e refl m ⟶✗ no_first n)

  no_set_named : p.token.kind ≡ Set → (c : Bool) → NoName text c f q.prev_token_end → Fails rule (Lex text) behind_item end (setter_of c f) p.prev_token_end
  no_set_named k c n = fails_node inside_full (token Set a k e refl m ⟶✗ no_first n)

  pub no_accessor_named : (form : MethodForm) → Begins form p.token.kind → NoNames text f q.prev_token_end → Fails rule (Lex text) behind_item end (accessors form f) p.prev_token_end
  no_accessor_named Method k n = absurd k
  no_accessor_named Getter k n = fails_alt (no_get_named k false (n false)) (no_get_named k true (n true))
  no_accessor_named Setter k n = fails_alt (no_set_named k false (n false)) (no_set_named k true (n true))

  -- one of the two remains, behind its name
  get_only : p.token.kind ≡ Get → (c : Bool) → NoName text (not c) f q.prev_token_end → Goes rule (Lex text) behind_item end (accessors Getter f) p.prev_token_end (getter_of c f) p.prev_token_end (λ us. us) (still 0)
  get_only k false n = left (no_get_named k true n)
  get_only k true n = right (no_get_named k false n)

  set_only : p.token.kind ≡ Set → (c : Bool) → NoName text (not c) f q.prev_token_end → Goes rule (Lex text) behind_item end (accessors Setter f) p.prev_token_end (setter_of c f) p.prev_token_end (λ us. us) (still 0)
  set_only k false n = left (no_set_named k true n)
  set_only k true n = right (no_set_named k false n)

  pub accessor_read : {r : Parser} {start : ℕ} (w : Parser) (v : Result NodeId Stop) (form : MethodForm) (n : PropertyName) → start ≡ p.token.span.start → Begins form p.token.kind → NameRead text f n.computed q r n.key → ReadsMethod start n form false false r w v → PartOutcome text f (accessors form f) p w v
  accessor_read w v Method n s k x y = absurd k
  accessor_read w v Getter n s k x y = part_by text f p w v (get_only k n.computed x.other) (y text f p _ a s (get_part k n.computed x))
  accessor_read w v Setter n s k x y = part_by text f p w v (set_only k n.computed x.other) (y text f p _ a s (set_part k n.computed x))

-- ---- what the code knows of the word and of what stands behind it

pub one_form : {w b k j : Kind} (form : MethodForm) → w ≡ k → b ≡ j → form_of w b ≡ Some form → Begins form k × (one_of_kinds ends_name_kinds j ≡ false)
one_form {w} {b} form e h n = let z = one_begins w b form n in (subst (λ (k : Kind). Begins form k) e z.0, subst (λ (k : Kind). one_of_kinds ends_name_kinds k ≡ false) h z.1)

pub begins_plain : (t : Token) (form : MethodForm) → Begins form (keyword_kind t) → Begins form t.kind × (t.escaped ≡ false)
begins_plain t Method k = absurd k
begins_plain t Getter k = keyword_is t k refl
begins_plain t Setter k = keyword_is t k refl

pub no_form : {w b k j : Kind} → w ≡ k → b ≡ j → form_of w b ≡ None → form_of k j ≡ None
no_form {w} {b} {k} {j} e h n = subst (λ (x : Kind). form_of x j ≡ None) e (subst (λ (x : Kind). form_of w x ≡ None) h n)

pub no_value_or_method : (x y : Bool) → (x && not y) ≡ true → (x ≡ true) × (y ≡ false)
no_value_or_method true false h = (refl, refl)
no_value_or_method true true h = absurd (false≢true h)
no_value_or_method false y h = absurd (false≢true h)

pub no_shorthand_here : (y t : Bool) {w b k j : Kind} → w ≡ k → b ≡ j → (may_name y t w && not (one_of_kinds (Colon ∷ LParen ∷ []) b)) ≡ false → (may_name y t k && not (one_of_kinds (Colon ∷ LParen ∷ []) j)) ≡ false
no_shorthand_here y t {w} {b} {k} {j} e h n = subst (λ (x : Kind). (may_name y t x && not (one_of_kinds (Colon ∷ LParen ∷ []) j)) ≡ false) e (subst (λ (x : Kind). (may_name y t w && not (one_of_kinds (Colon ∷ LParen ∷ []) x)) ≡ false) h n)

-- a word that was passed, and its node
module _ {text : List ℕ} {f : Flags} {p q : Parser} (a : At text f p) (r : one_of_kinds identifier_name_kinds p.token.kind ≡ true) (ms : Moves p q) where
  pub word_name : {u : Parser} {id : NodeId} {s : Span} → s ≡ p.token.span → MadeHere (plain_label node.IdentifierName op_made.None s) [] q u id → NameRead text f false p u id
  unfolding apart
  word_name {u} {id} {s} h n = word_outcome a (λ k d. bracket_is (sym (word_apart (LBrack ∷ []) refl p.token.kind r) ∙ ap (one_of_kinds (LBrack ∷ [])) k)) (word_apart literal_kinds refl p.token.kind r) u (Ok id) (name_taken text f p u (Ok id) a r (λ t g b. leaf t g b))
    where
      bracket_is : false ≡ one_of_kinds (LBrack ∷ []) LBrack → ⊥
      bracket_is h = false≢true h

      leaf : (t : List ℕ) (g : Flags) → At t g p → LeafTaken node.IdentifierName op_made.None t g p u id
      leaf t g b = record { mid = q; moved = ms t g b; made = subst (λ (v : Span). MadeHere (plain_label node.IdentifierName op_made.None v) [] q u id) h n }

pub leaf_at : {text : List ℕ} {f : Flags} {q u : Parser} {id : NodeId} {l : Label} → At text f q → MadeHere l [] q u id → At text f u × (u.prev_token_end ≡ q.prev_token_end) × (room u ≡ room q)
leaf_at {text} {f} {q} {u} a n = (subst (λ (z : Parser). At text f z) (sym n.stays) (beside_nodes u.nodes a), ap (λ (z : Parser). z.prev_token_end) n.stays, ap (λ (z : Parser). room z) n.stays)
