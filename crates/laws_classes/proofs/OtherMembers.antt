-- Members whose names are strings, numbers, private names, or stand in brackets (ECMA-262, 15.7).
use Rattle.std.proofs.Common.{ℕ, ◌≡◌, Bool, true, false, not, ◌&&◌, ◌||◌, cond, List, [], ◌∷◌, Some, IsTrue, refl, sym, ap, ap₂, subst, arith, ◌∙◌}
use Rattle.std.specs.Prelude.{Result}
use Rattle.std.proofs.lemmas.Bool.{false≢true, and_parts, or_parts}
use Rattle.js_base.specs.declared.kind.Kind.{Kind}
use Rattle.js_base.specs.declared.kind.Kind.TheVariants.{Accessor, Async, At as at_sign, Eq, Get, LCurly, LParen, Semicolon, Set, Star, Static, Str}
use Rattle.js_base.specs.Kinds.{same_kind, one_of_kinds}
use Rattle.js_base.specs.KindSets.{identifier_name_kinds}
use Rattle.js_base.specs.Texts.{words}
use Rattle.js_grammar.specs.Trees.{Slots, end, tree, accessor_property, constructor_op, method_definition, method_op, no_op, of}
use Rattle.js_grammar.specs.Grammar.{Lexeme, Lexemes, Look, here, is, kept, next, nothing, seen, Takes, ◌◇◌, is_empty_slot, is_left, is_look, is_nothing, is_right, is_seq, is_such, is_text, ◌▸◌}
use Rattle.js_grammar.specs.Insertion.{after_name, begins_name, by_field}
use Rattle.js_grammar.specs.Lexed.{Lexes}
use Rattle.js_grammar.specs.Lexemes.{is_word}
use Rattle.js_grammar.specs.Parsing.{plain, full, still, Admits, Goes, Reads, Fails}
use Rattle.js_grammar.specs.Productions.{G, Flags, field_of, no_newline, slot, tok, Init}
use Rattle.js_grammar.specs.Productions.{sym as symbol}
use Rattle.js_grammar.specs.Table.{rule, rule_of, field, name, named_constructor, not_constructor, plain_method}
use Rattle.js_grammar.proofs.Finding.{either_of}
use Rattle.js_grammar.proofs.Looks.{covers, covered, apart}
use Rattle.js_grammar.proofs.Calculus.{closes, ◌▹◌, ◌▹✗◌, done, fails_alt, fails_ended, fails_look, fails_never, fails_node, fails_nothing, here_at, inside_plain, left, part_fails, passes_none, reads_empty_slot, right, stay}
use Rattle.laws_primary.specs.js_tree.declared.id.NodeId.{NodeId}
use Rattle.laws_primary.specs.js_cursor.Parsers.{Parser}
use Rattle.laws_primary.specs.Objects.{method_left}
use Rattle.laws_primary.specs.declared.forms.PropertyName.{PropertyName}
use Rattle.laws_primary.specs.js_cursor.declared.stop.Stop.{Stop}
use Rattle.laws_primary.specs.js_tree.declared.op.MethodKind.TheVariants as method_kind
use Rattle.laws_primary.specs.laws_shared.Answers.{Stops}
use Rattle.laws_classes.proofs.NameLexemes.{name_lexeme}
use Rattle.laws_classes.specs.declared.forms.FieldKind.TheVariants as field_kind
use Rattle.laws_classes.specs.Methods.{ReadsMethod}
use Rattle.laws_primary.proofs.laws_shared.Moving.{same_itself, stops_behind, stops_so}
use Rattle.laws_primary.proofs.laws_shared.Verdicts.{grown_then}
use Rattle.laws_primary.proofs.Properties.{kinds_apart}
use Rattle.laws_primary.specs.laws_shared.Arguments.{Partway}
use Rattle.laws_primary.specs.laws_shared.Lexemes.{Lex, nowhere}
use Rattle.laws_primary.specs.laws_shared.States.{At}
use Rattle.laws_primary.specs.laws_shared.declared.nested.MethodForm.TheVariants.{Method}
use Rattle.laws_primary.proofs.laws_shared.Ahead.{pass_over}
use Rattle.laws_primary.proofs.laws_shared.Here.{kind_here}
use Rattle.laws_primary.proofs.laws_shared.Parts.{part_from}
use Rattle.laws_primary.proofs.laws_shared.Paths.{◌⟶✗◌, fails_at, not_here, skips, walked_one}
use Rattle.laws_primary.proofs.laws_shared.Signs.{other_kind}
use Rattle.laws_primary.proofs.Methods.{no_first}
use Rattle.laws_classes.specs.Elements.{Begun, ElementOutcome, behind_element, element_flags, element_slots}
use Rattle.laws_classes.specs.Fields.{Begins, FieldNamed, ReadsField, field_parts}
use Rattle.laws_classes.specs.Members.{accessor_line, constructors, field_line, forms, getter_line, members, method_line, name_kinds, prefix_kinds, setter_line, special_firsts}
use Rattle.laws_classes.specs.Names.{KeyRead, NoKey, NoKeys}
use Rattle.laws_classes.proofs.Elements.{begun_fails, element_by, element_part, no_decorator, no_element, none_kept}
use Rattle.laws_classes.proofs.Fields.{OneTree, kept_between, name_is_tree}
use Rattle.laws_classes.proofs.Members.{No, Quiet, behind_look, behind_word, no_member, one_of_two, quiet_fails, quiet_named, quiet_nothing, quiet_test, quiet_unnamed}
use Rattle.laws_classes.proofs.NameTests.{Tested}
use Rattle.laws_classes.proofs.Names.{key_part, key_path}

none_of : (ls : List Kind) → covers (λ k w e. one_of_kinds ls k) (λ k w e. one_of_kinds prefix_kinds k) ≡ true → (k : Kind) → one_of_kinds prefix_kinds k ≡ false → one_of_kinds ls k ≡ false
none_of ls d k h = go (one_of_kinds ls k) refl
  where
    go : (b : Bool) → one_of_kinds ls k ≡ b → one_of_kinds ls k ≡ false
    go true e = absurd (false≢true (sym h ∙ covered (λ k w e. one_of_kinds ls k) (λ k w e. one_of_kinds prefix_kinds k) d k false false e))
    go false e = e

pub test_reads : {text : List ℕ} {s : ℕ} (d : Bool) → Tested text false s → Reads rule (Lex text) (plain full) end (cond d nothing not_constructor) s s (λ us. us) (still 0)
test_reads true z = stay
test_reads false z = z.0

-- what none of `special_firsts` is
module _ {text : List ℕ} {f : Flags} {p : Parser} (a : At text f p) (n : one_of_kinds special_firsts p.token.kind ≡ false) where
  pub no_prefix_first : one_of_kinds prefix_kinds p.token.kind ≡ false
  no_prefix_first = (or_parts (same_kind Str p.token.kind) (one_of_kinds prefix_kinds p.token.kind) n).1

  pub no_word_first : one_of_kinds (Str ∷ identifier_name_kinds) p.token.kind ≡ false
  no_word_first = ap₂ (λ (a b : Bool). a || b) (or_parts (same_kind Str p.token.kind) (one_of_kinds prefix_kinds p.token.kind) n).0 (or_parts (same_kind Star p.token.kind) (one_of_kinds identifier_name_kinds p.token.kind) no_prefix_first).1

-- neither a word nor a string stands here
module _ {text : List ℕ} {f : Flags} {p : Parser} (a : At text f p) (n : one_of_kinds (Str ∷ identifier_name_kinds) p.token.kind ≡ false) where
  abbrev word_or_string : Look
  word_or_string k w e = is_word k || same_kind Str k

  words_are : covers word_or_string (λ k w e. one_of_kinds (Str ∷ identifier_name_kinds) k) ≡ true
  unfolding covers words
  words_are = refl

  none_stands : (y : Lexeme) → Lex text p.prev_token_end y → seen word_or_string y ≡ false
  unfolding apart
  none_stands y l = go (seen word_or_string y) refl
    where
      go : (b : Bool) → seen word_or_string y ≡ b → seen word_or_string y ≡ false
      go true e = absurd (not_here a (Str ∷ identifier_name_kinds) refl n y l (covered word_or_string (λ k w e. one_of_kinds (Str ∷ identifier_name_kinds) k) words_are y.kind y.newline y.escaped e))
      go false e = e

  not_named : Reads rule (Lex text) (plain full) end not_constructor p.prev_token_end p.prev_token_end (λ us. us) (still 0)
  not_named = record { passes = passes_none; sound = λ us vs k ls rest l w d. to us vs k ls rest l d; only = λ ts vs k ls rest l d e. from ts vs k ls rest l d }
    where
      to : (us vs : Slots) (k : ℕ) (ls rest : Lexemes) → Lexes (Lex text) p.prev_token_end ls → Takes rule nothing end us p.prev_token_end ls vs k rest → Takes rule not_constructor end us p.prev_token_end ls vs k rest
      to us vs k ls rest l is_nothing = is_left (is_look (ap not (none_stands (here ls) (here_at (Lex text) ls l))))

      from : (ts vs : Slots) (k : ℕ) (ls rest : Lexemes) → Lexes (Lex text) p.prev_token_end ls → Takes rule not_constructor end ts p.prev_token_end ls vs k rest → (us : Slots) × (more : Lexemes) × (ts ≡ us) × Lexes (Lex text) p.prev_token_end more × Takes rule nothing end us p.prev_token_end more vs k rest × (ls ≡ more)
      from ts vs k ls rest l (is_left (is_look q)) = (ts, ls, refl, l, is_nothing, refl)
      from ts vs k ls rest l (is_right (is_text q)) = (ts, ls, refl, l, is_nothing, refl)

  pub other_tested : Tested text false p.prev_token_end
  other_tested = (not_named, no_first (fails_look word_or_string (λ y l h. false≢true (sym (none_stands y l) ∙ h))))

module _ {text : List ℕ} {f : Flags} {first p : Parser} (st : Bool) (af : At text f first) (b : Begun st text f first p) (a : At text f p) (n : one_of_kinds prefix_kinds p.token.kind ≡ false) (i : one_of_kinds name_kinds p.token.kind ≡ true) where
  -- no decorator begins here
  no_sign : one_of_kinds (at_sign ∷ []) p.token.kind ≡ false
  unfolding apart
  no_sign = kinds_apart name_kinds (at_sign ∷ []) refl p.token.kind i

  getters_fail : (c : Bool) → No text first.prev_token_end (getter_line st c f)
  unfolding covers apart
  getters_fail c = no_element st p method_definition (of Get) (element_flags st c) af b no_sign (no_first (fails_at a (tok Get) (Get ∷ []) refl (none_of (Get ∷ []) refl p.token.kind n)))

  setters_fail : (c : Bool) → No text first.prev_token_end (setter_line st c f)
  unfolding covers apart
  setters_fail c = no_element st p method_definition (of Set) (element_flags st c) af b no_sign (no_first (fails_at a (tok Set) (Set ∷ []) refl (none_of (Set ∷ []) refl p.token.kind n)))

  accessors_fail : (c : Bool) → No text first.prev_token_end (accessor_line st c f)
  unfolding covers apart
  accessors_fail c = no_element st p accessor_property no_op (element_flags st c) af b no_sign (no_first (fails_at a (tok Accessor) (Accessor ∷ []) refl (none_of (Accessor ∷ []) refl p.token.kind n)))

  -- ---- methods

  module _ {t : G} (quiet : Quiet t) (c : Bool) where
    star_fails : (g : G) → Fails rule (Lex text) (plain full) end (nothing ▸ tok Star ▸ g) p.prev_token_end
    unfolding covers apart
    star_fails g = done ▹✗ no_first (fails_at a (tok Star) (Star ∷ []) refl (none_of (Star ∷ []) refl p.token.kind n))

    async_fails : (g : G) → Fails rule (Lex text) (plain full) end ((tok Async ▸ no_newline) ▸ g) p.prev_token_end
    unfolding covers apart
    async_fails g = no_first (no_first (fails_at a (tok Async) (Async ∷ []) refl (none_of (Async ∷ []) refl p.token.kind n)))

    unparametered : Fails rule (Lex text) (plain full) end (name c true f ▸ method_left Method false false f) p.prev_token_end → Fails rule (Lex text) (plain full) end (plain_method t c true f) p.prev_token_end
    unparametered m = fails_alt (fails_alt (done ▹✗ (done ▹✗ quiet_fails quiet m)) (star_fails _)) (fails_alt (async_fails _) (async_fails _))

    untested : Fails rule (Lex text) (plain full) end t p.prev_token_end → Fails rule (Lex text) (plain full) end (plain_method t c true f) p.prev_token_end
    untested m = fails_alt (fails_alt (done ▹✗ (done ▹✗ no_first m)) (star_fails _)) (fails_alt (async_fails _) (async_fails _))

    only_name : Reads rule (Lex text) (plain full) end t p.prev_token_end p.prev_token_end (λ us. us) (still 0) → Goes rule (Lex text) (plain full) end (plain_method t c true f) p.prev_token_end (name c true f ▸ method_left Method false false f) p.prev_token_end (λ us. us) (still 0)
    only_name r = left (fails_alt (async_fails _) (async_fails _)) ▹ (left (star_fails _) ▹ (done ▹ (done ▹ pass_over r)))

  no_constructors : Fails rule (Lex text) (plain full) end (plain_method named_constructor false true f) p.prev_token_end → (u : Bool) → Begun u text f first p → No text first.prev_token_end (constructors u f)
  no_constructors m true g = fails_never
  no_constructors m false g = no_element false p method_definition constructor_op (element_flags false false) af g no_sign m

  -- a line of a name that isn't derived
  no_method_named : (c : Bool) → NoKey text c f p.prev_token_end → No text first.prev_token_end (method_line st c f)
  no_method_named c m = no_element st p method_definition method_op (element_flags st c) af b no_sign (unparametered (quiet_test (st || c)) c (no_first m))

  no_field_element : (c : Bool) → No text p.prev_token_end (field c (not st) true f) → No text first.prev_token_end (field_line st c f)
  unfolding covers
  no_field_element c m = fails_node (inside_plain {F' = behind_look} refl) (begun_fails st p af b no_sign (part_fails m kept_between))

  no_field_named : (c : Bool) → NoKey text c f p.prev_token_end → No text first.prev_token_end (field_line st c f)
  no_field_named c m = no_field_element c (fails_ended {X' = plain full} (no_first m) (λ cs j ls mid l d h. (refl, refl)))

  pub no_other_member : NoKeys text f p.prev_token_end → No text first.prev_token_end (members st f)
  no_other_member m = no_member st f (λ c. no_method_named c (m c)) getters_fail setters_fail (λ c. no_field_named c (m c)) accessors_fail (no_constructors (unparametered quiet_named false (no_first (m false))) st b)

  -- a name behind which no parameters stand
  unfollowed : {q : Parser} {id : NodeId} (c : Bool) → KeyRead text f c p q id → (q.token.kind ≡ LParen → ⊥) → Fails rule (Lex text) (plain full) end (name c true f ▸ method_left Method false false f) p.prev_token_end
  unfolding covers apart
  unfollowed {q} c x h = key_path x ⟶✗ fails_at x.whole.at (method_left Method false false f) (LParen ∷ []) refl (other_kind LParen q.token.kind h)

  plainly_unfollowed : {q : Parser} {id : NodeId} (c : Bool) → KeyRead text f c p q id → (q.token.kind ≡ LParen → ⊥) → Fails rule (Lex text) (plain full) end (name false true f ▸ method_left Method false false f) p.prev_token_end
  plainly_unfollowed false x h = unfollowed false x h
  plainly_unfollowed true x h = no_first x.other

  module _ {q : Parser} {id : NodeId} (c : Bool) (x : KeyRead text f c p q id) where
    others_fail : No text first.prev_token_end (forms st (not c) f)
    others_fail = fails_alt (no_method_named (not c) x.other) (fails_alt (getters_fail (not c)) (fails_alt (setters_fail (not c)) (fails_alt (no_field_named (not c) x.other) (accessors_fail (not c)))))

    -- parameters stand behind it
    module _ (h : q.token.kind ≡ LParen) where
      abbrev no_parenthesis : Look
      no_parenthesis k w e = not (same_kind LParen k)

      named_parts : Fails rule (Lex text) (behind_word no_parenthesis) end (field_parts c f) p.prev_token_end
      unfolding rule rule_of covers apart
      named_parts = key_path x ⟶✗ fails_alt (fails_at x.whole.at (symbol Init (field_of f)) (Eq ∷ []) refl (ap (one_of_kinds (Eq ∷ [])) h)) (reads_empty_slot ▹✗ fails_nothing (λ ts y l e. false≢true (sym (ap (λ (k : Kind). not (same_kind LParen k)) (kind_here x.whole.at h refl y l)) ∙ e.1)))

      named_end : (s g : Bool) {ts : Slots} {j : ℕ} {ls mid : Lexemes} → Takes rule (field_parts c f) end ts p.prev_token_end ls end j mid → IsTrue (seen (closes (by_field s g (here ls) ts) behind_look) (here mid)) → Admits (behind_word no_parenthesis) ts (here mid)
      unfolding covers
      named_end s g {ts} {ls = ls} {mid = mid} (is_seq {us = us} e e') i = let o = name_is_tree c true f e in by o us o.is e' i
        where
          by : (o : OneTree ts us) (vs : Slots) {i j : ℕ} {ms : Lexemes} → ts ≡ tree o.label o.slots vs → Takes rule (slot (symbol Init (field_of f))) end vs i ms end j mid → IsTrue (seen (closes (by_field s g (here ls) ts) behind_look) (here mid)) → Admits (behind_word no_parenthesis) ts (here mid)
          by o vs q (is_left (is_such e z)) i = subst (λ (v : Slots). Admits (behind_word no_parenthesis) v (here mid)) (sym q) (refl, refl)
          by o vs q (is_right is_empty_slot) i = subst (λ (v : Slots). Admits (behind_word no_parenthesis) v (here mid)) (sym q) (refl, either_of (seen (is Semicolon) (here mid)) _ (subst (λ (v : Slots). IsTrue (seen (closes (by_field s g (here ls) v) behind_look) (here mid))) q i) (λ v. covered (is Semicolon) no_parenthesis refl (here mid).kind (here mid).newline (here mid).escaped v) (λ v. covered behind_look no_parenthesis refl (here mid).kind (here mid).newline (here mid).escaped (and_parts _ _ v).1))

      none_else : No text first.prev_token_end (getter_line st c f ◇ setter_line st c f ◇ field_line st c f ◇ accessor_line st c f)
      none_else = fails_alt (getters_fail c) (fails_alt (setters_fail c) (fails_alt (no_field_element c (fails_ended named_parts (λ cs j ls mid l d i. named_end (not c && not st) (not c && true) d i))) (accessors_fail c)))

      only_method : No text first.prev_token_end (constructors st f) → Goes rule (Lex text) behind_element end (members st f) first.prev_token_end (method_line st c f) first.prev_token_end (λ us. us) (still 0)
      only_method k = one_of_two st f c others_fail k ▹ left none_else

      method_part : {t : G} → Quiet t → Reads rule (Lex text) (plain full) end t p.prev_token_end p.prev_token_end (λ us. us) (still 0) → Partway text f (element_slots st f (plain_method t c true f)) (method_left Method false false f ▸ kept) first q [] (Some id ∷ [])
      method_part t r = element_part st af b no_sign (part_from (only_name t c r) (key_part x))

    -- nor do they
    only_field : (q.token.kind ≡ LParen → ⊥) → Goes rule (Lex text) behind_element end (members st f) first.prev_token_end (field_line st c f) first.prev_token_end (λ us. us) (still 0)
    only_field h = one_of_two st f c others_fail (no_constructors (unparametered quiet_named false (plainly_unfollowed c x h)) st b)
        ▹ (right (no_element st p method_definition method_op (element_flags st c) af b no_sign (unparametered (quiet_test (st || c)) c (unfollowed c x h))) ▹ (right (getters_fail c) ▹ (right (setters_fail c) ▹ left (accessors_fail c))))

    off : (s e k o : Bool) → k ≡ false → (((s && not e) && k) && o) ≡ false
    off true true k o h = refl
    off true false k o h = rw h refl
    off false e k o h = refl

    or_none : (x y z : Bool) → y ≡ false → z ≡ false → ((x || y) || z) ≡ x
    or_none true y z i j = refl
    or_none false y z i j = rw (i, j) refl

    no_prefix : (s g : Bool) (y : Lexeme) → seen (after_name s g (name_lexeme a i).0) y ≡ one_of_kinds (Eq ∷ LParen ∷ []) y.kind
    unfolding covers
    no_prefix s g y =
        let x = (name_lexeme a i).0 in
        let t = (name_lexeme a i).1 in
        or_none (one_of_kinds (Eq ∷ LParen ∷ []) y.kind) _ _
        (off g x.escaped (one_of_kinds (Get ∷ Set ∷ []) x.kind) (seen begins_name y) (sym (ap (one_of_kinds (Get ∷ Set ∷ [])) t.kind) ∙ none_of (Get ∷ Set ∷ []) refl p.token.kind n))
        (off s x.escaped (same_kind Static x.kind) (seen begins_name y || one_of_kinds (Star ∷ LCurly ∷ []) y.kind) (sym (ap (same_kind Static) t.kind) ∙ no_static (same_kind Static p.token.kind) (none_of (Static ∷ []) refl p.token.kind n)))
      where
        no_static : (d : Bool) → (d || false) ≡ false → d ≡ false
        no_static true h = absurd (false≢true (sym h))
        no_static false h = refl

    name_begins : (t : Bool) → Begun t text f first p → Begins text f (element_slots t f (field c (not st) true f)) (field c (not st) true f ▸ kept) first p
    name_begins false g = subst (λ (v : Parser). Begins text f (element_slots false f (field c (not st) true f)) (field c (not st) true f ▸ kept) v p) g (record {
      at = a;
      same = same_itself;
      nodes = refl;
      kept = refl;
      forward = omega arith;
      pass = λ ls. ls;
      walked = nowhere;
      goes = record { reach = 0; near = omega arith; goes = none_kept (no_decorator a no_sign) ▹ done };
    })
    name_begins true (h, o) = record {
      at = o.at;
      same = o.same;
      nodes = o.nodes;
      kept = o.kept;
      forward = let i = o.further in let j = o.at.behind in omega arith;
      pass = λ ls. next o.lexeme ls;
      walked = walked_one o;
      goes = record { reach = 0; near = omega arith; goes = none_kept (no_decorator af (ap (one_of_kinds (at_sign ∷ [])) h.0)) ▹ skips af Static h.0 h.1 refl o };
    }

    field_named : FieldNamed text f (not c && not st) (not c && true) c (element_slots st f (field c (not st) true f)) first p q id
    field_named = record { begins = name_begins st b; named = x; word = (name_lexeme a i).0; only = (name_lexeme a i).2; plain = λ y l. no_prefix (not c && not st) (not c && true) y }

  -- ---- the answers

  pub other_method_read : {q : Parser} (w : Parser) (v : Result NodeId Stop) (start : ℕ) (o : PropertyName) → start ≡ first.token.span.start → KeyRead text f o.computed p q o.key → q.token.kind ≡ LParen → Tested text false p.prev_token_end → ReadsMethod (record { start = start; is_static = st }) method_kind.Method o false false q w v → ElementOutcome text f (members st f) first w v
  other_method_read w v start o s x h z y = element_by text f first w v (only_method o.computed x h (no_constructors (untested quiet_named false z.1) st b)) (y text f first (element_slots st f (plain_method (cond (st || o.computed) nothing not_constructor) o.computed true f)) af s (method_part o.computed x h (quiet_test (st || o.computed)) (test_reads (st || o.computed) z)))

  pub other_field_read : {q : Parser} (w : Parser) (v : Result NodeId Stop) (start : ℕ) (o : PropertyName) → start ≡ first.token.span.start → KeyRead text f o.computed p q o.key → (q.token.kind ≡ LParen → ⊥) → ReadsField (record { start = start; is_static = st }) field_kind.Property o q w v → ElementOutcome text f (members st f) first w v
  other_field_read w v start o s x h y = element_by text f first w v (only_field o.computed x h) (y text f (not o.computed && not st) (not o.computed && true) (element_slots st f (field o.computed (not st) true f)) first p af s (field_named o.computed x))

  -- from where the element began
  pub other_stops : (w : Parser) (e : Stop) → Stops p w e (NoKeys text f p.prev_token_end) → Stops first w e (No text first.prev_token_end (members st f))
  other_stops w e z = go st b z
    where
      go : (t : Bool) → Begun t text f first p → Stops p w e (NoKeys text f p.prev_token_end) → Stops first w e (No text first.prev_token_end (members st f))
      go false g z = subst (λ (v : Parser). Stops v w e (No text first.prev_token_end (members st f))) g (stops_so p w e no_other_member z)
      go true (h, o) z = stops_behind w e o.same (λ g. grown_then o.kept g) no_other_member z

-- ---- a method that is named by a string

pub string_method_read : {text : List ℕ} {f : Flags} {first p q : Parser} {id : NodeId} (st t : Bool) (w : Parser) (v : Result NodeId Stop) (start : ℕ) (af : At text f first) (b : Begun st text f first p) (a : At text f p) (n : one_of_kinds prefix_kinds p.token.kind ≡ false) (i : one_of_kinds name_kinds p.token.kind ≡ true) → start ≡ first.token.span.start → KeyRead text f false p q id → q.token.kind ≡ LParen → Tested text t p.prev_token_end → ReadsMethod (record { start = start; is_static = st }) (cond (not st && t) method_kind.Constructor method_kind.Method) (record { key = id; computed = false }) false false q w v → ElementOutcome text f (members st f) first w v
string_method_read {text} {f} {first} true t w v start af b a n i s x h z y = element_by text f first w v (only_method true af b a n i false x h fails_never) (y text f first (element_slots true f (plain_method nothing false true f)) af s (method_part true af b a n i false x h quiet_nothing stay))
string_method_read {id = id} false false w v start af b a n i s x h z y = other_method_read false af b a n i w v start (record { key = id; computed = false }) s x h z y
string_method_read {text} {f} {first} {p} false true w v start af b a n i s x h z y =
    let m : No text first.prev_token_end (method_line false false f) = no_element false p method_definition method_op (element_flags false false) af b (no_sign false af b a n i) (untested false af b a n i quiet_unnamed false z.1) in
    element_by text f first w v (right (fails_alt (fails_alt m (none_else false af b a n i false x h)) (others_fail false af b a n i false x))) (y text f first (element_slots false f (plain_method named_constructor false true f)) af s (method_part false af b a n i false x h quiet_named z.0))
