-- Fields that are named by a word (ECMA-262, 15.7).
use Rattle.std.proofs.Common.{ℕ, ◌≡◌, ◌⊎◌, inl, inr, Bool, true, false, not, ◌&&◌, ◌||◌, List, [], ◌∷◌, refl, sym, ap, subst, arith, ◌∙◌}
use Rattle.std.specs.Prelude.{Result}
use Rattle.std.proofs.lemmas.Bool.{false≢true}
use Rattle.js_base.specs.declared.kind.Kind.TheVariants.{At as at_sign, Eq, Get, LCurly, LParen, Set, Star, Static}
use Rattle.js_base.specs.Kinds.{same_kind, one_of_kinds}
use Rattle.js_base.specs.KindSets.{identifier_name_kinds}
use Rattle.js_base.specs.Texts.{words}
use Rattle.js_base.proofs.KindLemmas.{kind_of_same}
use Rattle.js_grammar.specs.Trees.{accessor_property, constructor_op, end, method_definition, method_op, no_op, of}
use Rattle.js_grammar.specs.Grammar.{Lexeme, Look, kept, next, seen, ◌▸◌}
use Rattle.js_grammar.specs.Insertion.{after_name, begins_name}
use Rattle.js_grammar.specs.Parsing.{plain, full, still, Goes, Fails}
use Rattle.js_grammar.specs.Productions.{G, Flags, no_newline, only, tok}
use Rattle.js_grammar.specs.Table.{rule, field, name, plain_method}
use Rattle.js_grammar.proofs.Looks.{covers, covered, apart}
use Rattle.js_grammar.proofs.Calculus.{◌▹◌, ◌▹✗◌, done, fails_alt, fails_ended, fails_never, fails_node, inside_plain, left, part_fails, right}
use Rattle.laws_primary.specs.js_tree.declared.id.NodeId.{NodeId}
use Rattle.laws_primary.specs.js_cursor.Parsers.{Parser}
use Rattle.laws_primary.specs.js_cursor.declared.stop.Stop.{Stop}
use Rattle.laws_primary.specs.Objects.{method_left}
use Rattle.laws_primary.specs.laws_shared.Lexemes.{Lex, nowhere}
use Rattle.laws_primary.specs.laws_shared.Moves.{Moved}
use Rattle.laws_primary.specs.laws_shared.States.{At}
use Rattle.laws_primary.specs.laws_shared.declared.nested.MethodForm.TheVariants.{Method}
use Rattle.laws_primary.proofs.laws_shared.Moving.{same_itself}
use Rattle.laws_primary.proofs.laws_shared.Paths.{fails_at, not_here, skips, walked_one}
use Rattle.laws_primary.proofs.laws_shared.Signs.{other_kind}
use Rattle.laws_primary.proofs.AsyncWords.{no_same_line}
use Rattle.laws_primary.proofs.Methods.{no_first}
use Rattle.laws_primary.proofs.Properties.{word_apart}
use Rattle.laws_classes.proofs.NameLexemes.{word_lexeme}
use Rattle.laws_classes.specs.declared.forms.FieldKind.TheVariants as field_kind
use Rattle.laws_classes.specs.Elements.{Begun, ElementOutcome, behind_element, element_flags, element_slots}
use Rattle.laws_classes.specs.Fields.{Begins, FieldNamed, ReadsField}
use Rattle.laws_classes.specs.Members.{NamesMember, accessor_line, constructors, field_line, getter_line, members, method_line, name_kinds, setter_line}
use Rattle.laws_classes.specs.Names.{KeyRead, NoKey}
use Rattle.laws_classes.proofs.Elements.{begun_fails, element_by, no_decorator, no_element, none_kept, word_no_sign}
use Rattle.laws_classes.proofs.Fields.{kept_between}
use Rattle.laws_classes.proofs.Members.{No, Quiet, behind_look, no_bracket_field, no_parameters, one_of_two, quiet_fails, quiet_named, quiet_test}
use Rattle.laws_classes.proofs.WordMembers.{by_line, no_accessor_so, no_async_so, no_getter_so, no_method_there, no_setter_so}

module _ {text : List ℕ} {f : Flags} {first p q : Parser} (st : Bool) (af : At text f first) (b : Begun st text f first p) (a : At text f p) (w : one_of_kinds identifier_name_kinds p.token.kind ≡ true) (m : Moved text f p q) (n : NamesMember st p q) (np : q.token.kind ≡ LParen → ⊥) where
  no_key_behind : one_of_kinds name_kinds q.token.kind ≡ false → (c : Bool) → NoKey text c f q.prev_token_end
  unfolding covers apart
  no_key_behind h true = fails_at m.at (name true true f) name_kinds refl h
  no_key_behind h false = fails_at m.at (name false true f) name_kinds refl h

  no_accessor_behind : (c : Bool) → (q.token.is_on_new_line ≡ true) ⊎ (one_of_kinds name_kinds q.token.kind ≡ false) → Fails rule (Lex text) (plain full) end (no_newline ▸ field c false false f) q.prev_token_end
  no_accessor_behind c (inl l) = no_same_line m.at l
  no_accessor_behind c (inr h) = by_line m.at (fails_ended {X' = plain full} (no_first (no_key_behind h c)) (λ cs j ls mid l d h. (refl, refl)))

  no_async_behind : {t : G} → Quiet t → (c s : Bool) → (q.token.is_on_new_line ≡ true) ⊎ (one_of_kinds (Star ∷ name_kinds) q.token.kind ≡ false) → Fails rule (Lex text) (plain full) end (no_newline ▸ only s (tok Star) ▸ t ▸ name c true f ▸ method_left Method true s f) q.prev_token_end
  no_async_behind t c s (inl l) = no_same_line m.at l
  no_async_behind t c s (inr h) = by_line m.at (no_method_there m.at h t c s)

  word_no_method : {t : G} → Quiet t → (c : Bool) → Fails rule (Lex text) (plain full) end (plain_method t c true f) p.prev_token_end
  unfolding covers apart
  word_no_method t c = fails_alt
      (fails_alt (done ▹✗ (done ▹✗ quiet_fails t (no_parameters a w m (other_kind LParen q.token.kind np) c))) (done ▹✗ no_first (fails_at a (tok Star) (Star ∷ []) refl (word_apart (Star ∷ []) refl p.token.kind w))))
      (fails_alt (no_async_so a m _ (λ k e. no_async_behind t c false (n.async_method e k))) (no_async_so a m _ (λ k e. no_async_behind t c true (n.async_method e k))))

  no_methods : (c : Bool) → No text first.prev_token_end (method_line st c f)
  no_methods c = no_element st p method_definition method_op (element_flags st c) af b (word_no_sign p.token.kind w) (word_no_method (quiet_test (st || c)) c)

  no_constructors : (t : Bool) → Begun t text f first p → No text first.prev_token_end (constructors t f)
  no_constructors true g = fails_never
  no_constructors false g = no_element false p method_definition constructor_op (element_flags false false) af g (word_no_sign p.token.kind w) (word_no_method quiet_named false)

  no_getters : (c : Bool) → No text first.prev_token_end (getter_line st c f)
  no_getters c = no_element st p method_definition (of Get) (element_flags st c) af b (word_no_sign p.token.kind w) (no_getter_so a m c (λ k e. no_key_behind (n.accessor_method e (ap (one_of_kinds (Get ∷ Set ∷ [])) k)) c))

  no_setters : (c : Bool) → No text first.prev_token_end (setter_line st c f)
  no_setters c = no_element st p method_definition (of Set) (element_flags st c) af b (word_no_sign p.token.kind w) (no_setter_so a m c (λ k e. no_key_behind (n.accessor_method e (ap (one_of_kinds (Get ∷ Set ∷ [])) k)) c))

  no_accessors : (c : Bool) → No text first.prev_token_end (accessor_line st c f)
  no_accessors c = no_element st p accessor_property no_op (element_flags st c) af b (word_no_sign p.token.kind w) (no_accessor_so a m c (λ k e. no_accessor_behind c (n.accessor_field e k)))

  no_bracket_line : No text first.prev_token_end (field_line st true f)
  unfolding covers
  no_bracket_line = fails_node (inside_plain {F' = behind_look} refl) (begun_fails st p af b (word_no_sign p.token.kind w) (part_fails (no_bracket_field a w m false false) kept_between))

  only_field : Goes rule (Lex text) behind_element end (members st f) first.prev_token_end (field_line st false f) first.prev_token_end (λ us. us) (still 0)
  only_field = one_of_two st f false (fails_alt (no_methods true) (fails_alt (no_getters true) (fails_alt (no_setters true) (fails_alt no_bracket_line (no_accessors true))))) (no_constructors st b)
      ▹ (right (no_methods false) ▹ (right (no_getters false) ▹ (right (no_setters false) ▹ left (no_accessors false))))

  -- ---- up to its name

  word_begins : (t : Bool) → Begun t text f first p → Begins text f (element_slots t f (field false (not st) true f)) (field false (not st) true f ▸ kept) first p
  word_begins false g = subst (λ (v : Parser). Begins text f (element_slots false f (field false (not st) true f)) (field false (not st) true f ▸ kept) v p) g (record {
    at = a;
    same = same_itself;
    nodes = refl;
    kept = refl;
    forward = omega arith;
    pass = λ ls. ls;
    walked = nowhere;
    goes = record { reach = 0; near = omega arith; goes = none_kept (no_decorator a (word_no_sign p.token.kind w)) ▹ done };
  })
  word_begins true (h, o) = record {
    at = o.at;
    same = o.same;
    nodes = o.nodes;
    kept = o.kept;
    forward = let i = o.further in let j = o.at.behind in omega arith;
    pass = λ ls. next o.lexeme ls;
    walked = walked_one o;
    goes = record { reach = 0; near = omega arith; goes = none_kept (no_decorator af (ap (one_of_kinds (at_sign ∷ [])) h.0)) ▹ skips af Static h.0 h.1 refl o };
  }

  -- ---- what stands behind it is no part of another member

  pub off : (s e k o : Bool) → (s ≡ true → e ≡ false → k ≡ true → o ≡ false) → (((s && not e) && k) && o) ≡ false
  off true true k o h = refl
  off true false true o h = h refl refl refl
  off true false false o h = refl
  off false e k o h = refl

  pub or_none : (x y z : Bool) → y ≡ false → z ≡ false → ((x || y) || z) ≡ x
  or_none true y z i j = refl
  or_none false y z i j = rw (i, j) refl

  names_are : covers begins_name (λ k w e. one_of_kinds name_kinds k) ≡ true
  unfolding covers words
  names_are = refl

  more_names_are : covers (λ k w e. begins_name k w e || one_of_kinds (Star ∷ LCurly ∷ []) k) (λ k w e. one_of_kinds (LCurly ∷ Star ∷ name_kinds) k) ≡ true
  unfolding covers words
  more_names_are = refl

  no_name_there : one_of_kinds name_kinds q.token.kind ≡ false → (y : Lexeme) → Lex text q.prev_token_end y → seen begins_name y ≡ false
  unfolding apart
  no_name_there h y l = by (seen begins_name y) refl
    where
      by : (d : Bool) → seen begins_name y ≡ d → seen begins_name y ≡ false
      by true e = absurd (not_here m.at name_kinds refl h y l (covered begins_name (λ k w e. one_of_kinds name_kinds k) names_are y.kind y.newline y.escaped e))
      by false e = e

  abbrev more_names : Look
  more_names k w e = begins_name k w e || one_of_kinds (Star ∷ LCurly ∷ []) k

  no_more_there : one_of_kinds (LCurly ∷ Star ∷ name_kinds) q.token.kind ≡ false → (y : Lexeme) → Lex text q.prev_token_end y → seen more_names y ≡ false
  unfolding apart
  no_more_there h y l = by (seen more_names y) refl
    where
      by : (d : Bool) → seen more_names y ≡ d → seen more_names y ≡ false
      by true e = absurd (not_here m.at (LCurly ∷ Star ∷ name_kinds) refl h y l (covered more_names (λ k w e. one_of_kinds (LCurly ∷ Star ∷ name_kinds) k) more_names_are y.kind y.newline y.escaped e))
      by false e = e

  negated : (s : Bool) → not s ≡ true → s ≡ false
  negated true h = absurd (false≢true h)
  negated false h = refl

  no_prefix : (y : Lexeme) → Lex text q.prev_token_end y → seen (after_name (not st) true (word_lexeme a w).0) y ≡ one_of_kinds (Eq ∷ LParen ∷ []) y.kind
  no_prefix y l =
      let x = (word_lexeme a w).0 in
      let t = (word_lexeme a w).1 in
      or_none (one_of_kinds (Eq ∷ LParen ∷ []) y.kind) _ _
      (off true x.escaped (one_of_kinds (Get ∷ Set ∷ []) x.kind) (seen begins_name y) (λ s e k. no_name_there (n.accessor_method (t.escaped ∙ e) (ap (one_of_kinds (Get ∷ Set ∷ [])) t.kind ∙ k)) y l))
      (off (not st) x.escaped (same_kind Static x.kind) (seen more_names y) (λ s e k. no_more_there (n.static_member (negated st s) (t.escaped ∙ e) (t.kind ∙ sym (kind_of_same Static x.kind k))) y l))

  word_named : {u : Parser} {id : NodeId} → u.prev_token_end ≡ q.prev_token_end → KeyRead text f false p u id → FieldNamed text f (not st) true false (element_slots st f (field false (not st) true f)) first p u id
  word_named {u} e x = record { begins = word_begins st b; named = x; word = (word_lexeme a w).0; only = (word_lexeme a w).2; plain = λ y l. no_prefix y (subst (λ (v : ℕ). Lex text v y) e l) }

  pub word_field_read : {u : Parser} {id : NodeId} (v : Parser) (r : Result NodeId Stop) (start : ℕ) → start ≡ first.token.span.start → u.prev_token_end ≡ q.prev_token_end → KeyRead text f false p u id → ReadsField (record { start = start; is_static = st }) field_kind.Property (record { key = id; computed = false }) u v r → ElementOutcome text f (members st f) first v r
  word_field_read v r start s e x y = element_by text f first v r only_field (y text f (not st) true (element_slots st f (field false (not st) true f)) first p af s (word_named e x))
