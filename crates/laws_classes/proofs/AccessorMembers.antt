-- Getters, setters and the fields of `accessor` (ECMA-262, 15.4, 15.7, and the proposal of decorators), from their names on.
use Rattle.std.proofs.Common.{ℕ, ◌≡◌, Bool, true, false, not, ◌&&◌, ◌||◌, List, [], ◌∷◌, Some, refl, ap, subst, arith, ◌∙◌}
use Rattle.std.specs.Prelude.{Result}
use Rattle.std.proofs.lemmas.Bool.{or_right}
use Rattle.js_base.specs.declared.kind.Kind.TheVariants.{Accessor, Async, At as at_sign, Eq, Get, LParen, Set, Star, Static}
use Rattle.js_base.specs.Kinds.{same_kind, one_of_kinds}
use Rattle.js_base.specs.KindSets.{identifier_name_kinds}
use Rattle.js_grammar.specs.Trees.{accessor_property, constructor_op, end, method_definition, method_op, no_op, of}
use Rattle.js_grammar.specs.Grammar.{Lexeme, kept, next, seen, ◌▸◌}
use Rattle.js_grammar.specs.Insertion.{after_name}
use Rattle.js_grammar.specs.Parsing.{plain, full, still, Goes}
use Rattle.js_grammar.specs.Productions.{G, Flags, make, no_newline, tok}
use Rattle.js_grammar.specs.Table.{rule, field, getter, setter}
use Rattle.js_grammar.proofs.Looks.{covers}
use Rattle.js_grammar.proofs.Calculus.{◌▹◌, ◌▹✗◌, done, fails_ended, fails_never, fails_node, inside_plain, part_by, part_fails}
use Rattle.laws_primary.specs.declared.forms.PropertyName.{PropertyName}
use Rattle.laws_primary.specs.js_tree.declared.id.NodeId.{NodeId}
use Rattle.laws_primary.specs.js_tree.declared.op.MethodKind.{MethodKind}
use Rattle.laws_primary.specs.js_tree.declared.op.MethodKind.TheVariants as kind
use Rattle.laws_primary.specs.js_cursor.Parsers.{Parser}
use Rattle.laws_primary.specs.js_cursor.declared.stop.Stop.{Stop}
use Rattle.laws_primary.specs.Objects.{method_left}
use Rattle.laws_primary.specs.laws_shared.Answers.{Stops}
use Rattle.laws_primary.specs.laws_shared.Arguments.{Partway}
use Rattle.laws_primary.specs.laws_shared.Lexemes.{Lex}
use Rattle.laws_primary.specs.laws_shared.Moves.{Moved}
use Rattle.laws_primary.specs.laws_shared.States.{At, Same}
use Rattle.laws_primary.specs.laws_shared.declared.nested.MethodForm.TheVariants.{Getter, Setter}
use Rattle.laws_primary.proofs.laws_shared.Moving.{same_both, stops_behind}
use Rattle.laws_primary.proofs.laws_shared.Parts.{part_sign, parts}
use Rattle.laws_primary.proofs.laws_shared.Paths.{◌⟶✗◌, skips, token, walked_both, walked_one}
use Rattle.laws_primary.proofs.laws_shared.Verdicts.{grown_then}
use Rattle.laws_primary.proofs.AsyncWords.{any_between, same_line}
use Rattle.laws_primary.proofs.Methods.{no_first}
use Rattle.laws_classes.proofs.NameLexemes.{name_lexeme}
use Rattle.laws_classes.specs.declared.forms.ElementHead.{ElementHead}
use Rattle.laws_classes.specs.declared.forms.FieldKind.TheVariants as field_kind
use Rattle.laws_classes.specs.Elements.{Begun, ElementOutcome, behind_element, element_flags, element_slots}
use Rattle.laws_classes.specs.Fields.{Begins, FieldNamed, ReadsField}
use Rattle.laws_classes.specs.Members.{BeginsAccessor, accessor_line, constructors, field_line, getter_line, members, method_line, name_kinds, setter_line}
use Rattle.laws_classes.specs.Methods.{ReadsMethod}
use Rattle.laws_classes.specs.Names.{KeyRead, NoKey, NoKeys}
use Rattle.laws_classes.proofs.Elements.{begun_fails, element_by, element_part, no_decorator, no_element, none_kept, word_no_sign}
use Rattle.laws_classes.proofs.Fields.{kept_between}
use Rattle.laws_classes.proofs.Names.{key_part}
use Rattle.laws_classes.proofs.Members.{No, behind_look, no_accessor_word, no_getter_word, no_line_field, no_member, no_method_word, no_parameters_there, no_prefix_field, no_setter_word, only_accessor, only_getter, only_setter, quiet_named, quiet_test}

module _ {text : List ℕ} {f : Flags} {first p q : Parser} (st : Bool) (af : At text f first) (b : Begun st text f first p) (a : At text f p) (e : p.token.escaped ≡ false) (m : Moved text f p q) (i : one_of_kinds name_kinds q.token.kind ≡ true) where
  no_field_element : one_of_kinds identifier_name_kinds p.token.kind ≡ true → (c : Bool) → No text p.prev_token_end (field c (not st) true f) → No text first.prev_token_end (field_line st c f)
  unfolding covers
  no_field_element w c n = fails_node (inside_plain {F' = behind_look} refl) (begun_fails st p af b (word_no_sign p.token.kind w) (part_fails n kept_between))

  begun_same : (t : Bool) → Begun t text f first p → Same first q
  begun_same false e = subst (λ (v : Parser). Same v q) e m.same
  begun_same true (h, n) = same_both n.same m.same

  begun_kept : (t : Bool) → Begun t text f first p → q.errors ≡ first.errors
  begun_kept false e = m.kept ∙ ap (λ (v : Parser). v.errors) e
  begun_kept true (h, n) = m.kept ∙ n.kept

  module _ (w : one_of_kinds identifier_name_kinds p.token.kind ≡ true) (n : one_of_kinds (Async ∷ []) p.token.kind ≡ false) where
    no_methods : (c : Bool) → No text first.prev_token_end (method_line st c f)
    no_methods c = no_element st p method_definition method_op (element_flags st c) af b (word_no_sign p.token.kind w) (no_method_word a w m (no_parameters_there a w m i) (quiet_test (st || c)) c n)

    no_constructors : (t : Bool) → Begun t text f first p → No text first.prev_token_end (constructors t f)
    no_constructors true g = fails_never
    no_constructors false g = no_element false p method_definition constructor_op (element_flags false false) af g (word_no_sign p.token.kind w) (no_method_word a w m (no_parameters_there a w m i) quiet_named false n)

    no_getters : one_of_kinds (Get ∷ []) p.token.kind ≡ false → (c : Bool) → No text first.prev_token_end (getter_line st c f)
    no_getters k c = no_element st p method_definition (of Get) (element_flags st c) af b (word_no_sign p.token.kind w) (no_getter_word a w m c k)

    no_setters : one_of_kinds (Set ∷ []) p.token.kind ≡ false → (c : Bool) → No text first.prev_token_end (setter_line st c f)
    no_setters k c = no_element st p method_definition (of Set) (element_flags st c) af b (word_no_sign p.token.kind w) (no_setter_word a w m c k)

    no_accessors : one_of_kinds (Accessor ∷ []) p.token.kind ≡ false → (c : Bool) → No text first.prev_token_end (accessor_line st c f)
    no_accessors k c = no_element st p accessor_property no_op (element_flags st c) af b (word_no_sign p.token.kind w) (no_accessor_word a w m c k)

  -- ---- a getter

  module _ (k : p.token.kind ≡ Get) where
    no_get_named : (c : Bool) → NoKey text c f q.prev_token_end → No text first.prev_token_end (getter_line st c f)
    no_get_named c n = no_element st p method_definition (of Get) (element_flags st c) af b (ap (one_of_kinds (at_sign ∷ [])) k) (token Get a k e refl m ⟶✗ no_first n)

    get_word : one_of_kinds identifier_name_kinds p.token.kind ≡ true
    get_word = ap (one_of_kinds identifier_name_kinds) k

    get_fields : (c : Bool) → No text first.prev_token_end (field_line st c f)
    get_fields c = no_field_element get_word c (no_prefix_field a get_word m i st c e (ap (one_of_kinds (Get ∷ Set ∷ [])) k))

    get_no_async : one_of_kinds (Async ∷ []) p.token.kind ≡ false
    get_no_async = ap (one_of_kinds (Async ∷ [])) k

    get_none : NoKeys text f q.prev_token_end → No text first.prev_token_end (members st f)
    get_none n = no_member st f (no_methods get_word get_no_async) (λ c. no_get_named c (n c)) (no_setters get_word get_no_async (ap (one_of_kinds (Set ∷ [])) k)) get_fields (no_accessors get_word get_no_async (ap (one_of_kinds (Accessor ∷ [])) k)) (no_constructors get_word get_no_async st b)

    get_only : {r : Parser} {id : NodeId} (c : Bool) → KeyRead text f c q r id → Goes rule (Lex text) behind_element end (members st f) first.prev_token_end (getter_line st c f) first.prev_token_end (λ us. us) (still 0)
    get_only c x = only_getter st f c (no_methods get_word get_no_async) (no_get_named (not c) x.other) (no_setters get_word get_no_async (ap (one_of_kinds (Set ∷ [])) k)) get_fields (no_accessors get_word get_no_async (ap (one_of_kinds (Accessor ∷ [])) k)) (no_constructors get_word get_no_async st b)

    get_part : {r : Parser} {id : NodeId} (c : Bool) → KeyRead text f c q r id → Partway text f (element_slots st f (getter c true f)) (method_left Getter false false f ▸ kept) first r [] (Some id ∷ [])
    get_part c x = element_part st af b (ap (one_of_kinds (at_sign ∷ [])) k) (parts (part_sign Get a k e refl m) (key_part x))

  -- ---- a setter

  module _ (k : p.token.kind ≡ Set) where
    no_set_named : (c : Bool) → NoKey text c f q.prev_token_end → No text first.prev_token_end (setter_line st c f)
    no_set_named c n = no_element st p method_definition (of Set) (element_flags st c) af b (ap (one_of_kinds (at_sign ∷ [])) k) (token Set a k e refl m ⟶✗ no_first n)

    set_word : one_of_kinds identifier_name_kinds p.token.kind ≡ true
    set_word = ap (one_of_kinds identifier_name_kinds) k

    set_fields : (c : Bool) → No text first.prev_token_end (field_line st c f)
    set_fields c = no_field_element set_word c (no_prefix_field a set_word m i st c e (ap (one_of_kinds (Get ∷ Set ∷ [])) k))

    set_no_async : one_of_kinds (Async ∷ []) p.token.kind ≡ false
    set_no_async = ap (one_of_kinds (Async ∷ [])) k

    set_none : NoKeys text f q.prev_token_end → No text first.prev_token_end (members st f)
    set_none n = no_member st f (no_methods set_word set_no_async) (no_getters set_word set_no_async (ap (one_of_kinds (Get ∷ [])) k)) (λ c. no_set_named c (n c)) set_fields (no_accessors set_word set_no_async (ap (one_of_kinds (Accessor ∷ [])) k)) (no_constructors set_word set_no_async st b)

    set_only : {r : Parser} {id : NodeId} (c : Bool) → KeyRead text f c q r id → Goes rule (Lex text) behind_element end (members st f) first.prev_token_end (setter_line st c f) first.prev_token_end (λ us. us) (still 0)
    set_only c x = only_setter st f c (no_methods set_word set_no_async) (no_getters set_word set_no_async (ap (one_of_kinds (Get ∷ [])) k)) (no_set_named (not c) x.other) set_fields (no_accessors set_word set_no_async (ap (one_of_kinds (Accessor ∷ [])) k)) (no_constructors set_word set_no_async st b)

    set_part : {r : Parser} {id : NodeId} (c : Bool) → KeyRead text f c q r id → Partway text f (element_slots st f (setter c true f)) (method_left Setter false false f ▸ kept) first r [] (Some id ∷ [])
    set_part c x = element_part st af b (ap (one_of_kinds (at_sign ∷ [])) k) (parts (part_sign Set a k e refl m) (key_part x))

  -- ---- one of them

  pub accessor_stops : (o : MethodKind) (w : Parser) (s : Stop) → BeginsAccessor o p.token.kind → Stops q w s (NoKeys text f q.prev_token_end) → Stops first w s (No text first.prev_token_end (members st f))
  accessor_stops kind.Get w s k z = stops_behind w s (begun_same st b) (λ g. grown_then (begun_kept st b) g) (get_none k) z
  accessor_stops kind.Set w s k z = stops_behind w s (begun_same st b) (λ g. grown_then (begun_kept st b) g) (set_none k) z
  accessor_stops kind.Method w s k z = absurd k
  accessor_stops kind.Constructor w s k z = absurd k

  pub accessor_read : (o : MethodKind) {r : Parser} (w : Parser) (v : Result NodeId Stop) (h : ElementHead) (n : PropertyName) → h.is_static ≡ st → h.start ≡ first.token.span.start → BeginsAccessor o p.token.kind → KeyRead text f n.computed q r n.key → ReadsMethod h o n false false r w v → ElementOutcome text f (members st f) first w v
  accessor_read kind.Get w v h n t s k x y = element_by text f first w v (get_only k n.computed x) (subst (λ (u : Bool). ElementOutcome text f (getter_line_of u) first w v) t (y text f first (element_slots st f (getter n.computed true f)) af s (get_part k n.computed x)))
    where
      getter_line_of : Bool → G
      getter_line_of u = make method_definition (of Get) (element_flags u n.computed) (element_slots st f (getter n.computed true f))
  accessor_read kind.Set w v h n t s k x y = element_by text f first w v (set_only k n.computed x) (subst (λ (u : Bool). ElementOutcome text f (setter_line_of u) first w v) t (y text f first (element_slots st f (setter n.computed true f)) af s (set_part k n.computed x)))
    where
      setter_line_of : Bool → G
      setter_line_of u = make method_definition (of Set) (element_flags u n.computed) (element_slots st f (setter n.computed true f))
  accessor_read kind.Method w v h n t s k x y = absurd k
  accessor_read kind.Constructor w v h n t s k x y = absurd k

  -- ---- a field behind `accessor`

  module _ (k : p.token.kind ≡ Accessor) (l : q.token.is_on_new_line ≡ false) where
    accessor_word : one_of_kinds identifier_name_kinds p.token.kind ≡ true
    accessor_word = ap (one_of_kinds identifier_name_kinds) k

    accessor_no_async : one_of_kinds (Async ∷ []) p.token.kind ≡ false
    accessor_no_async = ap (one_of_kinds (Async ∷ [])) k

    accessor_fields : (c : Bool) → No text first.prev_token_end (field_line st c f)
    accessor_fields c = no_field_element accessor_word c (no_line_field a accessor_word m (or_right (same_kind Star q.token.kind) (one_of_kinds name_kinds q.token.kind) i) st c l)

    no_accessor_named : (c : Bool) → NoKey text c f q.prev_token_end → No text first.prev_token_end (accessor_line st c f)
    no_accessor_named c n = no_element st p accessor_property no_op (element_flags st c) af b (ap (one_of_kinds (at_sign ∷ [])) k) (token Accessor a k e refl m ⟶✗ (same_line m.at l ▹✗ fails_ended {X' = plain full} (no_first n) (λ cs j ls mid l d h. (refl, refl))))

    accessor_none : NoKeys text f q.prev_token_end → No text first.prev_token_end (members st f)
    accessor_none n = no_member st f (no_methods accessor_word accessor_no_async) (no_getters accessor_word accessor_no_async (ap (one_of_kinds (Get ∷ [])) k)) (no_setters accessor_word accessor_no_async (ap (one_of_kinds (Set ∷ [])) k)) accessor_fields (λ c. no_accessor_named c (n c)) (no_constructors accessor_word accessor_no_async st b)

    accessor_only : {r : Parser} {id : NodeId} (c : Bool) → KeyRead text f c q r id → Goes rule (Lex text) behind_element end (members st f) first.prev_token_end (accessor_line st c f) first.prev_token_end (λ us. us) (still 0)
    accessor_only c x = only_accessor st f c (no_methods accessor_word accessor_no_async) (no_getters accessor_word accessor_no_async (ap (one_of_kinds (Get ∷ [])) k)) (no_setters accessor_word accessor_no_async (ap (one_of_kinds (Set ∷ [])) k)) accessor_fields (no_accessor_named (not c) x.other) (no_constructors accessor_word accessor_no_async st b)

    pub accessor_field_stops : (w : Parser) (s : Stop) → Stops q w s (NoKeys text f q.prev_token_end) → Stops first w s (No text first.prev_token_end (members st f))
    accessor_field_stops w s z = stops_behind w s (begun_same st b) (λ g. grown_then (begun_kept st b) g) accessor_none z

    -- up to its name
    abbrev accessor_slots : Bool → G
    accessor_slots c = tok Accessor ▸ no_newline ▸ field c false false f

    accessor_passed : (c : Bool) → Goes rule (Lex text) (plain full) end (accessor_slots c ▸ kept) p.prev_token_end (field c false false f ▸ kept) q.prev_token_end (λ us. us) (record { reach = 0; pass = λ ls. next m.lexeme ls })
    accessor_passed c = part_by (skips a Accessor k e refl m ▹ same_line m.at l) any_between

    accessor_begins : (t : Bool) (c : Bool) → Begun t text f first p → Begins text f (element_slots t f (accessor_slots c)) (field c false false f ▸ kept) first q
    accessor_begins false c g = subst (λ (v : Parser). Begins text f (element_slots false f (accessor_slots c)) (field c false false f ▸ kept) v q) g (record {
      at = m.at;
      same = m.same;
      nodes = m.nodes;
      kept = m.kept;
      forward = let j = m.further in let n = m.at.behind in omega arith;
      pass = λ ls. next m.lexeme ls;
      walked = walked_one m;
      goes = record { reach = 0; near = omega arith; goes = none_kept (no_decorator a (ap (one_of_kinds (at_sign ∷ [])) k)) ▹ (done ▹ accessor_passed c) };
    })
    accessor_begins true c (h, n) = record {
      at = m.at;
      same = same_both n.same m.same;
      nodes = m.nodes ∙ n.nodes;
      kept = m.kept ∙ n.kept;
      forward = let j = m.further in let o = m.at.behind in let u = n.further in let v = n.at.behind in omega arith;
      pass = λ ls. next n.lexeme (next m.lexeme ls);
      walked = walked_both (walked_one n) (walked_one m);
      goes = record { reach = 0; near = omega arith; goes = none_kept (no_decorator af (ap (one_of_kinds (at_sign ∷ [])) h.0)) ▹ (skips af Static h.0 h.1 refl n ▹ accessor_passed c) };
    }

    -- no word is a prefix there
    or_none : (x : Bool) → ((x || false) || false) ≡ x
    or_none true = refl
    or_none false = refl

    no_prefix : (c : Bool) (x y : Lexeme) → seen (after_name (not c && false) (not c && false) x) y ≡ one_of_kinds (Eq ∷ LParen ∷ []) y.kind
    no_prefix true x y = or_none (one_of_kinds (Eq ∷ LParen ∷ []) y.kind)
    no_prefix false x y = or_none (one_of_kinds (Eq ∷ LParen ∷ []) y.kind)

    accessor_named : {r : Parser} {id : NodeId} (c : Bool) → KeyRead text f c q r id → FieldNamed text f (not c && false) (not c && false) c (element_slots st f (accessor_slots c)) first q r id
    accessor_named c x = record { begins = accessor_begins st c b; named = x; word = (name_lexeme m.at i).0; only = (name_lexeme m.at i).2; plain = λ y j. no_prefix c (name_lexeme m.at i).0 y }

    pub accessor_field_read : {r : Parser} (w : Parser) (v : Result NodeId Stop) (h : ElementHead) (n : PropertyName) → h.is_static ≡ st → h.start ≡ first.token.span.start → KeyRead text f n.computed q r n.key → ReadsField h field_kind.Accessor n r w v → ElementOutcome text f (members st f) first w v
    accessor_field_read w v h n t s x y = element_by text f first w v (accessor_only n.computed x) (subst (λ (u : Bool). ElementOutcome text f (accessor_line_of u) first w v) t (y text f (not n.computed && false) (not n.computed && false) (element_slots st f (accessor_slots n.computed)) first q af s (accessor_named n.computed x)))
      where
        accessor_line_of : Bool → G
        accessor_line_of u = make accessor_property no_op (element_flags u n.computed) (element_slots st f (accessor_slots n.computed))
