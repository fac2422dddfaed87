-- Members that are named by a word (ECMA-262, 15.7), where parameters stand behind it.
use Rattle.std.proofs.Common.{ℕ, ◌≡◌, Bool, true, false, not, ◌||◌, cond, List, [], ◌∷◌, Some, IsTrue, refl, sym, ap, subst, ◌∙◌}
use Rattle.std.specs.Prelude.{Result, codes, bytes_eq}
use Rattle.std.proofs.lemmas.Bool.{false≢true, and_parts}
use Rattle.js_base.specs.declared.kind.Kind.{Kind}
use Rattle.js_base.specs.declared.kind.Kind.TheVariants.{Accessor, Async, Constructor, Eq, Get, LParen, Semicolon, Set, Star, Str}
use Rattle.js_base.specs.Kinds.{same_kind, one_of_kinds}
use Rattle.js_base.specs.KindSets.{identifier_name_kinds}
use Rattle.js_base.proofs.KindLemmas.{kind_of_same}
use Rattle.js_grammar.specs.Trees.{accessor_property, constructor_op, end, method_definition, method_op, no_op, of}
use Rattle.js_grammar.specs.Grammar.{Lexeme, Look, is, kept, nothing, seen, ◌▸◌}
use Rattle.js_grammar.specs.Lexemes.{is_word}
use Rattle.js_grammar.specs.Parsing.{Test, plain, full, still, Goes, Fails, Reads}
use Rattle.js_grammar.specs.Productions.{G, Flags, no_newline, only, tok}
use Rattle.js_grammar.specs.Table.{rule, field, getter, name, named_constructor, not_constructor, plain_method, setter}
use Rattle.js_grammar.proofs.Finding.{either_of}
use Rattle.js_grammar.proofs.Looks.{covers, covered, apart}
use Rattle.js_grammar.proofs.Calculus.{◌▹◌, ◌▹✗◌, done, fails_alt, fails_ended, fails_look, fails_never, fails_node, fails_text, inside_plain, left, looks, part_fails, reads_text, right, stay}
use Rattle.laws_primary.specs.js_tree.declared.id.NodeId.{NodeId}
use Rattle.laws_primary.specs.js_cursor.Parsers.{Parser}
use Rattle.laws_primary.specs.js_cursor.declared.stop.Stop.{Stop}
use Rattle.laws_primary.specs.js_tree.declared.op.MethodKind.{MethodKind}
use Rattle.laws_primary.specs.js_tree.declared.op.MethodKind.TheVariants as kind
use Rattle.laws_classes.specs.Methods.{ReadsMethod}
use Rattle.laws_primary.specs.Objects.{method_left}
use Rattle.laws_primary.specs.laws_shared.Arguments.{Partway}
use Rattle.laws_primary.specs.laws_shared.Lexemes.{Lex, is_read_kind}
use Rattle.laws_primary.specs.laws_shared.Moves.{Moved}
use Rattle.laws_primary.specs.laws_shared.States.{At}
use Rattle.laws_primary.specs.laws_shared.declared.nested.MethodForm.TheVariants.{Method}
use Rattle.laws_primary.proofs.laws_shared.Ahead.{pass_over}
use Rattle.laws_primary.proofs.laws_shared.Giving.{fails_unescaped}
use Rattle.laws_primary.proofs.laws_shared.Here.{kind_here, unsettled}
use Rattle.laws_primary.proofs.laws_shared.Parts.{part_from, part_path_fails, part_sign}
use Rattle.laws_primary.proofs.laws_shared.Paths.{◌⟶✗◌, fails_at, token}
use Rattle.laws_primary.proofs.AsyncWords.{no_same_line, part_within, same_line}
use Rattle.laws_primary.proofs.Methods.{no_first}
use Rattle.laws_primary.proofs.Properties.{kinds_apart, word_apart}
use Rattle.laws_classes.specs.Elements.{Begun, ElementOutcome, behind_element, element_flags, element_slots}
use Rattle.laws_classes.specs.Members.{accessor_line, constructor_line, constructors, field_line, forms, getter_line, kind_of_word, members, method_line, name_kinds, setter_line}
use Rattle.laws_classes.specs.Names.{KeyRead, NoKey}
use Rattle.laws_classes.proofs.ConstructorNames.{constructor_units, other_units}
use Rattle.laws_classes.proofs.Elements.{begun_fails, element_by, element_part, no_element, word_no_sign}
use Rattle.laws_classes.proofs.Fields.{kept_between}
use Rattle.laws_classes.proofs.Members.{No, Quiet, one_of_two, behind_look, no_bracket_field, no_bracket_key, no_field_word, quiet_fails, quiet_named, quiet_nothing, quiet_test, quiet_unnamed}
use Rattle.laws_classes.proofs.Names.{key_part}

-- where the word isn't read as this one, or what stands behind it isn't
module _ {text : List ℕ} {f : Flags} {p q : Parser} (a : At text f p) (m : Moved text f p q) where
  starts_fails : (k : Kind) {g : G} → is_read_kind k ≡ true → (p.token.escaped ≡ true → Fails rule (Lex text) (plain full) end (tok k) p.prev_token_end) → (one_of_kinds (k ∷ []) p.token.kind ≡ false → Fails rule (Lex text) (plain full) end (tok k) p.prev_token_end) → (p.token.kind ≡ k → p.token.escaped ≡ false → Fails rule (Lex text) (plain full) end g q.prev_token_end) → Fails rule (Lex text) (plain full) end (tok k ▸ g) p.prev_token_end
  starts_fails k {g} r n o t = by (same_kind k p.token.kind) p.token.escaped refl refl
    where
      by : (b c : Bool) → same_kind k p.token.kind ≡ b → p.token.escaped ≡ c → Fails rule (Lex text) (plain full) end (tok k ▸ g) p.prev_token_end
      by b true i e = no_first (n e)
      by true false i e = let j = sym (kind_of_same k p.token.kind i) in token k a j e r m ⟶✗ t j e
      by false false i e = no_first (o (ap (λ (b : Bool). b || false) i))

  pub no_getter_so : (c : Bool) → (p.token.kind ≡ Get → p.token.escaped ≡ false → NoKey text c f q.prev_token_end) → Fails rule (Lex text) (plain full) end (getter c true f) p.prev_token_end
  unfolding covers apart
  no_getter_so c t = starts_fails Get refl (λ e. fails_unescaped (tok Get) a refl e) (λ n. fails_at a (tok Get) (Get ∷ []) refl n) (λ k e. no_first (t k e))

  pub no_setter_so : (c : Bool) → (p.token.kind ≡ Set → p.token.escaped ≡ false → NoKey text c f q.prev_token_end) → Fails rule (Lex text) (plain full) end (setter c true f) p.prev_token_end
  unfolding covers apart
  no_setter_so c t = starts_fails Set refl (λ e. fails_unescaped (tok Set) a refl e) (λ n. fails_at a (tok Set) (Set ∷ []) refl n) (λ k e. no_first (t k e))

  pub no_accessor_so : (c : Bool) → (p.token.kind ≡ Accessor → p.token.escaped ≡ false → Fails rule (Lex text) (plain full) end (no_newline ▸ field c false false f) q.prev_token_end) → Fails rule (Lex text) (plain full) end (tok Accessor ▸ no_newline ▸ field c false false f) p.prev_token_end
  unfolding covers apart
  no_accessor_so c t = starts_fails Accessor refl (λ e. fails_unescaped (tok Accessor) a refl e) (λ n. fails_at a (tok Accessor) (Accessor ∷ []) refl n) t

  pub no_async_so : (g : G) → (p.token.kind ≡ Async → p.token.escaped ≡ false → Fails rule (Lex text) (plain full) end (no_newline ▸ g) q.prev_token_end) → Fails rule (Lex text) (plain full) end ((tok Async ▸ no_newline) ▸ g) p.prev_token_end
  unfolding covers apart
  no_async_so g t = by (same_kind Async p.token.kind) p.token.escaped refl refl
    where
      by : (b c : Bool) → same_kind Async p.token.kind ≡ b → p.token.escaped ≡ c → Fails rule (Lex text) (plain full) end ((tok Async ▸ no_newline) ▸ g) p.prev_token_end
      by b true i e = no_first (no_first (fails_unescaped (tok Async) a refl e))
      by true false i e = let j = sym (kind_of_same Async p.token.kind i) in part_path_fails {ids = []} {js = []} (part_within (part_sign Async a j e refl m)) (t j e)
      by false false i e = no_first (no_first (fails_at a (tok Async) (Async ∷ []) refl (ap (λ (b : Bool). b || false) i)))

-- nothing stands behind a line, or before it
module _ {text : List ℕ} {f : Flags} {q : Parser} (b : At text f q) where
  pub by_line : {X : Test} {g : G} → Fails rule (Lex text) X end g q.prev_token_end → Fails rule (Lex text) X end (no_newline ▸ g) q.prev_token_end
  by_line {X} {g} n = go q.token.is_on_new_line refl
    where
      go : (w : Bool) → q.token.is_on_new_line ≡ w → Fails rule (Lex text) X end (no_newline ▸ g) q.prev_token_end
      go true w = no_same_line b w
      go false w = same_line b w ▹✗ n

  module _ (h : one_of_kinds (Star ∷ name_kinds) q.token.kind ≡ false) where
    no_key_there : (c : Bool) → NoKey text c f q.prev_token_end
    unfolding covers apart
    no_key_there true = fails_at b (name true true f) (Star ∷ name_kinds) refl h
    no_key_there false = fails_at b (name false true f) (Star ∷ name_kinds) refl h

    no_star_there : Fails rule (Lex text) (plain full) end (tok Star) q.prev_token_end
    unfolding covers apart
    no_star_there = fails_at b (tok Star) (Star ∷ name_kinds) refl h

    no_field_there : (c : Bool) → Fails rule (Lex text) (plain full) end (field c false false f) q.prev_token_end
    no_field_there c = fails_ended {X' = plain full} (no_first (no_key_there c)) (λ cs j ls mid l d h. (refl, refl))

    pub no_method_there : {t g : G} → Quiet t → (c s : Bool) → Fails rule (Lex text) (plain full) end (only s (tok Star) ▸ t ▸ name c true f ▸ g) q.prev_token_end
    no_method_there t c true = no_first no_star_there
    no_method_there t c false = done ▹✗ quiet_fails t (no_first (no_key_there c))

-- ---- which word it is

module _ {text : List ℕ} {f : Flags} {p : Parser} (a : At text f p) (w : one_of_kinds identifier_name_kinds p.token.kind ≡ true) where
  word_there : (y : Lexeme) → Lex text p.prev_token_end y → y.kind ≡ p.token.kind
  unfolding apart
  word_there y l = kind_here a refl (kinds_apart identifier_name_kinds unsettled refl p.token.kind w) y l

  word_lexeme : (y : Lexeme) → Lex text p.prev_token_end y → one_of_kinds identifier_name_kinds y.kind ≡ true
  word_lexeme y l = ap (one_of_kinds identifier_name_kinds) (word_there y l) ∙ w

  abbrev word_or_string : Look
  word_or_string k w e = is_word k || same_kind Str k

  abbrev a_word : Look
  a_word k w e = one_of_kinds identifier_name_kinds k

  words_are : covers a_word word_or_string ≡ true
  unfolding covers
  words_are = refl

  word_seen : (y : Lexeme) → Lex text p.prev_token_end y → IsTrue (seen word_or_string y)
  word_seen y l = covered a_word word_or_string words_are y.kind y.newline y.escaped (word_lexeme y l)

  module _ (k : p.token.kind ≡ Constructor) where
    units_are : (y : Lexeme) → Lex text p.prev_token_end y → bytes_eq (codes "constructor") y.units ≡ true
    units_are y l = constructor_units y l (word_lexeme y l) (word_there y l ∙ k)

    pub named_reads : {X : Test} → Reads rule (Lex text) X end named_constructor p.prev_token_end p.prev_token_end (λ us. us) (still 0)
    named_reads = pass_over (looks word_or_string word_seen) ▹ reads_text (bytes_eq (codes "constructor")) units_are

    pub unnamed_fails : {X : Test} → Fails rule (Lex text) X end not_constructor p.prev_token_end
    unnamed_fails = fails_alt (fails_look (λ k w e. not (word_or_string k w e)) (λ y l h. false≢true (sym (ap not (word_seen y l)) ∙ h))) (fails_text (λ u. not (bytes_eq (codes "constructor") u)) (λ y l. ap not (units_are y l)))

  module _ (k : p.token.kind ≡ Constructor → ⊥) where
    units_differ : (y : Lexeme) → Lex text p.prev_token_end y → bytes_eq (codes "constructor") y.units ≡ false
    units_differ y l = other_units y l (word_lexeme y l) (λ e. k (sym (word_there y l) ∙ e))

    pub unnamed_reads : {X : Test} → Reads rule (Lex text) X end not_constructor p.prev_token_end p.prev_token_end (λ us. us) (still 0)
    unnamed_reads = right (fails_look (λ k w e. not (word_or_string k w e)) (λ y l h. false≢true (sym (ap not (word_seen y l)) ∙ h))) ▹ reads_text (λ u. not (bytes_eq (codes "constructor") u)) (λ y l. ap not (units_differ y l))

    pub named_fails : {X : Test} → Fails rule (Lex text) X end named_constructor p.prev_token_end
    named_fails = pass_over (looks word_or_string word_seen) ▹✗ fails_text (bytes_eq (codes "constructor")) units_differ

-- ---- a method

module _ {text : List ℕ} {f : Flags} {first p q : Parser} (st : Bool) (af : At text f first) (b : Begun st text f first p) (a : At text f p) (w : one_of_kinds identifier_name_kinds p.token.kind ≡ true) (m : Moved text f p q) (h : q.token.kind ≡ LParen) where
  no_name_behind : one_of_kinds (Star ∷ name_kinds) q.token.kind ≡ false
  no_name_behind = ap (one_of_kinds (Star ∷ name_kinds)) h

  getters_fail : (c : Bool) → No text first.prev_token_end (getter_line st c f)
  getters_fail c = no_element st p method_definition (of Get) (element_flags st c) af b (word_no_sign p.token.kind w) (no_getter_so a m c (λ k e. no_key_there m.at no_name_behind c))

  setters_fail : (c : Bool) → No text first.prev_token_end (setter_line st c f)
  setters_fail c = no_element st p method_definition (of Set) (element_flags st c) af b (word_no_sign p.token.kind w) (no_setter_so a m c (λ k e. no_key_there m.at no_name_behind c))

  accessors_fail : (c : Bool) → No text first.prev_token_end (accessor_line st c f)
  accessors_fail c = no_element st p accessor_property no_op (element_flags st c) af b (word_no_sign p.token.kind w) (no_accessor_so a m c (λ k e. by_line m.at (no_field_there m.at no_name_behind c)))

  abbrev no_parenthesis : Look
  no_parenthesis k w e = not (same_kind LParen k)

  word_no_field : (c : Bool) → No text p.prev_token_end (field c (not st) true f)
  unfolding covers
  word_no_field true = no_bracket_field a w m false false
  word_no_field false = no_field_word a w m no_parenthesis (not st) true
      (λ x z l g. either_of (seen (is Semicolon) z) _ g (λ v. covered (is Semicolon) no_parenthesis refl z.kind z.newline z.escaped v) (λ v. covered behind_look no_parenthesis refl z.kind z.newline z.escaped (and_parts _ _ v).1))
      (λ y l e. false≢true (sym (ap (λ (k : Kind). not (same_kind LParen k)) (kind_here m.at h refl y l)) ∙ e))
      (ap (one_of_kinds (Eq ∷ [])) h)

  fields_fail : (c : Bool) → No text first.prev_token_end (field_line st c f)
  unfolding covers
  fields_fail c = fails_node (inside_plain {F' = behind_look} refl) (begun_fails st p af b (word_no_sign p.token.kind w) (part_fails (word_no_field c) kept_between))

  module _ {t : G} (quiet : Quiet t) where
    async_fails : (c s : Bool) → Fails rule (Lex text) (plain full) end ((tok Async ▸ no_newline) ▸ only s (tok Star) ▸ t ▸ name c true f ▸ method_left Method true s f) p.prev_token_end
    async_fails c s = no_async_so a m _ (λ k e. by_line m.at (no_method_there m.at no_name_behind quiet c s))

    star_fails : (g : G) → Fails rule (Lex text) (plain full) end (nothing ▸ tok Star ▸ g) p.prev_token_end
    unfolding covers apart
    star_fails g = done ▹✗ no_first (fails_at a (tok Star) (Star ∷ []) refl (word_apart (Star ∷ []) refl p.token.kind w))

    bracket_method_fails : Fails rule (Lex text) (plain full) end (plain_method t true true f) p.prev_token_end
    bracket_method_fails = fails_alt (fails_alt (done ▹✗ (done ▹✗ quiet_fails quiet (no_first (no_bracket_key a w m)))) (star_fails _)) (fails_alt (async_fails true false) (async_fails true true))

    tested_fails : Fails rule (Lex text) (plain full) end t p.prev_token_end → Fails rule (Lex text) (plain full) end (plain_method t false true f) p.prev_token_end
    tested_fails n = fails_alt (fails_alt (done ▹✗ (done ▹✗ no_first n)) (star_fails _)) (fails_alt (async_fails false false) (async_fails false true))

    only_name : Reads rule (Lex text) (plain full) end t p.prev_token_end p.prev_token_end (λ us. us) (still 0) → Goes rule (Lex text) (plain full) end (plain_method t false true f) p.prev_token_end (name false true f ▸ method_left Method false false f) p.prev_token_end (λ us. us) (still 0)
    only_name r = left (fails_alt (async_fails false false) (async_fails false true)) ▹ (left (star_fails _) ▹ (done ▹ (done ▹ pass_over r)))

    method_part : {r : Parser} {id : NodeId} → Reads rule (Lex text) (plain full) end t p.prev_token_end p.prev_token_end (λ us. us) (still 0) → KeyRead text f false p r id → Partway text f (element_slots st f (plain_method t false true f)) (method_left Method false false f ▸ kept) first r [] (Some id ∷ [])
    method_part r x = element_part st af b (word_no_sign p.token.kind w) (part_from (only_name r) (key_part x))

  bracket_line_fails : No text first.prev_token_end (method_line st true f)
  bracket_line_fails = no_element st p method_definition method_op (element_flags st true) af b (word_no_sign p.token.kind w) (bracket_method_fails (quiet_test (st || true)))

  others_fail : No text first.prev_token_end (forms st true f)
  others_fail = fails_alt bracket_line_fails (fails_alt (getters_fail true) (fails_alt (setters_fail true) (fails_alt (fields_fail true) (accessors_fail true))))

  only_method : No text first.prev_token_end (constructors st f) → Goes rule (Lex text) behind_element end (members st f) first.prev_token_end (method_line st false f) first.prev_token_end (λ us. us) (still 0)
  only_method n = one_of_two st f false others_fail n ▹ left (fails_alt (getters_fail false) (fails_alt (setters_fail false) (fails_alt (fields_fail false) (accessors_fail false))))

-- behind `static`
static_method : {text : List ℕ} {f : Flags} {first p q r : Parser} {id : NodeId} (w : Parser) (v : Result NodeId Stop) (start : ℕ) (af : At text f first) (b : Begun true text f first p) (a : At text f p) (i : one_of_kinds identifier_name_kinds p.token.kind ≡ true) (m : Moved text f p q) (h : q.token.kind ≡ LParen) → start ≡ first.token.span.start → KeyRead text f false p r id → ReadsMethod (record { start = start; is_static = true }) kind.Method (record { key = id; computed = false }) false false r w v → ElementOutcome text f (members true f) first w v
static_method {text} {f} {first} w v start af b a i m h s x y = element_by text f first w v (only_method true af b a i m h fails_never) (y text f first (element_slots true f (plain_method nothing false true f)) af s (method_part true af b a i m h quiet_nothing stay x))

-- elsewhere
plain_word_method : {text : List ℕ} {f : Flags} {first p q r : Parser} {id : NodeId} (w : Parser) (v : Result NodeId Stop) (start : ℕ) (af : At text f first) (b : Begun false text f first p) (a : At text f p) (i : one_of_kinds identifier_name_kinds p.token.kind ≡ true) (m : Moved text f p q) (h : q.token.kind ≡ LParen) → start ≡ first.token.span.start → KeyRead text f false p r id → (o : Bool) → same_kind Constructor p.token.kind ≡ o → ReadsMethod (record { start = start; is_static = false }) (cond o kind.Constructor kind.Method) (record { key = id; computed = false }) false false r w v → ElementOutcome text f (members false f) first w v
plain_word_method {text} {f} {first} {p} w v start af b a i m h s x true o y =
    let k : p.token.kind ≡ Constructor = sym (kind_of_same Constructor p.token.kind o) in
    let n : No text first.prev_token_end (method_line false false f) = no_element false p method_definition method_op (element_flags false false) af b (word_no_sign p.token.kind i) (tested_fails false af b a i m h quiet_unnamed (unnamed_fails a i k)) in
    let c : Goes rule (Lex text) behind_element end (members false f) first.prev_token_end (constructor_line f) first.prev_token_end (λ us. us) (still 0) = right (fails_alt (fails_alt n (fails_alt (getters_fail false af b a i m h false) (fails_alt (setters_fail false af b a i m h false) (fails_alt (fields_fail false af b a i m h false) (accessors_fail false af b a i m h false))))) (others_fail false af b a i m h)) in
    element_by text f first w v c (y text f first (element_slots false f (plain_method named_constructor false true f)) af s (method_part false af b a i m h quiet_named (named_reads a i k) x))
plain_word_method {text} {f} {first} {p} w v start af b a i m h s x false o y =
    let k : p.token.kind ≡ Constructor → ⊥ = λ e. false≢true (sym o ∙ ap (same_kind Constructor) e) in
    let n : No text first.prev_token_end (constructors false f) = no_element false p method_definition constructor_op (element_flags false false) af b (word_no_sign p.token.kind i) (tested_fails false af b a i m h quiet_named (named_fails a i k)) in
    element_by text f first w v (only_method false af b a i m h n) (y text f first (element_slots false f (plain_method not_constructor false true f)) af s (method_part false af b a i m h quiet_unnamed (unnamed_reads a i k) x))

method_read_so : {text : List ℕ} {f : Flags} {first p q r : Parser} {id : NodeId} (st : Bool) (w : Parser) (v : Result NodeId Stop) (start : ℕ) (af : At text f first) (b : Begun st text f first p) (a : At text f p) (i : one_of_kinds identifier_name_kinds p.token.kind ≡ true) (m : Moved text f p q) (h : q.token.kind ≡ LParen) → start ≡ first.token.span.start → KeyRead text f false p r id → ReadsMethod (record { start = start; is_static = st }) (kind_of_word st p.token.kind) (record { key = id; computed = false }) false false r w v → ElementOutcome text f (members st f) first w v
method_read_so true w v start af b a i m h s x y = static_method w v start af b a i m h s x y
method_read_so {p = p} false w v start af b a i m h s x y = plain_word_method w v start af b a i m h s x (same_kind Constructor p.token.kind) refl y

pub word_method_read : {text : List ℕ} {f : Flags} {first p q r : Parser} {id : NodeId} (st : Bool) (w : Parser) (v : Result NodeId Stop) (start : ℕ) (af : At text f first) (b : Begun st text f first p) (a : At text f p) (i : one_of_kinds identifier_name_kinds p.token.kind ≡ true) (m : Moved text f p q) (h : q.token.kind ≡ LParen) → start ≡ first.token.span.start → KeyRead text f false p r id → (o : MethodKind) → o ≡ kind_of_word st p.token.kind → ReadsMethod (record { start = start; is_static = st }) o (record { key = id; computed = false }) false false r w v → ElementOutcome text f (members st f) first w v
word_method_read {r = r} {id = id} st w v start af b a i m h s x o e y = method_read_so st w v start af b a i m h s x (subst (λ (u : MethodKind). ReadsMethod (record { start = start; is_static = st }) u (record { key = id; computed = false }) false false r w v) e y)
