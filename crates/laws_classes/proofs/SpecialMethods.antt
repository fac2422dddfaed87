-- Generators and asynchronous methods of classes (ECMA-262, 15.5, 15.6 and 15.8): what stands before their names.
use Rattle.std.proofs.Common.{ℕ, ◌≡◌, Bool, true, false, List, [], ◌∷◌, refl, ap}
use Rattle.js_base.specs.declared.kind.Kind.TheVariants.{Accessor, Async, At as at_sign, Get, LParen, Set, Star}
use Rattle.js_base.specs.Kinds.{one_of_kinds}
use Rattle.js_base.specs.KindSets.{identifier_name_kinds}
use Rattle.js_base.specs.Texts.{words}
use Rattle.js_grammar.specs.Trees.{accessor_property, end, method_definition, no_op, of}
use Rattle.js_grammar.specs.Grammar.{kept, nothing, ◌▸◌}
use Rattle.js_grammar.specs.Parsing.{plain, full, still, Goes, Fails}
use Rattle.js_grammar.specs.Productions.{G, Flags, no_newline, tok}
use Rattle.js_grammar.specs.Table.{rule, name, plain_method}
use Rattle.js_grammar.proofs.Looks.{covers, apart}
use Rattle.js_grammar.proofs.Calculus.{◌▹◌, ◌▹✗◌, done, fails_alt, fails_ended, fails_node, inside_plain, left, part_fails, right}
use Rattle.laws_primary.specs.js_cursor.Parsers.{Parser}
use Rattle.laws_primary.specs.Objects.{method_left}
use Rattle.laws_primary.specs.laws_shared.Arguments.{Partway}
use Rattle.laws_primary.specs.laws_shared.Lexemes.{Lex}
use Rattle.laws_primary.specs.laws_shared.Moves.{Moved}
use Rattle.laws_primary.specs.laws_shared.States.{At}
use Rattle.laws_primary.specs.laws_shared.declared.nested.MethodForm.TheVariants.{Method}
use Rattle.laws_primary.proofs.laws_shared.Parts.{part_from, part_goes, part_path_fails, part_sign, parts}
use Rattle.laws_primary.proofs.laws_shared.Paths.{fails_at}
use Rattle.laws_primary.proofs.laws_shared.Signs.{plain_sign}
use Rattle.laws_primary.proofs.AsyncWords.{part_within, same_line}
use Rattle.laws_primary.proofs.Methods.{no_first}
use Rattle.laws_primary.proofs.Properties.{kinds_apart}
use Rattle.laws_classes.specs.Elements.{Begun, element_flags, element_slots}
use Rattle.laws_classes.specs.Members.{accessor_line, field_line, getter_line, name_kinds, setter_line}
use Rattle.laws_classes.specs.Names.{NoKey}
use Rattle.laws_classes.specs.SpecialMethods.{BeginsMethod}
use Rattle.laws_classes.proofs.Elements.{begun_fails, element_part, no_element}
use Rattle.laws_classes.proofs.Fields.{kept_between}
use Rattle.laws_classes.proofs.Members.{No, Quiet, behind_look, no_accessor_word, no_getter_word, no_line_field, no_parameters, no_setter_word, quiet_fails, quiet_named, quiet_test}

-- a `*` has no escape
pub star_plain : {text : List ℕ} {f : Flags} {p : Parser} → At text f p → p.token.kind ≡ Star → p.token.escaped ≡ false
unfolding words
star_plain a k = plain_sign Star a k refl refl refl

-- no name begins with it
no_starred_key : {text : List ℕ} {f : Flags} {p : Parser} → At text f p → p.token.kind ≡ Star → (c : Bool) → NoKey text c f p.prev_token_end
unfolding covers apart
no_starred_key {f = f} a k true = fails_at a (name true true f) name_kinds refl (ap (one_of_kinds name_kinds) k)
no_starred_key {f = f} a k false = fails_at a (name false true f) name_kinds refl (ap (one_of_kinds name_kinds) k)

-- ---- a generator

module _ {text : List ℕ} {f : Flags} {first p q : Parser} (st : Bool) (af : At text f first) (b : Begun st text f first p) (a : At text f p) (k : p.token.kind ≡ Star) (m : Moved text f p q) where
  no_sign : one_of_kinds (at_sign ∷ []) p.token.kind ≡ false
  no_sign = ap (one_of_kinds (at_sign ∷ [])) k

  no_async : (g : G) → Fails rule (Lex text) (plain full) end ((tok Async ▸ no_newline) ▸ g) p.prev_token_end
  unfolding covers apart
  no_async g = no_first (no_first (fails_at a (tok Async) (Async ∷ []) refl (ap (one_of_kinds (Async ∷ [])) k)))

  starred_only : {t : G} → Quiet t → (c : Bool) → Goes rule (Lex text) (plain full) end (plain_method t c true f) p.prev_token_end (tok Star ▸ t ▸ name c true f ▸ method_left Method false true f) p.prev_token_end (λ us. us) (still 0)
  starred_only t c = left (fails_alt (no_async _) (no_async _)) ▹ (right (done ▹✗ (done ▹✗ quiet_fails t (no_first (no_starred_key a k c)))) ▹ done)

  starred_part : {t : G} → Quiet t → (c : Bool) → Partway text f (element_slots st f (plain_method t c true f)) ((t ▸ name c true f ▸ method_left Method false true f) ▸ kept) first q [] []
  starred_part t c = element_part st af b no_sign (part_from (starred_only t c) (part_sign Star a k (star_plain a k) refl m))

  no_get : (c : Bool) → No text first.prev_token_end (getter_line st c f)
  unfolding covers apart
  no_get c = no_element st p method_definition (of Get) (element_flags st c) af b no_sign (no_first (fails_at a (tok Get) (Get ∷ []) refl (ap (one_of_kinds (Get ∷ [])) k)))

  no_set : (c : Bool) → No text first.prev_token_end (setter_line st c f)
  unfolding covers apart
  no_set c = no_element st p method_definition (of Set) (element_flags st c) af b no_sign (no_first (fails_at a (tok Set) (Set ∷ []) refl (ap (one_of_kinds (Set ∷ [])) k)))

  no_accessor : (c : Bool) → No text first.prev_token_end (accessor_line st c f)
  unfolding covers apart
  no_accessor c = no_element st p accessor_property no_op (element_flags st c) af b no_sign (no_first (fails_at a (tok Accessor) (Accessor ∷ []) refl (ap (one_of_kinds (Accessor ∷ [])) k)))

  no_starred_field : (c : Bool) → No text first.prev_token_end (field_line st c f)
  unfolding covers
  no_starred_field c = fails_node (inside_plain {F' = behind_look} refl) (begun_fails st p af b no_sign (part_fails (fails_ended {X' = plain full} (no_first (no_starred_key a k c)) (λ cs j ls mid l d h. (refl, refl))) kept_between))

  pub generator_begins : BeginsMethod text f st false true first q
  generator_begins = record { at = m.at; method = λ d c. starred_part (quiet_test d) c; constructor = starred_part quiet_named false; getter = no_get; setter = no_set; field = no_starred_field; accessor = no_accessor }

-- ---- an asynchronous method

module _ {text : List ℕ} {f : Flags} {first p q : Parser} (st : Bool) (af : At text f first) (b : Begun st text f first p) (a : At text f p) (k : p.token.kind ≡ Async) (e : p.token.escaped ≡ false) (l : q.token.is_on_new_line ≡ false) (i : one_of_kinds (Star ∷ name_kinds) q.token.kind ≡ true) (m : Moved text f p q) where
  word : one_of_kinds identifier_name_kinds p.token.kind ≡ true
  word = ap (one_of_kinds identifier_name_kinds) k

  word_no_at : one_of_kinds (at_sign ∷ []) p.token.kind ≡ false
  word_no_at = ap (one_of_kinds (at_sign ∷ [])) k

  no_parenthesis : one_of_kinds (LParen ∷ []) q.token.kind ≡ false
  unfolding apart
  no_parenthesis = kinds_apart (Star ∷ name_kinds) (LParen ∷ []) refl q.token.kind i

  no_plain_method : {t : G} → Quiet t → (c : Bool) → Fails rule (Lex text) (plain full) end (nothing ▸ nothing ▸ t ▸ name c true f ▸ method_left Method false false f) p.prev_token_end
  no_plain_method t c = done ▹✗ (done ▹✗ quiet_fails t (no_parameters a word m no_parenthesis c))

  no_star_first : (g : G) → Fails rule (Lex text) (plain full) end (nothing ▸ tok Star ▸ g) p.prev_token_end
  unfolding covers apart
  no_star_first g = done ▹✗ no_first (fails_at a (tok Star) (Star ∷ []) refl (ap (one_of_kinds (Star ∷ [])) k))

  -- behind `async`
  async_passed : (g : G) → Partway text f ((tok Async ▸ no_newline) ▸ g) g p q [] []
  async_passed g = part_goes (part_within (part_sign Async a k e refl m)) (same_line m.at l)

  async_field : (c : Bool) → No text first.prev_token_end (field_line st c f)
  unfolding covers
  async_field c = fails_node (inside_plain {F' = behind_look} refl) (begun_fails st p af b word_no_at (part_fails (no_line_field a word m i st c l) kept_between))

  async_getter : (c : Bool) → No text first.prev_token_end (getter_line st c f)
  async_getter c = no_element st p method_definition (of Get) (element_flags st c) af b word_no_at (no_getter_word a word m c (ap (one_of_kinds (Get ∷ [])) k))

  async_setter : (c : Bool) → No text first.prev_token_end (setter_line st c f)
  async_setter c = no_element st p method_definition (of Set) (element_flags st c) af b word_no_at (no_setter_word a word m c (ap (one_of_kinds (Set ∷ [])) k))

  async_accessor : (c : Bool) → No text first.prev_token_end (accessor_line st c f)
  async_accessor c = no_element st p accessor_property no_op (element_flags st c) af b word_no_at (no_accessor_word a word m c (ap (one_of_kinds (Accessor ∷ [])) k))

  -- it is no generator
  module _ (n : one_of_kinds (Star ∷ []) q.token.kind ≡ false) where
    no_star_behind : (g : G) → Fails rule (Lex text) (plain full) end ((tok Async ▸ no_newline) ▸ tok Star ▸ g) p.prev_token_end
    unfolding covers apart
    no_star_behind g = part_path_fails (async_passed (tok Star ▸ g)) (no_first (fails_at m.at (tok Star) (Star ∷ []) refl n))

    async_part : {t : G} → Quiet t → (c : Bool) → Partway text f (element_slots st f (plain_method t c true f)) ((t ▸ name c true f ▸ method_left Method true false f) ▸ kept) first q [] []
    async_part t c = element_part st af b word_no_at (part_from (right (fails_alt (no_plain_method t c) (no_star_first _)) ▹ left (no_star_behind _)) (part_goes (async_passed _) done))

    pub async_begins : BeginsMethod text f st true false first q
    async_begins = record { at = m.at; method = λ d c. async_part (quiet_test d) c; constructor = async_part quiet_named false; getter = async_getter; setter = async_setter; field = async_field; accessor = async_accessor }

  -- it is one
  module _ {r : Parser} (h : q.token.kind ≡ Star) (o : Moved text f q r) where
    no_name_behind : {t : G} → Quiet t → (c : Bool) → Fails rule (Lex text) (plain full) end ((tok Async ▸ no_newline) ▸ nothing ▸ t ▸ name c true f ▸ method_left Method true false f) p.prev_token_end
    no_name_behind t c = part_path_fails (async_passed _) (done ▹✗ quiet_fails t (no_first (no_starred_key m.at h c)))

    async_starred_part : {t : G} → Quiet t → (c : Bool) → Partway text f (element_slots st f (plain_method t c true f)) ((t ▸ name c true f ▸ method_left Method true true f) ▸ kept) first r [] []
    async_starred_part t c = element_part st af b word_no_at (part_from (right (fails_alt (no_plain_method t c) (no_star_first _)) ▹ right (no_name_behind t c)) (parts (async_passed _) (part_sign Star m.at h (star_plain m.at h) refl o)))

    pub async_generator_begins : BeginsMethod text f st true true first r
    async_generator_begins = record { at = o.at; method = λ d c. async_starred_part (quiet_test d) c; constructor = async_starred_part quiet_named false; getter = async_getter; setter = async_setter; field = async_field; accessor = async_accessor }
