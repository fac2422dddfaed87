-- Elements of classes as a whole (ECMA-262, 15.7): what `static` is by what stands behind it, and which lines are left.
use Rattle.std.proofs.Common.{ℕ, ◌≡◌, Bool, true, false, not, ◌&&◌, ◌||◌, List, [], ◌∷◌, IsTrue, refl, sym, ap, ap₂, ◌∙◌}
use Rattle.std.specs.Prelude.{Result, Ok, Err}
use Rattle.std.proofs.lemmas.Bool.{false≢true, and_from, and_parts, or_left, or_parts, or_right}
use Rattle.js_base.specs.declared.kind.Kind.TheVariants.{Accessor, Async, At as at_sign, Eof, Eq, Get, LCurly, LParen, Semicolon, Set, Star, Static}
use Rattle.js_base.specs.Kinds.{same_kind, one_of_kinds}
use Rattle.js_base.specs.KindSets.{identifier_name_kinds}
use Rattle.js_base.specs.Texts.{words}
use Rattle.js_grammar.specs.Trees.{NodeKind, Op, Slots, end, accessor_property, constructor_op, method_definition, method_op, no_op, of, property_definition}
use Rattle.js_grammar.specs.Grammar.{Lexeme, Lexemes, Look, begins_with_brace, here, is, never, nothing, seen, Takes, is_left, is_right, ◌▸◌, ◌◇◌}
use Rattle.js_grammar.specs.Insertion.{after_name, begins_name}
use Rattle.js_grammar.specs.Lexed.{Lexes}
use Rattle.js_grammar.specs.Parsing.{plain, full, still, Admits, Goes, Fails}
use Rattle.js_grammar.specs.Productions.{G, Flags, at, make, no_newline, tok, Element}
use Rattle.js_grammar.specs.Productions.{sym as symbol}
use Rattle.js_grammar.specs.Table.{rule, rule_of, field, getter, plain_method, setter}
use Rattle.js_grammar.proofs.Finding.{either_of}
use Rattle.js_grammar.proofs.Looks.{covers, covered, apart, not_both}
use Rattle.js_grammar.proofs.Calculus.{◌▹◌, ◌▹✗◌, by_rule, closes, fails_alt, fails_node, fails_rule, inside_full, inside_plain, part_fails, passes_none, right}
use Rattle.laws_primary.specs.js_tree.declared.id.NodeId.{NodeId}
use Rattle.laws_primary.specs.js_cursor.Parsers.{Parser}
use Rattle.laws_primary.specs.js_cursor.declared.stop.Stop.{Stop}
use Rattle.laws_primary.specs.laws_shared.Lexemes.{Lex}
use Rattle.laws_primary.specs.laws_shared.Moves.{Moved}
use Rattle.laws_primary.specs.laws_shared.Stands.{StandsHere}
use Rattle.laws_primary.specs.laws_shared.States.{At}
use Rattle.laws_primary.proofs.laws_shared.Here.{escaped_here, kind_here, unsettled}
use Rattle.laws_primary.proofs.laws_shared.Moving.{stops_so}
use Rattle.laws_primary.proofs.laws_shared.Paths.{◌⟶✗◌, begins_by, fails_at, token}
use Rattle.laws_primary.proofs.laws_shared.Signs.{other_kind}
use Rattle.laws_primary.proofs.laws_shared.Verdicts.{verdict_of}
use Rattle.laws_primary.proofs.AsyncWords.{any_between}
use Rattle.laws_primary.proofs.Properties.{kinds_apart}
use Rattle.laws_statements.proofs.CompoundStatements.{no_token}
use Rattle.laws_classes.specs.Elements.{ElementOutcome, behind_element, element_flags, element_slots}
use Rattle.laws_classes.specs.Members.{NamesMember, constructor_line, field_line, forms, members, name_kinds}
use Rattle.laws_classes.specs.StaticBlocks.{block_line}
use Rattle.laws_classes.proofs.Elements.{begun_fails, element_by, no_decorator, no_element, none_kept}
use Rattle.laws_classes.proofs.Fields.{kept_between}
use Rattle.laws_classes.proofs.Members.{No, behind_look, no_accessor_word, no_bracket_field, no_field_word, no_getter_word, no_method_word, no_setter_word, quiet_named, quiet_test}

-- ---- a choice of four, of which some aren't derived

module _ {text : List ℕ} {s : ℕ} {a b c d : G} where
  pub first_and_third : No text s b → No text s d → Goes rule (Lex text) behind_element end ((a ◇ b) ◇ c ◇ d) s (a ◇ c) s (λ us. us) (still 0)
  first_and_third n o = record { passes = passes_none; sound = λ us vs k ls rest l w e. to e; only = λ ts vs k ls rest l e t. from ts vs k ls rest l e t }
    where
      to : {us vs : Slots} {i j : ℕ} {ls rest : Lexemes} → Takes rule (a ◇ c) end us i ls vs j rest → Takes rule ((a ◇ b) ◇ c ◇ d) end us i ls vs j rest
      to (is_left e) = is_left (is_left e)
      to (is_right e) = is_right (is_left e)

      from : (ts vs : Slots) (k : ℕ) (ls rest : Lexemes) → Lexes (Lex text) s ls → Takes rule ((a ◇ b) ◇ c ◇ d) end ts s ls vs k rest → Admits behind_element ts (here rest) → (us : Slots) × (more : Lexemes) × (ts ≡ us) × Lexes (Lex text) s more × Takes rule (a ◇ c) end us s more vs k rest × (ls ≡ more)
      from ts vs k ls rest l (is_left (is_left e)) t = (ts, ls, refl, l, is_left e, refl)
      from ts vs k ls rest l (is_left (is_right e)) t = absurd (n.no ts vs k ls rest l e t)
      from ts vs k ls rest l (is_right (is_left e)) t = (ts, ls, refl, l, is_right e, refl)
      from ts vs k ls rest l (is_right (is_right e)) t = absurd (o.no ts vs k ls rest l e t)

  pub second_alone : No text s a → No text s c → No text s d → Goes rule (Lex text) behind_element end ((a ◇ b) ◇ c ◇ d) s (b ◇ never) s (λ us. us) (still 0)
  second_alone m n o = record { passes = passes_none; sound = λ us vs k ls rest l w e. to e; only = λ ts vs k ls rest l e t. from ts vs k ls rest l e t }
    where
      to : {us vs : Slots} {i j : ℕ} {ls rest : Lexemes} → Takes rule (b ◇ never) end us i ls vs j rest → Takes rule ((a ◇ b) ◇ c ◇ d) end us i ls vs j rest
      to (is_left e) = is_left (is_right e)
      to (is_right e) = elim e [ ]

      from : (ts vs : Slots) (k : ℕ) (ls rest : Lexemes) → Lexes (Lex text) s ls → Takes rule ((a ◇ b) ◇ c ◇ d) end ts s ls vs k rest → Admits behind_element ts (here rest) → (us : Slots) × (more : Lexemes) × (ts ≡ us) × Lexes (Lex text) s more × Takes rule (b ◇ never) end us s more vs k rest × (ls ≡ more)
      from ts vs k ls rest l (is_left (is_left e)) t = absurd (m.no ts vs k ls rest l e t)
      from ts vs k ls rest l (is_left (is_right e)) t = (ts, ls, refl, l, is_left e, refl)
      from ts vs k ls rest l (is_right (is_left e)) t = absurd (n.no ts vs k ls rest l e t)
      from ts vs k ls rest l (is_right (is_right e)) t = absurd (o.no ts vs k ls rest l e t)

  pub last_alone : No text s a → No text s b → No text s c → Goes rule (Lex text) behind_element end ((a ◇ b) ◇ c ◇ d) s d s (λ us. us) (still 0)
  last_alone m n o = right (fails_alt m n) ▹ right o

-- ---- where no `static` stands

module _ {text : List ℕ} {f : Flags} {p : Parser} (a : At text f p) (u : one_of_kinds (at_sign ∷ []) p.token.kind ≡ false) (s : StandsHere p Static false) where
  no_word : {g : G} (k : NodeKind) (o : Op) (fl : ℕ) → No text p.prev_token_end (make k o fl (element_slots true f g))
  no_word k o fl = fails_node inside_full (none_kept (no_decorator a u) ▹✗ no_token a Static refl s)

  no_static_form : (c : Bool) → No text p.prev_token_end (forms true c f)
  no_static_form c = fails_alt (no_word method_definition method_op (element_flags true c)) (fails_alt (no_word method_definition (of Get) (element_flags true c)) (fails_alt (no_word method_definition (of Set) (element_flags true c)) (fails_alt (no_word property_definition no_op (element_flags true c)) (no_word accessor_property no_op (element_flags true c)))))

  no_block_word : No text p.prev_token_end (block_line f)
  no_block_word = fails_node inside_full (no_token a Static refl s)

  pub plain_element : Goes rule (Lex text) behind_element end (rule (at Element f)) p.prev_token_end (members false f) p.prev_token_end (λ us. us) (still 0)
  unfolding rule rule_of
  plain_element = first_and_third (fails_alt (no_static_form false) (no_static_form true)) no_block_word

-- ---- behind `static`

abbrev more_kinds : Look
more_kinds k w e = one_of_kinds (LCurly ∷ Star ∷ name_kinds) k

abbrev no_more_kinds : Look
no_more_kinds k w e = not (one_of_kinds (LCurly ∷ Star ∷ name_kinds) k)

abbrev ends_some : Look
ends_some k w e = is Semicolon k w e || (same_kind Eof k || begins_with_brace k)

abbrev behind_static : Look
behind_static k w e = begins_name k w e || one_of_kinds (Star ∷ LCurly ∷ []) k

no_more_ends : apart more_kinds ends_some ≡ true
unfolding apart
no_more_ends = refl

more_behind : covers more_kinds behind_static ≡ true
unfolding covers words
more_behind = refl

module _ {text : List ℕ} {f : Flags} {p q : Parser} (a : At text f p) (h : StandsHere p Static true) (m : Moved text f p q) where
  static_no_sign : one_of_kinds (at_sign ∷ []) p.token.kind ≡ false
  static_no_sign = ap (one_of_kinds (at_sign ∷ [])) h.0

  static_word : one_of_kinds identifier_name_kinds p.token.kind ≡ true
  static_word = ap (one_of_kinds identifier_name_kinds) h.0

  -- a block's brace doesn't stand there
  no_block : StandsHere q LCurly false → No text p.prev_token_end (block_line f)
  no_block n = fails_node inside_full (token Static a h.0 h.1 refl m ⟶✗ no_token m.at LCurly refl n)

  -- no member begins there
  module _ (n : one_of_kinds (Star ∷ name_kinds) q.token.kind ≡ false) where
    no_prefixed : {g : G} (k : NodeKind) (o : Op) (fl : ℕ) → Fails rule (Lex text) (plain full) end g q.prev_token_end → No text p.prev_token_end (make k o fl (element_slots true f g))
    no_prefixed k o fl e = fails_node inside_full (none_kept (no_decorator a static_no_sign) ▹✗ (token Static a h.0 h.1 refl m ⟶✗ part_fails e any_between))

    none_there : (g : G) → begins_by g full (Star ∷ name_kinds) ≡ true → Fails rule (Lex text) (plain full) end g q.prev_token_end
    none_there g c = fails_at m.at g (Star ∷ name_kinds) c n

    no_prefixed_form : (c : Bool) → No text p.prev_token_end (forms true c f)
    unfolding covers apart
    no_prefixed_form false = fails_alt (no_prefixed method_definition method_op (element_flags true false) (none_there (plain_method nothing false true f) refl))
        (fails_alt (no_prefixed method_definition (of Get) (element_flags true false) (none_there (getter false true f) refl))
        (fails_alt (no_prefixed method_definition (of Set) (element_flags true false) (none_there (setter false true f) refl))
        (fails_alt (no_prefixed property_definition no_op (element_flags true false) (none_there (field false false true f) refl))
        (no_prefixed accessor_property no_op (element_flags true false) (none_there (tok Accessor ▸ no_newline ▸ field false false false f) refl)))))
    no_prefixed_form true = fails_alt (no_prefixed method_definition method_op (element_flags true true) (none_there (plain_method nothing true true f) refl))
        (fails_alt (no_prefixed method_definition (of Get) (element_flags true true) (none_there (getter true true f) refl))
        (fails_alt (no_prefixed method_definition (of Set) (element_flags true true) (none_there (setter true true f) refl))
        (fails_alt (no_prefixed property_definition no_op (element_flags true true) (none_there (field true false true f) refl))
        (no_prefixed accessor_property no_op (element_flags true true) (none_there (tok Accessor ▸ no_newline ▸ field true false false f) refl)))))

    -- so `static` is a name, where none begins a block either
    pub named_element : StandsHere q LCurly false → Goes rule (Lex text) behind_element end (rule (at Element f)) p.prev_token_end (members false f) p.prev_token_end (λ us. us) (still 0)
    unfolding rule rule_of
    named_element b = first_and_third (fails_alt (no_prefixed_form false) (no_prefixed_form true)) (no_block b)

  -- a member or a block begins there: `static` is no name
  module _ (i : one_of_kinds (LCurly ∷ Star ∷ name_kinds) q.token.kind ≡ true) where
    more_there : (y : Lexeme) → Lex text q.prev_token_end y → y.kind ≡ q.token.kind
    unfolding apart
    more_there y l = kind_here m.at refl (kinds_apart (LCurly ∷ Star ∷ name_kinds) unsettled refl q.token.kind i) y l

    no_parameters_there : one_of_kinds (LParen ∷ []) q.token.kind ≡ false
    unfolding apart
    no_parameters_there = kinds_apart (LCurly ∷ Star ∷ name_kinds) (LParen ∷ []) refl q.token.kind i

    no_value_there : one_of_kinds (Eq ∷ []) q.token.kind ≡ false
    unfolding apart
    no_value_there = kinds_apart (LCurly ∷ Star ∷ name_kinds) (Eq ∷ []) refl q.token.kind i

    static_to : (x z : Lexeme) → Lex text p.prev_token_end x → IsTrue (seen (closes (after_name true true x) behind_look) z) → IsTrue (seen no_more_kinds z)
    static_to x z l e = by (one_of_kinds (LCurly ∷ Star ∷ name_kinds) z.kind) refl
      where
        prefix : same_kind Static x.kind ≡ true
        prefix = ap (same_kind Static) (kind_here a h.0 refl x l)

        plain_x : not x.escaped ≡ true
        plain_x = ap not (escaped_here a x l ∙ h.1)

        goes : one_of_kinds (LCurly ∷ Star ∷ name_kinds) z.kind ≡ true → seen (after_name true true x) z ≡ true
        goes e = or_right _ _ (and_from _ _ (and_from _ _ plain_x prefix) (covered more_kinds behind_static more_behind z.kind z.newline z.escaped e))

        omitted : (b c d : Bool) → d ≡ true → (b || (c && not d)) ≡ true → b ≡ true
        omitted true c d e h = refl
        omitted false true true e h = absurd (false≢true h)
        omitted false false true e h = absurd (false≢true h)
        omitted false c false e h = absurd (false≢true e)

        by : (b : Bool) → one_of_kinds (LCurly ∷ Star ∷ name_kinds) z.kind ≡ b → not (one_of_kinds (LCurly ∷ Star ∷ name_kinds) z.kind) ≡ true
        by false c = ap not c
        by true c = absurd (not_both more_kinds ends_some no_more_ends z.kind z.newline z.escaped c (either_of (seen (is Semicolon) z) _ e (λ v. or_left (seen (is Semicolon) z) _ v) (λ v. or_right (seen (is Semicolon) z) _ (omitted _ _ _ (goes c) (and_parts _ _ v).0))))

    static_no_field : (c : Bool) → No text p.prev_token_end (field c true true f)
    static_no_field true = no_bracket_field a static_word m false false
    static_no_field false = no_field_word a static_word m no_more_kinds true true static_to (λ y l e. false≢true (sym (ap not (ap (one_of_kinds (LCurly ∷ Star ∷ name_kinds)) (more_there y l) ∙ i)) ∙ e)) no_value_there

    no_plain_field : (c : Bool) → No text p.prev_token_end (field_line false c f)
    unfolding covers
    no_plain_field c = fails_node (inside_plain {F' = behind_look} refl) (begun_fails false p a refl static_no_sign (part_fails (static_no_field c) kept_between))

    no_plain_form : (c : Bool) → No text p.prev_token_end (forms false c f)
    no_plain_form c = fails_alt (no_element false p method_definition method_op (element_flags false c) a refl static_no_sign (no_method_word a static_word m no_parameters_there (quiet_test c) c (ap (one_of_kinds (Async ∷ [])) h.0)))
        (fails_alt (no_element false p method_definition (of Get) (element_flags false c) a refl static_no_sign (no_getter_word a static_word m c (ap (one_of_kinds (Get ∷ [])) h.0)))
        (fails_alt (no_element false p method_definition (of Set) (element_flags false c) a refl static_no_sign (no_setter_word a static_word m c (ap (one_of_kinds (Set ∷ [])) h.0)))
        (fails_alt (no_plain_field c)
        (no_element false p accessor_property no_op (element_flags false c) a refl static_no_sign (no_accessor_word a static_word m c (ap (one_of_kinds (Accessor ∷ [])) h.0))))))

    no_constructor_named : No text p.prev_token_end (constructor_line f)
    no_constructor_named = no_element false p method_definition constructor_op (element_flags false false) a refl static_no_sign (no_method_word a static_word m no_parameters_there quiet_named false (ap (one_of_kinds (Async ∷ [])) h.0))

    pub static_element : StandsHere q LCurly false → Goes rule (Lex text) behind_element end (rule (at Element f)) p.prev_token_end (members true f) p.prev_token_end (λ us. us) (still 0)
    unfolding rule rule_of
    static_element b = second_alone (fails_alt (no_plain_form false) (no_plain_form true)) no_constructor_named (no_block b)

  pub block_element : q.token.kind ≡ LCurly → Goes rule (Lex text) behind_element end (rule (at Element f)) p.prev_token_end (block_line f) p.prev_token_end (λ us. us) (still 0)
  unfolding rule rule_of
  block_element k =
      let n = ap (one_of_kinds (Star ∷ name_kinds)) k in
      let i = ap (one_of_kinds (LCurly ∷ Star ∷ name_kinds)) k in
      last_alone (fails_alt (no_plain_form i false) (no_plain_form i true)) (fails_alt (no_prefixed_form n false) (no_prefixed_form n true)) (no_constructor_named i)

-- ---- what the code saw

-- a member begins behind it: none with a decorator, nor a block
pub member_there : (q : Parser) → one_of_kinds (Star ∷ name_kinds) q.token.kind ≡ true → (q.token.kind ≡ at_sign → ⊥) × (one_of_kinds (LCurly ∷ Star ∷ name_kinds) q.token.kind ≡ true)
member_there q e = (λ k. false≢true (sym (ap (one_of_kinds (Star ∷ name_kinds)) k) ∙ e), or_right (same_kind LCurly q.token.kind) _ e)

-- `static` is a name
pub static_named : {p q : Parser} → p.token.kind ≡ Static → (q.token.kind ≡ LCurly → ⊥) → one_of_kinds (Star ∷ name_kinds) q.token.kind ≡ false → NamesMember false p q
static_named {p} {q} k b n = record {
  accessor_method = λ e i. absurd (false≢true (sym (ap (one_of_kinds (Get ∷ Set ∷ [])) k) ∙ i));
  async_method = λ e i. absurd (let z = sym k ∙ i in cc);
  accessor_field = λ e i. absurd (let z = sym k ∙ i in cc);
  static_member = λ u e i. ap₂ (λ (x y : Bool). x || y) (or_parts (same_kind LCurly q.token.kind) false (other_kind LCurly q.token.kind b)).0 n;
}

-- ---- the answer

module _ (text : List ℕ) (f : Flags) (p : Parser) where
  by_symbol : (q : Parser) (r : Result NodeId Stop) → ElementOutcome text f (rule (at Element f)) p q r → ElementOutcome text f (symbol Element f) p q r
  by_symbol q (Ok id) x = record { at = x.at; same = x.same; further = x.further; label = x.label; element = x.element; slots = x.slots; pass = x.pass; walked = x.walked; verdict = verdict_of x.verdict (λ y. record { reach = y.reach; near = y.near; goes = by_rule (λ l cs vs y d. d) y.goes refl }) (λ n. fails_rule (λ l cs vs y d. d) n); holds = x.holds; keeps = x.keeps }
  by_symbol q (Err e) x = stops_so p q e (λ n. fails_rule (λ l cs vs y d. d) n) x

  -- the line that is left was read
  pub element_read : {g : G} (q : Parser) (r : Result NodeId Stop) → Goes rule (Lex text) behind_element end (rule (at Element f)) p.prev_token_end g p.prev_token_end (λ us. us) (still 0) → ElementOutcome text f g p q r → ElementOutcome text f (symbol Element f) p q r
  element_read q r c x = by_symbol q r (element_by text f p q r c x)
