-- Members of classes (ECMA-262, 15.7): which of the lines is left, by the lexemes that a member begins with.
use Rattle.std.proofs.Common.{ℕ, ◌≡◌, Bool, true, false, not, ◌&&◌, ◌||◌, cond, List, [], ◌∷◌, IsTrue, refl, sym, ap, subst, ◌∙◌}
use Rattle.std.proofs.lemmas.Bool.{false≢true, and_from, and_parts, or_left, or_right}
use Rattle.js_base.specs.declared.kind.Kind.TheVariants.{Accessor, Async, Eof, Eq, Get, LBrack, LParen, PrivateIdentifier, Semicolon, Set, Star}
use Rattle.js_base.specs.Kinds.{same_kind, one_of_kinds}
use Rattle.js_base.specs.KindSets.{identifier_name_kinds}
use Rattle.js_grammar.specs.Trees.{Slots, end, hole, tree, identifier_name, no_op}
use Rattle.js_grammar.specs.Grammar.{Lexeme, Lexemes, Look, begins_with_brace, ended, here, is, may_omit, nothing, seen, Takes, is_empty_slot, is_left, is_look, is_nothing, is_right, is_seq, is_such, is_text, ◌▸◌, ◌◇◌}
use Rattle.js_grammar.specs.Insertion.{after_name, begins_name, by_field}
use Rattle.js_grammar.specs.Lexed.{Lexes}
use Rattle.js_grammar.specs.Parsing.{Test, plain, full, still, Admits, Goes, Fails}
use Rattle.js_grammar.specs.Productions.{G, Flags, at, field_of, no_newline, slot, tok, IdentifierName, Init, PrivateName}
use Rattle.js_grammar.specs.Productions.{sym as symbol}
use Rattle.js_grammar.specs.Table.{rule, rule_of, field, getter, name, named_constructor, not_constructor, number, plain_method, setter, string}
use Rattle.js_grammar.specs.Follow.{after}
use Rattle.js_grammar.proofs.Finding.{either_of}
use Rattle.js_grammar.proofs.Looks.{covers, covered, apart, not_both}
use Rattle.js_grammar.proofs.Calculus.{◌▹◌, ◌▹✗◌, closes, done, fails_alt, fails_ended, fails_nothing, here_at, left, part_fails, reads_empty_slot, right, then_by}
use Rattle.laws_primary.specs.js_cursor.Parsers.{Parser}
use Rattle.laws_primary.specs.Objects.{method_left}
use Rattle.laws_primary.specs.laws_shared.declared.nested.MethodForm.TheVariants.{Method}
use Rattle.laws_primary.specs.laws_shared.Lexemes.{Lex}
use Rattle.laws_primary.specs.laws_shared.Moves.{Moved}
use Rattle.laws_primary.specs.laws_shared.States.{At}
use Rattle.laws_primary.proofs.laws_shared.Here.{escaped_here, kind_here, newline_here, unsettled}
use Rattle.laws_primary.proofs.laws_shared.Paths.{Path, ◌⟼◌, ◌⟶✗◌, by_symbol_as, fails_at, label_here}
use Rattle.laws_primary.proofs.laws_shared.Verdicts.{verdict_of}
use Rattle.laws_primary.proofs.Members.{name_of}
use Rattle.laws_primary.proofs.Methods.{no_first}
use Rattle.laws_primary.proofs.Properties.{kinds_apart, word_apart}
use Rattle.laws_primary.proofs.PropertyNames.{literal_kinds}
use Rattle.laws_statements.proofs.Statements.{closers, closes_or_line, omitted_so, semicolon_closes, semicolon_look}
use Rattle.laws_classes.specs.Elements.{behind_element, behind_kinds}
use Rattle.laws_classes.specs.Fields.{field_parts}
use Rattle.laws_classes.specs.Members.{accessor_line, constructors, field_line, forms, getter_line, members, method_line, name_kinds, setter_line}
use Rattle.laws_classes.specs.Names.{NoKey}
use Rattle.laws_classes.proofs.Fields.{OneTree, name_is_tree}

abbrev pub No : List ℕ → ℕ → G → Type 0
No text s g = Fails rule (Lex text) behind_element end g s

-- ---- one of the lines

module _ {text : List ℕ} (st : Bool) (f : Flags) {s : ℕ} where
  pub one_of_two : (c : Bool) → No text s (forms st (not c) f) → No text s (constructors st f) → Goes rule (Lex text) behind_element end (members st f) s (forms st c f) s (λ us. us) (still 0)
  one_of_two false n m = left m ▹ left n
  one_of_two true n m = left m ▹ right n

  pub only_getter : (c : Bool) → ((d : Bool) → No text s (method_line st d f)) → No text s (getter_line st (not c) f) → ((d : Bool) → No text s (setter_line st d f)) → ((d : Bool) → No text s (field_line st d f)) → ((d : Bool) → No text s (accessor_line st d f)) → No text s (constructors st f) → Goes rule (Lex text) behind_element end (members st f) s (getter_line st c f) s (λ us. us) (still 0)
  only_getter c m g t d a k = one_of_two c (fails_alt (m (not c)) (fails_alt g (fails_alt (t (not c)) (fails_alt (d (not c)) (a (not c)))))) k ▹ (right (m c) ▹ left (fails_alt (t c) (fails_alt (d c) (a c))))

  pub only_setter : (c : Bool) → ((d : Bool) → No text s (method_line st d f)) → ((d : Bool) → No text s (getter_line st d f)) → No text s (setter_line st (not c) f) → ((d : Bool) → No text s (field_line st d f)) → ((d : Bool) → No text s (accessor_line st d f)) → No text s (constructors st f) → Goes rule (Lex text) behind_element end (members st f) s (setter_line st c f) s (λ us. us) (still 0)
  only_setter c m g t d a k = one_of_two c (fails_alt (m (not c)) (fails_alt (g (not c)) (fails_alt t (fails_alt (d (not c)) (a (not c)))))) k ▹ (right (m c) ▹ (right (g c) ▹ left (fails_alt (d c) (a c))))

  pub only_accessor : (c : Bool) → ((d : Bool) → No text s (method_line st d f)) → ((d : Bool) → No text s (getter_line st d f)) → ((d : Bool) → No text s (setter_line st d f)) → ((d : Bool) → No text s (field_line st d f)) → No text s (accessor_line st (not c) f) → No text s (constructors st f) → Goes rule (Lex text) behind_element end (members st f) s (accessor_line st c f) s (λ us. us) (still 0)
  only_accessor c m g t d a k = one_of_two c (fails_alt (m (not c)) (fails_alt (g (not c)) (fails_alt (t (not c)) (fails_alt (d (not c)) a)))) k ▹ (right (m c) ▹ (right (g c) ▹ (right (t c) ▹ right (d c))))

  pub no_member : ((d : Bool) → No text s (method_line st d f)) → ((d : Bool) → No text s (getter_line st d f)) → ((d : Bool) → No text s (setter_line st d f)) → ((d : Bool) → No text s (field_line st d f)) → ((d : Bool) → No text s (accessor_line st d f)) → No text s (constructors st f) → No text s (members st f)
  no_member m g t d a k = fails_alt (fails_alt (none false) (none true)) k
    where
      none : (c : Bool) → No text s (forms st c f)
      none c = fails_alt (m c) (fails_alt (g c) (fails_alt (t c) (fails_alt (d c) (a c))))

-- ---- tests of the name, which take nothing

pub record Quiet (t : G) : Type 0 where
  pub takes : {ks ts us : Slots} {i j : ℕ} {ls rest : Lexemes} → Takes rule t ks ts i ls us j rest → (ts ≡ us) × (i ≡ j) × (ls ≡ rest)

pub quiet_nothing : Quiet nothing
quiet_nothing = record { takes = λ d. by d }
  where
    by : {ks ts us : Slots} {i j : ℕ} {ls rest : Lexemes} → Takes rule nothing ks ts i ls us j rest → (ts ≡ us) × (i ≡ j) × (ls ≡ rest)
    by is_nothing = (refl, refl, refl)

pub quiet_named : Quiet named_constructor
quiet_named = record { takes = λ d. by d }
  where
    by : {ks ts us : Slots} {i j : ℕ} {ls rest : Lexemes} → Takes rule named_constructor ks ts i ls us j rest → (ts ≡ us) × (i ≡ j) × (ls ≡ rest)
    by (is_seq (is_look q) (is_text r)) = (refl, refl, refl)

pub quiet_unnamed : Quiet not_constructor
quiet_unnamed = record { takes = λ d. by d }
  where
    by : {ks ts us : Slots} {i j : ℕ} {ls rest : Lexemes} → Takes rule not_constructor ks ts i ls us j rest → (ts ≡ us) × (i ≡ j) × (ls ≡ rest)
    by (is_left (is_look q)) = (refl, refl, refl)
    by (is_right (is_text r)) = (refl, refl, refl)

pub quiet_test : (b : Bool) → Quiet (cond b nothing not_constructor)
quiet_test true = quiet_nothing
quiet_test false = quiet_unnamed

pub quiet_fails : {text : List ℕ} {t g : G} {s : ℕ} → Quiet t → Fails rule (Lex text) (plain full) end g s → Fails rule (Lex text) (plain full) end (t ▸ g) s
quiet_fails {text} {t} {g} {s} q n = record { no = λ ts vs k ls rest l d e. by ts vs k ls rest l d }
  where
    by : (ts vs : Slots) (k : ℕ) (ls rest : Lexemes) → Lexes (Lex text) s ls → Takes rule (t ▸ g) end ts s ls vs k rest → ⊥
    by ts vs k ls rest l (is_seq {us = us} {j = j} {mid = mid} d e) = let z = q.takes d in n.no us vs k mid rest (subst (λ (v : Lexemes). Lexes (Lex text) s v) z.2 l) (subst (λ (v : ℕ). Takes rule g end us v mid vs k rest) (sym z.1) e) (refl, refl)

-- ---- a word

-- what may stand behind the parts of a field that is a word alone, by a test of the next lexeme
abbrev pub by_word : Look → Slots → Look
by_word F (tree k ks (hole us)) = F
by_word F us = full

abbrev pub behind_word : Look → Test
behind_word F = record { base = full; by = by_word F }

abbrev pub behind_look : Look
behind_look k w e = one_of_kinds behind_kinds k

module _ {text : List ℕ} {f : Flags} {p q : Parser} (a : At text f p) (w : one_of_kinds identifier_name_kinds p.token.kind ≡ true) (m : Moved text f p q) where
  abbrev other_names : G
  other_names = string ◇ number ◇ symbol PrivateName f

  key_word_alone : Path text f (plain full) (name false true f) p nothing q (tree (label_here identifier_name no_op p q) end)
  unfolding covers apart
  key_word_alone = left (fails_at a other_names (PrivateIdentifier ∷ literal_kinds) refl (word_apart (PrivateIdentifier ∷ literal_kinds) refl p.token.kind w)) ⟼ by_symbol_as {X' = after (at IdentifierName f)} (λ l cs vs y d. (refl, refl)) (name_of text f p q a w m)

  pub key_word : {X : Test} {b : G} → Path text f X (name false true f ▸ b) p b q (tree (label_here identifier_name no_op p q) end)
  key_word = let y = key_word_alone in record {
    at = y.at;
    further = y.further;
    pass = y.pass;
    walked = y.walked;
    verdict = verdict_of y.verdict
        (λ z. record { reach = z.reach; near = z.near; goes = then_by {X' = plain full} z.goes (record { admits = λ ts us vs j k ls mid rest d d' e. (refl, refl) }) })
        (λ n. part_fails {X' = plain full} n (record { admits = λ ts us vs j k ls mid rest d d' e. (refl, refl) }));
  }

  pub no_bracket_key : NoKey text true f p.prev_token_end
  unfolding covers apart
  no_bracket_key = fails_at a (name true true f) (LBrack ∷ []) refl (word_apart (LBrack ∷ []) refl p.token.kind w)

  -- no method, where no parameters stand behind the word, and it is no `async`
  module _ (h : one_of_kinds (LParen ∷ []) q.token.kind ≡ false) where
    pub no_parameters : (c : Bool) → Fails rule (Lex text) (plain full) end (name c true f ▸ method_left Method false false f) p.prev_token_end
    unfolding covers apart
    no_parameters true = no_first no_bracket_key
    no_parameters false = key_word ⟶✗ fails_at m.at (method_left Method false false f) (LParen ∷ []) refl h

    pub no_method_word : {t : G} → Quiet t → (c : Bool) → one_of_kinds (Async ∷ []) p.token.kind ≡ false → Fails rule (Lex text) (plain full) end (plain_method t c true f) p.prev_token_end
    unfolding covers apart
    no_method_word t c n = fails_alt (fails_alt (done ▹✗ (done ▹✗ quiet_fails t (no_parameters c))) (done ▹✗ no_first (fails_at a (tok Star) (Star ∷ []) refl (word_apart (Star ∷ []) refl p.token.kind w)))) (fails_alt (no_async _) (no_async _))
      where
        no_async : (g : G) → Fails rule (Lex text) (plain full) end ((tok Async ▸ no_newline) ▸ g) p.prev_token_end
        no_async g = no_first (no_first (fails_at a (tok Async) (Async ∷ []) refl n))

  pub no_getter_word : (c : Bool) → one_of_kinds (Get ∷ []) p.token.kind ≡ false → Fails rule (Lex text) (plain full) end (getter c true f) p.prev_token_end
  unfolding covers apart
  no_getter_word c n = no_first (fails_at a (tok Get) (Get ∷ []) refl n)

  pub no_setter_word : (c : Bool) → one_of_kinds (Set ∷ []) p.token.kind ≡ false → Fails rule (Lex text) (plain full) end (setter c true f) p.prev_token_end
  unfolding covers apart
  no_setter_word c n = no_first (fails_at a (tok Set) (Set ∷ []) refl n)

  pub no_accessor_word : (c : Bool) → one_of_kinds (Accessor ∷ []) p.token.kind ≡ false → Fails rule (Lex text) (plain full) end (tok Accessor ▸ no_newline ▸ field c false false f) p.prev_token_end
  unfolding covers apart
  no_accessor_word c n = no_first (fails_at a (tok Accessor) (Accessor ∷ []) refl n)

  -- no field, where neither `=` nor what ends a field stands behind the word
  module _ (F : Look) (s g : Bool) (to : (x z : Lexeme) → Lex text p.prev_token_end x → IsTrue (seen (closes (after_name s g x) behind_look) z) → IsTrue (seen F z)) (none : (y : Lexeme) → Lex text q.prev_token_end y → IsTrue (seen F y) → ⊥) (h : one_of_kinds (Eq ∷ []) q.token.kind ≡ false) where
    word_parts : Fails rule (Lex text) (behind_word F) end (field_parts false f) p.prev_token_end
    unfolding rule rule_of covers apart
    word_parts = key_word ⟶✗ fails_alt (fails_at m.at (symbol Init (field_of f)) (Eq ∷ []) refl h) (reads_empty_slot ▹✗ fails_nothing (λ ts y l e. none y l e.1))

    word_end : {ts : Slots} {j : ℕ} {ls mid : Lexemes} → Lexes (Lex text) p.prev_token_end ls → Takes rule (field_parts false f) end ts p.prev_token_end ls end j mid → IsTrue (seen (closes (by_field s g (here ls) ts) behind_look) (here mid)) → Admits (behind_word F) ts (here mid)
    word_end {ts} {ls = ls} {mid = mid} l (is_seq {us = us} e e') h = let o = name_is_tree false true f e in by o us o.is e' h
      where
        by : (o : OneTree ts us) (vs : Slots) {i j : ℕ} {ms : Lexemes} → ts ≡ tree o.label o.slots vs → Takes rule (slot (symbol Init (field_of f))) end vs i ms end j mid → IsTrue (seen (closes (by_field s g (here ls) ts) behind_look) (here mid)) → Admits (behind_word F) ts (here mid)
        by o vs q (is_left (is_such e z)) h = subst (λ (v : Slots). Admits (behind_word F) v (here mid)) (sym q) (refl, refl)
        by o vs q (is_right is_empty_slot) h = subst (λ (v : Slots). Admits (behind_word F) v (here mid)) (sym q) (refl, to (here ls) (here mid) (here_at (Lex text) ls l) (subst (λ (v : Slots). IsTrue (seen (closes (by_field s g (here ls) v) behind_look) (here mid))) q h))

    pub no_field_word : No text p.prev_token_end (ended (by_field s g) (field_parts false f))
    no_field_word = fails_ended word_parts (λ cs j ls mid l d h. word_end l d h)

  pub no_bracket_field : (s g : Bool) → No text p.prev_token_end (ended (by_field s g) (field_parts true f))
  no_bracket_field s g = fails_ended {X' = plain full} (no_first no_bracket_key) (λ cs j ls mid l d h. (refl, refl))

  -- ---- before a name

  module _ (i : one_of_kinds name_kinds q.token.kind ≡ true) where
    pub name_there : (y : Lexeme) → Lex text q.prev_token_end y → y.kind ≡ q.token.kind
    unfolding apart
    name_there y l = kind_here m.at refl (kinds_apart name_kinds unsettled refl q.token.kind i) y l

    pub no_parameters_there : one_of_kinds (LParen ∷ []) q.token.kind ≡ false
    unfolding apart
    no_parameters_there = kinds_apart name_kinds (LParen ∷ []) refl q.token.kind i

    no_value_there : one_of_kinds (Eq ∷ []) q.token.kind ≡ false
    unfolding apart
    no_value_there = kinds_apart name_kinds (Eq ∷ []) refl q.token.kind i

    -- `get` or `set` that could be a prefix is no field
    abbrev no_name : Look
    no_name k w e = not (one_of_kinds name_kinds k)

    abbrev a_name : Look
    a_name k w e = one_of_kinds name_kinds k

    abbrev ends_some : Look
    ends_some k w e = is Semicolon k w e || (same_kind Eof k || begins_with_brace k)

    no_name_ends : apart a_name ends_some ≡ true
    unfolding apart
    no_name_ends = refl

    names_begin : covers a_name begins_name ≡ true
    unfolding covers
    names_begin = refl

    prefix_to : (s : Bool) → p.token.escaped ≡ false → one_of_kinds (Get ∷ Set ∷ []) p.token.kind ≡ true → (x z : Lexeme) → Lex text p.prev_token_end x → IsTrue (seen (closes (after_name s true x) behind_look) z) → IsTrue (seen no_name z)
    unfolding apart
    prefix_to s n k x z l h = by (one_of_kinds name_kinds z.kind) refl
      where
        kind_is : x.kind ≡ p.token.kind
        kind_is = kind_here a refl (kinds_apart (Get ∷ Set ∷ []) unsettled refl p.token.kind k) x l

        prefix : one_of_kinds (Get ∷ Set ∷ []) x.kind ≡ true
        prefix = ap (one_of_kinds (Get ∷ Set ∷ [])) kind_is ∙ k

        plain_x : not x.escaped ≡ true
        plain_x = ap not (escaped_here a x l ∙ n)

        goes : one_of_kinds name_kinds z.kind ≡ true → seen (after_name s true x) z ≡ true
        goes e = or_left _ _ (or_right (one_of_kinds (Eq ∷ LParen ∷ []) z.kind) _ (and_from _ _ (and_from _ _ plain_x prefix) (covered a_name begins_name names_begin z.kind z.newline z.escaped e)))

        omitted : (b c d : Bool) → d ≡ true → (b || (c && not d)) ≡ true → b ≡ true
        omitted true c d e h = refl
        omitted false true true e h = absurd (false≢true h)
        omitted false false true e h = absurd (false≢true h)
        omitted false c false e h = absurd (false≢true e)

        by : (b : Bool) → one_of_kinds name_kinds z.kind ≡ b → not (one_of_kinds name_kinds z.kind) ≡ true
        by false e = ap not e
        by true e = absurd (not_both a_name ends_some no_name_ends z.kind z.newline z.escaped e (either_of (seen (is Semicolon) z) _ h (λ v. or_left (seen (is Semicolon) z) _ v) (λ v. or_right (seen (is Semicolon) z) _ (omitted _ _ _ (goes e) (and_parts _ _ v).0))))

    pub no_prefix_field : (st c : Bool) → p.token.escaped ≡ false → one_of_kinds (Get ∷ Set ∷ []) p.token.kind ≡ true → No text p.prev_token_end (field c (not st) true f)
    no_prefix_field st true n k = no_bracket_field false false
    no_prefix_field st false n k = no_field_word no_name (not st) true (prefix_to (not st) n k) (λ y l e. false≢true (sym (ap not (ap (one_of_kinds name_kinds) (name_there y l) ∙ i)) ∙ e)) no_value_there

  -- ---- before a name or `*` on its line, no word is a field

  module _ (i : one_of_kinds (Star ∷ name_kinds) q.token.kind ≡ true) where
    behind_there : (y : Lexeme) → Lex text q.prev_token_end y → y.kind ≡ q.token.kind
    unfolding apart
    behind_there y l = kind_here m.at refl (kinds_apart (Star ∷ name_kinds) unsettled refl q.token.kind i) y l

    no_value_behind : one_of_kinds (Eq ∷ []) q.token.kind ≡ false
    unfolding apart
    no_value_behind = kinds_apart (Star ∷ name_kinds) (Eq ∷ []) refl q.token.kind i

    pub no_line_field : (st c : Bool) → q.token.is_on_new_line ≡ false → No text p.prev_token_end (field c (not st) true f)
    unfolding apart
    no_line_field st true n = no_bracket_field false false
    no_line_field st false n = no_field_word closes_or_line (not st) true
        (λ x z l h. either_of (seen (is Semicolon) z) _ h (λ v. covered semicolon_look closes_or_line semicolon_closes z.kind z.newline z.escaped v) (λ v. covered (may_omit (after_name (not st) true x)) closes_or_line (omitted_so (after_name (not st) true x)) z.kind z.newline z.escaped (and_parts _ _ v).0))
        (λ y l e. no_close_there y l e) no_value_behind
      where
        no_close_there : (y : Lexeme) → Lex text q.prev_token_end y → IsTrue (seen closes_or_line y) → ⊥
        no_close_there y l e = either_of (one_of_kinds closers y.kind) y.newline e
            (λ v. false≢true (sym (kinds_apart (Star ∷ name_kinds) closers refl y.kind (ap (one_of_kinds (Star ∷ name_kinds)) (behind_there y l) ∙ i)) ∙ v))
            (λ v. false≢true (sym (newline_here m.at y l ∙ n) ∙ v))
