-- A property that begins with a word (ECMA-262, 13.2.5): what is left of the line of a property, by what stands behind the word.
use Rattle.std.proofs.Common.{ℕ, ◌≡◌, ◌≤◌, ◌⊎◌, inl, inr, max, suc, Bool, true, false, ◌&&◌, ◌||◌, List, [], ◌∷◌, length, Option, Some, None, IsTrue, IsCharBoundary, refl, sym, ap, subst, arith, ◌∙◌}
use Rattle.std.specs.Prelude.{if◌then◌else◌}
use Rattle.std.proofs.lemmas.Bool.{false≢true, and_parts}
use Rattle.js_base.specs.Kinds.{same_kind, one_of_kinds}
use Rattle.js_base.specs.KindSets.{identifier_name_kinds}
use Rattle.js_base.specs.Texts.{words}
use Rattle.js_base.specs.declared.kind.Kind.{Kind}
use Rattle.js_base.specs.declared.kind.Kind.TheVariants.{Async, Colon, Comma, Dot3, Eof, Eq, Get, LBrack, LParen, RBrack, RCurly, RParen, Set, Star}
use Rattle.js_base.specs.declared.span.Span.{Span}
use Rattle.js_base.proofs.KindLemmas.{kind_of_same}
use Rattle.js_grammar.specs.Lexemes.{is_word}
use Rattle.js_grammar.specs.Trees.{Label, Slots, end, tree, no_op, init, identifier_name, identifier_reference, object_property}
use Rattle.js_grammar.specs.Grammar.{Lexeme, Lexemes, last, next, here, Look, ahead, never, nothing, Takes, is_nothing, ◌▸◌, ◌◇◌}
use Rattle.js_grammar.specs.Lexed.{Lexes}
use Rattle.js_grammar.specs.Parsing.{Test, plain, full, still, passing, Reaches, Goes, Reads, Fails}
use Rattle.js_grammar.specs.Productions.{G, Flags, at, no_newline, only, plus_in, shorthand_flag, tok, Assignment, IdentifierName, IdentifierReference, Init}
use Rattle.js_grammar.specs.Productions.{sym as symbol}
use Rattle.js_grammar.specs.Table.{rule, rule_of, name, string, number}
use Rattle.js_grammar.specs.Follow.{after}
use Rattle.js_grammar.proofs.Looks.{covers, covered, apart}
use Rattle.js_grammar.proofs.Calculus.{◌▹◌, ◌▹✗◌, done, aheads, by_rule, ends, fails_node, fails_nothing, fails_rule, fails_under, here_at, inside_full, inside_plain, left, makes_by, reaches_less, right, then_by, part_fails, weaken_fails, where_true}
use Rattle.laws_shared.specs.js_tree.declared.id.NodeId.{NodeId}
use Rattle.laws_shared.specs.js_tree.declared.kind.NodeKind.TheVariants as node
use Rattle.laws_shared.specs.js_tree.declared.op.Op.TheVariants as op_made
use Rattle.laws_shared.specs.js_tree.Nodes.{Node}
use Rattle.laws_shared.specs.js_tree.Holding.{HoldsAll, Keeps}
use Rattle.laws_shared.proofs.js_tree.HoldingLemmas.{HoldsAll-one, HoldsAll-next, Keeps-refl, Keeps-trans, Keeps-made}
use Rattle.laws_shared.specs.js_cursor.Parsers.{Parser}
use Rattle.laws_shared.specs.js_cursor.declared.stop.Stop.{Stop}
use Rattle.laws_shared.specs.js_tree.declared.op.PropertyKind.TheVariants as property
use Rattle.laws_shared.specs.Nesting.{room}
use Rattle.laws_primary.specs.Objects.{Begins, NoAsyncMethod, async_line, begins_async, ends_name_kinds, form_of, getter_of, method_left, property_label, setter_of, shorthand, value_left, with_method, with_value}
use Rattle.laws_primary.specs.PropertyNames.{NoName}
use Rattle.laws_shared.specs.declared.nested.MethodForm.{MethodForm}
use Rattle.laws_shared.specs.declared.nested.MethodForm.TheVariants.{Method, Getter, Setter}
use Rattle.js_base.specs.declared.diagnostic.Diagnostic.{Diagnostic}
use Rattle.laws_shared.specs.Answers.{Answer, Grown, Numbered, Stops, Underived}
use Rattle.laws_shared.specs.Arguments.{PartTaken, behind_item}
use Rattle.laws_shared.specs.Lexemes.{Lex, is_read, may_name, keyword_kind, is_read_kind}
use Rattle.laws_shared.proofs.NameKinds.{listed_name}
use Rattle.laws_shared.specs.Moves.{Moved, MadeHere, plain_label}
use Rattle.laws_shared.specs.States.{At, Same, NodesLie}
use Rattle.laws_shared.proofs.Here.{begins_here, kind_here}
use Rattle.laws_shared.proofs.MadeNodes.{from_start, leaf_held, node_held, one_lies, one_lies_in}
use Rattle.laws_shared.proofs.Moving.{beside_nodes, same_both, same_with, stops_behind}
use Rattle.laws_shared.proofs.Paths.{Path, ◌⟼◌, ◌⟶◌, ◌⟶✗◌, by_symbol_as, fails_at, flagged_by, flagged_here, label_here, last_called, noded, one_read, passes_test, token}
use Rattle.laws_shared.proofs.Escapes.{read_as, keyword_plain}
use Rattle.laws_shared.proofs.Giving.{fails_unescaped}
use Rattle.laws_shared.proofs.PlainSigns.{eq_plain}
use Rattle.laws_shared.proofs.Signs.{other_kind, plain_sign}
use Rattle.laws_shared.proofs.Verdicts.{grown_then, verdict_of}
use Rattle.laws_primary.proofs.Members.{name_of, word_signless, word_signless}
use Rattle.laws_shared.proofs.Parts.{part_path_fails, part_sign}
use Rattle.laws_shared.proofs.NodeTexts.{name_word}
use Rattle.laws_primary.proofs.AsyncWords.{no_same_line, part_within, same_line}
use Rattle.laws_primary.proofs.Methods.{no_first}
use Rattle.laws_primary.proofs.Operands.{name_leaf}
use Rattle.laws_primary.proofs.Properties.{behind_shorthand, initialiser, kinds_apart, no_async_line, no_getter, no_method, no_name_begins, no_setter, no_value, property_name_kinds, without_star, word_apart}
use Rattle.laws_primary.proofs.PropertyNames.{literal_kinds}
use Rattle.laws_primary.proofs.Spreads.{ends_there}
use Rattle.laws_primary.proofs.Wholes.{part_answers}

-- ---- paths

-- a part that anything may follow, and what stands behind it
path_then : {text : List ℕ} {f : Flags} {X : Test} {a b : G} {p q : Parser} {l : Label} {cs : Slots} → Path text f (plain full) a p nothing q (tree l cs) → Path text f X (a ▸ b) p b q (tree l cs)
path_then y = record { at = y.at; further = y.further; pass = y.pass; walked = y.walked; verdict = verdict_of y.verdict (λ z. record { reach = z.reach; near = z.near; goes = then_by {X' = plain full} z.goes (record { admits = λ ts us vs j k ls mid rest d d' e. (refl, refl) }) }) (λ n. part_fails {X' = plain full} n (record { admits = λ ts us vs j k ls mid rest d d' e. (refl, refl) })) }

-- nothing more is left of it
path_goes : {text : List ℕ} {f : Flags} {g g' g'' : G} {p q : Parser} {h : Slots → Slots} → Path text f behind_item g p g' q h → Goes rule (Lex text) behind_item end g' q.prev_token_end g'' q.prev_token_end (λ us. us) (still 0) → Path text f behind_item g p g'' q h
path_goes y c = record { at = y.at; further = y.further; pass = y.pass; walked = y.walked; verdict = verdict_of y.verdict (λ z. record { reach = max z.reach 0; near = let i = z.near in omega arith; goes = z.goes ▹ c }) (λ n. n) }

-- nodes were made since
path_beside : {text : List ℕ} {f : Flags} {X : Test} {g g' : G} {p q r : Parser} {h : Slots → Slots} → r ≡ record q { nodes = r.nodes } → Path text f X g p g' q h → Path text f X g p g' r h
path_beside {text} {f} {X} {g} {g'} {p} {q} {r} {h} e y = subst (λ (v : Parser). Path text f X g p g' v h) (sym e) (record { at = beside_nodes r.nodes y.at; further = y.further; pass = y.pass; walked = y.walked; verdict = y.verdict })

-- ---- which accessor a word begins

abbrev no_form : Option MethodForm
no_form = None

none_begins : (w b : Kind) → form_of w b ≡ None → (one_of_kinds ends_name_kinds b ≡ true) ⊎ ((one_of_kinds (Get ∷ []) w ≡ false) × (one_of_kinds (Set ∷ []) w ≡ false))
none_begins w b = go (one_of_kinds ends_name_kinds b) (same_kind Get w) (same_kind Set w)
  where
    go : (x y z : Bool) → (if x then no_form else (if y then Some Getter else (if z then Some Setter else None))) ≡ None → (x ≡ true) ⊎ (((y || false) ≡ false) × ((z || false) ≡ false))
    go true y z e = inl refl
    go false true z e = absurd cc
    go false false true e = absurd cc
    go false false false e = inr (refl, refl)

pub one_begins : (w b : Kind) (form : MethodForm) → form_of w b ≡ Some form → Begins form w × (one_of_kinds ends_name_kinds b ≡ false)
one_begins w b form = go (one_of_kinds ends_name_kinds b) (same_kind Get w) (same_kind Set w) (λ e. sym (kind_of_same Get w e)) (λ e. sym (kind_of_same Set w e)) form
  where
    go : (x y z : Bool) → (y ≡ true → w ≡ Get) → (z ≡ true → w ≡ Set) → (form : MethodForm) → (if x then None else (if y then Some Getter else (if z then Some Setter else None))) ≡ Some form → Begins form w × (x ≡ false)
    go true y z g t form e = absurd cc
    go false true z g t Getter e = (g refl, refl)
    go false true z g t Setter e = absurd cc
    go false true z g t Method e = absurd cc
    go false false true g t Setter e = (t refl, refl)
    go false false true g t Getter e = absurd cc
    go false false true g t Method e = absurd cc
    go false false false g t form e = absurd cc

-- ---- the word

abbrev read_words : Look
read_words k w e = one_of_kinds identifier_name_kinds k

abbrev any_word : Look
any_word k w e = is_word k

-- what is read of words, and is not the end of the text
abbrev word_kinds : Look
word_kinds k w e = is_read_kind k && is_word k

words_are : covers read_words word_kinds ≡ true
unfolding covers
words_are = refl

no_word_ends : is_word Eof ≡ false
unfolding words
no_word_ends = refl

abbrev literals : G
literals = string ◇ number ◇ never

abbrev next_kinds : Look
next_kinds k w e = one_of_kinds (Comma ∷ RParen ∷ RBrack ∷ RCurly ∷ []) k

module _ {text : List ℕ} {f : Flags} {p q : Parser} (a : At text f p) (r : one_of_kinds identifier_name_kinds p.token.kind ≡ true) (m : Moved text f p q) where
  word_is : IsTrue (is_read m.lexeme) × IsTrue (is_word m.lexeme.kind)
  word_is =
      let z = and_parts (is_read_kind p.token.kind) (is_word p.token.kind) (covered read_words word_kinds words_are p.token.kind false false r) in
      (read_as m.lexeme m.tells z.0, subst (λ (k : Kind). is_word k ≡ true) m.tells.kind z.1)

  abbrev word_label : Label
  word_label = label_here identifier_name no_op p q

  -- it is a name
  word_path : {b : G} → Path text f (plain full) (name false false f ▸ b) p b q (tree word_label end)
  unfolding covers apart
  word_path = path_then (left (fails_at a literals literal_kinds refl (word_apart literal_kinds refl p.token.kind r)) ⟼ by_symbol_as {X' = after (at IdentifierName f)} (λ l cs vs y d. (refl, refl)) (name_of text f p q a r m))

  no_bracket : NoName text true f p.prev_token_end
  unfolding covers apart
  no_bracket = fails_at a (name true false f) (LBrack ∷ []) refl (word_apart (LBrack ∷ []) refl p.token.kind r)

  pub no_star : one_of_kinds (Star ∷ []) p.token.kind ≡ false
  unfolding apart
  no_star = word_apart (Star ∷ []) refl p.token.kind r

  pub no_dots : one_of_kinds (Dot3 ∷ []) p.token.kind ≡ false
  unfolding apart
  no_dots = word_apart (Dot3 ∷ []) refl p.token.kind r

  -- neither a value nor a method
  pub no_values : one_of_kinds (Colon ∷ []) q.token.kind ≡ false → (c : Bool) → Fails rule (Lex text) behind_item end (with_value c f) p.prev_token_end
  unfolding covers apart
  no_values h true = no_value a true no_bracket
  no_values h false = fails_node inside_full (word_path ⟶✗ fails_at m.at (value_left f) (Colon ∷ []) refl h)

  -- `async` is no method's, where a name ends behind it, or its line
  pub name_async : begins_async (keyword_kind p.token) q.token.kind q.token.is_on_new_line ≡ false → (c : Bool) → NoAsyncMethod text c f p.prev_token_end
  unfolding covers apart
  name_async h c b = by p.token.escaped refl
    where
      behind : (b : Bool) → one_of_kinds ends_name_kinds q.token.kind ≡ true → Fails rule (Lex text) (plain full) end (only b (tok Star) ▸ nothing ▸ name c false f ▸ method_left Method true b f) q.prev_token_end
      behind true e = no_first (fails_at m.at (tok Star) (Star ∷ []) refl (kinds_apart ends_name_kinds (Star ∷ []) refl q.token.kind e))
      behind false e = done ▹✗ (done ▹✗ no_first (no_name_begins m.at c (kinds_apart ends_name_kinds property_name_kinds refl q.token.kind e)))

      at_async : p.token.escaped ≡ false → same_kind Async p.token.kind ≡ true → Fails rule (Lex text) (plain full) end (no_newline ▸ only b (tok Star) ▸ nothing ▸ name c false f ▸ method_left Method true b f) q.prev_token_end → Fails rule (Lex text) (plain full) end (async_line c b f) p.prev_token_end
      at_async e k i = part_path_fails {ids = []} {js = []} (part_within (part_sign Async a (sym (kind_of_same Async p.token.kind k)) e refl m)) i

      go : p.token.escaped ≡ false → (x y z : Bool) → same_kind Async p.token.kind ≡ x → one_of_kinds ends_name_kinds q.token.kind ≡ y → q.token.is_on_new_line ≡ z → (if y || z then false else x) ≡ false → Fails rule (Lex text) (plain full) end (async_line c b f) p.prev_token_end
      go n false y z k e w h = no_async_line a c (ap (λ (x : Bool). x || false) k) b
      go n true y true k e w h = at_async n k (no_same_line m.at w)
      go n true true false k e w h = at_async n k (same_line m.at w ▹✗ behind b e)
      go n true false false k e w h = absurd (false≢true (sym h))

      by : (e : Bool) → p.token.escaped ≡ e → Fails rule (Lex text) (plain full) end (async_line c b f) p.prev_token_end
      by true e = no_first (no_first (fails_unescaped (tok Async) a refl e))
      by false e = go e (same_kind Async p.token.kind) (one_of_kinds ends_name_kinds q.token.kind) q.token.is_on_new_line refl refl refl (subst (λ (k : Kind). begins_async k q.token.kind q.token.is_on_new_line ≡ false) (keyword_plain p.token e) h)

  -- nor one without `async`
  pub no_plain : one_of_kinds (LParen ∷ []) q.token.kind ≡ false → (c : Bool) → Fails rule (Lex text) (plain full) end (name c false f ▸ method_left Method false false f) p.prev_token_end
  unfolding covers apart
  no_plain h true = no_first no_bracket
  no_plain h false = word_path ⟶✗ fails_at m.at (method_left Method false false f) (LParen ∷ []) refl h

  pub no_methods : ((c : Bool) → NoAsyncMethod text c f p.prev_token_end) → one_of_kinds (LParen ∷ []) q.token.kind ≡ false → (c : Bool) → Fails rule (Lex text) behind_item end (with_method c f) p.prev_token_end
  unfolding covers apart
  no_methods k h true = no_method a true no_star (k true) no_bracket
  no_methods k h false = fails_node inside_full (without_star a false no_star (k false) ▹✗ no_plain h false)

  -- no accessor, where `get` and `set` have an escape
  no_getter_escaped : p.token.escaped ≡ true → (c : Bool) → Fails rule (Lex text) behind_item end (getter_of c f) p.prev_token_end
  unfolding apart
  no_getter_escaped e true = fails_unescaped (getter_of true f) a refl e
  no_getter_escaped e false = fails_unescaped (getter_of false f) a refl e

  no_setter_escaped : p.token.escaped ≡ true → (c : Bool) → Fails rule (Lex text) behind_item end (setter_of c f) p.prev_token_end
  unfolding apart
  no_setter_escaped e true = fails_unescaped (setter_of true f) a refl e
  no_setter_escaped e false = fails_unescaped (setter_of false f) a refl e

  -- nor where a name ends behind them
  no_getter_behind : one_of_kinds ends_name_kinds q.token.kind ≡ true → (c : Bool) → Fails rule (Lex text) behind_item end (getter_of c f) p.prev_token_end
  unfolding apart
  no_getter_behind h c = go (same_kind Get p.token.kind) p.token.escaped refl refl
    where
      go : (b d : Bool) → same_kind Get p.token.kind ≡ b → p.token.escaped ≡ d → Fails rule (Lex text) behind_item end (getter_of c f) p.prev_token_end
      go b true e n = no_getter_escaped n c
      go true false e n = fails_node inside_full (token Get a (sym (kind_of_same Get p.token.kind e)) n refl m ⟶✗ no_first (no_name_begins m.at c (kinds_apart ends_name_kinds property_name_kinds refl q.token.kind h)))
      go false false e n = no_getter a c (ap (λ (b : Bool). b || false) e)

  no_setter_behind : one_of_kinds ends_name_kinds q.token.kind ≡ true → (c : Bool) → Fails rule (Lex text) behind_item end (setter_of c f) p.prev_token_end
  unfolding apart
  no_setter_behind h c = go (same_kind Set p.token.kind) p.token.escaped refl refl
    where
      go : (b d : Bool) → same_kind Set p.token.kind ≡ b → p.token.escaped ≡ d → Fails rule (Lex text) behind_item end (setter_of c f) p.prev_token_end
      go b true e n = no_setter_escaped n c
      go true false e n = fails_node inside_full (token Set a (sym (kind_of_same Set p.token.kind e)) n refl m ⟶✗ no_first (no_name_begins m.at c (kinds_apart ends_name_kinds property_name_kinds refl q.token.kind h)))
      go false false e n = no_setter a c (ap (λ (b : Bool). b || false) e)

  pub no_accessor : form_of (keyword_kind p.token) q.token.kind ≡ None → (c : Bool) → Fails rule (Lex text) behind_item end (getter_of c f) p.prev_token_end × Fails rule (Lex text) behind_item end (setter_of c f) p.prev_token_end
  no_accessor h c = by p.token.escaped refl
    where
      Neither : Type 0
      Neither = Fails rule (Lex text) behind_item end (getter_of c f) p.prev_token_end × Fails rule (Lex text) behind_item end (setter_of c f) p.prev_token_end

      by : (e : Bool) → p.token.escaped ≡ e → Neither
      by true e = (no_getter_escaped e c, no_setter_escaped e c)
      by false e = elim (none_begins p.token.kind q.token.kind (subst (λ (k : Kind). form_of k q.token.kind ≡ None) (keyword_plain p.token e) h)) [
        | inl b ↦ (no_getter_behind b c, no_setter_behind b c)
        | inr b ↦ (no_getter a c b.0, no_setter a c b.1)
      ]

  -- ---- the word alone

  word_reads : Reads rule (Lex text) (plain full) end (symbol IdentifierName f) p.prev_token_end q.prev_token_end (tree word_label end) (passing m.lexeme)
  unfolding rule rule_of
  word_reads = by_rule {X' = plain full} (λ l cs vs y d. (refl, refl)) (makes_by word_label inside_full (passes_test a any_word (word_signless p.token.kind r) m word_is.0 word_is.1) (λ ls ls' l l'. ap label_from (begins_here a (here ls) (here_at (Lex text) ls l)))) refl
    where
      label_from : ℕ → Label
      label_from v = record { kind = identifier_name; op = no_op; flags = 0; span = record { from = v; to = q.prev_token_end } }

  its : (y : Lexeme) → Lex text p.prev_token_end y → y ≡ m.lexeme
  its y l = one_read a (word_signless p.token.kind r) l (m.stood, word_is.0)

  ahead_goes : {X : Test} → Reads rule (Lex text) X end (ahead (symbol IdentifierName f)) p.prev_token_end p.prev_token_end (tree word_label end) (still (suc p.prev_token_end))
  ahead_goes = aheads (suc p.prev_token_end) there alone
    where
      there : (us : Slots) (ls : Lexemes) → Lexes (Lex text) p.prev_token_end ls → Reaches (suc p.prev_token_end) p.prev_token_end ls → (j : ℕ) × (rest : Lexemes) × Takes rule (symbol IdentifierName f) end (tree word_label end us) p.prev_token_end ls us j rest
      there us (last x) l (inl i) = absurd (omega arith)
      there us (last x) l (inr e) = absurd (false≢true (sym no_word_ends ∙ (ap is_word (sym e ∙ ap (λ (y : Lexeme). y.kind) (its x l)) ∙ word_is.1)))
      there us (next x ls) l w =
          let e = its x l.0 in
          let t : x.to ≡ q.prev_token_end = ap (λ (y : Lexeme). y.to) e ∙ m.ends in (
            q.prev_token_end,
            ls,
            subst (λ (y : Lexeme). Takes rule (symbol IdentifierName f) end (tree word_label end us) p.prev_token_end (next y ls) us q.prev_token_end ls) (sym e)
                (word_reads.sound us us q.prev_token_end ls ls (subst (λ (s : ℕ). Lexes (Lex text) s ls) t l.1) (subst (λ (s : ℕ). Reaches 0 s ls) t (reaches_less 0 (suc p.prev_token_end) (omega arith) x.to ls w)) is_nothing),
          )

      alone : (ts us : Slots) (j : ℕ) (ls rest : Lexemes) → Lexes (Lex text) p.prev_token_end ls → Takes rule (symbol IdentifierName f) end ts p.prev_token_end ls us j rest → ts ≡ tree word_label end us
      alone ts us j ls rest l d = let z = word_reads.only ts us j ls rest l d (refl, refl) in z.2 ∙ ap (λ (vs : Slots). tree word_label end vs) (ends z.4).0

  ahead_then : {b g' : G} {w : Parser} {h : Slots → Slots} → Path text f behind_item b p g' w h → Path text f behind_item (ahead (symbol IdentifierName f) ▸ b) p g' w (λ us. tree word_label end (h us))
  ahead_then y = record {
    at = y.at;
    further = y.further;
    pass = y.pass;
    walked = y.walked;
    verdict = verdict_of y.verdict
        (λ z. record { reach = max (suc p.prev_token_end) z.reach; near = let i = z.near in let j = y.further in let k = a.behind in omega arith; goes = then_by {X' = plain full} ahead_goes (record { admits = λ ts us vs j k ls mid rest d d' e. (refl, refl) }) ▹ z.goes })
        (λ z. then_by {X' = plain full} ahead_goes (record { admits = λ ts us vs j k ls mid rest d d' e. (refl, refl) }) ▹✗ z);
  }

-- ---- a name alone, and one with its initialiser

module _ {text : List ℕ} {f : Flags} {p q : Parser} (a : At text f p) (i : may_name f.yield_ f.await_ p.token.kind ≡ true) (m : Moved text f p q) where
  abbrev reference_label : Label
  reference_label = label_here identifier_reference no_op p q

  abbrev inner : G
  inner = ahead (symbol IdentifierName f) ▸ symbol IdentifierReference f ▸ initialiser f

  abbrev two : Slots → Slots
  two us = tree (label_here identifier_name no_op p q) end (tree reference_label end us)

  reference_path : Path text f (plain full) (symbol IdentifierReference f) p nothing q (tree reference_label end)
  unfolding rule rule_of
  reference_path = by_symbol_as {X' = plain full} (λ l cs vs y d. (refl, refl)) (noded a (name_leaf a i m))

  to_initialiser : Path text f behind_item inner p (initialiser f) q two
  to_initialiser = ahead_then a (name_word p.token.kind (listed_name f.yield_ f.await_ p.token.kind i)) m (path_then reference_path)

  alone_path : (q.token.kind ≡ Eq → ⊥) → Path text f behind_item (shorthand f) p nothing q (tree (flagged_here object_property init shorthand_flag p q) (two end))
  unfolding covers apart
  alone_path h = flagged_by a (inside_plain {F' = next_kinds} refl) (path_goes to_initialiser (right (fails_under (fails_at m.at (symbol Init (plus_in f)) (Eq ∷ []) refl (other_kind Eq q.token.kind h)))))

  -- neither an initialiser nor what may stand behind an item
  pub not_alone : one_of_kinds behind_shorthand q.token.kind ≡ false → Fails rule (Lex text) behind_item end (shorthand f) p.prev_token_end
  unfolding covers apart
  not_alone h = fails_node (inside_plain {F' = next_kinds} refl) (to_initialiser ⟶✗ fails_at m.at (initialiser f) behind_shorthand refl h)

  -- ---- its nodes

  module _ {u v : Parser} {key value : NodeId} {s : Span} (e : s ≡ p.token.span) (x : MadeHere (plain_label node.IdentifierName op_made.None s) [] q u key) (y : MadeHere (plain_label node.IdentifierReference op_made.None s) [] u v value) where
    key_label : plain_label node.IdentifierName op_made.None s ≡ label_here identifier_name no_op p q
    key_label = rw (e, m.tells.end ∙ m.ends) refl

    value_label : plain_label node.IdentifierReference op_made.None s ≡ reference_label
    value_label = rw (e, m.tells.end ∙ m.ends) refl

    key_made : MadeHere (label_here identifier_name no_op p q) [] q u key
    key_made = subst (λ (l : Label). MadeHere l [] q u key) key_label x

    value_made : MadeHere reference_label [] u v value
    value_made = subst (λ (l : Label). MadeHere l [] u v value) value_label y

    both_stay : v ≡ record q { nodes = v.nodes }
    both_stay = y.stays ∙ ap (λ (z : Parser). record z { nodes = v.nodes }) x.stays

    moved_keeps : Keeps p.nodes q.nodes
    moved_keeps = subst (λ (ns : List Node). Keeps p.nodes ns) (sym m.nodes) (Keeps-refl p.nodes)

    both_keep : Keeps p.nodes v.nodes
    both_keep = Keeps-trans moved_keeps (Keeps-trans (Keeps-made x.made) (Keeps-made y.made))

    both_held : HoldsAll v.nodes (length p.nodes) (length v.nodes) (Some key ∷ Some value ∷ []) (two end)
    both_held = HoldsAll-next value (Keeps-made y.made) (HoldsAll-one key (leaf_held key_made moved_keeps)) (leaf_held value_made (Keeps-refl u.nodes))

    both_lie : IsCharBoundary p.text p.token.span.start → NodesLie q.text q.nodes → NodesLie q.text v.nodes
    both_lie b h =
        let before : p.token.span.start ≤ q.prev_token_end = (let i = m.further in omega arith) in
        one_lies_in (ap (λ (z : Parser). z.text) x.stays) value_made (from_start reference_label m.same m.at.at before refl b) (one_lies key_made (from_start (label_here identifier_name no_op p q) m.same m.at.at before refl b) h)

    both_same : Same p v
    both_same = subst (λ (z : Parser). Same p z) (sym both_stay) (same_with v.nodes m.same both_keep both_lie)

    both_at : At text f v
    both_at = subst (λ (z : Parser). At text f z) (sym both_stay) (beside_nodes v.nodes m.at)

    place : v.prev_token_end ≡ q.prev_token_end
    place = ap (λ (z : Parser). z.prev_token_end) both_stay

    kind_stays : v.token.kind ≡ q.token.kind
    kind_stays = ap (λ (z : Parser). z.token.kind) both_stay

    -- ---- without an initialiser

    pub alone_taken : {w : Parser} {id : NodeId} → (v.token.kind ≡ Eq → ⊥) → MadeHere (flagged_here object_property init shorthand_flag p v) (Some key ∷ Some value ∷ []) v w id → PartTaken text f (shorthand f) p w id
    alone_taken {w} {id} h d = part_answers both_same d.stays (node_held d both_held) (Keeps-trans both_keep (Keeps-made d.made)) refl (one_lies d) (path_at (path_beside both_stay (alone_path (λ k. h (kind_stays ∙ k)))))
      where
        path_at : Path text f behind_item (shorthand f) p nothing v (tree (flagged_here object_property init shorthand_flag p q) (two end)) → Path text f behind_item (shorthand f) p nothing v (tree (flagged_here object_property init shorthand_flag p v) (two end))
        path_at z = subst (λ (t : ℕ). Path text f behind_item (shorthand f) p nothing v (tree (record { kind = object_property; op = init; flags = shorthand_flag; span = record { from = p.token.span.start; to = t } }) (two end))) (sym place) z

    -- ---- with one

    module _ {r : Parser} (k : v.token.kind ≡ Eq) (g : Moved text f v r) where
      no_end : Fails rule (Lex text) behind_item end nothing v.prev_token_end
      no_end = fails_nothing (λ ts z l d. false≢true (sym (ap (one_of_kinds (Comma ∷ RParen ∷ RBrack ∷ RCurly ∷ [])) (kind_here both_at k refl z l)) ∙ d.0))

      covers_it : f.cover ≡ true
      covers_it = sym (ap (λ (h : Flags). h.cover) a.flags_are)

      initialiser_due : Path text f behind_item (rule (at Init (plus_in f))) v (symbol Assignment (plus_in f)) r (λ us. us)
      unfolding rule rule_of
      initialiser_due = token Eq both_at k (plain_sign Eq both_at k refl refl eq_plain) refl g

      to_choice : Path text f behind_item inner p (initialiser f) v two
      to_choice = path_beside both_stay to_initialiser

      initialised_path : {w : Parser} → (y : Answer text f (at Assignment (plus_in f)) r w) → Path text f behind_item (shorthand f) p nothing w (tree (flagged_here object_property init shorthand_flag p w) (two (tree y.label y.slots end)))
      unfolding covers
      initialised_path y = flagged_by a (inside_plain {F' = next_kinds} refl) (to_choice ⟶ (left no_end ⟼ (where_true covers_it ⟼ by_symbol_as {X' = behind_item} (λ l cs vs y d. (d.0, refl)) (initialiser_due ⟶ last_called y (record { admits = λ ts vs k ls rest d e. ends_there (plus_in f) ts (here rest) e })))))

      pub initialiser_stops : (w : Parser) (s : Stop) → Stops r w s (Underived text (at Assignment (plus_in f)) r.prev_token_end) → Stops p w s (Fails rule (Lex text) behind_item end (shorthand f) p.prev_token_end)
      unfolding covers
      initialiser_stops w s z = stops_behind w s (same_both both_same g.same) (λ d. subst (λ (ds : List Diagnostic). Grown ds w.errors) kept_as (grown_then g.kept d)) (λ n. fails_node (inside_plain {F' = next_kinds} refl) (to_choice ⟶✗ (left no_end ▹✗ (where_true covers_it ▹✗ fails_rule {X' = behind_item} (λ l cs vs y d. (d.0, refl)) (initialiser_due ⟶✗ weaken_fails n (λ ts y e. ends_there (plus_in f) ts y e)))))) z
        where
          kept_as : v.errors ≡ p.errors
          kept_as = ap (λ (z : Parser). z.errors) both_stay ∙ m.kept

      pub initialised : {w z : Parser} {first id : NodeId} → (y : Numbered text f (at Assignment (plus_in f)) r w first) → MadeHere (flagged_here object_property init shorthand_flag p w) (Some key ∷ Some value ∷ Some first ∷ []) w z id → PartTaken text f (shorthand f) p z id
      initialised {w} {z} {first} {id} y d =
          let moved : HoldsAll r.nodes (length p.nodes) (length r.nodes) (Some key ∷ Some value ∷ []) (two end) = subst (λ (ns : List Node). HoldsAll ns (length p.nodes) (length ns) (Some key ∷ Some value ∷ []) (two end)) (sym g.nodes) both_held in
          let keeps : Keeps p.nodes w.nodes = Keeps-trans both_keep (subst (λ (ns : List Node). Keeps ns w.nodes) g.nodes y.keeps) in
          part_answers (same_both both_same (same_both g.same y.answer.same)) d.stays (node_held d (HoldsAll-next first y.keeps moved y.holds)) (Keeps-trans keeps (Keeps-made d.made)) refl (one_lies d) (initialised_path y.answer)

-- ---- where the two nodes of a name were made, and its property

pub leaves_at : {text : List ℕ} {f : Flags} {q u v : Parser} {key value : NodeId} {l l' : Label} {start : ℕ} → At text f q → MadeHere l [] q u key → MadeHere l' [] u v value → start ≤ q.prev_token_end → At text f v × (start ≤ v.prev_token_end) × (room v ≡ room q)
leaves_at {text} {f} {q} {u} {v} {start = start} a x y b =
    let e : v ≡ record q { nodes = v.nodes } = y.stays ∙ ap (λ (z : Parser). record z { nodes = v.nodes }) x.stays in
    (subst (λ (z : Parser). At text f z) (sym e) (beside_nodes v.nodes a), subst (λ (z : Parser). start ≤ z.prev_token_end) (sym e) b, ap (λ (z : Parser). room z) e)

pub shorthand_made : (first : Parser) {q w : Parser} {ids : List (Option NodeId)} {id : NodeId} {start fl : ℕ} → start ≡ first.token.span.start → fl ≡ shorthand_flag → MadeHere (property_label property.Init fl start q.prev_token_end) ids q w id → MadeHere (flagged_here object_property init shorthand_flag first q) ids q w id
shorthand_made first {q} {w} {ids} {id} e h n = subst (λ (v : Label). MadeHere v ids q w id) (rw (e, h) refl) n

pub shorthand_made_with : (first : Parser) {q w : Parser} {ids : List (Option NodeId)} {id : NodeId} {start : ℕ} → start ≡ first.token.span.start → MadeHere (property_label property.Init shorthand_flag start q.prev_token_end) ids q w id → MadeHere (flagged_here object_property init shorthand_flag first q) ids q w id
shorthand_made_with first e n = shorthand_made first e refl n
