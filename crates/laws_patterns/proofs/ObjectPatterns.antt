-- Properties of object patterns (ECMA-262, 14.3.3): names that are bound, and names with what is bound by them.
use Rattle.std.proofs.Common.{ℕ, ◌+◌, ◌≡◌, inl, inr, max, suc, List, [], ◌∷◌, length, Some, Bool, true, false, not, IsCharBoundary, refl, sym, ap, subst, arith, ◌∙◌}
use Rattle.std.specs.Prelude.{Ok, Err, None}
use Rattle.std.proofs.lemmas.Bool.{false≢true}
use Rattle.js_base.specs.declared.kind.Kind.{Kind}
use Rattle.js_base.specs.declared.kind.Kind.TheVariants.{LBrack, RBrack, RCurly, RParen, Colon, Comma, Eof, Eq}
use Rattle.js_base.specs.declared.diagnostic.DiagnosticKind.TheVariants.{ExpectToken}
use Rattle.js_base.specs.declared.span.Span.{Span}
use Rattle.js_base.specs.Kinds.{one_of_kinds}
use Rattle.js_base.specs.KindSets.{binding_identifier_kinds}
use Rattle.js_grammar.specs.Lexemes.{is_word}
use Rattle.js_grammar.specs.Trees.{Slots, end, tree, Label, no_op, assignment_pattern, binding_identifier, binding_property, identifier_name}
use Rattle.js_grammar.specs.Grammar.{Lexeme, Lexemes, Look, last, next, here, ahead, alt, exact, label_of, nothing, Takes, is_seq, is_ahead, is_such, is_node, is_lexeme, ◌▸◌}
use Rattle.js_grammar.specs.Lexed.{Lexes}
use Rattle.js_grammar.specs.Parsing.{Test, Reaches, Admits, plain, full, behind, still, Goes, Fails}
use Rattle.js_grammar.specs.Productions.{G, Flags, at, tok, mk, make, plus_in, flag, computed_flag, shorthand_flag, Assignment, BElement, BindingIdentifier, IdentifierName, Init, PatternProperty}
use Rattle.js_grammar.specs.Productions.{sym as symbol}
use Rattle.js_grammar.specs.Table.{rule, rule_of, name}
use Rattle.js_grammar.proofs.Looks.{covers, covered, apart}
use Rattle.js_grammar.proofs.Calculus.{aheads, left, right, fails_alt, fails_node, fails_nothing, fails_rule, inside_full, inside_plain, part_fails, stay, then_by, weaken_fails_on, ◌▹◌, ◌▹✗◌}
use Rattle.laws_shared.specs.js_tree.declared.id.NodeId.{NodeId}
use Rattle.laws_shared.specs.js_tree.declared.kind.NodeKind.TheVariants as node_kind
use Rattle.laws_shared.specs.js_tree.declared.op.Op.TheVariants as op_made
use Rattle.laws_shared.specs.js_tree.Nodes.{Node}
use Rattle.laws_shared.specs.js_tree.Holding.{Holds, Keeps}
use Rattle.laws_shared.proofs.js_tree.HoldingLemmas.{Keeps-refl, Keeps-trans, Keeps-made}
use Rattle.laws_shared.specs.js_cursor.Parsers.{Parser}
use Rattle.laws_shared.specs.js_cursor.Moves.{Expects, IsKind}
use Rattle.laws_shared.specs.js_cursor.declared.stop.Stop.{Stop}
use Rattle.laws_primary.specs.PropertyNames.{NameRead, NoName}
use Rattle.laws_primary.proofs.Members.{name_taken}
use Rattle.laws_primary.proofs.Operands.{name_signless}
use Rattle.laws_primary.proofs.PropertyNames.{literal_kinds, word_named}
use Rattle.laws_shared.specs.Answers.{Underived, Answer, Numbered, Stops}
use Rattle.laws_shared.specs.Arguments.{behind_item, ItemTaken, NoItem}
use Rattle.laws_shared.specs.Lexemes.{Lex, may_name}
use Rattle.laws_shared.specs.Moves.{Moved, MadeHere, LeafTaken, TakesLeaf, plain_label}
use Rattle.laws_shared.specs.Stands.{NameHere, StandsHere}
use Rattle.laws_shared.specs.Nesting.{CanNest, room}
use Rattle.laws_shared.specs.declared.nested.Nonterminal.{Nonterminal}
use Rattle.laws_shared.specs.States.{At, Same, NodesLie, Standing}
use Rattle.laws_shared.proofs.Expected.{not_due, unexpected}
use Rattle.laws_shared.proofs.Escapes.{read_as}
use Rattle.laws_shared.proofs.Here.{begins_here, kind_here}
use Rattle.laws_shared.proofs.NameKinds.{a_name, listed_name, name_apart, name_at, name_read}
use Rattle.laws_shared.proofs.NamedFirsts.{fails_unnamed}
use Rattle.laws_shared.proofs.MadeNodes.{LabelLies, from_start, leaf_held, two_held, made_lies, one_lies}
use Rattle.laws_shared.proofs.Moving.{beside_nodes, same_both, same_with, stops_behind, stops_so}
use Rattle.laws_shared.proofs.Paths.{Path, ◌⟼◌, ◌⟶◌, ◌⟶✗◌, fails_at, flagged_by, flagged_here, label_here, last_called, noded_by, by_symbol_as, one_read, token}
use Rattle.laws_shared.proofs.Signs.{other_kind, plain_sign}
use Rattle.laws_shared.proofs.Verdicts.{verdict_of, grown_then}
use Rattle.laws_shared.proofs.Verdicts.{after as grown_behind}
use Rattle.laws_shared.proofs.NodeTexts.{name_word as name_is_word}
use Rattle.laws_shared.proofs.PlainSigns.{eq_plain}
use Rattle.laws_patterns.specs.ObjectPatterns.{bound_by_name, property_label, shorthand_of, BoundTaken, NamePassed, NoShorthand}
use Rattle.laws_patterns.proofs.Bindings.{bound_path, item_answers, item_path, no_end_here, on_initialiser, then_any, ends_itself}

abbrev next_kinds : Look
next_kinds k w e = one_of_kinds (Comma ∷ RParen ∷ RBrack ∷ RCurly ∷ []) k

-- a node was made behind what was read
renoded : {text : List ℕ} {f : Flags} {X : Test} {g g' : G} {p q : Parser} {h : Slots → Slots} (ns : List Node) → Path text f X g p g' q h → Path text f X g p g' (record q { nodes = ns }) h
renoded ns x = record { at = beside_nodes ns x.at; further = x.further; pass = x.pass; walked = x.walked; verdict = x.verdict }

-- ---- a lookahead of a name

-- what stands behind a lookahead fails
behind_ahead : {text : List ℕ} {X X' : Test} {a b : G} {s : ℕ} → ((ts us : Slots) (y : Lexeme) → Admits X ts y → Admits X' us y) → Fails rule (Lex text) X' end b s → Fails rule (Lex text) X end (ahead a ▸ b) s
behind_ahead {text} {X} {X'} {a} {b} {s} c n = record { no = λ ts vs k ls rest l d e. go ts vs k ls rest l d e }
  where
    go : (ts vs : Slots) (k : ℕ) (ls rest : Lexemes) → Lexes (Lex text) s ls → Takes rule (ahead a ▸ b) end ts s ls vs k rest → Admits X ts (here rest) → ⊥
    go ts vs k ls rest l (is_seq {us = us} (is_ahead d) d') e = n.no us vs k ls rest l d' (c ts us (here rest) e)

-- each name is a word
name_words : covers a_name (λ k w e. is_word k) ≡ true
unfolding covers
name_words = refl

name_word : (k : Kind) → one_of_kinds binding_identifier_kinds k ≡ true → is_word k ≡ true
name_word k h = covered a_name (λ k w e. is_word k) name_words k false false h

no_end_name : (k : Kind) → one_of_kinds binding_identifier_kinds k ≡ true → one_of_kinds (Eof ∷ []) k ≡ false
unfolding apart
no_end_name k h = name_apart (Eof ∷ []) refl k h

module _ {text : List ℕ} {f : Flags} {p q : Parser} (a : At text f p) (k : one_of_kinds binding_identifier_kinds p.token.kind ≡ true) (m : Moved text f p q) where
  abbrev pub key_label : Label
  key_label = label_here identifier_name no_op p q

  -- the lexeme that stands here is the one that was passed
  is_it : (y : Lexeme) → Lex text p.prev_token_end y → y ≡ m.lexeme
  is_it y l = one_read a (name_signless p.token.kind k) l (m.stood, read_as m.lexeme m.tells (name_read p.token.kind k))

  named_kind : (y : Lexeme) → Lex text p.prev_token_end y → one_of_kinds binding_identifier_kinds y.kind ≡ true
  named_kind y l = subst (λ (v : Kind). one_of_kinds binding_identifier_kinds v ≡ true) (m.tells.kind ∙ sym (ap (λ (z : Lexeme). z.kind) (is_it y l))) k

  made_so : (x : Lexeme) (ls rest : Lexemes) → Lex text p.prev_token_end x → label_of (record { kind = identifier_name; op = no_op; flags = 0; extent = exact }) (next x ls) x.to rest ≡ key_label
  made_so x ls rest l = rw (begins_here a x l, ap (λ (y : Lexeme). y.to) (is_it x l) ∙ m.ends) refl

  word_there : (us : Slots) (ls : Lexemes) → Lexes (Lex text) p.prev_token_end ls → Reaches (suc p.prev_token_end) p.prev_token_end ls → (j : ℕ) × (rest : Lexemes) × Takes rule (symbol IdentifierName f) end (tree key_label end us) p.prev_token_end ls us j rest
  unfolding rule rule_of
  word_there us (last x) l (inl i) = absurd (omega arith)
  word_there us (last x) l (inr q) = absurd (false≢true (sym (no_end_name x.kind (named_kind x l)) ∙ ap (one_of_kinds (Eof ∷ [])) q))
  word_there us (next x ls) l w = (x.to, ls, subst (λ (v : Label). Takes rule (symbol IdentifierName f) end (tree v end us) p.prev_token_end (next x ls) us x.to ls) (made_so x ls ls l.0) (is_such (is_node (is_lexeme (name_word x.kind (named_kind x l.0)))) refl))

  word_alone : (ts us : Slots) (j : ℕ) (ls rest : Lexemes) → Lexes (Lex text) p.prev_token_end ls → Takes rule (symbol IdentifierName f) end ts p.prev_token_end ls us j rest → ts ≡ tree key_label end us
  unfolding rule rule_of
  word_alone ts us j ls rest l (is_such (is_node (is_lexeme {x = x} {ls = more} h)) c) = ap (λ (v : Label). tree v end us) (made_so x more more l.0)

  -- the name stands ahead
  pub key_ahead : {X : Test} {b : G} → Goes rule (Lex text) X end (ahead (symbol IdentifierName f) ▸ b) p.prev_token_end b p.prev_token_end (tree key_label end) (still (suc p.prev_token_end))
  key_ahead = then_by {X' = plain full} (aheads (suc p.prev_token_end) word_there word_alone) (record { admits = λ ts us vs j k ls mid rest d d' e. (refl, refl) })

  -- a lookahead before what is read
  pub key_first : {r : Parser} {X : Test} {b : G} {h : Slots → Slots} → Path text f (behind X (tree key_label end)) b p nothing r h → Path text f X (ahead (symbol IdentifierName f) ▸ b) p nothing r (λ us. tree key_label end (h us))
  key_first x = record {
    at = x.at;
    further = x.further;
    pass = x.pass;
    walked = x.walked;
    verdict = verdict_of x.verdict (λ y. record { reach = max (suc p.prev_token_end) y.reach; near = let i = y.near in let j = x.further in let h = a.behind in omega arith; goes = key_ahead ▹ y.goes }) (λ n. key_ahead ▹✗ n);
  }

-- ---- what is bound by a name

module _ {text : List ℕ} {f : Flags} {first keyed p : Parser} {binding : NodeId} (n : NamePassed text f first keyed p binding) where
  name_bound : {X : Test} → Path text f X (symbol BindingIdentifier f) first nothing p (tree (label_here binding_identifier no_op first n.mid) end)
  name_bound {X} = subst (λ (r : Parser). Path text f X (symbol BindingIdentifier f) first nothing r (tree (label_here binding_identifier no_op first n.mid) end)) (sym n.stays) (renoded p.nodes (bound_path n.at n.kind n.moved))

  pub at_here : At text f p
  at_here = (name_bound {X = plain full}).at

  -- it has no initialiser
  uninitialised : (p.token.kind ≡ Eq → ⊥) → Path text f behind_item (bound_by_name f) first nothing p (tree (label_here binding_identifier no_op first n.mid) end)
  unfolding rule rule_of covers apart
  uninitialised u = left {b = mk assignment_pattern (symbol BindingIdentifier f ▸ symbol Init (plus_in f))} (fails_node inside_full (then_any name_bound ⟶✗ fails_at at_here (symbol Init (plus_in f)) (Eq ∷ []) refl (other_kind Eq p.token.kind u))) ⟼ name_bound

  pub bound_alone : (p.token.kind ≡ Eq → ⊥) → BoundTaken text f first keyed p binding
  bound_alone u = let y = uninitialised u in record { at = y.at; same = n.same; further = y.further; label = label_here binding_identifier no_op first n.mid; slots = end; pass = y.pass; walked = y.walked; verdict = y.verdict; holds = n.holds; keeps = n.keeps }

  module _ {r : Parser} (k : p.token.kind ≡ Eq) (m : Moved text f p r) where
    with_value : Goes rule (Lex text) behind_item end (bound_by_name f) first.prev_token_end (mk assignment_pattern (symbol BindingIdentifier f ▸ symbol Init (plus_in f))) first.prev_token_end (λ us. us) (still 0)
    with_value = right (name_bound ⟶✗ no_end_here at_here k)

    value_due : Path text f behind_item (rule (at Init (plus_in f))) p (symbol Assignment (plus_in f)) r (λ us. us)
    unfolding rule rule_of
    value_due = token Eq at_here k (plain_sign Eq at_here k refl refl eq_plain) refl m

    bound_with : {w : Parser} → (y : Answer text f (at Assignment (plus_in f)) r w) → Path text f behind_item (bound_by_name f) first nothing w (tree (label_here assignment_pattern no_op first w) (tree (label_here binding_identifier no_op first n.mid) end (tree y.label y.slots end)))
    bound_with y = with_value ⟼ noded_by n.at (inside_plain {F' = next_kinds} ends_itself) (then_any name_bound ⟶ by_symbol_as {X' = behind_item} (λ l cs vs y d. (d.0, refl)) (value_due ⟶ last_called y (on_initialiser f)))

    pub value_stops : (w : Parser) (e : Stop) → Stops r w e (Underived text (at Assignment (plus_in f)) r.prev_token_end) → Stops first w e (Fails rule (Lex text) behind_item end (bound_by_name f) first.prev_token_end)
    value_stops w e z = stops_behind w e (same_both n.same m.same) (λ g. grown_behind (name_bound {X = behind_item}).verdict (grown_then m.kept g)) (λ u. with_value ▹✗ fails_node (inside_plain {F' = next_kinds} ends_itself) (then_any name_bound ⟶✗ fails_rule {X' = behind_item} (λ l cs vs y d. (d.0, refl)) (value_due ⟶✗ weaken_fails_on u (on_initialiser f)))) z

    pub bound_initialised : {w z : Parser} {value id : NodeId} (s : Span) → (y : Numbered text f (at Assignment (plus_in f)) r w value) → s.start ≡ first.token.span.start → s.end ≡ w.prev_token_end → MadeHere (plain_label node_kind.AssignmentPattern op_made.None s) (Some binding ∷ Some value ∷ []) w z id → BoundTaken text f first keyed z id
    bound_initialised {w} {z} {value} {id} s y b d t = go z.nodes v.stays (two_held v n.holds n.keeps h i) (Keeps-trans n.keeps (Keeps-trans i (Keeps-made v.made))) lies
      where
        l : plain_label node_kind.AssignmentPattern op_made.None s ≡ label_here assignment_pattern no_op first w
        l = rw (b, d) refl

        v : MadeHere (label_here assignment_pattern no_op first w) (Some binding ∷ Some value ∷ []) w z id
        v = subst (λ (v : Label). MadeHere v (Some binding ∷ Some value ∷ []) w z id) l t

        h : Holds w.nodes (length p.nodes) (length w.nodes) value.0 y.answer.label y.answer.slots
        h = subst (λ (ns : List Node). Holds w.nodes (length ns) (length w.nodes) value.0 y.answer.label y.answer.slots) m.nodes y.holds

        i : Keeps p.nodes w.nodes
        i = subst (λ (ns : List Node). Keeps ns w.nodes) m.nodes y.keeps

        whole : Path text f behind_item (bound_by_name f) first nothing w (tree (label_here assignment_pattern no_op first w) (tree (label_here binding_identifier no_op first n.mid) end (tree y.answer.label y.answer.slots end)))
        whole = bound_with y.answer

        same_here : Same first w
        same_here = same_both n.same (same_both m.same y.answer.same)

        lies : IsCharBoundary first.text first.token.span.start → NodesLie w.text w.nodes → NodesLie w.text z.nodes
        lies = made_lies same_here y.answer.at.at (let g = whole.further in omega arith) v refl

        go : (ns : List Node) → z ≡ record w { nodes = ns } → Holds z.nodes (length keyed.nodes) (length z.nodes) id.0 (label_here assignment_pattern no_op first w) (tree (label_here binding_identifier no_op first n.mid) end (tree y.answer.label y.answer.slots end)) → Keeps keyed.nodes z.nodes → (IsCharBoundary first.text first.token.span.start → NodesLie w.text w.nodes → NodesLie w.text z.nodes) → BoundTaken text f first keyed z id
        go ns e h k j = subst (λ (r : Parser). BoundTaken text f first keyed r id) (sym e) (record {
          at = beside_nodes ns whole.at;
          same = same_with ns same_here (Keeps-trans n.from_first (subst (λ (r : Parser). Keeps keyed.nodes r.nodes) e k)) (λ b i. subst (λ (r : Parser). NodesLie w.text r.nodes) e (j b i));
          further = whole.further;
          label = label_here assignment_pattern no_op first w;
          slots = tree (label_here binding_identifier no_op first n.mid) end (tree y.answer.label y.answer.slots end);
          pass = whole.pass;
          walked = whole.walked;
          verdict = whole.verdict;
          holds = subst (λ (r : Parser). Holds r.nodes (length keyed.nodes) (length r.nodes) id.0 (label_here assignment_pattern no_op first w) (tree (label_here binding_identifier no_op first n.mid) end (tree y.answer.label y.answer.slots end))) e h;
          keeps = subst (λ (r : Parser). Keeps keyed.nodes r.nodes) e k;
        })

-- ---- a property

abbrev named_of : Bool → Flags → G
named_of c f = make binding_property no_op (flag c computed_flag) (name c false f ▸ tok Colon ▸ symbol BElement f)

module _ {text : List ℕ} {f : Flags} where
  choose : {X : Test} {s : ℕ} → Goes rule (Lex text) X end (rule (at PatternProperty f)) s (alt (shorthand_of f) (alt (named_of false f) (named_of true f))) s (λ us. us) (still 0)
  unfolding rule rule_of
  choose = stay

  no_other : (c : Bool) {s : ℕ} → NoName text c f s → Fails rule (Lex text) behind_item end (named_of c f) s
  no_other c n = fails_node inside_full (part_fails {X' = plain full} n (record { admits = λ ts us vs j k ls mid rest d d' e. (refl, refl) }))

  -- no property is derived where neither a shorthand nor a name is
  pub no_property : {s : ℕ} → NoShorthand text f s → ((c : Bool) → NoName text c f s) → NoItem text (at PatternProperty f) s
  no_property a n = fails_rule {X' = behind_item} (λ l cs vs y d. (d.0, refl)) (choose ▹✗ fails_alt a (fails_alt (no_other false (n false)) (no_other true (n true))))

  -- a name stands here, of this form
  by_name : {s : ℕ} (c : Bool) → NoShorthand text f s → NoName text (not c) f s → Goes rule (Lex text) behind_item end (rule (at PatternProperty f)) s (named_of c f) s (λ us. us) (still 0)
  by_name false a n = choose ▹ (right a ▹ left (no_other true n))
  by_name true a n = choose ▹ (right a ▹ right (no_other false n))

  module _ {p q : Parser} {key : NodeId} {c : Bool} (x : NameRead text f c p q key) where
    key_read : {X : Test} {b : G} → Path text f X (name c false f ▸ b) p b q (tree x.label x.slots)
    key_read = then_any (record { at = x.at; further = x.further; pass = x.pass; walked = x.walked; verdict = x.verdict })

    no_colon : one_of_kinds (Colon ∷ []) q.token.kind ≡ false → Fails rule (Lex text) behind_item end (named_of c f) p.prev_token_end
    unfolding covers apart
    no_colon n = fails_node inside_full (key_read ⟶✗ fails_at x.at (tok Colon ▸ symbol BElement f) (Colon ∷ []) refl n)

    no_colon_here : StandsHere q Colon false → Fails rule (Lex text) behind_item end (named_of c f) p.prev_token_end
    no_colon_here n = fails_node inside_full (key_read ⟶✗ not_due x.at Colon refl n)

    module _ (n : NoShorthand text f p.prev_token_end) where
      -- the colon that is due doesn't stand here
      pub colon_stops : (w : Parser) (e : Stop) → Expects (IsKind Colon) ExpectToken None q w (Err e) → Stops p w e (NoItem text (at PatternProperty f) p.prev_token_end)
      colon_stops w e z = stops_behind w e x.same (λ g. grown_behind x.verdict g) (λ u. u) (unexpected x.at Colon w e z (λ u. fails_rule {X' = behind_item} (λ l cs vs y d. (d.0, refl)) (by_name c n x.other ▹✗ no_colon_here u)))

      module _ {r : Parser} (a : At text f p) (k : IsKind Colon q) (m : Moved text f q r) where
        due : Path text f behind_item (name c false f ▸ tok Colon ▸ symbol BElement f) p (symbol BElement f) r (tree x.label x.slots)
        due = key_read ⟶ token Colon x.at k.0 k.1 refl m

        pub element_stops : (w : Parser) (e : Stop) → Stops r w e (NoItem text (at BElement f) r.prev_token_end) → Stops p w e (NoItem text (at PatternProperty f) p.prev_token_end)
        element_stops w e z = stops_behind w e (same_both x.same m.same) (λ g. grown_behind x.verdict (grown_then m.kept g)) (λ u. fails_rule {X' = behind_item} (λ l cs vs y d. (d.0, refl)) (by_name c n x.other ▹✗ fails_node (inside_plain {F' = next_kinds} ends_itself) (due ⟶✗ u))) z

        pub property_answers : {w z : Parser} {value id : NodeId} {number : ℕ} (s : Span) → (y : ItemTaken text f (at BElement f) r w value) → number ≡ flag c computed_flag → s.start ≡ p.token.span.start → s.end ≡ w.prev_token_end → MadeHere (property_label number s) (Some key ∷ Some value ∷ []) w z id → ItemTaken text f (at PatternProperty f) p z id
        property_answers {w} {z} {value} {id} {number} s y b d i t = item_answers z whole same_here made.stays (two_held made x.holds x.keeps held kept) (Keeps-trans x.keeps (Keeps-trans kept (Keeps-made made.made))) (made_lies same_here y.at.at (let g = whole.further in omega arith) made refl)
          where
            l : property_label number s ≡ flagged_here binding_property no_op (flag c computed_flag) p w
            l = rw (b, d, i) refl

            made : MadeHere (flagged_here binding_property no_op (flag c computed_flag) p w) (Some key ∷ Some value ∷ []) w z id
            made = subst (λ (v : Label). MadeHere v (Some key ∷ Some value ∷ []) w z id) l t

            same_here : Same p w
            same_here = same_both x.same (same_both m.same y.same)

            held : Holds w.nodes (length q.nodes) (length w.nodes) value.0 y.label y.slots
            held = subst (λ (ns : List Node). Holds w.nodes (length ns) (length w.nodes) value.0 y.label y.slots) m.nodes y.holds

            kept : Keeps q.nodes w.nodes
            kept = subst (λ (ns : List Node). Keeps ns w.nodes) m.nodes y.keeps

            whole : Path text f behind_item (symbol PatternProperty f) p nothing w (tree (flagged_here binding_property no_op (flag c computed_flag) p w) (tree x.label x.slots (tree y.label y.slots end)))
            whole = by_symbol_as {X' = behind_item} (λ l cs vs y d. (d.0, refl)) (by_name c n x.other ⟼ flagged_by a (inside_plain {F' = next_kinds} ends_itself) (due ⟶ item_path y))

-- ---- a shorthand

module _ {text : List ℕ} {f : Flags} {p : Parser} (a : At text f p) where
  -- no name that may be bound stands here
  pub no_shorthand : may_name f.yield_ f.await_ p.token.kind ≡ false → NoShorthand text f p.prev_token_end
  unfolding covers apart
  no_shorthand n = fails_node inside_full (behind_ahead {X' = plain full} (λ ts us y e. (refl, refl)) (fails_unnamed a f (λ g. bound_by_name g) [] refl refl refl refl refl n refl))

  pub no_shorthand_there : NameHere p false → NoShorthand text f p.prev_token_end
  no_shorthand_there s = no_shorthand (name_at false a s)

  module _ (k : may_name f.yield_ f.await_ p.token.kind ≡ true) where
    listed : one_of_kinds binding_identifier_kinds p.token.kind ≡ true
    listed = listed_name f.yield_ f.await_ p.token.kind k

    -- a name, and a colon
    pub no_shorthand_here : {q : Parser} → Moved text f p q → q.token.kind ≡ Colon → NoShorthand text f p.prev_token_end
    unfolding covers apart
    no_shorthand_here {q} m c = fails_node (inside_plain {F' = next_kinds} ends_itself) (behind_ahead {X' = behind_item} (λ ts us y e. (e.0, refl)) (fails_alt (bound_path a k m ⟶✗ no_end) (fails_node inside_full (then_any (bound_path a k m) ⟶✗ fails_at m.at (symbol Init (plus_in f)) (Eq ∷ []) refl (ap (one_of_kinds (Eq ∷ [])) c)))))
      where
        no_end : Fails rule (Lex text) behind_item end nothing q.prev_token_end
        no_end = fails_nothing (λ ts y l h. false≢true (subst (λ (v : Kind). one_of_kinds (Comma ∷ RParen ∷ RBrack ∷ RCurly ∷ []) v ≡ true) (kind_here m.at c refl y l) h.0))

    named : {q : Parser} {key : NodeId} → TakesLeaf node_kind.IdentifierName op_made.None p q key → NameRead text f false p q key
    unfolding apart
    named {q} {key} t = word_named a (λ i j. false≢true (sym (name_apart (LBrack ∷ []) refl p.token.kind listed) ∙ ap (one_of_kinds (LBrack ∷ [])) i)) (name_apart literal_kinds refl p.token.kind listed) (name_taken text f p q (Ok key) a (name_is_word p.token.kind listed) t)

    pub name_named : {q : Parser} {key : NodeId} → TakesLeaf node_kind.IdentifierName op_made.None p q key → NameRead text f false p q key
    name_named t = named t

    module _ {q : Parser} {key : NodeId} (t : TakesLeaf node_kind.IdentifierName op_made.None p q key) (c : q.token.kind ≡ Colon → ⊥) where
      leaf : LeafTaken node_kind.IdentifierName op_made.None text f p q key
      leaf = t text f a

      shorthand_alone : Goes rule (Lex text) behind_item end (rule (at PatternProperty f)) p.prev_token_end (shorthand_of f) p.prev_token_end (λ us. us) (still 0)
      shorthand_alone = choose ▹ left (fails_alt (no_colon (named t) (other_kind Colon q.token.kind c)) (no_other true (named t).other))

      key_is : plain_label node_kind.IdentifierName op_made.None p.token.span ≡ label_here identifier_name no_op p leaf.mid
      key_is = ap (λ (v : ℕ). record { kind = identifier_name; op = no_op; flags = 0; span = record { from = p.token.span.start; to = v } }) (leaf.moved.tells.end ∙ leaf.moved.ends)

      from_first : Keeps p.nodes leaf.mid.nodes
      from_first = subst (λ (ns : List Node). Keeps p.nodes ns) (sym leaf.moved.nodes) (Keeps-refl p.nodes)

      keyed : Keeps p.nodes q.nodes
      keyed = Keeps-trans from_first (Keeps-made leaf.made.made)

      key_held : Holds q.nodes (length p.nodes) (length q.nodes) key.0 (label_here identifier_name no_op p leaf.mid) end
      key_held = subst (λ (v : Label). Holds q.nodes (length p.nodes) (length q.nodes) key.0 v end) key_is (leaf_held leaf.made from_first)

      -- a node was made of the name that is bound
      pub name_passed : {r : Parser} {binding : NodeId} (s : Span) → s ≡ p.token.span → MadeHere (plain_label node_kind.BindingIdentifier op_made.None s) [] q r binding → NamePassed text f p q r binding
      name_passed {r} {binding} s i d = record {
        at = a;
        kind = k;
        mid = leaf.mid;
        moved = leaf.moved;
        stays = d.stays ∙ ap (λ (z : Parser). record z { nodes = r.nodes }) leaf.made.stays;
        same = again;
        holds = subst (λ (v : Label). Holds r.nodes (length q.nodes) (length r.nodes) binding.0 v end) bound_is (leaf_held d (Keeps-refl q.nodes));
        keeps = Keeps-made d.made;
        from_first = keyed;
      }
        where
          bound_is : plain_label node_kind.BindingIdentifier op_made.None s ≡ label_here binding_identifier no_op p leaf.mid
          bound_is = ap (λ (v : Span). plain_label node_kind.BindingIdentifier op_made.None v) i ∙ ap (λ (v : ℕ). record { kind = binding_identifier; op = no_op; flags = 0; span = record { from = p.token.span.start; to = v } }) (leaf.moved.tells.end ∙ leaf.moved.ends)

          lies : NodesLie q.text q.nodes → NodesLie q.text r.nodes
          lies h = one_lies d (subst (λ (v : Label). LabelLies q.text v) (sym bound_is) (from_start (label_here binding_identifier no_op p leaf.mid) (named t).same (named t).at.at (let g = (named t).further in omega arith) (ap (λ (v : ℕ). record { from = p.token.span.start; to = v }) (sym (ap (λ (z : Parser). z.prev_token_end) leaf.made.stays))) a.at.lies.starts_whole)) h

          again : Same p r
          again = subst (λ (z : Parser). Same p z) (sym d.stays) (same_with r.nodes (named t).same (Keeps-trans keyed (Keeps-made d.made)) (λ b h. lies h))

      module _ {v : Parser} {value : NodeId} (x : BoundTaken text f p q v value) where
        bound_read : Path text f behind_item (bound_by_name f) p nothing v (tree x.label x.slots)
        bound_read = record { at = x.at; further = x.further; pass = x.pass; walked = x.walked; verdict = x.verdict }

        pub shorthand_answers : {w : Parser} {id : NodeId} {number : ℕ} (s : Span) → number ≡ shorthand_flag → s.start ≡ p.token.span.start → s.end ≡ v.prev_token_end → MadeHere (property_label number s) (Some key ∷ Some value ∷ []) v w id → ItemTaken text f (at PatternProperty f) p w id
        shorthand_answers {w} {id} {number} s i b d z = item_answers w whole x.same made.stays (two_held made key_held keyed x.holds x.keeps) (Keeps-trans keyed (Keeps-trans x.keeps (Keeps-made made.made))) (made_lies x.same x.at.at (let g = x.further in omega arith) made refl)
          where
            l : property_label number s ≡ flagged_here binding_property no_op shorthand_flag p v
            l = rw (b, d, i) refl

            made : MadeHere (flagged_here binding_property no_op shorthand_flag p v) (Some key ∷ Some value ∷ []) v w id
            made = subst (λ (y : Label). MadeHere y (Some key ∷ Some value ∷ []) v w id) l z

            whole : Path text f behind_item (symbol PatternProperty f) p nothing v (tree (flagged_here binding_property no_op shorthand_flag p v) (tree (label_here identifier_name no_op p leaf.mid) end (tree x.label x.slots end)))
            whole = by_symbol_as {X' = behind_item} (λ l cs vs y d. (d.0, refl)) (shorthand_alone ⟼ flagged_by a (inside_plain {F' = next_kinds} ends_itself) (key_first a listed leaf.moved bound_read))

      -- what it binds isn't derived
      pub bound_stops : (w : Parser) (i : Stop) → Stops p w i (Fails rule (Lex text) behind_item end (bound_by_name f) p.prev_token_end) → Stops p w i (NoItem text (at PatternProperty f) p.prev_token_end)
      bound_stops w i z = stops_so p w i (λ u. fails_rule {X' = behind_item} (λ l cs vs y d. (d.0, refl)) (shorthand_alone ▹✗ fails_node (inside_plain {F' = next_kinds} ends_itself) (behind_ahead {X' = behind_item} (λ ts us y e. (e.0, refl)) u))) z

-- a name that was passed ends at the place
pub name_place : {text : List ℕ} {f : Flags} {p q : Parser} {key : NodeId} → At text f p → TakesLeaf node_kind.IdentifierName op_made.None p q key → p.token.span.end ≡ q.prev_token_end
name_place {text} {f} a t = let x = t text f a in x.moved.tells.end ∙ (x.moved.ends ∙ sym (ap (λ (z : Parser). z.prev_token_end) x.made.stays))

-- a colon stands behind it
pub no_shorthand_named : {text : List ℕ} {f : Flags} {p q : Parser} {key : NodeId} → At text f p → may_name f.yield_ f.await_ p.token.kind ≡ true → TakesLeaf node_kind.IdentifierName op_made.None p q key → q.token.kind ≡ Colon → NoShorthand text f p.prev_token_end
no_shorthand_named {text} {f} a k t c = let x = t text f a in no_shorthand_here a k x.moved (sym (ap (λ (z : Parser). z.token.kind) x.made.stays) ∙ c)

-- a node was made here
pub made_at : {q r : Parser} {l : Label} {id : NodeId} → Standing q → MadeHere l [] q r id → Standing r
made_at {q} {r} a d = subst Standing (sym d.stays) (beside_nodes r.nodes a)

pub made_nests : {q r : Parser} {l : Label} {id : NodeId} {can : Parser → Nonterminal → Type 0} → CanNest can (room q + 1) → MadeHere l [] q r id → CanNest can (room r + 1)
made_nests {q} {r} {can = can} c d = subst (λ (z : Parser). CanNest can (room z + 1)) (sym d.stays) c
