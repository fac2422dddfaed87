-- Statements that begin with a word and end with a semicolon (ECMA-262, 14.8, 14.9, 14.14, 14.16).
use Rattle.std.proofs.Common.{ℕ, ◌≡◌, inl, inr, List, [], ◌∷◌, length, Option, Some, None, Bool, true, false, not, ◌&&◌, IsTrue, refl, sym, ap, subst, arith, ◌∙◌, ◌<◌}
use Rattle.std.specs.Prelude.{Ok, Err}
use Rattle.std.proofs.lemmas.Bool.{false≢true, and_from, and_parts}
use Rattle.js_base.specs.declared.diagnostic.Diagnostic.{Diagnostic}
use Rattle.js_base.specs.declared.kind.Kind.{Kind}
use Rattle.js_base.specs.declared.kind.Kind.TheVariants as kind
use Rattle.js_base.specs.declared.source_type.SourceType.{SourceType}
use Rattle.js_base.specs.declared.span.Span.{Span}
use Rattle.js_base.specs.Kinds.{same_kind, one_of_kinds}
use Rattle.js_base.specs.KindSets.{binding_identifier_kinds, identifier_name_kinds}
use Rattle.js_base.specs.Contexts.{has_flag, yield_flag, await_flag}
use Rattle.js_grammar.specs.Trees.{Slots, end, hole, tree, append, Label, no_op, debugger_statement, label_identifier, throw_statement}
use Rattle.js_grammar.specs.Grammar.{Lexeme, Lexemes, Look, here, seen, may_omit, ended, semicolon, empty_slot, next, nothing, such, Takes, is_seq, is_lexeme, is_look, ◌▸◌}
use Rattle.js_grammar.specs.Conditions.{ends_in_sub}
use Rattle.js_grammar.specs.Insertion.{after_word, edge, goes_on, by_edge}
use Rattle.js_grammar.specs.Marks.{Mark, a_lexeme, the_start, the_end}
use Rattle.js_grammar.specs.Lexed.{NextLexeme, all_faults}
use Rattle.js_grammar.specs.Parsing.{Test, plain, full, always, still, Admits, Goes, Fails}
use Rattle.js_grammar.specs.Productions.{G, Flags, Name, at, tok, mk, slot, no_newline, Break, Continue, Debugger, Expression, LabelIdentifier, Throw}
use Rattle.js_grammar.specs.Productions.{Statement as AStatement}
use Rattle.js_grammar.specs.Productions.{sym as symbol}
use Rattle.js_grammar.specs.Table.{rule, rule_of}
use Rattle.js_grammar.specs.Follow.{row_of, after}
use Rattle.js_grammar.proofs.Looks.{covers, covered, apart, not_both}
use Rattle.js_grammar.proofs.Calculus.{Heads, ◌▹◌, ◌▹✗◌, left, right, looks, closes, ends_by, by_omission, part_fails, reads_empty_slot, fails_alt, fails_ended, fails_look, fails_node, fails_rule, inside_plain}
use Rattle.js_grammar.proofs.FirstClaims.{firsts}
use Rattle.js_grammar.proofs.FirstRules.{fails_here}
use Rattle.js_grammar.proofs.FollowLaws.{expression_ended}
use Rattle.js_grammar.proofs.Finding.{either_of}
use Rattle.laws_shared.specs.js_tree.declared.id.NodeId.{NodeId}
use Rattle.laws_shared.specs.js_tree.declared.kind.NodeKind.{NodeKind}
use Rattle.laws_shared.specs.js_tree.declared.kind.NodeKind.TheVariants as node
use Rattle.laws_shared.specs.js_tree.declared.op.Op.TheVariants as op
use Rattle.laws_shared.specs.js_tree.Labels.{kind_of}
use Rattle.laws_shared.specs.js_tree.Nodes.{Node}
use Rattle.laws_shared.specs.js_tree.Holding.{Holds, HoldsAll, Keeps}
use Rattle.laws_shared.proofs.js_tree.HoldingLemmas.{HoldsAll-one, HoldsAll-one_hole, Keeps-longer, Keeps-refl, Keeps-trans, Keeps-made}
use Rattle.laws_shared.specs.js_lex.States.{goal_of}
use Rattle.laws_shared.specs.js_cursor.Moves.{GivesUp, IsUnexpected, MayEnd, OnlyMemory, ends_statement, is_last}
use Rattle.laws_shared.specs.js_cursor.Parsers.{Parser}
use Rattle.laws_shared.specs.js_cursor.Places.{goal}
use Rattle.laws_shared.specs.js_cursor.declared.stop.Stop.{Stop}
use Rattle.laws_shared.specs.js_cursor.declared.stop.Stop.TheVariants.{Fatal, NoMemory}
use Rattle.laws_shared.specs.Answers.{Grown, Underived, Numbered, Stops, unclean}
use Rattle.laws_shared.specs.Lexemes.{Lex, Walked, nowhere, spot, may_name, is_read_kind}
use Rattle.laws_shared.specs.Stands.{NameHere, StandsHere}
use Rattle.laws_shared.proofs.NamedFirsts.{fails_unnamed}
use Rattle.laws_shared.proofs.NameKinds.{listed_here, name_at, a_name}
use Rattle.laws_shared.specs.Moves.{IsWholeHere, LeafTaken, Moved, MadeHere, plain_label}
use Rattle.laws_shared.specs.States.{At, Same}
use Rattle.laws_shared.specs.Statements.{placed, no_link, after_statement, NoStatement, Statement, EndsStatement, NoEnd}
use Rattle.laws_statements.specs.WordStatements.{ChecksOperand, JumpsHere, TakesLabel, late_operand}
use Rattle.laws_shared.proofs.Giving.{kept_one, gives_up_here}
use Rattle.laws_shared.proofs.Here.{found, newline_here, uncut}
use Rattle.laws_statements.proofs.Labels.{path_made}
use Rattle.parse_declarations.proofs.laws_primary.Members.{word_whole}
use Rattle.laws_shared.proofs.MadeNodes.{leaf_held, node_held, one_held, one_lies, made_lies}
use Rattle.laws_shared.proofs.Moving.{moves, same_both, same_itself, same_with, stops_behind}
use Rattle.parse_declarations.proofs.laws_primary.Operands.{name_leaf}
use Rattle.laws_shared.proofs.Paths.{Path, ◌⟼◌, ◌⟶◌, ◌⟶✗◌, at_kind, token, last_token, noded, noded_by, by_symbol_as, label_here, walked_both, walked_from, walked_one}
use Rattle.laws_statements.proofs.Statements.{◌⟝◌, by_statement, by_such_statement, closes_or_line, end_path, ended_so, expression_path, never_open, no_close, no_semicolon, no_symbol, omits_at_end, omitted_so, semicolon_closes, semicolon_look, semicolon_path, to_semicolon_of, unended, whole_semicolon}
use Rattle.laws_shared.proofs.Ahead.{pass_over}
use Rattle.laws_shared.proofs.Told.{told_at, told_same}
use Rattle.laws_shared.proofs.Verdicts.{after as grown_behind, grown_both, grown_first, grown_on, grown_then, verdict_of}

-- ---- a statement of one nonterminal alone

-- What stands here is derived as a Statement, and of this nonterminal alone.
pub record Alone (text : List ℕ) (f : Flags) (n : Name) (s : ℕ) : Type 0 where
  pub listed : (b : Bool) (X : Test) → Goes rule (Lex text) X end (rule (placed b f)) s (symbol AStatement f) s (λ us. us) (still 0)
  pub alone : (X : Test) → Goes rule (Lex text) X end (rule (at AStatement f)) s (symbol n f) s (λ us. us) (still 0)

module _ {text : List ℕ} {f : Flags} {p : Parser} {n : Name} (z : Alone text f n p.prev_token_end) (b : Bool) (X : Test) (h : Heads (after_statement (placed b f)) X) (i : Heads X X) where
  pub alone_path : {q : Parser} {l : Label} {cs : Slots} → Path text f X (rule (at n f)) p nothing q (tree l cs) → Path text f (after_statement (placed b f)) (rule (placed b f)) p nothing q (tree l cs)
  alone_path x = z.listed b (after_statement (placed b f)) ⟼ by_symbol_as {X' = X} h (z.alone X ⟼ by_symbol_as {X' = X} i x)

pub alone_fails : {text : List ℕ} {f : Flags} {n : Name} {s : ℕ} → Alone text f n s → (b : Bool) (X : Test) → Heads (after_statement (placed b f)) X → Heads X X → Fails rule (Lex text) X end (rule (at n f)) s → NoStatement text (placed b f) s
alone_fails {f = f} z b X h i x = no_symbol (z.listed b (after_statement (placed b f)) ▹✗ fails_rule {X' = X} h (z.alone X ▹✗ fails_rule {X' = X} i x))

-- no statement begins with a link
pub unlinked : (f : Flags) (b : Bool) → Heads (after_statement (placed b f)) (plain no_link)
unlinked f b = λ l cs vs y d. ((and_parts _ _ d.0).0, refl)

pub still_unlinked : Heads (plain no_link) (plain no_link)
still_unlinked = λ l cs vs y d. (d.0, refl)

-- ---- what nothing goes on with, up to its semicolon

line_omits : covers (λ k w e. w && not (same_kind kind.Semicolon k)) (may_omit (goes_on after_word)) ≡ true
unfolding covers
line_omits = refl

pub closing : (p F : Look) (y : Lexeme) → IsTrue (seen (closes p F) y) → IsTrue (seen closes_or_line y)
closing p F y h = either_of (seen semicolon_look y) _ h (λ s. covered semicolon_look closes_or_line semicolon_closes y.kind y.newline y.escaped s) (λ s. covered (may_omit p) closes_or_line (omitted_so p) y.kind y.newline y.escaped (and_parts (seen (may_omit p) y) (seen F y) s).0)

module _ {text : List ℕ} {f : Flags} where
  to_end : {g : G} {p q : Parser} {h : Slots → Slots} → ((us : Slots) → h us ≡ append (h end) us) → edge after_word after_word (h end) ≡ after_word → Path text f (plain closes_or_line) g p nothing q h → Path text f (plain no_link) (ended by_edge g) p (semicolon (goes_on after_word)) q h
  to_end m r x = record {
    at = x.at;
    further = x.further;
    pass = x.pass;
    walked = x.walked;
    verdict = verdict_of x.verdict
        (λ y. record { reach = y.reach; near = y.near; goes = ends_by y.goes m (λ y l. ap goes_on r) (λ cs j ls mid l d h. (closing (by_edge (here ls) cs) no_link (here mid) h, refl)) })
        (λ n. fails_ended n (λ cs j ls mid l d h. (closing (by_edge (here ls) cs) no_link (here mid) h, refl)));
  }

  omits_word : {q : Parser} → At text f q → MayEnd q → (q.token.kind ≡ kind.Semicolon → ⊥) → (y : Lexeme) → Lex text q.prev_token_end y → IsTrue (seen (may_omit (goes_on after_word)) y)
  omits_word a (inl e) n y l = omits_at_end a after_word e n y l
  omits_word a (inr w) n y l = covered (λ k w e. w && not (same_kind kind.Semicolon k)) (may_omit (goes_on after_word)) line_omits y.kind y.newline y.escaped (and_from _ _ (newline_here a y l ∙ w) (ap not (no_semicolon a n y l)))

  pub ends_so : {g : G} {p q r : Parser} {h : Slots → Slots} → EndsStatement q r → Path text f (plain no_link) g p (semicolon (goes_on after_word)) q h → Path text f (plain no_link) g p nothing r h
  ends_so (v, inl (k, m)) t = t ⟶ semicolon_path t.at (goes_on after_word) k (moves (whole_semicolon t.at k) m t.at)
  ends_so {g} {p} {h = h} (v, inr (n, m, e)) t = subst (λ (w : Parser). Path text f (plain no_link) g p nothing w h) (sym e) (t ⟝ by_omission (goes_on after_word) (omits_word t.at m n))

-- ---- debugger

module _ {text : List ℕ} {f : Flags} {p : Parser} (a : At text f p) (h : StandsHere p kind.Debugger true) where
  debugger_alone : Alone text f Debugger p.prev_token_end
  unfolding rule rule_of covers
  debugger_alone = record { listed = λ b X. listed b; alone = λ X. at_kind a kind.Debugger h.0 refl }
    where
      listed : {X : Test} (b : Bool) → Goes rule (Lex text) X end (rule (placed b f)) p.prev_token_end (symbol AStatement f) p.prev_token_end (λ us. us) (still 0)
      listed true = at_kind a kind.Debugger h.0 refl
      listed false = at_kind a kind.Debugger h.0 refl

  module _ {q : Parser} (m : Moved text f p q) where
    word_read : Path text f (plain no_link) (ended by_edge (tok kind.Debugger)) p (semicolon (goes_on after_word)) q (λ us. us)
    word_read = to_end (λ us. refl) refl (last_token kind.Debugger a h.0 h.1 refl m)

    pub debugger_unended : (b : Bool) → NoEnd q → NoStatement text (placed b f) p.prev_token_end
    unfolding rule rule_of covers
    debugger_unended b n = alone_fails debugger_alone b (plain no_link) (unlinked f b) still_unlinked (fails_node (inside_plain refl) (word_read ⟶✗ unended m.at (goes_on after_word) n))

    debugger_path : {r : Parser} → EndsStatement q r → Path text f (plain no_link) (rule (at Debugger f)) p nothing r (tree (label_here debugger_statement no_op p r) end)
    unfolding rule rule_of covers
    debugger_path e = noded_by a (inside_plain refl) (ends_so e word_read)

    pub debugger_answers : (b : Bool) {r w : Parser} {id : NodeId} (s : Span) → EndsStatement q r → s.start ≡ p.token.span.start → s.end ≡ r.prev_token_end → MadeHere (plain_label node.DebuggerStatement op.None s) [] r w id → Statement text f (placed b f) p w id
    debugger_answers b {r} {w} {id} s e c d n =
        let l : plain_label node.DebuggerStatement op.None s ≡ label_here debugger_statement no_op p r = rw (c, d) refl in
        let made : MadeHere (label_here debugger_statement no_op p r) [] r w id = subst (λ (v : Label). MadeHere v [] r w id) l n in
        let z = ended_so m.at e in
        let ks : Keeps p.nodes r.nodes = subst (λ (ns : List Node). Keeps p.nodes ns) (sym (z.nodes ∙ m.nodes)) (Keeps-refl p.nodes) in
        by_statement (alone_path debugger_alone b (plain no_link) (unlinked f b) still_unlinked (debugger_path e)) (never_open (label_here debugger_statement no_op p r) end refl) (same_both m.same z.same) made.stays (leaf_held made ks) (Keeps-trans ks (Keeps-made made.made)) refl (one_lies made)

-- ---- break and continue

abbrev jump_slots : Kind → Flags → G
jump_slots k f = tok k ▸ slot (no_newline ▸ symbol LabelIdentifier f)

-- Here begins what such a node is made of.
record Jump (text : List ℕ) (f : Flags) (p : Parser) (k : NodeKind) : Type 0 where
  name : Name
  word : Kind
  line : mk (kind_of k) (ended by_edge (jump_slots word f)) ≡ rule (at name f)
  alone : Alone text f name p.prev_token_end
  is_here : p.token.kind ≡ word
  is_plain : p.token.escaped ≡ false
  is_read : is_read_kind word ≡ true
  shut : ends_in_sub (kind_of k) ≡ false

jump_of : {text : List ℕ} {f : Flags} {p : Parser} {k : NodeKind} → At text f p → JumpsHere k p → Jump text f p k
unfolding rule rule_of covers
jump_of {text} {f} {p} a (inl (e, h)) = subst (λ (v : NodeKind). Jump text f p v) (sym e) (record { name = Break; word = kind.Break; line = refl; alone = record { listed = λ b X. listed b; alone = λ X. at_kind a kind.Break h.0 refl }; is_here = h.0; is_plain = h.1; is_read = refl; shut = refl })
  where
    listed : {X : Test} (b : Bool) → Goes rule (Lex text) X end (rule (placed b f)) p.prev_token_end (symbol AStatement f) p.prev_token_end (λ us. us) (still 0)
    listed true = at_kind a kind.Break h.0 refl
    listed false = at_kind a kind.Break h.0 refl
jump_of {text} {f} {p} a (inr (e, h)) = subst (λ (v : NodeKind). Jump text f p v) (sym e) (record { name = Continue; word = kind.Continue; line = refl; alone = record { listed = λ b X. listed b; alone = λ X. at_kind a kind.Continue h.0 refl }; is_here = h.0; is_plain = h.1; is_read = refl; shut = refl })
  where
    listed : {X : Test} (b : Bool) → Goes rule (Lex text) X end (rule (placed b f)) p.prev_token_end (symbol AStatement f) p.prev_token_end (λ us. us) (still 0)
    listed true = at_kind a kind.Continue h.0 refl
    listed false = at_kind a kind.Continue h.0 refl

-- A word was passed, and a label behind it was read, or none stands there.
record Jumped (text : List ℕ) (f : Flags) (k : Kind) (p r : Parser) (label : Option NodeId) : Type 0 where
  slots : Slots → Slots
  appends : (us : Slots) → slots us ≡ append (slots end) us
  row : edge after_word after_word (slots end) ≡ after_word
  path : Path text f (plain closes_or_line) (jump_slots k f) p nothing r slots
  same : Same p r
  held : HoldsAll r.nodes (length p.nodes) (length r.nodes) (label ∷ []) (slots end)
  keeps : Keeps p.nodes r.nodes

-- no statement ends at a name
no_name_ends : (k : Kind) → one_of_kinds binding_identifier_kinds k ≡ true → ends_statement k ≡ true → ⊥
unfolding apart
no_name_ends k h e = not_both a_name (λ k w e. ends_statement k) refl k false false h e

module _ {text : List ℕ} {f : Flags} {q : Parser} (a : At text f q) where
  -- no name stands here
  no_name : {X : Test} → NameHere q false → Fails rule (Lex text) X end (no_newline ▸ symbol LabelIdentifier f) q.prev_token_end
  unfolding covers apart
  no_name {X} n = fails_unnamed a f (λ g. no_newline ▸ symbol LabelIdentifier g) [] refl refl refl refl refl (name_at false a n) refl

  -- nor a label, where the statement may end
  no_label : {X : Test} → MayEnd q → Fails rule (Lex text) X end (no_newline ▸ symbol LabelIdentifier f) q.prev_token_end
  no_label (inl e) = no_name (go (may_name (has_flag yield_flag q.ctx) (has_flag await_flag q.ctx) q.token.kind) refl)
    where
      go : (b : Bool) → may_name (has_flag yield_flag q.ctx) (has_flag await_flag q.ctx) q.token.kind ≡ b → NameHere q false
      go true h = absurd (no_name_ends q.token.kind (listed_here q h) e)
      go false h = h
  no_label (inr w) = part_fails {X' = plain full} (fails_look (λ k w e. not w) (λ y l h. false≢true (sym (ap not (newline_here a y l ∙ w)) ∙ h))) (record { admits = λ ts us vs j k ls mid rest d e h. (refl, refl) })

  -- where it may not, the slot isn't empty
  no_gap : (MayEnd q → ⊥) → Fails rule (Lex text) (plain closes_or_line) end empty_slot q.prev_token_end
  no_gap m = fails_here firsts (λ y l h. no_close a m y l h)

  pub same_line : (MayEnd q → ⊥) → q.token.is_on_new_line ≡ false
  same_line m = go q.token.is_on_new_line refl
    where
      go : (b : Bool) → q.token.is_on_new_line ≡ b → q.token.is_on_new_line ≡ false
      go true e = absurd (m (inr e))
      go false e = e

  label_read : {X : Test} {r : Parser} → NameHere q true → Moved text f q r → Path text f X (symbol LabelIdentifier f) q nothing r (tree (label_here label_identifier no_op q r) end)
  unfolding rule rule_of
  label_read h m = by_symbol_as {X' = plain full} (λ l cs vs y d. (refl, refl)) (noded a (name_leaf a (name_at true a h) m))

module _ {text : List ℕ} {f : Flags} {p q : Parser} (k : Kind) (a : At text f p) (e : p.token.kind ≡ k) (n : p.token.escaped ≡ false) (i : is_read_kind k ≡ true) (m : Moved text f p q) where
  word_passed : {X : Test} {g : G} → Path text f X (tok k ▸ g) p g q (λ us. us)
  word_passed = token k a e n i m

  no_label_read : MayEnd q → Jumped text f k p q None
  no_label_read h =
      let ks : Keeps p.nodes q.nodes = subst (λ (ns : List Node). Keeps p.nodes ns) (sym m.nodes) (Keeps-refl p.nodes) in
      record {
        slots = hole;
        appends = λ us. refl;
        row = refl;
        path = word_passed ⟝ (right (no_label m.at h) ▹ reads_empty_slot);
        same = m.same;
        held = HoldsAll-one_hole q.nodes (length p.nodes) (length q.nodes) (Keeps-longer ks);
        keeps = ks;
      }

  a_label_read : {r : Parser} {id : NodeId} → (MayEnd q → ⊥) → NameHere q true → LeafTaken node.LabelIdentifier op.None text f q r id → Jumped text f k p r (Some id)
  a_label_read {r} {id} w h t =
      let l : plain_label node.LabelIdentifier op.None q.token.span ≡ label_here label_identifier no_op q t.mid = ap (λ (v : ℕ). record { kind = label_identifier; op = no_op; flags = 0; span = record { from = q.token.span.start; to = v } }) (t.moved.tells.end ∙ t.moved.ends) in
      let made : MadeHere (label_here label_identifier no_op q t.mid) [] t.mid r id = subst (λ (v : Label). MadeHere v [] t.mid r id) l t.made in
      let ks : Keeps p.nodes t.mid.nodes = subst (λ (ns : List Node). Keeps p.nodes ns) (sym (t.moved.nodes ∙ m.nodes)) (Keeps-refl p.nodes) in
      let kr : Keeps p.nodes r.nodes = Keeps-trans ks (Keeps-made made.made) in
      record {
        slots = tree (label_here label_identifier no_op q t.mid) end;
        appends = λ us. refl;
        row = refl;
        path = word_passed ⟶ ((left (no_gap m.at w) ▹ pass_over (looks (λ k w e. not w) (λ y l. ap not (newline_here m.at y l ∙ same_line m.at w)))) ⟼ path_made r made.stays (label_read m.at h t.moved));
        same = subst (λ (v : Parser). Same p v) (sym made.stays) (same_with r.nodes (same_both m.same t.moved.same) kr (λ c z. made_lies t.moved.same t.moved.at.at (let i = t.moved.further in omega arith) made refl m.at.at.lies.starts_whole z));
        held = HoldsAll-one id (leaf_held made ks);
        keeps = kr;
      }

  label_taken : {r : Parser} (label : Option NodeId) → TakesLabel q r (Ok label) → Jumped text f k p r label
  label_taken (Some id) (w, h, t) = a_label_read w h (t text f m.at)
  label_taken None (h, e) = subst (λ (v : Parser). Jumped text f k p v None) (sym e) (no_label_read h)

  -- neither a label nor an end
  label_none : (MayEnd q → ⊥) → NameHere q false → Fails rule (Lex text) (plain no_link) end (ended by_edge (jump_slots k f)) p.prev_token_end
  label_none w h = fails_ended {X' = plain closes_or_line} (word_passed ⟶✗ fails_alt (no_name m.at h) (no_gap m.at w)) (λ cs j ls mid l d h. (closing (by_edge (here ls) cs) no_link (here mid) h, refl))

module _ {text : List ℕ} {f : Flags} {p : Parser} {k : NodeKind} (a : At text f p) (h : JumpsHere k p) where
  abbrev jump : Jump text f p k
  jump = jump_of a h

  module _ {q : Parser} (r : Parser) (label : Option NodeId) (m : Moved text f p q) (t : TakesLabel q r (Ok label)) where
    abbrev jumped : Jumped text f jump.word p r label
    jumped = label_taken jump.word a jump.is_here jump.is_plain jump.is_read m label t

    pub jump_at : At text f r
    jump_at = jumped.path.at

    pub jump_further : p.token.span.start < r.prev_token_end
    jump_further = jumped.path.further

    pub jump_follows : Same p r
    jump_follows = jumped.same

    pub jump_grown : {ds : List Diagnostic} → Grown r.errors ds → Grown p.errors ds
    jump_grown g = grown_behind jumped.path.verdict g

    pub jump_unended : (b : Bool) → NoEnd r → NoStatement text (placed b f) p.prev_token_end
    unfolding covers
    jump_unended b n = alone_fails jump.alone b (plain no_link) (unlinked f b) still_unlinked (subst (λ (g : G). Fails rule (Lex text) (plain no_link) end g p.prev_token_end) jump.line (fails_node (inside_plain refl) (to_end jumped.appends jumped.row jumped.path ⟶✗ unended jump_at (goes_on after_word) n)))

    jump_path : {v : Parser} → EndsStatement r v → Path text f (plain no_link) (rule (at jump.name f)) p nothing v (tree (label_here (kind_of k) no_op p v) (jumped.slots end))
    unfolding covers
    jump_path {v} e = subst (λ (g : G). Path text f (plain no_link) g p nothing v (tree (label_here (kind_of k) no_op p v) (jumped.slots end))) jump.line (noded_by a (inside_plain refl) (ends_so e (to_end jumped.appends jumped.row jumped.path)))

    pub jump_answers : (b : Bool) {v w : Parser} {id : NodeId} (s : Span) → EndsStatement r v → s.start ≡ p.token.span.start → s.end ≡ v.prev_token_end → MadeHere (plain_label k op.None s) (label ∷ []) v w id → Statement text f (placed b f) p w id
    jump_answers b {v} {w} {id} s e c d n =
        let l : plain_label k op.None s ≡ label_here (kind_of k) no_op p v = rw (c, d) refl in
        let made : MadeHere (label_here (kind_of k) no_op p v) (label ∷ []) v w id = subst (λ (u : Label). MadeHere u (label ∷ []) v w id) l n in
        let z = ended_so jump_at e in
        let ks : Keeps p.nodes v.nodes = subst (λ (ns : List Node). Keeps p.nodes ns) (sym z.nodes) jumped.keeps in
        let hs : HoldsAll v.nodes (length p.nodes) (length v.nodes) (label ∷ []) (jumped.slots end) = subst (λ (ns : List Node). HoldsAll ns (length p.nodes) (length ns) (label ∷ []) (jumped.slots end)) (sym z.nodes) jumped.held in
        by_statement (alone_path jump.alone b (plain no_link) (unlinked f b) still_unlinked (jump_path e)) (never_open (label_here (kind_of k) no_op p v) (jumped.slots end) jump.shut) (same_both jumped.same z.same) made.stays (node_held made hs) (Keeps-trans ks (Keeps-made made.made)) refl (one_lies made)

-- no label is read
pub jump_stops : {text : List ℕ} {f : Flags} {p q : Parser} {k : NodeKind} (b : Bool) (r : Parser) (e : Stop) → At text f p → JumpsHere k p → Moved text f p q → TakesLabel q r (Err e) → Stops p r e (NoStatement text (placed b f) p.prev_token_end)
unfolding covers
jump_stops {text} {f} {p} {q} {k} b r Fatal a h m (w, n, g) =
    let j = jump_of a h in
    stops_behind r Fatal m.same (λ d. grown_then m.kept d) (λ z. z) (gives_up_here q r Fatal m.at g
    (alone_fails j.alone b (plain no_link) (unlinked f b) still_unlinked (subst (λ (g : G). Fails rule (Lex text) (plain no_link) end g p.prev_token_end) j.line (fails_node (inside_plain refl) (label_none j.word a j.is_here j.is_plain j.is_read m w n)))))
jump_stops b r NoMemory a h m t = tt

-- ---- throw

abbrev throw_slots : Flags → G
throw_slots f = tok kind.Throw ▸ no_newline ▸ symbol Expression f

-- it ends where its operand does
throw_ends : (f : Flags) {ds : Slots} {i j : ℕ} {ls mid : Lexemes} → Takes rule (throw_slots f) end ds i ls end j mid → (y : Lexeme) → IsTrue (seen (closes (by_edge y ds) no_link) (here mid)) → Admits (after (at Expression f)) ds (here mid)
throw_ends f (is_seq (is_lexeme c) (is_seq (is_look w) d)) y h = expression_ended f no_link d y h

-- what was looked at before the operand
pub checked_at : {text : List ℕ} {f : Flags} {s : Span} {p q : Parser} → At text f p → ChecksOperand s p q → At text f q
checked_at a (inl (w, k)) = told_at k a
checked_at {text} {f} a (inr (w, e)) = subst (λ (v : Parser). At text f v) (sym e) a

checked_same : {s : Span} {p q : Parser} → ChecksOperand s p q → Same p q
checked_same (inl (w, k)) = told_same k refl
checked_same {p = p} (inr (w, e)) = subst (λ (v : Parser). Same p v) (sym e) same_itself

pub checked_place : {s : Span} {p q : Parser} → ChecksOperand s p q → q.prev_token_end ≡ p.prev_token_end
checked_place (inl (w, k)) = ap (λ (v : Parser). v.prev_token_end) k.is
checked_place (inr (w, e)) = ap (λ (v : Parser). v.prev_token_end) e

checked_spot : {s : Span} {p q : Parser} → ChecksOperand s p q → spot q ≡ spot p
checked_spot (inl (w, k)) = ap spot k.is
checked_spot (inr (w, e)) = ap spot e

checked_nodes : {s : Span} {p q : Parser} → ChecksOperand s p q → q.nodes ≡ p.nodes
checked_nodes (inl (w, k)) = ap (λ (v : Parser). v.nodes) k.is
checked_nodes (inr (w, e)) = ap (λ (v : Parser). v.nodes) e

-- a walk over a statement's end
end_walked : {text : List ℕ} {f : Flags} {q r : Parser} → At text f q → EndsStatement q r → (pass : Lexemes → Lexemes) × Walked text (spot q) (spot r) pass
end_walked a (v, inl (k, m)) = let s = moves (whole_semicolon a k) m a in (λ ls. next s.lexeme ls, walked_one s)
end_walked {text} {q = q} a (v, inr (n, m, e)) = (λ ls. ls, subst (λ (r : Parser). Walked text (spot q) (spot r) (λ ls. ls)) (sym e) nowhere)

module _ {text : List ℕ} {f : Flags} {p q r : Parser} {word : Span} (a : At text f p) (h : StandsHere p kind.Throw true) (m : Moved text f p q) (c : ChecksOperand word q r) where
  throw_alone : Alone text f Throw p.prev_token_end
  unfolding rule rule_of covers
  throw_alone = record { listed = λ b X. listed b; alone = λ X. at_kind a kind.Throw h.0 refl }
    where
      listed : {X : Test} (b : Bool) → Goes rule (Lex text) X end (rule (placed b f)) p.prev_token_end (symbol AStatement f) p.prev_token_end (λ us. us) (still 0)
      listed true = at_kind a kind.Throw h.0 refl
      listed false = at_kind a kind.Throw h.0 refl

  throw_passed : {X : Test} {g : G} → Path text f X (tok kind.Throw ▸ g) p g q (λ us. us)
  throw_passed = token kind.Throw a h.0 h.1 refl m

  -- what is in the node can't be read
  throw_none : (b : Bool) → Fails rule (Lex text) (plain no_link) end (ended by_edge (throw_slots f)) p.prev_token_end → NoStatement text (placed b f) p.prev_token_end
  unfolding rule rule_of covers
  throw_none b n = alone_fails throw_alone b (plain no_link) (unlinked f b) still_unlinked (fails_node (inside_plain refl) n)

  throw_fails : (b : Bool) → Fails rule (Lex text) (after (at Expression f)) end (throw_slots f) p.prev_token_end → NoStatement text (placed b f) p.prev_token_end
  throw_fails b n = throw_none b (fails_ended n (λ ds j ls mid l d h. throw_ends f d (here ls) h))

  -- the operand on a new line
  late : (b : Bool) → q.token.is_on_new_line ≡ true → NoStatement text (placed b f) p.prev_token_end
  late b w = throw_fails b (throw_passed ⟶✗ part_fails {X' = plain full} (fails_look (λ k w e. not w) (λ y l h. false≢true (sym (ap not (newline_here m.at y l ∙ w)) ∙ h))) (record { admits = λ ts us vs j k ls mid rest d e h. (refl, refl) }))

  -- on the same line it is an Expression
  on_line : {X : Test} → q.token.is_on_new_line ≡ false → Path text f X (throw_slots f) p (symbol Expression f) q (λ us. us)
  on_line w = throw_passed ⟝ pass_over (looks (λ k w e. not w) (λ y l. ap not (newline_here m.at y l ∙ w)))

  pub throw_same : Same p r
  throw_same = same_both m.same (checked_same c)

  throw_nodes : r.nodes ≡ p.nodes
  throw_nodes = checked_nodes c ∙ m.nodes

  pub throw_grown : {ds : List Diagnostic} → Grown r.errors ds → Grown p.errors ds
  throw_grown {ds} g = go c g
    where
      go : ChecksOperand word q r → Grown r.errors ds → Grown p.errors ds
      go (inl (w, k)) g = grown_then m.kept (grown_both (kept_one k) g)
      go (inr (w, e)) g = grown_then (ap (λ (v : Parser). v.errors) e ∙ m.kept) g

  pub throw_no_operand : (b : Bool) → Underived text (at Expression f) r.prev_token_end → NoStatement text (placed b f) p.prev_token_end
  throw_no_operand b n = go c
    where
      go : ChecksOperand word q r → NoStatement text (placed b f) p.prev_token_end
      go (inl (w, k)) = late b w
      go (inr (w, e)) = throw_fails b (on_line w ⟶✗ subst (λ (v : Parser). Underived text (at Expression f) v.prev_token_end) e n)

  module _ {t : Parser} {operand : NodeId} (x : Numbered text f (at Expression f) r t operand) where
    throw_read : r ≡ q → q.token.is_on_new_line ≡ false → Path text f (plain no_link) (ended by_edge (throw_slots f)) p (semicolon (goes_on (row_of x.answer.label x.answer.slots))) t (tree x.answer.label x.answer.slots)
    throw_read e w = to_semicolon_of (λ ds i j ls mid d y h. throw_ends f d y h) (on_line w ⟶ subst (λ (v : Parser). Path text f (after (at Expression f)) (symbol Expression f) v nothing t (tree x.answer.label x.answer.slots)) e (expression_path x.answer))

    pub throw_unended : (b : Bool) → NoEnd t → NoStatement text (placed b f) p.prev_token_end
    throw_unended b n = go c
      where
        go : ChecksOperand word q r → NoStatement text (placed b f) p.prev_token_end
        go (inl (w, k)) = late b w
        go (inr (w, e)) = throw_none b (throw_read e w ⟶✗ unended x.answer.at (goes_on (row_of x.answer.label x.answer.slots)) n)

    throw_path : (b : Bool) {v : Parser} → f.in_ ≡ true → EndsStatement t v → Path text f (after_statement (placed b f)) (such (placed b f) always) p nothing v (tree (label_here throw_statement no_op p v) (tree x.answer.label x.answer.slots end))
    unfolding rule rule_of covers
    throw_path b {v} i e = go c
      where
        go : ChecksOperand word q r → Path text f (after_statement (placed b f)) (such (placed b f) always) p nothing v (tree (label_here throw_statement no_op p v) (tree x.answer.label x.answer.slots end))
        go (inl (w, k)) =
            let z = ended_so x.answer.at e in
            let n = end_walked x.answer.at e in
            record {
              at = z.at;
              further = let b = m.further in let d = checked_place c in let g = (checked_at m.at c).behind in let l = x.answer.further in let o = z.further in omega arith;
              pass = λ ls. next m.lexeme (x.answer.pass (n.0 ls));
              walked = walked_both (walked_both (walked_one m) (walked_from (checked_spot c) x.answer.walked)) n.1;
              verdict = unclean (grown_first (grown_on (grown_then m.kept (kept_one k)) x.answer.verdict) z.kept) (late b w);
            }
        go (inr (w, j)) = by_symbol_as {X' = after_statement (placed b f)} (λ l cs vs y d. d) (alone_path throw_alone b (plain no_link) (unlinked f b) still_unlinked (noded_by a (inside_plain refl) (end_path i x.answer e (throw_read j w))))

    pub throw_answers : (b : Bool) {v w : Parser} {id : NodeId} (s : Span) → f.in_ ≡ true → EndsStatement t v → s.start ≡ p.token.span.start → s.end ≡ v.prev_token_end → MadeHere (plain_label node.ThrowStatement op.None s) (Some operand ∷ []) v w id → Statement text f (placed b f) p w id
    throw_answers b {v} {w} {id} s i e g d n =
        let l : plain_label node.ThrowStatement op.None s ≡ label_here throw_statement no_op p v = rw (g, d) refl in
        let made : MadeHere (label_here throw_statement no_op p v) (Some operand ∷ []) v w id = subst (λ (u : Label). MadeHere u (Some operand ∷ []) v w id) l n in
        let z = ended_so x.answer.at e in
        let kt : Keeps p.nodes t.nodes = subst (λ (ns : List Node). Keeps ns t.nodes) throw_nodes x.keeps in
        let ks : Keeps p.nodes v.nodes = subst (λ (ns : List Node). Keeps p.nodes ns) (sym z.nodes) kt in
        let ht : Holds t.nodes (length p.nodes) (length t.nodes) operand.0 x.answer.label x.answer.slots = subst (λ (ns : List Node). Holds t.nodes (length ns) (length t.nodes) operand.0 x.answer.label x.answer.slots) throw_nodes x.holds in
        by_such_statement (throw_path b i e) (never_open (label_here throw_statement no_op p v) (tree x.answer.label x.answer.slots end) refl) (same_both throw_same (same_both x.answer.same z.same)) made.stays
        (one_held p.nodes made (subst (λ (ns : List Node). Holds ns (length p.nodes) (length ns) operand.0 x.answer.label x.answer.slots) (sym z.nodes) ht)) (Keeps-trans ks (Keeps-made made.made)) refl (one_lies made)

-- what is told of it has its mark
word_marked : {text : List ℕ} {f : Flags} {p : Parser} (s : Span) → At text f p → StandsHere p kind.Throw true → s ≡ p.token.span → Mark (goal p) p.text (late_operand s)
word_marked {text} {f} {p} s a h e =
    let y = found a (uncut a (ap (same_kind kind.RAngle) h.0)) (ap is_last h.0) in
    let o = a_lexeme a.at.reached (subst (λ (t : List ℕ). NextLexeme all_faults t p.prev_token_end y.0) (sym a.text_is) y.1) in
    let m : Mark (goal p) p.text (late_operand p.token.span) = record {
      ordered = a.at.lies.ordered;
      within = a.at.lies.ends_whole.0;
      begins_between = a.at.lies.starts_whole;
      ends_between = a.at.lies.ends_whole;
      stands = ((the_start o (sym y.2.start), the_end o (sym y.2.end)), (refl, refl));
    } in
    subst (λ (v : Span). Mark (goal p) p.text (late_operand v)) (sym e) m

pub late_marked : {text : List ℕ} {f : Flags} {p q : Parser} (s : Span) → At text f p → StandsHere p kind.Throw true → s ≡ p.token.span → Moved text f p q → Mark (goal q) q.text (late_operand s)
late_marked {p = p} {q = q} s a h e m = subst (λ (t : List ℕ). Mark (goal q) t (late_operand s)) (sym m.same.follows.text) (subst (λ (v : SourceType). Mark (goal_of v) p.text (late_operand s)) (sym m.same.follows.source_type) (word_marked s a h e))

-- a word that is read may be passed
pub word_here : {text : List ℕ} {f : Flags} {p : Parser} (k : Kind) → At text f p → StandsHere p k true → one_of_kinds identifier_name_kinds k ≡ true → IsWholeHere p
word_here k a h r = word_whole a (ap (one_of_kinds identifier_name_kinds) h.0 ∙ r)

pub jump_whole : {text : List ℕ} {f : Flags} {p : Parser} {k : NodeKind} → At text f p → JumpsHere k p → IsWholeHere p
jump_whole a (inl (e, h)) = word_here kind.Break a h refl
jump_whole a (inr (e, h)) = word_here kind.Continue a h refl

-- what is said of a label that isn't read
pub label_told : (p q : Parser) (e : Stop) → (MayEnd p → ⊥) → NameHere p false → GivesUp (IsUnexpected p) p q e → TakesLabel p q (Err e)
label_told p q Fatal m n g = (m, n, g)
label_told p q NoMemory m n g = tt

pub label_memory : (p q : Parser) (e : Stop) → OnlyMemory e → TakesLabel p q (Err e)
label_memory p q Fatal m = absurd m
label_memory p q NoMemory m = tt
