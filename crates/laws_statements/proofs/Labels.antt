-- LabelledStatements (ECMA-262, 14.13): a name that was read as an expression, a colon behind it, and a statement.
use Rattle.std.proofs.Common.{ℕ, ◌⊎◌, inl, inr, suc, ◌≡◌, ◌<◌, ◌≤◌, List, [], ◌∷◌, length, Option, Some, Bool, true, false, not, ◌&&◌, IsTrue, refl, sym, ap, subst, arith, ◌∙◌}
use Rattle.std.proofs.lemmas.Bool.{false≢true, and_from}
use Rattle.js_base.specs.declared.diagnostic.Diagnostic.{Diagnostic}
use Rattle.js_base.specs.declared.kind.Kind.TheVariants.{Colon, LCurly, RAngle}
use Rattle.js_base.specs.declared.kind.Kind.{Kind}
use Rattle.js_base.specs.declared.span.Span.{Span}
use Rattle.js_base.specs.Contexts.{has_flag, in_flag}
use Rattle.js_base.specs.Kinds.{same_kind, one_of_kinds}
use Rattle.js_base.specs.KindSets.{binding_identifier_kinds}
use Rattle.js_grammar.specs.Trees.{Span as TreeSpan, Label, Slots, end, tree, no_op, labeled_statement, label_identifier}
use Rattle.js_grammar.specs.Grammar.{Lexeme, Lexemes, Look, last, next, here, seen, is, exact, lexeme, seq, such, nothing, label_of, Takes, is_seq, is_lexeme, is_such, ◌▸◌}
use Rattle.js_grammar.specs.Parsing.{Test, plain, full, always, still, passing, Admits, Goes, Reads, Fails}
use Rattle.js_grammar.specs.Productions.{G, Flags, Symbol, at, function_on_line, tok, word_or, Expression, Labeled, LabelIdentifier, ListItem, Sub}
use Rattle.js_grammar.specs.Productions.{Statement as AStatement}
use Rattle.js_grammar.specs.Productions.{sym as symbol}
use Rattle.js_grammar.specs.Table.{rule, rule_of}
use Rattle.js_grammar.specs.Follow.{row_of, edge_of, follow, after, looser, widest}
use Rattle.js_grammar.specs.Insertion.{after_expression, goes_on}
use Rattle.js_grammar.proofs.Looks.{covers, covered, apart}
use Rattle.js_grammar.proofs.Calculus.{On, Inside, ends, ◌▹◌, ◌▹✗◌, left, then_by, part_fails, fails_alt, fails_node, fails_rule, reads_lexeme, weaken_on, weaken_fails_on}
use Rattle.js_grammar.proofs.FollowLaws.{admits}
use Rattle.laws_shared.specs.js_tree.declared.id.NodeId.{NodeId}
use Rattle.laws_shared.specs.js_tree.declared.kind.NodeKind.TheVariants as node
use Rattle.laws_shared.specs.js_tree.declared.op.Op.TheVariants as op
use Rattle.laws_shared.specs.js_tree.Nodes.{Node}
use Rattle.laws_shared.specs.js_tree.Holding.{Holds, Keeps}
use Rattle.laws_shared.proofs.js_tree.HoldingLemmas.{Keeps-trans, Keeps-made}
use Rattle.laws_shared.specs.js_cursor.Parsers.{Parser}
use Rattle.std.specs.Prelude.{Err}
use Rattle.laws_shared.specs.js_cursor.Moves.{OnlyMemory}
use Rattle.laws_shared.specs.js_cursor.declared.stop.Stop.{Stop}
use Rattle.laws_shared.specs.js_cursor.declared.stop.Stop.TheVariants.{Fatal, NoMemory}
use Rattle.laws_shared.specs.Answers.{Grown, Stretch, Underived, Answer, Numbered, Stops}
use Rattle.laws_shared.specs.Lexemes.{Lex, Walked, keyword_kind, may_name, Spot, spot, nowhere, one_more, more_faults, read_again}
use Rattle.laws_shared.specs.Nesting.{room}
use Rattle.laws_shared.specs.Moves.{Moved, MadeHere, plain_label}
use Rattle.laws_shared.specs.Statements.{placed, no_link, statement_kinds, after_statement, NoStatement, Statement, StatementOutcome, IsLabel}
use Rattle.laws_shared.specs.States.{At, Same}
use Rattle.laws_shared.proofs.Signs.{plain_sign}
use Rattle.laws_shared.proofs.NameKinds.{at_name, listed_name, name_apart, name_passes, name_read, name_whole, names_at, name_test}
use Rattle.laws_shared.proofs.Dead.{lives}
use Rattle.laws_shared.proofs.Here.{found, kind_here, uncut}
use Rattle.laws_shared.proofs.MadeNodes.{leaf_held, two_held, one_lies, from_start}
use Rattle.laws_shared.proofs.Moving.{same_both, same_itself, same_with, beside_nodes, stops_behind}
use Rattle.laws_shared.proofs.Paths.{Path, ◌⟼◌, ◌⟶◌, ◌⟶✗◌, one_read, read_of, token, noded, noded_by, by_symbol_as, label_here}
use Rattle.laws_statements.proofs.Statements.{by_statement, no_class, no_expression, no_function, no_function_body, no_symbol, no_lexical, no_expression_ends, before_colon, item_left, sub_left, colon_ends}
use Rattle.laws_statements.specs.LetStatements.{behind_let, LetIsName}
use Rattle.laws_statements.proofs.WordLookaheads.{AsyncIsName, let_word, not_followed, ◌⇒✗◌}
use Rattle.laws_statements.proofs.Strings.{name_node, name_expression}
use Rattle.laws_shared.proofs.Escapes.{read_as, read_plain, keyword_none}
use Rattle.laws_shared.proofs.Verdicts.{either_way, verdict_of, grown_then}
use Rattle.laws_shared.proofs.Verdicts.{after as grown_behind}
use Rattle.laws_shared.proofs.PlainSigns.{colon_plain}
use Rattle.parse_declarations.proofs.laws_primary.Operands.{name_signless}

-- ---- what may stand behind

abbrev labeled_slots : Flags → G
labeled_slots f = symbol LabelIdentifier f ▸ tok Colon ▸ symbol Sub f

-- behind two slots may stand what may stand behind the second one
abbrev pub by_body : Flags → Slots → Look
by_body f (tree a ds (tree b cs end)) k w e = follow (at Sub f) (edge_of b cs) k w e
by_body f _ k w e = false

abbrev pub behind_label : Flags → Test
behind_label f = record { base = λ k w e. no_link k w e && widest Sub k w e; by = λ ts. by_body f ts }

inside_label : (b : Bool) (f : Flags) (s : ℕ) → Inside rule (record { kind = labeled_statement; op = no_op; flags = 0; extent = exact }) (after_statement (placed b f)) (behind_label f) end (labeled_slots f) s
inside_label true f s = record { ends = λ p cs vs j ls mid d e. go p cs vs d e }
  where
    go : (p : TreeSpan) (cs vs : Slots) {i j : ℕ} {ls mid : Lexemes} → Takes rule (labeled_slots f) end cs i ls end j mid → Admits (after_statement (at ListItem f)) (tree (record { kind = labeled_statement; op = no_op; flags = 0; span = p }) cs vs) (here mid) → Admits (behind_label f) cs (here mid)
    go p cs vs (is_seq (is_such a b) (is_seq (is_lexeme c) (is_such d e))) x = x
inside_label false f s = record { ends = λ p cs vs j ls mid d e. go p cs vs d e }
  where
    go : (p : TreeSpan) (cs vs : Slots) {i j : ℕ} {ls mid : Lexemes} → Takes rule (labeled_slots f) end cs i ls end j mid → Admits (after_statement (at Sub f)) (tree (record { kind = labeled_statement; op = no_op; flags = 0; span = p }) cs vs) (here mid) → Admits (behind_label f) cs (here mid)
    go p cs vs (is_seq (is_such a b) (is_seq (is_lexeme c) (is_such d e))) x = x

pub on_label : (f : Flags) (a : Label) (ds : Slots) (s : ℕ) → On rule (record { base = (behind_label f).base; by = λ us. by_body f (tree a ds us) }) (after_statement (at Sub f)) end (such (at Sub f) always) s
on_label f a ds s = record { admits = λ ts vs k ls rest d e. go ts vs d e }
  where
    go : (ts vs : Slots) {i k : ℕ} {ls rest : Lexemes} → Takes rule (such (at Sub f) always) end ts i ls vs k rest → Admits (record { base = (behind_label f).base; by = λ us. by_body f (tree a ds us) }) ts (here rest) → Admits (after_statement (at Sub f)) ts (here rest)
    go ts end (is_such d h) x = x
    go ts vs (is_such d h) x = absurd (false≢true x.1)

-- a path, before a node was made
pub path_made : {text : List ℕ} {f : Flags} {X : Test} {g g' : G} {p q : Parser} {h : Slots → Slots} (w : Parser) → w ≡ record q { nodes = w.nodes } → Path text f X g p g' q h → Path text f X g p g' w h
path_made {text} {f} {X} {g} {g'} {p} {q} {h} w e x = subst (λ (v : Parser). Path text f X g p g' v h) (sym e) (record { at = beside_nodes w.nodes x.at; further = x.further; pass = x.pass; walked = x.walked; verdict = x.verdict })

-- a symbol, whatever stands behind it
then_any : {text : List ℕ} {f : Flags} {X : Test} {b : G} {n : Symbol} {p q : Parser} {h : Slots → Slots} → Path text f (plain full) (such n always) p nothing q h → Path text f X (seq (such n always) b) p b q h
then_any x = record {
  at = x.at;
  further = x.further;
  pass = x.pass;
  walked = x.walked;
  verdict = verdict_of x.verdict (λ y. record { reach = y.reach; near = y.near; goes = then_by y.goes (record { admits = λ ts us vs j k ls mid rest d d' e. (refl, refl) }) }) (λ m. part_fails m (record { admits = λ ts us vs j k ls mid rest d d' e. (refl, refl) }));
}

-- ---- walks over one lexeme

abbrev size : Lexemes → ℕ
size (last x) = 1
size (next x ls) = suc (size ls)

walk_longer : {text : List ℕ} {s e : Spot} {pass : Lexemes → Lexemes} → Walked text s e pass → (ls : Lexemes) → size ls ≤ size (pass ls)
walk_longer nowhere ls = omega arith
walk_longer (one_more {x = x} w i r) ls = let h = walk_longer w (next x ls) in omega arith
walk_longer (read_again {x = x} w ds k i) ls = let h = walk_longer w (next x ls) in omega arith
walk_longer (more_faults w ds n) ls = walk_longer w ls

-- over none, or over one at least
none_or_more : {text : List ℕ} {s e : Spot} {pass : Lexemes → Lexemes} → Walked text s e pass → ((ls : Lexemes) → pass ls ≡ ls) ⊎ ((ls : Lexemes) → size ls < size (pass ls))
none_or_more nowhere = inl (λ ls. refl)
none_or_more (one_more {x = x} w i r) = inr (λ ls. let h = walk_longer w (next x ls) in omega arith)
none_or_more (read_again {x = x} w ds k i) = inr (λ ls. let h = walk_longer w (next x ls) in omega arith)
none_or_more (more_faults w ds n) = none_or_more w

one_lexeme : {text : List ℕ} {s e : Spot} {pass : Lexemes → Lexemes} → Walked text s e pass → (y z : Lexeme) → pass (last z) ≡ next y (last z) → (ls : Lexemes) → pass ls ≡ next y ls
one_lexeme nowhere y z h ls = let b = ap size h in absurd (omega arith)
one_lexeme (more_faults w ds n) y z h ls = one_lexeme w y z h ls
one_lexeme (one_more {x = x} w i r) y z h ls = elim (none_or_more w) [
  | inl e ↦ e (next x ls) ∙ ap (λ (v : Lexeme). next v ls) (ap here (sym (e (next x (last z))) ∙ h))
  | inr m ↦ let a = m (next x (last z)) in let b = ap size h in absurd (omega arith)
]
one_lexeme (read_again {x = x} w ds k i) y z h ls = elim (none_or_more w) [
  | inl e ↦ e (next x ls) ∙ ap (λ (v : Lexeme). next v ls) (ap here (sym (e (next x (last z))) ∙ h))
  | inr m ↦ let a = m (next x (last z)) in let b = ap size h in absurd (omega arith)
]

pub made_at : {text : List ℕ} {f : Flags} {q w : Parser} {l : Label} {ids : List (Option NodeId)} {id : NodeId} → At text f q → MadeHere l ids q w id → At text f w
made_at {text} {f} {w = w} a n = subst (λ (v : Parser). At text f v) (sym n.stays) (beside_nodes w.nodes a)

pub made_colon : {q w : Parser} {l : Label} {ids : List (Option NodeId)} {id : NodeId} → q.token.kind ≡ Colon → MadeHere l ids q w id → w.token.kind ≡ Colon
made_colon k n = ap (λ (v : Parser). v.token.kind) n.stays ∙ k

pub made_room : {q w : Parser} {l : Label} {ids : List (Option NodeId)} {id : NodeId} → MadeHere l ids q w id → room w ≡ room q
made_room n = ap room n.stays

pub made_in : {q w : Parser} {l : Label} {ids : List (Option NodeId)} {id : NodeId} → has_flag in_flag q.ctx ≡ true → MadeHere l ids q w id → has_flag in_flag w.ctx ≡ true
made_in h n = ap (λ (v : Parser). has_flag in_flag v.ctx) n.stays ∙ h

-- ---- the label

module _ {text : List ℕ} {f : Flags} {p q : Parser} (a : At text f p) (x : Answer text f (at Expression f) p q) (i : IsLabel p.token q) where
  -- the name
  is_name : may_name f.yield_ f.await_ p.token.kind ≡ true
  is_name = names_at x.at (λ (b : Bool). b) p.token.kind ∙ i.name

  is_listed : one_of_kinds binding_identifier_kinds p.token.kind ≡ true
  is_listed = listed_name f.yield_ f.await_ p.token.kind is_name

  name : (y : Lexeme) × Lex text p.prev_token_end y × (may_name f.yield_ f.await_ y.kind ≡ true) × (y.to ≡ q.prev_token_end)
  name =
      let w = name_whole a is_listed in
      let z = found a w.0 w.1 in
      let k : may_name f.yield_ f.await_ z.0.kind ≡ true = subst (λ (v : Kind). may_name f.yield_ f.await_ v ≡ true) z.2.kind is_name in
      (z.0, (z.1, read_as z.0 z.2 (name_read p.token.kind is_listed)), k, sym z.2.end ∙ i.place)

  looks_so : IsTrue (seen (name_test f) name.0)
  looks_so = name_passes f name.0 name.2

  -- and the colon
  colon : (z : Lexeme) × Lex text q.prev_token_end z × (z.kind ≡ Colon)
  colon =
      let z = found x.at (uncut x.at (ap (same_kind RAngle) i.colon)) (rw (i.colon) refl) in
      let k : z.0.kind ≡ Colon = sym z.2.kind ∙ i.colon in
      (z.0, (z.1, read_of z.0 k refl), k)

  -- a name before a colon is an expression, so it was read as one
  derived : Underived text (at Expression f) p.prev_token_end → ⊥
  unfolding covers
  derived n =
      let y = name.0 in let z = colon.0 in
      let l : Lex text y.to z = subst (λ (e : ℕ). Lex text e z) (sym name.3) colon.1 in
      let cs = label_of name_node (next y (last z)) y.to (last z) in
      n.no (tree cs end end) end y.to (next y (last z)) (last z) (name.1, l) (name_expression looks_so) (admits (at Expression f) (tree cs end end) z (covered (is Colon) (looser 1 f.in_ after_expression) (colon_ends f.in_) z.kind z.newline z.escaped (and_from _ _ (rw (colon.2) refl) (ap not (read_plain z colon.1 colon.2 refl)))))

  -- and nothing else was passed
  only_name : Stretch text (after (at Expression f)) (such (at Expression f) always) p.prev_token_end nothing q.prev_token_end (tree x.label x.slots) x.pass → x.pass (last colon.0) ≡ next name.0 (last colon.0)
  unfolding covers
  only_name u =
      let y = name.0 in let z = colon.0 in
      let l : Lex text y.to z = subst (λ (e : ℕ). Lex text e z) (sym name.3) colon.1 in
      let cs = label_of name_node (next y (last z)) y.to (last z) in
      let w = u.goes.only (tree cs end end) end y.to (next y (last z)) (last z) (name.1, l) (name_expression looks_so) (admits (at Expression f) (tree cs end end) z (covered (is Colon) (looser 1 f.in_ after_expression) (colon_ends f.in_) z.kind z.newline z.escaped (and_from _ _ (rw (colon.2) refl) (ap not (read_plain z colon.1 colon.2 refl))))) in
      ap x.pass (sym (ends w.4).2) ∙ sym w.5

  name_passed : (ls : Lexemes) → x.pass ls ≡ next name.0 ls
  name_passed = either_way x.verdict (λ c. one_lexeme x.walked name.0 colon.0 (only_name c)) (λ m. absurd (derived m))

  name_path : Path text f (plain full) (lexeme (name_test f)) p nothing q (λ us. us)
  name_path = record {
    at = x.at;
    further = x.further;
    pass = λ ls. next name.0 ls;
    walked = subst (λ (h : Lexemes → Lexemes). Walked text (spot p) (spot q) h) (λ i ls. name_passed ls i) x.walked;
    verdict = verdict_of x.verdict (λ c. record { reach = 0; near = omega arith; goes = subst (λ (e : ℕ). Reads rule (Lex text) (plain full) end (lexeme (name_test f)) p.prev_token_end e (λ us. us) (passing name.0)) name.3 (reads_lexeme (name_test f) name.1 looks_so (λ z l h. one_read a (name_signless p.token.kind is_listed) l name.1)) }) (λ m. absurd (derived m));
  }

  pub label_path : Path text f (plain full) (symbol LabelIdentifier f) p nothing q (tree (label_here label_identifier no_op p q) end)
  unfolding rule rule_of
  label_path = by_symbol_as {X' = plain full} (λ l cs vs y d. (refl, refl)) (noded a name_path)

  to_labeled : {X : Test} → Goes rule (Lex text) X end (rule (at AStatement f)) p.prev_token_end (symbol Labeled f) p.prev_token_end (λ us. us) (still 0)
  unfolding rule rule_of covers
  to_labeled = at_name a is_listed

  colon_behind : (y z : Lexeme) → Lex text p.prev_token_end y → Lex text y.to z → z.kind ≡ Colon
  colon_behind y z l m =
      let e : y.to ≡ q.prev_token_end = ap (λ (v : Lexeme). v.to) (one_read a (name_signless p.token.kind is_listed) l name.1) ∙ name.3 in
      kind_here x.at i.colon refl z (subst (λ (v : ℕ). Lex text v z) e m)

  -- a colon stands behind `let` and behind `async`, where that is the label
  label_named : (b : Bool) → LetIsName text b p.prev_token_end
  label_named b y z l h m = no_colon_behind b (colon_behind y z l m)
    where
      no_colon_behind : (b : Bool) → z.kind ≡ Colon → behind_let b z.kind ≡ false
      no_colon_behind true k = ap (behind_let true) k
      no_colon_behind false k = ap (behind_let false) k

  label_async : AsyncIsName text p.prev_token_end
  label_async y z l h m t = false≢true (sym (ap (λ (k : Kind). function_on_line k z.newline z.escaped) (colon_behind y z l m)) ∙ t)

  -- a label is none of the words that begin a statement
  no_word_here : one_of_kinds statement_kinds (keyword_kind p.token) ≡ false
  unfolding apart
  no_word_here = keyword_none p.token statement_kinds (name_apart statement_kinds refl p.token.kind is_listed) refl

  -- it is no expression with a semicolon
  to_placed : (b : Bool) → Goes rule (Lex text) (after_statement (placed b f)) end (rule (placed b f)) p.prev_token_end (symbol AStatement f) p.prev_token_end (λ us. us) (still 0)
  unfolding apart covers
  to_placed true = subst (λ (g : G). Goes rule (Lex text) (after_statement (at ListItem f)) end (rule (at ListItem f)) p.prev_token_end g p.prev_token_end (λ us. us) (still 0)) (item_left f) (lives (rule (at ListItem f))) ▹ left (fails_alt (not_followed a let_word (word_or (LCurly ∷ [])) (λ y z l h m t. false≢true (sym (label_named true y z l h m) ∙ covered (word_or (LCurly ∷ [])) (λ k w e. behind_let true k) refl z.kind z.newline z.escaped t)) ⇒✗ no_expression_ends true a (keyword_none p.token no_expression (name_apart no_expression refl p.token.kind is_listed) refl) label_async (label_named true) x (before_colon x.at (goes_on (row_of x.label x.slots)) i.colon)) (fails_alt (no_function a no_word_here label_async) (fails_alt (no_class a no_word_here) (no_lexical a no_word_here (label_named true)))))
  to_placed false = subst (λ (g : G). Goes rule (Lex text) (after_statement (at Sub f)) end (rule (at Sub f)) p.prev_token_end g p.prev_token_end (λ us. us) (still 0)) (sub_left f) (lives (rule (at Sub f))) ▹ left (fails_alt (no_expression_ends false a (keyword_none p.token no_expression (name_apart no_expression refl p.token.kind is_listed) refl) label_async (label_named false) x (before_colon x.at (goes_on (row_of x.label x.slots)) i.colon)) (no_function_body a no_word_here))

  -- what is in the node can't be read
  labeled_fails : (b : Bool) → Fails rule (Lex text) (behind_label f) end (labeled_slots f) p.prev_token_end → NoStatement text (placed b f) p.prev_token_end
  unfolding rule rule_of
  labeled_fails b m = no_symbol (to_placed b ▹✗ fails_rule {X' = after_statement (placed b f)} (λ l cs vs y e. e) (to_labeled ▹✗ fails_rule {X' = after_statement (placed b f)} (λ l cs vs y e. e) (fails_node (inside_label b f p.prev_token_end) m)))

  pub labeled_path : (b : Bool) {v : Parser} {h : Slots → Slots} → Path text f (behind_label f) (labeled_slots f) p nothing v h → Path text f (after_statement (placed b f)) (rule (placed b f)) p nothing v (tree (label_here labeled_statement no_op p v) (h end))
  unfolding rule rule_of
  labeled_path b m = to_placed b ⟼ by_symbol_as {X' = after_statement (placed b f)} (λ l cs vs y e. e) (to_labeled ⟼ by_symbol_as {X' = after_statement (placed b f)} (λ l cs vs y e. e) (noded_by a (inside_label b f p.prev_token_end) m))

  -- the label's node was made, and the colon was passed
  module _ {w r : Parser} {label : NodeId} (made : MadeHere (label_here label_identifier no_op p q) [] q w label) (m : Moved text f w r) where
    at_colon : At text f w
    at_colon = made_at x.at made

    token_is : w.token.kind ≡ Colon
    token_is = made_colon i.colon made

    colon_path : Path text f (behind_label f) (labeled_slots f) p (symbol Sub f) r (tree (label_here label_identifier no_op p q) end)
    colon_path = then_any (path_made w made.stays label_path) ⟶ token Colon at_colon token_is (plain_sign Colon at_colon token_is refl refl colon_plain) refl m

    pub body_fails : (b : Bool) → NoStatement text (at Sub f) r.prev_token_end → NoStatement text (placed b f) p.prev_token_end
    body_fails b n = labeled_fails b (colon_path ⟶✗ weaken_fails_on n (on_label f (label_here label_identifier no_op p q) end r.prev_token_end))

    pub body_path : {v : Parser} {body : NodeId} (s : Statement text f (at Sub f) r v body) → Path text f (behind_label f) (labeled_slots f) p nothing v (λ us. tree (label_here label_identifier no_op p q) end (tree s.label s.slots us))
    body_path s = colon_path ⟶ record { at = s.at; further = s.further; pass = s.pass; walked = s.walked; verdict = verdict_of s.verdict (λ y. record { reach = y.reach; near = y.near; goes = weaken_on y.goes (on_label f (label_here label_identifier no_op p q) end r.prev_token_end) }) (λ n. weaken_fails_on n (on_label f (label_here label_identifier no_op p q) end r.prev_token_end)) }

-- ---- what is answered

module _ {text : List ℕ} {f : Flags} {p q : Parser} {id : NodeId} (a : At text f p) (x : Numbered text f (at Expression f) p q id) (i : IsLabel p.token q) where
  same_label : {s : Span} → s ≡ p.token.span → plain_label node.LabelIdentifier op.None s ≡ label_here label_identifier no_op p q
  same_label {s} e = rw e (ap (λ (v : ℕ). record { kind = label_identifier; op = no_op; flags = 0; span = record { from = p.token.span.start; to = v } }) i.place)

  module _ {w : Parser} {label : NodeId} {s : Span} (e : s ≡ p.token.span) (made : MadeHere (plain_label node.LabelIdentifier op.None s) [] q w label) where
    abbrev labeled : MadeHere (label_here label_identifier no_op p q) [] q w label
    labeled = subst (λ (l : Label). MadeHere l [] q w label) (same_label e) made

    same_made : Same q w
    same_made = subst (λ (v : Parser). Same q v) (sym made.stays) (same_with w.nodes same_itself (Keeps-made made.made) (λ b h. one_lies labeled (from_start (label_here label_identifier no_op p q) x.answer.same x.answer.at.at (let g = x.answer.further in omega arith) refl a.at.lies.starts_whole) h))

    errors_made : w.errors ≡ q.errors
    errors_made = ap (λ (v : Parser). v.errors) made.stays

    module _ {r : Parser} (m : Moved text f w r) where
      pub label_same : Same p r
      label_same = same_both x.answer.same (same_both same_made m.same)

      label_grown : {ds : List Diagnostic} → Grown r.errors ds → Grown p.errors ds
      label_grown g = grown_behind x.answer.verdict (grown_then (m.kept ∙ errors_made) g)

      pub label_stops : (b : Bool) (v : Parser) (e : Stop) → Stops r v e (NoStatement text (at Sub f) r.prev_token_end) → Stops p v e (NoStatement text (placed b f) p.prev_token_end)
      label_stops b v e z = stops_behind v e label_same (λ g. label_grown g) (λ k. body_fails a x.answer i labeled m b k) z

      pub label_answers : (b : Bool) {v z : Parser} {body made_id : NodeId} (t : Span) (y : Statement text f (at Sub f) r v body) → t.start ≡ p.token.span.start → t.end ≡ v.prev_token_end → MadeHere (plain_label node.LabeledStatement op.None t) (Some label ∷ Some body ∷ []) v z made_id → Statement text f (placed b f) p z made_id
      label_answers b {v} {z} {body} {made_id} t y g h d =
          let l : plain_label node.LabeledStatement op.None t ≡ label_here labeled_statement no_op p v = rw (g, h) refl in
          let k : MadeHere (label_here labeled_statement no_op p v) (Some label ∷ Some body ∷ []) v z made_id = subst (λ (u : Label). MadeHere u (Some label ∷ Some body ∷ []) v z made_id) l d in
          let kw : Keeps p.nodes w.nodes = Keeps-trans x.keeps (Keeps-made made.made) in
          let ky : Keeps w.nodes v.nodes = subst (λ (ns : List Node). Keeps ns v.nodes) m.nodes y.keeps in
          by_statement (labeled_path a x.answer i b (body_path a x.answer i labeled m y)) y.closed (same_both label_same y.same) k.stays
          (two_held k (leaf_held labeled x.keeps) kw (subst (λ (ns : List Node). Holds v.nodes (length ns) (length v.nodes) body.0 y.label y.slots) m.nodes y.holds) ky) (Keeps-trans kw (Keeps-trans ky (Keeps-made k.made))) refl (one_lies k)

-- what is said where memory was refused
pub label_memory : (text : List ℕ) (f : Flags) (b : Bool) (p q : Parser) (e : Stop) → OnlyMemory e → StatementOutcome text f (placed b f) p q (Err e)
label_memory text f b p q Fatal m = absurd m
label_memory text f b p q NoMemory m = tt
