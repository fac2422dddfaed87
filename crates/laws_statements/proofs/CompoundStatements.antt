-- Statements that hold other ones (ECMA-262, 14.6, 14.7.2, 14.7.3, 14.11).
use Rattle.std.proofs.Common.{ℕ, ◌≡◌, ◌<◌, inl, inr, List, [], ◌∷◌, length, Option, Some, None, Bool, true, false, not, ◌&&◌, IsTrue, refl, sym, ap, subst, arith, ◌∙◌, ◌||◌}
use Rattle.std.specs.Prelude.{Ok, Err}
use Rattle.std.proofs.lemmas.Bool.{false≢true, and_parts}
use Rattle.js_base.specs.declared.diagnostic.Diagnostic.{Diagnostic}
use Rattle.js_base.specs.declared.diagnostic.DiagnosticKind.TheVariants.{ExpectToken}
use Rattle.js_base.specs.declared.kind.Kind.{Kind}
use Rattle.js_base.specs.declared.kind.Kind.TheVariants as kind
use Rattle.js_base.specs.declared.span.Span.{Span}
use Rattle.js_base.specs.Kinds.{same_kind, one_of_kinds}
use Rattle.js_base.specs.Texts.{words}
use Rattle.js_base.proofs.KindLemmas.{kind_of_same}
use Rattle.js_grammar.specs.Conditions.{ends_in_sub, lacks_else, has_else}
use Rattle.js_grammar.specs.Trees.{Span as TreeSpan, Label, Slots, Tree, end, hole, tree, no_op, if_statement, do_while_statement}
use Rattle.js_grammar.specs.Grammar.{Lexeme, Lexemes, Look, Make, here, seen, is, exact, seq, such, empty_slot, nothing, Takes, is_seq, is_lexeme, is_such, is_left, is_right, is_empty_slot, ◌▸◌, ◌◇◌}
use Rattle.js_grammar.specs.Insertion.{Row, after_expression}
use Rattle.js_grammar.specs.Lexed.{Lexes}
use Rattle.js_grammar.specs.Parsing.{Test, plain, full, behind, always, still, Admits, Goes, Fails}
use Rattle.js_grammar.specs.Productions.{G, Flags, Name, Symbol, at, tok, mk, other, if_next, Do, Expression, If, Sub, While, With}
use Rattle.js_grammar.specs.Productions.{Statement as AStatement}
use Rattle.js_grammar.specs.Productions.{sym as symbol}
use Rattle.js_grammar.specs.Table.{rule, rule_of}
use Rattle.js_grammar.specs.Follow.{Edge, behind_statement, edge_of, first_edge, row_of, widest}
use Rattle.js_grammar.proofs.Looks.{covers, covered, apart}
use Rattle.js_grammar.proofs.Calculus.{Between, Inside, On, Sure, ◌▹◌, ends, here_at, left, right, looks, then_by, part_fails, tested, fails_alt, fails_tested, fails_lexeme, fails_look, fails_node, reads_empty_slot, weaken_on, weaken_fails_on}
use Rattle.js_grammar.proofs.FirstClaims.{firsts}
use Rattle.js_grammar.proofs.FirstRules.{by_first}
use Rattle.js_grammar.proofs.FollowLaws.{surely}
use Rattle.laws_shared.specs.js_tree.declared.id.NodeId.{NodeId}
use Rattle.laws_shared.specs.js_tree.declared.kind.NodeKind.{NodeKind}
use Rattle.laws_shared.specs.js_tree.declared.kind.NodeKind.TheVariants as node
use Rattle.laws_shared.specs.js_tree.declared.op.Op.TheVariants as op
use Rattle.laws_shared.specs.js_tree.Labels.{kind_of}
use Rattle.laws_shared.specs.js_tree.Nodes.{Node}
use Rattle.laws_shared.specs.js_tree.Holding.{Holds, HoldsAll, Keeps}
use Rattle.laws_shared.proofs.js_tree.HoldingLemmas.{Holds-kept, HoldsAll-append, HoldsAll-hole, HoldsAll-one, HoldsAll-two, Keeps-made, Keeps-trans}
use Rattle.laws_shared.specs.js_lex.Reading.{is_right_angle}
use Rattle.laws_shared.specs.js_cursor.Moves.{Eats, Expects, IsKind, OnlyMemory}
use Rattle.laws_shared.specs.js_cursor.Parsers.{Parser}
use Rattle.laws_shared.specs.js_cursor.declared.stop.Stop.{Stop}
use Rattle.laws_shared.specs.js_cursor.declared.stop.Stop.TheVariants.{Fatal, NoMemory}
use Rattle.laws_shared.specs.Answers.{Answer, Grown, Numbered, Stops, Underived}
use Rattle.laws_shared.specs.Lexemes.{Lex, other_goals, is_read_kind}
use Rattle.laws_shared.specs.Moves.{IsWholeHere, Moved, Moves, MadeHere, plain_label}
use Rattle.laws_shared.specs.Stands.{StandsHere}
use Rattle.laws_shared.specs.States.{At, Same}
use Rattle.laws_shared.specs.Statements.{placed, no_link, after_statement, NoStatement, Statement, TakesStatement}
use Rattle.laws_statements.specs.CompoundStatements.{HeadsHere, NoParens, ParensTaken, TakesAlternate, in_parens}
use Rattle.laws_shared.proofs.Here.{escaped_here, kind_here}
use Rattle.laws_shared.proofs.MadeNodes.{node_held, one_lies, two_held}
use Rattle.laws_shared.proofs.Moving.{same_both, same_itself, stops_behind}
use Rattle.laws_shared.proofs.Paths.{Path, ◌⟼◌, ◌⟶◌, ◌⟶✗◌, at_kind, called, fails_at, label_here, last_token, noded, noded_by, read_of, token}
use Rattle.laws_shared.proofs.Signs.{none_seen, NoneIs, plain_sign, stands_not}
use Rattle.laws_shared.proofs.Verdicts.{either_way, grown_then, verdict_of}
use Rattle.laws_shared.proofs.Verdicts.{after as grown_behind}
use Rattle.laws_shared.proofs.Expected.{unexpected, expected}
use Rattle.laws_statements.proofs.Labels.{behind_label, on_label}
use Rattle.laws_statements.proofs.Statements.{Ended, by_statement, never_open, ◌⟝◌}
use Rattle.laws_statements.proofs.WordStatements.{Alone, alone_fails, alone_path, word_here}

-- ---- parts of a statement

pub then_fails : {text : List ℕ} {X : Test} {a b : G} {s : ℕ} → Fails rule (Lex text) (plain full) end a s → Fails rule (Lex text) X end (seq a b) s
then_fails m = part_fails m (record { admits = λ ts us vs j k ls mid rest d d' e. (refl, refl) })

module _ {text : List ℕ} {f : Flags} {X : Test} where
  -- a part, whatever stands behind it
  pub then_part : {a b : G} {p q : Parser} {h : Slots → Slots} → Path text f (plain full) a p nothing q h → Path text f X (seq a b) p b q h
  then_part x = record {
    at = x.at;
    further = x.further;
    pass = x.pass;
    walked = x.walked;
    verdict = verdict_of x.verdict (λ y. record { reach = y.reach; near = y.near; goes = then_by y.goes (record { admits = λ ts us vs j k ls mid rest d d' e. (refl, refl) }) }) (λ m. part_fails m (record { admits = λ ts us vs j k ls mid rest d d' e. (refl, refl) }));
  }

  -- a statement, the last part, by what may stand behind the whole
  pub statement_read : {n : Symbol} {p q : Parser} {id : NodeId} (s : Statement text f n p q id) → On rule X (after_statement n) end (such n always) p.prev_token_end → Path text f X (such n always) p nothing q (tree s.label s.slots)
  statement_read s c = record { at = s.at; further = s.further; pass = s.pass; walked = s.walked; verdict = verdict_of s.verdict (λ y. record { reach = y.reach; near = y.near; goes = weaken_on y.goes c }) (λ n. weaken_fails_on n c) }

  -- or with something behind it
  statement_then : {b : G} {n : Symbol} {p q : Parser} {id : NodeId} (s : Statement text f n p q id) → Between rule X (after_statement n) end (such n always) b p.prev_token_end → Path text f X (seq (such n always) b) p b q (tree s.label s.slots)
  statement_then s c = record { at = s.at; further = s.further; pass = s.pass; walked = s.walked; verdict = verdict_of s.verdict (λ y. record { reach = y.reach; near = y.near; goes = then_by y.goes c }) (λ n. part_fails n c) }

module _ {text : List ℕ} {f : Flags} {p : Parser} (a : At text f p) where
  -- a lexeme that is due doesn't stand here
  pub no_token : {X : Test} {g : G} (k : Kind) → (is_right_angle k || one_of_kinds other_goals k) ≡ false → StandsHere p k false → Fails rule (Lex text) X end (tok k ▸ g) p.prev_token_end
  no_token k n s = then_fails (fails_lexeme (is k) (none_seen (stands_not a n s)))

  pub no_parens : StandsHere p kind.LParen false → NoParens text f p.prev_token_end
  no_parens n = no_token kind.LParen refl n

-- ---- an Expression in parentheses

module _ {text : List ℕ} {f : Flags} {p q : Parser} (a : At text f p) (k : IsKind kind.LParen p) (m : Moved text f p q) where
  parens_opened : {X : Test} → Path text f X (in_parens f) p (symbol Expression f ▸ tok kind.RParen) q (λ us. us)
  parens_opened = token kind.LParen a k.0 k.1 refl m

  pub parens_unread : Underived text (at Expression f) q.prev_token_end → NoParens text f p.prev_token_end
  unfolding covers
  parens_unread n = parens_opened ⟶✗ part_fails n (by_first firsts (surely (at Expression f)) refl)

  module _ {r : Parser} (x : Answer text f (at Expression f) q r) where
    in_them : Path text f (plain full) (in_parens f) p (tok kind.RParen) r (tree x.label x.slots)
    unfolding covers
    in_them = parens_opened ⟶ called x refl

    pub parens_unclosed : one_of_kinds (kind.RParen ∷ []) r.token.kind ≡ false → NoParens text f p.prev_token_end
    unfolding covers apart
    parens_unclosed n = in_them ⟶✗ fails_at x.at {X = plain full} (tok kind.RParen) (kind.RParen ∷ []) refl n

    parens_path : {u : Parser} → r.token.kind ≡ kind.RParen → Moved text f r u → Path text f (plain full) (in_parens f) p nothing u (tree x.label x.slots)
    unfolding words
    parens_path c d = in_them ⟶ last_token kind.RParen x.at c (plain_sign kind.RParen x.at c refl refl refl) refl d

pub parens_taken : {text : List ℕ} {f : Flags} {p q r u : Parser} {id : NodeId} → At text f p → IsKind kind.LParen p → (m : Moved text f p q) → Numbered text f (at Expression f) q r id → r.token.kind ≡ kind.RParen → Moved text f r u → ParensTaken text f p u id
parens_taken {text} {f} {p} {q} {r} {u} {id} a k m x c d =
    let y = parens_path a k m x.answer c d in
    record {
      at = d.at;
      same = same_both m.same (same_both x.answer.same d.same);
      further = y.further;
      label = x.answer.label;
      slots = x.answer.slots;
      pass = y.pass;
      walked = y.walked;
      verdict = y.verdict;
      holds = subst (λ (ns : List Node). Holds ns (length p.nodes) (length ns) id.0 x.answer.label x.answer.slots) (sym d.nodes) (subst (λ (ns : List Node). Holds r.nodes (length ns) (length r.nodes) id.0 x.answer.label x.answer.slots) m.nodes x.holds);
      keeps = subst (λ (ns : List Node). Keeps p.nodes ns) (sym d.nodes) (subst (λ (ns : List Node). Keeps ns r.nodes) m.nodes x.keeps);
    }

pub parens_read : {text : List ℕ} {f : Flags} {p q : Parser} {id : NodeId} (x : ParensTaken text f p q id) → Path text f (plain full) (in_parens f) p nothing q (tree x.label x.slots)
parens_read x = record { at = x.at; further = x.further; pass = x.pass; walked = x.walked; verdict = x.verdict }

-- ---- while and with

abbrev headed_slots : Kind → Flags → G
headed_slots k f = tok k ▸ in_parens f ▸ symbol Sub f

-- what may stand behind such a node may stand behind its body
inside_headed : (b : Bool) (f : Flags) (m : Make) (k : Kind) (s : ℕ) → ends_in_sub m.kind ≡ true → Inside rule m (after_statement (placed b f)) (behind_label f) end (headed_slots k f) s
inside_headed b f m k s o = record { ends = λ p cs vs j ls mid d e. go b p cs vs d e }
  where
    last : (r : Row) (cs : Slots) (y : Lexeme) → IsTrue (seen (behind_statement (record { row = r; open_if = ends_in_sub m.kind && lacks_else cs })) y) → IsTrue (seen (behind_statement (record { row = r; open_if = lacks_else cs })) y)
    last r cs y h = subst (λ (v : Bool). IsTrue (seen (behind_statement (record { row = r; open_if = v && lacks_else cs })) y)) o h

    go : (b : Bool) (p : TreeSpan) (cs vs : Slots) {i j : ℕ} {ls mid : Lexemes} → Takes rule (headed_slots k f) end cs i ls end j mid → Admits (after_statement (placed b f)) (tree (record { kind = m.kind; op = m.op; flags = m.flags; span = p }) cs vs) (here mid) → Admits (behind_label f) cs (here mid)
    go true p cs vs {mid = mid} (is_seq (is_lexeme a) (is_seq (is_seq (is_lexeme c) (is_seq (is_such d t) (is_lexeme z))) (is_such e u))) x = (x.0, last after_expression cs (here mid) x.1)
    go false p cs vs {mid = mid} (is_seq (is_lexeme a) (is_seq (is_seq (is_lexeme c) (is_seq (is_such d t) (is_lexeme z))) (is_such e u))) x = (x.0, last after_expression cs (here mid) x.1)

-- Here begins what such a node is made of.
record Headed (text : List ℕ) (f : Flags) (p : Parser) (k : NodeKind) : Type 0 where
  name : Name
  word : Kind
  line : mk (kind_of k) (headed_slots word f) ≡ rule (at name f)
  alone : Alone text f name p.prev_token_end
  is_here : p.token.kind ≡ word
  is_plain : p.token.escaped ≡ false
  is_read : is_read_kind word ≡ true
  holds_one : ends_in_sub (kind_of k) ≡ true

headed_of : {text : List ℕ} {f : Flags} {p : Parser} {k : NodeKind} → At text f p → HeadsHere k p → Headed text f p k
unfolding rule rule_of covers
headed_of {text} {f} {p} a (inl (e, h)) = subst (λ (v : NodeKind). Headed text f p v) (sym e) (record { name = While; word = kind.While; line = refl; alone = record { listed = λ b X. listed b; alone = λ X. at_kind a kind.While h.0 refl }; is_here = h.0; is_plain = h.1; is_read = refl; holds_one = refl })
  where
    listed : {X : Test} (b : Bool) → Goes rule (Lex text) X end (rule (placed b f)) p.prev_token_end (symbol AStatement f) p.prev_token_end (λ us. us) (still 0)
    listed true = at_kind a kind.While h.0 refl
    listed false = at_kind a kind.While h.0 refl
headed_of {text} {f} {p} a (inr (e, h)) = subst (λ (v : NodeKind). Headed text f p v) (sym e) (record { name = With; word = kind.With; line = refl; alone = record { listed = λ b X. listed b; alone = λ X. at_kind a kind.With h.0 refl }; is_here = h.0; is_plain = h.1; is_read = refl; holds_one = refl })
  where
    listed : {X : Test} (b : Bool) → Goes rule (Lex text) X end (rule (placed b f)) p.prev_token_end (symbol AStatement f) p.prev_token_end (λ us. us) (still 0)
    listed true = at_kind a kind.With h.0 refl
    listed false = at_kind a kind.With h.0 refl

module _ {text : List ℕ} {f : Flags} {p q : Parser} {k : NodeKind} (a : At text f p) (h : HeadsHere k p) (m : Moved text f p q) where
  abbrev headed : Headed text f p k
  headed = headed_of a h

  headed_none : (b : Bool) → Fails rule (Lex text) (behind_label f) end (headed_slots headed.word f) p.prev_token_end → NoStatement text (placed b f) p.prev_token_end
  headed_none b n = alone_fails headed.alone b (after_statement (placed b f)) (λ l cs vs y d. d) (λ l cs vs y d. d) (subst (λ (g : G). Fails rule (Lex text) (after_statement (placed b f)) end g p.prev_token_end) headed.line (fails_node (inside_headed b f _ headed.word p.prev_token_end headed.holds_one) n))

  headed_passed : {X : Test} {g : G} → Path text f X (tok headed.word ▸ g) p g q (λ us. us)
  headed_passed = token headed.word a headed.is_here headed.is_plain headed.is_read m

  pub headed_stops : (b : Bool) (r : Parser) (e : Stop) → Stops q r e (NoParens text f q.prev_token_end) → Stops p r e (NoStatement text (placed b f) p.prev_token_end)
  headed_stops b r e z = stops_behind r e m.same (λ g. grown_then m.kept g) (λ n. headed_none b (headed_passed ⟶✗ then_fails n)) z

  module _ {r : Parser} {head : NodeId} (x : ParensTaken text f q r head) where
    headed_read : Path text f (behind_label f) (headed_slots headed.word f) p (symbol Sub f) r (tree x.label x.slots)
    headed_read = headed_passed ⟶ then_part (parens_read x)

    pub head_same : Same p r
    head_same = same_both m.same x.same

    pub head_grown : {ds : List Diagnostic} → Grown r.errors ds → Grown p.errors ds
    head_grown g = grown_then m.kept (grown_behind x.verdict g)

    pub body_stops : (b : Bool) (v : Parser) (e : Stop) → Stops r v e (NoStatement text (at Sub f) r.prev_token_end) → Stops p v e (NoStatement text (placed b f) p.prev_token_end)
    body_stops b v e z = stops_behind v e head_same (λ g. head_grown g) (λ n. headed_none b (headed_read ⟶✗ weaken_fails_on n (on_label f x.label x.slots r.prev_token_end))) z

    module _ {v : Parser} {body : NodeId} (y : Statement text f (at Sub f) r v body) where
      headed_path : (b : Bool) → Path text f (after_statement (placed b f)) (rule (placed b f)) p nothing v (tree (label_here (kind_of k) no_op p v) (tree x.label x.slots (tree y.label y.slots end)))
      headed_path b = alone_path headed.alone b (after_statement (placed b f)) (λ l cs vs y d. d) (λ l cs vs y d. d) (subst (λ (g : G). Path text f (after_statement (placed b f)) g p nothing v (tree (label_here (kind_of k) no_op p v) (tree x.label x.slots (tree y.label y.slots end)))) headed.line
          (noded_by a (inside_headed b f _ headed.word p.prev_token_end headed.holds_one) (headed_read ⟶ statement_read y (on_label f x.label x.slots r.prev_token_end))))

      pub headed_answers : (b : Bool) {w : Parser} {id : NodeId} (s : Span) → s.start ≡ p.token.span.start → s.end ≡ v.prev_token_end → MadeHere (plain_label k op.None s) (Some head ∷ Some body ∷ []) v w id → Statement text f (placed b f) p w id
      headed_answers b {w} {id} s c d n =
          let l : plain_label k op.None s ≡ label_here (kind_of k) no_op p v = rw (c, d) refl in
          let made : MadeHere (label_here (kind_of k) no_op p v) (Some head ∷ Some body ∷ []) v w id = subst (λ (u : Label). MadeHere u (Some head ∷ Some body ∷ []) v w id) l n in
          let kr : Keeps p.nodes r.nodes = subst (λ (ns : List Node). Keeps ns r.nodes) m.nodes x.keeps in
          let hr : Holds r.nodes (length p.nodes) (length r.nodes) head.0 x.label x.slots = subst (λ (ns : List Node). Holds r.nodes (length ns) (length r.nodes) head.0 x.label x.slots) m.nodes x.holds in
          by_statement (headed_path b) (λ o. y.closed (and_parts (ends_in_sub (kind_of k)) _ o).1) (same_both head_same y.same) made.stays
          (two_held made hr kr y.holds y.keeps) (Keeps-trans kr (Keeps-trans y.keeps (Keeps-made made.made))) refl (one_lies made)

-- ---- do

abbrev do_end : G
do_end = tok kind.Semicolon ◇ if_next (other (is kind.Semicolon))

abbrev do_slots : Flags → G
do_slots f = tok kind.Do ▸ symbol Sub f ▸ tok kind.While ▸ in_parens f ▸ do_end

-- before `while` a statement ends, whichever it is
while_behind : (b : Bool) (r : Row) → covers (is kind.While) (behind_statement (record { row = r; open_if = b })) ≡ true
unfolding covers
while_behind true r = refl
while_behind false r = refl

while_base : covers (is kind.While) (λ k w e. no_link k w e && widest Sub k w e) ≡ true
unfolding covers
while_base = refl

before_while : (f : Flags) → Sure (is kind.While) (after_statement (at Sub f))
before_while f = record { admits = λ ts y h. (covered (is kind.While) (λ k w e. no_link k w e && widest Sub k w e) while_base y.kind y.newline y.escaped h, last ts y h) }
  where
    by : (d : Edge) (y : Lexeme) → IsTrue (seen (is kind.While) y) → IsTrue (seen (behind_statement d) y)
    by d y h = covered (is kind.While) (behind_statement d) (while_behind d.open_if d.row) y.kind y.newline y.escaped h

    last : (ts : Slots) (y : Lexeme) → IsTrue (seen (is kind.While) y) → IsTrue (seen ((after_statement (at Sub f)).by ts) y)
    last end y h = by (first_edge end) y h
    last (hole us) y h = by (first_edge (hole us)) y h
    last (tree l cs us) y h = by (edge_of l cs) y h

-- its semicolon was passed, or none stands here
pub passed_so : {text : List ℕ} {f : Flags} {q r : Parser} → At text f q → (b : Bool) × Eats kind.Semicolon q r b → Ended text f q r
passed_so {text} {f} {q} {r} a (true, (k, m)) = let s = expected a kind.Semicolon k m refl refl in record { at = s.at; same = s.same; nodes = s.nodes; kept = s.kept; further = let x = s.further in let y = a.behind in omega arith }
passed_so {text} {f} {q} {r} a (false, (n, e)) = subst (λ (v : Parser). Ended text f q v) (sym e) (record { at = a; same = same_itself; nodes = refl; kept = refl; further = omega arith })

module _ {text : List ℕ} {f : Flags} {q : Parser} (a : At text f q) where
  -- where one stands, the line without it says nothing
  semicolon_here : {Y : Test} → IsKind kind.Semicolon q → Fails rule (Lex text) Y end (if_next (other (is kind.Semicolon))) q.prev_token_end
  semicolon_here k = fails_look (other (is kind.Semicolon)) (λ y l t. false≢true (sym (subst (λ (v : Kind). not (same_kind kind.Semicolon v && not y.escaped) ≡ false) (sym (kind_here a k.0 refl y l)) (ap (λ (v : Bool). not (not v)) (escaped_here a y l ∙ k.1))) ∙ t))

  none_here : (IsKind kind.Semicolon q → ⊥) → (y : Lexeme) → Lex text q.prev_token_end y → seen (is kind.Semicolon) y ≡ false
  none_here n y l = go (seen (is kind.Semicolon) y) refl
    where
      go : (b : Bool) → seen (is kind.Semicolon) y ≡ b → seen (is kind.Semicolon) y ≡ false
      go true t = absurd (none_seen (stands_not a refl (λ i j. n (i, j))) y l t)
      go false t = t

module _ {text : List ℕ} {f : Flags} {X : Test} {g : G} {p q r : Parser} {h : Slots → Slots} where
  do_ended : (b : Bool) × Eats kind.Semicolon q r b → Path text f X g p do_end q h → Path text f X g p nothing r h
  do_ended (true, (k, m)) x = x ⟶ (left (semicolon_here x.at k) ⟼ last_token kind.Semicolon x.at k.0 k.1 refl (expected x.at kind.Semicolon k m refl refl))
  do_ended (false, (n, e)) x = subst (λ (v : Parser). Path text f X g p nothing v h) (sym e) (x ⟝ (right (fails_lexeme (is kind.Semicolon) (λ y l t. false≢true (sym (none_here x.at n y l) ∙ t))) ▹ looks (other (is kind.Semicolon)) (λ y l. ap not (none_here x.at n y l))))

module _ {text : List ℕ} {f : Flags} {p q : Parser} (a : At text f p) (h : StandsHere p kind.Do true) (m : Moved text f p q) where
  do_alone : Alone text f Do p.prev_token_end
  unfolding rule rule_of covers
  do_alone = record { listed = λ b X. listed b; alone = λ X. at_kind a kind.Do h.0 refl }
    where
      listed : {X : Test} (b : Bool) → Goes rule (Lex text) X end (rule (placed b f)) p.prev_token_end (symbol AStatement f) p.prev_token_end (λ us. us) (still 0)
      listed true = at_kind a kind.Do h.0 refl
      listed false = at_kind a kind.Do h.0 refl

  do_none : (b : Bool) → Fails rule (Lex text) (plain full) end (do_slots f) p.prev_token_end → NoStatement text (placed b f) p.prev_token_end
  unfolding rule rule_of
  do_none b n = alone_fails do_alone b (after_statement (placed b f)) (λ l cs vs y d. d) (λ l cs vs y d. d) (fails_node (record { ends = λ l cs vs j ls mid d e. (refl, refl) }) n)

  do_passed : Path text f (plain full) (do_slots f) p (symbol Sub f ▸ tok kind.While ▸ in_parens f ▸ do_end) q (λ us. us)
  do_passed = token kind.Do a h.0 h.1 refl m

  to_while : Between rule (plain full) (after_statement (at Sub f)) end (such (at Sub f) always) (tok kind.While ▸ in_parens f ▸ do_end) q.prev_token_end
  unfolding covers
  to_while = by_first firsts (before_while f) refl

  pub do_stops : (b : Bool) (r : Parser) (e : Stop) → Stops q r e (NoStatement text (at Sub f) q.prev_token_end) → Stops p r e (NoStatement text (placed b f) p.prev_token_end)
  do_stops b r e z = stops_behind r e m.same (λ g. grown_then m.kept g) (λ n. do_none b (do_passed ⟶✗ part_fails n to_while)) z

  module _ {r : Parser} {body : NodeId} (y : Statement text f (at Sub f) q r body) where
    do_body : Path text f (plain full) (do_slots f) p (tok kind.While ▸ in_parens f ▸ do_end) r (tree y.label y.slots)
    do_body = do_passed ⟶ statement_then y to_while

    do_same : Same p r
    do_same = same_both m.same y.same

    do_grown : {ds : List Diagnostic} → Grown r.errors ds → Grown p.errors ds
    do_grown g = grown_then m.kept (grown_behind y.verdict g)

    pub while_missing : (b : Bool) (t : Parser) (e : Stop) → Expects (IsKind kind.While) ExpectToken None r t (Err e) → Stops p t e (NoStatement text (placed b f) p.prev_token_end)
    while_missing b t e z = stops_behind t e do_same (λ g. do_grown g) (λ n. n) (unexpected y.at kind.While t e z (λ n. do_none b (do_body ⟶✗ no_token y.at kind.While refl n)))

    module _ (w : IsKind kind.While r) {t : Parser} (n : Moved text f r t) where
      do_while : Path text f (plain full) (do_slots f) p (in_parens f ▸ do_end) t (tree y.label y.slots)
      do_while = do_body ⟶ token kind.While y.at w.0 w.1 refl n

      pub test_stops : (b : Bool) (u : Parser) (e : Stop) → Stops t u e (NoParens text f t.prev_token_end) → Stops p u e (NoStatement text (placed b f) p.prev_token_end)
      test_stops b u e z = stops_behind u e (same_both do_same n.same) (λ g. do_grown (grown_then n.kept g)) (λ k. do_none b (do_while ⟶✗ then_fails k)) z

      module _ {u : Parser} {test : NodeId} (x : ParensTaken text f t u test) {v : Parser} (c : (b : Bool) × Eats kind.Semicolon u v b) where
        do_path : (b : Bool) → Path text f (after_statement (placed b f)) (rule (placed b f)) p nothing v (tree (label_here do_while_statement no_op p v) (tree y.label y.slots (tree x.label x.slots end)))
        unfolding rule rule_of
        do_path b = alone_path do_alone b (after_statement (placed b f)) (λ l cs vs y d. d) (λ l cs vs y d. d) (noded a (do_ended c (do_while ⟶ then_part (parens_read x))))

        pub do_answers : (b : Bool) {w : Parser} {id : NodeId} (s : Span) → s.start ≡ p.token.span.start → s.end ≡ v.prev_token_end → MadeHere (plain_label node.DoWhileStatement op.None s) (Some body ∷ Some test ∷ []) v w id → Statement text f (placed b f) p w id
        do_answers b {w} {id} s g d i =
            let l : plain_label node.DoWhileStatement op.None s ≡ label_here do_while_statement no_op p v = rw (g, d) refl in
            let made : MadeHere (label_here do_while_statement no_op p v) (Some body ∷ Some test ∷ []) v w id = subst (λ (u : Label). MadeHere u (Some body ∷ Some test ∷ []) v w id) l i in
            let z = passed_so x.at c in
            let kr : Keeps p.nodes r.nodes = subst (λ (ns : List Node). Keeps ns r.nodes) m.nodes y.keeps in
            let hr : Holds r.nodes (length p.nodes) (length r.nodes) body.0 y.label y.slots = subst (λ (ns : List Node). Holds r.nodes (length ns) (length r.nodes) body.0 y.label y.slots) m.nodes y.holds in
            let kv : Keeps r.nodes v.nodes = subst (λ (ns : List Node). Keeps r.nodes ns) (sym z.nodes) (subst (λ (ns : List Node). Keeps ns u.nodes) n.nodes x.keeps) in
            let hv : Holds v.nodes (length r.nodes) (length v.nodes) test.0 x.label x.slots = subst (λ (ns : List Node). Holds ns (length r.nodes) (length ns) test.0 x.label x.slots) (sym z.nodes) (subst (λ (ns : List Node). Holds u.nodes (length ns) (length u.nodes) test.0 x.label x.slots) n.nodes x.holds) in
            by_statement (do_path b) (never_open (label_here do_while_statement no_op p v) (tree y.label y.slots (tree x.label x.slots end)) refl) (same_both do_same (same_both n.same (same_both x.same z.same))) made.stays
            (two_held made hr kr hv kv) (Keeps-trans kr (Keeps-trans kv (Keeps-made made.made))) refl (one_lies made)

-- ---- if: what stands behind its head

abbrev first_tail : Flags → G
first_tail f = symbol Sub f ▸ empty_slot

abbrev second_tail : Flags → G
second_tail f = such (at Sub f) has_else ▸ tok kind.Else ▸ symbol Sub f

abbrev tails : Flags → G
tails f = first_tail f ◇ second_tail f

abbrev open_edge : Edge
open_edge = record { row = after_expression; open_if = true }

-- behind a consequent alone stands no `else`; behind an alternate, what may stand behind that
abbrev by_tails : Flags → Slots → Look
by_tails f (tree a cs (hole end)) k w e = behind_statement open_edge k w e
by_tails f (tree a cs (tree b ds end)) k w e = behind_statement (edge_of b ds) k w e
by_tails f _ k w e = false

abbrev behind_tails : Flags → Test
behind_tails f = record { base = λ k w e. no_link k w e && widest Sub k w e; by = λ ts. by_tails f ts }

-- where no `else` may stand, what may stand behind any statement
closed_so : (b : Bool) (r : Row) → covers (behind_statement open_edge) (behind_statement (record { row = r; open_if = b })) ≡ true
unfolding covers
closed_so true r = refl
closed_so false r = refl

no_else : (f : Flags) (l : Label) (cs vs : Slots) (y : Lexeme) → Admits (behind_tails f) (tree l cs (hole vs)) y → Admits (after_statement (at Sub f)) (tree l cs (hole vs)) y × IsTrue (seen (behind_statement open_edge) y)
no_else f l cs end y x = ((x.0, covered (behind_statement open_edge) (behind_statement (edge_of l cs)) (closed_so (edge_of l cs).open_if (edge_of l cs).row) y.kind y.newline y.escaped x.1), x.1)
no_else f l cs (hole vs) y x = absurd (false≢true x.1)
no_else f l cs (tree m ds vs) y x = absurd (false≢true x.1)

to_slot : (f : Flags) (s : ℕ) → Between rule (behind_tails f) (after_statement (at Sub f)) end (such (at Sub f) always) empty_slot s
to_slot f s = record { admits = λ ts us vs j k ls mid rest d e x. go d e x }
  where
    go : {ts us vs : Slots} {i j k : ℕ} {ls mid rest : Lexemes} → Takes rule (such (at Sub f) always) end ts i ls us j mid → Takes rule empty_slot end us j mid vs k rest → Admits (behind_tails f) ts (here rest) → Admits (after_statement (at Sub f)) ts (here mid)
    go (is_such {l = l} {cs = cs} d t) (is_empty_slot {ts = vs} {ls = ls}) x = (no_else f l cs vs (here ls) x).0

-- before `else` a statement ends that has no open `if` at its end
else_behind : (r : Row) → covers (is kind.Else) (behind_statement (record { row = r; open_if = false })) ≡ true
unfolding covers
else_behind r = refl

else_base : covers (is kind.Else) (λ k w e. no_link k w e && widest Sub k w e) ≡ true
unfolding covers
else_base = refl

shut_by : (l : Label) (cs : Slots) → has_else (record { label = l; slots = cs }) ≡ true → (edge_of l cs).open_if ≡ false
shut_by l cs h = go (ends_in_sub l.kind && lacks_else cs) h
  where
    go : (b : Bool) → not b ≡ true → b ≡ false
    go true e = absurd (false≢true e)
    go false e = refl

before_else : (f : Flags) (l : Label) (cs us : Slots) (y : Lexeme) → has_else (record { label = l; slots = cs }) ≡ true → IsTrue (seen (is kind.Else) y) → Admits (after_statement (at Sub f)) (tree l cs us) y
before_else f l cs us y h t = (covered (is kind.Else) (λ k w e. no_link k w e && widest Sub k w e) else_base y.kind y.newline y.escaped t, subst (λ (v : Bool). IsTrue (seen (behind_statement (record { row = row_of l cs; open_if = v })) y)) (sym (shut_by l cs h)) (covered (is kind.Else) (behind_statement (record { row = row_of l cs; open_if = false })) (else_behind (row_of l cs)) y.kind y.newline y.escaped t))

to_else : {X : Test} (f : Flags) (s : ℕ) → Between rule X (after_statement (at Sub f)) end (such (at Sub f) has_else) (tok kind.Else ▸ symbol Sub f) s
to_else {X} f s = record { admits = λ ts us vs j k ls mid rest d e x. go d e }
  where
    go : {ts us vs : Slots} {i j k : ℕ} {ls mid rest : Lexemes} → Takes rule (such (at Sub f) has_else) end ts i ls us j mid → Takes rule (tok kind.Else ▸ symbol Sub f) end us j mid vs k rest → Admits (after_statement (at Sub f)) ts (here mid)
    go (is_such {l = l} {cs = cs} {us = us} d t) (is_seq (is_lexeme {x = y} c) e) = before_else f l cs us y t c

-- no consequent
tails_fail : {text : List ℕ} (f : Flags) {s : ℕ} → NoStatement text (at Sub f) s → Fails rule (Lex text) (behind_tails f) end (tails f) s
tails_fail f {s} n = fails_alt (part_fails n (to_slot f s)) (part_fails (fails_tested n) (to_else f s))

module _ {text : List ℕ} {f : Flags} {q r : Parser} {id : NodeId} (s : Statement text f (at Sub f) q r id) where
  -- whatever was taken as the consequent stands before what stands here
  stands_behind : {c : Tree → Bool} {ts vs : Slots} {j : ℕ} {ls mid : Lexemes} → Lexes (Lex text) q.prev_token_end ls → Takes rule (such (at Sub f) c) end ts q.prev_token_end ls vs j mid → Admits (after_statement (at Sub f)) ts (here mid) → Lex text r.prev_token_end (here mid)
  stands_behind {j = j} {ls = ls} {mid = mid} x (is_such {l = l} {cs = cs} {us = us} d t) e =
      either_way s.verdict
      (λ u. let w = u.goes.only (tree l cs us) us j ls mid x (is_such d refl) e in let n = ends w.4 in here_at (Lex text) mid (subst (λ (v : Lexemes). Lexes (Lex text) r.prev_token_end v) n.2 w.3))
      (λ n. absurd (n.no (tree l cs us) us j ls mid x (is_such d refl) e))

  -- no `else` stands there
  module _ (n : NoneIs text r.prev_token_end kind.Else) where
    no_second : Fails rule (Lex text) (behind_tails f) end (second_tail f) q.prev_token_end
    no_second = record { no = λ ts vs k ls rest x d e. go x d }
      where
        go : {ts vs : Slots} {k : ℕ} {ls rest : Lexemes} → Lexes (Lex text) q.prev_token_end ls → Takes rule (second_tail f) end ts q.prev_token_end ls vs k rest → ⊥
        go x (is_seq (is_such {l = l} {cs = cs} {us = us} d t) (is_seq (is_lexeme {x = y} c) g)) = none_seen n y (stands_behind {ts = tree l cs us} {vs = us} x (is_such {c = has_else} d t) (before_else f l cs us y t c)) c

    first_path : Path text f (behind_tails f) (tails f) q nothing r (λ us. tree s.label s.slots (hole us))
    first_path = left no_second ⟼ (statement_then s (to_slot f q.prev_token_end) ⟝ reads_empty_slot)

  -- it stands there
  module _ (h : StandsHere r kind.Else true) {t : Parser} (m : Moved text f r t) where
    no_first : Fails rule (Lex text) (behind_tails f) end (first_tail f) q.prev_token_end
    no_first = record { no = λ ts vs k ls rest x d e. go x d e }
      where
        go : {ts vs : Slots} {k : ℕ} {ls rest : Lexemes} → Lexes (Lex text) q.prev_token_end ls → Takes rule (first_tail f) end ts q.prev_token_end ls vs k rest → Admits (behind_tails f) ts (here rest) → ⊥
        go x (is_seq (is_such {l = l} {cs = cs} d t) (is_empty_slot {ts = vs} {ls = rest})) e =
            let z = no_else f l cs vs (here rest) e in
            let i = stands_behind {ts = tree l cs (hole vs)} {vs = hole vs} x (is_such {c = always} d t) z.0 in
            false≢true (subst (λ (v : Kind). behind_statement open_edge v (here rest).newline (here rest).escaped ≡ true) (kind_here s.at h.0 refl (here rest) i) z.1)

    -- so the consequent has no open `if` at its end
    shut : has_else (record { label = s.label; slots = s.slots }) ≡ true
    shut = go (ends_in_sub s.label.kind && lacks_else s.slots) refl
      where
        go : (b : Bool) → (ends_in_sub s.label.kind && lacks_else s.slots) ≡ b → not (ends_in_sub s.label.kind && lacks_else s.slots) ≡ true
        go true e = absurd (false≢true (sym (s.closed e m.lexeme (m.stood, read_of m.lexeme (sym m.tells.kind ∙ h.0) refl) (sym m.tells.escaped ∙ h.1)) ∙ rw (sym m.tells.kind ∙ h.0) refl))
        go false e = ap not e

    else_passed : Path text f (behind_tails f) (tails f) q (symbol Sub f) t (tree s.label s.slots)
    else_passed = right no_first ⟼ (record { at = s.at; further = s.further; pass = s.pass; walked = s.walked; verdict = verdict_of s.verdict (λ y. record { reach = y.reach; near = y.near; goes = then_by (tested y.goes shut) (to_else f q.prev_token_end) }) (λ n. part_fails (fails_tested n) (to_else f q.prev_token_end)) } ⟶ token kind.Else s.at h.0 h.1 refl m)

    on_alternate : On rule (behind (behind_tails f) (tree s.label s.slots)) (after_statement (at Sub f)) end (such (at Sub f) always) t.prev_token_end
    on_alternate = record { admits = λ ts vs k ls rest d e. go ts vs d e }
      where
        go : (ts vs : Slots) {i k : ℕ} {ls rest : Lexemes} → Takes rule (such (at Sub f) always) end ts i ls vs k rest → Admits (behind (behind_tails f) (tree s.label s.slots)) ts (here rest) → Admits (after_statement (at Sub f)) ts (here rest)
        go ts end (is_such d h) x = x
        go ts (hole vs) (is_such d h) x = absurd (false≢true x.1)
        go ts (tree l cs vs) (is_such d h) x = absurd (false≢true x.1)

    alternate_fails : NoStatement text (at Sub f) t.prev_token_end → Fails rule (Lex text) (behind_tails f) end (tails f) q.prev_token_end
    alternate_fails n = else_passed ⟶✗ weaken_fails_on n on_alternate

    second_path : {v : Parser} {alt : NodeId} (y : Statement text f (at Sub f) t v alt) → Path text f (behind_tails f) (tails f) q nothing v (λ us. tree s.label s.slots (tree y.label y.slots us))
    second_path y = else_passed ⟶ statement_read y on_alternate

-- What was read behind the head: a consequent, and an alternate or none.
pub record Tails (text : List ℕ) (f : Flags) (q v : Parser) (consequent : NodeId) (alternate : Option NodeId) : Type 0 where
  pub slots : Slots → Slots
  pub path : Path text f (behind_tails f) (tails f) q nothing v slots
  pub same : Same q v
  pub held : HoldsAll v.nodes (length q.nodes) (length v.nodes) (Some consequent ∷ alternate ∷ []) (slots end)
  pub keeps : Keeps q.nodes v.nodes
  pub closed : (l : Label) (cs : Slots) → lacks_else (tree l cs (slots end)) ≡ true → (y : Lexeme) → Lex text v.prev_token_end y → y.escaped ≡ false → same_kind kind.Else y.kind ≡ false

-- no lexeme of the kind
none_is : {text : List ℕ} {s : ℕ} (k : Kind) → NoneIs text s k → (y : Lexeme) → Lex text s y → y.escaped ≡ false → same_kind k y.kind ≡ false
none_is k n y l w = go (same_kind k y.kind) refl
  where
    go : (b : Bool) → same_kind k y.kind ≡ b → same_kind k y.kind ≡ false
    go true e = absurd (n y l (sym (kind_of_same k y.kind e)) w)
    go false e = e

pub tails_taken : {text : List ℕ} {f : Flags} {q r v : Parser} {consequent : NodeId} (s : Statement text f (at Sub f) q r consequent) (alternate : Option NodeId) → TakesAlternate r v (Ok alternate) → Tails text f q v consequent alternate
tails_taken {text} {f} {q} {r} {v} {consequent} s None (n, e) =
    let k : NoneIs text r.prev_token_end kind.Else = stands_not s.at refl n in
    subst (λ (u : Parser). Tails text f q u consequent None) (sym e) (record {
      slots = λ us. tree s.label s.slots (hole us);
      path = first_path s k;
      same = s.same;
      held = HoldsAll-hole (HoldsAll-one consequent s.holds);
      keeps = s.keeps;
      closed = λ l cs o y i w. none_is kind.Else k y i w;
    })
tails_taken {text} {f} {q} {r} {v} {consequent} s (Some id) (h, t) =
    let z = t text f s.at in
    let ks : Keeps r.nodes v.nodes = subst (λ (ns : List Node). Keeps ns v.nodes) z.moved.nodes z.taken.keeps in
    record {
      slots = λ us. tree s.label s.slots (tree z.taken.label z.taken.slots us);
      path = second_path s h z.moved z.taken;
      same = same_both s.same (same_both z.moved.same z.taken.same);
      held = HoldsAll-two consequent id ks s.holds (subst (λ (ns : List Node). Holds v.nodes (length ns) (length v.nodes) id.0 z.taken.label z.taken.slots) z.moved.nodes z.taken.holds);
      keeps = Keeps-trans s.keeps ks;
      closed = λ l cs o. z.taken.closed o;
    }

-- ---- if

abbrev if_slots : Flags → G
if_slots f = tok kind.If ▸ in_parens f ▸ tails f

abbrev by_if : Flags → Slots → Look
by_if f (tree a es us) = by_tails f us
by_if f _ = λ k w e. false

abbrev behind_if : Flags → Test
behind_if f = record { base = λ k w e. no_link k w e && widest Sub k w e; by = λ ts. by_if f ts }

inside_if : (b : Bool) (f : Flags) (s : ℕ) → Inside rule (record { kind = if_statement; op = no_op; flags = 0; extent = exact }) (after_statement (placed b f)) (behind_if f) end (if_slots f) s
inside_if b f s = record { ends = λ p cs vs j ls mid d e. go b p cs vs d e }
  where
    go : (b : Bool) (p : TreeSpan) (cs vs : Slots) {i j : ℕ} {ls mid : Lexemes} → Takes rule (if_slots f) end cs i ls end j mid → Admits (after_statement (placed b f)) (tree (record { kind = if_statement; op = no_op; flags = 0; span = p }) cs vs) (here mid) → Admits (behind_if f) cs (here mid)
    go true p cs vs (is_seq (is_lexeme a) (is_seq (is_seq (is_lexeme c) (is_seq (is_such d t) (is_lexeme z))) (is_left (is_seq (is_such e u) is_empty_slot)))) x = x
    go true p cs vs (is_seq (is_lexeme a) (is_seq (is_seq (is_lexeme c) (is_seq (is_such d t) (is_lexeme z))) (is_right (is_seq (is_such e u) (is_seq (is_lexeme o) (is_such g w)))))) x = x
    go false p cs vs (is_seq (is_lexeme a) (is_seq (is_seq (is_lexeme c) (is_seq (is_such d t) (is_lexeme z))) (is_left (is_seq (is_such e u) is_empty_slot)))) x = x
    go false p cs vs (is_seq (is_lexeme a) (is_seq (is_seq (is_lexeme c) (is_seq (is_such d t) (is_lexeme z))) (is_right (is_seq (is_such e u) (is_seq (is_lexeme o) (is_such g w)))))) x = x

module _ {text : List ℕ} {f : Flags} {p q : Parser} (a : At text f p) (h : StandsHere p kind.If true) (m : Moved text f p q) where
  if_alone : Alone text f If p.prev_token_end
  unfolding rule rule_of covers
  if_alone = record { listed = λ b X. listed b; alone = λ X. at_kind a kind.If h.0 refl }
    where
      listed : {X : Test} (b : Bool) → Goes rule (Lex text) X end (rule (placed b f)) p.prev_token_end (symbol AStatement f) p.prev_token_end (λ us. us) (still 0)
      listed true = at_kind a kind.If h.0 refl
      listed false = at_kind a kind.If h.0 refl

  if_none : (b : Bool) → Fails rule (Lex text) (behind_if f) end (if_slots f) p.prev_token_end → NoStatement text (placed b f) p.prev_token_end
  unfolding rule rule_of
  if_none b n = alone_fails if_alone b (after_statement (placed b f)) (λ l cs vs y d. d) (λ l cs vs y d. d) (fails_node (inside_if b f p.prev_token_end) n)

  if_passed : {X : Test} {g : G} → Path text f X (tok kind.If ▸ g) p g q (λ us. us)
  if_passed = token kind.If a h.0 h.1 refl m

  pub if_stops : (b : Bool) (r : Parser) (e : Stop) → Stops q r e (NoParens text f q.prev_token_end) → Stops p r e (NoStatement text (placed b f) p.prev_token_end)
  if_stops b r e z = stops_behind r e m.same (λ g. grown_then m.kept g) (λ n. if_none b (if_passed ⟶✗ then_fails n)) z

  module _ {r : Parser} {test : NodeId} (x : ParensTaken text f q r test) where
    if_head : Path text f (behind_if f) (if_slots f) p (tails f) r (tree x.label x.slots)
    if_head = if_passed ⟶ then_part (parens_read x)

    pub if_same : Same p r
    if_same = same_both m.same x.same

    if_grown : {ds : List Diagnostic} → Grown r.errors ds → Grown p.errors ds
    if_grown g = grown_then m.kept (grown_behind x.verdict g)

    pub consequent_stops : (b : Bool) (v : Parser) (e : Stop) → Stops r v e (NoStatement text (at Sub f) r.prev_token_end) → Stops p v e (NoStatement text (placed b f) p.prev_token_end)
    consequent_stops b v e z = stops_behind v e if_same (λ g. if_grown g) (λ n. if_none b (if_head ⟶✗ tails_fail f n)) z

    module _ {t : Parser} {consequent : NodeId} (s : Statement text f (at Sub f) r t consequent) (v : Parser) where
      pub alternate_stops : (b : Bool) (e : Stop) → TakesAlternate t v (Err e) → Stops p v e (NoStatement text (placed b f) p.prev_token_end)
      alternate_stops b Fatal (w, z) =
          let y = z text f s.at in
          stops_behind v Fatal (same_both if_same (same_both s.same y.moved.same)) (λ g. if_grown (grown_behind s.verdict (grown_then y.moved.kept g))) (λ n. if_none b (if_head ⟶✗ alternate_fails s w y.moved n)) y.stops
      alternate_stops b NoMemory z = tt

      module _ (alternate : Option NodeId) (c : TakesAlternate t v (Ok alternate)) where
        abbrev its : Tails text f r v consequent alternate
        its = tails_taken s alternate c

        pub if_further : p.token.span.start < v.prev_token_end
        if_further = (if_head ⟶ its.path).further

        if_path : (b : Bool) → Path text f (after_statement (placed b f)) (rule (placed b f)) p nothing v (tree (label_here if_statement no_op p v) (tree x.label x.slots (its.slots end)))
        unfolding rule rule_of
        if_path b = alone_path if_alone b (after_statement (placed b f)) (λ l cs vs y d. d) (λ l cs vs y d. d) (noded_by a (inside_if b f p.prev_token_end) (if_head ⟶ its.path))

        pub if_answers : (b : Bool) {w : Parser} {id : NodeId} (z : Span) → z.start ≡ p.token.span.start → z.end ≡ v.prev_token_end → MadeHere (plain_label node.IfStatement op.None z) (Some test ∷ Some consequent ∷ alternate ∷ []) v w id → Statement text f (placed b f) p w id
        if_answers b {w} {id} z g d i =
            let l : plain_label node.IfStatement op.None z ≡ label_here if_statement no_op p v = rw (g, d) refl in
            let made : MadeHere (label_here if_statement no_op p v) (Some test ∷ Some consequent ∷ alternate ∷ []) v w id = subst (λ (u : Label). MadeHere u (Some test ∷ Some consequent ∷ alternate ∷ []) v w id) l i in
            let kr : Keeps p.nodes r.nodes = subst (λ (ns : List Node). Keeps ns r.nodes) m.nodes x.keeps in
            let hr : Holds r.nodes (length p.nodes) (length r.nodes) test.0 x.label x.slots = subst (λ (ns : List Node). Holds r.nodes (length ns) (length r.nodes) test.0 x.label x.slots) m.nodes x.holds in
            by_statement (if_path b) (λ o. its.closed x.label x.slots o) (same_both if_same its.same) made.stays
            (node_held made (HoldsAll-append (HoldsAll-one test (Holds-kept its.keeps hr)) its.held)) (Keeps-trans kr (Keeps-trans its.keeps (Keeps-made made.made))) refl (one_lies made)

-- what is said of an alternate that isn't read
pub alternate_refused : (p q r : Parser) (e : Stop) → StandsHere p kind.Else true → Moves p q → TakesStatement (at Sub) q r (Err e) → TakesAlternate p r (Err e)
alternate_refused p q r Fatal h s t = (h, λ text f a. let m = s text f a in record { mid = q; moved = m; stops = t text f m.at })
alternate_refused p q r NoMemory h s t = tt

pub alternate_memory : (p q : Parser) (e : Stop) → OnlyMemory e → TakesAlternate p q (Err e)
alternate_memory p q Fatal m = absurd m
alternate_memory p q NoMemory m = tt

pub headed_whole : {text : List ℕ} {f : Flags} {p : Parser} {k : NodeKind} → At text f p → HeadsHere k p → IsWholeHere p
headed_whole a (inl (e, h)) = word_here kind.While a h refl
headed_whole a (inr (e, h)) = word_here kind.With a h refl
