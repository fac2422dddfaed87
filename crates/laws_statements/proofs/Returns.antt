-- `return` (ECMA-262, 14.10): with an Expression or none, in the body of a function alone.
use Rattle.std.proofs.Common.{ℕ, ◌≡◌, inl, inr, List, [], ◌∷◌, length, Option, Some, None, Bool, true, false, not, IsTrue, refl, sym, ap, subst, ◌∙◌, ◌<◌}
use Rattle.std.specs.Prelude.{Ok, Err}
use Rattle.std.proofs.lemmas.Bool.{false≢true}
use Rattle.js_base.specs.Contexts.{has_flag, new_target_flag, return_flag}
use Rattle.js_base.specs.Diagnostics.{class_of}
use Rattle.js_base.specs.declared.diagnostic.Diagnostic.{Diagnostic}
use Rattle.js_base.specs.declared.diagnostic.DiagnosticClass.TheVariants.{Early}
use Rattle.js_base.specs.declared.kind.Kind.TheVariants as kind
use Rattle.js_base.specs.declared.source_type.SourceType.{SourceType}
use Rattle.js_base.specs.declared.span.Span.{Span}
use Rattle.js_base.specs.Kinds.{same_kind}
use Rattle.js_grammar.specs.Trees.{Slots, end, hole, tree, append, Label, no_op, return_statement}
use Rattle.js_grammar.specs.Grammar.{Lexeme, Lexemes, Look, here, seen, ended, semicolon, empty_slot, nothing, such, when, Takes, is_seq, is_lexeme, is_look, is_such, is_left, is_right, is_empty_slot, ◌▸◌}
use Rattle.js_grammar.specs.Insertion.{after_word, edge, goes_on, by_edge}
use Rattle.js_grammar.specs.Marks.{EdgeOf, Mark, StandsAt, a_lexeme, the_start, the_end}
use Rattle.js_grammar.specs.Settings.{Goal}
use Rattle.js_grammar.specs.Lexed.{NextLexeme, Lexes, all_faults}
use Rattle.js_grammar.specs.Parsing.{Test, plain, full, always, still, Admits, Goes, Fails}
use Rattle.js_grammar.specs.Productions.{G, Flags, at, tok, slot, no_newline, Expression, Return}
use Rattle.js_grammar.specs.Productions.{Statement as AStatement}
use Rattle.js_grammar.specs.Productions.{sym as symbol}
use Rattle.js_grammar.specs.Table.{rule, rule_of}
use Rattle.js_grammar.specs.Follow.{edge_of, follow, after}
use Rattle.js_grammar.proofs.Looks.{covers, apart, not_both}
use Rattle.js_grammar.proofs.Calculus.{On, here_at, ◌▹◌, ◌▹✗◌, closes, left, right, looks, ends_by, part_fails, reads_empty_slot, where_true, fails_ended, fails_look, fails_node, fails_rule, fails_under, fails_when, inside_plain, weaken_fails_on}
use Rattle.js_grammar.specs.FirstSets.{first}
use Rattle.js_grammar.proofs.First.{starts}
use Rattle.js_grammar.proofs.FirstClaims.{firsts}
use Rattle.js_grammar.proofs.FirstRules.{fails_here}
use Rattle.js_grammar.proofs.FollowLaws.{admits, expression_ended}
use Rattle.laws_shared.specs.js_tree.declared.id.NodeId.{NodeId}
use Rattle.laws_shared.specs.js_tree.declared.kind.NodeKind.TheVariants as node
use Rattle.laws_shared.specs.js_tree.declared.op.Op.TheVariants as op
use Rattle.laws_shared.specs.js_tree.Nodes.{Node}
use Rattle.laws_shared.specs.js_tree.Holding.{Holds, HoldsAll, Keeps}
use Rattle.laws_shared.proofs.js_tree.HoldingLemmas.{HoldsAll-one, HoldsAll-one_hole, Keeps-longer, Keeps-refl, Keeps-trans, Keeps-made}
use Rattle.laws_shared.specs.js_lex.States.{goal_of}
use Rattle.laws_shared.specs.js_cursor.Moves.{MayEnd, is_last}
use Rattle.laws_shared.specs.js_cursor.Parsers.{Parser}
use Rattle.laws_shared.specs.js_cursor.Places.{goal}
use Rattle.laws_shared.specs.js_cursor.declared.stop.Stop.{Stop}
use Rattle.laws_shared.specs.Answers.{Grown, Numbered, Stops, unclean}
use Rattle.laws_shared.specs.Lexemes.{Lex, spot}
use Rattle.laws_shared.specs.Moves.{Moved, MadeHere, plain_label}
use Rattle.laws_shared.specs.Stands.{StandsHere}
use Rattle.laws_shared.specs.States.{At, Same}
use Rattle.laws_shared.specs.Statements.{placed, no_link, after_statement, NoStatement, Statement, EndsStatement, NoEnd}
use Rattle.laws_statements.specs.WordStatements.{ChecksReturn, TakesArgument, fault_of_return, stray_return}
use Rattle.laws_shared.proofs.Ahead.{pass_over}
use Rattle.laws_shared.proofs.Giving.{kept_one}
use Rattle.laws_shared.proofs.Here.{found, newline_here, uncut}
use Rattle.laws_shared.proofs.MadeNodes.{node_held, one_lies}
use Rattle.laws_shared.proofs.Moving.{same_both, same_itself, stops_behind}
use Rattle.laws_shared.proofs.Paths.{Path, ◌⟶◌, ◌⟶✗◌, at_kind, token, last_called, noded_by, by_symbol_as, label_here, walked_to}
use Rattle.laws_shared.proofs.Told.{told_at, told_same}
use Rattle.laws_shared.proofs.Verdicts.{after as grown_behind, grown_then, verdict_of}
use Rattle.laws_statements.proofs.Statements.{◌⟝◌, by_such_statement, closer_here, closes_here, closes_or_line, end_path, ended_so, never_open, no_close, no_symbol, unended}
use Rattle.laws_statements.proofs.WordStatements.{Alone, alone_path, closing, ends_so, still_unlinked, unlinked, same_line}

abbrev return_slots : Flags → G
return_slots f = tok kind.Return ▸ slot (no_newline ▸ symbol Expression f)

-- what may stand behind them: behind an Expression, what may stand behind that one; behind the word alone, what ends it
abbrev by_return : Flags → Slots → Look
by_return f (tree l cs us) = follow (at Expression f) (edge_of l cs)
by_return f us = closes_or_line

abbrev behind_return : Flags → Test
behind_return f = record { base = full; by = λ ts. by_return f ts }

return_ends : (f : Flags) {ds : Slots} {i j : ℕ} {ls mid : Lexemes} → Takes rule (return_slots f) end ds i ls end j mid → (y : Lexeme) → IsTrue (seen (closes (by_edge y ds) no_link) (here mid)) → Admits (behind_return f) ds (here mid)
return_ends f {mid = mid} (is_seq (is_lexeme c) (is_left (is_seq (is_look w) (is_such {l = l} {cs = cs} d t)))) y h = (refl, (expression_ended f no_link (is_such {ks = end} {us = end} d t) y h).1)
return_ends f {mid = mid} (is_seq (is_lexeme c) (is_right is_empty_slot)) y h = (refl, closing (by_edge y (hole end)) no_link (here mid) h)

-- an Expression in its slot
on_argument : (f : Flags) {s : ℕ} → On rule (behind_return f) (after (at Expression f)) end (such (at Expression f) always) s
on_argument f = record { admits = λ ts vs k ls rest d e. go ts d e }
  where
    go : (ts : Slots) {i k : ℕ} {vs : Slots} {ls rest : Lexemes} → Takes rule (such (at Expression f) always) end ts i ls vs k rest → Admits (behind_return f) ts (here rest) → Admits (after (at Expression f)) ts (here rest)
    go ts {rest = rest} (is_such {l = l} {cs = cs} {us = us} d t) e = admits (at Expression f) (tree l cs us) (here rest) e.1

-- both diagnostics of a `return` let reading go on
return_early : (b : Bool) → class_of (fault_of_return b) ≡ Early
return_early true = refl
return_early false = refl

module _ {text : List ℕ} {f : Flags} where
  to_its_end : {p q : Parser} {h : Slots → Slots} → ((us : Slots) → h us ≡ append (h end) us) → Path text f (behind_return f) (return_slots f) p nothing q h → Path text f (plain no_link) (ended by_edge (return_slots f)) p (semicolon (goes_on (edge after_word after_word (h end)))) q h
  to_its_end m x = record {
    at = x.at;
    further = x.further;
    pass = x.pass;
    walked = x.walked;
    verdict = verdict_of x.verdict
        (λ y. record { reach = y.reach; near = y.near; goes = ends_by y.goes m (λ y l. refl) (λ cs j ls mid l d h. return_ends f d (here ls) h) })
        (λ n. fails_ended n (λ cs j ls mid l d h. return_ends f d (here ls) h));
  }

-- ---- what stands behind the word

-- It was read, or none stands there.
record Argument (text : List ℕ) (f : Flags) (p r : Parser) (argument : Option NodeId) : Type 0 where
  slots : Slots → Slots
  appends : (us : Slots) → slots us ≡ append (slots end) us
  path : Path text f (behind_return f) (return_slots f) p nothing r slots
  ends : {v : Parser} → EndsStatement r v → Path text f (plain no_link) (ended by_edge (return_slots f)) p nothing v slots
  same : Same p r
  held : HoldsAll r.nodes (length p.nodes) (length r.nodes) (argument ∷ []) (slots end)
  keeps : Keeps p.nodes r.nodes

abbrev on_line : Flags → G
on_line f = no_newline ▸ symbol Expression f

-- no expression begins with what a statement ends before
none_begins : (f : Flags) → apart closes_here (starts first (on_line f) full) ≡ true
unfolding apart
none_begins f = refl

module _ {text : List ℕ} {f : Flags} {q : Parser} (a : At text f q) where
  new_line : {X : Test} → q.token.is_on_new_line ≡ true → Fails rule (Lex text) X end (on_line f) q.prev_token_end
  new_line w = part_fails {X' = plain full} (fails_look (λ k w e. not w) (λ y l h. false≢true (sym (ap not (newline_here a y l ∙ w)) ∙ h))) (record { admits = λ ts us vs j k ls mid rest d e h. (refl, refl) })

  -- none stands there, where the statement may end
  no_argument : MayEnd q → Fails rule (Lex text) (behind_return f) end (on_line f) q.prev_token_end
  no_argument (inl e) = fails_here firsts (λ y l h. not_both closes_here (starts first (on_line f) full) (none_begins f) y.kind y.newline y.escaped (closer_here a e y l) h)
  no_argument (inr w) = new_line w

  -- where it may not, the slot isn't empty
  no_gap : (MayEnd q → ⊥) → Fails rule (Lex text) (behind_return f) end empty_slot q.prev_token_end
  no_gap m = record { no = λ ts vs k ls rest l d e. go l d e }
    where
      go : {ts vs : Slots} {k : ℕ} {ls rest : Lexemes} → Lexes (Lex text) q.prev_token_end ls → Takes rule empty_slot end ts q.prev_token_end ls vs k rest → Admits (behind_return f) ts (here rest) → ⊥
      go l (is_empty_slot {ls = ls}) e = no_close a m (here ls) (here_at (Lex text) ls l) e.1

module _ {text : List ℕ} {f : Flags} {p q : Parser} (a : At text f p) (h : StandsHere p kind.Return true) (m : Moved text f p q) where
  passed : {X : Test} {g : G} → Path text f X (tok kind.Return ▸ g) p g q (λ us. us)
  passed = token kind.Return a h.0 h.1 refl m

  -- ---- where it may stand, it is this statement alone

  listed : {X : Test} (b : Bool) → Goes rule (Lex text) X end (rule (placed b f)) p.prev_token_end (symbol AStatement f) p.prev_token_end (λ us. us) (still 0)
  unfolding rule rule_of covers
  listed true = at_kind a kind.Return h.0 refl
  listed false = at_kind a kind.Return h.0 refl

  by_parameter : {X : Test} → Goes rule (Lex text) X end (rule (at AStatement f)) p.prev_token_end (when f.return_ (symbol Return f)) p.prev_token_end (λ us. us) (still 0)
  unfolding rule rule_of covers
  by_parameter = at_kind a kind.Return h.0 refl

  return_alone : f.return_ ≡ true → Alone text f Return p.prev_token_end
  return_alone i = record { listed = λ b X. listed b; alone = λ X. by_parameter ▹ where_true i }

  -- what is in the node can't be read, where it may stand
  pub return_none : (b : Bool) → (f.return_ ≡ true → Fails rule (Lex text) (plain no_link) end (ended by_edge (return_slots f)) p.prev_token_end) → NoStatement text (placed b f) p.prev_token_end
  unfolding rule rule_of covers
  return_none b n = no_symbol (listed b ▹✗ fails_rule {X' = plain no_link} (unlinked f b) (by_parameter ▹✗ go f.return_ refl))
    where
      go : (c : Bool) → f.return_ ≡ c → Fails rule (Lex text) (plain no_link) end (when f.return_ (symbol Return f)) p.prev_token_end
      go true e = fails_under (fails_rule {X' = plain no_link} still_unlinked (fails_node (inside_plain refl) (n e)))
      go false e = fails_when e

  -- elsewhere none is derived
  stray : (b : Bool) → f.return_ ≡ false → NoStatement text (placed b f) p.prev_token_end
  stray b e = return_none b (λ i. absurd (false≢true (sym e ∙ i)))

  -- ---- what stands behind the word

  nothing_read : MayEnd q → Argument text f p q None
  nothing_read e =
      let ks : Keeps p.nodes q.nodes = subst (λ (ns : List Node). Keeps p.nodes ns) (sym m.nodes) (Keeps-refl p.nodes) in
      let y = passed ⟝ (right (no_argument m.at e) ▹ reads_empty_slot) in
      record {
        slots = hole;
        appends = λ us. refl;
        path = y;
        ends = λ v. ends_so v (to_its_end (λ us. refl) y);
        same = m.same;
        held = HoldsAll-one_hole q.nodes (length p.nodes) (length q.nodes) (Keeps-longer ks);
        keeps = ks;
      }

  -- an Expression
  to_argument : (MayEnd q → ⊥) → Path text f (behind_return f) (return_slots f) p (symbol Expression f) q (λ us. us)
  to_argument e = passed ⟝ (left (no_gap m.at e) ▹ pass_over (looks (λ k w e. not w) (λ y l. ap not (newline_here m.at y l ∙ same_line m.at e))))

  argument_read : f.in_ ≡ true → {r : Parser} {id : NodeId} → (MayEnd q → ⊥) → Numbered text f (at Expression f) q r id → Argument text f p r (Some id)
  argument_read i {r} {id} e x =
      let y = to_argument e ⟶ last_called x.answer (on_argument f) in
      record {
        slots = tree x.answer.label x.answer.slots;
        appends = λ us. refl;
        path = y;
        ends = λ v. end_path i x.answer v (to_its_end (λ us. refl) y);
        same = same_both m.same x.answer.same;
        held = HoldsAll-one id (subst (λ (ns : List Node). Holds r.nodes (length ns) (length r.nodes) id.0 x.answer.label x.answer.slots) m.nodes x.holds);
        keeps = subst (λ (ns : List Node). Keeps ns r.nodes) m.nodes x.keeps;
      }

  taken : f.in_ ≡ true → {r : Parser} (argument : Option NodeId) → TakesArgument q r (Ok argument) → Argument text f p r argument
  taken i (Some id) (e, x) = argument_read i e (x text f m.at)
  taken i None (e, z) = subst (λ (v : Parser). Argument text f p v None) (sym z) (nothing_read e)

  pub argument_stops : (b : Bool) (r : Parser) (e : Stop) → TakesArgument q r (Err e) → Stops p r e (NoStatement text (placed b f) p.prev_token_end)
  argument_stops b r e (w, x) = stops_behind r e m.same (λ g. grown_then m.kept g) (λ n. return_none b (λ i. fails_ended (to_argument w ⟶✗ weaken_fails_on n (on_argument f)) (λ ds j ls mid l d h. return_ends f d (here ls) h))) (x text f m.at)

  -- ---- the whole

  module _ (i : f.in_ ≡ true) (r : Parser) (argument : Option NodeId) (t : TakesArgument q r (Ok argument)) where
    abbrev its : Argument text f p r argument
    its = taken i argument t

    pub return_at : At text f r
    return_at = its.path.at

    pub return_further : p.token.span.start < r.prev_token_end
    return_further = its.path.further

    pub return_same : Same p r
    return_same = its.same

    pub return_grown : {ds : List Diagnostic} → Grown r.errors ds → Grown p.errors ds
    return_grown g = grown_behind its.path.verdict g

    pub return_unended : (b : Bool) → NoEnd r → NoStatement text (placed b f) p.prev_token_end
    return_unended b n = return_none b (λ i. to_its_end its.appends its.path ⟶✗ unended return_at (goes_on (edge after_word after_word (its.slots end))) n)

    module _ {v : Parser} (e : EndsStatement r v) where
      whole : Path text f (plain no_link) (ended by_edge (return_slots f)) p nothing v its.slots
      whole = its.ends e

      pub ended_at : At text f v
      ended_at = whole.at

      pub ended_further : p.token.span.start < v.prev_token_end
      ended_further = whole.further

      -- as what it is, where it may stand
      return_path : (b : Bool) → f.return_ ≡ true → Path text f (after_statement (placed b f)) (such (placed b f) always) p nothing v (tree (label_here return_statement no_op p v) (its.slots end))
      unfolding rule rule_of covers
      return_path b k = by_symbol_as {X' = after_statement (placed b f)} (λ l cs vs y d. d) (alone_path (return_alone k) b (plain no_link) (unlinked f b) still_unlinked (noded_by a (inside_plain refl) whole))

      -- or told, where it may not
      module _ {word : Span} {w : Parser} (c : ChecksReturn word v w) where
        checked_path : (b : Bool) → Path text f (after_statement (placed b f)) (such (placed b f) always) p nothing w (tree (label_here return_statement no_op p v) (its.slots end))
        checked_path b = go c
          where
            ctx_is : {b : Bool} → has_flag return_flag v.ctx ≡ b → f.return_ ≡ b
            ctx_is e = sym (ap (λ (g : Flags). g.return_) whole.at.flags_are) ∙ e

            without : has_flag return_flag v.ctx ≡ false → f.return_ ≡ false
            without e = ctx_is e

            within : has_flag return_flag v.ctx ≡ true → f.return_ ≡ true
            within e = ctx_is e

            go : ChecksReturn word v w → Path text f (after_statement (placed b f)) (such (placed b f) always) p nothing w (tree (label_here return_statement no_op p v) (its.slots end))
            go (inl (n, k)) = record {
              at = told_at k whole.at;
              further = subst (λ (u : ℕ). p.token.span.start < u) (sym (ap (λ (u : Parser). u.prev_token_end) k.is)) whole.further;
              pass = whole.pass;
              walked = walked_to (sym (ap spot k.is)) whole.walked;
              verdict = unclean (grown_behind whole.verdict (kept_one k)) (stray b (without n));
            }
            go (inr (y, q)) = subst (λ (u : Parser). Path text f (after_statement (placed b f)) (such (placed b f) always) p nothing u (tree (label_here return_statement no_op p v) (its.slots end))) (sym q) (return_path b (within y))

        checked_same : Same v w
        checked_same = go c
          where
            go : ChecksReturn word v w → Same v w
            go (inl (n, k)) = told_same k (return_early (has_flag new_target_flag v.ctx))
            go (inr (y, q)) = subst (λ (u : Parser). Same v u) (sym q) same_itself

        checked_nodes : w.nodes ≡ v.nodes
        checked_nodes = go c
          where
            go : ChecksReturn word v w → w.nodes ≡ v.nodes
            go (inl (n, k)) = ap (λ (u : Parser). u.nodes) k.is
            go (inr (y, q)) = ap (λ (u : Parser). u.nodes) q

        pub checked_place : w.prev_token_end ≡ v.prev_token_end
        checked_place = go c
          where
            go : ChecksReturn word v w → w.prev_token_end ≡ v.prev_token_end
            go (inl (n, k)) = ap (λ (u : Parser). u.prev_token_end) k.is
            go (inr (y, q)) = ap (λ (u : Parser). u.prev_token_end) q

        pub return_answers : (b : Bool) {z : Parser} {id : NodeId} (s : Span) → s.start ≡ p.token.span.start → s.end ≡ w.prev_token_end → MadeHere (plain_label node.ReturnStatement op.None s) (argument ∷ []) w z id → Statement text f (placed b f) p z id
        return_answers b {z} {id} s g d n =
            let l : plain_label node.ReturnStatement op.None s ≡ label_here return_statement no_op p w = rw (g, d) refl in
            let made : MadeHere (label_here return_statement no_op p w) (argument ∷ []) w z id = subst (λ (u : Label). MadeHere u (argument ∷ []) w z id) l n in
            let o = ended_so return_at e in
            let same_nodes : w.nodes ≡ r.nodes = checked_nodes ∙ o.nodes in
            let ks : Keeps p.nodes w.nodes = subst (λ (ns : List Node). Keeps p.nodes ns) (sym same_nodes) its.keeps in
            let hs : HoldsAll w.nodes (length p.nodes) (length w.nodes) (argument ∷ []) (its.slots end) = subst (λ (ns : List Node). HoldsAll ns (length p.nodes) (length ns) (argument ∷ []) (its.slots end)) (sym same_nodes) its.held in
            let y : Path text f (after_statement (placed b f)) (such (placed b f) always) p nothing w (tree (label_here return_statement no_op p w) (its.slots end)) = subst (λ (u : ℕ). Path text f (after_statement (placed b f)) (such (placed b f) always) p nothing w (tree (record { kind = return_statement; op = no_op; flags = 0; span = record { from = p.token.span.start; to = u } }) (its.slots end))) (sym checked_place) (checked_path b) in
            by_such_statement y (never_open (label_here return_statement no_op p w) (its.slots end) refl) (same_both its.same (same_both o.same checked_same)) made.stays (node_held made hs) (Keeps-trans ks (Keeps-made made.made)) refl (one_lies made)

-- each end of the span is one of a lexeme
at_ends : {goal : Goal} {text : List ℕ} {s : Span} (b : Bool) → EdgeOf goal text s.start → EdgeOf goal text s.end → StandsAt (fault_of_return b) goal text s None None
at_ends true x y = ((x, y), (refl, refl))
at_ends false x y = ((x, y), (refl, refl))

-- what is told of it has its mark
word_marked : {text : List ℕ} {f : Flags} {p : Parser} (b : Bool) (s : Span) → At text f p → StandsHere p kind.Return true → s ≡ p.token.span → Mark (goal p) p.text (stray_return b s)
word_marked {text} {f} {p} b s a h e =
    let y = found a (uncut a (ap (same_kind kind.RAngle) h.0)) (ap is_last h.0) in
    let o = a_lexeme a.at.reached (subst (λ (t : List ℕ). NextLexeme all_faults t p.prev_token_end y.0) (sym a.text_is) y.1) in
    let m : Mark (goal p) p.text (stray_return b p.token.span) = record {
      ordered = a.at.lies.ordered;
      within = a.at.lies.ends_whole.0;
      begins_between = a.at.lies.starts_whole;
      ends_between = a.at.lies.ends_whole;
      stands = at_ends b (the_start o (sym y.2.start)) (the_end o (sym y.2.end));
    } in
    subst (λ (v : Span). Mark (goal p) p.text (stray_return b v)) (sym e) m

pub stray_marked : {text : List ℕ} {f : Flags} {p q : Parser} (b : Bool) (s : Span) → At text f p → StandsHere p kind.Return true → s ≡ p.token.span → Same p q → Mark (goal q) q.text (stray_return b s)
stray_marked {p = p} {q = q} b s a h e m = subst (λ (t : List ℕ). Mark (goal q) t (stray_return b s)) (sym m.follows.text) (subst (λ (v : SourceType). Mark (goal_of v) p.text (stray_return b s)) (sym m.follows.source_type) (word_marked b s a h e))
