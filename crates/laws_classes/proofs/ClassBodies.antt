-- Class bodies (ECMA-262, 15.7): elements and semicolons one behind the other, their braces, and the whole.
use Rattle.std.proofs.Common.{ℕ, ◌≡◌, ◌<◌, max, Bool, true, false, ◌||◌, List, [], ◌∷◌, ◌++◌, length, Option, Some, refl, sym, ap, subst, arith}
use Rattle.std.specs.Prelude.{Ok, Err}
use Rattle.std.proofs.lemmas.Bool.{false≢true}
use Rattle.js_base.specs.declared.diagnostic.DiagnosticKind.TheVariants.{ExpectClosing}
use Rattle.js_base.specs.declared.kind.Kind.TheVariants.{Eof, LCurly, RCurly, Semicolon, Undetermined}
use Rattle.js_base.specs.declared.span.Span.{Span}
use Rattle.js_base.specs.Kinds.{same_kind, one_of_kinds}
use Rattle.js_base.specs.Texts.{words}
use Rattle.js_base.proofs.KindLemmas.{kind_of_same}
use Rattle.js_grammar.specs.Trees.{Label, class_body, end, no_op, tree}
use Rattle.js_grammar.specs.Grammar.{nothing, ◌▸◌, ◌◇◌}
use Rattle.js_grammar.specs.Parsing.{Test, plain, full, still, Goes, Fails}
use Rattle.js_grammar.specs.Productions.{G, Flags, at, tok, ClassBody, Element}
use Rattle.js_grammar.specs.Productions.{sym as symbol}
use Rattle.js_grammar.specs.Table.{rule, rule_of}
use Rattle.js_grammar.specs.Follow.{after}
use Rattle.js_grammar.proofs.Looks.{covers, apart}
use Rattle.js_grammar.proofs.Calculus.{Between, ◌▹◌, ◌▹✗◌, by_plain, fails_never, fails_node, inside_full, left, more_of, part_by, part_fails, then_by}
use Rattle.js_grammar.proofs.FirstClaims.{firsts}
use Rattle.js_grammar.proofs.FirstRules.{by_first}
use Rattle.js_grammar.proofs.FollowLaws.{fails_by}
use Rattle.laws_primary.specs.js_tree.declared.id.NodeId.{NodeId}
use Rattle.laws_primary.specs.js_tree.declared.kind.NodeKind.TheVariants as node
use Rattle.laws_primary.specs.js_tree.declared.op.Op.TheVariants as op
use Rattle.laws_primary.specs.js_tree.Nodes.{Node}
use Rattle.laws_primary.specs.js_tree.Holding.{HoldsAll, Keeps}
use Rattle.laws_primary.proofs.laws_shared.js_tree.HoldingLemmas.{Keeps-made, Keeps-trans}
use Rattle.laws_primary.specs.js_cursor.Moves.{Expects, IsKind, is_last}
use Rattle.laws_primary.specs.js_cursor.Parsers.{Parser}
use Rattle.laws_primary.specs.js_cursor.declared.stop.Stop.{Stop}
use Rattle.laws_primary.specs.js_cursor.declared.stop.Stop.TheVariants.{Fatal, NoMemory}
use Rattle.laws_primary.specs.laws_shared.Answers.{Numbered, Stops, Underived}
use Rattle.laws_primary.specs.laws_shared.Lexemes.{Lex}
use Rattle.laws_primary.specs.laws_shared.Moves.{MadeHere, Moved, plain_label}
use Rattle.laws_primary.specs.laws_shared.Nesting.{room}
use Rattle.laws_primary.specs.laws_shared.States.{At}
use Rattle.laws_primary.proofs.laws_shared.Classes.{here_ends}
use Rattle.laws_primary.proofs.laws_shared.Expected.{not_due}
use Rattle.laws_primary.proofs.laws_shared.Giving.{fails_none, gives_up}
use Rattle.laws_primary.proofs.laws_shared.MadeNodes.{node_held, one_lies}
use Rattle.laws_primary.proofs.laws_shared.Moving.{same_both, stops_behind, stops_so}
use Rattle.laws_primary.proofs.laws_shared.Paths.{Path, ◌⟶◌, ◌⟶✗◌, ◌⟼◌, at_kind, fails_at, label_here, last_token, noded, token, walked_both}
use Rattle.laws_primary.proofs.laws_shared.Signs.{other_kind, plain_sign}
use Rattle.laws_primary.proofs.laws_shared.Verdicts.{and_then, grown_then, verdict_of}
use Rattle.laws_primary.proofs.laws_shared.Verdicts.{after as grown_behind}
use Rattle.laws_primary.proofs.Operands.{by_path}
use Rattle.laws_statements.specs.StatementLists.{NoList, OneTaken, Taken, at_end, ends_at, ends_list}
use Rattle.laws_statements.specs.declared.forms.StatementList.TheVariants.{Block}
use Rattle.laws_statements.proofs.Blocks.{at_brace, none_told, then_some}
use Rattle.laws_statements.proofs.StatementLists.{goes_on_here, none_left, one_taken_more}
use Rattle.laws_classes.specs.ClassBodies.{class_braces, elements_of}
use Rattle.laws_classes.specs.Elements.{ElementOutcome, ElementTaken, NoElement, behind_element, behind_kinds}

-- ---- one item

-- what stands behind an element in the list
to_elements : (f : Flags) {a : G} (s : ℕ) → Between rule (plain (at_end Block)) behind_element end a (elements_of f) s
unfolding covers
to_elements f s = by_first firsts (by_plain (λ k w e. one_of_kinds behind_kinds k)) refl

module _ {text : List ℕ} {f : Flags} {p : Parser} (a : At text f p) where
  -- a semicolon alone
  semicolon_first : p.token.kind ≡ Semicolon → Goes rule (Lex text) (plain (at_end Block)) end (elements_of f) p.prev_token_end (tok Semicolon ▸ elements_of f) p.prev_token_end (λ us. us) (still 0)
  unfolding covers
  semicolon_first e = more_of ▹ at_kind a Semicolon e refl ▹ part_by {X' = plain full} (at_kind a {X = plain full} {g = symbol Element f ◇ tok Semicolon} Semicolon e refl) (record { admits = λ ts us vs j k ls mid rest d d' e. (refl, refl) })

  module _ (n : ends_list Block p.token.kind ≡ false) (s : p.token.kind ≡ Semicolon → ⊥) where
    -- the list doesn't end here
    not_end : Fails rule (Lex text) (plain (at_end Block)) end nothing p.prev_token_end
    unfolding covers apart
    not_end = fails_at a {X = plain (at_end Block)} nothing (RCurly ∷ []) refl (ap (λ (b : Bool). b || false) (goes_on_here Block p.token.kind n))

    -- an element
    element_first : Goes rule (Lex text) (plain (at_end Block)) end (elements_of f) p.prev_token_end (symbol Element f ▸ elements_of f) p.prev_token_end (λ us. us) (still 0)
    unfolding covers apart
    element_first = more_of ▹ left not_end ▹ part_by {X' = behind_element} (left (fails_at a (tok Semicolon) (Semicolon ∷ []) refl (other_kind Semicolon p.token.kind s))) (to_elements f p.prev_token_end)

    pub element_taken : {q : Parser} {id : NodeId} → ElementTaken text f (symbol Element f) p q id → OneTaken text f Block (elements_of f) (elements_of f) p q id
    element_taken x = record {
      at = x.at;
      same = x.same;
      further = x.further;
      label = x.label;
      slots = x.slots;
      pass = x.pass;
      walked = x.walked;
      verdict = verdict_of x.verdict (λ y. record { reach = max 0 y.reach; near = let i = y.near in omega arith; goes = element_first ▹ then_by y.goes (to_elements f p.prev_token_end) }) (λ m. element_first ▹✗ part_fails m (to_elements f p.prev_token_end));
      holds = x.holds;
      keeps = x.keeps;
    }

    pub element_refused : (w : Parser) (e : Stop) → Stops p w e (NoElement text (symbol Element f) p.prev_token_end) → Stops p w e (NoList text Block (elements_of f) p.prev_token_end)
    element_refused w e z = stops_so p w e (λ m. element_first ▹✗ part_fails m (to_elements f p.prev_token_end)) z

-- ---- several

module _ {text : List ℕ} {f : Flags} {g : G} {p q : Parser} {ids : List (Option NodeId)} (s : Taken text f Block g (elements_of f) p q ids) where
  -- and a semicolon behind them
  pub semicolon_more : {r : Parser} → q.token.kind ≡ Semicolon → Moved text f q r → Taken text f Block g (elements_of f) p r ids
  unfolding words
  semicolon_more {r} k m = record {
    at = m.at;
    same = same_both s.same m.same;
    further = let i = s.further in let j = m.further in let h = s.at.behind in omega arith;
    slots = s.slots;
    appends = s.appends;
    pass = λ ls. s.pass (y.pass ls);
    walked = walked_both s.walked y.walked;
    verdict = and_then s.verdict y.verdict
        (λ u v. record { reach = max u.reach v.reach; near = let i = u.near in let j = v.near in let k = m.further in let h = s.at.behind in omega arith; goes = u.goes ▹ v.goes })
        (λ n. n)
        (λ u n. u.goes ▹✗ n);
    holds = subst (λ (ns : List Node). HoldsAll ns (length p.nodes) (length ns) ids (s.slots end)) (sym m.nodes) s.holds;
    keeps = subst (λ (ns : List Node). Keeps p.nodes ns) (sym m.nodes) s.keeps;
  }
    where
      y : Path text f (plain (at_end Block)) (elements_of f) q (elements_of f) r (λ us. us)
      y = semicolon_first s.at k ⟼ token Semicolon s.at k (plain_sign Semicolon s.at k refl refl refl) refl m

  -- and an element
  pub element_more : {r : Parser} {js : List (Option NodeId)} {id : NodeId} → ends_list Block q.token.kind ≡ false → (q.token.kind ≡ Semicolon → ⊥) → ElementOutcome text f (symbol Element f) q r (Ok id) → js ≡ ids ++ Some id ∷ [] → Taken text f Block g (elements_of f) p r js
  element_more n k x e = one_taken_more s (element_taken s.at n k x) e

  pub element_stops : (w : Parser) (e : Stop) → ends_list Block q.token.kind ≡ false → (q.token.kind ≡ Semicolon → ⊥) → ElementOutcome text f (symbol Element f) q w (Err e) → Stops p w e (NoList text Block g p.prev_token_end)
  element_stops w e n k z = stops_behind w e s.same (λ d. grown_behind s.verdict d) (λ m. none_left s m) (element_refused s.at n k w e z)

-- ---- the end

module _ {text : List ℕ} {f : Flags} {q : Parser} (a : At text f q) where
  -- a brace closes the list
  list_closes : q.token.kind ≡ RCurly → Goes rule (Lex text) (plain (at_end Block)) end (elements_of f) q.prev_token_end nothing q.prev_token_end (λ us. us) (still 0)
  unfolding covers
  list_closes e = more_of ▹ at_brace a e

  -- at the end of the text it is open
  open_at_end : q.token.kind ≡ Eof → NoList text Block (elements_of f) q.prev_token_end
  unfolding covers
  open_at_end e = more_of ▹✗ (at_kind a Eof e refl ▹✗ fails_never)

  -- and where what ends it stands, and no brace
  list_open : ends_list Block q.token.kind ≡ true → (q.token.kind ≡ RCurly → ⊥) → NoList text Block (elements_of f) q.prev_token_end
  list_open e n = first (ends_at Block q.token.kind) refl e
    where
      third : (c : Bool) → same_kind Undetermined q.token.kind ≡ c → c ≡ true → NoList text Block (elements_of f) q.prev_token_end
      third true k i = fails_none (none_told a (sym (kind_of_same Undetermined q.token.kind k)))
      third false k i = absurd (false≢true i)

      second : (b : Bool) → same_kind Eof q.token.kind ≡ b → (b || same_kind Undetermined q.token.kind) ≡ true → NoList text Block (elements_of f) q.prev_token_end
      second true k i = open_at_end (sym (kind_of_same Eof q.token.kind k))
      second false k i = third (same_kind Undetermined q.token.kind) refl i

      first : (b : Bool) → ends_at Block q.token.kind ≡ b → (b || is_last q.token.kind) ≡ true → NoList text Block (elements_of f) q.prev_token_end
      first true k i = absurd (n (sym (kind_of_same RCurly q.token.kind k)))
      first false k i = second (same_kind Eof q.token.kind) refl i

before_brace : (f : Flags) (s : ℕ) → Between rule (plain full) (plain (at_end Block)) end (elements_of f) (tok RCurly) s
unfolding covers
before_brace f s = by_first firsts (by_plain (at_end Block)) refl

-- ---- the body

no_body : {text : List ℕ} {f : Flags} {s : ℕ} → Fails rule (Lex text) (plain full) end (class_braces f) s → Underived text (at ClassBody f) s
unfolding rule rule_of
no_body n = fails_by (fails_node inside_full n)

-- no brace stands here
pub unopened : {text : List ℕ} {f : Flags} {p : Parser} → At text f p → (p.token.kind ≡ LCurly → p.token.escaped ≡ false → ⊥) → Underived text (at ClassBody f) p.prev_token_end
unopened a n = no_body (not_due a LCurly refl n)

module _ {text : List ℕ} {f : Flags} {p q : Parser} (a : At text f p) (k : IsKind LCurly p) (m : Moved text f p q) where
  opened : {X : Test} → Path text f X (class_braces f) p (elements_of f ▸ tok RCurly) q (λ us. us)
  opened = token LCurly a k.0 k.1 refl m

  list_refused : NoList text Block (elements_of f) q.prev_token_end → Underived text (at ClassBody f) p.prev_token_end
  list_refused n = no_body (opened ⟶✗ part_fails n (before_brace f q.prev_token_end))

  pub elements_stop : (w : Parser) (e : Stop) → Stops q w e (NoList text Block (elements_of f) q.prev_token_end) → Stops p w e (Underived text (at ClassBody f) p.prev_token_end)
  elements_stop w e z = stops_behind w e m.same (λ g. grown_then m.kept g) (λ n. list_refused n) z

  module _ {r : Parser} {ids : List (Option NodeId)} (l : ends_list Block r.token.kind ≡ true) (x : Taken text f Block (elements_of f) (elements_of f) q r ids) where
    -- no brace closes it
    pub unclosed : (u : Parser) (s : Stop) (opening : Span) → Expects (λ (v : Parser). v.token.kind ≡ RCurly) ExpectClosing (Some opening) r u (Err s) → Stops p u s (Underived text (at ClassBody f) p.prev_token_end)
    unclosed u s opening z = stops_behind u s (same_both m.same x.same) (λ g. grown_then m.kept (grown_behind x.verdict g)) (λ n. list_refused (none_left x n)) (go s z)
      where
        go : (s : Stop) → Expects (λ (v : Parser). v.token.kind ≡ RCurly) ExpectClosing (Some opening) r u (Err s) → Stops r u s (NoList text Block (elements_of f) r.prev_token_end)
        go Fatal z = gives_up _ r u Fatal x.at z.1 (here_ends ExpectClosing refl) (list_open x.at l (z.0 refl))
        go NoMemory z = tt

    module _ {u : Parser} (c : r.token.kind ≡ RCurly) (d : Moved text f r u) where
      braces_path : Path text f (plain full) (class_braces f) p nothing u x.slots
      unfolding words
      braces_path = then_some {g'' = tok RCurly} {i = x.slots} opened x.at x.further x.walked (verdict_of x.verdict
          (λ y. record { reach = max y.reach (max 0 0); near = let i = y.near in omega arith; goes = then_by (y.goes ▹ list_closes x.at c) (before_brace f q.prev_token_end) })
          (λ n. part_fails n (before_brace f q.prev_token_end)))
          ⟶ last_token RCurly x.at c (plain_sign RCurly x.at c refl refl refl) refl d

      body_path : Path text f (after (at ClassBody f)) (rule (at ClassBody f)) p nothing u (tree (label_here class_body no_op p u) (x.slots end))
      unfolding rule rule_of
      body_path = noded a braces_path

      pub body_further : p.token.span.start < u.prev_token_end
      body_further = braces_path.further

      pub body_answers : {w : Parser} {id : NodeId} (s : Span) → s.start ≡ p.token.span.start → s.end ≡ u.prev_token_end → MadeHere (plain_label node.ClassBody op.None s) ids u w id → Numbered text f (at ClassBody f) p w id
      body_answers {w} {id} s g h i =
          let l : plain_label node.ClassBody op.None s ≡ label_here class_body no_op p u = rw (g, h) refl in
          let made : MadeHere (label_here class_body no_op p u) ids u w id = subst (λ (v : Label). MadeHere v ids u w id) l i in
          let held : HoldsAll u.nodes (length p.nodes) (length u.nodes) ids (x.slots end) = subst (λ (ns : List Node). HoldsAll ns (length p.nodes) (length ns) ids (x.slots end)) (sym d.nodes) (subst (λ (ns : List Node). HoldsAll r.nodes (length ns) (length r.nodes) ids (x.slots end)) m.nodes x.holds) in
          let kept : Keeps p.nodes u.nodes = subst (λ (ns : List Node). Keeps p.nodes ns) (sym d.nodes) (subst (λ (ns : List Node). Keeps ns r.nodes) m.nodes x.keeps) in
          by_path body_path (same_both (same_both m.same x.same) d.same) made.stays (λ y l. refl) refl (node_held made held) (Keeps-trans kept (Keeps-made made.made)) refl (one_lies made)

-- less of the text is left behind an element
pub less_behind : {text : List ℕ} {f : Flags} {g : G} {p q : Parser} {id : NodeId} → At text f p → ElementTaken text f g p q id → room q < room p
less_behind a x = let i = x.further in let y = a.behind in let z = a.at.between.0 in let g = x.same.follows.text in omega (arith, ap length g)
