-- The comma operator (ECMA-262, 13.16): what is left of an Expression behind each of its operands. The right edge of the node is that of its last operand, so each reading is of all operands up to the last one.
use Rattle.std.proofs.Common.{ℕ, ◌≡◌, ◌≤◌, ◌<◌, max, Bool, true, false, not, ◌||◌, IsTrue, Option, Some, List, [], ◌∷◌, ◌++◌, length, refl, sym, ap, subst, arith, ◌∙◌, nat_lt}
use Rattle.std.proofs.lemmas.Bool.{and_from, ltb-true, lt-ltb}
use Rattle.js_base.specs.declared.diagnostic.Diagnostic.{Diagnostic}
use Rattle.js_base.specs.declared.kind.Kind.{Kind}
use Rattle.js_base.specs.declared.kind.Kind.TheVariants.{Comma}
use Rattle.js_base.specs.declared.span.Span.{Span}
use Rattle.js_base.specs.Kinds.{same_kind, one_of_kinds}
use Rattle.js_grammar.specs.Trees.{Label, Slots, end, tree, append, sequence_expression, no_op}
use Rattle.js_grammar.specs.Grammar.{Lexeme, Lexemes, next, here, seen, is, such, commas, nothing, Takes, is_nothing, is_lexeme, is_such, is_seq, is_left, is_right, is_commas, is_node, ◌▸◌}
use Rattle.js_grammar.specs.Insertion.{Row, after_expression, after_postfix, after_body, after_yield, after_declarator, after_word, edge}
use Rattle.js_grammar.specs.Lexed.{Lexes}
use Rattle.js_grammar.specs.Parsing.{Reaches, Passes, Admits, plain, full, always, passing, Goes, Fails}
use Rattle.js_grammar.specs.Productions.{G, Flags, at, tok, mk, Assignment, Expression}
use Rattle.js_grammar.specs.Productions.{sym as symbol}
use Rattle.js_grammar.specs.Table.{rule, rule_of}
use Rattle.js_base.specs.Texts.{words}
use Rattle.js_grammar.specs.Follow.{after, looser, tight, row_of, surest}
use Rattle.js_grammar.specs.RightEdges.{of_assignment}
use Rattle.js_grammar.proofs.Looks.{covers, covered, apart, not_both}
use Rattle.js_grammar.proofs.Calculus.{here_at, ends, passes_both, reaches_less, ◌▹◌, left, right, fails_alt, weaken_fails_on}
use Rattle.js_grammar.proofs.FollowLaws.{admits, surely, same_read, fails_by}
use Rattle.js_grammar.proofs.RightEdges.{edge_append}
use Rattle.js_grammar.proofs.Frame.{append_assoc}
use Rattle.laws_shared.specs.js_tree.declared.id.NodeId.{NodeId}
use Rattle.laws_shared.specs.js_tree.declared.kind.NodeKind.TheVariants as node
use Rattle.laws_shared.specs.js_tree.declared.op.Op.TheVariants as op
use Rattle.laws_shared.specs.js_tree.Nodes.{Node}
use Rattle.laws_shared.specs.js_tree.Holding.{Holds, HoldsAll, Keeps}
use Rattle.laws_shared.proofs.js_tree.HoldingLemmas.{HoldsAll-one, HoldsAll-next, Keeps-trans, Keeps-made}
use Rattle.laws_shared.specs.js_cursor.Parsers.{Parser}
use Rattle.laws_shared.specs.Lexemes.{Lex, Walked, spot, Plain}
use Rattle.laws_shared.specs.States.{At, Same}
use Rattle.laws_shared.specs.Moves.{Moved, MadeHere, plain_label}
use Rattle.laws_shared.specs.Nesting.{room}
use Rattle.laws_shared.specs.Answers.{Grown, Verdict, Stretch, Underived, Numbered, beside}
use Rattle.laws_shared.proofs.Signs.{plain_sign, other_kind}
use Rattle.laws_shared.proofs.Here.{begins_here}
use Rattle.laws_shared.proofs.MadeNodes.{node_held, one_lies}
use Rattle.laws_shared.proofs.Moving.{same_both}
use Rattle.laws_shared.proofs.Nesting.{later_room}
use Rattle.laws_patterns.proofs.laws_primary.Operands.{by_path}
use Rattle.laws_shared.proofs.Paths.{Path, skips, walked_both, walked_one, label_here}
use Rattle.laws_shared.proofs.Phrases.{lift, narrow_operand, narrow_assignment}
use Rattle.laws_shared.proofs.Escapes.{read_plain}
use Rattle.laws_shared.proofs.Tight.{narrows, plain_lex}
use Rattle.laws_shared.proofs.Verdicts.{verdict_of, either_way, and_then, behind_none, grown_then}
use Rattle.laws_shared.proofs.Verdicts.{after as grown_behind}
use Rattle.laws_shared.proofs.Commas.{comma_may_follow, commas_here, no_comma_here}

abbrev item : Flags → G
item f = symbol Assignment f

-- behind a first operand
abbrev pub others : Flags → G
others f = tok Comma ▸ commas false (item f)

abbrev pub operands : Flags → G
operands f = item f ▸ others f

-- What may stand behind an Expression whose last operand is the last of these.
abbrev pub Ending : Flags → Slots → Lexeme → Type 0
Ending f ts y = IsTrue (seen (looser 1 f.in_ (edge after_expression after_word ts)) y)

-- All of g is read up to the place s', as these slots.
pub record Whole (text : List ℕ) (f : Flags) (g : G) (s s' : ℕ) (us : Slots) (pass : Lexemes → Lexemes) : Type 0 where
  pub reach : ℕ
  pub near : reach ≤ s'
  pub passes : Passes (Lex text) s s' pass
  pub sound : (ls : Lexemes) → Lexes (Lex text) s' ls → Reaches reach s' ls → Takes rule g end us s (pass ls) end s' ls
  pub only : (ts : Slots) (k : ℕ) (ls rest : Lexemes) → Lexes (Lex text) s ls → Takes rule g end ts s ls end k rest → Ending f ts (here rest) → (ts ≡ us) × (k ≡ s') × Lexes (Lex text) s' rest × (ls ≡ pass rest)

-- Or nothing of it is derived.
pub record Nothing (text : List ℕ) (f : Flags) (g : G) (s : ℕ) : Type 0 where
  pub no : (ts : Slots) (k : ℕ) (ls rest : Lexemes) → Lexes (Lex text) s ls → Takes rule g end ts s ls end k rest → Ending f ts (here rest) → ⊥

-- ---- what may stand behind operands

-- a comma may stand behind an operand
at_comma : (f : Flags) (ts : Slots) (y : Lexeme) → IsTrue (seen (is Comma) y) → Admits (after (at Assignment f)) ts y
at_comma f ts y h = (surely (at Assignment f)).admits ts y (covered (is Comma) (surest Assignment) comma_may_follow y.kind y.newline y.escaped h)

-- but not behind the last one
comma_apart : (b : Bool) (r : Row) → apart (is Comma) (looser 1 b r) ≡ true
unfolding apart
comma_apart true after_expression = refl
comma_apart true after_postfix = refl
comma_apart true after_body = refl
comma_apart true after_yield = refl
comma_apart true after_declarator = refl
comma_apart true after_word = refl
comma_apart false after_expression = refl
comma_apart false after_postfix = refl
comma_apart false after_body = refl
comma_apart false after_yield = refl
comma_apart false after_declarator = refl
comma_apart false after_word = refl

no_comma_behind : (b : Bool) (r : Row) (y : Lexeme) → IsTrue (seen (is Comma) y) → IsTrue (seen (looser 1 b r) y) → ⊥
no_comma_behind b r y h e = not_both (is Comma) (looser 1 b r) (comma_apart b r) y.kind y.newline y.escaped h e

less : (t : ℕ) → nat_lt t 1 ≡ true → nat_lt t 2 ≡ true
less t h = lt-ltb t 2 (let i = ltb-true t 1 h in omega arith)

-- what may stand behind an Expression may stand behind its last operand
last_admits : (f : Flags) (l : Label) (cs us : Slots) (y : Lexeme) → IsTrue (seen (looser 1 f.in_ (row_of l cs)) y) → Admits (after (at Assignment f)) (tree l cs us) y
last_admits f l cs us y h = admits (at Assignment f) (tree l cs us) y (less (tight f.in_ (row_of l cs) y.kind y.newline y.escaped) h)

-- ---- an operand alone

module _ {text : List ℕ} {f : Flags} where
  -- whatever is derived as an operand, and stops where it may, is what was read
  item_only : {s s' : ℕ} {l : Label} {cs : Slots} {pass : Lexemes → Lexemes} → Stretch text (after (at Assignment f)) (such (at Assignment f) always) s nothing s' (tree l cs) pass → (ts us : Slots) (j : ℕ) (ls mid : Lexemes) → Lexes (Lex text) s ls → Takes rule (item f) end ts s ls us j mid → Admits (after (at Assignment f)) ts (here mid)
      → (ts ≡ tree l cs us) × (j ≡ s') × Lexes (Lex text) s' mid × (ls ≡ pass mid)
  item_only {s' = s'} {l} {cs} {pass} y ts us j ls mid lx d e =
      let x = y.goes.only ts us j ls mid lx d e in
      let n = ends x.4 in
      (x.2 ∙ ap (λ v. tree l cs v) n.0, sym n.1, subst (λ (v : Lexemes). Lexes (Lex text) s' v) n.2 x.3, x.5 ∙ ap pass n.2)

  item_there : {s s' : ℕ} {l : Label} {cs : Slots} {pass : Lexemes → Lexemes} (y : Stretch text (after (at Assignment f)) (such (at Assignment f) always) s nothing s' (tree l cs) pass) (us : Slots) (ls : Lexemes) → Lexes (Lex text) s' ls → Reaches y.reach s' ls → Takes rule (item f) end (tree l cs us) s (pass ls) us s' ls
  item_there y us ls lx r = y.goes.sound us us _ ls ls lx r is_nothing

  -- ---- lists of operands

  -- the last operand
  pub last_item : {s s' : ℕ} {l : Label} {cs : Slots} {pass : Lexemes → Lexemes} → Stretch text (after (at Assignment f)) (such (at Assignment f) always) s nothing s' (tree l cs) pass → ((y : Lexeme) → Lex text s' y → IsTrue (seen (is Comma) y) → ⊥) → Whole text f (commas false (item f)) s s' (tree l cs end) pass
  last_item {s} {s'} {l} {cs} {pass} y n = record { reach = y.reach; near = y.near; passes = y.goes.passes; sound = λ ls lx r. is_commas (is_seq (item_there y end ls lx r) (is_right is_nothing)); only = λ ts k ls rest lx d e. go ts k ls rest lx d e }
    where
      go : (ts : Slots) (k : ℕ) (ls rest : Lexemes) → Lexes (Lex text) s ls → Takes rule (commas false (item f)) end ts s ls end k rest → Ending f ts (here rest) → (ts ≡ tree l cs end) × (k ≡ s') × Lexes (Lex text) s' rest × (ls ≡ pass rest)
      go ts k ls rest lx (is_commas (is_seq {us = us} {j = j} {mid = mid} d (is_left (is_seq (is_lexeme q) c)))) e = let x = item_only y ts us j ls mid lx d (at_comma f ts (here mid) q) in absurd (n (here mid) (here_at (Lex text) mid x.2) q)
      go ts k ls rest lx (is_commas (is_seq {us = us} {j = j} (is_such {l = m} {cs = ds} d t) (is_right is_nothing))) e = item_only y ts us j ls rest lx (is_such d t) (last_admits f m ds end (here rest) e)

  -- an operand, and a comma behind it
  pub next_item : {s s' e : ℕ} {l : Label} {cs us : Slots} {pass through : Lexemes → Lexemes} → Stretch text (after (at Assignment f)) (such (at Assignment f) always) s nothing s' (tree l cs) pass → ((y : Lexeme) → Lex text s' y → IsTrue (seen (is Comma) y)) → Whole text f (others f) s' e us through → s' ≤ e → Whole text f (commas false (item f)) s e (tree l cs us) (λ ls. pass (through ls))
  next_item {s} {s'} {e} {l} {cs} {us} {pass} {through} y c w i = record {
    reach = max y.reach w.reach;
    near = let a = y.near in let b = w.near in omega arith;
    passes = passes_both y.goes.passes w.passes;
    sound = λ ls lx r. is_commas (is_seq (item_there y us (through ls) (w.passes.lexed ls lx) (w.passes.reaches y.reach ls (reaches_less y.reach (max y.reach w.reach) (omega arith) e ls r))) (is_left (w.sound ls lx (reaches_less w.reach (max y.reach w.reach) (omega arith) e ls r))));
    only = λ ts k ls rest lx d h. go ts k ls rest lx d h;
  }
    where
      go : (ts : Slots) (k : ℕ) (ls rest : Lexemes) → Lexes (Lex text) s ls → Takes rule (commas false (item f)) end ts s ls end k rest → Ending f ts (here rest) → (ts ≡ tree l cs us) × (k ≡ e) × Lexes (Lex text) e rest × (ls ≡ pass (through rest))
      go ts k ls rest lx (is_commas (is_seq {us = ws} {j = j} {mid = mid} (is_such {l = m} {cs = ds} d t) (is_left (is_seq (is_lexeme q) (is_commas (is_seq (is_such d' t') r)))))) h =
          let x = item_only y ts ws j ls mid lx (is_such d t) (at_comma f ts (here mid) q) in
          let z = w.only ws k mid rest x.2 (subst (λ (v : ℕ). Takes rule (others f) end ws v mid end k rest) x.1 (is_seq (is_lexeme q) (is_commas (is_seq (is_such d' t') r)))) h in
          (x.0 ∙ ap (λ v. tree l cs v) z.0, z.1, z.2, x.3 ∙ ap pass z.3)
      go ts k ls rest lx (is_commas (is_seq {us = ws} {j = j} (is_such {l = m} {cs = ds} d t) (is_right is_nothing))) h =
          let x = item_only y ts ws j ls rest lx (is_such d t) (last_admits f m ds end (here rest) h) in
          absurd (no_comma_behind f.in_ (row_of m ds) (here rest) (c (here rest) (here_at (Lex text) rest x.2)) h)

  -- the first one
  pub first_item : {s s' e : ℕ} {l : Label} {cs us : Slots} {pass through : Lexemes → Lexemes} → Stretch text (after (at Assignment f)) (such (at Assignment f) always) s nothing s' (tree l cs) pass → Whole text f (others f) s' e us through → s' ≤ e → Whole text f (operands f) s e (tree l cs us) (λ ls. pass (through ls))
  first_item {s} {s'} {e} {l} {cs} {us} {pass} {through} y w i = record {
    reach = max y.reach w.reach;
    near = let a = y.near in let b = w.near in omega arith;
    passes = passes_both y.goes.passes w.passes;
    sound = λ ls lx r. is_seq (item_there y us (through ls) (w.passes.lexed ls lx) (w.passes.reaches y.reach ls (reaches_less y.reach (max y.reach w.reach) (omega arith) e ls r))) (w.sound ls lx (reaches_less w.reach (max y.reach w.reach) (omega arith) e ls r));
    only = λ ts k ls rest lx d h. go ts k ls rest lx d h;
  }
    where
      go : (ts : Slots) (k : ℕ) (ls rest : Lexemes) → Lexes (Lex text) s ls → Takes rule (operands f) end ts s ls end k rest → Ending f ts (here rest) → (ts ≡ tree l cs us) × (k ≡ e) × Lexes (Lex text) e rest × (ls ≡ pass (through rest))
      go ts k ls rest lx (is_seq {us = ws} {j = j} {mid = mid} (is_such {l = m} {cs = ds} d t) (is_seq (is_lexeme q) (is_commas (is_seq (is_such d' t') r)))) h =
          let x = item_only y ts ws j ls mid lx (is_such d t) (at_comma f ts (here mid) q) in
          let z = w.only ws k mid rest x.2 (subst (λ (v : ℕ). Takes rule (others f) end ws v mid end k rest) x.1 (is_seq (is_lexeme q) (is_commas (is_seq (is_such d' t') r)))) h in
          (x.0 ∙ ap (λ v. tree l cs v) z.0, z.1, z.2, x.3 ∙ ap pass z.3)

  -- where none is derived
  pub no_item : {s : ℕ} → Underived text (at Assignment f) s → Nothing text f (commas false (item f)) s
  no_item {s} n = record { no = λ ts k ls rest lx d e. go ts k ls rest lx d e }
    where
      go : (ts : Slots) (k : ℕ) (ls rest : Lexemes) → Lexes (Lex text) s ls → Takes rule (commas false (item f)) end ts s ls end k rest → Ending f ts (here rest) → ⊥
      go ts k ls rest lx (is_commas (is_seq {us = us} {j = j} {mid = mid} d (is_left (is_seq (is_lexeme q) c)))) e = n.no ts us j ls mid lx d (at_comma f ts (here mid) q)
      go ts k ls rest lx (is_commas (is_seq {us = us} {j = j} (is_such {l = m} {cs = ds} d t) (is_right is_nothing))) e = n.no ts us j ls rest lx (is_such d t) (last_admits f m ds end (here rest) e)

  pub no_first : {s : ℕ} → Underived text (at Assignment f) s → Nothing text f (operands f) s
  no_first {s} n = record { no = λ ts k ls rest lx d e. go ts k ls rest lx d e }
    where
      go : (ts : Slots) (k : ℕ) (ls rest : Lexemes) → Lexes (Lex text) s ls → Takes rule (operands f) end ts s ls end k rest → Ending f ts (here rest) → ⊥
      go ts k ls rest lx (is_seq {us = us} {j = j} {mid = mid} d (is_seq (is_lexeme q) c)) e = n.no ts us j ls mid lx d (at_comma f ts (here mid) q)

  pub none_next : {s s' : ℕ} {l : Label} {cs : Slots} {pass : Lexemes → Lexemes} → Stretch text (after (at Assignment f)) (such (at Assignment f) always) s nothing s' (tree l cs) pass → ((y : Lexeme) → Lex text s' y → IsTrue (seen (is Comma) y)) → Nothing text f (others f) s' → Nothing text f (commas false (item f)) s
  none_next {s} y c w = record { no = λ ts k ls rest lx d e. go ts k ls rest lx d e }
    where
      go : (ts : Slots) (k : ℕ) (ls rest : Lexemes) → Lexes (Lex text) s ls → Takes rule (commas false (item f)) end ts s ls end k rest → Ending f ts (here rest) → ⊥
      go ts k ls rest lx (is_commas (is_seq {us = ws} {j = j} {mid = mid} (is_such {l = m} {cs = ds} d t) (is_left (is_seq (is_lexeme q) (is_commas (is_seq (is_such d' t') r)))))) h =
          let x = item_only y ts ws j ls mid lx (is_such d t) (at_comma f ts (here mid) q) in
          w.no ws k mid rest x.2 (subst (λ (v : ℕ). Takes rule (others f) end ws v mid end k rest) x.1 (is_seq (is_lexeme q) (is_commas (is_seq (is_such d' t') r)))) h
      go ts k ls rest lx (is_commas (is_seq {us = ws} {j = j} (is_such {l = m} {cs = ds} d t) (is_right is_nothing))) h =
          let x = item_only y ts ws j ls rest lx (is_such d t) (last_admits f m ds end (here rest) h) in
          no_comma_behind f.in_ (row_of m ds) (here rest) (c (here rest) (here_at (Lex text) rest x.2)) h

  pub none_first : {s s' : ℕ} {l : Label} {cs : Slots} {pass : Lexemes → Lexemes} → Stretch text (after (at Assignment f)) (such (at Assignment f) always) s nothing s' (tree l cs) pass → Nothing text f (others f) s' → Nothing text f (operands f) s
  none_first {s} y w = record { no = λ ts k ls rest lx d e. go ts k ls rest lx d e }
    where
      go : (ts : Slots) (k : ℕ) (ls rest : Lexemes) → Lexes (Lex text) s ls → Takes rule (operands f) end ts s ls end k rest → Ending f ts (here rest) → ⊥
      go ts k ls rest lx (is_seq {us = ws} {j = j} {mid = mid} (is_such {l = m} {cs = ds} d t) (is_seq (is_lexeme q) (is_commas (is_seq (is_such d' t') r)))) h =
          let x = item_only y ts ws j ls mid lx (is_such d t) (at_comma f ts (here mid) q) in
          w.no ws k mid rest x.2 (subst (λ (v : ℕ). Takes rule (others f) end ws v mid end k rest) x.1 (is_seq (is_lexeme q) (is_commas (is_seq (is_such d' t') r)))) h

  -- a comma was passed
  pub comma_passed : {p q : Parser} {e : ℕ} {us : Slots} {through : Lexemes → Lexemes} → At text f p → p.token.kind ≡ Comma → p.token.escaped ≡ false → (m : Moved text f p q) → Whole text f (commas false (item f)) q.prev_token_end e us through → q.prev_token_end ≤ e → Whole text f (others f) p.prev_token_end e us (λ ls. next m.lexeme (through ls))
  comma_passed {p} {q} {e} {us} {through} a k n m w i =
      let g : Goes rule (Lex text) (plain full) end (others f) p.prev_token_end (commas false (item f)) q.prev_token_end (λ us. us) (passing m.lexeme) = skips a Comma k n refl m in
      record {
        reach = w.reach;
        near = w.near;
        passes = passes_both g.passes w.passes;
        sound = λ ls lx r. g.sound us end e (through ls) ls (w.passes.lexed ls lx) (reaches_less 0 w.reach (omega arith) q.prev_token_end (through ls) (w.passes.reaches w.reach ls r)) (w.sound ls lx r);
        only = λ ts k ls rest lx d h. let x = g.only ts end k ls rest lx d (refl, refl) in let y = w.only x.0 k x.1 rest x.3 x.4 (subst (λ v. Ending f v (here rest)) x.2 h) in (x.2 ∙ y.0, y.1, y.2, x.5 ∙ ap (λ v. next m.lexeme v) y.3);
      }

  pub none_passed : {p q : Parser} → At text f p → p.token.kind ≡ Comma → p.token.escaped ≡ false → (m : Moved text f p q) → Nothing text f (commas false (item f)) q.prev_token_end → Nothing text f (others f) p.prev_token_end
  none_passed {p} {q} a k n m w =
      let g : Goes rule (Lex text) (plain full) end (others f) p.prev_token_end (commas false (item f)) q.prev_token_end (λ us. us) (passing m.lexeme) = skips a Comma k n refl m in
      record { no = λ ts k ls rest lx d h. let x = g.only ts end k ls rest lx d (refl, refl) in w.no x.0 k x.1 rest x.3 x.4 (subst (λ v. Ending f v (here rest)) x.2 h) }

-- ---- the node, and what begins with an operand alone

abbrev pub sequence : Flags → G
sequence f = mk sequence_expression (operands f)

module _ {text : List ℕ} {f : Flags} where
  pub sequence_goes : {p : Parser} (q : Parser) {us : Slots} {pass : Lexemes → Lexemes} → At text f p → Whole text f (operands f) p.prev_token_end q.prev_token_end us pass → Stretch text (after (at Expression f)) (sequence f) p.prev_token_end nothing q.prev_token_end (tree (label_here sequence_expression no_op p q) us) pass
  sequence_goes {p} q {us} {pass} a w = record { reach = w.reach; near = w.near; goes = record { passes = w.passes; sound = λ vs ws k ls rest lx r d. there vs ws k ls rest lx r d; only = λ ts vs k ls rest lx d e. back ts vs k ls rest lx d e } }
    where
      labelled : ℕ → ℕ → Label
      labelled i j = record { kind = sequence_expression; op = no_op; flags = 0; span = record { from = i; to = j } }

      there : (vs ws : Slots) (k : ℕ) (ls rest : Lexemes) → Lexes (Lex text) q.prev_token_end ls → Reaches w.reach q.prev_token_end ls → Takes rule nothing end vs q.prev_token_end ls ws k rest → Takes rule (sequence f) end (tree (label_here sequence_expression no_op p q) us vs) p.prev_token_end (pass ls) ws k rest
      there vs ws k ls rest lx r is_nothing = subst (λ (v : ℕ). Takes rule (sequence f) end (tree (labelled v q.prev_token_end) us vs) p.prev_token_end (pass ls) vs q.prev_token_end ls) (begins_here a (here (pass ls)) (here_at (Lex text) (pass ls) (w.passes.lexed ls lx))) (is_node (w.sound ls lx r))

      back : (ts vs : Slots) (k : ℕ) (ls rest : Lexemes) → Lexes (Lex text) p.prev_token_end ls → Takes rule (sequence f) end ts p.prev_token_end ls vs k rest → Admits (after (at Expression f)) ts (here rest) → (ws : Slots) × (more : Lexemes) × (ts ≡ tree (label_here sequence_expression no_op p q) us ws) × Lexes (Lex text) q.prev_token_end more × Takes rule nothing end ws q.prev_token_end more vs k rest × (ls ≡ pass more)
      back ts vs k ls rest lx (is_node {cs = cs} d) e =
          let x = w.only cs k ls rest lx d e.1 in
          let b = begins_here a (here ls) (here_at (Lex text) ls lx) in
          (vs, rest, (λ i. tree (labelled (b i) (x.1 i)) (x.0 i) vs), x.2, subst (λ (v : ℕ). Takes rule nothing end vs q.prev_token_end rest vs v rest) (sym x.1) is_nothing, x.3)

  pub no_sequence : {s : ℕ} → Nothing text f (operands f) s → Fails rule (Lex text) (after (at Expression f)) end (sequence f) s
  no_sequence {s} w = record { no = λ ts vs k ls rest lx d e. go ts vs k ls rest lx d e }
    where
      go : (ts vs : Slots) (k : ℕ) (ls rest : Lexemes) → Lexes (Lex text) s ls → Takes rule (sequence f) end ts s ls vs k rest → Admits (after (at Expression f)) ts (here rest) → ⊥
      go ts vs k ls rest lx (is_node {cs = cs} d) e = w.no cs k ls rest lx d e.1

  -- no comma stands behind the first operand
  pub none_together : {s s' : ℕ} {l : Label} {cs : Slots} {pass : Lexemes → Lexemes} → Stretch text (after (at Assignment f)) (such (at Assignment f) always) s nothing s' (tree l cs) pass → ((y : Lexeme) → Lex text s' y → IsTrue (seen (is Comma) y) → ⊥) → Nothing text f (operands f) s
  none_together {s} y n = record { no = λ ts k ls rest lx d e. go ts k ls rest lx d e }
    where
      go : (ts : Slots) (k : ℕ) (ls rest : Lexemes) → Lexes (Lex text) s ls → Takes rule (operands f) end ts s ls end k rest → Ending f ts (here rest) → ⊥
      go ts k ls rest lx (is_seq {us = us} {j = j} {mid = mid} d (is_seq (is_lexeme q) c)) e = let x = item_only y ts us j ls mid lx d (at_comma f ts (here mid) q) in n (here mid) (here_at (Lex text) mid x.2) q

  -- one stands there
  pub none_alone : {s s' : ℕ} {l : Label} {cs : Slots} {pass : Lexemes → Lexemes} → Stretch text (after (at Assignment f)) (such (at Assignment f) always) s nothing s' (tree l cs) pass → ((y : Lexeme) → Lex text s' y → IsTrue (seen (is Comma) y)) → Fails rule (Lex text) (after (at Expression f)) end (item f) s
  none_alone {s} y c = record { no = λ ts vs k ls rest lx d e. go ts vs k ls rest lx d e }
    where
      go : (ts vs : Slots) (k : ℕ) (ls rest : Lexemes) → Lexes (Lex text) s ls → Takes rule (item f) end ts s ls vs k rest → Admits (after (at Expression f)) ts (here rest) → ⊥
      go ts vs k ls rest lx (is_such {l = m} {cs = ds} d t) e =
          let x = item_only y ts vs k ls rest lx (is_such d t) (last_admits f m ds vs (here rest) e.1) in
          no_comma_behind f.in_ (row_of m ds) (here rest) (c (here rest) (here_at (Lex text) rest x.2)) e.1

-- ---- what stands at a state

pub comma_plain : {text : List ℕ} {f : Flags} {p : Parser} → At text f p → p.token.kind ≡ Comma → p.token.escaped ≡ false
unfolding words
comma_plain a k = plain_sign Comma a k refl refl refl

-- an operand alone
pub alone_result : {text : List ℕ} {f : Flags} {p q : Parser} {id : NodeId} → Numbered text f (at Assignment f) p q id → (q.token.kind ≡ Comma → ⊥) → Numbered text f (at Expression f) p q id
unfolding covers lift rule rule_of
alone_result {text} {f} {p} {q} x n =
    let r = row_of x.answer.label x.answer.slots in
    let others_fail : Fails rule (Lex text) (after (at Expression f)) end (sequence f) p.prev_token_end = either_way x.answer.verdict (λ y. no_sequence (none_together y (no_comma_here x.answer.at n))) (λ z. no_sequence (no_first z)) in
    lift (at Expression f) (at Assignment f) refl refl text p.prev_token_end (left others_fail) refl x x.answer.row
    (λ y l. narrows 2 1 (Comma ∷ []) f.in_ r (narrow_assignment 2 1 (Comma ∷ []) (narrow_operand 2 1 (Comma ∷ []) refl refl refl refl) refl refl refl refl f.in_ r x.answer.row) y l.1 (no_kind y (plain_lex l)) (x.answer.stops y l))
  where
    no_kind : (y : Lexeme) → Lex text q.prev_token_end y → one_of_kinds (Comma ∷ []) y.kind ≡ false
    no_kind y l = other_kind Comma y.kind (λ e. no_comma_here x.answer.at n y l (and_from _ _ (subst (λ (v : Kind). same_kind Comma v ≡ true) (sym e) refl) (ap not (read_plain y l e refl))))

pub alone_fails : {text : List ℕ} {f : Flags} (s : ℕ) → Underived text (at Assignment f) s → Underived text (at Expression f) s
unfolding covers rule rule_of
alone_fails {f = f} s n = fails_by {s = at Expression f} (fails_alt (weaken_fails_on n (same_read (at Expression f) (at Assignment f) refl refl)) (no_sequence (no_first n)))

-- ---- the loop

-- whatever the operands from here on are, these stand before them
pub record Continues (text : List ℕ) (f : Flags) (p q : Parser) (prefix : Slots) (pass : Lexemes → Lexemes) : Type 0 where
  pub goes : (e : ℕ) (us : Slots) (through : Lexemes → Lexemes) → Whole text f (others f) q.prev_token_end e us through → q.prev_token_end ≤ e → Whole text f (operands f) p.prev_token_end e (append prefix us) (λ ls. pass (through ls))
  pub fails : Nothing text f (others f) q.prev_token_end → Nothing text f (operands f) p.prev_token_end

-- Operands were read, and a comma stands here.
pub record Listing (text : List ℕ) (f : Flags) (p q : Parser) (ids : List (Option NodeId)) : Type 0 where
  pub alone : Fails rule (Lex text) (after (at Expression f)) end (item f) p.prev_token_end
  pub at : At text f q
  pub same : Same p q
  pub comma : q.token.kind ≡ Comma
  pub further : p.token.span.start < q.prev_token_end
  pub prefix : Slots
  pub pass : Lexemes → Lexemes
  pub walked : Walked text (spot p) (spot q) pass
  pub verdict : Verdict (f.wide ≡ true) p.errors q.errors (Continues text f p q prefix pass) (Nothing text f (operands f) p.prev_token_end)
  pub holds : HoldsAll q.nodes (length p.nodes) (length q.nodes) ids prefix
  pub keeps : Keeps p.nodes q.nodes

pub listing_init : {text : List ℕ} {f : Flags} {p q : Parser} {id : NodeId} → Numbered text f (at Assignment f) p q id → q.token.kind ≡ Comma → Listing text f p q (Some id ∷ [])
unfolding covers
listing_init {text} {f} {p} {q} {id} x k = record {
  at = x.answer.at;
  same = x.answer.same;
  comma = k;
  further = x.answer.further;
  prefix = tree x.answer.label x.answer.slots end;
  pass = x.answer.pass;
  walked = x.answer.walked;
  alone = either_way x.answer.verdict (λ y. none_alone y (commas_here x.answer.at k)) (λ n. weaken_fails_on n (same_read (at Expression f) (at Assignment f) refl refl));
  verdict = verdict_of x.answer.verdict (λ y. record { goes = λ e us through w i. first_item y w i; fails = λ w. none_first y w }) (λ n. no_first n);
  holds = HoldsAll-one id x.holds;
  keeps = x.keeps;
}

pub listing_room : {text : List ℕ} {f : Flags} {p q : Parser} {ids : List (Option NodeId)} → At text f p → Listing text f p q ids → room q ≤ room p
listing_room a s = later_room (let i = s.further in let j = a.behind in omega arith) s.same

module _ {text : List ℕ} {f : Flags} {p q r : Parser} {ids : List (Option NodeId)} (s : Listing text f p q ids) (m : Moved text f q r) where
  pub operand_fails : Underived text (at Assignment f) r.prev_token_end → Underived text (at Expression f) p.prev_token_end
  unfolding rule rule_of
  operand_fails n = fails_by {s = at Expression f} (fails_alt s.alone (no_sequence (either_way s.verdict (λ u. u.fails (none_passed s.at s.comma (comma_plain s.at s.comma) m (no_item n))) (λ z. z))))

  pub listing_same : Same p r
  listing_same = same_both s.same m.same

  pub listing_grown : {ds : List Diagnostic} → Grown r.errors ds → Grown p.errors ds
  listing_grown g = grown_behind s.verdict (grown_then m.kept g)

  module _ {v : Parser} {id : NodeId} (first : At text f p) (x : Numbered text f (at Assignment f) r v id) where
    forward : q.prev_token_end < v.prev_token_end
    forward = let a = s.at.behind in let b = m.further in let c = m.at.behind in let d = x.answer.further in omega arith

    held : HoldsAll v.nodes (length p.nodes) (length v.nodes) (ids ++ Some id ∷ []) (append s.prefix (tree x.answer.label x.answer.slots end))
    held = HoldsAll-next id (subst (λ (ns : List Node). Keeps ns v.nodes) m.nodes x.keeps) s.holds (subst (λ (ns : List Node). Holds v.nodes (length ns) (length v.nodes) id.0 x.answer.label x.answer.slots) m.nodes x.holds)

    kept : Keeps p.nodes v.nodes
    kept = Keeps-trans s.keeps (subst (λ (ns : List Node). Keeps ns v.nodes) m.nodes x.keeps)

    pub start_before : p.token.span.start ≤ v.prev_token_end
    start_before = let a = s.further in let b = forward in omega arith

    pub less_left : room v < room q
    less_left = let a = forward in let b = s.at.at.between.0 in let c = x.answer.at.text_is in let e = s.at.text_is in omega (arith, ap length c, ap length e)

    step_goes : v.token.kind ≡ Comma → Continues text f p q s.prefix s.pass → Stretch text (after (at Assignment f)) (such (at Assignment f) always) r.prev_token_end nothing v.prev_token_end (tree x.answer.label x.answer.slots) x.answer.pass → Continues text f p v (append s.prefix (tree x.answer.label x.answer.slots end)) (λ ls. s.pass (next m.lexeme (x.answer.pass ls)))
    step_goes k u y = record {
      goes = λ e us through w i. subst (λ (vs : Slots). Whole text f (operands f) p.prev_token_end e vs (λ ls. s.pass (next m.lexeme (x.answer.pass (through ls))))) (sym (append_assoc s.prefix (tree x.answer.label x.answer.slots end) us))
          (u.goes e (tree x.answer.label x.answer.slots us) _ (comma_passed s.at s.comma (comma_plain s.at s.comma) m (next_item y (commas_here x.answer.at k) w i) (let a = x.answer.further in let b = m.at.behind in omega arith)) (let a = forward in omega arith));
      fails = λ w. u.fails (none_passed s.at s.comma (comma_plain s.at s.comma) m (none_next y (commas_here x.answer.at k) w));
    }

    pub listing_step : v.token.kind ≡ Comma → Listing text f p v (ids ++ Some id ∷ [])
    listing_step k = record {
      at = x.answer.at;
      same = same_both s.same (same_both m.same x.answer.same);
      comma = k;
      further = let a = s.further in let b = forward in omega arith;
      prefix = append s.prefix (tree x.answer.label x.answer.slots end);
      pass = λ ls. s.pass (next m.lexeme (x.answer.pass ls));
      walked = walked_both s.walked (walked_both (walked_one m) x.answer.walked);
      alone = s.alone;
      verdict = and_then s.verdict (behind_none m.kept x.answer.verdict) (λ u y. step_goes k u y) (λ z. z) (λ u n. u.fails (none_passed s.at s.comma (comma_plain s.at s.comma) m (no_item n)));
      holds = held;
      keeps = kept;
    }

    whole : (v.token.kind ≡ Comma → ⊥) → Continues text f p q s.prefix s.pass → Stretch text (after (at Assignment f)) (such (at Assignment f) always) r.prev_token_end nothing v.prev_token_end (tree x.answer.label x.answer.slots) x.answer.pass → Stretch text (after (at Expression f)) (rule (at Expression f)) p.prev_token_end nothing v.prev_token_end (tree (label_here sequence_expression no_op p v) (append s.prefix (tree x.answer.label x.answer.slots end))) (λ ls. s.pass (next m.lexeme (x.answer.pass ls)))
    unfolding rule rule_of
    whole n u y =
        let w = u.goes v.prev_token_end (tree x.answer.label x.answer.slots end) _ (comma_passed s.at s.comma (comma_plain s.at s.comma) m (last_item y (no_comma_here x.answer.at n)) (let a = x.answer.further in let b = m.at.behind in omega arith)) (let a = forward in omega arith) in
        let g = sequence_goes v first w in
        record { reach = max 0 g.reach; near = let i = g.near in omega arith; goes = right s.alone ▹ g.goes }

    path : (v.token.kind ≡ Comma → ⊥) → Path text f (after (at Expression f)) (rule (at Expression f)) p nothing v (tree (label_here sequence_expression no_op p v) (append s.prefix (tree x.answer.label x.answer.slots end)))
    unfolding rule rule_of
    path n = record {
      at = x.answer.at;
      further = let a = s.further in let b = forward in omega arith;
      pass = λ ls. s.pass (next m.lexeme (x.answer.pass ls));
      walked = walked_both s.walked (walked_both (walked_one m) x.answer.walked);
      verdict = and_then s.verdict (behind_none m.kept x.answer.verdict) (λ u y. whole n u y) (λ z. fails_alt s.alone (no_sequence z)) (λ u z. fails_alt s.alone (no_sequence (u.fails (none_passed s.at s.comma (comma_plain s.at s.comma) m (no_item z)))));
    }

    row_last : row_of (label_here sequence_expression no_op p v) (append s.prefix (tree x.answer.label x.answer.slots end)) ≡ row_of x.answer.label x.answer.slots
    row_last = edge_append after_expression after_word s.prefix (tree x.answer.label x.answer.slots end)

    -- all operands were read, and the node made
    pub listing_end : {w : Parser} {made : NodeId} {span : Span} → (v.token.kind ≡ Comma → ⊥) → span.start ≡ p.token.span.start → span.end ≡ v.prev_token_end → MadeHere (plain_label node.SequenceExpression op.None span) (ids ++ Some id ∷ []) v w made → Numbered text f (at Expression f) p w made
    unfolding covers
    listing_end {w} {made} {span} n b c d =
        let l : plain_label node.SequenceExpression op.None span ≡ label_here sequence_expression no_op p v = rw (b, c) refl in
        let z : MadeHere (label_here sequence_expression no_op p v) (ids ++ Some id ∷ []) v w made = subst (λ (k : Label). MadeHere k (ids ++ Some id ∷ []) v w made) l d in
        by_path (path n) (same_both s.same (same_both m.same x.answer.same)) z.stays stops (subst (λ (r : Row). of_assignment r ≡ true) (sym row_last) x.answer.row) (node_held z held) (Keeps-trans kept (Keeps-made z.made)) refl (one_lies z)
      where
        no_kind : (y : Lexeme) → Lex text v.prev_token_end y → one_of_kinds (Comma ∷ []) y.kind ≡ false
        no_kind y l = other_kind Comma y.kind (λ e. no_comma_here x.answer.at n y l (and_from _ _ (subst (λ (v : Kind). same_kind Comma v ≡ true) (sym e) refl) (ap not (read_plain y l e refl))))

        stops : (y : Lexeme) → Plain text v.prev_token_end y → IsTrue (seen (looser 1 f.in_ (row_of (label_here sequence_expression no_op p v) (append s.prefix (tree x.answer.label x.answer.slots end)))) y || seen beside y)
        stops y l = subst (λ (r : Row). IsTrue (seen (looser 1 f.in_ r) y || seen beside y)) (sym row_last)
            (narrows 2 1 (Comma ∷ []) f.in_ (row_of x.answer.label x.answer.slots) (narrow_assignment 2 1 (Comma ∷ []) (narrow_operand 2 1 (Comma ∷ []) refl refl refl refl) refl refl refl refl f.in_ (row_of x.answer.label x.answer.slots) x.answer.row) y l.1 (no_kind y (plain_lex l)) (x.answer.stops y l))
