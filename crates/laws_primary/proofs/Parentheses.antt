-- An Expression in parentheses (ECMA-262, 13.2.9).
use Rattle.std.proofs.Common.{ℕ, ◌≡◌, ◌<◌, arith, inl, max, true, false, List, [], ◌∷◌, length, Some, refl, sym, ap, subst, ◌∙◌}
use Rattle.std.specs.Prelude.{Result, Ok, Err}
use Rattle.js_base.specs.declared.kind.Kind.TheVariants.{RAngle, LParen, RParen}
use Rattle.js_base.specs.declared.diagnostic.DiagnosticKind.TheVariants.{ExpectClosing}
use Rattle.js_base.specs.declared.span.Span.{Span}
use Rattle.js_base.specs.Kinds.{same_kind, one_of_kinds}
use Rattle.js_base.specs.Texts.{words}
use Rattle.js_grammar.specs.Trees.{Label, Slots, end, tree, parenthesized_expression, no_op}
use Rattle.js_grammar.specs.Grammar.{Lexeme, Lexemes, last, here, is, such, marked, nothing, Takes, is_such, is_marked, is_nothing, ◌▸◌}
use Rattle.js_grammar.specs.Lexed.{Lexes}
use Rattle.js_grammar.specs.Parsing.{Test, plain, full, always, Admits, Goes, Reads, Fails, Way, still}
use Rattle.js_grammar.specs.Productions.{G, Flags, Symbol, at, tok, pife_flag, plus_in, with_pife, Expression, Primary}
use Rattle.js_grammar.specs.Table.{paren_expression, rule, rule_of}
use Rattle.js_grammar.specs.Follow.{after, row_of, surest}
use Rattle.js_grammar.specs.Insertion.{after_expression}
use Rattle.js_grammar.specs.RightEdges.{same_row}
use Rattle.js_grammar.proofs.Looks.{covers, covered, apart}
use Rattle.js_grammar.proofs.Calculus.{label_is, slots_are, ends, then_by, part_fails, by_plain, fails_node, inside_full, by_rule, weaken, weaken_fails, ◌▹◌, ◌▹✗◌}
use Rattle.js_grammar.proofs.FirstClaims.{firsts}
use Rattle.js_grammar.proofs.FirstRules.{by_first}
use Rattle.js_grammar.proofs.FollowLaws.{surely, fails_by}
use Rattle.laws_shared.specs.js_tree.declared.id.NodeId.{NodeId}
use Rattle.laws_shared.specs.js_tree.declared.kind.NodeKind.TheVariants as node
use Rattle.laws_shared.specs.js_tree.declared.op.Op.TheVariants as made
use Rattle.laws_shared.specs.js_tree.Nodes.{Node}
use Rattle.laws_shared.specs.js_tree.Holding.{Holds, Keeps}
use Rattle.laws_shared.proofs.js_tree.HoldingLemmas.{Holds-range, Keeps-trans, Keeps-made}
use Rattle.laws_shared.specs.js_cursor.Parsers.{Parser}
use Rattle.laws_shared.specs.js_cursor.Moves.{Expects, GivesUp, is_last}
use Rattle.laws_shared.specs.js_cursor.declared.stop.Stop.{Stop}
use Rattle.laws_shared.specs.js_cursor.declared.stop.Stop.TheVariants.{Fatal, NoMemory}
use Rattle.laws_shared.specs.Lexemes.{Lex}
use Rattle.laws_shared.specs.States.{At, NodesLie, Same}
use Rattle.laws_shared.specs.Moves.{Passes, unpassable}
use Rattle.laws_primary.specs.Marked.{is_function, Marks}
use Rattle.laws_shared.specs.Moves.{Moved, MadeHere, IsWholeHere, plain_label}
use Rattle.laws_shared.specs.Answers.{clean, unclean, wider, Stretch, Underived, Answer, Numbered, Outcome, Stops}
use Rattle.laws_shared.proofs.Signs.{plain_sign, other_kind}
use Rattle.laws_shared.proofs.Dead.{all_read}
use Rattle.laws_shared.proofs.Giving.{gives_up}
use Rattle.laws_shared.proofs.Here.{found, uncut}
use Rattle.laws_shared.proofs.MadeNodes.{LabelLies, from_start, one_held, one_lies_in}
use Rattle.laws_shared.proofs.Moving.{beside_nodes, moves, same_both, same_with, stops_so}
use Rattle.laws_primary.specs.DecoratorMembers.{ParenthesesOutcome}
use Rattle.laws_primary.specs.Members.{Taken}
use Rattle.laws_primary.proofs.Members.{numbered, retake}
use Rattle.laws_primary.proofs.Operands.{behind_primary}
use Rattle.laws_shared.proofs.Paths.{Path, ◌⟶◌, ◌⟶✗◌, at_kind, fails_at, token, last_token, noded, label_here, read_of}
use Rattle.laws_primary.proofs.Tame.{unmarked}
use Rattle.laws_shared.proofs.Verdicts.{verdict_of}
use Rattle.laws_shared.specs.Classes.{EndsParse}
use Rattle.laws_shared.proofs.Classes.{here_ends, gives_up_by}

-- what was taken by a path, with a node around it
taken_by : {text : List ℕ} {f : Flags} {X : Test} {g : G} {p q w : Parser} {l : Label} {cs : Slots} {id : NodeId} → Path text f X g p nothing q (tree l cs) → Same p q → w ≡ record q { nodes = w.nodes } → same_row after_expression (row_of l cs) ≡ true
    → Holds w.nodes (length p.nodes) (length w.nodes) id.0 l cs → Keeps p.nodes w.nodes → l.span ≡ record { from = p.token.span.start; to = q.prev_token_end } → (LabelLies q.text l → NodesLie q.text q.nodes → NodesLie q.text w.nodes) → Taken text f p w id (λ l cs pass s'. Stretch text X g p.prev_token_end nothing s' (tree l cs) pass) (Fails rule (Lex text) X end g p.prev_token_end)
taken_by {text} {f} {X} {g} {p} {q} {w} {l} {cs} {id} y b e r h k i m = go w.nodes e h k m
  where
    go : (ns : List Node) → w ≡ record q { nodes = ns } → Holds w.nodes (length p.nodes) (length w.nodes) id.0 l cs → Keeps p.nodes w.nodes → (LabelLies q.text l → NodesLie q.text q.nodes → NodesLie q.text w.nodes) → Taken text f p w id (λ l cs pass s'. Stretch text X g p.prev_token_end nothing s' (tree l cs) pass) (Fails rule (Lex text) X end g p.prev_token_end)
    go ns e h k m = subst (λ (z : Parser). Taken text f p z id (λ l cs pass s'. Stretch text X g p.prev_token_end nothing s' (tree l cs) pass) (Fails rule (Lex text) X end g p.prev_token_end)) (sym e) (record {
      at = beside_nodes ns y.at;
      same = same_with ns b (subst (λ (z : Parser). Keeps p.nodes z.nodes) e k) (λ c z. subst (λ (z : Parser). NodesLie q.text z.nodes) e (m (from_start l b y.at.at (let g = y.further in omega arith) i c) z));
      further = y.further;
      label = l;
      slots = cs;
      row = r;
      pass = y.pass;
      walked = y.walked;
      verdict = y.verdict;
      holds = subst (λ (z : Parser). Holds z.nodes (length p.nodes) (length z.nodes) id.0 l cs) e h;
      keeps = subst (λ (z : Parser). Keeps p.nodes z.nodes) e k;
    })

-- a symbol that was read, with a flag on its node
module _ {text : List ℕ} {n : Symbol} {X : Test} {h : Label → Label} (heads : (l : Label) (cs vs : Slots) (y : Lexeme) → Admits X (tree (h l) cs vs) y → Admits (after n) (tree l cs vs) y) where
  marked_read : {s s' : ℕ} {l : Label} {cs : Slots} {way : Way} → Reads rule (Lex text) (after n) end (such n always) s s' (tree l cs) way → Reads rule (Lex text) X end (marked h n) s s' (tree (h l) cs) way
  marked_read {s} {s'} {l} {cs} {way} r = record { passes = r.passes; sound = λ us vs k ls rest lx e d. there (r.sound us vs k ls rest lx e d); only = λ ts vs k ls rest lx d e. back ts vs k ls rest lx d e }
    where
      there : {us vs : Slots} {k : ℕ} {ls rest : Lexemes} → Takes rule (such n always) end (tree l cs us) s ls vs k rest → Takes rule (marked h n) end (tree (h l) cs us) s ls vs k rest
      there (is_such d c) = is_marked d

      back : (ts vs : Slots) (k : ℕ) (ls rest : Lexemes) → Lexes (Lex text) s ls → Takes rule (marked h n) end ts s ls vs k rest → Admits X ts (here rest) → (us : Slots) × (ls' : Lexemes) × (ts ≡ tree (h l) cs us) × Lexes (Lex text) s' ls' × Takes rule nothing end us s' ls' vs k rest × (ls ≡ way.pass ls')
      back ts vs k ls rest lx (is_marked {l = m} {cs = ds} d) e =
          let x = r.only (tree m ds vs) vs k ls rest lx (is_such d refl) (heads m ds vs (here rest) e) in
          (vs, x.1, (λ i. tree (h (label_is x.2 i)) (slots_are x.2 i) vs), x.3, subst (λ (v : Slots). Takes rule nothing end v s' x.1 vs k rest) (ends x.4).0 x.4, x.5)

  marked_fails : {s : ℕ} → Underived text n s → Fails rule (Lex text) X end (marked h n) s
  marked_fails {s} r = record { no = λ ts vs k ls rest lx d e. go ts vs k ls rest lx d e }
    where
      go : (ts vs : Slots) (k : ℕ) (ls rest : Lexemes) → Lexes (Lex text) s ls → Takes rule (marked h n) end ts s ls vs k rest → Admits X ts (here rest) → ⊥
      go ts vs k ls rest lx (is_marked {l = m} {cs = ds} d) e = r.no (tree m ds vs) vs k ls rest lx (is_such d refl) (heads m ds vs (here rest) e)

abbrev inner : Flags → G
inner f = marked with_pife (at Expression (plus_in f))

abbrev paren_slots : Flags → G
paren_slots f = tok LParen ▸ inner f ▸ tok RParen

closes_all : covers (is RParen) (surest Expression) ≡ true
unfolding covers
closes_all = refl

-- before `)` an expression ends
before_paren : (f : Flags) (l : Label) (cs vs : Slots) (y : Lexeme) → Admits (plain (is RParen)) (tree (with_pife l) cs vs) y → Admits (after (at Expression (plus_in f))) (tree l cs vs) y
before_paren f l cs vs y e = (surely (at Expression (plus_in f))).admits (tree l cs vs) y (covered (is RParen) (surest Expression) closes_all y.kind y.newline y.escaped e.0)

module _ {text : List ℕ} {f : Flags} {p q : Parser} (a : At text f p) (k : p.token.kind ≡ LParen) (m : Moved text f p q) where
  open_plain : p.token.escaped ≡ false
  unfolding words
  open_plain = plain_sign LParen a k refl refl refl

  opening : {X : Test} → Path text f X (paren_slots f) p (inner f ▸ tok RParen) q (λ us. us)
  opening = token LParen a k open_plain refl m

  -- what an Expression in parentheses begins with is not derived
  inside_fails : {X : Test} → Fails rule (Lex text) (plain full) end (inner f ▸ tok RParen) q.prev_token_end → Fails rule (Lex text) X end (paren_expression f) p.prev_token_end
  inside_fails n = fails_node inside_full (opening ⟶✗ n)

  pub expression_fails : {X : Test} → Underived text (at Expression (plus_in f)) q.prev_token_end → Fails rule (Lex text) X end (paren_expression f) p.prev_token_end
  unfolding covers
  expression_fails n = inside_fails (part_fails {X' = plain (is RParen)} (marked_fails (before_paren f) n) (by_first firsts (by_plain (is RParen)) refl))

  module _ {r : Parser} (x : Answer text f (at Expression (plus_in f)) q r) where
    -- no closing parenthesis stands here
    pub close_fails : {X : Test} → one_of_kinds (RParen ∷ []) r.token.kind ≡ false → Fails rule (Lex text) X end (paren_expression f) p.prev_token_end
    unfolding covers apart
    close_fails n = inside_fails (elim x.verdict [
      | clean e y ↦ then_by {X' = plain (is RParen)} (marked_read (before_paren f) y.goes) (by_first firsts (by_plain (is RParen)) refl) ▹✗ fails_at x.at {X = plain full} (tok RParen) (RParen ∷ []) refl n
      | unclean g z ↦ part_fails {X' = plain (is RParen)} (marked_fails (before_paren f) z) (by_first firsts (by_plain (is RParen)) refl)
      | wider w g y ↦ then_by {X' = plain (is RParen)} (marked_read (before_paren f) y.goes) (by_first firsts (by_plain (is RParen)) refl) ▹✗ fails_at x.at {X = plain full} (tok RParen) (RParen ∷ []) refl n
    ])

    module _ {u : Parser} (c : r.token.kind ≡ RParen) (d : Moved text f r u) where
      close_plain : r.token.escaped ≡ false
      unfolding words
      close_plain = plain_sign RParen x.at c refl refl refl

      -- a function in it has no mark yet
      no_mark : Stretch text (after (at Expression (plus_in f))) (such (at Expression (plus_in f)) always) q.prev_token_end nothing r.prev_token_end (tree x.label x.slots) x.pass → is_function x.label.kind ≡ true → x.label.flags < pife_flag
      no_mark y =
          let z = found x.at (uncut x.at (ap (same_kind RAngle) c)) (ap is_last c) in
          let l : Lexes (Lex text) r.prev_token_end (last z.0) = (z.1, read_of z.0 (sym z.2.kind ∙ c) refl) in
          unmarked (y.goes.sound end end r.prev_token_end (last z.0) (last z.0) l (inl y.near) is_nothing) refl (all_read text q.prev_token_end (x.pass (last z.0)) (y.goes.passes.lexed (last z.0) l))

      module _ (v : Label) (g : (is_function x.label.kind ≡ true → x.label.flags < pife_flag) → v ≡ with_pife x.label) where
        expression_read : Path text f (plain full) (inner f ▸ tok RParen) q (tok RParen) r (tree v x.slots)
        unfolding covers
        expression_read = record {
          at = x.at;
          further = x.further;
          pass = x.pass;
          walked = x.walked;
          verdict = verdict_of x.verdict (λ y. subst (λ (v : Label). Stretch text (plain full) (inner f ▸ tok RParen) q.prev_token_end (tok RParen) r.prev_token_end (tree v x.slots) x.pass) (sym (g (no_mark y))) (record { reach = y.reach; near = y.near; goes = then_by {X' = plain (is RParen)} (marked_read (before_paren f) y.goes) (by_first firsts (by_plain (is RParen)) refl) }))
              (λ z. part_fails {X' = plain (is RParen)} (marked_fails (before_paren f) z) (by_first firsts (by_plain (is RParen)) refl));
        }

        paren_path : {X : Test} → Path text f X (paren_expression f) p nothing u (tree (label_here parenthesized_expression no_op p u) (tree v x.slots end))
        paren_path = noded a (opening ⟶ (expression_read ⟶ last_token RParen x.at c close_plain refl d))

-- the parentheses and what stands in them
pub paren_answers : {text : List ℕ} {f : Flags} {p q r u v w : Parser} {inside id : NodeId} (s : Span) → At text f p → p.token.kind ≡ LParen → (m : Moved text f p q) → (x : Numbered text f (at Expression (plus_in f)) q r inside) → r.token.kind ≡ RParen → (d : Moved text f r u) → Marks inside u v → s.start ≡ p.token.span.start → s.end ≡ u.prev_token_end
    → MadeHere (plain_label node.ParenthesizedExpression made.None s) (Some inside ∷ []) v w id → ParenthesesOutcome text f p w (Ok id)
paren_answers {text} {f} {p} {q} {r} {u} {v} {w} {inside} {id} s a k m x c d g b e n =
    let l : plain_label node.ParenthesizedExpression made.None s ≡ label_here parenthesized_expression no_op p u = rw (b, e) refl in
    let z : MadeHere (label_here parenthesized_expression no_op p u) (Some inside ∷ []) v w id = subst (λ (x : Label). MadeHere x (Some inside ∷ []) v w id) l n in
    let h : Holds u.nodes (length p.nodes) (length u.nodes) inside.0 x.answer.label x.answer.slots = subst (λ (ns : List Node). Holds ns (length p.nodes) (length ns) inside.0 x.answer.label x.answer.slots) (sym d.nodes) (subst (λ (ns : List Node). Holds r.nodes (length ns) (length r.nodes) inside.0 x.answer.label x.answer.slots) m.nodes x.holds) in
    let t = g.1.holds (length p.nodes) (length u.nodes) x.answer.label x.answer.slots h in
    let hv : Holds v.nodes (length p.nodes) (length v.nodes) inside.0 t.label x.answer.slots = subst (λ (i : ℕ). Holds v.nodes (length p.nodes) i inside.0 t.label x.answer.slots) (sym g.1.long) t.holds in
    let ks : Keeps p.nodes u.nodes = subst (λ (ns : List Node). Keeps p.nodes ns) (sym d.nodes) (subst (λ (ns : List Node). Keeps ns r.nodes) m.nodes x.keeps) in
    let kv : Keeps p.nodes v.nodes = g.1.keeps p.nodes ks (Holds-range h).0 in
    taken_by (paren_path a k m x.answer c d t.label t.is) (same_both m.same (same_both x.answer.same d.same)) (z.stays ∙ ap (λ (y : Parser). record y { nodes = w.nodes }) g.0) refl (one_held p.nodes z hv) (Keeps-trans kv (Keeps-made z.made)) refl (λ s h. one_lies_in (ap (λ (y : Parser). y.text) g.0) z s (g.1.lies u.text h))

-- nothing else begins with a parenthesis
module _ {text : List ℕ} {f : Flags} {p : Parser} (a : At text f p) (k : p.token.kind ≡ LParen) where
  alone : Goes rule (Lex text) (after (at Primary f)) end (rule (at Primary f)) p.prev_token_end (paren_expression f) p.prev_token_end (λ us. us) (still 0)
  unfolding rule rule_of covers
  alone = at_kind a LParen k refl

  pub paren_primary : (q : Parser) (r : Result NodeId Stop) → ParenthesesOutcome text f p q r → Outcome text f (at Primary f) p q r
  paren_primary q (Ok id) x =
      let y = retake x (λ l cs pass c. whole c) (λ z. none z) in
      numbered y y.row (λ i h. behind_primary f.in_ y.label y.slots text q.prev_token_end i h)
    where
      whole : {s' : ℕ} {l : Label} {cs : Slots} {pass : Lexemes → Lexemes} → Stretch text (plain full) (paren_expression f) p.prev_token_end nothing s' (tree l cs) pass → Stretch text (after (at Primary f)) (such (at Primary f) always) p.prev_token_end nothing s' (tree l cs) pass
      whole c = record { reach = max 0 c.reach; near = let i = c.near in omega arith; goes = by_rule {X' = after (at Primary f)} (λ l cs vs y e. e) (alone ▹ weaken c.goes (λ ts y e. (refl, refl))) refl }

      none : Fails rule (Lex text) (plain full) end (paren_expression f) p.prev_token_end → Underived text (at Primary f) p.prev_token_end
      none z = fails_by (alone ▹✗ weaken_fails z (λ ts y e. (refl, refl)))
  paren_primary q (Err e) x = stops_so p q e (λ z. fails_by (alone ▹✗ weaken_fails z (λ ts y e. (refl, refl)))) x

-- what `expect_closing` answers
pub closes : (p q : Parser) (opening : Span) (r : Result (Unit {0}) Stop) → Expects (λ p. p.token.kind ≡ RParen) ExpectClosing (Some opening) p q r → Passes RParen p q r
closes p q opening (Ok x) e = (e.0, λ text f a. moves (uncut a (ap (same_kind RAngle) e.0), ap unpassable e.0) e.1 a)
closes p q opening (Err Fatal) e = (λ z k. e.0 refl k, gives_up_by p q Fatal e.1 (here_ends ExpectClosing refl))
closes p q opening (Err NoMemory) e = (λ z k. e.0 z k, tt)

pub unclosed : {text : List ℕ} {f : Flags} (p q : Parser) (e : Stop) {F : Type 0} → At text f p → (e ≡ Fatal → p.token.kind ≡ RParen → ⊥) × GivesUp EndsParse p q e → (one_of_kinds (RParen ∷ []) p.token.kind ≡ false → F) → Stops p q e F
unclosed p q Fatal a h g = gives_up EndsParse p q Fatal a h.1 (λ d u. u) (g (other_kind RParen p.token.kind (h.0 refl)))
unclosed p q NoMemory a h g = tt

pub paren_whole : {text : List ℕ} {f : Flags} {p : Parser} → At text f p → p.token.kind ≡ LParen → IsWholeHere p
paren_whole a k = (uncut a (ap (same_kind RAngle) k), ap unpassable k)
