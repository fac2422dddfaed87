-- The `switch` statement (ECMA-262, 14.12): a clause, clauses one behind the other, and the whole.
use Rattle.std.proofs.Common.{ℕ, ◌≡◌, ◌≤◌, ◌<◌, ◌⊎◌, inl, inr, max, List, [], ◌∷◌, ◌++◌, length, Option, Some, None, Bool, true, false, not, ◌&&◌, ◌||◌, IsTrue, IsCharBoundary, refl, sym, ap, subst, arith, ◌∙◌}
use Rattle.std.specs.Prelude.{◌↔◌, Ok, Err}
use Rattle.std.proofs.lemmas.Bool.{false≢true, and_parts, and_from}
use Rattle.js_base.specs.declared.diagnostic.Diagnostic.{Diagnostic}
use Rattle.js_base.specs.declared.diagnostic.DiagnosticKind.TheVariants.{ExpectToken}
use Rattle.js_base.specs.declared.kind.Kind.{Kind}
use Rattle.js_base.specs.declared.kind.Kind.TheVariants as kind
use Rattle.js_base.specs.declared.source_type.SourceType.{SourceType}
use Rattle.js_base.specs.declared.span.Span.{Span}
use Rattle.js_base.specs.declared.token.Token.{Token}
use Rattle.js_base.specs.Kinds.{same_kind, one_of_kinds}
use Rattle.js_base.specs.Texts.{words}
use Rattle.js_base.proofs.KindLemmas.{kind_of_same}
use Rattle.js_grammar.specs.FirstSets.{first}
use Rattle.js_grammar.proofs.First.{starts}
use Rattle.js_grammar.specs.Trees.{Label, Slots, end, hole, tree, no_op, switch_statement}
use Rattle.js_grammar.specs.Grammar.{nothing, never, ◌▸◌}
use Rattle.js_grammar.specs.Marks.{BeginsWith, Mark, of_kinds}
use Rattle.js_grammar.specs.Parsing.{Test, plain, full, still, Goes, Fails}
use Rattle.js_grammar.specs.Productions.{G, Flags, at, tok, Expression, Switch}
use Rattle.js_grammar.specs.Productions.{Case as ACase}
use Rattle.js_grammar.specs.Productions.{Statement as AStatement}
use Rattle.js_grammar.specs.Productions.{sym as symbol}
use Rattle.js_grammar.specs.Table.{rule, rule_of}
use Rattle.js_grammar.proofs.Lexemes.{first_or}
use Rattle.js_grammar.proofs.Looks.{covers, apart, not_both}
use Rattle.js_grammar.proofs.Calculus.{Between, ◌▹◌, ◌▹✗◌, by_plain, inside_plain, more_of, then_by, part_fails, fails_never, fails_node, fails_rule}
use Rattle.js_grammar.proofs.FirstClaims.{firsts}
use Rattle.js_grammar.proofs.FirstRules.{by_first, fails_here}
use Rattle.js_grammar.proofs.FollowLaws.{surely}
use Rattle.laws_shared.specs.js_lex.States.{goal_of}
use Rattle.laws_shared.specs.js_tree.declared.id.NodeId.{NodeId}
use Rattle.laws_shared.specs.js_tree.declared.kind.NodeKind.TheVariants as node
use Rattle.laws_shared.specs.js_tree.declared.op.Op.TheVariants as op
use Rattle.laws_shared.specs.js_tree.Nodes.{Node}
use Rattle.laws_shared.specs.js_tree.Holding.{Holds, HoldsAll, Keeps}
use Rattle.laws_shared.proofs.js_tree.HoldingLemmas.{Holds-kept, HoldsAll-append, HoldsAll-kept, HoldsAll-one, HoldsAll-one_hole, Keeps-made, Keeps-refl, Keeps-trans}
use Rattle.laws_shared.specs.js_cursor.Moves.{Expects, IsKind, KeepsDiagnostic, OnlyMemory, is_last}
use Rattle.laws_shared.specs.js_cursor.Parsers.{Parser}
use Rattle.laws_shared.specs.js_cursor.Places.{goal}
use Rattle.laws_shared.specs.js_cursor.declared.stop.Stop.{Stop}
use Rattle.laws_shared.specs.js_cursor.declared.stop.Stop.TheVariants.{Fatal, NoMemory}
use Rattle.laws_shared.proofs.Here.{escaped_here}
use Rattle.laws_shared.specs.Answers.{Answers, Grown, Numbered, Stops, Underived, unclean}
use Rattle.laws_shared.specs.Lexemes.{Lex, spot}
use Rattle.laws_shared.specs.Moves.{IsWholeHere, Moved, Moves, MadeHere, plain_label}
use Rattle.laws_shared.specs.Stands.{StandsHere}
use Rattle.laws_shared.specs.States.{At, NodesLie, Same, flags_of}
use Rattle.laws_shared.specs.Statements.{placed, after_statement, NoStatement, Statement}
use Rattle.parse_declarations.proofs.laws_patterns.BehindRests.{mark_later}
use Rattle.laws_shared.proofs.Escapes.{kind_escaped}
use Rattle.laws_shared.proofs.Giving.{fails_none, kept_one, fails_unescaped}
use Rattle.laws_shared.proofs.MadeNodes.{made_lies, node_held, one_lies}
use Rattle.laws_shared.proofs.Moving.{beside_nodes, same_both, same_itself, same_with, stops_behind, stops_so}
use Rattle.laws_shared.proofs.Paths.{Path, ◌⟶◌, ◌⟶✗◌, ◌⟼◌, at_kind, by_symbol_as, called, fails_at, label_here, last_token, noded, noded_by, token, walked_to}
use Rattle.laws_shared.proofs.Signs.{plain_sign}
use Rattle.laws_shared.proofs.Told.{lexeme_marked, told_at, told_same}
use Rattle.laws_shared.proofs.Verdicts.{either_way, grown_both, grown_on, grown_then, verdict_of}
use Rattle.laws_shared.proofs.Verdicts.{after as grown_behind}
use Rattle.laws_shared.proofs.Expected.{unexpected}
use Rattle.laws_statements.proofs.Blocks.{at_brace, none_told, then_some}
use Rattle.laws_statements.proofs.CompoundStatements.{no_token, parens_read, then_fails, then_part}
use Rattle.laws_statements.proofs.StatementLists.{none_left, none_taken, one_taken_more, taken_so, uncleanly, unrolled}
use Rattle.laws_statements.proofs.Statements.{by_statement, never_open, ◌⟝◌}
use Rattle.laws_statements.proofs.TryStatements.{past_hole, then_between}
use Rattle.laws_statements.proofs.WordStatements.{Alone, alone_fails, alone_path, word_here}
use Rattle.laws_statements.specs.CompoundStatements.{NoParens, ParensTaken, in_parens}
use Rattle.laws_statements.specs.StatementLists.{NoList, OneTaken, Taken, at_end, ends_at, ends_list, list_of, statements}
use Rattle.laws_statements.specs.SwitchStatements.{Begins, CaseBlockTaken, ClauseBegins, ClauseDue, MayNote, NextTaken, NoCaseBlock, Notes, OpenClause, SomeTaken, Stood, TakesTest, TestTaken, ToldSeveral, case_block, cases, clause_label, clause_of, clause_slots, clauses_of, left, second_default}
use Rattle.laws_statements.specs.declared.forms.StatementList.TheVariants as list
use Rattle.laws_statements.specs.declared.forms.Defaults.{Defaults}
use Rattle.laws_statements.specs.declared.forms.Defaults.TheVariants.{Missing, One, Several}

-- ---- the beginning of a clause

module _ {text : List ℕ} {f : Flags} {p q : Parser} (a : At text f p) (m : Moved text f p q) where
  default_test : Begins true p → TestTaken text f true p q None
  default_test h =
      let y : Path text f (plain (at_end list.Clause)) (clause_slots true f) p (tok kind.Colon ▸ statements list.Clause f) q hole = token kind.Default a h.0 h.1 refl m ⟝ past_hole in
      record {
        at = y.at;
        same = m.same;
        further = y.further;
        slots = hole;
        appends = λ us. refl;
        pass = y.pass;
        walked = y.walked;
        verdict = y.verdict;
        holds = subst (λ (ns : List Node). HoldsAll ns (length p.nodes) (length ns) (None ∷ []) (hole end)) (sym m.nodes) (HoldsAll-one_hole p.nodes (length p.nodes) (length p.nodes) (omega arith));
        keeps = subst (λ (ns : List Node). Keeps p.nodes ns) (sym m.nodes) (Keeps-refl p.nodes);
      }

  module _ (h : Begins false p) where
    case_passed : {X : Test} → Path text f X (clause_slots false f) p (symbol Expression f ▸ tok kind.Colon ▸ statements list.Clause f) q (λ us. us)
    case_passed = token kind.Case a h.0 h.1 refl m

    case_stops : (w : Parser) (e : Stop) → Stops q w e (Underived text (at Expression f) q.prev_token_end) → Stops p w e (NoList text list.Clause (clause_slots false f) p.prev_token_end)
    unfolding covers
    case_stops w e z = stops_behind w e m.same (λ g. grown_then m.kept g) (λ n. case_passed ⟶✗ part_fails n (by_first firsts (surely (at Expression f)) refl)) z

    case_test : {r : Parser} {id : NodeId} → Numbered text f (at Expression f) q r id → TestTaken text f false p r (Some id)
    unfolding covers
    case_test {r} {id} x =
        let y : Path text f (plain (at_end list.Clause)) (clause_slots false f) p (tok kind.Colon ▸ statements list.Clause f) r (tree x.answer.label x.answer.slots) = case_passed ⟶ called x.answer refl in
        record {
          at = y.at;
          same = same_both m.same x.answer.same;
          further = y.further;
          slots = tree x.answer.label x.answer.slots;
          appends = λ us. refl;
          pass = y.pass;
          walked = y.walked;
          verdict = y.verdict;
          holds = HoldsAll-one id (subst (λ (ns : List Node). Holds r.nodes (length ns) (length r.nodes) id.0 x.answer.label x.answer.slots) m.nodes x.holds);
          keeps = subst (λ (ns : List Node). Keeps ns r.nodes) m.nodes x.keeps;
        }

pub default_outcome : (p q : Parser) → p.token.kind ≡ kind.Default → Moves p q → TakesTest p q (Ok None)
default_outcome p q k m true h text f a = default_test a (m text f a) h
default_outcome p q k m false h text f a = let z : kind.Case ≡ kind.Default = sym h.0 ∙ k in absurd (cc)

pub case_outcome : (p q r : Parser) {id : NodeId} → (p.token.kind ≡ kind.Default → ⊥) → Moves p q → Answers (at Expression) q r (Ok id) → TakesTest p r (Ok (Some id))
case_outcome p q r n m x true h text f a = absurd (n h.0)
case_outcome p q r n m x false h text f a = let y = m text f a in case_test a y h (x text f y.at)

pub case_refused : (p q r : Parser) (e : Stop) → (p.token.kind ≡ kind.Default → ⊥) → Moves p q → Answers (at Expression) q r (Err e) → TakesTest p r (Err e)
case_refused p q r e n m x true h text f a = absurd (n h.0)
case_refused p q r e n m x false h text f a = let y = m text f a in case_stops a y h r e (x text f y.at)

pub test_memory : (p q : Parser) (e : Stop) → OnlyMemory e → TakesTest p q (Err e)
test_memory p q Fatal m = absurd m
test_memory p q NoMemory m = λ b h text f a. tt

-- it may be passed
pub word_whole : {text : List ℕ} {f : Flags} {p : Parser} → At text f p → ClauseBegins p → IsWholeHere p
word_whole a (inl h) = word_here kind.Default a h refl
word_whole a (inr h) = word_here kind.Case a h refl

-- one of the two
pub begins_one : (p : Parser) → ClauseBegins p → (b : Bool) × Begins b p
begins_one p (inl h) = (true, h)
begins_one p (inr h) = (false, h)

-- ---- a clause, behind which more statements may follow

-- its node was made
clause_made : {text : List ℕ} {f : Flags} {b : Bool} {p q : Parser} {h : Slots → Slots} {id : NodeId} (w : Parser) → Path text f (plain (at_end list.Clause)) (clause_slots b f) p (statements list.Clause f) q h → Same p q → w ≡ record q { nodes = w.nodes } → Holds w.nodes (length p.nodes) (length w.nodes) id.0 (clause_label p.token.span.start q.prev_token_end) (h end) → Keeps p.nodes w.nodes → (IsCharBoundary p.text p.token.span.start → NodesLie q.text q.nodes → NodesLie q.text w.nodes)
    → OpenClause text f b p w id
clause_made {text} {f} {b} {p} {q} {h} {id} w r s m o k i = go w.nodes m o k i
  where
    go : (ns : List Node) → w ≡ record q { nodes = ns } → Holds w.nodes (length p.nodes) (length w.nodes) id.0 (clause_label p.token.span.start q.prev_token_end) (h end) → Keeps p.nodes w.nodes → (IsCharBoundary p.text p.token.span.start → NodesLie q.text q.nodes → NodesLie q.text w.nodes) → OpenClause text f b p w id
    go ns m o k i = subst (λ (z : Parser). OpenClause text f b p z id) (sym m) (record {
      at = beside_nodes ns r.at;
      same = same_with ns s (subst (λ (z : Parser). Keeps p.nodes z.nodes) m k) (λ c z. subst (λ (v : Parser). NodesLie q.text v.nodes) m (i c z));
      further = r.further;
      slots = h;
      pass = r.pass;
      walked = r.walked;
      verdict = r.verdict;
      holds = subst (λ (z : Parser). Holds z.nodes (length p.nodes) (length z.nodes) id.0 (clause_label p.token.span.start q.prev_token_end) (h end)) m o;
      keeps = subst (λ (z : Parser). Keeps p.nodes z.nodes) m k;
    })

module _ {text : List ℕ} {f : Flags} {b : Bool} {p q : Parser} {test : Option NodeId} (x : TestTaken text f b p q test) where
  test_path : Path text f (plain (at_end list.Clause)) (clause_slots b f) p (tok kind.Colon ▸ statements list.Clause f) q x.slots
  test_path = record { at = x.at; further = x.further; pass = x.pass; walked = x.walked; verdict = x.verdict }

  pub colon_missing : (w : Parser) (e : Stop) → Expects (IsKind kind.Colon) ExpectToken None q w (Err e) → Stops p w e (NoList text list.Clause (clause_slots b f) p.prev_token_end)
  colon_missing w e z = stops_behind w e x.same (λ g. grown_behind x.verdict g) (λ n. n) (unexpected x.at kind.Colon w e z (λ n. test_path ⟶✗ no_token x.at kind.Colon refl n))

  module _ (k : IsKind kind.Colon q) {r : Parser} (m : Moved text f q r) where
    headed : Path text f (plain (at_end list.Clause)) (clause_slots b f) p (statements list.Clause f) r x.slots
    headed = test_path ⟶ token kind.Colon x.at k.0 k.1 refl m

    pub headed_same : Same p r
    headed_same = same_both x.same m.same

    pub list_stops : (w : Parser) (e : Stop) → Stops r w e (NoList text list.Clause (list_of list.Clause f) r.prev_token_end) → Stops p w e (NoList text list.Clause (clause_slots b f) p.prev_token_end)
    list_stops w e z = stops_behind w e headed_same (λ g. grown_behind headed.verdict g) (λ n. headed ⟶✗ n) z

    module _ {s : Parser} {ids : List (Option NodeId)} (y : Taken text f list.Clause (list_of list.Clause f) (statements list.Clause f) r s ids) where
      clause_path : Path text f (plain (at_end list.Clause)) (clause_slots b f) p (statements list.Clause f) s (λ us. x.slots (y.slots us))
      clause_path = then_some {g'' = statements list.Clause f} {i = y.slots} headed y.at y.further y.walked y.verdict

      pub clause_further : p.token.span.start < s.prev_token_end
      clause_further = clause_path.further

      pub clause_read : {w : Parser} {id : NodeId} {children : List (Option NodeId)} (v : Span) → children ≡ test ∷ ids → v.start ≡ p.token.span.start → v.end ≡ s.prev_token_end → MadeHere (plain_label node.SwitchCase op.None v) children s w id → OpenClause text f b p w id
      clause_read {w} {id} {children} v c g d n =
          let l : plain_label node.SwitchCase op.None v ≡ clause_label p.token.span.start s.prev_token_end = rw (g, d) refl in
          let made : MadeHere (clause_label p.token.span.start s.prev_token_end) (test ∷ ids) s w id = subst (λ (js : List (Option NodeId)). MadeHere (clause_label p.token.span.start s.prev_token_end) js s w id) c (subst (λ (u : Label). MadeHere u children s w id) l n) in
          let kq : Keeps q.nodes s.nodes = subst (λ (ns : List Node). Keeps ns s.nodes) m.nodes y.keeps in
          let later : HoldsAll s.nodes (length q.nodes) (length s.nodes) ids (y.slots end) = subst (λ (ns : List Node). HoldsAll s.nodes (length ns) (length s.nodes) ids (y.slots end)) m.nodes y.holds in
          let held : HoldsAll s.nodes (length p.nodes) (length s.nodes) (test ∷ ids) (x.slots (y.slots end)) = subst (λ (u : Slots). HoldsAll s.nodes (length p.nodes) (length s.nodes) (test ∷ ids) u) (sym (x.appends (y.slots end))) (HoldsAll-append (HoldsAll-kept kq x.holds) later) in
          let same_all : Same p s = same_both headed_same y.same in
          clause_made w clause_path same_all made.stays (node_held made held) (Keeps-trans (Keeps-trans x.keeps kq) (Keeps-made made.made)) (made_lies same_all y.at.at (let i = clause_path.further in omega arith) made refl)

-- ---- what is due behind it

due_at : (q : Parser) → q.token.escaped ≡ false → one_of_kinds (kind.Case ∷ kind.Default ∷ kind.RCurly ∷ []) q.token.kind ≡ true → ClauseDue q
due_at q e h = go q.token.kind h refl
  where
    go : (k : Kind) → one_of_kinds (kind.Case ∷ kind.Default ∷ kind.RCurly ∷ []) k ≡ true → q.token.kind ≡ k → ClauseDue q
    go k h = first_or (λ (v : Kind). q.token.kind ≡ v → ClauseDue q) kind.Case k _ _ refl h (λ i. inr (inl (i, e))) (λ h. first_or (λ (v : Kind). q.token.kind ≡ v → ClauseDue q) kind.Default k _ _ refl h (λ i. inl (i, e)) (λ h. first_or (λ (v : Kind). q.token.kind ≡ v → ClauseDue q) kind.RCurly k _ _ refl h (λ i. inr (inr (i, e))) (λ h. absurd (false≢true h))))

-- as the code asks
pub due_here : (q : Parser) → (ends_at list.Clause q.token.kind && not q.token.escaped) ≡ true → ClauseDue q
due_here q h = go q.token.escaped refl
  where
    go : (c : Bool) → q.token.escaped ≡ c → ClauseDue q
    go true e = absurd (false≢true (sym (ap not e) ∙ (and_parts (ends_at list.Clause q.token.kind) (not q.token.escaped) h).1))
    go false e = due_at q e (and_parts (ends_at list.Clause q.token.kind) (not q.token.escaped) h).0

due_true : (q : Parser) → ClauseDue q → (ends_at list.Clause q.token.kind && not q.token.escaped) ≡ true
due_true q (inl h) = rw (h.0, h.1) refl
due_true q (inr (inl h)) = rw (h.0, h.1) refl
due_true q (inr (inr h)) = rw (h.0, h.1) refl

pub undue_here : (q : Parser) → (ends_at list.Clause q.token.kind && not q.token.escaped) ≡ false → ClauseDue q → ⊥
undue_here q h d = false≢true (sym h ∙ due_true q d)

-- where nothing is due, none of these stands without an escape
not_due : {text : List ℕ} {f : Flags} {q : Parser} {X : Test} {g : G} → At text f q → (ClauseDue q → ⊥) → (q.token.escaped ≡ true → Fails rule (Lex text) X end g q.prev_token_end) → (one_of_kinds (kind.Case ∷ kind.Default ∷ kind.RCurly ∷ []) q.token.kind ≡ false → Fails rule (Lex text) X end g q.prev_token_end) → Fails rule (Lex text) X end g q.prev_token_end
not_due {text} {f} {q} {X} {g} a n u h = by q.token.escaped refl
  where
    kinds : q.token.escaped ≡ false → (c : Bool) → one_of_kinds (kind.Case ∷ kind.Default ∷ kind.RCurly ∷ []) q.token.kind ≡ c → Fails rule (Lex text) X end g q.prev_token_end
    kinds e true k = absurd (n (due_at q e k))
    kinds e false k = h k

    by : (e : Bool) → q.token.escaped ≡ e → Fails rule (Lex text) X end g q.prev_token_end
    by true e = u e
    by false e = kinds e (one_of_kinds (kind.Case ∷ kind.Default ∷ kind.RCurly ∷ []) q.token.kind) refl

module _ {text : List ℕ} {f : Flags} {q : Parser} (a : At text f q) where
  no_clauses_here : (ClauseDue q → ⊥) → NoList text list.Block (clauses_of f) q.prev_token_end
  unfolding rule rule_of covers apart
  no_clauses_here n = not_due a n (λ e. fails_unescaped {X = plain (at_end list.Block)} (clauses_of f) a refl e) (λ k. fails_at a {X = plain (at_end list.Block)} (clauses_of f) (kind.Case ∷ kind.Default ∷ kind.RCurly ∷ []) refl k)

  open_at_eof : q.token.kind ≡ kind.Eof → NoList text list.Clause (statements list.Clause f) q.prev_token_end
  unfolding rule rule_of covers
  open_at_eof e = more_of ▹✗ (at_kind a kind.Eof e refl ▹✗ fails_never)

  -- the list is open
  list_open : ends_list list.Clause q.token.kind ≡ true → (ClauseDue q → ⊥) → NoList text list.Clause (statements list.Clause f) q.prev_token_end
  unfolding apart
  list_open e n = not_due a n (λ i. fails_here firsts (λ y l h. not_both (starts first (statements list.Clause f) (at_end list.Clause)) (λ k w e. ends_list list.Clause k && e) refl y.kind y.newline y.escaped h (and_from _ _ (ap (ends_list list.Clause) (kind_escaped a i y l) ∙ e) (escaped_here a y l ∙ i)))) (λ k. second (same_kind kind.Eof q.token.kind) refl (subst (λ (c : Bool). (c || is_last q.token.kind) ≡ true) k e))
    where
      third : (c : Bool) → same_kind kind.Undetermined q.token.kind ≡ c → c ≡ true → NoList text list.Clause (statements list.Clause f) q.prev_token_end
      third true k i = fails_none (none_told a (sym (kind_of_same kind.Undetermined q.token.kind k)))
      third false k i = absurd (false≢true i)

      second : (c : Bool) → same_kind kind.Eof q.token.kind ≡ c → (c || same_kind kind.Undetermined q.token.kind) ≡ true → NoList text list.Clause (statements list.Clause f) q.prev_token_end
      second true k i = open_at_eof (sym (kind_of_same kind.Eof q.token.kind k))
      second false k i = third (same_kind kind.Undetermined q.token.kind) refl i

  -- or it ends
  list_shut : ClauseDue q → Goes rule (Lex text) (plain (at_end list.Clause)) end (statements list.Clause f) q.prev_token_end nothing q.prev_token_end (λ us. us) (still 0)
  unfolding rule rule_of covers
  list_shut (inl h) = more_of ▹ at_kind a kind.Default h.0 refl
  list_shut (inr (inl h)) = more_of ▹ at_kind a kind.Case h.0 refl
  list_shut (inr (inr h)) = more_of ▹ at_brace a h.0

clause_fails : {text : List ℕ} (f : Flags) {s : ℕ} (b : Bool) → NoList text list.Clause (clause_slots b f) s → NoList text list.Clause (clause_of b f) s
unfolding rule rule_of covers
clause_fails f true n = fails_node (inside_plain {F' = at_end list.Clause} refl) n
clause_fails f false n = fails_rule {X' = plain (at_end list.Clause)} (λ l cs vs y d. (d.0, refl)) (fails_node (inside_plain {F' = at_end list.Clause} refl) n)

module _ {text : List ℕ} {f : Flags} {b : Bool} {p q : Parser} {id : NodeId} (a : At text f p) (c : OpenClause text f b p q id) where
  open_fails : ends_list list.Clause q.token.kind ≡ true → (ClauseDue q → ⊥) → NoList text list.Clause (clause_of b f) p.prev_token_end
  open_fails e n = clause_fails f b (either_way c.verdict (λ y. y.goes ▹✗ list_open c.at e n) (λ n. n))

  shut_path : ClauseDue q → Path text f (plain (at_end list.Clause)) (clause_slots b f) p nothing q c.slots
  shut_path d = record { at = c.at; further = c.further; pass = c.pass; walked = c.walked; verdict = verdict_of c.verdict (λ y. record { reach = max y.reach 0; near = let i = y.near in omega arith; goes = y.goes ▹ list_shut c.at d }) (λ n. n) }

whole_clause : {text : List ℕ} {f : Flags} {p q : Parser} {h : Slots → Slots} (b : Bool) → At text f p → Path text f (plain (at_end list.Clause)) (clause_slots b f) p nothing q h → Path text f (plain (at_end list.Clause)) (clause_of b f) p nothing q (tree (clause_label p.token.span.start q.prev_token_end) (h end))
unfolding rule rule_of covers
whole_clause true a y = noded_by a (inside_plain {F' = at_end list.Clause} refl) y
whole_clause false a y = by_symbol_as {X' = plain (at_end list.Clause)} (λ l cs vs y d. (d.0, refl)) (noded_by a (inside_plain {F' = at_end list.Clause} refl) y)

-- ---- a clause behind others

to_clauses : (f : Flags) (s : ℕ) → Between rule (plain (at_end list.Block)) (plain (at_end list.Clause)) end (symbol ACase f) (clauses_of f) s
unfolding covers
to_clauses f s = by_first firsts (by_plain (at_end list.Clause)) refl

to_cases : (f : Flags) (s : ℕ) (b : Bool) → Between rule (plain (at_end list.Block)) (plain (at_end list.Clause)) end (clause_of b f) (cases f) s
unfolding covers
to_cases f s true = by_first firsts (by_plain (at_end list.Clause)) refl
to_cases f s false = by_first firsts (by_plain (at_end list.Clause)) refl

-- where nothing is derived a stretch goes on with nothing
never_on : {text : List ℕ} {f : Flags} {X X' : Test} {g : G} {p q : Parser} {h i : Slots → Slots} → Path text f X g p nothing q h → Path text f X' never p never q i
never_on {text} {f} {X} {X'} {g} {p} {q} {h} {i} y = record {
  at = y.at;
  further = y.further;
  pass = y.pass;
  walked = y.walked;
  verdict = verdict_of y.verdict (λ u. record { reach = u.reach; near = u.near; goes = record { passes = u.goes.passes; sound = λ us vs k ls rest l r d. elim d [ ]; only = λ ts vs k ls rest l d e. elim d [ ] } }) (λ n. fails_never);
}

module _ {text : List ℕ} {f : Flags} {p : Parser} (a : At text f p) where
  case_first : Begins false p → Goes rule (Lex text) (plain (at_end list.Block)) end (clauses_of f) p.prev_token_end (symbol ACase f ▸ clauses_of f) p.prev_token_end (λ us. us) (still 0)
  unfolding covers
  case_first h = unrolled ▹ at_kind a kind.Case h.0 refl

  default_first : Begins true p → Goes rule (Lex text) (plain (at_end list.Block)) end (clauses_of f) p.prev_token_end (clause_of true f ▸ cases f) p.prev_token_end (λ us. us) (still 0)
  unfolding covers
  default_first h = unrolled ▹ at_kind a kind.Default h.0 refl

  case_again : Begins false p → Goes rule (Lex text) (plain (at_end list.Block)) end (cases f) p.prev_token_end (symbol ACase f ▸ cases f) p.prev_token_end (λ us. us) (still 0)
  unfolding covers
  case_again h = more_of ▹ at_kind a kind.Case h.0 refl

  -- a second one is not derived
  default_again : Begins true p → NoList text list.Block (cases f) p.prev_token_end
  unfolding covers
  default_again h = more_of ▹✗ (at_kind a kind.Default h.0 refl ▹✗ fails_never)

  -- what is left before a clause, and no clause
  next_fails : (d : Defaults) (b : Bool) → Begins b p → NoList text list.Clause (clause_of b f) p.prev_token_end → NoList text list.Block (left d f) p.prev_token_end
  next_fails Missing true h n = default_first h ▹✗ part_fails n (to_cases f p.prev_token_end true)
  next_fails Missing false h n = case_first h ▹✗ part_fails n (to_clauses f p.prev_token_end)
  next_fails (One s) true h n = default_again h
  next_fails (One s) false h n = case_again h ▹✗ part_fails n (to_cases f p.prev_token_end false)
  next_fails Several b h n = fails_never

  module _ {q : Parser} {b : Bool} {id : NodeId} (c : OpenClause text f b p q id) where
    -- one more, of which nothing is told
    plain_taken : {g g' : G} → Path text f (plain (at_end list.Block)) g p g' q (tree (clause_label p.token.span.start q.prev_token_end) (c.slots end)) → OneTaken text f list.Block g g' p q id
    plain_taken y = record {
      at = c.at;
      same = c.same;
      further = c.further;
      label = clause_label p.token.span.start q.prev_token_end;
      slots = c.slots end;
      pass = y.pass;
      walked = y.walked;
      verdict = y.verdict;
      holds = c.holds;
      keeps = c.keeps;
    }

    -- a second DefaultClause, which was told
    second_taken : {g : G} {r : Parser} {s t : Span} → Begins true p → KeepsDiagnostic (second_default s t) q r → OneTaken text f list.Block (cases f) g p r id
    second_taken {g} {r} h k = record {
      at = told_at k c.at;
      same = same_both c.same (told_same k refl);
      further = let i = c.further in let e = ap (λ (z : Parser). z.prev_token_end) k.is in omega arith;
      label = clause_label p.token.span.start q.prev_token_end;
      slots = c.slots end;
      pass = c.pass;
      walked = walked_to (sym (ap (λ (z : Parser). spot z) k.is)) c.walked;
      verdict = unclean (grown_behind c.verdict (kept_one k)) (default_again h);
      holds = subst (λ (ns : List Node). Holds ns (length p.nodes) (length ns) id.0 (clause_label p.token.span.start q.prev_token_end) (c.slots end)) (sym (ap (λ (z : Parser). z.nodes) k.is)) c.holds;
      keeps = subst (λ (ns : List Node). Keeps p.nodes ns) (sym (ap (λ (z : Parser). z.nodes) k.is)) c.keeps;
    }

  next_read : (d : Defaults) (b : Bool) {q : Parser} {id : NodeId} → Begins b p → (c : OpenClause text f b p q id) → ClauseDue q → (s : Span) (r : Parser) (d' : Defaults) → Notes d b s q r d' → OneTaken text f list.Block (left d f) (left d' f) p r id
  next_read Missing true {q} {id} h c z s r d' (e, i) = subst (λ (v : Defaults). OneTaken text f list.Block (clauses_of f) (left v f) p r id) (sym i) (subst (λ (v : Parser). OneTaken text f list.Block (clauses_of f) (cases f) p v id) (sym e) (plain_taken c (default_first h ⟼ then_between (to_cases f p.prev_token_end true) (whole_clause true a (shut_path a c z)))))
  next_read Missing false {q} {id} h c z s r d' (e, i) = subst (λ (v : Defaults). OneTaken text f list.Block (clauses_of f) (left v f) p r id) (sym i) (subst (λ (v : Parser). OneTaken text f list.Block (clauses_of f) (clauses_of f) p v id) (sym e) (plain_taken c (case_first h ⟼ then_between (to_clauses f p.prev_token_end) (whole_clause false a (shut_path a c z)))))
  next_read (One t) true {q} {id} h c z s r d' (k, i) = subst (λ (v : Defaults). OneTaken text f list.Block (cases f) (left v f) p r id) (sym i) (second_taken c h k)
  next_read (One t) false {q} {id} h c z s r d' (e, i) = subst (λ (v : Defaults). OneTaken text f list.Block (cases f) (left v f) p r id) (sym i) (subst (λ (v : Parser). OneTaken text f list.Block (cases f) (cases f) p v id) (sym e) (plain_taken c (case_again h ⟼ then_between (to_cases f p.prev_token_end false) (whole_clause false a (shut_path a c z)))))
  next_read Several true {q} {id} h c z s r d' (e, i) = subst (λ (v : Defaults). OneTaken text f list.Block never (left v f) p r id) (sym i) (subst (λ (v : Parser). OneTaken text f list.Block never never p v id) (sym e) (plain_taken c (never_on (shut_path a c z))))
  next_read Several false {q} {id} h c z s r d' (e, i) = subst (λ (v : Defaults). OneTaken text f list.Block never (left v f) p r id) (sym i) (subst (λ (v : Parser). OneTaken text f list.Block never never p v id) (sym e) (plain_taken c (never_on (shut_path a c z))))

-- ---- what is known of DefaultClauses

-- the second one was told, or all stays
record Noted (text : List ℕ) (f : Flags) (q r : Parser) : Type 0 where
  at : At text f r
  same : Same q r
  token : r.token ≡ q.token
  grown : {ds : List Diagnostic} → Grown r.errors ds → Grown q.errors ds

noted : {text : List ℕ} {f : Flags} {q : Parser} → At text f q → (d : Defaults) (b : Bool) (s : Span) (r : Parser) (d' : Defaults) → Notes d b s q r d' → Noted text f q r
noted {text} {f} {q} a d b s r d' n = go d b n
  where
    stays : r ≡ q → Noted text f q r
    stays e = subst (λ (v : Parser). Noted text f q v) (sym e) (record { at = a; same = same_itself; token = refl; grown = λ g. g })

    go : (d : Defaults) (b : Bool) → Notes d b s q r d' → Noted text f q r
    go Missing true n = stays n.0
    go Missing false n = stays n.0
    go (One t) true n = record { at = told_at n.0 a; same = told_same n.0 refl; token = ap (λ (z : Parser). z.token) n.0.is; grown = λ g. grown_both (kept_one n.0) g }
    go (One t) false n = stays n.0
    go Several true n = stays n.0
    go Several false n = stays n.0

pub begins_as : (p : Parser) → ClauseBegins p → (b : Bool) → IsTrue b ↔ (p.token.kind ≡ kind.Default) → Begins b p
begins_as p (inl h) true i = h
begins_as p (inl h) false i = absurd (false≢true (i.1 h.0))
begins_as p (inr h) true i = let z : kind.Case ≡ kind.Default = sym h.0 ∙ i.0 refl in absurd (cc)
begins_as p (inr h) false i = h

due_on : (q r : Parser) → r.token ≡ q.token → ClauseDue q → ClauseDue r
due_on q r e (inl h) = inl (ap (λ (t : Token). t.kind) e ∙ h.0, ap (λ (t : Token). t.escaped) e ∙ h.1)
due_on q r e (inr (inl h)) = inr (inl (ap (λ (t : Token). t.kind) e ∙ h.0, ap (λ (t : Token). t.escaped) e ∙ h.1))
due_on q r e (inr (inr h)) = inr (inr (ap (λ (t : Token). t.kind) e ∙ h.0, ap (λ (t : Token). t.escaped) e ∙ h.1))

-- where one stood lasts
begins_later : {p q : Parser} {s : Span} → Same p q → BeginsWith (of_kinds (kind.Default ∷ [])) (goal p) p.text s → BeginsWith (of_kinds (kind.Default ∷ [])) (goal q) q.text s
begins_later {p} {q} {s} x a = subst (λ (v : List ℕ). BeginsWith (of_kinds (kind.Default ∷ [])) (goal q) v s) (sym x.follows.text) (subst (λ (v : SourceType). BeginsWith (of_kinds (kind.Default ∷ [])) (goal_of v) p.text s) (sym x.follows.source_type) a)

stood_later : {p q : Parser} (d : Defaults) → Same p q → p.prev_token_end ≤ q.prev_token_end → Stood d p → Stood d q
stood_later Missing x l a = tt
stood_later (One s) x l a = (begins_later x a.0, let b = a.1 in omega arith)
stood_later Several x l a = tt

module _ {text : List ℕ} {f : Flags} {p q : Parser} {b : Bool} {id : NodeId} (a : At text f p) (h : Begins b p) (c : OpenClause text f b p q id) where
  module _ (s : Span) (i : s.start ≡ p.token.span.start) (j : s.end ≡ q.prev_token_end) where
    -- it begins with its word
    begins_there : b ≡ true → BeginsWith (of_kinds (kind.Default ∷ [])) (goal p) p.text s
    begins_there e =
        let y = lexeme_marked a (subst (λ (v : Bool). Begins v p) e h) refl refl in
        record { lexeme = y.lexeme; of_text = y.of_text; begins = y.is.0 ∙ sym i; passes = y.passes }

    pub may_note : (d : Defaults) → Stood d p → MayNote d b s q
    may_note d o = go d b refl o
      where
        marked : (t : Span) → b ≡ true → Stood (One t) p → Mark (goal p) p.text (second_default t s)
        marked t e o =
            let z : IsCharBoundary p.text q.prev_token_end = subst (λ (v : List ℕ). IsCharBoundary v q.prev_token_end) c.same.follows.text c.at.at.between in
            record {
              ordered = let k = c.further in omega arith;
              within = let w = z.0 in omega arith;
              begins_between = subst (λ (v : ℕ). IsCharBoundary p.text v) (sym i) a.at.lies.starts_whole;
              ends_between = subst (λ (v : ℕ). IsCharBoundary p.text v) (sym j) z;
              stands = (begins_there e, t, refl, refl, o.0, let k = o.1 in let l = a.behind in omega arith);
            }

        go : (d : Defaults) (v : Bool) → b ≡ v → Stood d p → MayNote d v s q
        go Missing true e o = tt
        go Missing false e o = tt
        go (One t) true e o = mark_later c.same (marked t e o)
        go (One t) false e o = tt
        go Several true e o = tt
        go Several false e o = tt

    forward : p.prev_token_end ≤ q.prev_token_end
    forward = let k = c.further in let l = a.behind in omega arith

    stood_next : (d : Defaults) → Stood d p → (r : Parser) (d' : Defaults) → Notes d b s q r d' → Stood d' r
    stood_next d o r d' n = go d b refl o n
      where
        there : (e : Defaults) → r ≡ q → d' ≡ e → Stood e q → Stood d' r
        there e k i o = subst (λ (v : Defaults). Stood v r) (sym i) (subst (λ (v : Parser). Stood e v) (sym k) o)

        go : (d : Defaults) (v : Bool) → b ≡ v → Stood d p → Notes d v s q r d' → Stood d' r
        go Missing true e o n = there (One s) n.0 n.1 (begins_later c.same (begins_there e), omega (arith, j))
        go Missing false e o n = there Missing n.0 n.1 tt
        go (One t) true e o n = subst (λ (v : Defaults). Stood v r) (sym n.1) tt
        go (One t) false e o n = there (One t) n.0 n.1 (stood_later (One t) c.same forward o)
        go Several true e o n = there Several n.0 n.1 tt
        go Several false e o n = there Several n.0 n.1 tt

    next_told : (d : Defaults) (r : Parser) (d' : Defaults) → Notes d b s q r d' → d' ≡ Several → (d ≡ Several) ⊎ Grown p.errors r.errors
    next_told d r d' n = go d b n
      where
        go : (d : Defaults) (v : Bool) → Notes d v s q r d' → d' ≡ Several → (d ≡ Several) ⊎ Grown p.errors r.errors
        go Missing true n z = let w : One s ≡ Several = sym n.1 ∙ z in absurd (cc)
        go Missing false n z = let w : Missing ≡ Several = sym n.1 ∙ z in absurd (cc)
        go (One t) true n z = inr (grown_behind c.verdict (kept_one n.0))
        go (One t) false n z = let w : One t ≡ Several = sym n.1 ∙ z in absurd (cc)
        go Several true n z = inl refl
        go Several false n z = inl refl

-- ---- one clause more

module _ {text : List ℕ} {f : Flags} {p q : Parser} {b : Bool} {id : NodeId} (a : At text f p) (h : Begins b p) (c : OpenClause text f b p q id) (d : Defaults) (s : Span) (r : Parser) (d' : Defaults) (n : Notes d b s q r d') where
  pub noted_at : At text f r
  noted_at = (noted c.at d b s r d' n).at

  -- behind which none is due
  pub next_undue : (w : Parser) (e : Stop) → ends_list list.Clause q.token.kind ≡ true → Stops r w e (ClauseDue r → ⊥) → Stops p w e (NoList text list.Block (left d f) p.prev_token_end)
  next_undue w e l z =
      let y = noted c.at d b s r d' n in
      stops_behind w e (same_both c.same y.same) (λ g. grown_behind c.verdict (y.grown g)) (λ x. next_fails a d b h (open_fails a c l (λ v. x (due_on q r y.token v)))) z

pub next_refused : {text : List ℕ} {f : Flags} {p : Parser} (b : Bool) → At text f p → Begins b p → (d : Defaults) (w : Parser) (e : Stop) → Stops p w e (NoList text list.Clause (clause_slots b f) p.prev_token_end) → Stops p w e (NoList text list.Block (left d f) p.prev_token_end)
next_refused {f = f} {p} b a h d w e z = stops_so p w e (λ n. next_fails a d b h (clause_fails f b n)) z

-- all that is said of it
pub next_taken : {p q : Parser} (b : Bool) {id : NodeId} → At p.text (flags_of p) p → Begins b p → ((text : List ℕ) (f : Flags) → At text f p → OpenClause text f b p q id) → (d : Defaults) → Stood d p → (s : Span) → s.start ≡ p.token.span.start → s.end ≡ q.prev_token_end → (r : Parser) (d' : Defaults) → Notes d b s q r d' → (w : Parser) → ClauseDue r → w ≡ r → NextTaken d p w id d'
next_taken {p} {q} b {id} a h c d o s i j r d' n w z e = subst (λ (v : Parser). NextTaken d p v id d') (sym e) (
  z,
  stood_next a h (c _ _ a) s i j d o r d' n,
  next_told a h (c _ _ a) s i j d r d' n,
  λ text f a. let y = c text f a in next_read a d b h y (due_on r q (sym (noted y.at d b s r d' n).token) z) s r d' n,
)

-- ---- several clauses

module _ {text : List ℕ} {f : Flags} {p : Parser} where
  pub none_so_far : {ids : List (Option NodeId)} {q : Parser} → At text f p → ClauseDue p → q ≡ p → ids ≡ [] → SomeTaken text f Missing p q ids
  none_so_far {ids} a z e i = subst (λ (v : Parser). SomeTaken text f Missing p v ids) (sym e) (record { taken = none_taken a i; due = z; stood = tt; told = tt })

  module _ {q : Parser} {ids : List (Option NodeId)} {d : Defaults} (s : SomeTaken text f d p q ids) where
    pub some_more : {r : Parser} {js : List (Option NodeId)} {id : NodeId} {d' : Defaults} → NextTaken d q r id d' → js ≡ ids ++ Some id ∷ [] → SomeTaken text f d' p r js
    some_more {r} {d' = d'} (z, o, t, n) e = let y = n text f s.taken.at in record { taken = one_taken_more s.taken y e; due = z; stood = o; told = told_on d' t }
      where
        told_on : (e : Defaults) → ((e ≡ Several) → (d ≡ Several) ⊎ Grown q.errors r.errors) → ToldSeveral e p r
        told_on Missing t = tt
        told_on (One s') t = tt
        told_on Several t = go (t refl)
          where
            go : (d ≡ Several) ⊎ Grown q.errors r.errors → Grown p.errors r.errors
            go (inl i) = grown_on (subst (λ (v : Defaults). ToldSeveral v p q) i s.told) (n text f s.taken.at).verdict
            go (inr g) = grown_behind s.taken.verdict g

    pub some_refused : (w : Parser) (e : Stop) → Stops q w e (NoList text list.Block (left d f) q.prev_token_end) → Stops p w e (NoList text list.Block (clauses_of f) p.prev_token_end)
    some_refused w e z = stops_behind w e s.taken.same (λ g. grown_behind s.taken.verdict g) (λ n. none_left s.taken n) z

    pub begins_here : (q.token.kind ≡ kind.RCurly → ⊥) → ClauseBegins q
    begins_here n = go s.due
      where
        go : ClauseDue q → ClauseBegins q
        go (inl h) = inl h
        go (inr (inl h)) = inr h
        go (inr (inr h)) = absurd (n h.0)

  pub all_taken : {q : Parser} {ids : List (Option NodeId)} (d : Defaults) → SomeTaken text f d p q ids → q.token.kind ≡ kind.RCurly → Taken text f list.Block (clauses_of f) nothing p q ids
  unfolding covers
  all_taken Missing s k = taken_so s.taken (unrolled ▹ at_brace s.taken.at k)
  all_taken (One t) s k = taken_so s.taken (more_of ▹ at_brace s.taken.at k)
  all_taken Several s k = let y = s.taken in record {
    at = y.at;
    same = y.same;
    further = y.further;
    slots = y.slots;
    appends = y.appends;
    pass = y.pass;
    walked = y.walked;
    verdict = unclean s.told (uncleanly s.told (λ z. record { no = λ ts vs k ls rest l d a. elim (z.goes.only ts vs k ls rest l d a).4 [ ] }) y.verdict);
    holds = y.holds;
    keeps = y.keeps;
  }

-- none is due
pub undue_stops : {text : List ℕ} {f : Flags} (p w : Parser) (e : Stop) → At text f p → Stops p w e (ClauseDue p → ⊥) → Stops p w e (NoList text list.Block (clauses_of f) p.prev_token_end)
undue_stops p w e a z = stops_so p w e (λ n. no_clauses_here a n) z

-- ---- what is told where none is

-- ---- a CaseBlock

module _ {text : List ℕ} {f : Flags} {p q : Parser} (a : At text f p) (k : IsKind kind.LCurly p) (m : Moved text f p q) where
  block_opened : {X : Test} → Path text f X (case_block f) p (clauses_of f ▸ tok kind.RCurly) q (λ us. us)
  block_opened = token kind.LCurly a k.0 k.1 refl m

  before_closing : Between rule (plain full) (plain (at_end list.Block)) end (clauses_of f) (tok kind.RCurly) q.prev_token_end
  unfolding covers
  before_closing = by_first firsts (by_plain (at_end list.Block)) refl

  pub clauses_stop : (w : Parser) (e : Stop) → Stops q w e (NoList text list.Block (clauses_of f) q.prev_token_end) → Stops p w e (NoCaseBlock text f p.prev_token_end)
  clauses_stop w e z = stops_behind w e m.same (λ g. grown_then m.kept g) (λ n. block_opened ⟶✗ part_fails n before_closing) z

  module _ {r u : Parser} {ids : List (Option NodeId)} (y : Taken text f list.Block (clauses_of f) nothing q r ids) (c : r.token.kind ≡ kind.RCurly) (d : Moved text f r u) where
    block_path : Path text f (plain full) (case_block f) p nothing u y.slots
    unfolding words
    block_path = then_some {g'' = tok kind.RCurly} {i = y.slots} block_opened y.at y.further y.walked (verdict_of y.verdict
        (λ v. record { reach = v.reach; near = v.near; goes = then_by v.goes before_closing })
        (λ n. part_fails n before_closing))
        ⟶ last_token kind.RCurly y.at c (plain_sign kind.RCurly y.at c refl refl refl) refl d

    pub block_taken : CaseBlockTaken text f p u ids
    block_taken = let z = block_path in record {
      at = d.at;
      same = same_both m.same (same_both y.same d.same);
      further = z.further;
      slots = y.slots;
      pass = z.pass;
      walked = z.walked;
      verdict = z.verdict;
      holds = subst (λ (ns : List Node). HoldsAll ns (length p.nodes) (length ns) ids (y.slots end)) (sym d.nodes) (subst (λ (ns : List Node). HoldsAll r.nodes (length ns) (length r.nodes) ids (y.slots end)) m.nodes y.holds);
      keeps = subst (λ (ns : List Node). Keeps p.nodes ns) (sym d.nodes) (subst (λ (ns : List Node). Keeps ns r.nodes) m.nodes y.keeps);
    }

pub no_block_here : {text : List ℕ} {f : Flags} {p : Parser} → At text f p → StandsHere p kind.LCurly false → NoCaseBlock text f p.prev_token_end
no_block_here a n = no_token a kind.LCurly refl n

-- ---- the whole

abbrev switch_slots : Flags → G
switch_slots f = tok kind.Switch ▸ in_parens f ▸ case_block f

module _ {text : List ℕ} {f : Flags} {p q : Parser} (a : At text f p) (h : StandsHere p kind.Switch true) (m : Moved text f p q) where
  switch_alone : Alone text f Switch p.prev_token_end
  unfolding rule rule_of covers
  switch_alone = record { listed = λ b X. listed b; alone = λ X. at_kind a kind.Switch h.0 refl }
    where
      listed : {X : Test} (b : Bool) → Goes rule (Lex text) X end (rule (placed b f)) p.prev_token_end (symbol AStatement f) p.prev_token_end (λ us. us) (still 0)
      listed true = at_kind a kind.Switch h.0 refl
      listed false = at_kind a kind.Switch h.0 refl

  switch_none : (b : Bool) → Fails rule (Lex text) (plain full) end (switch_slots f) p.prev_token_end → NoStatement text (placed b f) p.prev_token_end
  unfolding rule rule_of
  switch_none b n = alone_fails switch_alone b (after_statement (placed b f)) (λ l cs vs y d. d) (λ l cs vs y d. d) (fails_node (record { ends = λ l cs vs j ls mid d e. (refl, refl) }) n)

  switch_passed : Path text f (plain full) (switch_slots f) p (in_parens f ▸ case_block f) q (λ us. us)
  switch_passed = token kind.Switch a h.0 h.1 refl m

  pub switch_stops : (b : Bool) (w : Parser) (e : Stop) → Stops q w e (NoParens text f q.prev_token_end) → Stops p w e (NoStatement text (placed b f) p.prev_token_end)
  switch_stops b w e z = stops_behind w e m.same (λ g. grown_then m.kept g) (λ n. switch_none b (switch_passed ⟶✗ then_fails n)) z

  module _ {r : Parser} {head : NodeId} (x : ParensTaken text f q r head) where
    switch_head : Path text f (plain full) (switch_slots f) p (case_block f) r (tree x.label x.slots)
    switch_head = switch_passed ⟶ then_part (parens_read x)

    pub switch_same : Same p r
    switch_same = same_both m.same x.same

    pub case_block_stops : (b : Bool) (w : Parser) (e : Stop) → Stops r w e (NoCaseBlock text f r.prev_token_end) → Stops p w e (NoStatement text (placed b f) p.prev_token_end)
    case_block_stops b w e z = stops_behind w e switch_same (λ g. grown_behind switch_head.verdict g) (λ n. switch_none b (switch_head ⟶✗ n)) z

    module _ {s : Parser} {ids : List (Option NodeId)} (y : CaseBlockTaken text f r s ids) where
      switch_read : Path text f (plain full) (switch_slots f) p nothing s (λ us. tree x.label x.slots (y.slots us))
      switch_read = switch_head ⟶ record { at = y.at; further = y.further; pass = y.pass; walked = y.walked; verdict = y.verdict }

      pub switch_further : p.token.span.start < s.prev_token_end
      switch_further = switch_read.further

      switch_path : (b : Bool) → Path text f (after_statement (placed b f)) (rule (placed b f)) p nothing s (tree (label_here switch_statement no_op p s) (tree x.label x.slots (y.slots end)))
      unfolding rule rule_of
      switch_path b = alone_path switch_alone b (after_statement (placed b f)) (λ l cs vs y d. d) (λ l cs vs y d. d) (noded a switch_read)

      pub switch_answers : (b : Bool) {w : Parser} {id : NodeId} {children : List (Option NodeId)} (v : Span) → children ≡ Some head ∷ ids → v.start ≡ p.token.span.start → v.end ≡ s.prev_token_end → MadeHere (plain_label node.SwitchStatement op.None v) children s w id → Statement text f (placed b f) p w id
      switch_answers b {w} {id} {children} v e g d n =
          let l : plain_label node.SwitchStatement op.None v ≡ label_here switch_statement no_op p s = rw (g, d) refl in
          let made : MadeHere (label_here switch_statement no_op p s) (Some head ∷ ids) s w id = subst (λ (js : List (Option NodeId)). MadeHere (label_here switch_statement no_op p s) js s w id) e (subst (λ (u : Label). MadeHere u children s w id) l n) in
          let kr : Keeps p.nodes r.nodes = subst (λ (ns : List Node). Keeps ns r.nodes) m.nodes x.keeps in
          let hr : Holds r.nodes (length p.nodes) (length r.nodes) head.0 x.label x.slots = subst (λ (ns : List Node). Holds r.nodes (length ns) (length r.nodes) head.0 x.label x.slots) m.nodes x.holds in
          by_statement (switch_path b) (never_open (label_here switch_statement no_op p s) (tree x.label x.slots (y.slots end)) refl) (same_both switch_same y.same) made.stays
          (node_held made (HoldsAll-append (HoldsAll-one head (Holds-kept y.keeps hr)) y.holds)) (Keeps-trans kr (Keeps-trans y.keeps (Keeps-made made.made))) refl (one_lies made)
