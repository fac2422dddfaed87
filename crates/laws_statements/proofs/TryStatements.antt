-- The `try` statement (ECMA-262, 14.15): its clauses, and the whole.
use Rattle.std.proofs.Common.{ℕ, ◌≡◌, ◌≤◌, ◌<◌, max, List, [], ◌∷◌, length, Option, Some, None, Bool, true, false, ◌||◌, IsCharBoundary, refl, sym, ap, subst, arith, ◌∙◌}
use Rattle.std.specs.Prelude.{Ok, Err}
use Rattle.std.proofs.lemmas.Bool.{false≢true}
use Rattle.js_base.specs.declared.diagnostic.Diagnostic.{Diagnostic}
use Rattle.js_base.specs.declared.kind.Kind.{Kind}
use Rattle.js_base.specs.declared.kind.Kind.TheVariants as kind
use Rattle.js_base.specs.declared.span.Span.{Span}
use Rattle.js_base.specs.Kinds.{same_kind, one_of_kinds}
use Rattle.js_base.specs.Texts.{words}
use Rattle.js_grammar.specs.Trees.{Label, Slots, append, end, hole, tree, no_op, catch_clause, catch_parameter, try_statement}
use Rattle.js_grammar.specs.Grammar.{Lexemes, Look, here, is, empty_slot, nothing, Takes, is_empty_slot, ◌▸◌}
use Rattle.js_grammar.specs.Lexed.{Lexes}
use Rattle.js_grammar.specs.Lexemes.{is_word}
use Rattle.js_grammar.specs.Parsing.{Test, plain, full, still, Admits, Goes, Fails}
use Rattle.js_grammar.specs.Productions.{G, Flags, at, tok, mk, slot, Binding, Block, Try}
use Rattle.js_grammar.specs.Productions.{Catch as ACatch}
use Rattle.js_grammar.specs.Productions.{Statement as AStatement}
use Rattle.js_grammar.specs.Productions.{sym as symbol}
use Rattle.js_grammar.specs.Table.{rule, rule_of}
use Rattle.js_grammar.proofs.Looks.{covers, covered, apart}
use Rattle.js_grammar.proofs.Calculus.{Between, Heads, fails_lexeme, ◌▹◌, ◌▹✗◌, by_plain, here_at, left, right, then_by, part_fails, fails_alt, fails_node, fails_rule, inside_full, inside_plain, reads_empty_slot, weaken_on, weaken_fails_on}
use Rattle.js_grammar.proofs.FirstClaims.{firsts}
use Rattle.js_grammar.proofs.FirstRules.{by_first}
use Rattle.laws_shared.specs.js_tree.declared.id.NodeId.{NodeId}
use Rattle.laws_shared.specs.js_tree.declared.kind.NodeKind.TheVariants as node
use Rattle.laws_shared.specs.js_tree.declared.op.Op.TheVariants as op
use Rattle.laws_shared.specs.js_tree.Nodes.{Node}
use Rattle.laws_shared.specs.js_tree.Holding.{Holds, HoldsAll, Keeps}
use Rattle.laws_shared.proofs.js_tree.HoldingLemmas.{Holds-kept, HoldsAll-append, HoldsAll-hole, HoldsAll-next, HoldsAll-one, HoldsAll-one_hole, HoldsAll-two, Keeps-made, Keeps-refl, Keeps-trans}
use Rattle.js_base.specs.declared.diagnostic.DiagnosticKind.TheVariants.{ExpectCatchFinally}
use Rattle.laws_shared.specs.js_cursor.Places.{goal}
use Rattle.js_grammar.specs.LexicalFaults.{Reached}
use Rattle.js_grammar.specs.Marks.{EdgeOf, Mark}
use Rattle.laws_shared.specs.js_lex.Reading.{is_right_angle}
use Rattle.laws_shared.specs.Told.{unrelated_at}
use Rattle.laws_shared.specs.js_cursor.Moves.{IsKind, KeepsDiagnostic, OnlyMemory}
use Rattle.laws_shared.specs.js_cursor.Parsers.{Parser}
use Rattle.laws_shared.specs.js_cursor.declared.stop.Stop.{Stop}
use Rattle.laws_shared.specs.js_cursor.declared.stop.Stop.TheVariants.{Fatal, NoMemory}
use Rattle.laws_shared.specs.Answers.{Numbered, Stops, Underived, unclean}
use Rattle.laws_shared.specs.Classes.{IsEarly}
use Rattle.laws_shared.specs.Lexemes.{Lex, other_goals, spot, nowhere}
use Rattle.laws_shared.specs.Moves.{Moved, MadeHere, plain_label}
use Rattle.laws_shared.specs.Stands.{StandsHere}
use Rattle.laws_shared.specs.States.{At, Same, NodesLie}
use Rattle.laws_shared.specs.Statements.{placed, after_statement, NoStatement, Statement}
use Rattle.laws_shared.proofs.Edges.{last_edge}
use Rattle.laws_shared.proofs.Giving.{kept_one, fails_unescaped}
use Rattle.laws_shared.proofs.Here.{kind_here, unsettled}
use Rattle.laws_shared.proofs.MadeNodes.{node_held, one_lies, made_lies}
use Rattle.laws_shared.proofs.Moving.{beside_nodes, same_both, same_itself, same_with, stops_behind, stops_so}
use Rattle.laws_shared.proofs.Paths.{Path, ◌⟼◌, ◌⟶◌, ◌⟶✗◌, at_kind, fails_at, label_here, last_called, last_token, noded, noded_by, by_symbol_as, token, walked_to}
use Rattle.laws_shared.proofs.Signs.{none_seen, other_kind, plain_sign, stands_not}
use Rattle.laws_shared.proofs.Told.{told_at, told_same}
use Rattle.laws_shared.proofs.Verdicts.{grown_then, verdict_of}
use Rattle.laws_shared.proofs.Verdicts.{after as grown_behind}
use Rattle.laws_statements.proofs.Blocks.{then_some}
use Rattle.laws_statements.proofs.CompoundStatements.{no_token, then_fails}
use Rattle.laws_statements.proofs.Statements.{by_statement, never_open}
use Rattle.laws_statements.proofs.WordStatements.{Alone, alone_fails, alone_path}
use Rattle.laws_statements.specs.TryStatements.{ClausesTaken, NoPart, TakesPart, WholePart, clauses_of, finally_of, neither, no_clause, parameter_of}

-- ---- parts

-- a path before anything is one before X
any_path : {text : List ℕ} {f : Flags} {X : Test} {g : G} {p q : Parser} {h : Slots → Slots} → Path text f (plain full) g p nothing q h → Path text f X g p nothing q h
any_path r = record { at = r.at; further = r.further; pass = r.pass; walked = r.walked; verdict = verdict_of r.verdict (λ y. record { reach = y.reach; near = y.near; goes = weaken_on y.goes (record { admits = λ ts vs j ls rest d e. (refl, refl) }) }) (λ n. weaken_fails_on n (record { admits = λ ts vs j ls rest d e. (refl, refl) })) }

-- and with something behind it
pub then_between : {text : List ℕ} {f : Flags} {X X' : Test} {g b : G} {p q : Parser} {h : Slots → Slots} → Between rule X X' end g b p.prev_token_end → Path text f X' g p nothing q h → Path text f X (g ▸ b) p b q h
then_between c r = record { at = r.at; further = r.further; pass = r.pass; walked = r.walked; verdict = verdict_of r.verdict (λ y. record { reach = y.reach; near = y.near; goes = then_by y.goes c }) (λ n. part_fails n c) }

then_any : {text : List ℕ} {f : Flags} {X : Test} {g b : G} {p q : Parser} {h : Slots → Slots} → Path text f (plain full) g p nothing q h → Path text f X (g ▸ b) p b q h
then_any r = then_between (record { admits = λ ts us vs j k ls mid rest d d' e. (refl, refl) }) r

any_fails : {text : List ℕ} {X : Test} {g : G} {s : ℕ} → Fails rule (Lex text) (plain full) end g s → Fails rule (Lex text) X end g s
any_fails n = weaken_fails_on n (record { admits = λ ts vs j ls rest d e. (refl, refl) })

pub part_read : {text : List ℕ} {f : Flags} {g : G} {p q : Parser} {id : NodeId} (x : WholePart text f g p q id) → Path text f (plain full) g p nothing q (tree x.label x.slots)
part_read x = record { at = x.at; further = x.further; pass = x.pass; walked = x.walked; verdict = x.verdict }

-- its node was made
whole_made : {text : List ℕ} {f : Flags} {g : G} {p q : Parser} (w : Parser) {l : Label} {cs : Slots} {id : NodeId} → Path text f (plain full) g p nothing q (tree l cs) → Same p q → w ≡ record q { nodes = w.nodes } → Holds w.nodes (length p.nodes) (length w.nodes) id.0 l cs → Keeps p.nodes w.nodes → (IsCharBoundary p.text p.token.span.start → NodesLie q.text q.nodes → NodesLie q.text w.nodes) → WholePart text f g p w id
whole_made {text} {f} {g} {p} {q} w {l} {cs} {id} r s m h k i = go w.nodes m h k i
  where
    go : (ns : List Node) → w ≡ record q { nodes = ns } → Holds w.nodes (length p.nodes) (length w.nodes) id.0 l cs → Keeps p.nodes w.nodes → (IsCharBoundary p.text p.token.span.start → NodesLie q.text q.nodes → NodesLie q.text w.nodes) → WholePart text f g p w id
    go ns m h k i = subst (λ (z : Parser). WholePart text f g p z id) (sym m) (record {
      at = beside_nodes ns r.at;
      same = same_with ns s (subst (λ (z : Parser). Keeps p.nodes z.nodes) m k) (λ b z. subst (λ (v : Parser). NodesLie q.text v.nodes) m (i b z));
      further = r.further;
      label = l;
      slots = cs;
      pass = r.pass;
      walked = r.walked;
      verdict = r.verdict;
      holds = subst (λ (z : Parser). Holds z.nodes (length p.nodes) (length z.nodes) id.0 l cs) m h;
      keeps = subst (λ (z : Parser). Keeps p.nodes z.nodes) m k;
    })

pub part_stops : (g : Flags → G) (k : Kind) (p q : Parser) (e : Stop) → StandsHere p k true → ((text : List ℕ) (f : Flags) → At text f p → Stops p q e (NoPart text (g f) p.prev_token_end)) → TakesPart k g p q (Err e)
part_stops g k p q Fatal h s = (h, s)
part_stops g k p q NoMemory h s = tt

pub part_memory : (g : Flags → G) (k : Kind) (p q : Parser) (e : Stop) → OnlyMemory e → TakesPart k g p q (Err e)
part_memory g k p q Fatal m = absurd m
part_memory g k p q NoMemory m = tt

-- the lexeme that is due last doesn't stand here
pub no_last : {text : List ℕ} {f : Flags} {p : Parser} → At text f p → (k : Kind) → (is_right_angle k || one_of_kinds other_goals k) ≡ false → StandsHere p k false → NoPart text (tok k) p.prev_token_end
no_last a k n s = fails_lexeme (is k) (none_seen (stands_not a n s))

-- ---- a Block

pub block_read : {text : List ℕ} {f : Flags} {p q : Parser} {id : NodeId} (x : Numbered text f (at Block f) p q id) → Path text f (plain full) (symbol Block f) p nothing q (tree x.answer.label x.answer.slots)
block_read x = last_called x.answer (record { admits = λ ts vs k ls rest d e. (refl, refl) })

no_block : {text : List ℕ} {f : Flags} {s : ℕ} → Underived text (at Block f) s → NoPart text (symbol Block f) s
no_block n = weaken_fails_on n (record { admits = λ ts vs k ls rest d e. (refl, refl) })

-- ---- a Finally

module _ {text : List ℕ} {f : Flags} {p q : Parser} (a : At text f p) (h : StandsHere p kind.Finally true) (m : Moved text f p q) where
  finally_passed : {X : Test} → Path text f X (finally_of f) p (symbol Block f) q (λ us. us)
  finally_passed = token kind.Finally a h.0 h.1 refl m

  pub finally_taken : {r : Parser} {id : NodeId} → Numbered text f (at Block f) q r id → WholePart text f (finally_of f) p r id
  finally_taken {r} {id} x =
      let y : Path text f (plain full) (finally_of f) p nothing r (tree x.answer.label x.answer.slots) = finally_passed ⟶ block_read x in
      record {
        at = y.at;
        same = same_both m.same x.answer.same;
        further = y.further;
        label = x.answer.label;
        slots = x.answer.slots;
        pass = y.pass;
        walked = y.walked;
        verdict = y.verdict;
        holds = subst (λ (ns : List Node). Holds r.nodes (length ns) (length r.nodes) id.0 x.answer.label x.answer.slots) m.nodes x.holds;
        keeps = subst (λ (ns : List Node). Keeps ns r.nodes) m.nodes x.keeps;
      }

  pub finally_stops : (w : Parser) (e : Stop) → Stops q w e (Underived text (at Block f) q.prev_token_end) → Stops p w e (NoPart text (finally_of f) p.prev_token_end)
  finally_stops w e z = stops_behind w e m.same (λ g. grown_then m.kept g) (λ n. finally_passed ⟶✗ no_block n) z

-- ---- a CatchParameter in its parentheses

module _ {text : List ℕ} {f : Flags} {p q : Parser} (a : At text f p) (h : StandsHere p kind.LParen true) (m : Moved text f p q) where
  parameter_opened : {X : Test} → Path text f X (parameter_of f) p (mk catch_parameter (symbol Binding f) ▸ tok kind.RParen) q (λ us. us)
  parameter_opened = token kind.LParen a h.0 h.1 refl m

  pub binding_stops : (w : Parser) (e : Stop) → Stops q w e (Underived text (at Binding f) q.prev_token_end) → Stops p w e (NoPart text (parameter_of f) p.prev_token_end)
  binding_stops w e z = stops_behind w e m.same (λ g. grown_then m.kept g) (λ n. parameter_opened ⟶✗ then_fails (fails_node inside_full (any_fails (weaken_fails_on n (record { admits = λ ts vs k ls rest d e. (refl, refl) }))))) z

  module _ {r s : Parser} {bound id : NodeId} (x : Numbered text f (at Binding f) q r bound) (v : Span) (b : v.start ≡ q.token.span.start) (d : v.end ≡ r.prev_token_end) (n : MadeHere (plain_label node.CatchParameter op.None v) (Some bound ∷ []) r s id) where
    pub parameter_made : WholePart text f (mk catch_parameter (symbol Binding f)) q s id
    parameter_made =
        let l : plain_label node.CatchParameter op.None v ≡ label_here catch_parameter no_op q r = rw (b, d) refl in
        let made : MadeHere (label_here catch_parameter no_op q r) (Some bound ∷ []) r s id = subst (λ (y : Label). MadeHere y (Some bound ∷ []) r s id) l n in
        let y : Path text f (plain full) (mk catch_parameter (symbol Binding f)) q nothing r (tree (label_here catch_parameter no_op q r) (tree x.answer.label x.answer.slots end)) = noded m.at (last_called x.answer (record { admits = λ ts vs k ls rest d e. (refl, refl) })) in
        whole_made s y x.answer.same made.stays (node_held made (HoldsAll-one bound x.holds)) (Keeps-trans x.keeps (Keeps-made made.made)) (made_lies x.answer.same x.answer.at.at (let g = x.answer.further in omega arith) made refl)

    parameter_due : {X : Test} → Path text f X (parameter_of f) p (tok kind.RParen) s (tree parameter_made.label parameter_made.slots)
    parameter_due = parameter_opened ⟶ then_any (part_read parameter_made)

    pub parameter_unclosed : (w : Parser) (e : Stop) → Stops s w e (NoPart text (tok kind.RParen) s.prev_token_end) → Stops p w e (NoPart text (parameter_of f) p.prev_token_end)
    parameter_unclosed w e z = stops_behind w e (same_both m.same parameter_made.same) (λ g. grown_then m.kept (grown_behind parameter_made.verdict g)) (λ n. parameter_due ⟶✗ n) z

    pub parameter_taken : {w : Parser} → IsKind kind.RParen s → Moved text f s w → WholePart text f (parameter_of f) p w id
    parameter_taken {w} k o =
        let z = parameter_made in
        let y : Path text f (plain full) (parameter_of f) p nothing w (tree z.label z.slots) = parameter_due ⟶ last_token kind.RParen z.at k.0 k.1 refl o in
        record {
          at = y.at;
          same = same_both m.same (same_both z.same o.same);
          further = y.further;
          label = z.label;
          slots = z.slots;
          pass = y.pass;
          walked = y.walked;
          verdict = y.verdict;
          holds = subst (λ (ns : List Node). Holds ns (length p.nodes) (length ns) id.0 z.label z.slots) (sym o.nodes) (subst (λ (ns : List Node). Holds s.nodes (length ns) (length s.nodes) id.0 z.label z.slots) m.nodes z.holds);
          keeps = subst (λ (ns : List Node). Keeps p.nodes ns) (sym o.nodes) (subst (λ (ns : List Node). Keeps ns s.nodes) m.nodes z.keeps);
        }

-- ---- a Catch

paren_plain : (is_word kind.LParen || same_kind kind.PrivateIdentifier kind.LParen) ≡ false
unfolding words
paren_plain = refl

abbrev brace_next : Look
brace_next k w e = same_kind kind.LCurly k

abbrev catch_slots : Flags → G
catch_slots f = tok kind.Catch ▸ slot (parameter_of f) ▸ symbol Block f

before_block : {X : Test} (f : Flags) (s : ℕ) → Between rule X (plain brace_next) end (slot (parameter_of f)) (symbol Block f) s
unfolding covers
before_block f s = by_first firsts (by_plain brace_next) refl

-- an empty slot stands before none but these
no_slot : {text : List ℕ} {f : Flags} {q : Parser} (F : Look) (k : Kind) → At text f q → q.token.kind ≡ k → one_of_kinds unsettled k ≡ false → ((w e : Bool) → F k w e ≡ false) → Fails rule (Lex text) (plain F) end empty_slot q.prev_token_end
no_slot {text} {f} {q} F k a h r n = record { no = λ ts vs j ls rest l d e. go ts vs j ls rest l d e }
  where
    go : (ts vs : Slots) (j : ℕ) (ls rest : Lexemes) → Lexes (Lex text) q.prev_token_end ls → Takes rule empty_slot end ts q.prev_token_end ls vs j rest → Admits (plain F) ts (here rest) → ⊥
    go ts vs j ls rest l (is_empty_slot {ls = more}) e = false≢true (sym (n (here more).newline (here more).escaped) ∙ subst (λ (v : Kind). F v (here more).newline (here more).escaped ≡ true) (kind_here a h r (here more) (here_at (Lex text) more l)) e.0)

-- What was read behind the word of a Catch: a parameter or none.
pub record Parameter (text : List ℕ) (f : Flags) (p q r : Parser) (parameter : Option NodeId) : Type 0 where
  pub slots : Slots → Slots
  pub appends : (us : Slots) → slots us ≡ append (slots end) us
  pub at : At text f r
  pub same : Same q r
  pub forward : q.prev_token_end ≤ r.prev_token_end
  pub path : (X : Test) → Path text f X (catch_slots f) p (symbol Block f) r slots
  pub held : HoldsAll r.nodes (length q.nodes) (length r.nodes) (parameter ∷ []) (slots end)
  pub keeps : Keeps q.nodes r.nodes

module _ {text : List ℕ} {f : Flags} {p q : Parser} (a : At text f p) (h : StandsHere p kind.Catch true) (m : Moved text f p q) where
  catch_passed : {X : Test} → Path text f X (catch_slots f) p (slot (parameter_of f) ▸ symbol Block f) q (λ us. us)
  catch_passed = token kind.Catch a h.0 h.1 refl m

  no_catch : Fails rule (Lex text) (plain full) end (slot (parameter_of f) ▸ symbol Block f) q.prev_token_end → NoPart text (symbol ACatch f) p.prev_token_end
  unfolding rule rule_of
  no_catch n = fails_rule {X' = plain full} (λ l cs vs y d. (refl, refl)) (fails_node inside_full (catch_passed ⟶✗ n))

  pub parameter_stops : (w : Parser) (e : Stop) → TakesPart kind.LParen parameter_of q w (Err e) → Stops p w e (NoPart text (symbol ACatch f) p.prev_token_end)
  parameter_stops w Fatal (k, z) = stops_behind w Fatal m.same (λ g. grown_then m.kept g) (λ n. no_catch (part_fails (fails_alt (any_fails n) (no_slot brace_next kind.LParen m.at k.0 refl (λ w e. refl))) (before_block f q.prev_token_end))) (z text f m.at)
  parameter_stops w NoMemory z = tt

  pub parameter_read : {r : Parser} (parameter : Option NodeId) → TakesPart kind.LParen parameter_of q r (Ok parameter) → Parameter text f p q r parameter
  unfolding covers apart
  parameter_read {r} None (n, e) = subst (λ (z : Parser). Parameter text f p q z None) (sym e) (record {
    slots = hole;
    appends = λ us. refl;
    at = m.at;
    same = same_itself;
    forward = omega arith;
    path = λ X. let y : Path text f X (catch_slots f) p (slot (parameter_of f) ▸ symbol Block f) q (λ us. us) = catch_passed in record { at = y.at; further = y.further; pass = y.pass; walked = y.walked; verdict = verdict_of y.verdict (λ u. record { reach = max u.reach 0; near = let i = u.near in omega arith; goes = u.goes ▹ then_by (right (fails_at m.at {X = plain brace_next} (parameter_of f) (kind.LParen ∷ []) refl (none_here n)) ▹ reads_empty_slot) (before_block f q.prev_token_end) }) (λ u. u) };
    held = HoldsAll-one_hole q.nodes (length q.nodes) (length q.nodes) (omega arith);
    keeps = Keeps-refl q.nodes;
  })
    where
      none_here : StandsHere q kind.LParen false → one_of_kinds (kind.LParen ∷ []) q.token.kind ≡ false
      none_here n = other_kind kind.LParen q.token.kind (λ k. n k (plain_sign kind.LParen m.at k refl refl paren_plain))
  parameter_read {r} (Some id) (k, t) =
      let x = t text f m.at in
      record {
        slots = λ us. tree x.label x.slots us;
        appends = λ us. refl;
        at = x.at;
        same = x.same;
        forward = let i = x.further in let j = m.at.behind in omega arith;
        path = λ X. catch_passed ⟶ then_between (before_block f q.prev_token_end) (left (no_slot brace_next kind.LParen m.at k.0 refl (λ w e. refl)) ⟼ any_path (part_read x));
        held = HoldsAll-one id x.holds;
        keeps = x.keeps;
      }

  module _ {r : Parser} {parameter : Option NodeId} (x : Parameter text f p q r parameter) where
    pub parameter_at : At text f r
    parameter_at = x.at

    pub parameter_same : Same p r
    parameter_same = same_both m.same x.same

    pub parameter_forward : q.prev_token_end ≤ r.prev_token_end
    parameter_forward = x.forward

    pub catch_stops : (w : Parser) (e : Stop) → Stops r w e (Underived text (at Block f) r.prev_token_end) → Stops p w e (NoPart text (symbol ACatch f) p.prev_token_end)
    unfolding rule rule_of
    catch_stops w e z = stops_behind w e parameter_same (λ g. grown_behind (x.path (plain full)).verdict g) (λ n. fails_rule {X' = plain full} (λ l cs vs y d. (refl, refl)) (fails_node inside_full (x.path (plain full) ⟶✗ any_fails (no_block n)))) z

    pub catch_taken : {s w : Parser} {block id : NodeId} (v : Span) (y : Numbered text f (at Block f) r s block) → v.start ≡ p.token.span.start → v.end ≡ s.prev_token_end → MadeHere (plain_label node.CatchClause op.None v) (parameter ∷ Some block ∷ []) s w id → WholePart text f (symbol ACatch f) p w id
    unfolding rule rule_of
    catch_taken {s} {w} {block} {id} v y b d n =
        let l : plain_label node.CatchClause op.None v ≡ label_here catch_clause no_op p s = rw (b, d) refl in
        let made : MadeHere (label_here catch_clause no_op p s) (parameter ∷ Some block ∷ []) s w id = subst (λ (u : Label). MadeHere u (parameter ∷ Some block ∷ []) s w id) l n in
        let same_all : Same p s = same_both parameter_same y.answer.same in
        let z : Path text f (plain full) (symbol ACatch f) p nothing s (tree (label_here catch_clause no_op p s) (x.slots (tree y.answer.label y.answer.slots end))) = by_symbol_as {X' = plain full} (λ l cs vs y d. (refl, refl)) (noded a (x.path (plain full) ⟶ any_path (block_read y))) in
        let held : HoldsAll s.nodes (length q.nodes) (length s.nodes) (parameter ∷ Some block ∷ []) (x.slots (tree y.answer.label y.answer.slots end)) = subst (λ (u : Slots). HoldsAll s.nodes (length q.nodes) (length s.nodes) (parameter ∷ Some block ∷ []) u) (sym (x.appends (tree y.answer.label y.answer.slots end))) (HoldsAll-next block y.keeps x.held y.holds) in
        let kept : Keeps q.nodes s.nodes = Keeps-trans x.keeps y.keeps in
        whole_made w z same_all made.stays (node_held made (subst (λ (ns : List Node). HoldsAll s.nodes (length ns) (length s.nodes) (parameter ∷ Some block ∷ []) (x.slots (tree y.answer.label y.answer.slots end))) m.nodes held)) (Keeps-trans (subst (λ (ns : List Node). Keeps ns s.nodes) m.nodes kept) (Keeps-made made.made)) (made_lies same_all y.answer.at.at (let g = z.further in omega arith) made refl)

-- ---- the clauses

abbrev with_catch : Flags → G
with_catch f = symbol ACatch f ▸ slot (finally_of f)

abbrev without_catch : Flags → G
without_catch f = empty_slot ▸ finally_of f

-- behind an empty slot
pub past_hole : {text : List ℕ} {X : Test} {b : G} {s : ℕ} → Goes rule (Lex text) X end (empty_slot ▸ b) s b s hole (still 0)
past_hole = then_by {X' = plain full} reads_empty_slot (record { admits = λ ts us vs j k ls mid rest d d' e. (refl, refl) })

module _ {text : List ℕ} {f : Flags} {p : Parser} (a : At text f p) where
  -- no clause begins here
  no_catch_here : StandsHere p kind.Catch false → Fails rule (Lex text) (plain no_clause) end (with_catch f) p.prev_token_end
  unfolding covers apart
  no_catch_here n = by p.token.escaped refl
    where
      by : (e : Bool) → p.token.escaped ≡ e → Fails rule (Lex text) (plain no_clause) end (with_catch f) p.prev_token_end
      by true e = fails_unescaped {X = plain no_clause} (with_catch f) a refl e
      by false e = fails_at a {X = plain no_clause} (with_catch f) (kind.Catch ∷ []) refl (other_kind kind.Catch p.token.kind (λ k. n k e))

  no_finally_here : {X : Test} → StandsHere p kind.Finally false → Fails rule (Lex text) X end (finally_of f) p.prev_token_end
  no_finally_here n = no_token a kind.Finally refl n

  no_second : {X : Test} → StandsHere p kind.Finally false → Fails rule (Lex text) X end (without_catch f) p.prev_token_end
  no_second n = past_hole ▹✗ no_finally_here n

  -- a Catch is no Finally
  not_finally : StandsHere p kind.Catch true → StandsHere p kind.Finally false
  not_finally h i j = let z : kind.Catch ≡ kind.Finally = sym h.0 ∙ i in cc

  no_clauses : StandsHere p kind.Catch false → StandsHere p kind.Finally false → Fails rule (Lex text) (plain no_clause) end (clauses_of f) p.prev_token_end
  no_clauses n m = fails_alt (no_catch_here n) (no_second m)

  module _ (h : StandsHere p kind.Catch true) where
    no_clauses_at_catch : NoPart text (symbol ACatch f) p.prev_token_end → Fails rule (Lex text) (plain no_clause) end (clauses_of f) p.prev_token_end
    no_clauses_at_catch n = fails_alt (then_fails n) (no_second (not_finally h))

    module _ {q : Parser} {id : NodeId} (x : WholePart text f (symbol ACatch f) p q id) where
      caught : Path text f (plain no_clause) (clauses_of f) p (slot (finally_of f)) q (tree x.label x.slots)
      caught = left (no_second (not_finally h)) ⟼ then_any (part_read x)

      pub caught_stops : (w : Parser) (e : Stop) → TakesPart kind.Finally finally_of q w (Err e) → Stops p w e (Fails rule (Lex text) (plain no_clause) end (clauses_of f) p.prev_token_end)
      caught_stops w Fatal (i, z) = stops_behind w Fatal x.same (λ g. grown_behind x.verdict g) (λ n. caught ⟶✗ fails_alt (any_fails n) (no_slot no_clause kind.Finally x.at i.0 refl (λ w e. refl))) (z text f x.at)
      caught_stops w NoMemory z = tt

      pub caught_alone : {r : Parser} → TakesPart kind.Finally finally_of q r (Ok None) → ClausesTaken text f p r (Some id) None
      caught_alone {r} (n, e) = subst (λ (z : Parser). ClausesTaken text f p z (Some id) None) (sym e) (record {
        at = x.at;
        same = x.same;
        forward = let i = x.further in let j = a.behind in omega arith;
        slots = λ us. tree x.label x.slots (hole us);
        pass = caught.pass;
        walked = caught.walked;
        verdict = verdict_of caught.verdict (λ u. record { reach = max u.reach 0; near = let i = u.near in omega arith; goes = u.goes ▹ (right (no_finally_at x.at n) ▹ reads_empty_slot) }) (λ u. u);
        holds = HoldsAll-hole (HoldsAll-one id x.holds);
        keeps = x.keeps;
      })
        where
          no_finally_at : {X : Test} {v : Parser} → At text f v → StandsHere v kind.Finally false → Fails rule (Lex text) X end (finally_of f) v.prev_token_end
          no_finally_at b n = no_token b kind.Finally refl n

      pub caught_with : {r : Parser} {last : NodeId} → TakesPart kind.Finally finally_of q r (Ok (Some last)) → ClausesTaken text f p r (Some id) (Some last)
      caught_with {r} {last} (i, t) =
          let y = t text f x.at in
          let z : Path text f (plain no_clause) (clauses_of f) p nothing r (λ us. tree x.label x.slots (tree y.label y.slots us)) = caught ⟶ (left (no_slot no_clause kind.Finally x.at i.0 refl (λ w e. refl)) ⟼ any_path (part_read y)) in
          record {
            at = y.at;
            same = same_both x.same y.same;
            forward = let i = z.further in let j = a.behind in omega arith;
            slots = λ us. tree x.label x.slots (tree y.label y.slots us);
            pass = z.pass;
            walked = z.walked;
            verdict = z.verdict;
            holds = HoldsAll-two id last y.keeps x.holds y.holds;
            keeps = Keeps-trans x.keeps y.keeps;
          }

  module _ (n : StandsHere p kind.Catch false) where
    pub uncaught_stops : (w : Parser) (e : Stop) → TakesPart kind.Finally finally_of p w (Err e) → Stops p w e (Fails rule (Lex text) (plain no_clause) end (clauses_of f) p.prev_token_end)
    uncaught_stops w Fatal (i, z) = stops_so p w Fatal (λ u. fails_alt (no_catch_here n) (past_hole ▹✗ any_fails u)) (z text f a)
    uncaught_stops w NoMemory z = tt

    pub uncaught_with : {r : Parser} {last : NodeId} → TakesPart kind.Finally finally_of p r (Ok (Some last)) → ClausesTaken text f p r None (Some last)
    uncaught_with {r} {last} (i, t) =
        let y = t text f a in
        let z : Path text f (plain no_clause) (clauses_of f) p nothing r (λ us. hole (tree y.label y.slots us)) = (right (no_catch_here n) ▹ past_hole) ⟼ any_path (part_read y) in
        record {
          at = y.at;
          same = y.same;
          forward = let i = z.further in let j = a.behind in omega arith;
          slots = λ us. hole (tree y.label y.slots us);
          pass = z.pass;
          walked = z.walked;
          verdict = z.verdict;
          holds = HoldsAll-next last y.keeps (HoldsAll-one_hole p.nodes (length p.nodes) (length p.nodes) (omega arith)) y.holds;
          keeps = y.keeps;
        }

    -- neither stands here, which was told
    pub missing_told : {q : Parser} {d : Diagnostic} → StandsHere p kind.Finally false → KeepsDiagnostic d p q → IsEarly d → ClausesTaken text f p q None None
    missing_told {q} {d} m t y =
        let o : q.nodes ≡ p.nodes = ap (λ (z : Parser). z.nodes) t.is in
        record {
          at = told_at t a;
          same = told_same t y;
          forward = let e = ap (λ (z : Parser). z.prev_token_end) t.is in omega arith;
          slots = λ us. hole (hole us);
          pass = λ ls. ls;
          walked = walked_to (sym (ap (λ (z : Parser). spot z) t.is)) nowhere;
          verdict = unclean (kept_one t) (no_clauses n m);
          holds = subst (λ (ns : List Node). HoldsAll ns (length p.nodes) (length ns) (None ∷ None ∷ []) (hole (hole end))) (sym o) (HoldsAll-hole (HoldsAll-one_hole p.nodes (length p.nodes) (length p.nodes) (omega arith)));
          keeps = subst (λ (ns : List Node). Keeps p.nodes ns) (sym o) (Keeps-refl p.nodes);
        }

-- what was read of a Catch, or none
pub handler_state : {text : List ℕ} {f : Flags} {p q : Parser} → At text f p → (handler : Option NodeId) → TakesPart kind.Catch (symbol ACatch) p q (Ok handler) → At text f q × Same p q × (p.prev_token_end ≤ q.prev_token_end)
handler_state {text} {f} {p} a None (n, e) = subst (λ (z : Parser). At text f z × Same p z × (p.prev_token_end ≤ z.prev_token_end)) (sym e) (a, same_itself, omega arith)
handler_state {text} {f} a (Some id) (h, t) = let x = t text f a in (x.at, x.same, let i = x.further in let j = a.behind in omega arith)

pub handler_refused : {text : List ℕ} {f : Flags} {p : Parser} → At text f p → (w : Parser) (e : Stop) → TakesPart kind.Catch (symbol ACatch) p w (Err e) → Stops p w e (Fails rule (Lex text) (plain no_clause) end (clauses_of f) p.prev_token_end)
handler_refused {text} {f} {p} a w Fatal (h, z) = stops_so p w Fatal (λ n. no_clauses_at_catch a h n) (z text f a)
handler_refused a w NoMemory z = tt

pub clauses_refused : {text : List ℕ} {f : Flags} {p : Parser} (q : Parser) → At text f p → (handler : Option NodeId) → TakesPart kind.Catch (symbol ACatch) p q (Ok handler) → (w : Parser) (e : Stop) → TakesPart kind.Finally finally_of q w (Err e) → Stops p w e (Fails rule (Lex text) (plain no_clause) end (clauses_of f) p.prev_token_end)
clauses_refused q a None (n, i) w e z = uncaught_stops a n w e (subst (λ (v : Parser). TakesPart kind.Finally finally_of v w (Err e)) i z)
clauses_refused {text} {f} q a (Some id) (h, t) w e z = caught_stops a h (t text f a) w e z

pub clauses_read : {text : List ℕ} {f : Flags} {p : Parser} (q r : Parser) → At text f p → (handler finalizer : Option NodeId) → neither handler finalizer ≡ false → TakesPart kind.Catch (symbol ACatch) p q (Ok handler) → TakesPart kind.Finally finally_of q r (Ok finalizer) → ClausesTaken text f p r handler finalizer
clauses_read q r a None None h x y = absurd (false≢true (sym h))
clauses_read q r a None (Some last) h (n, i) y = uncaught_with a n (subst (λ (v : Parser). TakesPart kind.Finally finally_of v r (Ok (Some last))) i y)
clauses_read {text} {f} q r a (Some id) None h (k, t) y = caught_alone a k (t text f a) y
clauses_read {text} {f} q r a (Some id) (Some last) h (k, t) y = caught_with a k (t text f a) y

-- neither stands there: nothing was passed
pub missing_state : (p q r : Parser) (handler finalizer : Option NodeId) → neither handler finalizer ≡ true → TakesPart kind.Catch (symbol ACatch) p q (Ok handler) → TakesPart kind.Finally finally_of q r (Ok finalizer) → r ≡ p
missing_state p q r None None h (n, i) (m, j) = j ∙ i
missing_state p q r None (Some last) h x y = absurd (false≢true h)
missing_state p q r (Some id) None h x y = absurd (false≢true h)
missing_state p q r (Some id) (Some last) h x y = absurd (false≢true h)

pub clauses_missing : {text : List ℕ} {f : Flags} {p : Parser} (q r : Parser) {w : Parser} {d : Diagnostic} → At text f p → (handler finalizer : Option NodeId) → neither handler finalizer ≡ true → TakesPart kind.Catch (symbol ACatch) p q (Ok handler) → TakesPart kind.Finally finally_of q r (Ok finalizer) → KeepsDiagnostic d r w → IsEarly d → ClausesTaken text f p w handler finalizer
clauses_missing q r {w = w} {d = d} a None None h (n, i) (m, j) t y = missing_told a n (subst (λ (v : Parser). StandsHere v kind.Finally false) i m) (subst (λ (v : Parser). KeepsDiagnostic d v w) (j ∙ i) t) y
clauses_missing q r a None (Some last) h x y t e = absurd (false≢true h)
clauses_missing q r a (Some id) None h x y t e = absurd (false≢true h)
clauses_missing q r a (Some id) (Some last) h x y t e = absurd (false≢true h)

-- what is told of it has its mark
pub missing_marked : {text : List ℕ} {f : Flags} {p r : Parser} (s : Span) {d : Diagnostic} → At text f p → r ≡ p → EdgeOf (goal p) p.text p.prev_token_end → s.start ≡ r.prev_token_end → s.end ≡ r.prev_token_end → d ≡ unrelated_at ExpectCatchFinally s → Mark (goal r) r.text d
missing_marked {p = p} {r} s {d} a e g b c h = subst (λ (v : Diagnostic). Mark (goal r) r.text v) (sym h) (subst (λ (z : Parser). Mark (goal z) z.text (unrelated_at ExpectCatchFinally s)) (sym e) (record {
  ordered = omega arith;
  within = let z = a.at.between.0 in let k = ap (λ (v : Parser). v.prev_token_end) e in omega arith;
  begins_between = subst (λ (v : ℕ). IsCharBoundary p.text v) (sym (b ∙ ap (λ (v : Parser). v.prev_token_end) e)) a.at.between;
  ends_between = subst (λ (v : ℕ). IsCharBoundary p.text v) (sym (c ∙ ap (λ (v : Parser). v.prev_token_end) e)) a.at.between;
  stands = ((subst (λ (v : ℕ). EdgeOf (goal p) p.text v) (sym (b ∙ ap (λ (v : Parser). v.prev_token_end) e)) g, subst (λ (v : ℕ). EdgeOf (goal p) p.text v) (sym (c ∙ ap (λ (v : Parser). v.prev_token_end) e)) g), (refl, refl));
}))

-- a block ends at a lexeme's end
pub block_edge : {text : List ℕ} {f : Flags} {p q r : Parser} {id : NodeId} → Moved text f p q → Numbered text f (at Block f) q r id → EdgeOf (goal r) r.text r.prev_token_end
block_edge {q = q} {r} m x = subst (λ (t : List ℕ). EdgeOf (goal r) t r.prev_token_end) (sym x.answer.at.text_is) (last_edge x.answer.walked (subst (λ (t : List ℕ). Reached t q.prev_token_end) m.at.text_is m.at.at.reached) (let b = m.at.behind in let c = x.answer.further in omega arith))

-- ---- the statement

abbrev try_slots : Flags → G
try_slots f = tok kind.Try ▸ symbol Block f ▸ clauses_of f

-- behind a statement no clause stands
behind_clauses : (f : Flags) (b : Bool) → Heads (after_statement (placed b f)) (plain no_clause)
unfolding covers
behind_clauses f true = λ l cs vs y d. (covered (after_statement (placed true f)).base no_clause refl y.kind y.newline y.escaped d.0, refl)
behind_clauses f false = λ l cs vs y d. (covered (after_statement (placed false f)).base no_clause refl y.kind y.newline y.escaped d.0, refl)

still_behind : Heads (plain no_clause) (plain no_clause)
still_behind = λ l cs vs y d. (d.0, refl)

module _ {text : List ℕ} {f : Flags} {p q : Parser} (a : At text f p) (h : StandsHere p kind.Try true) (m : Moved text f p q) where
  try_alone : Alone text f Try p.prev_token_end
  unfolding rule rule_of covers
  try_alone = record { listed = λ b X. listed b; alone = λ X. at_kind a kind.Try h.0 refl }
    where
      listed : {X : Test} (b : Bool) → Goes rule (Lex text) X end (rule (placed b f)) p.prev_token_end (symbol AStatement f) p.prev_token_end (λ us. us) (still 0)
      listed true = at_kind a kind.Try h.0 refl
      listed false = at_kind a kind.Try h.0 refl

  try_none : (b : Bool) → Fails rule (Lex text) (plain no_clause) end (try_slots f) p.prev_token_end → NoStatement text (placed b f) p.prev_token_end
  unfolding rule rule_of covers
  try_none b n = alone_fails try_alone b (plain no_clause) (behind_clauses f b) still_behind (fails_node (inside_plain {F' = no_clause} refl) n)

  try_passed : {X : Test} → Path text f X (try_slots f) p (symbol Block f ▸ clauses_of f) q (λ us. us)
  try_passed = token kind.Try a h.0 h.1 refl m

  pub block_stops : (b : Bool) (w : Parser) (e : Stop) → Stops q w e (Underived text (at Block f) q.prev_token_end) → Stops p w e (NoStatement text (placed b f) p.prev_token_end)
  block_stops b w e z = stops_behind w e m.same (λ g. grown_then m.kept g) (λ n. try_none b (try_passed ⟶✗ then_fails (no_block n))) z

  module _ {r : Parser} {block : NodeId} (x : Numbered text f (at Block f) q r block) where
    tried : Path text f (plain no_clause) (try_slots f) p (clauses_of f) r (tree x.answer.label x.answer.slots)
    tried = try_passed ⟶ then_any (block_read x)

    pub tried_same : Same p r
    tried_same = same_both m.same x.answer.same

    pub clauses_stop : (b : Bool) (w : Parser) (e : Stop) → Stops r w e (Fails rule (Lex text) (plain no_clause) end (clauses_of f) r.prev_token_end) → Stops p w e (NoStatement text (placed b f) p.prev_token_end)
    clauses_stop b w e z = stops_behind w e tried_same (λ g. grown_behind tried.verdict g) (λ n. try_none b (tried ⟶✗ n)) z

    module _ {s : Parser} {handler finalizer : Option NodeId} (y : ClausesTaken text f r s handler finalizer) where
      whole : Path text f (plain no_clause) (try_slots f) p nothing s (λ us. tree x.answer.label x.answer.slots (y.slots us))
      whole = then_some tried y.at y.forward y.walked y.verdict

      pub try_further : p.token.span.start < s.prev_token_end
      try_further = whole.further

      try_path : (b : Bool) → Path text f (after_statement (placed b f)) (rule (placed b f)) p nothing s (tree (label_here try_statement no_op p s) (tree x.answer.label x.answer.slots (y.slots end)))
      unfolding rule rule_of covers
      try_path b = alone_path try_alone b (plain no_clause) (behind_clauses f b) still_behind (noded_by a (inside_plain {F' = no_clause} refl) whole)

      pub try_answers : (b : Bool) {w : Parser} {id : NodeId} (v : Span) → v.start ≡ p.token.span.start → v.end ≡ s.prev_token_end → MadeHere (plain_label node.TryStatement op.None v) (Some block ∷ handler ∷ finalizer ∷ []) s w id → Statement text f (placed b f) p w id
      try_answers b {w} {id} v c d n =
          let l : plain_label node.TryStatement op.None v ≡ label_here try_statement no_op p s = rw (c, d) refl in
          let made : MadeHere (label_here try_statement no_op p s) (Some block ∷ handler ∷ finalizer ∷ []) s w id = subst (λ (u : Label). MadeHere u (Some block ∷ handler ∷ finalizer ∷ []) s w id) l n in
          let kr : Keeps p.nodes r.nodes = subst (λ (ns : List Node). Keeps ns r.nodes) m.nodes x.keeps in
          let hr : Holds r.nodes (length p.nodes) (length r.nodes) block.0 x.answer.label x.answer.slots = subst (λ (ns : List Node). Holds r.nodes (length ns) (length r.nodes) block.0 x.answer.label x.answer.slots) m.nodes x.holds in
          by_statement (try_path b) (never_open (label_here try_statement no_op p s) (tree x.answer.label x.answer.slots (y.slots end)) refl) (same_both tried_same y.same) made.stays
          (node_held made (HoldsAll-append (HoldsAll-one block (Holds-kept y.keeps hr)) y.holds)) (Keeps-trans kr (Keeps-trans y.keeps (Keeps-made made.made))) refl (one_lies made)
