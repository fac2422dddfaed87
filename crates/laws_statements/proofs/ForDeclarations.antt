-- A declaration as the first part of the head of a `for` (ECMA-262, 14.7.4, 14.7.5, B.3.5).
use Rattle.std.proofs.Common.{ℕ, ◌≡◌, ◌<◌, inl, inr, max, List, [], ◌∷◌, length, Option, Some, None, Bool, true, false, not, ◌&&◌, IsTrue, refl, sym, ap, subst, arith, ◌∙◌, ◌||◌}
use Rattle.std.specs.Prelude.{IsCharBoundary, ◌↔◌}
use Rattle.js_base.specs.Diagnostics.{class_of}
use Rattle.js_base.specs.declared.diagnostic.DiagnosticClass.TheVariants.{Early}
use Rattle.std.proofs.lemmas.Bool.{false≢true, and_from, and_parts, or_left, or_right}
use Rattle.js_base.specs.declared.diagnostic.Diagnostic.{Diagnostic}
use Rattle.js_base.specs.declared.diagnostic.DiagnosticKind.{DiagnosticKind}
use Rattle.js_base.specs.declared.diagnostic.DiagnosticKind.TheVariants as fault
use Rattle.js_base.specs.declared.kind.Kind.{Kind}
use Rattle.js_base.specs.declared.kind.Kind.TheVariants as kind
use Rattle.js_base.specs.declared.span.Span.{Span}
use Rattle.js_base.specs.Kinds.{same_kind, one_of_kinds}
use Rattle.js_base.proofs.KindLemmas.{kind_of_same}
use Rattle.js_grammar.specs.Marks.{Mark}
use Rattle.js_grammar.specs.Trees.{Label, Slots, end, tree, of, variable_declaration, variable_declarator}
use Rattle.js_grammar.specs.Grammar.{Lexeme, Lexemes, Look, next, here, seen, is, nothing, Takes, is_nothing, is_node, is_commas, is_seq, is_left, is_right, is_lexeme, ◌▸◌}
use Rattle.js_grammar.specs.Insertion.{Row, after_word, edge}
use Rattle.js_grammar.specs.Lexed.{Lexes}
use Rattle.js_grammar.specs.Parsing.{Test, plain, full, passing, still, Admits, Goes, Fails, Reaches}
use Rattle.js_grammar.specs.Productions.{G, Flags, at, minus_in, mk, not_then, op, other, tok, word_or, BindingIdentifier, ForInit, Init}
use Rattle.js_grammar.specs.Productions.{sym as symbol}
use Rattle.js_grammar.specs.Table.{rule, rule_of, declarator, declarators, for_binding}
use Rattle.js_grammar.proofs.Looks.{covers, covered, apart}
use Rattle.js_grammar.proofs.Calculus.{◌▹◌, ◌▹✗◌, here_at, left, right, part_fails, fails_alt, fails_look, fails_node, fails_rule, inside_full, weaken_fails_on}
use Rattle.laws_shared.specs.js_lex.Reading.{is_right_angle}
use Rattle.laws_shared.specs.js_tree.declared.id.NodeId.{NodeId}
use Rattle.laws_shared.specs.js_tree.declared.kind.NodeKind.TheVariants as node
use Rattle.laws_shared.specs.js_tree.declared.op.DeclarationKind.{DeclarationKind}
use Rattle.laws_shared.specs.js_tree.declared.op.DeclarationKind.TheVariants as declared
use Rattle.laws_shared.specs.js_tree.declared.op.Op.TheVariants as made_op
use Rattle.laws_shared.specs.js_tree.Labels.{declaration_kind}
use Rattle.laws_shared.specs.js_tree.Nodes.{Node}
use Rattle.laws_shared.specs.js_tree.Holding.{Holds, HoldsAll, Keeps}
use Rattle.laws_shared.proofs.js_tree.HoldingLemmas.{HoldsAll-one, Keeps-made, Keeps-trans}
use Rattle.laws_shared.specs.js_cursor.Moves.{KeepsDiagnostic}
use Rattle.laws_shared.specs.js_cursor.Parsers.{Parser}
use Rattle.laws_shared.specs.js_cursor.Places.{goal}
use Rattle.laws_shared.specs.js_cursor.declared.stop.Stop.{Stop}
use Rattle.laws_shared.specs.Answers.{Grown, Stops, Stretch, Verdict, unclean}
use Rattle.laws_shared.specs.Classes.{IsEarly}
use Rattle.laws_shared.specs.Lexemes.{Lex, Walked, other_goals, spot}
use Rattle.laws_shared.specs.Moves.{MadeHere, Moved, plain_label}
use Rattle.laws_shared.specs.Stands.{StandsHere}
use Rattle.laws_shared.specs.States.{At, Same, NodesLie}
use Rattle.laws_shared.specs.Told.{unrelated_at}
use Rattle.parse_declarations.specs.Declarations.{AllOf, NoneOf, NoOne, ends_row, is_constant, list_of}
use Rattle.parse_declarations.specs.HeadDeclarators.{BesideThrough, BoundThrough, DeclaratorsBehind, HeadList, HeadRead, NoHeadDeclarator, NoneBehind, ThroughHere, ValueRead, ValueTaken, bound_alone, named_value}
use Rattle.parse_declarations.specs.HeadDeclarators.{goes_through as ends_head}
use Rattle.parse_declarations.specs.declared.head.HeadForm.{HeadForm}
use Rattle.parse_declarations.specs.declared.head.HeadForm.TheVariants as form
use Rattle.parse_declarations.proofs.DeclaratorLists.{all_behind, none_behind}
use Rattle.parse_declarations.proofs.HeadDeclarators.{list_alone}
use Rattle.parse_declarations.proofs.SpansMarked.{span_marked}
use Rattle.laws_statements.specs.declared.forms.Ending.{Ending}
use Rattle.laws_statements.specs.declared.forms.Ending.TheVariants as ending
use Rattle.laws_statements.specs.ForHeads.{FirstTaken, NoFirst, NoFirstPart, end_kind, first_part}
use Rattle.laws_statements.specs.ForParts.{BeginsHead, FaultOf, HeadFault, TellsHead, is_var, may_be, may_not, may_stand, none_stands, through_kind}
use Rattle.laws_statements.specs.LetStatements.{behind_let, LetHere}
use Rattle.laws_shared.proofs.Giving.{kept_one}
use Rattle.laws_shared.proofs.Here.{begins_here}
use Rattle.laws_shared.proofs.MadeNodes.{node_held, made_lies}
use Rattle.laws_shared.proofs.Moving.{beside_nodes, same_both, same_with, stops_behind}
use Rattle.laws_shared.proofs.Paths.{Path, ◌⟼◌, ◌⟶◌, at_kind, by_symbol_as, label_here, noded_by, noding, skips, token, walked_both, walked_one, walked_to}
use Rattle.laws_shared.proofs.Signs.{stands_not}
use Rattle.laws_shared.proofs.Told.{told_at, told_same}
use Rattle.laws_shared.proofs.Verdicts.{behind_none, either_way, grown_both, grown_then, verdict_of}
use Rattle.laws_shared.proofs.Verdicts.{after as grown_behind}
use Rattle.laws_statements.proofs.CompoundStatements.{no_token}
use Rattle.laws_statements.proofs.ForHeads.{no_empty, no_first_part}
use Rattle.laws_statements.proofs.ForParts.{look_in, path_not, stretch_not, verdict_not, without}
use Rattle.laws_statements.proofs.WordLookaheads.{followed, is_word, let_word}
use Rattle.laws_statements.proofs.DeclarationStatements.{word_read}

-- ---- the word, and what it leaves of the three lines

abbrev pub bound_node : Kind → Flags → G
bound_node w f = op variable_declaration w (tok w ▸ bound_alone f)

abbrev pub value_node : Flags → G
value_node f = op variable_declaration kind.Var (tok kind.Var ▸ mk variable_declarator (symbol BindingIdentifier f ▸ symbol Init (minus_in f)))

pub word_stands : (k : DeclarationKind) (p : Parser) → BeginsHead k p → StandsHere p (declaration_kind k) true
word_stands declared.Var p h = h
word_stands declared.Const p h = h
word_stands declared.Let p h = h.here

var_stands : (k : DeclarationKind) (p : Parser) → BeginsHead k p → is_var k ≡ true → StandsHere p kind.Var true
var_stands declared.Var p h e = h
var_stands declared.Const p h e = absurd (false≢true e)
var_stands declared.Let p h e = absurd (false≢true e)

var_kind : (k : DeclarationKind) → is_var k ≡ true → kind.Var ≡ declaration_kind k
var_kind declared.Var e = refl
var_kind declared.Const e = absurd (false≢true e)
var_kind declared.Let e = absurd (false≢true e)

not_semicolon : (k : DeclarationKind) (p : Parser) → StandsHere p (declaration_kind k) true → p.token.kind ≡ kind.Semicolon → ⊥
not_semicolon declared.Var p h e = let z : kind.Var ≡ kind.Semicolon = sym h.0 ∙ e in cc
not_semicolon declared.Const p h e = let z : kind.Const ≡ kind.Semicolon = sym h.0 ∙ e in cc
not_semicolon declared.Let p h e = let z : kind.Let ≡ kind.Semicolon = sym h.0 ∙ e in cc

pub a_lexeme_stands : (k : DeclarationKind) (p : Parser) → StandsHere p (declaration_kind k) true → p.token.kind ≡ kind.Undetermined → ⊥
a_lexeme_stands declared.Var p h e = let z : kind.Var ≡ kind.Undetermined = sym h.0 ∙ e in cc
a_lexeme_stands declared.Const p h e = let z : kind.Const ≡ kind.Undetermined = sym h.0 ∙ e in cc
a_lexeme_stands declared.Let p h e = let z : kind.Let ≡ kind.Undetermined = sym h.0 ∙ e in cc

let_goes_on : covers (λ k w e. behind_let true k) (word_or (kind.LBrack ∷ kind.LCurly ∷ [])) ≡ true
unfolding covers
let_goes_on = refl

module _ {text : List ℕ} {f : Flags} {s : Parser} (a : At text f s) where
  declared_by_let : {X : Test} {g : G} → LetHere true s → Fails rule (Lex text) X end (not_then (is kind.Let) (word_or (kind.LBrack ∷ kind.LCurly ∷ [])) ▸ g) s.prev_token_end
  declared_by_let h = followed a let_word (word_or (kind.LBrack ∷ kind.LCurly ∷ [])) h.here (λ z l. covered (λ k w e. behind_let true k) (word_or (kind.LBrack ∷ kind.LCurly ∷ [])) let_goes_on z.kind z.newline z.escaped (ap (behind_let true) (h.behind text f a z l) ∙ h.goes_on))

  other_word : {X : Test} {g : G} (w v : Kind) → (is_right_angle w || one_of_kinds other_goals w) ≡ false → (v ≡ w → ⊥) → StandsHere s v true → Fails rule (Lex text) X end (op variable_declaration w (tok w ▸ g)) s.prev_token_end
  other_word w v r n h = fails_node inside_full (no_token a w r (λ i j. n (sym h.0 ∙ i)))

  -- what is bound
  to_bound : (k : DeclarationKind) → StandsHere s (declaration_kind k) true → {X : Test} → Goes rule (Lex text) X end (for_binding f) s.prev_token_end (bound_node (declaration_kind k) f) s.prev_token_end (λ us. us) (still 0)
  to_bound declared.Var h = left (fails_alt (other_word kind.Let kind.Var refl (λ e. cc) h) (other_word kind.Const kind.Var refl (λ e. cc) h))
  to_bound declared.Let h = right (other_word kind.Var kind.Let refl (λ e. cc) h) ▹ left (other_word kind.Const kind.Let refl (λ e. cc) h)
  to_bound declared.Const h = right (other_word kind.Var kind.Const refl (λ e. cc) h) ▹ right (other_word kind.Let kind.Const refl (λ e. cc) h)

  -- before a semicolon
  init_word : (k : DeclarationKind) → BeginsHead k s → {X : Test} → Goes rule (Lex text) X end (rule (at ForInit f)) s.prev_token_end (op variable_declaration (declaration_kind k) (declarators (declaration_kind k) (minus_in f))) s.prev_token_end (λ us. us) (still 0)
  unfolding rule rule_of covers apart
  init_word declared.Var h = at_kind a kind.Var h.0 refl
  init_word declared.Const h = at_kind a kind.Const h.0 refl
  init_word declared.Let h = at_kind a kind.Let h.here.0 refl ▹ right (declared_by_let h)

  -- before `in`
  in_bound : (is_await : Bool) (k : DeclarationKind) → BeginsHead k s → {X : Test} → Fails rule (Lex text) X end (value_node f) s.prev_token_end → Goes rule (Lex text) X end (first_part is_await ending.In f) s.prev_token_end (bound_node (declaration_kind k) f) s.prev_token_end (λ us. us) (still 0)
  unfolding covers apart
  in_bound is_await declared.Var h n = at_kind a kind.Var h.0 refl ▹ left n
  in_bound is_await declared.Const h n = at_kind a kind.Const h.0 refl
  in_bound is_await declared.Let h n = right (declared_by_let h) ▹ (left n ▹ to_bound declared.Let h.here)

  in_value : (is_await : Bool) (k : DeclarationKind) → BeginsHead k s → is_var k ≡ true → {X : Test} → Fails rule (Lex text) X end (bound_node (declaration_kind k) f) s.prev_token_end → Goes rule (Lex text) X end (first_part is_await ending.In f) s.prev_token_end (value_node f) s.prev_token_end (λ us. us) (still 0)
  unfolding covers apart
  in_value is_await declared.Var h e n = at_kind a kind.Var h.0 refl ▹ right n
  in_value is_await declared.Const h e n = absurd (false≢true e)
  in_value is_await declared.Let h e n = absurd (false≢true e)

  in_none : (is_await : Bool) (k : DeclarationKind) → BeginsHead k s → {X : Test} → Fails rule (Lex text) X end (bound_node (declaration_kind k) f) s.prev_token_end → Fails rule (Lex text) X end (value_node f) s.prev_token_end → Fails rule (Lex text) X end (first_part is_await ending.In f) s.prev_token_end
  in_none is_await k h n v = in_bound is_await k h v ▹✗ n

  -- before `of`
  of_bound : (is_await : Bool) (k : DeclarationKind) → BeginsHead k s → {X : Test} → Goes rule (Lex text) X end (first_part is_await ending.Of f) s.prev_token_end (bound_node (declaration_kind k) f) s.prev_token_end (λ us. us) (still 0)
  unfolding covers apart
  of_bound true declared.Var h = at_kind a kind.Var h.0 refl
  of_bound false declared.Var h = at_kind a kind.Var h.0 refl
  of_bound true declared.Const h = at_kind a kind.Const h.0 refl
  of_bound false declared.Const h = at_kind a kind.Const h.0 refl
  of_bound is_await declared.Let h = right (part_fails {X' = plain full} (fails_look (other (is kind.Let)) (λ y l q. false≢true (sym (ap not (is_word a let_word h.here y l)) ∙ q))) (record { admits = λ ts us vs j k ls mid rest d d' e. (refl, refl) })) ▹ to_bound declared.Let h.here

-- ---- the node of a list

-- before a semicolon
semicolon_ends_list : (r : Row) (y : Lexeme) → IsTrue (seen (is kind.Semicolon) y) → IsTrue (seen (ends_row r) y)
semicolon_ends_list r y q = or_left _ _ q

module _ {text : List ℕ} {f : Flags} {s : Parser} (a : At text f s) (w : Kind) {g : G} where
  list_noded : (q : Parser) {us : Slots} {pass : Lexemes → Lexemes} → AllOf text g s.prev_token_end q.prev_token_end us pass → Stretch text (plain (is kind.Semicolon)) (op variable_declaration w g) s.prev_token_end nothing q.prev_token_end (tree (label_here variable_declaration (of w) s q) us) pass
  list_noded q {us} {pass} v = record { reach = v.reach; near = v.near; goes = record { passes = v.passes; sound = λ vs ws k ls rest l r d. there vs ws k ls rest l r d; only = λ ts vs k ls rest l d e. back ts vs k ls rest l d e } }
    where
      labelled : ℕ → ℕ → Label
      labelled i j = record { kind = variable_declaration; op = of w; flags = 0; span = record { from = i; to = j } }

      there : (vs ws : Slots) (k : ℕ) (ls rest : Lexemes) → Lexes (Lex text) q.prev_token_end ls → Reaches v.reach q.prev_token_end ls → Takes rule nothing end vs q.prev_token_end ls ws k rest → Takes rule (op variable_declaration w g) end (tree (label_here variable_declaration (of w) s q) us vs) s.prev_token_end (pass ls) ws k rest
      there vs ws k ls rest l r is_nothing = subst (λ (n : ℕ). Takes rule (op variable_declaration w g) end (tree (labelled n q.prev_token_end) us vs) s.prev_token_end (pass ls) vs q.prev_token_end ls) (begins_here a (here (pass ls)) (here_at (Lex text) (pass ls) (v.passes.lexed ls l))) (is_node (v.sound ls l r))

      back : (ts vs : Slots) (k : ℕ) (ls rest : Lexemes) → Lexes (Lex text) s.prev_token_end ls → Takes rule (op variable_declaration w g) end ts s.prev_token_end ls vs k rest → Admits (plain (is kind.Semicolon)) ts (here rest) → (ws : Slots) × (more : Lexemes) × (ts ≡ tree (label_here variable_declaration (of w) s q) us ws) × Lexes (Lex text) q.prev_token_end more × Takes rule nothing end ws q.prev_token_end more vs k rest × (ls ≡ pass more)
      back ts vs k ls rest l (is_node {cs = cs} d) e =
          let x = v.only cs k ls rest l d (semicolon_ends_list _ (here rest) e.0) in
          let b = begins_here a (here ls) (here_at (Lex text) ls l) in
          (vs, rest, (λ i. tree (labelled (b i) (x.1 i)) (x.0 i) vs), x.2, subst (λ (n : ℕ). Takes rule nothing end vs q.prev_token_end rest vs n rest) (sym x.1) is_nothing, x.3)

  no_list_node : NoneOf text g s.prev_token_end → Fails rule (Lex text) (plain (is kind.Semicolon)) end (op variable_declaration w g) s.prev_token_end
  no_list_node v = record { no = λ ts vs k ls rest l d e. go ts vs k ls rest l d e }
    where
      go : (ts vs : Slots) (k : ℕ) (ls rest : Lexemes) → Lexes (Lex text) s.prev_token_end ls → Takes rule (op variable_declaration w g) end ts s.prev_token_end ls vs k rest → Admits (plain (is kind.Semicolon)) ts (here rest) → ⊥
      go ts vs k ls rest l (is_node {cs = cs} d) e = v.no cs k ls rest l d (semicolon_ends_list _ (here rest) e.0)

-- a list of which no first one is derived
no_first : {text : List ℕ} {f : Flags} {s : ℕ} (c : Bool) → NoOne text (declarator c f) s → NoneOf text (list_of c f) s
no_first {text} {f} {s} c n = record { no = λ ts k ls rest l d e. go ts k ls rest l d e }
  where
    go : (ts : Slots) (k : ℕ) (ls rest : Lexemes) → Lexes (Lex text) s ls → Takes rule (list_of c f) end ts s ls end k rest → IsTrue (seen (ends_row (edge after_word after_word ts)) (here rest)) → ⊥
    go ts k ls rest l (is_commas (is_seq {us = us} {j = j} {mid = mid} (is_node d) (is_left (is_seq (is_lexeme q) g)))) e = n.no ts us j ls mid l (is_node d) (or_left (seen (is kind.Comma) (here mid)) _ q)
    go ts k ls rest l (is_commas (is_seq (is_node d) (is_right is_nothing))) e = n.no ts end k ls rest l (is_node d) (or_right (seen (is kind.Comma) (here rest)) _ e)

-- before `in`, what isn't derived before `in` and `of`
before_in : {text : List ℕ} {g : G} {s : ℕ} → Fails rule (Lex text) (plain ends_head) end g s → Fails rule (Lex text) (plain (is kind.In)) end g s
before_in n = weaken_fails_on n (record { admits = λ ts vs k ls rest d e. (look_in (here rest) e.0, refl) })

look_of : (y : Lexeme) → IsTrue (seen (is kind.Of) y) → IsTrue (seen ends_head y)
look_of y q = let z = and_parts (same_kind kind.Of y.kind) (not y.escaped) q in and_from (one_of_kinds (kind.In ∷ kind.Of ∷ []) y.kind) (not y.escaped) (subst (λ (k : Kind). one_of_kinds (kind.In ∷ kind.Of ∷ []) k ≡ true) (kind_of_same kind.Of y.kind z.0) refl) z.1

before_of : {text : List ℕ} {g : G} {s : ℕ} → Fails rule (Lex text) (plain ends_head) end g s → Fails rule (Lex text) (plain (is kind.Of)) end g s
before_of n = weaken_fails_on n (record { admits = λ ts vs k ls rest d e. (look_of (here rest) e.0, refl) })

-- where one stands the others don't
not_in : (p : Parser) (k : Kind) → (k ≡ kind.In → ⊥) → p.token.kind ≡ k → StandsHere p kind.In false
not_in p k n h = λ i j. n (sym h ∙ i)

-- ---- what was read up to a state

pub record ReadTo (text : List ℕ) (f : Flags) (p q : Parser) : Type 0 where
  pub at : At text f q
  pub same : Same p q
  pub further : p.token.span.start < q.prev_token_end
  pub pass : Lexemes → Lexemes
  pub walked : Walked text (spot p) (spot q) pass

-- as the first part of a head, with these slots
record FirstRead (text : List ℕ) (f : Flags) (is_await : Bool) (p q : Parser) (us : Slots) (l : Label) (pass : Lexemes → Lexemes) : Type 0 where
  at : At text f q
  same : Same p q
  further : p.token.span.start < q.prev_token_end
  walked : Walked text (spot p) (spot q) pass
  read : (e : Ending) → StandsHere q (end_kind e) true → Verdict (f.wide ≡ true) p.errors q.errors (Stretch text (plain (is (end_kind e))) (first_part is_await e f) p.prev_token_end nothing q.prev_token_end (tree l us) pass) (NoFirst text is_await e f p.prev_token_end)
  none : (e : Ending) → StandsHere q (end_kind e) false → NoFirst text is_await e f p.prev_token_end
  kept : (ds : List Diagnostic) → Grown q.errors ds → Grown p.errors ds

module _ {text : List ℕ} {f : Flags} (is_await : Bool) {p : Parser} (a : At text f p) where
  -- and its node was made
  first_made : {q w : Parser} {l : Label} {us : Slots} {pass : Lexemes → Lexemes} {ids : List (Option NodeId)} {id : NodeId} → FirstRead text f is_await p q us l pass → HoldsAll q.nodes (length p.nodes) (length q.nodes) ids us → Keeps p.nodes q.nodes → l.span ≡ record { from = p.token.span.start; to = q.prev_token_end } → MadeHere l ids q w id → FirstTaken text f is_await p w (Some id)
  first_made {q} {w} {l} {us} {pass} {ids} {id} x h k e n = go w.nodes n.stays (node_held n h) (Keeps-trans k (Keeps-made n.made)) (made_lies x.same x.at.at (let i = x.further in omega arith) n e)
    where
      go : (ns : List Node) → w ≡ record q { nodes = ns } → Holds w.nodes (length p.nodes) (length w.nodes) id.0 l us → Keeps p.nodes w.nodes → (IsCharBoundary p.text p.token.span.start → NodesLie q.text q.nodes → NodesLie q.text w.nodes) → FirstTaken text f is_await p w (Some id)
      go ns m g k' i = subst (λ (z : Parser). FirstTaken text f is_await p z (Some id)) (sym m) (record {
        at = beside_nodes ns x.at;
        same = same_with ns x.same (subst (λ (z : Parser). Keeps p.nodes z.nodes) m k') (λ b z. subst (λ (v : Parser). NodesLie q.text v.nodes) m (i b z));
        forward = let j = x.further in let o = a.behind in omega arith;
        begins = let j = x.further in let o = x.at.behind in omega arith;
        slots = tree l us;
        puts = λ vs. refl;
        strips = λ vs. refl;
        pass = pass;
        walked = x.walked;
        read = λ e s. verdict_of (x.read e s) (λ y. y) (λ n. no_first_part f is_await e n);
        none = λ e s. no_first_part f is_await e (x.none e s);
        kept = λ ds d. x.kept ds d;
        held = HoldsAll-one id (subst (λ (z : Parser). Holds z.nodes (length p.nodes) (length z.nodes) id.0 l us) m g);
        keeps = subst (λ (z : Parser). Keeps p.nodes z.nodes) m k';
      })

  -- that none is derived was told
  told_read : {q r : Parser} {us : Slots} {l : Label} {pass : Lexemes → Lexemes} {d : Diagnostic} → At text f q → Same p q → p.token.span.start < q.prev_token_end → Walked text (spot p) (spot q) pass → ((ds : List Diagnostic) → Grown q.errors ds → Grown p.errors ds) → ((e : Ending) → NoFirst text is_await e f p.prev_token_end) → IsEarly d → KeepsDiagnostic d q r → FirstRead text f is_await p r us l pass
  told_read b s j w g n y u = record {
    at = told_at u b;
    same = same_both s (told_same u y);
    further = let e = ap (λ (z : Parser). z.prev_token_end) u.is in omega arith;
    walked = walked_to (sym (ap spot u.is)) w;
    read = λ e z. unclean (g _ (kept_one u)) (n e);
    none = λ e z. n e;
    kept = λ ds d. g ds (grown_both (kept_one u) d);
  }

-- ---- behind the word

module _ {text : List ℕ} {f : Flags} {p q : Parser} (k : DeclarationKind) (a : At text f p) (b : BeginsHead k p) (i : f.in_ ≡ false) (m : Moved text f p q) where
  -- ---- of several declarators
  module _ (r : Parser) (j : r.token.kind ≡ kind.Comma) where
    not_through : {first : NodeId} (g : HeadForm) → HeadRead g text f (is_constant k) q r (record { node = first; form = g }) → BesideThrough text f (is_constant k) g q r first
    not_through form.Through x = absurd (by x.here)
      where
        by : ThroughHere r true → ⊥
        by (inl h) = let z : kind.Comma ≡ kind.In = sym j ∙ h.0 in cc
        by (inr h) = let z : kind.Comma ≡ kind.Of = sym j ∙ h.0 in cc
    not_through form.Bare x = x
    not_through form.InitialisedName x = x
    not_through form.InitialisedPattern x = x

    pub first_of_several : (first : NodeId) (g : HeadForm) → HeadRead g text f (is_constant k) q r (record { node = first; form = g }) → {u : Parser} {ids : List (Option NodeId)} → DeclaratorsBehind (is_constant k) first r u ids → HeadList text f (is_constant k) q u ids
    first_of_several first g x y = y.1 text f q m.at (not_through g x).read

  -- ---- marks

  pub list_reached : {v : Parser} {ids : List (Option NodeId)} → HeadList text f (is_constant k) q v ids → ReadTo text f p v
  list_reached y = record { at = y.at; same = same_both m.same y.same; further = let j = m.further in let o = m.at.behind in let d = y.further in omega arith; pass = λ ls. next m.lexeme (y.pass ls); walked = walked_both (walked_one m) y.walked }

  pub one_reached : (g : HeadForm) (r : Parser) (first : NodeId) → HeadRead g text f (is_constant k) q r (record { node = first; form = g }) → ReadTo text f p r
  one_reached form.Through r first x = record { at = x.at; same = same_both m.same x.same; further = let j = m.further in let o = m.at.behind in let d = x.further in omega arith; pass = λ ls. next m.lexeme (x.pass ls); walked = walked_both (walked_one m) x.walked }
  one_reached form.Bare r first x = record { at = x.read.at; same = same_both m.same x.read.same; further = let j = m.further in let o = m.at.behind in let d = x.read.further in omega arith; pass = λ ls. next m.lexeme (x.read.pass ls); walked = walked_both (walked_one m) x.read.walked }
  one_reached form.InitialisedName r first x = record { at = x.read.at; same = same_both m.same x.read.same; further = let j = m.further in let o = m.at.behind in let d = x.read.further in omega arith; pass = λ ls. next m.lexeme (x.read.pass ls); walked = walked_both (walked_one m) x.read.walked }
  one_reached form.InitialisedPattern r first x = record { at = x.read.at; same = same_both m.same x.read.same; further = let j = m.further in let o = m.at.behind in let d = x.read.further in omega arith; pass = λ ls. next m.lexeme (x.read.pass ls); walked = walked_both (walked_one m) x.read.walked }

  pub fault_marked : {r : Parser} → ReadTo text f p r → (s : Span) → s.start ≡ p.token.span.start → s.end ≡ r.prev_token_end → (d : DiagnosticKind) → HeadFault d → Mark (goal r) r.text (unrelated_at d s)
  fault_marked {r} x s c e d h = by h
    where
      marked : (d : DiagnosticKind) → Mark (goal r) r.text (unrelated_at d s) → (v : DiagnosticKind) → v ≡ d → Mark (goal r) r.text (unrelated_at v s)
      marked d m v e = subst (λ (z : DiagnosticKind). Mark (goal r) r.text (unrelated_at z s)) (sym e) m

      by : HeadFault d → Mark (goal r) r.text (unrelated_at d s)
      by (inl q) = marked fault.MultipleDeclarationsInForLoopHead (span_marked a (a_lexeme_stands k p (word_stands k p b)) x.at x.same x.walked x.further fault.MultipleDeclarationsInForLoopHead s refl (λ s i j. ((i, j), (refl, refl))) c e) d q
      by (inr (inl q)) = marked fault.InitializerInForInLexicalDeclaration (span_marked a (a_lexeme_stands k p (word_stands k p b)) x.at x.same x.walked x.further fault.InitializerInForInLexicalDeclaration s refl (λ s i j. ((i, j), (refl, refl))) c e) d q
      by (inr (inr q)) = marked fault.InitializerInForHead (span_marked a (a_lexeme_stands k p (word_stands k p b)) x.at x.same x.walked x.further fault.InitializerInForHead s refl (λ s i j. ((i, j), (refl, refl))) c e) d q

module _ {text : List ℕ} {f : Flags} (is_await : Bool) {p q : Parser} (k : DeclarationKind) (a : At text f p) (b : BeginsHead k p) (i : f.in_ ≡ false) (m : Moved text f p q) where
  abbrev word : Kind
  word = declaration_kind k

  here_word : StandsHere p (declaration_kind k) true
  here_word = word_stands k p b

  behind_word : {X : Test} {g : G} → Goes rule (Lex text) X end (tok (declaration_kind k) ▸ g) p.prev_token_end g q.prev_token_end (λ us. us) (passing m.lexeme)
  behind_word = skips a (declaration_kind k) here_word.0 here_word.1 (word_read k) m

  no_init_node : Fails rule (Lex text) (plain (is kind.Semicolon)) end (op variable_declaration (declaration_kind k) (declarators (declaration_kind k) f)) p.prev_token_end → NoFirst text is_await ending.Semicolon f p.prev_token_end
  no_init_node n = fails_alt (fails_rule {X' = plain (is kind.Semicolon)} (λ l cs vs y e. e) (init_word a k b ▹✗ subst (λ (g : Flags). Fails rule (Lex text) (plain (is kind.Semicolon)) end (op variable_declaration (declaration_kind k) (declarators (declaration_kind k) g)) p.prev_token_end) (sym (without i)) n)) (no_empty a kind.Semicolon (inl refl) (not_semicolon k p here_word))

  no_value_node : Fails rule (Lex text) (plain (is kind.In)) end (named_value f) q.prev_token_end → Fails rule (Lex text) (plain (is kind.In)) end (value_node f) p.prev_token_end
  no_value_node n = by k b m
    where
      by : (k : DeclarationKind) → BeginsHead k p → Moved text f p q → Fails rule (Lex text) (plain (is kind.In)) end (value_node f) p.prev_token_end
      by declared.Var h m = subst (λ (g : Flags). Fails rule (Lex text) (plain (is kind.In)) end (op variable_declaration kind.Var (tok kind.Var ▸ mk variable_declarator (symbol BindingIdentifier f ▸ symbol Init g))) p.prev_token_end) (sym (without i)) (fails_node {X' = plain (is kind.In)} (record { ends = λ s cs vs j ls mid d e. e }) (skips a kind.Var h.0 h.1 refl m ▹✗ n))
      by declared.Const h m = other_word a kind.Var kind.Const refl (λ e. cc) h
      by declared.Let h m = other_word a kind.Var kind.Let refl (λ e. cc) h.here

  no_bound_node : {T : Look} → Fails rule (Lex text) (plain T) end (bound_alone f) q.prev_token_end → Fails rule (Lex text) (plain T) end (bound_node (declaration_kind k) f) p.prev_token_end
  no_bound_node {T} n = fails_node {X' = plain T} (record { ends = λ s cs vs j ls mid d e. e }) (behind_word ▹✗ n)

  no_list : NoneOf text (list_of (is_constant k) f) q.prev_token_end → NoFirst text is_await ending.Semicolon f p.prev_token_end
  no_list n = no_init_node (no_list_node a (declaration_kind k) (none_behind behind_word n))

  -- neither is what is bound alone
  module _ (n : Fails rule (Lex text) (plain ends_head) end (bound_alone f) q.prev_token_end) where
    no_of : NoFirst text is_await ending.Of f p.prev_token_end
    no_of = of_bound a is_await k b ▹✗ no_bound_node (before_of n)

    no_in : Fails rule (Lex text) (plain (is kind.In)) end (value_node f) p.prev_token_end → NoFirst text is_await ending.In f p.prev_token_end
    no_in v = in_none a is_await k b (no_bound_node (before_in n)) v

  pub head_none : NoHeadDeclarator text f (is_constant k) q.prev_token_end → (e : Ending) → NoFirst text is_await e f p.prev_token_end
  head_none n ending.Semicolon = no_list (no_first (is_constant k) n.no_one)
  head_none n ending.In = no_in n.not_alone (no_value_node (n.no_value i))
  head_none n ending.Of = no_of n.not_alone

  pub head_stops : (v : Parser) (e : Stop) → Stops q v e (NoHeadDeclarator text f (is_constant k) q.prev_token_end) → Stops p v e ((e : Ending) → NoFirstPart text is_await e f p.prev_token_end)
  head_stops v e s = stops_behind v e m.same (λ g. grown_then m.kept g) (λ n d. no_first_part f is_await d (head_none n d)) s

  -- ---- before `in` or `of` what is bound alone
  module _ {r : Parser} {first : NodeId} (x : BoundThrough text f (is_constant k) q r first) where
    abbrev bound_slots : Slots
    bound_slots = tree x.label x.slots end

    abbrev bound_pass : Lexemes → Lexemes
    bound_pass ls = next m.lexeme (x.pass ls)

    bound_verdict : (e : Ending) → Goes rule (Lex text) (plain (is (end_kind e))) end (first_part is_await e f) p.prev_token_end (bound_node (declaration_kind k) f) p.prev_token_end (λ us. us) (still 0) → Verdict (f.wide ≡ true) p.errors r.errors (Stretch text (plain (is (end_kind e))) (first_part is_await e f) p.prev_token_end nothing r.prev_token_end (tree (label_here variable_declaration (of (declaration_kind k)) p r) bound_slots) bound_pass) (NoFirst text is_await e f p.prev_token_end)
    bound_verdict e l = behind_none m.kept (verdict_of x.verdict (λ y. made y) (λ n. l ▹✗ fails_node inside_full (behind_word ▹✗ n)))
      where
        made : Stretch text (plain full) (bound_alone f) q.prev_token_end nothing r.prev_token_end (tree x.label x.slots) x.pass → Stretch text (plain (is (end_kind e))) (first_part is_await e f) p.prev_token_end nothing r.prev_token_end (tree (label_here variable_declaration (of (declaration_kind k)) p r) bound_slots) bound_pass
        made y =
            let z = noding {X = plain (is (end_kind e))} {X' = plain full} {k = variable_declaration} {o = of (declaration_kind k)} {pass = bound_pass} r a inside_full (record { reach = max 0 y.reach; near = let i = y.near in omega arith; goes = behind_word ▹ y.goes }) in
            record { reach = max 0 z.reach; near = let i = z.near in omega arith; goes = l ▹ z.goes }

    bound_in : Verdict (f.wide ≡ true) p.errors r.errors (Stretch text (plain (is kind.In)) (first_part is_await ending.In f) p.prev_token_end nothing r.prev_token_end (tree (label_here variable_declaration (of (declaration_kind k)) p r) bound_slots) bound_pass) (NoFirst text is_await ending.In f p.prev_token_end)
    bound_in = bound_verdict ending.In (in_bound a is_await k b (no_value_node x.no_value))

    bound_of : Verdict (f.wide ≡ true) p.errors r.errors (Stretch text (plain (is kind.Of)) (first_part is_await ending.Of f) p.prev_token_end nothing r.prev_token_end (tree (label_here variable_declaration (of (declaration_kind k)) p r) bound_slots) bound_pass) (NoFirst text is_await ending.Of f p.prev_token_end)
    bound_of = bound_verdict ending.Of (of_bound a is_await k b)

    no_list_there : NoFirst text is_await ending.Semicolon f p.prev_token_end
    no_list_there = no_init_node (fails_node {X' = plain (is kind.Semicolon)} (record { ends = λ s cs vs j ls mid d e. e }) (behind_word ▹✗ x.no_list))

    none_ends : ThroughHere r true → StandsHere r kind.Semicolon true → ⊥
    none_ends (inl h) s = let z : kind.In ≡ kind.Semicolon = sym h.0 ∙ s.0 in cc
    none_ends (inr h) s = let z : kind.Of ≡ kind.Semicolon = sym h.0 ∙ s.0 in cc

    bound_read : FirstRead text f is_await p r bound_slots (label_here variable_declaration (of (declaration_kind k)) p r) (λ ls. next m.lexeme (x.pass ls))
    bound_read = record {
      at = x.at;
      same = same_both m.same x.same;
      further = let j = m.further in let o = m.at.behind in let d = x.further in omega arith;
      walked = walked_both (walked_one m) x.walked;
      read = λ e s. reads e s;
      none = λ e s. fails e s;
      kept = λ ds g. grown_then m.kept (grown_behind x.verdict g);
    }
      where
        reads : (e : Ending) → StandsHere r (end_kind e) true → Verdict (f.wide ≡ true) p.errors r.errors (Stretch text (plain (is (end_kind e))) (first_part is_await e f) p.prev_token_end nothing r.prev_token_end (tree (label_here variable_declaration (of (declaration_kind k)) p r) bound_slots) (λ ls. next m.lexeme (x.pass ls))) (NoFirst text is_await e f p.prev_token_end)
        reads ending.Semicolon s = absurd (none_ends x.here s)
        reads ending.In s = bound_in
        reads ending.Of s = bound_of

        fails : (e : Ending) → StandsHere r (end_kind e) false → NoFirst text is_await e f p.prev_token_end
        fails ending.Semicolon s = no_list_there
        fails ending.In s = verdict_not ending.In bound_in x.at s
        fails ending.Of s = verdict_not ending.Of bound_of x.at s

  -- ---- declarators
  module _ {r v : Parser} {g : HeadForm} {first : NodeId} {ids : List (Option NodeId)} (x : BesideThrough text f (is_constant k) g q r first) (y : HeadList text f (is_constant k) q v ids) where
    list_path : Path text f (plain (is kind.Semicolon)) (op variable_declaration (declaration_kind k) (declarators (declaration_kind k) f)) p nothing v (tree (label_here variable_declaration (of (declaration_kind k)) p v) y.slots)
    list_path = record {
      at = y.at;
      further = let j = m.further in let d = y.further in omega arith;
      pass = λ ls. next m.lexeme (y.pass ls);
      walked = walked_both (walked_one m) y.walked;
      verdict = behind_none m.kept (verdict_of y.verdict (λ z. list_noded a (declaration_kind k) v (all_behind behind_word z (let d = y.further in omega arith))) (λ n. no_list_node a (declaration_kind k) (none_behind behind_word n)));
    }

    init_path : Path text f (plain (is kind.Semicolon)) (first_part is_await ending.Semicolon f) p nothing v (tree (label_here variable_declaration (of (declaration_kind k)) p v) y.slots)
    init_path = left (no_empty a kind.Semicolon (inl refl) (not_semicolon k p here_word)) ⟼ by_symbol_as {X' = plain (is kind.Semicolon)} (λ l cs vs y e. e) (init_word a k b ⟼ subst (λ (h : Flags). Path text f (plain (is kind.Semicolon)) (op variable_declaration (declaration_kind k) (declarators (declaration_kind k) h)) p nothing v (tree (label_here variable_declaration (of (declaration_kind k)) p v) y.slots)) (sym (without i)) list_path)

    list_grown : {ds : List Diagnostic} → Grown v.errors ds → Grown p.errors ds
    list_grown g = grown_then m.kept (grown_behind y.verdict g)

    list_same : Same p v
    list_same = same_both m.same y.same

    list_further : p.token.span.start < v.prev_token_end
    list_further = let j = m.further in let o = m.at.behind in let d = y.further in omega arith

    -- before neither `in` nor `of`
    list_read : ThroughHere v false → NoFirst text is_await ending.In f p.prev_token_end → FirstRead text f is_await p v y.slots (label_here variable_declaration (of (declaration_kind k)) p v) init_path.pass
    list_read u n = record {
      at = y.at;
      same = list_same;
      further = list_further;
      walked = init_path.walked;
      read = λ e s. reads e s;
      none = λ e s. fails e s;
      kept = λ ds g. list_grown g;
    }
      where
        reads : (e : Ending) → StandsHere v (end_kind e) true → Verdict (f.wide ≡ true) p.errors v.errors (Stretch text (plain (is (end_kind e))) (first_part is_await e f) p.prev_token_end nothing v.prev_token_end (tree (label_here variable_declaration (of (declaration_kind k)) p v) y.slots) init_path.pass) (NoFirst text is_await e f p.prev_token_end)
        reads ending.Semicolon s = init_path.verdict
        reads ending.In s = absurd (u.0 s.0 s.1)
        reads ending.Of s = absurd (u.1 s.0 s.1)

        fails : (e : Ending) → StandsHere v (end_kind e) false → NoFirst text is_await e f p.prev_token_end
        fails ending.Semicolon s = path_not ending.Semicolon init_path y.at s
        fails ending.In s = n
        fails ending.Of s = no_of x.not_alone

    no_semicolon_there : (c : Bool) → StandsHere v (through_kind c) true → StandsHere v kind.Semicolon false
    no_semicolon_there true h = λ i j. let z : kind.In ≡ kind.Semicolon = sym h.0 ∙ i in cc
    no_semicolon_there false h = λ i j. let z : kind.Of ≡ kind.Semicolon = sym h.0 ∙ i in cc

    -- before one of them, where that was told
    list_nones : (c : Bool) → StandsHere v (through_kind c) true → NoFirst text is_await ending.In f p.prev_token_end → (e : Ending) → NoFirst text is_await e f p.prev_token_end
    list_nones c h n ending.Semicolon = path_not ending.Semicolon init_path y.at (no_semicolon_there c h)
    list_nones c h n ending.In = n
    list_nones c h n ending.Of = no_of x.not_alone

    list_told : {u : Parser} {d : Diagnostic} (c : Bool) → StandsHere v (through_kind c) true → NoFirst text is_await ending.In f p.prev_token_end → IsEarly d → KeepsDiagnostic d v u → FirstRead text f is_await p u y.slots (label_here variable_declaration (of (declaration_kind k)) p v) init_path.pass
    list_told c h n e z = told_read is_await a y.at list_same list_further init_path.walked (λ ds g. list_grown g) (λ d. list_nones c h n d) e z

    -- a name with an initialiser isn't derived before `in` where that doesn't stand behind the first one, nor another one
    no_value_there : StandsHere r kind.In false → Fails rule (Lex text) (plain (is kind.In)) end (named_value f) q.prev_token_end
    no_value_there n = by g (x.value i)
      where
        by : (g : HeadForm) → ValueRead g text f q r first → Fails rule (Lex text) (plain (is kind.In)) end (named_value f) q.prev_token_end
        by form.InitialisedName z = either_way z.verdict (λ w. stretch_not kind.In w (stands_not x.read.at refl n)) (λ w. w)
        by form.Through z = z
        by form.Bare z = z
        by form.InitialisedPattern z = z

    no_in_there : StandsHere r kind.In false → NoFirst text is_await ending.In f p.prev_token_end
    no_in_there n = no_in x.not_alone (no_value_node (no_value_there n))

    -- nor one that may not stand there
    no_in_told : may_stand k g true true ≡ false → NoFirst text is_await ending.In f p.prev_token_end
    no_in_told e = no_in x.not_alone (by g e (x.value i))
      where
        lexical : (k : DeclarationKind) → BeginsHead k p → (is_var k && true) ≡ false → Fails rule (Lex text) (plain (is kind.In)) end (value_node f) p.prev_token_end
        lexical declared.Var h e = absurd (false≢true (sym e))
        lexical declared.Const h e = other_word a kind.Var kind.Const refl (λ e. cc) h
        lexical declared.Let h e = other_word a kind.Var kind.Let refl (λ e. cc) h.here

        by : (g : HeadForm) → may_stand k g true true ≡ false → ValueRead g text f q r first → Fails rule (Lex text) (plain (is kind.In)) end (value_node f) p.prev_token_end
        by form.InitialisedName e z = lexical k b e
        by form.Through e z = no_value_node z
        by form.Bare e z = no_value_node z
        by form.InitialisedPattern e z = no_value_node z

  -- a name with an initialiser before `in`
  module _ {r : Parser} {first : NodeId} (x : BesideThrough text f (is_constant k) form.InitialisedName q r first) (y : HeadList text f (is_constant k) q r (Some first ∷ [])) (v : is_var k ≡ true) (h : StandsHere r kind.In true) where
    value : ValueTaken text f q r first
    value = x.value i

    behind_var : {X : Test} {w : G} → Path text f X (tok kind.Var ▸ w) p w q (λ us. us)
    behind_var = let z = var_stands k p b v in token kind.Var a z.0 z.1 refl m

    value_path : Path text f (plain (is kind.In)) (first_part is_await ending.In f) p nothing r (tree (label_here variable_declaration (of kind.Var) p r) (tree value.label value.slots end))
    value_path = in_value a is_await k b v (no_bound_node (before_in x.not_alone)) ⟼ subst (λ (g : Flags). Path text f (plain (is kind.In)) (op variable_declaration kind.Var (tok kind.Var ▸ mk variable_declarator (symbol BindingIdentifier f ▸ symbol Init g))) p nothing r (tree (label_here variable_declaration (of kind.Var) p r) (tree value.label value.slots end))) (sym (without i))
        (noded_by {X' = plain (is kind.In)} a (record { ends = λ s cs vs j ls mid d e. e }) (behind_var ⟶ record { at = x.read.at; further = x.read.further; pass = value.pass; walked = value.walked; verdict = value.verdict }))

    value_read : FirstRead text f is_await p r (tree value.label value.slots end) (label_here variable_declaration (of (declaration_kind k)) p r) value_path.pass
    value_read = subst (λ (w : Kind). FirstRead text f is_await p r (tree value.label value.slots end) (label_here variable_declaration (of w) p r) value_path.pass) (var_kind k v) (record {
      at = x.read.at;
      same = list_same x y;
      further = list_further x y;
      walked = value_path.walked;
      read = λ e s. reads e s;
      none = λ e s. fails e s;
      kept = λ ds g. list_grown x y g;
    })
      where
        reads : (e : Ending) → StandsHere r (end_kind e) true → Verdict (f.wide ≡ true) p.errors r.errors (Stretch text (plain (is (end_kind e))) (first_part is_await e f) p.prev_token_end nothing r.prev_token_end (tree (label_here variable_declaration (of kind.Var) p r) (tree value.label value.slots end)) value_path.pass) (NoFirst text is_await e f p.prev_token_end)
        reads ending.Semicolon s = absurd (no_semicolon_there x y true h s.0 s.1)
        reads ending.In s = value_path.verdict
        reads ending.Of s = absurd (let z : kind.In ≡ kind.Of = sym h.0 ∙ s.0 in cc)

        fails : (e : Ending) → StandsHere r (end_kind e) false → NoFirst text is_await e f p.prev_token_end
        fails ending.Semicolon s = path_not ending.Semicolon (init_path x y) y.at s
        fails ending.In s = absurd (s h.0 h.1)
        fails ending.Of s = no_of x.not_alone

  -- ---- what the call answers

  made_of : (r : Parser) {v w : Parser} {us : Slots} {pass : Lexemes → Lexemes} {ids : List (Option NodeId)} {id : NodeId} (s : Span) → s.start ≡ p.token.span.start → s.end ≡ r.prev_token_end → v.nodes ≡ r.nodes → v.prev_token_end ≡ r.prev_token_end → FirstRead text f is_await p v us (label_here variable_declaration (of (declaration_kind k)) p r) pass → HoldsAll r.nodes (length q.nodes) (length r.nodes) ids us → Keeps q.nodes r.nodes → MadeHere (plain_label node.VariableDeclaration (made_op.Declaration k) s) ids v w id → FirstTaken text f is_await p w (Some id)
  made_of r {v} {w} {us} {pass} {ids} {id} s c d e o x h z n =
      let l : plain_label node.VariableDeclaration (made_op.Declaration k) s ≡ label_here variable_declaration (of (declaration_kind k)) p r = rw (c, d) refl in
      let hp : HoldsAll r.nodes (length p.nodes) (length r.nodes) ids us = subst (λ (ns : List Node). HoldsAll r.nodes (length ns) (length r.nodes) ids us) m.nodes h in
      let kp : Keeps p.nodes r.nodes = subst (λ (ns : List Node). Keeps ns r.nodes) m.nodes z in
      first_made is_await a x (subst (λ (ns : List Node). HoldsAll ns (length p.nodes) (length ns) ids us) (sym e) hp) (subst (λ (ns : List Node). Keeps p.nodes ns) (sym e) kp) (ap (λ (j : ℕ). record { from = p.token.span.start; to = j }) (sym o)) (subst (λ (u : Label). MadeHere u ids v w id) l n)

  -- of one declarator
  module _ (r : Parser) {v w : Parser} {first id : NodeId} (j : r.token.kind ≡ kind.Comma → ⊥) (s : Span) (c : s.start ≡ p.token.span.start) (d : s.end ≡ r.prev_token_end) (n : MadeHere (plain_label node.VariableDeclaration (made_op.Declaration k) s) (Some first ∷ []) v w id) where
    bound_answers : BoundThrough text f (is_constant k) q r first → TellsHead k form.Through true r v → FirstTaken text f is_await p w (Some id)
    bound_answers x t = by t
      where
        stays : v ≡ r → FirstTaken text f is_await p w (Some id)
        stays e = made_of r s c d (ap (λ (z : Parser). z.nodes) e) (ap (λ (z : Parser). z.prev_token_end) e) (subst (λ (z : Parser). FirstRead text f is_await p z (bound_slots x) (label_here variable_declaration (of (declaration_kind k)) p r) (λ ls. next m.lexeme (x.pass ls))) (sym e) (bound_read x)) (HoldsAll-one first x.holds) x.keeps n

        by : TellsHead k form.Through true r v → FirstTaken text f is_await p w (Some id)
        by (none_stands h e) = stays e
        by (may_be h u o e) = stays e
        by (may_not h u o d y z) = absurd (false≢true (sym o))

    module _ (g : HeadForm) (l : g ≡ form.Through → ⊥) (x : BesideThrough text f (is_constant k) g q r first) where
      alone : HeadList text f (is_constant k) q r (Some first ∷ [])
      alone = (list_alone refl refl j).1 text f q m.at x.read

      one_answers : TellsHead k g true r v → FirstTaken text f is_await p w (Some id)
      one_answers (none_stands h e) = made_of r s c d (ap (λ (z : Parser). z.nodes) e) (ap (λ (z : Parser). z.prev_token_end) e) (subst (λ (z : Parser). FirstRead text f is_await p z alone.slots (label_here variable_declaration (of (declaration_kind k)) p r) (init_path x alone).pass) (sym e) (list_read x alone h (no_in_there x alone h.0))) alone.holds alone.keeps n
      one_answers (may_be h u o e) = by g l x h u o
        where
          by : (g : HeadForm) → (g ≡ form.Through → ⊥) → BesideThrough text f (is_constant k) g q r first → (h : Bool) → StandsHere r (through_kind h) true → may_stand k g true h ≡ true → FirstTaken text f is_await p w (Some id)
          by form.Through l x h u o = absurd (l refl)
          by form.Bare l x h u o = absurd (false≢true o)
          by form.InitialisedPattern l x h u o = absurd (false≢true o)
          by form.InitialisedName l x false u o = absurd (false≢true (and_parts (is_var k) false o).1)
          by form.InitialisedName l x true u o =
              let y = (list_alone refl refl j).1 text f q m.at x.read in
              let v = (and_parts (is_var k) true o).0 in
              let z = value_read x y v u in
              made_of r s c d (ap (λ (z : Parser). z.nodes) e) (ap (λ (z : Parser). z.prev_token_end) e) (subst (λ (z : Parser). FirstRead text f is_await p z (tree (value x y v u).label (value x y v u).slots end) (label_here variable_declaration (of (declaration_kind k)) p r) (value_path x y v u).pass) (sym e) z) (HoldsAll-one first (value x y v u).holds) x.read.keeps n
      one_answers (may_not h u o e y z) = made_of r s c d (ap (λ (z : Parser). z.nodes) z.is) (ap (λ (z : Parser). z.prev_token_end) z.is) (list_told x alone h u (by h u o) y z) alone.holds alone.keeps n
        where
          by : (h : Bool) → StandsHere r (through_kind h) true → may_stand k g true h ≡ false → NoFirst text is_await ending.In f p.prev_token_end
          by true u o = no_in_told x alone o
          by false u o = no_in_there x alone (λ i j. let z : kind.Of ≡ kind.In = sym u.0 ∙ i in cc)

    pub one_first : (e : HeadForm) → HeadRead e text f (is_constant k) q r (record { node = first; form = e }) → TellsHead k e true r v → FirstTaken text f is_await p w (Some id)
    one_first form.Through x t = bound_answers x t
    one_first form.Bare x t = one_answers form.Bare (λ e. cc) x t
    one_first form.InitialisedName x t = one_answers form.InitialisedName (λ e. cc) x t
    one_first form.InitialisedPattern x t = one_answers form.InitialisedPattern (λ e. cc) x t

  -- of several
  module _ (r : Parser) (j : r.token.kind ≡ kind.Comma) where
    no_in_here : StandsHere r kind.In false
    no_in_here = not_in r kind.Comma (λ e. cc) j

    pub others_stop : (first : NodeId) (g : HeadForm) → HeadRead g text f (is_constant k) q r (record { node = first; form = g }) → (u : Parser) (e : Stop) → NoneBehind (is_constant k) first r u e → Stops p u e ((e : Ending) → NoFirstPart text is_await e f p.prev_token_end)
    others_stop first g x u e y = let z = not_through k a b i m r j g x in stops_behind u e m.same (λ g. grown_then m.kept g) (λ n d. no_first_part f is_await d (none_first_of z n d)) (y text f q m.at z.read)
      where
        none_value : (g : HeadForm) → BesideThrough text f (is_constant k) g q r first → ValueRead g text f q r first → Fails rule (Lex text) (plain (is kind.In)) end (named_value f) q.prev_token_end
        none_value form.InitialisedName z v = either_way v.verdict (λ w. stretch_not kind.In w (stands_not z.read.at refl no_in_here)) (λ w. w)
        none_value form.Through z v = v
        none_value form.Bare z v = v
        none_value form.InitialisedPattern z v = v

        none_first_of : BesideThrough text f (is_constant k) g q r first → NoneOf text (list_of (is_constant k) f) q.prev_token_end → (d : Ending) → NoFirst text is_await d f p.prev_token_end
        none_first_of z n ending.Semicolon = no_list n
        none_first_of z n ending.In = no_in z.not_alone (no_value_node (none_value g z (z.value i)))
        none_first_of z n ending.Of = no_of z.not_alone

    pub several_first : (first : NodeId) (g : HeadForm) → HeadRead g text f (is_constant k) q r (record { node = first; form = g }) → {u v w : Parser} {ids : List (Option NodeId)} {id : NodeId} → HeadList text f (is_constant k) q u ids → (s : Span) → s.start ≡ p.token.span.start → s.end ≡ u.prev_token_end → TellsHead k g false u v → MadeHere (plain_label node.VariableDeclaration (made_op.Declaration k) s) ids v w id → FirstTaken text f is_await p w (Some id)
    several_first first g t {u} {v} {w} {ids} {id} y s c d (none_stands h e) n = let x = not_through k a b i m r j g t in made_of u s c d (ap (λ (z : Parser). z.nodes) e) (ap (λ (z : Parser). z.prev_token_end) e) (subst (λ (z : Parser). FirstRead text f is_await p z y.slots (label_here variable_declaration (of (declaration_kind k)) p u) (init_path x y).pass) (sym e) (list_read x y h (no_in_there x y no_in_here))) y.holds y.keeps n
    several_first first g t y s c d (may_be h u o e) n = absurd (false≢true o)
    several_first first g t {u} y s c d (may_not h o i' e z l) n = let x = not_through k a b i m r j g t in made_of u s c d (ap (λ (z : Parser). z.nodes) l.is) (ap (λ (z : Parser). z.prev_token_end) l.is) (list_told x y h o (no_in_there x y no_in_here) z l) y.holds y.keeps n

-- ---- what is told

early_fault : (d : DiagnosticKind) → HeadFault d → class_of d ≡ Early
early_fault d (inl e) = ap class_of e
early_fault d (inr (inl e)) = ap class_of e
early_fault d (inr (inr e)) = ap class_of e

-- which of the two stands here
through_by : (p : Parser) (b : Bool) → ThroughHere p true → IsTrue b ↔ (p.token.kind ≡ kind.In) → StandsHere p (through_kind b) true
through_by p b (inl h) i = subst (λ (c : Bool). StandsHere p (through_kind c) true) (sym (i.1 h.0)) h
through_by p true (inr h) i = absurd (let z : kind.Of ≡ kind.In = sym h.0 ∙ i.0 refl in cc)
through_by p false (inr h) i = h

module _ (k : DeclarationKind) (g : HeadForm) (alone : Bool) (p q : Parser) (b : Bool) (r : Option DiagnosticKind) (h : ThroughHere p true) (i : IsTrue b ↔ (p.token.kind ≡ kind.In)) (o : FaultOf (may_stand k g alone b) r) where
  pub fault_is : (d : DiagnosticKind) → r ≡ Some d → (may_stand k g alone b ≡ false) × HeadFault d
  fault_is d e = by (may_stand k g alone b) refl (subst (λ (z : Option DiagnosticKind). FaultOf (may_stand k g alone b) z) e o)
    where
      by : (c : Bool) → may_stand k g alone b ≡ c → FaultOf c (Some d) → (may_stand k g alone b ≡ false) × HeadFault d
      by true e z = absurd (let w : Some d ≡ None = z in cc)
      by false e z = (e, z)

  pub fault_told : (d : DiagnosticKind) (s : Span) → r ≡ Some d → KeepsDiagnostic (unrelated_at d s) p q → TellsHead k g alone p q
  fault_told d s e u = let z = fault_is d e in may_not b (through_by p b h i) z.0 (unrelated_at d s) (early_fault d z.1) u

  pub no_fault : r ≡ None → q ≡ p → TellsHead k g alone p q
  no_fault e u = may_be b (through_by p b h i) (by (may_stand k g alone b) refl (subst (λ (z : Option DiagnosticKind). FaultOf (may_stand k g alone b) z) e o)) u
    where
      by : (c : Bool) → may_stand k g alone b ≡ c → FaultOf c None → may_stand k g alone b ≡ true
      by true e z = e
      by false e z = absurd z
