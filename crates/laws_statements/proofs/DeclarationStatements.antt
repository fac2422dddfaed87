-- Declarations that begin with `var`, `let` or `const` (ECMA-262, 14.3.1, 14.3.2).
use Rattle.std.proofs.Common.{ℕ, ◌≡◌, inl, inr, List, length, Option, Bool, true, false, IsTrue, refl, sym, ap, subst, arith, ◌∙◌}
use Rattle.std.specs.Prelude.{IsCharBoundary, Result, Ok, Err}
use Rattle.std.proofs.lemmas.Bool.{and_from, or_left, or_right}
use Rattle.js_base.specs.declared.diagnostic.Diagnostic.{Diagnostic}
use Rattle.js_base.specs.declared.kind.Kind.TheVariants as kind
use Rattle.js_base.specs.declared.span.Span.{Span}
use Rattle.js_base.specs.Kinds.{same_kind}
use Rattle.js_grammar.specs.Trees.{Label, Slots, end, tree, append, of, variable_declaration}
use Rattle.js_grammar.specs.Grammar.{Lexemes, Look, next, here, seen, is, ended, semicolon, nothing, Takes, is_lexeme, is_look, is_left, is_right, is_ended}
use Rattle.js_grammar.specs.Conditions.{ends_in_sub}
use Rattle.js_grammar.specs.Insertion.{Row, after_word, by_edge, edge, goes_on}
use Rattle.js_grammar.specs.Lexed.{Lexes}
use Rattle.js_grammar.specs.Parsing.{Test, plain, full, passing, still, Admits, Goes, Fails}
use Rattle.js_grammar.specs.Productions.{G, Flags, at, Lexical, ListItem, Sub, Var}
use Rattle.js_grammar.specs.Productions.{Statement as AStatement}
use Rattle.js_grammar.specs.Productions.{sym as symbol}
use Rattle.js_grammar.specs.Table.{rule, rule_of, declarators}
use Rattle.js_grammar.proofs.Looks.{covers}
use Rattle.js_grammar.proofs.Calculus.{◌▹✗◌, by_omission, closes, fails_never, fails_node, inside_plain}
use Rattle.js_grammar.proofs.Frame.{append_end}
use Rattle.laws_shared.specs.js_tree.declared.id.NodeId.{NodeId}
use Rattle.laws_shared.specs.js_tree.declared.kind.NodeKind.TheVariants as node
use Rattle.laws_shared.specs.js_tree.declared.op.DeclarationKind.{DeclarationKind}
use Rattle.laws_shared.specs.js_tree.declared.op.DeclarationKind.TheVariants as declared
use Rattle.laws_shared.specs.js_tree.declared.op.Op.TheVariants as made_op
use Rattle.laws_shared.specs.js_tree.Labels.{declaration_kind}
use Rattle.laws_shared.specs.js_tree.Nodes.{Node}
use Rattle.laws_shared.specs.js_tree.Holding.{Holds, HoldsAll, Keeps}
use Rattle.laws_shared.proofs.js_tree.HoldingLemmas.{Keeps-trans, Keeps-made}
use Rattle.laws_shared.specs.js_cursor.Parsers.{Parser}
use Rattle.laws_shared.specs.js_cursor.declared.stop.Stop.{Stop}
use Rattle.laws_shared.specs.Answers.{Grown}
use Rattle.laws_shared.specs.Lexemes.{Lex, is_read_kind}
use Rattle.laws_shared.specs.Moves.{IsWholeHere, Moved, MadeHere, plain_label}
use Rattle.laws_shared.specs.Stands.{StandsHere}
use Rattle.laws_shared.specs.States.{At, Same, NodesLie}
use Rattle.laws_shared.specs.Statements.{placed, no_link, after_statement, NoStatement, Statement, StatementOutcome, EndsStatement, NoEnd}
use Rattle.parse_declarations.specs.Declarations.{AllOf, Declarators, NoneOf, is_constant, list_of}
use Rattle.parse_declarations.proofs.DeclaratorLists.{all_behind, none_behind}
use Rattle.laws_statements.specs.DeclarationStatements.{Declaration, NoDeclaration, ReadsDeclaration, declaration}
use Rattle.laws_shared.specs.js_cursor.Moves.{is_last}
use Rattle.laws_shared.proofs.Here.{uncut}
use Rattle.laws_shared.proofs.MadeNodes.{node_held, made_lies}
use Rattle.laws_shared.proofs.Moving.{beside_nodes, moves, same_both, same_with, stops_so}
use Rattle.laws_shared.proofs.Paths.{Path, ◌⟶◌, ◌⟶✗◌, at_kind, by_symbol_as, label_here, noded_by, skips, walked_both, walked_one}
use Rattle.laws_shared.proofs.Verdicts.{behind_none, grown_then, verdict_of}
use Rattle.laws_shared.proofs.Verdicts.{after as grown_behind}
use Rattle.laws_statements.proofs.Statements.{◌⟝◌, ended_so, never_open, no_symbol, omits_stopped, semicolon_path, unended, whole_semicolon}
use Rattle.laws_statements.proofs.WordStatements.{Alone, alone_fails, alone_path, still_unlinked, unlinked, word_here}

-- ---- a list up to its semicolon

closing : (p : Look) {us vs : Slots} {i j : ℕ} {ls rest : Lexemes} → Takes rule (semicolon p) end us i ls vs j rest → IsTrue (seen no_link (here rest)) → IsTrue (seen (closes p no_link) (here ls))
closing p (is_left (is_lexeme q)) h = or_left _ _ q
closing p (is_right (is_look {ls = ls} q)) h = or_right (seen (is kind.Semicolon) (here ls)) _ (and_from _ _ q h)

module _ {text : List ℕ} {g : G} {s : ℕ} where
  list_ended : {s' : ℕ} {us : Slots} {pass : Lexemes → Lexemes} → (w : AllOf text g s s' us pass) → Goes rule (Lex text) (plain no_link) end (ended by_edge g) s (semicolon (goes_on (edge after_word after_word us))) s' (λ ws. append us ws) (record { reach = w.reach; pass = pass })
  list_ended {s'} {us} {pass} w = record { passes = w.passes; sound = λ ws vs k ls rest l r d. is_ended refl (w.sound ls l r) d; only = λ ts vs k ls rest l d e. go ts vs k ls rest l d e }
    where
      go : (ts vs : Slots) (k : ℕ) (ls rest : Lexemes) → Lexes (Lex text) s ls → Takes rule (ended by_edge g) end ts s ls vs k rest → Admits (plain no_link) ts (here rest) → (ws : Slots) × (more : Lexemes) × (ts ≡ append us ws) × Lexes (Lex text) s' more × Takes rule (semicolon (goes_on (edge after_word after_word us))) end ws s' more vs k rest × (ls ≡ pass more)
      go ts vs k ls rest l (is_ended {cs = cs} {us = ws} {j = j} {mid = mid} q d d') e =
          let x = w.only cs j ls mid l d (closing (by_edge (here ls) cs) d' e.0) in
          (ws, mid, q ∙ ap (λ (z : Slots). append z ws) x.0, x.2, subst (λ (z : Slots). Takes rule (semicolon (goes_on (edge after_word after_word z))) end ws s' mid vs k rest) x.0 (subst (λ (z : ℕ). Takes rule (semicolon (by_edge (here ls) cs)) end ws z mid vs k rest) x.1 d'), x.3)

  none_ended : NoneOf text g s → Fails rule (Lex text) (plain no_link) end (ended by_edge g) s
  none_ended w = record { no = λ ts vs k ls rest l d e. go ts vs k ls rest l d e }
    where
      go : (ts vs : Slots) (k : ℕ) (ls rest : Lexemes) → Lexes (Lex text) s ls → Takes rule (ended by_edge g) end ts s ls vs k rest → Admits (plain no_link) ts (here rest) → ⊥
      go ts vs k ls rest l (is_ended {cs = cs} {j = j} {mid = mid} q d d') e = w.no cs j ls mid l d (closing (by_edge (here ls) cs) d' e.0)

-- ---- a declaration

pub word_read : (k : DeclarationKind) → is_read_kind (declaration_kind k) ≡ true
word_read declared.Var = refl
word_read declared.Const = refl
word_read declared.Let = refl

pub declaration_whole : {text : List ℕ} {f : Flags} {p : Parser} (k : DeclarationKind) → At text f p → StandsHere p (declaration_kind k) true → IsWholeHere p
declaration_whole declared.Var a h = word_here kind.Var a h refl
declaration_whole declared.Const a h = word_here kind.Const a h refl
declaration_whole declared.Let a h = (uncut a (ap (same_kind kind.RAngle) h.0), ap is_last h.0)

module _ {text : List ℕ} {f : Flags} {p q : Parser} (k : DeclarationKind) (a : At text f p) (h : StandsHere p (declaration_kind k) true) (m : Moved text f p q) where
  word_passed : Goes rule (Lex text) (plain full) end (declarators (declaration_kind k) f) p.prev_token_end (list_of (is_constant k) f) q.prev_token_end (λ us. us) (passing m.lexeme)
  word_passed = skips a (declaration_kind k) h.0 h.1 (word_read k) m

  pub declaration_none : NoneOf text (list_of (is_constant k) f) q.prev_token_end → NoDeclaration text k f p.prev_token_end
  unfolding covers
  declaration_none n = fails_node (inside_plain refl) (none_ended (none_behind word_passed n))

  module _ {r : Parser} {ids : List (Option NodeId)} (x : Declarators text f (is_constant k) q r ids) where
    abbrev row : Row
    row = edge after_word after_word x.slots

    up_to_semicolon : Path text f (plain no_link) (ended by_edge (declarators (declaration_kind k) f)) p (semicolon (goes_on row)) r (λ us. append x.slots us)
    up_to_semicolon = record {
      at = x.at;
      further = let i = m.further in let j = x.further in omega arith;
      pass = λ ls. next m.lexeme (x.pass ls);
      walked = walked_both (walked_one m) x.walked;
      verdict = behind_none m.kept (verdict_of x.verdict (λ y. let w = all_behind word_passed y (let j = x.further in omega arith) in record { reach = w.reach; near = w.near; goes = list_ended w }) (λ n. none_ended (none_behind word_passed n)));
    }

    pub declaration_same : Same p r
    declaration_same = same_both m.same x.same

    pub declaration_grown : {ds : List Diagnostic} → Grown r.errors ds → Grown p.errors ds
    declaration_grown g = grown_then m.kept (grown_behind x.verdict g)

    pub declaration_unended : NoEnd r → NoDeclaration text k f p.prev_token_end
    unfolding covers
    declaration_unended n = fails_node (inside_plain refl) (up_to_semicolon ⟶✗ unended x.at (goes_on row) n)

    up_to_end : {v : Parser} → f.in_ ≡ true → EndsStatement r v → Path text f (plain no_link) (ended by_edge (declarators (declaration_kind k) f)) p nothing v (λ us. append x.slots us)
    up_to_end i (e, inl (s, t)) = up_to_semicolon ⟶ semicolon_path x.at (goes_on row) s (moves (whole_semicolon x.at s) t x.at)
    up_to_end i (e, inr (n, t, s)) = subst (λ (w : Parser). Path text f (plain no_link) (ended by_edge (declarators (declaration_kind k) f)) p nothing w (λ us. append x.slots us)) (sym s) (up_to_semicolon ⟝ by_omission (goes_on row) (omits_stopped x.at row (λ y l. x.stops i y l) e t n))

    declaration_path : {v : Parser} → f.in_ ≡ true → EndsStatement r v → Path text f (plain no_link) (declaration k f) p nothing v (tree (label_here variable_declaration (of (declaration_kind k)) p v) x.slots)
    unfolding covers
    declaration_path {v} i e = subst (λ (cs : Slots). Path text f (plain no_link) (declaration k f) p nothing v (tree (label_here variable_declaration (of (declaration_kind k)) p v) cs)) (append_end x.slots) (noded_by a (inside_plain refl) (up_to_end i e))

    pub declaration_answers : {v w : Parser} {id : NodeId} (s : Span) → f.in_ ≡ true → EndsStatement r v → s.start ≡ p.token.span.start → s.end ≡ v.prev_token_end → MadeHere (plain_label node.VariableDeclaration (made_op.Declaration k) s) ids v w id → Declaration text f k p w id
    declaration_answers {v} {w} {id} s i e c d n =
        let l : plain_label node.VariableDeclaration (made_op.Declaration k) s ≡ label_here variable_declaration (of (declaration_kind k)) p v = rw (c, d) refl in
        let made : MadeHere (label_here variable_declaration (of (declaration_kind k)) p v) ids v w id = subst (λ (u : Label). MadeHere u ids v w id) l n in
        let z = ended_so x.at e in
        let kr : Keeps p.nodes r.nodes = subst (λ (ns : List Node). Keeps ns r.nodes) m.nodes x.keeps in
        let kv : Keeps p.nodes v.nodes = subst (λ (ns : List Node). Keeps p.nodes ns) (sym z.nodes) kr in
        let hr : HoldsAll r.nodes (length p.nodes) (length r.nodes) ids x.slots = subst (λ (ns : List Node). HoldsAll r.nodes (length ns) (length r.nodes) ids x.slots) m.nodes x.holds in
        let hv : HoldsAll v.nodes (length p.nodes) (length v.nodes) ids x.slots = subst (λ (ns : List Node). HoldsAll ns (length p.nodes) (length ns) ids x.slots) (sym z.nodes) hr in
        let same = same_both declaration_same z.same in
        let path = declaration_path i e in
        go w.nodes path same made.stays (node_held made hv) (Keeps-trans kv (Keeps-made made.made)) (made_lies same z.at.at (let i = path.further in omega arith) made refl)
      where
        go : (ns : List Node) → Path text f (plain no_link) (declaration k f) p nothing v (tree (label_here variable_declaration (of (declaration_kind k)) p v) x.slots) → Same p v → w ≡ record v { nodes = ns } → Holds w.nodes (length p.nodes) (length w.nodes) id.0 (label_here variable_declaration (of (declaration_kind k)) p v) x.slots → Keeps p.nodes w.nodes → (IsCharBoundary p.text p.token.span.start → NodesLie v.text v.nodes → NodesLie v.text w.nodes) → Declaration text f k p w id
        go ns y b e h k' i = subst (λ (z : Parser). Declaration text f k p z id) (sym e) (record {
          at = beside_nodes ns y.at;
          same = same_with ns b (subst (λ (z : Parser). Keeps p.nodes z.nodes) e k') (λ c z. subst (λ (u : Parser). NodesLie v.text u.nodes) e (i c z));
          further = y.further;
          label = label_here variable_declaration (of (declaration_kind k)) p v;
          kind_is = refl;
          slots = x.slots;
          pass = y.pass;
          walked = y.walked;
          verdict = y.verdict;
          holds = subst (λ (z : Parser). Holds z.nodes (length p.nodes) (length z.nodes) id.0 (label_here variable_declaration (of (declaration_kind k)) p v) x.slots) e h;
          keeps = subst (λ (z : Parser). Keeps p.nodes z.nodes) e k';
        })

-- ---- as a statement

pub declaration_read : {text : List ℕ} {f : Flags} {k : DeclarationKind} {p w : Parser} {id : NodeId} (x : Declaration text f k p w id) → Path text f (plain no_link) (declaration k f) p nothing w (tree x.label x.slots)
declaration_read x = record { at = x.at; further = x.further; pass = x.pass; walked = x.walked; verdict = x.verdict }

-- what was read as the symbol's line is a statement
pub as_statement : {text : List ℕ} {f : Flags} {k : DeclarationKind} (b : Bool) {p w : Parser} {id : NodeId} (x : Declaration text f k p w id) → Path text f (after_statement (placed b f)) (rule (placed b f)) p nothing w (tree x.label x.slots) → Statement text f (placed b f) p w id
as_statement {f = f} b x y = let z = by_symbol_as {X' = after_statement (placed b f)} (λ l cs vs y d. d) y in record { at = z.at; same = x.same; further = z.further; label = x.label; slots = x.slots; closed = never_open x.label x.slots (ap ends_in_sub x.kind_is); pass = z.pass; walked = z.walked; verdict = z.verdict; holds = x.holds; keeps = x.keeps }

module _ {text : List ℕ} {f : Flags} {p : Parser} (a : At text f p) where
  module _ (h : StandsHere p kind.Var true) where
    var_alone : Alone text f Var p.prev_token_end
    unfolding rule rule_of covers
    var_alone = record { listed = λ b X. listed b; alone = λ X. at_kind a kind.Var h.0 refl }
      where
        listed : {X : Test} (b : Bool) → Goes rule (Lex text) X end (rule (placed b f)) p.prev_token_end (symbol AStatement f) p.prev_token_end (λ us. us) (still 0)
        listed true = at_kind a kind.Var h.0 refl
        listed false = at_kind a kind.Var h.0 refl

    var_statement : {w : Parser} {id : NodeId} (b : Bool) → Declaration text f declared.Var p w id → Statement text f (placed b f) p w id
    unfolding rule rule_of
    var_statement b x = as_statement b x (alone_path var_alone b (plain no_link) (unlinked f b) still_unlinked (declaration_read x))

    var_fails : (b : Bool) → NoDeclaration text declared.Var f p.prev_token_end → NoStatement text (placed b f) p.prev_token_end
    unfolding rule rule_of
    var_fails b n = alone_fails var_alone b (plain no_link) (unlinked f b) still_unlinked n

    pub var_outcome : (b : Bool) (w : Parser) (r : Result NodeId Stop) → ReadsDeclaration declared.Var p w r → StatementOutcome text f (placed b f) p w r
    var_outcome b w (Ok id) x = var_statement b (x text f a)
    var_outcome b w (Err e) x = stops_so p w e (λ n. var_fails b n) (x text f a)

  module _ (h : StandsHere p kind.Const true) where
    pub const_listed : {X : Test} → Goes rule (Lex text) X end (rule (at ListItem f)) p.prev_token_end (symbol Lexical f) p.prev_token_end (λ us. us) (still 0)
    unfolding rule rule_of covers
    const_listed = at_kind a kind.Const h.0 refl

    pub const_alone : {X : Test} → Goes rule (Lex text) X end (rule (at Lexical f)) p.prev_token_end (declaration declared.Const f) p.prev_token_end (λ us. us) (still 0)
    unfolding rule rule_of covers
    const_alone = at_kind a kind.Const h.0 refl

    -- as the body of another statement it isn't derived
    pub no_const_body : NoStatement text (at Sub f) p.prev_token_end
    unfolding rule rule_of covers
    no_const_body = no_symbol (at_kind a kind.Const h.0 refl ▹✗ fails_never)
