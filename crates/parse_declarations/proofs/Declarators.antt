-- One declarator (ECMA-262, 14.3.1, 14.3.2): what is bound, and an initialiser or none.
use Rattle.std.proofs.Common.{ℕ, ◌≡◌, ◌<◌, ◌⊎◌, inl, inr, max, List, [], ◌∷◌, length, Some, None, Bool, true, false, not, ◌&&◌, ◌||◌, IsTrue, cond, refl, sym, ap, subst, arith, ◌∙◌}
use Rattle.std.specs.Prelude.{IfOk, IsCharBoundary, MatchResult, Result, Ok, Err}
use Rattle.std.proofs.lemmas.Bool.{false≢true, and_from, and_parts, or_left, or_right}
use Rattle.js_base.specs.declared.diagnostic.Diagnostic.{Diagnostic}
use Rattle.js_base.specs.declared.kind.Kind.{Kind}
use Rattle.js_base.specs.declared.kind.Kind.TheVariants.{Colon, Comma, Eq, LBrack, LCurly, Undetermined}
use Rattle.js_base.specs.declared.span.Span.{Span}
use Rattle.js_base.specs.Kinds.{same_kind, one_of_kinds}
use Rattle.js_base.specs.KindSets.{binding_identifier_kinds}
use Rattle.js_base.proofs.KindLemmas.{kind_of_same}
use Rattle.js_grammar.specs.Trees.{Label, Slots, end, hole, tree, no_op, variable_declarator}
use Rattle.js_grammar.specs.Grammar.{Lexeme, Lexemes, next, here, Look, seen, is, never, such, nothing, empty_slot, Takes, is_nothing, is_lexeme, is_such, is_seq, is_left, is_right, is_empty_slot, is_node, ◌▸◌}
use Rattle.js_grammar.specs.Insertion.{Row, after_expression, after_declarator, edge}
use Rattle.js_grammar.specs.Lexed.{Lexes}
use Rattle.js_grammar.specs.Parsing.{Test, Reaches, Passes, Admits, plain, full, always, passing, Goes, Fails}
use Rattle.js_grammar.specs.Productions.{G, Flags, at, tok, Assignment, Binding, BindingIdentifier, Init, Pattern}
use Rattle.js_grammar.specs.Productions.{sym as symbol}
use Rattle.js_grammar.specs.Table.{rule, rule_of, declarator}
use Rattle.js_grammar.specs.Follow.{after, first_edge, looser, row_of, surest}
use Rattle.js_grammar.specs.RightEdges.{of_assignment}
use Rattle.js_grammar.proofs.Looks.{covers, covered, apart, not_both}
use Rattle.js_grammar.proofs.Calculus.{here_at, ends, passes_both, reaches_less}
use Rattle.js_grammar.proofs.FollowLaws.{surely, assignment_ended}
use Rattle.js_grammar.proofs.RightEdges.{at_row}
use Rattle.js_grammar.proofs.Finding.{either_of, implied}
use Rattle.parse_shared.specs.js_tree.declared.id.NodeId.{NodeId}
use Rattle.parse_shared.specs.js_tree.declared.kind.NodeKind.TheVariants as node
use Rattle.parse_shared.specs.js_tree.declared.op.Op.TheVariants as op
use Rattle.parse_shared.specs.js_tree.Nodes.{Node}
use Rattle.parse_shared.specs.js_tree.Holding.{Holds, HoldsAll, Keeps}
use Rattle.parse_shared.proofs.js_tree.HoldingLemmas.{HoldsAll-one, HoldsAll-hole, Keeps-trans, Keeps-made}
use Rattle.parse_shared.specs.js_cursor.Parsers.{Parser}
use Rattle.parse_shared.specs.js_cursor.declared.stop.Stop.{Stop}
use Rattle.js_base.specs.declared.diagnostic.DiagnosticKind.{DiagnosticKind}
use Rattle.js_base.specs.declared.diagnostic.DiagnosticClass.TheVariants.{Early}
use Rattle.js_base.specs.Diagnostics.{class_of}
use Rattle.parse_shared.specs.js_cursor.Moves.{GivesUp, KeepsDiagnostic}
use Rattle.parse_shared.proofs.laws_shared.Escapes.{escapable_kinds, plain_or_escapable}
use Rattle.parse_shared.specs.laws_shared.Answers.{Grown, Verdict, Stretch, Underived, Answer, Numbered, Stops, beside, unclean}
use Rattle.parse_shared.specs.laws_shared.Classes.{EndsParse}
use Rattle.parse_shared.specs.laws_shared.Lexemes.{Lex, Walked, spot, Plain}
use Rattle.parse_shared.specs.laws_shared.Moves.{Moved, MadeHere, plain_label}
use Rattle.parse_shared.specs.laws_shared.Stands.{NameHere}
use Rattle.parse_shared.specs.laws_shared.States.{At, Same, NodesLie}
use Rattle.parse_shared.specs.laws_shared.Statements.{link_kinds, no_link}
use Rattle.parse_shared.specs.laws_shared.Told.{unrelated_at}
use Rattle.parse_declarations.specs.Declarations.{One, NoOne, Declarator, EndsDeclarator, ChecksInitialiser, behind_row, ends_row, stops_row, missing}
use Rattle.laws_patterns.proofs.Bindings.{no_binding, no_pattern_name}
use Rattle.parse_shared.proofs.laws_shared.NamedFirsts.{fails_unnamed}
use Rattle.parse_shared.proofs.laws_shared.NameKinds.{listed_here, name_at, no_listed_name}
use Rattle.parse_shared.proofs.laws_shared.Giving.{gives_up, kept_one}
use Rattle.parse_shared.proofs.laws_shared.Here.{begins_here, kind_here}
use Rattle.parse_shared.proofs.laws_shared.MadeNodes.{node_held, two_held, made_lies}
use Rattle.parse_shared.proofs.laws_shared.Moving.{beside_nodes, same_both, same_with, stops_behind}
use Rattle.parse_shared.proofs.laws_shared.Paths.{fails_at, label_here, not_here, skips, walked_both, walked_one, walked_to}
use Rattle.parse_shared.proofs.laws_shared.Phrases.{narrow_assignment, narrow_operand}
use Rattle.parse_shared.proofs.laws_shared.Signs.{other_kind, plain_sign}
use Rattle.parse_shared.proofs.laws_shared.Tight.{narrows, plain_lex}
use Rattle.parse_shared.proofs.laws_shared.Told.{told_at, told_same}
use Rattle.parse_shared.proofs.laws_shared.Verdicts.{and_then, behind_none, either_way, grown_then, verdict_of}
use Rattle.parse_shared.proofs.laws_shared.Verdicts.{after as grown_behind}
use Rattle.parse_shared.proofs.laws_shared.PlainSigns.{eq_plain}
use Rattle.parse_shared.proofs.laws_shared.Commas.{comma_may_follow}

-- ---- what the line says

-- a name alone, where no constant is declared
abbrev bare : Bool → Flags → G
bare c f = cond c never (symbol BindingIdentifier f ▸ empty_slot)

abbrev initialised : Flags → G
initialised f = symbol Binding f ▸ symbol Init f

-- a name that is bound is what is bound
pub as_binding : {f : Flags} {ks ts us : Slots} {i j : ℕ} {ls rest : Lexemes} → Takes rule (symbol BindingIdentifier f) ks ts i ls us j rest → Takes rule (symbol Binding f) ks ts i ls us j rest
unfolding rule rule_of
as_binding (is_such d t) = is_such (is_left (is_such d refl)) refl

-- what is derived of a name alone
pub record NameAlone (f : Flags) (c : Bool) (ts us : Slots) (s : ℕ) (ls : Lexemes) (k : ℕ) (rest : Lexemes) : Type 0 where
  pub no_constant : c ≡ false
  pub label : Label
  pub slots : Slots
  pub is : ts ≡ tree label slots (hole us)
  pub taken : Takes rule (symbol BindingIdentifier f) end (tree label slots (hole us)) s ls (hole us) k rest

pub name_alone : {f : Flags} (c : Bool) {ts us : Slots} {s k : ℕ} {ls rest : Lexemes} → Takes rule (bare c f) end ts s ls us k rest → NameAlone f c ts us s ls k rest
name_alone false (is_seq (is_such {l = l} {cs = ds} d t) is_empty_slot) = record { no_constant = refl; label = l; slots = ds; is = refl; taken = is_such d t }
name_alone true d = elim d [ ]

-- where nothing is bound
pub unbound : {text : List ℕ} {f : Flags} {s : ℕ} (c : Bool) → Underived text (at Binding f) s → NoOne text (declarator c f) s
unbound {text} {f} {s} c n = record { no = λ ts us k ls rest lx d h. go ts us k ls rest lx d }
  where
    go : (ts us : Slots) (k : ℕ) (ls rest : Lexemes) → Lexes (Lex text) s ls → Takes rule (declarator c f) end ts s ls us k rest → ⊥
    go ts us k ls rest lx (is_node (is_left d)) = let z = name_alone c d in n.no (tree z.label z.slots (hole end)) (hole end) k ls rest lx (as_binding z.taken) (refl, refl)
    go ts us k ls rest lx (is_node {cs = cs} (is_right (is_seq {us = ws} {j = j} {mid = mid} b i))) = n.no cs ws j ls mid lx b (refl, refl)

-- no lexeme stands here
pub none_at : {text : List ℕ} {f : Flags} {p : Parser} (c : Bool) → At text f p → p.token.kind ≡ Undetermined → NoOne text (declarator c f) p.prev_token_end
none_at c a h = unbound c (no_binding a (λ k e. false≢true (ap (same_kind LBrack) (sym h ∙ k))) (λ k e. false≢true (ap (same_kind LCurly) (sym h ∙ k))) (no_listed_name _ _ _ (ap (one_of_kinds binding_identifier_kinds) h)))

-- ---- what may stand behind a declarator

abbrev an_eq : Look
an_eq k w e = same_kind Eq k

eq_apart : apart an_eq (behind_row after_declarator) ≡ true
unfolding apart
eq_apart = refl

-- before `=` no name stands alone
goes_on_with : {text : List ℕ} {f : Flags} {q : Parser} → At text f q → q.token.kind ≡ Eq → (y : Lexeme) → Lex text q.prev_token_end y → IsTrue (seen (behind_row after_declarator) y) → ⊥
goes_on_with a k y l h = not_both an_eq (behind_row after_declarator) eq_apart y.kind y.newline y.escaped (subst (λ (v : Kind). same_kind Eq v ≡ true) (sym (kind_here a k refl y l)) refl) h

-- nor does a declarator end before a colon
abbrev is_colon : Look
is_colon k w e = same_kind Colon k

colon_apart : apart is_colon (behind_row after_declarator) ≡ true
unfolding apart
colon_apart = refl

colon_behind : {text : List ℕ} {f : Flags} {q : Parser} → At text f q → q.token.kind ≡ Colon → (y : Lexeme) → Lex text q.prev_token_end y → IsTrue (seen (behind_row after_declarator) y) → ⊥
colon_behind a k y l h = not_both is_colon (behind_row after_declarator) colon_apart y.kind y.newline y.escaped (subst (λ (v : Kind). same_kind Colon v ≡ true) (sym (kind_here a k refl y l)) refl) h

pub no_eq_here : {text : List ℕ} {f : Flags} {q : Parser} → At text f q → (q.token.kind ≡ Eq → ⊥) → (y : Lexeme) → Lex text q.prev_token_end y → IsTrue (seen (is Eq) y) → ⊥
unfolding apart
no_eq_here {q = q} a n y l h = not_here a (Eq ∷ []) refl (other_kind Eq q.token.kind n) y l (or_left (same_kind Eq y.kind) false (and_parts (same_kind Eq y.kind) (not y.escaped) h).0)

-- what may stand behind a declarator may stand behind its initialiser
behind_value : {f : Flags} {l : Label} {cs : Slots} {i j : ℕ} {ls mid : Lexemes} → Takes rule (symbol Assignment f) end (tree l cs end) i ls end j mid → IsTrue (seen (behind_row (row_of l cs)) (here mid)) → Admits (after (at Assignment f)) (tree l cs end) (here mid)
behind_value {f} {l} {cs} {ls = ls} {mid = mid} d h = either_of (seen (is Comma) (here mid)) (seen (ends_row (row_of l cs)) (here mid)) h
    (λ c. (surely (at Assignment f)).admits (tree l cs end) (here mid) (covered (is Comma) (surest Assignment) comma_may_follow (here mid).kind (here mid).newline (here mid).escaped c))
    (λ e. assignment_ended f no_link d (here ls) e)

-- with a comma behind it a declaration goes on
comma_apart : (r : Row) → (apart (is Comma) (ends_row r) || not (of_assignment r)) ≡ true
unfolding apart
comma_apart r = at_row (λ r. apart (is Comma) (ends_row r) || not (of_assignment r)) refl r

comma_behind_value : (r : Row) → of_assignment r ≡ true → apart (is Comma) (ends_row r) ≡ true
comma_behind_value r h = implied (of_assignment r) (apart (is Comma) (ends_row r)) (comma_apart r) h

comma_behind_name : apart (is Comma) (ends_row after_declarator) ≡ true
unfolding apart
comma_behind_name = refl

-- what no expression goes on with
abbrev ends_value : Row → Look
ends_value r k w e = (not e || one_of_kinds escapable_kinds k) && (looser 1 true r k w e || beside k w e)

value_stops : (r : Row) → covers (ends_value r) (stops_row r) ≡ true
unfolding covers
value_stops r = at_row (λ r. covers (ends_value r) (stops_row r)) refl r

-- ---- what was read of it

module _ {text : List ℕ} {f : Flags} {p q : Parser} (a : At text f p) (x : Answer text f (at Binding f) p q) where
  abbrev pub BindingRead : Type 0
  BindingRead = Stretch text (after (at Binding f)) (such (at Binding f) always) p.prev_token_end nothing q.prev_token_end (tree x.label x.slots) x.pass

  -- whatever is bound there is this
  pub bound : BindingRead → (ts us : Slots) (j : ℕ) (ls mid : Lexemes) → Lexes (Lex text) p.prev_token_end ls → Takes rule (symbol Binding f) end ts p.prev_token_end ls us j mid → (ts ≡ tree x.label x.slots us) × (j ≡ q.prev_token_end) × Lexes (Lex text) q.prev_token_end mid × (ls ≡ x.pass mid)
  bound u ts us j ls mid lx d = let z = u.goes.only ts us j ls mid lx d (refl, refl) in let n = ends z.4 in (z.2 ∙ ap (λ (v : Slots). tree x.label x.slots v) n.0, sym n.1, subst (λ (v : Lexemes). Lexes (Lex text) q.prev_token_end v) n.2 z.3, z.5 ∙ ap x.pass n.2)

abbrev labelled : ℕ → ℕ → Label
labelled i j = record { kind = variable_declarator; op = no_op; flags = 0; span = record { from = i; to = j } }

-- a child, and a second one behind it
two_children : (l : Label) (cs : Slots) (m : Label) (ds : Slots) {us vs ws : Slots} → us ≡ tree l cs vs → vs ≡ tree m ds ws → ws ≡ end → us ≡ tree l cs (tree m ds end)
two_children l cs m ds a b c = a ∙ ap (λ (v : Slots). tree l cs v) (b ∙ ap (λ (v : Slots). tree m ds v) c)

-- three stretches, one behind the other
three_passed : (f g h : Lexemes → Lexemes) {ls mid behind more rest : Lexemes} → ls ≡ f mid → mid ≡ g behind → behind ≡ h more → more ≡ rest → ls ≡ f (g (h rest))
three_passed f g h a b c d = a ∙ ap f (b ∙ ap g (c ∙ ap h d))

-- ---- with an initialiser

module _ {text : List ℕ} {f : Flags} {p q r : Parser} (a : At text f p) (x : Answer text f (at Binding f) p q) (k : q.token.kind ≡ Eq) (m : Moved text f q r) where
  pub sign_passed : Goes rule (Lex text) (plain full) end (tok Eq ▸ symbol Assignment f) q.prev_token_end (symbol Assignment f) r.prev_token_end (λ us. us) (passing m.lexeme)
  sign_passed = skips x.at Eq k (plain_sign Eq x.at k refl refl eq_plain) refl m

  not_bare : (c : Bool) → BindingRead a x → (cs : Slots) (j : ℕ) (ls rest : Lexemes) → Lexes (Lex text) p.prev_token_end ls → Takes rule (bare c f) end cs p.prev_token_end ls end j rest → IsTrue (seen (behind_row (edge after_expression after_declarator cs)) (here rest)) → ⊥
  not_bare c u cs j ls rest lx d h =
      let z = name_alone c d in
      let b = bound a x u (tree z.label z.slots (hole end)) (hole end) j ls rest lx (as_binding z.taken) in
      goes_on_with x.at k (here rest) (here_at (Lex text) rest b.2) (subst (λ (v : Slots). IsTrue (seen (behind_row (edge after_expression after_declarator v)) (here rest))) z.is h)

  -- where no initialiser is derived
  no_value : (c : Bool) → BindingRead a x → Underived text (at Assignment f) r.prev_token_end → NoOne text (declarator c f) p.prev_token_end
  unfolding rule rule_of
  no_value c u n = record { no = λ ts us kk ls rest lx d h. go ts us kk ls rest lx d h }
    where
      go : (ts us : Slots) (kk : ℕ) (ls rest : Lexemes) → Lexes (Lex text) p.prev_token_end ls → Takes rule (declarator c f) end ts p.prev_token_end ls us kk rest → IsTrue (seen (behind_row (first_edge ts).row) (here rest)) → ⊥
      go ts us kk ls rest lx (is_node {cs = cs} (is_left d)) h = not_bare c u cs kk ls rest lx d h
      go ts us kk ls rest lx (is_node (is_right (is_seq {j = j} {mid = mid} (is_such {l = o} {cs = ds} b t) (is_such {l = v} {cs = es} i t')))) h =
          let y = bound a x u (tree o ds (tree v es end)) (tree v es end) j ls mid lx (is_such b t) in
          let z = sign_passed.only (tree v es end) end kk mid rest y.2 (subst (λ (n : ℕ). Takes rule (tok Eq ▸ symbol Assignment f) end (tree v es end) n mid end kk rest) y.1 i) (refl, refl) in
          let d : Takes rule (symbol Assignment f) end (tree v es end) r.prev_token_end z.1 end kk rest = subst (λ (w : Slots). Takes rule (symbol Assignment f) end w r.prev_token_end z.1 end kk rest) (sym z.2) z.4 in
          n.no (tree v es end) end kk z.1 rest z.3 d (behind_value d h)

  module _ {v : Parser} (y : Answer text f (at Assignment f) r v) where
    abbrev ValueRead : Type 0
    ValueRead = Stretch text (after (at Assignment f)) (such (at Assignment f) always) r.prev_token_end nothing v.prev_token_end (tree y.label y.slots) y.pass

    one_with : (c : Bool) → BindingRead a x → ValueRead → One text (declarator c f) p.prev_token_end v.prev_token_end (label_here variable_declarator no_op p v) (tree x.label x.slots (tree y.label y.slots end)) (λ ls. x.pass (next m.lexeme (y.pass ls)))
    unfolding rule rule_of
    one_with c u w = record {
      reach = max u.reach w.reach;
      near = let i = u.near in let j = w.near in let b = m.further in let d = m.at.behind in let e = x.at.behind in let g = y.further in omega arith;
      passes = passes_both u.goes.passes from_sign;
      sound = λ us ls lx h. there us ls lx h;
      only = λ ts us kk ls rest lx d h. back ts us kk ls rest lx d h;
    }
      where
        from_sign : Passes (Lex text) q.prev_token_end v.prev_token_end (λ ls. next m.lexeme (y.pass ls))
        from_sign = passes_both sign_passed.passes w.goes.passes

        there : (us : Slots) (ls : Lexemes) → Lexes (Lex text) v.prev_token_end ls → Reaches (max u.reach w.reach) v.prev_token_end ls → Takes rule (declarator c f) end (tree (label_here variable_declarator no_op p v) (tree x.label x.slots (tree y.label y.slots end)) us) p.prev_token_end (x.pass (next m.lexeme (y.pass ls))) us v.prev_token_end ls
        there us ls lx h =
            let all = passes_both u.goes.passes from_sign in
            let value : Takes rule (symbol Assignment f) end (tree y.label y.slots end) r.prev_token_end (y.pass ls) end v.prev_token_end ls = w.goes.sound end end v.prev_token_end ls ls lx (reaches_less w.reach (max u.reach w.reach) (omega arith) v.prev_token_end ls h) is_nothing in
            let init : Takes rule (tok Eq ▸ symbol Assignment f) end (tree y.label y.slots end) q.prev_token_end (next m.lexeme (y.pass ls)) end v.prev_token_end ls = sign_passed.sound (tree y.label y.slots end) end v.prev_token_end (y.pass ls) ls (w.goes.passes.lexed ls lx) (w.goes.passes.reaches 0 ls (reaches_less 0 (max u.reach w.reach) (omega arith) v.prev_token_end ls h)) value in
            let name : Takes rule (symbol Binding f) end (tree x.label x.slots (tree y.label y.slots end)) p.prev_token_end (x.pass (next m.lexeme (y.pass ls))) (tree y.label y.slots end) q.prev_token_end (next m.lexeme (y.pass ls)) = u.goes.sound (tree y.label y.slots end) (tree y.label y.slots end) q.prev_token_end (next m.lexeme (y.pass ls)) (next m.lexeme (y.pass ls)) (from_sign.lexed ls lx) (from_sign.reaches u.reach ls (reaches_less u.reach (max u.reach w.reach) (omega arith) v.prev_token_end ls h)) is_nothing in
            let start = begins_here a (here (x.pass (next m.lexeme (y.pass ls)))) (here_at (Lex text) (x.pass (next m.lexeme (y.pass ls))) (all.lexed ls lx)) in
            subst (λ (n : ℕ). Takes rule (declarator c f) end (tree (labelled n v.prev_token_end) (tree x.label x.slots (tree y.label y.slots end)) us) p.prev_token_end (x.pass (next m.lexeme (y.pass ls))) us v.prev_token_end ls) start (is_node (is_right (is_seq name (is_such init refl))))

        back : (ts us : Slots) (kk : ℕ) (ls rest : Lexemes) → Lexes (Lex text) p.prev_token_end ls → Takes rule (declarator c f) end ts p.prev_token_end ls us kk rest → IsTrue (seen (behind_row (first_edge ts).row) (here rest)) → (ts ≡ tree (label_here variable_declarator no_op p v) (tree x.label x.slots (tree y.label y.slots end)) us) × (kk ≡ v.prev_token_end) × Lexes (Lex text) v.prev_token_end rest × (ls ≡ x.pass (next m.lexeme (y.pass rest)))
        back ts us kk ls rest lx (is_node {cs = cs} (is_left d)) h = absurd (not_bare c u cs kk ls rest lx d h)
        back ts us kk ls rest lx (is_node (is_right (is_seq {j = j} {mid = mid} (is_such {l = o} {cs = ds} b t) (is_such {l = n} {cs = es} i t')))) h =
            let g = bound a x u (tree o ds (tree n es end)) (tree n es end) j ls mid lx (is_such b t) in
            let z = sign_passed.only (tree n es end) end kk mid rest g.2 (subst (λ (z : ℕ). Takes rule (tok Eq ▸ symbol Assignment f) end (tree n es end) z mid end kk rest) g.1 i) (refl, refl) in
            let d : Takes rule (symbol Assignment f) end (tree n es end) r.prev_token_end z.1 end kk rest = subst (λ (z' : Slots). Takes rule (symbol Assignment f) end z' r.prev_token_end z.1 end kk rest) (sym z.2) z.4 in
            let e = w.goes.only (tree n es end) end kk z.1 rest z.3 d (behind_value d h) in
            let last = ends e.4 in
            let children : tree o ds (tree n es end) ≡ tree x.label x.slots (tree y.label y.slots end) = two_children x.label x.slots y.label y.slots g.0 e.2 last.0 in
            let start = begins_here a (here ls) (here_at (Lex text) ls lx) in
            ((λ i. tree (labelled (start i) (sym last.1 i)) (children i) us), sym last.1, subst (λ (z' : Lexemes). Lexes (Lex text) v.prev_token_end z') last.2 e.3, three_passed x.pass (λ z'. next m.lexeme z') y.pass g.3 z.5 e.5 last.2)

-- ---- without one

module _ {text : List ℕ} {f : Flags} {p q : Parser} (a : At text f p) (x : Answer text f (at Binding f) p q) (n : q.token.kind ≡ Eq → ⊥) where
  pub not_initialised : BindingRead a x → (cs : Slots) (k : ℕ) (ls rest : Lexemes) → Lexes (Lex text) p.prev_token_end ls → Takes rule (initialised f) end cs p.prev_token_end ls end k rest → ⊥
  unfolding rule rule_of
  not_initialised u cs k ls rest lx (is_seq {us = ws} {j = j} {mid = mid} b (is_such (is_seq (is_lexeme {x = z} e) i) t)) = let g = bound a x u cs ws j ls mid lx b in no_eq_here x.at n z g.2.0 e

  -- where a colon stands behind what is bound
  none_annotated : (c : Bool) → q.token.kind ≡ Colon → BindingRead a x → NoOne text (declarator c f) p.prev_token_end
  none_annotated c k u = record { no = λ ts us j ls rest lx d h. go ts us j ls rest lx d h }
    where
      go : (ts us : Slots) (j : ℕ) (ls rest : Lexemes) → Lexes (Lex text) p.prev_token_end ls → Takes rule (declarator c f) end ts p.prev_token_end ls us j rest → IsTrue (seen (behind_row (first_edge ts).row) (here rest)) → ⊥
      go ts us j ls rest lx (is_node {cs = cs} (is_left d)) h =
          let z = name_alone c d in
          let g = bound a x u (tree z.label z.slots (hole end)) (hole end) j ls rest lx (as_binding z.taken) in
          colon_behind x.at k (here rest) (here_at (Lex text) rest g.2) (subst (λ (v : Slots). IsTrue (seen (behind_row (edge after_expression after_declarator v)) (here rest))) z.is h)
      go ts us j ls rest lx (is_node {cs = cs} (is_right d)) h = not_initialised u cs j ls rest lx d

  -- no name stands here
  pub no_name : {X : Test} → NameHere p false → Fails rule (Lex text) X end (symbol BindingIdentifier f) p.prev_token_end
  unfolding covers apart
  no_name {X} h = fails_unnamed a f (λ g. symbol BindingIdentifier g) [] refl refl refl refl refl (name_at false a h) refl

  -- an initialiser is missing
  none_bare : (c is_name : Bool) → (is_name ≡ false) ⊎ (c ≡ true) → NameHere p is_name → BindingRead a x → NoOne text (declarator c f) p.prev_token_end
  none_bare c is_name s h u = record { no = λ ts us k ls rest lx d e. go ts us k ls rest lx d }
    where
      missing_so : {cs : Slots} {k : ℕ} {ls rest : Lexemes} → Lexes (Lex text) p.prev_token_end ls → NameAlone f c cs end p.prev_token_end ls k rest → (is_name ≡ false) ⊎ (c ≡ true) → ⊥
      missing_so {k = k} {ls = ls} {rest = rest} lx z (inl e) = (no_name {X = plain full} (subst (λ (b : Bool). NameHere p b) e h)).no (tree z.label z.slots (hole end)) (hole end) k ls rest lx z.taken (refl, refl)
      missing_so lx z (inr e) = false≢true (sym z.no_constant ∙ e)

      go : (ts us : Slots) (k : ℕ) (ls rest : Lexemes) → Lexes (Lex text) p.prev_token_end ls → Takes rule (declarator c f) end ts p.prev_token_end ls us k rest → ⊥
      go ts us k ls rest lx (is_node (is_left d)) = missing_so lx (name_alone c d) s
      go ts us k ls rest lx (is_node {cs = cs} (is_right d)) = not_initialised u cs k ls rest lx d

  module _ (h : NameHere p true) where
    -- what is bound there is a name
    pub named : {ts us : Slots} {j : ℕ} {ls rest : Lexemes} → Lexes (Lex text) p.prev_token_end ls → Takes rule (symbol Binding f) end ts p.prev_token_end ls us j rest → Takes rule (symbol BindingIdentifier f) end ts p.prev_token_end ls us j rest
    unfolding rule rule_of covers apart
    named lx (is_such (is_left (is_such d t)) t') = is_such d refl
    named {j = j} {ls = ls} {rest = rest} lx (is_such {l = l} {cs = cs} (is_right d) t') = absurd ((fails_at a {X = plain full} (symbol Pattern f) (LBrack ∷ LCurly ∷ []) refl (no_pattern_name p.token.kind (listed_here p h))).no (tree l cs end) end j ls rest lx d (refl, refl))

    one_bare : BindingRead a x → One text (declarator false f) p.prev_token_end q.prev_token_end (label_here variable_declarator no_op p q) (tree x.label x.slots (hole end)) x.pass
    one_bare u = record { reach = u.reach; near = u.near; passes = u.goes.passes; sound = λ us ls lx r. there us ls lx r; only = λ ts us k ls rest lx d e. back ts us k ls rest lx d }
      where
        there : (us : Slots) (ls : Lexemes) → Lexes (Lex text) q.prev_token_end ls → Reaches u.reach q.prev_token_end ls → Takes rule (declarator false f) end (tree (label_here variable_declarator no_op p q) (tree x.label x.slots (hole end)) us) p.prev_token_end (x.pass ls) us q.prev_token_end ls
        there us ls lx r =
            let name = named (u.goes.passes.lexed ls lx) (u.goes.sound (hole end) (hole end) q.prev_token_end ls ls lx r is_nothing) in
            let start = begins_here a (here (x.pass ls)) (here_at (Lex text) (x.pass ls) (u.goes.passes.lexed ls lx)) in
            subst (λ (n : ℕ). Takes rule (declarator false f) end (tree (labelled n q.prev_token_end) (tree x.label x.slots (hole end)) us) p.prev_token_end (x.pass ls) us q.prev_token_end ls) start (is_node (is_left (is_seq name is_empty_slot)))

        back : (ts us : Slots) (k : ℕ) (ls rest : Lexemes) → Lexes (Lex text) p.prev_token_end ls → Takes rule (declarator false f) end ts p.prev_token_end ls us k rest → (ts ≡ tree (label_here variable_declarator no_op p q) (tree x.label x.slots (hole end)) us) × (k ≡ q.prev_token_end) × Lexes (Lex text) q.prev_token_end rest × (ls ≡ x.pass rest)
        back ts us k ls rest lx (is_node {cs = cs} (is_left d)) =
            let z = name_alone false d in
            let g = bound a x u (tree z.label z.slots (hole end)) (hole end) k ls rest lx (as_binding z.taken) in
            let children : cs ≡ tree x.label x.slots (hole end) = z.is ∙ g.0 in
            let start = begins_here a (here ls) (here_at (Lex text) ls lx) in
            ((λ i. tree (labelled (start i) (g.1 i)) (children i) us), g.1, g.2, g.3)
        back ts us k ls rest lx (is_node {cs = cs} (is_right d)) = absurd (not_initialised u cs k ls rest lx d)

-- ---- what the call answers

-- a node of a declarator was made
declared : {text : List ℕ} {f : Flags} {c : Bool} {p w : Parser} (q : Parser) {l : Label} {cs : Slots} {id : NodeId} {pass : Lexemes → Lexemes} → At text f q → Same p q → p.token.span.start < q.prev_token_end → Walked text (spot p) (spot q) pass
    → Verdict (f.wide ≡ true) p.errors q.errors (One text (declarator c f) p.prev_token_end q.prev_token_end l cs pass) (NoOne text (declarator c f) p.prev_token_end) → apart (is Comma) (ends_row (row_of l cs)) ≡ true
    → (f.in_ ≡ true → (q.token.kind ≡ Comma → ⊥) → (y : Lexeme) → Plain text q.prev_token_end y → IsTrue (seen (stops_row (row_of l cs)) y)) → w ≡ record q { nodes = w.nodes } → Holds w.nodes (length p.nodes) (length w.nodes) id.0 l cs → Keeps p.nodes w.nodes
    → (IsCharBoundary p.text p.token.span.start → NodesLie q.text q.nodes → NodesLie q.text w.nodes) → Declarator text f c p w id
declared {text} {f} {c} {p} {w} q {l} {cs} {id} {pass} at same further walked verdict comma stops m h k i = go w.nodes m h k i
  where
    go : (ns : List Node) → w ≡ record q { nodes = ns } → Holds w.nodes (length p.nodes) (length w.nodes) id.0 l cs → Keeps p.nodes w.nodes → (IsCharBoundary p.text p.token.span.start → NodesLie q.text q.nodes → NodesLie q.text w.nodes) → Declarator text f c p w id
    go ns m h k i = subst (λ (z : Parser). Declarator text f c p z id) (sym m) (record {
      at = beside_nodes ns at;
      same = same_with ns same (subst (λ (z : Parser). Keeps p.nodes z.nodes) m k) (λ b z. subst (λ (v : Parser). NodesLie q.text v.nodes) m (i b z));
      further = further;
      label = l;
      slots = cs;
      pass = pass;
      walked = walked;
      verdict = verdict;
      comma = λ y a b. not_both (is Comma) (ends_row (row_of l cs)) comma y.kind y.newline y.escaped a b;
      stops = stops;
      holds = subst (λ (z : Parser). Holds z.nodes (length p.nodes) (length z.nodes) id.0 l cs) m h;
      keeps = subst (λ (z : Parser). Keeps p.nodes z.nodes) m k;
    })

-- nothing goes on with an initialiser that no comma stands behind
value_ends : {text : List ℕ} {f : Flags} {r v : Parser} → (y : Answer text f (at Assignment f) r v) → f.in_ ≡ true → (v.token.kind ≡ Comma → ⊥) → (z : Lexeme) → Plain text v.prev_token_end z → IsTrue (seen (stops_row (row_of y.label y.slots)) z)
unfolding covers apart
value_ends {text} {f} {r} {v} y i n z l =
    let row = row_of y.label y.slots in
    let s = narrows 2 1 (Comma ∷ []) f.in_ row (narrow_assignment 2 1 (Comma ∷ []) (narrow_operand 2 1 (Comma ∷ []) refl refl refl refl) refl refl refl refl f.in_ row y.row) z l.1 (no_comma (one_of_kinds (Comma ∷ []) z.kind) refl) (y.stops z l) in
    covered (ends_value row) (stops_row row) (value_stops row) z.kind z.newline z.escaped (and_from _ _ (plain_or_escapable z (plain_lex l)) (subst (λ (b : Bool). IsTrue (seen (looser 1 b row) z || seen beside z)) i s))
  where
    no_comma : (b : Bool) → one_of_kinds (Comma ∷ []) z.kind ≡ b → one_of_kinds (Comma ∷ []) z.kind ≡ false
    no_comma true e = absurd (not_here y.at (Comma ∷ []) refl (other_kind Comma v.token.kind n) z (plain_lex l) e)
    no_comma false e = e

-- nor with a name alone that neither stands behind
name_ends : {text : List ℕ} {f : Flags} {q : Parser} → At text f q → (q.token.kind ≡ Eq → ⊥) → (q.token.kind ≡ Comma → ⊥) → (y : Lexeme) → Plain text q.prev_token_end y → IsTrue (seen (stops_row after_declarator) y)
unfolding apart
name_ends {q = q} a n m y l = or_right (one_of_kinds link_kinds y.kind) _ (ap not (neither (one_of_kinds (Eq ∷ Comma ∷ []) y.kind) refl))
  where
    none : one_of_kinds (Eq ∷ Comma ∷ []) q.token.kind ≡ false
    none = by (same_kind Eq q.token.kind) refl
      where
        by : (b : Bool) → same_kind Eq q.token.kind ≡ b → (b || one_of_kinds (Comma ∷ []) q.token.kind) ≡ false
        by true e = absurd (n (sym (kind_of_same Eq q.token.kind e)))
        by false e = other_kind Comma q.token.kind m

    neither : (b : Bool) → one_of_kinds (Eq ∷ Comma ∷ []) y.kind ≡ b → one_of_kinds (Eq ∷ Comma ∷ []) y.kind ≡ false
    neither true e = absurd (not_here a (Eq ∷ Comma ∷ []) refl none y (plain_lex l) e)
    neither false e = e

module _ {text : List ℕ} {f : Flags} {p q : Parser} {binding : NodeId} (a : At text f p) (x : Numbered text f (at Binding f) p q binding) where
  pub annotated_none : (c : Bool) → q.token.kind ≡ Colon → NoOne text (declarator c f) p.prev_token_end
  annotated_none c k = either_way x.answer.verdict (λ u. none_annotated a x.answer (λ e. let z : Colon ≡ Eq = sym k ∙ e in cc) c k u) (λ b. unbound c b)

  pub annotated_stops : (c : Bool) → q.token.kind ≡ Colon → (v : Parser) (e : Stop) → GivesUp EndsParse q v e → Stops p v e (NoOne text (declarator c f) p.prev_token_end)
  annotated_stops c k v e g = stops_behind v e x.answer.same (λ h. grown_behind x.answer.verdict h) (λ n. n) (gives_up EndsParse q v e x.answer.at g (λ d u. u) (annotated_none c k))

  module _ {r : Parser} (k : q.token.kind ≡ Eq) (m : Moved text f q r) where
    pub initialiser_none : (c : Bool) → Underived text (at Assignment f) r.prev_token_end → NoOne text (declarator c f) p.prev_token_end
    initialiser_none c n = either_way x.answer.verdict (λ u. no_value a x.answer k m c u n) (λ b. unbound c b)

    pub initialiser_stops : (c : Bool) (v : Parser) (e : Stop) → Stops r v e (Underived text (at Assignment f) r.prev_token_end) → Stops p v e (NoOne text (declarator c f) p.prev_token_end)
    initialiser_stops c v e t = stops_behind v e (same_both x.answer.same m.same) (λ g. grown_behind x.answer.verdict (grown_then m.kept g)) (λ n. initialiser_none c n) t

    pub declared_with : (c : Bool) {v w : Parser} {value id : NodeId} (s : Span) → (y : Numbered text f (at Assignment f) r v value) → s.start ≡ p.token.span.start → s.end ≡ v.prev_token_end → MadeHere (plain_label node.VariableDeclarator op.None s) (Some binding ∷ Some value ∷ []) v w id → Declarator text f c p w id
    declared_with c {v} {w} {value} {id} s y b d n =
        let l : plain_label node.VariableDeclarator op.None s ≡ label_here variable_declarator no_op p v = rw (b, d) refl in
        let z : MadeHere (label_here variable_declarator no_op p v) (Some binding ∷ Some value ∷ []) v w id = subst (λ (v' : Label). MadeHere v' (Some binding ∷ Some value ∷ []) v w id) l n in
        let h : Holds v.nodes (length q.nodes) (length v.nodes) value.0 y.answer.label y.answer.slots = subst (λ (ns : List Node). Holds v.nodes (length ns) (length v.nodes) value.0 y.answer.label y.answer.slots) m.nodes y.holds in
        let i : Keeps q.nodes v.nodes = subst (λ (ns : List Node). Keeps ns v.nodes) m.nodes y.keeps in
        let e = same_both x.answer.same (same_both m.same y.answer.same) in
        let o : p.token.span.start < v.prev_token_end = let a1 = x.answer.further in let a2 = x.answer.at.behind in let a3 = m.further in let a4 = m.at.behind in let a5 = y.answer.further in omega arith in
        declared v y.answer.at e o (walked_both x.answer.walked (walked_both (walked_one m) y.answer.walked))
        (and_then x.answer.verdict (behind_none m.kept y.answer.verdict) (λ u t. one_with a x.answer k m y.answer c u t) (λ t. unbound c t) (λ u t. no_value a x.answer k m c u t))
        (comma_behind_value (row_of y.answer.label y.answer.slots) y.answer.row) (λ in_ no t l. value_ends y.answer in_ no t l) z.stays
        (two_held z x.holds x.keeps h i) (Keeps-trans x.keeps (Keeps-trans i (Keeps-made z.made))) (made_lies e y.answer.at.at (omega arith) z refl)

  module _ (n : q.token.kind ≡ Eq → ⊥) where
    name_held : {o w : Parser} {l : Label} {id : NodeId} → o.nodes ≡ q.nodes → MadeHere l (Some binding ∷ None ∷ []) o w id → Holds w.nodes (length p.nodes) (length w.nodes) id.0 l (tree x.answer.label x.answer.slots (hole end))
    name_held {o} e z = node_held z (subst (λ (ns : List Node). HoldsAll ns (length p.nodes) (length ns) (Some binding ∷ None ∷ []) (tree x.answer.label x.answer.slots (hole end))) (sym e) (HoldsAll-hole (HoldsAll-one binding x.holds)))

    pub declared_bare : (c is_name : Bool) {w : Parser} {id : NodeId} (s : Span) → NameHere p is_name → EndsDeclarator c is_name s binding q w id → s.start ≡ p.token.span.start → s.end ≡ q.prev_token_end → Declarator text f c p w id
    declared_bare c is_name {w} {id} s h g b d =
        let l : plain_label node.VariableDeclarator op.None s ≡ label_here variable_declarator no_op p q = rw (b, d) refl in
        let z : MadeHere (label_here variable_declarator no_op p q) (Some binding ∷ None ∷ []) g.mid w id = subst (λ (v : Label). MadeHere v (Some binding ∷ None ∷ []) g.mid w id) l g.made in
        go g.mid g.checked z
      where
        go : (o : Parser) → ChecksInitialiser c is_name s q o → MadeHere (label_here variable_declarator no_op p q) (Some binding ∷ None ∷ []) o w id → Declarator text f c p w id
        go o (inl (t, e, u)) z =
            let z' : MadeHere (label_here variable_declarator no_op p q) (Some binding ∷ None ∷ []) q w id = subst (λ (v : Parser). MadeHere (label_here variable_declarator no_op p q) (Some binding ∷ None ∷ []) v w id) u z in
            declared q x.answer.at x.answer.same x.answer.further x.answer.walked
            (subst (λ (c' : Bool). Verdict (f.wide ≡ true) p.errors q.errors (One text (declarator c' f) p.prev_token_end q.prev_token_end (label_here variable_declarator no_op p q) (tree x.answer.label x.answer.slots (hole end)) x.answer.pass) (NoOne text (declarator c' f) p.prev_token_end)) (sym e)
            (verdict_of x.answer.verdict (λ u. one_bare a x.answer n (subst (λ (b : Bool). NameHere p b) t h) u) (λ u. unbound false u)))
            comma_behind_name (λ in_ no y l. name_ends x.answer.at n no y l) z'.stays (name_held refl z') (Keeps-trans x.keeps (Keeps-made z'.made)) (made_lies x.answer.same x.answer.at.at (let i = x.answer.further in omega arith) z' refl)
        go o (inr (t, u)) z =
            let e = same_both x.answer.same (told_same u (early is_name)) in
            let place : o.prev_token_end ≡ q.prev_token_end = ap (λ (v : Parser). v.prev_token_end) u.is in
            let nodes : o.nodes ≡ q.nodes = ap (λ (v : Parser). v.nodes) u.is in
            let y : MadeHere (label_here variable_declarator no_op p o) (Some binding ∷ None ∷ []) o w id = subst (λ (v : ℕ). MadeHere (labelled p.token.span.start v) (Some binding ∷ None ∷ []) o w id) (sym place) z in
            let o' : p.token.span.start < o.prev_token_end = let i = x.answer.further in omega arith in
            declared o (told_at u x.answer.at) e o' (walked_to (sym (ap spot u.is)) x.answer.walked)
            (unclean (grown_behind_told u) (either_way x.answer.verdict (λ b. none_bare a x.answer n c is_name t h b) (λ b. unbound c b)))
            comma_behind_name (λ in_ no y l. name_ends (told_at u x.answer.at) (λ k. n (sym (ap (λ (v : Parser). v.token.kind) u.is) ∙ k)) no y l) y.stays (name_held nodes y) (Keeps-trans (subst (λ (ns : List Node). Keeps p.nodes ns) (sym nodes) x.keeps) (Keeps-made y.made)) (made_lies e (told_at u x.answer.at).at (omega arith) y refl)
          where
            early : (b : Bool) → class_of (missing b) ≡ Early
            early true = refl
            early false = refl

            grown_behind_told : {d : Diagnostic} → KeepsDiagnostic d q o → Grown p.errors o.errors
            grown_behind_told k = grown_behind x.answer.verdict (kept_one k)

-- ---- what is told of an initialiser that is missing

lacks : (is_name c : Bool) → (is_name && not c) ≡ false → (is_name ≡ false) ⊎ (c ≡ true)
lacks false c h = inl refl
lacks true true h = inr refl
lacks true false h = absurd (false≢true (sym h))

pub told_missing : {E : Type 0} (p q : Parser) (c is_name : Bool) {b : Bool} {s : Span} {k : DiagnosticKind} {d : Diagnostic} (r : Result (Unit {0}) E) → d ≡ unrelated_at k s → k ≡ missing is_name → b ≡ (is_name && not c) → b ≡ false → MatchResult r (λ x. KeepsDiagnostic d p q) (λ e. q ≡ p) → IfOk r (λ x. ChecksInitialiser c is_name s p q)
told_missing p q c is_name {s = s} (Ok x) g h i j t = inr (lacks is_name c (sym i ∙ j), subst (λ (v : Diagnostic). KeepsDiagnostic v p q) (g ∙ ap (λ (v : DiagnosticKind). unrelated_at v s) h) t)
told_missing p q c is_name (Err e) g h i j t = tt
