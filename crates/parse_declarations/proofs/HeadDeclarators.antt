-- The first declarator in the head of a `for` (ECMA-262, 14.7.4, 14.7.5, B.3.5).
use Rattle.std.proofs.Common.{ℕ, ◌≡◌, ◌<◌, ◌⊎◌, inl, inr, max, List, [], ◌∷◌, length, Option, Some, None, Bool, true, false, not, ◌&&◌, ◌||◌, IsTrue, refl, sym, ap, subst, arith, ◌∙◌}
use Rattle.std.specs.Prelude.{IsCharBoundary, Result, Ok, Err}
use Rattle.std.proofs.lemmas.Bool.{false≢true, and_from, and_parts}
use Rattle.js_base.specs.declared.kind.Kind.{Kind}
use Rattle.js_base.specs.declared.kind.Kind.TheVariants.{Colon, Comma, Eq, Ident, In, LBrack, LCurly, Of, Semicolon, Undetermined}
use Rattle.js_base.specs.declared.span.Span.{Span}
use Rattle.js_base.specs.Kinds.{same_kind, one_of_kinds}
use Rattle.js_base.specs.KindSets.{binding_identifier_kinds}
use Rattle.js_base.proofs.KindLemmas.{kind_of_same}
use Rattle.js_grammar.specs.Trees.{Label, Slots, append, end, hole, tree, no_op, variable_declarator}
use Rattle.js_grammar.specs.Grammar.{Lexeme, Lexemes, here, Look, seen, is, such, nothing, empty_slot, seq, Takes, is_nothing, is_lexeme, is_such, is_seq, is_left, is_right, is_empty_slot, is_node, is_commas, ◌▸◌}
use Rattle.js_grammar.specs.Insertion.{Row}
use Rattle.js_grammar.specs.Lexed.{Lexes}
use Rattle.js_grammar.specs.Parsing.{Test, Admits, plain, full, always, Goes, Fails}
use Rattle.js_grammar.specs.Productions.{G, Flags, at, tok, Assignment, Binding, BindingIdentifier, Init, Pattern}
use Rattle.js_grammar.specs.Productions.{sym as symbol}
use Rattle.js_grammar.specs.Table.{rule, rule_of, declarator}
use Rattle.js_grammar.specs.Follow.{after, follow, edge_of, looser, row_of}
use Rattle.js_grammar.proofs.Looks.{covers, covered, apart, not_both}
use Rattle.js_grammar.proofs.Calculus.{On, ◌▹◌, ends, here_at, part_fails, fails_node, fails_rule, inside_full, reads_empty_slot, then_by, weaken_fails_on}
use Rattle.js_grammar.proofs.FollowLaws.{admits}
use Rattle.js_grammar.proofs.RightEdges.{at_row}
use Rattle.parse_shared.specs.js_tree.declared.id.NodeId.{NodeId}
use Rattle.parse_shared.specs.js_tree.declared.kind.NodeKind.TheVariants as node
use Rattle.parse_shared.specs.js_tree.declared.op.Op.TheVariants as op
use Rattle.parse_shared.specs.js_tree.Nodes.{Node}
use Rattle.parse_shared.specs.js_tree.Holding.{Holds, HoldsAll, Keeps}
use Rattle.parse_shared.proofs.js_tree.HoldingLemmas.{HoldsAll-append, HoldsAll-kept, HoldsAll-one, HoldsAll-hole, Keeps-trans, Keeps-made}
use Rattle.parse_shared.specs.js_cursor.Parsers.{Parser}
use Rattle.parse_shared.specs.js_cursor.Moves.{GivesUp}
use Rattle.parse_shared.specs.js_cursor.declared.stop.Stop.{Stop}
use Rattle.parse_shared.specs.laws_shared.Classes.{EndsParse}
use Rattle.parse_shared.specs.laws_shared.Answers.{Answer, Numbered, Stops, Stretch, Underived, Verdict}
use Rattle.parse_shared.specs.laws_shared.Lexemes.{Lex, spot}
use Rattle.parse_shared.specs.laws_shared.Moves.{Moved, Moves, MadeHere, plain_label}
use Rattle.parse_shared.specs.laws_shared.Stands.{NameHere, StandsHere}
use Rattle.parse_shared.specs.laws_shared.States.{At, Same, NodesLie}
use Rattle.parse_declarations.specs.Declarations.{Declarator, Declarators, DeclaratorsRead, EndsDeclarator, NoDeclarators, NoneOf, NoOne, list_of}
use Rattle.parse_declarations.specs.HeadDeclarators.{BesideThrough, BoundThrough, DeclaratorsBehind, HeadList, HeadRead, InitialisedAs, NoHeadDeclarator, NoneBehind, ThroughHere, ValueRead, ValueTaken, bound_alone, goes_through, named_value}
use Rattle.parse_declarations.specs.declared.head.HeadDeclarator.{HeadDeclarator}
use Rattle.parse_declarations.specs.declared.head.HeadForm.{HeadForm}
use Rattle.parse_declarations.specs.declared.head.HeadForm.TheVariants as form
use Rattle.parse_declarations.proofs.DeclaratorLists.{Underway, underway_end, underway_init, underway_step}
use Rattle.parse_declarations.proofs.Declarators.{BindingRead, annotated_none, as_binding, bound, declared_bare, declared_with, initialiser_none, name_alone, no_eq_here, unbound}
use Rattle.laws_patterns.proofs.Bindings.{no_binding, no_pattern_name}
use Rattle.parse_shared.proofs.laws_shared.Giving.{gives_up}
use Rattle.parse_shared.proofs.laws_shared.Here.{unsettled}
use Rattle.parse_shared.proofs.laws_shared.NameKinds.{listed_here, listed_name, name_at, no_listed_name}
use Rattle.parse_shared.proofs.laws_shared.NamedFirsts.{fails_unnamed}
use Rattle.parse_shared.specs.laws_shared.Lexemes.{escaped_word}
use Rattle.parse_shared.proofs.laws_shared.MadeNodes.{node_held, two_held, made_lies}
use Rattle.parse_shared.proofs.laws_shared.Moving.{beside_nodes, same_both, same_with, stops_behind}
use Rattle.parse_shared.proofs.laws_shared.Paths.{Path, ◌⟶◌, ◌⟶✗◌, by_symbol_as, fails_at, label_here, last_called, noded, noded_by, token, walked_both}
use Rattle.parse_shared.proofs.laws_shared.Signs.{plain_sign, stands_not, word_there}
use Rattle.parse_shared.proofs.laws_shared.Verdicts.{and_then, either_way, grown_then, verdict_of}
use Rattle.parse_shared.proofs.laws_shared.Verdicts.{after as grown_behind}
use Rattle.parse_shared.proofs.laws_shared.PlainSigns.{eq_plain}

-- ---- whether `in` or `of` stands there

through_look : {text : List ℕ} {f : Flags} {q : Parser} → At text f q → ThroughHere q true → (y : Lexeme) → Lex text q.prev_token_end y → IsTrue (seen goes_through y)
through_look {q = q} a h y l = by h
  where
    with_kind : (k : Kind) → one_of_kinds (In ∷ Of ∷ []) k ≡ true → one_of_kinds unsettled k ≡ false → StandsHere q k true → IsTrue (seen goes_through y)
    with_kind k m r s = let z = word_there a s.0 s.1 r y l in and_from (one_of_kinds (In ∷ Of ∷ []) y.kind) (not y.escaped) (ap (one_of_kinds (In ∷ Of ∷ [])) z.0 ∙ m) (ap not z.1)

    by : ThroughHere q true → IsTrue (seen goes_through y)
    by (inl s) = with_kind In refl refl s
    by (inr s) = with_kind Of refl refl s

in_or_of : (k : Kind) → one_of_kinds (In ∷ Of ∷ []) k ≡ true → (k ≡ In) ⊎ (k ≡ Of)
in_or_of k h = by (same_kind In k) refl h
  where
    last : (b : Bool) → same_kind Of k ≡ b → (b || false) ≡ true → (k ≡ In) ⊎ (k ≡ Of)
    last true e h = inr (sym (kind_of_same Of k e))
    last false e h = absurd (false≢true h)

    by : (b : Bool) → same_kind In k ≡ b → (b || (same_kind Of k || false)) ≡ true → (k ≡ In) ⊎ (k ≡ Of)
    by true e h = inl (sym (kind_of_same In k e))
    by false e h = last (same_kind Of k) refl h

pub through_not : {text : List ℕ} {f : Flags} {q : Parser} → At text f q → ThroughHere q false → (y : Lexeme) → Lex text q.prev_token_end y → IsTrue (seen goes_through y) → ⊥
through_not a n y l h = by (in_or_of y.kind parts.0)
  where
    parts : (one_of_kinds (In ∷ Of ∷ []) y.kind ≡ true) × (not y.escaped ≡ true)
    parts = and_parts (one_of_kinds (In ∷ Of ∷ []) y.kind) (not y.escaped) h

    plain : (b : Bool) → not b ≡ true → b ≡ false
    plain true i = absurd (false≢true i)
    plain false i = refl

    by : (y.kind ≡ In) ⊎ (y.kind ≡ Of) → ⊥
    by (inl e) = stands_not a refl n.0 y l e (plain y.escaped parts.1)
    by (inr e) = stands_not a refl n.1 y l e (plain y.escaped parts.1)

-- neither is what goes on with a list
comma_not_through : apart (is Comma) goes_through ≡ true
unfolding apart
comma_not_through = refl

end_not_through : apart (is Semicolon) goes_through ≡ true
unfolding apart
end_not_through = refl

sign_not_through : apart (is Eq) goes_through ≡ true
unfolding apart
sign_not_through = refl

never_both : (F : Look) → apart F goes_through ≡ true → (y : Lexeme) → IsTrue (seen F y) → IsTrue (seen goes_through y) → ⊥
never_both F c y h g = not_both F goes_through c y.kind y.newline y.escaped h g

-- `in` may stand behind an initialiser
in_covered : (r : Row) → covers (is In) (looser 2 false r) ≡ true
unfolding covers
in_covered r = at_row (λ r. covers (is In) (looser 2 false r)) refl r

-- ---- where nothing is bound

pub no_head_declarator : {text : List ℕ} {f : Flags} {s : ℕ} (c : Bool) → Underived text (at Binding f) s → NoHeadDeclarator text f c s
no_head_declarator {text} {f} {s} c n = record {
  no_one = unbound c n;
  not_alone = fails_node inside_full (part_fails {X' = after (at Binding f)} n (record { admits = λ ts us vs j k ls mid rest d d' e. (refl, refl) }));
  no_value = λ i. record { no = λ ts vs k ls rest l d e. go l d };
}
  where
    go : {ts vs : Slots} {k : ℕ} {ls rest : Lexemes} → Lexes (Lex text) s ls → Takes rule (named_value f) end ts s ls vs k rest → ⊥
    go l (is_node {cs = cs} (is_seq {us = us} {j = j} {mid = mid} d i)) = n.no cs us j _ mid l (as_binding d) (refl, refl)

module _ {text : List ℕ} {f : Flags} {p q : Parser} (a : At text f p) (x : Answer text f (at Binding f) p q) where
  -- before what doesn't stand there, nothing is bound alone
  not_alone_read : ThroughHere q false → Fails rule (Lex text) (plain goes_through) end (bound_alone f) p.prev_token_end
  not_alone_read n = either_way x.verdict (λ u. record { no = λ ts vs k ls rest l d e. go u l d e.0 }) (λ z. (no_head_declarator false z).not_alone)
    where
      go : BindingRead a x → {ts vs : Slots} {k : ℕ} {ls rest : Lexemes} → Lexes (Lex text) p.prev_token_end ls → Takes rule (bound_alone f) end ts p.prev_token_end ls vs k rest → IsTrue (seen goes_through (here rest)) → ⊥
      go u {rest = rest} l (is_node {cs = cs} (is_seq {us = us} {j = j} d is_empty_slot)) h = let g = bound a x u cs us j _ rest l d in through_not x.at n (here rest) (here_at (Lex text) rest g.2) h

  -- nor a name with an initialiser, where no `=` stands
  no_value_read : (q.token.kind ≡ Eq → ⊥) → Fails rule (Lex text) (plain (is In)) end (named_value f) p.prev_token_end
  unfolding rule rule_of
  no_value_read n = either_way x.verdict (λ u. record { no = λ ts vs k ls rest l d e. go u l d }) (λ z. record { no = λ ts vs k ls rest l d e. none z l d })
    where
      none : Underived text (at Binding f) p.prev_token_end → {ts vs : Slots} {k : ℕ} {ls rest : Lexemes} → Lexes (Lex text) p.prev_token_end ls → Takes rule (named_value f) end ts p.prev_token_end ls vs k rest → ⊥
      none z l (is_node {cs = cs} (is_seq {us = us} {j = j} {mid = mid} d i)) = z.no cs us j _ mid l (as_binding d) (refl, refl)

      go : BindingRead a x → {ts vs : Slots} {k : ℕ} {ls rest : Lexemes} → Lexes (Lex text) p.prev_token_end ls → Takes rule (named_value f) end ts p.prev_token_end ls vs k rest → ⊥
      go u l (is_node {cs = cs} (is_seq {us = us} {j = j} {mid = mid} d (is_such (is_seq (is_lexeme {x = z} e) i) t))) = let g = bound a x u cs us j _ mid l (as_binding d) in no_eq_here x.at n z g.2.0 e

  -- nor a list of declarators, where `in` or `of` stands
  no_list_read : (c : Bool) → ThroughHere q true → Fails rule (Lex text) (plain (is Semicolon)) end (list_of c f) p.prev_token_end
  unfolding rule rule_of
  no_list_read c h = either_way x.verdict (λ u. record { no = λ ts vs k ls rest l d e. go u l d e.0 }) (λ z. record { no = λ ts vs k ls rest l d e. none z l d e.0 })
    where
      look : (y : Lexeme) → Lex text q.prev_token_end y → IsTrue (seen goes_through y)
      look = through_look x.at h

      none : Underived text (at Binding f) p.prev_token_end → {ts vs : Slots} {k : ℕ} {ls rest : Lexemes} → Lexes (Lex text) p.prev_token_end ls → Takes rule (list_of c f) end ts p.prev_token_end ls vs k rest → IsTrue (seen (is Semicolon) (here rest)) → ⊥
      none z l (is_commas (is_seq (is_node (is_left d)) r)) e = let m = name_alone c d in z.no (tree m.label m.slots (hole end)) (hole end) _ _ _ l (as_binding m.taken) (refl, refl)
      none z l (is_commas (is_seq (is_node {cs = cs} (is_right (is_seq {us = us} {j = j} {mid = mid} d i))) r)) e = z.no cs us j _ mid l d (refl, refl)

      go : BindingRead a x → {ts vs : Slots} {k : ℕ} {ls rest : Lexemes} → Lexes (Lex text) p.prev_token_end ls → Takes rule (list_of c f) end ts p.prev_token_end ls vs k rest → IsTrue (seen (is Semicolon) (here rest)) → ⊥
      go u l (is_commas (is_seq {mid = mid} (is_node (is_left d)) (is_left (is_seq (is_lexeme q') r)))) e =
          let m = name_alone c d in
          let g = bound a x u (tree m.label m.slots (hole end)) (hole end) _ _ mid l (as_binding m.taken) in
          never_both (is Comma) comma_not_through (here mid) q' (look (here mid) (here_at (Lex text) mid g.2))
      go u {rest = rest} l (is_commas (is_seq (is_node (is_left d)) (is_right is_nothing))) e =
          let m = name_alone c d in
          let g = bound a x u (tree m.label m.slots (hole end)) (hole end) _ _ rest l (as_binding m.taken) in
          never_both (is Semicolon) end_not_through (here rest) e (look (here rest) (here_at (Lex text) rest g.2))
      go u l (is_commas (is_seq (is_node {cs = cs} (is_right (is_seq {us = us} {j = j} {mid = mid} d (is_such (is_seq (is_lexeme {x = z} e') i) t)))) r)) e = let g = bound a x u cs us j _ mid l d in never_both (is Eq) sign_not_through z e' (look z g.2.0)

  -- what is bound alone
  alone_path : Path text f (plain full) (bound_alone f) p nothing q (tree (label_here variable_declarator no_op p q) (tree x.label x.slots (hole end)))
  alone_path = noded a (record {
    at = x.at;
    further = x.further;
    pass = x.pass;
    walked = x.walked;
    verdict = verdict_of x.verdict (λ u. record { reach = max u.reach 0; near = let i = u.near in omega arith; goes = then_by u.goes (record { admits = λ ts us vs j k ls mid rest d d' e. (refl, refl) }) ▹ reads_empty_slot }) (λ n. part_fails {X' = after (at Binding f)} n (record { admits = λ ts us vs j k ls mid rest d d' e. (refl, refl) }));
  })

-- ---- a name with an initialiser

-- where a name stands, what is bound is that
name_as : {text : List ℕ} {f : Flags} {p : Parser} → At text f p → NameHere p true → {ts us : Slots} {j : ℕ} {ls rest : Lexemes} → Lexes (Lex text) p.prev_token_end ls → Takes rule (symbol Binding f) end ts p.prev_token_end ls us j rest → Takes rule (symbol BindingIdentifier f) end ts p.prev_token_end ls us j rest
unfolding rule rule_of covers apart
name_as a h l (is_such (is_left (is_such d t)) t') = is_such d refl
name_as {f = f} {p = p} a h {j = j} {ls = ls} {rest = rest} l (is_such {l = m} {cs = cs} (is_right d) t') = absurd ((fails_at a {X = plain full} (symbol Pattern f) (LBrack ∷ LCurly ∷ []) refl (no_pattern_name p.token.kind (listed_here p h))).no (tree m cs end) end j ls rest l d (refl, refl))

-- where none stands, no name is derived
no_identifier : {text : List ℕ} {f : Flags} {p : Parser} {X : Test} → At text f p → NameHere p false → Fails rule (Lex text) X end (symbol BindingIdentifier f) p.prev_token_end
unfolding covers apart
no_identifier {f = f} a h = fails_unnamed a f (λ g. symbol BindingIdentifier g) [] refl refl refl refl refl (name_at false a h) refl

no_named_value : {text : List ℕ} {f : Flags} {p : Parser} {X : Test} → At text f p → NameHere p false → Fails rule (Lex text) X end (named_value f) p.prev_token_end
no_named_value a h = fails_node inside_full (part_fails {X' = plain full} (no_identifier a h) (record { admits = λ ts us vs j k ls mid rest d d' e. (refl, refl) }))

module _ {text : List ℕ} {f : Flags} {p q : Parser} (i : f.in_ ≡ false) (a : At text f p) (x : Answer text f (at Binding f) p q) (h : NameHere p true) (n : q.token.kind ≡ Eq) where
  name_read : {X : Test} → (u : BindingRead a x) → Goes rule (Lex text) X end (symbol BindingIdentifier f) p.prev_token_end nothing q.prev_token_end (tree x.label x.slots) (record { reach = u.reach; pass = x.pass })
  name_read u = record {
    passes = u.goes.passes;
    sound = λ us vs k ls rest l r d. name_as a h (u.goes.passes.lexed ls l) (u.goes.sound us vs k ls rest l r d);
    only = λ ts vs k ls rest l d e. u.goes.only ts vs k ls rest l (as_binding d) (refl, refl);
  }

  then_value : {X : Test} → Path text f X (symbol BindingIdentifier f ▸ symbol Init f) p (symbol Init f) q (tree x.label x.slots)
  then_value = record {
    at = x.at;
    further = x.further;
    pass = x.pass;
    walked = x.walked;
    verdict = verdict_of x.verdict
        (λ u. record { reach = u.reach; near = u.near; goes = then_by {X' = plain full} (name_read u) (record { admits = λ ts us vs j k ls mid rest d d' e. (refl, refl) }) })
        (λ z. part_fails {X' = plain full} (record { no = λ ts vs k ls rest l d e. z.no ts vs k ls rest l (as_binding d) (refl, refl) }) (record { admits = λ ts us vs j k ls mid rest d d' e. (refl, refl) }));
  }

  module _ {r : Parser} (m : Moved text f q r) where
    on_value : {s : ℕ} → On rule (plain (is In)) (after (at Assignment f)) end (symbol Assignment f) s
    on_value = record { admits = λ ts vs k ls rest d e. go ts d e.0 }
      where
        go : (ts : Slots) {vs : Slots} {j k : ℕ} {ls rest : Lexemes} → Takes rule (symbol Assignment f) end ts j ls vs k rest → IsTrue (seen (is In) (here rest)) → Admits (after (at Assignment f)) ts (here rest)
        go ts {rest = rest} (is_such {l = l} {cs = cs} {us = us} d t) e = admits (at Assignment f) (tree l cs us) (here rest) (subst (λ (b : Bool). IsTrue (seen (looser 2 b (row_of l cs)) (here rest))) (sym i) (covered (is In) (looser 2 false (row_of l cs)) (in_covered (row_of l cs)) (here rest).kind (here rest).newline (here rest).escaped e))

    sign_read : {X : Test} → Path text f X (tok Eq ▸ symbol Assignment f) q (symbol Assignment f) r (λ us. us)
    unfolding rule
    sign_read = token Eq x.at n (plain_sign Eq x.at n refl refl eq_plain) refl m

    no_value_there : Underived text (at Assignment f) r.prev_token_end → Fails rule (Lex text) (plain (is In)) end (named_value f) p.prev_token_end
    unfolding rule rule_of
    no_value_there z = fails_node {X' = plain (is In)} (record { ends = λ s cs vs j ls mid d e. e }) (then_value ⟶✗ fails_rule {X' = plain (is In)} (λ l cs vs y e. e) (sign_read ⟶✗ weaken_fails_on z on_value))

    value_path : {v : Parser} → (y : Answer text f (at Assignment f) r v) → Path text f (plain (is In)) (named_value f) p nothing v (tree (label_here variable_declarator no_op p v) (tree x.label x.slots (tree y.label y.slots end)))
    unfolding rule rule_of
    value_path y = noded_by {X' = plain (is In)} a (record { ends = λ s cs vs j ls mid d e. e }) (then_value ⟶ by_symbol_as {X' = plain (is In)} (λ l cs vs y e. e) (sign_read ⟶ last_called y on_value))

-- ---- what the call answers

-- a colon stands behind what is bound
pub annotated_head : {text : List ℕ} {f : Flags} {p q : Parser} {binding : NodeId} (c : Bool) → At text f p → Numbered text f (at Binding f) p q binding → q.token.kind ≡ Colon → (v : Parser) (e : Stop) → GivesUp EndsParse q v e → Stops p v e (NoHeadDeclarator text f c p.prev_token_end)
annotated_head {q = q} c a x k v e g = stops_behind v e x.answer.same (λ h. grown_behind x.answer.verdict h) (λ n. n) (gives_up EndsParse q v e x.answer.at g (λ d u. u) (record {
  no_one = annotated_none a x c k;
  not_alone = not_alone_read a x.answer (λ j i. let z : Colon ≡ In = sym k ∙ j in cc, λ j i. let z : Colon ≡ Of = sym k ∙ j in cc);
  no_value = λ i. no_value_read a x.answer (λ j. let z : Colon ≡ Eq = sym k ∙ j in cc);
}))

not_equals : (q : Parser) → ThroughHere q true → q.token.kind ≡ Eq → ⊥
not_equals q (inl s) e = let k : In ≡ Eq = sym s.0 ∙ e in cc
not_equals q (inr s) e = let k : Of ≡ Eq = sym s.0 ∙ e in cc

pub bound_answers : {text : List ℕ} {f : Flags} {p q w : Parser} {binding id : NodeId} (c : Bool) → At text f p → Numbered text f (at Binding f) p q binding → ThroughHere q true → (s : Span) → s.start ≡ p.token.span.start → s.end ≡ q.prev_token_end → MadeHere (plain_label node.VariableDeclarator op.None s) (Some binding ∷ None ∷ []) q w id → BoundThrough text f c p w id
bound_answers {text} {f} {p} {q} {w} {binding} {id} c a x h s b d n =
    let l : plain_label node.VariableDeclarator op.None s ≡ label_here variable_declarator no_op p q = rw (b, d) refl in
    let z : MadeHere (label_here variable_declarator no_op p q) (Some binding ∷ None ∷ []) q w id = subst (λ (v : Label). MadeHere v (Some binding ∷ None ∷ []) q w id) l n in
    go w.nodes z.stays (node_held z (HoldsAll-hole (HoldsAll-one binding x.holds))) (Keeps-trans x.keeps (Keeps-made z.made)) (made_lies x.answer.same x.answer.at.at (let i = x.answer.further in omega arith) z refl)
  where
    go : (ns : List Node) → w ≡ record q { nodes = ns } → Holds w.nodes (length p.nodes) (length w.nodes) id.0 (label_here variable_declarator no_op p q) (tree x.answer.label x.answer.slots (hole end)) → Keeps p.nodes w.nodes → (IsCharBoundary p.text p.token.span.start → NodesLie q.text q.nodes → NodesLie q.text w.nodes) → BoundThrough text f c p w id
    go ns m g k i = let path = alone_path a x.answer in subst (λ (z : Parser). BoundThrough text f c p z id) (sym m) (record {
      at = beside_nodes ns x.answer.at;
      same = same_with ns x.answer.same (subst (λ (z : Parser). Keeps p.nodes z.nodes) m k) (λ b z. subst (λ (v : Parser). NodesLie q.text v.nodes) m (i b z));
      further = x.answer.further;
      here = h;
      label = label_here variable_declarator no_op p q;
      slots = tree x.answer.label x.answer.slots (hole end);
      pass = path.pass;
      walked = path.walked;
      verdict = path.verdict;
      no_list = no_list_read a x.answer c h;
      no_value = no_value_read a x.answer (not_equals q h);
      holds = subst (λ (z : Parser). Holds z.nodes (length p.nodes) (length z.nodes) id.0 (label_here variable_declarator no_op p q) (tree x.answer.label x.answer.slots (hole end))) m g;
      keeps = subst (λ (z : Parser). Keeps p.nodes z.nodes) m k;
    })

-- without an initialiser
pub bare_answers : {text : List ℕ} {f : Flags} {p q w : Parser} {binding id : NodeId} (c is_name : Bool) → At text f p → (x : Numbered text f (at Binding f) p q binding) → ThroughHere q false → (q.token.kind ≡ Eq → ⊥) → (s : Span) → NameHere p is_name → EndsDeclarator c is_name s binding q w id → s.start ≡ p.token.span.start → s.end ≡ q.prev_token_end → BesideThrough text f c form.Bare p w id
bare_answers c is_name a x h n s m g b d = record { read = declared_bare a x n c is_name s m g b d; not_alone = not_alone_read a x.answer h; value = λ i. no_value_read a x.answer n }

module _ {text : List ℕ} {f : Flags} {p q r : Parser} {binding : NodeId} (a : At text f p) (x : Numbered text f (at Binding f) p q binding) (h : ThroughHere q false) (k : q.token.kind ≡ Eq) (m : Moved text f q r) where
  module _ {v w : Parser} {value id : NodeId} (s : Span) (y : Numbered text f (at Assignment f) r v value) (b : s.start ≡ p.token.span.start) (d : s.end ≡ v.prev_token_end) (n : MadeHere (plain_label node.VariableDeclarator op.None s) (Some binding ∷ Some value ∷ []) v w id) where
    value_taken : f.in_ ≡ false → NameHere p true → ValueTaken text f p w id
    value_taken i g =
        let l : plain_label node.VariableDeclarator op.None s ≡ label_here variable_declarator no_op p v = rw (b, d) refl in
        let z : MadeHere (label_here variable_declarator no_op p v) (Some binding ∷ Some value ∷ []) v w id = subst (λ (u : Label). MadeHere u (Some binding ∷ Some value ∷ []) v w id) l n in
        let e : Holds v.nodes (length q.nodes) (length v.nodes) value.0 y.answer.label y.answer.slots = subst (λ (ns : List Node). Holds v.nodes (length ns) (length v.nodes) value.0 y.answer.label y.answer.slots) m.nodes y.holds in
        let o : Keeps q.nodes v.nodes = subst (λ (ns : List Node). Keeps ns v.nodes) m.nodes y.keeps in
        go w.nodes z.stays (two_held z x.holds x.keeps e o)
      where
        go : (ns : List Node) → w ≡ record v { nodes = ns } → Holds w.nodes (length p.nodes) (length w.nodes) id.0 (label_here variable_declarator no_op p v) (tree x.answer.label x.answer.slots (tree y.answer.label y.answer.slots end)) → ValueTaken text f p w id
        go ns e t = let path = value_path i a x.answer g k m y.answer in subst (λ (z : Parser). ValueTaken text f p z id) (sym e) (record {
          label = label_here variable_declarator no_op p v;
          slots = tree x.answer.label x.answer.slots (tree y.answer.label y.answer.slots end);
          pass = path.pass;
          walked = path.walked;
          verdict = path.verdict;
          holds = subst (λ (z : Parser). Holds z.nodes (length p.nodes) (length z.nodes) id.0 (label_here variable_declarator no_op p v) (tree x.answer.label x.answer.slots (tree y.answer.label y.answer.slots end))) e t;
        })

    named_answers : (c : Bool) → NameHere p true → BesideThrough text f c form.InitialisedName p w id
    named_answers c g = record { read = declared_with a x k m c s y b d n; not_alone = not_alone_read a x.answer h; value = λ i. value_taken i g }

    pattern_answers : (c : Bool) → NameHere p false → BesideThrough text f c form.InitialisedPattern p w id
    pattern_answers c g = record { read = declared_with a x k m c s y b d n; not_alone = not_alone_read a x.answer h; value = λ i. no_named_value a g }

    -- by what is bound
    pub value_answers : (c is_name : Bool) (g : HeadForm) → InitialisedAs is_name g → NameHere p is_name → HeadRead g text f c p w (record { node = id; form = g })
    value_answers c true g e t = subst (λ (z : HeadForm). HeadRead z text f c p w (record { node = id; form = z })) (sym e) (named_answers c t)
    value_answers c false g e t = subst (λ (z : HeadForm). HeadRead z text f c p w (record { node = id; form = z })) (sym e) (pattern_answers c t)

  -- where none is derived
  no_value_unread : (is_name : Bool) → NameHere p is_name → f.in_ ≡ false → Underived text (at Assignment f) r.prev_token_end → Fails rule (Lex text) (plain (is In)) end (named_value f) p.prev_token_end
  no_value_unread true g i z = no_value_there i a x.answer g k m z
  no_value_unread false g i z = no_named_value a g

  pub value_stops : (c is_name : Bool) (v : Parser) (e : Stop) → NameHere p is_name → Stops r v e (Underived text (at Assignment f) r.prev_token_end) → Stops p v e (NoHeadDeclarator text f c p.prev_token_end)
  value_stops c is_name v e g t = stops_behind v e (same_both x.answer.same m.same) (λ g. grown_behind x.answer.verdict (grown_then m.kept g)) (λ z. record { no_one = initialiser_none a x k m c z; not_alone = not_alone_read a x.answer h; no_value = λ i. no_value_unread is_name g i z }) t

-- where no lexeme stands
pub none_at_head : {text : List ℕ} {f : Flags} {p : Parser} (c : Bool) → At text f p → p.token.kind ≡ Undetermined → NoHeadDeclarator text f c p.prev_token_end
none_at_head c a h = no_head_declarator c (no_binding a (λ k e. false≢true (ap (same_kind LBrack) (sym h ∙ k))) (λ k e. false≢true (ap (same_kind LCurly) (sym h ∙ k))) (no_listed_name _ _ _ (ap (one_of_kinds binding_identifier_kinds) h)))

pub through_so : (p : Parser) {b r : Bool} → r ≡ b → ThroughHere p r → ThroughHere p b
through_so p e h = subst (λ (v : Bool). ThroughHere p v) e h

-- ---- the list of a head

first_alone : {text : List ℕ} {f : Flags} {c : Bool} {o p : Parser} {first : NodeId} → At text f o → Declarator text f c o p first → (p.token.kind ≡ Comma → ⊥) → HeadList text f c o p (Some first ∷ [])
first_alone a x n = let y = underway_end (underway_init a) x n in record { at = y.at; same = y.same; further = y.further; slots = y.slots; pass = y.pass; walked = y.walked; verdict = y.verdict; holds = y.holds; keeps = y.keeps }

pub list_alone : {c : Bool} {p q : Parser} {first : NodeId} {ids : List (Option NodeId)} → ids ≡ Some first ∷ [] → q ≡ p → (p.token.kind ≡ Comma → ⊥) → DeclaratorsBehind c first p q ids
list_alone {c} {p} {q} {first} {ids} e s n = ((λ k. s), (λ text f o a x. subst (λ (v : Parser). HeadList text f c o v ids) (sym s) (subst (λ (is : List (Option NodeId)). HeadList text f c o p is) (sym e) (first_alone a x n))))

module _ {text : List ℕ} {f : Flags} {c : Bool} {o p q : Parser} {first : NodeId} (a : At text f o) (x : Declarator text f c o p first) (k : p.token.kind ≡ Comma) (m : Moved text f p q) where
  underway : Underway text f c o q (Some first ∷ [])
  underway = underway_step (underway_init a) x k m

  others_stop : (v : Parser) (e : Stop) → Stops q v e (NoneOf text (list_of c f) q.prev_token_end) → Stops o v e (NoneOf text (list_of c f) o.prev_token_end)
  others_stop v e s = let u = underway in stops_behind v e u.same (λ g. grown_behind u.verdict g) (λ n. either_way u.verdict (λ w. w.fails n) (λ z. z)) s

  with_others : {v : Parser} {ids : List (Option NodeId)} → Declarators text f c q v ids → HeadList text f c o v (Some first ∷ ids)
  with_others {v} {ids} y = let u = underway in record {
    at = y.at;
    same = same_both u.same y.same;
    further = let i = u.forward in let j = y.further in omega arith;
    slots = append u.prefix y.slots;
    pass = λ ls. u.pass (y.pass ls);
    walked = walked_both u.walked y.walked;
    verdict = and_then u.verdict y.verdict (λ w z. w.goes v.prev_token_end y.slots y.pass z (let j = y.further in omega arith)) (λ z. z) (λ w n. w.fails n);
    holds = HoldsAll-append (HoldsAll-kept y.keeps u.holds) y.holds;
    keeps = Keeps-trans u.keeps y.keeps;
  }

pub list_more : {c : Bool} {p q v : Parser} {first : NodeId} {js ids : List (Option NodeId)} → ids ≡ Some first ∷ js → p.token.kind ≡ Comma → Moves p q → DeclaratorsRead c q v js → DeclaratorsBehind c first p v ids
list_more {c} {p} {q} {v} {first} {js} {ids} e k m y = ((λ n. absurd (n k)), (λ text f o a x. subst (λ (is : List (Option NodeId)). HeadList text f c o v is) (sym e) (let w = m text f x.at in with_others a x k w (y text f w.at))))

pub list_stops : {c : Bool} {p q : Parser} {first : NodeId} (v : Parser) (e : Stop) → p.token.kind ≡ Comma → Moves p q → NoDeclarators c q v e → NoneBehind c first p v e
list_stops v e k m y = λ text f o a x. let w = m text f x.at in others_stop a x k w v e (y text f w.at)
