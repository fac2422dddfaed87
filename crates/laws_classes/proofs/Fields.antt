-- Fields of classes (ECMA-262, 15.7): what stands behind the name, and where a field ends.
use Rattle.std.proofs.Common.{ℕ, ◌≡◌, inl, inr, max, Bool, true, false, not, ◌&&◌, ◌||◌, List, [], ◌∷◌, length, Option, Some, None, IsTrue, refl, sym, ap, subst, arith, ◌∙◌}
use Rattle.std.specs.Prelude.{Result, Ok, Err}
use Rattle.std.proofs.lemmas.Bool.{false≢true, and_from, and_parts, or_left, or_right}
use Rattle.js_base.specs.declared.kind.Kind.{Kind}
use Rattle.js_base.specs.declared.kind.Kind.TheVariants.{Comma, Eof, Eq, LParen, Semicolon}
use Rattle.js_base.specs.Kinds.{same_kind, one_of_kinds}
use Rattle.js_base.specs.declared.diagnostic.Diagnostic.{Diagnostic}
use Rattle.js_grammar.specs.Trees.{Label, NodeKind, Slots, end, hole, tree, no_op}
use Rattle.js_grammar.specs.Grammar.{Lexeme, Lexemes, Look, begins_with_brace, ended, empty_slot, here, is, kept, may_omit, nothing, seen, semicolon, Takes, is_empty_slot, is_left, is_lexeme, is_look, is_kept, is_node, is_right, is_seq, is_such, ◌▸◌}
use Rattle.js_grammar.specs.Insertion.{Row, after_name, by_edge, by_field, goes_on}
use Rattle.js_grammar.specs.Lexed.{Lexes}
use Rattle.js_grammar.specs.Parsing.{Test, plain, full, behind, Admits, Goes, Fails}
use Rattle.js_grammar.specs.Productions.{G, Flags, at, field_of, make, slot, Assignment, Init}
use Rattle.js_grammar.specs.Productions.{sym as symbol}
use Rattle.js_grammar.specs.Table.{rule, rule_of, name}
use Rattle.js_grammar.specs.Follow.{after, edge_of, follow, looser, row_of}
use Rattle.js_grammar.proofs.Finding.{either_of}
use Rattle.js_grammar.proofs.Looks.{covers, covered, apart}
use Rattle.js_grammar.proofs.RightEdges.{at_row}
use Rattle.js_grammar.proofs.Calculus.{Between, ◌▹◌, ◌▹✗◌, by_omission, closes, done, ends_by, fails_ended, fails_node, fails_rule, here_at, inside_plain, left, part_by, part_fails, reads_empty_slot, right, weaken, weaken_fails}
use Rattle.js_grammar.proofs.FollowLaws.{admits, assignment_ended}
use Rattle.laws_primary.specs.js_tree.declared.id.NodeId.{NodeId}
use Rattle.laws_primary.specs.js_tree.Nodes.{Node}
use Rattle.laws_primary.specs.js_tree.Holding.{Holds, HoldsAll, Keeps}
use Rattle.laws_primary.proofs.laws_shared.js_tree.HoldingLemmas.{HoldsAll-hole, HoldsAll-one, Keeps-trans, Keeps-made}
use Rattle.laws_primary.specs.js_cursor.Moves.{EndsOr, GivesUp, IsUnexpected, MayEnd, ends_statement}
use Rattle.laws_primary.specs.js_cursor.declared.stop.Stop.TheVariants.{Fatal, NoMemory}
use Rattle.js_base.specs.declared.diagnostic.DiagnosticKind.TheVariants.{ExpectToken}
use Rattle.laws_primary.proofs.laws_shared.Classes.{here_ends}
use Rattle.laws_primary.proofs.laws_shared.Giving.{gives_up, gives_up_here}
use Rattle.laws_classes.specs.declared.forms.FieldKind.{FieldKind}
use Rattle.laws_classes.specs.declared.forms.FieldKind.TheVariants.{Accessor, Property}
use Rattle.laws_primary.specs.js_cursor.Parsers.{Parser}
use Rattle.laws_primary.specs.laws_shared.Classes.{EndsParse}
use Rattle.laws_primary.specs.js_cursor.declared.stop.Stop.{Stop}
use Rattle.laws_primary.specs.laws_shared.Answers.{Answer, Numbered, Stops, Underived, beside}
use Rattle.laws_primary.specs.laws_shared.Lexemes.{Lex, Plain}
use Rattle.laws_primary.specs.laws_shared.Moves.{Moved, MadeHere}
use Rattle.laws_primary.specs.laws_shared.States.{At, Same}
use Rattle.laws_primary.specs.laws_shared.Statements.{link_kinds, no_link}
use Rattle.laws_primary.proofs.laws_shared.Escapes.{escapable_kinds, plain_or_escapable}
use Rattle.laws_primary.proofs.laws_shared.Here.{kind_here, newline_here}
use Rattle.laws_primary.proofs.laws_shared.MadeNodes.{node_held, one_lies, two_held}
use Rattle.laws_primary.proofs.laws_shared.Moving.{moves, same_both, stops_behind, stops_so}
use Rattle.laws_primary.proofs.laws_shared.Paths.{Path, ◌⟶◌, ◌⟶✗◌, by_symbol_as, fails_at, flagged_by, flagged_here, not_here, token, walked_both}
use Rattle.laws_primary.proofs.laws_shared.Phrases.{narrow_assignment, narrow_operand}
use Rattle.laws_primary.proofs.laws_shared.PlainSigns.{eq_plain}
use Rattle.laws_primary.proofs.laws_shared.Signs.{other_kind, plain_sign}
use Rattle.laws_primary.proofs.laws_shared.Tight.{narrows, plain_lex}
use Rattle.laws_primary.proofs.laws_shared.Verdicts.{behind_none, grown_then, verdict_of}
use Rattle.laws_primary.proofs.laws_shared.Verdicts.{after as grown_behind}
use Rattle.laws_primary.proofs.Properties.{kinds_apart}
use Rattle.laws_statements.proofs.Statements.{◌⟝◌, Ended, closer_here, closers, ended_so, no_semicolon, omits_stopped, semicolon_path, unended, whole_semicolon}
use Rattle.parse_declarations.specs.Declarations.{stops_row}
use Rattle.laws_classes.specs.Elements.{ElementTaken, NoElement, behind_element, behind_kinds, is_element}
use Rattle.laws_classes.specs.Fields.{Begins, EndsField, EndsFieldOr, FieldNamed, NoFieldEnd, field_label, field_parts, node_of_field}
use Rattle.laws_classes.proofs.Names.{key_path}
use Rattle.laws_classes.proofs.Elements.{element_answers, kept_none}

-- ---- where a field ends

abbrev behind_look : Look
behind_look k w e = one_of_kinds behind_kinds k

unlinked : covers behind_look no_link ≡ true
unfolding covers
unlinked = refl

module _ {text : List ℕ} {f : Flags} {q : Parser} (a : At text f q) where
  -- nothing that may stand behind an element stands here
  not_followed : (p : Look) → one_of_kinds behind_kinds q.token.kind ≡ false → Fails rule (Lex text) behind_element end (semicolon p) q.prev_token_end
  unfolding apart covers
  not_followed p n = record { no = λ ts vs k ls rest l d e. by ts vs ls l d e }
    where
      semicolon_none : (y : Lexeme) → Lex text q.prev_token_end y → IsTrue (seen (is Semicolon) y) → ⊥
      semicolon_none y l h = not_here a behind_kinds refl n y l (covered (is Semicolon) behind_look refl y.kind y.newline y.escaped h)

      by : (ts vs : Slots) {k : ℕ} (ls : Lexemes) {rest : Lexemes} → Lexes (Lex text) q.prev_token_end ls → Takes rule (semicolon p) end ts q.prev_token_end ls vs k rest → Admits behind_element ts (here rest) → ⊥
      by ts vs ls l (is_left (is_lexeme {x = x} {ls = more} h)) e = semicolon_none x l.0 h
      by ts vs ls l (is_right (is_look h)) e = not_here a behind_kinds refl n (here ls) (here_at (Lex text) ls l) e.0

  pub no_field_end : (p : Look) → NoFieldEnd q → Fails rule (Lex text) behind_element end (semicolon p) q.prev_token_end
  no_field_end p (inl n) = not_followed p n
  no_field_end p (inr m) = weaken_fails (unended a p (inr m)) (λ ts y e. (covered behind_look no_link unlinked y.kind y.newline y.escaped e.0, refl))

  -- a semicolon may be left out at the end of the class
  abbrev at_an_end : Look
  at_an_end k w e = one_of_kinds closers k && not (same_kind Semicolon k)

  abbrev is_end : Look
  is_end k w e = same_kind Eof k || begins_with_brace k

  ends_are : covers at_an_end is_end ≡ true
  unfolding covers
  ends_are = refl

  omitted_at_end : (p : Look) → ends_statement q.token.kind ≡ true → (q.token.kind ≡ Semicolon → ⊥) → (y : Lexeme) → Lex text q.prev_token_end y → IsTrue (seen (may_omit p) y)
  omitted_at_end p e n y l = or_left (same_kind Eof y.kind || begins_with_brace y.kind) _ (covered at_an_end is_end ends_are y.kind y.newline y.escaped (and_from _ _ (closer_here a e y l) (ap not (no_semicolon a n y l))))

  -- and on a new line, where nothing goes on
  omitted_on_line : (p : Look) → q.token.is_on_new_line ≡ true → (q.token.kind ≡ Semicolon → ⊥) → (y : Lexeme) → Lex text q.prev_token_end y → seen p y ≡ false → IsTrue (seen (may_omit p) y)
  omitted_on_line p w n y l h = or_right (same_kind Eof y.kind || begins_with_brace y.kind) _ (and_from _ _ (and_from _ _ (newline_here a y l ∙ w) (ap not (no_semicolon a n y l))) (ap not h))

-- ---- the parts, up to their end

-- what may stand behind the parts, by them: behind a name alone no `=`
abbrev by_parts : Flags → Slots → Look
by_parts h (tree k ks (tree l cs us)) = follow (at Assignment h) (edge_of l cs)
by_parts h (tree k ks (hole us)) = λ k w e. not (same_kind Eq k)
by_parts h us = full

abbrev behind_parts : Flags → Test
behind_parts h = record { base = full; by = by_parts h }

-- a name is one tree
pub record OneTree (ts us : Slots) : Type 0 where
  pub label : Label
  pub slots : Slots
  pub is : ts ≡ tree label slots us

pub name_is_tree : (c p : Bool) (f : Flags) {ks ts us : Slots} {i j : ℕ} {ls rest : Lexemes} → Takes rule (name c p f) ks ts i ls us j rest → OneTree ts us
name_is_tree true p f (is_seq (is_lexeme q) (is_seq (is_such d c) (is_lexeme r))) = record { label = _; slots = _; is = refl }
name_is_tree false p f (is_left (is_such d c)) = record { label = _; slots = _; is = refl }
name_is_tree false p f (is_right (is_left (is_node d))) = record { label = _; slots = _; is = refl }
name_is_tree false p f (is_right (is_right (is_left (is_left (is_left (is_node d)))))) = record { label = _; slots = _; is = refl }
name_is_tree false p f (is_right (is_right (is_left (is_left (is_right (is_left (is_node d))))))) = record { label = _; slots = _; is = refl }
name_is_tree false p f (is_right (is_right (is_left (is_left (is_right (is_right (is_left (is_node d)))))))) = record { label = _; slots = _; is = refl }
name_is_tree false p f (is_right (is_right (is_left (is_left (is_right (is_right (is_right (is_left (is_node d))))))))) = record { label = _; slots = _; is = refl }
name_is_tree false p f (is_right (is_right (is_left (is_left (is_right (is_right (is_right (is_right (is_node d))))))))) = record { label = _; slots = _; is = refl }
name_is_tree false p f (is_right (is_right (is_left (is_right (is_left (is_node d)))))) = record { label = _; slots = _; is = refl }
name_is_tree false p f (is_right (is_right (is_left (is_right (is_right (is_left (is_node d))))))) = record { label = _; slots = _; is = refl }
name_is_tree false p f (is_right (is_right (is_left (is_right (is_right (is_right (is_left (is_node d)))))))) = record { label = _; slots = _; is = refl }
name_is_tree false p f (is_right (is_right (is_left (is_right (is_right (is_right (is_right (is_left (is_node d))))))))) = record { label = _; slots = _; is = refl }
name_is_tree false p f (is_right (is_right (is_left (is_right (is_right (is_right (is_right (is_right (is_node d))))))))) = record { label = _; slots = _; is = refl }
name_is_tree false true f (is_right (is_right (is_right (is_such d c)))) = record { label = _; slots = _; is = refl }
name_is_tree false false f (is_right (is_right (is_right d))) = elim d [ ]

module _ {text : List ℕ} {f : Flags} {s g c : Bool} {g0 : G} {first p q : Parser} {key : NodeId} (d : FieldNamed text f s g c g0 first p q key) where
  abbrev key_label : Label
  key_label = d.named.whole.label

  abbrev key_slots : Slots
  key_slots = d.named.whole.slots

  -- a name alone
  bare_parts : (q.token.kind ≡ Eq → ⊥) → Path text f (plain full) (field_parts c f) p nothing q (λ us. tree key_label key_slots (hole us))
  unfolding rule rule_of covers apart
  bare_parts n = key_path d.named ⟝ (right (fails_at d.named.whole.at (symbol Init (field_of f)) (Eq ∷ []) refl (other_kind Eq q.token.kind n)) ▹ reads_empty_slot)

  bare_ended : (q.token.kind ≡ Eq → ⊥) → Path text f behind_element (ended (by_field s g) (field_parts c f)) p (semicolon (after_name s g d.word)) q (λ us. tree key_label key_slots (hole us))
  bare_ended n = let x = bare_parts n in record {
    at = x.at;
    further = x.further;
    pass = x.pass;
    walked = x.walked;
    verdict = verdict_of x.verdict
        (λ z. record { reach = z.reach; near = z.near; goes = ends_by z.goes (λ us. refl) (λ y l. ap (after_name s g) (d.only y l)) (λ cs j ls mid l e h. (refl, refl)) })
        (λ m. fails_ended m (λ cs j ls mid l e h. (refl, refl)));
  }

  -- it may be left out behind it
  bare_omits : one_of_kinds behind_kinds q.token.kind ≡ true → MayEnd q → (q.token.kind ≡ Semicolon → ⊥) → (y : Lexeme) → Lex text q.prev_token_end y → IsTrue (seen (may_omit (after_name s g d.word)) y)
  unfolding apart
  bare_omits i (inl e) n y l = omitted_at_end d.named.whole.at (after_name s g d.word) e n y l
  bare_omits i (inr w) n y l = omitted_on_line d.named.whole.at (after_name s g d.word) w n y l (d.plain y l ∙ none (one_of_kinds (Eq ∷ LParen ∷ []) y.kind) refl)
    where
      none : (b : Bool) → one_of_kinds (Eq ∷ LParen ∷ []) y.kind ≡ b → one_of_kinds (Eq ∷ LParen ∷ []) y.kind ≡ false
      none true e = absurd (not_here d.named.whole.at (Eq ∷ LParen ∷ []) refl (kinds_apart behind_kinds (Eq ∷ LParen ∷ []) refl q.token.kind i) y l e)
      none false e = e

  pub bare_path : (q.token.kind ≡ Eq → ⊥) → {v : Parser} → EndsField q v → Path text f behind_element (ended (by_field s g) (field_parts c f)) p nothing v (λ us. tree key_label key_slots (hole us))
  bare_path n (i, inl (k, m)) = bare_ended n ⟶ semicolon_path d.named.whole.at (after_name s g d.word) k (moves (whole_semicolon d.named.whole.at k) m d.named.whole.at)
  bare_path n (i, inr (k, m, e)) = subst (λ (w : Parser). Path text f behind_element (ended (by_field s g) (field_parts c f)) p nothing w (λ us. tree key_label key_slots (hole us))) (sym e) (bare_ended n ⟝ by_omission (after_name s g d.word) (bare_omits i m k))

  pub bare_fails : (q.token.kind ≡ Eq → ⊥) → NoFieldEnd q → Fails rule (Lex text) behind_element end (ended (by_field s g) (field_parts c f)) p.prev_token_end
  bare_fails n m = bare_ended n ⟶✗ no_field_end d.named.whole.at (after_name s g d.word) m

  -- ---- with an initialiser

  module _ {r : Parser} (k : q.token.kind ≡ Eq) (m : Moved text f q r) where
    no_slot : Fails rule (Lex text) (behind (behind_parts (field_of f)) (tree key_label key_slots)) end empty_slot q.prev_token_end
    no_slot = record { no = λ ts vs j ls rest l e h. by ls l e h }
      where
        by : {ts vs : Slots} {j : ℕ} (ls : Lexemes) {rest : Lexemes} → Lexes (Lex text) q.prev_token_end ls → Takes rule empty_slot end ts q.prev_token_end ls vs j rest → Admits (behind (behind_parts (field_of f)) (tree key_label key_slots)) ts (here rest) → ⊥
        by ls l is_empty_slot h = false≢true (sym (ap (λ (v : Kind). not (same_kind Eq v)) (kind_here d.named.whole.at k refl (here ls) (here_at (Lex text) ls l))) ∙ h.1)

    -- up to it
    value_due : Path text f (behind_parts (field_of f)) (field_parts c f) p (symbol Init (field_of f)) q (tree key_label key_slots)
    value_due = key_path d.named ⟝ left no_slot

    init_due : {X : Test} → Path text f X (rule (at Init (field_of f))) q (symbol Assignment (field_of f)) r (λ us. us)
    unfolding rule rule_of
    init_due = token Eq d.named.whole.at k (plain_sign Eq d.named.whole.at k refl refl eq_plain) refl m

    value_head : (l : Label) (cs vs : Slots) (y : Lexeme) → Admits (behind (behind_parts (field_of f)) (tree key_label key_slots)) (tree l cs vs) y → Admits (after (at Assignment (field_of f))) (tree l cs end) y
    value_head l cs vs y e = admits (at Assignment (field_of f)) (tree l cs end) y e.1

    -- where the parts end, their initialiser does
    parts_end : {ts : Slots} {j : ℕ} {ls mid : Lexemes} (y : Lexeme) → Takes rule (field_parts c f) end ts p.prev_token_end ls end j mid → IsTrue (seen (closes (by_field s g y ts) behind_element.base) (here mid)) → Admits (behind_parts (field_of f)) ts (here mid)
    unfolding rule rule_of covers
    parts_end {ts} {mid = mid} y (is_seq {us = us} e e') h = let o = name_is_tree c true f e in by o us o.is e' h
      where
        assigned : {ws : Slots} {i j : ℕ} {ls : Lexemes} → Takes rule (rule (at Init (field_of f))) end ws i ls end j mid → IsTrue (seen (closes (by_edge y ws) behind_element.base) (here mid)) → Admits (after (at Assignment (field_of f))) ws (here mid)
        assigned (is_seq (is_lexeme z) e) h = assignment_ended (field_of f) behind_element.base e y h

        by : (o : OneTree ts us) (vs : Slots) {i j : ℕ} {ls : Lexemes} → ts ≡ tree o.label o.slots vs → Takes rule (slot (symbol Init (field_of f))) end vs i ls end j mid → IsTrue (seen (closes (by_field s g y ts) behind_element.base) (here mid)) → Admits (behind_parts (field_of f)) ts (here mid)
        by o vs q (is_left (is_such {l = l} {cs = cs} e z)) h =
            subst (λ (v : Slots). Admits (behind_parts (field_of f)) v (here mid)) (sym q) (refl, (assigned e (subst (λ (v : Slots). IsTrue (seen (closes (by_field s g y v) behind_element.base) (here mid))) q h)).1)
        by o vs q (is_right is_empty_slot) h =
            subst (λ (v : Slots). Admits (behind_parts (field_of f)) v (here mid)) (sym q) (
              refl,
              either_of (seen (is Semicolon) (here mid)) _ (subst (λ (v : Slots). IsTrue (seen (closes (by_field s g y v) behind_element.base) (here mid))) q h)
                  (λ z. covered (is Semicolon) (λ k w e. not (same_kind Eq k)) refl (here mid).kind (here mid).newline (here mid).escaped z)
                  (λ z. covered behind_look (λ k w e. not (same_kind Eq k)) refl (here mid).kind (here mid).newline (here mid).escaped (and_parts _ _ z).1),
            )

    no_value_path : Underived text (at Assignment (field_of f)) r.prev_token_end → Fails rule (Lex text) (behind_parts (field_of f)) end (field_parts c f) p.prev_token_end
    no_value_path n = value_due ⟶✗ fails_rule value_head (init_due ⟶✗ n)

    pub value_fails : Underived text (at Assignment (field_of f)) r.prev_token_end → Fails rule (Lex text) behind_element end (ended (by_field s g) (field_parts c f)) p.prev_token_end
    value_fails n = fails_ended (no_value_path n) (λ cs j ls mid l e h. parts_end (here ls) e h)

    module _ {v : Parser} (y : Answer text f (at Assignment (field_of f)) r v) where
      value_path : Path text f (behind_parts (field_of f)) (field_parts c f) p nothing v (λ us. tree key_label key_slots (tree y.label y.slots us))
      value_path = value_due ⟶ by_symbol_as value_head (init_due ⟶ record { at = y.at; further = y.further; pass = y.pass; walked = y.walked; verdict = y.verdict })

      value_ended : Path text f behind_element (ended (by_field s g) (field_parts c f)) p (semicolon (goes_on (row_of y.label y.slots))) v (λ us. tree key_label key_slots (tree y.label y.slots us))
      value_ended = let x = value_path in record {
        at = x.at;
        further = x.further;
        pass = x.pass;
        walked = x.walked;
        verdict = verdict_of x.verdict
            (λ z. record { reach = z.reach; near = z.near; goes = ends_by z.goes (λ us. refl) (λ y l. refl) (λ cs j ls mid l e h. parts_end (here ls) e h) })
            (λ n. fails_ended n (λ cs j ls mid l e h. parts_end (here ls) e h));
      }

      pub value_unended : NoFieldEnd v → Fails rule (Lex text) behind_element end (ended (by_field s g) (field_parts c f)) p.prev_token_end
      value_unended n = value_ended ⟶✗ no_field_end y.at (goes_on (row_of y.label y.slots)) n

      abbrev ends_value : Row → Look
      ends_value r k w e = (not e || one_of_kinds escapable_kinds k) && (looser 1 true r k w e || beside k w e)

      value_stops : (r : Row) → covers (ends_value r) (stops_row r) ≡ true
      unfolding covers
      value_stops r = at_row (λ r. covers (ends_value r) (stops_row r)) refl r

      -- nothing goes on with it
      value_ends : (v.token.kind ≡ Comma → ⊥) → (z : Lexeme) → Plain text v.prev_token_end z → IsTrue (seen (stops_row (row_of y.label y.slots)) z)
      unfolding covers apart
      value_ends n z l =
          let row = row_of y.label y.slots in
          let s = narrows 2 1 (Comma ∷ []) true row (narrow_assignment 2 1 (Comma ∷ []) (narrow_operand 2 1 (Comma ∷ []) refl refl refl refl) refl refl refl refl true row y.row) z l.1 (no_comma (one_of_kinds (Comma ∷ []) z.kind) refl) (y.stops z l) in
          covered (ends_value row) (stops_row row) (value_stops row) z.kind z.newline z.escaped (and_from _ _ (plain_or_escapable z (plain_lex l)) s)
        where
          no_comma : (b : Bool) → one_of_kinds (Comma ∷ []) z.kind ≡ b → one_of_kinds (Comma ∷ []) z.kind ≡ false
          no_comma true e = absurd (not_here y.at (Comma ∷ []) refl (other_kind Comma v.token.kind n) z (plain_lex l) e)
          no_comma false e = e

      pub value_path_end : {w : Parser} → EndsField v w → Path text f behind_element (ended (by_field s g) (field_parts c f)) p nothing w (λ us. tree key_label key_slots (tree y.label y.slots us))
      unfolding apart
      value_path_end (i, inl (k, m)) = value_ended ⟶ semicolon_path y.at (goes_on (row_of y.label y.slots)) k (moves (whole_semicolon y.at k) m y.at)
      value_path_end (i, inr (k, m, e)) = subst (λ (w : Parser). Path text f behind_element (ended (by_field s g) (field_parts c f)) p nothing w (λ us. tree key_label key_slots (tree y.label y.slots us))) (sym e)
          (value_ended ⟝ by_omission (goes_on (row_of y.label y.slots)) (omits_stopped y.at (row_of y.label y.slots) (λ z l. value_ends (λ j. false≢true (sym (ap (one_of_kinds behind_kinds) j) ∙ i)) z l) (λ w. kinds_apart behind_kinds link_kinds refl v.token.kind i) m k))

-- ---- the element

-- behind what is kept nothing is read
pub kept_between : {a : G} {s : ℕ} → Between rule behind_element behind_element end a kept s
kept_between = record { admits = λ ts us vs j k ls mid rest d d' e. by ts d' e }
  where
    by : {us vs : Slots} {j k : ℕ} {mid rest : Lexemes} (ts : Slots) → Takes rule kept end us j mid vs k rest → Admits behind_element ts (here rest) → Admits behind_element ts (here mid)
    by ts (is_kept q) e = e

with_kept : {text : List ℕ} {f : Flags} {g : G} {p q : Parser} {h : Slots → Slots} → Path text f behind_element g p nothing q h → Path text f behind_element (g ▸ kept) p nothing q h
with_kept {text} {f} {g} {p} {q} {h} x = within ⟝ done ⟝ kept_none
  where
    within : Path text f behind_element (g ▸ kept) p (nothing ▸ kept) q h
    within = record { at = x.at; further = x.further; pass = x.pass; walked = x.walked; verdict = verdict_of x.verdict (λ z. record { reach = z.reach; near = z.near; goes = part_by z.goes kept_between }) (λ n. part_fails n kept_between) }

module _ {text : List ℕ} {f : Flags} {g0 g' : G} {first p : Parser} (b : Begins text f g0 g' first p) where
  begun_goes : {X : Test} → Goes rule (Lex text) X end g0 first.prev_token_end g' p.prev_token_end (λ us. us) (record { reach = b.goes.reach; pass = b.pass })
  begun_goes = weaken b.goes.goes (λ ts y e. (refl, refl))

  pub begins_path : {X : Test} {g'' : G} {q : Parser} {h : Slots → Slots} → Path text f X g' p g'' q h → Path text f X g0 first g'' q h
  begins_path y = record {
    at = y.at;
    further = let i = y.further in let j = b.forward in omega arith;
    pass = λ ls. b.pass (y.pass ls);
    walked = walked_both b.walked y.walked;
    verdict = behind_none b.kept (verdict_of y.verdict (λ z. record { reach = max b.goes.reach z.reach; near = let i = z.near in let j = b.goes.near in let k = b.at.behind in let l = y.further in omega arith; goes = begun_goes ▹ z.goes }) (λ n. begun_goes ▹✗ n));
  }

  pub begins_fails : {X : Test} → Fails rule (Lex text) X end g' p.prev_token_end → Fails rule (Lex text) X end g0 first.prev_token_end
  begins_fails n = begun_goes ▹✗ n

pub field_end : {text : List ℕ} {f : Flags} {q v : Parser} → At text f q → EndsField q v → Ended text f q v
unfolding apart
field_end {q = q} a (i, e) = ended_so a (λ w. kinds_apart behind_kinds link_kinds refl q.token.kind i, e)

module _ {text : List ℕ} {f : Flags} {s g c : Bool} {g0 : G} {first p q : Parser} {key : NodeId} (a : At text f first) (k : NodeKind) (fl : ℕ) (d : FieldNamed text f s g c g0 first p q key) where
  field_none : Fails rule (Lex text) behind_element end (ended (by_field s g) (field_parts c f)) p.prev_token_end → NoElement text (make k no_op fl g0) first.prev_token_end
  unfolding covers
  field_none n = fails_node (inside_plain {F' = behind_look} refl) (begins_fails d.begins (part_fails n kept_between))

  same_named : Same first q
  same_named = same_both d.begins.same d.named.whole.same

  key_keeps : Keeps first.nodes q.nodes
  key_keeps = subst (λ (ns : List Node). Keeps ns q.nodes) d.begins.nodes d.named.whole.keeps

  key_holds : Holds q.nodes (length first.nodes) (length q.nodes) key.0 d.named.whole.label d.named.whole.slots
  key_holds = subst (λ (ns : List Node). Holds q.nodes (length ns) (length q.nodes) key.0 d.named.whole.label d.named.whole.slots) d.begins.nodes d.named.whole.holds

  field_stops : (w : Parser) (e : Stop) → Stops q w e (Fails rule (Lex text) behind_element end (ended (by_field s g) (field_parts c f)) p.prev_token_end) → Stops first w e (NoElement text (make k no_op fl g0) first.prev_token_end)
  field_stops w e z = stops_behind w e same_named (λ g. grown_then d.begins.kept (grown_behind d.named.whole.verdict g)) field_none z

  -- its path
  field_path : {v : Parser} {h : Slots → Slots} → Path text f behind_element (ended (by_field s g) (field_parts c f)) p nothing v h → Path text f behind_element (make k no_op fl g0) first nothing v (tree (flagged_here k no_op fl first v) (h end))
  unfolding covers
  field_path x = flagged_by a (inside_plain {F' = behind_look} refl) (begins_path d.begins (with_kept x))

  -- a name alone
  module _ (n : q.token.kind ≡ Eq → ⊥) where
    pub bare_stops : (w : Parser) (e : Stop) → Stops q w e (NoFieldEnd q) → Stops first w e (NoElement text (make k no_op fl g0) first.prev_token_end)
    bare_stops w e z = field_stops w e (stops_so q w e (λ m. bare_fails d n m) z)

    pub bare_taken : is_element k ≡ true → {v w : Parser} {id : NodeId} → EndsField q v → MadeHere (flagged_here k no_op fl first v) (Some key ∷ None ∷ []) v w id → ElementTaken text f (make k no_op fl g0) first w id
    bare_taken c {v} {w} {id} e m =
        let z = field_end d.named.whole.at e in
        let h : HoldsAll v.nodes (length first.nodes) (length v.nodes) (Some key ∷ None ∷ []) (tree d.named.whole.label d.named.whole.slots (hole end)) = subst (λ (ns : List Node). HoldsAll ns (length first.nodes) (length ns) (Some key ∷ None ∷ []) (tree d.named.whole.label d.named.whole.slots (hole end))) (sym z.nodes) (HoldsAll-hole (HoldsAll-one key key_holds)) in
        let i : Keeps first.nodes v.nodes = subst (λ (ns : List Node). Keeps first.nodes ns) (sym z.nodes) key_keeps in
        element_answers (same_both same_named z.same) m.stays (node_held m h) (Keeps-trans i (Keeps-made m.made)) refl (one_lies m) c (field_path (bare_path d n e))

  -- with an initialiser
  module _ {r : Parser} (j : q.token.kind ≡ Eq) (m : Moved text f q r) where
    pub value_stops_first : (w : Parser) (e : Stop) → Stops r w e (Underived text (at Assignment (field_of f)) r.prev_token_end) → Stops first w e (NoElement text (make k no_op fl g0) first.prev_token_end)
    value_stops_first w e z = field_stops w e (stops_behind w e m.same (λ g. grown_then m.kept g) (λ n. value_fails d j m n) z)

    module _ {v : Parser} {value : NodeId} (y : Numbered text f (at Assignment (field_of f)) r v value) where
      pub value_stops_last : (w : Parser) (e : Stop) → Stops v w e (NoFieldEnd v) → Stops first w e (NoElement text (make k no_op fl g0) first.prev_token_end)
      value_stops_last w e z = field_stops w e (stops_behind w e (same_both m.same y.answer.same) (λ g. grown_then m.kept (grown_behind y.answer.verdict g)) (λ n. value_unended d j m y.answer n) z)

      pub value_taken : is_element k ≡ true → {u w : Parser} {id : NodeId} → EndsField v u → MadeHere (flagged_here k no_op fl first u) (Some key ∷ Some value ∷ []) u w id → ElementTaken text f (make k no_op fl g0) first w id
      value_taken c {u} {w} {id} e n =
          let z = field_end y.answer.at e in
          let h : Holds v.nodes (length q.nodes) (length v.nodes) value.0 y.answer.label y.answer.slots = subst (λ (ns : List Node). Holds v.nodes (length ns) (length v.nodes) value.0 y.answer.label y.answer.slots) m.nodes y.holds in
          let i : Keeps q.nodes v.nodes = subst (λ (ns : List Node). Keeps ns v.nodes) m.nodes y.keeps in
          let hu : Holds u.nodes (length q.nodes) (length u.nodes) value.0 y.answer.label y.answer.slots = subst (λ (ns : List Node). Holds ns (length q.nodes) (length ns) value.0 y.answer.label y.answer.slots) (sym z.nodes) h in
          let iu : Keeps q.nodes u.nodes = subst (λ (ns : List Node). Keeps q.nodes ns) (sym z.nodes) i in
          element_answers (same_both same_named (same_both m.same (same_both y.answer.same z.same))) n.stays (two_held n key_holds key_keeps hu iu) (Keeps-trans key_keeps (Keeps-trans iu (Keeps-made n.made))) refl (one_lies n) c (field_path (value_path_end d j m y.answer e))

-- which is that of an element
pub field_element : (k : FieldKind) → is_element (node_of_field k) ≡ true
field_element Property = refl
field_element Accessor = refl

-- its node, which began there
pub field_made : (first : Parser) {q w : Parser} {ids : List (Option NodeId)} {id : NodeId} {start fl n : ℕ} (k : FieldKind) → start ≡ first.token.span.start → fl ≡ n → MadeHere (field_label k fl start q.prev_token_end) ids q w id → MadeHere (flagged_here (node_of_field k) no_op n first q) ids q w id
field_made first {q} {w} {ids} {id} k e h m = subst (λ (v : Label). MadeHere v ids q w id) (rw (e, h) refl) m

-- what the code knows of the end
pub end_told : {text : List ℕ} {f : Flags} (p q : Parser) (r : Result (Unit {0}) Stop) → At text f p → one_of_kinds behind_kinds p.token.kind ≡ true → EndsOr p q r → EndsFieldOr p q r
end_told p q (Ok x) a i e = (i, e)
end_told p q (Err Fatal) a i e = gives_up _ p q Fatal a e.1 (here_ends ExpectToken refl) (inr (e.0 refl))
end_told p q (Err NoMemory) a i e = tt

pub no_end_told : {text : List ℕ} {f : Flags} (p q : Parser) (e : Stop) → At text f p → one_of_kinds behind_kinds p.token.kind ≡ false → GivesUp EndsParse p q e → Stops p q e (NoFieldEnd p)
no_end_told p q e a i g = gives_up EndsParse p q e a g (λ d u. u) (inl i)

pub no_end_unexpected : {text : List ℕ} {f : Flags} (p q : Parser) (e : Stop) → At text f p → one_of_kinds behind_kinds p.token.kind ≡ false → GivesUp (IsUnexpected p) p q e → Stops p q e (NoFieldEnd p)
no_end_unexpected p q e a i g = gives_up_here p q e a g (inl i)
