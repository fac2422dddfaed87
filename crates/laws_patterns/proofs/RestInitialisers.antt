-- The initialiser of a rest (ECMA-262, 14.3.3, 15.1): it is told, and only in the wider form anything is derived there.
use Rattle.std.proofs.Common.{ℕ, ◌≡◌, ◌<◌, Bool, true, false, List, [], ◌∷◌, length, max, Some, None, IsCharBoundary, refl, sym, ap, subst, arith, ◌∙◌}
use Rattle.js_base.specs.declared.diagnostic.Diagnostic.{Diagnostic}
use Rattle.js_base.specs.declared.kind.Kind.TheVariants.{Comma, Dot3, Eq, RBrack, RCurly, RParen, Undetermined}
use Rattle.js_base.specs.declared.source_type.SourceType.{SourceType}
use Rattle.js_base.specs.declared.span.Span.{Span}
use Rattle.js_base.specs.Diagnostics.{class_of}
use Rattle.js_base.specs.Kinds.{one_of_kinds}
use Rattle.js_grammar.specs.LexicalFaults.{Reached}
use Rattle.js_grammar.specs.Marks.{EdgeOf, Mark, StandsAt, the_start}
use Rattle.js_grammar.specs.Settings.{Goal}
use Rattle.js_grammar.specs.Trees.{Label, end, tree, no_op, binding_rest_element}
use Rattle.js_grammar.specs.Grammar.{Look, next, nothing, when, ◌▸◌}
use Rattle.js_grammar.specs.Parsing.{Fails}
use Rattle.js_grammar.specs.Productions.{G, Flags, at, plus_in, tok, Assignment, Init}
use Rattle.js_grammar.specs.Productions.{sym as symbol}
use Rattle.js_grammar.specs.Table.{bound_rest, rule, rule_of}
use Rattle.js_grammar.proofs.Looks.{covers, apart}
use Rattle.js_grammar.proofs.Calculus.{◌▹◌, by_rule, left, right, where_true, fails_alt, fails_node, fails_rule, fails_under, fails_when, inside_plain, weaken_fails_on, weaken_on}
use Rattle.laws_shared.specs.js_lex.States.{goal_of}
use Rattle.laws_shared.specs.js_tree.declared.id.NodeId.{NodeId}
use Rattle.laws_shared.specs.js_tree.declared.kind.NodeKind.TheVariants as node_kind
use Rattle.laws_shared.specs.js_tree.declared.op.Op.TheVariants as op_made
use Rattle.laws_shared.specs.js_tree.Nodes.{Node}
use Rattle.laws_shared.specs.js_tree.Holding.{Holds, Keeps}
use Rattle.laws_shared.proofs.js_tree.HoldingLemmas.{Keeps-trans, Keeps-made}
use Rattle.laws_shared.specs.js_cursor.Moves.{KeepsDiagnostic}
use Rattle.laws_shared.specs.js_cursor.Parsers.{Parser}
use Rattle.laws_shared.specs.js_cursor.Places.{goal}
use Rattle.laws_shared.specs.js_cursor.declared.stop.Stop.{Stop}
use Rattle.laws_shared.proofs.js_cursor.Standing.{counts, lexeme_here}
use Rattle.laws_shared.specs.Answers.{Answer, Underived, Numbered, Stops, Stretch, Verdict, unclean}
use Rattle.laws_shared.specs.Arguments.{PartTaken, behind_item}
use Rattle.laws_shared.specs.Classes.{IsEarly}
use Rattle.laws_shared.specs.Lexemes.{Lex, spot}
use Rattle.laws_shared.specs.Moves.{Moved, MadeHere, plain_label}
use Rattle.laws_shared.specs.States.{At, Same}
use Rattle.laws_shared.specs.Told.{unrelated_at}
use Rattle.laws_shared.proofs.Edges.{last_edge}
use Rattle.laws_shared.proofs.Giving.{kept_one}
use Rattle.laws_shared.proofs.MadeNodes.{one_held, two_held, made_lies}
use Rattle.laws_shared.proofs.Moving.{same_both, stops_behind}
use Rattle.laws_shared.proofs.Paths.{Path, ◌⟶◌, ◌⟶✗◌, fails_at, label_here, noded_by, skips, token, walked_both, walked_one, walked_to}
use Rattle.laws_shared.proofs.Signs.{other_kind, plain_sign}
use Rattle.laws_shared.proofs.Told.{told_at, told_same}
use Rattle.laws_shared.proofs.Verdicts.{behind_none, grown_then, told_wider, verdict_of}
use Rattle.laws_shared.proofs.Verdicts.{after as grown_behind}
use Rattle.laws_shared.proofs.PlainSigns.{eq_plain}
use Rattle.laws_patterns.specs.declared.forms.RestPlace.{RestPlace}
use Rattle.laws_patterns.specs.declared.forms.RestPlace.TheVariants.{Pattern, Parameters}
use Rattle.laws_patterns.specs.Bindings.{initialiser_kind, rest_initialiser, RestBegins, RestBound}
use Rattle.laws_patterns.proofs.Bindings.{ended_by, item_answers, item_path, no_end_here, on_initialiser, ends_itself}

-- ---- where it begins and ends

-- the current lexeme begins there
pub rest_begins : {text : List ℕ} {f : Flags} {p q : Parser} {start : ℕ} → At text f p → (p.token.kind ≡ Undetermined → ⊥) → Same p q → p.token.span.start < q.prev_token_end → start ≡ p.token.span.start → RestBegins start q
rest_begins {text} {f} {p} {q} {start} a n s l e =
    let c = counts a.at (lexeme_here p.token.span n refl) in
    record {
      edge = subst (λ (t : List ℕ). EdgeOf (goal q) t start) (sym s.follows.text) (subst (λ (v : SourceType). EdgeOf (goal_of v) p.text start) (sym s.follows.source_type) (the_start c.lexeme.of_text (c.lexeme.is.0 ∙ sym e)));
      between = subst (λ (t : List ℕ). IsCharBoundary t start) (sym s.follows.text) (subst (λ (v : ℕ). IsCharBoundary p.text v) (sym e) a.at.lies.starts_whole);
      before = omega arith;
    }

-- what stands there is between edges
between_edges : (place : RestPlace) {source : Goal} {text : List ℕ} {s : Span} → EdgeOf source text s.start → EdgeOf source text s.end → StandsAt (initialiser_kind place) source text s None None
between_edges Pattern a b = ((a, b), (refl, refl))
between_edges Parameters a b = ((a, b), (refl, refl))

-- reading goes on behind what is told of it
pub goes_on : (place : RestPlace) {s : Span} {d : Diagnostic} → d ≡ unrelated_at (initialiser_kind place) s → IsEarly d
goes_on place {s} {d} e = ap (λ (v : Diagnostic). class_of v.kind) e ∙ early place
  where
    early : (place : RestPlace) → IsEarly (unrelated_at (initialiser_kind place) s)
    early Pattern = refl
    early Parameters = refl

pub kind_so : (place : RestPlace) {k : _} (s : Span) {d : Diagnostic} → k ≡ initialiser_kind place → d ≡ unrelated_at k s → d ≡ unrelated_at (initialiser_kind place) s
kind_so place s e h = h ∙ ap (λ k. unrelated_at k s) e

module _ {text : List ℕ} {f : Flags} {q r w : Parser} {value : NodeId} (a : At text f q) (m : Moved text f q r) (y : Numbered text f (at Assignment (plus_in f)) r w value) where
  value_edge : EdgeOf (goal w) w.text w.prev_token_end
  value_edge = subst (λ (t : List ℕ). EdgeOf (goal w) t w.prev_token_end) (sym y.answer.at.text_is) (last_edge y.answer.walked (subst (λ (t : List ℕ). Reached t r.prev_token_end) m.at.text_is m.at.at.reached) (let b = m.at.behind in let c = y.answer.further in omega arith))

  pub initialiser_marked : (place : RestPlace) {start : ℕ} (s : Span) {d : Diagnostic} → d ≡ unrelated_at (initialiser_kind place) s → RestBegins start q → s.start ≡ start → s.end ≡ w.prev_token_end → Mark (goal w) w.text d
  initialiser_marked place {start} s {d} e b i j = subst (λ (v : Diagnostic). Mark (goal w) w.text v) (sym e) it
    where
      same : Same q w
      same = same_both m.same y.answer.same

      it : Mark (goal w) w.text (unrelated_at (initialiser_kind place) s)
      it = record {
        ordered = let c = b.before in let g = a.behind in let h = m.further in let k = m.at.behind in let l = y.answer.further in omega arith;
        within = let z = y.answer.at.at.between.0 in omega arith;
        begins_between = subst (λ (v : ℕ). IsCharBoundary w.text v) (sym i) (subst (λ (t : List ℕ). IsCharBoundary t start) (sym same.follows.text) b.between);
        ends_between = subst (λ (v : ℕ). IsCharBoundary w.text v) (sym j) y.answer.at.at.between;
        stands = between_edges place
            (subst (λ (v : ℕ). EdgeOf (goal w) w.text v) (sym i) (subst (λ (t : List ℕ). EdgeOf (goal w) t start) (sym same.follows.text) (subst (λ (v : SourceType). EdgeOf (goal_of v) q.text start) (sym same.follows.source_type) b.edge)))
            (subst (λ (v : ℕ). EdgeOf (goal w) w.text v) (sym j) value_edge);
      }

-- ---- it is read, and told

abbrev next_kinds : Look
next_kinds k w e = one_of_kinds (Comma ∷ RParen ∷ RBrack ∷ RCurly ∷ []) k

module _ {text : List ℕ} {f : Flags} {p q : Parser} (a : At text f p) (k : p.token.kind ≡ Eq) (m : Moved text f p q) where
  initialiser_due : Path text f behind_item (rule (at Init (plus_in f))) p (symbol Assignment (plus_in f)) q (λ us. us)
  unfolding rule rule_of
  initialiser_due = token Eq a k (plain_sign Eq a k refl refl eq_plain) refl m

  no_value : Underived text (at Assignment (plus_in f)) q.prev_token_end → Fails rule (Lex text) behind_item end (rest_initialiser f) p.prev_token_end
  no_value n = fails_alt (fails_under (fails_rule {X' = behind_item} (λ l cs vs y d. (d.0, refl)) (initialiser_due ⟶✗ weaken_fails_on n (on_initialiser f)))) (no_end_here a k)

  -- in the wider form it may stand
  wide_verdict : f.wide ≡ true → {w : Parser} (y : Answer text f (at Assignment (plus_in f)) q w) → Verdict (f.wide ≡ true) p.errors w.errors (Stretch text behind_item (rest_initialiser f) p.prev_token_end nothing w.prev_token_end (tree y.label y.slots) (λ ls. next m.lexeme (y.pass ls))) (Fails rule (Lex text) behind_item end (rest_initialiser f) p.prev_token_end)
  unfolding rule rule_of
  wide_verdict h y = verdict_of (behind_none m.kept y.verdict) (λ z. record { reach = max 0 (max 0 (max 0 z.reach)); near = let i = z.near in omega arith; goes = left (no_end_here a k) ▹ (where_true h ▹ by_rule {X' = behind_item} (λ l cs vs y d. (d.0, refl)) (skips a Eq k (plain_sign Eq a k refl refl eq_plain) refl m ▹ weaken_on z.goes (on_initialiser f)) refl) }) no_value

  pub value_stops : (w : Parser) (e : Stop) → Stops q w e (Underived text (at Assignment (plus_in f)) q.prev_token_end) → Stops p w e (Fails rule (Lex text) behind_item end (rest_initialiser f) p.prev_token_end)
  value_stops w e z = stops_behind w e m.same (λ g. grown_then m.kept g) no_value z

  pub told_initialiser : {w v : Parser} {value : NodeId} {d : Diagnostic} → Numbered text f (at Assignment (plus_in f)) q w value → KeepsDiagnostic d w v → IsEarly d → PartTaken text f (rest_initialiser f) p v value
  told_initialiser {w} {v} {value} {d} y t early = record {
    at = told_at t y.answer.at;
    same = same_both m.same (same_both y.answer.same (told_same t early));
    further = let c = m.further in let e = m.at.behind in let g = y.answer.further in let i = place in omega arith;
    label = y.answer.label;
    slots = y.answer.slots;
    pass = λ ls. next m.lexeme (y.answer.pass ls);
    walked = walked_to (sym (ap (λ (z : Parser). spot z) t.is)) (walked_both (walked_one m) y.answer.walked);
    verdict = by f.wide refl;
    holds = subst (λ (ns : List Node). Holds ns (length p.nodes) (length ns) value.0 y.answer.label y.answer.slots) (sym nodes) (subst (λ (ns : List Node). Holds w.nodes (length ns) (length w.nodes) value.0 y.answer.label y.answer.slots) m.nodes y.holds);
    keeps = subst (λ (ns : List Node). Keeps p.nodes ns) (sym nodes) (subst (λ (ns : List Node). Keeps ns w.nodes) m.nodes y.keeps);
  }
    where
      nodes : v.nodes ≡ w.nodes
      nodes = ap (λ (z : Parser). z.nodes) t.is

      place : v.prev_token_end ≡ w.prev_token_end
      place = ap (λ (z : Parser). z.prev_token_end) t.is

      by : (b : Bool) → f.wide ≡ b → Verdict (f.wide ≡ true) p.errors v.errors (Stretch text behind_item (rest_initialiser f) p.prev_token_end nothing v.prev_token_end (tree y.answer.label y.answer.slots) (λ ls. next m.lexeme (y.answer.pass ls))) (Fails rule (Lex text) behind_item end (rest_initialiser f) p.prev_token_end)
      by true h = subst (λ (s : ℕ). Verdict (f.wide ≡ true) p.errors v.errors (Stretch text behind_item (rest_initialiser f) p.prev_token_end nothing s (tree y.answer.label y.answer.slots) (λ ls. next m.lexeme (y.answer.pass ls))) (Fails rule (Lex text) behind_item end (rest_initialiser f) p.prev_token_end)) (sym place) (told_wider h (kept_one t) (wide_verdict h y.answer) (λ c. c) (λ n. n))
      by false h = unclean (grown_then m.kept (grown_behind y.answer.verdict (kept_one t))) (fails_alt (fails_when h) (no_end_here a k))

-- ---- the rest, with it or without

module _ {text : List ℕ} {f : Flags} {g : G} {o p : Parser} {bound : NodeId} (a : At text f o) (x : RestBound text f g o p bound) where
  bound_path : Path text f behind_item (tok Dot3 ▸ g ▸ rest_initialiser f) o (rest_initialiser f) p (tree x.label x.slots)
  bound_path = record { at = x.at; further = x.further; pass = x.pass; walked = x.walked; verdict = x.verdict }

  pub finished_alone : {w : Parser} {id : NodeId} (s : Span) → (p.token.kind ≡ Eq → ⊥) → s.start ≡ o.token.span.start → s.end ≡ p.prev_token_end → MadeHere (plain_label node_kind.BindingRestElement op_made.None s) (Some bound ∷ []) p w id → PartTaken text f (bound_rest f g) o w id
  unfolding covers apart
  finished_alone {w} {id} s n b d t =
      let l : plain_label node_kind.BindingRestElement op_made.None s ≡ label_here binding_rest_element no_op o p = rw (b, d) refl in
      let made : MadeHere (label_here binding_rest_element no_op o p) (Some bound ∷ []) p w id = subst (λ (v : Label). MadeHere v (Some bound ∷ []) p w id) l t in
      item_answers w (noded_by a (inside_plain {F' = next_kinds} ends_itself) (ended_by bound_path (right (fails_at x.at (when f.wide (symbol Init (plus_in f))) (Eq ∷ []) refl (other_kind Eq p.token.kind n))))) x.same made.stays (one_held o.nodes made x.holds) (Keeps-trans x.keeps (Keeps-made made.made)) (made_lies x.same x.at.at (let c = x.further in omega arith) made refl)

  pub finished_with : {v w : Parser} {value id : NodeId} (s : Span) (y : PartTaken text f (rest_initialiser f) p v value) → s.start ≡ o.token.span.start → s.end ≡ v.prev_token_end → MadeHere (plain_label node_kind.BindingRestElement op_made.None s) (Some bound ∷ Some value ∷ []) v w id → PartTaken text f (bound_rest f g) o w id
  finished_with {v} {w} {value} {id} s y b d t =
      let l : plain_label node_kind.BindingRestElement op_made.None s ≡ label_here binding_rest_element no_op o v = rw (b, d) refl in
      let made : MadeHere (label_here binding_rest_element no_op o v) (Some bound ∷ Some value ∷ []) v w id = subst (λ (u : Label). MadeHere u (Some bound ∷ Some value ∷ []) v w id) l t in
      item_answers w (noded_by a (inside_plain {F' = next_kinds} ends_itself) (bound_path ⟶ item_path y)) (same_both x.same y.same) made.stays (two_held made x.holds x.keeps y.holds y.keeps) (Keeps-trans x.keeps (Keeps-trans y.keeps (Keeps-made made.made))) (made_lies (same_both x.same y.same) y.at.at (let c = x.further in let e = x.at.behind in let h = y.further in omega arith) made refl)

  pub finish_stops : (w : Parser) (e : Stop) → Stops p w e (Fails rule (Lex text) behind_item end (rest_initialiser f) p.prev_token_end) → Stops o w e (Fails rule (Lex text) behind_item end (bound_rest f g) o.prev_token_end)
  finish_stops w e z = stops_behind w e x.same (λ d. grown_behind x.verdict d) (λ n. fails_node (inside_plain {F' = next_kinds} ends_itself) (bound_path ⟶✗ n)) z
