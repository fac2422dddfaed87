-- What is bound (ECMA-262, 14.3.3): names and array patterns, elements of these, and rests.
use Rattle.std.proofs.Common.{ℕ, ◌≡◌, max, List, [], ◌∷◌, length, Option, Some, Bool, true, false, refl, sym, ap, subst, arith, ◌∙◌}
use Rattle.std.specs.Prelude.{Result, Ok, Err, MatchResult, IsCharBoundary}
use Rattle.std.proofs.lemmas.Bool.{false≢true}
use Rattle.js_base.specs.declared.kind.Kind.{Kind}
use Rattle.js_base.specs.declared.kind.Kind.TheVariants.{RAngle, LBrack, LCurly, RBrack, RCurly, RParen, Colon, Comma, Dot3, Eq}
use Rattle.js_base.specs.declared.span.Span.{Span}
use Rattle.js_base.specs.Kinds.{same_kind, one_of_kinds}
use Rattle.js_base.specs.KindSets.{binding_identifier_kinds}
use Rattle.js_grammar.specs.Trees.{Slots, end, tree, Label, no_op, array_pattern, assignment_pattern, binding_identifier, formal_parameter_rest}
use Rattle.js_grammar.specs.Grammar.{Look, here, alt, nothing, ◌▸◌}
use Rattle.js_grammar.specs.Parsing.{Test, plain, full, behind, still, Goes, Fails}
use Rattle.js_grammar.specs.Productions.{G, Flags, at, tok, mk, plus_in, Assignment, BElement, Binding, BindingIdentifier, BindingRest, Pattern, Rest}
use Rattle.js_grammar.specs.Productions.{sym as symbol}
use Rattle.js_grammar.specs.Table.{bound_rest, rule, rule_of}
use Rattle.js_grammar.specs.Follow.{after, surest}
use Rattle.js_grammar.proofs.Looks.{covers, covered, apart}
use Rattle.js_grammar.proofs.Calculus.{On, ◌▹◌, ◌▹✗◌, left, right, part_fails, then_by, weaken_fails_on, fails_alt, fails_node, fails_nothing, fails_rule, inside_full, inside_plain}
use Rattle.js_grammar.proofs.FollowLaws.{surely, fails_by}
use Rattle.laws_shared.specs.js_tree.declared.id.NodeId.{NodeId}
use Rattle.laws_shared.specs.js_tree.declared.kind.NodeKind.TheVariants as node_kind
use Rattle.laws_shared.specs.js_tree.declared.op.Op.TheVariants as op_made
use Rattle.laws_shared.specs.js_tree.Nodes.{Node}
use Rattle.laws_shared.specs.js_tree.Holding.{Holds, HoldsAll, Keeps}
use Rattle.laws_shared.proofs.js_tree.HoldingLemmas.{HoldsAll-none, Keeps-refl, Keeps-trans, Keeps-made}
use Rattle.laws_shared.specs.js_cursor.Parsers.{Parser}
use Rattle.laws_shared.specs.js_cursor.Moves.{GivesUp, MovesOn, OnlyMemory, IsHere}
use Rattle.laws_shared.specs.js_cursor.declared.stop.Stop.{Stop}
use Rattle.laws_shared.specs.js_cursor.declared.stop.Stop.TheVariants.{Fatal, NoMemory}
use Rattle.laws_shared.specs.Answers.{Underived, Answer, Numbered, Outcome, Stops}
use Rattle.laws_shared.specs.Arguments.{Partway, behind_item, ItemOutcome, ItemTaken, NoItem, PartTaken}
use Rattle.laws_patterns.specs.Bindings.{elements_left, rest_initialiser, PartOutcome, RestBound}
use Rattle.laws_shared.specs.Lexemes.{Lex, may_name}
use Rattle.laws_shared.specs.Stands.{NameHere, StandsHere}
use Rattle.laws_shared.specs.Moves.{Moved, MadeHere, LeafTaken, TakesLeaf, plain_label, unpassable}
use Rattle.laws_shared.specs.States.{At, Same, NodesLie}
use Rattle.laws_shared.proofs.Signs.{other_kind, plain_sign, whole_sign}
use Rattle.laws_shared.proofs.Escapes.{escaped_unnamed}
use Rattle.laws_shared.proofs.Giving.{gives_up}
use Rattle.laws_shared.proofs.Here.{kind_here}
use Rattle.laws_shared.proofs.MadeNodes.{leaf_held, node_held, one_held, two_held, one_lies, made_lies}
use Rattle.laws_shared.proofs.Moving.{beside_nodes, moves, same_both, same_with, stops_behind, stops_so}
use Rattle.laws_primary.proofs.Operands.{by_path, name_leaf}
use Rattle.laws_primary.proofs.Spreads.{ends_all}
use Rattle.laws_shared.proofs.NameKinds.{listed_name, name_apart, name_at, or_kind}
use Rattle.laws_shared.proofs.NamedFirsts.{fails_unnamed, fails_escaped}
use Rattle.laws_shared.proofs.Parts.{part_path, part_path_fails, part_sign, part_last, parts}
use Rattle.laws_shared.proofs.Paths.{Path, ◌⟼◌, ◌⟶◌, ◌⟶✗◌, at_kind, fails_at, token, last_called, noded, noded_by, by_symbol_as, label_here}
use Rattle.laws_shared.proofs.Verdicts.{verdict_of, grown_then}
use Rattle.laws_shared.proofs.Verdicts.{after as grown_behind}
use Rattle.laws_shared.proofs.Classes.{here_ends}
use Rattle.laws_shared.proofs.PlainSigns.{eq_plain, bracket_plain, closing_bracket_plain, dots_plain}
use Rattle.js_base.specs.declared.diagnostic.DiagnosticKind.TheVariants.{ExpectClosing}

-- what is read where whatever may stand behind it
pub then_any : {text : List ℕ} {f : Flags} {X : Test} {g b : G} {p q : Parser} {h : Slots → Slots} → Path text f (plain full) g p nothing q h → Path text f X (g ▸ b) p b q h
then_any r = record { at = r.at; further = r.further; pass = r.pass; walked = r.walked; verdict = verdict_of r.verdict (λ y. record { reach = y.reach; near = y.near; goes = then_by y.goes (record { admits = λ ts us vs j k ls mid rest d d' e. (refl, refl) }) }) (λ n. part_fails n (record { admits = λ ts us vs j k ls mid rest d d' e. (refl, refl) })) }

-- a path, and nothing more
pub ended_by : {text : List ℕ} {f : Flags} {X : Test} {g g' g'' : G} {p q : Parser} {h i : Slots → Slots} → Path text f X g p g' q h → Goes rule (Lex text) (behind X h) end g' q.prev_token_end g'' q.prev_token_end i (still 0) → Path text f X g p g'' q (λ us. h (i us))
ended_by r c = record { at = r.at; further = r.further; pass = r.pass; walked = r.walked; verdict = verdict_of r.verdict (λ y. record { reach = max y.reach 0; near = let n = y.near in omega arith; goes = y.goes ▹ c }) (λ n. n) }

-- a part of a list, by a path before what may stand behind it
pub item_answers : {text : List ℕ} {f : Flags} {g : G} {p q : Parser} (w : Parser) {l : Label} {cs : Slots} {id : NodeId} → Path text f behind_item g p nothing q (tree l cs) → Same p q → w ≡ record q { nodes = w.nodes } → Holds w.nodes (length p.nodes) (length w.nodes) id.0 l cs → Keeps p.nodes w.nodes → (IsCharBoundary p.text p.token.span.start → NodesLie q.text q.nodes → NodesLie q.text w.nodes) → PartTaken text f g p w id
item_answers {text} {f} {g} {p} {q} w {l} {cs} {id} r s m h k i = go w.nodes m h k i
  where
    go : (ns : List Node) → w ≡ record q { nodes = ns } → Holds w.nodes (length p.nodes) (length w.nodes) id.0 l cs → Keeps p.nodes w.nodes → (IsCharBoundary p.text p.token.span.start → NodesLie q.text q.nodes → NodesLie q.text w.nodes) → PartTaken text f g p w id
    go ns m h k i = subst (λ (z : Parser). PartTaken text f g p z id) (sym m) (record {
      at = beside_nodes ns r.at;
      same = same_with ns s (subst (λ (z : Parser). Keeps p.nodes z.nodes) m k) (λ b z. subst (λ (v : Parser). NodesLie q.text v.nodes) m (i b z));
      further = r.further;
      label = l;
      slots = cs;
      pass = r.pass;
      walked = r.walked;
      verdict = r.verdict;
      holds = subst (λ (z : Parser). Holds z.nodes (length p.nodes) (length z.nodes) id.0 l cs) m h;
      keeps = subst (λ (z : Parser). Keeps p.nodes z.nodes) m k;
    })

-- ---- a name

-- a name that is bound
pub bound_path : {text : List ℕ} {f : Flags} {X : Test} {p q : Parser} → At text f p → may_name f.yield_ f.await_ p.token.kind ≡ true → Moved text f p q → Path text f X (symbol BindingIdentifier f) p nothing q (tree (label_here binding_identifier no_op p q) end)
unfolding rule rule_of
bound_path a k m = by_symbol_as {X' = plain full} (λ l cs vs y d. (refl, refl)) (noded a (name_leaf a k m))

-- no pattern begins with a name
pub no_pattern_name : (k : Kind) → one_of_kinds binding_identifier_kinds k ≡ true → one_of_kinds (LBrack ∷ LCurly ∷ []) k ≡ false
unfolding apart
no_pattern_name k h = name_apart (LBrack ∷ LCurly ∷ []) refl k h

module _ {text : List ℕ} {f : Flags} {p : Parser} (a : At text f p) where
  binding_path : {q : Parser} → may_name f.yield_ f.await_ p.token.kind ≡ true → Moved text f p q → Path text f (after (at Binding f)) (rule (at Binding f)) p nothing q (tree (label_here binding_identifier no_op p q) end)
  unfolding rule rule_of covers apart
  binding_path k m = left (fails_at a (symbol Pattern f) (LBrack ∷ LCurly ∷ []) refl (no_pattern_name p.token.kind (listed_name f.yield_ f.await_ p.token.kind k))) ⟼ bound_path a k m

  name_answers : {q : Parser} {id : NodeId} → may_name f.yield_ f.await_ p.token.kind ≡ true → LeafTaken node_kind.BindingIdentifier op_made.None text f p q id → Numbered text f (at Binding f) p q id
  name_answers k t =
      let l : plain_label node_kind.BindingIdentifier op_made.None p.token.span ≡ label_here binding_identifier no_op p t.mid = ap (λ (v : ℕ). record { kind = binding_identifier; op = no_op; flags = 0; span = record { from = p.token.span.start; to = v } }) (t.moved.tells.end ∙ t.moved.ends) in
      let ks : Keeps p.nodes t.mid.nodes = subst (λ (ns : List Node). Keeps p.nodes ns) (sym t.moved.nodes) (Keeps-refl p.nodes) in
      by_path (subst (λ (v : Label). Path text f (after (at Binding f)) (rule (at Binding f)) p nothing t.mid (tree v end)) (sym l) (binding_path k t.moved)) t.moved.same t.made.stays (λ y i. refl) refl (leaf_held t.made ks) (Keeps-trans ks (Keeps-made t.made.made)) (ap (λ (v : Label). v.span) l) (one_lies t.made)

  -- neither a name nor a pattern stands here
  pub no_binding : StandsHere p LBrack false → StandsHere p LCurly false → NameHere p false → Underived text (at Binding f) p.prev_token_end
  unfolding rule rule_of covers apart
  no_binding u v n = by p.token.escaped refl
    where
      unnamed : may_name f.yield_ f.await_ p.token.kind ≡ false
      unnamed = name_at false a n

      by : (e : Bool) → p.token.escaped ≡ e → Underived text (at Binding f) p.prev_token_end
      by true e = fails_by (fails_escaped a f {X = after (at Binding f)} (λ g. rule (at Binding g)) refl refl refl refl (escaped_unnamed f.yield_ f.await_ p.token.kind p.token.escaped unnamed e) unnamed)
      by false e = fails_by (fails_unnamed a f {X = after (at Binding f)} (λ g. rule (at Binding g)) (LBrack ∷ LCurly ∷ []) refl refl refl refl refl unnamed (or_kind LBrack (LCurly ∷ []) p.token.kind (λ k. u k e) (or_kind LCurly [] p.token.kind (λ k. v k e) refl)))

pub name_outcome : (text : List ℕ) (f : Flags) (p q : Parser) (r : Result NodeId Stop) → At text f p → NameHere p true → MatchResult r (λ id. TakesLeaf node_kind.BindingIdentifier op_made.None p q id) OnlyMemory → Outcome text f (at Binding f) p q r
name_outcome text f p q (Ok id) a s m = name_answers a (name_at true a s) (m text f a)
name_outcome text f p q (Err Fatal) a s m = absurd m
name_outcome text f p q (Err NoMemory) a s m = tt

-- ---- an array pattern

abbrev brackets : Flags → G
brackets f = tok LBrack ▸ elements_left f

module _ {text : List ℕ} {f : Flags} {o : Parser} (a : At text f o) (k : o.token.kind ≡ LBrack) where
  pattern_alone : Goes rule (Lex text) (after (at Binding f)) end (rule (at Binding f)) o.prev_token_end (symbol Pattern f) o.prev_token_end (λ us. us) (still 0)
  unfolding rule rule_of covers
  pattern_alone = at_kind a LBrack k refl

  array_alone : Goes rule (Lex text) (plain full) end (rule (at Pattern f)) o.prev_token_end (mk array_pattern (brackets f)) o.prev_token_end (λ us. us) (still 0)
  unfolding rule rule_of covers
  array_alone = at_kind a LBrack k refl

  pub no_pattern : Fails rule (Lex text) (plain full) end (brackets f) o.prev_token_end → Underived text (at Binding f) o.prev_token_end
  no_pattern n = fails_by (pattern_alone ▹✗ fails_rule {X' = plain full} (λ l cs vs y d. (refl, refl)) (array_alone ▹✗ fails_node inside_full n))

  pub pattern_opened : {q : Parser} → Moved text f o q → Partway text f (brackets f) (elements_left f) o q [] []
  pattern_opened m = part_sign LBrack a k (plain_sign LBrack a k refl refl bracket_plain) refl m

  module _ {p : Parser} {js : List (Option NodeId)} (x : Partway text f (brackets f) (tok RBrack) o p [] js) where
    pub unclosed_pattern : one_of_kinds (RBrack ∷ []) p.token.kind ≡ false → Underived text (at Binding f) o.prev_token_end
    unfolding covers apart
    unclosed_pattern n = no_pattern (part_path_fails x (fails_at x.at (tok RBrack) (RBrack ∷ []) refl n))

    module _ {q : Parser} (e : p.token.kind ≡ RBrack) (m : Moved text f p q) where
      whole_pattern : Partway text f (brackets f) nothing o q [] js
      whole_pattern = parts x (part_last RBrack x.at e (plain_sign RBrack x.at e refl refl closing_bracket_plain) refl m)

      pattern_path : Path text f (after (at Binding f)) (rule (at Binding f)) o nothing q (tree (label_here array_pattern no_op o q) (whole_pattern.slots end))
      pattern_path = pattern_alone ⟼ by_symbol_as {X' = plain full} (λ l cs vs y d. (refl, refl)) (array_alone ⟼ noded a (part_path whole_pattern))

      pub pattern_answers : {w : Parser} {id : NodeId} (s : Span) → s.start ≡ o.token.span.start → s.end ≡ q.prev_token_end → MadeHere (plain_label node_kind.ArrayPattern op_made.None s) js q w id → Numbered text f (at Binding f) o w id
      pattern_answers {w} {id} s b d n =
          let l : plain_label node_kind.ArrayPattern op_made.None s ≡ label_here array_pattern no_op o q = rw (b, d) refl in
          let y : MadeHere (label_here array_pattern no_op o q) js q w id = subst (λ (v : Label). MadeHere v js q w id) l n in
          let h : HoldsAll q.nodes (length o.nodes) (length q.nodes) js (whole_pattern.slots end) = whole_pattern.holds (length o.nodes) end (HoldsAll-none o.nodes (length o.nodes) (length o.nodes) (omega arith)) in
          by_path pattern_path whole_pattern.same y.stays (λ u v. refl) refl (node_held y h) (Keeps-trans whole_pattern.keeps (Keeps-made y.made)) refl (one_lies y)

-- its closing bracket was passed, or doesn't stand here
pub pattern_moved : {text : List ℕ} {f : Flags} {p q : Parser} (k : Kind) → same_kind RAngle k ≡ false → unpassable k ≡ false → At text f p → (p.token.kind ≡ k) × MovesOn p q → Moved text f p q
pattern_moved k r l a z = moves (whole_sign k a z.0 r l) z.1 a

pub pattern_unclosed : {text : List ℕ} {f : Flags} (k : Kind) (opening : Option Span) (p q : Parser) (e : Stop) {F : Type 0} → At text f p → (e ≡ Fatal → p.token.kind ≡ k → ⊥) × GivesUp (IsHere ExpectClosing p opening) p q e → (one_of_kinds (k ∷ []) p.token.kind ≡ false → F) → Stops p q e F
pattern_unclosed k opening p q Fatal a h g = gives_up (IsHere ExpectClosing p opening) p q Fatal a h.1 (here_ends ExpectClosing refl) (g (other_kind k p.token.kind (h.0 refl)))
pattern_unclosed k opening p q NoMemory a h g = tt

-- ---- an element of a pattern

abbrev next_kinds : Look
next_kinds k w e = one_of_kinds (Comma ∷ RParen ∷ RBrack ∷ RCurly ∷ []) k

pub ends_itself : covers next_kinds next_kinds ≡ true
unfolding covers
ends_itself = refl

module _ {text : List ℕ} {f : Flags} {p q : Parser} (x : Answer text f (at Binding f) p q) where
  -- what is bound, before more
  pub binding_read : {X : Test} {b : G} → Path text f X (symbol Binding f ▸ b) p b q (tree x.label x.slots)
  binding_read = then_any (last_called x (record { admits = λ ts vs k ls rest d e. (refl, refl) }))

  -- and before what ends an item
  binding_last : {X : Test} → Path text f X (symbol Binding f) p nothing q (tree x.label x.slots)
  binding_last = last_called x (record { admits = λ ts vs k ls rest d e. (refl, refl) })

-- `=` ends no item
pub no_end_here : {text : List ℕ} {f : Flags} {q : Parser} → At text f q → q.token.kind ≡ Eq → Fails rule (Lex text) behind_item end nothing q.prev_token_end
no_end_here a k = fails_nothing (λ ts y l e. false≢true (subst (λ (v : Kind). one_of_kinds (Comma ∷ RParen ∷ RBrack ∷ RCurly ∷ []) v ≡ true) (kind_here a k refl y l) e.0))

-- nor does a colon
pub no_colon_ends : {text : List ℕ} {f : Flags} {q : Parser} → At text f q → q.token.kind ≡ Colon → Fails rule (Lex text) behind_item end nothing q.prev_token_end
no_colon_ends a k = fails_nothing (λ ts y l e. false≢true (subst (λ (v : Kind). one_of_kinds (Comma ∷ RParen ∷ RBrack ∷ RCurly ∷ []) v ≡ true) (kind_here a k refl y l) e.0))

-- an initialiser ends before what ends an item
pub on_initialiser : (f : Flags) {s : ℕ} → On rule behind_item (after (at Assignment (plus_in f))) end (symbol Assignment (plus_in f)) s
on_initialiser f = record { admits = λ ts vs j ls rest d e. (surely (at Assignment (plus_in f))).admits ts (here rest) (covered next_kinds (surest Assignment) ends_all (here rest).kind (here rest).newline (here rest).escaped e.0) }

abbrev initialised : Flags → G
initialised f = symbol Binding f ▸ tok Eq ▸ symbol Assignment (plus_in f)

abbrev element_choice : Flags → G
element_choice f = alt (symbol Binding f) (mk assignment_pattern (initialised f))

module _ {text : List ℕ} {f : Flags} {p q : Parser} {bound : NodeId} (a : At text f p) (x : Numbered text f (at Binding f) p q bound) where
  -- it has no initialiser
  uninitialised : (q.token.kind ≡ Eq → ⊥) → Path text f behind_item (symbol BElement f) p nothing q (tree x.answer.label x.answer.slots)
  unfolding rule rule_of covers apart
  uninitialised n = by_symbol_as {X' = behind_item} (λ l cs vs y d. (d.0, refl)) (left {b = mk assignment_pattern (initialised f)} (fails_node inside_full (binding_read x.answer ⟶✗ fails_at x.answer.at (tok Eq ▸ symbol Assignment (plus_in f)) (Eq ∷ []) refl (other_kind Eq q.token.kind n))) ⟼ binding_last x.answer)

  pub element_alone : (q.token.kind ≡ Eq → ⊥) → ItemTaken text f (at BElement f) p q bound
  element_alone n = item_answers q (uninitialised n) x.answer.same refl x.holds x.keeps (λ b z. z)

  module _ {r : Parser} (k : q.token.kind ≡ Eq) (m : Moved text f q r) where
    with_value : Goes rule (Lex text) behind_item end (element_choice f) p.prev_token_end (mk assignment_pattern (initialised f)) p.prev_token_end (λ us. us) (still 0)
    with_value = right (binding_last x.answer ⟶✗ no_end_here x.answer.at k)

    value_due : Path text f behind_item (initialised f) p (symbol Assignment (plus_in f)) r (tree x.answer.label x.answer.slots)
    value_due = binding_read x.answer ⟶ token Eq x.answer.at k (plain_sign Eq x.answer.at k refl refl eq_plain) refl m

    initialised_path : {w : Parser} → (y : Answer text f (at Assignment (plus_in f)) r w) → Path text f behind_item (symbol BElement f) p nothing w (tree (label_here assignment_pattern no_op p w) (tree x.answer.label x.answer.slots (tree y.label y.slots end)))
    unfolding rule rule_of
    initialised_path y = by_symbol_as {X' = behind_item} (λ l cs vs y d. (d.0, refl)) (with_value ⟼ noded_by a (inside_plain {F' = next_kinds} ends_itself) (value_due ⟶ last_called y (on_initialiser f)))

    value_fails : Underived text (at Assignment (plus_in f)) r.prev_token_end → NoItem text (at BElement f) p.prev_token_end
    unfolding rule rule_of
    value_fails n = fails_rule {X' = behind_item} (λ l cs vs y d. (d.0, refl)) (with_value ▹✗ fails_node (inside_plain {F' = next_kinds} ends_itself) (value_due ⟶✗ weaken_fails_on n (on_initialiser f)))

    pub element_with : {w z : Parser} {value id : NodeId} (s : Span) → (y : Numbered text f (at Assignment (plus_in f)) r w value) → s.start ≡ p.token.span.start → s.end ≡ w.prev_token_end → MadeHere (plain_label node_kind.AssignmentPattern op_made.None s) (Some bound ∷ Some value ∷ []) w z id → ItemTaken text f (at BElement f) p z id
    element_with {w} {z} {value} {id} s y b d n =
        let l : plain_label node_kind.AssignmentPattern op_made.None s ≡ label_here assignment_pattern no_op p w = rw (b, d) refl in
        let v : MadeHere (label_here assignment_pattern no_op p w) (Some bound ∷ Some value ∷ []) w z id = subst (λ (v : Label). MadeHere v (Some bound ∷ Some value ∷ []) w z id) l n in
        let h : Holds w.nodes (length q.nodes) (length w.nodes) value.0 y.answer.label y.answer.slots = subst (λ (ns : List Node). Holds w.nodes (length ns) (length w.nodes) value.0 y.answer.label y.answer.slots) m.nodes y.holds in
        let i : Keeps q.nodes w.nodes = subst (λ (ns : List Node). Keeps ns w.nodes) m.nodes y.keeps in
        item_answers z (initialised_path y.answer) (same_both x.answer.same (same_both m.same y.answer.same)) v.stays (two_held v x.holds x.keeps h i) (Keeps-trans x.keeps (Keeps-trans i (Keeps-made v.made)))
        (made_lies (same_both x.answer.same (same_both m.same y.answer.same)) y.answer.at.at (let a = x.answer.further in let c = x.answer.at.behind in let e = m.further in let g = m.at.behind in let j = y.answer.further in omega arith) v refl)

    pub no_value : (w : Parser) (e : Stop) → Stops r w e (Underived text (at Assignment (plus_in f)) r.prev_token_end) → Stops p w e (NoItem text (at BElement f) p.prev_token_end)
    no_value w e z = stops_behind w e (same_both x.answer.same m.same) (λ g. grown_behind x.answer.verdict (grown_then m.kept g)) (λ n. value_fails n) z

pub no_element : {text : List ℕ} (f : Flags) {s : ℕ} → Underived text (at Binding f) s → NoItem text (at BElement f) s
unfolding rule rule_of
no_element f n =
    let m : Fails rule (Lex _) (plain full) end (symbol Binding f) _ = weaken_fails_on n (record { admits = λ ts vs k ls rest d e. (refl, refl) }) in
    fails_rule {X' = behind_item} (λ l cs vs y d. (d.0, refl)) (fails_alt (weaken_fails_on n (record { admits = λ ts vs k ls rest d e. (refl, refl) })) (fails_node inside_full (part_fails {X' = plain full} m (record { admits = λ ts us vs j k ls mid rest d d' e. (refl, refl) }))))

-- ---- parts of nodes

pub item_path : {text : List ℕ} {f : Flags} {g : G} {p q : Parser} {id : NodeId} (x : PartTaken text f g p q id) → Path text f behind_item g p nothing q (tree x.label x.slots)
item_path x = record { at = x.at; further = x.further; pass = x.pass; walked = x.walked; verdict = x.verdict }

-- ---- a rest

module _ {text : List ℕ} {f : Flags} {p q : Parser} (a : At text f p) (k : p.token.kind ≡ Dot3) (m : Moved text f p q) where
  dots : {X : Test} {b : G} → Path text f X (tok Dot3 ▸ b) p b q (λ us. us)
  dots = token Dot3 a k (plain_sign Dot3 a k refl refl dots_plain) refl m

  -- what it binds can't be read
  pub unbound_rest : {g : G} → Fails rule (Lex text) (plain full) end g q.prev_token_end → Fails rule (Lex text) behind_item end (bound_rest f g) p.prev_token_end
  unbound_rest n = fails_node (inside_plain {F' = next_kinds} ends_itself) (dots ⟶✗ part_fails {X' = plain full} n (record { admits = λ ts us vs j k ls mid rest d d' e. (refl, refl) }))

  -- or was read
  pub bound_by : {g : G} {r : Parser} {l : Label} {cs : Slots} {bound : NodeId} (y : Path text f (plain full) g q nothing r (tree l cs)) → Same q r → Holds r.nodes (length q.nodes) (length r.nodes) bound.0 l cs → Keeps q.nodes r.nodes → RestBound text f g p r bound
  bound_by {g} {r} {l} {cs} {bound} y s h i =
      let z = dots {X = behind_item} ⟶ then_any {b = rest_initialiser f} y in
      record {
        at = z.at;
        same = same_both m.same s;
        further = z.further;
        label = l;
        slots = cs;
        pass = z.pass;
        walked = z.walked;
        verdict = z.verdict;
        holds = subst (λ (ns : List Node). Holds r.nodes (length ns) (length r.nodes) bound.0 l cs) m.nodes h;
        keeps = subst (λ (ns : List Node). Keeps ns r.nodes) m.nodes i;
      }

  pub binding_bound : {r : Parser} {bound : NodeId} → Numbered text f (at Binding f) q r bound → RestBound text f (symbol Binding f) p r bound
  binding_bound x = bound_by (binding_last x.answer) x.answer.same x.holds x.keeps

  pub no_rest : Underived text (at Binding f) q.prev_token_end → NoItem text (at BindingRest f) p.prev_token_end
  unfolding rule rule_of
  no_rest n = fails_rule {X' = behind_item} (λ l cs vs y d. (d.0, refl)) (unbound_rest (weaken_fails_on n (record { admits = λ ts vs k ls rest d e. (refl, refl) })))

-- a rest of an array pattern, or among parameters
pub rest_item : {text : List ℕ} {f : Flags} {p q : Parser} {id : NodeId} → PartTaken text f (bound_rest f (symbol Binding f)) p q id → ItemTaken text f (at BindingRest f) p q id
unfolding rule rule_of
rest_item x = let z = by_symbol_as {X' = behind_item} (λ l cs vs y d. (d.0, refl)) (item_path x) in record { at = x.at; same = x.same; further = x.further; label = x.label; slots = x.slots; pass = z.pass; walked = z.walked; verdict = z.verdict; holds = x.holds; keeps = x.keeps }

pub rest_outcome : (text : List ℕ) (f : Flags) (p q : Parser) (r : Result NodeId Stop) → PartOutcome text f (bound_rest f (symbol Binding f)) p q r → ItemOutcome text f (at BindingRest f) p q r
unfolding rule rule_of
rest_outcome text f p q (Ok id) x = rest_item x
rest_outcome text f p q (Err e) x = stops_so p q e (λ n. fails_rule {X' = behind_item} (λ l cs vs y d. (d.0, refl)) n) x

-- ---- a rest among parameters

pub no_rest_parameter : {text : List ℕ} (f : Flags) {s : ℕ} → NoItem text (at BindingRest f) s → NoItem text (at Rest f) s
unfolding rule rule_of
no_rest_parameter f n = fails_rule {X' = behind_item} (λ l cs vs y d. (d.0, refl)) (fails_node (inside_plain {F' = next_kinds} ends_itself) n)

pub rest_parameter : {text : List ℕ} {f : Flags} {p q w : Parser} {rest id : NodeId} (s : Span) → At text f p → (x : ItemTaken text f (at BindingRest f) p q rest) → s.start ≡ p.token.span.start → s.end ≡ q.prev_token_end → MadeHere (plain_label node_kind.FormalParameterRest op_made.None s) (Some rest ∷ []) q w id → ItemTaken text f (at Rest f) p w id
unfolding rule rule_of
rest_parameter {text} {f} {p} {q} {w} {rest} {id} s a x b d n =
    let l : plain_label node_kind.FormalParameterRest op_made.None s ≡ label_here formal_parameter_rest no_op p q = rw (b, d) refl in
    let y : MadeHere (label_here formal_parameter_rest no_op p q) (Some rest ∷ []) q w id = subst (λ (v : Label). MadeHere v (Some rest ∷ []) q w id) l n in
    item_answers w (by_symbol_as {X' = behind_item} (λ l cs vs y d. (d.0, refl)) (noded_by a (inside_plain {F' = next_kinds} ends_itself) (item_path x))) x.same y.stays (one_held p.nodes y x.holds) (Keeps-trans x.keeps (Keeps-made y.made)) (made_lies x.same x.at.at (let a = x.further in omega arith) y refl)
