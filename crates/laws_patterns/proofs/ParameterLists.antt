-- Formal parameters (ECMA-262, 15.1): one of them, and their list in parentheses.
use Rattle.std.proofs.Common.{ℕ, ◌≡◌, List, [], ◌∷◌, ◌++◌, length, Option, Some, None, false, refl, ap, subst, arith}
use Rattle.js_base.specs.declared.kind.Kind.{Kind}
use Rattle.js_base.specs.declared.kind.Kind.TheVariants.{LParen, RParen, LBrack, LCurly, RBrack, RCurly, Colon, Comma, Dot3, Eq}
use Rattle.js_base.specs.declared.span.Span.{Span}
use Rattle.js_base.specs.Kinds.{one_of_kinds}
use Rattle.js_base.specs.KindSets.{binding_identifier_kinds}
use Rattle.js_grammar.specs.Trees.{Slots, end, hole, tree, Label, no_op, formal_parameter, formal_parameters}
use Rattle.js_grammar.specs.Grammar.{Look, seq, alt, nothing, never, empty_slot, ◌▸◌}
use Rattle.js_grammar.specs.Parsing.{plain, full, still, Goes, Fails}
use Rattle.js_grammar.specs.Productions.{G, Flags, at, tok, plus_in, Assignment, Binding, Init, Param, Params, Rest}
use Rattle.js_grammar.specs.Productions.{sym as symbol}
use Rattle.js_grammar.specs.Table.{rest_of, rule, rule_of}
use Rattle.js_grammar.specs.Follow.{after}
use Rattle.js_grammar.proofs.Looks.{covers, apart}
use Rattle.js_grammar.proofs.Calculus.{◌▹◌, ◌▹✗◌, left, right, fails_alt, part_fails, weaken_fails_on, fails_node, fails_rule, inside_full, inside_plain, reads_empty_slot}
use Rattle.js_grammar.proofs.FollowLaws.{fails_by}
use Rattle.laws_shared.specs.js_tree.declared.id.NodeId.{NodeId}
use Rattle.laws_shared.specs.js_tree.declared.kind.NodeKind.TheVariants as node_kind
use Rattle.laws_shared.specs.js_tree.declared.op.Op.TheVariants as op_made
use Rattle.laws_shared.specs.js_tree.Nodes.{Node}
use Rattle.laws_shared.specs.js_tree.Holding.{Holds, HoldsAll, Keeps}
use Rattle.laws_shared.proofs.js_tree.HoldingLemmas.{HoldsAll-one, HoldsAll-hole, HoldsAll-none, Keeps-trans, Keeps-made}
use Rattle.laws_shared.specs.js_cursor.Moves.{GivesUp}
use Rattle.laws_shared.specs.js_cursor.Parsers.{Parser}
use Rattle.laws_shared.specs.js_cursor.declared.stop.Stop.{Stop}
use Rattle.laws_shared.specs.Answers.{Underived, Answer, Numbered, Stops}
use Rattle.laws_shared.specs.Arguments.{Partway, behind_item, ItemTaken, NoItem}
use Rattle.laws_shared.specs.Classes.{EndsParse}
use Rattle.laws_shared.specs.Lexemes.{Lex}
use Rattle.laws_shared.specs.Lists.{NoneLeft, OneMore}
use Rattle.laws_shared.specs.Moves.{Moved, MadeHere, plain_label}
use Rattle.laws_patterns.specs.Bindings.{rest_comma}
use Rattle.laws_patterns.specs.Parameters.{parameters_left}
use Rattle.laws_shared.specs.States.{At}
use Rattle.laws_primary.proofs.ArgumentLists.{none_there}
use Rattle.laws_primary.proofs.Arrays.{behind_one}
use Rattle.laws_patterns.proofs.Bindings.{binding_read, ended_by, item_answers, no_colon_ends, no_end_here, on_initialiser, ends_itself}
use Rattle.laws_shared.proofs.Giving.{gives_up}
use Rattle.laws_shared.proofs.Signs.{other_kind, plain_sign}
use Rattle.laws_patterns.proofs.Lists.{end_due, item_comma, item_due, item_fails, item_last, item_more, last_due, more_from, none_yet, rest_fails, rest_more}
use Rattle.laws_patterns.proofs.ObjectLists.{no_gap}
use Rattle.laws_shared.proofs.MadeNodes.{node_held, two_held, one_lies, made_lies}
use Rattle.laws_shared.proofs.Moving.{same_both, stops_behind, stops_so}
use Rattle.laws_primary.proofs.Operands.{by_path}
use Rattle.laws_shared.proofs.Parts.{part_path, part_path_fails, part_sign, part_last, parts}
use Rattle.laws_shared.proofs.Paths.{Path, ◌⟼◌, ◌⟶◌, ◌⟶✗◌, fails_at, token, last_called, noded, noded_by, by_symbol_as, label_here}
use Rattle.laws_shared.proofs.Verdicts.{grown_then}
use Rattle.laws_shared.proofs.Verdicts.{after as grown_behind}
use Rattle.laws_shared.proofs.PlainSigns.{eq_plain, paren_plain, closing_paren_plain}

-- ---- one parameter

abbrev next_kinds : Look
next_kinds k w e = one_of_kinds (Comma ∷ RParen ∷ RBrack ∷ RCurly ∷ []) k

module _ {text : List ℕ} {f : Flags} {p q : Parser} (a : At text f p) (x : Answer text f (at Binding f) p q) where
  -- it has no initialiser
  parameter_alone : (q.token.kind ≡ Eq → ⊥) → Path text f behind_item (symbol Param f) p nothing q (tree (label_here formal_parameter no_op p q) (tree x.label x.slots (hole end)))
  unfolding rule rule_of covers apart
  parameter_alone n = by_symbol_as {X' = plain full} (λ l cs vs y d. (refl, refl)) (noded a (ended_by (binding_read x) (right (fails_at x.at (symbol Init (plus_in f)) (Eq ∷ []) refl (other_kind Eq q.token.kind n)) ▹ reads_empty_slot)))

  -- nor may a colon stand behind it
  annotated_fails : q.token.kind ≡ Colon → NoItem text (at Param f) p.prev_token_end
  unfolding rule rule_of covers apart
  annotated_fails k = fails_rule {X' = behind_item} (λ l cs vs y d. (d.0, refl)) (fails_node (inside_plain {F' = next_kinds} ends_itself) (binding_read x ⟶✗ fails_alt (fails_at x.at (symbol Init (plus_in f)) (Eq ∷ []) refl (ap (one_of_kinds (Eq ∷ [])) k)) (reads_empty_slot ▹✗ no_colon_ends x.at k)))

  module _ {r : Parser} (k : q.token.kind ≡ Eq) (m : Moved text f q r) where
    no_slot : Fails rule (Lex text) behind_item end empty_slot q.prev_token_end
    no_slot = reads_empty_slot ▹✗ no_end_here x.at k

    initialiser_due : Path text f behind_item (rule (at Init (plus_in f))) q (symbol Assignment (plus_in f)) r (λ us. us)
    unfolding rule rule_of
    initialiser_due = token Eq x.at k (plain_sign Eq x.at k refl refl eq_plain) refl m

    parameter_due : {w : Parser} {h : Slots → Slots} → Path text f behind_item (symbol Init (plus_in f)) q nothing w h → Path text f behind_item (symbol Binding f ▸ alt (symbol Init (plus_in f)) empty_slot) p nothing w (λ us. tree x.label x.slots (h us))
    parameter_due y = binding_read x ⟶ (left no_slot ⟼ y)

    parameter_path : {w : Parser} → (y : Answer text f (at Assignment (plus_in f)) r w) → Path text f behind_item (symbol Param f) p nothing w (tree (label_here formal_parameter no_op p w) (tree x.label x.slots (tree y.label y.slots end)))
    unfolding rule rule_of covers
    parameter_path y = by_symbol_as {X' = behind_item} (λ l cs vs y d. (d.0, refl)) (noded_by a (inside_plain {F' = next_kinds} ends_itself) (parameter_due (by_symbol_as {X' = behind_item} (λ l cs vs y d. (d.0, refl)) (initialiser_due ⟶ last_called y (on_initialiser f)))))

    initialiser_fails : Underived text (at Assignment (plus_in f)) r.prev_token_end → NoItem text (at Param f) p.prev_token_end
    unfolding rule rule_of covers
    initialiser_fails n = fails_rule {X' = behind_item} (λ l cs vs y d. (d.0, refl)) (fails_node (inside_plain {F' = next_kinds} ends_itself) (binding_read x ⟶✗ (left no_slot ▹✗ fails_rule {X' = behind_item} (λ l cs vs y d. (d.0, refl)) (initialiser_due ⟶✗ weaken_fails_on n (on_initialiser f)))))

pub binding_fails : {text : List ℕ} (f : Flags) {s : ℕ} → Underived text (at Binding f) s → NoItem text (at Param f) s
unfolding rule rule_of
binding_fails f n = fails_rule {X' = plain full} (λ l cs vs y d. (refl, refl)) (fails_node inside_full (part_fails {X' = plain full} (weaken_fails_on n (record { admits = λ ts vs k ls rest d e. (refl, refl) })) (record { admits = λ ts us vs j k ls mid rest d d' e. (refl, refl) })))

module _ {text : List ℕ} {f : Flags} {p q : Parser} {bound : NodeId} (a : At text f p) (x : Numbered text f (at Binding f) p q bound) where
  pub alone_answers : {w : Parser} {id : NodeId} (s : Span) → (q.token.kind ≡ Eq → ⊥) → s.start ≡ p.token.span.start → s.end ≡ q.prev_token_end → MadeHere (plain_label node_kind.FormalParameter op_made.None s) (Some bound ∷ None ∷ []) q w id → ItemTaken text f (at Param f) p w id
  alone_answers {w} {id} s n b d m =
      let l : plain_label node_kind.FormalParameter op_made.None s ≡ label_here formal_parameter no_op p q = rw (b, d) refl in
      let y : MadeHere (label_here formal_parameter no_op p q) (Some bound ∷ None ∷ []) q w id = subst (λ (v : Label). MadeHere v (Some bound ∷ None ∷ []) q w id) l m in
      item_answers w (parameter_alone a x.answer n) x.answer.same y.stays (node_held y (HoldsAll-hole (HoldsAll-one bound x.holds))) (Keeps-trans x.keeps (Keeps-made y.made)) (made_lies x.answer.same x.answer.at.at (let a = x.answer.further in omega arith) y refl)

  -- a colon stands behind what is bound
  pub annotated : q.token.kind ≡ Colon → (w : Parser) (e : Stop) → GivesUp EndsParse q w e → Stops p w e (NoItem text (at Param f) p.prev_token_end)
  annotated k w e g = stops_behind w e x.answer.same (λ h. grown_behind x.answer.verdict h) (λ n. n) (gives_up EndsParse q w e x.answer.at g (λ d u. u) (annotated_fails a x.answer k))

  module _ {r : Parser} (k : q.token.kind ≡ Eq) (m : Moved text f q r) where
    pub with_initialiser : {w z : Parser} {value id : NodeId} (s : Span) → (y : Numbered text f (at Assignment (plus_in f)) r w value) → s.start ≡ p.token.span.start → s.end ≡ w.prev_token_end → MadeHere (plain_label node_kind.FormalParameter op_made.None s) (Some bound ∷ Some value ∷ []) w z id → ItemTaken text f (at Param f) p z id
    with_initialiser {w} {z} {value} {id} s y b d n =
        let l : plain_label node_kind.FormalParameter op_made.None s ≡ label_here formal_parameter no_op p w = rw (b, d) refl in
        let v : MadeHere (label_here formal_parameter no_op p w) (Some bound ∷ Some value ∷ []) w z id = subst (λ (v : Label). MadeHere v (Some bound ∷ Some value ∷ []) w z id) l n in
        let h : Holds w.nodes (length q.nodes) (length w.nodes) value.0 y.answer.label y.answer.slots = subst (λ (ns : List Node). Holds w.nodes (length ns) (length w.nodes) value.0 y.answer.label y.answer.slots) m.nodes y.holds in
        let i : Keeps q.nodes w.nodes = subst (λ (ns : List Node). Keeps ns w.nodes) m.nodes y.keeps in
        item_answers z (parameter_path a x.answer k m y.answer) (same_both x.answer.same (same_both m.same y.answer.same)) v.stays (two_held v x.holds x.keeps h i) (Keeps-trans x.keeps (Keeps-trans i (Keeps-made v.made)))
        (made_lies (same_both x.answer.same (same_both m.same y.answer.same)) y.answer.at.at (let a = x.answer.further in let c = x.answer.at.behind in let e = m.further in let g = m.at.behind in let j = y.answer.further in omega arith) v refl)

    pub no_initialiser : (w : Parser) (e : Stop) → Stops r w e (Underived text (at Assignment (plus_in f)) r.prev_token_end) → Stops p w e (NoItem text (at Param f) p.prev_token_end)
    no_initialiser w e z = stops_behind w e (same_both x.answer.same m.same) (λ g. grown_behind x.answer.verdict (grown_then m.kept g)) (λ n. initialiser_fails a x.answer k m n) z

-- ---- their list

-- what may begin a parameter, of what is read
abbrev parameter_kinds : List Kind
parameter_kinds = LBrack ∷ LCurly ∷ binding_identifier_kinds

module _ {text : List ℕ} {f : Flags} {p : Parser} (a : At text f p) where
  -- the closing parenthesis stands here
  pub list_closed : {ids : List (Option NodeId)} → p.token.kind ≡ RParen → OneMore text f (parameters_left f) (tok RParen) p p ids ids
  unfolding rule rule_of covers apart
  list_closed {ids} k = more_from (end_due never (symbol Param f) (rest_of f (symbol Rest f)) RParen no_gap (fails_at a (symbol Param f) parameter_kinds refl (ap (one_of_kinds parameter_kinds) k)) (fails_at a (rest_of f (symbol Rest f)) (Dot3 ∷ []) refl (ap (one_of_kinds (Dot3 ∷ [])) k))) (none_yet ids a)

  -- neither that nor a rest
  module _ (n : one_of_kinds (RParen ∷ Dot3 ∷ []) p.token.kind ≡ false) where
    parameter_first : Goes rule (Lex text) (plain full) end (parameters_left f) p.prev_token_end (seq (symbol Param f) (behind_one never (symbol Param f) (rest_of f (symbol Rest f)) (tok RParen))) p.prev_token_end (λ us. us) (still 0)
    unfolding rule rule_of covers apart
    parameter_first = item_due never (symbol Param f) (rest_of f (symbol Rest f)) RParen no_gap (fails_at a (rest_of f (symbol Rest f)) (RParen ∷ Dot3 ∷ []) refl n) (fails_at a (tok RParen) (RParen ∷ Dot3 ∷ []) refl n)

    pub parameter_stops : (q : Parser) (e : Stop) → Stops p q e (NoItem text (at Param f) p.prev_token_end) → Stops p q e (NoneLeft text (parameters_left f) p.prev_token_end)
    unfolding covers
    parameter_stops q e s = stops_so p q e (λ m. parameter_first ▹✗ item_fails refl m) s

    module _ {q : Parser} {ids js : List (Option NodeId)} {id : NodeId} (x : ItemTaken text f (at Param f) p q id) (g : js ≡ ids ++ Some id ∷ []) where
      parameter_read : OneMore text f (parameters_left f) (behind_one never (symbol Param f) (rest_of f (symbol Rest f)) (tok RParen)) p q ids js
      unfolding covers
      parameter_read = more_from parameter_first (item_more a refl x g)

      -- it is the last one
      pub last_taken : (q.token.kind ≡ Comma → ⊥) → OneMore text f (parameters_left f) (tok RParen) p q ids js
      unfolding apart
      last_taken m = item_last never (symbol Param f) (rest_of f (symbol Rest f)) RParen parameter_read (none_there Comma x.at refl m)

      -- a comma stands behind it
      pub comma_taken : {r : Parser} → q.token.kind ≡ Comma → Moved text f q r → OneMore text f (parameters_left f) (parameters_left f) p r ids js
      unfolding covers apart
      comma_taken k m = item_comma never (symbol Param f) (rest_of f (symbol Rest f)) RParen parameter_read (fails_at x.at (tok RParen) (RParen ∷ []) refl (ap (one_of_kinds (RParen ∷ [])) k)) k m

  -- a rest stands here
  module _ (k : p.token.kind ≡ Dot3) where
    rest_first : Goes rule (Lex text) (plain full) end (parameters_left f) p.prev_token_end (seq (rest_of f (symbol Rest f)) (tok RParen)) p.prev_token_end (λ us. us) (still 0)
    unfolding rule rule_of covers apart
    rest_first = last_due never (symbol Param f) (rest_of f (symbol Rest f)) RParen no_gap (fails_at a (symbol Param f) parameter_kinds refl (ap (one_of_kinds parameter_kinds) k)) (fails_at a (tok RParen) (RParen ∷ []) refl (ap (one_of_kinds (RParen ∷ [])) k))

    pub rest_stops : (q : Parser) (e : Stop) → Stops p q e (NoItem text (at Rest f) p.prev_token_end) → Stops p q e (NoneLeft text (parameters_left f) p.prev_token_end)
    unfolding covers
    rest_stops q e s = stops_so p q e (λ m. rest_first ▹✗ rest_fails f refl m) s

    pub rest_taken : {q : Parser} {ids js : List (Option NodeId)} {id : NodeId} → ItemTaken text f (at Rest f) p q id → js ≡ ids ++ Some id ∷ [] → OneMore text f (parameters_left f) (seq (rest_comma f) (tok RParen)) p q ids js
    unfolding covers
    rest_taken x g = more_from rest_first (rest_more a refl x g)

-- ---- the parameters and their parentheses

-- the children that a list was begun with
pub behind_children : {text : List ℕ} {f : Flags} {g g' : G} {p q : Parser} {ids is js : List (Option NodeId)} → is ≡ ids → OneMore text f g g' p q is js → OneMore text f g g' p q ids js
behind_children {text} {f} {g} {g'} {p} {q} {js = js} e x = subst (λ (is : List (Option NodeId)). OneMore text f g g' p q is js) e x

abbrev in_parentheses : Flags → G
in_parentheses f = tok LParen ▸ parameters_left f

pub list_begins : {text : List ℕ} {f : Flags} {p q : Parser} → At text f p → p.token.kind ≡ LParen → Moved text f p q → Partway text f (in_parentheses f) (parameters_left f) p q [] []
list_begins a k m = part_sign LParen a k (plain_sign LParen a k refl refl paren_plain) refl m

pub no_params : {text : List ℕ} (f : Flags) {s : ℕ} → Fails rule (Lex text) (plain full) end (in_parentheses f) s → Underived text (at Params f) s
unfolding rule rule_of
no_params f n = fails_by (fails_node inside_full n)

module _ {text : List ℕ} {f : Flags} {o p : Parser} {js : List (Option NodeId)} (a : At text f o) (x : Partway text f (in_parentheses f) (tok RParen) o p [] js) where
  pub unclosed_list : one_of_kinds (RParen ∷ []) p.token.kind ≡ false → Underived text (at Params f) o.prev_token_end
  unfolding covers apart
  unclosed_list n = no_params f (part_path_fails x (fails_at x.at (tok RParen) (RParen ∷ []) refl n))

  module _ {q : Parser} (k : p.token.kind ≡ RParen) (m : Moved text f p q) where
    whole_list : Partway text f (in_parentheses f) nothing o q [] js
    whole_list = parts x (part_last RParen x.at k (plain_sign RParen x.at k refl refl closing_paren_plain) refl m)

    list_path : Path text f (after (at Params f)) (rule (at Params f)) o nothing q (tree (label_here formal_parameters no_op o q) (whole_list.slots end))
    unfolding rule rule_of
    list_path = noded a (part_path whole_list)

    pub list_answers : {w : Parser} {id : NodeId} (s : Span) → s.start ≡ o.token.span.start → s.end ≡ q.prev_token_end → MadeHere (plain_label node_kind.FormalParameters op_made.None s) js q w id → Numbered text f (at Params f) o w id
    list_answers {w} {id} s b d n =
        let l : plain_label node_kind.FormalParameters op_made.None s ≡ label_here formal_parameters no_op o q = rw (b, d) refl in
        let y : MadeHere (label_here formal_parameters no_op o q) js q w id = subst (λ (v : Label). MadeHere v js q w id) l n in
        let h : HoldsAll q.nodes (length o.nodes) (length q.nodes) js (whole_list.slots end) = whole_list.holds (length o.nodes) end (HoldsAll-none o.nodes (length o.nodes) (length o.nodes) (omega arith)) in
        by_path list_path whole_list.same y.stays (λ u v. refl) refl (node_held y h) (Keeps-trans whole_list.keeps (Keeps-made y.made)) refl (one_lies y)
