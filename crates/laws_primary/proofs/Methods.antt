-- Methods of object literals (ECMA-262, 15.4, 15.5): the function behind a name, and the property that it makes.
use Rattle.std.proofs.Common.{ℕ, ◌≡◌, ◌+◌, Bool, true, false, List, [], ◌∷◌, length, Option, Some, None, refl, sym, ap, subst, arith, ◌∙◌}
use Rattle.js_base.specs.declared.kind.Kind.TheVariants.{Colon, Comma, RParen, RBrack, RCurly}
use Rattle.js_base.specs.Kinds.{one_of_kinds}
use Rattle.js_grammar.specs.Trees.{Label, Op, Slots, end, tree, no_op, init, object_property, function_expression}
use Rattle.js_grammar.specs.Grammar.{Look, here, nothing, empty_slot, ◌▸◌}
use Rattle.js_grammar.specs.Parsing.{plain, full, Fails}
use Rattle.js_grammar.specs.Productions.{G, Flags, at, async_flag, body_of, computed_flag, flag, method_flag, generator_flag, make, params_of, plus_in, Assignment, Body}
use Rattle.js_grammar.specs.Productions.{sym as symbol}
use Rattle.js_grammar.specs.Table.{rule}
use Rattle.js_grammar.proofs.Looks.{covers}
use Rattle.js_grammar.proofs.Calculus.{◌▹✗◌, fails_node, inside_full, inside_plain, part_fails, reads_empty_slot, then_by, weaken_fails, weaken_fails_on}
use Rattle.laws_shared.specs.js_tree.declared.id.NodeId.{NodeId}
use Rattle.laws_shared.specs.js_tree.Nodes.{Node}
use Rattle.laws_shared.specs.js_tree.Holding.{HoldsAll, Keeps}
use Rattle.laws_shared.proofs.js_tree.HoldingLemmas.{HoldsAll-none, HoldsAll-next, Keeps-trans, Keeps-made}
use Rattle.laws_shared.specs.js_cursor.Parsers.{Parser}
use Rattle.laws_shared.specs.js_cursor.declared.stop.Stop.{Stop}
use Rattle.laws_primary.specs.Objects.{flags_of_form, function_label, kind_of_form, method_left, op_of_form, property_label, value_left}
use Rattle.laws_shared.specs.js_tree.declared.op.PropertyKind.{PropertyKind}
use Rattle.laws_shared.specs.js_tree.declared.op.PropertyKind.TheVariants as property
use Rattle.laws_shared.specs.js_tree.Labels.{property_op}
use Rattle.laws_shared.specs.declared.nested.MethodForm.{MethodForm}
use Rattle.laws_shared.specs.declared.nested.MethodForm.TheVariants.{Method, Getter, Setter}
use Rattle.laws_shared.specs.Answers.{Numbered, Stops, Underived}
use Rattle.laws_shared.specs.Arguments.{PartTaken, Partway, behind_item}
use Rattle.laws_shared.specs.Lexemes.{Lex}
use Rattle.laws_shared.specs.Methods.{WholeTaken, parameters_of}
use Rattle.laws_shared.specs.Moves.{Moved, MadeHere}
use Rattle.laws_shared.specs.States.{At, Same}
use Rattle.laws_shared.proofs.MadeNodes.{node_held, one_lies}
use Rattle.laws_shared.proofs.Moving.{same_both, stops_behind}
use Rattle.laws_shared.proofs.Parts.{part_path, part_path_fails, parts}
use Rattle.laws_shared.proofs.Paths.{Path, ◌⟶◌, ◌⟶✗◌, flagged_by, flagged_here, last_called, token}
use Rattle.laws_shared.proofs.Signs.{plain_sign}
use Rattle.laws_shared.proofs.Verdicts.{grown_then}
use Rattle.laws_shared.proofs.Verdicts.{after as grown_behind}
use Rattle.laws_shared.proofs.PlainSigns.{colon_plain}
use Rattle.laws_primary.proofs.Spreads.{ends_there}
use Rattle.laws_primary.proofs.Wholes.{part_answers, part_under, whole_answers, whole_behind_hole, whole_last, whole_of}

-- ---- the function

abbrev pub params : MethodForm → Bool → Bool → Flags → G
params form b s f = parameters_of form (params_of b s f)

-- anything may follow the first part
pub no_first : {text : List ℕ} {a b : G} {s : ℕ} → Fails rule (Lex text) (plain full) end a s → Fails rule (Lex text) (plain full) end (a ▸ b) s
no_first n = part_fails {X' = plain full} n (record { admits = λ ts us vs j k ls mid rest d d' e. (refl, refl) })

-- without parameters
pub no_params : {text : List ℕ} (f : Flags) (form : MethodForm) (b s : Bool) {o : ℕ} → Fails rule (Lex text) (plain full) end (params form b s f) o → Fails rule (Lex text) (plain full) end (method_left form b s f) o
no_params f form b s n = fails_node inside_full (then_by {X = plain full} {X' = plain full} reads_empty_slot (record { admits = λ ts us vs j k ls mid rest d d' e. (refl, refl) }) ▹✗ no_first n)

module _ {text : List ℕ} {f : Flags} (form : MethodForm) (b s : Bool) {p q : Parser} {params_id : NodeId} (x : WholeTaken text f (params form b s f) p q params_id) where
  pub body_stops : (w : Parser) (e : Stop) → Stops q w e (Underived text (at Body (body_of b s f)) q.prev_token_end) → Stops p w e (Fails rule (Lex text) (plain full) end (method_left form b s f) p.prev_token_end)
  body_stops w e z = stops_behind w e x.same (λ g. grown_behind x.verdict g) (λ n. fails_node inside_full (part_path_fails (whole_behind_hole x) (weaken_fails_on n (record { admits = λ ts vs k ls rest d e. (refl, refl) })))) z

  module _ (a : At text f p) {r w : Parser} {body id : NodeId} {start : ℕ} (y : Numbered text f (at Body (body_of b s f)) q r body) (h : start ≡ p.token.span.start) (n : MadeHere (function_label b s start r.prev_token_end) (None ∷ Some params_id ∷ Some body ∷ []) r w id) where
    whole : Partway text f (empty_slot ▸ (params form b s f ▸ symbol Body (body_of b s f))) nothing p r [] (None ∷ Some params_id ∷ Some body ∷ [])
    whole = parts (whole_behind_hole x) (whole_last (whole_of y (record { admits = λ ts vs k ls rest d e. (refl, refl) })) (None ∷ Some params_id ∷ []))

    made : MadeHere (flagged_here function_expression no_op (flag b async_flag + flag s generator_flag) p r) (None ∷ Some params_id ∷ Some body ∷ []) r w id
    made = subst (λ (v : Label). MadeHere v (None ∷ Some params_id ∷ Some body ∷ []) r w id) (rw h refl) n

    pub function_taken : WholeTaken text f (method_left form b s f) p w id
    function_taken = whole_answers whole.same made.stays (node_held made (whole.holds (length p.nodes) end (HoldsAll-none p.nodes (length p.nodes) (length p.nodes) (omega arith)))) (Keeps-trans whole.keeps (Keeps-made made.made)) refl (one_lies made) (flagged_by a inside_full (part_path whole))

-- ---- the property

-- its node, which began there, of a value and of a method
pub value_made : (first : Parser) {q w : Parser} {ids : List (Option NodeId)} {id : NodeId} {start fl : ℕ} (c : Bool) → start ≡ first.token.span.start → fl ≡ flag c computed_flag + flag false method_flag → MadeHere (property_label property.Init fl start q.prev_token_end) ids q w id → MadeHere (flagged_here object_property init (flag c computed_flag) first q) ids q w id
value_made first {q} {w} {ids} {id} {start} {fl} c e h n = subst (λ (v : Label). MadeHere v ids q w id) (rw (e, h ∙ no_more c) refl) n
  where
    no_more : (c : Bool) → flag c computed_flag + flag false method_flag ≡ flag c computed_flag
    no_more true = refl
    no_more false = refl

pub method_made : (first : Parser) {q w : Parser} {ids : List (Option NodeId)} {id : NodeId} {start fl : ℕ} {k : PropertyKind} (form : MethodForm) (c : Bool) → start ≡ first.token.span.start → (fl ≡ flags_of_form form c) × (k ≡ kind_of_form form) → MadeHere (property_label k fl start q.prev_token_end) ids q w id → MadeHere (flagged_here object_property (op_of_form form) (flags_of_form form c) first q) ids q w id
method_made first {q} {w} {ids} {id} {start} {fl} {k} form c e h n = subst (λ (v : Label). MadeHere v ids q w id) (rw (e, h.0, h.1) (ap (λ (o : Op). record { kind = object_property; op = o; flags = flags_of_form form c; span = record { from = first.token.span.start; to = q.prev_token_end } }) (its_op form))) n
  where
    its_op : (form : MethodForm) → property_op (kind_of_form form) ≡ op_of_form form
    its_op Method = refl
    its_op Getter = refl
    its_op Setter = refl

abbrev next_kinds : Look
next_kinds k w e = one_of_kinds (Comma ∷ RParen ∷ RBrack ∷ RCurly ∷ []) k

module _ {text : List ℕ} {f : Flags} {g g' : G} {first p : Parser} {key : NodeId} (a : At text f first) (o : Op) (fl : ℕ) where
  -- with a method
  module _ (x : Partway text f g g' first p [] (Some key ∷ [])) where
    pub method_stops : (w : Parser) (e : Stop) → Stops p w e (Fails rule (Lex text) (plain full) end g' p.prev_token_end) → Stops first w e (Fails rule (Lex text) behind_item end (make object_property o fl g) first.prev_token_end)
    method_stops w e z = stops_behind w e x.same (λ g. grown_behind x.verdict g) (λ n. fails_node inside_full (part_path_fails x n)) z

    pub method_taken : {q w : Parser} {function id : NodeId} → WholeTaken text f g' p q function → MadeHere (flagged_here object_property o fl first q) (Some key ∷ Some function ∷ []) q w id → PartTaken text f (make object_property o fl g) first w id
    method_taken {q} {w} {function} {id} y n =
        let z = parts x (whole_last y (Some key ∷ [])) in
        part_answers z.same n.stays (node_held n (z.holds (length first.nodes) end (HoldsAll-none first.nodes (length first.nodes) (length first.nodes) (omega arith)))) (Keeps-trans z.keeps (Keeps-made n.made)) refl (one_lies n) (flagged_by a inside_full (part_path z))

-- with a value
module _ {text : List ℕ} {f : Flags} {g : G} {first p q : Parser} {key : NodeId} (a : At text f first) (o : Op) (fl : ℕ) (x : Partway text f g (value_left f) first p [] (Some key ∷ [])) (k : p.token.kind ≡ Colon) (m : Moved text f p q) where
  to_value : Path text f behind_item g first (symbol Assignment (plus_in f)) q x.slots
  to_value = part_under x ⟶ token Colon x.at k (plain_sign Colon x.at k refl refl colon_plain) refl m

  pub value_stops : (w : Parser) (e : Stop) → Stops q w e (Underived text (at Assignment (plus_in f)) q.prev_token_end) → Stops first w e (Fails rule (Lex text) behind_item end (make object_property o fl g) first.prev_token_end)
  unfolding covers
  value_stops w e z = stops_behind w e (same_both x.same m.same) (λ g. grown_behind x.verdict (grown_then m.kept g)) (λ n. fails_node (inside_plain {F' = next_kinds} refl) (to_value ⟶✗ weaken_fails n (λ ts y e. ends_there (plus_in f) ts y e))) z

  module _ {r w : Parser} {value id : NodeId} (y : Numbered text f (at Assignment (plus_in f)) q r value) (n : MadeHere (flagged_here object_property o fl first r) (Some key ∷ Some value ∷ []) r w id) where
    value_path : Path text f behind_item (make object_property o fl g) first nothing r (tree (flagged_here object_property o fl first r) (x.slots (tree y.answer.label y.answer.slots end)))
    unfolding covers
    value_path = flagged_by a (inside_plain {F' = next_kinds} refl) (to_value ⟶ last_called y.answer (record { admits = λ ts vs k ls rest d e. ends_there (plus_in f) ts (here rest) e }))

    held : HoldsAll r.nodes (length first.nodes) (length r.nodes) (Some key ∷ Some value ∷ []) (x.slots (tree y.answer.label y.answer.slots end))
    held =
        let h = x.holds (length first.nodes) end (HoldsAll-none first.nodes (length first.nodes) (length first.nodes) (omega arith)) in
        let i : HoldsAll q.nodes (length first.nodes) (length q.nodes) (Some key ∷ []) (x.slots end) = subst (λ (ns : List Node). HoldsAll ns (length first.nodes) (length ns) (Some key ∷ []) (x.slots end)) (sym m.nodes) h in
        subst (λ (us : Slots). HoldsAll r.nodes (length first.nodes) (length r.nodes) (Some key ∷ Some value ∷ []) us) (sym (x.puts (tree y.answer.label y.answer.slots end))) (HoldsAll-next value y.keeps i y.holds)

    same : Same first r
    same = same_both x.same (same_both m.same y.answer.same)

    keeps : Keeps first.nodes r.nodes
    keeps = Keeps-trans x.keeps (subst (λ (ns : List Node). Keeps ns r.nodes) m.nodes y.keeps)

    pub value_taken : PartTaken text f (make object_property o fl g) first w id
    value_taken = part_answers same n.stays (node_held n held) (Keeps-trans keeps (Keeps-made n.made)) refl (one_lies n) value_path
