-- Methods of classes (ECMA-262, 15.4 to 15.8): what stands behind the name.
use Rattle.std.proofs.Common.{ℕ, ◌≡◌, Bool, List, [], ◌∷◌, length, Option, Some, refl, sym, subst, arith}
use Rattle.js_grammar.specs.Trees.{Label, end}
use Rattle.js_grammar.specs.Grammar.{kept, ◌▸◌}
use Rattle.js_grammar.specs.Parsing.{plain, full, Fails}
use Rattle.js_grammar.specs.Productions.{G, Flags, make}
use Rattle.js_grammar.specs.Trees.{method_definition}
use Rattle.js_grammar.specs.Table.{rule}
use Rattle.js_grammar.proofs.Calculus.{fails_node, inside_full, part_fails}
use Rattle.laws_primary.specs.Objects.{method_left}
use Rattle.laws_primary.specs.js_tree.declared.id.NodeId.{NodeId}
use Rattle.laws_primary.specs.laws_shared.declared.nested.MethodForm.{MethodForm}
use Rattle.laws_primary.specs.js_tree.declared.op.MethodKind.{MethodKind}
use Rattle.laws_primary.specs.js_tree.Labels.{method_op_of}
use Rattle.laws_primary.proofs.laws_shared.js_tree.HoldingLemmas.{HoldsAll-none, Keeps-trans, Keeps-made}
use Rattle.laws_primary.specs.js_cursor.Parsers.{Parser}
use Rattle.laws_primary.specs.js_cursor.declared.stop.Stop.{Stop}
use Rattle.laws_primary.specs.laws_shared.Answers.{Stops}
use Rattle.laws_primary.specs.laws_shared.Arguments.{Partway}
use Rattle.laws_primary.specs.laws_shared.Lexemes.{Lex}
use Rattle.laws_primary.specs.laws_shared.Methods.{WholeTaken}
use Rattle.laws_primary.specs.laws_shared.Moves.{MadeHere}
use Rattle.laws_primary.specs.laws_shared.States.{At}
use Rattle.laws_primary.proofs.laws_shared.MadeNodes.{node_held, one_lies}
use Rattle.laws_primary.proofs.laws_shared.Moving.{stops_behind}
use Rattle.laws_primary.proofs.laws_shared.Parts.{part_goes, part_path_fails, parts}
use Rattle.laws_primary.proofs.laws_shared.Paths.{flagged_by, flagged_here}
use Rattle.laws_primary.proofs.laws_shared.Verdicts.{after as grown_behind}
use Rattle.laws_primary.proofs.AsyncWords.{any_between}
use Rattle.laws_primary.proofs.Wholes.{part_under, whole_part}
use Rattle.laws_classes.specs.Elements.{ElementTaken, NoElement}
use Rattle.laws_classes.specs.Methods.{method_label}
use Rattle.laws_classes.proofs.Elements.{element_answers, kept_none}

-- its node, which began there
pub method_made : (first : Parser) {q w : Parser} {ids : List (Option NodeId)} {id : NodeId} {start fl n : ℕ} (k : MethodKind) → start ≡ first.token.span.start → fl ≡ n → MadeHere (method_label k fl start q.prev_token_end) ids q w id → MadeHere (flagged_here method_definition (method_op_of k) n first q) ids q w id
method_made first {q} {w} {ids} {id} k e h m = subst (λ (v : Label). MadeHere v ids q w id) (rw (e, h) refl) m

module _ {text : List ℕ} {f : Flags} {g g' : G} {first p : Parser} {key : NodeId} (a : At text f first) (k : MethodKind) (fl : ℕ) (x : Partway text f g (g' ▸ kept) first p [] (Some key ∷ [])) where
  pub method_stops : (w : Parser) (e : Stop) → Stops p w e (Fails rule (Lex text) (plain full) end g' p.prev_token_end) → Stops first w e (NoElement text (make method_definition (method_op_of k) fl g) first.prev_token_end)
  method_stops w e z = stops_behind w e x.same (λ g. grown_behind x.verdict g) (λ n. fails_node inside_full (part_path_fails x (part_fails n any_between))) z

  pub method_taken : {q w : Parser} {function id : NodeId} → WholeTaken text f g' p q function → MadeHere (flagged_here method_definition (method_op_of k) fl first q) (Some key ∷ Some function ∷ []) q w id → ElementTaken text f (make method_definition (method_op_of k) fl g) first w id
  method_taken {q} {w} {function} {id} y n =
      let z = part_goes (parts x (whole_part y (Some key ∷ []))) kept_none in
      element_answers z.same n.stays (node_held n (z.holds (length first.nodes) end (HoldsAll-none first.nodes (length first.nodes) (length first.nodes) (omega arith)))) (Keeps-trans z.keeps (Keeps-made n.made)) refl (one_lies n) refl (flagged_by a inside_full (part_under z))

-- the form of its parameters, as the code told it
pub form_so : {text : List ℕ} {f : Flags} {g : G} {first p : Parser} {js : List (Option NodeId)} {m n : MethodForm} (b s : Bool) → m ≡ n → Partway text f g (method_left n b s f ▸ kept) first p [] js → Partway text f g (method_left m b s f ▸ kept) first p [] js
form_so {text} {f} {g} {first} {p} {js} b s e x = subst (λ (v : MethodForm). Partway text f g (method_left v b s f ▸ kept) first p [] js) (sym e) x
