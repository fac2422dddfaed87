-- What stands behind the one parameter of a setter (ECMA-262, 15.4), where a comma does: it is told, and nothing is derived.
use Rattle.std.proofs.Common.{ℕ, ◌≡◌, List, [], ◌∷◌, ◌++◌, length, Option, Some, false, IsCharBoundary, refl, sym, ap, subst, arith, ◌∙◌}
use Rattle.js_base.specs.declared.diagnostic.Diagnostic.{Diagnostic}
use Rattle.js_base.specs.declared.diagnostic.DiagnosticKind.TheVariants.{SetterWithParameters}
use Rattle.js_base.specs.declared.kind.Kind.TheVariants.{Comma, RParen}
use Rattle.js_base.specs.declared.source_type.SourceType.{SourceType}
use Rattle.js_base.specs.declared.span.Span.{Span}
use Rattle.js_base.specs.Diagnostics.{class_of}
use Rattle.js_base.specs.Kinds.{one_of_kinds}
use Rattle.js_grammar.specs.Trees.{Label, Slots, end, tree, append, no_op, formal_parameters}
use Rattle.js_grammar.specs.Grammar.{next, nothing}
use Rattle.js_grammar.specs.LexicalFaults.{Reached}
use Rattle.js_grammar.specs.Marks.{EdgeOf, Mark}
use Rattle.js_grammar.specs.Parsing.{plain, full, Fails}
use Rattle.js_grammar.specs.Productions.{Flags, tok}
use Rattle.js_grammar.specs.Table.{rule}
use Rattle.js_grammar.proofs.Looks.{covers, apart}
use Rattle.js_grammar.proofs.Calculus.{fails_node, inside_full}
use Rattle.laws_shared.specs.js_lex.States.{goal_of}
use Rattle.laws_shared.specs.js_tree.declared.id.NodeId.{NodeId}
use Rattle.laws_shared.specs.js_tree.declared.kind.NodeKind.TheVariants as node_kind
use Rattle.laws_shared.specs.js_tree.declared.op.Op.TheVariants as op_made
use Rattle.laws_shared.specs.js_tree.Nodes.{Node}
use Rattle.laws_shared.specs.js_tree.Holding.{HoldsAll, Keeps}
use Rattle.laws_shared.proofs.js_tree.HoldingLemmas.{HoldsAll-none, Keeps-made, Keeps-trans}
use Rattle.laws_shared.specs.js_cursor.Moves.{KeepsDiagnostic}
use Rattle.laws_shared.specs.js_cursor.Parsers.{Parser}
use Rattle.laws_shared.specs.js_cursor.Places.{goal}
use Rattle.laws_shared.specs.js_cursor.declared.stop.Stop.{Stop}
use Rattle.laws_primary.proofs.Wholes.{whole_answers}
use Rattle.laws_shared.specs.declared.nested.MethodForm.TheVariants.{Setter}
use Rattle.laws_shared.specs.Answers.{Grown, Stops, unclean}
use Rattle.laws_shared.specs.Arguments.{Partway}
use Rattle.laws_shared.specs.Classes.{IsEarly}
use Rattle.laws_shared.specs.Lexemes.{Lex, spot}
use Rattle.laws_shared.specs.Lists.{NoneLeft, OneMore}
use Rattle.laws_shared.specs.Methods.{WholeTaken, parameters_of}
use Rattle.laws_shared.specs.Moves.{MadeHere, Moved, plain_label}
use Rattle.laws_shared.specs.States.{At, Same}
use Rattle.laws_shared.specs.Told.{unrelated_at}
use Rattle.laws_shared.proofs.Edges.{last_edge}
use Rattle.laws_shared.proofs.Giving.{kept_one}
use Rattle.laws_shared.proofs.MadeNodes.{node_held, one_lies}
use Rattle.laws_shared.proofs.Moving.{same_both, stops_behind}
use Rattle.laws_shared.proofs.Parts.{part_path_fails}
use Rattle.laws_shared.proofs.Paths.{Path, fails_at, label_here, walked_both, walked_one, walked_to}
use Rattle.laws_shared.proofs.Told.{told_at, told_same}
use Rattle.laws_shared.proofs.Verdicts.{grown_then}
use Rattle.laws_shared.proofs.Verdicts.{after as grown_behind}
use Rattle.laws_patterns.specs.Accessors.{one_parameter}
use Rattle.laws_patterns.specs.Bindings.{RestBegins}
use Rattle.laws_patterns.specs.Parameters.{parameters_left}
use Rattle.laws_patterns.proofs.ParameterLists.{behind_children}

-- ---- what is told, and where it stands

-- the first parameter is the first child
pub behind_first : {text : List ℕ} {f : Flags} {q r : Parser} {none ids js : List (Option NodeId)} {parameter : NodeId} → none ≡ [] → ids ≡ none ++ Some parameter ∷ [] → OneMore text f (parameters_left f) (tok RParen) q r ids js → OneMore text f (parameters_left f) (tok RParen) q r (Some parameter ∷ []) js
behind_first {parameter = parameter} e i y = behind_children (i ∙ ap (λ (ns : List (Option NodeId)). ns ++ Some parameter ∷ []) e) y

pub further_early : {d : Diagnostic} (s : Span) → d ≡ unrelated_at SetterWithParameters s → IsEarly d
further_early s e = ap (λ (v : Diagnostic). class_of v.kind) e

module _ {text : List ℕ} {f : Flags} {p q r s : Parser} {ids js : List (Option NodeId)} (a : At text f p) (m : Moved text f p q) (y : OneMore text f (parameters_left f) (tok RParen) q r ids js) (c : Moved text f r s) where
  same_closed : Same p s
  same_closed = same_both m.same (same_both y.same c.same)

  closing_edge : EdgeOf (goal s) s.text s.prev_token_end
  closing_edge = subst (λ (t : List ℕ). EdgeOf (goal s) t s.prev_token_end) (sym c.at.text_is) (last_edge (walked_one c) (subst (λ (t : List ℕ). Reached t r.prev_token_end) y.at.text_is y.at.at.reached) (let b = y.at.behind in let d = c.further in omega arith))

  -- from where the parentheses begin up to where they end
  pub further_marked : {start : ℕ} {d : Diagnostic} (v : Span) → d ≡ unrelated_at SetterWithParameters v → RestBegins start p → v.start ≡ start → v.end ≡ s.prev_token_end → Mark (goal s) s.text d
  further_marked {start} {d} v e b i j = subst (λ (u : Diagnostic). Mark (goal s) s.text u) (sym e) it
    where
      it : Mark (goal s) s.text (unrelated_at SetterWithParameters v)
      it = record {
        ordered = let g = b.before in let h = a.behind in let k = m.further in let l = y.forward in let n = y.at.behind in let o = c.further in omega arith;
        within = let z = c.at.at.between.0 in omega arith;
        begins_between = subst (λ (u : ℕ). IsCharBoundary s.text u) (sym i) (subst (λ (t : List ℕ). IsCharBoundary t start) (sym same_closed.follows.text) b.between);
        ends_between = subst (λ (u : ℕ). IsCharBoundary s.text u) (sym j) c.at.at.between;
        stands = (
          (
            subst (λ (u : ℕ). EdgeOf (goal s) s.text u) (sym i) (subst (λ (t : List ℕ). EdgeOf (goal s) t start) (sym same_closed.follows.text) (subst (λ (u : SourceType). EdgeOf (goal_of u) p.text start) (sym same_closed.follows.source_type) b.edge)),
            subst (λ (u : ℕ). EdgeOf (goal s) s.text u) (sym j) closing_edge,
          ),
          (refl, refl),
        );
      }

-- ---- what is answered

module _ {text : List ℕ} {f : Flags} {o p : Parser} {parameter : NodeId} (a : At text f o) (x : Partway text f (one_parameter f) (tok RParen) o p [] (Some parameter ∷ [])) (k : p.token.kind ≡ Comma) where
  -- `)` is due
  not_one : Fails rule (Lex text) (plain full) end (parameters_of Setter f) o.prev_token_end
  unfolding covers apart
  not_one = fails_node inside_full (part_path_fails x (fails_at x.at (tok RParen) (RParen ∷ []) refl (ap (one_of_kinds (RParen ∷ [])) k)))

  module _ {q : Parser} (m : Moved text f p q) where
    pub further_stops : (w : Parser) (e : Stop) → Stops q w e (NoneLeft text (parameters_left f) q.prev_token_end) → Stops o w e (Fails rule (Lex text) (plain full) end (parameters_of Setter f) o.prev_token_end)
    further_stops w e z = stops_behind w e (same_both x.same m.same) (λ g. grown_behind x.verdict (grown_then m.kept g)) (λ n. not_one) z

    module _ {r : Parser} {js : List (Option NodeId)} (y : OneMore text f (parameters_left f) (tok RParen) q r (Some parameter ∷ []) js) where
      pub unclosed_further : (w : Parser) (e : Stop) → Stops r w e (one_of_kinds (RParen ∷ []) r.token.kind ≡ false) → Stops o w e (Fails rule (Lex text) (plain full) end (parameters_of Setter f) o.prev_token_end)
      unclosed_further w e z = stops_behind w e (same_both x.same (same_both m.same y.same)) (λ g. grown_behind x.verdict (grown_then m.kept (grown_behind y.verdict g))) (λ n. not_one) z

      module _ {s t : Parser} {d : Diagnostic} (c : Moved text f r s) (told : KeepsDiagnostic d s t) (early : IsEarly d) where
        same : Same o t
        same = same_both x.same (same_both (same_closed x.at m y c) (told_same told early))

        told_place : t.prev_token_end ≡ s.prev_token_end
        told_place = ap (λ (z : Parser). z.prev_token_end) told.is

        told_nodes : t.nodes ≡ r.nodes
        told_nodes = ap (λ (z : Parser). z.nodes) told.is ∙ c.nodes

        grown : Grown o.errors t.errors
        grown = grown_behind x.verdict (grown_then m.kept (grown_behind y.verdict (grown_then c.kept (kept_one told))))

        abbrev slots : Slots
        slots = append (x.slots end) (y.slots end)

        told_path : Path text f (plain full) (parameters_of Setter f) o nothing t (tree (label_here formal_parameters no_op o t) slots)
        told_path = record {
          at = told_at told c.at;
          further = let g = x.further in let h = x.at.behind in let i = m.further in let j = m.at.behind in let l = y.forward in let n = y.at.behind in let u = c.further in let v = told_place in omega arith;
          pass = λ ls. x.pass (next m.lexeme (y.pass (next c.lexeme ls)));
          walked = walked_to (sym (ap (λ (z : Parser). spot z) told.is)) (walked_both x.walked (walked_both (walked_one m) (walked_both y.walked (walked_one c))));
          verdict = unclean grown not_one;
        }

        held : HoldsAll t.nodes (length o.nodes) (length t.nodes) js slots
        held =
            let h : HoldsAll p.nodes (length o.nodes) (length p.nodes) (Some parameter ∷ []) (x.slots end) = x.holds (length o.nodes) end (HoldsAll-none o.nodes (length o.nodes) (length o.nodes) (omega arith)) in
            let i : HoldsAll q.nodes (length o.nodes) (length q.nodes) (Some parameter ∷ []) (x.slots end) = subst (λ (ns : List Node). HoldsAll ns (length o.nodes) (length ns) (Some parameter ∷ []) (x.slots end)) (sym m.nodes) h in
            subst (λ (ns : List Node). HoldsAll ns (length o.nodes) (length ns) js slots) (sym told_nodes) (y.holds (length o.nodes) (x.slots end) i)

        kept : Keeps o.nodes t.nodes
        kept = subst (λ (ns : List Node). Keeps o.nodes ns) (sym told_nodes) (Keeps-trans x.keeps (subst (λ (ns : List Node). Keeps ns r.nodes) m.nodes y.keeps))

        pub further_taken : {w : Parser} {id : NodeId} (v : Span) → v.start ≡ o.token.span.start → v.end ≡ s.prev_token_end → MadeHere (plain_label node_kind.FormalParameters op_made.None v) js t w id → WholeTaken text f (parameters_of Setter f) o w id
        further_taken {w} {id} v b i n =
            let e : v.end ≡ t.prev_token_end = i ∙ sym told_place in
            let l : plain_label node_kind.FormalParameters op_made.None v ≡ label_here formal_parameters no_op o t = rw (b, e) refl in
            let made : MadeHere (label_here formal_parameters no_op o t) js t w id = subst (λ (u : Label). MadeHere u js t w id) l n in
            whole_answers same made.stays (node_held made held) (Keeps-trans kept (Keeps-made made.made)) refl (one_lies made) told_path
