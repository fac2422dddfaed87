-- Calls of V8, from what their name and their arguments answer.
use Rattle.std.proofs.Common.{ℕ, ◌≡◌, ◌≤◌, List, length, Bool, true, false, refl, ap, subst, arith, ◌∙◌}
use Rattle.js_base.specs.declared.diagnostic.Diagnostic.{Diagnostic}
use Rattle.js_base.specs.declared.kind.Kind.TheVariants.{Percent, LParen}
use Rattle.js_grammar.specs.Trees.{Slots, end, tree, no_op, v8_intrinsic_expression}
use Rattle.js_grammar.specs.Grammar.{seq, such, nothing}
use Rattle.js_grammar.specs.Parsing.{plain, full, always, Fails}
use Rattle.js_grammar.specs.Productions.{G, Flags, at, tok, Primary, IdentifierName}
use Rattle.js_grammar.specs.Table.{rule, rule_of}
use Rattle.js_grammar.specs.Follow.{after}
use Rattle.js_grammar.proofs.Looks.{covers}
use Rattle.js_grammar.proofs.Calculus.{◌▹✗◌, inside_full, where_true, fails_node, fails_under, fails_when, weaken_fails}
use Rattle.js_grammar.proofs.FirstClaims.{firsts}
use Rattle.js_grammar.proofs.FirstRules.{fails_here, fails_part}
use Rattle.laws_shared.proofs.Signs.{none_seen, NoneIs}
use Rattle.js_grammar.proofs.FollowLaws.{fails_by}
use Rattle.laws_shared.specs.js_tree.declared.id.NodeId.{NodeId}
use Rattle.laws_shared.specs.js_tree.declared.kind.NodeKind.TheVariants as node
use Rattle.laws_shared.specs.js_tree.Nodes.{Node}
use Rattle.laws_shared.specs.js_tree.Holding.{Holds, Keeps}
use Rattle.laws_shared.proofs.js_tree.HoldingLemmas.{HoldsAll-one, Keeps-trans, Keeps-made}
use Rattle.laws_shared.specs.js_cursor.Parsers.{Parser}
use Rattle.laws_shared.specs.js_cursor.declared.stop.Stop.{Stop}
use Rattle.laws_shared.specs.Lexemes.{Lex}
use Rattle.laws_shared.specs.States.{At, Same}
use Rattle.laws_shared.specs.Moves.{Moved}
use Rattle.laws_shared.specs.Nesting.{room}
use Rattle.laws_shared.specs.Answers.{Grown, Underived, Numbered, Outcome}
use Rattle.laws_shared.specs.Arguments.{item_of, list_of}
use Rattle.laws_shared.specs.Stands.{StandsHere}
use Rattle.laws_primary.specs.Members.{WithArguments, MakesWithArguments}
use Rattle.laws_shared.proofs.Signs.{plain_sign}
use Rattle.laws_shared.proofs.MadeNodes.{node_held, one_lies}
use Rattle.laws_shared.proofs.Signs.{stands_not}
use Rattle.laws_shared.proofs.Parts.{part_path}
use Rattle.laws_shared.proofs.Moving.{same_both, stops_behind}
use Rattle.laws_shared.proofs.Nesting.{nested_room, later_room}
use Rattle.laws_primary.proofs.Operands.{by_path, behind_primary}
use Rattle.laws_shared.proofs.Paths.{Path, ◌⟼◌, ◌⟶◌, ◌⟶✗◌, at_kind, token, called, noded, label_here}
use Rattle.laws_shared.proofs.Verdicts.{grown_then}
use Rattle.laws_shared.proofs.Verdicts.{after as grown_behind}
use Rattle.laws_shared.proofs.PlainSigns.{percent_plain}
use Rattle.std.specs.Prelude.{Result, Ok, Err}

abbrev name_and_list : Flags → G
name_and_list f = seq (such (at IdentifierName f) always) (list_of (item_of false f))

abbrev v8_call : Flags → G
v8_call f = seq (tok Percent) (name_and_list f)

pub v8_option : {text : List ℕ} {f : Flags} {p : Parser} {b : Bool} → At text f p → b ≡ p.options.allow_v8_intrinsics → b ≡ f.v8
v8_option a e = e ∙ ap (λ (g : Flags). g.v8) a.flags_are

module _ {text : List ℕ} {f : Flags} {p : Parser} (a : At text f p) (k : p.token.kind ≡ Percent) where
  -- where they aren't read
  pub no_v8 : f.v8 ≡ false → Underived text (at Primary f) p.prev_token_end
  unfolding rule rule_of covers
  no_v8 h = fails_by (at_kind a Percent k refl ▹✗ fails_when h)

  v8_fails : Fails rule (Lex text) (plain full) end (v8_call f) p.prev_token_end → Underived text (at Primary f) p.prev_token_end
  unfolding rule rule_of covers
  v8_fails z = fails_by (at_kind a Percent k refl ▹✗ fails_under (fails_node inside_full z))

  v8_read : f.v8 ≡ true → {v : Parser} {h : Slots → Slots} → Path text f (plain full) (v8_call f) p nothing v h → Path text f (after (at Primary f)) (rule (at Primary f)) p nothing v (tree (label_here v8_intrinsic_expression no_op p v) (h end))
  unfolding rule rule_of covers
  v8_read o r = at_kind a Percent k refl ⟼ (where_true o ⟼ noded a r)

  module _ {q : Parser} (m : Moved text f p q) where
    sign : {b : G} → Path text f (plain full) (seq (tok Percent) b) p b q (λ us. us)
    sign = token Percent a k (plain_sign Percent a k refl refl percent_plain) refl m

    pub v8_name_fails : Underived text (at IdentifierName f) q.prev_token_end → Underived text (at Primary f) p.prev_token_end
    unfolding covers
    v8_name_fails n = v8_fails (sign ⟶✗ part_none n)
      where
        part_none : Underived text (at IdentifierName f) q.prev_token_end → Fails rule (Lex text) (plain full) end (name_and_list f) q.prev_token_end
        part_none n = fails_part firsts {F' = full} (weaken_fails n (λ ts y e. (refl, refl))) refl

    module _ {r : Parser} {name : NodeId} (x : Numbered text f (at IdentifierName f) q r name) where
      named : Path text f (plain full) (v8_call f) p (list_of (item_of false f)) r (tree x.answer.label x.answer.slots)
      unfolding covers
      named = sign ⟶ called x.answer refl

      pub v8_same : Same p r
      v8_same = same_both m.same x.answer.same

      pub v8_grown : {ds : List Diagnostic} → Grown r.errors ds → Grown p.errors ds
      v8_grown g = grown_then m.kept (grown_behind x.answer.verdict g)

      pub v8_list_fails : Fails rule (Lex text) (plain full) end (list_of (item_of false f)) r.prev_token_end → Underived text (at Primary f) p.prev_token_end
      v8_list_fails n = v8_fails (named ⟶✗ n)

      pub v8_unopened : StandsHere r LParen false → Underived text (at Primary f) p.prev_token_end
      v8_unopened s = v8_list_fails (no_list (stands_not x.answer.at refl s))
        where
          no_list : NoneIs text r.prev_token_end LParen → Fails rule (Lex text) (plain full) end (list_of (item_of false f)) r.prev_token_end
          no_list n = fails_here firsts (none_seen n)

      pub v8_room : room r ≤ room p
      v8_room = let i = later_room (let j = x.answer.further in let d = m.at.behind in omega arith) x.answer.same in let e = nested_room a m in omega arith

      pub v8_start : p.token.span.start ≤ r.prev_token_end
      v8_start = let j = x.answer.further in let d = m.at.behind in let e = m.further in omega arith

      v8_answers : {w : Parser} {id : NodeId} → f.v8 ≡ true → WithArguments node.V8IntrinsicExpression false p.token.span.start name r w id → Numbered text f (at Primary f) p w id
      v8_answers o y =
          let part = y.arguments text f x.answer.at in
          by_path (v8_read o (named ⟶ part_path part)) (same_both m.same (same_both x.answer.same part.same)) y.made.stays (behind_primary f.in_ (label_here v8_intrinsic_expression no_op p y.behind) (tree x.answer.label x.answer.slots (part.slots end)) text y.behind.prev_token_end) refl
          (node_held y.made (part.holds (length p.nodes) (tree x.answer.label x.answer.slots end) (HoldsAll-one name (subst (λ (ns : List Node). Holds r.nodes (length ns) (length r.nodes) name.0 x.answer.label x.answer.slots) m.nodes x.holds))))
          (Keeps-trans (subst (λ (ns : List Node). Keeps ns r.nodes) m.nodes x.keeps) (Keeps-trans part.keeps (Keeps-made y.made.made))) refl (one_lies y.made)

      pub v8_outcome : {start : ℕ} (w : Parser) (t : Result NodeId Stop) → f.v8 ≡ true → start ≡ p.token.span.start → MakesWithArguments node.V8IntrinsicExpression false start name r w t → Outcome text f (at Primary f) p w t
      v8_outcome w (Ok id) o e y = v8_answers o (subst (λ (v : ℕ). WithArguments node.V8IntrinsicExpression false v name r w id) e y)
      v8_outcome w (Err i) o e y = stops_behind w i v8_same (λ g. v8_grown g) (λ n. v8_list_fails n) (y text f x.answer.at)
