-- AwaitExpressions (ECMA-262, 15.8).
use Rattle.std.proofs.Common.{ℕ, ◌≡◌, Bool, true, false, IsTrue, List, [], ◌∷◌, length, Some, refl, sym, ap, subst, ◌∙◌}
use Rattle.js_base.specs.Contexts.{reads_await}
use Rattle.js_base.specs.declared.kind.Kind.TheVariants.{Await}
use Rattle.js_base.specs.declared.span.Span.{Span}
use Rattle.js_base.specs.Kinds.{one_of_kinds}
use Rattle.js_grammar.specs.Trees.{Label, Slots, end, tree, await_expression, no_op}
use Rattle.js_grammar.specs.Grammar.{Lexemes, here, seen, exact, nothing, Takes, is_seq, is_lexeme, is_such, ◌▸◌}
use Rattle.js_grammar.specs.Parsing.{Admits, Goes, still}
use Rattle.js_grammar.specs.Productions.{Flags, at, tok, mk, Unary, Update}
use Rattle.js_grammar.specs.Productions.{sym as symbol}
use Rattle.js_grammar.specs.Table.{rule}
use Rattle.js_grammar.specs.Follow.{follow, after, widest, first_edge}
use Rattle.js_grammar.proofs.Looks.{covers, apart}
use Rattle.js_grammar.proofs.Calculus.{Inside, on_itself, ◌▹◌, ◌▹✗◌, right, where_true, fails_node}
use Rattle.js_grammar.proofs.FollowLaws.{fails_by}
use Rattle.laws_shared.specs.js_tree.declared.id.NodeId.{NodeId}
use Rattle.laws_shared.specs.js_tree.declared.kind.NodeKind.TheVariants as node
use Rattle.laws_shared.specs.js_tree.declared.op.Op.TheVariants as op_made
use Rattle.laws_shared.specs.js_tree.Nodes.{Node}
use Rattle.laws_shared.specs.js_tree.Holding.{Holds, Keeps}
use Rattle.laws_shared.proofs.js_tree.HoldingLemmas.{Keeps-trans, Keeps-made}
use Rattle.laws_shared.specs.js_cursor.Parsers.{Parser}
use Rattle.laws_operators.specs.Exponents.{AwaitsHere}
use Rattle.laws_operators.proofs.Exponents.{no_name_awaits}
use Rattle.laws_shared.specs.Answers.{Underived, Answer, Numbered}
use Rattle.laws_shared.specs.Lexemes.{Lex}
use Rattle.laws_shared.specs.Moves.{Moved, MadeHere, plain_label}
use Rattle.laws_shared.specs.Operators.{unary_kinds}
use Rattle.laws_shared.specs.States.{At}
use Rattle.laws_shared.proofs.MadeNodes.{one_held, one_lies}
use Rattle.laws_shared.proofs.Moving.{same_both}
use Rattle.laws_shared.proofs.NamedFirsts.{fails_at_await}
use Rattle.laws_shared.proofs.Paths.{Path, ◌⟼◌, ◌⟶◌, ◌⟶✗◌, fails_at, token, last_called, noded_by, label_here}
use Rattle.laws_shared.proofs.Phrases.{unary_choice, unary_part}
use Rattle.laws_patterns.proofs.laws_primary.Operands.{by_path}

-- behind it there stands what stands behind its operand
await_edge : (f : Flags) (s : ℕ) → Inside rule (record { kind = await_expression; op = no_op; flags = 0; extent = exact }) (after (at Unary f)) (after (at Unary f)) end (tok Await ▸ symbol Unary f) s
await_edge f s = record { ends = λ p cs vs j ls mid d e. go cs d e }
  where
    go : (cs : Slots) {i j : ℕ} {ls mid : Lexemes} → Takes rule (tok Await ▸ symbol Unary f) end cs i ls end j mid → IsTrue (seen (widest Unary) (here mid)) × IsTrue (seen (follow (at Unary f) (first_edge (tree (record { kind = await_expression; op = no_op; flags = 0; span = record { from = 0; to = 0 } }) cs end))) (here mid)) → Admits (after (at Unary f)) cs (here mid)
    go cs (is_seq (is_lexeme p) (is_such d c)) e = e

module _ {text : List ℕ} {f : Flags} {p q : Parser} (a : At text f p) (k : p.token.kind ≡ Await) (u : f.awaits ≡ true) (n : p.token.escaped ≡ false) (m : Moved text f p q) where
  -- under Await nothing else begins with `await`
  await_only : Goes rule (Lex text) (after (at Unary f)) end (rule (at Unary f)) p.prev_token_end (mk await_expression (tok Await ▸ symbol Unary f)) p.prev_token_end (λ us. us) (still 0)
  unfolding covers apart
  await_only = unary_choice f p.prev_token_end ▹ (right (fails_at_await a f {X = after (at Unary f)} (λ g. symbol Update g) refl refl k (no_name_awaits a u)) ▹ (right (fails_at a {X = after (at Unary f)} (unary_part f) unary_kinds refl (ap (one_of_kinds unary_kinds) k)) ▹ where_true u))

  await_path : {r : Parser} → (x : Answer text f (at Unary f) q r) → Path text f (after (at Unary f)) (rule (at Unary f)) p nothing r (tree (label_here await_expression no_op p r) (tree x.label x.slots end))
  await_path x = await_only ⟼ noded_by a (await_edge f p.prev_token_end) (token Await a k n refl m ⟶ last_called x on_itself)

  pub await_fails : Underived text (at Unary f) q.prev_token_end → Underived text (at Unary f) p.prev_token_end
  await_fails x = fails_by (await_only ▹✗ fails_node (await_edge f p.prev_token_end) (token Await a k n refl m ⟶✗ x))

  pub await_answers : {r w : Parser} {id arg : NodeId} (s : Span) → (x : Numbered text f (at Unary f) q r arg) → s.start ≡ p.token.span.start → s.end ≡ r.prev_token_end → MadeHere (plain_label node.AwaitExpression op_made.None s) (Some arg ∷ []) r w id → Numbered text f (at Unary f) p w id
  await_answers {r} {w} {id} {arg} s x b c d =
      let l : plain_label node.AwaitExpression op_made.None s ≡ label_here await_expression no_op p r = rw (b, c) refl in
      let made : MadeHere (label_here await_expression no_op p r) (Some arg ∷ []) r w id = subst (λ (v : Label). MadeHere v (Some arg ∷ []) r w id) l d in
      let ks : Keeps p.nodes r.nodes = subst (λ (ns : List Node). Keeps ns r.nodes) m.nodes x.keeps in
      by_path (await_path x.answer) (same_both m.same x.answer.same) made.stays x.answer.stops x.answer.row (one_held p.nodes made (subst (λ (ns : List Node). Holds r.nodes (length ns) (length r.nodes) arg.0 x.answer.label x.answer.slots) m.nodes x.holds)) (Keeps-trans ks (Keeps-made made.made)) refl (one_lies made)

-- where no AwaitExpression begins, `await` is no operator
pub not_awaiting : {text : List ℕ} {f : Flags} {p : Parser} → At text f p → (AwaitsHere p → ⊥) → p.token.kind ≡ Await → f.awaits ≡ false
not_awaiting {f = f} {p = p} a n k = go (reads_await p.ctx) refl
  where
    go : (b : Bool) → reads_await p.ctx ≡ b → f.awaits ≡ false
    go true h = absurd (n (record { kind = k; awaits = h }))
    go false h = sym (ap (λ (g : Flags). g.awaits) a.flags_are) ∙ h

pub awaits_at : {text : List ℕ} {f : Flags} {p : Parser} → At text f p → reads_await p.ctx ≡ true → f.awaits ≡ true
awaits_at a h = sym (ap (λ (g : Flags). g.awaits) a.flags_are) ∙ h
