-- Elements of classes (ECMA-262, 15.7): what stands around a member, and its node.
use Rattle.std.proofs.Common.{ℕ, ◌≡◌, max, Bool, true, false, List, [], ◌∷◌, length, Option, refl, sym, ap, subst, arith}
use Rattle.std.specs.Prelude.{Result, Ok, Err}
use Rattle.js_base.specs.declared.kind.Kind.{Kind}
use Rattle.js_base.specs.declared.kind.Kind.TheVariants.{At as at_sign, Static}
use Rattle.js_base.specs.KindSets.{identifier_name_kinds}
use Rattle.js_base.specs.Kinds.{one_of_kinds}
use Rattle.js_grammar.specs.Trees.{Label, NodeKind, Op, Slots, end, tree}
use Rattle.js_grammar.specs.Grammar.{kept, nothing, ◌▸◌}
use Rattle.js_grammar.specs.Parsing.{Test, plain, full, still, Goes, Fails}
use Rattle.js_grammar.specs.Productions.{G, Flags, make}
use Rattle.js_grammar.specs.Table.{rule}
use Rattle.js_grammar.proofs.Looks.{apart}
use Rattle.js_grammar.proofs.Calculus.{◌▹◌, ◌▹✗◌, done, fails_node, inside_full, part_fails}
use Rattle.laws_primary.specs.js_tree.declared.id.NodeId.{NodeId}
use Rattle.laws_primary.specs.js_tree.Nodes.{Node}
use Rattle.laws_primary.specs.js_tree.Holding.{Holds, Keeps}
use Rattle.laws_primary.specs.js_cursor.Parsers.{Parser}
use Rattle.laws_primary.specs.js_cursor.declared.stop.Stop.{Stop}
use Rattle.laws_primary.specs.laws_shared.Arguments.{Partway}
use Rattle.laws_primary.specs.laws_shared.Lexemes.{Lex}
use Rattle.laws_primary.specs.laws_shared.States.{At, Same, NodesLie}
use Rattle.laws_primary.proofs.laws_shared.MadeNodes.{LabelLies, from_start}
use Rattle.laws_primary.proofs.laws_shared.Moving.{beside_nodes, same_with, stops_so}
use Rattle.laws_primary.proofs.laws_shared.Parts.{part_from, part_sign, parts}
use Rattle.laws_primary.proofs.laws_shared.Paths.{Path, ◌⟶✗◌, token}
use Rattle.laws_primary.proofs.laws_shared.Verdicts.{verdict_of}
use Rattle.laws_primary.proofs.AsyncWords.{any_between, part_within}
pub use Rattle.laws_primary.proofs.Decorators.{kept_none, no_decorator, none_kept}
use Rattle.laws_primary.proofs.Properties.{word_apart}
use Rattle.laws_classes.specs.Elements.{Begun, ElementOutcome, ElementTaken, behind_element, element_slots, is_element}

-- no word is `@`
pub word_no_sign : (k : Kind) → one_of_kinds identifier_name_kinds k ≡ true → one_of_kinds (at_sign ∷ []) k ≡ false
unfolding apart
word_no_sign k w = word_apart (at_sign ∷ []) refl k w

-- ---- a member behind its `static`, or without one

-- where a member begins, its line may be read
pub at_first : {text : List ℕ} {f : Flags} (st : Bool) {first p : Parser} → At text f first → Begun st text f first p → At text f p
at_first {text} {f} false a e = subst (λ (v : Parser). At text f v) (sym e) a
at_first true a (h, m) = m.at

-- no decorator stands before it, where it begins with no `@`
module _ {text : List ℕ} {f : Flags} where
  begun_part : (st : Bool) {first p q : Parser} {g g' : G} {js : List (Option NodeId)} → At text f first → Begun st text f first p → one_of_kinds (at_sign ∷ []) p.token.kind ≡ false → Partway text f (g ▸ kept) g' p q [] js → Partway text f (element_slots st f g) g' first q [] js
  begun_part false {first} {p} {q} {g} {g'} {js} a e u x = subst (λ (v : Parser). Partway text f (element_slots false f g) g' v q [] js) e (part_from (none_kept (no_decorator (at_first false a e) u) ▹ done) x)
  begun_part true a (h, m) u x = part_from (none_kept (no_decorator a (ap (one_of_kinds (at_sign ∷ [])) h.0))) (parts (part_sign Static a h.0 h.1 refl m) x)

  pub element_part : (st : Bool) {first p q : Parser} {g g' : G} {js : List (Option NodeId)} → At text f first → Begun st text f first p → one_of_kinds (at_sign ∷ []) p.token.kind ≡ false → Partway text f g g' p q [] js → Partway text f (element_slots st f g) (g' ▸ kept) first q [] js
  element_part st a b u x = begun_part st a b u (part_within x)

  pub begun_fails : (st : Bool) {X : Test} {first : Parser} (p : Parser) {g : G} → At text f first → Begun st text f first p → one_of_kinds (at_sign ∷ []) p.token.kind ≡ false → Fails rule (Lex text) X end (g ▸ kept) p.prev_token_end → Fails rule (Lex text) X end (element_slots st f g) first.prev_token_end
  begun_fails false {X} {first} p {g} a e u n = subst (λ (v : Parser). Fails rule (Lex text) X end (element_slots false f g) v.prev_token_end) e (none_kept (no_decorator (at_first false a e) u) ▹✗ (done ▹✗ n))
  begun_fails true {X} {first} p {g} a (h, m) u n = none_kept (no_decorator a (ap (one_of_kinds (at_sign ∷ [])) h.0)) ▹✗ (token Static a h.0 h.1 refl m ⟶✗ n)

  -- where the member isn't derived, no element of it is
  pub no_element : (st : Bool) {X : Test} {first : Parser} (p : Parser) {g : G} (k : NodeKind) (o : Op) (fl : ℕ) → At text f first → Begun st text f first p → one_of_kinds (at_sign ∷ []) p.token.kind ≡ false → Fails rule (Lex text) (plain full) end g p.prev_token_end → Fails rule (Lex text) X end (make k o fl (element_slots st f g)) first.prev_token_end
  no_element st p k o fl a b u n = fails_node inside_full (begun_fails st p a b u (part_fails n any_between))

-- ---- the answer

module _ {text : List ℕ} {f : Flags} {g : G} {p q w : Parser} {l : Label} {cs : Slots} {id : NodeId} (b : Same p q) (e : w ≡ record q { nodes = w.nodes }) (h : Holds w.nodes (length p.nodes) (length w.nodes) id.0 l cs) (k : Keeps p.nodes w.nodes) (i : l.span ≡ record { from = p.token.span.start; to = q.prev_token_end }) (m : LabelLies q.text l → NodesLie q.text q.nodes → NodesLie q.text w.nodes) (c : is_element l.kind ≡ true) where
  pub element_answers : Path text f behind_element g p nothing q (tree l cs) → ElementTaken text f g p w id
  element_answers y = go w.nodes e h k m
    where
      go : (ns : List Node) → w ≡ record q { nodes = ns } → Holds w.nodes (length p.nodes) (length w.nodes) id.0 l cs → Keeps p.nodes w.nodes → (LabelLies q.text l → NodesLie q.text q.nodes → NodesLie q.text w.nodes) → ElementTaken text f g p w id
      go ns e h k m = subst (λ (r : Parser). ElementTaken text f g p r id) (sym e) (record {
        at = beside_nodes ns y.at;
        same = same_with ns b (subst (λ (r : Parser). Keeps p.nodes r.nodes) e k) (λ v z. subst (λ (r : Parser). NodesLie q.text r.nodes) e (m (from_start l b y.at.at (let g = y.further in omega arith) i v) z));
        further = y.further;
        label = l;
        element = c;
        slots = cs;
        pass = y.pass;
        walked = y.walked;
        verdict = y.verdict;
        holds = subst (λ (r : Parser). Holds r.nodes (length p.nodes) (length r.nodes) id.0 l cs) e h;
        keeps = subst (λ (r : Parser). Keeps p.nodes r.nodes) e k;
      })

-- a choice that leaves this form
module _ (text : List ℕ) (f : Flags) (p : Parser) where
  pub element_by : {g g' : G} (q : Parser) (r : Result NodeId Stop) → Goes rule (Lex text) behind_element end g p.prev_token_end g' p.prev_token_end (λ us. us) (still 0) → ElementOutcome text f g' p q r → ElementOutcome text f g p q r
  element_by q (Ok id) c x = record { at = x.at; same = x.same; further = x.further; label = x.label; element = x.element; slots = x.slots; pass = x.pass; walked = x.walked; verdict = verdict_of x.verdict (λ y. record { reach = max 0 y.reach; near = let i = y.near in omega arith; goes = c ▹ y.goes }) (λ n. c ▹✗ n); holds = x.holds; keeps = x.keeps }
  element_by q (Err e) c x = stops_so p q e (λ n. c ▹✗ n) x
