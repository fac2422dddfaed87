-- The first property of an object literal that was read is what the call for a property requires.
use Rattle.std.proofs.Common.{ℕ, ◌≡◌, true, List, Option, Some, None, refl, sym, ap, subst, ◌∙◌}
use Rattle.std.specs.Prelude.{get_or, IsUtf8, IsCharBoundary}
use Rattle.std.proofs.lemmas.Bool.{false≢true}
use Rattle.js_grammar.specs.Grammar.{Lexemes, Look, lexeme, nothing, Takes, is_lexeme, is_seq, is_left, is_right, is_nothing, is_commas, is_such, is_node}
use Rattle.js_grammar.specs.Lexed.{Lexes}
use Rattle.js_grammar.specs.LexicalFaults.{Reached}
use Rattle.js_grammar.specs.Productions.{Flags, at, plus_in, Assignment, Object, Property}
use Rattle.js_grammar.specs.Table.{rule, rule_of}
use Rattle.js_grammar.specs.Trees.{NodeKind, Label, Slots, Tree, end, tree, object_expression}
use Rattle.js_grammar.specs.CoverInitialisers.{is_property}
use Rattle.js_tree.specs.Holding.{AreDistinct, AreWithin, Holds, Stands, stands, StandsAll, no_slots, next_child, next_hole}
use Rattle.js_tree.specs.Labels.{kind_of}
use Rattle.js_tree.specs.Nodes.{Node, empty_program, node_at}
use Rattle.js_tree.specs.declared.id.NodeId.{NodeId}
use Rattle.js_tree.specs.declared.kind.NodeKind.TheVariants as made
use Rattle.js_tree.proofs.HoldingLemmas.{AreWithin-left}
use Rattle.js_cursor.specs.Parsers.{Parser}
use Rattle.js_cursor.proofs.Moving.{reached_next}
use Rattle.parse_shared.specs.laws_shared.Lexemes.{Lex}
use Rattle.parse_targets.specs.Targets.{is_object, is_literal}
use Rattle.parse_targets.proofs.LiteralsAsTargets.{lexeme_between}
use Rattle.parse_targets.proofs.ReusedNodes.{distinct_left}
use Rattle.parse_targets.proofs.Targets.{Literal, of_array, of_object, array_line, by_braces, by_primary, literal_shape, may_literal, of_assignment}
use Rattle.parse_targets.specs.Covered.{AnyLabel, IsProperty, OnlyTree, ReadBefore, an_expression}
use Rattle.test_rows.proofs.WasRead.{held_kind, inside}

-- ---- the node

-- The first child stands for the first of the slots.
record Held (ns : List Node) (lo hi : ℕ) (child : NodeId) (cs : Slots) : Type 0 where
  label : Label
  slots : Slots
  more : Slots
  is : cs ≡ tree label slots more
  holds : Holds ns lo hi child.0 label slots

first_of_all : {ns : List Node} {below : ℕ} {ids : List (Option NodeId)} {cs : Slots} {rs : List ℕ} (lo hi : ℕ) (child : NodeId) → StandsAll ns below ids cs rs → AreWithin lo hi rs → AreDistinct rs → get_or ids 0 None ≡ Some child → Held ns lo hi child cs
first_of_all lo hi child no_slots w d e = absurd (cc)
first_of_all lo hi child (next_hole a) w d e = absurd (cc)
first_of_all {ns} lo hi child (next_child {id = id} {l = l} {cs = cs} {us = us} {rs = rs} {ss = ss} h s a) w d e =
    let i : id ≡ child = cc in
    record {
      label = l;
      slots = cs;
      more = us;
      is = refl;
      holds = subst (λ (c : NodeId). Holds ns lo hi c.0 l cs) i (record { numbers = rs; stands = s; within = AreWithin-left lo hi rs ss w; distinct = distinct_left rs ss d });
    }

first_held : {ns : List Node} {lo hi id : ℕ} {l : Label} {cs : Slots} {rs : List ℕ} (child : NodeId) → Stands ns id l cs rs → AreWithin lo hi rs → AreDistinct rs → get_or (get_or ns id empty_program).children 0 None ≡ Some child → Held ns lo hi child cs
first_held {lo = lo} {hi = hi} child (stands n h a) w d e = first_of_all lo hi child a w.2 d.1 e

-- ---- the tree

-- the first tree of slots; another one where none is
first_tree : Slots → Tree → Tree
first_tree (tree l cs us) t = record { label = l; slots = cs }
first_tree _ t = t

-- The only tree over the lexemes of a property.
record Alone (text : List ℕ) (f : Flags) (m : Label) (ds : Slots) : Type 0 where
  place : ℕ
  lexemes : Lexemes
  behind : ℕ
  rest : Lexemes
  only : OnlyTree text (at Property f) (record { label = m; slots = ds }) place lexemes behind rest

stays : {ks ts us : Slots} {i j : ℕ} {ls rest : Lexemes} → Takes rule nothing ks ts i ls us j rest → ts ≡ us
stays is_nothing = refl

passes : {p : Look} {ks ts us : Slots} {i j : ℕ} {ls rest : Lexemes} → Takes rule (lexeme p) ks ts i ls us j rest → ts ≡ us
passes (is_lexeme q) = refl

first_alone : {text : List ℕ} (f : Flags) {l m : Label} {ds us : Slots} {i j : ℕ} {ls rest : Lexemes} → IsUtf8 text → Reached text i → IsCharBoundary text i → Lexes (Lex text) i ls → Takes rule (rule (at Object f)) end (tree l (tree m ds us) end) i ls end j rest → ((t : Tree) → Takes rule (rule (at Object f)) end (tree t.label t.slots end) i ls end j rest → t ≡ record { label = l; slots = tree m ds us }) → Alone text f m ds
unfolding rule rule_of first_tree
first_alone f {l = l} {us = us} u r b x (is_node (is_seq (is_lexeme {x = y} {ls = more} p) (is_seq (is_left (is_commas (is_seq (is_such {j = k} {rest = mid} d h) e))) (is_lexeme q)))) only = record {
  place = y.to;
  lexemes = more;
  behind = k;
  rest = mid;
  only = record {
    utf8 = u;
    reached = reached_next r x.0.0;
    between = (lexeme_between u b x.0).1;
    lexed = x.1;
    derived = d;
    only = λ v g. ap (λ (t : Tree). first_tree t.slots v) (only (record { label = l; slots = tree v.label v.slots us }) (is_node (is_seq (is_lexeme p) (is_seq (is_left (is_commas (is_seq (is_such g refl) e))) (is_lexeme q)))));
  };
}
first_alone f {m = m} {ds = ds} {us = us} u r b x (is_node (is_seq (is_lexeme p) (is_seq (is_right n) q))) only = absurd (let e : tree m ds us ≡ end = stays n ∙ passes q in cc)

object_kind : (k : NodeKind) → is_object k ≡ true → k ≡ object_expression
object_kind object_expression h = refl
object_kind _ h = absurd (false≢true h)

object_literal : (l : Label) → is_object l.kind ≡ true → is_literal l.kind ≡ true
object_literal l h = subst (λ (k : NodeKind). is_literal k ≡ true) (sym (object_kind l.kind h)) refl

no_array : (f : Flags) {l : Label} {cs : Slots} {i j : ℕ} {ls rest : Lexemes} → is_object l.kind ≡ true → Takes rule (array_line f) end (tree l cs end) i ls end j rest → ⊥
no_array f h (is_node d) = false≢true h

as_object : (f : Flags) {l : Label} {cs : Slots} {i j : ℕ} {ls rest : Lexemes} → is_object l.kind ≡ true → Takes rule (rule (at Assignment f)) end (tree l cs end) i ls end j rest → Takes rule (rule (at Object f)) end (tree l cs end) i ls end j rest
as_object f {l} {cs} {i} {j} {ls} {rest} h d = go (let k = object_literal l h in literal_shape k ((of_assignment f).down (may_literal l.kind k) (is_such d refl)))
  where
    go : Literal f l cs i ls j rest → Takes rule (rule (at Object f)) end (tree l cs end) i ls end j rest
    go (of_array a) = absurd (no_array f h a)
    go (of_object o) = o

pub property_read : {q : Parser} {id child : NodeId} → ReadBefore an_expression AnyLabel q id → is_object (kind_of (node_at q.nodes id).kind) ≡ true → Some child ≡ get_or (node_at q.nodes id).children 0 None → (node_at q.nodes child).kind ≡ made.ObjectProperty → ReadBefore (at Property) IsProperty q child
property_read {q} {id} {child} z o e k =
    let x = z.read in
    let f = plus_in z.flags in
    let c = first_held child x.holds.stands x.holds.within x.holds.distinct (sym e) in
    let h : is_object x.label.kind ≡ true = ap is_object (held_kind x.holds.stands) ∙ o in
    let d = subst (λ (cs : Slots). Takes rule (rule (at Object f)) end (tree x.label cs end) x.place x.lexemes end x.behind x.rest) c.is (as_object f h x.only.derived) in
    let y = first_alone f x.only.utf8 x.only.reached x.only.between x.only.lexed d (λ t g. x.only.only t (inside ((of_assignment f).up (by_primary (by_braces f g)))) ∙ ap (λ (cs : Slots). record { label = x.label; slots = cs }) c.is) in
    record {
      flags = f;
      cover = z.cover;
      wide = z.wide;
      read = record {
        lo = x.lo;
        hi = x.hi;
        label = c.label;
        slots = c.slots;
        holds = c.holds;
        place = y.place;
        lexemes = y.lexemes;
        behind = y.behind;
        rest = y.rest;
        only = y.only;
      };
      is = ap is_property (held_kind c.holds.stands ∙ ap kind_of k);
    }
