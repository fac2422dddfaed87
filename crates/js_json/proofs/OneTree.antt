-- Trees whose labels have words of their own and that have one value are one tree.
use Rattle.std.proofs.Common.{◌≡◌, ℕ, List, codes, refl, ap}
use Rattle.serde_json.specs.Data.{Data, null, number, unsigned, string, object, member, no_members}
use Rattle.js_grammar.specs.Trees.{Label, Slots, end, hole, tree, Tree}
use Rattle.js_grammar.specs.Lines.{kind_text, flag_words}
use Rattle.js_json.specs.Json.{string_or_null, word_of, name_of, raw_of, words_set, list, node_json, slots_json, json_of}
use Rattle.js_json.specs.Laws.{HasWords, HaveWords}
use Rattle.js_json.proofs.Words.{kind_same, op_same, words_same, list_same}
use Rattle.js_json.proofs.Words.{head_same, tail_same, text_same}

-- the members of two objects that are one
record Same (c d t u f g n m o p r q s v k j : Data) : Type 0 where
  pub children : c ≡ d
  pub to : t ≡ u
  pub flags : f ≡ g
  pub op : o ≡ p
  pub from : s ≡ v
  pub kind : k ≡ j

members_same : (c d t u f g n m o p r q s v k j : Data)
    → object (member (codes "children") c (member (codes "end") t (member (codes "flags") f (member (codes "name") n (member (codes "op") o (member (codes "raw") r (member (codes "start") s (member (codes "type") k no_members)))))))) ≡ object (member (codes "children") d (member (codes "end") u (member (codes "flags") g (member (codes "name") m (member (codes "op") p (member (codes "raw") q (member (codes "start") v (member (codes "type") j no_members))))))))
    → Same c d t u f g n m o p r q s v k j
members_same c d t u f g n m o p r q s v k j e = record { children = cc; to = cc; flags = cc; op = cc; from = cc; kind = cc }

number_same : (a b : ℕ) → number (unsigned a) ≡ number (unsigned b) → a ≡ b
number_same a b e = cc

record SameNode (l m : Label) (c d : Data) : Type 0 where
  pub label : l ≡ m
  pub children : c ≡ d

node_same : (a b : List ℕ) (l m : Label) (c d : Data) → HasWords l → HasWords m → node_json a l c ≡ node_json b m d → SameNode l m c d
node_same a b l m c d h k e =
    let s = members_same c d (number (unsigned l.span.to)) (number (unsigned m.span.to)) (list (words_set flag_words l.flags)) (list (words_set flag_words m.flags)) (string_or_null (name_of a l)) (string_or_null (name_of b m)) (string_or_null (word_of l.op)) (string_or_null (word_of m.op)) (string_or_null (raw_of a l)) (string_or_null (raw_of b m)) (number (unsigned l.span.from)) (number (unsigned m.span.from)) (string (kind_text l.kind)) (string (kind_text m.kind)) e in
    let kinds = kind_same l.kind m.kind (text_same (kind_text l.kind) (kind_text m.kind) s.kind) in
    let ops = op_same l.op m.op h.op k.op s.op in
    let flags = words_same l.flags m.flags h.flags k.flags s.flags in
    let from = number_same l.span.from m.span.from s.from in
    let to = number_same l.span.to m.span.to s.to in
    record { label = λ i. record { kind = kinds i; op = ops i; flags = flags i; span = record { from = from i; to = to i } }; children = s.children }

slots_same : (a b : List ℕ) (us vs : Slots) → HaveWords us → HaveWords vs → slots_json a us ≡ slots_json b vs → us ≡ vs
slots_same a b end end h k e = refl
slots_same a b end (hole vs) h k e = absurd (let q = e in cc)
slots_same a b end (tree m ds vs) h k e = absurd (let q = e in cc)
slots_same a b (hole us) end h k e = absurd (let q = e in cc)
slots_same a b (hole us) (hole vs) h k e = ap hole (slots_same a b us vs h k (tail_same null null (slots_json a us) (slots_json b vs) e))
slots_same a b (hole us) (tree m ds vs) h k e = absurd (let q = head_same null (node_json b m (list (slots_json b ds))) (slots_json a us) (slots_json b vs) e in cc)
slots_same a b (tree l cs us) end h k e = absurd (let q = e in cc)
slots_same a b (tree l cs us) (hole vs) h k e = absurd (let q = head_same (node_json a l (list (slots_json a cs))) null (slots_json a us) (slots_json b vs) e in cc)
slots_same a b (tree l cs us) (tree m ds vs) h k e =
    let n = node_same a b l m (list (slots_json a cs)) (list (slots_json b ds)) h.0 k.0 (head_same (node_json a l (list (slots_json a cs))) (node_json b m (list (slots_json b ds))) (slots_json a us) (slots_json b vs) e) in
    let inner = slots_same a b cs ds h.1 k.1 (list_same (slots_json a cs) (slots_json b ds) n.children) in
    let behind = slots_same a b us vs h.2 k.2 (tail_same (node_json a l (list (slots_json a cs))) (node_json b m (list (slots_json b ds))) (slots_json a us) (slots_json b vs) e) in
    let label = n.label in
    λ i. tree (label i) (inner i) (behind i)

pub worded : (t u : Tree) (a b : List ℕ) → HaveWords (tree t.label t.slots end) → HaveWords (tree u.label u.slots end) → json_of a t ≡ json_of b u → t ≡ u
worded t u a b h k e =
    let n = node_same a b t.label u.label (list (slots_json a t.slots)) (list (slots_json b u.slots)) h.0 k.0 e in
    let inner = slots_same a b t.slots u.slots h.1 k.1 (list_same (slots_json a t.slots) (slots_json b u.slots) n.children) in
    let label = n.label in
    λ i. record { label = label i; slots = inner i }
