-- The labels of valid trees have words of their own: so has each line of the table, but for marks of comments and of parentheses.
use Rattle.std.proofs.Common.{ℕ, ◌≡◌, ◌-◌, ◌<◌, ◌^◌, Bool, true, false, cond, ◌&&◌, List, nat_lt, ltb-true, refl, sym, subst, ap, arith, inl, inr}
use Rattle.std.proofs.lemmas.Bool.{false≢true, and_parts}
use Rattle.js_grammar.specs.Trees.{NodeKind, function_expression, arrow_function_expression, Op, Label, Span, Slots, end, hole, tree, Tree, append}
use Rattle.js_grammar.specs.Grammar.{Make, Lexemes, seq, alt, ahead, when, many, commas, marked, node, ended, keep, Takes, is_nothing, is_lexeme, is_look, is_text, is_ahead, is_empty_slot, is_seq, is_left, is_right, is_when, is_many, is_commas, is_such, is_marked, is_node, is_ended, is_keep, is_kept}
use Rattle.js_grammar.specs.Productions.{Flags, Name, Symbol, G, Program, Item, pure_flag, has_flag, with_pife}
use Rattle.js_grammar.specs.Table.{whole, rule_of, unbuilt_of}
use Rattle.js_grammar.specs.TreeForms.{with_labels, not_pure, is_parenthesized, slots_lack_parens, first_tree}
use Rattle.js_grammar.specs.Options.{Options}
use Rattle.js_grammar.specs.Settings.{Goal}
use Rattle.js_grammar.specs.Readings.{IsWhole, whole_by}
use Rattle.js_grammar.proofs.CoverInitialisers.{line_marked}
use Rattle.js_grammar.proofs.Renamed.{remarked, first_of, second_of, mark_of}
use Rattle.js_json.specs.Laws.{is_own_word, HasWords, HaveWords, IsValidSomewhere, program, unambiguous, expression}

-- ---- roots: no symbol's own node is marked

abbrev Top : Slots → Type 0
Top end = Unit {0}
Top (hole us) = Top us
Top (tree l cs us) = (l.flags < 4096) × Top us

abbrev Bare : G → Type 0
Bare (ahead a) = Bare a
Bare (seq a b) = Bare a × Bare b
Bare (alt a b) = Bare a × Bare b
Bare (when c a) = Bare a
Bare (many a) = Bare a
Bare (commas b a) = Bare a
Bare (marked h n) = ⊥
Bare (node m a) = m.flags < 4096
Bare (ended r a) = Bare a
Bare (keep a b) = Bare a × Bare b
Bare g = Unit {0}

abbrev bare : G → Bool
bare (ahead a) = bare a
bare (seq a b) = bare a && bare b
bare (alt a b) = bare a && bare b
bare (when c a) = bare a
bare (many a) = bare a
bare (commas b a) = bare a
bare (marked h n) = false
bare (node m a) = nat_lt m.flags 4096
bare (ended r a) = bare a
bare (keep a b) = bare a && bare b
bare g = true

is_bare : (g : G) → bare g ≡ true → Bare g
is_bare (ahead a) h = is_bare a h
is_bare (seq a b) h = let q = and_parts (bare a) _ h in (is_bare a q.0, is_bare b q.1)
is_bare (alt a b) h = let q = and_parts (bare a) _ h in (is_bare a q.0, is_bare b q.1)
is_bare (when c a) h = is_bare a h
is_bare (many a) h = is_bare a h
is_bare (commas b a) h = is_bare a h
is_bare (marked k n) h = absurd (false≢true h)
is_bare (node m a) h = ltb-true m.flags 4096 h
is_bare (ended r a) h = is_bare a h
is_bare (keep a b) h = let q = and_parts (bare a) _ h in (is_bare a q.0, is_bare b q.1)
is_bare g h = tt

-- computed for each nonterminal
built_bare : (n : Name) (f : Flags) → bare (rule_of n f) ≡ true
unfolding rule_of
built_bare Program f = refl
built_bare n f = refl

unbuilt_bare : (n : Name) (f : Flags) → bare (unbuilt_of n f) ≡ true
unfolding unbuilt_of
unbuilt_bare Item f = refl
unbuilt_bare n f = refl

line_bare : (n : Symbol) → Bare (whole n)
unfolding whole
line_bare n = (is_bare (rule_of n.name n.flags) (built_bare n.name n.flags), is_bare (unbuilt_of n.name n.flags) (unbuilt_bare n.name n.flags))

append_top : (a b : Slots) → Top a → Top b → Top (append a b)
append_top end b h k = k
append_top (hole a) b h k = append_top a b h k
append_top (tree l cs a) b h k = (h.0, append_top a b h.1 k)

taken_top : {g : G} {ks ts us : Slots} {i j : ℕ} {ls rest : Lexemes} → Takes whole g ks ts i ls us j rest → Bare g → Top ks → Top us → Top ts
taken_top is_nothing p k u = u
taken_top (is_lexeme c) p k u = u
taken_top (is_look c) p k u = u
taken_top (is_text c) p k u = u
taken_top (is_ahead d) p k u = taken_top d p k u
taken_top is_empty_slot p k u = u
taken_top (is_seq x y) p k u = taken_top x p.0 k (taken_top y p.1 k u)
taken_top (is_left x) p k u = taken_top x p.0 k u
taken_top (is_right x) p k u = taken_top x p.1 k u
taken_top (is_when c x) p k u = taken_top x p k u
taken_top (is_many x) p k u = taken_top x ((p, p), tt) k u
taken_top (is_commas {b = true} x) p k u = taken_top x (p, ((tt, (p, tt)), tt)) k u
taken_top (is_commas {b = false} x) p k u = taken_top x (p, ((tt, p), tt)) k u
taken_top (is_such {n = n} x c) p k u = ((taken_top x (line_bare n) tt tt).0, u)
taken_top (is_marked x) p k u = absurd p
taken_top (is_node x) p k u = (p, u)
taken_top (is_ended {cs = cs} {us = us} q x y) p k u = subst Top (sym q) (append_top cs us (taken_top x p k tt) (taken_top y (tt, tt) k u))
taken_top (is_keep x y) p k u = taken_top y p.1 (taken_top x p.0 k tt) u
taken_top (is_kept {ks = ks} {us = us} q) p k u = subst Top (sym q) (append_top ks us k u)

-- ---- all nodes

-- a label with a word of its own, and flags that leave room for the mark of comments
record Few (l : Label) : Type 0 where
  pub op : is_own_word l.op ≡ true
  pub flags : l.flags < 12288

abbrev Fews : Slots → Type 0
Fews end = Unit {0}
Fews (hole us) = Fews us
Fews (tree l cs us) = Few l × Fews cs × Fews us

abbrev fine : Make → Bool
fine m = is_own_word m.op && nat_lt m.flags 4096

abbrev Made : G → Type 0
Made (ahead a) = Made a
Made (seq a b) = Made a × Made b
Made (alt a b) = Made a × Made b
Made (when c a) = Made a
Made (many a) = Made a
Made (commas b a) = Made a
Made (marked h n) = h ≡ with_pife
Made (node m a) = (fine m ≡ true) × Made a
Made (ended r a) = Made a
Made (keep a b) = Made a × Made b
Made g = Unit {0}

abbrev made : G → Bool
made (ahead a) = made a
made (seq a b) = made a && made b
made (alt a b) = made a && made b
made (when c a) = made a
made (many a) = made a
made (commas b a) = made a
made (node m a) = fine m && made a
made (ended r a) = made a
made (keep a b) = made a && made b
made g = true

is_made : (g : G) → remarked with_pife g ≡ g → made g ≡ true → Made g
is_made (ahead a) e h = is_made a (ap first_of e) h
is_made (seq a b) e h = let q = and_parts (made a) _ h in (is_made a (ap first_of e) q.0, is_made b (ap second_of e) q.1)
is_made (alt a b) e h = let q = and_parts (made a) _ h in (is_made a (ap first_of e) q.0, is_made b (ap second_of e) q.1)
is_made (when c a) e h = is_made a (ap first_of e) h
is_made (many a) e h = is_made a (ap first_of e) h
is_made (commas b a) e h = is_made a (ap first_of e) h
is_made (marked k n) e h = sym (ap mark_of e)
is_made (node m a) e h = let q = and_parts (fine m) _ h in (q.0, is_made a (ap first_of e) q.1)
is_made (ended r a) e h = is_made a (ap first_of e) h
is_made (keep a b) e h = let q = and_parts (made a) _ h in (is_made a (ap first_of e) q.0, is_made b (ap second_of e) q.1)
is_made g e h = tt

built_made : (n : Name) (f : Flags) → made (rule_of n f) ≡ true
unfolding rule_of
built_made Program f = refl
built_made n f = refl

unbuilt_made : (n : Name) (f : Flags) → made (unbuilt_of n f) ≡ true
unfolding unbuilt_of
unbuilt_made Item f = refl
unbuilt_made n f = refl

unbuilt_marked : (n : Name) (f : Flags) → remarked with_pife (unbuilt_of n f) ≡ unbuilt_of n f
unfolding unbuilt_of
unbuilt_marked Item f = refl
unbuilt_marked n f = refl

line_made : (n : Symbol) → Made (whole n)
unfolding whole
line_made n = (is_made (rule_of n.name n.flags) (line_marked n.name n.flags) (built_made n.name n.flags), is_made (unbuilt_of n.name n.flags) (unbuilt_marked n.name n.flags) (unbuilt_made n.name n.flags))

append_few : (a b : Slots) → Fews a → Fews b → Fews (append a b)
append_few end b h k = k
append_few (hole a) b h k = append_few a b h k
append_few (tree l cs a) b h k = (h.0, h.1, append_few a b h.2 k)

node_few : (m : Make) (s : Span) → fine m ≡ true → Few (record { kind = m.kind; op = m.op; flags = m.flags; span = s })
node_few m s h = let q = and_parts (is_own_word m.op) _ h in record { op = q.0; flags = let k = ltb-true m.flags 4096 q.1 in omega arith }

-- a mark of parentheses, on a node that has none
marked_few : (l : Label) → is_own_word l.op ≡ true → l.flags < 4096 → Few (with_pife l)
marked_few l h k = by l.kind l.op l.flags l.span h k
  where
    by : (k : NodeKind) (o : Op) (n : ℕ) (s : Span) → is_own_word o ≡ true → n < 4096 → Few (with_pife (record { kind = k; op = o; flags = n; span = s }))
    by function_expression o n s h k = record { op = h; flags = omega arith }
    by arrow_function_expression o n s h k = record { op = h; flags = omega arith }
    by _ o n s h k = record { op = h; flags = omega arith }

taken_few : {g : G} {ks ts us : Slots} {i j : ℕ} {ls rest : Lexemes} → Takes whole g ks ts i ls us j rest → Made g → Fews ks → Fews us → Fews ts
taken_few is_nothing p k u = u
taken_few (is_lexeme c) p k u = u
taken_few (is_look c) p k u = u
taken_few (is_text c) p k u = u
taken_few (is_ahead d) p k u = taken_few d p k u
taken_few is_empty_slot p k u = u
taken_few (is_seq x y) p k u = taken_few x p.0 k (taken_few y p.1 k u)
taken_few (is_left x) p k u = taken_few x p.0 k u
taken_few (is_right x) p k u = taken_few x p.1 k u
taken_few (is_when c x) p k u = taken_few x p k u
taken_few (is_many x) p k u = taken_few x ((p, p), tt) k u
taken_few (is_commas {b = true} x) p k u = taken_few x (p, ((tt, (p, tt)), tt)) k u
taken_few (is_commas {b = false} x) p k u = taken_few x (p, ((tt, p), tt)) k u
taken_few (is_such {n = n} x c) p k u = let q = taken_few x (line_made n) tt tt in (q.0, q.1, u)
taken_few (is_marked {h = h} {n = n} {l = l} x) p k u =
    let q = taken_few x (line_made n) tt tt in
    (subst (λ (f : Label → Label). Few (f l)) (sym p) (marked_few l q.0.op (taken_top x (line_bare n) tt tt).0), q.1, u)
taken_few (is_node {m = m} x) p k u = (node_few m _ p.0, taken_few x p.1 k tt, u)
taken_few (is_ended {cs = cs} {us = us} q x y) p k u = subst Fews (sym q) (append_few cs us (taken_few x p k tt) (taken_few y (tt, tt) k u))
taken_few (is_keep x y) p k u = taken_few y p.1 (taken_few x p.0 k tt) u
taken_few (is_kept {ks = ks} {us = us} q) p k u = subst Fews (sym q) (append_few ks us k u)

-- ---- valid trees

abbrev Unmarked : Slots → Type 0
Unmarked us = Fews (with_labels not_pure us)

pure_words : (l : Label) → Few (not_pure l) → HasWords l
pure_words l h = record { op = h.op; flags = by (has_flag pure_flag l.flags) l.flags h.flags }
  where
    by : (b : Bool) (n : ℕ) → cond b (n - 4096) n < 12288 → n < 2 ^ 14
    by true n k = omega arith
    by false n k = omega arith

unmarked_words : (us : Slots) → Unmarked us → HaveWords us
unmarked_words end h = tt
unmarked_words (hole us) h = unmarked_words us h
unmarked_words (tree l cs us) h = (pure_words l h.0, unmarked_words cs h.1, unmarked_words us h.2)

append_unmarked : (a b : Slots) → Unmarked a → Unmarked b → Unmarked (append a b)
append_unmarked end b h k = k
append_unmarked (hole a) b h k = append_unmarked a b h k
append_unmarked (tree l cs a) b h k = (h.0, h.1, append_unmarked a b h.2 k)

-- parentheses that are left out
lacking : (us : Slots) → Unmarked us → Unmarked (slots_lack_parens us)
lacking end h = tt
lacking (hole us) h = lacking us h
lacking (tree l cs us) h = by (is_parenthesized l.kind) (lacking cs h.1) (lacking us h.2)
  where
    by : (b : Bool) → Unmarked (slots_lack_parens cs) → Unmarked (slots_lack_parens us) → Unmarked (cond b (append (slots_lack_parens cs) (slots_lack_parens us)) (tree l (slots_lack_parens cs) (slots_lack_parens us)))
    by true x y = append_unmarked (slots_lack_parens cs) (slots_lack_parens us) x y
    by false x y = (h.0, x, y)

abbrev tree_slots : Tree → Slots
tree_slots t = tree t.label t.slots end

first_unmarked : (t : Tree) (us : Slots) → Unmarked (tree_slots t) → Unmarked us → Unmarked (tree_slots (first_tree t us))
first_unmarked t (tree l cs us) h k = (k.0, k.1, tt)
first_unmarked t (hole us) h k = h
first_unmarked t end h k = h

whole_unmarked : (n : Name) (text : List ℕ) (goal : Goal) (o : Options) (t : Tree) → IsWhole n text goal o t → Unmarked (tree_slots t)
whole_unmarked n text goal o t w = taken_few w.derived.derived (line_made _) tt tt

whole_words : (b : Bool) (n : Name) (text : List ℕ) (goal : Goal) (o : Options) (t : Tree) → whole_by b n text goal o t → HaveWords (tree_slots t)
whole_words true n text goal o t w = unmarked_words (tree_slots t) (whole_unmarked n text goal o t w)
whole_words false n text goal o t w =
    let kept = whole_unmarked n text goal o w.kept w.whole in
    let lacks = first_unmarked w.kept (slots_lack_parens (tree_slots w.kept)) kept (lacking (tree_slots w.kept) kept) in
    unmarked_words (tree_slots t) (subst (λ (u : Tree). Fews (tree_slots u)) (sym w.dropped) lacks)

pub valid_words : (t : Tree) → IsValidSomewhere t → HaveWords (tree t.label t.slots end)
valid_words t (program text goal o w) = whole_words o.preserve_parens _ text goal o t w
valid_words t (unambiguous text goal o (inl w)) = whole_words o.preserve_parens _ text _ o t w.1
valid_words t (unambiguous text goal o (inr w)) = whole_words o.preserve_parens _ text _ o t w.1.valid
valid_words t (expression text goal o w) = whole_words o.preserve_parens _ text goal o t w
