-- Right edges: which a nonterminal's trees may have, and that what may stand behind a tree may stand behind its last slot, as far as the tree's own symbol permits.
use Rattle.std.proofs.Common.{ℕ, ◌≡◌, Bool, true, false, not, cond, ◌&&◌, ◌||◌, refl, sym, ◌∙◌, subst}
use Rattle.std.proofs.lemmas.Bool.{false≢true, or_left, or_right, and_parts, and_from}
use Rattle.js_grammar.specs.Trees.{Label, Slots, end, hole, tree, append}
use Rattle.js_grammar.specs.Insertion.{Row, after_expression, after_postfix, after_body, after_yield, after_declarator, after_word, edge_is_last, own_row, empty_row, edge}
use Rattle.js_grammar.specs.Grammar.{Lexemes, nothing, lexeme, look, text, empty_slot, seq, alt, when, commas, such, node, Takes, is_nothing, is_lexeme, is_look, is_text, is_ahead, is_empty_slot, is_seq, is_left, is_right, is_when, is_many, is_commas, is_such, is_marked, is_node, is_ended, is_keep, is_kept}
use Rattle.js_grammar.specs.Productions.{Flags, Name, Symbol, G, Program}
use Rattle.js_grammar.specs.Table.{rule, rule_of}
use Rattle.js_grammar.specs.Follow.{row_of, first_edge}
use Rattle.js_grammar.specs.RightEdges.{same_row, may_end}
use Rattle.js_grammar.proofs.Frame.{puts}
use Rattle.js_grammar.proofs.Finding.{implied}

-- a check at each row
abbrev pub each_row : (Row → Bool) → Bool
each_row t = t after_expression && (t after_postfix && (t after_body && (t after_yield && (t after_declarator && t after_word))))

pub at_row : (t : Row → Bool) → each_row t ≡ true → (r : Row) → t r ≡ true
at_row t h after_expression = (and_parts (t after_expression) _ h).0
at_row t h after_postfix = let h = (and_parts (t after_expression) _ h).1 in (and_parts (t after_postfix) _ h).0
at_row t h after_body = let h = (and_parts (t after_expression) _ h).1 in let h = (and_parts (t after_postfix) _ h).1 in (and_parts (t after_body) _ h).0
at_row t h after_yield = let h = (and_parts (t after_expression) _ h).1 in let h = (and_parts (t after_postfix) _ h).1 in let h = (and_parts (t after_body) _ h).1 in (and_parts (t after_yield) _ h).0
at_row t h after_declarator = let h = (and_parts (t after_expression) _ h).1 in let h = (and_parts (t after_postfix) _ h).1 in let h = (and_parts (t after_body) _ h).1 in let h = (and_parts (t after_yield) _ h).1 in (and_parts (t after_declarator) _ h).0
at_row t h after_word = let h = (and_parts (t after_expression) _ h).1 in let h = (and_parts (t after_postfix) _ h).1 in let h = (and_parts (t after_body) _ h).1 in let h = (and_parts (t after_yield) _ h).1 in (and_parts (t after_declarator) _ h).1

same_self : (r : Row) → same_row r r ≡ true
same_self after_expression = refl
same_self after_postfix = refl
same_self after_body = refl
same_self after_yield = refl
same_self after_declarator = refl
same_self after_word = refl

-- The edge of slots is that of the last ones.
own_free : (a b none : Row) (us : Slots) → (edge a none (hole us) ≡ edge b none (hole us)) × ((l : Label) (cs : Slots) → edge a none (tree l cs us) ≡ edge b none (tree l cs us))
own_free a b none end = (refl, λ l cs. refl)
own_free a b none (hole us) = let x = own_free a b none us in (x.0, λ l cs. x.0)
own_free a b none (tree m ds us) = let x = own_free a b none us in (x.1 m ds, λ l cs. x.1 m ds)

pub edge_append : (own none : Row) (ps us : Slots) → edge own none (append ps us) ≡ edge (edge own none ps) none us
edge_append own none end us = refl
edge_append own none (hole end) end = refl
edge_append own none (hole end) (hole us) = (own_free own none none us).0
edge_append own none (hole end) (tree l cs us) = (own_free own none none us).1 l cs
edge_append own none (hole (hole ps)) us = edge_append own none (hole ps) us
edge_append own none (hole (tree l cs ps)) us = edge_append own none (tree l cs ps) us
edge_append own none (tree l cs end) end = refl
edge_append own none (tree l cs end) (hole us) = (own_free own (row_of l cs) none us).0
edge_append own none (tree l cs end) (tree m ds us) = (own_free own (row_of l cs) none us).1 m ds
edge_append own none (tree l cs (hole ps)) us = edge_append own none (hole ps) us
edge_append own none (tree l cs (tree m ds ps)) us = edge_append own none (tree m ds ps) us

-- it puts no slots
abbrev pub slotless : G → Bool
slotless nothing = true
slotless (lexeme p) = true
slotless (look p) = true
slotless (text p) = true
slotless (seq a b) = slotless a && slotless b
slotless (alt a b) = slotless a && slotless b
slotless _ = false

-- the rows of the last slot, of a node whose row is `none` where that is empty
abbrev pub lasts : Row → G → Row → Bool
lasts none (seq a b) r = lasts none b r
lasts none (alt a b) r = lasts none a r || lasts none b r
lasts none (when c a) r = lasts none a r
lasts none (commas b a) r = lasts none a r
lasts none (such n c) r = may_end n.name r
lasts none empty_slot r = same_row none r
lasts none g r = true

-- the rows of the first slot, as far as the productions tell
abbrev pub edges : G → Row → Bool
edges (alt a b) r = edges a r || edges b r
edges (when c a) r = edges a r
edges (seq a b) r = edges a r && (not (slotless a) || edges b r)
edges (such n c) r = may_end n.name r
edges (node m a) r = cond (edge_is_last m.kind) (lasts (empty_row m.kind) a r) (same_row (own_row m.kind m.flags) r)
edges g r = true

-- The claims hold of each line.
ends_at : (n : Name) (f : Flags) → each_row (λ r. may_end n r || not (edges (rule_of n f) r)) ≡ true
unfolding rule_of
ends_at Program f = refl
ends_at n f = refl

ends_claim : (s : Symbol) → each_row (λ r. may_end s.name r || not (edges (rule s) r)) ≡ true
unfolding rule
ends_claim s = ends_at s.name s.flags

-- the row of the first slot
abbrev pub first_row : Slots → Row
first_row ts = (first_edge ts).row

no_slots : {g : G} {ks ts us : Slots} {i j : ℕ} {ls rest : Lexemes} → Takes rule g ks ts i ls us j rest → slotless g ≡ true → ts ≡ us
no_slots is_nothing h = refl
no_slots (is_lexeme p) h = refl
no_slots (is_look p) h = refl
no_slots (is_text p) h = refl
no_slots (is_seq {a = a} {b = b} d e) h = let x = and_parts (slotless a) (slotless b) h in no_slots d x.0 ∙ no_slots e x.1
no_slots (is_left {a = a} {b = b} d) h = no_slots d (and_parts (slotless a) (slotless b) h).0
no_slots (is_right {a = a} {b = b} d) h = no_slots d (and_parts (slotless a) (slotless b) h).1
no_slots (is_ahead d) h = absurd (false≢true h)
no_slots is_empty_slot h = absurd (false≢true h)
no_slots (is_when c d) h = absurd (false≢true h)
no_slots (is_many d) h = absurd (false≢true h)
no_slots (is_commas d) h = absurd (false≢true h)
no_slots (is_such d c) h = absurd (false≢true h)
no_slots (is_marked d) h = absurd (false≢true h)
no_slots (is_node d) h = absurd (false≢true h)
no_slots (is_ended q d e) h = absurd (false≢true h)
no_slots (is_keep d e) h = absurd (false≢true h)
no_slots (is_kept q) h = absurd (false≢true h)

-- behind what puts no slots, the first slot is that of the rest
seq_first : (b : Bool) (a : G) {x : Bool} {ts us : Slots} (t : Slots → Bool) → slotless a ≡ b → (b ≡ true → ts ≡ us) → t us ≡ x → x ≡ true → (not b || t ts) ≡ true
seq_first false a t e h q r = refl
seq_first true a t e h q r = subst (λ v. t v ≡ true) (sym (h refl)) (q ∙ r)

own : (a : G) (cs : Slots) (b : Bool) (o none : Row) → lasts none a (edge o none cs) ≡ true → cond b (lasts none a (cond b (edge o none cs) o)) (same_row o (cond b (edge o none cs) o)) ≡ true
own a cs true o none h = h
own a cs false o none h = same_self o

-- What the last slot is, where nothing stands behind.
abbrev Last : G → Slots → Slots → Type 0
Last g ts us = us ≡ end → (o none : Row) → lasts none g (edge o none ts) ≡ true

last_behind : (b : G) {a : G} {ks ts us vs : Slots} {i j : ℕ} {ls rest : Lexemes} → Takes rule a ks ts i ls us j rest → Last b us vs → Last b ts vs
last_behind b {us = us} d y q o none = let p = puts d in subst (λ v. lasts none b (edge o none v) ≡ true) (sym p.1) (subst (λ v. lasts none b v ≡ true) (sym (edge_append o none p.0 us)) (y q (edge o none p.0) none))

edged_both : {g : G} {ks ts us : Slots} {i j : ℕ} {ls rest : Lexemes} → Takes rule g ks ts i ls us j rest → (edges g (first_row ts) ≡ true) × Last g ts us
edged_both is_nothing = (refl, λ q o none. refl)
edged_both (is_lexeme p) = (refl, λ q o none. refl)
edged_both (is_look p) = (refl, λ q o none. refl)
edged_both (is_text p) = (refl, λ q o none. refl)
edged_both (is_ahead d) = (refl, λ q o none. refl)
edged_both (is_empty_slot {ts = us}) = (refl, λ q o none. subst (λ v. same_row none (edge o none (hole v)) ≡ true) (sym q) (same_self none))
edged_both (is_seq {a = a} {b = b} {ts = ts} {us = us} d e) =
    let y = edged_both e in
    (and_from _ _ (edged_both d).0 (seq_first (slotless a) a (λ v. edges b (first_row v)) refl (λ h. no_slots d h) refl y.0), last_behind b d y.1)
edged_both (is_left d) = let x = edged_both d in (or_left _ _ x.0, λ q o none. or_left _ _ (x.1 q o none))
edged_both (is_right d) = let x = edged_both d in (or_right _ _ x.0, λ q o none. or_right _ _ (x.1 q o none))
edged_both (is_when c d) = edged_both d
edged_both (is_many d) = (refl, λ q o none. refl)
edged_both (is_commas (is_seq d (is_right is_nothing))) = (refl, (edged_both d).1)
edged_both (is_commas {b = true} (is_seq d (is_left (is_seq (is_lexeme c) (is_right is_nothing))))) = (refl, (edged_both d).1)
edged_both (is_commas {b = true} {a = a} (is_seq d (is_left (is_seq (is_lexeme c) (is_left e))))) = (refl, last_behind (commas true a) d (edged_both e).1)
edged_both (is_commas {b = false} {a = a} (is_seq d (is_left (is_seq (is_lexeme c) e)))) = (refl, last_behind (commas false a) d (edged_both e).1)
edged_both (is_such {n = n} {l = l} {cs = cs} {us = us} d c) =
    let h = implied (edges (rule n) (row_of l cs)) (may_end n.name (row_of l cs)) (at_row (λ r. may_end n.name r || not (edges (rule n) r)) (ends_claim n) (row_of l cs)) (edged_both d).0 in
    (h, λ q o none. subst (λ v. may_end n.name (edge o none (tree l cs v)) ≡ true) (sym q) h)
edged_both (is_marked d) = (refl, λ q o none. refl)
edged_both (is_node {m = m} {a = a} {cs = cs} d) = (own a cs (edge_is_last m.kind) (own_row m.kind m.flags) (empty_row m.kind) ((edged_both d).1 refl (own_row m.kind m.flags) (empty_row m.kind)), λ q o none. refl)
edged_both (is_ended q d e) = (refl, λ q o none. refl)
edged_both (is_keep d e) = (refl, λ q o none. refl)
edged_both (is_kept q) = (refl, λ q o none. refl)

-- A symbol's tree has one of the rows that are claimed of it.
pub edged : {g : G} {ks ts us : Slots} {i j : ℕ} {ls rest : Lexemes} → Takes rule g ks ts i ls us j rest → edges g (first_row ts) ≡ true
edged d = (edged_both d).0
