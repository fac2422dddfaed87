-- What is taken doesn't depend on the slots that are left.
use Rattle.std.proofs.Common.{ℕ, ◌≡◌, refl, ap, sym, ◌∙◌, subst}
use Rattle.js_grammar.specs.Trees.{Slots, end, hole, tree, append}
use Rattle.js_grammar.specs.Grammar.{Lexemes, label_of, seq, Grammar, Takes, is_nothing, is_lexeme, is_look, is_text, is_ahead, is_empty_slot, is_seq, is_left, is_right, is_when, is_many, is_commas, is_such, is_marked, is_node, is_ended, is_keep, is_kept}

pub append_end : (ts : Slots) → append ts end ≡ ts
append_end end = refl
append_end (hole ts) = ap hole (append_end ts)
append_end (tree l cs ts) = ap (tree l cs) (append_end ts)

pub append_assoc : (a b c : Slots) → append (append a b) c ≡ append a (append b c)
append_assoc end b c = refl
append_assoc (hole a) b c = ap hole (append_assoc a b c)
append_assoc (tree l cs a) b c = ap (tree l cs) (append_assoc a b c)

-- these slots are taken, whatever stands behind them
abbrev pub Framed : {N : Type 0} → (N → Grammar N) → Grammar N → Slots → Slots → ℕ → Lexemes → Slots → ℕ → Lexemes → Type 0
Framed rule g ks ts i ls us j rest = (cs : Slots) × (ts ≡ append cs us) × ((vs : Slots) → Takes rule g ks (append cs vs) i ls vs j rest)

pub framed : {N : Type 0} {rule : N → Grammar N} {g : Grammar N} {ks ts us : Slots} {i j : ℕ} {ls rest : Lexemes} → Takes rule g ks ts i ls us j rest → Framed rule g ks ts i ls us j rest
framed is_nothing = (end, refl, λ vs. is_nothing)
framed (is_lexeme p) = (end, refl, λ vs. is_lexeme p)
framed (is_look p) = (end, refl, λ vs. is_look p)
framed (is_text p) = (end, refl, λ vs. is_text p)
framed (is_ahead d) = let x = framed d in (x.0, x.1, λ vs. is_ahead (x.2 vs))
framed is_empty_slot = (hole end, refl, λ vs. is_empty_slot)
framed {rule = rule} (is_seq {a = a} {b = b} {ks = ks} {vs = us} {i = i} {k = k} {ls = ls} {rest = rest} d e) =
    let x = framed d in
    let y = framed e in
    (append x.0 y.0, x.1 ∙ (ap (append x.0) y.1 ∙ sym (append_assoc x.0 y.0 us)), λ vs. subst (λ z. Takes rule (seq a b) ks z i ls vs k rest) (sym (append_assoc x.0 y.0 vs)) (is_seq (x.2 (append y.0 vs)) (y.2 vs)))
framed (is_left d) = let x = framed d in (x.0, x.1, λ vs. is_left (x.2 vs))
framed (is_right d) = let x = framed d in (x.0, x.1, λ vs. is_right (x.2 vs))
framed (is_when c d) = let x = framed d in (x.0, x.1, λ vs. is_when c (x.2 vs))
framed (is_many d) = let x = framed d in (x.0, x.1, λ vs. is_many (x.2 vs))
framed (is_commas d) = let x = framed d in (x.0, x.1, λ vs. is_commas (x.2 vs))
framed (is_such {l = l} {cs = cs} d c) = (tree l cs end, refl, λ vs. is_such d c)
framed (is_marked {h = h} {l = l} {cs = cs} d) = (tree (h l) cs end, refl, λ vs. is_marked d)
framed (is_node {m = m} {cs = cs} {j = j} {ls = ls} {rest = rest} d) = (tree (label_of m ls j rest) cs end, refl, λ vs. is_node d)
framed (is_ended {cs = cs} {vs = us} q d e) =
    let y = framed e in
    (append cs y.0, q ∙ (ap (append cs) y.1 ∙ sym (append_assoc cs y.0 us)), λ vs. is_ended (append_assoc cs y.0 vs) d (y.2 vs))
framed (is_keep d e) = let x = framed e in (x.0, x.1, λ vs. is_keep d (x.2 vs))
framed (is_kept {ks = ks} q) = (ks, q, λ vs. is_kept refl)

-- A grammar puts slots before those behind it, and looks at none of these.
pub puts : {N : Type 0} {rule : N → Grammar N} {g : Grammar N} {ks ts us : Slots} {i j : ℕ} {ls rest : Lexemes} → Takes rule g ks ts i ls us j rest → (ps : Slots) × (ts ≡ append ps us)
puts d = let x = framed d in (x.0, x.1)
