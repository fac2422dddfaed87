-- The choices of a rule that stand behind the symbol itself, as links, and the others, as feet: both computed from the rule. For any grammar.
use Rattle.std.proofs.Common.{ℕ, ◌⊎◌, inl, inr, Bool, true, false, cond}
use Rattle.js_grammar.specs.Trees.{Slots, end, tree}
use Rattle.js_grammar.specs.Grammar.{Lexemes, Make, label_of, Grammar, never, seq, alt, when, such, node, Takes, is_seq, is_left, is_right, is_when, is_node}
use Rattle.js_grammar.specs.Chains.{other_heads, own_nodes, feet, links}
use Rattle.js_grammar.proofs.Towers.{Same}

either_way : {A B C D : Type 0} → (A → C) → (B → D) → A ⊎ B → C ⊎ D
either_way f g (inl x) = inl (f x)
either_way f g (inr x) = inr (g x)

module _ {N : Type 0} {rule : N → Grammar N} (own : N → Bool) where
  by_own : {n : N} {c : _} (b : Bool) (m : Make) {t : Grammar N} (us : Slots) {ks cs vs : Slots} {i j k : ℕ} {ls mid rest : Lexemes} → Takes rule (such n c) ks cs i ls vs j mid → Takes rule t ks vs j mid end k rest
      → Takes rule (cond b never (such n c)) ks cs i ls vs j mid ⊎ Takes rule (cond b (node m (seq (such n c) t)) never) ks (tree (label_of m ls k rest) cs us) i ls us k rest
  by_own true m us d e = inr (is_node (is_seq d e))
  by_own false m us d e = inl d

  head : (h : Grammar N) (m : Make) {t : Grammar N} (us : Slots) {ks cs vs : Slots} {i j k : ℕ} {ls mid rest : Lexemes} → Takes rule h ks cs i ls vs j mid → Takes rule t ks vs j mid end k rest
      → Takes rule (other_heads own h) ks cs i ls vs j mid ⊎ Takes rule (own_nodes own m t h) ks (tree (label_of m ls k rest) cs us) i ls us k rest
  head (such n c) m us d e = by_own (own n) m us d e
  head (alt a b) m us (is_left d) e = either_way is_left is_left (head a m us d e)
  head (alt a b) m us (is_right d) e = either_way is_right is_right (head b m us d e)
  head g m us d e = inl d

  parts : (g : Grammar N) {ks ts us : Slots} {i j : ℕ} {ls rest : Lexemes} → Takes rule g ks ts i ls us j rest → Takes rule (feet own g) ks ts i ls us j rest ⊎ Takes rule (links own g) ks ts i ls us j rest
  parts (alt a b) (is_left d) = either_way is_left is_left (parts a d)
  parts (alt a b) (is_right d) = either_way is_right is_right (parts b d)
  parts (when c a) (is_when h d) = either_way (is_when h) (is_when h) (parts a d)
  parts (node m (seq h t)) (is_node {us = us} (is_seq d e)) = either_way (λ x. is_node (is_seq x e)) (λ x. x) (head h m us d e)
  parts g d = inl d

  of_cond : {n : N} {c : _} (b : Bool) {ks cs vs : Slots} {i j : ℕ} {ls mid : Lexemes} → Takes rule (cond b never (such n c)) ks cs i ls vs j mid → Takes rule (such n c) ks cs i ls vs j mid
  of_cond true d = elim d [ ]
  of_cond false d = d

  of_head : (h : Grammar N) {ks cs vs : Slots} {i j : ℕ} {ls mid : Lexemes} → Takes rule (other_heads own h) ks cs i ls vs j mid → Takes rule h ks cs i ls vs j mid
  of_head (such n c) d = of_cond (own n) d
  of_head (alt a b) (is_left d) = is_left (of_head a d)
  of_head (alt a b) (is_right d) = is_right (of_head b d)
  of_head g d = d

  of_foot : (g : Grammar N) {ks ts us : Slots} {i j : ℕ} {ls rest : Lexemes} → Takes rule (feet own g) ks ts i ls us j rest → Takes rule g ks ts i ls us j rest
  of_foot (alt a b) (is_left d) = is_left (of_foot a d)
  of_foot (alt a b) (is_right d) = is_right (of_foot b d)
  of_foot (when c a) (is_when h d) = is_when h (of_foot a d)
  of_foot (node m (seq h t)) (is_node (is_seq d e)) = is_node (is_seq (of_head h d) e)
  of_foot g d = d

  -- a node whose head is chosen, and a choice of nodes
  wider_head : {m : Make} {a b t : Grammar N} {ks ts us : Slots} {i j : ℕ} {ls rest : Lexemes} → ((cs vs : Slots) (k : ℕ) (mid : Lexemes) → Takes rule a ks cs i ls vs k mid → Takes rule b ks cs i ls vs k mid) → Takes rule (node m (seq a t)) ks ts i ls us j rest → Takes rule (node m (seq b t)) ks ts i ls us j rest
  wider_head f (is_node (is_seq {ts = cs} {us = vs} {j = k} {mid = mid} d e)) = is_node (is_seq (f cs vs k mid d) e)

  of_cond_node : {n : N} {c : _} (b : Bool) {m : Make} {t : Grammar N} {ks ts us : Slots} {i j : ℕ} {ls rest : Lexemes} → Takes rule (cond b (node m (seq (such n c) t)) never) ks ts i ls us j rest → Takes rule (node m (seq (such n c) t)) ks ts i ls us j rest
  of_cond_node true d = d
  of_cond_node false d = elim d [ ]

  of_own : (h : Grammar N) {m : Make} {t : Grammar N} {ks ts us : Slots} {i j : ℕ} {ls rest : Lexemes} → Takes rule (own_nodes own m t h) ks ts i ls us j rest → Takes rule (node m (seq h t)) ks ts i ls us j rest
  of_own (such n c) d = of_cond_node (own n) d
  of_own (alt a b) (is_left d) = wider_head (λ cs vs k mid d. is_left d) (of_own a d)
  of_own (alt a b) (is_right d) = wider_head (λ cs vs k mid d. is_right d) (of_own b d)
  of_own g d = elim d [ ]

  of_link : (g : Grammar N) {ks ts us : Slots} {i j : ℕ} {ls rest : Lexemes} → Takes rule (links own g) ks ts i ls us j rest → Takes rule g ks ts i ls us j rest
  of_link (alt a b) (is_left d) = is_left (of_link a d)
  of_link (alt a b) (is_right d) = is_right (of_link b d)
  of_link (when c a) (is_when h d) = is_when h (of_link a d)
  of_link (node m (seq h t)) d = of_own h d
  of_link g d = elim d [ ]

  -- what a rule takes is what its feet and its links take
  pub split : (g : Grammar N) → Same rule g (alt (feet own g) (links own g))
  split g = record { to = λ ts us i j ls rest d. go (parts g d); back = λ ts us i j ls rest d. come d }
    where
      go : {ts us : Slots} {i j : ℕ} {ls rest : Lexemes} → Takes rule (feet own g) end ts i ls us j rest ⊎ Takes rule (links own g) end ts i ls us j rest → Takes rule (alt (feet own g) (links own g)) end ts i ls us j rest
      go (inl d) = is_left d
      go (inr d) = is_right d

      come : {ts us : Slots} {i j : ℕ} {ls rest : Lexemes} → Takes rule (alt (feet own g) (links own g)) end ts i ls us j rest → Takes rule g end ts i ls us j rest
      come (is_left d) = of_foot g d
      come (is_right d) = of_link g d
