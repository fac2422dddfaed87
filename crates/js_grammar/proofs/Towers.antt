-- Left-recursive symbols, one above the other, and the loop that reads them: what a symbol takes is what a foot takes, with parts behind it. For any grammar.
use Rattle.std.proofs.Common.{ℕ, zero, suc, ◌≡◌, ◌≤◌, ◌+◌, ◌-◌, Bool, IsTrue, List, [], ◌∷◌, refl, sym, subst, arith, ◌↔◌, nat_eq, cond}
use Rattle.js_grammar.proofs.Calculus.{label_is, slots_are}
use Rattle.js_base.specs.declared.kind.Kind.{Kind}
use Rattle.js_grammar.specs.Trees.{NodeKind, Op, of, Label, Slots, end, hole, tree}
use Rattle.js_grammar.specs.Grammar.{here, Lexemes, Grammar, never, lexeme, is, seq, alt, when, such, node, Takes, is_seq, is_left, is_right, is_when, is_such, is_node}
use Rattle.js_grammar.specs.Parsing.{always}
use Rattle.js_grammar.specs.Towers.{Link, link, make_of, linked_label, Among, this, of_left, of_right, of_when, Tower, Tail, tail_none, tail_more, chain}

-- Each choice of the grammar is a link behind the symbol n.
pub data Links {N : Type 0} (n : N) : Grammar N → Type 0 where
  one : {k : NodeKind} {o : Op} {fl : ℕ} {a : Grammar N} → Links n (node (make_of k o fl) (seq (such n always) a))
  two : {a b : Grammar N} → Links n a → Links n b → Links n (alt a b)
  guarded : {c : Bool} {a : Grammar N} → Links n a → Links n (when c a)
  none_at_all : Links n never

-- Each level takes what the operand of the next level takes, or what a foot of its own takes, or a link behind itself.
pub record Lawful {N : Type 0} {rule : N → Grammar N} (w : Tower rule) : Type 0 where
  pub symbols : (p : ℕ) → p ≤ w.top → w.operand p ≡ such (w.level p) always
  pub climbs : (p : ℕ) → p ≤ w.top → (ts us : Slots) (i j : ℕ) (ls rest : Lexemes) → Takes rule (rule (w.level p)) end ts i ls us j rest → Takes rule (alt (alt (w.operand (p + 1)) (w.feet p)) (w.steps p)) end ts i ls us j rest
  pub falls : (p : ℕ) → p ≤ w.top → (ts us : Slots) (i j : ℕ) (ls rest : Lexemes) → Takes rule (alt (alt (w.operand (p + 1)) (w.feet p)) (w.steps p)) end ts i ls us j rest → Takes rule (rule (w.level p)) end ts i ls us j rest
  pub linked : (p : ℕ) → p ≤ w.top → Links (w.level p) (w.steps p)

-- What a loop for the level m may begin with, and the level of that: the topmost operand, or a foot of a level from m on.
pub data Foot {N : Type 0} {rule : N → Grammar N} (w : Tower rule) (m : ℕ) : ℕ → Grammar N → Type 0 where
  topmost : Foot w m (w.top + 1) (w.operand (w.top + 1))
  of_level : {q : ℕ} → m ≤ q → q ≤ w.top → Foot w m q (w.feet q)

module _ {N : Type 0} {rule : N → Grammar N} where
  -- the slots behind a symbol's node are any
  pub reslot : {n : N} {l : Label} {cs : Slots} (vs : Slots) {i j : ℕ} {ls rest : Lexemes} → Takes rule (such n always) end (tree l cs end) i ls end j rest → Takes rule (such n always) end (tree l cs vs) i ls vs j rest
  reslot vs (is_such d c) = is_such d refl

  -- what a choice among links takes is a link's node
  split : {n : N} {g : Grammar N} → Links n g → {ts us : Slots} {i j : ℕ} {ls rest : Lexemes} → Takes rule g end ts i ls us j rest
      → (x : Link N) × (cs : Slots) × Among n g x × (ts ≡ tree (linked_label x (here ls).from j) cs us) × Takes rule (seq (such n always) x.part) end cs i ls end j rest
  split one (is_node {cs = cs} d) = (_, cs, this, refl, d)
  split (two a b) (is_left d) = let y = split a d in (y.0, y.1, of_left y.2, y.3, y.4)
  split (two a b) (is_right d) = let y = split b d in (y.0, y.1, of_right y.2, y.3, y.4)
  split (guarded a) (is_when c d) = let y = split a d in (y.0, y.1, of_when c y.2, y.3, y.4)
  split none_at_all d = elim d [ ]

  join : {n : N} {g : Grammar N} {x : Link N} → Among n g x → {cs us : Slots} {i j : ℕ} {ls rest : Lexemes} → Takes rule (seq (such n always) x.part) end cs i ls end j rest → Takes rule g end (tree (linked_label x (here ls).from j) cs us) i ls us j rest
  join this d = is_node d
  join (of_left a) d = is_left (join a d)
  join (of_right a) d = is_right (join a d)
  join (of_when c a) d = is_when c (join a d)

  module _ (w : Tower rule) where
    -- a lower end, and a higher start
    lower : {m m' from c : ℕ} {l l' : Label} {cs cs' : Slots} {i j : ℕ} {ls rest : Lexemes} → m' ≤ m → Tail w m from c l cs i ls l' cs' j rest → Tail w m' from c l cs i ls l' cs' j rest
    lower h tail_none = tail_none
    lower h (tail_more a b t x p d) = tail_more (omega arith) b t x p (lower h d)

    -- one part more, at the end
    one_more : {m from c : ℕ} {l l' : Label} {cs cs' : Slots} {i j : ℕ} {ls mid : Lexemes} {x : Link N} {ds : Slots} {k : ℕ} {rest : Lexemes} → m ≤ c → m ≤ w.top → Tail w m from c l cs i ls l' cs' j mid → Among (w.level m) (w.steps m) x → Takes rule x.part end ds j mid end k rest
        → Tail w m from c l cs i ls (linked_label x from k) (tree l' cs' ds) k rest
    one_more h t tail_none x p = tail_more (omega arith) h t x p tail_none
    one_more h t (tail_more a b u y q d) x p = tail_more a b u y q (one_more a t d x p)

    -- what a symbol takes, in postfix form
    abbrev pub Postfix : ℕ → Label → Slots → ℕ → Lexemes → ℕ → Lexemes → Type 0
    Postfix m l cs i ls j rest = (l' : Label) × (cs' : Slots) × (k : ℕ) × (mid : Lexemes) × (c : ℕ) × (g : Grammar N) × Foot w m c g × Takes rule g end (tree l' cs' end) i ls end k mid × Tail w m (here ls).from c l' cs' k mid l cs j rest

    lower_foot : {m c : ℕ} {g : Grammar N} → Foot w (m + 1) c g → Foot w m c g
    lower_foot topmost = topmost
    lower_foot (of_level a b) = of_level (omega arith) b

    pub foot_high : {m c : ℕ} {g : Grammar N} → m ≤ w.top + 1 → Foot w m c g → m ≤ c
    foot_high h topmost = h
    foot_high h (of_level a b) = a

    pub foot_low : {m c : ℕ} {g : Grammar N} → Foot w m c g → c ≤ w.top + 1
    foot_low topmost = omega arith
    foot_low (of_level a b) = omega arith

    abbrev pub Claim : Label → Slots → Type 0
    Claim l cs = (m i j : ℕ) (ls rest : Lexemes) → m ≤ w.top + 1 → Takes rule (w.operand m) end (tree l cs end) i ls end j rest → Postfix m l cs i ls j rest

    abbrev Inner : Slots → Type 0
    Inner end = Unit {0}
    Inner (hole us) = Unit {0}
    Inner (tree l cs us) = Claim l cs

    module _ (law : Lawful w) where
      to_symbol : {m : ℕ} → m ≤ w.top → {ts us : Slots} {i j : ℕ} {ls rest : Lexemes} → Takes rule (w.operand m) end ts i ls us j rest → Takes rule (such (w.level m) always) end ts i ls us j rest
      to_symbol {m} h {ts} {us} {i} {j} {ls} {rest} d = subst (λ v. Takes rule v end ts i ls us j rest) (law.symbols m h) d

      of_symbol : {m : ℕ} → m ≤ w.top → {ts us : Slots} {i j : ℕ} {ls rest : Lexemes} → Takes rule (such (w.level m) always) end ts i ls us j rest → Takes rule (w.operand m) end ts i ls us j rest
      of_symbol {m} h {ts} {us} {i} {j} {ls} {rest} d = subst (λ v. Takes rule v end ts i ls us j rest) (sym (law.symbols m h)) d

      -- a link behind the symbol itself
      behind : {m i j : ℕ} {ls rest : Lexemes} (cs : Slots) → Inner cs → m ≤ w.top → {x : Link N} → Among (w.level m) (w.steps m) x → Takes rule (seq (such (w.level m) always) x.part) end cs i ls end j rest → Postfix m (linked_label x (here ls).from j) cs i ls j rest
      behind {m} {i} {j} {ls} {rest} cs h t x (is_seq (is_such {l = l} {cs = ds} {us = us} d c) p) =
          let y = h m i _ ls _ (omega arith) (of_symbol t (is_such d refl)) in
          (y.0, y.1, y.2, y.3, y.4, y.5, y.6, y.7, one_more (foot_high (omega arith) y.6) t y.8 x p)

      by_choice : {m i j : ℕ} {ls rest : Lexemes} (l : Label) (cs : Slots) → Inner cs → m ≤ w.top → (Takes rule (w.operand (m + 1)) end (tree l cs end) i ls end j rest → Postfix (m + 1) l cs i ls j rest)
          → Takes rule (alt (alt (w.operand (m + 1)) (w.feet m)) (w.steps m)) end (tree l cs end) i ls end j rest → Postfix m l cs i ls j rest
      by_choice l cs h t up (is_left (is_left d)) = let y = up d in (y.0, y.1, y.2, y.3, y.4, y.5, lower_foot y.6, y.7, lower (omega arith) y.8)
      by_choice {m} {i} {j} {ls} {rest} l cs h t up (is_left (is_right d)) = (l, cs, j, rest, m, w.feet m, of_level (omega arith) t, d, tail_none)
      by_choice {m} {i} {j} {ls} {rest} l cs h t up (is_right d) =
          let y = split (law.linked m t) d in
          let q = sym (slots_are y.3) in
          subst (λ v. Postfix m v cs i ls j rest) (sym (label_is y.3)) (behind cs h t y.2 (subst (λ v. Takes rule (seq (such (w.level m) always) y.0.part) end v i ls end j rest) q y.4))

      of_such : {n : N} {l : Label} {cs : Slots} {i j : ℕ} {ls rest : Lexemes} → Takes rule (such n always) end (tree l cs end) i ls end j rest → Takes rule (rule n) end (tree l cs end) i ls end j rest
      of_such (is_such d c) = d

      climb : (l : Label) (cs : Slots) → Inner cs → (f m i j : ℕ) (ls rest : Lexemes) → f + m ≡ w.top + 1 → Takes rule (w.operand m) end (tree l cs end) i ls end j rest → Postfix m l cs i ls j rest
      climb l cs h zero m i j ls rest e d = let same : m ≡ w.top + 1 = omega arith in (l, cs, j, rest, w.top + 1, w.operand (w.top + 1), topmost, subst (λ v. Takes rule (w.operand v) end (tree l cs end) i ls end j rest) same d, tail_none)
      climb l cs h (suc f) m i j ls rest e d =
          let t : m ≤ w.top = omega arith in
          by_choice l cs h t (climb l cs h f (m + 1) i j ls rest (omega arith)) (law.climbs m t (tree l cs end) end i j ls rest (of_such (to_symbol t d)))

      -- The left-recursive table takes no more than the postfix form.
      pub unroll : (l : Label) (cs : Slots) → Claim l cs
      unroll l end m i j ls rest b d = climb l end tt (w.top + 1 - m) m i j ls rest (omega arith) d
      unroll l (hole us) m i j ls rest b d = climb l (hole us) tt (w.top + 1 - m) m i j ls rest (omega arith) d
      unroll l (tree l' cs us) m i j ls rest b d = climb l (tree l' cs us) (unroll l' cs) (w.top + 1 - m) m i j ls rest (omega arith) d

      up_one : {p : ℕ} {l : Label} {cs : Slots} {i j : ℕ} {ls rest : Lexemes} → p ≤ w.top → Takes rule (w.operand (p + 1)) end (tree l cs end) i ls end j rest → Takes rule (w.operand p) end (tree l cs end) i ls end j rest
      up_one {p} {l} {cs} {i} {j} {ls} {rest} h d = of_symbol h (is_such (law.falls p h (tree l cs end) end i j ls rest (is_left (is_left d))) refl)

      down : (f : ℕ) {m c : ℕ} {l : Label} {cs : Slots} {i j : ℕ} {ls rest : Lexemes} → f + m ≡ c → c ≤ w.top + 1 → Takes rule (w.operand c) end (tree l cs end) i ls end j rest → Takes rule (w.operand m) end (tree l cs end) i ls end j rest
      down zero {m} {c} {l} {cs} {i} {j} {ls} {rest} e b d = let same : c ≡ m = omega arith in subst (λ v. Takes rule (w.operand v) end (tree l cs end) i ls end j rest) same d
      down (suc f) {m} {c} {l} {cs} {i} {j} {ls} {rest} e b d = up_one {p = m} (omega arith) (down f {m = m + 1} (omega arith) b d)

      -- The postfix form takes no more than the left-recursive table.
      pub roll : {m s : ℕ} {start : Lexemes} {c : ℕ} {l l' : Label} {cs cs' : Slots} {i j : ℕ} {ls rest : Lexemes} → Takes rule (w.operand c) end (tree l cs end) s start end i ls → m ≤ c → c ≤ w.top + 1 → Tail w m (here start).from c l cs i ls l' cs' j rest
          → Takes rule (w.operand m) end (tree l' cs' end) s start end j rest
      roll {m} {s} {start} {c} d a b tail_none = down (c - m) (omega arith) b d
      roll {m} {s} {start} {c} d a b (tail_more {q = q} {x = x} {l = l} {cs = cs} {ds = ds} {j = j} {mid = mid} mq qc qt y p t) =
          roll (of_symbol qt (is_such (law.falls q qt (tree (linked_label x (here start).from j) (tree l cs ds) end) end s j start mid (is_right (join y (is_seq (reslot ds (to_symbol qt (down (c - q) (omega arith) b d))) p)))) refl)) mq (omega arith) t

      -- what a foot takes its level's operand takes
      pub on_foot : {m c : ℕ} {g : Grammar N} {l : Label} {cs : Slots} {i j : ℕ} {ls rest : Lexemes} → Foot w m c g → Takes rule g end (tree l cs end) i ls end j rest → Takes rule (w.operand c) end (tree l cs end) i ls end j rest
      on_foot topmost d = d
      on_foot {l = l} {cs = cs} {i = i} {j = j} {ls = ls} {rest = rest} (of_level {q = q} a b) d = of_symbol b (is_such (law.falls q b (tree l cs end) end i j ls rest (is_left (is_right d))) refl)

      -- The left-recursive table takes what the postfix form takes.
      pub is_postfix : {m : ℕ} {l : Label} {cs : Slots} {i j : ℕ} {ls rest : Lexemes} → m ≤ w.top + 1 → Takes rule (w.operand m) end (tree l cs end) i ls end j rest ↔ Postfix m l cs i ls j rest
      is_postfix {m} {l} {cs} {i} {j} {ls} {rest} h = (λ d. unroll l cs m i j ls rest h d, λ y. roll (on_foot y.6 y.7) (foot_high h y.6) (foot_low y.6) y.8)

-- a member of a list
pub data OneOf {A : Type 0} (x : A) : List A → Type 0 where
  head : {xs : List A} → OneOf x (x ∷ xs)
  later : {y : A} {xs : List A} → OneOf x xs → OneOf x (y ∷ xs)

abbrev Agrees : {N : Type 0} → Grammar N → Link N → Type 0
Agrees (node m (seq a b)) x = x ≡ link m.kind m.op m.flags b
Agrees _ x = Unit {0}

agrees : {N : Type 0} {n : N} {g : Grammar N} {x : Link N} → Among n g x → Agrees g x
agrees this = refl
agrees (of_left i) = tt
agrees (of_right i) = tt
agrees (of_when c i) = tt

pub an_link : {N : Type 0} {n : N} {k : NodeKind} {o : Op} {fl : ℕ} {a : Grammar N} {x : Link N} → Among n (node (make_of k o fl) (seq (such n always) a)) x → x ≡ link k o fl a
an_link i = agrees i

pub under : {N : Type 0} {n : N} {c : Bool} {a : Grammar N} {x : Link N} → Among n (when c a) x → IsTrue c × Among n a x
under (of_when c i) = (c, i)

-- a choice for each of these kinds
abbrev pub branches : {N : Type 0} → List Kind → (Kind → Grammar N) → Grammar N
branches [] g = never
branches (k ∷ []) g = g k
branches (k ∷ ks) g = alt (g k) (branches ks g)

-- Operators of one level: for each a choice, whose left operand is of the level and whose right one is of the next.
module _ {N : Type 0} (level : ℕ → N) (kind : ℕ → NodeKind) (p : ℕ) where
  abbrev pub operation : Kind → Grammar N
  operation o = node (make_of (kind p) (of o) 0) (seq (such (level p) always) (seq (lexeme (is o)) (such (level (p + 1)) always)))

  abbrev pub operation_link : Kind → Link N
  operation_link o = link (kind p) (of o) 0 (seq (lexeme (is o)) (such (level (p + 1)) always))

  pub operations_linked : (os : List Kind) → Links (level p) (branches os operation)
  operations_linked [] = none_at_all
  operations_linked (o ∷ []) = one
  operations_linked (o ∷ a ∷ os) = two one (operations_linked (a ∷ os))

  pub of_operations : (os : List Kind) {x : Link N} → Among (level p) (branches os operation) x → (o : Kind) × OneOf o os × (x ≡ operation_link o)
  of_operations [] a = elim a [ ]
  of_operations (o ∷ []) a = (o, head, an_link a)
  of_operations (o ∷ b ∷ os) (of_left a) = (o, head, an_link a)
  of_operations (o ∷ b ∷ os) (of_right a) = let y = of_operations (b ∷ os) a in (y.0, later y.1, y.2)

  pub to_operations : {o : Kind} (os : List Kind) → OneOf o os → Among (level p) (branches os operation) (operation_link o)
  to_operations [] i = elim i [ ]
  to_operations (o ∷ []) head = this
  to_operations (o ∷ []) (later i) = elim i [ ]
  to_operations (o ∷ b ∷ os) head = of_left this
  to_operations (o ∷ b ∷ os) (later i) = of_right (to_operations (b ∷ os) i)

-- two grammars take the same
pub record Same {N : Type 0} (rule : N → Grammar N) (a b : Grammar N) : Type 0 where
  pub to : (ts us : Slots) (i j : ℕ) (ls rest : Lexemes) → Takes rule a end ts i ls us j rest → Takes rule b end ts i ls us j rest
  pub back : (ts us : Slots) (i j : ℕ) (ls rest : Lexemes) → Takes rule b end ts i ls us j rest → Takes rule a end ts i ls us j rest

pub same_as : {N : Type 0} {rule : N → Grammar N} {a b : Grammar N} → a ≡ b → Same rule a b
same_as {rule = rule} e = record { to = λ ts us i j ls rest d. subst (λ v. Takes rule v end ts i ls us j rest) e d; back = λ ts us i j ls rest d. subst (λ v. Takes rule v end ts i ls us j rest) (sym e) d }

-- a level without feet
pub without_feet : {N : Type 0} {rule : N → Grammar N} {a b : Grammar N} → Same rule (alt a b) (alt (alt a never) b)
without_feet {N} {rule} {a} {b} = record { to = λ ts us i j ls rest d. go d; back = λ ts us i j ls rest d. come d }
  where
    go : {ts us : Slots} {i j : ℕ} {ls rest : Lexemes} → Takes rule (alt a b) end ts i ls us j rest → Takes rule (alt (alt a never) b) end ts i ls us j rest
    go (is_left d) = is_left (is_left d)
    go (is_right d) = is_right d

    come : {ts us : Slots} {i j : ℕ} {ls rest : Lexemes} → Takes rule (alt (alt a never) b) end ts i ls us j rest → Takes rule (alt a b) end ts i ls us j rest
    come (is_left (is_left d)) = is_left d
    come (is_left (is_right d)) = elim d [ ]
    come (is_right d) = is_right d

-- Any number of levels of operators, some of which have feet.
abbrev pub level_tower : {N : Type 0} {rule : N → Grammar N} → (ℕ → N) → ℕ → (ℕ → NodeKind) → (ℕ → Grammar N) → (ℕ → List Kind) → Tower rule
level_tower level top kind feet ops = record { level = level; top = top; feet = feet; steps = λ p. branches (ops p) (operation level kind p); operand = λ p. such (level p) always }

pub level_lawful : {N : Type 0} {rule : N → Grammar N} (level : ℕ → N) (top : ℕ) (kind : ℕ → NodeKind) (feet : ℕ → Grammar N) (ops : ℕ → List Kind)
    → ((p : ℕ) → p ≤ top → Same rule (rule (level p)) (alt (alt (such (level (p + 1)) always) (feet p)) (branches (ops p) (operation level kind p)))) → Lawful {rule = rule} (level_tower level top kind feet ops)
level_lawful level top kind feet ops e = record { symbols = λ p h. refl; climbs = λ p h. (e p h).to; falls = λ p h. (e p h).back; linked = λ p h. operations_linked level kind p (ops p) }

-- One symbol with links behind it, any number of them, over any grammar.
module _ {N : Type 0} {rule : N → Grammar N} (n : N) (base g : Grammar N) where
  pub chain_lawful : Same rule (rule n) (alt base g) → Links n g → Lawful {rule = rule} (chain n base g)
  chain_lawful e lk = record {
    symbols = λ p h. let z : 0 ≡ p = omega arith in subst (λ v. cond (nat_eq v 0) (such n always) base ≡ such n always) z refl;
    climbs = λ p h ts us i j ls rest d. let z : 0 ≡ p = omega arith in subst (λ v. Takes rule (alt (alt (cond (nat_eq (v + 1) 0) (such n always) base) never) g) end ts i ls us j rest) z (without_feet.to ts us i j ls rest (e.to ts us i j ls rest d));
    falls = λ p h ts us i j ls rest d. let z : p ≡ 0 = omega arith in e.back ts us i j ls rest (without_feet.back ts us i j ls rest (subst (λ v. Takes rule (alt (alt (cond (nat_eq (v + 1) 0) (such n always) base) never) g) end ts i ls us j rest) z d));
    linked = λ p h. lk;
  }

  -- the loop of a chain begins with what its links stand behind
  pub chain_foot : {m c : ℕ} {h : Grammar N} → Foot {rule = rule} (chain n base g) m c h → {ts us : Slots} {i j : ℕ} {ls rest : Lexemes} → Takes rule h end ts i ls us j rest → Takes rule base end ts i ls us j rest
  chain_foot topmost d = d
  chain_foot (of_level a b) d = elim d [ ]
