-- Loops that read left-recursive symbols: the start, a step, the end, and failures. For any grammar with first sets.
use Rattle.std.proofs.Common.{ℕ, ◌≡◌, ◌≤◌, ◌+◌, ◌⊎◌, inl, inr, Bool, true, false, ◌&&◌, IsTrue, List, [], ◌∷◌, ◌++◌, cond, refl, ap, sym, ◌∙◌, subst, arith}
use Rattle.std.proofs.lemmas.Bool.{or_left, or_right, and_parts, false≢true}
use Rattle.js_base.specs.declared.kind.Kind.{Kind}
use Rattle.js_base.specs.Kinds.{same_kind, one_of_kinds}
use Rattle.js_base.proofs.KindLemmas.{kind_of_same}
use Rattle.js_grammar.specs.Trees.{NodeKind, Slots, end, tree, Label}
use Rattle.js_grammar.specs.Grammar.{Lexeme, Lexemes, here, Look, seen, Grammar, nothing, never, such, alt, Takes, is_nothing, is_such}
use Rattle.js_grammar.specs.Lexed.{Lexes}
use Rattle.js_grammar.proofs.Looks.{none, either, covers, covered, some_of, some_at}
use Rattle.js_grammar.proofs.First.{FirstSets, starts, starting}
use Rattle.js_grammar.specs.Parsing.{always, full, Reaches, Way, joined, Test, plain, Admits, Reads, Fails}
use Rattle.js_grammar.specs.Towers.{Link, link, linked_label, Among, of_left, of_right, Tower, Tail, tail_none, tail_more, chain, Around}
use Rattle.js_grammar.proofs.Calculus.{label_is, slots_are, Heads, Within, On, weaken_fails, fails_never, here_at, a_far, b_far, passes_both}
use Rattle.js_grammar.proofs.Towers.{Links, one, two, guarded, none_at_all, Foot, topmost, of_level, an_link, under, unroll, roll, on_foot, foot_high, foot_low, Same, level_tower, operation_link, of_operations, to_operations, OneOf, head, later, Lawful, chain_lawful}

-- a link that may go around a node of the level c
abbrev pub Step : {N : Type 0} {rule : N → Grammar N} → Tower rule → ℕ → ℕ → ℕ → Link N → Type 0
Step w m c q x = (m ≤ q) × (q ≤ c) × (q ≤ w.top) × Among (w.level q) (w.steps q) x

-- what may begin a part may stand behind whatever
pub record Follows {N : Type 0} {rule : N → Grammar N} (first : N → Look) (w : Tower rule) (m c : ℕ) (X' : Test) : Type 0 where
  pub goes : (q : ℕ) (x : Link N) → Step w m c q x → (ts : Slots) (y : Lexeme) → IsTrue (seen (starts first x.part full) y) → Admits X' ts y

-- What may stand behind a link's node, around this one, may stand behind the part's slots: the node's right edge is its part's.
pub record Edges {N : Type 0} (rule : N → Grammar N) (X X' : Test) (x : Link N) (from : ℕ) (l : Label) (cs : Slots) (s' : ℕ) : Type 0 where
  pub ends : (es : Slots) (j : ℕ) (ls mid : Lexemes) (y : Lexeme) → Takes rule x.part end es s' ls end j mid → Admits X (tree (linked_label x from j) (tree l cs es) end) y → Admits X' es y

module _ {N : Type 0} {rule : N → Grammar N} {w : Tower rule} {m : ℕ} where
  pub renamed : {v v' c : ℕ} {l l' a : Label} {cs cs' bs : Slots} {i k : ℕ} {ls rest : Lexemes} → v ≡ v' → l ≡ l' → cs ≡ cs' → Tail w m v c l cs i ls a bs k rest → Tail w m v' c l' cs' i ls a bs k rest
  renamed {v} {v'} {c} {l} {l'} {a} {cs} {cs'} {bs} {i} {k} {ls} {rest} p q r t = subst (λ z. Tail w m v' c l' z i ls a bs k rest) r (subst (λ z. Tail w m v' c z cs i ls a bs k rest) q (subst (λ z. Tail w m z c l cs i ls a bs k rest) p t))

  pub moved : {from c : ℕ} {l a : Label} {cs bs us : Slots} {s' j k : ℕ} {ls' mid rest : Lexemes} → Takes rule nothing end us s' ls' end j mid → Tail w m from c l cs j mid a bs k rest → Tail w m from c l cs s' ls' a bs k rest
  moved is_nothing t = t

  grown : {from c : ℕ} {l a : Label} {cs bs ds us : Slots} {s' j k : ℕ} {ls' mid rest : Lexemes} (x : Link N) (f : Slots → Slots) → Takes rule nothing end us s' ls' end j mid → ds ≡ f us → Tail w m from c (linked_label x from j) (tree l cs ds) j mid a bs k rest
      → Tail w m from c (linked_label x from s') (tree l cs (f end)) s' ls' a bs k rest
  grown {l = l} {cs = cs} x f is_nothing e t = renamed refl refl (ap (λ z. tree l cs z) e) t

  -- at the topmost level a higher bound says no more
  raised : {from c c' : ℕ} {l a : Label} {cs bs : Slots} {i k : ℕ} {ls rest : Lexemes} → w.top ≤ c' → Tail w m from c l cs i ls a bs k rest → Tail w m from c' l cs i ls a bs k rest
  raised h tail_none = tail_none
  raised h (tail_more a b t y d more) = tail_more a (omega arith) t y d more

as_tree : {N : Type 0} {rule : N → Grammar N} {n : N} {ks ts us : Slots} {i j : ℕ} {ls rest : Lexemes} → Takes rule (such n always) ks ts i ls us j rest → (l : Label) × (cs : Slots) × (ts ≡ tree l cs us) × Takes rule (such n always) end (tree l cs end) i ls end j rest
as_tree (is_such {l = l} {cs = cs} d c) = (l, cs, refl, is_such d c)

pub rekept : {N : Type 0} {rule : N → Grammar N} {n : N} {ks : Slots} {l : Label} {cs : Slots} (us : Slots) {i j : ℕ} {ls rest : Lexemes} → Takes rule (such n always) end (tree l cs end) i ls end j rest → Takes rule (such n always) ks (tree l cs us) i ls us j rest
rekept us (is_such d c) = is_such d refl

at_tree : (X : Test) (y : Lexeme) {ts us : Slots} → Admits X ts y → ts ≡ us → Admits X us y
at_tree X y e q = (e.0, subst (λ v. IsTrue (seen (X.by v) y)) q e.1)

-- every other foot fails where this one stands
abbrev pub OtherFeet : {N : Type 0} {rule : N → Grammar N} → (ℕ → Lexeme → Type 0) → Tower rule → ℕ → Test → ℕ → ℕ → Grammar N → Type 0
OtherFeet {N} {rule} Lex w m X' s c g = (c' : ℕ) (g' : Grammar N) → Foot w m c' g' → ((c' ≡ c) × (g' ≡ g)) ⊎ Fails rule Lex X' end g' s

-- Where no level has a foot of its own, the topmost operand is the only one.
alone_on_top : {N : Type 0} {rule : N → Grammar N} {Lex : ℕ → Lexeme → Type 0} {w : Tower rule} {m : ℕ} {X' : Test} {s : ℕ} → ((q : ℕ) → q ≤ w.top → w.feet q ≡ never) → OtherFeet Lex w m X' s (w.top + 1) (w.operand (w.top + 1))
alone_on_top h c g topmost = inl (refl, refl)
alone_on_top {rule = rule} {Lex = Lex} {X' = X'} {s = s} h c g (of_level {q = q} a b) = inr (subst (λ v. Fails rule Lex X' end v s) (sym (h q b)) fails_never)

pub listed : {o : Kind} (os : List Kind) → OneOf o os → ((k : Kind) → same_kind k k ≡ true) → one_of_kinds os o ≡ true
listed [] i h = elim i [ ]
listed {o} (a ∷ os) head h = or_left _ _ (h o)
listed (a ∷ os) (later i) h = or_right _ _ (listed os i h)

-- Chains: the checks compute over the choices.
abbrev pub all_links : {N : Type 0} {n : N} {g : Grammar N} → Links n g → (Link N → Bool) → Bool
all_links (one {k = k} {o = o} {fl = fl} {a = a}) t = t (link k o fl a)
all_links (two a b) t = all_links a t && all_links b t
all_links (guarded a) t = all_links a t
all_links none_at_all t = true

pub each_link : {N : Type 0} {n : N} {g : Grammar N} (lk : Links n g) (t : Link N → Bool) → all_links lk t ≡ true → (x : Link N) → Among n g x → t x ≡ true
each_link one t h x i = subst (λ v. t v ≡ true) (sym (an_link i)) h
each_link (two a b) t h x (of_left i) = each_link a t (and_parts (all_links a t) (all_links b t) h).0 x i
each_link (two a b) t h x (of_right i) = each_link b t (and_parts (all_links a t) (all_links b t) h).1 x i
each_link (guarded a) t h x i = each_link a t h x (under i).1
each_link none_at_all t h x i = elim i [ ]

in_left : {A : Type 0} {x : A} {xs : List A} (ys : List A) → OneOf x xs → OneOf x (xs ++ ys)
in_left ys head = head
in_left ys (later i) = later (in_left ys i)

in_right : {A : Type 0} {x : A} (xs : List A) {ys : List A} → OneOf x ys → OneOf x (xs ++ ys)
in_right [] i = i
in_right (y ∷ xs) i = later (in_right xs i)

begins_so : {A : Type 0} (b : Bool) (x : A) → b ≡ true → OneOf x (cond b (x ∷ []) [])
begins_so true x h = head
begins_so false x h = absurd (false≢true h)

only_one : {A : Type 0} {x y : A} → OneOf x (y ∷ []) → x ≡ y
only_one head = refl
only_one (later i) = elim i [ ]

zero_only : {q : ℕ} → q ≤ 0 → q ≡ 0
zero_only h = omega arith

-- What is read up to a lexeme that may not follow can't be read: for a choice that begins as another one does, as a member before a call's arguments.
pub unfollowed : {N : Type 0} {rule : N → Grammar N} {Lex : ℕ → Lexeme → Type 0} {X X' : Test} {ks : Slots} {g : Grammar N} {s s' : ℕ} {rn : Way} {f : Slots → Slots} → Reads rule Lex X' ks g s s' f rn → On rule X X' ks g s → ((us : Slots) (y : Lexeme) → Lex s' y → Admits X (f us) y → ⊥) → Fails rule Lex X ks g s
unfollowed {N} {rule} {Lex} {X} {X'} {ks} {g} {s} {s'} {rn} {f} r c n = record { no = λ ts vs k ls rest i d e. let x = r.only ts vs k ls rest i d (c.admits ts vs k ls rest d e) in at_rest x.0 vs k x.1 rest x.3 x.4 (at_tree X (here rest) e x.2) }
  where
    at_rest : (us vs : Slots) (k : ℕ) (ls' rest : Lexemes) → Lexes Lex s' ls' → Takes rule nothing ks us s' ls' vs k rest → Admits X (f us) (here rest) → ⊥
    at_rest us vs k ls' rest i is_nothing e = n us (here ls') (here_at Lex ls' i) e

module _ {N : Type 0} {rule : N → Grammar N} (C : FirstSets rule) where
  module _ {w : Tower rule} {m : ℕ} where
    pub starting_tail : (X X' : Test) (ts : Slots) {from c : ℕ} {l l' : Label} {cs cs' : Slots} {i k : ℕ} {mid rest : Lexemes} → Tail w m from c l cs i mid l' cs' k rest → Admits X (tree l' cs' end) (here rest) → Follows C.first w m c X' → (Admits X (tree l cs end) (here mid) → Admits X' ts (here mid)) → Admits X' ts (here mid)
    starting_tail X X' ts tail_none e f h = h e
    starting_tail X X' ts {mid = mid} (tail_more {q = q} {x = x} a b t y p d) e f h = f.goes q x (a, b, t, y) ts (here mid) (starting C full p refl)

    follows_less : {c c' : ℕ} {X' : Test} → c ≤ c' → Follows C.first w m c' X' → Follows C.first w m c X'
    follows_less h f = record { goes = λ q x a ts y t. f.goes q x (a.0, (let i = a.1 in omega arith), a.2, a.3) ts y t }

  module _ {Lex : ℕ → Lexeme → Type 0} {w : Tower rule} {m : ℕ} {X : Test} where
    -- a foot was read
    pub start_at : {X' : Test} {s from s' c : ℕ} {g : Grammar N} {rn : Way} {l : Label} {cs : Slots} → Lawful w → m ≤ w.top + 1 → Foot w m c g → Reads rule Lex X' end g s s' (tree l cs) rn → OtherFeet Lex w m X' s c g → Within X X' → Follows C.first w m (w.top + 1) X' → ((y : Lexeme) → Lex s y → y.from ≡ from) → Around Lex X w m s from c l cs s' rn
    start_at {X'} {s} {from} {s'} {c} {g} {rn} {l} {cs} law h t r o p f b = record {
      passes = r.passes;
      sound = λ m' ds k ls' rest i n u. roll w law (on_foot w law t (r.sound end end s' ls' ls' i n is_nothing)) (foot_high w h t) (foot_low w t) (renamed (sym (b (here (rn.pass ls')) (here_at Lex (rn.pass ls') (r.passes.lexed ls' i)))) refl refl u);
      only = λ m' ds k ls rest i d e. let y = unroll w law m' ds m s k ls rest h d in by_foot y.0 y.1 y.2 y.3 y.4 y.5 m' ds k ls rest (o y.4 y.5 y.6) (foot_low w y.6) i y.7 y.8 e;
      begins = b;
    }
      where
        by_foot : (l' : Label) (cs' : Slots) (j : ℕ) (mid : Lexemes) (c' : ℕ) (g' : Grammar N) (m' : Label) (ds : Slots) (k : ℕ) (ls rest : Lexemes) → ((c' ≡ c) × (g' ≡ g)) ⊎ Fails rule Lex X' end g' s → c' ≤ w.top + 1 → Lexes Lex s ls → Takes rule g' end (tree l' cs' end) s ls end j mid → Tail w m (here ls).from c' l' cs' j mid m' ds k rest → Admits X (tree m' ds end) (here rest)
            → (ls' : Lexemes) × Lexes Lex s' ls' × Tail w m from c l cs s' ls' m' ds k rest × (ls ≡ rn.pass ls')
        by_foot l' cs' j mid c' g' m' ds k ls rest (inl q) v i d u e =
            let x = r.only (tree l' cs' end) end j ls mid i (subst (λ z. Takes rule z end (tree l' cs' end) s ls end j mid) q.1 d) (starting_tail X X' (tree l' cs' end) u e (follows_less v f) (p (tree l' cs' end) (here mid))) in
            (x.1, x.3, subst (λ z. Tail w m from z l cs s' x.1 m' ds k rest) q.0 (renamed (b (here ls) (here_at Lex ls i)) (label_is x.2) (slots_are x.2) (moved x.4 u)), x.5)
        by_foot l' cs' j mid c' g' m' ds k ls rest (inr n) v i d u e = absurd (n.no (tree l' cs' end) end j ls mid i d (starting_tail X X' (tree l' cs' end) u e (follows_less v f) (p (tree l' cs' end) (here mid))))

    -- no foot can be read
    pub start_fails_at : {n : N} {X' : Test} {ks : Slots} {s : ℕ} → Lawful w → w.operand m ≡ such n always → m ≤ w.top + 1 → ((c : ℕ) (g : Grammar N) → Foot w m c g → Fails rule Lex X' end g s) → Heads X X → Within X X' → Follows C.first w m (w.top + 1) X' → Fails rule Lex X ks (such n always) s
    start_fails_at {n} {X'} {ks} {s} law o h r a g f = record {
      no = λ ts vs k ls rest i d e. let z = as_tree d in let y = unroll w law z.0 z.1 m s k ls rest h (subst (λ v. Takes rule v end (tree z.0 z.1 end) s ls end k rest) (sym o) z.3) in
          (r y.4 y.5 y.6).no (tree y.0 y.1 end) end y.2 ls y.3 i y.7 (starting_tail X X' (tree y.0 y.1 end) y.8 (a z.0 z.1 vs (here rest) (at_tree X (here rest) e z.2)) (follows_less (foot_low w y.6) f) (g (tree y.0 y.1 end) (here y.3)));
    }

    pub start : {X' : Test} {s from s' : ℕ} {rn : Way} {l : Label} {cs : Slots} → Lawful w → ((q : ℕ) → q ≤ w.top → w.feet q ≡ never) → m ≤ w.top + 1 → Reads rule Lex X' end (w.operand (w.top + 1)) s s' (tree l cs) rn → Within X X' → Follows C.first w m (w.top + 1) X' → ((y : Lexeme) → Lex s y → y.from ≡ from) → Around Lex X w m s from (w.top + 1) l cs s' rn
    start law n h r p f b = start_at law h topmost r (alone_on_top n) p f b

    pub start_fails : {n : N} {X' : Test} {ks : Slots} {s : ℕ} → Lawful w → ((q : ℕ) → q ≤ w.top → w.feet q ≡ never) → w.operand m ≡ such n always → m ≤ w.top + 1 → Fails rule Lex X' end (w.operand (w.top + 1)) s → Heads X X → Within X X' → Follows C.first w m (w.top + 1) X' → Fails rule Lex X ks (such n always) s
    start_fails {n} {X'} {ks} {s} law z o h r a p f = start_fails_at law o h each a p f
      where
        each : (c : ℕ) (g : Grammar N) → Foot w m c g → Fails rule Lex X' end g s
        each c g topmost = r
        each c g (of_level {q = q} d e) = subst (λ v. Fails rule Lex X' end v s) (sym (z q e)) fails_never

    -- no part can stand here
    pub finish : {n : N} {X' : Test} {ks : Slots} {s from c s' : ℕ} {rn : Way} {l : Label} {cs : Slots} → w.operand m ≡ such n always → Heads X' X → Around Lex X w m s from c l cs s' rn → ((q : ℕ) (x : Link N) → Step w m c q x → (y : Lexeme) → Lex s' y → IsTrue (seen (starts C.first x.part full) y) → ⊥) → Reads rule Lex X' ks (such n always) s s' (tree l cs) rn
    finish {n} {X'} {ks} {s} {from} {c} {s'} {rn} {l} {cs} o g a none_here = record {
      passes = a.passes;
      sound = λ us vs k ls' rest i h d. go_sound us vs k ls' rest i h d;
      only = λ ts vs k ls rest i d e. let z = as_tree d in let y = a.only z.0 z.1 k ls rest i (subst (λ v. Takes rule v end (tree z.0 z.1 end) s ls end k rest) (sym o) z.3) (g z.0 z.1 vs (here rest) (at_tree X' (here rest) e z.2)) in go_only ts vs k ls rest y.0 z.0 z.1 z.2 y.1 y.2 y.3;
    }
      where
        go_sound : (us vs : Slots) (k : ℕ) (ls' rest : Lexemes) → Lexes Lex s' ls' → Reaches rn.reach s' ls' → Takes rule nothing ks us s' ls' vs k rest → Takes rule (such n always) ks (tree l cs us) s (rn.pass ls') vs k rest
        go_sound us vs k ls' rest i h is_nothing = rekept us (subst (λ v. Takes rule v end (tree l cs end) s (rn.pass ls') end s' ls') o (a.sound l cs s' ls' ls' i h tail_none))

        go_only : (ts vs : Slots) (k : ℕ) (ls rest ls' : Lexemes) (m' : Label) (ds : Slots) → ts ≡ tree m' ds vs → Lexes Lex s' ls' → Tail w m from c l cs s' ls' m' ds k rest → ls ≡ rn.pass ls' → (us : Slots) × (ls' : Lexemes) × (ts ≡ tree l cs us) × Lexes Lex s' ls' × Takes rule nothing ks us s' ls' vs k rest × (ls ≡ rn.pass ls')
        go_only ts vs k ls rest ls' m' ds q i tail_none z = (vs, ls', q, i, is_nothing, z)
        go_only ts vs k ls rest ls' m' ds q i (tail_more {q = p} {x = x} a' b t y d more) z = absurd (none_here p x (a', b, t, y) (here ls') (here_at Lex ls' i) (starting C full d refl))

    pub recap : {s from c c' s' : ℕ} {rn : Way} {l : Label} {cs : Slots} → Around Lex X w m s from c l cs s' rn → w.top ≤ c → w.top ≤ c' → Around Lex X w m s from c' l cs s' rn
    recap a h h' = record { passes = a.passes; sound = λ m' ds k ls' rest i n t. a.sound m' ds k ls' rest i n (raised h t); only = λ m' ds k ls rest i d e. let y = a.only m' ds k ls rest i d e in (y.0, y.1, raised h' y.2, y.3); begins = a.begins }

  -- One link alone can go around this node here, and the symbol, read as this node, can't end here.
  pub record Alone (Lex : ℕ → Lexeme → Type 0) (X : Test) (w : Tower rule) (m c s' q : ℕ) (x : Link N) (l : Label) (cs : Slots) : Type 0 where
    pub step : Step w m c q x
    pub other : (q' : ℕ) (x' : Link N) → Step w m c q' x' → (y : Lexeme) → Lex s' y → IsTrue (seen (starts C.first x'.part full) y) → ((q' ≡ q) × (x' ≡ x)) ⊎ Fails rule Lex (plain full) end x'.part s'
    pub goes_on : (y : Lexeme) → Lex s' y → Admits X (tree l cs end) y → ⊥

  module _ {Lex : ℕ → Lexeme → Type 0} {X : Test} {w : Tower rule} {m s from c s' : ℕ} {rn : Way} {l : Label} {cs : Slots} {q : ℕ} {x : Link N} (a : Around Lex X w m s from c l cs s' rn) (y : Alone Lex X w m c s' q x l cs) where
    same_part : (m' : Label) (ds : Slots) (k : ℕ) (ls rest : Lexemes) (q' : ℕ) (x' : Link N) (es : Slots) (j : ℕ) (mid : Lexemes) → ((q' ≡ q) × (x' ≡ x)) ⊎ Fails rule Lex (plain full) end x'.part s' → Lexes Lex s' ls → Takes rule x'.part end es s' ls end j mid → Tail w m from q' (linked_label x' from j) (tree l cs es) j mid m' ds k rest
        → (es : Slots) × (j : ℕ) × (mid : Lexemes) × Takes rule x.part end es s' ls end j mid × Tail w m from q (linked_label x from j) (tree l cs es) j mid m' ds k rest
    same_part m' ds k ls rest q' x' es j mid (inl same) i d more =
        (es, j, mid, subst (λ v. Takes rule v.part end es s' ls end j mid) same.1 d, subst (λ v. Tail w m from v (linked_label x from j) (tree l cs es) j mid m' ds k rest) same.0 (subst (λ v. Tail w m from q' (linked_label v from j) (tree l cs es) j mid m' ds k rest) same.1 more))
    same_part m' ds k ls rest q' x' es j mid (inr n) i d more = absurd (n.no es end j ls mid i d (refl, refl))

    part_here : (m' : Label) (ds : Slots) (k : ℕ) (ls rest : Lexemes) → Lexes Lex s' ls → Tail w m from c l cs s' ls m' ds k rest → Admits X (tree m' ds end) (here rest)
        → (es : Slots) × (j : ℕ) × (mid : Lexemes) × Takes rule x.part end es s' ls end j mid × Tail w m from q (linked_label x from j) (tree l cs es) j mid m' ds k rest
    part_here m' ds k ls rest i tail_none e = absurd (y.goes_on (here ls) (here_at Lex ls i) e)
    part_here m' ds k ls rest i (tail_more {q = q'} {x = x'} {ds = es} {j = j} {mid = mid} g h t z d more) e =
        same_part m' ds k ls rest q' x' es j mid (y.other q' x' (g, h, t, z) (here ls) (here_at Lex ls i) (starting C full d refl)) i d more

    -- what stands behind a part
    part_admits : {X' : Test} → Edges rule X X' x from l cs s' → Follows C.first w m q X' → (es : Slots) (j : ℕ) (ls' mid : Lexemes) (m' : Label) (ds : Slots) (k : ℕ) (rest : Lexemes) → Takes rule x.part end es s' ls' end j mid → Tail w m from q (linked_label x from j) (tree l cs es) j mid m' ds k rest → Admits X (tree m' ds end) (here rest) → Admits X' es (here mid)
    part_admits {X'} h g es j ls' mid m' ds k rest d t e = starting_tail X X' es t e g (h.ends es j ls' mid (here mid) d)

    -- a part stands here, and the node goes around it
    pub step : {X' : Test} {s'' : ℕ} {rm : Way} {f : Slots → Slots} → Reads rule Lex X' end x.part s' s'' f rm → Edges rule X X' x from l cs s' → Follows C.first w m q X' → Around Lex X w m s from q (linked_label x from s'') (tree l cs (f end)) s'' (joined rn rm)
    step {X'} {s''} {rm} {f} r h g = record {
      passes = passes_both a.passes r.passes;
      sound = λ m' ds k ls' rest i n t. a.sound m' ds k (rm.pass ls') rest (r.passes.lexed ls' i) (a_far rn rm r.passes ls' n) (tail_more y.step.0 y.step.1 y.step.2 y.step.3 (r.sound end end s'' ls' ls' i (b_far rn rm _ ls' n) is_nothing) t);
      only = λ m' ds k ls rest i d e. let u = a.only m' ds k ls rest i d e in let v = part_here m' ds k u.0 rest u.1 u.2 e in let z = r.only v.0 end v.1 u.0 v.2 u.1 v.3 (part_admits h g v.0 v.1 u.0 v.2 m' ds k rest v.3 v.4 e) in
          (z.1, z.3, grown x f z.4 z.2 v.4, u.3 ∙ ap rn.pass z.5);
      begins = a.begins;
    }

    pub step_fails : {n : N} {ks : Slots} {X' X'' : Test} → w.operand m ≡ such n always → Fails rule Lex X' end x.part s' → Heads X'' X → Edges rule X X' x from l cs s' → Follows C.first w m q X' → Fails rule Lex X'' ks (such n always) s
    step_fails {X' = X'} {X'' = X''} o r p h g = record {
      no = λ ts vs k ls rest i d e. let b = as_tree d in let e' = p b.0 b.1 vs (here rest) (at_tree X'' (here rest) e b.2) in let u = a.only b.0 b.1 k ls rest i (subst (λ v. Takes rule v end (tree b.0 b.1 end) s ls end k rest) (sym o) b.3) e' in let v = part_here b.0 b.1 k u.0 rest u.1 u.2 e' in
          r.no v.0 end v.1 u.0 v.2 u.1 v.3 (part_admits h g v.0 v.1 u.0 v.2 b.0 b.1 k rest v.3 v.4 e');
    }

  -- The rules of operators, for any table of levels, where each operator stands at one level.
  module _ (level : ℕ → N) (top : ℕ) (kind : ℕ → NodeKind) (feet : ℕ → Grammar N) (ops : ℕ → List Kind) where
    -- the next lexeme tells the part
    pub part_at : (m c q : ℕ) (x : Link N) → Step (level_tower {rule = rule} level top kind feet ops) m c q x → (k : Kind) (w e : Bool) → starts C.first x.part full k w e ≡ true → OneOf k (ops q) × (x ≡ operation_link level kind q k)
    part_at m c q x a k w e h =
        let y = of_operations level kind q (ops q) a.3 in
        let same : y.0 ≡ k = kind_of_same y.0 k (and_parts _ _ (subst (λ v. starts C.first v.part full k w e ≡ true) y.2 h)).0 in
        (subst (λ v. OneOf v (ops q)) same y.1, y.2 ∙ ap (λ v. operation_link level kind q v) same)

    pub operators_follow : {m c : ℕ} {X' : Test} → ((q : ℕ) (ts : Slots) (y : Lexeme) → OneOf y.kind (ops q) → m ≤ q → q ≤ c → q ≤ top → Admits X' ts y) → Follows C.first (level_tower {rule = rule} level top kind feet ops) m c X'
    operators_follow {m} {c} i = record { goes = λ q x a ts y t. i q ts y (part_at m c q x a y.kind y.newline y.escaped t).0 a.0 a.1 a.2 }

    -- the operator here stands at one level
    pub one_operator : {Lex : ℕ → Lexeme → Type 0} {X : Test} {m c s q : ℕ} {l : Label} {cs : Slots} (k : Kind) → ((y : Lexeme) → Lex s y → y.kind ≡ k) → m ≤ q → q ≤ c → q ≤ top → OneOf k (ops q) → ((q' : ℕ) → OneOf k (ops q') → q' ≡ q) → ((y : Lexeme) → Lex s y → Admits X (tree l cs end) y → ⊥)
        → Alone Lex X (level_tower {rule = rule} level top kind feet ops) m c s q (operation_link level kind q k) l cs
    one_operator {Lex} {X} {m} {c} {s} {q} {l} {cs} k z a b d i u g = record {
      step = (a, b, d, to_operations level kind q (ops q) i);
      other = λ q' x' st y n t. let r = part_at m c q' x' st y.kind y.newline y.escaped t in let same = z y n in let v = u q' (subst (λ a. OneOf a (ops q')) same r.0) in inl (v, r.1 ∙ (ap (λ a. operation_link level kind q' a) same ∙ ap (λ a. operation_link level kind a k) v));
      goes_on = g;
    }

    -- no operator of the levels between may stand here
    pub operators_end : {Lex : ℕ → Lexeme → Type 0} {X X' : Test} {ks : Slots} {m c s from s' : ℕ} {rn : Way} {l : Label} {cs : Slots} → Heads X' X → Around Lex X (level_tower {rule = rule} level top kind feet ops) m s from c l cs s' rn → ((q : ℕ) → m ≤ q → q ≤ c → (y : Lexeme) → Lex s' y → OneOf y.kind (ops q) → ⊥) → Reads rule Lex X' ks (such (level m) always) s s' (tree l cs) rn
    operators_end {m = m} {c = c} g a n = finish refl g a (λ q x st y l t. let r = part_at m c q x st y.kind y.newline y.escaped t in n q st.0 st.1 y l r.0)

  -- the links that may begin with a lexeme of this kind
  abbrev pub beginning : {n : N} {g : Grammar N} → Links n g → Kind → List (Link N)
  beginning (one {k = k} {o = o} {fl = fl} {a = a}) j = cond (some_of (starts C.first a full j)) (link k o fl a ∷ []) []
  beginning (two a b) j = beginning a j ++ beginning b j
  beginning (guarded a) j = beginning a j
  beginning none_at_all j = []

  pub in_beginning : {n : N} {g : Grammar N} (lk : Links n g) (j : Kind) (x : Link N) → Among n g x → some_of (starts C.first x.part full j) ≡ true → OneOf x (beginning lk j)
  in_beginning (one {k = k} {o = o} {fl = fl} {a = a}) j x i h = subst (λ v. OneOf v (cond (some_of (starts C.first a full j)) (link k o fl a ∷ []) [])) (sym (an_link i)) (begins_so (some_of (starts C.first a full j)) (link k o fl a) (subst (λ v. some_of (starts C.first v.part full j) ≡ true) (an_link i) h))
  in_beginning (two a b) j x (of_left i) h = in_left (beginning b j) (in_beginning a j x i h)
  in_beginning (two a b) j x (of_right i) h = in_right (beginning a j) (in_beginning b j x i h)
  in_beginning (guarded a) j x i h = in_beginning a j x (under i).1 h
  in_beginning none_at_all j x i h = elim i [ ]

  -- what the links begin with
  abbrev pub linked_starts : {n : N} {g : Grammar N} → Links n g → Look
  linked_starts (one {a = a}) = starts C.first a full
  linked_starts (two a b) = either (linked_starts a) (linked_starts b)
  linked_starts (guarded a) = linked_starts a
  linked_starts none_at_all = none

  in_starts : {n : N} {g : Grammar N} (lk : Links n g) (x : Link N) → Among n g x → (k : Kind) (w e : Bool) → starts C.first x.part full k w e ≡ true → linked_starts lk k w e ≡ true
  in_starts one x i k w e h = subst (λ v. starts C.first v.part full k w e ≡ true) (an_link i) h
  in_starts (two a b) x (of_left i) k w e h = or_left _ _ (in_starts a x i k w e h)
  in_starts (two a b) x (of_right i) k w e h = or_right _ _ (in_starts b x i k w e h)
  in_starts (guarded a) x i k w e h = in_starts a x (under i).1 k w e h
  in_starts none_at_all x i k w e h = elim i [ ]

  -- The rules of a chain: a symbol n that is base, or a link behind itself.
  module _ {n : N} {base g : Grammar N} (e : Same rule (rule n) (alt base g)) (lk : Links n g) where
    abbrev pub Chained : (ℕ → Lexeme → Type 0) → Test → ℕ → ℕ → Label → Slots → ℕ → Way → Type 0
    Chained Lex X s from l cs s' way = Around Lex X (chain {rule = rule} n base g) 0 s from 1 l cs s' way

    of_step : (c q : ℕ) (x : Link N) → Step (chain {rule = rule} n base g) 0 c q x → (q ≡ 0) × Among n g x
    of_step c q x a = (zero_only a.2, a.3)

    follows : {c : ℕ} {F' : Look} → all_links lk (λ x. covers (starts C.first x.part full) F') ≡ true → Follows C.first (chain {rule = rule} n base g) 0 c (plain F')
    follows {c} {F'} i = record { goes = λ q x a ts y t. (covered (starts C.first x.part full) F' (each_link lk (λ x. covers (starts C.first x.part full) F') i x (of_step c q x a).1) y.kind y.newline y.escaped t, refl) }

    pub chain_start : {Lex : ℕ → Lexeme → Type 0} {X : Test} {F' : Look} {s from s' : ℕ} {rn : Way} {l : Label} {cs : Slots} → Reads rule Lex (plain F') end base s s' (tree l cs) rn → covers X.base F' ≡ true → all_links lk (λ x. covers (starts C.first x.part full) F') ≡ true → ((y : Lexeme) → Lex s y → y.from ≡ from) → Chained Lex X s from l cs s' rn
    chain_start {Lex} {X} {F'} r h i b = start {Lex = Lex} {w = chain {rule = rule} n base g} {m = 0} {X = X} {X' = plain F'} (chain_lawful n base g e lk) (λ q h. refl) (omega arith) r (λ ts y p. (covered X.base F' h _ _ _ p.0, refl)) (follows i) b

    pub chain_start_fails : {Lex : ℕ → Lexeme → Type 0} {X : Test} {F' : Look} {ks : Slots} {s : ℕ} → Fails rule Lex (plain F') end base s → covers X.base F' ≡ true → all_links lk (λ x. covers (starts C.first x.part full) F') ≡ true → Fails rule Lex X ks (such n always) s
    chain_start_fails {Lex} {X} {F'} r h i = weaken_fails (start_fails {Lex = Lex} {w = chain {rule = rule} n base g} {m = 0} {X = plain X.base} {X' = plain F'} (chain_lawful n base g e lk) (λ q h. refl) refl (omega arith) r (λ l cs vs y p. p) (λ ts y p. (covered X.base F' h _ _ _ p.0, refl)) (follows i)) (λ ts y p. (p.0, refl))

    alone : {Lex : ℕ → Lexeme → Type 0} {X : Test} {s' : ℕ} {x : Link N} {l : Label} {cs : Slots} (k : Kind) → ((y : Lexeme) → Lex s' y → y.kind ≡ k) → Among n g x → ((x' : Link N) → OneOf x' (beginning lk k) → (x' ≡ x) ⊎ Fails rule Lex (plain full) end x'.part s') → ((y : Lexeme) → Lex s' y → Admits X (tree l cs end) y → ⊥) → Alone Lex X (chain {rule = rule} n base g) 0 1 s' 0 x l cs
    alone {Lex} {X} {s'} {x} {l} {cs} k h a b f = record {
      step = (omega arith, omega arith, omega arith, a);
      other = λ q' x' st y i t. let z = of_step 1 q' x' st in at_level q' x' z.0 (b x' (in_beginning lk k x' z.1 (subst (λ v. some_of (starts C.first x'.part full v) ≡ true) (h y i) (some_at (starts C.first x'.part full y.kind) y.newline y.escaped t))));
      goes_on = f;
    }
      where
        at_level : (q' : ℕ) (x' : Link N) → q' ≡ 0 → (x' ≡ x) ⊎ Fails rule Lex (plain full) end x'.part s' → ((q' ≡ 0) × (x' ≡ x)) ⊎ Fails rule Lex (plain full) end x'.part s'
        at_level q' x' z (inl w) = inl (z, w)
        at_level q' x' z (inr w) = inr w

    -- a link that stands alone
    single : {Lex : ℕ → Lexeme → Type 0} {s' : ℕ} {x : Link N} (k : Kind) → beginning lk k ≡ x ∷ [] → (x' : Link N) → OneOf x' (beginning lk k) → (x' ≡ x) ⊎ Fails rule Lex (plain full) end x'.part s'
    single k b x' i = inl (only_one (subst (λ v. OneOf x' v) b i))

    stops_at : (Lex : ℕ → Lexeme → Type 0) (X : Test) {s' : ℕ} {l : Label} {cs : Slots} {k : Kind} → ((y : Lexeme) → Lex s' y → y.kind ≡ k) → some_of (X.base k) ≡ false → (y : Lexeme) → Lex s' y → Admits X (tree l cs end) y → ⊥
    stops_at Lex X h f y i t = false≢true (sym f ∙ subst (λ v. some_of (X.base v) ≡ true) (h y i) (some_at (X.base y.kind) y.newline y.escaped t.0))

    part_edges : {X : Test} {F' : Look} {x : Link N} {from : ℕ} {l : Label} {cs : Slots} {s' : ℕ} → covers X.base F' ≡ true → Edges rule X (plain F') x from l cs s'
    part_edges {X} {F'} c = record { ends = λ es j ls mid y d p. (covered X.base F' c _ _ _ p.0, refl) }

    -- The lexeme k begins the part of the link x; of the other links that it may begin none can be read, and what is read can't end before it.
    pub chain_step_by : {Lex : ℕ → Lexeme → Type 0} {X : Test} {F' : Look} {s from s' s'' : ℕ} {rn rm : Way} {l : Label} {cs : Slots} {x : Link N} {f : Slots → Slots} (k : Kind) → Chained Lex X s from l cs s' rn → ((y : Lexeme) → Lex s' y → y.kind ≡ k) → Among n g x
        → ((x' : Link N) → OneOf x' (beginning lk k) → (x' ≡ x) ⊎ Fails rule Lex (plain full) end x'.part s') → ((y : Lexeme) → Lex s' y → Admits X (tree l cs end) y → ⊥)
        → Reads rule Lex (plain F') end x.part s' s'' f rm → covers X.base F' ≡ true → all_links lk (λ x. covers (starts C.first x.part full) F') ≡ true → Chained Lex X s from (linked_label x from s'') (tree l cs (f end)) s'' (joined rn rm)
    chain_step_by k a h i b t r c d = recap (step a (alone k h i b t) r (part_edges c) (follows d)) (omega arith) (omega arith)

    pub chain_step_fails_by : {Lex : ℕ → Lexeme → Type 0} {X X' : Test} {F' : Look} {ks : Slots} {s from s' : ℕ} {rn : Way} {l : Label} {cs : Slots} {x : Link N} (k : Kind) → Chained Lex X s from l cs s' rn → ((y : Lexeme) → Lex s' y → y.kind ≡ k) → Among n g x
        → ((x' : Link N) → OneOf x' (beginning lk k) → (x' ≡ x) ⊎ Fails rule Lex (plain full) end x'.part s') → ((y : Lexeme) → Lex s' y → Admits X (tree l cs end) y → ⊥)
        → Heads X' X → Fails rule Lex (plain F') end x.part s' → covers X.base F' ≡ true → all_links lk (λ x. covers (starts C.first x.part full) F') ≡ true → Fails rule Lex X' ks (such n always) s
    chain_step_fails_by k a h i b t p r c d = step_fails a (alone k h i b t) refl r p (part_edges c) (follows d)

    -- it begins the part of this link alone
    pub chain_step : {Lex : ℕ → Lexeme → Type 0} {X : Test} {F' : Look} {s from s' s'' : ℕ} {rn rm : Way} {l : Label} {cs : Slots} {x : Link N} {f : Slots → Slots} (k : Kind) → Chained Lex X s from l cs s' rn → ((y : Lexeme) → Lex s' y → y.kind ≡ k) → Among n g x → beginning lk k ≡ x ∷ [] → some_of (X.base k) ≡ false
        → Reads rule Lex (plain F') end x.part s' s'' f rm → covers X.base F' ≡ true → all_links lk (λ x. covers (starts C.first x.part full) F') ≡ true → Chained Lex X s from (linked_label x from s'') (tree l cs (f end)) s'' (joined rn rm)
    chain_step {Lex} {X} k a h i b t r c d = chain_step_by k a h i (single k b) (stops_at Lex X h t) r c d

    pub chain_step_fails : {Lex : ℕ → Lexeme → Type 0} {X X' : Test} {F' : Look} {ks : Slots} {s from s' : ℕ} {rn : Way} {l : Label} {cs : Slots} {x : Link N} (k : Kind) → Chained Lex X s from l cs s' rn → ((y : Lexeme) → Lex s' y → y.kind ≡ k) → Among n g x → beginning lk k ≡ x ∷ [] → some_of (X.base k) ≡ false
        → Heads X' X → Fails rule Lex (plain F') end x.part s' → covers X.base F' ≡ true → all_links lk (λ x. covers (starts C.first x.part full) F') ≡ true → Fails rule Lex X' ks (such n always) s
    chain_step_fails {Lex} {X} k a h i b t p r c d = chain_step_fails_by k a h i (single k b) (stops_at Lex X h t) p r c d

    -- no part begins here
    pub chain_end : {Lex : ℕ → Lexeme → Type 0} {X X' : Test} {ks : Slots} {s from s' : ℕ} {rn : Way} {l : Label} {cs : Slots} → Heads X' X → Chained Lex X s from l cs s' rn → ((y : Lexeme) → Lex s' y → IsTrue (seen (linked_starts lk) y) → ⊥) → Reads rule Lex X' ks (such n always) s s' (tree l cs) rn
    chain_end p a h = finish refl p a (λ q x st y l t. h y l (in_starts lk x (of_step 1 q x st).1 y.kind y.newline y.escaped t))
