-- Loops over operators where each foot has a test of its own for what may stand behind it.
use Rattle.std.proofs.Common.{ℕ, ◌≡◌, ◌≤◌, ◌+◌, ◌⊎◌, inl, inr, refl, sym, subst}
use Rattle.js_grammar.specs.Trees.{Slots, end, tree, Label}
use Rattle.js_grammar.specs.Grammar.{Lexeme, Lexemes, here, Grammar, such, Takes, is_nothing, is_such}
use Rattle.js_grammar.specs.Lexed.{Lexes}
use Rattle.js_grammar.specs.Parsing.{always, Test, Way, Admits, Reads, Fails}
use Rattle.js_grammar.specs.Towers.{Tower, Tail, Around}
use Rattle.js_grammar.proofs.Calculus.{label_is, slots_are, Heads, Within, here_at}
use Rattle.js_grammar.proofs.First.{FirstSets}
use Rattle.js_grammar.proofs.Loops.{Follows, moved, renamed, starting_tail}
use Rattle.js_grammar.proofs.Towers.{Foot, Lawful, unroll, roll, on_foot, foot_high, foot_low}

-- a foot that can't be read before what passes its test
pub record Unread {N : Type 0} {rule : N → Grammar N} (C : FirstSets rule) (Lex : ℕ → Lexeme → Type 0) (w : Tower rule) (m : ℕ) (X : Test) (s c : ℕ) (g : Grammar N) : Type 0 where
  pub test : Test
  pub fails : Fails rule Lex test end g s
  pub within : Within X test
  pub follows : Follows C.first w m c test

module _ {N : Type 0} {rule : N → Grammar N} (C : FirstSets rule) {Lex : ℕ → Lexeme → Type 0} {w : Tower rule} {m : ℕ} {X : Test} where
  -- a foot was read, and no other one can be
  pub start_each : {X' : Test} {s from s' c : ℕ} {g : Grammar N} {rn : Way} {l : Label} {cs : Slots} → Lawful w → m ≤ w.top + 1 → Foot w m c g → Reads rule Lex X' end g s s' (tree l cs) rn → ((c' : ℕ) (g' : Grammar N) → Foot w m c' g' → ((c' ≡ c) × (g' ≡ g)) ⊎ Unread C Lex w m X s c' g') → Within X X' → Follows C.first w m c X' → ((y : Lexeme) → Lex s y → y.from ≡ from) → Around Lex X w m s from c l cs s' rn
  start_each {X'} {s} {from} {s'} {c} {g} {rn} {l} {cs} law h t r o p f b = record {
    passes = r.passes;
    sound = λ m' ds k ls' rest i n u. roll w law (on_foot w law t (r.sound end end s' ls' ls' i n is_nothing)) (foot_high w h t) (foot_low w t) (renamed (sym (b (here (rn.pass ls')) (here_at Lex (rn.pass ls') (r.passes.lexed ls' i)))) refl refl u);
    only = λ m' ds k ls rest i d e. let y = unroll w law m' ds m s k ls rest h d in by_foot y.0 y.1 y.2 y.3 y.4 y.5 m' ds k ls rest (o y.4 y.5 y.6) i y.7 y.8 e;
    begins = b;
  }
    where
      by_foot : (l' : Label) (cs' : Slots) (j : ℕ) (mid : Lexemes) (c' : ℕ) (g' : Grammar N) (m' : Label) (ds : Slots) (k : ℕ) (ls rest : Lexemes) → ((c' ≡ c) × (g' ≡ g)) ⊎ Unread C Lex w m X s c' g' → Lexes Lex s ls → Takes rule g' end (tree l' cs' end) s ls end j mid → Tail w m (here ls).from c' l' cs' j mid m' ds k rest → Admits X (tree m' ds end) (here rest)
          → (ls' : Lexemes) × Lexes Lex s' ls' × Tail w m from c l cs s' ls' m' ds k rest × (ls ≡ rn.pass ls')
      by_foot l' cs' j mid c' g' m' ds k ls rest (inl q) i d u e =
          let v : Tail w m (here ls).from c l' cs' j mid m' ds k rest = subst (λ z. Tail w m (here ls).from z l' cs' j mid m' ds k rest) q.0 u in
          let x = r.only (tree l' cs' end) end j ls mid i (subst (λ z. Takes rule z end (tree l' cs' end) s ls end j mid) q.1 d) (starting_tail C X X' (tree l' cs' end) v e f (p (tree l' cs' end) (here mid))) in
          (x.1, x.3, renamed (b (here ls) (here_at Lex ls i)) (label_is x.2) (slots_are x.2) (moved x.4 v), x.5)
      by_foot l' cs' j mid c' g' m' ds k ls rest (inr n) i d u e = absurd (n.fails.no (tree l' cs' end) end j ls mid i d (starting_tail C X n.test (tree l' cs' end) u e n.follows (n.within (tree l' cs' end) (here mid))))

  -- no foot can be read
  pub start_none : {n : N} {ks : Slots} {s : ℕ} → Lawful w → w.operand m ≡ such n always → m ≤ w.top + 1 → ((c : ℕ) (g : Grammar N) → Foot w m c g → Unread C Lex w m X s c g) → Heads X X → Fails rule Lex X ks (such n always) s
  start_none {n} {ks} {s} law o h r a = record { no = λ ts vs k ls rest i d e. go ts vs k ls rest i d e }
    where
      go : (ts vs : Slots) (k : ℕ) (ls rest : Lexemes) → Lexes Lex s ls → Takes rule (such n always) ks ts s ls vs k rest → Admits X ts (here rest) → ⊥
      go ts vs k ls rest i (is_such {l = l} {cs = cs} d q) e =
          let y = unroll w law l cs m s k ls rest h (subst (λ v. Takes rule v end (tree l cs end) s ls end k rest) (sym o) (is_such d q)) in
          let u = r y.4 y.5 y.6 in
          u.fails.no (tree y.0 y.1 end) end y.2 ls y.3 i y.7 (starting_tail C X u.test (tree y.0 y.1 end) y.8 (a l cs vs (here rest) e) u.follows (u.within (tree y.0 y.1 end) (here y.3)))
