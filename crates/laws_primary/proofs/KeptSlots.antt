-- What stands behind decorators: a node whose last slots are the kept ones, with these and without. Over any lexing.
use Rattle.std.proofs.Common.{ℕ, ◌≡◌, Bool, true, false, ◌&&◌, IsTrue, refl, ap, sym, ◌∙◌, subst}
use Rattle.std.proofs.lemmas.Bool.{false≢true, and_from, and_parts}
use Rattle.js_grammar.specs.Trees.{NodeKind, Op, Label, Slots, end, tree, append}
use Rattle.js_grammar.specs.Grammar.{Lexeme, Lexemes, here, Look, seen, Make, exact, Grammar, nothing, ahead, seq, alt, when, many, commas, such, node, ended, keep, kept, many_once, commas_once, Takes, is_nothing, is_lexeme, is_look, is_text, is_ahead, is_empty_slot, is_seq, is_left, is_right, is_when, is_many, is_commas, is_such, is_marked, is_node, is_ended, is_keep, is_kept}
use Rattle.js_grammar.specs.Lexed.{Lexes}
use Rattle.js_grammar.specs.Parsing.{always, full, Reaches, Way, joined, Test, plain, Admits, Goes, Reads, Fails}
use Rattle.js_grammar.specs.Productions.{G, Symbol}
use Rattle.js_grammar.specs.Table.{rule}
use Rattle.js_grammar.specs.FirstSets.{first}
use Rattle.js_grammar.proofs.Looks.{covers, covered}
use Rattle.js_grammar.proofs.First.{starts, starting}
use Rattle.js_grammar.proofs.FirstClaims.{firsts}
use Rattle.js_grammar.proofs.Frame.{append_end, append_assoc, framed}
use Rattle.js_grammar.proofs.Calculus.{a_far, b_far, ends, here_at, label_is, passes_both, slots_are}
use Rattle.laws_primary.specs.Decorators.{spanning}

-- ---- the slots that are kept

-- the kept slots aren't put in
abbrev pub without_kept : {N : Type 0} → Grammar N → Bool
without_kept kept = false
without_kept (seq a b) = without_kept a && without_kept b
without_kept (alt a b) = without_kept a && without_kept b
without_kept (ahead a) = without_kept a
without_kept (when c a) = without_kept a
without_kept (many a) = without_kept a
without_kept (commas b a) = without_kept a
without_kept (node m a) = without_kept a
without_kept (ended rows a) = without_kept a
without_kept (keep a b) = without_kept a
without_kept g = true

many_without : {N : Type 0} (a : Grammar N) → without_kept a ≡ true → without_kept (many_once a) ≡ true
many_without a h = and_from _ _ (and_from _ _ h h) refl

commas_without : {N : Type 0} (b : Bool) (a : Grammar N) → without_kept a ≡ true → without_kept (commas_once b a) ≡ true
commas_without true a h = and_from _ _ h (and_from _ _ (and_from _ _ h refl) refl)
commas_without false a h = and_from _ _ h (and_from _ _ h refl)

module _ {N : Type 0} {rules : N → Grammar N} where
  -- then any may be kept
  pub keeps_any : {g : Grammar N} {ks ms ts us : Slots} {i j : ℕ} {ls rest : Lexemes} → Takes rules g ks ts i ls us j rest → without_kept g ≡ true → Takes rules g ms ts i ls us j rest
  keeps_any is_nothing h = is_nothing
  keeps_any (is_lexeme p) h = is_lexeme p
  keeps_any (is_look p) h = is_look p
  keeps_any (is_text p) h = is_text p
  keeps_any (is_ahead d) h = is_ahead (keeps_any d h)
  keeps_any is_empty_slot h = is_empty_slot
  keeps_any (is_seq d e) h = let x = and_parts _ _ h in is_seq (keeps_any d x.0) (keeps_any e x.1)
  keeps_any (is_left d) h = is_left (keeps_any d (and_parts _ _ h).0)
  keeps_any (is_right d) h = is_right (keeps_any d (and_parts _ _ h).1)
  keeps_any (is_when q d) h = is_when q (keeps_any d h)
  keeps_any (is_many {a = a} d) h = is_many (keeps_any d (many_without a h))
  keeps_any (is_commas {b = b} {a = a} d) h = is_commas (keeps_any d (commas_without b a h))
  keeps_any (is_such d q) h = is_such d q
  keeps_any (is_marked d) h = is_marked d
  keeps_any (is_node d) h = is_node (keeps_any d h)
  keeps_any (is_ended q d e) h = is_ended q (keeps_any d h) (keeps_any e refl)
  keeps_any (is_keep d e) h = is_keep (keeps_any d h) e
  keeps_any (is_kept q) h = absurd (false≢true h)

-- the kept slots are the last ones
pub data EndsKept {N : Type 0} : Grammar N → Type 0 where
  kept_alone : EndsKept kept
  kept_behind : {a b : Grammar N} → without_kept a ≡ true → EndsKept b → EndsKept (seq a b)

module _ {N : Type 0} {rules : N → Grammar N} where
  -- slots that are kept come behind the others
  pub slots_added : {b : Grammar N} (ds : Slots) → EndsKept b → {cs : Slots} {i j : ℕ} {ls rest : Lexemes} → Takes rules b end cs i ls end j rest → Takes rules b ds (append cs ds) i ls end j rest
  slots_added ds kept_alone (is_kept q) = is_kept (ap (λ z. append z ds) q ∙ sym (append_end ds))
  slots_added ds (kept_behind {a = a} {b = b} w k) {cs} {i} {j} {ls} {rest} (is_seq {us = us} d e) =
      let x = framed d in
      let q : append cs ds ≡ append x.0 (append us ds) = ap (λ z. append z ds) x.1 ∙ append_assoc x.0 us ds in
      subst (λ z. Takes rules (seq a b) ds z i ls end j rest) (sym q) (is_seq (keeps_any (x.2 (append us ds)) w) (slots_added ds k e))

  -- and without them the others are taken
  pub slots_taken : {b : Grammar N} (ds : Slots) → EndsKept b → {ts : Slots} {i j : ℕ} {ls rest : Lexemes} → Takes rules b ds ts i ls end j rest → (cs : Slots) × (ts ≡ append cs ds) × Takes rules b end cs i ls end j rest
  slots_taken ds kept_alone (is_kept q) = (end, q ∙ append_end ds, is_kept refl)
  slots_taken ds (kept_behind w k) (is_seq d e) =
      let x = framed d in
      let y = slots_taken ds k e in
      (append x.0 y.0, x.1 ∙ (ap (append x.0) y.1 ∙ sym (append_assoc x.0 y.0 ds)), is_seq (keeps_any (x.2 y.0) w) y.2)

-- ---- what decorators may stand before

-- Lines that have decorators d, kept, before a row that begins with what passes B; and lines, of nodes of the kind `bare`, that begin with what passes B and have none.
pub data Decorable (d : G) (B : Look) (bare : NodeKind) : G → Type 0 where
  a_line : {k : NodeKind} {o : Op} {fl : ℕ} {b : G} → (k ≡ bare → ⊥) → covers (starts first b full) B ≡ true → EndsKept b → Decorable d B bare (node (record { kind = k; op = o; flags = fl; extent = exact }) (keep (many d) b))
  a_bare_line : {m : Make} {b : G} → m.kind ≡ bare → covers (starts first b full) B ≡ true → Decorable d B bare (node m b)
  a_choice : {a b : G} → Decorable d B bare a → Decorable d B bare b → Decorable d B bare (alt a b)

-- the label of a node that begins there
abbrev pub begun_at : ℕ → Label → Label
begun_at from l = record l { span = record { from = from; to = l.span.to } }

-- what is taken begins with what passes B
begins_so : (B : Look) {b : G} {ks ts us : Slots} {i j : ℕ} {ls rest : Lexemes} → covers (starts first b full) B ≡ true → Takes rule b ks ts i ls us j rest → IsTrue (seen B (here ls))
begins_so B {b} c d = covered (starts first b full) B c _ _ _ (starting firsts full d refl)

module _ {Lex : ℕ → Lexeme → Type 0} {d : G} {B : Look} {bare : NodeKind} {s0 : ℕ} (away : (y : Lexeme) → Lex s0 y → IsTrue (seen B y) → ⊥) where
  -- where decorators don't stand, nor what they stand before
  pub undecorated_fails : {X : Test} {n : Symbol} → Decorable d B bare (rule n) → Fails rule Lex (plain B) end (many d) s0 → Fails rule Lex X end (such n always) s0
  undecorated_fails {X} {n} z m = record { no = λ ts vs k ls rest l t e. within ts vs k ls rest l t }
    where
      none_of : {g : G} → Decorable d B bare g → {ts vs : Slots} {k : ℕ} {ls rest : Lexemes} → Lexes Lex s0 ls → Takes rule g end ts s0 ls vs k rest → ⊥
      none_of (a_line i c k) {ls = ls} l (is_node (is_keep {cs = xs} {j = j} {mid = mid} t e)) = m.no xs end j ls mid l t (begins_so B c e, refl)
      none_of (a_bare_line q c) {ls = ls} l (is_node t) = away (here ls) (here_at Lex ls l) (begins_so B c t)
      none_of (a_choice x y) l (is_left t) = none_of x l t
      none_of (a_choice x y) l (is_right t) = none_of y l t

      within : (ts vs : Slots) (k : ℕ) (ls rest : Lexemes) → Lexes Lex s0 ls → Takes rule (such n always) end ts s0 ls vs k rest → ⊥
      within ts vs k ls rest l (is_such t q) = none_of z l t

-- ---- with the decorators and without

-- Slots and lexemes that are derived from the decorators on: the node without them stands at the place s1, from the same lexemes on.
pub record Peeled (Lex : ℕ → Lexeme → Type 0) (bare : NodeKind) (g : G) (ds : Slots) (s1 : ℕ) (pass : Lexemes → Lexemes) (ts vs : Slots) (k : ℕ) (ls rest : Lexemes) : Type 0 where
  pub label : Label
  pub slots : Slots
  pub mid : Lexemes
  pub slots_are : ts ≡ tree label (append slots ds) vs
  pub lexemes_are : ls ≡ pass mid
  pub lexed : Lexes Lex s1 mid
  pub built : label.kind ≡ bare → ⊥
  pub from : label.span.from ≡ (here ls).from
  pub without : Takes rule g end (tree (begun_at (here mid).from label) slots vs) s1 mid vs k rest

-- a node of a line that isn't bare ends where its derivation does
spans_to : {d : G} {B : Look} {bare : NodeKind} {n : Symbol} {l : Label} {cs us vs : Slots} {i k : ℕ} {ls rest : Lexemes} → Decorable d B bare (rule n) → (l.kind ≡ bare → ⊥) → Takes rule (such n always) end (tree l cs us) i ls vs k rest → l.span.to ≡ k
spans_to z b (is_such t q) = of_line z b t
  where
    of_line : {d : G} {B : Look} {bare : NodeKind} {g : G} {l : Label} {cs : Slots} {i k : ℕ} {ls rest : Lexemes} → Decorable d B bare g → (l.kind ≡ bare → ⊥) → Takes rule g end (tree l cs end) i ls end k rest → l.span.to ≡ k
    of_line (a_line i c kb) b (is_node t) = refl
    of_line (a_bare_line q c) b (is_node t) = absurd (b q)
    of_line (a_choice x y) b (is_left t) = of_line x b t
    of_line (a_choice x y) b (is_right t) = of_line y b t

-- where another grammar takes whatever g does
peeled_by : {Lex : ℕ → Lexeme → Type 0} {bare : NodeKind} {g h : G} {ds ts vs : Slots} {s1 k : ℕ} {pass : Lexemes → Lexemes} {ls rest : Lexemes} → ((us : Slots) (more : Lexemes) → Takes rule g end us s1 more vs k rest → Takes rule h end us s1 more vs k rest) → Peeled Lex bare g ds s1 pass ts vs k ls rest → Peeled Lex bare h ds s1 pass ts vs k ls rest
peeled_by to p = record { label = p.label; slots = p.slots; mid = p.mid; slots_are = p.slots_are; lexemes_are = p.lexemes_are; lexed = p.lexed; built = p.built; from = p.from; without = to _ p.mid p.without }

module _ {Lex : ℕ → Lexeme → Type 0} {d : G} {B : Look} {bare : NodeKind} {s0 s1 : ℕ} {wm : Way} (ds : Slots) (m : Reads rule Lex (plain B) end (many d) s0 s1 (append ds) wm) (away : (y : Lexeme) → Lex s0 y → IsTrue (seen B y) → ⊥) where
  -- a derivation with the decorators, by a line: the same line gives one without
  peels : {g : G} → Decorable d B bare g → {ts : Slots} {k : ℕ} {ls rest : Lexemes} → Lexes Lex s0 ls → Takes rule g end ts s0 ls end k rest → Peeled Lex bare g ds s1 wm.pass ts end k ls rest
  peels (a_line {k = kind} {o = o} {fl = fl} {b = b} i c kb) {k = k} {ls = ls} {rest = rest} l (is_node {cs = ps} (is_keep {cs = xs} {j = j} {mid = mid} t e)) =
      let x = m.only xs end j ls mid l t (begins_so B c e, refl) in
      let n = ends x.4 in
      let q : xs ≡ ds = x.2 ∙ (ap (append ds) n.0 ∙ append_end ds) in
      let e' : Takes rule b ds ps s1 mid end k rest = subst (λ z. Takes rule b z ps s1 mid end k rest) q (subst (λ z. Takes rule b xs ps z mid end k rest) (sym n.1) e) in
      let y = slots_taken ds kb e' in
      record {
        label = record { kind = kind; op = o; flags = fl; span = record { from = (here ls).from; to = k } };
        slots = y.0;
        mid = mid;
        slots_are = ap (λ z. tree (record { kind = kind; op = o; flags = fl; span = record { from = (here ls).from; to = k } }) z end) y.1;
        lexemes_are = x.5 ∙ ap wm.pass n.2;
        lexed = subst (λ z. Lexes Lex s1 z) n.2 x.3;
        built = i;
        from = refl;
        without = is_node (is_keep (is_many (is_right is_nothing)) y.2);
      }
  peels (a_bare_line q c) {ls = ls} l (is_node t) = absurd (away (here ls) (here_at Lex ls l) (begins_so B c t))
  peels (a_choice x y) l (is_left t) = peeled_by (λ us ls d. is_left d) (peels x l t)
  peels (a_choice x y) l (is_right t) = peeled_by (λ us ls d. is_right d) (peels y l t)

  -- whatever is derived of the symbol from the decorators on
  pub peeled : {n : Symbol} → Decorable d B bare (rule n) → {ts vs : Slots} {k : ℕ} {ls rest : Lexemes} → Lexes Lex s0 ls → Takes rule (such n always) end ts s0 ls vs k rest → Peeled Lex bare (such n always) ds s1 wm.pass ts vs k ls rest
  peeled z {vs = vs} l (is_such t q) =
      let p = peels z l t in
      record { label = p.label; slots = p.slots; mid = p.mid; slots_are = (λ i. tree (label_is p.slots_are i) (slots_are p.slots_are i) vs); lexemes_are = p.lexemes_are; lexed = p.lexed; built = p.built; from = p.from; without = is_such p.without refl }

  module _ (none : Fails rule Lex (plain full) end d s1) where
    -- a derivation without, behind the decorators: the same line gives one with them
    dresses : {g : G} → Decorable d B bare g → {l : Label} {cs : Slots} {k : ℕ} {mid rest : Lexemes} → (l.kind ≡ bare → ⊥) → Lexes Lex s1 mid → Reaches wm.reach s1 mid → Takes rule g end (tree l cs end) s1 mid end k rest → Takes rule g end (tree (begun_at (here (wm.pass mid)).from l) (append cs ds) end) s0 (wm.pass mid) end k rest
    dresses (a_line i c kb) {mid = mid} b w r (is_node (is_keep (is_many (is_right is_nothing)) e)) =
        is_node (is_keep (subst (λ z. Takes rule (many d) end z s0 (wm.pass mid) end s1 mid) (append_end ds) (m.sound end end s1 mid mid w r is_nothing)) (slots_added ds kb e))
    dresses (a_line i c kb) {mid = mid} b w r (is_node (is_keep (is_many (is_left (is_seq {us = us} {j = j} {mid = past} t t'))) e)) = absurd (none.no _ us j mid past w t (refl, refl))
    dresses (a_bare_line q c) b w r (is_node t) = absurd (b q)
    dresses (a_choice x y) b w r (is_left t) = is_left (dresses x b w r t)
    dresses (a_choice x y) b w r (is_right t) = is_right (dresses y b w r t)

  module _ {X : Test} {n : Symbol} (z : Decorable d B bare (rule n)) (alike : (ts us : Slots) (y : Lexeme) → Admits X ts y → Admits X us y) where
    -- what can't be read behind the decorators can't be read with them
    pub decorated_fails : Fails rule Lex X end (such n always) s1 → Fails rule Lex X end (such n always) s0
    decorated_fails u = record { no = λ ts vs k ls rest l t e. let p = peeled z l t in u.no _ vs k p.mid rest p.lexed p.without (alike ts _ (here rest) e) }

    module _ {s2 : ℕ} {l : Label} {cs : Slots} {wu : Way} (u : Goes rule Lex X end (such n always) s1 nothing s2 (tree l cs) wu) where
      -- nor what has no decorators
      pub bare_fails : l.kind ≡ bare → Fails rule Lex X end (such n always) s0
      bare_fails q = record { no = λ ts vs k ls rest w t e. let p = peeled z w t in let x = u.only _ vs k p.mid rest p.lexed p.without (alike ts _ (here rest) e) in p.built (ap (λ v. v.kind) (label_is x.2) ∙ q) }

      -- and what is read behind them is read with them
      pub decorated_goes : {from : ℕ} → Fails rule Lex (plain full) end d s1 → (l.kind ≡ bare → ⊥) → ((y : Lexeme) → Lex s0 y → y.from ≡ from) → Goes rule Lex X end (such n always) s0 nothing s2 (tree (spanning from s2 l) (append cs ds)) (joined wm wu)
      decorated_goes {from} none b h = record {
        passes = passes_both m.passes u.passes;
        sound = λ us vs k ls rest w r t. to us vs k ls rest w r t;
        only = λ ts vs k ls rest w t e. of ts vs k ls rest w t e;
      }
        where
          dressed : {us vs : Slots} {k : ℕ} {mid rest : Lexemes} → Lexes Lex s1 mid → Reaches wm.reach s1 mid → Takes rule (such n always) end (tree l cs us) s1 mid vs k rest → Takes rule (such n always) end (tree (begun_at from l) (append cs ds) us) s0 (wm.pass mid) vs k rest
          dressed {us} {vs} {k} {mid} {rest} w r (is_such t q) =
              subst (λ v. Takes rule (such n always) end (tree (begun_at v l) (append cs ds) us) s0 (wm.pass mid) vs k rest) (h (here (wm.pass mid)) (here_at Lex (wm.pass mid) (m.passes.lexed mid w))) (is_such (dresses none z b w r t) refl)

          -- it ends there
          same_end : {us vs : Slots} {k : ℕ} {mid rest : Lexemes} → Takes rule (such n always) end (tree l cs us) s1 mid vs k rest → s2 ≡ k → begun_at from l ≡ spanning from s2 l
          same_end t q = ap (λ (v : ℕ). spanning from v l) (spans_to z b t ∙ sym q)

          to : (us vs : Slots) (k : ℕ) (ls rest : Lexemes) → Lexes Lex s2 ls → Reaches (joined wm wu).reach s2 ls → Takes rule nothing end us s2 ls vs k rest → Takes rule (such n always) end (tree (spanning from s2 l) (append cs ds) us) s0 (wm.pass (wu.pass ls)) vs k rest
          to us vs k ls rest w r t =
              let e = u.sound us vs k ls rest w (b_far wm wu s2 ls r) t in
              subst (λ (v : Label). Takes rule (such n always) end (tree v (append cs ds) us) s0 (wm.pass (wu.pass ls)) vs k rest) (same_end e (ends t).1) (dressed (u.passes.lexed ls w) (a_far wm wu u.passes ls r) e)

          of : (ts vs : Slots) (k : ℕ) (ls rest : Lexemes) → Lexes Lex s0 ls → Takes rule (such n always) end ts s0 ls vs k rest → Admits X ts (here rest) → (us : Slots) × (more : Lexemes) × (ts ≡ tree (spanning from s2 l) (append cs ds) us) × Lexes Lex s2 more × Takes rule nothing end us s2 more vs k rest × (ls ≡ wm.pass (wu.pass more))
          of ts vs k ls rest w t e =
              let p = peeled z w t in
              let x = u.only _ vs k p.mid rest p.lexed p.without (alike ts _ (here rest) e) in
              let a : begun_at p.label.span.from p.label ≡ begun_at p.label.span.from l = ap (begun_at p.label.span.from) (label_is x.2) in
              let i : p.label.span.from ≡ from = p.from ∙ h (here ls) (here_at Lex ls w) in
              let o : begun_at from l ≡ spanning from s2 l = same_end (subst (λ (v : Slots). Takes rule (such n always) end v s1 p.mid vs k rest) x.2 p.without) (ends x.4).1 in
              let q : p.label ≡ spanning from s2 l = a ∙ (ap (λ v. begun_at v l) i ∙ o) in
              let c : append p.slots ds ≡ append cs ds = ap (λ v. append v ds) (slots_are x.2) in
              (x.0, x.1, p.slots_are ∙ (λ j. tree (q j) (c j) ((sym (ends x.4).0) j)), x.3, x.4, p.lexemes_are ∙ ap wm.pass x.5)
