-- The rules of the calculus that ask what a part may begin with: for any grammar with first sets.
use Rattle.std.proofs.Common.{ℕ, ◌≡◌, Bool, true, false, ◌||◌, IsTrue, List, [], ◌∷◌, refl, ap, sym, ◌∙◌, subst, cond}
use Rattle.std.proofs.lemmas.Bool.{false≢true, or_left, or_right}
use Rattle.js_base.specs.declared.kind.Kind.{Kind}
use Rattle.js_base.specs.Kinds.{same_kind, one_of_kinds}
use Rattle.js_base.proofs.KindLemmas.{kind_of_same}
use Rattle.js_grammar.specs.Trees.{Slots, end}
use Rattle.js_grammar.specs.Grammar.{Lexeme, Lexemes, here, Look, seen, Grammar, nothing, never, lexeme, look, text, ahead, empty_slot, seq, alt, when, many, commas, such, marked, node, ended, keep, kept, Takes, is_nothing, is_seq, is_keep}
use Rattle.js_grammar.specs.Lexed.{Lexes}
use Rattle.js_grammar.specs.Parsing.{Reaches, Way, still, joined, Test, plain, Admits, Goes, Reads, Fails}
use Rattle.js_grammar.proofs.Looks.{covers, covered, some_of, some_at}
use Rattle.js_grammar.proofs.First.{FirstSets, starts, starting}
use Rattle.js_grammar.proofs.Calculus.{Between, Sure, by_plain, here_at, ends, a_far, b_far, passes_none, passes_both, ◌▹◌, stay, left, right, both, then_by, part_by, fails_alt}

-- What remains of a choice where a lexeme of one of these kinds stands.
abbrev pub can : {N : Type 0} → (N → Look) → Look → Grammar N → List Kind → Bool
can first F g [] = false
can first F g (k ∷ ks) = some_of (starts first g F k) || can first F g ks

abbrev pub pick : {N : Type 0} → (N → Look) → Look → Grammar N → List Kind → Grammar N
pick first F (alt a b) ks = cond (can first F a ks) (cond (can first F b ks) (alt (pick first F a ks) (pick first F b ks)) (pick first F a ks)) (cond (can first F b ks) (pick first F b ks) never)
pick first F g ks = g

can_first : {N : Type 0} (first : N → Look) (F : Look) (g : Grammar N) (a k : Kind) (ks : List Kind) (b : Bool) → same_kind a k ≡ b → (b || one_of_kinds ks k) ≡ true → some_of (starts first g F k) ≡ true → (one_of_kinds ks k ≡ true → can first F g ks ≡ true) → can first F g (a ∷ ks) ≡ true
can_first first F g a k ks true e o h c = or_left _ _ (subst (λ v. some_of (starts first g F v) ≡ true) (sym (kind_of_same a k e)) h)
can_first first F g a k ks false e o h c = or_right (some_of (starts first g F a)) _ (c o)

can_at : {N : Type 0} (first : N → Look) (F : Look) (g : Grammar N) (ks : List Kind) (k : Kind) → one_of_kinds ks k ≡ true → some_of (starts first g F k) ≡ true → can first F g ks ≡ true
can_at first F g [] k o h = absurd (false≢true o)
can_at first F g (a ∷ ks) k o h = can_first first F g a k ks (same_kind a k) refl o h (λ q. can_at first F g ks k q h)

module _ {N : Type 0} {rule : N → Grammar N} (C : FirstSets rule) where
  pub by_first : {X X' : Test} {P : Look} {ks : Slots} {a b : Grammar N} {s : ℕ} → Sure P X' → covers (starts C.first b X.base) P ≡ true → Between rule X X' ks a b s
  by_first {X} {X'} {P} {b = b} h c = record { admits = λ ts us vs j k ls mid rest d d' e. h.admits ts (here mid) (covered (starts C.first b X.base) P c _ _ _ (starting C X.base d' e.0)) }

  module _ {Lex : ℕ → Lexeme → Type 0} {X : Test} {ks : Slots} {s : ℕ} where
    -- what can't begin here
    pub fails_here : {g : Grammar N} → ((y : Lexeme) → Lex s y → IsTrue (seen (starts C.first g X.base) y) → ⊥) → Fails rule Lex X ks g s
    fails_here n = record { no = λ ts vs k ls rest l d e. n (here ls) (here_at Lex ls l) (starting C X.base d e.0) }

    pub then : {rn : Way} {F' : Look} {a b : Grammar N} {s' : ℕ} {f : Slots → Slots} → Reads rule Lex (plain F') ks a s s' f rn → covers (starts C.first b X.base) F' ≡ true → Goes rule Lex X ks (seq a b) s b s' f rn
    then {rn} {F'} {a} {b} r c = then_by r (by_first (by_plain F') c)

    pub fails_part : {F' : Look} {a b : Grammar N} → Fails rule Lex (plain F') ks a s → covers (starts C.first b X.base) F' ≡ true → Fails rule Lex X ks (seq a b) s
    fails_part {F'} {a} {b} r c = record { no = λ ts vs k ls rest l d e. go ts vs k ls rest l d e }
      where
        go : (ts vs : Slots) (k : ℕ) (ls rest : Lexemes) → Lexes Lex s ls → Takes rule (seq a b) ks ts s ls vs k rest → Admits X ts (here rest) → ⊥
        go ts vs k ls rest l (is_seq {us = ws} {j = j} {mid = mid} d d') e = r.no ts ws j ls mid l d (covered (starts C.first b X.base) F' c _ _ _ (starting C X.base d' e.0), refl)

    pub part : (F' : Look) {rn : Way} {a a' b : Grammar N} {s' : ℕ} {f : Slots → Slots} → Goes rule Lex (plain F') ks a s a' s' f rn → covers (starts C.first b X.base) F' ≡ true → Goes rule Lex X ks (seq a b) s (seq a' b) s' f rn
    part F' r c = part_by r (by_first (by_plain F') c)

    pub keeps : {rn rm : Way} {X' : Test} {P : Look} {a b : Grammar N} {s' s'' : ℕ} {f h : Slots → Slots} → Reads rule Lex X' ks a s s' f rn → Sure P X' → covers (starts C.first b X.base) P ≡ true → Reads rule Lex X (f end) b s' s'' h rm → Reads rule Lex X ks (keep a b) s s'' h (joined rn rm)
    keeps {rn} {rm} {X'} {P} {a} {b} {s'} {s''} {f} {h} r w c t = record { passes = passes_both r.passes t.passes; sound = λ us vs k ls' rest l w d. go_sound us vs k ls' rest l w d; only = λ ts vs k ls rest l d e. go_only ts vs k ls rest l d e }
      where
        go_sound : (us vs : Slots) (k : ℕ) (ls' rest : Lexemes) → Lexes Lex s'' ls' → Reaches (joined rn rm).reach s'' ls' → Takes rule nothing ks us s'' ls' vs k rest → Takes rule (keep a b) ks (h us) s (rn.pass (rm.pass ls')) vs k rest
        go_sound us vs k ls' rest l w is_nothing =
            let y = t.sound us us s'' ls' ls' l (b_far rn rm _ ls' w) is_nothing in
            let x = r.sound end end s' (rm.pass ls') (rm.pass ls') (t.passes.lexed ls' l) (a_far rn rm t.passes ls' w) is_nothing in
            is_keep x y

        go_only : (ts vs : Slots) (k : ℕ) (ls rest : Lexemes) → Lexes Lex s ls → Takes rule (keep a b) ks ts s ls vs k rest → Admits X ts (here rest) → (us : Slots) × (ls' : Lexemes) × (ts ≡ h us) × Lexes Lex s'' ls' × Takes rule nothing ks us s'' ls' vs k rest × (ls ≡ rn.pass (rm.pass ls'))
        go_only ts vs k ls rest l (is_keep {cs = cs} {j = j} {mid = mid} d d') e =
            let x = r.only cs end j ls mid l d (w.admits cs (here mid) (covered (starts C.first b X.base) P c _ _ _ (starting C X.base d' e.0))) in
            let n = ends x.4 in
            let q : cs ≡ f end = x.2 ∙ ap f n.0 in
            let at : Takes rule b (f end) ts s' mid vs k rest = subst (λ z. Takes rule b z ts s' mid vs k rest) q (subst (λ z. Takes rule b cs ts z mid vs k rest) (sym n.1) d') in
            let y = t.only ts vs k mid rest (subst (λ z. Lexes Lex s' z) n.2 x.3) at e in
            let m = ends y.4 in
            (vs, y.1, y.2 ∙ ap h m.0, y.3, subst (λ z. Takes rule nothing ks vs s'' y.1 vs k z) m.2 (subst (λ z. Takes rule nothing ks vs s'' y.1 vs z y.1) m.1 is_nothing), x.5 ∙ (ap rn.pass n.2 ∙ ap rn.pass y.5))

    module _ (js : List Kind) (h : (y : Lexeme) → Lex s y → one_of_kinds js y.kind ≡ true) where
      no_way : (g : Grammar N) → can C.first X.base g js ≡ false → Fails rule Lex X ks g s
      no_way g q = record { no = λ ts vs k ls rest l d e. let y = here ls in false≢true (sym q ∙ can_at C.first X.base g js y.kind (h y (here_at Lex ls l)) (some_at (starts C.first g X.base y.kind) y.newline y.escaped (starting C X.base d e.0))) }

      picks_alt : (a b a' b' : Grammar N) (x y : Bool) → can C.first X.base a js ≡ x → can C.first X.base b js ≡ y → Goes rule Lex X ks a s a' s (λ us. us) (still 0) → Goes rule Lex X ks b s b' s (λ us. us) (still 0)
          → Goes rule Lex X ks (alt a b) s (cond x (cond y (alt a' b') a') (cond y b' never)) s (λ us. us) (still 0)
      picks_alt a b a' b' true true p q r t = both r t
      picks_alt a b a' b' true false p q r t = left (no_way b q) ▹ r
      picks_alt a b a' b' false true p q r t = right (no_way a p) ▹ t
      picks_alt a b a' b' false false p q r t = record { passes = passes_none; sound = λ us vs k ls' rest l w d. elim d [ ]; only = λ ts vs k ls rest l d e. absurd ((fails_alt (no_way a p) (no_way b q)).no ts vs k ls rest l d e) }

      pub picks : (g : Grammar N) → Goes rule Lex X ks g s (pick C.first X.base g js) s (λ us. us) (still 0)
      picks (alt a b) = picks_alt a b (pick C.first X.base a js) (pick C.first X.base b js) _ _ refl refl (picks a) (picks b)
      picks nothing = stay
      picks never = stay
      picks (lexeme p) = stay
      picks (look p) = stay
      picks (text p) = stay
      picks (ahead a) = stay
      picks empty_slot = stay
      picks (seq a b) = stay
      picks (when c a) = stay
      picks (many a) = stay
      picks (commas b a) = stay
      picks (such n c) = stay
      picks (marked m n) = stay
      picks (node m a) = stay
      picks (ended rows a) = stay
      picks (keep a b) = stay
      picks kept = stay

    -- a kind that begins none of these stands here
    pub unless : (g : Grammar N) (js : List Kind) → covers (starts C.first g X.base) (λ k w e. one_of_kinds js k) ≡ true → ((y : Lexeme) → Lex s y → one_of_kinds js y.kind ≡ true → ⊥) → Fails rule Lex X ks g s
    unless g js c n = fails_here (λ y l h. n y l (covered (starts C.first g X.base) (λ k w e. one_of_kinds js k) c y.kind y.newline y.escaped h))
