-- Readings of a grammar's parts over any lexing, and the rules that put them together: for any grammar.
use Rattle.std.proofs.Common.{ℕ, suc, ◌≡◌, ◌≤◌, inl, inr, Bool, true, false, not, ◌&&◌, ◌||◌, IsTrue, List, refl, ap, sym, ◌∙◌, subst, arith}
use Rattle.std.proofs.lemmas.Bool.{false≢true, or_left, or_right, and_from, and_parts}
use Rattle.js_base.specs.declared.kind.Kind.{Kind}
use Rattle.js_base.specs.declared.kind.Kind.TheVariants.{Eof, Semicolon, Comma}
use Rattle.js_grammar.specs.Trees.{Span, Label, Slots, end, hole, tree, Tree, append}
use Rattle.js_grammar.specs.Grammar.{Lexeme, Lexemes, last, next, here, Look, seen, Make, label_of, is, begins_with_brace, may_omit, Grammar, nothing, never, lexeme, look, text, ahead, empty_slot, seq, alt, when, many, commas, such, marked, node, ended, keep, kept, many_once, commas_once, semicolon, Takes, is_nothing, is_lexeme, is_look, is_text, is_ahead, is_empty_slot, is_seq, is_left, is_right, is_when, is_many, is_commas, is_such, is_marked, is_node, is_ended, is_keep, is_kept, after_comma, after_item}
use Rattle.js_base.specs.Kinds.{same_kind}
use Rattle.js_base.proofs.KindLemmas.{kind_of_same}
use Rattle.js_grammar.specs.Lexed.{Lexes}
use Rattle.js_grammar.specs.Parsing.{always, full, Reaches, Way, still, passing, joined, Passes, Test, plain, behind, Admits, Goes, Reads, Fails}
use Rattle.js_grammar.proofs.Looks.{covers, covered}

pub reaches_less : (a b : ℕ) → a ≤ b → (s : ℕ) (ls : Lexemes) → Reaches b s ls → Reaches a s ls
reaches_less a b h s (last x) (inl i) = inl (omega arith)
reaches_less a b h s (last x) (inr e) = inr e
reaches_less a b h s (next x ls) r = reaches_less a b h x.to ls r

pub here_at : (Lex : ℕ → Lexeme → Type 0) {s : ℕ} (ls : Lexemes) → Lexes Lex s ls → Lex s (here ls)
here_at Lex (last x) l = l
here_at Lex (next x ls) l = l.0

pub ends : {N : Type 0} {rule : N → Grammar N} {ks vs us : Slots} {i j : ℕ} {ls rest : Lexemes} → Takes rule nothing ks us i ls vs j rest → (us ≡ vs) × (i ≡ j) × (ls ≡ rest)
ends is_nothing = (refl, refl, refl)

pub label_in : Label → Slots → Label
label_in l end = l
label_in l (hole us) = l
label_in l (tree m ds us) = m

pub slots_in : Slots → Slots
slots_in end = end
slots_in (hole us) = end
slots_in (tree m ds us) = ds

pub label_is : {l m : Label} {cs ds us vs : Slots} → tree l cs us ≡ tree m ds vs → l ≡ m
unfolding label_in
label_is {l} q = ap (label_in l) q

pub slots_are : {l m : Label} {cs ds us vs : Slots} → tree l cs us ≡ tree m ds vs → cs ≡ ds
unfolding slots_in
slots_are q = ap slots_in q

found : {N : Type 0} {rule : N → Grammar N} (Lex : ℕ → Lexeme → Type 0) (ks : Slots) {l : Label} {cs : Slots} (m : Label) (ds us vs : Slots) (s' k : ℕ) (ls rest : Lexemes) (to : Label → Label) {pass : Lexemes → Lexemes} {start : Lexemes} → tree m ds end ≡ tree l cs us → Lexes Lex s' ls → Takes rule nothing end us s' ls end k rest → start ≡ pass ls
    → (ws : Slots) × (more : Lexemes) × (tree (to m) ds vs ≡ tree (to l) cs ws) × Lexes Lex s' more × Takes rule nothing ks ws s' more vs k rest × (start ≡ pass more)
found Lex ks m ds us vs s' k ls rest to q l is_nothing e = (vs, ls, (λ i. tree (to (label_is q i)) (slots_are q i) vs), l, is_nothing, e)

-- a semicolon is not left out where it stands
no_omission : (w p : Bool) → (same_kind Eof Semicolon || begins_with_brace Semicolon || (w && not (same_kind Semicolon Semicolon) && not p)) ≡ true → ⊥
no_omission true p h = false≢true h
no_omission false p h = false≢true h

no_semicolon : (w e : Bool) (k : Kind) (p : Bool) → (same_kind Eof k || begins_with_brace k || (w && not (same_kind Semicolon k) && not p)) ≡ true → (same_kind Semicolon k && not e) ≡ true → ⊥
no_semicolon w e k p h q = let z = kind_of_same Semicolon k (and_parts (same_kind Semicolon k) (not e) q).0 in no_omission w p (subst (λ v. (same_kind Eof v || begins_with_brace v || (w && not (same_kind Semicolon v) && not p)) ≡ true) (sym z) h)

-- to stay, to pass a lexeme, and one stretch behind another
pub passes_none : {Lex : ℕ → Lexeme → Type 0} {s : ℕ} → Passes Lex s s (λ ls. ls)
passes_none = record { lexed = λ ls l. l; reaches = λ e ls r. r }

pub passes_one : {Lex : ℕ → Lexeme → Type 0} {s : ℕ} {x : Lexeme} → Lex s x → Passes Lex s x.to (λ ls. next x ls)
passes_one h = record { lexed = λ ls l. (h, l); reaches = λ e ls r. r }

pub passes_both : {Lex : ℕ → Lexeme → Type 0} {s s' s'' : ℕ} {f h : Lexemes → Lexemes} → Passes Lex s s' f → Passes Lex s' s'' h → Passes Lex s s'' (λ ls. f (h ls))
passes_both {h = h} a b = record { lexed = λ ls l. a.lexed (h ls) (b.lexed ls l); reaches = λ e ls r. a.reaches e (h ls) (b.reaches e ls r) }

-- as far as two stretches look, each of them looks
pub b_far : (a b : Way) (s : ℕ) (ls : Lexemes) → Reaches (joined a b).reach s ls → Reaches b.reach s ls
b_far a b s ls r = reaches_less b.reach (joined a b).reach (omega arith) s ls r

-- what may stand first of a semicolon, written or left out by the row p, where F stands behind it
abbrev pub closes : Look → Look → Look
closes p F k w e = is Semicolon k w e || (may_omit p k w e && F k w e)

closing : {N : Type 0} {rule : N → Grammar N} (p : Look) {ks ts us : Slots} {i j : ℕ} {ls rest : Lexemes} (F : Look) → Takes rule (semicolon p) ks ts i ls us j rest → IsTrue (seen F (here rest)) → IsTrue (seen (closes p F) (here ls))
closing p F (is_left (is_lexeme q)) h = or_left _ _ q
closing p F (is_right (is_look {ls = ls} q)) h = or_right (seen (is Semicolon) (here ls)) _ (and_from _ _ q h)

-- What stands behind a, and then b, passes X behind both; then what stands behind a passes X'.
pub record Between {N : Type 0} (rule : N → Grammar N) (X X' : Test) (ks : Slots) (a b : Grammar N) (s : ℕ) : Type 0 where
  pub admits : (ts us vs : Slots) (j k : ℕ) (ls mid rest : Lexemes) → Takes rule a ks ts s ls us j mid → Takes rule b ks us j mid vs k rest → Admits X ts (here rest) → Admits X' ts (here mid)

-- a lexeme that passes P may stand behind any slots
pub record Sure (P : Look) (X : Test) : Type 0 where
  pub admits : (ts : Slots) (y : Lexeme) → IsTrue (seen P y) → Admits X ts y

-- What may stand behind a node may stand behind its slots: the derivation of these shows which slot is the last.
pub record Inside {N : Type 0} (rule : N → Grammar N) (m : Make) (X X' : Test) (ks : Slots) (a : Grammar N) (s : ℕ) : Type 0 where
  pub ends : (p : Span) (cs vs : Slots) (j : ℕ) (ls mid : Lexemes) → Takes rule a ks cs s ls end j mid → Admits X (tree (record { kind = m.kind; op = m.op; flags = m.flags; span = p }) cs vs) (here mid) → Admits X' cs (here mid)

-- behind a node alone; behind the same slots

abbrev pub Heads : Test → Test → Type 0
Heads X X' = (l : Label) (cs vs : Slots) (y : Lexeme) → Admits X (tree l cs vs) y → Admits X' (tree l cs end) y

abbrev pub Within : Test → Test → Type 0
Within X X' = (ts : Slots) (y : Lexeme) → Admits X ts y → Admits X' ts y

-- The same, where it is derived from here.
pub record On {N : Type 0} (rule : N → Grammar N) (X X' : Test) (ks : Slots) (g : Grammar N) (s : ℕ) : Type 0 where
  pub admits : (ts vs : Slots) (k : ℕ) (ls rest : Lexemes) → Takes rule g ks ts s ls vs k rest → Admits X ts (here rest) → Admits X' ts (here rest)

pub by_plain : (F : Look) → Sure F (plain F)
by_plain F = record { admits = λ ts y h. (h, refl) }

pub inside_plain : {N : Type 0} {rule : N → Grammar N} {X : Test} {F' : Look} {m : Make} {ks : Slots} {a : Grammar N} {s : ℕ} → covers X.base F' ≡ true → Inside rule m X (plain F') ks a s
inside_plain {X} {F'} c = record { ends = λ p cs vs j ls mid d e. (covered X.base F' c _ _ _ e.0, refl) }

pub inside_full : {N : Type 0} {rule : N → Grammar N} {X : Test} {m : Make} {ks : Slots} {a : Grammar N} {s : ℕ} → Inside rule m X (plain full) ks a s
inside_full = record { ends = λ p cs vs j ls mid d e. (refl, refl) }

pub on_itself : {N : Type 0} {rule : N → Grammar N} {X : Test} {ks : Slots} {g : Grammar N} {s : ℕ} → On rule X X ks g s
on_itself = record { admits = λ ts vs k ls rest d e. e }

pub moved_on : (X : Test) (f : Slots → Slots) (y : Lexeme) {ts us : Slots} → Admits X ts y → ts ≡ f us → Admits (behind X f) us y
moved_on X f y e q = (e.0, subst (λ v. IsTrue (seen (X.by v) y)) q e.1)

module _ {Lex : ℕ → Lexeme → Type 0} where
  pub a_far : (a b : Way) {s' s'' : ℕ} → Passes Lex s' s'' b.pass → (ls : Lexemes) → Reaches (joined a b).reach s'' ls → Reaches a.reach s' (b.pass ls)
  a_far a b h ls r = h.reaches a.reach ls (reaches_less a.reach (joined a b).reach (omega arith) _ ls r)

module _ {N : Type 0} {rule : N → Grammar N} {Lex : ℕ → Lexeme → Type 0} where
  infixr 20 ◌▹◌
  pub ◌▹◌ : {rn rm : Way} {X : Test} {ks : Slots} {g g' g'' : Grammar N} {s s' s'' : ℕ} {f h : Slots → Slots} → Goes rule Lex X ks g s g' s' f rn → Goes rule Lex (behind X f) ks g' s' g'' s'' h rm → Goes rule Lex X ks g s g'' s'' (λ us. f (h us)) (joined rn rm)
  ◌▹◌ {rn} {rm} {X} {f = f} {h = h} a b = record {
    passes = passes_both a.passes b.passes;
    sound = λ us vs k ls' rest l r d. a.sound (h us) vs k (rm.pass ls') rest (b.passes.lexed ls' l) (a_far rn rm b.passes ls' r) (b.sound us vs k ls' rest l (b_far rn rm _ ls' r) d);
    only = λ ts vs k ls rest l d e. let x = a.only ts vs k ls rest l d e in let y = b.only x.0 vs k x.1 rest x.3 x.4 (moved_on X f (here rest) e x.2) in (y.0, y.1, x.2 ∙ ap f y.2, y.3, y.4, x.5 ∙ ap rn.pass y.5);
  }

  infixr 20 ◌▹✗◌
  pub ◌▹✗◌ : {rn : Way} {X : Test} {ks : Slots} {g g' : Grammar N} {s s' : ℕ} {f : Slots → Slots} → Goes rule Lex X ks g s g' s' f rn → Fails rule Lex (behind X f) ks g' s' → Fails rule Lex X ks g s
  ◌▹✗◌ {X = X} {f = f} a b = record { no = λ ts vs k ls rest l d e. let x = a.only ts vs k ls rest l d e in b.no x.0 vs k x.1 rest x.3 x.4 (moved_on X f (here rest) e x.2) }

  module _ {X : Test} {ks : Slots} {s : ℕ} where
    pub stay : {g : Grammar N} → Goes rule Lex X ks g s g s (λ us. us) (still 0)
    stay = record { passes = passes_none; sound = λ us vs k ls' rest l r d. d; only = λ ts vs k ls rest l d e. (ts, ls, refl, l, d, refl) }

    -- two grammars that take the same
    pub same : {g g' : Grammar N} → ((ts us : Slots) (i j : ℕ) (ls rest : Lexemes) → Takes rule g ks ts i ls us j rest → Takes rule g' ks ts i ls us j rest) → ((ts us : Slots) (i j : ℕ) (ls rest : Lexemes) → Takes rule g' ks ts i ls us j rest → Takes rule g ks ts i ls us j rest) → Goes rule Lex X ks g s g' s (λ us. us) (still 0)
    same to of = record { passes = passes_none; sound = λ us vs k ls' rest l r d. of us vs s k ls' rest d; only = λ ts vs k ls rest l d e. (ts, ls, refl, l, to ts vs s k ls rest d, refl) }

    pub more_of : {a : Grammar N} → Goes rule Lex X ks (many a) s (many_once a) s (λ us. us) (still 0)
    more_of {a} = same (λ ts us i j ls rest d. go d) (λ ts us i j ls rest d. is_many d)
      where
        go : {ts us : Slots} {i j : ℕ} {ls rest : Lexemes} → Takes rule (many a) ks ts i ls us j rest → Takes rule (many_once a) ks ts i ls us j rest
        go (is_many d) = d

    pub commas_of : {b : Bool} {a : Grammar N} → Goes rule Lex X ks (commas b a) s (commas_once b a) s (λ us. us) (still 0)
    commas_of {b} {a} = same (λ ts us i j ls rest d. go d) (λ ts us i j ls rest d. is_commas d)
      where
        go : {ts us : Slots} {i j : ℕ} {ls rest : Lexemes} → Takes rule (commas b a) ks ts i ls us j rest → Takes rule (commas_once b a) ks ts i ls us j rest
        go (is_commas d) = d

    pub where_true : {c : Bool} {a : Grammar N} → c ≡ true → Goes rule Lex X ks (when c a) s a s (λ us. us) (still 0)
    where_true {c} {a} h = same (λ ts us i j ls rest d. go d) (λ ts us i j ls rest d. is_when h d)
      where
        go : {ts us : Slots} {i j : ℕ} {ls rest : Lexemes} → Takes rule (when c a) ks ts i ls us j rest → Takes rule a ks ts i ls us j rest
        go (is_when q d) = d

    -- choices
    pub left : {a b : Grammar N} → Fails rule Lex X ks b s → Goes rule Lex X ks (alt a b) s a s (λ us. us) (still 0)
    left {a} {b} n = record { passes = passes_none; sound = λ us vs k ls' rest l r d. is_left d; only = λ ts vs k ls rest l d e. go ts vs k ls rest l d e }
      where
        go : (ts vs : Slots) (k : ℕ) (ls rest : Lexemes) → Lexes Lex s ls → Takes rule (alt a b) ks ts s ls vs k rest → Admits X ts (here rest) → (us : Slots) × (ls' : Lexemes) × (ts ≡ us) × Lexes Lex s ls' × Takes rule a ks us s ls' vs k rest × (ls ≡ ls')
        go ts vs k ls rest l (is_left d) e = (ts, ls, refl, l, d, refl)
        go ts vs k ls rest l (is_right d) e = absurd (n.no ts vs k ls rest l d e)

    pub right : {a b : Grammar N} → Fails rule Lex X ks a s → Goes rule Lex X ks (alt a b) s b s (λ us. us) (still 0)
    right {a} {b} n = record { passes = passes_none; sound = λ us vs k ls' rest l r d. is_right d; only = λ ts vs k ls rest l d e. go ts vs k ls rest l d e }
      where
        go : (ts vs : Slots) (k : ℕ) (ls rest : Lexemes) → Lexes Lex s ls → Takes rule (alt a b) ks ts s ls vs k rest → Admits X ts (here rest) → (us : Slots) × (ls' : Lexemes) × (ts ≡ us) × Lexes Lex s ls' × Takes rule b ks us s ls' vs k rest × (ls ≡ ls')
        go ts vs k ls rest l (is_left d) e = absurd (n.no ts vs k ls rest l d e)
        go ts vs k ls rest l (is_right d) e = (ts, ls, refl, l, d, refl)

    -- lexemes
    pub reads_lexeme : (p : Look) {x : Lexeme} → Lex s x → IsTrue (seen p x) → ((y : Lexeme) → Lex s y → IsTrue (seen p y) → y ≡ x) → Reads rule Lex X ks (lexeme p) s x.to (λ us. us) (passing x)
    reads_lexeme p {x} lx h alone = record { passes = passes_one lx; sound = λ us vs k ls' rest l w d. go_sound us vs k ls' rest l w d; only = λ ts vs k ls rest l d e. go_only ts vs k ls rest l d }
      where
        go_sound : (us vs : Slots) (k : ℕ) (ls' rest : Lexemes) → Lexes Lex x.to ls' → Reaches 0 x.to ls' → Takes rule nothing ks us x.to ls' vs k rest → Takes rule (lexeme p) ks us s (next x ls') vs k rest
        go_sound us vs k ls' rest l w is_nothing = is_lexeme h

        go_only : (ts vs : Slots) (k : ℕ) (ls rest : Lexemes) → Lexes Lex s ls → Takes rule (lexeme p) ks ts s ls vs k rest → (us : Slots) × (ls' : Lexemes) × (ts ≡ us) × Lexes Lex x.to ls' × Takes rule nothing ks us x.to ls' vs k rest × (ls ≡ next x ls')
        go_only ts vs k ls rest l (is_lexeme {x = y} {ls = more} q) = let w = alone y l.0 q in (ts, more, refl, subst (λ v. Lexes Lex v.to more) w l.1, subst (λ v. Takes rule nothing ks ts v.to more ts y.to more) w is_nothing, ap (λ v. next v more) w)

    pub looks : (p : Look) → ((y : Lexeme) → Lex s y → IsTrue (seen p y)) → Reads rule Lex X ks (look p) s s (λ us. us) (still 0)
    looks p h = record { passes = passes_none; sound = λ us vs k ls' rest l w d. go_sound us vs k ls' rest l w d; only = λ ts vs k ls rest l d e. go_only ts vs k ls rest l d }
      where
        go_sound : (us vs : Slots) (k : ℕ) (ls' rest : Lexemes) → Lexes Lex s ls' → Reaches 0 s ls' → Takes rule nothing ks us s ls' vs k rest → Takes rule (look p) ks us s ls' vs k rest
        go_sound us vs k ls' rest l w is_nothing = is_look (h (here ls') (here_at Lex ls' l))

        go_only : (ts vs : Slots) (k : ℕ) (ls rest : Lexemes) → Lexes Lex s ls → Takes rule (look p) ks ts s ls vs k rest → (us : Slots) × (ls' : Lexemes) × (ts ≡ us) × Lexes Lex s ls' × Takes rule nothing ks us s ls' vs k rest × (ls ≡ ls')
        go_only ts vs k ls rest l (is_look q) = (ts, ls, refl, l, is_nothing, refl)

    -- what stands ahead, on every lexing of what follows, with the slots of f
    pub aheads : {a : Grammar N} {f : Slots → Slots} (n : ℕ) → ((us : Slots) (ls : Lexemes) → Lexes Lex s ls → Reaches n s ls → (j : ℕ) × (rest : Lexemes) × Takes rule a ks (f us) s ls us j rest) → ((ts us : Slots) (j : ℕ) (ls rest : Lexemes) → Lexes Lex s ls → Takes rule a ks ts s ls us j rest → ts ≡ f us) → Reads rule Lex X ks (ahead a) s s f (still n)
    aheads {a} {f} n there alone = record { passes = passes_none; sound = λ us vs k ls' rest l w d. go_sound us vs k ls' rest l w d; only = λ ts vs k ls rest l d e. go_only ts vs k ls rest l d }
      where
        go_sound : (us vs : Slots) (k : ℕ) (ls' rest : Lexemes) → Lexes Lex s ls' → Reaches n s ls' → Takes rule nothing ks us s ls' vs k rest → Takes rule (ahead a) ks (f us) s ls' vs k rest
        go_sound us vs k ls' rest l w is_nothing = let x = there us ls' l w in is_ahead x.2

        go_only : (ts vs : Slots) (k : ℕ) (ls rest : Lexemes) → Lexes Lex s ls → Takes rule (ahead a) ks ts s ls vs k rest → (us : Slots) × (ls' : Lexemes) × (ts ≡ f us) × Lexes Lex s ls' × Takes rule nothing ks us s ls' vs k rest × (ls ≡ ls')
        go_only ts vs k ls rest l (is_ahead {us = us} {j = j} {rest = past} d) = (vs, ls, alone ts us j ls past l d, l, is_nothing, refl)

    -- a lexeme ahead: the end of the text is none
    pub lexeme_ahead : (p : Look) → ((y : Lexeme) → Lex s y → IsTrue (seen p y) × (y.kind ≡ Eof → ⊥)) → Reads rule Lex X ks (ahead (lexeme p)) s s (λ us. us) (still (suc s))
    lexeme_ahead p h = aheads (suc s) there alone
      where
        there : (us : Slots) (ls : Lexemes) → Lexes Lex s ls → Reaches (suc s) s ls → (j : ℕ) × (rest : Lexemes) × Takes rule (lexeme p) ks us s ls us j rest
        there us (last x) l (inl i) = absurd (omega arith)
        there us (last x) l (inr q) = absurd ((h x l).1 q)
        there us (next x ls) l w = (x.to, ls, is_lexeme (h x l.0).0)

        alone : (ts us : Slots) (j : ℕ) (ls rest : Lexemes) → Lexes Lex s ls → Takes rule (lexeme p) ks ts s ls us j rest → ts ≡ us
        alone ts us j ls rest l (is_lexeme q) = refl

    -- a lexeme ahead, and a test of the one behind it
    pub two_ahead : (p q : Look) → ((y : Lexeme) → Lex s y → IsTrue (seen p y) × (y.kind ≡ Eof → ⊥) × ((z : Lexeme) → Lex y.to z → IsTrue (seen q z))) → Reads rule Lex X ks (ahead (seq (lexeme p) (look q))) s s (λ us. us) (still (suc s))
    two_ahead p q h = aheads (suc s) there alone
      where
        there : (us : Slots) (ls : Lexemes) → Lexes Lex s ls → Reaches (suc s) s ls → (j : ℕ) × (rest : Lexemes) × Takes rule (seq (lexeme p) (look q)) ks us s ls us j rest
        there us (last x) l (inl i) = absurd (omega arith)
        there us (last x) l (inr e) = absurd ((h x l).1 e)
        there us (next x ls) l w = (x.to, ls, is_seq (is_lexeme (h x l.0).0) (is_look ((h x l.0).2 (here ls) (here_at Lex ls l.1))))

        alone : (ts us : Slots) (j : ℕ) (ls rest : Lexemes) → Lexes Lex s ls → Takes rule (seq (lexeme p) (look q)) ks ts s ls us j rest → ts ≡ us
        alone ts us j ls rest l (is_seq (is_lexeme a) (is_look b)) = refl

    pub fails_ahead : {a : Grammar N} → Fails rule Lex (plain full) ks a s → Fails rule Lex X ks (ahead a) s
    fails_ahead {a} n = record { no = λ ts vs k ls rest l d e. go ts vs k ls rest l d }
      where
        go : (ts vs : Slots) (k : ℕ) (ls rest : Lexemes) → Lexes Lex s ls → Takes rule (ahead a) ks ts s ls vs k rest → ⊥
        go ts vs k ls rest l (is_ahead {j = j} {rest = past} d) = n.no ts vs j ls past l d (refl, refl)

    -- the slots that are kept
    pub reads_kept : Reads rule Lex X ks kept s s (append ks) (still 0)
    reads_kept = record { passes = passes_none; sound = λ us vs k ls' rest l w d. go_sound us vs k ls' rest l w d; only = λ ts vs k ls rest l d e. go_only ts vs k ls rest l d }
      where
        go_sound : (us vs : Slots) (k : ℕ) (ls' rest : Lexemes) → Lexes Lex s ls' → Reaches 0 s ls' → Takes rule nothing ks us s ls' vs k rest → Takes rule kept ks (append ks us) s ls' vs k rest
        go_sound us vs k ls' rest l w is_nothing = is_kept refl

        go_only : (ts vs : Slots) (k : ℕ) (ls rest : Lexemes) → Lexes Lex s ls → Takes rule kept ks ts s ls vs k rest → (us : Slots) × (ls' : Lexemes) × (ts ≡ append ks us) × Lexes Lex s ls' × Takes rule nothing ks us s ls' vs k rest × (ls ≡ ls')
        go_only ts vs k ls rest l (is_kept q) = (vs, ls, q, l, is_nothing, refl)

    -- nodes: l is its label, whichever lexemes it is read from
    pub makes_by : {rn : Way} {X' : Test} {m : Make} {a : Grammar N} {s' : ℕ} {f : Slots → Slots} (l : Label) → Inside rule m X X' ks a s → Reads rule Lex X' ks a s s' f rn → ((ls ls' : Lexemes) → Lexes Lex s ls → Lexes Lex s' ls' → label_of m ls s' ls' ≡ l) → Reads rule Lex X ks (node m a) s s' (tree l (f end)) rn
    makes_by {rn} {X'} {m} {a} {s'} {f} l t r h = record { passes = r.passes; sound = λ us vs k ls' rest l w d. go_sound us vs k ls' rest l w d; only = λ ts vs k ls rest l d e. go_only ts vs k ls rest l d e }
      where
        go_sound : (us vs : Slots) (k : ℕ) (ls' rest : Lexemes) → Lexes Lex s' ls' → Reaches rn.reach s' ls' → Takes rule nothing ks us s' ls' vs k rest → Takes rule (node m a) ks (tree l (f end) us) s (rn.pass ls') vs k rest
        go_sound us vs k ls' rest q w is_nothing =
            subst (λ v. Takes rule (node m a) ks (tree v (f end) us) s (rn.pass ls') us s' ls') (h (rn.pass ls') ls' (r.passes.lexed ls' q) q) (is_node (r.sound end end s' ls' ls' q w is_nothing))

        inside : (cs ds vs : Slots) (ls ls' rest : Lexemes) (k : ℕ) → Lexes Lex s ls → cs ≡ f ds → Lexes Lex s' ls' → Takes rule nothing ks ds s' ls' end k rest → ls ≡ rn.pass ls' → (us : Slots) × (more : Lexemes) × (tree (label_of m ls k rest) cs vs ≡ tree l (f end) us) × Lexes Lex s' more × Takes rule nothing ks us s' more vs k rest × (ls ≡ rn.pass more)
        inside cs ds vs ls ls' rest k q w q' is_nothing z = (vs, ls', (λ i. tree (h ls ls' q q' i) (w i) vs), q', is_nothing, z)

        go_only : (ts vs : Slots) (k : ℕ) (ls rest : Lexemes) → Lexes Lex s ls → Takes rule (node m a) ks ts s ls vs k rest → Admits X ts (here rest) → (us : Slots) × (ls' : Lexemes) × (ts ≡ tree l (f end) us) × Lexes Lex s' ls' × Takes rule nothing ks us s' ls' vs k rest × (ls ≡ rn.pass ls')
        go_only ts vs k ls rest q (is_node {cs = cs} d) e = let x = r.only cs end k ls rest q d (t.ends _ cs vs k ls rest d e) in inside cs x.0 vs ls x.1 rest k q x.2 x.3 x.4 x.5

    -- symbols
    pub by_rule : {rn : Way} {X' : Test} {n : N} {c : Tree → Bool} {s' : ℕ} {l : Label} {cs : Slots} → Heads X X' → Reads rule Lex X' end (rule n) s s' (tree l cs) rn → c (record { label = l; slots = cs }) ≡ true → Reads rule Lex X ks (such n c) s s' (tree l cs) rn
    by_rule {rn} {X'} {n} {c} {s'} {l} {cs} i r t = record { passes = r.passes; sound = λ us vs k ls' rest q w d. go_sound us vs k ls' rest q w d; only = λ ts vs k ls rest q d e. go_only ts vs k ls rest q d e }
      where
        go_sound : (us vs : Slots) (k : ℕ) (ls' rest : Lexemes) → Lexes Lex s' ls' → Reaches rn.reach s' ls' → Takes rule nothing ks us s' ls' vs k rest → Takes rule (such n c) ks (tree l cs us) s (rn.pass ls') vs k rest
        go_sound us vs k ls' rest q w is_nothing = is_such (r.sound end end s' ls' ls' q w is_nothing) t

        go_only : (ts vs : Slots) (k : ℕ) (ls rest : Lexemes) → Lexes Lex s ls → Takes rule (such n c) ks ts s ls vs k rest → Admits X ts (here rest) → (us : Slots) × (ls' : Lexemes) × (ts ≡ tree l cs us) × Lexes Lex s' ls' × Takes rule nothing ks us s' ls' vs k rest × (ls ≡ rn.pass ls')
        go_only ts vs k ls rest q (is_such {l = m} {cs = ds} d t') e = let x = r.only (tree m ds end) end k ls rest q d (i m ds vs (here rest) e) in found Lex ks m ds x.0 vs s' k x.1 rest (λ z. z) x.2 x.3 x.4 x.5

    pub fails_rule : {X' : Test} {n : N} {c : Tree → Bool} → Heads X X' → Fails rule Lex X' end (rule n) s → Fails rule Lex X ks (such n c) s
    fails_rule {X'} {n} {c} i r = record { no = λ ts vs k ls rest q d e. go ts vs k ls rest q d e }
      where
        go : (ts vs : Slots) (k : ℕ) (ls rest : Lexemes) → Lexes Lex s ls → Takes rule (such n c) ks ts s ls vs k rest → Admits X ts (here rest) → ⊥
        go ts vs k ls rest q (is_such {l = m} {cs = ds} d t) e = r.no (tree m ds end) end k ls rest q d (i m ds vs (here rest) e)

    -- it is read, and its tree fails the test
    pub fails_such : {rn : Way} {X' : Test} {n : N} {c : Tree → Bool} {s' : ℕ} {l : Label} {cs : Slots} → Heads X X' → Reads rule Lex X' end (rule n) s s' (tree l cs) rn → c (record { label = l; slots = cs }) ≡ false → Fails rule Lex X ks (such n c) s
    fails_such {rn} {X'} {n} {c} {s'} {l} {cs} i r f = record { no = λ ts vs k ls rest q d e. go ts vs k ls rest q d e }
      where
        go : (ts vs : Slots) (k : ℕ) (ls rest : Lexemes) → Lexes Lex s ls → Takes rule (such n c) ks ts s ls vs k rest → Admits X ts (here rest) → ⊥
        go ts vs k ls rest q (is_such {l = m} {cs = ds} d t) e =
            let x = r.only (tree m ds end) end k ls rest q d (i m ds vs (here rest) e) in
            let w : c (record { label = m; slots = ds }) ≡ c (record { label = l; slots = cs }) = (λ i. c (record { label = label_is x.2 i; slots = slots_are x.2 i })) in
            false≢true (sym f ∙ (sym w ∙ t))

    -- a symbol was read, and its tree passes a test, or fails it
    pub tested : {w : Way} {n : N} {c : Tree → Bool} {s' : ℕ} {l : Label} {cs : Slots} → Reads rule Lex X ks (such n always) s s' (tree l cs) w → c (record { label = l; slots = cs }) ≡ true → Reads rule Lex X ks (such n c) s s' (tree l cs) w
    tested {w} {n} {c} {s'} {l} {cs} r t = record { passes = r.passes; sound = λ us vs k ls' rest q e d. with_test (r.sound us vs k ls' rest q e d); only = λ ts vs k ls rest q d e. r.only ts vs k ls rest q (without d) e }
      where
        with_test : {us vs : Slots} {k : ℕ} {ls rest : Lexemes} → Takes rule (such n always) ks (tree l cs us) s ls vs k rest → Takes rule (such n c) ks (tree l cs us) s ls vs k rest
        with_test (is_such d h) = is_such d t

        without : {ts vs : Slots} {k : ℕ} {ls rest : Lexemes} → Takes rule (such n c) ks ts s ls vs k rest → Takes rule (such n always) ks ts s ls vs k rest
        without (is_such d h) = is_such d refl

    pub fails_test : {w : Way} {n : N} {c : Tree → Bool} {s' : ℕ} {l : Label} {cs : Slots} → Reads rule Lex X ks (such n always) s s' (tree l cs) w → c (record { label = l; slots = cs }) ≡ false → Fails rule Lex X ks (such n c) s
    fails_test {w} {n} {c} {s'} {l} {cs} r f = record { no = λ ts vs k ls rest q d e. go ts vs k ls rest q d e }
      where
        go : (ts vs : Slots) (k : ℕ) (ls rest : Lexemes) → Lexes Lex s ls → Takes rule (such n c) ks ts s ls vs k rest → Admits X ts (here rest) → ⊥
        go ts vs k ls rest q (is_such {l = m} {cs = ds} {us = us} d t) e =
            let x = r.only (tree m ds us) us k ls rest q (is_such d refl) e in
            let w : c (record { label = m; slots = ds }) ≡ c (record { label = l; slots = cs }) = (λ i. c (record { label = label_is x.2 i; slots = slots_are x.2 i })) in
            false≢true (sym f ∙ (sym w ∙ t))

    pub fails_tested : {n : N} {c : Tree → Bool} → Fails rule Lex X ks (such n always) s → Fails rule Lex X ks (such n c) s
    fails_tested {n} {c} m = record { no = λ ts vs k ls rest q d e. go ts vs k ls rest q d e }
      where
        go : (ts vs : Slots) (k : ℕ) (ls rest : Lexemes) → Lexes Lex s ls → Takes rule (such n c) ks ts s ls vs k rest → Admits X ts (here rest) → ⊥
        go ts vs k ls rest q (is_such {l = l} {cs = cs} {us = us} d t) e = m.no (tree l cs us) us k ls rest q (is_such d refl) e

    pub by_mark : {rn : Way} {X' : Test} {h : Label → Label} {n : N} {s' : ℕ} {l : Label} {cs : Slots} → ((l : Label) (cs vs : Slots) (y : Lexeme) → Admits X (tree (h l) cs vs) y → Admits X' (tree l cs end) y) → Reads rule Lex X' end (rule n) s s' (tree l cs) rn → Reads rule Lex X ks (marked h n) s s' (tree (h l) cs) rn
    by_mark {rn} {X'} {h} {n} {s'} {l} {cs} i r = record { passes = r.passes; sound = λ us vs k ls' rest q w d. go_sound us vs k ls' rest q w d; only = λ ts vs k ls rest q d e. go_only ts vs k ls rest q d e }
      where
        go_sound : (us vs : Slots) (k : ℕ) (ls' rest : Lexemes) → Lexes Lex s' ls' → Reaches rn.reach s' ls' → Takes rule nothing ks us s' ls' vs k rest → Takes rule (marked h n) ks (tree (h l) cs us) s (rn.pass ls') vs k rest
        go_sound us vs k ls' rest q w is_nothing = is_marked (r.sound end end s' ls' ls' q w is_nothing)

        go_only : (ts vs : Slots) (k : ℕ) (ls rest : Lexemes) → Lexes Lex s ls → Takes rule (marked h n) ks ts s ls vs k rest → Admits X ts (here rest) → (us : Slots) × (ls' : Lexemes) × (ts ≡ tree (h l) cs us) × Lexes Lex s' ls' × Takes rule nothing ks us s' ls' vs k rest × (ls ≡ rn.pass ls')
        go_only ts vs k ls rest q (is_marked {l = m} {cs = ds} d) e = let x = r.only (tree m ds end) end k ls rest q d (i m ds vs (here rest) e) in found Lex ks m ds x.0 vs s' k x.1 rest h x.2 x.3 x.4 x.5

    -- a part, and more behind it
    pub then_by : {rn : Way} {X' : Test} {a b : Grammar N} {s' : ℕ} {f : Slots → Slots} → Reads rule Lex X' ks a s s' f rn → Between rule X X' ks a b s → Goes rule Lex X ks (seq a b) s b s' f rn
    then_by {rn} {X'} {a} {b} {s'} {f} r c = record { passes = r.passes; sound = λ us vs k ls' rest l w d. go_sound us vs k ls' rest l w d; only = λ ts vs k ls rest l d e. go_only ts vs k ls rest l d e }
      where
        go_sound : (us vs : Slots) (k : ℕ) (ls' rest : Lexemes) → Lexes Lex s' ls' → Reaches rn.reach s' ls' → Takes rule b ks us s' ls' vs k rest → Takes rule (seq a b) ks (f us) s (rn.pass ls') vs k rest
        go_sound us vs k ls' rest l w d = is_seq (r.sound us us s' ls' ls' l w is_nothing) d

        go_only : (ts vs : Slots) (k : ℕ) (ls rest : Lexemes) → Lexes Lex s ls → Takes rule (seq a b) ks ts s ls vs k rest → Admits X ts (here rest) → (us : Slots) × (ls' : Lexemes) × (ts ≡ f us) × Lexes Lex s' ls' × Takes rule b ks us s' ls' vs k rest × (ls ≡ rn.pass ls')
        go_only ts vs k ls rest l (is_seq {us = ws} {j = j} {mid = mid} d d') e =
            let x = r.only ts ws j ls mid l d (c.admits ts ws vs j k ls mid rest d d' e) in
            let n = ends x.4 in
            (ws, mid, x.2 ∙ ap f n.0, subst (λ z. Lexes Lex s' z) n.2 x.3, subst (λ z. Takes rule b ks ws z mid vs k rest) (sym n.1) d', x.5 ∙ ap rn.pass n.2)

    -- What a semicolon ends, whose row is p by its slots and whichever first lexeme. Behind each reading there stands X', by that reading's own row.
    pub ends_by : {rn : Way} {rows : Lexeme → Slots → Look} {X' : Test} {p : Look} {a : Grammar N} {s' : ℕ} {f : Slots → Slots} → Reads rule Lex X' ks a s s' f rn → ((us : Slots) → f us ≡ append (f end) us) → ((y : Lexeme) → Lex s y → rows y (f end) ≡ p)
        → ((cs : Slots) (j : ℕ) (ls mid : Lexemes) → Lexes Lex s ls → Takes rule a ks cs s ls end j mid → IsTrue (seen (closes (rows (here ls) cs) X.base) (here mid)) → Admits X' cs (here mid))
        → Goes rule Lex X ks (ended rows a) s (semicolon p) s' f rn
    ends_by {rn} {rows} {X'} {p} {a} {s'} {f} r fr h c = record { passes = r.passes; sound = λ us vs k ls' rest l w d. go_sound us vs k ls' rest l w d; only = λ ts vs k ls rest l d e. go_only ts vs k ls rest l d e }
      where
        go_sound : (us vs : Slots) (k : ℕ) (ls' rest : Lexemes) → Lexes Lex s' ls' → Reaches rn.reach s' ls' → Takes rule (semicolon p) ks us s' ls' vs k rest → Takes rule (ended rows a) ks (f us) s (rn.pass ls') vs k rest
        go_sound us vs k ls' rest l w d =
            is_ended (fr us) (r.sound end end s' ls' ls' l w is_nothing) (subst (λ z. Takes rule (semicolon z) ks us s' ls' vs k rest) (sym (h (here (rn.pass ls')) (here_at Lex (rn.pass ls') (r.passes.lexed ls' l)))) d)

        inside : (cs ts us vs ds : Slots) (y : Lexeme) (k j : ℕ) (ls ls' mid rest : Lexemes) → ls ≡ rn.pass ls' → Lex s y → ts ≡ append cs us → cs ≡ f ds → Lexes Lex s' ls' → Takes rule nothing ks ds s' ls' end j mid → Takes rule (semicolon (rows y cs)) ks us j mid vs k rest
            → (ws : Slots) × (more : Lexemes) × (ts ≡ f ws) × Lexes Lex s' more × Takes rule (semicolon p) ks ws s' more vs k rest × (ls ≡ rn.pass more)
        inside cs ts us vs ds y k j ls ls' mid rest z ly q w l is_nothing d =
            (us, ls', q ∙ (ap (λ z. append z us) w ∙ sym (fr us)), l, subst (λ z. Takes rule (semicolon z) ks us s' ls' vs k rest) (h y ly) (subst (λ z. Takes rule (semicolon (rows y z)) ks us s' ls' vs k rest) w d), z)

        go_only : (ts vs : Slots) (k : ℕ) (ls rest : Lexemes) → Lexes Lex s ls → Takes rule (ended rows a) ks ts s ls vs k rest → Admits X ts (here rest) → (us : Slots) × (ls' : Lexemes) × (ts ≡ f us) × Lexes Lex s' ls' × Takes rule (semicolon p) ks us s' ls' vs k rest × (ls ≡ rn.pass ls')
        go_only ts vs k ls rest l (is_ended {cs = cs} {us = us} {j = j} {mid = mid} q d d') e =
            let x = r.only cs end j ls mid l d (c cs j ls mid l d (closing (rows (here ls) cs) X.base d' e.0)) in
            inside cs ts us vs x.0 (here ls) k j ls x.1 mid rest x.5 (here_at Lex ls l) q x.2 x.3 x.4 d'

module _ {N : Type 0} {rule : N → Grammar N} {Lex : ℕ → Lexeme → Type 0} {X : Test} {ks : Slots} {s : ℕ} where
  pub fails_never : Fails rule Lex X ks never s
  fails_never = record { no = λ ts vs k ls rest l d e. elim d [ ] }

  pub fails_alt : {a b : Grammar N} → Fails rule Lex X ks a s → Fails rule Lex X ks b s → Fails rule Lex X ks (alt a b) s
  fails_alt {a} {b} m n = record { no = λ ts vs k ls rest l d e. go ts vs k ls rest l d e }
    where
      go : (ts vs : Slots) (k : ℕ) (ls rest : Lexemes) → Lexes Lex s ls → Takes rule (alt a b) ks ts s ls vs k rest → Admits X ts (here rest) → ⊥
      go ts vs k ls rest l (is_left d) e = m.no ts vs k ls rest l d e
      go ts vs k ls rest l (is_right d) e = n.no ts vs k ls rest l d e

  -- each of two choices goes on
  pub both : {a b a' b' : Grammar N} → Goes rule Lex X ks a s a' s (λ us. us) (still 0) → Goes rule Lex X ks b s b' s (λ us. us) (still 0) → Goes rule Lex X ks (alt a b) s (alt a' b') s (λ us. us) (still 0)
  both {a} {b} {a'} {b'} r t = record { passes = passes_none; sound = λ us vs k ls' rest l w d. go_sound us vs k ls' rest l w d; only = λ ts vs k ls rest l d e. go_only ts vs k ls rest l d e }
    where
      go_sound : (us vs : Slots) (k : ℕ) (ls' rest : Lexemes) → Lexes Lex s ls' → Reaches 0 s ls' → Takes rule (alt a' b') ks us s ls' vs k rest → Takes rule (alt a b) ks us s ls' vs k rest
      go_sound us vs k ls' rest l w (is_left d) = is_left (r.sound us vs k ls' rest l w d)
      go_sound us vs k ls' rest l w (is_right d) = is_right (t.sound us vs k ls' rest l w d)

      go_only : (ts vs : Slots) (k : ℕ) (ls rest : Lexemes) → Lexes Lex s ls → Takes rule (alt a b) ks ts s ls vs k rest → Admits X ts (here rest) → (us : Slots) × (ls' : Lexemes) × (ts ≡ us) × Lexes Lex s ls' × Takes rule (alt a' b') ks us s ls' vs k rest × (ls ≡ ls')
      go_only ts vs k ls rest l (is_left d) e = let x = r.only ts vs k ls rest l d e in (x.0, x.1, x.2, x.3, is_left x.4, x.5)
      go_only ts vs k ls rest l (is_right d) e = let x = t.only ts vs k ls rest l d e in (x.0, x.1, x.2, x.3, is_right x.4, x.5)

  pub weaken : {rn : Way} {X' : Test} {g g' : Grammar N} {s' : ℕ} {f : Slots → Slots} → Goes rule Lex X ks g s g' s' f rn → Within X' X → Goes rule Lex X' ks g s g' s' f rn
  weaken {rn} {X'} a c = record { passes = a.passes; sound = a.sound; only = λ ts vs k ls rest l d e. a.only ts vs k ls rest l d (c ts (here rest) e) }

  pub weaken_fails : {X' : Test} {g : Grammar N} → Fails rule Lex X ks g s → Within X' X → Fails rule Lex X' ks g s
  weaken_fails {X'} a c = record { no = λ ts vs k ls rest l d e. a.no ts vs k ls rest l d (c ts (here rest) e) }

  pub weaken_on : {rn : Way} {X' : Test} {g g' : Grammar N} {s' : ℕ} {f : Slots → Slots} → Goes rule Lex X ks g s g' s' f rn → On rule X' X ks g s → Goes rule Lex X' ks g s g' s' f rn
  weaken_on {rn} {X'} a c = record { passes = a.passes; sound = a.sound; only = λ ts vs k ls rest l d e. a.only ts vs k ls rest l d (c.admits ts vs k ls rest d e) }

  pub weaken_fails_on : {X' : Test} {g : Grammar N} → Fails rule Lex X ks g s → On rule X' X ks g s → Fails rule Lex X' ks g s
  weaken_fails_on {X'} a c = record { no = λ ts vs k ls rest l d e. a.no ts vs k ls rest l d (c.admits ts vs k ls rest d e) }

  -- within a part, with more behind it
  pub part_by : {rn : Way} {X' : Test} {a a' b : Grammar N} {s' : ℕ} {f : Slots → Slots} → Goes rule Lex X' ks a s a' s' f rn → Between rule X X' ks a b s → Goes rule Lex X ks (seq a b) s (seq a' b) s' f rn
  part_by {rn} {X'} {a} {a'} {b} {s'} {f} r c = record { passes = r.passes; sound = λ us vs k ls' rest l w d. go_sound us vs k ls' rest l w d; only = λ ts vs k ls rest l d e. go_only ts vs k ls rest l d e }
    where
      go_sound : (us vs : Slots) (k : ℕ) (ls' rest : Lexemes) → Lexes Lex s' ls' → Reaches rn.reach s' ls' → Takes rule (seq a' b) ks us s' ls' vs k rest → Takes rule (seq a b) ks (f us) s (rn.pass ls') vs k rest
      go_sound us vs k ls' rest l w (is_seq {us = ws} {j = j} {mid = mid} d e) = is_seq (r.sound us ws j ls' mid l w d) e

      go_only : (ts vs : Slots) (k : ℕ) (ls rest : Lexemes) → Lexes Lex s ls → Takes rule (seq a b) ks ts s ls vs k rest → Admits X ts (here rest) → (us : Slots) × (ls' : Lexemes) × (ts ≡ f us) × Lexes Lex s' ls' × Takes rule (seq a' b) ks us s' ls' vs k rest × (ls ≡ rn.pass ls')
      go_only ts vs k ls rest l (is_seq {us = ws} {j = j} {mid = mid} d d') e = let x = r.only ts ws j ls mid l d (c.admits ts ws vs j k ls mid rest d d' e) in (x.0, x.1, x.2, x.3, is_seq x.4 d', x.5)

  pub done : {b : Grammar N} → Goes rule Lex X ks (seq nothing b) s b s (λ us. us) (still 0)
  done {b} = same (λ ts us i j ls rest d. go d) (λ ts us i j ls rest d. is_seq is_nothing d)
    where
      go : {ts us : Slots} {i j : ℕ} {ls rest : Lexemes} → Takes rule (seq nothing b) ks ts i ls us j rest → Takes rule b ks ts i ls us j rest
      go (is_seq is_nothing d) = d

  pub part_fails : {X' : Test} {a b : Grammar N} → Fails rule Lex X' ks a s → Between rule X X' ks a b s → Fails rule Lex X ks (seq a b) s
  part_fails {X'} {a} {b} r c = record { no = λ ts vs k ls rest l d e. go ts vs k ls rest l d e }
    where
      go : (ts vs : Slots) (k : ℕ) (ls rest : Lexemes) → Lexes Lex s ls → Takes rule (seq a b) ks ts s ls vs k rest → Admits X ts (here rest) → ⊥
      go ts vs k ls rest l (is_seq {us = ws} {j = j} {mid = mid} d d') e = r.no ts ws j ls mid l d (c.admits ts ws vs j k ls mid rest d d' e)

  pub fails_node : {X' : Test} {m : Make} {a : Grammar N} → Inside rule m X X' ks a s → Fails rule Lex X' ks a s → Fails rule Lex X ks (node m a) s
  fails_node {X'} {m} {a} t r = record { no = λ ts vs k ls rest l d e. go ts vs k ls rest l d e }
    where
      go : (ts vs : Slots) (k : ℕ) (ls rest : Lexemes) → Lexes Lex s ls → Takes rule (node m a) ks ts s ls vs k rest → Admits X ts (here rest) → ⊥
      go ts vs k ls rest l (is_node {cs = cs} d) e = r.no cs end k ls rest l d (t.ends _ cs vs k ls rest d e)

  -- what a semicolon ends can't be read
  pub fails_ended : {rows : Lexeme → Slots → Look} {X' : Test} {a : Grammar N} → Fails rule Lex X' ks a s → ((cs : Slots) (j : ℕ) (ls mid : Lexemes) → Lexes Lex s ls → Takes rule a ks cs s ls end j mid → IsTrue (seen (closes (rows (here ls) cs) X.base) (here mid)) → Admits X' cs (here mid)) → Fails rule Lex X ks (ended rows a) s
  fails_ended {rows} {X'} {a} r c = record { no = λ ts vs k ls rest l d e. go ts vs k ls rest l d e }
    where
      go : (ts vs : Slots) (k : ℕ) (ls rest : Lexemes) → Lexes Lex s ls → Takes rule (ended rows a) ks ts s ls vs k rest → Admits X ts (here rest) → ⊥
      go ts vs k ls rest l (is_ended {cs = cs} {us = us} {j = j} {mid = mid} q d d') e = r.no cs end j ls mid l d (c cs j ls mid l d (closing (rows (here ls) cs) X.base d' e.0))

  -- what fails, at whatever stands here
  pub fails_nothing : ((ts : Slots) (y : Lexeme) → Lex s y → Admits X ts y → ⊥) → Fails rule Lex X ks nothing s
  fails_nothing n = record { no = λ ts vs k ls rest l d e. go ts vs k ls rest l d e }
    where
      go : (ts vs : Slots) (k : ℕ) (ls rest : Lexemes) → Lexes Lex s ls → Takes rule nothing ks ts s ls vs k rest → Admits X ts (here rest) → ⊥
      go ts vs k ls rest l is_nothing e = n ts (here ls) (here_at Lex ls l) e

  pub fails_lexeme : (p : Look) → ((y : Lexeme) → Lex s y → IsTrue (seen p y) → ⊥) → Fails rule Lex X ks (lexeme p) s
  fails_lexeme p n = record { no = λ ts vs k ls rest l d e. go ts vs k ls rest l d }
    where
      go : (ts vs : Slots) (k : ℕ) (ls rest : Lexemes) → Lexes Lex s ls → Takes rule (lexeme p) ks ts s ls vs k rest → ⊥
      go ts vs k ls rest l (is_lexeme {x = x} q) = n x l.0 q

  pub fails_look : (p : Look) → ((y : Lexeme) → Lex s y → IsTrue (seen p y) → ⊥) → Fails rule Lex X ks (look p) s
  fails_look p n = record { no = λ ts vs k ls rest l d e. go ts vs k ls rest l d }
    where
      go : (ts vs : Slots) (k : ℕ) (ls rest : Lexemes) → Lexes Lex s ls → Takes rule (look p) ks ts s ls vs k rest → ⊥
      go ts vs k ls rest l (is_look q) = n (here ls) (here_at Lex ls l) q

  -- the text of what stands here
  pub reads_text : (p : List ℕ → Bool) → ((y : Lexeme) → Lex s y → p y.units ≡ true) → Reads rule Lex X ks (text p) s s (λ us. us) (still 0)
  reads_text p h = record { passes = passes_none; sound = λ us vs k ls' rest l w d. go_sound us vs k ls' rest l d; only = λ ts vs k ls rest l d e. go_only ts vs k ls rest l d }
    where
      go_sound : (us vs : Slots) (k : ℕ) (ls' rest : Lexemes) → Lexes Lex s ls' → Takes rule nothing ks us s ls' vs k rest → Takes rule (text p) ks us s ls' vs k rest
      go_sound us vs k ls' rest l is_nothing = is_text (h (here ls') (here_at Lex ls' l))

      go_only : (ts vs : Slots) (k : ℕ) (ls rest : Lexemes) → Lexes Lex s ls → Takes rule (text p) ks ts s ls vs k rest → (us : Slots) × (ls' : Lexemes) × (ts ≡ us) × Lexes Lex s ls' × Takes rule nothing ks us s ls' vs k rest × (ls ≡ ls')
      go_only ts vs k ls rest l (is_text q) = (ts, ls, refl, l, is_nothing, refl)

  pub fails_text : (p : List ℕ → Bool) → ((y : Lexeme) → Lex s y → p y.units ≡ false) → Fails rule Lex X ks (text p) s
  fails_text p n = record { no = λ ts vs k ls rest l d e. go ts vs k ls rest l d }
    where
      go : (ts vs : Slots) (k : ℕ) (ls rest : Lexemes) → Lexes Lex s ls → Takes rule (text p) ks ts s ls vs k rest → ⊥
      go ts vs k ls rest l (is_text q) = false≢true (sym (n (here ls) (here_at Lex ls l)) ∙ q)

  pub reads_empty_slot : Reads rule Lex X ks empty_slot s s hole (still 0)
  reads_empty_slot = record { passes = passes_none; sound = λ us vs k ls' rest l w d. go_sound us vs k ls' rest l d; only = λ ts vs k ls rest l d e. go_only ts vs k ls rest l d }
    where
      go_sound : (us vs : Slots) (k : ℕ) (ls' rest : Lexemes) → Lexes Lex s ls' → Takes rule nothing ks us s ls' vs k rest → Takes rule empty_slot ks (hole us) s ls' vs k rest
      go_sound us vs k ls' rest l is_nothing = is_empty_slot

      go_only : (ts vs : Slots) (k : ℕ) (ls rest : Lexemes) → Lexes Lex s ls → Takes rule empty_slot ks ts s ls vs k rest → (us : Slots) × (ls' : Lexemes) × (ts ≡ hole us) × Lexes Lex s ls' × Takes rule nothing ks us s ls' vs k rest × (ls ≡ ls')
      go_only ts vs k ls rest l (is_empty_slot {ts = us}) = (us, ls, refl, l, is_nothing, refl)

  pub fails_when : {c : Bool} {a : Grammar N} → c ≡ false → Fails rule Lex X ks (when c a) s
  fails_when {c} {a} f = record { no = λ ts vs k ls rest l d e. go ts vs k ls rest l d }
    where
      go : (ts vs : Slots) (k : ℕ) (ls rest : Lexemes) → Lexes Lex s ls → Takes rule (when c a) ks ts s ls vs k rest → ⊥
      go ts vs k ls rest l (is_when q d) = false≢true (sym f ∙ q)

  pub fails_under : {c : Bool} {a : Grammar N} → Fails rule Lex X ks a s → Fails rule Lex X ks (when c a) s
  fails_under {c} {a} n = record { no = λ ts vs k ls rest l d e. go ts vs k ls rest l d e }
    where
      go : (ts vs : Slots) (k : ℕ) (ls rest : Lexemes) → Lexes Lex s ls → Takes rule (when c a) ks ts s ls vs k rest → Admits X ts (here rest) → ⊥
      go ts vs k ls rest l (is_when q d) e = n.no ts vs k ls rest l d e

  pub fails_mark : {X' : Test} {h : Label → Label} {n : N} → ((l : Label) (cs vs : Slots) (y : Lexeme) → Admits X (tree (h l) cs vs) y → Admits X' (tree l cs end) y) → Fails rule Lex X' end (rule n) s → Fails rule Lex X ks (marked h n) s
  fails_mark {X'} {h} {n} i r = record { no = λ ts vs k ls rest l d e. go ts vs k ls rest l d e }
    where
      go : (ts vs : Slots) (k : ℕ) (ls rest : Lexemes) → Lexes Lex s ls → Takes rule (marked h n) ks ts s ls vs k rest → Admits X ts (here rest) → ⊥
      go ts vs k ls rest l (is_marked {l = m} {cs = ds} d) e = r.no (tree m ds end) end k ls rest l d (i m ds vs (here rest) e)

  -- what is kept can't be read, or what stands behind it can't
  pub fails_keep : {X' : Test} {a b : Grammar N} → Fails rule Lex X' ks a s → ((cs ts us : Slots) (j k : ℕ) (mid rest : Lexemes) → Takes rule b cs ts j mid us k rest → Admits X ts (here rest) → Admits X' cs (here mid)) → Fails rule Lex X ks (keep a b) s
  fails_keep {X'} {a} {b} r c = record { no = λ ts vs k ls rest l d e. go ts vs k ls rest l d e }
    where
      go : (ts vs : Slots) (k : ℕ) (ls rest : Lexemes) → Lexes Lex s ls → Takes rule (keep a b) ks ts s ls vs k rest → Admits X ts (here rest) → ⊥
      go ts vs k ls rest l (is_keep {cs = cs} {j = j} {mid = mid} d d') e = r.no cs end j ls mid l d (c cs ts vs j k mid rest d' e)

  pub fails_behind_kept : {rn : Way} {X' : Test} {a b : Grammar N} {s' : ℕ} {f : Slots → Slots} → Reads rule Lex X' ks a s s' f rn → ((cs ts us : Slots) (j k : ℕ) (mid rest : Lexemes) → Takes rule b cs ts j mid us k rest → Admits X ts (here rest) → Admits X' cs (here mid)) → Fails rule Lex X (f end) b s' → Fails rule Lex X ks (keep a b) s
  fails_behind_kept {rn} {X'} {a} {b} {s'} {f} r c t = record { no = λ ts vs k ls rest l d e. go ts vs k ls rest l d e }
    where
      go : (ts vs : Slots) (k : ℕ) (ls rest : Lexemes) → Lexes Lex s ls → Takes rule (keep a b) ks ts s ls vs k rest → Admits X ts (here rest) → ⊥
      go ts vs k ls rest l (is_keep {cs = cs} {j = j} {mid = mid} d d') e =
          let x = r.only cs end j ls mid l d (c cs ts vs j k mid rest d' e) in
          let n = ends x.4 in
          let q : cs ≡ f end = x.2 ∙ ap f n.0 in
          let at : Takes rule b (f end) ts s' mid vs k rest = subst (λ z. Takes rule b z ts s' mid vs k rest) q (subst (λ z. Takes rule b cs ts z mid vs k rest) (sym n.1) d') in
          t.no ts vs k mid rest (subst (λ z. Lexes Lex s' z) n.2 x.3) at e

module _ {N : Type 0} {rule : N → Grammar N} {Lex : ℕ → Lexeme → Type 0} {X : Test} {ks : Slots} where
  -- The semicolon of a row: it stands here, or is left out, or neither.
  pub by_semicolon : {s : ℕ} {x : Lexeme} (p : Look) → Lex s x → x.kind ≡ Semicolon → x.escaped ≡ false → ((y : Lexeme) → Lex s y → y ≡ x) → Reads rule Lex X ks (semicolon p) s x.to (λ us. us) (joined (still 0) (passing x))
  by_semicolon {s} {x} p l e f one = left (fails_look (may_omit p) (λ y i h. none y (one y i) h)) ▹ reads_lexeme (is Semicolon) l (rw (e, f) refl) (λ y i h. one y i)
    where
      none : (y : Lexeme) → y ≡ x → IsTrue (seen (may_omit p) y) → ⊥
      none y q h = no_omission y.newline (seen p y) (subst (λ k. (same_kind Eof k || begins_with_brace k || (y.newline && not (same_kind Semicolon k) && not (seen p y))) ≡ true) (ap (λ z. z.kind) q ∙ e) h)

  pub by_omission : {s : ℕ} (p : Look) → ((y : Lexeme) → Lex s y → IsTrue (seen (may_omit p) y)) → Reads rule Lex X ks (semicolon p) s s (λ us. us) (joined (still 0) (still 0))
  by_omission {s} p h = right (fails_lexeme (is Semicolon) (λ y i q. no_semicolon y.newline y.escaped y.kind (seen p y) (h y i) q)) ▹ looks (may_omit p) h

  pub fails_semicolon : {s : ℕ} (p : Look) → ((y : Lexeme) → Lex s y → IsTrue (seen (is Semicolon) y) → ⊥) → ((y : Lexeme) → Lex s y → IsTrue (seen (may_omit p) y) → ⊥) → Fails rule Lex X ks (semicolon p) s
  fails_semicolon p a b = fails_alt (fails_lexeme (is Semicolon) a) (fails_look (may_omit p) b)

  -- Items one behind the other: one more, and no more.
  pub many_more : {rn : Way} {X' : Test} {a : Grammar N} {s s' : ℕ} {f : Slots → Slots} → Fails rule Lex X ks nothing s → Reads rule Lex X' ks a s s' f rn → Between rule X X' ks a (many a) s → Goes rule Lex X ks (many a) s (many a) s' f (joined (still 0) (joined (still 0) rn))
  many_more n r c = more_of ▹ left n ▹ then_by r c

  pub many_end : {X' : Test} {a : Grammar N} {s : ℕ} → Fails rule Lex X' ks a s → Between rule X X' ks a (many a) s → Reads rule Lex X ks (many a) s s (λ us. us) (joined (still 0) (still 0))
  many_end n c = more_of ▹ right (part_fails n c)

  pub fails_many : {X' : Test} {a : Grammar N} {s : ℕ} → Fails rule Lex X ks nothing s → Fails rule Lex X' ks a s → Between rule X X' ks a (many a) s → Fails rule Lex X ks (many a) s
  fails_many n m c = more_of ▹✗ fails_alt (part_fails m c) n

  -- Items with commas between: what remains behind an item, and behind its comma.
  pub commas_item : {rn : Way} {X' : Test} {b : Bool} {a : Grammar N} {s s' : ℕ} {f : Slots → Slots} → Reads rule Lex X' ks a s s' f rn → Between rule X X' ks a (after_item b a) s → Goes rule Lex X ks (commas b a) s (after_item b a) s' f (joined (still 0) rn)
  commas_item {b = b} {a = a} r c = commas_of {b = b} {a = a} ▹ then_by r c

  pub fails_commas : {X' : Test} {b : Bool} {a : Grammar N} {s : ℕ} → Fails rule Lex X' ks a s → Between rule X X' ks a (after_item b a) s → Fails rule Lex X ks (commas b a) s
  fails_commas {b = b} {a = a} n c = commas_of {b = b} {a = a} ▹✗ part_fails n c

  -- a comma stands here, and an item may stand behind it
  pub comma_here : (b : Bool) (a : Grammar N) {s : ℕ} {x : Lexeme} → Fails rule Lex X ks nothing s → Lex s x → IsTrue (seen (is Comma) x) → ((y : Lexeme) → Lex s y → IsTrue (seen (is Comma) y) → y ≡ x) → Goes rule Lex X ks (after_item b a) s (after_comma b a) x.to (λ us. us) (joined (still 0) (passing x))
  comma_here b a n l h one = left n ▹ then_by {X' = plain full} (reads_lexeme (is Comma) l h one) (record { admits = λ ts us vs j k ls mid rest d d' e. (refl, refl) })

  pub no_comma : (b : Bool) (a : Grammar N) {s : ℕ} → ((y : Lexeme) → Lex s y → IsTrue (seen (is Comma) y) → ⊥) → Reads rule Lex X ks (after_item b a) s s (λ us. us) (still 0)
  no_comma b a n = right (part_fails {X' = plain full} (fails_lexeme (is Comma) n) (record { admits = λ ts us vs j k ls mid rest d d' e. (refl, refl) }))

  -- behind a comma that may be the last one: another item, or none
  pub item_behind : {a : Grammar N} {s : ℕ} → Fails rule Lex X ks nothing s → Goes rule Lex X ks (after_comma true a) s (commas true a) s (λ us. us) (still 0)
  item_behind n = left n

  pub last_comma : {a : Grammar N} {s : ℕ} → Fails rule Lex X ks (commas true a) s → Reads rule Lex X ks (after_comma true a) s s (λ us. us) (still 0)
  last_comma n = right n
