-- Where what is taken from lexemes begins and ends.
use Rattle.std.proofs.Common.{ℕ, ◌≡◌, ◌≤◌, ◌⊎◌, inl, inr, List, refl, sym, subst, arith, ◌∙◌}
use Rattle.std.specs.Prelude.{IsUtf8, IsCharBoundary}
use Rattle.js_grammar.specs.Trees.{Slots}
use Rattle.js_grammar.specs.Grammar.{Lexeme, Lexemes, last, next, here, Grammar, Takes, is_nothing, is_lexeme, is_look, is_text, is_ahead, is_empty_slot, is_seq, is_left, is_right, is_when, is_many, is_commas, is_such, is_marked, is_node, is_ended, is_keep, is_kept}
use Rattle.js_grammar.specs.Lexed.{Lexes}
use Rattle.js_grammar.proofs.Behind.{lexed_behind}
use Rattle.parse_targets.specs.Targets.{Spanned}
use Rattle.parse_targets.proofs.LiteralsAsTargets.{Led, lexeme_between}

pub first_led : {text : List ℕ} {i : ℕ} (ls : Lexemes) → Lexes (Led text) i ls → Led text i (here ls)
first_led (last x) m = m
first_led (next x ls) m = m.0

module _ (text : List ℕ) where
  -- The place is the end of a lexeme from those on, and not before the first of them ends.
  pub record Ends (ls : Lexemes) (j : ℕ) : Type 0 where
    pub place : ℕ
    pub final : Lexeme
    pub led : Led text place final
    pub ends : final.to ≡ j
    pub behind : (here ls).to ≤ j

  -- the same, or nothing was taken
  abbrev pub Taken : ℕ → Lexemes → ℕ → Lexemes → Type 0
  Taken i ls j rest = ((j ≡ i) × (rest ≡ ls)) ⊎ Ends ls j

  pub one_ends : {i : ℕ} {x : Lexeme} {ls : Lexemes} → Led text i x → Ends (next x ls) x.to
  one_ends {i} {x} l = record { place = i; final = x; led = l; ends = refl; behind = omega arith }

  pub then_ends : {i j k : ℕ} {ls mid : Lexemes} → Taken i ls j mid → Lexes (Led text) j mid → Ends mid k → Ends ls k
  then_ends {k = k} (inl e) m d = subst (λ (ms : Lexemes). Ends ms k) e.1 d
  then_ends {mid = mid} (inr e) m d =
      let l = first_led mid m in
      let a = l.0.0.from in
      let b = l.0.0.to in
      let c = e.behind in
      let h = d.behind in
      record { place = d.place; final = d.final; led = d.led; ends = d.ends; behind = omega arith }

  pub ends_then : {j k : ℕ} {ls mid rest : Lexemes} → Ends ls j → Lexes (Led text) j mid → Taken j mid k rest → Ends ls k
  ends_then {ls = ls} e m (inl d) = subst (λ (v : ℕ). Ends ls v) (sym d.0) e
  ends_then {j = j} {ls = ls} {mid = mid} e m (inr d) = then_ends {i = j} {ls = ls} {mid = mid} (inr e) m d

  both_taken : {i j k : ℕ} {ls mid rest : Lexemes} → Taken i ls j mid → Lexes (Led text) j mid → Taken j mid k rest → Taken i ls k rest
  both_taken (inl d) m (inl e) = inl (e.0 ∙ d.0, e.1 ∙ d.1)
  both_taken {i = i} {j = j} {ls = ls} {mid = mid} (inl d) m (inr e) = inr (then_ends {i = i} {j = j} {ls = ls} {mid = mid} (inl d) m e)
  both_taken {ls = ls} {mid = mid} (inr d) m e = inr (ends_then {ls = ls} {mid = mid} d m e)

  pub taken : {N : Type 0} {rules : N → Grammar N} {g : Grammar N} {ks ts us : Slots} {i j : ℕ} {ls rest : Lexemes} → Takes rules g ks ts i ls us j rest → Lexes (Led text) i ls → Taken i ls j rest
  taken is_nothing m = inl (refl, refl)
  taken (is_lexeme q) m = inr (one_ends m.0)
  taken (is_look q) m = inl (refl, refl)
  taken (is_text q) m = inl (refl, refl)
  taken (is_ahead d) m = inl (refl, refl)
  taken is_empty_slot m = inl (refl, refl)
  taken (is_seq d e) m = let l = lexed_behind (Led text) d m in both_taken (taken d m) l (taken e l)
  taken (is_left d) m = taken d m
  taken (is_right d) m = taken d m
  taken (is_when c d) m = taken d m
  taken (is_many d) m = taken d m
  taken (is_commas d) m = taken d m
  taken (is_such d c) m = taken d m
  taken (is_marked d) m = taken d m
  taken (is_node d) m = taken d m
  taken (is_ended q d e) m = let l = lexed_behind (Led text) d m in both_taken (taken d m) l (taken e l)
  taken (is_keep d e) m = let l = lexed_behind (Led text) d m in both_taken (taken d m) l (taken e l)
  taken (is_kept q) m = inl (refl, refl)

  -- the span of what was taken
  abbrev pub spanned : (i : ℕ) {j : ℕ} (ls : Lexemes) → IsUtf8 text → Lexes (Led text) i ls → Ends ls j → Spanned text (record { start = (here ls).from; end = j })
  spanned i {j} ls u m e =
      let l = first_led ls m in
      let a = l.0.0.to in
      let b = e.behind in
      record {
        place = i;
        reached = l.1;
        first = here ls;
        stands = l.0;
        begins = refl;
        begins_between = (lexeme_between u l.2 l.0).0;
        behind = e.place;
        reached_behind = e.led.1;
        final = e.final;
        stands_behind = e.led.0;
        ends = e.ends;
        ends_between = subst (λ (v : ℕ). IsCharBoundary text v) e.ends (lexeme_between u e.led.2 e.led.0).1;
        ordered = omega arith;
      }
