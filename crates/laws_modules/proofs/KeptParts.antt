-- Slots that are kept, and stand behind others: what is read without them is read with them.
use Rattle.std.proofs.Common.{ℕ, ◌≡◌, true, refl, ap, sym, ◌∙◌, subst}
use Rattle.js_grammar.specs.Trees.{Slots, end, append}
use Rattle.js_grammar.specs.FirstSets.{first}
use Rattle.js_grammar.specs.Grammar.{Lexeme, Lexemes, Look, here, nothing, keep, Takes, is_nothing}
use Rattle.js_grammar.specs.Lexed.{Lexes}
use Rattle.js_grammar.specs.Parsing.{plain, full, Reaches, Way, joined, Admits, Reads, Fails}
use Rattle.js_grammar.specs.Productions.{G}
use Rattle.js_grammar.specs.Table.{rule}
use Rattle.js_grammar.proofs.Calculus.{by_plain, ends, fails_behind_kept, fails_keep}
use Rattle.js_grammar.proofs.First.{starts, starting}
use Rattle.js_grammar.proofs.FirstClaims.{firsts}
use Rattle.js_grammar.proofs.FirstRules.{keeps}
use Rattle.js_grammar.proofs.Frame.{append_end, framed}
use Rattle.js_grammar.proofs.Looks.{covers, covered}
use Rattle.laws_primary.proofs.KeptSlots.{EndsKept, slots_added, slots_taken}

module _ {Lex : ℕ → Lexeme → Type 0} {b : G} {s s' : ℕ} {h : Slots → Slots} {w : Way} (ds : Slots) (k : EndsKept b) where
  -- what is read, with slots that are kept
  pub with_kept : Reads rule Lex (plain full) end b s s' h w → Reads rule Lex (plain full) ds b s s' (append (append (h end) ds)) w
  with_kept t = record { passes = t.passes; sound = λ us vs j ls' rest l r d. go_sound us vs j ls' rest l r d; only = λ ts vs j ls rest l d e. go_only ts vs j ls rest l d }
    where
      go_sound : (us vs : Slots) (j : ℕ) (ls' rest : Lexemes) → Lexes Lex s' ls' → Reaches w.reach s' ls' → Takes rule nothing ds us s' ls' vs j rest → Takes rule b ds (append (append (h end) ds) us) s (w.pass ls') vs j rest
      go_sound us vs j ls' rest l r is_nothing =
          let x = framed (slots_added ds k (t.sound end end s' ls' ls' l r is_nothing)) in
          subst (λ (z : Slots). Takes rule b ds (append z us) s (w.pass ls') us s' ls') (sym (append_end x.0) ∙ sym x.1) (x.2 us)

      go_only : (ts vs : Slots) (j : ℕ) (ls rest : Lexemes) → Lexes Lex s ls → Takes rule b ds ts s ls vs j rest → (us : Slots) × (ls' : Lexemes) × (ts ≡ append (append (h end) ds) us) × Lexes Lex s' ls' × Takes rule nothing ds us s' ls' vs j rest × (ls ≡ w.pass ls')
      go_only ts vs j ls rest l d =
          let x = framed d in
          let y = slots_taken ds k (x.2 end) in
          let z = t.only y.0 end j ls rest l y.2 (refl, refl) in
          let n = ends z.4 in
          let q : x.0 ≡ append (h end) ds = sym (append_end x.0) ∙ (y.1 ∙ ap (λ (v : Slots). append v ds) (z.2 ∙ ap h n.0)) in
          (vs, z.1, x.1 ∙ ap (λ (v : Slots). append v vs) q, z.3, subst (λ (v : Lexemes). Takes rule nothing ds vs s' z.1 vs j v) n.2 (subst (λ (v : ℕ). Takes rule nothing ds vs s' z.1 vs v z.1) n.1 is_nothing), z.5)

-- nor can what can't be read be read with such slots
pub fails_with_kept : {Lex : ℕ → Lexeme → Type 0} {b : G} {s : ℕ} (ds : Slots) → EndsKept b → Fails rule Lex (plain full) end b s → Fails rule Lex (plain full) ds b s
fails_with_kept ds k n = record { no = λ ts vs j ls rest l d e. let x = framed d in let y = slots_taken ds k (x.2 end) in n.no y.0 end j ls rest l y.2 (refl, refl) }

-- what stands behind what is kept passes F
passes_on : {b : G} (F : Look) {cs ts us : Slots} {j k : ℕ} {mid rest : Lexemes} → covers (starts first b full) F ≡ true → Takes rule b cs ts j mid us k rest → Admits (plain F) cs (here mid)
passes_on {b} F c d = (covered (starts first b full) F c _ _ _ (starting firsts full d refl), refl)

module _ {Lex : ℕ → Lexeme → Type 0} {a b : G} {F : Look} (c : covers (starts first b full) F ≡ true) where
  pub kept_fails : {s : ℕ} → Fails rule Lex (plain F) end a s → Fails rule Lex (plain full) end (keep a b) s
  kept_fails n = fails_keep {X' = plain F} n (λ cs ts us j i mid rest d e. passes_on F c d)

  module _ {s s' : ℕ} {h : Slots → Slots} {w : Way} (k : EndsKept b) (r : Reads rule Lex (plain F) end a s s' h w) where
    -- what is kept was read, and what stands behind it
    pub kept_read : {s'' : ℕ} {i : Slots → Slots} {w' : Way} → Reads rule Lex (plain full) end b s' s'' i w' → Reads rule Lex (plain full) end (keep a b) s s'' (append (append (i end) (h end))) (joined w w')
    kept_read t = keeps firsts {P = F} r (by_plain F) c (with_kept (h end) k t)

    pub kept_behind_fails : Fails rule Lex (plain full) end b s' → Fails rule Lex (plain full) end (keep a b) s
    kept_behind_fails n = fails_behind_kept {X' = plain F} r (λ cs ts us j i mid rest d e. passes_on F c d) (fails_with_kept (h end) k n)
