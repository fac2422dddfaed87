-- The loop over all levels of operators, over any lexing: its start at an operand or at `#x in ..`, a step, its end, and failures.
use Rattle.std.proofs.Common.{ℕ, zero, suc, ◌≡◌, ◌≤◌, ◌<◌, ◌+◌, ◌⊎◌, inl, inr, true, false, refl, sym, ◌∙◌, subst, arith}
use Rattle.std.proofs.lemmas.Bool.{and_parts, ltb-true, lt-ltb}
use Rattle.js_base.specs.declared.kind.Kind.{Kind}
use Rattle.js_base.specs.declared.kind.Kind.TheVariants.{PrivateIdentifier}
use Rattle.js_base.proofs.KindLemmas.{kind_of_same}
use Rattle.js_grammar.specs.Trees.{Slots, end, Label, tree}
use Rattle.js_grammar.specs.Grammar.{Lexeme, such}
use Rattle.js_grammar.specs.Productions.{Flags, G, at, Exponent}
use Rattle.js_grammar.specs.Parsing.{always, Way, joined, Admits, Reads, Fails}
use Rattle.js_grammar.specs.Table.{rule}
use Rattle.js_grammar.specs.FirstSets.{first}
use Rattle.js_grammar.specs.Levels.{level_at, top_level, operators_at, node_at, feet_at, private_in}
use Rattle.js_grammar.specs.Follow.{row_of, first_edge, tight, looser, after}
use Rattle.js_grammar.specs.RightEdges.{of_operand}
use Rattle.js_grammar.specs.Towers.{linked_label, Around}
use Rattle.js_grammar.proofs.Calculus.{fails_never}
use Rattle.js_grammar.proofs.FirstRules.{fails_here}
use Rattle.js_grammar.proofs.FirstClaims.{firsts}
use Rattle.js_grammar.proofs.Towers.{Foot, topmost, of_level, OneOf}
use Rattle.js_grammar.proofs.Loops.{Alone, Follows, OtherFeet, start_at, start_fails_at, step, step_fails, operators_follow, one_operator, operators_end}
use Rattle.js_grammar.proofs.Operators.{levels, operates, levels_lawful}
use Rattle.js_grammar.proofs.FollowLaws.{admits}
use Rattle.js_grammar.proofs.OperatorEdges.{level_looser, tighter_level, operator_edges, operator_loosely, operator_exactly, one_level}

module _ (f : Flags) where
  -- what may begin an operator's part may stand behind an operand of a tighter level
  pub operand_follow : (m c n : ℕ) → n ≤ 10 → (c < n) ⊎ (n ≡ 10) → Follows first (levels f) m c (after (level_at f n))
  operand_follow m c n h z = operators_follow firsts (level_at f) top_level node_at (feet_at f) (operators_at f)
      (λ q ts y i a b d. admits (level_at f n) ts y (level_looser f n ts y h ∙ binds ts y q i (below q b d z)))
    where
      below : (q : ℕ) → q ≤ c → q ≤ 9 → (c < n) ⊎ (n ≡ 10) → q < n
      below q b d (inl i) = omega arith
      below q b d (inr e) = omega arith

      binds : (ts : Slots) (y : Lexeme) (q : ℕ) → OneOf y.kind (operators_at f q) → q < n → looser (n + 5) f.in_ (first_edge ts).row y.kind y.newline y.escaped ≡ true
      binds ts y q i g = let u = operator_loosely f q i (first_edge ts).row y.newline y.escaped in lt-ltb (tight f.in_ (first_edge ts).row y.kind y.newline y.escaped) (n + 5) (omega arith)

module _ {Lex : ℕ → Lexeme → Type 0} (f : Flags) where
  -- where no `#` stands no level has a foot
  feet_fail : {s : ℕ} → ((y : Lexeme) → Lex s y → y.kind ≡ PrivateIdentifier → ⊥) → (q : ℕ) → q ≤ 9 → Fails rule Lex (after (level_at f 10)) end (feet_at f q) s
  feet_fail h zero i = fails_never
  feet_fail h (suc zero) i = fails_never
  feet_fail h (suc (suc zero)) i = fails_never
  feet_fail h (suc (suc (suc zero))) i = fails_never
  feet_fail h (suc (suc (suc (suc zero)))) i = fails_never
  feet_fail h (suc (suc (suc (suc (suc zero))))) i = fails_never
  feet_fail h (suc (suc (suc (suc (suc (suc zero)))))) i = fails_here firsts (λ y l t. h y l (sym (kind_of_same PrivateIdentifier y.kind (and_parts _ _ t).0)))
  feet_fail h (suc (suc (suc (suc (suc (suc (suc n))))))) i = fails_never

  -- an operand was read
  pub loop_start : {m s from s' : ℕ} {way : Way} {l : Label} {cs : Slots} → m ≤ 10 → ((y : Lexeme) → Lex s y → y.kind ≡ PrivateIdentifier → ⊥) → Reads rule Lex (after (at Exponent f)) end (such (at Exponent f) always) s s' (tree l cs) way → ((y : Lexeme) → Lex s y → y.from ≡ from) → Around Lex (after (level_at f m)) (levels f) m s from 10 l cs s' way
  loop_start {m} {s} h n r b = start_at firsts {w = levels f} {m = m} {X' = after (level_at f 10)} (levels_lawful f) h topmost r others (tighter_level f m 10 h (omega arith)) (operand_follow f m 10 10 (omega arith) (inr refl)) b
    where
      others : OtherFeet Lex (levels f) m (after (level_at f 10)) s 10 (such (level_at f 10) always)
      others c g topmost = inl (refl, refl)
      others c g (of_level {q = q} a d) = inr (feet_fail n q d)

  pub loop_start_fails : {m s : ℕ} {ks : Slots} → m ≤ 9 → ((y : Lexeme) → Lex s y → y.kind ≡ PrivateIdentifier → ⊥) → Fails rule Lex (after (at Exponent f)) end (such (at Exponent f) always) s → Fails rule Lex (after (level_at f m)) ks (such (level_at f m) always) s
  loop_start_fails {m} {s} h n r = start_fails_at firsts {w = levels f} {m = m} {X' = after (level_at f 10)} (levels_lawful f) refl (omega arith) each (λ l cs vs y e. e) (tighter_level f m 10 (omega arith) (omega arith)) (operand_follow f m 10 10 (omega arith) (inr refl))
    where
      each : (c : ℕ) (g : G) → Foot (levels f) m c g → Fails rule Lex (after (level_at f 10)) end g s
      each c g topmost = r
      each c g (of_level {q = q} a d) = feet_fail n q d

  -- `#x in ..` was read
  pub loop_private : {m s from s' : ℕ} {way : Way} {l : Label} {cs : Slots} → m ≤ 6 → Fails rule Lex (after (at Exponent f)) end (such (at Exponent f) always) s → Reads rule Lex (after (at Exponent f)) end (private_in f) s s' (tree l cs) way → ((y : Lexeme) → Lex s y → y.from ≡ from) → Around Lex (after (level_at f m)) (levels f) m s from 6 l cs s' way
  loop_private {m} {s} h n r b = start_at firsts {w = levels f} {m = m} {X' = after (level_at f 10)} (levels_lawful f) (omega arith) (of_level {q = 6} h (omega arith)) r others (tighter_level f m 10 (omega arith) (omega arith)) (operand_follow f m 10 10 (omega arith) (inr refl)) b
    where
      only_six : (q : ℕ) → q ≤ 9 → ((q ≡ 6) × (feet_at f q ≡ private_in f)) ⊎ Fails rule Lex (after (level_at f 10)) end (feet_at f q) s
      only_six zero i = inr fails_never
      only_six (suc zero) i = inr fails_never
      only_six (suc (suc zero)) i = inr fails_never
      only_six (suc (suc (suc zero))) i = inr fails_never
      only_six (suc (suc (suc (suc zero)))) i = inr fails_never
      only_six (suc (suc (suc (suc (suc zero))))) i = inr fails_never
      only_six (suc (suc (suc (suc (suc (suc zero)))))) i = inl (refl, refl)
      only_six (suc (suc (suc (suc (suc (suc (suc k))))))) i = inr fails_never

      others : OtherFeet Lex (levels f) m (after (level_at f 10)) s 6 (private_in f)
      others c g topmost = inr n
      others c g (of_level {q = q} a d) = only_six q d

  -- One operator stands here, behind an operand, and its level is between.
  alone : {m c s' q : ℕ} {k : Kind} {l : Label} {cs : Slots} → ((y : Lexeme) → Lex s' y → (y.kind ≡ k) × (y.escaped ≡ false)) → m ≤ q → q ≤ c → q ≤ 9 → OneOf k (operators_at f q) → of_operand (row_of l cs) ≡ true → Alone firsts Lex (after (level_at f m)) (levels f) m c s' q (operates f q k) l cs
  alone {m} {c} {s'} {q} {k} {l} {cs} h a b d i o = one_operator firsts (level_at f) top_level node_at (feet_at f) (operators_at f) k (λ y z. (h y z).0) a b d i (λ q' j. one_level f q q' i j) (λ y z e. goes_on y (h y z) e)
    where
      goes_on : (y : Lexeme) → (y.kind ≡ k) × (y.escaped ≡ false) → Admits (after (level_at f m)) (tree l cs end) y → ⊥
      goes_on y z e =
          let t : looser (m + 5) f.in_ (row_of l cs) y.kind y.newline y.escaped ≡ true = sym (level_looser f m (tree l cs end) y (omega arith)) ∙ e.1 in
          let u : looser (m + 5) f.in_ (row_of l cs) k y.newline false ≡ true = subst (λ v. looser (m + 5) f.in_ (row_of l cs) k y.newline v ≡ true) z.1 (subst (λ v. looser (m + 5) f.in_ (row_of l cs) v y.newline y.escaped ≡ true) z.0 t) in
          let v = ltb-true (tight f.in_ (row_of l cs) k y.newline false) (m + 5) u in
          let w = operator_exactly f q i (row_of l cs) y.newline o in
          absurd (omega arith)

  pub loop_step : {m c s from s' s'' q : ℕ} {way rm : Way} {k : Kind} {l : Label} {cs : Slots} {h : Slots → Slots} → Around Lex (after (level_at f m)) (levels f) m s from c l cs s' way → ((y : Lexeme) → Lex s' y → (y.kind ≡ k) × (y.escaped ≡ false)) → m ≤ q → q ≤ c → q ≤ 9 → OneOf k (operators_at f q) → of_operand (row_of l cs) ≡ true
      → Reads rule Lex (after (level_at f (q + 1))) end (operates f q k).part s' s'' h rm → Around Lex (after (level_at f m)) (levels f) m s from q (linked_label (operates f q k) from s'') (tree l cs (h end)) s'' (joined way rm)
  loop_step {m = m} {q = q} {k = k} g z a b d i o r = step firsts g (alone z a b d i o) r (operator_edges f m q k a d) (operand_follow f m q (q + 1) (omega arith) (inl (omega arith)))

  pub loop_step_fails : {m c s from s' q : ℕ} {way : Way} {k : Kind} {l : Label} {cs ks : Slots} → Around Lex (after (level_at f m)) (levels f) m s from c l cs s' way → ((y : Lexeme) → Lex s' y → (y.kind ≡ k) × (y.escaped ≡ false)) → m ≤ q → q ≤ c → q ≤ 9 → OneOf k (operators_at f q) → of_operand (row_of l cs) ≡ true
      → Fails rule Lex (after (level_at f (q + 1))) end (operates f q k).part s' → Fails rule Lex (after (level_at f m)) ks (such (level_at f m) always) s
  loop_step_fails {m = m} {q = q} {k = k} g z a b d i o r = step_fails firsts g (alone z a b d i o) refl r (λ l cs vs y e. e) (operator_edges f m q k a d) (operand_follow f m q (q + 1) (omega arith) (inl (omega arith)))

  -- no operator of the levels between stands here
  pub loop_end : {m c s from s' : ℕ} {way : Way} {l : Label} {cs ks : Slots} → Around Lex (after (level_at f m)) (levels f) m s from c l cs s' way → ((q : ℕ) → m ≤ q → q ≤ c → (y : Lexeme) → Lex s' y → OneOf y.kind (operators_at f q) → ⊥) → Reads rule Lex (after (level_at f m)) ks (such (level_at f m) always) s s' (tree l cs) way
  loop_end g n = operators_end firsts (level_at f) top_level node_at (feet_at f) (operators_at f) (λ l cs vs y e. e) g n
