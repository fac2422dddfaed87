-- The levels of operators as one loop: the lines of the table say what the tower of levels says.
use Rattle.std.proofs.Common.{ℕ, zero, suc, ◌≡◌, ◌≤◌, ◌+◌, ◌⊎◌, inl, inr, Bool, true, false, List, [], ◌∷◌, refl, subst, arith}
use Rattle.std.proofs.lemmas.Bool.{false≢true}
use Rattle.js_base.specs.declared.kind.Kind.{Kind}
use Rattle.js_base.specs.declared.kind.Kind.TheVariants.{LAngle, LtEq, RAngle, GtEq}
use Rattle.js_grammar.specs.Words.{'in', 'instanceof'}
use Rattle.js_grammar.specs.Trees.{Slots, end}
use Rattle.js_grammar.specs.Grammar.{Lexemes, Grammar, alt, such, when, Takes, is_left, is_right, is_when}
use Rattle.js_grammar.specs.Parsing.{always}
use Rattle.js_grammar.specs.Productions.{Flags, Symbol, G, at, Relational, Shift}
use Rattle.js_grammar.specs.Productions.{sym as symbol}
use Rattle.js_grammar.specs.Table.{rule, rule_of}
use Rattle.js_grammar.specs.Levels.{level_at, top_level, comparisons, operators_at, node_at, feet_at, private_in}
use Rattle.js_grammar.specs.Towers.{Link, Tower}
use Rattle.js_grammar.proofs.Towers.{Same, without_feet, level_tower, branches, operation, operation_link, OneOf, head, later, Lawful, level_lawful}

-- a choice among kinds is one of them
pub chosen : {N : Type 0} {rules : N → Grammar N} (g : Kind → Grammar N) (ks : List Kind) {us vs ts : Slots} {i j : ℕ} {ls rest : Lexemes} → Takes rules (branches ks g) ts us i ls vs j rest → (k : Kind) × OneOf k ks × Takes rules (g k) ts us i ls vs j rest
chosen g [] d = elim d [ ]
chosen g (k ∷ []) d = (k, head, d)
chosen g (k ∷ a ∷ ks) (is_left d) = (k, head, d)
chosen g (k ∷ a ∷ ks) (is_right d) = let y = chosen g (a ∷ ks) d in (y.0, later y.1, y.2)

pub choose : {N : Type 0} {rules : N → Grammar N} (g : Kind → Grammar N) {k : Kind} (ks : List Kind) → OneOf k ks → {us vs ts : Slots} {i j : ℕ} {ls rest : Lexemes} → Takes rules (g k) ts us i ls vs j rest → Takes rules (branches ks g) ts us i ls vs j rest
choose g [] i d = elim i [ ]
choose g (k ∷ []) head d = d
choose g (k ∷ []) (later i) d = elim i [ ]
choose g (k ∷ a ∷ ks) head d = is_left d
choose g (k ∷ a ∷ ks) (later i) d = is_right (choose g (a ∷ ks) i d)

abbrev plain_comparisons : List Kind
plain_comparisons = LAngle ∷ RAngle ∷ LtEq ∷ GtEq ∷ 'instanceof' ∷ []

-- a comparison, or `in` where it is allowed
compares : (b : Bool) {k : Kind} → OneOf k (comparisons b) → OneOf k plain_comparisons ⊎ ((k ≡ 'in') × (b ≡ true))
compares b head = inl head
compares b (later head) = inl (later head)
compares b (later (later head)) = inl (later (later head))
compares b (later (later (later head))) = inl (later (later (later head)))
compares b (later (later (later (later head)))) = inl (later (later (later (later head))))
compares true (later (later (later (later (later head))))) = inr (refl, refl)
compares true (later (later (later (later (later (later i)))))) = elim i [ ]
compares false (later (later (later (later (later i))))) = elim i [ ]

plainly : (b : Bool) {k : Kind} → OneOf k plain_comparisons → OneOf k (comparisons b)
plainly b head = head
plainly b (later head) = later head
plainly b (later (later head)) = later (later head)
plainly b (later (later (later head))) = later (later (later head))
plainly b (later (later (later (later head)))) = later (later (later (later head)))
plainly b (later (later (later (later (later i))))) = elim i [ ]

with_in : (b : Bool) → b ≡ true → OneOf 'in' (comparisons b)
with_in true h = later (later (later (later (later head))))
with_in false h = absurd (false≢true h)

module _ (f : Flags) where
  abbrev compare : Kind → G
  compare = operation (level_at f) node_at 6

  abbrev private_one : G
  private_one = inside_when (private_in f)
    where
      inside_when : G → G
      inside_when (when c a) = a
      inside_when g = g

  to_tower : {ts us : Slots} {i j : ℕ} {ls rest : Lexemes} → Takes rule (alt (alt (symbol Shift f) (branches plain_comparisons compare)) (when f.in_ (alt (compare 'in') private_one))) end ts i ls us j rest
      → Takes rule (alt (alt (symbol Shift f) (private_in f)) (branches (comparisons f.in_) compare)) end ts i ls us j rest
  to_tower (is_left (is_left d)) = is_left (is_left d)
  to_tower (is_left (is_right d)) = let y = chosen compare plain_comparisons d in is_right (choose compare (comparisons f.in_) (plainly f.in_ y.1) y.2)
  to_tower (is_right (is_when h (is_left d))) = is_right (choose compare (comparisons f.in_) (with_in f.in_ h) d)
  to_tower (is_right (is_when h (is_right d))) = is_left (is_right (is_when h d))

  of_tower : {ts us : Slots} {i j : ℕ} {ls rest : Lexemes} → Takes rule (alt (alt (symbol Shift f) (private_in f)) (branches (comparisons f.in_) compare)) end ts i ls us j rest
      → Takes rule (alt (alt (symbol Shift f) (branches plain_comparisons compare)) (when f.in_ (alt (compare 'in') private_one))) end ts i ls us j rest
  of_tower (is_left (is_left d)) = is_left (is_left d)
  of_tower (is_left (is_right (is_when h d))) = is_right (is_when h (is_right d))
  of_tower {ts} {us} {i} {j} {ls} {rest} (is_right d) = let y = chosen compare (comparisons f.in_) d in by_kind y.0 (compares f.in_ y.1) y.2
    where
      by_kind : (k : Kind) → OneOf k plain_comparisons ⊎ ((k ≡ 'in') × (f.in_ ≡ true)) → Takes rule (compare k) end ts i ls us j rest → Takes rule (alt (alt (symbol Shift f) (branches plain_comparisons compare)) (when f.in_ (alt (compare 'in') private_one))) end ts i ls us j rest
      by_kind k (inl o) d = is_left (is_right (choose compare plain_comparisons o d))
      by_kind k (inr q) d = is_right (is_when q.1 (is_left (subst (λ z. Takes rule (compare z) end ts i ls us j rest) q.0 d)))

  relational_level : Same rule (rule (at Relational f)) (alt (alt (symbol Shift f) (private_in f)) (branches (comparisons f.in_) compare))
  unfolding rule rule_of
  relational_level = record { to = λ ts us i j ls rest d. to_tower d; back = λ ts us i j ls rest d. of_tower d }

  -- Each level is the next one, its foot, or an operator behind itself.
  abbrev pub Level : ℕ → Type 0
  Level p = Same rule (rule (level_at f p)) (alt (alt (such (level_at f (p + 1)) always) (feet_at f p)) (branches (operators_at f p) (operation (level_at f) node_at p)))

  pub climbs : (p : ℕ) → p ≤ top_level → Level p
  unfolding rule rule_of
  climbs zero h = without_feet
  climbs (suc zero) h = without_feet
  climbs (suc (suc zero)) h = without_feet
  climbs (suc (suc (suc zero))) h = without_feet
  climbs (suc (suc (suc (suc zero)))) h = without_feet
  climbs (suc (suc (suc (suc (suc zero))))) h = without_feet
  climbs (suc (suc (suc (suc (suc (suc zero)))))) h = relational_level
  climbs (suc (suc (suc (suc (suc (suc (suc zero))))))) h = without_feet
  climbs (suc (suc (suc (suc (suc (suc (suc (suc zero)))))))) h = without_feet
  climbs (suc (suc (suc (suc (suc (suc (suc (suc (suc zero))))))))) h = without_feet
  climbs (suc (suc (suc (suc (suc (suc (suc (suc (suc (suc n)))))))))) h = absurd (omega arith)

  -- The loop over all levels.
  abbrev pub levels : Tower rule
  levels = level_tower (level_at f) top_level node_at (feet_at f) (operators_at f)

  pub levels_lawful : Lawful levels
  levels_lawful = level_lawful (level_at f) top_level node_at (feet_at f) (operators_at f) climbs

  abbrev pub operates : ℕ → Kind → Link Symbol
  operates p o = operation_link (level_at f) node_at p o
