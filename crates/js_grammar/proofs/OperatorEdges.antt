-- Right edges of operators: what may stand behind a level's node may stand behind its right operand, and how tight its operators bind.
use Rattle.std.proofs.Common.{ℕ, zero, suc, ◌≡◌, ◌≤◌, ◌+◌, Bool, true, false, ◌&&◌, ◌||◌, nat_lt, nat_eq, refl, sym, ◌∙◌, subst, arith}
use Rattle.std.proofs.lemmas.Bool.{false≢true, and_parts, ltb-true, eqb-true}
use Rattle.js_base.specs.declared.kind.Kind.{Kind}
use Rattle.js_base.specs.Kinds.{one_of_kinds}
use Rattle.js_grammar.specs.Trees.{of, Slots, end, Label, tree}
use Rattle.js_grammar.specs.Insertion.{Row, after_expression, after_postfix, after_body, after_yield, after_declarator, after_word, edge_is_last}
use Rattle.js_grammar.specs.Grammar.{Lexeme, Lexemes, Look, seen, Takes, is_lexeme, is_seq, is_such}
use Rattle.js_grammar.specs.Productions.{Flags}
use Rattle.js_grammar.specs.Parsing.{Admits}
use Rattle.js_grammar.specs.Table.{rule}
use Rattle.js_grammar.specs.Levels.{binds, level_at, operators_of, operators_at, node_at}
use Rattle.js_grammar.specs.Follow.{row_of, first_edge, tight, looser, follow, after}
use Rattle.js_grammar.specs.RightEdges.{of_operand}
use Rattle.js_grammar.proofs.Looks.{covers, covered, same_self}
use Rattle.js_grammar.proofs.Calculus.{Within}
use Rattle.js_grammar.proofs.Towers.{OneOf}
use Rattle.js_grammar.proofs.Loops.{Edges, listed}
use Rattle.js_grammar.proofs.Operators.{operates}
use Rattle.js_grammar.proofs.RightEdges.{each_row, at_row, first_row}
use Rattle.js_grammar.proofs.FollowLaws.{admits, looser_than}

-- the test of a level is that of its number
pub level_looser : (f : Flags) (m : ℕ) (ts : Slots) (y : Lexeme) → m ≤ 10 → seen (follow (level_at f m) (first_edge ts)) y ≡ seen (looser (m + 5) f.in_ (first_row ts)) y
level_looser f zero ts y h = refl
level_looser f (suc zero) ts y h = refl
level_looser f (suc (suc zero)) ts y h = refl
level_looser f (suc (suc (suc zero))) ts y h = refl
level_looser f (suc (suc (suc (suc zero)))) ts y h = refl
level_looser f (suc (suc (suc (suc (suc zero))))) ts y h = refl
level_looser f (suc (suc (suc (suc (suc (suc zero)))))) ts y h = refl
level_looser f (suc (suc (suc (suc (suc (suc (suc zero))))))) ts y h = refl
level_looser f (suc (suc (suc (suc (suc (suc (suc (suc zero)))))))) ts y h = refl
level_looser f (suc (suc (suc (suc (suc (suc (suc (suc (suc zero))))))))) ts y h = refl
level_looser f (suc (suc (suc (suc (suc (suc (suc (suc (suc (suc zero)))))))))) ts y h = refl
level_looser f (suc (suc (suc (suc (suc (suc (suc (suc (suc (suc (suc n))))))))))) ts y h = absurd (omega arith)

pub tighter_level : (f : Flags) (m n : ℕ) → m ≤ n → n ≤ 10 → Within (after (level_at f m)) (after (level_at f n))
tighter_level f m n h i ts y e = admits (level_at f n) ts y (level_looser f n ts y i ∙ looser_than (m + 5) (n + 5) f.in_ (first_row ts) y.kind y.newline y.escaped (omega arith) (sym (level_looser f m ts y (omega arith)) ∙ e.1))

-- a level's node ends as its right operand does
pub last_at : (q : ℕ) → edge_is_last (node_at q) ≡ true
last_at zero = refl
last_at (suc zero) = refl
last_at (suc (suc q)) = refl

pub operand_row : (q : ℕ) (l m n : Label) (cs ds : Slots) → m.kind ≡ node_at q → row_of m (tree l cs (tree n ds end)) ≡ row_of n ds
operand_row q l m n cs ds e = rw (e, last_at q) refl

pub operator_edges : (f : Flags) (m q : ℕ) (k : Kind) {from : ℕ} {l : Label} {cs : Slots} {s' : ℕ} → m ≤ q → q ≤ 9 → Edges rule (after (level_at f m)) (after (level_at f (q + 1))) (operates f q k) from l cs s'
operator_edges f m q k {from} {l} {cs} {s'} a b = record { ends = λ es j ls mid y d e. go es j y d e }
  where
    go : (es : Slots) {i j : ℕ} {ls mid : Lexemes} (p : ℕ) (y : Lexeme) → Takes rule (operates f q k).part end es i ls end j mid → Admits (after (level_at f m)) (tree (record { kind = node_at q; op = of k; flags = 0; span = record { from = from; to = p } }) (tree l cs es) end) y → Admits (after (level_at f (q + 1))) es y
    go es p y (is_seq (is_lexeme h) (is_such {l = l'} {cs = ds} d c')) e =
        let n : Label = record { kind = node_at q; op = of k; flags = 0; span = record { from = from; to = p } } in
        admits (level_at f (q + 1)) (tree l' ds end) y (level_looser f (q + 1) (tree l' ds end) y (omega arith)
        ∙ looser_than (m + 5) (q + 1 + 5) f.in_ (row_of l' ds) y.kind y.newline y.escaped (omega arith)
        (subst (λ r. looser (m + 5) f.in_ r y.kind y.newline y.escaped ≡ true) (operand_row q l n l' cs ds refl) (sym (level_looser f m (tree n (tree l cs (tree l' ds end)) end) y (omega arith)) ∙ e.1)))

-- How tight the operators of a level bind: computed over all kinds.
abbrev is_operator : Bool → ℕ → Look
is_operator b q k w e = one_of_kinds (operators_of b q) k

abbrev exactly : Bool → Row → ℕ → Look
exactly b r q k w e = e || nat_eq (tight b r k w e) (q + 5)

abbrev loosely : Bool → ℕ → Row → Look
loosely b q r k w e = nat_lt (tight b r k w e) (q + 6)

abbrev of_level : Bool → ℕ → Look
of_level b q k w e = nat_eq (binds b k) (q + 5)

abbrev all_at : Bool → ℕ → Bool
all_at b q = covers (is_operator b q) (of_level b q) && (covers (is_operator b q) (exactly b after_expression q) && (covers (is_operator b q) (exactly b after_postfix q) && each_row (λ r. covers (is_operator b q) (loosely b q r))))

checked : (b : Bool) (q : ℕ) → q ≤ 9 → all_at b q ≡ true
unfolding covers
checked true zero h = refl
checked true (suc zero) h = refl
checked true (suc (suc zero)) h = refl
checked true (suc (suc (suc zero))) h = refl
checked true (suc (suc (suc (suc zero)))) h = refl
checked true (suc (suc (suc (suc (suc zero))))) h = refl
checked true (suc (suc (suc (suc (suc (suc zero)))))) h = refl
checked true (suc (suc (suc (suc (suc (suc (suc zero))))))) h = refl
checked true (suc (suc (suc (suc (suc (suc (suc (suc zero)))))))) h = refl
checked true (suc (suc (suc (suc (suc (suc (suc (suc (suc zero))))))))) h = refl
checked false zero h = refl
checked false (suc zero) h = refl
checked false (suc (suc zero)) h = refl
checked false (suc (suc (suc zero))) h = refl
checked false (suc (suc (suc (suc zero)))) h = refl
checked false (suc (suc (suc (suc (suc zero))))) h = refl
checked false (suc (suc (suc (suc (suc (suc zero)))))) h = refl
checked false (suc (suc (suc (suc (suc (suc (suc zero))))))) h = refl
checked false (suc (suc (suc (suc (suc (suc (suc (suc zero)))))))) h = refl
checked false (suc (suc (suc (suc (suc (suc (suc (suc (suc zero))))))))) h = refl
checked b (suc (suc (suc (suc (suc (suc (suc (suc (suc (suc n)))))))))) h = absurd (omega arith)

pub some_level : (b : Bool) (q : ℕ) {k : Kind} → OneOf k (operators_of b q) → q ≤ 9
some_level b zero i = omega arith
some_level b (suc zero) i = omega arith
some_level b (suc (suc zero)) i = omega arith
some_level b (suc (suc (suc zero))) i = omega arith
some_level b (suc (suc (suc (suc zero)))) i = omega arith
some_level b (suc (suc (suc (suc (suc zero))))) i = omega arith
some_level b (suc (suc (suc (suc (suc (suc zero)))))) i = omega arith
some_level b (suc (suc (suc (suc (suc (suc (suc zero))))))) i = omega arith
some_level b (suc (suc (suc (suc (suc (suc (suc (suc zero)))))))) i = omega arith
some_level b (suc (suc (suc (suc (suc (suc (suc (suc (suc zero))))))))) i = omega arith
some_level b (suc (suc (suc (suc (suc (suc (suc (suc (suc (suc n)))))))))) i = elim i [ ]

fourth : (a b c d : Bool) → (a && (b && (c && d))) ≡ true → d ≡ true
fourth a b c d h = (and_parts c d (and_parts b (c && d) (and_parts a (b && (c && d)) h).1).1).1

module _ (f : Flags) (q : ℕ) {k : Kind} (i : OneOf k (operators_at f q)) where
  check : all_at f.in_ q ≡ true
  check = checked f.in_ q (some_level f.in_ q i)

  found : one_of_kinds (operators_at f q) k ≡ true
  found = listed (operators_at f q) i same_self

  pub operator_level : binds f.in_ k ≡ q + 5
  operator_level = eqb-true _ _ (covered (is_operator f.in_ q) (of_level f.in_ q) (and_parts _ _ check).0 k true true found)

  -- behind whatever, no tighter than its level
  pub operator_loosely : (r : Row) (w e : Bool) → tight f.in_ r k w e ≤ q + 5
  operator_loosely r w e =
      let c = fourth (covers (is_operator f.in_ q) (of_level f.in_ q)) (covers (is_operator f.in_ q) (exactly f.in_ after_expression q)) (covers (is_operator f.in_ q) (exactly f.in_ after_postfix q)) (each_row (λ r. covers (is_operator f.in_ q) (loosely f.in_ q r))) check in
      let h = ltb-true (tight f.in_ r k w e) (q + 6) (covered (is_operator f.in_ q) (loosely f.in_ q r) (at_row (λ r. covers (is_operator f.in_ q) (loosely f.in_ q r)) c r) k w e found) in omega arith

  -- behind an operand, as tight as its level
  pub operator_exactly : (r : Row) (w : Bool) → of_operand r ≡ true → tight f.in_ r k w false ≡ q + 5
  operator_exactly after_expression w o = eqb-true _ _ (covered (is_operator f.in_ q) (exactly f.in_ after_expression q) (and_parts _ _ (and_parts _ _ check).1).0 k w false found)
  operator_exactly after_postfix w o = eqb-true _ _ (covered (is_operator f.in_ q) (exactly f.in_ after_postfix q) (and_parts _ _ (and_parts _ _ (and_parts _ _ check).1).1).0 k w false found)
  operator_exactly after_body w o = absurd (false≢true o)
  operator_exactly after_yield w o = absurd (false≢true o)
  operator_exactly after_declarator w o = absurd (false≢true o)
  operator_exactly after_word w o = absurd (false≢true o)

-- an operator stands at one level
pub one_level : (f : Flags) (q q' : ℕ) {k : Kind} → OneOf k (operators_at f q) → OneOf k (operators_at f q') → q' ≡ q
one_level f q q' i i' = let a = operator_level f q i in let b = operator_level f q' i' in omega arith
