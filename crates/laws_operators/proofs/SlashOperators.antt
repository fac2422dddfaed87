-- The loop over operators where a regular expression may stand in the place of the division sign: nothing goes on with it, and nothing ends before it (ECMA-262, 12). Where a part of a template may stand, so may a brace, which is no operator.
use Rattle.std.proofs.Common.{ℕ, zero, suc, ◌≡◌, ◌≤◌, ◌+◌, ◌⊎◌, inl, Bool, true, false, ◌||◌, List, ◌∷◌, IsTrue, refl, sym, ap, subst, arith, ◌∙◌}
use Rattle.std.proofs.lemmas.Bool.{false≢true, ltb-true, or_right}
use Rattle.js_base.specs.declared.kind.Kind.{Kind}
use Rattle.js_base.specs.declared.kind.Kind.TheVariants.{RCurly, RegExp, Slash, SlashEq}
use Rattle.js_base.specs.Kinds.{same_kind, one_of_kinds}
use Rattle.js_base.proofs.KindLemmas.{kind_of_same}
use Rattle.js_grammar.specs.Trees.{Label, Slots, end, tree}
use Rattle.js_grammar.specs.Grammar.{Lexeme, Look, seen, such}
use Rattle.js_grammar.specs.Parsing.{Admits, Fails, Reads, Way, always, joined, full, plain}
use Rattle.js_grammar.proofs.First.{starts}
use Rattle.js_grammar.specs.Productions.{Flags, Symbol}
use Rattle.js_grammar.specs.Table.{rule}
use Rattle.js_grammar.specs.Levels.{feet_at, level_at, node_at, operators_at, operators_of, top_level}
use Rattle.js_grammar.specs.Follow.{after, first_edge, follow, looser, row_of, tight}
use Rattle.js_grammar.specs.FirstSets.{first}
use Rattle.js_grammar.specs.RightEdges.{of_operand}
use Rattle.js_grammar.specs.Towers.{Link, linked_label, Around}
use Rattle.js_grammar.proofs.FirstClaims.{firsts}
use Rattle.js_grammar.proofs.FollowLaws.{counts_as_slash}
use Rattle.js_grammar.proofs.Looks.{apart, not_both, same_self}
use Rattle.js_grammar.proofs.Loops.{Alone, Step, listed, one_operator, part_at, step, step_fails}
use Rattle.js_grammar.proofs.OperatorEdges.{level_looser, one_level, operator_edges, operator_exactly}
use Rattle.js_grammar.proofs.OperatorLoops.{operand_follow}
use Rattle.js_grammar.proofs.Operators.{levels, operates}
use Rattle.js_grammar.proofs.Towers.{OneOf}
use Rattle.laws_shared.specs.Lexemes.{Lex, Plain, other_goals, slashes}
use Rattle.laws_shared.specs.Operators.{power_of}
use Rattle.laws_shared.proofs.Escapes.{read_plain}
use Rattle.laws_shared.proofs.Tight.{plain_so}
use Rattle.laws_operators.proofs.OnePlace.{brace_stands}

-- ---- no operator is of another lexical goal, nor a brace

abbrev an_operator : Bool → ℕ → Look
an_operator b q k w e = one_of_kinds (operators_of b q) k

abbrev a_brace : Look
a_brace k w e = one_of_kinds (RCurly ∷ other_goals) k

operators_plain : (b : Bool) (q : ℕ) → apart (an_operator b q) a_brace ≡ true
unfolding apart
operators_plain b zero = refl
operators_plain b (suc zero) = refl
operators_plain b (suc (suc zero)) = refl
operators_plain b (suc (suc (suc zero))) = refl
operators_plain b (suc (suc (suc (suc zero)))) = refl
operators_plain b (suc (suc (suc (suc (suc zero))))) = refl
operators_plain true (suc (suc (suc (suc (suc (suc zero)))))) = refl
operators_plain false (suc (suc (suc (suc (suc (suc zero)))))) = refl
operators_plain b (suc (suc (suc (suc (suc (suc (suc zero))))))) = refl
operators_plain b (suc (suc (suc (suc (suc (suc (suc (suc zero)))))))) = refl
operators_plain b (suc (suc (suc (suc (suc (suc (suc (suc (suc zero))))))))) = refl
operators_plain b (suc (suc (suc (suc (suc (suc (suc (suc (suc (suc q)))))))))) = refl

operator_apart : (f : Flags) (q : ℕ) {k : Kind} → OneOf k (operators_at f q) → one_of_kinds (RCurly ∷ other_goals) k ≡ true → ⊥
operator_apart f q {k} i h = not_both (an_operator f.in_ q) a_brace (operators_plain f.in_ q) k false false (listed (operators_at f q) i same_self) h

pub operator_plain : (f : Flags) (q : ℕ) {k : Kind} → OneOf k (operators_at f q) → one_of_kinds other_goals k ≡ false
operator_plain f q {k} i = go (one_of_kinds other_goals k) refl
  where
    go : (b : Bool) → one_of_kinds other_goals k ≡ b → one_of_kinds other_goals k ≡ false
    go true h = absurd (operator_apart f q i (or_right (same_kind RCurly k) _ h))
    go false h = h

-- of the two signs that may stand at a regular expression, the division sign alone is an operator between operands
pub division_sign : (b : Bool) (k : Kind) → one_of_kinds slashes k ≡ true → 1 ≤ power_of b k → k ≡ Slash
division_sign b k h l = go (same_kind Slash k) (same_kind SlashEq k) refl refl h
  where
    go : (x y : Bool) → same_kind Slash k ≡ x → same_kind SlashEq k ≡ y → (x || (y || false)) ≡ true → k ≡ Slash
    go true y e d h = sym (kind_of_same Slash k e)
    go false true e d h = absurd (let n : power_of b k ≡ 0 = ap (power_of b) (sym (kind_of_same SlashEq k d)) in omega arith)
    go false false e d h = absurd (false≢true h)

-- ---- the operator that stands here

-- nothing that ends here may stand before it
ends_not : (f : Flags) {m q : ℕ} {k : Kind} (l : Label) (cs : Slots) → m ≤ q → q ≤ 9 → OneOf k (operators_at f q) → of_operand (row_of l cs) ≡ true → (y : Lexeme) → (y.kind ≡ k) × (y.escaped ≡ false) → follow (level_at f m) (first_edge (tree l cs end)) y.kind y.newline y.escaped ≡ true → ⊥
ends_not f {m} {q} {k} l cs a d i o y z e =
    let t : looser (m + 5) f.in_ (row_of l cs) y.kind y.newline y.escaped ≡ true = sym (level_looser f m (tree l cs end) y (omega arith)) ∙ e in
    let u : looser (m + 5) f.in_ (row_of l cs) k y.newline false ≡ true = subst (λ v. looser (m + 5) f.in_ (row_of l cs) k y.newline v ≡ true) z.1 (subst (λ v. looser (m + 5) f.in_ (row_of l cs) v y.newline y.escaped ≡ true) z.0 t) in
    let v = ltb-true (tight f.in_ (row_of l cs) k y.newline false) (m + 5) u in
    let w = operator_exactly f q i (row_of l cs) y.newline o in
    absurd (omega arith)

module _ (f : Flags) {text : List ℕ} where
  module _ {m c s' q : ℕ} {k : Kind} {l : Label} {cs : Slots} (h : (y : Lexeme) → Plain text s' y → (y.kind ≡ k) × (y.escaped ≡ false)) (p : (y : Lexeme) → Lex text s' y → y.kind ≡ RegExp → k ≡ Slash) (a : m ≤ q) (b : q ≤ c) (d : q ≤ 9) (i : OneOf k (operators_at f q)) (o : of_operand (row_of l cs) ≡ true) where
    plainly_alone : Alone firsts (Plain text) (after (level_at f m)) (levels f) m c s' q (operates f q k) l cs
    plainly_alone = one_operator firsts (level_at f) top_level node_at (feet_at f) (operators_at f) k (λ y z. (h y z).0) a b d i (λ q' j. one_level f q q' i j) (λ y z e. ends_not f l cs a d i o y (h y z) e.1)

    alone : Alone firsts (Lex text) (after (level_at f m)) (levels f) m c s' q (operates f q k) l cs
    alone = record { step = plainly_alone.step; other = others; goes_on = goes_on }
      where
        others : (q' : ℕ) (x' : Link Symbol) → Step (levels f) m c q' x' → (y : Lexeme) → Lex text s' y → IsTrue (seen (starts first x'.part full) y) → ((q' ≡ q) × (x' ≡ operates f q k)) ⊎ Fails rule (Lex text) (plain full) end x'.part s'
        others q' x' st y n t =
            let r = part_at firsts (level_at f) top_level node_at (feet_at f) (operators_at f) m c q' x' st y.kind y.newline y.escaped t in
            let same : y.kind ≡ k = (h y (n.0, plain_so y n.1 (operator_plain f q' r.0))).0 in
            let v : q' ≡ q = one_level f q q' i (subst (λ (a : Kind). OneOf a (operators_at f q')) same r.0) in
            inl (v, r.1 ∙ (ap (λ (a : Kind). operates f q' a) same ∙ ap (λ (a : ℕ). operates f a k) v))

        -- where a part of a template may be read, a brace stands, which is no operator
        no_part : (y : Lexeme) → Lex text s' y → one_of_kinds other_goals y.kind ≡ true → same_kind RegExp y.kind ≡ false → ⊥
        no_part y n e r = let z = brace_stands n e r in operator_apart f q i (ap (one_of_kinds (RCurly ∷ other_goals)) (sym (h z.0 z.1).0 ∙ z.2))

        of_pattern : (y : Lexeme) → Lex text s' y → y.kind ≡ RegExp → Admits (after (level_at f m)) (tree l cs end) y → ⊥
        of_pattern y n is e =
            let slash : follow (level_at f m) (first_edge (tree l cs end)) Slash y.newline y.escaped ≡ true = sym (counts_as_slash (level_at f m) (first_edge (tree l cs end)) y.newline y.escaped) ∙ subst (λ (v : Kind). follow (level_at f m) (first_edge (tree l cs end)) v y.newline y.escaped ≡ true) is e.1 in
            ends_not f l cs a d i o (record y { kind = Slash }) (sym (p y n is), read_plain y n is refl) slash

        goes_on : (y : Lexeme) → Lex text s' y → Admits (after (level_at f m)) (tree l cs end) y → ⊥
        goes_on y n e = go (one_of_kinds other_goals y.kind) refl (same_kind RegExp y.kind) refl
          where
            go : (x : Bool) → one_of_kinds other_goals y.kind ≡ x → (z : Bool) → same_kind RegExp y.kind ≡ z → ⊥
            go false r z t = plainly_alone.goes_on y (n.0, plain_so y n.1 r) e
            go true r true t = of_pattern y n (sym (kind_of_same RegExp y.kind t)) e
            go true r false t = no_part y n r t

    pub slash_step : {s from s'' : ℕ} {way rm : Way} {g : Slots → Slots} → Around (Lex text) (after (level_at f m)) (levels f) m s from c l cs s' way → Reads rule (Lex text) (after (level_at f (q + 1))) end (operates f q k).part s' s'' g rm → Around (Lex text) (after (level_at f m)) (levels f) m s from q (linked_label (operates f q k) from s'') (tree l cs (g end)) s'' (joined way rm)
    slash_step x r = step firsts x alone r (operator_edges f m q k a d) (operand_follow f m q (q + 1) (omega arith) (inl (omega arith)))

    pub slash_step_fails : {s from : ℕ} {way : Way} {ks : Slots} → Around (Lex text) (after (level_at f m)) (levels f) m s from c l cs s' way → Fails rule (Lex text) (after (level_at f (q + 1))) end (operates f q k).part s' → Fails rule (Lex text) (after (level_at f m)) ks (such (level_at f m) always) s
    slash_step_fails x r = step_fails firsts x alone refl r (λ l cs vs y e. e) (operator_edges f m q k a d) (operand_follow f m q (q + 1) (omega arith) (inl (omega arith)))
