-- Lexemes that stand behind one place: they are one, or one of them begins with the other, a sign (ECMA-262, 12).
use Rattle.std.proofs.Common.{ℕ, ◌≡◌, ◌⊎◌, inl, inr, Bool, true, false, not, cond, ◌||◌, List, [], ◌∷◌, nat_eq, eqb-true, IsTrue, Some, None, refl, sym, ap, subst, ◌∙◌}
use Rattle.std.proofs.lemmas.Bool.{false≢true}
use Rattle.js_base.specs.declared.kind.Kind.{Kind}
use Rattle.js_base.specs.declared.kind.Kind.TheVariants.{RCurly, RegExp, TemplateMiddle, TemplateTail}
use Rattle.js_base.specs.Kinds.{same_kind, one_of_kinds}
use Rattle.js_base.proofs.KindLemmas.{kind_of_same}
use Rattle.js_grammar.specs.Brackets.{bracket, move, pop, stay}
use Rattle.js_grammar.specs.Grammar.{Lexeme}
use Rattle.js_grammar.specs.Lexemes.{division}
use Rattle.js_grammar.proofs.Alike.{lex-same}
use Rattle.js_grammar.proofs.Lexemes.{first_or}
use Rattle.laws_shared.specs.js_lex.Reading.{LexemeBehind}
use Rattle.laws_shared.specs.Lexemes.{Lex, Plain, is_read, other_goals, signs, signs_of, slashes, template_tails}
use Rattle.laws_shared.proofs.Here.{Plainly, plain_there, plainly, signs_are}
use Rattle.laws_shared.proofs.Paths.{read_of}
use Rattle.laws_shared.proofs.Slashes.{sign_there, tail_goal}
use Rattle.laws_shared.proofs.Tight.{plain_so}

-- ---- kinds

-- neither a regular expression nor a sign that begins with a slash
abbrev pub calm : Kind → Bool
calm k = not (one_of_kinds (RegExp ∷ slashes) k)

calm_kind : (k : Kind) → calm k ≡ true → (same_kind RegExp k ≡ false) × (one_of_kinds slashes k ≡ false)
calm_kind k h = go (same_kind RegExp k) (one_of_kinds slashes k) h
  where
    go : (a b : Bool) → not (a || b) ≡ true → (a ≡ false) × (b ≡ false)
    go true b h = absurd (false≢true h)
    go false true h = absurd (false≢true h)
    go false false h = (refl, refl)

-- of another lexical goal, and no regular expression: a part of a template
pub tail_of : (k : Kind) → one_of_kinds other_goals k ≡ true → same_kind RegExp k ≡ false → one_of_kinds template_tails k ≡ true
tail_of k o n = go (same_kind RegExp k) o n
  where
    go : (a : Bool) → (a || one_of_kinds template_tails k) ≡ true → a ≡ false → one_of_kinds template_tails k ≡ true
    go true h e = absurd (false≢true (sym e))
    go false h e = h

-- it begins with a brace
pub brace_of : (y k : Kind) → one_of_kinds other_goals y ≡ true → same_kind RegExp y ≡ false → one_of_kinds (signs_of y) k ≡ true → k ≡ RCurly
brace_of y k o n s = first_or (λ (v : Kind). one_of_kinds (signs_of v) k ≡ true → k ≡ RCurly) TemplateMiddle y _ _ refl (tail_of y o n) brace (λ o. first_or (λ (v : Kind). one_of_kinds (signs_of v) k ≡ true → k ≡ RCurly) TemplateTail y _ _ refl o brace (λ o. absurd (false≢true o))) s
  where
    brace : one_of_kinds (RCurly ∷ []) k ≡ true → k ≡ RCurly
    brace h = first_or (λ (v : Kind). v ≡ RCurly) RCurly k _ _ refl h refl (λ h. absurd (false≢true h))

-- what begins with no slash is no regular expression
unslashed : (y k : Kind) → one_of_kinds (signs_of y) k ≡ true → one_of_kinds slashes k ≡ false → same_kind RegExp y ≡ false
unslashed y k s n = go (same_kind RegExp y) refl
  where
    go : (b : Bool) → same_kind RegExp y ≡ b → same_kind RegExp y ≡ false
    go true e = absurd (false≢true (sym n ∙ subst (λ (v : Kind). one_of_kinds (signs_of v) k ≡ true) (sym (kind_of_same RegExp y e)) s))
    go false e = e

-- ---- brackets

last_open : (b : ℕ) (st : List ℕ) {u : List ℕ} → pop b st ≡ Some u → (t : List ℕ) × (st ≡ b ∷ t)
unfolding pop
last_open b [] h = absurd (cc)
last_open b (c ∷ st) {u} h = go (nat_eq b c) refl h
  where
    go : (v : Bool) → nat_eq b c ≡ v → cond v (Some st) None ≡ Some u → (t : List ℕ) × (c ∷ st ≡ b ∷ t)
    go true e q = (st, ap (λ (d : ℕ). d ∷ st) (sym (eqb-true b c e)))
    go false e q = absurd (cc)

last_kept : (b : ℕ) (st : List ℕ) {u : List ℕ} → stay b st ≡ Some u → (t : List ℕ) × (st ≡ b ∷ t)
unfolding stay
last_kept b [] h = absurd (cc)
last_kept b (c ∷ st) {u} h = go (nat_eq b c) refl h
  where
    go : (v : Bool) → nat_eq b c ≡ v → cond v (Some (c ∷ st)) None ≡ Some u → (t : List ℕ) × (c ∷ st ≡ b ∷ t)
    go true e q = (st, ap (λ (d : ℕ). d ∷ st) (sym (eqb-true b c e)))
    go false e q = absurd (cc)

tail_open : (k : Kind) (st : List ℕ) {u : List ℕ} → one_of_kinds template_tails k ≡ true → move (bracket k) st ≡ Some u → (t : List ℕ) × (st ≡ 4 ∷ t)
unfolding bracket move
tail_open k st {u} h m = first_or (λ (v : Kind). move (bracket v) st ≡ Some u → (t : List ℕ) × (st ≡ 4 ∷ t)) TemplateMiddle k _ _ refl h (λ m. last_kept 4 st m) (λ h. first_or (λ (v : Kind). move (bracket v) st ≡ Some u → (t : List ℕ) × (st ≡ 4 ∷ t)) TemplateTail k _ _ refl h (λ m. last_open 4 st m) (λ h. absurd (false≢true h))) m

brace_open : (st : List ℕ) {u : List ℕ} → move (bracket RCurly) st ≡ Some u → (t : List ℕ) × (st ≡ 3 ∷ t)
unfolding bracket move
brace_open st m = last_open 3 st m

other_bracket : {s t : List ℕ} → 4 ∷ s ≡ 3 ∷ t → ⊥
other_bracket e = cc

-- a part of a template and a brace don't close the same bracket
never_both : (k : Kind) (st : List ℕ) {u v : List ℕ} → one_of_kinds template_tails k ≡ true → move (bracket k) st ≡ Some u → move (bracket RCurly) st ≡ Some v → ⊥
never_both k st h m n = other_bracket (sym (tail_open k st h m).1 ∙ (brace_open st n).1)

-- ---- the lexemes behind a place

-- it is of another lexical goal, and begins with the other one by the plain goal
abbrev BeginsWith : Lexeme → Lexeme → Type 0
BeginsWith x y = (one_of_kinds other_goals x.kind ≡ true) × (one_of_kinds (signs_of x.kind) y.kind ≡ true)

beside_plain : {text : List ℕ} {s : ℕ} {x y : Lexeme} → Lex text s x → LexemeBehind division text s y → (x ≡ y) ⊎ BeginsWith x y
beside_plain {text} {s} {x} {y} l h = go z.which
  where
    z : Plainly text s x
    z = plain_there l

    same : z.lexeme ≡ y
    same = lex-same z.stands.lex h.lex (z.stands.of_goal ∙ sym h.of_goal)

    go : (z.lexeme ≡ x) ⊎ BeginsWith x z.lexeme → (x ≡ y) ⊎ BeginsWith x y
    go (inl e) = inl (sym e ∙ same)
    go (inr i) = inr (subst (BeginsWith x) same i)

-- one of the plain goal that is no such sign stands there alone
pub one_told : {text : List ℕ} {s : ℕ} {x y : Lexeme} → Lex text s x → LexemeBehind division text s y → one_of_kinds signs y.kind ≡ false → x ≡ y
one_told {text} {s} {x} {y} l h n = go (beside_plain l h)
  where
    go : (x ≡ y) ⊎ BeginsWith x y → x ≡ y
    go (inl e) = e
    go (inr i) = absurd (false≢true (sym n ∙ signs_are x.kind y.kind i.1))

pub one_alone : {text : List ℕ} {s : ℕ} {x y : Lexeme} → Lex text s x → Lex text s y → one_of_kinds other_goals x.kind ≡ false → one_of_kinds signs x.kind ≡ false → x ≡ y
one_alone l m o n = sym (one_told m (record { lex = l.0; of_goal = plainly l.0 l.1 o }) n)

-- where both move on from the same open brackets, a part of a template doesn't begin with the other one
no_part : (x y : Lexeme) (st : List ℕ) {u v : List ℕ} → BeginsWith x y → same_kind RegExp x.kind ≡ false → move (bracket x.kind) st ≡ Some u → move (bracket y.kind) st ≡ Some v → ⊥
no_part x y st {u} {v} i n p q = never_both x.kind st (tail_of x.kind i.0 n) p (subst (λ (k : Kind). move (bracket k) st ≡ Some v) (brace_of x.kind y.kind i.0 n i.1) q)

pub one_plain_move : {text : List ℕ} {s : ℕ} {x y : Lexeme} (st : List ℕ) {u v : List ℕ} → Lex text s x → LexemeBehind division text s y → one_of_kinds slashes y.kind ≡ false → move (bracket x.kind) st ≡ Some u → move (bracket y.kind) st ≡ Some v → x ≡ y
one_plain_move {text} {s} {x} {y} st l h n p q = go (beside_plain l h)
  where
    go : (x ≡ y) ⊎ BeginsWith x y → x ≡ y
    go (inl e) = e
    go (inr i) = absurd (no_part x y st i (unslashed x.kind y.kind i.1 n) p q)

-- two of which one begins with no slash
pub one_move : {text : List ℕ} {s : ℕ} {x y : Lexeme} (st : List ℕ) {u v : List ℕ} → Lex text s x → Lex text s y → calm x.kind ≡ true → move (bracket x.kind) st ≡ Some u → move (bracket y.kind) st ≡ Some v → x ≡ y
one_move {text} {s} {x} {y} st l m c p q = go z.which (beside_plain l z.stands)
  where
    k : (same_kind RegExp x.kind ≡ false) × (one_of_kinds slashes x.kind ≡ false)
    k = calm_kind x.kind c

    z : Plainly text s y
    z = plain_there m

    sign_same : BeginsWith y z.lexeme → x ≡ z.lexeme → BeginsWith y x
    sign_same j d = subst (BeginsWith y) (sym d) j

    -- both are parts of templates
    both : BeginsWith x z.lexeme → BeginsWith y z.lexeme → x ≡ y
    both i j =
        let b : z.lexeme.kind ≡ RCurly = brace_of x.kind z.lexeme.kind i.0 k.0 i.1 in
        let n : same_kind RegExp y.kind ≡ false = unslashed y.kind z.lexeme.kind j.1 (ap (one_of_kinds slashes) b) in
        lex-same l.0 m.0 (tail_goal l.0 (tail_of x.kind i.0 k.0) ∙ sym (tail_goal m.0 (tail_of y.kind j.0 n)))

    go : (z.lexeme ≡ y) ⊎ BeginsWith y z.lexeme → (x ≡ z.lexeme) ⊎ BeginsWith x z.lexeme → x ≡ y
    go (inl e) (inl d) = d ∙ e
    go (inl e) (inr i) = absurd (no_part x y st (subst (BeginsWith x) e i) k.0 p q)
    go (inr j) (inl d) = let w = sign_same j d in absurd (no_part y x st w (unslashed y.kind x.kind w.1 k.1) q p)
    go (inr j) (inr i) = both i j

-- where a part of a template may be read, a brace stands by the plain goal
pub brace_stands : {text : List ℕ} {s : ℕ} {y : Lexeme} → Lex text s y → one_of_kinds other_goals y.kind ≡ true → same_kind RegExp y.kind ≡ false → (z : Lexeme) × Plain text s z × (z.kind ≡ RCurly)
brace_stands {y = y} l o n =
    let z = sign_there l.0 o in
    let k : z.lexeme.kind ≡ RCurly = brace_of y.kind z.lexeme.kind o n z.is in
    let r : IsTrue (is_read z.lexeme) = read_of z.lexeme k refl in
    (z.lexeme, (z.stands.lex, plain_so z.lexeme r (ap (one_of_kinds other_goals) k)), k)
