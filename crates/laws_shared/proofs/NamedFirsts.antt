-- First sets by the parameters Yield and Await: where one is on, its word is no name (ECMA-262, 13.1).
use Rattle.std.proofs.Common.{ℕ, ◌≡◌, Bool, true, false, not, ◌&&◌, ◌||◌, List, IsTrue, refl, sym, ap, subst, ◌∙◌}
use Rattle.std.proofs.lemmas.Bool.{false≢true, and_parts, and_from}
use Rattle.js_base.specs.declared.kind.Kind.{Kind}
use Rattle.js_base.specs.declared.kind.Kind.TheVariants.{Ident, Yield, Await}
use Rattle.js_base.specs.Kinds.{same_kind, one_of_kinds}
use Rattle.js_grammar.specs.Trees.{end}
use Rattle.js_grammar.specs.Grammar.{Lexeme, Look, seen}
use Rattle.js_grammar.specs.Parsing.{Test, Fails, full}
use Rattle.js_grammar.specs.Productions.{G, Flags, Name, Symbol, at, Program, Statement, Labeled, Arrow', Param, DecoratorMember, Conditional, Short, Coalesce, Or, And, BitOr, BitXor, BitAnd, Equality, Relational, Shift, Additive, Multiply, Exponent, Unary, Update, LeftHandSide, New, Member, Call, Chain, Links, Primary, IdentifierReference, BindingIdentifier, LabelIdentifier, SimpleTarget, Target, TargetElement, Binding, BElement}
use Rattle.js_grammar.specs.Table.{rule, rule_of}
use Rattle.js_grammar.specs.FirstSets.{first}
use Rattle.js_grammar.proofs.Looks.{covers, covered, apart, not_both}
use Rattle.js_grammar.proofs.First.{FirstSets, starts}
use Rattle.js_grammar.proofs.FirstRules.{fails_here}
use Rattle.js_grammar.proofs.Finding.{either_of}
use Rattle.js_cursor.specs.Parsers.{Parser}
use Rattle.laws_shared.specs.Lexemes.{Lex, escaped_word, may_name, other_goals}
use Rattle.laws_shared.specs.States.{At}
use Rattle.laws_shared.proofs.Here.{told_plain, angled, escaped_here, kind_here}
use Rattle.laws_shared.proofs.Escapes.{escapable_kinds, escaped_kind, kind_escaped}
use Rattle.laws_shared.proofs.Paths.{angles, not_here, reads, settles}

-- What begins with a name, or with what no name begins, but never with `await` under Await.
abbrev pub named_first : Name → Bool
named_first Statement = true
named_first Labeled = true
named_first Arrow' = true
named_first Param = true
named_first DecoratorMember = true
named_first Update = true
named_first LeftHandSide = true
named_first New = true
named_first Member = true
named_first Call = true
named_first Chain = true
named_first Links = true
named_first Primary = true
named_first IdentifierReference = true
named_first BindingIdentifier = true
named_first LabelIdentifier = true
named_first SimpleTarget = true
named_first Target = true
named_first TargetElement = true
named_first Binding = true
named_first BElement = true
named_first _ = false

-- the levels of operators: `await` may stand first there, and no `yield`
abbrev pub operand_first : Name → Bool
operand_first Conditional = true
operand_first Short = true
operand_first Coalesce = true
operand_first Or = true
operand_first And = true
operand_first BitOr = true
operand_first BitXor = true
operand_first BitAnd = true
operand_first Equality = true
operand_first Relational = true
operand_first Shift = true
operand_first Additive = true
operand_first Multiply = true
operand_first Exponent = true
operand_first Unary = true
operand_first _ = false

abbrev pub first_by : Symbol → Look
first_by s k w e = first s k w e && (not (same_kind Yield k && ((named_first s.name || operand_first s.name) && s.flags.yield_)) && not (same_kind Await k && (named_first s.name && s.flags.await_)))

abbrev pub with_flags : Bool → Bool → Flags → Flags
with_flags y t f = record f { yield_ = y; await_ = t }

-- computed for each nonterminal
claims_both : (n : Name) (f : Flags) → covers (starts first_by (rule_of n (with_flags true true f)) full) (first_by (at n (with_flags true true f))) ≡ true
unfolding rule_of covers
claims_both Program f = refl
claims_both n f = refl

claims_yield : (n : Name) (f : Flags) → covers (starts first_by (rule_of n (with_flags true false f)) full) (first_by (at n (with_flags true false f))) ≡ true
unfolding rule_of covers
claims_yield Program f = refl
claims_yield n f = refl

claims_await : (n : Name) (f : Flags) → covers (starts first_by (rule_of n (with_flags false true f)) full) (first_by (at n (with_flags false true f))) ≡ true
unfolding rule_of covers
claims_await Program f = refl
claims_await n f = refl

claims_neither : (n : Name) (f : Flags) → covers (starts first_by (rule_of n (with_flags false false f)) full) (first_by (at n (with_flags false false f))) ≡ true
unfolding rule_of covers
claims_neither Program f = refl
claims_neither n f = refl

claims_at : (n : Name) (y t : Bool) (f : Flags) → covers (starts first_by (rule_of n (with_flags y t f)) full) (first_by (at n (with_flags y t f))) ≡ true
claims_at n true true f = claims_both n f
claims_at n true false f = claims_yield n f
claims_at n false true f = claims_await n f
claims_at n false false f = claims_neither n f

pub claims : (s : Symbol) → covers (starts first_by (rule s) full) (first_by s) ≡ true
unfolding rule
claims s = claims_at s.name s.flags.yield_ s.flags.await_ s.flags

abbrev pub firsts_by : FirstSets rule
firsts_by = record { first = first_by; claims = claims }

-- of what may begin g, those kinds that are read are names, or among these
abbrev pub begins_named : Bool → Bool → G → Look → List Kind → Bool
begins_named y t g F ks = covers (λ k w e. starts first_by g F k w e && reads k w e) (λ k w e. may_name y t k || one_of_kinds ks k)

-- of what may begin g with an escape, all that is read are names
abbrev pub escapes_named : Bool → Bool → G → Look → Bool
escapes_named y t g F = covers (λ k w e. starts first_by g F k w e && (one_of_kinds escapable_kinds k && e)) (λ k w e. may_name y t k)

-- for both values of both parameters
by_flags : (P : Bool → Bool → Type 0) → P true true → P true false → P false true → P false false → (y t : Bool) → P y t
by_flags P a b c d true true = a
by_flags P a b c d true false = b
by_flags P a b c d false true = c
by_flags P a b c d false false = d

abbrev a_name_under : Bool → Bool → Look
a_name_under y t k w e = may_name y t k

no_name_angle : (y t : Bool) → apart angles (a_name_under y t) ≡ true
unfolding apart
no_name_angle true true = refl
no_name_angle true false = refl
no_name_angle false true = refl
no_name_angle false false = refl

-- nor does a lexeme of another goal
no_name_other : (y t : Bool) → apart (λ k w e. one_of_kinds other_goals k) (a_name_under y t) ≡ true
unfolding apart
no_name_other true true = refl
no_name_other true false = refl
no_name_other false true = refl
no_name_other false false = refl

module _ {text : List ℕ} {o : Flags} {p : Parser} (a : At text o p) (f : Flags) where
  -- no name by these parameters stands here, and none of these kinds
  no_name_there : (ks : List Kind) → settles ks ≡ true → may_name f.yield_ f.await_ p.token.kind ≡ false → one_of_kinds ks p.token.kind ≡ false → (y : Lexeme) → Lex text p.prev_token_end y → (may_name f.yield_ f.await_ y.kind || one_of_kinds ks y.kind) ≡ true → ⊥
  no_name_there ks d n m y l h = either_of (may_name f.yield_ f.await_ y.kind) (one_of_kinds ks y.kind) h (λ i. named i p.cut refl) (λ i. not_here a ks d m y l i)
    where
      no_other_named : may_name f.yield_ f.await_ y.kind ≡ true → (r : Bool) → one_of_kinds other_goals y.kind ≡ r → one_of_kinds other_goals y.kind ≡ false
      no_other_named i true q = absurd (not_both (λ k w e. one_of_kinds other_goals k) (a_name_under f.yield_ f.await_) (no_name_other f.yield_ f.await_) y.kind y.newline y.escaped q i)
      no_other_named i false q = q

      named : may_name f.yield_ f.await_ y.kind ≡ true → (b : Bool) → p.cut ≡ b → ⊥
      named i true e = not_both angles (a_name_under f.yield_ f.await_) (no_name_angle f.yield_ f.await_) y.kind y.newline y.escaped (angled a e y l) i
      named i false e = false≢true (sym n ∙ subst (λ (v : Kind). may_name f.yield_ f.await_ v ≡ true) (sym (told_plain a e y (no_other_named i (one_of_kinds other_goals y.kind) refl) l).kind) i)

  -- nothing that may begin g stands here
  pub fails_unnamed : {X : Test} (g : Flags → G) (ks : List Kind) → begins_named true true (g (with_flags true true f)) X.base ks ≡ true → begins_named true false (g (with_flags true false f)) X.base ks ≡ true → begins_named false true (g (with_flags false true f)) X.base ks ≡ true → begins_named false false (g (with_flags false false f)) X.base ks ≡ true
      → settles ks ≡ true → may_name f.yield_ f.await_ p.token.kind ≡ false → one_of_kinds ks p.token.kind ≡ false → Fails rule (Lex text) X end (g f) p.prev_token_end
  fails_unnamed {X} g ks c1 c2 c3 c4 d n m = fails_here firsts_by (λ y l h. no_name_there ks d n m y l (covered (λ k w e. starts first_by (g f) X.base k w e && reads k w e) (λ k w e. may_name f.yield_ f.await_ k || one_of_kinds ks k) (by_flags (λ y t. begins_named y t (g (with_flags y t f)) X.base ks ≡ true) c1 c2 c3 c4 f.yield_ f.await_) y.kind y.newline y.escaped (and_from _ _ h l.1)))

  -- the same of a word with an escape, which is no keyword
  pub fails_escaped : {X : Test} (g : Flags → G) → escapes_named true true (g (with_flags true true f)) X.base ≡ true → escapes_named true false (g (with_flags true false f)) X.base ≡ true → escapes_named false true (g (with_flags false true f)) X.base ≡ true → escapes_named false false (g (with_flags false false f)) X.base ≡ true
      → escaped_word p.token.kind p.token.escaped ≡ true → may_name f.yield_ f.await_ p.token.kind ≡ false → Fails rule (Lex text) X end (g f) p.prev_token_end
  fails_escaped {X} g c1 c2 c3 c4 e n = fails_here firsts_by none
    where
      escaped : p.token.escaped ≡ true
      escaped = (and_parts p.token.escaped (not (same_kind Ident p.token.kind)) e).0

      none : (y : Lexeme) → Lex text p.prev_token_end y → IsTrue (seen (starts first_by (g f) X.base) y) → ⊥
      none y l h =
          let name = covered (λ k w e. starts first_by (g f) X.base k w e && (one_of_kinds escapable_kinds k && e)) (λ k w e. may_name f.yield_ f.await_ k) (by_flags (λ y t. escapes_named y t (g (with_flags y t f)) X.base ≡ true) c1 c2 c3 c4 f.yield_ f.await_) y.kind y.newline y.escaped (and_from _ _ h (and_from _ _ (escaped_kind y l (escaped_here a y l ∙ escaped)) (escaped_here a y l ∙ escaped))) in
          false≢true (sym n ∙ (ap (may_name f.yield_ f.await_) (sym (kind_escaped a escaped y l)) ∙ name))

  -- what doesn't begin with `yield` under Yield
  pub fails_at_yield : {X : Test} (g : Flags → G) → apart (starts first_by (g (with_flags true true f)) X.base) (λ k w e. same_kind Yield k) ≡ true → apart (starts first_by (g (with_flags true false f)) X.base) (λ k w e. same_kind Yield k) ≡ true → p.token.kind ≡ Yield → f.yield_ ≡ true → Fails rule (Lex text) X end (g f) p.prev_token_end
  fails_at_yield {X} g c1 c2 k u = fails_here firsts_by (λ y l h. not_both (starts first_by (g f) X.base) (λ k w e. same_kind Yield k) (by f.yield_ f.await_ u) y.kind y.newline y.escaped h (subst (λ (v : Kind). same_kind Yield v ≡ true) (sym (kind_here a k refl y l)) refl))
    where
      by : (y t : Bool) → y ≡ true → apart (starts first_by (g (with_flags y t f)) X.base) (λ k w e. same_kind Yield k) ≡ true
      by true true e = c1
      by true false e = c2
      by false t e = absurd (false≢true e)

  -- what doesn't begin with `await` under Await
  pub fails_at_await : {X : Test} (g : Flags → G) → apart (starts first_by (g (with_flags true true f)) X.base) (λ k w e. same_kind Await k) ≡ true → apart (starts first_by (g (with_flags false true f)) X.base) (λ k w e. same_kind Await k) ≡ true → p.token.kind ≡ Await → f.await_ ≡ true → Fails rule (Lex text) X end (g f) p.prev_token_end
  fails_at_await {X} g c1 c2 k u = fails_here firsts_by (λ y l h. not_both (starts first_by (g f) X.base) (λ k w e. same_kind Await k) (by f.yield_ f.await_ u) y.kind y.newline y.escaped h (subst (λ (v : Kind). same_kind Await v ≡ true) (sym (kind_here a k refl y l)) refl))
    where
      by : (y t : Bool) → t ≡ true → apart (starts first_by (g (with_flags y t f)) X.base) (λ k w e. same_kind Await k) ≡ true
      by true true e = c1
      by false true e = c2
      by y false e = absurd (false≢true e)
