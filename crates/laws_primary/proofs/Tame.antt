-- Where an expression is a function, its tree has no mark of parentheses around it.
use Rattle.std.proofs.Common.{ℕ, ◌≡◌, ◌<◌, nat_lt, Bool, true, false, not, ◌&&◌, ◌||◌, refl}
use Rattle.std.proofs.lemmas.Bool.{false≢true, and_parts, ltb-true}
use Rattle.js_grammar.specs.Trees.{NodeKind, Label, Slots, tree}
use Rattle.js_grammar.specs.Grammar.{Lexemes, never, such, alt, when, node, Takes, is_left, is_right, is_when, is_node, is_such}
use Rattle.js_grammar.specs.Productions.{G, Flags, Name, Symbol, pife_flag, Arrow', Expression, Assignment, Yield, Conditional, Short, Coalesce, Or, And, BitOr, BitXor, BitAnd, Equality, Relational, Shift, Additive, Multiply, Exponent, Unary, Update, LeftHandSide, New, Member, Call, Chain, Primary, FuncExpr, ClassExpr, Object, IdentifierReference, Template}
use Rattle.js_grammar.specs.Table.{rule, rule_of}
use Rattle.js_grammar.proofs.Looks.{apart}
use Rattle.laws_primary.specs.Marked.{is_function}
use Rattle.laws_shared.proofs.Dead.{AllRead, dead, none}

abbrev passes_on : Name → Bool
passes_on Expression = true
passes_on Assignment = true
passes_on Yield = true
passes_on Conditional = true
passes_on Short = true
passes_on Coalesce = true
passes_on Or = true
passes_on And = true
passes_on BitOr = true
passes_on BitXor = true
passes_on BitAnd = true
passes_on Equality = true
passes_on Relational = true
passes_on Shift = true
passes_on Additive = true
passes_on Multiply = true
passes_on Exponent = true
passes_on Unary = true
passes_on Update = true
passes_on LeftHandSide = true
passes_on New = true
passes_on Member = true
passes_on Call = true
passes_on Chain = true
passes_on Primary = true
passes_on Arrow' = true
passes_on Object = true
passes_on FuncExpr = true
passes_on ClassExpr = true
passes_on IdentifierReference = true
passes_on Template = true
passes_on _ = false

-- it makes no function, or one without the mark
abbrev low : NodeKind → ℕ → Bool
low k n = not (is_function k) || nat_lt n pife_flag

-- each alternative that is left makes such a node, or passes on one
abbrev tame : G → Bool
tame never = true
tame (alt a b) = tame a && tame b
tame (when c a) = tame a
tame (node m a) = low m.kind m.flags || dead a
tame (such n c) = passes_on n.name || dead (such n c)
tame g = dead g

tame_at : (n : Name) (f : Flags) → passes_on n ≡ true → tame (rule_of n f) ≡ true
unfolding rule_of apart
tame_at Expression f h = refl
tame_at Assignment f h = refl
tame_at Yield f h = refl
tame_at Conditional f h = refl
tame_at Short f h = refl
tame_at Coalesce f h = refl
tame_at Or f h = refl
tame_at And f h = refl
tame_at BitOr f h = refl
tame_at BitXor f h = refl
tame_at BitAnd f h = refl
tame_at Equality f h = refl
tame_at Relational f h = refl
tame_at Shift f h = refl
tame_at Additive f h = refl
tame_at Multiply f h = refl
tame_at Exponent f h = refl
tame_at Unary f h = refl
tame_at Update f h = refl
tame_at LeftHandSide f h = refl
tame_at New f h = refl
tame_at Member f h = refl
tame_at Call f h = refl
tame_at Chain f h = refl
tame_at Primary f h = refl
tame_at Arrow' f h = refl
tame_at Object f h = refl
tame_at FuncExpr f h = refl
tame_at ClassExpr f h = refl
tame_at IdentifierReference f h = refl
tame_at Template f h = refl
tame_at _ f h = absurd (false≢true h)

tame_line : (n : Symbol) → passes_on n.name ≡ true → tame (rule n) ≡ true
unfolding rule
tame_line n h = tame_at n.name n.flags h

which : (a b : Bool) (X : Type 0) → (a || b) ≡ true → (a ≡ true → X) → (b ≡ true → X) → X
which true b X h f g = f refl
which false b X h f g = g h

low_flags : {g : G} {ks : Slots} {l : Label} {cs us vs : Slots} {i j : ℕ} {ls rest : Lexemes} → Takes rule g ks (tree l cs us) i ls vs j rest → tame g ≡ true → AllRead ls → low l.kind l.flags ≡ true
low_flags (is_left {a = a} {b = b} d) h c = low_flags d (and_parts (tame a) (tame b) h).0 c
low_flags (is_right {a = a} {b = b} d) h c = low_flags d (and_parts (tame a) (tame b) h).1 c
low_flags (is_when q d) h c = low_flags d h c
low_flags (is_node {m = m} {a = a} d) h c = which (low m.kind m.flags) (dead a) (low m.kind m.flags ≡ true) h (λ e. e) (λ e. absurd (none d e c))
low_flags (is_such {n = n} {c = t} {ks = ks} {l = l} {cs = cs} {us = us} d q) h c = which (passes_on n.name) (dead (such n t)) (low l.kind l.flags ≡ true) h (λ e. low_flags d (tame_line n e) c) (λ e. absurd (none (is_such {c = t} {ks = ks} {us = us} d q) e c))
low_flags d h c = absurd (none d h c)

pub unmarked : {n : Symbol} {t : _} {ks : Slots} {l : Label} {cs us vs : Slots} {i j : ℕ} {ls rest : Lexemes} → Takes rule (such n t) ks (tree l cs us) i ls vs j rest → passes_on n.name ≡ true → AllRead ls → is_function l.kind ≡ true → l.flags < pife_flag
unmarked {l = l} (is_such d q) h c e = by (is_function l.kind) (nat_lt l.flags pife_flag) refl e (low_flags d (tame_line _ h) c)
  where
    by : (a b : Bool) → nat_lt l.flags pife_flag ≡ b → a ≡ true → (not a || b) ≡ true → l.flags < pife_flag
    by true true q e h = ltb-true l.flags pife_flag q
    by true false q e h = absurd (false≢true h)
    by false b q e h = absurd (false≢true e)
