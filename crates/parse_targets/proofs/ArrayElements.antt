-- What an element of an array literal is: a spread, or an expression, whose node says what target it may be (ECMA-262, 13.2.4, 13.15.5).
use Rattle.std.proofs.Common.{ℕ, ◌≡◌, Bool, true, false, not, ◌&&◌, ◌||◌, IsTrue, List, [], ◌∷◌, refl, sym, ap, subst, ◌∙◌}
use Rattle.std.proofs.lemmas.Bool.{false≢true, and_parts, or_left, or_right}
use Rattle.js_base.specs.declared.kind.Kind.{Kind}
use Rattle.js_base.specs.declared.kind.Kind.TheVariants.{Eq, Comma, Dot3, RBrack}
use Rattle.js_base.proofs.KindLemmas.{kind_of_same}
use Rattle.js_grammar.specs.Trees.{NodeKind, no_op, Label, Slots, end, tree, of, assignment_expression, elision, spread_element}
use Rattle.js_grammar.specs.Grammar.{Lexeme, Lexemes, next, here, seen, is, never, alt, when, such, node, keep, ◌▸◌, ◌◇◌, Takes, is_nothing, is_lexeme, is_look, is_text, is_ahead, is_empty_slot, is_seq, is_left, is_right, is_when, is_many, is_commas, is_such, is_marked, is_node, is_ended, is_keep, is_kept}
use Rattle.js_grammar.specs.Insertion.{assign_operators}
use Rattle.js_grammar.specs.Productions.{G, Flags, Name, Symbol, at, tok, op, branches, plus_in, Argument, Assignment, Conditional, Short, Coalesce, Or, And, BitOr, BitXor, BitAnd, Equality, Relational, Shift, Additive, Multiply, Exponent, Unary, Update, LeftHandSide, New, Member, Call, Chain, Primary, IdentifierReference, Object, FuncExpr, ClassExpr, Template, Arrow', Yield, SimpleTarget, ArrayTarget, ObjectTarget, Target}
use Rattle.js_grammar.specs.Productions.{sym as symbol}
use Rattle.js_grammar.specs.Table.{rule, rule_of}
use Rattle.js_grammar.specs.CoverInitialisers.{is_property}
use Rattle.js_grammar.proofs.Finding.{contrary}
use Rattle.parse_shared.specs.laws_shared.ArrayLiterals.{elements}
use Rattle.parse_targets.specs.Targets.{is_elision, is_spread, is_assignment, is_equals, is_wide}

-- ---- no operand is a gap, a spread, a property or an assignment

-- what stands only in a literal
abbrev pub is_part : NodeKind → Bool
is_part k = is_elision k || (is_spread k || is_property k)

abbrev odd : NodeKind → Bool
odd k = is_part k || is_assignment k

abbrev even_name : Name → Bool
even_name Conditional = true
even_name Arrow' = true
even_name Yield = true
even_name Short = true
even_name Coalesce = true
even_name Or = true
even_name And = true
even_name BitOr = true
even_name BitXor = true
even_name BitAnd = true
even_name Equality = true
even_name Relational = true
even_name Shift = true
even_name Additive = true
even_name Multiply = true
even_name Exponent = true
even_name Unary = true
even_name Update = true
even_name LeftHandSide = true
even_name New = true
even_name Member = true
even_name Call = true
even_name Chain = true
even_name Primary = true
even_name IdentifierReference = true
even_name Object = true
even_name FuncExpr = true
even_name ClassExpr = true
even_name Template = true
even_name _ = false

-- each tree that it derives is of another kind
abbrev even : G → Bool
even never = true
even (alt a b) = even a && even b
even (when c a) = even a
even (keep a b) = even b
even (such n c) = even_name n.name
even (node m a) = not (odd m.kind)
even g = false

abbrev even_root : Slots → Bool
even_root (tree l cs us) = not (odd l.kind)
even_root ts = true

even_at : (n : Name) (f : Flags) → even_name n ≡ true → even (rule_of n f) ≡ true
unfolding rule_of
even_at Conditional f h = refl
even_at Arrow' f h = refl
even_at Yield f h = refl
even_at Short f h = refl
even_at Coalesce f h = refl
even_at Or f h = refl
even_at And f h = refl
even_at BitOr f h = refl
even_at BitXor f h = refl
even_at BitAnd f h = refl
even_at Equality f h = refl
even_at Relational f h = refl
even_at Shift f h = refl
even_at Additive f h = refl
even_at Multiply f h = refl
even_at Exponent f h = refl
even_at Unary f h = refl
even_at Update f h = refl
even_at LeftHandSide f h = refl
even_at New f h = refl
even_at Member f h = refl
even_at Call f h = refl
even_at Chain f h = refl
even_at Primary f h = refl
even_at IdentifierReference f h = refl
even_at Object f h = refl
even_at FuncExpr f h = refl
even_at ClassExpr f h = refl
even_at Template f h = refl
even_at _ f h = absurd (false≢true h)

even_line : (n : Symbol) → even_name n.name ≡ true → even (rule n) ≡ true
unfolding rule
even_line n h = even_at n.name n.flags h

rooted : {g : G} {ks ts us : Slots} {i j : ℕ} {ls rest : Lexemes} → Takes rule g ks ts i ls us j rest → even g ≡ true → even_root ts ≡ true
rooted (is_left {a = a} {b = b} d) h = rooted d (and_parts (even a) (even b) h).0
rooted (is_right {a = a} {b = b} d) h = rooted d (and_parts (even a) (even b) h).1
rooted (is_when c d) h = rooted d h
rooted (is_keep d e) h = rooted e h
rooted (is_such {n = n} d c) h = rooted d (even_line n h)
rooted (is_node d) h = h
rooted is_nothing h = absurd (false≢true h)
rooted (is_lexeme q) h = absurd (false≢true h)
rooted (is_look q) h = absurd (false≢true h)
rooted (is_text q) h = absurd (false≢true h)
rooted (is_ahead d) h = absurd (false≢true h)
rooted is_empty_slot h = absurd (false≢true h)
rooted (is_seq d e) h = absurd (false≢true h)
rooted (is_many d) h = absurd (false≢true h)
rooted (is_commas d) h = absurd (false≢true h)
rooted (is_marked d) h = absurd (false≢true h)
rooted (is_ended q d e) h = absurd (false≢true h)
rooted (is_kept q) h = absurd (false≢true h)

not_even : {g : G} {l : Label} {cs us vs ks : Slots} {i j : ℕ} {ls rest : Lexemes} → Takes rule g ks (tree l cs us) i ls vs j rest → even g ≡ true → odd l.kind ≡ true → ⊥
not_even {l = l} d h o = contrary (odd l.kind) (rooted d h) o

-- ---- an assignment

abbrev pub a_slots : Flags → Kind → G
a_slots f o = symbol SimpleTarget f ▸ tok o ▸ symbol Assignment f

abbrev pub a_part : Flags → Kind → G
a_part f o = op assignment_expression o (a_slots f o)

-- its operator, and its sides
record Branch (f : Flags) (l : Label) (cs : Slots) (i : ℕ) (ls : Lexemes) (j : ℕ) (rest : Lexemes) : Type 0 where
  operator : Kind
  label_is : l ≡ record { kind = assignment_expression; op = of operator; flags = 0; span = record { from = (here ls).from; to = j } }
  sides : Takes rule (a_slots f operator) end cs i ls end j rest

in_branch : {f : Flags} {l : Label} {cs : Slots} {i j : ℕ} {ls rest : Lexemes} (ks : List Kind) → Takes rule (branches ks (a_part f)) end (tree l cs end) i ls end j rest → Branch f l cs i ls j rest
in_branch [] d = elim d [ ]
in_branch (k ∷ []) (is_node d) = record { operator = k; label_is = refl; sides = d }
in_branch (k ∷ m ∷ ks) (is_left (is_node d)) = record { operator = k; label_is = refl; sides = d }
in_branch (k ∷ m ∷ ks) (is_right d) = in_branch (m ∷ ks) d

branch_kind : {f : Flags} {l : Label} {cs : Slots} {i j : ℕ} {ls rest : Lexemes} → Branch f l cs i ls j rest → l.kind ≡ assignment_expression
branch_kind x = ap (λ (m : Label). m.kind) x.label_is

-- an expression is no gap, no spread and no property
pub no_gap : (f : Flags) {l : Label} {cs : Slots} {i j : ℕ} {ls rest : Lexemes} → Takes rule (rule (at Assignment f)) end (tree l cs end) i ls end j rest → is_part l.kind ≡ true → ⊥
unfolding rule rule_of
no_gap f {l = l} (is_left d) o = not_even d refl (or_left (is_part l.kind) (is_assignment l.kind) o)
no_gap f {l = l} (is_right (is_left d)) o = not_even d refl (or_left (is_part l.kind) (is_assignment l.kind) o)
no_gap f {l = l} (is_right (is_right (is_left d))) o = not_even d refl (or_left (is_part l.kind) (is_assignment l.kind) o)
no_gap f {l = l} (is_right (is_right (is_right (is_left d)))) o = false≢true (sym (ap is_part (branch_kind (in_branch assign_operators d))) ∙ o)
no_gap f (is_right (is_right (is_right (is_right (is_node d))))) o = false≢true o

-- its sides, by `=`
pub record Initialised (f : Flags) (l : Label) (cs : Slots) (i : ℕ) (ls : Lexemes) (j : ℕ) (rest : Lexemes) : Type 0 where
  pub span_is : l.span ≡ record { from = (here ls).from; to = j }
  pub sides : Takes rule (symbol Target f ▸ tok Eq ▸ symbol Assignment f) end cs i ls end j rest

of_simple : (f : Flags) {cs : Slots} {i j : ℕ} {ls rest : Lexemes} → Takes rule (a_slots f Eq) end cs i ls end j rest → Takes rule (symbol Target f ▸ tok Eq ▸ symbol Assignment f) end cs i ls end j rest
unfolding rule rule_of
of_simple f (is_seq (is_such d c) e) = is_seq (is_such (is_left (is_such d refl)) refl) e

of_array : (f : Flags) {cs : Slots} {i j : ℕ} {ls rest : Lexemes} → Takes rule ((symbol ArrayTarget f ◇ symbol ObjectTarget f) ▸ tok Eq ▸ symbol Assignment f) end cs i ls end j rest → Takes rule (symbol Target f ▸ tok Eq ▸ symbol Assignment f) end cs i ls end j rest
unfolding rule rule_of
of_array f (is_seq (is_left (is_such d c)) e) = is_seq (is_such (is_right (is_left (is_such d refl))) refl) e
of_array f (is_seq (is_right (is_such d c)) e) = is_seq (is_such (is_right (is_right (is_such d refl))) refl) e

by_equals : (f : Flags) {l : Label} {cs : Slots} {i j : ℕ} {ls rest : Lexemes} → is_equals l.op ≡ true → Branch f l cs i ls j rest → Initialised f l cs i ls j rest
by_equals f {cs = cs} {i = i} {j = j} {ls = ls} {rest = rest} h x =
    let e : Eq ≡ x.operator = kind_of_same Eq x.operator (sym (ap (λ (m : Label). is_equals m.op) x.label_is) ∙ h) in
    record { span_is = ap (λ (m : Label). m.span) x.label_is; sides = of_simple f (subst (λ (k : Kind). Takes rule (a_slots f k) end cs i ls end j rest) (sym e) x.sides) }

odd_of : (k : NodeKind) → is_assignment k ≡ true → odd k ≡ true
odd_of k e = or_right (is_part k) _ e

pub initialised : (f : Flags) {l : Label} {cs : Slots} {i j : ℕ} {ls rest : Lexemes} → Takes rule (rule (at Assignment f)) end (tree l cs end) i ls end j rest → is_assignment l.kind ≡ true → is_equals l.op ≡ true → Initialised f l cs i ls j rest
unfolding rule rule_of
initialised f d a b = by d a b
  where
    by : {l : Label} {cs : Slots} {i j : ℕ} {ls rest : Lexemes} → Takes rule (rule (at Assignment f)) end (tree l cs end) i ls end j rest → is_assignment l.kind ≡ true → is_equals l.op ≡ true → Initialised f l cs i ls j rest
    by {l = l} (is_left d) a b = absurd (not_even d refl (odd_of l.kind a))
    by {l = l} (is_right (is_left d)) a b = absurd (not_even d refl (odd_of l.kind a))
    by {l = l} (is_right (is_right (is_left d))) a b = absurd (not_even d refl (odd_of l.kind a))
    by (is_right (is_right (is_right (is_left d)))) a b = by_equals f b (in_branch assign_operators d)
    by (is_right (is_right (is_right (is_right (is_node d))))) a b = record { span_is = refl; sides = of_array f d }

-- its sides, by another operator
pub record Operated (f : Flags) (l : Label) (cs : Slots) (i : ℕ) (ls : Lexemes) (j : ℕ) (rest : Lexemes) : Type 0 where
  pub operator : Kind
  pub span_is : l.span ≡ record { from = (here ls).from; to = j }
  pub sides : Takes rule (symbol SimpleTarget f ▸ tok operator ▸ symbol Assignment f) end cs i ls end j rest

-- its line
pub operated_line : (f : Flags) {l : Label} {cs : Slots} {i j : ℕ} {ls rest : Lexemes} → Takes rule (rule (at Assignment f)) end (tree l cs end) i ls end j rest → is_wide l ≡ true → Takes rule (branches assign_operators (a_part f)) end (tree l cs end) i ls end j rest
unfolding rule rule_of
operated_line f {l} d o = let h = and_parts (is_assignment l.kind) (not (is_equals l.op)) o in by d h.0 h.1
  where
    by : {l : Label} {cs : Slots} {i j : ℕ} {ls rest : Lexemes} → Takes rule (rule (at Assignment f)) end (tree l cs end) i ls end j rest → is_assignment l.kind ≡ true → not (is_equals l.op) ≡ true → Takes rule (branches assign_operators (a_part f)) end (tree l cs end) i ls end j rest
    by {l = l} (is_left d) a b = absurd (not_even d refl (odd_of l.kind a))
    by {l = l} (is_right (is_left d)) a b = absurd (not_even d refl (odd_of l.kind a))
    by {l = l} (is_right (is_right (is_left d))) a b = absurd (not_even d refl (odd_of l.kind a))
    by (is_right (is_right (is_right (is_left d)))) a b = d
    by (is_right (is_right (is_right (is_right (is_node d))))) a b = absurd (false≢true b)

pub operated : (f : Flags) {l : Label} {cs : Slots} {i j : ℕ} {ls rest : Lexemes} → Takes rule (rule (at Assignment f)) end (tree l cs end) i ls end j rest → is_wide l ≡ true → Operated f l cs i ls j rest
operated f d o = let x = in_branch assign_operators (operated_line f d o) in record { operator = x.operator; span_is = ap (λ (m : Label). m.span) x.label_is; sides = x.sides }

-- ---- an element with its comma, or the last one

abbrev pub gap_label : Lexeme → Label
gap_label x = record { kind = elision; op = no_op; flags = 0; span = record { from = x.from; to = x.to } }

pub data Step (f : Flags) : Slots → ℕ → Lexemes → ℕ → Lexemes → Type 0 where
  closes : {i : ℕ} {x : Lexeme} {rest : Lexemes} → IsTrue (seen (is RBrack) x) → Step f end i (next x rest) x.to rest
  gap : {us : Slots} {i j : ℕ} {x : Lexeme} {ls rest : Lexemes} → IsTrue (seen (is Comma) x) → Takes rule (elements f) end us x.to ls end j rest → Step f (tree (gap_label x) end us) i (next x ls) j rest
  item : {l : Label} {cs us : Slots} {i j k : ℕ} {x : Lexeme} {ls mid rest : Lexemes} → Takes rule (rule (at Argument f)) end (tree l cs end) i ls end k (next x mid) → IsTrue (seen (is Comma) x) → Takes rule (elements f) end us x.to mid end j rest → Step f (tree l cs us) i ls j rest
  final : {l : Label} {cs : Slots} {i k : ℕ} {x : Lexeme} {ls rest : Lexemes} → Takes rule (rule (at Argument f)) end (tree l cs end) i ls end k (next x rest) → IsTrue (seen (is RBrack) x) → Step f (tree l cs end) i ls x.to rest

pub step_of : {f : Flags} {cs : Slots} {i j : ℕ} {ls rest : Lexemes} → Takes rule (elements f) end cs i ls end j rest → Step f cs i ls j rest
step_of (is_seq (is_seq (is_many (is_right is_nothing)) (is_left (is_such d h))) (is_lexeme p)) = final d p
step_of (is_seq (is_seq (is_many (is_right is_nothing)) (is_right (is_right is_nothing))) (is_lexeme p)) = closes p
step_of (is_seq (is_seq (is_many (is_right is_nothing)) (is_right (is_left d))) p) = elim d [ ]
step_of (is_seq (is_seq (is_many (is_left (is_seq (is_left (is_node (is_lexeme q))) m))) l) p) = gap q (is_seq (is_seq m l) p)
step_of (is_seq (is_seq (is_many (is_left (is_seq (is_right (is_seq (is_such d h) (is_lexeme q))) m))) l) p) = item d q (is_seq (is_seq m l) p)

-- an element: an expression, or a spread
pub data Element (f : Flags) : Label → Slots → ℕ → Lexemes → ℕ → Lexemes → Type 0 where
  an_expression : {l : Label} {cs : Slots} {i j : ℕ} {ls rest : Lexemes} → Takes rule (rule (at Assignment (plus_in f))) end (tree l cs end) i ls end j rest → Element f l cs i ls j rest
  a_spread : {m : Label} {ds : Slots} {i j : ℕ} {x : Lexeme} {ls rest : Lexemes} → IsTrue (seen (is Dot3) x) → Takes rule (rule (at Assignment (plus_in f))) end (tree m ds end) x.to ls end j rest → Element f (record { kind = spread_element; op = no_op; flags = 0; span = record { from = x.from; to = j } }) (tree m ds end) i (next x ls) j rest

pub element_of : {f : Flags} {l : Label} {cs : Slots} {i j : ℕ} {ls rest : Lexemes} → Takes rule (rule (at Argument f)) end (tree l cs end) i ls end j rest → Element f l cs i ls j rest
unfolding rule rule_of
element_of (is_left (is_such d h)) = an_expression d
element_of (is_right (is_node (is_seq (is_lexeme q) (is_such d h)))) = a_spread q d
