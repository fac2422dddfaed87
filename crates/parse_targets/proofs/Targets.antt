-- A simple target is a left-hand side whose tree, with its outer parentheses taken off, is the target's (ECMA-262, 8.6.4).
use Rattle.std.proofs.Common.{ℕ, ◌≡◌, Bool, true, false, not, cond, ◌&&◌, ◌||◌, IsTrue, Option, Some, None, refl, ap, sym, subst, ◌∙◌}
use Rattle.std.proofs.lemmas.Bool.{false≢true, and_parts}
use Rattle.js_grammar.specs.Trees.{NodeKind, Op, Span, Label, Slots, end, hole, tree, Tree, function_expression, arrow_function_expression, array_expression, object_expression}
use Rattle.js_base.specs.declared.kind.Kind.TheVariants.{LParen, RParen}
use Rattle.js_grammar.specs.Grammar.{Lexeme, Lexemes, next, seen, is, nothing, never, lexeme, look, text, ahead, empty_slot, seq, alt, when, many, commas, such, marked, node, ended, keep, kept, Takes, is_nothing, is_lexeme, is_look, is_text, is_ahead, is_empty_slot, is_seq, is_left, is_right, is_when, is_many, is_commas, is_such, is_marked, is_node, is_ended, is_keep, is_kept}
use Rattle.js_grammar.specs.Parsing.{always}
use Rattle.js_grammar.specs.Productions.{G, Flags, Name, Symbol, at, mk, parens, plus_in, with_pife, Expression, Assignment, Conditional, Short, Coalesce, Or, And, BitOr, BitXor, BitAnd, Equality, Relational, Shift, Additive, Multiply, Exponent, Unary, Update, LeftHandSide, New, Member, Call, Chain, Primary, IdentifierReference, SimpleTarget, Arrow', Yield, Object, FuncExpr, ClassExpr, Template}
use Rattle.js_grammar.specs.Table.{rule, rule_of, member_access, call_access, paren_expression}
use Rattle.js_grammar.specs.TreeForms.{is_parenthesized}
use Rattle.js_grammar.proofs.Calculus.{slots_are}
use Rattle.js_grammar.proofs.Finding.{contrary}
use Rattle.parse_shared.specs.laws_shared.ArrayLiterals.{array_of}
use Rattle.parse_targets.specs.Targets.{is_member, is_name, is_array, is_object, is_literal, literal_kind, target_in, target_of}
use Rattle.parse_shared.proofs.laws_shared.FreeOfIn.{any_in}

-- ---- what may be a target

abbrev pub may_be : NodeKind → Bool
may_be k = is_parenthesized k || (is_name k || (is_member k || is_literal k))

-- the kind of the first slot
abbrev pub first_may_be : Slots → Bool
first_may_be (tree l cs us) = may_be l.kind
first_may_be _ = false

-- nonterminals whose trees are none
abbrev other_name : Name → Bool
other_name Arrow' = true
other_name Yield = true
other_name Coalesce = true
other_name Chain = true
other_name FuncExpr = true
other_name ClassExpr = true
other_name Template = true
other_name _ = false

abbrev other : G → Bool
other never = true
other (alt a b) = other a && other b
other (when c a) = other a
other (keep a b) = other b
other (node m a) = not (may_be m.kind)
other (such n c) = other_name n.name
other g = false

other_at : (n : Name) (f : Flags) → other_name n ≡ true → other (rule_of n f) ≡ true
unfolding rule_of
other_at Arrow' f h = refl
other_at Yield f h = refl
other_at Coalesce f h = refl
other_at Chain f h = refl
other_at FuncExpr f h = refl
other_at ClassExpr f h = refl
other_at Template f h = refl
other_at _ f h = absurd (false≢true h)

other_line : (n : Symbol) → other_name n.name ≡ true → other (rule n) ≡ true
unfolding rule
other_line n h = other_at n.name n.flags h

none : {g : G} {ks ts us : Slots} {i j : ℕ} {ls rest : Lexemes} → Takes rule g ks ts i ls us j rest → other g ≡ true → first_may_be ts ≡ true → ⊥
none (is_left {a = a} {b = b} d) h q = none d (and_parts (other a) (other b) h).0 q
none (is_right {a = a} {b = b} d) h q = none d (and_parts (other a) (other b) h).1 q
none (is_when c d) h q = none d h q
none (is_keep d e) h q = none e h q
none (is_node {m = m} d) h q = contrary (may_be m.kind) h q
none (is_such {n = n} d c) h q = none d (other_line n h) q
none is_nothing h q = false≢true h
none (is_lexeme p) h q = false≢true h
none (is_look p) h q = false≢true h
none (is_text p) h q = false≢true h
none (is_ahead d) h q = false≢true h
none is_empty_slot h q = false≢true h
none (is_seq d e) h q = false≢true h
none (is_many d) h q = false≢true h
none (is_commas d) h q = false≢true h
none (is_marked d) h q = false≢true h
none (is_ended c d e) h q = false≢true h
none (is_kept c) h q = false≢true h

-- what is left of a choice for a tree that may be a target
abbrev left_of : G → G
left_of (alt a b) = cond (other a) (left_of b) (cond (other b) (left_of a) (alt (left_of a) (left_of b)))
left_of g = g

module _ {ks ts us : Slots} {i j : ℕ} {ls rest : Lexemes} (q : first_may_be ts ≡ true) where
  from_left : (a b : G) (x y : Bool) → other a ≡ x → other b ≡ y → Takes rule a ks ts i ls us j rest → Takes rule (left_of a) ks ts i ls us j rest → Takes rule (cond x (left_of b) (cond y (left_of a) (alt (left_of a) (left_of b)))) ks ts i ls us j rest
  from_left a b true y h e d w = absurd (none d h q)
  from_left a b false true h e d w = w
  from_left a b false false h e d w = is_left w

  from_right : (a b : G) (x y : Bool) → other a ≡ x → other b ≡ y → Takes rule b ks ts i ls us j rest → Takes rule (left_of b) ks ts i ls us j rest → Takes rule (cond x (left_of b) (cond y (left_of a) (alt (left_of a) (left_of b)))) ks ts i ls us j rest
  from_right a b true y h e d w = w
  from_right a b false true h e d w = absurd (none d e q)
  from_right a b false false h e d w = is_right w

  leaves : (g : G) → Takes rule g ks ts i ls us j rest → Takes rule (left_of g) ks ts i ls us j rest
  leaves (alt a b) (is_left d) = from_left a b (other a) (other b) refl refl d (leaves a d)
  leaves (alt a b) (is_right d) = from_right a b (other a) (other b) refl refl d (leaves b d)
  leaves nothing d = d
  leaves never d = d
  leaves (lexeme p) d = d
  leaves (look p) d = d
  leaves (text p) d = d
  leaves (ahead a) d = d
  leaves empty_slot d = d
  leaves (seq a b) d = d
  leaves (when c a) d = d
  leaves (many a) d = d
  leaves (commas b a) d = d
  leaves (such n c) d = d
  leaves (marked m n) d = d
  leaves (node m a) d = d
  leaves (ended rows a) d = d
  leaves (keep a b) d = d
  leaves kept d = d

-- the first alternative
abbrev foremost : G → G
foremost (alt a b) = foremost a
foremost g = g

by_foremost : {ks ts us : Slots} {i j : ℕ} {ls rest : Lexemes} (g : G) → Takes rule (foremost g) ks ts i ls us j rest → Takes rule g ks ts i ls us j rest
by_foremost (alt a b) d = is_left (by_foremost a d)
by_foremost nothing d = d
by_foremost never d = d
by_foremost (lexeme p) d = d
by_foremost (look p) d = d
by_foremost (text p) d = d
by_foremost (ahead a) d = d
by_foremost empty_slot d = d
by_foremost (seq a b) d = d
by_foremost (when c a) d = d
by_foremost (many a) d = d
by_foremost (commas b a) d = d
by_foremost (such n c) d = d
by_foremost (marked m n) d = d
by_foremost (node m a) d = d
by_foremost (ended rows a) d = d
by_foremost (keep a b) d = d
by_foremost kept d = d

-- What may be a target is derived by one symbol where another derives it.
pub record Passes (n m : Symbol) : Type 0 where
  pub down : {ks us vs : Slots} {l : Label} {cs : Slots} {i j : ℕ} {ls rest : Lexemes} → may_be l.kind ≡ true → Takes rule (such n always) ks (tree l cs us) i ls vs j rest → Takes rule (such m always) ks (tree l cs us) i ls vs j rest
  pub up : {ks us vs : Slots} {l : Label} {cs : Slots} {i j : ℕ} {ls rest : Lexemes} → Takes rule (such m always) ks (tree l cs us) i ls vs j rest → Takes rule (such n always) ks (tree l cs us) i ls vs j rest

pub passes_itself : {n : Symbol} → Passes n n
passes_itself = record { down = λ h d. d; up = λ d. d }

pub passes_both : {n m o : Symbol} → Passes n m → Passes m o → Passes n o
passes_both a b = record { down = λ h d. b.down h (a.down h d); up = λ d. a.up (b.up d) }

-- by its line
by_line : (n m : Symbol) → left_of (rule n) ≡ such m always → foremost (rule n) ≡ such m always → Passes n m
by_line n m e h = record { down = λ q d. go q d; up = λ d. of d }
  where
    anew : {ks us : Slots} {l : Label} {cs : Slots} {i j : ℕ} {ls rest : Lexemes} → Takes rule (such m always) end (tree l cs end) i ls end j rest → Takes rule (such m always) ks (tree l cs us) i ls us j rest
    anew (is_such d c) = is_such d c

    go : {ks us vs : Slots} {l : Label} {cs : Slots} {i j : ℕ} {ls rest : Lexemes} → may_be l.kind ≡ true → Takes rule (such n always) ks (tree l cs us) i ls vs j rest → Takes rule (such m always) ks (tree l cs us) i ls vs j rest
    go q (is_such {l = l} {cs = cs} {i = i} {j = j} {ls = ls} {rest = rest} d c) = anew (subst (λ (g : G). Takes rule g end (tree l cs end) i ls end j rest) e (leaves q (rule n) d))

    of : {ks us vs : Slots} {l : Label} {cs : Slots} {i j : ℕ} {ls rest : Lexemes} → Takes rule (such m always) ks (tree l cs us) i ls vs j rest → Takes rule (such n always) ks (tree l cs us) i ls vs j rest
    of (is_such {l = l} {cs = cs} {i = i} {j = j} {ls = ls} {rest = rest} d c) = is_such (by_foremost (rule n) (subst (λ (g : G). Takes rule g end (tree l cs end) i ls end j rest) (sym h) (is_such d c))) refl

module _ (f : Flags) where
  expression_line : Passes (at Expression f) (at Assignment f)
  unfolding rule rule_of
  expression_line = by_line (at Expression f) (at Assignment f) refl refl

  assignment_line : Passes (at Assignment f) (at Conditional f)
  unfolding rule rule_of
  assignment_line = by_line (at Assignment f) (at Conditional f) refl refl

  conditional_line : Passes (at Conditional f) (at Short f)
  unfolding rule rule_of
  conditional_line = by_line (at Conditional f) (at Short f) refl refl

  short_line : Passes (at Short f) (at Or f)
  unfolding rule rule_of
  short_line = by_line (at Short f) (at Or f) refl refl

  or_line : Passes (at Or f) (at And f)
  unfolding rule rule_of
  or_line = by_line (at Or f) (at And f) refl refl

  and_line : Passes (at And f) (at BitOr f)
  unfolding rule rule_of
  and_line = by_line (at And f) (at BitOr f) refl refl

  bit_or_line : Passes (at BitOr f) (at BitXor f)
  unfolding rule rule_of
  bit_or_line = by_line (at BitOr f) (at BitXor f) refl refl

  bit_xor_line : Passes (at BitXor f) (at BitAnd f)
  unfolding rule rule_of
  bit_xor_line = by_line (at BitXor f) (at BitAnd f) refl refl

  bit_and_line : Passes (at BitAnd f) (at Equality f)
  unfolding rule rule_of
  bit_and_line = by_line (at BitAnd f) (at Equality f) refl refl

  equality_line : Passes (at Equality f) (at Relational f)
  unfolding rule rule_of
  equality_line = by_line (at Equality f) (at Relational f) refl refl

  relational_line : Passes (at Relational f) (at Shift f)
  unfolding rule rule_of
  relational_line = by_line (at Relational f) (at Shift f) refl refl

  shift_line : Passes (at Shift f) (at Additive f)
  unfolding rule rule_of
  shift_line = by_line (at Shift f) (at Additive f) refl refl

  additive_line : Passes (at Additive f) (at Multiply f)
  unfolding rule rule_of
  additive_line = by_line (at Additive f) (at Multiply f) refl refl

  multiply_line : Passes (at Multiply f) (at Exponent f)
  unfolding rule rule_of
  multiply_line = by_line (at Multiply f) (at Exponent f) refl refl

  exponent_line : Passes (at Exponent f) (at Unary f)
  unfolding rule rule_of
  exponent_line = by_line (at Exponent f) (at Unary f) refl refl

  unary_line : Passes (at Unary f) (at Update f)
  unfolding rule rule_of
  unary_line = by_line (at Unary f) (at Update f) refl refl

  update_line : Passes (at Update f) (at LeftHandSide f)
  unfolding rule rule_of
  update_line = by_line (at Update f) (at LeftHandSide f) refl refl

  new_line : Passes (at New f) (at Member f)
  unfolding rule rule_of
  new_line = by_line (at New f) (at Member f) refl refl

  pub of_unary : Passes (at Unary f) (at LeftHandSide f)
  of_unary = passes_both unary_line update_line

  pub of_short : Passes (at Short f) (at LeftHandSide f)
  of_short = passes_both short_line (passes_both or_line (passes_both and_line (passes_both bit_or_line (passes_both bit_xor_line (passes_both bit_and_line (passes_both equality_line (passes_both relational_line (passes_both shift_line (passes_both additive_line (passes_both multiply_line (passes_both exponent_line of_unary)))))))))))

  pub of_assignment : Passes (at Assignment f) (at LeftHandSide f)
  of_assignment = passes_both assignment_line (passes_both conditional_line of_short)

  pub of_expression : Passes (at Expression f) (at LeftHandSide f)
  of_expression = passes_both expression_line of_assignment

-- ---- left-hand sides that may be targets

left_hand_side_left : (f : Flags) → left_of (rule (at LeftHandSide f)) ≡ alt (such (at New f) always) (such (at Call f) always)
unfolding rule rule_of
left_hand_side_left f = refl

member_left : (f : Flags) → left_of (rule (at Member f)) ≡ alt (such (at Primary f) always) (member_access f)
unfolding rule rule_of
member_left f = refl

call_left : (f : Flags) → left_of (rule (at Call f)) ≡ call_access f
unfolding rule rule_of
call_left f = refl

abbrev pub array_line : Flags → G
array_line f = mk array_expression (array_of f)

primary_left : (f : Flags) → left_of (rule (at Primary f)) ≡ alt (such (at IdentifierReference f) always) (alt (such (at Object f) always) (alt (array_line f) (paren_expression f)))
unfolding rule rule_of
primary_left f = refl

-- a name, a member, a member of a call, a literal, or parentheses
pub data Shape (f : Flags) (l : Label) (cs : Slots) (i : ℕ) (ls : Lexemes) (j : ℕ) (rest : Lexemes) : Type 0 where
  a_name : Takes rule (such (at IdentifierReference f) always) end (tree l cs end) i ls end j rest → Shape f l cs i ls j rest
  a_member : Takes rule (member_access f) end (tree l cs end) i ls end j rest → Shape f l cs i ls j rest
  of_call : Takes rule (call_access f) end (tree l cs end) i ls end j rest → Shape f l cs i ls j rest
  in_brackets : Takes rule (array_line f) end (tree l cs end) i ls end j rest → Shape f l cs i ls j rest
  in_braces : Takes rule (such (at Object f) always) end (tree l cs end) i ls end j rest → Shape f l cs i ls j rest
  in_parens : Takes rule (paren_expression f) end (tree l cs end) i ls end j rest → Shape f l cs i ls j rest

module _ {l : Label} {cs : Slots} {i j : ℕ} {ls rest : Lexemes} (q : may_be l.kind ≡ true) where
  kept_of : (n : Symbol) {g : G} → left_of (rule n) ≡ g → Takes rule (such n always) end (tree l cs end) i ls end j rest → Takes rule g end (tree l cs end) i ls end j rest
  kept_of n e (is_such d c) = subst (λ (h : G). Takes rule h end (tree l cs end) i ls end j rest) e (leaves q (rule n) d)

module _ {f : Flags} {l : Label} {cs : Slots} {i j : ℕ} {ls rest : Lexemes} (q : may_be l.kind ≡ true) where
  of_primary : Takes rule (alt (such (at IdentifierReference f) always) (alt (such (at Object f) always) (alt (array_line f) (paren_expression f)))) end (tree l cs end) i ls end j rest → Shape f l cs i ls j rest
  of_primary (is_left d) = a_name d
  of_primary (is_right (is_left d)) = in_braces d
  of_primary (is_right (is_right (is_left d))) = in_brackets d
  of_primary (is_right (is_right (is_right d))) = in_parens d

  of_member : Takes rule (alt (such (at Primary f) always) (member_access f)) end (tree l cs end) i ls end j rest → Shape f l cs i ls j rest
  of_member (is_left d) = of_primary (kept_of q (at Primary f) (primary_left f) d)
  of_member (is_right d) = a_member d

  of_left_hand_side : Takes rule (alt (such (at New f) always) (such (at Call f) always)) end (tree l cs end) i ls end j rest → Shape f l cs i ls j rest
  of_left_hand_side (is_left d) = of_member (kept_of q (at Member f) (member_left f) ((new_line f).down q d))
  of_left_hand_side (is_right d) = of_call (kept_of q (at Call f) (call_left f) d)

  pub shape : Takes rule (such (at LeftHandSide f) always) end (tree l cs end) i ls end j rest → Shape f l cs i ls j rest
  shape d = of_left_hand_side (kept_of q (at LeftHandSide f) (left_hand_side_left f) d)

-- and the other way
module _ {f : Flags} {l : Label} {cs : Slots} {i j : ℕ} {ls rest : Lexemes} where
  pub by_primary : Takes rule (rule (at Primary f)) end (tree l cs end) i ls end j rest → Takes rule (such (at LeftHandSide f) always) end (tree l cs end) i ls end j rest
  unfolding rule rule_of
  by_primary d = is_such (is_left (is_such (is_left (is_such (is_left (is_such d refl)) refl)) refl)) refl

  by_name : Takes rule (such (at IdentifierReference f) always) end (tree l cs end) i ls end j rest → Takes rule (such (at LeftHandSide f) always) end (tree l cs end) i ls end j rest
  unfolding rule rule_of
  by_name d = by_primary (is_right (is_left d))

  by_member : Takes rule (member_access f) end (tree l cs end) i ls end j rest → Takes rule (such (at LeftHandSide f) always) end (tree l cs end) i ls end j rest
  unfolding rule rule_of
  by_member d = is_such (is_left (is_such (is_left (is_such (is_right (is_right (is_left d))) refl)) refl)) refl

  by_call : Takes rule (call_access f) end (tree l cs end) i ls end j rest → Takes rule (such (at LeftHandSide f) always) end (tree l cs end) i ls end j rest
  unfolding rule rule_of
  by_call d = is_such (is_right (is_left (is_such (is_right (is_left d)) refl))) refl

  by_parens : Takes rule (paren_expression f) end (tree l cs end) i ls end j rest → Takes rule (such (at LeftHandSide f) always) end (tree l cs end) i ls end j rest
  unfolding rule rule_of
  by_parens d = by_primary (is_right (is_right (is_right (is_right (is_right (is_right (is_right (is_right (is_right (is_right (is_right (is_right (is_left d)))))))))))))

-- ---- the target of a tree

abbrev alone : Label → Slots → Tree
alone l cs = record { label = l; slots = cs }

-- names and members are their own targets
named : {f : Flags} {l : Label} {cs : Slots} {i j : ℕ} {ls rest : Lexemes} → Takes rule (such (at IdentifierReference f) always) end (tree l cs end) i ls end j rest → target_of l cs ≡ Some (alone l cs)
unfolding rule rule_of
named (is_such (is_node d) c) = refl

member_of : {f : Flags} {l : Label} {cs : Slots} {i j : ℕ} {ls rest : Lexemes} → Takes rule (member_access f) end (tree l cs end) i ls end j rest → target_of l cs ≡ Some (alone l cs)
member_of (is_left (is_node d)) = refl
member_of (is_right (is_left (is_node d))) = refl
member_of (is_right (is_right (is_node d))) = refl

called_of : {f : Flags} {l : Label} {cs : Slots} {i j : ℕ} {ls rest : Lexemes} → Takes rule (call_access f) end (tree l cs end) i ls end j rest → target_of l cs ≡ Some (alone l cs)
called_of (is_left (is_node d)) = refl
called_of (is_right (is_left (is_node d))) = refl
called_of (is_right (is_right (is_node d))) = refl

-- an array literal is no simple target
no_target_of : {f : Flags} {l : Label} {cs : Slots} {i j : ℕ} {ls rest : Lexemes} → Takes rule (array_line f) end (tree l cs end) i ls end j rest → target_of l cs ≡ None
no_target_of (is_node d) = refl

no_target_of_object : {f : Flags} {l : Label} {cs : Slots} {i j : ℕ} {ls rest : Lexemes} → Takes rule (such (at Object f) always) end (tree l cs end) i ls end j rest → target_of l cs ≡ None
unfolding rule rule_of
no_target_of_object (is_such (is_node d) c) = refl

-- what stands in parentheses; its tree is marked, if it is a function
record Inner (f : Flags) (l : Label) (cs : Slots) (i : ℕ) (ls : Lexemes) (j : ℕ) (rest : Lexemes) : Type 0 where
  label : Label
  slots : Slots
  is : cs ≡ tree (with_pife label) slots end
  target : target_of l cs ≡ target_in cs
  derived : Takes rule (parens (such (at Expression (plus_in f)) always)) end (tree label slots end) i ls end j rest

inner : {f : Flags} {l : Label} {cs : Slots} {i j : ℕ} {ls rest : Lexemes} → Takes rule (paren_expression f) end (tree l cs end) i ls end j rest → Inner f l cs i ls j rest
inner (is_node (is_seq (is_lexeme a) (is_seq (is_marked {l = m} {cs = ds} d) (is_lexeme b)))) = record { label = m; slots = ds; is = refl; target = refl; derived = is_seq (is_lexeme a) (is_seq (is_such d refl) (is_lexeme b)) }

-- it has one only if it is none
unmarked : (k : NodeKind) (o : Op) (fl : ℕ) (p : Span) (cs : Slots) (t : Tree) → target_in (tree (with_pife (record { kind = k; op = o; flags = fl; span = p })) cs end) ≡ Some t → with_pife (record { kind = k; op = o; flags = fl; span = p }) ≡ record { kind = k; op = o; flags = fl; span = p }
unmarked function_expression o fl p cs t e = absurd (cc)
unmarked arrow_function_expression o fl p cs t e = absurd (cc)
unmarked _ o fl p cs t e = refl

unmarked_at : (l : Label) (cs : Slots) (t : Tree) → target_in (tree (with_pife l) cs end) ≡ Some t → with_pife l ≡ l
unmarked_at l cs t e = unmarked l.kind l.op l.flags l.span cs t e

-- and none of what has one is
marked_kind : (k : NodeKind) (o : Op) (fl : ℕ) (p : Span) (cs : Slots) (t : Tree) → target_in (tree (record { kind = k; op = o; flags = fl; span = p }) cs end) ≡ Some t → with_pife (record { kind = k; op = o; flags = fl; span = p }) ≡ record { kind = k; op = o; flags = fl; span = p }
marked_kind function_expression o fl p cs t e = absurd (cc)
marked_kind arrow_function_expression o fl p cs t e = absurd (cc)
marked_kind _ o fl p cs t e = refl

marked_same : (l : Label) (cs : Slots) (t : Tree) → target_of l cs ≡ Some t → with_pife l ≡ l
marked_same l cs t e = marked_kind l.kind l.op l.flags l.span cs t e

may : (p n m r : Bool) (a : Option Tree) (b t : Tree) → cond p a (cond (n || m) (Some b) None) ≡ Some t → (p || (n || (m || r))) ≡ true
may true n m r a b t e = refl
may false true m r a b t e = refl
may false false true r a b t e = refl
may false false false r a b t e = absurd (cc)

-- what has a target may be one
pub may_target : (l : Label) (cs : Slots) (t : Tree) → target_of l cs ≡ Some t → may_be l.kind ≡ true
may_target l cs t e = may (is_parenthesized l.kind) (is_name l.kind) (is_member l.kind) (is_literal l.kind) (target_in cs) (alone l cs) t e

module _ {f : Flags} {i j : ℕ} {ls rest : Lexemes} where
  as_name : {t : Tree} → Takes rule (such (at IdentifierReference f) always) end (tree t.label t.slots end) i ls end j rest → Takes rule (such (at SimpleTarget f) always) end (tree t.label t.slots end) i ls end j rest
  unfolding rule rule_of
  as_name d = is_such (is_left d) refl

  as_member : {t : Tree} → Takes rule (member_access f) end (tree t.label t.slots end) i ls end j rest → Takes rule (such (at SimpleTarget f) always) end (tree t.label t.slots end) i ls end j rest
  unfolding rule rule_of
  as_member d = is_such (is_right (is_left d)) refl

  as_call : {t : Tree} → Takes rule (call_access f) end (tree t.label t.slots end) i ls end j rest → Takes rule (such (at SimpleTarget f) always) end (tree t.label t.slots end) i ls end j rest
  unfolding rule rule_of
  as_call d = is_such (is_right (is_right (is_left d))) refl

  as_parens : {t : Tree} → Takes rule (parens (such (at SimpleTarget f) always)) end (tree t.label t.slots end) i ls end j rest → Takes rule (such (at SimpleTarget f) always) end (tree t.label t.slots end) i ls end j rest
  unfolding rule rule_of
  as_parens d = is_such (is_right (is_right (is_right d))) refl

-- the same, of another tree that is the target
pub is_the : {a b : Tree} → Some a ≡ Some b → a ≡ b
is_the e = cc

-- what is known of the slots of the first slot
abbrev Behind : Tree → Slots → Type 0
Behind t (tree m ds us) = (g : Flags) (k : Label) (a b : ℕ) (ms more : Lexemes) → target_of k ds ≡ Some t → Takes rule (such (at LeftHandSide g) always) end (tree k ds end) a ms end b more → Takes rule (such (at SimpleTarget g) always) end (tree t.label t.slots end) a ms end b more
Behind t _ = Unit {0}

module _ {f : Flags} {l : Label} {t : Tree} {i j : ℕ} {ls rest : Lexemes} where
  direct : (ds : Slots) → target_of l ds ≡ Some (alone l ds) → target_of l ds ≡ Some t → Takes rule (such (at SimpleTarget f) always) end (tree l ds end) i ls end j rest → Takes rule (such (at SimpleTarget f) always) end (tree t.label t.slots end) i ls end j rest
  direct ds h e d = subst (λ (u : Tree). Takes rule (such (at SimpleTarget f) always) end (tree u.label u.slots end) i ls end j rest) (is_the (sym h ∙ e)) d

  within : (ds : Slots) → Behind t ds → (x : Inner f l ds i ls j rest) → target_of l ds ≡ Some t → Takes rule (such (at SimpleTarget f) always) end (tree t.label t.slots end) i ls end j rest
  within end r x e = absurd (let z = x.is in cc)
  within (hole us) r x e = absurd (let z = x.is in cc)
  within (tree m ds us) r x e = as_parens {t = t} (go x.derived)
    where
      u : target_in (tree (with_pife x.label) x.slots end) ≡ Some t
      u = sym (ap target_in x.is) ∙ (sym x.target ∙ e)

      v : target_of x.label ds ≡ Some t
      v = ap (λ (n : Label). target_in (tree n ds end)) (sym (unmarked_at x.label x.slots t u)) ∙ (ap (λ (vs : Slots). target_in (tree (with_pife x.label) vs end)) (slots_are x.is) ∙ u)

      go : {a b : ℕ} {ms more : Lexemes} → Takes rule (parens (such (at Expression (plus_in f)) always)) end (tree x.label x.slots end) a ms end b more → Takes rule (parens (such (at SimpleTarget f) always)) end (tree t.label t.slots end) a ms end b more
      go (is_seq (is_lexeme p) (is_seq (is_such {i = a} {j = b} {ls = ms} {rest = more} d c) (is_lexeme q))) =
          is_seq (is_lexeme p) (is_seq (any_in SimpleTarget (plus_in f) f refl refl (r (plus_in f) x.label a b ms more v (subst (λ (vs : Slots). Takes rule (such (at LeftHandSide (plus_in f)) always) end (tree x.label vs end) a ms end b more) (sym (slots_are x.is)) ((of_expression (plus_in f)).down (may_target x.label ds t v) (is_such d refl))))) (is_lexeme q))

  by_shape : (ds : Slots) → Behind t ds → target_of l ds ≡ Some t → Shape f l ds i ls j rest → Takes rule (such (at SimpleTarget f) always) end (tree t.label t.slots end) i ls end j rest
  by_shape ds r e (a_name d) = direct ds (named d) e (as_name {t = alone l ds} d)
  by_shape ds r e (a_member d) = direct ds (member_of d) e (as_member {t = alone l ds} d)
  by_shape ds r e (of_call d) = direct ds (called_of d) e (as_call {t = alone l ds} d)
  by_shape ds r e (in_brackets d) = absurd (let z : None ≡ Some t = sym (no_target_of d) ∙ e in cc)
  by_shape ds r e (in_braces d) = absurd (let z : None ≡ Some t = sym (no_target_of_object d) ∙ e in cc)
  by_shape ds r e (in_parens d) = within ds r (inner d) e

-- A left-hand side that has a target is derived as this target.
pub left_hand_side_target : (cs : Slots) (f : Flags) (l : Label) (t : Tree) {i j : ℕ} {ls rest : Lexemes} → target_of l cs ≡ Some t → Takes rule (such (at LeftHandSide f) always) end (tree l cs end) i ls end j rest → Takes rule (such (at SimpleTarget f) always) end (tree t.label t.slots end) i ls end j rest
left_hand_side_target end f l t e d = by_shape end tt e (shape (may_target l end t e) d)
left_hand_side_target (hole us) f l t e d = by_shape (hole us) tt e (shape (may_target l (hole us) t e) d)
left_hand_side_target (tree m ds us) f l t e d = by_shape (tree m ds us) (λ g k a b ms more h c. left_hand_side_target ds g k t h c) e (shape (may_target l (tree m ds us) t e) d)

-- A target is derived as a left-hand side that has this target.
pub record Covered (f : Flags) (t : Tree) (i : ℕ) (ls : Lexemes) (j : ℕ) (rest : Lexemes) : Type 0 where
  pub label : Label
  pub slots : Slots
  pub has : target_of label slots ≡ Some t
  pub derived : Takes rule (such (at LeftHandSide f) always) end (tree label slots end) i ls end j rest

bracketed : {f : Flags} {t : Tree} {i b : ℕ} {x y : Lexeme} {ms more : Lexemes} → IsTrue (seen (is LParen) x) → IsTrue (seen (is RParen) y) → Covered f t x.to ms b (next y more) → Covered f t i (next x ms) y.to more
bracketed {f} {t} p q c = record {
  label = _;
  slots = tree (with_pife c.label) c.slots end;
  has = ap (λ (m : Label). target_in (tree m c.slots end)) (marked_same c.label c.slots t c.has) ∙ c.has;
  derived = by_parens (is_node (is_seq (is_lexeme p) (is_seq (is_marked (of_such ((of_expression (plus_in f)).up (any_in LeftHandSide f (plus_in f) refl refl c.derived)))) (is_lexeme q))));
}
  where
    of_such : {l : Label} {cs : Slots} {i j : ℕ} {ls rest : Lexemes} → Takes rule (such (at Expression (plus_in f)) always) end (tree l cs end) i ls end j rest → Takes rule (rule (at Expression (plus_in f))) end (tree l cs end) i ls end j rest
    of_such (is_such d h) = d

pub target_left_hand_side : {f : Flags} (t : Tree) {i j : ℕ} {ls rest : Lexemes} → Takes rule (rule (at SimpleTarget f)) end (tree t.label t.slots end) i ls end j rest → Covered f t i ls j rest
unfolding rule rule_of
target_left_hand_side t (is_left d) = record { label = t.label; slots = t.slots; has = named d; derived = by_name d }
target_left_hand_side t (is_right (is_left d)) = record { label = t.label; slots = t.slots; has = member_of d; derived = by_member d }
target_left_hand_side t (is_right (is_right (is_left d))) = record { label = t.label; slots = t.slots; has = called_of d; derived = by_call d }
target_left_hand_side t (is_right (is_right (is_right (is_seq (is_lexeme p) (is_seq (is_such d c) (is_lexeme q)))))) = bracketed p q (target_left_hand_side t d)

-- ---- literals

no_name_literal : {f : Flags} {l : Label} {cs : Slots} {i j : ℕ} {ls rest : Lexemes} → is_literal l.kind ≡ true → Takes rule (such (at IdentifierReference f) always) end (tree l cs end) i ls end j rest → ⊥
unfolding rule rule_of
no_name_literal h (is_such (is_node d) c) = false≢true h

no_member_literal : {f : Flags} {l : Label} {cs : Slots} {i j : ℕ} {ls rest : Lexemes} → is_literal l.kind ≡ true → Takes rule (member_access f) end (tree l cs end) i ls end j rest → ⊥
no_member_literal h (is_left (is_node d)) = false≢true h
no_member_literal h (is_right (is_left (is_node d))) = false≢true h
no_member_literal h (is_right (is_right (is_node d))) = false≢true h

no_call_literal : {f : Flags} {l : Label} {cs : Slots} {i j : ℕ} {ls rest : Lexemes} → is_literal l.kind ≡ true → Takes rule (call_access f) end (tree l cs end) i ls end j rest → ⊥
no_call_literal h (is_left (is_node d)) = false≢true h
no_call_literal h (is_right (is_left (is_node d))) = false≢true h
no_call_literal h (is_right (is_right (is_node d))) = false≢true h

no_parens_literal : (f : Flags) {l : Label} {cs : Slots} {i j : ℕ} {ls rest : Lexemes} → is_literal l.kind ≡ true → Takes rule (paren_expression f) end (tree l cs end) i ls end j rest → ⊥
no_parens_literal f h (is_node d) = false≢true h

pub array_literal : (k : NodeKind) → is_array k ≡ true → is_literal k ≡ true
array_literal array_expression h = refl
array_literal _ h = absurd (false≢true h)

pub is_literal_kind : (o : Bool) (k : NodeKind) → k ≡ literal_kind o → is_literal k ≡ true
is_literal_kind false k h = ap is_literal h
is_literal_kind true k h = ap is_literal h

-- a literal is one of the two
pub kind_of_literal : (k : NodeKind) → is_literal k ≡ true → k ≡ literal_kind (is_object k)
kind_of_literal array_expression h = refl
kind_of_literal object_expression h = refl
kind_of_literal _ h = absurd (false≢true h)

pub may_literal : (k : NodeKind) → is_literal k ≡ true → may_be k ≡ true
may_literal array_expression h = refl
may_literal object_expression h = refl
may_literal _ h = absurd (false≢true h)

pub may_array : (k : NodeKind) → is_array k ≡ true → may_be k ≡ true
may_array k h = may_literal k (array_literal k h)

pub by_brackets : {f : Flags} {l : Label} {cs : Slots} {i j : ℕ} {ls rest : Lexemes} → Takes rule (array_line f) end (tree l cs end) i ls end j rest → Takes rule (rule (at Primary f)) end (tree l cs end) i ls end j rest
unfolding rule rule_of
by_brackets d = is_right (is_right (is_right (is_right (is_right (is_right (is_right (is_right (is_right (is_right (is_right (is_left d)))))))))))

pub by_braces : (f : Flags) {l : Label} {cs : Slots} {i j : ℕ} {ls rest : Lexemes} → Takes rule (rule (at Object f)) end (tree l cs end) i ls end j rest → Takes rule (rule (at Primary f)) end (tree l cs end) i ls end j rest
unfolding rule rule_of
by_braces f d = is_right (is_right (is_right (is_right (is_right (is_right (is_left (is_such d refl)))))))

-- a left-hand side that is a literal by its tree is one
pub data Literal (f : Flags) (l : Label) (cs : Slots) (i : ℕ) (ls : Lexemes) (j : ℕ) (rest : Lexemes) : Type 0 where
  of_array : Takes rule (array_line f) end (tree l cs end) i ls end j rest → Literal f l cs i ls j rest
  of_object : Takes rule (rule (at Object f)) end (tree l cs end) i ls end j rest → Literal f l cs i ls j rest

pub literal_shape : {f : Flags} {l : Label} {cs : Slots} {i j : ℕ} {ls rest : Lexemes} → is_literal l.kind ≡ true → Takes rule (such (at LeftHandSide f) always) end (tree l cs end) i ls end j rest → Literal f l cs i ls j rest
literal_shape {f} {l} {cs} {i} {j} {ls} {rest} h d = go (shape (may_literal l.kind h) d)
  where
    go : Shape f l cs i ls j rest → Literal f l cs i ls j rest
    go (a_name d) = absurd (no_name_literal h d)
    go (a_member d) = absurd (no_member_literal h d)
    go (of_call d) = absurd (no_call_literal h d)
    go (in_brackets d) = of_array d
    go (in_braces (is_such d c)) = of_object d
    go (in_parens d) = absurd (no_parens_literal f h d)

no_object_array : (f : Flags) {l : Label} {cs : Slots} {i j : ℕ} {ls rest : Lexemes} → is_array l.kind ≡ true → Takes rule (rule (at Object f)) end (tree l cs end) i ls end j rest → ⊥
unfolding rule rule_of
no_object_array f h (is_node d) = false≢true h

pub array_shape : {f : Flags} {l : Label} {cs : Slots} {i j : ℕ} {ls rest : Lexemes} → is_array l.kind ≡ true → Takes rule (such (at LeftHandSide f) always) end (tree l cs end) i ls end j rest → Takes rule (array_line f) end (tree l cs end) i ls end j rest
array_shape {f} {l} {cs} {i} {j} {ls} {rest} h d = go (literal_shape (array_literal l.kind h) d)
  where
    go : Literal f l cs i ls j rest → Takes rule (array_line f) end (tree l cs end) i ls end j rest
    go (of_array d) = d
    go (of_object d) = absurd (no_object_array f h d)
