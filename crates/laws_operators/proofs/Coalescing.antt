-- Operands with `??` between them (ECMA-262, 13.13): the start, a step and the end of their loop, and what has no parentheses where it needs some.
use Rattle.std.proofs.Common.{ℕ, ◌≡◌, ◌≤◌, ◌⊎◌, inl, inr, max, Bool, true, false, not, ◌&&◌, IsTrue, List, refl, sym, ap, subst, arith, ◌∙◌}
use Rattle.std.proofs.lemmas.Bool.{false≢true, and_parts}
use Rattle.js_base.specs.declared.kind.Kind.TheVariants.{Question2}
use Rattle.js_grammar.specs.Trees.{Slots, Span as TreeSpan, end, tree, Label, logical_expression, of}
use Rattle.js_grammar.specs.Grammar.{Lexeme, Lexemes, Look, here, seen, is, such, alt, never, node, when, nothing, Takes, is_nothing, is_lexeme, is_look, is_text, is_ahead, is_empty_slot, is_seq, is_left, is_right, is_when, is_many, is_commas, is_such, is_marked, is_node, is_ended, is_keep, is_kept, ◌▸◌}
use Rattle.js_grammar.specs.Parsing.{Test, always, full, still, joined, Admits, Goes, Fails}
use Rattle.js_grammar.specs.Productions.{G, Flags, Name, Symbol, at, tok, Short, Coalesce, Or, And, BitOr, BitXor, BitAnd, Equality, Relational, Shift, Additive, Multiply, Exponent, Unary, Update, LeftHandSide, New, Member, Call, Chain, Primary, IdentifierReference, Object, FuncExpr, ClassExpr, Template}
use Rattle.js_grammar.specs.Productions.{sym as symbol}
use Rattle.js_grammar.specs.Table.{rule, rule_of}
use Rattle.js_grammar.specs.FirstSets.{first}
use Rattle.js_grammar.specs.Insertion.{Row, after_expression, after_postfix, after_body, after_yield, after_declarator, after_word}
use Rattle.js_grammar.specs.Follow.{edge_of, row_of, first_edge, follow, after, widest, surest, looser}
use Rattle.js_grammar.specs.RightEdges.{of_operand}
use Rattle.js_grammar.specs.Towers.{Link, link, make_of, linked_label, Among, this, of_left, of_right}
use Rattle.js_grammar.specs.Chains.{is_coalesce, base_of, links_of, coalesces}
use Rattle.js_grammar.proofs.Looks.{covers, covered, apart, not_both}
use Rattle.js_grammar.proofs.Calculus.{On, Inside, Within, here_at, ◌▹◌, ◌▹✗◌, stay, left, right, by_rule, fails_alt, fails_never, fails_node, part_fails, then_by, makes_by, weaken_on, weaken_fails_on}
use Rattle.js_grammar.proofs.Chains.{coalesces_lawful}
use Rattle.js_grammar.proofs.First.{starts}
use Rattle.js_grammar.proofs.FirstClaims.{firsts}
use Rattle.js_grammar.proofs.FirstRules.{by_first, fails_here}
use Rattle.js_grammar.proofs.FollowLaws.{admits, surely, looser_than, passes_on, same_read, fails_by}
use Rattle.js_grammar.proofs.Loops.{Follows, Edges, Alone, start, start_fails, step, step_fails, finish, recap, rekept, unfollowed}
use Rattle.js_grammar.proofs.Towers.{an_link}
use Rattle.js_base.specs.declared.operator.AssignmentOperator.{AssignmentOperator}
use Rattle.js_base.specs.declared.operator.AssignmentOperator.TheVariants as assignment
use Rattle.js_base.specs.declared.operator.BinaryOperator.{BinaryOperator}
use Rattle.js_base.specs.declared.operator.BinaryOperator.TheVariants as binary
use Rattle.js_base.specs.declared.operator.LogicalOperator.{LogicalOperator}
use Rattle.js_base.specs.declared.operator.UnaryOperator.{UnaryOperator}
use Rattle.js_base.specs.declared.operator.UnaryOperator.TheVariants as unary
use Rattle.js_base.specs.declared.operator.UpdateOperator.{UpdateOperator}
use Rattle.js_base.specs.declared.operator.UpdateOperator.TheVariants as update
use Rattle.laws_shared.specs.js_tree.declared.op.Op.{Op as MadeOp}
use Rattle.laws_shared.specs.js_tree.declared.op.Op.TheVariants as made
use Rattle.laws_shared.specs.js_tree.declared.op.DeclarationKind.{DeclarationKind}
use Rattle.laws_shared.specs.js_tree.declared.op.DeclarationKind.TheVariants as declaration
use Rattle.laws_shared.specs.js_tree.declared.op.PropertyKind.{PropertyKind}
use Rattle.laws_shared.specs.js_tree.declared.op.PropertyKind.TheVariants as property
use Rattle.laws_shared.specs.js_tree.declared.op.MethodKind.{MethodKind}
use Rattle.laws_shared.specs.js_tree.declared.op.MethodKind.TheVariants as method
use Rattle.laws_shared.specs.js_tree.declared.op.NumberBase.{NumberBase}
use Rattle.laws_shared.specs.js_tree.declared.op.NumberBase.TheVariants as number
use Rattle.laws_shared.specs.js_tree.declared.op.BigintBase.{BigintBase}
use Rattle.laws_shared.specs.js_tree.declared.op.BigintBase.TheVariants as bigint
use Rattle.laws_shared.specs.js_tree.declared.op.ClauseWord.{ClauseWord}
use Rattle.laws_shared.specs.js_tree.declared.op.ClauseWord.TheVariants as clause
use Rattle.laws_shared.specs.js_tree.Labels.{op_of, binary_kind, unary_kind, update_kind, assignment_kind, declaration_kind, property_op, method_op_of, number_op, bigint_kind, clause_kind}
use Rattle.laws_shared.specs.Answers.{Stretch, Underived}
use Rattle.laws_operators.specs.Coalescing.{is_or_and}
use Rattle.laws_shared.specs.Lexemes.{Lex}
use Rattle.laws_patterns.specs.laws_primary.Members.{Looped}

-- ---- no operand of `??` is an `||` or `&&` expression

abbrev free_name : Name → Bool
free_name BitOr = true
free_name BitXor = true
free_name BitAnd = true
free_name Equality = true
free_name Relational = true
free_name Shift = true
free_name Additive = true
free_name Multiply = true
free_name Exponent = true
free_name Unary = true
free_name Update = true
free_name LeftHandSide = true
free_name New = true
free_name Member = true
free_name Call = true
free_name Chain = true
free_name Primary = true
free_name IdentifierReference = true
free_name Object = true
free_name FuncExpr = true
free_name ClassExpr = true
free_name Template = true
free_name _ = false

-- each tree that it derives is of another operator
abbrev free : G → Bool
free never = true
free (alt a b) = free a && free b
free (when c a) = free a
free (such n c) = free_name n.name
free (node m a) = not (is_or_and m.op)
free g = false

abbrev free_root : Slots → Bool
free_root (tree l cs us) = not (is_or_and l.op)
free_root ts = true

free_at : (n : Name) (f : Flags) → free_name n ≡ true → free (rule_of n f) ≡ true
unfolding rule_of
free_at BitOr f h = refl
free_at BitXor f h = refl
free_at BitAnd f h = refl
free_at Equality f h = refl
free_at Relational f h = refl
free_at Shift f h = refl
free_at Additive f h = refl
free_at Multiply f h = refl
free_at Exponent f h = refl
free_at Unary f h = refl
free_at Update f h = refl
free_at LeftHandSide f h = refl
free_at New f h = refl
free_at Member f h = refl
free_at Call f h = refl
free_at Chain f h = refl
free_at Primary f h = refl
free_at IdentifierReference f h = refl
free_at Object f h = refl
free_at FuncExpr f h = refl
free_at ClassExpr f h = refl
free_at Template f h = refl
free_at _ f h = absurd (false≢true h)

free_line : (n : Symbol) → free_name n.name ≡ true → free (rule n) ≡ true
unfolding rule
free_line n h = free_at n.name n.flags h

rooted : {g : G} {ks ts us : Slots} {i j : ℕ} {ls rest : Lexemes} → Takes rule g ks ts i ls us j rest → free g ≡ true → free_root ts ≡ true
rooted (is_left {a = a} {b = b} d) h = rooted d (and_parts (free a) (free b) h).0
rooted (is_right {a = a} {b = b} d) h = rooted d (and_parts (free a) (free b) h).1
rooted (is_when c d) h = rooted d h
rooted (is_such {n = n} d c) h = rooted d (free_line n h)
rooted (is_node d) h = h
rooted is_nothing h = absurd (false≢true h)
rooted (is_lexeme q) h = absurd (false≢true h)
rooted (is_look q) h = absurd (false≢true h)
rooted (is_text q) h = absurd (false≢true h)
rooted (is_ahead d) h = absurd (false≢true h)
rooted is_empty_slot h = absurd (false≢true h)
rooted (is_seq d e) h = absurd (false≢true h)
rooted (is_many d) h = absurd (false≢true h)
rooted (is_commas d) h = absurd (false≢true h)
rooted (is_marked d) h = absurd (false≢true h)
rooted (is_ended q d e) h = absurd (false≢true h)
rooted (is_keep d e) h = absurd (false≢true h)
rooted (is_kept q) h = absurd (false≢true h)

-- ---- a LogicalORExpression that is none of these is a BitwiseORExpression

or_of_bit_or : {f : Flags} {ks ts us : Slots} {i j : ℕ} {ls rest : Lexemes} → Takes rule (symbol BitOr f) ks ts i ls us j rest → Takes rule (symbol Or f) ks ts i ls us j rest
unfolding rule rule_of
or_of_bit_or (is_such d c) = is_such (is_left (is_such (is_left (is_such d refl)) refl)) refl

other : {b : Bool} → b ≡ true → b ≡ false → ⊥
other e h = false≢true (sym h ∙ e)

bit_or_of_and : {f : Flags} {l : Label} {cs : Slots} {i j : ℕ} {ls rest : Lexemes} → Takes rule (symbol And f) end (tree l cs end) i ls end j rest → is_or_and l.op ≡ false → Takes rule (symbol BitOr f) end (tree l cs end) i ls end j rest
unfolding rule rule_of
bit_or_of_and (is_such (is_left d) c) h = d
bit_or_of_and (is_such (is_right (is_node d)) c) h = absurd (other refl h)

bit_or_of_or : {f : Flags} {l : Label} {cs : Slots} {i j : ℕ} {ls rest : Lexemes} → Takes rule (rule (at Or f)) end (tree l cs end) i ls end j rest → is_or_and l.op ≡ false → Takes rule (symbol BitOr f) end (tree l cs end) i ls end j rest
unfolding rule rule_of
bit_or_of_or (is_left d) h = bit_or_of_and d h
bit_or_of_or (is_right (is_node d)) h = absurd (other refl h)

-- and the others are made by `||` or `&&`
kind_of_and : {f : Flags} {l : Label} {cs : Slots} {i j : ℕ} {ls rest : Lexemes} → Takes rule (symbol And f) end (tree l cs end) i ls end j rest → is_or_and l.op ≡ true → l.kind ≡ logical_expression
unfolding rule rule_of
kind_of_and (is_such (is_left d) c) h = absurd (other (rooted d refl) (ap not h))
kind_of_and (is_such (is_right (is_node d)) c) h = refl

pub kind_of_or : {f : Flags} {l : Label} {cs : Slots} {i j : ℕ} {ls rest : Lexemes} → Takes rule (symbol Or f) end (tree l cs end) i ls end j rest → is_or_and l.op ≡ true → l.kind ≡ logical_expression
unfolding rule rule_of
kind_of_or (is_such (is_left d) c) h = kind_of_and d h
kind_of_or (is_such (is_right (is_node d)) c) h = refl

module _ {text : List ℕ} {f : Flags} where
  pub as_bit_or : {s s' : ℕ} {l : Label} {cs : Slots} {pass : Lexemes → Lexemes} → is_or_and l.op ≡ false → Stretch text (after (at Or f)) (such (at Or f) always) s nothing s' (tree l cs) pass → Stretch text (after (at Or f)) (such (at BitOr f) always) s nothing s' (tree l cs) pass
  as_bit_or {l = l} {cs = cs} n y = record { reach = y.reach; near = y.near; goes = record { passes = y.goes.passes; sound = λ us vs k ls rest lx r d. down (y.goes.sound us vs k ls rest lx r d); only = λ ts vs k ls rest lx d e. y.goes.only ts vs k ls rest lx (or_of_bit_or d) e } }
    where
      down : {us vs : Slots} {i j : ℕ} {ls rest : Lexemes} → Takes rule (symbol Or f) end (tree l cs us) i ls vs j rest → Takes rule (symbol BitOr f) end (tree l cs us) i ls vs j rest
      down (is_such d c) = rekept _ (bit_or_of_or d n)

  pub no_bit_or : {s s' : ℕ} {l : Label} {cs : Slots} {pass : Lexemes → Lexemes} → is_or_and l.op ≡ true → Stretch text (after (at Or f)) (such (at Or f) always) s nothing s' (tree l cs) pass → Fails rule (Lex text) (after (at Or f)) end (such (at BitOr f) always) s
  no_bit_or n y = record { no = λ ts vs k ls rest lx d e. let x = y.goes.only ts vs k ls rest lx (or_of_bit_or d) e in other (subst (λ (v : Slots). free_root v ≡ true) x.2 (rooted d refl)) (ap not n) }

  pub unread_operand : {s : ℕ} → Underived text (at Or f) s → Fails rule (Lex text) (after (at Or f)) end (such (at BitOr f) always) s
  unread_operand n = record { no = λ ts vs k ls rest lx d e. n.no ts vs k ls rest lx (or_of_bit_or d) e }

-- an operand that `??` stands behind is none that ends there
sign_apart : (b : Bool) (r : Row) → of_operand r ≡ true → apart (is Question2) (looser 4 b r) ≡ true
unfolding apart
sign_apart true after_expression h = refl
sign_apart true after_postfix h = refl
sign_apart false after_expression h = refl
sign_apart false after_postfix h = refl
sign_apart b after_body h = absurd (false≢true h)
sign_apart b after_yield h = absurd (false≢true h)
sign_apart b after_declarator h = absurd (false≢true h)
sign_apart b after_word h = absurd (false≢true h)

-- ---- two operands

abbrev pub part : Flags → G
part f = tok Question2 ▸ symbol BitOr f

abbrev pair : Flags → G
pair f = alt never (such (at BitOr f) always) ▸ part f

abbrev pub coalesced : Flags → Link Symbol
coalesced f = link logical_expression (of Question2) 0 (part f)

abbrev foot : Flags → G
foot f = node (make_of logical_expression (of Question2) 0) (pair f)

foot_is : (f : Flags) → base_of is_coalesce Coalesce f ≡ foot f
unfolding rule_of
foot_is f = refl

-- behind two slots may stand what may stand behind the second one
abbrev by_second : Flags → Slots → Look
by_second f (tree a ds (tree b cs end)) k w e = follow (at Or f) (edge_of b cs) k w e
by_second f _ k w e = false

abbrev second : Flags → Test
second f = record { base = widest Or; by = λ ts. by_second f ts }

inside_second : (f : Flags) (s : ℕ) → Inside rule (make_of logical_expression (of Question2) 0) (after (at Or f)) (second f) end (pair f) s
inside_second f s = record { ends = λ p cs vs j ls mid d e. go p cs vs d e }
  where
    go : (p : TreeSpan) (cs vs : Slots) {i j : ℕ} {ls mid : Lexemes} → Takes rule (pair f) end cs i ls end j mid → Admits (after (at Or f)) (tree (record { kind = logical_expression; op = of Question2; flags = 0; span = p }) cs vs) (here mid) → Admits (second f) cs (here mid)
    go p cs vs (is_seq (is_right (is_such a b)) (is_seq (is_lexeme c) (is_such d e))) x = x
    go p cs vs (is_seq (is_left a) b) x = elim a [ ]

on_second : (f : Flags) (a : Label) (ds : Slots) (s : ℕ) → On rule (record { base = widest Or; by = λ us. by_second f (tree a ds us) }) (after (at Or f)) end (part f) s
on_second f a ds s = record { admits = λ ts vs k ls rest d e. go ts vs d e }
  where
    go : (ts vs : Slots) {i k : ℕ} {ls rest : Lexemes} → Takes rule (part f) end ts i ls vs k rest → Admits (record { base = widest Or; by = λ us. by_second f (tree a ds us) }) ts (here rest) → Admits (after (at Or f)) ts (here rest)
    go ts end (is_seq (is_lexeme c) (is_such d h)) x = x
    go ts vs (is_seq (is_lexeme c) (is_such d h)) x = absurd (false≢true x.1)

-- `??` may stand behind an operand
abbrev pub a_sign : Look
a_sign k w e = is Question2 k w e

sign_follows : covers a_sign (surest Or) ≡ true
unfolding covers
sign_follows = refl

or_passes : passes_on Short Or ≡ true
unfolding covers
or_passes = refl

module _ (f : Flags) where
  among : Among (at Coalesce f) (links_of is_coalesce Coalesce f) (coalesced f)
  unfolding rule_of
  among = of_left this

  only_link : (x : Link Symbol) → Among (at Coalesce f) (links_of is_coalesce Coalesce f) x → x ≡ coalesced f
  unfolding rule_of
  only_link x (of_left i) = an_link i
  only_link x (of_right i) = elim i [ ]

  sign_admitted : (ts : Slots) (y : Lexeme) → IsTrue (seen a_sign y) → Admits (after (at Or f)) ts y
  sign_admitted ts y h = (surely (at Or f)).admits ts y (covered a_sign (surest Or) sign_follows y.kind y.newline y.escaped h)

  part_starts : covers (starts first (part f) full) a_sign ≡ true
  unfolding covers
  part_starts = refl

  part_begins : covers (starts first (part f) (widest Or)) a_sign ≡ true
  unfolding covers
  part_begins = refl

  sign_of_part : (x : Link Symbol) → Among (at Coalesce f) (links_of is_coalesce Coalesce f) x → (y : Lexeme) → IsTrue (seen (starts first x.part full) y) → IsTrue (seen a_sign y)
  sign_of_part x i y t = covered (starts first (part f) full) a_sign part_starts y.kind y.newline y.escaped (subst (λ (v : Link Symbol). IsTrue (seen (starts first v.part full) y)) (only_link x i) t)

  sign_goes_on : (c : ℕ) → Follows first (coalesces f) 0 c (after (at Or f))
  sign_goes_on c = record { goes = λ q x a ts y t. sign_admitted ts y (sign_of_part x a.3 y t) }

  within_operand : Within (after (at Short f)) (after (at Or f))
  within_operand ts y e = admits (at Or f) ts y (looser_than 4 5 f.in_ (first_edge ts).row y.kind y.newline y.escaped (omega arith) e.1)

  edges : {s' from : ℕ} {l : Label} {cs : Slots} → Edges rule (after (at Short f)) (after (at Or f)) (coalesced f) from l cs s'
  edges {s'} {from} {l} {cs} = record { ends = λ es j ls mid y d e. go es j y d e }
    where
      go : (es : Slots) {i j : ℕ} {ls mid : Lexemes} (p : ℕ) (y : Lexeme) → Takes rule (part f) end es i ls end j mid → Admits (after (at Short f)) (tree (linked_label (coalesced f) from p) (tree l cs es) end) y → Admits (after (at Or f)) es y
      go es p y (is_seq (is_lexeme h) (is_such {l = m} {cs = ds} d c)) e = within_operand (tree m ds end) y e

  short_line : rule (at Short f) ≡ alt (such (at Or f) always) (such (at Coalesce f) always)
  unfolding rule rule_of
  short_line = refl

module _ (text : List ℕ) (f : Flags) where
  abbrev pub PartReads : ℕ → ℕ → Label → Slots → (Lexemes → Lexemes) → Type 0
  PartReads s s' l cs pass = Stretch text (after (at Or f)) (part f) s nothing s' (tree l cs) pass

  abbrev pub NoPart : ℕ → Type 0
  NoPart s = Fails rule (Lex text) (after (at Or f)) end (part f) s

  abbrev FirstReads : ℕ → ℕ → Label → Slots → (Lexemes → Lexemes) → Type 0
  FirstReads s s' l cs pass = Stretch text (after (at Or f)) (such (at BitOr f) always) s nothing s' (tree l cs) pass

  abbrev NoFirst : ℕ → Type 0
  NoFirst s = Fails rule (Lex text) (after (at Or f)) end (such (at BitOr f) always) s

  abbrev So : ℕ → ℕ → Label → Slots → (Lexemes → Lexemes) → ℕ → Type 0
  So s from l cs pass s' = Looped text (coalesces f) (after (at Short f)) s from l cs pass s'

  abbrev NoCoalesce : ℕ → Type 0
  NoCoalesce s = Fails rule (Lex text) (after (at Short f)) end (such (at Coalesce f) always) s

  -- `??` ends no operand here
  abbrev pub AllSigns : ℕ → Type 0
  AllSigns s = (y : Lexeme) → Lex text s y → IsTrue (seen a_sign y)

  abbrev pub NoSign : ℕ → Type 0
  NoSign s = (y : Lexeme) → Lex text s y → IsTrue (seen a_sign y) → ⊥

  abbrev OrReads : ℕ → ℕ → Label → Slots → (Lexemes → Lexemes) → Type 0
  OrReads s s' l cs pass = Stretch text (after (at Or f)) (such (at Or f) always) s nothing s' (tree l cs) pass

  abbrev NoOr : ℕ → Type 0
  NoOr s = Fails rule (Lex text) (after (at Short f)) end (such (at Or f) always) s

module _ {text : List ℕ} (f : Flags) where
  -- behind the first operand
  first_goes : {s s' : ℕ} {l : Label} {cs : Slots} {pass : Lexemes → Lexemes} (x : FirstReads text f s s' l cs pass) → Goes rule (Lex text) (second f) end (pair f) s (part f) s' (tree l cs) (joined (still 0) (record { reach = x.reach; pass = pass }))
  unfolding covers
  first_goes x = then_by {X' = after (at Or f)} (right fails_never ▹ x.goes) (by_first firsts (surely (at Or f)) refl)

  no_foot : {s : ℕ} → NoFirst text f s → Fails rule (Lex text) (after (at Or f)) end (foot f) s
  unfolding covers
  no_foot {s} n = fails_node (inside_second f s) (part_fails {X' = after (at Or f)} (fails_alt fails_never n) (by_first firsts (surely (at Or f)) refl))

  no_foot_behind : {s s' : ℕ} {l : Label} {cs : Slots} {pass : Lexemes → Lexemes} → FirstReads text f s s' l cs pass → NoPart text f s' → Fails rule (Lex text) (after (at Or f)) end (foot f) s
  no_foot_behind {s} {s'} {l} {cs} x n = fails_node (inside_second f s) (first_goes x ▹✗ weaken_fails_on n (on_second f l cs s'))

  foot_goes : {s s' s'' from : ℕ} {l r : Label} {cs ds : Slots} {pass more : Lexemes → Lexemes} (x : FirstReads text f s s' l cs pass) (y : PartReads text f s' s'' r ds more) → ((y : Lexeme) → Lex text s y → y.from ≡ from)
      → Goes rule (Lex text) (after (at Or f)) end (foot f) s nothing s'' (tree (linked_label (coalesced f) from s'') (tree l cs (tree r ds end))) (joined (joined (still 0) (record { reach = x.reach; pass = pass })) (record { reach = y.reach; pass = more }))
  foot_goes {s} {s'} {s''} {from} {l} {r} {cs} {ds} x y b = makes_by (linked_label (coalesced f) from s'') (inside_second f s) (first_goes x ▹ weaken_on y.goes (on_second f l cs s')) (λ ls ls' i j. ap (λ v. linked_label (coalesced f) v s'') (b (here ls) (here_at (Lex text) ls i)))

  -- ---- the loop

  foot_there : {X : Test} {s : ℕ} → Goes rule (Lex text) X end (base_of is_coalesce Coalesce f) s (foot f) s (λ us. us) (still 0)
  foot_there {X} {s} = subst (λ (g : G). Goes rule (Lex text) X end (base_of is_coalesce Coalesce f) s g s (λ us. us) (still 0)) (foot_is f) stay

  loop_fails : {s : ℕ} → Fails rule (Lex text) (after (at Or f)) end (foot f) s → NoCoalesce text f s
  loop_fails n = start_fails firsts {w = coalesces f} {m = 0} {X = after (at Short f)} {X' = after (at Or f)} (coalesces_lawful f) (λ q h. refl) refl (omega arith) (foot_there ▹✗ n) (λ l cs vs y e. e) (within_operand f) (sign_goes_on f 1)

  loop_start : {s s' s'' from : ℕ} {l r : Label} {cs ds : Slots} {pass more : Lexemes → Lexemes} → s' ≤ s'' → FirstReads text f s s' l cs pass → PartReads text f s' s'' r ds more → ((y : Lexeme) → Lex text s y → y.from ≡ from) → So text f s from (linked_label (coalesced f) from s'') (tree l cs (tree r ds end)) (λ ls. pass (more ls)) s''
  loop_start h x y b = record {
    reach = max 0 (max (max 0 x.reach) y.reach);
    near = let i = x.near in let j = y.near in omega arith;
    around = start firsts {w = coalesces f} {m = 0} {X = after (at Short f)} {X' = after (at Or f)} (coalesces_lawful f) (λ q h. refl) (omega arith) (foot_there ▹ foot_goes x y b) (within_operand f) (sign_goes_on f 1) b;
  }

  not_before_sign : {s' : ℕ} (l : Label) (cs : Slots) → of_operand (row_of l cs) ≡ true → AllSigns text f s' → (y : Lexeme) → Lex text s' y → Admits (after (at Short f)) (tree l cs end) y → ⊥
  not_before_sign l cs o z y i e = not_both a_sign (looser 4 f.in_ (row_of l cs)) (sign_apart f.in_ (row_of l cs) o) y.kind y.newline y.escaped (z y i) e.1

  alone : {s' : ℕ} {l : Label} {cs : Slots} → of_operand (row_of l cs) ≡ true → AllSigns text f s' → Alone firsts (Lex text) (after (at Short f)) (coalesces f) 0 1 s' 0 (coalesced f) l cs
  alone {s'} {l} {cs} o z = record {
    step = (omega arith, omega arith, omega arith, among f);
    other = λ q' x' st y i t. inl (at_zero st.2, only_link f x' st.3);
    goes_on = λ y i e. not_before_sign l cs o z y i e;
  }
    where
      at_zero : {q : ℕ} → q ≤ 0 → q ≡ 0
      at_zero h = omega arith

  loop_step : {s s' s'' from : ℕ} {l r : Label} {cs ds : Slots} {pass more : Lexemes → Lexemes} → s' ≤ s'' → So text f s from l cs pass s' → of_operand (row_of l cs) ≡ true → AllSigns text f s' → PartReads text f s' s'' r ds more → So text f s from (linked_label (coalesced f) from s'') (tree l cs (tree r ds end)) (λ ls. pass (more ls)) s''
  loop_step h x o z y = record {
    reach = max x.reach y.reach;
    near = let i = x.near in let j = y.near in omega arith;
    around = recap firsts (step firsts x.around (alone o z) y.goes (edges f) (sign_goes_on f 0)) (omega arith) (omega arith);
  }

  loop_step_fails : {s s' from : ℕ} {l : Label} {cs : Slots} {pass : Lexemes → Lexemes} → So text f s from l cs pass s' → of_operand (row_of l cs) ≡ true → AllSigns text f s' → NoPart text f s' → NoCoalesce text f s
  loop_step_fails x o z n = step_fails firsts x.around (alone o z) refl n (λ l cs vs y e. e) (edges f) (sign_goes_on f 0)

  loop_end : {s s' from : ℕ} {l : Label} {cs : Slots} {pass : Lexemes → Lexemes} → So text f s from l cs pass s' → NoSign text f s' → Stretch text (after (at Short f)) (such (at Coalesce f) always) s nothing s' (tree l cs) pass
  loop_end x n = record { reach = x.reach; near = x.near; goes = finish firsts {X' = after (at Short f)} refl (λ l cs vs y e. e) x.around (λ q z st y i t. n y i (sign_of_part f z st.3 y t)) }

  -- ---- a ShortCircuitExpression

  neither : {s : ℕ} → NoOr text f s → NoCoalesce text f s → Underived text (at Short f) s
  neither {s} a b = fails_by (subst (λ (g : G). Fails rule (Lex text) (after (at Short f)) end g s) (sym (short_line f)) (fails_alt a b))

  -- the first operand can't be read
  pub no_short : {s : ℕ} → Underived text (at Or f) s → Underived text (at Short f) s
  no_short n = neither (weaken_fails_on n (same_read (at Short f) (at Or f) or_passes refl)) (loop_fails (no_foot (unread_operand n)))

  or_unfollowed : {s s' : ℕ} {l : Label} {cs : Slots} {pass : Lexemes → Lexemes} → OrReads text f s s' l cs pass → of_operand (row_of l cs) ≡ true → AllSigns text f s' → NoOr text f s
  or_unfollowed {l = l} {cs = cs} x o z = unfollowed x.goes (same_read (at Short f) (at Or f) or_passes refl) (λ us y i e. not_before_sign l cs o z y i (e.0, e.1))

  -- an operand that no `??` stands behind
  part_none : {s : ℕ} → NoSign text f s → NoPart text f s
  part_none n = fails_here firsts (λ y i t. n y i (covered (starts first (part f) (widest Or)) a_sign (part_begins f) y.kind y.newline y.escaped t))

  or_alone : {s s' : ℕ} {l : Label} {cs : Slots} {pass : Lexemes → Lexemes} → OrReads text f s s' l cs pass → NoSign text f s' → Stretch text (after (at Short f)) (such (at Short f) always) s nothing s' (tree l cs) pass
  or_alone {s} {s'} {l} {cs} {pass} x n = record { reach = max 0 x.reach; near = let i = x.near in omega arith; goes = by_rule {X' = after (at Short f)} (λ l cs vs y e. e) (subst (λ (g : G). Goes rule (Lex text) (after (at Short f)) end g s (such (at Or f) always) s (λ us. us) (still 0)) (sym (short_line f)) (left (loop_fails (by_op (is_or_and l.op) refl))) ▹ weaken_on x.goes (same_read (at Short f) (at Or f) or_passes refl)) refl }
    where
      by_op : (b : Bool) → is_or_and l.op ≡ b → Fails rule (Lex text) (after (at Or f)) end (foot f) s
      by_op true e = no_foot (no_bit_or e x)
      by_op false e = no_foot_behind (as_bit_or e x) (part_none n)

  loop_alone : {s s' from : ℕ} {l : Label} {cs : Slots} {pass : Lexemes → Lexemes} → NoOr text f s → So text f s from l cs pass s' → NoSign text f s' → Stretch text (after (at Short f)) (such (at Short f) always) s nothing s' (tree l cs) pass
  loop_alone {s} o x n = let y = loop_end x n in record { reach = max 0 y.reach; near = let i = y.near in omega arith; goes = by_rule {X' = after (at Short f)} (λ l cs vs y e. e) (subst (λ (g : G). Goes rule (Lex text) (after (at Short f)) end g s (such (at Coalesce f) always) s (λ us. us) (still 0)) (sym (short_line f)) (right o) ▹ y.goes) refl }

-- ---- so much of it was read

-- One operand, or two or more.
pub data Begun (text : List ℕ) (f : Flags) (s from : ℕ) (l : Label) (cs : Slots) (pass : Lexemes → Lexemes) (s' : ℕ) : Type 0 where
  operand : Stretch text (after (at Or f)) (such (at Or f) always) s nothing s' (tree l cs) pass → Begun text f s from l cs pass s'
  operands : Fails rule (Lex text) (after (at Short f)) end (such (at Or f) always) s → is_or_and l.op ≡ false → Looped text (coalesces f) (after (at Short f)) s from l cs pass s' → Begun text f s from l cs pass s'

module _ {text : List ℕ} (f : Flags) where
  module _ {s from s' : ℕ} {l : Label} {cs : Slots} {pass : Lexemes → Lexemes} where
    pub begun_alone : Begun text f s from l cs pass s' → NoSign text f s' → Stretch text (after (at Short f)) (such (at Short f) always) s nothing s' (tree l cs) pass
    begun_alone (operand x) n = or_alone f x n
    begun_alone (operands o h x) n = loop_alone f o x n

    -- behind a sign nothing can be read that may stand there
    pub begun_fails : Begun text f s from l cs pass s' → of_operand (row_of l cs) ≡ true → AllSigns text f s' → is_or_and l.op ≡ true ⊎ NoPart text f s' → Underived text (at Short f) s
    begun_fails (operand x) o z n = neither f (or_unfollowed f x o z) (loop_fails f (by_op (is_or_and l.op) refl n))
      where
        by_op : (b : Bool) → is_or_and l.op ≡ b → is_or_and l.op ≡ true ⊎ NoPart text f s' → Fails rule (Lex text) (after (at Or f)) end (foot f) s
        by_op true e n = no_foot f (no_bit_or e x)
        by_op false e (inl n) = absurd (other n e)
        by_op false e (inr n) = no_foot_behind f (as_bit_or e x) n
    begun_fails (operands a h x) o z (inl n) = absurd (other n h)
    begun_fails (operands a h x) o z (inr n) = neither f a (loop_step_fails f x o z n)

    pub begun_step : {s'' : ℕ} {r : Label} {ds : Slots} {more : Lexemes → Lexemes} → s' ≤ s'' → ((y : Lexeme) → Lex text s y → y.from ≡ from) → Begun text f s from l cs pass s' → of_operand (row_of l cs) ≡ true → AllSigns text f s' → is_or_and l.op ≡ false → PartReads text f s' s'' r ds more → Begun text f s from (linked_label (coalesced f) from s'') (tree l cs (tree r ds end)) (λ ls. pass (more ls)) s''
    begun_step h b (operand x) o z n y = operands (or_unfollowed f x o z) refl (loop_start f h (as_bit_or n x) y b)
    begun_step h b (operands a e x) o z n y = operands a refl (loop_step f h x o z y)

-- ---- nodes

-- the op of no other node
pub not_logical : (o : MadeOp) → ((x : LogicalOperator) → o ≡ made.Logical x → ⊥) → is_or_and (op_of o) ≡ false
not_logical made.None n = refl
not_logical (made.Binary x) n = of_binary x
  where
    of_binary : (x : BinaryOperator) → is_or_and (of (binary_kind x)) ≡ false
    of_binary binary.Equality = refl
    of_binary x = refl
not_logical (made.Logical x) n = absurd (n x refl)
not_logical (made.Unary x) n = of_unary x
  where
    of_unary : (x : UnaryOperator) → is_or_and (of (unary_kind x)) ≡ false
    of_unary unary.Void = refl
    of_unary x = refl
not_logical (made.Update x) n = of_update x
  where
    of_update : (x : UpdateOperator) → is_or_and (of (update_kind x)) ≡ false
    of_update update.Increment = refl
    of_update update.Decrement = refl
not_logical (made.Assignment x) n = of_assignment x
  where
    of_assignment : (x : AssignmentOperator) → is_or_and (of (assignment_kind x)) ≡ false
    of_assignment assignment.Assign = refl
    of_assignment x = refl
not_logical (made.Declaration x) n = of_declaration x
  where
    of_declaration : (x : DeclarationKind) → is_or_and (of (declaration_kind x)) ≡ false
    of_declaration declaration.Var = refl
    of_declaration x = refl
not_logical (made.Property x) n = of_property x
  where
    of_property : (x : PropertyKind) → is_or_and (property_op x) ≡ false
    of_property property.Init = refl
    of_property x = refl
not_logical (made.Method x) n = of_method x
  where
    of_method : (x : MethodKind) → is_or_and (method_op_of x) ≡ false
    of_method method.Method = refl
    of_method x = refl
not_logical (made.Number x) n = of_number x
  where
    of_number : (x : NumberBase) → is_or_and (number_op x) ≡ false
    of_number number.Decimal = refl
    of_number x = refl
not_logical (made.Bigint x) n = of_bigint x
  where
    of_bigint : (x : BigintBase) → is_or_and (of (bigint_kind x)) ≡ false
    of_bigint bigint.Decimal = refl
    of_bigint x = refl
not_logical (made.Clause x) n = of_clause x
  where
    of_clause : (x : ClauseWord) → is_or_and (of (clause_kind x)) ≡ false
    of_clause clause.With = refl
    of_clause x = refl
