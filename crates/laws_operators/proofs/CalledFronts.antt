-- An operand that begins with the name `async`, behind which a parenthesis or another name stands: it ends behind the word, or goes on with arguments; and behind those it ends, or goes on with something else than `=>` (CoverCallExpressionAndAsyncArrowHead, ECMA-262, 13.3).
use Rattle.std.proofs.Common.{ℕ, ◌≡◌, ◌⊎◌, inl, inr, Bool, true, false, not, ◌&&◌, ◌||◌, IsTrue, refl, sym, ap, subst, ◌∙◌, rules}
use Rattle.std.proofs.lemmas.Bool.{false≢true, and_parts, and_from, or_left, or_right, false_from_ne_true, or_cases}
use Rattle.js_base.specs.declared.kind.Kind.TheVariants.{Arrow, Async}
use Rattle.js_base.specs.Kinds.{same_kind}
use Rattle.js_grammar.specs.Trees.{Slots, end, tree, append}
use Rattle.js_grammar.specs.Grammar.{Lexeme, Lexemes, next, last, Look, Make, here, seen, nothing, never, lexeme, look, seq, alt, when, commas, such, node, label_of, Takes, is_nothing, is_lexeme, is_look, is_text, is_ahead, is_empty_slot, is_seq, is_left, is_right, is_when, is_many, is_commas, is_such, is_marked, is_node, is_ended, is_keep, is_kept}
use Rattle.js_grammar.specs.FirstSets.{first}
use Rattle.js_grammar.specs.Insertion.{Row, after_expression, after_postfix, after_body, after_yield, after_declarator, after_word, edge_is_last, own_row}
use Rattle.js_grammar.specs.Parsing.{full, always}
use Rattle.js_grammar.specs.Productions.{G, Flags, Name, Symbol, Program, Short, Coalesce, Or, And, BitOr, BitXor, BitAnd, Equality, Relational, Shift, Additive, Multiply, Exponent, Unary, Update, LeftHandSide, New, Member, Call, Chain, Links, Argument, Primary, FuncExpr, IdentifierReference, SimpleTarget}
use Rattle.js_grammar.specs.Table.{rule, rule_of, args}
use Rattle.js_grammar.specs.RightEdges.{same_row}
use Rattle.js_grammar.proofs.First.{starts, starting}
use Rattle.js_grammar.proofs.FirstClaims.{firsts}
use Rattle.js_grammar.proofs.Frame.{framed}
use Rattle.js_grammar.proofs.Heads.{begins_head, of_operands}
use Rattle.js_grammar.proofs.Looks.{apart, covered, not_both}
use Rattle.js_grammar.proofs.RightEdges.{first_row}
use Rattle.laws_operators.proofs.ParenthesizedFronts.{Same}

abbrev the_word : Look
the_word k w e = same_kind Async k

abbrev an_arrow : Look
an_arrow k w e = same_kind Arrow k

abbrev NoArrow : Lexemes → Type 0
NoArrow ls = same_kind Arrow (here ls).kind ≡ false

-- ---- the parts of a line

abbrev is_argument : Name → Bool
is_argument Argument = true
is_argument _ = false

abbrev is_args : G → Bool
is_args (seq (lexeme p) (seq (alt (commas x (such n c)) nothing) (lexeme q))) = is_argument n.name
is_args _ = false

-- it takes no lexeme
abbrev stays : G → Bool
stays (look p) = true
stays _ = false

abbrev begins_otherwise : Look → G → Bool
begins_otherwise p g = apart (starts first g full) p

-- what stands behind the word, or behind arguments: it takes no arrow first, and behind the word it takes arguments, or neither a name nor a parenthesis
abbrev goes_behind : G → Bool
goes_behind b = stays b || (begins_otherwise an_arrow b && (is_args b || begins_otherwise begins_head b))

-- it may take one lexeme alone
abbrev takes_one : G → Bool
takes_one (lexeme p) = true
takes_one (seq a b) = takes_one a && stays b
takes_one (alt a b) = takes_one a || takes_one b
takes_one (when c a) = takes_one a
takes_one (such n c) = true
takes_one (node m a) = takes_one a
takes_one _ = false

-- where the word stands it takes one tree
abbrev is_tree : G → Bool
is_tree never = true
is_tree (seq a b) = begins_otherwise the_word (seq a b)
is_tree (alt a b) = is_tree a && is_tree b
is_tree (when c a) = is_tree a
is_tree (such n c) = true
is_tree (node m a) = true
is_tree _ = false

-- a node behind which stands what may stand behind a name
abbrev named_edge : Make → Bool
named_edge m = not (edge_is_last m.kind) && same_row after_expression (own_row m.kind m.flags)

-- What begins with the word takes it alone, or it and arguments.
abbrev calls : G → Bool
calls never = true
calls (lexeme p) = true
calls (seq a b) = begins_otherwise the_word (seq a b) || (calls a && goes_behind b)
calls (alt a b) = calls a && calls b
calls (when c a) = calls a
calls (such n c) = of_operands n.name || apart (first n) the_word
calls (node m a) = calls a && (named_edge m || not (takes_one a))
calls _ = false

lines_call : (n : Name) (f : Flags) → (not (of_operands n) || (calls (rule_of n f) && is_tree (rule_of n f))) ≡ true
unfolding rule_of apart
lines_call Program f = refl
lines_call n f = refl

abbrev SameArguments : Bool → Flags → G → Type 0
SameArguments true f b = b ≡ args f
SameArguments false f b = Unit {0}

abbrev Flagged : Flags → G → Type 0
Flagged f (seq a b) = Flagged f a × SameArguments (is_args b) f b
Flagged f (alt a b) = Flagged f a × Flagged f b
Flagged f (when c a) = Flagged f a
Flagged f (node m a) = Flagged f a
Flagged f (such n c) = Same (of_operands n.name) f n.flags
Flagged f _ = Unit {0}

lines_flagged : (n : Name) (f : Flags) → of_operands n ≡ true → Flagged f (rule_of n f)
unfolding rule_of
lines_flagged Short f h = search rules
lines_flagged Coalesce f h = search rules
lines_flagged Or f h = search rules
lines_flagged And f h = search rules
lines_flagged BitOr f h = search rules
lines_flagged BitXor f h = search rules
lines_flagged BitAnd f h = search rules
lines_flagged Equality f h = search rules
lines_flagged Relational f h = search rules
lines_flagged Shift f h = search rules
lines_flagged Additive f h = search rules
lines_flagged Multiply f h = search rules
lines_flagged Exponent f h = search rules
lines_flagged Unary f h = search rules
lines_flagged Update f h = search rules
lines_flagged LeftHandSide f h = search rules
lines_flagged New f h = search rules
lines_flagged Member f h = search rules
lines_flagged Call f h = search rules
lines_flagged Chain f h = search rules
lines_flagged Links f h = search rules
lines_flagged Primary f h = search rules
lines_flagged FuncExpr f h = search rules
lines_flagged IdentifierReference f h = search rules
lines_flagged SimpleTarget f h = search rules
lines_flagged _ f h = absurd (false≢true h)

line_calls : (n : Symbol) → of_operands n.name ≡ true → (calls (rule n) ≡ true) × (is_tree (rule n) ≡ true)
unfolding rule
line_calls n h = go (of_operands n.name) h (lines_call n.name n.flags)
  where
    go : (a : Bool) → a ≡ true → {b c : Bool} → (not a || (b && c)) ≡ true → (b ≡ true) × (c ≡ true)
    go true e {b} {c} h = and_parts b c h
    go false e h = absurd (false≢true e)

line_flagged : (n : Symbol) → of_operands n.name ≡ true → Flagged n.flags (rule n)
unfolding rule
line_flagged n h = lines_flagged n.name n.flags h

-- ---- what is taken

-- The word alone was taken, up to the place j, as a tree of a name's row if it is one; or arguments behind it, and nothing behind those or no arrow.
data Called (f : Flags) (one tree : Bool) (ts : Slots) (ls : Lexemes) (j : ℕ) (rest : Lexemes) : Type 0 where
  alone : one ≡ true → (x : Lexeme) → ls ≡ next x rest → j ≡ x.to → (tree ≡ true → first_row ts ≡ after_expression) → Called f one tree ts ls j rest
  more : (x : Lexeme) (mid : Lexemes) → ls ≡ next x mid → (vs : Slots) (e : ℕ) (r : Lexemes) → Takes rule (args f) end vs x.to mid end e r → (rest ≡ r) ⊎ NoArrow r → Called f one tree ts ls j rest

-- a name or a parenthesis stands behind the first lexeme
abbrev Second : Lexemes → Type 0
Second (last x) = ⊥
Second (next x ls) = IsTrue (seen begins_head (here ls))

begun : (p : Look) {g : G} {ts us : Slots} {i j : ℕ} {ls rest : Lexemes} → Takes rule g end ts i ls us j rest → begins_otherwise p g ≡ true → IsTrue (seen p (here ls)) → ⊥
begun p {g} {ls = ls} d h b = not_both (starts first g full) p h (here ls).kind (here ls).newline (here ls).escaped (starting firsts full d refl) b

of_left : {f : Flags} {a c t : Bool} {ts : Slots} {ls rest : Lexemes} {j : ℕ} (b d : Bool) → (t ≡ true → c ≡ true) → Called f a c ts ls j rest → Called f (a || b) t ts ls j rest
of_left b d g (alone h x q e r) = alone (or_left _ _ h) x q e (λ k. r (g k))
of_left b d g (more x mid q vs e r k o) = more x mid q vs e r k o

of_right : {f : Flags} {a c t : Bool} {ts : Slots} {ls rest : Lexemes} {j : ℕ} (b d : Bool) → (t ≡ true → c ≡ true) → Called f a c ts ls j rest → Called f (b || a) t ts ls j rest
of_right b d g (alone h x q e r) = alone (or_right b _ h) x q e (λ k. r (g k))
of_right b d g (more x mid q vs e r k o) = more x mid q vs e r k o

stayed : {b : G} {ts us : Slots} {i j : ℕ} {ls rest : Lexemes} → Takes rule b end ts i ls us j rest → stays b ≡ true → (rest ≡ ls) × (j ≡ i)
stayed (is_look q) h = (refl, refl)
stayed _ h = absurd (false≢true h)

-- behind the word
behind_word : (f : Flags) (a : G) {b : G} {ts us vs : Slots} {j k : ℕ} {ls mid rest : Lexemes} (t : Bool) (x : Lexeme) → (t ≡ true → ⊥) → takes_one a ≡ true → ls ≡ next x mid → j ≡ x.to → Takes rule b end us j mid vs k rest → goes_behind b ≡ true → SameArguments (is_args b) f b → Second ls → Called f (takes_one (seq a b)) t ts ls k rest
behind_word f a {b} {ts} {us} {vs} {j} {k} {ls} {mid} {rest} t x n o q e d h u s = by (or_cases (stays b) _ h)
  where
    named : IsTrue (seen begins_head (here mid))
    named = subst Second q s

    here_args : (is_args b ≡ true) → Called f (takes_one (seq a b)) t ts ls k rest
    here_args i =
        let c : b ≡ args f = subst (λ (v : Bool). SameArguments v f b) i u in
        let z = framed (subst (λ (v : ℕ). Takes rule b end us v mid vs k rest) e d) in
        more x mid q (append z.0 end) k rest (subst (λ (g : G). Takes rule g end (append z.0 end) x.to mid end k rest) c (z.2 end)) (inl refl)

    by : (stays b ≡ true) ⊎ ((begins_otherwise an_arrow b && (is_args b || begins_otherwise begins_head b)) ≡ true) → Called f (takes_one (seq a b)) t ts ls k rest
    by (inl i) = let z = stayed d i in alone (and_from (takes_one a) (stays b) o i) x (q ∙ ap (next x) (sym z.0)) (z.1 ∙ e) (λ m. absurd (n m))
    by (inr i) = elim (or_cases (is_args b) _ (and_parts (begins_otherwise an_arrow b) _ i).1) [
      | inl c ↦ here_args c
      | inr c ↦ absurd (begun begins_head d c named)
    ]

-- behind arguments
behind_arguments : {b : G} {us vs : Slots} {j k : ℕ} {mid r rest : Lexemes} → Takes rule b end us j mid vs k rest → goes_behind b ≡ true → (mid ≡ r) ⊎ NoArrow r → (rest ≡ r) ⊎ NoArrow r
behind_arguments d h (inr n) = inr n
behind_arguments {b} {mid = mid} {r = r} {rest = rest} d h (inl q) = by (or_cases (stays b) _ h)
  where
    by : (stays b ≡ true) ⊎ ((begins_otherwise an_arrow b && (is_args b || begins_otherwise begins_head b)) ≡ true) → (rest ≡ r) ⊎ NoArrow r
    by (inl i) = inl ((stayed d i).0 ∙ q)
    by (inr i) = inr (false_from_ne_true _ (λ k. begun an_arrow d (and_parts (begins_otherwise an_arrow b) _ i).0 (subst (λ (v : Lexemes). same_kind Arrow (here v).kind ≡ true) (sym q) k)))

then_called : (f : Flags) {a b : G} {ts us vs : Slots} {i j k : ℕ} {ls mid rest : Lexemes} → Takes rule a end ts i ls us j mid → Takes rule b end us j mid vs k rest → calls (seq a b) ≡ true → Flagged f (seq a b) → IsTrue (seen the_word (here ls)) → Second ls → (calls a ≡ true → Called f (takes_one a) (is_tree a) ts ls j mid) → Called f (takes_one (seq a b)) (is_tree (seq a b)) ts ls k rest
then_called f {a} {b} {ts} {us} {vs} {i} {j} {k} {ls} {mid} {rest} d e h u q s go = by (or_cases (begins_otherwise the_word (seq a b)) _ h)
  where
    on : goes_behind b ≡ true → Called f (takes_one a) (is_tree a) ts ls j mid → Called f (takes_one (seq a b)) (is_tree (seq a b)) ts ls k rest
    on g (alone o x l m r) = behind_word f a (is_tree (seq a b)) x (λ n. begun the_word (is_seq d e) n q) o l m e g u.1 s
    on g (more x ms l vs n r t o) = more x ms l vs n r t (behind_arguments e g o)

    by : (begins_otherwise the_word (seq a b) ≡ true) ⊎ ((calls a && goes_behind b) ≡ true) → Called f (takes_one (seq a b)) (is_tree (seq a b)) ts ls k rest
    by (inl c) = absurd (begun the_word (is_seq d e) c q)
    by (inr c) = let z = and_parts (calls a) (goes_behind b) c in on z.1 (go z.0)

-- a node of it
noded_call : (f : Flags) (m : Make) (a : G) {cs us : Slots} {ls rest : Lexemes} {j : ℕ} → (named_edge m || not (takes_one a)) ≡ true → Called f (takes_one a) (is_tree a) cs ls j rest → Called f (takes_one a) true (tree (label_of m ls j rest) cs us) ls j rest
noded_call f m a {cs} {us} {ls} {rest} {j} h (alone o x q e r) = alone o x q e (λ k. by (or_cases (named_edge m) _ h))
  where
    row : (w : Row) → same_row after_expression w ≡ true → w ≡ after_expression
    row after_expression i = refl
    row after_postfix i = absurd (false≢true i)
    row after_body i = absurd (false≢true i)
    row after_yield i = absurd (false≢true i)
    row after_declarator i = absurd (false≢true i)
    row after_word i = absurd (false≢true i)

    off : (b : Bool) → not b ≡ true → b ≡ false
    off true i = absurd (false≢true i)
    off false i = refl

    by : (named_edge m ≡ true) ⊎ (not (takes_one a) ≡ true) → first_row (tree (label_of m ls j rest) cs us) ≡ after_expression
    by (inl i) = let z = and_parts (not (edge_is_last m.kind)) _ i in rw (off _ z.0) (row (own_row m.kind m.flags) z.1)
    by (inr i) = absurd (false≢true (sym (off _ i) ∙ o))
noded_call f m a h (more x mid q vs e r k o) = more x mid q vs e r k o

-- a symbol of operands
by_symbol : (f : Flags) (n : Symbol) {ts us : Slots} {ls rest : Lexemes} {j : ℕ} → first_row us ≡ first_row ts → (of_operands n.name || apart (first n) the_word) ≡ true → Same (of_operands n.name) f n.flags → IsTrue (seen (starts first (rule n) full) (here ls)) → IsTrue (seen the_word (here ls)) → (calls (rule n) ≡ true → Flagged n.flags (rule n) → Called n.flags (takes_one (rule n)) (is_tree (rule n)) ts ls j rest) → Called f true true us ls j rest
by_symbol f n {ts} {us} {ls} {rest} {j} w h u s q go = by (or_cases (of_operands n.name) _ h)
  where
    of_rule : (f : Flags) → is_tree (rule n) ≡ true → Called f (takes_one (rule n)) (is_tree (rule n)) ts ls j rest → Called f true true us ls j rest
    of_rule f t (alone o x l e r) = alone refl x l e (λ k. w ∙ r t)
    of_rule f t (more x mid l vs e r k o) = more x mid l vs e r k o

    by : (of_operands n.name ≡ true) ⊎ (apart (first n) the_word ≡ true) → Called f true true us ls j rest
    by (inl e) = let z = line_calls n e in subst (λ (v : Flags). Called v true true us ls j rest) (subst (λ (b : Bool). Same b f n.flags) e u) (of_rule n.flags z.1 (go z.0 (line_flagged n e)))
    by (inr e) = absurd (not_both (first n) the_word e (here ls).kind (here ls).newline (here ls).escaped (covered (starts firsts.first (rule n) full) (first n) (firsts.claims n) _ _ _ s) q)

called : (f : Flags) {g : G} {ts us : Slots} {i j : ℕ} {ls rest : Lexemes} → Takes rule g end ts i ls us j rest → calls g ≡ true → Flagged f g → IsTrue (seen the_word (here ls)) → Second ls → Called f (takes_one g) (is_tree g) ts ls j rest
called f (is_lexeme {x = x} c) h u q s = alone refl x refl refl (λ k. absurd (false≢true k))
called f (is_seq {a = a} {b = b} d e) h u q s = then_called f d e h u q s (λ c. called f d c u.0 q s)
called f (is_left {a = a} {b = b} d) h u q s = of_left (takes_one b) true (λ k. (and_parts (is_tree a) (is_tree b) k).0) (called f d (and_parts (calls a) (calls b) h).0 u.0 q s)
called f (is_right {a = a} {b = b} d) h u q s = of_right (takes_one a) true (λ k. (and_parts (is_tree a) (is_tree b) k).1) (called f d (and_parts (calls a) (calls b) h).1 u.1 q s)
called f (is_when c d) h u q s = called f d h u q s
called f (is_such {n = n} {ls = ls} d c) h u q s = by_symbol f n refl h u (starting firsts full d refl) q (λ k v. called n.flags d k v q s)
called f (is_node {m = m} {a = a} d) h u q s = let z = and_parts (calls a) _ h in noded_call f m a z.1 (called f d z.0 u q s)
called f is_nothing h u q s = absurd (false≢true h)
called f (is_look c) h u q s = absurd (false≢true h)
called f (is_text c) h u q s = absurd (false≢true h)
called f (is_ahead d) h u q s = absurd (false≢true h)
called f is_empty_slot h u q s = absurd (false≢true h)
called f (is_many d) h u q s = absurd (false≢true h)
called f (is_commas d) h u q s = absurd (false≢true h)
called f (is_marked d) h u q s = absurd (false≢true h)
called f (is_ended c d e) h u q s = absurd (false≢true h)
called f (is_keep d e) h u q s = absurd (false≢true h)
called f (is_kept c) h u q s = absurd (false≢true h)

-- The word alone, as a tree of a name's row; or the word and arguments, and nothing behind those or no arrow.
pub data Front (f : Flags) (ts : Slots) (x : Lexeme) (mid rest : Lexemes) : Type 0 where
  word_alone : rest ≡ mid → first_row ts ≡ after_expression → Front f ts x mid rest
  with_arguments : (vs : Slots) (e : ℕ) (r : Lexemes) → Takes rule (args f) end vs x.to mid end e r → (rest ≡ r) ⊎ (same_kind Arrow (here r).kind ≡ false) → Front f ts x mid rest

pub word_front : (n : Symbol) → of_operands n.name ≡ true → {ts us : Slots} {i j : ℕ} {x : Lexeme} {mid rest : Lexemes} → Takes rule (such n always) end ts i (next x mid) us j rest → IsTrue (seen the_word x) → IsTrue (seen begins_head (here mid)) → Front n.flags ts x mid rest
word_front n o {ts} {us} {i} {j} {x} {mid} {rest} d q s = go (called n.flags d (rw o refl) (itself (of_operands n.name)) q s)
  where
    itself : (b : Bool) → Same b n.flags n.flags
    itself true = refl
    itself false = tt

    tail_is : {y : Lexeme} {ls : Lexemes} → next x mid ≡ next y ls → (x ≡ y) × (mid ≡ ls)
    tail_is e = (cc, cc)

    go : Called n.flags true true ts (next x mid) j rest → Front n.flags ts x mid rest
    go (alone h y l e r) = word_alone (sym (tail_is l).1) (r refl)
    go (more y ls l vs e r k o) = let z = tail_is l in with_arguments vs e r (subst (λ (v : ℕ). Takes rule (args n.flags) end vs v mid end e r) (ap (λ (v : Lexeme). v.to) (sym z.0)) (subst (λ (v : Lexemes). Takes rule (args n.flags) end vs y.to v end e r) (sym z.1) k)) o
