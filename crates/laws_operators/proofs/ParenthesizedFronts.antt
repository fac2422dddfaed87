-- An operand that begins with a parenthesis has parentheses in front that are derived as arguments (CoverParenthesizedExpressionAndArrowParameterList, ECMA-262, 13.2); behind these it ends, or goes on with something else than `=>`.
use Rattle.std.proofs.Common.{ℕ, ◌≡◌, ◌⊎◌, inl, inr, Bool, true, false, not, ◌&&◌, ◌||◌, List, [], ◌∷◌, IsTrue, Some, refl, sym, ap, subst, ◌∙◌, rules}
use Rattle.std.proofs.lemmas.Bool.{false≢true, and_parts, and_from, or_right, or_cases}
use Rattle.js_base.specs.declared.kind.Kind.TheVariants.{LParen, RParen, Arrow}
use Rattle.js_base.specs.Kinds.{same_kind}
use Rattle.js_base.proofs.KindLemmas.{kind_of_same}
use Rattle.js_grammar.specs.Trees.{Label, Slots, end, tree}
use Rattle.js_grammar.specs.Grammar.{Lexeme, Lexemes, Look, here, seen, is, nothing, never, lexeme, look, text, ahead, empty_slot, seq, alt, when, many, commas, such, marked, node, ended, keep, kept, Takes, is_nothing, is_lexeme, is_look, is_text, is_ahead, is_empty_slot, is_seq, is_left, is_right, is_when, is_many, is_commas, is_such, is_marked, is_node, is_ended, is_keep, is_kept}
use Rattle.js_grammar.specs.FirstSets.{first}
use Rattle.js_grammar.specs.Follow.{after, looser}
use Rattle.js_grammar.specs.Insertion.{Row, may_bind, after_expression, after_postfix, after_body, after_yield, after_declarator, after_word}
use Rattle.js_grammar.specs.Lexed.{Lexes}
use Rattle.js_grammar.specs.Parsing.{Admits, full, always}
use Rattle.js_grammar.specs.Productions.{G, Flags, Name, Symbol, at, plus_in, Program, Expression, Assignment, Short, Coalesce, Or, And, BitOr, BitXor, BitAnd, Equality, Relational, Shift, Additive, Multiply, Exponent, Unary, Update, LeftHandSide, New, Member, Call, Chain, Links, Argument, Primary, FuncExpr, IdentifierReference, SimpleTarget}
use Rattle.js_grammar.specs.Productions.{sym as symbol}
use Rattle.js_grammar.specs.Table.{rule, rule_of, args}
use Rattle.js_grammar.specs.RightEdges.{of_operand}
use Rattle.js_grammar.proofs.Behind.{lexed_behind}
use Rattle.js_grammar.proofs.Calculus.{here_at}
use Rattle.js_grammar.proofs.First.{starts, starting}
use Rattle.js_grammar.proofs.FirstClaims.{firsts}
use Rattle.js_grammar.proofs.FollowLaws.{row_claimed}
use Rattle.js_grammar.proofs.Heads.{One, the_last, and_more, in_one, of_operands, operand_taken}
use Rattle.js_grammar.proofs.Looks.{apart, covers, covered, not_both}
use Rattle.js_grammar.proofs.RightEdges.{first_row}
use Rattle.js_grammar.proofs.Finding.{contrary}
use Rattle.laws_shared.proofs.FreeOfIn.{any_in}
use Rattle.laws_shared.proofs.Escapes.{read_plain}
use Rattle.laws_shared.specs.Answers.{Underived}
use Rattle.laws_shared.specs.Heads.{OnlyArrow}
use Rattle.laws_shared.specs.Lexemes.{Lex}
use Rattle.parse_targets.proofs.Targets.{of_assignment, target_left_hand_side}

-- ---- what stands in the parentheses of an operand, as arguments

-- arguments with commas between, and nothing behind them
abbrev Listed : Flags → ℕ → Lexemes → ℕ → Lexemes → Type 0
Listed f i ls j rest = (vs : Slots) × Takes rule (commas true (symbol Argument f)) end vs i ls end j rest

argument : (f : Flags) {ks ts us : Slots} {i j : ℕ} {ls rest : Lexemes} → Takes rule (symbol Assignment (plus_in f)) ks ts i ls us j rest → Takes rule (symbol Argument f) ks ts i ls us j rest
unfolding rule rule_of
argument f (is_such d c) = is_such (is_left (is_such d refl)) refl

listed : (f : Flags) {ks ts us : Slots} {i j : ℕ} {ls rest : Lexemes} → Takes rule (commas false (symbol Assignment (plus_in f))) ks ts i ls us j rest → Takes rule (commas true (symbol Argument f)) ks ts i ls us j rest
listed f (is_commas (is_seq d (is_right is_nothing))) = is_commas (is_seq (argument f d) (is_right is_nothing))
listed f (is_commas (is_seq d (is_left (is_seq (is_lexeme q) m)))) = is_commas (is_seq (argument f d) (is_left (is_seq (is_lexeme q) (is_left (listed f m)))))

of_expression : (f : Flags) {l : Label} {cs : Slots} {i j : ℕ} {ls rest : Lexemes} → Takes rule (rule (at Expression (plus_in f))) end (tree l cs end) i ls end j rest → Listed f i ls j rest
unfolding rule rule_of
of_expression f (is_left d) = (_, is_commas (is_seq (argument f d) (is_right is_nothing)))
of_expression f (is_right (is_node (is_seq d (is_seq (is_lexeme q) m)))) = (_, is_commas (is_seq (argument f d) (is_left (is_seq (is_lexeme q) (is_left (listed f m))))))

of_target : (f : Flags) {l : Label} {cs : Slots} {i j : ℕ} {ls rest : Lexemes} → Takes rule (rule (at SimpleTarget f)) end (tree l cs end) i ls end j rest → Listed f i ls j rest
of_target f {l} {cs} d = let x = target_left_hand_side (record { label = l; slots = cs }) d in (_, is_commas (is_seq (argument f ((of_assignment (plus_in f)).up (any_in LeftHandSide f (plus_in f) refl refl x.derived))) (is_right is_nothing)))

-- ---- where the parentheses stand

-- the parameters of a nonterminal in a line under f
abbrev pub Same : Bool → Flags → Flags → Type 0
Same true f g = g ≡ f
Same false f g = Unit {0}

abbrev Under : Flags → Name → Flags → Type 0
Under f Expression g = g ≡ plus_in f
Under f n g = Same (of_operands n) f g

same_flags : (b : Bool) (f g : Flags) → b ≡ true → Same b f g → g ≡ f
same_flags true f g h u = u
same_flags false f g h u = absurd (false≢true h)

under_flags : (n : Name) (f g : Flags) → of_operands n ≡ true → Under f n g → g ≡ f
under_flags Expression f g h u = absurd (false≢true h)
under_flags n f g h u = same_flags (of_operands n) f g h u

abbrev Flagged : Flags → G → Type 0
Flagged f (seq a b) = Flagged f a × Flagged f b
Flagged f (alt a b) = Flagged f a × Flagged f b
Flagged f (when c a) = Flagged f a
Flagged f (node m a) = Flagged f a
Flagged f (such n c) = Under f n.name n.flags
Flagged f (marked h n) = Under f n.name n.flags
Flagged f _ = Unit {0}

-- what may stand in the parentheses
abbrev is_inner : Name → Bool
is_inner Expression = true
is_inner SimpleTarget = true
is_inner _ = false

abbrev inner : G → Bool
inner (such n c) = is_inner n.name
inner (marked h n) = is_inner n.name
inner _ = false

abbrev in_parens : G → G → Bool
in_parens (lexeme p) (seq a (lexeme q)) = covers p (is LParen) && (covers q (is RParen) && inner a)
in_parens _ _ = false

abbrev a_paren : Look
a_paren k w e = same_kind LParen k

abbrev begins_otherwise : G → Bool
begins_otherwise g = apart (starts first g full) a_paren

-- What begins with a parenthesis has these parentheses in front.
abbrev has_front : G → Bool
has_front nothing = false
has_front never = true
has_front (lexeme p) = apart p a_paren
has_front (look p) = false
has_front (text p) = false
has_front (ahead a) = false
has_front empty_slot = false
has_front (seq a b) = begins_otherwise (seq a b) || (in_parens a b || has_front a)
has_front (alt a b) = has_front a && has_front b
has_front (when c a) = has_front a
has_front (many a) = false
has_front (commas b a) = false
has_front (such n c) = of_operands n.name || apart (first n) a_paren
has_front (marked h n) = of_operands n.name || apart (first n) a_paren
has_front (node m a) = has_front a
has_front (ended rows a) = false
has_front (keep a b) = false
has_front kept = false

lines_fronted : (n : Name) (f : Flags) → (not (of_operands n) || has_front (rule_of n f)) ≡ true
unfolding rule_of apart covers
lines_fronted Program f = refl
lines_fronted n f = refl

lines_flagged : (n : Name) (f : Flags) → of_operands n ≡ true → Flagged f (rule_of n f)
unfolding rule_of
lines_flagged Short f h = search rules
lines_flagged Coalesce f h = search rules
lines_flagged Or f h = search rules
lines_flagged And f h = search rules
lines_flagged BitOr f h = search rules
lines_flagged BitXor f h = search rules
lines_flagged BitAnd f h = search rules
lines_flagged Equality f h = search rules
lines_flagged Relational f h = search rules
lines_flagged Shift f h = search rules
lines_flagged Additive f h = search rules
lines_flagged Multiply f h = search rules
lines_flagged Exponent f h = search rules
lines_flagged Unary f h = search rules
lines_flagged Update f h = search rules
lines_flagged LeftHandSide f h = search rules
lines_flagged New f h = search rules
lines_flagged Member f h = search rules
lines_flagged Call f h = search rules
lines_flagged Chain f h = search rules
lines_flagged Links f h = search rules
lines_flagged Primary f h = search rules
lines_flagged FuncExpr f h = search rules
lines_flagged IdentifierReference f h = search rules
lines_flagged SimpleTarget f h = search rules
lines_flagged _ f h = absurd (false≢true h)

line_fronted : (n : Symbol) → of_operands n.name ≡ true → has_front (rule n) ≡ true
unfolding rule
line_fronted n h = go (of_operands n.name) (has_front (rule_of n.name n.flags)) h (lines_fronted n.name n.flags)
  where
    go : (a b : Bool) → a ≡ true → (not a || b) ≡ true → b ≡ true
    go true b e h = h
    go false b e h = absurd (false≢true e)

line_flagged : (n : Symbol) → of_operands n.name ≡ true → Flagged n.flags (rule n)
unfolding rule
line_flagged n h = lines_flagged n.name n.flags h

inner_symbol : (f : Flags) (n : Name) (g : Flags) → is_inner n ≡ true → Under f n g → {l : Label} {cs : Slots} {i j : ℕ} {ls rest : Lexemes} → Takes rule (rule (at n g)) end (tree l cs end) i ls end j rest → Listed f i ls j rest
inner_symbol f Expression g h u {l} {cs} {i} {j} {ls} {rest} d = of_expression f (subst (λ (v : Flags). Takes rule (rule (at Expression v)) end (tree l cs end) i ls end j rest) u d)
inner_symbol f SimpleTarget g h u {l} {cs} {i} {j} {ls} {rest} d = of_target f (subst (λ (v : Flags). Takes rule (rule (at SimpleTarget v)) end (tree l cs end) i ls end j rest) u d)
inner_symbol f _ g h u d = absurd (false≢true h)

within : (f : Flags) {a : G} {ks ts us : Slots} {i j : ℕ} {ls rest : Lexemes} → Takes rule a ks ts i ls us j rest → inner a ≡ true → Flagged f a → Listed f i ls j rest
within f (is_such {n = n} d c) h u = inner_symbol f n.name n.flags h u d
within f (is_marked {n = n} d) h u = inner_symbol f n.name n.flags h u d
within f is_nothing h u = absurd (false≢true h)
within f (is_lexeme q) h u = absurd (false≢true h)
within f (is_look q) h u = absurd (false≢true h)
within f (is_text q) h u = absurd (false≢true h)
within f (is_ahead d) h u = absurd (false≢true h)
within f is_empty_slot h u = absurd (false≢true h)
within f (is_seq d e) h u = absurd (false≢true h)
within f (is_left d) h u = absurd (false≢true h)
within f (is_right d) h u = absurd (false≢true h)
within f (is_when c d) h u = absurd (false≢true h)
within f (is_many d) h u = absurd (false≢true h)
within f (is_commas d) h u = absurd (false≢true h)
within f (is_node d) h u = absurd (false≢true h)
within f (is_ended q d e) h u = absurd (false≢true h)
within f (is_keep d e) h u = absurd (false≢true h)
within f (is_kept q) h u = absurd (false≢true h)

-- arguments from the place on
abbrev Front : Flags → ℕ → Lexemes → Type 0
Front f i ls = (vs : Slots) × (e : ℕ) × (r : Lexemes) × Takes rule (args f) end vs i ls end e r

parens_front : (f : Flags) {a b : G} {ks ts us : Slots} {i j : ℕ} {ls rest : Lexemes} → Takes rule (seq a b) ks ts i ls us j rest → in_parens a b ≡ true → Flagged f (seq a b) → Front f i ls
parens_front f (is_seq (is_lexeme {p = p} {x = x} c) (is_seq {a = a} d (is_lexeme {p = q} {x = y} {ls = rest} e))) h u =
    let z = and_parts (covers p (is LParen)) _ h in
    let v = and_parts (covers q (is RParen)) (inner a) z.1 in
    let w = within f d v.1 u.1.0 in
    (w.0, y.to, rest, is_seq (is_lexeme (covered p (is LParen) z.0 x.kind x.newline x.escaped c)) (is_seq (is_left w.1) (is_lexeme (covered q (is RParen) v.0 y.kind y.newline y.escaped e))))
parens_front f _ h u = absurd (false≢true h)

no_front : {g : G} {ks ts us : Slots} {i j : ℕ} {ls rest : Lexemes} → Takes rule g ks ts i ls us j rest → begins_otherwise g ≡ true → same_kind LParen (here ls).kind ≡ true → ⊥
no_front {g} {ls = ls} d h b = not_both (starts first g full) a_paren h (here ls).kind (here ls).newline (here ls).escaped (starting firsts full d refl) b

symbol_front : (n : Symbol) (ls : Lexemes) → apart (first n) a_paren ≡ true → IsTrue (seen (starts first (rule n) full) (here ls)) → same_kind LParen (here ls).kind ≡ true → ⊥
symbol_front n ls h s b = not_both (first n) a_paren h (here ls).kind (here ls).newline (here ls).escaped (covered (starts firsts.first (rule n) full) (first n) (firsts.claims n) _ _ _ s) b

seq_front : (f : Flags) {a b : G} {ks ts us : Slots} {i j : ℕ} {ls rest : Lexemes} → Takes rule (seq a b) ks ts i ls us j rest → has_front (seq a b) ≡ true → Flagged f (seq a b) → same_kind LParen (here ls).kind ≡ true → (has_front a ≡ true → Front f i ls) → Front f i ls
seq_front f {a} {b} {i = i} {ls = ls} d h u q go = by (begins_otherwise (seq a b)) (in_parens a b) refl refl h
  where
    by : (x y : Bool) → begins_otherwise (seq a b) ≡ x → in_parens a b ≡ y → (x || (y || has_front a)) ≡ true → Front f i ls
    by true y m o h = absurd (no_front d m q)
    by false true m o h = parens_front f d o u
    by false false m o h = go h

by_symbol : (f : Flags) (n : Symbol) (i : ℕ) (ls : Lexemes) → (of_operands n.name || apart (first n) a_paren) ≡ true → Under f n.name n.flags → IsTrue (seen (starts first (rule n) full) (here ls)) → same_kind LParen (here ls).kind ≡ true → (has_front (rule n) ≡ true → Flagged n.flags (rule n) → Front n.flags i ls) → Front f i ls
by_symbol f n i ls h u s q go = by (or_cases (of_operands n.name) _ h)
  where
    by : (of_operands n.name ≡ true) ⊎ (apart (first n) a_paren ≡ true) → Front f i ls
    by (inl e) = subst (λ (v : Flags). Front v i ls) (under_flags n.name f n.flags e u) (go (line_fronted n e) (line_flagged n e))
    by (inr e) = absurd (symbol_front n ls e s q)

front : (f : Flags) {g : G} {ks ts us : Slots} {i j : ℕ} {ls rest : Lexemes} → Takes rule g ks ts i ls us j rest → has_front g ≡ true → Flagged f g → same_kind LParen (here ls).kind ≡ true → Front f i ls
front f (is_seq d e) h u q = seq_front f (is_seq d e) h u q (λ w. front f d w u.0 q)
front f (is_left {a = a} {b = b} d) h u q = front f d (and_parts (has_front a) (has_front b) h).0 u.0 q
front f (is_right {a = a} {b = b} d) h u q = front f d (and_parts (has_front a) (has_front b) h).1 u.1 q
front f (is_when c d) h u q = front f d h u q
front f (is_node d) h u q = front f d h u q
front f (is_such {n = n} {i = i} {ls = ls} d c) h u q = by_symbol f n i ls h u (starting firsts full d refl) q (λ w v. front n.flags d w v q)
front f (is_marked {n = n} {i = i} {ls = ls} d) h u q = by_symbol f n i ls h u (starting firsts full d refl) q (λ w v. front n.flags d w v q)
front f (is_lexeme {p = p} {x = x} c) h u q = absurd (not_both p a_paren h x.kind x.newline x.escaped c q)
front f is_nothing h u q = absurd (false≢true h)
front f (is_look c) h u q = absurd (false≢true h)
front f (is_text c) h u q = absurd (false≢true h)
front f (is_ahead d) h u q = absurd (false≢true h)
front f is_empty_slot h u q = absurd (false≢true h)
front f (is_many d) h u q = absurd (false≢true h)
front f (is_commas d) h u q = absurd (false≢true h)
front f (is_ended c d e) h u q = absurd (false≢true h)
front f (is_keep d e) h u q = absurd (false≢true h)
front f (is_kept c) h u q = absurd (false≢true h)

-- ---- and what stands behind them

-- the lexemes up to the bracket that closes the first one are the same ones
same_one : {st : List ℕ} {ls r r' : Lexemes} {e e' : ℕ} → One st ls e r → One st ls e' r' → r ≡ r'
same_one (the_last p) (the_last q) = refl
same_one (the_last p) (and_more {b = b} {s = s} q o) = absurd (let z : Some [] ≡ Some (b ∷ s) = sym p ∙ q in cc)
same_one (and_more {b = b} {s = s} p o) (the_last q) = absurd (let z : Some [] ≡ Some (b ∷ s) = sym q ∙ p in cc)
same_one (and_more {b = b} {s = s} {ls = ls} p o) (and_more {b = c} {s = t} {rest = r'} {e = e'} q o') =
    let w : Some (c ∷ t) ≡ Some (b ∷ s) = sym q ∙ p in
    let z : c ∷ t ≡ b ∷ s = cc in
    same_one o (subst (λ (n : List ℕ). One n ls e' r') z o')

pub args_one : (f : Flags) {ks ts us : Slots} {i j : ℕ} {ls rest : Lexemes} → Takes rule (args f) ks ts i ls us j rest → (e : ℕ) × One [] ls e rest
unfolding rule rule_of covers
args_one f {i = i} (is_seq (is_lexeme q) d) = in_one {i = i} (is_seq (is_lexeme {p = is LParen} q) d) refl

short_flagged : (f : Flags) → Flagged f (such (at Short f) always)
short_flagged f = refl

pub parenthesized_front : (f : Flags) → {ks ts us : Slots} {i j : ℕ} {ls rest : Lexemes} → Takes rule (such (at Short f) always) ks ts i ls us j rest → same_kind LParen (here ls).kind ≡ true
    → (vs : Slots) × (e : ℕ) × (r : Lexemes) × Takes rule (args f) end vs i ls end e r × ((rest ≡ r) ⊎ (same_kind Arrow (here r).kind ≡ false))
parenthesized_front f {ls = ls} {rest = rest} d q =
    let z = front f d refl (short_flagged f) q in
    let y = operand_taken (at Short f) refl d (or_right (may_bind (here ls).kind) _ q) in
    let w : y.1 ≡ z.2 = same_one y.2 (args_one f z.3).1 in
    (z.0, z.1, z.2, z.3, subst (λ (v : Lexemes). (rest ≡ v) ⊎ (same_kind Arrow (here v).kind ≡ false)) w y.3)

-- ---- no operand

-- an arrow binds tighter than any operator
abbrev pub an_arrow : Look
an_arrow k w e = same_kind Arrow k && not e

arrow_binds : (b : Bool) (r : Row) → of_operand r ≡ true → covers an_arrow (λ k w e. not (looser 4 b r k w e)) ≡ true
unfolding covers
arrow_binds true after_expression h = refl
arrow_binds true after_postfix h = refl
arrow_binds false after_expression h = refl
arrow_binds false after_postfix h = refl
arrow_binds b after_body h = absurd (false≢true h)
arrow_binds b after_yield h = absurd (false≢true h)
arrow_binds b after_declarator h = absurd (false≢true h)
arrow_binds b after_word h = absurd (false≢true h)

-- nor may it stand behind an operand
pub no_arrow_admitted : (source : List ℕ) (f : Flags) (ts : Slots) {vs : Slots} {s j : ℕ} {ls rest : Lexemes} → Lexes (Lex source) s ls → Takes rule (such (at Short f) always) end ts s ls vs j rest → Admits (after (at Short f)) ts (here rest) → same_kind Arrow (here rest).kind ≡ true → ⊥
no_arrow_admitted source f ts {j = j} {rest = rest} m d a q =
    let l : Lex source j (here rest) = here_at (Lex source) rest (lexed_behind (Lex source) d m) in
    contrary (seen (looser 4 f.in_ (first_row ts)) (here rest)) (covered an_arrow (λ k w e. not (looser 4 f.in_ (first_row ts) k w e)) (arrow_binds f.in_ (first_row ts) (row_claimed d)) (here rest).kind (here rest).newline (here rest).escaped (and_from _ _ q (ap not (read_plain (here rest) l (sym (kind_of_same Arrow (here rest).kind q)) refl)))) a.1

-- where parentheses that are derived as arguments have `=>` behind them, no operand begins
pub no_operand_before : {text : List ℕ} {f : Flags} {s : ℕ} → OnlyArrow text f s → ((y : Lexeme) → Lex text s y → y.kind ≡ LParen) → Underived text (at Short f) s
no_operand_before {text} {f} {s} n k = record { no = λ ts vs j ls rest m d a. go ts m d a }
  where
    go : (ts : Slots) {vs : Slots} {j : ℕ} {ls rest : Lexemes} → Lexes (Lex text) s ls → Takes rule (such (at Short f) always) end ts s ls vs j rest → Admits (after (at Short f)) ts (here rest) → ⊥
    go ts {ls = ls} {rest = rest} m d a = by (same_kind Arrow (here z.2).kind) refl z.4
      where
        z : (vs : Slots) × (e : ℕ) × (r : Lexemes) × Takes rule (args f) end vs s ls end e r × ((rest ≡ r) ⊎ (same_kind Arrow (here r).kind ≡ false))
        z = parenthesized_front f d (ap (same_kind LParen) (k (here ls) (here_at (Lex text) ls m)))

        by : (b : Bool) → same_kind Arrow (here z.2).kind ≡ b → (rest ≡ z.2) ⊎ (same_kind Arrow (here z.2).kind ≡ false) → ⊥
        by false e x = n.no z.0 end z.1 ls z.2 m z.3 (ap not e, refl)
        by true e (inr x) = false≢true (sym x ∙ e)
        by true e (inl x) = no_arrow_admitted text f ts m d a (ap (λ (v : Lexemes). same_kind Arrow (here v).kind) x ∙ e)
