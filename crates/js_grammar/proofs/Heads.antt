-- A name, or what stands in parentheses, with `=>` behind it: no operand takes that arrow.
use Rattle.std.proofs.Common.{ℕ, ◌≡◌, ◌⊎◌, inl, inr, Bool, true, false, not, cond, ◌&&◌, ◌||◌, List, [], ◌∷◌, ◌++◌, IsTrue, nat_eq, Some, None, refl, sym, ap, subst, ◌∙◌}
use Rattle.std.proofs.lemmas.Bool.{false≢true, and_parts, or_right, false_from_ne_true, or_cases}
use Rattle.js_base.specs.declared.kind.Kind.{Kind}
use Rattle.js_base.specs.declared.kind.Kind.TheVariants.{LParen, RParen, Arrow}
use Rattle.js_base.specs.Kinds.{same_kind}
use Rattle.js_base.proofs.KindLemmas.{kind_of_same}
use Rattle.js_grammar.specs.Trees.{Slots}
use Rattle.js_grammar.specs.Grammar.{Lexeme, Lexemes, next, here, Look, seen, nothing, never, lexeme, look, text, ahead, empty_slot, seq, alt, when, many, commas, such, marked, node, ended, keep, kept, Takes, is_nothing, is_lexeme, is_look, is_text, is_ahead, is_empty_slot, is_seq, is_left, is_right, is_when, is_many, is_commas, is_such, is_marked, is_node, is_ended, is_keep, is_kept}
use Rattle.js_grammar.specs.Brackets.{Bracket, plain, opens, closes, reopens, pop, stay, bracket, move, Runs, stop, go_on}
use Rattle.js_grammar.specs.Insertion.{may_bind}
use Rattle.js_grammar.specs.Parsing.{full, always}
use Rattle.js_grammar.specs.FirstSets.{first}
use Rattle.js_grammar.specs.Productions.{G, Flags, Name, Symbol, Program, Short, Coalesce, Or, And, BitOr, BitXor, BitAnd, Equality, Relational, Shift, Additive, Multiply, Exponent, Unary, Update, LeftHandSide, New, Member, Call, Chain, Links, Primary, FuncExpr, IdentifierReference, SimpleTarget}
use Rattle.js_grammar.specs.Table.{rule, rule_of}
use Rattle.js_grammar.proofs.Looks.{apart, covers, covered, not_both}
use Rattle.js_grammar.proofs.Matched.{Effect, leaves, effect, balance, Meets, brackets, kind_is, not_bracket}
use Rattle.js_grammar.proofs.BracketClaims.{rule_matches}
use Rattle.js_grammar.proofs.First.{starts, starting}
use Rattle.js_grammar.proofs.FirstClaims.{firsts}

-- With these brackets open: the lexemes up to the one behind which none is open, the place there, and what stands behind it.
pub data One : List ℕ → Lexemes → ℕ → Lexemes → Type 0 where
  the_last : {st : List ℕ} {x : Lexeme} {ls : Lexemes} → move (bracket x.kind) st ≡ Some [] → One st (next x ls) x.to ls
  and_more : {st : List ℕ} {b : ℕ} {s : List ℕ} {x : Lexeme} {ls rest : Lexemes} {e : ℕ} → move (bracket x.kind) st ≡ Some (b ∷ s) → One (b ∷ s) ls e rest → One st (next x ls) e rest

-- a name or a parenthesis
abbrev pub begins_head : Look
begins_head k w e = may_bind k || same_kind LParen k

abbrev an_arrow : Look
an_arrow k w e = same_kind Arrow k

-- ---- what can't take an arrow first

abbrev takes_no_arrow : G → Bool
takes_no_arrow nothing = true
takes_no_arrow never = true
takes_no_arrow (lexeme p) = apart p an_arrow
takes_no_arrow (look p) = true
takes_no_arrow (text p) = true
takes_no_arrow (ahead a) = true
takes_no_arrow empty_slot = true
takes_no_arrow (seq a b) = takes_no_arrow a && takes_no_arrow b
takes_no_arrow (alt a b) = takes_no_arrow a && takes_no_arrow b
takes_no_arrow (when c a) = takes_no_arrow a
takes_no_arrow (many a) = takes_no_arrow a
takes_no_arrow (commas b a) = false
takes_no_arrow (such n c) = apart (first n) an_arrow
takes_no_arrow (marked h n) = apart (first n) an_arrow
takes_no_arrow (node m a) = takes_no_arrow a
takes_no_arrow (ended rows a) = false
takes_no_arrow (keep a b) = takes_no_arrow a && takes_no_arrow b
takes_no_arrow kept = true

abbrev NoArrow : Lexemes → Type 0
NoArrow ls = same_kind Arrow (here ls).kind ≡ false

then_along : {ls mid rest : Lexemes} → (mid ≡ ls) ⊎ NoArrow ls → (rest ≡ mid) ⊎ NoArrow mid → (rest ≡ ls) ⊎ NoArrow ls
then_along (inr n) y = inr n
then_along (inl e) (inl f) = inl (f ∙ e)
then_along (inl e) (inr n) = inr (subst (λ (v : Lexemes). NoArrow v) e n)

-- nothing was taken, or what was taken first is no arrow
along : {g : G} {ks ts us : Slots} {i j : ℕ} {ls rest : Lexemes} → Takes rule g ks ts i ls us j rest → takes_no_arrow g ≡ true → (rest ≡ ls) ⊎ NoArrow ls
along is_nothing h = inl refl
along (is_lexeme {p = p} {x = x} q) h = inr (false_from_ne_true _ (λ e. not_both p an_arrow h x.kind x.newline x.escaped q e))
along (is_look q) h = inl refl
along (is_text q) h = inl refl
along (is_ahead d) h = inl refl
along is_empty_slot h = inl refl
along (is_seq {a = a} {b = b} d e) h = let z = and_parts (takes_no_arrow a) (takes_no_arrow b) h in then_along (along d z.0) (along e z.1)
along (is_left {a = a} {b = b} d) h = along d (and_parts (takes_no_arrow a) (takes_no_arrow b) h).0
along (is_right {a = a} {b = b} d) h = along d (and_parts (takes_no_arrow a) (takes_no_arrow b) h).1
along (is_when q d) h = along d h
along (is_many (is_right is_nothing)) h = inl refl
along (is_many (is_left (is_seq d e))) h = then_along (along d h) (along e h)
along (is_commas d) h = absurd (false≢true h)
along (is_such {n = n} {ls = ls} d c) h = inr (false_from_ne_true _ (λ e. not_both (first n) an_arrow h (here ls).kind (here ls).newline (here ls).escaped (covered (starts firsts.first (rule n) full) (first n) (firsts.claims n) _ _ _ (starting firsts full d refl)) e))
along (is_marked {n = n} {ls = ls} d) h = inr (false_from_ne_true _ (λ e. not_both (first n) an_arrow h (here ls).kind (here ls).newline (here ls).escaped (covered (starts firsts.first (rule n) full) (first n) (firsts.claims n) _ _ _ (starting firsts full d refl)) e))
along (is_node d) h = along d h
along (is_ended q d e) h = absurd (false≢true h)
along (is_keep {a = a} {b = b} d e) h = let z = and_parts (takes_no_arrow a) (takes_no_arrow b) h in then_along (along d z.0) (along e z.1)
along (is_kept q) h = inl refl

-- ---- one that begins with a parenthesis

under : List ℕ → List ℕ
under s = s ++ 1 ∷ []

pop_under : (b : ℕ) (s t : List ℕ) → pop b s ≡ Some t → pop b (s ++ 1 ∷ []) ≡ Some (t ++ 1 ∷ [])
unfolding pop
pop_under b [] t e = absurd (cc)
pop_under b (c ∷ s) t e = go (nat_eq b c) e
  where
    go : (v : Bool) → cond v (Some s) None ≡ Some t → cond v (Some (s ++ 1 ∷ [])) None ≡ Some (t ++ 1 ∷ [])
    go true q = let r : s ≡ t = cc in ap (λ (u : List ℕ). Some (u ++ 1 ∷ [])) r
    go false q = absurd (cc)

stay_under : (b : ℕ) (s t : List ℕ) → stay b s ≡ Some t → stay b (s ++ 1 ∷ []) ≡ Some (t ++ 1 ∷ [])
unfolding stay
stay_under b [] t e = absurd (cc)
stay_under b (c ∷ s) t e = go (nat_eq b c) e
  where
    go : (v : Bool) → cond v (Some (c ∷ s)) None ≡ Some t → cond v (Some (c ∷ s ++ 1 ∷ [])) None ≡ Some (t ++ 1 ∷ [])
    go true q = let r : c ∷ s ≡ t = cc in ap (λ (u : List ℕ). Some (u ++ 1 ∷ [])) r
    go false q = absurd (cc)

move_under : (b : Bracket) (s t : List ℕ) → move b s ≡ Some t → move b (s ++ 1 ∷ []) ≡ Some (t ++ 1 ∷ [])
unfolding move
move_under plain s t e = let r : s ≡ t = cc in ap (λ (u : List ℕ). Some (u ++ 1 ∷ [])) r
move_under (opens b) s t e = let r : b ∷ s ≡ t = cc in ap (λ (u : List ℕ). Some (u ++ 1 ∷ [])) r
move_under (closes b) s t e = pop_under b s t e
move_under (reopens b) s t e = stay_under b s t e

-- one more open bracket around
stays_open : {x : Lexeme} {ls rest : Lexemes} {e : ℕ} (st t : List ℕ) → move (bracket x.kind) st ≡ Some (t ++ 1 ∷ []) → One (t ++ 1 ∷ []) ls e rest → One st (next x ls) e rest
stays_open st [] m o = and_more m o
stays_open st (b ∷ t) m o = and_more m o

around : {s t : List ℕ} {ls mid rest : Lexemes} {e : ℕ} → Runs s ls t mid → One (t ++ 1 ∷ []) mid e rest → One (s ++ 1 ∷ []) ls e rest
around stop o = o
around (go_on {s = s} {t = t} {x = x} m r) o = stays_open (s ++ 1 ∷ []) t (move_under (bracket x.kind) s t m) (around r o)

open_moves : move (bracket LParen) [] ≡ Some (1 ∷ [])
unfolding bracket move
open_moves = refl

close_moves : move (bracket RParen) (1 ∷ []) ≡ Some []
unfolding bracket move pop
close_moves = refl

abbrev leaves_none : Effect → Bool
leaves_none (leaves []) = true
leaves_none _ = false

none_left : (e : Effect) → leaves_none e ≡ true → e ≡ leaves []
none_left (leaves []) h = refl
none_left _ h = absurd (false≢true h)

abbrev pub in_parens : G → G → Bool
in_parens (lexeme p) (seq a (lexeme q)) = covers p (kind_is LParen) && (covers q (kind_is RParen) && leaves_none (effect a []))
in_parens _ _ = false

-- what stands in parentheses
pub in_one : {a b : G} {ks ts us : Slots} {i j : ℕ} {ls rest : Lexemes} → Takes rule (seq a b) ks ts i ls us j rest → in_parens a b ≡ true → (e : ℕ) × One [] ls e rest
in_one (is_seq (is_lexeme {p = p} {x = x} c) (is_seq {a = a} {ls = ls} {mid = mid} d (is_lexeme {p = q} {x = y} f))) h =
    let z = and_parts (covers p (kind_is LParen)) _ h in
    let u = and_parts (covers q (kind_is RParen)) _ z.1 in
    let k : LParen ≡ x.kind = kind_of_same LParen x.kind (covered p (kind_is LParen) z.0 x.kind x.newline x.escaped c) in
    let l : RParen ≡ y.kind = kind_of_same RParen y.kind (covered q (kind_is RParen) u.0 y.kind y.newline y.escaped f) in
    let r : Runs [] ls [] mid = subst (λ (v : Effect). Meets v [] [] ls mid) (none_left (effect a []) u.1) (balance rule_matches d [] []) in
    (y.to, and_more (subst (λ (v : Kind). move (bracket v) [] ≡ Some (1 ∷ [])) k open_moves) (around r (the_last (subst (λ (v : Kind). move (bracket v) (1 ∷ []) ≡ Some []) l close_moves))))
in_one _ h = absurd (false≢true h)

-- ---- what goes on behind the first one

-- it may take nothing
abbrev may_be_empty : G → Bool
may_be_empty nothing = true
may_be_empty never = false
may_be_empty (lexeme p) = false
may_be_empty (look p) = true
may_be_empty (text p) = true
may_be_empty (ahead a) = true
may_be_empty empty_slot = true
may_be_empty (seq a b) = may_be_empty a && may_be_empty b
may_be_empty (alt a b) = may_be_empty a || may_be_empty b
may_be_empty (when c a) = may_be_empty a
may_be_empty (many a) = true
may_be_empty (commas b a) = may_be_empty a
may_be_empty (such n c) = false
may_be_empty (marked h n) = false
may_be_empty (node m a) = may_be_empty a
may_be_empty (ended rows a) = true
may_be_empty (keep a b) = may_be_empty a && may_be_empty b
may_be_empty kept = true

-- the nonterminals of operands that may begin with a name or a parenthesis
abbrev pub of_operands : Name → Bool
of_operands Short = true
of_operands Coalesce = true
of_operands Or = true
of_operands And = true
of_operands BitOr = true
of_operands BitXor = true
of_operands BitAnd = true
of_operands Equality = true
of_operands Relational = true
of_operands Shift = true
of_operands Additive = true
of_operands Multiply = true
of_operands Exponent = true
of_operands Unary = true
of_operands Update = true
of_operands LeftHandSide = true
of_operands New = true
of_operands Member = true
of_operands Call = true
of_operands Chain = true
of_operands Links = true
of_operands Primary = true
of_operands FuncExpr = true
of_operands IdentifierReference = true
of_operands SimpleTarget = true
of_operands _ = false

abbrev may_bind_so : Look
may_bind_so k w e = may_bind k

abbrev a_paren : Look
a_paren k w e = same_kind LParen k

abbrev cant_begin : G → Bool
cant_begin g = apart (starts first g full) begins_head

abbrev begins_no_arrow : G → Bool
begins_no_arrow g = apart (starts first g full) an_arrow

-- What begins with a name or a parenthesis takes these alone, or behind them no arrow.
abbrev goes_on : G → Bool
goes_on nothing = true
goes_on never = true
goes_on (lexeme p) = apart p a_paren
goes_on (look p) = true
goes_on (text p) = true
goes_on (ahead a) = true
goes_on empty_slot = true
goes_on (seq a b) = cant_begin (seq a b) || (in_parens a b || (goes_on a && (goes_on b && (begins_no_arrow b || takes_no_arrow b))))
goes_on (alt a b) = goes_on a && goes_on b
goes_on (when c a) = goes_on a
goes_on (many a) = false
goes_on (commas b a) = false
goes_on (such n c) = of_operands n.name || apart (first n) begins_head
goes_on (marked h n) = of_operands n.name || apart (first n) begins_head
goes_on (node m a) = goes_on a
goes_on (ended rows a) = false
goes_on (keep a b) = false
goes_on kept = true

lines_go_on : (n : Name) (f : Flags) → (not (of_operands n) || (goes_on (rule_of n f) && not (may_be_empty (rule_of n f)))) ≡ true
unfolding rule_of apart covers
lines_go_on Program f = refl
lines_go_on n f = refl

line_goes_on : (n : Symbol) → of_operands n.name ≡ true → (goes_on (rule n) ≡ true) × (may_be_empty (rule n) ≡ false)
unfolding rule
line_goes_on n h = go (of_operands n.name) h (goes_on (rule_of n.name n.flags)) (may_be_empty (rule_of n.name n.flags)) (lines_go_on n.name n.flags)
  where
    go : (a : Bool) → a ≡ true → (b c : Bool) → (not a || (b && not c)) ≡ true → (b ≡ true) × (c ≡ false)
    go true e true false h = (refl, refl)
    go true e true true h = absurd (false≢true h)
    go true e false c h = absurd (false≢true h)
    go false e b c h = absurd (false≢true e)

-- Nothing was taken; or the first name or parentheses, and nothing behind them, or no arrow.
pub data Taken (empty : Bool) (ls rest : Lexemes) : Type 0 where
  none_taken : empty ≡ true → rest ≡ ls → Taken empty ls rest
  taken : (e : ℕ) (r : Lexemes) → One [] ls e r → (rest ≡ r) ⊎ NoArrow r → Taken empty ls rest

-- behind what takes nothing; behind what was taken
then_taken : {a b : Bool} {ls mid rest : Lexemes} → Taken a ls mid → (mid ≡ ls → Taken b ls rest) → (rest ≡ mid) ⊎ NoArrow mid → Taken (a && b) ls rest
then_taken {a} {b} {ls} {mid} {rest} (none_taken e q) f g = go (f q)
  where
    go : Taken b ls rest → Taken (a && b) ls rest
    go (none_taken h r) = none_taken (rw (e, h) refl) r
    go (taken k r o h) = taken k r o h
then_taken (taken k r o (inr n)) f g = taken k r o (inr n)
then_taken (taken k r o (inl q)) f (inl h) = taken k r o (inl (h ∙ q))
then_taken (taken k r o (inl q)) f (inr n) = taken k r o (inr (subst (λ (v : Lexemes). NoArrow v) q n))

of_left : {a : Bool} (b : Bool) {ls rest : Lexemes} → Taken a ls rest → Taken (a || b) ls rest
of_left b (none_taken e q) = none_taken (rw e refl) q
of_left b (taken k r o h) = taken k r o h

of_right : (a : Bool) {b : Bool} {ls rest : Lexemes} → Taken b ls rest → Taken (a || b) ls rest
of_right a (none_taken e q) = none_taken (or_right a _ e) q
of_right a (taken k r o h) = taken k r o h

of_symbol : {a : Bool} {ls rest : Lexemes} → a ≡ false → Taken a ls rest → Taken false ls rest
of_symbol n (none_taken e q) = absurd (false≢true (sym n ∙ e))
of_symbol n (taken k r o h) = taken k r o h

-- a name is no bracket
name_plain : apart may_bind_so brackets ≡ true
unfolding apart
name_plain = refl

pub one_name : (x : Lexeme) (ls : Lexemes) → IsTrue (seen begins_head x) → same_kind LParen x.kind ≡ false → move (bracket x.kind) [] ≡ Some []
unfolding move
one_name x ls h n = rw (not_bracket x.kind x.newline x.escaped (λ q. not_both may_bind_so brackets name_plain x.kind x.newline x.escaped (alone (may_bind x.kind) (same_kind LParen x.kind) h n) q)) refl
  where
    alone : (a b : Bool) → (a || b) ≡ true → b ≡ false → a ≡ true
    alone true b h n = refl
    alone false b h n = absurd (false≢true (sym n ∙ h))

begins_along : {g : G} {ks ts us : Slots} {i j : ℕ} {ls rest : Lexemes} → Takes rule g ks ts i ls us j rest → (begins_no_arrow g || takes_no_arrow g) ≡ true → (rest ≡ ls) ⊎ NoArrow ls
begins_along {g} {ls = ls} {rest = rest} d h = go (or_cases (begins_no_arrow g) (takes_no_arrow g) h)
  where
    go : (begins_no_arrow g ≡ true) ⊎ (takes_no_arrow g ≡ true) → (rest ≡ ls) ⊎ NoArrow ls
    go (inl e) = inr (false_from_ne_true _ (λ q. not_both (starts first g full) an_arrow e (here ls).kind (here ls).newline (here ls).escaped (starting firsts full d refl) q))
    go (inr e) = along d e

no_head : {g : G} {ks ts us : Slots} {i j : ℕ} {ls rest : Lexemes} → Takes rule g ks ts i ls us j rest → cant_begin g ≡ true → IsTrue (seen begins_head (here ls)) → ⊥
no_head {g} {ls = ls} d h b = not_both (starts first g full) begins_head h (here ls).kind (here ls).newline (here ls).escaped (starting firsts full d refl) b

symbol_head : (n : Symbol) (ls : Lexemes) → apart (first n) begins_head ≡ true → IsTrue (seen (starts first (rule n) full) (here ls)) → IsTrue (seen begins_head (here ls)) → ⊥
symbol_head n ls h s b = not_both (first n) begins_head h (here ls).kind (here ls).newline (here ls).escaped (covered (starts firsts.first (rule n) full) (first n) (firsts.claims n) _ _ _ s) b

seq_head : {a b : G} {ks ts us vs : Slots} {i j k : ℕ} {ls mid rest : Lexemes} → Takes rule a ks ts i ls us j mid → Takes rule b ks us j mid vs k rest → goes_on (seq a b) ≡ true → IsTrue (seen begins_head (here ls)) → (goes_on a ≡ true → Taken (may_be_empty a) ls mid) → (goes_on b ≡ true → mid ≡ ls → Taken (may_be_empty b) ls rest) → Taken (may_be_empty a && may_be_empty b) ls rest
seq_head {a} {b} {ls = ls} {rest = rest} d e h q f g = by (cant_begin (seq a b)) (in_parens a b) refl refl h
  where
    by : (x y : Bool) → cant_begin (seq a b) ≡ x → in_parens a b ≡ y → (x || (y || (goes_on a && (goes_on b && (begins_no_arrow b || takes_no_arrow b))))) ≡ true → Taken (may_be_empty a && may_be_empty b) ls rest
    by true y u v h = absurd (no_head (is_seq d e) u q)
    by false true u v h = let z = in_one (is_seq d e) v in taken z.0 rest z.1 (inl refl)
    by false false u v h = let z = and_parts (goes_on a) _ h in let w = and_parts (goes_on b) _ z.1 in then_taken (f z.0) (g w.0) (begins_along e w.1)

by_symbol : (n : Symbol) (ls rest : Lexemes) → (of_operands n.name || apart (first n) begins_head) ≡ true → IsTrue (seen (starts first (rule n) full) (here ls)) → IsTrue (seen begins_head (here ls)) → (goes_on (rule n) ≡ true → Taken (may_be_empty (rule n)) ls rest) → Taken false ls rest
by_symbol n ls rest h s q f = by (or_cases (of_operands n.name) _ h)
  where
    by : (of_operands n.name ≡ true) ⊎ (apart (first n) begins_head ≡ true) → Taken false ls rest
    by (inl e) = let z = line_goes_on n e in of_symbol z.1 (f z.0)
    by (inr e) = absurd (symbol_head n ls e s q)

-- of whatever goes on so
pub heads : {g : G} {ks ts us : Slots} {i j : ℕ} {ls rest : Lexemes} → Takes rule g ks ts i ls us j rest → goes_on g ≡ true → IsTrue (seen begins_head (here ls)) → Taken (may_be_empty g) ls rest
heads is_nothing h b = none_taken refl refl
heads (is_lexeme {p = p} {x = x} {ls = ls} q) h b = taken x.to ls (the_last (one_name x ls b (false_from_ne_true _ (λ e. not_both p a_paren h x.kind x.newline x.escaped q e)))) (inl refl)
heads (is_look q) h b = none_taken refl refl
heads (is_text q) h b = none_taken refl refl
heads (is_ahead d) h b = none_taken refl refl
heads is_empty_slot h b = none_taken refl refl
heads (is_seq {a = a} {b = b} {ls = ls} {mid = mid} {rest = rest} d e) h q = seq_head d e h q (λ u. heads d u q) (λ u r. subst (λ (v : Lexemes). Taken (may_be_empty b) v rest) r (heads e u (subst (λ (v : Lexemes). IsTrue (seen begins_head (here v))) (sym r) q)))
heads (is_left {a = a} {b = b} d) h q = of_left (may_be_empty b) (heads d (and_parts (goes_on a) (goes_on b) h).0 q)
heads (is_right {a = a} {b = b} d) h q = of_right (may_be_empty a) (heads d (and_parts (goes_on a) (goes_on b) h).1 q)
heads (is_when c d) h q = heads d h q
heads (is_many d) h q = absurd (false≢true h)
heads (is_commas d) h q = absurd (false≢true h)
heads (is_such {n = n} {ls = ls} {rest = rest} d c) h q = by_symbol n ls rest h (starting firsts full d refl) q (λ u. heads d u q)
heads (is_marked {n = n} {ls = ls} {rest = rest} d) h q = by_symbol n ls rest h (starting firsts full d refl) q (λ u. heads d u q)
heads (is_node d) h q = heads d h q
heads (is_ended q d e) h b = absurd (false≢true h)
heads (is_keep d e) h b = absurd (false≢true h)
heads (is_kept q) h b = none_taken refl refl

-- An operand that begins with a name or a parenthesis, as any of these symbols.
pub operand_taken : (n : Symbol) → of_operands n.name ≡ true → {ks ts us : Slots} {i j : ℕ} {ls rest : Lexemes} → Takes rule (such n always) ks ts i ls us j rest → IsTrue (seen begins_head (here ls)) → (e : ℕ) × (r : Lexemes) × One [] ls e r × ((rest ≡ r) ⊎ (same_kind Arrow (here r).kind ≡ false))
operand_taken n o {ls = ls} {rest = rest} d q = go (heads d (rw o refl) q)
  where
    go : Taken false ls rest → (e : ℕ) × (r : Lexemes) × One [] ls e r × ((rest ≡ r) ⊎ (same_kind Arrow (here r).kind ≡ false))
    go (none_taken e r) = absurd (false≢true e)
    go (taken e r o h) = (e, r, o, h)
