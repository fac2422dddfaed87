-- In core texts the two rules for leaving a semicolon out say the same: an expression ends with `++` or `--` exactly where its right edge is a postfix operator.
use Rattle.std.proofs.Common.{ℕ, zero, suc, ◌≡◌, ◌≤◌, Bool, true, false, not, cond, ◌&&◌, ◌||◌, [], ◌∷◌, refl, sym, ◌∙◌, subst, arith}
use Rattle.std.proofs.lemmas.Bool.{false≢true, and_parts, and_from, false_from_ne_true}
use Rattle.js_base.specs.declared.kind.Kind.TheVariants.{LParen, LBrack, Semicolon, Comma, Dot, Arrow, Question, QuestionDot, Plus2, Minus2, Eof}
use Rattle.js_base.specs.Kinds.{same_kind, one_of_kinds}
use Rattle.js_grammar.specs.Trees.{Label, Slots, end, tree, append}
use Rattle.js_grammar.specs.Insertion.{Row, after_expression, after_postfix, after_word, assign_operators, binary_operators, edge_is_last, own_row, empty_row, edge, goes_on, by_edge}
use Rattle.js_grammar.specs.Grammar.{Make, Lexeme, Lexemes, last, next, here, Look, seen, may_omit, never, lexeme, seq, alt, when, commas, such, node, label_of, Takes, is_nothing, is_lexeme, is_look, is_text, is_ahead, is_empty_slot, is_seq, is_left, is_right, is_when, is_many, is_commas, is_such, is_marked, is_node, is_ended, is_keep, is_kept}
use Rattle.js_grammar.specs.Productions.{Flags, Name, Symbol, G, at, always, Program, Expression, Assignment, Conditional, Short, Coalesce, Or, And, BitOr, BitXor, BitAnd, Equality, Relational, Shift, Additive, Multiply, Exponent, Unary, Update, Arrow', LeftHandSide, New, Member, Call, Chain, Links, Primary, IdentifierReference, IdentifierName, SimpleTarget}
use Rattle.js_grammar.specs.Table.{string}
use Rattle.js_grammar.specs.CoreGrammar.{core_kinds, core_of, core_rule}
use Rattle.js_grammar.specs.CoreReadings.{EndsWith, at_last, later, core_lexeme, SameOmission}
use Rattle.js_grammar.proofs.Frame.{puts}
use Rattle.js_grammar.proofs.RightEdges.{edge_append}
use Rattle.js_grammar.proofs.Looks.{covers, covered, apart, not_both}

abbrev postfix : Look
postfix k w e = one_of_kinds (Plus2 ∷ Minus2 ∷ []) k

-- What is asked of the end of a right side: that it is no postfix operator, that it is one, that the last slot's edge tells which.
data Ending : Type 0 where
  plain operator told : Ending

-- the nonterminals that never end with a postfix operator, and those whose tree tells
abbrev ends_plainly : Name → Bool
ends_plainly LeftHandSide = true
ends_plainly New = true
ends_plainly Member = true
ends_plainly Call = true
ends_plainly Chain = true
ends_plainly Links = true
ends_plainly Primary = true
ends_plainly IdentifierReference = true
ends_plainly IdentifierName = true
ends_plainly SimpleTarget = true
ends_plainly _ = false

abbrev tells : Name → Bool
tells Expression = true
tells Assignment = true
tells Arrow' = true
tells Conditional = true
tells Short = true
tells Coalesce = true
tells Or = true
tells And = true
tells BitOr = true
tells BitXor = true
tells BitAnd = true
tells Equality = true
tells Relational = true
tells Shift = true
tells Additive = true
tells Multiply = true
tells Exponent = true
tells Unary = true
tells Update = true
tells LeftHandSide = true
tells New = true
tells Member = true
tells Call = true
tells Chain = true
tells Links = true
tells Primary = true
tells IdentifierReference = true
tells _ = false

abbrev at_name : Ending → Name → Bool
at_name plain n = ends_plainly n
at_name operator n = false
at_name told n = tells n

abbrev at_lexeme : Ending → Look → Bool
at_lexeme plain p = apart p postfix
at_lexeme operator p = covers p postfix
at_lexeme told p = false

-- of a node, by the ends of its right side: where its edge is its last slot, and where it is an edge itself
abbrev by_own : Row → Bool → Bool → Bool
by_own after_expression is_plain is_operator = is_plain
by_own after_postfix is_plain is_operator = is_operator
by_own _ is_plain is_operator = false

abbrev at_node : Ending → Make → Bool → Bool → Bool → Bool
at_node plain m is_plain is_operator is_told = is_plain
at_node operator m is_plain is_operator is_told = false
at_node told m is_plain is_operator is_told = cond (edge_is_last m.kind) is_told (by_own (own_row m.kind m.flags) is_plain is_operator)

abbrev ends : Ending → G → Bool
ends m never = true
ends m (lexeme p) = at_lexeme m p
ends m (seq a b) = ends m b
ends m (alt a b) = ends m a && ends m b
ends m (when c a) = ends m a
ends m (commas b a) = not b && ends m a
ends m (such n c) = at_name m n.name
ends m (node k a) = at_node m k (ends plain a) (ends operator a) (ends told a)
ends m g = false

-- computed of each nonterminal
plainly : (n : Name) (f : Flags) → cond (ends_plainly n) (ends plain (core_of n f)) true ≡ true
unfolding core_of apart covers
plainly Program f = refl
plainly n f = refl

telling : (n : Name) (f : Flags) → cond (tells n) (ends told (core_of n f)) true ≡ true
unfolding core_of apart covers
telling Program f = refl
telling n f = refl

holds : (a b : Bool) → cond a b true ≡ true → a ≡ true → b ≡ true
holds true b h e = h
holds false b h e = absurd (false≢true e)

at_symbol : (m : Ending) (n : Symbol) → at_name m n.name ≡ true → ends m (core_rule n) ≡ true
unfolding core_rule
at_symbol plain n h = holds _ _ (plainly n.name n.flags) h
at_symbol operator n h = absurd (false≢true h)
at_symbol told n h = holds _ _ (telling n.name n.flags) h

-- what the ending tells of the last lexeme and of the right edge
abbrev Told : Ending → Slots → Slots → Lexeme → Type 0
Told plain ts us x = seen postfix x ≡ false
Told operator ts us x = seen postfix x ≡ true
Told told ts us x = us ≡ end → (o none : Row) → edge o none ts ≡ cond (seen postfix x) after_postfix after_expression

abbrev Ended : Ending → Slots → Slots → Lexemes → Lexemes → Type 0
Ended m ts us ls rest = (x : Lexeme) × EndsWith ls x rest × Told m ts us x

-- what stands last behind more lexemes stands last still
before : {g : G} {ks ts us : Slots} {i j : ℕ} {ls mid rest : Lexemes} {x : Lexeme} → Takes core_rule g ks ts i ls us j mid → EndsWith mid x rest → EndsWith ls x rest
before is_nothing e = e
before (is_lexeme p) e = later e
before (is_look p) e = e
before (is_text p) e = e
before (is_ahead d) e = e
before is_empty_slot e = e
before (is_seq d d') e = before d (before d' e)
before (is_left d) e = before d e
before (is_right d) e = before d e
before (is_when c d) e = before d e
before (is_many d) e = before d e
before (is_commas d) e = before d e
before (is_such d c) e = before d e
before (is_marked d) e = before d e
before (is_node d) e = before d e
before (is_ended q d d') e = before d (before d' e)
before (is_keep d d') e = before d (before d' e)
before (is_kept q) e = e

told_node : (b : Bool) (own none : Row) (cs : Slots) {ls rest : Lexemes} (is_plain is_operator is_told : Bool) → cond b is_told (by_own own is_plain is_operator) ≡ true
    → (is_plain ≡ true → Ended plain cs end ls rest) → (is_operator ≡ true → Ended operator cs end ls rest) → (is_told ≡ true → Ended told cs end ls rest)
    → (x : Lexeme) × EndsWith ls x rest × (cond b (edge own none cs) own ≡ cond (seen postfix x) after_postfix after_expression)
told_node true own none cs p q t h f g k = let x = k h in (x.0, x.1, x.2 refl own none)
told_node false after_expression none cs p q t h f g k = let x = f h in (x.0, x.1, rw x.2 refl)
told_node false after_postfix none cs p q t h f g k = let x = g h in (x.0, x.1, rw x.2 refl)
told_node false _ none cs p q t h f g k = absurd (false≢true h)

-- only the edge of the last slot counts
told_behind : (m : Ending) (x : Lexeme) (ps us vs : Slots) {ts : Slots} → ts ≡ append ps us → Told m us vs x → Told m ts vs x
told_behind plain x ps us vs e t = t
told_behind operator x ps us vs e t = t
told_behind told x ps us vs e t = λ q o none. subst (λ v. edge o none v ≡ cond (seen postfix x) after_postfix after_expression) (sym e) (edge_append o none ps us ∙ t q (edge o none ps) none)

behind : (m : Ending) {a : G} {ks ts us : Slots} (vs : Slots) {i j : ℕ} {ls mid rest : Lexemes} → Takes core_rule a ks ts i ls us j mid → Ended m us vs mid rest → Ended m ts vs ls rest
behind m {us = us} vs d x = let p = puts d in (x.0, before d x.1, told_behind m x.0 p.0 us vs p.1 x.2)

of_tree : (m : Ending) (l : Label) (cs us : Slots) {ls rest : Lexemes} → Ended m (tree l cs end) end ls rest → Ended m (tree l cs us) us ls rest
of_tree plain l cs us x = x
of_tree operator l cs us x = x
of_tree told l cs us x = (x.0, x.1, λ q o none. subst (λ v. edge o none (tree l cs v) ≡ cond (seen postfix x.0) after_postfix after_expression) (sym q) (x.2 refl o none))

at_last_lexeme : (m : Ending) (p : Look) (x : Lexeme) (ts : Slots) {ls : Lexemes} → seen p x ≡ true → at_lexeme m p ≡ true → Ended m ts ts (next x ls) ls
at_last_lexeme plain p x ts h e = (x, at_last, false_from_ne_true (seen postfix x) (not_both p postfix e x.kind x.newline x.escaped h))
at_last_lexeme operator p x ts h e = (x, at_last, covered p postfix e x.kind x.newline x.escaped h)
at_last_lexeme told p x ts h e = absurd (false≢true e)

ending : (m : Ending) {g : G} {ks ts us : Slots} {i j : ℕ} {ls rest : Lexemes} → Takes core_rule g ks ts i ls us j rest → ends m g ≡ true → Ended m ts us ls rest
ending m is_nothing h = absurd (false≢true h)
ending m (is_lexeme {p = p} {ts = ts} {x = x} q) h = at_last_lexeme m p x ts q h
ending m (is_look p) h = absurd (false≢true h)
ending m (is_text p) h = absurd (false≢true h)
ending m (is_ahead d) h = absurd (false≢true h)
ending m is_empty_slot h = absurd (false≢true h)
ending m (is_seq {vs = vs} d e) h = behind m vs d (ending m e h)
ending m (is_left {a = a} {b = b} d) h = ending m d (and_parts (ends m a) (ends m b) h).0
ending m (is_right {a = a} {b = b} d) h = ending m d (and_parts (ends m a) (ends m b) h).1
ending m (is_when c d) h = ending m d h
ending m (is_many d) h = absurd (false≢true h)
ending m (is_commas {b = true} d) h = absurd (false≢true h)
ending m (is_commas {b = false} (is_seq d (is_right is_nothing))) h = ending m d h
ending m (is_commas {b = false} {us = us} (is_seq d (is_left (is_seq (is_lexeme c) e)))) h = behind m us d (let x = ending m e h in (x.0, later x.1, x.2))
ending m (is_such {n = n} {l = l} {cs = cs} {us = us} d c) h = of_tree m l cs us (ending m d (at_symbol m n h))
ending m (is_marked d) h = absurd (false≢true h)
ending plain (is_node d) h = ending plain d h
ending operator (is_node d) h = absurd (false≢true h)
ending told (is_node {m = m} {a = a} {cs = cs} {us = us} {j = j} {ls = ls} {rest = rest} d) h =
    let x = told_node (edge_is_last m.kind) (own_row m.kind m.flags) (empty_row m.kind) cs (ends plain a) (ends operator a) (ends told a) h (λ e. ending plain d e) (λ e. ending operator d e) (λ e. ending told d e) in
    of_tree told (label_of m ls j rest) cs us (x.0, x.1, λ q o none. x.2)
ending m (is_ended q d e) h = absurd (false≢true h)
ending m (is_keep d e) h = absurd (false≢true h)
ending m (is_kept q) h = absurd (false≢true h)

-- One lexeme stands last.
abbrev count : Lexemes → ℕ
count (last x) = zero
count (next x ls) = suc (count ls)

fewer : {ls rest : Lexemes} {x : Lexeme} → EndsWith ls x rest → suc (count rest) ≤ count ls
fewer at_last = omega arith
fewer (later e) = let h = fewer e in omega arith

one_last : {ls rest rest' : Lexemes} {x y : Lexeme} → EndsWith ls x rest → EndsWith ls y rest' → count rest ≡ count rest' → x ≡ y
one_last at_last at_last q = refl
one_last at_last (later e) q = let h = fewer e in absurd (omega arith)
one_last (later e) at_last q = let h = fewer e in absurd (omega arith)
one_last (later e) (later e') q = one_last e e' q

-- The two rules, by whether a postfix operator stands last.
abbrev by_lexemes : Bool → Look
by_lexemes b k w e = same_kind Eof k || (w && (not (same_kind Semicolon k) && (one_of_kinds (Plus2 ∷ Minus2 ∷ []) k || not (one_of_kinds binary_operators k || (one_of_kinds assign_operators k || (one_of_kinds (Question ∷ Comma ∷ Dot ∷ QuestionDot ∷ Arrow ∷ []) k || (one_of_kinds (LParen ∷ LBrack ∷ []) k && not b)))))))

abbrev by_row : Bool → Look
by_row b = may_omit (goes_on (cond b after_postfix after_expression))

abbrev of_core : Look → Look
of_core p k w e = p k w e && (one_of_kinds core_kinds k && not e)

to_row : (b : Bool) → covers (of_core (by_lexemes b)) (by_row b) ≡ true
unfolding covers
to_row true = refl
to_row false = refl

to_lexemes : (b : Bool) → covers (of_core (by_row b)) (by_lexemes b) ≡ true
unfolding covers
to_lexemes true = refl
to_lexemes false = refl

pub one_truth : (a b : Bool) → (a ≡ true → b ≡ true) → (b ≡ true → a ≡ true) → a ≡ b
one_truth true b f g = sym (f refl)
one_truth false true f g = g refl
one_truth false false f g = refl

same_rule : (b : Bool) (y : Lexeme) → core_lexeme y ≡ true → seen (by_lexemes b) y ≡ seen (by_row b) y
same_rule b y c = one_truth _ _ (λ q. covered (of_core (by_lexemes b)) (by_row b) (to_row b) y.kind y.newline y.escaped (and_from _ _ q c)) (λ q. covered (of_core (by_row b)) (by_lexemes b) (to_lexemes b) y.kind y.newline y.escaped (and_from _ _ q c))

core_omission : (g : G) → ends told g ≡ true → SameOmission g
core_omission g h ts i j ls rest x d e c =
    let z = ending told d h in
    same_rule (seen postfix x) (here rest) c
    ∙ subst (λ v. seen (by_row (seen postfix v)) (here rest) ≡ seen (may_omit (by_edge (here ls) ts)) (here rest)) (one_last z.1 e refl) (sym (rw (z.2 refl after_word after_word) refl))

pub core_expressions : (f : Flags) → SameOmission (such (at Expression f) always)
core_expressions f = core_omission (such (at Expression f) always) refl

pub core_directives : SameOmission string
unfolding apart
core_directives = core_omission string refl
