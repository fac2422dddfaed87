-- How tight the lexemes that are read bind what stands before them: as their power as operators says, or hardly at all.
use Rattle.std.proofs.Common.{ℕ, ◌≡◌, ◌≤◌, ◌<◌, ◌+◌, Bool, true, false, not, cond, ◌&&◌, ◌||◌, IsTrue, List, [], ◌∷◌, refl, sym, ap, arith, nat_lt, ◌∙◌}
use Rattle.std.proofs.lemmas.Bool.{false≢true, and_parts, and_from, or_left, or_right, lt-ltb, ltb-true, eqb-true}
use Rattle.std.specs.Prelude.{nat_eq}
use Rattle.js_base.specs.declared.kind.Kind.{Kind}
use Rattle.js_base.specs.declared.kind.Kind.TheVariants.{Plus, Minus, Star, Slash, Percent, Eq2, Eq3, Neq, Neq2, LAngle, LtEq, RAngle, GtEq, ShiftLeft, ShiftRight, ShiftRight3, Amp, Amp2, Pipe, Pipe2, Caret, In, Instanceof}
use Rattle.js_base.specs.Kinds.{one_of_kinds}
use Rattle.js_grammar.specs.Grammar.{Lexeme, Look, seen}
use Rattle.js_grammar.specs.Insertion.{Row, after_expression, after_postfix, after_body, after_yield, after_declarator, after_word}
use Rattle.js_grammar.specs.Follow.{tight, looser}
use Rattle.js_grammar.specs.Levels.{operators_of, node_at, binds as binding}
use Rattle.js_grammar.specs.Trees.{binary_expression, logical_expression}
use Rattle.js_grammar.specs.RightEdges.{of_operand}
use Rattle.js_grammar.proofs.Looks.{covers, covered}
use Rattle.js_grammar.proofs.Towers.{OneOf, head, later}
use Rattle.laws_shared.specs.Lexemes.{Lex, Plain, is_plain, is_read, other_goals, is_read_kind}
use Rattle.laws_shared.specs.Answers.{beside}
use Rattle.laws_shared.specs.Operators.{power_of}
use Rattle.laws_shared.proofs.Paths.{reads}

-- the lexemes that are read by the plain goal
abbrev pub plain_reads : Look
plain_reads k w e = reads k w e && not (one_of_kinds other_goals k)

-- What binds less than n, and more than m at most by these kinds, binds less than m; or it may stand behind `async` alone.
abbrev pub narrowing : ℕ → ℕ → List Kind → Bool → Row → Look
narrowing n m ks b r k w e = not (nat_lt (tight b r k w e) n) || (nat_lt (tight b r k w e) m || (beside k w e || one_of_kinds ks k))

narrowed : (a c d o : Bool) → (not a || (c || (d || o))) ≡ true → o ≡ false → (a || d) ≡ true → (c || d) ≡ true
narrowed a c true o h n x = or_right c true refl
narrowed true true false o h n x = refl
narrowed true false false o h n x = absurd (false≢true (sym n ∙ h))
narrowed false c false o h n x = absurd (false≢true x)

pub narrows : (n m : ℕ) (ks : List Kind) (b : Bool) (r : Row) → covers plain_reads (narrowing n m ks b r) ≡ true → (y : Lexeme) → IsTrue (is_plain y) → one_of_kinds ks y.kind ≡ false → IsTrue (seen (looser n b r) y || seen beside y) → IsTrue (seen (looser m b r) y || seen beside y)
narrows n m ks b r c y h o x = narrowed (seen (looser n b r) y) (seen (looser m b r) y) (seen beside y) (one_of_kinds ks y.kind) (covered plain_reads (narrowing n m ks b r) c y.kind y.newline y.escaped h) o x

-- What is no link binds by its power as an operator between two operands, which a word with an escape isn't; or hardly at all.
abbrev by_power : Bool → Row → Look
by_power b r k w e = not (nat_lt (tight b r k w e) 15) || (not (nat_lt (cond e 0 (power_of b k)) (tight b r k w e)) || (nat_lt (tight b r k w e) 5 || beside k w e))

by_power_at : (b : Bool) (r : Row) → of_operand r ≡ true → covers plain_reads (by_power b r) ≡ true
unfolding covers
by_power_at true after_expression h = refl
by_power_at true after_postfix h = refl
by_power_at false after_expression h = refl
by_power_at false after_postfix h = refl
by_power_at b after_body h = absurd (false≢true h)
by_power_at b after_yield h = absurd (false≢true h)
by_power_at b after_declarator h = absurd (false≢true h)
by_power_at b after_word h = absurd (false≢true h)

less_or : (t p n : ℕ) (c d : Bool) → nat_lt t 5 ≡ d → (not (nat_lt t 15) || (not (nat_lt p t) || (d || c))) ≡ true → (nat_lt t 15 || c) ≡ true → p < n → 5 ≤ n → (nat_lt t n || c) ≡ true
less_or t p n true d q h x l k = or_right (nat_lt t n) true refl
less_or t p n false true q h x l k = or_left (nat_lt t n) false (lt-ltb t n (let i = ltb-true t 5 q in omega arith))
less_or t p n false false q h x l k = go (nat_lt t 15) (nat_lt p t) refl h x
  where
    go : (a b : Bool) → nat_lt p t ≡ b → (not a || (not b || false)) ≡ true → (a || false) ≡ true → (nat_lt t n || false) ≡ true
    go true true e h x = absurd (false≢true h)
    go true false e h x = or_left (nat_lt t n) false (lt-ltb t n (let i : t ≤ p = grind (arith, e) in omega arith))
    go false b e h x = absurd (false≢true x)

-- what is no link, and binds by less than n as an operator, stands behind an operand of that level
pub stops_by_power : (n : ℕ) (b : Bool) (r : Row) → of_operand r ≡ true → (y : Lexeme) → IsTrue (is_plain y) → IsTrue (seen (looser 15 b r) y || seen beside y) → cond y.escaped 0 (power_of b y.kind) < n → 5 ≤ n → IsTrue (seen (looser n b r) y || seen beside y)
stops_by_power n b r o y h x l k = less_or (tight b r y.kind y.newline y.escaped) (cond y.escaped 0 (power_of b y.kind)) n (beside y.kind y.newline y.escaped) (nat_lt (tight b r y.kind y.newline y.escaped) 5) refl (covered plain_reads (by_power b r) (by_power_at b r o) y.kind y.newline y.escaped h) x l k

-- The level of an operator.
pub record Level (b : Bool) (k : Kind) : Type 0 where
  pub level : ℕ
  pub is : power_of b k ≡ level + 5
  pub top : level ≤ 9
  pub among : OneOf k (operators_of b level)
  pub node : node_at level ≡ cond (one_of_kinds (Pipe2 ∷ Amp2 ∷ []) k) logical_expression binary_expression

level_by : (b : Bool) (k : Kind) (q : ℕ) → power_of b k ≡ q + 5 → q ≤ 9 → node_at q ≡ cond (one_of_kinds (Pipe2 ∷ Amp2 ∷ []) k) logical_expression binary_expression → OneOf k (operators_of b q) → Level b k
level_by b k q e t n i = record { level = q; is = e; top = t; among = i; node = n }

pub level_of : (b : Bool) (k : Kind) → 1 ≤ power_of b k → Level b k
level_of b Pipe2 h = level_by b Pipe2 0 refl (omega arith) refl head
level_of b Amp2 h = level_by b Amp2 1 refl (omega arith) refl head
level_of b Pipe h = level_by b Pipe 2 refl (omega arith) refl head
level_of b Caret h = level_by b Caret 3 refl (omega arith) refl head
level_of b Amp h = level_by b Amp 4 refl (omega arith) refl head
level_of b Eq2 h = level_by b Eq2 5 refl (omega arith) refl head
level_of b Neq h = level_by b Neq 5 refl (omega arith) refl (later head)
level_of b Eq3 h = level_by b Eq3 5 refl (omega arith) refl (later (later head))
level_of b Neq2 h = level_by b Neq2 5 refl (omega arith) refl (later (later (later head)))
level_of b LAngle h = level_by b LAngle 6 refl (omega arith) refl head
level_of b RAngle h = level_by b RAngle 6 refl (omega arith) refl (later head)
level_of b LtEq h = level_by b LtEq 6 refl (omega arith) refl (later (later head))
level_of b GtEq h = level_by b GtEq 6 refl (omega arith) refl (later (later (later head)))
level_of b Instanceof h = level_by b Instanceof 6 refl (omega arith) refl (later (later (later (later head))))
level_of true In h = level_by true In 6 refl (omega arith) refl (later (later (later (later (later head)))))
level_of false In h = absurd (omega arith)
level_of b ShiftLeft h = level_by b ShiftLeft 7 refl (omega arith) refl head
level_of b ShiftRight h = level_by b ShiftRight 7 refl (omega arith) refl (later head)
level_of b ShiftRight3 h = level_by b ShiftRight3 7 refl (omega arith) refl (later (later head))
level_of b Plus h = level_by b Plus 8 refl (omega arith) refl head
level_of b Minus h = level_by b Minus 8 refl (omega arith) refl (later head)
level_of b Star h = level_by b Star 9 refl (omega arith) refl head
level_of b Slash h = level_by b Slash 9 refl (omega arith) refl (later head)
level_of b Percent h = level_by b Percent 9 refl (omega arith) refl (later (later head))
level_of b _ h = absurd (omega arith)

-- what is read by the plain goal is read
pub plain_is_read : (y : Lexeme) → IsTrue (is_plain y) → IsTrue (is_read y)
plain_is_read y h = (and_parts (is_read y) (not (one_of_kinds other_goals y.kind)) h).0

pub plain_lex : {text : List ℕ} {s : ℕ} {y : Lexeme} → Plain text s y → Lex text s y
plain_lex {y = y} l = (l.0, plain_is_read y l.1)

pub plain_is_none : (y : Lexeme) → IsTrue (is_plain y) → one_of_kinds other_goals y.kind ≡ false
plain_is_none y h = go (one_of_kinds other_goals y.kind) (and_parts (is_read y) (not (one_of_kinds other_goals y.kind)) h).1
  where
    go : (x : Bool) → not x ≡ true → x ≡ false
    go true q = absurd (false≢true q)
    go false q = refl

pub plain_so : (y : Lexeme) → IsTrue (is_read y) → one_of_kinds other_goals y.kind ≡ false → IsTrue (is_plain y)
plain_so y h r = and_from _ _ h (ap not r)

-- operators are read, and none is what may stand behind `async` alone
abbrev binds : Bool → Look
binds b k w e = nat_lt 0 (power_of b k) && not e

abbrev is_operator : Look
is_operator k w e = is_read_kind k && not (beside k w e)

binds_at : (b : Bool) → covers (binds b) is_operator ≡ true
unfolding covers
binds_at true = refl
binds_at false = refl

pub operator_read : (b : Bool) (k : Kind) (w : Bool) → 1 ≤ power_of b k → (is_read_kind k ≡ true) × (not (beside k w false) ≡ true)
operator_read b k w h = and_parts _ _ (covered (binds b) is_operator (binds_at b) k w false (and_from _ _ (lt-ltb 0 (power_of b k) (omega arith)) refl))

-- of what is read, only operators of a level bind, or what binds less or more than all of them
abbrev as_listed : Bool → Look
as_listed b k w e = nat_lt (binding b k) 5 || (nat_lt 14 (binding b k) || nat_eq (binding b k) (power_of b k))

listed_at : (b : Bool) → covers plain_reads (as_listed b) ≡ true
unfolding covers
listed_at true = refl
listed_at false = refl

pub power_listed : (b : Bool) (y : Lexeme) → IsTrue (is_plain y) → 5 ≤ binding b y.kind → binding b y.kind ≤ 14 → binding b y.kind ≡ power_of b y.kind
power_listed b y h l m = go (nat_lt (binding b y.kind) 5) (nat_lt 14 (binding b y.kind)) refl refl (covered plain_reads (as_listed b) (listed_at b) y.kind y.newline y.escaped h)
  where
    go : (c d : Bool) → nat_lt (binding b y.kind) 5 ≡ c → nat_lt 14 (binding b y.kind) ≡ d → (c || (d || nat_eq (binding b y.kind) (power_of b y.kind))) ≡ true → binding b y.kind ≡ power_of b y.kind
    go true d e g x = absurd (let i = ltb-true (binding b y.kind) 5 e in omega arith)
    go false true e g x = absurd (let i = ltb-true 14 (binding b y.kind) g in omega arith)
    go false false e g x = eqb-true (binding b y.kind) (power_of b y.kind) x

-- what is an operator where `in` is none is one where it is
abbrev binds_anywhere : Look
binds_anywhere k w e = nat_lt 0 (power_of true k)

abbrev binds_here : Bool → Look
binds_here b k w e = nat_lt 0 (power_of b k)

anywhere_at : (b : Bool) → covers (binds_here b) binds_anywhere ≡ true
unfolding covers
anywhere_at true = refl
anywhere_at false = refl

pub power_anywhere : (b : Bool) (k : Kind) → 1 ≤ power_of b k → 1 ≤ power_of true k
power_anywhere b k h = let i = ltb-true 0 (power_of true k) (covered (binds_here b) binds_anywhere (anywhere_at b) k false false (lt-ltb 0 (power_of b k) (omega arith))) in omega arith
