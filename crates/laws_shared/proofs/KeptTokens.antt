-- Of the comments, the white space and the tokens that a lexer keeps: what one lexeme on adds, and that the current token is kept last.
use Rattle.std.proofs.Common.{ℕ, ◌+◌, ◌-◌, ◌≡◌, Bool, true, false, not, cond, ◌&&◌, ◌||◌, List, [], ◌∷◌, ◌++◌, length, take, refl, sym, ap, subst, arith, ◌∙◌, length-append}
use Rattle.std.specs.Prelude.{Some}
use Rattle.std.proofs.lemmas.Bool.{false≢true}
use Rattle.std.proofs.Math.Seq.{take-append_seam}
use Rattle.js_base.specs.declared.kind.Kind.{Kind}
use Rattle.js_base.specs.declared.kind.Kind.TheVariants.{Eof, HashbangComment, Undetermined, RAngle, GtEq, ShiftRight, ShiftRightEq, ShiftRight3, ShiftRight3Eq}
use Rattle.js_base.specs.declared.token.Token.{Token}
use Rattle.js_base.specs.Kinds.{same_kind}
use Rattle.js_base.specs.part_memory.Lists.{replaced}
use Rattle.js_base.proofs.KindLemmas.{kind_of_same}
use Rattle.js_grammar.specs.Characters.{width}
use Rattle.js_grammar.specs.Grammar.{Lexeme}
use Rattle.js_grammar.specs.Lexemes.{LexicalGoal, division, kind_in, plain_kind}
use Rattle.js_grammar.specs.Longest.{joined}
use Rattle.js_grammar.proofs.Alike.{lex-same, stands-same}
use Rattle.js_cursor.specs.js_lex.Comments.{each_at, comment_at, irregular_at}
use Rattle.js_cursor.specs.js_lex.Reading.{cut, is_right_angle, is_kept, kept_token, relexed, GivesLexeme, GivesNext}
use Rattle.js_cursor.specs.js_lex.States.{State}
use Rattle.js_cursor.proofs.js_lex.Again.{cut_same}
use Rattle.js_cursor.proofs.part_words.KindsOfLexemes.{plain_no_hashbang}
use Rattle.js_cursor.specs.Moves.{is_last}
use Rattle.js_cursor.specs.Parsers.{Parser}
use Rattle.js_cursor.proofs.StillKept.{same_front, same_length}
use Rattle.laws_shared.specs.Lexemes.{TriviaKept, kept_before, KeptLast}
use Rattle.laws_shared.specs.States.{IsPlain, whole, sign, nothing as no_lexeme}

-- no lexeme of the plain goal is a hashbang comment
pub no_plain_hashbang : {text : List ℕ} {p : Parser} → IsPlain text p → p.token.kind ≡ HashbangComment → ⊥
no_plain_hashbang (whole c n x) h = go x.stands.lex.word x.stands.lex.rest (subst (λ (g : LexicalGoal). kind_in g x.stands.lex.word x.stands.lex.rest ≡ Some HashbangComment) x.stands.of_goal (x.stands.lex.lexeme.kind ∙ ap Some (sym x.tells.kind ∙ h)))
  where
    go : (w rest : List ℕ) → plain_kind w rest ≡ Some HashbangComment → ⊥
    go [] [] e = cc
    go [] (c ∷ rest) e = cc
    go (c ∷ cs) rest e = false≢true (sym (plain_no_hashbang c cs rest HashbangComment e))
no_plain_hashbang (sign c k x) h = let z : RAngle ≡ HashbangComment = sym k ∙ h in cc
no_plain_hashbang (no_lexeme c k n) h = let z : Undetermined ≡ HashbangComment = sym k ∙ h in cc

-- a token of a lexeme but the end is one that counts
pub counts_here : {text : List ℕ} {p : Parser} → IsPlain text p → is_last p.token.kind ≡ false → is_kept p.token.kind ≡ true
counts_here {p = p} a n = three (same_kind HashbangComment p.token.kind) (same_kind Eof p.token.kind) (same_kind Undetermined p.token.kind) none n
  where
    three : (a b c : Bool) → a ≡ false → (b || c) ≡ false → not (a || (b || (c || false))) ≡ true
    three true b c h k = absurd (false≢true (sym h))
    three false true c h k = absurd (false≢true (sym k))
    three false false true h k = absurd (false≢true (sym k))
    three false false false h k = refl

    by : (b : Bool) → same_kind HashbangComment p.token.kind ≡ b → b ≡ false
    by false e = refl
    by true e = absurd (no_plain_hashbang a (sym (kind_of_same HashbangComment p.token.kind e)))

    none : same_kind HashbangComment p.token.kind ≡ false
    none = by (same_kind HashbangComment p.token.kind) refl

angle_counts : (k : Kind) → is_right_angle k ≡ true → is_kept k ≡ true
angle_counts RAngle h = refl
angle_counts GtEq h = refl
angle_counts ShiftRight h = refl
angle_counts ShiftRightEq h = refl
angle_counts ShiftRight3 h = refl
angle_counts ShiftRight3Eq h = refl
angle_counts _ h = absurd (false≢true h)

-- so is one that begins with `>`
pub cut_counts : (y : Lexeme) → (cut y).kind ≡ RAngle → is_kept y.kind ≡ true
cut_counts y h = by (is_right_angle y.kind) refl
  where
    by : (b : Bool) → is_right_angle y.kind ≡ b → is_kept y.kind ≡ true
    by true e = angle_counts y.kind e
    by false e = subst (λ (k : Kind). is_kept k ≡ true) (sym (ap (λ (z : Lexeme). z.kind) (sym (cut_same y e)) ∙ h)) refl

-- and what is told whole in place of it
pub completed_counts : {text : List ℕ} {s : ℕ} {t u : Token} → t.kind ≡ RAngle → GivesLexeme division cut text s t → GivesLexeme division (λ y. y) text s u → is_kept u.kind ≡ true
completed_counts k x z =
    let same = lex-same x.stands.lex z.stands.lex (x.stands.of_goal ∙ sym z.stands.of_goal) in
    subst (λ (v : Kind). is_kept v ≡ true) (ap (λ (y : Lexeme). y.kind) same ∙ sym z.tells.kind) (cut_counts x.lexeme (sym x.tells.kind ∙ k))

-- ---- the token kept last

seam : {X : Type 0} (n : ℕ) (ts us : List X) → n ≡ length ts → take n (ts ++ us) ≡ ts
seam n ts us e = ap (λ (m : ℕ). take m (ts ++ us)) e ∙ take-append_seam ts us

before_one : (ts : List Token) (c : Bool) (t : Token) → take (length (ts ++ elim c as (λ _. List Token) [ true ↦ t ∷ [] | false ↦ [] ]) - cond c 1 0) (ts ++ elim c as (λ _. List Token) [ true ↦ t ∷ [] | false ↦ [] ]) ≡ ts
before_one ts true t = seam (length (ts ++ t ∷ []) - 1) ts (t ∷ []) (let l = length-append ts (t ∷ []) in omega arith)
before_one ts false t = seam (length (ts ++ []) - 0) ts [] (let l = length-append ts [] in omega arith)

abbrev before_in : Bool → Token → List Token → List Token
before_in keeps t ts = take (length ts - cond (keeps && is_kept t.kind) 1 0) ts

-- of the next token
pub before_next : {g : _} {a b : State} {t : Token} → GivesNext g a b t → kept_before b t ≡ a.kept.tokens
before_next {a = a} {b} {t} n = (λ i. before_in (n.same.keeps_tokens i) t (n.grows.tokens_grow i)) ∙ before_one a.kept.tokens (a.keeps_tokens && is_kept t.kind) t

pub next_kept_last : {g : _} {a b : State} {t : Token} → GivesNext g a b t → KeptLast b t
next_kept_last {a = a} {b} {t} n = n.grows.tokens_grow ∙ (λ i. sym (before_next n) i ++ kept_token (sym n.same.keeps_tokens i) t)

-- of a token that is read again
again_before_in : (keeps : Bool) (ts : List Token) (t u : Token) → is_kept t.kind ≡ true → is_kept u.kind ≡ true → before_in keeps u (relexed keeps ts u) ≡ before_in keeps t ts
again_before_in false ts t u h k = refl
again_before_in true ts t u h k =
    let n : relexed true ts u ≡ replaced ts u = ap (λ (b : Bool). elim b as (λ _. List Token) [ true ↦ replaced ts u | false ↦ ts ]) k in
    (λ i. take (length (n i) - cond (k i) 1 0) (n i)) ∙ (same_front ts u (length (replaced ts u) - 1) (let l = same_length ts u in omega arith) ∙ ((λ i. take (same_length ts u i - 1) ts) ∙ (λ i. take (length ts - cond (sym h i) 1 0) ts)))

again_last_in : (keeps : Bool) (ts : List Token) (t u : Token) → is_kept t.kind ≡ true → is_kept u.kind ≡ true → ts ≡ before_in keeps t ts ++ kept_token keeps t → relexed keeps ts u ≡ before_in keeps u (relexed keeps ts u) ++ kept_token keeps u
again_last_in false ts t u h k e = e
again_last_in true [] t u h k e = absurd (let z : [] ≡ before_in true t [] ++ t ∷ [] = e ∙ ap (λ (b : Bool). before_in true t [] ++ elim b as (λ _. List Token) [ true ↦ t ∷ [] | false ↦ [] ]) h in none (before_in true t []) z)
  where
    none : (ts : List Token) → [] ≡ ts ++ t ∷ [] → ⊥
    none [] z = cc
    none (x ∷ ts) z = cc
again_last_in true (x ∷ us) t u h k e =
    let ts = take (length us) (x ∷ us) in
    let n : relexed true (x ∷ us) u ≡ ts ++ u ∷ [] = ap (λ (b : Bool). elim b as (λ _. List Token) [ true ↦ replaced (x ∷ us) u | false ↦ x ∷ us ]) k in
    n ∙ (λ i. (sym (before_one ts true u) ∙ (λ j. take (length (sym n j) - cond (sym k j) 1 0) (sym n j))) i ++ elim (sym k i) as (λ _. List Token) [ true ↦ u ∷ [] | false ↦ [] ])

module _ (a b : State) (t u : Token) (keeps : b.keeps_tokens ≡ a.keeps_tokens) (tokens : b.kept.tokens ≡ relexed a.keeps_tokens a.kept.tokens u) (h : is_kept t.kind ≡ true) (k : is_kept u.kind ≡ true) where
  pub again_before : kept_before b u ≡ kept_before a t
  again_before = (λ i. before_in (keeps i) u (tokens i)) ∙ again_before_in a.keeps_tokens a.kept.tokens t u h k

  pub again_last : KeptLast a t → KeptLast b u
  again_last e = tokens ∙ (again_last_in a.keeps_tokens a.kept.tokens t u h k e ∙ (λ i. before_in (sym keeps i) u (sym tokens i) ++ kept_token (sym keeps i) u))

-- of the same token, with what was kept then
pub before_back : (a b : State) {t u : Token} → u ≡ t → b.keeps_tokens ≡ a.keeps_tokens → b.kept.tokens ≡ a.kept.tokens → kept_before b u ≡ kept_before a t
before_back a b e k s = λ i. before_in (k i) (e i) (s i)

pub last_back : (a b : State) {t u : Token} → u ≡ t → b.keeps_tokens ≡ a.keeps_tokens → b.kept.tokens ≡ a.kept.tokens → KeptLast a t → KeptLast b u
last_back a b e k s h = s ∙ (h ∙ (λ i. before_in (sym k i) (sym e i) (sym s i) ++ kept_token (sym k i) (sym e i)))

-- ---- trivia

pub trivia_kept : {g : _} {a b : State} {t : Token} (n : GivesNext g a b t) → TriviaKept a.text a.place (each_at (comment_at t.span.start) a.place n.pieces) (each_at irregular_at a.place n.pieces)
trivia_kept {a = a} {t = t} n y l =
    let same = stands-same n.stands l.stands in
    let from : t.span.start ≡ y.from = n.start ∙ (ap (λ (ps : List (List ℕ)). a.place + width (joined ps)) same.pieces ∙ sym l.from) in
    (λ i. each_at (comment_at (from i)) a.place (same.pieces i), λ i. each_at irregular_at a.place (same.pieces i))
