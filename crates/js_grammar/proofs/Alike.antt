-- What stands behind a place is settled: its trivia, and the lexeme of each lexical goal.
use Rattle.std.proofs.Common.{◌≡◌, ℕ, ◌==◌, Bool, true, false, List, [], ◌∷◌, ◌++◌, refl, sym, subst, ◌∙◌, ◌||◌, append_assoc, Some}
use Rattle.js_base.specs.declared.kind.Kind.{Kind}
use Rattle.js_grammar.specs.Grammar.{Lexeme}
use Rattle.js_grammar.specs.Characters.{has_line_terminator}
use Rattle.js_grammar.specs.Longest.{longest, none_longer, joined}
use Rattle.js_grammar.specs.Trivia.{is_trivia_piece, are_trivia}
use Rattle.js_grammar.specs.Lexemes.{LexicalGoal, lexemes_in}
use Rattle.js_grammar.specs.Lexed.{Passing, NextLexeme, Stands}
use Rattle.js_grammar.proofs.LongestLemmas.{both-left, both-right, none_longer-at, longest-same}

pub no_empty_piece : (first : Bool) (rest : List ℕ) → is_trivia_piece first [] rest ≡ false
no_empty_piece true rest = refl
no_empty_piece false rest = refl

-- where none begins, no piece stands
no_piece : (first : Bool) (p rest more : List ℕ) → none_longer (is_trivia_piece first) [] rest ≡ true → rest ≡ p ++ more → is_trivia_piece first p more ≡ true → ⊥
no_piece first [] rest more n e h = let k = no_empty_piece first more in cc
no_piece first (c ∷ p) rest more n e h =
    let m : none_longer (is_trivia_piece first) [] (c ∷ p ++ more) ≡ true = subst (λ (u : List ℕ). none_longer (is_trivia_piece first) [] u ≡ true) e n in
    let k = none_longer-at (is_trivia_piece first) [] c p more m in
    cc

pub record SameTrivia (ps qs : List (List ℕ)) (rest more : List ℕ) : Type 0 where
  pub pieces : ps ≡ qs
  pub back : rest ≡ more

pub trivia-same : (first : Bool) (ps qs : List (List ℕ)) (rest more : List ℕ) → joined ps ++ rest ≡ joined qs ++ more → are_trivia first ps rest ≡ true → are_trivia first qs more ≡ true → SameTrivia ps qs rest more
trivia-same first [] [] rest more e h k = record { pieces = refl; back = e }
trivia-same first [] (q ∷ qs) rest more e h k =
    absurd (no_piece first q rest (joined qs ++ more) h (e ∙ append_assoc q (joined qs) more)
    (both-left _ _ (both-left (longest (is_trivia_piece first) q (joined qs ++ more)) (are_trivia (first || has_line_terminator q) qs more) k)))
trivia-same first (p ∷ ps) [] rest more e h k =
    absurd (no_piece first p more (joined ps ++ rest) k (sym e ∙ append_assoc p (joined ps) rest)
    (both-left _ _ (both-left (longest (is_trivia_piece first) p (joined ps ++ rest)) (are_trivia (first || has_line_terminator p) ps rest) h)))
trivia-same first (p ∷ ps) (q ∷ qs) rest more e h k =
    let f : p ++ (joined ps ++ rest) ≡ q ++ (joined qs ++ more) = sym (append_assoc p (joined ps) rest) ∙ e ∙ append_assoc q (joined qs) more in
    let s = longest-same (is_trivia_piece first) p (joined ps ++ rest) q (joined qs ++ more) f
    (both-left (longest (is_trivia_piece first) p (joined ps ++ rest)) (are_trivia (first || has_line_terminator p) ps rest) h)
    (both-left (longest (is_trivia_piece first) q (joined qs ++ more)) (are_trivia (first || has_line_terminator q) qs more) k) in
    let h' = both-right (longest (is_trivia_piece first) p (joined ps ++ rest)) (are_trivia (first || has_line_terminator p) ps rest) h in
    let k' = both-right (longest (is_trivia_piece first) q (joined qs ++ more)) (are_trivia (first || has_line_terminator q) qs more) k in
    let k'' : are_trivia (first || has_line_terminator p) qs more ≡ true = subst (λ (v : List ℕ). are_trivia (first || has_line_terminator v) qs more ≡ true) (sym s.front) k' in
    let t = trivia-same (first || has_line_terminator p) ps qs rest more s.back h' k'' in
    record { pieces = (let a = s.front in let b = t.pieces in cc); back = t.back }

-- the trivia and all that stands behind it
pub stands-same : {text : List ℕ} {s : ℕ} {ps qs : List (List ℕ)} {w rest v more : List ℕ} → Stands text s ps w rest → Stands text s qs v more → SameTrivia ps qs (w ++ rest) (v ++ more)
stands-same {s = s} {ps = ps} {qs = qs} {w = w} {rest = rest} {v = v} {more = more} h k = trivia-same (s == 0) ps qs (w ++ rest) (v ++ more) (sym h.splits ∙ k.splits) h.trivia k.trivia

pub lexeme-same : (y z : Lexeme) → y.kind ≡ z.kind → y.from ≡ z.from → y.to ≡ z.to → y.newline ≡ z.newline → y.escaped ≡ z.escaped → y.units ≡ z.units → y ≡ z
lexeme-same y z a b c d e f = λ i. record { kind = a i; from = b i; to = c i; newline = d i; escaped = e i; units = f i }

some-same : (a b : Kind) → Some a ≡ Some b → a ≡ b
some-same a b e = cc

-- in one lexical goal one lexeme stands behind a place, whichever faults pass
pub lex-same : {p q : Passing} {text : List ℕ} {s : ℕ} {y z : Lexeme} (h : NextLexeme p text s y) (k : NextLexeme q text s z) → h.goal ≡ k.goal → y ≡ z
lex-same {s = s} {y = y} {z = z} h k g =
    let t = stands-same h.stands k.stands in
    let kl : longest (lexemes_in h.goal) k.word k.rest ≡ true = subst (λ (a : LexicalGoal). longest (lexemes_in a) k.word k.rest ≡ true) (sym g) k.lexeme.longest in
    let w = longest-same (lexemes_in h.goal) h.word h.rest k.word k.rest t.back h.lexeme.longest kl in
    let kinds : Some y.kind ≡ Some z.kind = (let a = h.lexeme.kind in let b = k.lexeme.kind in let c = w.front in let d = w.back in cc) in
    let kind : y.kind ≡ z.kind = some-same y.kind z.kind kinds in
    let from : y.from ≡ z.from = (let a = h.from in let b = k.from in let c = t.pieces in cc) in
    lexeme-same y z kind from
    (let a = h.to in let b = k.to in let c = w.front in cc)
    (let a = h.newline in let b = k.newline in let c = t.pieces in cc)
    (let a = h.escaped in let b = k.escaped in let c = w.front in cc)
    (let a = h.units in let b = k.units in let c = w.front in cc)
