-- What was kept on a walk over lexemes is what these lexemes have.
use Rattle.std.proofs.Common.{ℕ, ◌≡◌, Bool, true, false, ◌&&◌, List, [], ◌∷◌, ◌++◌, refl, sym, ap, subst, ◌∙◌, append_assoc, append-nil}
use Rattle.js_base.specs.declared.span.Span.{Span}
use Rattle.js_base.specs.declared.token.Token.{Token}
use Rattle.js_grammar.specs.Grammar.{Lexeme, Lexemes, last, next}
use Rattle.js_grammar.specs.Lexed.{Lexes, NextLexeme, Passing, all_faults}
use Rattle.js_grammar.specs.Settings.{Goal}
use Rattle.parse_shared.specs.js_lex.Reading.{is_kept, kept_token}
use Rattle.parse_shared.specs.js_lex.declared.comment.Comment.{Comment}
use Rattle.js_base.specs.declared.diagnostic.Diagnostic.{Diagnostic}
use Rattle.parse_shared.specs.laws_shared.Lexemes.{Faultless, TriviaKept, Spot, News, onward, with_faults, IsNew, Walked, nowhere, one_more, read_again, more_faults}
use Rattle.parse_shared.proofs.laws_shared.Paths.{behind_walk}
use Rattle.js_core.specs.Kept.{each_of, comments_before, blanks_before, TellsEach}

-- a lexeme that stands without faults stands whichever pass
lenient : {passing : Passing} {text : List ℕ} {s : ℕ} {y : Lexeme} (h : NextLexeme passing text s y) → (l : NextLexeme all_faults text s y) × (l.trivia ≡ h.trivia)
lenient h = (record { trivia = h.trivia; goal = h.goal; word = h.word; rest = h.rest; stands = h.stands; lexeme = h.lexeme; comments = refl; flags = refl; from = h.from; to = h.to; newline = h.newline; escaped = h.escaped; units = h.units }, refl)

-- What stands before the first lexeme; and before the others.
abbrev pub first_of : {A : Type 0} → (Lexeme → ℕ → List (List ℕ) → List A) → (text : List ℕ) (goal : Goal) (s : ℕ) (ls : Lexemes) → Lexes (Faultless goal text) s ls → List A
first_of f text goal s (last x) l = f x s l.0.trivia
first_of f text goal s (next x ls) l = f x s l.0.0.trivia

abbrev others_of : {A : Type 0} → (Lexeme → ℕ → List (List ℕ) → List A) → (text : List ℕ) (goal : Goal) (s : ℕ) (ls : Lexemes) → Lexes (Faultless goal text) s ls → List A
others_of f text goal s (last x) l = []
others_of f text goal s (next x ls) l = each_of f text goal x.to ls l.1

split : {A : Type 0} (f : Lexeme → ℕ → List (List ℕ) → List A) (text : List ℕ) (goal : Goal) (s : ℕ) (ls : Lexemes) (l : Lexes (Faultless goal text) s ls) → each_of f text goal s ls l ≡ first_of f text goal s ls l ++ others_of f text goal s ls l
split f text goal s (last x) l = sym (append-nil (f x s l.0.trivia))
split f text goal s (next x ls) l = refl

-- what was kept for the trivia at a place stands before the first lexeme there
pub first_comments : (text : List ℕ) (goal : Goal) (s : ℕ) {comments : List Comment} {blanks : List Span} → TriviaKept text s comments blanks → (ls : Lexemes) (l : Lexes (Faultless goal text) s ls) → comments ≡ first_of comments_before text goal s ls l
first_comments text goal s k (last x) l = let z = lenient l.0 in (k x z.0).0 ∙ ap (λ ps. comments_before x s ps) z.1
first_comments text goal s k (next x ls) l = let z = lenient l.0.0 in (k x z.0).0 ∙ ap (λ ps. comments_before x s ps) z.1

pub first_blanks : (text : List ℕ) (goal : Goal) (s : ℕ) {comments : List Comment} {blanks : List Span} → TriviaKept text s comments blanks → (ls : Lexemes) (l : Lexes (Faultless goal text) s ls) → blanks ≡ first_of blanks_before text goal s ls l
first_blanks text goal s k (last x) l = let z = lenient l.0 in (k x z.0).1 ∙ ap (λ ps. blanks_before x s ps) z.1
first_blanks text goal s k (next x ls) l = let z = lenient l.0.0 in (k x z.0).1 ∙ ap (λ ps. blanks_before x s ps) z.1

module _ {A : Type 0} (f : Lexeme → ℕ → List (List ℕ) → List A) (text : List ℕ) (goal : Goal) (kept : Spot → List A) (more : News → List A) (grows : (s : Spot) (x : Lexeme) (n : News) → kept (onward s x n) ≡ kept s ++ more n) (still : (s : Spot) (ds : List Diagnostic) → kept (with_faults s ds) ≡ kept s) (first : (s : Spot) (x : Lexeme) (n : News) → IsNew text s x n → (ms : Lexemes) (l : Lexes (Faultless goal text) x.to ms) → more n ≡ first_of f text goal x.to ms l) where
  walk_grows : {s s' : Spot} {pass : Lexemes → Lexemes} (w : Walked text s s' pass) (ms : Lexemes) (l : Lexes (Faultless goal text) s.place (pass ms)) → kept s' ++ others_of f text goal s'.place ms (behind_walk (Faultless goal text) w ms l) ≡ kept s ++ others_of f text goal s.place (pass ms) l
  walk_grows nowhere ms l = refl
  walk_grows (one_more {s' = m} {x = x} {n = n} w i r) ms l =
      let k = (behind_walk (Faultless goal text) w (next x ms) l).1 in
      let rest = others_of f text goal x.to ms k in
      let a : kept (onward m x n) ++ rest ≡ kept m ++ (more n ++ rest) = ap (λ v. v ++ rest) (grows m x n) ∙ append_assoc (kept m) (more n) rest in
      let b : more n ++ rest ≡ each_of f text goal x.to ms k = ap (λ v. v ++ rest) (first m x n i ms k) ∙ sym (split f text goal x.to ms k) in
      a ∙ (ap (λ v. kept m ++ v) b ∙ walk_grows w (next x ms) l)
  walk_grows (read_again {s' = m} {x = x} {n = n} w ds p i) ms l =
      let k = (behind_walk (Faultless goal text) w (next x ms) l).1 in
      let rest = others_of f text goal x.to ms k in
      let a : kept (onward (with_faults m ds) x n) ++ rest ≡ kept m ++ (more n ++ rest) = ap (λ v. v ++ rest) (grows (with_faults m ds) x n ∙ ap (λ v. v ++ more n) (still m ds)) ∙ append_assoc (kept m) (more n) rest in
      let b : more n ++ rest ≡ each_of f text goal x.to ms k = ap (λ v. v ++ rest) (first m x n i ms k) ∙ sym (split f text goal x.to ms k) in
      a ∙ (ap (λ v. kept m ++ v) b ∙ walk_grows w (next x ms) l)
  walk_grows (more_faults {s' = m} w ds n) ms l = ap (λ v. v ++ others_of f text goal m.place ms (behind_walk (Faultless goal text) w ms l)) (still m ds) ∙ walk_grows w ms l

  pub all_kept : {s s' : Spot} {pass : Lexemes → Lexemes} (w : Walked text s s' pass) (y : Lexeme) (l : Lexes (Faultless goal text) s.place (pass (last y))) → kept s ≡ first_of f text goal s.place (pass (last y)) l → kept s' ≡ each_of f text goal s.place (pass (last y)) l
  all_kept {s} {s'} {pass} w y l e = sym (append-nil (kept s')) ∙ (walk_grows w (last y) l ∙ (ap (λ v. v ++ others_of f text goal s.place (pass (last y)) l) e ∙ sym (split f text goal s.place (pass (last y)) l)))

-- ---- tokens

pub keeps_still : {text : List ℕ} {s s' : Spot} {pass : Lexemes → Lexemes} → Walked text s s' pass → s'.keeps_tokens ≡ s.keeps_tokens
keeps_still nowhere = refl
keeps_still (one_more w i r) = keeps_still w
keeps_still (read_again w ds k i) = keeps_still w
keeps_still (more_faults w ds n) = keeps_still w

kept_one : (b : Bool) (t : Token) → b ≡ true → is_kept t.kind ≡ true → kept_token b t ≡ t ∷ []
kept_one b t e h = λ i. elim (e i && h i) as (λ _. List Token) [ true ↦ t ∷ [] | false ↦ [] ]

pub kept_none : (b : Bool) (t : Token) → b ≡ false → kept_token b t ≡ []
kept_none b t e = λ i. elim (e i && is_kept t.kind) as (λ _. List Token) [ true ↦ t ∷ [] | false ↦ [] ]

-- the tokens that were kept tell the lexemes that were passed
pub walk_tells : {text : List ℕ} {s s' : Spot} {pass : Lexemes → Lexemes} → Walked text s s' pass → s.keeps_tokens ≡ true → (ts : List Token) × (s'.kept.tokens ≡ s.kept.tokens ++ ts) × ((ms : Lexemes) (us : List Token) → TellsEach ms us → TellsEach (pass ms) (ts ++ us))
walk_tells {s = s} nowhere e = ([], sym (append-nil s.kept.tokens), λ ms us h. h)
walk_tells {s = s} (one_more {s' = m} {pass = pass} {x = x} {n = n} w i p) e =
    let r = walk_tells w e in
    let k : kept_token m.keeps_tokens n.token ≡ n.token ∷ [] = kept_one m.keeps_tokens n.token (keeps_still w ∙ e) i.counts in (
      r.0 ++ n.token ∷ [],
      (λ j. r.1 j ++ k j) ∙ append_assoc s.kept.tokens r.0 (n.token ∷ []),
      λ ms us h. subst (λ (ts : List Token). TellsEach (pass (next x ms)) ts) (sym (append_assoc r.0 (n.token ∷ []) us)) (r.2 (next x ms) (n.token ∷ us) (i.tells, h)),
    )
walk_tells {s = s} (read_again {s' = m} {pass = pass} {x = x} {n = n} w ds p i) e =
    let r = walk_tells w e in
    let k : kept_token m.keeps_tokens n.token ≡ n.token ∷ [] = kept_one m.keeps_tokens n.token (keeps_still w ∙ e) i.counts in (
      r.0 ++ n.token ∷ [],
      (λ j. r.1 j ++ k j) ∙ append_assoc s.kept.tokens r.0 (n.token ∷ []),
      λ ms us h. subst (λ (ts : List Token). TellsEach (pass (next x ms)) ts) (sym (append_assoc r.0 (n.token ∷ []) us)) (r.2 (next x ms) (n.token ∷ us) (i.tells, h)),
    )
walk_tells (more_faults w ds n) e = walk_tells w e

-- where none are asked for, none are kept
pub walk_unasked : {text : List ℕ} {s s' : Spot} {pass : Lexemes → Lexemes} → Walked text s s' pass → s.keeps_tokens ≡ false → s'.kept.tokens ≡ s.kept.tokens
walk_unasked nowhere e = refl
walk_unasked (one_more {s' = m} {n = n} w i r) e = (λ j. m.kept.tokens ++ kept_none m.keeps_tokens n.token (keeps_still w ∙ e) j) ∙ (append-nil m.kept.tokens ∙ walk_unasked w e)
walk_unasked (read_again {s' = m} {n = n} w ds k i) e = (λ j. m.kept.tokens ++ kept_none m.keeps_tokens n.token (keeps_still w ∙ e) j) ∙ (append-nil m.kept.tokens ∙ walk_unasked w e)
walk_unasked (more_faults w ds n) e = walk_unasked w e
