-- What a lexer has kept is still there after a move, and after it went back.
use Rattle.std.proofs.Common.{ℕ, zero, suc, ◌+◌, ◌-◌, ◌≡◌, ◌≤◌, Bool, true, false, cond, ◌&&◌, List, [], ◌∷◌, ◌++◌, length, take, refl, sym, ap, arith, ◌∙◌, length-append, append-nil}
use Rattle.std.proofs.lemmas.Bool.{false≢true}
use Rattle.std.proofs.lemmas.List.{take-append-le, length-take-le}
use Rattle.std.proofs.Math.Seq.{take-length}
use Rattle.js_base.specs.declared.kind.Kind.{Kind}
use Rattle.js_base.specs.declared.kind.Kind.TheVariants.{RAngle, RCurly, Slash, SlashEq}
use Rattle.js_base.specs.declared.token.Token.{Token}
use Rattle.js_base.specs.part_memory.Lists.{replaced}
use Rattle.js_lex.specs.Kept.{lengths_of, first_kept, AreAtMost}
use Rattle.js_lex.specs.Reading.{is_kept, kept_token, GivesNext, GivesAgain}
use Rattle.js_lex.specs.States.{State, SameText}
use Rattle.js_lex.proofs.Keeping.{twice}
use Rattle.js_cursor.specs.Tokens.{may_be_read_again, steady, StillKept}

take_less : {X : Type 0} (m n : ℕ) (xs : List X) → m ≤ n → take m (take n xs) ≡ take m xs
take_less zero n xs h = refl
take_less (suc m) zero xs h = absurd (omega arith)
take_less (suc m) (suc n) [] h = refl
take_less (suc m) (suc n) (x ∷ xs) h = ap (λ v. x ∷ v) (take_less m n xs (omega arith))

steady_fits : (l : State) (t : Token) → steady l t ≤ length l.kept.tokens
steady_fits l t = omega arith

pub still_itself : (l : State) (t : Token) → StillKept l t l t
still_itself l t = record { keeps_tokens = refl; later_comments = []; comments = sym (append-nil l.kept.comments); later_blanks = []; blanks = sym (append-nil l.kept.irregular_whitespaces); tokens = refl; steadier = omega arith }

pub still_on : {a b c : State} {t u v : Token} → StillKept a t b u → StillKept b u c v → StillKept a t c v
still_on {a} {b} {c} {t} {u} {v} f g = record {
  keeps_tokens = g.keeps_tokens ∙ f.keeps_tokens;
  later_comments = f.later_comments ++ g.later_comments;
  comments = twice a.kept.comments b.kept.comments c.kept.comments f.later_comments g.later_comments f.comments g.comments;
  later_blanks = f.later_blanks ++ g.later_blanks;
  blanks = twice a.kept.irregular_whitespaces b.kept.irregular_whitespaces c.kept.irregular_whitespaces f.later_blanks g.later_blanks f.blanks g.blanks;
  tokens =
      let s = f.steadier in
      sym (take_less (steady a t) (steady b u) c.kept.tokens s) ∙ (ap (λ ts. take (steady a t) ts) g.tokens ∙ (take_less (steady a t) (steady b u) b.kept.tokens s ∙ f.tokens));
  steadier = let s = f.steadier in let r = g.steadier in omega arith;
}

kept_again : (k : Kind) → may_be_read_again k ≡ true → is_kept k ≡ true
kept_again RAngle h = refl
kept_again Slash h = refl
kept_again SlashEq h = refl
kept_again RCurly h = refl
kept_again _ h = absurd (false≢true h)

-- a token that may be read again is kept, where any is
one_more : (b : Bool) (u : Token) → cond (b && may_be_read_again u.kind) 1 0 ≤ length (kept_token b u)
one_more false u = omega arith
one_more true u = go (may_be_read_again u.kind) refl
  where
    go : (c : Bool) → may_be_read_again u.kind ≡ c → cond c 1 0 ≤ length (kept_token true u)
    go false e = omega arith
    go true e = let k : length (kept_token true u) ≡ 1 = ap (λ (d : Bool). length (elim d as (λ _. List Token) [ true ↦ u ∷ [] | false ↦ [] ])) (kept_again u.kind e) in omega arith

pub still_next : {a b : State} {u : Token} {g : _} (t : Token) → GivesNext g a b u → StillKept a t b u
still_next {a} {b} {u} t n = record {
  keeps_tokens = n.same.keeps_tokens;
  later_comments = _;
  comments = n.grows.comments_grow;
  later_blanks = _;
  blanks = n.grows.blanks_grow;
  tokens = ap (λ ts. take (steady a t) ts) n.grows.tokens_grow ∙ take-append-le (steady a t) a.kept.tokens (kept_token a.keeps_tokens u) (steady_fits a t);
  steadier =
      let l : length b.kept.tokens ≡ length a.kept.tokens + length (kept_token a.keeps_tokens u) = ap (λ ts. length ts) n.grows.tokens_grow ∙ length-append a.kept.tokens (kept_token a.keeps_tokens u) in
      let o = one_more a.keeps_tokens u in
      let s : steady b u ≡ length b.kept.tokens - cond (a.keeps_tokens && may_be_read_again u.kind) 1 0 = ap (λ (k : Bool). length b.kept.tokens - cond (k && may_be_read_again u.kind) 1 0) n.same.keeps_tokens in
      let f = steady_fits a t in
      omega arith;
}

pub same_front : {X : Type 0} (ts : List X) (u : X) (n : ℕ) → n ≡ length ts - 1 → take n (replaced ts u) ≡ take n ts
same_front [] u n e = refl
same_front (x ∷ us) u n e =
    let m : n ≡ length us = omega arith in
    let k : length (take (length us) (x ∷ us)) ≡ length us = length-take-le (length us) (x ∷ us) (omega arith) in
    take-append-le n (take (length us) (x ∷ us)) (u ∷ []) (omega arith) ∙ take_less n (length us) (x ∷ us) (omega arith)

pub same_length : {X : Type 0} (ts : List X) (u : X) → length (replaced ts u) ≡ length ts
same_length [] u = refl
same_length (x ∷ us) u =
    let k : length (take (length us) (x ∷ us)) ≡ length us = length-take-le (length us) (x ∷ us) (omega arith) in
    length-append (take (length us) (x ∷ us)) (u ∷ []) ∙ (omega arith)

again_front : (keeps kept : Bool) (ts : List Token) (u : Token) (n : ℕ) → n ≡ length ts - cond (keeps && true) 1 0 → take n (elim (keeps && kept) as (λ _. List Token) [ true ↦ replaced ts u | false ↦ ts ]) ≡ take n ts
again_front true true ts u n e = same_front ts u n e
again_front true false ts u n e = refl
again_front false k ts u n e = refl

again_length : (b : Bool) (ts : List Token) (u : Token) → length (elim b as (λ _. List Token) [ true ↦ replaced ts u | false ↦ ts ]) ≡ length ts
again_length true ts u = same_length ts u
again_length false ts u = refl

less_than_one : (b c : Bool) → cond (b && c) 1 0 ≤ cond (b && true) 1 0
less_than_one true true = omega arith
less_than_one true false = omega arith
less_than_one false c = omega arith

pub still_again : {a b : State} {t u : Token} {g : _} {going_on faults : _} → may_be_read_again t.kind ≡ true → GivesAgain g a b t u going_on faults → StillKept a t b u
still_again {a} {b} {t} {u} m x = record {
  keeps_tokens = x.same.keeps_tokens;
  later_comments = [];
  comments = x.comments ∙ sym (append-nil a.kept.comments);
  later_blanks = [];
  blanks = x.blanks ∙ sym (append-nil a.kept.irregular_whitespaces);
  tokens = ap (λ ts. take (steady a t) ts) x.tokens ∙ again_front a.keeps_tokens (is_kept u.kind) a.kept.tokens u (steady a t) was;
  steadier =
      let l : length b.kept.tokens ≡ length a.kept.tokens = ap (λ ts. length ts) x.tokens ∙ again_length (a.keeps_tokens && is_kept u.kind) a.kept.tokens u in
      let s : steady b u ≡ length b.kept.tokens - cond (a.keeps_tokens && may_be_read_again u.kind) 1 0 = ap (λ (k : Bool). length b.kept.tokens - cond (k && may_be_read_again u.kind) 1 0) x.same.keeps_tokens in
      let o = less_than_one a.keeps_tokens (may_be_read_again u.kind) in
      let w = was in
      omega arith;
}
  where
    was : steady a t ≡ length a.kept.tokens - cond (a.keeps_tokens && true) 1 0
    was = ap (λ (k : Bool). length a.kept.tokens - cond (a.keeps_tokens && k) 1 0) m

first_part : {X : Type 0} (a b x : List X) → b ≡ a ++ x → take (length a) b ≡ a
first_part a b x e = ap (λ v. take (length a) v) e ∙ (take-append-le (length a) a x (omega arith) ∙ take-length a)

-- the lexer went back to where it had kept so much
module _ {a b c : State} {t u : Token} (f : StillKept a t b u) (longer : AreAtMost (lengths_of a.kept) (lengths_of b.kept)) (same : SameText b c) (kept : c.kept ≡ first_kept (lengths_of a.kept) b.kept) where
  pub comments_back : c.kept.comments ≡ a.kept.comments
  comments_back = ap (λ o. o.comments) kept ∙ first_part a.kept.comments b.kept.comments f.later_comments f.comments

  pub blanks_back : c.kept.irregular_whitespaces ≡ a.kept.irregular_whitespaces
  blanks_back = ap (λ o. o.irregular_whitespaces) kept ∙ first_part a.kept.irregular_whitespaces b.kept.irregular_whitespaces f.later_blanks f.blanks

  pub keeps_back : c.keeps_tokens ≡ a.keeps_tokens
  keeps_back = same.keeps_tokens ∙ f.keeps_tokens

  pub still_back : StillKept a t c t
  still_back = record {
    keeps_tokens = keeps_back;
    later_comments = [];
    comments = comments_back ∙ sym (append-nil a.kept.comments);
    later_blanks = [];
    blanks = blanks_back ∙ sym (append-nil a.kept.irregular_whitespaces);
    tokens = ap (λ o. take (steady a t) o.tokens) kept ∙ (take_less (steady a t) (length a.kept.tokens) b.kept.tokens (steady_fits a t) ∙ f.tokens);
    steadier =
        let l : length c.kept.tokens ≡ length a.kept.tokens = ap (λ o. length o.tokens) kept ∙ length-take-le (length a.kept.tokens) b.kept.tokens longer.tokens in
        let s : steady c t ≡ length c.kept.tokens - cond (a.keeps_tokens && may_be_read_again t.kind) 1 0 = ap (λ (k : Bool). length c.kept.tokens - cond (k && may_be_read_again t.kind) 1 0) keeps_back in
        omega arith;
  }

  -- with a current token that isn't read again, the tokens are as they were
  pub tokens_back : may_be_read_again t.kind ≡ false → c.kept.tokens ≡ a.kept.tokens
  tokens_back n = ap (λ o. o.tokens) kept ∙ (ap (λ k. take k b.kept.tokens) (sym all) ∙ (f.tokens ∙ (ap (λ k. take k a.kept.tokens) all ∙ take-length a.kept.tokens)))
    where
      no_less : (b : Bool) → ◌≡◌ {A = ℕ} (cond (b && false) 1 0) 0
      no_less true = refl
      no_less false = refl

      all : steady a t ≡ length a.kept.tokens
      all = ap (λ (k : Bool). length a.kept.tokens - cond (a.keeps_tokens && k) 1 0) n ∙ (ap (λ (k : ℕ). length a.kept.tokens - k) (no_less a.keeps_tokens) ∙ (let z : length a.kept.tokens - 0 ≡ length a.kept.tokens = omega arith in z))
