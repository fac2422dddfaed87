-- A core string is the longest lexeme of the whole language, too.
use Rattle.std.proofs.Common.{◌≡◌, ℕ, ◌==◌, Bool, true, false, List, [], ◌∷◌, ◌++◌, refl, sym, ap, subst, ◌∙◌, not, ◌&&◌, Option, Some, None, append_assoc}
use Rattle.std.specs.Prelude.{is_some}
use Rattle.std.specs.List.{list_all}
use Rattle.std.proofs.lemmas.Bool.{eqb-true, and_right, and_left, not_from_false}
use Rattle.std.proofs.lemmas.List.{append-nil}
use Rattle.js_base.specs.declared.kind.Kind.TheVariants.{Str}
use Rattle.js_base.specs.part_text.Characters.{one_of, is_decimal}
use Rattle.js_base.specs.Texts.{words}
use Rattle.js_grammar.specs.Characters.{begins}
use Rattle.js_grammar.specs.Longest.{none_longer}
use Rattle.js_base.specs.part_text.Escapes.{in_string, code_points, code_units, line_feeds}
use Rattle.js_base.specs.part_text.Decoding.{string_points, string_units}
use Rattle.js_grammar.specs.Strings.{nothing_left, closes_string, string_inside, string_kind}
use Rattle.js_grammar.specs.Lexemes.{plain_kind, lexemes_in, division, a_string}
use Rattle.js_grammar.specs.CoreTexts.{is_core_string, closes_core_string}
use Rattle.js_grammar.proofs.LongestLemmas.{both-left, both-right, both, not-true}
use Rattle.js_grammar.proofs.Finding.{neither-left, neither-right, member, all-mono}
use Rattle.js_grammar.proofs.CoreLemmas.{none_longer-from, plain_of}
use Rattle.js_grammar.proofs.CoreNumbers.{nothing-nil}
use Rattle.js_grammar.proofs.CoreNames.{IsPlain}
use Rattle.js_grammar.proofs.CorePlain.{no_backslash, no_return, points-plain, feeds-append}
use Rattle.js_grammar.proofs.Quotations.{plain-feeds, something_left, inside_of, quote_opens}

-- a character within the quotes
abbrev pub plain_in : ℕ → ℕ → Bool
plain_in q c = not (c == q) && not (one_of (92 ∷ 13 ∷ 10 ∷ []) c)

pub record Body (q : ℕ) (cs : List ℕ) : Type 0 where
  pub body : List ℕ
  pub is : cs ≡ body ++ q ∷ []
  pub plain : list_all (plain_in q) body ≡ true

pub body_of : (q : ℕ) (cs : List ℕ) → closes_core_string q cs ≡ true → Body q cs
body_of q [] h = cc
body_of q (c ∷ cs) h = go (c == q) refl h (λ k. body_of q cs k)
  where
    go : (b : Bool) → (c == q) ≡ b → elim b [ true ↦ nothing_left cs | false ↦ not (one_of (92 ∷ 13 ∷ 10 ∷ []) c) && closes_core_string q cs ] ≡ true → (closes_core_string q cs ≡ true → Body q cs) → Body q (c ∷ cs)
    go true e g r = let s : c ≡ q = eqb-true c q e in let n : cs ≡ [] = nothing-nil cs g in record { body = []; is = cc; plain = refl }
    go false e g r =
        let t = r (both-right (not (one_of (92 ∷ 13 ∷ 10 ∷ []) c)) (closes_core_string q cs) g) in
        let i = t.is in
        record { body = c ∷ t.body; is = cc; plain = both (plain_in q c) (list_all (plain_in q) t.body) (both (not (c == q)) (not (one_of (92 ∷ 13 ∷ 10 ∷ []) c)) (rw e refl) (both-left (not (one_of (92 ∷ 13 ∷ 10 ∷ []) c)) (closes_core_string q cs) g)) t.plain }

record Plain (q c : ℕ) : Type 0 where
  pub quote : (c == q) ≡ false
  pub slash : (c == 92) ≡ false
  pub cr : (c == 13) ≡ false
  pub lf : (c == 10) ≡ false

plain-of : (q c : ℕ) → plain_in q c ≡ true → Plain q c
plain-of q c h =
    let o = not-true (one_of (92 ∷ 13 ∷ 10 ∷ []) c) (both-right (not (c == q)) (not (one_of (92 ∷ 13 ∷ 10 ∷ []) c)) h) in
    let a : (92 == c) ≡ false = neither-left (92 == c) (one_of (13 ∷ 10 ∷ []) c) o in
    let o' = neither-right (92 == c) (one_of (13 ∷ 10 ∷ []) c) o in
    let b : (13 == c) ≡ false = neither-left (13 == c) (one_of (10 ∷ []) c) o' in
    let d : (10 == c) ≡ false = neither-left (10 == c) false (neither-right (13 == c) (one_of (10 ∷ []) c) o') in
    record { quote = not-true (c == q) (both-left (not (c == q)) (not (one_of (92 ∷ 13 ∷ 10 ∷ []) c)) h); slash = flip 92 a; cr = flip 13 b; lf = flip 10 d }
  where
    flip : (n : ℕ) → (n == c) ≡ false → (c == n) ≡ false
    flip n e = go (c == n) refl
      where
        go : (b : Bool) → (c == n) ≡ b → (c == n) ≡ false
        go false f = f
        go true f = let s : c ≡ n = eqb-true c n f in let t : (n == c) ≡ true = Rattle.std.proofs.lemmas.Bool.eq-eqb n c (sym s) in cc

closes-step : (q c : ℕ) (cs : List ℕ) → Plain q c → closes_string q false (c ∷ cs) ≡ closes_string q false cs
closes-step q c cs p = rw (p.quote, p.lf, p.slash, closes_string) refl

eq-self : (q : ℕ) → (q == q) ≡ true
eq-self q = Rattle.std.proofs.lemmas.Bool.eq-eqb q q refl

closes-run : (q : ℕ) (body ys : List ℕ) → list_all (plain_in q) body ≡ true → closes_string q false (body ++ q ∷ ys) ≡ nothing_left ys
closes-run q [] ys h = rw (eq-self q, closes_string) refl
closes-run q (c ∷ body) ys h = closes-step q c (body ++ q ∷ ys) (plain-of q c (both-left (plain_in q c) (list_all (plain_in q) body) h)) ∙ closes-run q body ys (both-right (plain_in q c) (list_all (plain_in q) body) h)

no_cr : (q : ℕ) (body : List ℕ) → list_all (plain_in q) body ≡ true → list_all no_return body ≡ true
no_cr q body h = all-mono (plain_in q) no_return body (λ c p. not_from_false (c == 13) (plain-of q c p).cr) h

no_slash : (q : ℕ) (body : List ℕ) → list_all (plain_in q) body ≡ true → list_all no_backslash body ≡ true
no_slash q body h = all-mono (plain_in q) no_backslash body (λ c p. not_from_false (c == 92) (plain-of q c p).slash) h

quote_no_return : (q : ℕ) → one_of (34 ∷ 39 ∷ []) q ≡ true → (q == 13) ≡ false
quote_no_return q h = not-true (q == 13) (member (λ c. not (c == 13)) (34 ∷ 39 ∷ []) q h refl)

string-itself : (q : ℕ) (body : List ℕ) → one_of (34 ∷ 39 ∷ []) q ≡ true → list_all (plain_in q) body ≡ true → string_kind (q ∷ body ++ q ∷ []) ≡ Some Str
string-itself q body o h =
    let f : line_feeds (body ++ q ∷ []) ≡ body ++ q ∷ [] = feeds-append body (q ∷ []) (no_cr q body h) ∙ ap (λ (v : List ℕ). body ++ v) (plain-feeds q [] (quote_no_return q o)) in
    let c : closes_string q false (line_feeds (body ++ q ∷ [])) ≡ true = ap (λ (v : List ℕ). closes_string q false v) f ∙ closes-run q body [] h in
    let g : line_feeds body ≡ body = ap line_feeds (sym (append-nil body)) ∙ feeds-append body [] (no_cr q body h) ∙ append-nil body in
    let p : string_points (string_inside (q ∷ body ++ q ∷ [])) ≡ Some body = ap string_points (inside_of q body) ∙ ap (λ (v : List ℕ). code_points in_string v) g ∙ points-plain in_string body (no_slash q body h) in
    ap (λ (b : Bool). elim b [ true ↦ Some Str | false ↦ None ])
    (both (one_of (34 ∷ 39 ∷ []) q) (closes_string q false (line_feeds (body ++ q ∷ [])) && is_some (string_points (string_inside (q ∷ body ++ q ∷ [])))) o
    (both (closes_string q false (line_feeds (body ++ q ∷ []))) (is_some (string_points (string_inside (q ∷ body ++ q ∷ [])))) c (ap is_some p)))

string-longer : (q : ℕ) (body : List ℕ) (d : ℕ) (ys : List ℕ) → one_of (34 ∷ 39 ∷ []) q ≡ true → list_all (plain_in q) body ≡ true → string_kind (q ∷ body ++ q ∷ d ∷ ys) ≡ None
string-longer q body d ys o h =
    let f : line_feeds (body ++ q ∷ d ∷ ys) ≡ body ++ q ∷ line_feeds (d ∷ ys) = feeds-append body (q ∷ d ∷ ys) (no_cr q body h) ∙ ap (λ (v : List ℕ). body ++ v) (plain-feeds q (d ∷ ys) (quote_no_return q o)) in
    let c : closes_string q false (line_feeds (body ++ q ∷ d ∷ ys)) ≡ false = ap (λ (v : List ℕ). closes_string q false v) f ∙ closes-run q body (line_feeds (d ∷ ys)) h ∙ something_left d ys in
    ap (λ (b : Bool). elim b [ true ↦ Some Str | false ↦ None ])
    (and_right (one_of (34 ∷ 39 ∷ []) q) (closes_string q false (line_feeds (body ++ q ∷ d ∷ ys)) && is_some (string_points (string_inside (q ∷ body ++ q ∷ d ∷ ys))))
    (and_left (closes_string q false (line_feeds (body ++ q ∷ d ∷ ys))) (is_some (string_points (string_inside (q ∷ body ++ q ∷ d ∷ ys)))) c))

plain_body : (q : ℕ) (body rest : List ℕ) → one_of (34 ∷ 39 ∷ []) q ≡ true → list_all (plain_in q) body ≡ true → IsPlain (q ∷ body ++ q ∷ []) rest
unfolding words
plain_body q body rest o h =
    let kd : plain_kind (q ∷ body ++ q ∷ []) rest ≡ Some Str = plain_of a_string q (body ++ q ∷ []) rest (quote_opens q (begins is_decimal (body ++ q ∷ [])) o) ∙ string-itself q body o h in
    record {
      kind = Str;
      longest = both (lexemes_in division (q ∷ body ++ q ∷ []) rest) (none_longer (lexemes_in division) (q ∷ body ++ q ∷ []) rest) (ap is_some kd)
          (none_longer-from (lexemes_in division) (q ∷ body ++ q ∷ []) rest (λ d x more e.
          subst (λ (v : List ℕ). lexemes_in division (q ∷ v) more ≡ false) (sym (append_assoc body (q ∷ []) (d ∷ x)))
          (ap is_some (plain_of a_string q (body ++ q ∷ d ∷ x) more (quote_opens q (begins is_decimal (body ++ q ∷ d ∷ x)) o) ∙ string-longer q body d x o h))));
      is = kd;
      apart = refl;
      inside = refl;
      core = refl;
      unescaped = refl;
    }

pub plain_string : (q : ℕ) (cs rest : List ℕ) → is_core_string (q ∷ cs) ≡ true → IsPlain (q ∷ cs) rest
plain_string q cs rest h =
    let b = body_of q cs (both-right (one_of (34 ∷ 39 ∷ []) q) (closes_core_string q cs) h) in
    subst (λ (v : List ℕ). IsPlain (q ∷ v) rest) (sym b.is) (plain_body q b.body rest (both-left (one_of (34 ∷ 39 ∷ []) q) (closes_core_string q cs) h) b.plain)

pub string-kind : (q : ℕ) (cs rest : List ℕ) → is_core_string (q ∷ cs) ≡ true → plain_kind (q ∷ cs) rest ≡ Some Str
string-kind q cs rest h =
    let b = body_of q cs (both-right (one_of (34 ∷ 39 ∷ []) q) (closes_core_string q cs) h) in
    let o = both-left (one_of (34 ∷ 39 ∷ []) q) (closes_core_string q cs) h in
    subst (λ (v : List ℕ). plain_kind (q ∷ v) rest ≡ Some Str) (sym b.is) (plain_of a_string q (b.body ++ q ∷ []) rest (quote_opens q (begins is_decimal (b.body ++ q ∷ [])) o) ∙ string-itself q b.body o b.plain)

-- it stands for what is between the quotes
pub string-units : (q : ℕ) (cs : List ℕ) → is_core_string (q ∷ cs) ≡ true → string_units (string_inside (q ∷ cs)) ≡ Some (code_units (string_inside (q ∷ cs)))
string-units q cs h =
    let b = body_of q cs (both-right (one_of (34 ∷ 39 ∷ []) q) (closes_core_string q cs) h) in
    let g : line_feeds b.body ≡ b.body = ap line_feeds (sym (append-nil b.body)) ∙ feeds-append b.body [] (no_cr q b.body b.plain) ∙ append-nil b.body in
    let p : string_points b.body ≡ Some b.body = ap (λ (v : List ℕ). code_points in_string v) g ∙ points-plain in_string b.body (no_slash q b.body b.plain) in
    let i : string_inside (q ∷ cs) ≡ b.body = ap (λ (v : List ℕ). string_inside (q ∷ v)) b.is ∙ inside_of q b.body in
    ap (λ (o : Option (List ℕ)). Rattle.std.specs.Prelude.option_map code_units o) (subst (λ (v : List ℕ). string_points v ≡ Some v) (sym i) p)
