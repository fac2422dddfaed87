-- Behind a place one lexeme stands, but at a slash and at a right brace.
use Rattle.std.proofs.Common.{◌≡◌, ℕ, ◌==◌, Bool, true, false, List, [], ◌∷◌, ◌++◌, refl, sym, ap, subst, ◌∙◌, not, ◌&&◌, Option, Some, None, ◌⊎◌, inl, inr}
use Rattle.std.specs.Prelude.{codes}
use Rattle.std.proofs.lemmas.Bool.{eqb-true}
use Rattle.js_base.specs.declared.kind.Kind.{Kind}
use Rattle.js_base.specs.declared.kind.Kind.TheVariants.{HashbangComment}
use Rattle.js_grammar.specs.Grammar.{Lexeme}
use Rattle.js_base.specs.part_text.Characters.{one_of}
use Rattle.js_grammar.specs.Trivia.{after, within_line}
use Rattle.js_base.specs.part_text.Escapes.{in_name, outside, read_from, before_all}
use Rattle.js_grammar.specs.Names.{named, name_of, private_of}
use Rattle.js_grammar.specs.RegularExpressions.{flags, flagged, behind_pattern}
use Rattle.js_grammar.specs.Templates.{template_tail_kind, part_kind, closes_template}
use Rattle.js_base.specs.declared.kind.Kind.TheVariants.{TemplateTail, TemplateMiddle}
use Rattle.js_grammar.specs.Lexemes.{LexicalGoal, division, regular_expression, template_tail, hashbang, kind_in}
use Rattle.js_grammar.specs.Lexed.{Passing, NextLexeme, Stands}
use Rattle.js_grammar.specs.LexicalLaws.{AtSlashOrBrace}
use Rattle.js_grammar.proofs.LongestLemmas.{both-left, both-right}
use Rattle.js_grammar.proofs.Alike.{lex-same, stands-same}
use Rattle.js_grammar.proofs.CorePlain.{points-one}

-- the characters begin with a slash or a right brace
record Begins (w : List ℕ) : Type 0 where
  pub first : ℕ
  pub others : List ℕ
  pub is : w ≡ first ∷ others
  pub passes : one_of (47 ∷ 125 ∷ []) first ≡ true

pattern_slash : (w : List ℕ) (k : Kind) → flagged (flags w) ≡ Some k → Begins w
pattern_slash [] k h = cc
pattern_slash (a ∷ []) k h = cc
pattern_slash (a ∷ c ∷ cs) k h = go (a == 47) refl
  where
    go : (b : Bool) → (a == 47) ≡ b → Begins (a ∷ c ∷ cs)
    go true e = record { first = a; others = c ∷ cs; is = refl; passes = subst (λ (x : ℕ). one_of (47 ∷ 125 ∷ []) x ≡ true) (sym (eqb-true a 47 e)) refl }
    go false e = absurd (let m : flagged (flags (a ∷ c ∷ cs)) ≡ None = ap (λ (b : Bool). flagged (elim (b && not (one_of (codes "*/") c)) [ true ↦ behind_pattern false false (c ∷ cs) | false ↦ None ])) e in cc)

tail_brace : (w : List ℕ) (k : Kind) → template_tail_kind w ≡ Some k → Begins w
tail_brace [] k h = cc
tail_brace (c ∷ cs) k h = go (c == 125) refl
  where
    go : (b : Bool) → (c == 125) ≡ b → Begins (c ∷ cs)
    go true e = record { first = c; others = cs; is = refl; passes = subst (λ (x : ℕ). one_of (47 ∷ 125 ∷ []) x ≡ true) (sym (eqb-true c 125 e)) refl }
    go false e = absurd (let m : template_tail_kind (c ∷ cs) ≡ None = ap (λ (b : Bool). elim b [ true ↦ part_kind TemplateTail TemplateMiddle (closes_template false false cs) | false ↦ None ]) e in cc)

-- `#!` is no private name
no_private : (v : List ℕ) → name_of (33 ∷ v) ≡ None
no_private v = ap named (points-one in_name 33 v refl) ∙ go (read_from in_name outside v)
  where
    go : (o : Option (List ℕ)) → named (before_all (33 ∷ []) o) ≡ None
    go None = refl
    go (Some zs) = refl

no_plain : (v more r : List ℕ) (k : Kind) → v ++ more ≡ 35 ∷ 33 ∷ r → kind_in division v more ≡ Some k → ⊥
no_plain [] [] r k e h = cc
no_plain [] (c ∷ more) r k e h = cc
no_plain (c ∷ []) more r k e h =
    let s : c ≡ 35 = cc in
    let t : kind_in division (35 ∷ []) more ≡ Some k = subst (λ (a : ℕ). kind_in division (a ∷ []) more ≡ Some k) s h in cc
no_plain (c ∷ d ∷ v) more r k e h =
    let s : c ≡ 35 = cc in
    let s' : d ≡ 33 = cc in
    let t : kind_in division (35 ∷ 33 ∷ v) more ≡ Some k = subst (λ (a : ℕ). kind_in division (35 ∷ a ∷ v) more ≡ Some k) s' (subst (λ (a : ℕ). kind_in division (a ∷ d ∷ v) more ≡ Some k) s h) in
    let n : kind_in division (35 ∷ 33 ∷ v) more ≡ None = ap private_of (no_private v) in
    cc

-- a hashbang line begins so
record Bang (w : List ℕ) : Type 0 where
  pub others : List ℕ
  pub is : w ≡ 35 ∷ 33 ∷ others

bang : (w rest : List ℕ) (k : Kind) → kind_in hashbang w rest ≡ Some k → Bang w
bang w rest k h = go (after (codes "#!") within_line w) refl w refl
  where
    go : (b : Bool) → after (codes "#!") within_line w ≡ b → (v : List ℕ) → w ≡ v → Bang w
    go false e v f = absurd (let m : kind_in hashbang w rest ≡ None = ap (λ (b : Bool). elim b [ true ↦ Some HashbangComment | false ↦ None ]) e in cc)
    go true e [] f = absurd (let t = subst (λ (u : List ℕ). after (codes "#!") within_line u ≡ true) f e in cc)
    go true e (c ∷ []) f = absurd (let t = subst (λ (u : List ℕ). after (codes "#!") within_line u ≡ true) f e in let a = both-right (35 == c) false t in cc)
    go true e (c ∷ d ∷ v) f =
        let t = subst (λ (u : List ℕ). after (codes "#!") within_line u ≡ true) f e in
        let a : 35 ≡ c = eqb-true 35 c (both-left (35 == c) (after (codes "!") within_line (d ∷ v)) t) in
        let b : 33 ≡ d = eqb-true 33 d (both-left (33 == d) (within_line v) (both-right (35 == c) (after (codes "!") within_line (d ∷ v)) t)) in
        record { others = v; is = f ∙ ap (λ (x : ℕ). x ∷ d ∷ v) (sym a) ∙ ap (λ (x : ℕ). 35 ∷ x ∷ v) (sym b) }

at_of : {text : List ℕ} {s : ℕ} {qs : List (List ℕ)} {w rest : List ℕ} → Stands text s qs w rest → Begins w → AtSlashOrBrace text s
at_of {s = s} {qs = qs} {w = w} {rest = rest} st b =
    let e : w ++ rest ≡ b.first ∷ (b.others ++ rest) = ap (λ (v : List ℕ). v ++ rest) b.is in
    record {
      pieces = qs;
      first = b.first;
      others = b.others ++ rest;
      is = b.passes;
      stands = record {
        within = st.within;
        splits = st.splits ∙ ap (λ (v : List ℕ). Rattle.js_grammar.specs.Longest.joined qs ++ v) e;
        trivia = subst (λ (v : List ℕ). Rattle.js_grammar.specs.Trivia.are_trivia (s == 0) qs v ≡ true) e st.trivia;
      };
    }

pub choice : (p q : Passing) (text : List ℕ) (s : ℕ) (y z : Lexeme) → NextLexeme p text s y → NextLexeme q text s z → (y ≡ z) ⊎ AtSlashOrBrace text s
choice p q text s y z h k = go h.goal k.goal refl refl
  where
    back : h.word ++ h.rest ≡ k.word ++ k.rest
    back = (stands-same h.stands k.stands).back

    kh : (g : LexicalGoal) → h.goal ≡ g → kind_in g h.word h.rest ≡ Some y.kind
    kh g e = subst (λ (a : LexicalGoal). kind_in a h.word h.rest ≡ Some y.kind) e h.lexeme.kind

    kk : (g : LexicalGoal) → k.goal ≡ g → kind_in g k.word k.rest ≡ Some z.kind
    kk g e = subst (λ (a : LexicalGoal). kind_in a k.word k.rest ≡ Some z.kind) e k.lexeme.kind

    go : (a b : LexicalGoal) → h.goal ≡ a → k.goal ≡ b → (y ≡ z) ⊎ AtSlashOrBrace text s
    go regular_expression b e f = inr (at_of h.stands (pattern_slash h.word y.kind (kh regular_expression e)))
    go template_tail b e f = inr (at_of h.stands (tail_brace h.word y.kind (kh template_tail e)))
    go division regular_expression e f = inr (at_of k.stands (pattern_slash k.word z.kind (kk regular_expression f)))
    go division template_tail e f = inr (at_of k.stands (tail_brace k.word z.kind (kk template_tail f)))
    go hashbang regular_expression e f = inr (at_of k.stands (pattern_slash k.word z.kind (kk regular_expression f)))
    go hashbang template_tail e f = inr (at_of k.stands (tail_brace k.word z.kind (kk template_tail f)))
    go division division e f = inl (lex-same h k (e ∙ sym f))
    go hashbang hashbang e f = inl (lex-same h k (e ∙ sym f))
    go division hashbang e f =
        let b = bang k.word k.rest z.kind (kk hashbang f) in
        absurd (no_plain h.word h.rest (b.others ++ k.rest) y.kind (back ∙ ap (λ (v : List ℕ). v ++ k.rest) b.is) (kh division e))
    go hashbang division e f =
        let b = bang h.word h.rest y.kind (kh hashbang e) in
        absurd (no_plain k.word k.rest (b.others ++ h.rest) z.kind (sym back ∙ ap (λ (v : List ℕ). v ++ h.rest) b.is) (kk division f))
