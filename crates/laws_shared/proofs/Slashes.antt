-- What begins with a slash or with `}`: the division sign, `/=` and the brace by the plain lexical goal, a regular expression or a part of a template by its own (ECMA-262, 12).
use Rattle.std.proofs.Common.{ℕ, ◌+◌, ◌≡◌, ◌==◌, ◌⊎◌, inl, inr, Bool, true, false, not, ◌&&◌, ◌||◌, List, [], ◌∷◌, ◌++◌, Option, Some, None, refl, sym, ap, subst, ◌∙◌}
use Rattle.std.specs.Prelude.{codes, is_some}
use Rattle.std.proofs.lemmas.Bool.{false≢true, and_from, eqb-true}
use Rattle.js_base.specs.declared.kind.Kind.{Kind}
use Rattle.js_base.specs.declared.kind.Kind.TheVariants.{Eof, HashbangComment, RCurly, RegExp, Slash, SlashEq, TemplateMiddle, TemplateTail}
use Rattle.js_base.specs.part_text.Characters.{one_of}
use Rattle.js_base.specs.Kinds.{same_kind, one_of_kinds}
use Rattle.js_base.specs.Texts.{words, punctuators}
use Rattle.js_base.proofs.KindLemmas.{kind_of_same}
use Rattle.js_grammar.specs.Characters.{width}
use Rattle.js_grammar.specs.Grammar.{Lexeme}
use Rattle.js_grammar.specs.Longest.{joined}
use Rattle.js_grammar.specs.Trivia.{are_trivia}
use Rattle.js_grammar.specs.RegularExpressions.{flags, flagged, behind_pattern}
use Rattle.js_grammar.specs.Templates.{closes_template, part_kind, template_tail_kind}
use Rattle.js_grammar.proofs.Lexemes.{first_or}
use Rattle.js_grammar.proofs.Looks.{same_self}
use Rattle.js_grammar.specs.Lexemes.{LexicalGoal, division, regular_expression, template_tail, hashbang, kind_in, plain_kind, lexemes_in, is_escaped, units_of}
use Rattle.js_grammar.specs.Lexed.{NextLexeme, IsLexeme, all_faults}
use Rattle.js_grammar.proofs.QuickLexemes.{none_goes_on, none_goes_on-is}
use Rattle.js_cursor.specs.js_lex.Reading.{LexemeBehind}
use Rattle.js_cursor.proofs.part_words.KindsOfLexemes.{no_plain, opened, plain_end, pattern_is, tail_is, hashbang_is}
use Rattle.js_cursor.proofs.part_scan.Punctuators.{kind_some}
use Rattle.laws_shared.specs.Lexemes.{other_goals, signs_of, slashes, template_tails}

-- no characters of the plain goal are of a kind without opening
not_plain : (j : Kind) → opened j ≡ None → same_kind Eof j ≡ false → (w rest : List ℕ) → plain_kind w rest ≡ Some j → ⊥
not_plain j o e [] rest q = false≢true (sym e ∙ ap (same_kind Eof) (plain_end rest j q).0)
not_plain j o e (c ∷ cs) rest q = false≢true (sym (no_plain j c cs rest j o q) ∙ same_self j)

-- a lexeme of this kind is one of its own lexical goal
pub pattern_goal : {text : List ℕ} {s : ℕ} {y : Lexeme} (h : NextLexeme all_faults text s y) → y.kind ≡ RegExp → h.goal ≡ regular_expression
pattern_goal {y = y} h k = go h.goal refl
  where
    of_goal : (g : LexicalGoal) → h.goal ≡ g → kind_in g h.word h.rest ≡ Some RegExp
    of_goal g e = subst (λ (v : LexicalGoal). kind_in v h.word h.rest ≡ Some RegExp) e (h.lexeme.kind ∙ ap Some k)

    tail : (RegExp ≡ TemplateMiddle) ⊎ (RegExp ≡ TemplateTail) → ⊥
    tail (inl e) = cc
    tail (inr e) = cc

    go : (g : LexicalGoal) → h.goal ≡ g → h.goal ≡ regular_expression
    go regular_expression e = e
    go division e = absurd (not_plain RegExp refl refl h.word h.rest (of_goal division e))
    go template_tail e = absurd (tail (tail_is h.word RegExp (of_goal template_tail e)))
    go hashbang e = absurd (let z : RegExp ≡ HashbangComment = hashbang_is h.word RegExp (of_goal hashbang e) in cc)

-- so is a part of a template that begins with `}`
tail_goal_of : {text : List ℕ} {s : ℕ} {y : Lexeme} (j : Kind) → opened j ≡ None → same_kind Eof j ≡ false → same_kind RegExp j ≡ false → same_kind HashbangComment j ≡ false → (h : NextLexeme all_faults text s y) → y.kind ≡ j → h.goal ≡ template_tail
tail_goal_of {y = y} j o n r c h k = go h.goal refl
  where
    of_goal : (g : LexicalGoal) → h.goal ≡ g → kind_in g h.word h.rest ≡ Some j
    of_goal g e = subst (λ (v : LexicalGoal). kind_in v h.word h.rest ≡ Some j) e (h.lexeme.kind ∙ ap Some k)

    go : (g : LexicalGoal) → h.goal ≡ g → h.goal ≡ template_tail
    go template_tail e = e
    go division e = absurd (not_plain j o n h.word h.rest (of_goal division e))
    go regular_expression e = absurd (false≢true (sym r ∙ ap (same_kind RegExp) (pattern_is h.word j (of_goal regular_expression e))))
    go hashbang e = absurd (false≢true (sym c ∙ ap (same_kind HashbangComment) (hashbang_is h.word j (of_goal hashbang e))))

pub tail_goal : {text : List ℕ} {s : ℕ} {y : Lexeme} (h : NextLexeme all_faults text s y) → one_of_kinds template_tails y.kind ≡ true → h.goal ≡ template_tail
tail_goal {text} {s} {y} h t = go (same_kind TemplateMiddle y.kind) refl (same_kind TemplateTail y.kind) refl t
  where
    go : (b : Bool) → same_kind TemplateMiddle y.kind ≡ b → (c : Bool) → same_kind TemplateTail y.kind ≡ c → (b || (c || false)) ≡ true → h.goal ≡ template_tail
    go true e c f q = tail_goal_of TemplateMiddle refl refl refl refl h (sym (kind_of_same TemplateMiddle y.kind e))
    go false e true f q = tail_goal_of TemplateTail refl refl refl refl h (sym (kind_of_same TemplateTail y.kind f))
    go false e false f q = absurd (false≢true q)

-- its first two characters
record Opens (w : List ℕ) : Type 0 where
  second : ℕ
  others : List ℕ
  is : w ≡ 47 ∷ second ∷ others
  opens_none : one_of (codes "*/") second ≡ false

opens_slash : (w : List ℕ) (k : Kind) → flagged (flags w) ≡ Some k → Opens w
opens_slash [] k h = absurd (let z = h in cc)
opens_slash (a ∷ []) k h = absurd (let z = h in cc)
opens_slash (a ∷ c ∷ cs) k h = go (a == 47) (one_of (codes "*/") c) refl refl
  where
    of_both : (b d : Bool) → (a == 47) ≡ b → one_of (codes "*/") c ≡ d → flagged (elim (b && not d) as (λ _. Option (List ℕ)) [ true ↦ behind_pattern false false (c ∷ cs) | false ↦ None ]) ≡ Some k
    of_both b d e f = (λ i. flagged (elim (sym e i && not (sym f i)) as (λ _. Option (List ℕ)) [ true ↦ behind_pattern false false (c ∷ cs) | false ↦ None ])) ∙ h

    go : (b d : Bool) → (a == 47) ≡ b → one_of (codes "*/") c ≡ d → Opens (a ∷ c ∷ cs)
    go true false e f = record { second = c; others = cs; is = ap (λ (x : ℕ). x ∷ c ∷ cs) (eqb-true a 47 e); opens_none = f }
    go true true e f = absurd (let z = of_both true true e f in cc)
    go false d e f = absurd (let z = of_both false d e f in cc)

-- ---- the sign that stands there by the plain goal

slash_longest : (i c : ℕ) (rest : List ℕ) → one_of (codes "*/") c ≡ false → (c == 61) ≡ false → IsLexeme division i (47 ∷ []) (c ∷ rest) Slash
unfolding punctuators
slash_longest i c rest n e = record { longest = and_from (lexemes_in division (47 ∷ []) (c ∷ rest)) _ (ap is_some kind) (none_goes_on-is division (47 ∷ []) (c ∷ rest) none); kind = kind; begins = refl; apart = refl }
  where
    kind : kind_in division (47 ∷ []) (c ∷ rest) ≡ Some Slash
    kind = kind_some (47 ∷ []) (c ∷ rest) Slash refl (ap not n)

    none : none_goes_on division (47 ∷ []) (c ∷ rest) ≡ true
    none = rw (none_goes_on, e) refl

slash_equals_longest : (i : ℕ) (rest : List ℕ) → IsLexeme division i (47 ∷ 61 ∷ []) rest SlashEq
unfolding punctuators
slash_equals_longest i rest = record { longest = and_from (lexemes_in division (47 ∷ 61 ∷ []) rest) _ (ap is_some kind) (none_goes_on-is division (47 ∷ 61 ∷ []) rest (none rest)); kind = kind; begins = refl; apart = refl }
  where
    kind : kind_in division (47 ∷ 61 ∷ []) rest ≡ Some SlashEq
    kind = kind_some (47 ∷ 61 ∷ []) rest SlashEq refl refl

    none : (rest : List ℕ) → none_goes_on division (47 ∷ 61 ∷ []) rest ≡ true
    none [] = refl
    none (d ∷ rest) = refl

brace_longest : (i : ℕ) (rest : List ℕ) → IsLexeme division i (125 ∷ []) rest RCurly
unfolding punctuators
brace_longest i rest = record { longest = and_from (lexemes_in division (125 ∷ []) rest) _ (ap is_some kind) (none_goes_on-is division (125 ∷ []) rest (none rest)); kind = kind; begins = refl; apart = refl }
  where
    kind : kind_in division (125 ∷ []) rest ≡ Some RCurly
    kind = kind_some (125 ∷ []) rest RCurly refl refl

    none : (rest : List ℕ) → none_goes_on division (125 ∷ []) rest ≡ true
    none [] = refl
    none (d ∷ rest) = refl

-- behind a place from which a lexeme of another goal may be read, by the plain goal one of its signs stands
pub record SignThere (text : List ℕ) (s : ℕ) (y : Lexeme) : Type 0 where
  pub lexeme : Lexeme
  pub stands : LexemeBehind division text s lexeme
  pub is : one_of_kinds (signs_of y.kind) lexeme.kind ≡ true
  pub from : lexeme.from ≡ y.from
  pub newline : lexeme.newline ≡ y.newline
  pub escaped : lexeme.escaped ≡ y.escaped

of_sign : {text : List ℕ} {s : ℕ} {y : Lexeme} → (h : NextLexeme all_faults text s y) → y.escaped ≡ false → (w rest : List ℕ) (j : Kind) → h.word ++ h.rest ≡ w ++ rest → one_of_kinds (signs_of y.kind) j ≡ true → is_escaped j w ≡ false → IsLexeme division y.from w rest j → SignThere text s y
of_sign {text} {s} {y} h plain w rest j e i n l = record {
  lexeme = record { kind = j; from = y.from; to = y.from + width w; newline = y.newline; escaped = false; units = units_of j w };
  stands = record {
    lex = record {
      trivia = h.trivia;
      goal = division;
      word = w;
      rest = rest;
      stands = record { within = h.stands.within; splits = h.stands.splits ∙ ap (λ (v : List ℕ). joined h.trivia ++ v) e; trivia = subst (λ (v : List ℕ). are_trivia (s == 0) h.trivia v ≡ true) e h.stands.trivia };
      lexeme = l;
      comments = refl;
      flags = refl;
      from = h.from;
      to = refl;
      newline = h.newline;
      escaped = sym n;
      units = refl;
    };
    of_goal = refl;
  };
  is = i;
  from = refl;
  newline = refl;
  escaped = sym plain;
}

-- a regular expression: one of the two slashes
slash_there : {text : List ℕ} {s : ℕ} {y : Lexeme} → NextLexeme all_faults text s y → y.kind ≡ RegExp → SignThere text s y
unfolding words
slash_there {text} {s} {y} h k = go (o.second == 61) refl
  where
    o : Opens h.word
    o = opens_slash h.word RegExp (subst (λ (g : LexicalGoal). kind_in g h.word h.rest ≡ Some RegExp) (pattern_goal h k) (h.lexeme.kind ∙ ap Some k))

    here : h.word ++ h.rest ≡ 47 ∷ o.second ∷ (o.others ++ h.rest)
    here = ap (λ (w : List ℕ). w ++ h.rest) o.is

    plain : y.escaped ≡ false
    plain = h.escaped ∙ ap (λ (v : Kind). is_escaped v h.word) k

    is_sign : (j : Kind) → one_of_kinds slashes j ≡ true → one_of_kinds (signs_of y.kind) j ≡ true
    is_sign j i = subst (λ (v : Kind). one_of_kinds (signs_of v) j ≡ true) (sym k) i

    go : (b : Bool) → (o.second == 61) ≡ b → SignThere text s y
    go false e = of_sign h plain (47 ∷ []) (o.second ∷ (o.others ++ h.rest)) Slash here (is_sign Slash refl) refl (slash_longest y.from o.second (o.others ++ h.rest) o.opens_none e)
    go true e = of_sign h plain (47 ∷ 61 ∷ []) (o.others ++ h.rest) SlashEq (here ∙ ap (λ (c : ℕ). 47 ∷ c ∷ (o.others ++ h.rest)) (eqb-true o.second 61 e)) (is_sign SlashEq refl) refl (slash_equals_longest y.from (o.others ++ h.rest))

-- a part of a template begins with a brace
opens_brace : (w : List ℕ) (k : Kind) → template_tail_kind w ≡ Some k → (others : List ℕ) × (w ≡ 125 ∷ others)
opens_brace [] k h = absurd (let z = h in cc)
opens_brace (c ∷ cs) k h = go (c == 125) refl h
  where
    go : (b : Bool) → (c == 125) ≡ b → elim b as (λ _. Option Kind) [ true ↦ part_kind TemplateTail TemplateMiddle (closes_template false false cs) | false ↦ None ] ≡ Some k → (others : List ℕ) × (c ∷ cs ≡ 125 ∷ others)
    go true e q = (cs, ap (λ (x : ℕ). x ∷ cs) (eqb-true c 125 e))
    go false e q = absurd (let z = q in cc)

no_escape : (k : Kind) (w : List ℕ) → one_of_kinds template_tails k ≡ true → is_escaped k w ≡ false
unfolding words
no_escape k w t = first_or (λ (v : Kind). is_escaped v w ≡ false) TemplateMiddle k _ _ refl t refl (λ t. first_or (λ (v : Kind). is_escaped v w ≡ false) TemplateTail k _ _ refl t refl (λ t. absurd (false≢true t)))

tail_signs : (k : Kind) → one_of_kinds template_tails k ≡ true → one_of_kinds (signs_of k) RCurly ≡ true
tail_signs k t = first_or (λ (v : Kind). one_of_kinds (signs_of v) RCurly ≡ true) TemplateMiddle k _ _ refl t refl (λ t. first_or (λ (v : Kind). one_of_kinds (signs_of v) RCurly ≡ true) TemplateTail k _ _ refl t refl (λ t. absurd (false≢true t)))

brace_there : {text : List ℕ} {s : ℕ} {y : Lexeme} → NextLexeme all_faults text s y → one_of_kinds template_tails y.kind ≡ true → SignThere text s y
unfolding words
brace_there {y = y} h t =
    let o = opens_brace h.word y.kind (subst (λ (g : LexicalGoal). kind_in g h.word h.rest ≡ Some y.kind) (tail_goal h t) h.lexeme.kind) in
    of_sign h (h.escaped ∙ no_escape y.kind h.word t) (125 ∷ []) (o.0 ++ h.rest) RCurly (ap (λ (w : List ℕ). w ++ h.rest) o.1) (tail_signs y.kind t) refl (brace_longest y.from (o.0 ++ h.rest))

-- whichever of them
pub sign_there : {text : List ℕ} {s : ℕ} {y : Lexeme} → NextLexeme all_faults text s y → one_of_kinds other_goals y.kind ≡ true → SignThere text s y
sign_there {text} {s} {y} h o = go (same_kind RegExp y.kind) refl o
  where
    go : (b : Bool) → same_kind RegExp y.kind ≡ b → (b || one_of_kinds template_tails y.kind) ≡ true → SignThere text s y
    go true e q = slash_there h (sym (kind_of_same RegExp y.kind e))
    go false e q = brace_there h q
