-- All lexemes of a text are read; a hashbang comment may stand before them.
use Rattle.std.proofs.Common.{ℕ, ◌≡◌, ◌<◌, List, [], ◌∷◌, refl, sym, ap, subst, ◌∙◌, true, false, not, arith, eqb-true, Some, inl, inr}
use Rattle.js_base.specs.declared.kind.Kind.{Kind}
use Rattle.js_base.specs.declared.kind.Kind.TheVariants.{Eof, HashbangComment, Undetermined}
use Rattle.js_base.specs.Kinds.{same_kind}
use Rattle.js_base.proofs.KindLemmas.{kind_of_same}
use Rattle.js_grammar.specs.Characters.{width}
use Rattle.js_grammar.specs.Grammar.{Lexeme, Lexemes, last, next}
use Rattle.js_grammar.specs.Lexed.{Lexed, Lexes, NextLexeme, LexemeBehind, ends_once, passing_of}
use Rattle.js_grammar.specs.Lexemes.{LexicalGoal, division, regular_expression, template_tail, hashbang, kind_in, may_begin}
use Rattle.js_grammar.specs.ReadLexemes.{Faultless, is_read_kind}
use Rattle.js_grammar.specs.Settings.{Goal}
use Rattle.js_grammar.specs.TextReadings.{AreRead, from_text_start, behind_a_hashbang}
use Rattle.std.proofs.lemmas.Bool.{and_parts, false≢true, not-true}
use Rattle.js_cursor.proofs.js_lex.TriviaLemmas.{some_width}
use Rattle.js_cursor.proofs.part_words.KindsOfLexemes.{no_plain, pattern_is, plain_end, tail_is}

-- but at the goal of a hashbang comment each lexeme is read
kind_read : (g : LexicalGoal) (w rest : List ℕ) (k : Kind) → kind_in g w rest ≡ Some k → (g ≡ hashbang → ⊥) → is_read_kind k ≡ true
kind_read division [] rest k h n = ap is_read_kind (plain_end rest k h).0
kind_read division (c ∷ cs) rest k h n = rw (no_plain HashbangComment c cs rest k refl h, no_plain Undetermined c cs rest k refl h) refl
kind_read regular_expression w rest k h n = ap is_read_kind (pattern_is w k h)
kind_read template_tail w rest k h n = elim (tail_is w k h) [ inl e ↦ ap is_read_kind e | inr e ↦ ap is_read_kind e ]
kind_read hashbang w rest k h n = absurd (n refl)

-- it has room, but for the end of the text
some_word : (g : LexicalGoal) (w rest : List ℕ) (k : Kind) → kind_in g w rest ≡ Some k → same_kind Eof k ≡ false → 0 < width w
some_word g (c ∷ cs) rest k h n = some_width c cs
some_word division [] rest k h n = absurd (false≢true (sym n ∙ ap (same_kind Eof) (plain_end rest k h).0))
some_word regular_expression [] rest k h n = cc
some_word template_tail [] rest k h n = cc
some_word hashbang [] rest k h n = cc

module _ (text : List ℕ) (goal : Goal) where
  behind_start : {s : ℕ} {y : Lexeme} → NextLexeme (passing_of goal) text s y → same_kind Eof y.kind ≡ false → 0 < y.to
  behind_start {y = y} l n = let p = some_word l.goal l.word l.rest y.kind l.lexeme.kind n in let t = l.to in omega arith

  -- behind the start no hashbang comment stands
  one_read : {s : ℕ} {y : Lexeme} → 0 < s → NextLexeme (passing_of goal) text s y → Faultless goal text s y
  one_read {y = y} p l = (l, kind_read l.goal l.word l.rest y.kind l.lexeme.kind (λ g. no g))
    where
      no : l.goal ≡ hashbang → ⊥
      no g = let z : y.from ≡ 0 = eqb-true y.from 0 (subst (λ (v : LexicalGoal). may_begin v y.from ≡ true) g l.lexeme.begins) in let f = l.from in absurd (omega arith)

  later : {s : ℕ} (ls : Lexemes) → 0 < s → Lexes (NextLexeme (passing_of goal) text) s ls → ends_once ls ≡ true → Lexes (Faultless goal text) s ls
  later (last x) p l e = one_read p l
  later (next x ls) p l e =
      let q = and_parts (not (same_kind Eof x.kind)) _ e in
      (one_read p l.0, later ls (behind_start l.0 (not-true (same_kind Eof x.kind) q.0)) l.1 q.1)

  anyhow : {y : Lexeme} → (l : NextLexeme (passing_of goal) text 0 y) → l.goal ≡ hashbang → LexemeBehind hashbang text 0 y
  anyhow l g = record { lex = record { trivia = l.trivia; goal = l.goal; word = l.word; rest = l.rest; stands = l.stands; lexeme = l.lexeme; comments = refl; flags = refl; from = l.from; to = l.to; newline = l.newline; escaped = l.escaped; units = l.units }; of_goal = g }

  begun : (x : Lexeme) (ls : Lexemes) (l : NextLexeme (passing_of goal) text 0 x) → Lexes (Faultless goal text) x.to ls → (g : LexicalGoal) → l.goal ≡ g → AreRead text goal (next x ls)
  begun x ls l m hashbang e = behind_a_hashbang (record { comment = x; stands = anyhow l e; others = ls; is = refl; lexed = m })
  begun x ls l m division e = from_text_start ((l, kind_read division l.word l.rest x.kind (subst (λ (v : LexicalGoal). kind_in v l.word l.rest ≡ Some x.kind) e l.lexeme.kind) (λ q. cc)), m)
  begun x ls l m regular_expression e = from_text_start ((l, kind_read regular_expression l.word l.rest x.kind (subst (λ (v : LexicalGoal). kind_in v l.word l.rest ≡ Some x.kind) e l.lexeme.kind) (λ q. cc)), m)
  begun x ls l m template_tail e = from_text_start ((l, kind_read template_tail l.word l.rest x.kind (subst (λ (v : LexicalGoal). kind_in v l.word l.rest ≡ Some x.kind) e l.lexeme.kind) (λ q. cc)), m)

  all_read : (ls : Lexemes) → Lexes (NextLexeme (passing_of goal) text) 0 ls → ends_once ls ≡ true → AreRead text goal ls
  all_read (last x) l e = from_text_start (l, ap is_read_kind (sym (kind_of_same Eof x.kind e)))
  all_read (next x ls) l e =
      let q = and_parts (not (same_kind Eof x.kind)) _ e in
      begun x ls l.0 (later ls (behind_start l.0 (not-true (same_kind Eof x.kind) q.0)) l.1 q.1) l.0.goal refl

pub lexemes_read : (text : List ℕ) (goal : Goal) (ls : Lexemes) → Lexed goal text ls → AreRead text goal ls
lexemes_read text goal ls d = all_read text goal ls d.lexes d.ends
