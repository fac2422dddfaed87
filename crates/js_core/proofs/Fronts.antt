-- How a text begins: a list of directives and items stands at its start, or behind a hashbang comment (ECMA-262, 12.5).
use Rattle.std.proofs.Common.{ℕ, ◌==◌, ◌≡◌, true, false, List, [], ◌∷◌, ◌++◌, Some, refl, sym, ap, subst, arith, ◌∙◌, eqb-true}
use Rattle.std.proofs.lemmas.Bool.{false≢true}
use Rattle.js_base.specs.declared.kind.Kind.{Kind}
use Rattle.js_base.specs.declared.kind.Kind.TheVariants.{HashbangComment}
use Rattle.js_base.specs.Texts.{words}
use Rattle.js_base.specs.declared.token.Token.{Token}
use Rattle.js_grammar.specs.Trees.{Slots, end, tree, Tree}
use Rattle.js_grammar.specs.Characters.{width}
use Rattle.js_grammar.specs.Grammar.{Lexeme, Lexemes, last, next, Takes, Derives}
use Rattle.js_grammar.specs.Longest.{joined}
use Rattle.js_grammar.specs.Lexed.{Lexes, IsLexeme}
use Rattle.js_grammar.specs.Lexemes.{LexicalGoal, kind_in, may_begin, is_escaped, hashbang}
use Rattle.js_grammar.specs.Productions.{Flags, at, Program}
use Rattle.js_grammar.specs.Settings.{Goal}
use Rattle.js_grammar.specs.Table.{rule}
use Rattle.js_grammar.proofs.Alike.{lex-same}
use Rattle.js_grammar.proofs.Calculus.{here_at}
use Rattle.parse_shared.specs.js_lex.Reading.{LexemeBehind}
use Rattle.parse_shared.specs.part_words.Scans.{NoLexeme}
use Rattle.parse_shared.proofs.part_words.KindsOfLexemes.{hashbang_is}
use Rattle.parse_shared.proofs.js_lex.TriviaLemmas.{some_width}
use Rattle.parse_shared.specs.laws_shared.Lexemes.{Faultless, Lex, is_read_kind}
use Rattle.parse_classes.specs.laws_statements.StatementLists.{with_directives}
use Rattle.parse_classes.specs.laws_statements.declared.forms.StatementList.TheVariants.{Text}
use Rattle.parse_shared.proofs.laws_shared.Kept.{faults_aside}
use Rattle.js_core.specs.Kept.{each_of, each_read, comments_before, blanks_before, TellsEach, TellsRead}
use Rattle.js_core.specs.Readings.{AreRead, AreReadAnyhow, from_text_start, behind_a_hashbang, anyhow_from_start, anyhow_behind_hashbang}
use Rattle.js_core.proofs.Hashbangs.{program_label, behind_comment, behind_hashbang, without_hashbang, from_hashbang, from_start, alone}

-- a hashbang comment stands at the text's start
abbrev pub HasHashbang : List ℕ → Type 0
HasHashbang text = (y : Lexeme) × LexemeBehind hashbang text 0 y

pub kind_of_hashbang : {text : List ℕ} {s : ℕ} {y : Lexeme} → LexemeBehind hashbang text s y → y.kind ≡ HashbangComment
kind_of_hashbang {y = y} h = hashbang_is h.lex.word y.kind (subst (λ (g : LexicalGoal). kind_in g h.lex.word h.lex.rest ≡ Some y.kind) h.of_goal h.lex.lexeme.kind)

escaped_of_hashbang : {text : List ℕ} {s : ℕ} {y : Lexeme} → LexemeBehind hashbang text s y → y.escaped ≡ false
unfolding words
escaped_of_hashbang h = h.lex.escaped ∙ ap (λ (k : Kind). is_escaped k h.lex.word) (kind_of_hashbang h)

-- where no hashbang comment is a lexeme, none stands
no_width : (w : List ℕ) → width w ≡ 0 → w ≡ []
no_width [] e = refl
no_width (c ∷ w) e = absurd (let p = some_width c w in omega arith)

pub none_begins : {text : List ℕ} → NoLexeme hashbang text 0 → HasHashbang text → ⊥
none_begins {text} n (y, h) =
    let begins : (y.from == 0) ≡ true = subst (λ (g : LexicalGoal). may_begin g y.from ≡ true) h.of_goal h.lex.lexeme.begins in
    let first : y.from ≡ 0 = eqb-true y.from 0 begins in
    let empty : joined h.lex.trivia ≡ [] = no_width (joined h.lex.trivia) (let f = h.lex.from in omega arith) in
    n h.lex.word h.lex.rest y.kind (h.lex.stands.splits ∙ ap (λ (v : List ℕ). v ++ (h.lex.word ++ h.lex.rest)) empty) (subst (λ (i : ℕ). IsLexeme hashbang i h.lex.word h.lex.rest y.kind) first (subst (λ (g : LexicalGoal). IsLexeme g y.from h.lex.word h.lex.rest y.kind) h.of_goal h.lex.lexeme))

-- no hashbang comment is read
unread : {text : List ℕ} (goal : Goal) {s : ℕ} {y : Lexeme} → Faultless goal text s y → HashbangComment ≡ y.kind → ⊥
unread goal {y = y} l k = false≢true (subst (λ (v : Kind). is_read_kind v ≡ true) (sym k) l.1)

-- What Program derives over lexemes that are read is what a list derives from the place s, with its front; what was kept for them is of the list's lexemes.
pub record Parts (text : List ℕ) (source : Goal) (f : Flags) (s : ℕ) (front : Slots → Slots) (put : Lexemes → Lexemes) (t : Tree) (ls : Lexemes) (l : AreRead text source ls) (place : ℕ) (final : Lexeme) : Type 0 where
  pub slots : Slots
  pub others : Lexemes
  pub lexed : Lexes (Faultless source text) s others
  pub derived : Takes rule (with_directives Text f) end slots s others end place (last final)
  pub lexemes : ls ≡ put others
  pub is : tree t.label t.slots end ≡ tree (program_label final.to) (front slots) end
  pub comments : each_read comments_before text source ls l ≡ each_of comments_before text source s others lexed
  pub blanks : each_read blanks_before text source ls l ≡ each_of blanks_before text source s others lexed
  pub tokens : (ts : List Token) → TellsEach others ts → TellsRead text source ls l ts

-- The text's list begins at the place s, behind this front.
pub record Front (text : List ℕ) (source : Goal) (f : Flags) (s : ℕ) (front : Slots → Slots) (put : Lexemes → Lexemes) : Type 0 where
  pub joins : (ls : Lexemes) → Lexes (Faultless source text) s ls → AreRead text source (put ls)
  pub derives : (slots : Slots) (ls : Lexemes) (place : ℕ) (final : Lexeme) → Takes rule (with_directives Text f) end slots s ls end place (last final) → Takes rule (rule (at Program f)) end (tree (program_label final.to) (front slots) end) 0 (put ls) end place (last final)
  pub parts : (t : Tree) (ls : Lexemes) (l : AreRead text source ls) (place : ℕ) (final : Lexeme) → Derives rule (at Program f) t 0 ls place (last final) → Parts text source f s front put t ls l place final

-- at the start
pub at_the_start : {text : List ℕ} {source : Goal} {f : Flags} → (HasHashbang text → ⊥) → Front text source f 0 (λ us. us) (λ ls. ls)
at_the_start {text} {source} {f} n = record {
  joins = λ ls l. from_text_start l;
  derives = λ slots ls place final d. from_start d;
  parts = go;
}
  where
    go : (t : Tree) (ls : Lexemes) (l : AreRead text source ls) (place : ℕ) (final : Lexeme) → Derives rule (at Program f) t 0 ls place (last final) → Parts text source f 0 (λ us. us) (λ ls. ls) t ls l place final
    go t ls (from_text_start l) place final d =
        let p = without_hashbang (unread source (here_at (Faultless source text) ls l)) d in
        record { slots = p.slots; others = ls; lexed = l; derived = p.rest; lexemes = refl; is = p.is; comments = refl; blanks = refl; tokens = λ ts h. h }
    go t ls (behind_a_hashbang b) place final d = absurd (n (b.comment, b.stands))

-- behind a hashbang comment
pub behind_a_comment : {text : List ℕ} {source : Goal} {f : Flags} {y : Lexeme} → LexemeBehind hashbang text 0 y → Front text source f y.to (behind_comment y) (λ ls. next y ls)
behind_a_comment {text} {source} {f} {y} h = record {
  joins = λ ls l. behind_a_hashbang (record { comment = y; stands = h; others = ls; is = refl; lexed = l });
  derives = λ slots ls place final d. from_hashbang (kind_of_hashbang h) (escaped_of_hashbang h) d;
  parts = go;
}
  where
    go : (t : Tree) (ls : Lexemes) (l : AreRead text source ls) (place : ℕ) (final : Lexeme) → Derives rule (at Program f) t 0 ls place (last final) → Parts text source f y.to (behind_comment y) (λ ms. next y ms) t ls l place final
    go t ls (from_text_start l) place final d =
        let z = here_at (Faultless source text) ls l in
        absurd (unread source z (sym (kind_of_hashbang h) ∙ ap (λ (v : Lexeme). v.kind) (alone h.lex h.of_goal (faults_aside source z).0)))
    go t ls (behind_a_hashbang b) place final d =
        let same : b.comment ≡ y = lex-same b.stands.lex h.lex (b.stands.of_goal ∙ sym h.of_goal) in
        let p = behind_hashbang (sym (kind_of_hashbang b.stands)) (subst (λ (ms : Lexemes). Derives rule (at Program f) t 0 ms place (last final)) b.is d) in
        subst (λ (c : Lexeme). Parts text source f c.to (behind_comment c) (λ ms. next c ms) t ls (behind_a_hashbang b) place final) same (record { slots = p.slots; others = b.others; lexed = b.lexed; derived = p.rest; lexemes = b.is; is = p.is; comments = refl; blanks = refl; tokens = λ ts k. k })

-- ---- lexemes that may have faults

unread_anyhow : {text : List ℕ} {s : ℕ} {y : Lexeme} → Lex text s y → HashbangComment ≡ y.kind → ⊥
unread_anyhow {y = y} l k = false≢true (subst (λ (v : Kind). is_read_kind v ≡ true) (sym k) l.1)

-- what a list derives from the place s
pub record LooseParts (text : List ℕ) (f : Flags) (s : ℕ) (place : ℕ) (final : Lexeme) : Type 0 where
  pub slots : Slots
  pub others : Lexemes
  pub lexed : Lexes (Lex text) s others
  pub derived : Takes rule (with_directives Text f) end slots s others end place (last final)

-- What Program derives over lexemes that are read is what a list derives from the place s, whichever faults pass.
abbrev pub LooseFront : List ℕ → Flags → ℕ → Type 0
LooseFront text f s = (t : Tree) (ls : Lexemes) (l : AreReadAnyhow text ls) (place : ℕ) (final : Lexeme) → Derives rule (at Program f) t 0 ls place (last final) → LooseParts text f s place final

-- at the start
pub loosely_at_start : {text : List ℕ} → (HasHashbang text → ⊥) → (f : Flags) → LooseFront text f 0
loosely_at_start {text} n f t ls (anyhow_from_start l) place final d = let p = without_hashbang (unread_anyhow (here_at (Lex text) ls l)) d in record { slots = p.slots; others = ls; lexed = l; derived = p.rest }
loosely_at_start n f t ls (anyhow_behind_hashbang y others b e l) place final d = absurd (n (y, b))

-- behind a hashbang comment
pub loosely_behind : {text : List ℕ} {y : Lexeme} → LexemeBehind hashbang text 0 y → (f : Flags) → LooseFront text f y.to
loosely_behind {text} h f t ls (anyhow_from_start l) place final d =
    let z = here_at (Lex text) ls l in
    absurd (unread_anyhow z (sym (kind_of_hashbang h) ∙ ap (λ (v : Lexeme). v.kind) (alone h.lex h.of_goal z.0)))
loosely_behind {text} {y} h f t ls (anyhow_behind_hashbang c others b e l) place final d =
    let same : c ≡ y = lex-same b.lex h.lex (b.of_goal ∙ sym h.of_goal) in
    let p = behind_hashbang (sym (kind_of_hashbang b)) (subst (λ (ms : Lexemes). Derives rule (at Program f) t 0 ms place (last final)) e d) in
    subst (λ (v : Lexeme). LooseParts text f v.to place final) same (record { slots = p.slots; others = others; lexed = l; derived = p.rest })
