-- The trivia of a core text, and the lexeme behind it.
use Rattle.std.proofs.Common.{◌≡◌, ◌<◌, ℕ, ◌+◌, ◌==◌, Bool, true, false, List, [], ◌∷◌, ◌++◌, refl, sym, ap, subst, ◌∙◌, not, ◌&&◌, ◌||◌, length, arith, nat_lt}
use Rattle.std.proofs.lemmas.Bool.{and_right, and_left}
use Rattle.std.proofs.Math.Bool.{or-false}
use Rattle.std.specs.Prelude.{codes, bytes_eq}
use Rattle.std.specs.List.{list_all}
use Rattle.js_base.specs.Kinds.{one_of_kinds}
use Rattle.js_base.specs.Texts.{text_of}
use Rattle.js_base.specs.part_text.Characters.{one_of, is_decimal, is_line_terminator}
use Rattle.js_grammar.specs.Characters.{width, is_identifier_start, is_white_space, has_line_terminator, begins}
use Rattle.js_grammar.specs.Longest.{longest, none_longer, joined, none_begins}
use Rattle.js_grammar.specs.Trivia.{after, within_line, closes_comment, is_blank, is_single_line_comment, is_multi_line_comment, is_html_open, is_html_close, is_html_comment, is_trivia_piece, are_trivia, lack_html_comments}
use Rattle.js_base.specs.Keywords.{keyword_of}
use Rattle.js_grammar.specs.Names.{is_plain_name}
use Rattle.js_grammar.specs.Lexemes.{may_precede}
use Rattle.js_grammar.specs.CoreTexts.{is_core_piece, is_core_blank, is_ascii_name, is_core_number, core_punctuators, core_words, is_core_use, are_core, ends_in_glue, is_glue, starts, occurs}
use Rattle.js_grammar.specs.Strings.{nothing_left}
use Rattle.js_grammar.specs.Grammar.{last, next}
use Rattle.js_grammar.specs.CorePieces.{piece_lexeme, end_lexeme, lexemes_from}
use Rattle.js_grammar.proofs.LongestLemmas.{both-left, both-right, both, not-true}
use Rattle.js_grammar.proofs.Finding.{neither, neither-left, neither-right, member, found-all}
use Rattle.js_grammar.proofs.CoreLemmas.{none_longer-from}
use Rattle.js_grammar.proofs.CoreFirst.{is_core_first, decimal-ascii, is_mark, IsMark, punctuator_mark, first_passes, Sort, blank, name, number, string, punctuator, sort, sort_first}
use Rattle.js_grammar.proofs.CoreNames.{Before, IsPlain, ascii, core_ascii, plain_name}
use Rattle.js_grammar.proofs.CoreNumbers.{nothing-nil, plain_number}
use Rattle.js_grammar.proofs.CorePunctuators.{plain_punctuator}
use Rattle.js_grammar.proofs.CoreStrings.{plain_string}
use Rattle.js_grammar.proofs.CoreTold.{Told, told_name, told_number, told_string, told_punctuator}

abbrev pub blanks : List ℕ
blanks = 32 ∷ 9 ∷ 13 ∷ 10 ∷ []

-- two characters or more that begin with a blank are no trivia
blank_longer : (first : Bool) (c d : ℕ) (x more : List ℕ) → one_of blanks c ≡ true → is_trivia_piece first (c ∷ d ∷ x) more ≡ false
blank_longer first c d x more h =
    let slash : (47 == c) ≡ false = not-true (47 == c) (member (λ a. not (47 == a)) blanks c h refl) in
    let less : (60 == c) ≡ false = not-true (60 == c) (member (λ a. not (60 == a)) blanks c h refl) in
    let minus : (45 == c) ≡ false = not-true (45 == c) (member (λ a. not (45 == a)) blanks c h refl) in
    neither (is_single_line_comment (c ∷ d ∷ x)) (is_multi_line_comment (c ∷ d ∷ x) || (is_html_open (c ∷ d ∷ x) || (first && is_html_close (c ∷ d ∷ x))))
    (and_left (47 == c) (after (47 ∷ []) within_line (d ∷ x)) slash)
    (neither (is_multi_line_comment (c ∷ d ∷ x)) (is_html_open (c ∷ d ∷ x) || (first && is_html_close (c ∷ d ∷ x)))
    (and_left (47 == c) (after (42 ∷ []) (closes_comment false) (d ∷ x)) slash)
    (neither (is_html_open (c ∷ d ∷ x)) (first && is_html_close (c ∷ d ∷ x))
    (and_left (60 == c) (after (codes "!--") within_line (d ∷ x)) less)
    (and_right first (is_html_close (c ∷ d ∷ x)) (and_left (45 == c) (after (codes "->") within_line (d ∷ x)) minus))))

pub blank_piece : (first : Bool) (c : ℕ) (rest : List ℕ) → one_of blanks c ≡ true → longest (is_trivia_piece first) (c ∷ []) rest ≡ true
blank_piece first c rest h =
    let w : (is_white_space c || is_line_terminator c) ≡ true = member (λ a. is_white_space a || is_line_terminator a) blanks c h refl in
    both (is_trivia_piece first (c ∷ []) rest) (none_longer (is_trivia_piece first) (c ∷ []) rest)
    (ap (λ (b : Bool). b || (is_single_line_comment (c ∷ []) || (is_multi_line_comment (c ∷ []) || (is_html_open (c ∷ []) || (first && is_html_close (c ∷ [])))))) w)
    (none_longer-from (is_trivia_piece first) (c ∷ []) rest (λ d x more e. blank_longer first c d x more h))

pub blank_no_html : (c : ℕ) → one_of blanks c ≡ true → is_html_comment (c ∷ []) ≡ false
blank_no_html c h =
    let less : (60 == c) ≡ false = not-true (60 == c) (member (λ a. not (60 == a)) blanks c h refl) in
    let minus : (45 == c) ≡ false = not-true (45 == c) (member (λ a. not (45 == a)) blanks c h refl) in
    neither (is_html_open (c ∷ [])) (is_html_close (c ∷ [])) (and_left (60 == c) (after (codes "!--") within_line []) less) (and_left (45 == c) (after (codes "->") within_line []) minus)

-- what a lexeme of a core text begins with
abbrev pub is_lexeme_first : ℕ → Bool
is_lexeme_first c = is_core_first c && not (is_white_space c || is_line_terminator c)

-- a beginning of a beginning
pub after-starts : (a w more : List ℕ) (p : List ℕ → Bool) → after a p w ≡ true → starts a (w ++ more) ≡ true
after-starts [] w more p h = refl
after-starts (x ∷ a) [] more p h = cc
after-starts (x ∷ a) (c ∷ w) more p h = both (x == c) (starts a (w ++ more)) (both-left (x == c) (after a p w) h) (after-starts a w more p (both-right (x == c) (after a p w) h))

pub not_after : (a w more rest : List ℕ) (p : List ℕ → Bool) → rest ≡ w ++ more → starts a rest ≡ false → after a p w ≡ false
not_after a w more rest p e n = go (after a p w) refl
  where
    go : (b : Bool) → after a p w ≡ b → after a p w ≡ false
    go false f = f
    go true f = let s = after-starts a w more p f in let t : starts a (w ++ more) ≡ false = subst (λ (v : List ℕ). starts a v ≡ false) e n in cc

-- where a lexeme begins, and neither `<!--` nor `-->` stands, no trivia begins
pub no_trivia : (first : Bool) (c : ℕ) (cs : List ℕ) → is_lexeme_first c ≡ true → starts (codes "<!--") (c ∷ cs) ≡ false → starts (codes "-->") (c ∷ cs) ≡ false → none_begins (is_trivia_piece first) (c ∷ cs) ≡ true
no_trivia first c cs h o k = none_longer-from (is_trivia_piece first) [] (c ∷ cs) (λ d x more e.
    let same : c ≡ d = cc in
    let w : (is_white_space d || is_line_terminator d) ≡ false = subst (λ (a : ℕ). (is_white_space a || is_line_terminator a) ≡ false) same (not-true (is_white_space c || is_line_terminator c) (both-right (is_core_first c) (not (is_white_space c || is_line_terminator c)) h)) in
    let f : is_core_first d ≡ true = subst (λ (a : ℕ). is_core_first a ≡ true) same (both-left (is_core_first c) (not (is_white_space c || is_line_terminator c)) h) in
    let slash : (47 == d) ≡ false = not-true (47 == d) (ascii is_core_first (λ a. not (47 == a)) d refl (core_ascii d f) f) in
    neither (is_blank (d ∷ x)) (is_single_line_comment (d ∷ x) || (is_multi_line_comment (d ∷ x) || (is_html_open (d ∷ x) || (first && is_html_close (d ∷ x)))))
    (blank_of d x w)
    (neither (is_single_line_comment (d ∷ x)) (is_multi_line_comment (d ∷ x) || (is_html_open (d ∷ x) || (first && is_html_close (d ∷ x))))
    (and_left (47 == d) (after (47 ∷ []) within_line x) slash)
    (neither (is_multi_line_comment (d ∷ x)) (is_html_open (d ∷ x) || (first && is_html_close (d ∷ x)))
    (and_left (47 == d) (after (42 ∷ []) (closes_comment false) x) slash)
    (neither (is_html_open (d ∷ x)) (first && is_html_close (d ∷ x))
    (not_after (codes "<!--") (d ∷ x) more (c ∷ cs) within_line e o)
    (and_right first (is_html_close (d ∷ x)) (not_after (codes "-->") (d ∷ x) more (c ∷ cs) within_line e k))))))
  where
    blank_of : (d : ℕ) (x : List ℕ) → (is_white_space d || is_line_terminator d) ≡ false → is_blank (d ∷ x) ≡ false
    blank_of d [] w = w
    blank_of d (e ∷ x) w = refl

-- neither `<!--` nor `-->` occurs
pub record Lacks (cs : List ℕ) : Type 0 where
  pub open_mark : occurs (codes "<!--") cs ≡ false
  pub close_mark : occurs (codes "-->") cs ≡ false

occurs-behind : (a u v : List ℕ) → occurs a (u ++ v) ≡ false → occurs a v ≡ false
occurs-behind a [] v h = h
occurs-behind a (c ∷ u) v h = occurs-behind a u v (neither-right (starts a (c ∷ u ++ v)) (occurs a (u ++ v)) h)

pub lacks-behind : (u v : List ℕ) → Lacks (u ++ v) → Lacks v
lacks-behind u v l = record { open_mark = occurs-behind (codes "<!--") u v l.open_mark; close_mark = occurs-behind (codes "-->") u v l.close_mark }

-- a piece and the others
abbrev pub Split : Bool → List ℕ → List (List ℕ) → Type 0
Split glued p ps = (longest is_core_piece p (joined ps) ≡ true) × (is_core_use glued p (joined ps) ≡ true) × (are_core (ends_in_glue p) ps ≡ true)

pub split : (glued : Bool) (p : List ℕ) (ps : List (List ℕ)) → are_core glued (p ∷ ps) ≡ true → Split glued p ps
split glued p ps h =
    let k = both-right (longest is_core_piece p (joined ps)) (is_core_use glued p (joined ps) && are_core (ends_in_glue p) ps) h in
    (both-left (longest is_core_piece p (joined ps)) (is_core_use glued p (joined ps) && are_core (ends_in_glue p) ps) h, both-left (is_core_use glued p (joined ps)) (are_core (ends_in_glue p) ps) k, both-right (is_core_use glued p (joined ps)) (are_core (ends_in_glue p) ps) k)

no_empty : (rest : List ℕ) → is_core_piece [] rest ≡ false
unfolding core_punctuators
no_empty rest = refl

pub piece_of : (glued : Bool) (c : ℕ) (cs : List ℕ) (ps : List (List ℕ)) → are_core glued ((c ∷ cs) ∷ ps) ≡ true → Sort c cs (joined ps)
piece_of glued c cs ps h = sort c cs (joined ps) (both-left (is_core_piece (c ∷ cs) (joined ps)) (none_longer is_core_piece (c ∷ cs) (joined ps)) (split glued (c ∷ cs) ps h).0)

empty_piece : (glued : Bool) (ps : List (List ℕ)) → are_core glued ([] ∷ ps) ≡ true → ⊥
empty_piece glued ps h = let a = both-left (is_core_piece [] (joined ps)) (none_longer is_core_piece [] (joined ps)) (split glued [] ps h).0 in let b = no_empty (joined ps) in cc

pub before_pieces : (glued : Bool) (ps : List (List ℕ)) → are_core glued ps ≡ true → Before (joined ps)
before_pieces glued [] h d r e = cc
before_pieces glued ([] ∷ ps) h d r e = absurd (empty_piece glued ps h)
before_pieces glued ((c ∷ cs) ∷ ps) h d r e = let s : c ≡ d = cc in subst (λ (a : ℕ). is_core_first a ≡ true) s (sort_first c cs (joined ps) (piece_of glued c cs ps h))

-- the first digit of a number is no name
not_name : (c : ℕ) (cs : List ℕ) → is_decimal c ≡ true → is_ascii_name (c ∷ cs) ≡ false
not_name c cs h =
    let s : is_identifier_start c ≡ false = not-true (is_identifier_start c) (ascii is_decimal (λ a. not (is_identifier_start a)) c refl (decimal-ascii c h) h) in
    and_left (is_plain_name (c ∷ cs)) (list_all (λ d. nat_lt d 128) (c ∷ cs)) (and_left (is_identifier_start c) (list_all Rattle.js_grammar.specs.Characters.is_identifier_part cs) s)

use_number : (glued : Bool) (c : ℕ) (cs rest : List ℕ) → is_core_number (c ∷ cs) ≡ true → is_core_use glued (c ∷ cs) rest ≡ true → (not glued && not (begins is_glue rest)) ≡ true
use_number glued c cs rest n u =
    let d = both-left (is_decimal c) (list_all is_decimal cs && (not (c == 48) || nothing_left cs)) n in
    let e : is_core_use glued (c ∷ cs) rest ≡ (not glued && not (begins is_glue rest)) =
    ap (λ (b : Bool). elim b [ true ↦ one_of_kinds core_words (keyword_of (c ∷ cs)) | false ↦ elim (is_core_number (c ∷ cs)) [ true ↦ not glued && not (begins is_glue rest) | false ↦ true ] ]) (not_name c cs d)
    ∙ ap (λ (b : Bool). elim b [ true ↦ not glued && not (begins is_glue rest) | false ↦ true ]) n in
    sym e ∙ u

use_name : (glued : Bool) (c : ℕ) (cs rest : List ℕ) → is_ascii_name (c ∷ cs) ≡ true → is_core_use glued (c ∷ cs) rest ≡ true → one_of_kinds core_words (keyword_of (c ∷ cs)) ≡ true
use_name glued c cs rest n u = sym (ap (λ (b : Bool). elim b [ true ↦ one_of_kinds core_words (keyword_of (c ∷ cs)) | false ↦ elim (is_core_number (c ∷ cs)) [ true ↦ not glued && not (begins is_glue rest) | false ↦ true ] ]) n) ∙ u

-- behind a dot or a name character no number stands
next_no_digit : (ps : List (List ℕ)) → are_core true ps ≡ true → begins is_decimal (joined ps) ≡ false
next_no_digit [] h = refl
next_no_digit ([] ∷ ps) h = absurd (empty_piece true ps h)
next_no_digit ((c ∷ cs) ∷ ps) h = go (piece_of true c cs ps h)
  where
    go : Sort c cs (joined ps) → is_decimal c ≡ false
    go (blank b) = not-true (is_decimal c) (member (λ a. not (is_decimal a)) blanks c (both-left (one_of blanks c) (nothing_left cs) b) refl)
    go (name n) = not-true (is_decimal c) (ascii is_identifier_start (λ a. not (is_decimal a)) c refl (core_ascii c (sort_first c cs (joined ps) (name n))) (both-left (is_identifier_start c) (list_all Rattle.js_grammar.specs.Characters.is_identifier_part cs) (both-left (is_plain_name (c ∷ cs)) (list_all (λ d. nat_lt d 128) (c ∷ cs)) n)))
    go (number n) = let u = use_number true c cs (joined ps) n (split true (c ∷ cs) ps h).1 in cc
    go (string s) = not-true (is_decimal c) (member (λ a. not (is_decimal a)) (34 ∷ 39 ∷ []) c (both-left (one_of (34 ∷ 39 ∷ []) c) (Rattle.js_grammar.specs.CoreTexts.closes_core_string c cs) s) refl)
    go (punctuator p) = not-true (is_decimal c) (ascii is_mark (λ a. not (is_decimal a)) c refl (core_ascii c (sort_first c cs (joined ps) (punctuator p))) (punctuator_mark c cs (joined ps) p).mark)

punctuator_first : (c : ℕ) (cs rest : List ℕ) → IsMark c cs rest → is_lexeme_first c ≡ true
unfolding core_punctuators
punctuator_first c cs rest m = subst (λ (v : List ℕ). first_passes is_lexeme_first v ≡ true) m.text (found-all (λ k. bytes_eq (text_of k) (c ∷ cs) && may_precede k rest) (λ k. first_passes is_lexeme_first (text_of k)) core_punctuators m.kind m.listed refl)

-- Behind a place: the trivia, and the end or a lexeme and the pieces behind it.
pub data Ahead (first : Bool) (ps : List (List ℕ)) : Type 0 where
  ends : (qs : List (List ℕ)) → joined ps ≡ joined qs ++ [] → are_trivia first qs [] ≡ true → lack_html_comments qs ≡ true → Ahead first ps
  word : (qs : List (List ℕ)) (c : ℕ) (cs : List ℕ) (later : List (List ℕ)) → joined ps ≡ joined qs ++ (c ∷ cs ++ joined later) → are_trivia first qs (c ∷ cs ++ joined later) ≡ true → lack_html_comments qs ≡ true
      → is_core_first c ≡ true → IsPlain (c ∷ cs) (joined later) → are_core (ends_in_glue (c ∷ cs)) later ≡ true → length later < length ps → Ahead first ps

behind_blank : (first : Bool) (c : ℕ) (ps : List (List ℕ)) → one_of blanks c ≡ true → Ahead (first || has_line_terminator (c ∷ [])) ps → Ahead first ((c ∷ []) ∷ ps)
behind_blank first c ps h (ends qs e t l) = ends ((c ∷ []) ∷ qs) (ap (λ (v : List ℕ). c ∷ v) e) (both (longest (is_trivia_piece first) (c ∷ []) (joined qs ++ [])) (are_trivia (first || has_line_terminator (c ∷ [])) qs []) (blank_piece first c (joined qs ++ []) h) t) (both (not (is_html_comment (c ∷ []))) (lack_html_comments qs) (rw (blank_no_html c h) refl) l)
behind_blank first c ps h (word qs d ds later e t l f p k m) =
    word ((c ∷ []) ∷ qs) d ds later (ap (λ (v : List ℕ). c ∷ v) e)
    (both (longest (is_trivia_piece first) (c ∷ []) (joined qs ++ (d ∷ ds ++ joined later))) (are_trivia (first || has_line_terminator (c ∷ [])) qs (d ∷ ds ++ joined later)) (blank_piece first c (joined qs ++ (d ∷ ds ++ joined later)) h) t)
    (both (not (is_html_comment (c ∷ []))) (lack_html_comments qs) (rw (blank_no_html c h) refl) l) f p k (omega arith)

at_word : (first : Bool) (c : ℕ) (cs : List ℕ) (ps : List (List ℕ)) → Lacks (c ∷ cs ++ joined ps) → is_lexeme_first c ≡ true → IsPlain (c ∷ cs) (joined ps) → are_core (ends_in_glue (c ∷ cs)) ps ≡ true → Ahead first ((c ∷ cs) ∷ ps)
at_word first c cs ps l f p k =
    word [] c cs ps refl (no_trivia first c (cs ++ joined ps) f
    (neither-left (starts (codes "<!--") (c ∷ cs ++ joined ps)) (occurs (codes "<!--") (cs ++ joined ps)) l.open_mark)
    (neither-left (starts (codes "-->") (c ∷ cs ++ joined ps)) (occurs (codes "-->") (cs ++ joined ps)) l.close_mark))
    refl (both-left (is_core_first c) (not (is_white_space c || is_line_terminator c)) f) p k (omega arith)

-- What the pieces of a core text are, from a place on: the trivia and the end, or the trivia, a lexeme and what is behind it.
abbrev pub Listed : (first : Bool) (ps : List (List ℕ)) → Ahead first ps → Type 0
Listed first ps (ends qs e t h) = (s : ℕ) (nl : Bool) → lexemes_from s nl ps ≡ last (end_lexeme (s + width (joined qs)) (nl || has_line_terminator (joined qs)))
Listed first ps (word qs c cs later e t h f i k m) =
    Told (c ∷ cs) (joined later) i.kind × ((s : ℕ) (nl : Bool) → lexemes_from s nl ps ≡ next (piece_lexeme (s + width (joined qs)) (nl || has_line_terminator (joined qs)) (c ∷ cs) (joined later)) (lexemes_from (s + width (joined qs) + width (c ∷ cs)) false later))

blank_step : (s : ℕ) (nl : Bool) (c : ℕ) (ps : List (List ℕ)) → one_of blanks c ≡ true → lexemes_from s nl ((c ∷ []) ∷ ps) ≡ lexemes_from (s + width (c ∷ [])) (nl || has_line_terminator (c ∷ [])) ps
blank_step s nl c ps h = ap (λ (b : Bool). elim b [ true ↦ lexemes_from (s + width (c ∷ [])) (nl || has_line_terminator (c ∷ [])) ps | false ↦ next (piece_lexeme s nl (c ∷ []) (joined ps)) (lexemes_from (s + width (c ∷ [])) false ps) ]) (both (one_of blanks c) true h refl)

any_of : (a b d : Bool) → ((a || (b || false)) || d) ≡ (a || (b || d))
any_of true b d = refl
any_of false true d = refl
any_of false false d = refl

behind : (s c : ℕ) (qs : List (List ℕ)) → s + width (c ∷ []) + width (joined qs) ≡ s + width (joined ((c ∷ []) ∷ qs))
behind s c qs = omega arith

behind_listed : (first : Bool) (c : ℕ) (ps : List (List ℕ)) (h : one_of blanks c ≡ true) (a : Ahead (first || has_line_terminator (c ∷ [])) ps) → Listed (first || has_line_terminator (c ∷ [])) ps a → Listed first ((c ∷ []) ∷ ps) (behind_blank first c ps h a)
unfolding behind_blank
behind_listed first c ps h (ends qs e t l) g = λ s nl. blank_step s nl c ps h ∙ g (s + width (c ∷ [])) (nl || has_line_terminator (c ∷ []))
    ∙ ap (λ (i : ℕ). last (end_lexeme i ((nl || has_line_terminator (c ∷ [])) || has_line_terminator (joined qs)))) (behind s c qs)
    ∙ ap (λ (n : Bool). last (end_lexeme (s + width (joined ((c ∷ []) ∷ qs))) n)) (any_of nl (is_line_terminator c) (has_line_terminator (joined qs)))
behind_listed first c ps h (word qs d ds later e t l f p k m) g = (
  g.0,
  λ s nl. blank_step s nl c ps h ∙ g.1 (s + width (c ∷ [])) (nl || has_line_terminator (c ∷ []))
      ∙ ap (λ (i : ℕ). next (piece_lexeme i ((nl || has_line_terminator (c ∷ [])) || has_line_terminator (joined qs)) (d ∷ ds) (joined later)) (lexemes_from (i + width (d ∷ ds)) false later)) (behind s c qs)
      ∙ ap (λ (n : Bool). next (piece_lexeme (s + width (joined ((c ∷ []) ∷ qs))) n (d ∷ ds) (joined later)) (lexemes_from (s + width (joined ((c ∷ []) ∷ qs)) + width (d ∷ ds)) false later)) (any_of nl (is_line_terminator c) (has_line_terminator (joined qs))),
)

no_blank : (c : ℕ) (cs : List ℕ) → is_lexeme_first c ≡ true → is_core_blank (c ∷ cs) ≡ false
no_blank c cs f = go (one_of blanks c) refl
  where
    go : (b : Bool) → one_of blanks c ≡ b → (one_of blanks c && nothing_left cs) ≡ false
    go false e = and_left (one_of blanks c) (nothing_left cs) e
    go true e =
        let w : (is_white_space c || is_line_terminator c) ≡ true = member (λ a. is_white_space a || is_line_terminator a) blanks c e refl in
        let n = not-true (is_white_space c || is_line_terminator c) (both-right (is_core_first c) (not (is_white_space c || is_line_terminator c)) f) in cc

word_listed : (first : Bool) (c : ℕ) (cs : List ℕ) (ps : List (List ℕ)) (l : Lacks (c ∷ cs ++ joined ps)) (f : is_lexeme_first c ≡ true) (p : IsPlain (c ∷ cs) (joined ps)) (k : are_core (ends_in_glue (c ∷ cs)) ps ≡ true) → Told (c ∷ cs) (joined ps) p.kind → Listed first ((c ∷ cs) ∷ ps) (at_word first c cs ps l f p k)
unfolding at_word
word_listed first c cs ps l f p k t = (
  t,
  λ s nl. ap (λ (b : Bool). elim b [ true ↦ lexemes_from (s + width (c ∷ cs)) (nl || has_line_terminator (c ∷ cs)) ps | false ↦ next (piece_lexeme s nl (c ∷ cs) (joined ps)) (lexemes_from (s + width (c ∷ cs)) false ps) ]) (no_blank c cs f)
      ∙ ap (λ (i : ℕ). next (piece_lexeme i nl (c ∷ cs) (joined ps)) (lexemes_from (i + width (c ∷ cs)) false ps)) (at_once s)
      ∙ ap (λ (n : Bool). next (piece_lexeme (s + 0) n (c ∷ cs) (joined ps)) (lexemes_from (s + 0 + width (c ∷ cs)) false ps)) (sym (or-false nl)),
)
  where
    at_once : (s : ℕ) → s ≡ s + 0
    at_once s = omega arith

end_listed : (first : Bool) (s : ℕ) (nl : Bool) → lexemes_from s nl [] ≡ last (end_lexeme (s + 0) (nl || false))
end_listed first s nl = ap (λ (i : ℕ). last (end_lexeme i nl)) at_once ∙ ap (λ (n : Bool). last (end_lexeme (s + 0) n)) (sym (or-false nl))
  where
    at_once : s ≡ s + 0
    at_once = omega arith

pub listed : (first glued : Bool) (ps : List (List ℕ)) → are_core glued ps ≡ true → Lacks (joined ps) → (a : Ahead first ps) × Listed first ps a
listed first glued [] h l = (ends [] refl refl refl, λ s nl. end_listed first s nl)
listed first glued ([] ∷ ps) h l = absurd (empty_piece glued ps h)
listed first glued ((c ∷ cs) ∷ ps) h l = go (piece_of glued c cs ps h) (λ f. listed f (ends_in_glue (c ∷ cs)) ps sp.2 (lacks-behind (c ∷ cs) (joined ps) l))
  where
    sp : Split glued (c ∷ cs) ps
    sp = split glued (c ∷ cs) ps h

    more : none_longer is_core_piece (c ∷ cs) (joined ps) ≡ true
    more = both-right (is_core_piece (c ∷ cs) (joined ps)) (none_longer is_core_piece (c ∷ cs) (joined ps)) sp.0

    bf : Before (joined ps)
    bf = before_pieces (ends_in_glue (c ∷ cs)) ps sp.2

    first_of : (t : ℕ → Bool) → t c ≡ true → Rattle.js_grammar.proofs.CoreLemmas.all_below 128 (λ a. Rattle.js_grammar.proofs.CoreLemmas.implies (t a) (is_lexeme_first a)) ≡ true → is_core_first c ≡ true → is_lexeme_first c ≡ true
    first_of t x a f = ascii t is_lexeme_first c a (core_ascii c f) x

    by_word : is_lexeme_first c ≡ true → (p : IsPlain (c ∷ cs) (joined ps)) → Told (c ∷ cs) (joined ps) p.kind → (a : Ahead first ((c ∷ cs) ∷ ps)) × Listed first ((c ∷ cs) ∷ ps) a
    by_word f p t = (at_word first c cs ps l f p sp.2, word_listed first c cs ps l f p sp.2 t)

    go : Sort c cs (joined ps) → ((f : Bool) → (a : Ahead f ps) × Listed f ps a) → (a : Ahead first ((c ∷ cs) ∷ ps)) × Listed first ((c ∷ cs) ∷ ps) a
    go (blank b) r =
        let n = nothing-nil cs (both-right (one_of blanks c) (nothing_left cs) b) in
        let o = both-left (one_of blanks c) (nothing_left cs) b in
        let x = r (first || has_line_terminator (c ∷ [])) in
        subst (λ (v : List ℕ). (a : Ahead first ((c ∷ v) ∷ ps)) × Listed first ((c ∷ v) ∷ ps) a) (sym n) (behind_blank first c ps o x.0, behind_listed first c ps o x.0 x.1)
    go (name n) r =
        let u = use_name glued c cs (joined ps) n sp.1 in
        let p = plain_name c cs (joined ps) n more u bf in
        by_word (first_of is_identifier_start (both-left (is_identifier_start c) (list_all Rattle.js_grammar.specs.Characters.is_identifier_part cs) (both-left (is_plain_name (c ∷ cs)) (list_all (λ d. nat_lt d 128) (c ∷ cs)) n)) refl (sort_first c cs (joined ps) (name n))) p (told_name c cs (joined ps) n u p)
    go (number n) r =
        let p = plain_number c cs (joined ps) n (not-true (begins is_glue (joined ps)) (both-right (not glued) (not (begins is_glue (joined ps))) (use_number glued c cs (joined ps) n sp.1))) bf in
        by_word (first_of is_decimal (both-left (is_decimal c) (list_all is_decimal cs && (not (c == 48) || nothing_left cs)) n) refl (sort_first c cs (joined ps) (number n))) p (told_number c cs (joined ps) n p)
    go (string s) r =
        let p = plain_string c cs (joined ps) s in
        by_word (member is_lexeme_first (34 ∷ 39 ∷ []) c (both-left (one_of (34 ∷ 39 ∷ []) c) (Rattle.js_grammar.specs.CoreTexts.closes_core_string c cs) s) refl) p (told_string c cs (joined ps) s p)
    go (punctuator q) r =
        let m = punctuator_mark c cs (joined ps) q in
        let p = plain_punctuator c cs (joined ps) q more (λ g. next_no_digit ps (subst (λ (b : Bool). are_core b ps ≡ true) g sp.2)) in
        by_word (punctuator_first c cs (joined ps) m) p (told_punctuator c cs (joined ps) m p)

pub ahead : (first glued : Bool) (ps : List (List ℕ)) → are_core glued ps ≡ true → Lacks (joined ps) → Ahead first ps
ahead first glued ps h l = (listed first glued ps h l).0
