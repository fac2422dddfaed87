-- Pieces of trivia, as long as possible.
use Rattle.std.proofs.Common.{◌≡◌, ◌<◌, ℕ, ◌+◌, ◌≤◌, Option, ◌==◌, Bool, true, false, List, [], ◌∷◌, ◌++◌, refl, sym, ap, subst, ◌∙◌, not, ◌&&◌, ◌||◌, length, arith, append_assoc, Some, None, ◌⊎◌, inl, inr, nat_lt}
use Rattle.std.specs.Prelude.{codes}
use Rattle.std.specs.List.{list_all}
use Rattle.std.proofs.lemmas.Bool.{and_left, and_right}
use Rattle.std.proofs.Math.Bool.{and-false, and-true, not-not, or-false}
use Rattle.std.proofs.lemmas.List.Folds.{list_all-append, list_any-append}
use Rattle.std.proofs.lemmas.List.{append-nil}
use Rattle.js_base.specs.part_text.Characters.{is_line_terminator}
use Rattle.part_words.specs.js_grammar.Characters.{has_line_terminator, begins, width}
use Rattle.part_words.specs.js_grammar.Longest.{longest, none_longer, none_begins}
use Rattle.part_words.specs.js_grammar.Trivia.{after, within_line, closes_comment, is_blank, is_single_line_comment, is_multi_line_comment, is_html_open, is_html_close, is_html_comment, is_trivia_piece}
use Rattle.part_words.specs.js_grammar.CoreTexts.{starts}
use Rattle.part_words.specs.js_grammar.LexicalFaults.{behind}
use Rattle.part_words.proofs.js_grammar.LongestLemmas.{both-left, both-right, both, not-true}
use Rattle.part_words.proofs.js_grammar.Finding.{neither, neither-left, neither-right}
use Rattle.part_words.proofs.js_grammar.CoreFirst.{lt-true}
use Rattle.js_base.specs.part_text.Characters.{one_of}
use Rattle.part_words.specs.js_grammar.Trivia.{is_irregular}
use Rattle.part_words.specs.declared.byte_class.ByteClass.{ByteClass}
use Rattle.part_words.specs.ByteClasses.{IsOf, Stays, is_trivia_class, begins_no_trivia, is_line_class, is_comment_class, stays_on_line, stays_in_comment}
use Rattle.std.proofs.lemmas.Bool.{eqb-true}
use Rattle.part_words.proofs.ByteClasses.{agree, stays}
use Rattle.part_words.proofs.js_grammar.CoreLemmas.{none_longer-from}
use Rattle.part_words.specs.Places.{Word, Peeks}
use Rattle.std.proofs.lemmas.Str.{len_utf8_bounds}
use Rattle.js_lex.specs.TriviaPassed.{IsPiece, PieceAt, BlankAt, IsBlankPiece, IsLineEnd, IsBlockEnd, block_kind, PlainBlankAt, NoTrivia}
use Rattle.js_lex.specs.Comments.{comment_kind}
use Rattle.js_lex.specs.declared.comment.CommentKind.TheVariants.{Line, SingleLineBlock, MultiLineBlock}
use Rattle.js_lex.specs.declared.trivia.Piece.{Piece}
use Rattle.js_lex.specs.declared.trivia.Trivia.{Trivia}
use Rattle.part_words.proofs.Places.{then}
use Rattle.part_words.proofs.Fronts.{not_all, onwards}
use Rattle.part_scan.proofs.Punctuators.{passes, ascii_of}
use Rattle.part_scan.specs.Punctuators.{punctuator_of}
use Rattle.js_base.specs.declared.kind.Kind.{Kind}
use Rattle.part_words.specs.declared.scan.Scanned.{Scanned}
use Rattle.std.specs.Prelude.{IfSome}
use Rattle.js_base.specs.Texts.{text_of, punctuators}
use Rattle.part_words.specs.ByteClasses.{is_letter_class}
use Rattle.part_words.specs.declared.byte_class.ByteClass.TheVariants.{Letter}
use Rattle.part_words.proofs.js_grammar.CoreNames.{ascii}
use Rattle.part_words.proofs.js_grammar.Alike.{no_empty_piece}
use Rattle.part_words.proofs.js_grammar.CoreTrivia.{not_after}
use Rattle.std.proofs.lemmas.Bool.Decides.{nat_tests}

-- ---- lines

pub line_more : (w : List ℕ) (c : ℕ) → within_line w ≡ true → is_line_terminator c ≡ false → within_line (w ++ c ∷ []) ≡ true
line_more w c h n = list_all-append (λ c. not (is_line_terminator c)) w (c ∷ []) ∙ rw (h, n) refl

pub line_ended : (w x : List ℕ) (c : ℕ) → is_line_terminator c ≡ true → within_line (w ++ c ∷ x) ≡ false
line_ended w x c n = not_all (λ d. not (is_line_terminator d)) w c x (rw n refl)

-- all of a line is without line terminator
pub no_terminator : (w : List ℕ) → within_line w ≡ true → has_line_terminator w ≡ false
no_terminator [] h = refl
no_terminator (c ∷ w) h = neither (is_line_terminator c) (has_line_terminator w) (not-true (is_line_terminator c) (both-left (not (is_line_terminator c)) (within_line w) h)) (no_terminator w (both-right (not (is_line_terminator c)) (within_line w) h))

-- among ASCII, LF and CR alone are line terminators
pub ascii_line : (b : ℕ) → b < 128 → (b ≡ 10 → ⊥) → (b ≡ 13 → ⊥) → is_line_terminator b ≡ false
ascii_line b h n m = grind arith

-- ---- two characters or more that don't begin a comment

-- what can't begin a comment
abbrev pub Plain : ℕ → Type 0
Plain c = ((47 == c) ≡ false) × ((60 == c) ≡ false) × ((45 == c) ≡ false)

no_comment : (first : Bool) (c : ℕ) (x more : List ℕ) → is_blank (c ∷ x) ≡ false → Plain c → is_trivia_piece first (c ∷ x) more ≡ false
no_comment first c x more b p =
    neither (is_blank (c ∷ x)) (is_single_line_comment (c ∷ x) || (is_multi_line_comment (c ∷ x) || (is_html_open (c ∷ x) || (first && is_html_close (c ∷ x)))))
    b
    (neither (is_single_line_comment (c ∷ x)) (is_multi_line_comment (c ∷ x) || (is_html_open (c ∷ x) || (first && is_html_close (c ∷ x))))
    (and_left (47 == c) (after (47 ∷ []) within_line x) p.0)
    (neither (is_multi_line_comment (c ∷ x)) (is_html_open (c ∷ x) || (first && is_html_close (c ∷ x)))
    (and_left (47 == c) (after (42 ∷ []) (closes_comment false) x) p.0)
    (neither (is_html_open (c ∷ x)) (first && is_html_close (c ∷ x))
    (and_left (60 == c) (after (codes "!--") within_line x) p.1)
    (and_right first (is_html_close (c ∷ x)) (and_left (45 == c) (after (codes "->") within_line x) p.2)))))

differs : (a c : ℕ) → is_blank (a ∷ []) ≡ false → is_blank (c ∷ []) ≡ true → (a == c) ≡ false
differs a c h k = go (a == c) refl
  where
    go : (b : Bool) → (a == c) ≡ b → (a == c) ≡ false
    go false e = e
    go true e = let s : a ≡ c = Rattle.std.proofs.lemmas.Bool.eqb-true a c e in let t : is_blank (a ∷ []) ≡ true = subst (λ (v : ℕ). is_blank (v ∷ []) ≡ true) (sym s) k in cc

blank_plain : (c : ℕ) → is_blank (c ∷ []) ≡ true → Plain c
blank_plain c h = (differs 47 c refl h, differs 60 c refl h, differs 45 c refl h)

pub blank_longest : (first : Bool) (c : ℕ) (rest : List ℕ) → is_blank (c ∷ []) ≡ true → longest (is_trivia_piece first) (c ∷ []) rest ≡ true
blank_longest first c rest h =
    both (is_trivia_piece first (c ∷ []) rest) (none_longer (is_trivia_piece first) (c ∷ []) rest)
    (ap (λ (b : Bool). b || (is_single_line_comment (c ∷ []) || (is_multi_line_comment (c ∷ []) || (is_html_open (c ∷ []) || (first && is_html_close (c ∷ [])))))) h)
    (none_longer-from (is_trivia_piece first) (c ∷ []) rest (λ d x more e. no_comment first c (d ∷ x) more refl (blank_plain c h)))

kind_none : (p : List ℕ) → (is_single_line_comment p || is_html_comment p) ≡ false → is_multi_line_comment p ≡ false → comment_kind p ≡ None
kind_none p a b = ap (λ (x : Bool). elim x [ true ↦ Some Line | false ↦ elim (is_multi_line_comment p) [ true ↦ elim (has_line_terminator p) [ true ↦ Some MultiLineBlock | false ↦ Some SingleLineBlock ] | false ↦ None ] ]) a ∙
    ap (λ (x : Bool). elim x [ true ↦ elim (has_line_terminator p) [ true ↦ Some MultiLineBlock | false ↦ Some SingleLineBlock ] | false ↦ None ]) b

-- no comment of a blank
pub blank_no_comment : (c : ℕ) → is_blank (c ∷ []) ≡ true → (comment_kind (c ∷ []) ≡ None) × (is_html_comment (c ∷ []) ≡ false)
blank_no_comment c h =
    let p = blank_plain c h in
    (kind_none (c ∷ []) (rw (p.0, p.1, p.2) refl) (rw p.0 refl), rw (p.1, p.2) refl)

-- where a text begins with neither blank nor comment
pub none_piece : (first : Bool) (c : ℕ) (rest : List ℕ) → is_blank (c ∷ []) ≡ false → Plain c → none_begins (is_trivia_piece first) (c ∷ rest) ≡ true
none_piece first c rest b p = none_longer-from (is_trivia_piece first) [] (c ∷ rest) (λ d x more e. no_comment first d x more (blank_of d x (let s : c ≡ d = cc in subst (λ (v : ℕ). is_blank (v ∷ []) ≡ false) s b)) (let s : c ≡ d = cc in subst Plain s p))
  where
    blank_of : (d : ℕ) (x : List ℕ) → is_blank (d ∷ []) ≡ false → is_blank (d ∷ x) ≡ false
    blank_of d [] w = w
    blank_of d (e ∷ x) w = refl

pub none_at_end : (first : Bool) → none_begins (is_trivia_piece first) [] ≡ true
none_at_end first = refl

-- ---- comments to the end of the line

-- what stands behind a line is a line terminator, if anything
abbrev pub Ends : List ℕ → Type 0
Ends rest = not (begins (λ c. not (is_line_terminator c)) rest) ≡ true

ends_at : (rest x more : List ℕ) (c : ℕ) → Ends rest → rest ≡ c ∷ x ++ more → is_line_terminator c ≡ true
ends_at rest x more c h e = sym (not-not (is_line_terminator c)) ∙ subst Ends e h

pub slashes_longest : (first : Bool) (v rest : List ℕ) → within_line v ≡ true → Ends rest → longest (is_trivia_piece first) (47 ∷ 47 ∷ v) rest ≡ true
slashes_longest first v rest h e = both (is_trivia_piece first (47 ∷ 47 ∷ v) rest) (none_longer (is_trivia_piece first) (47 ∷ 47 ∷ v) rest) (rw h refl)
    (none_longer-from (is_trivia_piece first) (47 ∷ 47 ∷ v) rest (λ c x more k. let n : within_line (v ++ c ∷ x) ≡ false = line_ended v x c (ends_at rest x more c e k) in rw n (and_right first false refl)))

pub open_longest : (first : Bool) (v rest : List ℕ) → within_line v ≡ true → Ends rest → longest (is_trivia_piece first) (60 ∷ 33 ∷ 45 ∷ 45 ∷ v) rest ≡ true
open_longest first v rest h e = both (is_trivia_piece first (60 ∷ 33 ∷ 45 ∷ 45 ∷ v) rest) (none_longer (is_trivia_piece first) (60 ∷ 33 ∷ 45 ∷ 45 ∷ v) rest) (rw h refl)
    (none_longer-from (is_trivia_piece first) (60 ∷ 33 ∷ 45 ∷ 45 ∷ v) rest (λ c x more k. let n : within_line (v ++ c ∷ x) ≡ false = line_ended v x c (ends_at rest x more c e k) in rw n (and_right first false refl)))

pub close_longest : (v rest : List ℕ) → within_line v ≡ true → Ends rest → longest (is_trivia_piece true) (45 ∷ 45 ∷ 62 ∷ v) rest ≡ true
close_longest v rest h e = both (is_trivia_piece true (45 ∷ 45 ∷ 62 ∷ v) rest) (none_longer (is_trivia_piece true) (45 ∷ 45 ∷ 62 ∷ v) rest) h
    (none_longer-from (is_trivia_piece true) (45 ∷ 45 ∷ 62 ∷ v) rest (λ c x more k. line_ended v x c (ends_at rest x more c e k)))

-- ---- block comments

-- behind what closes a comment nothing belongs to it
pub closed : (star : Bool) (w : List ℕ) (c : ℕ) (x : List ℕ) → closes_comment star w ≡ true → closes_comment star (w ++ c ∷ x) ≡ false
closed star [] c x h = cc
closed star (d ∷ w) c x h = go (star && (d == 47)) refl (λ k. closed (d == 42) w c x k)
  where
    empty : (w : List ℕ) → list_all (λ d. false) w ≡ true → list_all (λ d. false) (w ++ c ∷ x) ≡ false
    empty [] h = refl
    empty (d ∷ w) h = cc

    go : (b : Bool) → (star && (d == 47)) ≡ b → (closes_comment (d == 42) w ≡ true → closes_comment (d == 42) (w ++ c ∷ x) ≡ false) → closes_comment star (d ∷ w ++ c ∷ x) ≡ false
    go true e r = let k : list_all (λ d. false) w ≡ true = (let g : (elim (star && (d == 47)) [ true ↦ list_all (λ d. false) w | false ↦ closes_comment (d == 42) w ]) ≡ true = h in subst (λ (b : Bool). (elim b [ true ↦ list_all (λ d. false) w | false ↦ closes_comment (d == 42) w ]) ≡ true) e g) in rw (e, closes_comment) (empty w k)
    go false e r = let k : closes_comment (d == 42) w ≡ true = (let g : (elim (star && (d == 47)) [ true ↦ list_all (λ d. false) w | false ↦ closes_comment (d == 42) w ]) ≡ true = h in subst (λ (b : Bool). (elim b [ true ↦ list_all (λ d. false) w | false ↦ closes_comment (d == 42) w ]) ≡ true) e g) in rw (e, closes_comment) (r k)

pub block_longest : (first : Bool) (v rest : List ℕ) → closes_comment false v ≡ true → longest (is_trivia_piece first) (47 ∷ 42 ∷ v) rest ≡ true
block_longest first v rest h = both (is_trivia_piece first (47 ∷ 42 ∷ v) rest) (none_longer (is_trivia_piece first) (47 ∷ 42 ∷ v) rest) (rw h refl)
    (none_longer-from (is_trivia_piece first) (47 ∷ 42 ∷ v) rest (λ c x more k. let n : closes_comment false (v ++ c ∷ x) ≡ false = closed false v c x h in rw n (and_right first false refl)))

-- one character more of an open comment
pub block_more : (w : List ℕ) (star : Bool) (c : ℕ) → ((v : List ℕ) → closes_comment false (w ++ v) ≡ closes_comment star v) → ((star ≡ true × (c ≡ 47 → ⊥)) ⊎ (star ≡ false)) → (v : List ℕ) → closes_comment false ((w ++ c ∷ []) ++ v) ≡ closes_comment (c == 42) v
block_more w star c f o v = onwards (closes_comment false) (closes_comment star) w c f v ∙ rw (stays o, closes_comment) refl
  where
    stays : ((star ≡ true × (c ≡ 47 → ⊥)) ⊎ (star ≡ false)) → (star && (c == 47)) ≡ false
    stays (inl h) = and_right star (c == 47) (Rattle.std.proofs.lemmas.Bool.ne_eqb c 47 h.1)
    stays (inr h) = and_left star (c == 47) h

-- the slash that closes it
pub block_closed : (w : List ℕ) (star : Bool) (c : ℕ) → ((v : List ℕ) → closes_comment false (w ++ v) ≡ closes_comment star v) → star ≡ true → c ≡ 47 → closes_comment false (w ++ c ∷ []) ≡ true
block_closed w star c f s e = f (c ∷ []) ∙ rw (s, e) refl

pub newline_more : (w : List ℕ) (c : ℕ) (b n : Bool) → b ≡ has_line_terminator w → n ≡ is_line_terminator c → (b || n) ≡ has_line_terminator (w ++ c ∷ [])
newline_more w c b n e f = rw (e, f) (ap (λ (x : Bool). has_line_terminator w || x) (sym (or-false (is_line_terminator c))) ∙ sym (list_any-append is_line_terminator w (c ∷ [])))

-- a slash is no line terminator
pub newline_same : (w : List ℕ) (c : ℕ) (b : Bool) → b ≡ has_line_terminator w → c ≡ 47 → b ≡ has_line_terminator (w ++ c ∷ [])
newline_same w c b e f = sym (or-false b) ∙ newline_more w c b false e (sym (ap is_line_terminator f))

-- what is open at the end of the text was closed nowhere
pub never_closed : (star : Bool) (all : List ℕ) → ((v : List ℕ) → closes_comment false (all ++ v) ≡ closes_comment star v) → (w more : List ℕ) → all ≡ w ++ more → closes_comment false w ≡ false
never_closed star all f w more e = go (closes_comment false w) refl
  where
    -- behind all, something closes it still
    goes_on : (s : Bool) → (c : ℕ) × (x : List ℕ) × (closes_comment s (c ∷ x) ≡ true)
    goes_on true = (47, [], refl)
    goes_on false = (42, 47 ∷ [], refl)

    clash : (m : List ℕ) (c : ℕ) (x : List ℕ) → closes_comment false w ≡ true → all ≡ w ++ m → closes_comment star (c ∷ x) ≡ true → ⊥
    clash [] c x h e k = let a = closed false w c x h in let b : closes_comment false (w ++ c ∷ x) ≡ closes_comment star (c ∷ x) = subst (λ (u : List ℕ). closes_comment false (u ++ c ∷ x) ≡ closes_comment star (c ∷ x)) (e ∙ append-nil w) (f (c ∷ x)) in cc
    clash (d ∷ m) c x h e k = let a : closes_comment false (w ++ ((d ∷ m) ++ c ∷ x)) ≡ false = closed false w d (m ++ c ∷ x) h in let b : closes_comment false (w ++ ((d ∷ m) ++ c ∷ x)) ≡ closes_comment star (c ∷ x) = subst (λ (u : List ℕ). closes_comment false u ≡ closes_comment star (c ∷ x)) (ap (λ (u : List ℕ). u ++ c ∷ x) e ∙ append_assoc w (d ∷ m) (c ∷ x)) (f (c ∷ x)) in cc

    go : (b : Bool) → closes_comment false w ≡ b → closes_comment false w ≡ false
    go false h = h
    go true h = let g = goes_on star in absurd (clash more g.0 g.1 h e g.2)

pub open_block : (first : Bool) (rest : List ℕ) → ((w more : List ℕ) → rest ≡ w ++ more → closes_comment false w ≡ false) → none_begins (is_trivia_piece first) (47 ∷ 42 ∷ rest) ≡ true
open_block first rest f = none_longer-from (is_trivia_piece first) [] (47 ∷ 42 ∷ rest) (λ c x more e. by c x more e)
  where
    by : (c : ℕ) (x more : List ℕ) → 47 ∷ 42 ∷ rest ≡ c ∷ x ++ more → is_trivia_piece first (c ∷ x) more ≡ false
    by c [] more e = let s : 47 ≡ c = cc in subst (λ (d : ℕ). is_trivia_piece first (d ∷ []) more ≡ false) s (and-false first)
    by c (d ∷ x) more e =
        let s : 47 ≡ c = cc in
        let t : 42 ≡ d = cc in
        let u : rest ≡ x ++ more = cc in
        let n : closes_comment false x ≡ false = f x more u in
        subst (λ (b : ℕ). is_trivia_piece first (b ∷ d ∷ x) more ≡ false) s (subst (λ (b : ℕ). is_trivia_piece first (47 ∷ b ∷ x) more ≡ false) t (rw n (and-false first)))

-- a slash that begins no comment
pub lone_slash : (first : Bool) (rest : List ℕ) → starts (codes "//") (47 ∷ rest) ≡ false → starts (codes "/*") (47 ∷ rest) ≡ false → none_begins (is_trivia_piece first) (47 ∷ rest) ≡ true
lone_slash first rest h k = none_longer-from (is_trivia_piece first) [] (47 ∷ rest) (λ c x more e. by c x more e)
  where
    by : (c : ℕ) (x more : List ℕ) → 47 ∷ rest ≡ c ∷ x ++ more → is_trivia_piece first (c ∷ x) more ≡ false
    by c [] more e = let s : 47 ≡ c = cc in subst (λ (d : ℕ). is_trivia_piece first (d ∷ []) more ≡ false) s (and-false first)
    by c (d ∷ x) more e =
        let s : 47 ≡ c = cc in
        let u : rest ≡ d ∷ x ++ more = cc in
        let a : (47 == d) ≡ false = sym (and-true (47 == d)) ∙ (subst (λ (v : List ℕ). starts (codes "//") (47 ∷ v) ≡ false) u h) in
        let b : (42 == d) ≡ false = sym (and-true (42 == d)) ∙ (subst (λ (v : List ℕ). starts (codes "/*") (47 ∷ v) ≡ false) u k) in
        subst (λ (z : ℕ). is_trivia_piece first (z ∷ d ∷ x) more ≡ false) s (rw (a, b) (and-false first))

-- a less-than sign that begins no comment
pub lone_less : (first : Bool) (rest : List ℕ) → starts (codes "<!--") (60 ∷ rest) ≡ false → none_begins (is_trivia_piece first) (60 ∷ rest) ≡ true
lone_less first rest h = none_longer-from (is_trivia_piece first) [] (60 ∷ rest) (λ c x more e. by c x more e)
  where
    by : (c : ℕ) (x more : List ℕ) → 60 ∷ rest ≡ c ∷ x ++ more → is_trivia_piece first (c ∷ x) more ≡ false
    by c x more e =
        let s : c ≡ 60 = cc in
        let n : is_html_open (c ∷ x) ≡ false = not_after (codes "<!--") (c ∷ x) more (60 ∷ rest) within_line e h in
        let m : is_html_open (60 ∷ x) ≡ false = subst (λ (d : ℕ). is_html_open (d ∷ x) ≡ false) s n in
        subst (λ (d : ℕ). is_trivia_piece first (d ∷ x) more ≡ false) (sym s) (less x m)
      where
        less : (x : List ℕ) → is_html_open (60 ∷ x) ≡ false → is_trivia_piece first (60 ∷ x) more ≡ false
        less [] m = and_right first (is_html_close (60 ∷ [])) refl
        less (d ∷ x) m = neither (is_html_open (60 ∷ d ∷ x)) (first && is_html_close (60 ∷ d ∷ x)) m (and_right first (is_html_close (60 ∷ d ∷ x)) refl)

-- a minus that begins no comment
pub lone_minus : (first : Bool) (rest : List ℕ) → (first && starts (codes "-->") (45 ∷ rest)) ≡ false → none_begins (is_trivia_piece first) (45 ∷ rest) ≡ true
lone_minus first rest h = none_longer-from (is_trivia_piece first) [] (45 ∷ rest) (λ c x more e. by c x more e)
  where
    closing : (f : Bool) (w more : List ℕ) → 45 ∷ rest ≡ w ++ more → (f && starts (codes "-->") (45 ∷ rest)) ≡ false → (f && is_html_close w) ≡ false
    closing false w more e h = refl
    closing true w more e h = not_after (codes "-->") w more (45 ∷ rest) within_line e h

    by : (c : ℕ) (x more : List ℕ) → 45 ∷ rest ≡ c ∷ x ++ more → is_trivia_piece first (c ∷ x) more ≡ false
    by c x more e =
        let s : c ≡ 45 = cc in
        let n : (first && is_html_close (c ∷ x)) ≡ false = closing first (c ∷ x) more e h in
        let m : (first && is_html_close (45 ∷ x)) ≡ false = subst (λ (d : ℕ). (first && is_html_close (d ∷ x)) ≡ false) s n in
        subst (λ (d : ℕ). is_trivia_piece first (d ∷ x) more ≡ false) (sym s) (minus x m)
      where
        minus : (x : List ℕ) → (first && is_html_close (45 ∷ x)) ≡ false → is_trivia_piece first (45 ∷ x) more ≡ false
        minus [] m = m
        minus (d ∷ x) m = m

-- ---- pieces

abbrev pub line_piece : ℕ → Bool → Piece
line_piece end html = record { end = end; comment = Some Line; is_html = html; is_irregular = false; has_newline = false }

pub slashes_piece : {text : List ℕ} {at end : ℕ} → Word text at (at + 2) (47 ∷ 47 ∷ []) → IsLineEnd text (at + 2) end → (first : Bool) → IsPiece first text at (line_piece end false)
slashes_piece w l first = record { word = 47 ∷ 47 ∷ l.word; stands = then w l.stands; longest = slashes_longest first l.word _ l.one_line l.ends; comment = (let h : within_line l.word ≡ true = l.one_line in rw (h, comment_kind) refl); html = refl; irregular = refl; newline = sym (no_terminator l.word l.one_line) }

pub open_piece : {text : List ℕ} {at end : ℕ} → Word text at (at + 4) (codes "<!--") → IsLineEnd text (at + 4) end → (first : Bool) → IsPiece first text at (line_piece end true)
open_piece w l first = let h : within_line l.word ≡ true = l.one_line in record { word = 60 ∷ 33 ∷ 45 ∷ 45 ∷ l.word; stands = then w l.stands; longest = open_longest first l.word _ l.one_line l.ends; comment = rw (h, comment_kind) refl; html = rw h refl; irregular = refl; newline = sym (no_terminator l.word l.one_line) }

pub close_piece : {text : List ℕ} {at end : ℕ} → Word text at (at + 3) (codes "-->") → IsLineEnd text (at + 3) end → IsPiece true text at (line_piece end true)
close_piece w l = let h : within_line l.word ≡ true = l.one_line in record { word = 45 ∷ 45 ∷ 62 ∷ l.word; stands = then w l.stands; longest = close_longest l.word _ l.one_line l.ends; comment = rw (h, comment_kind) refl; html = rw h refl; irregular = refl; newline = sym (no_terminator l.word l.one_line) }

abbrev pub block_piece : Trivia → Piece
block_piece b = record { end = b.end; comment = Some (block_kind b.has_newline); is_html = false; is_irregular = false; has_newline = b.has_newline }

pub closed_piece : {text : List ℕ} {at : ℕ} {b : Trivia} → Word text at (at + 2) (47 ∷ 42 ∷ []) → IsBlockEnd text (at + 2) b → (first : Bool) → IsPiece first text at (block_piece b)
closed_piece {b = b} w l first = let h : closes_comment false l.word ≡ true = l.closes in record { word = 47 ∷ 42 ∷ l.word; stands = then w l.stands; longest = block_longest first l.word _ l.closes; comment = ap (λ (n : Bool). Some (block_kind n)) l.newline ∙ rw (h, comment_kind) (kind (has_line_terminator l.word)); html = refl; irregular = refl; newline = l.newline }
  where
    kind : (n : Bool) → Some (block_kind n) ≡ elim n [ true ↦ Some (block_kind true) | false ↦ Some (block_kind false) ]
    kind true = refl
    kind false = refl

pub blank_piece : {text : List ℕ} {at j c : ℕ} {p : Piece} → Word text at p.end (c ∷ []) → IsBlankPiece c j p → (first : Bool) → IsPiece first text at p
blank_piece {c = c} w b first = let k = blank_no_comment c b.blank in record { word = c ∷ []; stands = w; longest = blank_longest first c _ b.blank; comment = b.comment ∙ sym k.0; html = b.html ∙ sym k.1; irregular = b.irregular; newline = b.newline ∙ sym (or-false (is_line_terminator c)) }

-- ---- at a place of a text

pub none_there : {text : List ℕ} {at c : ℕ} → Word text at (at + 1) (c ∷ []) → (first : Bool) → none_begins (is_trivia_piece first) (c ∷ behind text (at + 1)) ≡ true → none_begins (is_trivia_piece first) (behind text at) ≡ true
none_there w first h = subst (λ (v : List ℕ). none_begins (is_trivia_piece first) v ≡ true) (sym w.splits) h

pub slash_there : {text : List ℕ} {at : ℕ} → Word text at (at + 1) (47 ∷ []) → false ≡ starts (codes "//") (behind text at) → false ≡ starts (codes "/*") (behind text at) → (first : Bool) → none_begins (is_trivia_piece first) (behind text at) ≡ true
slash_there {text = text} {at = at} w h k first = none_there w first (lone_slash first (behind text (at + 1)) (subst (λ (v : List ℕ). starts (codes "//") v ≡ false) w.splits (sym h)) (subst (λ (v : List ℕ). starts (codes "/*") v ≡ false) w.splits (sym k)))

pub block_there : {text : List ℕ} {at : ℕ} → Word text at (at + 2) (47 ∷ 42 ∷ []) → ((w rest : List ℕ) → behind text (at + 2) ≡ w ++ rest → closes_comment false w ≡ false) → (first : Bool) → none_begins (is_trivia_piece first) (behind text at) ≡ true
block_there {text = text} {at = at} w f first = subst (λ (v : List ℕ). none_begins (is_trivia_piece first) v ≡ true) (sym w.splits) (open_block first (behind text (at + 2)) f)

pub less_there : {text : List ℕ} {at : ℕ} → Word text at (at + 1) (60 ∷ []) → false ≡ starts (codes "<!--") (behind text at) → (first : Bool) → none_begins (is_trivia_piece first) (behind text at) ≡ true
less_there {text = text} {at = at} w h first = none_there w first (lone_less first (behind text (at + 1)) (subst (λ (v : List ℕ). starts (codes "<!--") v ≡ false) w.splits (sym h)))

pub minus_there : {text : List ℕ} {at : ℕ} → Word text at (at + 1) (45 ∷ []) → (first : Bool) → (first && starts (codes "-->") (behind text at)) ≡ false → none_begins (is_trivia_piece first) (behind text at) ≡ true
minus_there {text = text} {at = at} w first h = none_there w first (lone_minus first (behind text (at + 1)) (subst (λ (v : List ℕ). (first && starts (codes "-->") v) ≡ false) w.splits h))

-- a character that begins no comment, as a piece or none
pub blank_there : {text : List ℕ} {at j : ℕ} (c : ℕ) (r : Option Piece) (first : Bool) → Word text at j (c ∷ []) → (c ≡ 47 → ⊥) → (c ≡ 60 → ⊥) → (c ≡ 45 → ⊥) → BlankAt c j r → PieceAt first text at r
blank_there {text = text} {at = at} {j = j} c None first w n m k b = subst (λ (v : List ℕ). none_begins (is_trivia_piece first) v ≡ true) (sym w.splits) (none_piece first c (behind text j) (not-true (is_blank (c ∷ [])) b) (other 47 n, other 60 m, other 45 k))
  where
    other : (a : ℕ) → (c ≡ a → ⊥) → (a == c) ≡ false
    other a n = Rattle.std.proofs.lemmas.Bool.ne_eqb a c (λ e. n (sym e))
blank_there {text = text} {at = at} c (Some p) first w n m k b = blank_piece (subst (λ (n : ℕ). Word text at n (c ∷ [])) (sym b.ends) w) b first

-- a character that its byte tells, or one above ASCII, is none of ASCII that the byte isn't
pub apart : (a c b : ℕ) → a < 128 → (b ≡ a → ⊥) → (c ≡ b) ⊎ (128 ≤ c) → c ≡ a → ⊥
apart a c b l n (inl e) k = n (sym e ∙ k)
apart a c b l n (inr h) k = omega arith

-- ---- progress

pub some_width : (c : ℕ) (w : List ℕ) → 0 < width (c ∷ w)
some_width c w = let b = (len_utf8_bounds c).0 in omega arith

pub piece_moves : {first : Bool} {text : List ℕ} {i : ℕ} {p : Piece} → IsPiece first text i p → i < p.end × (p.end ≤ length text)
piece_moves {first = first} {text = text} {i = i} {p = p} h = (by h.word h.stands.end (both-left (is_trivia_piece first h.word (behind text p.end)) (none_longer (is_trivia_piece first) h.word (behind text p.end)) h.longest), h.stands.boundary.0)
  where
    by : (w : List ℕ) → p.end ≡ i + width w → is_trivia_piece first w (behind text p.end) ≡ true → i < p.end
    by [] e k = absurd (let z = no_empty_piece first (behind text p.end) in cc)
    by (c ∷ w) e k = let z = some_width c w in omega arith

-- a space, tab, CR or LF, as a piece
pub plain_blank : {text : List ℕ} {at : ℕ} (c : ℕ) (newline : Bool) → Word text at (at + 1) (c ∷ []) → (c ≡ 47 → ⊥) → (c ≡ 60 → ⊥) → (c ≡ 45 → ⊥) → IsBlankPiece c (at + 1) (record { end = at + 1; comment = None; is_html = false; is_irregular = false; has_newline = newline }) → PlainBlankAt text at (Some newline)
plain_blank {text = text} {at = at} c newline w n m k b first = blank_there c (Some (record { end = at + 1; comment = None; is_html = false; is_irregular = false; has_newline = newline })) first w n m k b

-- a visible ASCII character is neither white space nor a line terminator
pub visible : (c : ℕ) → 32 < c → c < 127 → not (is_blank (c ∷ [])) ≡ true
visible c h k = ascii (λ e. nat_lt 32 e && nat_lt e 127) (λ e. not (is_blank (e ∷ []))) c refl (omega arith) (between c h k)
  where
    between : (c : ℕ) → 32 < c → c < 127 → (nat_lt 32 c && nat_lt c 127) ≡ true
    between c h k = grind (arith, nat_tests)

-- a space, tab, CR or LF, by its byte
abbrev plain : ℕ → Bool
plain b = one_of (32 ∷ 9 ∷ 10 ∷ 13 ∷ []) b

plain_ascii : (b : ℕ) → plain b ≡ true → b < 128
plain_ascii b h = grind (arith, nat_tests)

pub plain_byte : {text : List ℕ} {at b : ℕ} (newline : Bool) → Peeks text at b → plain b ≡ true → newline ≡ one_of (10 ∷ 13 ∷ []) b → PlainBlankAt text at (Some newline)
plain_byte {text = text} {at = at} {b = b} newline p h e =
    let l = plain_ascii b h in
    plain_blank b newline (p.ascii l) (other 47 refl) (other 60 refl) (other 45 refl) (record {
      blank = ascii plain (λ c. is_blank (c ∷ [])) b refl l h;
      ends = refl;
      comment = refl;
      html = refl;
      irregular = sym (not-true (is_irregular (b ∷ [])) (ascii plain (λ c. not (is_irregular (c ∷ []))) b refl l h));
      newline = e ∙ agree 128 (one_of (10 ∷ 13 ∷ [])) is_line_terminator refl b l;
    })
  where
    other : (a : ℕ) → plain a ≡ false → b ≡ a → ⊥
    other a n q = let k : plain a ≡ true = subst (λ (x : ℕ). plain x ≡ true) q h in let z : false ≡ true = sym n ∙ k in cc

-- a byte with which no trivia begins
pub no_trivia : {text : List ℕ} {at b : ℕ} {k : ByteClass} → Peeks text at b → IsOf b k → is_trivia_class k ≡ false → (first : Bool) → PieceAt first text at None
no_trivia {text = text} {at = at} {b = b} {k = k} p o n first =
    let t : begins_no_trivia b ≡ true = subst (λ (x : Bool). (x || begins_no_trivia b) ≡ true) n o.trivia in
    let l = lt-true b 128 (both-left (nat_lt b 128) (not (is_blank (b ∷ [])) && not ((47 == b) || ((60 == b) || (45 == b)))) t) in
    let r = both-right (nat_lt b 128) (not (is_blank (b ∷ [])) && not ((47 == b) || ((60 == b) || (45 == b)))) t in
    let blank = not-true (is_blank (b ∷ [])) (both-left (not (is_blank (b ∷ []))) (not ((47 == b) || ((60 == b) || (45 == b)))) r) in
    let c = not-true ((47 == b) || ((60 == b) || (45 == b))) (both-right (not (is_blank (b ∷ []))) (not ((47 == b) || ((60 == b) || (45 == b)))) r) in
    let d = neither-right (47 == b) ((60 == b) || (45 == b)) c in
    none_there (p.ascii l) first (none_piece first b (behind text (at + 1)) blank (neither-left (47 == b) ((60 == b) || (45 == b)) c, neither-left (60 == b) (45 == b) d, neither-right (60 == b) (45 == b) d))

pub space_byte : {text : List ℕ} {at b : ℕ} → Peeks text at b → (b == 32) ≡ true → PlainBlankAt text at (Some false)
space_byte {text = text} {at = at} {b = b} p t =
    let e : b ≡ 32 = eqb-true b 32 t in
    plain_byte {b = 32} false (subst (λ (x : ℕ). Peeks text at x) e p) refl refl

no_blanks : list_all (λ k. not (is_blank (text_of k))) punctuators ≡ true
unfolding punctuators
no_blanks = refl

-- a letter, and a punctuator with which no comment begins
pub letter_no_trivia : {text : List ℕ} {at b : ℕ} {k : ByteClass} (r : Option Scanned) → Peeks text at b → IsOf b k → is_letter_class k ≡ true → IfSome r (λ s. NoTrivia text at)
letter_no_trivia None p o h = tt
letter_no_trivia {k = k} (Some s) p o h = no_trivia p o (by k h)
  where
    by : (k : ByteClass) → is_letter_class k ≡ true → is_trivia_class k ≡ false
    by Letter h = refl
    by _ h = cc

punctuator_no_trivia : {text : List ℕ} {at b : ℕ} {k : Kind} → Word text at (at + 1) (b ∷ []) → punctuator_of (b ∷ []) ≡ Some k → one_of (codes "/<-") b ≡ false → NoTrivia text at
punctuator_no_trivia {text = text} {at = at} {b = b} {k = k} p e n first =
    let l = ascii_of [] b [] k e in
    let one = neither-left (47 == b) ((60 == b) || ((45 == b) || false)) n in
    let r = neither-right (47 == b) ((60 == b) || ((45 == b) || false)) n in
    let two = neither-left (60 == b) ((45 == b) || false) r in
    let three = neither-left (45 == b) false (neither-right (60 == b) ((45 == b) || false) r) in
    none_there p first (none_piece first b (behind text (at + 1)) (not-true (is_blank (b ∷ [])) (passes (λ w. not (is_blank w)) (b ∷ []) k e no_blanks)) (one, two, three))

pub lone_no_trivia : {text : List ℕ} {at b : ℕ} (r : Option Scanned) → Peeks text at b → IfSome r (λ s. punctuator_of (b ∷ []) ≡ Some s.kind) → one_of (codes "/<-") b ≡ false → IfSome r (λ s. NoTrivia text at)
lone_no_trivia None p e n = tt
lone_no_trivia {b = b} (Some s) p e n = punctuator_no_trivia (p.ascii (ascii_of [] b [] s.kind e)) e n

-- characters of lines and comments, by their bytes
on_line_low : (b : ℕ) → stays_on_line b ≡ true → b < 128
on_line_low b h = lt-true b 128 (both-left (nat_lt b 128) (not (is_line_terminator b)) h)

pub on_line : {text : List ℕ} {at b : ℕ} {k : ByteClass} → Peeks text at b → IsOf b k → is_line_class k ≡ false → Stays stays_on_line text at
on_line {b = b} {k = k} p o n = stays stays_on_line (is_line_class k) p o.line n (on_line_low b)

pub in_comment : {text : List ℕ} {at b : ℕ} {k : ByteClass} → Peeks text at b → IsOf b k → is_comment_class k ≡ false → Stays stays_in_comment text at
in_comment {b = b} {k = k} p o n = stays stays_in_comment (is_comment_class k) p o.comment n (λ h. on_line_low b (both-left (stays_on_line b) (not ((47 == b) || (b == 42))) h))

on_line_no : (c : ℕ) → stays_on_line c ≡ true → is_line_terminator c ≡ false
on_line_no c h = not-true (is_line_terminator c) (both-right (nat_lt c 128) (not (is_line_terminator c)) h)

pub line_on : {text : List ℕ} {i j : ℕ} (w : List ℕ) → Word text i j w → within_line w ≡ true → Stays stays_on_line text j → (v : List ℕ) × Word text i (j + 1) v × (within_line v ≡ true)
line_on w a h s = (w ++ s.character ∷ [], then a s.word, line_more w s.character h (on_line_no s.character s.passes))

pub block_on : {text : List ℕ} {i j : ℕ} {star newline : Bool} (w : List ℕ) → Word text i j w → ((v : List ℕ) → closes_comment false (w ++ v) ≡ closes_comment star v) → newline ≡ has_line_terminator w → Stays stays_in_comment text j
    → (u : List ℕ) × Word text i (j + 1) u × ((v : List ℕ) → closes_comment false (u ++ v) ≡ closes_comment false v) × (newline ≡ has_line_terminator u)
block_on {star = star} {newline = newline} w a f n s =
    let c = s.character in
    let l = on_line_no c (both-left (stays_on_line c) (not ((47 == c) || (c == 42))) s.passes) in
    let q = not-true ((47 == c) || (c == 42)) (both-right (stays_on_line c) (not ((47 == c) || (c == 42))) s.passes) in
    let slash = neither-left (47 == c) (c == 42) q in
    let asterisk = neither-right (47 == c) (c == 42) q in
    (w ++ c ∷ [], then a s.word, (λ v. block_more w star c f (either star c slash) v ∙ ap (λ (b : Bool). closes_comment b v) asterisk), sym (or-false newline) ∙ newline_more w c newline false n (sym l))
  where
    either : (star : Bool) (c : ℕ) → (47 == c) ≡ false → (star ≡ true × (c ≡ 47 → ⊥)) ⊎ (star ≡ false)
    either true c h = inl (refl, λ e. let k : (47 == 47) ≡ false = subst (λ (x : ℕ). (47 == x) ≡ false) e h in cc)
    either false c h = inr refl
