-- A core text has one list of lexemes, the same at every goal.
use Rattle.std.proofs.Common.{◌≡◌, ◌<◌, ◌≤◌, ℕ, zero, suc, ◌+◌, ◌==◌, Bool, true, false, List, [], ◌∷◌, ◌++◌, refl, sym, ap, subst, ◌∙◌, not, ◌&&◌, ◌||◌, Some, None, length, arith}
use Rattle.std.specs.Prelude.{codes, IsUtf8, chars}
use Rattle.js_base.specs.declared.kind.Kind.{Kind}
use Rattle.js_base.specs.declared.kind.Kind.TheVariants.{Eof, RegExp}
use Rattle.js_base.specs.Kinds.{code, same_kind, one_of_kinds}
use Rattle.js_grammar.specs.Grammar.{Lexeme, Lexemes, last, next, here}
use Rattle.js_base.specs.Texts.{words}
use Rattle.js_base.specs.part_text.Characters.{one_of}
use Rattle.js_grammar.specs.Characters.{width, has_line_terminator}
use Rattle.js_grammar.specs.Longest.{longest, joined}
use Rattle.js_grammar.specs.Trivia.{are_trivia, lack_html_comments, after, within_line}
use Rattle.js_grammar.specs.Numbers.{is_number, stops_number}
use Rattle.js_grammar.specs.RegularExpressions.{flags, flagged, flags_pass, behind_pattern}
use Rattle.js_grammar.specs.Templates.{template_tail_kind}
use Rattle.js_grammar.specs.Lexemes.{LexicalGoal, division, regular_expression, template_tail, hashbang, kind_in, lexemes_in, is_escaped}
use Rattle.js_grammar.specs.Lexed.{Lexes, Lexed}
use Rattle.js_grammar.specs.Lexed.{Passing, in_script, in_module, all_faults, passing_of, NextLexeme, Stands, comments_pass, flags_right, ends_once}
use Rattle.js_grammar.specs.LexicalLaws.{OneList}
use Rattle.js_grammar.specs.CoreGrammar.{core_kinds}
use Rattle.js_grammar.specs.CoreReadings.{core_lexeme, AllCore, CoreLexemes}
use Rattle.js_grammar.specs.CorePieces.{piece_lexeme, end_lexeme, lexemes_from, piece_lexemes}
use Rattle.js_grammar.specs.Settings.{Goal}
use Rattle.js_grammar.specs.CoreTexts.{CoreSource, are_core, ends_in_glue, occurs}
use Rattle.js_grammar.proofs.LongestLemmas.{both-left, both-right, both, not-true}
use Rattle.js_grammar.proofs.Finding.{neither-left, neither-right}
use Rattle.js_grammar.proofs.Alike.{stands-same, lex-same}
use Rattle.js_grammar.proofs.Standing.{lexeme_of}
use Rattle.js_grammar.proofs.CoreFirst.{is_core_first}
use Rattle.js_grammar.proofs.CoreNames.{IsPlain, ascii, core_ascii}
use Rattle.js_grammar.proofs.CoreTold.{Told}
use Rattle.js_grammar.proofs.CoreTrivia.{Ahead, ends, word, Listed, listed, Lacks, lacks-behind}
use Rattle.js_grammar.proofs.Places.{At, at-chars, at-start, at-behind}

comments-lack : (p : Passing) (qs : List (List ℕ)) → lack_html_comments qs ≡ true → comments_pass p qs ≡ true
comments-lack in_script qs h = refl
comments-lack in_module qs h = h
comments-lack all_faults qs h = refl

pub flags-none : (p : Passing) (k : Kind) (w : List ℕ) → same_kind RegExp k ≡ false → flags_right p k w ≡ true
flags-none in_script k w h = ap (λ (b : Bool). not b || flags_pass (flags w)) h
flags-none in_module k w h = ap (λ (b : Bool). not b || flags_pass (flags w)) h
flags-none all_faults k w h = refl

-- what stands behind a place, as a lexeme of the division goal
pub lexeme_stands : (p : Passing) (text : List ℕ) (s : ℕ) (qs : List (List ℕ)) (w rest : List ℕ) (k : Kind) → Stands text s qs w rest → lack_html_comments qs ≡ true → longest (lexemes_in division) w rest ≡ true → kind_in division w rest ≡ Some k → (not (is_number k) || stops_number rest) ≡ true → same_kind RegExp k ≡ false → NextLexeme p text s (lexeme_of s qs w k)
lexeme_stands p text s qs w rest k st l lg kd a r = record {
  trivia = qs;
  goal = division;
  word = w;
  rest = rest;
  stands = st;
  lexeme = record { longest = lg; kind = kd; begins = refl; apart = a };
  comments = comments-lack p qs l;
  flags = flags-none p k w r;
  from = refl;
  to = refl;
  newline = refl;
  escaped = refl;
  units = refl;
}

-- the other lexical goals have nothing at the end of the text
end_is_division : (g : LexicalGoal) (w rest : List ℕ) (k : Kind) → w ++ rest ≡ [] → kind_in g w rest ≡ Some k → g ≡ division
end_is_division division w rest k e h = refl
end_is_division regular_expression [] rest k e h = cc
end_is_division regular_expression (c ∷ w) rest k e h = cc
end_is_division template_tail [] rest k e h = cc
end_is_division template_tail (c ∷ w) rest k e h = cc
end_is_division hashbang [] rest k e h = cc
end_is_division hashbang (c ∷ w) rest k e h = cc

no_regular_expression : (c : ℕ) (w : List ℕ) → (c == 47) ≡ false → flagged (flags (c ∷ w)) ≡ None
no_regular_expression c [] h = refl
no_regular_expression c (d ∷ w) h = ap (λ (b : Bool). flagged (elim (b && not (one_of (codes "*/") d)) [ true ↦ behind_pattern false false (d ∷ w) | false ↦ None ])) h

no_tail : (c : ℕ) (w : List ℕ) → (c == 125) ≡ false → template_tail_kind (c ∷ w) ≡ None
no_tail c w h = rw (h, template_tail_kind) refl

no_hashbang : (c : ℕ) (w rest : List ℕ) → (35 == c) ≡ false → kind_in hashbang (c ∷ w) rest ≡ None
no_hashbang c w rest h = ap (λ (b : Bool). elim (b && after (codes "!") within_line w) [ true ↦ Some Rattle.js_base.specs.declared.kind.Kind.TheVariants.HashbangComment | false ↦ None ]) h

-- nor where a core lexeme begins
word_is_division : (g : LexicalGoal) (w rest : List ℕ) (c : ℕ) (cs : List ℕ) (k : Kind) → w ++ rest ≡ c ∷ cs → is_core_first c ≡ true → kind_in g w rest ≡ Some k → g ≡ division
word_is_division division w rest c cs k e f h = refl
word_is_division regular_expression [] rest c cs k e f h = cc
word_is_division regular_expression (d ∷ w) rest c cs k e f h =
    let s : c ≡ d = cc in
    let n : (c == 47) ≡ false = not-true (c == 47) (ascii is_core_first (λ a. not (a == 47)) c refl (core_ascii c f) f) in
    let m = no_regular_expression d w (subst (λ (a : ℕ). (a == 47) ≡ false) s n) in cc
word_is_division template_tail [] rest c cs k e f h = cc
word_is_division template_tail (d ∷ w) rest c cs k e f h =
    let s : c ≡ d = cc in
    let n : (c == 125) ≡ false = not-true (c == 125) (ascii is_core_first (λ a. not (a == 125)) c refl (core_ascii c f) f) in
    let m = no_tail d w (subst (λ (a : ℕ). (a == 125) ≡ false) s n) in cc
word_is_division hashbang [] rest c cs k e f h = cc
word_is_division hashbang (d ∷ w) rest c cs k e f h =
    let s : c ≡ d = cc in
    let n : (35 == c) ≡ false = not-true (35 == c) (ascii is_core_first (λ a. not (35 == a)) c refl (core_ascii c f) f) in
    let m = no_hashbang d w rest (subst (λ (a : ℕ). (35 == a) ≡ false) s n) in cc

-- the lexemes from a place to the end of the text
pub record Tail (text : List ℕ) (s : ℕ) : Type 0 where
  pub list : Lexemes
  pub lexes : (p : Passing) → Lexes (NextLexeme p text) s list
  pub once : ends_once list ≡ true
  pub only : (p : Passing) (ms : Lexemes) → Lexes (NextLexeme p text) s ms → ends_once ms ≡ true → ms ≡ list
  pub first : (p : Passing) (y : Lexeme) → NextLexeme p text s y → y ≡ here list

-- one lexeme stands there, whichever faults pass
pub record Single (text : List ℕ) (s : ℕ) (x : Lexeme) : Type 0 where
  pub stands : (p : Passing) → NextLexeme p text s x
  pub only : (p : Passing) (y : Lexeme) → NextLexeme p text s y → y ≡ x

pub tail_end : (text : List ℕ) (s : ℕ) (x : Lexeme) → Single text s x → same_kind Eof x.kind ≡ true → Tail text s
tail_end text s x h e = record { list = last x; lexes = h.stands; once = e; only = go; first = h.only }
  where
    go : (p : Passing) (ms : Lexemes) → Lexes (NextLexeme p text) s ms → ends_once ms ≡ true → ms ≡ last x
    go p (last y) l o = ap (λ (a : Lexeme). last a) (h.only p y l)
    go p (next y ms) l o =
        let s' = h.only p y l.0 in
        let k : same_kind Eof y.kind ≡ true = subst (λ (a : Lexeme). same_kind Eof a.kind ≡ true) (sym s') e in
        let n = not-true (same_kind Eof y.kind) (both-left (not (same_kind Eof y.kind)) (ends_once ms) o) in
        absurd (let a = k in let b = n in cc)

pub tail_next : (text : List ℕ) (s : ℕ) (x : Lexeme) → Single text s x → same_kind Eof x.kind ≡ false → Tail text x.to → Tail text s
tail_next text s x h e t = record { list = next x t.list; lexes = λ p. (h.stands p, t.lexes p); once = both (not (same_kind Eof x.kind)) (ends_once t.list) (rw e refl) t.once; only = go; first = h.only }
  where
    go : (p : Passing) (ms : Lexemes) → Lexes (NextLexeme p text) s ms → ends_once ms ≡ true → ms ≡ next x t.list
    go p (last y) l o =
        let s' = h.only p y l in
        let k : same_kind Eof y.kind ≡ false = subst (λ (a : Lexeme). same_kind Eof a.kind ≡ false) (sym s') e in
        absurd (let a = k in let b = o in cc)
    go p (next y ms) l o =
        let s' = h.only p y l.0 in
        let l' : Lexes (NextLexeme p text) x.to ms = subst (λ (a : Lexeme). Lexes (NextLexeme p text) a.to ms) s' l.1 in
        let r = t.only p ms l' (both-right (not (same_kind Eof y.kind)) (ends_once ms) o) in
        cc

pub tail_end-list : (text : List ℕ) (s : ℕ) (x : Lexeme) (h : Single text s x) (e : same_kind Eof x.kind ≡ true) → (tail_end text s x h e).list ≡ last x
unfolding tail_end
tail_end-list text s x h e = refl

pub tail_next-list : (text : List ℕ) (s : ℕ) (x : Lexeme) (h : Single text s x) (e : same_kind Eof x.kind ≡ false) (t : Tail text x.to) → (tail_next text s x h e t).list ≡ next x t.list
unfolding tail_next
tail_next-list text s x h e t = refl

pub at_end : (text : List ℕ) (s : ℕ) (qs : List (List ℕ)) → Stands text s qs [] [] → lack_html_comments qs ≡ true → Single text s (lexeme_of s qs [] Eof)
unfolding lexeme_stands
at_end text s qs st l = record { stands = here; only = only }
  where
    here : (p : Passing) → NextLexeme p text s (lexeme_of s qs [] Eof)
    here p = lexeme_stands p text s qs [] [] Eof st l refl refl refl refl

    only : (p : Passing) (y : Lexeme) → NextLexeme p text s y → y ≡ lexeme_of s qs [] Eof
    only p y h =
        let same = stands-same h.stands st in
        lex-same h (here p) (end_is_division h.goal h.word h.rest y.kind same.back h.lexeme.kind)

pub at_word : (text : List ℕ) (s : ℕ) (qs : List (List ℕ)) (c : ℕ) (cs rest : List ℕ) → Stands text s qs (c ∷ cs) rest → lack_html_comments qs ≡ true → is_core_first c ≡ true → (i : IsPlain (c ∷ cs) rest) → same_kind RegExp i.kind ≡ false → Single text s (lexeme_of s qs (c ∷ cs) i.kind)
unfolding lexeme_stands
at_word text s qs c cs rest st l f i r = record { stands = here; only = only }
  where
    here : (p : Passing) → NextLexeme p text s (lexeme_of s qs (c ∷ cs) i.kind)
    here p = lexeme_stands p text s qs (c ∷ cs) rest i.kind st l i.longest i.is i.apart r

    only : (p : Passing) (y : Lexeme) → NextLexeme p text s y → y ≡ lexeme_of s qs (c ∷ cs) i.kind
    only p y h =
        let same = stands-same h.stands st in
        lex-same h (here p) (word_is_division h.goal h.word h.rest c (cs ++ rest) y.kind same.back f h.lexeme.kind)

pub stands_of : {text : List ℕ} {s : ℕ} {cs : List ℕ} (qs : List (List ℕ)) (w rest : List ℕ) → At text s cs → cs ≡ joined qs ++ (w ++ rest) → are_trivia (s == 0) qs (w ++ rest) ≡ true → Stands text s qs w rest
stands_of qs w rest a e t = record { within = a.within; splits = at-chars a ∙ e; trivia = t }

pub at_along : {text : List ℕ} {s : ℕ} {cs ds : List ℕ} → cs ≡ ds → At text s cs → At text s ds
at_along {text = text} {s = s} e a = subst (λ (v : List ℕ). At text s v) e a

-- all of them are core lexemes, and they are those of the pieces
abbrev CoreTail : List ℕ → ℕ → List (List ℕ) → Type 0
CoreTail text s ps = (t : Tail text s) × AllCore t.list × (t.list ≡ lexemes_from s false ps)

end_same : (s : ℕ) (qs : List (List ℕ)) → lexeme_of s qs [] Eof ≡ end_lexeme (s + width (joined qs)) (has_line_terminator (joined qs))
unfolding words
end_same s qs = ap (λ (j : ℕ). record (end_lexeme (s + width (joined qs)) (has_line_terminator (joined qs))) { to = j }) at_once
  where
    at_once : s + width (joined qs) + 0 ≡ s + width (joined qs)
    at_once = omega arith

word_same : (s : ℕ) (qs : List (List ℕ)) (w rest : List ℕ) (k : Kind) → Told w rest k → is_escaped k w ≡ false → lexeme_of s qs w k ≡ piece_lexeme (s + width (joined qs)) (has_line_terminator (joined qs)) w rest
word_same s qs w rest k t e = λ i. record { kind = t.0 i; from = s + width (joined qs); to = s + width (joined qs) + width w; newline = has_line_terminator (joined qs); escaped = e i; units = t.1 i }

end_core : (text : List ℕ) (s : ℕ) (qs : List (List ℕ)) (h : Single text s (lexeme_of s qs [] Eof)) → AllCore (tail_end text s (lexeme_of s qs [] Eof) h refl).list
unfolding words
end_core text s qs h = subst AllCore (sym (tail_end-list text s (lexeme_of s qs [] Eof) h refl)) refl

next_core : (text : List ℕ) (s : ℕ) (x : Lexeme) (h : Single text s x) (e : same_kind Eof x.kind ≡ false) (t : Tail text x.to) → core_lexeme x ≡ true → AllCore t.list → AllCore (tail_next text s x h e t).list
next_core text s x h e t c a = subst AllCore (sym (tail_next-list text s x h e t)) (c, a)

finish : (text : List ℕ) (s : ℕ) (ps : List (List ℕ)) → At text s (joined ps) → Lacks (joined ps) → (a : Ahead (s == 0) ps) → Listed (s == 0) ps a
    → ((i : ℕ) (glued : Bool) (qs : List (List ℕ)) → length qs < length ps → are_core glued qs ≡ true → Lacks (joined qs) → At text i (joined qs) → CoreTail text i qs) → CoreTail text s ps
finish text s ps a l (ends qs e t h) g rec =
    let x = at_end text s qs (stands_of qs [] [] a e t) h in
    (tail_end text s (lexeme_of s qs [] Eof) x refl, end_core text s qs x, tail_end-list text s (lexeme_of s qs [] Eof) x refl ∙ ap (λ (y : Lexeme). last y) (end_same s qs) ∙ sym (g s false))
finish text s ps a l (word qs c cs later e t h f i k m) g rec =
    let st = stands_of qs (c ∷ cs) (joined later) a e t in
    let inside = not-true (one_of (code Eof ∷ code RegExp ∷ []) (code i.kind)) i.inside in
    let no_end : same_kind Eof i.kind ≡ false = neither-left (code Eof == code i.kind) (one_of (code RegExp ∷ []) (code i.kind)) inside in
    let no_regular : same_kind RegExp i.kind ≡ false = neither-left (code RegExp == code i.kind) false (neither-right (code Eof == code i.kind) (one_of (code RegExp ∷ []) (code i.kind)) inside) in
    let a1 : At text s (joined qs ++ (c ∷ cs ++ joined later)) = at_along e a in
    let a2 : At text (s + width (joined qs)) (c ∷ cs ++ joined later) = at-behind (joined qs) (c ∷ cs ++ joined later) a1 in
    let a3 : At text (s + width (joined qs) + width (c ∷ cs)) (joined later) = at-behind (c ∷ cs) (joined later) a2 in
    let l1 : Lacks (joined qs ++ (c ∷ cs ++ joined later)) = subst (λ (v : List ℕ). Lacks v) e l in
    let l2 = lacks-behind (c ∷ cs) (joined later) (lacks-behind (joined qs) (c ∷ cs ++ joined later) l1) in
    let y = lexeme_of s qs (c ∷ cs) i.kind in
    let x = at_word text s qs c cs (joined later) st h f i no_regular in
    let r = rec (s + width (joined qs) + width (c ∷ cs)) (ends_in_glue (c ∷ cs)) later m k l2 a3 in (
      tail_next text s y x no_end r.0,
      next_core text s y x no_end r.0 (both (one_of_kinds core_kinds i.kind) (not (is_escaped i.kind (c ∷ cs))) i.core (rw i.unescaped refl)) r.1,
      tail_next-list text s y x no_end r.0 ∙ ap (λ (ls : Lexemes). next y ls) r.2
          ∙ ap (λ (z : Lexeme). next z (lexemes_from (s + width (joined qs) + width (c ∷ cs)) false later)) (word_same s qs (c ∷ cs) (joined later) i.kind g.0 i.unescaped) ∙ sym (g.1 s false),
    )

build : (text : List ℕ) (n s : ℕ) (glued : Bool) (ps : List (List ℕ)) → length ps ≤ n → are_core glued ps ≡ true → Lacks (joined ps) → At text s (joined ps) → CoreTail text s ps
build text zero s glued ps m k l a = let h = listed (s == 0) glued ps k l in finish text s ps a l h.0 h.1 (λ i g qs b _ _ _. absurd (omega arith))
build text (suc n) s glued ps m k l a = let h = listed (s == 0) glued ps k l in finish text s ps a l h.0 h.1 (λ i g qs b k' l' a'. build text n i g qs (omega arith) k' l' a')

built : (text : List ℕ) → IsUtf8 text → (c : CoreSource text) → CoreTail text 0 c.pieces
built text u c =
    let a : At text 0 (joined c.pieces) = at_along c.splits (at-start text u) in
    let l : Lacks (joined c.pieces) = subst (λ (v : List ℕ). Lacks v) c.splits (record { open_mark = not-true (occurs (codes "<!--") (chars text)) c.lacks_open; close_mark = not-true (occurs (codes "-->") (chars text)) c.lacks_close }) in
    build text (length c.pieces) 0 false c.pieces (omega arith) c.core l a

pub core_text : (text : List ℕ) → IsUtf8 text → CoreSource text → OneList text
core_text text u c =
    let t = (built text u c).0 in
    record { lexemes = t.list; lexed = λ g. record { lexes = t.lexes (passing_of g); ends = t.once }; only = λ g ls h. t.only (passing_of g) ls h.lexes h.ends }

pub core_lexemes : CoreLexemes
core_lexemes text u c g ls h = let t = built text u c in subst AllCore (sym (t.0.only (passing_of g) ls h.lexes h.ends)) t.1

-- at the text's start stands a core lexeme alone
pub core_first : (text : List ℕ) → IsUtf8 text → CoreSource text → (p : Passing) (y : Lexeme) → NextLexeme p text 0 y → core_lexeme y ≡ true
core_first text u c p y l = let t = built text u c in subst (λ (x : Lexeme). core_lexeme x ≡ true) (sym (t.0.first p y l)) (first_of t.0.list t.1)
  where
    first_of : (ls : Lexemes) → AllCore ls → core_lexeme (here ls) ≡ true
    first_of (last x) a = a
    first_of (next x ls) a = a.0

-- they are the lexemes of its pieces, at every goal
pub are_pieces : {text : List ℕ} {g : Goal} {ls : Lexemes} → IsUtf8 text → (c : CoreSource text) → Lexed g text ls → ls ≡ piece_lexemes c.pieces
are_pieces {text} {g} {ls} u c h = let t = built text u c in t.0.only (passing_of g) ls h.lexes h.ends ∙ t.2

pub pieces_lexed : {text : List ℕ} (g : Goal) {ls : Lexemes} → IsUtf8 text → (c : CoreSource text) → ls ≡ piece_lexemes c.pieces → Lexed g text ls
pieces_lexed {text} g {ls} u c e = let t = built text u c in subst (Lexed g text) (t.2 ∙ sym e) (record { lexes = t.0.lexes (passing_of g); ends = t.0.once })
