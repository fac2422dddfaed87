-- What is told of places where an array literal is wider than a target (ECMA-262, 13.15.5).
use Rattle.std.proofs.Common.{ℕ, ◌≡◌, ◌≤◌, ◌+◌, ◌⊎◌, inl, inr, Bool, true, false, not, List, [], ◌∷◌, ◌++◌, length, drop, take, zero, suc, None, refl, sym, ap, subst, arith, ◌∙◌}
use Rattle.std.specs.Prelude.{IsCharBoundary, IsUtf8, slice_get, Some}
use Rattle.std.proofs.Math.Seq.{drop-cons}
use Rattle.std.proofs.lemmas.Option.{slice_get_within, get_or_from_slice_get}
use Rattle.std.proofs.lemmas.Bool.{false≢true, and_from, or_right}
use Rattle.js_base.specs.declared.diagnostic.Diagnostic.{Diagnostic}
use Rattle.js_base.specs.declared.diagnostic.DiagnosticKind.TheVariants.{RestElementTrailingComma, InvalidAssignmentTargetDefaultValueOperator, InvalidRestAssignmentTarget, SpreadLastElement}
use Rattle.js_base.specs.declared.kind.Kind.{Kind}
use Rattle.js_base.specs.declared.kind.Kind.TheVariants.{Comma, Dot3, RBrack, RParen, RCurly, RAngle, Undetermined}
use Rattle.js_base.specs.declared.span.Span.{Span}
use Rattle.js_base.specs.declared.token.Token.{Token}
use Rattle.js_base.specs.Kinds.{same_kind, one_of_kinds}
use Rattle.js_base.proofs.KindLemmas.{kind_of_same}
use Rattle.js_grammar.specs.Grammar.{Lexeme}
use Rattle.js_grammar.specs.Lexemes.{division, is_escaped}
use Rattle.js_grammar.specs.Marks.{Mark, a_lexeme, the_start, the_end}
use Rattle.parse_shared.specs.laws_shared.Told.{unrelated_at}
use Rattle.js_grammar.specs.Productions.{Flags}
use Rattle.js_grammar.specs.Settings.{Goal}
use Rattle.parse_shared.specs.js_lex.Reading.{cut, is_right_angle, Tells, GivesLexeme, GivesNone, GivesBehind, Outcome}
use Rattle.parse_shared.proofs.js_lex.Again.{cut_same}
use Rattle.parse_shared.specs.js_cursor.Parsers.{Parser}
use Rattle.parse_shared.specs.laws_shared.Answers.{Grown, Verdict, clean, unclean, wider}
use Rattle.parse_shared.specs.laws_shared.Lexemes.{Lex, other_goals}
use Rattle.js_base.specs.Diagnostics.{class_of}
use Rattle.parse_shared.specs.laws_shared.Classes.{IsEarly}
use Rattle.parse_targets.specs.Taken.{EachTold, OneTold, PlaceTold, PlacesTold, TellsOf}
use Rattle.parse_shared.specs.laws_shared.States.{At, Same}
use Rattle.parse_targets.specs.declared.widening.Widening.{Widening}
use Rattle.parse_targets.specs.declared.widening.Widening.TheVariants.{Rest, RestTarget, Operator}
use Rattle.parse_targets.specs.Targets.{Each, Open, Closed, Followed, Ended, Narrow, Fits, Spanned, Spotted}
use Rattle.parse_shared.proofs.laws_shared.Giving.{kept_one}
use Rattle.parse_shared.proofs.laws_shared.Here.{alike_plain, plainly, one_plain}
use Rattle.parse_targets.proofs.LiteralsAsTargets.{lexeme_between, bracket_plain}
use Rattle.parse_shared.proofs.laws_shared.Moving.{same_both, same_itself}
use Rattle.parse_shared.proofs.laws_shared.Paths.{read_of}
use Rattle.parse_shared.proofs.laws_shared.Signs.{plain_of}
use Rattle.parse_shared.proofs.laws_shared.Told.{told_at, told_same}
use Rattle.parse_shared.proofs.laws_shared.Verdicts.{grown_both, grown_then}
use Rattle.parse_shared.proofs.laws_shared.PlainSigns.{comma_plain}

-- it is told of by an early diagnostic
told_early : (w : Widening) (d : Diagnostic) → TellsOf w d → IsEarly d
told_early (Rest s) d e = ap class_of e
told_early (RestTarget s) d e = ap (λ (x : Diagnostic). class_of x.kind) e
told_early (Operator s) d e = ap (λ (x : Diagnostic). class_of x.kind) e

-- ---- the token behind a place

abbrev closers : List Kind
closers = RParen ∷ RBrack ∷ RCurly ∷ []

-- a comma, as it is told
record CommaThere (text : List ℕ) (e : ℕ) (t : Token) : Type 0 where
  comma : Lexeme
  stands : Lex text e comma
  is : comma.kind ≡ Comma
  start : t.span.start ≡ comma.from
  end : t.span.end ≡ comma.to

module _ {text : List ℕ} {e : ℕ} {t : Token} (g : GivesBehind text e t) where
  behind_it : Outcome division cut (g.before).goal text e t [] (g.next).faults
  behind_it = subst (λ (v : List ℕ). Outcome division cut (g.before).goal v e t [] (g.next).faults) g.text_is (subst (λ (v : ℕ). Outcome division cut (g.before).goal (g.before).text v t [] (g.next).faults) g.place_is (g.next).outcome)

  given : {A : Type 0} → ((d : Diagnostic) → t.kind ≡ Undetermined → GivesNone division (g.before).goal text e t d → A) → (GivesLexeme division cut text e t → A) → A
  given {A} n h = go (same_kind Undetermined t.kind) refl behind_it
    where
      go : (r : Bool) → same_kind Undetermined t.kind ≡ r → elim r as (λ _. Type 0) [ true ↦ (d : Diagnostic) × ((g.next).faults ≡ d ∷ []) × GivesNone division (g.before).goal text e t d | false ↦ ((g.next).faults ≡ []) × GivesLexeme division cut text e t ] → A
      go true q x = n x.0 (sym (kind_of_same Undetermined t.kind q)) x.2
      go false q x = h x.1

  -- a comma is told where it stands
  comma_seen : (y : Lexeme) → Lex text e y → y.kind ≡ Comma → t.kind ≡ Comma
  comma_seen y l k = given
      (λ d u n. absurd (n.none y (record { lex = l.0; of_goal = plainly l.0 l.1 (ap (one_of_kinds other_goals) k) })))
      (λ x. x.tells.kind ∙ (ap (λ (z : Lexeme). z.kind) (cut_same x.lexeme (ap is_right_angle (ap (λ (z : Lexeme). z.kind) (sym (one_plain l (ap (one_of_kinds other_goals) k) x)) ∙ k))) ∙ (ap (λ (z : Lexeme). z.kind) (sym (one_plain l (ap (one_of_kinds other_goals) k) x)) ∙ k)))

  comma_there : t.kind ≡ Comma → CommaThere text e t
  comma_there k = given (λ d u n. let w : Comma ≡ Undetermined = sym k ∙ u in absurd (cc)) (λ x. by x (is_right_angle x.lexeme.kind) refl)
    where
      by : (x : GivesLexeme division cut text e t) → (b : Bool) → is_right_angle x.lexeme.kind ≡ b → CommaThere text e t
      by x true q = let w : RAngle ≡ Comma = (let c : (cut x.lexeme).kind ≡ RAngle = rw (q, cut) refl in sym c ∙ (sym x.tells.kind ∙ k)) in absurd (cc)
      by x false q =
          let s = subst (λ (z : Lexeme). Tells z t) (cut_same x.lexeme q) x.tells in
          let i : x.lexeme.kind ≡ Comma = sym s.kind ∙ k in
          let n : x.lexeme.escaped ≡ false = plain_of Comma x.stands.lex.word x.lexeme.escaped (subst (λ (v : Kind). x.lexeme.escaped ≡ is_escaped v x.stands.lex.word) i x.stands.lex.escaped) comma_plain in
          record { comma = x.lexeme; stands = (x.stands.lex, read_of x.lexeme i refl); is = i; start = s.start; end = s.end }

  pub open_behind : (t.kind ≡ Comma → ⊥) → Open text e
  open_behind n y l k = n (comma_seen y l k)

  pub not_open : t.kind ≡ Comma → Open text e → ⊥
  not_open k o = let c = comma_there k in o c.comma c.stands c.is

  followed_there : (c : CommaThere text e t) → Closed text e ⊎ Followed text e → Closed text c.comma.to
  followed_there c (inl z) = absurd (false≢true (ap (one_of_kinds (RBrack ∷ RCurly ∷ [])) (sym c.is ∙ ap (λ (y : Lexeme). y.kind) (alike_plain c.stands z.stands (ap (one_of_kinds other_goals) c.is) (bracket_plain z.bracket.kind z.is))) ∙ z.is))
  followed_there c (inr z) = subst (λ (y : Lexeme). Closed text y.to) (alike_plain z.stands c.stands (ap (one_of_kinds other_goals) z.is) (ap (one_of_kinds other_goals) c.is)) z.behind

  pub comma_marked : (source : Goal) (s : Span) → IsUtf8 text → Ended text e → t.kind ≡ Comma → s ≡ t.span → Mark source text (record { kind = RestElementTrailingComma; span = s; first = None; second = None })
  comma_marked source s u h k q =
      let c = comma_there k in
      let z = followed_there c h.either in
      let b = lexeme_between u h.between c.stands in
      let start : s.start ≡ c.comma.from = ap (λ (v : Span). v.start) q ∙ c.start in
      let ends : s.end ≡ c.comma.to = ap (λ (v : Span). v.end) q ∙ c.end in
      let w = c.stands.0.to in
      record {
        ordered = omega arith;
        within = subst (λ (v : ℕ). v ≤ length text) (sym ends) b.1.0;
        begins_between = subst (λ (v : ℕ). IsCharBoundary text v) (sym start) b.0;
        ends_between = subst (λ (v : ℕ). IsCharBoundary text v) (sym ends) b.1;
        stands = (
          record {
            place = e;
            first = c.comma;
            second = z.bracket;
            part = record { reached = h.reached; lexed = (c.stands.0, z.stands.0) };
            is = (sym start, sym ends);
            passes = and_from (same_kind Comma c.comma.kind) _ (subst (λ (v : Kind). same_kind Comma v ≡ true) (sym c.is) refl) (or_right (same_kind RParen z.bracket.kind) _ z.is);
          },
          (refl, refl),
        );
      }

-- ---- the marks of spreads and of operators

-- the edges of a span are those of lexemes
pub operator_marked : {text : List ℕ} (source : Goal) (s : Span) → Spanned text s → Mark source text (unrelated_at InvalidAssignmentTargetDefaultValueOperator s)
operator_marked source s x = record {
  ordered = x.ordered;
  within = x.ends_between.0;
  begins_between = x.begins_between;
  ends_between = x.ends_between;
  stands = ((the_start (a_lexeme x.reached x.stands.0) x.begins, the_end (a_lexeme x.reached_behind x.stands_behind.0) x.ends), (refl, refl));
}

pub argument_marked : {text : List ℕ} (source : Goal) (s : Span) → Spanned text s → Mark source text (unrelated_at InvalidRestAssignmentTarget s)
argument_marked source s x = record {
  ordered = x.ordered;
  within = x.ends_between.0;
  begins_between = x.begins_between;
  ends_between = x.ends_between;
  stands = ((the_start (a_lexeme x.reached x.stands.0) x.begins, the_end (a_lexeme x.reached_behind x.stands_behind.0) x.ends), (refl, refl));
}

pub spread_marked : {text : List ℕ} (source : Goal) (s : Span) → Spotted text (Rest s) → Mark source text (unrelated_at SpreadLastElement s)
spread_marked source s h = let x = h.0 in record {
  ordered = x.ordered;
  within = x.ends_between.0;
  begins_between = x.begins_between;
  ends_between = x.ends_between;
  stands = (record { lexeme = x.first; of_text = a_lexeme x.reached x.stands.0; begins = x.begins; passes = and_from (one_of_kinds (Dot3 ∷ []) x.first.kind) (not x.first.escaped) (subst (λ (v : Kind). one_of_kinds (Dot3 ∷ []) v ≡ true) (sym h.1) refl) (ap not h.2) }, (refl, refl));
}

-- ---- all of them

pub record ToldUpTo (places : List Widening) (old new : Parser) (from : ℕ) : Type 0 where
  pub within : from ≤ length places
  pub at : (text : List ℕ) (f : Flags) → At text f old → At text f new
  pub same : Same old new
  pub is : new ≡ record old { errors = new.errors }
  pub drops : Each (Narrow old.text) places → Each (Narrow old.text) (drop from places)
  pub verdict : Verdict ⊥ old.errors new.errors (Each (Narrow old.text) (drop from places) → Each (Narrow old.text) places) (Each (Narrow old.text) places → ⊥)
  pub fits : Each (Fits old.text) (drop from places)
  pub spotted : Each (Spotted old.text) (drop from places)
  pub each : EachTold old.text (take from places) old.errors new.errors

pub places_begin : {places : List Widening} {p : Parser} → Each (Spotted p.text) places → Each (Fits p.text) places → ToldUpTo places p p 0
places_begin e g = record { within = omega arith; at = λ text f a. a; same = same_itself; is = refl; drops = λ h. h; verdict = clean refl (λ h. h); fits = g; spotted = e; each = refl }

-- one place more was told of
each_then : (text : List ℕ) (ws : List Widening) (w : Widening) (old mid new : List Diagnostic) → EachTold text ws old mid → OneTold text w mid new → EachTold text (ws ++ w ∷ []) old new
each_then text [] w old mid new e h = (new, subst (λ (ds : List Diagnostic). OneTold text w ds new) e h, refl)
each_then text (v ∷ ws) w old mid new e h = (e.0, e.1, each_then text ws w e.0 mid new e.2 h)

take_one : {A : Type 0} (xs ys : List A) (x : A) (n : ℕ) → drop n xs ≡ x ∷ ys → take (suc n) xs ≡ take n xs ++ x ∷ []
take_one [] ys x zero q = absurd (cc)
take_one [] ys x (suc n) q = absurd (cc)
take_one (z ∷ xs) ys x zero q = ap (λ v. v ∷ []) (cons_head q)
  where
    cons_head : z ∷ xs ≡ x ∷ ys → z ≡ x
    cons_head e = cc
take_one (z ∷ xs) ys x (suc n) q = ap (λ v. z ∷ v) (take_one xs ys x n q)

take_next : {A : Type 0} (xs ys : List A) (x : A) (n : ℕ) → drop n xs ≡ x ∷ ys → take (n + 1) xs ≡ take n xs ++ x ∷ []
take_next xs ys x n q = let e : n + 1 ≡ suc n = omega arith in ap (λ (k : ℕ). take k xs) e ∙ take_one xs ys x n q

take_whole : {A : Type 0} (xs : List A) (n : ℕ) → length xs ≤ n → take n xs ≡ xs
take_whole [] zero l = refl
take_whole [] (suc n) l = refl
take_whole (x ∷ xs) zero l = absurd (omega arith)
take_whole (x ∷ xs) (suc n) l = ap (λ v. x ∷ v) (take_whole xs n (omega arith))

pub next_place : (places : List Widening) (from : ℕ) (x : Widening) → slice_get places from ≡ Some x → drop from places ≡ x ∷ drop (from + 1) places
next_place places from x e =
    let l = slice_get_within places from x e in
    let n : suc from ≡ from + 1 = omega arith in
    drop-cons places from x l ∙ (ap (λ (y : Widening). y ∷ drop (suc from) places) (get_or_from_slice_get places from x x e) ∙ ap (λ (k : ℕ). x ∷ drop k places) n)

module _ {places : List Widening} {old mid : Parser} {from : ℕ} {place : Widening} (z : ToldUpTo places old mid from) (q : drop from places ≡ place ∷ drop (from + 1) places) where
  text_kept : mid.text ≡ old.text
  text_kept = ap (λ (p : Parser). p.text) z.is

  pub place_fits : Fits mid.text place
  place_fits = subst (λ (v : List ℕ). Fits v place) (sym text_kept) (subst (λ (xs : List Widening). Each (Fits old.text) xs) q z.fits).0

  pub place_spotted : Spotted mid.text place
  place_spotted = subst (λ (v : List ℕ). Spotted v place) (sym text_kept) (subst (λ (xs : List Widening). Each (Spotted old.text) xs) q z.spotted).0

  narrow_place : Narrow mid.text place → Narrow old.text place
  narrow_place o = subst (λ (v : List ℕ). Narrow v place) text_kept o

  wide_place : (Narrow mid.text place → ⊥) → Narrow old.text place → ⊥
  wide_place n o = n (subst (λ (v : List ℕ). Narrow v place) (sym text_kept) o)

  narrows : Each (Narrow old.text) places → Narrow old.text place × Each (Narrow old.text) (drop (from + 1) places)
  narrows h = subst (λ (xs : List Widening). Each (Narrow old.text) xs) q (z.drops h)

  one_told : {new : Parser} → PlaceTold place mid new → OneTold old.text place mid.errors new.errors
  one_told (inl t) = inl (narrow_place t.0, ap (λ (p : Parser). p.errors) t.1)
  one_told (inr t) = inr (wide_place t.0, (t.1.0, t.1.1, ap (λ (p : Parser). p.errors) t.1.2.is))

  each_next : {new : Parser} → PlaceTold place mid new → EachTold old.text (take (from + 1) places) old.errors new.errors
  each_next {new = new} t = subst (λ (ws : List Widening). EachTold old.text ws old.errors new.errors) (sym (take_next places (drop (from + 1) places) place from q)) (each_then old.text (take from places) place old.errors mid.errors new.errors z.each (one_told t))

  pub places_next : {new : Parser} → from + 1 ≤ length places → PlaceTold place mid new → ToldUpTo places old new (from + 1)
  places_next {new = new} w (inl t) = record {
    within = w;
    at = λ text f a. subst (λ (p : Parser). At text f p) (sym t.1) (z.at text f a);
    same = subst (λ (p : Parser). Same old p) (sym t.1) z.same;
    is = subst (λ (p : Parser). p ≡ record old { errors = p.errors }) (sym t.1) z.is;
    drops = λ h. (narrows h).1;
    verdict = subst (λ (p : Parser). Verdict ⊥ old.errors p.errors (Each (Narrow old.text) (drop (from + 1) places) → Each (Narrow old.text) places) (Each (Narrow old.text) places → ⊥)) (sym t.1) (by z.verdict);
    fits = (subst (λ (xs : List Widening). Each (Fits old.text) xs) q z.fits).1;
    spotted = (subst (λ (xs : List Widening). Each (Spotted old.text) xs) q z.spotted).1;
    each = each_next {new = new} (inl t);
  }
    where
      by : Verdict ⊥ old.errors mid.errors (Each (Narrow old.text) (drop from places) → Each (Narrow old.text) places) (Each (Narrow old.text) places → ⊥) → Verdict ⊥ old.errors mid.errors (Each (Narrow old.text) (drop (from + 1) places) → Each (Narrow old.text) places) (Each (Narrow old.text) places → ⊥)
      by (clean e h) = clean e (λ k. h (subst (λ (xs : List Widening). Each (Narrow old.text) xs) (sym q) (narrow_place t.0, k)))
      by (unclean g n) = unclean g n
      by (wider w g n) = elim w [ ]
  places_next {new = new} w (inr t) = record {
    within = w;
    at = λ text f a. told_at t.1.2 (z.at text f a);
    same = same_both z.same (told_same t.1.2 (told_early place t.1.0 t.1.1));
    is = t.1.2.is ∙ ap (λ (p : Parser). record p { errors = mid.errors ++ t.1.0 ∷ [] }) z.is ∙ ap (λ (ds : List Diagnostic). record old { errors = ds }) (sym (ap (λ (p : Parser). p.errors) t.1.2.is));
    drops = λ h. (narrows h).1;
    verdict = unclean (grown z.verdict) (λ h. wide_place t.0 (narrows h).0);
    fits = (subst (λ (xs : List Widening). Each (Fits old.text) xs) q z.fits).1;
    spotted = (subst (λ (xs : List Widening). Each (Spotted old.text) xs) q z.spotted).1;
    each = each_next {new = new} (inr t);
  }
    where
      grown : Verdict ⊥ old.errors mid.errors (Each (Narrow old.text) (drop from places) → Each (Narrow old.text) places) (Each (Narrow old.text) places → ⊥) → Grown old.errors new.errors
      grown (clean e h) = grown_then e (kept_one t.1.2)
      grown (unclean g n) = grown_both g (kept_one t.1.2)
      grown (wider w g n) = elim w [ ]

pub places_end : {places : List Widening} {old new : Parser} {from : ℕ} → ToldUpTo places old new from → length places ≤ from → PlacesTold places old new
places_end {places} {old} {new} {from} z l = record { at = z.at; same = z.same; is = z.is; verdict = by z.verdict; each = subst (λ (ws : List Widening). EachTold old.text ws old.errors new.errors) (take_whole places from l) z.each }
  where
    none_left : (xs : List Widening) (n : ℕ) → length xs ≤ n → drop n xs ≡ []
    none_left [] zero l = refl
    none_left [] (suc n) l = refl
    none_left (x ∷ xs) zero l = absurd (omega arith)
    none_left (x ∷ xs) (suc n) l = none_left xs n (omega arith)

    by : Verdict ⊥ old.errors new.errors (Each (Narrow old.text) (drop from places) → Each (Narrow old.text) places) (Each (Narrow old.text) places → ⊥) → Verdict ⊥ old.errors new.errors (Each (Narrow old.text) places) (Each (Narrow old.text) places → ⊥)
    by (clean e h) = clean e (h (subst (λ (xs : List Widening). Each (Narrow old.text) xs) (sym (none_left places from l)) tt))
    by (unclean g n) = unclean g n
    by (wider w g n) = elim w [ ]
