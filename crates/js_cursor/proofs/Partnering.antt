-- Markers of a merge conflict among lexemes.
use Rattle.std.proofs.Common.{ℕ, ◌≡◌, ◌<◌, ◌-◌, ◌⊎◌, inl, inr, Bool, true, false, List, [], ◌∷◌, length, drop, take, refl, sym, ap, subst, arith, ◌∙◌, ◌&&◌, ◌||◌, ◌==◌, Option, Some, None}
use Rattle.std.specs.Prelude.{codes, bytes_eq, nat_eq}
use Rattle.std.specs.List.{starts_with}
use Rattle.std.proofs.lemmas.List.{take_all, length-drop}
use Rattle.std.specs.Cmp.Lexicographic.{pointwise}
use Rattle.std.proofs.lemmas.Bool.{false≢true, eqb-true}
use Rattle.js_base.specs.declared.kind.Kind.TheVariants.{Undetermined, Eof}
use Rattle.js_base.specs.declared.span.Span.{Span}
use Rattle.js_base.specs.declared.token.Token.{Token}
use Rattle.js_tree.specs.js_grammar.Grammar.{Lexeme, Lexemes, last, next}
use Rattle.js_tree.specs.js_grammar.Lexed.{Lexes, end_of, join}
use Rattle.js_tree.specs.js_grammar.Marks.{Plain, NoPlain, begins_marker, begins_middle, begins_closing, middle_marker, closing_marker, seven_from}
use Rattle.js_tree.proofs.js_grammar.Parts.{joins}
use Rattle.js_tree.proofs.js_grammar.LongestLemmas.{both-left, both-right}
use Rattle.js_tree.proofs.js_grammar.Finding.{eqb-turn}
use Rattle.js_lex.specs.Kept.{Extends}
use Rattle.js_lex.specs.Reading.{Tells}
use Rattle.js_lex.specs.States.{State, SameText}
use Rattle.js_lex.proofs.Keeping.{keeps, extend_on}
use Rattle.js_cursor.specs.Markers.{lexeme_of, or_else, middle_with, Seen, nothing, some, Related, GivesPlain, Scanned}
use Rattle.js_cursor.proofs.Moving.{end_of-join, lexeme_some}

-- ---- comparing bytes

turned : (a b : List ℕ) → pointwise nat_eq a b ≡ pointwise nat_eq b a
turned [] [] = refl
turned [] (y ∷ b) = refl
turned (x ∷ a) [] = refl
turned (x ∷ a) (y ∷ b) = λ i. eqb-turn x y i && turned a b i

pub same_bytes : (a b : List ℕ) → bytes_eq a b ≡ true → a ≡ b
same_bytes [] [] h = refl
same_bytes [] (y ∷ b) h = absurd (false≢true h)
same_bytes (x ∷ a) [] h = absurd (false≢true h)
same_bytes (x ∷ a) (y ∷ b) h = λ i. eqb-true x y (both-left (x == y) (bytes_eq a b) h) i ∷ same_bytes a b (both-right (x == y) (bytes_eq a b) h) i

pub begins_so : (signs text bytes : List ℕ) (t : Token) (i : ℕ) (r : Bool) → length signs ≡ 7 → (t.is_on_new_line || (t.span.start == 0)) ≡ true → bytes ≡ text → i ≡ t.span.start → r ≡ starts_with nat_eq (take (length bytes - i) (drop i bytes)) signs → r ≡ begins_marker signs text (lexeme_of t)
begins_so signs text bytes t i r l f b s e =
    let d = length-drop i bytes in
    let rest : take (length bytes - i) (drop i bytes) ≡ drop t.span.start text = take_all (length bytes - i) (drop i bytes) (omega (arith, d)) ∙ (λ j. drop (s j) (b j)) in
    e ∙ ap (λ v. starts_with nat_eq v signs) rest ∙ ap (λ n. pointwise nat_eq signs (take n (drop t.span.start text))) l ∙ turned signs (take 7 (drop t.span.start text)) ∙ ap (λ (x : Bool). x && bytes_eq (take 7 (drop t.span.start text)) signs) (sym f)

-- ---- lexeme by lexeme

abbrev first_byte : List ℕ → ℕ
first_byte [] = 0
first_byte (c ∷ cs) = c

-- no lexeme begins with both signs
not_both : (text : List ℕ) (x : Lexeme) → begins_closing text x ≡ true → begins_middle text x ≡ false
not_both text x h = go (begins_middle text x) refl
  where
    bytes : (signs : List ℕ) → begins_marker signs text x ≡ true → take 7 (drop x.from text) ≡ signs
    bytes signs e = same_bytes (take 7 (drop x.from text)) signs (both-right (x.newline || (x.from == 0)) (bytes_eq (take 7 (drop x.from text)) signs) e)

    go : (b : Bool) → begins_middle text x ≡ b → begins_middle text x ≡ false
    go false e = e
    go true e = absurd (let z : 62 ≡ 61 = ap first_byte (sym (bytes (codes ">>>>>>>") h) ∙ bytes (codes "=======") e) in omega arith)

abbrev if_marker : Bool → ℕ → Option Span → Option Span
if_marker b i o = elim b [ true ↦ Some (seven_from i) | false ↦ o ]

closing-join : (text : List ℕ) (ls : Lexemes) (x : Lexeme) → closing_marker text (join ls (last x)) ≡ or_else (closing_marker text ls) (closing_marker text (last x))
closing-join text (last y) x = go (begins_closing text y)
  where
    go : (b : Bool) → if_marker b y.from (closing_marker text (last x)) ≡ or_else (if_marker b y.from None) (closing_marker text (last x))
    go true = refl
    go false = refl
closing-join text (next y ls) x = go (begins_closing text y) (closing-join text ls x)
  where
    go : (b : Bool) → closing_marker text (join ls (last x)) ≡ or_else (closing_marker text ls) (closing_marker text (last x)) → if_marker b y.from (closing_marker text (join ls (last x))) ≡ or_else (if_marker b y.from (closing_marker text ls)) (closing_marker text (last x))
    go true h = refl
    go false h = h

abbrev unless : Bool → Option Span → Option Span
unless b o = elim b [ true ↦ None | false ↦ o ]

middle-join : (text : List ℕ) (ls : Lexemes) (x : Lexeme) → middle_marker text (join ls (last x)) ≡ middle_with (closing_marker text ls) (middle_marker text ls) (middle_marker text (last x))
middle-join text (last y) x = go (begins_closing text y) refl (begins_middle text y) refl
  where
    go : (c : Bool) → begins_closing text y ≡ c → (m : Bool) → begins_middle text y ≡ m → unless c (if_marker m y.from (middle_marker text (last x))) ≡ middle_with (if_marker c y.from None) (if_marker m y.from None) (middle_marker text (last x))
    go true e true f = absurd (false≢true (sym (not_both text y e) ∙ f))
    go true e false f = refl
    go false e true f = refl
    go false e false f = refl
middle-join text (next y ls) x = go (begins_closing text y) (begins_middle text y) (middle-join text ls x)
  where
    same : (c : Option Span) (s o : Option Span) → or_else s o ≡ s → s ≡ middle_with c s o
    same (Some z) s o e = refl
    same None s o e = sym e

    go : (c m : Bool) → middle_marker text (join ls (last x)) ≡ middle_with (closing_marker text ls) (middle_marker text ls) (middle_marker text (last x)) → unless c (if_marker m y.from (middle_marker text (join ls (last x)))) ≡ middle_with (if_marker c y.from (closing_marker text ls)) (unless c (if_marker m y.from (middle_marker text ls))) (middle_marker text (last x))
    go true m h = refl
    go false true h = same (closing_marker text ls) (Some (seven_from y.from)) (middle_marker text (last x)) refl
    go false false h = h

-- what is told of the token is what is told of its lexeme
told : (signs text : List ℕ) (x : Lexeme) (t : Token) → Tells x t → begins_marker signs text (lexeme_of t) ≡ begins_marker signs text x
told signs text x t h = λ i. (h.newline i || (h.start i == 0)) && bytes_eq (take 7 (drop (h.start i) text)) signs

middle-told : (text : List ℕ) (x : Lexeme) (t : Token) → Tells x t → middle_marker text (last (lexeme_of t)) ≡ middle_marker text (last x)
middle-told text x t h = λ i. if_marker (told (codes "=======") text x t h i) (h.start i) None

closing-told : (text : List ℕ) (x : Lexeme) (t : Token) → Tells x t → closing_marker text (last (lexeme_of t)) ≡ closing_marker text (last x)
closing-told text x t h = λ i. if_marker (told (codes ">>>>>>>") text x t h i) (h.start i) None

-- one lexeme more
record Joined (text : List ℕ) (s to : ℕ) (first second : Option Span) : Type 0 where
  lexemes : Lexemes
  lexed : Lexes (Plain text) s lexemes
  ends : end_of lexemes ≡ to
  is_first : first ≡ middle_marker text lexemes
  is_second : second ≡ closing_marker text lexemes

seen_more : {text : List ℕ} {s at : ℕ} {first second middle closing : Option Span} (x : Lexeme) (t : Token) → Seen text s at first second → Plain text at x → Tells x t → middle ≡ middle_with second first (middle_marker text (last (lexeme_of t))) → closing ≡ or_else second (closing_marker text (last (lexeme_of t))) → Joined text s x.to middle closing
seen_more {text} {s} {at} {first} {second} {middle} {closing} x t (nothing e f n) p h m c = record {
  lexemes = last x;
  lexed = subst (λ (v : ℕ). Plain text v x) e p;
  ends = refl;
  is_first = m ∙ (λ i. middle_with (n i) (f i) (middle_marker text (last (lexeme_of t)))) ∙ middle-told text x t h;
  is_second = c ∙ ap (λ o. or_else o (closing_marker text (last (lexeme_of t)))) n ∙ closing-told text x t h;
}
seen_more {text} {s} {at} {first} {second} {middle} {closing} x t (some ls l e f n) p h m c = record {
  lexemes = join ls (last x);
  lexed = joins (Plain text) s ls (last x) l (subst (λ (v : ℕ). Plain text v x) (sym e) p);
  ends = end_of-join ls x;
  is_first = m ∙ (λ i. middle_with (n i) (f i) (middle-told text x t h i)) ∙ sym (middle-join text ls x);
  is_second = c ∙ (λ i. or_else (n i) (closing-told text x t h i)) ∙ sym (closing-join text ls x);
}

-- all was seen
pub seen_all : {text : List ℕ} {s at : ℕ} {first second : Option Span} → Seen text s at first second → NoPlain text at → Related text s first second
seen_all {text} {s} {at} {first} {second} (nothing e f n) h = inr (subst (NoPlain text) e h, (f, n))
seen_all {text} {s} {at} {first} {second} (some ls l e f n) h = inl (record { lexemes = ls; all = record { lexed = l; whole = inr (subst (NoPlain text) (sym e) h) }; is_first = f; is_second = n })

-- ---- the loop

record Step (old mid new : State) (t : Token) (middle closing : Option Span) : Type 0 where
  lexeme : Lexeme
  plain : Plain old.text mid.place lexeme
  tells : Tells lexeme t
  ends : lexeme.kind ≡ Eof → lexeme.to ≡ length old.text
  joined : Joined old.text old.place lexeme.to middle closing
  to : new.place ≡ lexeme.to

module _ {old mid new : State} (t : Token) where
  scanned-before : SameText old mid → Extends old.kept mid.kept → GivesPlain mid new t → SameText old new × Extends old.kept new.kept
  scanned-before s x g = (record { text = g.same.text ∙ s.text; goal = g.same.goal ∙ s.goal; keeps_tokens = g.same.keeps_tokens ∙ s.keeps_tokens }, extend_on x.grows g.extends)

  pub scan_none : {first second : Option Span} → SameText old mid → Extends old.kept mid.kept → Seen old.text old.place mid.place first second → GivesPlain mid new t → t.kind ≡ Undetermined → Scanned old new (record { middle = first; closing = second })
  scan_none {first} {second} s x n g k = record { same = (scanned-before s x g).0; extends = (scanned-before s x g).1; related = go g.lexeme }
    where
      go : ((t.kind ≡ Undetermined) × NoPlain mid.text mid.place) ⊎ ((t.kind ≡ Undetermined → ⊥) × (y : Lexeme) × Plain mid.text mid.place y × Tells y t × (y.kind ≡ Eof → y.to ≡ length mid.text)) → Related old.text old.place first second
      go (inl h) = seen_all n (subst (λ (v : List ℕ). NoPlain v mid.place) s.text h.1)
      go (inr h) = absurd (h.0 k)

  step : {text : List ℕ} {first second middle closing : Option Span} → old.text ≡ text → SameText old mid → Seen old.text old.place mid.place first second → GivesPlain mid new t → (t.kind ≡ Undetermined → ⊥) → middle ≡ middle_with second first (middle_marker text (last (lexeme_of t))) → closing ≡ or_else second (closing_marker text (last (lexeme_of t))) → Step old mid new t middle closing
  step {text} {first} {second} {middle} {closing} e s n g k m c = go g.lexeme
    where
      go : ((t.kind ≡ Undetermined) × NoPlain mid.text mid.place) ⊎ ((t.kind ≡ Undetermined → ⊥) × (y : Lexeme) × Plain mid.text mid.place y × Tells y t × (y.kind ≡ Eof → y.to ≡ length mid.text)) → Step old mid new t middle closing
      go (inl h) = absurd (k h.0)
      go (inr (u, y, p, h, z)) =
          let q : Plain old.text mid.place y = subst (λ (v : List ℕ). Plain v mid.place y) s.text p in
          record {
            lexeme = y;
            plain = q;
            tells = h;
            ends = λ f. z f ∙ ap length s.text;
            joined = seen_more y t n q h (m ∙ ap (λ (v : List ℕ). middle_with second first (middle_marker v (last (lexeme_of t)))) (sym e)) (c ∙ ap (λ (v : List ℕ). or_else second (closing_marker v (last (lexeme_of t)))) (sym e));
            to = g.place ∙ h.end;
          }

  pub scan_end : {text : List ℕ} {first second middle closing : Option Span} → old.text ≡ text → SameText old mid → Extends old.kept mid.kept → Seen old.text old.place mid.place first second → GivesPlain mid new t → (t.kind ≡ Undetermined → ⊥) → middle ≡ middle_with second first (middle_marker text (last (lexeme_of t))) → closing ≡ or_else second (closing_marker text (last (lexeme_of t))) → t.kind ≡ Eof → Scanned old new (record { middle = middle; closing = closing })
  scan_end {text} {first} {second} {middle} {closing} e s x n g k m c f =
      let h = step e s n g k m c in
      let j = h.joined in
      record {
        same = (scanned-before s x g).0;
        extends = (scanned-before s x g).1;
        related = inl (record { lexemes = j.lexemes; all = record { lexed = j.lexed; whole = inl (j.ends ∙ h.ends (sym h.tells.kind ∙ f)) }; is_first = j.is_first; is_second = j.is_second });
      }

  pub scan_more : {text : List ℕ} {first second middle closing : Option Span} → old.text ≡ text → SameText old mid → Extends old.kept mid.kept → Seen old.text old.place mid.place first second → GivesPlain mid new t → (t.kind ≡ Undetermined → ⊥) → middle ≡ middle_with second first (middle_marker text (last (lexeme_of t))) → closing ≡ or_else second (closing_marker text (last (lexeme_of t))) → SameText old new × Extends old.kept new.kept × Seen old.text old.place new.place middle closing
  scan_more {text} {first} {second} {middle} {closing} e s x n g k m c =
      let h = step e s n g k m c in
      let j = h.joined in
      ((scanned-before s x g).0, (scanned-before s x g).1, some j.lexemes j.lexed (j.ends ∙ sym h.to) j.is_first j.is_second)

  pub scan_further : SameText old mid → GivesPlain mid new t → (t.kind ≡ Undetermined → ⊥) → (t.kind ≡ Eof → ⊥) → length old.text - new.place < length old.text - mid.place
  scan_further s g k f = go g.lexeme
    where
      go : ((t.kind ≡ Undetermined) × NoPlain mid.text mid.place) ⊎ ((t.kind ≡ Undetermined → ⊥) × (y : Lexeme) × Plain mid.text mid.place y × Tells y t × (y.kind ≡ Eof → y.to ≡ length mid.text)) → length old.text - new.place < length old.text - mid.place
      go (inl h) = absurd (k h.0)
      go (inr (u, y, p, h, z)) =
          let l = lexeme_some p.lex (λ q. f (h.kind ∙ q)) in
          let b = p.lex.from in
          let w = g.place in
          let d = h.end in
          let o = g.lies.ends_whole.0 in
          let q = ap length s.text in
          omega arith

pub scan_starts : (s : State) → SameText s s × Extends s.kept s.kept × Seen s.text s.place s.place None None
scan_starts s = (record { text = refl; goal = refl; keeps_tokens = refl }, keeps s.kept s.kept refl refl refl refl, nothing refl refl refl)
