-- Small texts, and where diagnostics of them have no mark.
use Rattle.std.proofs.Common.{ℕ, ◌≡◌, ◌⊎◌, true, false, not, List, [], ◌∷◌, Some, None, inl, inr, refl, sym, ap, subst, ◌∙◌, arith}
use Rattle.std.proofs.lemmas.Bool.{false≢true}
use Rattle.std.specs.Prelude.{codes, IsTrue}
use Rattle.std.specs.Str.{chars}
use Rattle.js_base.specs.declared.diagnostic.DiagnosticKind.{DiagnosticKind}
use Rattle.js_base.specs.declared.diagnostic.DiagnosticKind.TheVariants.{EscapedKeyword, NewTarget, ExpectClosing, Redeclaration}
use Rattle.js_base.specs.declared.kind.Kind.TheVariants.{LCurly, Comma, Colon, Ident, Dot, Semicolon, Str, TemplateHead, Eof}
use Rattle.js_base.specs.declared.span.Span.{Span}
use Rattle.js_base.specs.Keywords.{keyword_of}
use Rattle.js_base.specs.Texts.{words, punctuators}
use Rattle.js_base.specs.part_text.Characters.{one_of}
use Rattle.js_grammar.specs.Grammar.{Lexeme, Lexemes, last, next}
use Rattle.js_grammar.specs.Words.{'new', 'with'}
use Rattle.js_grammar.specs.Settings.{script}
use Rattle.js_grammar.specs.Lexemes.{division}
use Rattle.js_grammar.specs.Lexed.{NextLexeme, Lexes, Stands, all_faults, end_of}
use Rattle.js_grammar.specs.LexicalFaults.{Reached, Faulty}
use Rattle.js_grammar.specs.Marks.{IsLexemeOf, a_lexeme, a_sign, a_fault, goes_on, begins_with_greater, of_kinds, another_word, opens, is_part, EdgeOf, the_start, the_end, inside_start, inside_end, none, StandsAt}
use Rattle.js_grammar.proofs.Alike.{stands-same}
use Rattle.js_grammar.proofs.Choices.{choice}
use Rattle.js_grammar.proofs.Standing.{stand, lexeme_of}

abbrev span : ℕ → ℕ → Span
span from to = record { start = from; end = to }

-- Before a character that is no slash and no right brace one lexeme stands, and at the text's end one.
settled : (text : List ℕ) (s : ℕ) (z : Lexeme) (ps : List (List ℕ)) (c : ℕ) (cs : List ℕ) → Stands text s ps [] (c ∷ cs) → one_of (47 ∷ 125 ∷ []) c ≡ false → NextLexeme all_faults text s z → (y : Lexeme) → NextLexeme all_faults text s y → y ≡ z
settled text s z ps c cs st n k y h =
    elim (choice all_faults all_faults text s y z h k) [
      | inl e ↦ e
      | inr b ↦ absurd (let same = (stands-same b.stands st).back in let f : b.first ≡ c = cc in false≢true (sym n ∙ subst (λ (v : ℕ). one_of (47 ∷ 125 ∷ []) v ≡ true) f b.is))
    ]

settled_last : (text : List ℕ) (s : ℕ) (z : Lexeme) → Stands text s [] [] [] → NextLexeme all_faults text s z → (y : Lexeme) → NextLexeme all_faults text s y → y ≡ z
settled_last text s z st k y h = elim (choice all_faults all_faults text s y z h k) [ inl e ↦ e | inr b ↦ absurd (let same = (stands-same b.stands st).back in cc) ]

-- what holds of the text's start, and from each place on of the next, holds of each place that is reached
module _ {text : List ℕ} (P : ℕ → Type 0) (on : (s : ℕ) → P s → (y : Lexeme) → NextLexeme all_faults text s y → P y.to) where
  end_holds : (s : ℕ) (ls : Lexemes) → P s → Lexes (NextLexeme all_faults text) s ls → P (end_of ls)
  end_holds s (last y) p l = on s p y l
  end_holds s (next y ls) p l = end_holds y.to ls (on s p y l.0) l.1

  place_holds : P 0 → (s : ℕ) → Reached text s → P s
  place_holds p s (inl e) = subst P (sym e) p
  place_holds p s (inr r) = subst P r.2 (end_holds 0 r.0 p r.1)

-- ---- `foo b`: what is told has no mark within a name

abbrev names : List ℕ
names = codes "foo b"

record Outside (y : Lexeme) : Type 0 where
  start : y.from ≡ 1 → ⊥
  end : y.to ≡ 1 → ⊥
  whole : is_part y.kind ≡ false
  uncut : begins_with_greater y.kind ≡ false

abbrev AtName : ℕ → Type 0
AtName s = (s ≡ 0) ⊎ ((s ≡ 3) ⊎ (s ≡ 5))

name_at : (s : ℕ) → AtName s → (y : Lexeme) → NextLexeme all_faults names s y → AtName y.to × Outside y
unfolding words punctuators chars keyword_of
name_at s (inl e) y h =
    let same : y ≡ lexeme_of 0 [] (codes "foo") Ident = settled names 0 (lexeme_of 0 [] (codes "foo") Ident) [] 102 (codes "oo b") (record { within = omega arith; splits = refl; trivia = refl }) refl
    (stand all_faults names 0 [] division (codes "foo") (codes " b") Ident (omega arith) refl refl refl) y (subst (λ (v : ℕ). NextLexeme all_faults names v y) e h) in
    subst (λ (v : Lexeme). AtName v.to × Outside v) (sym same) (inr (inl refl), record { start = λ q. absurd (omega arith); end = λ q. absurd (omega arith); whole = refl; uncut = refl })
name_at s (inr (inl e)) y h =
    let same : y ≡ lexeme_of 3 (codes " " ∷ []) (codes "b") Ident = settled names 3 (lexeme_of 3 (codes " " ∷ []) (codes "b") Ident) (codes " " ∷ []) 98 [] (record { within = omega arith; splits = refl; trivia = refl }) refl
    (stand all_faults names 3 (codes " " ∷ []) division (codes "b") [] Ident (omega arith) refl refl refl) y (subst (λ (v : ℕ). NextLexeme all_faults names v y) e h) in
    subst (λ (v : Lexeme). AtName v.to × Outside v) (sym same) (inr (inr refl), record { start = λ q. absurd (omega arith); end = λ q. absurd (omega arith); whole = refl; uncut = refl })
name_at s (inr (inr e)) y h =
    let same : y ≡ lexeme_of 5 [] [] Eof = settled_last names 5 (lexeme_of 5 [] [] Eof) (record { within = omega arith; splits = refl; trivia = refl })
    (stand all_faults names 5 [] division [] [] Eof (omega arith) refl refl refl) y (subst (λ (v : ℕ). NextLexeme all_faults names v y) e h) in
    subst (λ (v : Lexeme). AtName v.to × Outside v) (sym same) (inr (inr refl), record { start = λ q. absurd (omega arith); end = λ q. absurd (omega arith); whole = refl; uncut = refl })

name_outside : (s : ℕ) → Reached names s → (y : Lexeme) → NextLexeme all_faults names s y → Outside y
name_outside s r y h = (name_at s (place_holds AtName (λ s p y h. (name_at s p y h).0) (inl refl) s r) y h).1

-- no fault stops the text's lexemes
abbrev Unstopped : List ℕ → Type 0
Unstopped text = (k : DiagnosticKind) (from to : ℕ) → Faulty k script text from to → IsTrue (not (goes_on k)) → ⊥

name_has : Unstopped names → (y : Lexeme) → IsLexemeOf script names y → Outside y
name_has n y (a_lexeme {s = s} r h) = name_outside s r y h
name_has n y (a_sign {s = s} {x = x} r h g) = absurd (false≢true (sym (name_outside s r x h).uncut ∙ g))
name_has n y (a_fault {k = k} {from = from} {to = to} f g) = absurd (n k from to f g)

name_no_edge : Unstopped names → EdgeOf script names 1 → ⊥
name_no_edge n (the_start {x = x} h e) = (name_has n x h).start e
name_no_edge n (the_end {x = x} h e) = (name_has n x h).end e
name_no_edge n (inside_start {x = x} h k e) = false≢true (sym (name_has n x h).whole ∙ k)
name_no_edge n (inside_end {x = x} h k e) = false≢true (sym (name_has n x h).whole ∙ k)

within_name : Unstopped names → StandsAt EscapedKeyword script names (span 1 2) None None → ⊥
within_name n h = name_no_edge n h.0.0

-- ---- "`a${": between the delimiters

abbrev head : List ℕ
head = codes "`a${"

head_stands : NextLexeme all_faults head 0 (lexeme_of 0 [] (codes "`a${") TemplateHead)
unfolding words punctuators chars keyword_of
head_stands = stand all_faults head 0 [] division (codes "`a${") [] TemplateHead (omega arith) refl refl refl

between_delimiters : EdgeOf script head 1 × EdgeOf script head 2
unfolding words keyword_of
between_delimiters = (inside_start (a_lexeme (inl refl) head_stands) refl refl, inside_end (a_lexeme (inl refl) head_stands) refl refl)

-- The head is no bracket.
head_opens : (s : ℕ) → (s ≡ 0) ⊎ (s ≡ 4) → (y : Lexeme) → NextLexeme all_faults head s y → ((y.to ≡ 0) ⊎ (y.to ≡ 4)) × (opens y ≡ false)
unfolding words punctuators chars keyword_of
head_opens s (inl e) y h =
    let same : y ≡ lexeme_of 0 [] (codes "`a${") TemplateHead = settled head 0 (lexeme_of 0 [] (codes "`a${") TemplateHead) [] 96 (codes "a${") (record { within = omega arith; splits = refl; trivia = refl }) refl
    (stand all_faults head 0 [] division (codes "`a${") [] TemplateHead (omega arith) refl refl refl) y (subst (λ (v : ℕ). NextLexeme all_faults head v y) e h) in
    subst (λ (v : Lexeme). ((v.to ≡ 0) ⊎ (v.to ≡ 4)) × (opens v ≡ false)) (sym same) (inr refl, refl)
head_opens s (inr e) y h =
    let same : y ≡ lexeme_of 4 [] [] Eof = settled_last head 4 (lexeme_of 4 [] [] Eof) (record { within = omega arith; splits = refl; trivia = refl })
    (stand all_faults head 4 [] division [] [] Eof (omega arith) refl refl refl) y (subst (λ (v : ℕ). NextLexeme all_faults head v y) e h) in
    subst (λ (v : Lexeme). ((v.to ≡ 0) ⊎ (v.to ≡ 4)) × (opens v ≡ false)) (sym same) (inr refl, refl)

no_bracket : (y : Lexeme) → IsLexemeOf script head y → opens y ≡ false
no_bracket y (a_lexeme {s = s} r h) = (head_opens s (place_holds (λ (s : ℕ). (s ≡ 0) ⊎ (s ≡ 4)) (λ s p y h. (head_opens s p y h).0) (inl refl) s r) y h).1
no_bracket y (a_sign r h g) = refl
no_bracket y (a_fault f g) = refl

behind_head : StandsAt ExpectClosing script head (span 4 4) (Some (span 0 4)) None → ⊥
behind_head h = let x = h.1.lexeme in false≢true (sym (no_bracket x.lexeme x.of_text) ∙ x.passes)

-- ---- `new.;`: behind the dot no word

abbrev new_sign : List ℕ
new_sign = codes "new.;"

word_is_new : (y : Lexeme) → NextLexeme all_faults new_sign 0 y → y.to ≡ 3
unfolding words punctuators chars keyword_of
word_is_new y h = ap (λ (v : Lexeme). v.to) (settled new_sign 0 (lexeme_of 0 [] (codes "new") 'new') [] 110 (codes "ew.;") (record { within = omega arith; splits = refl; trivia = refl }) refl
    (stand all_faults new_sign 0 [] division (codes "new") (codes ".;") 'new' (omega arith) refl refl refl) y h)

dot_is : (y : Lexeme) → NextLexeme all_faults new_sign 3 y → y.to ≡ 4
unfolding words punctuators chars keyword_of
dot_is y h = ap (λ (v : Lexeme). v.to) (settled new_sign 3 (lexeme_of 3 [] (codes ".") Dot) [] 46 (codes ";") (record { within = omega arith; splits = refl; trivia = refl }) refl
    (stand all_faults new_sign 3 [] division (codes ".") (codes ";") Dot (omega arith) refl refl refl) y h)

no_word : (y : Lexeme) → NextLexeme all_faults new_sign 4 y → another_word y ≡ false
unfolding words punctuators chars keyword_of
no_word y h = ap another_word (settled new_sign 4 (lexeme_of 4 [] (codes ";") Semicolon) [] 59 [] (record { within = omega arith; splits = refl; trivia = refl }) refl
    (stand all_faults new_sign 4 [] division (codes ";") [] Semicolon (omega arith) refl refl refl) y h)

no_new_dot : StandsAt NewTarget script new_sign (span 0 5) None None → ⊥
no_new_dot h =
    let d = h.0 in
    let l = d.part.lexed in
    let p : d.place ≡ 0 = (let f = l.0.from in let b = d.begins in omega arith) in
    let a = word_is_new d.word (subst (λ (v : ℕ). NextLexeme all_faults new_sign v d.word) p l.0) in
    let b = dot_is d.dot (subst (λ (v : ℕ). NextLexeme all_faults new_sign v d.dot) a l.1.0) in
    let c = no_word d.other (subst (λ (v : ℕ). NextLexeme all_faults new_sign v d.other) b l.1.1) in
    false≢true (sym c ∙ d.is_other)

-- ---- `a;a`: two equal names, and no clause of attributes

abbrev equal_names : List ℕ
equal_names = codes "a;a"

abbrev AtEqual : ℕ → Type 0
AtEqual s = (s ≡ 0) ⊎ ((s ≡ 1) ⊎ ((s ≡ 2) ⊎ (s ≡ 3)))

equal_at : (s : ℕ) → AtEqual s → (y : Lexeme) → NextLexeme all_faults equal_names s y → AtEqual y.to × (of_kinds (Str ∷ []) y ≡ false)
unfolding words punctuators chars keyword_of
equal_at s (inl e) y h =
    let same : y ≡ lexeme_of 0 [] (codes "a") Ident = settled equal_names 0 (lexeme_of 0 [] (codes "a") Ident) [] 97 (codes ";a") (record { within = omega arith; splits = refl; trivia = refl }) refl
    (stand all_faults equal_names 0 [] division (codes "a") (codes ";a") Ident (omega arith) refl refl refl) y (subst (λ (v : ℕ). NextLexeme all_faults equal_names v y) e h) in
    subst (λ (v : Lexeme). AtEqual v.to × (of_kinds (Str ∷ []) v ≡ false)) (sym same) (inr (inl refl), refl)
equal_at s (inr (inl e)) y h =
    let same : y ≡ lexeme_of 1 [] (codes ";") Semicolon = settled equal_names 1 (lexeme_of 1 [] (codes ";") Semicolon) [] 59 (codes "a") (record { within = omega arith; splits = refl; trivia = refl }) refl
    (stand all_faults equal_names 1 [] division (codes ";") (codes "a") Semicolon (omega arith) refl refl refl) y (subst (λ (v : ℕ). NextLexeme all_faults equal_names v y) e h) in
    subst (λ (v : Lexeme). AtEqual v.to × (of_kinds (Str ∷ []) v ≡ false)) (sym same) (inr (inr (inl refl)), refl)
equal_at s (inr (inr (inl e))) y h =
    let same : y ≡ lexeme_of 2 [] (codes "a") Ident = settled equal_names 2 (lexeme_of 2 [] (codes "a") Ident) [] 97 [] (record { within = omega arith; splits = refl; trivia = refl }) refl
    (stand all_faults equal_names 2 [] division (codes "a") [] Ident (omega arith) refl refl refl) y (subst (λ (v : ℕ). NextLexeme all_faults equal_names v y) e h) in
    subst (λ (v : Lexeme). AtEqual v.to × (of_kinds (Str ∷ []) v ≡ false)) (sym same) (inr (inr (inr refl)), refl)
equal_at s (inr (inr (inr e))) y h =
    let same : y ≡ lexeme_of 3 [] [] Eof = settled_last equal_names 3 (lexeme_of 3 [] [] Eof) (record { within = omega arith; splits = refl; trivia = refl })
    (stand all_faults equal_names 3 [] division [] [] Eof (omega arith) refl refl refl) y (subst (λ (v : ℕ). NextLexeme all_faults equal_names v y) e h) in
    subst (λ (v : Lexeme). AtEqual v.to × (of_kinds (Str ∷ []) v ≡ false)) (sym same) (inr (inr (inr refl)), refl)

no_clause : StandsAt Redeclaration script equal_names (span 2 3) (Some (span 0 1)) None → ⊥
no_clause h =
    let p = place_holds AtEqual (λ s p y l. (equal_at s p y l).0) (inl refl) h.place h.part.reached in
    false≢true (sym (equal_at h.place p h.specifier h.part.lexed.0).1 ∙ h.is_specifier)

-- `"m"with{a:"",'a'`: the second key
abbrev keys : List ℕ
keys = codes "\"m\"with{a:\"\",'a'"

second_key : StandsAt Redeclaration script keys (span 13 16) (Some (span 8 9)) None
unfolding words punctuators chars keyword_of
second_key = record {
  place = 0;
  specifier = lexeme_of 0 [] (codes "\"m\"") Str;
  word = lexeme_of 3 [] (codes "with") 'with';
  brace = lexeme_of 7 [] (codes "{") LCurly;
  entries = next (lexeme_of 8 [] (codes "a") Ident) (next (lexeme_of 9 [] (codes ":") Colon) (next (lexeme_of 10 [] (codes "\"\"") Str) (next (lexeme_of 12 [] (codes ",") Comma) (last (lexeme_of 13 [] (codes "'a'") Str)))));
  part = record {
    reached = inl refl;
    lexed = (
      stand all_faults keys 0 [] division (codes "\"m\"") (codes "with{a:\"\",'a'") Str (omega arith) refl refl refl,
      (
        stand all_faults keys 3 [] division (codes "with") (codes "{a:\"\",'a'") 'with' (omega arith) refl refl refl,
        (
          stand all_faults keys 7 [] division (codes "{") (codes "a:\"\",'a'") LCurly (omega arith) refl refl refl,
          (
            stand all_faults keys 8 [] division (codes "a") (codes ":\"\",'a'") Ident (omega arith) refl refl refl,
            (
              stand all_faults keys 9 [] division (codes ":") (codes "\"\",'a'") Colon (omega arith) refl refl refl,
              (
                stand all_faults keys 10 [] division (codes "\"\"") (codes ",'a'") Str (omega arith) refl refl refl,
                (stand all_faults keys 12 [] division (codes ",") (codes "'a'") Comma (omega arith) refl refl refl, stand all_faults keys 13 [] division (codes "'a'") [] Str (omega arith) refl refl refl),
              ),
            ),
          ),
        ),
      ),
    );
  };
  is_specifier = refl;
  is_clause = refl;
  is_brace = refl;
  earlier = lexeme_of 8 [] (codes "a") Ident;
  colon = lexeme_of 9 [] (codes ":") Colon;
  value = lexeme_of 10 [] (codes "\"\"") Str;
  comma = lexeme_of 12 [] (codes ",") Comma;
  between = last (lexeme_of 13 [] (codes "'a'") Str);
  before = none;
  is_entry = refl;
  later = last (lexeme_of 13 [] (codes "'a'") Str);
  behind = none;
  is = (refl, refl);
  is_key = refl;
  same = refl;
  is_first = refl;
  no_second = refl;
}
