-- Lexemes of the plain goal, from those of the class that a first character opens.
use Rattle.std.proofs.Common.{◌≡◌, ℕ, Bool, true, List, [], ◌∷◌, ◌++◌, refl, sym, ap, subst, ◌∙◌, not, ◌||◌, Some}
use Rattle.std.specs.Prelude.{is_some}
use Rattle.js_base.specs.declared.kind.Kind.{Kind}
use Rattle.js_base.specs.part_text.Characters.{is_decimal}
use Rattle.js_grammar.specs.Characters.{begins}
use Rattle.js_grammar.specs.Longest.{Class, longest, none_longer}
use Rattle.js_grammar.specs.Numbers.{is_number, stops_number}
use Rattle.js_grammar.specs.Lexemes.{Opening, opening, kind_of, plain_kind, lexemes_in, division}
use Rattle.js_grammar.specs.Lexed.{IsLexeme}
use Rattle.js_grammar.specs.LexicalFaults.{behind}
use Rattle.part_words.specs.Scans.{NoLexeme}

-- what characters are as a lexeme of one opening
abbrev pub opened_by : Opening → Class
opened_by o w rest = is_some (kind_of o w rest)

-- a character opens one class of lexemes, whatever stands behind it
abbrev pub Opens : Opening → ℕ → Type 0
Opens o c = (digit : Bool) → opening c digit ≡ o

pub plain_is : (o : Opening) (c : ℕ) (cs rest : List ℕ) → Opens o c → plain_kind (c ∷ cs) rest ≡ kind_of o (c ∷ cs) rest
plain_is o c cs rest h = ap (λ (p : Opening). kind_of p (c ∷ cs) rest) (h (begins is_decimal cs))

longer_same : (o : Opening) (c : ℕ) (cs rest : List ℕ) → Opens o c → none_longer (lexemes_in division) (c ∷ cs) rest ≡ none_longer (opened_by o) (c ∷ cs) rest
longer_same o c cs [] h = refl
longer_same o c cs (d ∷ rest) h = let e = ap is_some (plain_is o c (cs ++ d ∷ []) rest h) in let f = longer_same o c (cs ++ d ∷ []) rest h in rw (e, f) refl

-- the longest lexeme of the plain goal is the longest one of the class that its first character opens
pub longest_same : (o : Opening) (c : ℕ) (cs rest : List ℕ) → Opens o c → longest (lexemes_in division) (c ∷ cs) rest ≡ longest (opened_by o) (c ∷ cs) rest
longest_same o c cs rest h = let e = ap is_some (plain_is o c cs rest h) in let f = longer_same o c cs rest h in rw (e, f) refl

pub is_lexeme : (o : Opening) (i c : ℕ) (cs rest : List ℕ) (k : Kind) → Opens o c → longest (opened_by o) (c ∷ cs) rest ≡ true → kind_of o (c ∷ cs) rest ≡ Some k → (not (is_number k) || stops_number rest) ≡ true → IsLexeme division i (c ∷ cs) rest k
is_lexeme o i c cs rest k h l e a = record { longest = longest_same o c cs rest h ∙ l; kind = plain_is o c cs rest h ∙ e; begins = refl; apart = a }

-- No lexeme of the plain goal stands where none of that class does.
pub no_lexeme : (o : Opening) (text : List ℕ) (i c : ℕ) (rest : List ℕ) → Opens o c → behind text i ≡ c ∷ rest
    → ((w more : List ℕ) (k : Kind) → rest ≡ w ++ more → longest (opened_by o) (c ∷ w) more ≡ true → kind_of o (c ∷ w) more ≡ Some k → (not (is_number k) || stops_number more) ≡ true → ⊥)
    → NoLexeme division text i
no_lexeme o text i c rest h e none w more k f l = by w more f l
  where
    by : (w more : List ℕ) → behind text i ≡ w ++ more → IsLexeme division i w more k → ⊥
    by [] [] f l = let g : c ∷ rest ≡ [] = sym e ∙ f in cc
    by [] (d ∷ more) f l = let g = l.kind in cc
    by (d ∷ w) more f l =
        let g : c ∷ rest ≡ d ∷ w ++ more = sym e ∙ f in
        let same : d ≡ c = cc in
        let left : rest ≡ w ++ more = cc in
        let m : IsLexeme division i (c ∷ w) more k = subst (λ (x : ℕ). IsLexeme division i (x ∷ w) more k) same l in
        none w more k left (sym (longest_same o c w more h) ∙ m.longest) (sym (plain_is o c w more h) ∙ m.kind) m.apart
