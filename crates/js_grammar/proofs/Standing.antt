-- A lexeme that stands behind a place, from its trivia and its characters; and that none stands there.
use Rattle.std.proofs.Common.{◌≡◌, ◌≤◌, ℕ, ◌+◌, ◌==◌, Bool, true, false, List, [], ◌∷◌, ◌++◌, refl, sym, subst, not, ◌&&◌, ◌||◌, Some, length, drop}
use Rattle.std.specs.Prelude.{chars}
use Rattle.js_base.specs.declared.kind.Kind.{Kind}
use Rattle.js_grammar.specs.Grammar.{Lexeme}
use Rattle.js_grammar.specs.Characters.{has_line_terminator, width}
use Rattle.js_grammar.specs.Longest.{longest, none_longer, none_begins, joined}
use Rattle.js_grammar.specs.Trivia.{are_trivia}
use Rattle.js_grammar.specs.Numbers.{is_number, stops_number}
use Rattle.js_grammar.specs.Lexemes.{LexicalGoal, division, regular_expression, template_tail, hashbang, lexemes_in, kind_in, may_begin, is_escaped, units_of}
use Rattle.js_grammar.specs.Lexed.{Passing, NextLexeme, Stands, comments_pass, flags_right}
use Rattle.js_grammar.proofs.LongestLemmas.{both-left, both-right, none_longer-at, longest-same}
use Rattle.js_grammar.proofs.Alike.{stands-same}

abbrev pub lexeme_of : ℕ → List (List ℕ) → List ℕ → Kind → Lexeme
lexeme_of s ps word k = record { kind = k; from = s + width (joined ps); to = s + width (joined ps) + width word; newline = has_line_terminator (joined ps); escaped = is_escaped k word; units = units_of k word }

-- what is left to test of characters that stand behind a place
abbrev pub passes : Passing → ℕ → List (List ℕ) → LexicalGoal → List ℕ → List ℕ → Kind → Bool
passes p s ps g word rest k = are_trivia (s == 0) ps (word ++ rest) && (longest (lexemes_in g) word rest && (may_begin g (s + width (joined ps)) && ((not (is_number k) || stops_number rest) && (comments_pass p ps && flags_right p k word))))

unfoldable pub stand : (p : Passing) (text : List ℕ) (s : ℕ) (ps : List (List ℕ)) (g : LexicalGoal) (word rest : List ℕ) (k : Kind) → s ≤ length text → chars (drop s text) ≡ joined ps ++ (word ++ rest) → kind_in g word rest ≡ Some k → passes p s ps g word rest k ≡ true → NextLexeme p text s (lexeme_of s ps word k)
stand p text s ps g word rest k l e h t =
    let a1 = both-right (are_trivia (s == 0) ps (word ++ rest)) (longest (lexemes_in g) word rest && (may_begin g (s + width (joined ps)) && ((not (is_number k) || stops_number rest) && (comments_pass p ps && flags_right p k word)))) t in
    let a2 = both-right (longest (lexemes_in g) word rest) (may_begin g (s + width (joined ps)) && ((not (is_number k) || stops_number rest) && (comments_pass p ps && flags_right p k word))) a1 in
    let a3 = both-right (may_begin g (s + width (joined ps))) ((not (is_number k) || stops_number rest) && (comments_pass p ps && flags_right p k word)) a2 in
    let a4 = both-right (not (is_number k) || stops_number rest) (comments_pass p ps && flags_right p k word) a3 in
    record {
      trivia = ps;
      goal = g;
      word = word;
      rest = rest;
      stands = record { within = l; splits = e; trivia = both-left (are_trivia (s == 0) ps (word ++ rest)) (longest (lexemes_in g) word rest && (may_begin g (s + width (joined ps)) && ((not (is_number k) || stops_number rest) && (comments_pass p ps && flags_right p k word)))) t };
      lexeme = record { longest = both-left (longest (lexemes_in g) word rest) (may_begin g (s + width (joined ps)) && ((not (is_number k) || stops_number rest) && (comments_pass p ps && flags_right p k word))) a1; kind = h; begins = both-left (may_begin g (s + width (joined ps))) ((not (is_number k) || stops_number rest) && (comments_pass p ps && flags_right p k word)) a2; apart = both-left (not (is_number k) || stops_number rest) (comments_pass p ps && flags_right p k word) a3 };
      comments = both-left (comments_pass p ps) (flags_right p k word) a4;
      flags = both-right (comments_pass p ps) (flags_right p k word) a4;
      from = refl;
      to = refl;
      newline = refl;
      escaped = refl;
      units = refl;
    }

-- no front of the characters is a lexeme of the three goals beside division
abbrev pub no_other : List ℕ → Bool
no_other cs = none_begins (lexemes_in regular_expression) cs && (none_begins (lexemes_in template_tail) cs && none_begins (lexemes_in hashbang) cs)

empty_is_none : (g : LexicalGoal) (c : ℕ) (rest : List ℕ) → lexemes_in g [] (c ∷ rest) ≡ false
empty_is_none division c rest = refl
empty_is_none regular_expression c rest = refl
empty_is_none template_tail c rest = refl
empty_is_none hashbang c rest = refl

empty_of_three : (g : LexicalGoal) → lexemes_in g [] [] ≡ true → g ≡ division
empty_of_three division h = refl
empty_of_three regular_expression h = cc
empty_of_three template_tail h = cc
empty_of_three hashbang h = cc

-- where no front but the empty one is of the class, none stands
pub none_stands : (g : LexicalGoal) (word rest : List ℕ) (c : ℕ) (cs : List ℕ) → none_begins (lexemes_in g) (c ∷ cs) ≡ true → word ++ rest ≡ c ∷ cs → lexemes_in g word rest ≡ true → ⊥
none_stands g [] rest c cs n e h = let k : lexemes_in g [] (c ∷ cs) ≡ true = subst (λ (u : List ℕ). lexemes_in g [] u ≡ true) e h in let m = empty_is_none g c cs in cc
none_stands g (d ∷ word) rest c cs n e h =
    let m : none_longer (lexemes_in g) [] (d ∷ word ++ rest) ≡ true = subst (λ (u : List ℕ). none_longer (lexemes_in g) [] u ≡ true) (sym e) n in
    let k = none_longer-at (lexemes_in g) [] d word rest m in
    cc

-- in no lexical goal a lexeme begins
pub nothing_stands : (p : Passing) (text : List ℕ) (s : ℕ) (ps : List (List ℕ)) (c : ℕ) (cs : List ℕ) → s ≤ length text → chars (drop s text) ≡ joined ps ++ (c ∷ cs) → are_trivia (s == 0) ps (c ∷ cs) ≡ true
    → (none_begins (lexemes_in division) (c ∷ cs) && no_other (c ∷ cs)) ≡ true → (y : Lexeme) → NextLexeme p text s y → ⊥
nothing_stands p text s ps c cs l e t n y h =
    let same = stands-same h.stands (let st : Stands text s ps [] (c ∷ cs) = record { within = l; splits = e; trivia = t } in st) in
    let o = both-right (none_begins (lexemes_in division) (c ∷ cs)) (no_other (c ∷ cs)) n in
    let o' = both-right (none_begins (lexemes_in regular_expression) (c ∷ cs)) (none_begins (lexemes_in template_tail) (c ∷ cs) && none_begins (lexemes_in hashbang) (c ∷ cs)) o in
    let all : (g : LexicalGoal) → none_begins (lexemes_in g) (c ∷ cs) ≡ true = elim [
      | division ↦ both-left (none_begins (lexemes_in division) (c ∷ cs)) (no_other (c ∷ cs)) n
      | regular_expression ↦ both-left (none_begins (lexemes_in regular_expression) (c ∷ cs)) (none_begins (lexemes_in template_tail) (c ∷ cs) && none_begins (lexemes_in hashbang) (c ∷ cs)) o
      | template_tail ↦ both-left (none_begins (lexemes_in template_tail) (c ∷ cs)) (none_begins (lexemes_in hashbang) (c ∷ cs)) o'
      | hashbang ↦ both-right (none_begins (lexemes_in template_tail) (c ∷ cs)) (none_begins (lexemes_in hashbang) (c ∷ cs)) o'
    ] in
    none_stands h.goal h.word h.rest c cs (all h.goal) same.back (both-left (lexemes_in h.goal h.word h.rest) (none_longer (lexemes_in h.goal) h.word h.rest) h.lexeme.longest)

abbrev pub other_goals : LexicalGoal → Bool
other_goals division = false
other_goals _ = true

-- the lexeme of the division goal is a number that goes on, and in the other goals none begins
pub number_goes_on : (p : Passing) (text : List ℕ) (s : ℕ) (ps : List (List ℕ)) (c : ℕ) (cs rest : List ℕ) (k : Kind) → s ≤ length text → chars (drop s text) ≡ joined ps ++ (c ∷ cs ++ rest) → are_trivia (s == 0) ps (c ∷ cs ++ rest) ≡ true
    → kind_in division (c ∷ cs) rest ≡ Some k → longest (lexemes_in division) (c ∷ cs) rest ≡ true → (not (is_number k) || stops_number rest) ≡ false → no_other (c ∷ cs ++ rest) ≡ true → (y : Lexeme) → NextLexeme p text s y → ⊥
number_goes_on p text s ps c cs rest k l e t kd lg ng n y h =
    let same = stands-same h.stands (let st : Stands text s ps (c ∷ cs) rest = record { within = l; splits = e; trivia = t } in st) in
    let o' = both-right (none_begins (lexemes_in regular_expression) (c ∷ cs ++ rest)) (none_begins (lexemes_in template_tail) (c ∷ cs ++ rest) && none_begins (lexemes_in hashbang) (c ∷ cs ++ rest)) n in
    go h.goal refl same.back o'
  where
    go : (g : LexicalGoal) → h.goal ≡ g → h.word ++ h.rest ≡ c ∷ cs ++ rest → (none_begins (lexemes_in template_tail) (c ∷ cs ++ rest) && none_begins (lexemes_in hashbang) (c ∷ cs ++ rest)) ≡ true → ⊥
    go division eg b o =
        let lh : longest (lexemes_in division) h.word h.rest ≡ true = subst (λ (a : LexicalGoal). longest (lexemes_in a) h.word h.rest ≡ true) eg h.lexeme.longest in
        let w = longest-same (lexemes_in division) h.word h.rest (c ∷ cs) rest b lh lg in
        let kh : kind_in division h.word h.rest ≡ Some y.kind = subst (λ (a : LexicalGoal). kind_in a h.word h.rest ≡ Some y.kind) eg h.lexeme.kind in
        let ks : Some y.kind ≡ Some k = (let f = w.front in let r = w.back in cc) in
        let kk : y.kind ≡ k = cc in
        let ap' = h.lexeme.apart in
        let r = w.back in
        let z : (not (is_number k) || stops_number rest) ≡ true = subst (λ (u : List ℕ). (not (is_number k) || stops_number u) ≡ true) r (subst (λ (a : Kind). (not (is_number a) || stops_number h.rest) ≡ true) kk ap') in
        cc
    go regular_expression eg b o = none_stands regular_expression h.word h.rest c (cs ++ rest) (both-left (none_begins (lexemes_in regular_expression) (c ∷ cs ++ rest)) (none_begins (lexemes_in template_tail) (c ∷ cs ++ rest) && none_begins (lexemes_in hashbang) (c ∷ cs ++ rest)) n) b
        (subst (λ (a : LexicalGoal). lexemes_in a h.word h.rest ≡ true) eg (both-left (lexemes_in h.goal h.word h.rest) (none_longer (lexemes_in h.goal) h.word h.rest) h.lexeme.longest))
    go template_tail eg b o = none_stands template_tail h.word h.rest c (cs ++ rest) (both-left (none_begins (lexemes_in template_tail) (c ∷ cs ++ rest)) (none_begins (lexemes_in hashbang) (c ∷ cs ++ rest)) o) b
        (subst (λ (a : LexicalGoal). lexemes_in a h.word h.rest ≡ true) eg (both-left (lexemes_in h.goal h.word h.rest) (none_longer (lexemes_in h.goal) h.word h.rest) h.lexeme.longest))
    go hashbang eg b o = none_stands hashbang h.word h.rest c (cs ++ rest) (both-right (none_begins (lexemes_in template_tail) (c ∷ cs ++ rest)) (none_begins (lexemes_in hashbang) (c ∷ cs ++ rest)) o) b
        (subst (λ (a : LexicalGoal). lexemes_in a h.word h.rest ≡ true) eg (both-left (lexemes_in h.goal h.word h.rest) (none_longer (lexemes_in h.goal) h.word h.rest) h.lexeme.longest))
