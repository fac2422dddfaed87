-- The faults that the lexer keeps with a token are those of what stands at its place.
use Rattle.std.proofs.Common.{ℕ, ◌+◌, ◌≡◌, Bool, true, false, not, ◌||◌, List, [], ◌∷◌, ◌++◌, None, refl, sym, subst}
use Rattle.std.proofs.lemmas.Bool.{false≢true, and_parts, and_from}
use Rattle.js_base.specs.declared.diagnostic.Diagnostic.{Diagnostic}
use Rattle.js_base.specs.declared.kind.Kind.{Kind}
use Rattle.js_base.specs.declared.kind.Kind.TheVariants.{RegExp, Undetermined}
use Rattle.js_base.specs.declared.token.Token.{Token}
use Rattle.js_base.specs.Kinds.{one_of_kinds, same_kind}
use Rattle.js_grammar.specs.Characters.{width}
use Rattle.js_grammar.specs.Grammar.{Lexeme}
use Rattle.js_grammar.specs.Trivia.{is_html_comment, lack_html_comments}
use Rattle.js_grammar.specs.RegularExpressions.{flags}
use Rattle.js_grammar.specs.Lexemes.{division}
use Rattle.js_grammar.specs.Lexed.{NextLexeme, Passing, in_script, in_module, all_faults, passing_of, comments_pass, flags_right}
use Rattle.js_grammar.specs.Settings.{Goal}
use Rattle.js_grammar.proofs.Alike.{stands-same}
use Rattle.js_grammar.proofs.CoreLexed.{flags-none}
use Rattle.js_cursor.specs.js_lex.Comments.{each_at, html_fault_at, span_at}
use Rattle.js_base.specs.declared.diagnostic.DiagnosticKind.TheVariants.{HtmlCommentInModule}
use Rattle.js_cursor.specs.js_lex.Reading.{cut, in_a_module, GivesNext, GivesNone, GivesLexeme}
use Rattle.js_cursor.specs.js_lex.States.{State}
use Rattle.laws_shared.specs.Lexemes.{Lex, Faultless, KeptFor, other_goals, template_tails}
use Rattle.laws_shared.proofs.Here.{plain_there}

-- one of the two lists holds something
both_none : {K : Type 0} (a b : List K) → a ++ b ≡ [] → (a ≡ []) × (b ≡ [])
both_none [] b e = (refl, e)
both_none (x ∷ a) b e = absurd (let k = e in cc)

pub none_of_two : {K : Type 0} (a b : List K) → a ≡ [] → b ≡ [] → a ++ b ≡ []
none_of_two a b e f = (λ i. e i ++ f i)

abbrev html_fault_of : ℕ → List ℕ → Diagnostic
html_fault_of s p = record { kind = HtmlCommentInModule; span = span_at s p; first = None; second = None }

-- no fault of an HTML-like comment was kept exactly where no piece is one
no_one : (d : Diagnostic) (b : Bool) → elim b as (λ _. List Diagnostic) [ true ↦ d ∷ [] | false ↦ [] ] ≡ [] → not b ≡ true
no_one d true e = absurd (let k = e in cc)
no_one d false e = refl

none_of : (d : Diagnostic) (b : Bool) → not b ≡ true → elim b as (λ _. List Diagnostic) [ true ↦ d ∷ [] | false ↦ [] ] ≡ []
none_of d true e = absurd (false≢true e)
none_of d false e = refl

lacking : (ps : List (List ℕ)) (s : ℕ) → each_at (html_fault_at true) s ps ≡ [] → lack_html_comments ps ≡ true
lacking [] s e = refl
lacking (p ∷ ps) s e = let h = both_none (html_fault_at true s p) (each_at (html_fault_at true) (s + width p) ps) e in and_from _ _ (no_one (html_fault_of s p) (is_html_comment p) h.0) (lacking ps (s + width p) h.1)

none_lacking : (ps : List (List ℕ)) (s : ℕ) → lack_html_comments ps ≡ true → each_at (html_fault_at true) s ps ≡ []
none_lacking [] s h = refl
none_lacking (p ∷ ps) s h = let k = and_parts (not (is_html_comment p)) (lack_html_comments ps) h in none_of_two (html_fault_at true s p) (each_at (html_fault_at true) (s + width p) ps) (none_of (html_fault_of s p) (is_html_comment p) k.0) (none_lacking ps (s + width p) k.1)

never_kept : (ps : List (List ℕ)) (s : ℕ) → each_at (html_fault_at false) s ps ≡ []
never_kept [] s = refl
never_kept (p ∷ ps) s = never_kept ps (s + width p)

-- which comments pass is told by what is kept
comments_right : (m : Passing) (b : Bool) (ps : List (List ℕ)) (s : ℕ) → b ≡ elim m as (λ _. Bool) [ in_module ↦ true | _ ↦ false ] → each_at (html_fault_at b) s ps ≡ [] → comments_pass m ps ≡ true
comments_right in_module b ps s q e = lacking ps s (subst (λ (v : Bool). each_at (html_fault_at v) s ps ≡ []) q e)
comments_right in_script b ps s q e = refl
comments_right all_faults b ps s q e = refl

none_kept : (m : Passing) (b : Bool) (ps : List (List ℕ)) (s : ℕ) → b ≡ elim m as (λ _. Bool) [ in_module ↦ true | _ ↦ false ] → comments_pass m ps ≡ true → each_at (html_fault_at b) s ps ≡ []
none_kept in_module b ps s q h = subst (λ (v : Bool). each_at (html_fault_at v) s ps ≡ []) (sym q) (none_lacking ps s h)
none_kept in_script b ps s q h = subst (λ (v : Bool). each_at (html_fault_at v) s ps ≡ []) (sym q) (never_kept ps s)
none_kept all_faults b ps s q h = subst (λ (v : Bool). each_at (html_fault_at v) s ps ≡ []) (sym q) (never_kept ps s)

-- nor is one of the plain lexical goal
no_pattern : (k : Kind) → one_of_kinds other_goals k ≡ false → same_kind RegExp k ≡ false
no_pattern k n = go (same_kind RegExp k) n
  where
    go : (b : Bool) → (b || one_of_kinds template_tails k) ≡ false → b ≡ false
    go true h = h
    go false h = refl

-- whichever faults pass, where they aren't there
pub passing_so : {m n : Passing} {text : List ℕ} {s : ℕ} {y : Lexeme} (h : NextLexeme m text s y) → comments_pass n h.trivia ≡ true → flags_right n y.kind h.word ≡ true → NextLexeme n text s y
passing_so h c f = record { trivia = h.trivia; goal = h.goal; word = h.word; rest = h.rest; stands = h.stands; lexeme = h.lexeme; comments = c; flags = f; from = h.from; to = h.to; newline = h.newline; escaped = h.escaped; units = h.units }

-- a lexeme without a fault is a lexeme
pub faults_aside : (source : Goal) {text : List ℕ} {s : ℕ} {y : Lexeme} → Faultless source text s y → Lex text s y
faults_aside source h = (passing_so h.0 refl refl, h.1)

module _ {old new : State} {t : Token} (g : GivesNext division old new t) where
  pub kept_for : KeptFor old.goal old.text old.place (each_at (html_fault_at (in_a_module old.goal)) old.place g.pieces ++ g.faults)
  kept_for = record { none = right; some = wrong }
    where
      right : each_at (html_fault_at (in_a_module old.goal)) old.place g.pieces ++ g.faults ≡ [] → (y : Lexeme) → Lex old.text old.place y → one_of_kinds other_goals y.kind ≡ false → Faultless old.goal old.text old.place y
      right e y l r =
          let h = both_none _ g.faults e in
          let same = stands-same g.stands l.0.stands in
          let c : comments_pass (passing_of old.goal) g.pieces ≡ true = comments_right (passing_of old.goal) (in_a_module old.goal) g.pieces old.place refl h.0 in
          (passing_so l.0 (subst (λ (ps : List (List ℕ)). comments_pass (passing_of old.goal) ps ≡ true) same.pieces c) (flags-none (passing_of old.goal) y.kind l.0.word (no_pattern y.kind r)), l.1)

      wrong : (each_at (html_fault_at (in_a_module old.goal)) old.place g.pieces ++ g.faults ≡ [] → ⊥) → (y : Lexeme) → Faultless old.goal old.text old.place y → ⊥
      wrong n y l = by (same_kind Undetermined t.kind) g.outcome
        where
          quiet : each_at (html_fault_at (in_a_module old.goal)) old.place g.pieces ≡ []
          quiet = let same = stands-same g.stands l.0.stands in none_kept (passing_of old.goal) (in_a_module old.goal) g.pieces old.place refl (subst (λ (ps : List (List ℕ)). comments_pass (passing_of old.goal) ps ≡ true) (sym same.pieces) l.0.comments)

          by : (b : Bool) → elim b as (λ _. Type 0) [ true ↦ (d : Diagnostic) × (g.faults ≡ d ∷ []) × GivesNone division old.goal old.text old.place t d | false ↦ (g.faults ≡ []) × GivesLexeme division cut old.text old.place t ] → ⊥
          by true x = let z = plain_there (faults_aside old.goal l) in x.2.none z.lexeme z.stands
          by false x = n (none_of_two _ g.faults quiet x.0)
