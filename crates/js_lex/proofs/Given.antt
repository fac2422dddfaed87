-- A token that was given last, as what may be read again, decoded or named.
use Rattle.std.proofs.Common.{◌≡◌, ◌+◌, ◌++◌, ℕ, Bool, true, false, List, [], ◌∷◌, refl, sym, subst, ap, ◌∙◌, Some, ◌⊎◌, inl, inr}
use Rattle.std.specs.Prelude.{IsCharBoundary, chars, slice_range}
use Rattle.js_base.specs.declared.kind.Kind.{Kind}
use Rattle.js_base.specs.declared.kind.Kind.TheVariants.{Undetermined, Str, Eof, Slash, SlashEq}
use Rattle.js_base.specs.declared.token.Token.{Token}
use Rattle.js_base.specs.declared.diagnostic.Diagnostic.{Diagnostic}
use Rattle.js_base.specs.Kinds.{same_kind}
use Rattle.js_base.specs.Spans.{LiesIn}
use Rattle.part_words.specs.js_grammar.Settings.{Goal}
use Rattle.part_words.specs.js_grammar.Characters.{begins}
use Rattle.part_words.specs.js_grammar.Strings.{string_kind}
use Rattle.part_words.specs.js_grammar.Lexemes.{division, kind_in, plain_kind, Opening, opening, a_string, kind_of}
use Rattle.js_base.specs.part_text.Characters.{is_decimal}
use Rattle.part_words.proofs.KindsOfLexemes.{plain_end, opened_is}
use Rattle.js_lex.proofs.Again.{passed, given_start, cut_kind, cut_same}
use Rattle.part_words.specs.js_grammar.Grammar.{Lexeme}
use Rattle.part_words.specs.js_grammar.Characters.{width}
use Rattle.part_words.specs.js_grammar.LexicalFaults.{behind}
use Rattle.part_words.specs.Places.{Word}
use Rattle.part_scan.proofs.StringPlaces.{front_word}
use Rattle.part_words.proofs.Flags.{spelled}
use Rattle.js_lex.specs.States.{State}
use Rattle.js_lex.specs.Reading.{cut, is_right_angle, LexemeBehind, GivesLexeme, GivesNone, Outcome, GivesNext, WasGiven}

-- where the token is determined, a lexeme stands
pub lexeme_given : (source : Goal) (text : List ℕ) (s : ℕ) (t : Token) (faults : List Diagnostic) → same_kind Undetermined t.kind ≡ false → Outcome division cut source text s t [] faults → GivesLexeme division cut text s t
lexeme_given source text s t faults k o = (subst (λ (b : Bool). elim b as (λ _. Type 0) [ true ↦ (d : Diagnostic) × (faults ≡ d ∷ []) × GivesNone division source text s t d | false ↦ (◌≡◌ {A = List Diagnostic} faults []) × GivesLexeme division cut text s t ]) k o).1

-- a determined token of the plain goal was given last by the lexer that gave it
pub was_given : (old new : State) (t : Token) → same_kind Undetermined t.kind ≡ false → GivesNext division old new t → WasGiven new t
was_given old new t k g =
    let l = lexeme_given old.goal old.text old.place t g.faults k g.outcome in
    record {
      place = g.place;
      lies = subst (λ (v : List ℕ). LiesIn t.span v) (sym g.same.text) g.lies;
      before = old.place;
      between = subst (λ (v : List ℕ). IsCharBoundary v old.place) (sym g.same.text) g.between;
      lexeme = l.lexeme;
      stands = subst (λ (v : List ℕ). LexemeBehind division v old.place l.lexeme) (sym g.same.text) l.stands;
      tells = l.tells;
    }

pub slash_given : (old new : State) (t : Token) → (t.kind ≡ Slash) ⊎ (t.kind ≡ SlashEq) → GivesNext division old new t → WasGiven new t
slash_given old new t (inl e) g = was_given old new t (ap (same_kind Undetermined) e) g
slash_given old new t (inr e) g = was_given old new t (ap (same_kind Undetermined) e) g

-- a string token that was given is a string literal
pub string_of_kind : (w rest : List ℕ) (k : Kind) → kind_in division w rest ≡ Some k → k ≡ Str → string_kind w ≡ Some Str
string_of_kind [] rest k h e = absurd (let z = (plain_end rest k h).0 in let y : same_kind Eof Str ≡ true = subst (λ (j : Kind). same_kind Eof j ≡ true) (sym z ∙ e) refl in cc)
string_of_kind (c ∷ cs) rest k h e =
    let f : plain_kind (c ∷ cs) rest ≡ Some Str = h ∙ ap Some e in
    let o : opening c (begins is_decimal cs) ≡ a_string = some-opening _ _ (sym (opened_is c cs rest Str f)) in
    sym (ap (λ (p : Opening). kind_of p (c ∷ cs) rest) o) ∙ f
  where
    some-opening : (a b : Opening) → Some a ≡ Some b → a ≡ b
    some-opening a b e = cc

pub string_given : (old new : State) (t : Token) → t.kind ≡ Str → GivesNext division old new t → string_kind (chars (slice_range new.text t.span.start t.span.end)) ≡ Some Str
string_given old new t k g =
    let l = lexeme_given old.goal old.text old.place t g.faults (ap (same_kind Undetermined) k) g.outcome in
    let kind : l.lexeme.kind ≡ Str = cut_kind l.lexeme Str (sym l.tells.kind ∙ k) (λ e. cc) in
    let same : cut l.lexeme ≡ l.lexeme = cut_same l.lexeme (ap is_right_angle kind) in
    let p = passed g.utf8 g.between l.stands in
    let i : t.span.start ≡ l.lexeme.from = given_start l.lexeme l.tells in
    let j : t.span.end ≡ l.lexeme.to = l.tells.end ∙ ap (λ (y : Lexeme). y.to) same in
    let here : behind old.text t.span.start ≡ p.word ++ p.rest = ap (behind old.text) i ∙ p.here in
    let w : Word old.text t.span.start (t.span.start + width p.word) p.word = front_word old.text t.span.start p.word p.rest g.utf8 g.lies.starts_whole here in
    let to : t.span.end ≡ t.span.start + width p.word = j ∙ p.to ∙ ap (λ (n : ℕ). n + width p.word) (sym i) in
    let v : Word old.text t.span.start t.span.end p.word = subst (λ (n : ℕ). Word old.text t.span.start n p.word) (sym to) w in
    let text : chars (slice_range new.text t.span.start t.span.end) ≡ p.word = ap (λ (v : List ℕ). chars (slice_range v t.span.start t.span.end)) g.same.text ∙ spelled old.text t.span.start t.span.end p.word g.utf8 g.lies.starts_whole g.lies.ordered v in
    ap string_kind text ∙ string_of_kind p.word p.rest l.lexeme.kind p.lexeme.kind kind
