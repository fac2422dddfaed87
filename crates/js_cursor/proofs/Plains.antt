-- The next lexeme of the plain goal, told whole.
use Rattle.std.proofs.Common.{ℕ, ◌+◌, ◌≡◌, ◌⊎◌, inl, inr, Bool, true, false, List, [], ◌∷◌, ◌++◌, length, refl, sym, ap, subst, arith, ◌∙◌, Some, append-nil}
use Rattle.std.specs.Prelude.{IsUtf8, IsCharBoundary, Result, Ok, Err, IfOk}
use Rattle.std.proofs.lemmas.Bool.{false≢true}
use Rattle.js_base.specs.declared.diagnostic.Diagnostic.{Diagnostic}
use Rattle.js_base.specs.declared.kind.Kind.TheVariants.{Undetermined, RAngle, Eof}
use Rattle.js_base.specs.declared.token.Token.{Token}
use Rattle.js_base.specs.Kinds.{same_kind}
use Rattle.js_base.specs.part_memory.Lists.{replaced}
use Rattle.js_base.specs.Spans.{LiesIn}
use Rattle.js_base.proofs.KindLemmas.{kind_of_same}
use Rattle.js_tree.specs.js_grammar.Characters.{width}
use Rattle.js_tree.specs.js_grammar.Grammar.{Lexeme}
use Rattle.js_tree.specs.js_grammar.Lexemes.{division, kind_in}
use Rattle.js_tree.specs.js_grammar.LexicalFaults.{behind}
use Rattle.js_tree.specs.js_grammar.Marks.{Plain, NoPlain}
use Rattle.js_lex.specs.Reading.{cut, is_right_angle, Tells, LexemeBehind, GivesLexeme, GivesNone, GivesNext, GivesAgain, is_kept, kept_token, relexed}
use Rattle.js_lex.specs.States.{State}
use Rattle.js_lex.proofs.Again.{passed, cut_same}
use Rattle.js_lex.proofs.part_words.Fronts.{ends_there}
use Rattle.js_lex.proofs.Given.{lexeme_given}
use Rattle.js_lex.proofs.part_words.KindsOfLexemes.{plain_end, plain_no_end}
use Rattle.js_cursor.specs.Markers.{GivesPlain}
use Rattle.js_cursor.proofs.Moving.{whole_again, cut_sign}

-- the end of the text is the lexeme that ends there
pub at_end : {text : List ℕ} {s : ℕ} {x : Lexeme} → IsUtf8 text → IsCharBoundary text s → LexemeBehind division text s x → x.kind ≡ Eof → x.to ≡ length text
at_end {text} {s} {x} u b h e =
    let p = passed u b h in
    go p.word p.rest p.lexeme.kind p.here p.to p.stands.boundary
  where
    go : (w rest : List ℕ) → kind_in division w rest ≡ Some x.kind → behind text x.from ≡ w ++ rest → x.to ≡ x.from + width w → IsCharBoundary text x.from → x.to ≡ length text
    go [] rest k here to between = let f = ends_there text x.from u between (here ∙ (plain_end rest x.kind k).1) in omega (arith, to, f)
    go (c ∷ cs) rest k here to between = absurd (false≢true (sym (plain_no_end c cs rest x.kind k) ∙ ap (same_kind Eof) e))

replaced-last : (ts : List Token) (a t : Token) → replaced (ts ++ a ∷ []) t ≡ ts ++ t ∷ []
replaced-last [] a t = refl
replaced-last (x ∷ []) a t = refl
replaced-last (x ∷ y ∷ ts) a t = ap (λ (v : List Token). x ∷ v) (replaced-last (y ∷ ts) a t)

-- what was kept before is there still when the sign that was kept last is read again
again-tokens : (keeps : Bool) (a t : Token) (old mid : List Token) → a.kind ≡ RAngle → mid ≡ old ++ kept_token keeps a → (ts : List Token) × (relexed keeps mid t ≡ old ++ ts)
again-tokens false a t old mid k e = ([], e)
again-tokens true a t old mid k e = go (is_kept t.kind)
  where
    kept : mid ≡ old ++ a ∷ []
    kept = e ∙ ap (λ (b : Bool). old ++ elim b as (λ _. List Token) [ true ↦ a ∷ [] | false ↦ [] ]) (ap is_kept k)

    go : (b : Bool) → (ts : List Token) × (elim b as (λ _. List Token) [ true ↦ replaced mid t | false ↦ mid ] ≡ old ++ ts)
    go true = (t ∷ [], ap (λ (v : List Token). replaced v t) kept ∙ replaced-last old a t)
    go false = (a ∷ [], kept)

pub plain_next : (old new : State) (t : Token) → (t.kind ≡ RAngle → ⊥) → GivesNext division old new t → GivesPlain old new t
plain_next old new t n g = record {
  same = g.same;
  extends = record { comments = _; blanks = _; tokens = _; faults = _; grows = g.grows };
  place = g.place;
  lies = g.lies;
  lexeme = go (same_kind Undetermined t.kind) refl g.outcome;
}
  where
    whole : (x : Lexeme) → Tells (cut x) t → (b : Bool) → is_right_angle x.kind ≡ b → Tells x t
    whole x h true e = absurd (n (h.kind ∙ cut_sign x e))
    whole x h false e = subst (λ (y : Lexeme). Tells y t) (cut_same x e) h

    go : (b : Bool) → same_kind Undetermined t.kind ≡ b → elim b as (λ _. Type 0) [ true ↦ (d : Diagnostic) × (g.faults ≡ d ∷ []) × GivesNone division old.goal old.text old.place t d | false ↦ (g.faults ≡ []) × GivesLexeme division cut old.text old.place t ]
        → ((t.kind ≡ Undetermined) × NoPlain old.text old.place) ⊎ ((t.kind ≡ Undetermined → ⊥) × (x : Lexeme) × Plain old.text old.place x × Tells x t × (x.kind ≡ Eof → x.to ≡ length old.text))
    go true e x = inl (sym (kind_of_same Undetermined t.kind e), λ y h. x.2.none y (record { lex = h.lex; of_goal = h.plain }))
    go false e x =
        let l = x.1 in
        inr (λ k. false≢true (sym e ∙ ap (same_kind Undetermined) k), l.lexeme, record { lex = l.stands.lex; plain = l.stands.of_goal }, whole l.lexeme l.tells (is_right_angle l.lexeme.kind) refl, at_end g.utf8 g.between l.stands)

plain_again : (old mid new : State) (a t : Token) → a.kind ≡ RAngle → GivesNext division old mid a → GivesAgain division mid new a t [] [] → GivesPlain old new t
plain_again old mid new a t k g h = record {
  same = record { text = h.same.text ∙ g.same.text; goal = h.same.goal ∙ g.same.goal; keeps_tokens = h.same.keeps_tokens ∙ g.same.keeps_tokens };
  extends = record {
    comments = _;
    blanks = _;
    tokens = tokens.0;
    faults = _;
    grows = record {
      comments_grow = h.comments ∙ g.grows.comments_grow;
      blanks_grow = h.blanks ∙ g.grows.blanks_grow;
      tokens_grow = h.tokens ∙ tokens.1;
      faults_grow = h.errors ∙ append-nil mid.kept.errors ∙ g.grows.faults_grow;
    };
  };
  place = h.place;
  lies = subst (λ (v : List ℕ). LiesIn t.span v) g.same.text h.lies;
  lexeme = inr (whole.0, whole.1.lexeme, record { lex = whole.1.stands.lex; plain = whole.1.stands.of_goal }, whole.1.tells, at_end g.utf8 g.between whole.1.stands);
}
  where
    tokens : (ts : List Token) × (relexed mid.keeps_tokens mid.kept.tokens t ≡ old.kept.tokens ++ ts)
    tokens = again-tokens mid.keeps_tokens a t old.kept.tokens mid.kept.tokens k (g.grows.tokens_grow ∙ ap (λ (b : Bool). old.kept.tokens ++ kept_token b a) (sym g.same.keeps_tokens))

    l : GivesLexeme division cut old.text old.place a
    l = lexeme_given old.goal old.text old.place a g.faults (ap (same_kind Undetermined) k) g.outcome

    there : (P : List ℕ → Type 0) → P old.text → P mid.text
    there P x = subst P (sym g.same.text) x

    found : (t.kind ≡ Undetermined → ⊥) × GivesLexeme division (λ z. z) mid.text old.place t
    found = whole_again mid.goal (h.outcome old.place l.lexeme (there (λ v. IsCharBoundary v old.place) g.between) (there (λ v. LexemeBehind division v old.place l.lexeme) l.stands) l.tells)

    whole : (t.kind ≡ Undetermined → ⊥) × GivesLexeme division (λ z. z) old.text old.place t
    whole = (found.0, subst (λ (v : List ℕ). GivesLexeme division (λ z. z) v old.place t) g.same.text found.1)

pub plain_again_seen : (old mid new : State) (a : Token) {E : Type 0} (r : Result Token E) → a.kind ≡ RAngle → GivesNext division old mid a → IfOk r (λ t. GivesAgain division mid new a t [] []) → IfOk r (λ t. GivesPlain old new t)
plain_again_seen old mid new a (Ok t) k g h = plain_again old mid new a t k g h
plain_again_seen old mid new a (Err e) k g h = h
