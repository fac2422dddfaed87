-- Where parentheses close, and that no operand goes on over `=>` behind them (ECMA-262, 15.3).
use Rattle.std.proofs.Common.{ℕ, ◌≡◌, Bool, true, false, not, ◌||◌, List, [], ◌∷◌, cond, nat_eq, None, Some, inl, inr, refl, sym, ap, subst, ◌∙◌}
use Rattle.std.specs.Prelude.{IsCharBoundary, IsUtf8}
use Rattle.std.proofs.lemmas.Bool.{false≢true}
use Rattle.js_base.specs.declared.kind.Kind.{Kind}
use Rattle.js_base.specs.declared.kind.Kind.TheVariants.{Arrow, LParen, LBrack, LCurly, RParen, RBrack, RCurly, TemplateHead, TemplateMiddle, TemplateTail, RAngle, Undetermined, Slash, SlashEq}
use Rattle.js_base.specs.declared.diagnostic.Diagnostic.{Diagnostic}
use Rattle.js_base.specs.declared.token.Token.{Token}
use Rattle.js_base.specs.Kinds.{same_kind, one_of_kinds}
use Rattle.js_base.proofs.KindLemmas.{kind_of_same}
use Rattle.js_grammar.specs.Brackets.{Bracket, plain, opens, closes, bracket, move, pop}
use Rattle.js_grammar.specs.Grammar.{Lexeme, Lexemes}
use Rattle.js_grammar.specs.Lexed.{Lexes}
use Rattle.js_grammar.specs.Lexemes.{division}
use Rattle.js_grammar.proofs.Alike.{lex-same}
use Rattle.js_grammar.proofs.Heads.{One, the_last, and_more}
use Rattle.laws_shared.specs.js_lex.Reading.{cut, is_right_angle, Tells, GivesLexeme, GivesNone, GivesBehind, LexemeBehind, Outcome}
use Rattle.laws_shared.proofs.js_lex.Again.{cut_same, passed}
use Rattle.laws_shared.proofs.part_scan.StringPlaces.{front_word}
use Rattle.laws_shared.proofs.part_words.KindsOfLexemes.{determined}
use Rattle.laws_shared.specs.Lexemes.{Lex, slashes}
use Rattle.laws_operators.specs.Closings.{ArrowTold, Closing, closed, inside, tells_settled, Settled, WholeBehind}
use Rattle.laws_operators.proofs.OnePlace.{one_plain_move}
use Rattle.laws_operators.proofs.BinaryOperators.{different}

-- ---- kinds

opened_move : (k : Kind) (b : ℕ) (st : List ℕ) → bracket k ≡ opens b → move (bracket k) st ≡ Some (b ∷ st)
unfolding move
opened_move k b st e = ap (λ (v : Bracket). move v st) e

closed_move : (k : Kind) (b : ℕ) (st : List ℕ) → bracket k ≡ closes b → move (bracket k) st ≡ pop b st
unfolding move
closed_move k b st e = ap (λ (v : Bracket). move v st) e

plain_move : (k : Kind) (st : List ℕ) → bracket k ≡ plain → move (bracket k) st ≡ Some st
unfolding move
plain_move k st e = ap (λ (v : Bracket). move v st) e

round_opens : bracket LParen ≡ opens 1
unfolding bracket
round_opens = refl

square_opens : bracket LBrack ≡ opens 2
unfolding bracket
square_opens = refl

curly_opens : bracket LCurly ≡ opens 3
unfolding bracket
curly_opens = refl

round_closes : bracket RParen ≡ closes 1
unfolding bracket
round_closes = refl

square_closes : bracket RBrack ≡ closes 2
unfolding bracket
square_closes = refl

curly_closes : bracket RCurly ≡ closes 3
unfolding bracket
curly_closes = refl

pub round_opened : (st : List ℕ) → move (bracket LParen) st ≡ Some (1 ∷ st)
round_opened st = opened_move LParen 1 st round_opens

pub square_opened : (st : List ℕ) → move (bracket LBrack) st ≡ Some (2 ∷ st)
square_opened st = opened_move LBrack 2 st square_opens

pub curly_opened : (st : List ℕ) → move (bracket LCurly) st ≡ Some (3 ∷ st)
curly_opened st = opened_move LCurly 3 st curly_opens

round_closed : (st : List ℕ) → move (bracket RParen) st ≡ pop 1 st
round_closed st = closed_move RParen 1 st round_closes

square_closed : (st : List ℕ) → move (bracket RBrack) st ≡ pop 2 st
square_closed st = closed_move RBrack 2 st square_closes

curly_closed : (st : List ℕ) → move (bracket RCurly) st ≡ pop 3 st
curly_closed st = closed_move RCurly 3 st curly_closes

pop_same : (b : ℕ) (st : List ℕ) → nat_eq b b ≡ true → pop b (b ∷ st) ≡ Some st
unfolding pop
pop_same b st e = ap (λ (v : Bool). cond v (Some st) None) e

pub closes_round : (st : List ℕ) → move (bracket RParen) (1 ∷ st) ≡ Some st
closes_round st = round_closed (1 ∷ st) ∙ pop_same 1 st refl

pub closes_square : (st : List ℕ) → move (bracket RBrack) (2 ∷ st) ≡ Some st
closes_square st = square_closed (2 ∷ st) ∙ pop_same 2 st refl

pub closes_curly : (st : List ℕ) → move (bracket RCurly) (3 ∷ st) ≡ Some st
closes_curly st = curly_closed (3 ∷ st) ∙ pop_same 3 st refl

pub no_bracket : (k : Kind) (st : List ℕ) → (k ≡ LParen → ⊥) → (k ≡ LBrack → ⊥) → (k ≡ LCurly → ⊥) → (k ≡ TemplateHead → ⊥) → (k ≡ RParen → ⊥) → (k ≡ RBrack → ⊥) → (k ≡ RCurly → ⊥) → (k ≡ TemplateTail → ⊥) → (k ≡ TemplateMiddle → ⊥) → move (bracket k) st ≡ Some st
unfolding bracket
no_bracket k st a b c d e f g h i = plain_move k st (rw (different LParen k a, different LBrack k b, different LCurly k c, different TemplateHead k d, different RParen k e, different RBrack k f, different RCurly k g, different TemplateTail k h, different TemplateMiddle k i) refl)

pub is_settled : (k : Kind) → (k ≡ Undetermined → ⊥) → (k ≡ Slash → ⊥) → (k ≡ SlashEq → ⊥) → tells_settled k ≡ true
is_settled k a b c = rw (different Undetermined k a, different Slash k b, different SlashEq k c) refl

-- ---- the whole lexeme behind a place

module _ {text : List ℕ} {e : ℕ} {t : Token} (w : WholeBehind text e t) where
  pub settled_behind : tells_settled t.kind ≡ true → (y : Lexeme) × Settled text e y × Tells y t
  settled_behind s = go w
    where
      parts : (a b : Bool) → not (a || b) ≡ true → (a ≡ false) × (b ≡ false)
      parts true b h = absurd (false≢true h)
      parts false true h = absurd (false≢true h)
      parts false false h = (refl, refl)

      both : (same_kind Undetermined t.kind ≡ false) × (one_of_kinds slashes t.kind ≡ false)
      both = parts (same_kind Undetermined t.kind) (one_of_kinds slashes t.kind) s

      go : WholeBehind text e t → (y : Lexeme) × Settled text e y × Tells y t
      go (inl x) = (x.lexeme, (x.stands, subst (λ (k : Kind). one_of_kinds slashes k ≡ false) x.tells.kind both.1), x.tells)
      go (inr x) = absurd (false≢true (sym both.0 ∙ ap (same_kind Undetermined) x.0))

  -- none stands there
  pub none_behind : t.kind ≡ Undetermined → (y : Lexeme) → LexemeBehind division text e y → ⊥
  none_behind k = go w
    where
      go : WholeBehind text e t → (y : Lexeme) → LexemeBehind division text e y → ⊥
      go (inl x) =
          let l = x.stands.lex in
          absurd (false≢true (sym (determined l.goal l.word l.rest x.lexeme.kind l.lexeme.kind) ∙ ap (same_kind Undetermined) (sym x.tells.kind ∙ k)))
      go (inr x) = x.1

-- ---- the token behind a place

module _ {text : List ℕ} {e : ℕ} {t : Token} (g : GivesBehind text e t) where
  behind_it : Outcome division cut (g.before).goal text e t [] (g.next).faults
  behind_it = subst (λ (v : List ℕ). Outcome division cut (g.before).goal v e t [] (g.next).faults) g.text_is (subst (λ (v : ℕ). Outcome division cut (g.before).goal (g.before).text v t [] (g.next).faults) g.place_is (g.next).outcome)

  -- it tells a whole lexeme, but for a cut one
  pub whole_told : (t.kind ≡ RAngle → ⊥) → WholeBehind text e t
  whole_told n = go (same_kind Undetermined t.kind) refl behind_it
    where
      by : (x : GivesLexeme division cut text e t) → (b : Bool) → is_right_angle x.lexeme.kind ≡ b → GivesLexeme division (λ y. y) text e t
      by x true q = absurd (n (x.tells.kind ∙ rw (q, cut) refl))
      by x false q = record { lexeme = x.lexeme; stands = x.stands; tells = subst (λ (z : Lexeme). Tells z t) (cut_same x.lexeme q) x.tells; separated = x.separated }

      go : (r : Bool) → same_kind Undetermined t.kind ≡ r → elim r as (λ _. Type 0) [ true ↦ (d : Diagnostic) × ((g.next).faults ≡ d ∷ []) × GivesNone division (g.before).goal text e t d | false ↦ ((g.next).faults ≡ []) × GivesLexeme division cut text e t ] → WholeBehind text e t
      go true q x = inr (sym (kind_of_same Undetermined t.kind q), x.2.none)
      go false q x = inl (by x.1 (is_right_angle x.1.lexeme.kind) refl)

  -- whether it is `=>`
  pub arrow_behind : t.kind ≡ Arrow → ArrowTold text e true
  arrow_behind k = let x = settled_behind (whole_told (λ r. let z : RAngle ≡ Arrow = sym r ∙ k in absurd (cc))) (ap tells_settled k) in (x.0, x.1.0, sym x.2.kind ∙ k)

  pub no_arrow_behind : (t.kind ≡ Arrow → ⊥) → ArrowTold text e false
  no_arrow_behind n y l k = go (same_kind Undetermined t.kind) behind_it
    where
      by : (x : GivesLexeme division cut text e t) → ⊥
      by x =
          let i : y ≡ x.lexeme = lex-same l.lex x.stands.lex (l.of_goal ∙ sym x.stands.of_goal) in
          let r : is_right_angle x.lexeme.kind ≡ false = ap (λ (z : Lexeme). is_right_angle z.kind) (sym i) ∙ ap is_right_angle k in
          n (x.tells.kind ∙ (ap (λ (z : Lexeme). z.kind) (cut_same x.lexeme r) ∙ (ap (λ (z : Lexeme). z.kind) (sym i) ∙ k)))

      go : (r : Bool) → elim r as (λ _. Type 0) [ true ↦ (d : Diagnostic) × ((g.next).faults ≡ d ∷ []) × GivesNone division (g.before).goal text e t d | false ↦ ((g.next).faults ≡ []) × GivesLexeme division cut text e t ] → ⊥
      go true x = x.2.none y l
      go false x = by x.1

-- it ends between characters
pub plain_between : {text : List ℕ} {s : ℕ} {y : Lexeme} → IsUtf8 text → IsCharBoundary text s → LexemeBehind division text s y → IsCharBoundary text y.to
plain_between {text} {s} {y} u b l =
    let p = passed u b l in
    let w = front_word text y.from p.word p.rest u p.stands.boundary p.here in
    subst (λ (v : ℕ). IsCharBoundary text v) (sym p.to) w.boundary

-- ---- the lexemes of an operand go the same way

pub one_is : {text : List ℕ} {s : ℕ} {x y : Lexeme} (st : List ℕ) {u v : List ℕ} → Lex text s x → Settled text s y → move (bracket x.kind) st ≡ Some u → move (bracket y.kind) st ≡ Some v → x ≡ y
one_is st l h p q = one_plain_move st l h.0 h.1 p q

pub none_left : {b : ℕ} {s : List ℕ} → Some [] ≡ Some (b ∷ s) → ⊥
none_left e = cc

pub closes_alike : (text : List ℕ) (s : ℕ) {st : List ℕ} {ls r : Lexemes} {e e' : ℕ} → Lexes (Lex text) s ls → One st ls e r → Closing text st s e' → (e ≡ e') × Lexes (Lex text) e r
closes_alike text s {st = st} l (the_last {x = x} p) (closed {y = y} h q) = (ap (λ (z : Lexeme). z.to) (one_is st l.0 h p q), l.1)
closes_alike text s {st = st} l (the_last {x = x} p) (inside {y = y} h q c) = absurd (none_left (sym p ∙ (ap (λ (z : Lexeme). move (bracket z.kind) st) (one_is st l.0 h p q) ∙ q)))
closes_alike text s {st = st} l (and_more {x = x} p o) (closed {y = y} h q) = absurd (none_left (sym q ∙ (ap (λ (z : Lexeme). move (bracket z.kind) st) (sym (one_is st l.0 h p q)) ∙ p)))
closes_alike text s {st = st} {e = e} {e' = e'} l (and_more {b = b} {s = t} {x = x} {ls = ls} {rest = r} p o) (inside {u = v} {b = c} {y = y} h q d) =
    let w : x ≡ y = one_is st l.0 h p q in
    let g : Some (b ∷ t) ≡ Some (c ∷ v) = sym p ∙ (ap (λ (z : Lexeme). move (bracket z.kind) st) w ∙ q) in
    let z : b ∷ t ≡ c ∷ v = cc in
    closes_alike text y.to (subst (λ (k : Lexeme). Lexes (Lex text) k.to ls) w l.1) (subst (λ (n : List ℕ). One n ls e r) z o) d
