-- Brackets that are open, lexeme by lexeme: where they close, and where they don't.
use Rattle.std.proofs.Common.{ℕ, ◌≡◌, List, [], ◌∷◌, ◌++◌, length, drop, Some, refl, sym, ap, subst, arith, ◌∙◌}
use Rattle.std.specs.Prelude.{IsCharBoundary, IsUtf8, chars}
use Rattle.std.proofs.lemmas.Str.{chars-nil}
use lib.Seq.{drop-length}
use Rattle.js_base.specs.declared.kind.Kind.{Kind}
use Rattle.js_base.specs.declared.kind.Kind.TheVariants.{Eof}
use Rattle.js_base.specs.Kinds.{one_of_kinds}
use Rattle.js_grammar.specs.Brackets.{bracket, move}
use Rattle.js_grammar.specs.Characters.{width}
use Rattle.js_grammar.specs.Grammar.{Lexeme, Lexemes}
use Rattle.js_grammar.specs.Lexed.{Lexes}
use Rattle.js_grammar.specs.Lexemes.{kind_in}
use Rattle.js_grammar.specs.Longest.{joined}
use Rattle.js_grammar.proofs.Heads.{One, the_last, and_more}
use Rattle.laws_shared.specs.Lexemes.{Lex, signs}
use Rattle.laws_shared.proofs.Here.{plain_there}
use Rattle.laws_shared.proofs.js_cursor.Moving.{empty_is_end}
use Rattle.laws_shared.proofs.js_cursor.Plains.{at_end}
use Rattle.laws_operators.specs.declared.forms.OpenedBracket.{OpenedBracket}
use Rattle.laws_operators.specs.Closings.{number_of, Closing, closed, inside, Unclosed, text_ends, none_stands, further, Settled, OpenThere, StandOpen, NoneCloses, opened_behind}
use Rattle.laws_operators.proofs.Closings.{one_is, none_left}
use Rattle.laws_operators.proofs.OnePlace.{one_told}

-- ---- brackets that never all close

-- at the end of a text no lexeme stands but the end
no_lexeme : (ps w rest : List ℕ) → ps ++ (w ++ rest) ≡ [] → (ps ≡ []) × (w ≡ [])
no_lexeme [] [] rest e = (refl, refl)
no_lexeme [] (c ∷ w) rest e = absurd (cc)
no_lexeme (c ∷ ps) w rest e = absurd (cc)

no_width : (ps : List (List ℕ)) → joined ps ≡ [] → width (joined ps) ≡ 0
no_width ps e = ap width e

end_there : {text : List ℕ} {s : ℕ} {x : Lexeme} → s ≡ length text → Lex text s x → (x.kind ≡ Eof) × (x.to ≡ s)
end_there {text} {s} {x} e l =
    let z = plain_there l in
    let h = z.stands.lex in
    let n : chars (drop s text) ≡ [] = ap (λ (v : ℕ). chars (drop v text)) e ∙ (ap chars (drop-length text) ∙ chars-nil) in
    let o = no_lexeme (joined h.trivia) h.word h.rest (sym h.stands.splits ∙ n) in
    let k : z.lexeme.kind ≡ Eof = empty_is_end h.goal h.rest z.lexeme.kind (subst (λ (w : List ℕ). kind_in h.goal w h.rest ≡ Some z.lexeme.kind) o.1 h.lexeme.kind) in
    let same : x ≡ z.lexeme = one_told l z.stands (ap (one_of_kinds signs) k) in
    let f = h.from in let t = h.to in let a = ap width o.0 in let b = ap width o.1 in let c : width [] ≡ 0 = refl in
    (ap (λ (y : Lexeme). y.kind) same ∙ k, ap (λ (y : Lexeme). y.to) same ∙ (let r : z.lexeme.to ≡ s = omega arith in r))

eof_stays : (st : List ℕ) → move (bracket Eof) st ≡ Some st
unfolding move bracket
eof_stays st = refl

ends_never : (text : List ℕ) {s b : ℕ} {u st : List ℕ} {ls r : Lexemes} {e : ℕ} → s ≡ length text → st ≡ b ∷ u → Lexes (Lex text) s ls → One st ls e r → ⊥
ends_never text {st = st} i j l (the_last {x = x} p) = none_left (sym p ∙ (ap (λ (k : Kind). move (bracket k) st) (end_there i l.0).0 ∙ (eof_stays st ∙ ap Some j)))
ends_never text {b = b} {u} {st} i j l (and_more {b = c} {s = t} {x = x} p o) =
    let z = end_there i l.0 in
    let g : Some (c ∷ t) ≡ Some (b ∷ u) = sym p ∙ (ap (λ (k : Kind). move (bracket k) st) z.0 ∙ (eof_stays st ∙ ap Some j)) in
    let w : c ∷ t ≡ b ∷ u = cc in
    ends_never text (z.1 ∙ i) w l.1 o

pub never_closes : {text : List ℕ} {s : ℕ} {st : List ℕ} {ls r : Lexemes} {e : ℕ} → Unclosed text st s → Lexes (Lex text) s ls → One st ls e r → ⊥
never_closes {text} (text_ends i) l o = ends_never text i refl l o
never_closes (none_stands n) l (the_last p) = let z = plain_there l.0 in n z.lexeme z.stands
never_closes (none_stands n) l (and_more p o) = let z = plain_there l.0 in n z.lexeme z.stands
never_closes {text} {s} {st} (further {y = y} h q c) l (the_last {x = x} p) = none_left (sym p ∙ (ap (λ (z : Lexeme). move (bracket z.kind) st) (one_is st l.0 h p q) ∙ q))
never_closes {text} {s} {st} {e = e} (further {u = v} {b = c} {y = y} h q d) l (and_more {b = b} {s = t} {x = x} {ls = ls} {rest = r} p o) =
    let w : x ≡ y = one_is st l.0 h p q in
    let g : Some (b ∷ t) ≡ Some (c ∷ v) = sym p ∙ (ap (λ (z : Lexeme). move (bracket z.kind) st) w ∙ q) in
    let z : b ∷ t ≡ c ∷ v = cc in
    never_closes d (subst (λ (k : Lexeme). Lexes (Lex text) k.to ls) w l.1) (subst (λ (n : List ℕ). One n ls e r) z o)

-- ---- lists of them

some_behind : (b : ℕ) (st : List ℕ) (os : List OpenedBracket) → (c : ℕ) × (u : List ℕ) × (opened_behind (b ∷ st) os ≡ c ∷ u)
some_behind b st [] = (b, st, refl)
some_behind b st (o ∷ os) = some_behind (number_of o.bracket) (b ∷ st) os

one_more : (st : List ℕ) (os : List OpenedBracket) (o : OpenedBracket) → opened_behind st (os ++ o ∷ []) ≡ number_of o.bracket ∷ opened_behind st os
one_more st [] o = refl
one_more st (a ∷ os) o = one_more (number_of a.bracket ∷ st) os o

-- one more lexeme, behind which some are open
opens_on : {text st : List ℕ} {start s : ℕ} {y : Lexeme} (c : ℕ) (u : List ℕ) → Settled text s y → move (bracket y.kind) st ≡ Some (c ∷ u) → OpenThere text st start s → OpenThere text (c ∷ u) start y.to
opens_on c u h m o = record { closing = λ e d. o.closing e (inside h m d); unclosed = λ d. o.unclosed (further h m d) }

open_as : {text st tt : List ℕ} {start s e : ℕ} → st ≡ tt → s ≡ e → OpenThere text st start s → OpenThere text tt start e
open_as {text} {st} {tt} {start} {s} {e} i j o = subst (λ (v : List ℕ). OpenThere text v start e) i (subst (λ (v : ℕ). OpenThere text st start v) j o)

-- where some are open before and behind, by what the lexeme does
step_on : {text st : List ℕ} {start s : ℕ} {y : Lexeme} (v : List ℕ) → (c : ℕ) × (u : List ℕ) × (v ≡ c ∷ u) → Settled text s y → move (bracket y.kind) st ≡ Some v → OpenThere text st start s → OpenThere text v start y.to
step_on {text} {st} {start} {s} {y} v (c, u, i) h m o = open_as (sym i) refl (opens_on c u h (m ∙ ap Some i) o)

module _ {text : List ℕ} {s : ℕ} {y : Lexeme} (h : Settled text s y) where
  pub stays_open : ((st : List ℕ) → move (bracket y.kind) st ≡ Some st) → (os : List OpenedBracket) → StandOpen text s os → StandOpen text y.to os
  stays_open m [] z = tt
  stays_open m (o ∷ os) z = (step_on (opened_behind [] (o ∷ os)) (some_behind (number_of o.bracket) [] os) h (m (opened_behind [] (o ∷ os))) z.0, stays_open m os z.1)

  pub opens_one : (o : OpenedBracket) → o.behind ≡ s → ((st : List ℕ) → move (bracket y.kind) st ≡ Some (number_of o.bracket ∷ st)) → (os : List OpenedBracket) → StandOpen text s os → StandOpen text y.to (os ++ o ∷ [])
  opens_one o i m [] z = (record { closing = λ e d. subst (λ (v : ℕ). Closing text [] v e) (sym i) (inside h (m []) d); unclosed = λ d. subst (λ (v : ℕ). Unclosed text [] v) (sym i) (further h (m []) d) }, tt)
  opens_one o i m (a ∷ os) z = (step_on (opened_behind [] (a ∷ (os ++ o ∷ []))) (some_behind (number_of a.bracket) [] (os ++ o ∷ [])) h (m (opened_behind [] (a ∷ os)) ∙ ap Some (sym (one_more (number_of a.bracket ∷ []) os o))) z.0, opens_one o i m os z.1)

  pub closes_one : (o : OpenedBracket) → ((st : List ℕ) → move (bracket y.kind) (number_of o.bracket ∷ st) ≡ Some st) → (os : List OpenedBracket) → StandOpen text s (os ++ o ∷ []) → StandOpen text y.to os × Closing text [] o.behind y.to
  closes_one o m [] z = (tt, z.0.closing y.to (closed h (m [])))
  closes_one o m (a ∷ os) z =
      let r = closes_one o m os z.1 in
      ((step_on (opened_behind [] (a ∷ os)) (some_behind (number_of a.bracket) [] os) h (ap (move (bracket y.kind)) (one_more (number_of a.bracket ∷ []) os o) ∙ m (opened_behind [] (a ∷ os))) z.0, r.0), r.1)

-- where no lexeme stands none closes
pub none_closes : {text : List ℕ} {s : ℕ} → ((c : ℕ) (u : List ℕ) → Unclosed text (c ∷ u) s) → (os : List OpenedBracket) → StandOpen text s os → NoneCloses text os
none_closes n [] z = tt
none_closes {text} {s} n (o ∷ os) z = let b = some_behind (number_of o.bracket) [] os in (z.0.unclosed (subst (λ (v : List ℕ). Unclosed text v s) (sym b.2) (n b.0 b.1)), none_closes n os z.1)

pub none_last : {text : List ℕ} (os : List OpenedBracket) (o : OpenedBracket) → NoneCloses text (os ++ o ∷ []) → NoneCloses text os × Unclosed text [] o.behind
none_last [] o z = (tt, z.0)
none_last (a ∷ os) o z = let r = none_last os o z.1 in ((z.0, r.0), r.1)

pub text_over : {text : List ℕ} {s : ℕ} {y : Lexeme} → IsUtf8 text → IsCharBoundary text s → Settled text s y → y.kind ≡ Eof → (c : ℕ) (u : List ℕ) → Unclosed text (c ∷ u) s
text_over {text} {s} {y} b i h e c u = further h (ap (λ (k : Kind). move (bracket k) (c ∷ u)) e ∙ eof_stays (c ∷ u)) (text_ends (at_end b i h.0 e))
