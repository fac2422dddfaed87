-- It is noted whether `=>` stands behind parentheses: where it does no operand stands, where it doesn't no head (ECMA-262, 15.3).
use Rattle.std.proofs.Common.{ℕ, ◌≡◌, ◌==◌, eqb-true, Bool, true, false, not, List, [], ◌∷◌, ◌++◌, refl, sym, ap, subst, ◌∙◌}
use Rattle.std.specs.Prelude.{IsCharBoundary, Result, Ok, Err, IfOk, OnOk, Some}
use Rattle.std.proofs.lemmas.Bool.{false≢true, and_parts, eqb-false}
use Rattle.js_base.specs.declared.kind.Kind.{Kind}
use Rattle.js_base.specs.declared.kind.Kind.TheVariants.{Arrow, Eof, LParen, Undetermined}
use Rattle.js_base.specs.declared.token.Token.{Token}
use Rattle.js_base.specs.Kinds.{same_kind, one_of_kinds}
use Rattle.js_base.proofs.KindLemmas.{kind_of_same}
use Rattle.js_grammar.specs.Brackets.{bracket, move}
use Rattle.js_grammar.specs.Grammar.{Lexeme, Lexemes, is, next, Takes, is_seq, is_such, is_node, is_lexeme, ◌▸◌}
use Rattle.js_grammar.specs.Lexed.{Lexes}
use Rattle.js_grammar.specs.Lexemes.{division}
use Rattle.js_grammar.specs.Productions.{Flags, sym as symbol_of, tok, Params}
use Rattle.js_grammar.specs.Table.{rule, rule_of}
use Rattle.js_grammar.specs.Trees.{Slots, end}
use Rattle.js_grammar.proofs.Heads.{One, in_one}
use Rattle.js_grammar.proofs.Looks.{apart, covers}
use Rattle.laws_shared.specs.Heads.{NoHead, NotedClosings, NotedHeads, OnlyArrow}
use Rattle.laws_shared.specs.Lexemes.{Lex, other_goals}
use Rattle.laws_shared.specs.States.{At, Standing}
use Rattle.laws_shared.specs.js_cursor.Notes.{AddsPlace, Notes, NotesClosing, is_place}
use Rattle.laws_shared.specs.js_cursor.Parsers.{Parser}
use Rattle.laws_shared.specs.js_lex.Reading.{LexemeBehind}
use Rattle.laws_shared.proofs.Here.{plainly}
use Rattle.laws_shared.proofs.js_cursor.Changing.{notes_on}
use Rattle.laws_operators.specs.Arrows.{Unmoved}
use Rattle.laws_operators.specs.declared.forms.OpenBracket.{OpenBracket}
use Rattle.laws_operators.specs.declared.forms.OpenedBracket.{OpenedBracket}
use Rattle.laws_operators.specs.Closings.{ArrowTold, ByClosing, Closing, ClosesLast, FindsClosing, NotesOne, LexemePassed, NoneCloses, NotesMore, StandOpen, Unclosed, none_stands, number_of, tells_settled, WholeBehind}
use Rattle.laws_operators.proofs.Arrows.{closed_arrow, unmoved}
use Rattle.laws_operators.proofs.Closings.{closes_alike, none_behind, plain_between, settled_behind}
use Rattle.laws_operators.proofs.NotedHeads.{state_noted}
use Rattle.laws_operators.proofs.OpenBrackets.{closes_one, never_closes, none_closes, none_last, opens_one, stays_open, text_over}

-- ---- what the brackets say

-- the lexemes of parameters
params_one : {f : Flags} {ks ts us : Slots} {i j : ℕ} {ls rest : Lexemes} → Takes rule (symbol_of Params f) ks ts i ls us j rest → (e : ℕ) × One [] ls e rest
unfolding rule rule_of covers apart
params_one {i = i} (is_such (is_node (is_seq (is_lexeme {x = x} q) e)) c) = in_one {i = i} (is_seq (is_lexeme {p = is LParen} q) e) refl

-- no parameters with `=>` behind them, where those behind which it stands don't close before it
no_head_where : {text : List ℕ} {s : ℕ} (f : Flags) → ((ls rest : Lexemes) (e : ℕ) → Lexes (Lex text) s ls → One [] ls e rest → (x : Lexeme) (tail : Lexemes) → rest ≡ next x tail → x.kind ≡ Arrow → ⊥) → NoHead text f s
no_head_where {text} {s} f n = record { no = λ ts vs j ls rest m d e. go ts vs j ls rest m d }
  where
    go : (ts vs : Slots) (j : ℕ) (ls rest : Lexemes) → Lexes (Lex text) s ls → Takes rule (symbol_of Params f ▸ tok Arrow) end ts s ls vs j rest → ⊥
    go ts vs j ls rest m (is_seq {mid = mid} d (is_lexeme {x = x} {ls = tail} q)) = let z = params_one d in n ls (next x tail) z.0 m z.1 x tail refl (sym (kind_of_same Arrow x.kind (and_parts (same_kind Arrow x.kind) (not x.escaped) q).0))

unclosed_head : {text : List ℕ} {s : ℕ} (f : Flags) → Unclosed text [] s → NoHead text f s
unclosed_head f u = no_head_where f (λ ls rest e m o x tail i k. never_closes u m o)

closed_head : {text : List ℕ} {s e : ℕ} (f : Flags) → Closing text [] s e → ArrowTold text e false → NoHead text f s
closed_head {text} {s} {e} f c n = no_head_where f (λ ls rest v m o x tail i k.
    let g = closes_alike text s m o c in
    let l : Lex text v x = (subst (λ (r : Lexemes). Lexes (Lex text) v r) i g.1).0 in
    n x (subst (λ (w : ℕ). LexemeBehind division text w x) g.0 (record { lex = l.0; of_goal = plainly l.0 l.1 (ap (one_of_kinds other_goals) k) })) k)

pub by_closing : {text : List ℕ} {s e : ℕ} (b : Bool) → Closing text [] s e → ArrowTold text e b → ByClosing text s b
by_closing {e = e} true c a = λ f. closed_arrow (record { place = e; closing = c; arrow = a.0; stands = a.1; is = a.2 })
by_closing false c a = λ f. closed_head f c a

pub by_unclosed : {text : List ℕ} {s : ℕ} → Unclosed text [] s → ByClosing text s false
by_unclosed u = λ f. unclosed_head f u

-- ---- what is noted

added_so : {place : ℕ} {old new : List ℕ} {P : ℕ → Type 0} → AddsPlace place old new → P place → ((s : ℕ) → is_place old s ≡ true → P s) → (s : ℕ) → is_place new s ≡ true → P s
added_so {place} {old} {new} {P} h p o s i = go (s == place) refl
  where
    go : (b : Bool) → (s == place) ≡ b → P s
    go true e = subst P (sym (eqb-true s place e)) p
    go false e = o s (sym (h.others s (λ q. eqb-false s place e q)) ∙ i)

pub closing_noted : {text : List ℕ} (place : ℕ) (old new : Notes) (b : Bool) → NotesClosing place b old new → ByClosing text place b → NotedClosings text old.arrows old.others → NotedClosings text new.arrows new.others
closing_noted {text} place old new true h c n = (added_so h.0 c n.0, subst (λ (v : List ℕ). (s : ℕ) → is_place v s ≡ true → (f : Flags) → NoHead text f s) (sym (ap (λ (z : Notes). z.others) h.1)) n.1)
closing_noted {text} place old new false h c n = (subst (λ (v : List ℕ). (s : ℕ) → is_place v s ≡ true → ByClosing text s true) (sym (ap (λ (z : Notes). z.arrows) h.1)) n.0, added_so h.0 c n.1)

-- where only what is noted of closings changed
only_closing : (place : ℕ) (old new : Notes) (b : Bool) → NotesClosing place b old new → new ≡ record old { arrows = new.arrows; others = new.others; looked = new.looked }
only_closing place old new true h = h.1 ∙ (λ i. record old { arrows = new.arrows; others = (sym h.1 i).others; looked = (sym h.1 i).looked })
only_closing place old new false h = h.1 ∙ (λ i. record old { arrows = (sym h.1 i).arrows; others = new.others; looked = (sym h.1 i).looked })

pub more_one : {p q : Parser} (place : ℕ) (b : Bool) → q ≡ record p { state = q.state } → NotesClosing place b p.state q.state → ByClosing p.text place b → NotesMore p q
more_one {p} {q} place b i h c = record { is = i ∙ ap (λ (s : Notes). record p { state = s }) (only_closing place p.state q.state b h); so = closing_noted place p.state q.state b h c }

pub more_none : {p q : Parser} → q ≡ p → NotesMore p q
more_none {p} e = subst (NotesMore p) (sym e) (record { is = refl; so = λ n. n })

pub more_both : {p q r : Parser} → NotesMore p q → NotesMore q r → NotesMore p r
more_both {p} {q} {r} m n =
    let t : q.text ≡ p.text = ap (λ (z : Parser). z.text) m.is in
    record {
      is = n.is ∙ ap (λ (z : Parser). record z { state = record z.state { arrows = r.state.arrows; others = r.state.others; looked = r.state.looked } }) m.is;
      so = λ c. subst (λ (v : List ℕ). NotedClosings v r.state.arrows r.state.others) t (n.so (subst (λ (v : List ℕ). NotedClosings v q.state.arrows q.state.others) (sym t) (m.so c)));
    }

-- up to another place the text was looked through
pub looked_on : {p q : Parser} {place : ℕ} → q ≡ record p { state = record p.state { looked = place } } → NotesMore p q
looked_on {p} {q} {place} i = record {
  is = i ∙ (λ j. record p { state = record p.state { arrows = (sym i j).state.arrows; others = (sym i j).state.others; looked = (sym i j).state.looked } });
  so = λ n. subst (λ (z : Parser). NotedClosings p.text z.state.arrows z.state.others) (sym i) n;
}

-- ---- the parser stays where it is

-- it is the same but for its notes
notes_alone : (p q : Parser) (s : Notes) → q ≡ record p { state = s } → q ≡ record p { state = q.state }
notes_alone p q s i = i ∙ ap (λ (v : Notes). record p { state = v }) (sym (ap (λ (z : Parser). z.state) i))

pub more_alone : {p q : Parser} → NotesMore p q → q ≡ record p { state = q.state }
more_alone {p} {q} m = notes_alone p q _ m.is

more_heads : {p q : Parser} → NotesMore p q → NotedHeads p → NotedHeads q
more_heads m n = subst NotedHeads (sym m.is) (n.0, n.1, m.so n.2)

pub more_unmoved : {p q : Parser} → Standing p → NotesMore p q → Unmoved p q
more_unmoved {p} {q} a m = state_noted (unmoved refl) (more_alone m) (notes_on a.at (more_alone m) (ap (λ (z : Parser). z.state.covers) m.is) (ap (λ (z : Parser). z.state.commas) m.is)) (λ text f b. more_heads m b.heads)

-- whether a head is being attempted
pub attempts_alone : (p q : Parser) (b : Bool) → q ≡ record p { state = record p.state { attempting = b } } → q ≡ record p { state = q.state }
attempts_alone p q b i = notes_alone p q _ i

pub attempts_unmoved : {p q : Parser} (b : Bool) → Standing p → q ≡ record p { state = record p.state { attempting = b } } → Unmoved p q
attempts_unmoved {p} {q} b a i = state_noted (unmoved refl) (attempts_alone p q b i) (notes_on a.at (attempts_alone p q b i) (ap (λ (z : Parser). z.state.covers) i) (ap (λ (z : Parser). z.state.commas) i)) (λ text f c. subst NotedHeads (sym i) c.heads)

-- ---- what was noted says

pub noted_true : {text : List ℕ} {f : Flags} {p : Parser} {place : ℕ} → At text f p → is_place p.state.arrows place ≡ true → OnlyArrow text f place
noted_true {f = f} {p} {place} a i = subst (λ (t : List ℕ). OnlyArrow t f place) a.text_is (a.heads.2.0 place i f)

pub noted_false : {text : List ℕ} {f : Flags} (g : Flags) {p : Parser} {place : ℕ} → At text f p → is_place p.state.others place ≡ true → NoHead text g place
noted_false g {p} {place} a i = subst (λ (t : List ℕ). NoHead t g place) a.text_is (a.heads.2.1 place i g)

-- ---- lexeme by lexeme

module _ {p : Parser} {behind : ℕ} {t : Token} (a : Standing p) (b : IsCharBoundary p.text behind) (g : WholeBehind p.text behind t) where
  -- it ends between characters
  ends_between : tells_settled t.kind ≡ true → IsCharBoundary p.text t.span.end
  ends_between w = let x = settled_behind g w in subst (λ (v : ℕ). IsCharBoundary p.text v) (sym x.2.end) (plain_between a.at.utf8 b x.1.0)

  -- it opens a bracket
  pub lexeme_opens : {E : Type 0} (q : Parser) (r : Result Bool E) (o : OpenedBracket) (old new : List OpenedBracket) → tells_settled t.kind ≡ true → ((st : List ℕ) → move (bracket t.kind) st ≡ Some (number_of o.bracket ∷ st)) → o.behind ≡ behind → StandOpen p.text behind old → q ≡ p → IfOk r (λ on. (on ≡ true) × (new ≡ old ++ o ∷ [])) → IfOk r (λ on. LexemePassed p t q new on)
  lexeme_opens q (Ok true) o old new w m i z e x =
      let y = settled_behind g w in
      let n = opens_one y.1 o i (λ st. ap (λ (k : Kind). move (bracket k) st) (sym y.2.kind) ∙ m st) old z in
      (more_none e, subst (λ (v : ℕ). StandOpen p.text v new) (sym y.2.end) (subst (λ (os : List OpenedBracket). StandOpen p.text y.0.to os) (sym x.1) n), ends_between w)
  lexeme_opens q (Ok false) o old new w m i z e x = more_none e
  lexeme_opens q (Err v) o old new w m i z e x = x

  -- it closes one
  pub lexeme_closes : {E : Type 0} (q : Parser) (r : Result Bool E) (c : OpenBracket) (old new : List OpenedBracket) {end_ : ℕ} → end_ ≡ t.span.end → tells_settled t.kind ≡ true → ((st : List ℕ) → move (bracket t.kind) (number_of c ∷ st) ≡ Some st) → StandOpen p.text behind old → IfOk r (λ on. ClosesLast c end_ p old q new on) → IfOk r (λ on. LexemePassed p t q new on)
  lexeme_closes q (Ok true) c old new d w m z (o, i, k, v, n, (h, e)) =
      let y = settled_behind g w in
      let f = closes_one y.1 o (λ st. ap (λ (j : Kind). move (bracket j) (number_of o.bracket ∷ st)) (sym y.2.kind) ∙ (ap (λ (b : OpenBracket). move (bracket t.kind) (number_of b ∷ st)) k ∙ m st)) new (subst (λ (os : List OpenedBracket). StandOpen p.text behind os) i z) in
      (more_one o.behind v e h (by_closing v f.1 (subst (λ (u : ℕ). ArrowTold p.text u v) (d ∙ y.2.end) n)), subst (λ (u : ℕ). StandOpen p.text u new) (sym y.2.end) f.0, ends_between w)
  lexeme_closes q (Ok false) c old new d w m z e = more_none e
  lexeme_closes q (Err v) c old new d w m z e = e

  -- it is no bracket
  pub lexeme_plain : {q : Parser} (os : List OpenedBracket) → tells_settled t.kind ≡ true → ((st : List ℕ) → move (bracket t.kind) st ≡ Some st) → StandOpen p.text behind os → q ≡ p → LexemePassed p t q os true
  lexeme_plain os w m z e =
      let y = settled_behind g w in
      (more_none e, subst (λ (v : ℕ). StandOpen p.text v os) (sym y.2.end) (stays_open y.1 (λ st. ap (λ (k : Kind). move (bracket k) st) (sym y.2.kind) ∙ m st) os z), ends_between w)

  -- none closes
  pub no_lexeme_closes : (os : List OpenedBracket) → t.kind ≡ Undetermined → StandOpen p.text behind os → NoneCloses p.text os
  no_lexeme_closes os k z = none_closes (λ c u. none_stands (none_behind g k)) os z

  pub end_closes_none : (os : List OpenedBracket) → t.kind ≡ Eof → StandOpen p.text behind os → NoneCloses p.text os
  end_closes_none os k z = let y = settled_behind g (ap tells_settled k) in none_closes (text_over a.at.utf8 b y.1 (sym y.2.kind ∙ k)) os z

pub none_left_open : {E : Type 0} (p q : Parser) (t : Token) (r : Result Bool E) (os : List OpenedBracket) → IfOk r (λ on. (on ≡ false) × NotesMore p q) → IfOk r (λ on. LexemePassed p t q os on)
none_left_open p q t (Ok true) os x = absurd (false≢true (sym x.0))
none_left_open p q t (Ok false) os x = x.1
none_left_open p q t (Err v) os x = x

passed_more : (p q : Parser) (t : Token) (os : List OpenedBracket) (b : Bool) → LexemePassed p t q os b → NotesMore p q
passed_more p q t os true x = x.0
passed_more p q t os false x = x

-- some were passed, and these brackets are open
pub record Looking (o p : Parser) (place : ℕ) (os : List OpenedBracket) : Type 0 where
  pub more : NotesMore o p
  pub stand : StandOpen p.text place os
  pub between : IsCharBoundary p.text place

pub looking_from : {p : Parser} {place : ℕ} {os : List OpenedBracket} → IsCharBoundary p.text place → os ≡ [] → Looking p p place os
looking_from {p} {place} b e = record { more = more_none refl; stand = subst (λ (v : List OpenedBracket). StandOpen p.text place v) (sym e) tt; between = b }

pub looking_ends : {o p r : Parser} {place k : ℕ} {os : List OpenedBracket} (q : Parser) (t : Token) (new : List OpenedBracket) (b : Bool) → Looking o p place os → LexemePassed p t q new b → r ≡ record q { state = record q.state { looked = k } } → NotesMore o r
looking_ends {p = p} q t new b h x i = more_both h.more (more_both (passed_more p q t new b x) (looked_on i))

pub looking_on : {o p r : Parser} {place k : ℕ} {os : List OpenedBracket} (q : Parser) (t : Token) (new : List OpenedBracket) → k ≡ t.span.end → Looking o p place os → LexemePassed p t q new true → r ≡ record q { state = record q.state { looked = k } } → Looking o r k new
looking_on {o} {p} {r} {k = k} q t new d h x i =
    let e : r.text ≡ p.text = ap (λ (z : Parser). z.text) i ∙ ap (λ (z : Parser). z.text) x.0.is in
    let s : StandOpen p.text k new = subst (λ (v : ℕ). StandOpen p.text v new) (sym d) x.1 in
    let b : IsCharBoundary p.text k = subst (λ (v : ℕ). IsCharBoundary p.text v) (sym d) x.2 in
    record { more = looking_ends q t new true h x i; stand = subst (λ (v : List ℕ). StandOpen v k new) (sym e) s; between = subst (λ (v : List ℕ). IsCharBoundary v k) (sym e) b }

-- more and more is noted of brackets that don't close
pub record Noting (o p : Parser) (os : List OpenedBracket) : Type 0 where
  pub more : NotesMore o p
  pub none : NoneCloses o.text os

pub noting_on : {o p q : Parser} {os new : List OpenedBracket} (l : OpenedBracket) → os ≡ new ++ l ∷ [] → Noting o p os → NotesOne l.behind false p q → Noting o q new
noting_on {o} {p} {q} {os} {new} l e n (h, i) =
    let z = none_last new l (subst (λ (v : List OpenedBracket). NoneCloses o.text v) e n.none) in
    record { more = more_both n.more (more_one l.behind false i h (subst (λ (t : List ℕ). ByClosing t l.behind false) (sym (ap (λ (w : Parser). w.text) n.more.is)) (by_unclosed z.1))); none = z.0 }

pub found_closing : (place : ℕ) (p q : Parser) (b : Bool) → NotesMore p q → (b ≡ true → is_place q.state.arrows place ≡ true) → FindsClosing place p q b
found_closing place p q true m h = (m, h refl)
found_closing place p q false m h = m

-- ---- the same, of a parser seen as p

one_seen : {p q : Parser} (place : ℕ) (b : Bool) → p ≡ q → (s : Notes) → NotesClosing place b p.state s → NotesOne place b q (record p { state = s })
one_seen {p} place b v s h = subst (λ (z : Parser). NotesOne place b z (record p { state = s })) v (h, refl)

pub one_seen_so : {E : Type 0} {p q : Parser} (place : ℕ) (b : Bool) (r : Result (Unit {0}) E) → p ≡ q → (s : Notes) → OnOk r (NotesClosing place b p.state s) → IfOk r (λ u. NotesOne place b q (record p { state = s }))
one_seen_so place b (Ok u) v s h = one_seen place b v s h
one_seen_so place b (Err e) v s h = tt

pub looked_seen : {p q : Parser} {place : ℕ} → p ≡ q → (s : Notes) → s ≡ record p.state { looked = place } → record p { state = s } ≡ record q { state = record q.state { looked = place } }
looked_seen {p} {place = place} v s e = ap (λ (x : Notes). record p { state = x }) e ∙ ap (λ (z : Parser). record z { state = record z.state { looked = place } }) v

pub attempting_seen : {p q : Parser} {b : Bool} → p ≡ q → (s : Notes) → s ≡ record p.state { attempting = b } → record p { state = s } ≡ record q { state = record q.state { attempting = b } }
attempting_seen {p} {b = b} v s e = ap (λ (x : Notes). record p { state = x }) e ∙ ap (λ (z : Parser). record z { state = record z.state { attempting = b } }) v
