-- What stands at a word and behind it, and the lookaheads of statements that ask for that (ECMA-262, 14.2, 14.5, 14.7.5).
use Rattle.std.proofs.Common.{ℕ, suc, ◌≡◌, ◌≤◌, ◌⊎◌, inl, inr, max, List, Bool, true, false, not, ◌&&◌, ◌||◌, IsTrue, refl, sym, ap, subst, arith, ◌∙◌}
use Rattle.std.proofs.lemmas.Bool.{false≢true, not-true, and_from, and_parts}
use Rattle.js_base.specs.declared.kind.Kind.{Kind}
use Rattle.js_base.specs.declared.kind.Kind.TheVariants.{Async, Eof, Function, LBrack, Let, RAngle}
use Rattle.js_base.specs.Kinds.{same_kind, one_of_kinds}
use Rattle.js_base.proofs.KindLemmas.{kind_of_same}
use Rattle.js_grammar.specs.Trees.{Slots, end}
use Rattle.js_grammar.specs.Grammar.{Lexeme, Lexemes, Look, here, seen, is, lexeme, look, nothing, Takes, is_seq, is_lexeme, is_look, ◌▸◌}
use Rattle.js_grammar.specs.Lexed.{Lexes}
use Rattle.js_grammar.specs.Parsing.{Test, plain, full, still, Goes, Fails}
use Rattle.js_grammar.specs.Productions.{G, Flags, function_on_line, not_then, other}
use Rattle.js_grammar.specs.Table.{rule}
use Rattle.js_grammar.proofs.Looks.{covers, covered, same_self}
use Rattle.js_grammar.proofs.Calculus.{◌▹◌, ◌▹✗◌, here_at, left, right, looks, two_ahead, then_by, part_fails, fails_alt, fails_look, fails_lexeme, fails_ahead}
use Rattle.laws_shared.specs.js_lex.Reading.{is_right_angle}
use Rattle.laws_shared.specs.js_cursor.Parsers.{Parser}
use Rattle.laws_shared.specs.Lexemes.{Lex, other_goals, signs}
use Rattle.laws_shared.specs.Stands.{StandsHere}
use Rattle.laws_shared.specs.States.{At}
use Rattle.parse_declarations.specs.laws_primary.Functions.{FunctionNext, NoFunctionHere}
use Rattle.laws_shared.proofs.Here.{escaped_here, kind_here, settled_kind, told, uncut, unsettled}
use Rattle.laws_shared.proofs.Paths.{Path}
use Rattle.laws_shared.proofs.Signs.{none_seen, stands_not}
use Rattle.laws_shared.proofs.Verdicts.{verdict_of}
use Rattle.laws_statements.specs.LetStatements.{behind_let, LetIsName}

-- ---- choices that look one lexeme further

-- What g is, is what g' is, as the lexemes behind the place tell that go on behind the first one.
pub record Leads (text : List ℕ) (X : Test) (g : G) (s : ℕ) (g' : G) : Type 0 where
  pub reach : ℕ
  pub near : reach ≤ suc s
  pub goes : Goes rule (Lex text) X end g s g' s (λ us. us) (still reach)

pub at_once : {text : List ℕ} {X : Test} {g g' : G} {s : ℕ} → Goes rule (Lex text) X end g s g' s (λ us. us) (still 0) → Leads text X g s g'
at_once r = record { reach = 0; near = omega arith; goes = r }

module _ {text : List ℕ} {X : Test} {s : ℕ} where
  infixr 18 ◌⇒◌
  pub ◌⇒◌ : {g g' g'' : G} → Leads text X g s g' → Leads text X g' s g'' → Leads text X g s g''
  a ⇒ b = record { reach = max a.reach b.reach; near = let i = a.near in let j = b.near in omega arith; goes = a.goes ▹ b.goes }

  infixr 18 ◌⇒✗◌
  pub ◌⇒✗◌ : {g g' : G} → Leads text X g s g' → Fails rule (Lex text) X end g' s → Fails rule (Lex text) X end g s
  a ⇒✗ b = a.goes ▹✗ b

-- and what is read then
pub leads_to : {text : List ℕ} {f f' : Flags} {X : Test} {g g' g'' : G} {p q : Parser} {h : Slots → Slots} → At text f' p → Leads text X g p.prev_token_end g' → Path text f X g' p g'' q h → Path text f X g p g'' q h
leads_to a l y = record {
  at = y.at;
  further = y.further;
  pass = y.pass;
  walked = y.walked;
  verdict = verdict_of y.verdict (λ z. record { reach = max l.reach z.reach; near = let i = l.near in let j = z.near in let k = y.further in let m = a.behind in omega arith; goes = l.goes ▹ z.goes }) (λ n. l.goes ▹✗ n);
}

-- ---- what stands here and behind

-- A word is told where it stands: no other goal reads another lexeme there, and more stands behind it.
pub record IsWord (w : Kind) : Type 0 where
  pub settled : one_of_kinds unsettled w ≡ false
  pub plain : (is_right_angle w || one_of_kinds other_goals w) ≡ false
  pub goes_on : same_kind Eof w ≡ false

pub let_word : IsWord Let
let_word = record { settled = refl; plain = refl; goes_on = refl }

pub async_word : IsWord Async
async_word = record { settled = refl; plain = refl; goes_on = refl }

pub stands_word : (p : Parser) (w : Kind) → (b : Bool) × StandsHere p w b
stands_word p w = by (same_kind w p.token.kind) refl p.token.escaped refl
  where
    by : (b : Bool) → same_kind w p.token.kind ≡ b → (e : Bool) → p.token.escaped ≡ e → (b : Bool) × StandsHere p w b
    by true k false e = (true, (sym (kind_of_same w p.token.kind k), e))
    by true k true e = (false, λ i j. false≢true (sym j ∙ e))
    by false k e i = (false, λ j m. false≢true (sym k ∙ (ap (same_kind w) j ∙ same_self w)))

module _ {text : List ℕ} {f : Flags} {p : Parser} (a : At text f p) {w : Kind} (c : IsWord w) where
  pub is_word : StandsHere p w true → (y : Lexeme) → Lex text p.prev_token_end y → IsTrue (seen (is w) y)
  is_word h y l = and_from _ _ (ap (same_kind w) (kind_here a h.0 c.settled y l) ∙ same_self w) (ap not (escaped_here a y l ∙ h.1))

  pub no_word : StandsHere p w false → (y : Lexeme) → Lex text p.prev_token_end y → IsTrue (seen (is w) y) → ⊥
  no_word n y l q = none_seen (stands_not a c.plain n) y l q

  pub ends_at : StandsHere p w true → (y : Lexeme) → Lex text p.prev_token_end y → y.to ≡ p.token.span.end
  ends_at h y l = let s = settled_kind w c.settled in sym (told a (uncut a (ap (same_kind RAngle) h.0 ∙ s.0)) (ap (one_of_kinds signs) h.0 ∙ s.1) y l).end

  -- ---- the lookaheads

  module _ (Q : Look) where
    then_none : {X : Test} {u g : G} {r : ℕ} → Goes rule (Lex text) (plain full) end u p.prev_token_end (nothing) p.prev_token_end (λ us. us) (still r) → Goes rule (Lex text) X end (u ▸ g) p.prev_token_end g p.prev_token_end (λ us. us) (still r)
    then_none r = then_by r (record { admits = λ ts us vs j k ls mid rest d d' h. (refl, refl) })

    -- the word doesn't stand here
    pub elsewhere : {X : Test} {g : G} → StandsHere p w false → Goes rule (Lex text) X end (not_then (is w) Q ▸ g) p.prev_token_end g p.prev_token_end (λ us. us) (still 0)
    elsewhere h = then_none (left (fails_ahead (part_fails {X' = plain full} (fails_lexeme (is w) (λ y l q. no_word h y l q)) (record { admits = λ ts us vs j k ls mid rest d d' e. (refl, refl) }))) ▹ looks (other (is w)) (λ y l. other_word y (seen (is w) y) refl (no_word h y l)))
      where
        other_word : (y : Lexeme) (b : Bool) → seen (is w) y ≡ b → (IsTrue (seen (is w) y) → ⊥) → IsTrue (seen (other (is w)) y)
        other_word y true e m = absurd (m e)
        other_word y false e m = ap not e

    -- it isn't followed by what the test is true of
    pub not_followed : {X : Test} {g : G} → ((y z : Lexeme) → Lex text p.prev_token_end y → IsTrue (seen (is w) y) → Lex text y.to z → IsTrue (seen Q z) → ⊥) → Leads text X (not_then (is w) Q ▸ g) p.prev_token_end g
    not_followed n = by (stands_word p w)
      where
        other_behind : (z : Lexeme) (b : Bool) → seen Q z ≡ b → (IsTrue (seen Q z) → ⊥) → IsTrue (seen (other Q) z)
        other_behind z true e m = absurd (m e)
        other_behind z false e m = ap not e

        by : {X : Test} {g : G} → (b : Bool) × StandsHere p w b → Leads text X (not_then (is w) Q ▸ g) p.prev_token_end g
        by (true, h) = record {
          reach = max 0 (suc p.prev_token_end);
          near = omega arith;
          goes = then_none (right (fails_look (other (is w)) (λ y l q. false≢true (sym (ap not (is_word h y l)) ∙ q))) ▹ two_ahead (is w) (other Q) (λ y l. (is_word h y l, (λ e. false≢true (sym (ap (same_kind Eof) (kind_here a h.0 c.settled y l) ∙ c.goes_on) ∙ (ap (same_kind Eof) e ∙ refl))), λ z m. other_behind z (seen Q z) refl (n y z l (is_word h y l) m))));
        }
        by (false, h) = at_once (elsewhere h)

    -- it is
    pub followed : {X : Test} {g : G} → StandsHere p w true → ((z : Lexeme) → Lex text p.token.span.end z → IsTrue (seen Q z)) → Fails rule (Lex text) X end (not_then (is w) Q ▸ g) p.prev_token_end
    followed h n = part_fails {X' = plain full} (fails_alt (fails_look (other (is w)) (λ y l q. false≢true (sym (ap not (is_word h y l)) ∙ q))) (fails_ahead (record { no = λ ts vs k ls rest l d e. go ts vs k ls rest l d }))) (record { admits = λ ts us vs j k ls mid rest d d' e. (refl, refl) })
      where
        go : (ts vs : Slots) (k : ℕ) (ls rest : Lexemes) → Lexes (Lex text) p.prev_token_end ls → Takes rule (lexeme (is w) ▸ look (other Q)) end ts p.prev_token_end ls vs k rest → ⊥
        go ts vs k ls rest l (is_seq (is_lexeme {x = y} {ls = more} q) (is_look r)) =
            let z = here more in
            let m : Lex text p.token.span.end z = subst (λ (v : ℕ). Lex text v z) (ends_at h y l.0) (here_at (Lex text) more l.1) in
            false≢true (sym (ap not (n z m)) ∙ r)

-- ---- `let`

-- where no declaration begins as a body, none begins in a list either way round
pub name_in_body : {text : List ℕ} {s : ℕ} → LetIsName text true s → LetIsName text false s
unfolding covers
name_in_body n y z l q m = go (same_kind LBrack z.kind) refl
  where
    go : (b : Bool) → same_kind LBrack z.kind ≡ b → same_kind LBrack z.kind ≡ false
    go true e = absurd (false≢true (sym (n y z l q m) ∙ covered (λ k w e. behind_let false k) (λ k w e. behind_let true k) refl z.kind z.newline z.escaped e))
    go false e = e

-- no `let` stands here
pub no_let_here : {text : List ℕ} {f : Flags} {p : Parser} → At text f p → StandsHere p Let false → (b : Bool) → LetIsName text b p.prev_token_end
no_let_here a n b y z l q m = absurd (no_word a let_word n y l q)

-- ---- `async`

-- if it stands behind the place, no `function` stands behind it on its line
abbrev pub AsyncIsName : List ℕ → ℕ → Type 0
AsyncIsName text s = (y z : Lexeme) → Lex text s y → IsTrue (seen (is Async) y) → Lex text y.to z → IsTrue (seen function_on_line z) → ⊥

-- none stands here
pub no_async_here : {text : List ℕ} {f : Flags} {p : Parser} → At text f p → StandsHere p Async false → AsyncIsName text p.prev_token_end
no_async_here a n y z l q m h = no_word a async_word n y l q

-- no function begins here
pub async_named : {text : List ℕ} {f : Flags} {p : Parser} → At text f p → NoFunctionHere p → AsyncIsName text p.prev_token_end
async_named {text} {f} {p} a n y z l q m h = by n.1
  where
    behind : FunctionNext p false → (b : Bool) × StandsHere p Async b → ⊥
    behind s (true, k) =
        let i = and_parts (same_kind Function z.kind && not z.escaped) _ h in
        s text f a z (subst (λ (v : ℕ). Lex text v z) (ends_at a async_word k y l) m) (sym (kind_of_same Function z.kind (and_parts (same_kind Function z.kind) _ i.0).0)) (not-true z.escaped (and_parts (same_kind Function z.kind) _ i.0).1) (not-true z.newline i.1)
    behind s (false, k) = no_word a async_word k y l q

    by : StandsHere p Async false ⊎ FunctionNext p false → ⊥
    by (inl s) = no_word a async_word s y l q
    by (inr s) = behind s (stands_word p Async)
