-- `async` and what stands behind it: `function` on its line, or something else (ECMA-262, 15.6, 15.8).
use Rattle.std.proofs.Common.{ℕ, ◌≡◌, ◌⊎◌, inl, inr, List, [], ◌∷◌, Bool, true, false, not, ◌||◌, IsTrue, Option, refl, sym, ap, subst, ◌∙◌}
use Rattle.std.specs.Prelude.{Result, Ok, Err, MatchResult}
use Rattle.std.proofs.lemmas.Bool.{false≢true, and_parts, not-true}
use Rattle.js_base.specs.declared.diagnostic.Diagnostic.{Diagnostic}
use Rattle.js_base.specs.declared.kind.Kind.{Kind}
use Rattle.js_base.specs.declared.kind.Kind.TheVariants.{Async, Function, RAngle, Undetermined}
use Rattle.js_base.specs.declared.token.Token.{Token}
use Rattle.js_base.specs.Kinds.{same_kind, one_of_kinds}
use Rattle.js_base.specs.KindSets.{binding_identifier_kinds}
use Rattle.js_base.proofs.KindLemmas.{kind_of_same}
use Rattle.js_grammar.specs.Trees.{Slots, end}
use Rattle.js_grammar.specs.Grammar.{Lexeme, Lexemes, here, seen, is, Takes, is_lexeme, is_node, is_such, ◌▸◌}
use Rattle.js_grammar.specs.Lexemes.{division}
use Rattle.js_grammar.specs.Parsing.{Test, plain, full, still, Admits, Goes, Fails}
use Rattle.js_grammar.specs.Productions.{G, Flags, at, no_newline, tok, FuncExpr, IdentifierReference, Primary}
use Rattle.js_grammar.specs.Productions.{sym as symbol}
use Rattle.js_grammar.specs.Lexed.{Lexes}
use Rattle.js_grammar.specs.Follow.{after, widest}
use Rattle.js_grammar.proofs.Alike.{lex-same}
use Rattle.js_grammar.proofs.Looks.{covers, apart}
use Rattle.js_grammar.specs.Table.{rule, rule_of}
use Rattle.js_grammar.proofs.Calculus.{Between, ◌▹✗◌, done, fails_alt, fails_lexeme, fails_node, fails_rule, here_at, inside_full, looks, part_by, part_fails, fails_look}
use Rattle.laws_shared.specs.js_lex.Reading.{Tells, cut, is_right_angle, GivesLexeme, GivesNone, Outcome as Given}
use Rattle.laws_shared.proofs.js_lex.Again.{cut_same}
use Rattle.laws_shared.specs.js_cursor.Moves.{OnlyMemory, Peeks}
use Rattle.laws_shared.specs.js_cursor.declared.stop.Stop.{Stop}
use Rattle.laws_shared.specs.js_cursor.Parsers.{Parser}
use Rattle.laws_shared.specs.js_tree.declared.id.NodeId.{NodeId}
use Rattle.laws_shared.proofs.Giving.{fails_unescaped}
use Rattle.laws_shared.specs.Arguments.{Partway}
use Rattle.laws_shared.specs.Lexemes.{Lex, other_goals, signs}
use Rattle.laws_shared.specs.Moves.{Moved}
use Rattle.laws_shared.specs.Stands.{StandsHere}
use Rattle.laws_shared.specs.States.{At}
use Rattle.laws_primary.specs.Functions.{BeginsFunction, FunctionBehind, FunctionHere, FunctionNext, function_line}
use Rattle.laws_primary.specs.declared.forms.FunctionForm.TheVariants.{Expression}
use Rattle.laws_shared.proofs.Ahead.{pass_over}
use Rattle.laws_shared.proofs.Here.{angled, newline_here, one_plain, plain_there, plainly, signs_are, told, told_plain, uncut}
use Rattle.laws_shared.proofs.NameKinds.{name_apart}
use Rattle.laws_shared.proofs.Parts.{part_path_fails, part_sign}
use Rattle.laws_shared.proofs.Paths.{fails_at, read_of}
use Rattle.laws_shared.proofs.Signs.{other_kind}
use Rattle.laws_shared.proofs.Verdicts.{verdict_of}

-- ---- what stands behind the current lexeme, as a peek tells it

module _ {text : List ℕ} {f : Flags} {p : Parser} {t : Token} (a : At text f p) (h : Peeks p t) where
  behind_it : Given division cut p.lexer.goal text p.token.span.end t [] h.next.faults
  behind_it = subst (λ (v : List ℕ). Given division cut p.lexer.goal v p.token.span.end t [] h.next.faults) (a.at.reads ∙ a.text_is)
      (subst (λ (v : ℕ). Given division cut p.lexer.goal p.lexer.text v t [] h.next.faults) a.at.last h.next.outcome)

  pub given_behind : {A : Type 0} → ((d : Diagnostic) → t.kind ≡ Undetermined → GivesNone division p.lexer.goal text p.token.span.end t d → A) → (GivesLexeme division cut text p.token.span.end t → A) → A
  given_behind {A} n g = go (same_kind Undetermined t.kind) refl behind_it
    where
      go : (r : Bool) → same_kind Undetermined t.kind ≡ r → elim r as (λ _. Type 0) [ true ↦ (d : Diagnostic) × (h.next.faults ≡ d ∷ []) × GivesNone division p.lexer.goal text p.token.span.end t d | false ↦ (h.next.faults ≡ []) × GivesLexeme division cut text p.token.span.end t ] → A
      go true q x = n x.0 (sym (kind_of_same Undetermined t.kind q)) x.2
      go false q x = g x.1

  -- `function` is told where it stands
  pub function_peeked : (y : Lexeme) → Lex text p.token.span.end y → y.kind ≡ Function → Tells y t
  function_peeked y l k = given_behind
      (λ d u n. absurd (n.none y (record { lex = l.0; of_goal = plainly l.0 l.1 (ap (one_of_kinds other_goals) k) })))
      (λ x.
      let e : y ≡ x.lexeme = one_plain l (ap (one_of_kinds other_goals) k) x in
      let i : is_right_angle x.lexeme.kind ≡ false = ap is_right_angle (ap (λ (z : Lexeme). z.kind) (sym e) ∙ k) in
      subst (λ (z : Lexeme). Tells z t) (cut_same x.lexeme i ∙ sym e) x.tells)

  pub function_told : t.kind ≡ Function → t.escaped ≡ false → t.is_on_new_line ≡ false → (y : Lexeme) × Lex text p.token.span.end y × (y.kind ≡ Function) × (y.escaped ≡ false) × (y.newline ≡ false)
  function_told k e w = given_behind (λ d u n. let w : Function ≡ Undetermined = sym k ∙ u in absurd (cc)) (λ x. by x (is_right_angle x.lexeme.kind) refl)
    where
      by : (x : GivesLexeme division cut text p.token.span.end t) → (b : Bool) → is_right_angle x.lexeme.kind ≡ b → (y : Lexeme) × Lex text p.token.span.end y × (y.kind ≡ Function) × (y.escaped ≡ false) × (y.newline ≡ false)
      by x true q = let w : RAngle ≡ Function = (let c : (cut x.lexeme).kind ≡ RAngle = rw (q, cut) refl in sym c ∙ (sym x.tells.kind ∙ k)) in absurd (cc)
      by x false q =
          let s : Tells x.lexeme t = subst (λ (z : Lexeme). Tells z t) (cut_same x.lexeme q) x.tells in
          (x.lexeme, (x.stands.lex, read_of x.lexeme (sym s.kind ∙ k) refl), sym s.kind ∙ k, sym s.escaped ∙ e, sym s.newline ∙ w)

-- what is peeked tells whether it does
pub next_told : {p : Parser} {t : Token} → Peeks p t → t.kind ≡ Function → t.escaped ≡ false → t.is_on_new_line ≡ false → FunctionNext p true
next_told h k e w text f a = function_told a h k e w

pub next_on_new_line : {p : Parser} {t : Token} → Peeks p t → t.is_on_new_line ≡ true → FunctionNext p false
next_on_new_line h w text f a y l k u n = false≢true (sym n ∙ (sym (function_peeked a h y l k).newline ∙ w))

pub next_escaped : {p : Parser} {t : Token} → Peeks p t → t.escaped ≡ true → FunctionNext p false
next_escaped h e text f a y l k u n = false≢true (sym u ∙ (sym (function_peeked a h y l k).escaped ∙ e))

pub next_other : {p : Parser} {t : Token} → Peeks p t → (t.kind ≡ Function → ⊥) → FunctionNext p false
next_other h o text f a y l k u n = o ((function_peeked a h y l k).kind ∙ k)

-- ---- a line

module _ {text : List ℕ} {f : Flags} {q : Parser} (b : At text f q) where
  pub same_line : q.token.is_on_new_line ≡ false → {X : Test} {g : G} → Goes rule (Lex text) X end (no_newline ▸ g) q.prev_token_end g q.prev_token_end (λ us. us) (still 0)
  same_line w = pass_over (looks (λ k w e. not w) (λ y l. ap not (newline_here b y l ∙ w)))

  pub no_same_line : {X : Test} {g : G} → q.token.is_on_new_line ≡ true → Fails rule (Lex text) X end (no_newline ▸ g) q.prev_token_end
  no_same_line w = part_fails {X' = plain full} (fails_look (λ k w e. not w) (λ y l h. false≢true (sym (ap not (newline_here b y l ∙ w)) ∙ h))) (record { admits = λ ts us vs j k ls mid rest d e h. (refl, refl) })

  -- `function` that stands there is told
  pub function_here : (y : Lexeme) → Lex text q.prev_token_end y → y.kind ≡ Function → Tells y q.token
  function_here y l k = go q.cut refl
    where
      go : (c : Bool) → q.cut ≡ c → Tells y q.token
      go true e = absurd (false≢true (sym (ap is_right_angle k) ∙ angled b e y l))
      go false e = told_plain b e y (ap (one_of_kinds other_goals) k) l

-- ---- parts

pub any_between : {a b : G} {s : ℕ} → Between rule (plain full) (plain full) end a b s
any_between = record { admits = λ ts us vs j k ls mid rest d e h. (refl, refl) }

-- a part of what is left, with something behind it
pub part_within : {text : List ℕ} {f : Flags} {a a' b : G} {p q : Parser} {ids js : List (Option NodeId)} → Partway text f a a' p q ids js → Partway text f (a ▸ b) (a' ▸ b) p q ids js
part_within x = record {
  at = x.at;
  same = x.same;
  further = x.further;
  slots = x.slots;
  puts = x.puts;
  pass = x.pass;
  walked = x.walked;
  verdict = verdict_of x.verdict (λ y. record { reach = y.reach; near = y.near; goes = part_by {X' = plain full} y.goes any_between }) (λ n. part_fails {X' = plain full} n any_between);
  holds = x.holds;
  keeps = x.keeps;
}

-- ---- what isn't derived

pub one_function : {text : List ℕ} {s : ℕ} {y z : Lexeme} → Lex text s y → y.kind ≡ Function → Lex text s z → z ≡ y
one_function {z = z} l k j =
    let w = plain_there j in
    let e = lex-same w.stands.lex l.0 (w.stands.of_goal ∙ sym (plainly l.0 l.1 (ap (one_of_kinds other_goals) k))) in
    elim w.which [
      | inl i ↦ sym i ∙ e
      | inr i ↦ absurd (false≢true (sym (ap (λ (y : Lexeme). one_of_kinds signs y.kind) e ∙ ap (one_of_kinds signs) k) ∙ signs_are z.kind w.lexeme.kind i.1))
    ]

module _ {text : List ℕ} {f : Flags} {p : Parser} (a : At text f p) where
  -- no name ends before `function` on its line
  pub no_reference : StandsHere p Async true → FunctionNext p true → Fails rule (Lex text) (after (at Primary f)) end (symbol IdentifierReference f) p.prev_token_end
  unfolding rule rule_of
  no_reference k n = record { no = λ ts vs j ls rest l d e. by ts vs l d e }
    where
      there : (y z : Lexeme) → Lex text p.prev_token_end y → Lex text y.to z → IsTrue (seen (widest Primary) z) → ⊥
      there y z l m e =
          let w = n text f a in
          let t = told a (uncut a (ap (same_kind RAngle) k.0)) (ap (one_of_kinds signs) k.0) y l in
          let i : z ≡ w.0 = one_function w.1 w.2 (subst (λ (u : ℕ). Lex text u z) (sym t.end) m) in
          false≢true (sym (ap (λ (v : Lexeme). seen (widest Primary) v) i ∙ rw (w.2, w.3, w.4) refl) ∙ e)

      within : (cs vs : Slots) {i j : ℕ} {ls rest : Lexemes} → Lexes (Lex text) p.prev_token_end ls → Takes rule (rule (at IdentifierReference f)) end cs i ls vs j rest → IsTrue (seen (widest Primary) (here rest)) → ⊥
      within cs vs l (is_node (is_lexeme {x = x} {ls = more} q)) e = there x (here more) l.0 (here_at (Lex text) more l.1) e

      by : (ts vs : Slots) {j : ℕ} {ls rest : Lexemes} → Lexes (Lex text) p.prev_token_end ls → Takes rule (symbol IdentifierReference f) end ts p.prev_token_end ls vs j rest → Admits (after (at Primary f)) ts (here rest) → ⊥
      by ts vs l (is_such d c) e = within _ _ l d e.0

  -- no asynchronous function begins here
  module _ {q : Parser} (s : StandsHere p Async false ⊎ FunctionNext p false) (m : Moved text f p q) where
    pub no_async : (g : G) → Fails rule (Lex text) (plain full) end ((tok Async ▸ no_newline) ▸ tok Function ▸ g) p.prev_token_end
    unfolding covers apart
    no_async g = by s
      where
        behind : FunctionNext p false → (w : Bool) → q.token.is_on_new_line ≡ w → Fails rule (Lex text) (plain full) end (no_newline ▸ tok Function ▸ g) q.prev_token_end
        behind n true w = no_same_line m.at w
        behind n false w = same_line m.at w ▹✗ part_fails {X' = plain full} (fails_lexeme (is Function) (λ y l h. let z = and_parts (same_kind Function y.kind) (not y.escaped) h in n text f a y (subst (λ (v : ℕ). Lex text v y) (sym (m.tells.end ∙ m.ends)) l) (sym (kind_of_same Function y.kind z.0)) (not-true y.escaped z.1) (newline_here m.at y l ∙ w))) any_between

        elsewhere : one_of_kinds (Async ∷ []) p.token.kind ≡ false → Fails rule (Lex text) (plain full) end ((tok Async ▸ no_newline) ▸ tok Function ▸ g) p.prev_token_end
        elsewhere k = part_fails {X' = plain full} (part_fails {X' = plain full} (fails_at a (tok Async) (Async ∷ []) refl k) any_between) any_between

        escaped : p.token.escaped ≡ true → Fails rule (Lex text) (plain full) end ((tok Async ▸ no_newline) ▸ tok Function ▸ g) p.prev_token_end
        escaped e = part_fails {X' = plain full} (part_fails {X' = plain full} (fails_unescaped (tok Async) a refl e) any_between) any_between

        at_async : FunctionNext p false → (b d : Bool) → p.token.escaped ≡ d → same_kind Async p.token.kind ≡ b → Fails rule (Lex text) (plain full) end ((tok Async ▸ no_newline) ▸ tok Function ▸ g) p.prev_token_end
        at_async n b true e k = escaped e
        at_async n true false e k = part_path_fails {ids = []} {js = []} (part_within (part_sign Async a (sym (kind_of_same Async p.token.kind k)) e refl m)) (behind n q.token.is_on_new_line refl)
        at_async n false false e k = elsewhere (ap (λ (b : Bool). b || false) k)

        unless_here : StandsHere p Async false → (d : Bool) → p.token.escaped ≡ d → Fails rule (Lex text) (plain full) end ((tok Async ▸ no_newline) ▸ tok Function ▸ g) p.prev_token_end
        unless_here n true e = escaped e
        unless_here n false e = elsewhere (other_kind Async p.token.kind (λ k. n k e))

        by : StandsHere p Async false ⊎ FunctionNext p false → Fails rule (Lex text) (plain full) end ((tok Async ▸ no_newline) ▸ tok Function ▸ g) p.prev_token_end
        by (inl n) = unless_here n p.token.escaped refl
        by (inr n) = at_async n (same_kind Async p.token.kind) p.token.escaped refl refl

    -- nor is a function expression derived at a name
    pub no_expression : one_of_kinds binding_identifier_kinds p.token.kind ≡ true → Fails rule (Lex text) (after (at Primary f)) end (symbol FuncExpr f) p.prev_token_end
    unfolding rule rule_of covers apart
    no_expression k = fails_rule {X' = plain full} (λ l cs vs y d. (refl, refl)) (fails_alt (fails_alt (plainly_none false) (plainly_none true)) (fails_alt (none_so false) (none_so true)))
      where
        plainly_none : (s : Bool) → Fails rule (Lex text) (plain full) end (function_line Expression false s f) p.prev_token_end
        plainly_none s = fails_node inside_full (done ▹✗ part_fails {X' = plain full} (fails_at a (tok Function) (Function ∷ []) refl (name_apart (Function ∷ []) refl p.token.kind k)) any_between)

        none_so : (s : Bool) → Fails rule (Lex text) (plain full) end (function_line Expression true s f) p.prev_token_end
        none_so s = fails_node inside_full (no_async _)

-- ---- what is answered of it

pub here_so : (p : Parser) (k : Kind) {r b : Bool} → r ≡ b → StandsHere p k r → StandsHere p k b
here_so p k e h = subst (λ (c : Bool). StandsHere p k c) e h

pub begins_there : {p : Parser} → StandsHere p Function true → FunctionHere p p true
begins_there h = (refl, inl h)

pub none_there : {p : Parser} → StandsHere p Function false → StandsHere p Async false → FunctionHere p p false
none_there n m = (refl, (n, inl m))

pub by_next : (p q : Parser) (r : Result Bool Stop) → StandsHere p Function false → StandsHere p Async true → MatchResult r (λ b. FunctionBehind p q b) OnlyMemory → MatchResult r (λ b. FunctionHere p q b) OnlyMemory
by_next p q (Ok true) n h x = (x.0, inr (h, x.1))
by_next p q (Ok false) n h x = (x.0, (n, inr x.1))
by_next p q (Err e) n h x = x

pub found_so : (p q : Parser) {r b : Bool} → r ≡ b → FunctionHere p q r → FunctionHere p q b
found_so p q e h = subst (λ (c : Bool). FunctionHere p q c) e h

pub begun_at : {p q : Parser} → FunctionHere p q true → BeginsFunction q
begun_at h = subst (λ (v : Parser). BeginsFunction v) (sym h.0) h.1
