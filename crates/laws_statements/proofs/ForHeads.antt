-- The heads of `for` statements, between their parentheses (ECMA-262, 14.7.4, 14.7.5).
use Rattle.std.proofs.Common.{ℕ, ◌≡◌, ◌<◌, ◌⊎◌, inl, inr, max, List, [], ◌∷◌, ◌++◌, length, Option, Some, None, Bool, true, false, IsTrue, refl, sym, ap, subst, arith, ◌∙◌, ◌||◌}
use Rattle.std.specs.Prelude.{Result, Ok, Err, ◌↔◌}
use Rattle.std.proofs.lemmas.Bool.{false≢true}
use Rattle.js_base.specs.declared.diagnostic.Diagnostic.{Diagnostic}
use Rattle.js_base.specs.declared.diagnostic.DiagnosticKind.TheVariants.{ExpectToken}
use Rattle.js_base.specs.declared.kind.Kind.{Kind}
use Rattle.js_base.specs.declared.kind.Kind.TheVariants as kind
use Rattle.js_base.specs.Kinds.{same_kind, one_of_kinds}
use Rattle.js_base.specs.Texts.{words}
use Rattle.js_base.proofs.KindLemmas.{kind_of_same}
use Rattle.js_grammar.specs.Trees.{Slots, append, end, hole, tree}
use Rattle.js_grammar.specs.Grammar.{Lexeme, Lexemes, next, here, seen, is, such, empty_slot, nothing, Takes, is_lexeme, is_seq, is_empty_slot, ◌▸◌}
use Rattle.js_grammar.specs.Lexed.{Lexes}
use Rattle.js_grammar.specs.Parsing.{Test, Admits, plain, full, always, passing, Goes, Fails}
use Rattle.js_grammar.specs.Productions.{G, Flags, Symbol, at, other, parens, slot, tok, Assignment, Expression, ForInit}
use Rattle.js_grammar.specs.Productions.{sym as symbol}
use Rattle.js_grammar.specs.Table.{rule}
use Rattle.js_grammar.specs.Follow.{after, surest}
use Rattle.js_grammar.proofs.Frame.{append_assoc}
use Rattle.js_grammar.proofs.Looks.{covers, covered, apart, not_both, same_self}
use Rattle.js_grammar.proofs.Calculus.{Between, On, ◌▹◌, ◌▹✗◌, here_at, left, right, then_by, part_fails, fails_alt, reads_empty_slot, weaken_fails_on, weaken_on}
use Rattle.js_grammar.specs.FirstSets.{first}
use Rattle.js_grammar.proofs.First.{starts, starting}
use Rattle.js_grammar.proofs.FirstClaims.{firsts}
use Rattle.js_grammar.proofs.FirstRules.{fails_here}
use Rattle.laws_shared.proofs.Here.{kind_here}
use Rattle.js_grammar.proofs.FollowLaws.{surely}
use Rattle.laws_shared.specs.js_tree.declared.id.NodeId.{NodeId}
use Rattle.laws_shared.specs.js_tree.Nodes.{Node}
use Rattle.laws_shared.specs.js_tree.Holding.{Holds, HoldsAll, Keeps}
use Rattle.laws_shared.proofs.js_tree.HoldingLemmas.{HoldsAll-next, HoldsAll-append, HoldsAll-one, HoldsAll-kept, HoldsAll-one_hole, Keeps-refl, Keeps-trans}
use Rattle.laws_shared.specs.js_lex.Reading.{is_right_angle}
use Rattle.laws_shared.specs.js_cursor.Moves.{Expects, IsKind}
use Rattle.laws_shared.specs.js_cursor.Parsers.{Parser}
use Rattle.laws_shared.specs.js_cursor.declared.stop.Stop.{Stop}
use Rattle.laws_shared.specs.Answers.{Grown, Numbered, Stops, Stretch, Underived, Verdict, clean}
use Rattle.laws_shared.specs.Lexemes.{Lex, nowhere, other_goals}
use Rattle.laws_shared.specs.Moves.{Moved}
use Rattle.laws_shared.specs.Stands.{StandsHere}
use Rattle.laws_shared.specs.States.{At}
use Rattle.laws_statements.specs.declared.forms.Ending.{Ending}
use Rattle.laws_statements.specs.declared.forms.Ending.TheVariants as ending
use Rattle.laws_statements.specs.ForHeads.{AtEnd, EndsPart, FirstTaken, HeadTaken, NoFirst, NoFirstPart, NoHead, NoParensHead, NoPart, NoRest, ParensHeadTaken, PartTaken, RestTaken, TakesFirst, TakesHead, TakesRest, behind_head, behind_rest, behind_slot, end_kind, first_part, head_part, rest_part}
use Rattle.laws_shared.proofs.Moving.{same_both, same_itself, stops_behind}
use Rattle.laws_shared.proofs.Paths.{Path, ◌⟶◌, ◌⟶✗◌, fails_at, last_called, last_token, skips, token, walked_both, walked_one}
use Rattle.laws_shared.proofs.Signs.{plain_sign, stands_not, none_seen}
use Rattle.laws_shared.proofs.Verdicts.{and_then, behind_none, either_way, grown_then, verdict_of}
use Rattle.laws_shared.proofs.Verdicts.{after as grown_behind}
use Rattle.laws_shared.proofs.Expected.{unexpected}
use Rattle.laws_statements.proofs.CompoundStatements.{no_token}

-- ---- which lexeme stands there

pub stands_either : (p : Parser) (k : Kind) → (StandsHere p k true) ⊎ (StandsHere p k false)
stands_either p k = by (same_kind k p.token.kind) refl p.token.escaped refl
  where
    by : (b : Bool) → same_kind k p.token.kind ≡ b → (c : Bool) → p.token.escaped ≡ c → (StandsHere p k true) ⊎ (StandsHere p k false)
    by true h false e = inl (sym (kind_of_same k p.token.kind h), e)
    by true h true e = inr (λ i j. false≢true (sym j ∙ e))
    by false h c e = inr (λ i j. false≢true (sym h ∙ (ap (same_kind k) i ∙ same_self k)))

-- one of the three at the most
pub apart_ends : (q : Parser) (e d : Ending) → (d ≡ e → ⊥) → StandsHere q (end_kind e) true → StandsHere q (end_kind d) false
apart_ends q ending.Semicolon ending.Semicolon n h = absurd (n refl)
apart_ends q ending.Semicolon ending.In n h = λ k i. let w : kind.Semicolon ≡ kind.In = sym h.0 ∙ k in cc
apart_ends q ending.Semicolon ending.Of n h = λ k i. let w : kind.Semicolon ≡ kind.Of = sym h.0 ∙ k in cc
apart_ends q ending.In ending.Semicolon n h = λ k i. let w : kind.In ≡ kind.Semicolon = sym h.0 ∙ k in cc
apart_ends q ending.In ending.In n h = absurd (n refl)
apart_ends q ending.In ending.Of n h = λ k i. let w : kind.In ≡ kind.Of = sym h.0 ∙ k in cc
apart_ends q ending.Of ending.Semicolon n h = λ k i. let w : kind.Of ≡ kind.Semicolon = sym h.0 ∙ k in cc
apart_ends q ending.Of ending.In n h = λ k i. let w : kind.Of ≡ kind.In = sym h.0 ∙ k in cc
apart_ends q ending.Of ending.Of n h = absurd (n refl)

-- the same one, or another
pub which : (e d : Ending) → (d ≡ e) ⊎ (d ≡ e → ⊥)
which ending.Semicolon ending.Semicolon = inl refl
which ending.Semicolon ending.In = inr (λ k. cc)
which ending.Semicolon ending.Of = inr (λ k. cc)
which ending.In ending.Semicolon = inr (λ k. cc)
which ending.In ending.In = inl refl
which ending.In ending.Of = inr (λ k. cc)
which ending.Of ending.Semicolon = inr (λ k. cc)
which ending.Of ending.In = inr (λ k. cc)
which ending.Of ending.Of = inl refl

-- ---- between the parts

-- what stands behind the first part is what ends it
pub first_between : (w : Bool) (e : Ending) (f : Flags) (X : Test) (s : ℕ) → Between rule X (plain (is (end_kind e))) end (first_part w e f) (rest_part e f) s
first_between w e f X s = record { admits = λ ts us vs j k ls mid rest d d' h. (go e d', refl) }
  where
    go : (e : Ending) {us vs : Slots} {j k : ℕ} {mid rest : Lexemes} → Takes rule (rest_part e f) end us j mid vs k rest → IsTrue (seen (is (end_kind e)) (here mid))
    go ending.Semicolon (is_seq (is_lexeme q) d) = q
    go ending.In (is_seq (is_lexeme q) d) = q
    go ending.Of (is_seq (is_lexeme q) d) = q

token_between : (k : Kind) (X : Test) (a b : G) (s : ℕ) → Between rule X (plain (is k)) end a (tok k ▸ b) s
token_between k X a b s = record { admits = λ ts us vs j n ls mid rest d d' h. (go d', refl) }
  where
    go : {us vs : Slots} {j n : ℕ} {mid rest : Lexemes} → Takes rule (tok k ▸ b) end us j mid vs n rest → IsTrue (seen (is k) (here mid))
    go (is_seq (is_lexeme q) d) = q

pub last_between : (k : Kind) (X : Test) (a : G) (s : ℕ) → Between rule X (plain (is k)) end a (tok k) s
last_between k X a s = record { admits = λ ts us vs j n ls mid rest d d' h. (go d', refl) }
  where
    go : {us vs : Slots} {j n : ℕ} {mid rest : Lexemes} → Takes rule (tok k) end us j mid vs n rest → IsTrue (seen (is k) (here mid))
    go (is_lexeme q) = q

-- none before that lexeme is none with it
pub no_first_part : {text : List ℕ} {s : ℕ} (f : Flags) (w : Bool) (e : Ending) → NoFirst text w e f s → NoFirstPart text w e f s
no_first_part {s = s} f w e n = part_fails n (last_between (end_kind e) _ (first_part w e f) s)

-- `=>` doesn't begin what stands behind it
abbrev behind_end : Ending → Flags → G
behind_end ending.Semicolon f = slot (symbol Expression f) ▸ tok kind.Semicolon ▸ slot (symbol Expression f)
behind_end ending.In f = symbol Expression f
behind_end ending.Of f = symbol Assignment f

no_arrow_behind : (e : Ending) (f : Flags) → covers (starts first (behind_end e f) (is kind.RParen)) (other (λ k n e. same_kind kind.Arrow k)) ≡ true
unfolding covers
no_arrow_behind ending.Semicolon f = refl
no_arrow_behind ending.In f = refl
no_arrow_behind ending.Of f = refl

-- so no head is derived there
pub no_head_from : {text : List ℕ} {s : ℕ} (f : Flags) (w : Bool) (e : Ending) → NoFirstPart text w e f s → NoHead text w e f s
no_head_from {text} {s} f w e n = record { no = λ ts vs k ls rest l d h. go e n ts vs k ls rest l d h }
  where
    behind : (e : Ending) {ts vs : Slots} {j k : ℕ} {mid rest : Lexemes} → Takes rule (behind_end e f) end ts j mid vs k rest → IsTrue (seen (is kind.RParen) (here rest)) → IsTrue (seen (other (λ k n e. same_kind kind.Arrow k)) (here mid))
    behind e {mid = mid} d h = covered (starts first (behind_end e f) (is kind.RParen)) (other (λ k n e. same_kind kind.Arrow k)) (no_arrow_behind e f) (here mid).kind (here mid).newline (here mid).escaped (starting firsts (is kind.RParen) d h)

    go : (e : Ending) → NoFirstPart text w e f s → (ts vs : Slots) (k : ℕ) (ls rest : Lexemes) → Lexes (Lex text) s ls → Takes rule (head_part w e f) end ts s ls vs k rest → Admits (plain (is kind.RParen)) ts (here rest) → ⊥
    go ending.Semicolon n ts vs k ls rest l (is_seq d (is_seq {us = us} {j = j} {mid = mid} c b)) h = n.no ts us j ls mid l (is_seq d c) (behind ending.Semicolon b h.0, refl)
    go ending.In n ts vs k ls rest l (is_seq d (is_seq {us = us} {j = j} {mid = mid} c b)) h = n.no ts us j ls mid l (is_seq d c) (behind ending.In b h.0, refl)
    go ending.Of n ts vs k ls rest l (is_seq d (is_seq {us = us} {j = j} {mid = mid} c b)) h = n.no ts us j ls mid l (is_seq d c) (behind ending.Of b h.0, refl)

-- before these an expression ends
paren_ends : covers (is kind.RParen) (surest Expression) ≡ true
unfolding covers
paren_ends = refl

semicolon_ends : covers (is kind.Semicolon) (surest Expression) ≡ true
unfolding covers
semicolon_ends = refl

paren_ends_value : covers (is kind.RParen) (surest Assignment) ≡ true
unfolding covers
paren_ends_value = refl

on_end : (k : Kind) (n : Symbol) → covers (is k) (surest n.name) ≡ true → {s : ℕ} → On rule (plain (is k)) (after n) end (such n always) s
on_end k n c = record { admits = λ ts vs j ls rest d e. (surely n).admits ts (here rest) (covered (is k) (surest n.name) c (here rest).kind (here rest).newline (here rest).escaped e.0) }

pub on_semicolon : {f : Flags} {s : ℕ} → On rule (plain (is kind.Semicolon)) (after (at Expression f)) end (symbol Expression f) s
on_semicolon {f} = on_end kind.Semicolon (at Expression f) semicolon_ends

-- ---- a later part

part_ends : (k : Kind) → EndsPart k → covers (is k) (surest Expression) ≡ true
part_ends k (inl e) = subst (λ (v : Kind). covers (is v) (surest Expression) ≡ true) (sym e) semicolon_ends
part_ends k (inr e) = subst (λ (v : Kind). covers (is v) (surest Expression) ≡ true) (sym e) paren_ends

-- what begins neither with a semicolon nor with a parenthesis that closes
pub record BeginsElse (g : G) : Type 0 where
  pub semicolon : apart (starts first g (plain full).base) (λ k w e. same_kind kind.Semicolon k) ≡ true
  pub paren : apart (starts first g (plain full).base) (λ k w e. same_kind kind.RParen k) ≡ true

an_expression_begins : (f : Flags) → BeginsElse (symbol Expression f)
unfolding covers apart
an_expression_begins f = record { semicolon = refl; paren = refl }

init_begins : (f : Flags) → BeginsElse (symbol ForInit f)
unfolding covers apart
init_begins f = record { semicolon = refl; paren = refl }

in_begins : (w : Bool) (f : Flags) → BeginsElse (first_part w ending.In f)
unfolding covers apart
in_begins w f = record { semicolon = refl; paren = refl }

of_begins : (w : Bool) (f : Flags) → BeginsElse (first_part w ending.Of f)
unfolding covers apart
of_begins true f = record { semicolon = refl; paren = refl }
of_begins false f = record { semicolon = refl; paren = refl }

-- none, where one of them stands
module _ {text : List ℕ} {f : Flags} {p : Parser} (a : At text f p) where
  none_at_end : {g : G} → BeginsElse g → (k : Kind) → EndsPart k → p.token.kind ≡ k → {X : Test} → Fails rule (Lex text) X end g p.prev_token_end
  none_at_end {g} b k h e = weaken_fails_on {X = plain full} (fails_here firsts (λ y l s. by h y l s)) (record { admits = λ ts vs k ls rest d e. (refl, refl) })
    where
      by : EndsPart k → (y : Lexeme) → Lex text p.prev_token_end y → IsTrue (seen (starts first g (plain full).base) y) → ⊥
      by (inl i) y l s = not_both (starts first g (plain full).base) (λ k w e. same_kind kind.Semicolon k) b.semicolon y.kind y.newline y.escaped s (ap (same_kind kind.Semicolon) (kind_here a (e ∙ i) refl y l))
      by (inr i) y l s = not_both (starts first g (plain full).base) (λ k w e. same_kind kind.RParen k) b.paren y.kind y.newline y.escaped s (ap (same_kind kind.RParen) (kind_here a (e ∙ i) refl y l))

  pub part_none : (k j : Kind) → EndsPart j → p.token.kind ≡ j → PartTaken text f k p p None
  part_none k j h e = record {
    at = a;
    same = same_itself;
    forward = omega arith;
    slots = hole;
    puts = λ us. refl;
    strips = λ us. refl;
    pass = λ ls. ls;
    walked = nowhere;
    verdict = clean refl (record { reach = max 0 0; near = omega arith; goes = right (none_at_end (an_expression_begins f) j h e) ▹ reads_empty_slot });
    held = HoldsAll-one_hole p.nodes (length p.nodes) (length p.nodes) (omega arith);
    keeps = Keeps-refl p.nodes;
  }

  -- its end doesn't stand here
  pub no_empty : (k : Kind) → EndsPart k → (p.token.kind ≡ k → ⊥) → Fails rule (Lex text) (plain (is k)) end empty_slot p.prev_token_end
  no_empty k h n = record { no = λ ts vs j ls rest l d e. go l d e.0 }
    where
      go : {ts vs : Slots} {j : ℕ} {ls rest : Lexemes} → Lexes (Lex text) p.prev_token_end ls → Takes rule empty_slot end ts p.prev_token_end ls vs j rest → IsTrue (seen (is k) (here rest)) → ⊥
      go {ls = ls} l is_empty_slot q = none_seen (stands_not a (angle h) (λ i j. n i)) (here ls) (here_at (Lex text) ls l) q
        where
          angle : EndsPart k → (is_right_angle k || one_of_kinds other_goals k) ≡ false
          angle (inl i) = ap (λ (v : Kind). is_right_angle v || one_of_kinds other_goals v) i
          angle (inr i) = ap (λ (v : Kind). is_right_angle v || one_of_kinds other_goals v) i

  pub part_unread : (k : Kind) → EndsPart k → (p.token.kind ≡ k → ⊥) → Underived text (at Expression f) p.prev_token_end → NoPart text k f p.prev_token_end
  part_unread k h n z = fails_alt (weaken_fails_on z (on_end k (at Expression f) (part_ends k h))) (no_empty k h n)

  pub part_some : (k : Kind) → EndsPart k → (p.token.kind ≡ k → ⊥) → {q : Parser} {id : NodeId} → Numbered text f (at Expression f) p q id → PartTaken text f k p q (Some id)
  part_some k h n {q} {id} x = record {
    at = x.answer.at;
    same = x.answer.same;
    forward = let i = x.answer.further in let j = a.behind in omega arith;
    slots = tree x.answer.label x.answer.slots;
    puts = λ us. refl;
    strips = λ us. refl;
    pass = x.answer.pass;
    walked = x.answer.walked;
    verdict = verdict_of x.answer.verdict
        (λ y. record { reach = max 0 y.reach; near = let i = y.near in omega arith; goes = left (no_empty k h n) ▹ weaken_on y.goes (on_end k (at Expression f) (part_ends k h)) })
        (λ z. fails_alt (weaken_fails_on z (on_end k (at Expression f) (part_ends k h))) (no_empty k h n));
    held = HoldsAll-one id x.holds;
    keeps = x.keeps;
  }

-- no first part, where one of them stands
pub none_first : {text : List ℕ} {f : Flags} {p : Parser} → At text f p → (w : Bool) (j : Kind) → EndsPart j → p.token.kind ≡ j → FirstTaken text f w p p None
unfolding words
none_first {text} {f} {p} a w j h e = record {
  at = a;
  same = same_itself;
  forward = omega arith;
  begins = omega arith;
  slots = hole;
  puts = λ us. refl;
  strips = λ us. refl;
  pass = λ ls. ls;
  walked = nowhere;
  read = λ d s. reads d s;
  none = λ d s. fails d s;
  kept = λ ds g. g;
  held = HoldsAll-one_hole p.nodes (length p.nodes) (length p.nodes) (omega arith);
  keeps = Keeps-refl p.nodes;
}
  where
    apart_from : (u : Kind) → EndsPart j → (u ≡ kind.Semicolon → ⊥) → (u ≡ kind.RParen → ⊥) → p.token.kind ≡ u → ⊥
    apart_from u (inl i) n m k = n (sym k ∙ (e ∙ i))
    apart_from u (inr i) n m k = m (sym k ∙ (e ∙ i))

    plain_here : EndsPart j → p.token.escaped ≡ false
    plain_here (inl i) = plain_sign kind.Semicolon a (e ∙ i) refl refl refl
    plain_here (inr i) = plain_sign kind.RParen a (e ∙ i) refl refl refl

    reads : (d : Ending) → StandsHere p (end_kind d) true → Verdict (f.wide ≡ true) p.errors p.errors (Stretch text (plain (is (end_kind d))) (first_part w d f) p.prev_token_end nothing p.prev_token_end hole (λ ls. ls)) (NoFirstPart text w d f p.prev_token_end)
    reads ending.Semicolon s = clean refl (record { reach = max 0 0; near = omega arith; goes = right (none_at_end a (init_begins f) j h e) ▹ reads_empty_slot })
    reads ending.In s = absurd (apart_from kind.In h (λ k. cc) (λ k. cc) s.0)
    reads ending.Of s = absurd (apart_from kind.Of h (λ k. cc) (λ k. cc) s.0)

    fails : (d : Ending) → StandsHere p (end_kind d) false → NoFirstPart text w d f p.prev_token_end
    fails ending.Semicolon s = no_first_part f w ending.Semicolon (fails_alt (none_at_end a (init_begins f) j h e) (no_empty a kind.Semicolon (inl refl) (λ k. s k (plain_here h))))
    fails ending.In s = no_first_part f w ending.In (none_at_end a (in_begins w f) j h e)
    fails ending.Of s = no_first_part f w ending.Of (none_at_end a (of_begins w f) j h e)

pub at_end_so : (k : Kind) (p : Parser) {b r : Bool} → r ≡ b → AtEnd k p r → AtEnd k p b
at_end_so k p e h = subst (λ (v : Bool). AtEnd k p v) e h

pub at_end_by : (k : Kind) (p : Parser) (b : Bool) → (p.token.kind ≡ k → ⊥) → IsTrue b ↔ (p.token.kind ≡ kind.RParen) → AtEnd k p b
at_end_by k p true n i = inr (i.0 refl)
at_end_by k p false n i = (n, λ e. false≢true (i.1 e))

pub part_empty : {text : List ℕ} {f : Flags} {p : Parser} → At text f p → (k : Kind) → EndsPart k → AtEnd k p true → PartTaken text f k p p None
part_empty a k h (inl e) = part_none a k k h e
part_empty a k h (inr e) = part_none a k kind.RParen (inr refl) e

pub first_empty : {text : List ℕ} {f : Flags} {p : Parser} → At text f p → (w : Bool) → AtEnd kind.Semicolon p true → FirstTaken text f w p p None
first_empty a w (inl e) = none_first a w kind.Semicolon (inl refl) e
first_empty a w (inr e) = none_first a w kind.RParen (inr refl) e

-- ---- the rest of the head

module _ {text : List ℕ} {f : Flags} {p : Parser} (a : At text f p) where
  pub rest_missing : (e : Ending) → StandsHere p (end_kind e) false → NoRest text e f p.prev_token_end
  rest_missing ending.Semicolon n = no_token a kind.Semicolon refl n
  rest_missing ending.In n = no_token a kind.In refl n
  rest_missing ending.Of n = no_token a kind.Of refl n

  pub rest_fails : (e : Ending) → StandsHere p (end_kind e) true → NoRest text e f p.prev_token_end → (d : Ending) → NoRest text d f p.prev_token_end
  rest_fails e h n d = elim (which e d) [
    | inl i ↦ subst (λ (v : Ending). NoRest text v f p.prev_token_end) (sym i) n
    | inr i ↦ rest_missing d (apart_ends p e d i h)
  ]

  -- neither `in` nor `of` stands here, nor a semicolon
  pub none_of_three : StandsHere p kind.In false → StandsHere p kind.Of false → StandsHere p kind.Semicolon false → (d : Ending) → NoRest text d f p.prev_token_end
  none_of_three i o s ending.Semicolon = rest_missing ending.Semicolon s
  none_of_three i o s ending.In = rest_missing ending.In i
  none_of_three i o s ending.Of = rest_missing ending.Of o

  pub semicolon_missing : (q : Parser) (x : Stop) → StandsHere p kind.In false → StandsHere p kind.Of false → Expects (IsKind kind.Semicolon) ExpectToken None p q (Err x) → Stops p q x ((d : Ending) → NoRest text d f p.prev_token_end)
  semicolon_missing q x i o e = unexpected a kind.Semicolon q x e (λ s d. none_of_three i o s d)

  -- a word and what stands behind it
  module _ {q : Parser} (m : Moved text f p q) where
    in_fails : StandsHere p kind.In true → Underived text (at Expression f) q.prev_token_end → NoRest text ending.In f p.prev_token_end
    in_fails h n = token kind.In a h.0 h.1 refl m ⟶✗ weaken_fails_on n (on_end kind.RParen (at Expression f) paren_ends)

    of_fails : StandsHere p kind.Of true → Underived text (at Assignment f) q.prev_token_end → NoRest text ending.Of f p.prev_token_end
    of_fails h n = token kind.Of a h.0 h.1 refl m ⟶✗ weaken_fails_on n (on_end kind.RParen (at Assignment f) paren_ends_value)

    pub in_stops : StandsHere p kind.In true → (v : Parser) (x : Stop) → Stops q v x (Underived text (at Expression f) q.prev_token_end) → Stops p v x ((d : Ending) → NoRest text d f p.prev_token_end)
    in_stops h v x s = stops_behind v x m.same (λ g. grown_then m.kept g) (λ n d. rest_fails ending.In h (in_fails h n) d) s

    pub of_stops : StandsHere p kind.Of true → (v : Parser) (x : Stop) → Stops q v x (Underived text (at Assignment f) q.prev_token_end) → Stops p v x ((d : Ending) → NoRest text d f p.prev_token_end)
    of_stops h v x s = stops_behind v x m.same (λ g. grown_then m.kept g) (λ n d. rest_fails ending.Of h (of_fails h n) d) s

    module _ {v : Parser} {ids js : List (Option NodeId)} {id : NodeId} (e : js ≡ ids ++ Some id ∷ []) where
      held_behind : {n : Symbol} (x : Numbered text f n q v id) (lo : ℕ) (us : Slots) → HoldsAll p.nodes lo (length p.nodes) ids us → HoldsAll v.nodes lo (length v.nodes) js (append us (tree x.answer.label x.answer.slots end))
      held_behind x lo us g =
          let k : Keeps p.nodes v.nodes = subst (λ (ns : List Node). Keeps ns v.nodes) m.nodes x.keeps in
          let h : Holds v.nodes (length p.nodes) (length v.nodes) id.0 x.answer.label x.answer.slots = subst (λ (ns : List Node). Holds v.nodes (length ns) (length v.nodes) id.0 x.answer.label x.answer.slots) m.nodes x.holds in
          subst (λ (is : List (Option NodeId)). HoldsAll v.nodes lo (length v.nodes) is (append us (tree x.answer.label x.answer.slots end))) (sym e) (HoldsAll-next id k g h)

      pub in_taken : StandsHere p kind.In true → Numbered text f (at Expression f) q v id → RestTaken text f ending.In p v ids js
      in_taken h x = record {
        here = h;
        same = same_both m.same x.answer.same;
        slots = tree x.answer.label x.answer.slots end;
        strips = λ us. refl;
        path = token kind.In a h.0 h.1 refl m ⟶ last_called x.answer (on_end kind.RParen (at Expression f) paren_ends);
        held = λ lo us g. held_behind x lo us g;
        keeps = subst (λ (ns : List Node). Keeps ns v.nodes) m.nodes x.keeps;
      }

      pub of_taken : StandsHere p kind.Of true → Numbered text f (at Assignment f) q v id → RestTaken text f ending.Of p v ids js
      of_taken h x = record {
        here = h;
        same = same_both m.same x.answer.same;
        slots = tree x.answer.label x.answer.slots end;
        strips = λ us. refl;
        path = token kind.Of a h.0 h.1 refl m ⟶ last_called x.answer (on_end kind.RParen (at Assignment f) paren_ends_value);
        held = λ lo us g. held_behind x lo us g;
        keeps = subst (λ (ns : List Node). Keeps ns v.nodes) m.nodes x.keeps;
      }

    -- ---- a semicolon, a part, a semicolon and a part
    module _ (k : IsKind kind.Semicolon p) where
      first_semicolon : {X : Test} {g : G} → Goes rule (Lex text) X end (tok kind.Semicolon ▸ g) p.prev_token_end g q.prev_token_end (λ us. us) (passing m.lexeme)
      first_semicolon = skips a kind.Semicolon k.0 k.1 refl m

      test_fails : NoPart text kind.Semicolon f q.prev_token_end → NoRest text ending.Semicolon f p.prev_token_end
      test_fails n = first_semicolon ▹✗ part_fails n (token_between kind.Semicolon _ _ _ q.prev_token_end)

      pub test_stops : (v : Parser) (x : Stop) → Stops q v x (NoPart text kind.Semicolon f q.prev_token_end) → Stops p v x ((d : Ending) → NoRest text d f p.prev_token_end)
      test_stops v x s = stops_behind v x m.same (λ g. grown_then m.kept g) (λ n d. rest_fails ending.Semicolon k (test_fails n) d) s

      module _ {r : Parser} {test : Option NodeId} (t : PartTaken text f kind.Semicolon q r test) where
        test_grown : {ds : List Diagnostic} → Grown r.errors ds → Grown p.errors ds
        test_grown g = grown_then m.kept (grown_behind t.verdict g)

        behind_test : {X : Test} {h : G} (y : Stretch text (plain (is kind.Semicolon)) (slot (symbol Expression f)) q.prev_token_end nothing r.prev_token_end t.slots t.pass) → Goes rule (Lex text) X end (slot (symbol Expression f) ▸ tok kind.Semicolon ▸ h) q.prev_token_end (tok kind.Semicolon ▸ h) r.prev_token_end t.slots (record { reach = y.reach; pass = t.pass })
        behind_test y = then_by y.goes (token_between kind.Semicolon _ _ _ q.prev_token_end)

        second_missing : StandsHere r kind.Semicolon false → NoRest text ending.Semicolon f p.prev_token_end
        second_missing n = either_way t.verdict (λ y. first_semicolon ▹✗ (behind_test y ▹✗ no_token t.at kind.Semicolon refl n)) (λ z. test_fails z)

        pub second_stops : (v : Parser) (x : Stop) → Expects (IsKind kind.Semicolon) ExpectToken None r v (Err x) → Stops p v x ((d : Ending) → NoRest text d f p.prev_token_end)
        second_stops v x e = stops_behind v x (same_both m.same t.same) (λ g. test_grown g) (λ n d. rest_fails ending.Semicolon k n d) (unexpected t.at kind.Semicolon v x e (λ n. second_missing n))

        module _ (l : IsKind kind.Semicolon r) {u : Parser} (o : Moved text f r u) where
          second_semicolon : {X : Test} {g : G} → Goes rule (Lex text) X end (tok kind.Semicolon ▸ g) r.prev_token_end g u.prev_token_end (λ us. us) (passing o.lexeme)
          second_semicolon = skips t.at kind.Semicolon l.0 l.1 refl o

          update_fails : NoPart text kind.RParen f u.prev_token_end → NoRest text ending.Semicolon f p.prev_token_end
          update_fails n = either_way t.verdict (λ y. first_semicolon ▹✗ (behind_test y ▹✗ (second_semicolon ▹✗ n))) (λ z. test_fails z)

          pub update_stops : (v : Parser) (x : Stop) → Stops u v x (NoPart text kind.RParen f u.prev_token_end) → Stops p v x ((d : Ending) → NoRest text d f p.prev_token_end)
          update_stops v x s = stops_behind v x (same_both m.same (same_both t.same o.same)) (λ g. test_grown (grown_then o.kept g)) (λ n d. rest_fails ending.Semicolon k (update_fails n) d) s

          module _ {v : Parser} {update : Option NodeId} (w : PartTaken text f kind.RParen u v update) where
            whole : Stretch text (plain (is kind.Semicolon)) (slot (symbol Expression f)) q.prev_token_end nothing r.prev_token_end t.slots t.pass → Stretch text (plain (is kind.RParen)) (slot (symbol Expression f)) u.prev_token_end nothing v.prev_token_end w.slots w.pass → Stretch text (plain (is kind.RParen)) (rest_part ending.Semicolon f) p.prev_token_end nothing v.prev_token_end (λ us. t.slots (w.slots us)) (λ ls. next m.lexeme (t.pass (next o.lexeme (w.pass ls))))
            whole y z = record {
              reach = max 0 (max y.reach (max 0 z.reach));
              near = let i = y.near in let j = z.near in let b = o.further in let c = t.at.behind in let d = w.forward in omega arith;
              goes = first_semicolon ▹ behind_test y ▹ second_semicolon ▹ z.goes;
            }

            semicolon_slots : Path text f (plain (is kind.RParen)) (rest_part ending.Semicolon f) p nothing v (λ us. t.slots (w.slots us))
            semicolon_slots = record {
              at = w.at;
              further = let b = m.further in let c = t.forward in let d = o.further in let e = t.at.behind in let g = w.forward in omega arith;
              pass = λ ls. next m.lexeme (t.pass (next o.lexeme (w.pass ls)));
              walked = walked_both (walked_one m) (walked_both t.walked (walked_both (walked_one o) w.walked));
              verdict = behind_none m.kept (and_then t.verdict (behind_none o.kept w.verdict) (λ y z. whole y z) (λ n. test_fails n) (λ y n. first_semicolon ▹✗ (behind_test y ▹✗ (second_semicolon ▹✗ n))));
            }

            abbrev both_slots : Slots
            both_slots = append (t.slots end) (w.slots end)

            slots_are : (us : Slots) → t.slots (w.slots us) ≡ append both_slots us
            slots_are us = t.puts (w.slots us) ∙ (ap (λ (z : Slots). append (t.slots end) z) (w.puts us) ∙ sym (append_assoc (t.slots end) (w.slots end) us))

            pub semicolons_taken : {ids hs js : List (Option NodeId)} → hs ≡ ids ++ test ∷ [] → js ≡ hs ++ update ∷ [] → RestTaken text f ending.Semicolon p v ids js
            semicolons_taken {ids} {hs} {js} e g = record {
              here = k;
              same = same_both m.same (same_both t.same (same_both o.same w.same));
              slots = both_slots;
              strips = λ us. ap (λ (z : Slots). behind_slot (behind_slot z)) (sym (slots_are us)) ∙ (ap behind_slot (t.strips (w.slots us)) ∙ w.strips us);
              path = subst (λ (h : Slots → Slots). Path text f (plain (is kind.RParen)) (rest_part ending.Semicolon f) p nothing v h) (λ i us. slots_are us i) semicolon_slots;
              held = λ lo us h. held_both lo us h;
              keeps = Keeps-trans kt kw;
            }
              where
                kt : Keeps p.nodes r.nodes
                kt = subst (λ (ns : List Node). Keeps ns r.nodes) m.nodes t.keeps

                kw : Keeps r.nodes v.nodes
                kw = subst (λ (ns : List Node). Keeps ns v.nodes) o.nodes w.keeps

                held_both : (lo : ℕ) (us : Slots) → HoldsAll p.nodes lo (length p.nodes) ids us → HoldsAll v.nodes lo (length v.nodes) js (append us both_slots)
                held_both lo us h =
                    let a1 : HoldsAll r.nodes (length p.nodes) (length r.nodes) (test ∷ []) (t.slots end) = subst (λ (ns : List Node). HoldsAll r.nodes (length ns) (length r.nodes) (test ∷ []) (t.slots end)) m.nodes t.held in
                    let a2 : HoldsAll v.nodes (length r.nodes) (length v.nodes) (update ∷ []) (w.slots end) = subst (λ (ns : List Node). HoldsAll v.nodes (length ns) (length v.nodes) (update ∷ []) (w.slots end)) o.nodes w.held in
                    let b1 : HoldsAll r.nodes lo (length r.nodes) hs (append us (t.slots end)) = subst (λ (xs : List (Option NodeId)). HoldsAll r.nodes lo (length r.nodes) xs (append us (t.slots end))) (sym e) (HoldsAll-append (HoldsAll-kept kt h) a1) in
                    let b2 : HoldsAll v.nodes lo (length v.nodes) js (append (append us (t.slots end)) (w.slots end)) = subst (λ (xs : List (Option NodeId)). HoldsAll v.nodes lo (length v.nodes) xs (append (append us (t.slots end)) (w.slots end))) (sym g) (HoldsAll-append (HoldsAll-kept kw b1) a2) in
                    subst (λ (z : Slots). HoldsAll v.nodes lo (length v.nodes) js z) (append_assoc us (t.slots end) (w.slots end)) b2

-- ---- the whole head

module _ {text : List ℕ} {f : Flags} {w : Bool} {p q : Parser} {first : Option NodeId} (x : FirstTaken text f w p q first) where
  pub no_head : (d : Ending) → NoRest text d f q.prev_token_end → NoHead text w d f p.prev_token_end
  no_head d n = elim (stands_either q (end_kind d)) [
    | inl h ↦ either_way (x.read d h) (λ y. then_by y.goes (first_between w d f _ p.prev_token_end) ▹✗ n) (λ z. no_head_from f w d z)
    | inr h ↦ no_head_from f w d (x.none d h)
  ]

  pub rest_stops : (v : Parser) (e : Stop) → Stops q v e ((d : Ending) → NoRest text d f q.prev_token_end) → Stops p v e ((d : Ending) → NoHead text w d f p.prev_token_end)
  rest_stops v e s = stops_behind v e x.same (λ g. x.kept _ g) (λ n d. no_head d (n d)) s

  module _ {v : Parser} {e : Ending} {js : List (Option NodeId)} (a : At text f p) (r : RestTaken text f e q v (first ∷ []) js) where
    head_slots : Path text f (plain (is kind.RParen)) (head_part w e f) p nothing v (λ us. x.slots (append r.slots us))
    head_slots = record {
      at = r.path.at;
      further = start_before;
      pass = λ ls. x.pass (r.path.pass ls);
      walked = walked_both x.walked r.path.walked;
      verdict = and_then (x.read e r.here) r.path.verdict
          (λ y z. record { reach = max y.reach z.reach; near = let i = y.near in let j = z.near in let k = r.path.further in let l = x.at.behind in omega arith; goes = then_by y.goes (first_between w e f _ p.prev_token_end) ▹ z.goes })
          (λ n. no_head_from f w e n)
          (λ y n. then_by y.goes (first_between w e f _ p.prev_token_end) ▹✗ n);
    }
      where
        start_before : p.token.span.start < v.prev_token_end
        start_before = let i = x.begins in let j = r.path.further in omega arith

    abbrev slots_there : Slots
    slots_there = append (x.slots end) r.slots

    slots_so : (us : Slots) → x.slots (append r.slots us) ≡ append slots_there us
    slots_so us = x.puts (append r.slots us) ∙ sym (append_assoc (x.slots end) r.slots us)

    strips_there : (e : Ending) {js : List (Option NodeId)} (r : RestTaken text f e q v (first ∷ []) js) (us : Slots) → behind_head e (append (append (x.slots end) r.slots) us) ≡ us
    strips_there ending.Semicolon r us = ap (behind_head ending.Semicolon) (append_assoc (x.slots end) r.slots us ∙ sym (x.puts (append r.slots us))) ∙ (ap (behind_rest ending.Semicolon) (x.strips (append r.slots us)) ∙ r.strips us)
    strips_there ending.In r us = ap (behind_head ending.In) (append_assoc (x.slots end) r.slots us ∙ sym (x.puts (append r.slots us))) ∙ (ap (behind_rest ending.In) (x.strips (append r.slots us)) ∙ r.strips us)
    strips_there ending.Of r us = ap (behind_head ending.Of) (append_assoc (x.slots end) r.slots us ∙ sym (x.puts (append r.slots us))) ∙ (ap (behind_rest ending.Of) (x.strips (append r.slots us)) ∙ r.strips us)

    pub head_taken : HeadTaken text f w e p v js
    head_taken = record {
      same = same_both x.same r.same;
      slots = slots_there;
      strips = λ us. strips_there e r us;
      path = subst (λ (h : Slots → Slots). Path text f (plain (is kind.RParen)) (head_part w e f) p nothing v h) (λ i us. slots_so us i) head_slots;
      others = λ d n. no_head d (rest_missing x.at d (apart_ends q e d n r.here));
      held = r.held (length p.nodes) (x.slots end) x.held;
      keeps = Keeps-trans x.keeps r.keeps;
    }

pub head_answers : {w : Bool} {p q : Parser} (v : Parser) {first : Option NodeId} (ids js : List (Option NodeId)) (r : Result Ending Stop) → ids ≡ first ∷ [] → TakesFirst w p q (Ok first) → TakesRest q v ids js r → TakesHead w p v js r
head_answers {p} {q} v {first} ids js (Ok e) i x y = λ text f a. let z = x text f a in head_taken z a (subst (λ (is : List (Option NodeId)). RestTaken text f e q v is js) i (y text f z.at))
head_answers {p} {q} v {first} ids js (Err s) i x y = λ text f a. let z = x text f a in rest_stops z v s (y text f z.at)

-- ---- in its parentheses

module _ {text : List ℕ} {f : Flags} (w : Bool) {p : Parser} (a : At text f p) where
  pub paren_missing : StandsHere p kind.LParen false → (d : Ending) → NoParensHead text w d f p.prev_token_end
  paren_missing n d = no_token a kind.LParen refl n

  module _ {q : Parser} (k : IsKind kind.LParen p) (m : Moved text f p q) where
    opened : {X : Test} (d : Ending) → Path text f X (parens (head_part w d f)) p (head_part w d f ▸ tok kind.RParen) q (λ us. us)
    opened d = token kind.LParen a k.0 k.1 refl m

    no_parens_head : (d : Ending) → NoHead text w d f q.prev_token_end → NoParensHead text w d f p.prev_token_end
    no_parens_head d n = opened d ⟶✗ part_fails n (last_between kind.RParen _ _ q.prev_token_end)

    pub head_stops : (v : Parser) (e : Stop) → Stops q v e ((d : Ending) → NoHead text w d f q.prev_token_end) → Stops p v e ((d : Ending) → NoParensHead text w d f p.prev_token_end)
    head_stops v e s = stops_behind v e m.same (λ g. grown_then m.kept g) (λ n d. no_parens_head d (n d)) s

    module _ {r : Parser} {e : Ending} {js : List (Option NodeId)} (x : HeadTaken text f w e q r js) where
      then_closed : {X : Test} → Path text f X (head_part w e f ▸ tok kind.RParen) q (tok kind.RParen) r (λ us. append x.slots us)
      then_closed = record {
        at = x.path.at;
        further = x.path.further;
        pass = x.path.pass;
        walked = x.path.walked;
        verdict = verdict_of x.path.verdict (λ y. record { reach = y.reach; near = y.near; goes = then_by y.goes (last_between kind.RParen _ _ q.prev_token_end) }) (λ n. part_fails n (last_between kind.RParen _ _ q.prev_token_end));
      }

      unclosed_head : one_of_kinds (kind.RParen ∷ []) r.token.kind ≡ false → NoParensHead text w e f p.prev_token_end
      unfolding covers apart
      unclosed_head n = opened e ⟶✗ (then_closed ⟶✗ fails_at x.path.at {X = plain full} (tok kind.RParen) (kind.RParen ∷ []) refl n)

      pub unclosed_all : one_of_kinds (kind.RParen ∷ []) r.token.kind ≡ false → (d : Ending) → NoParensHead text w d f p.prev_token_end
      unclosed_all n d = elim (which e d) [
        | inl i ↦ subst (λ (v : Ending). NoParensHead text w v f p.prev_token_end) (sym i) (unclosed_head n)
        | inr i ↦ no_parens_head d (x.others d i)
      ]

      pub head_grown : {ds : List Diagnostic} → Grown r.errors ds → Grown p.errors ds
      head_grown g = grown_then m.kept (grown_behind x.path.verdict g)

      pub parens_head : {u : Parser} → r.token.kind ≡ kind.RParen → Moved text f r u → ParensHeadTaken text f w e p u js
      unfolding words
      parens_head {u} c d = record {
        same = same_both m.same (same_both x.same d.same);
        slots = x.slots;
        strips = x.strips;
        path = opened e ⟶ (then_closed ⟶ last_token kind.RParen x.path.at c (plain_sign kind.RParen x.path.at c refl refl refl) refl d);
        others = λ i n. no_parens_head i (x.others i n);
        held = subst (λ (ns : List Node). HoldsAll ns (length p.nodes) (length ns) js x.slots) (sym d.nodes) (subst (λ (ns : List Node). HoldsAll r.nodes (length ns) (length r.nodes) js x.slots) m.nodes x.held);
        keeps = subst (λ (ns : List Node). Keeps p.nodes ns) (sym d.nodes) (subst (λ (ns : List Node). Keeps ns r.nodes) m.nodes x.keeps);
      }
