-- What the lexeme behind an opening parenthesis says of the head of an arrow function (ECMA-262, 15.3).
use Rattle.std.proofs.Common.{ℕ, ◌≡◌, Bool, List, Option, true, false, cond, IsTrue, None, Some, refl, sym, ap, subst, arith, ◌∙◌}
use Rattle.std.specs.Prelude.{Result, Ok, Err}
use Rattle.std.proofs.lemmas.Bool.{false≢true}
use Rattle.js_base.specs.declared.diagnostic.DiagnosticKind.TheVariants.{ExpectToken}
use Rattle.js_base.specs.declared.kind.Kind.{Kind}
use Rattle.js_base.specs.declared.kind.Kind.TheVariants.{Arrow, Dot3, Import, LParen, New, PrivateIdentifier, RAngle, RCurly, RParen, Slash, SlashEq, Super, Await}
use Rattle.js_base.specs.declared.token.Token.{Token}
use Rattle.js_base.specs.Kinds.{same_kind, one_of_kinds}
use Rattle.js_grammar.specs.Trees.{Slots, end, parenthesized_expression}
use Rattle.js_grammar.specs.Grammar.{Lexeme, Lexemes, Look, Takes, seen, such, marked, ◌▸◌, is_lexeme, is_seq}
use Rattle.js_grammar.specs.Lexed.{Lexes}
use Rattle.js_grammar.specs.Parsing.{Test, plain, full, always, Goes, Fails, still}
use Rattle.js_grammar.specs.Productions.{G, Flags, at, tok, mk, plus_in, with_pife, Assignment, Expression, Params, Primary, Short, Unary, Update}
use Rattle.js_grammar.specs.Table.{rule, rule_of}
use Rattle.js_grammar.specs.FirstSets.{first}
use Rattle.js_grammar.specs.Follow.{after}
use Rattle.js_grammar.proofs.Calculus.{◌▹✗◌, fails_node, inside_full}
use Rattle.js_grammar.proofs.First.{starts}
use Rattle.js_grammar.proofs.FirstClaims.{firsts}
use Rattle.js_grammar.proofs.FirstRules.{fails_here}
use Rattle.js_grammar.proofs.FollowLaws.{fails_by}
use Rattle.js_grammar.proofs.Looks.{covers, apart, not_both}
use Rattle.laws_shared.specs.js_tree.declared.id.NodeId.{NodeId}
use Rattle.laws_shared.specs.js_cursor.Moves.{GivesUp, IsHere, Peeks}
use Rattle.laws_shared.specs.js_cursor.Notes.{Notes, closing_known, is_place}
use Rattle.laws_shared.specs.js_cursor.Parsers.{Parser}
use Rattle.laws_shared.specs.js_cursor.declared.stop.Stop.{Stop}
use Rattle.laws_patterns.proofs.laws_primary.Links.{no_lhs_here}
use Rattle.laws_patterns.proofs.laws_primary.Members.{no_head, no_import_here}
use Rattle.laws_shared.specs.Answers.{Answers, Stops, Underived}
use Rattle.laws_shared.specs.Heads.{NoHead, OnlyArrow}
use Rattle.laws_shared.specs.Lexemes.{Lex, signs}
use Rattle.laws_shared.specs.Operators.{unary_kinds}
use Rattle.laws_shared.specs.Stands.{StandsHere}
use Rattle.laws_shared.specs.States.{At, Standing}
use Rattle.laws_shared.proofs.Classes.{here_ends}
use Rattle.laws_shared.proofs.Giving.{gives_up}
use Rattle.laws_shared.proofs.Here.{told, uncut, unsettled}
use Rattle.laws_shared.proofs.Moving.{stops_behind, stops_so}
use Rattle.laws_shared.proofs.Paths.{at_kind}
use Rattle.laws_shared.proofs.Phrases.{no_operator, lift_fails}
use Rattle.laws_shared.proofs.Verdicts.{after as grown_behind}
use Rattle.laws_patterns.specs.Parameters.{parameters_left}
use Rattle.laws_patterns.proofs.ParameterLists.{no_params}
use Rattle.laws_patterns.proofs.Peeks.{peeked_kind}
use Rattle.laws_operators.specs.Arrows.{IsHeadHere, NoLineHere, NoAssignment, SearchesPlainHead, Unmoved, NoOperandHere}
use Rattle.laws_operators.specs.Lookaheads.{begins_operand, LooksAhead, NoHeadThere}
use Rattle.laws_operators.specs.declared.forms.HeadLookahead.{HeadLookahead}
use Rattle.laws_operators.specs.declared.forms.HeadLookahead.TheVariants as lookahead
use Rattle.laws_operators.specs.Rests.{update_kinds}
use Rattle.laws_operators.proofs.Arrows.{certain_head, from_unmoved, no_head_no_line, no_parameters, unarrowed, unassigned}
use Rattle.laws_operators.proofs.Coalescing.{no_short}
use Rattle.laws_operators.proofs.Exponents.{power_none}
use Rattle.laws_operators.proofs.NotedClosings.{noted_false, noted_true}
use Rattle.laws_operators.proofs.NotedHeads.{there_too}
use Rattle.laws_operators.proofs.Operations.{fails_at_level, no_private}
use Rattle.laws_operators.proofs.SlashedHeads.{found_there, only_no_operand}
use Rattle.laws_operators.proofs.Updates.{nothing_read}

-- nothing that may begin what is due behind a parenthesis stands there
behind_paren : {text : List ℕ} {f : Flags} {p : Parser} {X : Test} {g : G} → At text f p → p.token.kind ≡ LParen → ((y : Lexeme) → Lex text p.token.span.end y → IsTrue (seen (starts first g (plain full).base) y) → ⊥) → Fails rule (Lex text) X end (tok LParen ▸ g) p.prev_token_end
behind_paren {text} {f} {p} {X} {g} a k n = record { no = λ ts vs j ls rest l d e. go ts vs j ls rest l d }
  where
    go : (ts vs : Slots) (j : ℕ) (ls rest : Lexemes) → Lexes (Lex text) p.prev_token_end ls → Takes rule (tok LParen ▸ g) end ts p.prev_token_end ls vs j rest → ⊥
    go ts vs j ls rest l (is_seq (is_lexeme {x = x} {ls = mid} q) d) =
        let e : p.token.span.end ≡ x.to = (told a (uncut a (ap (same_kind RAngle) k)) (ap (one_of_kinds signs) k) x l.0).end in
        let z : Fails rule (Lex text) (plain full) end g x.to = fails_here firsts {X = plain full} (λ y i s. n y (subst (λ (v : ℕ). Lex text v y) (sym e) i) s) in
        z.no ts vs j mid rest l.1 d (refl, refl)

-- ---- no operand

abbrev inner : Flags → G
inner f = marked with_pife (at Expression (plus_in f))

abbrev is_dots : Look
is_dots k w e = same_kind Dot3 k

no_dots : (f : Flags) → apart (starts first (inner f ▸ tok RParen) (plain full).base) is_dots ≡ true
unfolding covers apart
no_dots f = refl

module _ {text : List ℕ} {f : Flags} {p : Parser} (a : At text f p) (k : p.token.kind ≡ LParen) where
  paren_alone : Goes rule (Lex text) (after (at Primary f)) end (rule (at Primary f)) p.prev_token_end (mk parenthesized_expression (tok LParen ▸ inner f ▸ tok RParen)) p.prev_token_end (λ us. us) (still 0)
  unfolding rule rule_of covers
  paren_alone = at_kind a LParen k refl

  no_unary : Goes rule (Lex text) (after (at Unary f)) end (rule (at Unary f)) p.prev_token_end (such (at Update f) always) p.prev_token_end (λ us. us) (still 0)
  no_unary = no_operator a (ap (one_of_kinds unary_kinds) k) (λ e. let q : LParen ≡ Await = sym k ∙ e in absurd (cc))

  -- `...` stands behind the parenthesis
  module _ (n : (y : Lexeme) → Lex text p.token.span.end y → y.kind ≡ Dot3) where
    no_primary : Underived text (at Primary f) p.prev_token_end
    no_primary = fails_by (paren_alone ▹✗ fails_node inside_full (behind_paren a k (λ y l h. not_both (starts first (inner f ▸ tok RParen) (plain full).base) is_dots (no_dots f) y.kind y.newline y.escaped h (ap (same_kind Dot3) (n y l)))))

    other_word : StandsHere p Import false
    other_word z w = let q : LParen ≡ Import = sym k ∙ z in absurd (cc)

    no_update : Underived text (at Update f) p.prev_token_end
    no_update = nothing_read a (ap (one_of_kinds update_kinds) k) (no_lhs_here f (no_head a (λ z w. let q : LParen ≡ New = sym k ∙ z in absurd (cc)) (λ z w. let q : LParen ≡ Super = sym k ∙ z in absurd (cc)) other_word no_primary) (no_import_here a other_word))

    pub no_operand_begins : Underived text (at Short f) p.prev_token_end
    unfolding covers
    no_operand_begins = no_short f (fails_at_level 0 (omega arith) (no_private a (λ e. let q : LParen ≡ PrivateIdentifier = sym k ∙ e in absurd (cc))) (power_none text f p.prev_token_end (lift_fails (at Unary f) (at Update f) refl refl text p.prev_token_end no_unary no_update)))

-- ---- no head

abbrev is_operand : Look
is_operand k w e = begins_operand k

no_parameter : (f : Flags) → apart (starts first (parameters_left f) (plain full).base) is_operand ≡ true
unfolding covers apart
no_parameter f = refl

not_angle : (k : Kind) → begins_operand k ≡ true → one_of_kinds unsettled k ≡ false
not_angle RAngle h = absurd (false≢true h)
not_angle Slash h = absurd (false≢true h)
not_angle SlashEq h = absurd (false≢true h)
not_angle RCurly h = absurd (false≢true h)
not_angle _ h = refl

pub no_head_begins : {text : List ℕ} {f : Flags} (g : Flags) {p : Parser} {t : Token} → At text f p → p.token.kind ≡ LParen → Peeks p t → begins_operand t.kind ≡ true → Underived text (at Params g) p.prev_token_end
no_head_begins {text} {f} g {p} {t} a k h o = no_params g (behind_paren a k (λ y l s. not_both (starts first (parameters_left g) (plain full).base) is_operand (no_parameter g) y.kind y.newline y.escaped s (ap begins_operand (peeked_kind a h (not_angle t.kind o) y l) ∙ o)))

-- ---- what is answered

pub looks_head : {p : Parser} {t : Token} → Peeks p t → p.token.kind ≡ LParen → t.kind ≡ Dot3 → NoOperandHere p
looks_head {p} {t} h k d = λ text f a. no_operand_begins a k (λ y l. peeked_kind a h (ap (one_of_kinds unsettled) d) y l ∙ d)

pub looks_none : {p : Parser} {t : Token} → Peeks p t → p.token.kind ≡ LParen → begins_operand t.kind ≡ true → NoHeadThere p
looks_none h k o = λ text f g a. no_parameters a (no_head_begins g a k h o)

-- parameters where nothing else can stand
module _ {p : Parser} (k : p.token.kind ≡ LParen) (n : NoOperandHere p) where
  pub certain_read : {q : Parser} {id : NodeId} → Answers (at Params) p q (Ok id) → q.token.kind ≡ Arrow → IsHeadHere p q id
  certain_read x e = (e, (λ text f a. certain_head a k (n text f a) (x text f a)), n)

  pub certain_stops : (q : Parser) (e : Stop) → ((text : List ℕ) (f : Flags) → At text f p → Stops p q e (Underived text (at Params f) p.prev_token_end)) → NoAssignment p q e × NoOperandHere p
  certain_stops q e s = ((λ text f a. stops_so p q e (λ m. unassigned a k (no_parameters a m) (n text f a)) (s text f a)), n)

  pub arrow_missing : {q : Parser} {id : NodeId} (w : Parser) (e : Stop) → Answers (at Params) p q (Ok id) → (q.token.kind ≡ Arrow → ⊥) → GivesUp (IsHere ExpectToken q None) q w e → NoAssignment p w e × NoOperandHere p
  arrow_missing {q} w e x m g = (
    (λ text f a.
        let y = (x text f a).answer in
        stops_behind w e y.same (λ d. grown_behind y.verdict d) (λ z. z) (gives_up (IsHere ExpectToken q None) q w e y.at g (here_ends ExpectToken refl) (unassigned a k (unarrowed a y m) (n text f a)))),
    n,
  )

-- ---- by what is noted of the parenthesis that closes

pub known_true : (n : Notes) (s : ℕ) → closing_known n s ≡ Some true → is_place n.arrows s ≡ true
known_true n s e = go (is_place n.arrows s) (is_place n.others s) e
  where
    go : (a b : Bool) → cond a (Some true) (cond b (Some false) None) ≡ Some true → a ≡ true
    go true b e = refl
    go false true e = let i : false ≡ true = cc in absurd (false≢true i)
    go false false e = absurd (cc)

known_false : (n : Notes) (s : ℕ) → closing_known n s ≡ Some false → is_place n.others s ≡ true
known_false n s e = go (is_place n.arrows s) (is_place n.others s) e
  where
    go : (a b : Bool) → cond a (Some true) (cond b (Some false) None) ≡ Some false → b ≡ true
    go true b e = let i : true ≡ false = cc in absurd (false≢true (sym i))
    go false true e = refl
    go false false e = absurd (cc)

module _ {p q : Parser} {place : ℕ} (k : p.token.kind ≡ LParen) (u : Unmoved p q) (i : place ≡ p.prev_token_end) where
  pub looks_arrow : closing_known q.state place ≡ Some true → LooksAhead p q lookahead.Head
  looks_arrow e = (u, λ text f a. only_no_operand k a (subst (λ (s : ℕ). OnlyArrow text f s) i (noted_true (u.at text f a) (known_true q.state place e))))

  pub looks_no_arrow : closing_known q.state place ≡ Some false → LooksAhead p q lookahead.NoHead
  looks_no_arrow e = (u, λ text f g a. subst (λ (s : ℕ). NoHead text g s) i (noted_false g (u.at text f a) (known_false q.state place e)))

-- ---- what was seen

pub seen_so : (p q : Parser) {h j : HeadLookahead} → h ≡ j → LooksAhead p q h → LooksAhead p q j
seen_so p q e x = subst (λ (v : HeadLookahead). LooksAhead p q v) e x

pub looks_from : (p o q : Parser) (h : HeadLookahead) → o ≡ p → LooksAhead o q h → LooksAhead p q h
looks_from p o q h e x = subst (λ (z : Parser). LooksAhead z q h) e x

pub seen_unmoved : (p q : Parser) (h : HeadLookahead) → LooksAhead p q h → Unmoved p q
seen_unmoved p q lookahead.Head x = x.0
seen_unmoved p q lookahead.Maybe x = x
seen_unmoved p q lookahead.NoHead x = x.0

-- so no head stands here
pub none_read : {p q : Parser} → p.token.kind ≡ LParen → Unmoved p q × NoHeadThere p → Unmoved p q × NoLineHere p
none_read k x = (x.0, λ text f a. no_head_no_line a k (x.1 text f f a))

-- no operand stands where the parser is now
pub operand_there : {p q : Parser} → Standing p → Unmoved p q → NoOperandHere p → NoOperandHere q
operand_there a u n = there_too (λ text f s. Underived text (at Short f) s) a u n

pub searches_there : {p q : Parser} (w : Parser) (r : Result (Option NodeId) Stop) → Unmoved p q → NoOperandHere p → SearchesPlainHead q w r → SearchesPlainHead p w r
searches_there w (Ok found) u n x = found_there u w found x
searches_there w (Err e) u n x = ((λ text f a. from_unmoved text f (at Assignment f) w (Err e) u (x.0 text f (u.at text f a))), λ i. n)
