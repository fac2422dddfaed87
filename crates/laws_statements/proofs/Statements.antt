-- Statements, and the semicolons that end them or are left out.
use Rattle.laws_statements.specs.LetStatements.{behind_let, LetIsName}
use Rattle.laws_statements.proofs.WordLookaheads.{AsyncIsName, Leads, at_once, ◌⇒◌, ◌⇒✗◌, async_word, leads_to, let_word, name_in_body, not_followed}
use Rattle.std.proofs.Common.{ℕ, ◌≡◌, ◌≤◌, max, inl, inr, List, [], ◌∷◌, length, Bool, true, false, not, ◌&&◌, ◌||◌, IsTrue, Some, refl, sym, ap, subst, arith, ◌∙◌}
use Rattle.std.specs.Prelude.{◌↔◌, Result, Ok, Err, MatchResult}
use Rattle.js_base.specs.declared.token.Token.{Token}
use Rattle.std.proofs.lemmas.Bool.{false≢true, not-true, or_left, and_from, and_parts}
use Rattle.laws_operators.proofs.BinaryOperators.{different}
use Rattle.js_base.specs.declared.kind.Kind.{Kind}
use Rattle.js_base.specs.declared.kind.Kind.TheVariants.{Colon, Yield, Semicolon, RCurly, Eof, RAngle, LCurly, LBrack, At as at_sign, RegExp}
use Rattle.js_base.specs.declared.kind.Kind.TheVariants as kind
use Rattle.js_base.specs.declared.span.Span.{Span}
use Rattle.js_base.specs.Contexts.{has_flag, in_flag}
use Rattle.js_base.specs.Kinds.{same_kind, one_of_kinds}
use Rattle.js_base.specs.KindSets.{binding_identifier_kinds}
use Rattle.js_base.proofs.KindLemmas.{kind_of_same}
use Rattle.js_base.specs.Texts.{words}
use Rattle.js_grammar.specs.Words.{'let', 'const', 'async', 'function', 'class'}
use Rattle.js_grammar.specs.Trees.{Label, Slots, end, tree, no_op, function_declaration, variable_declaration, empty_statement, expression_statement, label_identifier}
use Rattle.js_grammar.specs.Grammar.{Lexeme, Lexemes, Look, here, seen, is, may_omit, alt, such, when, ended, semicolon, nothing, next, label_of, ◌▸◌, Takes, is_seq, is_lexeme, is_look, is_such, is_node, is_ended, commas}
use Rattle.js_grammar.specs.Insertion.{Row, after_expression, may_bind, goes_on, by_edge}
use Rattle.js_grammar.specs.Conditions.{ends_in_sub, lacks_else}
use Rattle.js_grammar.specs.Lexed.{Lexes}
use Rattle.js_grammar.specs.Lexemes.{is_escaped}
use Rattle.js_grammar.specs.Parsing.{Test, plain, behind, full, always, still, Goes, Fails, Admits}
use Rattle.js_grammar.specs.Productions.{G, Flags, Symbol, at, op as op_node, other, if_next, not_then, is_one_of, word_or, function_on_line, tok, ListItem, Block, Class, Empty, ExprStmt, Expression, Labeled, LabelIdentifier, Lexical, Sub, Break, Continue, Debugger, Do, For, ForIn, ForOf, If, Return, Switch, Throw, Try, Var, While, With}
use Rattle.js_grammar.specs.Productions.{BindingIdentifier}
use Rattle.js_grammar.specs.Productions.{Function as AFunction}
use Rattle.js_grammar.specs.Productions.{Statement as AStatement}
use Rattle.js_grammar.specs.Productions.{sym as symbol}
use Rattle.js_grammar.specs.Table.{rule, rule_of, function_of, identifier, declarator, declarators}
use Rattle.js_grammar.specs.Follow.{row_of, looser, after}
use Rattle.js_grammar.proofs.Looks.{covers, covered, apart, not_both}
use Rattle.js_grammar.proofs.Calculus.{◌▹◌, ◌▹✗◌, left, right, ends_by, by_omission, fails_ended, fails_semicolon, fails_rule, fails_node, fails_alt, inside_plain, here_at, passes_none, ends, closes, weaken_fails_on}
use Rattle.js_grammar.proofs.FollowLaws.{admits, expression_ended}
use Rattle.js_grammar.proofs.RightEdges.{at_row}
use Rattle.js_grammar.proofs.First.{starts, starting}
use Rattle.js_grammar.proofs.FirstClaims.{firsts}
use Rattle.js_grammar.proofs.FirstRules.{fails_here}
use Rattle.js_grammar.proofs.Finding.{either_of}
use Rattle.js_grammar.specs.FirstSets.{first}
use Rattle.laws_shared.specs.js_tree.declared.id.NodeId.{NodeId}
use Rattle.laws_shared.specs.js_tree.declared.kind.NodeKind.TheVariants as node
use Rattle.laws_shared.specs.js_tree.declared.op.Op.TheVariants as op
use Rattle.laws_shared.specs.js_tree.Nodes.{Node}
use Rattle.laws_shared.specs.js_tree.Holding.{Holds, Keeps}
use Rattle.laws_shared.proofs.js_tree.HoldingLemmas.{Keeps-refl, Keeps-trans, Keeps-made}
use Rattle.laws_shared.specs.js_cursor.Parsers.{Parser}
use Rattle.laws_shared.specs.js_cursor.Moves.{MayEnd, OnlyMemory, ends_statement}
use Rattle.laws_shared.specs.js_cursor.declared.stop.Stop.{Stop}
use Rattle.laws_shared.specs.js_cursor.declared.stop.Stop.TheVariants.{Fatal, NoMemory}
use Rattle.laws_shared.specs.Lexemes.{Lex, may_name, other_goals, signs_of, slashes, template_tails, Plain, keyword_kind, is_read_kind}
use Rattle.laws_shared.specs.States.{At, Same, NodesLie}
use Rattle.laws_shared.specs.Moves.{IsWholeHere, Moved, MadeHere, LeafTaken, TakesLeaf, plain_label, unpassable}
use Rattle.laws_shared.specs.Answers.{Underived, Answer, Numbered, beside}
use Rattle.laws_shared.specs.Statements.{placed, link_kinds, statement_kinds, no_link, after_statement, Closed, NoStatement, Statement, StatementOutcome, EndsStatement, NoEnd, IsLabel}
use Rattle.parse_declarations.specs.Declarations.{stops_row}
use Rattle.laws_shared.proofs.Verdicts.{verdict_of, either_way}
use Rattle.laws_shared.proofs.Moving.{moves, same_both, same_itself, same_with, beside_nodes}
use Rattle.laws_shared.proofs.NameKinds.{name_whole, names_at, test_named, name_test}
use Rattle.laws_shared.proofs.Here.{kind_here, newline_here, plain_token, told, uncut, unsettled, escaped_here}
use Rattle.laws_shared.proofs.Signs.{closing_there, other_kind}
use Rattle.laws_shared.proofs.Dead.{live, lives}
use Rattle.laws_shared.proofs.MadeNodes.{leaf_held, one_held, one_lies, LabelLies, from_start}
use Rattle.laws_shared.proofs.Paths.{begins_by, reads, Path, ◌⟼◌, ◌⟶◌, ◌⟶✗◌, at_kind, not_here, fails_at, last_token, noded, noded_by, by_symbol_as, label_here}
use Rattle.laws_shared.proofs.Escapes.{escapable_kinds, read_plain, keyword_plain, plain_or_escapable}
use Rattle.laws_shared.proofs.Tight.{plain_so}
use Rattle.laws_statements.proofs.Strings.{name_node, name_expression}
use Rattle.laws_shared.proofs.Giving.{fails_at_word}
use Rattle.laws_shared.proofs.Slashes.{sign_there}
use Rattle.parse_declarations.specs.laws_primary.declared.forms.FunctionForm.TheVariants.{Declaration}
use Rattle.parse_declarations.specs.laws_primary.Functions.{function_line}
use Rattle.parse_declarations.proofs.laws_primary.Functions.{none_left}
use Rattle.parse_declarations.proofs.laws_primary.Operands.{name_signless}

-- a path, and a choice at its end
infixl 19 ◌⟝◌
pub ◌⟝◌ : {text : List ℕ} {X : Test} {f : Flags} {g g' g'' : G} {p q : Parser} {h i : Slots → Slots} → Path text f X g p g' q h → Goes rule (Lex text) (behind X h) end g' q.prev_token_end g'' q.prev_token_end i (still 0) → Path text f X g p g'' q (λ us. h (i us))
a ⟝ b = record { at = a.at; further = a.further; pass = a.pass; walked = a.walked; verdict = verdict_of a.verdict (λ x. record { reach = max x.reach 0; near = let i = x.near in omega arith; goes = x.goes ▹ b }) (λ n. n) }

-- ---- semicolons

-- what goes on with no expression on a new line, and is no semicolon and no link: before it one may be left out
abbrev on_a_line : Row → Look
on_a_line r k w e = (not e || one_of_kinds escapable_kinds k) && ((looser 1 true r k w e || beside k w e) && (w && (not (one_of_kinds link_kinds k) && not (same_kind Semicolon k))))

line_omits : (r : Row) → covers (on_a_line r) (may_omit (goes_on r)) ≡ true
unfolding covers
line_omits r = at_row (λ r. covers (on_a_line r) (may_omit (goes_on r))) refl r

-- so behind what stops there
abbrev stops_on_line : Row → Look
stops_on_line r k w e = stops_row r k w e && (w && (not (one_of_kinds link_kinds k) && not (same_kind Semicolon k)))

stop_omits : (r : Row) → covers (stops_on_line r) (may_omit (goes_on r)) ≡ true
unfolding covers
stop_omits r = at_row (λ r. covers (stops_on_line r) (may_omit (goes_on r))) refl r

-- before these a statement ends, wherever they stand
abbrev pub closers : List Kind
closers = Semicolon ∷ RCurly ∷ Eof ∷ template_tails

abbrev pub closes_here : Look
closes_here k w e = one_of_kinds closers k

abbrev at_an_end : Look
at_an_end k w e = closes_here k w e && not (same_kind Semicolon k)

end_omits : (r : Row) → covers at_an_end (may_omit (goes_on r)) ≡ true
unfolding covers
end_omits r = at_row (λ r. covers at_an_end (may_omit (goes_on r))) refl r

abbrev may_close : Look
may_close k w e = ends_statement k

plain_closers_end : covers (λ k w e. closes_here k w e && not (one_of_kinds other_goals k)) may_close ≡ true
unfolding covers
plain_closers_end = refl

-- at a brace a part of a template may stand
a_brace_closes : covers (λ k w e. one_of_kinds (RCurly ∷ template_tails) k) closes_here ≡ true
unfolding covers
a_brace_closes = refl

settled_end : covers (λ k w e. may_close k w e && not (same_kind RCurly k)) (λ k w e. closes_here k w e && not (one_of_kinds unsettled k)) ≡ true
unfolding covers
settled_end = refl

abbrev pub closes_or_line : Look
closes_or_line k w e = one_of_kinds closers k || w

pub omitted_so : (p : Look) → covers (may_omit p) closes_or_line ≡ true
unfolding covers
omitted_so p = refl

abbrev angled : Look
angled k w e = one_of_kinds unsettled k

abbrev a_link : Look
a_link k w e = one_of_kinds link_kinds k

abbrev pub semicolon_look : Look
semicolon_look = is Semicolon

no_angled_link : apart a_link angled ≡ true
unfolding apart
no_angled_link = refl

pub semicolon_closes : covers semicolon_look closes_or_line ≡ true
unfolding covers
semicolon_closes = refl

no_linked_semicolon : apart a_link semicolon_look ≡ true
unfolding apart
no_linked_semicolon = refl

abbrev a_colon : Look
a_colon k w e = same_kind Colon k

no_coloned_semicolon : apart a_colon semicolon_look ≡ true
unfolding apart
no_coloned_semicolon = refl

-- one of the two signs that may stand at a regular expression, on a new line
abbrev slash_on_line : Look
slash_on_line k w e = one_of_kinds slashes k && (not e && w)

abbrev slash_is : Look
slash_is k w e = is_read_kind k && not (one_of_kinds other_goals k)

slash_read : covers (λ k w e. one_of_kinds slashes k) slash_is ≡ true
unfolding covers
slash_read = refl

abbrev a_part : Look
a_part k w e = one_of_kinds other_goals k && not (same_kind RegExp k)

part_omits : (r : Row) → covers a_part (may_omit (goes_on r)) ≡ true
unfolding covers
part_omits r = at_row (λ r. covers a_part (may_omit (goes_on r))) refl r

abbrev stays : Row → Look
stays r k w e = looser 1 true r k w e || beside k w e

abbrev pattern_omits : Row → Look
pattern_omits r k w e = may_omit (goes_on r) RegExp w e

slash_omits : (r : Row) → covers (λ k w e. slash_on_line k w e && stays r k w e) (pattern_omits r) ≡ true
unfolding covers
slash_omits r = at_row (λ r. covers (λ k w e. slash_on_line k w e && stays r k w e) (pattern_omits r)) refl r

slash_stops : (r : Row) → covers (λ k w e. slash_on_line k w e && stops_row r k w e) (pattern_omits r) ≡ true
unfolding covers
slash_stops r = at_row (λ r. covers (λ k w e. slash_on_line k w e && stops_row r k w e) (pattern_omits r)) refl r

module _ {text : List ℕ} {f : Flags} {q : Parser} (a : At text f q) where
  pub whole_semicolon : q.token.kind ≡ Semicolon → IsWholeHere q
  whole_semicolon e = (uncut a (ap (same_kind RAngle) e), ap unpassable e)

  plain_semicolon : {r : Parser} → q.token.kind ≡ Semicolon → (s : Moved text f q r) → q.token.escaped ≡ false
  unfolding words
  plain_semicolon e s = s.tells.escaped ∙ (s.stood.escaped ∙ ap (λ (k : Kind). is_escaped k s.stood.word) (sym s.tells.kind ∙ e))

  pub semicolon_path : {X : Test} {r : Parser} (p : Look) → q.token.kind ≡ Semicolon → Moved text f q r → Path text f X (semicolon p) q nothing r (λ us. us)
  unfolding covers
  semicolon_path p e s = at_kind a Semicolon e refl ⟼ last_token Semicolon a e (plain_semicolon e s) refl s

  -- where the token says that a statement may end, whichever lexeme stands there says so
  pub closer_here : ends_statement q.token.kind ≡ true → (y : Lexeme) → Lex text q.prev_token_end y → IsTrue (seen closes_here y)
  closer_here e y l = go (same_kind RCurly q.token.kind) refl
    where
      go : (b : Bool) → same_kind RCurly q.token.kind ≡ b → IsTrue (seen closes_here y)
      go true k = covered (λ k w e. one_of_kinds (RCurly ∷ template_tails) k) closes_here a_brace_closes y.kind y.newline y.escaped (closing_there a (sym (kind_of_same RCurly q.token.kind k)) y l).0
      go false k =
          let z = and_parts (one_of_kinds closers q.token.kind) _ (covered (λ k w e. may_close k w e && not (same_kind RCurly k)) (λ k w e. closes_here k w e && not (one_of_kinds unsettled k)) settled_end q.token.kind false false (and_from _ _ e (ap not k))) in
          subst (λ (k : Kind). one_of_kinds closers k ≡ true) (sym (kind_here a refl (not-true (one_of_kinds unsettled q.token.kind) z.1) y l)) z.0

  pub no_semicolon : (q.token.kind ≡ Semicolon → ⊥) → (y : Lexeme) → Lex text q.prev_token_end y → same_kind Semicolon y.kind ≡ false
  unfolding apart
  no_semicolon n y l = go (same_kind Semicolon y.kind) refl
    where
      go : (b : Bool) → same_kind Semicolon y.kind ≡ b → same_kind Semicolon y.kind ≡ false
      go true h = absurd (not_here a (Semicolon ∷ []) refl (other_kind Semicolon q.token.kind n) y l (rw h refl))
      go false h = h

  -- at a brace and at the end of the text
  pub omits_at_end : (r : Row) → ends_statement q.token.kind ≡ true → (q.token.kind ≡ Semicolon → ⊥) → (y : Lexeme) → Lex text q.prev_token_end y → IsTrue (seen (may_omit (goes_on r)) y)
  omits_at_end r e n y l = covered at_an_end (may_omit (goes_on r)) (end_omits r) y.kind y.newline y.escaped (and_from _ _ (closer_here e y l) (ap not (no_semicolon n y l)))

  unlinked_at : one_of_kinds link_kinds q.token.kind ≡ false → (y : Lexeme) → Lex text q.prev_token_end y → not (one_of_kinds link_kinds y.kind) ≡ true
  unfolding apart
  unlinked_at v y l = go (one_of_kinds link_kinds y.kind) refl
    where
      go : (b : Bool) → one_of_kinds link_kinds y.kind ≡ b → not (one_of_kinds link_kinds y.kind) ≡ true
      go true h = absurd (not_here a link_kinds refl v y l h)
      go false h = ap not h

  -- Before a regular expression on a new line a semicolon is left out wherever one is before the sign that may stand in its place; before a part of a template one is, as before the brace.
  pattern_omitted : (S : Row → Look) → ((r : Row) → covers (λ k w e. slash_on_line k w e && S r k w e) (pattern_omits r) ≡ true) → (r : Row) → ((z : Lexeme) → Plain text q.prev_token_end z → IsTrue (seen (S r) z)) → q.token.is_on_new_line ≡ true → (y : Lexeme) → Lex text q.prev_token_end y → one_of_kinds other_goals y.kind ≡ true → (b : Bool) → same_kind RegExp y.kind ≡ b → IsTrue (seen (may_omit (goes_on r)) y)
  pattern_omitted S c r s w y l o false n = covered a_part (may_omit (goes_on r)) (part_omits r) y.kind y.newline y.escaped (and_from _ _ o (ap not n))
  pattern_omitted S c r s w y l h true i =
      let e : y.kind ≡ RegExp = sym (kind_of_same RegExp y.kind i) in
      let z = sign_there l.0 h in
      let a_slash : one_of_kinds slashes z.lexeme.kind ≡ true = subst (λ (k : Kind). one_of_kinds (signs_of k) z.lexeme.kind ≡ true) e z.is in
      let n : z.lexeme.escaped ≡ false = z.escaped ∙ read_plain y l e refl in
      let k = and_parts (is_read_kind z.lexeme.kind) _ (covered (λ k w e. one_of_kinds slashes k) slash_is slash_read z.lexeme.kind false false a_slash) in
      let p : Plain text q.prev_token_end z.lexeme = (z.stands.lex, and_from _ _ k.0 k.1) in
      let o = covered (λ k w e. slash_on_line k w e && S r k w e) (pattern_omits r) (c r) z.lexeme.kind z.lexeme.newline z.lexeme.escaped (and_from _ _ (and_from _ _ a_slash (and_from _ _ (ap not n) (z.newline ∙ (newline_here a y l ∙ w)))) (s z.lexeme p)) in
      subst (λ (j : Kind). may_omit (goes_on r) j y.newline y.escaped ≡ true) (sym e) (subst (λ (b : Bool). may_omit (goes_on r) RegExp b y.escaped ≡ true) z.newline (subst (λ (b : Bool). may_omit (goes_on r) RegExp z.lexeme.newline b ≡ true) z.escaped o))

  -- on a new line, where the expression before ends
  omits_on_line : (r : Row) → ((y : Lexeme) → Plain text q.prev_token_end y → IsTrue (seen (looser 1 true r) y || seen beside y)) → q.token.is_on_new_line ≡ true → one_of_kinds link_kinds q.token.kind ≡ false → (q.token.kind ≡ Semicolon → ⊥) → (y : Lexeme) → Lex text q.prev_token_end y → IsTrue (seen (may_omit (goes_on r)) y)
  unfolding apart
  omits_on_line r s w v n y l = go (one_of_kinds other_goals y.kind) refl
    where
      go : (b : Bool) → one_of_kinds other_goals y.kind ≡ b → IsTrue (seen (may_omit (goes_on r)) y)
      go true e = pattern_omitted stays slash_omits r s w y l e (same_kind RegExp y.kind) refl
      go false e = covered (on_a_line r) (may_omit (goes_on r)) (line_omits r) y.kind y.newline y.escaped (and_from _ _ (plain_or_escapable y l) (and_from _ _ (s y (l.0, plain_so y l.1 e)) (and_from _ _ (newline_here a y l ∙ w) (and_from _ _ (unlinked_at v y l) (ap not (no_semicolon n y l))))))

  -- on a new line, where nothing goes on
  pub omits_stopped : (r : Row) → ((y : Lexeme) → Plain text q.prev_token_end y → IsTrue (seen (stops_row r) y)) → (q.token.is_on_new_line ≡ true → one_of_kinds link_kinds q.token.kind ≡ false) → MayEnd q → (q.token.kind ≡ Semicolon → ⊥) → (y : Lexeme) → Lex text q.prev_token_end y → IsTrue (seen (may_omit (goes_on r)) y)
  omits_stopped r s v (inl e) n y l = omits_at_end r e n y l
  omits_stopped r s v (inr w) n y l = go (one_of_kinds other_goals y.kind) refl
    where
      go : (b : Bool) → one_of_kinds other_goals y.kind ≡ b → IsTrue (seen (may_omit (goes_on r)) y)
      go true e = pattern_omitted stops_row slash_stops r s w y l e (same_kind RegExp y.kind) refl
      go false e = covered (stops_on_line r) (may_omit (goes_on r)) (stop_omits r) y.kind y.newline y.escaped (and_from _ _ (s y (l.0, plain_so y l.1 e)) (and_from _ _ (newline_here a y l ∙ w) (and_from _ _ (unlinked_at (v w) y l) (ap not (no_semicolon n y l)))))

  omits : (r : Row) → ((y : Lexeme) → Plain text q.prev_token_end y → IsTrue (seen (looser 1 true r) y || seen beside y)) → (q.token.is_on_new_line ≡ true → one_of_kinds link_kinds q.token.kind ≡ false) → MayEnd q → (q.token.kind ≡ Semicolon → ⊥) → (y : Lexeme) → Lex text q.prev_token_end y → IsTrue (seen (may_omit (goes_on r)) y)
  omits r s v (inl e) n = omits_at_end r e n
  omits r s v (inr w) n = omits_on_line r s w (v w) n

  -- before a link no statement ends
  linked : (p : Look) → one_of_kinds link_kinds q.token.kind ≡ true → Fails rule (Lex text) (plain no_link) end (semicolon p) q.prev_token_end
  unfolding apart
  linked p v = fails_here firsts (λ y l h. go y (subst (λ (k : Kind). one_of_kinds link_kinds k ≡ true) (sym (kind_here a refl angle y l)) v) h)
    where
      angle : one_of_kinds unsettled q.token.kind ≡ false
      angle = by (one_of_kinds unsettled q.token.kind) refl
        where
          by : (b : Bool) → one_of_kinds unsettled q.token.kind ≡ b → one_of_kinds unsettled q.token.kind ≡ false
          by true h = absurd (not_both a_link angled no_angled_link q.token.kind false false v h)
          by false h = h

      go : (y : Lexeme) → one_of_kinds link_kinds y.kind ≡ true → IsTrue (seen (starts first (semicolon p) no_link) y) → ⊥
      go y v h = either_of (seen semicolon_look y) _ h (λ s. not_both a_link semicolon_look no_linked_semicolon y.kind y.newline y.escaped v s) (λ s. false≢true (sym (ap not v) ∙ (and_parts (not (same_kind Colon y.kind)) _ (and_parts (seen (may_omit p) y) (seen no_link y) s).1).1))

  -- nor before a colon
  pub before_colon : (p : Look) → q.token.kind ≡ Colon → Fails rule (Lex text) (plain no_link) end (semicolon p) q.prev_token_end
  unfolding apart
  before_colon p e = fails_here firsts (λ y l h. go y (subst (λ (k : Kind). same_kind Colon k ≡ true) (sym (kind_here a e refl y l)) refl) h)
    where
      go : (y : Lexeme) → same_kind Colon y.kind ≡ true → IsTrue (seen (starts first (semicolon p) no_link) y) → ⊥
      go y v h = either_of (seen semicolon_look y) _ h (λ s. not_both a_colon semicolon_look no_coloned_semicolon y.kind y.newline y.escaped v s) (λ s. false≢true (sym (ap not v) ∙ (and_parts (not (same_kind Colon y.kind)) _ (and_parts (seen (may_omit p) y) (seen no_link y) s).1).0))

  -- where no statement may end, nothing closes it
  pub no_close : (MayEnd q → ⊥) → (y : Lexeme) → Lex text q.prev_token_end y → IsTrue (seen closes_or_line y) → ⊥
  unfolding apart
  no_close m y l h = go (one_of_kinds closers y.kind) refl h
    where
      none : one_of_kinds closers q.token.kind ≡ false
      none = by (one_of_kinds closers q.token.kind) refl
        where
          by : (b : Bool) → one_of_kinds closers q.token.kind ≡ b → one_of_kinds closers q.token.kind ≡ false
          by true h = absurd (m (inl (covered (λ k w e. closes_here k w e && not (one_of_kinds other_goals k)) may_close plain_closers_end q.token.kind false false (and_from _ _ h (ap not (plain_token a.plain))))))
          by false h = h

      go : (b : Bool) → one_of_kinds closers y.kind ≡ b → (b || y.newline) ≡ true → ⊥
      go true e h = not_here a closers refl none y l e
      go false e h = m (inr (sym (newline_here a y l) ∙ h))

  -- neither stands it here, nor may it be left out
  not_ended : {X : Test} (p : Look) → (MayEnd q → ⊥) → Fails rule (Lex text) X end (semicolon p) q.prev_token_end
  not_ended p m = fails_semicolon p (λ y l h. no_close m y l (covered semicolon_look closes_or_line semicolon_closes y.kind y.newline y.escaped h)) (λ y l h. no_close m y l (covered (may_omit p) closes_or_line (omitted_so p) y.kind y.newline y.escaped h))

  pub unended : (p : Look) → NoEnd q → Fails rule (Lex text) (plain no_link) end (semicolon p) q.prev_token_end
  unended p (inl v) = linked p v
  unended p (inr m) = not_ended p m

-- what a statement's end does to a state
pub record Ended (text : List ℕ) (f : Flags) (q r : Parser) : Type 0 where
  pub at : At text f r
  pub same : Same q r
  pub nodes : r.nodes ≡ q.nodes
  pub kept : r.errors ≡ q.errors
  pub further : q.prev_token_end ≤ r.prev_token_end

pub ended_so : {text : List ℕ} {f : Flags} {q r : Parser} → At text f q → EndsStatement q r → Ended text f q r
ended_so {text} {f} {q} {r} a (v, inl (k, m)) = let s = moves (whole_semicolon a k) m a in record { at = s.at; same = s.same; nodes = s.nodes; kept = s.kept; further = let x = s.further in let y = a.behind in omega arith }
ended_so {text} {f} {q} {r} a (v, inr (n, m, e)) = subst (λ (v : Parser). Ended text f q v) (sym e) (record { at = a; same = same_itself; nodes = refl; kept = refl; further = omega arith })

-- ---- expressions, up to their semicolon

module _ {text : List ℕ} {f : Flags} where
  -- of what ends where an expression does
  pub to_semicolon_of : {g : G} {p q : Parser} {l : Label} {cs : Slots} → ((ds : Slots) (i j : ℕ) (ls mid : Lexemes) → Takes rule g end ds i ls end j mid → (y : Lexeme) → IsTrue (seen (closes (by_edge y ds) no_link) (here mid)) → Admits (after (at Expression f)) ds (here mid)) → Path text f (after (at Expression f)) g p nothing q (tree l cs) → Path text f (plain no_link) (ended by_edge g) p (semicolon (goes_on (row_of l cs))) q (tree l cs)
  to_semicolon_of {g} {p} c x = record {
    at = x.at;
    further = x.further;
    pass = x.pass;
    walked = x.walked;
    verdict = verdict_of x.verdict
        (λ y. record { reach = y.reach; near = y.near; goes = ends_by y.goes (λ us. refl) (λ y l. refl) (λ ds j ls mid l d h. c ds p.prev_token_end j ls mid d (here ls) h) })
        (λ n. fails_ended n (λ ds j ls mid l d h. c ds p.prev_token_end j ls mid d (here ls) h));
  }

  -- of an expression, or of what is one
  pub to_semicolon : {g : G} {p q : Parser} {l : Label} {cs : Slots} → ((ds : Slots) (i j : ℕ) (ls mid : Lexemes) → Takes rule g end ds i ls end j mid → Takes rule (symbol Expression f) end ds i ls end j mid) → Path text f (after (at Expression f)) g p nothing q (tree l cs) → Path text f (plain no_link) (ended by_edge g) p (semicolon (goes_on (row_of l cs))) q (tree l cs)
  to_semicolon up x = to_semicolon_of (λ ds i j ls mid d y h. expression_ended f no_link (up ds i j ls mid d) y h) x

  -- the expression that was read
  pub expression_path : {p q : Parser} → (x : Answer text f (at Expression f) p q) → Path text f (after (at Expression f)) (symbol Expression f) p nothing q (tree x.label x.slots)
  expression_path x = record { at = x.at; further = x.further; pass = x.pass; walked = x.walked; verdict = x.verdict }

  -- where `in` is an operator, as in every statement
  line_stops : {p q : Parser} → f.in_ ≡ true → (x : Answer text f (at Expression f) p q) → (y : Lexeme) → Plain text q.prev_token_end y → IsTrue (seen (looser 1 true (row_of x.label x.slots)) y || seen beside y)
  line_stops i x y l = subst (λ (b : Bool). IsTrue (seen (looser 1 b (row_of x.label x.slots)) y || seen beside y)) i (x.stops y l)

  -- and its end
  pub end_path : {g : G} {o p q r : Parser} → f.in_ ≡ true → (x : Answer text f (at Expression f) o q) → EndsStatement q r → Path text f (plain no_link) g p (semicolon (goes_on (row_of x.label x.slots))) q (tree x.label x.slots) → Path text f (plain no_link) g p nothing r (tree x.label x.slots)
  end_path i x (v, inl (k, m)) t = t ⟶ semicolon_path x.at (goes_on (row_of x.label x.slots)) k (moves (whole_semicolon x.at k) m x.at)
  end_path {g} {p} i x (v, inr (n, m, e)) t = subst (λ (w : Parser). Path text f (plain no_link) g p nothing w (tree x.label x.slots)) (sym e) (t ⟝ by_omission (goes_on (row_of x.label x.slots)) (omits x.at (row_of x.label x.slots) (line_stops i x) v m n))

  ended_path : {p q r : Parser} → f.in_ ≡ true → (x : Answer text f (at Expression f) p q) → EndsStatement q r → Path text f (plain no_link) (ended by_edge (symbol Expression f)) p nothing r (tree x.label x.slots)
  ended_path i x e = end_path i x e (to_semicolon (λ ds i j ls mid d. d) (expression_path x))

-- ---- what stands before

pub statement_left : (f : Flags) → live (rule (at AStatement f)) ≡ alt (symbol Block f) (alt (symbol Empty f) (alt (symbol Var f) (alt (symbol If f) (alt (symbol Do f) (alt (symbol While f) (alt (symbol With f) (alt (symbol For f) (alt (symbol ForIn f) (alt (symbol ForOf f) (alt (symbol Continue f) (alt (symbol Break f) (alt (when f.return_ (symbol Return f)) (alt (symbol Throw f) (alt (symbol Switch f) (alt (symbol Try f) (alt (symbol Debugger f) (symbol Labeled f)))))))))))))))))
unfolding rule rule_of apart
statement_left f = refl

pub sub_left : (f : Flags) → live (rule (at Sub f)) ≡ alt (such (at AStatement f) always) (alt (symbol ExprStmt f) (function_of function_declaration (symbol BindingIdentifier f) false false f))
unfolding rule rule_of apart
sub_left f = refl

pub item_left : (f : Flags) → live (rule (at ListItem f)) ≡ alt (such (at AStatement f) always) (alt (not_then (is 'let') (word_or (LCurly ∷ [])) ▸ symbol ExprStmt f) (alt (symbol AFunction f) (alt (symbol Class f) (symbol Lexical f))))
unfolding rule rule_of apart
item_left f = refl

abbrev pub no_expression : List Kind
no_expression = LCurly ∷ 'function' ∷ 'class' ∷ at_sign ∷ []

-- a statement that its rule can't derive
pub no_symbol : {text : List ℕ} {n : Symbol} {s : ℕ} → Fails rule (Lex text) (after_statement n) end (rule n) s → NoStatement text n s
no_symbol {n = n} r = fails_rule {X' = after_statement n} (λ l cs vs y e. e) r

-- a colon ends an expression
pub colon_ends : (b : Bool) → covers (is Colon) (looser 1 b after_expression) ≡ true
unfolding covers
colon_ends true = refl
colon_ends false = refl

-- the two lexemes that a label begins with
name_first : (f : Flags) {ks ts us : Slots} {i j : ℕ} {ls rest : Lexemes} → Takes rule (identifier label_identifier f) ks ts i ls us j rest → (y : Lexeme) × (ls ≡ next y rest) × (j ≡ y.to) × IsTrue (seen (name_test f) y)
name_first f (is_node (is_lexeme {x = y} t)) = (y, refl, refl, t)

module _ {text : List ℕ} {f : Flags} {s : ℕ} where
  pub labels_fail : {X : Test} → ((y z : Lexeme) (rest : Lexemes) → Lex text s y → Lexes (Lex text) y.to (next z rest) → IsTrue (seen (name_test f) y) → IsTrue (seen (is Colon) z) → ⊥) → Fails rule (Lex text) X end (symbol Labeled f) s
  unfolding rule rule_of
  labels_fail r = record { no = λ ts vs k ls rest l d e. by_symbol d l }
    where
      in_slots : {ks ts us : Slots} {k : ℕ} {ls rest : Lexemes} → Takes rule (symbol LabelIdentifier f ▸ tok Colon ▸ symbol Sub f) ks ts s ls us k rest → Lexes (Lex text) s ls → ⊥
      in_slots (is_seq (is_such d t) (is_seq (is_lexeme {x = z} {ls = after} c) e)) l = let y = name_first f d in let h = subst (λ (v : Lexemes). Lexes (Lex text) s v) y.1 l in r y.0 z after h.0 h.1 y.3 c

      by_symbol : {ks ts us : Slots} {k : ℕ} {ls rest : Lexemes} → Takes rule (symbol Labeled f) ks ts s ls us k rest → Lexes (Lex text) s ls → ⊥
      by_symbol (is_such (is_node d) t) l = in_slots d l

-- where the expression is no name with a colon behind it, no label stands
module _ {text : List ℕ} {f : Flags} {p q : Parser} (a : At text f p) (x : Answer text f (at Expression f) p q) (m : IsLabel p.token q → ⊥) where
  -- the two lexemes of a label
  two_stand : (y z : Lexeme) (rest : Lexemes) → Lex text p.prev_token_end y → Lex text y.to z → Lexes (Lex text) y.to (next z rest) → IsTrue (seen (name_test f) y) → IsTrue (seen (is Colon) z) → ⊥
  unfolding covers apart
  two_stand y z rest l i ls t c =
      let cs = label_of name_node (next y (next z rest)) y.to (next z rest) in
      let d : Takes rule (symbol Expression f) end (tree cs end end) p.prev_token_end (next y (next z rest)) end y.to (next z rest) = name_expression t in
      let e = admits (at Expression f) (tree cs end end) z (covered (is Colon) (looser 1 f.in_ after_expression) (colon_ends f.in_) z.kind z.newline z.escaped c) in
      either_way x.verdict
      (λ u. let w = u.goes.only (tree cs end end) end y.to (next y (next z rest)) (next z rest) (l, ls) d e in let n = ends w.4 in m (label (subst (λ (v : Lexemes). Lexes (Lex text) q.prev_token_end v) n.2 w.3) (sym n.1)))
      (λ n. n.no (tree cs end end) end y.to (next y (next z rest)) (next z rest) (l, ls) d e)
    where
      name_kind : one_of_kinds binding_identifier_kinds y.kind ≡ true
      name_kind = covered (λ k w e. may_bind k && reads k w e) (λ k w e. one_of_kinds binding_identifier_kinds k) refl y.kind y.newline y.escaped (and_from _ _ (and_parts (may_bind y.kind) _ (and_parts (may_bind y.kind && not (same_kind Yield y.kind && f.yield_)) _ t).0).0 l.1)

      token_kind : one_of_kinds binding_identifier_kinds p.token.kind ≡ true
      token_kind = go (one_of_kinds binding_identifier_kinds p.token.kind) refl
        where
          go : (b : Bool) → one_of_kinds binding_identifier_kinds p.token.kind ≡ b → one_of_kinds binding_identifier_kinds p.token.kind ≡ true
          go true e = e
          go false e = absurd (not_here a binding_identifier_kinds refl e y l name_kind)

      colon_kind : Lex text q.prev_token_end z → q.token.kind ≡ Colon
      colon_kind h = go (same_kind Colon q.token.kind) refl
        where
          go : (b : Bool) → same_kind Colon q.token.kind ≡ b → q.token.kind ≡ Colon
          go true e = sym (kind_of_same Colon q.token.kind e)
          go false e = absurd (not_here x.at (Colon ∷ []) refl (rw e refl) z h (or_left (same_kind Colon z.kind) false (and_parts (same_kind Colon z.kind) _ c).0))

      label : Lexes (Lex text) q.prev_token_end (next z rest) → y.to ≡ q.prev_token_end → IsLabel p.token q
      label h e = let k = told a (name_whole a token_kind).0 (name_signless p.token.kind token_kind) y l in record { colon = colon_kind h.0; name = sym (names_at x.at (λ (b : Bool). b) p.token.kind) ∙ subst (λ (v : Kind). may_name f.yield_ f.await_ v ≡ true) (sym k.kind) (test_named f y l.1 t); place = k.end ∙ e }

  pub no_label : (X : Test) → Fails rule (Lex text) X end (symbol Labeled f) p.prev_token_end
  no_label X = labels_fail (λ y z rest l i t c. two_stand y z rest l i.0 i t c)

-- where no expression stands
pub no_label_here : {text : List ℕ} {f : Flags} {s : ℕ} → Underived text (at Expression f) s → (X : Test) → Fails rule (Lex text) X end (symbol Labeled f) s
no_label_here {text} {f} n X = labels_fail (λ y z rest l i t c. n.no (tree (label_of name_node (next y (next z rest)) y.to (next z rest)) end end) end y.to (next y (next z rest)) (next z rest) (l, i) (name_expression t) (admits (at Expression f) (tree (label_of name_node (next y (next z rest)) y.to (next z rest)) end end) z (covered (is Colon) (looser 1 f.in_ after_expression) (colon_ends f.in_) z.kind z.newline z.escaped c)))

-- at another kind than a name
pub no_label_at : {text : List ℕ} {f : Flags} {p : Parser} → At text f p → one_of_kinds binding_identifier_kinds p.token.kind ≡ false → (X : Test) → Fails rule (Lex text) X end (symbol Labeled f) p.prev_token_end
unfolding covers apart
no_label_at {f = f} a n X = fails_at a {X = X} (symbol Labeled f) binding_identifier_kinds refl n

-- nor a declaration of a function, as a body
pub no_function_body : {text : List ℕ} {f : Flags} {p : Parser} {X : Test} → At text f p → one_of_kinds statement_kinds (keyword_kind p.token) ≡ false → Fails rule (Lex text) X end (function_of function_declaration (symbol BindingIdentifier f) false false f) p.prev_token_end
unfolding covers apart
no_function_body {f = f} a n = weaken_fails_on (fails_at_word {X = plain full} (function_of function_declaration (symbol BindingIdentifier f) false false f) statement_kinds a refl refl n) (record { admits = λ ts vs k ls rest d e. (refl, refl) })

-- nor one in a list
module _ {text : List ℕ} {f : Flags} {p : Parser} (a : At text f p) (n : one_of_kinds statement_kinds (keyword_kind p.token) ≡ false) (v : AsyncIsName text p.prev_token_end) where
  none_of_either : (s : Bool) → Fails rule (Lex text) (plain full) end (function_line Declaration false s f) p.prev_token_end
  unfolding covers apart
  none_of_either true = fails_at_word {X = plain full} (function_line Declaration false true f) statement_kinds a refl refl n
  none_of_either false = no_function_body a n

  no_async_line : (s : Bool) → Fails rule (Lex text) (plain full) end (function_line Declaration true s f) p.prev_token_end
  no_async_line s = record { no = λ ts vs k ls rest l d e. go l d }
    where
      go : {ts vs : Slots} {k : ℕ} {ls rest : Lexemes} → Lexes (Lex text) p.prev_token_end ls → Takes rule (function_line Declaration true s f) end ts p.prev_token_end ls vs k rest → ⊥
      go l (is_node (is_seq (is_seq (is_lexeme {x = y} q) (is_look w)) (is_seq (is_lexeme {x = z} r) d))) = v y z l.0 q l.1.0 (and_from _ _ r w)

  pub no_function : {X : Test} → Fails rule (Lex text) X end (symbol AFunction f) p.prev_token_end
  unfolding rule rule_of
  no_function = fails_rule {X' = plain full} (λ l cs vs y e. (refl, refl)) (none_left f Declaration (λ b s. any b s))
    where
      any : (b s : Bool) → Fails rule (Lex text) (plain full) end (function_line Declaration b s f) p.prev_token_end
      any true s = no_async_line s
      any false s = none_of_either s

-- no class stands here
pub no_class : {text : List ℕ} {f : Flags} {p : Parser} {X : Test} → At text f p → one_of_kinds statement_kinds (keyword_kind p.token) ≡ false → Fails rule (Lex text) X end (symbol Class f) p.prev_token_end
unfolding covers apart
no_class {f = f} a n = fails_at_word (symbol Class f) statement_kinds a refl refl n

-- no declaration stands here
pub no_lexical : {text : List ℕ} {f : Flags} {p : Parser} {X : Test} → At text f p → one_of_kinds statement_kinds (keyword_kind p.token) ≡ false → LetIsName text true p.prev_token_end → Fails rule (Lex text) X end (symbol Lexical f) p.prev_token_end
unfolding covers apart rule rule_of
no_lexical {text} {f} {p} a n u = fails_rule {X' = plain full} (λ l cs vs y e. (refl, refl)) (fails_alt (record { no = λ ts vs k ls rest l d e. go ts vs k ls rest l d }) (fails_at_word {X = plain full} (op_node variable_declaration 'const' (ended by_edge (declarators 'const' f))) statement_kinds a refl refl n))
  where
    go : (ts vs : Slots) (k : ℕ) (ls rest : Lexemes) → Lexes (Lex text) p.prev_token_end ls → Takes rule (op_node variable_declaration 'let' (ended by_edge (declarators 'let' f))) end ts p.prev_token_end ls vs k rest → ⊥
    go ts vs k ls rest l (is_node (is_ended {cs = cs} {j = j} {mid = mid} q (is_seq (is_lexeme {x = y} {ls = more} c) d) d')) =
        let none : Fails rule (Lex text) (plain full) end (commas false (declarator false f)) y.to = fails_here firsts {X = plain full} (λ z m h. false≢true (sym (u y z l.0 c m) ∙ covered (starts first (commas false (declarator false f)) full) (λ k w e. behind_let true k) refl z.kind z.newline z.escaped h)) in
        none.no cs end j more mid l.1 d (refl, refl)

module _ {text : List ℕ} {f : Flags} {p : Parser} (a : At text f p) (n : one_of_kinds statement_kinds (keyword_kind p.token) ≡ false) (nl : (X : Test) → Fails rule (Lex text) X end (symbol Labeled f) p.prev_token_end) (v : AsyncIsName text p.prev_token_end) where
  none : (g : G) → begins_by g full statement_kinds ≡ true → apart (λ k w e. starts first g full k w e && one_of_kinds statement_kinds k) (λ k w e. e) ≡ true → Fails rule (Lex text) (plain full) end g p.prev_token_end
  none g c d = fails_at_word {X = plain full} g statement_kinds a c d n

  no_statement : {X : Test} → Fails rule (Lex text) X end (symbol AStatement f) p.prev_token_end
  unfolding covers apart
  no_statement = fails_rule {X' = plain full} (λ l cs vs y e. (refl, refl)) (subst (λ (g : G). Goes rule (Lex text) (plain full) end (rule (at AStatement f)) p.prev_token_end g p.prev_token_end (λ us. us) (still 0)) (statement_left f) (lives (rule (at AStatement f)))
      ▹✗ fails_alt (none (symbol Block f) refl refl) (fails_alt (none (symbol Empty f) refl refl) (fails_alt (none (symbol Var f) refl refl) (fails_alt (none (symbol If f) refl refl) (fails_alt (none (symbol Do f) refl refl) (fails_alt (none (symbol While f) refl refl) (fails_alt (none (symbol With f) refl refl)
      (fails_alt (none (symbol For f) refl refl) (fails_alt (none (symbol ForIn f) refl refl) (fails_alt (none (symbol ForOf f) refl refl) (fails_alt (none (symbol Continue f) refl refl) (fails_alt (none (symbol Break f) refl refl) (fails_alt (none (when f.return_ (symbol Return f)) refl refl) (fails_alt (none (symbol Throw f) refl refl)
      (fails_alt (none (symbol Switch f) refl refl) (fails_alt (none (symbol Try f) refl refl) (fails_alt (none (symbol Debugger f) refl refl) (nl (plain full)))))))))))))))))))

  pub to_statement : (b : Bool) → LetIsName text b p.prev_token_end → Leads text (after_statement (placed b f)) (rule (placed b f)) p.prev_token_end (symbol ExprStmt f)
  unfolding apart covers
  to_statement true u = at_once (subst (λ (g : G). Goes rule (Lex text) (after_statement (at ListItem f)) end (rule (at ListItem f)) p.prev_token_end g p.prev_token_end (λ us. us) (still 0)) (item_left f) (lives (rule (at ListItem f))) ▹ right no_statement ▹ left (fails_alt (no_function a n v) (fails_alt (no_class a n) (no_lexical a n u))))
      ⇒ not_followed a let_word (word_or (LCurly ∷ [])) (λ y z l q m h. false≢true (sym (u y z l q m) ∙ covered (word_or (LCurly ∷ [])) (λ k w e. behind_let true k) refl z.kind z.newline z.escaped h))
  to_statement false u = at_once (subst (λ (g : G). Goes rule (Lex text) (after_statement (at Sub f)) end (rule (at Sub f)) p.prev_token_end g p.prev_token_end (λ us. us) (still 0)) (sub_left f) (lives (rule (at Sub f))) ▹ right no_statement ▹ left (no_function_body a n))

-- as the body of another statement, or in a list
pub named_in_body : {text : List ℕ} {s : ℕ} (b : Bool) → LetIsName text b s → LetIsName text false s
named_in_body true u = name_in_body u
named_in_body false u = u

-- neither a brace nor `function`, `class` or `@` stands here
not_braced : (k : Kind) → one_of_kinds statement_kinds k ≡ false → one_of_kinds no_expression k ≡ false
unfolding covers
not_braced k h = go (one_of_kinds no_expression k) refl
  where
    go : (b : Bool) → one_of_kinds no_expression k ≡ b → one_of_kinds no_expression k ≡ false
    go true e = absurd (false≢true (sym h ∙ covered (λ k w e. one_of_kinds no_expression k) (λ k w e. one_of_kinds statement_kinds k) refl k false false e))
    go false e = e

-- what stands behind the first lookahead of an expression statement
abbrev looked_at : Flags → G
looked_at f = not_then (is 'async') function_on_line ▸ not_then (is 'let') (is LBrack) ▸ ended by_edge (symbol Expression f)

-- of what begins no expression statement, these alone begin an expression
begins_none : (f : Flags) → covers (λ k w e. one_of_kinds no_expression k && starts first (looked_at f) full k w e) (λ k w e. one_of_kinds no_expression k) ≡ true
unfolding covers
begins_none f = refl

-- a lookahead that each lexeme passes with which the part behind it may begin
look_first : {text : List ℕ} {X : Test} {b : G} {s : ℕ} (p : Look) → ((y : Lexeme) → Lex text s y → IsTrue (seen (starts first b full) y) → IsTrue (seen p y)) → Goes rule (Lex text) X end (if_next p ▸ b) s b s (λ us. us) (still 0)
look_first {text} {X} {b} {s} p h = record {
  passes = passes_none;
  sound = λ us vs k ls' rest l w d. is_seq (is_look (h (here ls') (here_at (Lex text) ls' l) (starting firsts full d refl))) d;
  only = λ ts vs k ls rest l d e. go ts vs k ls rest l d;
}
  where
    go : (ts vs : Slots) (k : ℕ) (ls rest : Lexemes) → Lexes (Lex text) s ls → Takes rule (if_next p ▸ b) end ts s ls vs k rest → (us : Slots) × (ls' : Lexemes) × (ts ≡ us) × Lexes (Lex text) s ls' × Takes rule b end us s ls' vs k rest × (ls ≡ ls')
    go ts vs k ls rest l (is_seq (is_look q) d) = (ts, ls, refl, l, d, refl)

to_expression : {text : List ℕ} {f : Flags} {p : Parser} → At text f p → one_of_kinds no_expression (keyword_kind p.token) ≡ false → AsyncIsName text p.prev_token_end → LetIsName text false p.prev_token_end → Leads text (plain no_link) (if_next (other (is_one_of no_expression)) ▸ not_then (is 'async') function_on_line ▸ not_then (is 'let') (is LBrack) ▸ ended by_edge (symbol Expression f)) p.prev_token_end (ended by_edge (symbol Expression f))
unfolding apart
to_expression {text} {f} {p} a c v u = at_once (look_first (other (is_one_of no_expression)) (λ y l q. go y l q (one_of_kinds no_expression y.kind) refl))
    ⇒ not_followed a async_word function_on_line v
    ⇒ not_followed a let_word (is LBrack) (λ y z l q m h. false≢true (sym (u y z l q m) ∙ (and_parts (same_kind LBrack z.kind) (not z.escaped) h).0))
  where
    at_word : (y : Lexeme) → Lex text p.prev_token_end y → IsTrue (seen (starts first (looked_at f) full) y) → one_of_kinds no_expression y.kind ≡ true → (b : Bool) → p.token.escaped ≡ b → seen (other (is_one_of no_expression)) y ≡ true
    at_word y l q e true i = rw (e, escaped_here a y l ∙ i) refl
    at_word y l q e false i = absurd (not_here a no_expression refl (sym (ap (one_of_kinds no_expression) (keyword_plain p.token i)) ∙ c) y l (covered (λ k w e. one_of_kinds no_expression k && starts first (looked_at f) full k w e) (λ k w e. one_of_kinds no_expression k) (begins_none f) y.kind y.newline y.escaped (and_from _ _ e q)))

    go : (y : Lexeme) → Lex text p.prev_token_end y → IsTrue (seen (starts first (looked_at f) full) y) → (b : Bool) → one_of_kinds no_expression y.kind ≡ b → seen (other (is_one_of no_expression)) y ≡ true
    go y l q true e = at_word y l q e p.token.escaped refl
    go y l q false e = rw e refl

-- an expression that was read, where no statement ends behind it
pub no_expression_ends : {text : List ℕ} {f : Flags} {p q : Parser} (b : Bool) → At text f p → one_of_kinds no_expression (keyword_kind p.token) ≡ false → AsyncIsName text p.prev_token_end → LetIsName text b p.prev_token_end → (x : Answer text f (at Expression f) p q) → Fails rule (Lex text) (plain no_link) end (semicolon (goes_on (row_of x.label x.slots))) q.prev_token_end → Fails rule (Lex text) (after_statement (placed b f)) end (symbol ExprStmt f) p.prev_token_end
unfolding rule rule_of covers
no_expression_ends {f = f} {p = p} b a c v u x m = fails_rule {X' = plain no_link} (λ l cs vs y e. ((and_parts _ _ e.0).0, refl)) (fails_node (inside_plain refl) (to_expression a c v (named_in_body b u) ⇒✗ (to_semicolon (λ ds i j ls mid d. d) (expression_path x) ⟶✗ m)))

-- ---- statements

-- what ends in no other statement
pub never_open : {text : List ℕ} {s : ℕ} (l : Label) (cs : Slots) → ends_in_sub l.kind ≡ false → Closed text s l cs
never_open l cs h = λ o y i w. absurd (false≢true (sym h ∙ (and_parts (ends_in_sub l.kind) (lacks_else cs) o).0))

-- what was read as the symbol, and a node for it
pub by_such_statement : {text : List ℕ} {f : Flags} {n : Symbol} {p q w : Parser} {l : Label} {cs : Slots} {id : NodeId} → Path text f (after_statement n) (such n always) p nothing q (tree l cs) → Closed text q.prev_token_end l cs → Same p q → w ≡ record q { nodes = w.nodes } → Holds w.nodes (length p.nodes) (length w.nodes) id.0 l cs → Keeps p.nodes w.nodes → (l.span ≡ record { from = p.token.span.start; to = q.prev_token_end }) → (LabelLies q.text l → NodesLie q.text q.nodes → NodesLie q.text w.nodes) → Statement text f n p w id
by_such_statement {text} {f} {n} {p} {q} {w} {l} {cs} {id} y o b e h k i m = go w.nodes e h k m
  where
    go : (ns : List Node) → w ≡ record q { nodes = ns } → Holds w.nodes (length p.nodes) (length w.nodes) id.0 l cs → Keeps p.nodes w.nodes → (LabelLies q.text l → NodesLie q.text q.nodes → NodesLie q.text w.nodes) → Statement text f n p w id
    go ns e h k m =
        subst (λ (r : Parser). Statement text f n p r id) (sym e) (record {
          at = beside_nodes ns y.at;
          same = same_with ns b (subst (λ (r : Parser). Keeps p.nodes r.nodes) e k) (λ c z. subst (λ (r : Parser). NodesLie q.text r.nodes) e (m (from_start l b y.at.at (let g = y.further in omega arith) i c) z));
          further = y.further;
          label = l;
          slots = cs;
          closed = o;
          pass = y.pass;
          walked = y.walked;
          verdict = y.verdict;
          holds = subst (λ (r : Parser). Holds r.nodes (length p.nodes) (length r.nodes) id.0 l cs) e h;
          keeps = subst (λ (r : Parser). Keeps p.nodes r.nodes) e k;
        })

-- a statement of the symbol's rule, and a node for it
pub by_statement : {text : List ℕ} {f : Flags} {n : Symbol} {p q w : Parser} {l : Label} {cs : Slots} {id : NodeId} → Path text f (after_statement n) (rule n) p nothing q (tree l cs) → Closed text q.prev_token_end l cs → Same p q → w ≡ record q { nodes = w.nodes } → Holds w.nodes (length p.nodes) (length w.nodes) id.0 l cs → Keeps p.nodes w.nodes → (l.span ≡ record { from = p.token.span.start; to = q.prev_token_end }) → (LabelLies q.text l → NodesLie q.text q.nodes → NodesLie q.text w.nodes) → Statement text f n p w id
by_statement {n = n} a o b e h k i m = by_such_statement (by_symbol_as {X' = after_statement n} (λ l cs vs y d. d) a) o b e h k i m

module _ {text : List ℕ} {f : Flags} {p : Parser} (a : At text f p) where
  empty_alone : {X : Test} {q : Parser} → p.token.kind ≡ Semicolon → Moved text f p q → Path text f X (symbol AStatement f) p nothing q (tree (label_here empty_statement no_op p q) end)
  unfolding rule rule_of covers
  empty_alone e s = by_symbol_as {X' = plain full} (λ l cs vs y d. (refl, refl)) (at_kind a Semicolon e refl ⟼ by_symbol_as {X' = plain full} (λ l cs vs y d. (refl, refl)) (noded a (last_token Semicolon a e (plain_semicolon a e s) refl s)))

  empty_path : (b : Bool) {q : Parser} → p.token.kind ≡ Semicolon → Moved text f p q → Path text f (after_statement (placed b f)) (rule (placed b f)) p nothing q (tree (label_here empty_statement no_op p q) end)
  unfolding rule rule_of covers
  empty_path true e s = at_kind a Semicolon e refl ⟼ empty_alone e s
  empty_path false e s = at_kind a Semicolon e refl ⟼ empty_alone e s

  empty_answers : (b : Bool) {q : Parser} {id : NodeId} → p.token.kind ≡ Semicolon → LeafTaken node.EmptyStatement op.None text f p q id → Statement text f (placed b f) p q id
  empty_answers b {q} {id} e t =
      let l : plain_label node.EmptyStatement op.None p.token.span ≡ label_here empty_statement no_op p t.mid = ap (λ (v : ℕ). record { kind = empty_statement; op = no_op; flags = 0; span = record { from = p.token.span.start; to = v } }) (t.moved.tells.end ∙ t.moved.ends) in
      let ks : Keeps p.nodes t.mid.nodes = subst (λ (ns : List Node). Keeps p.nodes ns) (sym t.moved.nodes) (Keeps-refl p.nodes) in
      by_statement (subst (λ (v : Label). Path text f (after_statement (placed b f)) (rule (placed b f)) p nothing t.mid (tree v end)) (sym l) (empty_path b e t.moved)) (never_open (plain_label node.EmptyStatement op.None p.token.span) end refl) t.moved.same t.made.stays (leaf_held t.made ks) (Keeps-trans ks (Keeps-made t.made.made)) (ap (λ (v : Label). v.span) l) (one_lies t.made)

  pub empty_outcome : (b : Bool) (q : Parser) (r : Result NodeId Stop) → p.token.kind ≡ Semicolon → MatchResult r (λ id. TakesLeaf node.EmptyStatement op.None p q id) OnlyMemory → StatementOutcome text f (placed b f) p q r
  empty_outcome b q (Ok id) e m = empty_answers b e (m text f a)
  empty_outcome b q (Err Fatal) e m = absurd m
  empty_outcome b q (Err NoMemory) e m = tt

  module _ (n : one_of_kinds statement_kinds (keyword_kind p.token) ≡ false) (nl : (X : Test) → Fails rule (Lex text) X end (symbol Labeled f) p.prev_token_end) (v : AsyncIsName text p.prev_token_end) where
    pub statement_path : (b : Bool) {q r : Parser} → LetIsName text b p.prev_token_end → f.in_ ≡ true → (x : Answer text f (at Expression f) p q) → EndsStatement q r → Path text f (after_statement (placed b f)) (rule (placed b f)) p nothing r (tree (label_here expression_statement no_op p r) (tree x.label x.slots end))
    unfolding rule rule_of covers
    statement_path b u i x e = leads_to a (to_statement a n nl v b u) (by_symbol_as {X' = plain no_link} (λ l cs vs y d. ((and_parts _ _ d.0).0, refl)) (noded_by a (inside_plain refl) (leads_to a (to_expression a (not_braced (keyword_kind p.token) n) v (named_in_body b u)) (ended_path i x e))))

    pub statement_answers : (b : Bool) {q r w : Parser} {child id : NodeId} (s : Span) → LetIsName text b p.prev_token_end → f.in_ ≡ true → (x : Numbered text f (at Expression f) p q child) → EndsStatement q r → s.start ≡ p.token.span.start → s.end ≡ r.prev_token_end → MadeHere (plain_label node.ExpressionStatement op.None s) (Some child ∷ []) r w id → Statement text f (placed b f) p w id
    statement_answers k {q} {r} {w} {child} {id} s u i x e b c d =
        let l : plain_label node.ExpressionStatement op.None s ≡ label_here expression_statement no_op p r = rw (b, c) refl in
        let made : MadeHere (label_here expression_statement no_op p r) (Some child ∷ []) r w id = subst (λ (v : Label). MadeHere v (Some child ∷ []) r w id) l d in
        let z = ended_so x.answer.at e in
        let ks : Keeps p.nodes r.nodes = subst (λ (ns : List Node). Keeps p.nodes ns) (sym z.nodes) x.keeps in
        by_statement (statement_path k u i x.answer e) (never_open (label_here expression_statement no_op p r) (tree x.answer.label x.answer.slots end) refl) (same_both x.answer.same z.same) made.stays
        (one_held p.nodes made (subst (λ (ns : List Node). Holds ns (length p.nodes) (length ns) child.0 x.answer.label x.answer.slots) (sym z.nodes) x.holds)) (Keeps-trans ks (Keeps-made made.made)) refl (one_lies made)

    pub statement_fails : (b : Bool) → LetIsName text b p.prev_token_end → Underived text (at Expression f) p.prev_token_end → NoStatement text (placed b f) p.prev_token_end
    unfolding rule rule_of covers
    statement_fails b u x = no_symbol (to_statement a n nl v b u ⇒✗ fails_rule {X' = plain no_link} (λ l cs vs y e. ((and_parts _ _ e.0).0, refl)) (fails_node (inside_plain refl) (to_expression a (not_braced (keyword_kind p.token) n) v (named_in_body b u) ⇒✗ fails_ended x (λ cs j ls mid l d h. expression_ended f no_link d (here ls) h))))

    pub statement_unended : (b : Bool) {q : Parser} → LetIsName text b p.prev_token_end → Answer text f (at Expression f) p q → NoEnd q → NoStatement text (placed b f) p.prev_token_end
    unfolding rule rule_of covers
    statement_unended b u x m = no_symbol (to_statement a n nl v b u ⇒✗ no_expression_ends b a (not_braced (keyword_kind p.token) n) v u x (unended x.at (goes_on (row_of x.label x.slots)) m))

-- `in` is an operator by the parameters
pub in_of : {text : List ℕ} {f : Flags} {p : Parser} → At text f p → has_flag in_flag p.ctx ≡ true → f.in_ ≡ true
in_of a h = sym (ap (λ (g : Flags). g.in_) a.flags_are) ∙ h

-- none of the kinds that begin a statement alone
pub no_own_kind : (k : Kind) → (k ≡ LCurly → ⊥) → (k ≡ Semicolon → ⊥) → (k ≡ kind.If → ⊥) → (k ≡ kind.Do → ⊥) → (k ≡ kind.While → ⊥) → (k ≡ kind.With → ⊥) → (k ≡ kind.Break → ⊥) → (k ≡ kind.Continue → ⊥) → (k ≡ kind.Return → ⊥) → (k ≡ kind.Function → ⊥) → (k ≡ kind.Throw → ⊥) → (k ≡ kind.Switch → ⊥) → (k ≡ kind.Try → ⊥) → (k ≡ kind.For → ⊥) → (k ≡ kind.Debugger → ⊥) → (k ≡ kind.Var → ⊥) → (k ≡ kind.Const → ⊥) → (k ≡ kind.Class → ⊥) → (k ≡ at_sign → ⊥) → one_of_kinds statement_kinds k ≡ false
no_own_kind k m a b c d e f g r o h u v w i j l q s = rw (different LCurly k m, different Semicolon k a, different kind.If k b, different kind.Do k c, different kind.While k d, different kind.With k e, different kind.Break k f, different kind.Continue k g, different kind.Return k r, different kind.Function k o, different kind.Throw k h, different kind.Switch k u, different kind.Try k v, different kind.For k w, different kind.Debugger k i, different kind.Var k j, different kind.Const k l, different kind.Class k q, different at_sign k s) refl

-- the code found no label
pub no_colon : (p q : Parser) {t : Token} {b : Bool} → t ≡ p.token → IsTrue b ↔ IsLabel t q → b ≡ false → IsLabel p.token q → ⊥
no_colon p q e i f h = false≢true (sym f ∙ i.1 (subst (λ (v : Token). IsLabel v q) (sym e) h))
