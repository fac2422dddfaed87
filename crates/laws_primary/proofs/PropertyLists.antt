-- Object literals (ECMA-262, 13.2.5): what is left of the list behind each of its properties.
use Rattle.std.proofs.Common.{ℕ, ◌≡◌, ◌≤◌, ◌<◌, inl, inr, max, true, List, [], ◌∷◌, ◌++◌, length, Option, Some, false, refl, sym, ap, subst, arith, ◌∙◌}
use Rattle.std.specs.Prelude.{Ok, Err}
use Rattle.std.proofs.lemmas.Bool.{false≢true}
use Rattle.js_base.specs.declared.diagnostic.Diagnostic.{Diagnostic}
use Rattle.js_base.specs.declared.kind.Kind.TheVariants.{RCurly, RAngle, LParen, LBrack, RBrack, RParen, LCurly, Comma}
use Rattle.js_base.specs.declared.span.Span.{Span}
use Rattle.js_base.specs.Kinds.{same_kind, one_of_kinds}
use Rattle.js_grammar.specs.Trees.{Slots, end, tree, Label, no_op, object_expression}
use Rattle.js_grammar.specs.Grammar.{Lexemes, Look, commas, is, seq, nothing, Takes, is_seq, after_comma, after_item}
use Rattle.js_grammar.specs.Parsing.{plain, full, still, Goes, Fails}
use Rattle.js_grammar.specs.Productions.{G, Flags, Symbol, at, tok, Object, Primary, Property}
use Rattle.js_grammar.specs.Productions.{sym as symbol}
use Rattle.js_grammar.specs.Table.{rule, rule_of}
use Rattle.js_grammar.specs.Follow.{after}
use Rattle.js_grammar.proofs.Looks.{covers, apart, not_both}
use Rattle.js_grammar.proofs.Calculus.{◌▹◌, ◌▹✗◌, by_plain, commas_item, done, fails_commas, fails_lexeme, fails_node, fails_nothing, fails_rule, inside_full, left, no_comma, part_fails, right, same}
use Rattle.js_grammar.proofs.FirstClaims.{firsts}
use Rattle.js_grammar.proofs.First.{starts}
use Rattle.js_grammar.specs.FirstSets.{first as first_of}
use Rattle.js_grammar.proofs.FirstRules.{by_first, fails_here, part}
use Rattle.js_grammar.proofs.FollowLaws.{fails_by}
use Rattle.laws_shared.specs.js_tree.declared.id.NodeId.{NodeId}
use Rattle.laws_shared.specs.js_tree.declared.kind.NodeKind.TheVariants as node
use Rattle.laws_shared.specs.js_tree.declared.op.Op.TheVariants as op
use Rattle.laws_shared.proofs.js_tree.HoldingLemmas.{HoldsAll-none, HoldsAll-next, Keeps-trans, Keeps-made}
use Rattle.laws_shared.specs.js_cursor.Moves.{MovesOn, Opened, GivesUp, Steps, IsHere}
use Rattle.laws_shared.specs.js_cursor.Parsers.{Parser}
use Rattle.laws_shared.specs.js_cursor.declared.stop.ListStep.{ListStep}
use Rattle.laws_shared.specs.js_cursor.declared.stop.ListStep.TheVariants.{Element, End, EndAfterComma}
use Rattle.laws_shared.specs.js_cursor.declared.stop.Stop.{Stop}
use Rattle.laws_shared.specs.js_cursor.declared.stop.Stop.TheVariants.{Fatal, NoMemory}
use Rattle.laws_shared.specs.Lexemes.{Lex, template_tails}
use Rattle.laws_shared.specs.States.{At, Standing}
use Rattle.laws_shared.specs.Answers.{Stretch, Underived, Numbered, Stops}
use Rattle.laws_shared.specs.Arguments.{Partway, ItemTaken, NoItem, behind_item}
use Rattle.laws_primary.specs.Objects.{object_of, properties, Properties, TakesProperty}
use Rattle.laws_shared.specs.Stands.{StandsHere}
use Rattle.laws_shared.specs.Moves.{Moved, Moves, MadeHere, plain_label, unpassable}
use Rattle.laws_shared.specs.Nesting.{room}
use Rattle.laws_primary.proofs.ArgumentLists.{none_there, is_one}
use Rattle.laws_primary.proofs.Arrays.{turned}
use Rattle.laws_shared.proofs.Bracketed.{opened_here, opened_later}
use Rattle.laws_shared.proofs.Signs.{none_seen, plain_sign}
use Rattle.laws_shared.proofs.Giving.{gives_up}
use Rattle.laws_shared.proofs.Here.{uncut}
use Rattle.laws_shared.proofs.Signs.{AllClose, NoneIs}
use Rattle.laws_shared.proofs.MadeNodes.{node_held, one_lies}
use Rattle.laws_shared.proofs.Signs.{closing_there, stands_not, stands_there}
use Rattle.laws_shared.proofs.Moving.{moves, standing, stops_behind, stops_so}
use Rattle.laws_shared.proofs.Nesting.{nested_room, later_room}
use Rattle.laws_primary.proofs.Operands.{by_path, behind_primary}
use Rattle.laws_shared.proofs.Parts.{part_path, part_from, part_goes, part_path_fails, parts, part_sign, part_last}
use Rattle.laws_shared.proofs.Paths.{Path, ◌⟼◌, at_kind, by_symbol_as, label_here, noded}
use Rattle.laws_shared.proofs.Verdicts.{verdict_of}
use Rattle.laws_shared.proofs.Verdicts.{after as grown_behind}
use Rattle.laws_shared.proofs.Classes.{here_ends}
use Rattle.laws_shared.proofs.PlainSigns.{comma_plain, brace_plain, closing_brace_plain}
use Rattle.js_base.specs.declared.diagnostic.DiagnosticKind.TheVariants.{ExpectClosingOrSeparator}

-- ---- the list, by what stands where a property may begin, or behind one

abbrev property : Flags → G
property f = symbol Property f

-- what is left behind a property
abbrev rest : Flags → G
rest f = seq (after_item true (property f)) (tok RCurly)

abbrev next_kinds : Look
next_kinds k w e = one_of_kinds (Comma ∷ RParen ∷ RBrack ∷ RCurly ∷ []) k

-- a property may be followed by these, and begins with no closing brace
ends_there : (f : Flags) → covers (starts first_of (after_item true (property f)) (is RCurly)) next_kinds ≡ true
unfolding covers
ends_there f = refl

abbrev closing : Look
closing k w e = one_of_kinds (RCurly ∷ template_tails) k

begins_apart : (f : Flags) → apart (first_of (at Property f)) closing ≡ true
unfolding apart
begins_apart f = refl

regrouped : {text : List ℕ} {a b c : G} {s : ℕ} → Goes rule (Lex text) (plain full) end (seq (seq a b) c) s (seq a (seq b c)) s (λ us. us) (still 0)
regrouped = same (λ ts us i j ls rest d. one ts us i j ls rest d) (λ ts us i j ls rest d. two ts us i j ls rest d)
  where
    one : {rule' : Symbol → G} {a b c : G} {ks : Slots} (ts us : Slots) (i j : ℕ) (ls rest : Lexemes) → Takes rule' (seq (seq a b) c) ks ts i ls us j rest → Takes rule' (seq a (seq b c)) ks ts i ls us j rest
    one ts us i j ls rest (is_seq (is_seq x y) z) = is_seq x (is_seq y z)

    two : {rule' : Symbol → G} {a b c : G} {ks : Slots} (ts us : Slots) (i j : ℕ) (ls rest : Lexemes) → Takes rule' (seq a (seq b c)) ks ts i ls us j rest → Takes rule' (seq (seq a b) c) ks ts i ls us j rest
    two ts us i j ls rest (is_seq x (is_seq y z)) = is_seq (is_seq x y) z

module _ {text : List ℕ} (f : Flags) {s : ℕ} where
  not_closed : NoneIs text s RCurly → Fails rule (Lex text) (plain (is RCurly)) end nothing s
  not_closed n = fails_nothing (λ ts y l e. none_seen n y l e.0)

  no_more : AllClose text s → Fails rule (Lex text) (plain (is RCurly)) end (commas true (property f)) s
  no_more a = fails_here firsts (λ y l h. not_both (first_of (at Property f)) closing (begins_apart f) y.kind y.newline y.escaped h (a y l).0)

  -- a property is due
  property_due : NoneIs text s RCurly → Goes rule (Lex text) (plain full) end (properties f) s (seq (commas true (property f)) (tok RCurly)) s (λ us. us) (still 0)
  unfolding covers
  property_due n = part firsts (is RCurly) (left (not_closed n)) refl

  closes : AllClose text s → Goes rule (Lex text) (plain full) end (properties f) s (tok RCurly) s (λ us. us) (still 0)
  unfolding covers
  closes a = part firsts (is RCurly) (right (no_more a)) refl ▹ done

  -- behind one
  no_comma_left : NoneIs text s Comma → Goes rule (Lex text) (plain full) end (rest f) s (tok RCurly) s (λ us. us) (still 0)
  unfolding covers
  no_comma_left n = part firsts (is RCurly) (no_comma true (property f) (none_seen n)) refl ▹ done

  comma_left : NoneIs text s RCurly → Goes rule (Lex text) (plain full) end (rest f) s (seq (tok Comma) (properties f)) s (λ us. us) (still 0)
  unfolding covers
  comma_left n = part firsts (is RCurly) (left {a = seq (tok Comma) (after_comma true (property f))} {b = nothing} (not_closed n)) refl ▹ regrouped

  rest_fails : NoneIs text s Comma → NoneIs text s RCurly → Fails rule (Lex text) (plain full) end (rest f) s
  rest_fails n m = no_comma_left n ▹✗ fails_lexeme (is RCurly) (none_seen m)

  property_read : {s' : ℕ} {l : Label} {cs : Slots} {pass : Lexemes → Lexemes} → Stretch text behind_item (property f) s nothing s' (tree l cs) pass → Stretch text (plain full) (seq (commas true (property f)) (tok RCurly)) s (rest f) s' (tree l cs) pass
  unfolding covers
  property_read x = record { reach = max 0 x.reach; near = let i = x.near in omega arith; goes = part firsts (is RCurly) (commas_item x.goes (by_first firsts (by_plain next_kinds) (ends_there f))) refl }

  property_fails : NoItem text (at Property f) s → Fails rule (Lex text) (plain full) end (seq (commas true (property f)) (tok RCurly)) s
  unfolding covers
  property_fails n = part_fails (fails_commas n (by_first firsts (by_plain next_kinds) (ends_there f))) (by_first firsts (by_plain (is RCurly)) refl)

module _ {text : List ℕ} {f : Flags} {p : Parser} (a : At text f p) where
  -- the closing brace stands here
  module _ (k : p.token.kind ≡ RCurly) where
    rest_closes : Goes rule (Lex text) (plain full) end (rest f) p.prev_token_end (properties f) p.prev_token_end (λ us. us) (still 0)
    rest_closes = no_comma_left f (λ y l e w. false≢true (ap (one_of_kinds (RCurly ∷ template_tails)) (sym e) ∙ (closing_there a k y l).0)) ▹ turned (closes f (closing_there a k))

    pub properties_end : {q : Parser} (ids : List (Option NodeId)) → Moved text f p q → Partway text f (properties f) nothing p q ids ids
    properties_end ids m = part_from (closes f (closing_there a k)) (part_last RCurly a k (plain_sign RCurly a k refl refl closing_brace_plain) refl m)

  -- a comma stands here
  module _ (k : p.token.kind ≡ Comma) where
    rest_goes : {q : Parser} (ids : List (Option NodeId)) → Moved text f p q → Partway text f (rest f) (properties f) p q ids ids
    rest_goes ids m = part_from (comma_left f (is_one (stands_there a k refl) (λ e. cc))) (part_sign Comma a k (plain_sign Comma a k refl refl comma_plain) refl m)

  module _ (m : NoneIs text p.prev_token_end RCurly) where
    pub property_taken : {q : Parser} {id : NodeId} (ids : List (Option NodeId)) → ItemTaken text f (at Property f) p q id → Partway text f (properties f) (rest f) p q ids (ids ++ Some id ∷ [])
    property_taken {q} {id} ids x = part_from (property_due f m) (record {
      at = x.at;
      same = x.same;
      further = x.further;
      slots = tree x.label x.slots;
      puts = λ us. refl;
      pass = x.pass;
      walked = x.walked;
      verdict = verdict_of x.verdict (λ z. property_read f z) (λ z. property_fails f z);
      holds = λ lo us h. HoldsAll-next id x.keeps h x.holds;
      keeps = x.keeps;
    })

    no_property : NoItem text (at Property f) p.prev_token_end → Fails rule (Lex text) (plain full) end (properties f) p.prev_token_end
    no_property z = property_due f m ▹✗ property_fails f z

-- what stands behind a property
pub step_taken : {text : List ℕ} {f : Flags} {o p q : Parser} {ids js : List (Option NodeId)} (opening : Span) (s : ListStep) → Partway text f (properties f) (rest f) o p ids js → Steps RCurly opening false p q (Ok s) → Partway text f (properties f) (properties f) o q ids js
step_taken {text} {f} {o} {p} {q} {ids} {js} opening Element x (n, inl z) = absurd (false≢true z.0)
step_taken {text} {f} {o} {p} {q} {ids} {js} opening Element x (n, inr z) = parts x (rest_goes x.at z.1 js (moves (uncut x.at (ap (same_kind RAngle) z.1), ap unpassable z.1) z.2 x.at))
step_taken {text} {f} {o} {p} {q} {ids} {js} opening (EndAfterComma at) x z = parts x (rest_goes x.at z.1 js (moves (uncut x.at (ap (same_kind RAngle) z.1), ap unpassable z.1) z.3 x.at))
step_taken {text} {f} {o} {p} {q} {ids} {js} opening End x z = subst (λ (r : Parser). Partway text f (properties f) (properties f) o r ids js) (sym z.1) (part_goes x (rest_closes x.at z.0))

pub step_stops : {text : List ℕ} {f : Flags} {o p : Parser} {ids js : List (Option NodeId)} (q : Parser) (e : Stop) (opening : Option Span) → Partway text f (properties f) (rest f) o p ids js → (e ≡ Fatal → (false ≡ false) × (p.token.kind ≡ RCurly → ⊥) × (p.token.kind ≡ Comma → ⊥)) × GivesUp (IsHere ExpectClosingOrSeparator p opening) p q e → Stops o q e (Fails rule (Lex text) (plain full) end (properties f) o.prev_token_end)
unfolding apart
step_stops {f = f} {p = p} q Fatal opening x z =
    let n = z.0 refl in
    stops_behind q Fatal x.same (λ g. grown_behind x.verdict g) (λ i. part_path_fails x i) (gives_up (IsHere ExpectClosingOrSeparator p opening) p q Fatal x.at z.1 (here_ends ExpectClosingOrSeparator refl) (rest_fails f (none_there Comma x.at refl n.2) (none_there RCurly x.at refl n.1)))
step_stops q NoMemory opening x z = tt

pub property_stops : {text : List ℕ} {f : Flags} {p : Parser} (q : Parser) (e : Stop) → At text f p → StandsHere p RCurly false → Stops p q e (NoItem text (at Property f) p.prev_token_end) → Stops p q e (Fails rule (Lex text) (plain full) end (properties f) p.prev_token_end)
property_stops {p = p} q e a m z = stops_so p q e (λ i. no_property a (stands_not a refl m) i) z

-- ---- the loop

pub record PropertyLoop (opening : Span) (ids : List (Option NodeId)) (p q : Parser) : Type 0 where
  pub at : Standing q
  pub opened : Opened q opening
  pub less : room q < room p
  pub goes : (text : List ℕ) (f : Flags) → At text f p → Partway text f (object_of f) (properties f) p q [] ids

object_opened : {text : List ℕ} {f : Flags} {p q : Parser} → At text f p → p.token.kind ≡ LCurly → Moved text f p q → Partway text f (object_of f) (properties f) p q [] []
object_opened a k m = part_sign LCurly a k (plain_sign LCurly a k refl refl brace_plain) refl m

pub loop_start : {s : Span} {p q : Parser} {ids : List (Option NodeId)} → ids ≡ [] → s ≡ p.token.span → Standing p → p.token.kind ≡ LCurly → Moves p q → PropertyLoop s ids p q
loop_start {s} {p} {q} {ids} i e a k m = record {
  at = standing (m _ _ a).at;
  opened = subst (λ (v : Span). Opened q v) (sym e) (opened_here a (ap (one_of_kinds (LParen ∷ LBrack ∷ LCurly ∷ [])) k) (m _ _ a));
  less = nested_room a (m _ _ a);
  goes = λ text f b. subst (λ (v : List (Option NodeId)). Partway text f (object_of f) (properties f) p q [] v) (sym i) (object_opened b k (m text f b));
}

pub loop_property : {s : Span} {ids js : List (Option NodeId)} {p q r : Parser} {id : NodeId} → PropertyLoop s ids p q → TakesProperty q r (Ok id) → js ≡ ids ++ Some id ∷ [] → PropertyLoop s js p r
loop_property {s} {ids} {js} {p} {q} {r} l d e =
    let x = d _ _ l.at [] in
    let further : q.prev_token_end ≤ r.prev_token_end = (let i = x.further in let j = l.at.behind in omega arith) in
    record {
      at = standing x.at;
      opened = opened_later x.same further l.opened;
      less = let i = later_room further x.same in let j = l.less in omega arith;
      goes = λ text f a. let y = l.goes text f a in subst (λ (v : List (Option NodeId)). Partway text f (object_of f) (properties f) p r [] v) (sym e) (parts y (d text f y.at ids));
    }

pub property_less : {s : Span} {ids : List (Option NodeId)} {p q r : Parser} {id : NodeId} → PropertyLoop s ids p q → TakesProperty q r (Ok id) → room r < room q
property_less l d =
    let x = d _ _ l.at [] in
    let b = x.further in let c = l.at.behind in let e = l.at.at.between.0 in let g = x.same.follows.text in let i = x.at.at.between.0 in omega (arith, ap length g)

pub loop_stops : {s : Span} {ids : List (Option NodeId)} {text : List ℕ} {f : Flags} {p q : Parser} (r : Parser) (e : Stop) → PropertyLoop s ids p q → (a : At text f p) → TakesProperty q r (Err e) → Stops p r e (Fails rule (Lex text) (plain full) end (object_of f) p.prev_token_end)
loop_stops {text = text} {f} r e l a d = let y = l.goes text f a in stops_behind r e y.same (λ g. grown_behind y.verdict g) (λ n. part_path_fails y n) (d text f y.at)

pub loop_end : {s : Span} {ids : List (Option NodeId)} {p q r : Parser} → PropertyLoop s ids p q → q.token.kind ≡ RCurly → MovesOn q r → Properties ids p r
loop_end {ids = ids} l k v text f a = let y = l.goes text f a in parts y (properties_end y.at k ids (moves (uncut y.at (ap (same_kind RAngle) k), ap unpassable k) v y.at))

-- ---- the node

module _ {text : List ℕ} {f : Flags} {p : Parser} (a : At text f p) (k : p.token.kind ≡ LCurly) where
  alone : Goes rule (Lex text) (after (at Primary f)) end (rule (at Primary f)) p.prev_token_end (symbol Object f) p.prev_token_end (λ us. us) (still 0)
  unfolding rule rule_of covers
  alone = at_kind a LCurly k refl

  pub no_object : Fails rule (Lex text) (plain full) end (object_of f) p.prev_token_end → Underived text (at Primary f) p.prev_token_end
  unfolding rule rule_of
  no_object n = fails_by (alone ▹✗ fails_rule {X' = plain full} (λ l cs vs y d. (refl, refl)) (fails_node inside_full n))

  literal : {q : Parser} {ids : List (Option NodeId)} (y : Partway text f (object_of f) nothing p q [] ids) → Path text f (after (at Primary f)) (symbol Object f) p nothing q (tree (label_here object_expression no_op p q) (y.slots end))
  unfolding rule rule_of
  literal y = by_symbol_as {X' = plain full} (λ l cs vs y d. (refl, refl)) (noded a (part_path y))

  pub object_answers : {q w : Parser} {ids : List (Option NodeId)} {id : NodeId} {s : Span} → Properties ids p q → s.start ≡ p.token.span.start → s.end ≡ q.prev_token_end → MadeHere (plain_label node.ObjectExpression op.None s) ids q w id → Numbered text f (at Primary f) p w id
  object_answers {q} {w} {ids} {id} {s} x b c n =
      let y = x text f a in
      let l : plain_label node.ObjectExpression op.None s ≡ label_here object_expression no_op p q = rw (b, c) refl in
      let made : MadeHere (label_here object_expression no_op p q) ids q w id = subst (λ (v : Label). MadeHere v ids q w id) l n in
      by_path (alone ⟼ literal y) y.same made.stays (behind_primary f.in_ (label_here object_expression no_op p q) (y.slots end) text q.prev_token_end) refl
      (node_held made (y.holds (length p.nodes) end (HoldsAll-none p.nodes (length p.nodes) (length p.nodes) (omega arith)))) (Keeps-trans y.keeps (Keeps-made made.made)) refl (one_lies made)

pub ending_stops : (o p q : Parser) (e : Stop) (F : Type 0) (P : Diagnostic → Type 0) → p.token.kind ≡ RCurly → (e ≡ Fatal → p.token.kind ≡ RCurly → ⊥) × GivesUp P p q e → Stops o q e F
ending_stops o p q Fatal F P k z = absurd (z.0 refl k)
ending_stops o p q NoMemory F P k z = tt
