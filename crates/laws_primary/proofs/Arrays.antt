-- Array literals (ECMA-262, 13.2.4): what is left of the list behind each of its elements and gaps.
use Rattle.std.proofs.Common.{ℕ, ◌≡◌, ◌≤◌, ◌<◌, inl, inr, List, [], ◌∷◌, ◌++◌, length, Option, Some, false, refl, sym, ap, subst, arith, ◌∙◌}
use Rattle.std.specs.Prelude.{Result, Ok, Err, MatchResult}
use Rattle.std.proofs.lemmas.Bool.{false≢true}
use Rattle.js_base.specs.declared.diagnostic.Diagnostic.{Diagnostic}
use Rattle.js_base.specs.declared.kind.Kind.TheVariants.{RCurly, RAngle, LParen, LBrack, RBrack, RParen, LCurly, Comma}
use Rattle.js_base.specs.declared.span.Span.{Span}
use Rattle.js_base.specs.Kinds.{same_kind, one_of_kinds}
use Rattle.js_grammar.specs.Trees.{Slots, end, tree, Label, no_op, elision, array_expression}
use Rattle.js_grammar.specs.Grammar.{Lexemes, last, next, Look, alt, seq, nothing, never, Takes, is_nothing, is_seq, is_left, is_right, is_many}
use Rattle.js_grammar.specs.Parsing.{Test, plain, full, still, Reaches, Goes, Fails}
use Rattle.js_grammar.specs.Lexed.{Lexes}
use Rattle.js_grammar.specs.Productions.{G, Flags, Symbol, at, tok, mk, items, Argument, Primary}
use Rattle.js_grammar.specs.Productions.{sym as symbol}
use Rattle.js_grammar.specs.Table.{rule, rule_of}
use Rattle.js_grammar.specs.Follow.{after}
use Rattle.js_grammar.proofs.Looks.{covers, apart}
use Rattle.js_grammar.proofs.Calculus.{◌▹◌, ◌▹✗◌, same, left, right, then_by, part_fails, by_plain, fails_alt, fails_never, fails_node, inside_full}
use Rattle.js_grammar.proofs.FirstClaims.{firsts}
use Rattle.js_grammar.proofs.FirstRules.{by_first, fails_here}
use Rattle.js_grammar.proofs.FollowLaws.{fails_by}
use Rattle.laws_shared.specs.js_tree.declared.id.NodeId.{NodeId}
use Rattle.laws_shared.specs.js_tree.declared.kind.NodeKind.TheVariants as node
use Rattle.laws_shared.specs.js_tree.declared.op.Op.TheVariants as op
use Rattle.laws_shared.specs.js_tree.Nodes.{Node}
use Rattle.laws_shared.specs.js_tree.Holding.{Holds, Keeps}
use Rattle.laws_shared.proofs.js_tree.HoldingLemmas.{HoldsAll-none, HoldsAll-next, Keeps-refl, Keeps-trans, Keeps-made}
use Rattle.laws_shared.specs.js_cursor.Moves.{MovesOn, Opened, GivesUp, Steps, OnlyMemory, IsHere}
use Rattle.laws_shared.specs.js_cursor.Parsers.{Parser}
use Rattle.laws_shared.specs.js_cursor.declared.stop.ListStep.{ListStep}
use Rattle.laws_shared.specs.js_cursor.declared.stop.ListStep.TheVariants.{Element, End, EndAfterComma}
use Rattle.laws_shared.specs.js_cursor.declared.stop.Stop.{Stop}
use Rattle.laws_shared.specs.js_cursor.declared.stop.Stop.TheVariants.{Fatal, NoMemory}
use Rattle.laws_shared.specs.Lexemes.{Lex}
use Rattle.laws_shared.specs.States.{At, Standing}
use Rattle.laws_shared.specs.Answers.{Stretch, Underived, Numbered, Stops}
use Rattle.laws_shared.specs.Arguments.{Partway, ItemTaken, NoItem}
use Rattle.laws_shared.specs.ArrayLiterals.{array_of, elements}
use Rattle.laws_primary.specs.Arrays.{TakesElement, Elements}
use Rattle.laws_shared.specs.Stands.{StandsHere}
use Rattle.laws_shared.specs.Moves.{Moved, Moves, MadeHere, LeafTaken, TakesLeaf, plain_label, unpassable}
use Rattle.laws_shared.specs.Nesting.{room}
use Rattle.laws_primary.proofs.ArgumentLists.{none_there}
use Rattle.laws_shared.proofs.Bracketed.{opened_here, opened_later}
use Rattle.laws_shared.proofs.Signs.{none_seen, plain_sign}
use Rattle.laws_shared.proofs.Giving.{gives_up}
use Rattle.laws_shared.proofs.Here.{uncut}
use Rattle.laws_shared.proofs.Signs.{NoneIs}
use Rattle.laws_shared.proofs.MadeNodes.{leaf_held, node_held, one_lies, made_lies}
use Rattle.laws_shared.proofs.Signs.{stands_not}
use Rattle.laws_shared.proofs.Moving.{same_with, beside_nodes, moves, standing, stops_behind, stops_so}
use Rattle.laws_shared.proofs.Nesting.{nested_room, later_room}
use Rattle.laws_primary.proofs.Operands.{by_path, behind_primary}
use Rattle.laws_shared.proofs.Parts.{part_path, part_from, part_goes, part_path_fails, parts, part_sign, part_last}
use Rattle.laws_shared.proofs.Paths.{◌⟼◌, at_kind, last_token, noded, label_here}
use Rattle.laws_shared.proofs.Verdicts.{verdict_of}
use Rattle.laws_shared.proofs.Verdicts.{after as grown_behind}
use Rattle.laws_shared.proofs.Classes.{here_ends}
use Rattle.laws_shared.proofs.PlainSigns.{comma_plain, bracket_plain, closing_bracket_plain}
use Rattle.js_base.specs.declared.diagnostic.DiagnosticKind.TheVariants.{ExpectClosingOrSeparator}

-- ---- items with commas between, by the first of them

module _ (gap item z e : G) where
  abbrev pub listed : G
  listed = seq (items gap item z) e

  -- behind an item: a comma and more items, or the end
  abbrev pub behind_one : G
  behind_one = alt (seq (tok Comma) listed) e

  abbrev pub by_first_item : G
  by_first_item = alt (seq gap listed) (alt (seq item behind_one) (alt (seq z e) e))

  pub unrolled : {rule' : Symbol → G} (ts us : Slots) {ks : Slots} (i j : ℕ) (ls rest : Lexemes) → Takes rule' listed ks ts i ls us j rest → Takes rule' by_first_item ks ts i ls us j rest
  unrolled ts us i j ls rest (is_seq (is_seq (is_many (is_left (is_seq (is_left g) m))) l) c) = is_left (is_seq g (is_seq (is_seq m l) c))
  unrolled ts us i j ls rest (is_seq (is_seq (is_many (is_left (is_seq (is_right (is_seq x k)) m))) l) c) = is_right (is_left (is_seq x (is_left (is_seq k (is_seq (is_seq m l) c)))))
  unrolled ts us i j ls rest (is_seq (is_seq (is_many (is_right is_nothing)) (is_left x)) c) = is_right (is_left (is_seq x (is_right c)))
  unrolled ts us i j ls rest (is_seq (is_seq (is_many (is_right is_nothing)) (is_right (is_left x))) c) = is_right (is_right (is_left (is_seq x c)))
  unrolled ts us i j ls rest (is_seq (is_seq (is_many (is_right is_nothing)) (is_right (is_right is_nothing))) c) = is_right (is_right (is_right c))

  pub rolled : {rule' : Symbol → G} (ts us : Slots) {ks : Slots} (i j : ℕ) (ls rest : Lexemes) → Takes rule' by_first_item ks ts i ls us j rest → Takes rule' listed ks ts i ls us j rest
  rolled ts us i j ls rest (is_left (is_seq g (is_seq (is_seq m l) c))) = is_seq (is_seq (is_many (is_left (is_seq (is_left g) m))) l) c
  rolled ts us i j ls rest (is_right (is_left (is_seq x (is_left (is_seq k (is_seq (is_seq m l) c)))))) = is_seq (is_seq (is_many (is_left (is_seq (is_right (is_seq x k)) m))) l) c
  rolled ts us i j ls rest (is_right (is_left (is_seq x (is_right c)))) = is_seq (is_seq (is_many (is_right is_nothing)) (is_left x)) c
  rolled ts us i j ls rest (is_right (is_right (is_left (is_seq x c)))) = is_seq (is_seq (is_many (is_right is_nothing)) (is_right (is_left x))) c
  rolled ts us i j ls rest (is_right (is_right (is_right c))) = is_seq (is_seq (is_many (is_right is_nothing)) (is_right (is_right is_nothing))) c

-- ---- the elements of an array literal

abbrev gap : G
gap = mk elision (tok Comma)

abbrev element : Flags → G
element f = symbol Argument f

-- what is left behind an element
abbrev rest : Flags → G
rest f = behind_one gap (element f) never (tok RBrack)

abbrev choice : Flags → G
choice f = by_first_item gap (element f) never (tok RBrack)

abbrev next_kinds : Look
next_kinds k w e = one_of_kinds (Comma ∷ RParen ∷ RBrack ∷ RCurly ∷ []) k

-- there and back again, at one place
pub turned : {text : List ℕ} {g g' : G} {s : ℕ} → Goes rule (Lex text) (plain full) end g s g' s (λ us. us) (still 0) → Goes rule (Lex text) (plain full) end g' s g s (λ us. us) (still 0)
turned {text} {g} {g'} {s} x = record {
  passes = x.passes;
  sound = λ us vs k ls rest l r d. back us vs k ls rest l d;
  only = λ ts vs k ls rest l d e. (ts, ls, refl, l, x.sound ts vs k ls rest l (near_none s ls) d, refl);
}
  where
    near_none : (s : ℕ) (ls : Lexemes) → Reaches 0 s ls
    near_none s (last y) = inl (omega arith)
    near_none s (next y ls) = near_none y.to ls

    back : (us vs : Slots) (k : ℕ) (ls rest : Lexemes) → Lexes (Lex text) s ls → Takes rule g end us s ls vs k rest → Takes rule g' end us s ls vs k rest
    back us vs k ls rest l d = let y = x.only us vs k ls rest l d (refl, refl) in subst (λ (v : Slots). Takes rule g' end v s ls vs k rest) (sym y.2) (subst (λ (v : Lexemes). Takes rule g' end y.0 s v vs k rest) (sym y.5) y.4)

module _ {text : List ℕ} (f : Flags) {s : ℕ} where
  unrolls : Goes rule (Lex text) (plain full) end (elements f) s (choice f) s (λ us. us) (still 0)
  unrolls = same (λ ts us i j ls rest d. unrolled gap (element f) never (tok RBrack) ts us i j ls rest d) (λ ts us i j ls rest d. rolled gap (element f) never (tok RBrack) ts us i j ls rest d)

  no_never : {X : Test} {b : G} → Fails rule (Lex text) X end (seq never b) s
  no_never = part_fails {X' = plain full} fails_never (record { admits = λ ts us vs j k ls mid rest d d' e. (refl, refl) })

  -- neither a comma nor the closing bracket stands here: an element is due
  element_due : NoneIs text s Comma → NoneIs text s RBrack → Goes rule (Lex text) (plain full) end (elements f) s (seq (element f) (rest f)) s (λ us. us) (still 0)
  element_due n m = unrolls ▹ (right (no_gap n) ▹ left (fails_alt no_never (no_closing m)))
    where
      no_gap : {X : Test} {b : G} → NoneIs text s Comma → Fails rule (Lex text) X end (seq gap b) s
      no_gap n = fails_here firsts (none_seen n)

      no_closing : {X : Test} → NoneIs text s RBrack → Fails rule (Lex text) X end (tok RBrack) s
      no_closing n = fails_here firsts (none_seen n)

  rest_fails : NoneIs text s Comma → NoneIs text s RBrack → Fails rule (Lex text) (plain full) end (rest f) s
  rest_fails n m = fails_alt (fails_here firsts (none_seen n)) (fails_here firsts (none_seen m))

  -- an element was read, or none can be
  element_read : {s' : ℕ} {l : Label} {cs : Slots} {pass : Lexemes → Lexemes} → Stretch text (plain next_kinds) (element f) s nothing s' (tree l cs) pass → Stretch text (plain full) (seq (element f) (rest f)) s (rest f) s' (tree l cs) pass
  unfolding covers
  element_read x = record { reach = x.reach; near = x.near; goes = then_by x.goes (by_first firsts (by_plain next_kinds) refl) }

  element_fails : Fails rule (Lex text) (plain next_kinds) end (element f) s → Fails rule (Lex text) (plain full) end (seq (element f) (rest f)) s
  unfolding covers
  element_fails n = part_fails n (by_first firsts (by_plain next_kinds) refl)

module _ {text : List ℕ} {f : Flags} {p : Parser} (a : At text f p) where
  -- the closing bracket stands here
  module _ (k : p.token.kind ≡ RBrack) where
    closes : Goes rule (Lex text) (plain full) end (elements f) p.prev_token_end (tok RBrack) p.prev_token_end (λ us. us) (still 0)
    unfolding rule rule_of covers
    closes = unrolls f ▹ at_kind a {X = plain full} {g = choice f} RBrack k refl

    rest_closes : Goes rule (Lex text) (plain full) end (rest f) p.prev_token_end (elements f) p.prev_token_end (λ us. us) (still 0)
    unfolding rule rule_of covers
    rest_closes = at_kind a {X = plain full} {g = rest f} RBrack k refl ▹ turned closes

    pub elements_end : {q : Parser} (ids : List (Option NodeId)) → Moved text f p q → Partway text f (elements f) nothing p q ids ids
    elements_end ids m = part_from closes (part_last RBrack a k (plain_sign RBrack a k refl refl closing_bracket_plain) refl m)

  -- a comma stands here
  module _ (k : p.token.kind ≡ Comma) where
    gap_here : Goes rule (Lex text) (plain full) end (elements f) p.prev_token_end (seq gap (elements f)) p.prev_token_end (λ us. us) (still 0)
    unfolding rule rule_of covers
    gap_here = unrolls f ▹ at_kind a {X = plain full} {g = choice f} Comma k refl

    rest_goes : {q : Parser} (ids : List (Option NodeId)) → Moved text f p q → Partway text f (rest f) (elements f) p q ids ids
    unfolding rule rule_of covers
    rest_goes ids m = part_from (at_kind a {X = plain full} {g = rest f} Comma k refl) (part_sign Comma a k (plain_sign Comma a k refl refl comma_plain) refl m)

    pub gap_taken : {q : Parser} {id : NodeId} (ids : List (Option NodeId)) → LeafTaken node.Elision op.None text f p q id → Partway text f (elements f) (elements f) p q ids (ids ++ Some id ∷ [])
    gap_taken {q} {id} ids t =
        let m = t.moved in
        let l : plain_label node.Elision op.None p.token.span ≡ label_here elision no_op p t.mid = ap (λ (v : ℕ). record { kind = elision; op = no_op; flags = 0; span = record { from = p.token.span.start; to = v } }) (m.tells.end ∙ m.ends) in
        let ks : Keeps p.nodes t.mid.nodes = subst (λ (ns : List Node). Keeps p.nodes ns) (sym m.nodes) (Keeps-refl p.nodes) in
        let y = noded {X = plain full} a (last_token Comma a k (plain_sign Comma a k refl refl comma_plain) refl m) in
        let held : Holds q.nodes (length p.nodes) (length q.nodes) id.0 (label_here elision no_op p t.mid) end = subst (λ (v : Label). Holds q.nodes (length p.nodes) (length q.nodes) id.0 v end) l (leaf_held t.made ks) in
        let kept : Keeps p.nodes q.nodes = Keeps-trans ks (Keeps-made t.made.made) in
        part_from gap_here (subst (λ (z : Parser). Partway text f (seq gap (elements f)) (elements f) p z ids (ids ++ Some id ∷ [])) (sym t.made.stays) (record {
          at = beside_nodes q.nodes m.at;
          same = same_with q.nodes m.same kept (made_lies m.same m.at.at (let i = m.further in omega arith) t.made (ap (λ (v : Label). v.span) l));
          further = m.further;
          slots = tree (label_here elision no_op p t.mid) end;
          puts = λ us. refl;
          pass = y.pass;
          walked = y.walked;
          verdict = verdict_of y.verdict (λ z. record { reach = z.reach; near = z.near; goes = then_by z.goes (record { admits = λ ts us vs j k ls mid rest d d' e. (refl, refl) }) }) (λ n. part_fails n (record { admits = λ ts us vs j k ls mid rest d d' e. (refl, refl) }));
          holds = λ lo us h. HoldsAll-next id kept h held;
          keeps = kept;
        }))

  module _ (n : NoneIs text p.prev_token_end Comma) (m : NoneIs text p.prev_token_end RBrack) where
    pub item_taken : {q : Parser} {id : NodeId} (ids : List (Option NodeId)) → ItemTaken text f (at Argument f) p q id → Partway text f (elements f) (rest f) p q ids (ids ++ Some id ∷ [])
    item_taken {q} {id} ids x = part_from (element_due f n m) (record {
      at = x.at;
      same = x.same;
      further = x.further;
      slots = tree x.label x.slots;
      puts = λ us. refl;
      pass = x.pass;
      walked = x.walked;
      verdict = verdict_of x.verdict (λ z. element_read f z) (λ z. element_fails f z);
      holds = λ lo us h. HoldsAll-next id x.keeps h x.holds;
      keeps = x.keeps;
    })

    pub no_item_taken : NoItem text (at Argument f) p.prev_token_end → Fails rule (Lex text) (plain full) end (elements f) p.prev_token_end
    no_item_taken z = element_due f n m ▹✗ element_fails f z

-- what stands behind an element
pub step_taken : {text : List ℕ} {f : Flags} {o p q : Parser} {ids js : List (Option NodeId)} (opening : Span) (s : ListStep) → Partway text f (elements f) (rest f) o p ids js → Steps RBrack opening false p q (Ok s) → Partway text f (elements f) (elements f) o q ids js
step_taken {text} {f} {o} {p} {q} {ids} {js} opening Element x (n, inl z) = absurd (false≢true z.0)
step_taken {text} {f} {o} {p} {q} {ids} {js} opening Element x (n, inr z) = parts x (rest_goes x.at z.1 js (moves (uncut x.at (ap (same_kind RAngle) z.1), ap unpassable z.1) z.2 x.at))
step_taken {text} {f} {o} {p} {q} {ids} {js} opening (EndAfterComma at) x z = parts x (rest_goes x.at z.1 js (moves (uncut x.at (ap (same_kind RAngle) z.1), ap unpassable z.1) z.3 x.at))
step_taken {text} {f} {o} {p} {q} {ids} {js} opening End x z = subst (λ (r : Parser). Partway text f (elements f) (elements f) o r ids js) (sym z.1) (part_goes x (rest_closes x.at z.0))

pub step_stops : {text : List ℕ} {f : Flags} {o p : Parser} {ids js : List (Option NodeId)} (q : Parser) (e : Stop) (opening : Option Span) → Partway text f (elements f) (rest f) o p ids js → (e ≡ Fatal → (false ≡ false) × (p.token.kind ≡ RBrack → ⊥) × (p.token.kind ≡ Comma → ⊥)) × GivesUp (IsHere ExpectClosingOrSeparator p opening) p q e → Stops o q e (Fails rule (Lex text) (plain full) end (elements f) o.prev_token_end)
unfolding apart
step_stops {f = f} {p = p} q Fatal opening x z =
    let n = z.0 refl in
    stops_behind q Fatal x.same (λ g. grown_behind x.verdict g) (λ i. part_path_fails x i) (gives_up (IsHere ExpectClosingOrSeparator p opening) p q Fatal x.at z.1 (here_ends ExpectClosingOrSeparator refl) (rest_fails f (none_there Comma x.at refl n.2) (none_there RBrack x.at refl n.1)))
step_stops q NoMemory opening x z = tt

pub item_stops : {text : List ℕ} {f : Flags} {p : Parser} (q : Parser) (e : Stop) → At text f p → StandsHere p Comma false → StandsHere p RBrack false → Stops p q e (NoItem text (at Argument f) p.prev_token_end) → Stops p q e (Fails rule (Lex text) (plain full) end (elements f) p.prev_token_end)
item_stops {p = p} q e a n m z = stops_so p q e (λ i. no_item_taken a (stands_not a refl n) (stands_not a refl m) i) z

-- ---- the loop

pub record ElementLoop (opening : Span) (ids : List (Option NodeId)) (p q : Parser) : Type 0 where
  pub at : Standing q
  pub opened : Opened q opening
  pub less : room q < room p
  pub goes : (text : List ℕ) (f : Flags) → At text f p → Partway text f (array_of f) (elements f) p q [] ids

array_opened : {text : List ℕ} {f : Flags} {p q : Parser} → At text f p → p.token.kind ≡ LBrack → Moved text f p q → Partway text f (array_of f) (elements f) p q [] []
array_opened a k m = part_sign LBrack a k (plain_sign LBrack a k refl refl bracket_plain) refl m

pub loop_start : {s : Span} {p q : Parser} {ids : List (Option NodeId)} → ids ≡ [] → s ≡ p.token.span → Standing p → p.token.kind ≡ LBrack → Moves p q → ElementLoop s ids p q
loop_start {s} {p} {q} {ids} i e a k m = record {
  at = standing (m _ _ a).at;
  opened = subst (λ (v : Span). Opened q v) (sym e) (opened_here a (ap (one_of_kinds (LParen ∷ LBrack ∷ LCurly ∷ [])) k) (m _ _ a));
  less = nested_room a (m _ _ a);
  goes = λ text f b. subst (λ (v : List (Option NodeId)). Partway text f (array_of f) (elements f) p q [] v) (sym i) (array_opened b k (m text f b));
}

pub loop_element : {s : Span} {ids js : List (Option NodeId)} {p q r : Parser} {id : NodeId} → ElementLoop s ids p q → TakesElement q r (Ok id) → js ≡ ids ++ Some id ∷ [] → ElementLoop s js p r
loop_element {s} {ids} {js} {p} {q} {r} l d e =
    let x = d _ _ l.at [] in
    let further : q.prev_token_end ≤ r.prev_token_end = (let i = x.further in let j = l.at.behind in omega arith) in
    record {
      at = standing x.at;
      opened = opened_later x.same further l.opened;
      less = let i = later_room further x.same in let j = l.less in omega arith;
      goes = λ text f a. let y = l.goes text f a in subst (λ (v : List (Option NodeId)). Partway text f (array_of f) (elements f) p r [] v) (sym e) (parts y (d text f y.at ids));
    }

pub element_less : {s : Span} {ids : List (Option NodeId)} {p q r : Parser} {id : NodeId} → ElementLoop s ids p q → TakesElement q r (Ok id) → room r < room q
element_less l d =
    let x = d _ _ l.at [] in
    let b = x.further in let c = l.at.behind in let e = l.at.at.between.0 in let g = x.same.follows.text in let i = x.at.at.between.0 in omega (arith, ap length g)

pub loop_stops : {s : Span} {ids : List (Option NodeId)} {text : List ℕ} {f : Flags} {p q : Parser} (r : Parser) (e : Stop) → ElementLoop s ids p q → (a : At text f p) → TakesElement q r (Err e) → Stops p r e (Fails rule (Lex text) (plain full) end (array_of f) p.prev_token_end)
loop_stops {text = text} {f} r e l a d = let y = l.goes text f a in stops_behind r e y.same (λ g. grown_behind y.verdict g) (λ n. part_path_fails y n) (d text f y.at)

pub loop_end : {s : Span} {ids : List (Option NodeId)} {p q r : Parser} → ElementLoop s ids p q → q.token.kind ≡ RBrack → MovesOn q r → Elements ids p r
loop_end {ids = ids} l k v text f a = let y = l.goes text f a in parts y (elements_end y.at k ids (moves (uncut y.at (ap (same_kind RAngle) k), ap unpassable k) v y.at))

-- ---- the node

module _ {text : List ℕ} {f : Flags} {p : Parser} (a : At text f p) (k : p.token.kind ≡ LBrack) where
  alone : Goes rule (Lex text) (after (at Primary f)) end (rule (at Primary f)) p.prev_token_end (mk array_expression (array_of f)) p.prev_token_end (λ us. us) (still 0)
  unfolding rule rule_of covers
  alone = at_kind a LBrack k refl

  pub no_array : Fails rule (Lex text) (plain full) end (array_of f) p.prev_token_end → Underived text (at Primary f) p.prev_token_end
  no_array n = fails_by (alone ▹✗ fails_node inside_full n)

  pub array_answers : {q w : Parser} {ids : List (Option NodeId)} {id : NodeId} {s : Span} → Elements ids p q → s.start ≡ p.token.span.start → s.end ≡ q.prev_token_end → MadeHere (plain_label node.ArrayExpression op.None s) ids q w id → Numbered text f (at Primary f) p w id
  array_answers {q} {w} {ids} {id} {s} x b c n =
      let y = x text f a in
      let l : plain_label node.ArrayExpression op.None s ≡ label_here array_expression no_op p q = rw (b, c) refl in
      let made : MadeHere (label_here array_expression no_op p q) ids q w id = subst (λ (v : Label). MadeHere v ids q w id) l n in
      by_path (alone ⟼ noded a (part_path y)) y.same made.stays (behind_primary f.in_ (label_here array_expression no_op p q) (y.slots end) text q.prev_token_end) refl
      (node_held made (y.holds (length p.nodes) end (HoldsAll-none p.nodes (length p.nodes) (length p.nodes) (omega arith)))) (Keeps-trans y.keeps (Keeps-made made.made)) refl (one_lies made)

-- ---- answers of calls

pub gap_outcome : (p q : Parser) (r : Result NodeId Stop) → p.token.kind ≡ Comma → MatchResult r (λ id. TakesLeaf node.Elision op.None p q id) OnlyMemory → TakesElement p q r
gap_outcome p q (Ok id) k m = λ text f a ids. gap_taken a k ids (m text f a)
gap_outcome p q (Err Fatal) k m = absurd m
gap_outcome p q (Err NoMemory) k m = λ text f a. tt

pub ending_stops : (o p q : Parser) (e : Stop) (F : Type 0) (P : Diagnostic → Type 0) → p.token.kind ≡ RBrack → (e ≡ Fatal → p.token.kind ≡ RBrack → ⊥) × GivesUp P p q e → Stops o q e F
ending_stops o p q Fatal F P k z = absurd (z.0 refl k)
ending_stops o p q NoMemory F P k z = tt
