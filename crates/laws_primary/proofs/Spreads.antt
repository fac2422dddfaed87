-- Items of arguments and array literals: an AssignmentExpression, spread or not (ECMA-262, 13.2.4, 13.3.8).
use Rattle.std.proofs.Common.{ℕ, ◌≡◌, max, List, [], ◌∷◌, length, Some, Bool, true, false, refl, sym, ap, subst, arith}
use Rattle.std.specs.Prelude.{Result, Ok, Err}
use Rattle.js_base.specs.declared.diagnostic.Diagnostic.{Diagnostic}
use Rattle.js_base.specs.declared.kind.Kind.TheVariants.{RCurly, Dot3, Comma, RParen, RBrack}
use Rattle.js_base.specs.declared.span.Span.{Span}
use Rattle.js_base.specs.Kinds.{one_of_kinds}
use Rattle.js_grammar.specs.Marks.{Mark}
use Rattle.js_grammar.specs.Trees.{Label, Slots, end, tree, no_op, spread_element}
use Rattle.js_grammar.specs.Grammar.{Lexeme, Lexemes, Look, here, is, alt, such, nothing, ◌▸◌}
use Rattle.js_grammar.specs.Parsing.{Test, always, still, joined, Admits, Goes, Fails}
use Rattle.js_grammar.specs.Productions.{G, Flags, Symbol, at, tok, mk, plus_in, Argument, Assignment}
use Rattle.js_grammar.specs.Productions.{sym as symbol}
use Rattle.js_grammar.specs.Table.{rule, rule_of}
use Rattle.js_grammar.specs.FirstSets.{first as first_of}
use Rattle.js_grammar.specs.Follow.{after, surest}
use Rattle.js_grammar.proofs.Looks.{covers, covered, apart, not_both}
use Rattle.js_grammar.proofs.Calculus.{◌▹◌, ◌▹✗◌, stay, left, right, fails_alt, weaken, weaken_fails, by_rule, fails_rule, fails_node, inside_plain}
use Rattle.js_grammar.proofs.FirstClaims.{firsts}
use Rattle.js_grammar.proofs.FirstRules.{fails_here}
use Rattle.js_grammar.proofs.FollowLaws.{surely}
use Rattle.laws_shared.specs.js_tree.declared.id.NodeId.{NodeId}
use Rattle.laws_shared.specs.js_tree.declared.kind.NodeKind.TheVariants as node
use Rattle.laws_shared.specs.js_tree.declared.op.Op.TheVariants as op
use Rattle.laws_shared.specs.js_tree.Nodes.{Node}
use Rattle.laws_shared.specs.js_tree.Holding.{Holds, Keeps}
use Rattle.laws_shared.proofs.js_tree.HoldingLemmas.{Keeps-trans, Keeps-made}
use Rattle.laws_shared.specs.js_cursor.Moves.{KeepsDiagnostic}
use Rattle.laws_shared.specs.js_cursor.Parsers.{Parser}
use Rattle.laws_shared.specs.js_cursor.Places.{goal}
use Rattle.laws_shared.specs.js_cursor.declared.stop.Stop.{Stop}
use Rattle.laws_shared.specs.Lexemes.{Lex, spot}
use Rattle.laws_shared.specs.States.{At}
use Rattle.laws_shared.specs.Answers.{Answer, unclean, Stretch, Underived, Numbered, Outcome, Stops}
use Rattle.laws_shared.specs.Arguments.{item_of, behind_item, NoItem, ItemTaken, ItemOutcome, PartTaken, spread_at}
use Rattle.laws_shared.specs.Stands.{StandsHere}
use Rattle.laws_shared.specs.Moves.{Moved, MadeHere, plain_label}
use Rattle.laws_shared.proofs.Signs.{none_seen, NoneIs, AllAre}
use Rattle.laws_primary.proofs.ArgumentLists.{is_that}
use Rattle.laws_primary.specs.Spreads.{PartOutcome, spread}
use Rattle.laws_primary.proofs.Wholes.{item_by, part_answers}
use Rattle.laws_shared.proofs.MadeNodes.{one_held, one_lies}
use Rattle.laws_shared.proofs.Signs.{stands_not, stands_there}
use Rattle.laws_shared.proofs.Moving.{same_both, stops_so, stops_behind}
use Rattle.laws_shared.proofs.Paths.{Path, ◌⟶◌, ◌⟶✗◌, token, last_called, noded_by, label_here, walked_from}
use Rattle.laws_shared.proofs.Verdicts.{verdict_of, grown_both, grown_on}
use Rattle.laws_shared.proofs.Giving.{kept_one}
use Rattle.laws_shared.proofs.Told.{told_same, lexeme_marked}
use Rattle.laws_shared.specs.Classes.{IsEarly}

abbrev next_kinds : Look
next_kinds k w e = one_of_kinds (Comma ∷ RParen ∷ RBrack ∷ RCurly ∷ []) k

pub ends_all : covers next_kinds (surest Assignment) ≡ true
unfolding covers
ends_all = refl

-- an assignment ends before them
pub ends_there : (f : Flags) (ts : Slots) (y : Lexeme) → Admits behind_item ts y → Admits (after (at Assignment f)) ts y
ends_there f ts y e = (surely (at Assignment f)).admits ts y (covered next_kinds (surest Assignment) ends_all y.kind y.newline y.escaped e.0)

abbrev inner : Flags → G
inner f = symbol Assignment (plus_in f)

abbrev spread_slots : Flags → G
spread_slots f = tok Dot3 ▸ inner f

argument_left : (f : Flags) → rule (at Argument f) ≡ alt (inner f) (mk spread_element (spread_slots f))
unfolding rule rule_of
argument_left f = refl

-- no assignment begins with `...`
no_dots : (f : Flags) → apart (first_of (at Assignment (plus_in f))) (is Dot3) ≡ true
unfolding apart
no_dots f = refl

module _ {text : List ℕ} (f : Flags) where
  to_argument : {X : Test} {s : ℕ} → Goes rule (Lex text) X end (rule (at Argument f)) s (alt (inner f) (mk spread_element (spread_slots f))) s (λ us. us) (still 0)
  to_argument {X} {s} = subst (λ (g : G). Goes rule (Lex text) X end (rule (at Argument f)) s g s (λ us. us) (still 0)) (argument_left f) stay

  module _ {s : ℕ} (n : NoneIs text s Dot3) where
    no_spread : {X : Test} → Fails rule (Lex text) X end (mk spread_element (spread_slots f)) s
    no_spread = fails_here firsts (none_seen n)

    -- an item without `...`
    item_read : (i : Bool) {s' : ℕ} {l : Label} {cs : Slots} {pass : Lexemes → Lexemes} → Stretch text (after (at Assignment (plus_in f))) (such (at Assignment (plus_in f)) always) s nothing s' (tree l cs) pass → Stretch text behind_item (such (item_of i f) always) s nothing s' (tree l cs) pass
    item_read true x = record { reach = max 0 (max 0 x.reach); near = let i = x.near in omega arith; goes = by_rule {X' = behind_item} (λ l cs vs y e. e) (to_argument ▹ (left no_spread ▹ weaken x.goes (λ ts y e. ends_there (plus_in f) ts y e))) refl }
    item_read false x = record { reach = x.reach; near = x.near; goes = weaken x.goes (λ ts y e. ends_there (plus_in f) ts y e) }

    no_item : (i : Bool) → Underived text (at Assignment (plus_in f)) s → NoItem text (item_of i f) s
    no_item true x = fails_rule {X' = behind_item} (λ l cs vs y e. e) (to_argument ▹✗ fails_alt (weaken_fails x (λ ts y e. ends_there (plus_in f) ts y e)) no_spread)
    no_item false x = weaken_fails x (λ ts y e. ends_there (plus_in f) ts y e)

pub plain_item : {text : List ℕ} {f : Flags} {p : Parser} (i : Bool) (q : Parser) (r : Result NodeId Stop) → At text f p → StandsHere p Dot3 false → Outcome text f (at Assignment (plus_in f)) p q r → ItemOutcome text f (item_of i f) p q r
plain_item {text} {f} {p} i q (Ok id) a s x =
    let n : NoneIs text p.prev_token_end Dot3 = stands_not a refl s in
    record {
      at = x.answer.at;
      same = x.answer.same;
      further = x.answer.further;
      label = x.answer.label;
      slots = x.answer.slots;
      pass = x.answer.pass;
      walked = x.answer.walked;
      verdict = verdict_of x.answer.verdict (λ y. item_read f n i y) (λ z. no_item f n i z);
      holds = x.holds;
      keeps = x.keeps;
    }
plain_item {text} {f} {p} i q (Err e) a s x = let n : NoneIs text p.prev_token_end Dot3 = stands_not a refl s in stops_so p q e (λ z. no_item f n i z) x

-- ---- behind `...`

module _ {text : List ℕ} {f : Flags} {p : Parser} (a : At text f p) (k : StandsHere p Dot3 true) where
  all_dots : AllAre text p.prev_token_end Dot3
  all_dots = stands_there a k.0 refl

  -- no item is spread where none may be
  no_plain_item : {X : Test} → Fails rule (Lex text) X end (inner f) p.prev_token_end
  no_plain_item = fails_here firsts (λ y l h. not_both (first_of (at Assignment (plus_in f))) (is Dot3) (no_dots f) y.kind y.newline y.escaped h (is_that Dot3 y (all_dots y l)))

  only_spread : {X : Test} → Goes rule (Lex text) X end (rule (at Argument f)) p.prev_token_end (mk spread_element (spread_slots f)) p.prev_token_end (λ us. us) (joined (still 0) (still 0))
  only_spread = to_argument f ▹ right no_plain_item

  -- it is read as an argument
  pub spread_item : (q : Parser) (r : Result NodeId Stop) → PartOutcome text f (spread f) p q r → ItemOutcome text f (at Argument f) p q r
  spread_item q r x = item_by text f p (at Argument f) q r only_spread x

  module _ {q : Parser} (m : Moved text f p q) where
    pub spread_fails : Underived text (at Assignment (plus_in f)) q.prev_token_end → Fails rule (Lex text) behind_item end (spread f) p.prev_token_end
    unfolding covers
    spread_fails n = fails_node (inside_plain {F' = next_kinds} refl) (token Dot3 a k.0 k.1 refl m ⟶✗ weaken_fails n (λ ts y e. ends_there (plus_in f) ts y e))

    spread_read : {r : Parser} (x : Answer text f (at Assignment (plus_in f)) q r) → Path text f behind_item (spread f) p nothing r (tree (label_here spread_element no_op p r) (tree x.label x.slots end))
    unfolding covers
    spread_read {r} x = noded_by a (inside_plain {F' = next_kinds} refl) (token Dot3 a k.0 k.1 refl m ⟶ last_called x (record { admits = λ ts vs k ls rest d e. ends_there (plus_in f) ts (here rest) e }))

    module _ {r w : Parser} {argument id : NodeId} {s : Span} (x : Numbered text f (at Assignment (plus_in f)) q r argument) (b : s.start ≡ p.token.span.start) (c : s.end ≡ r.prev_token_end) (n : MadeHere (plain_label node.SpreadElement op.None s) (Some argument ∷ []) r w id) where
      made : MadeHere (label_here spread_element no_op p r) (Some argument ∷ []) r w id
      made = subst (λ (v : Label). MadeHere v (Some argument ∷ []) r w id) (rw (b, c) refl) n

      pub spread_taken : PartTaken text f (spread f) p w id
      spread_taken = part_answers (same_both m.same x.answer.same) made.stays (one_held p.nodes made (subst (λ (ns : List Node). Holds r.nodes (length ns) (length r.nodes) argument.0 x.answer.label x.answer.slots) m.nodes x.holds)) (Keeps-trans (subst (λ (ns : List Node). Keeps ns r.nodes) m.nodes x.keeps) (Keeps-made made.made)) refl (one_lies made) (spread_read x.answer)

-- where none may be spread, that was told first
module _ {text : List ℕ} {f : Flags} {p o : Parser} {d : Diagnostic} (a : At text f p) (k : StandsHere p Dot3 true) (t : KeepsDiagnostic d p o) where
  pub no_spread_here : NoItem text (at Assignment (plus_in f)) p.prev_token_end
  no_spread_here = no_plain_item a k

  pub told_dots : StandsHere o Dot3 true
  told_dots = subst (λ (z : Parser). StandsHere z Dot3 true) (sym t.is) k

  told_nodes : o.nodes ≡ p.nodes
  told_nodes = ap (λ (z : Parser). z.nodes) t.is

  pub spread_told : IsEarly d → {n : Symbol} {w : Parser} {id : NodeId} → ItemTaken text f n o w id → ItemTaken text f (at Assignment (plus_in f)) p w id
  spread_told early {w = w} {id} y = record {
    at = y.at;
    same = same_both (told_same t early) y.same;
    further = let i = y.further in let e = ap (λ (z : Parser). z.token.span.start) t.is in omega arith;
    label = y.label;
    slots = y.slots;
    pass = y.pass;
    walked = walked_from (ap (λ (z : Parser). spot z) t.is) y.walked;
    verdict = unclean (grown_on (kept_one t) y.verdict) no_spread_here;
    holds = subst (λ (ns : List Node). Holds w.nodes (length ns) (length w.nodes) id.0 y.label y.slots) told_nodes y.holds;
    keeps = subst (λ (ns : List Node). Keeps ns w.nodes) told_nodes y.keeps;
  }

  pub told_stops : IsEarly d → (q : Parser) (e : Stop) (F : Type 0) → Stops o q e F → Stops p q e (NoItem text (at Assignment (plus_in f)) p.prev_token_end)
  told_stops early q e F z = stops_behind q e (told_same t early) (λ g. grown_both (kept_one t) g) (λ n. no_spread_here) z

pub told_outcome : {text : List ℕ} {f : Flags} {p o : Parser} {d : Diagnostic} (w : Parser) (r : Result NodeId Stop) → At text f p → StandsHere p Dot3 true → KeepsDiagnostic d p o → IsEarly d → ItemOutcome text f (at Argument f) o w r → ItemOutcome text f (at Assignment (plus_in f)) p w r
told_outcome w (Ok id) a k t i y = spread_told a k t i y
told_outcome w (Err e) a k t i z = told_stops a k t i w e _ z

pub spread_marked : {text : List ℕ} {f : Flags} {p : Parser} (s : Span) → At text f p → StandsHere p Dot3 true → s ≡ p.token.span → Mark (goal p) p.text (spread_at s)
spread_marked {p = p} s a h e = subst (λ (v : Span). Mark (goal p) p.text (spread_at v)) (sym e) (record {
  ordered = a.at.lies.ordered;
  within = a.at.lies.ends_whole.0;
  begins_between = a.at.lies.starts_whole;
  ends_between = a.at.lies.ends_whole;
  stands = (lexeme_marked a h refl refl, (refl, refl));
})
