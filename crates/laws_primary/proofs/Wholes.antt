-- Parts of a node that anything may follow, one behind the other; and what is made of them.
use Rattle.std.proofs.Common.{ℕ, ◌≡◌, max, List, [], ◌∷◌, ◌++◌, length, Option, Some, None, refl, sym, subst, arith}
use Rattle.std.specs.Prelude.{Result, Ok, Err}
use Rattle.js_grammar.specs.Trees.{Label, Slots, end, hole, tree}
use Rattle.js_grammar.specs.Grammar.{seq, such, nothing, empty_slot}
use Rattle.js_grammar.specs.Parsing.{Test, plain, full, always, still, Goes}
use Rattle.js_grammar.specs.Productions.{G, Flags, Symbol}
use Rattle.js_grammar.specs.Follow.{after}
use Rattle.js_grammar.specs.Table.{rule}
use Rattle.js_grammar.proofs.Calculus.{On, ◌▹◌, ◌▹✗◌, by_rule, fails_rule, part_fails, reads_empty_slot, then_by, weaken, weaken_fails}
use Rattle.js_grammar.proofs.Frame.{append_assoc}
use Rattle.laws_shared.specs.js_tree.declared.id.NodeId.{NodeId}
use Rattle.laws_shared.specs.js_tree.Nodes.{Node}
use Rattle.laws_shared.specs.js_tree.Holding.{Holds, HoldsAll, Keeps}
use Rattle.laws_shared.proofs.js_tree.HoldingLemmas.{HoldsAll-hole, HoldsAll-next}
use Rattle.laws_shared.specs.js_cursor.Parsers.{Parser}
use Rattle.laws_shared.specs.js_cursor.declared.stop.Stop.{Stop}
use Rattle.laws_primary.specs.Spreads.{PartOutcome}
use Rattle.laws_shared.specs.Answers.{Numbered}
use Rattle.laws_shared.specs.Arguments.{ItemOutcome, PartTaken, Partway, behind_item}
use Rattle.laws_shared.specs.Lexemes.{Lex}
use Rattle.laws_shared.specs.Methods.{WholeTaken}
use Rattle.laws_shared.specs.States.{Same, NodesLie}
use Rattle.laws_shared.proofs.MadeNodes.{LabelLies, from_start}
use Rattle.laws_shared.proofs.Moving.{beside_nodes, same_with, stops_so}
use Rattle.laws_shared.proofs.Paths.{Path, last_called}
use Rattle.laws_shared.proofs.Verdicts.{verdict_of}

module _ {text : List ℕ} {f : Flags} {g : G} {p q : Parser} {id : NodeId} (x : WholeTaken text f g p q id) where
  -- it is the next child
  pub whole_part : {b : G} (ids : List (Option NodeId)) → Partway text f (seq g b) b p q ids (ids ++ Some id ∷ [])
  whole_part ids = record {
    at = x.at;
    same = x.same;
    further = x.further;
    slots = tree x.label x.slots;
    puts = λ us. refl;
    pass = x.pass;
    walked = x.walked;
    verdict = verdict_of x.verdict (λ y. record { reach = y.reach; near = y.near; goes = then_by {X' = plain full} y.goes (record { admits = λ ts us vs j k ls mid rest d d' e. (refl, refl) }) }) (λ n. part_fails {X' = plain full} n (record { admits = λ ts us vs j k ls mid rest d d' e. (refl, refl) }));
    holds = λ lo us h. HoldsAll-next id x.keeps h x.holds;
    keeps = x.keeps;
  }

  -- and the last one
  pub whole_last : (ids : List (Option NodeId)) → Partway text f g nothing p q ids (ids ++ Some id ∷ [])
  whole_last ids = record {
    at = x.at;
    same = x.same;
    further = x.further;
    slots = tree x.label x.slots;
    puts = λ us. refl;
    pass = x.pass;
    walked = x.walked;
    verdict = x.verdict;
    holds = λ lo us h. HoldsAll-next id x.keeps h x.holds;
    keeps = x.keeps;
  }

  -- an empty slot stands before it
  pub whole_behind_hole : {b : G} → Partway text f (seq empty_slot (seq g b)) b p q [] (None ∷ Some id ∷ [])
  whole_behind_hole {b} = record {
    at = x.at;
    same = x.same;
    further = x.further;
    slots = λ us. hole (tree x.label x.slots us);
    puts = λ us. refl;
    pass = x.pass;
    walked = x.walked;
    verdict = verdict_of x.verdict
        (λ y. record { reach = max 0 y.reach; near = let i = y.near in omega arith; goes = then_by {X' = plain full} reads_empty_slot (record { admits = λ ts us vs j k ls mid rest d d' e. (refl, refl) }) ▹ then_by {X' = plain full} y.goes (record { admits = λ ts us vs j k ls mid rest d d' e. (refl, refl) }) })
        (λ n. then_by {X = plain full} {X' = plain full} reads_empty_slot (record { admits = λ ts us vs j k ls mid rest d d' e. (refl, refl) }) ▹✗ part_fails {X' = plain full} n (record { admits = λ ts us vs j k ls mid rest d d' e. (refl, refl) }));
    holds = λ lo us h. subst (λ (vs : Slots). HoldsAll q.nodes lo (length q.nodes) (None ∷ Some id ∷ []) vs) (append_assoc us (hole end) (tree x.label x.slots end)) (HoldsAll-next id x.keeps (HoldsAll-hole h) x.holds);
    keeps = x.keeps;
  }

-- a nonterminal that anything may follow
pub whole_of : {text : List ℕ} {f : Flags} {n : Symbol} {p q : Parser} {id : NodeId} (x : Numbered text f n p q id) → On rule (plain full) (after n) end (such n always) p.prev_token_end → WholeTaken text f (such n always) p q id
whole_of x c = let y = last_called {X = plain full} x.answer c in record { at = x.answer.at; same = x.answer.same; further = x.answer.further; label = x.answer.label; slots = x.answer.slots; pass = y.pass; walked = y.walked; verdict = y.verdict; holds = x.holds; keeps = x.keeps }

-- ---- what is left of a form, under another test

pub part_under : {text : List ℕ} {f : Flags} {g g' : G} {p q : Parser} {ids js : List (Option NodeId)} {X : Test} (x : Partway text f g g' p q ids js) → Path text f X g p g' q x.slots
part_under x = record { at = x.at; further = x.further; pass = x.pass; walked = x.walked; verdict = verdict_of x.verdict (λ y. record { reach = y.reach; near = y.near; goes = weaken y.goes (λ ts y e. (refl, refl)) }) (λ n. weaken_fails n (λ ts y e. (refl, refl))) }

-- ---- answers by their paths

module _ {text : List ℕ} {f : Flags} {g : G} {p q w : Parser} {l : Label} {cs : Slots} {id : NodeId} (b : Same p q) (e : w ≡ record q { nodes = w.nodes }) (h : Holds w.nodes (length p.nodes) (length w.nodes) id.0 l cs) (k : Keeps p.nodes w.nodes) (i : l.span ≡ record { from = p.token.span.start; to = q.prev_token_end }) (m : LabelLies q.text l → NodesLie q.text q.nodes → NodesLie q.text w.nodes) where
  pub whole_answers : Path text f (plain full) g p nothing q (tree l cs) → WholeTaken text f g p w id
  whole_answers y = go w.nodes e h k m
    where
      go : (ns : List Node) → w ≡ record q { nodes = ns } → Holds w.nodes (length p.nodes) (length w.nodes) id.0 l cs → Keeps p.nodes w.nodes → (LabelLies q.text l → NodesLie q.text q.nodes → NodesLie q.text w.nodes) → WholeTaken text f g p w id
      go ns e h k m = subst (λ (r : Parser). WholeTaken text f g p r id) (sym e) (record {
        at = beside_nodes ns y.at;
        same = same_with ns b (subst (λ (r : Parser). Keeps p.nodes r.nodes) e k) (λ c z. subst (λ (r : Parser). NodesLie q.text r.nodes) e (m (from_start l b y.at.at (let g = y.further in omega arith) i c) z));
        further = y.further;
        label = l;
        slots = cs;
        pass = y.pass;
        walked = y.walked;
        verdict = y.verdict;
        holds = subst (λ (r : Parser). Holds r.nodes (length p.nodes) (length r.nodes) id.0 l cs) e h;
        keeps = subst (λ (r : Parser). Keeps p.nodes r.nodes) e k;
      })

  pub part_answers : Path text f behind_item g p nothing q (tree l cs) → PartTaken text f g p w id
  part_answers y = go w.nodes e h k m
    where
      go : (ns : List Node) → w ≡ record q { nodes = ns } → Holds w.nodes (length p.nodes) (length w.nodes) id.0 l cs → Keeps p.nodes w.nodes → (LabelLies q.text l → NodesLie q.text q.nodes → NodesLie q.text w.nodes) → PartTaken text f g p w id
      go ns e h k m = subst (λ (r : Parser). PartTaken text f g p r id) (sym e) (record {
        at = beside_nodes ns y.at;
        same = same_with ns b (subst (λ (r : Parser). Keeps p.nodes r.nodes) e k) (λ c z. subst (λ (r : Parser). NodesLie q.text r.nodes) e (m (from_start l b y.at.at (let g = y.further in omega arith) i c) z));
        further = y.further;
        label = l;
        slots = cs;
        pass = y.pass;
        walked = y.walked;
        verdict = y.verdict;
        holds = subst (λ (r : Parser). Holds r.nodes (length p.nodes) (length r.nodes) id.0 l cs) e h;
        keeps = subst (λ (r : Parser). Keeps p.nodes r.nodes) e k;
      })

-- ---- a choice that leaves this form

module _ (text : List ℕ) (f : Flags) (p : Parser) where
  pub part_by : {g g' : G} (q : Parser) (r : Result NodeId Stop) → Goes rule (Lex text) behind_item end g p.prev_token_end g' p.prev_token_end (λ us. us) (still 0) → PartOutcome text f g' p q r → PartOutcome text f g p q r
  part_by q (Ok id) c x = record { at = x.at; same = x.same; further = x.further; label = x.label; slots = x.slots; pass = x.pass; walked = x.walked; verdict = verdict_of x.verdict (λ y. record { reach = max 0 y.reach; near = let i = y.near in omega arith; goes = c ▹ y.goes }) (λ n. c ▹✗ n); holds = x.holds; keeps = x.keeps }
  part_by q (Err e) c x = stops_so p q e (λ n. c ▹✗ n) x

  -- of the line of a nonterminal
  pub item_by : (n : Symbol) {g : G} (q : Parser) (r : Result NodeId Stop) → Goes rule (Lex text) behind_item end (rule n) p.prev_token_end g p.prev_token_end (λ us. us) (still 0) → PartOutcome text f g p q r → ItemOutcome text f n p q r
  item_by n q (Ok id) c x = record { at = x.at; same = x.same; further = x.further; label = x.label; slots = x.slots; pass = x.pass; walked = x.walked; verdict = verdict_of x.verdict (λ y. record { reach = max 0 y.reach; near = let i = y.near in omega arith; goes = by_rule {X' = behind_item} (λ l cs vs y e. e) (c ▹ y.goes) refl }) (λ n. fails_rule {X' = behind_item} (λ l cs vs y e. e) (c ▹✗ n)); holds = x.holds; keeps = x.keeps }
  item_by n q (Err e) c x = stops_so p q e (λ n. fails_rule {X' = behind_item} (λ l cs vs y e. e) (c ▹✗ n)) x
