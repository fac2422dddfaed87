-- What a call answers, by what the conversion says and what was told (ECMA-262, 13.15.5).
use Rattle.std.proofs.Common.{ℕ, suc, ◌≡◌, ◌≤◌, ◌<◌, inl, inr, Bool, true, false, cond, List, [], ◌∷◌, drop, length, Option, Some, None, refl, sym, ap, subst, arith, ◌∙◌, append-nil}
use Rattle.std.specs.List.{All}
use Rattle.std.proofs.lemmas.List.Elements.{All-nil}
use Rattle.std.specs.Prelude.{Result, Ok, Err}
use Rattle.std.proofs.lemmas.Bool.{false≢true}
use Rattle.js_base.specs.declared.diagnostic.Diagnostic.{Diagnostic}
use Rattle.js_grammar.specs.Productions.{Flags, Symbol}
use Rattle.js_grammar.specs.Trees.{Label, Slots, end, tree, assignment_target_with_default}
use Rattle.parse_shared.specs.js_tree.declared.id.NodeId.{NodeId}
use Rattle.parse_shared.specs.js_tree.Nodes.{Node}
use Rattle.parse_shared.specs.js_tree.Holding.{StandsAll, no_slots, next_child, AreWithin, AreDistinct, Holds, Keeps}
use Rattle.parse_shared.proofs.js_tree.HoldingLemmas.{Keeps-longer, Holds-below, Holds-range, Stands-within, Stands-below, AreWithin-wider}
use Rattle.parse_shared.specs.js_cursor.Moves.{GivesUp, IsUnexpected}
use Rattle.parse_shared.specs.js_cursor.Parsers.{Parser}
use Rattle.parse_shared.specs.js_cursor.declared.stop.Stop.{Stop}
use Rattle.parse_shared.specs.js_cursor.declared.stop.Stop.TheVariants.{Fatal, NoMemory}
use Rattle.parse_shared.specs.laws_shared.Answers.{Grown, Verdict, clean}
use Rattle.parse_shared.specs.laws_shared.States.{At, Same, NodesLie, Standing, flags_of}
use Rattle.parse_shared.proofs.laws_shared.Giving.{gives_up_here}
use Rattle.parse_shared.proofs.laws_shared.Moving.{beside_nodes, same_both, same_itself, same_with, standing, stops_behind}
use Rattle.parse_targets.specs.declared.widening.Widening.{Widening}
use Rattle.parse_targets.specs.Taken.{EachTold, PlacesTold}
use Rattle.parse_targets.specs.Targets.{Each, Fits, Narrow, Spotted, Noted, unnoted, Converted, converts, refuses, Converts, RefusesTarget, OfNode, OfTarget, Reused, Slotted, Stood, one_node, is_assignment, relabelled}
use Rattle.parse_targets.proofs.ReusedNodes.{below_in, children_of}
use Rattle.parse_targets.specs.Covered.{Answered, IsAssignment, KeepsInitialiser, an_expression, in_an_element, element_answer, target_answer, Covers, CoversAs, Finishes, Refused, Read, ReadBefore}
use Rattle.parse_targets.proofs.Laws.{Law}

-- ---- the target's node

pub within_reused : (lo a b : ℕ) (rs qs : List ℕ) → AreWithin lo a rs → lo ≤ a → a ≤ b → Each (Reused rs a b) qs → AreWithin lo b qs
within_reused lo a b rs [] w i j h = tt
within_reused lo a b rs (q ∷ qs) w i j h = ((one h.0).0, (one h.0).1, within_reused lo a b rs qs w i j h.1)
  where
    one : Reused rs a b q → (lo ≤ q) × (q < b)
    one (inl m) = let x = below_in lo a rs q w m in (x.0, let y = x.1 in omega arith)
    one (inr m) = let x = m.0 in (omega arith, m.1)

pub held_node : {ns : List Node} {below lo hi : ℕ} {id : NodeId} {l : Label} {cs : Slots} {qs : List ℕ} → StandsAll ns below (Some id ∷ []) (tree l cs end) qs → AreWithin lo hi qs → AreDistinct qs → Holds ns lo hi id.0 l cs
held_node {lo = lo} {hi = hi} (next_child {rs = rs} b h no_slots) w d = record { numbers = rs; stands = h; within = subst (λ (xs : List ℕ). AreWithin lo hi xs) (append-nil rs) w; distinct = subst AreDistinct (append-nil rs) d }

pub held_of : {os ns : List Node} {lo : ℕ} {rs : List ℕ} {id : NodeId} {l : Label} {cs : Slots} → AreWithin lo (length os) rs → lo ≤ length os → length os ≤ length ns → Slotted os ns rs (Some id ∷ []) (tree l cs end) → Holds ns lo (length ns) id.0 l cs
held_of {os} {ns} {lo} {rs} w i j x = held_node x.stands (within_reused lo (length os) (length ns) rs x.numbers w i j x.reused) x.distinct

-- so does the node itself
reused_of : {os ns : List Node} {lo : ℕ} {rs : List ℕ} {id : NodeId} {l : Label} {cs : Slots} (w : AreWithin lo (length os) rs) (i : lo ≤ length os) (j : length os ≤ length ns) (x : Slotted os ns rs (Some id ∷ []) (tree l cs end)) → Each (Reused rs (length os) (length ns)) (held_of w i j x).numbers
unfolding held_node held_of
reused_of {os} {ns} {lo} {rs} w i j x = go x.stands (within_reused lo (length os) (length ns) rs x.numbers w i j x.reused) x.distinct x.reused
  where
    go : {qs : List ℕ} {below : ℕ} {id : NodeId} {l : Label} {cs : Slots} (s : StandsAll ns below (Some id ∷ []) (tree l cs end) qs) (v : AreWithin lo (length ns) qs) (d : AreDistinct qs) → Each (Reused rs (length os) (length ns)) qs → Each (Reused rs (length os) (length ns)) (held_node s v d).numbers
    go (next_child {rs = ps} b h no_slots) v d e = subst (λ (xs : List ℕ). Each (Reused rs (length os) (length ns)) xs) (append-nil ps) e

bounded : {text : List ℕ} {n : Symbol} {ns : List Node} {id : NodeId} (x : Read text n ns id) → AreWithin x.lo (length ns) (x.holds).numbers
bounded {ns = ns} {id = id} x = both (x.holds).numbers (x.holds).within (AreWithin-wider 0 (suc id.0) 0 (length ns) (x.holds).numbers (omega arith) (let i = Stands-below (x.holds).stands in omega arith) (Stands-within (x.holds).stands))
  where
    both : (rs : List ℕ) → AreWithin x.lo x.hi rs → AreWithin 0 (length ns) rs → AreWithin x.lo (length ns) rs
    both [] a b = tt
    both (r ∷ rs) a b = (a.0, b.1, both rs a.2 b.2)

-- in other words for the nodes
held_there : {ns ms : List Node} {lo below : ℕ} {id : NodeId} {l : Label} {cs : Slots} (rs : List ℕ) → ms ≡ ns → (h : Holds ns lo (length ns) id.0 l cs) → Each (Reused rs below (length ns)) h.numbers → (k : Holds ms lo (length ms) id.0 l cs) × Each (Reused rs below (length ms)) k.numbers
held_there {lo = lo} {below} {id} {l} {cs} rs e h r = subst (λ (ns : List Node). (k : Holds ns lo (length ns) id.0 l cs) × Each (Reused rs below (length ns)) k.numbers) (sym e) (h, r)

-- where none was made
none_since : (ns : List Node) → All OfTarget (drop (length ns) ns)
none_since [] = All-nil OfTarget
none_since (n ∷ ns) = none_since ns

-- ---- what was converted

abbrev pub Answer : (Label → Slots → List Widening) → (Label → Slots → Option Slots) → List Node → List Node → NodeId → Noted → Option NodeId → Type 0
Answer places r os ns id notes found = Answered places r os ns id unnoted notes found

-- by notes in which nothing stood
pub answer_of : {places : Label → Slots → List Widening} {r : Label → Slots → Option Slots} {os ns : List Node} {id : NodeId} {notes : Noted} (found : Option NodeId) {first : Noted} → first ≡ unnoted → Answered places r os ns id first notes found → Answer places r os ns id notes found
answer_of {places} {r} {os} {ns} {id} {notes} found e v = subst (λ (n : Noted). Answered places r os ns id n notes found) e v

-- no place was told
pub nothing_told : (p : Parser) → PlacesTold [] p p
nothing_told p = record { at = λ text f a. a; same = same_itself; is = refl; verdict = clean refl tt; each = refl }

made_of : {os ns : List Node} {rs : List ℕ} {notes : Noted} {ws : List Widening} {ids : List (Option NodeId)} {r : Option Slots} → Converted os ns rs unnoted notes ws (Some ids) r → Converts os ns rs unnoted notes ws ids r
made_of (converts x) = x

none_of : {os ns : List Node} {rs : List ℕ} {notes : Noted} {ws : List Widening} {r : Option Slots} → Converted os ns rs unnoted notes ws None r → RefusesTarget os ns unnoted notes ws r
none_of (refuses x) = x

-- the node was read before
pub was_stood : {n : Flags → Symbol} {Is : Label → Type 0} {p : Parser} {id : NodeId} → ReadBefore n Is p id → Stood p.nodes id
was_stood b = let x = b.read in record { lo = x.lo; hi = x.hi; label = x.label; slots = x.slots; holds = x.holds }

-- its label is that of the node, whatever tree is meant
pub of_the_node : {n : Flags → Symbol} {Is : Label → Type 0} {p : Parser} {id : NodeId} → ReadBefore n Is p id → OfNode p.nodes id (λ l cs rs. Is l)
of_the_node {Is = Is} {id = id} b = λ l cs rs s d. let x = b.read in subst Is ((children_of {id = id} (x.holds).stands).label_is ∙ sym (children_of {id = id} s).label_is) b.is

pub at_there : {p q : Parser} → q ≡ record p { nodes = q.nodes } → Standing p → Standing q
at_there {p} {q} e a = standing (subst (λ (z : Parser). At p.text (flags_of p) z) (sym e) (beside_nodes q.nodes a))

text_there : (p : Parser) {q : Parser} → q ≡ record p { nodes = q.nodes } → q.text ≡ p.text
text_there p e = ap (λ (z : Parser). z.text) e

same_there : {p q : Parser} → q ≡ record p { nodes = q.nodes } → Keeps p.nodes q.nodes → ((text : List ℕ) → NodesLie text p.nodes → NodesLie text q.nodes) → Same p q
same_there {p} {q} e k l = subst (λ (z : Parser). Same p z) (sym e) (same_with q.nodes same_itself k (λ b h. l p.text h))

module _ {n : Flags → Symbol} {Is : Label → Type 0} {m : Flags → Symbol} {places : Label → Slots → List Widening} {r : Label → Slots → Option Slots} (law : Law n Is m places r) {p q : Parser} {id : NodeId} {notes : Noted} (e : q ≡ record p { nodes = q.nodes }) where
  of_read : {f : Flags} (found : Option NodeId) (x : Read p.text (n f) p.nodes id) → Answer places r p.nodes q.nodes id notes found → Converted p.nodes q.nodes (x.holds).numbers unnoted notes (places x.label x.slots) (one_node found) (r x.label x.slots)
  of_read found x v = v x.label x.slots (x.holds).numbers (x.holds).stands (x.holds).distinct

  module _ (b : ReadBefore n Is p id) where
    pub spotted_there : (found : Option NodeId) → Answer places r p.nodes q.nodes id notes found → (t : NodeId) → found ≡ Some t → Each (Spotted q.text) notes.places
    spotted_there (Some t) v u g =
        let x = b.read in
        let c = made_of {ids = Some t ∷ []} (of_read (Some t) x v) in
        subst (λ (v : List ℕ). Each (Spotted v) notes.places) (sym (text_there p e)) (subst (λ (ws : List Widening). Each (Spotted p.text) ws) (sym c.places_are) (law.of p.text b.flags b.cover b.wide x b.is).spotted)
    spotted_there None v u g = absurd (cc)

    pub fits_there : (found : Option NodeId) → Answer places r p.nodes q.nodes id notes found → (t : NodeId) → found ≡ Some t → Each (Fits q.text) notes.places
    fits_there (Some t) v u g =
        let x = b.read in
        let c = made_of {ids = Some t ∷ []} (of_read (Some t) x v) in
        subst (λ (v : List ℕ). Each (Fits v) notes.places) (sym (text_there p e)) (subst (λ (ws : List Widening). Each (Fits p.text) ws) (sym c.places_are) ((law.of p.text b.flags b.cover b.wide x b.is).fits c.slots c.is))
    fits_there None v u g = absurd (cc)

  -- a target was found
  module _ {f : Flags} (v : f.cover ≡ true) (w : f.wide ≡ true) (x : Read p.text (n f) p.nodes id) (i : Is x.label) (s : Parser) where
    covered : {t : NodeId} → Answer places r p.nodes q.nodes id notes (Some t) → PlacesTold notes.places q s → Covers (m f) places p s x t
    covered {t} a g =
        let c = made_of {ids = Some t ∷ []} (of_read (Some t) x a) in
        let y = (law.of p.text f v w x i).sound c.slots c.is in
        let nodes : s.nodes ≡ q.nodes = ap (λ (z : Parser). z.nodes) g.is in
        let lower : x.lo ≤ length p.nodes = (let k = (Holds-range x.holds).0 in let j = Holds-below x.holds in omega arith) in
        let its = subst (λ (ts : Slots). Slotted p.nodes q.nodes (x.holds).numbers (Some t ∷ []) ts) y.1 c.slotted in
        let held = held_there (x.holds).numbers nodes (held_of (bounded x) lower (Keeps-longer c.keeps) its) (reused_of (bounded x) lower (Keeps-longer c.keeps) its) in
        record {
          target = y.0;
          derived = y.2;
          holds = held.0;
          reused = held.1;
          keeps = subst (λ (ns : List Node). Keeps p.nodes ns) (sym nodes) c.keeps;
          made = subst (λ (ns : List Node). All OfTarget (drop (length p.nodes) ns)) (sym nodes) (c.made (length p.nodes) (none_since p.nodes));
          is = g.is ∙ (ap (λ (z : Parser). record z { errors = s.errors }) e ∙ ap (λ (ns : List Node). record p { nodes = ns; errors = s.errors }) (sym nodes));
          at = λ text k h. g.at text k (subst (λ (z : Parser). At text k z) (sym e) (beside_nodes q.nodes h));
          same = same_both (same_there e c.keeps c.lies) g.same;
          told = told c.places_are g;
          each = each c.places_are g;
        }
      where
        told : notes.places ≡ places x.label x.slots → PlacesTold notes.places q s → Verdict ⊥ p.errors s.errors (Each (Narrow p.text) (places x.label x.slots)) (Each (Narrow p.text) (places x.label x.slots) → ⊥)
        told h g = subst (λ (ws : List Widening). Verdict ⊥ p.errors s.errors (Each (Narrow p.text) ws) (Each (Narrow p.text) ws → ⊥)) h (subst (λ (ds : List Diagnostic). Verdict ⊥ ds s.errors (Each (Narrow p.text) notes.places) (Each (Narrow p.text) notes.places → ⊥)) (ap (λ (z : Parser). z.errors) e) (subst (λ (v : List ℕ). Verdict ⊥ q.errors s.errors (Each (Narrow v) notes.places) (Each (Narrow v) notes.places → ⊥)) (text_there p e) g.verdict))

        each : notes.places ≡ places x.label x.slots → PlacesTold notes.places q s → EachTold p.text (places x.label x.slots) p.errors s.errors
        each h g = subst (λ (ws : List Widening). EachTold p.text ws p.errors s.errors) h (subst (λ (ds : List Diagnostic). EachTold p.text notes.places ds s.errors) (ap (λ (z : Parser). z.errors) e) (subst (λ (v : List ℕ). EachTold v notes.places q.errors s.errors) (text_there p e) g.each))

    -- none was found
    uncovered : Answer places r p.nodes q.nodes id notes None → Standing p → GivesUp (IsUnexpected q) q s Fatal → Refused (m f) p s x
    uncovered a h g =
        let c = none_of (of_read None x a) in
        let n = (law.of p.text f v w x i).complete c.is in
        record {
          none = n;
          nodes = q.nodes;
          keeps = c.keeps;
          told = subst (λ (z : Parser). GivesUp (IsUnexpected z) z s Fatal) e g;
          stops = stops_behind s Fatal (same_there e c.keeps c.lies) (λ k. subst (λ (ds : List Diagnostic). Grown ds s.errors) (ap (λ (z : Parser). z.errors) e) k) (λ z. z) (gives_up_here q s Fatal (at_there e h) g n);
        }

  finished : (found : Option NodeId) (o : Result NodeId Stop) (s : Parser) → Answer places r p.nodes q.nodes id notes found → Standing p → Finishes found notes.places q s o → CoversAs n Is m places id p s o
  finished (Some t) (Ok u) s a h g = λ f v w x i. subst (λ (z : NodeId). Covers (m f) places p s x z) (sym g.0) (covered v w x i s a g.1)
  finished (Some t) (Err Fatal) s a h g = absurd g
  finished (Some t) (Err NoMemory) s a h g = λ f v w x i. tt
  finished None (Ok u) s a h g = absurd g
  finished None (Err Fatal) s a h g = λ f v w x i. uncovered v w x i s a h g
  finished None (Err NoMemory) s a h g = λ f v w x i. tt

  pub covers_there : (found : Option NodeId) (o : Result NodeId Stop) (s : Parser) → Answer places r p.nodes q.nodes id notes found → Standing p → Finishes found notes.places q s o → CoversAs n Is m places id p s o
  covers_there = finished

-- ---- assignments

default_slots : (l : Label) (cs ts : Slots) → IsAssignment l → element_answer l cs ≡ Some ts → ts ≡ tree (relabelled assignment_target_with_default l) cs end
default_slots l cs ts h e = by (is_assignment l.kind) h e
  where
    by : (g : Bool) → g ≡ true → cond g (Some (tree (relabelled assignment_target_with_default l) cs end)) (target_answer l cs) ≡ Some ts → ts ≡ tree (relabelled assignment_target_with_default l) cs end
    by true h e = (let k : tree (relabelled assignment_target_with_default l) cs end ≡ ts = cc in sym k)
    by false h e = absurd (false≢true h)

always_some : (l : Label) (cs : Slots) → IsAssignment l → element_answer l cs ≡ None → ⊥
always_some l cs h e = by (is_assignment l.kind) h e
  where
    by : (g : Bool) → g ≡ true → cond g (Some (tree (relabelled assignment_target_with_default l) cs end)) (target_answer l cs) ≡ None → ⊥
    by true h e = absurd (cc)
    by false h e = absurd (false≢true h)

module _ {p : Parser} (q : Parser) {id : NodeId} {notes : Noted} (b : ReadBefore an_expression IsAssignment p id) where
  kept : (found : Option NodeId) (o : Result NodeId Stop) (s : Parser) → Answer in_an_element element_answer p.nodes q.nodes id notes found → Finishes found notes.places q s o → KeepsInitialiser id p s o
  kept (Some t) (Ok u) s a g = λ f x i.
      let c = made_of {ids = Some t ∷ []} (a x.label x.slots (x.holds).numbers (x.holds).stands (x.holds).distinct) in
      let nodes : s.nodes ≡ q.nodes = ap (λ (z : Parser). z.nodes) g.1.is in
      subst (λ (z : NodeId). Holds s.nodes x.lo (length s.nodes) z.0 (relabelled assignment_target_with_default x.label) x.slots) (sym g.0) (subst (λ (ns : List Node). Holds ns x.lo (length ns) t.0 (relabelled assignment_target_with_default x.label) x.slots) (sym nodes) (held_of (bounded x) (let k = (Holds-range x.holds).0 in let j = Holds-below x.holds in omega arith) (Keeps-longer c.keeps) (subst (λ (ts : Slots). Slotted p.nodes q.nodes (x.holds).numbers (Some t ∷ []) ts) (default_slots x.label x.slots c.slots i c.is) c.slotted)))
  kept (Some t) (Err Fatal) s a g = absurd g
  kept (Some t) (Err NoMemory) s a g = refl
  kept None o s a g =
      let x = b.read in
      let c = none_of (a x.label x.slots (x.holds).numbers (x.holds).stands (x.holds).distinct) in
      absurd (always_some x.label x.slots b.is c.is)

  pub keeps_there : (found : Option NodeId) (o : Result NodeId Stop) (s : Parser) → Answer in_an_element element_answer p.nodes q.nodes id notes found → Finishes found notes.places q s o → KeepsInitialiser id p s o
  keeps_there = kept
