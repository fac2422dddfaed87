-- Arguments: what is left of the list behind each of its items.
use Rattle.std.proofs.Common.{ℕ, ◌≡◌, ◌≤◌, ◌<◌, ◌⊎◌, inl, inr, max, List, [], ◌∷◌, ◌++◌, length, Option, Some, Bool, true, false, not, IsTrue, refl, sym, ap, subst, arith, ◌∙◌}
use Rattle.std.specs.Prelude.{Result, Ok}
use Rattle.std.proofs.lemmas.Bool.{and_from, or_left}
use Rattle.js_base.specs.declared.diagnostic.Diagnostic.{Diagnostic}
use Rattle.js_base.specs.declared.kind.Kind.{Kind}
use Rattle.js_base.specs.declared.kind.Kind.TheVariants.{RCurly, RAngle, LParen, RParen, LBrack, RBrack, LCurly, Comma}
use Rattle.js_base.specs.declared.span.Span.{Span}
use Rattle.js_base.specs.Kinds.{same_kind, one_of_kinds}
use Rattle.js_grammar.specs.Trees.{Slots, end, tree, Label, append}
use Rattle.js_grammar.specs.Grammar.{Lexeme, Lexemes, seen, is, next, seq, such, nothing, after_comma, after_item}
use Rattle.js_grammar.specs.Marks.{LexemeAt, opens, a_lexeme}
use Rattle.js_grammar.specs.Parsing.{plain, full, always, passing, Goes, Fails}
use Rattle.js_grammar.specs.Productions.{G, Flags, at, tok}
use Rattle.js_grammar.specs.Table.{rule}
use Rattle.js_grammar.specs.FirstSets.{first as first_of}
use Rattle.js_grammar.proofs.Looks.{covers, apart, not_both, same_self}
use Rattle.js_grammar.proofs.Calculus.{◌▹◌, ◌▹✗◌, left, right, done, by_plain, part_fails, fails_nothing, fails_lexeme, commas_item, fails_commas, comma_here, no_comma, item_behind, last_comma}
use Rattle.js_grammar.proofs.First.{starts}
use Rattle.js_grammar.proofs.FirstClaims.{firsts}
use Rattle.js_grammar.proofs.FirstRules.{by_first, fails_here, part}
use Rattle.js_grammar.proofs.Frame.{append_assoc, append_end}
use Rattle.laws_shared.specs.js_tree.declared.id.NodeId.{NodeId}
use Rattle.laws_shared.specs.js_tree.Nodes.{Node}
use Rattle.laws_shared.specs.js_tree.Holding.{HoldsAll, Keeps}
use Rattle.laws_shared.proofs.js_tree.HoldingLemmas.{HoldsAll-next, Keeps-refl, Keeps-trans}
use Rattle.laws_shared.specs.js_cursor.Parsers.{Parser}
use Rattle.laws_shared.specs.js_cursor.Places.{goal}
use Rattle.js_grammar.specs.Settings.{Goal}
use Rattle.laws_shared.specs.js_lex.States.{goal_of}
use Rattle.laws_shared.specs.js_cursor.Moves.{MovesOn, Opened, GivesUp, Steps, IsHere}
use Rattle.laws_shared.specs.js_cursor.declared.stop.ListStep.{ListStep}
use Rattle.laws_shared.specs.js_cursor.declared.stop.ListStep.TheVariants.{Element, End, EndAfterComma}
use Rattle.laws_shared.specs.js_cursor.declared.stop.Stop.{Stop}
use Rattle.laws_shared.specs.js_cursor.declared.stop.Stop.TheVariants.{Fatal, NoMemory}
use Rattle.laws_shared.proofs.Giving.{gives_up}
use Rattle.laws_shared.specs.Lexemes.{Lex, nowhere, signs}
use Rattle.laws_shared.specs.States.{At, Standing, flags_of}
use Rattle.laws_shared.specs.Nesting.{room}
use Rattle.laws_shared.specs.Moves.{Moved, Moves, unpassable}
use Rattle.laws_shared.specs.Answers.{Verdict, clean, Stretch, Stops}
use Rattle.laws_shared.specs.Arguments.{item_of, items, list_of, rest_of, due_of, behind_item, NoItem, ItemTaken, TakesItem, Partway, Due, FindsDue}
use Rattle.laws_shared.proofs.Signs.{none_seen, plain_sign, other_kind}
use Rattle.laws_shared.proofs.Stretches.{stretches}
use Rattle.laws_shared.proofs.Here.{uncut}
use Rattle.laws_shared.proofs.Signs.{AllAre, NoneIs}
use Rattle.laws_shared.proofs.Signs.{stands_there}
use Rattle.laws_shared.proofs.Moving.{same_both, same_itself, moves, standing, stops_behind}
use Rattle.laws_shared.proofs.Nesting.{nested_room, later_room}
use Rattle.laws_shared.proofs.Paths.{walked_both, walked_one, one_read, passes, skips, read_of, not_here, settles}
use Rattle.laws_shared.proofs.Verdicts.{verdict_of, either_way, and_then}
use Rattle.laws_shared.proofs.Verdicts.{after as grown_behind}
use Rattle.laws_shared.proofs.Classes.{here_ends}
use Rattle.laws_shared.proofs.PlainSigns.{comma_plain, paren_plain, closing_paren_plain}
use Rattle.laws_shared.proofs.Bracketed.{opened_later}
use Rattle.js_base.specs.declared.diagnostic.DiagnosticKind.TheVariants.{ExpectClosingOrSeparator}

pub is_that : (k : Kind) (y : Lexeme) → (y.kind ≡ k) × (y.escaped ≡ false) → IsTrue (seen (is k) y)
is_that k y z = and_from (same_kind k y.kind) (not y.escaped) (subst (λ v. same_kind k v ≡ true) (sym z.0) (same_self k)) (ap not z.1)

pub is_one : {text : List ℕ} {s : ℕ} {j k : Kind} → AllAre text s k → (k ≡ j → ⊥) → NoneIs text s j
is_one a n y l e w = n (sym (a y l).0 ∙ e)

-- ---- items

-- an item may be followed by a comma or the closing parenthesis, and begins with neither
item_ends : (i : Bool) (f : Flags) → covers (starts first_of (after_item true (such (item_of i f) always)) (is RParen)) (λ k w e. one_of_kinds (Comma ∷ RParen ∷ RBrack ∷ RCurly ∷ []) k) ≡ true
unfolding covers
item_ends true f = refl
item_ends false f = refl

item_begins : (i : Bool) (f : Flags) → apart (first_of (item_of i f)) (is RParen) ≡ true
unfolding apart
item_begins true f = refl
item_begins false f = refl

module _ {text : List ℕ} (f : Flags) where
  module _ (i : Bool) {s : ℕ} where
    no_items : AllAre text s RParen → Fails rule (Lex text) (plain (is RParen)) end (items (item_of i f)) s
    no_items a = fails_here firsts (λ y l h. not_both (first_of (item_of i f)) (is RParen) (item_begins i f) y.kind y.newline y.escaped h (is_that RParen y (a y l)))

    not_closed : NoneIs text s RParen → Fails rule (Lex text) (plain (is RParen)) end nothing s
    not_closed n = fails_nothing (λ ts y l e. none_seen n y l e.0)

    -- the first item
    first_due : NoneIs text s RParen → Stretch text (plain full) (rest_of true (item_of i f)) s (due_of true (item_of i f)) s (λ us. us) (λ ls. ls)
    unfolding covers
    first_due n = record { reach = 0; near = omega arith; goes = part firsts (is RParen) (left (not_closed n)) refl }

    first_closed : AllAre text s RParen → Stretch text (plain full) (rest_of true (item_of i f)) s (due_of false (item_of i f)) s (λ us. us) (λ ls. ls)
    unfolding covers
    first_closed a = record { reach = max 0 0; near = omega arith; goes = part firsts (is RParen) (right (no_items a)) refl ▹ done }

    -- no comma stands behind an item
    later_closed : NoneIs text s Comma → Stretch text (plain full) (rest_of false (item_of i f)) s (due_of false (item_of i f)) s (λ us. us) (λ ls. ls)
    unfolding covers
    later_closed n = record { reach = max 0 0; near = omega arith; goes = part firsts (is RParen) (no_comma true (such (item_of i f) always) (none_seen n)) refl ▹ done }

    pub later_fails : NoneIs text s Comma → NoneIs text s RParen → Fails rule (Lex text) (plain full) end (rest_of false (item_of i f)) s
    later_fails n m = (later_closed n).goes ▹✗ fails_lexeme (is RParen) (none_seen m)

    comma_due : NoneIs text s RParen → Stretch text (plain full) (seq (after_comma true (such (item_of i f) always)) (tok RParen)) s (due_of true (item_of i f)) s (λ us. us) (λ ls. ls)
    unfolding covers
    comma_due n = record { reach = 0; near = omega arith; goes = part firsts (is RParen) (item_behind (not_closed n)) refl }

    comma_closed : AllAre text s RParen → Stretch text (plain full) (seq (after_comma true (such (item_of i f) always)) (tok RParen)) s (due_of false (item_of i f)) s (λ us. us) (λ ls. ls)
    unfolding covers
    comma_closed a = record { reach = max 0 0; near = omega arith; goes = part firsts (is RParen) (last_comma (no_items a)) refl ▹ done }

    -- an item was read, or none can be
    item_goes : {s' : ℕ} {l : Label} {cs : Slots} {pass : Lexemes → Lexemes} → Stretch text behind_item (such (item_of i f) always) s nothing s' (tree l cs) pass → Stretch text (plain full) (due_of true (item_of i f)) s (rest_of false (item_of i f)) s' (tree l cs) pass
    unfolding covers
    item_goes x = record { reach = max 0 x.reach; near = let i = x.near in omega arith; goes = part firsts (is RParen) (commas_item x.goes (by_first firsts (by_plain (λ k w e. one_of_kinds (Comma ∷ RParen ∷ RBrack ∷ RCurly ∷ []) k)) (item_ends i f))) refl }

    item_fails : NoItem text (item_of i f) s → Fails rule (Lex text) (plain full) end (due_of true (item_of i f)) s
    unfolding covers
    item_fails n = part_fails (fails_commas n (by_first firsts (by_plain (λ k w e. one_of_kinds (Comma ∷ RParen ∷ RBrack ∷ RCurly ∷ []) k)) (item_ends i f))) (by_first firsts (by_plain (is RParen)) refl)

-- ---- a step of the list

one_same : (k : Kind) → one_of_kinds (k ∷ []) k ≡ true
one_same k = or_left (same_kind k k) false (same_self k)

pub none_there : {text : List ℕ} {f : Flags} {p : Parser} (k : Kind) → At text f p → settles (k ∷ []) ≡ true → (p.token.kind ≡ k → ⊥) → NoneIs text p.prev_token_end k
none_there {p = p} k a d n y l e w = not_here a (k ∷ []) d (other_kind k p.token.kind n) y l (subst (λ v. one_of_kinds (k ∷ []) v ≡ true) (sym e) (one_same k))

no_right_paren : {text : List ℕ} {f : Flags} {p : Parser} → At text f p → (p.token.kind ≡ RParen → ⊥) → NoneIs text p.prev_token_end RParen
unfolding apart
no_right_paren a n = none_there RParen a refl n

no_comma_here : {text : List ℕ} {f : Flags} {p : Parser} → At text f p → (p.token.kind ≡ Comma → ⊥) → NoneIs text p.prev_token_end Comma
unfolding apart
no_comma_here a n = none_there Comma a refl n

-- a comma was passed
module _ {text : List ℕ} {f : Flags} {p q : Parser} (a : At text f p) (k : p.token.kind ≡ Comma) (v : MovesOn p q) where
  comma_moved : Moved text f p q
  comma_moved = moves (uncut a (ap (same_kind RAngle) k), ap unpassable k) v a

  comma_stretch : (i : Bool) → Stretch text (plain full) (rest_of false (item_of i f)) p.prev_token_end (seq (after_comma true (such (item_of i f) always)) (tok RParen)) q.prev_token_end (λ us. us) (λ ls. next comma_moved.lexeme ls)
  unfolding covers
  comma_stretch i =
      let m = comma_moved in
      let n = plain_sign Comma a k refl refl comma_plain in
      let kind : m.lexeme.kind ≡ Comma = sym m.tells.kind ∙ k in
      let bare : m.lexeme.escaped ≡ false = sym m.tells.escaped ∙ n in
      let l : Lex text p.prev_token_end m.lexeme = (m.stood, read_of m.lexeme kind refl) in
      record {
        reach = 0;
        near = omega arith;
        goes = subst (λ (v : ℕ). Goes rule (Lex text) (plain full) end (rest_of false (item_of i f)) p.prev_token_end (seq (after_comma true (such (item_of i f) always)) (tok RParen)) v (λ us. us) (passing m.lexeme)) m.ends
            (part firsts (is RParen) (comma_here true (such (item_of i f) always) (not_closed f i (is_one (stands_there a k refl) (λ e. cc))) l (is_that Comma m.lexeme (kind, bare)) (λ y z h. one_read a (ap (one_of_kinds signs) k) z l)) refl);
      }

module _ {text : List ℕ} {f : Flags} {p q : Parser} (a : At text f p) where
  pub due_end : (first : Bool) → (p.token.kind ≡ RParen) × (q ≡ p) → Due text f first p q false
  due_end first z = subst (λ (r : Parser). Due text f first p r false) (sym z.1) (record { at = a; same = same_itself; nodes = refl; kept = refl; forward = omega arith; pass = λ ls. ls; walked = nowhere; goes = λ i. ended first i; closes = λ e. z.0 })
    where
      ended : (b i : Bool) → Stretch text (plain full) (rest_of b (item_of i f)) p.prev_token_end (due_of false (item_of i f)) p.prev_token_end (λ us. us) (λ ls. ls)
      ended true i = first_closed f i (stands_there a z.0 refl)
      ended false i = later_closed f i (is_one (stands_there a z.0 refl) (λ e. cc))

  pub due_after : (first : Bool) (at : ℕ) → (first ≡ false) × (p.token.kind ≡ Comma) × (at ≡ p.token.span.start) × MovesOn p q × (q.token.kind ≡ RParen) → Due text f first p q false
  due_after first at z =
      let m = comma_moved a z.1 z.3 in
      subst (λ (b : Bool). Due text f b p q false) (sym z.0) (record { at = m.at; same = m.same; nodes = m.nodes; kept = m.kept; forward = let i = m.further in let j = a.behind in omega arith; pass = λ ls. next m.lexeme ls; walked = walked_one m; goes = λ i. stretches (comma_stretch a z.1 z.3 i) (comma_closed f i (stands_there m.at z.4 refl)) (omega arith); closes = λ e. z.4 })

  pub due_element : (first : Bool) → (p.token.kind ≡ RParen → ⊥) × (((first ≡ true) × (q ≡ p)) ⊎ ((first ≡ false) × (p.token.kind ≡ Comma) × MovesOn p q × (q.token.kind ≡ RParen → ⊥))) → Due text f first p q true
  due_element first (n, inl z) = subst (λ (b : Bool). Due text f b p q true) (sym z.0) (subst (λ (r : Parser). Due text f true p r true) (sym z.1) (record { at = a; same = same_itself; nodes = refl; kept = refl; forward = omega arith; pass = λ ls. ls; walked = nowhere; goes = λ i. first_due f i (no_right_paren a n); closes = λ e. cc }))
  due_element first (n, inr z) =
      let m = comma_moved a z.1 z.2 in
      subst (λ (b : Bool). Due text f b p q true) (sym z.0) (record { at = m.at; same = m.same; nodes = m.nodes; kept = m.kept; forward = let i = m.further in let j = a.behind in omega arith; pass = λ ls. next m.lexeme ls; walked = walked_one m; goes = λ i. stretches (comma_stretch a z.1 z.2 i) (comma_due f i (no_right_paren m.at z.3)) (omega arith); closes = λ e. cc })

pub due_fails : {text : List ℕ} {f : Flags} {p : Parser} → At text f p → (first : Bool) → (first ≡ false) × (p.token.kind ≡ RParen → ⊥) × (p.token.kind ≡ Comma → ⊥) → (i : Bool) → Fails rule (Lex text) (plain full) end (rest_of first (item_of i f)) p.prev_token_end
due_fails {text} {f} {p} a first z i = subst (λ (b : Bool). Fails rule (Lex text) (plain full) end (rest_of b (item_of i f)) p.prev_token_end) (sym z.0) (later_fails f i (no_comma_here a z.2) (no_right_paren a z.1))

pub due_stops : {text : List ℕ} {f : Flags} {p : Parser} (q : Parser) (e : Stop) (first : Bool) (opening : Option Span) → At text f p → (i : Bool) → (e ≡ Fatal → (first ≡ false) × (p.token.kind ≡ RParen → ⊥) × (p.token.kind ≡ Comma → ⊥)) × GivesUp (IsHere ExpectClosingOrSeparator p opening) p q e → Stops p q e (Fails rule (Lex text) (plain full) end (rest_of first (item_of i f)) p.prev_token_end)
due_stops {p = p} q Fatal first opening a i z = gives_up (IsHere ExpectClosingOrSeparator p opening) p q Fatal a z.1 (here_ends ExpectClosingOrSeparator refl) (due_fails a first (z.0 refl) i)
due_stops q NoMemory first opening a i z = tt

-- ---- the list so far

module _ {text : List ℕ} {f : Flags} (i : Bool) where
  pub part_start : {p q : Parser} (ids : List (Option NodeId)) → At text f p → p.token.kind ≡ LParen → Moved text f p q → Partway text f (list_of (item_of i f)) (rest_of true (item_of i f)) p q ids ids
  part_start {p} {q} ids a k m = record {
    at = m.at;
    same = m.same;
    further = m.further;
    slots = λ us. us;
    puts = λ us. refl;
    pass = λ ls. next m.lexeme ls;
    walked = walked_one m;
    verdict = clean m.kept (record { reach = 0; near = omega arith; goes = skips a LParen k (plain_sign LParen a k refl refl paren_plain) refl m });
    holds = λ lo us h. subst (λ (vs : Slots). HoldsAll q.nodes lo (length q.nodes) ids vs) (sym (append_end us)) (subst (λ (ns : List Node). HoldsAll ns lo (length ns) ids us) (sym m.nodes) h);
    keeps = subst (λ (ns : List Node). Keeps p.nodes ns) (sym m.nodes) (Keeps-refl p.nodes);
  }

  module _ {g : G} {o p q : Parser} {ids js : List (Option NodeId)} where
    pub part_due : {first due : Bool} → Partway text f g (rest_of first (item_of i f)) o p ids js → Due text f first p q due → Partway text f g (due_of due (item_of i f)) o q ids js
    part_due {first} {due} x d = record {
      at = d.at;
      same = same_both x.same d.same;
      further = let a = x.further in let b = d.forward in omega arith;
      slots = x.slots;
      puts = x.puts;
      pass = λ ls. x.pass (d.pass ls);
      walked = walked_both x.walked d.walked;
      verdict = subst (λ (ds : List Diagnostic). Verdict (f.wide ≡ true) o.errors ds (Stretch text (plain full) g o.prev_token_end (due_of due (item_of i f)) q.prev_token_end x.slots (λ ls. x.pass (d.pass ls))) (Fails rule (Lex text) (plain full) end g o.prev_token_end)) (sym d.kept) (verdict_of x.verdict (λ y. stretches y (d.goes i) d.forward) (λ n. n));
      holds = λ lo us h. subst (λ (ns : List Node). HoldsAll ns lo (length ns) js (append us (x.slots end))) (sym d.nodes) (x.holds lo us h);
      keeps = subst (λ (ns : List Node). Keeps o.nodes ns) (sym d.nodes) x.keeps;
    }

    pub part_item : {id : NodeId} {ks : List (Option NodeId)} → Partway text f g (due_of true (item_of i f)) o p ids js → ItemTaken text f (item_of i f) p q id → ks ≡ js ++ Some id ∷ [] → Partway text f g (rest_of false (item_of i f)) o q ids ks
    part_item {id} {ks} x y e = record {
      at = y.at;
      same = same_both x.same y.same;
      further = let a = x.further in let b = further in omega arith;
      slots = λ us. x.slots (tree l cs us);
      puts = λ us. x.puts (tree l cs us) ∙ (sym (append_assoc (x.slots end) (tree l cs end) us) ∙ ap (λ (vs : Slots). append vs us) (sym (x.puts (tree l cs end))));
      pass = λ ls. x.pass (y.pass ls);
      walked = walked_both x.walked y.walked;
      verdict = and_then x.verdict y.verdict (λ u v. stretches u (item_goes f i v) further) (λ n. n) (λ u n. u.goes ▹✗ item_fails f i n);
      holds = λ lo us h. subst (λ (zs : List (Option NodeId)). HoldsAll q.nodes lo (length q.nodes) zs (append us (x.slots (tree l cs end)))) (sym e)
          (subst (λ (vs : Slots). HoldsAll q.nodes lo (length q.nodes) (js ++ Some id ∷ []) vs) (append_assoc us (x.slots end) (tree l cs end) ∙ ap (λ (vs : Slots). append us vs) (sym (x.puts (tree l cs end)))) (HoldsAll-next id y.keeps (x.holds lo us h) y.holds));
      keeps = Keeps-trans x.keeps y.keeps;
    }
      where
        l : Label
        l = y.label

        cs : Slots
        cs = y.slots

        further : p.prev_token_end ≤ q.prev_token_end
        further = let a = x.at.behind in let b = y.further in omega arith

    pub part_end : Partway text f g (due_of false (item_of i f)) o p ids js → p.token.kind ≡ RParen → Moved text f p q → Partway text f g nothing o q ids js
    part_end x k m = record {
      at = m.at;
      same = same_both x.same m.same;
      further = let a = x.further in let b = further in omega arith;
      slots = x.slots;
      puts = x.puts;
      pass = λ ls. x.pass (next m.lexeme ls);
      walked = walked_both x.walked (walked_one m);
      verdict = subst (λ (ds : List Diagnostic). Verdict (f.wide ≡ true) o.errors ds (Stretch text (plain full) g o.prev_token_end nothing q.prev_token_end x.slots (λ ls. x.pass (next m.lexeme ls))) (Fails rule (Lex text) (plain full) end g o.prev_token_end)) (sym m.kept) (verdict_of x.verdict (λ y. stretches y (record { reach = 0; near = omega arith; goes = passes x.at RParen k (plain_sign RParen x.at k refl refl closing_paren_plain) refl m }) further) (λ n. n));
      holds = λ lo us h. subst (λ (ns : List Node). HoldsAll ns lo (length ns) js (append us (x.slots end))) (sym m.nodes) (x.holds lo us h);
      keeps = subst (λ (ns : List Node). Keeps o.nodes ns) (sym m.nodes) x.keeps;
    }
      where
        further : p.prev_token_end ≤ q.prev_token_end
        further = let a = x.at.behind in let b = m.further in omega arith

pub item_stops : {text : List ℕ} {f : Flags} (i : Bool) {g : G} {o p : Parser} {ids js : List (Option NodeId)} (q : Parser) (e : Stop) → Partway text f g (due_of true (item_of i f)) o p ids js → Stops p q e (NoItem text (item_of i f) p.prev_token_end) → Stops o q e (Fails rule (Lex text) (plain full) end g o.prev_token_end)
item_stops {f = f} i q e x s = stops_behind q e x.same (λ d. grown_behind x.verdict d) (λ n. either_way x.verdict (λ u. u.goes ▹✗ item_fails f i n) (λ m. m)) s

pub rest_stops : {text : List ℕ} {f : Flags} (i first : Bool) {g : G} {o p : Parser} {ids js : List (Option NodeId)} (q : Parser) (e : Stop) → Partway text f g (rest_of first (item_of i f)) o p ids js → Stops p q e (Fails rule (Lex text) (plain full) end (rest_of first (item_of i f)) p.prev_token_end) → Stops o q e (Fails rule (Lex text) (plain full) end g o.prev_token_end)
rest_stops i first q e x s = stops_behind q e x.same (λ d. grown_behind x.verdict d) (λ n. either_way x.verdict (λ u. u.goes ▹✗ n) (λ m. m)) s

-- ---- the loop over arguments

-- the parenthesis that was passed was opened
pub paren_opened : {p q : Parser} {s : Span} → s ≡ p.token.span → (a : Standing p) → p.token.kind ≡ LParen → Moved p.text (flags_of p) p q → Opened q s
paren_opened {p} {q} {s} e a k m = subst (Opened q) (sym e) (record {
  bracket = subst (λ (g : Goal). LexemeAt opens g q.text p.token.span) (sym (ap goal_of m.same.follows.source_type)) (subst (λ (t : List ℕ). LexemeAt opens (goal p) t p.token.span) (sym m.same.follows.text) (record {
    lexeme = m.lexeme;
    of_text = a_lexeme a.at.reached m.stood;
    is = (sym m.tells.start, sym m.tells.end);
    passes = subst (λ (v : Kind). one_of_kinds (LParen ∷ LBrack ∷ LCurly ∷ []) v ≡ true) (sym (sym m.tells.kind ∙ k)) refl;
  }));
  before = let a = m.tells.end in let b = m.ends in omega arith;
})

pub record ArgumentLoop (i : Bool) (opening : Span) (first : Bool) (ids js : List (Option NodeId)) (p q : Parser) : Type 0 where
  pub at : Standing q
  pub opened : Opened q opening
  pub less : room q < room p
  pub goes : (text : List ℕ) (f : Flags) → At text f p → Partway text f (list_of (item_of i f)) (rest_of first (item_of i f)) p q ids js

pub loop_start : (i : Bool) {s : Span} {p q : Parser} (ids : List (Option NodeId)) → s ≡ p.token.span → Standing p → p.token.kind ≡ LParen → Moves p q → ArgumentLoop i s true ids ids p q
loop_start i ids e a k m = record {
  at = standing (m _ _ a).at;
  opened = paren_opened e a k (m _ _ a);
  less = nested_room a (m _ _ a);
  goes = λ text f b. part_start i ids b k (m text f b);
}

-- what was found due
pub due_found : {i : Bool} {s : Span} {first due : Bool} {ids js : List (Option NodeId)} {p q r : Parser} → ArgumentLoop i s first ids js p q → FindsDue first q r (Ok due) → (Standing r) × (Opened r s) × (room r < room p)
due_found l d =
    let x = d _ _ l.at in
    (standing x.at, opened_later x.same x.forward l.opened, let a = later_room x.forward x.same in let b = l.less in omega arith)

pub loop_item : {i : Bool} {s : Span} {first : Bool} {ids js ks : List (Option NodeId)} {p q r v : Parser} {id : NodeId} → ArgumentLoop i s first ids js p q → FindsDue first q r (Ok true) → TakesItem i r v (Ok id) → ks ≡ js ++ Some id ∷ [] → ArgumentLoop i s false ids ks p v
loop_item {i} {r = r} {v = v} l d y e =
    let z = due_found l d in
    let x = y _ _ z.0 in
    let further : r.prev_token_end ≤ v.prev_token_end = (let a = z.0.behind in let b = x.further in omega arith) in
    record {
      at = standing x.at;
      opened = opened_later x.same further z.1;
      less = let a = later_room further x.same in let b = z.2 in omega arith;
      goes = λ text f a. let u = part_due i (l.goes text f a) (d text f (l.goes text f a).at) in part_item i u (y text f u.at) e;
    }

abbrev pub is_due : ListStep → Bool
is_due Element = true
is_due _ = false

pub due_step : {text : List ℕ} {f : Flags} {p q : Parser} (opening : Span) (first : Bool) (s : ListStep) (r : Result ListStep Stop) → r ≡ Ok s → At text f p → Steps RParen opening first p q r → Due text f first p q (is_due s)
due_step {text} {f} {p} {q} opening first s r e a z = go s (subst (λ (v : Result ListStep Stop). Steps RParen opening first p q v) e z)
  where
    go : (s : ListStep) → Steps RParen opening first p q (Ok s) → Due text f first p q (is_due s)
    go Element z = due_element a first z
    go End z = due_end a first z
    go (EndAfterComma n) z = due_after a first n z

pub not_due : {s : ListStep} → (s ≡ End) ⊎ ((n : ℕ) × (s ≡ EndAfterComma n)) → is_due s ≡ false
not_due (inl e) = ap is_due e
not_due (inr z) = ap is_due z.1

-- behind an item there is less of the text left
pub item_less : {i : Bool} {s : Span} {first due : Bool} {ids js : List (Option NodeId)} {p q r v : Parser} {id : NodeId} → ArgumentLoop i s first ids js p q → FindsDue first q r (Ok due) → TakesItem i r v (Ok id) → room v < room q
item_less l d y =
    let x = d _ _ l.at in
    let u = standing x.at in
    let z = y _ _ u in
    let a = x.forward in let b = z.further in let c = u.behind in let e = u.at.between.0 in let g = z.same.follows.text in let h = x.same.follows.text in let i = z.at.at.between.0 in omega (arith, ap length g, ap length h)

-- the closing parenthesis
pub closing_moved : {text : List ℕ} {f : Flags} {p q : Parser} → At text f p → p.token.kind ≡ RParen → MovesOn p q → Moved text f p q
closing_moved a k v = moves (uncut a (ap (same_kind RAngle) k), ap unpassable k) v a

pub closing_stops : (o p q : Parser) (e : Stop) (F : Type 0) (P : Diagnostic → Type 0) → p.token.kind ≡ RParen → (e ≡ Fatal → p.token.kind ≡ RParen → ⊥) × GivesUp P p q e → Stops o q e F
closing_stops o p q Fatal F P k z = absurd (z.0 refl k)
closing_stops o p q NoMemory F P k z = tt
