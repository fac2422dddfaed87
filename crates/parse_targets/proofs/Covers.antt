-- What was read as an expression, read as a simple target.
use Rattle.std.proofs.Common.{ℕ, ◌≡◌, ◌<◌, List, IsTrue, Some, None, refl, sym, subst, arith, ◌∙◌}
use Rattle.js_base.specs.declared.span.Span.{Span}
use Rattle.js_grammar.specs.Trees.{Label, Slots, end, tree, Tree, NodeKind, Op, identifier_reference, static_member_expression, computed_member_expression, private_field_expression, parenthesized_expression}
use Rattle.js_grammar.specs.Grammar.{Lexeme, Lexemes, last, next, here, seen, such, nothing, Takes, is_such, Derives}
use Rattle.js_grammar.specs.Insertion.{after_expression}
use Rattle.js_grammar.specs.LexicalFaults.{Reached}
use Rattle.js_grammar.specs.Lexed.{Lexes, NextLexeme, all_faults}
use Rattle.js_grammar.specs.Marks.{Front, Part, one, more, UnderivedAt}
use Rattle.js_grammar.specs.Parsing.{Test, Admits, always, Way, Reads, Fails}
use Rattle.js_grammar.specs.Productions.{Flags, Name, Symbol, at, LeftHandSide, SimpleTarget}
use Rattle.js_grammar.specs.Table.{rule}
use Rattle.js_grammar.specs.Follow.{edge_of, row_of, follow, after}
use Rattle.js_grammar.proofs.Calculus.{ends, here_at, label_is, slots_are}
use Rattle.js_grammar.proofs.FollowLaws.{admits}
use Rattle.parse_shared.specs.js_cursor.Parsers.{Parser}
use Rattle.parse_shared.specs.laws_shared.Answers.{Answer, Stretch}
use Rattle.parse_shared.specs.laws_shared.Lexemes.{Lex, Walked, Spot, nowhere, one_more, read_again, more_faults}
use Rattle.parse_shared.specs.laws_shared.States.{At}
use Rattle.parse_targets.specs.Targets.{target_of}
use Rattle.parse_shared.proofs.laws_shared.Here.{begins_here}
use Rattle.parse_shared.proofs.laws_shared.Paths.{Path}
use Rattle.parse_targets.proofs.Targets.{Passes, may_target, left_hand_side_target, target_left_hand_side, is_the}
use Rattle.parse_shared.proofs.laws_shared.Verdicts.{verdict_of, either_way}

-- a target's right edge is its own
target_row : (k : NodeKind) (o : Op) (fl : ℕ) (p : _) (cs : Slots) (t : Tree) → target_of (record { kind = k; op = o; flags = fl; span = p }) cs ≡ Some t → row_of (record { kind = k; op = o; flags = fl; span = p }) cs ≡ after_expression
target_row identifier_reference o fl p cs t e = refl
target_row static_member_expression o fl p cs t e = refl
target_row computed_member_expression o fl p cs t e = refl
target_row private_field_expression o fl p cs t e = refl
target_row parenthesized_expression o fl p cs t e = refl
target_row _ o fl p cs t e = absurd (cc)

pub row_of_target : (l : Label) (cs : Slots) (t : Tree) → target_of l cs ≡ Some t → row_of l cs ≡ after_expression
row_of_target l cs t e = target_row l.kind l.op l.flags l.span cs t e

-- A target that was taken, as the expression.
pub record Taken (n : Symbol) (ks : Slots) (t : Tree) (i : ℕ) (ls : Lexemes) (us : Slots) (j : ℕ) (rest : Lexemes) : Type 0 where
  pub label : Label
  pub slots : Slots
  pub has : target_of label slots ≡ Some t
  pub takes : Takes rule (such n always) ks (tree label slots us) i ls us j rest

module _ {n : Symbol} {f : Flags} (w : Passes n (at LeftHandSide f)) where
  as_target : {ks us vs : Slots} {l : Label} {cs : Slots} {i j : ℕ} {ls rest : Lexemes} (t : Tree) → target_of l cs ≡ Some t → Takes rule (such n always) ks (tree l cs us) i ls vs j rest → Takes rule (such (at SimpleTarget f) always) ks (tree t.label t.slots us) i ls vs j rest
  as_target t e (is_such {l = l} {cs = cs} d c) = anew (left_hand_side_target cs f l t e (w.down (may_target l cs t e) (is_such d refl)))
    where
      anew : {ks us : Slots} {l : Label} {cs : Slots} {i j : ℕ} {ls rest : Lexemes} → Takes rule (such (at SimpleTarget f) always) end (tree l cs end) i ls end j rest → Takes rule (such (at SimpleTarget f) always) ks (tree l cs us) i ls us j rest
      anew (is_such d c) = is_such d c

  pub of_derived : {ks us : Slots} (t : Tree) {i j : ℕ} {ls rest : Lexemes} → Takes rule (rule (at SimpleTarget f)) end (tree t.label t.slots end) i ls end j rest → Taken n ks t i ls us j rest
  of_derived {ks} {us} t d = let x = target_left_hand_side t d in record { label = x.label; slots = x.slots; has = x.has; takes = anew (w.up x.derived) }
    where
      anew : {l : Label} {cs : Slots} {i j : ℕ} {ls rest : Lexemes} → Takes rule (such n always) end (tree l cs end) i ls end j rest → Takes rule (such n always) ks (tree l cs us) i ls us j rest
      anew (is_such d c) = is_such d c

  module _ {Lex' : ℕ → Lexeme → Type 0} {X X' : Test} (heads : (l : Label) (cs vs : Slots) (t : Tree) (y : Lexeme) → target_of l cs ≡ Some t → Admits X' (tree t.label t.slots vs) y → Admits X (tree l cs vs) y) {ks : Slots} {s : ℕ} where
    pub target_read : {s' : ℕ} {l : Label} {cs : Slots} {way : Way} (t : Tree) → target_of l cs ≡ Some t → Reads rule Lex' X ks (such n always) s s' (tree l cs) way → Reads rule Lex' X' ks (such (at SimpleTarget f) always) s s' (tree t.label t.slots) way
    target_read {s'} {l} {cs} {way} t e r = record {
      passes = r.passes;
      sound = λ us vs k ls rest m h d. as_target t e (r.sound us vs k ls rest m h d);
      only = λ ts vs k ls rest m d h. go ts vs k ls rest m d h;
    }
      where
        go : (ts vs : Slots) (k : ℕ) (ls rest : Lexemes) → Lexes Lex' s ls → Takes rule (such (at SimpleTarget f) always) ks ts s ls vs k rest → Admits X' ts (here rest) → (us : Slots) × (ls' : Lexemes) × (ts ≡ tree t.label t.slots us) × Lexes Lex' s' ls' × Takes rule nothing ks us s' ls' vs k rest × (ls ≡ way.pass ls')
        go ts vs k ls rest m (is_such {l = a} {cs = bs} d c) h =
            let u : Tree = record { label = a; slots = bs } in
            let x = of_derived {ks = ks} {us = vs} u d in
            let y = r.only (tree x.label x.slots vs) vs k ls rest m x.takes (heads x.label x.slots vs u (here rest) x.has h) in
            let same : u ≡ t = is_the (sym x.has ∙ ((λ i. target_of (label_is y.2 i) (slots_are y.2 i)) ∙ e)) in
            (y.0, y.1, (λ i. tree (same i).label (same i).slots ((sym (ends y.4).0) i)), y.3, y.4, y.5)

    -- it has no target
    pub no_target_read : {s' : ℕ} {l : Label} {cs : Slots} {way : Way} → target_of l cs ≡ None → Reads rule Lex' X ks (such n always) s s' (tree l cs) way → Fails rule Lex' X' ks (such (at SimpleTarget f) always) s
    no_target_read {l = l} {cs = cs} e r = record { no = λ ts vs k ls rest m d h. go ts vs k ls rest m d h }
      where
        go : (ts vs : Slots) (k : ℕ) (ls rest : Lexemes) → Lexes Lex' s ls → Takes rule (such (at SimpleTarget f) always) ks ts s ls vs k rest → Admits X' ts (here rest) → ⊥
        go ts vs k ls rest m (is_such {l = a} {cs = bs} d c) h =
            let u : Tree = record { label = a; slots = bs } in
            let x = of_derived {ks = ks} {us = vs} u d in
            let y = r.only (tree x.label x.slots vs) vs k ls rest m x.takes (heads x.label x.slots vs u (here rest) x.has h) in
            let q : None ≡ Some u = sym e ∙ (sym (λ i. target_of (label_is y.2 i) (slots_are y.2 i)) ∙ x.has) in cc

    -- nothing was read
    pub target_unread : Fails rule Lex' X ks (such n always) s → Fails rule Lex' X' ks (such (at SimpleTarget f) always) s
    target_unread r = record { no = λ ts vs k ls rest m d h. go ts vs k ls rest m d h }
      where
        go : (ts vs : Slots) (k : ℕ) (ls rest : Lexemes) → Lexes Lex' s ls → Takes rule (such (at SimpleTarget f) always) ks ts s ls vs k rest → Admits X' ts (here rest) → ⊥
        go ts vs k ls rest m (is_such {l = a} {cs = bs} d c) h =
            let u : Tree = record { label = a; slots = bs } in
            let x = of_derived {ks = ks} {us = vs} u d in
            r.no (tree x.label x.slots vs) vs k ls rest m x.takes (heads x.label x.slots vs u (here rest) x.has h)

-- ---- between two states

module _ {text : List ℕ} {f : Flags} {n : Symbol} {p q : Parser} (w : Passes n (at LeftHandSide f)) {X' : Test} (heads : (l : Label) (cs vs : Slots) (t : Tree) (y : Lexeme) → target_of l cs ≡ Some t → Admits X' (tree t.label t.slots vs) y → Admits (after n) (tree l cs vs) y) {g : Flags} (x : Answer text g n p q) where
  pub target_path : (t : Tree) → target_of x.label x.slots ≡ Some t → Path text g X' (such (at SimpleTarget f) always) p nothing q (tree t.label t.slots)
  target_path t e = record {
    at = x.at;
    further = x.further;
    pass = x.pass;
    walked = x.walked;
    verdict = verdict_of x.verdict (λ y. record { reach = y.reach; near = y.near; goes = target_read w heads t e y.goes }) (λ m. target_unread w heads m);
  }

  pub target_fails : target_of x.label x.slots ≡ None → Fails rule (Lex text) X' end (such (at SimpleTarget f) always) p.prev_token_end
  target_fails e = either_way x.verdict (λ y. no_target_read w heads e y.goes) (λ m. target_unread w heads m)

-- ---- that a text holds no target: what is told of it

front_of : {text : List ℕ} {s s' : Spot} {pass : Lexemes → Lexemes} → Walked text s s' pass → {to : ℕ} {ms rest : Lexemes} → Front to ms rest → Front to (pass ms) rest
front_of nowhere h = h
front_of (one_more w i r) h = front_of w (more h)
front_of (read_again w ds k i) h = front_of w (more h)
front_of (more_faults w ds n) h = front_of w h

pub front : {text : List ℕ} {s s' : Spot} {pass : Lexemes → Lexemes} → Walked text s s' pass → s.place < s'.place → (ms : Lexemes) → Front s'.place (pass ms) ms
front nowhere h ms = absurd (omega arith)
front (one_more w i r) h ms = front_of w (one refl)
front (read_again w ds k i) h ms = front_of w (one refl)
front (more_faults w ds n) h ms = front w h ms

pub all_stand : (text : List ℕ) (s : ℕ) (ls : Lexemes) → Lexes (Lex text) s ls → Lexes (NextLexeme all_faults text) s ls
all_stand text s (last x) l = l.0
all_stand text s (next x ls) l = (l.0.0, all_stand text x.to ls l.1)

-- the lexemes that were read, with the one behind them
module _ {text : List ℕ} {g : Flags} {n : Symbol} {p q : Parser} (x : Answer text g n p q) (a : At text g p) (z : Stretch text (after n) (such n always) p.prev_token_end nothing q.prev_token_end (tree x.label x.slots) x.pass) (y : Lexeme) (l : Lex text q.prev_token_end y) where
  pub lexed_there : Lexes (Lex text) p.prev_token_end (x.pass (last y))
  lexed_there = z.goes.passes.lexed (last y) l

  pub part_there : Part text p.prev_token_end (x.pass (last y))
  part_there = record { reached = subst (λ (v : List ℕ). Reached v p.prev_token_end) a.text_is a.at.reached; lexed = all_stand text p.prev_token_end (x.pass (last y)) lexed_there }

  pub begins_there : (here (x.pass (last y))).from ≡ p.token.span.start
  begins_there = begins_here a (here (x.pass (last y))) (here_at (Lex text) (x.pass (last y)) lexed_there)

  -- what isn't derived from them
  abbrev pub underived_there : (f : Flags) (m : Name) (s : Span) → s.start ≡ p.token.span.start → s.end ≡ q.prev_token_end → ((t : Tree) → Derives rule (at m f) t p.prev_token_end (x.pass (last y)) q.prev_token_end (last y) → ⊥) → UnderivedAt m text s
  underived_there f m s b c none = record {
    place = p.prev_token_end;
    lexemes = x.pass (last y);
    rest = last y;
    part = part_there;
    begins = begins_there ∙ sym b;
    front = subst (λ (v : ℕ). Front v (x.pass (last y)) (last y)) (sym c) (front x.walked (let i = x.further in let j = a.behind in omega arith) (last y));
    flags = f;
    none = λ t d. none t (subst (λ (v : ℕ). Derives rule (at m f) t p.prev_token_end (x.pass (last y)) v (last y)) c d);
  }

  -- no target is, where what was read has none
  pub no_simple_there : {f : Flags} → Passes n (at LeftHandSide f) → target_of x.label x.slots ≡ None → ((l : Label) (cs : Slots) (t : Tree) → target_of l cs ≡ Some t → IsTrue (seen (follow n (edge_of l cs)) y)) → (t : Tree) → Derives rule (at SimpleTarget f) t p.prev_token_end (x.pass (last y)) q.prev_token_end (last y) → ⊥
  no_simple_there w e h t d =
      let u = of_derived w {ks = end} {us = end} t d in
      let v = z.goes.only (tree u.label u.slots end) end q.prev_token_end (x.pass (last y)) (last y) lexed_there u.takes (admits n (tree u.label u.slots end) y (h u.label u.slots t u.has)) in
      let k : None ≡ Some t = sym e ∙ (sym (λ i. target_of (label_is v.2 i) (slots_are v.2 i)) ∙ u.has) in cc

pub record Untargeted (text : List ℕ) (s : Span) (place : ℕ) (y : Lexeme) : Type 0 where
  pub there : UnderivedAt SimpleTarget text s
  pub place_is : there.place ≡ place
  pub rest_is : there.rest ≡ last y

-- What was read is no target, under the parameters in force, where y stands behind it.
pub no_target_there : {text : List ℕ} {f g : Flags} {n : Symbol} {p q : Parser} (w : Passes n (at LeftHandSide f)) (x : Answer text g n p q) → At text g p → Stretch text (after n) (such n always) p.prev_token_end nothing q.prev_token_end (tree x.label x.slots) x.pass
    → target_of x.label x.slots ≡ None → (y : Lexeme) → Lex text q.prev_token_end y → ((l : Label) (cs : Slots) (t : Tree) → target_of l cs ≡ Some t → IsTrue (seen (follow n (edge_of l cs)) y)) → (s : Span) → s.start ≡ p.token.span.start → s.end ≡ q.prev_token_end → Untargeted text s p.prev_token_end y
no_target_there {f = f} w x a z e y l h s b c = record { there = underived_there x a z y l f SimpleTarget s b c (λ t d. no_simple_there x a z y l w e h t d); place_is = refl; rest_is = refl }
