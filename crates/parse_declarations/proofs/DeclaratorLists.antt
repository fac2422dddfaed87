-- The declarators of a declaration (ECMA-262, 14.3.1, 14.3.2), with commas between. What may stand behind the list is told by its last one, so each reading is of all of them up to that.
use Rattle.std.proofs.Common.{ℕ, ◌≡◌, ◌<◌, ◌≤◌, ◌⊎◌, inl, inr, max, List, [], ◌∷◌, ◌++◌, length, Option, Some, Bool, true, false, IsTrue, refl, sym, ap, subst, arith, ◌∙◌}
use Rattle.std.specs.Prelude.{Ok}
use Rattle.std.proofs.lemmas.Bool.{false≢true, or_left, or_right}
use Rattle.js_base.specs.declared.diagnostic.Diagnostic.{Diagnostic}
use Rattle.js_base.specs.declared.kind.Kind.TheVariants.{Comma}
use Rattle.js_grammar.specs.Trees.{Label, Slots, end, tree, append}
use Rattle.js_grammar.specs.Grammar.{Lexeme, Lexemes, next, here, seen, is, Takes, is_nothing, is_lexeme, is_seq, is_left, is_right, is_commas, is_node, ◌▸◌}
use Rattle.js_grammar.specs.Insertion.{Row, after_word, edge}
use Rattle.js_grammar.specs.Lexed.{Lexes}
use Rattle.js_grammar.specs.Parsing.{plain, full, passing, Goes}
use Rattle.js_grammar.specs.Productions.{G, Flags, tok}
use Rattle.js_grammar.specs.Table.{rule, declarator}
use Rattle.js_grammar.specs.Follow.{row_of}
use Rattle.js_grammar.proofs.Calculus.{here_at, passes_both, reaches_less}
use Rattle.js_grammar.proofs.Frame.{append_assoc}
use Rattle.js_grammar.proofs.RightEdges.{edge_append}
use Rattle.parse_shared.specs.js_tree.declared.id.NodeId.{NodeId}
use Rattle.parse_shared.specs.js_tree.Nodes.{Node}
use Rattle.parse_shared.specs.js_tree.Holding.{HoldsAll, Keeps}
use Rattle.parse_shared.proofs.js_tree.HoldingLemmas.{HoldsAll-none, HoldsAll-next, Keeps-refl, Keeps-trans}
use Rattle.parse_shared.specs.js_cursor.Parsers.{Parser}
use Rattle.parse_shared.specs.js_cursor.declared.stop.Stop.{Stop}
use Rattle.parse_shared.specs.laws_shared.Answers.{Stops, Verdict, clean}
use Rattle.parse_shared.specs.laws_shared.Lexemes.{Lex, Walked, nowhere, spot}
use Rattle.parse_shared.specs.laws_shared.Moves.{Moved}
use Rattle.parse_shared.specs.laws_shared.Nesting.{room}
use Rattle.parse_shared.specs.laws_shared.States.{At, Same, Standing, flags_of}
use Rattle.parse_declarations.specs.Declarations.{AllOf, Declarator, Declarators, DeclaratorsRead, NoDeclarators, NoneOf, NoOne, One, OneDeclarator, ReadsOneDeclarator, ends_row, list_of, stops_row}
use Rattle.parse_shared.proofs.laws_shared.Moving.{same_both, same_itself, standing, stops_behind}
use Rattle.parse_shared.proofs.laws_shared.Nesting.{later_room, nested_room}
use Rattle.parse_shared.proofs.laws_shared.Paths.{skips, walked_both, walked_one}
use Rattle.parse_shared.proofs.laws_shared.Signs.{plain_sign}
use Rattle.parse_shared.proofs.laws_shared.Verdicts.{and_then, either_way}
use Rattle.parse_shared.proofs.laws_shared.Verdicts.{after as grown_behind}
use Rattle.parse_shared.proofs.laws_shared.PlainSigns.{comma_plain}
use Rattle.parse_shared.proofs.laws_shared.Commas.{commas_here, no_comma_here}

-- behind a declarator
abbrev others : Bool → Flags → G
others c f = tok Comma ▸ list_of c f

module _ {text : List ℕ} {f : Flags} (c : Bool) where
  -- the last declarator
  last_one : {s s' : ℕ} {l : Label} {cs : Slots} {pass : Lexemes → Lexemes} → One text (declarator c f) s s' l cs pass → ((y : Lexeme) → Lex text s' y → IsTrue (seen (is Comma) y) → ⊥) → AllOf text (list_of c f) s s' (tree l cs end) pass
  last_one {s} {s'} {l} {cs} {pass} y n = record { reach = y.reach; near = y.near; passes = y.passes; sound = λ ls lx r. is_commas (is_seq (y.sound end ls lx r) (is_right is_nothing)); only = λ ts k ls rest lx d e. go ts k ls rest lx d e }
    where
      go : (ts : Slots) (k : ℕ) (ls rest : Lexemes) → Lexes (Lex text) s ls → Takes rule (list_of c f) end ts s ls end k rest → IsTrue (seen (ends_row (edge after_word after_word ts)) (here rest)) → (ts ≡ tree l cs end) × (k ≡ s') × Lexes (Lex text) s' rest × (ls ≡ pass rest)
      go ts k ls rest lx (is_commas (is_seq {us = us} {j = j} {mid = mid} (is_node d) (is_left (is_seq (is_lexeme q) g)))) e = let x = y.only ts us j ls mid lx (is_node d) (or_left (seen (is Comma) (here mid)) _ q) in absurd (n (here mid) (here_at (Lex text) mid x.2) q)
      go ts k ls rest lx (is_commas (is_seq (is_node d) (is_right is_nothing))) e = y.only ts end k ls rest lx (is_node d) (or_right (seen (is Comma) (here rest)) _ e)

  -- a declarator, and a comma behind it
  next_one : {s s' e : ℕ} {l : Label} {cs us : Slots} {pass through : Lexemes → Lexemes} → One text (declarator c f) s s' l cs pass → ((y : Lexeme) → IsTrue (seen (is Comma) y) → IsTrue (seen (ends_row (row_of l cs)) y) → ⊥) → ((y : Lexeme) → Lex text s' y → IsTrue (seen (is Comma) y)) → AllOf text (others c f) s' e us through → s' ≤ e → AllOf text (list_of c f) s e (tree l cs us) (λ ls. pass (through ls))
  next_one {s} {s'} {e} {l} {cs} {us} {pass} {through} y o t w i = record {
    reach = max y.reach w.reach;
    near = let a = y.near in let b = w.near in omega arith;
    passes = passes_both y.passes w.passes;
    sound = λ ls lx r. is_commas (is_seq (y.sound us (through ls) (w.passes.lexed ls lx) (w.passes.reaches y.reach ls (reaches_less y.reach (max y.reach w.reach) (omega arith) e ls r))) (is_left (w.sound ls lx (reaches_less w.reach (max y.reach w.reach) (omega arith) e ls r))));
    only = λ ts k ls rest lx d h. go ts k ls rest lx d h;
  }
    where
      go : (ts : Slots) (k : ℕ) (ls rest : Lexemes) → Lexes (Lex text) s ls → Takes rule (list_of c f) end ts s ls end k rest → IsTrue (seen (ends_row (edge after_word after_word ts)) (here rest)) → (ts ≡ tree l cs us) × (k ≡ e) × Lexes (Lex text) e rest × (ls ≡ pass (through rest))
      go ts k ls rest lx (is_commas (is_seq {us = ws} {j = j} {mid = mid} (is_node d) (is_left (is_seq (is_lexeme q) (is_commas (is_seq (is_node d') r)))))) h =
          let x = y.only ts ws j ls mid lx (is_node d) (or_left (seen (is Comma) (here mid)) _ q) in
          let z = w.only ws k mid rest x.2 (subst (λ (v : ℕ). Takes rule (others c f) end ws v mid end k rest) x.1 (is_seq (is_lexeme q) (is_commas (is_seq (is_node d') r)))) h in
          (x.0 ∙ ap (λ (v : Slots). tree l cs v) z.0, z.1, z.2, x.3 ∙ ap pass z.3)
      go ts k ls rest lx (is_commas (is_seq (is_node d) (is_right is_nothing))) h =
          let x = y.only ts end k ls rest lx (is_node d) (or_right (seen (is Comma) (here rest)) _ h) in
          absurd (o (here rest) (t (here rest) (here_at (Lex text) rest x.2)) (subst (λ (v : Slots). IsTrue (seen (ends_row (edge after_word after_word v)) (here rest))) x.0 h))

  -- where no declarator is derived
  none_first : {s : ℕ} → NoOne text (declarator c f) s → NoneOf text (list_of c f) s
  none_first {s} n = record { no = λ ts k ls rest lx d e. go ts k ls rest lx d e }
    where
      go : (ts : Slots) (k : ℕ) (ls rest : Lexemes) → Lexes (Lex text) s ls → Takes rule (list_of c f) end ts s ls end k rest → IsTrue (seen (ends_row (edge after_word after_word ts)) (here rest)) → ⊥
      go ts k ls rest lx (is_commas (is_seq {us = us} {j = j} {mid = mid} (is_node d) (is_left (is_seq (is_lexeme q) g)))) e = n.no ts us j ls mid lx (is_node d) (or_left (seen (is Comma) (here mid)) _ q)
      go ts k ls rest lx (is_commas (is_seq (is_node d) (is_right is_nothing))) e = n.no ts end k ls rest lx (is_node d) (or_right (seen (is Comma) (here rest)) _ e)

  none_next : {s s' : ℕ} {l : Label} {cs : Slots} {pass : Lexemes → Lexemes} → One text (declarator c f) s s' l cs pass → ((y : Lexeme) → IsTrue (seen (is Comma) y) → IsTrue (seen (ends_row (row_of l cs)) y) → ⊥) → ((y : Lexeme) → Lex text s' y → IsTrue (seen (is Comma) y)) → NoneOf text (others c f) s' → NoneOf text (list_of c f) s
  none_next {s} {l = l} {cs = cs} y o t w = record { no = λ ts k ls rest lx d e. go ts k ls rest lx d e }
    where
      go : (ts : Slots) (k : ℕ) (ls rest : Lexemes) → Lexes (Lex text) s ls → Takes rule (list_of c f) end ts s ls end k rest → IsTrue (seen (ends_row (edge after_word after_word ts)) (here rest)) → ⊥
      go ts k ls rest lx (is_commas (is_seq {us = ws} {j = j} {mid = mid} (is_node d) (is_left (is_seq (is_lexeme q) (is_commas (is_seq (is_node d') r)))))) h =
          let x = y.only ts ws j ls mid lx (is_node d) (or_left (seen (is Comma) (here mid)) _ q) in
          w.no ws k mid rest x.2 (subst (λ (v : ℕ). Takes rule (others c f) end ws v mid end k rest) x.1 (is_seq (is_lexeme q) (is_commas (is_seq (is_node d') r)))) h
      go ts k ls rest lx (is_commas (is_seq (is_node d) (is_right is_nothing))) h =
          let x = y.only ts end k ls rest lx (is_node d) (or_right (seen (is Comma) (here rest)) _ h) in
          o (here rest) (t (here rest) (here_at (Lex text) rest x.2)) (subst (λ (v : Slots). IsTrue (seen (ends_row (edge after_word after_word v)) (here rest))) x.0 h)

-- a lexeme was passed before the list
module _ {text : List ℕ} {g g' : G} {s s' : ℕ} {x : Lexeme} (y : Goes rule (Lex text) (plain full) end g s g' s' (λ us. us) (passing x)) where
  pub all_behind : {e : ℕ} {us : Slots} {through : Lexemes → Lexemes} → AllOf text g' s' e us through → s' ≤ e → AllOf text g s e us (λ ls. next x (through ls))
  all_behind {e} {us} {through} w i = record {
    reach = w.reach;
    near = w.near;
    passes = passes_both y.passes w.passes;
    sound = λ ls lx r. y.sound us end e (through ls) ls (w.passes.lexed ls lx) (reaches_less 0 w.reach (omega arith) s' (through ls) (w.passes.reaches w.reach ls r)) (w.sound ls lx r);
    only = λ ts k ls rest lx d h. let z = y.only ts end k ls rest lx d (refl, refl) in let v = w.only z.0 k z.1 rest z.3 z.4 (subst (λ (v : Slots). IsTrue (seen (ends_row (edge after_word after_word v)) (here rest))) z.2 h) in (z.2 ∙ v.0, v.1, v.2, z.5 ∙ ap (λ (v : Lexemes). next x v) v.3);
  }

  pub none_behind : NoneOf text g' s' → NoneOf text g s
  none_behind w = record { no = λ ts k ls rest lx d h. let z = y.only ts end k ls rest lx d (refl, refl) in w.no z.0 k z.1 rest z.3 z.4 (subst (λ (v : Slots). IsTrue (seen (ends_row (edge after_word after_word v)) (here rest))) z.2 h) }

-- a comma
comma_goes : {text : List ℕ} {f : Flags} (c : Bool) {p q : Parser} → At text f p → p.token.kind ≡ Comma → (m : Moved text f p q) → Goes rule (Lex text) (plain full) end (others c f) p.prev_token_end (list_of c f) q.prev_token_end (λ us. us) (passing m.lexeme)
comma_goes c a k m = skips a Comma k (plain_sign Comma a k refl refl comma_plain) refl m

-- ---- the loop

-- whatever the declarators from here on are, these stand before them
pub record Onward (text : List ℕ) (f : Flags) (c : Bool) (p q : Parser) (prefix : Slots) (pass : Lexemes → Lexemes) : Type 0 where
  pub goes : (e : ℕ) (us : Slots) (through : Lexemes → Lexemes) → AllOf text (list_of c f) q.prev_token_end e us through → q.prev_token_end ≤ e → AllOf text (list_of c f) p.prev_token_end e (append prefix us) (λ ls. pass (through ls))
  pub fails : NoneOf text (list_of c f) q.prev_token_end → NoneOf text (list_of c f) p.prev_token_end

-- Declarators were read, each with its comma, or none.
pub record Underway (text : List ℕ) (f : Flags) (c : Bool) (p q : Parser) (ids : List (Option NodeId)) : Type 0 where
  pub at : At text f q
  pub same : Same p q
  pub forward : p.prev_token_end ≤ q.prev_token_end
  pub prefix : Slots
  pub pass : Lexemes → Lexemes
  pub walked : Walked text (spot p) (spot q) pass
  pub verdict : Verdict (f.wide ≡ true) p.errors q.errors (Onward text f c p q prefix pass) (NoneOf text (list_of c f) p.prev_token_end)
  pub holds : HoldsAll q.nodes (length p.nodes) (length q.nodes) ids prefix
  pub keeps : Keeps p.nodes q.nodes

pub underway_init : {text : List ℕ} {f : Flags} {c : Bool} {p : Parser} → At text f p → Underway text f c p p []
underway_init {p = p} a = record { at = a; same = same_itself; forward = omega arith; prefix = end; pass = λ ls. ls; walked = nowhere; verdict = clean refl (record { goes = λ e us through w i. w; fails = λ n. n }); holds = HoldsAll-none p.nodes (length p.nodes) (length p.nodes) (omega arith); keeps = Keeps-refl p.nodes }

module _ {text : List ℕ} {f : Flags} {c : Bool} {p q v : Parser} {ids : List (Option NodeId)} {id : NodeId} (s : Underway text f c p q ids) (x : Declarator text f c q v id) where
  held : HoldsAll v.nodes (length p.nodes) (length v.nodes) (ids ++ Some id ∷ []) (append s.prefix (tree x.label x.slots end))
  held = HoldsAll-next id x.keeps s.holds x.holds

  -- no comma stands behind it
  pub underway_end : (v.token.kind ≡ Comma → ⊥) → Declarators text f c p v (ids ++ Some id ∷ [])
  underway_end n = record {
    at = x.at;
    same = same_both s.same x.same;
    further = let a = s.forward in let b = s.at.behind in let d = x.further in omega arith;
    slots = append s.prefix (tree x.label x.slots end);
    pass = λ ls. s.pass (x.pass ls);
    walked = walked_both s.walked x.walked;
    verdict = and_then s.verdict x.verdict (λ u y. u.goes v.prev_token_end (tree x.label x.slots end) x.pass (last_one c y (no_comma_here x.at n)) (let b = s.at.behind in let d = x.further in omega arith)) (λ z. z) (λ u y. u.fails (none_first c y));
    stops = λ i y l. subst (λ (r : Row). IsTrue (seen (stops_row r) y)) (sym (edge_append after_word after_word s.prefix (tree x.label x.slots end))) (x.stops i n y l);
    holds = held;
    keeps = Keeps-trans s.keeps x.keeps;
  }

  -- one does
  module _ {r : Parser} (k : v.token.kind ≡ Comma) (m : Moved text f v r) where
    step_goes : Onward text f c p q s.prefix s.pass → One text (declarator c f) q.prev_token_end v.prev_token_end x.label x.slots x.pass → Onward text f c p r (append s.prefix (tree x.label x.slots end)) (λ ls. s.pass (x.pass (next m.lexeme ls)))
    step_goes u y = record {
      goes = λ e us through w i. subst (λ (vs : Slots). AllOf text (list_of c f) p.prev_token_end e vs (λ ls. s.pass (x.pass (next m.lexeme (through ls))))) (sym (append_assoc s.prefix (tree x.label x.slots end) us))
          (u.goes e (tree x.label x.slots us) _ (next_one c y x.comma (commas_here x.at k) (all_behind (comma_goes c x.at k m) w i) (let a = x.at.behind in let b = m.further in omega arith)) (let a = s.at.behind in let b = x.further in let d = x.at.behind in let g = m.further in omega arith));
      fails = λ w. u.fails (none_next c y x.comma (commas_here x.at k) (none_behind (comma_goes c x.at k m) w));
    }

    pub underway_step : Underway text f c p r (ids ++ Some id ∷ [])
    underway_step = record {
      at = m.at;
      same = same_both s.same (same_both x.same m.same);
      forward = let a = s.forward in let b = s.at.behind in let d = x.further in let e = x.at.behind in let g = m.further in omega arith;
      prefix = append s.prefix (tree x.label x.slots end);
      pass = λ ls. s.pass (x.pass (next m.lexeme ls));
      walked = walked_both s.walked (walked_both x.walked (walked_one m));
      verdict = and_then s.verdict (kept_by x.verdict) (λ u y. step_goes u y) (λ z. z) (λ u y. u.fails (none_first c y));
      holds = subst (λ (ns : List Node). HoldsAll ns (length p.nodes) (length ns) (ids ++ Some id ∷ []) (append s.prefix (tree x.label x.slots end))) (sym m.nodes) held;
      keeps = subst (λ (ns : List Node). Keeps p.nodes ns) (sym m.nodes) (Keeps-trans s.keeps x.keeps);
    }
      where
        kept_by : {C B : Type 0} → Verdict (f.wide ≡ true) q.errors v.errors C B → Verdict (f.wide ≡ true) q.errors r.errors C B
        kept_by {C} {B} d = subst (λ (ds : List Diagnostic). Verdict (f.wide ≡ true) q.errors ds C B) (sym m.kept) d

-- the loop, whatever the text and the parameters are
pub record DeclaratorLoop (c : Bool) (ids : List (Option NodeId)) (p q : Parser) : Type 0 where
  pub at : Standing q
  pub less : room q ≤ room p
  pub goes : (text : List ℕ) (f : Flags) → At text f p → Underway text f c p q ids

pub loop_start : {c : Bool} {p : Parser} {ids : List (Option NodeId)} → ids ≡ [] → Standing p → DeclaratorLoop c ids p p
loop_start {c} {p} e a = subst (λ (is : List (Option NodeId)). DeclaratorLoop c is p p) (sym e) (record { at = a; less = omega arith; goes = λ text f b. underway_init b })

more_so : {c : Bool} {js ks : List (Option NodeId)} {q r : Parser} {b : Bool} (d : Bool) → b ≡ d → ReadsOneDeclarator c js ks q r (Ok b) → (text : List ℕ) (f : Flags) → At text f q → OneDeclarator text f c q r js ks d
more_so {c} {js} {ks} {q} {r} d e y text f a = subst (λ (v : Bool). OneDeclarator text f c q r js ks v) e (y text f a)

-- a comma was passed
record Stepped (text : List ℕ) (f : Flags) (c : Bool) (q r : Parser) (js ks : List (Option NodeId)) : Type 0 where
  mid : Parser
  id : NodeId
  one : Declarator text f c q mid id
  pushed : ks ≡ js ++ Some id ∷ []
  comma : mid.token.kind ≡ Comma
  moved : Moved text f mid r

stepped : {text : List ℕ} {f : Flags} {c : Bool} {q r : Parser} {js ks : List (Option NodeId)} → OneDeclarator text f c q r js ks true → Stepped text f c q r js ks
stepped {text} {f} {c} {q} {r} {js} {ks} y = go y.behind
  where
    go : ((true ≡ true) × (y.mid.token.kind ≡ Comma) × Moved text f y.mid r) ⊎ ((true ≡ false) × (y.mid.token.kind ≡ Comma → ⊥) × (r ≡ y.mid)) → Stepped text f c q r js ks
    go (inl (e, k, m)) = record { mid = y.mid; id = y.id; one = y.one; pushed = y.pushed; comma = k; moved = m }
    go (inr (e, k, m)) = absurd (false≢true (sym e))

module _ {c : Bool} {p q r : Parser} {js ks : List (Option NodeId)} {b : Bool} (l : DeclaratorLoop c js p q) (y : ReadsOneDeclarator c js ks q r (Ok b)) where
  pub loop_less : b ≡ true → room r < room q
  loop_less e =
      let z = stepped (more_so true e y q.text (flags_of q) l.at) in
      let i = nested_room z.one.at z.moved in
      let j = later_room (let g = z.one.further in let h = l.at.behind in omega arith) z.one.same in
      omega arith

  pub loop_more : b ≡ true → DeclaratorLoop c ks p r
  loop_more e = record {
    at = standing (stepped (more_so true e y q.text (flags_of q) l.at)).moved.at;
    less = let i = loop_less e in let j = l.less in omega arith;
    goes = λ text f a. let s = l.goes text f a in let z = stepped (more_so true e y text f s.at) in subst (λ (is : List (Option NodeId)). Underway text f c p r is) (sym z.pushed) (underway_step s z.one z.comma z.moved);
  }

  pub loop_end : b ≡ false → DeclaratorsRead c p r ks
  loop_end e = λ text f a. let s = l.goes text f a in let z = more_so false e y text f s.at in go text f s z z.behind
    where
      go : (text : List ℕ) (f : Flags) (s : Underway text f c p q js) (z : OneDeclarator text f c q r js ks false) → ((false ≡ true) × (z.mid.token.kind ≡ Comma) × Moved text f z.mid r) ⊎ ((false ≡ false) × (z.mid.token.kind ≡ Comma → ⊥) × (r ≡ z.mid)) → Declarators text f c p r ks
      go text f s z (inl (e, k, m)) = absurd (false≢true e)
      go text f s z (inr (e, k, m)) = subst (λ (v : Parser). Declarators text f c p v ks) (sym m) (subst (λ (is : List (Option NodeId)). Declarators text f c p z.mid is) (sym z.pushed) (underway_end s z.one k))

pub loop_stops : {c : Bool} {p q : Parser} {js : List (Option NodeId)} (r : Parser) (e : Stop) → DeclaratorLoop c js p q → ((text : List ℕ) (f : Flags) → At text f q → Stops q r e (NoOne text (declarator c f) q.prev_token_end)) → NoDeclarators c p r e
loop_stops {c = c} r e l y = λ text f a. let s = l.goes text f a in stops_behind r e s.same (λ g. grown_behind s.verdict g) (λ n. either_way s.verdict (λ u. u.fails (none_first c n)) (λ z. z)) (y text f s.at)
