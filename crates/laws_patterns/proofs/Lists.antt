-- Lists between brackets: what is left of one behind each of its items, a gap, and what stands last.
use Rattle.std.proofs.Common.{ℕ, ◌≡◌, ◌≤◌, ◌<◌, max, List, [], ◌∷◌, ◌++◌, length, Option, Some, None, Bool, true, false, refl, sym, ap, subst, arith, ◌∙◌}
use Rattle.std.specs.Prelude.{Ok}
use Rattle.js_base.specs.declared.kind.Kind.{Kind}
use Rattle.js_base.specs.declared.kind.Kind.TheVariants.{RCurly, Comma, RParen, RBrack}
use Rattle.js_base.specs.Kinds.{one_of_kinds}
use Rattle.js_grammar.specs.Trees.{Slots, end, hole, tree, append}
use Rattle.js_grammar.specs.Grammar.{Lexeme, Look, here, is, next, seq, such, empty_slot}
use Rattle.js_grammar.specs.Parsing.{plain, full, always, still, passing, Admits, Fails, Goes, Reads}
use Rattle.js_grammar.specs.Productions.{G, Flags, Symbol, tok}
use Rattle.js_grammar.specs.Table.{rest_of, rule}
use Rattle.js_grammar.specs.FirstSets.{first as first_of}
use Rattle.js_grammar.specs.Follow.{after}
use Rattle.js_grammar.proofs.Looks.{covers}
use Rattle.js_grammar.proofs.Calculus.{◌▹◌, ◌▹✗◌, left, right, same, stay, by_plain, part_by, part_fails, then_by, fails_alt, fails_lexeme, reads_empty_slot}
use Rattle.js_grammar.proofs.First.{starts}
use Rattle.js_grammar.proofs.FirstClaims.{firsts}
use Rattle.js_grammar.proofs.FirstRules.{by_first}
use Rattle.js_grammar.proofs.Frame.{append_end, append_assoc}
use Rattle.laws_shared.specs.js_tree.declared.id.NodeId.{NodeId}
use Rattle.laws_shared.specs.js_tree.Nodes.{Node}
use Rattle.laws_shared.specs.js_tree.Holding.{HoldsAll, Keeps}
use Rattle.laws_shared.proofs.js_tree.HoldingLemmas.{HoldsAll-hole, HoldsAll-next, Keeps-refl, Keeps-trans}
use Rattle.laws_shared.specs.js_cursor.Parsers.{Parser}
use Rattle.laws_shared.specs.js_cursor.declared.stop.Stop.{Stop}
use Rattle.laws_shared.specs.Answers.{Underived, Numbered, Stops, clean}
use Rattle.laws_shared.specs.Arguments.{Partway, PartTaken, behind_item}
use Rattle.laws_shared.specs.Lexemes.{Lex, nowhere}
use Rattle.laws_shared.specs.Lists.{NoneLeft, OneMore, ReadsOneMore, ListStops}
use Rattle.laws_shared.specs.Moves.{Moved}
use Rattle.laws_shared.specs.Nesting.{room}
use Rattle.laws_shared.specs.States.{At, Standing}
use Rattle.laws_patterns.specs.Bindings.{closers, rest_comma}
use Rattle.laws_primary.proofs.Arrays.{listed, behind_one, by_first_item, unrolled, rolled}
use Rattle.laws_shared.proofs.Signs.{plain_sign}
use Rattle.laws_shared.proofs.Signs.{NoneIs, none_seen}
use Rattle.laws_shared.proofs.Moving.{same_both, same_itself, standing, stops_behind}
use Rattle.laws_shared.proofs.Nesting.{later_room}
use Rattle.laws_shared.proofs.Paths.{passes, skips, walked_both, walked_one}
use Rattle.laws_shared.proofs.Stretches.{stretches}
use Rattle.laws_shared.proofs.Verdicts.{verdict_of, either_way, and_then}
use Rattle.laws_shared.proofs.Verdicts.{after as grown_behind}
use Rattle.laws_shared.proofs.PlainSigns.{comma_plain}
use Rattle.laws_patterns.specs.Lists.{ListReadOn}

-- ---- what is left of a list

module _ (gap item z : G) (close : Kind) {text : List ℕ} {s : ℕ} where
  unrolls : Goes rule (Lex text) (plain full) end (listed gap item z (tok close)) s (by_first_item gap item z (tok close)) s (λ us. us) (still 0)
  unrolls = same (λ ts us i j ls rest d. unrolled gap item z (tok close) ts us i j ls rest d) (λ ts us i j ls rest d. rolled gap item z (tok close) ts us i j ls rest d)

  no_first : {a b : G} → NoneLeft text a s → NoneLeft text (seq a b) s
  no_first n = part_fails {X' = plain full} n (record { admits = λ ts us vs j k ls mid rest d d' e. (refl, refl) })

  pub item_due : NoneLeft text gap s → NoneLeft text z s → NoneLeft text (tok close) s → Goes rule (Lex text) (plain full) end (listed gap item z (tok close)) s (seq item (behind_one gap item z (tok close))) s (λ us. us) (still 0)
  item_due a b c = unrolls ▹ (right (no_first a) ▹ left (fails_alt (no_first b) c))

  pub last_due : NoneLeft text gap s → NoneLeft text item s → NoneLeft text (tok close) s → Goes rule (Lex text) (plain full) end (listed gap item z (tok close)) s (seq z (tok close)) s (λ us. us) (still 0)
  last_due a b c = unrolls ▹ (right (no_first a) ▹ (right (no_first b) ▹ left c))

  pub gap_due : NoneLeft text item s → NoneLeft text z s → NoneLeft text (tok close) s → Goes rule (Lex text) (plain full) end (listed gap item z (tok close)) s (seq gap (listed gap item z (tok close))) s (λ us. us) (still 0)
  gap_due a b c = unrolls ▹ left (fails_alt (no_first a) (fails_alt (no_first b) c))

  pub end_due : NoneLeft text gap s → NoneLeft text item s → NoneLeft text z s → Goes rule (Lex text) (plain full) end (listed gap item z (tok close)) s (tok close) s (λ us. us) (still 0)
  end_due a b c = unrolls ▹ (right (no_first a) ▹ (right (no_first b) ▹ right (no_first c)))

  -- behind an item
  comma_due : NoneLeft text (tok close) s → Goes rule (Lex text) (plain full) end (behind_one gap item z (tok close)) s (seq (tok Comma) (listed gap item z (tok close))) s (λ us. us) (still 0)
  comma_due n = left n

  closing_due : NoneIs text s Comma → Goes rule (Lex text) (plain full) end (behind_one gap item z (tok close)) s (tok close) s (λ us. us) (still 0)
  closing_due n = right (no_first (fails_lexeme (is Comma) (none_seen n)))

-- ---- what was read, put together

module _ {text : List ℕ} {f : Flags} {g g' g'' : G} {p q : Parser} {ids js : List (Option NodeId)} where
  pub one_and_more : {r : Parser} {ks : List (Option NodeId)} → OneMore text f g g' p q ids js → OneMore text f g' g'' q r js ks → OneMore text f g g'' p r ids ks
  one_and_more {r} {ks} x y = record {
    at = y.at;
    same = same_both x.same y.same;
    forward = let a = x.forward in let b = y.forward in omega arith;
    slots = λ us. x.slots (y.slots us);
    puts = λ us. ap x.slots (y.puts us) ∙ (x.puts (append (y.slots end) us) ∙ (sym (append_assoc (x.slots end) (y.slots end) us) ∙ ap (λ (vs : Slots). append vs us) (sym (x.puts (y.slots end)))));
    pass = λ ls. x.pass (y.pass ls);
    walked = walked_both x.walked y.walked;
    verdict = and_then x.verdict y.verdict (λ u v. stretches u v y.forward) (λ n. n) (λ u n. u.goes ▹✗ n);
    holds = λ lo us h. subst (λ (vs : Slots). HoldsAll r.nodes lo (length r.nodes) ks vs) (append_assoc us (x.slots end) (y.slots end) ∙ ap (λ (vs : Slots). append us vs) (sym (x.puts (y.slots end)))) (y.holds lo (append us (x.slots end)) (x.holds lo us h));
    keeps = Keeps-trans x.keeps y.keeps;
  }

  -- a choice before what was read
  pub more_from : Goes rule (Lex text) (plain full) end g p.prev_token_end g' p.prev_token_end (λ us. us) (still 0) → OneMore text f g' g'' p q ids js → OneMore text f g g'' p q ids js
  more_from c x = record {
    at = x.at;
    same = x.same;
    forward = x.forward;
    slots = x.slots;
    puts = x.puts;
    pass = x.pass;
    walked = x.walked;
    verdict = verdict_of x.verdict (λ y. record { reach = max 0 y.reach; near = let i = y.near in omega arith; goes = c ▹ y.goes }) (λ n. c ▹✗ n);
    holds = x.holds;
    keeps = x.keeps;
  }

  -- and behind it
  pub more_goes : OneMore text f g g' p q ids js → Goes rule (Lex text) (plain full) end g' q.prev_token_end g'' q.prev_token_end (λ us. us) (still 0) → OneMore text f g g'' p q ids js
  more_goes x c = record {
    at = x.at;
    same = x.same;
    forward = x.forward;
    slots = x.slots;
    puts = x.puts;
    pass = x.pass;
    walked = x.walked;
    verdict = verdict_of x.verdict (λ y. record { reach = max y.reach 0; near = let i = y.near in omega arith; goes = y.goes ▹ c }) (λ n. n);
    holds = x.holds;
    keeps = x.keeps;
  }

  -- behind an opening bracket
  pub list_goes_on : {r : Parser} {ks : List (Option NodeId)} → Partway text f g g' p q ids js → OneMore text f g' g'' q r js ks → Partway text f g g'' p r ids ks
  list_goes_on {r} {ks} x y = record {
    at = y.at;
    same = same_both x.same y.same;
    further = let a = x.further in let b = y.forward in omega arith;
    slots = λ us. x.slots (y.slots us);
    puts = λ us. ap x.slots (y.puts us) ∙ (x.puts (append (y.slots end) us) ∙ (sym (append_assoc (x.slots end) (y.slots end) us) ∙ ap (λ (vs : Slots). append vs us) (sym (x.puts (y.slots end)))));
    pass = λ ls. x.pass (y.pass ls);
    walked = walked_both x.walked y.walked;
    verdict = and_then x.verdict y.verdict (λ u v. stretches u v y.forward) (λ n. n) (λ u n. u.goes ▹✗ n);
    holds = λ lo us h. subst (λ (vs : Slots). HoldsAll r.nodes lo (length r.nodes) ks vs) (append_assoc us (x.slots end) (y.slots end) ∙ ap (λ (vs : Slots). append us vs) (sym (x.puts (y.slots end)))) (y.holds lo (append us (x.slots end)) (x.holds lo us h));
    keeps = Keeps-trans x.keeps y.keeps;
  }

module _ {text : List ℕ} {f : Flags} {g g' : G} {p q : Parser} {ids js : List (Option NodeId)} where
  pub list_stops : (r : Parser) (e : Stop) → Partway text f g g' p q ids js → Stops q r e (NoneLeft text g' q.prev_token_end) → Stops p r e (NoneLeft text g p.prev_token_end)
  list_stops r e x s = stops_behind r e x.same (λ d. grown_behind x.verdict d) (λ n. either_way x.verdict (λ u. u.goes ▹✗ n) (λ m. m)) s

  pub more_stops : (r : Parser) (e : Stop) → OneMore text f g g' p q ids js → Stops q r e (NoneLeft text g' q.prev_token_end) → Stops p r e (NoneLeft text g p.prev_token_end)
  more_stops r e x s = stops_behind r e x.same (λ d. grown_behind x.verdict d) (λ n. either_way x.verdict (λ u. u.goes ▹✗ n) (λ m. m)) s

-- nothing was read
pub none_yet : {text : List ℕ} {f : Flags} {g : G} {p : Parser} (ids : List (Option NodeId)) → At text f p → OneMore text f g g p p ids ids
none_yet {p = p} ids a = record {
  at = a;
  same = same_itself;
  forward = omega arith;
  slots = λ us. us;
  puts = λ us. refl;
  pass = λ ls. ls;
  walked = nowhere;
  verdict = clean refl (record { reach = 0; near = omega arith; goes = stay });
  holds = λ lo us h. subst (λ (vs : Slots). HoldsAll p.nodes lo (length p.nodes) ids vs) (sym (append_end us)) h;
  keeps = Keeps-refl p.nodes;
}

abbrev next_kinds : Look
next_kinds k w e = one_of_kinds (Comma ∷ RParen ∷ RBrack ∷ RCurly ∷ []) k

-- ---- one part of a list

-- no item
module _ {text : List ℕ} {i b : G} {s : ℕ} (c : covers (starts first_of b full) next_kinds ≡ true) where
  pub item_fails : Fails rule (Lex text) behind_item end i s → NoneLeft text (seq i b) s
  item_fails m = part_fails m (by_first firsts (by_plain next_kinds) c)

-- what closes a list
abbrev closes : Look
closes k w e = one_of_kinds closers k

comma_ends : (f : Flags) → covers (starts first_of (rest_comma f) closes) next_kinds ≡ true
unfolding covers
comma_ends f = refl

-- no rest
module _ {text : List ℕ} (f : Flags) {z b : G} {s : ℕ} (c : covers (starts first_of b full) closes ≡ true) where
  pub rest_fails : Fails rule (Lex text) behind_item end z s → NoneLeft text (seq (rest_of f z) b) s
  rest_fails m = part_fails {X' = plain closes} (part_fails m (by_first firsts (by_plain next_kinds) (comma_ends f))) (by_first firsts (by_plain closes) c)

-- none that stands last, which anything may follow
module _ {text : List ℕ} {n : Symbol} {b : G} {s : ℕ} (c : (ts : Slots) (y : Lexeme) → Admits (after n) ts y) where
  pub last_fails : Underived text n s → NoneLeft text (seq (such n always) b) s
  last_fails m = part_fails m (record { admits = λ ts us vs j k ls mid rest d d' e. c ts (here mid) })

module _ {text : List ℕ} {f : Flags} {p q : Parser} (a : At text f p) where
  -- an item
  module _ {i b : G} (c : covers (starts first_of b full) next_kinds ≡ true) where
    pub item_more : {ids js : List (Option NodeId)} {id : NodeId} → PartTaken text f i p q id → js ≡ ids ++ Some id ∷ [] → OneMore text f (seq i b) b p q ids js
    item_more {ids} {js} {id} x g = record {
      at = x.at;
      same = x.same;
      forward = let i = x.further in let j = a.behind in omega arith;
      slots = λ us. tree x.label x.slots us;
      puts = λ us. refl;
      pass = x.pass;
      walked = x.walked;
      verdict = verdict_of x.verdict (λ y. record { reach = y.reach; near = y.near; goes = then_by y.goes (by_first firsts (by_plain next_kinds) c) }) (λ m. item_fails c m);
      holds = λ lo us h. subst (λ (zs : List (Option NodeId)). HoldsAll q.nodes lo (length q.nodes) zs (append us (tree x.label x.slots end))) (sym g) (HoldsAll-next id x.keeps h x.holds);
      keeps = x.keeps;
    }

  -- a rest
  module _ {z b : G} (c : covers (starts first_of b full) closes ≡ true) where
    pub rest_more : {ids js : List (Option NodeId)} {id : NodeId} → PartTaken text f z p q id → js ≡ ids ++ Some id ∷ [] → OneMore text f (seq (rest_of f z) b) (seq (rest_comma f) b) p q ids js
    rest_more {ids} {js} {id} x g = record {
      at = x.at;
      same = x.same;
      forward = let i = x.further in let j = a.behind in omega arith;
      slots = λ us. tree x.label x.slots us;
      puts = λ us. refl;
      pass = x.pass;
      walked = x.walked;
      verdict = verdict_of x.verdict (λ y. record { reach = y.reach; near = y.near; goes = part_by {X' = plain closes} (then_by y.goes (by_first firsts (by_plain next_kinds) (comma_ends f))) (by_first firsts (by_plain closes) c) }) (λ m. rest_fails f c m);
      holds = λ lo us h. subst (λ (zs : List (Option NodeId)). HoldsAll q.nodes lo (length q.nodes) zs (append us (tree x.label x.slots end))) (sym g) (HoldsAll-next id x.keeps h x.holds);
      keeps = x.keeps;
    }

  -- what stands last, which anything may follow
  module _ {n : Symbol} {b : G} (c : (ts : Slots) (y : Lexeme) → Admits (after n) ts y) where
    pub last_more : {ids js : List (Option NodeId)} {id : NodeId} → Numbered text f n p q id → js ≡ ids ++ Some id ∷ [] → OneMore text f (seq (such n always) b) b p q ids js
    last_more {ids} {js} {id} x g = record {
      at = x.answer.at;
      same = x.answer.same;
      forward = let i = x.answer.further in let j = a.behind in omega arith;
      slots = λ us. tree x.answer.label x.answer.slots us;
      puts = λ us. refl;
      pass = x.answer.pass;
      walked = x.answer.walked;
      verdict = verdict_of x.answer.verdict (λ y. record { reach = y.reach; near = y.near; goes = then_by y.goes (record { admits = λ ts us vs j k ls mid rest d d' e. c ts (here mid) }) }) (λ m. last_fails c m);
      holds = λ lo us h. subst (λ (zs : List (Option NodeId)). HoldsAll q.nodes lo (length q.nodes) zs (append us (tree x.answer.label x.answer.slots end))) (sym g) (HoldsAll-next id x.keeps h x.holds);
      keeps = x.keeps;
    }

  -- a comma
  module _ (k : p.token.kind ≡ Comma) (m : Moved text f p q) where
    not_escaped : p.token.escaped ≡ false
    not_escaped = plain_sign Comma a k refl refl comma_plain

    kept : Keeps p.nodes q.nodes
    kept = subst (λ (ns : List Node). Keeps p.nodes ns) (sym m.nodes) (Keeps-refl p.nodes)

    held : (lo : ℕ) (us : Slots) (ids : List (Option NodeId)) → HoldsAll p.nodes lo (length p.nodes) ids us → HoldsAll q.nodes lo (length q.nodes) ids us
    held lo us ids h = subst (λ (ns : List Node). HoldsAll ns lo (length ns) ids us) (sym m.nodes) h

    pub comma_more : {b : G} (ids : List (Option NodeId)) → OneMore text f (seq (tok Comma) b) b p q ids ids
    comma_more ids = record {
      at = m.at;
      same = m.same;
      forward = let i = m.further in let j = a.behind in omega arith;
      slots = λ us. us;
      puts = λ us. refl;
      pass = λ ls. next m.lexeme ls;
      walked = walked_one m;
      verdict = clean m.kept (record { reach = 0; near = omega arith; goes = skips a Comma k not_escaped refl m });
      holds = λ lo us h. subst (λ (vs : Slots). HoldsAll q.nodes lo (length q.nodes) ids vs) (sym (append_end us)) (held lo us ids h);
      keeps = kept;
    }

    hole_read : Reads rule (Lex text) (plain full) end (seq empty_slot (tok Comma)) p.prev_token_end q.prev_token_end hole (passing m.lexeme)
    hole_read = then_by {X' = plain full} reads_empty_slot (record { admits = λ ts us vs j k ls mid rest d d' e. (refl, refl) }) ▹ passes a Comma k not_escaped refl m

    -- and no item before it
    pub hole_more : {b : G} {ids js : List (Option NodeId)} → js ≡ ids ++ None ∷ [] → OneMore text f (seq (seq empty_slot (tok Comma)) b) b p q ids js
    hole_more {b} {ids} {js} g = record {
      at = m.at;
      same = m.same;
      forward = let i = m.further in let j = a.behind in omega arith;
      slots = hole;
      puts = λ us. refl;
      pass = λ ls. next m.lexeme ls;
      walked = walked_one m;
      verdict = clean m.kept (record { reach = 0; near = omega arith; goes = then_by {X' = plain full} hole_read (record { admits = λ ts us vs j k ls mid rest d d' e. (refl, refl) }) });
      holds = λ lo us h. subst (λ (zs : List (Option NodeId)). HoldsAll q.nodes lo (length q.nodes) zs (append us (hole end))) (sym g) (HoldsAll-hole (held lo us ids h));
      keeps = kept;
    }

-- ---- one part of it from the left side of a list

module _ (gap item z : G) (close : Kind) {text : List ℕ} {f : Flags} {p q : Parser} {ids js : List (Option NodeId)} where
  -- an item was read: the last one, or one with its comma
  pub item_last : OneMore text f (listed gap item z (tok close)) (behind_one gap item z (tok close)) p q ids js → NoneIs text q.prev_token_end Comma → OneMore text f (listed gap item z (tok close)) (tok close) p q ids js
  item_last x n = more_goes x (closing_due gap item z close n)

  pub item_comma : {r : Parser} → OneMore text f (listed gap item z (tok close)) (behind_one gap item z (tok close)) p q ids js → NoneLeft text (tok close) q.prev_token_end → q.token.kind ≡ Comma → Moved text f q r → OneMore text f (listed gap item z (tok close)) (listed gap item z (tok close)) p r ids js
  item_comma x n k m = one_and_more (more_goes x (comma_due gap item z close n)) (comma_more x.at k m js)

-- ---- the loop

-- From some state on, behind the children ids, the children js were read so far.
pub record ListLoop (g : Flags → G) (ids js : List (Option NodeId)) (p q : Parser) : Type 0 where
  pub at : Standing q
  pub less : room q ≤ room p
  pub goes : (text : List ℕ) (f : Flags) → At text f p → OneMore text f (g f) (g f) p q ids js

pub loop_start : {g : Flags → G} {p : Parser} {ids js : List (Option NodeId)} → js ≡ ids → Standing p → ListLoop g ids js p p
loop_start {g} {p} {ids} e a = subst (λ (is : List (Option NodeId)). ListLoop g ids is p p) (sym e) (record { at = a; less = omega arith; goes = λ text f b. none_yet ids b })

pub loop_more : {g : Flags → G} (k : Kind) {p q r : Parser} {ids js ks : List (Option NodeId)} → ListLoop g ids js p q → ReadsOneMore g k js ks q r (Ok true) → ListLoop g ids ks p r
loop_more k l y =
    let x = y.1 _ _ l.at in
    record { at = standing x.at; less = let a = later_room x.forward x.same in let b = l.less in omega arith; goes = λ text f a. let z = l.goes text f a in one_and_more z (y.1 text f z.at) }

pub loop_less : {g : Flags → G} (k : Kind) {p q r : Parser} {ids js ks : List (Option NodeId)} → ListLoop g ids js p q → ReadsOneMore g k js ks q r (Ok true) → room r < room q
loop_less k l y =
    let x = y.1 _ _ l.at in
    let a = y.0 refl in let b = l.at.at.between.0 in let g = x.same.follows.text in let i = x.at.at.between.0 in omega (arith, ap length g)

pub loop_end : {g : Flags → G} (k : Kind) {p q r : Parser} {ids js ks : List (Option NodeId)} → ListLoop g ids js p q → ReadsOneMore g k js ks q r (Ok false) → ListReadOn g k ids ks p r
loop_end k l y = λ text f a. let z = l.goes text f a in one_and_more z (y.1 text f z.at)

pub loop_stops : {g : Flags → G} {p q : Parser} {ids js : List (Option NodeId)} (r : Parser) (e : Stop) → ListLoop g ids js p q → ListStops g q r e → ListStops g p r e
loop_stops r e l y = λ text f a. let z = l.goes text f a in more_stops r e z (y text f z.at)

pub more_so : (g : Flags → G) (k : Kind) (js ks : List (Option NodeId)) (p q : Parser) {b r : Bool} → r ≡ b → ReadsOneMore g k js ks p q (Ok r) → ReadsOneMore g k js ks p q (Ok b)
more_so g k js ks p q e h = subst (λ (v : Bool). ReadsOneMore g k js ks p q (Ok v)) e h
