-- Parts of a node, as far as they were read: one part behind another, with the children that each of them adds.
use Rattle.std.proofs.Common.{ℕ, ◌≡◌, max, true, false, List, [], ◌∷◌, ◌++◌, length, Option, Some, refl, sym, ap, subst, arith, ◌∙◌}
use Rattle.js_base.specs.declared.kind.Kind.{Kind}
use Rattle.js_grammar.specs.Trees.{Slots, end, tree, append}
use Rattle.js_grammar.specs.Grammar.{next, seq, such, nothing}
use Rattle.js_grammar.specs.Parsing.{plain, full, always, still, Goes, Fails}
use Rattle.js_grammar.specs.Productions.{G, Flags, Symbol, tok}
use Rattle.js_grammar.specs.FirstSets.{first}
use Rattle.js_grammar.specs.Follow.{surest}
use Rattle.js_grammar.specs.Table.{rule}
use Rattle.js_grammar.proofs.Calculus.{◌▹◌, ◌▹✗◌}
use Rattle.js_grammar.proofs.First.{starts}
use Rattle.js_grammar.proofs.Looks.{covers}
use Rattle.js_grammar.proofs.Frame.{append_assoc, append_end}
use Rattle.js_cursor.specs.js_tree.declared.id.NodeId.{NodeId}
use Rattle.js_cursor.specs.js_tree.Nodes.{Node}
use Rattle.js_cursor.specs.js_tree.Holding.{HoldsAll, Keeps}
use Rattle.js_cursor.proofs.js_tree.HoldingLemmas.{HoldsAll-next, Keeps-refl, Keeps-trans}
use Rattle.js_cursor.specs.Parsers.{Parser}
use Rattle.laws_shared.specs.Lexemes.{Lex, is_read_kind}
use Rattle.laws_shared.specs.States.{At}
use Rattle.laws_shared.specs.Moves.{Moved}
use Rattle.laws_shared.specs.Answers.{Stretch, Numbered, clean}
use Rattle.laws_shared.specs.Arguments.{Partway}
use Rattle.laws_shared.proofs.Moving.{same_both}
use Rattle.laws_shared.proofs.Paths.{Path, called, passes, skips, walked_both, walked_one}
use Rattle.laws_shared.proofs.Stretches.{stretches}
use Rattle.laws_shared.proofs.Verdicts.{and_then, either_way, verdict_of}

pub part_path : {text : List ℕ} {f : Flags} {g : G} {p q : Parser} {ids js : List (Option NodeId)} (x : Partway text f g nothing p q ids js) → Path text f (plain full) g p nothing q x.slots
part_path x = record { at = x.at; further = x.further; pass = x.pass; walked = x.walked; verdict = x.verdict }

-- what is left fails
pub part_path_fails : {text : List ℕ} {f : Flags} {g g' : G} {p q : Parser} {ids js : List (Option NodeId)} → Partway text f g g' p q ids js → Fails rule (Lex text) (plain full) end g' q.prev_token_end → Fails rule (Lex text) (plain full) end g p.prev_token_end
part_path_fails x n = either_way x.verdict (λ u. u.goes ▹✗ n) (λ m. m)

-- one part and another
pub parts : {text : List ℕ} {f : Flags} {g g' g'' : G} {p q r : Parser} {ids js ks : List (Option NodeId)} → Partway text f g g' p q ids js → Partway text f g' g'' q r js ks → Partway text f g g'' p r ids ks
parts {text} {f} {g} {g'} {g''} {p} {q} {r} {ids} {js} {ks} x y = record {
  at = y.at;
  same = same_both x.same y.same;
  further = let i = x.further in let j = y.further in let d = x.at.behind in omega arith;
  slots = λ us. x.slots (y.slots us);
  puts = λ us. x.puts (y.slots us) ∙ (ap (λ (vs : Slots). append (x.slots end) vs) (y.puts us) ∙ (sym (append_assoc (x.slots end) (y.slots end) us) ∙ ap (λ (vs : Slots). append vs us) (sym (x.puts (y.slots end)))));
  pass = λ ls. x.pass (y.pass ls);
  walked = walked_both x.walked y.walked;
  verdict = and_then x.verdict y.verdict (λ u v. stretches u v (let j = y.further in let d = x.at.behind in omega arith)) (λ n. n) (λ u n. u.goes ▹✗ n);
  holds = λ lo us h. subst (λ (vs : Slots). HoldsAll r.nodes lo (length r.nodes) ks vs) (append_assoc us (x.slots end) (y.slots end) ∙ ap (λ (vs : Slots). append us vs) (sym (x.puts (y.slots end)))) (y.holds lo (append us (x.slots end)) (x.holds lo us h));
  keeps = Keeps-trans x.keeps y.keeps;
}

module _ {text : List ℕ} {f : Flags} {g g' g'' : G} {p q : Parser} {ids js : List (Option NodeId)} where
  -- a choice before a part
  pub part_from : Goes rule (Lex text) (plain full) end g p.prev_token_end g' p.prev_token_end (λ us. us) (still 0) → Partway text f g' g'' p q ids js → Partway text f g g'' p q ids js
  part_from c x = record {
    at = x.at;
    same = x.same;
    further = x.further;
    slots = x.slots;
    puts = x.puts;
    pass = x.pass;
    walked = x.walked;
    verdict = verdict_of x.verdict (λ y. record { reach = max 0 y.reach; near = let i = y.near in omega arith; goes = c ▹ y.goes }) (λ n. c ▹✗ n);
    holds = x.holds;
    keeps = x.keeps;
  }

  -- and behind one
  pub part_goes : Partway text f g g' p q ids js → Goes rule (Lex text) (plain full) end g' q.prev_token_end g'' q.prev_token_end (λ us. us) (still 0) → Partway text f g g'' p q ids js
  part_goes x c = record {
    at = x.at;
    same = x.same;
    further = x.further;
    slots = x.slots;
    puts = x.puts;
    pass = x.pass;
    walked = x.walked;
    verdict = verdict_of x.verdict (λ y. record { reach = max y.reach 0; near = let i = y.near in omega arith; goes = y.goes ▹ c }) (λ n. n);
    holds = x.holds;
    keeps = x.keeps;
  }

module _ {text : List ℕ} {f : Flags} where
  -- a lexeme that no child stands for
  passed : {g g' : G} {p q : Parser} (ids : List (Option NodeId)) (m : Moved text f p q) → Stretch text (plain full) g p.prev_token_end g' q.prev_token_end (λ us. us) (λ ls. next m.lexeme ls) → Partway text f g g' p q ids ids
  passed {g} {g'} {p} {q} ids m z = record {
    at = m.at;
    same = m.same;
    further = m.further;
    slots = λ us. us;
    puts = λ us. refl;
    pass = λ ls. next m.lexeme ls;
    walked = walked_one m;
    verdict = clean m.kept z;
    holds = λ lo us h. subst (λ (vs : Slots). HoldsAll q.nodes lo (length q.nodes) ids vs) (sym (append_end us)) (subst (λ (ns : List Node). HoldsAll ns lo (length ns) ids us) (sym m.nodes) h);
    keeps = subst (λ (ns : List Node). Keeps p.nodes ns) (sym m.nodes) (Keeps-refl p.nodes);
  }

  module _ {p q : Parser} {ids : List (Option NodeId)} (k : Kind) (a : At text f p) (e : p.token.kind ≡ k) (n : p.token.escaped ≡ false) (r : is_read_kind k ≡ true) (m : Moved text f p q) where
    pub part_sign : {g : G} → Partway text f (seq (tok k) g) g p q ids ids
    part_sign = passed ids m (record { reach = 0; near = omega arith; goes = skips a k e n r m })

    pub part_last : Partway text f (tok k) nothing p q ids ids
    part_last = passed ids m (record { reach = 0; near = omega arith; goes = passes a k e n r m })

  -- what was called, as one more child
  pub part_called : {n : Symbol} {b : G} {p q : Parser} {id : NodeId} (ids : List (Option NodeId)) (x : Numbered text f n p q id) → covers (starts first b full) (surest n.name) ≡ true → Partway text f (seq (such n always) b) b p q ids (ids ++ Some id ∷ [])
  part_called {id = id} ids x c = let y = called {X = plain full} x.answer c in record {
    at = x.answer.at;
    same = x.answer.same;
    further = x.answer.further;
    slots = tree x.answer.label x.answer.slots;
    puts = λ us. refl;
    pass = y.pass;
    walked = y.walked;
    verdict = y.verdict;
    holds = λ lo us h. HoldsAll-next id x.keeps h x.holds;
    keeps = x.keeps;
  }
