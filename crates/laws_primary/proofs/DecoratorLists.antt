-- Decorators (of the proposal Decorators; no section of ECMA-262), one behind the other.
use Rattle.std.proofs.Common.{ℕ, ◌≡◌, max, List, [], ◌∷◌, ◌++◌, Option, Some, refl, sym, ap, subst, arith}
use Rattle.js_base.specs.declared.kind.Kind.TheVariants.{At as at_sign}
use Rattle.js_base.specs.Kinds.{one_of_kinds}
use Rattle.js_grammar.specs.Trees.{Slots, append, end, tree}
use Rattle.js_grammar.specs.Grammar.{Look, nothing, ◌▸◌}
use Rattle.js_grammar.specs.Parsing.{plain, still, Goes, Fails}
use Rattle.js_grammar.specs.Productions.{Flags, at, Decorator}
use Rattle.js_grammar.specs.Productions.{sym as symbol}
use Rattle.js_grammar.specs.Follow.{after}
use Rattle.js_grammar.specs.Table.{rule}
use Rattle.js_grammar.proofs.Looks.{apart, covers}
use Rattle.js_grammar.proofs.Calculus.{◌▹◌, ◌▹✗◌, left, more_of, part_fails, then_by}
use Rattle.js_grammar.proofs.FirstClaims.{firsts}
use Rattle.js_grammar.proofs.FirstRules.{by_first}
use Rattle.js_grammar.proofs.FollowLaws.{surely}
use Rattle.js_grammar.proofs.Frame.{append_assoc}
use Rattle.laws_shared.specs.js_tree.declared.id.NodeId.{NodeId}
use Rattle.laws_shared.proofs.js_tree.HoldingLemmas.{HoldsAll-next, HoldsAll-one, Keeps-trans}
use Rattle.laws_shared.specs.js_cursor.Parsers.{Parser}
use Rattle.laws_shared.specs.js_cursor.declared.stop.Stop.{Stop}
use Rattle.laws_shared.specs.Answers.{Numbered, Stops, Stretch, Underived}
use Rattle.laws_shared.specs.Lexemes.{Lex}
use Rattle.laws_shared.specs.States.{At}
use Rattle.laws_shared.proofs.Moving.{same_both, stops_behind, stops_so}
use Rattle.laws_shared.proofs.Paths.{fails_at, walked_both}
use Rattle.laws_shared.proofs.Verdicts.{and_then, either_way, verdict_of}
use Rattle.laws_shared.proofs.Verdicts.{after as grown_behind}
use Rattle.laws_primary.specs.Decorators.{DecoratorsTaken, NoDecorators, behind_decorators, decorated_kinds, decorators}

-- what may stand behind one of them: another one too
abbrev behind_one : Look
behind_one k w e = one_of_kinds (at_sign ∷ decorated_kinds) k

module _ {text : List ℕ} {f : Flags} {p : Parser} (a : At text f p) (k : p.token.kind ≡ at_sign) where
  -- the list doesn't end before `@`
  not_done : Fails rule (Lex text) (plain behind_decorators) end nothing p.prev_token_end
  unfolding covers apart
  not_done = fails_at a {X = plain behind_decorators} nothing decorated_kinds refl (ap (one_of_kinds decorated_kinds) k)

  one_first : Goes rule (Lex text) (plain behind_decorators) end (decorators f) p.prev_token_end (symbol Decorator f ▸ decorators f) p.prev_token_end (λ us. us) (still 0)
  one_first = more_of ▹ left not_done

  no_more : Underived text (at Decorator f) p.prev_token_end → NoDecorators text f p.prev_token_end
  unfolding covers
  no_more n = one_first ▹✗ part_fails n (by_first firsts (surely (at Decorator f)) refl)

  module _ {q : Parser} {id : NodeId} (x : Numbered text f (at Decorator f) p q id) where
    one_goes : Stretch text (after (at Decorator f)) (symbol Decorator f) p.prev_token_end nothing q.prev_token_end (tree x.answer.label x.answer.slots) x.answer.pass → Stretch text (plain behind_decorators) (decorators f) p.prev_token_end (decorators f) q.prev_token_end (tree x.answer.label x.answer.slots) x.answer.pass
    unfolding covers
    one_goes y = record { reach = max 0 y.reach; near = let i = y.near in omega arith; goes = one_first ▹ then_by y.goes (by_first firsts (surely (at Decorator f)) refl) }

    pub one_taken : DecoratorsTaken text f p q (Some id ∷ [])
    one_taken = record {
      at = x.answer.at;
      same = x.answer.same;
      further = x.answer.further;
      slots = tree x.answer.label x.answer.slots end;
      pass = x.answer.pass;
      walked = x.answer.walked;
      verdict = verdict_of x.answer.verdict one_goes no_more;
      holds = HoldsAll-one id x.holds;
      keeps = x.keeps;
    }

  pub first_stops : (w : Parser) (e : Stop) → Stops p w e (Underived text (at Decorator f) p.prev_token_end) → Stops p w e (NoDecorators text f p.prev_token_end)
  first_stops w e z = stops_so p w e (λ n. no_more n) z

module _ {text : List ℕ} {f : Flags} {p q : Parser} {ids : List (Option NodeId)} (x : DecoratorsTaken text f p q ids) (k : q.token.kind ≡ at_sign) where
  -- and one more
  pub more_taken : {r : Parser} {id : NodeId} → Numbered text f (at Decorator f) q r id → DecoratorsTaken text f p r (ids ++ Some id ∷ [])
  unfolding one_taken
  more_taken {r} {id} y = record {
    at = y.answer.at;
    same = same_both x.same y.answer.same;
    further = let i = x.further in let j = y.answer.further in let d = x.at.behind in omega arith;
    slots = append x.slots one;
    pass = λ ls. x.pass (y.answer.pass ls);
    walked = walked_both x.walked y.answer.walked;
    verdict = and_then x.verdict z.verdict (λ u v. joined_goes u v) (λ n. n) (λ u n. u.goes ▹✗ n);
    holds = HoldsAll-next id y.keeps x.holds y.holds;
    keeps = Keeps-trans x.keeps y.keeps;
  }
    where
      one : Slots
      one = tree y.answer.label y.answer.slots end

      z : DecoratorsTaken text f q r (Some id ∷ [])
      z = one_taken x.at k y

      joined_goes : Stretch text (plain behind_decorators) (decorators f) p.prev_token_end (decorators f) q.prev_token_end (append x.slots) x.pass → Stretch text (plain behind_decorators) (decorators f) q.prev_token_end (decorators f) r.prev_token_end (append one) y.answer.pass
          → Stretch text (plain behind_decorators) (decorators f) p.prev_token_end (decorators f) r.prev_token_end (append (append x.slots one)) (λ ls. x.pass (y.answer.pass ls))
      joined_goes u v = record {
        reach = max u.reach v.reach;
        near = let i = u.near in let j = v.near in let h = y.answer.further in let d = x.at.behind in omega arith;
        goes = subst (λ (g : Slots → Slots). Goes rule (Lex text) (plain behind_decorators) end (decorators f) p.prev_token_end (decorators f) r.prev_token_end g (record { reach = max u.reach v.reach; pass = λ ls. x.pass (y.answer.pass ls) })) (λ i us. sym (append_assoc x.slots one us) i) (u.goes ▹ v.goes);
      }

  pub more_stops : (w : Parser) (e : Stop) → Stops q w e (Underived text (at Decorator f) q.prev_token_end) → Stops p w e (NoDecorators text f p.prev_token_end)
  more_stops w e y = stops_behind w e x.same (λ g. grown_behind x.verdict g) (λ n. either_way x.verdict (λ u. u.goes ▹✗ no_more x.at k n) (λ m. m)) y
