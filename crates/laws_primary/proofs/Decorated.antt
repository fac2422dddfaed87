-- What stands behind decorators (of the proposal Decorators; no section of ECMA-262), with them.
use Rattle.std.proofs.Common.{ℕ, ◌≡◌, max, true, List, Option, refl, sym, ap, arith, ◌∙◌}
use Rattle.std.proofs.lemmas.Bool.{false≢true}
use Rattle.js_base.specs.declared.kind.Kind.TheVariants.{At as at_sign}
use Rattle.js_base.specs.Kinds.{one_of_kinds}
use Rattle.js_grammar.specs.Trees.{Label, Slots, append, end, static_block, tree}
use Rattle.js_grammar.specs.Grammar.{Lexeme, nothing, such}
use Rattle.js_grammar.specs.Parsing.{Admits, Test, plain, full, always, Fails}
use Rattle.js_grammar.specs.Productions.{Flags, Symbol, Decorator}
use Rattle.js_grammar.specs.Productions.{sym as symbol}
use Rattle.js_grammar.specs.Table.{rule}
use Rattle.js_grammar.proofs.Looks.{apart}
use Rattle.js_grammar.proofs.Calculus.{◌▹◌, more_of, part_fails, right}
use Rattle.laws_shared.specs.js_tree.declared.id.NodeId.{NodeId}
use Rattle.laws_shared.specs.js_cursor.Parsers.{Parser}
use Rattle.laws_shared.specs.js_cursor.declared.stop.Stop.{Stop}
use Rattle.laws_shared.specs.Answers.{Stops, Stretch}
use Rattle.laws_shared.specs.Lexemes.{Lex}
use Rattle.laws_shared.specs.States.{At}
use Rattle.laws_shared.proofs.Here.{begins_here, kind_here}
use Rattle.laws_shared.proofs.Moving.{stops_behind}
use Rattle.laws_shared.proofs.Paths.{Path, walked_both}
use Rattle.laws_shared.proofs.Signs.{other_kind}
use Rattle.laws_shared.proofs.Verdicts.{and_then, either_way}
use Rattle.laws_shared.proofs.Verdicts.{after as grown_behind}
use Rattle.laws_primary.specs.Decorators.{DecoratorsTaken, NoDecorators, behind_decorators, decorated_kinds, decorators, spanning}
use Rattle.laws_primary.proofs.Decorators.{no_decorator}
use Rattle.laws_primary.proofs.KeptSlots.{Decorable, bare_fails, decorated_fails, decorated_goes, undecorated_fails}

-- a symbol that decorators may stand before
abbrev pub DecorableSymbol : Flags → Symbol → Type 0
DecorableSymbol f n = Decorable (symbol Decorator f) behind_decorators static_block (rule n)

-- a test that looks at no slots
abbrev pub Slotless : Test → Type 0
Slotless X = (ts us : Slots) (y : Lexeme) → Admits X ts y → Admits X us y

module _ {text : List ℕ} {f : Flags} {p : Parser} (a : At text f p) (k : p.token.kind ≡ at_sign) where
  -- what they stand before doesn't stand at the sign
  sign_away : (y : Lexeme) → Lex text p.prev_token_end y → behind_decorators y.kind y.newline y.escaped ≡ true → ⊥
  unfolding apart
  sign_away y l e = false≢true (sym (ap (one_of_kinds decorated_kinds) (kind_here a k refl y l)) ∙ e)

  -- decorators that can't be read
  pub decorators_refuse : {X : Test} {n : Symbol} → DecorableSymbol f n → NoDecorators text f p.prev_token_end → Fails rule (Lex text) X end (such n always) p.prev_token_end
  decorators_refuse z m = undecorated_fails sign_away z m

  module _ {q : Parser} {ids : List (Option NodeId)} (x : DecoratorsTaken text f p q ids) (e : q.token.kind ≡ at_sign → ⊥) where
    none_behind : Fails rule (Lex text) (plain full) end (symbol Decorator f) q.prev_token_end
    none_behind = no_decorator x.at (other_kind at_sign q.token.kind e)

    -- all of them
    all_read : Stretch text (plain behind_decorators) (decorators f) p.prev_token_end (decorators f) q.prev_token_end (append x.slots) x.pass → Stretch text (plain behind_decorators) (decorators f) p.prev_token_end nothing q.prev_token_end (append x.slots) x.pass
    all_read u = record { reach = max u.reach 0; near = let i = u.near in omega arith; goes = u.goes ▹ (more_of ▹ right (part_fails none_behind (record { admits = λ ts us vs j k ls mid rest d d' h. (refl, refl) }))) }

    module _ {X : Test} {n : Symbol} (z : DecorableSymbol f n) (alike : Slotless X) where
      -- what they stand before can't be read
      pub behind_refuses : Fails rule (Lex text) X end (such n always) q.prev_token_end → Fails rule (Lex text) X end (such n always) p.prev_token_end
      behind_refuses m = either_way x.verdict (λ u. decorated_fails x.slots (all_read u).goes sign_away z alike m) (λ m. decorators_refuse z m)

      pub decorated_path : {r : Parser} {l : Label} {cs : Slots} → Path text f X (such n always) q nothing r (tree l cs) → (l.kind ≡ static_block → ⊥) → Path text f X (such n always) p nothing r (tree (spanning p.token.span.start r.prev_token_end l) (append cs x.slots))
      unfolding all_read
      decorated_path {r} {l} {cs} y b = record {
        at = y.at;
        further = let i = x.further in let j = y.further in let d = x.at.behind in omega arith;
        pass = λ ls. x.pass (y.pass ls);
        walked = walked_both x.walked y.walked;
        verdict = and_then x.verdict y.verdict
            (λ u v. record { reach = max (max u.reach 0) v.reach; near = let i = u.near in let j = v.near in let k = y.further in let h = x.at.behind in omega arith; goes = decorated_goes x.slots (all_read u).goes sign_away z alike v.goes none_behind b (λ w i. begins_here a w i) })
            (λ m. decorators_refuse z m)
            (λ u m. decorated_fails x.slots (all_read u).goes sign_away z alike m);
      }

      -- a static block behind them
      pub block_refused : {r : Parser} {l : Label} {cs : Slots} → Path text f X (such n always) q nothing r (tree l cs) → l.kind ≡ static_block → Fails rule (Lex text) X end (such n always) p.prev_token_end
      block_refused y b = either_way x.verdict (λ u. either_way y.verdict (λ v. bare_fails x.slots (all_read u).goes sign_away z alike v.goes b) (λ m. decorated_fails x.slots (all_read u).goes sign_away z alike m)) (λ m. decorators_refuse z m)

-- where the call behind them stops
pub behind_stops : {text : List ℕ} {f : Flags} {p q : Parser} {ids : List (Option NodeId)} (X : Test) (n : Symbol) → At text f p → p.token.kind ≡ at_sign → (x : DecoratorsTaken text f p q ids) → (q.token.kind ≡ at_sign → ⊥) → DecorableSymbol f n → Slotless X → (w : Parser) (s : Stop) → Stops q w s (Fails rule (Lex text) X end (such n always) q.prev_token_end)
    → Stops p w s (Fails rule (Lex text) X end (such n always) p.prev_token_end)
behind_stops X n a k x e z alike w s y = stops_behind w s x.same (λ g. grown_behind x.verdict g) (λ m. behind_refuses a k x e z alike m) y
