-- What was read as a ShortCircuitExpression, read as the target in the head of a `for` (ECMA-262, 14.7.5).
use Rattle.std.proofs.Common.{ℕ, ◌≡◌, List, Bool, true, false, not, IsTrue, Some, None, refl, sym, ap, subst, arith, ◌∙◌}
use Rattle.std.proofs.lemmas.Bool.{false≢true}
use Rattle.js_grammar.specs.Trees.{Label, Slots, Tree, end, tree}
use Rattle.js_grammar.specs.Grammar.{Lexeme, Lexemes, here, seen, such, nothing, alt, Takes, is_such, is_left, is_right}
use Rattle.js_grammar.specs.Insertion.{Row, after_expression}
use Rattle.js_grammar.specs.Lexed.{Lexes}
use Rattle.js_grammar.specs.Parsing.{always, plain, Admits, Fails}
use Rattle.js_grammar.specs.Productions.{Flags, at, Short, SimpleTarget, Target, ArrayTarget, ObjectTarget}
use Rattle.js_grammar.specs.Productions.{sym as symbol}
use Rattle.js_grammar.specs.Table.{rule, rule_of}
use Rattle.js_grammar.specs.Follow.{after, looser}
use Rattle.js_grammar.proofs.Calculus.{ends, fails_alt, fails_rule, here_at, label_is, left, right, weaken_fails_on}
use Rattle.js_grammar.proofs.FollowLaws.{admits}
use Rattle.js_grammar.proofs.Looks.{covers, covered}
use Rattle.parse_shared.specs.js_tree.declared.id.NodeId.{NodeId}
use Rattle.parse_shared.specs.js_cursor.Parsers.{Parser}
use Rattle.parse_shared.specs.laws_shared.Answers.{Answer, Underived}
use Rattle.parse_shared.specs.laws_shared.Lexemes.{Lex}
use Rattle.parse_shared.proofs.laws_shared.Paths.{Path, ◌⟼◌, by_symbol_as}
use Rattle.parse_shared.proofs.laws_shared.Verdicts.{either_way}
use Rattle.parse_targets.specs.Taken.{NoTargetFrom, TargetTaken, behind_target, goes_through, target_name}
use Rattle.parse_targets.specs.Targets.{is_literal, is_object, target_of}
use Rattle.parse_targets.proofs.ArraysBeforeSigns.{is_cover, target_no_literal}
use Rattle.parse_targets.proofs.ArraysConverted.{no_other_there, no_target_unread, sign_admitted, signs, sourced, targets_follow}
use Rattle.parse_targets.proofs.Covers.{of_derived, row_of_target, target_fails, target_path, target_unread}
use Rattle.parse_targets.proofs.Refused.{literal_no_target}
use Rattle.parse_targets.proofs.Targets.{is_literal_kind, kind_of_literal, of_short}

-- ---- what may stand behind a target may stand behind the expression

target_heads : (f : Flags) (l : Label) (cs vs : Slots) (t : Tree) (y : Lexeme) → target_of l cs ≡ Some t → Admits (signs f) (tree t.label t.slots vs) y → Admits (after (at Short f)) (tree l cs vs) y
target_heads f l cs vs t y e h = admits (at Short f) (tree l cs vs) y (subst (λ (r : Row). IsTrue (seen (looser 4 f.in_ r) y)) (sym (row_of_target l cs t e)) (covered (behind_target f.in_) (looser 4 f.in_ after_expression) (targets_follow f.in_) y.kind y.newline y.escaped h.0))

-- `in` and `of` are among it, where `in` is no operator
through_covered : covers goes_through (behind_target false) ≡ true
unfolding covers
through_covered = refl

pub goes_behind : (f : Flags) → f.in_ ≡ false → (y : Lexeme) → IsTrue (seen goes_through y) → IsTrue (seen (behind_target f.in_) y)
goes_behind f i y h = subst (λ (b : Bool). IsTrue (seen (behind_target b) y)) (sym i) (covered goes_through (behind_target false) through_covered y.kind y.newline y.escaped h)

-- so before these
pub before_these : {text : List ℕ} {f : Flags} {s : ℕ} → f.in_ ≡ false → Fails rule (Lex text) (signs f) end (symbol Target f) s → NoTargetFrom text f s
before_these {f = f} i n = weaken_fails_on n (record { admits = λ ts vs k ls rest d e. (goes_behind f i (here rest) e.0, refl) })

-- ---- targets of the one kind or the other

pub neither : {text : List ℕ} {f : Flags} {s : ℕ} (o : Bool) → Fails rule (Lex text) (signs f) end (such (at (target_name o) f) always) s → Fails rule (Lex text) (signs f) end (such (at (target_name (not o)) f) always) s → Fails rule (Lex text) (signs f) end (alt (symbol ArrayTarget f) (symbol ObjectTarget f)) s
neither false n m = fails_alt n m
neither true n m = fails_alt m n

pub of_either : {text : List ℕ} {f : Flags} {p r : Parser} {g : Slots → Slots} (o : Bool) → Fails rule (Lex text) (signs f) end (such (at (target_name (not o)) f) always) p.prev_token_end → Path text f (signs f) (such (at (target_name o) f) always) p nothing r g → Path text f (signs f) (alt (symbol ArrayTarget f) (symbol ObjectTarget f)) p nothing r g
of_either false n t = left n ⟼ t
of_either true n t = right n ⟼ t

none_of_three : {text : List ℕ} {f : Flags} {s : ℕ} (o : Bool) → Fails rule (Lex text) (signs f) end (symbol SimpleTarget f) s → Fails rule (Lex text) (signs f) end (such (at (target_name o) f) always) s → Fails rule (Lex text) (signs f) end (such (at (target_name (not o)) f) always) s → Fails rule (Lex text) (signs f) end (symbol Target f) s
unfolding rule rule_of
none_of_three {f = f} o m n k = fails_rule {X' = signs f} (λ l cs vs y e. (e.0, refl)) (fails_alt m (neither o n k))

-- ---- a target is a ShortCircuitExpression

record AsShort (f : Flags) (us : Slots) (i : ℕ) (ls : Lexemes) (j : ℕ) (rest : Lexemes) : Type 0 where
  label : Label
  slots : Slots
  takes : Takes rule (such (at Short f) always) end (tree label slots us) i ls us j rest
  fits : (y : Lexeme) → IsTrue (seen (behind_target f.in_) y) → Admits (after (at Short f)) (tree label slots us) y

module _ (text : List ℕ) (f : Flags) (v : f.cover ≡ true) where
  of_literal : (o : Bool) {us : Slots} {a : Label} {bs : Slots} {i j : ℕ} {ls rest : Lexemes} → Lexes (Lex text) i ls → Takes rule (rule (at (target_name o) f)) end (tree a bs end) i ls end j rest → AsShort f us i ls j rest
  of_literal o {us} m d = let x = sourced text f v o {ks = end} {us = us} m d in record { label = x.label; slots = x.slots; takes = x.takes; fits = λ y q. sign_admitted o f x.label x.slots us y x.kind q }

  as_short : {ts us : Slots} {i j : ℕ} {ls rest : Lexemes} → Lexes (Lex text) i ls → Takes rule (such (at Target f) always) end ts i ls us j rest → AsShort f us i ls j rest
  unfolding rule rule_of
  as_short {us = us} m (is_such (is_left (is_such {l = a} {cs = bs} d h)) c) =
      let u : Tree = record { label = a; slots = bs } in
      let x = of_derived (of_short f) {ks = end} {us = us} u d in
      record { label = x.label; slots = x.slots; takes = x.takes; fits = λ y q. target_heads f x.label x.slots us u y x.has (q, refl) }
  as_short m (is_such (is_right (is_left (is_such d h))) c) = of_literal false m d
  as_short m (is_such (is_right (is_right (is_such d h))) c) = of_literal true m d

-- ---- where none was read

pub none_unread : {text : List ℕ} {f : Flags} → f.cover ≡ true → {s : ℕ} → Underived text (at Short f) s → Fails rule (Lex text) (signs f) end (symbol Target f) s
none_unread {f = f} v n = none_of_three true (target_unread (of_short f) (target_heads f) n) (no_target_unread true v n) (no_target_unread false v n)

-- neither `in` nor `of` stands behind what was read
pub none_before : {text : List ℕ} {f : Flags} {p q : Parser} → f.in_ ≡ false → (x : Answer text f (at Short f) p q) → ((y : Lexeme) → Lex text q.prev_token_end y → IsTrue (seen goes_through y) → ⊥) → NoTargetFrom text f p.prev_token_end
none_before {text} {f} {p} {q} i x n = record { no = λ ts vs k ls rest l d e. go ts vs k ls rest l d e }
  where
    go : (ts vs : Slots) (k : ℕ) (ls rest : Lexemes) → Lexes (Lex text) p.prev_token_end ls → Takes rule (such (at Target f) always) end ts p.prev_token_end ls vs k rest → Admits (plain goes_through) ts (here rest) → ⊥
    go ts vs k ls rest l d e =
        let u = as_short text f (is_cover x.at) l d in
        let a = u.fits (here rest) (goes_behind f i (here rest) e.0) in
        either_way x.verdict
        (λ z. let y = z.goes.only (tree u.label u.slots vs) vs k ls rest l u.takes a in n (here rest) (here_at (Lex text) rest (subst (λ (v : Lexemes). Lexes (Lex text) q.prev_token_end v) (ends y.4).2 y.3)) e.0)
        (λ z. z.no (tree u.label u.slots vs) vs k ls rest l u.takes a)

-- ---- what was read

module _ {text : List ℕ} {f : Flags} {p q : Parser} (x : Answer text f (at Short f) p q) where
  no_literals : is_literal x.label.kind ≡ false → (o : Bool) → Fails rule (Lex text) (signs f) end (such (at (target_name o) f) always) p.prev_token_end
  no_literals n o = record { no = λ ts vs k ls rest m d e. go ts vs k ls rest m d e }
    where
      go : (ts vs : Slots) (k : ℕ) (ls rest : Lexemes) → Lexes (Lex text) p.prev_token_end ls → Takes rule (such (at (target_name o) f) always) end ts p.prev_token_end ls vs k rest → Admits (signs f) ts (here rest) → ⊥
      go ts vs k ls rest m (is_such d c) e =
          let u = sourced text f (is_cover x.at) o {ks = end} {us = vs} m d in
          let a = sign_admitted o f u.label u.slots vs (here rest) u.kind e.0 in
          either_way x.verdict
          (λ z. let y = z.goes.only (tree u.label u.slots vs) vs k ls rest m u.takes a in false≢true (sym n ∙ (sym (ap (λ (l : Label). is_literal l.kind) (label_is y.2)) ∙ is_literal_kind o u.label.kind u.kind)))
          (λ z. z.no (tree u.label u.slots vs) vs k ls rest m u.takes a)

  -- a simple target
  pub simple_path : (t : Tree) → target_of x.label x.slots ≡ Some t → Path text f (signs f) (symbol Target f) p nothing q (tree t.label t.slots)
  unfolding rule rule_of
  simple_path t e =
      let n = target_no_literal x.label x.slots t e in
      by_symbol_as {X' = signs f} (λ l cs vs y e. (e.0, refl)) (left (fails_alt (no_literals n false) (no_literals n true)) ⟼ target_path (of_short f) (target_heads f) x t e)

  pub simple_none : is_literal x.label.kind ≡ false → target_of x.label x.slots ≡ None → Fails rule (Lex text) (signs f) end (symbol Target f) p.prev_token_end
  simple_none n e = none_of_three true (target_fails (of_short f) (target_heads f) x e) (no_literals n true) (no_literals n false)

  module _ (h : is_literal x.label.kind ≡ true) where
    -- no target of the other kind stands there
    pub no_other : Fails rule (Lex text) (signs f) end (such (at (target_name (not (is_object x.label.kind))) f) always) p.prev_token_end
    no_other = either_way x.verdict (λ z. no_other_there (is_cover x.at) (is_object x.label.kind) z (kind_of_literal x.label.kind h)) (λ n. no_target_unread (not (is_object x.label.kind)) (is_cover x.at) n)

    no_simple : Fails rule (Lex text) (signs f) end (symbol SimpleTarget f) p.prev_token_end
    no_simple = target_fails (of_short f) (target_heads f) x (literal_no_target x.label x.slots h)

    pub literal_none : Fails rule (Lex text) (signs f) end (such (at (target_name (is_object x.label.kind)) f) always) p.prev_token_end → Fails rule (Lex text) (signs f) end (symbol Target f) p.prev_token_end
    literal_none n = none_of_three (is_object x.label.kind) no_simple n no_other

    module _ {r : Parser} {id : NodeId} (t : TargetTaken (is_object x.label.kind) text f p q r id) where
      pub converted_path : Path text f (signs f) (such (at (target_name (is_object x.label.kind)) f) always) p nothing r (tree t.label t.slots)
      converted_path = record { at = t.stands_at; further = let a = x.further in let b = t.place in omega arith; pass = t.pass; walked = t.walked; verdict = t.verdict }

      pub literal_path : Path text f (signs f) (symbol Target f) p nothing r (tree t.label t.slots)
      unfolding rule rule_of
      literal_path = by_symbol_as {X' = signs f} (λ l cs vs y e. (e.0, refl)) (right no_simple ⟼ of_either (is_object x.label.kind) no_other converted_path)
