-- Array targets before `=` (ECMA-262, 13.15.5), where what stands there was read as an expression.
use Rattle.std.proofs.Common.{ℕ, ◌≡◌, ◌⊎◌, inl, inr, Bool, true, false, not, ◌&&◌, IsTrue, Some, List, refl, sym, ap, subst, ◌∙◌}
use Rattle.std.proofs.lemmas.Bool.{false≢true, and_parts, and_from}
use Rattle.js_base.specs.declared.kind.Kind.{Kind}
use Rattle.js_base.specs.declared.kind.Kind.TheVariants.{Eq}
use Rattle.js_base.specs.Kinds.{same_kind, one_of_kinds}
use Rattle.js_base.proofs.KindLemmas.{kind_of_same}
use Rattle.js_grammar.specs.Trees.{NodeKind, Op, Label, Slots, end, tree, Tree, array_expression, assignment_expression, object_expression}
use Rattle.js_grammar.specs.Grammar.{Lexeme, Lexemes, last, next, Look, seen, is, such, nothing, ◌▸◌, ◌◇◌, Takes, is_lexeme, is_seq, is_left, is_right, is_such}
use Rattle.js_grammar.specs.Insertion.{Row, after_expression, assign_operators}
use Rattle.js_grammar.specs.Lexed.{Lexes}
use Rattle.js_grammar.specs.Parsing.{Test, always, Admits, Fails}
use Rattle.js_grammar.specs.Productions.{G, Flags, at, tok, op, Assignment, Short, ArrayTarget, ObjectTarget}
use Rattle.js_grammar.specs.Productions.{sym as symbol}
use Rattle.js_grammar.specs.Table.{rule}
use Rattle.js_grammar.specs.Follow.{row_of, after, looser}
use Rattle.js_grammar.proofs.Calculus.{ends, here_at, label_is}
use Rattle.js_grammar.proofs.FollowLaws.{admits}
use Rattle.js_grammar.proofs.Looks.{covers, covered}
use Rattle.parse_shared.specs.js_cursor.Parsers.{Parser}
use Rattle.parse_shared.specs.laws_shared.Answers.{Answer, Stretch, Underived}
use Rattle.parse_shared.specs.laws_shared.Lexemes.{Lex}
use Rattle.parse_shared.specs.laws_shared.States.{At}
use Rattle.parse_targets.specs.Targets.{is_array, is_literal, target_of}
use Rattle.parse_targets.proofs.ArrayTargets.{array_up, object_up}
use Rattle.parse_targets.proofs.Targets.{by_primary, of_short, array_literal}
use Rattle.parse_shared.proofs.laws_shared.Verdicts.{either_way}

-- the slots of an assignment to an array or object target
abbrev pub array_slots : Flags → G
array_slots f = (symbol ArrayTarget f ◇ symbol ObjectTarget f) ▸ tok Eq ▸ symbol Assignment f

abbrev pub array_part : Flags → G
array_part f = op assignment_expression Eq (array_slots f)

-- and expressions are read as a cover grammar
pub is_cover : {text : List ℕ} {f : Flags} {p : Parser} → At text f p → f.cover ≡ true
is_cover a = ap (λ (g : Flags). g.cover) (sym a.flags_are)

-- an array literal's right edge is its own
array_row : (k : NodeKind) (o : Op) (fl : ℕ) (p : _) (cs : Slots) → is_array k ≡ true → row_of (record { kind = k; op = o; flags = fl; span = p }) cs ≡ after_expression
array_row array_expression o fl p cs h = refl
array_row _ o fl p cs h = absurd (false≢true h)

abbrev signs : Look
signs k w e = one_of_kinds assign_operators k && not e

signs_follow : (b : Bool) → covers signs (looser 4 b after_expression) ≡ true
unfolding covers
signs_follow true = refl
signs_follow false = refl

-- what has a simple target is no literal
target_kind : (k : NodeKind) (o : Op) (fl : ℕ) (p : _) (cs : Slots) (t : Tree) → target_of (record { kind = k; op = o; flags = fl; span = p }) cs ≡ Some t → is_literal k ≡ false
target_kind array_expression o fl p cs t e = absurd (cc)
target_kind object_expression o fl p cs t e = absurd (cc)
target_kind _ o fl p cs t e = refl

pub target_no_literal : (l : Label) (cs : Slots) (t : Tree) → target_of l cs ≡ Some t → is_literal l.kind ≡ false
target_no_literal l cs t e = target_kind l.kind l.op l.flags l.span cs t e

-- what is no literal is no array
pub no_array : (k : NodeKind) → is_literal k ≡ false → is_array k ≡ false
no_array array_expression h = absurd (false≢true (sym h))
no_array _ h = refl

object_literal : {k : NodeKind} → k ≡ object_expression → is_literal k ≡ true
object_literal e = subst (λ (k : NodeKind). is_literal k ≡ true) (sym e) refl

an_equals : (y : Lexeme) → IsTrue (seen (is Eq) y) → IsTrue (seen signs y)
an_equals y q = let z = and_parts (same_kind Eq y.kind) (not y.escaped) q in and_from (one_of_kinds assign_operators y.kind) (not y.escaped) (subst (λ (v : Kind). one_of_kinds assign_operators v ≡ true) (kind_of_same Eq y.kind z.0) refl) z.1

-- An array target, as an array literal.
pub record Literal (f : Flags) (ks us : Slots) (i : ℕ) (ls : Lexemes) (j : ℕ) (rest : Lexemes) : Type 0 where
  pub label : Label
  pub slots : Slots
  pub array : is_array label.kind ≡ true
  pub takes : Takes rule (such (at Short f) always) ks (tree label slots us) i ls us j rest

-- before an assignment operator it may stand
pub array_before_a_sign : (f : Flags) (l : Label) (cs us : Slots) → is_array l.kind ≡ true → (y : Lexeme) → IsTrue (seen signs y) → Admits (after (at Short f)) (tree l cs us) y
array_before_a_sign f l cs us h y q = admits (at Short f) (tree l cs us) y (subst (λ (r : Row). IsTrue (seen (looser 4 f.in_ r) y)) (sym (array_row l.kind l.op l.flags l.span cs h)) (covered signs (looser 4 f.in_ after_expression) (signs_follow f.in_) y.kind y.newline y.escaped q))

object_row : (k : NodeKind) (o : Op) (fl : ℕ) (p : _) (cs : Slots) → k ≡ object_expression → row_of (record { kind = k; op = o; flags = fl; span = p }) cs ≡ after_expression
object_row k o fl p cs e = subst (λ (v : NodeKind). row_of (record { kind = v; op = o; flags = fl; span = p }) cs ≡ after_expression) (sym e) refl

-- so may an object literal
pub object_before_a_sign : (f : Flags) (l : Label) (cs us : Slots) → l.kind ≡ object_expression → (y : Lexeme) → IsTrue (seen signs y) → Admits (after (at Short f)) (tree l cs us) y
object_before_a_sign f l cs us h y q = admits (at Short f) (tree l cs us) y (subst (λ (r : Row). IsTrue (seen (looser 4 f.in_ r) y)) (sym (object_row l.kind l.op l.flags l.span cs h)) (covered signs (looser 4 f.in_ after_expression) (signs_follow f.in_) y.kind y.newline y.escaped q))

pub before_others : {f : Flags} {ks vs : Slots} {l : Label} {cs : Slots} {i j : ℕ} {ls rest : Lexemes} → Takes rule (such (at Short f) always) end (tree l cs end) i ls end j rest → Takes rule (such (at Short f) always) ks (tree l cs vs) i ls vs j rest
before_others (is_such d h) = is_such d h

module _ {f : Flags} (v : f.cover ≡ true) where
  pub literal : {ks ts us vs : Slots} {i j : ℕ} {ls rest : Lexemes} → Takes rule (symbol ArrayTarget f) ks ts i ls us j rest → Literal f ks vs i ls j rest
  literal {ks} {vs = vs} (is_such d h) = let x = array_up f v d in record { label = x.label; slots = x.slots; array = x.array; takes = anew ((of_short f).up (by_primary x.derived)) }
    where
      anew : {l : Label} {cs : Slots} {i j : ℕ} {ls rest : Lexemes} → Takes rule (such (at Short f) always) end (tree l cs end) i ls end j rest → Takes rule (such (at Short f) always) ks (tree l cs vs) i ls vs j rest
      anew (is_such d h) = is_such d h

  -- before an assignment operator it may stand
  before_a_sign : {ks us : Slots} {i j : ℕ} {ls rest : Lexemes} (x : Literal f ks us i ls j rest) → (y : Lexeme) → IsTrue (seen signs y) → Admits (after (at Short f)) (tree x.label x.slots us) y
  before_a_sign {us = us} x y q = array_before_a_sign f x.label x.slots us x.array y q

  -- the lexemes of another tree are no array target
  pub no_array_there : {text : List ℕ} {s s' : ℕ} {l : Label} {cs : Slots} {pass : Lexemes → Lexemes} → Stretch text (after (at Short f)) (such (at Short f) always) s nothing s' (tree l cs) pass → is_array l.kind ≡ false → {ts : Slots} {j : ℕ} {ls : Lexemes} (y : Lexeme) → Lexes (Lex text) s ls → IsTrue (seen signs y) → Takes rule (symbol ArrayTarget f) end ts s ls end j (last y) → ⊥
  no_array_there r n {j = j} {ls} y m q d =
      let x = literal {vs = end} d in
      let z = r.goes.only (tree x.label x.slots end) end j ls (last y) m x.takes (before_a_sign x y q) in
      false≢true (sym n ∙ (sym (ap (λ (v : Label). is_array v.kind) (label_is z.2)) ∙ x.array))

  -- nor an object target
  pub no_object_there : {text : List ℕ} {s s' : ℕ} {l : Label} {cs : Slots} {pass : Lexemes → Lexemes} → Stretch text (after (at Short f)) (such (at Short f) always) s nothing s' (tree l cs) pass → is_literal l.kind ≡ false → {ts : Slots} {j : ℕ} {ls : Lexemes} (y : Lexeme) → Lexes (Lex text) s ls → IsTrue (seen signs y) → Takes rule (symbol ObjectTarget f) end ts s ls end j (last y) → ⊥
  no_object_there r n {j = j} {ls} y m q (is_such d g) =
      let x = object_up f v d in
      let z = r.goes.only (tree x.label x.slots end) end j ls (last y) m (before_others ((of_short f).up (by_primary x.derived))) (object_before_a_sign f x.label x.slots end x.object y q) in
      false≢true (sym n ∙ (sym (ap (λ (v : Label). is_literal v.kind) (label_is z.2)) ∙ object_literal x.object))

  -- a literal isn't derived where another tree was read, or where no `=` stands behind it
  another : {text : List ℕ} {s s' : ℕ} {l m : Label} {cs ds us : Slots} {pass : Lexemes → Lexemes} {j : ℕ} {y : Lexeme} {ls ms : Lexemes} → Stretch text (after (at Short f)) (such (at Short f) always) s nothing s' (tree l cs) pass → (is_literal l.kind ≡ false) ⊎ ((y : Lexeme) → Lex text s' y → IsTrue (seen (is Eq) y) → ⊥) → is_literal m.kind ≡ true → Lexes (Lex text) s ls → Takes rule (such (at Short f) always) end (tree m ds us) s ls us j (next y ms) → Admits (after (at Short f)) (tree m ds us) y → IsTrue (seen (is Eq) y) → ⊥
  another {text} {s} {s'} {l} {m} {cs} {ds} {us} {pass} {j} {y} {ls} {ms} r h t c d a q = by h
    where
      z : (vs : Slots) × (ls' : Lexemes) × (tree m ds us ≡ tree l cs vs) × Lexes (Lex text) s' ls' × Takes rule nothing end vs s' ls' us j (next y ms) × (ls ≡ pass ls')
      z = r.goes.only (tree m ds us) us j ls (next y ms) c d a

      stands : Lex text s' y
      stands = here_at (Lex text) (next y ms) (subst (λ (v : Lexemes). Lexes (Lex text) s' v) (ends z.4).2 z.3)

      by : (is_literal l.kind ≡ false) ⊎ ((y : Lexeme) → Lex text s' y → IsTrue (seen (is Eq) y) → ⊥) → ⊥
      by (inl n) = false≢true (sym n ∙ (sym (ap (λ (v : Label). is_literal v.kind) (label_is z.2)) ∙ t))
      by (inr n) = n y stands q

  module _ {text : List ℕ} {X : Test} {s : ℕ} where
    -- nothing was read
    pub no_array_unread : Underived text (at Short f) s → Fails rule (Lex text) X end (array_slots f) s
    no_array_unread n = record { no = λ ts vs k ls rest l d e. go ts vs k ls rest l d }
      where
        go : (ts vs : Slots) (k : ℕ) (ls rest : Lexemes) → Lexes (Lex text) s ls → Takes rule (array_slots f) end ts s ls vs k rest → ⊥
        go ts vs k ls rest l (is_seq {us = us} {j = j} {mid = mid} (is_left d) (is_seq (is_lexeme {x = y} q) b)) = let x = literal {vs = us} d in n.no (tree x.label x.slots us) us j ls mid l x.takes (before_a_sign x y (an_equals y q))
        go ts vs k ls rest l (is_seq {us = us} {j = j} {mid = mid} (is_right (is_such d h)) (is_seq (is_lexeme {x = y} q) b)) = let x = object_up f v d in n.no (tree x.label x.slots us) us j ls mid l (before_others ((of_short f).up (by_primary x.derived))) (object_before_a_sign f x.label x.slots us x.object y (an_equals y q))

    -- it was read as another tree; or no `=` stands behind it
    pub no_array_read : {s' : ℕ} {l : Label} {cs : Slots} {pass : Lexemes → Lexemes} → Stretch text (after (at Short f)) (such (at Short f) always) s nothing s' (tree l cs) pass → (is_literal l.kind ≡ false) ⊎ ((y : Lexeme) → Lex text s' y → IsTrue (seen (is Eq) y) → ⊥) → Fails rule (Lex text) X end (array_slots f) s
    no_array_read r h = record { no = λ ts vs k ls rest m d e. go ts vs k ls rest m d }
      where
        go : (ts vs : Slots) (k : ℕ) (ls rest : Lexemes) → Lexes (Lex text) s ls → Takes rule (array_slots f) end ts s ls vs k rest → ⊥
        go ts vs k ls rest m (is_seq {us = us} (is_left d) (is_seq (is_lexeme {x = y} q) b)) = let x = literal {ks = end} {vs = us} d in another {us = us} r h (array_literal x.label.kind x.array) m x.takes (before_a_sign x y (an_equals y q)) q
        go ts vs k ls rest m (is_seq {us = us} (is_right (is_such d g)) (is_seq (is_lexeme {x = y} q) b)) = let x = object_up f v d in another {us = us} r h (object_literal x.object) m (before_others ((of_short f).up (by_primary x.derived))) (object_before_a_sign f x.label x.slots us x.object y (an_equals y q)) q

-- between two states
pub no_array_part : {text : List ℕ} {f : Flags} {X : Test} {p q : Parser} → (x : Answer text f (at Short f) p q) → (is_literal x.label.kind ≡ false) ⊎ ((y : Lexeme) → Lex text q.prev_token_end y → IsTrue (seen (is Eq) y) → ⊥) → Fails rule (Lex text) X end (array_slots f) p.prev_token_end
no_array_part x h = either_way x.verdict (λ y. no_array_read (is_cover x.at) y h) (λ n. no_array_unread (is_cover x.at) n)
