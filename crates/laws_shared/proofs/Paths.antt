-- Readings between two states of a parser.
use Rattle.std.proofs.Common.{ℕ, ◌≡◌, ◌<◌, max, List, [], ◌∷◌, Bool, true, false, not, ◌&&◌, ◌||◌, IsTrue, refl, sym, ap, subst, arith, ◌∙◌}
use Rattle.std.proofs.lemmas.Bool.{false≢true, and_parts, and_from, not-true}
use Rattle.js_base.specs.declared.kind.Kind.{Kind}
use Rattle.js_base.specs.declared.kind.Kind.TheVariants.{RAngle}
use Rattle.js_base.specs.Kinds.{same_kind, one_of_kinds, every_kind}
use Rattle.js_base.proofs.KindLemmas.{kind_of_same}
use Rattle.js_grammar.specs.Trees.{Slots, end, tree, Label, Op, NodeKind}
use Rattle.js_grammar.specs.Grammar.{Lexeme, Lexemes, Look, seen, exact, is, here, lexeme, next, seq, such, nothing}
use Rattle.js_grammar.specs.Lexed.{Lexes}
use Rattle.js_grammar.specs.Parsing.{still, passing, Test, plain, behind, full, always, Goes, Reads, Fails}
use Rattle.js_grammar.specs.Productions.{G, Flags, Symbol, tok, make}
use Rattle.js_grammar.specs.Table.{rule}
use Rattle.js_grammar.specs.FirstSets.{first}
use Rattle.js_grammar.specs.Follow.{surest, after}
use Rattle.js_grammar.proofs.Lexemes.{first_or}
use Rattle.js_grammar.proofs.Looks.{covers, covered, same_self, apart, not_both}
use Rattle.js_grammar.proofs.Calculus.{On, Inside, Heads, here_at, ◌▹◌, ◌▹✗◌, then_by, weaken_on, weaken_fails_on, makes_by, by_rule, fails_rule, part_fails, fails_node, reads_lexeme}
use Rattle.js_grammar.proofs.First.{starts}
use Rattle.js_grammar.proofs.FirstClaims.{firsts}
use Rattle.js_grammar.proofs.FirstRules.{by_first, fails_here, picks, pick}
use Rattle.js_grammar.proofs.FollowLaws.{surely}
use Rattle.js_cursor.specs.js_lex.Reading.{is_right_angle}
use Rattle.js_cursor.specs.Parsers.{Parser}
pub use Rattle.laws_shared.specs.Paths.{Path}
use Rattle.laws_shared.specs.Lexemes.{Lex, Walked, Spot, spot, nowhere, one_more, read_again, more_faults, is_read, other_goals, signs, signs_of, is_read_kind}
use Rattle.laws_shared.specs.States.{At}
use Rattle.laws_shared.specs.Moves.{Moved}
use Rattle.laws_shared.specs.Answers.{clean, Stretch, Answer}
use Rattle.laws_shared.proofs.Here.{alike_plain, angled, begins_here, kind_here, no_other, sign_here, told_plain, uncut, unsettled}
use Rattle.laws_shared.proofs.Verdicts.{verdict_of, either_way, and_then}

-- lexemes behind those that were passed
abbrev pub behind_walk : (L : ℕ → Lexeme → Type 0) {text : List ℕ} {s s' : Spot} {pass : Lexemes → Lexemes} → Walked text s s' pass → (ms : Lexemes) → Lexes L s.place (pass ms) → Lexes L s'.place ms
behind_walk L nowhere ms l = l
behind_walk L (one_more {x = x} w i r) ms l = (behind_walk L w (next x ms) l).1
behind_walk L (read_again {x = x} w ds k i) ms l = (behind_walk L w (next x ms) l).1
behind_walk L (more_faults w ds n) ms l = behind_walk L w ms l

-- a walk, and another behind it
pub walked_both : {text : List ℕ} {s s' s'' : Spot} {f h : Lexemes → Lexemes} → Walked text s s' f → Walked text s' s'' h → Walked text s s'' (λ ls. f (h ls))
walked_both a nowhere = a
walked_both a (one_more b i r) = one_more (walked_both a b) i r
walked_both a (read_again b ds k i) = read_again (walked_both a b) ds k i
walked_both {text} a (more_faults {pass = h} b ds n) = more_faults (walked_both a b) ds (λ ls l. n ls (behind_walk (Lex text) a (h ls) l))

pub walked_to : {text : List ℕ} {s e e' : Spot} {f : Lexemes → Lexemes} → e ≡ e' → Walked text s e f → Walked text s e' f
walked_to {text} {s} {f = f} q w = subst (λ v. Walked text s v f) q w

pub walked_from : {text : List ℕ} {s s' e : Spot} {f : Lexemes → Lexemes} → s ≡ s' → Walked text s e f → Walked text s' e f
walked_from {text} {e = e} {f = f} q w = subst (λ v. Walked text v e f) q w

pub walked_one : {text : List ℕ} {f : Flags} {p q : Parser} → (s : Moved text f p q) → Walked text (spot p) (spot q) (λ ls. next s.lexeme ls)
walked_one s = walked_to (sym s.spot_is) (one_more nowhere s.is_new s.plain)

-- the lexemes that are read
abbrev pub reads : Look
reads k w e = is_read_kind k

abbrev pub angles : Look
angles k w e = is_right_angle k

-- Whether none of these kinds stands here is told by the token: none begins with `>`; a kind of another lexical goal is among them only with all signs that may stand in its place.
abbrev pub settles : List Kind → Bool
settles ks = apart angles (λ k w e. one_of_kinds ks k) && every_kind (λ o. not (one_of_kinds ks o) || every_kind (one_of_kinds ks) (signs_of o)) other_goals

-- and whether one does
abbrev pub settled : List Kind → Bool
settled ks = apart angles (λ k w e. one_of_kinds ks k) && every_kind (λ o. one_of_kinds ks o || every_kind (λ k. not (one_of_kinds ks k)) (signs_of o)) other_goals

-- of what may begin g, those kinds that are read are among these, of which the token tells whether one stands here
abbrev pub begins_by : G → Look → List Kind → Bool
begins_by g F ks = covers (λ k w e. starts first g F k w e && reads k w e) (λ k w e. one_of_kinds ks k) && settles ks

-- a lexeme of a kind that is read is
pub read_of : (y : Lexeme) {k : Kind} → y.kind ≡ k → is_read_kind k ≡ true → IsTrue (is_read y)
read_of y e h = subst (λ v. is_read_kind v ≡ true) (sym e) h

-- none of these kinds is that of a cut sign
no_angle : (ks : List Kind) → apart angles (λ k w e. one_of_kinds ks k) ≡ true → (k : Kind) → one_of_kinds ks k ≡ true → same_kind RAngle k ≡ false
no_angle ks d k h = go (same_kind RAngle k) refl
  where
    go : (b : Bool) → same_kind RAngle k ≡ b → same_kind RAngle k ≡ false
    go true e = absurd (not_both angles (λ k w e. one_of_kinds ks k) d k false false (subst (λ v. is_right_angle v ≡ true) (kind_of_same RAngle k e) refl) h)
    go false e = e

pub unless : (a b : Bool) → a ≡ true → (not a || b) ≡ true → b ≡ true
unless true b e h = h
unless false b e h = absurd (false≢true e)

or_not : (a b : Bool) → (a || b) ≡ true → b ≡ false → a ≡ true
or_not true b h e = refl
or_not false b h e = absurd (false≢true (sym e ∙ h))

-- what holds of each kind of a list holds of one of them
pub of_every : (P : Kind → Bool) (ks : List Kind) (k : Kind) → every_kind P ks ≡ true → one_of_kinds ks k ≡ true → P k ≡ true
of_every P [] k e h = absurd (false≢true h)
of_every P (a ∷ ks) k e h = first_or (λ (v : Kind). P v ≡ true) a k _ _ refl h (and_parts (P a) (every_kind P ks) e).0 (λ q. of_every P ks k (and_parts (P a) (every_kind P ks) e).1 q)

-- of kinds that settle what stands there, the signs of one of another goal are among them
all_signs : (ks : List Kind) (o k : Kind) → every_kind (λ o. not (one_of_kinds ks o) || every_kind (one_of_kinds ks) (signs_of o)) other_goals ≡ true → one_of_kinds other_goals o ≡ true → one_of_kinds (signs_of o) k ≡ true → one_of_kinds ks o ≡ true → one_of_kinds ks k ≡ true
all_signs ks o k e i j h = of_every (one_of_kinds ks) (signs_of o) k (unless (one_of_kinds ks o) _ h (of_every (λ o. not (one_of_kinds ks o) || every_kind (one_of_kinds ks) (signs_of o)) other_goals o e i)) j

-- and where one of its signs is among them, so is it
with_signs : (ks : List Kind) (o k : Kind) → every_kind (λ o. one_of_kinds ks o || every_kind (λ k. not (one_of_kinds ks k)) (signs_of o)) other_goals ≡ true → one_of_kinds other_goals o ≡ true → one_of_kinds (signs_of o) k ≡ true → one_of_kinds ks k ≡ true → one_of_kinds ks o ≡ true
with_signs ks o k e i j h = go (every_kind (λ k. not (one_of_kinds ks k)) (signs_of o)) refl (of_every (λ o. one_of_kinds ks o || every_kind (λ k. not (one_of_kinds ks k)) (signs_of o)) other_goals o e i)
  where
    go : (b : Bool) → every_kind (λ k. not (one_of_kinds ks k)) (signs_of o) ≡ b → (one_of_kinds ks o || b) ≡ true → one_of_kinds ks o ≡ true
    go true f q = absurd (false≢true (sym (not-true (one_of_kinds ks k) (of_every (λ k. not (one_of_kinds ks k)) (signs_of o) k f j)) ∙ h))
    go false f q = or_not (one_of_kinds ks o) false q refl

module _ {text : List ℕ} {f : Flags} {p : Parser} (a : At text f p) where
  pub not_here : (ks : List Kind) → settles ks ≡ true → one_of_kinds ks p.token.kind ≡ false → (y : Lexeme) → Lex text p.prev_token_end y → one_of_kinds ks y.kind ≡ true → ⊥
  not_here ks d n y l h = go p.cut refl (one_of_kinds other_goals y.kind) refl
    where
      c : (apart angles (λ k w e. one_of_kinds ks k) ≡ true) × (every_kind (λ o. not (one_of_kinds ks o) || every_kind (one_of_kinds ks) (signs_of o)) other_goals ≡ true)
      c = and_parts (apart angles (λ k w e. one_of_kinds ks k)) _ d

      go : (b : Bool) → p.cut ≡ b → (r : Bool) → one_of_kinds other_goals y.kind ≡ r → ⊥
      go true e r q = not_both angles (λ k w e. one_of_kinds ks k) c.0 y.kind y.newline y.escaped (angled a e y l) h
      go false e false q = false≢true (sym n ∙ subst (λ v. one_of_kinds ks v ≡ true) (sym (told_plain a e y q l).kind) h)
      go false e true q = false≢true (sym n ∙ all_signs ks y.kind p.token.kind c.1 q (sign_here a y l q) h)

  -- nothing that may begin g stands here
  pub fails_at : {X : Test} (g : G) (ks : List Kind) → begins_by g X.base ks ≡ true → one_of_kinds ks p.token.kind ≡ false → Fails rule (Lex text) X end g p.prev_token_end
  fails_at {X} g ks c n = let z = and_parts (covers (λ k w e. starts first g X.base k w e && reads k w e) (λ k w e. one_of_kinds ks k)) _ c in
      fails_here firsts (λ y l h. not_here ks z.1 n y l (covered (λ k w e. starts first g X.base k w e && reads k w e) (λ k w e. one_of_kinds ks k) z.0 y.kind y.newline y.escaped (and_from _ _ h l.1)))

  -- a choice, cut down at the kind that stands here
  pub at_kind : {X : Test} {g : G} (k : Kind) → p.token.kind ≡ k → one_of_kinds unsettled k ≡ false → Goes rule (Lex text) X end g p.prev_token_end (pick first X.base g (k ∷ [])) p.prev_token_end (λ us. us) (still 0)
  at_kind {X} {g} k e n = picks firsts (k ∷ []) (λ y l. subst (λ v. one_of_kinds (k ∷ []) v ≡ true) (sym (kind_here a e n y l)) (one_kind k)) g
    where
      one_kind : (k : Kind) → one_of_kinds (k ∷ []) k ≡ true
      one_kind k = rw (same_self k) refl

  -- and at the kinds of which one stands here
  pub at_kinds : {X : Test} {g : G} (ks : List Kind) → settled ks ≡ true → one_of_kinds ks p.token.kind ≡ true → Goes rule (Lex text) X end g p.prev_token_end (pick first X.base g ks) p.prev_token_end (λ us. us) (still 0)
  at_kinds {g = g} ks d h = picks firsts ks (λ y l. go y l (one_of_kinds other_goals y.kind) refl) g
    where
      c : (apart angles (λ k w e. one_of_kinds ks k) ≡ true) × (every_kind (λ o. one_of_kinds ks o || every_kind (λ k. not (one_of_kinds ks k)) (signs_of o)) other_goals ≡ true)
      c = and_parts (apart angles (λ k w e. one_of_kinds ks k)) _ d

      go : (y : Lexeme) → Lex text p.prev_token_end y → (r : Bool) → one_of_kinds other_goals y.kind ≡ r → one_of_kinds ks y.kind ≡ true
      go y l false q = subst (λ v. one_of_kinds ks v ≡ true) (told_plain a (uncut a (no_angle ks c.0 p.token.kind h)) y q l).kind h
      go y l true q = with_signs ks y.kind p.token.kind c.1 q (sign_here a y l q) h

  -- a lexeme that passes a test, which no lexeme of another goal passes that might stand in its place, was passed
  pub passes_unless : {X : Test} {q : Parser} (test : Look) → (s : Moved text f p q) → IsTrue (is_read s.lexeme) → IsTrue (seen test s.lexeme) → ((y : Lexeme) → Lex text p.prev_token_end y → IsTrue (seen test y) → one_of_kinds other_goals y.kind ≡ false) → Reads rule (Lex text) X end (lexeme test) p.prev_token_end q.prev_token_end (λ us. us) (passing s.lexeme)
  passes_unless {X} {q} test s r h n = subst (λ v. Reads rule (Lex text) X end (lexeme test) p.prev_token_end v (λ us. us) (passing s.lexeme)) s.ends (reads_lexeme test (s.stood, r) h (λ y l z. alike_plain l (s.stood, r) (n y l z) s.plain))

  -- two lexemes that are read are one, but at one of the signs
  pub one_read : one_of_kinds signs p.token.kind ≡ false → {y z : Lexeme} → Lex text p.prev_token_end y → Lex text p.prev_token_end z → y ≡ z
  one_read u {y} {z} l m = alike_plain l m (no_other a u y l) (no_other a u z m)

  pub passes_test : {X : Test} {q : Parser} (test : Look) → one_of_kinds signs p.token.kind ≡ false → (s : Moved text f p q) → IsTrue (is_read s.lexeme) → IsTrue (seen test s.lexeme) → Reads rule (Lex text) X end (lexeme test) p.prev_token_end q.prev_token_end (λ us. us) (passing s.lexeme)
  passes_test test u s r h = passes_unless test s r h (λ y l z. no_other a u y l)

  -- the lexeme of a kind was passed
  pub passes : {X : Test} {q : Parser} (k : Kind) → p.token.kind ≡ k → p.token.escaped ≡ false → is_read_kind k ≡ true → (s : Moved text f p q) → Reads rule (Lex text) X end (tok k) p.prev_token_end q.prev_token_end (λ us. us) (passing s.lexeme)
  passes k e n r s =
      let kind : s.lexeme.kind ≡ k = sym s.tells.kind ∙ e in
      let plain : s.lexeme.escaped ≡ false = sym s.tells.escaped ∙ n in
      passes_unless (is k) s (read_of s.lexeme kind r) (and_from _ _ (subst (λ v. same_kind k v ≡ true) (sym kind) (same_self k)) (ap not plain))
      (λ y l z. subst (λ v. one_of_kinds other_goals v ≡ false) (kind ∙ kind_of_same k y.kind (and_parts (same_kind k y.kind) (not y.escaped) z).0) s.plain)

  pub skips : {X : Test} {b : G} {q : Parser} (k : Kind) → p.token.kind ≡ k → p.token.escaped ≡ false → is_read_kind k ≡ true → (s : Moved text f p q) → Goes rule (Lex text) X end (seq (tok k) b) p.prev_token_end b q.prev_token_end (λ us. us) (passing s.lexeme)
  skips k e n r s = then_by {X' = plain full} (passes k e n r s) (record { admits = λ ts us vs j k ls mid rest d d' h. (refl, refl) })

module _ {text : List ℕ} {X : Test} where
  -- one stretch and another
  infixr 18 ◌⟶◌
  pub ◌⟶◌ : {f : Flags} {g g' g'' : G} {p q r : Parser} {h i : Slots → Slots} → Path text f X g p g' q h → Path text f (behind X h) g' q g'' r i → Path text f X g p g'' r (λ us. h (i us))
  a ⟶ b = record {
    at = b.at;
    further = let i = a.further in let j = b.further in let h = a.at.behind in omega arith;
    pass = λ ls. a.pass (b.pass ls);
    walked = walked_both a.walked b.walked;
    verdict = and_then a.verdict b.verdict (λ x y. record { reach = max x.reach y.reach; near = let i = x.near in let j = y.near in let k = b.further in let h = a.at.behind in omega arith; goes = x.goes ▹ y.goes }) (λ n. n) (λ x n. x.goes ▹✗ n);
  }

  -- a choice, and a stretch
  infixr 18 ◌⟼◌
  pub ◌⟼◌ : {f : Flags} {g g' g'' : G} {p q : Parser} {h i : Slots → Slots} → Goes rule (Lex text) X end g p.prev_token_end g' p.prev_token_end h (still 0) → Path text f (behind X h) g' p g'' q i → Path text f X g p g'' q (λ us. h (i us))
  a ⟼ b = record { at = b.at; further = b.further; pass = b.pass; walked = b.walked; verdict = verdict_of b.verdict (λ y. record { reach = max 0 y.reach; near = let i = y.near in omega arith; goes = a ▹ y.goes }) (λ n. a ▹✗ n) }

  infixr 18 ◌⟶✗◌
  pub ◌⟶✗◌ : {f : Flags} {g g' : G} {p q : Parser} {h : Slots → Slots} → Path text f X g p g' q h → Fails rule (Lex text) (behind X h) end g' q.prev_token_end → Fails rule (Lex text) X end g p.prev_token_end
  a ⟶✗ b = either_way a.verdict (λ x. x.goes ▹✗ b) (λ n. n)

  pub token : {f : Flags} {b : G} {p q : Parser} (k : Kind) → At text f p → p.token.kind ≡ k → p.token.escaped ≡ false → is_read_kind k ≡ true → Moved text f p q → Path text f X (seq (tok k) b) p b q (λ us. us)
  token k a e n r s = record { at = s.at; further = s.further; pass = _; walked = walked_one s; verdict = clean s.kept (record { reach = 0; near = omega arith; goes = skips a k e n r s }) }

  pub last_token : {f : Flags} {p q : Parser} (k : Kind) → At text f p → p.token.kind ≡ k → p.token.escaped ≡ false → is_read_kind k ≡ true → Moved text f p q → Path text f X (tok k) p nothing q (λ us. us)
  last_token k a e n r s = record { at = s.at; further = s.further; pass = _; walked = walked_one s; verdict = clean s.kept (record { reach = 0; near = omega arith; goes = passes a k e n r s }) }

  pub called : {f : Flags} {b : G} {n : Symbol} {p q : Parser} (a : Answer text f n p q) → covers (starts first b X.base) (surest n.name) ≡ true → Path text f X (seq (such n always) b) p b q (tree a.label a.slots)
  called {n = n} a c = record { at = a.at; further = a.further; pass = a.pass; walked = a.walked; verdict = verdict_of a.verdict (λ x. record { reach = x.reach; near = x.near; goes = then_by x.goes (by_first firsts (surely n) c) }) (λ m. part_fails m (by_first firsts (surely n) c)) }

  pub last_called : {f : Flags} {n : Symbol} {p q : Parser} (a : Answer text f n p q) → On rule X (after n) end (such n always) p.prev_token_end → Path text f X (such n always) p nothing q (tree a.label a.slots)
  last_called a c = record { at = a.at; further = a.further; pass = a.pass; walked = a.walked; verdict = verdict_of a.verdict (λ x. record { reach = x.reach; near = x.near; goes = weaken_on x.goes c }) (λ n. weaken_fails_on n c) }

-- a node's label, from the first lexeme to the last
abbrev pub label_here : NodeKind → Op → Parser → Parser → Label
label_here k o p q = record { kind = k; op = o; flags = 0; span = record { from = p.token.span.start; to = q.prev_token_end } }

pub noding : {text : List ℕ} {f : Flags} {X X' : Test} {k : NodeKind} {o : Op} {g : G} {p : Parser} {h : Slots → Slots} {pass : Lexemes → Lexemes} (q : Parser) → At text f p → Inside rule (record { kind = k; op = o; flags = 0; extent = exact }) X X' end g p.prev_token_end → Stretch text X' g p.prev_token_end nothing q.prev_token_end h pass → Stretch text X (make k o 0 g) p.prev_token_end nothing q.prev_token_end (tree (label_here k o p q) (h end)) pass
noding {text} {f} {X} {X'} {k} {o} {g} {p} {h} q a i x = record { reach = x.reach; near = x.near; goes = makes_by (label_here k o p q) i x.goes (λ ls ls' l l'. ap (λ v. label_from v) (begins_here a (here ls) (here_at (Lex text) ls l))) }
  where
    label_from : ℕ → Label
    label_from v = record { kind = k; op = o; flags = 0; span = record { from = v; to = q.prev_token_end } }

pub noded_by : {text : List ℕ} {f f' : Flags} {X X' : Test} {k : NodeKind} {o : Op} {g : G} {p q : Parser} {h : Slots → Slots} → At text f p → Inside rule (record { kind = k; op = o; flags = 0; extent = exact }) X X' end g p.prev_token_end → Path text f' X' g p nothing q h → Path text f' X (make k o 0 g) p nothing q (tree (label_here k o p q) (h end))
noded_by {q = q} a i r = record { at = r.at; further = r.further; pass = r.pass; walked = r.walked; verdict = verdict_of r.verdict (λ x. noding q a i x) (λ n. fails_node i n) }

-- where whatever may stand behind the slots
pub noded : {text : List ℕ} {f f' : Flags} {X : Test} {k : NodeKind} {o : Op} {g : G} {p q : Parser} {h : Slots → Slots} → At text f p → Path text f' (plain full) g p nothing q h → Path text f' X (make k o 0 g) p nothing q (tree (label_here k o p q) (h end))
noded a r = noded_by a (record { ends = λ l cs vs j ls mid d e. (refl, refl) }) r

-- a symbol, by its rule
pub by_symbol_as : {text : List ℕ} {f : Flags} {X X' : Test} {n : Symbol} {p q : Parser} {l : Label} {cs : Slots} → Heads X X' → Path text f X' (rule n) p nothing q (tree l cs) → Path text f X (such n always) p nothing q (tree l cs)
by_symbol_as h r = record { at = r.at; further = r.further; pass = r.pass; walked = r.walked; verdict = verdict_of r.verdict (λ x. record { reach = x.reach; near = x.near; goes = by_rule h x.goes refl }) (λ n. fails_rule h n) }

-- ---- nodes with flags

-- a node's label, with flags
abbrev pub flagged_here : NodeKind → Op → ℕ → Parser → Parser → Label
flagged_here k o fl p q = record { kind = k; op = o; flags = fl; span = record { from = p.token.span.start; to = q.prev_token_end } }

pub flagged_by : {text : List ℕ} {f f' : Flags} {X X' : Test} {k : NodeKind} {o : Op} {fl : ℕ} {g : G} {p q : Parser} {h : Slots → Slots} → At text f p → Inside rule (record { kind = k; op = o; flags = fl; extent = exact }) X X' end g p.prev_token_end → Path text f' X' g p nothing q h → Path text f' X (make k o fl g) p nothing q (tree (flagged_here k o fl p q) (h end))
flagged_by {text} {f} {X = X} {k = k} {o} {fl} {g} {p} {q} {h} a i r = record { at = r.at; further = r.further; pass = r.pass; walked = r.walked; verdict = verdict_of r.verdict (λ x. record { reach = x.reach; near = x.near; goes = makes_by (flagged_here k o fl p q) i x.goes (λ ls ls' l l'. ap (λ v. label_from v) (begins_here a (here ls) (here_at (Lex text) ls l))) }) (λ n. fails_node i n) }
  where
    label_from : ℕ → Label
    label_from v = record { kind = k; op = o; flags = fl; span = record { from = v; to = q.prev_token_end } }
