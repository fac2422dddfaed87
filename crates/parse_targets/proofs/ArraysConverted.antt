-- Array and object literals before `=` that are targets, and those that are none (ECMA-262, 13.15.5).
use Rattle.std.proofs.Common.{ℕ, ◌≡◌, ◌⊎◌, inl, inr, List, [], ◌∷◌, Bool, true, false, not, IsTrue, Some, None, refl, sym, ap, subst, ◌∙◌}
use Rattle.std.specs.Prelude.{IsCharBoundary, IsUtf8}
use Rattle.std.proofs.lemmas.Bool.{false≢true}
use Rattle.js_base.specs.declared.kind.Kind.TheVariants.{RBrack, RCurly}
use Rattle.js_base.specs.Kinds.{one_of_kinds}
use Rattle.js_grammar.specs.Trees.{Span as TreeSpan, NodeKind, Op, Label, Slots, end, tree}
use Rattle.js_grammar.specs.Grammar.{Lexeme, Lexemes, last, here, seen, such, nothing, Takes, Derives, is_nothing, is_such}
use Rattle.js_grammar.specs.Insertion.{Row, after_expression}
use Rattle.js_grammar.specs.Lexed.{Lexes}
use Rattle.js_grammar.specs.LexicalFaults.{Reached}
use Rattle.js_grammar.specs.Parsing.{Test, plain, always, Admits, Fails}
use Rattle.js_grammar.specs.Productions.{Flags, Symbol, at, Short, LeftHandSide}
use Rattle.js_grammar.specs.Productions.{sym as symbol}
use Rattle.js_grammar.specs.Table.{rule}
use Rattle.js_grammar.specs.Follow.{after, looser, row_of}
use Rattle.js_grammar.proofs.FollowLaws.{admits}
use Rattle.js_grammar.proofs.Looks.{covers, covered}
use Rattle.js_grammar.specs.Marks.{loose}
use Rattle.js_grammar.proofs.Loose.{strict_is_loose}
use Rattle.js_grammar.proofs.Calculus.{ends, label_is, slots_are}
use Rattle.parse_shared.specs.laws_shared.Answers.{Stretch, Underived}
use Rattle.parse_shared.specs.laws_shared.Lexemes.{Lex, other_goals}
use Rattle.parse_targets.specs.Taken.{behind_target, target_name}
use Rattle.parse_targets.specs.Targets.{Each, Fits, Narrow, Shut, Spotted, in_literal, is_array, literal_kind, relabelled, pattern_kind, elements_in, places_in}
use Rattle.parse_targets.specs.declared.widening.Widening.{Widening}
use Rattle.parse_targets.specs.declared.widening.Widening.TheVariants.{Rest, RestTarget, Operator}
use Rattle.parse_targets.proofs.Spots.{literal_spots}
use Rattle.parse_shared.proofs.laws_shared.Here.{alike_plain}
use Rattle.parse_targets.proofs.LiteralsAsTargets.{Targeted, literal_target, bracket_plain}
use Rattle.parse_targets.proofs.Targets.{by_primary, is_literal_kind, may_literal, of_short}
use Rattle.parse_targets.proofs.TargetsAsLiterals.{literal_back}

-- ---- what the literal says of the target

shut_narrow : (text : List ℕ) (ws : List Widening) → Each (Shut text) ws → Each (Narrow text) ws
shut_narrow text [] h = tt
shut_narrow text (Rest s ∷ ws) h = (λ y l k. false≢true (ap (one_of_kinds (RBrack ∷ RCurly ∷ [])) (sym k ∙ ap (λ (z : Lexeme). z.kind) (alike_plain l h.0.stands (ap (one_of_kinds other_goals) k) (bracket_plain h.0.bracket.kind h.0.is))) ∙ h.0.is), shut_narrow text ws h.1)
shut_narrow text (RestTarget s ∷ ws) h = absurd h.0
shut_narrow text (Operator s ∷ ws) h = absurd h.0

pub anew : {n : Symbol} {ks vs : Slots} {l : Label} {cs : Slots} {i j : ℕ} {ls rest : Lexemes} → Takes rule (such n always) end (tree l cs end) i ls end j rest → Takes rule (such n always) ks (tree l cs vs) i ls vs j rest
anew (is_such d h) = is_such d h

module _ (text : List ℕ) (f : Flags) (v : f.cover ≡ true) where
  -- a target, as an expression
  pub record Sourced (o : Bool) (ks us : Slots) (a : Label) (bs : Slots) (i : ℕ) (ls : Lexemes) (j : ℕ) (rest : Lexemes) : Type 0 where
    pub label : Label
    pub slots : Slots
    pub kind : label.kind ≡ literal_kind o
    pub target : a ≡ relabelled (pattern_kind o) label
    pub covers : elements_in (in_literal o) slots ≡ Some bs
    pub opened : f.wide ≡ false → Each (Narrow text) (places_in (in_literal o) slots)
    pub takes : Takes rule (such (at Short f) always) ks (tree label slots us) i ls us j rest

  pub sourced : (o : Bool) {ks us : Slots} {a : Label} {bs : Slots} {i j : ℕ} {ls rest : Lexemes} → Lexes (Lex text) i ls → Takes rule (rule (at (target_name o) f)) end (tree a bs end) i ls end j rest → Sourced o ks us a bs i ls j rest
  sourced o {ks} {us} {a} {bs} m d =
      let x = literal_back text f.wide f refl v o d m in
      record {
        label = x.label;
        slots = x.slots;
        kind = x.kind;
        target = label_is x.is_tree;
        covers = x.covers ∙ ap Some (sym (slots_are x.is_tree));
        opened = λ g. shut_narrow text (places_in (in_literal o) x.slots) (x.closed g);
        takes = anew ((of_short f).up (by_primary x.derived));
      }

-- a literal's right edge is its own
literal_row : (o : Bool) (k : NodeKind) (p : Op) (fl : ℕ) (s : TreeSpan) (cs : Slots) → k ≡ literal_kind o → row_of (record { kind = k; op = p; flags = fl; span = s }) cs ≡ after_expression
literal_row false k p fl s cs e = subst (λ (v : NodeKind). row_of (record { kind = v; op = p; flags = fl; span = s }) cs ≡ after_expression) (sym e) refl
literal_row true k p fl s cs e = subst (λ (v : NodeKind). row_of (record { kind = v; op = p; flags = fl; span = s }) cs ≡ after_expression) (sym e) refl

pub targets_follow : (b : Bool) → covers (behind_target b) (looser 4 b after_expression) ≡ true
unfolding covers
targets_follow true = refl
targets_follow false = refl

-- before what may stand behind a target a literal may stand
pub sign_admitted : (o : Bool) (f : Flags) (l : Label) (cs us : Slots) (y : Lexeme) → l.kind ≡ literal_kind o → IsTrue (seen (behind_target f.in_) y) → Admits (after (at Short f)) (tree l cs us) y
sign_admitted o f l cs us y h q = admits (at Short f) (tree l cs us) y (subst (λ (r : Row). IsTrue (seen (looser 4 f.in_ r) y)) (sym (literal_row o l.kind l.op l.flags l.span cs h)) (covered (behind_target f.in_) (looser 4 f.in_ after_expression) (targets_follow f.in_) y.kind y.newline y.escaped q))

-- the two are apart
other_kind : (o : Bool) → literal_kind (not o) ≡ literal_kind o → ⊥
other_kind false e = false≢true (ap is_array e)
other_kind true e = false≢true (sym (ap is_array e))

abbrev pub signs : Flags → Test
signs f = plain (behind_target f.in_)

-- what was read, and may be followed by an assignment operator, is the only one
module _ {text : List ℕ} {f : Flags} (v : f.cover ≡ true) {s s' : ℕ} {l : Label} {cs : Slots} {pass : Lexemes → Lexemes} (o : Bool) (z : Stretch text (after (at Short f)) (such (at Short f) always) s nothing s' (tree l cs) pass) (h : l.kind ≡ literal_kind o) where
  -- a target that stands there is that of the literal
  record There (a : Label) (bs us : Slots) (vs : Slots) (ls : Lexemes) (k : ℕ) (rest : Lexemes) : Type 0 where
    target : a ≡ relabelled (pattern_kind o) l
    covers : elements_in (in_literal o) cs ≡ Some bs
    opened : f.wide ≡ false → Each (Narrow text) (places_in (in_literal o) cs)
    behind : Lexemes
    same : us ≡ vs
    lexed : Lexes (Lex text) s' behind
    takes : Takes rule nothing end us s' behind vs k rest
    list : ls ≡ pass behind

  there : {a : Label} {bs vs : Slots} {k : ℕ} {ls rest : Lexemes} → Lexes (Lex text) s ls → Takes rule (rule (at (target_name o) f)) end (tree a bs end) s ls end k rest → IsTrue (seen (behind_target f.in_) (here rest)) → (us : Slots) × There a bs us vs ls k rest
  there {a} {bs} {vs} {k} {ls} {rest} m d q =
      let x = sourced text f v o {ks = end} {us = vs} m d in
      let y = z.goes.only (tree x.label x.slots vs) vs k ls rest m x.takes (sign_admitted o f x.label x.slots vs (here rest) x.kind q) in
      let e = ends y.4 in (
        y.0,
        record {
          target = x.target ∙ ap (relabelled (pattern_kind o)) (label_is y.2);
          covers = sym (ap (elements_in (in_literal o)) (slots_are y.2)) ∙ x.covers;
          opened = λ g. subst (λ (ds : Slots). Each (Narrow text) (places_in (in_literal o) ds)) (slots_are y.2) (x.opened g);
          behind = y.1;
          same = e.0;
          lexed = y.3;
          takes = y.4;
          list = y.5;
        },
      )

  -- none stands there, where the literal is converted to none, or it is wider than one
  pub no_target_there : (elements_in (in_literal o) cs ≡ None) ⊎ ((f.wide ≡ false) × (Each (Narrow text) (places_in (in_literal o) cs) → ⊥)) → Fails rule (Lex text) (signs f) end (such (at (target_name o) f) always) s
  no_target_there n = record { no = λ ts vs k ls rest m d q. go ts vs k ls rest m d q }
    where
      by : {a : Label} {bs us vs : Slots} {ls : Lexemes} {k : ℕ} {rest : Lexemes} → There a bs us vs ls k rest → (elements_in (in_literal o) cs ≡ None) ⊎ ((f.wide ≡ false) × (Each (Narrow text) (places_in (in_literal o) cs) → ⊥)) → ⊥
      by {bs = bs} x (inl e) = let c : None ≡ Some bs = sym e ∙ x.covers in cc
      by x (inr g) = g.1 (x.opened g.0)

      go : (ts vs : Slots) (k : ℕ) (ls rest : Lexemes) → Lexes (Lex text) s ls → Takes rule (such (at (target_name o) f) always) end ts s ls vs k rest → Admits (signs f) ts (here rest) → ⊥
      go ts vs k ls rest m (is_such d c) q = by (there {vs = vs} m d q.0).1 n

  -- nor is a target of the other kind
  pub no_other_there : Fails rule (Lex text) (signs f) end (such (at (target_name (not o)) f) always) s
  no_other_there = record { no = λ ts vs k ls rest m d q. go ts vs k ls rest m d q }
    where
      go : (ts vs : Slots) (k : ℕ) (ls rest : Lexemes) → Lexes (Lex text) s ls → Takes rule (such (at (target_name (not o)) f) always) end ts s ls vs k rest → Admits (signs f) ts (here rest) → ⊥
      go ts vs k ls rest m (is_such d c) q =
          let x = sourced text f v (not o) {ks = end} {us = vs} m d in
          let y = z.goes.only (tree x.label x.slots vs) vs k ls rest m x.takes (sign_admitted (not o) f x.label x.slots vs (here rest) x.kind q.0) in
          other_kind o (sym x.kind ∙ (ap (λ (n : Label). n.kind) (label_is y.2) ∙ h))

  -- where it is converted to none, none is derived, of whichever kind
  pub none_derived : elements_in (in_literal o) cs ≡ None → {ts : Slots} {k : ℕ} {ls : Lexemes} (b : Bool) (y : Lexeme) → Lexes (Lex text) s ls → IsTrue (seen (behind_target f.in_) y) → Takes rule (symbol (target_name b) f) end ts s ls end k (last y) → ⊥
  none_derived n {ts} {k} {ls} b y m q d = by o b no_other_there (no_target_there (inl n)) d
    where
      by : (o b : Bool) → Fails rule (Lex text) (signs f) end (such (at (target_name (not o)) f) always) s → Fails rule (Lex text) (signs f) end (such (at (target_name o) f) always) s → Takes rule (symbol (target_name b) f) end ts s ls end k (last y) → ⊥
      by false false e g d = g.no ts end k ls (last y) m d (q, refl)
      by false true e g d = e.no ts end k ls (last y) m d (q, refl)
      by true false e g d = e.no ts end k ls (last y) m d (q, refl)
      by true true e g d = g.no ts end k ls (last y) m d (q, refl)

  -- the target that it is converted to
  module _ (ds : Slots) (e : elements_in (in_literal o) cs ≡ Some ds) (u : IsUtf8 text) (r : Reached text s) (b : IsCharBoundary text s) where
    targeted : {ls rest : Lexemes} {j : ℕ} → Lexes (Lex text) s ls → Takes rule (rule (at Short f)) end (tree l cs end) s ls end j rest → Targeted text o f l cs ds s ls j rest
    targeted m d = literal_target text o ds h e u r b m ((of_short f).down (may_literal l.kind (is_literal_kind o l.kind h)) (is_such d refl))

    pub target_there : (f.wide ≡ true) ⊎ Each (Narrow text) (places_in (in_literal o) cs) → Stretch text (signs f) (such (at (target_name o) f) always) s nothing s' (tree (relabelled (pattern_kind o) l) ds) pass
    target_there n = record {
      reach = z.reach;
      near = z.near;
      goes = record {
        passes = z.goes.passes;
        sound = λ us vs k ls rest m g d. sound (z.goes.passes.lexed ls m) (z.goes.sound us vs k ls rest m g d);
        only = λ ts vs k ls rest m d q. only ts vs k ls rest m d q;
      };
    }
      where
        sound : {us vs : Slots} {k : ℕ} {ls rest : Lexemes} → Lexes (Lex text) s ls → Takes rule (such (at Short f) always) end (tree l cs us) s ls vs k rest → Takes rule (such (at (target_name o) f) always) end (tree (relabelled (pattern_kind o) l) ds us) s ls vs k rest
        sound m (is_such d c) = anew ((targeted m d).takes n)

        only : (ts vs : Slots) (k : ℕ) (ls rest : Lexemes) → Lexes (Lex text) s ls → Takes rule (such (at (target_name o) f) always) end ts s ls vs k rest → Admits (signs f) ts (here rest) → (us : Slots) × (ls' : Lexemes) × (ts ≡ tree (relabelled (pattern_kind o) l) ds us) × Lexes (Lex text) s' ls' × Takes rule nothing end us s' ls' vs k rest × (ls ≡ pass ls')
        only ts vs k ls rest m (is_such {l = a} {cs = bs} d c) q =
            let y = there {vs = vs} m d q.0 in
            let x = y.1 in
            let v : bs ≡ ds = (let t : Some bs ≡ Some ds = sym x.covers ∙ e in cc) in
            (y.0, x.behind, (λ i. tree (x.target i) (v i) (sym x.same i)), x.lexed, x.takes, x.list)

    -- what stands behind each of its rests
    pub ended_there : (y : Lexeme) → Lex text s' y → Each (Fits text) (places_in (in_literal o) cs)
    ended_there y n = by (z.goes.passes.lexed (last y) n) (z.goes.sound end end s' (last y) (last y) n (inl z.near) is_nothing)
      where
        by : {ls rest : Lexemes} {j : ℕ} → Lexes (Lex text) s ls → Takes rule (such (at Short f) always) end (tree l cs end) s ls end j rest → Each (Fits text) (places_in (in_literal o) cs)
        by m (is_such d c) = (targeted m d).ended

  -- it is derived in its wider form, whatever it has at its places
  pub loose_there : (ds : Slots) → elements_in (in_literal o) cs ≡ Some ds → IsUtf8 text → Reached text s → IsCharBoundary text s → (y : Lexeme) → Lex text s' y → Derives rule (at (target_name o) (loose f)) (record { label = relabelled (pattern_kind o) l; slots = ds }) s (pass (last y)) s' (last y)
  loose_there ds e u r b y n = by (z.goes.passes.lexed (last y) n) (z.goes.sound end end s' (last y) (last y) n (inl z.near) is_nothing)
    where
      within : {m : Symbol} {t : Label} {ts : Slots} {ls rest : Lexemes} {j : ℕ} → Takes rule (such m always) end (tree t ts end) s ls end j rest → Takes rule (rule m) end (tree t ts end) s ls end j rest
      within (is_such d c) = d

      by : {ls rest : Lexemes} {j : ℕ} → Lexes (Lex text) s ls → Takes rule (such (at Short f) always) end (tree l cs end) s ls end j rest → Derives rule (at (target_name o) (loose f)) (record { label = relabelled (pattern_kind o) l; slots = ds }) s ls j rest
      by m (is_such d c) =
          let k = strict_is_loose (at LeftHandSide f) (record { label = l; slots = cs }) (within ((of_short f).down (may_literal l.kind (is_literal_kind o l.kind h)) (is_such d refl))) in
          within ((literal_target text o ds h e u r b m (is_such k refl)).takes (inl refl))

  -- what stands at its spreads and its assignments
  pub spots_there : IsUtf8 text → Reached text s → IsCharBoundary text s → (y : Lexeme) → Lex text s' y → Each (Spotted text) (places_in (in_literal o) cs)
  spots_there u r b y n = by (z.goes.passes.lexed (last y) n) (z.goes.sound end end s' (last y) (last y) n (inl z.near) is_nothing)
    where
      by : {ls rest : Lexemes} {j : ℕ} → Lexes (Lex text) s ls → Takes rule (such (at Short f) always) end (tree l cs end) s ls end j rest → Each (Spotted text) (places_in (in_literal o) cs)
      by m (is_such d c) = literal_spots text u o h r b m ((of_short f).down (may_literal l.kind (is_literal_kind o l.kind h)) (is_such d refl))

-- nothing was read there
pub no_target_unread : {text : List ℕ} {f : Flags} (o : Bool) → f.cover ≡ true → {s : ℕ} → Underived text (at Short f) s → Fails rule (Lex text) (signs f) end (such (at (target_name o) f) always) s
no_target_unread {text} {f} o v {s} n = record { no = λ ts vs k ls rest m d q. go ts vs k ls rest m d q }
  where
    go : (ts vs : Slots) (k : ℕ) (ls rest : Lexemes) → Lexes (Lex text) s ls → Takes rule (such (at (target_name o) f) always) end ts s ls vs k rest → Admits (signs f) ts (here rest) → ⊥
    go ts vs k ls rest m (is_such d c) q = let x = sourced text f v o {ks = end} {us = vs} m d in n.no (tree x.label x.slots vs) vs k ls rest m x.takes (sign_admitted o f x.label x.slots vs (here rest) x.kind q.0)
