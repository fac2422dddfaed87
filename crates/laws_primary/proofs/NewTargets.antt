-- `new.target` (ECMA-262, 13.3.12): what is derived of it, and what is told where it, or another word, stands behind `new` and a dot.
use Rattle.std.proofs.Common.{ℕ, ◌≡◌, ◌≤◌, ◌<◌, inl, inr, List, [], ◌∷◌, Bool, true, false, not, ◌&&◌, ◌||◌, IsTrue, IsCharBoundary, refl, sym, ap, subst, arith, ◌∙◌}
use Rattle.std.specs.Prelude.{Ok}
use Rattle.std.proofs.lemmas.Bool.{false≢true, and_from, and_parts, or_left, or_right, not-true}
use Rattle.js_base.specs.Kinds.{same_kind, one_of_kinds}
use Rattle.js_base.specs.KindSets.{identifier_name_kinds}
use Rattle.js_base.specs.declared.diagnostic.Diagnostic.{Diagnostic}
use Rattle.js_base.specs.declared.kind.Kind.{Kind}
use Rattle.js_base.specs.declared.kind.Kind.TheVariants.{Dot, New, RAngle, Target}
use Rattle.js_base.specs.declared.span.Span.{Span}
use Rattle.js_base.proofs.KindLemmas.{kind_of_same}
use Rattle.js_grammar.specs.Trees.{Label, end, no_op, new_target_expression}
use Rattle.js_grammar.specs.Grammar.{Lexeme, Look, nothing, such}
use Rattle.js_grammar.specs.FirstSets.{first}
use Rattle.js_grammar.specs.LexicalFaults.{Reached}
use Rattle.js_grammar.specs.Lexed.{NextLexeme, all_faults}
use Rattle.js_grammar.specs.Lexemes.{is_word}
use Rattle.js_grammar.specs.Marks.{Mark, a_lexeme, another_word, of_kinds, the_end, the_start}
use Rattle.js_grammar.specs.Parsing.{Test, always, plain, full, Fails}
use Rattle.js_grammar.specs.Productions.{G, Flags, at}
use Rattle.js_grammar.specs.Productions.{New as new_symbol}
use Rattle.js_grammar.specs.Table.{rule}
use Rattle.js_grammar.proofs.Looks.{covers, covered, same_self, some_at, some_of}
use Rattle.js_grammar.proofs.Calculus.{◌▹✗◌, fails_node, fails_under, fails_when, inside_full}
use Rattle.js_grammar.proofs.First.{starts}
use Rattle.js_grammar.proofs.FirstClaims.{firsts}
use Rattle.js_grammar.proofs.FirstRules.{can, fails_here}
use Rattle.laws_shared.specs.js_lex.Reading.{Tells}
use Rattle.laws_shared.specs.js_tree.declared.id.NodeId.{NodeId}
use Rattle.laws_shared.specs.js_tree.declared.kind.NodeKind.TheVariants as node
use Rattle.laws_shared.specs.js_tree.declared.op.Op.TheVariants as op
use Rattle.laws_shared.specs.js_tree.Nodes.{Node}
use Rattle.laws_shared.specs.js_tree.Holding.{Keeps}
use Rattle.laws_shared.proofs.js_tree.HoldingLemmas.{Keeps-made, Keeps-refl, Keeps-trans}
use Rattle.laws_shared.specs.js_cursor.Moves.{GivesUp, is_last}
use Rattle.laws_shared.specs.js_cursor.Moves.{KeepsDiagnostic as TellsOne}
use Rattle.laws_shared.specs.js_cursor.Parsers.{Parser}
use Rattle.laws_shared.specs.js_cursor.Places.{goal}
use Rattle.laws_shared.specs.js_cursor.declared.stop.Stop.{Stop}
use Rattle.laws_shared.specs.js_cursor.declared.stop.Stop.TheVariants.{Fatal, NoMemory}
use Rattle.laws_primary.specs.Members.{MemberSoFar, NoMember, NoOther, MemberOutcome}
use Rattle.laws_primary.specs.NewTargets.{BehindDot, BehindNew, ChecksTarget, no_target_at, outside_at, target_slots}
use Rattle.laws_primary.proofs.Links.{member_target, new_target, no_member_new, with_arguments}
use Rattle.laws_primary.proofs.Members.{called_member, new_other, new_skips, no_import_at_new, no_primary, no_super_at_new}
use Rattle.laws_shared.specs.Answers.{Grown, Stops, Stretch, Verdict, unclean}
use Rattle.laws_shared.specs.Classes.{EndsParse}
use Rattle.laws_shared.specs.Lexemes.{Lex, spot}
use Rattle.laws_shared.specs.Moves.{MadeHere, Moved, plain_label}
use Rattle.laws_shared.specs.Stands.{StandsHere}
use Rattle.laws_shared.specs.States.{At, Same, flags_of}
use Rattle.laws_shared.proofs.Giving.{gives_up, kept_one}
use Rattle.laws_shared.proofs.Here.{begins_here, found, uncut}
use Rattle.laws_shared.proofs.MadeNodes.{leaf_held, made_lies}
use Rattle.laws_shared.proofs.Moving.{beside_nodes, same_both, same_itself, same_with, stops_behind}
use Rattle.laws_shared.proofs.Paths.{Path, ◌⟶◌, label_here, last_token, skips, token, walked_to}
use Rattle.laws_shared.proofs.Signs.{none_seen, stands_not, stands_there}
use Rattle.laws_shared.proofs.Told.{told_at, told_same}
use Rattle.laws_shared.proofs.Verdicts.{grown_then, told_wider, verdict_of}
use Rattle.laws_shared.proofs.Verdicts.{after as grown_behind}

-- ---- what was passed

-- the lexeme that was passed is of the kind that stood there
of_kind : {text : List ℕ} {f : Flags} {p q : Parser} (k : Kind) (m : Moved text f p q) → StandsHere p k true → IsTrue (of_kinds (k ∷ []) m.lexeme)
of_kind k m s = and_from (one_of_kinds (k ∷ []) m.lexeme.kind) (not m.lexeme.escaped) (subst (λ (v : Kind). one_of_kinds (k ∷ []) v ≡ true) (sym (sym m.tells.kind ∙ s.0)) (or_left (same_kind k k) false (same_self k))) (ap not (sym m.tells.escaped ∙ s.1))

pub behind_new : {text : List ℕ} {f : Flags} {o p : Parser} {start : ℕ} → At text f o → StandsHere o New true → start ≡ o.token.span.start → Moved text f o p → BehindNew start p
behind_new {text} {f} {o} {p} {start} a s e m = record {
  place = o.prev_token_end;
  reached = subst (λ (t : List ℕ). Reached t o.prev_token_end) (sym m.same.follows.text) a.at.reached;
  word = m.lexeme;
  stood = subst (λ (t : List ℕ). NextLexeme all_faults t o.prev_token_end m.lexeme) (sym m.at.text_is) m.stood;
  is_new = of_kind New m s;
  begins = sym m.tells.start ∙ sym e;
  ends = m.ends;
  between = subst (λ (t : List ℕ). IsCharBoundary t start) (sym m.same.follows.text) (subst (λ (v : ℕ). IsCharBoundary o.text v) (sym e) a.at.lies.starts_whole);
  before = let i = m.further in omega arith;
}

pub behind_dot : {text : List ℕ} {f : Flags} {p q : Parser} {start : ℕ} → BehindNew start p → At text f p → StandsHere p Dot true → Moved text f p q → BehindDot start q
behind_dot {text} {f} {p} {q} b a s m = record {
  new = p;
  behind = b;
  text = m.same.follows.text;
  dot = m.lexeme;
  stood = subst (λ (t : List ℕ). NextLexeme all_faults t p.prev_token_end m.lexeme) (sym m.at.text_is) m.stood;
  is_dot = of_kind Dot m s;
  ends = m.ends;
  before = let i = m.further in let j = a.behind in omega arith;
}

-- ---- what is told has its mark

-- of `new.target` in no function
module _ {text : List ℕ} {f : Flags} {p q r : Parser} {start : ℕ} (b : BehindNew start p) (a : At text f p) (m : Moved text f p q) (n : Moved text f q r) where
  texts : r.text ≡ p.text
  texts = n.same.follows.text ∙ m.same.follows.text

  pub start_before : start ≤ r.prev_token_end
  start_before = let i = b.before in let j = a.behind in let k = m.further in let l = m.at.behind in let o = n.further in omega arith

  pub outside_marked : (s : Span) → s.start ≡ start → s.end ≡ r.prev_token_end → Mark (goal r) r.text (outside_at s)
  outside_marked s h e = record {
    ordered = let i = start_before in omega arith;
    within = let z = n.at.at.between.0 in omega arith;
    begins_between = subst (λ (v : ℕ). IsCharBoundary r.text v) (sym h) (subst (λ (t : List ℕ). IsCharBoundary t start) (sym texts) b.between);
    ends_between = subst (λ (v : ℕ). IsCharBoundary r.text v) (sym e) n.at.at.between;
    stands = (
      (
        the_start (a_lexeme (subst (λ (t : List ℕ). Reached t b.place) (sym texts) b.reached) (subst (λ (t : List ℕ). NextLexeme all_faults t b.place b.word) (sym texts) b.stood)) (b.begins ∙ sym h),
        the_end (a_lexeme (subst (λ (t : List ℕ). Reached t q.prev_token_end) (sym n.same.follows.text) m.at.at.reached) (subst (λ (t : List ℕ). NextLexeme all_faults t q.prev_token_end n.lexeme) (sym n.at.text_is) n.stood)) (n.ends ∙ sym e),
      ),
      (refl, refl),
    );
  }

-- of another word
abbrev words : Look
words k w e = one_of_kinds identifier_name_kinds k

abbrev whole_words : Look
whole_words k w e = not (is_last k) && not (same_kind RAngle k)

words_whole : covers words whole_words ≡ true
unfolding covers
words_whole = refl

abbrev word_look : Look
word_look k w e = is_word k

are_words : covers words word_look ≡ true
unfolding covers
are_words = refl

module _ {text : List ℕ} {f : Flags} {q : Parser} {start : ℕ} (b : BehindDot start q) (a : At text f q) (n : StandsHere q Target false) (w : one_of_kinds identifier_name_kinds q.token.kind ≡ true) where
  whole : (not (is_last q.token.kind) ≡ true) × (not (same_kind RAngle q.token.kind) ≡ true)
  whole = and_parts (not (is_last q.token.kind)) (not (same_kind RAngle q.token.kind)) (covered words whole_words words_whole q.token.kind false false w)

  another : (y : Lexeme) × NextLexeme all_faults text q.prev_token_end y × Tells y q.token
  another = found a (uncut a (not-true (same_kind RAngle q.token.kind) whole.1)) (not-true (is_last q.token.kind) whole.0)

  is_another : IsTrue (another_word another.0)
  is_another = and_from (is_word another.0.kind) (not (of_kinds (Target ∷ []) another.0)) (subst (λ (v : Kind). is_word v ≡ true) another.2.kind (covered words word_look are_words q.token.kind false false w)) (by (same_kind Target another.0.kind) another.0.escaped refl refl)
    where
      by : (k e : Bool) → same_kind Target another.0.kind ≡ k → another.0.escaped ≡ e → not ((k || false) && not e) ≡ true
      by true true i j = refl
      by true false i j = absurd (n (another.2.kind ∙ sym (kind_of_same Target another.0.kind i)) (another.2.escaped ∙ j))
      by false e i j = refl

  pub before_word : start ≤ q.token.span.end
  before_word = let i = b.behind.before in let j = b.before in let k = a.behind in let o = a.at.lies.ordered in omega arith

  pub other_marked : (s : Span) → s.start ≡ start → s.end ≡ q.token.span.end → Mark (goal q) q.text (no_target_at s)
  other_marked s h e = record {
    ordered = let i = before_word in omega arith;
    within = let z = a.at.lies.ends_whole.0 in omega arith;
    begins_between = subst (λ (v : ℕ). IsCharBoundary q.text v) (sym h) (subst (λ (t : List ℕ). IsCharBoundary t start) (sym b.text) b.behind.between);
    ends_between = subst (λ (v : ℕ). IsCharBoundary q.text v) (sym e) a.at.lies.ends_whole;
    stands = (
      record {
        place = b.behind.place;
        word = b.behind.word;
        dot = b.dot;
        other = another.0;
        part = record {
          reached = subst (λ (t : List ℕ). Reached t b.behind.place) (sym b.text) b.behind.reached;
          lexed = (
            subst (λ (t : List ℕ). NextLexeme all_faults t b.behind.place b.behind.word) (sym b.text) b.behind.stood,
            (
              subst (λ (v : ℕ). NextLexeme all_faults q.text v b.dot) (sym b.behind.ends) b.stood,
              subst (λ (v : ℕ). NextLexeme all_faults q.text v another.0) (sym b.ends) (subst (λ (t : List ℕ). NextLexeme all_faults t q.prev_token_end another.0) (sym a.text_is) another.1),
            ),
          );
        };
        is_new = b.behind.is_new;
        is_dot = b.is_dot;
        is_other = is_another;
        begins = b.behind.begins ∙ sym h;
        ends = sym another.2.end ∙ sym e;
      },
      (refl, refl),
    );
  }

pub ends_so : (P : Diagnostic → Type 0) (p q : Parser) (e : Stop) → ((d : Diagnostic) → P d → EndsParse d) → GivesUp P p q e → GivesUp EndsParse p q e
ends_so P p q Fatal h (d, i, k) = (d, h d i, k)
ends_so P p q NoMemory h g = g

-- ---- what is derived

module _ {text : List ℕ} {f : Flags} {o p : Parser} (a : At text f o) (s : StandsHere o New true) (m : Moved text f o p) (d : StandsHere p Dot true) where
  -- what can't begin with the dot
  at_dot : {X : Test} (g : G) → can first X.base g (Dot ∷ []) ≡ false → Fails rule (Lex text) X end g p.prev_token_end
  at_dot {X} g c = fails_here firsts (λ y l h. false≢true (sym c ∙ or_left (some_of (starts first g X.base Dot)) false (subst (λ (v : Kind). some_of (starts first g X.base v) ≡ true) (stands_there m.at d.0 refl y l).0 (some_at (starts first g X.base y.kind) y.newline y.escaped h))))

  no_call : Fails rule (Lex text) (plain full) end (with_arguments f) o.prev_token_end
  unfolding covers
  no_call = (new_skips a s.0 s.1 m).goes ▹✗ at_dot (called_member f) refl

  no_bare : NoOther text f o.prev_token_end
  unfolding covers
  no_bare = new_other a s.0 s.1 m (at_dot (such (at new_symbol f) always) refl)

  -- nothing, where it isn't
  none_there : ((X : Test) → Fails rule (Lex text) X end (new_target f) o.prev_token_end) → NoMember text f o.prev_token_end
  none_there t = (no_member_new f (no_super_at_new a s.0 s.1 m) (no_import_at_new a s.0 s.1 m) (no_primary a s.0 s.1 m) no_call t, no_bare)

  pub target_stops : {q : Parser} (n : Moved text f p q) → StandsHere q Target false → (w : Parser) (e : Stop) → GivesUp EndsParse q w e → Stops o w e (NoMember text f o.prev_token_end)
  target_stops {q} n t w e g = stops_behind w e (same_both m.same n.same) (λ h. grown_then m.kept (grown_then n.kept h)) (λ z. z) (gives_up EndsParse q w e n.at g (λ d i. i) (none_there (λ X. fails_under (fails_node inside_full no_word))))
    where
      no_word : Fails rule (Lex text) (plain full) end target_slots o.prev_token_end
      no_word = skips a New s.0 s.1 refl m ▹✗ (skips m.at Dot d.0 d.1 refl n ▹✗ fails_here firsts (none_seen (stands_not n.at refl t)))

  module _ {q r : Parser} (n : Moved text f p q) (t : StandsHere q Target true) (e : Moved text f q r) where
    target_path : Path text f (plain full) target_slots o nothing r (λ us. us)
    target_path = token New a s.0 s.1 refl m ⟶ (token Dot m.at d.0 d.1 refl n ⟶ last_token Target n.at t.0 t.1 refl e)

    abbrev Verdict_of : Parser → Type 0
    Verdict_of g = Verdict (f.wide ≡ true) o.errors g.errors (MemberSoFar text f o.prev_token_end o.token.span.start (label_here new_target_expression no_op o g) end target_path.pass g.prev_token_end) (NoMember text f o.prev_token_end)

    module _ {z : Span} {g : Parser} (c : ChecksTarget z r g) where
      checked_at : At text f g
      checked_at = go c
        where
          go : ChecksTarget z r g → At text f g
          go (inl (i, k)) = told_at k e.at
          go (inr (i, k)) = subst (λ (v : Parser). At text f v) (sym k) e.at

      checked_same : Same o g
      checked_same = same_both (same_both m.same (same_both n.same e.same)) (go c)
        where
          go : ChecksTarget z r g → Same r g
          go (inl (i, k)) = told_same k refl
          go (inr (i, k)) = subst (λ (v : Parser). Same r v) (sym k) same_itself

      checked_nodes : g.nodes ≡ o.nodes
      checked_nodes = go c ∙ (e.nodes ∙ (n.nodes ∙ m.nodes))
        where
          go : ChecksTarget z r g → g.nodes ≡ r.nodes
          go (inl (i, k)) = ap (λ (v : Parser). v.nodes) k.is
          go (inr (i, k)) = ap (λ (v : Parser). v.nodes) k

      checked_spot : spot g ≡ spot r
      checked_spot = go c
        where
          go : ChecksTarget z r g → spot g ≡ spot r
          go (inl (i, k)) = ap spot k.is
          go (inr (i, k)) = ap spot k

      pub checked_place : g.prev_token_end ≡ r.prev_token_end
      checked_place = go c
        where
          go : ChecksTarget z r g → g.prev_token_end ≡ r.prev_token_end
          go (inl (i, k)) = ap (λ (v : Parser). v.prev_token_end) k.is
          go (inr (i, k)) = ap (λ (v : Parser). v.prev_token_end) k

      checked_verdict : Verdict_of g
      checked_verdict = go c
        where
          allowed : {b : Bool} → (flags_of r).new_target ≡ b → f.new_target ≡ (f.wide || b)
          allowed i = sym (ap (λ (h : Flags). h.new_target) e.at.flags_are) ∙ ap (λ (b : Bool). f.wide || b) i

          read_here : f.new_target ≡ true → Stretch text (plain full) target_slots o.prev_token_end nothing r.prev_token_end (λ us. us) target_path.pass → MemberSoFar text f o.prev_token_end o.token.span.start (label_here new_target_expression no_op o r) end target_path.pass r.prev_token_end
          read_here i y = (member_target f (no_super_at_new a s.0 s.1 m) (no_import_at_new a s.0 s.1 m) i (no_primary a s.0 s.1 m) no_call y (begins_here a), no_bare)

          none_here : Fails rule (Lex text) (plain full) end target_slots o.prev_token_end → NoMember text f o.prev_token_end
          none_here x = none_there (λ X. fails_under (fails_node inside_full x))

          told_here : (k : TellsOne (outside_at z) r g) (w : Bool) → f.wide ≡ w → f.new_target ≡ (w || false) → Verdict_of g
          told_here k false h i = unclean (grown_behind target_path.verdict (kept_one k)) (none_there (λ X. fails_when i))
          told_here k true h i = subst (λ (v : Parser). Verdict_of v) (sym k.is) (told_wider h (subst (λ (v : Parser). Grown r.errors v.errors) k.is (kept_one k)) target_path.verdict (read_here i) none_here)

          go : ChecksTarget z r g → Verdict_of g
          go (inl (i, k)) = told_here k f.wide refl (allowed i)
          go (inr (i, k)) = subst (λ (v : Parser). Verdict_of v) (sym k) (verdict_of target_path.verdict (read_here (allowed i ∙ or_right f.wide true refl)) none_here)

      kept_nodes : Keeps o.nodes g.nodes
      kept_nodes = subst (λ (ns : List Node). Keeps o.nodes ns) (sym checked_nodes) (Keeps-refl o.nodes)

      pub target_taken : {w : Parser} {id : NodeId} → z.start ≡ o.token.span.start → z.end ≡ r.prev_token_end → MadeHere (plain_label node.NewTarget op.None z) [] g w id → MemberOutcome text f o w (Ok id)
      target_taken {w} {id} i j x =
          let l : plain_label node.NewTarget op.None z ≡ label_here new_target_expression no_op o g = rw (i, j ∙ sym checked_place) refl in
          let made : MadeHere (label_here new_target_expression no_op o g) [] g w id = subst (λ (v : Label). MadeHere v [] g w id) l x in
          let before : o.token.span.start < g.prev_token_end = (let u = target_path.further in let v = checked_place in omega arith) in
          subst (λ (v : Parser). MemberOutcome text f o v (Ok id)) (sym made.stays) (record {
            at = beside_nodes w.nodes checked_at;
            same = same_with w.nodes checked_same (Keeps-trans kept_nodes (Keeps-made made.made)) (made_lies checked_same checked_at.at (omega arith) made refl);
            further = before;
            label = label_here new_target_expression no_op o g;
            slots = end;
            row = refl;
            pass = target_path.pass;
            walked = walked_to (sym checked_spot) target_path.walked;
            verdict = checked_verdict;
            holds = leaf_held made kept_nodes;
            keeps = Keeps-trans kept_nodes (Keeps-made made.made);
          })
