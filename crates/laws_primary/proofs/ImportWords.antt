-- What begins with `import` where an operand is due (ECMA-262, 13.3.10 and 13.3.12): where what is told of it stands, and ImportMeta.
use Rattle.std.proofs.Common.{ℕ, ◌≡◌, ◌≤◌, ◌<◌, inl, inr, List, [], Bool, true, false, None, ◌||◌, IsCharBoundary, IsTrue, refl, sym, ap, subst, arith, ◌∙◌}
use Rattle.std.specs.Prelude.{Ok, ◌↔◌}
use Rattle.std.proofs.lemmas.Bool.{or_right}
use Rattle.js_base.specs.Diagnostics.{class_of}
use Rattle.js_base.specs.Kinds.{one_of_kinds}
use Rattle.js_base.specs.KindSets.{binding_identifier_kinds}
use Rattle.js_base.specs.Sources.{is_goal}
use Rattle.js_base.specs.declared.diagnostic.Diagnostic.{Diagnostic}
use Rattle.js_base.specs.declared.diagnostic.DiagnosticKind.{DiagnosticKind}
use Rattle.js_base.specs.declared.kind.Kind.{Kind}
use Rattle.js_base.specs.declared.kind.Kind.TheVariants.{Dot, Import, LParen, Meta, New, Super as super_kind, Undetermined}
use Rattle.js_base.specs.declared.source_type.Goal.TheVariants as source
use Rattle.js_base.specs.declared.source_type.SourceType.{SourceType}
use Rattle.js_base.specs.declared.span.Span.{Span}
use Rattle.js_grammar.specs.Trees.{Label, end, import_meta, no_op}
use Rattle.js_grammar.specs.Grammar.{Lexemes, nothing}
use Rattle.js_grammar.specs.LexicalFaults.{Reached}
use Rattle.js_grammar.specs.Lexed.{NextLexeme, all_faults}
use Rattle.js_grammar.specs.Marks.{EdgeOf, Mark, StandsAt, a_lexeme, the_end, the_start}
use Rattle.js_grammar.specs.Parsing.{Test, Fails, full, plain}
use Rattle.js_grammar.specs.Productions.{Flags, Primary, at}
use Rattle.js_grammar.specs.Settings.{Goal}
use Rattle.js_grammar.specs.Table.{rule}
use Rattle.js_grammar.proofs.Calculus.{◌▹✗◌, fails_node, fails_under, fails_when, inside_full}
use Rattle.js_grammar.proofs.FirstClaims.{firsts}
use Rattle.js_grammar.proofs.FirstRules.{fails_here}
use Rattle.laws_shared.specs.js_lex.States.{goal_of}
use Rattle.laws_shared.specs.js_tree.declared.id.NodeId.{NodeId}
use Rattle.laws_shared.specs.js_tree.declared.kind.NodeKind.TheVariants as node
use Rattle.laws_shared.specs.js_tree.declared.op.Op.TheVariants as op
use Rattle.laws_shared.specs.js_tree.Nodes.{Node}
use Rattle.laws_shared.specs.js_tree.Holding.{Keeps}
use Rattle.laws_shared.proofs.js_tree.HoldingLemmas.{Keeps-made, Keeps-refl, Keeps-trans}
use Rattle.laws_shared.specs.js_cursor.Moves.{GivesUp, IsUnexpected, KeepsDiagnostic, at_lexeme}
use Rattle.laws_shared.specs.js_cursor.Parsers.{Parser}
use Rattle.laws_shared.specs.js_cursor.Places.{IsAt, goal}
use Rattle.laws_shared.specs.js_cursor.Starts.{is_module}
use Rattle.laws_shared.specs.js_cursor.declared.stop.Stop.{Stop}
use Rattle.laws_shared.proofs.js_cursor.Standing.{counts, mark_here}
use Rattle.laws_shared.specs.Answers.{Grown, Stops, Stretch, Underived, Verdict, unclean}
use Rattle.laws_shared.specs.Classes.{EndsParse, ends_parse}
use Rattle.laws_shared.specs.Lexemes.{Lex, Walked, spot}
use Rattle.laws_shared.specs.Moves.{MadeHere, Moved, plain_label}
use Rattle.laws_shared.specs.Stands.{StandsHere}
use Rattle.laws_shared.specs.States.{At, Same}
use Rattle.laws_shared.specs.Told.{unrelated_at}
use Rattle.laws_shared.proofs.Classes.{gives_up_by}
use Rattle.laws_shared.proofs.Edges.{last_edge}
use Rattle.laws_shared.proofs.Giving.{gives_up, gives_up_here, kept_one}
use Rattle.laws_shared.proofs.Here.{begins_here}
use Rattle.laws_shared.proofs.MadeNodes.{leaf_held, made_lies}
use Rattle.laws_shared.proofs.Moving.{beside_nodes, same_both, same_itself, same_with, stops_behind}
use Rattle.laws_shared.proofs.NameKinds.{no_listed_name}
use Rattle.laws_shared.proofs.Paths.{Path, ◌⟶◌, label_here, last_token, skips, token, walked_to}
use Rattle.laws_shared.proofs.Signs.{NoneIs, none_seen, stands_not, stands_there}
use Rattle.laws_shared.proofs.Told.{told_at, told_same}
use Rattle.laws_shared.proofs.Verdicts.{grown_then, told_wider, verdict_of}
use Rattle.laws_shared.proofs.Verdicts.{after as grown_behind}
use Rattle.laws_primary.specs.Members.{MemberOutcome, MemberSoFar, NoBareNew, NoImport, NoMember, NoOther}
use Rattle.laws_primary.specs.Imports.{BehindWord, ChecksMeta, meta_slots, outside_module_at}
use Rattle.laws_primary.proofs.ArgumentLists.{is_one}
use Rattle.laws_primary.proofs.Links.{member_meta, meta_property, no_member_import, no_super_word}
use Rattle.laws_primary.proofs.Members.{no_bare_new}
use Rattle.laws_primary.proofs.Operands.{primary_fails, primary_kinds}

-- ---- where it stands

pub behind_word : {text : List ℕ} {f : Flags} {o p : Parser} {start : ℕ} → At text f o → start ≡ o.token.span.start → Moved text f o p → BehindWord start p
behind_word {text} {f} {o} {p} {start} a e m =
    let r : Reached p.text o.prev_token_end = subst (λ (t : List ℕ). Reached t o.prev_token_end) (sym m.same.follows.text) a.at.reached in
    let n : NextLexeme all_faults p.text o.prev_token_end m.lexeme = subst (λ (t : List ℕ). NextLexeme all_faults t o.prev_token_end m.lexeme) (sym m.at.text_is) m.stood in
    record {
      begins = the_start (a_lexeme r n) (sym m.tells.start ∙ sym e);
      ends = the_end (a_lexeme r n) m.ends;
      between = subst (λ (t : List ℕ). IsCharBoundary t start) (sym m.same.follows.text) (subst (λ (v : ℕ). IsCharBoundary o.text v) (sym e) a.at.lies.starts_whole);
      before = let i = m.further in omega arith;
    }

-- and further on
pub behind_later : {text : List ℕ} {f : Flags} {p q : Parser} {start : ℕ} {pass : Lexemes → Lexemes} → BehindWord start p → At text f p → At text f q → Same p q → Walked text (spot p) (spot q) pass → p.prev_token_end < q.prev_token_end → BehindWord start q
behind_later {text} {f} {p} {q} {start} b a c s w l =
    let r : Reached text p.prev_token_end = subst (λ (t : List ℕ). Reached t p.prev_token_end) a.text_is a.at.reached in
    let e : EdgeOf (goal q) text q.prev_token_end = last_edge w r l in
    record {
      begins = subst (λ (v : SourceType). EdgeOf (goal_of v) q.text start) (sym s.follows.source_type) (subst (λ (t : List ℕ). EdgeOf (goal p) t start) (sym s.follows.text) b.begins);
      ends = subst (λ (t : List ℕ). EdgeOf (goal q) t q.prev_token_end) (sym c.text_is) e;
      between = subst (λ (t : List ℕ). IsCharBoundary t start) (sym s.follows.text) b.between;
      before = let i = b.before in omega arith;
    }

-- a kind whose mark is that its span begins and ends where lexemes do
abbrev pub ByEdges : DiagnosticKind → Type 0
ByEdges k = (g : Goal) (t : List ℕ) (s : Span) → EdgeOf g t s.start × EdgeOf g t s.end → StandsAt k g t s None None

module _ {p : Parser} {start : ℕ} (k : DiagnosticKind) (t : ByEdges k) (b : BehindWord start p) where
  edges_marked : (z : Span) → z.start ≡ start → EdgeOf (goal p) p.text z.end → IsCharBoundary p.text z.end → start ≤ z.end → Mark (goal p) p.text (unrelated_at k z)
  edges_marked z e h c l = record {
    ordered = omega arith;
    within = c.0;
    begins_between = subst (λ (n : ℕ). IsCharBoundary p.text n) (sym e) b.between;
    ends_between = c;
    stands = t (goal p) p.text z (subst (λ (n : ℕ). EdgeOf (goal p) p.text n) (sym e) b.begins, h);
  }

  -- from the word to the end of what was passed
  pub passed_marked : IsAt p → (z : Span) → z.start ≡ start → z.end ≡ p.prev_token_end → Mark (goal p) p.text (unrelated_at k z)
  passed_marked a z e h = edges_marked z e (subst (λ (n : ℕ). EdgeOf (goal p) p.text n) (sym h) b.ends) (subst (λ (n : ℕ). IsCharBoundary p.text n) (sym h) a.between) (let i = b.before in omega arith)

  pub before_here : {text : List ℕ} {f : Flags} → At text f p → start ≤ p.token.span.end
  before_here a = let i = b.before in let j = a.behind in let l = a.at.lies.ordered in omega arith

  -- and to the end of what stands here
  pub here_marked : {text : List ℕ} {f : Flags} → At text f p → (p.token.kind ≡ Undetermined → ⊥) → (z : Span) → z.start ≡ start → z.end ≡ p.token.span.end → Mark (goal p) p.text (unrelated_at k z)
  here_marked a n z e h =
      let l = (counts a.at (at_lexeme n refl)).lexeme in
      edges_marked z e (the_end l.of_text (l.is.1 ∙ sym h)) (subst (λ (v : ℕ). IsCharBoundary p.text v) (sym h) a.at.lies.ends_whole) (let i = before_here a in omega arith)

-- what stands here
pub token_marked : (k : DiagnosticKind) → ByEdges k → {p : Parser} → IsAt p → (p.token.kind ≡ Undetermined → ⊥) → {d : Diagnostic} → d ≡ unrelated_at k p.token.span → Mark (goal p) p.text d
token_marked k t {p} a n e = subst (λ (v : Diagnostic). Mark (goal p) p.text v) (sym e) (mark_here k p.token.span None a (at_lexeme n refl) (λ s l i. t (goal p) p.text s (the_start l.of_text l.is.0, the_end l.of_text l.is.1)))

-- ---- what begins with the word

module _ {text : List ℕ} {f : Flags} {p : Parser} (a : At text f p) (s : StandsHere p Import true) where
  no_primary_here : Underived text (at Primary f) p.prev_token_end
  no_primary_here = primary_fails a (no_listed_name f.yield_ f.await_ p.token.kind (subst (λ (v : Kind). one_of_kinds binding_identifier_kinds v ≡ false) (sym s.0) refl)) (subst (λ (v : Kind). one_of_kinds primary_kinds v ≡ false) (sym s.0) refl)

  no_new_word : StandsHere p New false
  no_new_word e i = let u : Import ≡ New = sym s.0 ∙ e in cc

  no_new_here : NoneIs text p.prev_token_end New
  no_new_here = stands_not a refl no_new_word

  pub no_super_here : NoneIs text p.prev_token_end super_kind
  no_super_here = stands_not a refl (λ e i. let u : Import ≡ super_kind = sym s.0 ∙ e in cc)

  pub no_bare_here : NoBareNew text f p.prev_token_end
  no_bare_here = no_bare_new a no_new_word

  pub none_other_here : NoOther text f p.prev_token_end
  none_other_here = record { bare = no_bare_here; uncalled = no_super_word f no_super_here }

  none_there : ((X : Test) → Fails rule (Lex text) X end (meta_property f) p.prev_token_end) → NoMember text f p.prev_token_end
  none_there t = (no_member_import f no_new_here no_super_here no_primary_here t, none_other_here)

  no_meta_there : Fails rule (Lex text) (plain full) end meta_slots p.prev_token_end → NoMember text f p.prev_token_end
  no_meta_there n = none_there (λ X. fails_under (fails_node inside_full n))

  module _ {q : Parser} (m : Moved text f p q) where
    -- no parenthesis behind it
    pub uncalled_word : StandsHere q LParen false → NoImport text f p.prev_token_end
    uncalled_word t = skips a Import s.0 s.1 refl m ▹✗ fails_here firsts (none_seen (stands_not m.at refl t))

    no_dot : NoneIs text q.prev_token_end Dot → NoMember text f p.prev_token_end
    no_dot n = no_meta_there (skips a Import s.0 s.1 refl m ▹✗ fails_here firsts (none_seen n))

    -- one behind it
    pub called_word : StandsHere q LParen true → NoMember text f p.prev_token_end
    called_word t = no_dot (is_one (stands_there m.at t.0 refl) (λ e. cc))

    pub dot_stops : StandsHere q Dot false → (w : Parser) (e : Stop) → GivesUp (IsUnexpected q) q w e → Stops p w e (NoMember text f p.prev_token_end)
    dot_stops t w e g = stops_behind w e m.same (λ h. grown_then m.kept h) (λ n. n) (gives_up_here q w e m.at g (no_dot (stands_not m.at refl t)))

    module _ {r : Parser} (d : StandsHere q Dot true) (n : Moved text f q r) where
      pub property_stops : StandsHere r Meta false → (w : Parser) (e : Stop) → GivesUp EndsParse r w e → Stops p w e (NoMember text f p.prev_token_end)
      property_stops t w e g = stops_behind w e (same_both m.same n.same) (λ h. grown_then m.kept (grown_then n.kept h)) (λ z. z) (gives_up EndsParse r w e n.at g (λ d i. i) (no_meta_there no_word))
        where
          no_word : Fails rule (Lex text) (plain full) end meta_slots p.prev_token_end
          no_word = skips a Import s.0 s.1 refl m ▹✗ (skips m.at Dot d.0 d.1 refl n ▹✗ fails_here firsts (none_seen (stands_not n.at refl t)))

      module _ {v : Parser} (t : StandsHere r Meta true) (e : Moved text f r v) where
        meta_path : Path text f (plain full) meta_slots p nothing v (λ us. us)
        meta_path = token Import a s.0 s.1 refl m ⟶ (token Dot m.at d.0 d.1 refl n ⟶ last_token Meta n.at t.0 t.1 refl e)

        abbrev Verdict_of : Parser → Type 0
        Verdict_of g = Verdict (f.wide ≡ true) p.errors g.errors (MemberSoFar text f p.prev_token_end p.token.span.start (label_here import_meta no_op p g) end meta_path.pass g.prev_token_end) (NoMember text f p.prev_token_end)

        module _ {z : Span} {g : Parser} (c : ChecksMeta z v g) where
          checked_at : At text f g
          checked_at = go c
            where
              go : ChecksMeta z v g → At text f g
              go (inl (i, k)) = told_at k e.at
              go (inr (i, k)) = subst (λ (u : Parser). At text f u) (sym k) e.at

          checked_same : Same p g
          checked_same = same_both (same_both m.same (same_both n.same e.same)) (go c)
            where
              go : ChecksMeta z v g → Same v g
              go (inl (i, k)) = told_same k refl
              go (inr (i, k)) = subst (λ (u : Parser). Same v u) (sym k) same_itself

          -- besides what was told nothing changed
          checked : {A : Type 0} (of : Parser → A) → ((ds : List Diagnostic) → of (record v { errors = ds }) ≡ of v) → of g ≡ of v
          checked of h = go c
            where
              go : ChecksMeta z v g → of g ≡ of v
              go (inl (i, k)) = ap of k.is ∙ h _
              go (inr (i, k)) = ap of k

          checked_nodes : g.nodes ≡ p.nodes
          checked_nodes = checked (λ (u : Parser). u.nodes) (λ ds. refl) ∙ (e.nodes ∙ (n.nodes ∙ m.nodes))

          pub meta_place : g.prev_token_end ≡ v.prev_token_end
          meta_place = checked (λ (u : Parser). u.prev_token_end) (λ ds. refl)

          checked_verdict : Verdict_of g
          checked_verdict = go c
            where
              allowed : {b : Bool} → is_module v.source_type ≡ b → f.module_goal ≡ (f.wide || b)
              allowed i = sym (ap (λ (h : Flags). h.module_goal) e.at.flags_are) ∙ ap (λ (b : Bool). f.wide || b) i

              read_here : f.module_goal ≡ true → Stretch text (plain full) meta_slots p.prev_token_end nothing v.prev_token_end (λ us. us) meta_path.pass → MemberSoFar text f p.prev_token_end p.token.span.start (label_here import_meta no_op p v) end meta_path.pass v.prev_token_end
              read_here i y = (member_meta f no_new_here no_super_here i no_primary_here y (begins_here a), none_other_here)

              told_here : (k : KeepsDiagnostic (outside_module_at z) v g) (w : Bool) → f.wide ≡ w → f.module_goal ≡ (w || false) → Verdict_of g
              told_here k false h i = unclean (grown_behind meta_path.verdict (kept_one k)) (none_there (λ X. fails_when i))
              told_here k true h i = subst (λ (u : Parser). Verdict_of u) (sym k.is) (told_wider h (subst (λ (u : Parser). Grown v.errors u.errors) k.is (kept_one k)) meta_path.verdict (read_here i) no_meta_there)

              go : ChecksMeta z v g → Verdict_of g
              go (inl (i, k)) = told_here k f.wide refl (allowed i)
              go (inr (i, k)) = subst (λ (u : Parser). Verdict_of u) (sym k) (verdict_of meta_path.verdict (read_here (allowed i ∙ or_right f.wide true refl)) no_meta_there)

          kept_nodes : Keeps p.nodes g.nodes
          kept_nodes = subst (λ (ns : List Node). Keeps p.nodes ns) (sym checked_nodes) (Keeps-refl p.nodes)

          pub meta_taken : {w : Parser} {id : NodeId} → z.start ≡ p.token.span.start → z.end ≡ v.prev_token_end → MadeHere (plain_label node.ImportMeta op.None z) [] g w id → MemberOutcome text f p w (Ok id)
          meta_taken {w} {id} i j x =
              let l : plain_label node.ImportMeta op.None z ≡ label_here import_meta no_op p g = rw (i, j ∙ sym meta_place) refl in
              let made : MadeHere (label_here import_meta no_op p g) [] g w id = subst (λ (u : Label). MadeHere u [] g w id) l x in
              let before : p.token.span.start < g.prev_token_end = (let u = meta_path.further in let k = meta_place in omega arith) in
              subst (λ (u : Parser). MemberOutcome text f p u (Ok id)) (sym made.stays) (record {
                at = beside_nodes w.nodes checked_at;
                same = same_with w.nodes checked_same (Keeps-trans kept_nodes (Keeps-made made.made)) (made_lies checked_same checked_at.at (omega arith) made refl);
                further = before;
                label = label_here import_meta no_op p g;
                slots = end;
                row = refl;
                pass = meta_path.pass;
                walked = walked_to (sym (checked spot (λ ds. refl))) meta_path.walked;
                verdict = checked_verdict;
                holds = leaf_held made kept_nodes;
                keeps = Keeps-trans kept_nodes (Keeps-made made.made);
              })

-- whether a text is a module, as the code asks it
pub module_so : (s : SourceType) (b : Bool) → IsTrue b ↔ (is_goal s ≡ source.Module) → is_module s ≡ b
module_so s b h = go s.goal b h
  where
    go : (k : source.the_data) (b : Bool) → IsTrue b ↔ (k ≡ source.Module) → elim k as (λ _. Bool) [ source.Module ↦ true | _ ↦ false ] ≡ b
    go source.Module b h = sym (h.1 refl)
    go source.Script true h = absurd (let z = h.0 refl in cc)
    go source.Script false h = refl
    go source.CommonJs true h = absurd (let z = h.0 refl in cc)
    go source.CommonJs false h = refl
    go source.Unambiguous true h = absurd (let z = h.0 refl in cc)
    go source.Unambiguous false h = refl

pub meta_checked : (z : Span) (p q : Parser) (b : Bool) → IsTrue b ↔ (is_goal p.source_type ≡ source.Module) → (b ≡ false → KeepsDiagnostic (outside_module_at z) p q) → (b ≡ true → q ≡ p) → ChecksMeta z p q
meta_checked z p q true h k e = inr (module_so p.source_type true h, e refl)
meta_checked z p q false h k e = inl (module_so p.source_type false h, k refl)

-- what is told of another form ends the parse
pub told_ends : (k : DiagnosticKind) (z : Span) (p q : Parser) (e : Stop) → ends_parse (class_of k) ≡ true → {d : Diagnostic} → d ≡ unrelated_at k z → GivesUp (λ x. x ≡ d) p q e → GivesUp EndsParse p q e
told_ends k z p q e h {d} i g = gives_up_by p q e g (λ x j. ap (λ (v : Diagnostic). ends_parse (class_of v.kind)) (j ∙ i) ∙ h)
