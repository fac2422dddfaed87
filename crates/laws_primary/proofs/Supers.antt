-- SuperProperty and SuperCall (ECMA-262, 13.3): what begins with `super`, and what is told of this word where it stands alone or behind `new`.
use Rattle.std.proofs.Common.{ℕ, ◌≡◌, ◌≤◌, ◌<◌, inl, inr, List, [], length, Bool, true, false, not, None, ◌&&◌, IsCharBoundary, refl, sym, ap, subst, arith, ◌∙◌}
use Rattle.std.specs.Prelude.{Result, Ok, Err}
use Rattle.std.proofs.lemmas.Bool.{false≢true, and_from, and_parts}
use Rattle.js_base.specs.Kinds.{same_kind, one_of_kinds}
use Rattle.js_base.specs.KindSets.{binding_identifier_kinds}
use Rattle.js_base.specs.declared.diagnostic.Diagnostic.{Diagnostic}
use Rattle.js_base.specs.declared.diagnostic.DiagnosticKind.{DiagnosticKind}
use Rattle.js_base.specs.declared.diagnostic.DiagnosticKind.TheVariants as fault
use Rattle.js_base.specs.declared.kind.Kind.{Kind}
use Rattle.js_base.specs.declared.kind.Kind.TheVariants.{Dot, Import, LBrack, LParen, New, Super as super_kind, RAngle}
use Rattle.js_base.specs.declared.source_type.SourceType.{SourceType}
use Rattle.js_base.specs.declared.span.Span.{Span}
use Rattle.js_grammar.specs.Trees.{Label, Slots, end, tree, no_op, super_expression}
use Rattle.js_grammar.specs.Grammar.{Lexemes, next, nothing}
use Rattle.js_grammar.specs.LexicalFaults.{Reached}
use Rattle.js_grammar.specs.Lexed.{NextLexeme, all_faults}
use Rattle.js_grammar.specs.Settings.{Goal}
use Rattle.js_grammar.specs.Marks.{EdgeOf, Mark, StandsAt, a_lexeme, the_end, the_start}
use Rattle.js_grammar.specs.Parsing.{plain, full}
use Rattle.js_grammar.specs.Productions.{Flags, at, Primary}
use Rattle.js_grammar.specs.Table.{rule, rule_of}
use Rattle.js_grammar.proofs.Calculus.{by_rule, inside_full}
use Rattle.js_grammar.proofs.FirstClaims.{firsts}
use Rattle.js_grammar.proofs.FirstRules.{fails_here}
use Rattle.js_grammar.proofs.Loops.{unfollowed}
use Rattle.laws_shared.specs.js_lex.States.{goal_of}
use Rattle.laws_shared.specs.js_tree.declared.id.NodeId.{NodeId}
use Rattle.laws_shared.specs.js_tree.declared.kind.NodeKind.TheVariants as node
use Rattle.laws_shared.specs.js_tree.declared.op.Op.TheVariants as op
use Rattle.laws_shared.specs.js_tree.Labels.{kind_of}
use Rattle.laws_shared.specs.js_tree.Nodes.{Node, node_at}
use Rattle.laws_shared.specs.js_tree.Holding.{Holds, Keeps, Stands, stands}
use Rattle.laws_shared.proofs.js_tree.HoldingLemmas.{HoldsAll-one, Keeps-made, Keeps-refl, Keeps-trans}
use Rattle.laws_shared.specs.js_cursor.Moves.{Enters, KeepsDiagnostic, Leaves, is_last}
use Rattle.laws_shared.specs.js_cursor.Parsers.{Parser}
use Rattle.laws_shared.specs.js_cursor.Places.{goal}
use Rattle.laws_shared.specs.js_cursor.declared.stop.Stop.{Stop}
use Rattle.laws_primary.specs.Members.{access_kinds, HeadOutcome, LinkForm, LinkHere, LinkOutcome, Linked, MemberSoFar, NoBareNew, NoLink, NoMember, NoOther, NoSuperCall, OnlyLink, SuperWord, Taken, WithArguments, a_link, a_super, admits, by_call, by_index, by_name, by_private, chained, is_super_word, link_label, no_link, node_of}
use Rattle.laws_primary.specs.Supers.{ChecksCallee, ChecksMember, ChecksSuper, PropertyOutcome, PropertyTaken, SuperTaken, alone_at, callee_from, is_private_member, is_private_node, private_from}
use Rattle.laws_primary.specs.declared.forms.LinkBase.TheVariants as base
use Rattle.laws_primary.proofs.Links.{member_super, no_member_super, other_link}
use Rattle.laws_primary.proofs.Members.{Membered, NoneOf, NotSuper, UnlessSuper, at_callee, begun_at, callee_taken, lexeme_there, link_taken, member_form, new_with_arguments, no_bare_new, none_behind_new, none_of_links, not_sign, retake}
use Rattle.laws_primary.proofs.Operands.{primary_fails, primary_kinds}
use Rattle.laws_shared.specs.Answers.{Stops, Stretch, Underived, Verdict, clean, unclean}
use Rattle.laws_shared.specs.Classes.{IsEarly}
use Rattle.laws_shared.specs.Lexemes.{Walked, spot}
use Rattle.laws_shared.specs.Moves.{MadeHere, Moved, plain_label}
use Rattle.laws_shared.specs.Stands.{StandsHere}
use Rattle.laws_shared.specs.States.{At, Same}
use Rattle.laws_shared.proofs.Edges.{last_edge}
use Rattle.laws_shared.proofs.Giving.{kept_one}
use Rattle.laws_shared.proofs.Here.{begins_here, found, uncut}
use Rattle.laws_shared.proofs.MadeNodes.{leaf_held, made_lies, node_held}
use Rattle.laws_shared.proofs.Moving.{beside_nodes, same_both, same_with, stops_behind}
use Rattle.laws_shared.proofs.NameKinds.{no_listed_name}
use Rattle.laws_shared.proofs.Paths.{label_here, noding, passes, walked_one, walked_to}
use Rattle.laws_shared.proofs.Signs.{none_seen, NoneIs, stands_not, stands_there}
use Rattle.laws_shared.specs.Told.{unrelated_at}
use Rattle.laws_shared.proofs.Told.{told_at, told_same}
use Rattle.laws_shared.proofs.Verdicts.{either_way, grown_then, verdict_of}
use Rattle.laws_shared.proofs.Verdicts.{after as grown_behind}

-- ---- what begins with the word

module _ {text : List ℕ} {f : Flags} {p : Parser} (a : At text f p) (s : StandsHere p super_kind true) where
  no_primary_here : Underived text (at Primary f) p.prev_token_end
  no_primary_here = primary_fails a (no_listed_name f.yield_ f.await_ p.token.kind (subst (λ (v : Kind). one_of_kinds binding_identifier_kinds v ≡ false) (sym s.0) refl)) (subst (λ (v : Kind). one_of_kinds primary_kinds v ≡ false) (sym s.0) refl)

  another_word : StandsHere p New false
  another_word e i = let u : super_kind ≡ New = sym s.0 ∙ e in cc

  no_new_here : NoneIs text p.prev_token_end New
  no_new_here = stands_not a refl another_word

  no_import_word : NoneIs text p.prev_token_end Import
  no_import_word = stands_not a refl (λ e i. let u : super_kind ≡ Import = sym s.0 ∙ e in cc)

  no_bare_here : NoBareNew text f p.prev_token_end
  no_bare_here = no_bare_new a another_word

-- no arguments stand behind it
uncalled : {text : List ℕ} {f : Flags} {s s' : ℕ} {l : Label} {cs : Slots} {pass : Lexemes → Lexemes} → SuperWord text f s l cs pass s' → NoneIs text s' LParen → NoSuperCall text f s
uncalled x n = unfollowed x.word.goes (record { admits = λ ts vs k ls rest d e. (refl, refl) }) (λ us y i e. none_seen n y i e.0)

-- neither a name nor an expression in brackets does
no_name_part : {text : List ℕ} (f : Flags) {s : ℕ} → NoneIs text s Dot → NoLink text f s by_name false
no_name_part f n = fails_here firsts (none_seen n)

no_index_part : {text : List ℕ} (f : Flags) {s : ℕ} → NoneIs text s LBrack → NoLink text f s by_index false
no_index_part f n = fails_here firsts (none_seen n)

module _ {text : List ℕ} {f : Flags} {p q : Parser} (a : At text f p) (s : StandsHere p super_kind true) (m : Moved text f p q) where
  the_word : SuperWord text f p.prev_token_end (label_here super_expression no_op p q) end (λ ls. next m.lexeme ls) q.prev_token_end
  unfolding rule rule_of
  the_word =
      let y = noding {X = plain full} {X' = plain full} q a inside_full (record { reach = 0; near = omega arith; goes = passes a super_kind s.0 s.1 refl m }) in
      record { word = record { reach = y.reach; near = y.near; goes = by_rule {X' = plain full} (λ l cs vs y e. e) y.goes refl }; kind = refl }

  -- none of the three stands behind it
  none_behind : LinkHere q base.Call false → NoMember text f p.prev_token_end
  none_behind (no_link g) = (
    no_member_super f (no_new_here a s) (no_import_word a s) (no_primary_here a s) the_word (no_name_part f (stands_not m.at refl (g by_name false refl))) (no_index_part f (stands_not m.at refl (g by_index false refl))),
    record { bare = no_bare_here a s; uncalled = uncalled the_word (stands_not m.at refl (g by_call false refl)) },
  )

  -- what is told of it has its mark
  pub alone_marked : {z : Span} → z ≡ p.token.span → Mark (goal q) q.text (alone_at z)
  alone_marked {z} e = subst (λ (t : List ℕ). Mark (goal q) t (alone_at z)) (sym m.same.follows.text) (subst (λ (v : SourceType). Mark (goal_of v) p.text (alone_at z)) (sym m.same.follows.source_type) (subst (λ (v : Span). Mark (goal p) p.text (alone_at v)) (sym e) it))
    where
      it : Mark (goal p) p.text (alone_at p.token.span)
      it =
          let y = found a (uncut a (ap (same_kind RAngle) s.0)) (ap is_last s.0) in
          let o = a_lexeme a.at.reached (subst (λ (t : List ℕ). NextLexeme all_faults t p.prev_token_end y.0) (sym a.text_is) y.1) in
          record {
            ordered = a.at.lies.ordered;
            within = a.at.lies.ends_whole.0;
            begins_between = a.at.lies.starts_whole;
            ends_between = a.at.lies.ends_whole;
            stands = ((the_start o (sym y.2.start), the_end o (sym y.2.end)), (refl, refl));
          }

  -- its node
  leaf_taken : {g w : Parser} {id : NodeId} → At text f g → Same p g → g.nodes ≡ p.nodes → spot g ≡ spot q → g.prev_token_end ≡ q.prev_token_end → Verdict (f.wide ≡ true) p.errors g.errors (SuperWord text f p.prev_token_end (label_here super_expression no_op p g) end (λ ls. next m.lexeme ls) g.prev_token_end × LinkHere g base.Call true) (NoMember text f p.prev_token_end)
      → MadeHere (plain_label node.Super op.None p.token.span) [] g w id → SuperTaken text f p w id
  leaf_taken {g} {w} {id} b c n o e v x =
      let l : plain_label node.Super op.None p.token.span ≡ label_here super_expression no_op p g = ap (λ (v : ℕ). record { kind = super_expression; op = no_op; flags = 0; span = record { from = p.token.span.start; to = v } }) (m.tells.end ∙ (m.ends ∙ sym e)) in
      let made : MadeHere (label_here super_expression no_op p g) [] g w id = subst (λ (v : Label). MadeHere v [] g w id) l x in
      let before : p.token.span.start < g.prev_token_end = (let u = m.further in omega arith) in
      let k : Keeps p.nodes g.nodes = subst (λ (ns : List Node). Keeps p.nodes ns) (sym n) (Keeps-refl p.nodes) in
      subst (λ (v : Parser). SuperTaken text f p v id) (sym made.stays) (record {
        at = beside_nodes w.nodes b;
        same = same_with w.nodes c (Keeps-trans k (Keeps-made made.made)) (made_lies c b.at (omega arith) made refl);
        further = before;
        label = label_here super_expression no_op p g;
        slots = end;
        row = refl;
        pass = λ ls. next m.lexeme ls;
        walked = walked_to (sym o) (walked_one m);
        verdict = verdict_of v (λ z. (z.0, beside z.1)) (λ z. z);
        holds = leaf_held made k;
        keeps = Keeps-trans k (Keeps-made made.made);
      })
    where
      beside : {b : Bool} → LinkHere g base.Call b → LinkHere (record g { nodes = w.nodes }) base.Call b
      beside (a_link c o s e) = a_link c o s e
      beside (no_link n) = no_link n

  pub super_taken : {z : Span} {g w : Parser} {id : NodeId} → z ≡ p.token.span → ChecksSuper z q g → MadeHere (plain_label node.Super op.None z) [] g w id → SuperTaken text f p w id
  super_taken {z} {g} {w} {id} e c x = go c (subst (λ (v : Span). MadeHere (plain_label node.Super op.None v) [] g w id) e x)
    where
      go : ChecksSuper z q g → MadeHere (plain_label node.Super op.None p.token.span) [] g w id → SuperTaken text f p w id
      go (inl (n, k)) y = leaf_taken (told_at k m.at) (same_both m.same (told_same k refl)) (ap (λ (v : Parser). v.nodes) k.is ∙ m.nodes) (ap spot k.is) (ap (λ (v : Parser). v.prev_token_end) k.is) (unclean (grown_then m.kept (kept_one k)) (none_behind n)) y
      go (inr (n, i)) y = leaf_taken m.at m.same m.nodes refl refl (clean m.kept (the_word, n)) (subst (λ (v : Parser). MadeHere (plain_label node.Super op.None p.token.span) [] v w id) i y)

-- a node tells its tree's root
pub root_is : {ns : List Node} {lo hi : ℕ} {id : NodeId} {l : Label} {cs : Slots} → Holds ns lo hi id.0 l cs → kind_of (node_at ns id).kind ≡ l.kind
root_is h = go h.stands
  where
    go : {ns : List Node} {id : NodeId} {l : Label} {cs : Slots} {rs : List ℕ} → Stands ns id.0 l cs rs → kind_of (node_at ns id).kind ≡ l.kind
    go (stands i o u) = refl

-- ---- what stands behind it

neither : {p : Parser} → LinkHere p base.Call true → LinkHere p base.Member false → StandsHere p LParen false → ⊥
neither (a_link by_name false s e) (no_link g) n = g by_name false refl s.0 s.1
neither (a_link by_private false s e) (no_link g) n = g by_private false refl s.0 s.1
neither (a_link by_index false s e) (no_link g) n = g by_index false refl s.0 s.1
neither (a_link by_call false s e) g n = n s.0 s.1
neither (a_link c true s e) g n = absurd (false≢true e)

module _ {text : List ℕ} {f : Flags} {o p : Parser} {word : NodeId} (a : At text f o) (s : StandsHere o super_kind true) (x : SuperTaken text f o p word) where
  pub super_before : o.token.span.start ≤ p.prev_token_end
  super_before = let i = x.further in omega arith

  -- arguments
  pub super_headed : StandsHere p LParen true → HeadOutcome text f o p (Ok word)
  super_headed u =
      let z = stands_there x.at u.0 refl in (
        retake x (λ l cs pass c. a_super (no_member_super f (no_new_here a s) (no_import_word a s) (no_primary_here a s) c.0 (not_sign f by_name false LParen (λ e. cc) z) (not_sign f by_index false LParen (λ e. cc) z)) (no_bare_here a s) c.0 (lexeme_there x.at u refl refl refl)) (λ n. n),
        λ y l. ap (one_of_kinds access_kinds) (z y l).0,
      )

  -- something was told of it
  pub super_alone : LinkHere p base.Member false → StandsHere p LParen false → PropertyTaken text f o p word
  super_alone g n = (retake x (λ l cs pass c. absurd (neither c.1 g n)) (λ z. z), λ e. either_way x.verdict (λ c. absurd (neither c.1 g n)) (λ z. z))

  module _ (k : LinkHere p base.Member true) (u : StandsHere p LParen false) where
    beside_member : {l : Label} {cs : Slots} {pass : Lexemes → Lexemes} → SuperWord text f o.prev_token_end l cs pass p.prev_token_end → NoOther text f o.prev_token_end
    beside_member w = record { bare = no_bare_here a s; uncalled = uncalled w (stands_not x.at refl u) }

    no_property : {l : Label} {cs : Slots} {pass : Lexemes → Lexemes} → SuperWord text f o.prev_token_end l cs pass p.prev_token_end → ((c : LinkForm) (d : Bool) → NoLink text f p.prev_token_end c d) → NoMember text f o.prev_token_end
    no_property w n = (no_member_super f (no_new_here a s) (no_import_word a s) (no_primary_here a s) w (n by_name false) (n by_index false), beside_member w)

    property_good : (c : LinkForm) (d : Bool) → (admits base.Member c false ≡ true) × (d ≡ false) → OnlyLink text f p.prev_token_end c d → {l : Label} {cs : Slots} {pass more : Lexemes → Lexemes} {h : Slots → Slots} {s'' : ℕ} → SuperWord text f o.prev_token_end l cs pass p.prev_token_end → p.prev_token_end ≤ s'' → Stretch text (plain full) (chained f c d).part p.prev_token_end nothing s'' h more → is_private_member (node_of c) ≡ false → MemberSoFar text f o.prev_token_end o.token.span.start (link_label c d o.token.span.start s'') (tree l cs (h end)) (λ ls. pass (more ls)) s''
    property_good c false e z w i y n = (member_super f (no_new_here a s) (no_import_word a s) (no_primary_here a s) w c (and_from _ _ e.0 (ap not n)) z i (begins_here a) y, beside_member w)
    property_good c true e z w i y n = absurd (false≢true (sym e.1))

    -- a private name stands there
    no_private_property : (c : LinkForm) (d : Bool) → (admits base.Member c false ≡ true) × (d ≡ false) → OnlyLink text f p.prev_token_end c d → is_private_member (node_of c) ≡ true → {l : Label} {cs : Slots} {pass : Lexemes → Lexemes} → SuperWord text f o.prev_token_end l cs pass p.prev_token_end → NoMember text f o.prev_token_end
    no_private_property by_private false e z n w = (no_member_super f (no_new_here a s) (no_import_word a s) (no_primary_here a s) w (other_link f false by_name by_private (λ i. cc) z) (other_link f false by_index by_private (λ i. cc) z), beside_member w)
    no_private_property by_name d e z n w = absurd (false≢true n)
    no_private_property by_call d e z n w = absurd (false≢true n)
    no_private_property by_index d e z n w = absurd (false≢true n)
    no_private_property c true e z n w = absurd (false≢true (sym e.1))

    property_taken : {w : Parser} {id : NodeId} {start : ℕ} → start ≡ o.token.span.start → Linked text f start word p w id → PropertyTaken text f o w id
    property_taken {w} {id} e y =
        let form = member_form y.form y.optional k y.sign in
        let root : kind_of (node_at w.nodes id).kind ≡ node_of y.form = root_is (node_held y.made (y.part.holds (length o.nodes) (tree x.label x.slots end) (HoldsAll-one word x.holds))) in (
          link_taken x e y (λ pass c i z n. property_good y.form y.optional form y.only c.0 i z (ap is_private_member (sym root) ∙ n)) (λ c n. no_property c.0 (none_of_links y.form y.optional y.only n)),
          λ n. either_way x.verdict (λ c. no_private_property y.form y.optional form y.only (ap is_private_member (sym root) ∙ n) c.0) (λ z. z),
        )

    pub property_stops : (w : Parser) (e : Stop) → Stops p w e ((c : LinkForm) (d : Bool) → NoLink text f p.prev_token_end c d) → Stops o w e (NoMember text f o.prev_token_end)
    property_stops w e z = stops_behind w e x.same (λ g. grown_behind x.verdict g) (λ n. either_way x.verdict (λ c. no_property c.0 n) (λ n. n)) z

    pub property_outcome : {start : ℕ} → start ≡ o.token.span.start → (w : Parser) (r : Result NodeId Stop) → LinkOutcome text f start word p w r → PropertyOutcome text f o w r
    property_outcome e w (Ok id) y = property_taken e y
    property_outcome e w (Err i) y = property_stops w i y

-- ---- behind `new`

pub told_taken : {text : List ℕ} {f : Flags} {C D : Label → Slots → (Lexemes → Lexemes) → ℕ → Type 0} {A B : Type 0} {o p q : Parser} {id : NodeId} {d : Diagnostic} → Taken text f o p id C A → KeepsDiagnostic d p q → IsEarly d → B → Taken text f o q id D B
told_taken {o = o} {id = id} x k e b = record {
  at = told_at k x.at;
  same = same_both x.same (told_same k e);
  further = subst (λ (n : ℕ). o.token.span.start < n) (sym (ap (λ (z : Parser). z.prev_token_end) k.is)) x.further;
  label = x.label;
  slots = x.slots;
  row = x.row;
  pass = x.pass;
  walked = walked_to (sym (ap spot k.is)) x.walked;
  verdict = unclean (grown_behind x.verdict (kept_one k)) b;
  holds = subst (λ (ns : List Node). Holds ns (length o.nodes) (length ns) id.0 x.label x.slots) (sym (ap (λ (z : Parser). z.nodes) k.is)) x.holds;
  keeps = subst (λ (ns : List Node). Keeps o.nodes ns) (sym (ap (λ (z : Parser). z.nodes) k.is)) x.keeps;
}

module _ {text : List ℕ} {f : Flags} {o p q : Parser} {id : NodeId} {word : Bool} {start : ℕ} (c : ChecksCallee word start p q) (n : word ≡ true → NoMember text f o.prev_token_end) where
  pub checked_member : {U : Type 0} → Taken text f o p id (λ l cs pass s'. U → MemberSoFar text f o.prev_token_end o.token.span.start l cs pass s') (NoMember text f o.prev_token_end) → (word ≡ false → U) → Membered text f o q id
  checked_member {U} x u = go c
    where
      go : ChecksCallee word start p q → Membered text f o q id
      go (inl (i, k)) = told_taken x k refl (n i)
      go (inr (i, e)) = subst (λ (z : Parser). Membered text f o z id) (sym e) (retake x (λ l cs pass y. y (u i)) (λ z. z))

  pub checked_head : HeadOutcome text f o p (Ok id) → HeadOutcome text f o q (Ok id)
  checked_head x = go c
    where
      go : ChecksCallee word start p q → HeadOutcome text f o q (Ok id)
      go (inl (i, k)) = (told_taken x.0 k refl (n i), subst (λ (v : ℕ). NoneOf text v access_kinds) (sym (ap (λ (z : Parser). z.prev_token_end) k.is)) x.1)
      go (inr (i, e)) = subst (λ (z : Parser). HeadOutcome text f o z (Ok id)) (sym e) x

-- a private name behind the word was told, or none stood there
pub checked_property : {text : List ℕ} {f : Flags} {o p q : Parser} {id : NodeId} {start : ℕ} → ChecksMember (is_private_node p id) start p q → PropertyTaken text f o p id → Membered text f o q id
checked_property {text} {f} {o} {p} {q} {id} {start} c x = go c
  where
    go : ChecksMember (is_private_node p id) start p q → Membered text f o q id
    go (inl (i, k)) = told_taken x.0 k refl (x.1 i)
    go (inr (i, e)) = subst (λ (z : Parser). Membered text f o z id) (sym e) (retake x.0 (λ l cs pass y. y i) (λ z. z))

pub node_there : {ns : List Node} {lo hi : ℕ} {id : NodeId} {l : Label} {cs : Slots} → Holds ns lo hi id.0 l cs → id.0 < length ns
node_there h = go h.stands
  where
    go : {ns : List Node} {id : NodeId} {l : Label} {cs : Slots} {rs : List ℕ} → Stands ns id.0 l cs rs → id.0 < length ns
    go (stands i o u) = o

-- what is told of `super` and what stands behind it has its mark
word_marked : {text : List ℕ} {f : Flags} {p v : Parser} {start : ℕ} (k : DiagnosticKind) → ((g : Goal) (t : List ℕ) (s : Span) → EdgeOf g t s.start × EdgeOf g t s.end → StandsAt k g t s None None) → At text f p → StandsHere p super_kind true → At text f v → EdgeOf (goal v) text v.prev_token_end → start ≡ p.token.span.start → p.token.span.start < v.prev_token_end → Mark (goal v) v.text (unrelated_at k (record { start = start; end = v.prev_token_end }))
word_marked {text} {f} {p} {v} {start} k t a s b e i l =
    let y = found a (uncut a (ap (same_kind RAngle) s.0)) (ap is_last s.0) in
    let r : Reached text p.prev_token_end = subst (λ (t : List ℕ). Reached t p.prev_token_end) a.text_is a.at.reached in
    let h : EdgeOf (goal v) text start = the_start (a_lexeme r y.1) (sym y.2.start ∙ sym i) in
    record {
      ordered = omega arith;
      within = b.at.between.0;
      begins_between = subst (λ (t : List ℕ). IsCharBoundary t start) (a.text_is ∙ sym b.text_is) (subst (λ (n : ℕ). IsCharBoundary p.text n) (sym i) a.at.lies.starts_whole);
      ends_between = b.at.between;
      stands = t (goal v) v.text (record { start = start; end = v.prev_token_end }) (subst (λ (t : List ℕ). EdgeOf (goal v) t start) (sym b.text_is) h, subst (λ (t : List ℕ). EdgeOf (goal v) t v.prev_token_end) (sym b.text_is) e);
    }

-- of a private name
pub private_marked : {text : List ℕ} {f : Flags} {o q : Parser} {id : NodeId} {start : ℕ} → At text f o → StandsHere o super_kind true → start ≡ o.token.span.start → PropertyTaken text f o q id → Mark (goal q) q.text (private_from start q.prev_token_end)
private_marked {text} {o = o} {q} a s e x =
    let r : Reached text o.prev_token_end = subst (λ (t : List ℕ). Reached t o.prev_token_end) a.text_is a.at.reached in
    word_marked fault.SuperPrivate (λ g t s z. (z, (refl, refl))) a s x.0.at (last_edge x.0.walked r (let d = x.0.further in let b = a.behind in omega arith)) e x.0.further

-- behind it the callee was read
module _ {text : List ℕ} {f : Flags} {p q : Parser} (a : At text f p) (s : StandsHere p New true) (m : Moved text f p q) (t : StandsHere q Dot false) {levels : ℕ} {e r w : Parser} {callee : NodeId} (h : Enters levels q e) (l : Leaves levels r w) (x : HeadOutcome text f e r (Ok callee)) where
  pub callee_node : callee.0 < length w.nodes
  callee_node = node_there (callee_taken a s.0 s.1 m t h l x).holds

  root : kind_of (node_at w.nodes callee).kind ≡ (callee_taken a s.0 s.1 m t h l x).label.kind
  root = root_is (callee_taken a s.0 s.1 m t h l x).holds

  module _ (begins : Bool) {word : Bool} (b : StandsHere q super_kind begins) (i : word ≡ (begins && is_super_word (kind_of (node_at w.nodes callee).kind))) where
    both : word ≡ true → (begins ≡ true) × (is_super_word (kind_of (node_at w.nodes callee).kind) ≡ true)
    both j = and_parts begins _ (sym i ∙ j)

    none_then : word ≡ true → NoMember text f p.prev_token_end
    none_then j = none_behind_new a s.0 s.1 m t h l x (ap is_super_word (sym root) ∙ (both j).1)

    otherwise : word ≡ false → NotSuper a s.0 s.1 m t h l x
    otherwise j = go begins b (sym i ∙ j)
      where
        go : (g : Bool) → StandsHere q super_kind g → (g && is_super_word (kind_of (node_at w.nodes callee).kind)) ≡ false → NotSuper a s.0 s.1 m t h l x
        go true u k = inl (ap is_super_word (sym root) ∙ k)
        go false u k = inr (stands_not m.at refl u)

    edge_marked : {v : Parser} {pass : Lexemes → Lexemes} {start : ℕ} → At text f v → Walked text (spot p) (spot v) pass → start ≡ q.token.span.start → q.token.span.start < v.prev_token_end → word ≡ true → Mark (goal v) v.text (callee_from start v.prev_token_end)
    edge_marked {v} c k o u j =
        let r : Reached text p.prev_token_end = subst (λ (t : List ℕ). Reached t p.prev_token_end) a.text_is a.at.reached in
        word_marked fault.NewSuper (λ g t s z. (z, (refl, refl))) m.at (subst (λ (g : Bool). StandsHere q super_kind g) (both j).0 b) c (last_edge k r (let d = m.further in let g = a.behind in let n = m.at.behind in omega arith)) o u

    -- arguments were read
    module _ (u : StandsHere w LParen true) {start : ℕ} {v : Parser} {id : NodeId} (o : start ≡ p.token.span.start) (y : WithArguments node.NewExpression false start callee w v id) where
      unless : UnlessSuper a s.0 s.1 m t h l x v id
      unless = new_with_arguments a s.0 s.1 m t h l x u (begun_at o y)

      pub arguments_at : At text f v
      arguments_at = unless.at

      pub arguments_before : q.token.span.start < v.prev_token_end
      arguments_before =
          let c = at_callee a s.0 s.1 m t h l x in
          let g = (callee_taken a s.0 s.1 m t h l x).further in let j = (y.arguments text f c).further in let d = c.behind in let k = ap (λ (z : Parser). z.prev_token_end) y.made.stays in omega arith

      pub arguments_marked : {from : ℕ} → from ≡ q.token.span.start → word ≡ true → Mark (goal v) v.text (callee_from from v.prev_token_end)
      arguments_marked n j = edge_marked unless.at unless.walked n arguments_before j

      pub arguments_checked : {from : ℕ} {g : Parser} → ChecksCallee word from v g → Membered text f p g id
      arguments_checked c = checked_member c none_then unless otherwise

    -- none stand there
    module _ {v : Parser} {id : NodeId} (y : HeadOutcome text f p v (Ok id)) (n : v.prev_token_end ≡ w.prev_token_end) where
      pub bare_before : q.token.span.start < v.prev_token_end
      bare_before = let g = (callee_taken a s.0 s.1 m t h l x).further in omega arith

      pub bare_marked : {from : ℕ} → from ≡ q.token.span.start → word ≡ true → Mark (goal v) v.text (callee_from from v.prev_token_end)
      bare_marked o j = edge_marked y.0.at y.0.walked o bare_before j

      pub bare_checked : {from : ℕ} {g : Parser} → ChecksCallee word from v g → HeadOutcome text f p g (Ok id)
      bare_checked c = checked_head c none_then y
