-- Names of properties (ECMA-262, 13.2.5): a word, a string, a number, or an expression in brackets.
use Rattle.std.proofs.Common.{ℕ, ◌≡◌, List, [], ◌∷◌, length, Option, Bool, true, false, ◌||◌, refl, sym, ap, subst, arith, ◌∙◌}
use Rattle.std.specs.Prelude.{Result, Ok, Err, MatchResult}
use Rattle.js_base.specs.declared.kind.Kind.{Kind}
use Rattle.js_base.specs.declared.kind.Kind.TheVariants.{LBrack, RBrack, Str, Decimal, Float, Binary, Octal, Hex, PositiveExponential, NegativeExponential, DecimalBigInt, BinaryBigInt, OctalBigInt, HexBigInt, RAngle}
use Rattle.js_base.specs.declared.diagnostic.DiagnosticKind.TheVariants.{ExpectClosing}
use Rattle.js_base.specs.declared.span.Span.{Span}
use Rattle.js_base.specs.Kinds.{same_kind, one_of_kinds}
use Rattle.js_base.specs.KindSets.{number_kinds}
use Rattle.js_base.specs.Texts.{words}
use Rattle.js_base.proofs.KindLemmas.{kind_of_same}
use Rattle.js_grammar.specs.Trees.{Label, end, tree, no_op, string_literal}
use Rattle.js_grammar.specs.Grammar.{never, nothing, ◌▸◌, ◌◇◌}
use Rattle.js_grammar.specs.Parsing.{plain, full, Fails}
use Rattle.js_grammar.specs.Productions.{G, Flags, at, tok, plus_in, Assignment, IdentifierName}
use Rattle.js_grammar.specs.Productions.{sym as symbol}
use Rattle.js_grammar.specs.Table.{rule, name, string, number}
use Rattle.js_grammar.proofs.Looks.{covers, apart}
use Rattle.js_grammar.proofs.Calculus.{◌▹✗◌, left, fails_alt, fails_never, part_fails, weaken_fails_on}
use Rattle.js_grammar.proofs.FirstClaims.{firsts}
use Rattle.js_grammar.proofs.FirstRules.{by_first, fails_here}
use Rattle.js_grammar.proofs.FollowLaws.{surely}
use Rattle.laws_shared.specs.js_tree.declared.id.NodeId.{NodeId}
use Rattle.laws_shared.specs.js_tree.declared.kind.NodeKind.{NodeKind as NodeKindMade}
use Rattle.laws_shared.specs.js_tree.declared.kind.NodeKind.TheVariants as node
use Rattle.laws_shared.specs.js_tree.declared.op.Op.{Op as OpMade}
use Rattle.laws_shared.specs.js_tree.declared.op.Op.TheVariants as op_made
use Rattle.laws_shared.specs.js_tree.Labels.{kind_of, op_of}
use Rattle.laws_shared.specs.js_tree.Nodes.{Node}
use Rattle.laws_shared.specs.js_tree.Holding.{Holds, Keeps}
use Rattle.laws_shared.proofs.js_tree.HoldingLemmas.{Keeps-refl, Keeps-trans, Keeps-made}
use Rattle.laws_shared.specs.js_cursor.Parsers.{Parser}
use Rattle.laws_shared.specs.js_cursor.Moves.{GivesUp, IsHere, MovesOn, OnlyMemory}
use Rattle.laws_shared.specs.js_cursor.declared.stop.Stop.{Stop}
use Rattle.laws_shared.specs.js_cursor.declared.stop.Stop.TheVariants.{Fatal, NoMemory}
use Rattle.laws_primary.specs.Numbers.{node_of_number, op_of_number}
use Rattle.laws_primary.specs.PropertyNames.{NoName, NoNames, NameRead, NameOutcome}
use Rattle.laws_primary.proofs.Operands.{exponential_test, of_number, one_path, plain_leaf, number_passable}
use Rattle.laws_shared.specs.Answers.{Underived, Numbered, Outcome, Stops}
use Rattle.laws_shared.specs.Lexemes.{Lex, signs}
use Rattle.laws_shared.specs.Moves.{IsWholeHere, LeafTaken, Moved, TakesLeaf, plain_label, unpassable}
use Rattle.laws_shared.specs.Stands.{StandsHere}
use Rattle.laws_shared.specs.States.{At, Same, NodesLie}
use Rattle.laws_shared.proofs.Classes.{here_ends}
use Rattle.laws_shared.proofs.Giving.{gives_up}
use Rattle.laws_shared.proofs.Here.{uncut}
use Rattle.laws_shared.proofs.MadeNodes.{leaf_held, one_lies, from_start}
use Rattle.laws_shared.proofs.Moving.{beside_nodes, moves, same_both, same_with, stops_behind, stops_so}
use Rattle.laws_shared.proofs.Paths.{Path, ◌⟼◌, ◌⟶◌, ◌⟶✗◌, at_kind, called, fails_at, label_here, last_called, last_token, noded, token}
use Rattle.laws_shared.proofs.Signs.{none_seen, other_kind, plain_among, plain_sign, stands_not}
use Rattle.laws_shared.proofs.Verdicts.{grown_then}
use Rattle.laws_shared.proofs.Verdicts.{after as grown_behind}
use Rattle.laws_shared.proofs.PlainSigns.{bracket_plain, closing_bracket_plain}

-- a name that is no word, and stands in no brackets
abbrev literals : G
literals = string ◇ number ◇ never

-- a number has no escape
pub number_plain : {text : List ℕ} {f : Flags} {p : Parser} → At text f p → one_of_kinds number_kinds p.token.kind ≡ true → p.token.escaped ≡ false
unfolding covers words
number_plain a h = plain_among number_kinds a refl h

pub string_plain : {text : List ℕ} {f : Flags} {p : Parser} → At text f p → p.token.kind ≡ Str → p.token.escaped ≡ false
unfolding words
string_plain a k = plain_sign Str a k refl refl refl

abbrev pub literal_kinds : List Kind
literal_kinds = Str ∷ number_kinds

module _ {text : List ℕ} {f : Flags} {p : Parser} (a : At text f p) where
  no_literal : one_of_kinds literal_kinds p.token.kind ≡ false → Fails rule (Lex text) (plain full) end literals p.prev_token_end
  unfolding covers apart
  no_literal n = fails_at a literals literal_kinds refl n

  -- no opening bracket stands here
  pub no_computed : StandsHere p LBrack false → NoName text true f p.prev_token_end
  no_computed s = fails_here firsts (none_seen (stands_not a refl s))

  -- one does
  pub no_plain : p.token.kind ≡ LBrack → NoName text false f p.prev_token_end
  unfolding covers
  no_plain k = at_kind a LBrack k refl ▹✗ fails_never

  no_names_plainly : StandsHere p LBrack false → NoName text false f p.prev_token_end → NoNames text f p.prev_token_end
  no_names_plainly s n true = no_computed s
  no_names_plainly s n false = n

  -- ---- a word

  module _ (s : StandsHere p LBrack false) (n : one_of_kinds literal_kinds p.token.kind ≡ false) where
    pub word_named : {q : Parser} {id : NodeId} → Numbered text f (at IdentifierName f) p q id → NameRead text f false p q id
    word_named {q} {id} x = record { at = x.answer.at; same = x.answer.same; further = x.answer.further; label = x.answer.label; slots = x.answer.slots; pass = y.pass; walked = y.walked; verdict = y.verdict; other = no_computed s; holds = x.holds; keeps = x.keeps }
      where
        y : Path text f (plain full) (name false false f) p nothing q (tree x.answer.label x.answer.slots)
        y = left (no_literal n) ⟼ last_called x.answer (record { admits = λ ts vs k ls rest d e. (refl, refl) })

    pub word_outcome : (q : Parser) (r : Result NodeId Stop) → Outcome text f (at IdentifierName f) p q r → NameOutcome text f false p q r
    word_outcome q (Ok id) x = word_named x
    word_outcome q (Err e) x = stops_so p q e (λ m. no_names_plainly s (fails_alt (weaken_fails_on m (record { admits = λ ts vs k ls rest d e. (refl, refl) })) (no_literal n))) x

  -- ---- a literal

  leaf_named : {q : Parser} {nk : NodeKindMade} {no : OpMade} {id : NodeId} → StandsHere p LBrack false → (t : LeafTaken nk no text f p q id) → Path text f (plain full) (name false false f) p nothing t.mid (tree (label_here (kind_of nk) (op_of no) p t.mid) end) → NameRead text f false p q id
  leaf_named {q} {nk} {no} {id} s t y = go q.nodes t.made.stays (leaf_held t.made ks) (Keeps-trans ks (Keeps-made t.made.made)) lies
    where
      l : Label
      l = plain_label nk no p.token.span

      l_is : l ≡ label_here (kind_of nk) (op_of no) p t.mid
      l_is = ap (λ (v : ℕ). record { kind = kind_of nk; op = op_of no; flags = 0; span = record { from = p.token.span.start; to = v } }) (t.moved.tells.end ∙ t.moved.ends)

      ks : Keeps p.nodes t.mid.nodes
      ks = subst (λ (ns : List Node). Keeps p.nodes ns) (sym t.moved.nodes) (Keeps-refl p.nodes)

      z : Path text f (plain full) (name false false f) p nothing t.mid (tree l end)
      z = subst (λ (v : Label). Path text f (plain full) (name false false f) p nothing t.mid (tree v end)) (sym l_is) y

      lies : Same p t.mid → NodesLie t.mid.text t.mid.nodes → NodesLie t.mid.text q.nodes
      lies m h = one_lies t.made (from_start l t.moved.same z.at.at (let g = t.moved.further in omega arith) (ap (λ (v : Label). v.span) l_is) a.at.lies.starts_whole) h

      go : (ns : List Node) → q ≡ record t.mid { nodes = ns } → Holds q.nodes (length p.nodes) (length q.nodes) id.0 l end → Keeps p.nodes q.nodes → (Same p t.mid → NodesLie t.mid.text t.mid.nodes → NodesLie t.mid.text q.nodes) → NameRead text f false p q id
      go ns e h k m = subst (λ (r : Parser). NameRead text f false p r id) (sym e) (record {
        at = beside_nodes ns z.at;
        same = same_with ns t.moved.same (subst (λ (r : Parser). Keeps p.nodes r.nodes) e k) (λ b i. subst (λ (r : Parser). NodesLie t.mid.text r.nodes) e (m t.moved.same i));
        further = z.further;
        label = l;
        slots = end;
        pass = z.pass;
        walked = z.walked;
        verdict = z.verdict;
        other = no_computed s;
        holds = subst (λ (r : Parser). Holds r.nodes (length p.nodes) (length r.nodes) id.0 l end) e h;
        keeps = subst (λ (r : Parser). Keeps p.nodes r.nodes) e k;
      })

  string_path : {q : Parser} → p.token.kind ≡ Str → p.token.escaped ≡ false → Moved text f p q → Path text f (plain full) (name false false f) p nothing q (tree (label_here string_literal no_op p q) end)
  unfolding covers
  string_path k e m = at_kind a Str k refl ⟼ noded a (last_token Str a k e refl m)

abbrev NumberPath : Kind → Type 0
NumberPath k = (text : List ℕ) (f : Flags) (p q : Parser) → At text f p → p.token.kind ≡ k → p.token.escaped ≡ false → Moved text f p q → Path text f (plain full) (name false false f) p nothing q (tree (label_here (kind_of (node_of_number k)) (op_of (op_of_number k)) p q) end)

pub string_outcome : (text : List ℕ) (f : Flags) (p q : Parser) (r : Result NodeId Stop) → At text f p → StandsHere p LBrack false → p.token.kind ≡ Str → p.token.escaped ≡ false → MatchResult r (λ id. TakesLeaf node.StringLiteral op_made.None p q id) OnlyMemory → NameOutcome text f false p q r
string_outcome text f p q (Ok id) a s k e m = let t = m text f a in leaf_named a s t (string_path a k e t.moved)
string_outcome text f p q (Err Fatal) a s k e m = absurd m
string_outcome text f p q (Err NoMemory) a s k e m = tt

number_path : (k : Kind) → one_of_kinds number_kinds k ≡ true → NumberPath k
unfolding covers
number_path k h = of_number NumberPath k h
    (λ text f p q a e n s. at_kind a Decimal e refl ⟼ noded a (last_token Decimal a e n refl s))
    (λ text f p q a e n s. at_kind a Float e refl ⟼ noded a (last_token Float a e n refl s))
    (λ text f p q a e n s. at_kind a Binary e refl ⟼ noded a (last_token Binary a e n refl s))
    (λ text f p q a e n s. at_kind a Octal e refl ⟼ noded a (last_token Octal a e n refl s))
    (λ text f p q a e n s. at_kind a Hex e refl ⟼ noded a (last_token Hex a e n refl s))
    (λ text f p q a e n s. at_kind a PositiveExponential e refl ⟼ noded a (one_path exponential_test a (ap (one_of_kinds signs) e) s (plain_leaf PositiveExponential e n refl s) (rw (sym s.tells.kind ∙ e, sym s.tells.escaped ∙ n) refl)))
    (λ text f p q a e n s. at_kind a NegativeExponential e refl ⟼ noded a (one_path exponential_test a (ap (one_of_kinds signs) e) s (plain_leaf NegativeExponential e n refl s) (rw (sym s.tells.kind ∙ e, sym s.tells.escaped ∙ n) refl)))
    (λ text f p q a e n s. at_kind a DecimalBigInt e refl ⟼ noded a (last_token DecimalBigInt a e n refl s))
    (λ text f p q a e n s. at_kind a BinaryBigInt e refl ⟼ noded a (last_token BinaryBigInt a e n refl s))
    (λ text f p q a e n s. at_kind a OctalBigInt e refl ⟼ noded a (last_token OctalBigInt a e n refl s))
    (λ text f p q a e n s. at_kind a HexBigInt e refl ⟼ noded a (last_token HexBigInt a e n refl s))

pub number_outcome : (text : List ℕ) (f : Flags) (p q : Parser) (nk : NodeKindMade) (o : OpMade) (k : Kind) (r : Result NodeId Stop) → At text f p → StandsHere p LBrack false → k ≡ p.token.kind → one_of_kinds number_kinds k ≡ true → nk ≡ node_of_number k → o ≡ op_of_number k → p.token.escaped ≡ false → MatchResult r (λ id. TakesLeaf nk o p q id) OnlyMemory → NameOutcome text f false p q r
number_outcome text f p q nk o k (Ok id) a s i h u v e m =
    let t = m text f a in
    leaf_named a s t (subst (λ (x : NodeKindMade). Path text f (plain full) (name false false f) p nothing t.mid (tree (label_here (kind_of x) (op_of o) p t.mid) end)) (sym u)
    (subst (λ (x : OpMade). Path text f (plain full) (name false false f) p nothing t.mid (tree (label_here (kind_of (node_of_number k)) (op_of x) p t.mid) end)) (sym v) (number_path k h text f p t.mid a (sym i) e t.moved)))
number_outcome text f p q nk o k (Err Fatal) a s i h u v e m = absurd m
number_outcome text f p q nk o k (Err NoMemory) a s i h u v e m = tt

-- ---- an expression in brackets

module _ {text : List ℕ} {f : Flags} {p q : Parser} (a : At text f p) (k : p.token.kind ≡ LBrack) (m : Moved text f p q) where
  opened : Path text f (plain full) (name true false f) p (symbol Assignment (plus_in f) ▸ tok RBrack) q (λ us. us)
  opened = token LBrack a k (plain_sign LBrack a k refl refl bracket_plain) refl m

  no_names : NoName text true f p.prev_token_end → NoNames text f p.prev_token_end
  no_names n true = n
  no_names n false = no_plain a k

  no_key : Underived text (at Assignment (plus_in f)) q.prev_token_end → NoNames text f p.prev_token_end
  unfolding covers
  no_key n = no_names (opened ⟶✗ part_fails n (by_first firsts (surely (at Assignment (plus_in f))) refl))

  pub key_stops : (w : Parser) (e : Stop) → Stops q w e (Underived text (at Assignment (plus_in f)) q.prev_token_end) → Stops p w e (NoNames text f p.prev_token_end)
  key_stops w e z = stops_behind w e m.same (λ g. grown_then m.kept g) no_key z

  module _ {r : Parser} {id : NodeId} (x : Numbered text f (at Assignment (plus_in f)) q r id) where
    keyed : Path text f (plain full) (name true false f) p (tok RBrack) r (tree x.answer.label x.answer.slots)
    unfolding covers
    keyed = opened ⟶ called x.answer refl

    same : Same p r
    same = same_both m.same x.answer.same

    pub close_stops : (opening : Option Span) (w : Parser) (e : Stop) → (e ≡ Fatal → r.token.kind ≡ RBrack → ⊥) × GivesUp (IsHere ExpectClosing r opening) r w e → Stops p w e (NoNames text f p.prev_token_end)
    unfolding covers apart
    close_stops opening w Fatal h = stops_behind w Fatal same (λ g. grown_then m.kept (grown_behind x.answer.verdict g)) (λ n. n) (gives_up (IsHere ExpectClosing r opening) r w Fatal x.answer.at h.1 (here_ends ExpectClosing refl) (no_names (keyed ⟶✗ fails_at x.answer.at (tok RBrack) (RBrack ∷ []) refl (other_kind RBrack r.token.kind (h.0 refl)))))
    close_stops opening w NoMemory h = tt

    pub computed_named : {w : Parser} → (r.token.kind ≡ RBrack) × MovesOn r w → NameRead text f true p w id
    computed_named {w} z = record { at = n.at; same = same_both same n.same; further = y.further; label = x.answer.label; slots = x.answer.slots; pass = y.pass; walked = y.walked; verdict = y.verdict; other = no_plain a k; holds = subst (λ (ns : List Node). Holds ns (length p.nodes) (length ns) id.0 x.answer.label x.answer.slots) (sym n.nodes) held; keeps = subst (λ (ns : List Node). Keeps p.nodes ns) (sym n.nodes) kept }
      where
        n : Moved text f r w
        n = moves (uncut x.answer.at (ap (same_kind RAngle) z.0), ap unpassable z.0) z.1 x.answer.at

        y : Path text f (plain full) (name true false f) p nothing w (tree x.answer.label x.answer.slots)
        y = keyed ⟶ last_token RBrack x.answer.at z.0 (plain_sign RBrack x.answer.at z.0 refl refl closing_bracket_plain) refl n

        held : Holds r.nodes (length p.nodes) (length r.nodes) id.0 x.answer.label x.answer.slots
        held = subst (λ (ns : List Node). Holds r.nodes (length ns) (length r.nodes) id.0 x.answer.label x.answer.slots) m.nodes x.holds

        kept : Keeps p.nodes r.nodes
        kept = subst (λ (ns : List Node). Keeps ns r.nodes) m.nodes x.keeps

-- a number is told whole
pub number_whole : {text : List ℕ} {f : Flags} {p : Parser} → At text f p → one_of_kinds number_kinds p.token.kind ≡ true → IsWholeHere p
number_whole {p = p} a h = let z = number_passable p.token.kind h in (uncut a z.0, z.1)

pub none_literal : {k : Kind} → (k ≡ Str → ⊥) → one_of_kinds number_kinds k ≡ false → one_of_kinds literal_kinds k ≡ false
none_literal {k} n h = go (same_kind Str k) refl
  where
    go : (b : Bool) → same_kind Str k ≡ b → (b || one_of_kinds number_kinds k) ≡ false
    go true e = absurd (n (sym (kind_of_same Str k e)))
    go false e = h
