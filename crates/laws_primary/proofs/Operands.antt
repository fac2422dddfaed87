-- Names, literals, and what a unary operator stands before.
use Rattle.std.proofs.Common.{ℕ, ◌≡◌, List, [], ◌∷◌, length, Bool, true, false, not, ◌&&◌, ◌||◌, IsTrue, Some, refl, sym, ap, subst, arith, ◌∙◌}
use Rattle.std.specs.Prelude.{Result, Ok, Err, MatchResult, Option, is_some, if◌then◌else◌}
use Rattle.std.proofs.lemmas.Bool.{false≢true, not-true}
use Rattle.js_base.specs.declared.kind.Kind.{Kind}
use Rattle.js_base.specs.declared.kind.Kind.TheVariants.{At as at_sign, This, Null, True, False, Decimal, Float, Binary, Octal, Hex, PositiveExponential, NegativeExponential, DecimalBigInt, BinaryBigInt, OctalBigInt, HexBigInt, Str, RegExp, Slash, SlashEq, NoSubstitutionTemplate, TemplateHead, LParen, LBrack, LCurly, Percent, Class, Minus, Plus, Bang, Tilde, Typeof, Void, Delete, Function, RAngle}
use Rattle.js_base.specs.declared.operator.UnaryOperator.{UnaryOperator}
use Rattle.js_base.specs.Kinds.{same_kind, one_of_kinds}
use Rattle.js_base.specs.KindSets.{number_kinds, binding_identifier_kinds}
use Rattle.js_base.proofs.KindLemmas.{kind_of_same}
use Rattle.js_base.specs.Operators.{row_of as row_in, unary_operators}
use Rattle.js_grammar.specs.Trees.{Slots, end, tree, Label, Op, NodeKind, no_op, of, identifier_reference, this_expression, null_literal, boolean_literal, string_literal, unary_expression}
use Rattle.js_grammar.specs.Grammar.{Lexeme, Lexemes, Look, here, seen, lexeme, such, nothing, exact, is_seq, is_lexeme, is_such, Takes, ◌▸◌}
use Rattle.js_grammar.specs.Parsing.{Test, plain, always, full, Admits}
use Rattle.js_grammar.specs.Productions.{Flags, Symbol, at, tok, Unary, Primary}
use Rattle.js_grammar.specs.Productions.{sym as symbol}
use Rattle.js_grammar.specs.Table.{rule, rule_of}
use Rattle.js_grammar.specs.Follow.{edge_of, row_of, follow, follow_of, after, widest, first_edge}
use Rattle.js_grammar.specs.Insertion.{after_expression}
use Rattle.js_grammar.specs.RightEdges.{same_row, may_end}
use Rattle.js_grammar.proofs.Looks.{covers, covered, apart}
use Rattle.js_grammar.proofs.Calculus.{Inside, on_itself, ◌▹✗◌, fails_node, left}
use Rattle.js_grammar.proofs.FollowLaws.{fails_by}
use Rattle.js_grammar.proofs.Lexemes.{first_or}
use Rattle.laws_shared.specs.js_tree.declared.id.NodeId.{NodeId}
use Rattle.laws_shared.specs.js_tree.declared.kind.NodeKind.TheVariants as node
use Rattle.laws_shared.specs.js_tree.declared.op.Op.TheVariants as op
use Rattle.laws_shared.specs.js_tree.Labels.{unary_kind, kind_of, op_of}
use Rattle.laws_shared.specs.js_tree.declared.kind.NodeKind.{NodeKind as NodeKindMade}
use Rattle.laws_shared.specs.js_tree.declared.op.Op.{Op as OpMade}
use Rattle.laws_shared.proofs.js_tree.HoldingLemmas.{Keeps-refl, Keeps-trans, Keeps-made}
use Rattle.laws_shared.specs.js_tree.Nodes.{Node}
use Rattle.laws_shared.specs.js_tree.Holding.{Holds, Keeps}
use Rattle.js_base.specs.declared.span.Span.{Span}
use Rattle.laws_shared.specs.js_cursor.Parsers.{Parser}
use Rattle.laws_shared.specs.js_cursor.Moves.{OnlyMemory}
use Rattle.laws_shared.specs.js_cursor.declared.stop.Stop.{Stop}
use Rattle.laws_shared.specs.js_cursor.declared.stop.Stop.TheVariants.{Fatal, NoMemory}
use Rattle.laws_shared.specs.Lexemes.{Plain, escaped_word, is_read, may_name, signs, is_read_kind}
use Rattle.laws_shared.specs.States.{At, Same, NodesLie}
use Rattle.laws_shared.specs.Moves.{Moved, MadeHere, LeafTaken, TakesLeaf, plain_label, unpassable}
use Rattle.laws_shared.specs.Answers.{Underived, Answer, Numbered, Outcome, beside}
use Rattle.laws_primary.specs.Functions.{NoFunctionHere}
use Rattle.laws_primary.specs.Numbers.{node_of_number, op_of_number}
use Rattle.laws_primary.proofs.AsyncWords.{no_expression}
use Rattle.laws_shared.specs.Operators.{unary_kinds}
use Rattle.laws_shared.proofs.Moving.{same_both, same_with, beside_nodes}
use Rattle.laws_shared.proofs.Dead.{live, lives}
use Rattle.laws_shared.proofs.NameKinds.{at_name, listed_name, name_apart, name_passes, name_read, name_test}
use Rattle.laws_shared.proofs.NamedFirsts.{fails_unnamed, fails_escaped}
use Rattle.laws_shared.proofs.MadeNodes.{leaf_held, one_held, LabelLies, from_start, one_lies}
use Rattle.laws_shared.proofs.Tight.{plain_reads}
use Rattle.laws_shared.proofs.Escapes.{read_as}
use Rattle.laws_shared.proofs.Paths.{Path, ◌⟼◌, ◌⟶◌, ◌⟶✗◌, at_kind, token, last_token, last_called, passes_test, noded, noded_by, by_symbol_as, label_here, read_of, walked_one}
use Rattle.laws_shared.specs.Answers.{clean}

-- a claim on each unary operator
pub of_unary : (P : Kind → Type 0) (k : Kind) → one_of_kinds unary_kinds k ≡ true → P Minus → P Plus → P Bang → P Tilde → P Typeof → P Void → P Delete → P k
of_unary P k h a b c d e f g = first_or P Minus k _ _ refl h a (λ h. first_or P Plus k _ _ refl h b (λ h. first_or P Bang k _ _ refl h c (λ h. first_or P Tilde k _ _ refl h d (λ h. first_or P Typeof k _ _ refl h e (λ h. first_or P Void k _ _ refl h f (λ h. first_or P Delete k _ _ refl h g (λ h. absurd (false≢true h))))))))

abbrev names : Kind → UnaryOperator → Type 0
names k o = row_in unary_operators k ≡ Some o → unary_kind o ≡ k

-- and it may be passed
pub unary_passable : (k : Kind) → one_of_kinds unary_kinds k ≡ true → (same_kind RAngle k ≡ false) × (unpassable k ≡ false)
unary_passable k h = of_unary (λ k. (same_kind RAngle k ≡ false) × (unpassable k ≡ false)) k h (refl, refl) (refl, refl) (refl, refl) (refl, refl) (refl, refl) (refl, refl) (refl, refl)

pub unary_named : (k : Kind) (o : UnaryOperator) → one_of_kinds unary_kinds k ≡ true → row_in unary_operators k ≡ Some o → unary_kind o ≡ k
unary_named k o h = of_unary (λ k. names k o) k h (λ e. cc) (λ e. cc) (λ e. cc) (λ e. cc) (λ e. cc) (λ e. cc) (λ e. cc)

-- behind a unary operation there stands what stands behind its operand
unary_edge : (f : Flags) (k o : Kind) (s : ℕ) → Inside rule (record { kind = unary_expression; op = of o; flags = 0; extent = exact }) (after (at Unary f)) (after (at Unary f)) end (tok k ▸ symbol Unary f) s
unary_edge f k o s = record { ends = λ p cs vs j ls mid d e. go cs d e }
  where
    go : (cs : Slots) {i j : ℕ} {ls mid : Lexemes} → Takes rule (tok k ▸ symbol Unary f) end cs i ls end j mid → IsTrue (seen (widest Unary) (here mid)) × IsTrue (seen (follow (at Unary f) (first_edge (tree (record { kind = unary_expression; op = of o; flags = 0; span = record { from = 0; to = 0 } }) cs end))) (here mid)) → Admits (after (at Unary f)) cs (here mid)
    go cs (is_seq (is_lexeme p) (is_such d c)) e = e

-- an answer by the path of its symbol
pub by_such : {text : List ℕ} {f : Flags} {n : Symbol} {p q w : Parser} {l : Label} {cs : Slots} {id : NodeId} → Path text f (after n) (such n always) p nothing q (tree l cs) → Same p q → w ≡ record q { nodes = w.nodes } → ((y : Lexeme) → Plain text q.prev_token_end y → IsTrue (seen (follow n (edge_of l cs)) y || seen beside y)) → may_end n.name (row_of l cs) ≡ true
    → Holds w.nodes (length p.nodes) (length w.nodes) id.0 l cs → Keeps p.nodes w.nodes → (l.span ≡ record { from = p.token.span.start; to = q.prev_token_end }) → (LabelLies q.text l → NodesLie q.text q.nodes → NodesLie q.text w.nodes) → Numbered text f n p w id
by_such {text} {f} {n} {p} {q} {w} {l} {cs} {id} y b e s r h k i m = go w.nodes e h k m
  where
    go : (ns : List Node) → w ≡ record q { nodes = ns } → Holds w.nodes (length p.nodes) (length w.nodes) id.0 l cs → Keeps p.nodes w.nodes → (LabelLies q.text l → NodesLie q.text q.nodes → NodesLie q.text w.nodes) → Numbered text f n p w id
    go ns e h k m = subst (λ (r : Parser). Numbered text f n p r id) (sym e) (record {
      answer = record { at = beside_nodes ns y.at; same = same_with ns b (subst (λ (r : Parser). Keeps p.nodes r.nodes) e k) (λ c z. subst (λ (r : Parser). NodesLie q.text r.nodes) e (m (from_start l b y.at.at (let g = y.further in omega arith) i c) z)); further = y.further; label = l; slots = cs; stops = s; row = r; pass = y.pass; walked = y.walked; verdict = y.verdict };
      holds = subst (λ (r : Parser). Holds r.nodes (length p.nodes) (length r.nodes) id.0 l cs) e h;
      keeps = subst (λ (r : Parser). Keeps p.nodes r.nodes) e k;
    })

-- and by that of its rule
pub by_path : {text : List ℕ} {f : Flags} {n : Symbol} {p q w : Parser} {l : Label} {cs : Slots} {id : NodeId} → Path text f (after n) (rule n) p nothing q (tree l cs) → Same p q → w ≡ record q { nodes = w.nodes } → ((y : Lexeme) → Plain text q.prev_token_end y → IsTrue (seen (follow n (edge_of l cs)) y || seen beside y)) → may_end n.name (row_of l cs) ≡ true
    → Holds w.nodes (length p.nodes) (length w.nodes) id.0 l cs → Keeps p.nodes w.nodes → (l.span ≡ record { from = p.token.span.start; to = q.prev_token_end }) → (LabelLies q.text l → NodesLie q.text q.nodes → NodesLie q.text w.nodes) → Numbered text f n p w id
by_path {n = n} a b e s r h k i m = by_such (by_symbol_as {X' = after n} (λ l cs vs y d. d) a) b e s r h k i m

abbrev Unarily : List ℕ → Flags → Kind → Type 0
Unarily text f k = (p q r : Parser) → At text f p → p.token.kind ≡ k → p.token.escaped ≡ false → Moved text f p q → (x : Answer text f (at Unary f) q r) → Path text f (after (at Unary f)) (rule (at Unary f)) p nothing r (tree (label_here unary_expression (of k) p r) (tree x.label x.slots end))

pub unary_path : (text : List ℕ) (f : Flags) (k : Kind) → one_of_kinds unary_kinds k ≡ true → Unarily text f k
unfolding rule rule_of covers
unary_path text f k h = of_unary (Unarily text f) k h
    (λ p q r a e n s x. at_kind a Minus e refl ⟼ noded_by a (unary_edge f Minus Minus p.prev_token_end) (token Minus a e n refl s ⟶ last_called x on_itself))
    (λ p q r a e n s x. at_kind a Plus e refl ⟼ noded_by a (unary_edge f Plus Plus p.prev_token_end) (token Plus a e n refl s ⟶ last_called x on_itself))
    (λ p q r a e n s x. at_kind a Bang e refl ⟼ noded_by a (unary_edge f Bang Bang p.prev_token_end) (token Bang a e n refl s ⟶ last_called x on_itself))
    (λ p q r a e n s x. at_kind a Tilde e refl ⟼ noded_by a (unary_edge f Tilde Tilde p.prev_token_end) (token Tilde a e n refl s ⟶ last_called x on_itself))
    (λ p q r a e n s x. at_kind a Typeof e refl ⟼ noded_by a (unary_edge f Typeof Typeof p.prev_token_end) (token Typeof a e n refl s ⟶ last_called x on_itself))
    (λ p q r a e n s x. at_kind a Void e refl ⟼ noded_by a (unary_edge f Void Void p.prev_token_end) (token Void a e n refl s ⟶ last_called x on_itself))
    (λ p q r a e n s x. at_kind a Delete e refl ⟼ noded_by a (unary_edge f Delete Delete p.prev_token_end) (token Delete a e n refl s ⟶ last_called x on_itself))

abbrev NoOperand : List ℕ → Flags → Kind → Type 0
NoOperand text f k = (p q : Parser) → At text f p → p.token.kind ≡ k → p.token.escaped ≡ false → Moved text f p q → Underived text (at Unary f) q.prev_token_end → Underived text (at Unary f) p.prev_token_end

pub unary_fails : (text : List ℕ) (f : Flags) (k : Kind) → one_of_kinds unary_kinds k ≡ true → NoOperand text f k
unfolding rule rule_of covers
unary_fails text f k h = of_unary (NoOperand text f) k h
    (λ p q a e n s x. fails_by (at_kind a Minus e refl ▹✗ fails_node (unary_edge f Minus Minus p.prev_token_end) (token Minus a e n refl s ⟶✗ x)))
    (λ p q a e n s x. fails_by (at_kind a Plus e refl ▹✗ fails_node (unary_edge f Plus Plus p.prev_token_end) (token Plus a e n refl s ⟶✗ x)))
    (λ p q a e n s x. fails_by (at_kind a Bang e refl ▹✗ fails_node (unary_edge f Bang Bang p.prev_token_end) (token Bang a e n refl s ⟶✗ x)))
    (λ p q a e n s x. fails_by (at_kind a Tilde e refl ▹✗ fails_node (unary_edge f Tilde Tilde p.prev_token_end) (token Tilde a e n refl s ⟶✗ x)))
    (λ p q a e n s x. fails_by (at_kind a Typeof e refl ▹✗ fails_node (unary_edge f Typeof Typeof p.prev_token_end) (token Typeof a e n refl s ⟶✗ x)))
    (λ p q a e n s x. fails_by (at_kind a Void e refl ▹✗ fails_node (unary_edge f Void Void p.prev_token_end) (token Void a e n refl s ⟶✗ x)))
    (λ p q a e n s x. fails_by (at_kind a Delete e refl ▹✗ fails_node (unary_edge f Delete Delete p.prev_token_end) (token Delete a e n refl s ⟶✗ x)))

-- ---- one lexeme

pub one_path : {text : List ℕ} {f : Flags} {X : Test} {p q : Parser} (test : Look) → At text f p → one_of_kinds signs p.token.kind ≡ false → (s : Moved text f p q) → IsTrue (is_read s.lexeme) → IsTrue (seen test s.lexeme) → Path text f X (lexeme test) p nothing q (λ us. us)
one_path test a u s r h = record { at = s.at; further = s.further; pass = _; walked = walked_one s; verdict = clean s.kept (record { reach = 0; near = omega arith; goes = passes_test a test u s r h }) }

pub plain_leaf : {text : List ℕ} {f : Flags} {p q : Parser} (k : Kind) → p.token.kind ≡ k → p.token.escaped ≡ false → is_read_kind k ≡ true → (s : Moved text f p q) → IsTrue (is_read s.lexeme)
plain_leaf k e n r s = read_of s.lexeme (sym s.tells.kind ∙ e) r

abbrev pub LeafUnder : List ℕ → Flags → NodeKind → Op → Kind → Type 0
LeafUnder text f l o k = (p q : Parser) → At text f p → p.token.kind ≡ k → p.token.escaped ≡ false → Moved text f p q → Path text f (after (at Primary f)) (rule (at Primary f)) p nothing q (tree (label_here l o p q) end)

abbrev pub Leaf : NodeKind → Op → Kind → Type 0
Leaf l o k = (text : List ℕ) (f : Flags) (p q : Parser) → At text f p → p.token.kind ≡ k → p.token.escaped ≡ false → Moved text f p q → Path text f (after (at Primary f)) (rule (at Primary f)) p nothing q (tree (label_here l o p q) end)

pub this_path : Leaf this_expression no_op This
unfolding rule rule_of covers
this_path text f p q a e n s = at_kind a This e refl ⟼ noded a (last_token This a e n refl s)

pub null_path : Leaf null_literal no_op Null
unfolding rule rule_of covers
null_path text f p q a e n s = at_kind a Null e refl ⟼ noded a (last_token Null a e n refl s)

abbrev boolean_test : Look
boolean_test k w e = one_of_kinds (True ∷ False ∷ []) k && not e

pub true_path : Leaf boolean_literal no_op True
unfolding rule rule_of covers
true_path text f p q a e n s = at_kind a True e refl ⟼ noded a (one_path boolean_test a (ap (one_of_kinds signs) e) s (plain_leaf True e n refl s) (rw (sym s.tells.kind ∙ e, sym s.tells.escaped ∙ n) refl))

pub false_path : Leaf boolean_literal no_op False
unfolding rule rule_of covers
false_path text f p q a e n s = at_kind a False e refl ⟼ noded a (one_path boolean_test a (ap (one_of_kinds signs) e) s (plain_leaf False e n refl s) (rw (sym s.tells.kind ∙ e, sym s.tells.escaped ∙ n) refl))

-- numbers
pub of_number : (P : Kind → Type 0) (k : Kind) → one_of_kinds number_kinds k ≡ true → P Decimal → P Float → P Binary → P Octal → P Hex → P PositiveExponential → P NegativeExponential → P DecimalBigInt → P BinaryBigInt → P OctalBigInt → P HexBigInt → P k
of_number P k h a b c d e f g i j l m = first_or P Decimal k _ _ refl h a (λ h. first_or P Float k _ _ refl h b (λ h. first_or P Binary k _ _ refl h c (λ h. first_or P Octal k _ _ refl h d (λ h. first_or P Hex k _ _ refl h e (λ h. first_or P PositiveExponential k _ _ refl h f (λ h. first_or P NegativeExponential k _ _ refl h g (λ h. first_or P DecimalBigInt k _ _ refl h i (λ h. first_or P BinaryBigInt k _ _ refl h j (λ h. first_or P OctalBigInt k _ _ refl h l (λ h. first_or P HexBigInt k _ _ refl h m (λ h. absurd (false≢true h))))))))))))

abbrev pub exponential_test : Look
exponential_test k w e = one_of_kinds (PositiveExponential ∷ NegativeExponential ∷ []) k && not e

abbrev NumberPath : Kind → Type 0
NumberPath k = Leaf (kind_of (node_of_number k)) (op_of (op_of_number k)) k

pub number_path : (k : Kind) → one_of_kinds number_kinds k ≡ true → NumberPath k
unfolding rule rule_of covers
number_path k h = of_number NumberPath k h
    (λ text f p q a e n s. at_kind a Decimal e refl ⟼ noded a (last_token Decimal a e n refl s))
    (λ text f p q a e n s. at_kind a Float e refl ⟼ noded a (last_token Float a e n refl s))
    (λ text f p q a e n s. at_kind a Binary e refl ⟼ noded a (last_token Binary a e n refl s))
    (λ text f p q a e n s. at_kind a Octal e refl ⟼ noded a (last_token Octal a e n refl s))
    (λ text f p q a e n s. at_kind a Hex e refl ⟼ noded a (last_token Hex a e n refl s))
    (λ text f p q a e n s. at_kind a PositiveExponential e refl ⟼ noded a (one_path exponential_test a (ap (one_of_kinds signs) e) s (plain_leaf PositiveExponential e n refl s) (rw (sym s.tells.kind ∙ e, sym s.tells.escaped ∙ n) refl)))
    (λ text f p q a e n s. at_kind a NegativeExponential e refl ⟼ noded a (one_path exponential_test a (ap (one_of_kinds signs) e) s (plain_leaf NegativeExponential e n refl s) (rw (sym s.tells.kind ∙ e, sym s.tells.escaped ∙ n) refl)))
    (λ text f p q a e n s. at_kind a DecimalBigInt e refl ⟼ noded a (last_token DecimalBigInt a e n refl s))
    (λ text f p q a e n s. at_kind a BinaryBigInt e refl ⟼ noded a (last_token BinaryBigInt a e n refl s))
    (λ text f p q a e n s. at_kind a OctalBigInt e refl ⟼ noded a (last_token OctalBigInt a e n refl s))
    (λ text f p q a e n s. at_kind a HexBigInt e refl ⟼ noded a (last_token HexBigInt a e n refl s))

abbrev NumberRow : Span → Kind → Type 0
NumberRow s k = same_row after_expression (row_of (plain_label (node_of_number k) (op_of_number k) s) end) ≡ true

number_row : (s : Span) (k : Kind) → one_of_kinds number_kinds k ≡ true → NumberRow s k
number_row s k h = of_number (NumberRow s) k h refl refl refl refl refl refl refl refl refl refl refl

pub string_path : Leaf string_literal no_op Str
unfolding rule rule_of covers
string_path text f p q a e n s = at_kind a Str e refl ⟼ noded a (last_token Str a e n refl s)

-- no name is a sign with which a lexeme of another goal begins
pub name_signless : (k : Kind) → one_of_kinds binding_identifier_kinds k ≡ true → one_of_kinds signs k ≡ false
unfolding apart
name_signless k h = name_apart signs refl k h

-- a name
pub name_leaf : {text : List ℕ} {f : Flags} {X : Test} {p q : Parser} → At text f p → may_name f.yield_ f.await_ p.token.kind ≡ true → Moved text f p q → Path text f X (lexeme (name_test f)) p nothing q (λ us. us)
name_leaf {f = f} {p = p} a h s = one_path (name_test f) a (name_signless p.token.kind (listed_name f.yield_ f.await_ p.token.kind h)) s (read_as s.lexeme s.tells (name_read p.token.kind (listed_name f.yield_ f.await_ p.token.kind h))) (name_passes f s.lexeme (subst (λ (k : Kind). may_name f.yield_ f.await_ k ≡ true) s.tells.kind h))

pub name_path : {text : List ℕ} {f : Flags} {p q : Parser} → At text f p → may_name f.yield_ f.await_ p.token.kind ≡ true → NoFunctionHere p → Moved text f p q → Path text f (after (at Primary f)) (rule (at Primary f)) p nothing q (tree (label_here identifier_reference no_op p q) end)
unfolding rule rule_of covers
name_path {f = f} {p = p} a i z s =
    let k = listed_name f.yield_ f.await_ p.token.kind i in
    at_name a k ⟼ (left (no_expression a z.1 s k) ⟼ by_symbol_as {X' = plain full} (λ l cs vs y d. (refl, refl)) (noded a (name_leaf a i s)))

-- behind a primary expression whatever may stand that is read
abbrev no_function : Look
no_function k w e = not (not w && (same_kind Function k && not e))

pub behind_primary : (b : Bool) (l : Label) (cs : Slots) (text : List ℕ) (s : ℕ) (y : Lexeme) → Plain text s y → IsTrue (seen (follow_of Primary b (edge_of l cs)) y || seen beside y)
unfolding covers
behind_primary b l cs text s y h = covered plain_reads (λ k w e. no_function k w e || beside k w e) refl y.kind y.newline y.escaped h.1

-- a node of one lexeme, read so
pub leaf_made : {text : List ℕ} {f : Flags} {p q : Parser} {id : NodeId} {nk : NodeKindMade} {no : OpMade} → same_row after_expression (row_of (plain_label nk no p.token.span) end) ≡ true → ((q : Parser) → Moved text f p q → Path text f (after (at Primary f)) (rule (at Primary f)) p nothing q (tree (label_here (kind_of nk) (op_of no) p q) end)) → LeafTaken nk no text f p q id → Numbered text f (at Primary f) p q id
leaf_made {text} {f} {p} {q} {id} {nk} {no} r path t =
    let l : plain_label nk no p.token.span ≡ label_here (kind_of nk) (op_of no) p t.mid = ap (λ (v : ℕ). record { kind = kind_of nk; op = op_of no; flags = 0; span = record { from = p.token.span.start; to = v } }) (t.moved.tells.end ∙ t.moved.ends) in
    let ks : Keeps p.nodes t.mid.nodes = subst (λ (ns : List Node). Keeps p.nodes ns) (sym t.moved.nodes) (Keeps-refl p.nodes) in
    by_path (subst (λ (v : Label). Path text f (after (at Primary f)) (rule (at Primary f)) p nothing t.mid (tree v end)) (sym l) (path t.mid t.moved)) t.moved.same t.made.stays (behind_primary f.in_ (plain_label nk no p.token.span) end text t.mid.prev_token_end) r (leaf_held t.made ks) (Keeps-trans ks (Keeps-made t.made.made)) (ap (λ (v : Label). v.span) l) (one_lies t.made)

pub leaf_answers : {text : List ℕ} {f : Flags} {p q : Parser} {id : NodeId} {nk : NodeKindMade} {no : OpMade} (k : Kind) → same_row after_expression (row_of (plain_label nk no p.token.span) end) ≡ true → LeafUnder text f (kind_of nk) (op_of no) k → At text f p → p.token.kind ≡ k → p.token.escaped ≡ false → LeafTaken nk no text f p q id → Numbered text f (at Primary f) p q id
leaf_answers {p = p} k r path a e n t = leaf_made r (λ q m. path p q a e n m) t

-- a unary operation
pub unary_answers : {text : List ℕ} {f : Flags} {p q r w : Parser} {id arg : NodeId} (k : Kind) (o : UnaryOperator) (s : Span) → one_of_kinds unary_kinds k ≡ true → unary_kind o ≡ k → At text f p → p.token.kind ≡ k → p.token.escaped ≡ false → (m : Moved text f p q) → (x : Numbered text f (at Unary f) q r arg) → s.start ≡ p.token.span.start → s.end ≡ r.prev_token_end → MadeHere (plain_label node.UnaryExpression (op.Unary o) s) (Some arg ∷ []) r w id → Numbered text f (at Unary f) p w id
unary_answers {text} {f} {p} {q} {r} {w} {id} {arg} k o s h u a e n m x b c d =
    let l : plain_label node.UnaryExpression (op.Unary o) s ≡ label_here unary_expression (of k) p r = rw (u, b, c) refl in
    let made : MadeHere (label_here unary_expression (of k) p r) (Some arg ∷ []) r w id = subst (λ (v : Label). MadeHere v (Some arg ∷ []) r w id) l d in
    let ks : Keeps p.nodes r.nodes = subst (λ (ns : List Node). Keeps ns r.nodes) m.nodes x.keeps in
    by_path (unary_path text f k h p q r a e n m x.answer) (same_both m.same x.answer.same) made.stays x.answer.stops x.answer.row (one_held p.nodes made (subst (λ (ns : List Node). Holds r.nodes (length ns) (length r.nodes) arg.0 x.answer.label x.answer.slots) m.nodes x.holds)) (Keeps-trans ks (Keeps-made made.made)) refl (one_lies made)

-- what a PrimaryExpression begins with that is no name
abbrev pub primary_kinds : List Kind
primary_kinds = This ∷ Null ∷ True ∷ False ∷ Str ∷ RegExp ∷ Slash ∷ SlashEq ∷ NoSubstitutionTemplate ∷ TemplateHead ∷ LParen ∷ LBrack ∷ Function ∷ LCurly ∷ Percent ∷ Class ∷ at_sign ∷ number_kinds

pub primary_fails : {text : List ℕ} {f : Flags} {p : Parser} → At text f p → may_name f.yield_ f.await_ p.token.kind ≡ false → one_of_kinds primary_kinds p.token.kind ≡ false → Underived text (at Primary f) p.prev_token_end
unfolding rule rule_of covers apart
primary_fails {f = f} a m n = fails_by (lives (rule (at Primary f)) ▹✗ fails_unnamed a f {X = after (at Primary f)} (λ g. live (rule (at Primary g))) primary_kinds refl refl refl refl refl m n)

-- a word with an escape is no keyword
pub escaped_fails : {text : List ℕ} {f : Flags} {p : Parser} → At text f p → may_name f.yield_ f.await_ p.token.kind ≡ false → escaped_word p.token.kind p.token.escaped ≡ true → Underived text (at Primary f) p.prev_token_end
unfolding rule rule_of covers apart
escaped_fails {f = f} a m e = fails_by (lives (rule (at Primary f)) ▹✗ fails_escaped a f {X = after (at Primary f)} (λ g. live (rule (at Primary g))) refl refl refl refl e m)

pub leaf_under : (text : List ℕ) (f : Flags) (p q : Parser) (nk : NodeKindMade) (o : OpMade) (k : Kind) (r : Result NodeId Stop) → same_row after_expression (row_of (plain_label nk o p.token.span) end) ≡ true → LeafUnder text f (kind_of nk) (op_of o) k → At text f p → p.token.kind ≡ k → p.token.escaped ≡ false → MatchResult r (λ id. TakesLeaf nk o p q id) OnlyMemory → Outcome text f (at Primary f) p q r
leaf_under text f p q nk o k (Ok id) r path a e n m = leaf_answers k r path a e n (m text f a)
leaf_under text f p q nk o k (Err Fatal) r path a e n m = absurd m
leaf_under text f p q nk o k (Err NoMemory) r path a e n m = tt

-- a name
pub name_outcome : {text : List ℕ} {f : Flags} {p : Parser} (q : Parser) (r : Result NodeId Stop) → At text f p → may_name f.yield_ f.await_ p.token.kind ≡ true → NoFunctionHere p → MatchResult r (λ id. TakesLeaf node.IdentifierReference op.None p q id) OnlyMemory → Outcome text f (at Primary f) p q r
name_outcome {text} {f} q (Ok id) a h z m = leaf_made refl (λ q s. name_path a h z s) (m text f a)
name_outcome q (Err Fatal) a h z m = absurd m
name_outcome q (Err NoMemory) a h z m = tt

pub leaf_outcome : (text : List ℕ) (f : Flags) (p q : Parser) (nk : NodeKindMade) (o : OpMade) (k : Kind) (r : Result NodeId Stop) → same_row after_expression (row_of (plain_label nk o p.token.span) end) ≡ true → Leaf (kind_of nk) (op_of o) k → At text f p → p.token.kind ≡ k → p.token.escaped ≡ false → MatchResult r (λ id. TakesLeaf nk o p q id) OnlyMemory → Outcome text f (at Primary f) p q r
leaf_outcome text f p q nk o k r e path = leaf_under text f p q nk o k r e (path text f)

pub not_same : (a k : Kind) (b : Bool) → (k ≡ a → ⊥) → (same_kind a k || b) ≡ b
not_same a k b n = go (same_kind a k) refl
  where
    go : (x : Bool) → same_kind a k ≡ x → (x || b) ≡ b
    go true e = absurd (n (sym (kind_of_same a k e)))
    go false e = refl

pub none_of_these : (k : Kind) → (k ≡ This → ⊥) → (k ≡ Null → ⊥) → (k ≡ True → ⊥) → (k ≡ False → ⊥) → (k ≡ Str → ⊥) → (k ≡ RegExp → ⊥) → (k ≡ Slash → ⊥) → (k ≡ SlashEq → ⊥) → (k ≡ NoSubstitutionTemplate → ⊥) → (k ≡ TemplateHead → ⊥) → (k ≡ LParen → ⊥) → (k ≡ LBrack → ⊥) → (k ≡ Function → ⊥) → (k ≡ LCurly → ⊥) → (k ≡ Percent → ⊥) → (k ≡ Class → ⊥) → (k ≡ at_sign → ⊥) → one_of_kinds number_kinds k ≡ false → one_of_kinds primary_kinds k ≡ false
none_of_these k b c d e f x y z v w g j o u h i s n = not_same This k _ b ∙ (not_same Null k _ c ∙ (not_same True k _ d ∙ (not_same False k _ e ∙ (not_same Str k _ f ∙ (not_same RegExp k _ x ∙ (not_same Slash k _ y ∙ (not_same SlashEq k _ z ∙ (not_same NoSubstitutionTemplate k _ v ∙ (not_same TemplateHead k _ w ∙ (not_same LParen k _ g ∙ (not_same LBrack k _ j ∙ (not_same Function k _ o ∙ (not_same LCurly k _ u ∙ (not_same Percent k _ h ∙ (not_same Class k _ i ∙ (not_same at_sign k _ s ∙ n))))))))))))))))

abbrev numbers : Look
numbers k w e = one_of_kinds number_kinds k

-- a number may be passed
pub number_passable : (k : Kind) → one_of_kinds number_kinds k ≡ true → (same_kind RAngle k ≡ false) × (unpassable k ≡ false)
unfolding covers
number_passable k h = (not-true (same_kind RAngle k) (covered numbers (λ k w e. not (same_kind RAngle k)) refl k false false h), not-true (unpassable k) (covered numbers (λ k w e. not (unpassable k)) refl k false false h))

-- a number, read so
pub number_outcome : (text : List ℕ) (f : Flags) (p q : Parser) (nk : NodeKindMade) (o : OpMade) (k : Kind) (r : Result NodeId Stop) → one_of_kinds number_kinds p.token.kind ≡ true → k ≡ p.token.kind → nk ≡ node_of_number k → o ≡ op_of_number k → At text f p → p.token.escaped ≡ false → MatchResult r (λ id. TakesLeaf nk o p q id) OnlyMemory → Outcome text f (at Primary f) p q r
number_outcome text f p q nk o k r h e u v a n m = leaf_outcome text f p q nk o p.token.kind r (subst (λ (x : NodeKindMade). same_row after_expression (row_of (plain_label x o p.token.span) end) ≡ true) (sym node_is) (subst (λ (x : OpMade). same_row after_expression (row_of (plain_label (node_of_number p.token.kind) x p.token.span) end) ≡ true) (sym op_is) (number_row p.token.span p.token.kind h))) (subst (λ (x : NodeKindMade). Leaf (kind_of x) (op_of o) p.token.kind) (sym node_is) (subst (λ (x : OpMade). Leaf (kind_of (node_of_number p.token.kind)) (op_of x) p.token.kind) (sym op_is) (number_path p.token.kind h))) a refl n m
  where
    node_is : nk ≡ node_of_number p.token.kind
    node_is = u ∙ ap node_of_number e

    op_is : o ≡ op_of_number p.token.kind
    op_is = v ∙ ap op_of_number e

-- the table of unary operators has these kinds
abbrev kinds_in : List (Kind × UnaryOperator) → List Kind
kinds_in [] = []
kinds_in (row ∷ rows) = row.0 ∷ kinds_in rows

some_row : (b : Bool) (o : UnaryOperator) (r : Option UnaryOperator) → is_some (if b then Some o else r) ≡ (b || is_some r)
some_row true o r = refl
some_row false o r = refl

listed : (rows : List (Kind × UnaryOperator)) (k : Kind) → is_some (row_in rows k) ≡ one_of_kinds (kinds_in rows) k
listed [] k = refl
listed (row ∷ rows) k = some_row (same_kind row.0 k) row.1 (row_in rows k) ∙ ap (λ b. same_kind row.0 k || b) (listed rows k)

pub unary_listed : {k l : Kind} {b c : Bool} → k ≡ l → b ≡ is_some (row_in unary_operators k) → b ≡ c → one_of_kinds unary_kinds l ≡ c
unary_listed {k} {c = c} e h g = subst (λ (j : Kind). one_of_kinds unary_kinds j ≡ c) e (sym (listed unary_operators k) ∙ (sym h ∙ g))

-- whether a token is of a kind of unary operators
pub is_operator : {k l : Kind} {b : Bool} → k ≡ l → b ≡ is_some (row_in unary_operators k) → b ≡ one_of_kinds unary_kinds l
is_operator {k} {l} {b} e h = h ∙ (listed unary_operators k ∙ ap (one_of_kinds unary_kinds) e)

-- an operator that was passed, its operand, and the node
pub unary_outcome : {text : List ℕ} {f : Flags} {p q v w : Parser} {id arg : NodeId} (o : UnaryOperator) (s : Span) → one_of_kinds unary_kinds p.token.kind ≡ true → row_in unary_operators p.token.kind ≡ Some o → At text f p → p.token.escaped ≡ false → (m : Moved text f p q) → Numbered text f (at Unary f) q v arg → s.start ≡ p.token.span.start → s.end ≡ v.prev_token_end → MadeHere (plain_label node.UnaryExpression (op.Unary o) s) (Some arg ∷ []) v w id → Numbered text f (at Unary f) p w id
unary_outcome {p = p} o s h u a z m x b c d = unary_answers p.token.kind o s h (unary_named p.token.kind o h u) a refl z m x b c d

pub row_here : {k l : Kind} {o : UnaryOperator} → k ≡ l → row_in unary_operators k ≡ Some o → row_in unary_operators l ≡ Some o
row_here {o = o} e h = subst (λ (j : Kind). row_in unary_operators j ≡ Some o) e h
