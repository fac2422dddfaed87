-- Whether the first expression in the head of a `for` may be a target (ECMA-262, 14.7.5).
use Rattle.std.proofs.Common.{ℕ, ◌≡◌, inl, inr, List, [], ◌∷◌, length, get_or, Bool, true, false, not, IsTrue, None, refl, sym, ap, subst, ◌∙◌}
use Rattle.std.proofs.lemmas.Bool.{and_from, and_parts}
use Rattle.std.proofs.lemmas.List.{get_or_push}
use Rattle.std.specs.Prelude.{Option, Result, Ok, Err, IfOk}
use Rattle.js_base.specs.declared.kind.Kind.{Kind}
use Rattle.js_base.specs.declared.kind.Kind.TheVariants.{Arrow, Comma, In, Of}
use Rattle.js_base.specs.Kinds.{one_of_kinds, same_kind}
use Rattle.js_grammar.specs.Trees.{Label, Slots, end, tree, parenthesized_expression}
use Rattle.js_grammar.specs.Grammar.{Lexeme, Lexemes, here, nothing, seen, such, Takes, is_lexeme}
use Rattle.js_grammar.specs.Follow.{after, first_edge, follow, looser, row_of}
use Rattle.js_grammar.specs.Insertion.{Row, after_expression, assign_operators}
use Rattle.js_grammar.specs.Lexed.{Lexes}
use Rattle.js_grammar.specs.Parsing.{Admits, always, plain}
use Rattle.js_grammar.specs.Productions.{Assignment, Flags, at, any_of, Short}
use Rattle.js_grammar.specs.Table.{rule}
use Rattle.js_grammar.proofs.Calculus.{ends, here_at, part_fails}
use Rattle.js_grammar.proofs.Looks.{apart, covered, covers, not_both}
use Rattle.js_grammar.proofs.Finding.{contrary}
use Rattle.laws_shared.specs.js_tree.declared.id.NodeId.{NodeId}
use Rattle.laws_shared.specs.js_tree.Holding.{Made}
use Rattle.laws_shared.specs.js_tree.declared.kind.NodeKind.TheVariants.{ParenthesizedExpression}
use Rattle.laws_shared.specs.js_tree.Labels.{kind_of}
use Rattle.laws_shared.specs.js_tree.Nodes.{Node, empty_program, label, node_at}
pub use Rattle.laws_patterns.proofs.laws_primary.DecoratedNodes.{made_kind}
use Rattle.laws_shared.specs.js_cursor.Moves.{OnlyMemory}
use Rattle.laws_shared.specs.js_cursor.Parsers.{Parser}
use Rattle.laws_shared.specs.js_cursor.declared.stop.Stop.{Stop}
use Rattle.laws_shared.specs.js_cursor.declared.stop.Stop.TheVariants.{Fatal, NoMemory}
use Rattle.laws_shared.specs.Answers.{Answer, Grown, Numbered, Stops, Stretch, Underived, clean, unclean, wider}
use Rattle.laws_shared.specs.Lexemes.{Lex}
use Rattle.laws_shared.specs.Moves.{MadeHere}
use Rattle.laws_shared.specs.States.{At}
use Rattle.laws_shared.proofs.Here.{kind_here}
use Rattle.laws_shared.proofs.Paths.{not_here}
use Rattle.laws_shared.proofs.Escapes.{read_plain}
use Rattle.parse_targets.specs.Taken.{NoTargetFrom, goes_through}
use Rattle.parse_targets.specs.Targets.{is_literal, target_of}
use Rattle.parse_targets.proofs.ArraysBeforeSigns.{is_cover}
use Rattle.parse_targets.proofs.HeadTargets.{before_these, none_before, none_unread}
use Rattle.parse_targets.proofs.CoveredNodes.{label_at}
use Rattle.laws_operators.specs.Arrows.{BeforeArrow, told_led, IsRefusedHead, NoOperandHere, Unmoved}
use Rattle.laws_operators.specs.HeadOperands.{HeadOperand, IsNoTarget, NoTargetPart, NoTargetSeen, OperandOutcome, StaysOperand, no_target, operand}
use Rattle.laws_operators.proofs.Arrows.{from_unmoved}
use Rattle.laws_operators.proofs.ParenthesizedFronts.{an_arrow}

-- ---- the node that was made

made_node : {n : Node} {ns ms : List Node} {id : NodeId} → Made n ns ms id → get_or ms id.0 empty_program ≡ n
made_node {n} {ns} {id = id} m = ap (λ (xs : List Node). get_or xs id.0 empty_program) m.nodes ∙ get_or_push ns n empty_program id.0 (sym m.number)

pub made_no_target : {l : Label} {ids : List (Option NodeId)} {p q : Parser} {id : NodeId} → is_literal l.kind ≡ false → ((cs : Slots) → target_of l cs ≡ None) → MadeHere l ids p q id → IsNoTarget q id
made_no_target {l} a b m = λ lo hi k cs h.
    let e : k ≡ l = label_at h.stands ∙ (ap label (made_node m.made) ∙ m.label_is) in
    (subst (λ (v : Label). is_literal v.kind ≡ false) (sym e) a, subst (λ (v : Label). target_of v cs ≡ None) (sym e) (b cs))

-- ---- where memory is wanting nothing is told

pub operand_memory : (text : List ℕ) (f : Flags) (p q : Parser) (e : Stop) → OnlyMemory e → OperandOutcome text f p q (Err e)
operand_memory text f p q Fatal m = absurd m
operand_memory text f p q NoMemory m = tt

-- ---- parentheses before `=>`

-- the arrow binds tighter than what may stand behind parentheses
paren_binds : (b : Bool) → covers an_arrow (λ k w e. not (looser 2 b after_expression k w e)) ≡ true
unfolding covers
paren_binds true = refl
paren_binds false = refl

paren_row : (l : Label) (cs : Slots) → l.kind ≡ parenthesized_expression → row_of l cs ≡ after_expression
paren_row l cs e = rw e refl

-- where `=>` stands behind parentheses that were read, no assignment is derived
none_before_arrow : {text : List ℕ} {f : Flags} {o p : Parser} (x : Answer text f (at Assignment f) o p) → x.label.kind ≡ parenthesized_expression → p.token.kind ≡ Arrow → Stretch text (after (at Assignment f)) (such (at Assignment f) always) o.prev_token_end nothing p.prev_token_end (tree x.label x.slots) x.pass → Underived text (at Assignment f) o.prev_token_end
none_before_arrow {text} {f} {o} {p} x n k z = record { no = λ ts vs j ls rest l d a. go ts vs j ls rest l d a }
  where
    go : (ts vs : Slots) (j : ℕ) (ls rest : Lexemes) → Lexes (Lex text) o.prev_token_end ls → Takes rule (such (at Assignment f) always) end ts o.prev_token_end ls vs j rest → Admits (after (at Assignment f)) ts (here rest) → ⊥
    go ts vs j ls rest l d a =
        let y = z.goes.only ts vs j ls rest l d a in
        let m : Lex text p.prev_token_end (here rest) = here_at (Lex text) rest (subst (λ (v : Lexemes). Lexes (Lex text) p.prev_token_end v) (ends y.4).2 y.3) in
        let r : (here rest).kind ≡ Arrow = kind_here x.at k refl (here rest) m in
        let b : IsTrue (seen (looser 2 f.in_ (row_of x.label x.slots)) (here rest)) = subst (λ (v : Slots). IsTrue (seen (follow (at Assignment f) (first_edge v)) (here rest))) y.2 a.1 in
        contrary (seen (looser 2 f.in_ after_expression) (here rest))
        (covered an_arrow (λ k w e. not (looser 2 f.in_ after_expression k w e)) (paren_binds f.in_) (here rest).kind (here rest).newline (here rest).escaped (and_from _ _ (ap (same_kind Arrow) r) (ap not (read_plain (here rest) m r refl))))
        (subst (λ (v : Row). IsTrue (seen (looser 2 f.in_ v) (here rest))) (paren_row x.label x.slots n) b)

pub refused_so : (id : NodeId) (kept : ℕ) (p : Parser) {r : Bool} → r ≡ true → IsRefusedHead id kept p r → (length p.errors ≡ kept → ⊥) × (p.token.kind ≡ Arrow) × ((node_at p.nodes id).kind ≡ ParenthesizedExpression)
refused_so id kept p e h = subst (λ (b : Bool). IsRefusedHead id kept p b) e h

-- an AssignmentExpression in parentheses, of which something was told
pub refused : {text : List ℕ} {f : Flags} {o p : Parser} {id : NodeId} → Numbered text f (at Assignment f) o p id → (length p.errors ≡ length o.errors → ⊥) → p.token.kind ≡ Arrow → (node_at p.nodes id).kind ≡ ParenthesizedExpression → BeforeArrow false text f o p id
refused {text} {f} {o} {p} x n k m = let t = told in told_led (record {
  at = x.answer.at;
  same = x.answer.same;
  further = x.answer.further;
  grown = t.0;
  label = x.answer.label;
  slots = x.answer.slots;
  pass = x.answer.pass;
  walked = x.answer.walked;
  holds = x.holds;
  keeps = x.keeps;
}) t.1
  where
    parens : x.answer.label.kind ≡ parenthesized_expression
    parens = ap (λ (l : Label). l.kind) (label_at (x.holds).stands) ∙ ap kind_of m

    told : Grown o.errors p.errors × Underived text (at Assignment f) o.prev_token_end
    told = elim x.answer.verdict [
      | clean e y ↦ absurd (n (ap length e))
      | unclean g z ↦ (g, z)
      | wider w g z ↦ (g, none_before_arrow x.answer parens k z)
    ]

-- ---- what stands behind an operand

pub none_goes_through : {text : List ℕ} {f : Flags} {q : Parser} → At text f q → one_of_kinds (In ∷ Of ∷ []) q.token.kind ≡ false → (y : Lexeme) → Lex text q.prev_token_end y → IsTrue (seen goes_through y) → ⊥
unfolding apart
none_goes_through a e y l h = not_here a (In ∷ Of ∷ []) refl e y l (and_parts (one_of_kinds (In ∷ Of ∷ []) y.kind) (not y.escaped) h).0

assign_apart : (k : Kind) → one_of_kinds assign_operators k ≡ true → one_of_kinds (In ∷ Of ∷ []) k ≡ false
unfolding apart
assign_apart k h = go (one_of_kinds (In ∷ Of ∷ []) k) refl
  where
    go : (b : Bool) → one_of_kinds (In ∷ Of ∷ []) k ≡ b → one_of_kinds (In ∷ Of ∷ []) k ≡ false
    go true e = absurd (not_both (λ k w e. one_of_kinds assign_operators k) (λ k w e. one_of_kinds (In ∷ Of ∷ []) k) refl k false false h e)
    go false e = e

-- no target before these words is none before them and something else than `=>`
pub target_part : {text : List ℕ} {f : Flags} {s : ℕ} → NoTargetFrom text f s → NoTargetPart text f s
target_part {text} {f} n = part_fails {X' = plain goes_through} n (record { admits = λ ts us vs j k ls mid rest d e h. through ts e })
  where
    through : (ts : Slots) {us vs : Slots} {j k : ℕ} {mid rest : Lexemes} → Takes rule (any_of (In ∷ Of ∷ [])) end us j mid vs k rest → Admits (plain goes_through) ts (here mid)
    through ts (is_lexeme q) = (q, refl)

pub seen_part : {text : List ℕ} {f : Flags} (p : Parser) → NoTargetSeen text f p → NoTargetPart text f p.prev_token_end
seen_part p (inl n) = target_part n
seen_part p (inr (k, n)) = n

-- where no target is derived, and what was read is none
pub told_none : {text : List ℕ} {f : Flags} (p w : Parser) (r : Result NodeId Stop) → NoTargetSeen text f p → IfOk r (λ id. IsNoTarget w id) → OperandOutcome text f p w r
told_none p w (Ok id) n m = no_target m n
told_none p w (Err Fatal) n m = n
told_none p w (Err NoMemory) n m = tt

module _ {text : List ℕ} {f : Flags} {p : Parser} (i : f.in_ ≡ false) where
  -- an operand that can't be read
  pub from_none : At text f p → Underived text (at Short f) p.prev_token_end → NoTargetSeen text f p
  from_none a n = inl (before_these i (none_unread (is_cover a) n))

  pub operand_unread : (q : Parser) (e : Stop) → At text f p → Stops p q e (Underived text (at Short f) p.prev_token_end) → OperandOutcome text f p q (Err e)
  operand_unread q Fatal a s = from_none a s.none
  operand_unread q NoMemory a s = tt

  module _ {q : Parser} {left : NodeId} (x : Numbered text f (at Short f) p q left) where
    behind_kind : one_of_kinds (In ∷ Of ∷ []) q.token.kind ≡ false → NoTargetSeen text f p
    behind_kind e = inl (none_before i x.answer (none_goes_through x.answer.at e))

    -- before an assignment operator
    pub behind_assign : (w : Parser) (r : Result NodeId Stop) → one_of_kinds assign_operators q.token.kind ≡ true → IfOk r (λ id. IsNoTarget w id) → OperandOutcome text f p w r
    behind_assign w r u m = told_none p w r (behind_kind (assign_apart q.token.kind u)) m

    -- alone, or before `?`
    pub behind_operand : (w : Parser) (r : Result NodeId Stop) → StaysOperand left q w r → OperandOutcome text f p w r
    behind_operand w (Ok id) (inl (e, s)) = operand (subst (λ (v : Parser). Numbered text f (at Short f) p v id) (sym s) (subst (λ (n : NodeId). Numbered text f (at Short f) p q n) (sym e) x))
    behind_operand w (Ok id) (inr (k, n)) = no_target n (behind_kind (ap (one_of_kinds (In ∷ Of ∷ [])) k))
    behind_operand w (Err Fatal) k = behind_kind (ap (one_of_kinds (In ∷ Of ∷ [])) k)
    behind_operand w (Err NoMemory) k = tt

  pub head_stopped : (q : Parser) (e : Stop) → At text f p → (e ≡ Fatal → NoOperandHere p) → OperandOutcome text f p q (Err e)
  head_stopped q Fatal a n = from_none a (n refl text f a)
  head_stopped q NoMemory a n = tt

  -- before `=>`, or before a comma
  pub refused_operand : {q : Parser} {id : NodeId} (w : Parser) (r : Result NodeId Stop) → HeadOperand text f p q id → q.token.kind ≡ Arrow → IfOk r (λ id. IsNoTarget w id) → OperandOutcome text f p w r
  refused_operand w r (operand x) k m = told_none p w r (behind_kind x (ap (one_of_kinds (In ∷ Of ∷ [])) k)) m
  refused_operand w r (no_target n z) k m = told_none p w r z m

  pub listed_operand : {q : Parser} {id : NodeId} (w : Parser) (r : Result NodeId Stop) → HeadOperand text f p q id → q.token.kind ≡ Comma → IfOk r (λ id. IsNoTarget w id) → OperandOutcome text f p w r
  listed_operand w r (operand x) k m = told_none p w r (behind_kind x (ap (one_of_kinds (In ∷ Of ∷ [])) k)) m
  listed_operand w r (no_target n z) k m = told_none p w r z m

-- where the parser is where it was
seen_unmoved : (text : List ℕ) (f : Flags) {p q : Parser} → Unmoved p q → NoTargetSeen text f q → NoTargetSeen text f p
seen_unmoved text f u (inl n) = inl (subst (λ (s : ℕ). NoTargetFrom text f s) u.place n)
seen_unmoved text f u (inr (k, n)) = inr (sym u.kind ∙ k, subst (λ (s : ℕ). NoTargetPart text f s) u.place n)

pub operand_unmoved : (text : List ℕ) (f : Flags) {p q : Parser} (w : Parser) (r : Result NodeId Stop) → Unmoved p q → OperandOutcome text f q w r → OperandOutcome text f p w r
operand_unmoved text f w (Ok id) u (operand x) = operand (from_unmoved text f (at Short f) w (Ok id) u x)
operand_unmoved text f w (Ok id) u (no_target n z) = no_target n (seen_unmoved text f u z)
operand_unmoved text f w (Err Fatal) u z = seen_unmoved text f u z
operand_unmoved text f w (Err NoMemory) u z = tt
