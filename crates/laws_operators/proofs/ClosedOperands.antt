-- An operand of one lexeme with a closing sign behind it is all of an AssignmentExpression (ECMA-262, 13.15): level by level, no production goes on with such a sign.
use Rattle.std.proofs.Common.{ℕ, ◌≡◌, inl, Bool, true, false, not, cond, List, [], ◌∷◌, Some, None, refl, sym, ap, subst, arith, ◌∙◌}
use Rattle.std.specs.Prelude.{MatchResult, Option, Result, Ok, Err}
use Rattle.std.proofs.lemmas.Bool.{false≢true, and_right}
use Rattle.js_base.specs.declared.kind.Kind.{Kind}
use Rattle.js_base.specs.declared.kind.Kind.TheVariants.{Arrow, Async, Await, Comma, Decimal, Dot, Function, Ident, Import, LBrack, LParen, New, PrivateIdentifier, Question, Question2, QuestionDot, RAngle, RBrack, RParen, Semicolon, Star2, Str, Super, Yield}
use Rattle.js_base.specs.KindSets.{number_kinds, binding_identifier_kinds}
use Rattle.js_base.specs.Contexts.{await_flag, has_flag, yield_flag}
use Rattle.js_base.specs.Kinds.{same_kind, one_of_kinds}
use Rattle.js_base.specs.Texts.{words}
use Rattle.js_grammar.specs.Grammar.{Lexeme}
use Rattle.js_grammar.specs.Insertion.{assign_operators}
use Rattle.js_grammar.specs.Levels.{level_at}
use Rattle.js_grammar.specs.Productions.{Flags, at, Assignment, Exponent, LeftHandSide, Primary, Short, Unary, Update}
use Rattle.js_grammar.proofs.Lexemes.{first_or}
use Rattle.laws_shared.specs.js_tree.declared.id.NodeId.{NodeId}
use Rattle.laws_shared.specs.js_tree.declared.kind.NodeKind.TheVariants as node
use Rattle.laws_shared.specs.js_tree.declared.op.Op.TheVariants as op
use Rattle.laws_shared.specs.js_tree.declared.op.NumberBase.TheVariants as number
use Rattle.laws_shared.specs.js_cursor.Moves.{OnlyMemory}
use Rattle.laws_shared.specs.js_cursor.Parsers.{Parser}
use Rattle.laws_shared.specs.js_cursor.declared.stop.Stop.{Stop}
use Rattle.laws_shared.specs.Answers.{Answers, Numbered}
use Rattle.laws_shared.specs.Lexemes.{Lex, may_name}
use Rattle.laws_shared.specs.Moves.{Tightness}
use Rattle.laws_shared.specs.Operators.{power_of, unary_kinds}
use Rattle.laws_shared.specs.Stands.{StandsHere}
use Rattle.laws_shared.specs.States.{At, Standing}
use Rattle.laws_shared.proofs.Here.{kind_here, uncut, unsettled}
use Rattle.laws_shared.proofs.Moving.{same_itself}
use Rattle.laws_shared.proofs.Phrases.{unary_result}
use Rattle.laws_shared.proofs.Signs.{plain_sign}
use Rattle.laws_patterns.specs.laws_primary.Members.{LinkForm, by_call, by_index, by_name, by_private, no_link, sign_of}
use Rattle.laws_patterns.specs.laws_primary.Numbers.{node_of_number, op_of_number}
use Rattle.laws_patterns.specs.laws_primary.Templates.{heads}
use Rattle.laws_patterns.proofs.laws_primary.Members.{head_closed, lhs_callee, member_closed, member_init, no_import_here}
use Rattle.laws_patterns.proofs.laws_primary.Operands.{leaf_outcome, name_outcome, number_outcome, string_path}
use Rattle.laws_operators.specs.Arrows.{NoArrowHere, NoLineHere}
use Rattle.laws_operators.specs.ClosedOperands.{ClosesAt, LexemeTaken, TakesClosed, TakesLexeme, a_name, a_number, a_string, closing_signs}
use Rattle.laws_operators.specs.HeadOperands.{TellsOperand, operand}
use Rattle.laws_operators.specs.Rests.{OnlyOperandHere, update_kinds}
use Rattle.laws_operators.proofs.Arrows.{neither, no_arrow_behind, only_operand, unmoved}
use Rattle.laws_operators.proofs.AsyncHeads.{no_async_word, plain_found}
use Rattle.laws_operators.proofs.ClosingSigns.{sign_at}
use Rattle.laws_operators.proofs.CoalesceOperands.{operands_init, short_answer}
use Rattle.laws_operators.proofs.Conditionals.{no_assign_here, test_alone}
use Rattle.laws_operators.proofs.Exponents.{power_alone}
use Rattle.laws_operators.proofs.Operations.{no_private, operand_init, operands_answer}
use Rattle.laws_operators.proofs.Refusals.{none_behind}
use Rattle.laws_operators.proofs.Updates.{left_alone}

-- ---- the kinds

-- a claim on each of the signs
of_closing : (P : Kind → Type 0) (k : Kind) → one_of_kinds closing_signs k ≡ true → P Comma → P RParen → P Semicolon → P RBrack → P k
of_closing P k h a b c d = first_or P Comma k _ _ refl h a (λ h. first_or P RParen k _ _ refl h b (λ h. first_or P Semicolon k _ _ refl h c (λ h. first_or P RBrack k _ _ refl h d (λ h. absurd (false≢true h)))))

-- none of them is of another list
closing_apart : (ks : List Kind) (k : Kind) → one_of_kinds closing_signs k ≡ true → one_of_kinds ks Comma ≡ false → one_of_kinds ks RParen ≡ false → one_of_kinds ks Semicolon ≡ false → one_of_kinds ks RBrack ≡ false → one_of_kinds ks k ≡ false
closing_apart ks k h a b c d = of_closing (λ k. one_of_kinds ks k ≡ false) k h a b c d

-- a claim on each kind of such an operand
taken_kind : {p q : Parser} {id : NodeId} (P : Kind → Type 0) → P Ident → P Str → P Decimal → LexemeTaken p q id → P p.token.kind
taken_kind P a b c (a_name k t) = subst P (sym k) a
taken_kind P a b c (a_string k t) = subst P (sym k) b
taken_kind P a b c (a_number k t) = subst P (sym k) c

-- where it ends
taken_place : {text : List ℕ} {f : Flags} {p q : Parser} {id : NodeId} → At text f p → LexemeTaken p q id → q.prev_token_end ≡ p.token.span.end
taken_place a (a_name k t) = let x = t _ _ a in ap (λ (z : Parser). z.prev_token_end) x.made.stays ∙ sym (x.moved.tells.end ∙ x.moved.ends)
taken_place a (a_string k t) = let x = t _ _ a in ap (λ (z : Parser). z.prev_token_end) x.made.stays ∙ sym (x.moved.tells.end ∙ x.moved.ends)
taken_place a (a_number k t) = let x = t _ _ a in ap (λ (z : Parser). z.prev_token_end) x.made.stays ∙ sym (x.moved.tells.end ∙ x.moved.ends)

-- ---- the levels

primary_taken : {text : List ℕ} {f : Flags} {p q : Parser} {id : NodeId} → At text f p → LexemeTaken p q id → Numbered text f (at Primary f) p q id
unfolding words
primary_taken {f = f} {p} {q} {id} a (a_name k t) = name_outcome q (Ok id) a (ap (may_name f.yield_ f.await_) k) ((λ e w. let z : Ident ≡ Function = sym k ∙ e in absurd (cc)), inl (λ e w. let z = sym k ∙ e in absurd (cc))) t
primary_taken {text} {f} {p} {q} {id} a (a_string k t) = leaf_outcome text f p q node.StringLiteral op.None Str (Ok id) refl string_path a k (plain_sign Str a k refl refl refl) t
primary_taken {text} {f} {p} {q} {id} a (a_number k t) = number_outcome text f p q node.NumericLiteral (op.Number number.Decimal) p.token.kind (Ok id) (ap (one_of_kinds number_kinds) k) refl (sym (ap node_of_number k)) (sym (ap op_of_number k)) a (plain_sign Decimal a k refl refl refl) t

module _ {p q : Parser} {id : NodeId} (t : LexemeTaken p q id) (c : one_of_kinds closing_signs q.token.kind ≡ true) where
  -- another lexeme doesn't stand behind it
  other_kind : (k : Kind) → one_of_kinds closing_signs k ≡ false → q.token.kind ≡ k → ⊥
  other_kind k n e = false≢true (sym n ∙ (ap (one_of_kinds closing_signs) (sym e) ∙ c))

  other_sign : (k : Kind) → one_of_kinds closing_signs k ≡ false → StandsHere q k false
  other_sign k n = λ e w. other_kind k n e

  no_link_sign : (l : LinkForm) (o : Bool) → StandsHere q (sign_of l o) false
  no_link_sign l true = other_sign QuestionDot refl
  no_link_sign by_call false = other_sign LParen refl
  no_link_sign by_name false = other_sign Dot refl
  no_link_sign by_private false = other_sign Dot refl
  no_link_sign by_index false = other_sign LBrack refl

  module _ {text : List ℕ} {f : Flags} (a : At text f p) where
    other_word : StandsHere p Import false
    other_word = taken_kind (λ k. k ≡ Import → p.token.escaped ≡ false → ⊥) (λ e w. absurd (cc)) (λ e w. absurd (cc)) (λ e w. absurd (cc)) t

    left_hand_taken : Numbered text f (at LeftHandSide f) p q id
    left_hand_taken =
        let x = primary_taken a t in
        let m = member_closed (member_init a (taken_kind (λ k. k ≡ New → p.token.escaped ≡ false → ⊥) (λ e w. absurd (cc)) (λ e w. absurd (cc)) (λ e w. absurd (cc)) t) (taken_kind (λ k. k ≡ Super → p.token.escaped ≡ false → ⊥) (λ e w. absurd (cc)) (λ e w. absurd (cc)) (λ e w. absurd (cc)) t) other_word x) (no_link (λ l o h. no_link_sign l o), closing_apart heads q.token.kind c refl refl refl refl) in
        let h = head_closed m.0 (no_import_here a other_word) m.1 (other_sign LParen refl) in
        lhs_callee h.0 h.1 h.2 (other_sign QuestionDot refl)

    update_taken : Numbered text f (at Update f) p q id
    update_taken =
        let x = left_hand_taken in
        left_alone a (taken_kind (λ k. one_of_kinds update_kinds k ≡ false) refl refl refl t) x (none_behind x.answer.at refl (and_right (not q.token.is_on_new_line) (one_of_kinds update_kinds q.token.kind) (closing_apart update_kinds q.token.kind c refl refl refl refl)))

    unary_taken : Numbered text f (at Unary f) p q id
    unary_taken = unary_result q (Ok id) a (taken_kind (λ k. one_of_kinds unary_kinds k ≡ false) refl refl refl t) (taken_kind (λ k. k ≡ Await → f.awaits ≡ false) (λ e. absurd (cc)) (λ e. absurd (cc)) (λ e. absurd (cc)) t) update_taken

    power_taken : Numbered text f (at Exponent f) p q id
    power_taken = power_alone unary_taken (other_kind Star2 refl)

    -- no operator stands behind it
    whole_behind : q.cut ≡ false
    whole_behind = uncut power_taken.answer.at (of_closing (λ k. same_kind RAngle k ≡ false) q.token.kind c refl refl refl refl)

    none_binds : (e : Bool) → 0 ≡ cond e 0 (power_of f.in_ q.token.kind)
    none_binds true = refl
    none_binds false = of_closing (λ k. 0 ≡ power_of f.in_ k) q.token.kind c refl refl refl refl

    loose_behind : Tightness text f q q 0
    loose_behind = record { at = power_taken.answer.at; same = same_itself; nodes = refl; kept = refl; place = refl; spot_is = refl; start = refl; uncut = whole_behind; is = none_binds q.token.escaped }

    operators_taken : Numbered text f (level_at f 0) p q id
    operators_taken = operands_answer (operand_init {m = 0} (omega arith) a (no_private a (taken_kind (λ k. k ≡ PrivateIdentifier → ⊥) (λ e. cc) (λ e. cc) (λ e. cc) t)) power_taken) loose_behind (omega arith) (omega arith)

    short_taken : Numbered text f (at Short f) p q id
    short_taken = short_answer (operands_init operators_taken) (other_kind Question2 refl)

    -- what stands behind the lexeme
    kind_behind : (y : Lexeme) → Lex text p.token.span.end y → y.kind ≡ q.token.kind
    kind_behind y l = kind_here power_taken.answer.at refl (closing_apart unsettled q.token.kind c refl refl refl refl) y (subst (λ (v : ℕ). Lex text v y) (sym (taken_place a t)) l)

  -- no arrow function begins with it
  no_line_here : LexemeTaken p q id → NoLineHere p
  no_line_here (a_name k u) = λ text f a. no_arrow_behind a (ap (one_of_kinds binding_identifier_kinds) k) (λ y l e. other_kind Arrow refl (sym (kind_behind a y l) ∙ e))
  no_line_here (a_string k u) = neither (ap (may_name (has_flag yield_flag p.ctx) (has_flag await_flag p.ctx)) k) (λ e w. let z : Str ≡ LParen = sym k ∙ e in absurd (cc))
  no_line_here (a_number k u) = neither (ap (may_name (has_flag yield_flag p.ctx) (has_flag await_flag p.ctx)) k) (λ e w. let z : Decimal ≡ LParen = sym k ∙ e in absurd (cc))

  no_arrow_here : Standing p → NoArrowHere p
  no_arrow_here a = (plain_found a (unmoved refl) (no_async_word (taken_kind (λ k. k ≡ Async → p.token.escaped ≡ false → ⊥) (λ e w. absurd (cc)) (λ e w. absurd (cc)) (λ e w. absurd (cc)) t)) p None None (unmoved refl, no_line_here t) refl).1

  only_here : Standing p → OnlyOperandHere p
  only_here a = only_operand a (λ y. taken_kind (λ k. k ≡ Yield → ⊥) (λ e. absurd (cc)) (λ e. absurd (cc)) (λ e. absurd (cc)) t y.kind) (unmoved refl) (no_arrow_here a)

  -- ---- all of the expression

  pub closed_answers : Standing p → Answers (at Assignment) p q (Ok id)
  closed_answers s = λ text f a. test_alone (only_here s text f a) (short_taken a) (closing_apart (Question ∷ []) q.token.kind c refl refl refl refl) (no_assign_here (short_taken a).answer.at (whole_behind a) (closing_apart assign_operators q.token.kind c refl refl refl refl))

  pub closed_operand : TellsOperand p q (Ok id)
  closed_operand = λ text f a i. operand (short_taken a)

-- ---- what was read

closed_found : {p : Parser} (q : Parser) (found : Option NodeId) → Standing p → ClosesAt p.text p.token.span.end true → TakesLexeme p q found → TakesClosed p q found
closed_found {p} q (Some id) a z t = (t, sign_at (primary_taken a t).answer.at (subst (λ (s : ℕ). ClosesAt p.text s true) (sym (taken_place a t)) z))
closed_found q None a z t = t

pub closed_outcome : {p : Parser} (q : Parser) (r : Result (Option NodeId) Stop) {b : Bool} → Standing p → b ≡ true → ClosesAt p.text p.token.span.end b → MatchResult r (λ found. TakesLexeme p q found) OnlyMemory → MatchResult r (λ found. TakesClosed p q found) OnlyMemory
closed_outcome {p} q (Ok found) a e z t = closed_found q found a (subst (λ (b : Bool). ClosesAt p.text p.token.span.end b) e z) t
closed_outcome q (Err e) a i z t = t

pub some_closed : {p : Parser} (q : Parser) (id : NodeId) (found : Option NodeId) → found ≡ Some id → TakesClosed p q found → TakesClosed p q (Some id)
some_closed {p} q id found e t = subst (TakesClosed p q) e t

pub none_closed : {p : Parser} (q : Parser) (found : Option NodeId) → found ≡ None → TakesClosed p q found → q ≡ p
none_closed {p} q found e t = subst (TakesClosed p q) e t
