-- What the parse functions of operands answer, from what the calls in them answer.
use Rattle.std.proofs.Common.{ℕ, ◌≡◌, max, List, [], ◌∷◌, Bool, true, false, ◌||◌, IsTrue, refl, sym, subst, arith, ◌∙◌}
use Rattle.std.specs.Prelude.{Result, Ok, Err}
use Rattle.std.proofs.lemmas.Bool.{false≢true}
use Rattle.js_base.specs.declared.kind.Kind.TheVariants.{Minus, Plus, Bang, Tilde, Typeof, Void, Delete, Await}
use Rattle.js_base.specs.declared.kind.Kind.{Kind}
use Rattle.js_base.specs.Kinds.{same_kind, one_of_kinds}
use Rattle.js_grammar.specs.Trees.{Slots, end, tree, Label, unary_expression, await_expression}
use Rattle.js_grammar.specs.Grammar.{Lexeme, Lexemes, seen, such, nothing, alt, when, ◌▸◌}
use Rattle.js_grammar.specs.Parsing.{Test, always, Goes, Fails, still}
use Rattle.js_grammar.specs.Productions.{G, Flags, Symbol, at, tok, mk, op, branches, Unary, Update}
use Rattle.js_grammar.specs.Productions.{sym as symbol}
use Rattle.js_grammar.specs.Table.{rule, rule_of}
use Rattle.js_grammar.specs.Follow.{edge_of, row_of, follow, after}
use Rattle.js_grammar.specs.Insertion.{Row, after_expression, after_postfix, after_body, after_yield, after_declarator, after_word}
use Rattle.js_grammar.specs.RightEdges.{same_row, of_operand, of_assignment, may_end}
use Rattle.js_grammar.proofs.Looks.{covers, apart}
use Rattle.js_grammar.proofs.Calculus.{◌▹◌, ◌▹✗◌, left, by_rule, weaken_on, weaken_fails_on, fails_alt, fails_when}
use Rattle.laws_shared.proofs.Giving.{fails_unescaped}
use Rattle.laws_shared.specs.Operators.{unary_kinds}
use Rattle.laws_shared.proofs.Verdicts.{verdict_of}
use Rattle.js_grammar.proofs.FollowLaws.{passes_on, same_read, fails_by}
use Rattle.js_cursor.specs.js_tree.declared.id.NodeId.{NodeId}
use Rattle.js_cursor.specs.Parsers.{Parser}
use Rattle.js_cursor.specs.declared.stop.Stop.{Stop}
use Rattle.js_cursor.specs.declared.stop.Stop.TheVariants.{Fatal, NoMemory}
use Rattle.laws_shared.specs.Lexemes.{Lex, Plain}
use Rattle.laws_shared.specs.States.{At}
use Rattle.laws_shared.specs.Answers.{Verdict, Stretch, Underived, Numbered, Outcome, beside}
use Rattle.laws_shared.proofs.Dead.{live, lives}
use Rattle.laws_shared.proofs.Paths.{fails_at}
use Rattle.laws_shared.proofs.Tight.{narrowing, plain_reads}
use Rattle.laws_shared.proofs.Signs.{other_kind}
use Rattle.js_base.proofs.KindLemmas.{kind_of_same}

-- what is left of a line, where that is another symbol
pub by_left : (n m : Symbol) → live (rule n) ≡ such m always → (text : List ℕ) (s : ℕ) → Goes rule (Lex text) (after n) end (rule n) s (such m always) s (λ us. us) (still 0)
by_left n m e text s = subst (λ (g : G). Goes rule (Lex text) (after n) end (rule n) s g s (λ us. us) (still 0)) e (lives (rule n))

-- A symbol of which only another one is left is read as this.
module _ (n m : Symbol) (h : passes_on n.name m.name ≡ true) (i : n.flags.in_ ≡ m.flags.in_) (text : List ℕ) (s : ℕ) (g : Goes rule (Lex text) (after n) end (rule n) s (such m always) s (λ us. us) (still 0)) where
  pub lift_fails : Underived text m s → Underived text n s
  lift_fails x = fails_by (g ▹✗ weaken_fails_on x (same_read n m h i))

  pub lift_stretch : {s' : ℕ} {l : Label} {cs : Slots} {pass : Lexemes → Lexemes} → Stretch text (after m) (such m always) s nothing s' (tree l cs) pass → Stretch text (after n) (such n always) s nothing s' (tree l cs) pass
  lift_stretch y = record { reach = max 0 y.reach; near = let k = y.near in omega arith; goes = by_rule {X' = after n} (λ l cs vs z d. d) (g ▹ weaken_on y.goes (same_read n m h i)) refl }

  unfoldable pub lift : {f : Flags} {p q : Parser} {id : NodeId} → p.prev_token_end ≡ s → (x : Numbered text f m p q id) → may_end n.name (row_of x.answer.label x.answer.slots) ≡ true → ((y : Lexeme) → Plain text q.prev_token_end y → IsTrue (seen (follow n (edge_of x.answer.label x.answer.slots)) y || seen beside y)) → Numbered text f n p q id
  lift {f = f} {p = p} {q = q} e x r k = record {
    answer = record {
      at = x.answer.at;
      same = x.answer.same;
      further = x.answer.further;
      label = x.answer.label;
      slots = x.answer.slots;
      stops = k;
      row = r;
      pass = x.answer.pass;
      walked = x.answer.walked;
      verdict = subst (λ (v : ℕ). Verdict (f.wide ≡ true) p.errors q.errors (Stretch text (after n) (such n always) v nothing q.prev_token_end (tree x.answer.label x.answer.slots) x.answer.pass) (Underived text n v)) (sym e)
          (verdict_of (subst (λ (v : ℕ). Verdict (f.wide ≡ true) p.errors q.errors (Stretch text (after m) (such m always) v nothing q.prev_token_end (tree x.answer.label x.answer.slots) x.answer.pass) (Underived text m v)) e x.answer.verdict) (λ y. lift_stretch y) (λ z. lift_fails z));
    };
    holds = x.holds;
    keeps = x.keeps;
  }

-- what the call answered, as an answer of n
module _ (n m : Symbol) (h : passes_on n.name m.name ≡ true) (i : n.flags.in_ ≡ m.flags.in_) where
  pub lift_result : (text : List ℕ) (f : Flags) (p q : Parser) (r : Result NodeId Stop) → Goes rule (Lex text) (after n) end (rule n) p.prev_token_end (such m always) p.prev_token_end (λ us. us) (still 0)
      → ((id : NodeId) (x : Numbered text f m p q id) → may_end n.name (row_of x.answer.label x.answer.slots) ≡ true)
      → ((id : NodeId) (x : Numbered text f m p q id) (y : Lexeme) → Plain text q.prev_token_end y → IsTrue (seen (follow n (edge_of x.answer.label x.answer.slots)) y || seen beside y))
      → Outcome text f m p q r → Outcome text f n p q r
  lift_result text f p q (Ok id) g r k x = lift n m h i text p.prev_token_end g refl x (r id x) (k id x)
  lift_result text f p q (Err Fatal) g r k x = record { at = x.at; follows = x.follows; grown = x.grown; stopped = x.stopped; lies = x.lies; heads = x.heads; none = lift_fails n m h i text p.prev_token_end g x.none }
  lift_result text f p q (Err NoMemory) g r k x = tt

-- What binds an operand less than n, binds it less than m, if it is none of these kinds; the checks compute.
pub narrow_operand : (n m : ℕ) (ks : List Kind) → covers plain_reads (narrowing n m ks true after_expression) ≡ true → covers plain_reads (narrowing n m ks false after_expression) ≡ true → covers plain_reads (narrowing n m ks true after_postfix) ≡ true → covers plain_reads (narrowing n m ks false after_postfix) ≡ true → (b : Bool) (r : Row) → of_operand r ≡ true → covers plain_reads (narrowing n m ks b r) ≡ true
narrow_operand n m ks c d g h true after_expression o = c
narrow_operand n m ks c d g h false after_expression o = d
narrow_operand n m ks c d g h true after_postfix o = g
narrow_operand n m ks c d g h false after_postfix o = h
narrow_operand n m ks c d g h b after_body o = absurd (false≢true o)
narrow_operand n m ks c d g h b after_yield o = absurd (false≢true o)
narrow_operand n m ks c d g h b after_declarator o = absurd (false≢true o)
narrow_operand n m ks c d g h b after_word o = absurd (false≢true o)

-- and so an assignment, which may be a function or a `yield` as well
pub narrow_assignment : (n m : ℕ) (ks : List Kind) → ((b : Bool) (r : Row) → of_operand r ≡ true → covers plain_reads (narrowing n m ks b r) ≡ true) → covers plain_reads (narrowing n m ks true after_body) ≡ true → covers plain_reads (narrowing n m ks false after_body) ≡ true → covers plain_reads (narrowing n m ks true after_yield) ≡ true → covers plain_reads (narrowing n m ks false after_yield) ≡ true → (b : Bool) (r : Row) → of_assignment r ≡ true → covers plain_reads (narrowing n m ks b r) ≡ true
narrow_assignment n m ks a c d g h b after_expression o = a b after_expression refl
narrow_assignment n m ks a c d g h b after_postfix o = a b after_postfix refl
narrow_assignment n m ks a c d g h true after_body o = c
narrow_assignment n m ks a c d g h false after_body o = d
narrow_assignment n m ks a c d g h true after_yield o = g
narrow_assignment n m ks a c d g h false after_yield o = h
narrow_assignment n m ks a c d g h b after_declarator o = absurd (false≢true o)
narrow_assignment n m ks a c d g h b after_word o = absurd (false≢true o)

pub plain_row : (r : Row) → same_row after_expression r ≡ true → r ≡ after_expression
plain_row after_expression h = refl
plain_row after_postfix h = absurd (false≢true h)
plain_row after_body h = absurd (false≢true h)
plain_row after_yield h = absurd (false≢true h)
plain_row after_declarator h = absurd (false≢true h)
plain_row after_word h = absurd (false≢true h)

pub operand_assigned : (r : Row) → of_operand r ≡ true → of_assignment r ≡ true
operand_assigned after_expression h = refl
operand_assigned after_postfix h = refl
operand_assigned after_body h = absurd (false≢true h)
operand_assigned after_yield h = absurd (false≢true h)
operand_assigned after_declarator h = absurd (false≢true h)
operand_assigned after_word h = absurd (false≢true h)

pub primary_operand : (r : Row) → same_row after_expression r ≡ true → of_operand r ≡ true
primary_operand after_expression h = refl
primary_operand after_postfix h = absurd (false≢true h)
primary_operand after_body h = absurd (false≢true h)
primary_operand after_yield h = absurd (false≢true h)
primary_operand after_declarator h = absurd (false≢true h)
primary_operand after_word h = absurd (false≢true h)

abbrev pub unary_part : Flags → G
unary_part f = branches (Minus ∷ Plus ∷ Bang ∷ Tilde ∷ Typeof ∷ Void ∷ Delete ∷ []) (λ o. op unary_expression o (tok o ▸ symbol Unary f))

abbrev pub await_part : Flags → G
await_part f = when f.awaits (mk await_expression (tok Await ▸ symbol Unary f))

unary_left : (f : Flags) → live (rule (at Unary f)) ≡ alt (such (at Update f) always) (alt (unary_part f) (await_part f))
unfolding rule rule_of apart
unary_left f = refl

pub unary_choice : {text : List ℕ} (f : Flags) (s : ℕ) → Goes rule (Lex text) (after (at Unary f)) end (rule (at Unary f)) s (alt (such (at Update f) always) (alt (unary_part f) (await_part f))) s (λ us. us) (still 0)
unary_choice {text} f s = subst (λ (g : G). Goes rule (Lex text) (after (at Unary f)) end (rule (at Unary f)) s g s (λ us. us) (still 0)) (unary_left f) (lives (rule (at Unary f)))

-- no AwaitExpression, where no `await` stands, or it is a name
pub no_await : {text : List ℕ} {f : Flags} {p : Parser} {X : Test} → At text f p → (p.token.kind ≡ Await → f.awaits ≡ false) → Fails rule (Lex text) X end (await_part f) p.prev_token_end
unfolding covers apart
no_await {text} {f} {p} {X} a n = go (same_kind Await p.token.kind) refl
  where
    go : (b : Bool) → same_kind Await p.token.kind ≡ b → Fails rule (Lex text) X end (await_part f) p.prev_token_end
    go true e = fails_when (n (sym (kind_of_same Await p.token.kind e)))
    go false e = fails_at a (await_part f) (Await ∷ []) refl (other_kind Await p.token.kind (λ k. false≢true (sym e ∙ subst (λ (v : Kind). same_kind Await v ≡ true) (sym k) refl)))

-- Answers of a symbol of which only another one is left.

-- where no unary operator stands, and no `await` of an AwaitExpression
pub no_operator : {text : List ℕ} {f : Flags} {p : Parser} → At text f p → one_of_kinds unary_kinds p.token.kind ≡ false → (p.token.kind ≡ Await → f.awaits ≡ false) → Goes rule (Lex text) (after (at Unary f)) end (rule (at Unary f)) p.prev_token_end (such (at Update f) always) p.prev_token_end (λ us. us) (still 0)
unfolding covers apart
no_operator {text} {f} {p} a n m = unary_choice f p.prev_token_end ▹ left (fails_alt (fails_at a {X = after (at Unary f)} (unary_part f) unary_kinds refl n) (no_await a m))

-- nor where the word there has an escape
pub no_operator_escaped : {text : List ℕ} {f : Flags} {p : Parser} → At text f p → p.token.escaped ≡ true → Goes rule (Lex text) (after (at Unary f)) end (rule (at Unary f)) p.prev_token_end (such (at Update f) always) p.prev_token_end (λ us. us) (still 0)
unfolding covers apart
no_operator_escaped {text} {f} {p} a e = unary_choice f p.prev_token_end ▹ left (fails_alt (fails_unescaped {X = after (at Unary f)} (unary_part f) a refl e) (fails_unescaped {X = after (at Unary f)} (await_part f) a refl e))

pub unary_escaped : {text : List ℕ} {f : Flags} {p : Parser} (q : Parser) (r : Result NodeId Stop) → At text f p → p.token.escaped ≡ true → Outcome text f (at Update f) p q r → Outcome text f (at Unary f) p q r
unfolding covers
unary_escaped {text} {f} {p} q r a e x = lift_result (at Unary f) (at Update f) refl refl text f p q r (no_operator_escaped a e) (λ i y. y.answer.row) (λ i y z l. y.answer.stops z l) x

pub unary_result : {text : List ℕ} {f : Flags} {p : Parser} (q : Parser) (r : Result NodeId Stop) → At text f p → one_of_kinds unary_kinds p.token.kind ≡ false → (p.token.kind ≡ Await → f.awaits ≡ false) → Outcome text f (at Update f) p q r → Outcome text f (at Unary f) p q r
unfolding covers
unary_result {text} {f} {p} q r a n m x = lift_result (at Unary f) (at Update f) refl refl text f p q r (no_operator a n m) (λ i y. y.answer.row) (λ i y z l. y.answer.stops z l) x
