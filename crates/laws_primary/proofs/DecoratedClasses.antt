-- Classes behind decorators (of the proposal Decorators; no section of ECMA-262): these may stand before each.
use Rattle.std.proofs.Common.{ℕ, ◌≡◌, Bool, true, false, cond, List, ◌++◌, length, Option, refl, sym, ap, subst, ◌∙◌}
use Rattle.std.proofs.lemmas.Bool.{false≢true}
use Rattle.js_base.specs.declared.kind.Kind.{Kind}
use Rattle.js_base.specs.declared.kind.Kind.TheVariants.{At as at_sign, Class as a_class, Ident}
use Rattle.js_base.specs.Kinds.{one_of_kinds}
use Rattle.js_grammar.specs.Trees.{Label, NodeKind, Slots, class_declaration, class_expression, static_block, tree}
use Rattle.js_grammar.specs.Grammar.{nothing, such}
use Rattle.js_grammar.specs.Parsing.{always}
use Rattle.js_grammar.specs.Productions.{Flags, at, Class, ClassExpr, Decorator}
use Rattle.js_grammar.specs.Productions.{sym as symbol}
use Rattle.js_grammar.specs.Follow.{after, row_of}
use Rattle.js_grammar.specs.Insertion.{after_expression}
use Rattle.js_grammar.specs.RightEdges.{same_row}
use Rattle.js_grammar.specs.Table.{rule, rule_of}
use Rattle.js_grammar.proofs.Lexemes.{first_or}
use Rattle.js_grammar.proofs.Looks.{apart, covers}
use Rattle.laws_shared.specs.js_tree.declared.id.NodeId.{NodeId}
use Rattle.laws_shared.specs.js_tree.declared.kind.NodeKind.{NodeKind as NodeKind'}
use Rattle.laws_shared.specs.js_tree.declared.kind.NodeKind.TheVariants as node
use Rattle.laws_shared.specs.js_tree.Holding.{Holds, Keeps}
use Rattle.laws_shared.specs.js_tree.Labels.{kind_of}
use Rattle.laws_shared.specs.js_tree.Nodes.{label, node_at}
use Rattle.laws_shared.proofs.js_tree.HoldingLemmas.{Keeps-made, Keeps-trans}
use Rattle.laws_shared.specs.js_cursor.Parsers.{Parser}
use Rattle.laws_shared.specs.js_cursor.declared.stop.Stop.{Stop}
use Rattle.laws_shared.specs.Answers.{Numbered, Stops, Underived}
use Rattle.laws_shared.specs.Moves.{MadeHere}
use Rattle.laws_shared.specs.NodeTexts.{is_textual}
use Rattle.laws_shared.specs.Stands.{StandsHere}
use Rattle.laws_shared.specs.States.{At, Same}
use Rattle.laws_shared.proofs.Escapes.{keyword_escaped, keyword_plain}
use Rattle.laws_shared.proofs.Giving.{fails_at_word}
use Rattle.laws_shared.proofs.MadeNodes.{held_label, one_lies}
use Rattle.laws_shared.proofs.Moving.{same_both, stops_so}
use Rattle.laws_shared.proofs.Paths.{Path}
use Rattle.laws_shared.proofs.Signs.{other_kind}
use Rattle.laws_primary.specs.Classes.{class_name, node_of_class}
use Rattle.laws_primary.specs.declared.forms.ClassForm.{ClassForm}
use Rattle.laws_primary.specs.declared.forms.ClassForm.TheVariants.{Declaration, Expression}
use Rattle.laws_primary.specs.Decorators.{ClassHere, DecoratorsTaken, NoDecorators, behind_decorators, class_kinds, spanning}
use Rattle.laws_primary.proofs.Decorated.{DecorableSymbol, Slotless, behind_stops, decorated_path, decorators_refuse}
use Rattle.laws_primary.proofs.DecoratedNodes.{decorated_held}
use Rattle.laws_primary.proofs.KeptSlots.{Decorable, a_line, kept_alone, kept_behind}
use Rattle.laws_primary.proofs.Operands.{by_such, not_same}

-- ---- the lines

no_block : class_declaration ≡ static_block → ⊥
no_block q = absurd (cc)

no_block_either : class_expression ≡ static_block → ⊥
no_block_either q = absurd (cc)

pub class_decorable : (f : Flags) → Decorable (symbol Decorator f) behind_decorators static_block (rule (at Class f))
unfolding rule rule_of covers
class_decorable f = a_line no_block refl (kept_behind refl (kept_behind refl (kept_behind refl (kept_behind refl kept_alone))))

pub expression_decorable : (f : Flags) → Decorable (symbol Decorator f) behind_decorators static_block (rule (at ClassExpr f))
unfolding rule rule_of covers
expression_decorable f = a_line no_block_either refl (kept_behind refl (kept_behind refl (kept_behind refl (kept_behind refl kept_alone))))

decorable : (form : ClassForm) (f : Flags) → DecorableSymbol f (at (class_name form) f)
decorable Declaration f = class_decorable f
decorable Expression f = expression_decorable f

slotless : (form : ClassForm) (f : Flags) → Slotless (after (at (class_name form) f))
slotless Declaration f ts us y e = (refl, refl)
slotless Expression f ts us y e = (refl, refl)

-- ---- what stands here

-- no escape stands in what a class begins with
class_plain : (p : Parser) → ClassHere p true → p.token.escaped ≡ false
class_plain p h = go p.token.escaped refl
  where
    go : (b : Bool) → p.token.escaped ≡ b → b ≡ false
    go true e = absurd (false≢true (sym (ap (λ (b : Bool). one_of_kinds class_kinds (cond b Ident p.token.kind)) e) ∙ h))
    go false e = refl

pub class_kind : (p : Parser) → ClassHere p true → one_of_kinds class_kinds p.token.kind ≡ true
class_kind p h = ap (one_of_kinds class_kinds) (sym (keyword_plain p.token (class_plain p h))) ∙ h

-- without a decorator it is its word
pub class_word : (p : Parser) → ClassHere p true → (p.token.kind ≡ at_sign → ⊥) → StandsHere p a_class true
class_word p h n = (word n, class_plain p h)
  where
    word : (p.token.kind ≡ at_sign → ⊥) → p.token.kind ≡ a_class
    word = first_or (λ (k : Kind). (k ≡ at_sign → ⊥) → k ≡ a_class) at_sign p.token.kind _ _ refl (class_kind p h) (λ n. absurd (n refl)) (λ i. first_or (λ (k : Kind). (k ≡ at_sign → ⊥) → k ≡ a_class) a_class p.token.kind _ _ refl i (λ n. refl) (λ i. absurd (false≢true i)))

-- and where it is one of these, a class stands here
pub no_class_here : (p : Parser) (k : Kind) → one_of_kinds class_kinds k ≡ true → ClassHere p false → p.token.kind ≡ k → p.token.escaped ≡ false → ⊥
no_class_here p k i h e n = false≢true (sym h ∙ (ap (one_of_kinds class_kinds) (keyword_plain p.token n ∙ e) ∙ i))

pub class_at : (p : Parser) (k : Kind) → one_of_kinds class_kinds k ≡ true → p.token.kind ≡ k → p.token.escaped ≡ false → ClassHere p true
class_at p k i e n = ap (one_of_kinds class_kinds) (keyword_plain p.token n ∙ e) ∙ i

-- neither its word stands here nor a decorator
pub class_away : (p : Parser) → StandsHere p a_class false → (p.token.kind ≡ at_sign → ⊥) → ClassHere p false
class_away p w n = go p.token.escaped refl
  where
    go : (b : Bool) → p.token.escaped ≡ b → ClassHere p false
    go true e = keyword_escaped p.token class_kinds e refl
    go false e = ap (one_of_kinds class_kinds) (keyword_plain p.token e) ∙ (not_same at_sign p.token.kind _ n ∙ other_kind a_class p.token.kind (λ k. w k e))

pub no_class_there : {text : List ℕ} {f : Flags} {p : Parser} (form : ClassForm) → At text f p → ClassHere p false → Underived text (at (class_name form) f) p.prev_token_end
unfolding covers apart
no_class_there {f = f} Declaration a h = fails_at_word (symbol Class f) class_kinds a refl refl h
no_class_there {f = f} Expression a h = fails_at_word (symbol ClassExpr f) class_kinds a refl refl h

-- ---- the kind of the node

abbrev is_class : NodeKind → Bool
is_class class_declaration = true
is_class class_expression = true
is_class _ = false

of_form : (form : ClassForm) → is_class (node_of_class form) ≡ true
of_form Declaration = refl
of_form Expression = refl

-- a class keeps no text
pub class_untextual : (form : ClassForm) (k : NodeKind') → kind_of k ≡ node_of_class form → is_textual k ≡ false
class_untextual form k e = by k (ap is_class e ∙ of_form form)
  where
    by : (k : NodeKind') → is_class (kind_of k) ≡ true → is_textual k ≡ false
    by node.ClassDeclaration h = refl
    by node.ClassExpression h = refl
    by _ h = absurd (false≢true h)

no_block_of : (form : ClassForm) → node_of_class form ≡ static_block → ⊥
no_block_of Declaration = no_block
no_block_of Expression = no_block_either

row_of_class : (l : Label) (cs : Slots) → l.kind ≡ class_expression → same_row after_expression (row_of l cs) ≡ true
row_of_class l cs e = subst (λ (k : NodeKind). same_row after_expression (row_of (record l { kind = k }) cs) ≡ true) (sym e) refl

-- ---- the answer

pub decorators_stop_class : {text : List ℕ} {f : Flags} {p : Parser} (form : ClassForm) → At text f p → p.token.kind ≡ at_sign → (w : Parser) (e : Stop) → Stops p w e (NoDecorators text f p.prev_token_end) → Stops p w e (Underived text (at (class_name form) f) p.prev_token_end)
decorators_stop_class {f = f} form a k w e z = stops_so _ w e (λ m. decorators_refuse a k (decorable form f) m) z

by_form : {text : List ℕ} {f : Flags} {p r w : Parser} (l : Label) {cs : Slots} {ids : List (Option NodeId)} {made : NodeId} (form : ClassForm) → l.kind ≡ node_of_class form → Same p r → Path text f (after (at (class_name form) f)) (such (at (class_name form) f) always) p nothing r (tree (spanning p.token.span.start r.prev_token_end l) cs) → MadeHere (spanning p.token.span.start r.prev_token_end l) ids r w made
    → Holds w.nodes (length p.nodes) (length w.nodes) made.0 (spanning p.token.span.start r.prev_token_end l) cs → Keeps p.nodes w.nodes → Numbered text f (at (class_name form) f) p w made
by_form l Declaration h b y m g k = by_such y b m.stays (λ z l. refl) refl g k refl (one_lies m)
by_form {p = p} {r = r} l {cs} Expression h b y m g k = by_such y b m.stays (λ z l. refl) (row_of_class (spanning p.token.span.start r.prev_token_end l) cs h) g k refl (one_lies m)

module _ {text : List ℕ} {f : Flags} {p q : Parser} {ids : List (Option NodeId)} (form : ClassForm) (a : At text f p) (k : p.token.kind ≡ at_sign) (x : DecoratorsTaken text f p q ids) (e : q.token.kind ≡ at_sign → ⊥) where
  pub class_stops_behind : (w : Parser) (s : Stop) → Stops q w s (Underived text (at (class_name form) f) q.prev_token_end) → Stops p w s (Underived text (at (class_name form) f) p.prev_token_end)
  class_stops_behind w s y = behind_stops (after (at (class_name form) f)) (at (class_name form) f) a k x e (decorable form f) (slotless form f) w s y

  -- it was made anew
  pub decorated_class : {r w : Parser} {id made : NodeId} {start : ℕ} → Numbered text f (at (class_name form) f) q r id → kind_of (node_at r.nodes id).kind ≡ node_of_class form → start ≡ p.token.span.start → MadeHere (spanning start r.prev_token_end (label (node_at r.nodes id))) ((node_at r.nodes id).children ++ ids) r w made → Numbered text f (at (class_name form) f) p w made
  decorated_class {r} {w} {id} {made} y g s n =
      let its : y.answer.label ≡ label (node_at r.nodes id) = held_label id y.holds in
      let m : MadeHere (spanning p.token.span.start r.prev_token_end y.answer.label) ((node_at r.nodes id).children ++ ids) r w made = subst (λ (l : Label). MadeHere (spanning p.token.span.start r.prev_token_end l) ((node_at r.nodes id).children ++ ids) r w made) (sym its) (subst (λ (v : ℕ). MadeHere (spanning v r.prev_token_end (label (node_at r.nodes id))) ((node_at r.nodes id).children ++ ids) r w made) s n) in
      let z : Path text f (after (at (class_name form) f)) (such (at (class_name form) f) always) q nothing r (tree y.answer.label y.answer.slots) = record { at = y.answer.at; further = y.answer.further; pass = y.answer.pass; walked = y.answer.walked; verdict = y.answer.verdict } in
      let h : y.answer.label.kind ≡ node_of_class form = ap (λ (l : Label). l.kind) its ∙ g in
      let held = decorated_held p q r w x.holds y.keeps y.holds m in
      let whole = decorated_path a k x e (decorable form f) (slotless form f) z (λ i. no_block_of form (sym h ∙ i)) in
      by_form y.answer.label form h (same_both x.same y.answer.same) whole m held (Keeps-trans (Keeps-trans x.keeps y.keeps) (Keeps-made m.made))
