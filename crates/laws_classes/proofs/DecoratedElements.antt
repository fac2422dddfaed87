-- Elements of classes behind decorators (of the proposal Decorators; no section of ECMA-262): these may stand before each but a static block.
use Rattle.std.proofs.Common.{ℕ, ◌≡◌, Bool, true, false, List, ◌++◌, length, Option, refl, sym, ap, subst, arith, ◌∙◌}
use Rattle.std.proofs.lemmas.Bool.{false≢true}
use Rattle.js_base.specs.declared.diagnostic.Diagnostic.{Diagnostic}
use Rattle.js_base.specs.declared.diagnostic.DiagnosticKind.TheVariants.{DecoratorsAreNotValidHere}
use Rattle.js_base.specs.declared.kind.Kind.TheVariants.{At as at_sign, Undetermined}
use Rattle.js_base.specs.declared.source_type.SourceType.{SourceType}
use Rattle.js_base.specs.declared.span.Span.{Span}
use Rattle.js_grammar.specs.Trees.{Label, NodeKind, Op, accessor_property, method_definition, property_definition, static_block, tree}
use Rattle.js_grammar.specs.Grammar.{exact, keep, kept, many, node, nothing, such, ◌▸◌}
use Rattle.js_grammar.specs.Marks.{Mark}
use Rattle.js_grammar.specs.Parsing.{always, full}
use Rattle.js_grammar.specs.Productions.{G, Flags, at, Decorator, Element}
use Rattle.js_grammar.specs.Productions.{sym as symbol}
use Rattle.js_grammar.specs.Table.{rule, rule_of}
use Rattle.js_grammar.specs.FirstSets.{first}
use Rattle.js_grammar.proofs.Looks.{covers}
use Rattle.js_grammar.proofs.First.{starts}
use Rattle.laws_primary.specs.Decorators.{DecoratorsTaken, NoDecorators, behind_decorators, spanning}
use Rattle.laws_primary.specs.js_tree.declared.id.NodeId.{NodeId}
use Rattle.laws_primary.specs.js_tree.declared.kind.NodeKind.{NodeKind as NodeKind'}
use Rattle.laws_primary.specs.js_tree.declared.kind.NodeKind.TheVariants as node
use Rattle.laws_primary.specs.js_tree.Holding.{Holds, Keeps}
use Rattle.laws_primary.specs.js_tree.Labels.{kind_of}
use Rattle.laws_primary.specs.js_tree.Nodes.{Node, label, node_at}
use Rattle.laws_primary.specs.js_cursor.Moves.{KeepsDiagnostic}
use Rattle.laws_primary.specs.js_cursor.Parsers.{Parser}
use Rattle.laws_primary.specs.js_cursor.Places.{goal}
use Rattle.laws_primary.specs.js_cursor.declared.stop.Stop.{Stop}
use Rattle.laws_primary.specs.laws_shared.js_lex.States.{goal_of}
use Rattle.laws_primary.specs.laws_shared.Answers.{Stops, unclean}
use Rattle.laws_primary.specs.laws_shared.Classes.{IsEarly}
use Rattle.laws_primary.specs.laws_shared.Lexemes.{spot}
use Rattle.laws_primary.specs.laws_shared.Moves.{MadeHere}
use Rattle.laws_primary.specs.laws_shared.NodeTexts.{is_textual}
use Rattle.laws_primary.specs.laws_shared.States.{At}
use Rattle.laws_primary.specs.laws_shared.Told.{unrelated_at}
use Rattle.laws_primary.proofs.laws_shared.js_tree.HoldingLemmas.{Holds-wider, Keeps-longer, Keeps-made, Keeps-trans}
use Rattle.laws_primary.proofs.laws_shared.Giving.{kept_one}
use Rattle.laws_primary.proofs.laws_shared.MadeNodes.{held_label, one_lies}
use Rattle.laws_primary.proofs.laws_shared.Moving.{same_both, stops_so}
use Rattle.laws_primary.proofs.laws_shared.Paths.{Path, walked_both, walked_to}
use Rattle.laws_primary.proofs.laws_shared.Told.{told_at, told_same}
use Rattle.laws_primary.proofs.laws_shared.Verdicts.{after as grown_behind}
use Rattle.laws_primary.proofs.Decorated.{behind_stops, block_refused, decorated_path, decorators_refuse}
use Rattle.laws_primary.proofs.DecoratedNodes.{decorated_held}
use Rattle.laws_primary.proofs.KeptSlots.{Decorable, a_bare_line, a_choice, a_line, kept_alone, kept_behind, without_kept}
use Rattle.parse_declarations.proofs.SpansMarked.{span_marked}
use Rattle.laws_classes.specs.Elements.{ElementTaken, NoElement, behind_element, is_element}
use Rattle.laws_classes.specs.Members.{forms}
use Rattle.laws_classes.proofs.Elements.{element_answers}

-- ---- the lines

abbrev pub ElementLine : Flags → G → Type 0
ElementLine f g = Decorable (symbol Decorator f) behind_decorators static_block g

no_block_method : method_definition ≡ static_block → ⊥
no_block_method q = absurd (cc)

no_block_property : property_definition ≡ static_block → ⊥
no_block_property q = absurd (cc)

no_block_accessor : accessor_property ≡ static_block → ⊥
no_block_accessor q = absurd (cc)

-- a line of the table: `static` or none, and g
element_line : {f : Flags} {k : NodeKind} {o : Op} {fl : ℕ} {a g : G} → (k ≡ static_block → ⊥) → covers (starts first (a ▸ g ▸ kept) full) behind_decorators ≡ true → without_kept a ≡ true → without_kept g ≡ true → ElementLine f (node (record { kind = k; op = o; flags = fl; extent = exact }) (keep (many (symbol Decorator f)) (a ▸ g ▸ kept)))
element_line i c w v = a_line i c (kept_behind w (kept_behind v kept_alone))

-- with `static` or without, and of a name in brackets or of another one
element_lines : (st c : Bool) (f : Flags) → ElementLine f (forms st c f)
unfolding covers
element_lines false false f = a_choice (element_line no_block_method refl refl refl) (a_choice (element_line no_block_method refl refl refl) (a_choice (element_line no_block_method refl refl refl) (a_choice (element_line no_block_property refl refl refl) (element_line no_block_accessor refl refl refl))))
element_lines false true f = a_choice (element_line no_block_method refl refl refl) (a_choice (element_line no_block_method refl refl refl) (a_choice (element_line no_block_method refl refl refl) (a_choice (element_line no_block_property refl refl refl) (element_line no_block_accessor refl refl refl))))
element_lines true false f = a_choice (element_line no_block_method refl refl refl) (a_choice (element_line no_block_method refl refl refl) (a_choice (element_line no_block_method refl refl refl) (a_choice (element_line no_block_property refl refl refl) (element_line no_block_accessor refl refl refl))))
element_lines true true f = a_choice (element_line no_block_method refl refl refl) (a_choice (element_line no_block_method refl refl refl) (a_choice (element_line no_block_method refl refl refl) (a_choice (element_line no_block_property refl refl refl) (element_line no_block_accessor refl refl refl))))

pub element_choice : (f : Flags) → ElementLine f (rule (at Element f))
unfolding rule rule_of covers
element_choice f = a_choice (a_choice (a_choice (element_lines false false f) (element_lines false true f)) (a_choice (element_lines true false f) (element_lines true true f))) (a_choice (element_line no_block_method refl refl refl) (a_bare_line refl refl))

-- ---- kinds of nodes

-- an element keeps no text
pub element_untextual : (k : NodeKind') → is_element (kind_of k) ≡ true → is_textual k ≡ false
element_untextual node.MethodDefinition h = refl
element_untextual node.PropertyDefinition h = refl
element_untextual node.AccessorProperty h = refl
element_untextual node.StaticBlock h = refl
element_untextual _ h = absurd (false≢true h)

abbrev is_block : NodeKind → Bool
is_block static_block = true
is_block _ = false

of_block : (k : NodeKind') → is_block (kind_of k) ≡ true → k ≡ node.StaticBlock
of_block node.StaticBlock h = refl
of_block _ h = absurd (false≢true h)

-- ---- the answer

-- decorators that can't be read
pub decorators_stop : {text : List ℕ} {f : Flags} {p : Parser} → At text f p → p.token.kind ≡ at_sign → (w : Parser) (e : Stop) → Stops p w e (NoDecorators text f p.prev_token_end) → Stops p w e (NoElement text (symbol Element f) p.prev_token_end)
decorators_stop {f = f} a k w e z = stops_so _ w e (λ m. decorators_refuse a k (element_choice f) m) z

module _ {text : List ℕ} {f : Flags} {p q : Parser} {ids : List (Option NodeId)} (a : At text f p) (k : p.token.kind ≡ at_sign) (x : DecoratorsTaken text f p q ids) (e : q.token.kind ≡ at_sign → ⊥) where
  pub element_stops_behind : (w : Parser) (s : Stop) → Stops q w s (NoElement text (symbol Element f) q.prev_token_end) → Stops p w s (NoElement text (symbol Element f) p.prev_token_end)
  element_stops_behind w s y = behind_stops behind_element (at Element f) a k x e (element_choice f) (λ ts us y z. z) w s y

  module _ {r : Parser} {id : NodeId} (y : ElementTaken text f (symbol Element f) q r id) where
    element_path : Path text f behind_element (such (at Element f) always) q nothing r (tree y.label y.slots)
    element_path = record { at = y.at; further = y.further; pass = y.pass; walked = y.walked; verdict = y.verdict }

    its_label : y.label ≡ label (node_at r.nodes id)
    its_label = held_label id y.holds

    pub its_text : is_textual (node_at r.nodes id).kind ≡ false
    its_text = element_untextual (node_at r.nodes id).kind (ap (λ (l : Label). is_element l.kind) (sym its_label) ∙ y.element)

    -- it was made anew
    pub decorated_element : {w : Parser} {made : NodeId} {start : ℕ} → ((node_at r.nodes id).kind ≡ node.StaticBlock → ⊥) → start ≡ p.token.span.start → MadeHere (spanning start r.prev_token_end (label (node_at r.nodes id))) ((node_at r.nodes id).children ++ ids) r w made → ElementTaken text f (symbol Element f) p w made
    decorated_element {w} {made} b s n =
        let m : MadeHere (spanning p.token.span.start r.prev_token_end y.label) ((node_at r.nodes id).children ++ ids) r w made = subst (λ (l : Label). MadeHere (spanning p.token.span.start r.prev_token_end l) ((node_at r.nodes id).children ++ ids) r w made) (sym its_label) (subst (λ (v : ℕ). MadeHere (spanning v r.prev_token_end (label (node_at r.nodes id))) ((node_at r.nodes id).children ++ ids) r w made) s n) in
        let none : y.label.kind ≡ static_block → ⊥ = λ i. b (of_block (node_at r.nodes id).kind (ap (λ (l : Label). is_block l.kind) (sym its_label) ∙ ap is_block i)) in
        element_answers (same_both x.same y.same) m.stays (decorated_held p q r w x.holds y.keeps y.holds m) (Keeps-trans (Keeps-trans x.keeps y.keeps) (Keeps-made m.made)) refl (one_lies m) y.element (decorated_path a k x e (element_choice f) (λ ts us y z. z) element_path none)

    -- of a static block it is told that none may stand before it
    pub block_marked : (s : Span) {d : Diagnostic} → (p.token.kind ≡ Undetermined → ⊥) → d ≡ unrelated_at DecoratorsAreNotValidHere s → s.start ≡ p.token.span.start → s.end ≡ q.prev_token_end → Mark (goal r) r.text d
    block_marked s {d} n g i j = subst (λ (t : List ℕ). Mark (goal r) t d) (sym y.same.follows.text) (subst (λ (v : SourceType). Mark (goal_of v) q.text d) (sym y.same.follows.source_type) (span_marked a n x.at x.same x.walked x.further DecoratorsAreNotValidHere s g (λ s i j. ((i, j), (refl, refl))) i j))

    pub block_told : {v : Parser} {d : Diagnostic} → (node_at r.nodes id).kind ≡ node.StaticBlock → KeepsDiagnostic d r v → IsEarly d → ElementTaken text f (symbol Element f) p v id
    block_told {v} b t i =
        let nodes : v.nodes ≡ r.nodes = ap (λ (z : Parser). z.nodes) t.is in
        let place : v.prev_token_end ≡ r.prev_token_end = ap (λ (z : Parser). z.prev_token_end) t.is in
        let h : Holds r.nodes (length p.nodes) (length r.nodes) id.0 y.label y.slots = wider in
        record {
          at = told_at t y.at;
          same = same_both (same_both x.same y.same) (told_same t i);
          further = let i = x.further in let j = y.further in let d = x.at.behind in omega arith;
          label = y.label;
          element = y.element;
          slots = y.slots;
          pass = λ ls. x.pass (y.pass ls);
          walked = walked_to (sym (ap spot t.is)) (walked_both x.walked y.walked);
          verdict = unclean (grown_behind x.verdict (grown_behind y.verdict (kept_one t))) (block_refused a k x e (element_choice f) (λ ts us y z. z) element_path (ap (λ (l : Label). l.kind) its_label ∙ ap kind_of b));
          holds = subst (λ (ns : List Node). Holds ns (length p.nodes) (length ns) id.0 y.label y.slots) (sym nodes) h;
          keeps = subst (λ (ns : List Node). Keeps p.nodes ns) (sym nodes) (Keeps-trans x.keeps y.keeps);
        }
      where
        wider : Holds r.nodes (length p.nodes) (length r.nodes) id.0 y.label y.slots
        wider = Holds-wider (length p.nodes) (length r.nodes) (Keeps-longer x.keeps) (omega arith) y.holds
