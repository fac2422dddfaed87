-- Members that are named by a string (ECMA-262, 15.7): what is told of the node of the string.
use Rattle.std.proofs.Common.{ℕ, ◌≡◌, ◌<◌, Bool, false, List, [], ◌∷◌, length, length-append, sym, ap, ap₂, subst, arith, ◌∙◌}
use Rattle.std.specs.Prelude.{Result, Ok, chars, get_or, slice_range}
use Rattle.std.proofs.lemmas.List.{get_or_at}
use Rattle.js_base.specs.Kinds.{one_of_kinds}
use Rattle.js_base.specs.Spans.{LiesIn}
use Rattle.js_base.specs.Texts.{words}
use Rattle.js_base.specs.declared.kind.Kind.TheVariants.{LBrack, LParen, Str}
use Rattle.js_base.specs.declared.span.Span.{Span}
use Rattle.js_base.specs.part_text.Decoding.{string_units}
use Rattle.js_grammar.specs.Productions.{Flags}
use Rattle.js_grammar.specs.Strings.{string_inside}
use Rattle.js_grammar.specs.Trees.{Label}
use Rattle.laws_primary.specs.js_tree.Nodes.{Node, empty_program, node_at}
use Rattle.laws_primary.specs.js_tree.Sources.{IsString, units_of}
use Rattle.laws_primary.specs.js_tree.declared.id.NodeId.{NodeId}
use Rattle.laws_primary.specs.js_tree.declared.kind.NodeKind.TheVariants as node
use Rattle.laws_primary.specs.js_tree.declared.op.MethodKind.{MethodKind}
use Rattle.laws_primary.specs.js_tree.declared.op.Op.TheVariants as op
use Rattle.laws_primary.specs.js_cursor.Moves.{OnlyMemory}
use Rattle.laws_primary.specs.js_cursor.Parsers.{Parser}
use Rattle.laws_primary.specs.js_cursor.declared.stop.Stop.{Stop}
use Rattle.laws_primary.specs.js_cursor.declared.stop.Stop.TheVariants.{Fatal, NoMemory}
use Rattle.laws_primary.specs.laws_shared.Answers.{Stops}
use Rattle.laws_primary.specs.laws_shared.Moves.{LeafTaken, TakesLeaf}
use Rattle.laws_primary.specs.laws_shared.NodeTexts.{spelled_at}
use Rattle.laws_primary.specs.laws_shared.States.{At}
use Rattle.laws_primary.proofs.PropertyNames.{string_outcome, string_plain}
use Rattle.laws_primary.proofs.laws_shared.NodeTexts.{string_later}
use Rattle.laws_classes.specs.Elements.{Begun, ElementOutcome}
use Rattle.laws_classes.specs.Members.{kind_of_string, members, name_kinds, prefix_kinds, spells_constructor}
use Rattle.laws_classes.specs.Methods.{ReadsMethod}
use Rattle.laws_classes.specs.Names.{KeyRead}
use Rattle.laws_classes.specs.SpecialMethods.{BeginsMethod}
use Rattle.laws_classes.proofs.NamedMethods.{named_method_read}
use Rattle.laws_classes.proofs.NameTests.{string_tested}
use Rattle.laws_classes.proofs.Names.{string_key}
use Rattle.laws_classes.proofs.OtherMembers.{string_method_read}

-- nothing but want of memory keeps it from being read
pub only_memory : (p q : Parser) (F : Type 0) (e : Stop) → OnlyMemory e → Stops p q e F
only_memory p q F Fatal m = absurd m
only_memory p q F NoMemory m = tt

module _ {text : List ℕ} {f : Flags} {p q : Parser} {id : NodeId} (a : At text f p) (k : p.token.kind ≡ Str) (t : TakesLeaf node.StringLiteral op.None p q id) where
  leaf : LeafTaken node.StringLiteral op.None text f p q id
  leaf = t text f a

  pub string_read : KeyRead text f false p q id
  string_read = string_key a k (string_outcome text f p q (Ok id) a (λ j e. no_bracket (sym j ∙ k)) k (string_plain a k) t)
    where
      no_bracket : LBrack ≡ Str → ⊥
      no_bracket e = cc

  -- its node is the last, and spans the string
  pub string_contained : id.0 < length q.nodes
  string_contained = let m = leaf.made.made in let n = ap length m.nodes ∙ length-append leaf.mid.nodes (leaf.made.node ∷ []) in let i = m.number in omega arith

  node_is : node_at q.nodes id ≡ leaf.made.node
  node_is = let m = leaf.made.made in ap (λ (ns : List Node). get_or ns id.0 empty_program) m.nodes ∙ get_or_at leaf.mid.nodes leaf.made.node [] empty_program id.0 (sym m.number)

  span_by : (s : Span) → s.start ≡ p.token.span.start → s.end ≡ p.token.span.end → s ≡ p.token.span
  span_by s i j = ap₂ (λ (x y : ℕ). record { start = x; end = y }) i j

  span_is : (node_at q.nodes id).span ≡ p.token.span
  span_is = ap (λ (n : Node). n.span) node_is ∙ span_by leaf.made.node.span (ap (λ (l : Label). l.span.from) leaf.made.label_is) (ap (λ (l : Label). l.span.to) leaf.made.label_is)

  text_same : q.text ≡ p.text
  text_same = ap (λ (v : Parser). v.text) leaf.made.stays ∙ leaf.moved.same.follows.text

  pub string_lies : LiesIn (node_at q.nodes id).span q.text
  string_lies = subst (λ (v : List ℕ). LiesIn (node_at q.nodes id).span v) (sym text_same) (subst (λ (s : Span). LiesIn s p.text) (sym span_is) a.at.lies)

  pub string_is : IsString (node_at q.nodes id) q.text
  string_is = string_later q.text a k span_is text_same

  units_are : units_of (node_at q.nodes id) q.text ≡ string_units (string_inside (spelled_at p.text p.token))
  units_are = ap (λ (v : List ℕ). string_units (string_inside (chars (slice_range v (node_at q.nodes id).span.start (node_at q.nodes id).span.end)))) text_same ∙ ap (λ (s : Span). string_units (string_inside (chars (slice_range p.text s.start s.end)))) span_is

  -- a method
  pub string_method : {first : Parser} (st : Bool) (w : Parser) (v : Result NodeId Stop) (start : ℕ) → At text f first → Begun st text f first p → start ≡ first.token.span.start → q.token.kind ≡ LParen → (o : MethodKind) → o ≡ kind_of_string st (units_of (node_at q.nodes id) q.text) → ReadsMethod (record { start = start; is_static = st }) o (record { key = id; computed = false }) false false q w v → ElementOutcome text f (members st f) first w v
  unfolding words
  string_method st w v start af b s h o e y =
      let i = e ∙ ap (kind_of_string st) units_are in
      string_method_read st (spells_constructor (string_units (string_inside (spelled_at p.text p.token)))) w v start af b a (ap (one_of_kinds prefix_kinds) k) (ap (one_of_kinds name_kinds) k) s string_read h (string_tested a k)
      (subst (λ (u : MethodKind). ReadsMethod (record { start = start; is_static = st }) u (record { key = id; computed = false }) false false q w v) i y)

  -- the same behind what begins a method of another kind
  pub string_named_method : {first : Parser} {b s : Bool} (st : Bool) (w : Parser) (v : Result NodeId Stop) (start : ℕ) → At text f first → BeginsMethod text f st b s first p → start ≡ first.token.span.start → (o : MethodKind) → o ≡ kind_of_string st (units_of (node_at q.nodes id) q.text) → ReadsMethod (record { start = start; is_static = st }) o (record { key = id; computed = false }) b s q w v → ElementOutcome text f (members st f) first w v
  string_named_method {b = b} {s = s} st w v start af x i o e y =
      named_method_read st false (spells_constructor (string_units (string_inside (spelled_at p.text p.token)))) w v start af x i string_read (string_tested a k)
      (subst (λ (u : MethodKind). ReadsMethod (record { start = start; is_static = st }) u (record { key = id; computed = false }) b s q w v) (e ∙ ap (kind_of_string st) units_are) y)
