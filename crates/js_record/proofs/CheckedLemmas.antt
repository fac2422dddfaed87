-- In a store in which every node is read from the text and stands above its children, each number stands for a tree.
use Rattle.std.proofs.Common.{◌≡◌, ℕ, zero, suc, ◌<◌, true, false, List, [], ◌∷◌, ◌++◌, Option, Some, None, length, get_or, arith, sym, ap, ◌∙◌, subst, true≢false}
use Rattle.std.specs.Prelude.{IsSome, chars}
use Rattle.js_base.specs.part_text.Decoding.{name_text}
use Rattle.js_base.specs.Spans.{LiesIn}
use Rattle.js_base.specs.declared.span.Span.{Span}
use Rattle.js_base.specs.declared.kind.Kind.TheVariants.{Str}
use Rattle.js_grammar.specs.NodeNames.{word_at, characters_at, span_of, without_sign, IsReadAs, IsReadFrom, AreReadFrom}
use Rattle.js_grammar.specs.Strings.{string_kind}
use Rattle.js_grammar.specs.Trees.{Label, Slots, end, hole, tree}
use Rattle.js_tree.specs.declared.id.NodeId.{NodeId}
use Rattle.js_tree.specs.declared.kind.NodeKind.{NodeKind}
use Rattle.js_tree.specs.declared.kind.NodeKind.TheVariants as node
use Rattle.js_tree.specs.Labels.{kind_of}
use Rattle.js_tree.specs.Sources.{text_of}
use Rattle.js_tree.specs.Nodes.{Node, label, empty_program}
use Rattle.js_tree.specs.Holding.{stands, StandsAll, no_slots, next_child, next_hole}
use Rattle.js_record.specs.Checked.{IsUnder, AreSound}
use Rattle.js_record.specs.NodeKinds.{is_name_kind, is_string}
use Rattle.js_record.specs.Shown.{IsTree, IsRead, IsReadWhole}

-- what a kind asks of the text
word_as : (text : List ℕ) (l : Label) (k : NodeKind) → is_name_kind k ≡ true → IsSome (word_at text l) → IsReadAs (kind_of k) text l
word_as text l node.IdentifierReference h w = w
word_as text l node.BindingIdentifier h w = w
word_as text l node.LabelIdentifier h w = w
word_as text l node.IdentifierName h w = w
word_as text l node.PrivateIdentifier h w = w
word_as text l _ h w = absurd (true≢false (sym h))

string_as : (text : List ℕ) (l : Label) (k : NodeKind) → is_string k ≡ true → string_kind (characters_at text l) ≡ Some Str → IsReadAs (kind_of k) text l
string_as text l node.StringLiteral h w = w
string_as text l _ h w = absurd (true≢false (sym h))

other_as : (text : List ℕ) (l : Label) (k : NodeKind) → is_name_kind k ≡ false → is_string k ≡ false → IsReadAs (kind_of k) text l
other_as text l node.IdentifierReference h s = absurd (true≢false h)
other_as text l node.BindingIdentifier h s = absurd (true≢false h)
other_as text l node.LabelIdentifier h s = absurd (true≢false h)
other_as text l node.IdentifierName h s = absurd (true≢false h)
other_as text l node.PrivateIdentifier h s = absurd (true≢false h)
other_as text l node.StringLiteral h s = absurd (true≢false s)
other_as text l _ h s = tt

module _ (n : Node) (text : List ℕ) (s : Span) (k : NodeKind) (se : s ≡ n.span) (ke : k ≡ n.kind) (lies : LiesIn s text) where
  lies_too : LiesIn (span_of (label n)) text
  lies_too = subst (λ (v : Span). LiesIn v text) se lies

  pub word_from : (bs : List ℕ) → bs ≡ text_of n text → is_name_kind k ≡ true → IsSome (name_text (chars (without_sign bs))) → IsReadFrom text (label n)
  word_from bs e h w = (lies_too, word_as text (label n) n.kind (ap is_name_kind (sym ke) ∙ h) (subst (λ (v : List ℕ). IsSome (name_text (chars (without_sign v)))) e w))

  pub string_from : (bs : List ℕ) → bs ≡ text_of n text → is_string k ≡ true → string_kind (chars bs) ≡ Some Str → IsReadFrom text (label n)
  string_from bs e h w = (lies_too, string_as text (label n) n.kind (ap is_string (sym ke) ∙ h) (subst (λ (v : List ℕ). string_kind (chars v) ≡ Some Str) e w))

  pub other_from : is_name_kind k ≡ false → is_string k ≡ false → IsReadFrom text (label n)
  other_from h t = (lies_too, other_as text (label n) n.kind (ap is_name_kind (sym ke) ∙ h) (ap is_string (sym ke) ∙ t))

record Kids (ns : List Node) (text : List ℕ) (b : ℕ) (ids : List (Option NodeId)) : Type 0 where
  pub slots : Slots
  pub numbers : List ℕ
  pub stand : StandsAll ns b ids slots numbers
  pub read : AreReadFrom text slots

module _ (ns : List Node) (text : List ℕ) where
  kids : (b : ℕ) (ids : List (Option NodeId)) → ((c : NodeId) → c.0 < b → IsReadWhole ns text c) → ((k : ℕ) → k < length ids → IsUnder b (get_or ids k None)) → Kids ns text b ids
  kids b [] t u = record { slots = end; numbers = []; stand = no_slots; read = tt }
  kids b (None ∷ ids) t u =
      let m = kids b ids t (λ k h. u (suc k) (omega arith)) in
      record { slots = hole m.slots; numbers = m.numbers; stand = next_hole m.stand; read = m.read }
  kids b (Some c ∷ ids) t u =
      let lt : c.0 < b = u 0 (omega arith) in
      let w = t c lt in
      let m = kids b ids t (λ k h. u (suc k) (omega arith)) in
      record { slots = tree w.label w.slots m.slots; numbers = w.numbers ++ m.numbers; stand = next_child lt w.stands m.stand; read = (w.itself, w.read, m.read) }

  whole_at : AreSound ns text → (n : ℕ) (id : NodeId) → id.0 < n → id.0 < length ns → IsReadWhole ns text id
  whole_at all zero id h w = absurd (omega arith)
  whole_at all (suc n) id h w =
      let a = all id.0 w in
      let k = kids id.0 (get_or ns id.0 empty_program).children (λ c lt. whole_at all n c (omega arith) (omega arith)) a.under in
      record { label = label (get_or ns id.0 empty_program); slots = k.slots; numbers = id.0 ∷ k.numbers; stands = stands id.0 w k.stand; itself = a.read; read = k.read }

  pub read_at : AreSound ns text → (id : NodeId) → id.0 < length ns → IsRead ns text id
  read_at all id w =
      let t = whole_at all (suc id.0) id (omega arith) w in
      record { label = t.label; slots = t.slots; numbers = t.numbers; stands = t.stands; read = t.read }

  pub tree_at : (id : NodeId) → IsRead ns text id → IsTree ns id
  tree_at id t = record { label = t.label; slots = t.slots; numbers = t.numbers; stands = t.stands }
