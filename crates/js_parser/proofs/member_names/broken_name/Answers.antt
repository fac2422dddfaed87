use Rattle.std.proofs.Common.{◌≡◌, ◌&&◌, ℕ, Bool, true, false, List, None, Option, cond, codes, ap, refl, sym, ◌∙◌}
use Rattle.js_base.specs.declared.diagnostic.DiagnosticKind.{DiagnosticKind}
use Rattle.js_base.specs.declared.diagnostic.DiagnosticKind.TheVariants.{PrivateNameConstructor, StaticPrototype}
use Rattle.js_tree.specs.declared.flags.NodeFlags.{NodeFlags}
use Rattle.js_tree.specs.declared.id.NodeId.{NodeId}
use Rattle.js_tree.specs.Labels.{kind_of}
use Rattle.js_tree.specs.Nodes.{Node, label, node_at}
use Rattle.js_parser.specs.Broken.{name_rule_at}
use Rattle.js_parser.specs.MemberNodes.{constructor_fault_at, key_at}
use Rattle.js_grammar.specs.EarlyRules.{is_named, is_private_constructor}
use Rattle.js_parser.proofs.MemberNames.{decided, keyed, rule_at_key, private_told, computed_told, prototype_told, constructor_told, fault_none}
use Rattle.js_parser.proofs.member_names.broken_name.Goals as goal
use Rattle.std.specs.Prelude.{Some}

-- What is asked of the key, one after another.
module _ (text : List ℕ) (ns : List Node) (id key : NodeId) (k : key_at ns id ≡ Some key) where
  abbrev private : Bool
  private = is_private_constructor text (kind_of (node_at ns key).kind) (label (node_at ns key))

  abbrev computed : Bool
  computed = (node_at ns id).flags.computed

  abbrev prototype : Bool
  prototype = (node_at ns id).flags.is_static && is_named text (kind_of (node_at ns key).kind) (codes "prototype") (label (node_at ns key))

  abbrev constructor : Bool
  constructor = is_named text (kind_of (node_at ns key).kind) (codes "constructor") (label (node_at ns key))

  abbrev fault : Option DiagnosticKind
  fault = constructor_fault_at ns id

  rule_is : name_rule_at text ns id ≡ decided private computed prototype constructor fault
  rule_is = rule_at_key text ns id key (keyed ns id key k)

  by_private : private ≡ true → name_rule_at text ns id ≡ Some PrivateNameConstructor
  by_private e = rule_is ∙ private_told private computed prototype constructor fault e

  by_computed : private ≡ false → computed ≡ true → name_rule_at text ns id ≡ None
  by_computed e f = rule_is ∙ computed_told private computed prototype constructor fault e f

  by_prototype : private ≡ false → computed ≡ false → prototype ≡ true → name_rule_at text ns id ≡ Some StaticPrototype
  by_prototype e f g = rule_is ∙ prototype_told private computed prototype constructor fault e f g

  named : (b : Bool) → private ≡ false → computed ≡ false → prototype ≡ false → constructor ≡ b → name_rule_at text ns id ≡ cond b fault None
  named b e f g h = rule_is ∙ (constructor_told private computed prototype constructor fault e f g ∙ ap (λ (v : Bool). cond v fault None) h)

pub returns-then-is_private_constructor : goal.returns-then-is_private_constructor
returns-then-is_private_constructor c = sym (by_private c.args.source.now c.args.tree.now c.args.id c.args.key c.requires.key (sym c.is_private_constructor.ensures ∙ c.if-is_private_constructor.true))

pub returns-then-flags : goal.returns-then-flags
returns-then-flags c = sym (by_computed c.args.source.now c.args.tree.now c.args.id c.args.key c.requires.key (sym c.is_private_constructor.ensures ∙ c.if-is_private_constructor.false) (ap (λ (g : NodeFlags). g.computed) (sym c.flags.ensures) ∙ c.if-flags.true))

pub returns-then-branch : goal.returns-then-branch
returns-then-branch c = sym (by_prototype c.args.source.now c.args.tree.now c.args.id c.args.key c.requires.key (sym c.is_private_constructor.ensures ∙ c.if-is_private_constructor.false) (ap (λ (g : NodeFlags). g.computed) (sym c.flags.ensures) ∙ c.if-flags.false) (sym c.in_ok-is_static_prototype.ensures ∙ (let e : c.in_ok-is_static_prototype.field-0 ≡ true = search in e)))

pub returns-in_default : goal.returns-in_default
returns-in_default c = sym (named c.args.source.now c.args.tree.now c.args.id c.args.key c.requires.key _ (sym c.is_private_constructor.ensures ∙ c.if-is_private_constructor.false) (ap (λ (g : NodeFlags). g.computed) (sym c.flags.ensures) ∙ c.if-flags.false) (sym c.in_ok-is_static_prototype.ensures ∙ (let e : c.in_ok-is_static_prototype.field-0 ≡ false = search in e)) refl ∙ fault_none _ _ (sym c.constructor_fault.ensures ∙ c.in_default.is))

pub returns-then-branch-2 : goal.returns-then-branch-2
returns-then-branch-2 c = sym (named c.args.source.now c.args.tree.now c.args.id c.args.key c.requires.key true (sym c.is_private_constructor.ensures ∙ c.if-is_private_constructor.false) (ap (λ (g : NodeFlags). g.computed) (sym c.flags.ensures) ∙ c.if-flags.false) (sym c.in_ok-is_static_prototype.ensures ∙ (let e : c.in_ok-is_static_prototype.field-0 ≡ false = search in e)) (sym c.in_ok-is_named.ensures ∙ (let e : c.in_ok-is_named.field-0 ≡ true = search in e)) ∙ (sym c.constructor_fault.ensures ∙ c.in-Some.is))

pub returns : goal.returns
returns c = sym (named c.args.source.now c.args.tree.now c.args.id c.args.key c.requires.key false (sym c.is_private_constructor.ensures ∙ c.if-is_private_constructor.false) (ap (λ (g : NodeFlags). g.computed) (sym c.flags.ensures) ∙ c.if-flags.false) (sym c.in_ok-is_static_prototype.ensures ∙ (let e : c.in_ok-is_static_prototype.field-0 ≡ false = search in e)) (sym c.in_ok-is_named.ensures ∙ (let e : c.in_ok-is_named.field-0 ≡ false = search in e)))
