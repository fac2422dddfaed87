-- What nodes of a kind stand for.
use Rattle.std.proofs.Common.{◌≡◌, ℕ, true, false, List, Some, None, refl, sym, ap, true≢false}
use Rattle.std.specs.Prelude.{IsSome}
use Rattle.js_base.specs.declared.kind.Kind.TheVariants.{Str}
use Rattle.js_grammar.specs.ModuleRecords.{NameSpan, imported, namespace_object, imported_default}
use Rattle.js_grammar.specs.Modules.{import_names}
use Rattle.js_grammar.specs.NodeNames.{span_of, word_at, string_at, string_by, name_by, IsReadAs, characters_at}
use Rattle.js_grammar.specs.Strings.{string_kind}
use Rattle.js_grammar.specs.Trees.{Label}
use Rattle.js_tree.specs.declared.kind.NodeKind.{NodeKind}
use Rattle.js_tree.specs.declared.kind.NodeKind.TheVariants as node
use Rattle.js_tree.specs.Labels.{kind_of}
use Rattle.js_record.specs.NodeKinds.{is_name_kind, is_string}

module _ (text : List ℕ) (l : Label) where
  pub word_read : (k : NodeKind) → is_name_kind k ≡ true → IsReadAs (kind_of k) text l → IsSome (word_at text l)
  word_read node.IdentifierReference h r = r
  word_read node.BindingIdentifier h r = r
  word_read node.LabelIdentifier h r = r
  word_read node.IdentifierName h r = r
  word_read node.PrivateIdentifier h r = r
  word_read _ h r = absurd (true≢false (sym h))

  pub word_name : (k : NodeKind) → is_name_kind k ≡ true → name_by (kind_of k) text l ≡ word_at text l
  word_name node.IdentifierReference h = refl
  word_name node.BindingIdentifier h = refl
  word_name node.LabelIdentifier h = refl
  word_name node.IdentifierName h = refl
  word_name node.PrivateIdentifier h = refl
  word_name _ h = absurd (true≢false (sym h))

  pub string_read : (k : NodeKind) → is_string k ≡ true → IsReadAs (kind_of k) text l → string_kind (characters_at text l) ≡ Some Str
  string_read node.StringLiteral h r = r
  string_read _ h r = absurd (true≢false (sym h))

  pub string_name : (k : NodeKind) → is_string k ≡ true → name_by (kind_of k) text l ≡ string_at text l
  string_name node.StringLiteral h = refl
  string_name _ h = absurd (true≢false (sym h))

  pub string_is : (k : NodeKind) → is_string k ≡ true → string_by (kind_of k) text l ≡ string_at text l
  string_is node.StringLiteral h = refl
  string_is _ h = absurd (true≢false (sym h))

  pub no_string : (k : NodeKind) → is_string k ≡ false → string_by (kind_of k) text l ≡ None
  no_string node.StringLiteral h = absurd (true≢false h)
  no_string _ h = refl

  pub no_word : (k : NodeKind) → is_name_kind k ≡ false → is_string k ≡ false → name_by (kind_of k) text l ≡ None
  no_word node.IdentifierReference h s = absurd (true≢false h)
  no_word node.BindingIdentifier h s = absurd (true≢false h)
  no_word node.LabelIdentifier h s = absurd (true≢false h)
  no_word node.IdentifierName h s = absurd (true≢false h)
  no_word node.PrivateIdentifier h s = absurd (true≢false h)
  no_word node.StringLiteral h s = absurd (true≢false s)
  no_word _ h s = refl

-- what an import takes by its kind
module _ (l : Label) (a b : NameSpan) where
  pub default_import : (k : NodeKind) → k ≡ node.ImportDefaultSpecifier → import_names (kind_of k) l a b ≡ (imported_default (span_of l), a)
  default_import k e = ap (λ v. import_names (kind_of v) l a b) e

  pub namespace_import : (k : NodeKind) → k ≡ node.ImportNamespaceSpecifier → import_names (kind_of k) l a b ≡ (namespace_object, a)
  namespace_import k e = ap (λ v. import_names (kind_of v) l a b) e

  pub name_import : (k : NodeKind) → (k ≡ node.ImportDefaultSpecifier → ⊥) → (k ≡ node.ImportNamespaceSpecifier → ⊥) → import_names (kind_of k) l a b ≡ (imported a, b)
  name_import node.ImportDefaultSpecifier d n = absurd (d refl)
  name_import node.ImportNamespaceSpecifier d n = absurd (n refl)
  name_import _ d n = refl
