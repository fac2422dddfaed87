-- What the parse functions of SuperProperty and SuperCall answer (ECMA-262, 13.3).
use Rattle.std.specs.Prelude.{ℕ, ◌≡◌, ◌⊎◌, Bool, true, false, List, Result, Ok, Err}
use Rattle.js_base.specs.declared.diagnostic.Diagnostic.{Diagnostic}
use Rattle.js_base.specs.declared.diagnostic.DiagnosticKind.TheVariants as fault
use Rattle.js_base.specs.declared.kind.Kind.TheVariants.{Super as super_kind}
use Rattle.js_base.specs.declared.span.Span.{Span}
use Rattle.js_grammar.specs.Productions.{Flags}
use Rattle.js_grammar.specs.Trees.{NodeKind as TreeKind, private_field_expression}
use Rattle.laws_shared.specs.js_tree.declared.id.NodeId.{NodeId}
use Rattle.laws_shared.specs.js_tree.Labels.{kind_of}
use Rattle.laws_shared.specs.js_tree.Nodes.{node_at}
use Rattle.laws_shared.specs.js_cursor.Moves.{KeepsDiagnostic}
use Rattle.laws_shared.specs.js_cursor.Parsers.{Parser}
use Rattle.laws_shared.specs.js_cursor.declared.stop.Stop.{Stop}
use Rattle.laws_primary.specs.Members.{LinkHere, MemberSoFar, NoMember, SuperWord, Taken}
use Rattle.laws_primary.specs.declared.forms.LinkBase.TheVariants as base
use Rattle.laws_shared.specs.Answers.{Stops}
use Rattle.laws_shared.specs.Stands.{StandsHere}
use Rattle.laws_shared.specs.States.{At}
use Rattle.laws_shared.specs.Told.{unrelated_at}

-- what is told of `super` before none of `.`, `[` and `(`, and of `super` and its arguments behind `new`
abbrev pub alone_at : Span → Diagnostic
alone_at s = unrelated_at fault.UnexpectedSuper s

abbrev pub callee_from : ℕ → ℕ → Diagnostic
callee_from from to = unrelated_at fault.NewSuper (record { start = from; end = to })

-- That was told, where none of the three stands; or one does.
abbrev pub ChecksSuper : Span → Parser → Parser → Type 0
ChecksSuper span old new = (LinkHere old base.Call false × KeepsDiagnostic (alone_at span) old new) ⊎ (LinkHere old base.Call true × (new ≡ old))

-- That was told of the word alone, from a place on; or something else was read.
abbrev pub ChecksCallee : Bool → ℕ → Parser → Parser → Type 0
ChecksCallee word start old new = ((word ≡ true) × KeepsDiagnostic (callee_from start old.prev_token_end) old new) ⊎ ((word ≡ false) × (new ≡ old))

-- the word, before one of the three
abbrev pub SuperTaken : List ℕ → Flags → Parser → Parser → NodeId → Type 0
SuperTaken text f p q id = Taken text f p q id (λ l cs pass s'. SuperWord text f p.prev_token_end l cs pass s' × LinkHere q base.Call true) (NoMember text f p.prev_token_end)

abbrev pub SuperOutcome : List ℕ → Flags → Parser → Parser → Result NodeId Stop → Type 0
SuperOutcome text f p q (Ok id) = SuperTaken text f p q id
SuperOutcome text f p q (Err e) = Stops p q e (NoMember text f p.prev_token_end)

abbrev pub TakesSuper : Parser → Parser → Result NodeId Stop → Type 0
TakesSuper p q r = (text : List ℕ) (f : Flags) → At text f p → SuperOutcome text f p q r

-- ---- a private name behind it

-- what is told of it and the word
abbrev pub private_from : ℕ → ℕ → Diagnostic
private_from from to = unrelated_at fault.SuperPrivate (record { start = from; end = to })

abbrev pub is_private_member : TreeKind → Bool
is_private_member private_field_expression = true
is_private_member _ = false

-- the node is a member with a private name
abbrev pub is_private_node : Parser → NodeId → Bool
is_private_node p id = is_private_member (kind_of (node_at p.nodes id).kind)

-- That was told of a member from a place on, which has such a name; or it has none.
abbrev pub ChecksMember : Bool → ℕ → Parser → Parser → Type 0
ChecksMember private start old new = ((private ≡ true) × KeepsDiagnostic (private_from start old.prev_token_end) old new) ⊎ ((private ≡ false) × (new ≡ old))

-- a SuperProperty, unless it has such a name: then no member is derived
abbrev pub PropertyTaken : List ℕ → Flags → Parser → Parser → NodeId → Type 0
PropertyTaken text f o q id = Taken text f o q id (λ l cs pass s'. is_private_node q id ≡ false → MemberSoFar text f o.prev_token_end o.token.span.start l cs pass s') (NoMember text f o.prev_token_end) × (is_private_node q id ≡ true → NoMember text f o.prev_token_end)

abbrev pub PropertyOutcome : List ℕ → Flags → Parser → Parser → Result NodeId Stop → Type 0
PropertyOutcome text f o q (Ok id) = PropertyTaken text f o q id
PropertyOutcome text f o q (Err e) = Stops o q e (NoMember text f o.prev_token_end)

abbrev pub GoesOnSuper : ℕ → NodeId → Parser → Parser → Result NodeId Stop → Type 0
GoesOnSuper start word p q r = (text : List ℕ) (f : Flags) (o : Parser) → At text f o → StandsHere o super_kind true → start ≡ o.token.span.start → SuperTaken text f o p word → PropertyOutcome text f o q r
