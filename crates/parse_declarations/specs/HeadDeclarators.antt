-- What is read of the first declarator in the head of a `for` (ECMA-262, 14.7.4, 14.7.5, B.3.5).
use Rattle.std.specs.Prelude.{ℕ, ◌≡◌, ◌<◌, ◌⊎◌, ◌&&◌, not, Bool, true, false, List, [], ◌∷◌, length, Option, Result, Ok, Err}
use Rattle.js_base.specs.declared.kind.Kind.TheVariants.{Comma, In, Of, Semicolon}
use Rattle.js_base.specs.Kinds.{one_of_kinds}
use Rattle.js_grammar.specs.Trees.{Label, Slots, end as no_slots, tree, variable_declarator}
use Rattle.js_grammar.specs.Grammar.{Lexemes, Look, is, empty_slot, nothing, ◌▸◌}
use Rattle.js_grammar.specs.Parsing.{plain, full, Fails}
use Rattle.js_grammar.specs.Productions.{G, Flags, mk, sym, Binding, BindingIdentifier, Init}
use Rattle.js_grammar.specs.Table.{rule, declarator}
use Rattle.parse_shared.specs.js_tree.declared.id.NodeId.{NodeId}
use Rattle.parse_shared.specs.js_tree.Holding.{Holds, HoldsAll, Keeps}
use Rattle.parse_shared.specs.js_cursor.Parsers.{Parser}
use Rattle.parse_shared.specs.js_cursor.declared.stop.Stop.{Stop}
use Rattle.parse_shared.specs.laws_shared.Answers.{Verdict, Stretch, Stops}
use Rattle.parse_shared.specs.laws_shared.Lexemes.{Lex, Walked, spot}
use Rattle.parse_shared.specs.laws_shared.Stands.{StandsHere}
use Rattle.parse_shared.specs.laws_shared.States.{At, Same}
use Rattle.parse_declarations.specs.Declarations.{AllOf, Declarator, NoneOf, NoOne, list_of}
use Rattle.parse_declarations.specs.declared.head.HeadDeclarator.{HeadDeclarator}
use Rattle.parse_declarations.specs.declared.head.HeadForm.{HeadForm}
use Rattle.parse_declarations.specs.declared.head.HeadForm.TheVariants as form

-- `in` or `of`
abbrev pub goes_through : Look
goes_through k w e = one_of_kinds (In ∷ Of ∷ []) k && not e

-- whether one of them stands here
abbrev pub ThroughHere : Parser → Bool → Type 0
ThroughHere p true = StandsHere p In true ⊎ StandsHere p Of true
ThroughHere p false = StandsHere p In false × StandsHere p Of false

-- what is bound alone, as before these
abbrev pub bound_alone : Flags → G
bound_alone f = mk variable_declarator (sym Binding f ▸ empty_slot)

-- a name with an initialiser, as before `in` behind `var` (B.3.5)
abbrev pub named_value : Flags → G
named_value f = mk variable_declarator (sym BindingIdentifier f ▸ sym Init f)

-- whether the first of a list of declarators is a name with an initialiser, or a pattern
abbrev pub InitialisedAs : Bool → HeadForm → Type 0
InitialisedAs true f = f ≡ form.InitialisedName
InitialisedAs false f = f ≡ form.InitialisedPattern

-- What is bound was read, and `in` or `of` stands behind it: neither a list of declarators is derived there nor a name with an initialiser.
pub record BoundThrough (text : List ℕ) (f : Flags) (c : Bool) (p q : Parser) (id : NodeId) : Type 0 where
  pub at : At text f q
  pub same : Same p q
  pub further : p.token.span.start < q.prev_token_end
  pub here : ThroughHere q true
  pub label : Label
  pub slots : Slots
  pub pass : Lexemes → Lexemes
  pub walked : Walked text (spot p) (spot q) pass
  pub verdict : Verdict (f.wide ≡ true) p.errors q.errors (Stretch text (plain full) (bound_alone f) p.prev_token_end nothing q.prev_token_end (tree label slots) pass) (Fails rule (Lex text) (plain full) no_slots (bound_alone f) p.prev_token_end)
  pub no_list : Fails rule (Lex text) (plain (is Semicolon)) no_slots (list_of c f) p.prev_token_end
  pub no_value : Fails rule (Lex text) (plain (is In)) no_slots (named_value f) p.prev_token_end
  pub holds : Holds q.nodes (length p.nodes) (length q.nodes) id.0 label slots
  pub keeps : Keeps p.nodes q.nodes

-- A name with an initialiser was read, as before `in`.
pub record ValueTaken (text : List ℕ) (f : Flags) (p q : Parser) (id : NodeId) : Type 0 where
  pub label : Label
  pub slots : Slots
  pub pass : Lexemes → Lexemes
  pub walked : Walked text (spot p) (spot q) pass
  pub verdict : Verdict (f.wide ≡ true) p.errors q.errors (Stretch text (plain (is In)) (named_value f) p.prev_token_end nothing q.prev_token_end (tree label slots) pass) (Fails rule (Lex text) (plain (is In)) no_slots (named_value f) p.prev_token_end)
  pub holds : Holds q.nodes (length p.nodes) (length q.nodes) id.0 label slots

-- so it was, or none is derived, by the form that was read
abbrev pub ValueRead : HeadForm → List ℕ → Flags → Parser → Parser → NodeId → Type 0
ValueRead form.InitialisedName text f p q id = ValueTaken text f p q id
ValueRead _ text f p q id = Fails rule (Lex text) (plain (is In)) no_slots (named_value f) p.prev_token_end

-- Another declarator was read: before `in` and `of` nothing is bound alone.
pub record BesideThrough (text : List ℕ) (f : Flags) (c : Bool) (g : HeadForm) (p q : Parser) (id : NodeId) : Type 0 where
  pub read : Declarator text f c p q id
  pub not_alone : Fails rule (Lex text) (plain goes_through) no_slots (bound_alone f) p.prev_token_end
  pub value : f.in_ ≡ false → ValueRead g text f p q id

-- none of them is derived
pub record NoHeadDeclarator (text : List ℕ) (f : Flags) (c : Bool) (s : ℕ) : Type 0 where
  pub no_one : NoOne text (declarator c f) s
  pub not_alone : Fails rule (Lex text) (plain goes_through) no_slots (bound_alone f) s
  pub no_value : f.in_ ≡ false → Fails rule (Lex text) (plain (is In)) no_slots (named_value f) s

abbrev pub HeadRead : HeadForm → List ℕ → Flags → Bool → Parser → Parser → HeadDeclarator → Type 0
HeadRead form.Through text f c p q d = BoundThrough text f c p q d.node
HeadRead g text f c p q d = BesideThrough text f c g p q d.node

abbrev pub ReadsHeadDeclarator : Bool → Parser → Parser → Result HeadDeclarator Stop → Type 0
ReadsHeadDeclarator c p q (Ok d) = (text : List ℕ) (f : Flags) → At text f p → HeadRead d.form text f c p q d
ReadsHeadDeclarator c p q (Err e) = (text : List ℕ) (f : Flags) → At text f p → Stops p q e (NoHeadDeclarator text f c p.prev_token_end)

-- ---- the list of a head

-- All declarators were read, from the first one on.
pub record HeadList (text : List ℕ) (f : Flags) (c : Bool) (p q : Parser) (ids : List (Option NodeId)) : Type 0 where
  pub at : At text f q
  pub same : Same p q
  pub further : p.prev_token_end < q.prev_token_end
  pub slots : Slots
  pub pass : Lexemes → Lexemes
  pub walked : Walked text (spot p) (spot q) pass
  pub verdict : Verdict (f.wide ≡ true) p.errors q.errors (AllOf text (list_of c f) p.prev_token_end q.prev_token_end slots pass) (NoneOf text (list_of c f) p.prev_token_end)
  pub holds : HoldsAll q.nodes (length p.nodes) (length q.nodes) ids slots
  pub keeps : Keeps p.nodes q.nodes

-- the first one was read from the state o on; nothing more was, where no comma stands behind it
abbrev pub DeclaratorsBehind : Bool → NodeId → Parser → Parser → List (Option NodeId) → Type 0
DeclaratorsBehind c first p q ids = ((p.token.kind ≡ Comma → ⊥) → q ≡ p) × ((text : List ℕ) (f : Flags) (o : Parser) → At text f o → Declarator text f c o p first → HeadList text f c o q ids)

abbrev pub NoneBehind : Bool → NodeId → Parser → Parser → Stop → Type 0
NoneBehind c first p q e = (text : List ℕ) (f : Flags) (o : Parser) → At text f o → Declarator text f c o p first → Stops o q e (NoneOf text (list_of c f) o.prev_token_end)
