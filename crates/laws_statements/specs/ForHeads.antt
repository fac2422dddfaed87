-- The heads of `for` statements, between their parentheses (ECMA-262, 14.7.4, 14.7.5, B.3.5).
use Rattle.std.specs.Prelude.{ℕ, ◌≡◌, ◌≤◌, ◌⊎◌, Bool, true, false, List, [], ◌∷◌, length, Option, Result, Ok, Err, cond}
use Rattle.js_base.specs.declared.diagnostic.Diagnostic.{Diagnostic}
use Rattle.js_base.specs.declared.kind.Kind.{Kind}
use Rattle.js_base.specs.declared.kind.Kind.TheVariants as kind
use Rattle.js_base.specs.Kinds.{same_kind}
use Rattle.js_grammar.specs.Trees.{Slots, append, hole, tree, end as no_slots, variable_declaration, variable_declarator}
use Rattle.js_grammar.specs.Grammar.{Lexemes, is, nothing, ◌▸◌, ◌◇◌}
use Rattle.js_grammar.specs.Parsing.{plain, full, Fails}
use Rattle.js_grammar.specs.Productions.{G, Flags, Name, if_next, minus_in, mk, not_then, op, other, parens, slot, sym, tok, word_or, Assignment, BindingIdentifier, Expression, For, ForIn, ForInit, ForOf, Init, Target}
use Rattle.js_grammar.specs.Table.{rule, for_binding}
use Rattle.laws_shared.specs.js_tree.declared.id.NodeId.{NodeId}
use Rattle.laws_shared.specs.js_tree.declared.kind.NodeKind.{NodeKind}
use Rattle.laws_shared.specs.js_tree.declared.kind.NodeKind.TheVariants as node
use Rattle.laws_shared.specs.js_tree.Holding.{HoldsAll, Keeps}
use Rattle.laws_shared.specs.js_cursor.Parsers.{Parser}
use Rattle.laws_shared.specs.js_cursor.declared.stop.Stop.{Stop}
use Rattle.laws_shared.specs.Answers.{Grown, Verdict, Stretch, Stops}
use Rattle.laws_shared.specs.Lexemes.{Lex, Walked, spot}
use Rattle.laws_shared.specs.Stands.{StandsHere}
use Rattle.laws_shared.specs.States.{At, Same}
use Rattle.laws_shared.specs.Paths.{Path}
use Rattle.laws_statements.specs.declared.forms.Ending.{Ending}
use Rattle.laws_statements.specs.declared.forms.Ending.TheVariants as ending

-- ---- the three lines

-- the lexeme that ends the first part
abbrev pub end_kind : Ending → Kind
end_kind ending.Semicolon = kind.Semicolon
end_kind ending.In = kind.In
end_kind ending.Of = kind.Of

abbrev pub node_of : Ending → NodeKind
node_of ending.Semicolon = node.ForStatement
node_of ending.In = node.ForInStatement
node_of ending.Of = node.ForOfStatement

abbrev pub name_of : Ending → Name
name_of ending.Semicolon = For
name_of ending.In = ForIn
name_of ending.Of = ForOf

-- the first part of the head, by what ends it; with w, behind `await`, which the line with `of` alone has
abbrev pub first_part : Bool → Ending → Flags → G
first_part w ending.Semicolon f = slot (sym ForInit f)
first_part w ending.In f = not_then (is kind.Let) (word_or (kind.LBrack ∷ kind.LCurly ∷ [])) ▸ sym Target f ◇ for_binding f ◇ op variable_declaration kind.Var (tok kind.Var ▸ mk variable_declarator (sym BindingIdentifier f ▸ sym Init (minus_in f)))
first_part w ending.Of f = if_next (other (is kind.Let)) ▸ cond w nothing (not_then (is kind.Async) (is kind.Of)) ▸ sym Target f ◇ for_binding f

-- and the rest, from that lexeme on
abbrev pub rest_part : Ending → Flags → G
rest_part ending.Semicolon f = tok kind.Semicolon ▸ slot (sym Expression f) ▸ tok kind.Semicolon ▸ slot (sym Expression f)
rest_part ending.In f = tok kind.In ▸ sym Expression f
rest_part ending.Of f = tok kind.Of ▸ sym Assignment f

abbrev pub head_part : Bool → Ending → Flags → G
head_part w e f = first_part w e f ▸ rest_part e f

-- what stands behind the first slot, behind the slots of the rest, and behind those of the head
abbrev pub behind_slot : Slots → Slots
behind_slot no_slots = no_slots
behind_slot (hole us) = us
behind_slot (tree l cs us) = us

abbrev pub behind_rest : Ending → Slots → Slots
behind_rest ending.Semicolon ts = behind_slot (behind_slot ts)
behind_rest ending.In ts = behind_slot ts
behind_rest ending.Of ts = behind_slot ts

abbrev pub behind_head : Ending → Slots → Slots
behind_head e ts = behind_rest e (behind_slot ts)

-- ---- the first part

-- none before the lexeme that ends it
abbrev pub NoFirst : List ℕ → Bool → Ending → Flags → ℕ → Type 0
NoFirst text w e f s = Fails rule (Lex text) (plain (is (end_kind e))) no_slots (first_part w e f) s

-- None with that lexeme, and something else than `=>` behind it: `async of =>` begins an arrow function.
abbrev pub NoFirstPart : List ℕ → Bool → Ending → Flags → ℕ → Type 0
NoFirstPart text w e f s = Fails rule (Lex text) (plain (other (λ k n e. same_kind kind.Arrow k))) no_slots (first_part w e f ▸ tok (end_kind e)) s

-- The first part was read, one slot, which may be empty. Before the lexeme that stands here it is this, or none is derived; before the others none is.
pub record FirstTaken (text : List ℕ) (f : Flags) (w : Bool) (p q : Parser) (first : Option NodeId) : Type 0 where
  pub at : At text f q
  pub same : Same p q
  pub forward : p.prev_token_end ≤ q.prev_token_end
  pub begins : p.token.span.start ≤ q.token.span.start
  pub slots : Slots → Slots
  pub puts : (us : Slots) → slots us ≡ append (slots no_slots) us
  pub strips : (us : Slots) → behind_slot (slots us) ≡ us
  pub pass : Lexemes → Lexemes
  pub walked : Walked text (spot p) (spot q) pass
  pub read : (e : Ending) → StandsHere q (end_kind e) true → Verdict (f.wide ≡ true) p.errors q.errors (Stretch text (plain (is (end_kind e))) (first_part w e f) p.prev_token_end nothing q.prev_token_end slots pass) (NoFirstPart text w e f p.prev_token_end)
  pub none : (e : Ending) → StandsHere q (end_kind e) false → NoFirstPart text w e f p.prev_token_end
  pub kept : (ds : List Diagnostic) → Grown q.errors ds → Grown p.errors ds
  pub held : HoldsAll q.nodes (length p.nodes) (length q.nodes) (first ∷ []) (slots no_slots)
  pub keeps : Keeps p.nodes q.nodes

abbrev pub TakesFirst : Bool → Parser → Parser → Result (Option NodeId) Stop → Type 0
TakesFirst w p q (Ok first) = (text : List ℕ) (f : Flags) → At text f p → FirstTaken text f w p q first
TakesFirst w p q (Err x) = (text : List ℕ) (f : Flags) → At text f p → Stops p q x ((e : Ending) → NoFirstPart text w e f p.prev_token_end)

-- ---- a later part of a ForStatement's head

-- what ends it
abbrev pub EndsPart : Kind → Type 0
EndsPart k = (k ≡ kind.Semicolon) ⊎ (k ≡ kind.RParen)

-- whether it stands here, or the parenthesis that closes
abbrev pub AtEnd : Kind → Parser → Bool → Type 0
AtEnd k p true = (p.token.kind ≡ k) ⊎ (p.token.kind ≡ kind.RParen)
AtEnd k p false = (p.token.kind ≡ k → ⊥) × (p.token.kind ≡ kind.RParen → ⊥)

abbrev pub NoPart : List ℕ → Kind → Flags → ℕ → Type 0
NoPart text k f s = Fails rule (Lex text) (plain (is k)) no_slots (slot (sym Expression f)) s

pub record PartTaken (text : List ℕ) (f : Flags) (k : Kind) (p q : Parser) (part : Option NodeId) : Type 0 where
  pub at : At text f q
  pub same : Same p q
  pub forward : p.prev_token_end ≤ q.prev_token_end
  pub slots : Slots → Slots
  pub puts : (us : Slots) → slots us ≡ append (slots no_slots) us
  pub strips : (us : Slots) → behind_slot (slots us) ≡ us
  pub pass : Lexemes → Lexemes
  pub walked : Walked text (spot p) (spot q) pass
  pub verdict : Verdict (f.wide ≡ true) p.errors q.errors (Stretch text (plain (is k)) (slot (sym Expression f)) p.prev_token_end nothing q.prev_token_end slots pass) (NoPart text k f p.prev_token_end)
  pub held : HoldsAll q.nodes (length p.nodes) (length q.nodes) (part ∷ []) (slots no_slots)
  pub keeps : Keeps p.nodes q.nodes

abbrev pub TakesPart : Kind → Parser → Parser → Result (Option NodeId) Stop → Type 0
TakesPart k p q (Ok part) = (text : List ℕ) (f : Flags) → At text f p → PartTaken text f k p q part
TakesPart k p q (Err x) = (text : List ℕ) (f : Flags) → At text f p → Stops p q x (NoPart text k f p.prev_token_end)

-- ---- the rest of the head

abbrev pub NoRest : List ℕ → Ending → Flags → ℕ → Type 0
NoRest text e f s = Fails rule (Lex text) (plain (is kind.RParen)) no_slots (rest_part e f) s

-- It was read, with the nodes of its parts behind those from before.
pub record RestTaken (text : List ℕ) (f : Flags) (e : Ending) (p q : Parser) (ids js : List (Option NodeId)) : Type 0 where
  pub here : StandsHere p (end_kind e) true
  pub same : Same p q
  pub slots : Slots
  pub strips : (us : Slots) → behind_rest e (append slots us) ≡ us
  pub path : Path text f (plain (is kind.RParen)) (rest_part e f) p nothing q (λ us. append slots us)
  pub held : (lo : ℕ) (us : Slots) → HoldsAll p.nodes lo (length p.nodes) ids us → HoldsAll q.nodes lo (length q.nodes) js (append us slots)
  pub keeps : Keeps p.nodes q.nodes

abbrev pub TakesRest : Parser → Parser → List (Option NodeId) → List (Option NodeId) → Result Ending Stop → Type 0
TakesRest p q ids js (Ok e) = (text : List ℕ) (f : Flags) → At text f p → RestTaken text f e p q ids js
TakesRest p q ids js (Err x) = (text : List ℕ) (f : Flags) → At text f p → Stops p q x ((d : Ending) → NoRest text d f p.prev_token_end)

-- ---- the whole head

abbrev pub NoHead : List ℕ → Bool → Ending → Flags → ℕ → Type 0
NoHead text w e f s = Fails rule (Lex text) (plain (is kind.RParen)) no_slots (head_part w e f) s

-- It was read; no head of another line is derived.
pub record HeadTaken (text : List ℕ) (f : Flags) (w : Bool) (e : Ending) (p q : Parser) (ids : List (Option NodeId)) : Type 0 where
  pub same : Same p q
  pub slots : Slots
  pub strips : (us : Slots) → behind_head e (append slots us) ≡ us
  pub path : Path text f (plain (is kind.RParen)) (head_part w e f) p nothing q (λ us. append slots us)
  pub others : (d : Ending) → (d ≡ e → ⊥) → NoHead text w d f p.prev_token_end
  pub held : HoldsAll q.nodes (length p.nodes) (length q.nodes) ids slots
  pub keeps : Keeps p.nodes q.nodes

abbrev pub TakesHead : Bool → Parser → Parser → List (Option NodeId) → Result Ending Stop → Type 0
TakesHead w p q ids (Ok e) = (text : List ℕ) (f : Flags) → At text f p → HeadTaken text f w e p q ids
TakesHead w p q ids (Err x) = (text : List ℕ) (f : Flags) → At text f p → Stops p q x ((d : Ending) → NoHead text w d f p.prev_token_end)

-- and in its parentheses, whatever stands behind them
abbrev pub NoParensHead : List ℕ → Bool → Ending → Flags → ℕ → Type 0
NoParensHead text w e f s = Fails rule (Lex text) (plain full) no_slots (parens (head_part w e f)) s

pub record ParensHeadTaken (text : List ℕ) (f : Flags) (w : Bool) (e : Ending) (p q : Parser) (ids : List (Option NodeId)) : Type 0 where
  pub same : Same p q
  pub slots : Slots
  pub strips : (us : Slots) → behind_head e (append slots us) ≡ us
  pub path : Path text f (plain full) (parens (head_part w e f)) p nothing q (λ us. append slots us)
  pub others : (d : Ending) → (d ≡ e → ⊥) → NoParensHead text w d f p.prev_token_end
  pub held : HoldsAll q.nodes (length p.nodes) (length q.nodes) ids slots
  pub keeps : Keeps p.nodes q.nodes

abbrev pub TakesParensHead : Bool → Parser → Parser → List (Option NodeId) → Result Ending Stop → Type 0
TakesParensHead w p q ids (Ok e) = (text : List ℕ) (f : Flags) → At text f p → ParensHeadTaken text f w e p q ids
TakesParensHead w p q ids (Err x) = (text : List ℕ) (f : Flags) → At text f p → Stops p q x ((d : Ending) → NoParensHead text w d f p.prev_token_end)
