-- The rest of an object pattern (ECMA-262, 14.3.3): it binds a name.
use Rattle.std.proofs.Common.{ℕ, ◌≡◌, ◌<◌, List, Bool, true, false, IsCharBoundary, refl, sym, ap, subst, arith, ◌∙◌}
use Rattle.js_base.specs.declared.diagnostic.Diagnostic.{Diagnostic}
use Rattle.js_base.specs.declared.diagnostic.DiagnosticKind.TheVariants.{InvalidBindingRestElement}
use Rattle.js_base.specs.declared.kind.Kind.TheVariants.{Dot3}
use Rattle.js_base.specs.declared.span.Span.{Span}
use Rattle.js_grammar.specs.LexicalFaults.{Reached}
use Rattle.js_grammar.specs.Marks.{EdgeOf, Mark}
use Rattle.js_grammar.specs.Trees.{Label, NodeKind, Slots, end, tree, array_pattern, object_pattern, binding_identifier}
use Rattle.js_grammar.specs.Grammar.{Lexemes, here, nothing, Takes, is_such, is_left, is_right, is_node}
use Rattle.js_grammar.specs.Lexed.{Lexes}
use Rattle.js_grammar.specs.Parsing.{Admits, Fails, Test, full, plain}
use Rattle.js_grammar.specs.Productions.{Flags, at, Binding, BindingIdentifier}
use Rattle.js_grammar.specs.Productions.{sym as symbol}
use Rattle.js_grammar.specs.Table.{rule, rule_of}
use Rattle.js_grammar.proofs.Calculus.{weaken_fails_on}
use Rattle.laws_shared.specs.js_tree.declared.id.NodeId.{NodeId}
use Rattle.laws_shared.specs.js_tree.Labels.{kind_of}
use Rattle.laws_shared.specs.js_tree.Nodes.{node_at}
use Rattle.laws_shared.specs.js_cursor.Parsers.{Parser}
use Rattle.laws_shared.specs.js_cursor.Places.{goal}
use Rattle.laws_shared.specs.js_cursor.declared.stop.Stop.{Stop}
use Rattle.laws_shared.specs.Answers.{Numbered, Stretch, Stops, Underived}
use Rattle.laws_shared.specs.Arguments.{behind_item}
use Rattle.laws_shared.specs.Lexemes.{Lex}
use Rattle.laws_shared.specs.Moves.{Moved}
use Rattle.laws_shared.specs.States.{At, Same}
use Rattle.laws_shared.specs.Told.{unrelated_at}
use Rattle.laws_shared.proofs.Edges.{last_edge}
use Rattle.laws_shared.proofs.MadeNodes.{held_label}
use Rattle.laws_shared.proofs.Moving.{same_both, stops_behind}
use Rattle.laws_shared.proofs.Paths.{Path, last_called}
use Rattle.laws_shared.proofs.Verdicts.{either_way, grown_then, verdict_of}
use Rattle.laws_shared.proofs.Verdicts.{after as grown_behind}
use Rattle.laws_patterns.specs.Bindings.{RestBegins, RestBound}
use Rattle.laws_patterns.specs.ObjectPatterns.{named_rest, BindsName}
use Rattle.laws_patterns.proofs.Bindings.{bound_by, unbound_rest}

-- ---- a binding that is a name

pub binds_so : (k : NodeKind) {b r : Bool} → r ≡ b → BindsName k r → BindsName k b
binds_so k e h = subst (λ (v : Bool). BindsName k v) e h

-- a name that is bound is a binding
name_binds : {f : Flags} {ts vs : Slots} {i k : ℕ} {ls rest : Lexemes} → Takes rule (symbol BindingIdentifier f) end ts i ls vs k rest → Takes rule (symbol Binding f) end ts i ls vs k rest
unfolding rule rule_of
name_binds (is_such d c) = is_such (is_left (is_such d c)) refl

-- its node is one of a name
name_kind : {f : Flags} {l : Label} {cs vs us : Slots} {i k : ℕ} {ls rest : Lexemes} → Takes rule (symbol BindingIdentifier f) end (tree l cs us) i ls vs k rest → l.kind ≡ binding_identifier
unfolding rule rule_of
name_kind (is_such (is_node d) c) = refl

-- and a binding with such a node is a name
binds_name : {f : Flags} {l : Label} {cs vs us : Slots} {i k : ℕ} {ls rest : Lexemes} → l.kind ≡ binding_identifier → Takes rule (symbol Binding f) end (tree l cs us) i ls vs k rest → Takes rule (symbol BindingIdentifier f) end (tree l cs us) i ls vs k rest
unfolding rule rule_of
binds_name e (is_such (is_left (is_such d c)) h) = is_such d c
binds_name e (is_such (is_right (is_such (is_left (is_node d)) c)) h) = let z : array_pattern ≡ binding_identifier = e in cc
binds_name e (is_such (is_right (is_such (is_right (is_node d)) c)) h) = let z : object_pattern ≡ binding_identifier = e in cc

module _ {text : List ℕ} {f : Flags} {X : Test} {s s' : ℕ} {l : Label} {cs : Slots} {pass : Lexemes → Lexemes} where
  named_goes : l.kind ≡ binding_identifier → Stretch text X (symbol Binding f) s nothing s' (tree l cs) pass → Stretch text X (symbol BindingIdentifier f) s nothing s' (tree l cs) pass
  named_goes e x = record { reach = x.reach; near = x.near; goes = record { passes = x.goes.passes; sound = λ us vs k ls rest l w d. binds_name e (x.goes.sound us vs k ls rest l w d); only = λ ts vs k ls rest l d a. x.goes.only ts vs k ls rest l (name_binds d) a } }

  -- what is bound here is no name
  not_named : (l.kind ≡ binding_identifier → ⊥) → Stretch text X (symbol Binding f) s nothing s' (tree l cs) pass → Fails rule (Lex text) X end (symbol BindingIdentifier f) s
  not_named n x = record { no = λ ts vs k ls rest l d a. go ts vs k ls rest l d a }
    where
      go : (ts vs : Slots) (k : ℕ) (ls rest : Lexemes) → Lexes (Lex text) s ls → Takes rule (symbol BindingIdentifier f) end ts s ls vs k rest → Admits X ts (here rest) → ⊥
      go ts vs k ls rest i d a = let z = x.goes.only ts vs k ls rest i (name_binds d) a in n (name_kind (subst (λ (us : Slots). Takes rule (symbol BindingIdentifier f) end us s ls vs k rest) z.2 d))

no_name : {text : List ℕ} {f : Flags} {X : Test} {s : ℕ} → Fails rule (Lex text) X end (symbol Binding f) s → Fails rule (Lex text) X end (symbol BindingIdentifier f) s
no_name n = record { no = λ ts vs k ls rest l d a. n.no ts vs k ls rest l (name_binds d) a }

-- whatever stands behind it
anywhere : {text : List ℕ} {f : Flags} {s : ℕ} → Underived text (at Binding f) s → Fails rule (Lex text) (plain full) end (symbol Binding f) s
anywhere n = weaken_fails_on n (record { admits = λ ts vs k ls rest d e. (refl, refl) })

-- ---- the rest

module _ {text : List ℕ} {f : Flags} {p q : Parser} (a : At text f p) (k : p.token.kind ≡ Dot3) (m : Moved text f p q) where
  pub argument_stops : (w : Parser) (e : Stop) → Stops q w e (Underived text (at Binding f) q.prev_token_end) → Stops p w e (Fails rule (Lex text) behind_item end (named_rest f) p.prev_token_end)
  argument_stops w e z = stops_behind w e m.same (λ g. grown_then m.kept g) (λ n. unbound_rest a k m (no_name (anywhere n))) z

  module _ {r : Parser} {bound : NodeId} (x : Numbered text f (at Binding f) q r bound) where
    pub rest_same : Same p r
    rest_same = same_both m.same x.answer.same

    pub rest_further : p.token.span.start < r.prev_token_end
    rest_further = let i = m.further in let j = m.at.behind in let h = x.answer.further in omega arith

    kind_is : kind_of (node_at r.nodes bound).kind ≡ x.answer.label.kind
    kind_is = ap (λ (l : Label). l.kind) (sym (held_label bound x.holds))

    -- what it binds, whatever stands behind it
    whole : Path text f (plain full) (symbol Binding f) q nothing r (tree x.answer.label x.answer.slots)
    whole = last_called x.answer (record { admits = λ ts vs k ls rest d e. (refl, refl) })

    -- it is no name
    pub unnamed : BindsName (kind_of (node_at r.nodes bound).kind) false → Fails rule (Lex text) behind_item end (named_rest f) p.prev_token_end
    unnamed n = unbound_rest a k m (either_way whole.verdict (λ c. not_named (λ e. n (kind_is ∙ e)) c) (λ u. no_name u))

    pub unnamed_stops : BindsName (kind_of (node_at r.nodes bound).kind) false → (w : Parser) (e : Stop) → Stops r w e (Unit {0}) → Stops p w e (Fails rule (Lex text) behind_item end (named_rest f) p.prev_token_end)
    unnamed_stops n w e z = stops_behind w e rest_same (λ g. grown_then m.kept (grown_behind x.answer.verdict g)) (λ u. unnamed n) z

    argument_edge : EdgeOf (goal r) r.text r.prev_token_end
    argument_edge = subst (λ (t : List ℕ). EdgeOf (goal r) t r.prev_token_end) (sym x.answer.at.text_is) (last_edge x.answer.walked (subst (λ (t : List ℕ). Reached t q.prev_token_end) m.at.text_is m.at.at.reached) (let b = m.at.behind in let c = x.answer.further in omega arith))

    -- what is told of it has its mark
    pub unnamed_marked : (s : Span) {d : Diagnostic} → d ≡ unrelated_at InvalidBindingRestElement s → RestBegins s.start r → s.end ≡ r.prev_token_end → Mark (goal r) r.text d
    unnamed_marked s {d} e b i = subst (λ (v : Diagnostic). Mark (goal r) r.text v) (sym e) (record {
      ordered = let c = b.before in omega arith;
      within = let z = x.answer.at.at.between.0 in omega arith;
      begins_between = b.between;
      ends_between = subst (λ (v : ℕ). IsCharBoundary r.text v) (sym i) x.answer.at.at.between;
      stands = ((b.edge, subst (λ (v : ℕ). EdgeOf (goal r) r.text v) (sym i) argument_edge), (refl, refl));
    })

    -- or it is one
    pub named_bound : BindsName (kind_of (node_at r.nodes bound).kind) true → RestBound text f (symbol BindingIdentifier f) p r bound
    named_bound n = bound_by a k m (record { at = whole.at; further = whole.further; pass = whole.pass; walked = whole.walked; verdict = verdict_of whole.verdict (λ c. named_goes (sym kind_is ∙ n) c) (λ u. no_name u) }) x.answer.same x.holds x.keeps
