-- Declarations of classes as statements (ECMA-262, 15.7): in a list, and as the body of another statement, where none may stand.
use Rattle.std.proofs.Common.{ℕ, ◌≡◌, List, length, true, refl, sym, ap, subst, arith, ◌∙◌}
use Rattle.std.specs.Prelude.{IfOk, Result, Ok, Err}
use Rattle.js_base.specs.declared.diagnostic.Diagnostic.{Diagnostic}
use Rattle.js_base.specs.declared.kind.Kind.TheVariants.{Undetermined}
use Rattle.js_base.specs.Kinds.{one_of_kinds}
use Rattle.std.proofs.lemmas.Bool.{false≢true}
use Rattle.js_grammar.specs.Conditions.{ends_in_sub}
use Rattle.js_grammar.specs.Trees.{Label, end, tree, class_declaration}
use Rattle.js_grammar.specs.Grammar.{nothing, such}
use Rattle.js_grammar.specs.Parsing.{always, still, Goes}
use Rattle.js_grammar.specs.Productions.{Flags, at, ListItem, Sub}
use Rattle.js_grammar.specs.Productions.{Class as AClass}
use Rattle.js_grammar.specs.Productions.{sym as symbol}
use Rattle.js_grammar.specs.Table.{rule, rule_of}
use Rattle.js_grammar.proofs.Looks.{apart, covers}
use Rattle.js_grammar.proofs.Calculus.{◌▹✗◌, fails_never, weaken_fails_on}
use Rattle.laws_shared.specs.js_tree.declared.id.NodeId.{NodeId}
use Rattle.laws_shared.specs.js_tree.Holding.{Holds, Keeps}
use Rattle.laws_shared.specs.js_tree.Labels.{kind_of}
use Rattle.laws_shared.specs.js_tree.Nodes.{Node, node_at}
use Rattle.laws_shared.specs.js_cursor.Moves.{KeepsDiagnostic}
use Rattle.laws_shared.specs.js_cursor.Parsers.{Parser}
use Rattle.laws_shared.specs.js_cursor.declared.stop.Stop.{Stop}
use Rattle.laws_shared.specs.Answers.{Numbered, Outcome, Underived, unclean}
use Rattle.laws_shared.specs.Classes.{IsEarly}
use Rattle.laws_shared.specs.Lexemes.{Lex, spot}
use Rattle.laws_shared.specs.States.{At}
use Rattle.laws_shared.specs.Statements.{after_statement, NoStatement, Statement, StatementOutcome}
use Rattle.laws_shared.proofs.Giving.{kept_one}
use Rattle.laws_shared.proofs.MadeNodes.{held_label}
use Rattle.laws_shared.proofs.Moving.{same_both, stops_so}
use Rattle.laws_shared.proofs.Paths.{Path, ◌⟼◌, at_kinds, by_symbol_as, last_called, walked_to}
use Rattle.laws_shared.proofs.Told.{told_at, told_same}
use Rattle.laws_shared.proofs.Verdicts.{after as grown_behind}
use Rattle.parse_declarations.specs.laws_primary.Decorators.{ClassHere, class_kinds}
use Rattle.parse_declarations.proofs.laws_primary.DecoratedClasses.{class_kind}
use Rattle.laws_statements.proofs.Statements.{never_open, no_symbol}

-- the node is a declaration of a class
abbrev IsClass : Parser → NodeId → Type 0
IsClass w id = kind_of (node_at w.nodes id).kind ≡ class_declaration

module _ {text : List ℕ} {f : Flags} {p : Parser} (a : At text f p) (h : ClassHere p true) where
  -- ---- in a list

  to_class : Goes rule (Lex text) (after_statement (at ListItem f)) end (rule (at ListItem f)) p.prev_token_end (symbol AClass f) p.prev_token_end (λ us. us) (still 0)
  unfolding rule rule_of covers apart
  to_class = at_kinds a class_kinds refl (class_kind p h)

  no_item : Underived text (at AClass f) p.prev_token_end → NoStatement text (at ListItem f) p.prev_token_end
  no_item n = no_symbol (to_class ▹✗ weaken_fails_on n (record { admits = λ ts vs k ls rest d e. (refl, refl) }))

  item_answers : {w : Parser} {id : NodeId} (x : Numbered text f (at AClass f) p w id) → IsClass w id → Statement text f (at ListItem f) p w id
  item_answers {w} {id} x k =
      let y : Path text f (after_statement (at ListItem f)) (such (at ListItem f) always) p nothing w (tree x.answer.label x.answer.slots) = by_symbol_as {X' = after_statement (at ListItem f)} (λ l cs vs z d. d) (to_class ⟼ last_called x.answer (record { admits = λ ts vs k ls rest d e. (refl, refl) })) in
      record { at = y.at; same = x.answer.same; further = y.further; label = x.answer.label; slots = x.answer.slots; closed = never_open x.answer.label x.answer.slots (ap (λ (v : Label). ends_in_sub v.kind) (held_label id x.holds) ∙ ap ends_in_sub k); pass = y.pass; walked = y.walked; verdict = y.verdict; holds = x.holds; keeps = x.keeps }

  pub class_item : (w : Parser) (r : Result NodeId Stop) → IfOk r (λ id. IsClass w id) → Outcome text f (at AClass f) p w r → StatementOutcome text f (at ListItem f) p w r
  class_item w (Ok id) k x = item_answers x k
  class_item w (Err e) k x = stops_so p w e (λ n. no_item n) x

  -- ---- as a body

  -- none is derived there
  pub no_class_body : NoStatement text (at Sub f) p.prev_token_end
  unfolding rule rule_of covers apart
  no_class_body = no_symbol (at_kinds a class_kinds refl (class_kind p h) ▹✗ fails_never)

  -- some lexeme stands here
  pub class_stood : p.token.kind ≡ Undetermined → ⊥
  class_stood e = false≢true (sym (ap (one_of_kinds class_kinds) e) ∙ class_kind p h)

  -- it was read and told
  pub class_told : {w v : Parser} {d : Diagnostic} {id : NodeId} → Numbered text f (at AClass f) p w id → IsClass w id → KeepsDiagnostic d w v → IsEarly d → Statement text f (at Sub f) p v id
  class_told {w} {v} {d} {id} x k t i =
      let nodes : v.nodes ≡ w.nodes = ap (λ (z : Parser). z.nodes) t.is in
      let place : v.prev_token_end ≡ w.prev_token_end = ap (λ (z : Parser). z.prev_token_end) t.is in
      record {
        at = told_at t x.answer.at;
        same = same_both x.answer.same (told_same t i);
        further = let j = x.answer.further in omega arith;
        label = x.answer.label;
        slots = x.answer.slots;
        closed = never_open x.answer.label x.answer.slots (ap (λ (v : Label). ends_in_sub v.kind) (held_label id x.holds) ∙ ap ends_in_sub k);
        pass = x.answer.pass;
        walked = walked_to (sym (ap spot t.is)) x.answer.walked;
        verdict = unclean (grown_behind x.answer.verdict (kept_one t)) no_class_body;
        holds = subst (λ (ns : List Node). Holds ns (length p.nodes) (length ns) id.0 x.answer.label x.answer.slots) (sym nodes) x.holds;
        keeps = subst (λ (ns : List Node). Keeps p.nodes ns) (sym nodes) x.keeps;
      }
