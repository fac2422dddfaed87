-- What is told of an expression that is no target.
use Rattle.std.proofs.Common.{ℕ, ◌≡◌, List, true, false, None, refl}
use Rattle.std.proofs.lemmas.Bool.{false≢true}
use Rattle.js_grammar.specs.Grammar.{Lexemes}
use Rattle.js_grammar.specs.Productions.{Flags, at}
use Rattle.parse_shared.specs.js_cursor.Parsers.{Parser}
use Rattle.parse_shared.specs.js_cursor.declared.stop.Stop.{Stop}
use Rattle.parse_shared.specs.laws_shared.Answers.{Verdict, Stops}
use Rattle.parse_shared.specs.laws_shared.States.{At, Same}
use Rattle.parse_targets.specs.Targets.{target_of}
use Rattle.parse_shared.proofs.laws_shared.Giving.{gives_up}
use Rattle.parse_shared.proofs.laws_shared.Moving.{stops_behind}
use Rattle.parse_shared.proofs.laws_shared.Verdicts.{after as grown_behind}
use Rattle.js_grammar.specs.Trees.{NodeKind, Op, Label, Slots, end, tree, Tree, array_expression, object_expression}
use Rattle.js_grammar.specs.Grammar.{Takes, is_such}
use Rattle.js_grammar.specs.Table.{rule}
use Rattle.parse_targets.specs.Targets.{is_array, is_literal}
use Rattle.js_grammar.specs.Grammar.{Derives, is_left, is_right}
use Rattle.js_grammar.specs.Productions.{SimpleTarget, ArrayTarget, ObjectTarget, Target}
use Rattle.js_grammar.specs.Productions.{sym as symbol}
use Rattle.js_grammar.specs.Table.{rule_of}
use Rattle.parse_shared.specs.js_cursor.Moves.{GivesUp}
use Rattle.parse_shared.specs.laws_shared.Classes.{EndsParse}

-- what is said where a call gave up
pub refused : {text : List ℕ} {f : Flags} {p q : Parser} {W C B F : Type 0} (r : Parser) (e : Stop) → At text f q → Same p q → Verdict W p.errors q.errors C B → GivesUp EndsParse q r e → F → Stops p r e F
refused {q = q} r e a s v h n = stops_behind r e s (λ g. grown_behind v g) (λ x. x) (gives_up EndsParse q r e a h (λ d u. u) n)

pub array_is : (k : NodeKind) → is_array k ≡ true → k ≡ array_expression
array_is array_expression h = refl
array_is _ h = absurd (false≢true h)

-- it is no simple target
no_target_kind : (k : NodeKind) (o : Op) (fl : ℕ) (p : _) (cs : Slots) → is_literal k ≡ true → target_of (record { kind = k; op = o; flags = fl; span = p }) cs ≡ None
no_target_kind array_expression o fl p cs h = refl
no_target_kind object_expression o fl p cs h = refl
no_target_kind _ o fl p cs h = absurd (false≢true h)

pub literal_no_target : (l : Label) (cs : Slots) → is_literal l.kind ≡ true → target_of l cs ≡ None
literal_no_target l cs h = no_target_kind l.kind l.op l.flags l.span cs h

pub no_target : (f : Flags) {i j : ℕ} {ls rest : Lexemes} → ((t : Tree) → Takes rule (symbol ObjectTarget f) end (tree t.label t.slots end) i ls end j rest → ⊥) → ((t : Tree) → Derives rule (at SimpleTarget f) t i ls j rest → ⊥) → ((t : Tree) → Takes rule (symbol ArrayTarget f) end (tree t.label t.slots end) i ls end j rest → ⊥) → (t : Tree) → Derives rule (at Target f) t i ls j rest → ⊥
unfolding rule rule_of
no_target f o n m t (is_left (is_such d c)) = n t d
no_target f o n m t (is_right (is_left d)) = m t d
no_target f o n m t (is_right (is_right d)) = o t d
