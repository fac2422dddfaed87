-- What the parse functions answer: which nonterminal was read, by which node; or that nothing is derived.
use Rattle.std.specs.Prelude.{ℕ, ◌≡◌, ◌<◌, ◌≤◌, true, not, ◌||◌, nat_eq, IsTrue, List, [], ◌++◌, length, Result, Ok, Err}
use Rattle.js_base.specs.declared.kind.Kind.TheVariants.{Arrow}
use Rattle.js_base.specs.Kinds.{same_kind}
use Rattle.js_grammar.specs.Trees.{Slots, end as no_slots, tree, Label}
use Rattle.js_grammar.specs.Grammar.{Lexeme, Lexemes, Look, seen, such, nothing}
use Rattle.js_grammar.specs.Follow.{edge_of, row_of, follow, after, on_line}
use Rattle.js_grammar.specs.Parsing.{Test, Goes, Fails, always}
use Rattle.js_grammar.specs.Productions.{G, Flags, Symbol}
use Rattle.js_grammar.specs.Table.{rule}
use Rattle.js_grammar.specs.RightEdges.{may_end}
use Rattle.js_cursor.specs.js_tree.declared.id.NodeId.{NodeId}
use Rattle.js_cursor.specs.js_tree.Holding.{Holds, Keeps}
use Rattle.js_cursor.specs.Checkpoints.{Follows}
use Rattle.js_cursor.specs.Parsers.{Parser}
use Rattle.js_cursor.specs.Places.{IsAt}
use Rattle.js_cursor.specs.declared.stop.Stop.{Stop}
use Rattle.js_cursor.specs.declared.stop.Stop.TheVariants.{Fatal, NoMemory}
use Rattle.laws_shared.specs.Lexemes.{Lex, Plain, Walked, spot}
use Rattle.laws_shared.specs.Heads.{NotedHeads}
use Rattle.laws_shared.specs.States.{At, Same, NodesLie, SpansLie}
use Rattle.laws_shared.specs.Classes.{IsEarly, EndedByLast}
use Rattle.std.specs.List.{All}

-- items were kept, one at least, behind those from before
pub record Grown {K : Type 0} (old new : List K) : Type 0 where
  pub more : List K
  pub kept : new ≡ old ++ more
  pub some : more ≡ [] → ⊥

-- What an `Ok` says, by the list of diagnostics: the one where none was kept in the call, the other where one was. In wider forms the first may be said though one was kept: where only these let in what was read.
pub data Verdict (Wider : Type 0) {K : Type 0} (old new : List K) (Clean Unclean : Type 0) : Type 0 where
  clean : new ≡ old → Clean → Verdict Wider old new Clean Unclean
  unclean : Grown old new → Unclean → Verdict Wider old new Clean Unclean
  wider : Wider → Grown old new → Clean → Verdict Wider old new Clean Unclean

-- To read g from the place s is to read g' from s', with the slots that f puts before, over the lexemes of `pass`; no further was looked than s'.
pub record Stretch (text : List ℕ) (X : Test) (g : G) (s : ℕ) (g' : G) (s' : ℕ) (f : Slots → Slots) (pass : Lexemes → Lexemes) : Type 0 where
  pub reach : ℕ
  pub near : reach ≤ s'
  pub goes : Goes rule (Lex text) X no_slots g s g' s' f (record { reach = reach; pass = pass })

-- nothing of the symbol is derived from the place
abbrev pub Underived : List ℕ → Symbol → ℕ → Type 0
Underived text n s = Fails rule (Lex text) (after n) no_slots (such n always) s

-- What nothing goes on with, though it stands behind some head: a name or `function` on the same line, behind the name `async` alone; `=>`, behind parameters.
abbrev pub beside : Look
beside k w e = not (nat_eq (on_line k w e) 0) || same_kind Arrow k

-- As much of the symbol as can be was taken, from the current lexeme of the old state up to that of the new one. Clean: whatever is derived from there, over any lexemes, and stops where it may, by the tree that it is, is this; and it is derived over any lexemes that go on at least to the current one. Unclean: nothing is derived from there.
pub record Answer (text : List ℕ) (f : Flags) (n : Symbol) (old new : Parser) : Type 0 where
  pub at : At text f new
  pub same : Same old new
  pub further : old.token.span.start < new.prev_token_end
  pub label : Label
  pub slots : Slots
  pub stops : (y : Lexeme) → Plain text new.prev_token_end y → IsTrue (seen (follow n (edge_of label slots)) y || seen beside y)
  pub row : may_end n.name (row_of label slots) ≡ true
  pub pass : Lexemes → Lexemes
  pub walked : Walked text (spot old) (spot new) pass
  pub verdict : Verdict (f.wide ≡ true) old.errors new.errors (Stretch text (after n) (such n always) old.prev_token_end nothing new.prev_token_end (tree label slots) pass) (Underived text n old.prev_token_end)

-- And a node made in the call stands for the tree, clean or not, and reaches no number twice; the nodes from before keep their trees.
pub record Numbered (text : List ℕ) (f : Flags) (n : Symbol) (old new : Parser) (id : NodeId) : Type 0 where
  pub answer : Answer text f n old new
  pub holds : Holds new.nodes (length old.nodes) (length new.nodes) id.0 answer.label answer.slots
  pub keeps : Keeps old.nodes new.nodes

-- Why a call stops: what is due can't be derived, and a diagnostic was kept, the last one of a class that ends a parse; or memory was refused, of which nothing is said.
pub record Refuses (old new : Parser) (F : Type 0) : Type 0 where
  pub at : IsAt new
  pub follows : Follows old new
  pub grown : Grown old.errors new.errors
  pub stopped : All IsEarly old.errors → EndedByLast new.errors
  pub lies : SpansLie old → NodesLie new.text new.nodes
  pub heads : NotedHeads new
  pub none : F

abbrev pub Stops : Parser → Parser → Stop → Type 0 → Type 0
Stops old new Fatal F = Refuses old new F
Stops old new NoMemory F = Unit {0}

abbrev pub Outcome : List ℕ → Flags → Symbol → Parser → Parser → Result NodeId Stop → Type 0
Outcome text f n old new (Ok id) = Numbered text f n old new id
Outcome text f n old new (Err e) = Stops old new e (Underived text n old.prev_token_end)

-- The answer of a parse function of a nonterminal, under the parameters in force.
abbrev pub Answers : (Flags → Symbol) → Parser → Parser → Result NodeId Stop → Type 0
Answers n old new r = (text : List ℕ) (f : Flags) → At text f old → Outcome text f (n f) old new r
