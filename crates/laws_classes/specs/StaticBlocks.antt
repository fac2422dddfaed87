-- Static blocks of classes (ECMA-262, 15.7): ClassStaticBlock, and what is in force in its statements.
use Rattle.std.specs.Prelude.{ℕ, ◌≡◌, true, false, List, Result}
use Rattle.js_base.specs.declared.context.Context.{Context}
use Rattle.js_base.specs.declared.kind.Kind.TheVariants.{Static}
use Rattle.js_base.specs.Contexts.{has_flag, reads_await, in_flag, yield_flag, await_flag, return_flag, new_target_flag}
use Rattle.js_grammar.specs.Trees.{static_block}
use Rattle.js_grammar.specs.Grammar.{many, ◌▸◌}
use Rattle.js_grammar.specs.Productions.{G, Flags, braces, mk, static_of, tok, ListItem}
use Rattle.js_grammar.specs.Productions.{sym as symbol}
use Rattle.laws_primary.specs.js_tree.declared.id.NodeId.{NodeId}
use Rattle.laws_primary.specs.js_cursor.Parsers.{Parser}
use Rattle.laws_primary.specs.js_cursor.declared.stop.Stop.{Stop}
use Rattle.laws_primary.specs.laws_shared.Moves.{Moved}
use Rattle.laws_primary.specs.laws_shared.Stands.{StandsHere}
use Rattle.laws_primary.specs.laws_shared.States.{At}
use Rattle.laws_classes.specs.Elements.{ElementOutcome}

-- its line
abbrev pub block_line : Flags → G
block_line f = mk static_block (tok Static ▸ braces (many (symbol ListItem (static_of f))))

-- What is in force in a static block, whatever is around the class: In, Await and NewTarget, neither Yield nor Return.
pub record InStaticBlock (c : Context) : Type 0 where
  pub allows_in : has_flag in_flag c ≡ true
  pub allows_yield : has_flag yield_flag c ≡ false
  pub allows_await : has_flag await_flag c ≡ true
  pub awaits : reads_await c ≡ true
  pub allows_return : has_flag return_flag c ≡ false
  pub allows_new_target : has_flag new_target_flag c ≡ true

-- From the state `first`, where the element began, up to the old one its `static` was passed; now its statements are read, in their braces.
abbrev pub ReadsStaticBlock : ℕ → Parser → Parser → Result NodeId Stop → Type 0
ReadsStaticBlock start old new r = (text : List ℕ) (f : Flags) (first : Parser) → At text f first → start ≡ first.token.span.start → StandsHere first Static true → Moved text f first old → ElementOutcome text f (block_line f) first new r
