-- What the parse functions of import declarations answer (ECMA-262, 16.2.2).
use Rattle.std.specs.Prelude.{ℕ, ◌≡◌, ◌⊎◌, Bool, List, [], Option}
use Rattle.js_base.specs.declared.kind.Kind.TheVariants.{From, Str}
use Rattle.js_grammar.specs.Grammar.{keep, kept, ◌▸◌}
use Rattle.js_grammar.specs.Parsing.{plain, full, Fails}
use Rattle.js_grammar.specs.Productions.{G, Flags, bare_flag, flag, tok}
use Rattle.js_grammar.specs.Table.{rule, import_clause, source}
use Rattle.js_grammar.specs.Trees.{Label, end, import_declaration, no_op}
use Rattle.laws_shared.specs.js_tree.declared.id.NodeId.{NodeId}
use Rattle.laws_shared.specs.js_cursor.Parsers.{Parser}
use Rattle.laws_shared.specs.js_cursor.declared.stop.Stop.{Stop}
use Rattle.laws_shared.specs.js_cursor.Moves.{IsKind, MovesOn}
use Rattle.laws_shared.specs.Answers.{Stops}
use Rattle.laws_shared.specs.Lexemes.{Lex}
use Rattle.laws_shared.specs.States.{At}
use Rattle.laws_modules.specs.ImportClauses.{ImportsTaken}

-- what is behind a clause, and with it
abbrev pub behind_clause : Flags → G
behind_clause f = tok From ▸ source f ▸ kept

abbrev pub with_clause_line : Flags → G
with_clause_line f = keep (import_clause f) (behind_clause f)

-- A clause was read, and `from` behind it.
pub record FromRead (ids : List (Option NodeId)) (p q : Parser) : Type 0 where
  pub mid : Parser
  pub imports : ImportsTaken ids p mid
  pub from : IsKind From mid × MovesOn mid q

-- A clause with `from` was read; or the string stands here that names a module.
abbrev pub FindsImports : List (Option NodeId) → Parser → Parser → Type 0
FindsImports ids p q = ((p.token.kind ≡ Str) × (ids ≡ []) × (q ≡ p)) ⊎ ((p.token.kind ≡ Str → ⊥) × FromRead ids p q)

-- no declaration of either form is derived behind `import`
abbrev pub ImportsEnd : Parser → Parser → Stop → Type 0
ImportsEnd p q e = (p.token.kind ≡ Str → ⊥) × ((text : List ℕ) (f : Flags) → At text f p → Stops p q e (Fails rule (Lex text) (plain full) end (with_clause_line f) p.prev_token_end))

-- the label of a declaration, which imports a name or none
abbrev pub import_label : Bool → ℕ → ℕ → Label
import_label bare from to = record { kind = import_declaration; op = no_op; flags = flag bare bare_flag; span = record { from = from; to = to } }
