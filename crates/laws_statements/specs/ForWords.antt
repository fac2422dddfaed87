-- The words that begin a `for` statement (ECMA-262, 14.7.5).
use Rattle.std.specs.Prelude.{ℕ, ◌≡◌, ◌⊎◌, ◌||◌, Bool, true, false, not}
use Rattle.js_base.specs.Contexts.{reads_await}
use Rattle.js_base.specs.declared.diagnostic.Diagnostic.{Diagnostic}
use Rattle.js_base.specs.declared.diagnostic.DiagnosticKind.TheVariants as fault
use Rattle.js_base.specs.declared.kind.Kind.TheVariants.{Await}
use Rattle.js_base.specs.declared.span.Span.{Span}
use Rattle.js_grammar.specs.Trees.{Label}
use Rattle.js_grammar.specs.Productions.{await_flag, flag}
use Rattle.laws_shared.specs.js_tree.declared.kind.NodeKind.{NodeKind}
use Rattle.laws_shared.specs.js_tree.declared.op.Op.TheVariants as op
use Rattle.laws_shared.specs.js_cursor.Moves.{KeepsDiagnostic}
use Rattle.laws_shared.specs.js_cursor.Parsers.{Parser}
use Rattle.laws_shared.specs.Moves.{Moves, plain_label}
use Rattle.laws_shared.specs.Stands.{StandsHere}
use Rattle.laws_shared.specs.Told.{unrelated_at}
use Rattle.laws_statements.specs.declared.forms.Ending.{Ending}
use Rattle.laws_statements.specs.declared.forms.Ending.TheVariants as ending

-- what is told of `await` where it is no operator by the parameters, and of the head behind it that ends its first part otherwise than by `of`
abbrev pub await_at : Span → Diagnostic
await_at s = unrelated_at fault.ForAwaitStatement s

abbrev pub no_of_from : ℕ → ℕ → Diagnostic
no_of_from from to = unrelated_at fault.ForAwait (record { start = from; end = to })

-- That was told of `await`; or it is an operator.
abbrev pub ChecksAwait : Span → Parser → Parser → Type 0
ChecksAwait word old new = ((reads_await old.ctx ≡ false) × KeepsDiagnostic (await_at word) old new) ⊎ ((reads_await old.ctx ≡ true) × (new ≡ old))

-- `await` was passed, and told where it is no operator; or none stands here.
abbrev pub PassesAwait : Parser → Parser → Bool → Type 0
PassesAwait p q true = StandsHere p Await true × (r : Parser) × ChecksAwait p.token.span p r × Moves r q
PassesAwait p q false = StandsHere p Await false × (q ≡ p)

abbrev pub is_of : Ending → Bool
is_of ending.Semicolon = false
is_of ending.In = false
is_of ending.Of = true

-- whether a head may end its first part so, with `await` before it or without
abbrev pub may_end_by : Bool → Ending → Bool
may_end_by w e = not w || is_of e

-- That was told of the head, from where the statement begins on; or it may end so.
abbrev pub ChecksEnding : Bool → Ending → ℕ → Parser → Parser → Type 0
ChecksEnding w e start old new = ((may_end_by w e ≡ false) × KeepsDiagnostic (no_of_from start old.prev_token_end) old new) ⊎ ((may_end_by w e ≡ true) × (new ≡ old))

-- the label of a `for` statement, with `await` or without
abbrev pub for_label : NodeKind → Bool → Span → Label
for_label k b s = record (plain_label k op.None s) { flags = flag b await_flag }
