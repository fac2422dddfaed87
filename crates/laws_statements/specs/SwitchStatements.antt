-- The parts of a `switch` statement (ECMA-262, 14.12).
use Rattle.std.specs.Prelude.{ℕ, ◌≡◌, ◌<◌, ◌≤◌, ◌⊎◌, Bool, true, false, List, [], ◌∷◌, length, Option, Some, None, Result, Ok, Err}
use Rattle.js_base.specs.declared.diagnostic.Diagnostic.{Diagnostic}
use Rattle.js_base.specs.declared.diagnostic.DiagnosticKind.TheVariants.{SwitchMultipleDefaultClause}
use Rattle.js_base.specs.declared.kind.Kind.{Kind}
use Rattle.js_base.specs.declared.kind.Kind.TheVariants.{Case, Colon, Default, RCurly}
use Rattle.js_base.specs.declared.span.Span.{Span}
use Rattle.js_grammar.specs.Trees.{Label, Slots, end as no_slots, append, switch_case, no_op}
use Rattle.js_grammar.specs.Grammar.{Lexemes, empty_slot, many, never, nothing, ◌▸◌}
use Rattle.js_grammar.specs.Marks.{BeginsWith, Mark, of_kinds}
use Rattle.js_grammar.specs.Parsing.{Fails, full, plain}
use Rattle.js_grammar.specs.Productions.{G, Flags, braces, mk, opt, sym, tok, Expression}
use Rattle.js_grammar.specs.Productions.{Case as ACase}
use Rattle.js_grammar.specs.Table.{rule}
use Rattle.laws_shared.specs.js_tree.declared.id.NodeId.{NodeId}
use Rattle.laws_shared.specs.js_tree.Holding.{Holds, HoldsAll, Keeps}
use Rattle.laws_shared.specs.js_cursor.Moves.{KeepsDiagnostic}
use Rattle.laws_shared.specs.js_cursor.Parsers.{Parser}
use Rattle.laws_shared.specs.js_cursor.Places.{goal}
use Rattle.laws_shared.specs.js_cursor.declared.stop.Stop.{Stop}
use Rattle.laws_shared.specs.Answers.{Grown, Verdict, Stretch, Stops}
use Rattle.laws_shared.specs.Lexemes.{Lex, Walked, spot}
use Rattle.laws_shared.specs.Stands.{StandsHere}
use Rattle.laws_shared.specs.States.{At, Same}
use Rattle.laws_statements.specs.StatementLists.{NoList, OneTaken, Taken, at_end, statements}
use Rattle.laws_statements.specs.declared.forms.StatementList.TheVariants.{Block, Clause}
use Rattle.laws_statements.specs.declared.forms.Defaults.{Defaults}
use Rattle.laws_statements.specs.declared.forms.Defaults.TheVariants.{Missing, One, Several}

-- ---- clauses: true is for a DefaultClause, false for a CaseClause

-- the word that it begins with
abbrev pub word_of : Bool → Kind
word_of true = Default
word_of false = Case

-- what its node is made of
abbrev pub clause_slots : Bool → Flags → G
clause_slots true f = tok Default ▸ empty_slot ▸ tok Colon ▸ statements Clause f
clause_slots false f = tok Case ▸ sym Expression f ▸ tok Colon ▸ statements Clause f

abbrev pub clause_of : Bool → Flags → G
clause_of true f = mk switch_case (clause_slots true f)
clause_of false f = sym ACase f

-- some CaseClauses, and what a CaseBlock holds
abbrev pub cases : Flags → G
cases f = many (sym ACase f)

abbrev pub clauses_of : Flags → G
clauses_of f = cases f ▸ opt (clause_of true f ▸ cases f)

-- What may stand behind some clauses, by the DefaultClauses among them: behind two of them nothing.
abbrev pub left : Defaults → Flags → G
left Missing f = clauses_of f
left (One s) f = cases f
left Several f = never

-- a clause of this sort begins here
abbrev pub Begins : Bool → Parser → Type 0
Begins b p = StandsHere p (word_of b) true

-- ---- what is read of one

-- What it begins with, up to its colon. Clean: whatever is derived from its beginning goes so; unclean: nothing is.
pub record TestTaken (text : List ℕ) (f : Flags) (b : Bool) (old new : Parser) (test : Option NodeId) : Type 0 where
  pub at : At text f new
  pub same : Same old new
  pub further : old.token.span.start < new.prev_token_end
  pub slots : Slots → Slots
  pub appends : (us : Slots) → slots us ≡ append (slots no_slots) us
  pub pass : Lexemes → Lexemes
  pub walked : Walked text (spot old) (spot new) pass
  pub verdict : Verdict (f.wide ≡ true) old.errors new.errors (Stretch text (plain (at_end Clause)) (clause_slots b f) old.prev_token_end (tok Colon ▸ statements Clause f) new.prev_token_end slots pass) (NoList text Clause (clause_slots b f) old.prev_token_end)
  pub holds : HoldsAll new.nodes (length old.nodes) (length new.nodes) (test ∷ []) (slots no_slots)
  pub keeps : Keeps old.nodes new.nodes

abbrev pub TestOutcome : List ℕ → Flags → Bool → Parser → Parser → Result (Option NodeId) Stop → Type 0
TestOutcome text f b old new (Ok test) = TestTaken text f b old new test
TestOutcome text f b old new (Err e) = Stops old new e (NoList text Clause (clause_slots b f) old.prev_token_end)

abbrev pub TakesTest : Parser → Parser → Result (Option NodeId) Stop → Type 0
TakesTest old new r = (b : Bool) → Begins b old → (text : List ℕ) (f : Flags) → At text f old → TestOutcome text f b old new r

abbrev pub clause_label : ℕ → ℕ → Label
clause_label from to = record { kind = switch_case; op = no_op; flags = 0; span = record { from = from; to = to } }

-- All of it, and more statements may follow. A node made in the call stands for its tree, if none do.
pub record OpenClause (text : List ℕ) (f : Flags) (b : Bool) (old new : Parser) (id : NodeId) : Type 0 where
  pub at : At text f new
  pub same : Same old new
  pub further : old.token.span.start < new.prev_token_end
  pub slots : Slots → Slots
  pub pass : Lexemes → Lexemes
  pub walked : Walked text (spot old) (spot new) pass
  pub verdict : Verdict (f.wide ≡ true) old.errors new.errors (Stretch text (plain (at_end Clause)) (clause_slots b f) old.prev_token_end (statements Clause f) new.prev_token_end slots pass) (NoList text Clause (clause_slots b f) old.prev_token_end)
  pub holds : Holds new.nodes (length old.nodes) (length new.nodes) id.0 (clause_label old.token.span.start new.prev_token_end) (slots no_slots)
  pub keeps : Keeps old.nodes new.nodes

abbrev pub ClauseOutcome : List ℕ → Flags → Bool → Parser → Parser → Result NodeId Stop → Type 0
ClauseOutcome text f b old new (Ok id) = OpenClause text f b old new id
ClauseOutcome text f b old new (Err e) = Stops old new e (NoList text Clause (clause_slots b f) old.prev_token_end)

abbrev pub ReadsClause : Parser → Parser → Result NodeId Stop → Type 0
ReadsClause old new r = (b : Bool) → Begins b old → (text : List ℕ) (f : Flags) → At text f old → ClauseOutcome text f b old new r

-- ---- DefaultClauses

-- what is told of the second one; the first stood at a span
abbrev pub second_default : Span → Span → Diagnostic
second_default earlier later = record { kind = SwitchMultipleDefaultClause; span = later; first = Some earlier; second = None }

-- the first one stands there, and ends before the current lexeme
abbrev pub Stood : Defaults → Parser → Type 0
Stood (One s) p = BeginsWith (of_kinds (Default ∷ [])) (goal p) p.text s × (s.end ≤ p.prev_token_end)
Stood _ p = Unit {0}

-- How a clause changes what is known of them; only the second one is told.
abbrev pub Notes : Defaults → Bool → Span → Parser → Parser → Defaults → Type 0
Notes d false s old new d' = (new ≡ old) × (d' ≡ d)
Notes Missing true s old new d' = (new ≡ old) × (d' ≡ One s)
Notes (One r) true s old new d' = KeepsDiagnostic (second_default r s) old new × (d' ≡ Several)
Notes Several true s old new d' = (new ≡ old) × (d' ≡ Several)

-- that may be told here of a clause at a span
abbrev pub MayNote : Defaults → Bool → Span → Parser → Type 0
MayNote (One r) true s p = Mark (goal p) p.text (second_default r s)
MayNote _ _ s p = Unit {0}

-- ---- several clauses

-- a clause begins here, or the CaseBlock ends
abbrev pub ClauseDue : Parser → Type 0
ClauseDue p = Begins true p ⊎ Begins false p ⊎ StandsHere p RCurly true

abbrev pub ClauseBegins : Parser → Type 0
ClauseBegins p = Begins true p ⊎ Begins false p

abbrev pub DueOr : Parser → Parser → Result (Unit {0}) Stop → Type 0
DueOr old new (Ok x) = ClauseDue old × (new ≡ old)
DueOr old new (Err e) = (text : List ℕ) (f : Flags) → At text f old → Stops old new e (ClauseDue old → ⊥)

-- where several DefaultClauses stand, something was told since
abbrev pub ToldSeveral : Defaults → Parser → Parser → Type 0
ToldSeveral Several old new = Grown old.errors new.errors
ToldSeveral _ old new = Unit {0}

-- One clause more was taken, behind which another one is due or the CaseBlock ends.
abbrev pub NextTaken : Defaults → Parser → Parser → NodeId → Defaults → Type 0
NextTaken d old new id d' = ClauseDue new × Stood d' new × ((d' ≡ Several) → (d ≡ Several) ⊎ Grown old.errors new.errors) × ((text : List ℕ) (f : Flags) → At text f old → OneTaken text f Block (left d f) (left d' f) old new id)

abbrev pub NextRefused : Defaults → Parser → Parser → Stop → Type 0
NextRefused d old new e = (text : List ℕ) (f : Flags) → At text f old → Stops old new e (NoList text Block (left d f) old.prev_token_end)

-- Some clauses were taken, one behind the other.
pub record SomeTaken (text : List ℕ) (f : Flags) (d : Defaults) (old new : Parser) (ids : List (Option NodeId)) : Type 0 where
  pub taken : Taken text f Block (clauses_of f) (left d f) old new ids
  pub due : ClauseDue new
  pub stood : Stood d new
  pub told : ToldSeveral d old new

-- All were taken up to the closing brace. Clean: whatever is derived from their beginning is this; unclean: nothing is.
abbrev pub AllClauses : Parser → Parser → List (Option NodeId) → Type 0
AllClauses old new ids = (new.token.kind ≡ RCurly) × ((text : List ℕ) (f : Flags) → At text f old → Taken text f Block (clauses_of f) nothing old new ids)

abbrev pub ClausesRefused : Parser → Parser → Stop → Type 0
ClausesRefused old new e = (text : List ℕ) (f : Flags) → At text f old → Stops old new e (NoList text Block (clauses_of f) old.prev_token_end)

-- ---- a CaseBlock

abbrev pub case_block : Flags → G
case_block f = braces (clauses_of f)

-- none is derived from the place
abbrev pub NoCaseBlock : List ℕ → Flags → ℕ → Type 0
NoCaseBlock text f s = Fails rule (Lex text) (plain full) no_slots (case_block f) s

-- It was taken. Clean: whatever is derived from its beginning is this; unclean: nothing is. The nodes stand for its trees.
pub record CaseBlockTaken (text : List ℕ) (f : Flags) (old new : Parser) (ids : List (Option NodeId)) : Type 0 where
  pub at : At text f new
  pub same : Same old new
  pub further : old.token.span.start < new.prev_token_end
  pub slots : Slots → Slots
  pub pass : Lexemes → Lexemes
  pub walked : Walked text (spot old) (spot new) pass
  pub verdict : Verdict (f.wide ≡ true) old.errors new.errors (Stretch text (plain full) (case_block f) old.prev_token_end nothing new.prev_token_end slots pass) (NoCaseBlock text f old.prev_token_end)
  pub holds : HoldsAll new.nodes (length old.nodes) (length new.nodes) ids (slots no_slots)
  pub keeps : Keeps old.nodes new.nodes

abbrev pub TakesCaseBlock : Parser → Parser → List (Option NodeId) → Type 0
TakesCaseBlock old new ids = (text : List ℕ) (f : Flags) → At text f old → CaseBlockTaken text f old new ids

abbrev pub NoCaseBlockHere : Parser → Parser → Stop → Type 0
NoCaseBlockHere old new e = (text : List ℕ) (f : Flags) → At text f old → Stops old new e (NoCaseBlock text f old.prev_token_end)
