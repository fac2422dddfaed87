use Rattle.std.proofs.Common.{◌≡◌, refl, subst, sym, ◌∙◌}
use Rattle.js_base.specs.declared.diagnostic.DiagnosticKind.TheVariants.{ModuleCode}
use Rattle.js_base.specs.declared.kind.Kind.TheVariants.{Import, Undetermined}
use Rattle.js_grammar.specs.Marks.{Mark}
use Rattle.js_grammar.specs.Productions.{at, ListItem}
use Rattle.laws_modules.specs.Items.{ChecksGoal, outside_module}
use Rattle.laws_modules.specs.laws_primary.js_cursor.Parsers.{Parser}
use Rattle.laws_modules.specs.laws_primary.js_cursor.Places.{goal as goal_at}
use Rattle.laws_modules.specs.laws_primary.laws_shared.States.{At}
use Rattle.laws_modules.specs.laws_primary.laws_shared.Statements.{StatementOutcome}
use Rattle.laws_modules.proofs.laws_primary.ImportWords.{token_marked}
use Rattle.laws_modules.proofs.Items.{checked_at, here_so, item_outcome, other_item}
use Rattle.parse_modules.proofs.module_item.parse_module_item.Goals as goal

pub returns-then-not-branch : goal.returns-then-not-branch
returns-then-not-branch g c =
    let h = here_so c.args.p.now c.import_stands.new.p c.if-not-branch.true c.in_ok-import_stands.ensures in
    λ text f a. other_item a c.list_item.new.p c.list_item.result h.1 (subst (λ (v : Parser). StatementOutcome text f (at ListItem f) v c.list_item.new.p c.list_item.result) h.0 (c.list_item.ensures text f (subst (λ (v : Parser). At text f v) (sym h.0) a)))

pub check_goal-requires-clause-mark : goal.check_goal-requires-clause-mark
check_goal-requires-clause-mark g c =
    let h = here_so c.args.p.now c.import_stands.new.p c.if-not-branch.false c.in_ok-import_stands.ensures in
    subst (λ (v : Parser). Mark (goal_at v) v.text (outside_module v.token.span)) (sym h.0) (token_marked ModuleCode (λ g t s x. (x, (refl, refl))) c.requires.at.at (λ k. let w : Import ≡ Undetermined = sym h.1.0.0 ∙ k in absurd (cc)) refl)

pub returns : goal.returns
returns g c =
    let h = here_so c.args.p.now c.import_stands.new.p c.if-not-branch.false c.in_ok-import_stands.ensures in
    let k = subst (λ (v : Parser). ChecksGoal v c.check_goal.new.p) h.0 c.in_ok-check_goal.ensures in
    λ text f a. item_outcome a h.1 c.parse_import_declaration.new.p c.parse_import_declaration.result k c.parse_import_declaration.ensures.kind (c.parse_import_declaration.ensures.answer text f (checked_at a h.1 k))
