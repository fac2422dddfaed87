use Rattle.std.proofs.Common.{refl, ◌∙◌, sym}
use Rattle.js_base.specs.declared.kind.Kind.TheVariants.{At as at_sign, Class}
use Rattle.parse_shared.proofs.laws_shared.Escapes.{keyword_escaped, keyword_none, plain_here}
use Rattle.parse_primary.proofs.laws_primary.DecoratedClasses.{no_class_here}
use Rattle.parse_shared.specs.laws_shared.Statements.{statement_kinds}
use Rattle.std.proofs.lemmas.Bool.{and_parts}
use Rattle.parse_control.proofs.laws_statements.Statements.{no_own_kind}
use Rattle.parse_statements.proofs.statement.parse_any_statement.Goals as goal

pub parse_expression_or_labeled_statement-requires-clause-other : goal.parse_expression_or_labeled_statement-requires-clause-other
parse_expression_or_labeled_statement-requires-clause-other g c = keyword_escaped c.args.p.now.token statement_kinds (and_parts c.args.p.now.token.escaped _ (sym c.escaped_word_stands.ensures ∙ c.if-escaped_word_stands.true)).0 refl

pub parse_block_statement-requires-clause-brace : goal.parse_block_statement-requires-clause-brace
parse_block_statement-requires-clause-brace g c = sym c.cur_kind.ensures ∙ c.in-LCurly.is

pub parse_if_statement-requires-clause-word : goal.parse_if_statement-requires-clause-word
parse_if_statement-requires-clause-word g c = plain_here c.args.p.now (sym c.cur_kind.ensures ∙ c.in-If.is) refl c.escaped_word_stands.ensures c.if-escaped_word_stands.false

pub parse_do_while_statement-requires-clause-word : goal.parse_do_while_statement-requires-clause-word
parse_do_while_statement-requires-clause-word g c = plain_here c.args.p.now (sym c.cur_kind.ensures ∙ c.in-Do.is) refl c.escaped_word_stands.ensures c.if-escaped_word_stands.false

pub parse_while_statement-requires-clause-word : goal.parse_while_statement-requires-clause-word
parse_while_statement-requires-clause-word g c = plain_here c.args.p.now (sym c.cur_kind.ensures ∙ c.in-While.is) refl c.escaped_word_stands.ensures c.if-escaped_word_stands.false

pub parse_with_statement-requires-clause-word : goal.parse_with_statement-requires-clause-word
parse_with_statement-requires-clause-word g c = plain_here c.args.p.now (sym c.cur_kind.ensures ∙ c.in-With.is) refl c.escaped_word_stands.ensures c.if-escaped_word_stands.false

pub parse_break_statement-requires-clause-word : goal.parse_break_statement-requires-clause-word
parse_break_statement-requires-clause-word g c = plain_here c.args.p.now (sym c.cur_kind.ensures ∙ c.in-Break.is) refl c.escaped_word_stands.ensures c.if-escaped_word_stands.false

pub parse_continue_statement-requires-clause-word : goal.parse_continue_statement-requires-clause-word
parse_continue_statement-requires-clause-word g c = plain_here c.args.p.now (sym c.cur_kind.ensures ∙ c.in-Continue.is) refl c.escaped_word_stands.ensures c.if-escaped_word_stands.false

pub parse_return_statement-requires-clause-word : goal.parse_return_statement-requires-clause-word
parse_return_statement-requires-clause-word g c = plain_here c.args.p.now (sym c.cur_kind.ensures ∙ c.in-Return.is) refl c.escaped_word_stands.ensures c.if-escaped_word_stands.false

pub parse_throw_statement-requires-clause-word : goal.parse_throw_statement-requires-clause-word
parse_throw_statement-requires-clause-word g c = plain_here c.args.p.now (sym c.cur_kind.ensures ∙ c.in-Throw.is) refl c.escaped_word_stands.ensures c.if-escaped_word_stands.false

pub parse_debugger_statement-requires-clause-word : goal.parse_debugger_statement-requires-clause-word
parse_debugger_statement-requires-clause-word g c = plain_here c.args.p.now (sym c.cur_kind.ensures ∙ c.in-Debugger.is) refl c.escaped_word_stands.ensures c.if-escaped_word_stands.false

pub parse_variable_statement-requires-clause-word : goal.parse_variable_statement-requires-clause-word
parse_variable_statement-requires-clause-word g c = plain_here c.args.p.now (sym c.cur_kind.ensures ∙ c.in-Var.is) refl c.escaped_word_stands.ensures c.if-escaped_word_stands.false

pub parse_expression_or_labeled_statement-requires-in_default-clause-other : goal.parse_expression_or_labeled_statement-requires-in_default-clause-other
parse_expression_or_labeled_statement-requires-in_default-clause-other g c = keyword_none c.args.p.now.token statement_kinds (no_own_kind _ (λ e. c.in_default.not-LCurly (c.cur_kind.ensures ∙ e)) (λ e. c.in_default.not-Semicolon (c.cur_kind.ensures ∙ e)) (λ e. c.in_default.not-If (c.cur_kind.ensures ∙ e)) (λ e. c.in_default.not-Do (c.cur_kind.ensures ∙ e)) (λ e. c.in_default.not-While (c.cur_kind.ensures ∙ e)) (λ e. c.in_default.not-With (c.cur_kind.ensures ∙ e)) (λ e. c.in_default.not-Break (c.cur_kind.ensures ∙ e)) (λ e. c.in_default.not-Continue (c.cur_kind.ensures ∙ e)) (λ e. c.in_default.not-Return (c.cur_kind.ensures ∙ e)) (λ e. c.requires.no_function.0 e (plain_here c.args.p.now e refl c.escaped_word_stands.ensures c.if-escaped_word_stands.false).1) (λ e. c.in_default.not-Throw (c.cur_kind.ensures ∙ e)) (λ e. c.in_default.not-Switch (c.cur_kind.ensures ∙ e)) (λ e. c.in_default.not-Try (c.cur_kind.ensures ∙ e)) (λ e. c.in_default.not-For (c.cur_kind.ensures ∙ e)) (λ e. c.in_default.not-Debugger (c.cur_kind.ensures ∙ e)) (λ e. c.in_default.not-Var (c.cur_kind.ensures ∙ e)) (λ e. c.requires.other e (plain_here c.args.p.now e refl c.escaped_word_stands.ensures c.if-escaped_word_stands.false).1) (λ e. no_class_here c.args.p.now Class refl c.requires.no_class e (plain_here c.args.p.now e refl c.escaped_word_stands.ensures c.if-escaped_word_stands.false).1) (λ e. no_class_here c.args.p.now at_sign refl c.requires.no_class e (plain_here c.args.p.now e refl c.escaped_word_stands.ensures c.if-escaped_word_stands.false).1)) refl

pub returns-in-If : goal.returns-in-If
returns-in-If g c = λ b u. c.parse_if_statement.ensures b

pub returns-in-Do : goal.returns-in-Do
returns-in-Do g c = λ b u. c.parse_do_while_statement.ensures b

pub returns-in-While : goal.returns-in-While
returns-in-While g c = λ b u. c.parse_while_statement.ensures b

pub returns-in-With : goal.returns-in-With
returns-in-With g c = λ b u. c.parse_with_statement.ensures b

pub returns-in-Break : goal.returns-in-Break
returns-in-Break g c = λ b u. c.parse_break_statement.ensures b

pub returns-in-Continue : goal.returns-in-Continue
returns-in-Continue g c = λ b u. c.parse_continue_statement.ensures b

pub returns-in-Return : goal.returns-in-Return
returns-in-Return g c = λ b u. c.parse_return_statement.ensures b

pub returns-in-Throw : goal.returns-in-Throw
returns-in-Throw g c = λ b u. c.parse_throw_statement.ensures b

pub returns-in-Debugger : goal.returns-in-Debugger
returns-in-Debugger g c = λ b u. c.parse_debugger_statement.ensures b

pub returns-in-Var : goal.returns-in-Var
returns-in-Var g c = λ b u. c.parse_variable_statement.ensures b

pub returns-in-Semicolon : goal.returns-in-Semicolon
returns-in-Semicolon g c = λ b u. c.parse_empty_statement.ensures b

pub returns-in-LCurly : goal.returns-in-LCurly
returns-in-LCurly g c = λ b u. c.parse_block_statement.ensures b

pub parse_switch_statement-requires-clause-word : goal.parse_switch_statement-requires-clause-word
parse_switch_statement-requires-clause-word g c = plain_here c.args.p.now (sym c.cur_kind.ensures ∙ c.in-Switch.is) refl c.escaped_word_stands.ensures c.if-escaped_word_stands.false

pub returns-in-Switch : goal.returns-in-Switch
returns-in-Switch g c = λ b u. c.parse_switch_statement.ensures b

pub parse_try_statement-requires-clause-word : goal.parse_try_statement-requires-clause-word
parse_try_statement-requires-clause-word g c = plain_here c.args.p.now (sym c.cur_kind.ensures ∙ c.in-Try.is) refl c.escaped_word_stands.ensures c.if-escaped_word_stands.false

pub returns-in-Try : goal.returns-in-Try
returns-in-Try g c = λ b u. c.parse_try_statement.ensures b

pub parse_for_statement-requires-clause-word : goal.parse_for_statement-requires-clause-word
parse_for_statement-requires-clause-word g c = plain_here c.args.p.now (sym c.cur_kind.ensures ∙ c.in-For.is) refl c.escaped_word_stands.ensures c.if-escaped_word_stands.false

pub returns-in-For : goal.returns-in-For
returns-in-For g c = λ b u. c.parse_for_statement.ensures b
