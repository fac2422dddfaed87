use Rattle.std.proofs.Common.{◌∙◌, ap, refl, sym, subst, false}
use Rattle.std.specs.Prelude.{Ok, None}
use Rattle.js_base.specs.declared.diagnostic.Diagnostic.{Diagnostic}
use Rattle.js_base.specs.declared.token.Token.{Token}
use Rattle.js_grammar.specs.Marks.{Mark}
use Rattle.laws_primary.specs.js_cursor.Places.{goal as goal_at}
use Rattle.laws_primary.specs.declared.forms.FunctionForm.{FunctionForm}
use Rattle.laws_primary.specs.Functions.{NamesFunction, TakesName}
use Rattle.laws_primary.proofs.Functions.{name_refused, nameless_marked, names_so, names_word}
use Rattle.laws_primary.proofs.Members.{word_whole}
use Rattle.parse_primary.proofs.function.parse_function_name.Goals as goal

pub returns-in-Expression : goal.returns-in-Expression
returns-in-Expression g c = subst (λ (v : FunctionForm). TakesName v c.args.is_async c.args.is_generator c.args.p.now c.args.p.now (Ok None)) (sym c.in-Expression.is) (subst (λ (v : FunctionForm). NamesFunction v c.args.is_async c.args.is_generator c.args.p.now false) c.in-Expression.is (names_so c.args.form c.args.is_async c.args.is_generator c.args.p.now c.if-function_name_stands.false c.function_name_stands.ensures), refl)

pub returns-then-not-at : goal.returns-then-not-at
returns-then-not-at g c = name_refused c.args.form c.args.is_async c.args.is_generator _ _ c.set_unexpected.result c.in_default.not-Expression (names_so c.args.form c.args.is_async c.args.is_generator c.args.p.now c.if-function_name_stands.false c.function_name_stands.ensures) c.set_unexpected.ensures

pub error-requires-clause-mark : goal.error-requires-clause-mark
error-requires-clause-mark g c = subst (λ (d : Diagnostic). Mark (goal_at c.args.p.now) c.args.p.now.text d) (sym c.diagnostic_at.ensures) (nameless_marked _ c.requires (c.at.ensures.0 c.if-not-at.false) (c.span-span.ensures ∙ ap (λ (t : Token). t.span) c.cur_token.ensures))

pub parse_name-requires-clause-word : goal.parse_name-requires-clause-word
parse_name-requires-clause-word g c = names_word c.args.form c.args.is_async c.args.is_generator c.args.p.now (names_so c.args.form c.args.is_async c.args.is_generator c.args.p.now c.if-function_name_stands.true c.function_name_stands.ensures)

pub parse_name-requires-clause-whole : goal.parse_name-requires-clause-whole
parse_name-requires-clause-whole g c = word_whole c.requires (names_word c.args.form c.args.is_async c.args.is_generator c.args.p.now (names_so c.args.form c.args.is_async c.args.is_generator c.args.p.now c.if-function_name_stands.true c.function_name_stands.ensures))
