use Rattle.std.proofs.Common.{◌∙◌, sym, ap, refl, inl, inr, false}
use Rattle.js_base.specs.KindSets.{number_kinds}
use Rattle.js_base.specs.Kinds.{one_of_kinds}
use Rattle.js_base.specs.declared.kind.Kind.TheVariants.{At, Class, This, Null, True, False, Str}
use Rattle.parse_shared.specs.js_tree.declared.kind.NodeKind.TheVariants as node
use Rattle.parse_shared.specs.js_tree.declared.op.Op.TheVariants as op
use Rattle.parse_shared.proofs.laws_shared.Escapes.{plain_here, word_plain, no_name_where}
use Rattle.parse_shared.specs.laws_shared.Classes.{EndsParse}
use Rattle.parse_shared.proofs.laws_shared.Giving.{gives_up, gives_up_here}
use Rattle.parse_shared.proofs.laws_shared.NameKinds.{name_at, name_so}
use Rattle.parse_shared.proofs.laws_shared.Signs.{whole_sign}
use Rattle.parse_primary.specs.laws_primary.Decorators.{class_kinds}
use Rattle.parse_primary.proofs.laws_primary.ClassOperands.{class_operand}
use Rattle.parse_primary.proofs.laws_primary.DecoratedClasses.{class_at}
use Rattle.parse_primary.proofs.laws_primary.Operands.{escaped_fails, leaf_outcome, this_path, null_path, true_path, false_path, string_path, primary_fails, none_of_these}
use Rattle.parse_shared.specs.laws_shared.Lexemes.{slashes}
use Rattle.parse_primary.specs.laws_primary.Templates.{heads}
use Rattle.parse_primary.proofs.laws_primary.Parentheses.{paren_primary}
use Rattle.parse_primary.proofs.laws_primary.RegularExpressions.{no_pattern_here}
use Rattle.parse_members.proofs.primary.parse_primary_expression.Goals as goal

pub returns-then-escaped_word_stands : goal.returns-then-escaped_word_stands
returns-then-escaped_word_stands t c = λ text f a. gives_up_here _ _ c.set_unexpected.result a c.set_unexpected.ensures (escaped_fails a (name_at false a (name_so c.args.p.now c.if-name_stands.false c.name_stands.ensures)) (sym c.escaped_word_stands.ensures ∙ c.if-escaped_word_stands.true))

pub parse_name_or_function-requires-clause-name : goal.parse_name_or_function-requires-clause-name
parse_name_or_function-requires-clause-name t c = name_so c.args.p.now c.if-name_stands.true c.name_stands.ensures

pub returns-in-This : goal.returns-in-This
returns-in-This t c = λ text f a. leaf_outcome text f _ _ node.ThisExpression op.None This c.parse_leaf.result refl this_path a (sym c.cur_kind-2.ensures ∙ c.in-This.is) (plain_here c.args.p.now (sym c.cur_kind-2.ensures ∙ c.in-This.is) refl c.escaped_word_stands.ensures c.if-escaped_word_stands.false).1 c.parse_leaf.ensures

pub returns-in-Null : goal.returns-in-Null
returns-in-Null t c = λ text f a. leaf_outcome text f _ _ node.NullLiteral op.None Null c.parse_leaf-in-Null.result refl null_path a (sym c.cur_kind-2.ensures ∙ c.in-Null.is) (plain_here c.args.p.now (sym c.cur_kind-2.ensures ∙ c.in-Null.is) refl c.escaped_word_stands.ensures c.if-escaped_word_stands.false).1 c.parse_leaf-in-Null.ensures

pub returns-in-Str : goal.returns-in-Str
returns-in-Str t c = λ text f a. leaf_outcome text f _ _ node.StringLiteral op.None Str c.parse_string.result refl string_path a (sym c.cur_kind-2.ensures ∙ c.in-Str.is) (plain_here c.args.p.now (sym c.cur_kind-2.ensures ∙ c.in-Str.is) refl c.escaped_word_stands.ensures c.if-escaped_word_stands.false).1 c.parse_string.ensures

pub returns-in-True : goal.returns-in-True
returns-in-True t c = λ text f a. elim c.in-True.is [
  | inl e ↦ leaf_outcome text f _ _ node.BooleanLiteral op.None True c.parse_leaf-in-True.result refl true_path a (sym c.cur_kind-2.ensures ∙ e) (plain_here c.args.p.now (sym c.cur_kind-2.ensures ∙ e) refl c.escaped_word_stands.ensures c.if-escaped_word_stands.false).1 c.parse_leaf-in-True.ensures
  | inr e ↦ leaf_outcome text f _ _ node.BooleanLiteral op.None False c.parse_leaf-in-True.result refl false_path a (sym c.cur_kind-2.ensures ∙ e) (plain_here c.args.p.now (sym c.cur_kind-2.ensures ∙ e) refl c.escaped_word_stands.ensures c.if-escaped_word_stands.false).1 c.parse_leaf-in-True.ensures
]

pub parse_literal_regexp-requires-clause-sign : goal.parse_literal_regexp-requires-clause-sign
parse_literal_regexp-requires-clause-sign t c = elim c.in-Slash.is [
  | inl e ↦ ap (one_of_kinds slashes) (sym c.cur_kind-2.ensures ∙ e)
  | inr e ↦ ap (one_of_kinds slashes) (sym c.cur_kind-2.ensures ∙ e)
]

pub parse_template-requires-clause-template : goal.parse_template-requires-clause-template
parse_template-requires-clause-template t c = elim c.in-NoSubstitutionTemplate.is [
  | inl e ↦ ap (one_of_kinds heads) (sym c.cur_kind-2.ensures ∙ e)
  | inr e ↦ ap (one_of_kinds heads) (sym c.cur_kind-2.ensures ∙ e)
]

pub returns-in-LParen : goal.returns-in-LParen
returns-in-LParen t c = λ text f a. paren_primary a (sym c.cur_kind-2.ensures ∙ c.in-LParen.is) _ c.parse_parenthesized_expression.result (c.parse_parenthesized_expression.ensures text f a)

pub returns-in_default : goal.returns-in_default
returns-in_default t c = λ text f a. gives_up EndsParse _ _ c.refuse_operand.result a c.refuse_operand.ensures (λ d u. u) (primary_fails a (name_at false a (name_so c.args.p.now c.if-name_stands.false c.name_stands.ensures)) (none_of_these _ (λ e. c.in_default.not-This (c.cur_kind-2.ensures ∙ e)) (λ e. c.in_default.not-Null (c.cur_kind-2.ensures ∙ e)) (λ e. c.in_default.not-True (c.cur_kind-2.ensures ∙ e)) (λ e. c.in_default.not-False (c.cur_kind-2.ensures ∙ e)) (λ e. c.in_default.not-Str (c.cur_kind-2.ensures ∙ e)) (no_pattern_here a) (λ e. c.in_default.not-Slash (c.cur_kind-2.ensures ∙ e)) (λ e. c.in_default.not-SlashEq (c.cur_kind-2.ensures ∙ e)) (λ e. c.in_default.not-NoSubstitutionTemplate (c.cur_kind-2.ensures ∙ e)) (λ e. c.in_default.not-TemplateHead (c.cur_kind-2.ensures ∙ e)) (λ e. c.in_default.not-LParen (c.cur_kind-2.ensures ∙ e)) (λ e. c.in_default.not-LBrack (c.cur_kind-2.ensures ∙ e)) (λ e. c.in_default.not-Function (c.cur_kind-2.ensures ∙ e)) (λ e. c.in_default.not-LCurly (c.cur_kind-2.ensures ∙ e)) (λ e. c.in_default.not-Percent (c.cur_kind-2.ensures ∙ e)) (λ e. c.in_default.not-Class (c.cur_kind-2.ensures ∙ e)) (λ e. c.in_default.not-At (c.cur_kind-2.ensures ∙ e)) (sym (ap (one_of_kinds number_kinds) c.cur_kind.ensures) ∙ (sym c.is_number.ensures ∙ c.if-is_number.false))))

pub parse_function_expression-requires-clause-word : goal.parse_function_expression-requires-clause-word
parse_function_expression-requires-clause-word t c = inl (plain_here c.args.p.now (sym c.cur_kind-2.ensures ∙ c.in-Function.is) refl c.escaped_word_stands.ensures c.if-escaped_word_stands.false)

pub parse_number-requires-clause-plain : goal.parse_number-requires-clause-plain
parse_number-requires-clause-plain t c = word_plain _ _ (no_name_where (one_of_kinds number_kinds) c.args.p.now.token.kind (sym (ap (one_of_kinds number_kinds) c.cur_kind.ensures) ∙ (sym c.is_number.ensures ∙ c.if-is_number.true)) refl) (sym c.escaped_word_stands.ensures ∙ c.if-escaped_word_stands.false)

pub parse_leaf-requires-clause-whole : goal.parse_leaf-requires-clause-whole
parse_leaf-requires-clause-whole t c = whole_sign This c.requires.at (sym c.cur_kind-2.ensures ∙ c.in-This.is) refl refl

pub parse_leaf-requires-in-Null-clause-whole : goal.parse_leaf-requires-in-Null-clause-whole
parse_leaf-requires-in-Null-clause-whole t c = whole_sign Null c.requires.at (sym c.cur_kind-2.ensures ∙ c.in-Null.is) refl refl

pub parse_leaf-requires-in-True-clause-whole : goal.parse_leaf-requires-in-True-clause-whole
parse_leaf-requires-in-True-clause-whole t c = elim c.in-True.is [
  | inl e ↦ whole_sign True c.requires.at (sym c.cur_kind-2.ensures ∙ e) refl refl
  | inr e ↦ whole_sign False c.requires.at (sym c.cur_kind-2.ensures ∙ e) refl refl
]

pub parse_class-requires-clause-class : goal.parse_class-requires-clause-class
parse_class-requires-clause-class t c = elim c.in-Class.is [
  | inl e ↦ class_at c.args.p.now Class refl (sym c.cur_kind-2.ensures ∙ e) (plain_here c.args.p.now (sym c.cur_kind-2.ensures ∙ e) refl c.escaped_word_stands.ensures c.if-escaped_word_stands.false).1
  | inr e ↦ class_at c.args.p.now At refl (sym c.cur_kind-2.ensures ∙ e) (plain_here c.args.p.now (sym c.cur_kind-2.ensures ∙ e) refl c.escaped_word_stands.ensures c.if-escaped_word_stands.false).1
]

pub returns-in-Class : goal.returns-in-Class
returns-in-Class t c = λ text f a. class_operand a (elim c.in-Class.is [ inl e ↦ ap (one_of_kinds class_kinds) (sym c.cur_kind-2.ensures ∙ e) | inr e ↦ ap (one_of_kinds class_kinds) (sym c.cur_kind-2.ensures ∙ e) ]) _ c.parse_class.result (c.parse_class.ensures.taken text f a)
