use Rattle.std.proofs.Common.{sym, ◌∙◌, ap}
use Rattle.part_words.specs.js_grammar.LexicalFaults.{behind}
use Rattle.js_lex.specs.Openings.{opening_told}
use Rattle.part_words.proofs.KindsOfLexemes.{comment_free}
use Rattle.js_lex.proofs.Openings.{backquote_there, name_there, quote_there}
use Rattle.js_lex.proofs.plain_goal.plain_at.Goals as goal

pub template_at-requires-clause-opening : goal.template_at-requires-clause-opening
template_at-requires-clause-opening c = backquote_there c.in-Some.first.value c.if-first-eq46.before_digit (sym c.opening_of.ensures ∙ ap opening_told c.in-Template.is) c.in-Some.ensures

pub punctuator_at-requires-clause-no_comment : goal.punctuator_at-requires-clause-no_comment
punctuator_at-requires-clause-no_comment c = comment_free c.requires.no_trivia.0 (behind c.args.text.now c.args.at) c.requires.no_trivia.1

pub name_at-requires-clause-first : goal.name_at-requires-clause-first
name_at-requires-clause-first c = name_there c.in-Some.first.value c.if-first-eq46.before_digit (sym c.opening_of.ensures ∙ ap opening_told c.in-Name.is) c.in-Some.ensures

pub string_at-requires-clause-quote : goal.string_at-requires-clause-quote
string_at-requires-clause-quote c = quote_there c.in-Some.first.value c.if-first-eq46.before_digit (sym c.opening_of.ensures ∙ ap opening_told c.in-String.is) c.in-Some.ensures
