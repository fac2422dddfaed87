use Rattle.std.proofs.Common.{refl}
use Rattle.js_grammar.specs.Marks.{the_end, the_start}
use Rattle.laws_primary.proofs.Members.{word_whole}
use Rattle.laws_primary.proofs.laws_shared.NameKinds.{listed_here, name_so}
use Rattle.laws_primary.proofs.laws_shared.NodeTexts.{name_word}
use Rattle.laws_primary.proofs.Classes.{name_refused}
use Rattle.parse_primary.proofs.class.parse_class_name.Goals as goal

pub parse_name-requires-clause-word : goal.parse_name-requires-clause-word
parse_name-requires-clause-word g c = name_word c.args.p.now.token.kind (listed_here c.args.p.now (name_so c.args.p.now c.if-name_stands.true c.name_stands.ensures))

pub parse_name-requires-clause-whole : goal.parse_name-requires-clause-whole
parse_name-requires-clause-whole g c = word_whole c.requires (name_word c.args.p.now.token.kind (listed_here c.args.p.now (name_so c.args.p.now c.if-name_stands.true c.name_stands.ensures)))

pub returns-in-Expression : goal.returns-in-Expression
returns-in-Expression g c = (c.in-Expression.is, name_so c.args.p.now c.if-name_stands.false c.name_stands.ensures, refl)

pub returns : goal.returns
returns g c = name_refused c.args.form _ _ c.refuse_due.result c.in_default.not-Expression (name_so c.args.p.now c.if-name_stands.false c.name_stands.ensures) c.refuse_due.ensures

pub returns-then-name_stands : goal.returns-then-name_stands
returns-then-name_stands g c = (name_so c.args.p.now c.if-name_stands.true c.name_stands.ensures, c.in_ok-name.ensures)

pub refuse_due-requires-clause-may : goal.refuse_due-requires-clause-may
refuse_due-requires-clause-may g c = λ s l i. ((the_start l.of_text l.is.0, the_end l.of_text l.is.1), (refl, refl))

pub refuse_due-requires-clause-ends : goal.refuse_due-requires-clause-ends
refuse_due-requires-clause-ends g c = refl
