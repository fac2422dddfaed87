use Rattle.laws_patterns.proofs.Bindings.{name_outcome, no_binding}
use Rattle.parse_shared.proofs.laws_shared.Giving.{gives_up_here}
use Rattle.parse_shared.proofs.laws_shared.NodeTexts.{name_word}
use Rattle.parse_shared.proofs.laws_shared.NameKinds.{listed_here, name_so, name_whole}
use Rattle.parse_patterns.proofs.binding.parse_binding_identifier.Goals as goal

pub returns-then-not-name_stands-clause-answers : goal.returns-then-not-name_stands-clause-answers
returns-then-not-name_stands-clause-answers g c = λ text f a. gives_up_here _ _ c.set_unexpected.result a c.set_unexpected.ensures (no_binding a c.requires.no_array c.requires.no_object (name_so c.args.p.now c.if-not-name_stands.true c.name_stands.ensures))

pub returns-clause-answers : goal.returns-clause-answers
returns-clause-answers g c = λ text f a. name_outcome text f _ _ c.parse_name.result a (name_so c.args.p.now c.if-not-name_stands.false c.name_stands.ensures) c.parse_name.ensures

pub parse_name-requires-clause-whole : goal.parse_name-requires-clause-whole
parse_name-requires-clause-whole g c = name_whole c.requires.at (listed_here c.args.p.now (name_so c.args.p.now c.if-not-name_stands.false c.name_stands.ensures))

pub parse_name-requires-clause-word : goal.parse_name-requires-clause-word
parse_name-requires-clause-word g c = name_word c.args.p.now.token.kind (listed_here c.args.p.now (name_so c.args.p.now c.if-not-name_stands.false c.name_stands.ensures))
