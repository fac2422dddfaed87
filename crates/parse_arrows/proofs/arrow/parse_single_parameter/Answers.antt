use Rattle.std.proofs.Common.{true, ap, ◌∙◌}
use Rattle.js_base.specs.declared.token.Token.{Token}
use Rattle.parse_shared.proofs.laws_shared.NodeTexts.{name_word}
use Rattle.parse_shared.proofs.laws_shared.NameKinds.{listed_here, name_at, name_whole}
use Rattle.laws_operators.proofs.Arrows.{single_head, single_place}
use Rattle.parse_arrows.proofs.arrow.parse_single_parameter.Goals as goal

pub returns : goal.returns
returns g c = (single_place c.requires.at c.in_ok-name.ensures c.in_ok-parameter.ensures c.in_ok-parameters.ensures, λ text f a. single_head _ a (name_at true a c.requires.name) (c.span-span.ensures ∙ ap (λ (t : Token). t.span) c.cur_token.ensures) (c.in_ok-name.ensures text f a) c.in_ok-parameter.ensures c.in_ok-parameters.ensures)

pub parse_name-requires-clause-whole : goal.parse_name-requires-clause-whole
parse_name-requires-clause-whole g c = name_whole c.requires.at (listed_here c.args.p.now c.requires.name)

pub parse_name-requires-clause-word : goal.parse_name-requires-clause-word
parse_name-requires-clause-word g c = name_word c.args.p.now.token.kind (listed_here c.args.p.now c.requires.name)
