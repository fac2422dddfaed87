use Rattle.std.proofs.Common.{ap, arith, ◌∙◌}
use Rattle.js_base.specs.declared.token.Token.{Token}
use Rattle.laws_classes.specs.Members.{kind_of_word}
use Rattle.laws_classes.proofs.laws_primary.PropertyForms.{leaf_at, word_name}
use Rattle.laws_classes.proofs.laws_primary.laws_shared.Moving.{standing}
use Rattle.laws_classes.proofs.laws_primary.laws_shared.Nesting.{nests_later}
use Rattle.laws_classes.proofs.Names.{word_key}
use Rattle.laws_classes.proofs.WordMembers.{word_method_read}
use Rattle.parse_classes.proofs.word_member.parse_word_method.Goals as goal

pub parse_method-requires-clause-at : goal.parse_method-requires-clause-at
parse_method-requires-clause-at g c = standing (leaf_at c.requires.at c.in_ok-key.ensures).0

pub parse_method-requires-clause-nests : goal.parse_method-requires-clause-nests
parse_method-requires-clause-nests g c = nests_later c.requires.nests (let r = (leaf_at c.requires.at c.in_ok-key.ensures).2 in omega arith)

pub parse_method-requires-clause-before : goal.parse_method-requires-clause-before
parse_method-requires-clause-before g c = let r = (leaf_at c.requires.at c.in_ok-key.ensures).1 in let b = c.requires.before in omega arith

pub returns : goal.returns
returns g c = λ text f first p af s a b e i ms.
    let x = word_key a i (word_name a i ms (ap (λ (t : Token). t.span) e) c.in_ok-key.ensures) in
    let k = c.kind_of_word-kind.ensures ∙ ap (kind_of_word c.args.head.is_static) (c.kind.ensures ∙ ap (λ (t : Token). t.kind) e) in
    word_method_read c.args.head.is_static _ c.parse_method.result c.args.head.start af b a i (ms text f a) c.requires.parameters s x c.kind_of_word-kind.result k c.parse_method.ensures
