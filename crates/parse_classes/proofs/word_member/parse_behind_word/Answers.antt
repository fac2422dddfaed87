use Rattle.std.proofs.Common.{ap, arith, false, refl, sym, ◌∙◌}
use Rattle.std.specs.Prelude.{Err}
use Rattle.std.proofs.lemmas.Bool.{false≢true}
use Rattle.js_base.specs.declared.token.Token.{Token}
use Rattle.laws_classes.proofs.laws_primary.PropertyForms.{leaf_at, word_name}
use Rattle.laws_classes.proofs.laws_primary.laws_shared.Moving.{standing}
use Rattle.laws_classes.proofs.laws_primary.laws_shared.Nesting.{nests_later}
use Rattle.laws_classes.specs.Modifiers.{is_modifier}
use Rattle.laws_classes.proofs.Modifiers.{modifier_marked, modifier_stops, passed_beside}
use Rattle.laws_classes.proofs.Names.{word_key}
use Rattle.laws_classes.proofs.WordFields.{word_field_read}
use Rattle.parse_classes.proofs.word_member.parse_behind_word.Goals as goal

pub parse_word_method-requires-clause-parameters : goal.parse_word_method-requires-clause-parameters
parse_word_method-requires-clause-parameters g c = c.at.ensures.0 c.if-at.true

pub returns-then-at : goal.returns-then-at
returns-then-at g c = λ text f first p af s a b e i ms n. c.parse_word_method.ensures text f first p af s a b e i ms

pub refuse_at-requires-clause-at : goal.refuse_at-requires-clause-at
refuse_at-requires-clause-at g c = (leaf_at c.requires.at c.in_ok-key.ensures).0.at

pub refuse_at-requires-clause-mark : goal.refuse_at-requires-clause-mark
refuse_at-requires-clause-mark g c = modifier_marked c.args.word (leaf_at c.requires.at c.in_ok-key.ensures).0 (ap (is_modifier c.args.word) (sym c.cur_token.ensures) ∙ (sym c.modifies.ensures ∙ c.if-modifies.true)) _ c.span.ensures (passed_beside c.in_ok-key.ensures.stays c.requires.passed)

pub refuse_at-requires-clause-ends : goal.refuse_at-requires-clause-ends
refuse_at-requires-clause-ends g c = refl

pub returns-then-modifies : goal.returns-then-modifies
returns-then-modifies g c = λ text f first p af s a b e i ms n.
    let x = word_key a i (word_name a i ms (ap (λ (t : Token). t.span) e) c.in_ok-key.ensures) in
    let u = (leaf_at (ms text f a).at c.in_ok-key.ensures).0 in
    let h = ap (is_modifier c.args.word) (sym c.cur_token.ensures) ∙ (sym c.modifies.ensures ∙ c.if-modifies.true) in
    word_field_read c.args.head.is_static af b a i (ms text f a) n (λ k. false≢true (sym c.if-at.false ∙ c.at.ensures.1 k)) _ (Err c.refuse_at.result) c.args.head.start s (leaf_at (ms text f a).at c.in_ok-key.ensures).1 x (modifier_stops c.args.word u h c.args.head (record { key = c.in_ok-key.key; computed = false }) _ c.refuse_at.result c.refuse_at.ensures)

pub parse_field-requires-clause-at : goal.parse_field-requires-clause-at
parse_field-requires-clause-at g c = standing (leaf_at c.requires.at c.in_ok-key.ensures).0

pub parse_field-requires-clause-nests : goal.parse_field-requires-clause-nests
parse_field-requires-clause-nests g c = nests_later c.requires.nests (let r = (leaf_at c.requires.at c.in_ok-key.ensures).2 in omega arith)

pub parse_field-requires-clause-before : goal.parse_field-requires-clause-before
parse_field-requires-clause-before g c = let r = (leaf_at c.requires.at c.in_ok-key.ensures).1 in let b = c.requires.before in omega arith

pub returns : goal.returns
returns g c = λ text f first p af s a b e i ms n.
    let x = word_key a i (word_name a i ms (ap (λ (t : Token). t.span) e) c.in_ok-key.ensures) in
    word_field_read c.args.head.is_static af b a i (ms text f a) n (λ k. false≢true (sym c.if-at.false ∙ c.at.ensures.1 k)) _ c.parse_field.result c.args.head.start s (leaf_at (ms text f a).at c.in_ok-key.ensures).1 x c.parse_field.ensures
