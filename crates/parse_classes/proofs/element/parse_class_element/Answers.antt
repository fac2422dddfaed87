use Rattle.std.proofs.Common.{◌∷◌, ap, arith, refl, sym, ◌∙◌}
use Rattle.std.proofs.lemmas.Bool.{false≢true}
use Rattle.js_base.specs.declared.kind.Kind.TheVariants.{At as at_sign, Star, Static}
use Rattle.js_base.specs.Kinds.{one_of_kinds}
use Rattle.js_base.specs.KindSets.{identifier_name_kinds}
use Rattle.laws_classes.specs.Members.{name_kinds}
use Rattle.laws_classes.proofs.laws_primary.Members.{stands_so, word_whole}
use Rattle.laws_classes.proofs.laws_primary.laws_shared.Moving.{standing}
use Rattle.laws_classes.proofs.laws_primary.laws_shared.Nesting.{nested_room, nests_later}
use Rattle.laws_classes.proofs.laws_primary.laws_shared.NodeTexts.{spells_later}
use Rattle.laws_classes.proofs.laws_primary.laws_shared.Signs.{other_kind}
use Rattle.laws_classes.proofs.Modifiers.{passed_last}
use Rattle.laws_classes.proofs.ClassElements.{block_element, element_read, member_there, named_element, plain_element, static_element, static_named}
use Rattle.parse_classes.proofs.element.parse_class_element.Goals as goal

pub parse_member-requires-clause-before : goal.parse_member-requires-clause-before
parse_member-requires-clause-before g c = let e = c.cur_start-start.ensures in omega arith

pub parse_member-requires-clause-member : goal.parse_member-requires-clause-member
parse_member-requires-clause-member g c = λ u k e. stands_so c.args.p.now Static c.if-not-stands.true c.stands.ensures k e

pub returns-then-not-stands : goal.returns-then-not-stands
returns-then-not-stands g c = λ text f a.
    element_read text f c.args.p.now _ c.parse_member.result (plain_element a (other_kind at_sign _ c.requires.undecorated) (stands_so c.args.p.now Static c.if-not-stands.true c.stands.ensures)) (c.parse_member.ensures text f c.args.p.now a c.cur_start-start.ensures refl)

pub advance-requires-clause-whole : goal.advance-requires-clause-whole
advance-requires-clause-whole g c = word_whole c.requires.at (ap (one_of_kinds identifier_name_kinds) (stands_so c.args.p.now Static c.if-not-stands.false c.stands.ensures).0)

pub parse_static_block-requires-clause-at : goal.parse_static_block-requires-clause-at
parse_static_block-requires-clause-at g c = standing (c.in_ok-advance.ensures _ _ c.requires.at).at

pub parse_static_block-requires-clause-nests : goal.parse_static_block-requires-clause-nests
parse_static_block-requires-clause-nests g c = nests_later c.requires.nests (let r = nested_room c.requires.at (c.in_ok-advance.ensures _ _ c.requires.at) in omega arith)

pub parse_static_block-requires-clause-before : goal.parse_static_block-requires-clause-before
parse_static_block-requires-clause-before g c = let i = (c.in_ok-advance.ensures _ _ c.requires.at).further in let e = c.cur_start-start.ensures in omega arith

pub returns-then-at : goal.returns-then-at
returns-then-at g c = λ text f a.
    let h = stands_so c.args.p.now Static c.if-not-stands.false c.stands.ensures in
    let m = c.in_ok-advance.ensures text f a in
    element_read text f c.args.p.now _ c.parse_static_block.result (block_element a h m (c.at.ensures.0 c.if-at.true)) (c.parse_static_block.ensures text f c.args.p.now a c.cur_start-start.ensures h m)

pub parse_member-requires-then-begins_member-clause-at : goal.parse_member-requires-then-begins_member-clause-at
parse_member-requires-then-begins_member-clause-at g c = standing (c.in_ok-advance.ensures _ _ c.requires.at).at

pub parse_member-requires-then-begins_member-clause-nests : goal.parse_member-requires-then-begins_member-clause-nests
parse_member-requires-then-begins_member-clause-nests g c = nests_later c.requires.nests (let r = nested_room c.requires.at (c.in_ok-advance.ensures _ _ c.requires.at) in omega arith)

pub parse_member-requires-then-begins_member-clause-before : goal.parse_member-requires-then-begins_member-clause-before
parse_member-requires-then-begins_member-clause-before g c =
    let m = c.in_ok-advance.ensures _ _ c.requires.at in
    let i = m.further in let j = m.at.behind in let e = c.cur_start-start.ensures in omega arith

pub parse_member-requires-then-begins_member-clause-undecorated : goal.parse_member-requires-then-begins_member-clause-undecorated
parse_member-requires-then-begins_member-clause-undecorated g c = (member_there c.advance.new.p (sym (ap (one_of_kinds (Star ∷ name_kinds)) c.cur_kind.ensures) ∙ (sym c.begins_member.ensures ∙ c.if-begins_member.true))).0

pub parse_member-requires-then-begins_member-clause-member : goal.parse_member-requires-then-begins_member-clause-member
parse_member-requires-then-begins_member-clause-member g c = λ u k e. false≢true (sym u)

pub returns-then-begins_member : goal.returns-then-begins_member
returns-then-begins_member g c = λ text f a.
    let h = stands_so c.args.p.now Static c.if-not-stands.false c.stands.ensures in
    let m = c.in_ok-advance.ensures text f a in
    let i = sym (ap (one_of_kinds (Star ∷ name_kinds)) c.cur_kind.ensures) ∙ (sym c.begins_member.ensures ∙ c.if-begins_member.true) in
    element_read text f c.args.p.now _ c.parse_member-then-begins_member.result (static_element a h m (member_there c.advance.new.p i).1 (λ k e. false≢true (sym c.if-at.false ∙ c.at.ensures.1 k))) (c.parse_member-then-begins_member.ensures text f c.args.p.now a c.cur_start-start.ensures (h, m))

pub parse_behind_word-requires-clause-at : goal.parse_behind_word-requires-clause-at
parse_behind_word-requires-clause-at g c = standing (c.in_ok-advance.ensures _ _ c.requires.at).at

pub parse_behind_word-requires-clause-nests : goal.parse_behind_word-requires-clause-nests
parse_behind_word-requires-clause-nests g c = nests_later c.requires.nests (let r = nested_room c.requires.at (c.in_ok-advance.ensures _ _ c.requires.at) in omega arith)

pub parse_behind_word-requires-clause-before : goal.parse_behind_word-requires-clause-before
parse_behind_word-requires-clause-before g c = let i = (c.in_ok-advance.ensures _ _ c.requires.at).further in let e = c.cur_start-start.ensures in omega arith

pub parse_behind_word-requires-clause-passed : goal.parse_behind_word-requires-clause-passed
parse_behind_word-requires-clause-passed g c = passed_last _ c.cur_token-word.ensures c.requires.at (c.in_ok-advance.ensures _ _ c.requires.at)

pub parse_behind_word-requires-clause-spells : goal.parse_behind_word-requires-clause-spells
parse_behind_word-requires-clause-spells g c = spells_later c.requires.at (ap (one_of_kinds identifier_name_kinds) (stands_so c.args.p.now Static c.if-not-stands.false c.stands.ensures).0) c.cur_token-word.ensures (c.in_ok-advance.ensures _ _ c.requires.at).same.follows.text

pub returns : goal.returns
returns g c = λ text f a.
    let h = stands_so c.args.p.now Static c.if-not-stands.false c.stands.ensures in
    let m = c.in_ok-advance.ensures text f a in
    let n = sym (ap (one_of_kinds (Star ∷ name_kinds)) c.cur_kind.ensures) ∙ (sym c.begins_member.ensures ∙ c.if-begins_member.false) in
    element_read text f c.args.p.now _ c.parse_behind_word.result (named_element a h m n (λ k e. false≢true (sym c.if-at.false ∙ c.at.ensures.1 k)))
    (c.parse_behind_word.ensures text f c.args.p.now c.args.p.now a c.cur_start-start.ensures a refl c.cur_token-word.ensures (ap (one_of_kinds identifier_name_kinds) h.0) c.in_ok-advance.ensures (static_named h.0 (λ k. false≢true (sym c.if-at.false ∙ c.at.ensures.1 k)) n))
