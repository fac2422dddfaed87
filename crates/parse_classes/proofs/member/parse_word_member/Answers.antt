use Rattle.std.proofs.Common.{◌≡◌, arith, refl, sym, ap, ap₂, ◌∙◌}
use Rattle.laws_classes.specs.Members.{accessor_of, begins_accessor, begins_async}
use Rattle.laws_classes.specs.laws_primary.laws_shared.Lexemes.{keyword_kind}
use Rattle.laws_classes.proofs.laws_primary.Members.{word_whole}
use Rattle.laws_classes.proofs.laws_primary.laws_shared.Escapes.{keyword_is}
use Rattle.laws_classes.proofs.laws_primary.laws_shared.Moving.{standing}
use Rattle.laws_classes.proofs.laws_primary.laws_shared.Nesting.{nested_room, nests_later}
use Rattle.laws_classes.proofs.laws_primary.laws_shared.NodeTexts.{spells_later}
use Rattle.laws_classes.proofs.Elements.{at_first}
use Rattle.laws_classes.proofs.Modifiers.{passed_last}
use Rattle.laws_classes.proofs.Prefixes.{accessor_is, accessor_plain, async_is, names_member, one_accessor, told_so}
use Rattle.parse_classes.proofs.member.parse_word_member.Goals as goal

pub advance-requires-clause-whole : goal.advance-requires-clause-whole
advance-requires-clause-whole g c = word_whole c.requires.at c.requires.word

pub parse_accessor_method-requires-clause-at : goal.parse_accessor_method-requires-clause-at
parse_accessor_method-requires-clause-at g c = standing (c.in_ok-advance.ensures _ _ c.requires.at).at

pub parse_accessor_method-requires-clause-nests : goal.parse_accessor_method-requires-clause-nests
parse_accessor_method-requires-clause-nests g c = nests_later c.requires.nests (let r = nested_room c.requires.at (c.in_ok-advance.ensures _ _ c.requires.at) in omega arith)

pub parse_accessor_method-requires-clause-before : goal.parse_accessor_method-requires-clause-before
parse_accessor_method-requires-clause-before g c = let i = (c.in_ok-advance.ensures _ _ c.requires.at).further in let b = c.requires.before in omega arith

pub returns-in-Some : goal.returns-in-Some
returns-in-Some g c = λ text f first af s b.
    let a = at_first c.args.head.is_static af b in
    let k : c.keyword_of-keyword.result ≡ keyword_kind c.args.p.now.token = c.keyword_of-keyword.ensures ∙ ap keyword_kind c.cur_token-word.ensures in
    let z = one_accessor c.in-Some.kind k c.cur_kind.ensures (sym c.accessor_kind.ensures ∙ c.in-Some.is) in
    let w = accessor_plain c.args.p.now.token c.in-Some.kind z.0 in
    c.parse_accessor_method.ensures text f first c.args.p.now af s a b w.0 w.1 z.1 (c.in_ok-advance.ensures text f a)

pub parse_async_method-requires-clause-at : goal.parse_async_method-requires-clause-at
parse_async_method-requires-clause-at g c = standing (c.in_ok-advance.ensures _ _ c.requires.at).at

pub parse_async_method-requires-clause-nests : goal.parse_async_method-requires-clause-nests
parse_async_method-requires-clause-nests g c = nests_later c.requires.nests (let r = nested_room c.requires.at (c.in_ok-advance.ensures _ _ c.requires.at) in omega arith)

pub parse_async_method-requires-clause-before : goal.parse_async_method-requires-clause-before
parse_async_method-requires-clause-before g c = let i = (c.in_ok-advance.ensures _ _ c.requires.at).further in let b = c.requires.before in omega arith

pub returns-then-begins_async_method : goal.returns-then-begins_async_method
returns-then-begins_async_method g c = λ text f first af s b.
    let a = at_first c.args.head.is_static af b in
    let k : c.keyword_of-keyword.result ≡ keyword_kind c.args.p.now.token = c.keyword_of-keyword.ensures ∙ ap keyword_kind c.cur_token-word.ensures in
    let z = async_is (keyword_kind c.args.p.now.token) c.advance.new.p.token.kind c.advance.new.p.token.is_on_new_line (told_so begins_async k c.cur_token.ensures c.begins_async_method.ensures c.if-begins_async_method.true) in
    let w = keyword_is c.args.p.now.token z.0 refl in
    c.parse_async_method.ensures text f first c.args.p.now af s a b w.0 w.1 z.2 z.1 (c.in_ok-advance.ensures text f a)

pub parse_accessor_field-requires-clause-at : goal.parse_accessor_field-requires-clause-at
parse_accessor_field-requires-clause-at g c = standing (c.in_ok-advance.ensures _ _ c.requires.at).at

pub parse_accessor_field-requires-clause-nests : goal.parse_accessor_field-requires-clause-nests
parse_accessor_field-requires-clause-nests g c = nests_later c.requires.nests (let r = nested_room c.requires.at (c.in_ok-advance.ensures _ _ c.requires.at) in omega arith)

pub parse_accessor_field-requires-clause-before : goal.parse_accessor_field-requires-clause-before
parse_accessor_field-requires-clause-before g c = let i = (c.in_ok-advance.ensures _ _ c.requires.at).further in let b = c.requires.before in omega arith

pub returns-then-begins_accessor_field : goal.returns-then-begins_accessor_field
returns-then-begins_accessor_field g c = λ text f first af s b.
    let a = at_first c.args.head.is_static af b in
    let k : c.keyword_of-keyword.result ≡ keyword_kind c.args.p.now.token = c.keyword_of-keyword.ensures ∙ ap keyword_kind c.cur_token-word.ensures in
    let z = accessor_is (keyword_kind c.args.p.now.token) c.advance.new.p.token.kind c.advance.new.p.token.is_on_new_line (told_so begins_accessor k c.cur_token-2.ensures c.begins_accessor_field.ensures c.if-begins_accessor_field.true) in
    let w = keyword_is c.args.p.now.token z.0 refl in
    c.parse_accessor_field.ensures text f first c.args.p.now af s a b w.0 w.1 z.2 z.1 (c.in_ok-advance.ensures text f a)

pub parse_behind_word-requires-clause-at : goal.parse_behind_word-requires-clause-at
parse_behind_word-requires-clause-at g c = standing (c.in_ok-advance.ensures _ _ c.requires.at).at

pub parse_behind_word-requires-clause-nests : goal.parse_behind_word-requires-clause-nests
parse_behind_word-requires-clause-nests g c = nests_later c.requires.nests (let r = nested_room c.requires.at (c.in_ok-advance.ensures _ _ c.requires.at) in omega arith)

pub parse_behind_word-requires-clause-before : goal.parse_behind_word-requires-clause-before
parse_behind_word-requires-clause-before g c = let i = (c.in_ok-advance.ensures _ _ c.requires.at).further in let b = c.requires.before in omega arith

pub parse_behind_word-requires-clause-passed : goal.parse_behind_word-requires-clause-passed
parse_behind_word-requires-clause-passed g c = passed_last _ c.cur_token-word.ensures c.requires.at (c.in_ok-advance.ensures _ _ c.requires.at)

pub parse_behind_word-requires-clause-spells : goal.parse_behind_word-requires-clause-spells
parse_behind_word-requires-clause-spells g c = spells_later c.requires.at c.requires.word c.cur_token-word.ensures (c.in_ok-advance.ensures _ _ c.requires.at).same.follows.text

pub returns : goal.returns
returns g c = λ text f first af s b.
    let a = at_first c.args.head.is_static af b in
    let k : c.keyword_of-keyword.result ≡ keyword_kind c.args.p.now.token = c.keyword_of-keyword.ensures ∙ ap keyword_kind c.cur_token-word.ensures in
    c.parse_behind_word.ensures text f first c.args.p.now af s a b c.cur_token-word.ensures c.requires.word c.in_ok-advance.ensures
    (names_member c.args.head.is_static (sym (ap₂ accessor_of k c.cur_kind.ensures) ∙ (sym c.accessor_kind.ensures ∙ c.in_default.is)) (told_so begins_async k c.cur_token.ensures c.begins_async_method.ensures c.if-begins_async_method.false) (told_so begins_accessor k c.cur_token-2.ensures c.begins_accessor_field.ensures c.if-begins_accessor_field.false) c.requires.member)
