use Rattle.std.proofs.Common.{◌≡◌, [], ◌∷◌, Bool, false, not, ◌&&◌, refl, sym, ap, arith, ◌∙◌}
use Rattle.js_base.specs.Kinds.{one_of_kinds}
use Rattle.js_base.specs.declared.span.Span.{Span}
use Rattle.js_base.specs.declared.token.Token.{Token}
use Rattle.js_grammar.specs.Productions.{at, Property}
use Rattle.laws_primary.proofs.Members.{word_whole}
use Rattle.laws_primary.proofs.PropertyForms.{accessor_only, async_only, begins_plain, leaf_at, no_form, no_shorthand_here, no_value_or_method, one_form, shorthand_only, word_name, word_only}
use Rattle.laws_primary.proofs.laws_shared.Escapes.{keyword_is}
use Rattle.laws_primary.proofs.WordProperties.{name_async, no_star}
use Rattle.laws_primary.proofs.AsyncMethods.{async_is, async_so}
use Rattle.js_base.specs.declared.kind.Kind.TheVariants.{Colon, LParen}
use Rattle.laws_primary.specs.laws_shared.Lexemes.{may_name, keyword_kind}
use Rattle.laws_primary.proofs.laws_shared.NameKinds.{names_at}
use Rattle.laws_primary.proofs.Wholes.{item_by}
use Rattle.laws_primary.proofs.laws_shared.Moving.{standing}
use Rattle.laws_primary.proofs.laws_shared.Nesting.{nested_room, nests_later}
use Rattle.laws_primary.proofs.laws_shared.NodeTexts.{spells_later}
use Rattle.parse_primary.proofs.object.parse_word_property.Goals as goal

pub advance-requires-clause-whole : goal.advance-requires-clause-whole
advance-requires-clause-whole g c = word_whole c.requires.at c.requires.word

pub parse_accessor-requires-clause-at : goal.parse_accessor-requires-clause-at
parse_accessor-requires-clause-at g c = standing (c.in_ok-advance.ensures _ _ c.requires.at).at

pub parse_accessor-requires-clause-nests : goal.parse_accessor-requires-clause-nests
parse_accessor-requires-clause-nests g c = nests_later c.requires.nests (let r = nested_room c.requires.at (c.in_ok-advance.ensures _ _ c.requires.at) in omega arith)

pub parse_accessor-requires-clause-before : goal.parse_accessor-requires-clause-before
parse_accessor-requires-clause-before g c =
    let e : c.span-span.result ≡ c.args.p.now.token.span = c.span-span.ensures ∙ ap (λ (t : Token). t.span) c.cur_token-word.ensures in
    let s = ap (λ (s : Span). s.start) e in let i = (c.in_ok-advance.ensures _ _ c.requires.at).further in omega arith

pub returns-in-Some : goal.returns-in-Some
returns-in-Some g c = λ text f a.
    let m = c.in_ok-advance.ensures text f a in
    let e : c.span-span.result ≡ c.args.p.now.token.span = c.span-span.ensures ∙ ap (λ (t : Token). t.span) c.cur_token-word.ensures in
    let k : c.keyword_of-keyword.result ≡ keyword_kind c.args.p.now.token = c.keyword_of-keyword.ensures ∙ ap keyword_kind c.cur_token-word.ensures in
    let b = one_form c.in-Some.form k c.cur_kind.ensures (sym c.accessor_form.ensures ∙ c.in-Some.is) in
    let w = begins_plain c.args.p.now.token c.in-Some.form b.0 in
    item_by text f c.args.p.now (at Property f) _ c.parse_accessor.result (accessor_only a c.requires.word m c.in-Some.form (w.0, b.1)) (c.parse_accessor.ensures text f c.args.p.now a (ap (λ (s : Span). s.start) e) w.0 w.1 m)

pub parse_async_method-requires-clause-at : goal.parse_async_method-requires-clause-at
parse_async_method-requires-clause-at g c = standing (c.in_ok-advance.ensures _ _ c.requires.at).at

pub parse_async_method-requires-clause-nests : goal.parse_async_method-requires-clause-nests
parse_async_method-requires-clause-nests g c = nests_later c.requires.nests (let r = nested_room c.requires.at (c.in_ok-advance.ensures _ _ c.requires.at) in omega arith)

pub parse_async_method-requires-clause-before : goal.parse_async_method-requires-clause-before
parse_async_method-requires-clause-before g c =
    let e : c.span-span.result ≡ c.args.p.now.token.span = c.span-span.ensures ∙ ap (λ (t : Token). t.span) c.cur_token-word.ensures in
    let s = ap (λ (s : Span). s.start) e in let i = (c.in_ok-advance.ensures _ _ c.requires.at).further in omega arith

pub parse_async_method-requires-clause-line : goal.parse_async_method-requires-clause-line
parse_async_method-requires-clause-line g c =
    let k : c.keyword_of-keyword.result ≡ keyword_kind c.args.p.now.token = c.keyword_of-keyword.ensures ∙ ap keyword_kind c.cur_token-word.ensures in
    (async_is (keyword_kind c.args.p.now.token) c.advance.new.p.token.kind c.advance.new.p.token.is_on_new_line (async_so k c.cur_token.ensures c.begins_async_method.ensures c.if-begins_async_method.true)).2

pub returns-then-begins_async_method : goal.returns-then-begins_async_method
returns-then-begins_async_method g c = λ text f a.
    let m = c.in_ok-advance.ensures text f a in
    let e : c.span-span.result ≡ c.args.p.now.token.span = c.span-span.ensures ∙ ap (λ (t : Token). t.span) c.cur_token-word.ensures in
    let k : c.keyword_of-keyword.result ≡ keyword_kind c.args.p.now.token = c.keyword_of-keyword.ensures ∙ ap keyword_kind c.cur_token-word.ensures in
    let b = async_is (keyword_kind c.args.p.now.token) c.advance.new.p.token.kind c.advance.new.p.token.is_on_new_line (async_so k c.cur_token.ensures c.begins_async_method.ensures c.if-begins_async_method.true) in
    let w = keyword_is c.args.p.now.token b.0 refl in
    item_by text f c.args.p.now (at Property f) _ c.parse_async_method.result (async_only a c.requires.word m w.0 b.1) (c.parse_async_method.ensures text f c.args.p.now a (ap (λ (s : Span). s.start) e) w.0 w.1 b.1 m)

pub parse_shorthand-requires-clause-at : goal.parse_shorthand-requires-clause-at
parse_shorthand-requires-clause-at g c = standing (c.in_ok-advance.ensures _ _ c.requires.at).at

pub parse_shorthand-requires-clause-nests : goal.parse_shorthand-requires-clause-nests
parse_shorthand-requires-clause-nests g c = nests_later c.requires.nests (let r = nested_room c.requires.at (c.in_ok-advance.ensures _ _ c.requires.at) in omega arith)

pub parse_shorthand-requires-clause-before : goal.parse_shorthand-requires-clause-before
parse_shorthand-requires-clause-before g c =
    let s = ap (λ (t : Token). t.span.start) c.cur_token-word.ensures in let i = (c.in_ok-advance.ensures _ _ c.requires.at).further in omega arith

pub returns-then-is_shorthand : goal.returns-then-is_shorthand
returns-then-is_shorthand g c = λ text f a.
    let m = c.in_ok-advance.ensures text f a in
    let e : c.cur_token-word.result.span ≡ c.args.p.now.token.span = ap (λ (t : Token). t.span) c.cur_token-word.ensures in
    let k : c.keyword_of-keyword.result ≡ keyword_kind c.args.p.now.token = c.keyword_of-keyword.ensures ∙ ap keyword_kind c.cur_token-word.ensures in
    let j : c.kind.result ≡ c.args.p.now.token.kind = c.kind.ensures ∙ ap (λ (t : Token). t.kind) c.cur_token-word.ensures in
    let z = no_value_or_method (may_name f.yield_ f.await_ c.kind.result) (one_of_kinds (Colon ∷ LParen ∷ []) c.cur_kind-2.result) (names_at m.at (λ (b : Bool). b && not (one_of_kinds (Colon ∷ LParen ∷ []) c.cur_kind-2.result)) c.kind.result ∙ (sym c.is_shorthand.ensures ∙ c.if-is_shorthand.true)) in
    item_by text f c.args.p.now (at Property f) _ c.parse_shorthand.result (shorthand_only a c.requires.word m (no_form k c.cur_kind.ensures (sym c.accessor_form.ensures ∙ c.in_default.is)) (async_so k c.cur_token.ensures c.begins_async_method.ensures c.if-begins_async_method.false) (sym (ap (one_of_kinds (Colon ∷ LParen ∷ [])) c.cur_kind-2.ensures) ∙ z.1))
    (c.parse_shorthand.ensures text f c.args.p.now a e (record { kind = sym (ap (may_name f.yield_ f.await_) j) ∙ z.0 }) m)

pub parse_behind_name-requires-clause-at : goal.parse_behind_name-requires-clause-at
parse_behind_name-requires-clause-at g c = standing (leaf_at (c.in_ok-advance.ensures _ _ c.requires.at).at c.in_ok-key.ensures).0

pub parse_behind_name-requires-clause-nests : goal.parse_behind_name-requires-clause-nests
parse_behind_name-requires-clause-nests g c = nests_later c.requires.nests (
    let m = c.in_ok-advance.ensures _ _ c.requires.at in
    let l = (leaf_at m.at c.in_ok-key.ensures).2 in let r = nested_room c.requires.at m in omega arith)

pub parse_behind_name-requires-clause-before : goal.parse_behind_name-requires-clause-before
parse_behind_name-requires-clause-before g c =
    let e : c.span-span.result ≡ c.args.p.now.token.span = c.span-span.ensures ∙ ap (λ (t : Token). t.span) c.cur_token-word.ensures in
    let m = c.in_ok-advance.ensures _ _ c.requires.at in
    let l = (leaf_at m.at c.in_ok-key.ensures).1 in let s = ap (λ (s : Span). s.start) e in let i = m.further in omega arith

pub returns : goal.returns
returns g c = λ text f a.
    let m = c.in_ok-advance.ensures text f a in
    let e : c.span-span.result ≡ c.args.p.now.token.span = c.span-span.ensures ∙ ap (λ (t : Token). t.span) c.cur_token-word.ensures in
    let k : c.keyword_of-keyword.result ≡ keyword_kind c.args.p.now.token = c.keyword_of-keyword.ensures ∙ ap keyword_kind c.cur_token-word.ensures in
    let j : c.kind.result ≡ c.args.p.now.token.kind = c.kind.ensures ∙ ap (λ (t : Token). t.kind) c.cur_token-word.ensures in
    let x = word_name a c.requires.word c.in_ok-advance.ensures (ap (λ (t : Token). t.span) c.cur_token-word.ensures) c.in_ok-key.ensures in
    item_by text f c.args.p.now (at Property f) _ c.parse_behind_name.result
    (word_only a c.requires.word m (no_form k c.cur_kind.ensures (sym c.accessor_form.ensures ∙ c.in_default.is)) (async_so k c.cur_token.ensures c.begins_async_method.ensures c.if-begins_async_method.false) (no_shorthand_here f.yield_ f.await_ j c.cur_kind-2.ensures (names_at m.at (λ (b : Bool). b && not (one_of_kinds (Colon ∷ LParen ∷ []) c.cur_kind-2.result)) c.kind.result ∙ (sym c.is_shorthand.ensures ∙ c.if-is_shorthand.false))) x.other)
    (c.parse_behind_name.ensures text f c.args.p.now a (ap (λ (s : Span). s.start) e) (no_star a c.requires.word m) (name_async a c.requires.word m (async_so k c.cur_token.ensures c.begins_async_method.ensures c.if-begins_async_method.false) false) x)

pub parse_shorthand-requires-clause-spells : goal.parse_shorthand-requires-clause-spells
parse_shorthand-requires-clause-spells g c = spells_later c.requires.at c.requires.word c.cur_token-word.ensures (c.in_ok-advance.ensures _ _ c.requires.at).same.follows.text

pub make_name-requires-clause-spells : goal.make_name-requires-clause-spells
make_name-requires-clause-spells g c = spells_later c.requires.at c.requires.word c.cur_token-word.ensures (c.in_ok-advance.ensures _ _ c.requires.at).same.follows.text
