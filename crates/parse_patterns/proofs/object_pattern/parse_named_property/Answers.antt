use Rattle.std.proofs.Common.{true, arith, ap, sym, ◌∙◌}
use Rattle.std.proofs.lemmas.Bool.{false≢true}
use Rattle.std.proofs.lemmas.Result.{err_from_is_err_and}
use Rattle.js_base.specs.declared.span.Span.{Span}
use Rattle.js_base.specs.declared.token.Token.{Token}
use Rattle.parse_shared.proofs.laws_shared.Giving.{memory_stops}
use Rattle.parse_shared.proofs.laws_shared.Moving.{standing}
use Rattle.parse_shared.proofs.laws_shared.NameKinds.{listed_here, name_at, name_whole}
use Rattle.parse_shared.proofs.laws_shared.Nesting.{nests_later, later_room}
use Rattle.parse_shared.proofs.laws_shared.NodeTexts.{name_word, spells_later}
use Rattle.laws_patterns.proofs.ObjectPatterns.{name_named, name_place, no_shorthand_named}
use Rattle.parse_patterns.proofs.object_pattern.parse_named_property.Goals as goal

pub parse_name-requires-clause-whole : goal.parse_name-requires-clause-whole
parse_name-requires-clause-whole g c = name_whole c.requires.at (listed_here c.args.p.now c.requires.name)

pub returns-in_err-key : goal.returns-in_err-key
returns-in_err-key g c = λ text f a.
    let p = err_from_is_err_and c.from_residual.result c.from_residual.ensures.1 in
    rw (p.1, p.2) (memory_stops _ _ _ _ c.in_err-key.ensures)

pub parse_shorthand-requires-clause-at : goal.parse_shorthand-requires-clause-at
parse_shorthand-requires-clause-at g c = standing (name_named c.requires.at c.requires.name c.in_ok-key.ensures).at

pub parse_shorthand-requires-clause-nests : goal.parse_shorthand-requires-clause-nests
parse_shorthand-requires-clause-nests g c =
    let x = name_named c.requires.at c.requires.name c.in_ok-key.ensures in
    let s = later_room (let a = x.further in let b = c.requires.at.behind in omega arith) x.same in
    nests_later c.requires.nests (omega arith)

pub parse_shorthand-requires-clause-no_colon : goal.parse_shorthand-requires-clause-no_colon
parse_shorthand-requires-clause-no_colon g c = λ k. false≢true (sym c.if-not-at.true ∙ c.at.ensures.1 k)

pub parse_shorthand-requires-clause-ends : goal.parse_shorthand-requires-clause-ends
parse_shorthand-requires-clause-ends g c = ap (λ (s : Span). s.end) (ap (λ (t : Token). t.span) c.cur_token-name.ensures) ∙ name_place c.requires.at c.in_ok-key.ensures

pub parse_shorthand-requires-clause-ordered : goal.parse_shorthand-requires-clause-ordered
parse_shorthand-requires-clause-ordered g c =
    let x = (name_named c.requires.at c.requires.name c.in_ok-key.ensures).further in
    let y = name_place c.requires.at c.in_ok-key.ensures in
    let s = ap (λ (t : Token). t.span) c.cur_token-name.ensures in
    let b = ap (λ (s : Span). s.start) s in let d = ap (λ (s : Span). s.end) s in omega arith

pub returns-then-not-at : goal.returns-then-not-at
returns-then-not-at g c = λ text f a. c.parse_shorthand.ensures text f _ a (ap (λ (t : Token). t.span) c.cur_token-name.ensures) (name_at true a c.requires.name) c.in_ok-key.ensures

pub parse_property_value-requires-clause-at : goal.parse_property_value-requires-clause-at
parse_property_value-requires-clause-at g c = standing (name_named c.requires.at c.requires.name c.in_ok-key.ensures).at

pub parse_property_value-requires-clause-nests : goal.parse_property_value-requires-clause-nests
parse_property_value-requires-clause-nests g c =
    let x = name_named c.requires.at c.requires.name c.in_ok-key.ensures in
    let s = later_room (let a = x.further in let b = c.requires.at.behind in omega arith) x.same in
    nests_later c.requires.nests (omega arith)

pub parse_property_value-requires-clause-before : goal.parse_property_value-requires-clause-before
parse_property_value-requires-clause-before g c =
    let x = (name_named c.requires.at c.requires.name c.in_ok-key.ensures).further in
    let u = c.start.ensures in let b = ap (λ (t : Token). t.span.start) c.cur_token-name.ensures in omega arith

pub returns : goal.returns
returns g c = λ text f a. c.parse_property_value.ensures text f _ a (c.start.ensures ∙ ap (λ (t : Token). t.span.start) c.cur_token-name.ensures) (name_named a (name_at true a c.requires.name) c.in_ok-key.ensures) (no_shorthand_named a (name_at true a c.requires.name) c.in_ok-key.ensures (c.at.ensures.0 c.if-not-at.false))

pub parse_name-requires-clause-word : goal.parse_name-requires-clause-word
parse_name-requires-clause-word g c = name_word c.args.p.now.token.kind (listed_here c.args.p.now c.requires.name)

pub parse_shorthand-requires-clause-spells : goal.parse_shorthand-requires-clause-spells
parse_shorthand-requires-clause-spells g c = spells_later c.requires.at (name_word c.args.p.now.token.kind (listed_here c.args.p.now c.requires.name)) c.cur_token-name.ensures (name_named c.requires.at c.requires.name c.in_ok-key.ensures).same.follows.text
