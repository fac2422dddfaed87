use Rattle.std.proofs.Common.{ap, ◌∙◌}
use Rattle.js_base.specs.part_text.InvalidEscapes.{is_right}
use Rattle.part_words.proofs.js_grammar.LongestLemmas.{not-true}
use Rattle.part_scan.proofs.StringLemmas.{plain_right}
use Rattle.part_scan.proofs.StringPlaces.{not-false, quoted, between, unterminated, a_string_stands}
use Rattle.part_scan.proofs.string.string_at.Goals as goal

pub returns-then-not-inside : goal.returns-then-not-inside
returns-then-not-inside c =
    let i = c.inside_at-inside.ensures in
    unterminated c.args.text.now c.args.at c.inside_at-inside.result.end c.in-Some.quote i.word c.requires.boundary (quoted c.args.text.now c.args.at c.in-Some.quote c.in-Some.ensures c.requires.quote) i.stands i.within (i.ends (not-true _ c.if-not-inside.true))

pub escaped_string-requires : goal.escaped_string-requires
escaped_string-requires c =
    let i = c.inside_at-inside.ensures in
    (between c.args.text.now c.args.at c.inside_at-inside.result.end c.in-Some.quote i.word c.utf8.text (quoted c.args.text.now c.args.at c.in-Some.quote c.in-Some.ensures c.requires.quote) i.stands i.within (i.closed (not-false _ c.if-not-inside.false))).closed

pub returns-else-inside : goal.returns-else-inside
returns-else-inside c =
    let i = c.inside_at-inside.ensures in
    let s = c.string_to.ensures in
    let b = between c.args.text.now c.args.at c.inside_at-inside.result.end c.in-Some.quote i.word c.utf8.text (quoted c.args.text.now c.args.at c.in-Some.quote c.in-Some.ensures c.requires.quote) i.stands i.within (i.closed (not-false _ c.if-not-inside.false)) in
    a_string_stands c.args.text.now c.args.at c.inside_at-inside.result.end b.closed c.string_to.result (ap is_right b.same ∙ plain_right i.word (i.plain c.if-inside.false)) s.kind s.end s.escaped s.separated
