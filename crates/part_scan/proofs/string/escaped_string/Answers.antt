use Rattle.std.proofs.Common.{subst, sym, ap, ◌∙◌, List, ℕ, ◌+◌, arith}
use Rattle.js_base.specs.part_text.InvalidEscapes.{is_right, IsInvalidEscape}
use Rattle.part_scan.proofs.StringPlaces.{part_chars, within_text, backslash_stands, a_string_stands, ill_formed}
use Rattle.part_scan.proofs.string.escaped_string.Goals as goal

pub overflow_add-start-in-Some : goal.overflow_add-start-in-Some
overflow_add-start-in-Some c =
    let b = c.requires in
    let p = part_chars c.args.text.now (c.args.at + 1) c.args.end b.inside c.range.result.now c.utf8.text b.opens.boundary b.stands c.range.ensures.value in
    let t = within_text c.args.text.now c.args.at c.args.end b c.in-Some.escape (subst (λ (y : List ℕ). IsInvalidEscape y c.in-Some.escape) p c.in-Some.ensures) in
    omega arith

pub overflow_add-start-in-Some-2 : goal.overflow_add-start-in-Some-2
overflow_add-start-in-Some-2 c =
    let b = c.requires in
    let p = part_chars c.args.text.now (c.args.at + 1) c.args.end b.inside c.range.result.now c.utf8.text b.opens.boundary b.stands c.range.ensures.value in
    let t = within_text c.args.text.now c.args.at c.args.end b c.in-Some.escape (subst (λ (y : List ℕ). IsInvalidEscape y c.in-Some.escape) p c.in-Some.ensures) in
    let z = b.closes.boundary.0 in
    omega arith

pub parts_end-requires : goal.parts_end-requires
parts_end-requires c =
    let b = c.requires in
    let p = part_chars c.args.text.now (c.args.at + 1) c.args.end b.inside c.range.result.now c.utf8.text b.opens.boundary b.stands c.range.ensures.value in
    (backslash_stands c.args.text.now c.args.at c.args.end b c.in-Some.escape c.utf8.text (subst (λ (y : List ℕ). IsInvalidEscape y c.in-Some.escape) p c.in-Some.ensures)).boundary

pub returns-in-None : goal.returns-in-None
returns-in-None c =
    let b = c.requires in
    let s = c.string_to.ensures in
    let p = part_chars c.args.text.now (c.args.at + 1) c.args.end b.inside c.range.result.now c.utf8.text b.opens.boundary b.stands c.range.ensures.value in
    a_string_stands c.args.text.now c.args.at c.args.end b c.string_to.result (sym (ap is_right p) ∙ c.in-None.ensures) s.kind s.end s.escaped s.separated

pub returns-in-Some : goal.returns-in-Some
returns-in-Some c =
    let b = c.requires in
    let p = part_chars c.args.text.now (c.args.at + 1) c.args.end b.inside c.range.result.now c.utf8.text b.opens.boundary b.stands c.range.ensures.value in
    ill_formed c.args.text.now c.args.at c.args.end b c.in-Some.escape c.parts_end.result c.utf8.text (subst (λ (y : List ℕ). IsInvalidEscape y c.in-Some.escape) p c.in-Some.ensures) c.parts_end.ensures
