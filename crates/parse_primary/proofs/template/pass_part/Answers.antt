use Rattle.std.proofs.Common.{◌+◌, ap, subst, sym, ◌∙◌}
use Rattle.js_base.specs.declared.token.Token.{Token}
use Rattle.js_base.specs.Kinds.{one_of_kinds}
use Rattle.laws_primary.specs.Templates.{inside_end, inside_fits, last_parts}
use Rattle.laws_primary.proofs.Templates.{inside_here, inside_lies, part_moves, part_taken}
use Rattle.parse_primary.proofs.template.pass_part.Goals as goal

pub inside-span-requires : goal.inside-span-requires
inside-span-requires g c = subst (λ (t : Token). inside_fits t) (sym c.cur_token-token.ensures) (inside_here c.requires.at).fits

pub returns : goal.returns
returns g c = λ text f a.
    let from = c.inside-span.ensures.start ∙ ap (λ (t : Token). t.span.start + 1) c.cur_token-token.ensures in
    let to = c.inside-span.ensures.end ∙ ap inside_end c.cur_token-token.ensures in
    part_taken c.is_last_part-is_last.result c.inside-span.result (part_moves a c.in_ok-bump_any.ensures)
    (inside_lies c.inside-span.result a from to) from to c.in_ok-element.ensures (c.is_last_part-is_last.ensures ∙ ap (one_of_kinds last_parts) (c.kind.ensures ∙ ap (λ (t : Token). t.kind) c.cur_token-token.ensures))
