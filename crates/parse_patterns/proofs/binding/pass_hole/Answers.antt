use Rattle.std.proofs.Common.{refl, arith}
use Rattle.js_base.specs.declared.kind.Kind.TheVariants.{Comma}
use Rattle.parse_shared.proofs.laws_shared.Signs.{whole_sign}
use Rattle.laws_patterns.proofs.PatternLists.{hole_taken}
use Rattle.parse_patterns.proofs.binding.pass_hole.Goals as goal

pub advance-requires-clause-whole : goal.advance-requires-clause-whole
advance-requires-clause-whole g c = whole_sign Comma c.requires.at c.requires.comma refl refl

pub returns : goal.returns
returns g c =
    let m = c.in_ok-advance.ensures _ _ c.requires.at in
    (λ e. let i = m.further in let j = c.requires.at.behind in omega arith, λ text f a. hole_taken a c.requires.comma (c.in_ok-advance.ensures text f a) c.in_ok-push.ensures.items)
