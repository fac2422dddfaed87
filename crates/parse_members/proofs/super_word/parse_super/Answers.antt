use Rattle.std.proofs.Common.{ap, ◌∙◌}
use Rattle.js_base.specs.Kinds.{same_kind}
use Rattle.js_base.specs.declared.kind.Kind.TheVariants.{RAngle}
use Rattle.js_base.specs.declared.token.Token.{Token}
use Rattle.parse_shared.specs.laws_shared.Moves.{unpassable}
use Rattle.parse_shared.proofs.laws_shared.Here.{uncut}
use Rattle.parse_primary.proofs.laws_primary.Supers.{alone_marked, super_taken}
use Rattle.parse_members.proofs.super_word.parse_super.Goals as goal

pub advance-requires-clause-whole : goal.advance-requires-clause-whole
advance-requires-clause-whole g c = (uncut c.requires.at (ap (same_kind RAngle) c.requires.word.0), ap unpassable c.requires.word.0)

pub check_super-requires-clause-at : goal.check_super-requires-clause-at
check_super-requires-clause-at g c = (c.in_ok-advance.ensures _ _ c.requires.at).at.at

pub check_super-requires-clause-mark : goal.check_super-requires-clause-mark
check_super-requires-clause-mark g c = alone_marked c.requires.at c.requires.word (c.in_ok-advance.ensures _ _ c.requires.at) (c.span-span.ensures ∙ ap (λ (t : Token). t.span) c.cur_token.ensures)

pub returns : goal.returns
returns g c = λ text f a. super_taken a c.requires.word (c.in_ok-advance.ensures text f a) (c.span-span.ensures ∙ ap (λ (t : Token). t.span) c.cur_token.ensures) c.in_ok-check_super.ensures c.in_ok-node.ensures
