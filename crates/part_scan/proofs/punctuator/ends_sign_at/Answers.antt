use Rattle.std.proofs.Common.{sym, ◌∙◌}
use Rattle.part_scan.proofs.Punctuators.{ends_at_byte, ends_at_end}
use Rattle.part_scan.proofs.punctuator.ends_sign_at.Goals as goal

pub returns-in-Some : goal.returns-in-Some
returns-in-Some c = λ t. ends_at_byte c.in-Some.ensures c.class_of.ensures (sym c.ends_sign.ensures ∙ t)

pub returns-in-None : goal.returns-in-None
returns-in-None c = λ t. ends_at_end c.args.text.now c.args.at c.in-None.ensures
