use Rattle.part_text.proofs.SurrogateLemmas.{paired-unpaired}
use Rattle.part_text.proofs.text.is_paired.Goals as goal

pub loop-unit-init : goal.loop-unit-init
loop-unit-init c = paired-unpaired c.args.units.now
