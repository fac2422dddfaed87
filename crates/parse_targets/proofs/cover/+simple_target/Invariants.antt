use Rattle.parse_targets.proofs.cover.+simple_target.Given as goal

abbrev pub decreases-simple_target : goal.decreases-simple_target
decreases-simple_target l = l.id.0
