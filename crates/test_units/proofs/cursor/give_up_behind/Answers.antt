use Rattle.test_units.proofs.cursor.give_up_behind.Goals as goal

pub give_up-requires : goal.give_up-requires
give_up-requires c = c.in_ok-move_on.ensures.1
