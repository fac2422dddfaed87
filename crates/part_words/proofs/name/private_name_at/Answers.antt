use Rattle.part_words.proofs.NameScans.{mark-here, private-scanned}
use Rattle.part_words.proofs.name.private_name_at.Goals as goal

pub longest_name-requires : goal.longest_name-requires
longest_name-requires c = (mark-here c.args.text.now c.args.at c.utf8.text c.requires.boundary c.requires.first).boundary

pub fault_behind_mark-requires-clause-mark : goal.fault_behind_mark-requires-clause-mark
fault_behind_mark-requires-clause-mark c = mark-here c.args.text.now c.args.at c.utf8.text c.requires.boundary c.requires.first

pub fault_behind_mark-requires-clause-none : goal.fault_behind_mark-requires-clause-none
fault_behind_mark-requires-clause-none c = c.in-None.ensures

pub returns-in-Some : goal.returns-in-Some
returns-in-Some c = private-scanned (mark-here c.args.text.now c.args.at c.utf8.text c.requires.boundary c.requires.first) c.in-Some.ensures
