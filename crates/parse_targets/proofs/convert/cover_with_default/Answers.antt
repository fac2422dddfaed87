use Rattle.parse_targets.proofs.Answers.{answer_of, at_there, covers_there, fits_there, keeps_there, spotted_there, of_the_node}
use Rattle.parse_targets.proofs.ElementLaws.{assignment_law}
use Rattle.parse_targets.proofs.convert.cover_with_default.Goals as goal

pub finish-requires-clause-at : goal.finish-requires-clause-at
finish-requires-clause-at g c = at_there c.in_ok-found.ensures.stays c.requires.at

pub finish-requires-clause-spotted : goal.finish-requires-clause-spotted
finish-requires-clause-spotted g c = spotted_there assignment_law c.in_ok-found.ensures.stays c.requires.read c.in_ok-found.found (answer_of c.in_ok-found.found c.no_notes-notes.ensures c.in_ok-found.ensures.found)

pub finish-requires-clause-fits : goal.finish-requires-clause-fits
finish-requires-clause-fits g c = fits_there assignment_law c.in_ok-found.ensures.stays c.requires.read c.in_ok-found.found (answer_of c.in_ok-found.found c.no_notes-notes.ensures c.in_ok-found.ensures.found)

pub returns-clause-covers : goal.returns-clause-covers
returns-clause-covers g c = covers_there assignment_law c.in_ok-found.ensures.stays c.in_ok-found.found c.finish.result c.finish.new.p (answer_of c.in_ok-found.found c.no_notes-notes.ensures c.in_ok-found.ensures.found) c.requires.at c.finish.ensures

pub assignment_node-requires-clause-assignment : goal.assignment_node-requires-clause-assignment
assignment_node-requires-clause-assignment g c = of_the_node c.requires.read

pub returns-clause-keeps : goal.returns-clause-keeps
returns-clause-keeps g c = keeps_there c.assignment_node.new.p c.requires.read c.in_ok-found.found c.finish.result c.finish.new.p (answer_of c.in_ok-found.found c.no_notes-notes.ensures c.in_ok-found.ensures.found) c.finish.ensures
