use Rattle.parse_targets.proofs.Answers.{answer_of, at_there, covers_there, fits_there, spotted_there}
use Rattle.parse_targets.proofs.ElementLaws.{property_law}
use Rattle.parse_targets.proofs.convert.cover_property.Goals as goal

pub finish-requires-clause-at : goal.finish-requires-clause-at
finish-requires-clause-at g c = at_there c.in_ok-found.ensures.stays c.requires.at

pub finish-requires-clause-spotted : goal.finish-requires-clause-spotted
finish-requires-clause-spotted g c = spotted_there property_law c.in_ok-found.ensures.stays c.requires.read c.in_ok-found.found (answer_of c.in_ok-found.found c.no_notes-notes.ensures c.in_ok-found.ensures.found)

pub finish-requires-clause-fits : goal.finish-requires-clause-fits
finish-requires-clause-fits g c = fits_there property_law c.in_ok-found.ensures.stays c.requires.read c.in_ok-found.found (answer_of c.in_ok-found.found c.no_notes-notes.ensures c.in_ok-found.ensures.found)

pub returns : goal.returns
returns g c = covers_there property_law c.in_ok-found.ensures.stays c.in_ok-found.found c.finish.result c.finish.new.p (answer_of c.in_ok-found.found c.no_notes-notes.ensures c.in_ok-found.ensures.found) c.requires.at c.finish.ensures
