use Rattle.js_cursor.proofs.Standing.{fault_unexpected, no_fault_here}
use Rattle.js_cursor.proofs.parser.ParserImpl.fault.Goals as goal

pub returns-in-Some : goal.returns-in-Some
returns-in-Some g c = fault_unexpected c.self.view_is c.requires.at c.requires.none c.in-Some.fault c.in-Some.ensures

pub returns-in-None : goal.returns-in-None
returns-in-None g c = absurd (no_fault_here c.self.view_is c.requires.at c.requires.none c.in-None.ensures)
