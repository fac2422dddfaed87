use Rattle.js_parser.proofs.Validity.{readings_are_valid}
use Rattle.js_parser.proofs.laws.law_of_readings.Goals as goal

pub returns : goal.returns
returns c = readings_are_valid
