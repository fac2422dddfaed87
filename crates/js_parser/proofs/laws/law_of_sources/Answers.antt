use Rattle.js_parser.proofs.SameSource.{readings_have_sources}
use Rattle.js_parser.proofs.laws.law_of_sources.Goals as goal

pub returns : goal.returns
returns c = readings_have_sources
