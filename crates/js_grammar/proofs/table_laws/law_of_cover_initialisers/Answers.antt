use Rattle.js_grammar.proofs.CoverInitialisers.{program_strictly, program_loosely, strict_has_none}
use Rattle.js_grammar.specs.Productions.{Program}
use Rattle.js_grammar.specs.CoverInitialisers.{with_cover}
use Rattle.std.proofs.Common.{false, refl}
use Rattle.js_grammar.proofs.table_laws.law_of_cover_initialisers.Goals as goal

pub returns : goal.returns
returns c = record {
  strictly = program_strictly;
  loosely = program_loosely;
  none = λ f t i j ls rest d. strict_has_none Program (with_cover false f) refl refl t d;
}
