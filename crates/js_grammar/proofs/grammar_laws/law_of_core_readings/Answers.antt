use Rattle.std.proofs.Common.{refl}
use Rattle.js_grammar.specs.Settings.{script}
use Rattle.js_grammar.specs.Options.{program_flags}
use Rattle.js_grammar.specs.Productions.{Program, at}
use Rattle.js_grammar.specs.Grammar.{last}
use Rattle.js_grammar.specs.CoreReadings.{core_options}
use Rattle.js_grammar.proofs.CoreValid.{core_in_whole}
use Rattle.js_grammar.proofs.CoreLexed.{core_lexemes, are_pieces, pieces_lexed}
use Rattle.js_grammar.proofs.grammar_laws.law_of_core_readings.Goals as goal

pub returns : goal.returns
returns c = λ text v8 t u s. (
  λ r. let l = pieces_lexed script u r.core r.lexed in record { lexemes = r.lexemes; lexed = l; end = r.end; final = r.final; derived = (core_in_whole (at Program (program_flags script (core_options v8))) t 0 r.end r.lexemes (last r.final) refl (core_lexemes text u s script r.lexemes l)).1 r.derived },
  λ d. record { core = s; lexemes = d.lexemes; lexed = are_pieces u s d.lexed; end = d.end; final = d.final; derived = (core_in_whole (at Program (program_flags script (core_options v8))) t 0 d.end d.lexemes (last d.final) refl (core_lexemes text u s script d.lexemes d.lexed)).0 d.derived },
)
