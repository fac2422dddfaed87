use Rattle.js_grammar.proofs.CoreLexed.{are_pieces, pieces_lexed}
use Rattle.js_grammar.proofs.grammar_laws.law_of_core_pieces.Goals as goal

pub returns : goal.returns
returns c = λ text u s g ls. (λ l. are_pieces u s l, λ e. pieces_lexed g u s e)
