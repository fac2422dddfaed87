use Rattle.std.proofs.lemmas.Str.{IsCharBoundary-start}
use Rattle.js_lex.proofs.Lying.{lie_none}
use Rattle.js_lex.proofs.Ordered.{order_none}
use Rattle.js_lex.proofs.lexer.Lexer.new.Goals as goal

pub invariant_of-result : goal.invariant_of-result
invariant_of-result g c = record { utf8 = c.utf8.source_text; short = c.requires; between = IsCharBoundary-start _ c.utf8.source_text; lie = lie_none c.args.source_text.now c.new.result c.new.ensures; order = λ t. order_none c.new.result c.new.ensures }
