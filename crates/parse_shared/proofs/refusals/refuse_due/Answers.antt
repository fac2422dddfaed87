use Rattle.std.proofs.Common.{◌∙◌, None, refl, sym}
use Rattle.std.proofs.lemmas.Bool.{false≢true}
use Rattle.laws_shared.specs.js_cursor.Moves.{at_lexeme}
use Rattle.laws_shared.proofs.js_cursor.Standing.{mark_here}
use Rattle.parse_shared.proofs.refusals.refuse_due.Goals as goal

pub refuse_here-requires-clause-mark : goal.refuse_here-requires-clause-mark
refuse_here-requires-clause-mark g c = mark_here c.args.kind c.args.p.now.token.span None c.requires.at (at_lexeme (λ e. false≢true (sym c.if-at.false ∙ c.at.ensures.1 e)) refl) c.requires.may
