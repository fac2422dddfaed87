use Rattle.std.proofs.Common.{sym, subst, ◌==◌}
use Rattle.js_base.specs.part_text.Escapes.{in_name}
use Rattle.part_words.specs.Places.{Finds}
use Rattle.part_words.proofs.NameEscapes.{begun-unicode, begun-more, escape-unbegun, escape-ends, escape-cut, escape-fails}
use Rattle.part_words.proofs.name.escape_at.Goals as goal

pub returns-then-not-is_at : goal.returns-then-not-is_at
returns-then-not-is_at c = escape-unbegun c.requires (subst (Finds (λ d. d == 117) c.args.text.now (_)) c.if-not-is_at.true c.is_at.ensures)

pub escape-init : goal.escape-init
escape-init c = begun-unicode c.requires (subst (Finds (λ d. d == 117) c.args.text.now (_)) c.if-not-is_at.false c.is_at.ensures)

pub escape-preserved : goal.escape-preserved
escape-preserved c = begun-more c.in-Goes.next c.escape.invariant c.in-Some.ensures (sym (c.in-Goes.ensures.step in_name)) c.in-Goes.ensures.fits

pub returns-in-Names : goal.returns-in-Names
returns-in-Names c = escape-ends c.escape.invariant c.in-Some.ensures (sym (c.in-Names.ensures.step in_name))

pub returns-in-Fails : goal.returns-in-Fails
returns-in-Fails c = escape-fails c.escape.invariant c.in-Some.ensures (sym (c.in-Fails.ensures.step in_name))

pub returns-in-None : goal.returns-in-None
returns-in-None c = escape-cut c.escape.invariant c.in-None.ensures
