use Rattle.js_lex.proofs.Hashbangs.{not_at_start, no_hashbang, is_hashbang}
use Rattle.js_lex.proofs.hashbang.hashbang_at.Goals as goal

pub returns-then-at-ne0 : goal.returns-then-at-ne0
returns-then-at-ne0 c = not_at_start c.args.text.now c.if-at-ne0.true

pub returns-in-None : goal.returns-in-None
returns-in-None c = no_hashbang c.args.text.now c.if-at-ne0.false c.in-None.ensures

pub returns-in-Some : goal.returns-in-Some
returns-in-Some c = is_hashbang c.if-at-ne0.false c.in-Some.ensures c.line_end.ensures
