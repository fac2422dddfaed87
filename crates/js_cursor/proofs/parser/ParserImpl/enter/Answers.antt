use Rattle.std.proofs.Common.{arith}
use Rattle.js_cursor.proofs.Returning.{entered_seen}
use Rattle.js_cursor.proofs.parser.ParserImpl.enter.Goals as goal

pub returns-clause-ok : goal.returns-clause-ok
returns-clause-ok g c = entered_seen c.self.view_is c.requires _ _ _ (let s = c.saturating_add-depth.ensures in let l = c.if-depth-gt-MAX_DEPTH.false in omega (arith, s, l)) c.if-depth-gt-MAX_DEPTH.false
