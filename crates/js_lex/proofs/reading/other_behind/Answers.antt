use Rattle.std.proofs.Common.{Ok, false}
use Rattle.js_lex.proofs.Giving.{fits_shown, tells_shown}
use Rattle.js_lex.proofs.reading.other_behind.Goals as goal

pub plain_at-requires-clause-no_trivia : goal.plain_at-requires-clause-no_trivia
plain_at-requires-clause-no_trivia c = (false, c.begins_no_trivia.ensures c.if-not-begins_no_trivia.false false)

pub token_of-requires-clause-ordered : goal.token_of-requires-clause-ordered
token_of-requires-clause-ordered c = (fits_shown _ _ _ c.plain_at.result (Ok c.in-Ok.shown) c.utf8.text c.requires.boundary c.requires.short c.plain_at.ensures c.in-Ok.ensures).0

pub token_of-requires-clause-short : goal.token_of-requires-clause-short
token_of-requires-clause-short c = (fits_shown _ _ _ c.plain_at.result (Ok c.in-Ok.shown) c.utf8.text c.requires.boundary c.requires.short c.plain_at.ensures c.in-Ok.ensures).1

pub returns-in-Ok : goal.returns-in-Ok
returns-in-Ok c = tells_shown c.plain_at.result c.in-Ok.shown c.token_of.result c.plain_at.ensures (c.begins_no_trivia.ensures c.if-not-begins_no_trivia.false) c.in-Ok.ensures c.token_of.ensures
