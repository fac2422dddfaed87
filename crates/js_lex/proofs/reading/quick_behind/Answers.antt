use Rattle.std.proofs.Common.{Ok}
use Rattle.js_lex.proofs.Giving.{fits_shown, tells_scanned}
use Rattle.js_lex.proofs.reading.quick_behind.Goals as goal

pub token_of-requires-clause-ordered : goal.token_of-requires-clause-ordered
token_of-requires-clause-ordered c = (fits_shown _ _ _ (Ok c.in-Some.scanned) (Ok c.first_sign-shown.result) c.utf8.text c.requires.boundary c.requires.short c.in-Some.ensures.lexeme c.first_sign-shown.ensures).0

pub token_of-requires-clause-short : goal.token_of-requires-clause-short
token_of-requires-clause-short c = (fits_shown _ _ _ (Ok c.in-Some.scanned) (Ok c.first_sign-shown.result) c.utf8.text c.requires.boundary c.requires.short c.in-Some.ensures.lexeme c.first_sign-shown.ensures).1

pub returns-in-Some : goal.returns-in-Some
returns-in-Some c = tells_scanned c.in-Some.scanned c.first_sign-shown.result c.token_of.result c.in-Some.ensures.lexeme c.in-Some.ensures.no_trivia c.first_sign-shown.ensures c.token_of.ensures
