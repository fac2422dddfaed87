use Rattle.std.proofs.Common.{Ok}
use Rattle.js_lex.proofs.Giving.{trivia_ends, module_same, fits_shown, ok_next, ok_boundary, err_next}
use Rattle.std.specs.Prelude.{◌==◌}
use Rattle.part_words.specs.js_grammar.LexicalFaults.{behind}
use Rattle.js_lex.specs.States.{goal_of}
use Rattle.js_lex.proofs.reading.read_plain.Goals as goal

pub plain_at-requires-clause-no_trivia : goal.plain_at-requires-clause-no_trivia
plain_at-requires-clause-no_trivia c = trivia_ends (c.args.at == 0) c.in_ok-trivia.ensures.ok.pieces (behind c.args.text.now c.in_ok-trivia.trivia.end) c.in_ok-trivia.ensures.ok.trivia

pub settle-requires : goal.settle-requires
settle-requires c = fits_shown _ _ _ c.plain_at.result c.first_angle-scan.result c.utf8.text c.in_ok-trivia.ensures.ok.stands.boundary c.requires.short c.plain_at.ensures c.first_angle-scan.ensures

pub returns-clause-ok : goal.returns-clause-ok
returns-clause-ok c = ok_next c.args.text.now (goal_of c.args.source_type) c.args.keeps_tokens c.is_module.result c.args.at c.args.kept.now c.pass_trivia.new.kept c.settle.new.kept c.in_ok-trivia.trivia c.plain_at.result c.first_angle-scan.result c.settle.result c.utf8.text c.requires.boundary (module_same c.args.source_type c.is_module.result c.is_module.ensures) c.in_ok-trivia.ensures.ok c.plain_at.ensures c.first_angle-scan.ensures c.settle.ensures.ok

pub returns-clause-boundary : goal.returns-clause-boundary
returns-clause-boundary c = ok_boundary c.args.text.now c.args.keeps_tokens c.in_ok-trivia.trivia.has_newline c.in_ok-trivia.trivia.end c.pass_trivia.new.kept c.settle.new.kept c.plain_at.result c.first_angle-scan.result c.settle.result c.utf8.text c.in_ok-trivia.ensures.ok.stands.boundary c.plain_at.ensures c.first_angle-scan.ensures c.settle.ensures.ok

pub returns-clause-err : goal.returns-clause-err
returns-clause-err c = err_next c.settle.new.kept c.settle.result c.in_ok-trivia.ensures.ok c.settle.ensures.err

pub settle_lexeme-requires : goal.settle_lexeme-requires
settle_lexeme-requires c = fits_shown _ _ _ (Ok c.in-Some.scanned) (Ok c.first_sign-shown.result) c.utf8.text c.in_ok-trivia.ensures.ok.stands.boundary c.requires.short c.in-Some.ensures.lexeme c.first_sign-shown.ensures

pub returns-in-Some-clause-ok : goal.returns-in-Some-clause-ok
returns-in-Some-clause-ok c = ok_next c.args.text.now (goal_of c.args.source_type) c.args.keeps_tokens c.is_module.result c.args.at c.args.kept.now c.pass_trivia.new.kept c.settle_lexeme.new.kept c.in_ok-trivia.trivia (Ok c.in-Some.scanned) (Ok c.first_sign-shown.result) c.settle_lexeme.result c.utf8.text c.requires.boundary (module_same c.args.source_type c.is_module.result c.is_module.ensures) c.in_ok-trivia.ensures.ok c.in-Some.ensures.lexeme c.first_sign-shown.ensures c.settle_lexeme.ensures.ok

pub returns-in-Some-clause-boundary : goal.returns-in-Some-clause-boundary
returns-in-Some-clause-boundary c = ok_boundary c.args.text.now c.args.keeps_tokens c.in_ok-trivia.trivia.has_newline c.in_ok-trivia.trivia.end c.pass_trivia.new.kept c.settle_lexeme.new.kept (Ok c.in-Some.scanned) (Ok c.first_sign-shown.result) c.settle_lexeme.result c.utf8.text c.in_ok-trivia.ensures.ok.stands.boundary c.in-Some.ensures.lexeme c.first_sign-shown.ensures c.settle_lexeme.ensures.ok

pub returns-in-Some-clause-err : goal.returns-in-Some-clause-err
returns-in-Some-clause-err c = err_next c.settle_lexeme.new.kept c.settle_lexeme.result c.in_ok-trivia.ensures.ok c.settle_lexeme.ensures.err
