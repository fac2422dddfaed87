use Rattle.js_lex.proofs.ReadAgain.{settled_behind, err_behind}
use Rattle.js_lex.proofs.relexing.settle_again.Goals as goal

pub returns-clause-ok : goal.returns-clause-ok
returns-clause-ok c = settled_behind c.args.text.now c.args.keeps_tokens c.args.given c.args.scan c.args.flags c.args.kept.now c.keep_flags.new.kept c.put_again.new.kept c.put_again.result c.in_ok-keep_flags.ensures.ok c.put_again.ensures.ok

pub returns-clause-err : goal.returns-clause-err
returns-clause-err c = err_behind c.args.text.now c.args.flags c.args.kept.now c.keep_flags.new.kept c.put_again.new.kept c.put_again.result c.requires.flags c.in_ok-keep_flags.ensures.ok c.put_again.ensures.err
