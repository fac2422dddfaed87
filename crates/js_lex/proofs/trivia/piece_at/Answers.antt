use Rattle.std.proofs.Common.{arith, None}
use Rattle.js_lex.proofs.TriviaLemmas.{blank_there, apart, visible}
use Rattle.js_lex.proofs.trivia.piece_at.Goals as goal

pub returns-in-Some-eq47 : goal.returns-in-Some-eq47
returns-in-Some-eq47 c = c.comment_at.ensures c.args.is_first

pub returns-in-Some-eq60 : goal.returns-in-Some-eq60
returns-in-Some-eq60 c = c.html_open_at.ensures c.args.is_first

pub returns-in-Some : goal.returns-in-Some
returns-in-Some c =
    let t = c.in-Some.byte-test in
    let low = c.if-byte-gt32.true in
    let high = c.if-byte-lt127.true in
    blank_there _ None c.args.is_first (c.in-Some.ensures.ascii (omega arith)) t.0.0.1 t.0.1 t.1 (visible c.in-Some.byte low high)

pub returns-in-Some-2 : goal.returns-in-Some-2
returns-in-Some-2 c =
    let t = c.in-Some.byte-test in
    let e = c.character_of.ensures in
    blank_there _ c.blank.result c.args.is_first e.next (apart 47 _ c.in-Some.byte (omega arith) t.0.0.1 e.same) (apart 60 _ c.in-Some.byte (omega arith) t.0.1 e.same) (apart 45 _ c.in-Some.byte (omega arith) t.1 e.same) c.blank.ensures
