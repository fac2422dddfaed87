use Rattle.std.proofs.Common.{[], sym}
use Rattle.part_scan.proofs.Punctuators.{ascii_of}
use Rattle.part_scan.proofs.PunctuatorLexemes.{lone_scanned}
use Rattle.part_scan.proofs.punctuator.lone_at.Goals as goal

pub stands_alone-requires : goal.stands_alone-requires
stands_alone-requires c = c.requires.ascii (ascii_of [] c.args.byte [] c.in_ok-kind.kind (sym c.in_ok-kind.ensures))

pub returns-then-stands_alone-clause-lexeme : goal.returns-then-stands_alone-clause-lexeme
returns-then-stands_alone-clause-lexeme c = lone_scanned (c.requires.ascii (ascii_of [] c.args.byte [] c.in_ok-kind.kind (sym c.in_ok-kind.ensures))) (sym c.in_ok-kind.ensures) (c.stands_alone.ensures c.if-stands_alone.true)

pub returns-then-stands_alone-clause-written : goal.returns-then-stands_alone-clause-written
returns-then-stands_alone-clause-written c = sym c.in_ok-kind.ensures
