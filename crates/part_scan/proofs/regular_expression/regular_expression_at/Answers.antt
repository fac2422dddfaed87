use Rattle.part_scan.proofs.RegularExpressionLexemes.{is_regular_expression, is_open}
use Rattle.part_scan.proofs.regular_expression.regular_expression_at.Goals as goal

pub returns-in-Ok : goal.returns-in-Ok
returns-in-Ok c = is_regular_expression c.requires.opening c.requires.no_comment c.in-Ok.ensures c.parts_end.ensures

pub returns-in-Err : goal.returns-in-Err
returns-in-Err c = is_open c.requires.boundary c.requires.opening c.requires.no_comment c.in-Err.ensures
