use Rattle.std.proofs.Common.{sym}
use Rattle.part_scan.proofs.NumberScans.{scanned, unstopped, stopped}
use Rattle.part_scan.proofs.number.number_at.Goals as goal

pub returns-then-stops_at : goal.returns-then-stops_at
returns-then-stops_at c = scanned c.in-Ok.ensures.reads.is (sym c.if-stops_at.ensures)

pub returns-else-stops_at : goal.returns-else-stops_at
returns-else-stops_at c =
    let e = c.invalid_number.ensures in
    stopped c.requires.begun (unstopped c.in-Ok.ensures.reads.is (sym c.if-stops_at.ensures)) e.kind e.start c.requires.boundary e.end

pub returns-in-Err : goal.returns-in-Err
returns-in-Err c =
    let e = c.invalid_number-in-Err.ensures in
    stopped c.requires.begun c.in-Err.ensures.reads.is.unstopped e.kind e.start c.requires.boundary e.end
