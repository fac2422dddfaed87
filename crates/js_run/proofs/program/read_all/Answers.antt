use Rattle.std.proofs.Common.{arith, ◌≡◌, ◌≤◌, length, vec_len}
use Rattle.js_run.proofs.Runs.{reads_within, cause_later}
use Rattle.js_run.proofs.program.read_all.Goals as goal

pub returns-in-Err-clause-reads : goal.returns-in-Err-clause-reads
returns-in-Err-clause-reads g c =
    let count : vec_len c.loop-source.bytes ≡ length c.loop-source.bytes.items = omega arith in
    reads_within _ _ _ c.loop-source.bytes.items 67108865 (vec_len c.loop-source.bytes) count c.loop-source.invariant.read c.loop-source.invariant.few c.read_piece.ensures.reads

pub returns-in-Err-clause-stopped : goal.returns-in-Err-clause-stopped
returns-in-Err-clause-stopped g c =
    let count : vec_len c.loop-source.bytes ≡ length c.loop-source.bytes.items = omega arith in
    let few : vec_len c.loop-source.bytes ≤ 67108864 = omega arith in
    cause_later _ _ _ _ c.loop-source.bytes.items (vec_len c.loop-source.bytes) _ _ _ count few c.loop-source.invariant.read c.loop-source.invariant.counts c.read_piece.ensures.counts c.in-Err.ensures.stopped
