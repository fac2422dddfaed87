use Rattle.std.proofs.Common.{subst, sym, arith}
use Rattle.std.specs.Prelude.{slice_index}
use Rattle.part_words.specs.Places.{Peeks}
use Rattle.part_words.proofs.Places.{peeks, at_end}
use Rattle.part_words.proofs.place.byte_at.Goals as goal

pub returns-then-at-bytes : goal.returns-then-at-bytes
returns-then-at-bytes c =
    let below = c.if-at-bytes.true in
    let l = c.as_bytes-bytes.ensures.len in
    subst (λ v. Peeks c.args.text.now c.args.at (slice_index v c.args.at)) (sym c.as_bytes-bytes.ensures.value) (peeks _ _ c.utf8.text c.requires (omega arith))

pub returns-else-at-bytes : goal.returns-else-at-bytes
returns-else-at-bytes c = let below = c.if-at-bytes.false in let l = c.as_bytes-bytes.ensures.len in at_end c.args.text.now c.args.at (omega arith)
