use Rattle.std.proofs.Common.{arith}
use Rattle.laws_operators.proofs.SlashesInText.{no_slash_more}
use Rattle.parse_arrows.proofs.arrow.has_slash.Goals as goal

pub places-init : goal.places-init
places-init c = λ k a b e. absurd (omega arith)

pub places-preserved : goal.places-preserved
places-preserved c = no_slash_more c.places.invariant c.as_bytes-bytes.ensures.value c.if-bytes-place-eq47.false
