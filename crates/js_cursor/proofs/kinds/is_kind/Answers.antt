use Rattle.std.proofs.Common.{refl}
use Rattle.js_cursor.proofs.KindTests.{told}
use Rattle.js_cursor.proofs.kinds.is_kind.Goals as goal

pub returns : goal.returns
returns c = told _ _ _ _ c.eq.ensures refl
