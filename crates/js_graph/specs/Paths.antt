-- Paths.
use Rattle.std.specs.Prelude.{List, Contains}

-- A path of steps leads from one to the other, where `next` are those that one step leads to: the path of no step, or a path and one more step.
pub data Reaches {A : Type 0} (next : A → List A) (start : A) : A → Type 0 where
  itself : Reaches next start start
  onward : {x y : A} → Reaches next start x → Contains (next x) y → Reaches next start y
