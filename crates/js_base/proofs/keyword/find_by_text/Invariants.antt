use Rattle.std.proofs.Common.{◌≡◌, drop}
use Rattle.js_base.specs.Keywords.{first_with_text}
use Rattle.js_base.proofs.keyword.find_by_text.Given as goal

-- no kind before the place has the text
abbrev pub invariant-loop-kind : goal.invariant-loop-kind
invariant-loop-kind l = first_with_text l.kinds l.word ≡ first_with_text (drop l.kind-index l.kinds) l.word
