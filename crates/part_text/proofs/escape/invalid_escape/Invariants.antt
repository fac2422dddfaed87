use Rattle.std.specs.Prelude.{IsTrue}
use Rattle.part_text.specs.CodePointEscapes.{fits}
use Rattle.part_text.specs.DecodingSteps.{state_of}
use Rattle.part_text.proofs.EscapeLemmas.{Along}
use Rattle.part_text.proofs.escape.invalid_escape.Given as goal

-- the characters up to the iterator's place are read
abbrev pub invariant-loop-place : goal.invariant-loop-place
invariant-loop-place l = Along l.inside l.place-iterator l.reading × IsTrue (fits (state_of l.reading.state))
