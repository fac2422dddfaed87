use Rattle.js_record.proofs.DefaultWords.{Along}
use Rattle.js_record.proofs.default_word.first_word.Given as goal

-- the characters up to the iterator's place are passed
abbrev pub invariant-loop-place : goal.invariant-loop-place
invariant-loop-place l = Along l.text l.place-iterator l.between
