use Rattle.std.proofs.Common.{◌-◌, length}
use Rattle.js_lex.specs.Kept.{Extends}
use Rattle.js_lex.specs.States.{SameText}
use Rattle.js_cursor.specs.Markers.{Seen}
use Rattle.js_cursor.proofs.marker.scan.Given as goal

abbrev pub invariant-loop-token : goal.invariant-loop-token
invariant-loop-token g l = SameText l.initial.lexer l.lexer × Extends l.initial.lexer.kept l.lexer.kept × Seen l.initial.lexer.text l.initial.lexer.place l.lexer.place l.partners.middle l.partners.closing

abbrev pub decreases-loop-token : goal.decreases-loop-token
decreases-loop-token g l = length l.initial.lexer.text - l.lexer.place
