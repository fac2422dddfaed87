use Rattle.js_lex.specs.Comments.{sort_of}
use Rattle.js_lex.proofs.Marked.{Looked}
use Rattle.js_lex.proofs.mark.is_marked.Given as goal

abbrev pub invariant-comments : goal.invariant-comments
invariant-comments l = Looked (sort_of l.sort) l.text l.place l.comments l.left

abbrev pub decreases-comments : goal.decreases-comments
decreases-comments l = l.left
