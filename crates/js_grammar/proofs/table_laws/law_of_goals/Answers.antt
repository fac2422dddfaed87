use Rattle.js_grammar.proofs.FollowLaws.{counts_as_slash, middle_counts_as_brace, tail_counts_as_brace}
use Rattle.js_grammar.proofs.table_laws.law_of_goals.Goals as goal

pub returns : goal.returns
returns c = record { slash = counts_as_slash; middle = middle_counts_as_brace; tail = tail_counts_as_brace }
