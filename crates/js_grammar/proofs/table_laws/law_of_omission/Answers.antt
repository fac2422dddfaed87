use Rattle.js_grammar.proofs.FollowLaws.{omission_ends}
use Rattle.js_grammar.proofs.table_laws.law_of_omission.Goals as goal

pub returns : goal.returns
returns c = λ f t i j ls rest d h. omission_ends f t d h
