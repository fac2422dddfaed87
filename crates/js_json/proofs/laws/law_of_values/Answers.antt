use Rattle.js_json.proofs.OneTree.{worded}
use Rattle.js_json.proofs.SeenWords.{seen_words}
use Rattle.js_json.proofs.ValidWords.{valid_words}
use Rattle.js_json.proofs.laws.law_of_values.Goals as goal

pub returns : goal.returns
returns c = record {
  valid = λ t u a b h k e. worded t u a b (valid_words t h) (valid_words u k) e;
  seen = λ ns ms t u a b h k e. worded t u a b (seen_words ns t h) (seen_words ms u k) e;
  worded = worded;
}
