use Rattle.js_base.proofs.KeywordLemmas.{keyword_of-some, keyword_of-none}
use Rattle.js_base.proofs.keyword.keyword_kind.Goals as goal

pub returns-in-Some : goal.returns-in-Some
returns-in-Some c = rw (c.find_by_text.ensures, c.words_beginning_with.ensures) (keyword_of-some c.args.word.now c.in-Some.first.now c.in-Some.ensures.value)

pub returns-in-None : goal.returns-in-None
returns-in-None c = keyword_of-none c.args.word.now c.in-None.ensures.value
