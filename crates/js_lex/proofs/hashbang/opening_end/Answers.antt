use Rattle.std.proofs.lemmas.Str.{IsCharBoundary-start}
use Rattle.js_lex.proofs.hashbang.opening_end.Goals as goal

pub next_character-requires : goal.next_character-requires
next_character-requires c = IsCharBoundary-start c.args.text.now c.utf8.text
