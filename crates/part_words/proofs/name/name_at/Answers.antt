use Rattle.part_words.proofs.NameScans.{name-scanned, name-stopped, backslash-opens}
use Rattle.part_words.proofs.name.name_at.Goals as goal

pub returns-in-Some : goal.returns-in-Some
returns-in-Some c = name-scanned c.requires.first c.in-Some.ensures

pub invalid_escape-requires : goal.invalid_escape-requires
invalid_escape-requires c = backslash-opens c.args.text.now c.args.at c.utf8.text c.requires.boundary c.requires.first c.in-None.ensures

pub returns-in-None : goal.returns-in-None
returns-in-None c = let e = c.invalid_escape.ensures in name-stopped c.requires.boundary c.requires.first c.in-None.ensures e.kind e.start e.end
