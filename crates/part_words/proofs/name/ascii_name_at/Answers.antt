use Rattle.part_words.proofs.NameScans.{name-scanned, ascii-opens}
use Rattle.part_words.proofs.name.ascii_name_at.Goals as goal

pub returns-in-Some : goal.returns-in-Some
returns-in-Some c = name-scanned (ascii-opens c.in-Some.ensures.name) c.ascii_name-name.ensures
