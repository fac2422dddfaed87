use Rattle.std.proofs.Common.{rules}
use Rattle.part_memory.proofs.ListLemmas.{replaced-set}
use Rattle.part_memory.proofs.list.List.replace_last.Goals as goal

pub returns-then-count-gt0 : goal.returns-then-count-gt0
returns-then-count-gt0 g c =
    let set = replaced-set c.self.inside.items.items c.len-count.result c.args.item in search rules
