use Rattle.std.specs.Prelude.{bytes_eq}
use Rattle.std.proofs.lemmas.List.Filters.{dedup_is}
use Rattle.js_graph.proofs.NameLemmas.{sorted_names}
use Rattle.js_graph.proofs.names.sort_names.Goals as goal

pub returns : goal.returns
returns c =
    sorted_names c.args.names.now.items c.sort_unstable.new.self.items c.dedup.new.self.items c.sort_unstable.ensures.permutation c.sort_unstable.ensures.sorted
    (dedup_is bytes_eq c.sort_unstable.new.self.items c.dedup.new.self.items c.dedup.ensures.filtered)
