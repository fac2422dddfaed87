-- Where an export entry is placed, as the definitions have it.
use Rattle.js_grammar.specs.ModuleRecords as def
use Rattle.js_record.specs.declared.placing.Placed.{Placed}
use Rattle.js_record.specs.declared.placing.Placed.TheVariants as places

abbrev pub placed_of : Placed → def.Placed
placed_of (places.Local e) = def.to_local e
placed_of (places.Indirect e) = def.to_indirect e
placed_of (places.Star e) = def.to_star e
