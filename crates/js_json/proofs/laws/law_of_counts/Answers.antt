use Rattle.js_json.proofs.Counts.{tree_objects, tree_lines}
use Rattle.js_json.proofs.laws.law_of_counts.Goals as goal

pub returns : goal.returns
returns c = record { objects = tree_objects; lines = tree_lines }
