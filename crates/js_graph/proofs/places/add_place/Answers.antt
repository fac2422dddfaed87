use Rattle.std.proofs.Common.{Some, sym, ◌∙◌, ap, cond}
use Rattle.std.specs.Prelude.{bytes_eq, string_bytes}
use Rattle.std.proofs.lemmas.Map.Text.{hash_map_updates_text}
use Rattle.js_graph.specs.Places.{place_of}
use Rattle.js_graph.proofs.PlaceLemmas.{place_none, place_kept, place_added}
use Rattle.js_graph.proofs.places.add_place.Goals as goal

pub returns-in_ok-insert : goal.returns-in_ok-insert
returns-in_ok-insert c =
    let old = c.args.places.now.entries in
    place_added old c.args.entries.now c.args.i c.index.result.now c.requires.in_list c.index.ensures c.requires.so_far
    c.in-Some.name.now c.in-Some.ensures c.insert.new.self.entries (sym c.contains_key.ensures ∙ c.if-not-contains_key.true)
    (λ name. hash_map_updates_text (string_bytes c.in_ok-from_str.field-0) c.args.places.now c.insert.new.self (Some c.args.i) c.in_ok-insert.ensures.updates name
    ∙ ap (λ bs. cond (bytes_eq bs name) (Some c.args.i) (place_of old name)) c.in_ok-from_str.ensures.ok)

pub returns-else-not-contains_key : goal.returns-else-not-contains_key
returns-else-not-contains_key c =
    place_kept c.args.places.now.entries c.args.entries.now c.args.i c.index.result.now c.requires.in_list c.index.ensures c.requires.so_far
    c.in-Some.name.now c.in-Some.ensures (sym c.contains_key.ensures ∙ c.if-not-contains_key.false)

pub returns-in_default : goal.returns-in_default
returns-in_default c =
    place_none c.args.places.now.entries c.args.entries.now c.args.i c.index.result.now c.requires.in_list c.index.ensures c.requires.so_far c.in_default.ensures
