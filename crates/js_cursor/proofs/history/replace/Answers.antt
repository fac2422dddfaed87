use Rattle.js_cursor.proofs.Recording.{counts-put}
use Rattle.js_cursor.proofs.history.replace.Goals as goal

pub returns : goal.returns
returns g c = record { updates = c.in-Ok.ensures.updates; counts = counts-put c.args.values.now c.insert.new.self _ _ c.in-Ok.ensures.was_ordered c.in-Ok.ensures.entries }
