use Rattle.std.proofs.Common.{refl}
use Rattle.js_core.proofs.by.ByNestedRuntimeParserConfig.class_body.Goals as goal

pub returns : goal.returns
returns g c = c.requires.answers _ _ _ refl c.call.ensures
