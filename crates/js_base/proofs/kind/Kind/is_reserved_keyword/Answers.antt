use Rattle.std.proofs.Common.{sym}
use Rattle.js_base.specs.Texts.{reserved_words}
use Rattle.js_base.proofs.KindSetLemmas.{one_of_kinds-one}
use Rattle.js_base.proofs.kind.Kind.is_reserved_keyword.Goals as goal

pub returns-in-Break : goal.returns-in-Break
returns-in-Break c = sym (one_of_kinds-one reserved_words c.args.self c.in-Break.is)
