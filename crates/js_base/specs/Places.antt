-- Where a statement stands.
use Rattle.std.specs.Prelude.{Bool, true, false}
use Rattle.js_base.specs.declared.statement_context.StatementContext.{StatementContext}
use Rattle.js_base.specs.declared.statement_context.StatementContext.TheVariants.{Program, StatementList, If, Label, Do, While, With, For}

-- one statement alone may stand there: false for the first two alone
abbrev pub is_single : StatementContext → Bool
is_single Program = false
is_single StatementList = false
is_single If = true
is_single Label = true
is_single Do = true
is_single While = true
is_single With = true
is_single For = true
