-- What the parse functions of formal parameters speak of (ECMA-262, 15.1).
use Rattle.js_base.specs.declared.kind.Kind.TheVariants.{RParen}
use Rattle.js_grammar.specs.Grammar.{seq, never}
use Rattle.js_grammar.specs.Productions.{G, Flags, sym, tok, items, Param, Rest}
use Rattle.js_grammar.specs.Table.{rest_of}

-- from a parameter or a rest on up to the closing parenthesis
abbrev pub parameters_left : Flags → G
parameters_left f = seq (items never (sym Param f) (rest_of f (sym Rest f))) (tok RParen)
