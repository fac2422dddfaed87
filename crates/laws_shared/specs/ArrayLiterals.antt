-- The lines of an array literal (ECMA-262, 13.2.4), as far as they are left to read.
use Rattle.js_base.specs.declared.kind.Kind.TheVariants.{Comma, LBrack, RBrack}
use Rattle.js_grammar.specs.Trees.{elision}
use Rattle.js_grammar.specs.Grammar.{never, ◌▸◌}
use Rattle.js_grammar.specs.Productions.{G, Flags, mk, tok, items, Argument}
use Rattle.js_grammar.specs.Productions.{sym as symbol}

-- from an element on up to the closing bracket; and with the opening one
abbrev pub elements : Flags → G
elements f = items (mk elision (tok Comma)) (symbol Argument f) never ▸ tok RBrack

abbrev pub array_of : Flags → G
array_of f = tok LBrack ▸ elements f
