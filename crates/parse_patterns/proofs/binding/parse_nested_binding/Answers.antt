use Rattle.std.proofs.Common.{arith}
use Rattle.js_base.specs.declared.kind.Kind.TheVariants.{LBrack, LCurly}
use Rattle.parse_shared.specs.laws_shared.declared.nested.Nonterminal.TheVariants.{Binding}
use Rattle.laws_patterns.proofs.laws_primary.Members.{stands_so}
use Rattle.parse_patterns.proofs.binding.parse_nested_binding.Goals as goal

pub binding-requires : goal.binding-requires
binding-requires g c = c.requires.nests _ Binding c.requires.at (omega arith)

pub binding-requires-then-stands-2 : goal.binding-requires-then-stands-2
binding-requires-then-stands-2 g c = c.requires.nests _ Binding c.requires.at (omega arith)

pub parse_binding_identifier-requires-clause-no_array : goal.parse_binding_identifier-requires-clause-no_array
parse_binding_identifier-requires-clause-no_array g c = stands_so c.args.p.now LBrack c.if-stands.false c.stands.ensures

pub parse_binding_identifier-requires-clause-no_object : goal.parse_binding_identifier-requires-clause-no_object
parse_binding_identifier-requires-clause-no_object g c = stands_so c.args.p.now LCurly c.if-stands-2.false c.stands-2.ensures
