use Rattle.js_base.specs.declared.kind.Kind.TheVariants.{LBrack, LCurly}
use Rattle.laws_patterns.proofs.laws_primary.Members.{stands_so}
use Rattle.parse_patterns.proofs.binding.parse_binding_pattern.Goals as goal

pub parse_array_pattern-requires-clause-open : goal.parse_array_pattern-requires-clause-open
parse_array_pattern-requires-clause-open g c = stands_so c.args.p.now LBrack c.if-stands.true c.stands.ensures

pub parse_object_pattern-requires-clause-open : goal.parse_object_pattern-requires-clause-open
parse_object_pattern-requires-clause-open g c = stands_so c.args.p.now LCurly c.if-stands-2.true c.stands-2.ensures

pub parse_binding_identifier-requires-clause-no_array : goal.parse_binding_identifier-requires-clause-no_array
parse_binding_identifier-requires-clause-no_array g c = stands_so c.args.p.now LBrack c.if-stands.false c.stands.ensures

pub parse_binding_identifier-requires-clause-no_object : goal.parse_binding_identifier-requires-clause-no_object
parse_binding_identifier-requires-clause-no_object g c = stands_so c.args.p.now LCurly c.if-stands-2.false c.stands-2.ensures
