-- Within each line of the table, what may stand behind a nonterminal passes its test: the follow sets leave nothing out that a derivation has.
use Rattle.std.proofs.Common.{◌≡◌, Bool, true, ◌&&◌, refl}
use Rattle.js_base.specs.declared.kind.Kind.TheVariants.{Comma}
use Rattle.js_grammar.specs.Grammar.{Look, is, nothing, seq, alt, when, many, commas, such, marked, node, keep}
use Rattle.js_grammar.specs.Parsing.{full}
use Rattle.js_grammar.specs.Productions.{Flags, Name, G, Program, If, ForIn, Or, And, BitOr, BitXor, BitAnd, Equality, Relational, Shift, Additive, Multiply, Coalesce, Member, Call, Links, DecoratorMember, SimpleTarget}
use Rattle.js_grammar.specs.Table.{rule_of}
use Rattle.js_grammar.specs.FirstSets.{first}
use Rattle.js_grammar.specs.Follow.{surest}
use Rattle.js_grammar.specs.Chains.{is_coalesce, is_member, is_call, is_links, is_decorator_member, feet}
use Rattle.js_grammar.proofs.Looks.{none, either, covers}
use Rattle.js_grammar.proofs.First.{starts}

-- where F stands behind the part
abbrev fits : G → Look → Bool
fits (seq a b) F = fits a (starts first b F) && fits b F
fits (alt a b) F = fits a F && fits b F
fits (when c a) F = fits a F
fits (many a) F = fits a (either (starts first a full) F)
fits (commas b a) F = fits a (either (is Comma) F)
fits (such n c) F = covers F (surest n.name)
fits (marked h n) F = covers F (surest n.name)
fits (node m a) F = fits a F
fits (keep a b) F = fits a (starts first b F) && fits b F
fits _ F = true

-- The line, without the links of a loop. Levels have a check of their own; a body before `else` is tested by its tree, an initialiser before `in` by its parameter In; a target is read as the expression that it covers.
abbrev line : Name → Flags → G
line If f = nothing
line ForIn f = nothing
line SimpleTarget f = nothing
line Or f = nothing
line And f = nothing
line BitOr f = nothing
line BitXor f = nothing
line BitAnd f = nothing
line Equality f = nothing
line Relational f = nothing
line Shift f = nothing
line Additive f = nothing
line Multiply f = nothing
line Coalesce f = feet is_coalesce (rule_of Coalesce f)
line Member f = feet is_member (rule_of Member f)
line Call f = feet is_call (rule_of Call f)
line Links f = feet is_links (rule_of Links f)
line DecoratorMember f = feet is_decorator_member (rule_of DecoratorMember f)
line n f = rule_of n f

fits_at : (n : Name) (f : Flags) → fits (line n f) none ≡ true
unfolding rule_of covers
fits_at Program f = refl
fits_at n f = refl
