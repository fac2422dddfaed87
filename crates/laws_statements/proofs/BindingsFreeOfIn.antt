-- What is bound, as members and targets, is read alike whether `in` is an operator around it or not (ECMA-262, 14.3.3, 14.7.5).
use Rattle.std.proofs.Common.{ℕ, ◌≡◌, Bool, true, false, refl}
use Rattle.std.proofs.lemmas.Bool.{false≢true}
use Rattle.js_grammar.specs.Trees.{Slots}
use Rattle.js_grammar.specs.Grammar.{Lexemes, Takes}
use Rattle.js_grammar.specs.Productions.{Flags, Name, LeftHandSide, New, Member, Call, Chain, Links, Super, Argument, Primary, Template, Object, Property, FuncExpr, ClassExpr, ClassBody, Element, Decorator, DecoratorMember, IdentifierReference, BindingIdentifier, IdentifierName, PrivateName, SimpleTarget, Target, ArrayTarget, ObjectTarget, TargetElement, TargetProperty, Binding, BElement, Pattern, PatternProperty, BindingRest, ForInit, G}
use Rattle.js_grammar.specs.Table.{rule, rule_of}
use Rattle.js_grammar.proofs.Renamed.{renamed}
use Rattle.js_grammar.proofs.Related.{Like}
use Rattle.laws_shared.proofs.FreeOfIn.{ButIn, class_of, read_alike}

abbrev pub free : Name → Bool
free LeftHandSide = true
free New = true
free Member = true
free Call = true
free Chain = true
free Links = true
free Super = true
free Argument = true
free Primary = true
free Template = true
free Object = true
free Property = true
free FuncExpr = true
free ClassExpr = true
free ClassBody = true
free Element = true
free Decorator = true
free DecoratorMember = true
free IdentifierReference = true
free BindingIdentifier = true
free IdentifierName = true
free PrivateName = true
free SimpleTarget = true
free Target = true
free ArrayTarget = true
free ObjectTarget = true
free TargetElement = true
free TargetProperty = true
free Binding = true
free BElement = true
free Pattern = true
free PatternProperty = true
free BindingRest = true
free ForInit = true
free _ = false

free_at : (n : Name) (f : Flags) (a b : Bool) → free n ≡ true → renamed (class_of free) (rule_of n (record f { in_ = a })) ≡ renamed (class_of free) (rule_of n (record f { in_ = b }))
unfolding rule_of
free_at LeftHandSide f a b h = refl
free_at New f a b h = refl
free_at Member f a b h = refl
free_at Call f a b h = refl
free_at Chain f a b h = refl
free_at Links f a b h = refl
free_at Super f a b h = refl
free_at Argument f a b h = refl
free_at Primary f a b h = refl
free_at Template f a b h = refl
free_at Object f a b h = refl
free_at Property f a b h = refl
free_at FuncExpr f a b h = refl
free_at ClassExpr f a b h = refl
free_at ClassBody f a b h = refl
free_at Element f a b h = refl
free_at Decorator f a b h = refl
free_at DecoratorMember f a b h = refl
free_at IdentifierReference f a b h = refl
free_at BindingIdentifier f a b h = refl
free_at IdentifierName f a b h = refl
free_at PrivateName f a b h = refl
free_at SimpleTarget f a b h = refl
free_at Target f a b h = refl
free_at ArrayTarget f a b h = refl
free_at ObjectTarget f a b h = refl
free_at TargetElement f a b h = refl
free_at TargetProperty f a b h = refl
free_at Binding f a b h = refl
free_at BElement f a b h = refl
free_at Pattern f a b h = refl
free_at PatternProperty f a b h = refl
free_at BindingRest f a b h = refl
free_at ForInit f a b h = refl
free_at _ f a b h = absurd (false≢true h)

-- any part that is made of these
pub any_in_like : (g h : G) → Like (ButIn free) g h → {ks ts us : Slots} {i j : ℕ} {ls rest : Lexemes} → Takes rule g ks ts i ls us j rest → Takes rule h ks ts i ls us j rest
any_in_like g h l d = read_alike free free_at g h l d
