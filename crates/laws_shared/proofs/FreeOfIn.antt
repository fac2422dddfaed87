-- Members, calls, targets and all that stands in them are read alike whether `in` is an operator around them or not (ECMA-262, 13.3).
use Rattle.std.proofs.Common.{ℕ, ◌≡◌, Bool, true, false, ◌||◌, ◌∙◌, refl, ap, sym, subst}
use Rattle.std.proofs.lemmas.Bool.{false≢true}
use Rattle.js_grammar.specs.Trees.{Slots}
use Rattle.js_grammar.specs.Grammar.{Lexemes, Takes, such}
use Rattle.js_grammar.specs.Parsing.{always}
use Rattle.js_grammar.specs.Productions.{Flags, Name, Symbol, at, plus_in, LeftHandSide, New, Member, Call, Chain, Links, Super, Argument, Primary, Template, Object, Property, FuncExpr, ClassExpr, ClassBody, Element, Decorator, DecoratorMember, IdentifierReference, BindingIdentifier, IdentifierName, PrivateName, SimpleTarget, Target, ArrayTarget, ObjectTarget, TargetElement, TargetProperty, G}
use Rattle.js_grammar.specs.Table.{rule, rule_of}
use Rattle.js_grammar.proofs.Renamed.{renamed, alike_by}
use Rattle.js_grammar.proofs.Related.{Like, like_itself, related}

abbrev same_bool : Bool → Bool → Bool
same_bool true b = b
same_bool false true = false
same_bool false false = true

same_true : (a b : Bool) → same_bool a b ≡ true → a ≡ b
same_true true true h = refl
same_true true false h = absurd (false≢true h)
same_true false true h = absurd (false≢true h)
same_true false false h = refl

same_self : (a : Bool) → same_bool a a ≡ true
same_self true = refl
same_self false = refl

or_self : (x a : Bool) → (x || same_bool a a) ≡ true
or_self true a = refl
or_self false a = same_self a

same_class : (x a b : Bool) → (x || a) ≡ (x || b) → (x || same_bool a b) ≡ true
same_class true a b e = refl
same_class false a b e = subst (λ (c : Bool). same_bool a c ≡ true) e (same_self a)

-- nonterminals of which nothing depends on In
module _ (free : Name → Bool) where
  -- one symbol, but that In may differ where nothing depends on it
  abbrev pub ButIn : Symbol → Symbol → Type 0
  ButIn s t = (s.name ≡ t.name) × (plus_in s.flags ≡ plus_in t.flags) × ((free s.name || same_bool s.flags.in_ t.flags.in_) ≡ true)

  -- a symbol for each class of them
  abbrev pub class_of : Symbol → Symbol
  class_of s = at s.name (record (s.flags) { in_ = free s.name || s.flags.in_ })

  itself : (s : Symbol) → ButIn s s
  itself s = (refl, refl, or_self (free s.name) s.flags.in_)

  pub but_in : (s t : Symbol) → class_of s ≡ class_of t → ButIn s t
  but_in s t e =
      let n = ap (λ (u : Symbol). u.name) e in
      (n, ap (λ (u : Symbol). plus_in u.flags) e, same_class (free s.name) s.flags.in_ t.flags.in_ (ap (λ (u : Symbol). u.flags.in_) e ∙ ap (λ (m : Name). free m || t.flags.in_) (sym n)))

  other_in : (s t : Symbol) → ButIn s t → t ≡ at s.name (record (s.flags) { in_ = t.flags.in_ })
  other_in s t e = λ i. at (sym e.0 i) (record (sym e.1 i) { in_ = t.flags.in_ })

  module _ (free_at : (n : Name) (f : Flags) (a b : Bool) → free n ≡ true → renamed class_of (rule_of n (record f { in_ = a })) ≡ renamed class_of (rule_of n (record f { in_ = b }))) where
    free_rule : (s t : Symbol) → ButIn s t → Like ButIn (rule s) (rule t)
    unfolding rule
    free_rule s t e = go (free s.name) refl e.2
      where
        go : (b : Bool) → free s.name ≡ b → (b || same_bool s.flags.in_ t.flags.in_) ≡ true → Like ButIn (rule s) (rule t)
        go true h q = subst (λ (u : Symbol). Like ButIn (rule s) (rule u)) (sym (other_in s t e)) (alike_by class_of ButIn but_in (rule s) (rule (at s.name (record (s.flags) { in_ = t.flags.in_ }))) (free_at s.name s.flags s.flags.in_ t.flags.in_ h))
        go false h q = subst (λ (u : Symbol). Like ButIn (rule s) (rule u)) (sym (other_in s t e)) (subst (λ (b : Bool). Like ButIn (rule s) (rule (at s.name (record (s.flags) { in_ = b })))) (same_true s.flags.in_ t.flags.in_ q) (like_itself ButIn itself (rule s)))

    -- what is made of these is read alike
    pub read_alike : (g h : G) → Like ButIn g h → {ks ts us : Slots} {i j : ℕ} {ls rest : Lexemes} → Takes rule g ks ts i ls us j rest → Takes rule h ks ts i ls us j rest
    read_alike g h l d = related ButIn free_rule g h l d

-- ---- members, calls and targets

abbrev free : Name → Bool
free LeftHandSide = true
free New = true
free Member = true
free Call = true
free Chain = true
free Links = true
free Super = true
free Argument = true
free Primary = true
free Template = true
free Object = true
free Property = true
free FuncExpr = true
free ClassExpr = true
free ClassBody = true
free Element = true
free Decorator = true
free DecoratorMember = true
free IdentifierReference = true
free BindingIdentifier = true
free IdentifierName = true
free PrivateName = true
free SimpleTarget = true
free Target = true
free ArrayTarget = true
free ObjectTarget = true
free TargetElement = true
free TargetProperty = true
free _ = false

free_at : (n : Name) (f : Flags) (a b : Bool) → free n ≡ true → renamed (class_of free) (rule_of n (record f { in_ = a })) ≡ renamed (class_of free) (rule_of n (record f { in_ = b }))
unfolding rule_of
free_at LeftHandSide f a b h = refl
free_at New f a b h = refl
free_at Member f a b h = refl
free_at Call f a b h = refl
free_at Chain f a b h = refl
free_at Links f a b h = refl
free_at Super f a b h = refl
free_at Argument f a b h = refl
free_at Primary f a b h = refl
free_at Template f a b h = refl
free_at Object f a b h = refl
free_at Property f a b h = refl
free_at FuncExpr f a b h = refl
free_at ClassExpr f a b h = refl
free_at ClassBody f a b h = refl
free_at Element f a b h = refl
free_at Decorator f a b h = refl
free_at DecoratorMember f a b h = refl
free_at IdentifierReference f a b h = refl
free_at BindingIdentifier f a b h = refl
free_at IdentifierName f a b h = refl
free_at PrivateName f a b h = refl
free_at SimpleTarget f a b h = refl
free_at Target f a b h = refl
free_at ArrayTarget f a b h = refl
free_at ObjectTarget f a b h = refl
free_at TargetElement f a b h = refl
free_at TargetProperty f a b h = refl
free_at _ f a b h = absurd (false≢true h)

-- so a left-hand side, and a simple target
pub any_in : (n : Name) (f g : Flags) → free n ≡ true → plus_in f ≡ plus_in g → {ks ts us : Slots} {i j : ℕ} {ls rest : Lexemes} → Takes rule (such (at n f) always) ks ts i ls us j rest → Takes rule (such (at n g) always) ks ts i ls us j rest
any_in n f g h e d = read_alike free free_at (such (at n f) always) (such (at n g) always) ((refl, e, ap (λ b. b || same_bool f.in_ g.in_) h), refl) d
