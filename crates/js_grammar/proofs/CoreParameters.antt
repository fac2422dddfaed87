-- Over core lexemes, of the parameters In alone makes a difference, and the option for V8's own functions.
use Rattle.std.proofs.Common.{ℕ, ◌≡◌, Bool, true, false, not, ◌&&◌, ◌||◌, IsTrue, List, [], ◌∷◌, refl, sym, ap, subst, ◌∙◌, rules}
use Rattle.std.proofs.lemmas.Bool.{false≢true, not-true, and_parts, and_from}
use Rattle.std.proofs.Math.Bool.{beq}
use Rattle.std.specs.Cmp.{booleans_Decides}
use Rattle.js_base.specs.declared.kind.Kind.{Kind}
use Rattle.js_base.specs.Kinds.{one_of_kinds, every_kind}
use Rattle.js_grammar.specs.Trees.{Slots, Tree, tree}
use Rattle.js_grammar.specs.Grammar.{Lexeme, Lexemes, here, Look, seen, nothing, never, lexeme, look, text, ahead, empty_slot, seq, alt, when, many, commas, such, marked, node, ended, keep, kept, label_of, semicolon, commas_once, Takes, Derives, is_nothing, is_lexeme, is_look, is_text, is_ahead, is_empty_slot, is_seq, is_left, is_right, is_when, is_many, is_commas, is_such, is_marked, is_node, is_ended, is_keep, is_kept}
use Rattle.js_grammar.specs.Productions.{Flags, Name, Symbol, at, G, Element, Property, IdentifierReference, BindingIdentifier, LabelIdentifier}
use Rattle.js_grammar.specs.Table.{rule_of}
use Rattle.js_grammar.specs.CoreGrammar.{core_kinds, core_of, core_rule}
use Rattle.js_grammar.specs.CoreReadings.{core_lexeme, AllCore}
use Rattle.js_grammar.proofs.Related.{Like as Alike}
use Rattle.js_grammar.proofs.Renamed.{renamed, paired, alike}
use Rattle.js_grammar.proofs.CoreDerivations.{stays, every_at}

-- properties of objects and elements of classes are no parts of core texts
abbrev pub is_member : Name → Bool
is_member Property = true
is_member Element = true
is_member _ = false

-- tests that agree on core lexemes
abbrev agree_at : Look → Look → Kind → Bool
agree_at p q k = beq (p k true false) (q k true false) && beq (p k false false) (q k false false)

abbrev like : Look → Look → Bool
like p q = every_kind (agree_at p q) core_kinds

-- the parameters of g, but those that make a difference of f
abbrev sharing : Flags → Flags → Flags
sharing f g = record g { in_ = f.in_; v8 = f.v8; wide = f.wide }

abbrev Shares : Symbol → Symbol → Type 0
Shares n m = (n.name ≡ m.name) × (is_member n.name ≡ false) × (m.flags ≡ sharing n.flags m.flags)

abbrev Like : G → G → Type 0
Like nothing nothing = Unit {0}
Like never never = Unit {0}
Like (lexeme p) (lexeme q) = like p q ≡ true
Like (look p) (look q) = p ≡ q
Like (text p) (text q) = p ≡ q
Like (ahead a) (ahead b) = Like a b
Like empty_slot empty_slot = Unit {0}
Like (seq a b) (seq c d) = Like a c × Like b d
Like (alt a b) (alt c d) = Like a c × Like b d
Like (when c a) (when d b) = (c ≡ d) × Like a b
Like (many a) (many b) = Like a b
Like (commas x a) (commas y b) = (x ≡ y) × Like a b
Like (such n c) (such m d) = Shares n m × (c ≡ d)
Like (marked h n) (marked k m) = Shares n m × (h ≡ k)
Like (node m a) (node n b) = (m ≡ n) × Like a b
Like (ended r a) (ended s b) = (r ≡ s) × Like a b
Like (keep a b) (keep c d) = Like a c × Like b d
Like kept kept = Unit {0}
Like _ _ = ⊥

like_itself : (p : Look) → like p p ≡ true
like_itself p = every core_kinds
  where
    agree_itself : (a : Bool) → beq a a ≡ true
    agree_itself true = refl
    agree_itself false = refl

    every : (ks : List Kind) → every_kind (agree_at p p) ks ≡ true
    every [] = refl
    every (k ∷ ks) = and_from _ _ (and_from _ _ (agree_itself (p k true false)) (agree_itself (p k false false))) (every ks)

-- the same, but for symbols that share their parameters
alike_like : (g h : G) → Alike Shares g h → Like g h
alike_like nothing nothing e = tt
alike_like never never e = tt
alike_like (lexeme p) (lexeme q) e = subst (λ (z : Look). like p z ≡ true) e (like_itself p)
alike_like (look p) (look q) e = e
alike_like (text p) (text q) e = e
alike_like (ahead a) (ahead b) e = alike_like a b e
alike_like empty_slot empty_slot e = tt
alike_like (seq a b) (seq c d) e = (alike_like a c e.0, alike_like b d e.1)
alike_like (alt a b) (alt c d) e = (alike_like a c e.0, alike_like b d e.1)
alike_like (when c a) (when d b) e = (e.0, alike_like a b e.1)
alike_like (many a) (many b) e = alike_like a b e
alike_like (commas x a) (commas y b) e = (e.0, alike_like a b e.1)
alike_like (such n c) (such m d) e = e
alike_like (marked h n) (marked k m) e = e
alike_like (node m a) (node n b) e = (e.0, alike_like a b e.1)
alike_like (ended r a) (ended s b) e = (e.0, alike_like a b e.1)
alike_like (keep a b) (keep c d) e = (alike_like a c e.0, alike_like b d e.1)
alike_like kept kept e = tt
alike_like g h e = absurd e

-- what a symbol shares with others
abbrev core_class : Symbol → Symbol
core_class s = at s.name (sharing s.flags (record { in_ = false; yield_ = false; await_ = false; awaits = false; return_ = false; new_target = false; module_goal = false; v8 = false; cover = false; wide = false }))

abbrev no_member : Symbol → Symbol → Bool
no_member n m = not (is_member n.name)

shares : (n m : Symbol) → core_class n ≡ core_class m → no_member n m ≡ true → Shares n m
shares n m e h = (ap (λ (s : Symbol). s.name) e, not-true (is_member n.name) h, λ i. record (m.flags) { in_ = sym (ap (λ (s : Symbol). s.flags.in_) e) i; v8 = sym (ap (λ (s : Symbol). s.flags.v8) e) i; wide = sym (ap (λ (s : Symbol). s.flags.wide) e) i })

-- the lines that test a lexeme by a parameter
abbrev pub is_identifier : Name → Bool
is_identifier IdentifierReference = true
is_identifier BindingIdentifier = true
is_identifier LabelIdentifier = true
is_identifier _ = false

-- computed for each nonterminal
same_class : (n : Name) → is_member n ≡ false → (f g : Flags) → is_identifier n ≡ false → renamed core_class (core_of n f) ≡ renamed core_class (core_of n (sharing f g))
unfolding rule_of core_of
same_class Property e f g h = absurd (false≢true (sym e))
same_class Element e f g h = absurd (false≢true (sym e))
same_class IdentifierReference e f g h = absurd (false≢true (sym h))
same_class BindingIdentifier e f g h = absurd (false≢true (sym h))
same_class LabelIdentifier e f g h = absurd (false≢true (sym h))
same_class n e f g h = refl

no_members : (n : Name) (f g : Flags) → (is_member n || paired no_member (core_of n f) (core_of n (sharing f g))) ≡ true
unfolding rule_of core_of
no_members Property f g = refl
no_members n f g = refl

identifier_at : (n : Name) (f g : Flags) → is_identifier n ≡ true → Like (core_of n f) (core_of n (sharing f g))
unfolding rule_of core_of
identifier_at IdentifierReference f g h = search rules
identifier_at BindingIdentifier f g h = search rules
identifier_at LabelIdentifier f g h = search rules
identifier_at n f g h = absurd (false≢true h)

like_at : (n : Name) → is_member n ≡ false → (f g : Flags) → Like (core_of n f) (core_of n (sharing f g))
like_at n e f g = go (is_identifier n) refl
  where
    go : (b : Bool) → is_identifier n ≡ b → Like (core_of n f) (core_of n (sharing f g))
    go true h = identifier_at n f g h
    go false h = alike_like (core_of n f) (core_of n (sharing f g)) (alike core_class no_member Shares shares (core_of n f) (core_of n (sharing f g)) (same_class n e f g h) (subst (λ (b : Bool). (b || paired no_member (core_of n f) (core_of n (sharing f g))) ≡ true) e (no_members n f g)))

like_rule : (n m : Symbol) → Shares n m → Like (core_rule n) (core_rule m)
unfolding core_rule
like_rule n m s = subst (λ (a : Name). Like (core_of n.name n.flags) (core_of a m.flags)) s.0 (subst (λ (f : Flags). Like (core_of n.name n.flags) (core_of n.name f)) (sym s.2) (like_at n.name s.1 n.flags m.flags))

same : (a b : Bool) → beq a b ≡ true → a ≡ true → b ≡ true
same a b h e = sym ((booleans_Decides a b).0 h) ∙ e

passes_too : (p q : Look) (k : Kind) (w e : Bool) → agree_at p q k ≡ true → not e ≡ true → p k w e ≡ true → q k w e ≡ true
passes_too p q k true false h n c = same (p k true false) (q k true false) (and_parts _ _ h).0 c
passes_too p q k false false h n c = same (p k false false) (q k false false) (and_parts _ _ h).1 c
passes_too p q k w true h n c = absurd (false≢true n)

seen_too : (p q : Look) (x : Lexeme) → like p q ≡ true → core_lexeme x ≡ true → seen p x ≡ true → seen q x ≡ true
seen_too p q x h c s = let k = and_parts (one_of_kinds core_kinds x.kind) (not x.escaped) c in passes_too p q x.kind x.newline x.escaped (every_at (agree_at p q) core_kinds x.kind k.0 h) k.1 s

like_commas : (a b : G) (x y : Bool) → x ≡ y → Like a b → Like (commas_once x a) (commas_once y b)
like_commas a b true true q e = (e, ((refl, ((q, e), tt)), tt))
like_commas a b false false q e = (e, ((refl, (q, e)), tt))
like_commas a b true false q e = absurd (cc)
like_commas a b false true q e = absurd (cc)

too : (g h : G) → Like g h → {ks ts us : Slots} {i j : ℕ} {ls rest : Lexemes} → Takes core_rule g ks ts i ls us j rest → AllCore ls → Takes core_rule h ks ts i ls us j rest
too nothing nothing e is_nothing l = is_nothing
too (lexeme p) (lexeme q) e (is_lexeme {x = x} c) l = is_lexeme (seen_too p q x e l.0 c)
too (look p) (look q) e (is_look {ls = ls} c) l = is_look (subst (λ z. IsTrue (seen z (here ls))) e c)
too (text p) (text q) e (is_text {ls = ls} c) l = is_text (subst (λ z. IsTrue (z (here ls).units)) e c)
too (ahead a) (ahead b) e (is_ahead d) l = is_ahead (too a b e d l)
too empty_slot empty_slot e is_empty_slot l = is_empty_slot
too (seq a b) (seq c d) e (is_seq x y) l = is_seq (too a c e.0 x l) (too b d e.1 y (stays x l))
too (alt a b) (alt c d) e (is_left x) l = is_left (too a c e.0 x l)
too (alt a b) (alt c d) e (is_right x) l = is_right (too b d e.1 x l)
too (when c a) (when d b) e (is_when h x) l = is_when (sym e.0 ∙ h) (too a b e.1 x l)
too (many a) (many b) e (is_many x) l = is_many (too _ _ ((e, e), tt) x l)
too (commas x a) (commas y b) e (is_commas d) l = is_commas (too (commas_once x a) (commas_once y b) (like_commas a b x y e.0 e.1) d l)
too (such n c) (such m f) e {ks = ks} (is_such {l = l} {cs = cs} d h) c' = is_such (too (core_rule n) (core_rule m) (like_rule n m e.0) d c') (subst (λ z. IsTrue (z (record { label = l; slots = cs }))) e.1 h)
too (marked h n) (marked k m) e {ks = ks} (is_marked {l = l} {cs = cs} {us = us} {i = i} {j = j} {ls = ls} {rest = rest} d) c =
    subst (λ z. Takes core_rule (marked z m) ks (tree (h l) cs us) i ls us j rest) e.1 (is_marked (too (core_rule n) (core_rule m) (like_rule n m e.0) d c))
too (node m a) (node n b) e {ks = ks} (is_node {cs = cs} {us = us} {i = i} {j = j} {ls = ls} {rest = rest} d) l =
    subst (λ z. Takes core_rule (node z b) ks (tree (label_of m ls j rest) cs us) i ls us j rest) e.0 (is_node (too a b e.1 d l))
too (ended r a) (ended s b) e (is_ended {ks = ks} {cs = cs} {us = us} {vs = vs} {j = j} {k = k} {ls = ls} {mid = mid} {rest = rest} q d x) l =
    is_ended q (too a b e.1 d l) (subst (λ z. Takes core_rule (semicolon (z (here ls) cs)) ks us j mid vs k rest) e.0 x)
too (keep a b) (keep c d) e (is_keep x y) l = is_keep (too a c e.0 x l) (too b d e.1 y (stays x l))
too kept kept e (is_kept q) l = is_kept q
too never h e d l = elim d [ ]
too g h e d l = absurd e

-- what core lexemes derive under some parameters they derive under others
pub same_parameters : (n m : Symbol) → Shares n m → (t : Tree) {i j : ℕ} {ls rest : Lexemes} → AllCore ls → Derives core_rule n t i ls j rest → Derives core_rule m t i ls j rest
same_parameters n m s t c d = too (core_rule n) (core_rule m) (like_rule n m s) d c
