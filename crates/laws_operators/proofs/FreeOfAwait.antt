-- What is derived where `await` is no name is derived where it is one too, over the same lexemes, if it is an operator in both or in neither: so the parameters of an asynchronous arrow function are derived under the parameters around (ECMA-262, 15.9).
use Rattle.std.proofs.Common.{ℕ, ◌≡◌, ◌||◌, ◌&&◌, Bool, true, false, not, IsTrue, refl, sym, ap, subst, ◌∙◌}
use Rattle.std.proofs.lemmas.Bool.{false≢true, and_parts, and_from}
use Rattle.js_base.specs.declared.kind.Kind.{Kind}
use Rattle.js_base.specs.declared.kind.Kind.TheVariants.{Yield, Await}
use Rattle.js_base.specs.Kinds.{same_kind}
use Rattle.js_grammar.specs.Trees.{Slots, tree}
use Rattle.js_grammar.specs.Grammar.{Lexemes, here, seen, nothing, never, lexeme, look, text, ahead, empty_slot, seq, alt, when, many, commas, such, marked, node, ended, keep, kept, label_of, semicolon, commas_once, Takes, is_nothing, is_lexeme, is_look, is_text, is_ahead, is_empty_slot, is_seq, is_left, is_right, is_when, is_many, is_commas, is_such, is_marked, is_node, is_ended, is_keep, is_kept}
use Rattle.js_grammar.specs.Insertion.{may_bind}
use Rattle.js_grammar.specs.Parsing.{always}
use Rattle.js_grammar.specs.Productions.{G, Flags, Name, Symbol, at, Program, Params, IdentifierReference, BindingIdentifier, LabelIdentifier}
use Rattle.js_grammar.specs.Table.{rule, rule_of}
use Rattle.js_grammar.proofs.Related.{Like, like_itself}
use Rattle.js_grammar.proofs.Renamed.{renamed, paired, alike}
use Rattle.js_grammar.proofs.CoreParameters.{is_identifier}
use Rattle.laws_shared.specs.Contexts.{arrow_head}

-- the same value, or off in place of on
abbrev OffOr : Bool → Bool → Type 0
OffOr false true = ⊥
OffOr a b = Unit {0}

-- one symbol, but that `await` may be a name where it was none
abbrev Freer : Symbol → Symbol → Type 0
Freer s t = (s.name ≡ t.name) × (t.flags ≡ record (s.flags) { await_ = t.flags.await_ }) × OffOr s.flags.await_ t.flags.await_

off_itself : (a : Bool) → OffOr a a
off_itself true = tt
off_itself false = tt

freer_itself : (s : Symbol) → Freer s s
freer_itself s = (refl, refl, off_itself s.flags.await_)

abbrev with_await : Bool → Flags → Flags
with_await b f = record f { await_ = b }

-- a symbol for those that differ in `await` alone
abbrev class_of : Symbol → Symbol
class_of s = at s.name (with_await false s.flags)

abbrev off_or : Symbol → Symbol → Bool
off_or s t = not t.flags.await_ || s.flags.await_

freer : (s t : Symbol) → class_of s ≡ class_of t → off_or s t ≡ true → Freer s t
freer s t e h = (ap (λ (u : Symbol). u.name) e, λ i. record ((sym e i).flags) { await_ = t.flags.await_ }, one_off s.flags.await_ t.flags.await_ h)
  where
    one_off : (a b : Bool) → (not b || a) ≡ true → OffOr a b
    one_off true true h = tt
    one_off true false h = tt
    one_off false true h = absurd (false≢true h)
    one_off false false h = tt

same_class : (n : Name) (f : Flags) → is_identifier n ≡ false → renamed class_of (rule_of n (with_await true f)) ≡ renamed class_of (rule_of n (with_await false f))
unfolding rule_of
same_class IdentifierReference f h = absurd (false≢true (sym h))
same_class BindingIdentifier f h = absurd (false≢true (sym h))
same_class LabelIdentifier f h = absurd (false≢true (sym h))
same_class n f h = refl

all_off : (n : Name) (f : Flags) → paired off_or (rule_of n (with_await true f)) (rule_of n (with_await false f)) ≡ true
unfolding rule_of
all_off Program f = refl
all_off n f = refl

freer_at : (n : Name) (f : Flags) → is_identifier n ≡ false → Like Freer (rule_of n (with_await true f)) (rule_of n (with_await false f))
freer_at n f h = alike class_of off_or Freer freer (rule_of n (with_await true f)) (rule_of n (with_await false f)) (same_class n f h) (all_off n f)

freer_rule : (s t : Symbol) → Freer s t → is_identifier s.name ≡ false → Like Freer (rule s) (rule t)
unfolding rule
freer_rule s t e h = go s.flags.await_ refl t.flags.await_ refl e.2
  where
    t_is : (b : Bool) → t.flags.await_ ≡ b → t ≡ at s.name (with_await b s.flags)
    t_is b i = λ j. at (sym e.0 j) ((e.1 ∙ ap (λ (v : Bool). with_await v s.flags) i) j)

    go : (a : Bool) → s.flags.await_ ≡ a → (b : Bool) → t.flags.await_ ≡ b → OffOr s.flags.await_ t.flags.await_ → Like Freer (rule s) (rule t)
    go true i false k o = subst (λ (u : Symbol). Like Freer (rule s) (rule u)) (sym (t_is false k)) (subst (λ (v : Bool). Like Freer (rule (at s.name (with_await v s.flags))) (rule (at s.name (with_await false s.flags)))) (sym i) (freer_at s.name s.flags h))
    go true i true k o = subst (λ (u : Symbol). Like Freer (rule s) (rule u)) (sym (t_is true k)) (subst (λ (v : Bool). Like Freer (rule s) (rule (at s.name (with_await v s.flags)))) i (like_itself Freer freer_itself (rule s)))
    go false i false k o = subst (λ (u : Symbol). Like Freer (rule s) (rule u)) (sym (t_is false k)) (subst (λ (v : Bool). Like Freer (rule s) (rule (at s.name (with_await v s.flags)))) i (like_itself Freer freer_itself (rule s)))
    go false i true k o = absurd (subst (λ (v : Bool). OffOr v true) i (subst (λ (v : Bool). OffOr s.flags.await_ v) k o))

-- a lexeme that is a name in the one is one in the other
still_off : (c a b : Bool) → OffOr a b → not (c && a) ≡ true → not (c && b) ≡ true
still_off false a b o h = refl
still_off true true b o h = absurd (false≢true h)
still_off true false true o h = absurd o
still_off true false false o h = refl

still_name : (f g : Flags) → g ≡ record f { await_ = g.await_ } → OffOr f.await_ g.await_ → (k : Kind) → (may_bind k && not (same_kind Yield k && f.yield_) && not (same_kind Await k && f.await_)) ≡ true → (may_bind k && not (same_kind Yield k && g.yield_) && not (same_kind Await k && g.await_)) ≡ true
still_name f g e o k q =
    let z = and_parts (may_bind k && not (same_kind Yield k && f.yield_)) (not (same_kind Await k && f.await_)) q in
    and_from _ _ (subst (λ (b : Bool). (may_bind k && not (same_kind Yield k && b)) ≡ true) (sym (ap (λ (v : Flags). v.yield_) e)) z.0) (still_off (same_kind Await k) f.await_ g.await_ o z.1)

identifier_at : (n : Name) (f g : Flags) → is_identifier n ≡ true → g ≡ record f { await_ = g.await_ } → OffOr f.await_ g.await_ → {ks ts us : Slots} {i j : ℕ} {ls rest : Lexemes} → Takes rule (rule_of n f) ks ts i ls us j rest → Takes rule (rule_of n g) ks ts i ls us j rest
unfolding rule_of
identifier_at IdentifierReference f g h e o (is_node (is_lexeme {x = x} q)) = is_node (is_lexeme (still_name f g e o x.kind q))
identifier_at BindingIdentifier f g h e o (is_node (is_lexeme {x = x} q)) = is_node (is_lexeme (still_name f g e o x.kind q))
identifier_at LabelIdentifier f g h e o (is_node (is_lexeme {x = x} q)) = is_node (is_lexeme (still_name f g e o x.kind q))
identifier_at _ f g h e o d = absurd (false≢true h)

identifier_freer : (s t : Symbol) → Freer s t → is_identifier s.name ≡ true → {ks ts us : Slots} {i j : ℕ} {ls rest : Lexemes} → Takes rule (rule s) ks ts i ls us j rest → Takes rule (rule t) ks ts i ls us j rest
unfolding rule
identifier_freer s t e h {ks} {ts} {us} {i} {j} {ls} {rest} d = subst (λ (n : Name). Takes rule (rule (at n t.flags)) ks ts i ls us j rest) e.0 (identifier_at s.name s.flags t.flags h e.1 e.2 d)

commas_freer : (a b : G) (x y : Bool) → x ≡ y → Like Freer a b → Like Freer (commas_once x a) (commas_once y b)
commas_freer a b true true q e = (e, ((refl, ((q, e), tt)), tt))
commas_freer a b false false q e = (e, ((refl, (q, e)), tt))
commas_freer a b true false q e = absurd (cc)
commas_freer a b false true q e = absurd (cc)

-- what a symbol derives a freer one does, by its line or as a name
by_line : (s t : Symbol) → Freer s t → {ks ts us : Slots} {i j : ℕ} {ls rest : Lexemes} → Takes rule (rule s) ks ts i ls us j rest → (Like Freer (rule s) (rule t) → Takes rule (rule t) ks ts i ls us j rest) → Takes rule (rule t) ks ts i ls us j rest
by_line s t e {ks} {ts} {us} {i} {j} {ls} {rest} d f = go (is_identifier s.name) refl
  where
    go : (b : Bool) → is_identifier s.name ≡ b → Takes rule (rule t) ks ts i ls us j rest
    go true h = identifier_freer s t e h d
    go false h = f (freer_rule s t e h)

freely : (g h : G) → Like Freer g h → {ks ts us : Slots} {i j : ℕ} {ls rest : Lexemes} → Takes rule g ks ts i ls us j rest → Takes rule h ks ts i ls us j rest
freely nothing nothing e is_nothing = is_nothing
freely (lexeme p) (lexeme q) e (is_lexeme {x = x} c) = is_lexeme (subst (λ z. IsTrue (seen z x)) e c)
freely (look p) (look q) e (is_look {ls = ls} c) = is_look (subst (λ z. IsTrue (seen z (here ls))) e c)
freely (text p) (text q) e (is_text {ls = ls} c) = is_text (subst (λ z. IsTrue (z (here ls).units)) e c)
freely (ahead a) (ahead b) e (is_ahead d) = is_ahead (freely a b e d)
freely empty_slot empty_slot e is_empty_slot = is_empty_slot
freely (seq a b) (seq c d) e (is_seq x y) = is_seq (freely a c e.0 x) (freely b d e.1 y)
freely (alt a b) (alt c d) e (is_left x) = is_left (freely a c e.0 x)
freely (alt a b) (alt c d) e (is_right x) = is_right (freely b d e.1 x)
freely (when c a) (when d b) e (is_when h x) = is_when (subst (λ z. IsTrue z) e.0 h) (freely a b e.1 x)
freely (many a) (many b) e (is_many x) = is_many (freely _ _ ((e, e), tt) x)
freely (commas x a) (commas y b) e (is_commas d) = is_commas (freely (commas_once x a) (commas_once y b) (commas_freer a b x y e.0 e.1) d)
freely (such n c) (such m f) e (is_such {l = l} {cs = cs} d h) = is_such (by_line n m e.0 d (λ r. freely (rule n) (rule m) r d)) (subst (λ z. IsTrue (z (record { label = l; slots = cs }))) e.1 h)
freely (marked h n) (marked k m) e {ks = ks} (is_marked {l = l} {cs = cs} {us = us} {i = i} {j = j} {ls = ls} {rest = rest} d) =
    subst (λ z. Takes rule (marked z m) ks (tree (h l) cs us) i ls us j rest) e.1 (is_marked (by_line n m e.0 d (λ r. freely (rule n) (rule m) r d)))
freely (node m a) (node n b) e {ks = ks} (is_node {cs = cs} {us = us} {i = i} {j = j} {ls = ls} {rest = rest} d) =
    subst (λ z. Takes rule (node z b) ks (tree (label_of m ls j rest) cs us) i ls us j rest) e.0 (is_node (freely a b e.1 d))
freely (ended r a) (ended s b) e (is_ended {ks = ks} {cs = cs} {us = us} {vs = vs} {j = j} {k = k} {ls = ls} {mid = mid} {rest = rest} q d x) =
    is_ended q (freely a b e.1 d) (subst (λ z. Takes rule (semicolon (z (here ls) cs)) ks us j mid vs k rest) e.0 (freely (semicolon (r (here ls) cs)) (semicolon (r (here ls) cs)) (refl, refl) x))
freely (keep a b) (keep c d) e (is_keep x y) = is_keep (freely a c e.0 x) (freely b d e.1 y)
freely kept kept e (is_kept q) = is_kept q
freely never h e d = elim d [ ]
freely g h e d = absurd e

-- the parameters of an asynchronous arrow function are those of another one
pub params_around : (f : Flags) {ks ts us : Slots} {i j : ℕ} {ls rest : Lexemes} → Takes rule (such (at Params (arrow_head true f)) always) ks ts i ls us j rest → Takes rule (such (at Params f) always) ks ts i ls us j rest
params_around f d = freely (such (at Params (arrow_head true f)) always) (such (at Params f) always) ((refl, refl, off_or f.await_), refl) d
  where
    off_or : (b : Bool) → OffOr (b || true) b
    off_or true = tt
    off_or false = tt
