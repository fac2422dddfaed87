-- Arrow functions whose parameters stand in parentheses: where none stand, and what was found (ECMA-262, 15.3, 15.9).
use Rattle.std.proofs.Common.{ℕ, ◌≡◌, ◌∷◌, List, [], Bool, true, false, Option, Some, None, refl, sym, ap, subst, ◌∙◌}
use Rattle.js_base.specs.declared.kind.Kind.TheVariants.{Async, LParen}
use Rattle.js_base.specs.Kinds.{one_of_kinds}
use Rattle.js_base.specs.declared.token.Token.{Token}
use Rattle.js_grammar.specs.Trees.{Slots, end}
use Rattle.js_grammar.specs.Grammar.{Lexemes, Takes, alt, is_right, is_seq, nothing, ◌▸◌}
use Rattle.js_grammar.specs.Lexed.{Lexes}
use Rattle.js_grammar.specs.Parsing.{Fails, full, plain}
use Rattle.js_grammar.specs.Productions.{G, Flags, at, tok, LooseHead, Params}
use Rattle.js_grammar.specs.Productions.{sym as symbol}
use Rattle.js_grammar.specs.Table.{rule, rule_of}
use Rattle.js_base.specs.declared.kind.Kind.TheVariants.{Arrow}
use Rattle.js_grammar.proofs.Calculus.{done, fails_alt, ◌▹✗◌}
use Rattle.js_grammar.proofs.Looks.{apart, covers}
use Rattle.laws_shared.specs.js_tree.declared.id.NodeId.{NodeId}
use Rattle.laws_shared.specs.js_cursor.Moves.{Peeks}
use Rattle.laws_shared.specs.js_cursor.Parsers.{Parser}
use Rattle.laws_shared.specs.Lexemes.{Lex}
use Rattle.laws_shared.specs.Stands.{StandsHere}
use Rattle.laws_shared.specs.States.{At, Standing}
use Rattle.laws_shared.proofs.Paths.{fails_at}
use Rattle.laws_shared.proofs.Signs.{other_kind, plain_sign}
use Rattle.laws_shared.proofs.PlainSigns.{paren_plain}
use Rattle.laws_operators.specs.Arrows.{FindsAnyHead, FindsAsyncHead, FindsHead, IsHeadOf, NoLed}
use Rattle.laws_operators.specs.Lists.{AsyncListBegins, FindsList, NoParameters, parameters_of}
use Rattle.laws_operators.specs.declared.forms.ArrowHead.{ArrowHead}
use Rattle.laws_operators.proofs.Arrows.{no_async_here, no_plain_led, plain_head_flags, unmoved}
use Rattle.laws_operators.proofs.AsyncHeads.{list_other, no_async_word, plain_found}

-- where no head stands no parameters do
unled : {text : List ℕ} (f : Flags) {s : ℕ} (a : Bool) → NoLed a text f s → NoParameters a text f s
unled {text} f {s} a n = record { no = λ ts vs j ls rest l d e. go ts vs j ls rest l d }
  where
    go : (ts vs : Slots) (j : ℕ) (ls rest : Lexemes) → Lexes (Lex text) s ls → Takes rule (parameters_of a f) end ts s ls vs j rest → ⊥
    go ts vs j ls rest l (is_seq w (is_seq d q)) = n.no ts vs j ls rest l (is_seq w (is_seq (is_right d) q)) (refl, refl)

-- the production of both
loose_head : (f : Flags) → rule (at LooseHead f) ≡ alt (parameters_of false f) (parameters_of true f)
unfolding rule rule_of
loose_head f = refl

neither_list : {text : List ℕ} (f : Flags) {s : ℕ} → NoParameters false text f s → NoParameters true text f s → Fails rule (Lex text) (plain full) end (rule (at LooseHead f)) s
neither_list {text} f {s} n m = subst (λ (g : G). Fails rule (Lex text) (plain full) end g s) (sym (loose_head f)) (fails_alt n m)

-- nor where no parenthesis stands
no_list : {text : List ℕ} {f : Flags} {p : Parser} → At text f p → (p.token.kind ≡ LParen → ⊥) → NoParameters false text f p.prev_token_end
unfolding covers apart
no_list {text} {f} {p} a n = subst (λ (g : Flags). Fails rule (Lex text) (plain full) end (nothing ▸ (symbol Params g ▸ tok Arrow)) p.prev_token_end) (sym (plain_head_flags f)) (done ▹✗ fails_at a {X = plain full} (symbol Params f ▸ tok Arrow) (LParen ∷ []) refl (other_kind LParen p.token.kind n))

unopened : {text : List ℕ} {f : Flags} {p : Parser} → At text f p → StandsHere p LParen false → p.token.kind ≡ LParen → ⊥
unopened a n k = n k (plain_sign LParen a k refl refl paren_plain)

-- ---- what is found

pub list_found : {p : Parser} → Standing p → p.token.kind ≡ LParen → (q : Parser) (found : Option NodeId) (res : Option ArrowHead) → FindsHead p q found → IsHeadOf false found res → FindsList p q res
list_found {p} a k q (Some id) res x e = subst (FindsList p q) (sym e) (subst (FindsAnyHead p q) e (plain_found a (unmoved refl) (λ text f b. no_async_here b (ap (one_of_kinds (Async ∷ [])) k)) q (Some id) res x e))
list_found {p} a k q None res x e = subst (FindsList p q) (sym e) (x.0, λ text f b. neither_list f (unled f false (no_plain_led f (x.1 text f b))) (unled f true (no_async_here b (ap (one_of_kinds (Async ∷ [])) k))))

pub async_list_found : {p o : Parser} → AsyncListBegins p o true → (q : Parser) (found : Option NodeId) (res : Option ArrowHead) → FindsAsyncHead o q found → IsHeadOf true found res → FindsList p q res
async_list_found {p} {o} b q found res x e = by found (subst (λ (z : Parser). FindsAsyncHead z q found) b.0 x) e
  where
    by : (found : Option NodeId) → FindsAsyncHead p q found → IsHeadOf true found res → FindsList p q res
    by (Some id) x e = subst (FindsList p q) (sym e) x
    by None x e = subst (FindsList p q) (sym e) (x.0, λ text f c. neither_list f (no_list c (λ k. let z : Async ≡ LParen = sym b.1.0 ∙ k in absurd (cc))) (unled f true (x.1 text f c)))

pub none_listed : {p q : Parser} → StandsHere p LParen false → AsyncListBegins p q false → FindsList p q None
none_listed n b = (unmoved b.0, λ text f a. neither_list f (no_list a (unopened a n)) (b.1 text f a))

-- ---- whether `async` stands before a parenthesis

pub no_word : {p : Parser} → StandsHere p Async false → AsyncListBegins p p false
no_word n = (refl, λ text f a. unled f true (no_async_word n text f a))

pub list_begins : {p q : Parser} {t : Token} → StandsHere p Async true → q ≡ p → Peeks p t → (r : Bool) → (r ≡ false → t.kind ≡ LParen → ⊥) → AsyncListBegins p q r
list_begins k e h true n = (e, k)
list_begins k e h false n = (e, λ text f a. list_other a h k.0 (n refl))

pub begins_so : (p q : Parser) {b r : Bool} → r ≡ b → AsyncListBegins p q r → AsyncListBegins p q b
begins_so p q e h = subst (λ (v : Bool). AsyncListBegins p q v) e h

pub list_so : (p q : Parser) {b r : Option ArrowHead} → r ≡ b → FindsList p q r → FindsList p q b
list_so p q e h = subst (FindsList p q) e h
