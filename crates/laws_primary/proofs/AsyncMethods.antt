-- A method behind its `async` (ECMA-262, 15.6, 15.8): with its `*` or without one, and its name.
use Rattle.std.proofs.Common.{ℕ, ◌≡◌, ◌≤◌, Bool, true, false, not, ◌||◌, List, [], ◌∷◌, Some, refl, sym, ap, subst, arith, ◌∙◌}
use Rattle.std.specs.Prelude.{if◌then◌else◌}
use Rattle.std.proofs.lemmas.Bool.{false≢true}
use Rattle.js_base.specs.Kinds.{same_kind, one_of_kinds}
use Rattle.js_base.specs.KindSets.{identifier_name_kinds}
use Rattle.js_base.specs.declared.kind.Kind.{Kind}
use Rattle.js_base.specs.declared.kind.Kind.TheVariants.{Async, Colon, LParen, Star}
use Rattle.js_base.specs.declared.token.Token.{Token}
use Rattle.js_base.proofs.KindLemmas.{kind_of_same}
use Rattle.js_grammar.specs.Trees.{end}
use Rattle.js_grammar.specs.Grammar.{nothing, ◌▸◌}
use Rattle.js_grammar.specs.Parsing.{plain, full, still, Goes, Fails}
use Rattle.js_grammar.specs.Productions.{Flags, only, tok}
use Rattle.js_grammar.specs.Table.{rule, name, plain_method}
use Rattle.js_grammar.proofs.Looks.{covers, apart}
use Rattle.js_grammar.proofs.Calculus.{◌▹◌, ◌▹✗◌, done, fails_alt, fails_node, inside_full, left, right}
use Rattle.laws_shared.specs.js_tree.declared.id.NodeId.{NodeId}
use Rattle.laws_shared.specs.js_cursor.Moves.{Eats}
use Rattle.laws_shared.specs.js_cursor.Parsers.{Parser}
use Rattle.laws_shared.specs.declared.nested.MethodForm.TheVariants.{Method}
use Rattle.laws_shared.specs.Arguments.{Partway, behind_item}
use Rattle.laws_shared.specs.Lexemes.{Lex}
use Rattle.laws_shared.specs.Moves.{Moved}
use Rattle.laws_shared.specs.States.{At, Same}
use Rattle.laws_shared.specs.Nesting.{room}
use Rattle.laws_primary.specs.Objects.{async_line, begins_async, ends_name_kinds, method_left, methods, with_method}
use Rattle.laws_primary.specs.PropertyNames.{NameRead, NoName, NoNames}
use Rattle.laws_shared.proofs.Moving.{moves, same_itself}
use Rattle.laws_shared.proofs.Nesting.{nested_room}
use Rattle.laws_shared.proofs.Parts.{part_from, part_goes, part_path_fails, part_sign, parts}
use Rattle.laws_shared.proofs.Paths.{fails_at}
use Rattle.laws_shared.proofs.Signs.{other_kind, plain_sign, whole_sign}
use Rattle.laws_shared.proofs.PlainSigns.{star_plain}
use Rattle.laws_primary.proofs.AsyncWords.{part_within, same_line}
use Rattle.laws_primary.proofs.Methods.{no_first}
use Rattle.laws_primary.proofs.Properties.{behind_shorthand, name_part, no_name_begins, property_name_kinds}
use Rattle.laws_primary.proofs.PropertyForms.{no_kind_of}
use Rattle.laws_primary.proofs.WordProperties.{no_plain}

-- ---- a star that was passed, or not

module _ {text : List ℕ} {f : Flags} {q : Parser} (r : Parser) (a : At text f q) where
  star_moved : Eats Star q r true → Moved text f q r
  star_moved (h, v) = moves (whole_sign Star a h.0 refl refl) v a

  pub eaten_at : (s : Bool) → Eats Star q r s → At text f r
  eaten_at true h = (star_moved h).at
  eaten_at false (n, i) = subst (λ (v : Parser). At text f v) (sym i) a

  pub eaten_same : (s : Bool) → Eats Star q r s → Same q r
  eaten_same true h = (star_moved h).same
  eaten_same false (n, i) = subst (λ (v : Parser). Same q v) (sym i) same_itself

  pub eaten_kept : (s : Bool) → Eats Star q r s → r.errors ≡ q.errors
  eaten_kept true h = (star_moved h).kept
  eaten_kept false (n, i) = ap (λ (v : Parser). v.errors) i

  pub eaten_room : (s : Bool) → Eats Star q r s → room r ≤ room q
  eaten_room true h = let l = nested_room a (star_moved h) in omega arith
  eaten_room false (n, i) = let l = ap room i in omega arith

  pub eaten_further : (s : Bool) → Eats Star q r s → q.prev_token_end ≤ r.prev_token_end
  eaten_further true h = let l = (star_moved h).further in let b = a.behind in omega arith
  eaten_further false (n, i) = let l = ap (λ (v : Parser). v.prev_token_end) i in omega arith

module _ {text : List ℕ} {f : Flags} {p q : Parser} (a : At text f p) (k : p.token.kind ≡ Async) (e : p.token.escaped ≡ false) (m : Moved text f p q) (w : q.token.is_on_new_line ≡ false) (z : one_of_kinds ends_name_kinds q.token.kind ≡ false) where
  begun : (c s : Bool) → Partway text f (async_line c s f) (only s (tok Star) ▸ nothing ▸ name c false f ▸ method_left Method true s f) p q [] []
  begun c s = part_goes (part_within (part_sign Async a k e refl m)) (same_line m.at w)

  -- ---- the star

  starred : (s : Bool) (r : Parser) → Eats Star q r s → (c : Bool) → Partway text f (async_line c s f) (nothing ▸ name c false f ▸ method_left Method true s f) p r [] []
  starred true r (h, v) c = parts (begun c true) (part_sign Star m.at h.0 h.1 refl (moves (whole_sign Star m.at h.0 refl refl) v m.at))
  starred false r (n, i) c = subst (λ (v : Parser). Partway text f (async_line c false f) (nothing ▸ name c false f ▸ method_left Method true false f) p v [] []) (sym i) (part_goes (begun c false) done)

  other_line : (s : Bool) (r : Parser) → Eats Star q r s → (c : Bool) → Fails rule (Lex text) (plain full) end (async_line c (not s) f) p.prev_token_end
  unfolding covers apart
  other_line true r (h, v) c = part_path_fails (begun c false) (done ▹✗ (done ▹✗ no_first (no_name_begins m.at c (ap (one_of_kinds property_name_kinds) h.0))))
  other_line false r (n, i) c = part_path_fails (begun c true) (no_first (fails_at m.at (tok Star) (Star ∷ []) refl (other_kind Star q.token.kind (λ k. n (k, plain_sign Star m.at k refl refl star_plain)))))

  -- the lines without `async`
  plain_line : (c s : Bool) → Fails rule (Lex text) (plain full) end (nothing ▸ only s (tok Star) ▸ nothing ▸ name c false f ▸ method_left Method false s f) p.prev_token_end
  unfolding covers apart
  plain_line c true = done ▹✗ no_first (fails_at a (tok Star) (Star ∷ []) refl (ap (one_of_kinds (Star ∷ [])) k))
  plain_line c false = done ▹✗ (done ▹✗ (done ▹✗ no_plain a (ap (one_of_kinds identifier_name_kinds) k) m (no_kind_of Colon LParen q.token.kind behind_shorthand z).1 c))

  only_line : (s : Bool) (r : Parser) → Eats Star q r s → (c : Bool) → Goes rule (Lex text) (plain full) end (plain_method nothing c false f) p.prev_token_end (async_line c s f) p.prev_token_end (λ us. us) (still 0)
  only_line true r h c = right (fails_alt (plain_line c false) (plain_line c true)) ▹ right (other_line true r h c)
  only_line false r h c = right (fails_alt (plain_line c false) (plain_line c true)) ▹ left (other_line false r h c)

  module _ (s : Bool) (r : Parser) (h : Eats Star q r s) where
    pub star_at : At text f r
    star_at = (starred s r h true).at

    pub async_part : {t : Parser} {id : NodeId} (c : Bool) → NameRead text f c r t id → Partway text f (plain_method nothing c false f) (method_left Method true s f) p t [] (Some id ∷ [])
    async_part c x = part_from (only_line s r h c) (parts (starred s r h c) (part_from done (name_part star_at c x)))

    no_named : (c : Bool) → NoName text c f r.prev_token_end → Fails rule (Lex text) behind_item end (with_method c f) p.prev_token_end
    no_named c n = fails_node inside_full (only_line s r h c ▹✗ part_path_fails (starred s r h c) (done ▹✗ no_first n))

    pub methods_only : (c : Bool) → NoName text (not c) f r.prev_token_end → Goes rule (Lex text) behind_item end (methods f) p.prev_token_end (with_method c f) p.prev_token_end (λ us. us) (still 0)
    methods_only false n = left (no_named true n)
    methods_only true n = right (no_named false n)

    pub no_methods_named : NoNames text f r.prev_token_end → Fails rule (Lex text) behind_item end (methods f) p.prev_token_end
    no_methods_named n = fails_alt (no_named false (n false)) (no_named true (n true))

-- ---- what the code knows of the word and of what stands behind it

pub async_so : {w k : Kind} {t u : Token} {r b : Bool} → w ≡ k → t ≡ u → r ≡ begins_async w t.kind t.is_on_new_line → r ≡ b → begins_async k u.kind u.is_on_new_line ≡ b
async_so {w} {k} {t} {u} e h i j = sym (ap (λ (x : Kind). begins_async x t.kind t.is_on_new_line) e ∙ ap (λ (x : Token). begins_async k x.kind x.is_on_new_line) h) ∙ (sym i ∙ j)

pub async_is : (k b : Kind) (w : Bool) → begins_async k b w ≡ true → (k ≡ Async) × (one_of_kinds ends_name_kinds b ≡ false) × (w ≡ false)
async_is k b w h = go (one_of_kinds ends_name_kinds b) w (same_kind Async k) (λ i. sym (kind_of_same Async k i)) h
  where
    go : (x y z : Bool) → (z ≡ true → k ≡ Async) → (if x || y then false else z) ≡ true → (k ≡ Async) × (x ≡ false) × (y ≡ false)
    go true y z i h = absurd (false≢true h)
    go false true z i h = absurd (false≢true h)
    go false false z i h = (i h, refl, refl)
