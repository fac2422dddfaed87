-- What begins no member of a class (ECMA-262, 15.7).
use Rattle.std.proofs.Common.{ℕ, ◌≡◌, Bool, true, false, ◌||◌, List, [], ◌∷◌, refl, sym, ap₂, subst, ◌∙◌}
use Rattle.std.proofs.lemmas.Bool.{false≢true, or_parts}
use Rattle.js_base.specs.declared.kind.Kind.{Kind}
use Rattle.js_base.specs.declared.kind.Kind.TheVariants.{Accessor, Async, At as at_sign, Get, Set, Star, Str}
use Rattle.js_base.specs.Kinds.{same_kind, one_of_kinds}
use Rattle.js_base.specs.KindSets.{identifier_name_kinds}
use Rattle.js_grammar.specs.Trees.{accessor_property, constructor_op, end, method_definition, method_op, no_op, of}
use Rattle.js_grammar.specs.Parsing.{plain, full, Fails}
use Rattle.js_grammar.specs.Productions.{G, Flags, tok}
use Rattle.js_grammar.specs.Table.{rule, name, plain_method}
use Rattle.js_grammar.proofs.Looks.{covers, covered, apart}
use Rattle.js_grammar.proofs.Calculus.{◌▹✗◌, done, fails_alt, fails_ended, fails_never, fails_node, inside_plain, part_fails}
use Rattle.laws_primary.specs.js_cursor.Moves.{GivesUp, IsUnexpected}
use Rattle.laws_primary.specs.js_cursor.Parsers.{Parser}
use Rattle.laws_primary.specs.js_cursor.declared.stop.Stop.{Stop}
use Rattle.laws_primary.specs.laws_shared.Answers.{Stops}
use Rattle.laws_primary.specs.laws_shared.Lexemes.{Lex}
use Rattle.laws_primary.specs.laws_shared.States.{At}
use Rattle.laws_primary.proofs.laws_shared.Giving.{gives_up_here}
use Rattle.laws_primary.proofs.laws_shared.Moving.{stops_behind}
use Rattle.laws_primary.proofs.laws_shared.Paths.{fails_at}
use Rattle.laws_primary.proofs.laws_shared.Signs.{other_kind}
use Rattle.laws_primary.proofs.laws_shared.Verdicts.{grown_then}
use Rattle.laws_primary.proofs.Methods.{no_first}
use Rattle.laws_classes.specs.Elements.{Begun, element_flags}
use Rattle.laws_classes.specs.Members.{accessor_line, constructors, field_line, getter_line, members, name_kinds, setter_line, special_firsts}
use Rattle.laws_classes.specs.Names.{NoKey}
use Rattle.laws_classes.proofs.Elements.{begun_fails, no_element}
use Rattle.laws_classes.proofs.Fields.{kept_between}
use Rattle.laws_classes.proofs.Members.{No, Quiet, behind_look, no_member, quiet_fails, quiet_named, quiet_test}

module _ {text : List ℕ} {f : Flags} {first p : Parser} (st : Bool) (af : At text f first) (b : Begun st text f first p) (a : At text f p) (n : one_of_kinds (at_sign ∷ Star ∷ name_kinds) p.token.kind ≡ false) where
  none_here : (ls : List Kind) → covers (λ k w e. one_of_kinds ls k) (λ k w e. one_of_kinds (at_sign ∷ Star ∷ name_kinds) k) ≡ true → one_of_kinds ls p.token.kind ≡ false
  none_here ls d = go (one_of_kinds ls p.token.kind) refl
    where
      go : (c : Bool) → one_of_kinds ls p.token.kind ≡ c → one_of_kinds ls p.token.kind ≡ false
      go true e = absurd (false≢true (sym n ∙ covered (λ k w e. one_of_kinds ls k) (λ k w e. one_of_kinds (at_sign ∷ Star ∷ name_kinds) k) d p.token.kind false false e))
      go false e = e

  no_decorated : one_of_kinds (at_sign ∷ []) p.token.kind ≡ false
  unfolding covers
  no_decorated = none_here (at_sign ∷ []) refl

  no_name_here : (c : Bool) → NoKey text c f p.prev_token_end
  unfolding covers apart
  no_name_here true = fails_at a (name true true f) name_kinds refl (none_here name_kinds refl)
  no_name_here false = fails_at a (name false true f) name_kinds refl (none_here name_kinds refl)

  no_method_here : {t : G} → Quiet t → (c : Bool) → Fails rule (Lex text) (plain full) end (plain_method t c true f) p.prev_token_end
  unfolding covers apart
  no_method_here t c = fails_alt (fails_alt (done ▹✗ (done ▹✗ quiet_fails t (no_first (no_name_here c)))) (done ▹✗ no_first (fails_at a (tok Star) (Star ∷ []) refl (none_here (Star ∷ []) refl)))) (fails_alt (no_first (no_first (fails_at a (tok Async) (Async ∷ []) refl (none_here (Async ∷ []) refl)))) (no_first (no_first (fails_at a (tok Async) (Async ∷ []) refl (none_here (Async ∷ []) refl)))))

  no_getter_here : (c : Bool) → No text first.prev_token_end (getter_line st c f)
  unfolding covers apart
  no_getter_here c = no_element st p method_definition (of Get) (element_flags st c) af b no_decorated (no_first (fails_at a (tok Get) (Get ∷ []) refl (none_here (Get ∷ []) refl)))

  no_setter_here : (c : Bool) → No text first.prev_token_end (setter_line st c f)
  unfolding covers apart
  no_setter_here c = no_element st p method_definition (of Set) (element_flags st c) af b no_decorated (no_first (fails_at a (tok Set) (Set ∷ []) refl (none_here (Set ∷ []) refl)))

  no_accessor_here : (c : Bool) → No text first.prev_token_end (accessor_line st c f)
  unfolding covers apart
  no_accessor_here c = no_element st p accessor_property no_op (element_flags st c) af b no_decorated (no_first (fails_at a (tok Accessor) (Accessor ∷ []) refl (none_here (Accessor ∷ []) refl)))

  no_field_here : (c : Bool) → No text first.prev_token_end (field_line st c f)
  unfolding covers
  no_field_here c = fails_node (inside_plain {F' = behind_look} refl) (begun_fails st p af b no_decorated (part_fails (fails_ended {X' = plain full} (no_first (no_name_here c)) (λ cs j ls mid l d h. (refl, refl))) kept_between))

  no_constructor_here : (u : Bool) → Begun u text f first p → No text first.prev_token_end (constructors u f)
  no_constructor_here true g = fails_never
  no_constructor_here false g = no_element false p method_definition constructor_op (element_flags false false) af g no_decorated (no_method_here quiet_named false)

  no_member_here : No text first.prev_token_end (members st f)
  no_member_here = no_member st f (λ c. no_element st p method_definition method_op (element_flags st c) af b no_decorated (no_method_here (quiet_test (st || c)) c)) no_getter_here no_setter_here no_field_here no_accessor_here (no_constructor_here st b)

  -- nor does the code read one
  pub member_unexpected : (w : Parser) (e : Stop) → GivesUp (IsUnexpected p) p w e → Stops first w e (No text first.prev_token_end (members st f))
  member_unexpected w e g = go st b (gives_up_here p w e a g no_member_here)
    where
      go : (t : Bool) → Begun t text f first p → Stops p w e (No text first.prev_token_end (members st f)) → Stops first w e (No text first.prev_token_end (members st f))
      go false h z = subst (λ (v : Parser). Stops v w e (No text first.prev_token_end (members st f))) h z
      go true (h, o) z = stops_behind w e o.same (λ d. grown_then o.kept d) (λ m. m) z

-- ---- what the code saw of it

not_kind : {text : List ℕ} {f : Flags} {p : Parser} (k : Kind) → At text f p → (p.token.kind ≡ k → ⊥) → same_kind k p.token.kind ≡ false
not_kind {p = p} k a n = (or_parts (same_kind k p.token.kind) false (other_kind k p.token.kind n)).0

pub unlisted : {text : List ℕ} {f : Flags} {p : Parser} → At text f p → (p.token.kind ≡ at_sign → ⊥) → (p.token.kind ≡ Star → ⊥) → one_of_kinds name_kinds p.token.kind ≡ false → one_of_kinds (at_sign ∷ Star ∷ name_kinds) p.token.kind ≡ false
unlisted a d s n = ap₂ (λ (x y : Bool). x || y) (not_kind at_sign a d) (ap₂ (λ (x y : Bool). x || y) (not_kind Star a s) n)

pub plain_here : {text : List ℕ} {f : Flags} {p : Parser} → At text f p → (p.token.kind ≡ Str → ⊥) → (p.token.kind ≡ Star → ⊥) → one_of_kinds identifier_name_kinds p.token.kind ≡ false → one_of_kinds special_firsts p.token.kind ≡ false
plain_here a d s n = ap₂ (λ (x y : Bool). x || y) (not_kind Str a d) (ap₂ (λ (x y : Bool). x || y) (not_kind Star a s) n)
