-- Methods of classes whose names are still to be read (ECMA-262, 15.5 to 15.8): the line that is left, by the name.
use Rattle.std.proofs.Common.{ℕ, ◌≡◌, Bool, true, false, not, ◌&&◌, ◌||◌, cond, List, [], ◌∷◌, Some, refl, sym, ap, ap₂, subst, ◌∙◌}
use Rattle.std.specs.Prelude.{Result}
use Rattle.std.proofs.lemmas.Bool.{false≢true, or_parts}
use Rattle.js_base.specs.declared.kind.Kind.TheVariants.{Constructor, Str}
use Rattle.js_base.specs.Kinds.{same_kind, one_of_kinds}
use Rattle.js_base.specs.KindSets.{identifier_name_kinds}
use Rattle.js_base.proofs.KindLemmas.{kind_of_same}
use Rattle.js_grammar.specs.Trees.{end}
use Rattle.js_grammar.specs.Grammar.{kept, nothing, ◌▸◌, ◌◇◌}
use Rattle.js_grammar.specs.Parsing.{plain, full, still, Reads, Fails}
use Rattle.js_grammar.specs.Productions.{G, Flags}
use Rattle.js_grammar.specs.Table.{rule, name, named_constructor, not_constructor, plain_method}
use Rattle.js_grammar.proofs.Calculus.{◌▹◌, fails_alt, fails_never, fails_node, inside_full, left, part_fails, right, stay}
use Rattle.laws_primary.specs.js_tree.declared.id.NodeId.{NodeId}
use Rattle.laws_primary.specs.declared.forms.PropertyName.{PropertyName}
use Rattle.laws_primary.specs.js_tree.declared.op.MethodKind.{MethodKind}
use Rattle.laws_primary.specs.js_tree.declared.op.MethodKind.TheVariants as method_kind
use Rattle.laws_primary.specs.js_cursor.Parsers.{Parser}
use Rattle.laws_primary.specs.js_cursor.declared.stop.Stop.{Stop}
use Rattle.laws_primary.specs.Objects.{method_left}
use Rattle.laws_primary.specs.laws_shared.Answers.{Stops}
use Rattle.laws_primary.specs.laws_shared.Arguments.{Partway}
use Rattle.laws_primary.specs.laws_shared.Lexemes.{Lex}
use Rattle.laws_primary.specs.laws_shared.States.{At}
use Rattle.laws_primary.specs.laws_shared.declared.nested.MethodForm.TheVariants.{Method}
use Rattle.laws_primary.proofs.laws_shared.Ahead.{pass_over}
use Rattle.laws_primary.proofs.laws_shared.Moving.{stops_behind}
use Rattle.laws_primary.proofs.laws_shared.Parts.{part_from, part_path_fails, parts}
use Rattle.laws_primary.proofs.laws_shared.Signs.{other_kind}
use Rattle.laws_primary.proofs.laws_shared.Verdicts.{after as grown_behind}
use Rattle.laws_primary.proofs.AsyncWords.{any_between, part_within}
use Rattle.laws_primary.proofs.Methods.{no_first}
use Rattle.laws_classes.specs.Elements.{ElementOutcome, element_slots}
use Rattle.laws_classes.specs.Members.{accessor_line, constructors, field_line, forms, getter_line, kind_of_word, members, method_line, setter_line}
use Rattle.laws_classes.specs.Methods.{ReadsMethod}
use Rattle.laws_classes.specs.Names.{KeyRead, NoKey, NoKeys}
use Rattle.laws_classes.specs.SpecialMethods.{BeginsMethod}
use Rattle.laws_classes.proofs.Elements.{element_by}
use Rattle.laws_classes.proofs.Members.{No, no_member, one_of_two, quiet_fails, quiet_named, quiet_test}
use Rattle.laws_classes.proofs.NameTests.{Tested}
use Rattle.laws_classes.proofs.Names.{key_part}
use Rattle.laws_classes.proofs.OtherMembers.{other_tested}
use Rattle.laws_classes.proofs.WordMembers.{named_fails, named_reads, unnamed_fails, unnamed_reads}

-- whether a name that is no string is `constructor`
pub name_tested : {text : List ℕ} {f : Flags} {p : Parser} → At text f p → (p.token.kind ≡ Str → ⊥) → Tested text (same_kind Constructor p.token.kind) p.prev_token_end
name_tested {text} {f} {p} a n = go (one_of_kinds identifier_name_kinds p.token.kind) (same_kind Constructor p.token.kind) refl refl
  where
    go : (w o : Bool) → one_of_kinds identifier_name_kinds p.token.kind ≡ w → same_kind Constructor p.token.kind ≡ o → Tested text o p.prev_token_end
    go true true w o = let k = sym (kind_of_same Constructor p.token.kind o) in (named_reads a w k, unnamed_fails a w k)
    go true false w o = let k : p.token.kind ≡ Constructor → ⊥ = λ e. false≢true (sym o ∙ ap (same_kind Constructor) e) in (unnamed_reads a w k, named_fails a w k)
    go false true w o = absurd (false≢true (sym w ∙ ap (one_of_kinds identifier_name_kinds) (sym (kind_of_same Constructor p.token.kind o))))
    go false false w o = other_tested a (ap₂ (λ (x y : Bool). x || y) (or_parts (same_kind Str p.token.kind) false (other_kind Str p.token.kind n)).0 w)

module _ {text : List ℕ} {f : Flags} {first p : Parser} {a s : Bool} where
  no_method_line : (st c : Bool) → BeginsMethod text f st a s first p → Fails rule (Lex text) (plain full) end (cond (st || c) nothing not_constructor ▸ name c true f ▸ method_left Method a s f) p.prev_token_end → No text first.prev_token_end (method_line st c f)
  no_method_line st c x n = fails_node inside_full (part_path_fails (x.method (st || c) c) (part_fails n any_between))

  no_constructor_line : (st : Bool) → BeginsMethod text f st a s first p → Fails rule (Lex text) (plain full) end (named_constructor ▸ name false true f ▸ method_left Method a s f) p.prev_token_end → No text first.prev_token_end (constructors st f)
  no_constructor_line true x n = fails_never
  no_constructor_line false x n = fails_node inside_full (part_path_fails x.constructor (part_fails n any_between))

  unnamed : (st c : Bool) → BeginsMethod text f st a s first p → NoKey text c f p.prev_token_end → No text first.prev_token_end (method_line st c f)
  unnamed st c x n = no_method_line st c x (quiet_fails (quiet_test (st || c)) (no_first n))

  no_other_line : (st c : Bool) → BeginsMethod text f st a s first p → No text first.prev_token_end (getter_line st c f ◇ setter_line st c f ◇ field_line st c f ◇ accessor_line st c f)
  no_other_line st c x = fails_alt (x.getter c) (fails_alt (x.setter c) (fails_alt (x.field c) (x.accessor c)))

  no_other_form : (st c : Bool) → BeginsMethod text f st a s first p → NoKey text (not c) f p.prev_token_end → No text first.prev_token_end (forms st (not c) f)
  no_other_form st c x n = fails_alt (unnamed st (not c) x n) (no_other_line st (not c) x)

  pub named_stops : (st : Bool) (w : Parser) (e : Stop) → BeginsMethod text f st a s first p → Stops p w e (NoKeys text f p.prev_token_end) → Stops first w e (No text first.prev_token_end (members st f))
  named_stops st w e x z = stops_behind w e x.constructor.same (λ g. grown_behind x.constructor.verdict g) (λ n. no_member st f (λ c. unnamed st c x (n c)) x.getter x.setter x.field x.accessor (no_constructor_line st x (quiet_fails quiet_named (no_first (n false))))) z

  part_named : {g t : G} {r : Parser} {id : NodeId} {c : Bool} → Partway text f g ((t ▸ name c true f ▸ method_left Method a s f) ▸ kept) first p [] [] → Reads rule (Lex text) (plain full) end t p.prev_token_end p.prev_token_end (λ us. us) (still 0) → KeyRead text f c p r id → Partway text f g (method_left Method a s f ▸ kept) first r [] (Some id ∷ [])
  part_named x t k = parts x (part_within (part_from (pass_over t) (key_part k)))

  behind_static : {r : Parser} {id : NodeId} (c : Bool) (w : Parser) (v : Result NodeId Stop) (start : ℕ) → At text f first → BeginsMethod text f true a s first p → start ≡ first.token.span.start → KeyRead text f c p r id → ReadsMethod (record { start = start; is_static = true }) method_kind.Method (record { key = id; computed = c }) a s r w v → ElementOutcome text f (members true f) first w v
  behind_static c w v start af x i k y = element_by text f first w v (one_of_two true f c (no_other_form true c x k.other) fails_never ▹ left (no_other_line true c x)) (y text f first (element_slots true f (plain_method nothing c true f)) af i (part_named (x.method true c) stay k))

  pub named_method_read : {r : Parser} {id : NodeId} (st c o : Bool) (w : Parser) (v : Result NodeId Stop) (start : ℕ) → At text f first → BeginsMethod text f st a s first p → start ≡ first.token.span.start → KeyRead text f c p r id → Tested text o p.prev_token_end → ReadsMethod (record { start = start; is_static = st }) (cond (not (c || st) && o) method_kind.Constructor method_kind.Method) (record { key = id; computed = c }) a s r w v → ElementOutcome text f (members st f) first w v
  named_method_read true true o w v start af x i k z y = behind_static true w v start af x i k y
  named_method_read true false o w v start af x i k z y = behind_static false w v start af x i k y
  named_method_read false true o w v start af x i k z y = element_by text f first w v (one_of_two false f true (no_other_form false true x k.other) (no_constructor_line false x (quiet_fails quiet_named (no_first k.other))) ▹ left (no_other_line false true x)) (y text f first (element_slots false f (plain_method nothing true true f)) af i (part_named (x.method true true) stay k))
  named_method_read false false false w v start af x i k z y = element_by text f first w v (one_of_two false f false (no_other_form false false x k.other) (no_constructor_line false x (no_first z.1)) ▹ left (no_other_line false false x)) (y text f first (element_slots false f (plain_method not_constructor false true f)) af i (part_named (x.method false false) z.0 k))
  named_method_read false false true w v start af x i k z y = element_by text f first w v (right (fails_alt (fails_alt (no_method_line false false x (no_first z.1)) (no_other_line false false x)) (no_other_form false false x k.other))) (y text f first (element_slots false f (plain_method named_constructor false true f)) af i (part_named x.constructor z.0 k))

  -- by a name that is no string
  pub plain_method_read : {r : Parser} (st : Bool) (w : Parser) (v : Result NodeId Stop) (start : ℕ) (n : PropertyName) → At text f first → BeginsMethod text f st a s first p → start ≡ first.token.span.start → KeyRead text f n.computed p r n.key → (p.token.kind ≡ Str → ⊥) → (o : MethodKind) → o ≡ kind_of_word (n.computed || st) p.token.kind → ReadsMethod (record { start = start; is_static = st }) o n a s r w v → ElementOutcome text f (members st f) first w v
  plain_method_read {r} st w v start n af x i k h o e y = named_method_read st n.computed (same_kind Constructor p.token.kind) w v start af x i k (name_tested x.at h) (subst (λ (u : MethodKind). ReadsMethod (record { start = start; is_static = st }) u n a s r w v) e y)
