-- Classes (ECMA-262, 15.7), part by part: their names, their heritage and their bodies.
use Rattle.std.proofs.Common.{ℕ, ◌≡◌, true, false, List, [], ◌∷◌, ◌++◌, length, Option, Some, None, refl, sym, ap, subst, arith, ◌∙◌}
use Rattle.std.specs.Prelude.{Ok, Err}
use Rattle.js_base.specs.declared.diagnostic.DiagnosticKind.TheVariants.{ImplementsClauseInTs}
use Rattle.js_base.specs.declared.kind.Kind.TheVariants.{At as at_sign, Class as a_class, Extends, Implements, LCurly, Undetermined}
use Rattle.js_base.specs.Kinds.{one_of_kinds}
use Rattle.js_grammar.specs.Marks.{Mark, the_end, the_start}
use Rattle.js_grammar.specs.Trees.{end, hole, tree}
use Rattle.js_grammar.specs.Grammar.{Look, empty_slot, nothing, ◌▸◌}
use Rattle.js_grammar.specs.Parsing.{plain, full, still, Goes}
use Rattle.js_grammar.specs.Productions.{Flags, at, tok, BindingIdentifier, ClassBody, LeftHandSide}
use Rattle.js_grammar.specs.Productions.{sym as symbol}
use Rattle.js_grammar.specs.Table.{rule, rule_of}
use Rattle.js_grammar.specs.Follow.{after}
use Rattle.js_grammar.proofs.Looks.{covers, apart}
use Rattle.js_grammar.proofs.Calculus.{◌▹◌, by_plain, fails_node, inside_full, left, part_by, part_fails, reads_empty_slot, right, then_by}
use Rattle.js_grammar.proofs.FirstClaims.{firsts}
use Rattle.js_grammar.proofs.FirstRules.{by_first}
use Rattle.js_grammar.proofs.FollowLaws.{fails_by, surely}
use Rattle.laws_shared.specs.js_tree.declared.id.NodeId.{NodeId}
use Rattle.laws_shared.specs.js_tree.Holding.{HoldsAll}
use Rattle.laws_shared.proofs.js_tree.HoldingLemmas.{HoldsAll-none, Keeps-made, Keeps-trans}
use Rattle.laws_shared.specs.js_cursor.Moves.{GivesUp, at_lexeme}
use Rattle.laws_shared.specs.js_cursor.Parsers.{Parser}
use Rattle.laws_shared.specs.js_cursor.Places.{IsAt, goal}
use Rattle.laws_shared.specs.js_cursor.declared.stop.Stop.{Stop}
use Rattle.laws_shared.proofs.js_cursor.Standing.{mark_here}
use Rattle.laws_shared.specs.Answers.{Numbered, Stops, Underived}
use Rattle.laws_shared.specs.Arguments.{Partway}
use Rattle.laws_shared.specs.Classes.{EndsParse}
use Rattle.laws_shared.specs.Lexemes.{Lex}
use Rattle.laws_shared.specs.Moves.{MadeHere, Moved}
use Rattle.laws_shared.specs.Stands.{NameHere, StandsHere}
use Rattle.laws_shared.specs.States.{At}
use Rattle.laws_shared.specs.Told.{unrelated_at}
use Rattle.laws_shared.proofs.Expected.{not_due}
use Rattle.laws_shared.proofs.Giving.{gives_up}
use Rattle.laws_shared.proofs.MadeNodes.{node_held, one_lies}
use Rattle.laws_shared.proofs.Moving.{stops_behind}
use Rattle.laws_shared.proofs.NameKinds.{listed_here, name_apart, name_at}
use Rattle.laws_shared.proofs.Parts.{part_called, part_from, part_goes, part_path, part_path_fails, part_sign, parts}
use Rattle.laws_shared.proofs.Paths.{Path, fails_at, noded}
use Rattle.laws_shared.proofs.Verdicts.{grown_then}
use Rattle.laws_shared.proofs.Verdicts.{after as grown_behind}
use Rattle.laws_primary.proofs.AsyncWords.{any_between, part_within}
use Rattle.laws_primary.proofs.Methods.{no_first}
use Rattle.laws_primary.proofs.Operands.{by_path}
use Rattle.laws_primary.proofs.Decorators.{kept_none, no_decorator, none_kept}
use Rattle.laws_primary.proofs.Functions.{name_numbered, no_name_part, part_hole}
use Rattle.laws_primary.specs.declared.forms.ClassForm.{ClassForm}
use Rattle.laws_primary.specs.declared.forms.ClassForm.TheVariants.{Declaration, Expression}
use Rattle.laws_primary.specs.Classes.{NamesClass, NoClass, NoHeritage, NoNamed, TakesHeritage, behind_heritage, behind_name, class_label, class_name, class_slots, name_part}

-- ---- the name

-- what stands behind the name, by its first lexeme; and behind the heritage
abbrev goes_on_class : Look
goes_on_class k w e = one_of_kinds (Extends ∷ LCurly ∷ []) k

abbrev opens_body : Look
opens_body k w e = one_of_kinds (LCurly ∷ []) k

module _ {text : List ℕ} {f : Flags} {r : Parser} (a : At text f r) where
  -- where none stands
  pub unnamed : NameHere r false → NoNamed text Declaration f r.prev_token_end
  unnamed n = no_first (no_name_part a f (name_at false a n))

  -- a slot with a name, and an empty one
  choose_name : NameHere r true → Goes rule (Lex text) (plain full) end (name_part Expression f ▸ behind_name f) r.prev_token_end (symbol BindingIdentifier f ▸ behind_name f) r.prev_token_end (λ us. us) (still 0)
  unfolding covers apart
  choose_name h = part_by {X' = plain goes_on_class} (left (fails_at a {X = plain goes_on_class} empty_slot (Extends ∷ LCurly ∷ []) refl (name_apart (Extends ∷ LCurly ∷ []) refl r.token.kind (listed_here r h)))) (by_first firsts (by_plain goes_on_class) refl)

  choose_none : NameHere r false → Goes rule (Lex text) (plain full) end (name_part Expression f ▸ behind_name f) r.prev_token_end (behind_name f) r.prev_token_end hole (still 0)
  choose_none h = part_by {X' = plain full} (right (no_name_part a f (name_at false a h))) any_between ▹ then_by {X' = plain full} reads_empty_slot any_between

  -- ---- the heritage

  no_heritage : StandsHere r Extends false → Goes rule (Lex text) (plain full) end (behind_name f) r.prev_token_end (behind_heritage f) r.prev_token_end hole (still 0)
  no_heritage n = part_by {X' = plain full} (right (not_due a Extends refl n)) any_between ▹ then_by {X' = plain full} reads_empty_slot any_between

  module _ (h : StandsHere r Extends true) where
    some_heritage : Goes rule (Lex text) (plain full) end (behind_name f) r.prev_token_end ((tok Extends ▸ symbol LeftHandSide f) ▸ behind_heritage f) r.prev_token_end (λ us. us) (still 0)
    unfolding covers apart
    some_heritage = part_by {X' = plain opens_body} (left (fails_at a {X = plain opens_body} empty_slot (LCurly ∷ []) refl (ap (one_of_kinds (LCurly ∷ [])) h.0))) (by_first firsts (by_plain opens_body) refl)

    module _ {s : Parser} (m : Moved text f r s) where
      inherits : (ids : List (Option NodeId)) → Partway text f (behind_name f) (symbol LeftHandSide f ▸ behind_heritage f) r s ids ids
      inherits ids = part_from some_heritage (part_within (part_sign Extends a h.0 h.1 refl m))

      pub heritage_taken : {t : Parser} {id : NodeId} (ids : List (Option NodeId)) → Numbered text f (at LeftHandSide f) s t id → Partway text f (behind_name f) (behind_heritage f) r t ids (ids ++ Some id ∷ [])
      unfolding covers
      heritage_taken ids x = parts (inherits ids) (part_called ids x refl)

      pub heritage_stops : (w : Parser) (e : Stop) → Stops s w e (Underived text (at LeftHandSide f) s.prev_token_end) → Stops r w e (NoHeritage text f r.prev_token_end)
      unfolding covers
      heritage_stops w e z = stops_behind w e m.same (λ g. grown_then m.kept g) (λ n. part_path_fails (inherits []) (part_fails n (by_first firsts (surely (at LeftHandSide f)) refl))) z

-- ---- the whole

no_class : {text : List ℕ} {f : Flags} {s : ℕ} (form : ClassForm) → NoClass text form f s → Underived text (at (class_name form) f) s
unfolding rule rule_of
no_class Declaration n = fails_by (fails_node inside_full n)
no_class Expression n = fails_by (fails_node inside_full n)

module _ {text : List ℕ} {f : Flags} {p q : Parser} (form : ClassForm) (a : At text f p) (h : StandsHere p a_class true) (m : Moved text f p q) where
  -- `class` was passed
  begun : Partway text f (class_slots form f) (name_part form f ▸ behind_name f) p q [] []
  begun = part_from (none_kept (no_decorator a (ap (one_of_kinds (at_sign ∷ [])) h.0))) (part_sign a_class a h.0 h.1 refl m)

  pub name_stops : (w : Parser) (e : Stop) → NamesClass form q w (Err e) → Stops p w e (Underived text (at (class_name form) f) p.prev_token_end)
  name_stops w e z = stops_behind w e m.same (λ g. grown_then m.kept g) (λ n. no_class form (part_path_fails begun n)) (z text f m.at)

-- its name was read, or it has none
pub named : {text : List ℕ} {f : Flags} {p q : Parser} (form : ClassForm) (a : At text f p) (h : StandsHere p a_class true) (m : Moved text f p q) (r : Parser) (name : Option NodeId) → NamesClass form q r (Ok name) → Partway text f (class_slots form f) (behind_name f) p r [] (name ∷ [])
unfolding covers
named {text} {f} Declaration a h m r (Some id) (n, l) = parts (begun Declaration a h m) (part_called [] (name_numbered m.at (name_at true m.at n) (l text f m.at)) refl)
named {text} {f} Expression a h m r (Some id) (n, l) = parts (part_goes (begun Expression a h m) (choose_name m.at n)) (part_called [] (name_numbered m.at (name_at true m.at n) (l text f m.at)) refl)
named {text} {f} Declaration a h m r None (d, n, e) = let z : Declaration ≡ Expression = d in absurd (cc)
named {text} {f} {p} Expression a h m r None (d, n, e) = subst (λ (v : Parser). Partway text f (class_slots Expression f) (behind_name f) p v [] (None ∷ [])) (sym e) (part_hole (begun Expression a h m) (choose_none m.at n))

module _ {text : List ℕ} {f : Flags} {p r : Parser} (form : ClassForm) (name : Option NodeId) (x : Partway text f (class_slots form f) (behind_name f) p r [] (name ∷ [])) where
  pub inherited : (s : Parser) (heritage : Option NodeId) → TakesHeritage r s (Ok heritage) → Partway text f (class_slots form f) (behind_heritage f) p s [] (name ∷ heritage ∷ [])
  inherited s (Some id) t = parts x (t text f (name ∷ []) x.at)
  inherited s None (n, e) = subst (λ (v : Parser). Partway text f (class_slots form f) (behind_heritage f) p v [] (name ∷ None ∷ [])) (sym e) (part_hole x (no_heritage x.at n))

  pub inheriting_stops : (w : Parser) (e : Stop) → TakesHeritage r w (Err e) → Stops p w e (Underived text (at (class_name form) f) p.prev_token_end)
  inheriting_stops w e z = stops_behind w e x.same (λ g. grown_behind x.verdict g) (λ n. no_class form (part_path_fails x n)) (z text f x.at)

module _ {text : List ℕ} {f : Flags} {p s : Parser} (form : ClassForm) (ids : List (Option NodeId)) (x : Partway text f (class_slots form f) (behind_heritage f) p s [] ids) where
  pub body_stops : (w : Parser) (e : Stop) → Stops s w e (Underived text (at ClassBody f) s.prev_token_end) → Stops p w e (Underived text (at (class_name form) f) p.prev_token_end)
  unfolding covers
  body_stops w e z = stops_behind w e x.same (λ g. grown_behind x.verdict g) (λ n. no_class form (part_path_fails x (part_fails n (by_first firsts (surely (at ClassBody f)) refl)))) z

  pub embodied : {t : Parser} {body : NodeId} → Numbered text f (at ClassBody f) s t body → Partway text f (class_slots form f) nothing p t [] (ids ++ Some body ∷ [])
  unfolding covers
  embodied y = part_goes (parts x (part_called ids y refl)) kept_none

class_path : {text : List ℕ} {f : Flags} {p t : Parser} {ids : List (Option NodeId)} (form : ClassForm) → At text f p → (x : Partway text f (class_slots form f) nothing p t [] ids) → Path text f (after (at (class_name form) f)) (rule (at (class_name form) f)) p nothing t (tree (class_label form p.token.span.start t.prev_token_end) (x.slots end))
unfolding rule rule_of
class_path Declaration a x = noded a (part_path x)
class_path Expression a x = noded a (part_path x)

pub class_answers : {text : List ℕ} {f : Flags} {p t w : Parser} {ids : List (Option NodeId)} {id : NodeId} {start : ℕ} (form : ClassForm) → At text f p → Partway text f (class_slots form f) nothing p t [] ids → start ≡ p.token.span.start → MadeHere (class_label form start t.prev_token_end) ids t w id → Numbered text f (at (class_name form) f) p w id
class_answers {text} {f} {p} {t} {w} {ids} {id} form a x e n = go form x made
  where
    made : MadeHere (class_label form p.token.span.start t.prev_token_end) ids t w id
    made = subst (λ (v : ℕ). MadeHere (class_label form v t.prev_token_end) ids t w id) e n

    held : (form : ClassForm) (y : Partway text f (class_slots form f) nothing p t [] ids) → HoldsAll t.nodes (length p.nodes) (length t.nodes) ids (y.slots end)
    held form y = y.holds (length p.nodes) end (HoldsAll-none p.nodes (length p.nodes) (length p.nodes) (omega arith))

    go : (form : ClassForm) (y : Partway text f (class_slots form f) nothing p t [] ids) → MadeHere (class_label form p.token.span.start t.prev_token_end) ids t w id → Numbered text f (at (class_name form) f) p w id
    go Declaration y n = by_path (class_path Declaration a y) y.same n.stays (λ z l. refl) refl (node_held n (held Declaration y)) (Keeps-trans y.keeps (Keeps-made n.made)) refl (one_lies n)
    go Expression y n = by_path (class_path Expression a y) y.same n.stays (λ z l. refl) refl (node_held n (held Expression y)) (Keeps-trans y.keeps (Keeps-made n.made)) refl (one_lies n)

-- ---- where a name is missing

-- a declaration is refused
pub name_refused : (form : ClassForm) (p q : Parser) (e : Stop) → (form ≡ Expression → ⊥) → NameHere p false → GivesUp EndsParse p q e → NamesClass form p q (Err e)
name_refused Declaration p q e i h g = λ text f a. gives_up EndsParse p q e a g (λ d u. u) (unnamed a h)
name_refused Expression p q e i h g = absurd (i refl)

-- ---- what is told where an interface is named

-- no body stands there
pub unembodied : {text : List ℕ} {f : Flags} {p : Parser} → At text f p → p.token.kind ≡ Implements → Underived text (at ClassBody f) p.prev_token_end
unfolding covers apart
unembodied {f = f} a k = fails_at a (symbol ClassBody f) (LCurly ∷ []) refl (ap (one_of_kinds (LCurly ∷ [])) k)

pub implements_marked : (p : Parser) → IsAt p → p.token.kind ≡ Implements → Mark (goal p) p.text (unrelated_at ImplementsClauseInTs p.token.span)
implements_marked p a k = mark_here ImplementsClauseInTs p.token.span None a (at_lexeme (λ i. let z : Implements ≡ Undetermined = sym k ∙ i in cc) refl) (λ s l i. ((the_start l.of_text l.is.0, the_end l.of_text l.is.1), (refl, refl)))
