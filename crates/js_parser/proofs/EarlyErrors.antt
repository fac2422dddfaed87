-- Nothing is told of a tree exactly where it meets the early rules.
use Rattle.std.proofs.Common.{◌≡◌, ℕ, Bool, true, false, not, ◌&&◌, ◌||◌, cond, List, [], ◌++◌, Some, None, refl, sym, ◌∙◌}
use Rattle.std.specs.Prelude.{is_some}
use Rattle.std.proofs.lemmas.Bool.{false≢true, and_parts, and_from}
use Rattle.js_base.specs.part_text.Decoding.{cooked}
use Rattle.js_base.specs.declared.diagnostic.Diagnostic.{Diagnostic}
use Rattle.js_base.specs.declared.diagnostic.DiagnosticKind.{DiagnosticKind}
use Rattle.js_base.specs.declared.diagnostic.DiagnosticKind.TheVariants.{RegExpFlagUAndV, TemplateLiteral}
use Rattle.js_base.specs.declared.span.Span.{Span as PlacedSpan}
use Rattle.js_grammar.specs.EarlyRules.{Rule, everywhere, not_u_and_v, attribute_keys_differ, no_private_constructor, no_field_constructor, no_static_prototype, plain_constructor, cooked_at, Place, anywhere, tag, tagged, parts_cooked}
use Rattle.js_grammar.specs.NodeNames.{characters_at}
use Rattle.js_grammar.specs.Trees.{NodeKind, reg_exp_literal, tagged_template_expression, template_literal, template_element, Label, Op, Span, Slots, end, hole, tree, Tree}
use Rattle.js_tree.specs.Covering.{placed}
use Rattle.js_core.proofs.Lists.{first_empty}
use Rattle.js_core.proofs.laws_shared.Verdicts.{ending}
use Rattle.js_parser.specs.AttributeKeys.{told_of_keys, keys_in}
use Rattle.js_parser.specs.Broken.{past, within, broken_rule, told_rule, told_here, told_in, name_fault, told_fault}
use Rattle.js_parser.proofs.AttributeKeys.{keys_named, keys_right, none_told_again}
use Rattle.js_parser.proofs.MemberNames.{names_right, right_if_none, none_if_right}
use Rattle.js_grammar.proofs.EachNode.{each_so}
use Rattle.js_core.specs.EarlyErrors.{MeetsEarlyRules}
use Rattle.js_parser.specs.FlagScans.{has_both}
use Rattle.js_parser.specs.declared.early.Position.{Position}
use Rattle.js_parser.specs.declared.early.Position.TheVariants.{Anywhere, Tag, Tagged, InTemplate}

abbrev place_of : Position → Place
place_of Anywhere = anywhere
place_of Tag = tag
place_of Tagged = tagged
place_of InTemplate = anywhere

-- what is asked of the slots there, beside what is asked of each template within
abbrev in_template : Position → Bool
in_template InTemplate = true
in_template _ = false

abbrev asked : List ℕ → Position → Slots → Bool
asked text p us = not (in_template p) || parts_cooked text us

record Meets (text : List ℕ) (p : Position) (us : Slots) : Type 0 where
  flags : everywhere (not_u_and_v text) us ≡ true
  names : everywhere (names_right text) us ≡ true
  cooked : cooked_at text (place_of p) us ≡ true
  parts : asked text p us ≡ true
  keys : everywhere (attribute_keys_differ text) us ≡ true

abbrev labelled : NodeKind → Op → ℕ → Span → Label
labelled k o n s = record { kind = k; op = o; flags = n; span = s }

-- the rule on templates at a node
at_node : (text : List ℕ) (p : Position) (k : NodeKind) (o : Op) (n : ℕ) (s : Span) (cs us : Slots) → cooked_at text (place_of p) (tree (labelled k o n s) cs us) ≡ (asked text (within p k) cs && (cooked_at text (place_of (within p k)) cs && cooked_at text (place_of (past p)) us))
at_node text Anywhere tagged_template_expression o n s cs us = refl
at_node text Tag tagged_template_expression o n s cs us = refl
at_node text Tagged tagged_template_expression o n s cs us = refl
at_node text InTemplate tagged_template_expression o n s cs us = refl
at_node text Anywhere template_literal o n s cs us = refl
at_node text Tag template_literal o n s cs us = refl
at_node text Tagged template_literal o n s cs us = refl
at_node text InTemplate template_literal o n s cs us = refl
at_node text Anywhere k o n s cs us = refl
at_node text Tag k o n s cs us = refl
at_node text Tagged k o n s cs us = refl
at_node text InTemplate k o n s cs us = refl

none_or : (b : Bool) (k : DiagnosticKind) (s : PlacedSpan) → told_rule (cond b (Some k) None) s ≡ [] → not b ≡ true
none_or true k s e = absurd (let z = e in cc)
none_or false k s e = refl

or_none : (b : Bool) (k : DiagnosticKind) (s : PlacedSpan) → not b ≡ true → told_rule (cond b (Some k) None) s ≡ []
or_none true k s e = absurd (false≢true e)
or_none false k s e = refl

some_or : (b : Bool) (k : DiagnosticKind) (s : PlacedSpan) → told_rule (cond b None (Some k)) s ≡ [] → b ≡ true
some_or true k s e = refl
some_or false k s e = absurd (let z = e in cc)

or_some : (b : Bool) (k : DiagnosticKind) (s : PlacedSpan) → b ≡ true → told_rule (cond b None (Some k)) s ≡ []
or_some true k s e = refl
or_some false k s e = absurd (false≢true e)

-- what is told of a node by its text
abbrev own : List ℕ → Position → Label → List Diagnostic
own text p l = told_rule (broken_rule p l.kind (characters_at text l)) (placed l.span)

flags_right : (text : List ℕ) (p : Position) (k : NodeKind) (o : Op) (n : ℕ) (s : Span) (cs : Slots) → own text p (labelled k o n s) ≡ [] → not_u_and_v text (labelled k o n s) cs ≡ true
flags_right text p reg_exp_literal o n s cs e = none_or (has_both (characters_at text (labelled reg_exp_literal o n s))) RegExpFlagUAndV (placed s) e
flags_right text p k o n s cs e = refl

part_right : (text : List ℕ) (p : Position) (k : NodeKind) (o : Op) (n : ℕ) (s : Span) (cs us : Slots) → own text p (labelled k o n s) ≡ [] → asked text p us ≡ true → asked text p (tree (labelled k o n s) cs us) ≡ true
part_right text InTemplate template_element o n s cs us e a = and_from _ _ (some_or (is_some (cooked (characters_at text (labelled template_element o n s)))) TemplateLiteral (placed s) e) a
part_right text InTemplate k o n s cs us e a = a
part_right text p k o n s cs us e a = refl

none_own : (text : List ℕ) (p : Position) (k : NodeKind) (o : Op) (n : ℕ) (s : Span) (cs us : Slots) → not_u_and_v text (labelled k o n s) cs ≡ true → asked text p (tree (labelled k o n s) cs us) ≡ true → own text p (labelled k o n s) ≡ []
none_own text p reg_exp_literal o n s cs us f a = or_none (has_both (characters_at text (labelled reg_exp_literal o n s))) RegExpFlagUAndV (placed s) f
none_own text InTemplate template_element o n s cs us f a = or_some (is_some (cooked (characters_at text (labelled template_element o n s)))) TemplateLiteral (placed s) (and_parts _ _ a).0
none_own text p k o n s cs us f a = refl

asked_behind : (text : List ℕ) (p : Position) (l : Label) (cs us : Slots) → asked text p (tree l cs us) ≡ true → asked text (past p) us ≡ true
asked_behind text InTemplate l cs us a = (and_parts _ _ a).1
asked_behind text p l cs us a = refl

asked_past : (text : List ℕ) (p : Position) (us : Slots) → asked text (past p) us ≡ true → asked text p us ≡ true
asked_past text InTemplate us a = a
asked_past text p us a = refl

none_asked : (text : List ℕ) (p : Position) → asked text p end ≡ true
none_asked text InTemplate = refl
none_asked text p = refl

-- what is told of it by its name and its keys
abbrev named_here : List ℕ → Label → Slots → List Diagnostic
named_here text l cs = told_fault (name_fault text l cs) ++ told_of_keys text l.kind (keys_in cs)

-- ---- both ways

meets : (text : List ℕ) (p : Position) (us : Slots) → everywhere keys_named us ≡ true → told_in text p us ≡ [] → Meets text p us
meets text p end k e = record { flags = refl; names = refl; cooked = refl; parts = none_asked text p; keys = refl }
meets text p (hole us) k e = let x = meets text p us k e in record { flags = x.flags; names = x.names; cooked = x.cooked; parts = x.parts; keys = x.keys }
meets text p (tree l cs us) k e =
    let first = told_here text p l cs in
    let inner = told_in text (within p l.kind) cs in
    let behind = told_in text (past p) us in
    let others = ending first (inner ++ behind) e in
    let here = first_empty first (inner ++ behind) e in
    let none = first_empty (own text p l) (named_here text l cs) here in
    let named = ending (own text p l) (named_here text l cs) here in
    let right = right_if_none text l cs (first_empty (told_fault (name_fault text l cs)) (told_of_keys text l.kind (keys_in cs)) named) in
    let k0 = and_parts (keys_named l cs) _ k in
    let k1 = and_parts (everywhere keys_named cs) _ k0.1 in
    let apart = keys_right text l.kind l.op l.flags l.span cs k0.0 (ending (told_fault (name_fault text l cs)) (told_of_keys text l.kind (keys_in cs)) named) in
    let x = meets text (within p l.kind) cs k1.0 (first_empty inner behind others) in
    let y = meets text (past p) us k1.1 (ending inner behind others) in
    record {
      flags = and_from _ _ (flags_right text p l.kind l.op l.flags l.span cs none) (and_from _ _ x.flags y.flags);
      names = and_from _ _ right (and_from _ _ x.names y.names);
      cooked = at_node text p l.kind l.op l.flags l.span cs us ∙ and_from _ _ x.parts (and_from _ _ x.cooked y.cooked);
      parts = part_right text p l.kind l.op l.flags l.span cs us none (asked_past text p us y.parts);
      keys = and_from _ _ apart (and_from _ _ x.keys y.keys);
    }

nothing : (text : List ℕ) (p : Position) (us : Slots) → Meets text p us → told_in text p us ≡ []
nothing text p end m = refl
nothing text p (hole us) m = nothing text p us (record { flags = m.flags; names = m.names; cooked = m.cooked; parts = m.parts; keys = m.keys })
nothing text p (tree l cs us) m =
    let f = and_parts (not_u_and_v text l cs) _ m.flags in
    let g = and_parts (everywhere (not_u_and_v text) cs) _ f.1 in
    let v = and_parts (names_right text l cs) _ m.names in
    let w = and_parts (everywhere (names_right text) cs) _ v.1 in
    let c = and_parts (asked text (within p l.kind) cs) _ (sym (at_node text p l.kind l.op l.flags l.span cs us) ∙ m.cooked) in
    let d = and_parts (cooked_at text (place_of (within p l.kind)) cs) _ c.1 in
    let k = and_parts (attribute_keys_differ text l cs) _ m.keys in
    let j = and_parts (everywhere (attribute_keys_differ text) cs) _ k.1 in
    let none = none_own text p l.kind l.op l.flags l.span cs us f.0 m.parts in
    let unnamed = none_if_right text l cs v.0 in
    let apart = none_told_again text l.kind l.op l.flags l.span cs k.0 in
    let x = nothing text (within p l.kind) cs (record { flags = g.0; names = w.0; cooked = d.0; parts = c.0; keys = j.0 }) in
    let y = nothing text (past p) us (record { flags = g.1; names = w.1; cooked = d.1; parts = asked_behind text p l cs us m.parts; keys = j.1 }) in
    λ i. (none i ++ (unnamed i ++ apart i)) ++ (x i ++ y i)

-- two rules are one
both_each : (q r : Rule) (us : Slots) → everywhere q us ≡ true → everywhere r us ≡ true → everywhere (λ l cs. q l cs && r l cs) us ≡ true
both_each q r end a b = refl
both_each q r (hole us) a b = both_each q r us a b
both_each q r (tree l cs us) a b =
    let c = and_parts (q l cs) _ a in
    let d = and_parts (everywhere q cs) _ c.1 in
    let e = and_parts (r l cs) _ b in
    let f = and_parts (everywhere r cs) _ e.1 in
    and_from _ _ (and_from _ _ c.0 e.0) (and_from _ _ (both_each q r cs d.0 f.0) (both_each q r us d.1 f.1))

pub none_broken : (text : List ℕ) (t : Tree) → everywhere keys_named (tree t.label t.slots end) ≡ true → told_in text Anywhere (tree t.label t.slots end) ≡ [] → MeetsEarlyRules text t
none_broken text t k e =
    let us = tree t.label t.slots end in
    let x = meets text Anywhere us k e in
    record {
      not_u_and_v = x.flags;
      cooked = x.cooked;
      attribute_keys_differ = x.keys;
      no_private_constructor = each_so (names_right text) (no_private_constructor text) (λ l cs r. (and_parts (no_private_constructor text l cs) _ r).0) us x.names;
      no_static_prototype = each_so (names_right text) (no_static_prototype text) (λ l cs r. (and_parts (no_static_prototype text l cs) _ (and_parts (no_private_constructor text l cs) _ r).1).0) us x.names;
      no_field_constructor = each_so (names_right text) (no_field_constructor text) (λ l cs r. (and_parts (no_field_constructor text l cs) _ (and_parts (no_static_prototype text l cs) _ (and_parts (no_private_constructor text l cs) _ r).1).1).0) us x.names;
      plain_constructor = each_so (names_right text) (plain_constructor text) (λ l cs r. (and_parts (no_field_constructor text l cs) _ (and_parts (no_static_prototype text l cs) _ (and_parts (no_private_constructor text l cs) _ r).1).1).1) us x.names;
    }

pub nothing_told : (text : List ℕ) (t : Tree) → MeetsEarlyRules text t → told_in text Anywhere (tree t.label t.slots end) ≡ []
nothing_told text t m =
    let us = tree t.label t.slots end in
    let a : Rule = λ l cs. no_field_constructor text l cs && plain_constructor text l cs in
    let b : Rule = λ l cs. no_static_prototype text l cs && a l cs in
    nothing text Anywhere us (record {
      flags = m.not_u_and_v;
      names = both_each (no_private_constructor text) b us m.no_private_constructor (both_each (no_static_prototype text) a us m.no_static_prototype (both_each (no_field_constructor text) (plain_constructor text) us m.no_field_constructor m.plain_constructor));
      cooked = m.cooked;
      parts = refl;
      keys = m.attribute_keys_differ;
    })
