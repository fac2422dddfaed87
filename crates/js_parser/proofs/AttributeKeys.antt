-- Of a WithClause nothing is told exactly where its keys differ (ECMA-262, 16.2.2.1).
use Rattle.std.proofs.Common.{ℕ, ◌≡◌, Bool, true, false, not, ◌&&◌, cond, List, [], ◌∷◌, ◌++◌, Option, Some, None, refl, sym, ap, ◌∙◌}
use Rattle.std.proofs.lemmas.Bool.{false≢true, not-true, and_parts, and_from}
use Rattle.js_grammar.specs.EarlyRules.{Rule, key_units, same_value, attribute_keys_differ}
use Rattle.js_grammar.specs.Trees.{NodeKind, with_clause, identifier_name, string_literal, Op, no_op, Label, Span, Slots, end, hole, tree}
use Rattle.js_core.proofs.Lists.{first_empty}
use Rattle.js_core.proofs.laws_shared.Verdicts.{ending}
use Rattle.js_parser.specs.AttributeKeys.{value_of, same_before, told_again, told_keys, told_of_keys, keys_in}

-- ---- the rule, of slots

abbrev clause : Label
clause = record { kind = with_clause; op = no_op; flags = 0; span = record { from = 0; to = 0 } }

abbrev pub differ : List ℕ → Slots → Bool
differ text us = attribute_keys_differ text clause us

-- an attribute with a key
abbrev with_key : Label → Slots
with_key k = tree k end end

-- no key in these slots has the value of this one, and they differ
abbrev Apart : List ℕ → Slots → Label → Type 0
Apart text us k = differ text (tree clause (with_key k) us) ≡ true

pub same_none : (v : Option (List ℕ)) → same_value v None ≡ false
same_none None = refl
same_none (Some a) = refl

-- an attribute without a key equals none
keyless : (text : List ℕ) (us : Slots) → differ text us ≡ true → (differ text (tree clause end us) ≡ true) × ((vs : Slots) → differ text (tree clause (hole vs) us) ≡ true)
keyless text end h = (refl, λ vs. refl)
keyless text (hole us) h = keyless text us h
keyless text (tree m ds us) h =
    let i = keyless text us (and_parts _ _ h).1 in
    (and_from _ _ (and_parts _ _ i.0).0 h, λ vs. and_from _ _ (and_parts _ _ (i.1 vs)).0 h)

-- ---- keys that are names or strings

abbrev is_key : NodeKind → Bool
is_key identifier_name = true
is_key string_literal = true
is_key _ = false

abbrev pub named : Slots → Bool
named end = true
named (hole us) = named us
named (tree l (tree k ks vs) us) = is_key k.kind && named us
named (tree l cs us) = named us

-- the keys of each WithClause
abbrev pub keys_named : Rule
keys_named l cs = of_kind l.kind
  where
    of_kind : NodeKind → Bool
    of_kind with_clause = named cs
    of_kind _ = true

abbrev HasValue : List ℕ → Label → Type 0
HasValue text k = value_of text k.kind k ≡ key_units text k

has_value : (text : List ℕ) (k : NodeKind) (l : Label) → is_key k ≡ true → value_of text k l ≡ key_units text l
has_value text identifier_name l h = refl
has_value text string_literal l h = refl
has_value text k l h = absurd (false≢true h)

-- keys with other values are told apart
told_apart : (text : List ℕ) (j k : NodeKind) (b c : Label) → same_value (key_units text b) (key_units text c) ≡ false → same_value (value_of text j b) (value_of text k c) ≡ false
told_apart text identifier_name identifier_name b c e = e
told_apart text identifier_name string_literal b c e = e
told_apart text identifier_name k b c e = same_none (key_units text b)
told_apart text string_literal identifier_name b c e = e
told_apart text string_literal string_literal b c e = e
told_apart text string_literal k b c e = same_none (key_units text b)
told_apart text j k b c e = refl

-- ---- the keys before

abbrev Each : (Label → Type 0) → List Label → Type 0
Each P [] = Unit {0}
Each P (k ∷ ks) = P k × Each P ks

each_to : {P Q : Label → Type 0} (ks : List Label) → ((k : Label) → P k → Q k) → Each P ks → Each Q ks
each_to [] f h = tt
each_to (k ∷ ks) f h = (f k h.0, each_to ks f h.1)

each_both : {P Q R : Label → Type 0} (ks : List Label) → ((k : Label) → P k → Q k → R k) → Each P ks → Each Q ks → Each R ks
each_both [] f h i = tt
each_both (k ∷ ks) f h i = (f k h.0 i.0, each_both ks f h.1 i.1)

abbrev Other : List ℕ → Label → Label → Type 0
Other text k b = same_value (value_of text b.kind b) (value_of text k.kind k) ≡ false

-- none before is the same exactly where each is another
none_same : (text : List ℕ) (before : List Label) (k : Label) → Each (Other text k) before → same_before text before k ≡ None
none_same text [] k h = refl
none_same text (b ∷ before) k h = ap (λ (t : Bool). cond t (Some b) (same_before text before k)) h.0 ∙ none_same text before k h.1

not_found : (t : Bool) (b : Label) (o : Option Label) → cond t (Some b) o ≡ None → (t ≡ false) × (o ≡ None)
not_found true b o e = absurd (cc)
not_found false b o e = (refl, e)

others : (text : List ℕ) (before : List Label) (k : Label) → same_before text before k ≡ None → Each (Other text k) before
others text [] k e = tt
others text (b ∷ before) k e = let p = not_found (same_value (value_of text b.kind b) (value_of text k.kind k)) b (same_before text before k) e in (p.0, others text before k p.1)

untold : (k : Label) (o : Option Label) → told_again k o ≡ [] → o ≡ None
untold k None e = refl
untold k (Some b) e = absurd (cc)

-- ---- both ways

-- what the rule asks of slots behind an attribute
abbrev value_in : List ℕ → Slots → Option (List ℕ)
value_in text (tree k ks us) = key_units text k
value_in text _ = None

abbrev none_has : List ℕ → Option (List ℕ) → Slots → Bool
none_has text v end = true
none_has text v (hole us) = none_has text v us
none_has text v (tree l cs us) = not (same_value v (value_in text cs)) && none_has text v us

both_parts : (s n v d : Bool) → ((s && n) && (v && d)) ≡ true → (s ≡ true) × ((n && d) ≡ true)
both_parts true n true d h = (refl, h)
both_parts true true false d h = absurd (false≢true h)
both_parts true false false d h = absurd (false≢true h)
both_parts false n v d h = absurd (false≢true h)

parts : (text : List ℕ) (m : Label) (ds us : Slots) (b : Label) → Apart text (tree m ds us) b → (not (same_value (key_units text b) (value_in text ds)) ≡ true) × Apart text us b
parts text m ds us b h = both_parts (not (same_value (key_units text b) (value_in text ds))) (none_has text (key_units text b) us) (none_has text (value_in text ds) us) (differ text us) h

-- of two attributes and others: each two of the three
three_parts : (s n v d : Bool) → ((s && n) && (v && d)) ≡ true → (((s && true) && true) ≡ true) × ((n && d) ≡ true) × ((v && d) ≡ true)
three_parts true true true true h = (refl, refl, refl)
three_parts true true true false h = absurd (false≢true h)
three_parts true true false d h = absurd (false≢true h)
three_parts true false v d h = absurd (false≢true h)
three_parts false n v d h = absurd (false≢true h)

from_three : (s n v d : Bool) → ((s && true) && true) ≡ true → (n && d) ≡ true → (v && d) ≡ true → ((s && n) && (v && d)) ≡ true
from_three true true v d a b c = c
from_three true false v d a b c = absurd (false≢true b)
from_three false n v d a b c = absurd (false≢true a)

module _ (text : List ℕ) (l m : Label) (ds es us : Slots) where
  pub each_two : differ text (tree l ds (tree m es us)) ≡ true → (differ text (tree l ds (tree m es end)) ≡ true) × (differ text (tree l ds us) ≡ true) × (differ text (tree m es us) ≡ true)
  each_two h = three_parts (not (same_value (value_in text ds) (value_in text es))) (none_has text (value_in text ds) us) (none_has text (value_in text es) us) (differ text us) h

  pub from_each_two : differ text (tree l ds (tree m es end)) ≡ true → differ text (tree l ds us) ≡ true → differ text (tree m es us) ≡ true → differ text (tree l ds (tree m es us)) ≡ true
  from_each_two a b c = from_three (not (same_value (value_in text ds) (value_in text es))) (none_has text (value_in text ds) us) (none_has text (value_in text es) us) (differ text us) a b c

-- nothing is told where the keys differ from each other and from those before
nothing_again : (text : List ℕ) (before : List Label) (us : Slots) → Each (Apart text us) before → differ text us ≡ true → told_keys text before (keys_in us) ≡ []
nothing_again text before end a d = refl
nothing_again text before (hole us) a d = nothing_again text before us a d
nothing_again text before (tree m end us) a d = nothing_again text before us (each_to before (λ b h. (parts text m end us b h).1) a) (and_parts _ _ d).1
nothing_again text before (tree m (hole vs) us) a d = nothing_again text before us (each_to before (λ b h. (parts text m (hole vs) us b h).1) a) (and_parts _ _ d).1
nothing_again text before (tree m (tree k ks vs) us) a d =
    let none = none_same text before k (each_to before (λ b h. told_apart text b.kind k.kind b k (not-true (same_value (key_units text b) (key_units text k)) (parts text m (tree k ks vs) us b h).0)) a) in
    let behind = nothing_again text (k ∷ before) us (d, each_to before (λ b h. (parts text m (tree k ks vs) us b h).1) a) (and_parts _ _ d).1 in
    λ i. told_again k (none i) ++ behind i

-- and the other way round
record Differ (text : List ℕ) (before : List Label) (us : Slots) : Type 0 where
  own : differ text us ≡ true
  apart : Each (λ b. HasValue text b → Apart text us b) before

all_apart : (text : List ℕ) (before : List Label) → Each (λ b. HasValue text b → Apart text end b) before
all_apart text [] = tt
all_apart text (b ∷ before) = (λ h. refl, all_apart text before)

past_keyless : (text : List ℕ) (us : Slots) (b : Label) → differ text (tree clause end us) ≡ true → Apart text us b → (differ text (tree clause (with_key b) (tree clause end us)) ≡ true) × ((vs : Slots) → differ text (tree clause (with_key b) (tree clause (hole vs) us)) ≡ true)
past_keyless text us b d h =
    let p = (and_parts _ _ h).0 in
    let n = ap not (same_none (key_units text b)) in
    (and_from _ _ (and_from _ _ n p) d, λ vs. and_from _ _ (and_from _ _ n p) d)

again_differ : (text : List ℕ) (before : List Label) (us : Slots) → named us ≡ true → told_keys text before (keys_in us) ≡ [] → Differ text before us
again_differ text before end n e = record { own = refl; apart = all_apart text before }
again_differ text before (hole us) n e = let x = again_differ text before us n e in record { own = x.own; apart = x.apart }
again_differ text before (tree m end us) n e =
    let x = again_differ text before us n e in
    let d = (keyless text us x.own).0 in
    record { own = d; apart = each_to before (λ b f h. (past_keyless text us b d (f h)).0) x.apart }
again_differ text before (tree m (hole vs) us) n e =
    let x = again_differ text before us n e in
    let d = (keyless text us x.own).0 in
    record { own = d; apart = each_to before (λ b f h. (past_keyless text us b d (f h)).1 vs) x.apart }
again_differ text before (tree m (tree k ks vs) us) n e =
    let first = told_again k (same_before text before k) in
    let rest = told_keys text (k ∷ before) (keys_in us) in
    let p = and_parts (is_key k.kind) (named us) n in
    let x = again_differ text (k ∷ before) us p.1 (ending first rest e) in
    let value = has_value text k.kind k p.0 in
    let d : Apart text us k = x.apart.0 value in
    let o = others text before k (untold k (same_before text before k) (first_empty first rest e)) in
    record {
      own = d;
      apart = each_both before (λ b g f h. and_from _ _ (and_from _ _ (ap not ((λ i. same_value (sym h i) (sym value i)) ∙ g)) (and_parts _ _ (f h)).0) d) o x.apart.1;
    }

-- ---- of a node

abbrev labelled : NodeKind → Op → ℕ → Span → Label
labelled k o n s = record { kind = k; op = o; flags = n; span = s }

pub keys_right : (text : List ℕ) (k : NodeKind) (o : Op) (n : ℕ) (s : Span) (cs : Slots) → keys_named (labelled k o n s) cs ≡ true → told_of_keys text k (keys_in cs) ≡ [] → attribute_keys_differ text (labelled k o n s) cs ≡ true
keys_right text with_clause o n s cs a h = (again_differ text [] cs a h).own
keys_right text k o n s cs a h = refl

pub none_told_again : (text : List ℕ) (k : NodeKind) (o : Op) (n : ℕ) (s : Span) (cs : Slots) → attribute_keys_differ text (labelled k o n s) cs ≡ true → told_of_keys text k (keys_in cs) ≡ []
none_told_again text with_clause o n s cs h = nothing_again text [] cs tt h
none_told_again text k o n s cs h = refl
