-- No early error is in a tree that the core grammar derives, none of its nodes adds to the record of a module, and none is marked as pure.
use Rattle.std.proofs.Common.{ℕ, ◌≡◌, ◌+◌, ◌/◌, ◌%◌, ◌-◌, Bool, true, false, not, cond, ◌&&◌, List, [], refl, sym, subst, ap, ◌∙◌, rules, arith, nat_eq}
use Rattle.std.proofs.lemmas.Bool.{false≢true, and_parts, and_from, not-true}
use Rattle.js_grammar.specs.Trees.{NodeKind, switch_statement, try_statement, reg_exp_literal, template_literal, with_clause, method_definition, property_definition, accessor_property, import_declaration, export_all_declaration, export_from_declaration, export_named_declaration, export_declaration, export_default_declaration, import_expression, import_meta, function_expression, arrow_function_expression, Op, Span, Label, Slots, end, hole, tree, Tree}
use Rattle.js_grammar.specs.Grammar.{Lexemes, ahead, seq, alt, when, many, commas, such, marked, node, ended, keep, label_of, Takes, Derives, is_nothing, is_lexeme, is_look, is_text, is_ahead, is_empty_slot, is_seq, is_left, is_right, is_when, is_many, is_commas, is_such, is_marked, is_node, is_ended, is_keep, is_kept}
use Rattle.js_grammar.specs.Productions.{Flags, Name, Symbol, G, Property, Element, Program, pure_flag, has_flag, with_pife}
use Rattle.js_grammar.specs.Table.{rule_of}
use Rattle.js_grammar.specs.CoreGrammar.{core_of, core_rule}
use Rattle.js_grammar.specs.EarlyRules.{Rule, everywhere, one_default, catch_or_finally, not_u_and_v, Place, cooked_at, attribute_keys_differ, no_private_constructor, no_field_constructor, no_static_prototype, plain_constructor, EarlyOk, anywhere}
use Rattle.js_grammar.specs.Modules.{adds, record_errors}
use Rattle.js_grammar.specs.TreeForms.{with_labels, not_pure, without_pure}
use Rattle.js_grammar.proofs.CoreParameters.{is_member}
use Rattle.js_grammar.proofs.EachNode.{append_each, tree_each, root_each, each_so, no_record_errors, without_marks}

-- kinds of which some rule says something
abbrev told : NodeKind → Bool
told switch_statement = true
told try_statement = true
told reg_exp_literal = true
told template_literal = true
told with_clause = true
told method_definition = true
told property_definition = true
told accessor_property = true
told import_declaration = true
told export_all_declaration = true
told export_from_declaration = true
told export_named_declaration = true
told export_declaration = true
told export_default_declaration = true
told import_expression = true
told import_meta = true
told _ = false

-- a node of another kind, without the mark
abbrev plain : NodeKind → ℕ → Bool
plain k n = not (told k) && not (has_flag pure_flag n)

abbrev plain_label : Rule
plain_label l cs = plain l.kind l.flags

abbrev Plain : G → Type 0
Plain (ahead a) = Plain a
Plain (seq a b) = Plain a × Plain b
Plain (alt a b) = Plain a × Plain b
Plain (when c a) = Plain a
Plain (many a) = Plain a
Plain (commas b a) = Plain a
Plain (such n c) = is_member n.name ≡ false
Plain (marked h n) = (is_member n.name ≡ false) × (h ≡ with_pife)
Plain (node m a) = (plain m.kind m.flags ≡ true) × Plain a
Plain (ended r a) = Plain a
Plain (keep a b) = Plain a × Plain b
Plain g = Unit {0}

-- computed for each nonterminal
plain_at : (n : Name) → is_member n ≡ false → (f : Flags) → Plain (core_of n f)
unfolding rule_of core_of
plain_at Property e f = absurd (false≢true (sym e))
plain_at Element e f = absurd (false≢true (sym e))
plain_at Program e f = search rules
plain_at n e f = search rules

plain_line : (n : Symbol) → is_member n.name ≡ false → Plain (core_rule n)
unfolding core_rule
plain_line n e = plain_at n.name e n.flags

-- a mark on functions in parentheses is another one
pub pife_apart : (n : ℕ) → has_flag pure_flag (n + 8192) ≡ has_flag pure_flag n
pife_apart n = ap (λ (m : ℕ). nat_eq m 1) (let k : (n + 8192) / 4096 % 2 ≡ n / 4096 % 2 = omega arith in k)

pife_plain : (k : NodeKind) (o : Op) (n : ℕ) (s : Span) → plain k n ≡ true → (plain (with_pife (record { kind = k; op = o; flags = n; span = s })).kind (with_pife (record { kind = k; op = o; flags = n; span = s })).flags) ≡ true
pife_plain function_expression o n s h = subst (λ (b : Bool). not b ≡ true) (sym (pife_apart n)) h
pife_plain arrow_function_expression o n s h = subst (λ (b : Bool). not b ≡ true) (sym (pife_apart n)) h
pife_plain k o n s h = h

taken_plain : {g : G} {ks ts us : Slots} {i j : ℕ} {ls rest : Lexemes} → Takes core_rule g ks ts i ls us j rest → Plain g → everywhere plain_label ks ≡ true → everywhere plain_label us ≡ true → everywhere plain_label ts ≡ true
taken_plain is_nothing p k u = u
taken_plain (is_lexeme c) p k u = u
taken_plain (is_look c) p k u = u
taken_plain (is_text c) p k u = u
taken_plain (is_ahead d) p k u = taken_plain d p k u
taken_plain is_empty_slot p k u = u
taken_plain (is_seq x y) p k u = taken_plain x p.0 k (taken_plain y p.1 k u)
taken_plain (is_left x) p k u = taken_plain x p.0 k u
taken_plain (is_right x) p k u = taken_plain x p.1 k u
taken_plain (is_when c x) p k u = taken_plain x p k u
taken_plain (is_many x) p k u = taken_plain x ((p, p), tt) k u
taken_plain (is_commas {b = true} x) p k u = taken_plain x (p, ((tt, (p, tt)), tt)) k u
taken_plain (is_commas {b = false} x) p k u = taken_plain x (p, ((tt, p), tt)) k u
taken_plain (is_such {n = n} {l = l} {cs = cs} {us = us} x c) p k u = let r = root_each plain_label l cs end (taken_plain x (plain_line n p) refl refl) in tree_each plain_label l cs us r.0 r.1 u
taken_plain (is_marked {h = h} {n = n} {l = l} {cs = cs} {us = us} x) p k u =
    let r = root_each plain_label l cs end (taken_plain x (plain_line n p.0) refl refl) in
    tree_each plain_label (h l) cs us (subst (λ (f : Label → Label). plain_label (f l) cs ≡ true) (sym p.1) (pife_plain l.kind l.op l.flags l.span r.0)) r.1 u
taken_plain (is_node {m = m} {cs = cs} {us = us} {j = j} {ls = ls} {rest = rest} x) p k u = tree_each plain_label (label_of m ls j rest) cs us p.0 (taken_plain x p.1 k refl) u
taken_plain (is_ended {cs = cs} {us = us} q x y) p k u = subst (λ (v : Slots). everywhere plain_label v ≡ true) (sym q) (append_each plain_label cs us (taken_plain x p k refl) (taken_plain y (tt, tt) k u))
taken_plain (is_keep x y) p k u = taken_plain y p.1 (taken_plain x p.0 k refl) u
taken_plain (is_kept {ks = ks} {us = us} q) p k u = subst (λ (v : Slots). everywhere plain_label v ≡ true) (sym q) (append_each plain_label ks us k u)

pub derived_plain : (n : Symbol) (t : Tree) → is_member n.name ≡ false → {i j : ℕ} {ls rest : Lexemes} → Derives core_rule n t i ls j rest → everywhere plain_label (tree t.label t.slots end) ≡ true
derived_plain n t e d = taken_plain d (plain_line n e) refl refl

-- the kinds alone
abbrev spared_label : Rule
spared_label l cs = not (told l.kind)

kinds_spared : (us : Slots) → everywhere plain_label us ≡ true → everywhere spared_label us ≡ true
kinds_spared end h = refl
kinds_spared (hole us) h = kinds_spared us h
kinds_spared (tree l cs us) h = let x = and_parts (plain_label l cs) _ h in let y = and_parts (everywhere plain_label cs) _ x.1 in and_from _ _ (and_parts (not (told l.kind)) _ x.0).0 (and_from _ _ (kinds_spared cs y.0) (kinds_spared us y.1))

marked_spared : (us : Slots) → everywhere spared_label (with_labels not_pure us) ≡ everywhere spared_label us
marked_spared end = refl
marked_spared (hole us) = marked_spared us
marked_spared (tree l cs us) = λ i. not (told l.kind) && (marked_spared cs i && marked_spared us i)

-- A tree of which the core grammar derives what is left without the mark has such kinds of nodes alone.
pub derived_spared : (n : Symbol) (t : Tree) → is_member n.name ≡ false → {i j : ℕ} {ls rest : Lexemes} → Derives core_rule n (without_pure t) i ls j rest → everywhere spared_label (tree t.label t.slots end) ≡ true
derived_spared n t e d = sym (marked_spared (tree t.label t.slots end)) ∙ kinds_spared (with_labels not_pure (tree t.label t.slots end)) (derived_plain n (without_pure t) e d)

-- What holds of each node of such a kind.

abbrev Spares : Rule → Type 0
Spares r = (k : NodeKind) (o : Op) (n : ℕ) (s : Span) (cs : Slots) → told k ≡ false → r (record { kind = k; op = o; flags = n; span = s }) cs ≡ true

all_spared : (r : Rule) → Spares r → (us : Slots) → everywhere spared_label us ≡ true → everywhere r us ≡ true
all_spared r f us h = each_so spared_label r (λ l cs x. f l.kind l.op l.flags l.span cs (not-true (told l.kind) x)) us h

default_spared : Spares one_default
default_spared switch_statement o n s cs h = absurd (false≢true (sym h))
default_spared k o n s cs h = refl

catch_spared : Spares catch_or_finally
catch_spared try_statement o n s cs h = absurd (false≢true (sym h))
catch_spared k o n s cs h = refl

flags_spared : (text : List ℕ) → Spares (not_u_and_v text)
flags_spared text reg_exp_literal o n s cs h = absurd (false≢true (sym h))
flags_spared text k o n s cs h = refl

keys_spared : (text : List ℕ) → Spares (attribute_keys_differ text)
keys_spared text with_clause o n s cs h = absurd (false≢true (sym h))
keys_spared text k o n s cs h = refl

private_spared : (text : List ℕ) → Spares (no_private_constructor text)
private_spared text method_definition o n s cs h = absurd (false≢true (sym h))
private_spared text property_definition o n s cs h = absurd (false≢true (sym h))
private_spared text accessor_property o n s cs h = absurd (false≢true (sym h))
private_spared text k o n s cs h = refl

field_spared : (text : List ℕ) → Spares (no_field_constructor text)
field_spared text property_definition o n s cs h = absurd (false≢true (sym h))
field_spared text accessor_property o n s cs h = absurd (false≢true (sym h))
field_spared text k o n s cs h = refl

static_spared : (text : List ℕ) → Spares (no_static_prototype text)
static_spared text method_definition o n s cs h = absurd (false≢true (sym h))
static_spared text property_definition o n s cs h = absurd (false≢true (sym h))
static_spared text accessor_property o n s cs h = absurd (false≢true (sym h))
static_spared text k o n s cs h = refl

constructor_spared : (text : List ℕ) → Spares (plain_constructor text)
constructor_spared text method_definition o n s cs h = absurd (false≢true (sym h))
constructor_spared text k o n s cs h = refl

-- a node that is no template
no_template : (text : List ℕ) (p : Place) (k : NodeKind) (o : Op) (n : ℕ) (s : Span) (cs us : Slots) → told k ≡ false → ((q : Place) → cooked_at text q cs ≡ true) → ((q : Place) → cooked_at text q us ≡ true) → cooked_at text p (tree (record { kind = k; op = o; flags = n; span = s }) cs us) ≡ true
no_template text p template_literal o n s cs us h f g = absurd (false≢true (sym h))
no_template text Rattle.js_grammar.specs.EarlyRules.anywhere k o n s cs us h f g = and_from _ _ (f _) (g _)
no_template text Rattle.js_grammar.specs.EarlyRules.tag k o n s cs us h f g = and_from _ _ (f _) (g _)
no_template text Rattle.js_grammar.specs.EarlyRules.tagged k o n s cs us h f g = and_from _ _ (f _) (g _)

all_cooked : (text : List ℕ) (us : Slots) → everywhere spared_label us ≡ true → (p : Place) → cooked_at text p us ≡ true
all_cooked text end h p = refl
all_cooked text (hole us) h p = all_cooked text us h p
all_cooked text (tree l cs us) h p =
    let x = and_parts (spared_label l cs) _ h in
    let y = and_parts (everywhere spared_label cs) _ x.1 in
    no_template text p l.kind l.op l.flags l.span cs us (not-true (told l.kind) x.0) (all_cooked text cs y.0) (all_cooked text us y.1)

pub early_spared : (text : List ℕ) (t : Tree) → everywhere spared_label (tree t.label t.slots end) ≡ true → EarlyOk text t
early_spared text t h = let us = tree t.label t.slots end in record {
  one_default = all_spared one_default default_spared us h;
  catch_or_finally = all_spared catch_or_finally catch_spared us h;
  not_u_and_v = all_spared (not_u_and_v text) (flags_spared text) us h;
  templates_cooked = all_cooked text us h anywhere;
  attribute_keys_differ = all_spared (attribute_keys_differ text) (keys_spared text) us h;
  no_private_constructor = all_spared (no_private_constructor text) (private_spared text) us h;
  no_field_constructor = all_spared (no_field_constructor text) (field_spared text) us h;
  no_static_prototype = all_spared (no_static_prototype text) (static_spared text) us h;
  plain_constructor = all_spared (plain_constructor text) (constructor_spared text) us h;
}

-- nothing is added to a record
adds_nothing : (k : NodeKind) → told k ≡ false → adds k ≡ false
adds_nothing k h = search (rules, h)

pub record_spared : (text : List ℕ) (t : Tree) → everywhere spared_label (tree t.label t.slots end) ≡ true → record_errors text t ≡ []
record_spared text t h = no_record_errors spared_label (λ l cs x. adds_nothing l.kind (not-true (told l.kind) x)) text t h

-- no node is marked as pure
mark_plain : (l : Label) (cs : Slots) → plain_label l cs ≡ true → not_pure l ≡ l
mark_plain l cs h = ap (λ (n : ℕ). record l { flags = n }) (ap (λ (b : Bool). cond b (l.flags - pure_flag) l.flags) (not_marked (told l.kind) (has_flag pure_flag l.flags) h))
  where
    not_marked : (a b : Bool) → (not a && not b) ≡ true → b ≡ false
    not_marked true b h = absurd (false≢true h)
    not_marked false true h = absurd (false≢true h)
    not_marked false false h = refl

pub pure_plain : (t : Tree) → everywhere plain_label (tree t.label t.slots end) ≡ true → without_pure t ≡ t
pure_plain t h = without_marks plain_label mark_plain t h
