-- The trees that the productions that are built derive: which early errors they can't have, that they export nothing, and that none of their nodes is marked as pure.
use Rattle.std.proofs.Common.{ℕ, ◌≡◌, ◌+◌, ◌/◌, ◌%◌, ◌-◌, Bool, true, false, not, cond, ◌&&◌, ◌||◌, List, [], ◌++◌, refl, sym, subst, ap, ◌∙◌, rules, IsTrue, arith, eqb-true}
use Rattle.std.specs.Prelude.{codes, nat_eq}
use Rattle.std.proofs.lemmas.Bool.{false≢true, not-true, and_parts, and_from}
use Rattle.js_grammar.specs.Trees.{NodeKind, switch_statement, switch_case, try_statement, template_literal, with_clause, export_all_declaration, export_from_declaration, export_named_declaration, export_declaration, export_default_declaration, function_expression, arrow_function_expression, Op, no_op, Label, Span, Slots, end, hole, tree, Tree, append, identifier_name, private_identifier, string_literal, method_op, constructor_op}
use Rattle.js_grammar.specs.Grammar.{Make, Lexemes, ◌▸◌, ◌◇◌, empty_slot, ahead, seq, alt, when, many, commas, such, marked, node, ended, keep, label_of, Takes, Derives, is_nothing, is_lexeme, is_look, is_text, is_ahead, is_empty_slot, is_seq, is_left, is_right, is_when, is_many, is_commas, is_such, is_marked, is_node, is_ended, is_keep, is_kept}
use Rattle.js_grammar.specs.Productions.{Flags, Name, Symbol, G, at, tok, opt, mk, parens, braces, slot, Program, Case, Switch, Try, Expression, Block, Catch, ListItem, Attrs, Attr, ExportDecl, pure_flag, has_flag, with_pife, async_flag, computed_flag, generator_flag, static_flag, without_flag}
use Rattle.js_grammar.specs.Productions.{sym as symbol}
use Rattle.js_base.specs.declared.kind.Kind.TheVariants.{Colon}
use Rattle.js_grammar.specs.Words.{'default', 'finally', 'switch', 'try'}
use Rattle.js_grammar.specs.Table.{rule, rule_of}
use Rattle.js_grammar.specs.EarlyRules.{Rule, everywhere, one_default, catch_or_finally, not_u_and_v, Place, anywhere, tag, tagged, cooked_at, templates_cooked, attribute_keys_differ, no_private_constructor, no_field_constructor, no_static_prototype, plain_constructor, EarlyOk, MeetsEarlyRules, is_named, has_name, is_member, is_field, is_private_constructor, has_private_constructor, is_special, is_method}
use Rattle.js_grammar.specs.ExportedNames.{exported_by, exported_in, exports_differ, no_two}
use Rattle.js_grammar.proofs.CoverInitialisers.{line_marked}
use Rattle.js_grammar.proofs.Renamed.{remarked, first_of, second_of, mark_of}
use Rattle.js_grammar.proofs.CoreTrees.{pife_apart}
use Rattle.js_grammar.proofs.EachNode.{append_each, tree_each, root_each, each_so, without_marks}
use Rattle.js_parser.proofs.AttributeKeys.{named, keys_named, differ, each_two, from_each_two}
use Rattle.js_grammar.specs.TreeForms.{with_labels, not_pure, without_pure}

-- nonterminals that no production that is built leads to
abbrev pub far : Name → Bool
far ExportDecl = true
far _ = false

-- kinds of nodes that only those make
abbrev absent : NodeKind → Bool
absent export_all_declaration = true
absent export_from_declaration = true
absent export_named_declaration = true
absent export_declaration = true
absent export_default_declaration = true
absent _ = false

-- kinds of which a rule looks at the slots
abbrev shaped : NodeKind → Bool
shaped switch_statement = true
shaped try_statement = true
shaped with_clause = true
shaped _ = false

-- a node of another kind than the absent ones, without the mark
abbrev plain : NodeKind → ℕ → Bool
plain k n = not (absent k) && not (has_flag pure_flag n)

abbrev pub fine_label : Rule
fine_label l cs = plain l.kind l.flags && (one_default l cs && (catch_or_finally l cs && keys_named l cs))

-- ---- the roots of what is derived: only Case has a SwitchCase there

abbrev is_case : Name → Bool
is_case Case = true
is_case _ = false

abbrev is_switch_case : NodeKind → Bool
is_switch_case switch_case = true
is_switch_case _ = false

abbrev no_case : Slots → Bool
no_case end = true
no_case (hole us) = no_case us
no_case (tree l cs us) = not (is_switch_case l.kind) && no_case us

abbrev Rooted : G → Type 0
Rooted (ahead a) = Rooted a
Rooted (seq a b) = Rooted a × Rooted b
Rooted (alt a b) = Rooted a × Rooted b
Rooted (when c a) = Rooted a
Rooted (many a) = Rooted a
Rooted (commas b a) = Rooted a
Rooted (such n c) = is_case n.name ≡ false
Rooted (marked h n) = (is_case n.name ≡ false) × (h ≡ with_pife)
Rooted (node m a) = is_switch_case m.kind ≡ false
Rooted (ended r a) = Rooted a
Rooted (keep a b) = Rooted a × Rooted b
Rooted g = Unit {0}

abbrev rooted : G → Bool
rooted (ahead a) = rooted a
rooted (seq a b) = rooted a && rooted b
rooted (alt a b) = rooted a && rooted b
rooted (when c a) = rooted a
rooted (many a) = rooted a
rooted (commas b a) = rooted a
rooted (such n c) = not (is_case n.name)
rooted (marked h n) = not (is_case n.name)
rooted (node m a) = not (is_switch_case m.kind)
rooted (ended r a) = rooted a
rooted (keep a b) = rooted a && rooted b
rooted g = true

is_rooted : (g : G) → remarked with_pife g ≡ g → rooted g ≡ true → Rooted g
is_rooted (ahead a) e h = is_rooted a (ap first_of e) h
is_rooted (seq a b) e h = let q = and_parts (rooted a) _ h in (is_rooted a (ap first_of e) q.0, is_rooted b (ap second_of e) q.1)
is_rooted (alt a b) e h = let q = and_parts (rooted a) _ h in (is_rooted a (ap first_of e) q.0, is_rooted b (ap second_of e) q.1)
is_rooted (when c a) e h = is_rooted a (ap first_of e) h
is_rooted (many a) e h = is_rooted a (ap first_of e) h
is_rooted (commas b a) e h = is_rooted a (ap first_of e) h
is_rooted (such n c) e h = not-true (is_case n.name) h
is_rooted (marked k n) e h = (not-true (is_case n.name) h, sym (ap mark_of e))
is_rooted (node m a) e h = not-true (is_switch_case m.kind) h
is_rooted (ended r a) e h = is_rooted a (ap first_of e) h
is_rooted (keep a b) e h = let q = and_parts (rooted a) _ h in (is_rooted a (ap first_of e) q.0, is_rooted b (ap second_of e) q.1)
is_rooted g e h = tt

-- computed for each nonterminal
line_rooted : (n : Name) (f : Flags) → (is_case n || rooted (rule_of n f)) ≡ true
unfolding rule_of
line_rooted Program f = refl
line_rooted n f = refl

rooted_at : (n : Name) → is_case n ≡ false → (f : Flags) → Rooted (rule_of n f)
rooted_at n e f = is_rooted (rule_of n f) (line_marked n f) (subst (λ (b : Bool). (b || rooted (rule_of n f)) ≡ true) e (line_rooted n f))

rooted_line : (n : Symbol) → is_case n.name ≡ false → Rooted (rule n)
unfolding rule
rooted_line n e = rooted_at n.name e n.flags

append_no_case : (a b : Slots) → no_case a ≡ true → no_case b ≡ true → no_case (append a b) ≡ true
append_no_case end b h k = k
append_no_case (hole a) b h k = append_no_case a b h k
append_no_case (tree l cs a) b h k = let x = and_parts (not (is_switch_case l.kind)) _ h in and_from _ _ x.0 (append_no_case a b x.1 k)

not_so : (b : Bool) → b ≡ false → not b ≡ true
not_so b e = ap not e

pub pife_kind : (l : Label) → (with_pife l).kind ≡ l.kind
pife_kind l = go l.kind l.op l.flags l.span
  where
    go : (k : NodeKind) (o : Op) (n : ℕ) (s : Span) → (with_pife (record { kind = k; op = o; flags = n; span = s })).kind ≡ k
    go function_expression o n s = refl
    go arrow_function_expression o n s = refl
    go k o n s = refl

taken_rooted : {g : G} {ks ts us : Slots} {i j : ℕ} {ls rest : Lexemes} → Takes rule g ks ts i ls us j rest → Rooted g → no_case ks ≡ true → no_case us ≡ true → no_case ts ≡ true
taken_rooted is_nothing p k u = u
taken_rooted (is_lexeme c) p k u = u
taken_rooted (is_look c) p k u = u
taken_rooted (is_text c) p k u = u
taken_rooted (is_ahead d) p k u = taken_rooted d p k u
taken_rooted is_empty_slot p k u = u
taken_rooted (is_seq x y) p k u = taken_rooted x p.0 k (taken_rooted y p.1 k u)
taken_rooted (is_left x) p k u = taken_rooted x p.0 k u
taken_rooted (is_right x) p k u = taken_rooted x p.1 k u
taken_rooted (is_when c x) p k u = taken_rooted x p k u
taken_rooted (is_many x) p k u = taken_rooted x ((p, p), tt) k u
taken_rooted (is_commas {b = true} x) p k u = taken_rooted x (p, ((tt, (p, tt)), tt)) k u
taken_rooted (is_commas {b = false} x) p k u = taken_rooted x (p, ((tt, p), tt)) k u
taken_rooted (is_such {n = n} {l = l} x c) p k u = and_from _ _ (and_parts (not (is_switch_case l.kind)) _ (taken_rooted x (rooted_line n p) refl refl)).0 u
taken_rooted (is_marked {h = h} {n = n} {l = l} x) p k u =
    and_from _ _ (subst (λ (f : Label → Label). not (is_switch_case (f l).kind) ≡ true) (sym p.1) (ap (λ (a : NodeKind). not (is_switch_case a)) (pife_kind l) ∙ (and_parts (not (is_switch_case l.kind)) _ (taken_rooted x (rooted_line n p.0) refl refl)).0)) u
taken_rooted (is_node {m = m} x) p k u = and_from _ _ (not_so (is_switch_case m.kind) p) u
taken_rooted (is_ended {cs = cs} {us = us} q x y) p k u = subst (λ (v : Slots). no_case v ≡ true) (sym q) (append_no_case cs us (taken_rooted x p k refl) (taken_rooted y (tt, tt) k u))
taken_rooted (is_keep x y) p k u = taken_rooted y p.1 (taken_rooted x p.0 k refl) u
taken_rooted (is_kept {ks = ks} {us = us} q) p k u = subst (λ (v : Slots). no_case v ≡ true) (sym q) (append_no_case ks us k u)

-- ---- a switch and a try

abbrev a_label : NodeKind → Label
a_label k = record { kind = k; op = no_op; flags = 0; span = record { from = 0; to = 0 } }

-- slots of a switch that have one default at the most; behind one, none
abbrev one : Slots → Bool
one us = one_default (a_label switch_statement) us

abbrev none : Slots → Bool
none us = one_default (a_label switch_statement) (tree (a_label switch_case) (hole end) us)

-- a node that is no SwitchCase is no default
other_first : (k : NodeKind) (o : Op) (n : ℕ) (s : Span) (cs us : Slots) → is_switch_case k ≡ false → one us ≡ true → one (tree (record { kind = k; op = o; flags = n; span = s }) cs us) ≡ true
other_first switch_case o n s cs us h e = absurd (false≢true (sym h))
other_first k o n s cs us h e = e

-- nor is a Case, which has a test
cases_one : {f : Flags} {ks ts us : Slots} {i j : ℕ} {ls rest : Lexemes} → Takes rule (many (symbol Case f)) ks ts i ls us j rest → one us ≡ true → one ts ≡ true
unfolding rule rule_of
cases_one (is_many (is_left (is_seq (is_such (is_node (is_seq (is_lexeme a) (is_seq (is_such d e) z))) c) y))) h = cases_one y h
cases_one (is_many (is_right is_nothing)) h = h

cases_none : {f : Flags} {ks ts us : Slots} {i j : ℕ} {ls rest : Lexemes} → Takes rule (many (symbol Case f)) ks ts i ls us j rest → none us ≡ true → none ts ≡ true
unfolding rule rule_of
cases_none (is_many (is_left (is_seq (is_such (is_node (is_seq (is_lexeme a) (is_seq (is_such d e) z))) c) y))) h = cases_none y h
cases_none (is_many (is_right is_nothing)) h = h

abbrev clauses : Flags → G
clauses f = many (symbol Case f) ▸ opt (mk switch_case (tok 'default' ▸ empty_slot ▸ tok Colon ▸ many (symbol ListItem f)) ▸ many (symbol Case f))

one_there : {f : Flags} {ks ts : Slots} {i j : ℕ} {ls rest : Lexemes} → Takes rule (clauses f) ks ts i ls end j rest → one ts ≡ true
one_there (is_seq x (is_left (is_seq (is_node (is_seq (is_lexeme c) (is_seq is_empty_slot y))) z))) = cases_one x (cases_none z refl)
one_there (is_seq x (is_right is_nothing)) = cases_one x refl

abbrev switch_slots : Flags → G
switch_slots f = tok 'switch' ▸ parens (symbol Expression f) ▸ braces (clauses f)

switch_shape : {f : Flags} {ks cs : Slots} {i j : ℕ} {ls rest : Lexemes} → Takes rule (switch_slots f) ks cs i ls end j rest → one cs ≡ true
switch_shape {f} (is_seq (is_lexeme a) (is_seq (is_seq (is_lexeme b) (is_seq (is_such {l = l} {cs = cs} {us = us} x c) (is_lexeme d))) (is_seq (is_lexeme e) (is_seq y (is_lexeme g))))) =
    let r = taken_rooted x (rooted_line (at Expression f) refl) refl refl in
    other_first l.kind l.op l.flags l.span cs us (not-true (is_switch_case l.kind) (and_parts (not (is_switch_case l.kind)) _ r).0) (one_there y)

abbrev try_slots : Flags → G
try_slots f = tok 'try' ▸ symbol Block f ▸ (symbol Catch f ▸ slot (tok 'finally' ▸ symbol Block f) ◇ empty_slot ▸ tok 'finally' ▸ symbol Block f)

try_shape : {f : Flags} {ks cs : Slots} {i j : ℕ} {ls rest : Lexemes} → Takes rule (try_slots f) ks cs i ls end j rest → (o : Op) (n : ℕ) (s : Span) → catch_or_finally (record { kind = try_statement; op = o; flags = n; span = s }) cs ≡ true
try_shape (is_seq (is_lexeme a) (is_seq (is_such x c) (is_left (is_seq (is_such y d) z)))) o n s = refl
try_shape (is_seq (is_lexeme a) (is_seq (is_such x c) (is_right (is_seq is_empty_slot (is_seq (is_lexeme b) (is_such y d)))))) o n s = refl

-- ---- a WithClause

-- a key is a name or a string
key_taken : {f : Flags} {ks ts us : Slots} {i j : ℕ} {ls rest : Lexemes} → Takes rule (symbol Attr f) ks ts i ls us j rest → named us ≡ true → named ts ≡ true
unfolding rule rule_of
key_taken (is_such (is_node (is_seq (is_left (is_such (is_node (is_lexeme a)) d)) (is_seq (is_lexeme b) v))) c) h = h
key_taken (is_such (is_node (is_seq (is_right (is_node (is_lexeme a))) (is_seq (is_lexeme b) v))) c) h = h

keys_taken : {f : Flags} {ks ts us : Slots} {i j : ℕ} {ls rest : Lexemes} → Takes rule (commas true (symbol Attr f)) ks ts i ls us j rest → named us ≡ true → named ts ≡ true
keys_taken (is_commas (is_seq x (is_right is_nothing))) h = key_taken x h
keys_taken (is_commas (is_seq x (is_left (is_seq (is_lexeme a) (is_right is_nothing))))) h = key_taken x h
keys_taken (is_commas (is_seq x (is_left (is_seq (is_lexeme a) (is_left y))))) h = key_taken x (keys_taken y h)

abbrev entries : Flags → G
entries f = braces (opt (commas true (symbol Attr f)))

clause_shape : {f : Flags} {ks cs : Slots} {i j : ℕ} {ls rest : Lexemes} → Takes rule (entries f) ks cs i ls end j rest → named cs ≡ true
clause_shape (is_seq (is_lexeme a) (is_seq (is_left x) (is_lexeme b))) = keys_taken x refl
clause_shape (is_seq (is_lexeme a) (is_seq (is_right is_nothing) (is_lexeme b))) = refl

-- ---- all nodes

-- the nonterminals whose node is of such a kind
abbrev is_shaped : Name → Bool
is_shaped Switch = true
is_shaped Try = true
is_shaped Attrs = true
is_shaped _ = false

abbrev Either : Bool → Type 0 → Type 0 → Type 0
Either true A B = A
Either false A B = B

-- whatever slots are taken, the node is fine
abbrev Shape : Make → G → Type 0
Shape m a = (ks cs : Slots) (i j : ℕ) (ls rest : Lexemes) → Takes rule a ks cs i ls end j rest → (s : Span) → fine_label (record { kind = m.kind; op = m.op; flags = m.flags; span = s }) cs ≡ true

abbrev Fine : G → Type 0
Fine (ahead a) = Fine a
Fine (seq a b) = Fine a × Fine b
Fine (alt a b) = Fine a × Fine b
Fine (when c a) = Fine a
Fine (many a) = Fine a
Fine (commas b a) = Fine a
Fine (such n c) = far n.name ≡ false
Fine (marked h n) = (far n.name ≡ false) × (h ≡ with_pife)
Fine (node m a) = Either (shaped m.kind) (Shape m a) (plain m.kind m.flags ≡ true) × Fine a
Fine (ended r a) = Fine a
Fine (keep a b) = Fine a × Fine b
Fine g = Unit {0}

abbrev finely : G → Bool
finely (ahead a) = finely a
finely (seq a b) = finely a && finely b
finely (alt a b) = finely a && finely b
finely (when c a) = finely a
finely (many a) = finely a
finely (commas b a) = finely a
finely (such n c) = not (far n.name)
finely (marked h n) = not (far n.name)
finely (node m a) = not (shaped m.kind) && (plain m.kind m.flags && finely a)
finely (ended r a) = finely a
finely (keep a b) = finely a && finely b
finely g = true

-- a node whose slots no rule looks at
unshaped : (b : Bool) (A B : Type 0) → not b ≡ true → B → Either b A B
unshaped true A B h x = absurd (false≢true h)
unshaped false A B h x = x

is_fine : (g : G) → remarked with_pife g ≡ g → finely g ≡ true → Fine g
is_fine (ahead a) e h = is_fine a (ap first_of e) h
is_fine (seq a b) e h = let q = and_parts (finely a) _ h in (is_fine a (ap first_of e) q.0, is_fine b (ap second_of e) q.1)
is_fine (alt a b) e h = let q = and_parts (finely a) _ h in (is_fine a (ap first_of e) q.0, is_fine b (ap second_of e) q.1)
is_fine (when c a) e h = is_fine a (ap first_of e) h
is_fine (many a) e h = is_fine a (ap first_of e) h
is_fine (commas b a) e h = is_fine a (ap first_of e) h
is_fine (such n c) e h = not-true (far n.name) h
is_fine (marked k n) e h = (not-true (far n.name) h, sym (ap mark_of e))
is_fine (node m a) e h = let q = and_parts (not (shaped m.kind)) _ h in let r = and_parts (plain m.kind m.flags) _ q.1 in (unshaped (shaped m.kind) (Shape m a) _ q.0 r.0, is_fine a (ap first_of e) r.1)
is_fine (ended r a) e h = is_fine a (ap first_of e) h
is_fine (keep a b) e h = let q = and_parts (finely a) _ h in (is_fine a (ap first_of e) q.0, is_fine b (ap second_of e) q.1)
is_fine g e h = tt

-- computed for each nonterminal
line_fine : (n : Name) (f : Flags) → ((far n || is_shaped n) || finely (rule_of n f)) ≡ true
unfolding rule_of
line_fine Program f = refl
line_fine n f = refl

shaped_at : (n : Name) → is_shaped n ≡ true → (f : Flags) → Fine (rule_of n f)
unfolding rule_of
shaped_at Switch e f = ((λ ks cs i j ls rest x s. and_from _ _ (switch_shape x) refl), is_fine (switch_slots f) refl refl)
shaped_at Attrs e f = let shape = (λ (ks cs : Slots) (i j : ℕ) (ls rest : Lexemes) (x : Takes rule (entries f) ks cs i ls end j rest) (s : Span). clause_shape x) in ((tt, (shape, is_fine (entries f) refl refl)), (tt, (tt, (shape, is_fine (entries f) refl refl))))
shaped_at Try e f = ((λ ks cs i j ls rest x s. and_from _ _ (try_shape x no_op 0 s) refl), is_fine (try_slots f) refl refl)
shaped_at n e f = absurd (false≢true e)

fine_at : (n : Name) → far n ≡ false → (f : Flags) → Fine (rule_of n f)
fine_at n e f = go (is_shaped n) refl
  where
    go : (b : Bool) → is_shaped n ≡ b → Fine (rule_of n f)
    go true h = shaped_at n h f
    go false h = is_fine (rule_of n f) (line_marked n f) (subst (λ (b : Bool). (b || finely (rule_of n f)) ≡ true) (λ i. e i || h i) (line_fine n f))

fine_line : (n : Symbol) → far n.name ≡ false → Fine (rule n)
unfolding rule
fine_line n e = fine_at n.name e n.flags

-- a node whose slots no rule looks at
unshaped_fine : (k : NodeKind) (o : Op) (n : ℕ) (s : Span) (cs : Slots) → shaped k ≡ false → plain k n ≡ true → fine_label (record { kind = k; op = o; flags = n; span = s }) cs ≡ true
unshaped_fine switch_statement o n s cs e h = absurd (false≢true (sym e))
unshaped_fine try_statement o n s cs e h = absurd (false≢true (sym e))
unshaped_fine with_clause o n s cs e h = absurd (false≢true (sym e))
unshaped_fine k o n s cs e h = and_from _ _ h refl

node_fine : (m : Make) (a : G) → Either (shaped m.kind) (Shape m a) (plain m.kind m.flags ≡ true) → {ks cs : Slots} {i j : ℕ} {ls rest : Lexemes} → Takes rule a ks cs i ls end j rest → (s : Span) → fine_label (record { kind = m.kind; op = m.op; flags = m.flags; span = s }) cs ≡ true
node_fine m a h {ks} {cs} {i} {j} {ls} {rest} x s = go (shaped m.kind) refl h
  where
    go : (b : Bool) → shaped m.kind ≡ b → Either b (Shape m a) (plain m.kind m.flags ≡ true) → fine_label (record { kind = m.kind; op = m.op; flags = m.flags; span = s }) cs ≡ true
    go true e h = h ks cs i j ls rest x s
    go false e h = unshaped_fine m.kind m.op m.flags s cs e h

pife_fine : (k : NodeKind) (o : Op) (n : ℕ) (s : Span) (cs : Slots) → fine_label (record { kind = k; op = o; flags = n; span = s }) cs ≡ true → fine_label (with_pife (record { kind = k; op = o; flags = n; span = s })) cs ≡ true
pife_fine function_expression o n s cs h = subst (λ (b : Bool). (not b && true) ≡ true) (sym (pife_apart n)) h
pife_fine arrow_function_expression o n s cs h = subst (λ (b : Bool). (not b && true) ≡ true) (sym (pife_apart n)) h
pife_fine k o n s cs h = h

taken_fine : {g : G} {ks ts us : Slots} {i j : ℕ} {ls rest : Lexemes} → Takes rule g ks ts i ls us j rest → Fine g → everywhere fine_label ks ≡ true → everywhere fine_label us ≡ true → everywhere fine_label ts ≡ true
taken_fine is_nothing p k u = u
taken_fine (is_lexeme c) p k u = u
taken_fine (is_look c) p k u = u
taken_fine (is_text c) p k u = u
taken_fine (is_ahead d) p k u = taken_fine d p k u
taken_fine is_empty_slot p k u = u
taken_fine (is_seq x y) p k u = taken_fine x p.0 k (taken_fine y p.1 k u)
taken_fine (is_left x) p k u = taken_fine x p.0 k u
taken_fine (is_right x) p k u = taken_fine x p.1 k u
taken_fine (is_when c x) p k u = taken_fine x p k u
taken_fine (is_many x) p k u = taken_fine x ((p, p), tt) k u
taken_fine (is_commas {b = true} x) p k u = taken_fine x (p, ((tt, (p, tt)), tt)) k u
taken_fine (is_commas {b = false} x) p k u = taken_fine x (p, ((tt, p), tt)) k u
taken_fine (is_such {n = n} {l = l} {cs = cs} {us = us} x c) p k u = let r = root_each fine_label l cs end (taken_fine x (fine_line n p) refl refl) in tree_each fine_label l cs us r.0 r.1 u
taken_fine (is_marked {h = h} {n = n} {l = l} {cs = cs} {us = us} x) p k u =
    let r = root_each fine_label l cs end (taken_fine x (fine_line n p.0) refl refl) in
    tree_each fine_label (h l) cs us (subst (λ (f : Label → Label). fine_label (f l) cs ≡ true) (sym p.1) (pife_fine l.kind l.op l.flags l.span cs r.0)) r.1 u
taken_fine (is_node {m = m} {a = a} {cs = cs} {us = us} {j = j} {ls = ls} {rest = rest} x) p k u = tree_each fine_label (label_of m ls j rest) cs us (node_fine m a p.0 x (label_of m ls j rest).span) (taken_fine x p.1 k refl) u
taken_fine (is_ended {cs = cs} {us = us} q x y) p k u = subst (λ (v : Slots). everywhere fine_label v ≡ true) (sym q) (append_each fine_label cs us (taken_fine x p k refl) (taken_fine y (tt, tt) k u))
taken_fine (is_keep x y) p k u = taken_fine y p.1 (taken_fine x p.0 k refl) u
taken_fine (is_kept {ks = ks} {us = us} q) p k u = subst (λ (v : Slots). everywhere fine_label v ≡ true) (sym q) (append_each fine_label ks us k u)

pub derived_fine : (n : Symbol) (t : Tree) → far n.name ≡ false → {i j : ℕ} {ls rest : Lexemes} → Derives rule n t i ls j rest → everywhere fine_label (tree t.label t.slots end) ≡ true
derived_fine n t e d = taken_fine d (fine_line n e) refl refl

-- ---- what holds of such a tree

-- a rule that holds of each fine node
abbrev Spares : Rule → Type 0
Spares r = (l : Label) (cs : Slots) → fine_label l cs ≡ true → r l cs ≡ true

all_spared : (r : Rule) → Spares r → (us : Slots) → everywhere fine_label us ≡ true → everywhere r us ≡ true
all_spared r f us h = each_so fine_label r f us h

default_spared : Spares one_default
default_spared l cs h = (and_parts (one_default l cs) _ (and_parts (plain l.kind l.flags) _ h).1).0

catch_spared : Spares catch_or_finally
catch_spared l cs h = (and_parts (catch_or_finally l cs) _ (and_parts (one_default l cs) _ (and_parts (plain l.kind l.flags) _ h).1).1).0

pub named_fine : (us : Slots) → everywhere fine_label us ≡ true → everywhere keys_named us ≡ true
named_fine us h = each_so fine_label keys_named (λ l cs f. (and_parts (catch_or_finally l cs) _ (and_parts (one_default l cs) _ (and_parts (plain l.kind l.flags) _ f).1).1).1) us h

here_not_absent : (l : Label) (cs : Slots) → fine_label l cs ≡ true → absent l.kind ≡ false
here_not_absent l cs h = not-true (absent l.kind) (and_parts (not (absent l.kind)) _ (and_parts (plain l.kind l.flags) _ h).0).0

-- All early rules hold of it, if those hold that such trees may break.
pub early_fine : (text : List ℕ) (t : Tree) → everywhere fine_label (tree t.label t.slots end) ≡ true → MeetsEarlyRules text t → EarlyOk text t
early_fine text t h m = let us = tree t.label t.slots end in record {
  one_default = all_spared one_default default_spared us h;
  catch_or_finally = all_spared catch_or_finally catch_spared us h;
  not_u_and_v = m.not_u_and_v;
  templates_cooked = m.cooked;
  attribute_keys_differ = m.attribute_keys_differ;
  no_private_constructor = m.no_private_constructor;
  no_field_constructor = m.no_field_constructor;
  no_static_prototype = m.no_static_prototype;
  plain_constructor = m.plain_constructor;
}

-- nothing is exported
none_exported : (text : List ℕ) (k : NodeKind) (cs : Slots) → absent k ≡ false → exported_by text k cs ≡ []
none_exported text export_named_declaration cs h = absurd (false≢true (sym h))
none_exported text export_from_declaration cs h = absurd (false≢true (sym h))
none_exported text export_all_declaration cs h = absurd (false≢true (sym h))
none_exported text export_declaration cs h = absurd (false≢true (sym h))
none_exported text export_default_declaration cs h = absurd (false≢true (sym h))
none_exported text k cs h = refl

none_exported_in : (text : List ℕ) (us : Slots) → everywhere fine_label us ≡ true → exported_in text us ≡ []
none_exported_in text end h = refl
none_exported_in text (hole us) h = none_exported_in text us h
none_exported_in text (tree l cs us) h =
    let x = and_parts (fine_label l cs) _ h in
    let y = and_parts (everywhere fine_label cs) _ x.1 in
    λ i. none_exported text l.kind cs (here_not_absent l cs x.0) i ++ (none_exported_in text cs y.0 i ++ none_exported_in text us y.1 i)

pub exports_fine : (text : List ℕ) (t : Tree) → everywhere fine_label (tree t.label t.slots end) ≡ true → IsTrue (exports_differ text t)
exports_fine text t h = ap no_two (none_exported_in text (tree t.label t.slots end) h)

-- no node is marked as pure
mark_fine : (l : Label) (cs : Slots) → fine_label l cs ≡ true → not_pure l ≡ l
mark_fine l cs h = ap (λ (n : ℕ). record l { flags = n }) (ap (λ (b : Bool). cond b (l.flags - pure_flag) l.flags) (not-true (has_flag pure_flag l.flags) (and_parts (not (absent l.kind)) _ (and_parts (plain l.kind l.flags) _ h).0).1))

pub pure_fine : (t : Tree) → everywhere fine_label (tree t.label t.slots end) ≡ true → without_pure t ≡ t
pure_fine t h = without_marks fine_label mark_fine t h

-- ---- the rules don't look at the mark

abbrev unmarked : Slots → Slots
unmarked us = with_labels not_pure us

-- the same of a node with the mark and without it, whatever stands in it
abbrev Blind : Rule → Type 0
Blind r = (l : Label) (cs : Slots) → r (not_pure l) (unmarked cs) ≡ r l cs

blind_everywhere : {r : Rule} → Blind r → (us : Slots) → everywhere r (unmarked us) ≡ everywhere r us
blind_everywhere b end = refl
blind_everywhere b (hole us) = blind_everywhere b us
blind_everywhere b (tree l cs us) = λ i. b l cs i && (blind_everywhere b cs i && blind_everywhere b us i)

-- of a flag below the mark
below_mark : (g : ℕ → ℕ) (n : ℕ) → ((m : ℕ) → g (m + 4096) ≡ g m) → g (without_flag pure_flag n) ≡ g n
below_mark g n h = go (has_flag pure_flag n) refl
  where
    go : (b : Bool) → has_flag pure_flag n ≡ b → g (cond b (n - 4096) n) ≡ g n
    go false e = refl
    go true e = let k : n / 4096 % 2 ≡ 1 = eqb-true (n / 4096 % 2) 1 e in let o : n - 4096 + 4096 ≡ n = omega arith in sym (h (n - 4096)) ∙ ap g o

computed_blind : (n : ℕ) → has_flag computed_flag (without_flag pure_flag n) ≡ has_flag computed_flag n
computed_blind n = ap (λ (m : ℕ). nat_eq m 1) (below_mark (λ m. m / 4 % 2) n (λ m. omega arith))

static_blind : (n : ℕ) → has_flag static_flag (without_flag pure_flag n) ≡ has_flag static_flag n
static_blind n = ap (λ (m : ℕ). nat_eq m 1) (below_mark (λ m. m / 256 % 2) n (λ m. omega arith))

generator_blind : (n : ℕ) → has_flag generator_flag (without_flag pure_flag n) ≡ has_flag generator_flag n
generator_blind n = ap (λ (m : ℕ). nat_eq m 1) (below_mark (λ m. m / 64 % 2) n (λ m. omega arith))

async_blind : (n : ℕ) → has_flag async_flag (without_flag pure_flag n) ≡ has_flag async_flag n
async_blind n = ap (λ (m : ℕ). nat_eq m 1) (below_mark (λ m. m / 32 % 2) n (λ m. omega arith))

flags_blind : (text : List ℕ) → Blind (not_u_and_v text)
flags_blind text l cs = refl

-- the name of a member, by its node
private_same : (text : List ℕ) (k : NodeKind) (l : Label) → is_private_constructor text k (not_pure l) ≡ is_private_constructor text k l
private_same text private_identifier l = refl
private_same text k l = refl

named_same : (text : List ℕ) (k : NodeKind) (name : List ℕ) (l : Label) → is_named text k name (not_pure l) ≡ is_named text k name l
named_same text identifier_name name l = refl
named_same text string_literal name l = refl
named_same text k name l = refl

has_private_same : (text : List ℕ) (cs : Slots) → has_private_constructor text (unmarked cs) ≡ has_private_constructor text cs
has_private_same text end = refl
has_private_same text (hole us) = refl
has_private_same text (tree k ks us) = private_same text k.kind k

has_name_same : (text name : List ℕ) (l : Label) (cs : Slots) → has_name text name (not_pure l) (unmarked cs) ≡ has_name text name l cs
has_name_same text name l end = refl
has_name_same text name l (hole us) = refl
has_name_same text name l (tree k ks us) = λ i. not (computed_blind l.flags i) && named_same text k.kind name k i

special_same : (o : Op) (cs : Slots) → is_special o (unmarked cs) ≡ is_special o cs
special_same method_op (tree k ks (tree f fs us)) = λ i. generator_blind f.flags i || async_blind f.flags i
special_same constructor_op (tree k ks (tree f fs us)) = λ i. generator_blind f.flags i || async_blind f.flags i
special_same o end = search (rules)
special_same o (hole us) = search (rules)
special_same o (tree k ks end) = search (rules)
special_same o (tree k ks (hole us)) = search (rules)
special_same o (tree k ks (tree f fs us)) = search (rules)

private_blind : (text : List ℕ) → Blind (no_private_constructor text)
private_blind text l cs = λ i. not (is_member l.kind && has_private_same text cs i)

field_blind : (text : List ℕ) → Blind (no_field_constructor text)
field_blind text l cs = λ i. not (is_field l.kind && has_name_same text (codes "constructor") l cs i)

prototype_blind : (text : List ℕ) → Blind (no_static_prototype text)
prototype_blind text l cs = λ i. not (is_member l.kind && (static_blind l.flags i && has_name_same text (codes "prototype") l cs i))

constructor_blind : (text : List ℕ) → Blind (plain_constructor text)
constructor_blind text l cs = λ i. not (is_method l.kind && (not (static_blind l.flags i) && (has_name_same text (codes "constructor") l cs i && special_same l.op cs i)))

names_without : (r : Rule) (t : Tree) → Blind r → IsTrue (everywhere r (tree t.label t.slots end)) → IsTrue (everywhere r (tree (without_pure t).label (without_pure t).slots end))
names_without r t b h = blind_everywhere b (tree t.label t.slots end) ∙ h

-- a template's slots
abbrev of_template : Slots → Slots
of_template cs = tree (a_label template_literal) cs end

-- What is cooked is so without the mark: as slots, and as those of a template.
abbrev Stays : List ℕ → Slots → Type 0
Stays w us = ((p : Place) → cooked_at w p us ≡ true → cooked_at w p (unmarked us) ≡ true) × (cooked_at w anywhere (of_template us) ≡ true → cooked_at w anywhere (of_template (unmarked us)) ≡ true)

node_stays : (w : List ℕ) (p : Place) (k : NodeKind) (o : Op) (n : ℕ) (s : Span) (cs us : Slots) → Stays w cs → Stays w us → cooked_at w p (tree (record { kind = k; op = o; flags = n; span = s }) cs us) ≡ true → cooked_at w p (unmarked (tree (record { kind = k; op = o; flags = n; span = s }) cs us)) ≡ true
node_stays w Rattle.js_grammar.specs.EarlyRules.anywhere template_literal o n s cs us f g h =
    let x = and_parts _ _ h in
    let y = and_parts (cooked_at w anywhere cs) _ x.1 in
    and_from _ _ (and_parts _ _ (f.1 (and_from _ _ x.0 (and_from _ _ y.0 refl)))).0 (and_from _ _ (f.0 anywhere y.0) (g.0 anywhere y.1))
node_stays w Rattle.js_grammar.specs.EarlyRules.tag template_literal o n s cs us f g h =
    let x = and_parts _ _ h in
    let y = and_parts (cooked_at w anywhere cs) _ x.1 in
    and_from _ _ (and_parts _ _ (f.1 (and_from _ _ x.0 (and_from _ _ y.0 refl)))).0 (and_from _ _ (f.0 anywhere y.0) (g.0 tagged y.1))
node_stays w Rattle.js_grammar.specs.EarlyRules.tagged template_literal o n s cs us f g h = let y = and_parts (cooked_at w anywhere cs) _ h in and_from _ _ (f.0 anywhere y.0) (g.0 tagged y.1)
node_stays w Rattle.js_grammar.specs.EarlyRules.anywhere k o n s cs us f g h = let y = and_parts _ _ h in and_from _ _ (f.0 _ y.0) (g.0 _ y.1)
node_stays w Rattle.js_grammar.specs.EarlyRules.tag k o n s cs us f g h = let y = and_parts _ _ h in and_from _ _ (f.0 _ y.0) (g.0 _ y.1)
node_stays w Rattle.js_grammar.specs.EarlyRules.tagged k o n s cs us f g h = let y = and_parts _ _ h in and_from _ _ (f.0 _ y.0) (g.0 _ y.1)

stays : (w : List ℕ) (us : Slots) → Stays w us
stays w end = ((λ p h. refl), (λ h. refl))
stays w (hole us) = let u = stays w us in ((λ p h. u.0 p h), (λ h. u.1 h))
stays w (tree l cs us) =
    let c = stays w cs in
    let u = stays w us in (
      (λ p h. node_stays w p l.kind l.op l.flags l.span cs us c u h),
      (λ h.
          let a = and_parts _ _ h in
          let b = and_parts _ _ a.0 in
          let d = (and_parts (cooked_at w anywhere (tree l cs us)) _ a.1).0 in
          let v = (and_parts _ _ (and_parts _ _ d).1).1 in
          and_from _ _ (and_from _ _ b.0 (and_parts _ _ (u.1 (and_from _ _ b.1 (and_from _ _ v refl)))).0) (and_from _ _ (node_stays w anywhere l.kind l.op l.flags l.span cs us c u d) refl)),
    )

cooked_without : (w : List ℕ) (t : Tree) → IsTrue (templates_cooked w (tree t.label t.slots end)) → IsTrue (templates_cooked w (tree (without_pure t).label (without_pure t).slots end))
cooked_without w t h = (stays w (tree t.label t.slots end)).0 anywhere h

-- Keys that differ do so without the mark.
two_keys : (text : List ℕ) (l m j k : Label) (ds es : Slots) → differ text (tree l ds (tree m es end)) ≡ true → differ text (tree j (unmarked ds) (tree k (unmarked es) end)) ≡ true
two_keys text l m j k end end h = h
two_keys text l m j k end (hole es) h = h
two_keys text l m j k end (tree a cs es) h = h
two_keys text l m j k (hole ds) end h = h
two_keys text l m j k (hole ds) (hole es) h = h
two_keys text l m j k (hole ds) (tree a cs es) h = h
two_keys text l m j k (tree b bs ds) end h = h
two_keys text l m j k (tree b bs ds) (hole es) h = h
two_keys text l m j k (tree b bs ds) (tree a cs es) h = h

keys_stay : (text : List ℕ) (l j : Label) (ds us : Slots) → differ text (tree l ds us) ≡ true → differ text (tree j (unmarked ds) (unmarked us)) ≡ true
keys_stay text l j ds end h = refl
keys_stay text l j ds (hole us) h = keys_stay text l j ds us h
keys_stay text l j ds (tree m es us) h = let p = each_two text l m ds es us h in from_each_two text j (not_pure m) (unmarked ds) (unmarked es) (unmarked us) (two_keys text l m j (not_pure m) ds es p.0) (keys_stay text l j ds us p.1) (keys_stay text m (not_pure m) es us p.2)

all_stay : (text : List ℕ) (us : Slots) → differ text us ≡ true → differ text (unmarked us) ≡ true
all_stay text end h = refl
all_stay text (hole us) h = all_stay text us h
all_stay text (tree m es us) h = keys_stay text m (not_pure m) es us h

clause_stays : (text : List ℕ) (k : NodeKind) (o : Op) (n : ℕ) (s : Span) (cs : Slots) → attribute_keys_differ text (record { kind = k; op = o; flags = n; span = s }) cs ≡ true → attribute_keys_differ text (not_pure (record { kind = k; op = o; flags = n; span = s })) (unmarked cs) ≡ true
clause_stays text with_clause o n s cs h = all_stay text cs h
clause_stays text k o n s cs h = refl

keys_without : (w : List ℕ) (us : Slots) → everywhere (attribute_keys_differ w) us ≡ true → everywhere (attribute_keys_differ w) (unmarked us) ≡ true
keys_without w end h = refl
keys_without w (hole us) h = keys_without w us h
keys_without w (tree l cs us) h =
    let p = and_parts (attribute_keys_differ w l cs) _ h in
    let q = and_parts (everywhere (attribute_keys_differ w) cs) _ p.1 in
    and_from _ _ (clause_stays w l.kind l.op l.flags l.span cs p.0) (and_from _ _ (keys_without w cs q.0) (keys_without w us q.1))

-- The early rules that such trees may break hold without the mark, where all hold with it.
pub rules_without : (w : List ℕ) (t : Tree) → EarlyOk w t → MeetsEarlyRules w (without_pure t)
rules_without w t e = record {
  not_u_and_v = names_without (not_u_and_v w) t (flags_blind w) e.not_u_and_v;
  cooked = cooked_without w t e.templates_cooked;
  attribute_keys_differ = keys_without w (tree t.label t.slots end) e.attribute_keys_differ;
  no_private_constructor = names_without (no_private_constructor w) t (private_blind w) e.no_private_constructor;
  no_field_constructor = names_without (no_field_constructor w) t (field_blind w) e.no_field_constructor;
  no_static_prototype = names_without (no_static_prototype w) t (prototype_blind w) e.no_static_prototype;
  plain_constructor = names_without (plain_constructor w) t (constructor_blind w) e.plain_constructor;
}
