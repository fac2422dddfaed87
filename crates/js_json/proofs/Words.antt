-- The words of kinds, ops and flags tell which these are.
use Rattle.std.proofs.Common.{◌≡◌, ℕ, ◌+◌, ◌*◌, ◌<◌, ◌/◌, ◌%◌, ◌^◌, Bool, true, false, not, cond, ◌&&◌, codes, List, [], ◌∷◌, ◌++◌, bytes_eq, nat_eq, refl, ap, sym, ◌∙◌, arith, eqb-true}
use Rattle.std.proofs.lemmas.Bool.{false≢true, and_parts}
use Rattle.std.proofs.lemmas.Slice.Eq.{bytes_eq-Decides}
use Rattle.serde_json.specs.Data.{Data, string}
use Rattle.serde_json.specs.View.{items_of}
use Rattle.js_base.specs.declared.kind.Kind.{Kind}
use Rattle.js_base.specs.declared.kind.Kind.TheVariants.{Eof, Constructor}
use Rattle.js_base.specs.Kinds.{kinds, same_kind}
use Rattle.js_base.specs.Texts.{text_of}
use Rattle.js_grammar.specs.Trees.{NodeKind, program, hashbang, directive, block_statement, empty_statement, expression_statement, variable_declaration, variable_declarator, if_statement, do_while_statement, while_statement, with_statement, for_statement, for_in_statement, for_of_statement, continue_statement, break_statement, return_statement, throw_statement, switch_statement, switch_case, try_statement, catch_clause, catch_parameter, debugger_statement, labeled_statement, function_declaration, function_expression, formal_parameters, formal_parameter, formal_parameter_rest, binding_rest_element, function_body, arrow_function_expression, class_declaration, class_expression, class_body, method_definition, property_definition, accessor_property, static_block, decorator, object_expression, object_property, spread_element, sequence_expression, assignment_expression, yield_expression, conditional_expression, logical_expression, binary_expression, private_in_expression, unary_expression, await_expression, update_expression, new_expression, static_member_expression, computed_member_expression, private_field_expression, tagged_template_expression, new_target_expression, import_meta, call_expression, import_expression, chain_expression, super_expression, this_expression, null_literal, boolean_literal, numeric_literal, big_int_literal, string_literal, reg_exp_literal, array_expression, elision, parenthesized_expression, v8_intrinsic_expression, template_literal, template_element, identifier_reference, binding_identifier, label_identifier, identifier_name, private_identifier, array_assignment_target, object_assignment_target, assignment_target_rest, assignment_target_with_default, assignment_target_property_identifier, assignment_target_property_property, array_pattern, object_pattern, binding_property, assignment_pattern, import_declaration, import_default_specifier, import_namespace_specifier, import_specifier, with_clause, import_attribute, export_all_declaration, export_from_declaration, export_named_declaration, export_declaration, export_default_declaration, export_specifier, Op, no_op, init, method_op, constructor_op, exponential, of}
use Rattle.js_grammar.specs.Lines.{kind_text, flag_words}
use Rattle.js_grammar.proofs.Finding.{contrary}
use Rattle.js_json.specs.Json.{string_or_null, word_of, words_set, list}
use Rattle.js_json.specs.Laws.{is_own_word}

-- ---- words

-- the first of a list that has the text
abbrev find : {A : Type 0} → (A → List ℕ) → List A → A → List ℕ → A
find f [] d w = d
find f (a ∷ as') d w = cond (bytes_eq (f a) w) a (find f as' d w)

node_kinds : List NodeKind
node_kinds = program ∷ hashbang ∷ directive ∷ block_statement ∷ empty_statement ∷ expression_statement ∷ variable_declaration ∷ variable_declarator ∷ if_statement ∷ do_while_statement ∷ while_statement ∷ with_statement ∷ for_statement ∷ for_in_statement ∷ for_of_statement ∷ continue_statement ∷ break_statement ∷ return_statement ∷ throw_statement ∷ switch_statement ∷ switch_case ∷ try_statement ∷ catch_clause ∷ catch_parameter ∷ debugger_statement ∷ labeled_statement ∷ function_declaration ∷ function_expression ∷ formal_parameters ∷ formal_parameter ∷ formal_parameter_rest ∷ binding_rest_element ∷ function_body ∷ arrow_function_expression ∷ class_declaration ∷ class_expression ∷ class_body ∷ method_definition ∷ property_definition ∷ accessor_property ∷ static_block ∷ decorator ∷ object_expression ∷ object_property ∷ spread_element ∷ sequence_expression ∷ assignment_expression ∷ yield_expression ∷ conditional_expression ∷ logical_expression ∷ binary_expression ∷ private_in_expression ∷ unary_expression ∷ await_expression ∷ update_expression ∷ new_expression ∷ static_member_expression ∷ computed_member_expression ∷ private_field_expression ∷ tagged_template_expression ∷ new_target_expression ∷ import_meta ∷ call_expression ∷ import_expression ∷ chain_expression ∷ super_expression ∷ this_expression ∷ null_literal ∷ boolean_literal ∷ numeric_literal ∷ big_int_literal ∷ string_literal ∷ reg_exp_literal ∷ array_expression ∷ elision ∷ parenthesized_expression ∷ v8_intrinsic_expression ∷ template_literal ∷ template_element ∷ identifier_reference ∷ binding_identifier ∷ label_identifier ∷ identifier_name ∷ private_identifier ∷ array_assignment_target ∷ object_assignment_target ∷ assignment_target_rest ∷ assignment_target_with_default ∷ assignment_target_property_identifier ∷ assignment_target_property_property ∷ array_pattern ∷ object_pattern ∷ binding_property ∷ assignment_pattern ∷ import_declaration ∷ import_default_specifier ∷ import_namespace_specifier ∷ import_specifier ∷ with_clause ∷ import_attribute ∷ export_all_declaration ∷ export_from_declaration ∷ export_named_declaration ∷ export_declaration ∷ export_default_declaration ∷ export_specifier ∷ []

abbrev read_node_kind : List ℕ → NodeKind
read_node_kind w = find kind_text node_kinds program w

node_kind_back : (k : NodeKind) → read_node_kind (kind_text k) ≡ k
unfolding node_kinds
node_kind_back program = refl
node_kind_back k = refl

pub kind_same : (k m : NodeKind) → kind_text k ≡ kind_text m → k ≡ m
kind_same k m e = sym (node_kind_back k) ∙ ap read_node_kind e ∙ node_kind_back m

abbrev read_op : List ℕ → Op
read_op w = cond (bytes_eq (codes "init") w) init (cond (bytes_eq (codes "method") w) method_op (cond (bytes_eq (codes "constructor") w) constructor_op (cond (bytes_eq (codes "Exponential") w) exponential (of (find text_of kinds Eof w)))))

of_back : (k : Kind) → not (same_kind Constructor k) ≡ true → read_op (text_of k) ≡ of k
unfolding kinds
of_back Eof h = refl
of_back Constructor h = absurd (false≢true h)
of_back k h = refl

abbrev read_word : Data → Op
read_word (string w) = read_op w
read_word d = no_op

op_back : (o : Op) → is_own_word o ≡ true → read_word (string_or_null (word_of o)) ≡ o
op_back no_op h = refl
op_back init h = refl
op_back method_op h = refl
op_back constructor_op h = refl
op_back exponential h = refl
op_back (of k) h = of_back k h

pub op_same : (o p : Op) → is_own_word o ≡ true → is_own_word p ≡ true → string_or_null (word_of o) ≡ string_or_null (word_of p) → o ≡ p
op_same o p h k e = sym (op_back o h) ∙ ap read_word e ∙ op_back p k

-- ---- flags

-- a text is none of these
abbrev absent : List ℕ → List (List ℕ) → Bool
absent w [] = true
absent w (v ∷ vs) = not (bytes_eq w v) && absent w vs

abbrev distinct : List (List ℕ) → Bool
distinct [] = true
distinct (w ∷ ws) = absent w ws && distinct ws

pub head_same : (a b : Data) (as' bs : List Data) → a ∷ as' ≡ b ∷ bs → a ≡ b
head_same a b as' bs e = cc

pub tail_same : (a b : Data) (as' bs : List Data) → a ∷ as' ≡ b ∷ bs → as' ≡ bs
tail_same a b as' bs e = cc

no_list : (a : Data) (as' : List Data) → a ∷ as' ≡ [] → ⊥
no_list a as' e = cc

pub text_same : (v w : List ℕ) → string v ≡ string w → v ≡ w
text_same v w e = cc

-- a word that is none of these isn't the first of those that are set
not_first : (w : List ℕ) (ws : List (List ℕ)) (n : ℕ) (more : List Data) → absent w ws ≡ true → string w ∷ more ≡ words_set ws n → ⊥
not_first w [] n more h e = no_list (string w) more e
not_first w (v ∷ vs) n more h e = by (nat_eq (n % 2) 1) (not_first w vs (n / 2) more (and_parts (not (bytes_eq w v)) _ h).1) e
  where
    by : (b : Bool) → (string w ∷ more ≡ words_set vs (n / 2) → ⊥) → string w ∷ more ≡ cond b (string v ∷ []) [] ++ words_set vs (n / 2) → ⊥
    by true f e = contrary (bytes_eq w v) (and_parts (not (bytes_eq w v)) _ h).0 ((bytes_eq-Decides w v).1 (text_same w v (head_same (string w) (string v) more (words_set vs (n / 2)) e)))
    by false f e = f e

-- the numbers that so many flags make
abbrev below : List (List ℕ) → ℕ
below [] = 1
below (w ∷ ws) = 2 * below ws

bit_is : (n : ℕ) (b : Bool) → nat_eq (n % 2) 1 ≡ b → n ≡ cond b 1 0 + 2 * (n / 2)
bit_is n true e = let k : n % 2 ≡ 1 = eqb-true (n % 2) 1 e in omega arith
bit_is n false e = let k : n % 2 ≡ 1 → ⊥ = λ x. false≢true (sym e ∙ ap (λ (m : ℕ). nat_eq m 1) x) in omega arith

flags_by : (b c : Bool) (w : List ℕ) (ws : List (List ℕ)) → absent w ws ≡ true → (n m : ℕ) → n ≡ cond b 1 0 + 2 * (n / 2) → m ≡ cond c 1 0 + 2 * (m / 2) → (words_set ws (n / 2) ≡ words_set ws (m / 2) → n / 2 ≡ m / 2) → cond b (string w ∷ []) [] ++ words_set ws (n / 2) ≡ cond c (string w ∷ []) [] ++ words_set ws (m / 2) → n ≡ m
flags_by true true w ws a n m p q f e = let r = f (tail_same (string w) (string w) (words_set ws (n / 2)) (words_set ws (m / 2)) e) in omega arith
flags_by false false w ws a n m p q f e = let r = f e in omega arith
flags_by true false w ws a n m p q f e = absurd (not_first w ws (m / 2) (words_set ws (n / 2)) a e)
flags_by false true w ws a n m p q f e = absurd (not_first w ws (n / 2) (words_set ws (m / 2)) a (sym e))

flags_same : (ws : List (List ℕ)) → distinct ws ≡ true → (n m : ℕ) → n < below ws → m < below ws → words_set ws n ≡ words_set ws m → n ≡ m
flags_same [] d n m h k e = omega arith
flags_same (w ∷ ws) d n m h k e =
    let a : n / 2 < below ws = omega arith in
    let b : m / 2 < below ws = omega arith in
    flags_by (nat_eq (n % 2) 1) (nat_eq (m % 2) 1) w ws (and_parts (absent w ws) _ d).0 n m (bit_is n _ refl) (bit_is m _ refl) (λ q. flags_same ws (and_parts (absent w ws) _ d).1 (n / 2) (m / 2) a b q) e

items_same : (as' bs : List Data) → items_of as' ≡ items_of bs → as' ≡ bs
items_same [] [] e = refl
items_same [] (b ∷ bs) e = absurd (let k = e in cc)
items_same (a ∷ as') [] e = absurd (let k = e in cc)
items_same (a ∷ as') (b ∷ bs) e = let h : a ≡ b = cc in let t = items_same as' bs (let k = e in cc) in λ i. h i ∷ t i

pub list_same : (as' bs : List Data) → list as' ≡ list bs → as' ≡ bs
list_same as' bs e = items_same as' bs (let k = e in cc)

pub words_same : (n m : ℕ) → n < 2 ^ 14 → m < 2 ^ 14 → list (words_set flag_words n) ≡ list (words_set flag_words m) → n ≡ m
words_same n m h k e = flags_same flag_words refl n m (omega arith) (omega arith) (list_same (words_set flag_words n) (words_set flag_words m) e)
