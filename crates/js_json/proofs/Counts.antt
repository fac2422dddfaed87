-- Counting the nodes of a value and the lines of a tree.
use Rattle.std.proofs.Common.{◌≡◌, ℕ, zero, suc, ◌+◌, ◌*◌, ◌<◌, ◌/◌, ◌%◌, ◌==◌, Bool, true, false, cond, codes, List, [], ◌∷◌, ◌++◌, replicate, nat_eq, Option, Some, None, decimal, refl, ap, ◌∙◌, arith, eqb-true, lt-ltb}
use Rattle.std.specs.Fmt.{digits, digits_onto, digit_glyph}
use Rattle.serde_json.specs.Data.{Data, string}
use Rattle.serde_json.specs.View.{items_of}
use Rattle.js_base.specs.declared.kind.Kind.{Kind}
use Rattle.js_base.specs.declared.kind.Kind.TheVariants.{Eof}
use Rattle.js_base.specs.Texts.{text_of}
use Rattle.js_grammar.specs.Trees.{NodeKind, program, Op, no_op, init, method_op, constructor_op, exponential, of, Label, Slots, end, hole, tree, Tree}
use Rattle.js_grammar.specs.Lines.{kind_text, op_text, flag_words, words_of, places_text, label_text, indent, slots_text, tree_text}
use Rattle.js_tree.specs.Counting.{nodes_in, count_of}
use Rattle.js_json.specs.Json.{string_or_null, word_of, name_of, raw_of, words_set, list, node_json, slots_json, json_of}
use Rattle.js_json.specs.Counts.{objects_in, objects_in_items, holes_in, lines_in}

-- ---- objects

none_in_string : (o : Option (List ℕ)) → objects_in (string_or_null o) ≡ 0
none_in_string None = refl
none_in_string (Some s) = refl

none_in_words : (ws : List (List ℕ)) (n : ℕ) → objects_in_items (items_of (words_set ws n)) ≡ 0
none_in_words [] n = refl
none_in_words (w ∷ ws) n = by (nat_eq (n % 2) 1) (none_in_words ws (n / 2))
  where
    by : (b : Bool) → objects_in_items (items_of (words_set ws (n / 2))) ≡ 0 → objects_in_items (items_of (cond b (string w ∷ []) [] ++ words_set ws (n / 2))) ≡ 0
    by true e = omega arith
    by false e = e

node_objects : (text : List ℕ) (l : Label) (c : Data) → objects_in (node_json text l c) ≡ suc (objects_in c)
node_objects text l c = rw (none_in_string (name_of text l), none_in_string (word_of l.op), none_in_string (raw_of text l), none_in_words flag_words l.flags) (omega arith)

slots_objects : (text : List ℕ) (us : Slots) → objects_in_items (items_of (slots_json text us)) ≡ nodes_in us
slots_objects text end = refl
slots_objects text (hole us) = let e = slots_objects text us in omega arith
slots_objects text (tree l cs us) = let n = node_objects text l (list (slots_json text cs)) in let e = slots_objects text cs in let f = slots_objects text us in omega arith

pub tree_objects : (text : List ℕ) (t : Tree) → objects_in (json_of text t) ≡ count_of t
tree_objects text t = node_objects text t.label (list (slots_json text t.slots)) ∙ ap suc (slots_objects text t.slots)

-- ---- lines

joined : (xs ys : List ℕ) → lines_in (xs ++ ys) ≡ lines_in xs + lines_in ys
joined [] ys = omega arith
joined (x ∷ xs) ys = let e = joined xs ys in omega arith

in_kind : (k : NodeKind) → lines_in (kind_text k) ≡ 0
in_kind program = refl
in_kind k = refl

in_text : (k : Kind) → lines_in (text_of k) ≡ 0
in_text Eof = refl
in_text k = refl

in_op : (o : Op) → lines_in (op_text o) ≡ 0
in_op no_op = refl
in_op init = refl
in_op method_op = refl
in_op constructor_op = refl
in_op exponential = refl
in_op (of k) = let e = in_text k in omega arith

above_feed : (g : ℕ) (xs : List ℕ) → 10 < g → lines_in (g ∷ xs) ≡ lines_in xs
above_feed g xs h = by (g == 10) refl
  where
    by : (b : Bool) → (g == 10) ≡ b → cond b 1 0 + lines_in xs ≡ lines_in xs
    by true e = absurd (let k = eqb-true g 10 e in omega arith)
    by false e = omega arith

glyph_above : (d : ℕ) → d < 10 → 10 < digit_glyph false d
glyph_above d h = rw (lt-ltb d 10 h) (omega arith)

in_digits : (k n : ℕ) (acc : List ℕ) → lines_in acc ≡ 0 → lines_in (digits_onto k 10 false n acc) ≡ 0
in_digits zero n acc h = h
in_digits (suc k) n acc h =
    let d = digit_glyph false (n % 10) in
    let one : lines_in (d ∷ acc) ≡ 0 = above_feed d acc (glyph_above (n % 10) (omega arith)) ∙ h in
    by (n / 10 == 0) one (in_digits k (n / 10) (d ∷ acc) one)
  where
    by : (b : Bool) → lines_in (digit_glyph false (n % 10) ∷ acc) ≡ 0 → lines_in (digits_onto k 10 false (n / 10) (digit_glyph false (n % 10) ∷ acc)) ≡ 0 → lines_in (cond b (digit_glyph false (n % 10) ∷ acc) (digits_onto k 10 false (n / 10) (digit_glyph false (n % 10) ∷ acc))) ≡ 0
    by true p q = p
    by false p q = q

in_decimal : (n : ℕ) → lines_in (decimal n) ≡ 0
unfolding digits
in_decimal n = in_digits 64 n [] refl

in_places : (a b : ℕ) → lines_in (places_text a b) ≡ 0
in_places a b = let j = joined (decimal a) (codes ".." ++ decimal b) in let p = in_decimal a in let q = in_decimal b in omega arith

abbrev Bare : List (List ℕ) → Type 0
Bare [] = Unit {0}
Bare (w ∷ ws) = (lines_in w ≡ 0) × Bare ws

in_words : (ws : List (List ℕ)) → Bare ws → (n : ℕ) → lines_in (words_of ws n) ≡ 0
in_words [] h n = refl
in_words (w ∷ ws) h n = by (nat_eq (n % 2) 1) (in_words ws h.1 (n / 2))
  where
    by : (b : Bool) → lines_in (words_of ws (n / 2)) ≡ 0 → lines_in (cond b (32 ∷ w) [] ++ words_of ws (n / 2)) ≡ 0
    by true e = let j = joined (32 ∷ w) (words_of ws (n / 2)) in let k = h.0 in omega arith
    by false e = e

bare_words : Bare flag_words
bare_words = (refl, (refl, (refl, (refl, (refl, (refl, (refl, (refl, (refl, (refl, (refl, (refl, (refl, (refl, tt))))))))))))))

in_flags : (n : ℕ) → lines_in (words_of flag_words n) ≡ 0
in_flags n = in_words flag_words bare_words n

in_label : (l : Label) → lines_in (label_text l) ≡ 0
in_label l =
    let places = places_text l.span.from l.span.to in
    let op = op_text l.op in
    let flags = words_of flag_words l.flags in
    let a = joined (kind_text l.kind) (32 ∷ (places ++ (op ++ flags))) in
    let b = joined places (op ++ flags) in
    let c = joined op flags in
    let p = in_kind l.kind in let q = in_places l.span.from l.span.to in let r = in_op l.op in let s = in_flags l.flags in
    omega arith

in_blanks : (n : ℕ) → lines_in (replicate n 32) ≡ 0
in_blanks zero = refl
in_blanks (suc n) = let e = in_blanks n in omega arith

in_slots : (d : ℕ) (us : Slots) → lines_in (slots_text d us) ≡ nodes_in us + holes_in us
in_slots d end = refl
in_slots d (hole us) =
    let a = joined (indent d) (codes "-" ++ (10 ∷ slots_text d us)) in
    let b = in_blanks (2 * d) in let e = in_slots d us in
    omega arith
in_slots d (tree l cs us) =
    let a = joined (indent d) (label_text l ++ (10 ∷ (slots_text (suc d) cs ++ slots_text d us))) in
    let b = joined (label_text l) (10 ∷ (slots_text (suc d) cs ++ slots_text d us)) in
    let c = joined (slots_text (suc d) cs) (slots_text d us) in
    let p = in_blanks (2 * d) in let q = in_label l in let e = in_slots (suc d) cs in let f = in_slots d us in
    omega arith

pub tree_lines : (t : Tree) → lines_in (tree_text t) ≡ count_of t + holes_in t.slots
tree_lines t = let e = in_slots 0 (tree t.label t.slots end) in omega arith
