-- A string alone: an expression that is a string is nothing else, and a string is an expression.
use Rattle.std.proofs.Common.{ℕ, ◌≡◌, Bool, true, false, not, ◌&&◌, ◌||◌, IsTrue, nat_eq, refl, sym, ap, subst, ◌∙◌}
use Rattle.std.proofs.lemmas.Bool.{false≢true, and_parts, eqb-true, not-true}
use Rattle.laws_shared.proofs.NameKinds.{name_test}
use Rattle.js_grammar.specs.Conditions.{not_string}
use Rattle.js_base.specs.declared.kind.Kind.TheVariants.{Str, Yield}
use Rattle.js_grammar.specs.Trees.{Span, NodeKind, identifier_reference, string_literal, expression_statement, Op, no_op, Label, Slots, end, hole, tree, append}
use Rattle.js_grammar.specs.Grammar.{Lexeme, Lexemes, next, Look, Make, Extent, exact, label_of, here, seen, semicolon, is, lexeme, look, ahead, seq, alt, when, such, node, ended, keep, Takes, is_lexeme, is_look, is_ahead, is_seq, is_left, is_right, is_when, is_such, is_node, is_ended, is_keep}
use Rattle.js_grammar.specs.Productions.{G, Flags, Name, Symbol, Item, ListItem, Statement, ExprStmt, Block, Empty, Var, If, Do, While, With, For, ForIn, ForOf, Continue, Break, Return, Throw, Switch, Try, Debugger, Labeled, Function, Class, Lexical, ImportDecl, ExportDecl, Expression, Assignment, Yield, Arrow', Conditional, Short, Coalesce, Or, And, BitOr, BitXor, BitAnd, Equality, Relational, Shift, Additive, Multiply, Exponent, Unary, Update, LeftHandSide, New, Member, Call, Chain, Primary, Template, IdentifierReference, Object, FuncExpr, ClassExpr, Target}
use Rattle.js_grammar.specs.Productions.{sym as symbol}
use Rattle.js_grammar.specs.Table.{rule, rule_of, string}
use Rattle.js_grammar.proofs.Looks.{covers, covered}
use Rattle.js_grammar.proofs.Finding.{holds_if}

abbrev pub is_literal : NodeKind → Bool
is_literal string_literal = true
is_literal _ = false

abbrev has_no_op : Op → Bool
has_no_op no_op = true
has_no_op _ = false

abbrev is_exact : Extent → Bool
is_exact exact = true
is_exact _ = false

-- the node of a string
abbrev string_node : Make
string_node = record { kind = string_literal; op = no_op; flags = 0; extent = exact }

abbrev is_string_node : Make → Bool
is_string_node m = is_literal m.kind && (has_no_op m.op && (nat_eq m.flags 0 && is_exact m.extent))

pub literal_kind : (k : NodeKind) → is_literal k ≡ true → k ≡ string_literal
literal_kind string_literal h = refl
literal_kind _ h = absurd (false≢true h)

no_op_is : (o : Op) → has_no_op o ≡ true → o ≡ no_op
no_op_is no_op h = refl
no_op_is _ h = absurd (false≢true h)

exact_is : (x : Extent) → is_exact x ≡ true → x ≡ exact
exact_is exact h = refl
exact_is _ h = absurd (false≢true h)

node_is : (m : Make) → is_string_node m ≡ true → m ≡ string_node
node_is m h =
    let a = and_parts (is_literal m.kind) _ h in
    let b = and_parts (has_no_op m.op) _ a.1 in
    let c = and_parts (nat_eq m.flags 0) _ b.1 in
    let k = literal_kind m.kind a.0 in let o = no_op_is m.op b.0 in let n = eqb-true m.flags 0 c.0 in let x = exact_is m.extent c.1 in
    λ i. record { kind = k i; op = o i; flags = n i; extent = x i }

abbrev takes_string : G → Bool
takes_string (lexeme p) = covers p (is Str)
takes_string g = false

-- an expression, by whichever line
abbrev in_expression : Name → Bool
in_expression Expression = true
in_expression Assignment = true
in_expression Yield = true
in_expression Arrow' = true
in_expression Conditional = true
in_expression Short = true
in_expression Coalesce = true
in_expression Or = true
in_expression And = true
in_expression BitOr = true
in_expression BitXor = true
in_expression BitAnd = true
in_expression Equality = true
in_expression Relational = true
in_expression Shift = true
in_expression Additive = true
in_expression Multiply = true
in_expression Exponent = true
in_expression Unary = true
in_expression Update = true
in_expression LeftHandSide = true
in_expression New = true
in_expression Member = true
in_expression Call = true
in_expression Chain = true
in_expression Primary = true
in_expression Template = true
in_expression IdentifierReference = true
in_expression Object = true
in_expression FuncExpr = true
in_expression ClassExpr = true
in_expression _ = false

-- Each choice is a node, or an expression; a node of a string is that of one lexeme.
abbrev simple : G → Bool
simple (alt a b) = simple a && simple b
simple (when c a) = simple a
simple (such n c) = in_expression n.name
simple (node m a) = not (is_literal m.kind) || (is_string_node m && takes_string a)
simple g = false

simple_at : (n : Name) (f : Flags) → in_expression n ≡ true → simple (rule_of n f) ≡ true
unfolding rule_of covers
simple_at Expression f h = refl
simple_at Assignment f h = refl
simple_at Yield f h = refl
simple_at Arrow' f h = refl
simple_at Conditional f h = refl
simple_at Short f h = refl
simple_at Coalesce f h = refl
simple_at Or f h = refl
simple_at And f h = refl
simple_at BitOr f h = refl
simple_at BitXor f h = refl
simple_at BitAnd f h = refl
simple_at Equality f h = refl
simple_at Relational f h = refl
simple_at Shift f h = refl
simple_at Additive f h = refl
simple_at Multiply f h = refl
simple_at Exponent f h = refl
simple_at Unary f h = refl
simple_at Update f h = refl
simple_at LeftHandSide f h = refl
simple_at New f h = refl
simple_at Member f h = refl
simple_at Call f h = refl
simple_at Chain f h = refl
simple_at Primary f h = refl
simple_at Template f h = refl
simple_at IdentifierReference f h = refl
simple_at Object f h = refl
simple_at FuncExpr f h = refl
simple_at ClassExpr f h = refl
simple_at _ f h = absurd (false≢true h)

simple_line : (n : Symbol) → in_expression n.name ≡ true → simple (rule n) ≡ true
unfolding rule
simple_line n h = simple_at n.name n.flags h

-- the first slot is a string
abbrev pub string_first : Slots → Bool
string_first (tree l cs us) = is_literal l.kind
string_first us = false

-- a string, wherever it stands
restacked : {ks : Slots} {l : Label} {cs us : Slots} {i j : ℕ} {ls rest : Lexemes} → Takes rule string end (tree l cs end) i ls end j rest → Takes rule string ks (tree l cs us) i ls us j rest
restacked (is_node (is_lexeme p)) = is_node (is_lexeme p)

one_lexeme : (a : G) {ks cs us : Slots} {i j : ℕ} {ls rest : Lexemes} → Takes rule a ks cs i ls end j rest → takes_string a ≡ true → Takes rule string ks (tree (label_of string_node ls j rest) cs us) i ls us j rest
one_lexeme (lexeme p) (is_lexeme {x = x} s) h = is_node (is_lexeme (covered p (is Str) h x.kind x.newline x.escaped s))
one_lexeme _ d h = absurd (false≢true h)

by_node : (m : Make) (a : G) {ks cs us : Slots} {i j : ℕ} {ls rest : Lexemes} → Takes rule a ks cs i ls end j rest → is_string_node m ≡ true → takes_string a ≡ true → Takes rule string ks (tree (label_of m ls j rest) cs us) i ls us j rest
by_node m a {ks} {cs} {us} {i} {j} {ls} {rest} d h t = subst (λ (v : Make). Takes rule string ks (tree (label_of v ls j rest) cs us) i ls us j rest) (sym (node_is m h)) (one_lexeme a d t)

-- An expression that is a string is that alone.
pub alone : (g : G) {ks ts us : Slots} {i j : ℕ} {ls rest : Lexemes} → Takes rule g ks ts i ls us j rest → simple g ≡ true → string_first ts ≡ true → Takes rule string ks ts i ls us j rest
alone (alt a b) (is_left d) h q = alone a d (and_parts (simple a) (simple b) h).0 q
alone (alt a b) (is_right d) h q = alone b d (and_parts (simple a) (simple b) h).1 q
alone (when c a) (is_when t d) h q = alone a d h q
alone (such n c) (is_such d t) h q = restacked (alone (rule n) d (simple_line n h) q)
alone (node m a) (is_node d) h q = let z = and_parts (is_string_node m) (takes_string a) (holds_if (is_literal m.kind) _ h q) in by_node m a d z.0 z.1
alone _ d h q = absurd (false≢true h)

pub string_alone : {f : Flags} {ks ts us : Slots} {i j : ℕ} {ls rest : Lexemes} → Takes rule (symbol Expression f) ks ts i ls us j rest → string_first ts ≡ true → Takes rule string ks ts i ls us j rest
string_alone {f} d q = alone (symbol Expression f) d refl q

-- A primary expression is an expression.
as_operand : (f : Flags) {l : Label} {cs : Slots} {i j : ℕ} {ls rest : Lexemes} → Takes rule (symbol Primary f) end (tree l cs end) i ls end j rest → Takes rule (symbol Exponent f) end (tree l cs end) i ls end j rest
unfolding rule rule_of
as_operand f d = is_such (is_left (is_such (is_left (is_such (is_left (is_such (is_left (is_such (is_left (is_such (is_left d) refl)) refl)) refl)) refl)) refl)) refl

as_short : (f : Flags) {l : Label} {cs : Slots} {i j : ℕ} {ls rest : Lexemes} → Takes rule (symbol Primary f) end (tree l cs end) i ls end j rest → Takes rule (symbol Short f) end (tree l cs end) i ls end j rest
unfolding rule rule_of
as_short f d =
    let shift : Takes rule (symbol Shift f) end _ _ _ end _ _ = is_such (is_left (is_such (is_left (is_such (is_left (as_operand f d)) refl)) refl)) refl in
    let relational : Takes rule (symbol Relational f) end _ _ _ end _ _ = is_such (is_left (is_left shift)) refl in
    is_such (is_left (is_such (is_left (is_such (is_left (is_such (is_left (is_such (is_left (is_such (is_left (is_such (is_left relational) refl)) refl)) refl)) refl)) refl)) refl)) refl

as_expression : (f : Flags) {ks : Slots} {l : Label} {cs us : Slots} {i j : ℕ} {ls rest : Lexemes} → Takes rule (symbol Primary f) end (tree l cs end) i ls end j rest → Takes rule (symbol Expression f) ks (tree l cs us) i ls us j rest
unfolding rule rule_of
as_expression f d = is_such (is_left (is_such (is_left (is_such (is_left (as_short f d)) refl)) refl)) refl

-- A string is an expression.
pub string_expression : {f : Flags} {ks ts us : Slots} {i j : ℕ} {ls rest : Lexemes} → Takes rule string ks ts i ls us j rest → Takes rule (symbol Expression f) ks ts i ls us j rest
unfolding rule rule_of
string_expression {f} (is_node (is_lexeme p)) = as_expression f (is_such (is_right (is_right (is_right (is_right (is_right (is_left (is_node (is_lexeme p)))))))) refl)

abbrev pub name_node : Make
name_node = record { kind = identifier_reference; op = no_op; flags = 0; extent = exact }

pub name_expression : {f : Flags} {ks us : Slots} {i : ℕ} {y : Lexeme} {rest : Lexemes} → IsTrue (seen (name_test f) y) → Takes rule (symbol Expression f) ks (tree (label_of name_node (next y rest) y.to rest) end us) i (next y rest) us y.to rest
unfolding rule rule_of
name_expression {f} h = as_expression f (is_such (is_right (is_left (is_such (is_node (is_lexeme h)) refl))) refl)

pub name_target : {f : Flags} {ks us : Slots} {i : ℕ} {y : Lexeme} {rest : Lexemes} → IsTrue (seen (name_test f) y) → Takes rule (symbol Target f) ks (tree (label_of name_node (next y rest) y.to rest) end us) i (next y rest) us y.to rest
unfolding rule rule_of
name_target h = is_such (is_left (is_such (is_left (is_such (is_node (is_lexeme h)) refl)) refl)) refl

pub first_is_string : {ks ts us : Slots} {i j : ℕ} {ls rest : Lexemes} → Takes rule string ks ts i ls us j rest → string_first ts ≡ true
first_is_string (is_node d) = refl

-- ---- statements of a string alone

abbrev is_statement : NodeKind → Bool
is_statement expression_statement = true
is_statement _ = false

-- it takes lexemes alone
abbrev quiet : G → Bool
quiet (lexeme p) = true
quiet (look p) = true
quiet (seq a b) = quiet a && quiet b
quiet g = false

-- it takes nothing
abbrev skips : G → Bool
skips (look p) = true
skips (ahead a) = quiet a
skips (alt a b) = skips a && skips b
skips g = false

-- it begins with an expression that a semicolon ends
abbrev ends_expression : G → Bool
ends_expression (seq a b) = skips a && ends_expression b
ends_expression (ended rows a) = simple a
ends_expression g = false

abbrev in_statement : Name → Bool
in_statement Item = true
in_statement ListItem = true
in_statement Statement = true
in_statement ExprStmt = true
in_statement Block = true
in_statement Empty = true
in_statement Var = true
in_statement If = true
in_statement Do = true
in_statement While = true
in_statement With = true
in_statement For = true
in_statement ForIn = true
in_statement ForOf = true
in_statement Continue = true
in_statement Break = true
in_statement Return = true
in_statement Throw = true
in_statement Switch = true
in_statement Try = true
in_statement Debugger = true
in_statement Labeled = true
in_statement Function = true
in_statement Class = true
in_statement Lexical = true
in_statement ImportDecl = true
in_statement ExportDecl = true
in_statement _ = false

-- a node that is no statement of an expression
abbrev no_statement : G → Bool
no_statement (node m a) = not (is_statement m.kind)
no_statement g = false

-- Each choice is a node, or a statement; one of an expression begins with that.
abbrev pub stating : G → Bool
stating (seq a b) = skips a && stating b
stating (alt a b) = stating a && stating b
stating (when c a) = stating a
stating (such n c) = in_statement n.name
stating (node m a) = not (is_statement m.kind) || ends_expression a
stating (keep a b) = no_statement b
stating g = false

stating_at : (n : Name) (f : Flags) → in_statement n ≡ true → stating (rule_of n f) ≡ true
unfolding rule_of covers
stating_at Item f h = refl
stating_at ListItem f h = refl
stating_at Statement f h = refl
stating_at ExprStmt f h = refl
stating_at Block f h = refl
stating_at Empty f h = refl
stating_at Var f h = refl
stating_at If f h = refl
stating_at Do f h = refl
stating_at While f h = refl
stating_at With f h = refl
stating_at For f h = refl
stating_at ForIn f h = refl
stating_at ForOf f h = refl
stating_at Continue f h = refl
stating_at Break f h = refl
stating_at Return f h = refl
stating_at Throw f h = refl
stating_at Switch f h = refl
stating_at Try f h = refl
stating_at Debugger f h = refl
stating_at Labeled f h = refl
stating_at Function f h = refl
stating_at Class f h = refl
stating_at Lexical f h = refl
stating_at ImportDecl f h = refl
stating_at ExportDecl f h = refl
stating_at _ f h = absurd (false≢true h)

stating_line : (n : Symbol) → in_statement n.name ≡ true → stating (rule n) ≡ true
unfolding rule
stating_line n h = stating_at n.name n.flags h

quietly : (g : G) {ks ts us : Slots} {i j : ℕ} {ls rest : Lexemes} → Takes rule g ks ts i ls us j rest → quiet g ≡ true → ts ≡ us
quietly (lexeme p) (is_lexeme q) h = refl
quietly (look p) (is_look q) h = refl
quietly (seq a b) (is_seq d e) h = let z = and_parts (quiet a) (quiet b) h in quietly a d z.0 ∙ quietly b e z.1
quietly _ d h = absurd (false≢true h)

skipped : (g : G) {ks ts us : Slots} {i j : ℕ} {ls rest : Lexemes} → Takes rule g ks ts i ls us j rest → skips g ≡ true → (ts ≡ us) × (ls ≡ rest)
skipped (look p) (is_look q) h = (refl, refl)
skipped (ahead a) (is_ahead d) h = (quietly a d h, refl)
skipped (alt a b) (is_left d) h = skipped a d (and_parts (skips a) (skips b) h).0
skipped (alt a b) (is_right d) h = skipped b d (and_parts (skips a) (skips b) h).1
skipped _ d h = absurd (false≢true h)

abbrev begins_string : Lexemes → Type 0
begins_string ls = IsTrue (seen (is Str) (here ls))

string_begins : {ks ts us : Slots} {i j : ℕ} {ls rest : Lexemes} → Takes rule string ks ts i ls us j rest → begins_string ls
string_begins (is_node (is_lexeme p)) = p

ended_string : (g : G) {ks ts us : Slots} {i j : ℕ} {ls rest : Lexemes} → Takes rule g ks ts i ls us j rest → ends_expression g ≡ true → string_first ts ≡ true → begins_string ls
ended_string (seq a b) (is_seq d e) h q = let z = and_parts (skips a) (ends_expression b) h in let s = skipped a d z.0 in subst (λ (v : Lexemes). begins_string v) (sym s.1) (ended_string b e z.1 (subst (λ (v : Slots). string_first v ≡ true) s.0 q))
ended_string (ended rows a) (is_ended {cs = cs} {us = us} p d e) h q = by_slots a cs us _ d h (subst (λ (v : Slots). string_first v ≡ true) p q) e
  where
    by_slots : (a : G) (cs us : Slots) {ks vs : Slots} {i j k : ℕ} {ls mid rest : Lexemes} (w : Look) → Takes rule a ks cs i ls end j mid → simple a ≡ true → string_first (append cs us) ≡ true → Takes rule (semicolon w) ks us j mid vs k rest → begins_string ls
    by_slots a (tree l ds us') us w d h q e = string_begins (alone a d h q)
    by_slots a end us w d h q e = absurd (takes_some a d h)
      where
        takes_some : (a : G) {ks : Slots} {i j : ℕ} {ls mid : Lexemes} → Takes rule a ks end i ls end j mid → simple a ≡ true → ⊥
        takes_some (alt a b) (is_left d) h = takes_some a d (and_parts (simple a) (simple b) h).0
        takes_some (alt a b) (is_right d) h = takes_some b d (and_parts (simple a) (simple b) h).1
        takes_some (when c a) (is_when t d) h = takes_some a d h
        takes_some (such n c) d h = elim d [ ]
        takes_some (node m a) d h = elim d [ ]
        takes_some _ d h = absurd (false≢true h)
    by_slots a (hole ds) us w d h q e = absurd (false≢true q)
ended_string _ d h q = absurd (false≢true h)

-- the first slot is a statement of a string alone
abbrev pub string_stated : Slots → Bool
string_stated (tree l cs us) = not (not_string (record { label = l; slots = cs }))
string_stated us = false

literal_first : (k : NodeKind) (o : Op) (fl : ℕ) (sp : Span) (m : Label) (ds : Slots) → not_string (record { label = record { kind = expression_statement; op = m.op; flags = m.flags; span = m.span }; slots = tree (record { kind = k; op = o; flags = fl; span = sp }) ds end }) ≡ false → is_literal k ≡ true
literal_first string_literal o fl sp m ds h = refl
literal_first _ o fl sp m ds h = absurd (false≢true (sym h))

parts_of : (k : NodeKind) (o : Op) (fl : ℕ) (sp : Span) (cs : Slots) → not_string (record { label = record { kind = k; op = o; flags = fl; span = sp }; slots = cs }) ≡ false → (is_statement k ≡ true) × (string_first cs ≡ true)
parts_of expression_statement o fl sp (tree l ds end) h = (refl, literal_first l.kind l.op l.flags l.span (record { kind = expression_statement; op = o; flags = fl; span = sp }) ds h)
parts_of expression_statement o fl sp (tree l ds (hole us)) h = absurd (false≢true (sym h))
parts_of expression_statement o fl sp (tree l ds (tree m es us)) h = absurd (false≢true (sym h))
parts_of expression_statement o fl sp end h = absurd (false≢true (sym h))
parts_of expression_statement o fl sp (hole us) h = absurd (false≢true (sym h))
parts_of _ o fl sp cs h = absurd (false≢true (sym h))

never_stated : (g : G) {ks ts us : Slots} {i j : ℕ} {ls rest : Lexemes} → Takes rule g ks ts i ls us j rest → no_statement g ≡ true → string_stated ts ≡ true → ⊥
never_stated (node m a) (is_node {cs = cs} {j = j} {ls = ls} {rest = rest} d) h q = let z = parts_of m.kind m.op m.flags (label_of m ls j rest).span cs (not-true _ q) in false≢true (sym (ap not z.0) ∙ h)
never_stated _ d h q = absurd (false≢true h)

-- A statement of a string alone begins with it.
pub stated : (g : G) {ks ts us : Slots} {i j : ℕ} {ls rest : Lexemes} → Takes rule g ks ts i ls us j rest → stating g ≡ true → string_stated ts ≡ true → begins_string ls
stated (seq a b) (is_seq d e) h q = let z = and_parts (skips a) (stating b) h in let s = skipped a d z.0 in subst (λ (v : Lexemes). begins_string v) (sym s.1) (stated b e z.1 (subst (λ (v : Slots). string_stated v ≡ true) s.0 q))
stated (alt a b) (is_left d) h q = stated a d (and_parts (stating a) (stating b) h).0 q
stated (alt a b) (is_right d) h q = stated b d (and_parts (stating a) (stating b) h).1 q
stated (when c a) (is_when t d) h q = stated a d h q
stated (such n c) (is_such d t) h q = stated (rule n) d (stating_line n h) q
stated (node m a) (is_node {cs = cs} {j = j} {ls = ls} {rest = rest} d) h q =
    let l = label_of m ls j rest in
    let z = parts_of m.kind m.op m.flags l.span cs (not-true _ q) in
    ended_string a d (holds_if (is_statement m.kind) _ h z.0) z.1
stated (keep a b) (is_keep d e) h q = absurd (never_stated b e h q)
stated _ d h q = absurd (false≢true h)

-- with the string's node in place, it is one; with another, it is none
pub string_statement : (l m : Label) (ds : Slots) (k : NodeKind) → m.kind ≡ expression_statement → is_literal k ≡ true → not_string (record { label = m; slots = tree (record { kind = k; op = l.op; flags = l.flags; span = l.span }) ds end }) ≡ false
string_statement l m ds string_literal e h = subst (λ (v : NodeKind). not_string (record { label = record { kind = v; op = m.op; flags = m.flags; span = m.span }; slots = tree (record { kind = string_literal; op = l.op; flags = l.flags; span = l.span }) ds end }) ≡ false) (sym e) refl
string_statement l m ds _ e h = absurd (false≢true h)

pub other_statement : (l m : Label) (ds : Slots) (k : NodeKind) → m.kind ≡ expression_statement → is_literal k ≡ false → not_string (record { label = m; slots = tree (record { kind = k; op = l.op; flags = l.flags; span = l.span }) ds end }) ≡ true
other_statement l m ds string_literal e h = absurd (false≢true (sym h))
other_statement l m ds k e h = subst (λ (v : NodeKind). not_string (record { label = record { kind = v; op = m.op; flags = m.flags; span = m.span }; slots = tree (record { kind = k; op = l.op; flags = l.flags; span = l.span }) ds end }) ≡ true) (sym e) refl
