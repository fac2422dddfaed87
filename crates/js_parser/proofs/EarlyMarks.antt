-- A regular expression in a tree stands where a lexeme does, and so does a name of a member; a template's part stands between the delimiters of one. So what is told of them has its mark; what is told of keys has it by `KeyMarks`.
use Rattle.std.proofs.Common.{ℕ, ◌≡◌, Bool, true, false, not, cond, ◌||◌, List, [], ◌++◌, Option, Some, None, nat_eq, ◌&&◌, ◌≤◌, ◌+◌, ◌-◌, arith, refl, sym, ap, subst, ◌∙◌}
use Rattle.std.specs.List.{All}
use Rattle.std.specs.Prelude.{is_some, IsTrue, IsUtf8}
use Rattle.std.proofs.lemmas.Bool.{false≢true, not-true, and_parts, eqb-true}
use Rattle.std.proofs.lemmas.List.Elements.{All-nil, All-cons, All-append}
use Rattle.js_base.specs.part_text.Decoding.{cooked}
use Rattle.js_base.specs.Spans.{LiesIn}
use Rattle.js_base.specs.declared.diagnostic.DiagnosticKind.{DiagnosticKind}
use Rattle.js_base.specs.declared.diagnostic.DiagnosticKind.TheVariants.{RegExpFlagUAndV, TemplateLiteral, PrivateNameConstructor, StaticPrototype, FieldConstructor, ConstructorAccessor, ConstructorGetterSetter, ConstructorAsync, ConstructorGenerator}
use Rattle.js_grammar.specs.Trees.{NodeKind, reg_exp_literal, template_element, with_clause, identifier_name, string_literal, private_identifier, function_expression, arrow_function_expression, Label, Op, Span, Slots, end, hole, tree, Tree, append}
use Rattle.js_grammar.specs.Grammar.{Look, seen, Extent, exact, inside, whole_text, Make, Lexeme, Lexemes, next, lexeme, ahead, seq, alt, when, many, commas, marked, node, ended, keep, span_of, label_of, commas_once, Takes, Derives, is_nothing, is_lexeme, is_look, is_text, is_ahead, is_empty_slot, is_seq, is_left, is_right, is_when, is_many, is_commas, is_such, is_marked, is_node, is_ended, is_keep, is_kept, nothing, never, look, text, empty_slot, such, kept}
use Rattle.js_grammar.specs.Lexed.{Lexes}
use Rattle.js_grammar.specs.Productions.{G, Flags, Name, Symbol, at, with_pife, Program}
use Rattle.js_grammar.specs.Table.{rule, rule_of}
use Rattle.js_grammar.specs.NodeNames.{characters_at}
use Rattle.js_grammar.specs.Marks.{EdgeOf, is_part, closing_width, the_start, the_end, inside_start, inside_end, a_lexeme, Mark, StandsAt}
use Rattle.js_grammar.specs.Settings.{Goal}
use Rattle.js_grammar.proofs.Behind.{lexed_behind}
use Rattle.js_grammar.proofs.Looks.{covers, covered}
use Rattle.js_grammar.proofs.CoverInitialisers.{Led, line_marked}
use Rattle.js_grammar.proofs.Renamed.{remarked, first_of, second_of, mark_of}
use Rattle.js_grammar.proofs.Finding.{holds_if}
use Rattle.js_tree.specs.Covering.{placed}
use Rattle.js_parser.specs.AttributeKeys.{told_of_keys, keys_in, is_clause}
use Rattle.js_parser.specs.Broken.{past, within as inner, broken_rule, told_rule, told_here, told_in, fault_at, name_fault, told_fault}
use Rattle.js_parser.proofs.KeyMarks.{KeysMarked, Clauses, clauses_marked}
use Rattle.js_parser.proofs.MemberNames.{each_told_at, is_name_kind, unnamed}
use Rattle.js_parser.specs.FlagScans.{has_both}
use Rattle.js_parser.specs.NodeSpans.{SlotsLie}
use Rattle.js_core.specs.laws_shared.Told.{unrelated_at}
use Rattle.js_parser.specs.declared.early.Position.{Position}
use Rattle.js_parser.specs.declared.early.Position.TheVariants.{Anywhere, InTemplate}

abbrev is_lexical : NodeKind → Bool
is_lexical reg_exp_literal = true
is_lexical template_element = true
is_lexical identifier_name = true
is_lexical string_literal = true
is_lexical private_identifier = true
is_lexical _ = false

-- names of members are among them
name_lexical : (k : NodeKind) → is_lexical k ≡ false → is_name_kind k ≡ false
name_lexical identifier_name e = e
name_lexical string_literal e = e
name_lexical private_identifier e = e
name_lexical k e = refl

-- a template part, with as much at its end as its delimiter takes
abbrev is_part_less : ℕ → Look
is_part_less b k w e = is_part k && nat_eq b (closing_width k)

-- of a lexeme that passes a test: the whole of it, or of a template part what stands between its delimiters
abbrev is_near : Extent → Look → Bool
is_near exact p = true
is_near (inside a b) p = nat_eq a 1 && covers p (is_part_less b)
is_near _ p = false

-- each such node is that of one lexeme, and no label of one is changed
abbrev Fits : G → Type 0
Fits (node m (lexeme p)) = (not (is_lexical m.kind) || is_near m.extent p) ≡ true
Fits (node m a) = (is_lexical m.kind ≡ false) × Fits a
Fits (ahead a) = Fits a
Fits (seq a b) = Fits a × Fits b
Fits (alt a b) = Fits a × Fits b
Fits (when q a) = Fits a
Fits (many a) = Fits a
Fits (commas x a) = Fits a
Fits (marked h n) = h ≡ with_pife
Fits (ended r a) = Fits a
Fits (keep a b) = Fits a × Fits b
Fits g = Unit {0}

abbrev fits : G → Bool
fits (node m (lexeme p)) = not (is_lexical m.kind) || is_near m.extent p
fits (node m a) = not (is_lexical m.kind) && fits a
fits (ahead a) = fits a
fits (seq a b) = fits a && fits b
fits (alt a b) = fits a && fits b
fits (when q a) = fits a
fits (many a) = fits a
fits (commas x a) = fits a
fits (ended r a) = fits a
fits (keep a b) = fits a && fits b
fits g = true

is_fit : (g : G) → remarked with_pife g ≡ g → fits g ≡ true → Fits g
is_fit (node m (lexeme p)) e h = h
is_fit (node m a) e h = let q = and_parts (not (is_lexical m.kind)) _ h in (not-true (is_lexical m.kind) q.0, is_fit a (ap first_of e) q.1)
is_fit (ahead a) e h = is_fit a (ap first_of e) h
is_fit (seq a b) e h = let q = and_parts (fits a) _ h in (is_fit a (ap first_of e) q.0, is_fit b (ap second_of e) q.1)
is_fit (alt a b) e h = let q = and_parts (fits a) _ h in (is_fit a (ap first_of e) q.0, is_fit b (ap second_of e) q.1)
is_fit (when q a) e h = is_fit a (ap first_of e) h
is_fit (many a) e h = is_fit a (ap first_of e) h
is_fit (commas x a) e h = is_fit a (ap first_of e) h
is_fit (marked k n) e h = sym (ap mark_of e)
is_fit (ended r a) e h = is_fit a (ap first_of e) h
is_fit (keep a b) e h = let q = and_parts (fits a) _ h in (is_fit a (ap first_of e) q.0, is_fit b (ap second_of e) q.1)
is_fit nothing e h = tt
is_fit never e h = tt
is_fit (lexeme p) e h = tt
is_fit (look p) e h = tt
is_fit (text p) e h = tt
is_fit empty_slot e h = tt
is_fit (such n c) e h = tt
is_fit kept e h = tt

line_fits : (n : Name) (f : Flags) → fits (rule_of n f) ≡ true
unfolding rule_of covers
line_fits Program f = refl
line_fits n f = refl

line : (n : Name) (f : Flags) → Fits (rule_of n f)
line n f = is_fit (rule_of n f) (line_marked n f) (line_fits n f)

rule_fits : (n : Symbol) → Fits (rule n)
unfolding rule
rule_fits n = line n.name n.flags

commas_fit : (x : Bool) (a : G) → Fits a → Fits (commas_once x a)
commas_fit true a h = (h, ((tt, (h, tt)), tt))
commas_fit false a h = (h, ((tt, h), tt))

within : (m : Make) (a : G) → Fits (node m a) → Fits a
within m (lexeme p) w = tt
within m a w = w.1

-- a mark of parentheses is on functions alone
pife_of : (k : NodeKind) (o : Op) (n : ℕ) (s : Span) → (is_lexical (with_pife (record { kind = k; op = o; flags = n; span = s })).kind ≡ is_lexical k) × ((with_pife (record { kind = k; op = o; flags = n; span = s })).span ≡ s)
pife_of function_expression o n s = (refl, refl)
pife_of arrow_function_expression o n s = (refl, refl)
pife_of k o n s = (refl, refl)

module _ (Q : Span → Type 0) where
  -- each such node among the slots has a span of which Q is so
  abbrev Each : Slots → Type 0
  Each end = Unit {0}
  Each (hole us) = Each us
  Each (tree l cs us) = (is_lexical l.kind ≡ true → Q l.span) × (Each cs × Each us)

  joined : (cs us : Slots) → Each cs → Each us → Each (append cs us)
  joined end us a b = b
  joined (hole cs) us a b = joined cs us a b
  joined (tree l ds cs) us a b = (a.0, (a.1.0, joined cs us a.1.1 b))

-- of which it is so near each lexeme
module _ (Q : Span → Type 0) (L : ℕ → Lexeme → Type 0) (told : (i : ℕ) (x : Lexeme) → L i x → (e : Extent) (p : Look) → is_near e p ≡ true → IsTrue (seen p x) → (ls : Lexemes) → Q (span_of e (next x ls) x.to ls)) where
  at_node : (m : Make) (a : G) → Fits (node m a) → {ks cs us : Slots} {i j : ℕ} {ls rest : Lexemes} → Takes rule a ks cs i ls us j rest → Lexes L i ls → is_lexical m.kind ≡ true → Q (label_of m ls j rest).span
  at_node m (lexeme p) w {i = i} (is_lexeme {x = x} {ls = ls} h) l q = told i x l.0 m.extent p (holds_if (is_lexical m.kind) (is_near m.extent p) w q) h ls
  at_node m a w d l q = absurd (false≢true (sym w.0 ∙ q))

  each_in : {g : G} {ks ts us : Slots} {i j : ℕ} {ls rest : Lexemes} → Takes rule g ks ts i ls us j rest → Fits g → Lexes L i ls → Each Q ks → Each Q us → Each Q ts
  each_in is_nothing w l a b = b
  each_in (is_lexeme h) w l a b = b
  each_in (is_look h) w l a b = b
  each_in (is_text h) w l a b = b
  each_in (is_ahead d) w l a b = each_in d w l a b
  each_in is_empty_slot w l a b = b
  each_in (is_seq x y) w l a b = each_in x w.0 l a (each_in y w.1 (lexed_behind L x l) a b)
  each_in (is_left x) w l a b = each_in x w.0 l a b
  each_in (is_right x) w l a b = each_in x w.1 l a b
  each_in (is_when q x) w l a b = each_in x w l a b
  each_in (is_many x) w l a b = each_in x ((w, w), tt) l a b
  each_in (is_commas {b = c} {a = g} x) w l a b = each_in x (commas_fit c g w) l a b
  each_in (is_such {n = n} d c) w l a b = let x = each_in d (rule_fits n) l tt tt in (x.0, (x.1.0, b))
  each_in (is_marked {h = h} {n = n} {l = m} {cs = cs} d) w l a b =
      let x = each_in d (rule_fits n) l tt tt in
      let y = pife_of m.kind m.op m.flags m.span in
      (λ q. subst (λ (v : Label → Label). Q (v m).span) (sym w) (subst Q (sym y.1) (x.0 (sym y.0 ∙ (ap (λ (v : Label → Label). is_lexical (v m).kind) (sym w) ∙ q)))), (x.1.0, b))
  each_in (is_node {m = m} {a = g} d) w l a b = (at_node m g w d l, (each_in d (within m g w) l a tt, b))
  each_in (is_ended {ks = ks} {cs = cs} {us = us} q d x) w l a b = subst (Each Q) (sym q) (joined Q cs us (each_in d w l a tt) (each_in x (tt, tt) (lexed_behind L d l) a b))
  each_in (is_keep x y) w l a b = each_in y w.1 (lexed_behind L x l) (each_in x w.0 l a tt) b
  each_in (is_kept {ks = ks} {us = us} q) w l a b = subst (Each Q) (sym q) (joined Q ks us a b)

-- ---- marks

before_end : (from to a b c : ℕ) → a ≡ 1 → b ≡ c → from + a ≤ to - b → to ≡ to - b + c
before_end from to a b c e q o = omega arith

module _ (goal : Goal) (text : List ℕ) where
  -- a lexeme begins there, or what stands within one; and so it ends, as far as it does
  abbrev Edged : Span → Type 0
  Edged s = EdgeOf goal text s.from × (s.from ≤ s.to → EdgeOf goal text s.to)

  edged : (i : ℕ) (x : Lexeme) → Led text i x → (e : Extent) (p : Look) → is_near e p ≡ true → IsTrue (seen p x) → (ls : Lexemes) → Edged (span_of e (next x ls) x.to ls)
  edged i x h exact p q s ls = (the_start (a_lexeme h.0 h.1) refl, λ o. the_end (a_lexeme h.0 h.1) refl)
  edged i x h whole_text p q s ls = absurd (false≢true q)
  edged i x h (inside a b) p q s ls =
      let y = and_parts (nat_eq a 1) (covers p (is_part_less b)) q in
      let z = and_parts (is_part x.kind) (nat_eq b (closing_width x.kind)) (covered p (is_part_less b) y.1 x.kind x.newline x.escaped s) in
      (inside_start (a_lexeme h.0 h.1) z.0 (let n = eqb-true a 1 y.0 in omega arith), λ o. inside_end (a_lexeme h.0 h.1) z.0 (before_end x.from x.to a b (closing_width x.kind) (eqb-true a 1 y.0) (eqb-true b (closing_width x.kind) z.1) o))

  abbrev Lies : Span → Type 0
  Lies s = LiesIn (placed s) text

  mark_of_one : (k : DiagnosticKind) (s : Span) → (EdgeOf goal text s.from × EdgeOf goal text s.to → StandsAt k goal text (placed s) None None) → Edged s → Lies s → Mark goal text (unrelated_at k (placed s))
  mark_of_one k s f e h = record { ordered = h.ordered; within = h.ends_whole.0; begins_between = h.starts_whole; ends_between = h.ends_whole; stands = f (e.0, e.1 h.ordered) }

  marked_if : (b : Bool) (k : DiagnosticKind) (s : Span) → Mark goal text (unrelated_at k (placed s)) → All (Mark goal text) (told_rule (cond b (Some k) None) (placed s))
  marked_if true k s m = All-cons (Mark goal text) (unrelated_at k (placed s)) [] m (All-nil (Mark goal text))
  marked_if false k s m = All-nil (Mark goal text)

  marked_unless : (b : Bool) (k : DiagnosticKind) (s : Span) → Mark goal text (unrelated_at k (placed s)) → All (Mark goal text) (told_rule (cond b None (Some k)) (placed s))
  marked_unless true k s m = All-nil (Mark goal text)
  marked_unless false k s m = All-cons (Mark goal text) (unrelated_at k (placed s)) [] m (All-nil (Mark goal text))

  own_marked : (p : Position) (k : NodeKind) (w : List ℕ) (s : Span) → (is_lexical k ≡ true → Edged s) → Lies s → All (Mark goal text) (told_rule (broken_rule p k w) (placed s))
  own_marked p reg_exp_literal w s e h = marked_if (has_both w) RegExpFlagUAndV s (mark_of_one RegExpFlagUAndV s (λ x. (x, (refl, refl))) (e refl) h)
  own_marked InTemplate template_element w s e h = marked_unless (is_some (cooked w)) TemplateLiteral s (mark_of_one TemplateLiteral s (λ x. (x, (refl, refl))) (e refl) h)
  own_marked p k w s e h = All-nil (Mark goal text)

  name_marked : (l : Label) (cs : Slots) → Each Edged cs → SlotsLie text cs → All (Mark goal text) (told_fault (name_fault text l cs))
  name_marked l end e h = All-nil (Mark goal text)
  name_marked l (hole us) e h = All-nil (Mark goal text)
  name_marked l (tree k ks us) e h = go (is_lexical k.kind) refl
    where
      one : (d : DiagnosticKind) → (EdgeOf goal text k.span.from × EdgeOf goal text k.span.to → StandsAt d goal text (placed k.span) None None) → Edged k.span → Mark goal text (unrelated_at d (placed k.span))
      one d f x = mark_of_one d k.span f x h.0

      go : (b : Bool) → is_lexical k.kind ≡ b → All (Mark goal text) (told_fault (name_fault text l (tree k ks us)))
      go true q = let x = e.0 q in each_told_at (Mark goal text) (placed k.span) (one PrivateNameConstructor (λ y. (y, (refl, refl))) x) (one StaticPrototype (λ y. (y, (refl, refl))) x) (one FieldConstructor (λ y. (y, (refl, refl))) x) (one ConstructorAccessor (λ y. (y, (refl, refl))) x) (one ConstructorGetterSetter (λ y. (y, (refl, refl))) x) (one ConstructorAsync (λ y. (y, (refl, refl))) x) (one ConstructorGenerator (λ y. (y, (refl, refl))) x) text l (tree k ks us)
      go false q = subst (λ (r : Option DiagnosticKind). All (Mark goal text) (told_fault (fault_at r (placed k.span)))) (sym (unnamed text l k ks us (name_lexical k.kind q))) (All-nil (Mark goal text))

  of_keys_marked : (k : NodeKind) (cs : Slots) → (is_clause k ≡ true → KeysMarked goal text cs) → SlotsLie text cs → All (Mark goal text) (told_of_keys text k (keys_in cs))
  of_keys_marked with_clause cs f h = f refl h
  of_keys_marked k cs f h = All-nil (Mark goal text)

  all_marked : (p : Position) (us : Slots) → Each Edged us → Clauses goal text us → SlotsLie text us → All (Mark goal text) (told_in text p us)
  all_marked p end e c h = All-nil (Mark goal text)
  all_marked p (hole us) e c h = all_marked p us e c h
  all_marked p (tree l cs us) e c h =
      All-append (Mark goal text) (told_here text p l cs) (told_in text (inner p l.kind) cs ++ told_in text (past p) us)
      (All-append (Mark goal text) (told_rule (broken_rule p l.kind (characters_at text l)) (placed l.span)) (told_fault (name_fault text l cs) ++ told_of_keys text l.kind (keys_in cs)) (own_marked p l.kind (characters_at text l) l.span e.0 h.0)
      (All-append (Mark goal text) (told_fault (name_fault text l cs)) (told_of_keys text l.kind (keys_in cs)) (name_marked l cs e.1.0 h.1) (of_keys_marked l.kind cs c.0 h.1)))
      (All-append (Mark goal text) (told_in text (inner p l.kind) cs) (told_in text (past p) us) (all_marked (inner p l.kind) cs e.1.0 c.1.0 h.1) (all_marked (past p) us e.1.1 c.1.1 h.2))

  pub told_marked : (f : Flags) (t : Tree) {j : ℕ} {ls rest : Lexemes} → IsUtf8 text → Lexes (Led text) 0 ls → Derives rule (at Program f) t 0 ls j rest → SlotsLie text t.slots → All (Mark goal text) (told_in text Anywhere t.slots)
  told_marked f t u l d h = all_marked Anywhere t.slots (each_in Edged (Led text) edged d (rule_fits (at Program f)) l tt tt).1.0 (clauses_marked goal text f t u l d) h
