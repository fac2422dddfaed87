-- The nodes of a tree that is derived from lexemes of a text have there what their kinds ask for.
use Rattle.std.proofs.Common.{ℕ, ◌≡◌, ◌+◌, ◌-◌, ◌++◌, Bool, true, false, ◌&&◌, List, [], ◌∷◌, nat_eq, refl, sym, subst, ap, ◌∙◌, eqb-true, arith}
use Rattle.std.specs.Prelude.{codes, slice_range, IsUtf8, IsCharBoundary}
use Rattle.std.specs.Str.{chars}
use Rattle.std.proofs.lemmas.Bool.{false≢true, and_parts}
use Rattle.std.proofs.lemmas.Str.{IsCharBoundary-start}
use Rattle.js_base.specs.Texts.{words, punctuators}
use Rattle.js_base.specs.Keywords.{keyword_of}
use Rattle.js_base.specs.declared.kind.Kind.{Kind}
use Rattle.js_base.specs.declared.kind.Kind.TheVariants.{Ident}
use Rattle.js_grammar.specs.Trees.{NodeKind, function_expression, arrow_function_expression, Op, Label, Span, Slots, end, hole, tree, Tree, append}
use Rattle.js_grammar.specs.Grammar.{Look, Extent, exact, inside, Lexeme, Lexemes, last, next, lexeme, seq, alt, ahead, when, many, commas, marked, node, ended, keep, span_of, Takes, Derives, is_nothing, is_lexeme, is_look, is_text, is_ahead, is_empty_slot, is_seq, is_left, is_right, is_when, is_many, is_commas, is_such, is_marked, is_node, is_ended, is_keep, is_kept}
use Rattle.js_grammar.specs.Longest.{joined}
use Rattle.js_grammar.specs.Lexed.{Passing, passing_of, IsLexeme, NextLexeme, Lexes}
use Rattle.js_grammar.specs.Lexemes.{LexicalGoal, is_word, division, regular_expression, template_tail, hashbang}
use Rattle.js_grammar.specs.LexicalFaults.{behind}
use Rattle.js_grammar.specs.CoverInitialisers.{with_cover}
use Rattle.js_grammar.specs.Productions.{Flags, Name, Symbol, G, at, Program, with_pife}
use Rattle.js_grammar.specs.Table.{rule, rule_of}
use Rattle.js_grammar.specs.Marks.{is_part, closing_width}
use Rattle.js_grammar.proofs.Behind.{lexed_behind}
use Rattle.js_grammar.proofs.CoverInitialisers.{line_marked}
use Rattle.js_grammar.proofs.Looks.{covers, covered}
use Rattle.js_grammar.proofs.Renamed.{remarked, first_of, second_of, mark_of}
use Rattle.js_cursor.specs.part_words.Places.{Word}
use Rattle.js_cursor.proofs.part_words.Flags.{spelled}
use Rattle.js_cursor.proofs.js_lex.Again.{cancel}
use Rattle.js_cursor.proofs.part_scan.StringPlaces.{front_word}
use Rattle.js_core.specs.Readings.{parameters}
use Rattle.js_parser.proofs.Validity.{all_plain}
use Rattle.js_parser.specs.SameSource.{Source, one_lexeme, inside_part, any_source, source_of, IsOneLexeme, HasSource, HaveSources, ReadingsHaveSources}

-- ---- lexemes of a text stand there

-- a lexeme of the text, its characters, and that it ends between characters
record Standing (text : List ℕ) (y : Lexeme) : Type 0 where
  pub one : (passes : Kind → Bool) → passes y.kind ≡ true → IsOneLexeme text passes y.from y.to
  pub same : (passes : Kind → Bool) (h : passes y.kind ≡ true) → (one passes h).kind ≡ y.kind
  pub boundary : IsCharBoundary text y.to

stands : {p : Passing} {text : List ℕ} {s : ℕ} {y : Lexeme} → IsUtf8 text → IsCharBoundary text s → NextLexeme p text s y → Standing text y
stands {p} {text} {s} {y} u b l =
    let v : Word text s y.from (joined l.trivia) = subst (λ (n : ℕ). Word text s n (joined l.trivia)) (sym l.from) (front_word text s (joined l.trivia) (l.word ++ l.rest) u b l.stands.splits) in
    let here : behind text y.from ≡ l.word ++ l.rest = cancel (joined l.trivia) (behind text y.from) (l.word ++ l.rest) (sym v.splits ∙ l.stands.splits) in
    let w : Word text y.from y.to l.word = subst (λ (n : ℕ). Word text y.from n l.word) (sym l.to) (front_word text y.from l.word l.rest u v.boundary here) in
    let is : chars (slice_range text y.from y.to) ≡ l.word = spelled text y.from y.to l.word u v.boundary (let e = l.to in omega arith) w in
    let rest : behind text y.to ≡ l.rest = cancel l.word (behind text y.to) l.rest (sym w.splits ∙ here) in
    record {
      one = λ passes h. record {
        goal = l.goal;
        kind = y.kind;
        is = subst (λ (r : List ℕ). IsLexeme l.goal y.from (chars (slice_range text y.from y.to)) r y.kind) (sym rest) (subst (λ (cs : List ℕ). IsLexeme l.goal y.from cs l.rest y.kind) (sym is) l.lexeme);
        passing = h;
      };
      same = λ passes h. refl;
      boundary = w.boundary;
    }

-- all of them do
all_stand : (p : Passing) {text : List ℕ} → IsUtf8 text → (s : ℕ) (ls : Lexemes) → IsCharBoundary text s → Lexes (NextLexeme p text) s ls → Lexes (λ n y. Standing text y) s ls
all_stand p u s (last x) b l = stands u b l
all_stand p u s (next x ls) b l = let a = stands u b l.0 in (a, all_stand p u x.to ls a.boundary l.1)

-- ---- the lines of the table

-- the part of a template that a lexeme of this kind is ends with so many characters
abbrev ends_with : ℕ → Look
ends_with c k w e = is_part k && nat_eq (closing_width k) c

abbrev passing : (Kind → Bool) → Look
passing passes k w e = passes k

-- a node of such a kind is one lexeme
abbrev is_read_as : Source → Extent → G → Bool
is_read_as (one_lexeme passes) exact (lexeme p) = covers p (passing passes)
is_read_as inside_part (inside a c) (lexeme p) = nat_eq a 1 && covers p (ends_with c)
is_read_as any_source x g = true
is_read_as s x g = false

abbrev Right : G → Type 0
Right (ahead a) = Right a
Right (seq a b) = Right a × Right b
Right (alt a b) = Right a × Right b
Right (when c a) = Right a
Right (many a) = Right a
Right (commas b a) = Right a
Right (marked h n) = h ≡ with_pife
Right (node m a) = (is_read_as (source_of m.kind) m.extent a ≡ true) × Right a
Right (ended r a) = Right a
Right (keep a b) = Right a × Right b
Right g = Unit {0}

abbrev right : G → Bool
right (ahead a) = right a
right (seq a b) = right a && right b
right (alt a b) = right a && right b
right (when c a) = right a
right (many a) = right a
right (commas b a) = right a
right (node m a) = is_read_as (source_of m.kind) m.extent a && right a
right (ended r a) = right a
right (keep a b) = right a && right b
right g = true

made_right : (g : G) → remarked with_pife g ≡ g → right g ≡ true → Right g
made_right (ahead a) e h = made_right a (ap first_of e) h
made_right (seq a b) e h = let q = and_parts (right a) _ h in (made_right a (ap first_of e) q.0, made_right b (ap second_of e) q.1)
made_right (alt a b) e h = let q = and_parts (right a) _ h in (made_right a (ap first_of e) q.0, made_right b (ap second_of e) q.1)
made_right (when c a) e h = made_right a (ap first_of e) h
made_right (many a) e h = made_right a (ap first_of e) h
made_right (commas b a) e h = made_right a (ap first_of e) h
made_right (marked k n) e h = sym (ap mark_of e)
made_right (node m a) e h = let q = and_parts (is_read_as (source_of m.kind) m.extent a) _ h in (q.0, made_right a (ap first_of e) q.1)
made_right (ended r a) e h = made_right a (ap first_of e) h
made_right (keep a b) e h = let q = and_parts (right a) _ h in (made_right a (ap first_of e) q.0, made_right b (ap second_of e) q.1)
made_right g e h = tt

-- computed for each nonterminal
line_right : (n : Name) (f : Flags) → right (rule_of n f) ≡ true
unfolding rule_of covers words
line_right Program f = refl
line_right n f = refl

right_line : (n : Symbol) → Right (rule n)
unfolding rule
right_line n = made_right (rule_of n.name n.flags) (line_marked n.name n.flags) (line_right n.name n.flags)

-- ---- trees

module _ (text : List ℕ) where
  abbrev Stand : ℕ → Lexeme → Type 0
  Stand n y = Standing text y

  node_has : (s : Source) (x : Extent) (a : G) → is_read_as s x a ≡ true → {ks cs us : Slots} {i j : ℕ} {ls rest : Lexemes} → Takes rule a ks cs i ls us j rest → Lexes Stand i ls → HasSource text s (span_of x ls j rest)
  node_has (one_lexeme passes) exact (lexeme p) h (is_lexeme {x = x} q) l = l.0.one passes (covered p (passing passes) h x.kind x.newline x.escaped q)
  node_has inside_part (inside a c) (lexeme p) h (is_lexeme {x = x} q) l =
      let r = and_parts (nat_eq a 1) _ h in
      let k = and_parts (is_part x.kind) _ (covered p (ends_with c) r.1 x.kind x.newline x.escaped q) in
      let one : a ≡ 1 = eqb-true a 1 r.0 in
      let close : closing_width x.kind ≡ c = eqb-true (closing_width x.kind) c k.1 in
      record {
        start = x.from;
        stop = x.to;
        part = l.0.one is_part k.0;
        from_is = ap (λ (n : ℕ). x.from + n) one;
        to_is = ap (λ (n : ℕ). x.to - n) (sym close ∙ sym (ap closing_width (l.0.same is_part k.0)));
      }
  node_has any_source x a h d l = tt
  node_has s x a h d l = absurd (false≢true h)

  appended : (a b : Slots) → HaveSources text a → HaveSources text b → HaveSources text (append a b)
  appended end b h k = k
  appended (hole a) b h k = appended a b h k
  appended (tree l cs a) b h k = (h.0, h.1, appended a b h.2 k)

  pife_has : (k : NodeKind) (o : Op) (n : ℕ) (s : Span) → HasSource text (source_of k) s → HasSource text (source_of (with_pife (record { kind = k; op = o; flags = n; span = s })).kind) (with_pife (record { kind = k; op = o; flags = n; span = s })).span
  pife_has function_expression o n s h = h
  pife_has arrow_function_expression o n s h = h
  pife_has k o n s h = h

  taken : {g : G} {ks ts us : Slots} {i j : ℕ} {ls rest : Lexemes} → Takes rule g ks ts i ls us j rest → Right g → Lexes Stand i ls → HaveSources text ks → HaveSources text us → HaveSources text ts
  taken is_nothing p l k u = u
  taken (is_lexeme c) p l k u = u
  taken (is_look c) p l k u = u
  taken (is_text c) p l k u = u
  taken (is_ahead d) p l k u = taken d p l k u
  taken is_empty_slot p l k u = u
  taken (is_seq x y) p l k u = taken x p.0 l k (taken y p.1 (lexed_behind Stand x l) k u)
  taken (is_left x) p l k u = taken x p.0 l k u
  taken (is_right x) p l k u = taken x p.1 l k u
  taken (is_when c x) p l k u = taken x p l k u
  taken (is_many x) p l k u = taken x ((p, p), tt) l k u
  taken (is_commas {b = true} x) p l k u = taken x (p, ((tt, (p, tt)), tt)) l k u
  taken (is_commas {b = false} x) p l k u = taken x (p, ((tt, p), tt)) l k u
  taken (is_such {n = n} x c) p l k u = let r = taken x (right_line n) l tt tt in (r.0, r.1, u)
  taken (is_marked {h = h} {n = n} {l = b} x) p l k u =
      let r = taken x (right_line n) l tt tt in
      (subst (λ (f : Label → Label). HasSource text (source_of (f b).kind) (f b).span) (sym p) (pife_has b.kind b.op b.flags b.span r.0), r.1, u)
  taken (is_node {m = m} {a = a} x) p l k u = (node_has (source_of m.kind) m.extent a p.0 x l, taken x p.1 l k tt, u)
  taken (is_ended {cs = cs} {us = us} q x y) p l k u = subst (HaveSources text) (sym q) (appended cs us (taken x p l k tt) (taken y (tt, tt) (lexed_behind Stand x l) k u))
  taken (is_keep x y) p l k u = taken y p.1 (lexed_behind Stand x l) (taken x p.0 l k tt) u
  taken (is_kept {ks = ks} {us = us} q) p l k u = subst (HaveSources text) (sym q) (appended ks us k u)

  derived_sources : (n : Symbol) (t : Tree) → {i j : ℕ} {ls rest : Lexemes} → Derives rule n t i ls j rest → Lexes Stand i ls → HaveSources text (tree t.label t.slots end)
  derived_sources n t d l = taken d (right_line n) l tt tt

pub readings_have_sources : ReadingsHaveSources
readings_have_sources cover text goal o t u r = derived_sources text (at Program (with_cover cover (parameters goal o))) t r.derived (all_stand (passing_of goal) u 0 r.lexemes (IsCharBoundary-start text u) (all_plain text goal r.lexemes r.lexed))

-- ---- an example: of the text `ab` the whole is a name, and its first character isn't one

whole_is_one : IsOneLexeme (codes "ab") is_word 0 2
unfolding words chars keyword_of punctuators
whole_is_one = record { goal = division; kind = Ident; is = record { longest = refl; kind = refl; begins = refl; apart = refl }; passing = refl }

front_is_none : IsOneLexeme (codes "ab") is_word 0 1 → ⊥
unfolding chars words keyword_of
front_is_none x = go x.goal x.kind x.is
  where
    go : (g : LexicalGoal) (k : Kind) → IsLexeme g 0 (97 ∷ []) (98 ∷ []) k → ⊥
    go division k h = false≢true h.longest
    go regular_expression k h = let e = h.kind in cc
    go template_tail k h = let e = h.kind in cc
    go hashbang k h = let e = h.kind in cc
