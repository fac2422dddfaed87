-- What a call of which nothing is told read up to the end of the text is what the calls for targets require.
use Rattle.std.proofs.Common.{ℕ, ◌≡◌, Bool, true, false, IsTrue, List, length, refl, sym, ap, subst, ◌∙◌}
use Rattle.std.specs.Prelude.{Ok}
use Rattle.js_base.specs.Contexts.{has_flag, in_flag}
use Rattle.js_base.specs.declared.kind.Kind.{Kind}
use Rattle.js_base.specs.declared.kind.Kind.TheVariants.{Eof}
use Rattle.js_grammar.specs.Follow.{after, first_edge, looser}
use Rattle.js_grammar.specs.Grammar.{Lexeme, Lexemes, is_such, such, Takes}
use Rattle.js_grammar.specs.Insertion.{Row, after_expression, after_postfix, after_body, after_yield, after_declarator, after_word}
use Rattle.js_grammar.specs.Parsing.{Admits, always}
use Rattle.js_grammar.specs.Productions.{Flags, Symbol, at, plus_in, Assignment, Primary}
use Rattle.js_grammar.specs.Table.{rule}
use Rattle.js_grammar.specs.Trees.{Label, Slots, end, tree}
use Rattle.js_tree.specs.Holding.{Stands, stands}
use Rattle.js_tree.specs.Labels.{kind_of}
use Rattle.js_tree.specs.Nodes.{Node, node_at}
use Rattle.js_tree.specs.declared.id.NodeId.{NodeId}
use Rattle.js_tree.specs.declared.kind.NodeKind.TheVariants as made
use Rattle.js_cursor.specs.Parsers.{Parser}
use Rattle.parse_shared.specs.laws_shared.Answers.{Answers}
use Rattle.parse_shared.specs.laws_shared.Heads.{widened}
use Rattle.parse_shared.specs.laws_shared.Lexemes.{Lex, is_read_kind}
use Rattle.parse_shared.specs.laws_shared.States.{At, Standing, flags_of}
use Rattle.parse_shared.proofs.laws_shared.Here.{kind_here}
use Rattle.parse_shared.proofs.laws_shared.Moving.{standing, standing_for}
use Rattle.parse_shared.proofs.laws_shared.ReadKinds.{reads_so}
use Rattle.parse_targets.specs.Targets.{is_assignment, is_literal, literal_kind}
use Rattle.parse_targets.proofs.Targets.{Literal, of_array, of_object, by_braces, by_brackets, by_primary, is_literal_kind, literal_shape, may_literal, of_assignment}
use Rattle.parse_targets.specs.Covered.{AnyLabel, IsAssignment, IsLiteral, ReadBefore, an_expression}
use Rattle.parse_targets.proofs.WasRead.{read_before}

-- the end of the text binds nothing
binds_nothing : (b : Bool) (r : Row) (w e : Bool) → looser 2 b r Eof w e ≡ true
binds_nothing b after_body w e = refl
binds_nothing b after_yield true e = refl
binds_nothing b after_yield false e = refl
binds_nothing b after_postfix w true = refl
binds_nothing b after_postfix w false = refl
binds_nothing b after_expression true true = refl
binds_nothing b after_expression true false = refl
binds_nothing b after_expression false true = refl
binds_nothing b after_expression false false = refl
binds_nothing b after_declarator true true = refl
binds_nothing b after_declarator true false = refl
binds_nothing b after_declarator false true = refl
binds_nothing b after_declarator false false = refl
binds_nothing b after_word true true = refl
binds_nothing b after_word true false = refl
binds_nothing b after_word false true = refl
binds_nothing b after_word false false = refl

-- so it may stand behind every assignment
admitted : (f : Flags) (ts : Slots) (y : Lexeme) → y.kind ≡ Eof → Admits (after (at Assignment f)) ts y
admitted f ts y e = (by false after_body, by f.in_ (first_edge ts).row)
  where
    by : (b : Bool) (r : Row) → IsTrue (looser 2 b r y.kind y.newline y.escaped)
    by b r = subst (λ (k : Kind). looser 2 b r k y.newline y.escaped ≡ true) (sym e) (binds_nothing b r y.newline y.escaped)

pub expression_read : {p q : Parser} {id : NodeId} → Standing p → has_flag in_flag p.ctx ≡ true → Answers (at Assignment) p q (Ok id) → length q.errors ≡ length p.errors → q.token.kind ≡ Eof → ReadBefore an_expression AnyLabel q id
expression_read {p} {q} {id} s i x e k =
    let f : Flags = plus_in (widened true (flags_of p)) in
    let a : At p.text f p = standing_for s refl (λ j. record f { in_ = i j }) in
    let z = x p.text f a in
    let b = z.answer.at in
    let y = reads_so true (standing b) (sym (ap is_read_kind k)) in
    let l = subst (λ (t : List ℕ). Lex t q.prev_token_end y.0) b.text_is y.1 in
    read_before {n = an_expression} a refl z e tt y.0 l (λ ts. admitted f ts y.0 (kind_here b k refl y.0 l))

pub expression_stands : {p q : Parser} {id : NodeId} → Standing p → Answers (at Assignment) p q (Ok id) → Standing q
expression_stands {p} {q} s x = standing (x p.text (flags_of p) s).answer.at

-- ---- by the node's kind

pub held_kind : {ns : List Node} {id : NodeId} {l : Label} {cs : Slots} {rs : List ℕ} → Stands ns id.0 l cs rs → l.kind ≡ kind_of (node_at ns id).kind
held_kind (stands n h d) = refl

lower : (f : Flags) {l : Label} {cs : Slots} {i j : ℕ} {ls rest : Lexemes} → is_literal l.kind ≡ true → Takes rule (rule (at Assignment f)) end (tree l cs end) i ls end j rest → Takes rule (rule (at Primary f)) end (tree l cs end) i ls end j rest
lower f {l} {cs} {i} {j} {ls} {rest} h d = go (literal_shape h ((of_assignment f).down (may_literal l.kind h) (is_such d refl)))
  where
    go : Literal f l cs i ls j rest → Takes rule (rule (at Primary f)) end (tree l cs end) i ls end j rest
    go (of_array d) = by_brackets d
    go (of_object d) = by_braces f d

pub inside : {m : Symbol} {l : Label} {cs : Slots} {i j : ℕ} {ls rest : Lexemes} → Takes rule (such m always) end (tree l cs end) i ls end j rest → Takes rule (rule m) end (tree l cs end) i ls end j rest
inside (is_such d c) = d

pub literal_read : {q : Parser} {id : NodeId} (o : Bool) → ReadBefore an_expression AnyLabel q id → kind_of (node_at q.nodes id).kind ≡ literal_kind o → ReadBefore (at Primary) (IsLiteral o) q id
literal_read o z k =
    let x = z.read in
    let i = held_kind x.holds.stands ∙ k in
    record {
      flags = plus_in z.flags;
      cover = z.cover;
      wide = z.wide;
      read = record {
        lo = x.lo;
        hi = x.hi;
        label = x.label;
        slots = x.slots;
        holds = x.holds;
        place = x.place;
        lexemes = x.lexemes;
        behind = x.behind;
        rest = x.rest;
        only = record {
          utf8 = x.only.utf8;
          reached = x.only.reached;
          between = x.only.between;
          lexed = x.only.lexed;
          derived = lower (plus_in z.flags) (is_literal_kind o x.label.kind i) x.only.derived;
          only = λ u d. x.only.only u (inside ((of_assignment (plus_in z.flags)).up (by_primary d)));
        };
      };
      is = i;
    }

pub assignment_read : {q : Parser} {id : NodeId} → ReadBefore an_expression AnyLabel q id → (node_at q.nodes id).kind ≡ made.AssignmentExpression → ReadBefore an_expression IsAssignment q id
assignment_read z k = record {
  flags = z.flags;
  cover = z.cover;
  wide = z.wide;
  read = z.read;
  is = ap is_assignment (held_kind z.read.holds.stands ∙ ap kind_of k);
}
