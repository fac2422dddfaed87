-- What is told of parameters that a getter or a setter may not have (ECMA-262, 15.4).
use Rattle.std.proofs.Common.{ℕ, ◌≡◌, ◌<◌, inl, inr, List, length, None, true, false, refl, sym, ap, subst, arith, ◌∙◌}
use Rattle.std.specs.Prelude.{IsCharBoundary, Result, Ok, Err}
use Rattle.std.proofs.lemmas.Bool.{and_parts, false≢true}
use Rattle.js_base.specs.declared.diagnostic.Diagnostic.{Diagnostic}
use Rattle.js_base.specs.declared.diagnostic.DiagnosticKind.{DiagnosticKind}
use Rattle.js_base.specs.declared.diagnostic.DiagnosticKind.TheVariants.{GetterParameters}
use Rattle.js_base.specs.declared.kind.Kind.{Kind}
use Rattle.js_base.specs.declared.kind.Kind.TheVariants.{Dot3, LParen, RAngle, RParen, Undetermined}
use Rattle.js_base.specs.declared.span.Span.{Span}
use Rattle.js_base.specs.declared.token.Token.{Token}
use Rattle.js_base.specs.Kinds.{same_kind, one_of_kinds}
use Rattle.js_base.proofs.KindLemmas.{kind_of_same}
use Rattle.js_grammar.specs.Trees.{Slots, end}
use Rattle.js_grammar.specs.Grammar.{Lexeme, Lexemes, Look, here, next, ◌▸◌, Takes, is_nothing, is_lexeme, is_seq, is_node}
use Rattle.js_grammar.specs.LexicalFaults.{Reached}
use Rattle.js_grammar.specs.Lexed.{Lexes}
use Rattle.js_grammar.specs.Marks.{EdgeOf, Mark, StandsAt}
use Rattle.js_grammar.specs.Parsing.{plain, full, Fails}
use Rattle.js_grammar.specs.Productions.{G, Flags, at, tok, Param, Params}
use Rattle.js_grammar.specs.Productions.{sym as symbol}
use Rattle.js_grammar.specs.Settings.{Goal}
use Rattle.js_grammar.specs.Table.{rule}
use Rattle.js_grammar.specs.FirstSets.{first}
use Rattle.js_grammar.proofs.Calculus.{here_at}
use Rattle.js_grammar.proofs.First.{starts}
use Rattle.js_grammar.proofs.FirstClaims.{firsts}
use Rattle.js_grammar.proofs.FirstRules.{fails_here}
use Rattle.js_grammar.proofs.Lexemes.{first_or}
use Rattle.js_grammar.proofs.Looks.{apart, not_both}
use Rattle.laws_shared.specs.js_lex.Reading.{is_right_angle}
use Rattle.laws_shared.specs.js_tree.declared.id.NodeId.{NodeId}
use Rattle.laws_shared.specs.js_tree.Nodes.{Node}
use Rattle.laws_shared.specs.js_tree.Holding.{Holds, Keeps}
use Rattle.laws_shared.specs.js_cursor.Moves.{KeepsDiagnostic, Peeks}
use Rattle.laws_shared.specs.js_cursor.Parsers.{Parser}
use Rattle.laws_shared.specs.js_cursor.Places.{goal}
use Rattle.laws_shared.specs.js_cursor.declared.stop.Stop.{Stop}
use Rattle.laws_shared.specs.Answers.{Numbered, unclean}
use Rattle.laws_shared.specs.Classes.{IsEarly}
use Rattle.laws_shared.specs.Lexemes.{Lex, other_goals, signs, spot}
use Rattle.laws_shared.specs.Methods.{ReadsWhole, WholeOutcome, WholeTaken, parameters_of}
use Rattle.laws_shared.specs.States.{At, Same}
use Rattle.laws_shared.specs.Told.{unrelated_at}
use Rattle.laws_shared.specs.declared.nested.MethodForm.TheVariants.{Getter, Setter}
use Rattle.laws_shared.proofs.Edges.{last_edge}
use Rattle.laws_shared.proofs.Giving.{kept_one}
use Rattle.laws_shared.proofs.Here.{told, uncut, unsettled}
use Rattle.laws_shared.proofs.Moving.{same_both, stops_so}
use Rattle.laws_shared.proofs.Paths.{walked_to}
use Rattle.laws_shared.proofs.Told.{told_at, told_same}
use Rattle.laws_shared.proofs.Verdicts.{after as grown_behind}
use Rattle.laws_patterns.specs.Accessors.{IsTold, KindBehind, TellsParameters, ToldOutcome, ToldParameters, beside_parameters}
use Rattle.laws_patterns.specs.Bindings.{RestBegins}
use Rattle.laws_patterns.proofs.Peeks.{peeked_kind, peeked_whole}
use Rattle.laws_patterns.proofs.RestInitialisers.{rest_begins}

-- ---- none of an accessor's parameters are derived

module _ {text : List ℕ} {f : Flags} {p : Parser} (a : At text f p) (k : p.token.kind ≡ LParen) where
  -- what stands behind the parenthesis
  behind_paren : {x : Lexeme} (ls : Lexemes) → Lexes (Lex text) p.prev_token_end (next x ls) → Lex text p.token.span.end (here ls)
  behind_paren {x} ls l = subst (λ (v : ℕ). Lex text v (here ls)) (sym (told a (uncut a (ap (same_kind RAngle) k)) (ap (one_of_kinds signs) k) x l.0).end) (here_at (Lex text) ls l.1)

  -- of a getter, where `)` doesn't stand behind the parenthesis
  pub no_getter : ((y : Lexeme) → Lex text p.token.span.end y → y.kind ≡ RParen → ⊥) → Fails rule (Lex text) (plain full) end (parameters_of Getter f) p.prev_token_end
  no_getter n = record { no = λ ts vs j ls rest l d e. go ts vs j ls rest l d }
    where
      go : (ts vs : Slots) (j : ℕ) (ls rest : Lexemes) → Lexes (Lex text) p.prev_token_end ls → Takes rule (parameters_of Getter f) end ts p.prev_token_end ls vs j rest → ⊥
      go ts vs j ls rest l (is_node (is_seq (is_lexeme {ls = mid} q) (is_seq is_nothing (is_lexeme {x = y} r)))) = n y (behind_paren mid l) (sym (kind_of_same RParen y.kind (and_parts (same_kind RParen y.kind) _ r).0))

abbrev begins_beside : Look
begins_beside k w e = one_of_kinds beside_parameters k

-- no parameter begins with `)` or `...`
no_parameter : (f : Flags) → apart (starts first (symbol Param f ▸ tok RParen) (plain full).base) begins_beside ≡ true
unfolding apart
no_parameter f = refl

module _ {text : List ℕ} {f : Flags} {p : Parser} (a : At text f p) (k : p.token.kind ≡ LParen) where
  -- of a setter, where one of these does
  pub no_setter : ((y : Lexeme) → Lex text p.token.span.end y → one_of_kinds beside_parameters y.kind ≡ true) → Fails rule (Lex text) (plain full) end (parameters_of Setter f) p.prev_token_end
  no_setter n = record { no = λ ts vs j ls rest l d e. go ts vs j ls rest l d }
    where
      go : (ts vs : Slots) (j : ℕ) (ls rest : Lexemes) → Lexes (Lex text) p.prev_token_end ls → Takes rule (parameters_of Setter f) end ts p.prev_token_end ls vs j rest → ⊥
      go ts vs j ls rest l (is_node (is_seq (is_lexeme {x = x} {ls = mid} q) d)) =
          let e : p.token.span.end ≡ x.to = (told a (uncut a (ap (same_kind RAngle) k)) (ap (one_of_kinds signs) k) x l.0).end in
          let z : Fails rule (Lex text) (plain full) end (symbol Param f ▸ tok RParen) x.to = fails_here firsts {X = plain full} (λ y i s. not_both (starts first (symbol Param f ▸ tok RParen) (plain full).base) begins_beside (no_parameter f) y.kind y.newline y.escaped s (n y (subst (λ (v : ℕ). Lex text v y) (sym e) i))) in
          z.no _ _ _ mid rest l.1 d (refl, refl)

-- ---- what is told of them

stands_between : {kind : DiagnosticKind} {source : Goal} {text : List ℕ} {s : Span} → IsTold kind → EdgeOf source text s.start → EdgeOf source text s.end → StandsAt kind source text s None None
stands_between {source = source} {text} {s} (inl e) a b = subst (λ (k : DiagnosticKind). StandsAt k source text s None None) (sym e) ((a, b), (refl, refl))
stands_between {source = source} {text} {s} (inr (inl e)) a b = subst (λ (k : DiagnosticKind). StandsAt k source text s None None) (sym e) ((a, b), (refl, refl))
stands_between {source = source} {text} {s} (inr (inr e)) a b = subst (λ (k : DiagnosticKind). StandsAt k source text s None None) (sym e) ((a, b), (refl, refl))

told_early : {kind : DiagnosticKind} (s : Span) → IsTold kind → IsEarly (unrelated_at kind s)
told_early s (inl e) = subst (λ (k : DiagnosticKind). IsEarly (unrelated_at k s)) (sym e) refl
told_early s (inr (inl e)) = subst (λ (k : DiagnosticKind). IsEarly (unrelated_at k s)) (sym e) refl
told_early s (inr (inr e)) = subst (λ (k : DiagnosticKind). IsEarly (unrelated_at k s)) (sym e) refl

-- the parentheses begin at the current lexeme
pub parentheses_begin : {text : List ℕ} {f : Flags} {p q : Parser} {start : ℕ} → At text f p → p.token.kind ≡ LParen → Same p q → p.token.span.start < q.prev_token_end → start ≡ p.token.span.start → RestBegins start q
parentheses_begin a k s l e = rest_begins a (λ u. let w : LParen ≡ Undetermined = sym k ∙ u in absurd (cc)) s l e

module _ {text : List ℕ} {f : Flags} {p q : Parser} {id : NodeId} (a : At text f p) (k : p.token.kind ≡ LParen) (x : Numbered text f (at Params f) p q id) where
  closing_edge : EdgeOf (goal q) q.text q.prev_token_end
  closing_edge = subst (λ (t : List ℕ). EdgeOf (goal q) t q.prev_token_end) (sym x.answer.at.text_is) (last_edge x.answer.walked (subst (λ (t : List ℕ). Reached t p.prev_token_end) a.text_is a.at.reached) (let b = a.behind in let c = x.answer.further in omega arith))

  begins : RestBegins p.token.span.start q
  begins = parentheses_begin a k x.answer.same x.answer.further refl

  pub parameters_marked : {kind : DiagnosticKind} {d : Diagnostic} (s : Span) → IsTold kind → d ≡ unrelated_at kind s → s.start ≡ p.token.span.start → s.end ≡ q.prev_token_end → Mark (goal q) q.text d
  parameters_marked {kind} {d} s t e b c = subst (λ (v : Diagnostic). Mark (goal q) q.text v) (sym e) it
    where
      it : Mark (goal q) q.text (unrelated_at kind s)
      it = record {
        ordered = let i = x.answer.further in omega arith;
        within = let z = x.answer.at.at.between.0 in omega arith;
        begins_between = subst (λ (v : ℕ). IsCharBoundary q.text v) (sym b) begins.between;
        ends_between = subst (λ (v : ℕ). IsCharBoundary q.text v) (sym c) x.answer.at.at.between;
        stands = stands_between t (subst (λ (v : ℕ). EdgeOf (goal q) q.text v) (sym b) begins.edge) (subst (λ (v : ℕ). EdgeOf (goal q) q.text v) (sym c) closing_edge);
      }

module _ {text : List ℕ} {f : Flags} {g : G} {p q : Parser} {kind : DiagnosticKind} (t : IsTold kind) (n : Fails rule (Lex text) (plain full) end g p.prev_token_end) where
  told_taken : {id : NodeId} → ToldParameters kind text f p q id → WholeTaken text f g p q id
  told_taken {id} x =
      let nodes : q.nodes ≡ (x.behind).nodes = ap (λ (z : Parser). z.nodes) x.told.is in
      let place : q.prev_token_end ≡ (x.behind).prev_token_end = ap (λ (z : Parser). z.prev_token_end) x.told.is in
      record {
        at = told_at x.told x.read.answer.at;
        same = same_both x.read.answer.same (told_same x.told (told_early x.span t));
        further = let i = x.read.answer.further in omega arith;
        label = x.read.answer.label;
        slots = x.read.answer.slots;
        pass = x.read.answer.pass;
        walked = walked_to (sym (ap (λ (z : Parser). spot z) x.told.is)) x.read.answer.walked;
        verdict = unclean (grown_behind x.read.answer.verdict (kept_one x.told)) n;
        holds = subst (λ (ns : List Node). Holds ns (length p.nodes) (length ns) id.0 x.read.answer.label x.read.answer.slots) (sym nodes) x.read.holds;
        keeps = subst (λ (ns : List Node). Keeps p.nodes ns) (sym nodes) x.read.keeps;
      }

pub told_outcome : {text : List ℕ} {g : G} {kind : DiagnosticKind} (f : Flags) (p q : Parser) (r : Result NodeId Stop) → IsTold kind → Fails rule (Lex text) (plain full) end g p.prev_token_end → ToldOutcome kind text f p q r → WholeOutcome text f g p q r
told_outcome f p q (Ok id) t n x = told_taken t n x
told_outcome f p q (Err e) t n x = stops_so p q e (λ z. n) x

-- ---- behind what was looked at

-- a claim on both of these kinds
of_beside : (P : Kind → Type 0) (k : Kind) → one_of_kinds beside_parameters k ≡ true → P RParen → P Dot3 → P k
of_beside P k h a b = first_or P RParen k _ _ refl h a (λ i. first_or P Dot3 k _ _ refl i b (λ j. absurd (false≢true j)))

pub peeked_beside : {p q : Parser} {t : Token} {k : Kind} → k ≡ t.kind → q ≡ p → Peeks p t → KindBehind p q k
peeked_beside {k = k} e s h = (
  s,
  λ text f a y l. (
    λ i. peeked_kind a h (subst (λ (v : Kind). one_of_kinds unsettled v ≡ false) e (of_beside (λ v. one_of_kinds unsettled v ≡ false) k i refl refl)) y l ∙ sym e,
    λ i. peeked_whole a h y l (of_beside (λ v. is_right_angle v ≡ false) y.kind i refl refl) (of_beside (λ v. one_of_kinds other_goals v ≡ false) y.kind i refl refl) ∙ sym e,
  ),
)

pub whole_there : (g : Flags → G) (p o q : Parser) (r : Result NodeId Stop) → o ≡ p → ReadsWhole g o q r → ReadsWhole g p q r
whole_there g p o q r e h = subst (λ (z : Parser). ReadsWhole g z q r) e h

told_there : (k : DiagnosticKind) (p o q : Parser) (r : Result NodeId Stop) → o ≡ p → TellsParameters k o q r → TellsParameters k p q r
told_there k p o q r e h = subst (λ (z : Parser). TellsParameters k z q r) e h

pub kept_so : {k : DiagnosticKind} {d : Diagnostic} (s : Span) (p q : Parser) → d ≡ unrelated_at k s → KeepsDiagnostic d p q → KeepsDiagnostic (unrelated_at k s) p q
kept_so s p q e h = subst (λ (v : Diagnostic). KeepsDiagnostic v p q) e h

pub getter_told : (p q r : Parser) (x : Result NodeId Stop) {b : Kind} → p.token.kind ≡ LParen → KindBehind p q b → (b ≡ RParen → ⊥) → TellsParameters GetterParameters q r x → ReadsWhole (parameters_of Getter) p r x
getter_told p q r x k c n h = λ text f a. told_outcome f p r x (inl refl) (no_getter a k (λ y l e. n (sym ((c.1 text f a y l).1 (ap (one_of_kinds beside_parameters) e)) ∙ e))) (told_there GetterParameters p q r x c.0 h text f a)

-- of a setter, where one of these kinds stands behind
pub setter_told : (d : DiagnosticKind) (p q r : Parser) (x : Result NodeId Stop) {b : Kind} → IsTold d → p.token.kind ≡ LParen → KindBehind p q b → one_of_kinds beside_parameters b ≡ true → TellsParameters d q r x → ReadsWhole (parameters_of Setter) p r x
setter_told d p q r x {b} t k c i h = λ text f a. told_outcome f p r x t (no_setter a k (λ y l. subst (λ (v : Kind). one_of_kinds beside_parameters v ≡ true) (sym ((c.1 text f a y l).0 i)) i)) (told_there d p q r x c.0 h text f a)
