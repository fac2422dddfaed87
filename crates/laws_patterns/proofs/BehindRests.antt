-- What stands behind a rest (ECMA-262, 14.3.3, 15.1): the closing bracket is due, and a comma is told of, which only the wider form has.
use Rattle.std.proofs.Common.{ℕ, ◌≡◌, ◌<◌, List, [], ◌∷◌, length, Option, Bool, None, true, false, IsCharBoundary, refl, sym, ap, subst, arith, ◌∙◌}
use Rattle.std.proofs.lemmas.Bool.{false≢true, and_parts, and_from}
use Rattle.js_base.specs.declared.diagnostic.Diagnostic.{Diagnostic}
use Rattle.js_base.specs.declared.diagnostic.DiagnosticKind.{DiagnosticKind}
use Rattle.js_base.specs.declared.diagnostic.DiagnosticKind.TheVariants.{RestElementTrailingComma}
use Rattle.js_base.specs.declared.kind.Kind.{Kind}
use Rattle.js_base.specs.declared.kind.Kind.TheVariants.{RAngle, RParen, RBrack, RCurly, Comma, Dot3}
use Rattle.js_base.specs.declared.source_type.SourceType.{SourceType}
use Rattle.js_base.specs.declared.span.Span.{Span}
use Rattle.js_base.specs.Kinds.{same_kind, one_of_kinds}
use Rattle.js_base.proofs.KindLemmas.{kind_of_same}
use Rattle.js_grammar.specs.Lexed.{NextLexeme, all_faults}
use Rattle.js_grammar.specs.LexicalFaults.{Reached}
use Rattle.js_grammar.specs.Marks.{Mark, StandsAt, BeginsWith, of_kinds}
use Rattle.js_grammar.specs.Grammar.{Lexeme, Look, next, is, seq, when}
use Rattle.js_grammar.specs.Parsing.{plain, full, passing, still, Fails, Goes}
use Rattle.js_grammar.specs.Table.{rule}
use Rattle.js_grammar.specs.FirstSets.{first as first_of}
use Rattle.js_grammar.specs.Productions.{G, Flags, tok}
use Rattle.js_grammar.proofs.Lexemes.{first_or}
use Rattle.js_grammar.proofs.Calculus.{◌▹◌, ◌▹✗◌, by_plain, done, fails_lexeme, fails_nothing, fails_when, left, part_by, right, then_by, where_true}
use Rattle.js_grammar.proofs.First.{starts}
use Rattle.js_grammar.proofs.FirstClaims.{firsts}
use Rattle.js_grammar.proofs.FirstRules.{by_first}
use Rattle.js_grammar.proofs.Looks.{apart, covers}
use Rattle.js_base.specs.Spans.{LiesIn}
use Rattle.laws_shared.specs.js_lex.Reading.{Tells}
use Rattle.laws_shared.specs.js_lex.States.{goal_of}
use Rattle.laws_shared.specs.js_tree.declared.id.NodeId.{NodeId}
use Rattle.laws_shared.specs.js_tree.Nodes.{Node}
use Rattle.laws_shared.specs.js_tree.Holding.{HoldsAll, Keeps}
use Rattle.laws_shared.proofs.js_tree.HoldingLemmas.{Keeps-refl}
use Rattle.laws_shared.specs.js_cursor.Moves.{KeepsDiagnostic, GivesUp, is_last}
use Rattle.laws_shared.specs.js_cursor.Parsers.{Parser}
use Rattle.laws_shared.specs.js_cursor.Places.{goal}
use Rattle.laws_shared.specs.js_cursor.declared.stop.Stop.{Stop}
use Rattle.laws_shared.specs.Answers.{Grown, Stops, Stretch, Verdict, unclean, wider}
use Rattle.laws_patterns.specs.Bindings.{closers, rest_comma}
use Rattle.laws_shared.specs.Told.{unrelated_at}
use Rattle.laws_shared.specs.Lexemes.{Lex, spot}
use Rattle.laws_shared.specs.Lists.{NoneLeft, OneMore}
use Rattle.laws_shared.specs.Moves.{Moved}
use Rattle.laws_shared.specs.States.{At, Same}
use Rattle.laws_shared.proofs.Signs.{other_kind, plain_sign}
use Rattle.laws_shared.proofs.Giving.{gives_up, kept_one}
use Rattle.laws_shared.proofs.Here.{found, kind_here, uncut}
use Rattle.laws_shared.proofs.Moving.{same_both, stops_behind}
use Rattle.laws_shared.proofs.Paths.{fails_at, passes, walked_one, walked_to}
use Rattle.laws_patterns.proofs.Lists.{more_from, none_yet}
use Rattle.laws_shared.proofs.Told.{told_at, told_same, lexeme_marked}
use Rattle.laws_shared.proofs.Verdicts.{grown_then}
use Rattle.laws_shared.proofs.PlainSigns.{comma_plain, dots_plain}
use Rattle.js_grammar.proofs.Frame.{append_end}
use Rattle.js_grammar.specs.Trees.{Slots, end}
use Rattle.laws_shared.specs.Classes.{IsEarly, EndsParse}

-- what has its mark has it later too
pub mark_later : {p q : Parser} {d : Diagnostic} → Same p q → Mark (goal p) p.text d → Mark (goal q) q.text d
mark_later {p} {q} {d} c m = subst (λ (t : List ℕ). Mark (goal q) t d) (sym c.follows.text) (subst (λ (v : SourceType). Mark (goal_of v) p.text d) (sym c.follows.source_type) m)

-- a rest, from its `...` on
pub rest_marked : {text : List ℕ} {f : Flags} {p q : Parser} (k : DiagnosticKind) (s : Span) {d : Diagnostic} → d ≡ unrelated_at k s → ((s : Span) → BeginsWith (of_kinds (Dot3 ∷ [])) (goal p) p.text s → StandsAt k (goal p) p.text s None None) → At text f p → p.token.kind ≡ Dot3 → At text f q → Same p q → p.token.span.start < q.prev_token_end → s.start ≡ p.token.span.start → s.end ≡ q.prev_token_end → Mark (goal q) q.text d
rest_marked {text} {f} {p} {q} k s {d} g h a e b c l i j = mark_later c (subst (λ (v : Diagnostic). Mark (goal p) p.text v) (sym g) it)
  where
    it : Mark (goal p) p.text (unrelated_at k s)
    it =
        let y = lexeme_marked a (e, plain_sign Dot3 a e refl refl dots_plain) refl refl in
        let z : IsCharBoundary p.text q.prev_token_end = subst (λ (v : List ℕ). IsCharBoundary v q.prev_token_end) c.follows.text b.at.between in
        record {
          ordered = omega arith;
          within = let w = z.0 in omega arith;
          begins_between = subst (λ (v : ℕ). IsCharBoundary p.text v) (sym i) a.at.lies.starts_whole;
          ends_between = subst (λ (v : ℕ). IsCharBoundary p.text v) (sym j) z;
          stands = h s (record { lexeme = y.lexeme; of_text = y.of_text; begins = y.is.0 ∙ sym i; passes = y.passes });
        }

-- a claim on all of them
of_closer : (P : Kind → Type 0) (k : Kind) → one_of_kinds closers k ≡ true → P RParen → P RBrack → P RCurly → P k
of_closer P k h a b c = first_or P RParen k _ _ refl h a (λ h. first_or P RBrack k _ _ refl h b (λ h. first_or P RCurly k _ _ refl h c (λ h. absurd (false≢true h))))

abbrev closing : Look
closing k w e = one_of_kinds closers k

-- without a comma the closing bracket is due at once
closing_alone : {text : List ℕ} (f : Flags) {b : G} {s : ℕ} → Fails rule (Lex text) (plain full) end (when f.wide (tok Comma)) s → Goes rule (Lex text) (plain full) end (seq (rest_comma f) b) s b s (λ us. us) (still 0)
closing_alone f n = part_by {X' = plain full} (right n) (record { admits = λ ts us vs j k ls mid rest d d' e. (refl, refl) }) ▹ done

pub no_comma_here : {text : List ℕ} {f : Flags} {p : Parser} (close : Kind) (ids : List (Option NodeId)) → At text f p → (p.token.kind ≡ Comma → ⊥) → OneMore text f (seq (rest_comma f) (tok close)) (tok close) p p ids ids
unfolding covers apart
no_comma_here {f = f} {p = p} close ids a n = more_from (closing_alone f (fails_at a (when f.wide (tok Comma)) (Comma ∷ []) refl (other_kind Comma p.token.kind n))) (none_yet ids a)

module _ {text : List ℕ} {f : Flags} {p m : Parser} (close : Kind) (a : At text f p) (k : p.token.kind ≡ Comma) (c : one_of_kinds closers close ≡ true) (v : Moved text f p m) where
  -- a comma right before the closing bracket
  pub comma_marked : (s : Span) {d : Diagnostic} → d ≡ unrelated_at RestElementTrailingComma s → s ≡ p.token.span → m.token.kind ≡ close → Mark (goal m) m.text d
  comma_marked s {d} g e h = subst (λ (z : Diagnostic). Mark (goal m) m.text z) (sym (g ∙ ap (λ (z : Span). unrelated_at RestElementTrailingComma z) e)) (subst (λ (t : List ℕ). Mark (goal m) t (unrelated_at RestElementTrailingComma p.token.span)) (sym v.at.text_is) it)
    where
      closer_kind : one_of_kinds closers m.token.kind ≡ true
      closer_kind = subst (λ (z : Kind). one_of_kinds closers z ≡ true) (sym h) c

      closer : (y : Lexeme) × (NextLexeme all_faults text m.prev_token_end y) × Tells y m.token
      closer = found v.at (uncut v.at (of_closer (λ z. same_kind RAngle z ≡ false) m.token.kind closer_kind refl refl refl)) (of_closer (λ z. is_last z ≡ false) m.token.kind closer_kind refl refl refl)

      it : Mark (goal m) text (unrelated_at RestElementTrailingComma p.token.span)
      it =
          let y = closer in
          let t = subst (λ (z : List ℕ). LiesIn p.token.span z) a.text_is a.at.lies in
          record {
            ordered = t.ordered;
            within = t.ends_whole.0;
            begins_between = t.starts_whole;
            ends_between = t.ends_whole;
            stands = (
              record {
                place = p.prev_token_end;
                first = v.lexeme;
                second = y.0;
                part = record { reached = subst (λ (z : List ℕ). Reached z p.prev_token_end) a.text_is a.at.reached; lexed = (v.stood, subst (λ (z : ℕ). NextLexeme all_faults text z y.0) (sym v.ends) y.1) };
                is = (sym v.tells.start, sym v.tells.end);
                passes = and_from (same_kind Comma v.lexeme.kind) (one_of_kinds closers y.0.kind) (subst (λ (z : Kind). same_kind Comma z ≡ true) (sym (sym v.tells.kind ∙ k)) refl) (subst (λ (z : Kind). one_of_kinds closers z ≡ true) y.2.kind closer_kind);
              },
              (refl, refl),
            );
          }

  -- where no comma may be passed the closing bracket is due
  none_closes : NoneLeft text (tok close) p.prev_token_end
  none_closes = fails_lexeme (is close) (λ y l h. false≢true (subst (λ (z : Kind). one_of_kinds closers z ≡ true) (kind_of_same close y.kind (and_parts (same_kind close y.kind) _ h).0 ∙ kind_here a k refl y l) c))

  narrow_closes : f.wide ≡ false → NoneLeft text (seq (rest_comma f) (tok close)) p.prev_token_end
  narrow_closes h = closing_alone f (fails_when h) ▹✗ none_closes

  -- and where one may, behind it
  behind_comma : f.wide ≡ true → Goes rule (Lex text) (plain full) end (seq (rest_comma f) (tok close)) p.prev_token_end (tok close) m.prev_token_end (λ us. us) (passing v.lexeme)
  unfolding covers
  behind_comma h = then_by {X' = plain closing} (left (fails_nothing (λ ts y l e. false≢true (subst (λ (z : Kind). one_of_kinds closers z ≡ true) (kind_here a k refl y l) e.0))) ▹ (where_true h ▹ passes a Comma k (plain_sign Comma a k refl refl comma_plain) refl v)) (by_first firsts (by_plain closing) (of_closer (λ z. covers (starts first_of (tok z) full) closing ≡ true) close c refl refl refl))

  pub comma_told : {d : Diagnostic} {q : Parser} (ids : List (Option NodeId)) → KeepsDiagnostic d m q → IsEarly d → OneMore text f (seq (rest_comma f) (tok close)) (tok close) p q ids ids
  comma_told {d} {q} ids t y =
      let n : q.nodes ≡ p.nodes = ap (λ (z : Parser). z.nodes) t.is ∙ v.nodes in
      record {
        at = told_at t v.at;
        same = same_both v.same (told_same t y);
        forward = let i = v.further in let j = a.behind in let e = place in omega arith;
        slots = λ us. us;
        puts = λ us. refl;
        pass = λ ls. next v.lexeme ls;
        walked = walked_to (sym (ap (λ (z : Parser). spot z) t.is)) (walked_one v);
        verdict = by f.wide refl;
        holds = λ lo us h. subst (λ (vs : Slots). HoldsAll q.nodes lo (length q.nodes) ids vs) (sym (append_end us)) (subst (λ (ns : List Node). HoldsAll ns lo (length ns) ids us) (sym n) h);
        keeps = subst (λ (ns : List Node). Keeps p.nodes ns) (sym n) (Keeps-refl p.nodes);
      }
    where
      place : q.prev_token_end ≡ m.prev_token_end
      place = ap (λ (z : Parser). z.prev_token_end) t.is

      grown : Grown p.errors q.errors
      grown = grown_then v.kept (kept_one t)

      by : (b : Bool) → f.wide ≡ b → Verdict (f.wide ≡ true) p.errors q.errors (Stretch text (plain full) (seq (rest_comma f) (tok close)) p.prev_token_end (tok close) q.prev_token_end (λ us. us) (λ ls. next v.lexeme ls)) (NoneLeft text (seq (rest_comma f) (tok close)) p.prev_token_end)
      by true h = wider h grown (subst (λ (s : ℕ). Stretch text (plain full) (seq (rest_comma f) (tok close)) p.prev_token_end (tok close) s (λ us. us) (λ ls. next v.lexeme ls)) (sym place) (record { reach = 0; near = omega arith; goes = behind_comma h }))
      by false h = unclean grown (narrow_closes h)

  pub comma_stops : (told : Diagnostic) (q : Parser) (e : Stop) → EndsParse told → (m.token.kind ≡ close → ⊥) → GivesUp (λ d. d ≡ told) m q e → Stops p q e (NoneLeft text (seq (rest_comma f) (tok close)) p.prev_token_end)
  unfolding covers apart
  comma_stops told q e i n g = stops_behind q e v.same (λ i. grown_then v.kept i) (λ n. n) (gives_up (λ d. d ≡ told) m q e v.at g (λ d u. subst EndsParse (sym u) i) (by f.wide refl))
    where
      none_behind : NoneLeft text (tok close) m.prev_token_end
      none_behind = of_closer (λ z. (m.token.kind ≡ z → ⊥) → NoneLeft text (tok z) m.prev_token_end) close c
          (λ n. fails_at v.at (tok RParen) (RParen ∷ []) refl (other_kind RParen m.token.kind n))
          (λ n. fails_at v.at (tok RBrack) (RBrack ∷ []) refl (other_kind RBrack m.token.kind n))
          (λ n. fails_at v.at (tok RCurly) (RCurly ∷ []) refl (other_kind RCurly m.token.kind n)) n

      by : (b : Bool) → f.wide ≡ b → NoneLeft text (seq (rest_comma f) (tok close)) p.prev_token_end
      by true h = behind_comma h ▹✗ none_behind
      by false h = narrow_closes h
