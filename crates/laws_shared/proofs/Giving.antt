-- What is said where a parse function gives up, and where nothing is read.
use Rattle.std.proofs.Common.{ℕ, ◌≡◌, Bool, true, false, ◌&&◌, IsTrue, refl, ◌∙◌, List, [], ◌∷◌, sym, ap, subst, ◌∙◌}
use Rattle.std.proofs.lemmas.Bool.{and_parts, and_from}
use Rattle.js_base.specs.declared.kind.Kind.{Kind}
use Rattle.js_base.specs.Kinds.{one_of_kinds}
use Rattle.js_base.specs.declared.diagnostic.Diagnostic.{Diagnostic}
use Rattle.js_grammar.specs.Trees.{Slots, end}
use Rattle.js_grammar.specs.Grammar.{Lexeme, here, seen}
use Rattle.js_grammar.specs.Parsing.{Test, Fails}
use Rattle.js_grammar.specs.Productions.{G, Flags}
use Rattle.js_grammar.specs.Table.{rule}
use Rattle.js_grammar.specs.FirstSets.{first}
use Rattle.js_grammar.proofs.Calculus.{here_at}
use Rattle.js_grammar.proofs.First.{starts}
use Rattle.js_grammar.proofs.FirstClaims.{firsts}
use Rattle.js_grammar.proofs.FirstRules.{fails_here}
use Rattle.js_grammar.proofs.Looks.{covers, covered, apart, not_both}
use Rattle.js_cursor.specs.Parsers.{Parser}
use Rattle.js_cursor.specs.Moves.{KeepsDiagnostic, GivesUp, IsUnexpected, OnlyMemory}
use Rattle.js_cursor.specs.declared.stop.Stop.{Stop}
use Rattle.js_cursor.specs.declared.stop.Stop.TheVariants.{Fatal, NoMemory}
use Rattle.js_cursor.proofs.Later.{keeps_follows}
use Rattle.laws_shared.proofs.Escapes.{keyword_plain}
use Rattle.laws_shared.proofs.Paths.{begins_by, fails_at, reads, settles}
use Rattle.laws_shared.specs.Heads.{NotedHeads}
use Rattle.laws_shared.specs.Lexemes.{Lex, keyword_kind}
use Rattle.laws_shared.specs.States.{At, NodesLie}
use Rattle.laws_shared.specs.Answers.{Grown, Stops}
use Rattle.laws_shared.proofs.Here.{escaped_here}
use Rattle.laws_shared.specs.Classes.{EndsParse}
use Rattle.laws_shared.proofs.Classes.{unexpected_ends}

pub kept_one : {d : Diagnostic} {p q : Parser} → KeepsDiagnostic d p q → Grown p.errors q.errors
kept_one {d} k = record { more = d ∷ []; kept = ap (λ (r : Parser). r.errors) k.is; some = λ e. cc }

-- by a diagnostic of a class that ends a parse
pub gives_up : {text : List ℕ} {f : Flags} (P : Diagnostic → Type 0) (p q : Parser) {F : Type 0} (e : Stop) → At text f p → GivesUp P p q e → ((d : Diagnostic) → P d → EndsParse d) → F → Stops p q e F
gives_up P p q Fatal a g c x = record {
  at = g.2.at;
  follows = keeps_follows g.2;
  grown = kept_one g.2;
  stopped = λ h. record { before = p.errors; last = g.0; is = ap (λ (r : Parser). r.errors) g.2.is; early = h; ends = c g.0 g.1 };
  lies = λ h. subst (λ (r : Parser). NodesLie r.text r.nodes) (sym g.2.is) h.1;
  heads = subst NotedHeads (sym g.2.is) a.heads;
  none = x;
}
gives_up P p q NoMemory a g c x = tt

-- by what can't stand here
pub gives_up_here : {text : List ℕ} {f : Flags} (p q : Parser) {F : Type 0} (e : Stop) → At text f p → GivesUp (IsUnexpected p) p q e → F → Stops p q e F
gives_up_here p q e a g x = gives_up (IsUnexpected p) p q e a g (λ d u. unexpected_ends a.at d u) x

pub memory_stops : (p q : Parser) (e : Stop) (F : Type 0) → OnlyMemory e → Stops p q e F
memory_stops p q Fatal F m = absurd m
memory_stops p q NoMemory F m = tt

-- where no lexeme that is read stands, nothing is derived
pub fails_none : {text : List ℕ} {s : ℕ} {X : Test} {ks : Slots} {g : G} → ((y : Lexeme) → Lex text s y → ⊥) → Fails rule (Lex text) X ks g s
fails_none {text} n = record { no = λ ts vs k ls rest l d e. n (here ls) (here_at (Lex text) ls l) }

-- where a lexeme with an escape stands, nothing is derived that begins with none
pub fails_unescaped : {text : List ℕ} {f : Flags} {p : Parser} {X : Test} (g : G) → At text f p → apart (starts first g X.base) (λ k w e. e) ≡ true → p.token.escaped ≡ true → Fails rule (Lex text) X end g p.prev_token_end
fails_unescaped {p = p} {X} g a c e = fails_here firsts (λ y l h. not_both (starts first g X.base) (λ k w e. e) c y.kind y.newline y.escaped h (escaped_here a y l ∙ e))

-- where none of these keywords stands, nothing is derived that begins with one of them, and with no escape
pub fails_at_word : {text : List ℕ} {f : Flags} {p : Parser} {X : Test} (g : G) (ks : List Kind) → At text f p → begins_by g X.base ks ≡ true → apart (λ k w e. starts first g X.base k w e && one_of_kinds ks k) (λ k w e. e) ≡ true → one_of_kinds ks (keyword_kind p.token) ≡ false → Fails rule (Lex text) X end g p.prev_token_end
fails_at_word {text} {p = p} {X} g ks a c d n = by p.token.escaped refl
  where
    listed : (y : Lexeme) → Lex text p.prev_token_end y → IsTrue (seen (starts first g X.base) y) → one_of_kinds ks y.kind ≡ true
    listed y l h = covered (λ k w e. starts first g X.base k w e && reads k w e) (λ k w e. one_of_kinds ks k) (and_parts (covers (λ k w e. starts first g X.base k w e && reads k w e) (λ k w e. one_of_kinds ks k)) (settles ks) c).0 y.kind y.newline y.escaped (and_from _ _ h l.1)

    by : (e : Bool) → p.token.escaped ≡ e → Fails rule (Lex text) X end g p.prev_token_end
    by true e = fails_here firsts (λ y l h. not_both (λ k w e. starts first g X.base k w e && one_of_kinds ks k) (λ k w e. e) d y.kind y.newline y.escaped (and_from _ _ h (listed y l h)) (escaped_here a y l ∙ e))
    by false e = fails_at a g ks c (sym (ap (one_of_kinds ks) (keyword_plain p.token e)) ∙ n)
