-- How moves lead from one stage of a text to another.
use Rattle.std.proofs.Common.{ℕ, ◌≡◌, List, ◌++◌, ap, refl, subst, sym, ◌∙◌}
use Rattle.js_base.specs.declared.diagnostic.Diagnostic.{Diagnostic}
use Rattle.js_base.specs.declared.span.Span.{Span}
use Rattle.js_base.specs.declared.token.Token.{Token}
use Rattle.js_tree.specs.js_grammar.Grammar.{Lexeme}
use Rattle.js_tree.specs.js_grammar.Lexemes.{LexicalGoal, division, hashbang}
use Rattle.js_tree.specs.js_grammar.Settings.{Goal}
use Rattle.js_lex.specs.Comments.{each_at, comment_at, irregular_at, html_fault_at}
use Rattle.js_lex.specs.Kept.{IsEmpty}
use Rattle.js_lex.specs.Reading.{in_a_module, GivesNext, LexemeBehind}
use Rattle.js_lex.specs.States.{State, goal_of}
use Rattle.js_lex.specs.declared.comment.Comment.{Comment}
use Rattle.js_cursor.specs.Moves.{Passed, ReadAgain}
use Rattle.js_cursor.specs.Parsers.{Parser}
use Rattle.js_cursor.specs.Places.{goal}
use Rattle.js_cursor.specs.Stages.{Stage, stage, Begins, at_start, behind_hashbang, ComesWith, Leads, stays, passes, reads_again, further}

pub comes_with : {a b : State} {t : Token} (n : GivesNext division a b t) → ComesWith a.goal a.text a.place t (each_at (comment_at t.span.start) a.place n.pieces) (each_at irregular_at a.place n.pieces) (each_at (html_fault_at (in_a_module a.goal)) a.place n.pieces ++ n.faults)
comes_with n = record { trivia = n.pieces; stands = n.stands; start = n.start; stopping = n.faults; outcome = n.outcome; comments_are = refl; blanks_are = refl; faults_are = refl }

-- the same, whatever text, goal and place are called
pub comes_there : {source goal : Goal} {text other : List ℕ} {i j : ℕ} {t : Token} {comments : List Comment} {blanks : List Span} {faults : List Diagnostic} → source ≡ goal → text ≡ other → i ≡ j → ComesWith source text i t comments blanks faults → ComesWith goal other j t comments blanks faults
comes_there {source} {goal} {text} {other} {i} {j} {t} {comments} {blanks} {faults} g e p c = subst (λ v. ComesWith v other j t comments blanks faults) g (subst (λ v. ComesWith source v j t comments blanks faults) e (subst (λ v. ComesWith source text v t comments blanks faults) p c))

pub leads_on : {source : Goal} {text : List ℕ} {a b c : Stage} → Leads source text a b → Leads source text b c → Leads source text a c
leads_on f stays = f
leads_on f (passes w l t k) = passes (leads_on f w) l t k
leads_on f (reads_again g w r) = reads_again g (leads_on f w) r

pub leads_in : {source goal : Goal} {text other : List ℕ} {a b : Stage} → source ≡ goal → text ≡ other → Leads source text a b → Leads goal other a b
leads_in {source} {goal} {text} {other} {a} {b} g e w = subst (λ v. Leads v other a b) g (subst (λ v. Leads source v a b) e w)

pub leads_to : {source : Goal} {text : List ℕ} {a b c : Stage} → b ≡ c → Leads source text a b → Leads source text a c
leads_to {source} {text} {a} e w = subst (λ s. Leads source text a s) e w

pub passed_leads : {p q : Parser} → Passed p q → Leads (goal p) p.text (stage p) (stage q)
passed_leads {p} {q} h = leads_to there (passes stays h.stood h.tells (comes_there reads_for reads h.last (comes_with h.next)))
  where
    reads : p.lexer.text ≡ p.text
    reads = sym h.next.same.text ∙ (h.at.reads ∙ h.stays.text)

    reads_for : p.lexer.goal ≡ goal p
    reads_for = sym h.next.same.goal ∙ (h.at.reads_for ∙ ap goal_of h.stays.source_type)

    there : further (stage p) h.lexeme q.token (each_at (comment_at q.token.span.start) p.lexer.place h.next.pieces) (each_at irregular_at p.lexer.place h.next.pieces) (each_at (html_fault_at (in_a_module p.lexer.goal)) p.lexer.place h.next.pieces ++ h.next.faults) ≡ stage q
    there = λ i. record { place = sym h.moved i; token = q.token; comments = sym h.next.grows.comments_grow i; blanks = sym h.next.grows.blanks_grow i; faults = sym h.next.grows.faults_grow i }

pub again_leads : {g : LexicalGoal} {p q : Parser} → ReadAgain g p q → Leads (goal p) p.text (stage p) (stage q)
again_leads {g} {p} {q} h = leads_to there (reads_again g stays h.reads_as)
  where
    there : record (stage p) { token = q.token; faults = p.lexer.kept.errors ++ h.faults } ≡ stage q
    there = λ i. record { place = sym h.place i; token = q.token; comments = sym h.again.comments i; blanks = sym h.again.blanks i; faults = sym h.again.errors i }

-- what a lexer that has kept nothing keeps with a token
module _ (p : Parser) {old : State} (g : GivesNext division old p.lexer p.token) (z : IsEmpty old.kept) {source : Goal} {text : List ℕ} {i : ℕ} (reads : old.text ≡ text) (reads_for : old.goal ≡ source) (place : old.place ≡ i) where
  all_comes : ComesWith source text i p.token p.lexer.kept.comments p.lexer.kept.irregular_whitespaces p.lexer.kept.errors
  all_comes = comes_there reads_for reads place (record {
    trivia = g.pieces;
    stands = g.stands;
    start = g.start;
    stopping = g.faults;
    outcome = g.outcome;
    comments_are = g.grows.comments_grow ∙ ap (λ (v : List Comment). v ++ each_at (comment_at p.token.span.start) old.place g.pieces) z.comments;
    blanks_are = g.grows.blanks_grow ∙ ap (λ (v : List Span). v ++ each_at irregular_at old.place g.pieces) z.irregular_whitespaces;
    faults_are = g.grows.faults_grow ∙ ap (λ (v : List Diagnostic). v ++ (each_at (html_fault_at (in_a_module old.goal)) old.place g.pieces ++ g.faults)) z.errors;
  })

  placed : {j : ℕ} → j ≡ i → Begins source text (record { place = i; token = p.token; comments = p.lexer.kept.comments; blanks = p.lexer.kept.irregular_whitespaces; faults = p.lexer.kept.errors }) → Begins source text (record { place = j; token = p.token; comments = p.lexer.kept.comments; blanks = p.lexer.kept.irregular_whitespaces; faults = p.lexer.kept.errors })
  placed e b = subst (λ (k : ℕ). Begins source text (record { place = k; token = p.token; comments = p.lexer.kept.comments; blanks = p.lexer.kept.irregular_whitespaces; faults = p.lexer.kept.errors })) (sym e) b

-- of the first token
pub begins_first : (p : Parser) {old : State} → GivesNext division old p.lexer p.token → IsEmpty old.kept → {source : Goal} {text : List ℕ} → old.text ≡ text → old.goal ≡ source → old.place ≡ 0 → p.prev_token_end ≡ 0 → ((x : Lexeme) → LexemeBehind hashbang text 0 x → ⊥) → Begins source text (stage p)
begins_first p g z r f i e n = placed p g z r f i e (at_start n (all_comes p g z r f i))

-- of the one behind a hashbang comment
pub begins_behind : (p : Parser) {old : State} → GivesNext division old p.lexer p.token → IsEmpty old.kept → {source : Goal} {text : List ℕ} {x : Lexeme} → old.text ≡ text → old.goal ≡ source → old.place ≡ x.to → p.prev_token_end ≡ x.to → LexemeBehind hashbang text 0 x → Begins source text (stage p)
begins_behind p g z r f i e l = placed p g z r f i e (behind_hashbang l (all_comes p g z r f i))
