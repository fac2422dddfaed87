-- From the statements that were taken to the readings of the whole text.
use Rattle.std.proofs.Common.{ℕ, zero, suc, ◌&&◌, take, ◌≡◌, max, ◌⊎◌, inl, inr, List, [], ◌∷◌, ◌++◌, length, Bool, true, false, not, ◌||◌, IsTrue, Option, refl, sym, ap, subst, arith, ◌∙◌}
use Rattle.std.proofs.lemmas.Bool.{false≢true}
use Rattle.js_base.specs.declared.diagnostic.Diagnostic.{Diagnostic}
use Rattle.js_base.specs.declared.kind.Kind.{Kind}
use Rattle.js_base.specs.declared.kind.Kind.TheVariants.{Eof, Undetermined, RAngle, HashbangComment}
use Rattle.js_base.specs.declared.options.ParseOptions.{ParseOptions}
use Rattle.js_base.specs.declared.source_type.SourceType.{SourceType}
use Rattle.js_base.specs.Kinds.{same_kind, one_of_kinds}
use Rattle.js_base.specs.Texts.{words}
use Rattle.js_base.proofs.KindLemmas.{kind_of_same}
use Rattle.js_grammar.specs.Trees.{Label, Slots, end, tree, Tree, no_op, hashbang}
use Rattle.js_grammar.specs.Grammar.{Lexeme, Lexemes, last, next, here, Takes, is_nothing}
use Rattle.js_grammar.specs.Lexed.{Lexes, NextLexeme, all_faults}
use Rattle.js_grammar.specs.Lexemes.{is_escaped, division}
use Rattle.js_grammar.specs.Parsing.{plain, Reads}
use Rattle.js_grammar.specs.Productions.{Flags, at, Program}
use Rattle.js_grammar.specs.Table.{rule, rule_of}
use Rattle.js_grammar.proofs.Behind.{lexed_behind}
use Rattle.js_grammar.proofs.Looks.{covers}
use Rattle.js_grammar.proofs.Calculus.{◌▹◌, more_of, here_at, ends, label_is, slots_are}
use Rattle.parse_shared.specs.js_lex.States.{goal_of}
use Rattle.parse_shared.specs.js_lex.declared.output.LexerOutput.{LexerOutput}
use Rattle.parse_shared.specs.js_tree.declared.id.NodeId.{NodeId}
use Rattle.parse_shared.specs.js_tree.Holding.{HoldsAll, program_tree}
use Rattle.parse_shared.specs.js_cursor.Parsers.{Parser}
use Rattle.parse_shared.specs.js_cursor.Places.{goal}
use Rattle.parse_shared.specs.js_cursor.Checkpoints.{Follows}
use Rattle.parse_shared.specs.js_cursor.Stages.{Begins, CameTo, stage}
use Rattle.parse_shared.proofs.js_cursor.Stages.{begins_behind, begins_first, leads_in}
use Rattle.parse_shared.specs.js_cursor.Moves.{is_last}
use Rattle.parse_shared.specs.js_cursor.Starts.{Starts}
use Rattle.parse_shared.specs.js_cursor.Tokens.{IsToken, whole as whole_token, sign as sign_token, nothing as no_token}
use Rattle.parse_shared.specs.js_cursor.declared.stop.Stop.{Stop}
use Rattle.parse_shared.specs.js_cursor.declared.stop.Stop.TheVariants.{Fatal, NoMemory}
use Rattle.parse_shared.specs.laws_shared.Answers.{Stretch, Verdict, clean, unclean, wider}
use Rattle.parse_shared.specs.laws_shared.Lexemes.{IsRight, Lex, goal_for, is_read, other_goals, signs}
use Rattle.parse_shared.specs.laws_shared.Heads.{widened}
use Rattle.parse_shared.specs.laws_shared.NodeTexts.{NodeFits}
use Rattle.parse_shared.specs.laws_shared.States.{At, IsPlain, whole, sign, nothing as no_lexeme, flags_of, Standing, NodesLie, SpansLie}
use Rattle.parse_classes.specs.laws_statements.StatementLists.{at_end, with_directives, statements, NoList, Taken, AllTaken, AllRefused}
use Rattle.parse_classes.specs.laws_statements.declared.forms.StatementList.TheVariants.{Text}
use Rattle.parse_shared.proofs.laws_shared.Beginning.{begins, begins_with_hashbang, behind_first, none_noted}
use Rattle.parse_shared.proofs.laws_shared.Escapes.{read_plain}
use Rattle.parse_shared.proofs.laws_shared.Giving.{fails_none}
use Rattle.parse_shared.proofs.laws_shared.Here.{alike, told, plain_there, kind_here}
use Rattle.parse_shared.proofs.laws_shared.Paths.{at_kind, read_of}
use Rattle.parse_classes.proofs.laws_statements.StatementLists.{none_left, text_ends}
use Rattle.parse_shared.proofs.laws_shared.Verdicts.{grown_some, ending}
use Rattle.parse_shared.specs.js_cursor.Starts.{is_module, is_commonjs}
use Rattle.parse_shared.specs.js_tree.Nodes.{Node, empty_program}
use Rattle.parse_shared.proofs.js_tree.HoldingLemmas.{HoldsAll-wider, HoldsAll-append, HoldsAll-one, Holds-kept, Holds-wider, Keeps-refl}
use Rattle.std.specs.Prelude.{Result, Ok, Err, MatchResult}
use Rattle.std.specs.Prelude.{Some}
use Rattle.js_base.specs.Contexts.{has_flag, reads_await, in_flag, yield_flag, await_flag, return_flag, new_target_flag}
use Rattle.parse_shared.specs.js_cursor.Moves.{Passed}
use Rattle.parse_shared.specs.laws_shared.Moves.{MadeHere, plain_label}
use Rattle.parse_shared.specs.js_tree.declared.kind.NodeKind.TheVariants.{Hashbang}
use Rattle.parse_shared.specs.js_tree.declared.op.Op.TheVariants as op
use Rattle.js_base.specs.declared.span.Span.{Span}
use Rattle.parse_shared.specs.js_lex.Kept.{IsEmpty}
use Rattle.parse_shared.specs.part_words.Scans.{NoLexeme}
use Rattle.parse_shared.specs.js_lex.States.{State}
use Rattle.js_core.proofs.Hashbangs.{hashbang_label, program_label, behind_comment, alone}
use Rattle.js_core.proofs.Fronts.{Front, LooseFront, Parts, kind_of_hashbang, none_begins, at_the_start, behind_a_comment, loosely_at_start, loosely_behind}
use Rattle.parse_shared.proofs.laws_shared.MadeNodes.{leaf_held, one_lies_in}
use Rattle.parse_shared.proofs.laws_shared.Moving.{standing, beside_nodes}
use Rattle.js_core.specs.Readings.{options_of}
use Rattle.js_core.specs.Readings.{parameters, ReadingBy, IsOnlyReadingBy, HasNoReadingBy, HasNoLooseReading}
use Rattle.js_core.specs.Taken.{FoundNothing, ReadOrNot, ProgramTaken, ProgramStops}
use Rattle.js_core.proofs.Lists.{first_empty}
use Rattle.js_base.specs.declared.source_type.Goal.TheVariants as source
use Rattle.js_grammar.specs.Grammar.{Derives}
use Rattle.js_grammar.specs.CoverInitialisers.{with_cover}
use Rattle.js_grammar.specs.Lexemes.{hashbang as hashbang_goal}
use Rattle.js_grammar.specs.Options.{Options, is_module as in_module, is_commonjs as in_commonjs}
use Rattle.js_grammar.specs.Settings.{Goal, script, module_goal, commonjs, unambiguous}
use Rattle.parse_shared.specs.js_lex.Comments.{each_at, comment_at, irregular_at, html_fault_at}
use Rattle.parse_shared.specs.js_lex.Reading.{in_a_module, is_kept, kept_token, LexemeBehind, GivesFirst, GivesNext}
use Rattle.parse_shared.specs.laws_shared.Lexemes.{Faultless, KeptFor, TriviaKept, kept_before, Spot, spot, Walked, nowhere, one_more, read_again, more_faults}
use Rattle.parse_shared.proofs.laws_shared.KeptTokens.{before_next, trivia_kept}
use Rattle.js_core.specs.Kept.{KeepsRight, each_of, comments_before, blanks_before, TellsEach, IsKeptOf}
use Rattle.parse_shared.proofs.laws_shared.Paths.{behind_walk}
use Rattle.js_core.proofs.Walks.{first_comments, first_blanks, all_kept, walk_tells, walk_unasked, keeps_still, kept_none}
use Rattle.js_base.specs.declared.token.Token.{Token}
use Rattle.parse_shared.proofs.laws_shared.Kept.{kept_for, faults_aside}
use Rattle.parse_shared.proofs.laws_shared.Paths.{walked_from}
use Rattle.std.proofs.lemmas.List.Elements.{All-same, All-nil, All-cons}
use Rattle.parse_shared.specs.laws_shared.Classes.{IsEarly}
use Rattle.std.proofs.lemmas.Str.{IsCharBoundary-start}
use Rattle.js_base.specs.Spans.{LiesIn}

-- the parameters of the cover grammar, by which a text is read
abbrev covering : Goal → Options → Flags
covering goal o = with_cover true (parameters goal o)

abbrev tree_of : Label → Slots → Tree
tree_of l cs = record { label = l; slots = cs }

same_tree : {l m : Label} {cs ds us : Slots} → tree l cs end ≡ tree m ds us → tree_of l cs ≡ tree_of m ds
same_tree q = λ k. record { label = label_is q k; slots = slots_are q k }

-- the lexeme of the text's end, where it stands
end_here : {text : List ℕ} {f : Flags} {q : Parser} → At text f q → q.token.kind ≡ Eof → (y : Lexeme) × Lex text q.prev_token_end y × (y.kind ≡ Eof)
unfolding words
end_here {text} {q = q} a e = go a.plain
  where
    read_end : (y : Lexeme) → NextLexeme all_faults text q.prev_token_end y → y.kind ≡ Eof → IsTrue (is_read y)
    read_end y l k =
        let n : y.escaped ≡ false = l.escaped ∙ ap (λ (v : Kind). is_escaped v l.word) k in
        read_of y k refl

    go : IsPlain text q → (y : Lexeme) × Lex text q.prev_token_end y × (y.kind ≡ Eof)
    go (whole c n x) = let k : x.lexeme.kind ≡ Eof = sym x.tells.kind ∙ e in (x.lexeme, (x.stands.lex, read_end x.lexeme x.stands.lex k), k)
    go (sign c k x) = let z : RAngle ≡ Eof = sym k ∙ e in absurd (cc)
    go (no_lexeme c k n) = let z : Undetermined ≡ Eof = sym k ∙ e in absurd (cc)

-- A list of directives and items derives these slots from a place up to the text's end.
record Body (L : ℕ → Lexeme → Type 0) (f : Flags) (s : ℕ) (slots : Slots) (ls : Lexemes) : Type 0 where
  lexed : Lexes L s ls
  place : ℕ
  final : Lexeme
  is_end : final.kind ≡ Eof
  derived : Takes rule (with_directives Text f) end slots s ls end place (last final)

-- the text's end is no word, so no escape stands in it
unescaped : {text : List ℕ} {f : Flags} {s : ℕ} {slots : Slots} {ls : Lexemes} (b : Body (Lex text) f s slots ls) → b.final.escaped ≡ false
unfolding words
unescaped {text} b = read_plain b.final (lexed_behind (Lex text) b.derived b.lexed) b.is_end refl

module _ {text : List ℕ} {f : Flags} {q : Parser} (a : At text f q) (e : q.token.kind ≡ Eof) where
  end_kind : (y : Lexeme) → Lex text q.prev_token_end y → y.kind ≡ Eof
  end_kind y l = kind_here a e refl y l

  end_place : (y : Lexeme) → Lex text q.prev_token_end y → y.to ≡ q.token.span.end
  end_place y l = sym (told a (let z = end_kind y l in uncut_end a.plain) (ap (one_of_kinds signs) e) y l).end
    where
      uncut_end : IsPlain text q → q.cut ≡ false
      uncut_end (whole c n x) = c
      uncut_end (sign c k x) = let z : RAngle ≡ Eof = sym k ∙ e in absurd (cc)
      uncut_end (no_lexeme c k n) = c

  same_end : {z : Lexeme} → Lex text q.prev_token_end z → z ≡ (end_here a e).0
  same_end {z} m = let y = end_here a e in alike m y.1 (ap goal_for (end_kind z m ∙ sym y.2))

  module _ {s : ℕ} {slots : Slots → Slots} {pass : Lexemes → Lexemes} (u : Stretch text (plain (at_end Text)) (with_directives Text f) s (statements Text f) q.prev_token_end slots pass) where
    list_reads : Reads rule (Lex text) (plain (at_end Text)) end (with_directives Text f) s q.prev_token_end slots (record { reach = max u.reach (max 0 0); pass = pass })
    unfolding rule rule_of covers
    list_reads = u.goes ▹ more_of ▹ at_kind a Eof e refl

    any_so : Body (Lex text) f s (slots end) (pass (last (end_here a e).0))
    any_so = let y = end_here a e in record {
      lexed = list_reads.passes.lexed (last y.0) y.1;
      place = q.prev_token_end;
      final = y.0;
      is_end = y.2;
      derived = list_reads.sound end end q.prev_token_end (last y.0) (last y.0) y.1 (inr y.2) is_nothing;
    }

    only_so : {ts : Slots} {ls : Lexemes} (b : Body (Lex text) f s ts ls) → (ts ≡ slots end) × (ls ≡ pass (last (end_here a e).0)) × (b.final ≡ (end_here a e).0)
    only_so {ts} {ls} b =
        let x = list_reads.only ts end b.place ls (last b.final) b.lexed b.derived (rw b.is_end (ap not (unescaped b)), refl) in
        let z = ends x.4 in
        let same : b.final ≡ (end_here a e).0 = same_end (subst (λ (v : Lexemes). Lexes (Lex text) q.prev_token_end v) z.2 x.3) in
        (x.2 ∙ ap slots z.0, x.5 ∙ ap pass (z.2 ∙ ap (λ (v : Lexeme). last v) same), same)

    -- a list that ends there ends where the last token does
    ends_so : {ts : Slots} {ls : Lexemes} (b : Body (Lex text) f s ts ls) → b.final.to ≡ q.token.span.end
    ends_so b = ap (λ (v : Lexeme). v.to) (only_so b).2 ∙ end_place (end_here a e).0 (end_here a e).1

-- where statements can't be taken, no list is derived
no_list : {text : List ℕ} {f : Flags} {s : ℕ} {ts : Slots} {ls : Lexemes} → NoList text Text (with_directives Text f) s → Body (Lex text) f s ts ls → ⊥
no_list {ts = ts} {ls} n b = n.no ts end b.place ls (last b.final) b.lexed b.derived (rw b.is_end (ap not (unescaped b)), refl)

-- ---- faults

-- a list is one whichever faults pass
all_aside : (text : List ℕ) (source : Goal) (s : ℕ) (ls : Lexemes) → Lexes (Faultless source text) s ls → Lexes (Lex text) s ls
all_aside text source s (last x) l = faults_aside source l
all_aside text source s (next x ls) l = (faults_aside source l.0, all_aside text source x.to ls l.1)

abbrev any_body : {text : List ℕ} (source : Goal) {f : Flags} {s : ℕ} {ts : Slots} {ls : Lexemes} → Body (Faultless source text) f s ts ls → Body (Lex text) f s ts ls
any_body {text} source {s = s} {ls = ls} b = record { lexed = all_aside text source s ls b.lexed; place = b.place; final = b.final; is_end = b.is_end; derived = b.derived }

-- readings are lists behind the text's front
module _ {text : List ℕ} {source : Goal} {f : Flags} {s : ℕ} {front : Slots → Slots} {put : Lexemes → Lexemes} {o : Options} (k : f ≡ covering source o) (opens : Front text source f s front put) where
  parts_of : {t : Tree} (r : ReadingBy true text source o t) → Parts text source f s front put t r.lexemes r.lexed r.place r.final
  parts_of {t} r = opens.parts t r.lexemes r.lexed r.place r.final (subst (λ (g : Flags). Derives rule (at Program g) t 0 r.lexemes r.place (last r.final)) (sym k) r.derived)

  abbrev body_of : {t : Tree} (r : ReadingBy true text source o t) → Body (Faultless source text) f s (parts_of r).slots (parts_of r).others
  body_of r = record { lexed = (parts_of r).lexed; place = r.place; final = r.final; is_end = r.is_end; derived = (parts_of r).derived }

  none_at_all : NoList text Text (with_directives Text f) s → HasNoReadingBy true text source o
  none_at_all n t r = no_list n (any_body source (body_of r))

pub cons_some : {K : Type 0} (x : K) (xs : List K) → x ∷ xs ≡ [] → ⊥
cons_some x xs e = cc

-- the lexeme of the plain goal that stands there has no fault
abbrev Right : List ℕ → Spot → Type 0
Right text s = IsRight s.source text s.place

module _ {text : List ℕ} where
  -- where no fault was kept, none stands anywhere on the way
  right_there : {s s' : Spot} {pass : Lexemes → Lexemes} → Walked text s s' pass → s'.kept.errors ≡ [] → ((s.kept.errors ≡ []) → Right text s) → Right text s'
  right_there nowhere e h = h e
  right_there (one_more {s' = m} {n = n} w i r) e h = i.faults.none (ending m.kept.errors n.faults e)
  right_there (read_again {s' = m} {n = n} w ds k i) e h = i.faults.none (ending (m.kept.errors ++ ds) n.faults e)
  right_there (more_faults {s' = m} w ds n) e h = right_there w (first_empty m.kept.errors ds e) h

  source_kept : {s s' : Spot} {pass : Lexemes → Lexemes} → Walked text s s' pass → s'.source ≡ s.source
  source_kept nowhere = refl
  source_kept (one_more w i r) = source_kept w
  source_kept (read_again w ds k i) = source_kept w
  source_kept (more_faults w ds n) = source_kept w

  all_right : {s s' : Spot} {pass : Lexemes → Lexemes} (w : Walked text s s' pass) → s'.kept.errors ≡ [] → ((s.kept.errors ≡ []) → Right text s) → (ms : Lexemes) → Lexes (Lex text) s.place (pass ms) → Lexes (Faultless s'.source text) s'.place ms → Lexes (Faultless s.source text) s.place (pass ms)
  all_right nowhere e h ms l r = r
  all_right (one_more {s' = m} {x = x} {n = n} w i p) e h ms l r =
      let none = first_empty m.kept.errors n.faults e in
      all_right w none h (next x ms) l (right_there w none h x (behind_walk (Lex text) w (next x ms) l).0 p, r)
  all_right (read_again {s' = m} {x = x} {n = n} w ds k i) e h ms l r =
      let both = first_empty (m.kept.errors ++ ds) n.faults e in
      let none = first_empty m.kept.errors ds both in
      all_right w none h (next x ms) l (k.none (ending m.kept.errors ds both) (right_there w none h), r)
  all_right (more_faults {s' = m} w ds n) e h ms l r = all_right w (first_empty m.kept.errors ds e) h ms l r

  -- where some fault was kept, one stands on the way, or here
  some_wrong : {s s' : Spot} {pass : Lexemes → Lexemes} (w : Walked text s s' pass) → (s'.kept.errors ≡ [] → ⊥) → ((s.kept.errors ≡ [] → ⊥) → (y : Lexeme) → Faultless s.source text s.place y → ⊥) → (ms : Lexemes) → Lexes (Faultless s.source text) s.place (pass ms) → ⊥
  some_wrong {s} nowhere n h ms r = h n (here ms) (here_at (Faultless s.source text) ms r)
  some_wrong {s} (one_more {s' = m} {x = x} {n = news} w i p) n h ms r = go news.faults refl (λ o. some_wrong w o h (next x ms) r)
    where
      go : (ds : List Diagnostic) → news.faults ≡ ds → ((m.kept.errors ≡ [] → ⊥) → ⊥) → ⊥
      go [] e again = again (λ z. n (λ j. z j ++ e j))
      go (d ∷ ds) e again = i.faults.some (λ z. cons_some d ds (sym e ∙ z)) (here ms) (here_at (Faultless m.source text) ms (subst (λ (v : Goal). Lexes (Faultless v text) x.to ms) (sym (source_kept w)) (behind_walk (Faultless s.source text) w (next x ms) r).1))
  some_wrong {s} (read_again {s' = m} {x = x} {n = news} w ds k i) n h ms r = go ds refl news.faults refl (λ o. some_wrong w o h (next x ms) r)
    where
      there : Lexes (Faultless m.source text) m.place (next x ms)
      there = subst (λ (v : Goal). Lexes (Faultless v text) m.place (next x ms)) (sym (source_kept w)) (behind_walk (Faultless s.source text) w (next x ms) r)

      go : (cs : List Diagnostic) → ds ≡ cs → (fs : List Diagnostic) → news.faults ≡ fs → ((m.kept.errors ≡ [] → ⊥) → ⊥) → ⊥
      go [] d [] e again = again (λ z. n (λ j. (z j ++ d j) ++ e j))
      go (c ∷ cs) d fs e again = k.some (λ z. cons_some c cs (sym d ∙ z)) there.0
      go [] d (f ∷ fs) e again = i.faults.some (λ z. cons_some f fs (sym e ∙ z)) (here ms) (here_at (Faultless m.source text) ms there.1)
  some_wrong {s} (more_faults {pass = pass} w ds n) k h ms r = n ms (all_aside text s.source s.place (pass ms) r)

-- The statements that were taken up to the text's end, by the faults that were kept.
module _ {text : List ℕ} {f : Flags} {q : Parser} (a : At text f q) (e : q.token.kind ≡ Eof) {s : ℕ} {slots : Slots → Slots} {pass : Lexemes → Lexemes} (u : Stretch text (plain (at_end Text)) (with_directives Text f) s (statements Text f) q.prev_token_end slots pass) {source : Goal}
    {keeps : Bool} {kept : LexerOutput} (w : Walked text (record { source = source; keeps_tokens = keeps; place = s; kept = kept }) (spot q) pass) (first : KeptFor source text s kept.errors) where
  right_body : q.lexer.kept.errors ≡ [] → Body (Faultless source text) f s (slots end) (pass (last (end_here a e).0))
  right_body z = let x = any_so a e u in let y = end_here a e in record {
    lexed = all_right w z (λ v. first.none v) (last y.0) x.lexed (right_there w z (λ v. first.none v) y.0 y.1 (ap (one_of_kinds other_goals) y.2));
    place = x.place;
    final = x.final;
    is_end = x.is_end;
    derived = x.derived;
  }

  wrong_body : (q.lexer.kept.errors ≡ [] → ⊥) → {ts : Slots} {ls : Lexemes} → Body (Faultless source text) f s ts ls → ⊥
  wrong_body n b = some_wrong w n first.some (last (end_here a e).0) (subst (λ (ls : Lexemes). Lexes (Faultless source text) s ls) (only_so a e u (any_body source b)).1 b.lexed)

  -- what was kept is of the lexemes of each list
  module _ (trivia : TriviaKept text s kept.comments kept.irregular_whitespaces) (no_tokens : kept.tokens ≡ []) {ts : Slots} {ls : Lexemes} (b : Body (Faultless source text) f s ts ls) where
    of_lexemes : (P : (ls : Lexemes) → Lexes (Faultless source text) s ls → Type 0) → ((l : Lexes (Faultless source text) s (pass (last (end_here a e).0))) → P (pass (last (end_here a e).0)) l) → P ls b.lexed
    of_lexemes P h = subst (λ (ls : Lexemes). (l : Lexes (Faultless source text) s ls) → P ls l) (sym (only_so a e u (any_body source b)).1) h b.lexed

    comments_so : q.lexer.kept.comments ≡ each_of comments_before text source s ls b.lexed
    comments_so = of_lexemes (λ ls l. q.lexer.kept.comments ≡ each_of comments_before text source s ls l) (λ l. all_kept comments_before text source (λ s. s.kept.comments) (λ n. n.comments) (λ s x n. refl) (λ s ds. refl) (λ s x n i ms m. first_comments text source x.to i.trivia ms m) w (end_here a e).0 l (first_comments text source s trivia (pass (last (end_here a e).0)) l))

    blanks_so : q.lexer.kept.irregular_whitespaces ≡ each_of blanks_before text source s ls b.lexed
    blanks_so = of_lexemes (λ ls l. q.lexer.kept.irregular_whitespaces ≡ each_of blanks_before text source s ls l) (λ l. all_kept blanks_before text source (λ s. s.kept.irregular_whitespaces) (λ n. n.blanks) (λ s x n. refl) (λ s ds. refl) (λ s x n i ms m. first_blanks text source x.to i.trivia ms m) w (end_here a e).0 l (first_blanks text source s trivia (pass (last (end_here a e).0)) l))

    tokens_so : keeps ≡ true → TellsEach ls q.lexer.kept.tokens
    tokens_so asks = of_lexemes (λ ls l. TellsEach ls q.lexer.kept.tokens) (λ l. told_tokens)
      where
        told_tokens : TellsEach (pass (last (end_here a e).0)) q.lexer.kept.tokens
        told_tokens =
            let z = walk_tells w asks in
            let none : kept_token q.lexer.keeps_tokens q.token ≡ [] = λ i. elim ((keeps_still w ∙ asks) i && is_kept (e i)) as (λ _. List Token) [ true ↦ q.token ∷ [] | false ↦ [] ] in
            let all : q.lexer.kept.tokens ≡ z.0 ++ [] = a.kept_last ∙ (λ i. (z.1 ∙ ap (λ (ts : List Token). ts ++ z.0) no_tokens) i ++ none i) in
            subst (λ (ts : List Token). TellsEach (pass (last (end_here a e).0)) ts) (sym all) (z.2 (last (end_here a e).0) [] refl)

  -- and so the readings
  module _ {o : Options} (k : f ≡ covering source o) {front : Slots → Slots} {put : Lexemes → Lexemes} (opens : Front text source f s front put) where
    one_reading : q.lexer.kept.errors ≡ [] → IsOnlyReadingBy true text source o (program_tree (record { start = 0; end = q.token.span.end }) (front (slots end)))
    one_reading z =
        let b = right_body z in
        let ls = pass (last (end_here a e).0) in
        record {
          reading = record {
            lexemes = put ls;
            lexed = opens.joins ls b.lexed;
            place = b.place;
            final = b.final;
            is_end = b.is_end;
            derived = subst (λ (g : Flags). Derives rule (at Program g) (program_tree (record { start = 0; end = q.token.span.end }) (front (slots end))) 0 (put ls) b.place (last b.final)) k (subst (λ (n : ℕ). Takes rule (rule (at Program f)) end (tree (program_label n) (front (slots end)) end) 0 (put ls) end b.place (last b.final)) (ends_so a e u (any_body source b)) (opens.derives (slots end) ls b.place b.final b.derived));
          };
          only = λ t r. is_this t r;
        }
      where
        is_this : (t : Tree) (r : ReadingBy true text source o t) → (t ≡ program_tree (record { start = 0; end = q.token.span.end }) (front (slots end))) × (r.lexemes ≡ put (pass (last (end_here a e).0)))
        is_this t r =
            let p = parts_of k opens r in
            let b = any_body source (body_of k opens r) in
            let x = only_so a e u b in
            (same_tree (p.is ∙ (λ i. tree (program_label (ends_so a e u b i)) (front (x.0 i)) end)), p.lexemes ∙ ap put x.1)

    faulty_so : (q.lexer.kept.errors ≡ [] → ⊥) → HasNoReadingBy true text source o
    faulty_so n t r = wrong_body n (body_of k opens r)

    kept_so : TriviaKept text s kept.comments kept.irregular_whitespaces → kept.tokens ≡ [] → (t : Tree) (r : ReadingBy true text source o t) → IsKeptOf r keeps q.lexer.kept
    kept_so trivia none t r = let p = parts_of k opens r in let b = body_of k opens r in record {
      comments = comments_so trivia none b ∙ sym p.comments;
      blanks = blanks_so trivia none b ∙ sym p.blanks;
      tokens = λ asks. p.tokens q.lexer.kept.tokens (tokens_so trivia none b asks);
    }

-- where none are asked for, none are kept
none_in : {A : Type 0} (n : ℕ) → ◌≡◌ {A = List A} (take n []) []
none_in zero = refl
none_in (suc n) = refl

unasked_by : {text : List ℕ} {f : Flags} (v q : Parser) {pass : Lexemes → Lexemes} → At text f q → Walked text (spot v) (spot q) pass → v.lexer.keeps_tokens ≡ false → kept_before v.lexer v.token ≡ [] → q.lexer.kept.tokens ≡ []
unasked_by v q a w e z = a.kept_last ∙ ((λ i. (walk_unasked w e ∙ z) i ++ kept_none q.lexer.keeps_tokens q.token (keeps_still w ∙ e) i))

-- where no lexeme stands, no statement does, and a fault was kept
module _ {text : List ℕ} {f : Flags} {q : Parser} (a : At text f q) (e : q.token.kind ≡ Undetermined) where
  nothing_here : NoList text Text (statements Text f) q.prev_token_end
  nothing_here = fails_none (λ y l. go a.plain y l)
    where
      go : IsPlain text q → (y : Lexeme) → Lex text q.prev_token_end y → ⊥
      go (whole c n x) y l = n e
      go (sign c k x) y l = let z : RAngle ≡ Undetermined = sym k ∙ e in cc
      go (no_lexeme c k n) y l = let z = plain_there l in n z.lexeme z.stands

  fault_kept : q.lexer.kept.errors ≡ [] → ⊥
  fault_kept h = go a.at.token
    where
      none_of : (xs : List Diagnostic) (d : Diagnostic) → xs ++ d ∷ [] ≡ [] → ⊥
      none_of [] d h = cc
      none_of (x ∷ xs) d h = cc

      go : {b : Bool} → IsToken (goal q) q.text q.prev_token_end q.lexer.kept.errors q.token b → ⊥
      go (whole_token n x) = n e
      go (sign_token k x) = let z : RAngle ≡ Undetermined = sym k ∙ e in cc
      go (no_token {d = d} before k x n) = none_of before d (sym x ∙ h)

last_kind : (k : Kind) → is_last k ≡ true → (k ≡ Eof) ⊎ (k ≡ Undetermined)
last_kind k h = go (same_kind Eof k) refl h
  where
    go : (b : Bool) → same_kind Eof k ≡ b → (b || same_kind Undetermined k) ≡ true → (k ≡ Eof) ⊎ (k ≡ Undetermined)
    go true e h = inl (sym (kind_of_same Eof k e))
    go false e h = inr (sym (kind_of_same Undetermined k h))

-- ---- the children of Program

-- the parameters in force at the start
module_goal_is : (s : SourceType) → is_module s ≡ in_module (goal_of s)
module_goal_is s = go s.goal
  where
    go : (g : source.the_data) → elim g as (λ _. Bool) [ source.Module ↦ true | _ ↦ false ] ≡ in_module (elim g as (λ _. Goal) [ source.Script ↦ script | source.Module ↦ module_goal | source.CommonJs ↦ commonjs | source.Unambiguous ↦ unambiguous ])
    go source.Script = refl
    go source.Module = refl
    go source.CommonJs = refl
    go source.Unambiguous = refl

commonjs_is : (s : SourceType) → is_commonjs s ≡ in_commonjs (goal_of s)
commonjs_is s = go s.goal
  where
    go : (g : source.the_data) → elim g as (λ _. Bool) [ source.CommonJs ↦ true | _ ↦ false ] ≡ in_commonjs (elim g as (λ _. Goal) [ source.Script ↦ script | source.Module ↦ module_goal | source.CommonJs ↦ commonjs | source.Unambiguous ↦ unambiguous ])
    go source.Script = refl
    go source.Module = refl
    go source.CommonJs = refl
    go source.Unambiguous = refl

both_same : (b : Bool) → (b && b) ≡ b
both_same true = refl
both_same false = refl

at_start : {text : List ℕ} {b : Bool} {p : Parser} → Starts text p.source_type p.options b p → flags_of p ≡ covering (goal_of p.source_type) (options_of p.options)
at_start {p = p} s = let c = s.ctx in let m = module_goal_is p.source_type in let j = commonjs_is p.source_type in let e = (λ i. c.await i && c.await_expression i) ∙ (both_same (is_module p.source_type) ∙ m) in λ i. record { in_ = c.in_ i; yield_ = c.yield i; await_ = (c.await ∙ m) i; awaits = e i; return_ = (c.return ∙ ap (λ (v : Bool). v || p.options.allow_return_outside_function) j) i; new_target = (c.new_target ∙ j) i; module_goal = m i; v8 = p.options.allow_v8_intrinsics; cover = true; wide = false }

-- what a lexer that has kept nothing keeps with a token
module _ {old new : State} {t : Token} (g : GivesNext division old new t) (z : IsEmpty old.kept) {text : List ℕ} {source : Goal} {i : ℕ} (reads : old.text ≡ text) (reads_for : old.goal ≡ source) (place : old.place ≡ i) where
  faults_first : KeptFor source text i new.kept.errors
  faults_first =
      let more = each_at (html_fault_at (in_a_module old.goal)) old.place g.pieces ++ g.faults in
      subst (λ (ds : List Diagnostic). KeptFor source text i ds) (sym (g.grows.faults_grow ∙ ap (λ (ds : List Diagnostic). ds ++ more) z.errors))
      (subst (λ (n : ℕ). KeptFor source text n more) place
      (subst (λ (v : List ℕ). KeptFor source v old.place more) reads
      (subst (λ (v : Goal). KeptFor v old.text old.place more) reads_for (kept_for g))))

  trivia_first : TriviaKept text i new.kept.comments new.kept.irregular_whitespaces
  trivia_first =
      let comments = each_at (comment_at t.span.start) old.place g.pieces in
      let blanks = each_at irregular_at old.place g.pieces in
      subst (λ cs. TriviaKept text i cs new.kept.irregular_whitespaces) (sym (g.grows.comments_grow ∙ ap (λ cs. cs ++ comments) z.comments))
      (subst (λ bs. TriviaKept text i comments bs) (sym (g.grows.blanks_grow ∙ ap (λ bs. bs ++ blanks) z.irregular_whitespaces))
      (subst (λ (n : ℕ). TriviaKept text n comments blanks) place
      (subst (λ (v : List ℕ). TriviaKept v old.place comments blanks) reads (trivia_kept g))))

-- where a production may be read, it may be read in wider forms
in_wider_forms : {text : List ℕ} {f : Flags} {p : Parser} → At text f p → At text (widened true f) p
in_wider_forms a = record { text_is = a.text_is; flags_are = ap (widened true) a.flags_are; at = a.at; plain = a.plain; behind = a.behind; heads = a.heads; kept_last = a.kept_last }

-- A parser stands where the list of directives and items begins, behind the text's front; nothing was found but in what stands before the current token.
record Begun (text : List ℕ) (f : Flags) (source : SourceType) (o : ParseOptions) (s : ℕ) (front : Slots → Slots) (put : Lexemes → Lexemes) (v : Parser) : Type 0 where
  stands : At text f v
  parameters_are : f ≡ covering (goal_of source) (options_of o)
  opens : Front text (goal_of source) f s front put
  loosely : (g : Flags) → LooseFront text g s
  starts : Begins (goal_of source) text (stage v)
  read_as : v.source_type ≡ source
  place : v.prev_token_end ≡ s
  faults : KeptFor (goal_of source) text s v.lexer.kept.errors
  trivia : TriviaKept text s v.lexer.kept.comments v.lexer.kept.irregular_whitespaces
  tokens : kept_before v.lexer v.token ≡ []
  errors : v.errors ≡ []
  lies : SpansLie v

module _ {text : List ℕ} {f : Flags} {source : SourceType} {o : ParseOptions} {s : ℕ} {front : Slots → Slots} {put : Lexemes → Lexemes} {v : Parser} (b : Begun text f source o s front put v) where
  none : NoList text Text (with_directives Text f) v.prev_token_end → HasNoReadingBy true text (goal_of source) (options_of o)
  none n = none_at_all b.parameters_are b.opens (subst (λ (i : ℕ). NoList text Text (with_directives Text f) i) b.place n)

  -- nor in the widest form
  no_loose_reading : NoList text Text (with_directives Text (widened true f)) v.prev_token_end → HasNoLooseReading text (goal_of source) (options_of o)
  no_loose_reading n t r =
      let same : widened true f ≡ widened true (covering (goal_of source) (options_of o)) = ap (widened true) b.parameters_are in
      let p = b.loosely (widened true f) t r.lexemes r.lexed r.place r.final (subst (λ (g : Flags). Derives rule (at Program g) t 0 r.lexemes r.place (last r.final)) (sym same) r.derived) in
      let body : Body (Lex text) (widened true f) s p.slots p.others = record { lexed = p.lexed; place = r.place; final = r.final; is_end = r.is_end; derived = p.derived } in
      no_list (subst (λ (i : ℕ). NoList text Text (with_directives Text (widened true f)) i) b.place n) body

  -- a text isn't read in wider forms
  narrow : f.wide ≡ true → ⊥
  narrow w = false≢true (sym (ap (λ (g : Flags). g.wide) b.parameters_are) ∙ w)

  -- where lexemes lead from there
  came : {q : Parser} → Follows v q → CameTo (goal_of source) text (stage q)
  came g = record { first = stage v; begins = b.starts; leads = leads_in (ap goal_of b.read_as) b.stands.text_is g.leads }

  module _ {q : Parser} {ids : List (Option NodeId)} (t : Taken text f Text (with_directives Text f) (statements Text f) v q ids) where
    walk : Walked text (record { source = goal_of source; keeps_tokens = v.lexer.keeps_tokens; place = s; kept = record v.lexer.kept { tokens = kept_before v.lexer v.token } }) (spot q) t.pass
    walk = walked_from (λ i. record { source = goal_of (b.read_as i); keeps_tokens = v.lexer.keeps_tokens; place = b.place i; kept = record v.lexer.kept { tokens = kept_before v.lexer v.token } }) t.walked

    whole_stretch : Stretch text (plain (at_end Text)) (with_directives Text f) v.prev_token_end (statements Text f) q.prev_token_end t.slots t.pass → Stretch text (plain (at_end Text)) (with_directives Text f) s (statements Text f) q.prev_token_end t.slots t.pass
    whole_stretch u = subst (λ (i : ℕ). Stretch text (plain (at_end Text)) (with_directives Text f) i (statements Text f) q.prev_token_end t.slots t.pass) b.place u

    kept_by : FoundNothing q → (q.token.kind ≡ Eof) ⊎ (q.token.kind ≡ Undetermined) → (w : Tree) (r : ReadingBy true text (goal_of source) (options_of o) w) → IsKeptOf r v.lexer.keeps_tokens q.lexer.kept
    kept_by z (inr e) w r = absurd (fault_kept t.at e z.faults)
    kept_by z (inl e) w r = go t.verdict
      where
        go : Verdict (f.wide ≡ true) v.errors q.errors (Stretch text (plain (at_end Text)) (with_directives Text f) v.prev_token_end (statements Text f) q.prev_token_end t.slots t.pass) (NoList text Text (with_directives Text f) v.prev_token_end) → IsKeptOf r v.lexer.keeps_tokens q.lexer.kept
        go (clean h u) = kept_so t.at e (whole_stretch u) walk b.faults b.parameters_are b.opens b.trivia b.tokens w r
        go (unclean g m) = absurd (none m w r)
        go (wider d g u) = absurd (narrow d)

    by_kind : (q.token.kind ≡ Eof) ⊎ (q.token.kind ≡ Undetermined) → ReadOrNot text source o q (front (t.slots end))
    by_kind (inl e) = go t.verdict
      where
        read : q.errors ≡ [] → Stretch text (plain (at_end Text)) (with_directives Text f) s (statements Text f) q.prev_token_end t.slots t.pass → (ds : List Diagnostic) → q.lexer.kept.errors ≡ ds → ReadOrNot text source o q (front (t.slots end))
        read h u [] z = inl (record { faults = z; errors = h }, one_reading t.at e u walk b.faults b.parameters_are b.opens z)
        read h u (d ∷ ds) z = inr (λ x. cons_some d ds (sym z ∙ x.faults), faulty_so t.at e u walk b.faults b.parameters_are b.opens (λ x. cons_some d ds (sym z ∙ x)))

        go : Verdict (f.wide ≡ true) v.errors q.errors (Stretch text (plain (at_end Text)) (with_directives Text f) v.prev_token_end (statements Text f) q.prev_token_end t.slots t.pass) (NoList text Text (with_directives Text f) v.prev_token_end) → ReadOrNot text source o q (front (t.slots end))
        go (clean h u) = read (h ∙ b.errors) (whole_stretch u) q.lexer.kept.errors refl
        go (unclean g m) = inr (λ x. grown_some g x.errors, none m)
        go (wider d g u) = absurd (narrow d)
    by_kind (inr e) = inr (λ x. fault_kept t.at e x.faults, none (none_left t (nothing_here t.at e)))

    -- the children of Program are those of the front and those that were taken
    all_taken : {keeps : Bool} {js : List (Option NodeId)} → is_last q.token.kind ≡ true → v.lexer.keeps_tokens ≡ keeps → HoldsAll q.nodes 1 (length q.nodes) js (front (t.slots end)) → ProgramTaken text source o keeps q js
    all_taken k same h = record {
      is_of = record { at = t.at.at; text_is = t.at.text_is; source_type = t.same.follows.source_type ∙ b.read_as };
      came = came t.same.follows;
      last = k;
      slots = front (t.slots end);
      holds = h;
      outcome = by_kind (last_kind q.token.kind k);
      keeps = t.same.follows.still.keeps_tokens ∙ same;
      unasked = λ u. unasked_by v q t.at t.walked (same ∙ u) b.tokens;
      kept = λ z w r. subst (λ (c : Bool). IsKeptOf r c q.lexer.kept) same (kept_by z (last_kind q.token.kind k) w r);
      lies = subst (λ (w : List ℕ). NodesLie w q.nodes) t.at.text_is (t.same.lies b.lies).1;
      early = t.same.early (All-same IsEarly v.errors [] b.errors (All-nil IsEarly));
    }

  stops_so : (q : Parser) (e : Stop) → AllRefused Text v q e → ProgramStops text source o q e
  stops_so q Fatal h = let r = h text f b.stands in record {
    is_of = record { at = r.at; text_is = r.follows.text ∙ b.stands.text_is; source_type = r.follows.source_type ∙ b.read_as };
    came = came r.follows;
    stopped = r.stopped (All-same IsEarly v.errors [] b.errors (All-nil IsEarly));
    lies = subst (λ (w : List ℕ). NodesLie w q.nodes) (r.follows.text ∙ b.stands.text_is) (r.lies b.lies);
    some = grown_some r.grown;
    none = none r.none;
    none_loosely = no_loose_reading (h text (widened true f) (in_wider_forms b.stands)).none;
  }
  stops_so q NoMemory h = tt

module _ {b : Bool} {p : Parser} (s : Starts p.text p.source_type p.options b p) where
  one_node : length p.nodes ≡ 1
  one_node = ap (λ (ns : List Node). length ns) s.nodes

  -- Program's node, as long as it isn't finished, lies at the text's start
  first_lies : NodesLie p.text p.nodes
  first_lies =
      let at_start = IsCharBoundary-start p.text s.at.utf8 in
      All-same (NodeFits p.text) p.nodes (empty_program ∷ []) s.nodes (All-cons (NodeFits p.text) empty_program [] (record { lies = record { ordered = omega arith; starts_whole = at_start; ends_whole = at_start }; texted = tt }) (All-nil (NodeFits p.text)))

  -- no hashbang comment stands here
  module _ (n : p.token.kind ≡ HashbangComment → ⊥) where
    first_next : NoLexeme hashbang_goal p.text 0 × GivesNext division s.lexer p.lexer p.token
    first_next = go s.first
      where
        go : GivesFirst s.lexer p.lexer p.token → NoLexeme hashbang_goal p.text 0 × GivesNext division s.lexer p.lexer p.token
        go (inl h) = absurd (n (h.gives.tells.kind ∙ kind_of_hashbang h.gives.stands))
        go (inr (z, g)) = (subst (λ (t : List ℕ). NoLexeme hashbang_goal t 0) s.reads z, g)

    at_first : Begun p.text (flags_of p) p.source_type p.options 0 (λ us. us) (λ ls. ls) p
    at_first = let g = first_next.1 in record {
      stands = begins s n;
      parameters_are = at_start s;
      opens = at_the_start (none_begins first_next.0);
      loosely = loosely_at_start (none_begins first_next.0);
      starts = begins_first p g s.kept_none s.reads s.reads_for s.at_start s.prev_token_end (λ x y. none_begins first_next.0 (x, y));
      read_as = refl;
      place = s.prev_token_end;
      faults = faults_first g s.kept_none s.reads s.reads_for s.at_start;
      trivia = trivia_first g s.kept_none s.reads s.reads_for s.at_start;
      tokens = before_next g ∙ s.kept_none.tokens;
      errors = s.errors;
      lies = (s.at.lies.starts_whole, first_lies);
    }

    program_taken : {q : Parser} {ids : List (Option NodeId)} → AllTaken Text p q ids → ProgramTaken p.text p.source_type p.options p.lexer.keeps_tokens q ids
    program_taken {q} {ids} (k, h) = let t = h p.text (flags_of p) at_first.stands in all_taken at_first t (text_ends q.token.kind k) refl (HoldsAll-wider 1 (length q.nodes) (let n = one_node in omega arith) (omega arith) t.holds)

    pub program_answers : {V : Type 0} (items_of : V → List (Option NodeId)) (q : Parser) (r : Result V Stop) → MatchResult r (λ v. AllTaken Text p q (items_of v)) (λ e. AllRefused Text p q e) → MatchResult r (λ v. ProgramTaken p.text p.source_type p.options p.lexer.keeps_tokens q (items_of v)) (λ e. ProgramStops p.text p.source_type p.options q e)
    program_answers items_of q (Ok v) h = program_taken h
    program_answers items_of q (Err e) h = stops_so at_first q e h

  -- behind a hashbang comment
  module _ (k : p.token.kind ≡ HashbangComment) {m v : Parser} (d : Passed p m) {span : Span} {id : NodeId} (same_span : span ≡ p.token.span) (n : MadeHere (plain_label Hashbang op.None span) [] m v id) where
    comment_stands : LexemeBehind hashbang_goal p.text 0 d.lexeme
    comment_stands = let h = begins_with_hashbang s k in subst (λ (y : Lexeme). LexemeBehind hashbang_goal p.text 0 y) (alone h.1.lex h.1.of_goal (subst (λ (i : ℕ). NextLexeme all_faults p.text i d.lexeme) s.prev_token_end d.stood)) h.1

    kept_nothing : IsEmpty p.lexer.kept
    kept_nothing = go s.first
      where
        go : GivesFirst s.lexer p.lexer p.token → IsEmpty p.lexer.kept
        go (inl h) = subst (λ (o : LexerOutput). IsEmpty o) (sym h.kept) s.kept_none
        go (inr (z, g)) = absurd (none_begins (subst (λ (t : List ℕ). NoLexeme hashbang_goal t 0) s.reads z) (d.lexeme, comment_stands))

    pub hashbang_stands : Standing v
    hashbang_stands = let a = behind_first s.at (none_noted p s.state) d in standing (subst (λ (r : Parser). At m.text (flags_of m) r) (sym n.stays) (beside_nodes v.nodes a))

    text_still : v.text ≡ p.text
    text_still = ap (λ (r : Parser). r.text) n.stays ∙ d.stays.text

    flags_still : flags_of v ≡ flags_of p
    flags_still = ap flags_of n.stays ∙ (λ i. record {
      in_ = has_flag in_flag (d.stays.ctx i);
      yield_ = has_flag yield_flag (d.stays.ctx i);
      await_ = has_flag await_flag (d.stays.ctx i);
      awaits = reads_await (d.stays.ctx i);
      return_ = has_flag return_flag (d.stays.ctx i);
      new_target = has_flag new_target_flag (d.stays.ctx i);
      module_goal = is_module (d.stays.source_type i);
      v8 = (ap (λ (x : ParseOptions). x.allow_v8_intrinsics) d.stays.options) i;
      cover = true;
      wide = false;
    })

    label_still : plain_label Hashbang op.None span ≡ hashbang_label d.lexeme
    label_still = λ i. record { kind = hashbang; op = no_op; flags = 0; span = record { from = (ap (λ (x : Span). x.start) same_span ∙ d.tells.start) i; to = (ap (λ (x : Span). x.end) same_span ∙ d.tells.end) i } }

    begun_behind : Begun p.text (flags_of p) p.source_type p.options d.lexeme.to (behind_comment d.lexeme) (λ ls. next d.lexeme ls) v
    begun_behind = record {
      stands = subst (λ (g : Flags). At p.text g v) flags_still (subst (λ (t : List ℕ). At t (flags_of v) v) text_still hashbang_stands);
      parameters_are = at_start s;
      opens = behind_a_comment comment_stands;
      loosely = loosely_behind comment_stands;
      starts = subst (λ (r : Parser). Begins (goal p) p.text (stage r)) (sym n.stays) (begins_behind m d.next kept_nothing s.at.reads s.at.reads_for ends_there d.moved comment_stands);
      read_as = ap (λ (r : Parser). r.source_type) n.stays ∙ d.stays.source_type;
      place = ap (λ (r : Parser). r.prev_token_end) n.stays ∙ d.moved;
      faults = subst (λ (r : Parser). KeptFor (goal p) p.text d.lexeme.to r.lexer.kept.errors) (sym n.stays) (faults_first d.next kept_nothing s.at.reads s.at.reads_for ends_there);
      trivia = subst (λ (r : Parser). TriviaKept p.text d.lexeme.to r.lexer.kept.comments r.lexer.kept.irregular_whitespaces) (sym n.stays) (trivia_first d.next kept_nothing s.at.reads s.at.reads_for ends_there);
      tokens = (λ i. kept_before (n.stays i).lexer (n.stays i).token) ∙ (before_next d.next ∙ kept_nothing.tokens);
      errors = ap (λ (r : Parser). r.errors) n.stays ∙ (d.stays.errors ∙ s.errors);
      lies = (hashbang_stands.at.lies.starts_whole, subst (λ (t : List ℕ). NodesLie t v.nodes) (sym text_still) (one_lies_in d.stays.text n comment_lies (All-same (NodeFits p.text) m.nodes p.nodes d.stays.nodes first_lies)));
    }
      where
        comment_lies : LiesIn (record { start = span.start; end = span.end }) p.text
        comment_lies = subst (λ (x : Span). LiesIn x p.text) (sym same_span) s.at.lies

        ends_there : p.lexer.place ≡ d.lexeme.to
        ends_there = s.at.last ∙ d.tells.end

    pub hashbang_refused : (q : Parser) (e : Stop) → AllRefused Text v q e → ProgramStops p.text p.source_type p.options q e
    hashbang_refused q e h = stops_so begun_behind q e h

    pub hashbang_taken : {q : Parser} {ids js : List (Option NodeId)} → AllTaken Text v q ids → js ≡ Some id ∷ ids → ProgramTaken p.text p.source_type p.options p.lexer.keeps_tokens q js
    hashbang_taken {q} {ids} {js} (z, h) e =
        let t = h p.text (flags_of p) begun_behind.stands in
        let first = Holds-kept t.keeps (Holds-wider 1 (length v.nodes) (let x = one_node in let y = ap (λ (ns : List Node). length ns) d.stays.nodes in omega arith) (omega arith) (leaf_held n (Keeps-refl m.nodes))) in
        all_taken begun_behind t (text_ends q.token.kind z) (ap (λ (r : Parser). r.lexer.keeps_tokens) n.stays ∙ d.stays.same.keeps_tokens)
        (subst (λ (l : Label). HoldsAll q.nodes 1 (length q.nodes) js (tree l end (t.slots end))) label_still
        (subst (λ (ks : List (Option NodeId)). HoldsAll q.nodes 1 (length q.nodes) ks (tree (plain_label Hashbang op.None span) end (t.slots end))) (sym e) (HoldsAll-append (HoldsAll-one id first) t.holds)))

-- a start, of what the parser itself says of its text
pub starts_itself : {source : List ℕ} {st : SourceType} {o : ParseOptions} {b : Bool} {p : Parser} → Starts source st o b p → (b : Bool) × Starts p.text p.source_type p.options b p
starts_itself {source} {st} {o} {b} {p} s = (b, subst (λ (t : List ℕ). Starts t p.source_type p.options b p) (sym s.text) (subst (λ (x : SourceType). Starts source x p.options b p) (sym s.source_type) (subst (λ (y : ParseOptions). Starts source st y b p) (sym s.options) s)))

pub kept_for_start : {source : List ℕ} {st : SourceType} {o : ParseOptions} {b asked : Bool} {p : Parser} {out : LexerOutput} → b ≡ asked → Starts source st o b p → KeepsRight p.text (goal_of p.source_type) (options_of p.options) p.lexer.keeps_tokens out → KeepsRight source (goal_of st) (options_of o) asked out
kept_for_start {source} {st} {o} {b} {asked} {p} {out} e s h = subst (λ (t : List ℕ). KeepsRight t (goal_of st) (options_of o) asked out) s.text (subst (λ (x : SourceType). KeepsRight p.text (goal_of x) (options_of o) asked out) s.source_type (subst (λ (y : ParseOptions). KeepsRight p.text (goal_of p.source_type) (options_of y) asked out) s.options (subst (λ (a : Bool). KeepsRight p.text (goal_of p.source_type) (options_of p.options) a out) (asks s.first ∙ e) h)))
  where
    asks : GivesFirst s.lexer p.lexer p.token → p.lexer.keeps_tokens ≡ b
    asks (inl h) = h.same.keeps_tokens ∙ s.keeps_tokens
    asks (inr h) = h.1.same.keeps_tokens ∙ s.keeps_tokens
