-- Templates (ECMA-262, 13.2.8): moves over their parts, what is read of one, and what is said of one behind an optional chain.
use Rattle.std.proofs.Common.{ℕ, ◌+◌, ◌-◌, cond, ◌||◌, IsTrue, ◌≡◌, ◌<◌, ◌⊎◌, inl, inr, Bool, true, false, not, ◌&&◌, List, [], ◌∷◌, ◌++◌, length, Option, Some, refl, sym, ap, subst, arith, ◌∙◌, append_assoc}
use Rattle.std.specs.Prelude.{IsCharBoundary, Result, Ok, Err, max}
use Rattle.std.proofs.lemmas.Bool.{false≢true, and_parts, and_from, or_left, or_right, not-true}
use Rattle.std.proofs.lemmas.List.Elements.{All-same}
use Rattle.js_base.specs.declared.diagnostic.Diagnostic.{Diagnostic}
use Rattle.js_base.specs.declared.diagnostic.DiagnosticKind.TheVariants.{OptionalChainTaggedTemplate}
use Rattle.js_base.specs.declared.kind.Kind.{Kind}
use Rattle.js_base.specs.declared.kind.Kind.TheVariants.{Dot, LBrack, LParen, NoSubstitutionTemplate, PrivateIdentifier, QuestionDot, RAngle, RCurly, RegExp, TemplateHead, TemplateMiddle, TemplateTail, Undetermined}
use Rattle.js_base.specs.declared.span.Span.{Span}
use Rattle.js_base.specs.Kinds.{same_kind, one_of_kinds}
use Rattle.js_base.specs.Spans.{LiesIn}
use Rattle.js_base.specs.Texts.{words}
use Rattle.js_base.proofs.KindLemmas.{kind_of_same}
use Rattle.js_grammar.specs.Trees.{Label, Slots, end, no_op, template_element, template_literal, tree}
use Rattle.js_grammar.specs.Grammar.{Lexeme, Lexemes, Look, Takes, alt, here, is, is_left, is_many, is_nothing, is_right, is_seq, many, next, nothing, seen, seq}
use Rattle.js_grammar.specs.FirstSets.{first}
use Rattle.js_grammar.specs.Parsing.{Fails, Goes, Reads, Test, full, passing, plain, still}
use Rattle.js_grammar.specs.Table.{part, rule, rule_of}
use Rattle.js_grammar.specs.Lexemes.{LexicalGoal, division, is_word, kind_in, template_tail}
use Rattle.js_grammar.specs.Lexed.{NextLexeme, all_faults, comments_pass, passing_of}
use Rattle.js_grammar.specs.LexicalFaults.{Reached}
use Rattle.js_grammar.specs.Marks.{Mark, EdgeOf, IsLexemeOf, the_start, the_end, a_lexeme}
use Rattle.js_grammar.specs.Productions.{Expression, Flags, G, Primary, Symbol, Template, at, plus_in, tail_flag}
use Rattle.js_grammar.specs.Productions.{sym as symbol}
use Rattle.js_grammar.specs.Follow.{after}
use Rattle.js_grammar.specs.Settings.{Goal}
use Rattle.js_grammar.proofs.Calculus.{◌▹◌, ◌▹✗◌, by_rule, fails_node, weaken, weaken_fails, here_at, inside_full, makes_by, part_fails, reads_lexeme, same, then_by}
use Rattle.js_grammar.proofs.First.{starts}
use Rattle.js_grammar.proofs.FirstClaims.{firsts}
use Rattle.js_grammar.proofs.FirstRules.{by_first, fails_here, picks}
use Rattle.js_grammar.proofs.FollowLaws.{fails_by, surely}
use Rattle.js_grammar.proofs.Lexemes.{first_or}
use Rattle.js_grammar.proofs.Alike.{stands-same}
use Rattle.js_grammar.proofs.Looks.{apart, covers, covered, same_self}
use Rattle.js_grammar.proofs.CoreLexed.{flags-none}
use Rattle.laws_shared.specs.js_lex.Comments.{each_at, comment_at, irregular_at, html_fault_at}
use Rattle.laws_shared.specs.js_lex.Reading.{cut, in_a_module, is_kept, is_right_angle, Tells, GivesLexeme, GivesNone, LexemeBehind, Outcome}
use Rattle.laws_shared.specs.js_lex.States.{goal_of}
use Rattle.laws_shared.proofs.js_lex.Again.{cut_same}
use Rattle.laws_shared.proofs.part_words.KindsOfLexemes.{tail_is}
use Rattle.laws_shared.specs.js_tree.declared.id.NodeId.{NodeId}
use Rattle.laws_shared.specs.js_tree.declared.kind.NodeKind.TheVariants as node
use Rattle.laws_shared.specs.js_tree.declared.op.Op.TheVariants as op
use Rattle.laws_shared.specs.js_tree.Nodes.{Node}
use Rattle.laws_shared.specs.js_tree.Holding.{Holds, HoldsAll, Keeps}
use Rattle.laws_shared.proofs.js_tree.HoldingLemmas.{HoldsAll-none, HoldsAll-two, HoldsAll-next, Keeps-refl, Keeps-trans, Keeps-made}
use Rattle.laws_shared.specs.js_cursor.Moves.{Completed, GivesUp, IsUnexpected, KeepsDiagnostic, MovesOn, Passed as PassedOn, ReadAgain, is_last}
use Rattle.laws_shared.specs.js_cursor.Notes.{Notes}
use Rattle.laws_shared.specs.js_cursor.Parsers.{Parser}
use Rattle.laws_shared.specs.js_cursor.Places.{IsAt, goal}
use Rattle.laws_shared.specs.js_cursor.Tokens.{IsToken, whole as whole_token, sign as sign_token, nothing as no_token}
use Rattle.laws_shared.specs.js_cursor.declared.stop.Stop.{Stop}
use Rattle.laws_shared.specs.js_cursor.declared.stop.Stop.TheVariants.{Fatal, NoMemory}
use Rattle.laws_shared.proofs.js_cursor.Later.{keeps_follows, passed_follows, read_again_follows, follows_on}
use Rattle.laws_shared.proofs.js_cursor.Moving.{lexeme_some}
use Rattle.laws_shared.specs.Answers.{Answer, Grown, Numbered, Stops, Underived, clean, unclean}
use Rattle.laws_shared.specs.Answers.{Outcome as Answered}
use Rattle.laws_shared.specs.Arguments.{Partway}
use Rattle.laws_shared.specs.Classes.{IsEarly}
use Rattle.laws_shared.specs.Heads.{NotedHeads}
use Rattle.laws_shared.specs.Lexemes.{Lex, KeptFor, IsNew, IsReread, News, Spot, TriviaKept, Walked, goal_for, is_read, nowhere, one_more, onward, other_goals, read_again, spot, template_tails, with_faults, is_read_kind}
use Rattle.laws_shared.specs.Moves.{MadeHere, unpassable, plain_label}
use Rattle.laws_shared.specs.Nesting.{room}
use Rattle.laws_shared.specs.States.{At, IsPlain, whole, sign, nothing as none_stands, Same, flags_of}
use Rattle.laws_shared.specs.Told.{unrelated_at}
use Rattle.laws_shared.proofs.Classes.{unexpected_ends}
use Rattle.laws_shared.proofs.Giving.{kept_one}
use Rattle.laws_shared.proofs.Here.{alike, begins_here, found, kind_here, plain_token, uncut, unsettled}
use Rattle.laws_shared.proofs.Slashes.{tail_goal}
use Rattle.laws_shared.proofs.Escapes.{escapable_kinds, no_word_among, read_listed, read_plain}
use Rattle.laws_shared.proofs.Parts.{part_called, part_path, part_path_fails}
use Rattle.laws_shared.proofs.Parts.{parts as parts_joined}
use Rattle.laws_primary.proofs.Operands.{behind_primary, by_path}
use Rattle.laws_shared.proofs.Kept.{kept_for, passing_so}
use Rattle.laws_shared.proofs.KeptTokens.{again_before, again_last, before_next, next_kept_last, trivia_kept}
use Rattle.laws_shared.proofs.MadeNodes.{leaf_held, made_lies, node_held, one_lies}
use Rattle.laws_shared.proofs.Moving.{beside_nodes, flags_same, heads_kept, nodes_lie, plain_given, same_both, same_with, stops_behind, stops_so, same_of}
use Rattle.laws_shared.proofs.Paths.{at_kind, at_kinds, fails_at, label_here, noded, read_of, walked_both, walked_to}
use Rattle.laws_shared.proofs.Signs.{closing_there, span_is}
use Rattle.laws_shared.proofs.Told.{told_at, told_same}
use Rattle.laws_shared.proofs.Verdicts.{either_way, grown_then, verdict_of, ending}
use Rattle.laws_shared.proofs.Verdicts.{after as grown_behind}
use Rattle.laws_primary.specs.Members.{LinkForm, NoLink, Taken, by_call, by_index, by_name, by_private}
use Rattle.laws_primary.specs.Templates.{BeginsPart, NoTail, PartAt, PartBegun, PartTaken, Tagged, TakesPart, TellsTemplate, TemplateOutcome, TemplateTaken, Templated, element_label, heads, inside_end, left_of, literal, parts, tagged_label, tail_of, LastIs, last_parts}
use Rattle.laws_primary.specs.declared.forms.PassedPart.{PassedPart}
use Rattle.laws_primary.proofs.PartInsides.{IsInside, part_inside}
use Rattle.laws_primary.proofs.AsyncWords.{any_between}

-- ---- kinds of parts

abbrev a_part : Look
a_part k w e = one_of_kinds parts k

abbrev passable : Look
passable k w e = is_kept k && (not (unpassable k) && not (same_kind RAngle k))

abbrev a_read_sign : Look
a_read_sign k w e = is_read_kind k && not (is_word k || same_kind PrivateIdentifier k)

part_kinds : covers a_part passable ≡ true
unfolding covers
part_kinds = refl

parts_read : covers a_part a_read_sign ≡ true
unfolding covers words
parts_read = refl

abbrev a_head : Look
a_head k w e = one_of_kinds heads k

abbrev plain_part : Look
plain_part k w e = one_of_kinds parts k && (not (one_of_kinds unsettled k) && not (one_of_kinds other_goals k))

head_kinds : covers a_head plain_part ≡ true
unfolding covers
head_kinds = refl

part_counts : (k : Kind) → one_of_kinds parts k ≡ true → is_kept k ≡ true
part_counts k h = (and_parts (is_kept k) _ (covered a_part passable part_kinds k false false h)).0

part_passes : (k : Kind) → one_of_kinds parts k ≡ true → (is_last k ≡ false) × (same_kind RAngle k ≡ false)
part_passes k h =
    let z = and_parts (not (unpassable k)) (not (same_kind RAngle k)) (and_parts (is_kept k) _ (covered a_part passable part_kinds k false false h)).1 in
    (not-true (unpassable k) z.0, not-true (same_kind RAngle k) z.1)

part_read : (k : Kind) → one_of_kinds parts k ≡ true → (is_read_kind k ≡ true) × ((is_word k || same_kind PrivateIdentifier k) ≡ false)
part_read k h = let z = and_parts (is_read_kind k) _ (covered a_part a_read_sign parts_read k false false h) in (z.0, not-true (is_word k || same_kind PrivateIdentifier k) z.1)

head_part : (k : Kind) → one_of_kinds heads k ≡ true → one_of_kinds parts k ≡ true
head_part k h = (and_parts (one_of_kinds parts k) _ (covered a_head plain_part head_kinds k false false h)).0

head_settled : (k : Kind) → one_of_kinds heads k ≡ true → (one_of_kinds unsettled k ≡ false) × (one_of_kinds other_goals k ≡ false)
head_settled k h =
    let z = and_parts (not (one_of_kinds unsettled k)) (not (one_of_kinds other_goals k)) (and_parts (one_of_kinds parts k) _ (covered a_head plain_part head_kinds k false false h)).1 in
    (not-true (one_of_kinds unsettled k) z.0, not-true (one_of_kinds other_goals k) z.1)

-- a part that begins with a brace
tail_part : (k : Kind) → one_of_kinds template_tails k ≡ true → one_of_kinds parts k ≡ true
tail_part k h = first_or (λ (v : Kind). one_of_kinds parts v ≡ true) TemplateMiddle k _ _ refl h refl (λ h. first_or (λ (v : Kind). one_of_kinds parts v ≡ true) TemplateTail k _ _ refl h refl (λ h. absurd (false≢true h)))

tail_goal_for : (k : Kind) → one_of_kinds template_tails k ≡ true → goal_for k ≡ template_tail
tail_goal_for k h = first_or (λ (v : Kind). goal_for v ≡ template_tail) TemplateMiddle k _ _ refl h refl (λ h. first_or (λ (v : Kind). goal_for v ≡ template_tail) TemplateTail k _ _ refl h refl (λ h. absurd (false≢true h)))

tail_other : (k : Kind) → one_of_kinds template_tails k ≡ true → (one_of_kinds other_goals k ≡ true) × (same_kind RegExp k ≡ false)
tail_other k h = first_or (λ (v : Kind). (one_of_kinds other_goals v ≡ true) × (same_kind RegExp v ≡ false)) TemplateMiddle k _ _ refl h (refl, refl) (λ h. first_or (λ (v : Kind). (one_of_kinds other_goals v ≡ true) × (same_kind RegExp v ≡ false)) TemplateTail k _ _ refl h (refl, refl) (λ h. absurd (false≢true h)))

-- ---- what stands at a part

module _ {text : List ℕ} {f : Flags} {p : Parser} (a : At text f p) (h : one_of_kinds heads p.token.kind ≡ true) where
  head_passes : (is_last p.token.kind ≡ false) × (same_kind RAngle p.token.kind ≡ false)
  head_passes = part_passes p.token.kind (head_part p.token.kind h)

  -- it is what stands here
  pub heads_there : (y : Lexeme) → Lex text p.prev_token_end y → (y.kind ≡ p.token.kind) × (y.escaped ≡ false)
  heads_there y l = let k = kind_here a refl (head_settled p.token.kind h).0 y l in (k, read_listed heads y l (subst (λ (v : Kind). one_of_kinds heads v ≡ true) (sym k) h) refl)

  pub part_here : PartAt text f p
  part_here = record { text_is = a.text_is; flags_are = a.flags_are; at = a.at; uncut = uncut a head_passes.1; part = head_part p.token.kind h; begins = begins_here a; behind = a.behind; heads = a.heads; kept_last = a.kept_last }

  -- a lexeme begins there
  head_edge : EdgeOf (goal p) text p.token.span.start
  head_edge = let y = found a (uncut a head_passes.1) head_passes.0 in the_start (a_lexeme (subst (λ (t : List ℕ). Reached t p.prev_token_end) a.text_is a.at.reached) y.1) (sym y.2.start)

pub part_standing : {text : List ℕ} {f : Flags} {p : Parser} → PartAt text f p → PartAt p.text (flags_of p) p
part_standing {text} {f} {p} a = subst (λ (t : List ℕ). PartAt t (flags_of p) p) (sym a.text_is) (record { text_is = a.text_is; flags_are = refl; at = a.at; uncut = a.uncut; part = a.part; begins = a.begins; behind = a.behind; heads = a.heads; kept_last = a.kept_last })

-- ---- a part was passed

-- nodes and diagnostics don't matter to that
last_beside : {q : Parser} {k : Kind} (ns : List Node) (ds : List Diagnostic) → LastIs q k → LastIs (record q { nodes = ns; errors = ds }) k
last_beside ns ds x = record { lexeme = x.lexeme; of_text = x.of_text; ends = x.ends; is = x.is }

-- The part was passed, and nothing else was made or kept.
pub record PartMoved (text : List ℕ) (f : Flags) (p q : Parser) : Type 0 where
  pub at : At text f q
  pub same : Same p q
  pub nodes : q.nodes ≡ p.nodes
  pub kept : q.errors ≡ p.errors
  pub further : p.token.span.start < q.prev_token_end
  pub lexeme : Lexeme
  pub stands : Lex text p.prev_token_end lexeme
  pub tells : Tells lexeme p.token
  pub ends : lexeme.to ≡ q.prev_token_end
  pub news : News
  pub is_new : IsNew text (spot p) lexeme news
  pub spot_is : spot q ≡ onward (spot p) lexeme news
  pub last : LastIs q p.token.kind

module _ {text : List ℕ} {f : Flags} {p q : Parser} (a : PartAt text f p) where
  part_passed : MovesOn p q → PassedOn p q
  part_passed (mid, c, h) = go c h
    where
      go : Completed p mid → ((is_last mid.token.kind ≡ true) × (q ≡ mid) × IsAt q) ⊎ ((is_last mid.token.kind ≡ false) × PassedOn mid q) → PassedOn p q
      go (inr e) k = absurd (false≢true (sym a.uncut ∙ e.0))
      go (inl e) (inl k) = absurd (false≢true (sym (part_passes p.token.kind a.part).0 ∙ (sym (ap (λ (r : Parser). is_last r.token.kind) e.1) ∙ k.0)))
      go (inl e) (inr k) = subst (λ (r : Parser). PassedOn r q) e.1 k.1

  module _ (h : PassedOn p q) where
    text_is : q.text ≡ text
    text_is = h.stays.text ∙ a.text_is

    reads : p.lexer.text ≡ q.text
    reads = a.at.reads ∙ sym h.stays.text

    place : p.lexer.place ≡ q.prev_token_end
    place = a.at.last ∙ (h.tells.end ∙ sym h.moved)

    outcome : Outcome division cut (goal q) q.text q.prev_token_end q.token [] h.next.faults
    outcome =
        subst (λ (v : Goal). Outcome division cut v q.text q.prev_token_end q.token [] h.next.faults) (sym h.next.same.goal ∙ h.at.reads_for)
        (subst (λ (v : List ℕ). Outcome division cut p.lexer.goal v q.prev_token_end q.token [] h.next.faults) reads
        (subst (λ (v : ℕ). Outcome division cut p.lexer.goal p.lexer.text v q.token [] h.next.faults) place h.next.outcome))

    next_at : At text f q
    next_at = record {
      text_is = text_is;
      flags_are = flags_same p q h.stays.ctx h.stays.source_type h.stays.options ∙ a.flags_are;
      at = h.at;
      plain = subst (λ (v : List ℕ). IsPlain v q) text_is (plain_given h.next.faults h.at.token outcome);
      behind = let s = h.next.start in let e = place in omega arith;
      heads = heads_kept p q h.stays.text h.stays.source_type h.stays.options (ap (λ (n : Notes). n.failed) h.stays.state) (ap (λ (n : Notes). n.operands) h.stays.state) (ap (λ (n : Notes). n.arrows) h.stays.state) (ap (λ (n : Notes). n.others) h.stays.state) a.heads;
      kept_last = next_kept_last h.next;
    }

    there : (P : List ℕ → ℕ → Type 0) → P p.lexer.text p.lexer.place → P text h.lexeme.to
    there P i = subst (λ (v : List ℕ). P v h.lexeme.to) (a.at.reads ∙ a.text_is) (subst (λ (n : ℕ). P p.lexer.text n) (a.at.last ∙ h.tells.end) i)

    the_news : News
    the_news = record {
      token = p.token;
      comments = each_at (comment_at q.token.span.start) p.lexer.place h.next.pieces;
      blanks = each_at irregular_at p.lexer.place h.next.pieces;
      faults = each_at (html_fault_at (in_a_module p.lexer.goal)) p.lexer.place h.next.pieces ++ h.next.faults;
    }

    last_is : LastIs q p.token.kind
    last_is = record { lexeme = h.lexeme; of_text = subst (λ (t : List ℕ). IsLexemeOf (goal q) t h.lexeme) (sym h.stays.text) (a_lexeme a.at.reached h.stood); ends = sym h.moved; is = sym h.tells.kind }

    stood : NextLexeme all_faults text p.prev_token_end h.lexeme
    stood = subst (λ (v : List ℕ). NextLexeme all_faults v p.prev_token_end h.lexeme) a.text_is h.stood

    lexeme_read : IsTrue (is_read h.lexeme)
    lexeme_read = let k = part_read h.lexeme.kind (subst (λ (k : Kind). one_of_kinds parts k ≡ true) h.tells.kind a.part) in read_of h.lexeme refl k.0

    moved : PartMoved text f p q
    unfolding the_news
    moved = record {
      at = next_at;
      same = same_of h.at (passed_follows h) h.stays.nodes h.stays.errors h.stays.options h.stays.ctx h.stays.depth h.stays.visits;
      nodes = h.stays.nodes;
      kept = h.stays.errors;
      further = let e = h.moved in let t = h.tells.start in let l = lexeme_some h.stood (λ e. false≢true (sym (part_passes p.token.kind a.part).0 ∙ ap is_last (h.tells.kind ∙ e))) in omega arith;
      lexeme = h.lexeme;
      stands = (stood, lexeme_read);
      tells = h.tells;
      ends = sym h.moved;
      news = the_news;
      is_new = record {
        stood = stood;
        tells = h.tells;
        counts = part_counts p.token.kind a.part;
        faults = subst (λ (v : Goal). KeptFor v text h.lexeme.to the_news.faults) a.at.reads_for (there (λ v i. KeptFor p.lexer.goal v i the_news.faults) (kept_for h.next));
        trivia = there (λ v i. TriviaKept v i the_news.comments the_news.blanks) (trivia_kept h.next);
      };
      spot_is = λ i. record {
        source = goal_of (h.stays.source_type i);
        keeps_tokens = h.next.same.keeps_tokens i;
        place = h.moved i;
        kept = record { comments = h.next.grows.comments_grow i; irregular_whitespaces = h.next.grows.blanks_grow i; tokens = (before_next h.next ∙ a.kept_last) i; errors = h.next.grows.faults_grow i };
      };
      last = last_is;
    }

  pub part_moves : MovesOn p q → PartMoved text f p q
  part_moves m = moved (part_passed m)

-- with its node
pub part_taken : {text : List ℕ} {f : Flags} {p q w : Parser} {id : NodeId} (last : Bool) (s : Span) → PartMoved text f p q → LiesIn s p.text → s.start ≡ p.token.span.start + 1 → s.end ≡ inside_end p.token → MadeHere (element_label last s) [] q w id → last ≡ one_of_kinds last_parts p.token.kind → PartTaken text f p w id last
part_taken {text} {f} {p} {q} {w} {id} last s m l b c n e = subst (λ (z : Parser). PartTaken text f p z id last) (sym n.stays) (
    record {
      at = beside_nodes w.nodes m.at;
      same = same_with w.nodes m.same keeps (λ b h. one_lies n (subst (λ (t : List ℕ). LiesIn s t) (sym m.same.follows.text) l) h);
      kept = m.kept;
      further = m.further;
      lexeme = m.lexeme;
      stands = m.stands;
      tells = m.tells;
      ends = m.ends;
      news = m.news;
      is_new = m.is_new;
      spot_is = m.spot_is;
      holds = subst (λ (v : Span). Holds w.nodes (length p.nodes) (length w.nodes) id.0 (element_label last v) end) (span_is s b c) (leaf_held n kept);
      keeps = keeps;
      last = last_beside w.nodes q.errors m.last;
      is = e;
    }
    )
  where
    kept : Keeps p.nodes q.nodes
    kept = subst (λ (ns : List Node). Keeps p.nodes ns) (sym m.nodes) (Keeps-refl p.nodes)

    keeps : Keeps p.nodes w.nodes
    keeps = Keeps-trans kept (Keeps-made n.made)

-- ---- the grammar of the parts

tail_starts : (f : Flags) → covers (λ k w e. starts first (tail_of f) full k w e) (λ k w e. one_of_kinds template_tails k) ≡ true
unfolding covers
tail_starts f = refl

module _ {text : List ℕ} (f : Flags) {s : ℕ} where
  -- no part that begins with a brace stands there
  no_part : ((y : Lexeme) → Lex text s y → one_of_kinds template_tails y.kind ≡ true → ⊥) → NoTail text f s
  no_part n = fails_here firsts (λ y l h. n y l (covered (λ k w e. starts first (tail_of f) full k w e) (λ k w e. one_of_kinds template_tails k) (tail_starts f) y.kind y.newline y.escaped h))

-- ---- a part was read again

module _ {text : List ℕ} {f : Flags} {p q : Parser} (a : At text f p) (k : p.token.kind ≡ RCurly) (h : ReadAgain template_tail p q) where
  -- the brace, as the plain goal gives it
  brace : GivesLexeme division (λ y. y) text p.prev_token_end p.token
  brace = go a.plain
    where
      go : IsPlain text p → GivesLexeme division (λ y. y) text p.prev_token_end p.token
      go (whole c n x) = x
      go (sign c e x) = absurd (let z : RCurly ≡ RAngle = sym k ∙ e in cc)
      go (none_stands c e n) = absurd (let z : RCurly ≡ Undetermined = sym k ∙ e in cc)

  brace_kind : brace.lexeme.kind ≡ RCurly
  brace_kind = sym brace.tells.kind ∙ k

  brace_read : Lex text p.prev_token_end brace.lexeme
  unfolding words
  brace_read = (brace.stands.lex, read_of brace.lexeme brace_kind refl)

  again : Outcome template_tail (λ z. z) p.lexer.goal p.lexer.text p.prev_token_end q.token h.going_on h.faults
  again =
      let reads : text ≡ p.lexer.text = sym a.text_is ∙ sym a.at.reads in
      h.again.outcome p.prev_token_end brace.lexeme (subst (λ (v : List ℕ). IsCharBoundary v p.prev_token_end) (sym a.at.reads) a.at.between) (subst (λ (v : List ℕ). LexemeBehind division v p.prev_token_end brace.lexeme) reads brace.stands) (subst (λ (y : Lexeme). Tells y p.token) (sym (cut_same brace.lexeme (ap is_right_angle brace_kind))) brace.tells)

  module _ (n : q.token.kind ≡ Undetermined → ⊥) (g : h.going_on ≡ []) where
    given : (h.faults ≡ h.going_on) × GivesLexeme template_tail (λ z. z) text p.prev_token_end q.token
    given = go (same_kind Undetermined q.token.kind) refl again
      where
        go : (r : Bool) → same_kind Undetermined q.token.kind ≡ r → elim r as (λ _. Type 0) [ true ↦ (d : Diagnostic) × (h.faults ≡ d ∷ []) × GivesNone template_tail p.lexer.goal p.lexer.text p.prev_token_end q.token d | false ↦ (h.faults ≡ h.going_on) × GivesLexeme template_tail (λ z. z) p.lexer.text p.prev_token_end q.token ] → (h.faults ≡ h.going_on) × GivesLexeme template_tail (λ z. z) text p.prev_token_end q.token
        go true e x = absurd (n (sym (kind_of_same Undetermined q.token.kind e)))
        go false e x = (x.0, subst (λ (v : List ℕ). GivesLexeme template_tail (λ z. z) v p.prev_token_end q.token) (a.at.reads ∙ a.text_is) x.1)

    tail_kind : one_of_kinds template_tails q.token.kind ≡ true
    tail_kind = of_tail q.token.kind (tail_is given.1.stands.lex.word q.token.kind (subst (λ (j : Kind). kind_in template_tail given.1.stands.lex.word given.1.stands.lex.rest ≡ Some j) (sym given.1.tells.kind) (subst (λ (g : LexicalGoal). kind_in g given.1.stands.lex.word given.1.stands.lex.rest ≡ Some given.1.lexeme.kind) given.1.stands.of_goal given.1.stands.lex.lexeme.kind)))
      where
        of_tail : (j : Kind) → (j ≡ TemplateMiddle) ⊎ (j ≡ TemplateTail) → one_of_kinds template_tails j ≡ true
        of_tail j (inl e) = ap (one_of_kinds template_tails) e
        of_tail j (inr e) = ap (one_of_kinds template_tails) e

    uncut_again : q.cut ≡ false
    uncut_again = go q.cut refl h.at.token
      where
        go : (b : Bool) → q.cut ≡ b → IsToken (goal q) q.text q.prev_token_end q.lexer.kept.errors q.token b → q.cut ≡ false
        go false e x = e
        go true e (sign_token j x) = absurd (false≢true (sym (part_passes q.token.kind (tail_part q.token.kind tail_kind)).1 ∙ ap (same_kind RAngle) j))

    counted : (is_kept p.token.kind ≡ true) × (is_kept q.token.kind ≡ true)
    counted = (subst (λ (v : Kind). is_kept v ≡ true) (sym k) refl, part_counts q.token.kind (tail_part q.token.kind tail_kind))

    -- no fault of its own was kept, and none can be
    reread_so : (y : Lexeme) → Lex text p.prev_token_end y → Tells y q.token → IsReread text (spot p) y h.faults
    reread_so y l t = record {
      is = (tail_other y.kind kind).0;
      none = λ e r.
          let b = r brace.lexeme brace_read (ap (one_of_kinds other_goals) brace_kind) in
          (passing_so l.0 (subst (λ (ps : List (List ℕ)). comments_pass (passing_of (goal p)) ps ≡ true) (stands-same b.0.stands l.0.stands).pieces b.0.comments) (flags-none (passing_of (goal p)) y.kind l.0.word (tail_other y.kind kind).1), l.1);
      some = λ e. absurd (e (given.0 ∙ g));
    }
      where
        kind : one_of_kinds template_tails y.kind ≡ true
        kind = subst (λ (v : Kind). one_of_kinds template_tails v ≡ true) t.kind tail_kind

    pub part_begun : PartBegun text f p q
    part_begun = record {
      at = record {
        text_is = h.stays.text ∙ a.text_is;
        flags_are = flags_same p q h.stays.ctx h.stays.source_type h.stays.options ∙ a.flags_are;
        at = h.at;
        uncut = uncut_again;
        part = tail_part q.token.kind tail_kind;
        begins = λ y l. begins_here a y (subst (λ (n : ℕ). Lex text n y) h.place l) ∙ sym h.again.start;
        behind = let s = h.again.start in let g = a.behind in let l = h.place in omega arith;
        heads = heads_kept p q h.stays.text h.stays.source_type h.stays.options (ap (λ (n : Notes). n.failed) h.stays.state) (ap (λ (n : Notes). n.operands) h.stays.state) (ap (λ (n : Notes). n.arrows) h.stays.state) (ap (λ (n : Notes). n.others) h.stays.state) a.heads;
        kept_last = again_last p.lexer q.lexer p.token q.token h.again.same.keeps_tokens h.again.tokens counted.0 counted.1 a.kept_last;
      };
      same = same_of h.at (read_again_follows h) h.stays.nodes h.stays.errors h.stays.options h.stays.ctx h.stays.depth h.stays.visits;
      nodes = h.stays.nodes;
      kept = h.stays.errors;
      place = h.place;
      start = h.again.start;
      tail = tail_kind;
      closing = λ y l. (closing_there a k y l).0;
      faults = h.faults;
      spot_is = λ i. record {
        source = goal_of (h.stays.source_type i);
        keeps_tokens = h.again.same.keeps_tokens i;
        place = h.place i;
        kept = record { comments = h.again.comments i; irregular_whitespaces = h.again.blanks i; tokens = again_before p.lexer q.lexer p.token q.token h.again.same.keeps_tokens h.again.tokens counted.0 counted.1 i; errors = h.again.errors i };
      };
      reread = reread_so;
    }

  -- where nothing ends the part
  pub unended_stops : q.token.kind ≡ Undetermined → (r : Parser) (e : Stop) → GivesUp (IsUnexpected q) q r e → Stops p r e (NoTail text f p.prev_token_end)
  unended_stops u r Fatal g = record {
    at = g.2.at;
    follows = follows_on (read_again_follows h) (keeps_follows g.2);
    grown = grown_then h.stays.errors (kept_one g.2);
    stopped = λ w. record { before = q.errors; last = g.0; is = ap (λ (z : Parser). z.errors) g.2.is; early = All-same IsEarly q.errors p.errors h.stays.errors w; ends = unexpected_ends h.at g.0 g.1 };
    lies = λ l. nodes_lie p r (text_stays) (nodes_stay) l.1;
    heads = subst NotedHeads (sym g.2.is) (heads_kept p q h.stays.text h.stays.source_type h.stays.options (ap (λ (n : Notes). n.failed) h.stays.state) (ap (λ (n : Notes). n.operands) h.stays.state) (ap (λ (n : Notes). n.arrows) h.stays.state) (ap (λ (n : Notes). n.others) h.stays.state) a.heads);
    none = no_part f none_there;
  }
    where
      text_stays : r.text ≡ p.text
      text_stays = ap (λ (z : Parser). z.text) g.2.is ∙ h.stays.text

      nodes_stay : r.nodes ≡ p.nodes
      nodes_stay = ap (λ (z : Parser). z.nodes) g.2.is ∙ h.stays.nodes

      none_there : (y : Lexeme) → Lex text p.prev_token_end y → one_of_kinds template_tails y.kind ≡ true → ⊥
      none_there y l j = go (same_kind Undetermined q.token.kind) refl again
        where
          go : (b : Bool) → same_kind Undetermined q.token.kind ≡ b → elim b as (λ _. Type 0) [ true ↦ (d : Diagnostic) × (h.faults ≡ d ∷ []) × GivesNone template_tail p.lexer.goal p.lexer.text p.prev_token_end q.token d | false ↦ (h.faults ≡ h.going_on) × GivesLexeme template_tail (λ z. z) p.lexer.text p.prev_token_end q.token ] → ⊥
          go true e x = x.2.none y (subst (λ (v : List ℕ). LexemeBehind template_tail v p.prev_token_end y) (sym a.text_is ∙ sym a.at.reads) (record { lex = l.0; of_goal = tail_goal l.0 j }))
          go false e x = false≢true (sym e ∙ ap (same_kind Undetermined) u)
  unended_stops u r NoMemory g = tt

-- no brace stands where a part is due
pub no_brace : {text : List ℕ} {f : Flags} {p : Parser} → At text f p → (p.token.kind ≡ RCurly → ⊥) → NoTail text f p.prev_token_end
unfolding covers apart
no_brace {f = f} {p} a n = fails_at a {X = plain full} (tail_of f) (RCurly ∷ template_tails) refl (neither_of (same_kind RCurly p.token.kind) refl (plain_token a.plain))
  where
    neither_of : (b : Bool) → same_kind RCurly p.token.kind ≡ b → one_of_kinds other_goals p.token.kind ≡ false → (b || one_of_kinds template_tails p.token.kind) ≡ false
    neither_of true e h = absurd (n (sym (kind_of_same RCurly p.token.kind e)))
    neither_of false e h = second (same_kind RegExp p.token.kind) (one_of_kinds template_tails p.token.kind) h
      where
        second : (b c : Bool) → (b || c) ≡ false → c ≡ false
        second true c h = absurd (false≢true (sym h))
        second false c h = h

-- one part, over its lexeme
part_reads : {text : List ℕ} {X : Test} {s from : ℕ} {y : Lexeme} (fl close : ℕ) (k : Kind) → Lex text s y → y.kind ≡ k → one_of_kinds escapable_kinds k ≡ false → ((z : Lexeme) → Lex text s z → z.from ≡ from) → Reads rule (Lex text) X end (part fl close k) s y.to (tree (record { kind = template_element; op = no_op; flags = fl; span = record { from = from + 1; to = y.to - close } }) end) (passing y)
part_reads {text} {X} {s} {from} {y} fl close k l e n b =
    makes_by (record { kind = template_element; op = no_op; flags = fl; span = record { from = from + 1; to = y.to - close } }) inside_full
    (reads_lexeme (is k) l (and_from _ _ (subst (λ (v : Kind). same_kind k v ≡ true) (sym e) (same_self k)) (ap not (read_plain y l e n))) (λ z m t. alike m l (sym (ap goal_for (kind_of_same k z.kind (and_parts (same_kind k z.kind) (not z.escaped) t).0)) ∙ sym (ap goal_for e))))
    (λ ls ls' i j. ap (λ (v : ℕ). record { kind = template_element; op = no_op; flags = fl; span = record { from = v + 1; to = y.to - close } }) (b (here ls) (here_at (Lex text) ls i)))

abbrev element : Bool → Parser → Label
element b p = element_label b (record { start = p.token.span.start + 1; end = inside_end p.token })

-- by the token
part_goes : {text : List ℕ} {f : Flags} {X : Test} {p q : Parser} {id : NodeId} {b : Bool} (k : Kind) (d : Bool) → PartAt text f p → (x : PartTaken text f p q id b) → b ≡ d → p.token.kind ≡ k → one_of_kinds last_parts k ≡ d → Reads rule (Lex text) X end (part (cond d tail_flag 0) (cond d 1 2) k) p.prev_token_end q.prev_token_end (tree (element b p) end) (passing x.lexeme)
part_goes {text} {f} {X} {p} {q} {id} {b} k d a x e i j =
    subst (λ (l : Label). Reads rule (Lex text) X end (part (cond d tail_flag 0) (cond d 1 2) k) p.prev_token_end q.prev_token_end (tree l end) (passing x.lexeme)) label
    (subst (λ (n : ℕ). Reads rule (Lex text) X end (part (cond d tail_flag 0) (cond d 1 2) k) p.prev_token_end n (tree read_label end) (passing x.lexeme)) x.ends
    (part_reads (cond d tail_flag 0) (cond d 1 2) k x.stands (sym x.tells.kind ∙ i) (no_word_among parts k refl (subst (λ (v : Kind). one_of_kinds parts v ≡ true) i a.part)) a.begins))
  where
    read_label : Label
    read_label = record { kind = template_element; op = no_op; flags = cond d tail_flag 0; span = record { from = p.token.span.start + 1; to = x.lexeme.to - cond d 1 2 } }

    shorter : (one_of_kinds last_parts k) ≡ one_of_kinds last_parts p.token.kind
    shorter = ap (one_of_kinds last_parts) (sym i)

    label : read_label ≡ element b p
    label = λ m. record { kind = template_element; op = no_op; flags = cond (sym e m) tail_flag 0; span = record { from = p.token.span.start + 1; to = sym x.tells.end m - cond ((sym j ∙ shorter) m) 1 2 } }

-- what stands behind an Expression: a part with another one, or the last part
abbrev choice : Flags → G
choice f = alt (seq (part 0 2 TemplateMiddle) (left_of false f)) (part tail_flag 1 TemplateTail)

rolled : {text : List ℕ} {X : Test} {s : ℕ} (f : Flags) → Goes rule (Lex text) X end (tail_of f) s (choice f) s (λ us. us) (still 0)
rolled f = same (λ ts us i j ls rest d. to ts us i j ls rest d) (λ ts us i j ls rest d. of ts us i j ls rest d)
  where
    to : {rule' : Symbol → G} {m e t : G} {ks : Slots} (ts us : Slots) (i j : ℕ) (ls rest : Lexemes) → Takes rule' (seq (many (seq m e)) t) ks ts i ls us j rest → Takes rule' (alt (seq m (seq e (seq (many (seq m e)) t))) t) ks ts i ls us j rest
    to ts us i j ls rest (is_seq (is_many (is_left (is_seq (is_seq x y) z))) w) = is_left (is_seq x (is_seq y (is_seq z w)))
    to ts us i j ls rest (is_seq (is_many (is_right is_nothing)) w) = is_right w

    of : {rule' : Symbol → G} {m e t : G} {ks : Slots} (ts us : Slots) (i j : ℕ) (ls rest : Lexemes) → Takes rule' (alt (seq m (seq e (seq (many (seq m e)) t))) t) ks ts i ls us j rest → Takes rule' (seq (many (seq m e)) t) ks ts i ls us j rest
    of ts us i j ls rest (is_left (is_seq x (is_seq y (is_seq z w)))) = is_seq (is_many (is_left (is_seq (is_seq x y) z))) w
    of ts us i j ls rest (is_right w) = is_seq (is_many (is_right is_nothing)) w

-- where a template begins, no link begins that is none
no_links_here : {text : List ℕ} (f : Flags) {s : ℕ} (c : LinkForm) (o : Bool) → ((y : Lexeme) → Lex text s y → one_of_kinds heads y.kind ≡ true) → NoLink text f s c o
no_links_here {text} f {s} c o z = go c o
  where
    no_link : (k : Kind) → one_of_kinds heads k ≡ false → (y : Lexeme) → Lex text s y → IsTrue (seen (is k) y) → ⊥
    no_link k n y l h = false≢true (sym n ∙ subst (λ (v : Kind). one_of_kinds heads v ≡ true) (sym (kind_of_same k y.kind (and_parts (same_kind k y.kind) (not y.escaped) h).0)) (z y l))

    go : (c : LinkForm) (o : Bool) → NoLink text f s c o
    go by_call true = fails_here firsts (λ y l h. no_link QuestionDot refl y l h)
    go by_name true = fails_here firsts (λ y l h. no_link QuestionDot refl y l h)
    go by_private true = fails_here firsts (λ y l h. no_link QuestionDot refl y l h)
    go by_index true = fails_here firsts (λ y l h. no_link QuestionDot refl y l h)
    go by_call false = fails_here firsts (λ y l h. no_link LParen refl y l h)
    go by_name false = fails_here firsts (λ y l h. no_link Dot refl y l h)
    go by_private false = fails_here firsts (λ y l h. no_link Dot refl y l h)
    go by_index false = fails_here firsts (λ y l h. no_link LBrack refl y l h)

-- ---- the first part

module _ {text : List ℕ} {f : Flags} {p q : Parser} {id : NodeId} {b : Bool} (a : At text f p) (h : one_of_kinds heads p.token.kind ≡ true) (x : PartTaken text f p q id b) where
  first_goes : Goes rule (Lex text) (plain full) end (literal f) p.prev_token_end (left_of b f) q.prev_token_end (tree (element b p) end) (record { reach = 0; pass = λ ls. next x.lexeme ls })
  unfolding covers apart
  first_goes = first_or (λ (k : Kind). p.token.kind ≡ k → Goes rule (Lex text) (plain full) end (literal f) p.prev_token_end (left_of b f) q.prev_token_end (tree (element b p) end) (record { reach = 0; pass = λ ls. next x.lexeme ls })) NoSubstitutionTemplate p.token.kind _ _ refl h (λ e. alone e) (λ h. first_or (λ (k : Kind). p.token.kind ≡ k → Goes rule (Lex text) (plain full) end (literal f) p.prev_token_end (left_of b f) q.prev_token_end (tree (element b p) end) (record { reach = 0; pass = λ ls. next x.lexeme ls })) TemplateHead p.token.kind _ _ refl h (λ e. head e) (λ h. absurd (false≢true h))) refl
    where
      alone : p.token.kind ≡ NoSubstitutionTemplate → Goes rule (Lex text) (plain full) end (literal f) p.prev_token_end (left_of b f) q.prev_token_end (tree (element b p) end) (record { reach = 0; pass = λ ls. next x.lexeme ls })
      alone e =
          let d : b ≡ true = x.is ∙ ap (one_of_kinds last_parts) e in
          subst (λ (v : Bool). Goes rule (Lex text) (plain full) end (literal f) p.prev_token_end (left_of v f) q.prev_token_end (tree (element b p) end) (record { reach = 0; pass = λ ls. next x.lexeme ls })) (sym d)
          (at_kind a {X = plain full} {g = literal f} NoSubstitutionTemplate e refl ▹ part_goes NoSubstitutionTemplate true (part_here a h) x d e refl)

      head : p.token.kind ≡ TemplateHead → Goes rule (Lex text) (plain full) end (literal f) p.prev_token_end (left_of b f) q.prev_token_end (tree (element b p) end) (record { reach = 0; pass = λ ls. next x.lexeme ls })
      head e =
          let d : b ≡ false = x.is ∙ ap (one_of_kinds last_parts) e in
          subst (λ (v : Bool). Goes rule (Lex text) (plain full) end (literal f) p.prev_token_end (left_of v f) q.prev_token_end (tree (element b p) end) (record { reach = 0; pass = λ ls. next x.lexeme ls })) (sym d)
          (at_kind a {X = plain full} {g = literal f} TemplateHead e refl ▹ then_by {X' = plain full} (part_goes TemplateHead false (part_here a h) x d e refl) any_between)

  first_way : Partway text f (literal f) (left_of b f) p q [] (Some id ∷ [])
  first_way = record {
    at = x.at;
    same = x.same;
    further = x.further;
    slots = tree (element b p) end;
    puts = λ us. refl;
    pass = λ ls. next x.lexeme ls;
    walked = walked_to (sym x.spot_is) (one_more nowhere x.is_new (subst (λ (k : Kind). one_of_kinds other_goals k ≡ false) x.tells.kind (head_settled p.token.kind h).1));
    verdict = clean x.kept (record { reach = 0; near = omega arith; goes = first_goes });
    holds = λ lo us h. HoldsAll-next id x.keeps h x.holds;
    keeps = x.keeps;
  }

-- ---- a part behind an Expression

module _ {text : List ℕ} {f : Flags} {r s t : Parser} {id : NodeId} {b : Bool} (g : PartBegun text f r s) (x : PartTaken text f s t id b) where
  the_part : Lex text r.prev_token_end x.lexeme
  the_part = subst (λ (n : ℕ). Lex text n x.lexeme) g.place x.stands

  a_tail : one_of_kinds template_tails x.lexeme.kind ≡ true
  a_tail = subst (λ (k : Kind). one_of_kinds template_tails k ≡ true) x.tells.kind g.tail

  -- the brace stands there, or this part
  brace_or : (k : Kind) → x.lexeme.kind ≡ k → (y : Lexeme) → Lex text r.prev_token_end y → one_of_kinds (RCurly ∷ k ∷ []) y.kind ≡ true
  brace_or k e y l = go (same_kind RCurly y.kind) refl (g.closing y l)
    where
      go : (c : Bool) → same_kind RCurly y.kind ≡ c → (c || one_of_kinds template_tails y.kind) ≡ true → one_of_kinds (RCurly ∷ k ∷ []) y.kind ≡ true
      go true i q = or_left (same_kind RCurly y.kind) _ i
      go false i q = or_right (same_kind RCurly y.kind) _ (or_left (same_kind k y.kind) false (subst (λ (v : Lexeme). same_kind k v.kind ≡ true) (alike the_part l (tail_goal_for x.lexeme.kind a_tail ∙ sym (tail_goal_for y.kind q))) (subst (λ (v : Kind). same_kind k v ≡ true) (sym e) (same_self k))))

  part_there : {X : Test} (k : Kind) (d : Bool) → b ≡ d → s.token.kind ≡ k → one_of_kinds last_parts k ≡ d → Reads rule (Lex text) X end (part (cond d tail_flag 0) (cond d 1 2) k) r.prev_token_end t.prev_token_end (tree (element b s) end) (passing x.lexeme)
  part_there {X} k d e i j = subst (λ (n : ℕ). Reads rule (Lex text) X end (part (cond d tail_flag 0) (cond d 1 2) k) n t.prev_token_end (tree (element b s) end) (passing x.lexeme)) g.place (part_goes k d g.at x e i j)

  tail_goes : Goes rule (Lex text) (plain full) end (tail_of f) r.prev_token_end (left_of b f) t.prev_token_end (tree (element b s) end) (record { reach = 0; pass = λ ls. next x.lexeme ls })
  unfolding covers apart
  tail_goes = first_or (λ (k : Kind). s.token.kind ≡ k → Goes rule (Lex text) (plain full) end (tail_of f) r.prev_token_end (left_of b f) t.prev_token_end (tree (element b s) end) (record { reach = 0; pass = λ ls. next x.lexeme ls })) TemplateMiddle s.token.kind _ _ refl g.tail (λ e. middle e) (λ h. first_or (λ (k : Kind). s.token.kind ≡ k → Goes rule (Lex text) (plain full) end (tail_of f) r.prev_token_end (left_of b f) t.prev_token_end (tree (element b s) end) (record { reach = 0; pass = λ ls. next x.lexeme ls })) TemplateTail s.token.kind _ _ refl h (λ e. last e) (λ h. absurd (false≢true h))) refl
    where
      middle : s.token.kind ≡ TemplateMiddle → Goes rule (Lex text) (plain full) end (tail_of f) r.prev_token_end (left_of b f) t.prev_token_end (tree (element b s) end) (record { reach = 0; pass = λ ls. next x.lexeme ls })
      middle e =
          let d : b ≡ false = x.is ∙ ap (one_of_kinds last_parts) e in
          subst (λ (v : Bool). Goes rule (Lex text) (plain full) end (tail_of f) r.prev_token_end (left_of v f) t.prev_token_end (tree (element b s) end) (record { reach = 0; pass = λ ls. next x.lexeme ls })) (sym d)
          (rolled f ▹ (picks firsts {X = plain full} (RCurly ∷ TemplateMiddle ∷ []) (brace_or TemplateMiddle (sym x.tells.kind ∙ e)) (choice f) ▹ then_by {X' = plain full} (part_there TemplateMiddle false d e refl) any_between))

      last : s.token.kind ≡ TemplateTail → Goes rule (Lex text) (plain full) end (tail_of f) r.prev_token_end (left_of b f) t.prev_token_end (tree (element b s) end) (record { reach = 0; pass = λ ls. next x.lexeme ls })
      last e =
          let d : b ≡ true = x.is ∙ ap (one_of_kinds last_parts) e in
          subst (λ (v : Bool). Goes rule (Lex text) (plain full) end (tail_of f) r.prev_token_end (left_of v f) t.prev_token_end (tree (element b s) end) (record { reach = 0; pass = λ ls. next x.lexeme ls })) (sym d)
          (rolled f ▹ (picks firsts {X = plain full} (RCurly ∷ TemplateTail ∷ []) (brace_or TemplateTail (sym x.tells.kind ∙ e)) (choice f) ▹ part_there TemplateTail true d e refl))

  tail_way : (ids : List (Option NodeId)) → Partway text f (tail_of f) (left_of b f) r t ids (ids ++ Some id ∷ [])
  tail_way ids = record {
    at = x.at;
    same = same_both g.same x.same;
    further = let i = x.further in let j = g.start in omega arith;
    slots = tree (element b s) end;
    puts = λ us. refl;
    pass = λ ls. next x.lexeme ls;
    walked = walked_to there (read_again nowhere g.faults (g.reread x.lexeme the_part x.tells) (record { stood = new.stood; tells = new.tells; counts = new.counts; faults = new.faults; trivia = new.trivia }));
    verdict = clean (x.kept ∙ g.kept) (record { reach = 0; near = omega arith; goes = tail_goes });
    holds = λ lo us h. HoldsAll-next id x.keeps (subst (λ (ns : List Node). HoldsAll ns lo (length ns) ids us) (sym g.nodes) h) x.holds;
    keeps = subst (λ (ns : List Node). Keeps ns t.nodes) g.nodes x.keeps;
  }
    where
      new : IsNew text (with_faults (spot r) g.faults) x.lexeme x.news
      new = subst (λ (v : Spot). IsNew text v x.lexeme x.news) g.spot_is x.is_new

      there : onward (with_faults (spot r) g.faults) x.lexeme x.news ≡ spot t
      there = sym (x.spot_is ∙ ap (λ (v : Spot). onward v x.lexeme x.news) g.spot_is)

-- ---- the parts of a template, and the expressions between them

-- what was kept since is more than before
pub grown_since : {p q : Parser} {ds : List Diagnostic} → Same p q → Grown q.errors ds → Grown p.errors ds
grown_since {p} {q} s g = record { more = s.follows.later_errors ++ g.more; kept = g.kept ∙ (ap (λ (v : List Diagnostic). v ++ g.more) s.follows.errors ∙ append_assoc p.errors s.follows.later_errors g.more); some = λ e. g.some (ending s.follows.later_errors g.more e) }

-- So much of it was read.
pub record PartsRead (text : List ℕ) (f : Flags) (p q : Parser) (ids : List (Option NodeId)) (is_last : Bool) : Type 0 where
  pub way : Partway text f (literal f) (left_of is_last f) p q [] ids
  pub kind : Kind
  pub last : LastIs q kind
  pub is : is_last ≡ one_of_kinds last_parts kind

-- an Expression is due
pub going_on : {text : List ℕ} {f : Flags} {p q : Parser} {ids : List (Option NodeId)} {b : Bool} → b ≡ false → PartsRead text f p q ids b → Partway text f (literal f) (left_of false f) p q [] ids
going_on {text} {f} {p} {q} {ids} e x = subst (λ (v : Bool). Partway text f (literal f) (left_of v f) p q [] ids) e x.way

with_expression : {text : List ℕ} {f : Flags} {p q r : Parser} {ids : List (Option NodeId)} {id : NodeId} → Partway text f (literal f) (left_of false f) p q [] ids → Numbered text f (at Expression (plus_in f)) q r id → Partway text f (literal f) (tail_of f) p r [] (ids ++ Some id ∷ [])
unfolding covers
with_expression {ids = ids} x y = parts_joined x (part_called ids y refl)

no_template : {text : List ℕ} {f : Flags} {s : ℕ} → Fails rule (Lex text) (plain full) end (literal f) s → Underived text (at Template f) s
unfolding rule rule_of
no_template n = fails_by (fails_node inside_full n)

pub parts_room : {text : List ℕ} {f : Flags} {p q : Parser} {ids : List (Option NodeId)} {b : Bool} → At text f p → PartsRead text f p q ids b → room q < room p
parts_room a x = let b = x.way.further in let c = a.behind in let d = x.way.at.at.between.0 in let g = x.way.same.follows.text in omega (arith, ap length g)

pub part_less : {text : List ℕ} {f : Flags} {n : Symbol} {q r s t : Parser} {e id : NodeId} {b : Bool} → At text f q → Numbered text f n q r e → PartBegun text f r s → PartTaken text f s t id b → room t < room q
part_less a y g z =
    let i = a.behind in
    let j = y.answer.further in
    let c = g.place in
    let d = g.at.behind in
    let k = z.further in
    let u = z.at.at.between.0 in
    let v = z.at.text_is in
    let w = a.text_is in
    omega (arith, ap length v, ap length w)

-- what stopped a call behind so much of it
pub parts_stop : {text : List ℕ} {f : Flags} {p q : Parser} {ids : List (Option NodeId)} {b : Bool} (r : Parser) (e : Stop) → b ≡ false → PartsRead text f p q ids b → Stops q r e (Underived text (at Expression (plus_in f)) q.prev_token_end) → Stops p r e (Underived text (at Template f) p.prev_token_end)
unfolding covers
parts_stop {f = f} r e i x z = stops_behind r e x.way.same (λ g. grown_since x.way.same g) (λ n. no_template (part_path_fails (going_on i x) (part_fails n (by_first firsts (surely (at Expression (plus_in f))) refl)))) z

pub parts_stop_later : {text : List ℕ} {f : Flags} {p q v : Parser} {ids : List (Option NodeId)} {id : NodeId} {b : Bool} (r : Parser) (e : Stop) → b ≡ false → PartsRead text f p q ids b → Numbered text f (at Expression (plus_in f)) q v id → Stops v r e (NoTail text f v.prev_token_end) → Stops p r e (Underived text (at Template f) p.prev_token_end)
parts_stop_later r e i x y z = let w = with_expression (going_on i x) y in stops_behind r e w.same (λ g. grown_since w.same g) (λ n. no_template (part_path_fails w n)) z

-- what the loop over them keeps
pub record PartsLoop (start : ℕ) (p q : Parser) (ids : List (Option NodeId)) (is_last : Bool) : Type 0 where
  pub start_is : start ≡ p.token.span.start
  pub goes : (text : List ℕ) (f : Flags) → At text f p → PartsRead text f p q ids is_last

pub parts_first : {p q : Parser} {start : ℕ} {part : PassedPart} {us vs : List (Option NodeId)} → one_of_kinds heads p.token.kind ≡ true → start ≡ p.token.span.start → ((text : List ℕ) (f : Flags) → At text f p → PartTaken text f p q part.element part.is_last) → us ≡ vs ++ Some part.element ∷ [] → vs ≡ [] → PartsLoop start p q us part.is_last
parts_first {p} {q} {part = part} k b h e n = record {
  start_is = b;
  goes = λ text f a.
      let z = h text f a in
      subst (λ (ids : List (Option NodeId)). PartsRead text f p q ids part.is_last) (sym (e ∙ ap (λ (ids : List (Option NodeId)). ids ++ Some part.element ∷ []) n)) (record { way = first_way a k z; kind = p.token.kind; last = z.last; is = z.is });
}

pub parts_next : {start : ℕ} {p q r s t : Parser} {e : NodeId} {part : PassedPart} {ids us vs : List (Option NodeId)} {before : Bool} → before ≡ false → PartsLoop start p q ids before → ((text : List ℕ) (f : Flags) → At text f q → Numbered text f (at Expression (plus_in f)) q r e) → BeginsPart r s (Ok tt) → TakesPart part s t → us ≡ ids ++ Some e ∷ [] → vs ≡ us ++ Some part.element ∷ [] → PartsLoop start p t vs part.is_last
parts_next {p = p} {r = r} {s = s} {t = t} {e = e} {part = part} {ids} o l h b z i j = record {
  start_is = l.start_is;
  goes = λ text f a.
      let x = l.goes text f a in
      let y = h text f x.way.at in
      let k = b text f y.answer.at in
      let u = z text f k.at in
      subst (λ (ids : List (Option NodeId)). PartsRead text f p t ids part.is_last) (sym (j ∙ ap (λ (ids : List (Option NodeId)). ids ++ Some part.element ∷ []) i)) (record { way = parts_joined (with_expression (going_on o x) y) (tail_way k u (ids ++ Some e ∷ [])); kind = s.token.kind; last = u.last; is = u.is });
}

-- the node of the template
pub template_made : {text : List ℕ} {f : Flags} {p q w : Parser} {ids : List (Option NodeId)} {id : NodeId} {s : Span} {b : Bool} → At text f p → b ≡ true → (x : PartsRead text f p q ids b) → s.start ≡ p.token.span.start → s.end ≡ q.prev_token_end → MadeHere (plain_label node.TemplateLiteral op.None s) ids q w id → TemplateTaken text f p w id
unfolding rule rule_of
template_made {text} {f} {p} {q} {w} {ids} {id} {s} a e x b c d =
    let y : Partway text f (literal f) nothing p q [] ids = subst (λ (v : Bool). Partway text f (literal f) (left_of v f) p q [] ids) e x.way in
    let l : plain_label node.TemplateLiteral op.None s ≡ label_here template_literal no_op p q = rw (b, c) refl in
    let n : MadeHere (label_here template_literal no_op p q) ids q w id = subst (λ (z : Label). MadeHere z ids q w id) l d in
    record {
      read = by_path (noded a (part_path y)) y.same n.stays (λ z i. refl) refl (node_held n (y.holds (length p.nodes) end (HoldsAll-none p.nodes (length p.nodes) (length p.nodes) (omega arith)))) (Keeps-trans y.keeps (Keeps-made n.made)) refl (one_lies n);
      kind = x.kind;
      last = subst (λ (z : Parser). LastIs z x.kind) (sym n.stays) (last_beside w.nodes q.errors x.last);
      is_last = sym x.is ∙ e;
    }

-- ---- a template as a PrimaryExpression, and behind a tag

module _ {text : List ℕ} {f : Flags} {p : Parser} (a : At text f p) (h : one_of_kinds heads p.token.kind ≡ true) where
  primary_alone : Goes rule (Lex text) (after (at Primary f)) end (rule (at Primary f)) p.prev_token_end (symbol Template f) p.prev_token_end (λ us. us) (still 0)
  unfolding rule rule_of covers apart
  primary_alone = at_kinds a heads refl h

  no_primary : Underived text (at Template f) p.prev_token_end → Underived text (at Primary f) p.prev_token_end
  no_primary n = fails_by (primary_alone ▹✗ weaken_fails n (λ ts y e. (refl, refl)))

  as_primary : {q : Parser} {id : NodeId} → Numbered text f (at Template f) p q id → Numbered text f (at Primary f) p q id
  as_primary {q} x = record {
    answer = record {
      at = x.answer.at;
      same = x.answer.same;
      further = x.answer.further;
      label = x.answer.label;
      slots = x.answer.slots;
      stops = behind_primary f.in_ x.answer.label x.answer.slots text q.prev_token_end;
      row = x.answer.row;
      pass = x.answer.pass;
      walked = x.answer.walked;
      verdict = verdict_of x.answer.verdict (λ y. record { reach = max 0 y.reach; near = let i = y.near in omega arith; goes = by_rule {X' = after (at Primary f)} (λ l cs vs z e. e) (primary_alone ▹ weaken y.goes (λ ts z e. (refl, refl))) refl }) (λ n. no_primary n);
    };
    holds = x.holds;
    keeps = x.keeps;
  }

pub template_outcome : (text : List ℕ) (f : Flags) (p q : Parser) (r : Result NodeId Stop) → At text f p → one_of_kinds heads p.token.kind ≡ true → TemplateOutcome text f p q r → Answered text f (at Primary f) p q r
template_outcome text f p q (Ok id) a h x = as_primary a h x.read
template_outcome text f p q (Err e) a h x = stops_so p q e (λ n. no_primary a h n) x

pub templated : {text : List ℕ} {f : Flags} {p q w : Parser} {start : ℕ} {left template id : NodeId} {s : Span} → one_of_kinds heads p.token.kind ≡ true → TemplateTaken text f p q template → s.start ≡ start → s.end ≡ q.prev_token_end → MadeHere (plain_label node.TaggedTemplateExpression op.None s) (Some left ∷ Some template ∷ []) q w id → Templated text f start left p w id
templated {q = q} {w} {left = left} {template} {id} h x b e m = record { sign = h; behind = q; template = template; taken = x.read; made = subst (λ (z : Label). MadeHere z (Some left ∷ Some template ∷ []) q w id) (rw (b, e) refl) m }

-- ---- the template behind a chain

module _ {text : List ℕ} {f : Flags} {p q : Parser} {template : NodeId} (a : At text f p) (h : one_of_kinds heads p.token.kind ≡ true) (x : TemplateTaken text f p q template) where
  abbrev answer : Answer text f (at Template f) p q
  answer = x.read.answer

  -- what is told of it has its mark
  pub template_marked : {s : Span} → s.start ≡ p.token.span.start → s.end ≡ q.prev_token_end → Mark (goal q) q.text (unrelated_at OptionalChainTaggedTemplate s)
  template_marked {s} b e = record {
    ordered = let i = answer.further in omega arith;
    within = let i = answer.at.at.between.0 in omega arith;
    begins_between = subst (λ (n : ℕ). IsCharBoundary q.text n) (sym b) (subst (λ (t : List ℕ). IsCharBoundary t p.token.span.start) (sym answer.same.follows.text) a.at.lies.starts_whole);
    ends_between = subst (λ (n : ℕ). IsCharBoundary q.text n) (sym e) answer.at.at.between;
    stands = ((subst (λ (n : ℕ). EdgeOf (goal q) q.text n) (sym b) begins, subst (λ (n : ℕ). EdgeOf (goal q) q.text n) (sym e) (the_end x.last.of_text x.last.ends)), (refl, refl));
  }
    where
      begins : EdgeOf (goal q) q.text p.token.span.start
      begins = subst (λ (t : List ℕ). EdgeOf (goal q) t p.token.span.start) (sym answer.at.text_is) (subst (λ (g : Goal). EdgeOf g text p.token.span.start) (sym (ap goal_of answer.same.follows.source_type)) (head_edge a h))

  -- no link of a chain begins with it
  no_links_there : (c : LinkForm) (o : Bool) → NoLink text f p.prev_token_end c o
  no_links_there c o = no_links_here f c o (λ y l. subst (λ (k : Kind). one_of_kinds heads k ≡ true) (sym (heads_there a h y l).0) h)

  pub template_tagged : {start : ℕ} {left id : NodeId} {s t : Span} {r w : Parser} → KeepsDiagnostic (unrelated_at OptionalChainTaggedTemplate s) q r → t.start ≡ start → t.end ≡ r.prev_token_end → MadeHere (plain_label node.TaggedTemplateExpression op.None t) (Some left ∷ Some template ∷ []) r w id → Tagged text f start left p w id
  template_tagged {start} {left} {id} {s} {t} {r} {w} k b e m = record {
    sign = (p.token.kind, or_right (same_kind QuestionDot p.token.kind) _ h, heads_there a h);
    none = no_links_there;
    behind = r;
    template = template;
    at = told_at k answer.at;
    same = same_both answer.same (told_same k refl);
    further = subst (λ (z : Parser). p.token.span.start < z.prev_token_end) (sym k.is) answer.further;
    grown = grown_since answer.same (kept_one k);
    pass = answer.pass;
    walked = subst (λ (z : Parser). Walked text (spot p) (spot z) answer.pass) (sym k.is) answer.walked;
    label = answer.label;
    slots = answer.slots;
    holds = subst (λ (z : Parser). Holds z.nodes (length p.nodes) (length z.nodes) template.0 answer.label answer.slots) (sym k.is) x.read.holds;
    keeps = subst (λ (z : Parser). Keeps p.nodes z.nodes) (sym k.is) x.read.keeps;
    made = subst (λ (z : Label). MadeHere z (Some left ∷ Some template ∷ []) r w id) (rw (b, e) refl) m;
  }

-- it is told last, from where it begins to where it ends
pub template_told : {text : List ℕ} {f : Flags} {p q r w : Parser} {template id : NodeId} {ids : List (Option NodeId)} {l : Label} (s : Span) (x : TemplateTaken text f p q template) → KeepsDiagnostic (unrelated_at OptionalChainTaggedTemplate s) q r → MadeHere l ids r w id → s.start ≡ p.token.span.start → s.end ≡ q.prev_token_end → TellsTemplate p w
template_told {p = p} {q = q} {r = r} {w = w} s x k m b e =
    let place : w.prev_token_end ≡ q.prev_token_end = ap (λ (z : Parser). z.prev_token_end) m.stays ∙ ap (λ (z : Parser). z.prev_token_end) k.is in
    let kept : w.errors ≡ q.errors ++ unrelated_at OptionalChainTaggedTemplate s ∷ [] = ap (λ (z : Parser). z.errors) m.stays ∙ ap (λ (z : Parser). z.errors) k.is in
    let span : s ≡ record { start = p.token.span.start; end = w.prev_token_end } = span_is s b (e ∙ sym place) in
    let last : LastIs r x.kind = subst (λ (z : Parser). LastIs z x.kind) (sym k.is) (last_beside q.nodes (q.errors ++ unrelated_at OptionalChainTaggedTemplate s ∷ []) x.last) in
    (x.read.answer.same.follows.later_errors, kept ∙ (λ i. x.read.answer.same.follows.errors i ++ unrelated_at OptionalChainTaggedTemplate (span i) ∷ []), x.kind, subst (λ (z : Parser). LastIs z x.kind) (sym m.stays) (last_beside w.nodes r.errors last), x.is_last)

-- where it can't be passed
pub template_stops : {text : List ℕ} {f : Flags} {p : Parser} (q : Parser) (e : Stop) → At text f p → one_of_kinds heads p.token.kind ≡ true → Stops p q e (Underived text (at Template f) p.prev_token_end) → Stops p q e ((c : LinkForm) (o : Bool) → NoLink text f p.prev_token_end c o)
template_stops {f = f} {p = p} q e a h s = stops_so p q e (λ z c o. no_links_here f c o (λ y l. subst (λ (k : Kind). one_of_kinds heads k ≡ true) (sym (heads_there a h y l).0) h)) s

-- a node around it, behind what was taken before
pub tag_taken : {text : List ℕ} {f : Flags} {C D : Label → Slots → (Lexemes → Lexemes) → ℕ → Type 0} {A : Type 0} {o p w : Parser} {left id : NodeId} {start : ℕ} (x : Taken text f o p left C A) → start ≡ o.token.span.start → Tagged text f start left p w id → (C x.label x.slots x.pass p.prev_token_end → A) → Taken text f o w id D A
tag_taken {text} {f} {C} {D} {A} {o} {p} {w} {left} {id} x e y bad =
    let n : MadeHere (tagged_label o.token.span.start y.behind.prev_token_end) (Some left ∷ Some y.template ∷ []) y.behind w id = subst (λ (v : ℕ). MadeHere (tagged_label v y.behind.prev_token_end) (Some left ∷ Some y.template ∷ []) y.behind w id) e y.made in
    let k = Keeps-trans x.keeps (Keeps-trans y.keeps (Keeps-made n.made)) in
    let far : o.token.span.start < y.behind.prev_token_end = (let i = x.further in let j = x.at.behind in let u = y.further in omega arith) in
    subst (λ (z : Parser). Taken text f o z id D A) (sym n.stays) (record {
      at = beside_nodes w.nodes y.at;
      same = same_with w.nodes (same_both x.same y.same) k (made_lies (same_both x.same y.same) y.at.at (omega arith) n refl);
      further = far;
      label = tagged_label o.token.span.start y.behind.prev_token_end;
      slots = tree x.label x.slots (tree y.label y.slots end);
      row = refl;
      pass = λ ls. x.pass (y.pass ls);
      walked = walked_both x.walked y.walked;
      verdict = unclean (grown_behind x.verdict y.grown) (either_way x.verdict bad (λ z. z));
      holds = node_held n (HoldsAll-two left y.template y.keeps x.holds y.holds);
      keeps = k;
    })

-- what stands between the delimiters of the part that stands here
pub inside_here : {text : List ℕ} {f : Flags} {p : Parser} → PartAt text f p → IsInside p.text p.token.span.start p.token.span.end p.token.kind
inside_here {p = p} a = go p.cut refl a.at.token
  where
    of_token : {goal : LexicalGoal} → GivesLexeme goal (λ y. y) p.text p.prev_token_end p.token → IsInside p.text p.token.span.start p.token.span.end p.token.kind
    of_token x = subst (λ (k : Kind). IsInside p.text p.token.span.start p.token.span.end k) (sym x.tells.kind) (subst (λ (n : ℕ). IsInside p.text n p.token.span.end x.lexeme.kind) (sym x.tells.start) (subst (λ (n : ℕ). IsInside p.text x.lexeme.from n x.lexeme.kind) (sym x.tells.end) (part_inside a.at.utf8 a.at.between x.stands.lex (subst (λ (k : Kind). one_of_kinds parts k ≡ true) x.tells.kind a.part))))

    go : (b : Bool) → p.cut ≡ b → IsToken (goal p) p.text p.prev_token_end p.lexer.kept.errors p.token b → IsInside p.text p.token.span.start p.token.span.end p.token.kind
    go false e (whole_token n x) = of_token x
    go false e (no_token before k d x) = absurd (false≢true (sym (part_passes p.token.kind a.part).0 ∙ ap is_last k))
    go true e x = absurd (false≢true (sym a.uncut ∙ e))

pub inside_lies : {text : List ℕ} {f : Flags} {p : Parser} (s : Span) → PartAt text f p → s.start ≡ p.token.span.start + 1 → s.end ≡ inside_end p.token → LiesIn s p.text
inside_lies {p = p} s a b e =
    let i = inside_here a in
    record {
      ordered = let o = i.fits in omega arith;
      starts_whole = subst (λ (n : ℕ). IsCharBoundary p.text n) (sym b) i.starts;
      ends_whole = subst (λ (n : ℕ). IsCharBoundary p.text n) (sym e) i.ends;
    }
