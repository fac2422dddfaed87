-- Members, `new` and optional chains, from what the calls that read them answer.
use Rattle.laws_shared.proofs.PlainSigns.{bracket_plain, closing_bracket_plain}
use Rattle.laws_shared.proofs.Signs.{none_seen, stands_there, stands_not}
use Rattle.std.proofs.Common.{ℕ, ◌≡◌, ◌≤◌, ◌<◌, ◌+◌, ◌⊎◌, inl, inr, max, List, [], ◌∷◌, length, Option, Some, None, Bool, true, false, not, ◌&&◌, ◌||◌, IsTrue, refl, sym, ap, subst, arith, ◌∙◌, nat_lt, ◌++◌}
use Rattle.std.specs.Prelude.{Result, Ok, Err, MatchResult}
use Rattle.std.proofs.lemmas.Bool.{false≢true, and_parts, and_from}
use Rattle.js_base.specs.declared.diagnostic.Diagnostic.{Diagnostic}
use Rattle.js_base.specs.Texts.{words}
use Rattle.laws_shared.specs.Told.{unrelated_at}
use Rattle.js_base.specs.declared.kind.Kind.{Kind}
use Rattle.js_base.specs.declared.kind.Kind.TheVariants.{RAngle, Import, New, Dot, QuestionDot, LParen, LBrack, NoSubstitutionTemplate, RBrack, PrivateIdentifier, Super as super_kind, TemplateHead, LAngle}
use Rattle.js_base.specs.declared.span.Span.{Span}
use Rattle.js_base.specs.Kinds.{same_kind, one_of_kinds, every_kind}
use Rattle.js_base.specs.KindSets.{identifier_name_kinds, binding_identifier_kinds}
use Rattle.js_base.proofs.KindLemmas.{kind_of_same}
use Rattle.js_grammar.specs.Trees.{Slots, end, tree, Label, no_op, identifier_name, private_identifier, new_expression, chain_expression}
use Rattle.js_grammar.specs.Grammar.{Lexeme, Lexemes, Look, next, seen, exact, seq, such, nothing, ◌▸◌}
use Rattle.js_grammar.specs.Insertion.{after_expression}
use Rattle.js_grammar.specs.Parsing.{plain, full, always, Fails}
use Rattle.js_grammar.specs.Productions.{G, Flags, Symbol, at, tok, plus_in, IdentifierName, PrivateName, Expression, Primary, Member, LeftHandSide, Template}
use Rattle.js_grammar.specs.Productions.{New as new_symbol, sym as symbol}
use Rattle.js_grammar.specs.Table.{rule, rule_of, args}
use Rattle.js_grammar.specs.Follow.{Edge, row_of, edge_of, follow, follow_of, after, tight}
use Rattle.js_grammar.proofs.Looks.{covers, covered, apart, not_both, same_self}
use Rattle.js_grammar.proofs.Calculus.{Inside, Within, inside_full, weaken, ◌▹◌, ◌▹✗◌, then_by, part_fails, fails_node, fails_under, fails_lexeme, weaken_fails}
use Rattle.js_grammar.proofs.FirstClaims.{firsts}
use Rattle.js_grammar.proofs.FirstRules.{by_first, fails_here}
use Rattle.js_grammar.proofs.FollowLaws.{fails_by, surely}
use Rattle.js_grammar.proofs.Lexemes.{first_or}
use Rattle.js_base.specs.declared.diagnostic.DiagnosticKind.TheVariants as fault
use Rattle.js_grammar.specs.Lexed.{all_faults}
use Rattle.js_grammar.specs.Lexed.{NextLexeme}
use Rattle.js_base.specs.declared.diagnostic.DiagnosticKind.{DiagnosticKind}
use Rattle.js_base.specs.declared.source_type.SourceType.{SourceType}
use Rattle.js_grammar.specs.Marks.{Mark, StandsAt, LexemeAt, of_kinds, a_lexeme}
use Rattle.laws_shared.specs.js_lex.States.{goal_of}
use Rattle.laws_shared.specs.js_lex.Reading.{is_right_angle}
use Rattle.laws_shared.specs.js_tree.declared.id.NodeId.{NodeId}
use Rattle.laws_shared.specs.js_tree.declared.kind.NodeKind.TheVariants as node
use Rattle.laws_shared.specs.js_tree.declared.op.Op.TheVariants as op
use Rattle.laws_shared.specs.js_tree.declared.kind.NodeKind.{NodeKind as NodeKindMade}
use Rattle.laws_shared.specs.js_tree.Nodes.{Node}
use Rattle.laws_shared.specs.js_tree.Holding.{Holds, HoldsAll, Keeps}
use Rattle.laws_shared.proofs.js_tree.HoldingLemmas.{HoldsAll-one, HoldsAll-next, Keeps-refl, Keeps-trans, Keeps-made}
use Rattle.laws_shared.specs.js_cursor.Parsers.{Parser}
use Rattle.laws_shared.specs.js_cursor.Places.{IsAt, goal}
use Rattle.laws_shared.specs.js_cursor.Moves.{Enters, GivesUp, Leaves, MovesOn, OnlyMemory, is_last, IsHere}
use Rattle.laws_shared.specs.js_cursor.declared.stop.Stop.{Stop}
use Rattle.laws_shared.specs.js_cursor.declared.stop.Stop.TheVariants.{Fatal, NoMemory}
use Rattle.laws_shared.proofs.js_cursor.Later.{follows_on}
use Rattle.laws_shared.specs.Lexemes.{Lex, is_read, other_goals, signs, Plain, is_read_kind}
use Rattle.laws_shared.specs.States.{At, Same, Standing}
use Rattle.laws_shared.specs.Nesting.{room}
use Rattle.laws_shared.proofs.Nesting.{nested_room, later_room}
use Rattle.laws_shared.specs.Moves.{Moved, MadeHere, TakesLeaf, IsWholeHere, plain_label, unpassable}
use Rattle.laws_shared.specs.Answers.{Grown, Verdict, clean, Stretch, Underived, Numbered, Outcome, Stops, beside}
use Rattle.laws_shared.specs.Stands.{StandsHere}
use Rattle.laws_primary.specs.Members.{access_kinds, no_link_behind, Taken, NoBareNew, NoImport, NoMember, NoOther, Headed, a_member, a_new, a_super, is_super_word, MemberSoFar, NoAccess, NoParen, NoLhs, HeadOutcome, link_kinds, LinkForm, by_name, by_private, by_call, by_index, indexed, admits, chained, sign_of, link_label, NoLink, OnlyLink, Linked, LinkHere, a_link, no_link, ReadsLink, WithArguments, MakesWithArguments, WithIndex, MakesWithIndex, WithName, MakesWithName, NoNames, member_name, named_form, LinkOutcome, Beyond, CallSoFar, ChainSoFar, Callee, a_head, a_call, CalleeOutcome, TellsChain}
use Rattle.laws_primary.specs.Templates.{ChainLinkOutcome, GoesOn, ReadsChainLink, ReadsTagged, Tagged, TagOutcome, TagSign, Templated, heads, tagged_label}
use Rattle.laws_primary.proofs.SuperWords.{no_super_member, no_super_new, no_super_there}
use Rattle.laws_primary.proofs.Templates.{heads_there, tag_taken}
use Rattle.laws_shared.specs.Arguments.{Partway}
use Rattle.laws_shared.proofs.Here.{angled, begins_here, uncut, found, told_plain}
use Rattle.laws_shared.proofs.Verdicts.{verdict_of, either_way, and_then, behind_none, grown_then}
use Rattle.laws_shared.proofs.Verdicts.{after as grown_behind}
use Rattle.laws_shared.proofs.Moving.{moves, same_both, beside_nodes, elsewhere, at_depth, stops_behind, stops_in, stops_so, standing, same_with}
use Rattle.laws_shared.proofs.MadeNodes.{leaf_held, node_held, one_lies, made_lies}
use Rattle.laws_shared.proofs.Escapes.{escapable_kinds, read_as, read_listed, read_plain}
use Rattle.laws_shared.proofs.Paths.{reads, Path, ◌⟶✗◌, skips, token, passes_test, read_of, walked_both, walked_one, noded, noding, label_here, fails_at}
use Rattle.laws_primary.proofs.Operands.{by_path, primary_fails, primary_kinds}
use Rattle.laws_shared.proofs.NameKinds.{no_listed_name}
use Rattle.laws_shared.proofs.Giving.{gives_up}
use Rattle.laws_shared.proofs.Signs.{AllAre, NoneIs}
use Rattle.laws_primary.proofs.Links.{call_kinds, call_template, call_template_fails, chain_template_fails, member_template, member_template_fails, NotCall, bases, before_chain, with_arguments, member_start, no_member, member_new, no_member_new, member_step, member_step_fails, member_end, no_new_before, new_unfollowed, no_new_by, no_super_call, no_super_word, super_begin, new_member, new_bare, member_before_chain, no_call_at_all, no_call_behind, call_begin, call_step, call_step_fails, call_ends, base_member, base_call, base_none, chain_begin, no_first, chain_step, chain_step_fails, chain_ends, no_lhs, lhs_new, lhs_call, lhs_chain, call_unfollowed, member_before, member_alone, call_alone, no_import, no_lhs_here, call_heads, chain_heads}
use Rattle.laws_primary.proofs.Links.{no_link as no_chain_link}
use Rattle.laws_primary.specs.NewTargets.{target_slots}
use Rattle.laws_shared.proofs.Stretches.{stretches}
use Rattle.laws_shared.proofs.Parts.{part_path, part_path_fails, parts, part_sign, part_last, part_called}
use Rattle.laws_shared.proofs.Signs.{plain_sign, other_kind}
use Rattle.laws_primary.specs.declared.forms.LinkBase.{LinkBase}
use Rattle.laws_primary.specs.declared.forms.LinkBase.TheVariants as base
use Rattle.js_grammar.specs.Lexemes.{is_word}
use Rattle.js_grammar.specs.RightEdges.{same_row, may_end}
use Rattle.laws_shared.proofs.Classes.{here_ends}
use Rattle.js_base.specs.declared.diagnostic.DiagnosticKind.TheVariants.{ExpectClosing}
use Rattle.laws_shared.proofs.Tight.{plain_is_read, plain_lex}

-- ---- which lexeme stands here

-- of these kinds none stands here
none_of : {text : List ℕ} {s : ℕ} (ks : List Kind) → every_kind (λ k. not (one_of_kinds escapable_kinds k)) ks ≡ true → ((k : Kind) → one_of_kinds ks k ≡ true → NoneIs text s k) → (y : Lexeme) → Lex text s y → one_of_kinds ks y.kind ≡ false
none_of ks c n y l = go (one_of_kinds ks y.kind) refl
  where
    go : (b : Bool) → one_of_kinds ks y.kind ≡ b → b ≡ false
    go true e = absurd (n y.kind e y l refl (read_listed ks y l e c))
    go false e = refl

-- of these none is another kind that is among them
none_among : {text : List ℕ} {s : ℕ} (ks : List Kind) → ((y : Lexeme) → Lex text s y → one_of_kinds ks y.kind ≡ false) → (k : Kind) → one_of_kinds ks k ≡ true → NoneIs text s k
none_among ks n k h y l e w = false≢true (sym (n y l) ∙ subst (λ (v : Kind). one_of_kinds ks v ≡ true) (sym e) h)

abbrev pub NoneOf : List ℕ → ℕ → List Kind → Type 0
NoneOf text s ks = (y : Lexeme) → Lex text s y → one_of_kinds ks y.kind ≡ false

pub no_access_kind : {text : List ℕ} {s : ℕ} → NoneIs text s Dot → NoneIs text s LBrack → NoneIs text s NoSubstitutionTemplate → NoneIs text s TemplateHead → NoneOf text s access_kinds
no_access_kind {text} {s} a b c d = none_of access_kinds refl (λ k h. first_or (λ k. NoneIs text s k) Dot k _ _ refl h a (λ h. first_or (λ k. NoneIs text s k) LBrack k _ _ refl h b (λ h. first_or (λ k. NoneIs text s k) NoSubstitutionTemplate k _ _ refl h c (λ h. first_or (λ k. NoneIs text s k) TemplateHead k _ _ refl h d (λ h. absurd (false≢true h))))))

no_call_kind : {text : List ℕ} {s : ℕ} → NoneOf text s access_kinds → NoneIs text s LParen → NoneOf text s call_kinds
no_call_kind {text} {s} n m = none_of call_kinds refl (λ k h. first_or (λ k. NoneIs text s k) Dot k _ _ refl h (none_among access_kinds n Dot refl) (λ h. first_or (λ k. NoneIs text s k) LBrack k _ _ refl h (none_among access_kinds n LBrack refl) (λ h. first_or (λ k. NoneIs text s k) LParen k _ _ refl h m (λ h. first_or (λ k. NoneIs text s k) NoSubstitutionTemplate k _ _ refl h (none_among access_kinds n NoSubstitutionTemplate refl) (λ h. first_or (λ k. NoneIs text s k) TemplateHead k _ _ refl h (none_among access_kinds n TemplateHead refl) (λ h. absurd (false≢true h)))))))

no_link_kind : {text : List ℕ} {s : ℕ} → NoneOf text s access_kinds → NoneIs text s QuestionDot → NoneIs text s LParen → NoneOf text s link_kinds
no_link_kind {text} {s} n m o = none_of link_kinds refl (λ k h. first_or (λ k. NoneIs text s k) Dot k _ _ refl h (none_among access_kinds n Dot refl) (λ h. first_or (λ k. NoneIs text s k) LBrack k _ _ refl h (none_among access_kinds n LBrack refl) (λ h. first_or (λ k. NoneIs text s k) NoSubstitutionTemplate k _ _ refl h (none_among access_kinds n NoSubstitutionTemplate refl) (λ h. first_or (λ k. NoneIs text s k) TemplateHead k _ _ refl h (none_among access_kinds n TemplateHead refl) (λ h. first_or (λ k. NoneIs text s k) QuestionDot k _ _ refl h m (λ h. first_or (λ k. NoneIs text s k) LParen k _ _ refl h o (λ h. absurd (false≢true h))))))))

-- no template begins here
no_head_here : {text : List ℕ} {f : Flags} {p : Parser} → At text f p → one_of_kinds heads p.token.kind ≡ false → NoneIs text p.prev_token_end NoSubstitutionTemplate × NoneIs text p.prev_token_end TemplateHead
no_head_here a n = (stands_not a refl (λ e i. false≢true (sym n ∙ ap (one_of_kinds heads) e)), stands_not a refl (λ e i. false≢true (sym n ∙ ap (one_of_kinds heads) e)))

-- ---- names behind a sign

abbrev any_word : Look
any_word k w e = is_word k

abbrev read_words : Look
read_words k w e = one_of_kinds identifier_name_kinds k

abbrev angles : Look
angles k w e = is_right_angle k

words_read : covers (λ k w e. reads k w e && is_word k) read_words ≡ true
unfolding covers
words_read = refl

read_are : covers read_words (λ k w e. is_read_kind k && (is_word k && (not (unpassable k) && not (same_kind RAngle k)))) ≡ true
unfolding covers
read_are = refl

no_angles : apart angles any_word ≡ true
unfolding apart
no_angles = refl

-- no word is a sign with which a lexeme of another goal begins
words_signless : apart read_words (λ k w e. one_of_kinds signs k) ≡ true
unfolding apart
words_signless = refl

pub word_signless : (k : Kind) → one_of_kinds identifier_name_kinds k ≡ true → one_of_kinds signs k ≡ false
word_signless k r = go (one_of_kinds signs k) refl
  where
    go : (b : Bool) → one_of_kinds signs k ≡ b → one_of_kinds signs k ≡ false
    go true h = absurd (not_both read_words (λ k w e. one_of_kinds signs k) words_signless k false false r h)
    go false h = h

pub word_whole : {text : List ℕ} {f : Flags} {p : Parser} → At text f p → one_of_kinds identifier_name_kinds p.token.kind ≡ true → IsWholeHere p
word_whole {p = p} a r =
    let z = covered read_words (λ k w e. is_read_kind k && (is_word k && (not (unpassable k) && not (same_kind RAngle k)))) read_are p.token.kind false false r in
    let x = and_parts (not (unpassable p.token.kind)) (not (same_kind RAngle p.token.kind)) (and_parts (is_word p.token.kind) _ (and_parts (is_read_kind p.token.kind) _ z).1).1 in
    (uncut_here (no (same_kind RAngle p.token.kind) x.1), no (unpassable p.token.kind) x.0)
  where
    no : (b : Bool) → not b ≡ true → b ≡ false
    no true h = absurd (false≢true h)
    no false h = refl

    uncut_here : same_kind RAngle p.token.kind ≡ false → p.cut ≡ false
    uncut_here n = uncut a n

no_others : apart any_word (λ k w e. one_of_kinds other_goals k) ≡ true
unfolding apart
no_others = refl

pub name_of : (text : List ℕ) (f : Flags) (p q : Parser) → At text f p → one_of_kinds identifier_name_kinds p.token.kind ≡ true → (s : Moved text f p q) → Path text f (after (at IdentifierName f)) (rule (at IdentifierName f)) p nothing q (tree (label_here identifier_name no_op p q) end)
unfolding rule rule_of
name_of text f p q a r s =
    let z = covered read_words (λ k w e. is_read_kind k && (is_word k && (not (unpassable k) && not (same_kind RAngle k)))) read_are p.token.kind false false r in
    let x = and_parts (is_read_kind p.token.kind) (is_word p.token.kind && (not (unpassable p.token.kind) && not (same_kind RAngle p.token.kind))) z in
    let w = (and_parts (is_word p.token.kind) (not (unpassable p.token.kind) && not (same_kind RAngle p.token.kind)) x.1).0 in
    let l : IsTrue (is_read s.lexeme) = read_as s.lexeme s.tells x.0 in
    noded a (record { at = s.at; further = s.further; pass = _; walked = walked_one s; verdict = clean s.kept (record { reach = 0; near = omega arith; goes = passes_test a any_word (word_signless p.token.kind r) s l (subst (λ k. is_word k ≡ true) s.tells.kind w) }) })

pub name_taken : (text : List ℕ) (f : Flags) (p q : Parser) (r : Result NodeId Stop) → At text f p → one_of_kinds identifier_name_kinds p.token.kind ≡ true → MatchResult r (λ id. TakesLeaf node.IdentifierName op.None p q id) OnlyMemory → Outcome text f (at IdentifierName f) p q r
name_taken text f p q (Ok id) a r m =
    let t = m text f a in
    let l : plain_label node.IdentifierName op.None p.token.span ≡ label_here identifier_name no_op p t.mid = ap (λ (v : ℕ). record { kind = identifier_name; op = no_op; flags = 0; span = record { from = p.token.span.start; to = v } }) (t.moved.tells.end ∙ t.moved.ends) in
    let ks : Keeps p.nodes t.mid.nodes = subst (λ (ns : List Node). Keeps p.nodes ns) (sym t.moved.nodes) (Keeps-refl p.nodes) in
    by_path (subst (λ (v : Label). Path text f (after (at IdentifierName f)) (rule (at IdentifierName f)) p nothing t.mid (tree v end)) (sym l) (name_of text f p t.mid a r t.moved)) t.moved.same t.made.stays (λ y i. refl) refl (leaf_held t.made ks) (Keeps-trans ks (Keeps-made t.made.made)) (ap (λ (v : Label). v.span) l) (one_lies t.made)
name_taken text f p q (Err Fatal) a r m = absurd m
name_taken text f p q (Err NoMemory) a r m = tt

-- ---- private names

-- none stands here
pub no_private_name : {text : List ℕ} {f : Flags} {p : Parser} → At text f p → (p.token.kind ≡ PrivateIdentifier → ⊥) → Underived text (at PrivateName f) p.prev_token_end
unfolding rule rule_of covers apart
no_private_name a n = fails_by (fails_node inside_full (fails_at a _ (PrivateIdentifier ∷ []) refl (other_kind PrivateIdentifier _ n)))

private_of : (text : List ℕ) (f : Flags) (p q : Parser) → At text f p → p.token.kind ≡ PrivateIdentifier → (s : Moved text f p q) → Path text f (after (at PrivateName f)) (rule (at PrivateName f)) p nothing q (tree (label_here private_identifier no_op p q) end)
unfolding rule rule_of
private_of text f p q a r s =
    noded a (record { at = s.at; further = s.further; pass = _; walked = walked_one s; verdict = clean s.kept (record { reach = 0; near = omega arith; goes = passes_test a a_private (ap (one_of_kinds signs) r) s (read_as s.lexeme s.tells (ap is_read_kind r)) (subst (λ k. same_kind PrivateIdentifier k ≡ true) (sym r ∙ s.tells.kind) refl) }) })
  where
    a_private : Look
    a_private k w e = same_kind PrivateIdentifier k

pub private_taken : (text : List ℕ) (f : Flags) (p q : Parser) (id : NodeId) → At text f p → p.token.kind ≡ PrivateIdentifier → TakesLeaf node.PrivateIdentifier op.None p q id → Numbered text f (at PrivateName f) p q id
private_taken text f p q id a r m =
    let t = m text f a in
    let l : plain_label node.PrivateIdentifier op.None p.token.span ≡ label_here private_identifier no_op p t.mid = ap (λ (v : ℕ). record { kind = private_identifier; op = no_op; flags = 0; span = record { from = p.token.span.start; to = v } }) (t.moved.tells.end ∙ t.moved.ends) in
    let ks : Keeps p.nodes t.mid.nodes = subst (λ (ns : List Node). Keeps p.nodes ns) (sym t.moved.nodes) (Keeps-refl p.nodes) in
    by_path (subst (λ (v : Label). Path text f (after (at PrivateName f)) (rule (at PrivateName f)) p nothing t.mid (tree v end)) (sym l) (private_of text f p t.mid a r t.moved)) t.moved.same t.made.stays (λ y i. refl) refl (leaf_held t.made ks) (Keeps-trans ks (Keeps-made t.made.made)) (ap (λ (v : Label). v.span) l) (one_lies t.made)

-- no template begins with a word
heads_no_words : apart (λ k w e. one_of_kinds heads k) read_words ≡ true
unfolding apart
heads_no_words = refl

head_word : (k : Kind) → one_of_kinds heads k ≡ true → one_of_kinds identifier_name_kinds k ≡ false
head_word k h = go (one_of_kinds identifier_name_kinds k) refl
  where
    go : (b : Bool) → one_of_kinds identifier_name_kinds k ≡ b → one_of_kinds identifier_name_kinds k ≡ false
    go true e = absurd (not_both (λ k w e. one_of_kinds heads k) read_words heads_no_words k false false h e)
    go false e = e

-- no word that is read
pub no_name : {text : List ℕ} {f : Flags} {p : Parser} → At text f p → one_of_kinds identifier_name_kinds p.token.kind ≡ false → Underived text (at IdentifierName f) p.prev_token_end
unfolding rule rule_of
no_name {text} {f} {p} a r = fails_by (fails_node inside_full (fails_lexeme any_word (λ y l h. go p.cut refl y l h)))
  where
    no_other_word : (y : Lexeme) → is_word y.kind ≡ true → one_of_kinds other_goals y.kind ≡ false
    no_other_word y h = by (one_of_kinds other_goals y.kind) refl
      where
        by : (b : Bool) → one_of_kinds other_goals y.kind ≡ b → one_of_kinds other_goals y.kind ≡ false
        by true e = absurd (not_both any_word (λ k w e. one_of_kinds other_goals k) no_others y.kind y.newline y.escaped h e)
        by false e = e

    go : (b : Bool) → p.cut ≡ b → (y : Lexeme) → Lex text p.prev_token_end y → is_word y.kind ≡ true → ⊥
    go true c y l h = not_both angles any_word no_angles y.kind y.newline y.escaped (angled a c y l) h
    go false c y l h = false≢true (sym r ∙ subst (λ k. one_of_kinds identifier_name_kinds k ≡ true) (sym (told_plain a c y (no_other_word y h) l).kind) (covered (λ k w e. reads k w e && is_word k) read_words words_read y.kind y.newline y.escaped (and_from _ _ l.1 h)))

-- where one stands no name or word does
pub no_name_at_private : {text : List ℕ} {f : Flags} {p : Parser} → At text f p → p.token.kind ≡ PrivateIdentifier → Underived text (at IdentifierName f) p.prev_token_end
no_name_at_private a e = no_name a (ap (one_of_kinds identifier_name_kinds) e)

-- ---- what was taken

pub taken : {text : List ℕ} {f : Flags} {n : Symbol} {p q : Parser} {id : NodeId} (x : Numbered text f n p q id) → same_row after_expression (row_of x.answer.label x.answer.slots) ≡ true → Taken text f p q id (λ l cs pass s'. Stretch text (after n) (such n always) p.prev_token_end nothing s' (tree l cs) pass) (Underived text n p.prev_token_end)
taken x r = record { at = x.answer.at; same = x.answer.same; further = x.answer.further; label = x.answer.label; slots = x.answer.slots; row = r; pass = x.answer.pass; walked = x.answer.walked; verdict = x.answer.verdict; holds = x.holds; keeps = x.keeps }

pub numbered : {text : List ℕ} {f : Flags} {n : Symbol} {p q : Parser} {id : NodeId} (x : Taken text f p q id (λ l cs pass s'. Stretch text (after n) (such n always) p.prev_token_end nothing s' (tree l cs) pass) (Underived text n p.prev_token_end)) → may_end n.name (row_of x.label x.slots) ≡ true → ((y : Lexeme) → Plain text q.prev_token_end y → IsTrue (seen (follow n (edge_of x.label x.slots)) y || seen beside y)) → Numbered text f n p q id
numbered x r s = record { answer = record { at = x.at; same = x.same; further = x.further; label = x.label; slots = x.slots; stops = s; row = r; pass = x.pass; walked = x.walked; verdict = x.verdict }; holds = x.holds; keeps = x.keeps }

pub retake : {text : List ℕ} {f : Flags} {C D : Label → Slots → (Lexemes → Lexemes) → ℕ → Type 0} {A B : Type 0} {p q : Parser} {id : NodeId} → Taken text f p q id C A → ((l : Label) (cs : Slots) (pass : Lexemes → Lexemes) → C l cs pass q.prev_token_end → D l cs pass q.prev_token_end) → (A → B) → Taken text f p q id D B
retake x g h = record { at = x.at; same = x.same; further = x.further; label = x.label; slots = x.slots; row = x.row; pass = x.pass; walked = x.walked; verdict = verdict_of x.verdict (λ c. g x.label x.slots x.pass c) h; holds = x.holds; keeps = x.keeps }

-- a node around it, and what was read behind it
pub step_taken : {text : List ℕ} {f : Flags} {C D : Label → Slots → (Lexemes → Lexemes) → ℕ → Type 0} {A : Type 0} {o p v w : Parser} {left id : NodeId} {ids : List (Option NodeId)} {l : Label} {g : G} {h : Slots → Slots} (x : Taken text f o p left C A) → (y : Path text f (plain full) g p nothing v h) → Same p v → Keeps p.nodes v.nodes → HoldsAll v.nodes (length o.nodes) (length v.nodes) ids (tree x.label x.slots (h end)) → MadeHere l ids v w id → l.span ≡ record { from = o.token.span.start; to = v.prev_token_end } → same_row after_expression (row_of l (tree x.label x.slots (h end))) ≡ true
    → ((pass : Lexemes → Lexemes) → C x.label x.slots x.pass p.prev_token_end → p.prev_token_end ≤ v.prev_token_end → Stretch text (plain full) g p.prev_token_end nothing v.prev_token_end h pass → D l (tree x.label x.slots (h end)) (λ ls. x.pass (pass ls)) v.prev_token_end)
    → (C x.label x.slots x.pass p.prev_token_end → Fails rule (Lex text) (plain full) end g p.prev_token_end → A) → Taken text f o w id D A
step_taken {text} {f} {C} {D} {A} {o} {p} {v} {w} {id = id} {l = l} {h = h} x y s k m n i r good bad = subst (λ (z : Parser). Taken text f o z id D A) (sym n.stays) (record {
  at = beside_nodes w.nodes y.at;
  same = same_with w.nodes (same_both x.same s) (Keeps-trans x.keeps (Keeps-trans k (Keeps-made n.made))) (made_lies (same_both x.same s) y.at.at (let a = x.further in let b = further in omega arith) n i);
  further = let a = x.further in let b = further in omega arith;
  label = l;
  slots = tree x.label x.slots (h end);
  row = r;
  pass = λ ls. x.pass (y.pass ls);
  walked = walked_both x.walked y.walked;
  verdict = and_then x.verdict y.verdict (λ c z. good y.pass c further z) (λ z. z) bad;
  holds = node_held n m;
  keeps = Keeps-trans x.keeps (Keeps-trans k (Keeps-made n.made));
})
  where
    further : p.prev_token_end ≤ v.prev_token_end
    further = let a = x.at.behind in let b = y.further in omega arith

-- a node around it alone
pub wrap_taken : {text : List ℕ} {f : Flags} {C D : Label → Slots → (Lexemes → Lexemes) → ℕ → Type 0} {A B : Type 0} {o p w : Parser} {left id : NodeId} {l : Label} (x : Taken text f o p left C A) → MadeHere l (Some left ∷ []) p w id → l.span ≡ record { from = o.token.span.start; to = p.prev_token_end } → same_row after_expression (row_of l (tree x.label x.slots end)) ≡ true
    → (C x.label x.slots x.pass p.prev_token_end → D l (tree x.label x.slots end) x.pass p.prev_token_end) → (A → B) → Taken text f o w id D B
wrap_taken {text} {f} {C} {D} {A} {B} {o} {p} {w} {left} {id} {l} x n i r good bad = subst (λ (z : Parser). Taken text f o z id D B) (sym n.stays) (record {
  at = beside_nodes w.nodes x.at;
  same = same_with w.nodes x.same (Keeps-trans x.keeps (Keeps-made n.made)) (made_lies x.same x.at.at (let a = x.further in omega arith) n i);
  further = x.further;
  label = l;
  slots = tree x.label x.slots end;
  row = r;
  pass = x.pass;
  walked = x.walked;
  verdict = verdict_of x.verdict good bad;
  holds = node_held n (HoldsAll-one left x.holds);
  keeps = Keeps-trans x.keeps (Keeps-made n.made);
})

-- one level deeper, and back
taken_out : {text : List ℕ} {f : Flags} {C : Label → Slots → (Lexemes → Lexemes) → ℕ → Type 0} {A : Type 0} {p q : Parser} {id : NodeId} (k j : ℕ) → j ≡ p.depth → IsAt p → Taken text f (record p { depth = k }) q id C A → Taken text f p (record q { depth = j }) id C A
taken_out {p = p} {q = q} k j e a x = record {
  at = elsewhere q.nodes j x.at;
  same = record { follows = follows_on (at_depth k a) (follows_on x.same.follows (at_depth j x.at.at)); options = x.same.options; ctx = x.same.ctx; depth = e; visits = x.same.visits; early = x.same.early; lies = x.same.lies };
  further = x.further;
  label = x.label;
  slots = x.slots;
  row = x.row;
  pass = x.pass;
  walked = x.walked;
  verdict = x.verdict;
  holds = x.holds;
  keeps = x.keeps;
}

pub taken_back : {text : List ℕ} {f : Flags} {C : Label → Slots → (Lexemes → Lexemes) → ℕ → Type 0} {A : Type 0} {k : ℕ} {p e q w : Parser} {id : NodeId} → IsAt p → Enters k p e → Leaves k q w → Taken text f e q id C A → Taken text f p w id C A
taken_back {text} {f} {C} {A} {k} {p} {e} {q} {w} {id} a h l x =
    let d : w.depth ≡ p.depth = (let a = l.depth in let b = x.same.depth in let c = ap (λ (r : Parser). r.depth) h.is in omega arith) in
    subst (λ (r : Parser). Taken text f p r id C A) (sym l.is) (taken_out (p.depth + k) w.depth d a (subst (λ (r : Parser). Taken text f r q id C A) h.is x))

-- ---- links

link_row : (c : LinkForm) (o : Bool) (from to : ℕ) (cs : Slots) → same_row after_expression (row_of (link_label c o from to) cs) ≡ true
link_row by_call o from to cs = refl
link_row by_name o from to cs = refl
link_row by_private o from to cs = refl
link_row by_index o from to cs = refl

pub link_taken : {text : List ℕ} {f : Flags} {C D : Label → Slots → (Lexemes → Lexemes) → ℕ → Type 0} {A : Type 0} {o p w : Parser} {left id : NodeId} {start : ℕ} (x : Taken text f o p left C A) → start ≡ o.token.span.start → (y : Linked text f start left p w id)
    → ((pass : Lexemes → Lexemes) → C x.label x.slots x.pass p.prev_token_end → p.prev_token_end ≤ y.behind.prev_token_end → Stretch text (plain full) (chained f y.form y.optional).part p.prev_token_end nothing y.behind.prev_token_end y.part.slots pass → D (link_label y.form y.optional o.token.span.start y.behind.prev_token_end) (tree x.label x.slots (y.part.slots end)) (λ ls. x.pass (pass ls)) y.behind.prev_token_end)
    → (C x.label x.slots x.pass p.prev_token_end → NoLink text f p.prev_token_end y.form y.optional → A) → Taken text f o w id D A
link_taken {o = o} {p = p} {w = w} {left = left} {id = id} x e y good bad =
    step_taken x (part_path y.part) y.part.same y.part.keeps (y.part.holds (length o.nodes) (tree x.label x.slots end) (HoldsAll-one left x.holds))
    (subst (λ (v : ℕ). MadeHere (link_label y.form y.optional v y.behind.prev_token_end) y.children y.behind w id) e y.made) refl (link_row y.form y.optional o.token.span.start y.behind.prev_token_end (tree x.label x.slots (y.part.slots end))) good bad

-- which sign stands here
all_signs : {text : List ℕ} {f : Flags} {p : Parser} → At text f p → (c : LinkForm) (o : Bool) → StandsHere p (sign_of c o) true → AllAre text p.prev_token_end (sign_of c o)
all_signs a by_call true s = stands_there a s.0 refl
all_signs a by_name true s = stands_there a s.0 refl
all_signs a by_private true s = stands_there a s.0 refl
all_signs a by_index true s = stands_there a s.0 refl
all_signs a by_call false s = stands_there a s.0 refl
all_signs a by_name false s = stands_there a s.0 refl
all_signs a by_private false s = stands_there a s.0 refl
all_signs a by_index false s = stands_there a s.0 refl

-- the sign `?.` is that of no other link
not_optional : (d : LinkForm) → sign_of d false ≡ QuestionDot → ⊥
not_optional by_call e = cc
not_optional by_name e = cc
not_optional by_private e = cc
not_optional by_index e = cc

optional_here : (p : Parser) (c : LinkForm) (o : Bool) → StandsHere p QuestionDot true → StandsHere p (sign_of c o) true → o ≡ true
optional_here p c true s z = refl
optional_here p c false s z = absurd (not_optional c (sym z.0 ∙ s.0))

-- where the sign of one without it stands, the other has none
plain_too : (c d : LinkForm) (o : Bool) → sign_of c false ≡ sign_of d o → o ≡ false
plain_too c d false e = refl
plain_too c d true e = absurd (not_optional c e)

pub call_here : (p : Parser) (c : LinkForm) (o : Bool) → StandsHere p LParen true → StandsHere p (sign_of c o) true → (by_call ≡ c) × (o ≡ false)
call_here p by_call false s z = (refl, refl)
call_here p c true s z = absurd (let e : LParen ≡ QuestionDot = sym s.0 ∙ z.0 in cc)
call_here p by_name false s z = absurd (let e : LParen ≡ Dot = sym s.0 ∙ z.0 in cc)
call_here p by_private false s z = absurd (let e : LParen ≡ Dot = sym s.0 ∙ z.0 in cc)
call_here p by_index false s z = absurd (let e : LParen ≡ LBrack = sym s.0 ∙ z.0 in cc)

-- of those that go on with a member or a call none has a `?.`
of_member : (c : LinkForm) (o : Bool) → admits base.Member c o ≡ true → (admits base.Member c false ≡ true) × (o ≡ false)
of_member by_name false e = (refl, refl)
of_member by_private false e = (refl, refl)
of_member by_index false e = (refl, refl)
of_member by_call o e = absurd (false≢true e)
of_member by_name true e = absurd (false≢true e)
of_member by_private true e = absurd (false≢true e)
of_member by_index true e = absurd (false≢true e)

of_call : (c : LinkForm) (o : Bool) → admits base.Call c o ≡ true → o ≡ false
of_call c false e = refl
of_call c true e = absurd (false≢true e)

-- a link of the same sign is one of these too
same_sign : (c d : LinkForm) → admits base.Member c false ≡ true → sign_of c false ≡ sign_of d false → admits base.Member d false ≡ true
same_sign c by_name h e = refl
same_sign c by_private h e = refl
same_sign c by_index h e = refl
same_sign by_call by_call h e = h
same_sign by_name by_call h e = absurd (cc)
same_sign by_private by_call h e = absurd (cc)
same_sign by_index by_call h e = absurd (cc)

alike : (c d : LinkForm) (o : Bool) → admits base.Member c false ≡ true → sign_of c false ≡ sign_of d o → (admits base.Member d false ≡ true) × (o ≡ false)
alike c d false h e = (same_sign c d h e, refl)
alike c d true h e = absurd (not_optional c e)

pub member_form : {p : Parser} (c : LinkForm) (o : Bool) → LinkHere p base.Member true → StandsHere p (sign_of c o) true → (admits base.Member c false ≡ true) × (o ≡ false)
member_form {p} c o (a_link d e s h) z = let i = of_member d e h in alike d c o i.0 (sym (subst (λ (v : Bool). p.token.kind ≡ sign_of d v) i.1 s.0) ∙ z.0)

call_form : {p : Parser} (c : LinkForm) (o : Bool) → LinkHere p base.Call true → StandsHere p (sign_of c o) true → o ≡ false
call_form {p} c o (a_link d e s h) z = let i = of_call d e h in plain_too d c o (sym (subst (λ (v : Bool). p.token.kind ≡ sign_of d v) i s.0) ∙ z.0)

-- if one link can't be read, none can
pub none_of_links : {text : List ℕ} {f : Flags} {s : ℕ} (c : LinkForm) (o : Bool) → OnlyLink text f s c o → NoLink text f s c o → (c' : LinkForm) (o' : Bool) → NoLink text f s c' o'
none_of_links {text} {f} {s} c o u n c' o' = go (u c' o')
  where
    go : ((c' ≡ c) × (o' ≡ o)) ⊎ NoLink text f s c' o' → NoLink text f s c' o'
    go (inl z) = subst (λ (v : LinkForm). NoLink text f s v o') (sym z.0) (subst (λ (v : Bool). NoLink text f s c v) (sym z.1) n)
    go (inr z) = z

-- ---- members

abbrev pub Membered : List ℕ → Flags → Parser → Parser → NodeId → Type 0
Membered text f o p id = Taken text f o p id (λ l cs pass s'. MemberSoFar text f o.prev_token_end o.token.span.start l cs pass s') (NoMember text f o.prev_token_end)

abbrev pub HeadTaken : List ℕ → Flags → Parser → Parser → NodeId → Type 0
HeadTaken text f o p id = Taken text f o p id (λ l cs pass s'. Headed text f o.prev_token_end l cs pass s') (NoMember text f o.prev_token_end)

pub no_bare_new : {text : List ℕ} {f : Flags} {p : Parser} → At text f p → StandsHere p New false → NoBareNew text f p.prev_token_end
no_bare_new a s = fails_here firsts (none_seen (stands_not a refl s))

-- neither `new` nor `super` stands here
none_other : {text : List ℕ} {f : Flags} {p : Parser} → At text f p → StandsHere p New false → StandsHere p super_kind false → NoOther text f p.prev_token_end
none_other {f = f} a s u = record { bare = no_bare_new a s; uncalled = no_super_word f (stands_not a refl u) }

pub member_init : {text : List ℕ} {f : Flags} {p q : Parser} {id : NodeId} → At text f p → StandsHere p New false → StandsHere p super_kind false → StandsHere p Import false → Numbered text f (at Primary f) p q id → Membered text f p q id
member_init {f = f} a s u w x = retake (taken x x.answer.row) (λ l cs pass c. (member_start f (stands_not a refl s) (stands_not a refl u) (stands_not a refl w) c (begins_here a), none_other a s u)) (λ n. (no_member f (stands_not a refl s) (stands_not a refl u) (stands_not a refl w) n, none_other a s u))

pub no_head : {text : List ℕ} {f : Flags} {p : Parser} → At text f p → StandsHere p New false → StandsHere p super_kind false → StandsHere p Import false → Underived text (at Primary f) p.prev_token_end → NoMember text f p.prev_token_end
no_head {f = f} a s u w n = (no_member f (stands_not a refl s) (stands_not a refl u) (stands_not a refl w) n, none_other a s u)

-- no ImportCall, where another word stands
pub no_import_here : {text : List ℕ} {f : Flags} {p : Parser} → At text f p → StandsHere p Import false → NoImport text f p.prev_token_end
no_import_here {f = f} a w = no_import f (stands_not a refl w)

member_good : {text : List ℕ} {f : Flags} (o p : Parser) (c : LinkForm) (d : Bool) → (admits base.Member c false ≡ true) × (d ≡ false) → AllAre text p.prev_token_end (sign_of c d) → OnlyLink text f p.prev_token_end c d → {l : Label} {cs : Slots} {pass more : Lexemes → Lexemes} {h : Slots → Slots} {s'' : ℕ} → MemberSoFar text f o.prev_token_end o.token.span.start l cs pass p.prev_token_end → p.prev_token_end ≤ s'' → Stretch text (plain full) (chained f c d).part p.prev_token_end nothing s'' h more → MemberSoFar text f o.prev_token_end o.token.span.start (link_label c d o.token.span.start s'') (tree l cs (h end)) (λ ls. pass (more ls)) s''
member_good {f = f} o p c false e z n u i y = (member_step f c e.0 u.0 z n i y, u.1)
member_good o p c true e z n u i y = absurd (false≢true (sym e.1))

member_bad : {text : List ℕ} {f : Flags} (o p : Parser) (c : LinkForm) (d : Bool) → (admits base.Member c false ≡ true) × (d ≡ false) → AllAre text p.prev_token_end (sign_of c d) → {l : Label} {cs : Slots} {pass : Lexemes → Lexemes} → MemberSoFar text f o.prev_token_end o.token.span.start l cs pass p.prev_token_end → ((c : LinkForm) (d : Bool) → NoLink text f p.prev_token_end c d) → NoMember text f o.prev_token_end
member_bad {f = f} o p c false e z u n = (member_step_fails f c e.0 u.0 z n, u.1)
member_bad o p c true e z u n = absurd (false≢true (sym e.1))

pub member_linked : {text : List ℕ} {f : Flags} {o p w : Parser} {left id : NodeId} {start : ℕ} → start ≡ o.token.span.start → (x : Membered text f o p left) → LinkHere p base.Member true → Linked text f start left p w id → Membered text f o w id
member_linked {text} {f} {o} {p} e x k y =
    let form = member_form y.form y.optional k y.sign in
    let signs = all_signs x.at y.form y.optional y.sign in
    link_taken x e y (λ pass c i z. member_good o p y.form y.optional form signs y.only c i z) (λ c n. member_bad o p y.form y.optional form signs c (none_of_links y.form y.optional y.only n))

pub member_stops : {text : List ℕ} {f : Flags} {o p : Parser} {left : NodeId} (w : Parser) (e : Stop) (x : Membered text f o p left) → LinkHere p base.Member true → Stops p w e ((c : LinkForm) (d : Bool) → NoLink text f p.prev_token_end c d) → Stops o w e (NoMember text f o.prev_token_end)
member_stops {text} {f} {o} {p} w e x k z = stops_behind w e x.same (λ g. grown_behind x.verdict g) (λ n. either_way x.verdict (λ c. at_link k c n) (λ n. n)) z
  where
    at_link : LinkHere p base.Member true → {l : Label} {cs : Slots} {pass : Lexemes → Lexemes} → MemberSoFar text f o.prev_token_end o.token.span.start l cs pass p.prev_token_end → ((c : LinkForm) (d : Bool) → NoLink text f p.prev_token_end c d) → NoMember text f o.prev_token_end
    at_link (a_link c d s h) u n = member_bad o p c d (of_member c d h) (all_signs x.at c d s) u n

pub member_closed : {text : List ℕ} {f : Flags} {o p : Parser} {id : NodeId} → (x : Membered text f o p id) → GoesOn base.Member p false → HeadOutcome text f o p (Ok id)
member_closed {text} {f} {o} {p} x (no_link g, n) =
    let h = no_head_here x.at n in
    let none : NoAccess text p = no_access_kind (stands_not x.at refl (g by_name false refl)) (stands_not x.at refl (g by_index false refl)) h.0 h.1 in
    (retake x (λ l cs pass c. a_member (member_end f c.0 none) c.1) (λ n. n), none)

-- a lexeme stands here
pub lexeme_there : {text : List ℕ} {f : Flags} {p : Parser} {k : Kind} → At text f p → StandsHere p k true → same_kind RAngle k ≡ false → is_last k ≡ false → is_read_kind k ≡ true → (y : Lexeme) × Lex text p.prev_token_end y × (y.kind ≡ k)
lexeme_there {k = k} a s n l r =
    let z = found a (uncut a (ap (same_kind RAngle) s.0 ∙ n)) (ap is_last s.0 ∙ l) in
    (z.0, (z.1, read_of z.0 (sym z.2.kind ∙ s.0) r), sym z.2.kind ∙ s.0)

-- ---- `new`

new_edge : (f : Flags) (s : ℕ) → Inside rule (record { kind = new_expression; op = no_op; flags = 0; extent = exact }) (after (at new_symbol f)) (after (at new_symbol f)) end (tok New ▸ symbol new_symbol f) s
new_edge f s = record { ends = λ p cs vs j ls mid d e. e }

headed_new : {text : List ℕ} (f : Flags) {s s' : ℕ} {l : Label} {cs : Slots} {pass : Lexemes → Lexemes} → NoneIs text s' LParen → Headed text f s l cs pass s' → Stretch text (after (at new_symbol f)) (such (at new_symbol f) always) s nothing s' (tree l cs) pass
headed_new f o (a_member m b) = new_member f m b.bare
headed_new f o (a_new n s u z) = s
headed_new f o (a_super n b w y) = absurd (o y.0 y.1 y.2 (read_plain y.0 y.1 y.2 refl))

taken_path : {text : List ℕ} {f : Flags} {n : Symbol} {p q : Parser} {id : NodeId} (x : Taken text f p q id (λ l cs pass s'. Stretch text (after n) (such n always) p.prev_token_end nothing s' (tree l cs) pass) (Underived text n p.prev_token_end)) → Path text f (after n) (such n always) p nothing q (tree x.label x.slots)
taken_path x = record { at = x.at; further = x.further; pass = x.pass; walked = x.walked; verdict = x.verdict }

abbrev pub called_member : Flags → G
called_member f = seq (such (at Member f) always) (args f)

-- a member and its arguments
member_then : {text : List ℕ} (f : Flags) {s s' : ℕ} {l : Label} {cs : Slots} {pass : Lexemes → Lexemes} (x : Stretch text (after (at Member f)) (such (at Member f) always) s nothing s' (tree l cs) pass) → Stretch text (plain full) (called_member f) s (args f) s' (tree l cs) pass
unfolding covers
member_then f x = record { reach = x.reach; near = x.near; goes = then_by x.goes (by_first firsts (surely (at Member f)) refl) }

member_lacks : {text : List ℕ} (f : Flags) {s : ℕ} → Underived text (at Member f) s → Fails rule (Lex text) (plain full) end (called_member f) s
unfolding covers
member_lacks f x = part_fails x (by_first firsts (surely (at Member f)) refl)

-- no arguments stand behind it
no_called : {text : List ℕ} (f : Flags) {s s' : ℕ} {l : Label} {cs : Slots} {pass : Lexemes → Lexemes} → Headed text f s l cs pass s' → Fails rule (Lex text) (plain full) end (args f) s' → Fails rule (Lex text) (plain full) end (called_member f) s
no_called f (a_member m b) n = (member_then f m).goes ▹✗ n
no_called f (a_new z s u k) n = member_lacks f z
no_called f (a_super z b w y) n = member_lacks f z

pub no_arguments_here : {text : List ℕ} (f : Flags) {s : ℕ} → NoneIs text s LParen → Fails rule (Lex text) (plain full) end (args f) s
no_arguments_here f n = fails_here firsts (none_seen n)

module _ {text : List ℕ} {f : Flags} {p q : Parser} (a : At text f p) (k : p.token.kind ≡ New) (n : p.token.escaped ≡ false) (m : Moved text f p q) where
  pub no_primary : Underived text (at Primary f) p.prev_token_end
  no_primary = primary_fails a (no_listed_name f.yield_ f.await_ p.token.kind (subst (λ v. one_of_kinds binding_identifier_kinds v ≡ false) (sym k) refl)) (subst (λ v. one_of_kinds primary_kinds v ≡ false) (sym k) refl)

  pub bare_fails : Underived text (at new_symbol f) q.prev_token_end → NoBareNew text f p.prev_token_end
  bare_fails z = fails_node (new_edge f p.prev_token_end) (token New a k n refl m ⟶✗ z)

  pub no_super_at_new : NoneIs text p.prev_token_end super_kind
  no_super_at_new = stands_not a refl (λ e i. let u : New ≡ super_kind = sym k ∙ e in cc)

  pub no_import_at_new : NoneIs text p.prev_token_end Import
  no_import_at_new = stands_not a refl (λ e i. let u : New ≡ Import = sym k ∙ e in cc)

  -- nothing else than a MemberExpression, where no NewExpression stands behind it
  pub new_other : Underived text (at new_symbol f) q.prev_token_end → NoOther text f p.prev_token_end
  new_other z = record { bare = bare_fails z; uncalled = no_super_word f no_super_at_new }

  pub new_skips : Stretch text (plain full) (with_arguments f) p.prev_token_end (called_member f) q.prev_token_end (λ us. us) (λ ls. next m.lexeme ls)
  new_skips = record { reach = 0; near = omega arith; goes = skips a New k n refl m }

-- another lexeme than a dot stands behind `new`
module _ {text : List ℕ} {f : Flags} {p q : Parser} (a : At text f p) (k : p.token.kind ≡ New) (n : p.token.escaped ≡ false) (m : Moved text f p q) (t : StandsHere q Dot false) where
  no_target_here : Fails rule (Lex text) (plain full) end target_slots p.prev_token_end
  no_target_here = skips a New k n refl m ▹✗ fails_here firsts (none_seen (stands_not m.at refl t))

  none_called : Fails rule (Lex text) (plain full) end (called_member f) q.prev_token_end → Underived text (at Member f) p.prev_token_end
  none_called z = no_member_new f (no_super_at_new a k n m) (no_import_at_new a k n m) (no_primary a k n m) ((new_skips a k n m).goes ▹✗ z) (λ X. fails_under (fails_node inside_full no_target_here))

  pub new_fails_by : Underived text (at Member f) q.prev_token_end → NoBareNew text f q.prev_token_end → NoMember text f p.prev_token_end
  new_fails_by z b = (none_called (member_lacks f z), new_other a k n m (no_new_by f z b))

  pub new_fails : NoMember text f q.prev_token_end → NoMember text f p.prev_token_end
  new_fails z = new_fails_by z.0 z.1.bare

  module _ {levels : ℕ} {e r w : Parser} {callee : NodeId} (h : Enters levels q e) (l : Leaves levels r w) (x : HeadOutcome text f e r (Ok callee)) where
    same_place : e.prev_token_end ≡ q.prev_token_end
    same_place = ap (λ (z : Parser). z.prev_token_end) h.is

    pub callee_taken : HeadTaken text f q w callee
    callee_taken = subst (λ (v : ℕ). Taken text f q w callee (λ l cs pass s'. Headed text f v l cs pass s') (NoMember text f v)) same_place (taken_back m.at.at h l x.0)

    pub start_before : p.token.span.start ≤ w.prev_token_end
    start_before = let i = m.further in let j = callee_taken.further in let d = m.at.behind in omega arith

    pub at_callee : At text f w
    at_callee = callee_taken.at

    pub callee_room : room w ≤ room p
    callee_room = let i = later_room (let j = callee_taken.further in let d = m.at.behind in omega arith) callee_taken.same in let r = nested_room a m in omega arith

    no_access : NoAccess text w
    no_access = subst (λ (v : ℕ). NoneOf text v access_kinds) (sym (ap (λ (z : Parser). z.prev_token_end) l.is)) x.1

    pub new_grown : {ds : List Diagnostic} → Grown w.errors ds → Grown p.errors ds
    new_grown g = grown_then m.kept (grown_behind callee_taken.verdict g)

    pub new_same : Same p w
    new_same = same_both m.same callee_taken.same

    -- `?.` stands behind the callee
    pub new_refused : StandsHere w QuestionDot true → NoMember text f p.prev_token_end
    new_refused s = either_way callee_taken.verdict (λ c. (none_called (no_called f c (no_arguments_here f (λ y l e w. let z = (stands_there callee_taken.at s.0 refl) y l in (let u : QuestionDot ≡ LParen = sym z.0 ∙ e in cc)))), new_other a k n m (refused c))) (λ z. new_fails z)
      where
        refused : {l : Label} {cs : Slots} {pass : Lexemes → Lexemes} → Headed text f q.prev_token_end l cs pass w.prev_token_end → Underived text (at new_symbol f) q.prev_token_end
        refused (a_member c b) = no_new_before f QuestionDot (λ d v. refl) c b.bare (stands_there callee_taken.at s.0 refl)
        refused (a_new z c u b) = new_unfollowed f c (stands_there callee_taken.at s.0 refl)
        refused (a_super z b w y) = no_new_by f z b

    -- neither `?.` nor arguments
    pub new_taken : {v : Parser} {id : NodeId} {s : Span} → StandsHere w QuestionDot false → StandsHere w LParen false → s.start ≡ p.token.span.start → s.end ≡ w.prev_token_end → MadeHere (plain_label node.NewExpression op.None s) (Some callee ∷ []) w v id → HeadOutcome text f p v (Ok id)
    new_taken {v} {id} {s} g j b c d =
        let made : MadeHere (label_here new_expression no_op p w) (Some callee ∷ []) w v id = subst (λ (z : Label). MadeHere z (Some callee ∷ []) w v id) (rw (b, c) refl) d in
        let none = stands_not callee_taken.at refl j in
        let nothing_behind : (y : Lexeme) → Lex text w.prev_token_end y → one_of_kinds link_kinds y.kind ≡ false = no_link_kind no_access (stands_not callee_taken.at refl g) none in
        subst (λ (z : Parser). HeadOutcome text f p z (Ok id)) (sym made.stays) (
          record {
            at = beside_nodes v.nodes callee_taken.at;
            same = same_with v.nodes (same_both m.same callee_taken.same) (Keeps-trans (subst (λ (ns : List Node). Keeps ns w.nodes) m.nodes callee_taken.keeps) (Keeps-made made.made)) (made_lies (same_both m.same callee_taken.same) callee_taken.at.at (let i = start_before_less in omega arith) made refl);
            further = start_before_less;
            label = label_here new_expression no_op p w;
            slots = tree callee_taken.label callee_taken.slots end;
            row = refl;
            pass = λ ls. next m.lexeme (callee_taken.pass ls);
            walked = walked_both (walked_one m) callee_taken.walked;
            verdict = bare_verdict nothing_behind none;
            holds = node_held made (HoldsAll-one callee (subst (λ (ns : List Node). Holds w.nodes (length ns) (length w.nodes) callee.0 callee_taken.label callee_taken.slots) m.nodes callee_taken.holds));
            keeps = Keeps-trans (subst (λ (ns : List Node). Keeps ns w.nodes) m.nodes callee_taken.keeps) (Keeps-made made.made);
          },
          no_access,
        )
      where
        start_before_less : p.token.span.start < w.prev_token_end
        start_before_less = let i = m.further in let j = callee_taken.further in let d = m.at.behind in omega arith

        bare_verdict : ((y : Lexeme) → Lex text w.prev_token_end y → one_of_kinds link_kinds y.kind ≡ false) → NoneIs text w.prev_token_end LParen → Verdict (f.wide ≡ true) p.errors w.errors (Headed text f p.prev_token_end (label_here new_expression no_op p w) (tree callee_taken.label callee_taken.slots end) (λ ls. next m.lexeme (callee_taken.pass ls)) w.prev_token_end) (NoMember text f p.prev_token_end)
        bare_verdict u none = behind_none m.kept (verdict_of callee_taken.verdict (λ c. bare c) (λ z. new_fails z))
          where
            bare : Headed text f q.prev_token_end callee_taken.label callee_taken.slots callee_taken.pass w.prev_token_end → Headed text f p.prev_token_end (label_here new_expression no_op p w) (tree callee_taken.label callee_taken.slots end) (λ ls. next m.lexeme (callee_taken.pass ls)) w.prev_token_end
            bare c =
                let z = none_called (no_called f c (no_arguments_here f none)) in
                let y = headed_new f none c in
                a_new z (new_bare f z (noding w a (new_edge f p.prev_token_end) (record { reach = max 0 y.reach; near = let i = y.near in omega arith; goes = skips a New k n refl m ▹ y.goes }))) (no_super_word f (no_super_at_new a k n m)) u

    -- the callee isn't `super` alone
    abbrev pub NotSuper : Type 0
    NotSuper = (is_super_word callee_taken.label.kind ≡ false) ⊎ NoneIs text q.prev_token_end super_kind

    -- a member, if it isn't
    abbrev pub UnlessSuper : Parser → NodeId → Type 0
    UnlessSuper v id = Taken text f p v id (λ l cs pass s'. NotSuper → MemberSoFar text f p.prev_token_end p.token.span.start l cs pass s') (NoMember text f p.prev_token_end)

    -- nothing begins here, if it is
    pub none_behind_new : is_super_word callee_taken.label.kind ≡ true → NoMember text f p.prev_token_end
    none_behind_new i = either_way callee_taken.verdict (λ c. by c) (λ z. new_fails z)
      where
        by : Headed text f q.prev_token_end callee_taken.label callee_taken.slots callee_taken.pass w.prev_token_end → NoMember text f p.prev_token_end
        by (a_member c b) = new_fails_by (no_super_member i c) b.bare
        by (a_new z c u b) = new_fails_by z (no_super_new i c)
        by (a_super z b v y) = new_fails_by z b

    -- arguments stand there
    module _ (s : StandsHere w LParen true) where
      bare_none : {l : Label} {cs : Slots} {pass : Lexemes → Lexemes} → Headed text f q.prev_token_end l cs pass w.prev_token_end → NoOther text f p.prev_token_end
      bare_none (a_member c b) = new_other a k n m (no_new_before f LParen (λ d v. refl) c b.bare (stands_there callee_taken.at s.0 refl))
      bare_none (a_super z b w y) = new_other a k n m (no_new_by f z b)
      bare_none (a_new z c u b) = let y = lexeme_there callee_taken.at s refl refl refl in absurd (false≢true (sym (b y.0 y.1) ∙ subst (λ (v : Kind). one_of_kinds link_kinds v ≡ true) (sym y.2) refl))

      pub new_arguments_stop : (v : Parser) (i : Stop) → Stops w v i (Fails rule (Lex text) (plain full) end (args f) w.prev_token_end) → Stops p v i (NoMember text f p.prev_token_end)
      new_arguments_stop v i z = stops_behind v i new_same (λ g. new_grown g) (λ n. either_way callee_taken.verdict (λ c. (none_called (no_called f c n), bare_none c)) (λ y. new_fails y)) z

      -- a member, unless the callee is `super`
      pub new_with_arguments : {v : Parser} {id : NodeId} → (y : WithArguments node.NewExpression false p.token.span.start callee w v id) → UnlessSuper v id
      new_with_arguments {v} {id} y =
          let part = y.arguments text f callee_taken.at in
          let forward : w.prev_token_end ≤ y.behind.prev_token_end = (let b = callee_taken.at.behind in let c = part.further in omega arith) in
          subst (λ (z : Parser). UnlessSuper z id) (sym y.made.stays) (record {
            at = beside_nodes v.nodes part.at;
            same = same_with v.nodes (same_both m.same (same_both callee_taken.same part.same)) (Keeps-trans (subst (λ (ns : List Node). Keeps ns w.nodes) m.nodes callee_taken.keeps) (Keeps-trans part.keeps (Keeps-made y.made.made))) (made_lies (same_both m.same (same_both callee_taken.same part.same)) part.at.at (let b = m.further in let c = callee_taken.further in let d = m.at.behind in let g = part.further in let i = callee_taken.at.behind in omega arith) y.made refl);
            further = let b = m.further in let c = callee_taken.further in let d = m.at.behind in omega arith;
            label = label_here new_expression no_op p y.behind;
            slots = tree callee_taken.label callee_taken.slots (part.slots end);
            row = refl;
            pass = λ ls. next m.lexeme (callee_taken.pass (part.pass ls));
            walked = walked_both (walked_one m) (walked_both callee_taken.walked part.walked);
            verdict = behind_none m.kept (and_then callee_taken.verdict part.verdict (λ c z h. whole c h z forward) (λ z. new_fails z) (λ c z. (none_called (no_called f c z), bare_none c)));
            holds = node_held y.made (part.holds (length p.nodes) (tree callee_taken.label callee_taken.slots end) (HoldsAll-one callee (subst (λ (ns : List Node). Holds w.nodes (length ns) (length w.nodes) callee.0 callee_taken.label callee_taken.slots) m.nodes callee_taken.holds)));
            keeps = Keeps-trans (subst (λ (ns : List Node). Keeps ns w.nodes) m.nodes callee_taken.keeps) (Keeps-trans part.keeps (Keeps-made y.made.made));
          })
        where
          whole : {l : Label} {cs : Slots} {pass more : Lexemes → Lexemes} {h : Slots → Slots} {s'' : ℕ} → Headed text f q.prev_token_end l cs pass w.prev_token_end → (is_super_word l.kind ≡ false) ⊎ NoneIs text q.prev_token_end super_kind → Stretch text (plain full) (args f) w.prev_token_end nothing s'' h more → w.prev_token_end ≤ s'' → MemberSoFar text f p.prev_token_end p.token.span.start (record { kind = new_expression; op = no_op; flags = 0; span = record { from = p.token.span.start; to = s'' } }) (tree l cs (h end)) (λ ls. next m.lexeme (pass (more ls))) s''
          whole (a_member c b) o z i = (member_new f (no_super_at_new a k n m) (no_import_at_new a k n m) (no_primary a k n m) no_target_here (stretches (new_skips a k n m) (stretches (member_then f c) z i) (let d = m.at.behind in let e = callee_taken.further in omega arith)) (begins_here a), bare_none (a_member c b))
          whole (a_super c b v y) (inl o) z i = absurd (false≢true (sym o ∙ v.kind))
          whole (a_super c b v y) (inr o) z i = absurd (no_super_there f o v y.0 y.1)
          whole (a_new z c d b) o u i = absurd (let y = lexeme_there callee_taken.at s refl refl refl in false≢true (sym (b y.0 y.1) ∙ subst (λ (v : Kind). one_of_kinds link_kinds v ≡ true) (sym y.2) refl))

-- ---- tagged templates

-- what a template is derived by, behind whatever stands before
template_path : {text : List ℕ} {f : Flags} {p q : Parser} {id : NodeId} (x : Numbered text f (at Template f) p q id) → Path text f (plain full) (such (at Template f) always) p nothing q (tree x.answer.label x.answer.slots)
template_path x = record { at = x.answer.at; further = x.answer.further; pass = x.answer.pass; walked = x.answer.walked; verdict = verdict_of x.answer.verdict (λ y. record { reach = y.reach; near = y.near; goes = weaken y.goes (λ ts y e. (refl, refl)) }) (λ z. weaken_fails z (λ ts y e. (refl, refl))) }

template_fails : {text : List ℕ} (f : Flags) {s : ℕ} → Underived text (at Template f) s → Fails rule (Lex text) (plain full) end (such (at Template f) always) s
template_fails f n = weaken_fails n (λ ts y e. (refl, refl))

tagged_taken : {text : List ℕ} {f : Flags} {C D : Label → Slots → (Lexemes → Lexemes) → ℕ → Type 0} {A : Type 0} {o p w : Parser} {left id : NodeId} {start : ℕ} (x : Taken text f o p left C A) → start ≡ o.token.span.start → (y : Templated text f start left p w id)
    → ((pass : Lexemes → Lexemes) → C x.label x.slots x.pass p.prev_token_end → p.prev_token_end ≤ y.behind.prev_token_end → Stretch text (plain full) (such (at Template f) always) p.prev_token_end nothing y.behind.prev_token_end (tree y.taken.answer.label y.taken.answer.slots) pass → D (tagged_label o.token.span.start y.behind.prev_token_end) (tree x.label x.slots (tree y.taken.answer.label y.taken.answer.slots end)) (λ ls. x.pass (pass ls)) y.behind.prev_token_end)
    → (C x.label x.slots x.pass p.prev_token_end → Fails rule (Lex text) (plain full) end (such (at Template f) always) p.prev_token_end → A) → Taken text f o w id D A
tagged_taken {o = o} {p = p} {w = w} {left = left} {id = id} x e y good bad =
    step_taken x (template_path y.taken) y.taken.answer.same y.taken.keeps (HoldsAll-next y.template y.taken.keeps (HoldsAll-one left x.holds) y.taken.holds)
    (subst (λ (v : ℕ). MadeHere (tagged_label v y.behind.prev_token_end) (Some left ∷ Some y.template ∷ []) y.behind w id) e y.made) refl refl (λ pass c i z. good pass c i z) bad

module _ {text : List ℕ} {f : Flags} {o p : Parser} {left : NodeId} (x : Membered text f o p left) (h : one_of_kinds heads p.token.kind ≡ true) where
  pub member_tagged : {w : Parser} {id : NodeId} {start : ℕ} → start ≡ o.token.span.start → Templated text f start left p w id → Membered text f o w id
  member_tagged e y = tagged_taken x e y (λ pass c i z. (member_template f p.token.kind h c.0 (heads_there x.at h) i z, c.1)) (λ c n. (member_template_fails f p.token.kind h c.0 (heads_there x.at h) n, c.1))

  pub member_tag_stops : (w : Parser) (e : Stop) → Stops p w e (Underived text (at Template f) p.prev_token_end) → Stops o w e (NoMember text f o.prev_token_end)
  member_tag_stops w e z = stops_behind w e x.same (λ g. grown_behind x.verdict g) (λ n. either_way x.verdict (λ c. (member_template_fails f p.token.kind h c.0 (heads_there x.at h) (template_fails f n), c.1)) (λ n. n)) z

-- ---- calls

abbrev pub Called : List ℕ → Flags → Parser → Parser → NodeId → Type 0
Called text f o p id = Taken text f o p id (λ l cs pass s'. CallSoFar text f o.prev_token_end o.token.span.start l cs pass s') (NoLhs text f o.prev_token_end)

abbrev pub CalleeTaken : List ℕ → Flags → Parser → Parser → NodeId → Type 0
CalleeTaken text f o p id = Taken text f o p id (λ l cs pass s'. Callee text f o.prev_token_end l cs pass s') (NoLhs text f o.prev_token_end)

pub head_closed : {text : List ℕ} {f : Flags} {o p : Parser} {id : NodeId} → HeadTaken text f o p id → NoImport text f o.prev_token_end → NoAccess text p → StandsHere p LParen false → CalleeOutcome text f o p (Ok id)
head_closed {f = f} x i n s = (retake x (λ l cs pass c. a_head c i) (λ z. no_lhs_here f z i), n, (λ y l e. stands_not x.at refl s y l e (read_plain y l e refl)))

module _ {text : List ℕ} {f : Flags} {o p : Parser} {left : NodeId} (a : At text f o) (x : HeadTaken text f o p left) (w : NoImport text f o.prev_token_end) (s : StandsHere p LParen true) where
  parens : AllAre text p.prev_token_end LParen
  parens = stands_there x.at s.0 refl

  beyond : {l : Label} {cs : Slots} {pass : Lexemes → Lexemes} → Stretch text (after (at Member f)) (such (at Member f) always) o.prev_token_end nothing p.prev_token_end (tree l cs) pass → NoOther text f o.prev_token_end → Beyond text f o.prev_token_end
  beyond c b = record { no_new = no_new_before f LParen (λ d v. refl) c b.bare parens; no_member = member_before_chain f c parens }

  never_new : {C : Type 0} → ((y : Lexeme) → Lex text p.prev_token_end y → one_of_kinds link_kinds y.kind ≡ false) → C
  never_new b = let y = lexeme_there x.at s refl refl refl in absurd (false≢true (sym (b y.0 y.1) ∙ subst (λ (v : Kind). one_of_kinds link_kinds v ≡ true) (sym y.2) refl))

  first_good : (c : LinkForm) (d : Bool) → (by_call ≡ c) × (d ≡ false) → {l : Label} {cs : Slots} {pass more : Lexemes → Lexemes} {h : Slots → Slots} {s'' : ℕ} → Headed text f o.prev_token_end l cs pass p.prev_token_end → p.prev_token_end ≤ s'' → Stretch text (plain full) (chained f c d).part p.prev_token_end nothing s'' h more → CallSoFar text f o.prev_token_end o.token.span.start (link_label c d o.token.span.start s'') (tree l cs (h end)) (λ ls. pass (more ls)) s''
  first_good by_call false e (a_member c b) i y = (call_begin f c b.uncalled w i (begins_here a) y, beyond c b)
  first_good by_call false e (a_new n c u b) i y = never_new b
  first_good by_call false e (a_super n b v z) i y = (super_begin f n v w i (begins_here a) y, record { no_new = no_new_by f n b; no_member = member_before f n })
  first_good by_name d e c i y = absurd (let z : by_call ≡ by_name = e.0 in cc)
  first_good by_private d e c i y = absurd (let z : by_call ≡ by_private = e.0 in cc)
  first_good by_index d e c i y = absurd (let z : by_call ≡ by_index = e.0 in cc)
  first_good by_call true e c i y = absurd (false≢true (sym e.1))

  no_first_call : {l : Label} {cs : Slots} {pass : Lexemes → Lexemes} → Headed text f o.prev_token_end l cs pass p.prev_token_end → NoLink text f p.prev_token_end by_call false → NoLhs text f o.prev_token_end
  no_first_call (a_member c b) n = no_lhs f (beyond c b).no_new (no_call_behind f c b.uncalled w n) (no_first f (base_none f (member_before_chain f c parens) (no_call_behind f c b.uncalled w n)))
  no_first_call (a_super z b v y) n = no_lhs f (no_new_by f z b) (no_super_call f z v w n) (no_first f (base_none f (member_before f z) (no_super_call f z v w n)))
  no_first_call (a_new z c u b) n = never_new b

  first_bad : (c : LinkForm) (d : Bool) → (by_call ≡ c) × (d ≡ false) → {l : Label} {cs : Slots} {pass : Lexemes → Lexemes} → Headed text f o.prev_token_end l cs pass p.prev_token_end → NoLink text f p.prev_token_end c d → NoLhs text f o.prev_token_end
  first_bad c d e u n = no_first_call u (subst (λ (v : LinkForm). NoLink text f p.prev_token_end v false) (sym e.0) (subst (λ (v : Bool). NoLink text f p.prev_token_end c v) e.1 n))

  begun : Taken text f o p left (λ l cs pass s'. Headed text f o.prev_token_end l cs pass s') (NoLhs text f o.prev_token_end)
  begun = retake x (λ l cs pass c. c) (λ z. no_lhs_here f z w)

  pub call_first : {w : Parser} {id : NodeId} {start : ℕ} → start ≡ o.token.span.start → Linked text f start left p w id → Called text f o w id
  call_first e y = link_taken begun e y (λ pass c i z. first_good y.form y.optional (call_here p y.form y.optional s y.sign) c i z) (λ c n. first_bad y.form y.optional (call_here p y.form y.optional s y.sign) c n)

  pub call_first_stops : (w : Parser) (e : Stop) → Stops p w e ((c : LinkForm) (d : Bool) → NoLink text f p.prev_token_end c d) → Stops o w e (NoLhs text f o.prev_token_end)
  call_first_stops v e z = stops_behind v e x.same (λ g. grown_behind x.verdict g) (λ n. either_way x.verdict (λ c. no_first_call c (n by_call false)) (λ n. no_lhs_here f n w)) z

module _ {text : List ℕ} {f : Flags} {o p : Parser} {left : NodeId} (x : Called text f o p left) (k : LinkHere p base.Call true) where
  call_good : (c : LinkForm) (d : Bool) → d ≡ false → StandsHere p (sign_of c d) true → OnlyLink text f p.prev_token_end c d → {l : Label} {cs : Slots} {pass more : Lexemes → Lexemes} {h : Slots → Slots} {s'' : ℕ} → CallSoFar text f o.prev_token_end o.token.span.start l cs pass p.prev_token_end → p.prev_token_end ≤ s'' → Stretch text (plain full) (chained f c d).part p.prev_token_end nothing s'' h more → CallSoFar text f o.prev_token_end o.token.span.start (link_label c d o.token.span.start s'') (tree l cs (h end)) (λ ls. pass (more ls)) s''
  call_good c false e s n u i y = (call_step f c u.0 (all_signs x.at c false s) n i y, u.1)
  call_good c true e s n u i y = absurd (false≢true (sym e))

  call_bad : (c : LinkForm) (d : Bool) → d ≡ false → StandsHere p (sign_of c d) true → {l : Label} {cs : Slots} {pass : Lexemes → Lexemes} → CallSoFar text f o.prev_token_end o.token.span.start l cs pass p.prev_token_end → ((c : LinkForm) (d : Bool) → NoLink text f p.prev_token_end c d) → NoLhs text f o.prev_token_end
  call_bad c false e s u n = no_lhs f u.1.no_new (call_step_fails f c (λ l cs vs y e. call_heads f l cs vs y e) u.0 (all_signs x.at c false s) n) (no_first f (base_none f u.1.no_member (call_step_fails f c (λ l cs vs y e. chain_heads f l cs vs y e) u.0 (all_signs x.at c false s) n)))
  call_bad c true e s u n = absurd (false≢true (sym e))

  pub call_linked : {w : Parser} {id : NodeId} {start : ℕ} → start ≡ o.token.span.start → Linked text f start left p w id → Called text f o w id
  call_linked e y = link_taken x e y (λ pass c i z. call_good y.form y.optional (call_form y.form y.optional k y.sign) y.sign y.only c i z) (λ c n. call_bad y.form y.optional (call_form y.form y.optional k y.sign) y.sign c (none_of_links y.form y.optional y.only n))

  pub call_stops : (w : Parser) (e : Stop) → Stops p w e ((c : LinkForm) (d : Bool) → NoLink text f p.prev_token_end c d) → Stops o w e (NoLhs text f o.prev_token_end)
  call_stops w e z = stops_behind w e x.same (λ g. grown_behind x.verdict g) (λ n. either_way x.verdict (λ u. at_link k u n) (λ n. n)) z
    where
      at_link : LinkHere p base.Call true → {l : Label} {cs : Slots} {pass : Lexemes → Lexemes} → CallSoFar text f o.prev_token_end o.token.span.start l cs pass p.prev_token_end → ((c : LinkForm) (d : Bool) → NoLink text f p.prev_token_end c d) → NoLhs text f o.prev_token_end
      at_link (a_link c d s e) u n = call_bad c d (of_call c d e) s u n

module _ {text : List ℕ} {f : Flags} {o p : Parser} {left : NodeId} (x : Called text f o p left) (h : one_of_kinds heads p.token.kind ≡ true) where
  no_call_tagged : {l : Label} {cs : Slots} {pass : Lexemes → Lexemes} → CallSoFar text f o.prev_token_end o.token.span.start l cs pass p.prev_token_end → Fails rule (Lex text) (plain full) end (such (at Template f) always) p.prev_token_end → NoLhs text f o.prev_token_end
  no_call_tagged u n = no_lhs f u.1.no_new (call_template_fails f p.token.kind h (λ l cs vs y e. call_heads f l cs vs y e) u.0 (heads_there x.at h) n) (no_first f (base_none f u.1.no_member (call_template_fails f p.token.kind h (λ l cs vs y e. chain_heads f l cs vs y e) u.0 (heads_there x.at h) n)))

  pub call_tagged : {w : Parser} {id : NodeId} {start : ℕ} → start ≡ o.token.span.start → Templated text f start left p w id → Called text f o w id
  call_tagged e y = tagged_taken x e y (λ pass c i z. (call_template f p.token.kind h c.0 (heads_there x.at h) i z, c.1)) (λ c n. no_call_tagged c n)

  pub call_tag_stops : (w : Parser) (e : Stop) → Stops p w e (Underived text (at Template f) p.prev_token_end) → Stops o w e (NoLhs text f o.prev_token_end)
  call_tag_stops w e z = stops_behind w e x.same (λ g. grown_behind x.verdict g) (λ n. either_way x.verdict (λ c. no_call_tagged c (template_fails f n)) (λ n. n)) z

pub call_closed : {text : List ℕ} {f : Flags} {o p : Parser} {id : NodeId} → (x : Called text f o p id) → GoesOn base.Call p false → CalleeOutcome text f o p (Ok id)
call_closed {text} {f} {o} {p} x (no_link g, n) =
    let h = no_head_here x.at n in
    let none : NoAccess text p = no_access_kind (stands_not x.at refl (g by_name false refl)) (stands_not x.at refl (g by_index false refl)) h.0 h.1 in
    let parens = stands_not x.at refl (g by_call false refl) in
    (retake x (λ l cs pass c. a_call (call_ends f c.0 (no_call_kind none parens)) c.1) (λ n. n), none, (λ y l e. parens y l e (read_plain y l e refl)))

-- ---- LeftHandSideExpressions

abbrev pub Chained : List ℕ → Flags → Parser → Parser → NodeId → Type 0
Chained text f o p id = Taken text f o p id (λ l cs pass s'. ChainSoFar text f o.prev_token_end o.token.span.start l cs pass s') (NoLhs text f o.prev_token_end)

abbrev no_more : Bool → Look
no_more b k w e = one_of_kinds link_kinds k || (nat_lt (tight b after_expression k w e) 17 || beside k w e)

no_more_at : (b : Bool) → covers reads (no_more b) ≡ true
unfolding covers
no_more_at true = refl
no_more_at false = refl

lhs_stops : {text : List ℕ} {s : ℕ} (b : Bool) → ((y : Lexeme) → Lex text s y → one_of_kinds link_kinds y.kind ≡ false) → (d : Edge) (y : Lexeme) → Plain text s y → IsTrue (seen (follow_of LeftHandSide b d) y || seen beside y)
lhs_stops b n d y l = go (one_of_kinds link_kinds y.kind) refl (covered reads (no_more b) (no_more_at b) y.kind y.newline y.escaped (plain_is_read y l.1))
  where
    go : (c : Bool) → one_of_kinds link_kinds y.kind ≡ c → (c || (nat_lt (tight b after_expression y.kind y.newline y.escaped) 17 || beside y.kind y.newline y.escaped)) ≡ true → (nat_lt (tight b after_expression y.kind y.newline y.escaped) 17 || beside y.kind y.newline y.escaped) ≡ true
    go true e h = absurd (false≢true (sym (n y (plain_lex l)) ∙ e))
    go false e h = h

pub lhs_callee : {text : List ℕ} {f : Flags} {o p : Parser} {id : NodeId} → (x : CalleeTaken text f o p id) → NoAccess text p → NoParen text p → StandsHere p QuestionDot false → Numbered text f (at LeftHandSide f) o p id
lhs_callee {text} {f} {o} {p} x n m s =
    let y = retake x (λ l cs pass c. whole c) (λ z. z) in
    numbered y y.row (lhs_stops f.in_ (no_link_kind n none (λ y l e w. m y l e)) (edge_of y.label y.slots))
  where
    none : NoneIs text p.prev_token_end QuestionDot
    none = stands_not x.at refl s

    whole : {l : Label} {cs : Slots} {pass : Lexemes → Lexemes} → Callee text f o.prev_token_end l cs pass p.prev_token_end → Stretch text (after (at LeftHandSide f)) (such (at LeftHandSide f) always) o.prev_token_end nothing p.prev_token_end (tree l cs) pass
    whole (a_head (a_member c b) i) = lhs_new f (new_member f c b.bare) (no_call_behind f c b.uncalled i (no_arguments_here f (λ y l e w. m y l e))) (no_first f (base_none f (member_alone f c none) (no_call_behind f c b.uncalled i (no_arguments_here f (λ y l e w. m y l e)))))
    whole (a_head (a_new z c u b) i) = lhs_new f c (no_call_at_all f z u i) (no_first f (base_none f (member_before f z) (no_call_at_all f z u i)))
    whole (a_head (a_super z b w y) i) = absurd (m y.0 y.1 y.2)
    whole (a_call c b) = lhs_call f b.no_new c (no_first f (base_none f b.no_member (call_alone f c none)))

module _ {text : List ℕ} {f : Flags} {o p : Parser} {left : NodeId} (a : At text f o) (x : CalleeTaken text f o p left) (s : StandsHere p QuestionDot true) where
  chains_here : AllAre text p.prev_token_end QuestionDot
  chains_here = stands_there x.at s.0 refl

  no_parens : NoneIs text p.prev_token_end LParen
  no_parens y l e w = let u : QuestionDot ≡ LParen = sym (chains_here y l).0 ∙ e in cc

  -- what a chain hangs on, and that it is nothing else
  record Base (l : Label) (cs : Slots) (pass : Lexemes → Lexemes) : Type 0 where
    base : Stretch text before_chain (bases f) o.prev_token_end nothing p.prev_token_end (tree l cs) pass
    no_bare : Underived text (at new_symbol f) o.prev_token_end
    no_call : NotCall text f o.prev_token_end

  based : {l : Label} {cs : Slots} {pass : Lexemes → Lexemes} → Callee text f o.prev_token_end l cs pass p.prev_token_end → Base l cs pass
  based (a_head (a_member c b) i) = record { base = base_member f c b.uncalled i chains_here; no_bare = no_new_before f QuestionDot (λ d v. refl) c b.bare chains_here; no_call = no_call_behind f c b.uncalled i (no_arguments_here f no_parens) }
  based (a_head (a_super z b w y) i) = absurd (no_parens y.0 y.1 y.2 (read_plain y.0 y.1 y.2 refl))
  based (a_head (a_new z c u b) i) = let y = lexeme_there x.at s refl refl refl in absurd (false≢true (sym (b y.0 y.1) ∙ subst (λ (v : Kind). one_of_kinds link_kinds v ≡ true) (sym y.2) refl))
  based (a_call c b) = record { base = base_call f c b.no_member; no_bare = b.no_new; no_call = call_unfollowed f c chains_here }

  chain_good : (c : LinkForm) (d : Bool) → d ≡ true → OnlyLink text f p.prev_token_end c d → {l : Label} {cs : Slots} {pass more : Lexemes → Lexemes} {h : Slots → Slots} {s'' : ℕ} → Callee text f o.prev_token_end l cs pass p.prev_token_end → p.prev_token_end ≤ s'' → Stretch text (plain full) (chained f c d).part p.prev_token_end nothing s'' h more → ChainSoFar text f o.prev_token_end o.token.span.start (link_label c d o.token.span.start s'') (tree l cs (h end)) (λ ls. pass (more ls)) s''
  chain_good c true e u k i y = let b = based k in (chain_begin f b.base i (begins_here a) c u y, b.no_bare, b.no_call)
  chain_good c false e u k i y = absurd (false≢true e)

  chain_bad : {l : Label} {cs : Slots} {pass : Lexemes → Lexemes} → Callee text f o.prev_token_end l cs pass p.prev_token_end → ((c : LinkForm) (d : Bool) → NoLink text f p.prev_token_end c d) → NoLhs text f o.prev_token_end
  chain_bad k n = let b = based k in no_lhs f b.no_bare b.no_call (no_chain_link f b.base (λ c. n c true))

  chain_first : {w : Parser} {id : NodeId} {start : ℕ} → start ≡ o.token.span.start → Linked text f start left p w id → Chained text f o w id
  chain_first e y = link_taken x e y (λ pass c i z. chain_good y.form y.optional (optional_here p y.form y.optional s y.sign) y.only c i z) (λ c n. chain_bad c (none_of_links y.form y.optional y.only n))

  pub chain_begun : {w : Parser} {id : NodeId} {start : ℕ} → start ≡ o.token.span.start → Linked text f start left p w id ⊎ Tagged text f start left p w id → Chained text f o w id
  chain_begun e (inl y) = chain_first e y
  chain_begun e (inr y) = tag_taken x e y (λ c. chain_bad c y.none)

  pub chain_first_stops : (w : Parser) (e : Stop) → Stops p w e ((c : LinkForm) (d : Bool) → NoLink text f p.prev_token_end c d) → Stops o w e (NoLhs text f o.prev_token_end)
  chain_first_stops w e z = stops_behind w e x.same (λ g. grown_behind x.verdict g) (λ n. either_way x.verdict (λ c. chain_bad c n) (λ n. n)) z

module _ {text : List ℕ} {f : Flags} {o p : Parser} {left : NodeId} (x : Chained text f o p left) where
  -- by what stands here
  abbrev Sign : Type 0
  Sign = ((c : LinkForm) × (d : Bool) × AllAre text p.prev_token_end (sign_of c d)) ⊎ ((k : Kind) × (one_of_kinds heads k ≡ true) × AllAre text p.prev_token_end k)

  chain_none : Sign → {l : Label} {cs : Slots} {pass : Lexemes → Lexemes} → ChainSoFar text f o.prev_token_end o.token.span.start l cs pass p.prev_token_end → ((c : LinkForm) (d : Bool) → NoLink text f p.prev_token_end c d) → NoLhs text f o.prev_token_end
  chain_none (inl z) u n = no_lhs f u.1 u.2 (chain_step_fails f u.0 z.0 z.1 z.2 n)
  chain_none (inr z) u n = no_lhs f u.1 u.2 (chain_template_fails f z.0 z.1 u.0 z.2 n)

  -- `?.` or a template
  tag_sign : TagSign text p.prev_token_end → Sign
  tag_sign (k, h, z) = go (same_kind QuestionDot k) refl h
    where
      go : (b : Bool) → same_kind QuestionDot k ≡ b → (b || one_of_kinds heads k) ≡ true → Sign
      go true e q = inl (by_name, true, subst (λ (v : Kind). AllAre text p.prev_token_end v) (sym (kind_of_same QuestionDot k e)) z)
      go false e q = inr (k, q, z)

  chain_linked : {w : Parser} {id : NodeId} {start : ℕ} → start ≡ o.token.span.start → Linked text f start left p w id → Chained text f o w id
  chain_linked e y = link_taken x e y (λ pass c i z. (chain_step f c.0 y.form y.optional (all_signs x.at y.form y.optional y.sign) y.only i z, c.1, c.2)) (λ c n. chain_none (inl (y.form, y.optional, all_signs x.at y.form y.optional y.sign)) c (none_of_links y.form y.optional y.only n))

  pub chain_on : {w : Parser} {id : NodeId} {start : ℕ} → start ≡ o.token.span.start → Linked text f start left p w id ⊎ Tagged text f start left p w id → Chained text f o w id
  chain_on e (inl y) = chain_linked e y
  chain_on e (inr y) = tag_taken x e y (λ c. chain_none (tag_sign y.sign) c y.none)

  pub chain_stops : (w : Parser) (e : Stop) → GoesOn base.Chain p true → Stops p w e ((c : LinkForm) (d : Bool) → NoLink text f p.prev_token_end c d) → Stops o w e (NoLhs text f o.prev_token_end)
  chain_stops w e k z = stops_behind w e x.same (λ g. grown_behind x.verdict g) (λ n. either_way x.verdict (λ c. chain_none (sign_here k) c n) (λ n. n)) z
    where
      sign_here : LinkHere p base.Chain true ⊎ (one_of_kinds heads p.token.kind ≡ true) → Sign
      sign_here (inl (a_link c d s h)) = inl (c, d, all_signs x.at c d s)
      sign_here (inr h) = inr (p.token.kind, h, heads_there x.at h)

pub chain_done : {text : List ℕ} {f : Flags} {o p w : Parser} {left id : NodeId} {s : Span} → At text f o → (x : Chained text f o p left) → GoesOn base.Chain p false → s.start ≡ o.token.span.start → s.end ≡ p.prev_token_end → MadeHere (plain_label node.ChainExpression op.None s) (Some left ∷ []) p w id → Numbered text f (at LeftHandSide f) o w id
unfolding rule rule_of
chain_done {text} {f} {o} {p} {w} {left} {id} {s} a x (no_link g, m) b c d =
    let made : MadeHere (label_here chain_expression no_op o p) (Some left ∷ []) p w id = subst (λ (z : Label). MadeHere z (Some left ∷ []) p w id) (rw (b, c) refl) d in
    let h = no_head_here x.at m in
    let none = no_link_kind (no_access_kind (stands_not x.at refl (g by_name false refl)) (stands_not x.at refl (g by_index false refl)) h.0 h.1) (stands_not x.at refl (g by_name true refl)) (stands_not x.at refl (g by_call false refl)) in
    let y = wrap_taken x made refl refl (λ c. lhs_chain f c.1 c.2 (noding p a (record { ends = λ q cs vs j ls mid d e. e }) (chain_ends f c.0 none))) (λ n. n) in
    numbered y y.row (lhs_stops f.in_ (subst (λ (v : ℕ). (y : Lexeme) → Lex text v y → one_of_kinds link_kinds y.kind ≡ false) (sym (ap (λ (z : Parser). z.prev_token_end) made.stays)) none) (edge_of y.label y.slots))

-- ---- reading a link

module _ {text : List ℕ} (f : Flags) where
  pub not_sign : (c : LinkForm) (o : Bool) (k : Kind) {s : ℕ} → (k ≡ sign_of c o → ⊥) → AllAre text s k → NoLink text f s c o
  not_sign by_call true k n z = fails_here firsts (λ y l h. n (sym (z y l).0 ∙ sym (kind_of_same QuestionDot y.kind (and_parts _ _ h).0)))
  not_sign by_name true k n z = fails_here firsts (λ y l h. n (sym (z y l).0 ∙ sym (kind_of_same QuestionDot y.kind (and_parts _ _ h).0)))
  not_sign by_private true k n z = fails_here firsts (λ y l h. n (sym (z y l).0 ∙ sym (kind_of_same QuestionDot y.kind (and_parts _ _ h).0)))
  not_sign by_index true k n z = fails_here firsts (λ y l h. n (sym (z y l).0 ∙ sym (kind_of_same QuestionDot y.kind (and_parts _ _ h).0)))
  not_sign by_call false k n z = fails_here firsts (λ y l h. n (sym (z y l).0 ∙ sym (kind_of_same LParen y.kind (and_parts _ _ h).0)))
  not_sign by_name false k n z = fails_here firsts (λ y l h. n (sym (z y l).0 ∙ sym (kind_of_same Dot y.kind (and_parts _ _ h).0)))
  not_sign by_private false k n z = fails_here firsts (λ y l h. n (sym (z y l).0 ∙ sym (kind_of_same Dot y.kind (and_parts _ _ h).0)))
  not_sign by_index false k n z = fails_here firsts (λ y l h. n (sym (z y l).0 ∙ sym (kind_of_same LBrack y.kind (and_parts _ _ h).0)))

  paren_only : {s : ℕ} → AllAre text s LParen → OnlyLink text f s by_call false
  paren_only z by_call false = inl (refl, refl)
  paren_only z by_name false = inr (not_sign by_name false LParen (λ e. cc) z)
  paren_only z by_private false = inr (not_sign by_private false LParen (λ e. cc) z)
  paren_only z by_index false = inr (not_sign by_index false LParen (λ e. cc) z)
  paren_only z c true = inr (not_sign c true LParen (λ e. cc) z)

  -- of a dot the name behind it tells the link
  dot_only : (private : Bool) {s : ℕ} → NoLink text f s (named_form (not private)) false → AllAre text s Dot → OnlyLink text f s (named_form private) false
  dot_only true n z by_private false = inl (refl, refl)
  dot_only true n z by_name false = inr n
  dot_only false n z by_name false = inl (refl, refl)
  dot_only false n z by_private false = inr n
  dot_only private n z by_call false = inr (not_sign by_call false Dot (λ e. cc) z)
  dot_only private n z by_index false = inr (not_sign by_index false Dot (λ e. cc) z)
  dot_only private n z c true = inr (not_sign c true Dot (λ e. cc) z)

  bracket_only : {s : ℕ} → AllAre text s LBrack → OnlyLink text f s by_index false
  bracket_only z by_call false = inr (not_sign by_call false LBrack (λ e. cc) z)
  bracket_only z by_name false = inr (not_sign by_name false LBrack (λ e. cc) z)
  bracket_only z by_private false = inr (not_sign by_private false LBrack (λ e. cc) z)
  bracket_only z by_index false = inl (refl, refl)
  bracket_only z c true = inr (not_sign c true LBrack (λ e. cc) z)

  chain_only : (c : LinkForm) {s : ℕ} → ((d : LinkForm) → (d ≡ c → ⊥) → NoLink text f s d true) → AllAre text s QuestionDot → OnlyLink text f s c true
  chain_only by_call n z by_call true = inl (refl, refl)
  chain_only by_call n z by_name true = inr (n by_name (λ e. cc))
  chain_only by_call n z by_private true = inr (n by_private (λ e. cc))
  chain_only by_call n z by_index true = inr (n by_index (λ e. cc))
  chain_only by_name n z by_call true = inr (n by_call (λ e. cc))
  chain_only by_name n z by_name true = inl (refl, refl)
  chain_only by_name n z by_private true = inr (n by_private (λ e. cc))
  chain_only by_name n z by_index true = inr (n by_index (λ e. cc))
  chain_only by_private n z by_call true = inr (n by_call (λ e. cc))
  chain_only by_private n z by_name true = inr (n by_name (λ e. cc))
  chain_only by_private n z by_private true = inl (refl, refl)
  chain_only by_private n z by_index true = inr (n by_index (λ e. cc))
  chain_only by_index n z by_call true = inr (n by_call (λ e. cc))
  chain_only by_index n z by_name true = inr (n by_name (λ e. cc))
  chain_only by_index n z by_private true = inr (n by_private (λ e. cc))
  chain_only by_index n z by_index true = inl (refl, refl)
  chain_only c n z d false = inr (not_sign d false QuestionDot (λ e. not_optional d (sym e)) z)

-- a name as such a part
part_name : {text : List ℕ} {f : Flags} {n : Symbol} {mid v : Parser} {left name : NodeId} → Within (plain full) (after n) → Numbered text f n mid v name → Partway text f (such n always) nothing mid v (Some left ∷ []) (Some left ∷ Some name ∷ [])
part_name {left = left} {name} w x = record {
  at = x.answer.at;
  same = x.answer.same;
  further = x.answer.further;
  slots = tree x.answer.label x.answer.slots;
  puts = λ us. refl;
  pass = x.answer.pass;
  walked = x.answer.walked;
  verdict = verdict_of x.answer.verdict (λ y. record { reach = y.reach; near = y.near; goes = weaken y.goes (λ ts y e. w ts y e) }) (λ z. weaken_fails z (λ ts y e. w ts y e));
  holds = λ lo us h. HoldsAll-next name x.keeps h x.holds;
  keeps = x.keeps;
}

-- an expression in brackets
module _ {text : List ℕ} {f : Flags} {p q : Parser} (a : At text f p) (k : p.token.kind ≡ LBrack) (m : Moved text f p q) where
  bracket_opened : {ids : List (Option NodeId)} {g : G} → Partway text f (seq (tok LBrack) g) g p q ids ids
  bracket_opened = part_sign LBrack a k (plain_sign LBrack a k refl refl bracket_plain) refl m

  pub no_index : Underived text (at Expression (plus_in f)) q.prev_token_end → Fails rule (Lex text) (plain full) end (indexed f) p.prev_token_end
  unfolding covers
  no_index n = part_path_fails (bracket_opened {ids = []}) (part_fails n (by_first firsts (surely (at Expression (plus_in f))) refl))

  module _ {r : Parser} {index : NodeId} (x : Numbered text f (at Expression (plus_in f)) q r index) where
    index_read : (ids : List (Option NodeId)) → Partway text f (indexed f) (tok RBrack) p r ids (ids ++ Some index ∷ [])
    unfolding covers
    index_read ids = parts bracket_opened (part_called ids x refl)

    pub unclosed_index : (r.token.kind ≡ RBrack → ⊥) → Fails rule (Lex text) (plain full) end (indexed f) p.prev_token_end
    unfolding covers apart
    unclosed_index n = part_path_fails (index_read []) (fails_at x.answer.at {X = plain full} (tok RBrack) (RBrack ∷ []) refl (other_kind RBrack r.token.kind n))

    pub unclosed_stops : (opening : Option Span) (o : Parser) (e : Stop) → (e ≡ Fatal → r.token.kind ≡ RBrack → ⊥) × GivesUp (IsHere ExpectClosing r opening) r o e → Stops p o e (Fails rule (Lex text) (plain full) end (indexed f) p.prev_token_end)
    unclosed_stops opening o Fatal z = stops_behind o Fatal (same_both m.same x.answer.same) (λ g. grown_then m.kept (grown_behind x.answer.verdict g)) (λ n. n) (gives_up (IsHere ExpectClosing r opening) r o Fatal x.answer.at z.1 (here_ends ExpectClosing refl) (unclosed_index (z.0 refl)))
    unclosed_stops opening o NoMemory z = tt

    pub index_closed : {u : Parser} → r.token.kind ≡ RBrack → MovesOn r u → Moved text f r u
    index_closed c v = moves (uncut x.answer.at (ap (same_kind RAngle) c), ap unpassable c) v x.answer.at

    pub index_part : {u : Parser} (ids : List (Option NodeId)) → r.token.kind ≡ RBrack → Moved text f r u → Partway text f (indexed f) nothing p u ids (ids ++ Some index ∷ [])
    index_part ids c d = parts (index_read ids) (part_last RBrack x.answer.at c (plain_sign RBrack x.answer.at c refl refl closing_bracket_plain) refl d)

module _ {text : List ℕ} {f : Flags} {p : Parser} (a : At text f p) where
  pub call_link : {q : Parser} {id left : NodeId} {start : ℕ} → StandsHere p LParen true → WithArguments node.CallExpression false start left p q id → Linked text f start left p q id
  call_link s y = record { form = by_call; optional = false; sign = s; only = paren_only f (stands_there a s.0 refl); behind = y.behind; children = y.children; part = y.arguments text f a; made = y.made }

  pub index_link : {q : Parser} {id left : NodeId} {start : ℕ} → StandsHere p LBrack true → WithIndex false start left p q id → Linked text f start left p q id
  index_link s y = record { form = by_index; optional = false; sign = s; only = bracket_only f (stands_there a s.0 refl); behind = y.behind; children = y.children; part = y.part text f a; made = y.made }

  no_word : {q : Parser} {k : Kind} → one_of_kinds identifier_name_kinds k ≡ false → At text f q → StandsHere q k true → Underived text (at IdentifierName f) q.prev_token_end
  no_word h b s = no_name b (ap (one_of_kinds identifier_name_kinds) s.0 ∙ h)

  pub no_call_link : (q : Parser) (e : Stop) → StandsHere p LParen true → Stops p q e (Fails rule (Lex text) (plain full) end (args f) p.prev_token_end) → Stops p q e ((c : LinkForm) (o : Bool) → NoLink text f p.prev_token_end c o)
  no_call_link q e s z = stops_so p q e (λ n. none_of_links by_call false (paren_only f (stands_there a s.0 refl)) n) z

  pub no_index_link : (q : Parser) (e : Stop) → StandsHere p LBrack true → Stops p q e (Fails rule (Lex text) (plain full) end (indexed f) p.prev_token_end) → Stops p q e ((c : LinkForm) (o : Bool) → NoLink text f p.prev_token_end c o)
  no_index_link q e s z = stops_so p q e (λ n. none_of_links by_index false (bracket_only f (stands_there a s.0 refl)) n) z

  no_index_here : {s : ℕ} → NoneIs text s LBrack → Fails rule (Lex text) (plain full) end (indexed f) s
  no_index_here n = fails_here firsts (none_seen n)

  -- behind `?.`
  module _ (s : StandsHere p QuestionDot true) {mid : Parser} (m : Moved text f p mid) where
    -- what fails behind it
    abbrev NotBehind : LinkForm → Type 0
    NotBehind by_call = Fails rule (Lex text) (plain full) end (args f) mid.prev_token_end
    NotBehind by_name = Underived text (at IdentifierName f) mid.prev_token_end
    NotBehind by_private = Underived text (at PrivateName f) mid.prev_token_end
    NotBehind by_index = Fails rule (Lex text) (plain full) end (indexed f) mid.prev_token_end

    lacks : (c : LinkForm) → NotBehind c → NoLink text f p.prev_token_end c true
    lacks by_call n = skips a QuestionDot s.0 s.1 refl m ▹✗ n
    lacks by_name n = skips a QuestionDot s.0 s.1 refl m ▹✗ weaken_fails n (λ ts y e. (refl, refl))
    lacks by_private n = skips a QuestionDot s.0 s.1 refl m ▹✗ weaken_fails n (λ ts y e. (refl, refl))
    lacks by_index n = skips a QuestionDot s.0 s.1 refl m ▹✗ n

    -- the sign is passed before it
    behind_sign : {v : Parser} {g : G} {ids js : List (Option NodeId)} → Partway text f g nothing mid v ids js → Partway text f (seq (tok QuestionDot) g) nothing p v ids js
    behind_sign x = parts (part_sign QuestionDot a s.0 s.1 refl m) x

    one_link : (c : LinkForm) → ((d : LinkForm) → (d ≡ c → ⊥) → NotBehind d) → OnlyLink text f p.prev_token_end c true
    one_link c n = chain_only f c (λ d h. lacks d (n d h)) (stands_there a s.0 refl)

    no_links : (q : Parser) (e : Stop) (c : LinkForm) → ((d : LinkForm) → (d ≡ c → ⊥) → NotBehind d) → Stops mid q e (NotBehind c) → Stops p q e ((c : LinkForm) (o : Bool) → NoLink text f p.prev_token_end c o)
    no_links q e c n z = stops_behind q e m.same (λ g. grown_then m.kept g) (λ i. none_of_links c true (one_link c n) (lacks c i)) z

    -- a template stands there: no link does
    module _ (h : one_of_kinds heads mid.token.kind ≡ true) where
      no_sign : (k : Kind) → one_of_kinds heads k ≡ false → NoneIs text mid.prev_token_end k
      no_sign k n y l e w = false≢true (sym n ∙ subst (λ (v : Kind). one_of_kinds heads v ≡ true) (sym (heads_there m.at h y l).0 ∙ e) h)

      none_behind : (d : LinkForm) → NotBehind d
      none_behind by_call = no_arguments_here f (λ y l e. no_sign LParen refl y l e)
      none_behind by_name = no_name m.at (head_word mid.token.kind h)
      none_behind by_private = no_private_name m.at (λ e. false≢true (ap (one_of_kinds heads) (sym e) ∙ h))
      none_behind by_index = no_index_here (λ y l e. no_sign LBrack refl y l e)

      no_link_at_all : (c : LinkForm) (o : Bool) → NoLink text f p.prev_token_end c o
      no_link_at_all = none_of_links by_call true (one_link by_call (λ d n. none_behind d)) (lacks by_call (none_behind by_call))

      pub optional_tagged : (start : ℕ) (left : NodeId) (q : Parser) (r : Result NodeId Stop) → TagOutcome text f start left mid q r → ChainLinkOutcome text f start left p q r
      optional_tagged start left q (Ok id) y = inr (record {
        sign = (QuestionDot, refl, stands_there a s.0 refl);
        none = no_link_at_all;
        behind = y.behind;
        template = y.template;
        at = y.at;
        same = same_both m.same y.same;
        further = let b = m.further in let c = m.at.behind in let d = y.further in omega arith;
        grown = grown_then m.kept y.grown;
        pass = λ ls. next m.lexeme (y.pass ls);
        walked = walked_both (walked_one m) y.walked;
        label = y.label;
        slots = y.slots;
        holds = subst (λ (ns : List Node). Holds y.behind.nodes (length ns) (length y.behind.nodes) y.template.0 y.label y.slots) m.nodes y.holds;
        keeps = subst (λ (ns : List Node). Keeps ns y.behind.nodes) m.nodes y.keeps;
        made = y.made;
      })
      optional_tagged start left q (Err e) z = stops_behind q e m.same (λ g. grown_then m.kept g) (λ n. no_link_at_all) z

    module _ (t : StandsHere mid LParen true) where
      parens_alone : (d : LinkForm) → (d ≡ by_call → ⊥) → NotBehind d
      parens_alone by_call n = absurd (n refl)
      parens_alone by_name n = no_word {k = LParen} refl m.at t
      parens_alone by_private n = no_private_name m.at (λ e. let z : LParen ≡ PrivateIdentifier = sym t.0 ∙ e in cc)
      parens_alone by_index n = no_index_here (λ y l e w. let z : LParen ≡ LBrack = sym (stands_there m.at t.0 refl y l).0 ∙ e in cc)

      pub optional_call : {q : Parser} {id left : NodeId} {start : ℕ} → WithArguments node.CallExpression true start left mid q id → Linked text f start left p q id
      optional_call y = record { form = by_call; optional = true; sign = s; only = one_link by_call parens_alone; behind = y.behind; children = y.children; part = behind_sign (y.arguments text f m.at); made = y.made }

      pub no_optional_call : (q : Parser) (e : Stop) → Stops mid q e (Fails rule (Lex text) (plain full) end (args f) mid.prev_token_end) → Stops p q e ((c : LinkForm) (o : Bool) → NoLink text f p.prev_token_end c o)
      no_optional_call q e z = no_links q e by_call parens_alone z

    module _ (t : StandsHere mid LBrack true) where
      brackets_alone : (d : LinkForm) → (d ≡ by_index → ⊥) → NotBehind d
      brackets_alone by_index n = absurd (n refl)
      brackets_alone by_name n = no_word {k = LBrack} refl m.at t
      brackets_alone by_private n = no_private_name m.at (λ e. let z : LBrack ≡ PrivateIdentifier = sym t.0 ∙ e in cc)
      brackets_alone by_call n = no_arguments_here f (λ y l e w. let z : LBrack ≡ LParen = sym (stands_there m.at t.0 refl y l).0 ∙ e in cc)

      pub optional_index : {q : Parser} {id left : NodeId} {start : ℕ} → WithIndex true start left mid q id → Linked text f start left p q id
      optional_index y = record { form = by_index; optional = true; sign = s; only = one_link by_index brackets_alone; behind = y.behind; children = y.children; part = behind_sign (y.part text f m.at); made = y.made }

      pub no_optional_index : (q : Parser) (e : Stop) → Stops mid q e (Fails rule (Lex text) (plain full) end (indexed f) mid.prev_token_end) → Stops p q e ((c : LinkForm) (o : Bool) → NoLink text f p.prev_token_end c o)
      no_optional_index q e z = no_links q e by_index brackets_alone z

    module _ (t : StandsHere mid LParen false) (u : StandsHere mid LBrack false) where
      -- one of the two names at the most stands there
      name_alone : (private : Bool) → Underived text (member_name (not private) f) mid.prev_token_end → (d : LinkForm) → (d ≡ named_form private → ⊥) → NotBehind d
      name_alone true o by_private n = absurd (n refl)
      name_alone true o by_name n = o
      name_alone false o by_name n = absurd (n refl)
      name_alone false o by_private n = o
      name_alone private o by_call n = no_arguments_here f (stands_not m.at refl t)
      name_alone private o by_index n = no_index_here (stands_not m.at refl u)

      behind_named : (private : Bool) {v : Parser} {left name : NodeId} → Numbered text f (member_name private f) mid v name → Partway text f (chained f (named_form private) true).part nothing p v (Some left ∷ []) (Some left ∷ Some name ∷ [])
      behind_named true x = behind_sign (part_name (λ ts y e. (refl, refl)) x)
      behind_named false x = behind_sign (part_name (λ ts y e. (refl, refl)) x)

      optional_name : {q : Parser} {id left : NodeId} {start : ℕ} → WithName true start left mid q id → Linked text f start left p q id
      optional_name y = record { form = named_form y.private; optional = true; sign = s; only = one_link (named_form y.private) (name_alone y.private (y.other text f m.at)); behind = y.behind; children = _; part = behind_named y.private (y.read text f m.at); made = y.made }

      pub no_optional_name : (q : Parser) (e : Stop) → Stops mid q e (NoNames text f mid.prev_token_end) → Stops p q e ((c : LinkForm) (o : Bool) → NoLink text f p.prev_token_end c o)
      no_optional_name q e z = stops_behind q e m.same (λ g. grown_then m.kept g) (λ n. none_of_links by_name true (one_link by_name (name_alone false (n true))) (lacks by_name (n false))) z

      pub optional_name_outcome : (start : ℕ) (left : NodeId) (q : Parser) (r : Result NodeId Stop) → MakesWithName true start left mid q r → LinkOutcome text f start left p q r
      optional_name_outcome start left q (Ok id) y = optional_name y
      optional_name_outcome start left q (Err e) y = no_optional_name q e (y text f m.at)

  -- behind `.`
  module _ (s : StandsHere p Dot true) {mid : Parser} (m : Moved text f p mid) where
    lacks_name : (private : Bool) → Underived text (member_name private f) mid.prev_token_end → NoLink text f p.prev_token_end (named_form private) false
    lacks_name true n = skips a Dot s.0 s.1 refl m ▹✗ weaken_fails n (λ ts y e. (refl, refl))
    lacks_name false n = skips a Dot s.0 s.1 refl m ▹✗ weaken_fails n (λ ts y e. (refl, refl))

    one_name : (private : Bool) → Underived text (member_name (not private) f) mid.prev_token_end → OnlyLink text f p.prev_token_end (named_form private) false
    one_name private n = dot_only f private (lacks_name (not private) n) (stands_there a s.0 refl)

    dot_named : (private : Bool) {v : Parser} {left name : NodeId} → Numbered text f (member_name private f) mid v name → Partway text f (chained f (named_form private) false).part nothing p v (Some left ∷ []) (Some left ∷ Some name ∷ [])
    dot_named true x = parts (part_sign Dot a s.0 s.1 refl m) (part_name (λ ts y e. (refl, refl)) x)
    dot_named false x = parts (part_sign Dot a s.0 s.1 refl m) (part_name (λ ts y e. (refl, refl)) x)

    named_sign : (private : Bool) → StandsHere p (sign_of (named_form private) false) true
    named_sign true = s
    named_sign false = s

    name_link : {q : Parser} {id left : NodeId} {start : ℕ} → WithName false start left mid q id → Linked text f start left p q id
    name_link y = record { form = named_form y.private; optional = false; sign = named_sign y.private; only = one_name y.private (y.other text f m.at); behind = y.behind; children = _; part = dot_named y.private (y.read text f m.at); made = y.made }

    no_name_link : (q : Parser) (e : Stop) → Stops mid q e (NoNames text f mid.prev_token_end) → Stops p q e ((c : LinkForm) (o : Bool) → NoLink text f p.prev_token_end c o)
    no_name_link q e z = stops_behind q e m.same (λ g. grown_then m.kept g) (λ n. none_of_links by_name false (one_name false (n true)) (lacks_name false (n false))) z

    pub name_outcome : (start : ℕ) (left : NodeId) (q : Parser) (r : Result NodeId Stop) → MakesWithName false start left mid q r → LinkOutcome text f start left p q r
    name_outcome start left q (Ok id) y = name_link y
    name_outcome start left q (Err e) y = no_name_link q e (y text f m.at)

-- ---- what the loops keep

pub record LinkLoop (start : ℕ) (p q : Parser) (G : Type 0) : Type 0 where
  pub at : Standing q
  pub before : start ≤ q.prev_token_end
  pub later : room q ≤ room p
  pub goes : G

abbrev pub MemberGoes : NodeId → ℕ → Parser → Parser → NodeId → Type 0
MemberGoes member start p q left = (text : List ℕ) (f : Flags) (o : Parser) → start ≡ o.token.span.start → Membered text f o p member → Membered text f o q left

abbrev pub CallGoes : NodeId → ℕ → Parser → Parser → NodeId → Type 0
CallGoes call start p q left = (text : List ℕ) (f : Flags) (o : Parser) → start ≡ o.token.span.start → Called text f o p call → Called text f o q left

abbrev pub ChainGoes : NodeId → ℕ → Parser → Parser → NodeId → Type 0
ChainGoes callee start p q left = (text : List ℕ) (f : Flags) (o : Parser) → At text f o → start ≡ o.token.span.start → CalleeTaken text f o p callee → Chained text f o q left

module _ {text : List ℕ} {f : Flags} {start : ℕ} {left id : NodeId} {p w : Parser} (a : At text f p) (y : Linked text f start left p w id) where
  link_place : w.prev_token_end ≡ y.behind.prev_token_end
  link_place = ap (λ (z : Parser). z.prev_token_end) y.made.stays

  link_behind : p.prev_token_end < w.prev_token_end
  link_behind = let b = a.behind in let c = y.part.further in let d = link_place in omega arith

  link_at : At text f w
  link_at = subst (λ (z : Parser). At text f z) (sym y.made.stays) (beside_nodes w.nodes y.part.at)

  pub link_less : room w < room p
  link_less = let b = link_behind in let c = link_at.at.between.0 in let d = link_at.text_is in let e = a.text_is in omega (arith, ap length d, ap length e)

pub next_loop : {start : ℕ} {p q w : Parser} {left id : NodeId} {G H : Type 0} → LinkLoop start p q G → ReadsLink start left q w (Ok id) → H → LinkLoop start p w H
next_loop l y h =
    let x = y _ _ l.at in
    record { at = standing (link_at l.at x); before = let a = l.before in let b = link_behind l.at x in omega arith; later = let a = l.later in let b = link_less l.at x in omega arith; goes = h }

-- the same of a tagged template
module _ {text : List ℕ} {f : Flags} {start : ℕ} {left id : NodeId} {p w : Parser} (a : At text f p) (y : Templated text f start left p w id) where
  tagged_at : At text f w
  tagged_at = subst (λ (z : Parser). At text f z) (sym y.made.stays) (beside_nodes w.nodes y.taken.answer.at)

  tagged_behind : p.prev_token_end < w.prev_token_end
  tagged_behind = let b = a.behind in let c = y.taken.answer.further in let d = ap (λ (z : Parser). z.prev_token_end) y.made.stays in omega arith

  pub tagged_less : room w < room p
  tagged_less = let b = tagged_behind in let c = tagged_at.at.between.0 in let d = tagged_at.text_is in let e = a.text_is in omega (arith, ap length d, ap length e)

pub next_tagged : {start : ℕ} {p q w : Parser} {left id : NodeId} {G H : Type 0} → LinkLoop start p q G → ReadsTagged start left q w (Ok id) → H → LinkLoop start p w H
next_tagged l y h =
    let x = y _ _ l.at in
    record { at = standing (tagged_at l.at x); before = let a = l.before in let b = tagged_behind l.at x in omega arith; later = let a = l.later in let b = tagged_less l.at x in omega arith; goes = h }

-- the same of a link of a chain
module _ {text : List ℕ} {f : Flags} {start : ℕ} {left id : NodeId} {p w : Parser} (a : At text f p) where
  chain_at : Linked text f start left p w id ⊎ Tagged text f start left p w id → At text f w
  chain_at (inl y) = link_at a y
  chain_at (inr y) = subst (λ (z : Parser). At text f z) (sym y.made.stays) (beside_nodes w.nodes y.at)

  chain_behind : Linked text f start left p w id ⊎ Tagged text f start left p w id → p.prev_token_end < w.prev_token_end
  chain_behind (inl y) = link_behind a y
  chain_behind (inr y) = let b = a.behind in let c = y.further in let d = ap (λ (z : Parser). z.prev_token_end) y.made.stays in omega arith

  pub chain_less : Linked text f start left p w id ⊎ Tagged text f start left p w id → room w < room p
  chain_less y = let b = chain_behind y in let c = (chain_at y).at.between.0 in let d = (chain_at y).text_is in let e = a.text_is in omega (arith, ap length d, ap length e)

pub next_chain : {start : ℕ} {p q w : Parser} {left id : NodeId} {G H : Type 0} → LinkLoop start p q G → ReadsChainLink start left q w (Ok id) → H → LinkLoop start p w H
next_chain l y h =
    let x = y _ _ l.at in
    record { at = standing (chain_at l.at x); before = let a = l.before in let b = chain_behind l.at x in omega arith; later = let a = l.later in let b = chain_less l.at x in omega arith; goes = h }

pub first_loop : {start : ℕ} {p : Parser} {G : Type 0} → Standing p → start ≤ p.prev_token_end → G → LinkLoop start p p G
first_loop a b g = record { at = a; before = b; later = omega arith; goes = g }

pub paren_here : {p : Parser} → StandsHere p LParen true → LinkHere p base.Chain true
paren_here s = a_link by_call false s refl

-- a link that stands here goes on with a call
pub call_sign : {p : Parser} → StandsHere p LParen true → LinkHere p base.Call true
call_sign s = a_link by_call false s refl

pub member_too : {p : Parser} → LinkHere p base.Member true → LinkHere p base.Call true
member_too (a_link by_name false s e) = a_link by_name false s refl
member_too (a_link by_private false s e) = a_link by_private false s refl
member_too (a_link by_index false s e) = a_link by_index false s refl
member_too (a_link by_call o s e) = absurd (false≢true e)
member_too (a_link by_name true s e) = absurd (false≢true e)
member_too (a_link by_private true s e) = absurd (false≢true e)
member_too (a_link by_index true s e) = absurd (false≢true e)

-- neither a template nor `?.`
pub call_left : {p : Parser} → GoesOn base.Chain p true → one_of_kinds heads p.token.kind ≡ false → StandsHere p QuestionDot false → LinkHere p base.Call true
call_left (inr h) n m = absurd (false≢true (sym n ∙ h))
call_left (inl (a_link c true s e)) n m = absurd (m s.0 s.1)
call_left (inl (a_link c false s e)) n m = a_link c false s refl

pub goes_on_so : (p : Parser) (h : LinkBase) {b r : Bool} → r ≡ b → GoesOn h p r → GoesOn h p b
goes_on_so p h e s = subst (λ (c : Bool). GoesOn h p c) e s

pub goes_on : (p : Parser) (h : LinkBase) (b : Bool) → one_of_kinds heads p.token.kind ≡ false → LinkHere p h b → GoesOn h p b
goes_on p h true n s = inl s
goes_on p h false n s = (s, n)

-- no template: a link
pub link_left : {p : Parser} (h : LinkBase) → GoesOn h p true → one_of_kinds heads p.token.kind ≡ false → LinkHere p h true
link_left h (inl s) n = s
link_left h (inr k) n = absurd (false≢true (sym n ∙ k))

-- a link of a chain is one, or a template
pub link_is : (text : List ℕ) (f : Flags) (start : ℕ) (left : NodeId) (p q : Parser) (r : Result NodeId Stop) → LinkOutcome text f start left p q r → ChainLinkOutcome text f start left p q r
link_is text f start left p q (Ok id) y = inl y
link_is text f start left p q (Err e) y = y

pub tag_is : (text : List ℕ) (f : Flags) (start : ℕ) (left : NodeId) (p q : Parser) (r : Result NodeId Stop) → TagOutcome text f start left p q r → ChainLinkOutcome text f start left p q r
tag_is text f start left p q (Ok id) y = inr y
tag_is text f start left p q (Err e) y = y

pub stands_so : (p : Parser) (k : Kind) {b r : Bool} → r ≡ b → StandsHere p k r → StandsHere p k b
stands_so p k e s = subst (λ (c : Bool). StandsHere p k c) e s

pub here_so : (p : Parser) (h : LinkBase) {b r : Bool} → r ≡ b → LinkHere p h r → LinkHere p h b
here_so p h e s = subst (λ (c : Bool). LinkHere p h c) e s

-- neither a parenthesis nor a bracket: a dot
pub dot_left : {p : Parser} → LinkHere p base.Call true → StandsHere p LParen false → StandsHere p LBrack false → StandsHere p Dot true
dot_left (a_link c true s e) n i = absurd (false≢true e)
dot_left (a_link by_call false s e) n i = absurd (n s.0 s.1)
dot_left (a_link by_index false s e) n i = absurd (i s.0 s.1)
dot_left (a_link by_name false s e) n i = s
dot_left (a_link by_private false s e) n i = s

pub start_loop : {start : ℕ} {p : Parser} → Standing p → start ≤ p.prev_token_end → LinkLoop start p p (Unit {0})
start_loop a b = record { at = a; before = b; later = omega arith; goes = tt }

pub call_outcome : {text : List ℕ} {f : Flags} (start : ℕ) (left : NodeId) {p : Parser} (q : Parser) (r : Result NodeId Stop) → At text f p → StandsHere p LParen true → MakesWithArguments node.CallExpression false start left p q r → LinkOutcome text f start left p q r
call_outcome start left q (Ok id) a s y = call_link a s y
call_outcome {text} {f} start left q (Err e) a s y = no_call_link a q e s (y text f a)

pub index_outcome : {text : List ℕ} {f : Flags} (start : ℕ) (left : NodeId) {p : Parser} (q : Parser) (r : Result NodeId Stop) → At text f p → StandsHere p LBrack true → MakesWithIndex false start left p q r → LinkOutcome text f start left p q r
index_outcome start left q (Ok id) a s y = index_link a s y
index_outcome {text} {f} start left q (Err e) a s y = no_index_link a q e s (y text f a)

pub optional_outcome : {text : List ℕ} {f : Flags} (start : ℕ) (left : NodeId) {p mid : Parser} (q : Parser) (r : Result NodeId Stop) → At text f p → StandsHere p QuestionDot true → Moved text f p mid → StandsHere mid LParen true → MakesWithArguments node.CallExpression true start left mid q r → LinkOutcome text f start left p q r
optional_outcome start left q (Ok id) a s m t y = optional_call a s m t y
optional_outcome {text} {f} start left q (Err e) a s m t y = no_optional_call a s m t q e (y text f m.at)

pub optional_index_outcome : {text : List ℕ} {f : Flags} (start : ℕ) (left : NodeId) {p mid : Parser} (q : Parser) (r : Result NodeId Stop) → At text f p → StandsHere p QuestionDot true → Moved text f p mid → StandsHere mid LBrack true → MakesWithIndex true start left mid q r → LinkOutcome text f start left p q r
optional_index_outcome start left q (Ok id) a s m t y = optional_index a s m t y
optional_index_outcome {text} {f} start left q (Err e) a s m t y = no_optional_index a s m t q e (y text f m.at)

-- what was said one level deeper
pub entered_stops : {k : ℕ} {text : List ℕ} {f : Flags} {p q e : Parser} (r : Parser) (i : Stop) → (a : At text f p) → p.token.kind ≡ New → p.token.escaped ≡ false → (m : Moved text f p q) → StandsHere q Dot false → Enters k q e → Stops e r i (NoMember text f e.prev_token_end) → Stops p r i (NoMember text f p.prev_token_end)
entered_stops {text = text} {f = f} {p = p} {q = q} {e = e} r i a k n m t h s = stops_behind r i m.same (λ g. grown_then m.kept g) (λ z. new_fails a k n m t z) (stops_in r i m.at.at h (λ z. subst (λ (v : ℕ). NoMember text f v) (ap (λ (z : Parser). z.prev_token_end) h.is) z) s)

-- whether a link stands here, by the signs
pub name_here : {p : Parser} (b : LinkBase) → StandsHere p Dot true → LinkHere p b true
name_here base.Member s = a_link by_name false s refl
name_here base.Call s = a_link by_name false s refl
name_here base.Chain s = a_link by_name false s refl

pub bracket_here : {p : Parser} (b : LinkBase) → StandsHere p LBrack true → LinkHere p b true
bracket_here base.Member s = a_link by_index false s refl
bracket_here base.Call s = a_link by_index false s refl
bracket_here base.Chain s = a_link by_index false s refl

module _ {p : Parser} (d : StandsHere p Dot false) (i : StandsHere p LBrack false) where
  pub no_access_here : LinkHere p base.Member false
  no_access_here = no_link (λ c o e. go c o e)
    where
      go : (c : LinkForm) (o : Bool) → admits base.Member c o ≡ true → StandsHere p (sign_of c o) false
      go by_name false e = d
      go by_private false e = d
      go by_index false e = i
      go by_call o e = absurd (false≢true e)
      go by_name true e = absurd (false≢true e)
      go by_private true e = absurd (false≢true e)
      go by_index true e = absurd (false≢true e)

  pub call_or_none : (b : Bool) → StandsHere p LParen b → LinkHere p base.Call b
  call_or_none true s = a_link by_call false s refl
  call_or_none false s = no_link (λ c o e. go c o e)
    where
      go : (c : LinkForm) (o : Bool) → admits base.Call c o ≡ true → StandsHere p (sign_of c o) false
      go by_name false e = d
      go by_private false e = d
      go by_index false e = i
      go by_call false e = s
      go c true e = absurd (false≢true e)

  pub chain_or_none : (b : Bool) → StandsHere p LParen false → StandsHere p QuestionDot b → LinkHere p base.Chain b
  chain_or_none true s z = a_link by_name true z refl
  chain_or_none false s z = no_link (λ c o e. go c o)
    where
      go : (c : LinkForm) (o : Bool) → StandsHere p (sign_of c o) false
      go by_name false = d
      go by_private false = d
      go by_index false = i
      go by_call false = s
      go by_name true = z
      go by_private true = z
      go by_index true = z
      go by_call true = z

pub begun_at : {k : NodeKindMade} {b : Bool} {from start : ℕ} {left id : NodeId} {p q : Parser} → from ≡ start → WithArguments k b from left p q id → WithArguments k b start left p q id
begun_at {k} {b} {left = left} {id} {p} {q} e y = subst (λ (v : ℕ). WithArguments k b v left p q id) e y

pub taken_room : {text : List ℕ} {f : Flags} {C : Label → Slots → (Lexemes → Lexemes) → ℕ → Type 0} {A : Type 0} {o p : Parser} {id : NodeId} → At text f o → Taken text f o p id C A → room p ≤ room o
taken_room a x = later_room (let j = x.further in let d = a.behind in omega arith) x.same

-- where a sign stands, what is told of it has its mark
pub kind_marked : (w : Kind) → same_kind RAngle w ≡ false → is_last w ≡ false → {text : List ℕ} {f : Flags} {p : Parser} (k : DiagnosticKind) (s : Span) → ((s : Span) → LexemeAt (of_kinds (w ∷ [])) (goal p) p.text s → StandsAt k (goal p) p.text s None None) → At text f p → StandsHere p w true → s ≡ p.token.span → Mark (goal p) p.text (record { kind = k; span = s; first = None; second = None })
kind_marked w u n {text} {f} {p} k s t a h e =
    let y = found a (uncut a (ap (same_kind RAngle) h.0 ∙ u)) (ap is_last h.0 ∙ n) in
    let i : one_of_kinds (w ∷ []) w ≡ true = rw (same_self w) refl in
    let m : Mark (goal p) p.text (record { kind = k; span = p.token.span; first = None; second = None }) = record {
      ordered = a.at.lies.ordered;
      within = a.at.lies.ends_whole.0;
      begins_between = a.at.lies.starts_whole;
      ends_between = a.at.lies.ends_whole;
      stands = t p.token.span (record { lexeme = y.0; of_text = a_lexeme a.at.reached (subst (λ (t : List ℕ). NextLexeme all_faults t p.prev_token_end y.0) (sym a.text_is) y.1); is = (sym y.2.start, sym y.2.end); passes = and_from (one_of_kinds (w ∷ []) y.0.kind) (not y.0.escaped) (subst (λ (v : Kind). one_of_kinds (w ∷ []) v ≡ true) (sym (sym y.2.kind ∙ h.0)) i) (ap not (sym y.2.escaped ∙ h.1)) });
    } in
    subst (λ (v : Span). Mark (goal p) p.text (record { kind = k; span = v; first = None; second = None })) (sym e) m

-- so what is told of a `?.` that can't stand behind `new`
pub sign_marked : {text : List ℕ} {f : Flags} {p : Parser} (k : DiagnosticKind) (s : Span) → ((s : Span) → LexemeAt (of_kinds (QuestionDot ∷ [])) (goal p) p.text s → StandsAt k (goal p) p.text s None None) → At text f p → StandsHere p QuestionDot true → s ≡ p.token.span → Mark (goal p) p.text (record { kind = k; span = s; first = None; second = None })
sign_marked k s t a h e = kind_marked QuestionDot refl refl k s t a h e

-- and of a `<` where an operand is due
pub angle_marked : {text : List ℕ} {f : Flags} {p : Parser} → At text f p → p.token.kind ≡ LAngle → Mark (goal p) p.text (unrelated_at fault.JsxInNonJsx p.token.span)
unfolding words
angle_marked {p = p} a k = kind_marked LAngle refl refl fault.JsxInNonJsx p.token.span (λ s x. (x, (refl, refl))) a (k, plain_sign LAngle a k refl refl refl) refl

-- and so it is behind it
pub link_marked : {text : List ℕ} {f : Flags} {p q : Parser} (s : Span) → At text f p → StandsHere p QuestionDot true → s ≡ p.token.span → Moved text f p q → Mark (goal q) q.text (no_link_behind s)
link_marked {p = p} {q = q} s a h e m = subst (λ (t : List ℕ). Mark (goal q) t (no_link_behind s)) (sym m.same.follows.text) (subst (λ (v : SourceType). Mark (goal_of v) p.text (no_link_behind s)) (sym m.same.follows.source_type) (sign_marked fault.IdentifierExpectedAfterQuestionDot s (λ s x. (x, (refl, refl))) a h e))

pub chain_told : (p q : Parser) (e : Stop) {s : Span} → s ≡ p.token.span → GivesUp (λ d. d ≡ record { kind = fault.InvalidNewOptionalChain; span = s; first = None; second = None }) p q e → GivesUp (TellsChain p.token.span) p q e
chain_told p q Fatal e (d, h, k) = (d, (ap (λ (z : Diagnostic). z.kind) h, ap (λ (z : Diagnostic). z.span) h ∙ e), k)
chain_told p q NoMemory e h = h
