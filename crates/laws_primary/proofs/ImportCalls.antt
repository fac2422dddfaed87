-- ImportCall (ECMA-262, 13.3.10): its arguments from left to right, and the call that they make.
use Rattle.std.proofs.Common.{ℕ, ◌≡◌, ◌≤◌, ◌<◌, max, List, [], ◌∷◌, ◌++◌, length, Option, Some, None, true, false, refl, sym, ap, subst, arith}
use Rattle.std.specs.Prelude.{Result, Ok, Err, MatchResult}
use Rattle.js_base.specs.declared.kind.Kind.TheVariants.{Comma, Dot3, Import, LParen, RParen}
use Rattle.js_base.specs.declared.span.Span.{Span}
use Rattle.js_grammar.specs.Trees.{Label, Slots, end, hole, append}
use Rattle.js_grammar.specs.FirstSets.{first as first_of}
use Rattle.js_grammar.specs.Follow.{surest}
use Rattle.js_grammar.specs.Grammar.{Lexemes, Takes, alt, empty_slot, is, is_left, is_nothing, is_right, is_seq, next, nothing, seq, such}
use Rattle.js_grammar.specs.Parsing.{Fails, Goes, Test, always, full, plain, still}
use Rattle.js_grammar.specs.Productions.{Assignment, Flags, G, Symbol, at, plus_in, tok}
use Rattle.js_grammar.specs.Table.{rule}
use Rattle.js_grammar.proofs.Looks.{apart, covers, not_both}
use Rattle.js_grammar.proofs.Calculus.{◌▹◌, ◌▹✗◌, fails_alt, left, part_fails, reads_empty_slot, right, same, then_by}
use Rattle.js_grammar.proofs.First.{starts}
use Rattle.js_grammar.proofs.FirstClaims.{firsts}
use Rattle.js_grammar.proofs.FirstRules.{by_first, fails_here}
use Rattle.js_grammar.proofs.FollowLaws.{surely}
use Rattle.js_grammar.proofs.Frame.{append_assoc}
use Rattle.laws_shared.specs.js_tree.declared.id.NodeId.{NodeId}
use Rattle.laws_shared.specs.js_tree.declared.kind.NodeKind.TheVariants as kind
use Rattle.laws_shared.specs.js_tree.declared.op.Op.TheVariants as op
use Rattle.laws_shared.specs.js_tree.Nodes.{Node}
use Rattle.laws_shared.specs.js_tree.Holding.{HoldsAll, Keeps}
use Rattle.laws_shared.proofs.js_tree.HoldingLemmas.{HoldsAll-hole, HoldsAll-none, Keeps-made, Keeps-trans}
use Rattle.laws_shared.specs.js_cursor.Moves.{GivesUp, KeepsDiagnostic, OnlyMemory}
use Rattle.laws_shared.specs.js_cursor.Parsers.{Parser}
use Rattle.laws_shared.specs.js_cursor.declared.stop.Stop.{Stop}
use Rattle.laws_shared.specs.Answers.{Answers, Numbered, Stops, Stretch, Underived}
use Rattle.laws_shared.specs.Arguments.{Partway}
use Rattle.laws_shared.specs.Classes.{EndsParse}
use Rattle.laws_shared.specs.Lexemes.{Lex}
use Rattle.laws_shared.specs.Moves.{MadeHere, Moved, Moves, plain_label}
use Rattle.laws_shared.specs.Stands.{StandsHere}
use Rattle.laws_shared.specs.States.{At, Same}
use Rattle.laws_shared.proofs.Giving.{gives_up, memory_stops}
use Rattle.laws_shared.proofs.Here.{begins_here}
use Rattle.laws_shared.proofs.MadeNodes.{made_lies, node_held}
use Rattle.laws_shared.proofs.Moving.{beside_nodes, same_both, same_with, stops_behind, stops_so}
use Rattle.laws_shared.proofs.Parts.{part_called, part_from, part_last, part_path_fails, part_sign, parts}
use Rattle.laws_shared.proofs.Paths.{skips, walked_both, walked_one}
use Rattle.laws_shared.proofs.Signs.{AllAre, NoneIs, none_seen, stands_not, stands_there}
use Rattle.laws_shared.proofs.Stretches.{stretches}
use Rattle.laws_shared.proofs.Verdicts.{behind_none, grown_then, verdict_of}
use Rattle.laws_shared.proofs.Verdicts.{after as grown_behind}
use Rattle.laws_primary.specs.Imports.{BehindWord, CalledImport, ClosesImport, EndsImport, MakesImport, ReadsOptions, behind_new_at, import_end, import_label, import_options}
use Rattle.laws_primary.specs.Members.{CallSoFar, NoImport, NoLhs, NoMember, import_arguments}
use Rattle.laws_primary.proofs.ArgumentLists.{is_one, is_that}
use Rattle.laws_primary.proofs.ImportWords.{behind_later, called_word}
use Rattle.laws_primary.proofs.Links.{import_begin, member_before, no_lhs_here, no_new_by}
use Rattle.laws_primary.proofs.Members.{Called, Membered}
use Rattle.laws_primary.proofs.Supers.{told_taken}

-- ---- the arguments from left to right

abbrev argument : Flags → G
argument f = such (at Assignment (plus_in f)) always

abbrev in_order : Flags → G
in_order f = seq (tok LParen) (seq (argument f) (import_options f))

module _ (f : Flags) where
  ends_so : {ks ts us vs : Slots} {i j k : ℕ} {ls mid rest : Lexemes} → Takes rule (alt (tok Comma) nothing) ks ts i ls us j mid → Takes rule (tok RParen) ks us j mid vs k rest → Takes rule import_end ks ts i ls vs k rest
  ends_so (is_left c) r = is_left (is_seq c r)
  ends_so (is_right is_nothing) r = is_right r

  goes_on_so : {ks ts us ws vs : Slots} {i j l k : ℕ} {ls mid more rest : Lexemes} → Takes rule (alt (seq (tok Comma) (argument f)) empty_slot) ks ts i ls us j mid → Takes rule (alt (tok Comma) nothing) ks us j mid ws l more → Takes rule (tok RParen) ks ws l more vs k rest → Takes rule (import_options f) ks ts i ls vs k rest
  goes_on_so (is_left (is_seq c a)) o r = is_left (is_seq c (is_seq a (ends_so o r)))
  goes_on_so (is_right e) o r = is_right (is_seq e (ends_so o r))

  to_order : {ks ts us : Slots} {i j : ℕ} {ls rest : Lexemes} → Takes rule (import_arguments f) ks ts i ls us j rest → Takes rule (in_order f) ks ts i ls us j rest
  to_order (is_seq l (is_seq (is_seq a (is_seq s o)) r)) = is_seq l (is_seq a (goes_on_so s o r))

  from_order : {ks ts us : Slots} {i j : ℕ} {ls rest : Lexemes} → Takes rule (in_order f) ks ts i ls us j rest → Takes rule (import_arguments f) ks ts i ls us j rest
  from_order (is_seq l (is_seq a (is_left (is_seq c (is_seq b (is_left (is_seq d r))))))) = is_seq l (is_seq (is_seq a (is_seq (is_left (is_seq c b)) (is_left d))) r)
  from_order (is_seq l (is_seq a (is_left (is_seq c (is_seq b (is_right r)))))) = is_seq l (is_seq (is_seq a (is_seq (is_left (is_seq c b)) (is_right is_nothing))) r)
  from_order (is_seq l (is_seq a (is_right (is_seq e (is_left (is_seq d r)))))) = is_seq l (is_seq (is_seq a (is_seq (is_right e) (is_left d))) r)
  from_order (is_seq l (is_seq a (is_right (is_seq e (is_right r))))) = is_seq l (is_seq (is_seq a (is_seq (is_right e) (is_right is_nothing))) r)

  ordered : {L : ℕ → _} {X : Test} {ks : Slots} {s : ℕ} → Goes rule L X ks (import_arguments f) s (in_order f) s (λ us. us) (still 0)
  ordered = same (λ ts us i j ls rest d. to_order d) (λ ts us i j ls rest d. from_order d)

-- ---- their parts

-- no argument begins with a closing parenthesis
argument_begins : (f : Flags) → apart (first_of (at Assignment (plus_in f))) (is RParen) ≡ true
unfolding apart
argument_begins f = refl

never_spread : (f : Flags) → apart (first_of (at Assignment (plus_in f))) (is Dot3) ≡ true
unfolding apart
never_spread f = refl

-- an empty slot before what is read
module _ {text : List ℕ} {f : Flags} {p q : Parser} {g g' : G} {ids js : List (Option NodeId)} where
  part_hole : Goes rule (Lex text) (plain full) end g p.prev_token_end g' p.prev_token_end (λ us. hole us) (still 0) → Partway text f g' nothing p q (ids ++ None ∷ []) js → Partway text f g nothing p q ids js
  part_hole c x = record {
    at = x.at;
    same = x.same;
    further = x.further;
    slots = λ us. hole (x.slots us);
    puts = λ us. ap hole (x.puts us);
    pass = x.pass;
    walked = x.walked;
    verdict = verdict_of x.verdict (λ y. record { reach = max 0 y.reach; near = let i = y.near in omega arith; goes = c ▹ y.goes }) (λ n. c ▹✗ n);
    holds = λ lo us h. subst (λ (vs : Slots). HoldsAll q.nodes lo (length q.nodes) js vs) (append_assoc us (hole end) (x.slots end)) (x.holds lo (append us (hole end)) (HoldsAll-hole h));
    keeps = x.keeps;
  }

module _ {text : List ℕ} (f : Flags) {s : ℕ} where
  empty_first : Goes rule (Lex text) (plain full) end (seq empty_slot import_end) s import_end s (λ us. hole us) (still 0)
  empty_first = then_by {X' = plain full} reads_empty_slot (record { admits = λ ts us vs j k ls mid rest d d' h. (refl, refl) })

  no_argument : AllAre text s RParen → {b : G} → Fails rule (Lex text) (plain full) end (seq (argument f) b) s
  no_argument a = part_fails {X' = plain full} (fails_here firsts (λ y l h. not_both (first_of (at Assignment (plus_in f))) (is RParen) (argument_begins f) y.kind y.newline y.escaped h (is_that RParen y (a y l)))) (record { admits = λ ts us vs j k ls mid rest d d' h. (refl, refl) })

  no_comma : NoneIs text s Comma → Goes rule (Lex text) (plain full) end import_end s (tok RParen) s (λ us. us) (still 0)
  no_comma n = right (fails_here firsts (none_seen n))

  comma_end : NoneIs text s RParen → Goes rule (Lex text) (plain full) end import_end s (seq (tok Comma) (tok RParen)) s (λ us. us) (still 0)
  comma_end n = left (fails_here firsts (none_seen n))

  -- no second argument
  no_options : NoneIs text s Comma → Goes rule (Lex text) (plain full) end (import_options f) s (tok RParen) s (λ us. hole us) (still 0)
  no_options n = right (fails_here firsts (none_seen n)) ▹ (empty_first ▹ no_comma n)

  argument_fails : {b : G} → covers (starts first_of b full) (surest Assignment) ≡ true → Underived text (at Assignment (plus_in f)) s → Fails rule (Lex text) (plain full) end (seq (argument f) b) s
  argument_fails c n = part_fails n (by_first firsts (surely (at Assignment (plus_in f))) c)

-- ---- the end of the arguments

module _ {text : List ℕ} {f : Flags} {p : Parser} (a : At text f p) where
  closed : {q : Parser} {ids : List (Option NodeId)} → StandsHere p RParen true → Moved text f p q → Partway text f (tok RParen) nothing p q ids ids
  closed s m = part_last RParen a s.0 s.1 refl m

  no_comma_here : StandsHere p Comma false → NoneIs text p.prev_token_end Comma
  no_comma_here n = stands_not a refl n

  no_paren_here : StandsHere p Comma true → NoneIs text p.prev_token_end RParen
  no_paren_here s = is_one (stands_there a s.0 refl) (λ e. cc)

pub closing : (p q : Parser) (r : Result (Unit {0}) Stop) → StandsHere p RParen true → MatchResult r (λ x. Moves p q) OnlyMemory → ClosesImport p q r
closing p q (Ok x) s m = (s, m)
closing p q (Err e) s m = λ text f a. memory_stops p q e _ m

pub unclosed : (p q : Parser) (e : Stop) → StandsHere p RParen false → GivesUp EndsParse p q e → ClosesImport p q (Err e)
unclosed p q e n g = λ text f a. gives_up EndsParse p q e a g (λ d i. i) (fails_here firsts (none_seen (stands_not a refl n)))

pub end_at_once : (p q : Parser) (r : Result (Unit {0}) Stop) → StandsHere p Comma false → ClosesImport p q r → EndsImport p q r
end_at_once p q (Ok x) n c = λ text f a ids. part_from (no_comma f (no_comma_here a n)) (closed a c.0 (c.1 text f a))
end_at_once p q (Err e) n c = λ text f a. stops_so p q e (λ i. no_comma f (no_comma_here a n) ▹✗ i) (c text f a)

pub end_behind_comma : (p m q : Parser) (r : Result (Unit {0}) Stop) → StandsHere p Comma true → Moves p m → ClosesImport m q r → EndsImport p q r
end_behind_comma p m q (Ok x) s v c = λ text f a ids.
    let w = v text f a in
    parts (part_from (comma_end f (no_paren_here a s)) (part_sign Comma a s.0 s.1 refl w)) (closed w.at c.0 (c.1 text f w.at))
end_behind_comma p m q (Err e) s v c = λ text f a.
    let w = v text f a in
    stops_behind q e w.same (λ g. grown_then w.kept g) (λ i. comma_end f (no_paren_here a s) ▹✗ (skips a Comma s.0 s.1 refl w ▹✗ i)) (c text f w.at)

-- ---- behind the first argument

-- no comma
pub options_closed : (p q : Parser) → StandsHere p Comma false → StandsHere p RParen true → Moves p q → ReadsOptions p q (Ok None)
options_closed p q n s v = λ text f a ids. part_hole (no_options f (no_comma_here a n)) (closed a s (v text f a))

pub options_unclosed : (p q : Parser) (e : Stop) → StandsHere p Comma false → ClosesImport p q (Err e) → ReadsOptions p q (Err e)
options_unclosed p q e n c = λ text f a. stops_so p q e (λ i. no_options f (no_comma_here a n) ▹✗ i) (c text f a)

module _ {text : List ℕ} {f : Flags} {p m : Parser} (a : At text f p) (s : StandsHere p Comma true) (v : Moved text f p m) where
  -- the end behind it
  no_second : StandsHere m RParen true → Goes rule (Lex text) (plain full) end (import_options f) p.prev_token_end (seq (tok Comma) (tok RParen)) p.prev_token_end (λ us. hole us) (still 0)
  no_second t = right (skips a Comma s.0 s.1 refl v ▹✗ no_argument f (stands_there v.at t.0 refl)) ▹ (empty_first f ▹ comma_end f (no_paren_here a s))

  -- another argument
  second : StandsHere m RParen false → Goes rule (Lex text) (plain full) end (import_options f) p.prev_token_end (seq (tok Comma) (seq (argument f) import_end)) p.prev_token_end (λ us. us) (still 0)
  second t = left (empty_first f ▹✗ fails_alt (skips a Comma s.0 s.1 refl v ▹✗ fails_here firsts (none_seen (stands_not v.at refl t))) (fails_here firsts (none_seen (no_paren_here a s))))

  second_fails : StandsHere m RParen false → Fails rule (Lex text) (plain full) end (seq (argument f) import_end) m.prev_token_end → Fails rule (Lex text) (plain full) end (import_options f) p.prev_token_end
  second_fails t n = second t ▹✗ (skips a Comma s.0 s.1 refl v ▹✗ n)

pub options_ended : (p m q : Parser) → StandsHere p Comma true → Moves p m → StandsHere m RParen true → Moves m q → ReadsOptions p q (Ok None)
options_ended p m q s v t w = λ text f a ids.
    let x = v text f a in
    part_hole (no_second a s x t) (parts (part_sign Comma a s.0 s.1 refl x) (closed x.at t (w text f x.at)))

module _ (p m : Parser) (s : StandsHere p Comma true) (v : Moves p m) (t : StandsHere m RParen false) where
  pub option_stops : (q : Parser) (e : Stop) → Answers (λ f. at Assignment (plus_in f)) m q (Err e) → ReadsOptions p q (Err e)
  unfolding covers
  option_stops q e n = λ text f a.
      let x = v text f a in
      stops_behind q e x.same (λ g. grown_then x.kept g) (λ i. second_fails a s x t (argument_fails f refl i)) (n text f x.at)

  module _ (r : Parser) (id : NodeId) (n : Answers (λ f. at Assignment (plus_in f)) m r (Ok id)) where
    pub options_read : (q : Parser) → EndsImport r q (Ok tt) → ReadsOptions p q (Ok (Some id))
    unfolding covers
    options_read q c = λ text f a ids.
        let x = v text f a in
        let y = n text f x.at in
        parts (parts (part_from (second a s x t) (part_sign Comma a s.0 s.1 refl x)) (part_called ids y refl)) (c text f y.answer.at (ids ++ Some id ∷ []))

    pub options_stop : (q : Parser) (e : Stop) → EndsImport r q (Err e) → ReadsOptions p q (Err e)
    unfolding covers
    options_stop q e c = λ text f a.
        let x = v text f a in
        let y = n text f x.at in
        stops_behind q e (same_both x.same y.answer.same) (λ g. grown_then x.kept (grown_behind y.answer.verdict g)) (λ i. second_fails a s x t (part_path_fails (part_called [] y refl) i)) (c text f y.answer.at)

-- ---- the arguments

module _ (p m : Parser) (s : StandsHere p LParen true) (v : Moves p m) where
  arguments_fail : {text : List ℕ} {f : Flags} (a : At text f p) → Fails rule (Lex text) (plain full) end (seq (argument f) (import_options f)) m.prev_token_end → Fails rule (Lex text) (plain full) end (import_arguments f) p.prev_token_end
  arguments_fail {f = f} a n = ordered f ▹✗ (skips a LParen s.0 s.1 refl (v _ _ a) ▹✗ n)

  pub empty_stops : (start : ℕ) (q : Parser) (e : Stop) → StandsHere m RParen true → GivesUp EndsParse m q e → MakesImport start p q (Err e)
  empty_stops start q e t g = λ text f a.
      let x = v text f a in
      stops_behind q e x.same (λ h. grown_then x.kept h) (λ i. i) (gives_up EndsParse m q e x.at g (λ d i. i) (arguments_fail a (no_argument f (stands_there x.at t.0 refl))))

  pub specifier_stops : (start : ℕ) (q : Parser) (e : Stop) → Answers (λ f. at Assignment (plus_in f)) m q (Err e) → MakesImport start p q (Err e)
  unfolding covers
  specifier_stops start q e n = λ text f a.
      let x = v text f a in
      stops_behind q e x.same (λ h. grown_then x.kept h) (λ i. arguments_fail a (argument_fails f refl i)) (n text f x.at)

  module _ (r : Parser) (id : NodeId) (n : Answers (λ f. at Assignment (plus_in f)) m r (Ok id)) where
    pub rest_stops : (start : ℕ) (q : Parser) (e : Stop) → ReadsOptions r q (Err e) → MakesImport start p q (Err e)
    unfolding covers
    rest_stops start q e c = λ text f a.
        let x = v text f a in
        let y = n text f x.at in
        stops_behind q e (same_both x.same y.answer.same) (λ g. grown_then x.kept (grown_behind y.answer.verdict g)) (λ i. arguments_fail a (part_path_fails (part_called [] y refl) i)) (c text f y.answer.at)

    pub import_made : {start : ℕ} {z : Span} {o : Option NodeId} {q w : Parser} {node : NodeId} → ReadsOptions r q (Ok o) → z.start ≡ start → z.end ≡ q.prev_token_end → MadeHere (plain_label kind.ImportExpression op.None z) (Some id ∷ o ∷ []) q w node → CalledImport start p w node
    unfolding covers
    import_made {start} {z} {o} {q} {w} {node} c i j y = record {
      behind = q;
      children = Some id ∷ o ∷ [];
      part = λ text f a.
          let x = v text f a in
          let u = n text f x.at in
          part_from (ordered f) (parts (part_sign LParen a s.0 s.1 refl x) (parts (part_called [] u refl) (c text f u.answer.at (Some id ∷ []))));
      made = subst (λ (l : Label). MadeHere l (Some id ∷ o ∷ []) q w node) (rw (i, j) refl) y;
    }

-- ---- the call

module _ {text : List ℕ} {f : Flags} {o p : Parser} (a : At text f o) (s : StandsHere o Import true) (m : Moved text f o p) (t : StandsHere p LParen true) where
  none_member : NoMember text f o.prev_token_end
  none_member = called_word a s m t

  no_import : Fails rule (Lex text) (plain full) end (import_arguments f) p.prev_token_end → NoImport text f o.prev_token_end
  no_import n = skips a Import s.0 s.1 refl m ▹✗ n

  none_lhs : Fails rule (Lex text) (plain full) end (import_arguments f) p.prev_token_end → NoLhs text f o.prev_token_end
  none_lhs n = no_lhs_here f none_member (no_import n)

  pub import_stops : (w : Parser) (e : Stop) → Stops p w e (Fails rule (Lex text) (plain full) end (import_arguments f) p.prev_token_end) → Stops o w e (NoLhs text f o.prev_token_end)
  import_stops w e z = stops_behind w e m.same (λ g. grown_then m.kept g) (λ n. none_lhs n) z

  pub refused_stops : (w : Parser) (e : Stop) → Stops p w e (Fails rule (Lex text) (plain full) end (import_arguments f) p.prev_token_end) → Stops o w e (NoMember text f o.prev_token_end)
  refused_stops w e z = stops_behind w e m.same (λ g. grown_then m.kept g) (λ n. none_member) z

  module _ {start : ℕ} {w : Parser} {id : NodeId} (e : start ≡ o.token.span.start) (y : CalledImport start p w id) where
    part : Partway text f (import_arguments f) nothing p y.behind [] y.children
    part = y.part text f m.at

    forward : p.prev_token_end ≤ y.behind.prev_token_end
    forward = let b = m.at.behind in let c = part.further in omega arith

    made : MadeHere (import_label o.token.span.start y.behind.prev_token_end) y.children y.behind w id
    made = subst (λ (n : ℕ). MadeHere (import_label n y.behind.prev_token_end) y.children y.behind w id) e y.made

    further : o.token.span.start < y.behind.prev_token_end
    further = let b = m.further in let c = forward in omega arith

    call_so_far : {pass : Lexemes → Lexemes} → Stretch text (plain full) (import_arguments f) p.prev_token_end nothing y.behind.prev_token_end part.slots pass → CallSoFar text f o.prev_token_end o.token.span.start (import_label o.token.span.start y.behind.prev_token_end) (part.slots end) (λ ls. next m.lexeme (pass ls)) y.behind.prev_token_end
    call_so_far z = (import_begin f none_member.0 none_member.1.uncalled (stretches (record { reach = 0; near = omega arith; goes = skips a Import s.0 s.1 refl m }) z forward) (begins_here a), record { no_new = no_new_by f none_member.0 none_member.1.bare; no_member = member_before f none_member.0 })

    keeps : Keeps o.nodes y.behind.nodes
    keeps = subst (λ (ns : List Node). Keeps ns y.behind.nodes) m.nodes part.keeps

    same_on : Same o y.behind
    same_on = same_both m.same part.same

    pub import_called : Called text f o w id
    import_called = subst (λ (v : Parser). Called text f o v id) (sym made.stays) (record {
      at = beside_nodes w.nodes part.at;
      same = same_with w.nodes same_on (Keeps-trans keeps (Keeps-made made.made)) (made_lies same_on part.at.at (let b = further in omega arith) made refl);
      further = further;
      label = import_label o.token.span.start y.behind.prev_token_end;
      slots = part.slots end;
      row = refl;
      pass = λ ls. next m.lexeme (part.pass ls);
      walked = walked_both (walked_one m) part.walked;
      verdict = behind_none m.kept (verdict_of part.verdict (λ z. call_so_far z) (λ n. none_lhs n));
      holds = node_held made (part.holds (length o.nodes) end (HoldsAll-none p.nodes (length o.nodes) (length p.nodes) (let b = ap (λ (ns : List Node). length ns) m.nodes in omega arith)));
      keeps = Keeps-trans keeps (Keeps-made made.made);
    })

    -- behind `new`
    pub behind_call : BehindWord start p → BehindWord start w
    behind_call b =
        let c = behind_later b m.at part.at part.same part.walked (let i = m.at.behind in let j = part.further in omega arith) in
        subst (λ (v : Parser). BehindWord start v) (sym made.stays) (record { begins = c.begins; ends = c.ends; between = c.between; before = c.before })

    pub import_refused : {v : Parser} → KeepsDiagnostic (behind_new_at start w.prev_token_end) w v → Membered text f o v id
    import_refused k = told_taken import_called k refl none_member

-- ---- the word before them

pub behind_moved : {text : List ℕ} {f : Flags} {p q : Parser} {start : ℕ} → BehindWord start p → At text f p → Moved text f p q → BehindWord start q
behind_moved b a m = behind_later b a m.at m.same (walked_one m) (let i = a.behind in let j = m.further in omega arith)

pub behind_answer : {text : List ℕ} {f : Flags} {p m q : Parser} {n : Symbol} {id : NodeId} {start : ℕ} → BehindWord start p → At text f p → Moved text f p m → Numbered text f n m q id → BehindWord start q
behind_answer b a m x = behind_later b a x.answer.at (same_both m.same x.answer.same) (walked_both (walked_one m) x.answer.walked) (let i = a.behind in let j = m.further in let k = m.at.behind in let l = x.answer.further in omega arith)

-- behind the second one
pub behind_options : {text : List ℕ} {f : Flags} {p q : Parser} {o : Option NodeId} {start : ℕ} → BehindWord start p → At text f p → ReadsOptions p q (Ok o) → start ≤ q.prev_token_end
behind_options b a c = let i = b.before in let j = a.behind in let k = (c _ _ a []).further in omega arith

-- `...` stands where an argument is due
pub spread_stops : (p q : Parser) (e : Stop) → StandsHere p Dot3 true → GivesUp EndsParse p q e → Answers (λ f. at Assignment (plus_in f)) p q (Err e)
spread_stops p q e s g = λ text f a. gives_up EndsParse p q e a g (λ d i. i) (fails_here firsts (λ y l h. not_both (first_of (at Assignment (plus_in f))) (is Dot3) (never_spread f) y.kind y.newline y.escaped h (is_that Dot3 y (stands_there a s.0 refl y l))))
