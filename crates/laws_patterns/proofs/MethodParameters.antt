-- Parameters of methods (ECMA-262, 15.4): a getter's parentheses, a setter's with their one parameter.
use Rattle.std.proofs.Common.{ℕ, ◌≡◌, List, [], ◌∷◌, length, Option, Some, false, refl, sym, subst, arith}
use Rattle.std.specs.Prelude.{Result, Ok, Err}
use Rattle.std.proofs.lemmas.Bool.{and_parts}
use Rattle.js_base.specs.declared.kind.Kind.TheVariants.{Comma, LParen, RBrack, RCurly, RParen}
use Rattle.js_base.specs.declared.span.Span.{Span}
use Rattle.js_base.specs.Kinds.{same_kind, one_of_kinds}
use Rattle.js_base.proofs.KindLemmas.{kind_of_same}
use Rattle.js_grammar.specs.Trees.{Label, end, tree, no_op, formal_parameters}
use Rattle.js_grammar.specs.Grammar.{Look, nothing, ◌▸◌}
use Rattle.js_grammar.specs.Parsing.{plain, full, Fails}
use Rattle.js_grammar.specs.Productions.{G, Flags, at, mk, tok, Param, Params}
use Rattle.js_grammar.specs.Productions.{sym as symbol}
use Rattle.js_grammar.specs.Table.{rule, rule_of}
use Rattle.js_grammar.proofs.Looks.{covers, apart}
use Rattle.js_grammar.proofs.Calculus.{by_plain, done, fails_node, inside_full, part_fails, then_by, weaken_fails_on}
use Rattle.js_grammar.proofs.FirstClaims.{firsts}
use Rattle.js_grammar.proofs.FirstRules.{by_first, fails_here}
use Rattle.laws_shared.specs.js_tree.declared.id.NodeId.{NodeId}
use Rattle.laws_shared.specs.js_tree.declared.kind.NodeKind.TheVariants as node_kind
use Rattle.laws_shared.specs.js_tree.declared.op.Op.TheVariants as op_made
use Rattle.laws_shared.proofs.js_tree.HoldingLemmas.{HoldsAll-next, HoldsAll-none, Keeps-made, Keeps-trans}
use Rattle.laws_shared.specs.js_cursor.Parsers.{Parser}
use Rattle.laws_shared.specs.js_cursor.declared.stop.Stop.{Stop}
use Rattle.laws_primary.proofs.Wholes.{whole_answers, whole_of}
use Rattle.laws_shared.specs.declared.nested.MethodForm.{MethodForm}
use Rattle.laws_shared.specs.declared.nested.MethodForm.TheVariants.{Method, Getter, Setter}
use Rattle.laws_shared.specs.Answers.{Outcome, Stops}
use Rattle.laws_shared.specs.Arguments.{ItemTaken, NoItem, Partway}
use Rattle.laws_shared.specs.Lexemes.{Lex}
use Rattle.laws_shared.specs.Methods.{WholeOutcome, WholeTaken, parameters_of}
use Rattle.laws_shared.specs.Moves.{MadeHere, Moved, plain_label}
use Rattle.laws_shared.specs.Stands.{StandsHere}
use Rattle.laws_shared.specs.States.{At}
use Rattle.laws_shared.proofs.MadeNodes.{node_held, one_lies}
use Rattle.laws_shared.proofs.Moving.{stops_behind, stops_so}
use Rattle.laws_shared.proofs.Parts.{part_from, part_last, part_path, part_path_fails, part_sign, parts}
use Rattle.laws_shared.proofs.Paths.{fails_at, label_here, noded}
use Rattle.laws_shared.proofs.Signs.{plain_sign, stands_not}
use Rattle.laws_shared.proofs.Escapes.{read_plain}
use Rattle.laws_shared.proofs.Verdicts.{grown_then, verdict_of}
use Rattle.laws_shared.proofs.Verdicts.{after as grown_behind}
use Rattle.laws_shared.proofs.PlainSigns.{paren_plain, closing_paren_plain}

abbrev next_kinds : Look
next_kinds k w e = one_of_kinds (Comma ∷ RParen ∷ RBrack ∷ RCurly ∷ []) k

-- no opening parenthesis
pub no_parameters : {text : List ℕ} {f : Flags} {p : Parser} (form : MethodForm) → At text f p → StandsHere p LParen false → Fails rule (Lex text) (plain full) end (parameters_of form f) p.prev_token_end
unfolding rule rule_of
no_parameters Method a s = fails_here firsts (λ y l h. let k = sym (kind_of_same LParen y.kind (and_parts (same_kind LParen y.kind) _ h).0) in stands_not a refl s y l k (read_plain y l k refl))
no_parameters Getter a s = fails_here firsts (λ y l h. let k = sym (kind_of_same LParen y.kind (and_parts (same_kind LParen y.kind) _ h).0) in stands_not a refl s y l k (read_plain y l k refl))
no_parameters Setter a s = fails_here firsts (λ y l h. let k = sym (kind_of_same LParen y.kind (and_parts (same_kind LParen y.kind) _ h).0) in stands_not a refl s y l k (read_plain y l k refl))

-- those of a method
pub method_outcome : (text : List ℕ) (f : Flags) (p q : Parser) (r : Result NodeId Stop) → Outcome text f (at Params f) p q r → WholeOutcome text f (parameters_of Method f) p q r
method_outcome text f p q (Ok id) x = whole_of x (record { admits = λ ts vs k ls rest d e. (refl, refl) })
method_outcome text f p q (Err e) x = stops_so p q e (λ n. weaken_fails_on n (record { admits = λ ts vs k ls rest d e. (refl, refl) })) x

module _ {text : List ℕ} {f : Flags} {p : Parser} (a : At text f p) where
  -- the node of parameters with their parentheses
  pub parameters_taken : {g : G} {q w : Parser} {ids : List (Option NodeId)} {id : NodeId} {s : Span} → Partway text f g nothing p q [] ids → s.start ≡ p.token.span.start → s.end ≡ q.prev_token_end → MadeHere (plain_label node_kind.FormalParameters op_made.None s) ids q w id → WholeTaken text f (mk formal_parameters g) p w id
  parameters_taken {g} {q} {w} {ids} {id} {s} y b c n =
      let made : MadeHere (label_here formal_parameters no_op p q) ids q w id = subst (λ (v : Label). MadeHere v ids q w id) (rw (b, c) refl) n in
      whole_answers y.same made.stays (node_held made (y.holds (length p.nodes) end (HoldsAll-none p.nodes (length p.nodes) (length p.nodes) (omega arith)))) (Keeps-trans y.keeps (Keeps-made made.made)) refl (one_lies made) (noded a (part_path y))

  module _ (k : p.token.kind ≡ LParen) {q : Parser} (m : Moved text f p q) where
    opened : {b : G} → Partway text f (tok LParen ▸ b) b p q [] []
    opened = part_sign LParen a k (plain_sign LParen a k refl refl paren_plain) refl m

    -- a getter's
    pub none_between : {r : Parser} → q.token.kind ≡ RParen → Moved text f q r → Partway text f (tok LParen ▸ nothing ▸ tok RParen) nothing p r [] []
    none_between c n = parts opened (part_from done (part_last RParen m.at c (plain_sign RParen m.at c refl refl closing_paren_plain) refl n))

    pub getter_unclosed : (w : Parser) (e : Stop) → Stops q w e (one_of_kinds (RParen ∷ []) q.token.kind ≡ false) → Stops p w e (Fails rule (Lex text) (plain full) end (parameters_of Getter f) p.prev_token_end)
    unfolding covers apart
    getter_unclosed w e z = stops_behind w e m.same (λ g. grown_then m.kept g) (λ n. fails_node inside_full (part_path_fails opened (fails_at m.at (nothing ▸ tok RParen) (RParen ∷ []) refl n))) z

    -- a setter's
    pub no_parameter : (w : Parser) (e : Stop) → Stops q w e (NoItem text (at Param f) q.prev_token_end) → Stops p w e (Fails rule (Lex text) (plain full) end (parameters_of Setter f) p.prev_token_end)
    unfolding covers
    no_parameter w e z = stops_behind w e m.same (λ g. grown_then m.kept g) (λ n. fails_node inside_full (part_path_fails opened (part_fails n (by_first firsts (by_plain next_kinds) refl)))) z

    module _ {r : Parser} {parameter : NodeId} (x : ItemTaken text f (at Param f) q r parameter) where
      pub with_parameter : Partway text f (tok LParen ▸ symbol Param f ▸ tok RParen) (tok RParen) p r [] (Some parameter ∷ [])
      unfolding covers
      with_parameter = parts opened (record {
        at = x.at;
        same = x.same;
        further = x.further;
        slots = tree x.label x.slots;
        puts = λ us. refl;
        pass = x.pass;
        walked = x.walked;
        verdict = verdict_of x.verdict (λ y. record { reach = y.reach; near = y.near; goes = then_by y.goes (by_first firsts (by_plain next_kinds) refl) }) (λ n. part_fails n (by_first firsts (by_plain next_kinds) refl));
        holds = λ lo us h. HoldsAll-next parameter x.keeps h x.holds;
        keeps = x.keeps;
      })

      pub setter_unclosed : (w : Parser) (e : Stop) → Stops r w e (one_of_kinds (RParen ∷ []) r.token.kind ≡ false) → Stops p w e (Fails rule (Lex text) (plain full) end (parameters_of Setter f) p.prev_token_end)
      unfolding covers apart
      setter_unclosed w e z = stops_behind w e with_parameter.same (λ g. grown_behind with_parameter.verdict g) (λ n. fails_node inside_full (part_path_fails with_parameter (fails_at x.at (tok RParen) (RParen ∷ []) refl n))) z

      pub one_between : {w : Parser} → r.token.kind ≡ RParen → Moved text f r w → Partway text f (tok LParen ▸ symbol Param f ▸ tok RParen) nothing p w [] (Some parameter ∷ [])
      one_between c n = parts with_parameter (part_last RParen x.at c (plain_sign RParen x.at c refl refl closing_paren_plain) refl n)
