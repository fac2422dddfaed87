use Rattle.std.proofs.Common.{ℕ, ◌≡◌, true, false, List, arith, sym, ◌∙◌}
use Rattle.std.proofs.lemmas.Bool.{false≢true}
use Rattle.std.proofs.lemmas.Result.{err_from_is_err_and}
use Rattle.js_base.specs.declared.kind.Kind.TheVariants.{PrivateIdentifier}
use Rattle.js_grammar.specs.Productions.{Flags, IdentifierName, at}
use Rattle.parse_shared.specs.js_cursor.Parsers.{Parser}
use Rattle.parse_shared.specs.laws_shared.Answers.{Underived}
use Rattle.parse_shared.specs.laws_shared.States.{At}
use Rattle.parse_shared.proofs.laws_shared.Moving.{stops_so}
use Rattle.parse_primary.specs.laws_primary.Members.{NoNames}
use Rattle.parse_primary.proofs.laws_primary.Members.{no_name_at_private, no_private_name, private_taken}
use Rattle.parse_members.proofs.left_hand_side.parse_member_name.Goals as goal

no_names : {text : List ℕ} {f : Flags} {p : Parser} → At text f p → (p.token.kind ≡ PrivateIdentifier → ⊥) → Underived text (at IdentifierName f) p.prev_token_end → NoNames text f p.prev_token_end
no_names a n u true = no_private_name a n
no_names a n u false = u

pub make_member-requires-clause-start : goal.make_member-requires-clause-start
make_member-requires-clause-start g c =
    let x = (private_taken _ _ _ _ _ c.requires.at (c.at.ensures.0 c.if-at.true) c.in_ok-name.ensures).answer in
    let a = x.further in let e = c.requires.at.behind in let s = c.requires.start in omega arith

pub returns-then-at : goal.returns-then-at
returns-then-at g c = record {
  private = true;
  behind = c.parse_private_name.new.p;
  name = c.in_ok-name.name;
  read = λ text f a. private_taken text f _ _ _ a (c.at.ensures.0 c.if-at.true) c.in_ok-name.ensures;
  other = λ text f a. no_name_at_private a (c.at.ensures.0 c.if-at.true);
  made = c.in_ok-node.ensures;
}

pub returns-in_err-name-2 : goal.returns-in_err-name-2
returns-in_err-name-2 g c =
    let p = err_from_is_err_and c.from_residual-in_err-name-2.result c.from_residual-in_err-name-2.ensures.1 in
    rw (p.1, p.2) (λ text f a. stops_so _ _ _ (λ u. no_names a (λ k. false≢true (sym c.if-at.false ∙ c.at.ensures.1 k)) u) (c.in_err-name-2.ensures text f a))

pub make_member-requires-2-clause-start : goal.make_member-requires-2-clause-start
make_member-requires-2-clause-start g c =
    let x = (c.in_ok-name-2.ensures _ _ c.requires.at).answer in
    let a = x.further in let e = c.requires.at.behind in let s = c.requires.start in omega arith

pub returns : goal.returns
returns g c = record {
  private = false;
  behind = c.parse_identifier_name.new.p;
  name = c.in_ok-name-2.name;
  read = λ text f a. c.in_ok-name-2.ensures text f a;
  other = λ text f a. no_private_name a (λ k. false≢true (sym c.if-at.false ∙ c.at.ensures.1 k));
  made = c.in_ok-node-2.ensures;
}
