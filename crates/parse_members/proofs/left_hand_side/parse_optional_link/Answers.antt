use Rattle.std.proofs.Common.{ℕ, ◌≡◌, Bool, true, false, ◌||◌, List, arith, ap, sym, ◌∙◌, subst, refl}
use Rattle.std.proofs.lemmas.Bool.{false≢true}
use Rattle.js_grammar.specs.Productions.{Flags}
use Rattle.parse_shared.specs.js_cursor.Parsers.{Parser}
use Rattle.parse_shared.specs.laws_shared.States.{At}
use Rattle.parse_shared.specs.laws_shared.Moves.{unpassable}
use Rattle.js_base.specs.declared.kind.Kind.TheVariants.{LBrack, LParen, PrivateIdentifier, RAngle}
use Rattle.js_base.specs.Kinds.{one_of_kinds, same_kind}
use Rattle.parse_primary.specs.laws_primary.Members.{NoNames, member_name_kinds}
use Rattle.js_base.specs.declared.token.Token.{Token}
use Rattle.parse_shared.proofs.laws_shared.Giving.{gives_up}
use Rattle.parse_shared.proofs.laws_shared.Here.{uncut}
use Rattle.parse_shared.proofs.laws_shared.Moving.{standing}
use Rattle.parse_shared.proofs.laws_shared.Nesting.{nested_room, nests_later}
use Rattle.parse_primary.proofs.laws_primary.Members.{link_is, link_marked, no_name, no_optional_name, no_private_name, optional_name_outcome, optional_outcome, optional_tagged, stands_so, optional_index_outcome}
use Rattle.parse_primary.specs.laws_primary.Templates.{heads}
use Rattle.parse_members.proofs.left_hand_side.parse_optional_link.Goals as goal
use Rattle.parse_shared.specs.laws_shared.Classes.{EndsParse}

-- neither a name, a word nor a private name stands here
no_member_name : {text : List ℕ} {f : Flags} {p : Parser} → At text f p → one_of_kinds member_name_kinds p.token.kind ≡ false → NoNames text f p.prev_token_end
no_member_name a n true = no_private_name a (λ e. false≢true (sym n ∙ ap (one_of_kinds member_name_kinds) e))
no_member_name {p = p} a n false = no_name a (or_false (same_kind PrivateIdentifier p.token.kind) n)
  where
    or_false : (b : Bool) {c : Bool} → (b || c) ≡ false → c ≡ false
    or_false true h = absurd (false≢true (sym h))
    or_false false h = h

pub advance-requires-clause-whole : goal.advance-requires-clause-whole
advance-requires-clause-whole t c = (uncut c.requires.at (ap (same_kind RAngle) c.requires.sign.0), ap unpassable c.requires.sign.0)

pub parse_with_arguments-requires-clause-at : goal.parse_with_arguments-requires-clause-at
parse_with_arguments-requires-clause-at t c = standing (c.in_ok-advance.ensures _ _ c.requires.at).at

pub parse_with_arguments-requires-clause-nests : goal.parse_with_arguments-requires-clause-nests
parse_with_arguments-requires-clause-nests t c = nests_later c.requires.nests (let r = nested_room c.requires.at (c.in_ok-advance.ensures _ _ c.requires.at) in omega arith)

pub parse_with_arguments-requires-clause-start : goal.parse_with_arguments-requires-clause-start
parse_with_arguments-requires-clause-start t c = let m = (c.in_ok-advance.ensures _ _ c.requires.at).further in let b = c.requires.at.behind in let s = c.requires.start in omega arith

pub parse_with_arguments-requires-clause-open : goal.parse_with_arguments-requires-clause-open
parse_with_arguments-requires-clause-open t c = (stands_so c.advance.new.p LParen c.if-stands.true c.stands.ensures).0

pub returns-then-stands : goal.returns-then-stands
returns-then-stands t c = λ text f a. link_is text f _ _ _ _ c.parse_with_arguments.result (optional_outcome _ _ _ c.parse_with_arguments.result a c.requires.sign (c.in_ok-advance.ensures text f a) (stands_so c.advance.new.p LParen c.if-stands.true c.stands.ensures) c.parse_with_arguments.ensures)

pub parse_with_index-requires-clause-at : goal.parse_with_index-requires-clause-at
parse_with_index-requires-clause-at t c = standing (c.in_ok-advance.ensures _ _ c.requires.at).at

pub parse_with_index-requires-clause-nests : goal.parse_with_index-requires-clause-nests
parse_with_index-requires-clause-nests t c = nests_later c.requires.nests (let r = nested_room c.requires.at (c.in_ok-advance.ensures _ _ c.requires.at) in omega arith)

pub parse_with_index-requires-clause-start : goal.parse_with_index-requires-clause-start
parse_with_index-requires-clause-start t c = let m = (c.in_ok-advance.ensures _ _ c.requires.at).further in let b = c.requires.at.behind in let s = c.requires.start in omega arith

pub parse_with_index-requires-clause-open : goal.parse_with_index-requires-clause-open
parse_with_index-requires-clause-open t c = (stands_so c.advance.new.p LBrack c.if-stands-2.true c.stands-2.ensures).0

pub returns-then-stands-2 : goal.returns-then-stands-2
returns-then-stands-2 t c = λ text f a. link_is text f _ _ _ _ c.parse_with_index.result (optional_index_outcome _ _ _ c.parse_with_index.result a c.requires.sign (c.in_ok-advance.ensures text f a) (stands_so c.advance.new.p LBrack c.if-stands-2.true c.stands-2.ensures) c.parse_with_index.ensures)

pub parse_chained_template-requires-clause-at : goal.parse_chained_template-requires-clause-at
parse_chained_template-requires-clause-at t c = standing (c.in_ok-advance.ensures _ _ c.requires.at).at

pub parse_chained_template-requires-clause-nests : goal.parse_chained_template-requires-clause-nests
parse_chained_template-requires-clause-nests t c = nests_later c.requires.nests (let r = nested_room c.requires.at (c.in_ok-advance.ensures _ _ c.requires.at) in omega arith)

pub parse_chained_template-requires-clause-start : goal.parse_chained_template-requires-clause-start
parse_chained_template-requires-clause-start t c = let m = (c.in_ok-advance.ensures _ _ c.requires.at).further in let b = c.requires.at.behind in let s = c.requires.start in omega arith

pub parse_chained_template-requires-clause-template : goal.parse_chained_template-requires-clause-template
parse_chained_template-requires-clause-template t c = ap (one_of_kinds heads) (sym c.cur_kind.ensures) ∙ (sym c.begins_template.ensures ∙ c.if-begins_template.true)

pub returns-then-begins_template : goal.returns-then-begins_template
returns-then-begins_template t c = λ text f a.
    let m = c.in_ok-advance.ensures text f a in
    optional_tagged a c.requires.sign m (ap (one_of_kinds heads) (sym c.cur_kind.ensures) ∙ (sym c.begins_template.ensures ∙ c.if-begins_template.true)) _ _ _ c.parse_chained_template.result (c.parse_chained_template.ensures.read text f m.at)

pub parse_member_name-requires-clause-at : goal.parse_member_name-requires-clause-at
parse_member_name-requires-clause-at t c = standing (c.in_ok-advance.ensures _ _ c.requires.at).at

pub parse_member_name-requires-clause-start : goal.parse_member_name-requires-clause-start
parse_member_name-requires-clause-start t c = let m = (c.in_ok-advance.ensures _ _ c.requires.at).further in let b = c.requires.at.behind in let s = c.requires.start in omega arith

pub returns : goal.returns
returns t c = λ text f a.
    let m = c.in_ok-advance.ensures text f a in
    link_is text f _ _ _ _ c.parse_member_name.result (optional_name_outcome a c.requires.sign m (stands_so c.advance.new.p LParen c.if-stands.false c.stands.ensures) (stands_so c.advance.new.p LBrack c.if-stands-2.false c.stands-2.ensures) _ _ _ c.parse_member_name.result c.parse_member_name.ensures)

pub refuse_optional_link-requires-clause-at : goal.refuse_optional_link-requires-clause-at
refuse_optional_link-requires-clause-at t c = standing (c.in_ok-advance.ensures _ _ c.requires.at).at

pub refuse_optional_link-requires-clause-mark : goal.refuse_optional_link-requires-clause-mark
refuse_optional_link-requires-clause-mark t c = link_marked _ c.requires.at c.requires.sign (c.span-sign.ensures ∙ ap (λ (t : Token). t.span) c.cur_token.ensures) (c.in_ok-advance.ensures _ _ c.requires.at)

pub returns-then-lacks_link : goal.returns-then-lacks_link
returns-then-lacks_link t c = λ text f a.
    let m = c.in_ok-advance.ensures text f a in
    no_optional_name a c.requires.sign m (stands_so c.advance.new.p LParen c.if-stands.false c.stands.ensures) (stands_so c.advance.new.p LBrack c.if-stands-2.false c.stands-2.ensures) _ c.refuse_optional_link.result (gives_up _ _ _ c.refuse_optional_link.result m.at c.refuse_optional_link.ensures (λ d u. subst EndsParse (sym u) refl) (no_member_name m.at (ap (one_of_kinds member_name_kinds) (sym c.cur_kind-2.ensures) ∙ c.lacks_link.ensures c.if-lacks_link.true)))
