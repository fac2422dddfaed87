use Rattle.std.proofs.Common.{◌≡◌, true, ap, subst, sym, ◌∙◌}
use Rattle.std.proofs.lemmas.Bool.{false≢true}
use Rattle.js_base.specs.Kinds.{one_of_kinds}
use Rattle.js_base.specs.Texts.{reserved_words}
use Rattle.js_base.specs.declared.token.Token.{Token}
use Rattle.parse_modules.specs.Prelude.{GivesUp, Mark, word_bound}
use Rattle.parse_modules.specs.Prelude.{goal as goal_of}
use Rattle.laws_modules.proofs.ImportSpecifiers.{binding_read, bound_marked, other_refused, word_refused}
use Rattle.parse_modules.proofs.import_specifier.parse_imported_binding.Goals as goal

pub returns-then-name_stands : goal.returns-then-name_stands
returns-then-name_stands g c = λ text f a. binding_read text f _ _ a c.parse_name.result (c.name_stands.ensures ∙ c.if-name_stands.true) c.parse_name.ensures

pub refuse_word-requires-clause-mark : goal.refuse_word-requires-clause-mark
refuse_word-requires-clause-mark g c =
    let k : c.kind.result ≡ c.args.p.now.token.kind = c.kind.ensures ∙ ap (λ (t : Token). t.kind) c.cur_token-token.ensures in
    let h : one_of_kinds reserved_words c.args.p.now.token.kind ≡ true = sym (ap (one_of_kinds reserved_words) k) ∙ (sym c.is_reserved_keyword.ensures ∙ c.if-is_reserved_keyword.true) in
    subst (λ (t : Token). Mark (goal_of c.args.p.now) c.args.p.now.text (word_bound t.span)) (sym c.cur_token-token.ensures) (bound_marked c.requires.at (λ u. false≢true (sym (ap (one_of_kinds reserved_words) u) ∙ h))).1

pub returns-then-is_reserved_keyword : goal.returns-then-is_reserved_keyword
returns-then-is_reserved_keyword g c = λ text f a. word_refused text f _ _ a c.refuse_word.result (c.name_stands.ensures ∙ c.if-name_stands.false) (subst (λ (t : Token). GivesUp (λ d. d ≡ word_bound t.span) c.args.p.now c.refuse_word.new.p c.refuse_word.result) c.cur_token-token.ensures c.refuse_word.ensures)

pub returns : goal.returns
returns g c = λ text f a. other_refused text f _ _ a c.set_unexpected.result (c.name_stands.ensures ∙ c.if-name_stands.false) c.set_unexpected.ensures
