use Rattle.std.proofs.Common.{◌∙◌, sym, refl}
use Rattle.std.proofs.lemmas.Bool.{false≢true}
use Rattle.std.proofs.lemmas.Result.{err_from_is_err_and}
use Rattle.parse_shared.proofs.laws_shared.NodeTexts.{name_word}
use Rattle.parse_shared.proofs.laws_shared.NameKinds.{listed_here, name_so, name_whole}
use Rattle.parse_control.proofs.laws_statements.WordStatements.{label_memory, label_told}
use Rattle.parse_statements.proofs.word_statement.parse_optional_label.Goals as goal

pub returns-then-can_insert_semicolon : goal.returns-then-can_insert_semicolon
returns-then-can_insert_semicolon g c = (c.can_insert_semicolon.ensures.0 c.if-can_insert_semicolon.true, refl)

pub returns-then-not-name_stands : goal.returns-then-not-name_stands
returns-then-not-name_stands g c = label_told _ _ c.set_unexpected.result (λ m. false≢true (sym c.if-can_insert_semicolon.false ∙ c.can_insert_semicolon.ensures.1 m)) (name_so c.args.p.now c.if-not-name_stands.true c.name_stands.ensures) c.set_unexpected.ensures

pub parse_name-requires-clause-whole : goal.parse_name-requires-clause-whole
parse_name-requires-clause-whole g c = name_whole c.requires (listed_here c.args.p.now (name_so c.args.p.now c.if-not-name_stands.false c.name_stands.ensures))

pub returns-in_err-label : goal.returns-in_err-label
returns-in_err-label g c =
    let p = err_from_is_err_and c.from_residual.result c.from_residual.ensures.1 in
    rw (p.1, p.2) (label_memory c.args.p.now c.parse_name.new.p _ c.in_err-label.ensures)

pub returns : goal.returns
returns g c = (λ m. false≢true (sym c.if-can_insert_semicolon.false ∙ c.can_insert_semicolon.ensures.1 m), name_so c.args.p.now c.if-not-name_stands.false c.name_stands.ensures, c.in_ok-label.ensures)

pub parse_name-requires-clause-word : goal.parse_name-requires-clause-word
parse_name-requires-clause-word g c = name_word c.args.p.now.token.kind (listed_here c.args.p.now (name_so c.args.p.now c.if-not-name_stands.false c.name_stands.ensures))
