use Rattle.std.proofs.Common.{◌≡◌, sym, ◌∙◌}
use Rattle.std.proofs.lemmas.Bool.{false≢true}
use Rattle.parse_primary.proofs.laws_primary.RegularExpressions.{literal_answers, none_stops, which_sign}
use Rattle.parse_members.proofs.primary.parse_literal_regexp.Goals as goal

pub re_lex_regex-requires-clause-kind : goal.re_lex_regex-requires-clause-kind
re_lex_regex-requires-clause-kind t c = which_sign _ c.requires.sign

pub returns-then-at : goal.returns-then-at
returns-then-at t c = λ text f a. none_stops a c.requires.sign c.in_ok-re_lex_regex.ensures (c.at.ensures.0 c.if-at.true) c.set_unexpected.new.self c.set_unexpected.result c.set_unexpected.ensures

pub returns : goal.returns
returns t c = λ text f a. literal_answers a c.requires.sign c.in_ok-re_lex_regex.ensures (λ e. false≢true (sym c.if-at.false ∙ c.at.ensures.1 e)) c.span-span.result c.in_ok-bump_any.ensures (let e : c.span-span.result ≡ c.re_lex_regex.new.self.token.span = search in e) c.in_ok-node.ensures
