use Rattle.std.proofs.Common.{ℕ, ◌≡◌, true, ◌∷◌, refl, sym, ap, subst, ◌∙◌}
use Rattle.std.specs.Prelude.{IsCharBoundary}
use Rattle.js_base.specs.declared.token.Token.{Token}
use Rattle.parse_shared.specs.js_cursor.Parsers.{Parser}
use Rattle.parse_shared.specs.laws_shared.States.{Standing}
use Rattle.js_base.specs.declared.kind.Kind.{Kind}
use Rattle.js_base.specs.declared.span.Span.{Span}
use Rattle.js_grammar.specs.Brackets.{bracket, move}
use Rattle.laws_operators.specs.declared.forms.OpenBracket.TheVariants.{Round, Square, Curly}
use Rattle.laws_operators.specs.Closings.{WholeBehind, tells_settled}
use Rattle.laws_operators.proofs.Closings.{is_settled, no_bracket, closes_curly, closes_round, closes_square, curly_opened, plain_between, round_opened, settled_behind, square_opened}
use Rattle.laws_operators.proofs.NotedClosings.{end_closes_none, lexeme_closes, lexeme_opens, lexeme_plain, no_lexeme_closes}
use Rattle.parse_arrows.proofs.closing.pass_lexeme.Goals as goal

-- the lexeme ends between characters
ends : {p : Parser} {behind : ℕ} {t : Token} → Standing p → IsCharBoundary p.text behind → (g : WholeBehind p.text behind t) → tells_settled t.kind ≡ true → IsCharBoundary p.text t.span.end
ends {p} a b g w = let x = settled_behind g w in subst (λ (v : ℕ). IsCharBoundary p.text v) (sym x.2.end) (plain_between a.at.utf8 b x.1.0)

pub close_bracket-requires-clause-between : goal.close_bracket-requires-clause-between
close_bracket-requires-clause-between g c = subst (λ (v : Span). IsCharBoundary c.args.p.now.text v.end) (sym c.span.ensures) (ends c.requires.at c.requires.between c.requires.gives (ap tells_settled (sym c.kind.ensures ∙ c.in-RParen.is)))

pub close_bracket-requires-in-RBrack-clause-between : goal.close_bracket-requires-in-RBrack-clause-between
close_bracket-requires-in-RBrack-clause-between g c = subst (λ (v : Span). IsCharBoundary c.args.p.now.text v.end) (sym c.span-in-RBrack.ensures) (ends c.requires.at c.requires.between c.requires.gives (ap tells_settled (sym c.kind.ensures ∙ c.in-RBrack.is)))

pub close_bracket-requires-in-RCurly-clause-between : goal.close_bracket-requires-in-RCurly-clause-between
close_bracket-requires-in-RCurly-clause-between g c = subst (λ (v : Span). IsCharBoundary c.args.p.now.text v.end) (sym c.span-in-RCurly.ensures) (ends c.requires.at c.requires.between c.requires.gives (ap tells_settled (sym c.kind.ensures ∙ c.in-RCurly.is)))

pub note_unclosed-requires : goal.note_unclosed-requires
note_unclosed-requires g c = no_lexeme_closes c.requires.at c.requires.between c.requires.gives c.args.brackets.now.items (sym c.kind.ensures ∙ c.in-Undetermined.is) c.requires.stand

pub note_unclosed-requires-in-Eof : goal.note_unclosed-requires-in-Eof
note_unclosed-requires-in-Eof g c = end_closes_none c.requires.at c.requires.between c.requires.gives c.args.brackets.now.items (sym c.kind.ensures ∙ c.in-Eof.is) c.requires.stand

pub returns-in-LParen : goal.returns-in-LParen
returns-in-LParen g c = let k = sym c.kind.ensures ∙ c.in-LParen.is in lexeme_opens c.requires.at c.requires.between c.requires.gives _ c.open_bracket.result (record { bracket = Round; behind = c.args.behind }) c.args.brackets.now.items c.open_bracket.new.brackets.items (ap tells_settled k) (λ st. ap (λ (j : Kind). move (bracket j) st) k ∙ round_opened st) refl c.requires.stand refl c.open_bracket.ensures

pub returns-in-LBrack : goal.returns-in-LBrack
returns-in-LBrack g c = let k = sym c.kind.ensures ∙ c.in-LBrack.is in lexeme_opens c.requires.at c.requires.between c.requires.gives _ c.open_bracket-in-LBrack.result (record { bracket = Square; behind = c.args.behind }) c.args.brackets.now.items c.open_bracket-in-LBrack.new.brackets.items (ap tells_settled k) (λ st. ap (λ (j : Kind). move (bracket j) st) k ∙ square_opened st) refl c.requires.stand refl c.open_bracket-in-LBrack.ensures

pub returns-in-LCurly : goal.returns-in-LCurly
returns-in-LCurly g c = let k = sym c.kind.ensures ∙ c.in-LCurly.is in lexeme_opens c.requires.at c.requires.between c.requires.gives _ c.open_bracket-in-LCurly.result (record { bracket = Curly; behind = c.args.behind }) c.args.brackets.now.items c.open_bracket-in-LCurly.new.brackets.items (ap tells_settled k) (λ st. ap (λ (j : Kind). move (bracket j) st) k ∙ curly_opened st) refl c.requires.stand refl c.open_bracket-in-LCurly.ensures

pub returns-in-RParen : goal.returns-in-RParen
returns-in-RParen g c = let k = sym c.kind.ensures ∙ c.in-RParen.is in lexeme_closes c.requires.at c.requires.between c.requires.gives c.close_bracket.new.p c.close_bracket.result Round c.args.brackets.now.items c.close_bracket.new.brackets.items (ap (λ (s : Span). s.end) c.span.ensures) (ap tells_settled k) (λ st. ap (λ (j : Kind). move (bracket j) (1 ∷ st)) k ∙ closes_round st) c.requires.stand c.close_bracket.ensures

pub returns-in-RBrack : goal.returns-in-RBrack
returns-in-RBrack g c = let k = sym c.kind.ensures ∙ c.in-RBrack.is in lexeme_closes c.requires.at c.requires.between c.requires.gives c.close_bracket-in-RBrack.new.p c.close_bracket-in-RBrack.result Square c.args.brackets.now.items c.close_bracket-in-RBrack.new.brackets.items (ap (λ (s : Span). s.end) c.span-in-RBrack.ensures) (ap tells_settled k) (λ st. ap (λ (j : Kind). move (bracket j) (2 ∷ st)) k ∙ closes_square st) c.requires.stand c.close_bracket-in-RBrack.ensures

pub returns-in-RCurly : goal.returns-in-RCurly
returns-in-RCurly g c = let k = sym c.kind.ensures ∙ c.in-RCurly.is in lexeme_closes c.requires.at c.requires.between c.requires.gives c.close_bracket-in-RCurly.new.p c.close_bracket-in-RCurly.result Curly c.args.brackets.now.items c.close_bracket-in-RCurly.new.brackets.items (ap (λ (s : Span). s.end) c.span-in-RCurly.ensures) (ap tells_settled k) (λ st. ap (λ (j : Kind). move (bracket j) (3 ∷ st)) k ∙ closes_curly st) c.requires.stand c.close_bracket-in-RCurly.ensures

pub returns-in_default : goal.returns-in_default
returns-in_default g c =
    let k = c.kind.ensures in
    lexeme_plain c.requires.at c.requires.between c.requires.gives c.args.brackets.now.items (ap tells_settled (sym k) ∙ is_settled c.kind.result c.in_default.not-Undetermined c.in_default.not-Slash c.in_default.not-SlashEq) (λ st. ap (λ (j : Kind). move (bracket j) st) (sym k) ∙ no_bracket c.kind.result st c.in_default.not-LParen c.in_default.not-LBrack c.in_default.not-LCurly c.in_default.not-TemplateHead c.in_default.not-RParen c.in_default.not-RBrack c.in_default.not-RCurly c.in_default.not-TemplateTail c.in_default.not-TemplateMiddle) c.requires.stand refl
