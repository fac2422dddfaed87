-- Signs that are no names and no words: such a lexeme has no escape.
use Rattle.std.proofs.Common.{◌≡◌, false, ◌||◌, refl}
use Rattle.js_base.specs.declared.kind.Kind.TheVariants.{Arrow, Colon, Comma, Dot3, Eq, LBrack, LCurly, LParen, Percent, PrivateIdentifier, Question, RBrack, RCurly, RParen, Star}
use Rattle.js_base.specs.Kinds.{same_kind}
use Rattle.js_base.specs.Texts.{words}
use Rattle.js_grammar.specs.Lexemes.{is_word}

pub comma_plain : (is_word Comma || same_kind PrivateIdentifier Comma) ≡ false
unfolding words
comma_plain = refl

pub colon_plain : (is_word Colon || same_kind PrivateIdentifier Colon) ≡ false
unfolding words
colon_plain = refl

pub question_plain : (is_word Question || same_kind PrivateIdentifier Question) ≡ false
unfolding words
question_plain = refl

pub arrow_plain : (is_word Arrow || same_kind PrivateIdentifier Arrow) ≡ false
unfolding words
arrow_plain = refl

pub eq_plain : (is_word Eq || same_kind PrivateIdentifier Eq) ≡ false
unfolding words
eq_plain = refl

pub star_plain : (is_word Star || same_kind PrivateIdentifier Star) ≡ false
unfolding words
star_plain = refl

pub percent_plain : (is_word Percent || same_kind PrivateIdentifier Percent) ≡ false
unfolding words
percent_plain = refl

pub dots_plain : (is_word Dot3 || same_kind PrivateIdentifier Dot3) ≡ false
unfolding words
dots_plain = refl

pub paren_plain : (is_word LParen || same_kind PrivateIdentifier LParen) ≡ false
unfolding words
paren_plain = refl

pub closing_paren_plain : (is_word RParen || same_kind PrivateIdentifier RParen) ≡ false
unfolding words
closing_paren_plain = refl

pub bracket_plain : (is_word LBrack || same_kind PrivateIdentifier LBrack) ≡ false
unfolding words
bracket_plain = refl

pub closing_bracket_plain : (is_word RBrack || same_kind PrivateIdentifier RBrack) ≡ false
unfolding words
closing_bracket_plain = refl

pub brace_plain : (is_word LCurly || same_kind PrivateIdentifier LCurly) ≡ false
unfolding words
brace_plain = refl

pub closing_brace_plain : (is_word RCurly || same_kind PrivateIdentifier RCurly) ≡ false
unfolding words
closing_brace_plain = refl
