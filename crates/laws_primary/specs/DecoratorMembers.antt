-- What the parse functions of decorators answer (of their proposal; no section of ECMA-262): how much was taken, and what that is.
use Rattle.std.specs.Prelude.{ℕ, ◌∷◌, [], List, Result, Ok, Err, not}
use Rattle.js_base.specs.declared.diagnostic.Diagnostic.{Diagnostic}
use Rattle.js_base.specs.declared.kind.Kind.TheVariants.{Dot, LParen}
use Rattle.js_base.specs.declared.span.Span.{Span}
use Rattle.js_base.specs.Kinds.{one_of_kinds}
use Rattle.js_grammar.specs.Trees.{Label, Slots, end, tree, call_expression}
use Rattle.js_grammar.specs.Grammar.{Lexemes, such, nothing, ◌▸◌, ◌◇◌}
use Rattle.js_grammar.specs.Follow.{after}
use Rattle.js_grammar.specs.Parsing.{Test, Fails, always, plain, full}
use Rattle.js_grammar.specs.Productions.{G, Flags, at, mk, DecoratorMember}
use Rattle.js_grammar.specs.Productions.{sym as symbol}
use Rattle.js_grammar.specs.Table.{rule, args, paren_expression}
use Rattle.js_grammar.specs.Chains.{decorator_members}
use Rattle.laws_shared.specs.js_tree.declared.id.NodeId.{NodeId}
use Rattle.laws_shared.specs.js_cursor.Parsers.{Parser}
use Rattle.laws_shared.specs.js_cursor.declared.stop.Stop.{Stop}
use Rattle.laws_shared.specs.Lexemes.{Lex}
use Rattle.laws_shared.specs.States.{At}
use Rattle.laws_shared.specs.Answers.{Stretch, Underived, Stops}
use Rattle.laws_primary.specs.Members.{Looped, Taken}

-- of a name with names behind dots so much was read
abbrev pub NamedSoFar : List ℕ → Flags → ℕ → ℕ → Label → Slots → (Lexemes → Lexemes) → ℕ → Type 0
NamedSoFar text f s from l cs pass s' = Looped text (decorator_members f) (after (at DecoratorMember f)) s from l cs pass s'

-- all of it was; or nothing is derived
abbrev pub NamesOutcome : List ℕ → Flags → Parser → Parser → Result NodeId Stop → Type 0
NamesOutcome text f p q (Ok id) = Taken text f p q id (λ l cs pass s'. Stretch text (after (at DecoratorMember f)) (such (at DecoratorMember f) always) p.prev_token_end nothing s' (tree l cs) pass) (Underived text (at DecoratorMember f) p.prev_token_end)
NamesOutcome text f p q (Err e) = Stops p q e (Underived text (at DecoratorMember f) p.prev_token_end)

abbrev pub ReadsNames : Parser → Parser → Result NodeId Stop → Type 0
ReadsNames p q r = (text : List ℕ) (f : Flags) → At text f p → NamesOutcome text f p q r

-- an Expression in parentheses, whatever stands behind it
abbrev pub ParenthesesOutcome : List ℕ → Flags → Parser → Parser → Result NodeId Stop → Type 0
ParenthesesOutcome text f p q (Ok id) = Taken text f p q id (λ l cs pass s'. Stretch text (plain full) (paren_expression f) p.prev_token_end nothing s' (tree l cs) pass) (Fails rule (Lex text) (plain full) end (paren_expression f) p.prev_token_end)
ParenthesesOutcome text f p q (Err e) = Stops p q e (Fails rule (Lex text) (plain full) end (paren_expression f) p.prev_token_end)

abbrev pub ReadsParentheses : Parser → Parser → Result NodeId Stop → Type 0
ReadsParentheses p q r = (text : List ℕ) (f : Flags) → At text f p → ParenthesesOutcome text f p q r

-- neither arguments nor a name stand behind a decorator
abbrev pub behind_decorator : Test
behind_decorator = plain (λ k w e. not (one_of_kinds (LParen ∷ Dot ∷ []) k))

-- what stands behind `@`: names, perhaps with arguments, or an expression in parentheses
abbrev pub decorated : Flags → G
decorated f = symbol DecoratorMember f ◇ mk call_expression (symbol DecoratorMember f ▸ args f) ◇ paren_expression f

abbrev pub NotDecorated : List ℕ → Flags → ℕ → Type 0
NotDecorated text f s = Fails rule (Lex text) behind_decorator end (decorated f) s

abbrev pub DecoratedTaken : List ℕ → Flags → Parser → Parser → NodeId → Type 0
DecoratedTaken text f p q id = Taken text f p q id (λ l cs pass s'. Stretch text behind_decorator (decorated f) p.prev_token_end nothing s' (tree l cs) pass) (NotDecorated text f p.prev_token_end)

abbrev pub DecoratedOutcome : List ℕ → Flags → Parser → Parser → Result NodeId Stop → Type 0
DecoratedOutcome text f p q (Ok id) = DecoratedTaken text f p q id
DecoratedOutcome text f p q (Err e) = Stops p q e (NotDecorated text f p.prev_token_end)

abbrev pub ReadsDecorated : Parser → Parser → Result NodeId Stop → Type 0
ReadsDecorated p q r = (text : List ℕ) (f : Flags) → At text f p → DecoratedOutcome text f p q r
