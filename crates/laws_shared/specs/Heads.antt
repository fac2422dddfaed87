-- Where no head of an arrow function was found, and where nothing but such a head (ECMA-262, 15.3).
use Rattle.std.specs.Prelude.{ℕ, ◌≡◌, ◌<◌, ◌||◌, Bool, true, false, List}
use Rattle.js_base.specs.declared.context.Context.{Context}
use Rattle.js_base.specs.Contexts.{bits_of, has_flag, reads_await, in_flag, yield_flag, await_flag, return_flag, new_target_flag}
use Rattle.js_base.specs.declared.kind.Kind.TheVariants.{Arrow}
use Rattle.js_base.specs.Kinds.{same_kind}
use Rattle.js_grammar.specs.Trees.{end as no_slots}
use Rattle.js_grammar.specs.Grammar.{◌▸◌}
use Rattle.js_grammar.specs.Parsing.{Fails, full, plain}
use Rattle.js_grammar.specs.Productions.{Flags, sym, tok, other, Params}
use Rattle.js_grammar.specs.Table.{rule, args}
use Rattle.js_cursor.specs.Notes.{is_noted, is_place}
use Rattle.js_cursor.specs.Parsers.{Parser}
use Rattle.js_cursor.specs.Starts.{is_module}
use Rattle.laws_shared.specs.Lexemes.{Lex}

-- no parameters in parentheses with `=>` behind them are derived from the place
abbrev pub NoHead : List ℕ → Flags → ℕ → Type 0
NoHead text f s = Fails rule (Lex text) (plain full) no_slots (sym Params f ▸ tok Arrow) s

-- The parameters of productions (ECMA-262, 5.1.5) that a set stands for, with the goal and the options of a parser, which stay throughout a text. Expressions are read as a cover grammar: an object literal may have a shorthand with an initialiser (13.2.5).
abbrev pub flags_in : Parser → Context → Flags
flags_in p c = record {
  in_ = has_flag in_flag c;
  yield_ = has_flag yield_flag c;
  await_ = has_flag await_flag c;
  awaits = reads_await c;
  return_ = has_flag return_flag c;
  new_target = has_flag new_target_flag c;
  module_goal = is_module p.source_type;
  v8 = p.options.allow_v8_intrinsics;
  cover = true;
  wide = false;
}

-- The same in wider forms, with true: an assignment target is taken as a parser meets it before it says what is wrong with it, and `new.target` and the syntax of modules may stand in every text.
abbrev pub widened : Bool → Flags → Flags
widened w f = record f { new_target = w || f.new_target; module_goal = w || f.module_goal; wide = w }

-- Behind arguments that are derived from the place `=>` stands: no parentheses there are an operand (CoverParenthesizedExpressionAndArrowParameterList, 13.2).
abbrev pub OnlyArrow : List ℕ → Flags → ℕ → Type 0
OnlyArrow text f s = Fails rule (Lex text) (plain (other (λ k w e. same_kind Arrow k))) no_slots (args f) s

-- Where parentheses are noted that have `=>` behind them no operand stands, and where others are no head, under all parameters.
abbrev pub NotedClosings : List ℕ → List ℕ → List ℕ → Type 0
NotedClosings text arrows others = ((s : ℕ) → is_place arrows s ≡ true → (f : Flags) → OnlyArrow text f s) × ((s : ℕ) → is_place others s ≡ true → (f : Flags) → NoHead text f s)

-- Whatever is noted is so: no head is derived from the place, or no operand, under the parameters by which it is noted, in wider forms neither.
abbrev pub NotedHeads : Parser → Type 0
NotedHeads p = ((w : Bool) (c : Context) (s : ℕ) → bits_of c < 65536 → is_noted p.state.failed c s ≡ true → NoHead p.text (widened w (flags_in p c)) s) × ((w : Bool) (c : Context) (s : ℕ) → bits_of c < 65536 → is_noted p.state.operands c s ≡ true → OnlyArrow p.text (widened w (flags_in p c)) s) × NotedClosings p.text p.state.arrows p.state.others
