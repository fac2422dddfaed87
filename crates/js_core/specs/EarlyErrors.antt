-- The early rules that a reading meets (ECMA-262, 5.2.7): those that are looked at so far, by the definitions of `EarlyRules`.
pub use Rattle.js_grammar.specs.EarlyRules.{MeetsEarlyRules}
