-- What the words of the program set.
use Rattle.std.specs.Prelude.{ℕ, Bool, Option}

pub data Goal : Type 0 where
  script module_goal commonjs unambiguous : Goal

pub data Print : Type 0 where
  prints_tree prints_record prints_tokens : Print

-- what the words set; a number of lines to generate, or none
pub record Settings : Type 0 where
  pub goal : Goal
  pub print : Print
  pub preserve_parens : Bool
  pub allow_return : Bool
  pub allow_v8 : Bool
  pub generate : Option ℕ
