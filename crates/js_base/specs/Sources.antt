-- Source types.
use Rattle.js_base.specs.declared.source_type.SourceType.{SourceType}
use Rattle.js_base.specs.declared.source_type.Goal.{Goal}

-- the goal symbol by which a text of a source type is read (ECMA-262, chapter 16)
abbrev pub is_goal : SourceType → Goal
is_goal s = s.goal
