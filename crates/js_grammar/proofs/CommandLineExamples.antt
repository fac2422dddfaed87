-- What the command line admits: examples.
use Rattle.std.specs.Prelude.{true, false, [], ◌∷◌, codes, None, Some}
use Rattle.std.proofs.Common.{refl}
use Rattle.js_grammar.specs.Settings.{module_goal, script, prints_tree, prints_record}
use Rattle.js_grammar.specs.CommandLine.{Admits, none, more, alone, apart, joined, a_goal, a_print, v8, a_number}

two_options : Admits (codes "--goal=module" ∷ codes "--print=record" ∷ []) (record { goal = module_goal; print = prints_record; preserve_parens = true; allow_return = false; allow_v8 = false; generate = None })
two_options = record { choices = a_goal module_goal ∷ a_print prints_record ∷ []; written = more (joined refl) (more (joined refl) none); agree = refl; sets = refl }

a_value_apart : Admits (codes "--v8" ∷ codes "--goal" ∷ codes "script" ∷ codes "--generate" ∷ codes "4" ∷ []) (record { goal = script; print = prints_tree; preserve_parens = true; allow_return = false; allow_v8 = true; generate = Some 4 })
a_value_apart = record { choices = v8 ∷ a_goal script ∷ a_number (codes "4") ∷ []; written = more (alone refl) (more (apart refl) (more (apart refl) none)); agree = refl; sets = refl }
