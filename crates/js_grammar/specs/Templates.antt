-- Template parts (ECMA-262, 12.9.6).
use Rattle.std.specs.Prelude.{ℕ, Bool, true, false, not, ◌&&◌, List, [], ◌∷◌, ◌==◌, Option, Some, None, take, drop, length, ◌-◌}
use Rattle.std.specs.Str.{byte}
use Rattle.js_base.specs.declared.kind.Kind.{Kind}
use Rattle.js_base.specs.declared.kind.Kind.TheVariants.{NoSubstitutionTemplate, TemplateHead, TemplateMiddle, TemplateTail}
use Rattle.js_base.specs.Kinds.{one_of_kinds}
use Rattle.js_grammar.specs.Strings.{nothing_left}

-- Behind the backquote or brace that opens a part: the first backquote, or the first `${`, ends the characters; none counts directly behind a backslash.
-- `escaped`: a backslash that is none itself stands directly before; `dollar`: a `$` does. The answer tells whether `${` ends the part.
abbrev pub closes_template : Bool → Bool → List ℕ → Option Bool
closes_template escaped dollar [] = None
closes_template escaped dollar (c ∷ cs) =
    elim (not escaped && (c == byte "`")) [
      | true ↦ elim (nothing_left cs) [ true ↦ Some false | false ↦ None ]
      | false ↦
          elim (dollar && (c == byte "{")) [ true ↦ elim (nothing_left cs) [ true ↦ Some true | false ↦ None ] | false ↦ closes_template (not escaped && (c == byte "\\")) (not escaped && (c == byte "$")) cs ]
    ]

abbrev pub part_kind : Kind → Kind → Option Bool → Option Kind
part_kind closing opening None = None
part_kind closing opening (Some true) = Some opening
part_kind closing opening (Some false) = Some closing

-- Template: a part that opens with a backquote
abbrev pub template_kind : List ℕ → Option Kind
template_kind [] = None
template_kind (c ∷ cs) = elim (c == byte "`") [ true ↦ part_kind NoSubstitutionTemplate TemplateHead (closes_template false false cs) | false ↦ None ]

-- TemplateSubstitutionTail: a part that opens with a brace
abbrev pub template_tail_kind : List ℕ → Option Kind
template_tail_kind [] = None
template_tail_kind (c ∷ cs) = elim (c == byte "}") [ true ↦ part_kind TemplateTail TemplateMiddle (closes_template false false cs) | false ↦ None ]

-- the inside of a part: without the opening, and without the backquote or the `${` at its end
abbrev pub template_inside : Kind → List ℕ → List ℕ
template_inside k w = elim (one_of_kinds (TemplateHead ∷ TemplateMiddle ∷ []) k) [ true ↦ drop 1 (take (length w - 2) w) | false ↦ drop 1 (take (length w - 1) w) ]
