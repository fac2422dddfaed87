-- What holds where a text begins.
use Rattle.std.proofs.Common.{ℕ, ◌≡◌, ◌≢◌, Bool, true, false, refl, ap, arith, ◌∙◌, ◌||◌, ◌==◌}
use Rattle.std.specs.Prelude.{IsTrue, ◌↔◌}
use Rattle.std.specs.Int.{bit_at}
use Rattle.js_base.specs.declared.context.Context.{Context}
use Rattle.js_base.specs.declared.options.ParseOptions.{ParseOptions}
use Rattle.js_base.specs.declared.source_type.SourceType.{SourceType}
use Rattle.js_base.specs.declared.source_type.Goal.TheVariants as source
use Rattle.js_base.specs.Contexts.{SetsFlag, has_flag, await_flag, await_expression_flag, return_flag, new_target_flag}
use Rattle.js_cursor.specs.Starts.{is_module, is_commonjs, AtStart}

module_same : (s : SourceType) (b : Bool) → IsTrue b ↔ (s.goal ≡ source.Module) → b ≡ is_module s
module_same s b h = go s.goal b h
  where
    go : (k : source.the_data) (b : Bool) → IsTrue b ↔ (k ≡ source.Module) → b ≡ elim k as (λ _. Bool) [ source.Module ↦ true | _ ↦ false ]
    go source.Module b h = h.1 refl
    go source.Script true h = absurd (let z = h.0 refl in cc)
    go source.Script false h = refl
    go source.CommonJs true h = absurd (let z = h.0 refl in cc)
    go source.CommonJs false h = refl
    go source.Unambiguous true h = absurd (let z = h.0 refl in cc)
    go source.Unambiguous false h = refl

commonjs_same : (s : SourceType) (b : Bool) → IsTrue b ↔ (s.goal ≡ source.CommonJs) → b ≡ is_commonjs s
commonjs_same s b h = go s.goal b h
  where
    go : (k : source.the_data) (b : Bool) → IsTrue b ↔ (k ≡ source.CommonJs) → b ≡ elim k as (λ _. Bool) [ source.CommonJs ↦ true | _ ↦ false ]
    go source.CommonJs b h = h.1 refl
    go source.Script true h = absurd (let z = h.0 refl in cc)
    go source.Script false h = refl
    go source.Module true h = absurd (let z = h.0 refl in cc)
    go source.Module false h = refl
    go source.Unambiguous true h = absurd (let z = h.0 refl in cc)
    go source.Unambiguous false h = refl

pub at_start : {s : SourceType} {o : ParseOptions} {none one two three four : Context} (in_module body returns : Bool) → none.0 ≡ 1 → IsTrue in_module ↔ (s.goal ≡ source.Module) → IsTrue body ↔ (s.goal ≡ source.CommonJs) → returns ≡ (body || o.allow_return_outside_function)
    → SetsFlag await_flag in_module none one → SetsFlag await_expression_flag in_module one two → SetsFlag return_flag returns two three → SetsFlag new_target_flag body three four → AtStart s o four
at_start {s} {o} {none} {one} {two} {three} {four} in_module body returns z m b r x v y w = record {
  in_ = other 0 (omega arith) (omega arith) (omega arith) (omega arith);
  yield = other 1 (omega arith) (omega arith) (omega arith) (omega arith);
  await = w.others 2 (omega arith) ∙ y.others 2 (omega arith) ∙ v.others 2 (omega arith) ∙ x.flag ∙ module_same s in_module m;
  return = w.others 3 (omega arith) ∙ y.flag ∙ r ∙ ap (λ (d : Bool). d || o.allow_return_outside_function) (commonjs_same s body b);
  decorator = other 4 (omega arith) (omega arith) (omega arith) (omega arith);
  disallow_conditional_types = other 5 (omega arith) (omega arith) (omega arith) (omega arith);
  ambient = other 6 (omega arith) (omega arith) (omega arith) (omega arith);
  top_level = other 7 (omega arith) (omega arith) (omega arith) (omega arith);
  new_target = w.flag ∙ commonjs_same s body b;
  await_expression = w.others 9 (omega arith) ∙ y.others 9 (omega arith) ∙ v.flag ∙ module_same s in_module m;
}
  where
    other : (j : ℕ) → j ≢ 2 → j ≢ 3 → j ≢ 8 → j ≢ 9 → has_flag j four ≡ (bit_at 1 j == 1)
    other j p q t i = w.others j t ∙ y.others j q ∙ v.others j i ∙ x.others j p ∙ ap (λ (n : ℕ). bit_at n j == 1) z
