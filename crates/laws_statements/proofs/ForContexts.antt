-- The first part of the head of a `for`, read where `in` is no operator, as it stands where it is one (ECMA-262, 14.7.4, 14.7.5).
use Rattle.std.proofs.Common.{ℕ, ◌≡◌, Bool, true, false, max, List, Option, refl, sym, ap, subst, arith, ◌∙◌}
use Rattle.js_base.specs.declared.context.Context.{Context}
use Rattle.js_grammar.specs.Trees.{end}
use Rattle.js_grammar.specs.Grammar.{is}
use Rattle.js_grammar.specs.Parsing.{Test, plain, still, Goes}
use Rattle.js_grammar.specs.Productions.{Flags, minus_in}
use Rattle.js_grammar.specs.Table.{rule}
use Rattle.js_grammar.proofs.Calculus.{part_by, same, ◌▹◌, ◌▹✗◌}
use Rattle.js_grammar.proofs.Related.{Like}
use Rattle.js_grammar.proofs.Renamed.{alike_by}
use Rattle.laws_shared.specs.js_tree.declared.id.NodeId.{NodeId}
use Rattle.laws_shared.specs.js_cursor.Parsers.{Parser}
use Rattle.laws_shared.specs.js_cursor.Places.{IsAt}
use Rattle.laws_shared.specs.js_cursor.declared.stop.Stop.{Stop}
use Rattle.laws_shared.proofs.js_cursor.Later.{follows_on}
use Rattle.laws_shared.proofs.js_cursor.Changing.{ctx_set}
use Rattle.laws_shared.specs.Answers.{Stops}
use Rattle.laws_shared.specs.Lexemes.{Lex}
use Rattle.laws_shared.specs.States.{At}
use Rattle.laws_shared.proofs.Moving.{flags_same, stops_later}
use Rattle.laws_shared.proofs.Verdicts.{verdict_of}
use Rattle.laws_shared.proofs.Contexts.{at_under}
use Rattle.laws_shared.proofs.FreeOfIn.{ButIn, class_of, but_in}
use Rattle.laws_statements.specs.declared.forms.Ending.{Ending}
use Rattle.laws_statements.specs.declared.forms.Ending.TheVariants as ending
use Rattle.laws_statements.specs.ForHeads.{FirstTaken, NoFirstPart, end_kind, first_part}
use Rattle.laws_statements.proofs.ForHeads.{last_between}
use Rattle.laws_statements.proofs.BindingsFreeOfIn.{free, any_in_like}

-- ---- the parts

first_inside : (w : Bool) (e : Ending) (f : Flags) → Like (ButIn free) (first_part w e f) (first_part w e (minus_in f))
first_inside w ending.Semicolon f = alike_by (class_of free) (ButIn free) (but_in free) (first_part w ending.Semicolon f) (first_part w ending.Semicolon (minus_in f)) refl
first_inside w ending.In f = alike_by (class_of free) (ButIn free) (but_in free) (first_part w ending.In f) (first_part w ending.In (minus_in f)) refl
first_inside true ending.Of f = alike_by (class_of free) (ButIn free) (but_in free) (first_part true ending.Of f) (first_part true ending.Of (minus_in f)) refl
first_inside false ending.Of f = alike_by (class_of free) (ButIn free) (but_in free) (first_part false ending.Of f) (first_part false ending.Of (minus_in f)) refl

first_back : (w : Bool) (e : Ending) (f : Flags) → Like (ButIn free) (first_part w e (minus_in f)) (first_part w e f)
first_back w ending.Semicolon f = alike_by (class_of free) (ButIn free) (but_in free) (first_part w ending.Semicolon (minus_in f)) (first_part w ending.Semicolon f) refl
first_back w ending.In f = alike_by (class_of free) (ButIn free) (but_in free) (first_part w ending.In (minus_in f)) (first_part w ending.In f) refl
first_back true ending.Of f = alike_by (class_of free) (ButIn free) (but_in free) (first_part true ending.Of (minus_in f)) (first_part true ending.Of f) refl
first_back false ending.Of f = alike_by (class_of free) (ButIn free) (but_in free) (first_part false ending.Of (minus_in f)) (first_part false ending.Of f) refl

module _ {text : List ℕ} (w : Bool) (e : Ending) (f : Flags) where
  inside : {X : Test} {s : ℕ} → Goes rule (Lex text) X end (first_part w e f) s (first_part w e (minus_in f)) s (λ us. us) (still 0)
  inside = same (λ ts us i j ls rest d. any_in_like (first_part w e f) (first_part w e (minus_in f)) (first_inside w e f) d) (λ ts us i j ls rest d. any_in_like (first_part w e (minus_in f)) (first_part w e f) (first_back w e f) d)

  pub none_outside : {s : ℕ} → NoFirstPart text w e (minus_in f) s → NoFirstPart text w e f s
  none_outside {s} n = part_by (inside {X = plain (is (end_kind e))}) (last_between (end_kind e) _ (first_part w e f) s) ▹✗ n

-- ---- the states

module _ {text : List ℕ} where
  out_of : {f : Flags} {w : Bool} {p q : Parser} {c : Context} {first : Option NodeId} → At text f p → FirstTaken text (minus_in f) w (record p { ctx = c }) q first → FirstTaken text f w p (record q { ctx = p.ctx }) first
  out_of {f} {w} {p} {q} {c} a x = record {
    at = at_under p.ctx (flags_same p (record q { ctx = p.ctx }) refl x.same.follows.source_type x.same.options ∙ a.flags_are) x.at;
    same = record { follows = follows_on (ctx_set c a.at).0 (follows_on x.same.follows (ctx_set p.ctx x.at.at).0); options = x.same.options; ctx = refl; depth = x.same.depth; visits = x.same.visits; early = x.same.early; lies = x.same.lies };
    forward = x.forward;
    begins = x.begins;
    slots = x.slots;
    puts = x.puts;
    strips = x.strips;
    pass = x.pass;
    walked = x.walked;
    read = λ e s. verdict_of (x.read e s) (λ y. record { reach = max 0 y.reach; near = let i = y.near in omega arith; goes = inside w e f ▹ y.goes }) (λ n. none_outside w e f n);
    none = λ e s. none_outside w e f (x.none e s);
    kept = x.kept;
    held = x.held;
    keeps = x.keeps;
  }

  pub first_outside : {f : Flags} {w : Bool} {p o q v : Parser} {c d : Context} {first : Option NodeId} → At text f p → d ≡ p.ctx → o ≡ record p { ctx = c } → FirstTaken text (minus_in f) w o q first → v ≡ record q { ctx = d } → FirstTaken text f w p v first
  first_outside {f} {w} {p} {o} {q} {v} {c} {d} {first} a i h x j = subst (λ (r : Parser). FirstTaken text f w p r first) (sym (j ∙ ap (λ (u : Context). record q { ctx = u }) i)) (out_of a (subst (λ (r : Parser). FirstTaken text (minus_in f) w r q first) h x))

pub first_stops_outside : (text : List ℕ) (f : Flags) (w : Bool) (p o q : Parser) (c : Context) (x : Stop) → IsAt p → o ≡ record p { ctx = c } → Stops o q x ((e : Ending) → NoFirstPart text w e (minus_in f) o.prev_token_end) → Stops p q x ((e : Ending) → NoFirstPart text w e f p.prev_token_end)
first_stops_outside text f w p o q c x a h z = stops_later q x (ctx_set c a).0 (λ w. w) (λ w. w) (λ g. g) (λ n e. none_outside w e f (n e)) (subst (λ (r : Parser). Stops r q x ((e : Ending) → NoFirstPart text w e (minus_in f) r.prev_token_end)) h z)
