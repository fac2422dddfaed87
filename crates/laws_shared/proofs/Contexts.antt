-- What is read under other parameters, and those from before again.
use Rattle.std.proofs.Common.{ℕ, ◌≡◌, ◌||◌, Bool, true, false, List, refl, sym, ap, subst, ◌∙◌}
use Rattle.js_base.specs.declared.context.Context.{Context}
use Rattle.js_base.specs.Contexts.{SetsFlag, in_flag, yield_flag, await_flag, await_expression_flag, return_flag, new_target_flag}
use Rattle.js_grammar.specs.Productions.{G, Flags, Symbol, body_of, minus_in, params_of, plus_in}
use Rattle.js_cursor.specs.js_tree.declared.id.NodeId.{NodeId}
use Rattle.js_cursor.specs.Parsers.{Parser}
use Rattle.js_cursor.specs.Places.{IsAt}
use Rattle.js_cursor.specs.declared.stop.Stop.{Stop}
use Rattle.js_cursor.proofs.Later.{follows_on}
use Rattle.js_cursor.proofs.Changing.{ctx_set}
use Rattle.laws_shared.specs.Answers.{Numbered, Stops, Underived, Verdict}
use Rattle.js_grammar.specs.Parsing.{plain, full, Fails}
use Rattle.js_grammar.specs.Table.{rule}
use Rattle.js_grammar.specs.Trees.{end}
use Rattle.laws_shared.specs.Heads.{widened}
use Rattle.laws_shared.specs.Contexts.{EntersAsyncHead, EntersMethod, SetsAwait, arrow_body, arrow_head, braced_body}
use Rattle.laws_shared.specs.Lexemes.{Lex}
use Rattle.laws_shared.specs.Methods.{WholeTaken}
use Rattle.laws_shared.specs.States.{At, IsPlain, whole, sign, nothing, flags_of}
use Rattle.laws_shared.proofs.Moving.{flags_same, stops_later}

-- the same of what is said of other parameters, which are wide or not as these
as_wide : {v w : Bool} {K : Type 0} {p q : List K} {C B : Type 0} → v ≡ w → Verdict (v ≡ true) p q C B → Verdict (w ≡ true) p q C B
as_wide {p = p} {q = q} {C = C} {B = B} e v = subst (λ (b : Bool). Verdict (b ≡ true) p q C B) e v

either_way : (b : Bool) → true ≡ (b || true)
either_way true = refl
either_way false = refl

module _ {text : List ℕ} where
  plain_under : {p : Parser} (c : Context) → IsPlain text p → IsPlain text (record p { ctx = c })
  plain_under c (whole d n x) = whole d n x
  plain_under c (sign d k x) = sign d k x
  plain_under c (nothing d k n) = nothing d k n

  pub at_under : {f g : Flags} {p : Parser} (c : Context) → widened g.wide (flags_of (record p { ctx = c })) ≡ g → At text f p → At text g (record p { ctx = c })
  at_under c e a = record { text_is = a.text_is; flags_are = e; at = (ctx_set c a.at).1; plain = plain_under c a.plain; behind = a.behind; heads = a.heads; kept_last = a.kept_last }

  -- with In
  with_in : {f : Flags} {p : Parser} {c : Context} → At text f p → SetsFlag in_flag true p.ctx c → widened f.wide (flags_of (record p { ctx = c })) ≡ plus_in f
  with_in {f} {p} {c} a s = rw (s.flag, s.others yield_flag (λ e. cc), s.others await_flag (λ e. cc), s.others await_expression_flag (λ e. cc), s.others return_flag (λ e. cc), s.others new_target_flag (λ e. cc)) (ap plus_in a.flags_are)

  pub in_at : {f : Flags} {p q : Parser} {c d : Context} → At text f p → d ≡ p.ctx → SetsFlag in_flag true d c → q ≡ record p { ctx = c } → At text (plus_in f) q
  in_at {f} {p} {q} {c} {d} a e s h = subst (At text (plus_in f)) (sym h) (at_under c (with_in a (subst (λ (v : Context). SetsFlag in_flag true v c) e s)) a)

  -- without In
  without_in : {f : Flags} {p : Parser} {c : Context} → At text f p → SetsFlag in_flag false p.ctx c → widened f.wide (flags_of (record p { ctx = c })) ≡ minus_in f
  without_in {f} {p} {c} a s = rw (s.flag, s.others yield_flag (λ e. cc), s.others await_flag (λ e. cc), s.others await_expression_flag (λ e. cc), s.others return_flag (λ e. cc), s.others new_target_flag (λ e. cc)) (ap minus_in a.flags_are)

  pub no_in_at : {f : Flags} {p q : Parser} {c d : Context} → At text f p → d ≡ p.ctx → SetsFlag in_flag false d c → q ≡ record p { ctx = c } → At text (minus_in f) q
  no_in_at {f} {p} {q} {c} {d} a e s h = subst (At text (minus_in f)) (sym h) (at_under c (without_in a (subst (λ (v : Context). SetsFlag in_flag false v c) e s)) a)

  -- the parameters of an asynchronous arrow function
  in_head : {f : Flags} {p : Parser} {c : Context} → At text f p → EntersAsyncHead p.ctx c → widened f.wide (flags_of (record p { ctx = c })) ≡ record f { await_ = true }
  in_head {f} {p} {c} a s = rw (s.others in_flag (λ e. cc) (λ e. cc), s.others yield_flag (λ e. cc) (λ e. cc), s.reads, s.flag, s.others return_flag (λ e. cc) (λ e. cc), s.others new_target_flag (λ e. cc) (λ e. cc)) (ap (λ (g : Flags). record g { await_ = true }) a.flags_are)

  pub async_head_at : {f : Flags} {p q : Parser} {c d : Context} → At text f p → d ≡ p.ctx → EntersAsyncHead d c → q ≡ record p { ctx = c } → At text (arrow_head true f) q
  async_head_at {f} {p} {q} {c} {d} a e s h = subst (λ (b : Bool). At text (record f { await_ = b }) q) (either_way f.await_) (subst (At text (record f { await_ = true })) (sym h) (at_under c (in_head a (subst (λ (v : Context). EntersAsyncHead v c) e s)) a))

  -- without Yield, and under Await in an asynchronous one
  in_arrow : {m : Bool} {f : Flags} {p : Parser} {c d : Context} → At text f p → SetsFlag yield_flag false p.ctx c → SetsAwait m c d → widened f.wide (flags_of (record p { ctx = d })) ≡ arrow_body m f
  in_arrow {m} {f} {p} {c} {d} a s t = rw (t.others in_flag (λ e. cc) (λ e. cc), s.others in_flag (λ e. cc), t.others yield_flag (λ e. cc) (λ e. cc), s.flag, t.reads, t.flag, t.others return_flag (λ e. cc) (λ e. cc), s.others return_flag (λ e. cc), t.others new_target_flag (λ e. cc) (λ e. cc), s.others new_target_flag (λ e. cc)) (ap (arrow_body m) a.flags_are)

  pub arrow_at : {m : Bool} {f : Flags} {p q : Parser} {b c d : Context} → At text f p → b ≡ p.ctx → SetsFlag yield_flag false b c → SetsAwait m c d → q ≡ record p { ctx = d } → At text (arrow_body m f) q
  arrow_at {m} {f} {p} {q} {b} {c} {d} a e s t h = subst (At text (arrow_body m f)) (sym h) (at_under d (in_arrow a (subst (λ (v : Context). SetsFlag yield_flag false v c) e s) t) a)

  -- and with In and Return
  in_braces : {m : Bool} {f : Flags} {p : Parser} {c d e g : Context} → At text f p → SetsFlag yield_flag false p.ctx c → SetsAwait m c d → SetsFlag in_flag true d e → SetsFlag return_flag true e g → widened f.wide (flags_of (record p { ctx = g })) ≡ braced_body m f
  in_braces {m} {f} {p} {c} {d} {e} {g} a s t u v = rw (v.others in_flag (λ e. cc), u.flag, v.others yield_flag (λ e. cc), u.others yield_flag (λ e. cc), t.others yield_flag (λ e. cc) (λ e. cc), s.flag, v.others await_flag (λ e. cc), u.others await_flag (λ e. cc), v.others await_expression_flag (λ e. cc), u.others await_expression_flag (λ e. cc), t.reads, t.flag, v.flag, v.others new_target_flag (λ e. cc), u.others new_target_flag (λ e. cc), t.others new_target_flag (λ e. cc) (λ e. cc), s.others new_target_flag (λ e. cc)) (ap (braced_body m) a.flags_are)

  pub braces_at : {m : Bool} {f : Flags} {p q : Parser} {b c d e g : Context} → At text f p → b ≡ p.ctx → SetsFlag yield_flag false b c → SetsAwait m c d → SetsFlag in_flag true d e → SetsFlag return_flag true e g → q ≡ record p { ctx = g } → At text (braced_body m f) q
  braces_at {m} {f} {p} {q} {b} {c} {d} {e} {g} a i s t u v h = subst (At text (braced_body m f)) (sym h) (at_under g (in_braces a (subst (λ (w : Context). SetsFlag yield_flag false w c) i s) t u v) a)

  -- the parameters of a function
  in_function : {f : Flags} {p : Parser} {m b : Bool} {c d e g : Context} → At text f p → SetsFlag in_flag true p.ctx c → SetsFlag yield_flag b c d → SetsAwait m d e → SetsFlag new_target_flag true e g → widened f.wide (flags_of (record p { ctx = g })) ≡ params_of m b f
  in_function {f} {p} {m} {b} {c} {d} {e} {g} a s t u v = rw (v.others in_flag (λ e. cc), u.others in_flag (λ e. cc) (λ e. cc), t.others in_flag (λ e. cc), s.flag, v.others yield_flag (λ e. cc), u.others yield_flag (λ e. cc) (λ e. cc), t.flag, v.others await_flag (λ e. cc), v.others await_expression_flag (λ e. cc), u.reads, u.flag, v.others return_flag (λ e. cc), u.others return_flag (λ e. cc) (λ e. cc), t.others return_flag (λ e. cc), s.others return_flag (λ e. cc), v.flag, sym (either_way f.wide)) (ap (params_of m b) a.flags_are)

  pub parameters_at : {f : Flags} {p q : Parser} {m b : Bool} {o c d e g : Context} → At text f p → o ≡ p.ctx → SetsFlag in_flag true o c → SetsFlag yield_flag b c d → SetsAwait m d e → SetsFlag new_target_flag true e g → q ≡ record p { ctx = g } → At text (params_of m b f) q
  parameters_at {f} {p} {q} {m} {b} {o} {c} {d} {e} {g} a i s t u v h = subst (At text (params_of m b f)) (sym h) (at_under g (in_function a (subst (λ (w : Context). SetsFlag in_flag true w c) i s) t u v) a)

  -- and its body
  in_function_body : {f : Flags} {p : Parser} {m b : Bool} {c d e g h : Context} → At text f p → SetsFlag in_flag true p.ctx c → SetsFlag yield_flag b c d → SetsAwait m d e → SetsFlag new_target_flag true e g → SetsFlag return_flag true g h → widened f.wide (flags_of (record p { ctx = h })) ≡ body_of m b f
  in_function_body {f} {p} {m} {b} {c} {d} {e} {g} {h} a s t u v w = rw (w.others in_flag (λ e. cc), v.others in_flag (λ e. cc), u.others in_flag (λ e. cc) (λ e. cc), t.others in_flag (λ e. cc), s.flag, w.others yield_flag (λ e. cc), v.others yield_flag (λ e. cc), u.others yield_flag (λ e. cc) (λ e. cc), t.flag, w.others await_flag (λ e. cc), v.others await_flag (λ e. cc), w.others await_expression_flag (λ e. cc), v.others await_expression_flag (λ e. cc), u.reads, u.flag, w.flag, w.others new_target_flag (λ e. cc), v.flag, sym (either_way f.wide)) (ap (body_of m b) a.flags_are)

  pub function_body_at : {f : Flags} {p q : Parser} {m b : Bool} {o c d e g h : Context} → At text f p → o ≡ p.ctx → SetsFlag in_flag true o c → SetsFlag yield_flag b c d → SetsAwait m d e → SetsFlag new_target_flag true e g → SetsFlag return_flag true g h → q ≡ record p { ctx = h } → At text (body_of m b f) q
  function_body_at {f} {p} {q} {m} {b} {o} {c} {d} {e} {g} {h} a i s t u v w j = subst (At text (body_of m b f)) (sym j) (at_under h (in_function_body a (subst (λ (x : Context). SetsFlag in_flag true x c) i s) t u v w) a)

  -- the parameters of a method
  in_params : {m b : Bool} {f : Flags} {p : Parser} {c : Context} → At text f p → EntersMethod m b p.ctx c → widened f.wide (flags_of (record p { ctx = c })) ≡ params_of m b f
  in_params {m} {b} {f} a s = rw (s.allows_in, s.allows_yield, s.awaits, s.allows_await, s.allows_new_target, s.returns_same, sym (either_way f.wide)) (ap (λ (g : Flags). params_of m b g) a.flags_are)

  pub params_at : {m b : Bool} {f : Flags} {p q : Parser} {c d : Context} → At text f p → d ≡ p.ctx → EntersMethod m b d c → q ≡ record p { ctx = c } → At text (params_of m b f) q
  params_at {m} {b} {f} {p} {q} {c} {d} a e s h = subst (At text (params_of m b f)) (sym h) (at_under c (in_params a (subst (λ (v : Context). EntersMethod m b v c) e s)) a)

  -- and back
  out_of : {f g : Flags} {n : Symbol} {p q : Parser} {c : Context} {id : NodeId} → g.wide ≡ f.wide → At text f p → Numbered text g n (record p { ctx = c }) q id → Numbered text f n p (record q { ctx = p.ctx }) id
  out_of {f} {g} {n} {p} {q} {c} i a x = record {
    answer = record {
      at = at_under p.ctx (flags_same p (record q { ctx = p.ctx }) refl x.answer.same.follows.source_type x.answer.same.options ∙ a.flags_are) x.answer.at;
      same = record { follows = follows_on (ctx_set c a.at).0 (follows_on x.answer.same.follows (ctx_set p.ctx x.answer.at.at).0); options = x.answer.same.options; ctx = refl; depth = x.answer.same.depth; visits = x.answer.same.visits; early = x.answer.same.early; lies = x.answer.same.lies };
      further = x.answer.further;
      label = x.answer.label;
      slots = x.answer.slots;
      stops = x.answer.stops;
      row = x.answer.row;
      pass = x.answer.pass;
      walked = x.answer.walked;
      verdict = as_wide i x.answer.verdict;
    };
    holds = x.holds;
    keeps = x.keeps;
  }

  pub out_of_context : {f g : Flags} {n : Symbol} {p e q w : Parser} {c d : Context} {id : NodeId} → g.wide ≡ f.wide → At text f p → d ≡ p.ctx → e ≡ record p { ctx = c } → Numbered text g n e q id → w ≡ record q { ctx = d } → Numbered text f n p w id
  out_of_context {f} {g} {n} {p} {e} {q} {w} {c} {d} {id} v a i h x j = subst (λ (r : Parser). Numbered text f n p r id) (sym (j ∙ ap (λ (v : Context). record q { ctx = v }) i)) (out_of v a (subst (λ (r : Parser). Numbered text g n r q id) h x))

pub stops_in_context : (text : List ℕ) (n : Symbol) (p e q : Parser) (c : Context) (s : Stop) → IsAt p → e ≡ record p { ctx = c } → Stops e q s (Underived text n e.prev_token_end) → Stops p q s (Underived text n p.prev_token_end)
stops_in_context text n p e q c s a h x = stops_later q s (ctx_set c a).0 (λ w. w) (λ w. w) (λ g. g) (λ x. x) (subst (λ (r : Parser). Stops r q s (Underived text n r.prev_token_end)) h x)

-- ---- a part that anything may follow

module _ {text : List ℕ} where
  whole_out : {f g : Flags} {n : G} {p q : Parser} {c : Context} {id : NodeId} → g.wide ≡ f.wide → At text f p → WholeTaken text g n (record p { ctx = c }) q id → WholeTaken text f n p (record q { ctx = p.ctx }) id
  whole_out {f} {g} {n} {p} {q} {c} i a x = record {
    at = at_under p.ctx (flags_same p (record q { ctx = p.ctx }) refl x.same.follows.source_type x.same.options ∙ a.flags_are) x.at;
    same = record { follows = follows_on (ctx_set c a.at).0 (follows_on x.same.follows (ctx_set p.ctx x.at.at).0); options = x.same.options; ctx = refl; depth = x.same.depth; visits = x.same.visits; early = x.same.early; lies = x.same.lies };
    further = x.further;
    label = x.label;
    slots = x.slots;
    pass = x.pass;
    walked = x.walked;
    verdict = as_wide i x.verdict;
    holds = x.holds;
    keeps = x.keeps;
  }

  pub whole_out_of_context : {f g : Flags} {n : G} {p e q w : Parser} {c d : Context} {id : NodeId} → g.wide ≡ f.wide → At text f p → d ≡ p.ctx → e ≡ record p { ctx = c } → WholeTaken text g n e q id → w ≡ record q { ctx = d } → WholeTaken text f n p w id
  whole_out_of_context {f} {g} {n} {p} {e} {q} {w} {c} {d} {id} v a i h x j = subst (λ (r : Parser). WholeTaken text f n p r id) (sym (j ∙ ap (λ (v : Context). record q { ctx = v }) i)) (whole_out v a (subst (λ (r : Parser). WholeTaken text g n r q id) h x))

pub whole_stops_in_context : (text : List ℕ) (g : G) (p e q : Parser) (c : Context) (s : Stop) → IsAt p → e ≡ record p { ctx = c } → Stops e q s (Fails rule (Lex text) (plain full) end g e.prev_token_end) → Stops p q s (Fails rule (Lex text) (plain full) end g p.prev_token_end)
whole_stops_in_context text g p e q c s a h x = stops_later q s (ctx_set c a).0 (λ w. w) (λ w. w) (λ g. g) (λ x. x) (subst (λ (r : Parser). Stops r q s (Fails rule (Lex text) (plain full) end g r.prev_token_end)) h x)
