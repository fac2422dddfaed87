-- How what calls say, one behind the other, is put together.
use Rattle.std.proofs.Common.{◌≡◌, List, [], ◌∷◌, ◌++◌, refl, ap, sym, ◌∙◌}
use Rattle.laws_shared.specs.Answers.{Grown, Verdict, clean, unclean, wider}

joined_lists : {K : Type 0} (a b c : List K) → (a ++ b) ++ c ≡ a ++ (b ++ c)
joined_lists [] b c = refl
joined_lists (x ∷ a) b c = ap (λ v. x ∷ v) (joined_lists a b c)

pub ending : {K : Type 0} (a b : List K) → a ++ b ≡ [] → b ≡ []
ending [] b e = e
ending (x ∷ a) b e = cc

some_more : {K : Type 0} (a b : List K) → (a ≡ [] → ⊥) → a ++ b ≡ [] → ⊥
some_more [] b n e = n refl
some_more (x ∷ a) b n e = cc

module _ {K : Type 0} {p q : List K} where
  pub grown_first : {r : List K} → Grown p q → r ≡ q → Grown p r
  grown_first g h = record { more = g.more; kept = h ∙ g.kept; some = g.some }

  pub grown_then : {r : List K} → q ≡ p → Grown q r → Grown p r
  grown_then e g = record { more = g.more; kept = g.kept ∙ ap (λ v. v ++ g.more) e; some = g.some }

  pub grown_both : {r : List K} → Grown p q → Grown q r → Grown p r
  grown_both g h = record { more = g.more ++ h.more; kept = h.kept ∙ (ap (λ v. v ++ h.more) g.kept ∙ joined_lists p g.more h.more); some = some_more g.more h.more g.some }

module _ {W K : Type 0} {p q : List K} {C B : Type 0} where
  -- the same of what is said
  pub verdict_of : {D E : Type 0} → Verdict W p q C B → (C → D) → (B → E) → Verdict W p q D E
  verdict_of (clean e c) f g = clean e (f c)
  verdict_of (unclean e n) f g = unclean e (g n)
  verdict_of (wider w e c) f g = wider w e (f c)

  -- what both say
  pub either_way : {X : Type 0} → Verdict W p q C B → (C → X) → (B → X) → X
  either_way (clean e c) f g = f c
  either_way (unclean e n) f g = g n
  either_way (wider w e c) f g = f c

  -- one call, and another behind it
  pub and_then : {r : List K} {D E X Y : Type 0} → Verdict W p q C B → Verdict W q r D E → (C → D → X) → (B → Y) → (C → E → Y) → Verdict W p r X Y
  and_then (clean e c) (clean h d) f g i = clean (h ∙ e) (f c d)
  and_then (clean e c) (unclean h n) f g i = unclean (grown_then e h) (i c n)
  and_then (clean e c) (wider w h d) f g i = wider w (grown_then e h) (f c d)
  and_then (unclean e n) (clean h d) f g i = unclean (grown_first e h) (g n)
  and_then (unclean e n) (unclean h m) f g i = unclean (grown_both e h) (g n)
  and_then (unclean e n) (wider w h d) f g i = unclean (grown_both e h) (g n)
  and_then (wider w e c) (clean h d) f g i = wider w (grown_first e h) (f c d)
  and_then (wider w e c) (unclean h n) f g i = unclean (grown_both e h) (i c n)
  and_then (wider w e c) (wider v h d) f g i = wider w (grown_both e h) (f c d)

-- what is wider is told of what was read
pub told_wider : {W K : Type 0} {p q r : List K} {C B D E : Type 0} → W → Grown q r → Verdict W p q C B → (C → D) → (B → E) → Verdict W p r D E
told_wider w g (clean e c) f i = wider w (grown_then e g) (f c)
told_wider w g (unclean e n) f i = unclean (grown_both e g) (i n)
told_wider w g (wider v e c) f i = wider w (grown_both e g) (f c)

-- what keeps none comes before
pub behind_none : {W K : Type 0} {p q r : List K} {C B : Type 0} → q ≡ p → Verdict W q r C B → Verdict W p r C B
behind_none e (clean h c) = clean (h ∙ e) c
behind_none e (unclean h n) = unclean (grown_then e h) n
behind_none e (wider w h c) = wider w (grown_then e h) c

-- what a later call kept is kept behind what an earlier one did
pub after : {W K : Type 0} {p q r : List K} {C B : Type 0} → Verdict W p q C B → Grown q r → Grown p r
after (clean e c) g = grown_then e g
after (unclean e n) g = grown_both e g
after (wider w e c) g = grown_both e g

-- and behind what an earlier one kept
pub grown_on : {W K : Type 0} {p q r : List K} {C B : Type 0} → Grown p q → Verdict W q r C B → Grown p r
grown_on g (clean e c) = grown_first g e
grown_on g (unclean h n) = grown_both g h
grown_on g (wider w h c) = grown_both g h

pub grown_some : {K : Type 0} {p q : List K} → Grown p q → q ≡ [] → ⊥
grown_some {p = p} g e = g.some (ending p g.more (sym g.kept ∙ e))
