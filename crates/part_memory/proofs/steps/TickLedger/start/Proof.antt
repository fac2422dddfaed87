-- The walk of a function that makes the ghost count 0: it is the one place that sets it.
use Rattle.std.proofs.Common.{[], ◌∷◌, refl}
use Rattle.std.proofs.raw_atomic.Walks.{proved}
use base.Fml.{ftrue}
use mir.Val.{vstruct, vnil}
use types.Kit.{‵, raw, ◌$◌, ◌∵◌, !, qed, done, keep, use0, fjoin, suffices}
use types.Run.{enter, no_more, returns}
use types.ByLocal.{alloc_all, pass_all, free_all, look_at, sets}
use types.Part.{agg}
use denote.Steps.{nothing}
use denote.Triple.Entry.{on_entry}
use denote.Triple.Walked.{Stays, walk_of, says, ends_at}
use denote.RattleType.{RattleType}
use denote.Shadow.{makes_shadow}
use denote.Struct.Struct.{Struct}
use Rattle.part_memory.specs.contracts.steps.TickLedger as ledger
use Rattle.part_memory.specs.contracts.steps.TickLedger.start as f
use Rattle.part_memory.proofs.steps.TickLedger.start.Statement.{statement}
use Rattle.part_memory.proofs.steps.TickLedger.start.Code as code

abbrev Fields : RattleType
Fields = Struct (record { name = (ledger.the_type).name; args = []; types = []; fields = [] })

abbrev stayed : Stays f.ended.signature.params f.ended.kept
stayed = tt

pub start_spec : {M : Type 1} → statement M
start_spec 𝓤 𝓛 𝓜 𝓡 wired =
    let c = f.clauses 𝓛 𝓜.mem 𝓡.returns in let W = walk_of 𝓛 f.ended stayed c in
    proved 𝓛 f.ended stayed c 𝓜 𝓡 tt
    f.Key.name code.function (code.unfolded 𝓤 𝓛.H 𝓜 𝓡 wired)
    (λ κs. tt) (λ κs. tt) (λ κs qs bounds a _ are.
    let y : W.Ghost = ((κs, qs, bounds, a, tt), tt) in
    qed 𝓛 (raw (on_entry 𝓛 f.signature κs qs a y.0.4) ∷ ‵ ftrue ∷ []) ∵ keep ! [] $
    enter ! _ _ _ _ _ $ alloc_all ! (λ l. pass_all ! refl tt $
    sets ! (agg ! (no_more !)) refl (tt, tt) $
    returns ! (look_at ! 0 refl) $ free_all ! refl $
    suffices ! _ (ends_at 𝓛 f.ended stayed c y (vstruct vnil) record { count = 0 } tt tt) $
    says ! refl $ nothing ! $ use0 𝓛 (‵ (Fields.own_val tt (vstruct vnil ∷ []))) (makes_shadow 𝓛 (Fields.own_val tt (vstruct vnil ∷ [])) (λ uss. (tt, tt)) (tt, (refl, tt))) $
    fjoin ! $ nothing ! $ nothing ! $ done !))
