-- A mutator that is not asked runs on.
use Rattle.std.proofs.Common.{refl, inl}
use Rattle.gc_check.specs.InC.{done}
use Rattle.gcflip_beside_c.specs.Stages.{Stops}
use Rattle.gcflip_beside_c.specs.HandleStage.{HandleStage, closed, runs, parked, works, asks, holds, IsRunning}

pub runs_still : (s : HandleStage) → IsRunning s → Stops s s done
runs_still (runs heap) is = inl (refl, refl)
runs_still closed is = absurd is
runs_still (parked heap) is = absurd is
runs_still (works t) is = absurd is
runs_still (asks t) is = absurd is
runs_still (holds t heap) is = absurd is
