-- In a ready collection nothing is due, so all fields and roots correspond, and its certificate holds in every run.
use Rattle.gc_model.specs.Passing.{PassesWhereReady, NeverRefused}
use Rattle.gc_model.proofs.Steps.{ready_parts, new_heap}
use Rattle.gc_model.proofs.Flips.{certified, corresponding_graphs}
use Rattle.gc_model.proofs.StateLaws.{in_runs, passes_where_ready, never_refused}
use Rattle.gc_model.proofs.laws.ready_flips_pass.Goals as goal

pub returns : goal.returns
returns c = record {
  certified = λ links others size free g c h k same ready. certified links others size free g c h k same (ready_parts c g ready);
  heap = λ size free g c h k same ready. new_heap size free g c h k same (ready_parts c g ready);
  corresponding = λ size free g c h k same ready. corresponding_graphs size free g c h k same (ready_parts c g ready);
  passes = passes_where_ready;
  never_refused = never_refused;
  runs = in_runs PassesWhereReady passes_where_ready;
  runs_never_refused = in_runs NeverRefused never_refused;
}
