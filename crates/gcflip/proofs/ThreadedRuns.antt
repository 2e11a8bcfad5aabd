-- A run of a trace's scripts in threads, assembled from the contracts of its parts.
use Rattle.std.proofs.Common.{◌≡◌, ℕ, List, [], length, map, ap, sym, ◌∙◌, subst, arith}
use Rattle.std.specs.declared.vec.Vec.{Vec}
use Rattle.std.specs.declared.alloc.Global.{Global}
use Rattle.std.proofs.lemmas.List.{length-map}
use Rattle.std.proofs.lemmas.List.FromFn.{length-map-range_with_len, get_or-map-range_with_len}
use Rattle.std.specs.Prelude.{slice_index_or}
use Rattle.gc_graph.specs.declared.command.Op.{Op}
use Rattle.gc_shared.specs.Scripts.{HasRunScripts}
use Rattle.gc_trace.specs.Grammar.{Recording}
use Rattle.gc_model.specs.Runs.{commands_of}
use Rattle.gc_trace.specs.Scripts.{scripts}
use Rattle.gc_world.specs.History.{IsHistory}
use Rattle.gc_world.specs.World.{Past}
use Rattle.gcflip.specs.ThreadedRuns.{IsThreadedRun}

-- the scripts that are run are those of the trace
abbrev pub AreScripts : Recording → List (Vec Op Global) → Type 0
AreScripts t given = map (λ script. script.items) given ≡ scripts t.mutators t.events

count_is : (t : Recording) (given : List (Vec Op Global)) → AreScripts t given → length given ≡ t.mutators
count_is t given are = sym (length-map given (λ script. script.items)) ∙ ap length are ∙ length-map-range_with_len (λ m. commands_of m t.events) 0 t.mutators

pub threaded : (t : Recording) (turns : ℕ) (given : List (Vec Op Global)) (past : Past) → AreScripts t given → HasRunScripts t.size given turns past → IsHistory past.size past.mutators past.entries → IsThreadedRun t turns past.entries
threaded t turns given past are ran history =
    let count : length given ≡ t.mutators = count_is t given are in
    record {
      history = subst (λ (size : ℕ). IsHistory size t.mutators past.entries) ran.opened (subst (λ (mutators : ℕ). IsHistory past.size mutators past.entries) (ran.mutators ∙ count) history);
      commands = λ m lt. ran.commands m (omega (arith, lt, count)) ∙ ap (λ (all : List (List Op)). slice_index_or all m []) are ∙ get_or-map-range_with_len (λ k. commands_of k t.events) 0 t.mutators m m [] lt (omega arith);
      steps = ran.steps;
      useful = ran.useful;
    }
