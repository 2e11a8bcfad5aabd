-- A turn adds the script of the next mutator.
use Rattle.std.proofs.Common.{◌≡◌, ℕ, ◌+◌, List, [], ◌∷◌, ◌++◌, map, ap, ◌∙◌, sym, arith, rules}
use Rattle.std.proofs.lemmas.List.{map-append}
use Rattle.std.proofs.lemmas.List.FromFn.{map-range_with_len_more}
use Rattle.gc_graph.specs.declared.command.Op.{Op}
use Rattle.gc_model.specs.declared.event.Event.{Event}
use Rattle.gc_model.specs.Runs.{commands_of}
use Rattle.gc_trace.specs.Scripts.{scripts}
use Rattle.gc_trace.proofs.scripts.scripts_of.Goals as goal

-- one more script
script_more : {V : Type 0} (commands : V → List Op) (events : List Event) (m : ℕ) (old new : List V) (v : V) → new ≡ old ++ v ∷ [] → map commands old ≡ scripts m events → commands v ≡ commands_of m events → map commands new ≡ scripts (m + 1) events
script_more commands events m old new v pushed before last =
    ap (map commands) pushed ∙ map-append commands old (v ∷ []) ∙ ap (λ scripts. scripts ++ commands v ∷ []) before
    ∙ ap (λ (script : List Op). scripts m events ++ script ∷ []) last
    ∙ sym (map-range_with_len_more (λ m. commands_of m events) 0 m m (omega arith))

pub loop-m-preserved : goal.loop-m-preserved
loop-m-preserved c = script_more (λ script. script.items) c.args.trace.now.events.items c.loop-m.m c.loop-m.scripts.items c.push.new.self.items c.in_ok-script.script (search rules) c.loop-m.invariant (search rules)
