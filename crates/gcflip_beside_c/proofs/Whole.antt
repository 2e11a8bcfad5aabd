-- Calls on a mutator's handle are a run of its commands, and a handle shows what it showed.
use Rattle.std.proofs.Common.{◌≡◌, ℕ, true, List, [], ◌∷◌, inl, inr, refl, sym, subst}
use Rattle.gc_graph.specs.Graph.{Graph}
use Rattle.gc_graph.specs.Runs.{is_full}
use Rattle.gc_graph.specs.declared.command.Op.{Op}
use Rattle.gc_graph.specs.declared.reply.Reply.{Reply}
use Rattle.gc_heap.specs.Heap.{HeapWords, IsHeap}
use Rattle.gc_concurrent.specs.Heaps.{GoesOnIn}
use Rattle.gc_concurrent.specs.Law.{Ran, Shows}
use Rattle.gc_concurrent.specs.Machines.{Does}
use Rattle.gcflip_beside_c.specs.Commands.{RunsOn, GetsReply}
use Rattle.gcflip_beside_c.specs.HandleStage.{HandleStage, closed, runs, parked, works, asks, holds}
use Rattle.gcflip_beside_c.specs.Stages.{Stops, Resumes, RunsAgain}
use Rattle.gcflip_beside_c.specs.Whole.{CallsRan, HasSoundHeap, ShowsAt, StillShows, numbers_in_c}

-- ---- a run

pub ran_in_c : (heap : HeapWords) (ops : List Op) (told : List ℕ) (new : HandleStage) → CallsRan (runs heap) ops told new
    → (last : HeapWords) × (replies : List Reply) × Ran heap ops replies last × (told ≡ numbers_in_c ops replies)
ran_in_c heap [] [] new ran = (heap, [], λ g shows. shows, refl)
ran_in_c heap [] (answer ∷ told) new ran = absurd ran
ran_in_c heap (op ∷ ops) [] new ran = absurd ran
ran_in_c heap (op ∷ ops) (answer ∷ told) new ran =
    let did = ran.5 in
    let rest = ran_in_c ran.1 ops told new ran.6 in (
      rest.0,
      did.0 ∷ rest.1,
      (ran.1, ran.3, record { at = ran.0; sound = ran.2; shown = ran.4; does = did.1 }, did.2.1, rest.2),
      λ i. did.2.0 i ∷ rest.3 i,
    )

-- ---- what a handle shows

moved : (old new : HandleStage) → new ≡ old → StillShows old new
moved old new e g shows = subst (ShowsAt g) (sym e) shows

has_stopped : (heap : HeapWords) (new : HandleStage) → new ≡ parked heap → StillShows (runs heap) new
has_stopped heap new e g shows = subst (ShowsAt g) (sym e) shows

pub stops_show : (old new : HandleStage) (answer : ℕ) → Stops old new answer → StillShows old new
stops_show (runs heap) new answer (inl e) = moved (runs heap) new e.1
stops_show (runs heap) new answer (inr e) = has_stopped heap new e.1
stops_show (parked heap) new answer e = moved (parked heap) new e.1
stops_show closed new answer e = moved closed new e.1
stops_show (works t) new answer e = moved (works t) new e.1
stops_show (asks t) new answer e = moved (asks t) new e.1
stops_show (holds t heap) new answer e = moved (holds t heap) new e.1

abbrev pub Follows : Type 0
Follows = (g : Graph) (old new : HeapWords) → IsHeap new → Shows g old → GoesOnIn old new → Shows g new

goes_on : Follows → (heap : HeapWords) (new : HandleStage) → HasSoundHeap new → RunsAgain heap new → StillShows (parked heap) new
goes_on law heap (runs later) sound goes = λ g shows. law g heap later sound shows goes
goes_on law heap (parked later) sound goes = absurd goes
goes_on law heap closed sound goes = absurd goes
goes_on law heap (works t) sound goes = absurd goes
goes_on law heap (asks t) sound goes = absurd goes
goes_on law heap (holds t other) sound goes = absurd goes

pub resumes_show : Follows → (old new : HandleStage) (answer : ℕ) → HasSoundHeap new → Resumes old new answer → StillShows old new
resumes_show law (runs heap) new answer sound e = moved (runs heap) new e.1
resumes_show law (parked heap) new answer sound (inl e) = goes_on law heap new sound e.1
resumes_show law (parked heap) new answer sound (inr e) = moved (parked heap) new e.1
resumes_show law closed new answer sound e = moved closed new e.1
resumes_show law (works t) new answer sound e = moved (works t) new e.1
resumes_show law (asks t) new answer sound e = moved (asks t) new e.1
resumes_show law (holds t heap) new answer sound e = moved (holds t heap) new e.1

abbrev pub FindsNone : Type 0
FindsNone = (g : Graph) (old new : HeapWords) (op : Op) (reply : Reply) → Does old op reply new → is_full reply ≡ true → Shows g old → Shows g new

pub full_shows : FindsNone → (old new : HandleStage) (op : Op) → RunsOn (GetsReply op (λ reply. is_full reply ≡ true)) old new → StillShows old new
full_shows law (runs heap) (runs later) op did = λ g shows. law g heap later op did.0 did.1 did.2 shows
full_shows law (runs heap) (parked later) op did = absurd did
full_shows law (runs heap) closed op did = absurd did
full_shows law (runs heap) (works t) op did = absurd did
full_shows law (runs heap) (asks t) op did = absurd did
full_shows law (runs heap) (holds t other) op did = absurd did
full_shows law (parked heap) new op did = absurd did
full_shows law closed new op did = absurd did
full_shows law (works t) new op did = absurd did
full_shows law (asks t) new op did = absurd did
full_shows law (holds t heap) new op did = absurd did
