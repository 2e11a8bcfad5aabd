-- Every event that has a text can happen.
use Rattle.std.proofs.Common.{List, [], ◌∷◌, arith}
use Rattle.std.specs.List.{AllByRecursion}
use Rattle.gc_trace.specs.Grammar.{Recording, HasLine, IsOf, IsInRange, IsRecording}

All-second : {A : Type 0} (P Q : A → Type 0) (xs : List A) → AllByRecursion (λ x. P x × Q x) xs → AllByRecursion Q xs
All-second P Q [] all = tt
All-second P Q (x ∷ xs) all = (all.0.1, All-second P Q xs all.1)

pub in_range : (t : Recording) → IsRecording t → IsInRange t
in_range t sound = record {
  heading = (omega arith, omega arith, sound.heading.2, sound.heading.3, sound.heading.4, sound.heading.5);
  events = All-second (HasLine t.version) (IsOf t.mutators) t.events sound.events;
}
