-- The encoding of slot names.
use Rattle.std.specs.Prelude.{ℕ, Bool, refl}
use Rattle.std.specs.Coded.{Coded, code_by, coded×, coded_ℕ, coded_bool}
use Rattle.gc_graph.specs.Slots.{SlotName}

abbrev pub coded_slot : Coded SlotName
coded_slot = code_by (Bool × ℕ) (coded× coded_bool coded_ℕ) (λ s. (s.shared, s.index)) (λ p. record { shared = p.0; index = p.1 }) (λ _. refl)
