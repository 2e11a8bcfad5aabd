-- The handshake, through which a mutator goes to its collector and back. It lasts as long as the heap.
use Rattle.std.specs.Prelude.{◌≡◌, ◌≢◌, ℕ, Bool, true, false, List, ◌∷◌, length, map, slice_index, is_some, Option, Some, None, refl}
use Rattle.std.specs.Coded.{Coded, code_by, coded×, coded_ℕ, coded_bool}
use mathlib.Core.Option.{Option as Opt, some}
use lib.ListN.{get_elem?}
use Rattle.atomic_table.specs.Seated.{TableId, table_id_coded}
use Rattle.atomic_table.specs.Table.{State, Me, Step, rest}
use Rattle.gc_concurrent.specs.declared.commands.Commander.{Commander}
use Rattle.gc_concurrent.specs.Internal.Codes.{situation_coded}
use Rattle.gc_concurrent.specs.Holders.{cells_of, situation_in}
use Rattle.gc_concurrent.specs.Moves.{Situation, StaysOrFlips, no_moves}
use Rattle.gc_concurrent.specs.Ends.{begun_with}
use Rattle.gc_concurrent.specs.Internal.Rule.{no_heap}

-- whether it waits, what it handed over, and the table of its cells
pub record Goer : Type 0 where
  pub waits : Bool
  pub left : Situation
  pub row : TableId

-- where the handshake stands, what was taken, and the table of the cells
pub record Keeper : Type 0 where
  pub phase : ℕ
  pub took : Situation
  pub row : TableId

-- what a mutator without words would have
abbrev pub nowhere : Situation
nowhere = record { heap = no_heap; moves = no_moves; begun = begun_with no_heap; logged = 0 }

pub record HandshakeKnown : Type 0 where
  pub goes : Bool
  pub keeps : Bool
  pub goer : Goer
  pub keeper : Keeper

abbrev pub goer_coded : Coded Goer
goer_coded = code_by (Bool × (Situation × TableId)) (coded× coded_bool (coded× situation_coded table_id_coded)) (λ g. (g.waits, (g.left, g.row))) (λ p. record { waits = p.0; left = p.1.0; row = p.1.1 }) (λ _. refl)

abbrev pub keeper_coded : Coded Keeper
keeper_coded = code_by (ℕ × (Situation × TableId)) (coded× coded_ℕ (coded× situation_coded table_id_coded)) (λ k. (k.phase, (k.took, k.row))) (λ p. record { phase = p.0; took = p.1.0; row = p.1.1 }) (λ _. refl)

abbrev pub handshake_coded : Coded HandshakeKnown
handshake_coded = code_by (Bool × (Bool × (Goer × Keeper))) (coded× coded_bool (coded× coded_bool (coded× goer_coded keeper_coded))) (λ v. (v.goes, (v.keeps, (v.goer, v.keeper)))) (λ p. record { goes = p.0; keeps = p.1.0; goer = p.1.1.0; keeper = p.1.1.1 }) (λ _. refl)

pub data Stage : Type 0 where
  fresh : Stage
  running : Stage
  asked : Stage
  handed : Stage
  taken : Stage
  finished : Stage

abbrev pub Slots : Type 0
Slots = List (Opt (Option Commander))

-- such a mutator lies in the slot
abbrev pub IsHome : (Commander → Type 0) → Slots → Type 0
IsHome P homes = (c : Commander) × (get_elem? homes 0 ≡ some (some (Some c))) × P c

abbrev pub HandshakeStands : Stage → ℕ → Goer → Keeper → Slots → Type 0
HandshakeStands fresh handshake g k homes = (handshake ≡ 4) × (g.waits ≡ false) × (k.phase ≡ 4) × (k.row ≡ g.row) × (get_elem? homes 0 ≡ some (some None))
HandshakeStands running handshake g k homes = (handshake ≡ 0) × (g.waits ≡ false) × (k.phase ≡ 0) × (k.row ≡ g.row)
HandshakeStands asked handshake g k homes = (handshake ≡ 1) × (g.waits ≡ false) × (k.phase ≡ 1) × (k.row ≡ g.row)
HandshakeStands handed handshake g k homes = (handshake ≡ 2) × (g.waits ≡ true) × (k.phase ≡ 1) × IsHome (λ c. (situation_in c ≡ g.left) × (cells_of c ≡ k.row)) homes
HandshakeStands taken handshake g k homes = (handshake ≡ 2) × (g.waits ≡ true) × (k.phase ≡ 2) × (k.took ≡ g.left)
HandshakeStands finished handshake g k homes = (handshake ≡ 3) × (g.waits ≡ true) × (k.phase ≡ 0) × IsHome (λ c. StaysOrFlips g.left (situation_in c) × (cells_of c ≡ k.row)) homes

abbrev pub HandshakeSeated : ℕ → ℕ → Goer → Keeper → ℕ → HandshakeKnown → Type 0
HandshakeSeated goes_at keeps_at g k j v = (v.goes ≡ true → (j ≡ goes_at) × (v.goer ≡ g)) × (v.keeps ≡ true → (j ≡ keeps_at) × (v.keeper ≡ k))

-- a handshake between two steps
abbrev pub HandshakeState : Type 0
HandshakeState = State (Option Commander) HandshakeKnown

pub record IsHandshake (s : HandshakeState) : Type 0 where
  pub goer : Goer
  pub keeper : Keeper
  pub stage : Stage
  pub goes_at : ℕ
  pub keeps_at : ℕ
  pub wide : length s.words ≡ 1
  pub room : length s.homes ≡ 1
  pub fits : HandshakeStands stage (slice_index s.words 0) goer keeper s.homes
  pub seats : (j : ℕ) (v : HandshakeKnown) → get_elem? s.views j ≡ some v → HandshakeSeated goes_at keeps_at goer keeper j v

-- one of its seats knows this
abbrev pub IsSeatOf : HandshakeState → HandshakeKnown → Type 0
IsSeatOf s v = (j : ℕ) × (get_elem? s.views j ≡ some v)

-- the first view
abbrev pub handshake_opening : Commander → HandshakeKnown
handshake_opening c = record { goes = true; keeps = true; goer = record { waits = false; left = situation_in c; row = cells_of c }; keeper = record { phase = 4; took = situation_in c; row = cells_of c } }

abbrev pub only_goes : HandshakeKnown → HandshakeKnown
only_goes v = record v { keeps = false }

abbrev pub only_keeps : HandshakeKnown → HandshakeKnown
only_keeps v = record v { goes = false }

-- the slots that a seat has taken, and whether there is a mutator in each
abbrev pub HandshakeSat : Type 0
HandshakeSat = Me (Option Commander) HandshakeKnown

abbrev pub hands : HandshakeSat → List (ℕ × Bool)
hands me = map (λ (x : ℕ × Option Commander). (x.0, is_some x.1)) me.1

abbrev pub HandshakeStep : Type 0
HandshakeStep = Step (Option Commander)

abbrev pub parked : Commander → HandshakeKnown → HandshakeKnown
parked c v = record v { goer = record { waits = true; left = situation_in c; row = v.goer.row } }

abbrev pub tells_park : HandshakeStep → HandshakeSat → ℕ → HandshakeSat → Type 0
tells_park st me found me' = (found ≡ 1 → (c : Commander) (more : List (ℕ × Option Commander)) → me.1 ≡ (0, Some c) ∷ more → me' ≡ (parked c me.0, rest me.1)) × (found ≢ 1 → me' ≡ me)

abbrev pub resumed : Commander → HandshakeKnown → HandshakeKnown
resumed c v = record v { goer = record { waits = false; left = v.goer.left; row = cells_of c } }

abbrev pub tells_resume : HandshakeStep → HandshakeSat → ℕ → HandshakeSat → Type 0
tells_resume st me found me' = (found ≡ 3 → (c : Commander) × StaysOrFlips me.0.goer.left (situation_in c) × (me' ≡ (resumed c me.0, (0, Some c) ∷ me.1))) × (found ≢ 3 → me' ≡ me)

abbrev pub in_phase : ℕ → HandshakeKnown → HandshakeKnown
in_phase n v = record v { keeper = record v.keeper { phase = n } }

-- a seat that is both ends of a new handshake takes the empty slot, and the mutator runs
abbrev pub tells_start : HandshakeStep → HandshakeSat → ℕ → HandshakeSat → Type 0
tells_start st me found me' = (found ≡ 4) × (me' ≡ (in_phase 0 me.0, (0, None) ∷ me.1))

abbrev pub tells_ask : HandshakeStep → HandshakeSat → ℕ → HandshakeSat → Type 0
tells_ask st me found me' = (found ≡ 0 → me' ≡ (in_phase 1 me.0, me.1)) × (found ≢ 0 → me' ≡ me)

abbrev pub took_it : Commander → HandshakeKnown → HandshakeKnown
took_it c v = record v { keeper = record { phase = 2; took = situation_in c; row = v.keeper.row } }

abbrev pub tells_hand_over : HandshakeStep → HandshakeSat → ℕ → HandshakeSat → Type 0
tells_hand_over st me found me' = (found ≡ 2 → (c : Commander) × (cells_of c ≡ me.0.keeper.row) × (me' ≡ (took_it c me.0, (0, Some c) ∷ me.1))) × (found ≢ 2 → me' ≡ me)

-- the collector asks no longer, or takes the mutator that has stopped
abbrev pub tells_withdraw : HandshakeStep → HandshakeSat → ℕ → HandshakeSat → Type 0
tells_withdraw st me found me' = (found ≡ 1 → me' ≡ (in_phase 0 me.0, me.1)) × (found ≢ 1 → (c : Commander) × (cells_of c ≡ me.0.keeper.row) × (me' ≡ (took_it c me.0, (0, Some c) ∷ me.1)))

abbrev pub let_go : Commander → HandshakeKnown → HandshakeKnown
let_go c v = record v { keeper = record { phase = 0; took = v.keeper.took; row = cells_of c } }

abbrev pub tells_go : HandshakeStep → HandshakeSat → ℕ → HandshakeSat → Type 0
tells_go st me found me' = (c : Commander) (more : List (ℕ × Option Commander)) → me.1 ≡ (0, Some c) ∷ more → me' ≡ (let_go c me.0, rest me.1)
