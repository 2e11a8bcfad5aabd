-- The history of a run, derived from the receipts of its seats and the contract of `close`.
use Rattle.std.proofs.lemmas.Grind.{common_steps}
use Rattle.std.proofs.Common.{◌≡◌, ◌≢◌, ℕ, zero, suc, ◌+◌, ◌<◌, ◌≤◌, ◌==◌, Bool, true, false, cond, List, [], ◌∷◌, ◌++◌, length, map, filter, get_or, refl, sym, ap, ◌∙◌, arith, All, subst, ⊎_elim, eqb}
use Rattle.std.proofs.lemmas.Bool.{cases_lt, eq-eqb}
use Rattle.std.proofs.lemmas.Bool.Decides.{eqb_tells}
use Rattle.std.proofs.lemmas.List.{length-map}
use Rattle.std.specs.declared.vec.Vec.{Vec}
use Rattle.std.specs.declared.alloc.Global.{Global}
use Rattle.gc_graph.specs.declared.command.Op.{Op}
use Rattle.gc_model.specs.declared.step.Step.{Step}
use Rattle.gc_model.specs.declared.event.Event.{Event}
use Rattle.gc_model.specs.declared.event.Event.TheVariants.{Mutate, Collect}
use Rattle.gc_world.specs.declared.entry.Entry.{Entry}
use Rattle.gc_world.specs.World.{Past}
use Rattle.gc_shared.specs.declared.seat.Receipt.{Receipt}
use Rattle.gc_shared.specs.Seats.{SeatValue, Opening, count_of_seats}
use Rattle.gc_shared.specs.Closing.{receipts_of, IsWhole}
use Rattle.gc_shared.specs.Internal.Marks.{AgreeByNumber}
use Rattle.gc_shared.proofs.SeatNumbers.{agree_by_number}
use Rattle.gc_shared.specs.Scripts.{HasRunScripts, IsUsefulStep, script_at, is_collect, steps_of}
use Rattle.gc_model.specs.Runs.{command_by, commands_of}
use Rattle.gc_world.specs.History.{events_of}
use Rattle.gc_shared.specs.Internal.Scripts.{HaveEnded}
use Rattle.gc_shared.proofs.SeatEntries.{entry_on, selected, receipts_at, played_all, useful_all}

abbrev is_by : ℕ → Event → Bool
is_by m (Mutate k op) = k == m
is_by m (Collect step) = false

not_eq : (a b : ℕ) → a ≢ b → eqb a b ≡ false
not_eq a b ne = grind (arith, common_steps, eqb_tells)

-- one more entry
command_more : (m : ℕ) (e : Event) (ops : List Op) (rest : List Event) → map (Mutate m) ops ≡ rest → map (Mutate m) (command_by m e ++ ops) ≡ cond (is_by m e) (e ∷ rest) rest
command_more m e ops rest is = grind (arith, common_steps, eqb_tells)

if_map : (b : Bool) (e : Entry) (es : List Entry) → cond b (e.event ∷ map (λ e. e.event) es) (map (λ e. e.event) es) ≡ map (λ e. e.event) (cond b (e ∷ es) es)
if_map b e es = grind (arith, common_steps)

commands_are : (m : ℕ) (h : List Entry) → map (Mutate m) (commands_of m (events_of h)) ≡ map (λ e. e.event) (filter (λ e. is_by m e.event) h)
commands_are m [] = refl
commands_are m (e ∷ es) = command_more m e.event (commands_of m (events_of es)) (map (λ e. e.event) (filter (λ e. is_by m e.event) es)) (commands_are m es) ∙ if_map (is_by m e.event) e (filter (λ e. is_by m e.event) es)

same_commands : (m : ℕ) (xs ys : List Op) → map (Mutate m) xs ≡ map (Mutate m) ys → xs ≡ ys
same_commands m [] [] e = refl
same_commands m [] (y ∷ ys) e = let z = e in cc
same_commands m (x ∷ xs) [] e = let z = e in cc
same_commands m (x ∷ xs) (y ∷ ys) e = grind (arith, common_steps, same_commands m xs ys)

events_of_entries : (rs : List Receipt) → map (λ e. e.event) (map entry_on rs) ≡ map (λ r. r.entry.event) rs
events_of_entries [] = refl
events_of_entries (r ∷ rs) = ap (λ es. r.entry.event ∷ es) (events_of_entries rs)

all_entries : (rs : List Receipt) → All (λ r. IsUsefulStep r.entry.event r.entry.answer) rs → All (λ e. IsUsefulStep e.event e.answer) (map entry_on rs)
all_entries [] all k d lt = absurd (omega arith)
all_entries (r ∷ rs) all zero d lt = all 0 r (omega arith)
all_entries (r ∷ rs) all (suc k) d lt = all_entries rs (λ i q inside. all (suc i) q (omega arith)) k d (omega arith)

module _ (scripts : List (Vec Op Global)) (turns : ℕ) (seats : List SeatValue) (ended : HaveEnded scripts turns seats) where
  abbrev nobody : SeatValue
  nobody = record { number = 0; is_mutator = true; receipts = [] }

  numbers : (i : ℕ) (e : SeatValue) → i < length seats → (get_or seats i e).number ≡ i
  numbers i e lt = grind (arith, common_steps, cases_lt)

  receipts : (t : ℕ) → t < length scripts + 1 → receipts_of seats t ≡ (get_or seats t nobody).receipts
  receipts t lt = receipts_at seats t nobody numbers (omega (arith, ended.count, lt))

  player_all : (Q : Event → Type 0) (t : ℕ) → t < length scripts → ((op : Op) → Q (Mutate t op)) → All (λ r. Q r.entry.event) (receipts_of seats t)
  player_all Q t lt each = rw (receipts t (omega arith)) (played_all Q t (get_or seats t nobody).receipts (script_at scripts t) each (ended.each t nobody lt).events)

  collector_all : (Q : Event → Type 0) → ((step : Step) → Q (Collect step)) → All (λ r. Q r.entry.event) (receipts_of seats (length scripts))
  collector_all Q each = grind (arith, common_steps, receipts, useful_all)

  others : (Q : Event → Type 0) (s : ℕ) → ((t : ℕ) (op : Op) → t ≢ s → t < length scripts → Q (Mutate t op)) → (length scripts ≢ s → (step : Step) → Q (Collect step)) → (t : ℕ) → t < length scripts + 1 → t ≢ s → All (λ r. Q r.entry.event) (receipts_of seats t)
  others Q s players collector t lt ne =
      ⊎_elim
      (λ (player : t < length scripts). player_all Q t player (λ op. players t op ne player))
      (λ (last : length scripts ≤ t).
      let here : t ≡ length scripts = omega arith in
      rw here (collector_all Q (collector (λ e. ne (here ∙ e)))))
      (cases_lt t (length scripts))

  commands : (h : List Entry) → AgreeByNumber h seats (length scripts + 1) → (m : ℕ) → m < length scripts → commands_of m (events_of h) ≡ script_at scripts m
  commands h agree m lt =
      let mine = player_all (λ e. is_by m e ≡ true) m lt (λ op. eq-eqb m m refl) in
      let sel = selected h seats (length scripts + 1) m (is_by m) agree (omega arith) mine (others (λ e. is_by m e ≡ false) m (λ t op ne player. not_eq t m ne) (λ ne step. refl)) in
      same_commands m (commands_of m (events_of h)) (script_at scripts m)
      (commands_are m h ∙ ap (λ (es : List Entry). map (λ e. e.event) es) (sym sel) ∙ events_of_entries (receipts_of seats m)
      ∙ ap (λ (rs : List Receipt). map (λ r. r.entry.event) rs) (receipts m (omega arith)) ∙ (ended.each m nobody lt).events)

  steps : (h : List Entry) → AgreeByNumber h seats (length scripts + 1) → map entry_on (get_or seats (length scripts) nobody).receipts ≡ steps_of h
  steps h agree =
      let mine = collector_all (λ e. is_collect e ≡ true) (λ step. refl) in
      let not_mine = others (λ e. is_collect e ≡ false) (length scripts) (λ t op ne player. refl) (λ ne step. absurd (ne refl)) in
      ap (map entry_on) (sym (receipts (length scripts) (omega arith))) ∙ selected h seats (length scripts + 1) (length scripts) is_collect agree (omega arith) mine not_mine

pub has_run : (size : ℕ) (scripts : List (Vec Op Global)) (turns : ℕ) (seats : List SeatValue) (o : Opening) (w : Past) → o ≡ record { size = size; mutators = length scripts; collectors = 1 } → HaveEnded scripts turns seats → IsWhole o w seats → HasRunScripts size scripts turns w
has_run size scripts turns seats o w is ended whole =
    let n = length scripts in
    let agree : AgreeByNumber w.entries seats (n + 1) = rw (ap count_of_seats is) at (agree_by_number w.entries seats (count_of_seats o) whole.0.count whole.0.once whole.1) in
    let all = steps scripts turns seats ended w.entries agree in
    let nobody : SeatValue = record { number = 0; is_mutator = true; receipts = [] } in
    record {
      opened = whole.0.size ∙ ap (λ (o : Opening). o.size) is;
      mutators = whole.0.mutators ∙ ap (λ (o : Opening). o.mutators) is;
      commands = commands scripts turns seats ended w.entries agree;
      steps = ap length (sym all) ∙ length-map (get_or seats n nobody).receipts entry_on ∙ (ended.last nobody).count;
      useful = subst (λ (es : List Entry). All (λ e. IsUsefulStep e.event e.answer) es) all (all_entries (get_or seats n nobody).receipts (ended.last nobody).useful);
    }
