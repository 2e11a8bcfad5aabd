-- The memory that waits after useful steps: only the first opens a collection, and only the last flips.
use Rattle.std.proofs.lemmas.Grind.{common_steps}
use Rattle.std.proofs.Common.{◌≡◌, ⊎_elim, inl, inr, ℕ, zero, suc, ◌-◌, Bool, true, false, cond, List, length, Option, Some, None, is_some, Result, Ok, Err, ◌≤◌, refl, sym, ap, ◌∙◌, subst, arith}
use Rattle.std.specs.Prelude.{◌≢◌, IfOk, IfSome, OnErr, IsTrue, ⊤}
use Rattle.std.specs.Option.{option_map_or, unwrap_or}
use Rattle.std.proofs.lemmas.Bool.{cond_both}
use Rattle.gc_model.specs.State.{Collection, State, replica_at}
use Rattle.gc_model.specs.Steps.{scan_done, root_target, is_ready, passes_check, useful_with, log_at, if_room, copy_root, scan_replica, apply_log, flipped, step_in, step_idle, collect}
use Rattle.gc_model.specs.declared.step.Step.{Step}
use Rattle.gc_model.specs.declared.step.Step.TheVariants as steps
use Rattle.gc_model.specs.declared.step.StepReply.{StepReply}
use Rattle.gc_model.specs.declared.step.StepReply.TheVariants.{Begun, Clean, NotReady, Refused, Flipped}
use Rattle.gc_collected.specs.CollectedHeap.{Allocates}
use Rattle.gc_collected.specs.Collected.{Collected, Beside, Rooms, Turns, BeginsIn, HasStepped, checks_whole, rooms_flipped, rooms_given_back, with_rooms}
use Rattle.gc_collected.specs.declared.flip.Keep.TheVariants.{Room}
use Rattle.gc_pace.specs.Internal.Leaving.{LeavesLess}
use Rattle.gc_copy.specs.declared.collection.stepping.StepRun.{StepRun}
use Rattle.gc_pace.specs.Internal.Performed.{RanSteps, HasSeen}
use Rattle.gc_pace.specs.Internal.Waiting.{HasLacked, HaveRun}
use Rattle.gc_pace.specs.Beside.{LeavesAfter, HaveRooms, HaveWorked, LeavesBeside}
use Rattle.gc_pace.proofs.Flips.{turns_told}
use Rattle.gc_pace.proofs.Left.{sized_open}
use Rattle.gc_pace.specs.Work.{IsRun, is_flip, has_flipped, goes_on, after_useful, useful_reply, with_size, sized_step, no_work}
use Rattle.gc_pace.specs.declared.work.Work.{Work}

-- ---- a collection stays open through a step that does not end the work

abbrev pub IsOpen : State → Type 0
IsOpen s = is_some s.collection ≡ true

-- the step does not give the collection up
abbrev IsKeeping : Step → Type 0
IsKeeping steps.Drop = ⊥
IsKeeping step = ⊤

-- the step is useful while a collection is open
abbrev IsUseful : Step → Type 0
IsUseful steps.Begin = ⊥
IsUseful (steps.BeginSized n) = ⊥
IsUseful steps.Drop = ⊥
IsUseful step = ⊤

module _ (s : State) (c : Collection) (is_open : IsOpen s) where
  room_open : (reply : StepReply) (o : Option Collection) → IsOpen (if_room s reply o).1
  room_open reply o = grind (arith, common_steps)

  root_open : (o : Option ℕ) → IsOpen (copy_root s c o).1
  root_open o = grind (arith, common_steps, room_open)

  scan_open : (b : Bool) → IsOpen (cond b (Clean, s) (scan_replica s c (replica_at c c.scan_place))).1
  scan_open b = grind (arith, common_steps, room_open)

  log_open : (m : ℕ) (entries : List (ℕ × ℕ)) → IsOpen (apply_log s c m entries).1
  log_open m entries = grind (arith, common_steps, room_open)

  flip_open : (ready passes : Bool) → goes_on (cond {A = StepReply × State} ready (cond passes (Flipped (length c.replicas), flipped s c) (Refused, s)) (NotReady, s)).0 ≡ true
      → IsOpen (cond {A = StepReply × State} ready (cond passes (Flipped (length c.replicas), flipped s c) (Refused, s)) (NotReady, s)).1
  flip_open ready passes on = grind (arith, common_steps)

  step_open : (step : Step) → IsKeeping step → goes_on (step_in s c step).0 ≡ true → IsOpen (step_in s c step).1
  step_open steps.Begin k on = is_open
  step_open (steps.BeginSized n) k on = is_open
  step_open steps.Roots k on = root_open (root_target c s.heap.graph)
  step_open steps.Scan k on = scan_open (scan_done c)
  step_open (steps.Apply m) k on = log_open m (log_at c m)
  step_open steps.Flip k on = flip_open (is_ready c s.heap.graph) (passes_check s c) on
  step_open steps.Drop k on = absurd k

pub stays_open : (size : Option ℕ) (s : State) → goes_on (collect s (sized_step size s)).0 ≡ true → IsOpen (collect s (sized_step size s)).1
stays_open size s on = grind (arith, common_steps, step_open)

-- ---- one step

-- while a collection is open, the useful step is no begin, and it does not give the collection up
useful_open : (s : State) (c : Collection) → IsUseful (useful_with s (Some c))
useful_open s c = grind (arith, common_steps, cond_both)

module _ (s t : State) (c : Collection) (b : Beside) (reply : StepReply) (new : Rooms) where
  quiet_roots : (o : Option ℕ) → copy_root s c o ≡ (reply, t) → is_flip reply ≡ false
  quiet_roots o made = grind (arith, common_steps)

  quiet_scan : (d : Bool) → cond d (Clean, s) (scan_replica s c (replica_at c c.scan_place)) ≡ (reply, t) → is_flip reply ≡ false
  quiet_scan d made = grind (arith, common_steps)

  quiet_log : (m : ℕ) (entries : List (ℕ × ℕ)) → apply_log s c m entries ≡ (reply, t) → is_flip reply ≡ false
  quiet_log m entries made = grind (arith, common_steps)

  -- a useful flip is performed, since any other reply would leave all the work
  flips : (ready passes : Bool) → LeavesLess s t reply → cond {A = StepReply × State} ready (cond passes (Flipped (length c.replicas), flipped s c) (Refused, s)) (NotReady, s) ≡ (reply, t) → is_flip reply ≡ true
  flips ready passes less made = grind (arith, common_steps)

  same_rooms : (size : Option ℕ) → s.collection ≡ Some c → is_flip reply ≡ false → new ≡ b.rooms → HaveRooms size s b (is_flip reply) new
  same_rooms size is_open quiet same = (b.rooms, ((λ _. refl), (λ none. absurd (let no : Some c ≡ None = sym is_open ∙ none in cc))), same ∙ sym (ap (λ x. cond x (rooms_flipped Room b) b.rooms) quiet))

  flipped_rooms : (size : Option ℕ) → s.collection ≡ Some c → is_flip reply ≡ true → new ≡ rooms_flipped Room b → HaveRooms size s b (is_flip reply) new
  flipped_rooms size is_open flip same = (b.rooms, ((λ _. refl), (λ none. absurd (let no : Some c ≡ None = sym is_open ∙ none in cc))), same ∙ sym (ap (λ x. cond x (rooms_flipped Room b) b.rooms) flip))

  open_rooms : (size : Option ℕ) (step : Step) → IsUseful step → s.collection ≡ Some c → step_in s c step ≡ (reply, t) → LeavesLess s t reply → HasStepped Room step reply (record { core = s; beside = b; roots_left = 0 }) new
      → HaveRooms size s b (is_flip reply) new
  open_rooms size steps.Begin k is_open made less h = absurd k
  open_rooms size (steps.BeginSized n) k is_open made less h = absurd k
  open_rooms size steps.Roots k is_open made less h = same_rooms size is_open (quiet_roots (root_target c s.heap.graph) made) h
  open_rooms size steps.Scan k is_open made less h = same_rooms size is_open (quiet_scan (scan_done c) made) h
  open_rooms size (steps.Apply m) k is_open made less h = same_rooms size is_open (quiet_log m (log_at c m) made) h
  open_rooms size steps.Flip k is_open made less h = flipped_rooms size is_open (flips (is_ready c s.heap.graph) (passes_check s c) less made) h
  open_rooms size steps.Drop k is_open made less h = absurd k

-- the first step opens a collection
begins : (size : Option ℕ) (s t : State) (reply : StepReply) → s.collection ≡ None → collect s (with_size size steps.Begin) ≡ (reply, t) → reply ≡ Begun
begins size s t reply none made = grind (arith, common_steps)

has_begun : (size : Option ℕ) (s : State) (b : Beside) (new : Rooms) → HasStepped Room (with_size size steps.Begin) Begun (record { core = s; beside = b; roots_left = 0 }) new → BeginsIn (unwrap_or size s.size) b new
has_begun None s b new h = h
has_begun (Some n) s b new h = h

begun_rooms : (size : Option ℕ) (s t : State) (b : Beside) (reply : StepReply) (new : Rooms) → s.collection ≡ None → collect s (with_size size steps.Begin) ≡ (reply, t)
    → HasStepped Room (with_size size steps.Begin) reply (record { core = s; beside = b; roots_left = 0 }) new → HaveRooms size s b (is_flip reply) new
begun_rooms size s t b reply new none made h =
    let said : reply ≡ Begun = begins size s t reply none made in (
      new,
      ((λ some. absurd (let no : false ≡ true = ap is_some (sym none) ∙ some in cc)), (λ _. has_begun size s b new (subst (λ (r : StepReply). HasStepped Room (with_size size steps.Begin) r (record { core = s; beside = b; roots_left = 0 }) new) said h))),
      sym (ap (λ (r : StepReply). cond (is_flip r) (rooms_flipped Room (record b { rooms = new })) new) said),
    )

-- what the useful step leaves, by what the step leaves
step_rooms : (size : Option ℕ) (s t : State) (b : Beside) (reply : StepReply) (new : Rooms) → collect s (sized_step size s) ≡ (reply, t) → LeavesLess s t reply
    → HasStepped Room (sized_step size s) reply (record { core = s; beside = b; roots_left = 0 }) new → HaveRooms size s b (is_flip reply) new
step_rooms size s t b reply new made less h = from s.collection refl
  where
    from : (o : Option Collection) → s.collection ≡ o → HaveRooms size s b (is_flip reply) new
    from None e =
        let step : sized_step size s ≡ with_size size steps.Begin = ap (λ o. with_size size (useful_with s o)) e in
        begun_rooms size s t b reply new e (ap (collect s) (sym step) ∙ made) (subst (λ (x : Step). HasStepped Room x reply (record { core = s; beside = b; roots_left = 0 }) new) step h)
    from (Some c) e =
        let step : sized_step size s ≡ useful_with s (Some c) = ap (λ o. with_size size (useful_with s o)) e ∙ sized_open size s c in
        let here : step_in s c (useful_with s (Some c)) ≡ (reply, t) = sym (ap (λ (o : Option Collection). option_map_or (λ d. step_in s d (useful_with s (Some c))) o (step_idle s (useful_with s (Some c)))) e) ∙ ap (collect s) (sym step) ∙ made in
        open_rooms s t c b reply new size (useful_with s (Some c)) (useful_open s c) e here less (subst (λ (x : Step). HasStepped Room x reply (record { core = s; beside = b; roots_left = 0 }) new) step h)

-- how many looks are left tells nothing of the rooms
stepped_alike : (step : Step) (reply : StepReply) (h : Collected) (new : Rooms) → HasStepped Room step reply h new → HasStepped Room step reply (record { core = h.core; beside = h.beside; roots_left = 0 }) new
stepped_alike step reply h new stepped = grind (arith, common_steps)

begin_other : (size : Option ℕ) → (with_size size steps.Begin ≢ steps.Flip) × (with_size size steps.Begin ≢ steps.Drop)
begin_other size = grind (arith, common_steps)

-- a useful step that does not flip is another one
useful_quiet : (size : Option ℕ) (s t : State) (b : Beside) (rooms : Rooms) (step : Step) (reply : StepReply) → step ≡ sized_step size s → collect s step ≡ (reply, t) → LeavesLess s t reply → is_flip reply ≡ false
    → (step ≢ steps.Flip) × (step ≢ steps.Drop)
useful_quiet size s t b rooms step reply is made less quiet = from s.collection refl
  where
    from : (o : Option Collection) → s.collection ≡ o → (step ≢ steps.Flip) × (step ≢ steps.Drop)
    from None e =
        let step_is : with_size size steps.Begin ≡ step = sym (is ∙ ap (λ o. with_size size (useful_with s o)) e) in
        subst (λ (x : Step). (x ≢ steps.Flip) × (x ≢ steps.Drop)) step_is (begin_other size)
    from (Some c) e =
        let step_is : step ≡ useful_with s (Some c) = is ∙ ap (λ o. with_size size (useful_with s o)) e ∙ sized_open size s c in
        let useful : IsUseful step = subst IsUseful (sym step_is) (useful_open s c) in (
          (λ flip. let here : step_in s c steps.Flip ≡ (reply, t) = sym (ap (λ (o : Option Collection). option_map_or (λ d. step_in s d steps.Flip) o (step_idle s steps.Flip)) e) ∙ ap (collect s) (sym flip) ∙ made in
              let no : false ≡ true = sym quiet ∙ flips s t c b reply rooms (is_ready c s.heap.graph) (passes_check s c) less here in cc),
          (λ drop. absurd (subst IsUseful drop useful)),
        )

-- the same, of what a step returned
pub quiet_reply : {E : Type 0} (size : Option ℕ) (s t : State) (b : Beside) (rooms : Rooms) (step : Step) (r : Result StepReply E) → step ≡ sized_step size s → IfOk r (λ reply. collect s step ≡ (reply, t)) → IfOk r (LeavesLess s t)
    → IfOk r (λ reply. is_flip reply ≡ false → (step ≢ steps.Flip) × (step ≢ steps.Drop))
quiet_reply size s t b rooms step (Ok reply) is made less = useful_quiet size s t b rooms step reply is made less
quiet_reply size s t b rooms step (Err e) is made less = tt

-- the same of what a step returned, which `now` is the heap of
pub rooms_reply : {E : Type 0} (size : Option ℕ) (h now : Collected) (t : State) (new : Rooms) (step : Step) (r : Result StepReply E) → now ≡ h → step ≡ sized_step size h.core → IfOk r (λ reply. collect now.core step ≡ (reply, t))
    → IfOk r (LeavesLess h.core t) → IfOk r (λ reply. HasStepped Room step reply now new) → IfOk r (λ reply. HaveRooms size h.core h.beside (is_flip reply) new)
rooms_reply size h now t new step (Ok reply) same is made less stepped =
    step_rooms size h.core t h.beside reply new (ap (λ (x : Collected). collect x.core (sized_step size h.core)) (sym same) ∙ ap (collect now.core) (sym is) ∙ made) less
    (stepped_alike (sized_step size h.core) reply h new (subst (λ (x : Collected). HasStepped Room (sized_step size h.core) reply x new) same (subst (λ (x : Step). HasStepped Room x reply now new) is stepped)))
rooms_reply size h now t new step (Err e) same is made less stepped = tt

-- while a collection is open, a useful step that lacks memory is a flip that has to check both spaces whole
lacks : (size : Option ℕ) (h : Collected) (new : Rooms) (c : Collection) (step : Step) → IsUseful step → Allocates h.core step → (step ≡ steps.Flip → IsTrue (checks_whole Room h.beside.turns)) → (step ≡ steps.Flip → new ≡ rooms_flipped Room h.beside)
    → IsTrue (checks_whole Room h.beside.turns) × Allocates h.core steps.Flip × (new ≡ record h.beside.rooms { leaving = 0 })
lacks size h new c steps.Begin k allocates due flipped = absurd k
lacks size h new c (steps.BeginSized n) k allocates due flipped = absurd k
lacks size h new c steps.Roots k allocates due flipped = absurd allocates
lacks size h new c steps.Scan k allocates due flipped = absurd allocates
lacks size h new c (steps.Apply m) k allocates due flipped = absurd allocates
lacks size h new c steps.Flip k allocates due flipped = (due refl, allocates, flipped refl ∙ ap (λ b. cond b (record h.beside.rooms { leaving = 0 }) h.beside.rooms) (due refl))
lacks size h new c steps.Drop k allocates due flipped = absurd k

pub lacks_reply : {E : Type 0} (size : Option ℕ) (h now : Collected) (new : Rooms) (step : Step) (r : Result StepReply E) → now ≡ h → step ≡ sized_step size h.core → OnErr r (Allocates now.core step)
    → (step ≡ steps.Flip → OnErr r (IsTrue (checks_whole Room now.beside.turns))) → (step ≡ steps.Flip → new ≡ rooms_flipped Room now.beside) → OnErr r (HasLacked h new)
lacks_reply size h now new step (Ok reply) same is allocates due flipped = tt
lacks_reply size h now new step (Err e) same is allocates due flipped = from h.core.collection refl
  where
    from : (o : Option Collection) → h.core.collection ≡ o → IfSome o (λ _. IsTrue (checks_whole Room h.beside.turns) × Allocates h.core steps.Flip × (new ≡ record h.beside.rooms { leaving = 0 }))
    from None e = tt
    from (Some c) e =
        let step_is : step ≡ useful_with h.core (Some c) = is ∙ ap (λ o. with_size size (useful_with h.core o)) e ∙ sized_open size h.core c in
        lacks size h new c step (subst IsUseful (sym step_is) (useful_open h.core c)) (subst (λ (x : Collected). Allocates x.core step) same allocates)
        (λ flip. subst (λ (x : Collected). IsTrue (checks_whole Room x.beside.turns)) same (due flip)) (λ flip. flipped flip ∙ ap (λ (x : Collected). rooms_flipped Room x.beside) same)

-- ---- many steps

-- so a collection is open after a run that goes on
pub run_open : (size : Option ℕ) (n : ℕ) (s t : State) (reply : StepReply) → IsRun size n s t reply → goes_on reply ≡ true → IsOpen t
run_open size zero s t reply run on = absurd (omega (arith, run.some))
run_open size (suc n) s t reply run on =
    let last : suc n - 1 ≡ n = omega arith in
    subst IsOpen (sym run.state) (stays_open size (after_useful size n s) (ap goes_on (sym (run.reply_is ∙ ap (λ k. useful_reply size k s) last)) ∙ on))

-- a step more while the collection is open: its rooms are those that the collection opened with
longer : (size : Option ℕ) (s t : State) (c : Collection) (b bt : Beside) (flips : Bool) (new : Rooms) → t.collection ≡ Some c → bt.turns ≡ b.turns → HaveRooms size s b false bt.rooms → HaveRooms size t bt flips new
    → HaveRooms size s b flips new
longer size s t c b bt flips new is_open turns before after = grind (arith, common_steps)

pub longer_rooms : (size : Option ℕ) (s t : State) (b bt : Beside) (reply next : StepReply) (new : Rooms) → IsOpen t → goes_on reply ≡ true → bt.turns ≡ b.turns → HaveRooms size s b (is_flip reply) bt.rooms
    → HaveRooms size t bt (is_flip next) new → HaveRooms size s b (is_flip next) new
longer_rooms size s t b bt reply next new is_open on turns before after = grind (arith, common_steps, longer)

-- a flip that was refused memory behind these steps
lacked : (size : Option ℕ) (s : State) (t : Collected) (c : Collection) (b : Beside) (new : Rooms) → t.core.collection ≡ Some c → t.beside.turns ≡ b.turns → HaveRooms size s b false t.beside.rooms → HasLacked t new
    → IsTrue (checks_whole Room b.turns) × Allocates t.core steps.Flip × HaveRooms size s b true new
lacked size s t c b new is_open turns before none =
    let h = subst (λ (o : Option Collection). IfSome o (λ _. IsTrue (checks_whole Room t.beside.turns) × Allocates t.core steps.Flip × (new ≡ record t.beside.rooms { leaving = 0 }))) is_open none in
    let due : IsTrue (checks_whole Room b.turns) = subst (λ (x : Turns). IsTrue (checks_whole Room x)) turns h.0 in
    (due, h.1, (before.0, before.1, h.2 ∙ ap (λ (r : Rooms). record r { leaving = 0 }) before.2 ∙ sym (ap (λ x. cond x (record before.0 { leaving = 0 }) before.0) due)))

quiet_on : (reply : StepReply) → goes_on reply ≡ true → is_flip reply ≡ false
quiet_on reply on = grind (arith, common_steps)

pub lacked_rooms : (size : Option ℕ) (s : State) (t : Collected) (b : Beside) (reply : StepReply) (new : Rooms) → IsOpen t.core → goes_on reply ≡ true → t.beside.turns ≡ b.turns → HaveRooms size s b (is_flip reply) t.beside.rooms
    → HasLacked t new → IsTrue (checks_whole Room b.turns) × Allocates t.core steps.Flip × HaveRooms size s b true new
lacked_rooms size s t b reply new is_open on turns before none = from t.core.collection refl
  where
    from : (o : Option Collection) → t.core.collection ≡ o → IsTrue (checks_whole Room b.turns) × Allocates t.core steps.Flip × HaveRooms size s b true new
    from None e = absurd (let no : false ≡ true = ap is_some (sym e) ∙ is_open in cc)
    from (Some c) e = lacked size s t c b new e turns (subst (λ flips. HaveRooms size s b flips t.beside.rooms) (quiet_on reply on) before) none

-- the report tells whether the last step was a flip
flip_told : (work : Work) (reply : StepReply) → work.last ≡ Some reply → is_flip reply ≡ has_flipped work
flip_told work reply last = grind (arith, common_steps)

-- what work leaves once it gave a slice back
worked : (size : Option ℕ) (s : State) (b : Beside) (work : Work) (reply : StepReply) (before new : Collected) → 1 ≤ work.steps → work.last ≡ Some reply → HaveRun size s before.core b (is_flip reply) before.beside.rooms
    → new ≡ with_rooms before (rooms_given_back before.beside.rooms) → HaveWorked size s new.core b work new.beside.rooms
worked size s b work reply before new steps last run is = subst (λ (x : Collected). HaveWorked size s x.core b work x.beside.rooms) (sym is) (record {
  none = λ no. absurd (omega arith);
  some = λ _. ⊎_elim
      (λ rooms. (is_flip reply, before.beside.rooms, inl (flip_told work reply last), rooms, refl))
      (λ lacks. (true, before.beside.rooms, inr (lacks.0, lacks.1), lacks.2, refl))
      run;
})

-- all that work leaves beside the state, once it gave a slice back
pub leaves_beside : (Short : State → StepReply → Type 0) (size : Option ℕ) (old before new : Collected) (work : Work) (run : StepRun) → work.steps ≡ run.steps → work.last ≡ Some run.reply
    → RanSteps Short size old before run → HaveRun size old.core before.core old.beside (is_flip run.reply) before.beside.rooms → HasSeen old.roots_left before.roots_left work.looks (Some run)
    → new ≡ with_rooms before (rooms_given_back before.beside.rooms) → LeavesBeside size old new work
leaves_beside Short size old before new work run counted last done rooms seen is = record {
  former = subst (λ (x : Collected). LeavesAfter size work.steps old.core old.beside.former x.beside.former) (sym is)
      (subst (λ (n : ℕ). LeavesAfter size n old.core old.beside.former before.beside.former) (sym counted) done.former);
  turns = ap (λ (x : Collected). x.beside.turns) is ∙ done.turns ∙ turns_told old.beside.turns work run.reply last;
  rooms = worked size old.core old.beside work run.reply before new (let some = done.run.some in omega (arith, counted, some)) last rooms is;
  pair = ap (λ (x : Collected). x.beside.pair) is ∙ done.pair;
  looks = record { few = seen.few; less = λ quiet. let left = ap (λ (x : Collected). x.roots_left) is in omega (arith, left, seen.less (flip_told work run.reply last ∙ quiet)) };
}

-- no work
pub unworked : (h : Collected) → LeavesBeside None h h (record no_work { looks = 0 })
unworked h = record { former = refl; turns = refl; rooms = record { none = λ _. refl; some = λ steps. absurd (omega arith) }; pair = refl; looks = record { few = omega arith; less = λ _. omega arith } }
