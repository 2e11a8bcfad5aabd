-- Runs of useful steps join, and a useful step is a run of one.
use Rattle.std.proofs.Common.{◌≡◌, ⊎_elim, ℕ, zero, suc, ◌+◌, ◌-◌, ◌<◌, true, false, Option, is_some, refl, sym, ap, ◌∙◌, subst, arith}
use Rattle.std.specs.Prelude.{IsSome}
use Rattle.std.proofs.lemmas.Bool.{cases_lt}
use Rattle.gc_model.specs.State.{State}
use Rattle.gc_model.specs.Steps.{collect}
use Rattle.gc_model.specs.declared.step.StepReply.{StepReply}
use Rattle.gc_copy.specs.Words.{RoomWords}
use Rattle.gc_collected.specs.Flip.{FormerAfter}
use Rattle.gc_collected.specs.declared.flip.Keep.TheVariants.{Room}
use Rattle.gc_collected.specs.Collected.{Beside, Collected, turns_after}
use Rattle.gc_pace.specs.Internal.Leaving.{LeavesLess}
use Rattle.gc_pace.specs.Beside.{HaveRooms, LeavesAfter}
use Rattle.gc_pace.specs.Work.{sized_step, after_useful, useful_reply, goes_on, is_flip, IsSoundReply, IsRun}
use Rattle.gc_pace.proofs.FormerRuns.{first_left}
use Rattle.gc_pace.proofs.Runs.{first_run, room_of}

-- ---- runs join

later_state : (size : Option ℕ) (m n : ℕ) (s : State) → after_useful size n (after_useful size m s) ≡ after_useful size (n + m) s
later_state size m zero s = ap (λ j. after_useful size j s) (let at : m ≡ 0 + m = omega arith in at)
later_state size m (suc n) s = ap (λ (x : State). (collect x (sized_step size x)).1) (later_state size m n s) ∙ ap (λ j. after_useful size j s) (let at : suc (n + m) ≡ suc n + m = omega arith in at)

later_reply : (size : Option ℕ) (m n : ℕ) (s : State) → useful_reply size n (after_useful size m s) ≡ useful_reply size (n + m) s
later_reply size m n s = ap (λ (x : State). (collect x (sized_step size x)).0) (later_state size m n s)

-- what holds of the steps of both holds of all
both : (P : ℕ → Type 0) (m n : ℕ) → ((k : ℕ) → k < m → P k) → ((k : ℕ) → k < n → P (k + m)) → (k : ℕ) → k < n + m → P k
both P m n first rest k less = ⊎_elim
    (λ early. first k early)
    (λ late. let at : (k - m) + m ≡ k = omega arith in subst P at (rest (k - m) (omega arith)))
    (cases_lt k m)

pub joined : (size : Option ℕ) (s t u : State) (m n : ℕ) (before reply : StepReply) → IsRun size m s t before → goes_on before ≡ true → IsRun size n t u reply → IsRun size (n + m) s u reply
joined size s t u m n before reply a on b = record {
  some = (let x = a.some in omega arith);
  state = b.state ∙ (ap (after_useful size n) a.state ∙ later_state size m n s);
  reply_is = (let some = b.some in let at : (n - 1) + m ≡ (n + m) - 1 = omega arith in
      b.reply_is ∙ (ap (useful_reply size (n - 1)) a.state ∙ (later_reply size m (n - 1) s ∙ ap (λ j. useful_reply size j s) at)));
  going = going;
  sound = sound;
  room = room_of size (n + m) s sound going;
  falls = λ goes. (let x = b.falls goes in let y = a.falls on in omega arith);
  logs = (let x = b.logs in let y = a.falls on in omega arith);
}
  where
    sound : (k : ℕ) → k < n + m → IsSoundReply (after_useful size k s) (useful_reply size k s)
    sound = both (λ k. IsSoundReply (after_useful size k s) (useful_reply size k s)) m n a.sound
        (λ k less. subst (λ (x : State). IsSoundReply x (useful_reply size (k + m) s)) (ap (after_useful size k) a.state ∙ later_state size m k s)
        (subst (IsSoundReply (after_useful size k t)) (ap (useful_reply size k) a.state ∙ later_reply size m k s) (b.sound k less)))

    going : (k : ℕ) → suc k < n + m → goes_on (useful_reply size k s) ≡ true
    going k less = ⊎_elim
        (λ early. a.going k early)
        (λ late. ⊎_elim
        (λ last. (let some = a.some in let at : m - 1 ≡ k = omega arith in subst (λ j. goes_on (useful_reply size j s) ≡ true) at (ap goes_on (sym a.reply_is) ∙ on)))
        (λ past. (let at : (k - m) + m ≡ k = omega arith in subst (λ j. goes_on (useful_reply size j s) ≡ true) at
        (ap goes_on (sym (ap (useful_reply size (k - m)) a.state ∙ later_reply size m (k - m) s)) ∙ b.going (k - m) (omega arith))))
        (cases_lt k m))
        (cases_lt (suc k) m)

pub joined_left : (size : Option ℕ) (s t : State) (m : ℕ) (before : StepReply) → IsRun size m s t before → (old mid : Option RoomWords) → LeavesAfter size m s old mid → (n : ℕ) (new : Option RoomWords) → LeavesAfter size n t mid new → LeavesAfter size (n + m) s old new
joined_left size s t m before a old mid first zero new is = subst (λ j. LeavesAfter size j s old new) (let at : m ≡ 0 + m = omega arith in at) (subst (LeavesAfter size m s old) (sym is) first)
joined_left size s t m before a old mid first (suc n) new (x, rest, last) = subst (λ j. LeavesAfter size j s old new) (let at : suc (n + m) ≡ suc n + m = omega arith in at) (
  x,
  joined_left size s t m before a old mid first n x rest,
  subst (λ (y : State). FormerAfter Room y x (useful_reply size (n + m) s) new) (ap (after_useful size n) a.state ∙ later_state size m n s)
      (subst (λ (r : StepReply). FormerAfter Room (after_useful size n t) x r new) (ap (useful_reply size n) a.state ∙ later_reply size m n s) last),
)

pub joined_short : (Short : State → StepReply → Type 0) (size : Option ℕ) (s t : State) (m n : ℕ) (before : StepReply) → IsRun size m s t before → Short t before
    → ((k : ℕ) → suc k < m → Short (after_useful size (suc k) s) (useful_reply size k s)) → ((k : ℕ) → suc k < n → Short (after_useful size (suc k) t) (useful_reply size k t))
    → (k : ℕ) → suc k < n + m → Short (after_useful size (suc k) s) (useful_reply size k s)
joined_short Short size s t m n before a now first rest k less = ⊎_elim
    (λ early. first k early)
    (λ late. ⊎_elim
    (λ last. (
    let some = a.some in
    let at : m - 1 ≡ k = omega arith in
    let here : m ≡ suc k = omega arith in
    subst (λ (r : StepReply). Short (after_useful size (suc k) s) r) (a.reply_is ∙ ap (λ j. useful_reply size j s) at)
    (subst (λ (x : State). Short x before) (a.state ∙ ap (λ j. after_useful size j s) here) now)))
    (λ past. (
    let at : (k - m) + m ≡ k = omega arith in
    let next : suc (k - m) + m ≡ suc k = omega arith in
    subst (λ (r : StepReply). Short (after_useful size (suc k) s) r) (ap (useful_reply size (k - m)) a.state ∙ (later_reply size m (k - m) s ∙ ap (λ j. useful_reply size j s) at))
    (subst (λ (x : State). Short x (useful_reply size (k - m) t)) (ap (after_useful size (suc (k - m))) a.state ∙ (later_state size m (suc (k - m)) s ∙ ap (λ j. after_useful size j s) next)) (rest (k - m) (omega arith)))))
    (cases_lt k m))
    (cases_lt (suc k) m)

-- ---- what lies beside

-- what lies beside the state of an open collection stays, where no step flips
pub same_rooms : (size : Option ℕ) (s : State) (b new : Beside) (reply : StepReply) → IsSome s.collection → new ≡ b → is_flip reply ≡ false → HaveRooms size s b (is_flip reply) new.rooms
same_rooms size s b new reply some same quiet = subst (λ flips. HaveRooms size s b flips new.rooms) (sym quiet) (
  b.rooms,
  ((λ x. refl), λ none. absurd (let no : false ≡ true = sym (ap is_some none) ∙ some in cc)),
  ap (λ (x : Beside). x.rooms) same,
)

-- ---- one step of another kind

-- a useful step is a run of one
pub single : (size : Option ℕ) (h now u : Collected) (reply : StepReply) → now ≡ h → collect now.core (sized_step size now.core) ≡ (reply, u.core) → IsSoundReply now.core reply → LeavesLess now.core u.core reply
    → FormerAfter Room now.core now.beside.former reply u.beside.former → u.beside.turns ≡ turns_after Room now.beside.turns reply → HaveRooms size now.core now.beside (is_flip reply) u.beside.rooms → u.beside.pair ≡ now.beside.pair
    → IsRun size 1 h.core u.core reply × LeavesAfter size 1 h.core h.beside.former u.beside.former × (u.beside.turns ≡ turns_after Room h.beside.turns reply) × HaveRooms size h.core h.beside (is_flip reply) u.beside.rooms × (u.beside.pair ≡ h.beside.pair)
single size h now u reply same step sound leaves former turns rooms pair = subst (λ (x : Collected). IsRun size 1 x.core u.core reply × LeavesAfter size 1 x.core x.beside.former u.beside.former
    × (u.beside.turns ≡ turns_after Room x.beside.turns reply) × HaveRooms size x.core x.beside (is_flip reply) u.beside.rooms × (u.beside.pair ≡ x.beside.pair)) same (
      first_run size now.core u.core reply step sound leaves,
      first_left size now.core u.core reply now.beside.former u.beside.former step former,
      turns,
      rooms,
      pair,
    )
