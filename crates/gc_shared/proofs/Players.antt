-- Threads that are started and joined in order have played their scripts in order.
use Rattle.std.proofs.lemmas.Grind.{common_steps}
use Rattle.std.proofs.Common.{◌≡◌, ℕ, suc, ◌+◌, ◌-◌, ◌<◌, List, [], ◌∷◌, ◌++◌, length, map, get_or, sym, ap, ◌∙◌, arith, add-one, add-zero, take, Some, OnOk, is_ok, false}
use Rattle.std.proofs.lemmas.Bool.{cases_lt}
use Rattle.std.proofs.lemmas.List.{get_or-map}
use Rattle.std.proofs.lemmas.List.FromFn.{length-map-range_with_len, get_or-map-range_with_len, take-map-range_with_len}
use Rattle.std.proofs.Math.ListN.{get_or-append}
use Rattle.std.proofs.Math.Seq.{get_or-append_seam}
use Rattle.std.specs.List.{range_with_len}
use Rattle.std.specs.declared.vec.Vec.{Vec}
use Rattle.std.specs.declared.alloc.Global.{Global}
use Rattle.std.specs.declared.result.Result.{Result}
use Rattle.gc_graph.specs.declared.command.Op.{Op}
use Rattle.gc_shared.specs.Seats.{SeatValue}
use Rattle.gc_shared.specs.declared.fault.ThreadsFault.{ThreadsFault}
use Rattle.gc_shared.specs.Scripts.{script_at}
use Rattle.gc_shared.specs.Internal.Scripts.{HasPerformed, HasTurned, HavePlayed, HaveEnded}
use Rattle.gc_shared.specs.Internal.Players.{Player, AreToPlay, AreNext, IsToPlay}

-- the first of the seats from a on, and the others
pub next_seat : (f : ℕ → SeatValue) (a k : ℕ) (x : SeatValue) (xs : List SeatValue) → map f (range_with_len a (k + 1)) ≡ x ∷ xs → (x ≡ f a) × (xs ≡ map f (range_with_len (a + 1) k))
next_seat f a k x xs e = let e' = rw add-one at e in (cc, cc)

-- a fact about each element and its place, for one more element
at_more : {X : Type 0} (P : ℕ → X → Type 0) (xs : List X) (y : X) → ((m : ℕ) (d : X) → m < length xs → P m (get_or xs m d)) → P (length xs) y → (m : ℕ) (d : X) → m < length (xs ++ y ∷ []) → P m (get_or (xs ++ y ∷ []) m d)
at_more {X} P xs y all here m d lt = grind (arith, common_steps, get_or-append, get_or-append_seam, cases_lt)

pub AreToPlay-more : (scripts : List (Vec Op Global)) (players : List Player) (h : Player) → AreToPlay scripts players → IsToPlay scripts (length players) h → AreToPlay scripts (players ++ h ∷ [])
AreToPlay-more scripts players h all here = at_more (IsToPlay scripts) players h all here

-- the first of the threads from a on, and the others
pub next_player : (scripts : List (Vec Op Global)) (a : ℕ) (h : Player) (hs : List Player) → AreNext scripts a (h ∷ hs) → IsToPlay scripts a h × AreNext scripts (a + 1) hs
next_player scripts a h hs all = (
  rw add-zero at (all 0 h (omega arith)),
  λ k d lt. let at : a + 1 + k ≡ a + suc k = omega arith in rw at (all (suc k) d (omega arith)),
)

pub script_here : (scripts : List (Vec Op Global)) (m : ℕ) (v : Vec Op Global) → m < length scripts → v ≡ get_or scripts m v → v.items ≡ script_at scripts m
script_here scripts m v lt is = ap (λ (v : Vec Op Global). v.items) is ∙ sym (get_or-map (λ (v : Vec Op Global). v.items) scripts m v [] lt)

-- one more seat has played
pub HavePlayed-more : (scripts : List (Vec Op Global)) (n : ℕ) (seats : List SeatValue) (s : SeatValue) → HavePlayed scripts n seats → HasPerformed n (script_at scripts n) s → HavePlayed scripts (n + 1) (seats ++ s ∷ [])
HavePlayed-more scripts n seats s all here = grind (arith, common_steps, at_more)

pub on_ok : (r : Result (Unit {0}) ThreadsFault) (P Q : Type 0) → (P → Q) → OnOk r P → OnOk r Q
on_ok r P Q f p = grind (arith, common_steps)

pub on_no_ok : (r : Result (Unit {0}) ThreadsFault) (P : Type 0) → false ≡ is_ok r → OnOk r P
on_no_ok r P e = grind (arith, common_steps)

-- the last seat, and those before it
pub split_last : (f : ℕ → SeatValue) (n : ℕ) (items rest : List SeatValue) (x : SeatValue) (len : ℕ) → len ≡ length items → items ≡ map f (range_with_len 0 (n + 1)) → rest ≡ take (len - 1) items → ((d : SeatValue) → 0 < len → Some x ≡ Some (get_or items (len - 1) d)) → (rest ≡ map f (range_with_len 0 n)) × (x ≡ f n)
split_last f n items rest x len l is front back =
    let whole : len ≡ n + 1 = l ∙ ap length is ∙ length-map-range_with_len f 0 (n + 1) in
    let last : len - 1 ≡ n = omega arith in
    let b : Some x ≡ Some (get_or items (len - 1) x) = back x (omega arith) in
    let x_is : x ≡ get_or items (len - 1) x = cc in
    let there : get_or items (len - 1) x ≡ f n = ap (λ (xs : List SeatValue). get_or xs (len - 1) x) is ∙ get_or-map-range_with_len f 0 (n + 1) (len - 1) n x (omega arith) (omega arith) in (
      front ∙ ap (λ (xs : List SeatValue). take (len - 1) xs) is ∙ ap (λ (k : ℕ). take k (map f (range_with_len 0 (n + 1)))) last ∙ take-map-range_with_len f 0 (n + 1) n (omega arith),
      x_is ∙ there,
    )

-- all have ended
pub ended : (scripts : List (Vec Op Global)) (turns : ℕ) (seats : List SeatValue) (s : SeatValue) → HavePlayed scripts (length scripts) seats → HasTurned (length scripts) turns s → HaveEnded scripts turns (seats ++ s ∷ [])
ended scripts turns seats s all one = grind (arith, common_steps, get_or-append, get_or-append_seam)
