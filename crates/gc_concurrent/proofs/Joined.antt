-- Steps with both ends at hand: the log changes hands, and the targets of the mutator's roots are wanted.
use Rattle.std.proofs.Common.{◌≡◌, ◌≤◌, ℕ, ap, true, true≢false, List, [], ◌∷◌, ◌++◌, set, refl, sym, ◌∙◌, subst, inl, inr, ⊎_elim, arith}
use Rattle.std.specs.Prelude.{is_some, Some}
use mathlib.Core.Option.{none, some}
use lib.ListN.{get_elem?}
use lib.Seq.{set-get_or}
use Rattle.atomic_table.specs.Table.{step, keeps, Allows}
use Rattle.gc_graph.specs.Graph.{Object, Ref, lookup}
use Rattle.gc_words.specs.Word.{value_of}
use Rattle.gc_words.specs.Image.{block_at, objects_of}
use Rattle.gc_words.specs.Closed.{IsRootWord, RefersToStart}
use Rattle.gc_model.specs.State.{Collection, new_end}
use Rattle.gc_words.specs.Space.{end_of}
use Rattle.gc_model.specs.Belonging.{IsOpened, IsDue, IsLogged}
use Rattle.gc_model.proofs.Public.{its_replicas, belongs_from, replicas_due, in_left, in_right}
use Rattle.gc_concurrent.specs.Ends.{Known, Mine, Theirs, its}
use Rattle.gc_concurrent.specs.Unreachable.{MayBeCopied}
use Rattle.gc_concurrent.specs.Internal.Plans.{collection_of, plan}
use Rattle.gc_concurrent.specs.Internal.Rule.{AreSeated, CatchesUp, IsConcurrent, Seated, Sat, StartsThere, logs_taken, root_wanted, wants, tells_take, tells_root}
use Rattle.gc_concurrent.specs.Internal.Told.{ComesFromSeen}
use Rattle.gc_concurrent.proofs.Halves.{start_of}
use Rattle.gc_concurrent.proofs.Hands.{St, seat_set}
use Rattle.gc_concurrent.proofs.Shown.{shown_anew}
use Rattle.gc_concurrent.proofs.Told.{caught_up}
use Rattle.gc_concurrent.proofs.Logs.{of_two, to_two, in_either}
use Rattle.gc_concurrent.proofs.Keeping.{kept_still, kept_mine, kept_wants}
use Rattle.gc_concurrent.proofs.Loosely.{Leaves, loosely}
use Rattle.gc_concurrent.proofs.Copying.{target_there}

-- a step of a seat that is both ends
both_seats : (writer copier id : ℕ) (mine mine' : Mine) (theirs theirs' : Theirs) (views : List Known) (v w : Known) → get_elem? views id ≡ some v → v.writes ≡ true → v.copies ≡ true
    → w.mine ≡ mine' → w.theirs ≡ theirs' → AreSeated writer copier mine theirs views → AreSeated writer copier mine' theirs' (set views id w)
both_seats writer copier id mine mine' theirs theirs' views v w seat writes copies is_mine is_theirs h = let own = h id v seat in
    seat_set (Seated writer copier mine' theirs') views id w
    ((λ _. ((own.0 writes).0, is_mine)), λ _. ((own.1 copies).0, is_theirs))
    (λ j u other e. ((λ p. absurd (other (((h j u e).0 p).0 ∙ sym (own.0 writes).0))), λ p. absurd (other (((h j u e).1 p).0 ∙ sym (own.1 copies).0))))

-- the mutator's entries go behind the collector's
taken_opened : (m : Mine) (t : Theirs) → IsOpened (plan m t) (collection_of m t)
    → IsOpened (plan (record m { log = [] }) (record t { due = t.due ++ m.log })) (collection_of (record m { log = [] }) (record t { due = t.due ++ m.log }))
taken_opened m t h =
    let objects : List (ℕ × Object) = objects_of m.space.words in
    let c : Collection = collection_of m t in
    let d : Collection = record c { logs = [] ∷ (t.due ++ m.log) ∷ [] } in
    let forth : (a i : ℕ) → IsLogged c a i → IsLogged d a i = λ a i x. of_two (a, i) [] (t.due ++ m.log)
    (⊎_elim (λ l. inr (in_right (a, i) t.due m.log l)) (λ l. inr (in_left (a, i) t.due m.log l)) (to_two (a, i) m.log t.due x)) in
    let back : (a i : ℕ) → IsLogged d a i → IsLogged c a i = λ a i x. of_two (a, i) m.log t.due
    (⊎_elim (λ (l : ⊥). absurd l) (λ l. ⊎_elim (λ u. inr u) (λ u. inl u) (in_either (a, i) t.due m.log l)) (to_two (a, i) [] (t.due ++ m.log) x)) in
    record {
      belongs = belongs_from (IsDue d) objects d
          (replicas_due objects c.size (IsDue c) (IsDue d) c.replicas (its_replicas (IsDue c) objects c h.belongs) (λ r k i w u. ⊎_elim (λ x. inl x) (λ x. inr (forth r.original i x)) u))
          (h.belongs).scan (λ a i x. (h.belongs).entries a i (back a i x)) (h.belongs).numbers;
      size = h.size;
      logs = refl;
    }

-- what a seat that is both ends is told of the words that were seen
pub catches_up : (size : ℕ) (s : St) (r : IsConcurrent size s) (id : ℕ) (v : Known) → get_elem? s.views id ≡ some v → v.writes ≡ true → v.copies ≡ true → CatchesUp v
catches_up size s r id v seat writes copies =
    let mine : v.mine ≡ r.mine = ((r.seats id v seat).0 writes).1 in
    let theirs : v.theirs ≡ r.theirs = ((r.seats id v seat).1 copies).1 in
    let seen : v.seen ≡ r.seen = r.shown id v seat copies in
    record {
      told = subst (λ (z : List ℕ × Mine). ComesFromSeen z.0 z.1) (λ j. (sym seen j, sym mine j)) r.told;
      rests = λ e. let k = r.rests (ap (λ (m : Mine). m.logs) (sym mine) ∙ e) in (ap (λ (t : Theirs). t.replicas) theirs ∙ k.copied, ap (λ (m : Mine). m.log) mine ∙ k.logged);
    }

-- an original is an object of the mutator's space
originals_start : (m : Mine) (t : Theirs) → IsOpened (plan m t) (collection_of m t) → StartsThere m t
originals_start m t h r there = start_of m.space.words r.original (ap is_some ((h.belongs).replicas r there).found)

take_at : (slots size : ℕ) (s : St) (r : IsConcurrent size s) (k id : ℕ) (me : Sat) → get_elem? s.views id ≡ some me.0 → me.0.writes ≡ true → me.0.copies ≡ true
    → Leaves size s k id me (λ n m. (m ≡ (logs_taken me.0, me.1)) × (me.0.theirs.base ≡ me.0.mine.base.heap) × CatchesUp me.0 × StartsThere me.0.mine me.0.theirs × (new_end (its me.0.theirs) ≤ end_of me.0.mine.space))
take_at slots size s r k id me seat writes copies =
    let own = r.seats id me.0 seat in
    let mine : me.0.mine ≡ r.mine = ((own.0) writes).1 in
    let theirs : me.0.theirs ≡ r.theirs = ((own.1) copies).1 in
    let m' : Mine = record r.mine { log = [] } in
    let t' : Theirs = record r.theirs { due = r.theirs.due ++ r.mine.log } in
    let w : Known = record me.0 { mine = m'; theirs = t'; seen = r.mine.space.words } in (
      w,
      keeps,
      tt,
      subst (λ (ws : List ℕ). IsConcurrent size (record { words = ws; homes = s.homes; views = set s.views id w })) (sym (set-get_or s.words k 0)) (record {
        mine = m';
        theirs = t';
        seen = r.mine.space.words;
        writer = r.writer;
        copier = r.copier;
        wide = r.wide;
        sized = r.sized;
        older = r.older;
        now = r.now;
        free = r.free;
        space = r.space;
        closed = r.closed;
        wanted = r.wanted;
        opened = taken_opened r.mine r.theirs r.opened;
        carries = kept_mine r.mine t' (kept_still r.mine r.theirs r.carries t' refl refl refl) m' refl (omega arith) r.carries.fields;
        fits = r.fits;
        rests = λ e. let k = r.rests e in record { logged = refl; copied = k.copied; due = (λ j. k.due j ++ k.logged j); wanted = k.wanted };
        seats = both_seats r.writer r.copier id r.mine m' r.theirs t' s.views me.0 w seat writes copies refl refl r.seats;
        told = caught_up m' r.space refl;
        shown = shown_anew r.mine.space.words r.writer r.copier id r.mine r.theirs s.views me.0 w seat copies refl r.seats;
      }),
      (
        (λ j. (record me.0 { mine = record (sym mine j) { log = [] }; theirs = record (sym theirs j) { due = (sym theirs j).due ++ (sym mine j).log }; seen = (sym mine j).space.words }, me.1)),
        subst (λ (z : Mine × Theirs). z.1.base ≡ z.0.base.heap) (λ j. (sym mine j, sym theirs j)) r.carries.begun,
        catches_up size s r id me.0 seat writes copies,
        subst (λ (z : Mine × Theirs). StartsThere z.0 z.1) (λ j. (sym mine j, sym theirs j)) (originals_start r.mine r.theirs r.opened),
        subst (λ (z : Mine × Theirs). new_end (its z.1) ≤ end_of z.0.space) (λ j. (sym mine j, sym theirs j)) r.fits,
      ),
    )

pub takes_rule : (slots size k id : ℕ) (me : Sat) → me.0.writes ≡ true → me.0.copies ≡ true
    → Allows (IsConcurrent size) slots id me k (λ x. x) (tells_take (step slots k 0 0 none) me)
takes_rule slots size k id me writes copies s r _ seat _ = loosely size s k id me (λ n m. (m ≡ (logs_taken me.0, me.1)) × (me.0.theirs.base ≡ me.0.mine.base.heap) × CatchesUp me.0 × StartsThere me.0.mine me.0.theirs × (new_end (its me.0.theirs) ≤ end_of me.0.mine.space)) seat (take_at slots size s r k id me seat writes copies)

-- ---- roots

pub roots_rule : (slots size id : ℕ) (me : Sat) (w name : ℕ) → me.0.writes ≡ true → me.0.copies ≡ true → me.0.mine.log ≡ [] → IsRootWord me.0.mine.space.words w → value_of w ≡ Ref name → MayBeCopied me.0.mine.base name
    → Allows (IsConcurrent size) slots id me name (λ x. x) (tells_root (step slots name 0 0 none) me)
roots_rule slots size id me w name writes copies empty fine is allowed s r _ seat _ =
    let mine : me.0.mine ≡ r.mine = ((r.seats id me.0 seat).0 writes).1 in
    let theirs : me.0.theirs ≡ r.theirs = ((r.seats id me.0 seat).1 copies).1 in
    let fine' : IsRootWord r.mine.space.words w = subst (λ (m : Mine). IsRootWord m.space.words w) mine fine in
    let start : is_some (block_at r.mine.space.words name) ≡ true = subst (RefersToStart r.mine.space.words) is fine'.start in
    let m' : Mine = record r.mine { logs = true } in
    let t' : Theirs = wants name r.theirs in
    let w : Known = record me.0 { mine = m'; theirs = t'; seen = r.mine.space.words } in
    let none : r.mine.log ≡ [] = ap (λ (m : Mine). m.log) (sym mine) ∙ empty in
    loosely size s name id me (λ n m. (m ≡ (root_wanted name me.0, me.1)) × CatchesUp me.0) seat (
      w,
      keeps,
      tt,
      subst (λ (ws : List ℕ). IsConcurrent size (record { words = ws; homes = s.homes; views = set s.views id w })) (sym (set-get_or s.words name 0)) (record {
        mine = m';
        theirs = t';
        seen = r.mine.space.words;
        writer = r.writer;
        copier = r.copier;
        wide = r.wide;
        sized = r.sized;
        older = r.older;
        now = r.now;
        free = r.free;
        space = r.space;
        closed = r.closed;
        wanted = λ a h. ⊎_elim (λ (e : name ≡ a). subst (λ x. (o : Object) × (lookup (objects_of r.mine.space.words) x ≡ Some o)) e (target_there r.mine.space.words name start)) (λ (e : ⊥). absurd e) h;
        opened = record { belongs = r.opened.belongs; size = r.opened.size; logs = r.opened.logs };
        carries = kept_mine r.mine t' (kept_wants r.mine r.theirs r.carries name (subst (λ (m : Mine). MayBeCopied m.base name) mine allowed)) m' refl (omega arith) r.carries.fields;
        fits = r.fits;
        rests = λ e. absurd (true≢false e);
        seats = both_seats r.writer r.copier id r.mine m' r.theirs t' s.views me.0 w seat writes copies refl refl r.seats;
        told = caught_up m' r.space none;
        shown = shown_anew r.mine.space.words r.writer r.copier id r.mine r.theirs s.views me.0 w seat copies refl r.seats;
      }),
      ((λ j. (record me.0 { mine = record (sym mine j) { logs = true }; theirs = wants name (sym theirs j); seen = (sym mine j).space.words }, me.1)), catches_up size s r id me.0 seat writes copies),
    )
