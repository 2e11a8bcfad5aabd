-- Where nothing is due and each root has its replica, the new space is the mutator's next one.
use Rattle.std.proofs.Common.{◌≡◌, ◌⊎◌, ℕ, ◌+◌, ◌/◌, ◌<◌, Bool, true, false, is_some, List, [], ◌∷◌, length, slice_index, map, ap, sym, ◌∙◌, subst, inl, inr, arith}
use Rattle.gc_graph.specs.Graph.{Ref}
use Rattle.gc_graph.specs.Correspond.{Corresponding}
use Rattle.gc_words.specs.Word.{value_of, word_of}
use Rattle.gc_words.specs.Space.{SpaceWords, end_of}
use Rattle.gc_heap.specs.Heap.{HeapWords, IsHeap, graph_in}
use Rattle.gc_model.specs.State.{new_graph, pairs_of}
use Rattle.gc_model.specs.Steps.{scan_done}
use Rattle.gc_concurrent.specs.declared.held.Held.{Held}
use Rattle.gc_concurrent.specs.Ends.{Mine, begun_with, one_heap, opening_theirs}
use Rattle.gc_monitor.specs.Events.{flipped_tables}
use Rattle.gc_monitor.specs.Tables.{Tables}
use Rattle.gc_concurrent.specs.Internal.Following.{Follows}
use Rattle.gc_concurrent.specs.Internal.Knowing.{Knows}
use Rattle.gc_concurrent.specs.Ends.{its}
use Rattle.gc_concurrent.specs.Internal.Copiers.{AreClaimed, Claims, LacksOne, moved_by, restarted}
use Rattle.gc_concurrent.specs.Internal.Flip.{HasNothingLeft, moved_words}
use Rattle.std.proofs.Math.Logic.{∥∥₁_elim}
use Rattle.std.proofs.Props.{props}
use Rattle.gc_concurrent.proofs.Knowing.{flipped_knows}
use Rattle.gc_concurrent.proofs.Known.{is_found}
use Rattle.gc_concurrent.proofs.Halves.{own_there, start_of}
use Rattle.gc_concurrent.proofs.Memory.{claim_low, claimed, old_low}
use Rattle.gc_concurrent.proofs.InHand.{mem}
use Rattle.gc_concurrent.proofs.Comparing.{flipped_follows}
use Rattle.gc_concurrent.proofs.Rooting.{near, root_own}
use Rattle.gc_concurrent.proofs.Turn.{roots_placed, roots_moved, ready_in, root_missing}
use Rattle.gc_concurrent.specs.Checking.{IsVouchedBy}
use Rattle.gc_concurrent.specs.Turns.{IfAsked}
use Rattle.gc_concurrent.specs.Holders.{heap_held, moves_in}
use Rattle.gc_concurrent.specs.Moves.{MovesWords, half}
use Rattle.gc_concurrent.specs.Heaps.{heap_of}
use Rattle.gc_concurrent.specs.Internal.Rule.{Sat, StartsThere}
use Rattle.gc_concurrent.specs.Internal.Starts.{TellsStarts}
use Rattle.gc_concurrent.specs.Unreachable.{MayBeCopied}
use Rattle.gc_model.specs.Carried.{LeadsOnlyTo}
use Rattle.gc_concurrent.proofs.Moving.{tells_pairs}
use Rattle.std.specs.Prelude.{◌%◌, ◌^◌}
use Rattle.gc_concurrent.proofs.held.Held.flip.Goals as goal

pub moved_roots-moved-requires-clause-inside : goal.moved_roots-moved-requires-clause-inside
moved_roots-moved-requires-clause-inside g c k a l is =
    let h = c.args.self in
    let e = c.as_slice-2.ensures.value in
    let n = near h k a (subst (λ (r : List ℕ). k < length r) e l) (subst (λ (r : List ℕ). value_of (slice_index r k) ≡ Ref a) e is) in
    let m = ap (length {A = ℕ}) c.as_slice.ensures.value in let g = h.copier.claimed.long in omega arith

pub moved_roots-moved-requires-clause-places : goal.moved_roots-moved-requires-clause-places
moved_roots-moved-requires-clause-places g c =
    let a = c.args.self.copier in
    subst (λ (row : List ℕ). (x : ℕ) → slice_index row x < 4294967295) (sym c.as_slice.ensures.value) (claim_low a.claims.items a.seat.me.0.theirs a.loose a.claimed)

-- a root whose target has no replica
pub returns-in-Err-clause-not_ready : goal.returns-in-Err-clause-not_ready
returns-in-Err-clause-not_ready g c why =
    let h = c.args.self in
    let lacking = subst (λ (z : List ℕ × List ℕ). LacksOne z.0 z.1) (λ i. (c.as_slice.ensures.value i, c.as_slice-2.ensures.value i)) (c.in-Err.ensures.lacking why) in
    root_missing h.copier.seat.me.0.mine h.copier.seat.me.0.theirs h.copier.claims.items h.roots.items h.copier.claimed h.copier.loose lacking.place lacking.target lacking.within lacking.refers
    (root_own h lacking.place lacking.target lacking.within lacking.refers) lacking.none

-- nothing is left to do
done : (h : Held) (row roots : List ℕ) → row ≡ h.copier.claims.items → roots ≡ h.roots.items → (h.copier.seat.me.0.theirs.due ≡ []) × (scan_done (its h.copier.seat.me.0.theirs) ≡ true)
    → AreClaimed row roots → HasNothingLeft h.roots.items h.copier.seat.me.0
done h row roots e f idle placed = record {
  logged = h.empty.1;
  applied = idle.0;
  scanned = idle.1;
  rooted = roots_placed h.copier.seat.me.0.theirs h.roots.items (λ k a l is.
      ap is_some (claimed h.copier.claims.items h.copier.seat.me.0.theirs a h.copier.claimed (root_own h k a l is) (subst (λ (z : List ℕ × List ℕ). AreClaimed z.0 z.1) (λ i. (e i, f i)) placed k a l is)).1);
}

-- the moved roots
moves : (h : Held) (row roots : List ℕ) → row ≡ h.copier.claims.items → roots ≡ h.roots.items
    → AreClaimed row roots → map (λ w. word_of (moved_by row (value_of w))) roots ≡ moved_words h.copier.seat.me.0.theirs h.roots.items
moves h row roots e f placed =
    (λ i. map (λ w. word_of (moved_by (e i) (value_of w))) (f i))
    ∙ roots_moved h.copier.claims.items h.copier.seat.me.0.theirs h.roots.items h.copier.claimed (root_own h)
    (subst (λ (z : List ℕ × List ℕ). AreClaimed z.0 z.1) (λ i. (e i, f i)) placed)

pub certify-requires-clause-left : goal.certify-requires-clause-left
certify-requires-clause-left g c =
    done c.args.self c.as_slice.result.now c.as_slice-2.result.now c.as_slice.ensures.value c.as_slice-2.ensures.value (c.is_idle.ensures.idle c.if-not-is_idle.false) c.in-Ok.ensures.placed

pub certify-requires-clause-moved : goal.certify-requires-clause-moved
certify-requires-clause-moved g c =
    c.as_slice-3.ensures.value
    ∙ (c.in-Ok.ensures.moved ∙ moves c.args.self c.as_slice.result.now c.as_slice-2.result.now c.as_slice.ensures.value c.as_slice-2.ensures.value c.in-Ok.ensures.placed)

pub end-requires : goal.end-requires
end-requires g c =
    let a = c.args.self.copier in
    let moved = c.in-Ok.ensures.moved ∙ moves c.args.self c.as_slice.result.now c.as_slice-2.result.now c.as_slice.ensures.value c.as_slice-2.ensures.value c.in-Ok.ensures.placed in
    record { sound = subst (λ (z : SpaceWords × List ℕ). IsHeap (one_heap z.0 z.1)) (λ i. (sym c.certify.ensures.space i, sym moved i)) (c.certify.ensures.told.heap a.space (mem a)) }

-- ---- the new cells, which have the words of the collector's space

pub begin-commander-requires-clause-sound : goal.begin-commander-requires-clause-sound
begin-commander-requires-clause-sound g c =
    let a = c.args.self.copier in
    let moved = c.in-Ok.ensures.moved ∙ moves c.args.self c.as_slice.result.now c.as_slice-2.result.now c.as_slice.ensures.value c.as_slice-2.ensures.value c.in-Ok.ensures.placed in
    subst IsHeap (sym (c.in-Ok-end.ensures.heap ∙ (λ i. one_heap (c.certify.ensures.space i) (moved i)))) (c.certify.ensures.told.heap a.space (mem a))

pub begin-commander-requires-clause-spare : goal.begin-commander-requires-clause-spare
begin-commander-requires-clause-spare g c = c.in-Ok-end.ensures.spare ∙ ap (λ (h : HeapWords). half h.space.size) (sym c.in-Ok-end.ensures.heap)

pub returns-clause-replicas : goal.returns-clause-replicas
returns-clause-replicas g c =
    let a = c.args.self.copier in
    let moved = c.in-Ok.ensures.moved ∙ moves c.args.self c.as_slice.result.now c.as_slice-2.result.now c.as_slice.ensures.value c.as_slice-2.ensures.value c.in-Ok.ensures.placed in
    ap graph_in (c.begin-commander.ensures.heap ∙ (c.in-Ok-end.ensures.heap ∙ (λ i. one_heap (c.certify.ensures.space i) (moved i)))) ∙ c.certify.ensures.told.graph a.space (mem a)

pub returns-clause-space : goal.returns-clause-space
returns-clause-space g c =
    let a = c.args.self.copier in
    c.begin-commander.ensures.size ∙ (ap (λ (h : HeapWords). h.space.size) c.in-Ok-end.ensures.heap ∙ (ap (λ (s : SpaceWords). s.size) c.certify.ensures.space ∙ a.sized.1))

pub returns-clause-fresh : goal.returns-clause-fresh
returns-clause-fresh g c =
    let a = c.args.self.copier in
    let size = ap (λ (h : HeapWords). h.space.size) c.in-Ok-end.ensures.heap ∙ (ap (λ (s : SpaceWords). s.size) c.certify.ensures.space ∙ a.sized.1) in
    c.begin-commander.ensures.fresh ∙ (λ i. opening_theirs (sym c.begin-commander.ensures.heap i) (size i) 1)

pub returns-clause-carried : goal.returns-clause-carried
returns-clause-carried g c =
    (c.certify.ensures.told).carried

pub returns-clause-ready : goal.returns-clause-ready
returns-clause-ready g c =
    let h = c.args.self in
    let d = done h c.as_slice.result.now c.as_slice-2.result.now c.as_slice.ensures.value c.as_slice-2.ensures.value (c.is_idle.ensures.idle c.if-not-is_idle.false) c.in-Ok.ensures.placed in
    ready_in h.copier.seat.me.0.mine h.copier.seat.me.0.theirs h.roots.items d.applied d.scanned d.rooted

pub returns-clause-ok : goal.returns-clause-ok
returns-clause-ok g c logged =
    let h = c.args.self in
    let b = c.certify.new.self.copier in
    let t = h.copier.seat.me.0.theirs in
    let same : b.seat.me.0.theirs ≡ t = ap (λ (m : Sat). m.0.theirs) c.certify.ensures.seen in
    let told = c.certify.ensures.told in
    let moves = c.begin-commander.ensures.moves ∙ c.after_flip-moves.ensures in
    record {
      pairs = pairs_of (its t);
      corresponding = subst (Corresponding (pairs_of (its t)) (graph_in (heap_held h))) (sym (returns-clause-replicas g c)) told.corresponding;
      moves = tells_pairs b.claims.items t (subst (Claims b.claims.items) same b.claimed) h.copier.loose (graph_in (heap_held h)) (new_graph (its t) (map value_of h.roots.items)) told.corresponding
          (λ a there. own_there h.copier.seat.me.0.mine t (h.sound).space (h.ended.1 ∙ sym h.copier.sized.0) h.starts_there a (start_of h.copier.seat.me.0.mine.space.words a there))
          (moves_in c.begin-commander.result.0) (ap (λ (m : MovesWords). m.row) moves ∙ c.in-Ok-end.ensures.claims);
      counted = ap (λ (m : MovesWords). m.flips) moves ∙ ap (λ (m : MovesWords). (m.flips + 1) % 2 ^ 64) c.certify.ensures.moves;
      fresh = c.begin-commander.ensures.begun ∙ ap begun_with (sym c.begin-commander.ensures.heap);
      taken = ap (length {A = ℕ × ℕ}) c.begin-commander.ensures.log;
    }

pub begin-commander-requires-clause-along : goal.begin-commander-requires-clause-along
begin-commander-requires-clause-along g c =
    let b = c.certify.new.self.copier in
    subst (λ (h : HeapWords). ∥ Follows c.flipped.new.self h.space.words (0 ∷ []) ∥₁) (sym c.in-Ok-end.ensures.heap)
    (flipped_follows b.standing c.flipped.new.self b.seat.me.0.seen b.space b.shaped (subst (λ (t : Tables). t.lost ≡ true → c.flipped.new.self.lost ≡ true) c.in-Ok-end.ensures.standing c.flipped.ensures.lost)
    (subst (λ (t : Tables). c.flipped.new.self.lost ≡ false → c.flipped.new.self ≡ flipped_tables t) c.in-Ok-end.ensures.standing c.flipped.ensures.flipped) b.along)

pub begin-commander-requires-clause-knows : goal.begin-commander-requires-clause-knows
begin-commander-requires-clause-knows g c =
    let b = c.certify.new.self.copier in
    let same = c.in-Ok-end.ensures.standing in
    let found : c.flipped.new.self.lost ≡ false = c.flipped.ensures.stays (ap (λ (t : Tables). t.lost) same ∙ is_found b) in
    subst (λ (h : HeapWords). ∥ Knows c.flipped.new.self h.space.words (0 ∷ []) (opening_theirs h h.space.size 1) ∥₁) (sym c.in-Ok-end.ensures.heap)
    (∥∥₁_elim b.knows (hlevel props) (λ k.
    ∣ flipped_knows b.standing c.flipped.new.self b.seat.me.0.seen b.space.words b.seat.me.0.theirs (one_heap b.space c.in-Ok.roots.items) b.space.size (c.flipped.ensures.flipped found ∙ ap flipped_tables same) b.sized.1 (old_low b.seat.me.0.theirs b.loose) k ∣₁))

-- what was asked, with the heap of the mutator that goes on
by_either : (asked : Bool) (said vouched vouched' : Type 0) → (vouched → vouched') → IfAsked asked said vouched → (vouched' ⊎ said) × IfAsked asked said vouched'
by_either true said vouched vouched' f by = (inr by, by)
by_either false said vouched vouched' f by = (inl (f by), f by)

pub returns-clause-asked : goal.returns-clause-asked
returns-clause-asked g c =
    let heap = (λ i. one_heap (sym c.certify.ensures.space i) (c.as_slice-3.ensures.value i)) ∙ sym (c.begin-commander.ensures.heap ∙ c.in-Ok-end.ensures.heap) in
    (by_either c.in-Ok-certify.asked _ _ _ (subst (IsVouchedBy c.args.self.copier.standing (heap_held c.args.self)) heap) c.in-Ok-certify.ensures.asked).0

pub returns-clause-turned : goal.returns-clause-turned
returns-clause-turned g c =
    let heap = (λ i. one_heap (sym c.certify.ensures.space i) (c.as_slice-3.ensures.value i)) ∙ sym (c.begin-commander.ensures.heap ∙ c.in-Ok-end.ensures.heap) in
    (by_either c.in-Ok-certify.asked _ _ _ (subst (IsVouchedBy c.args.self.copier.standing (heap_held c.args.self)) heap) c.in-Ok-certify.ensures.asked).1

-- ---- no cells could be made

-- what the mutator knows, and how the collection began, whether it goes on or begins anew
record Stands (a b : Sat) : Type 0 where
  writes : a.0.writes ≡ b.0.writes
  mine : a.0.mine ≡ b.0.mine
  base : a.0.theirs.base ≡ b.0.theirs.base
  starts : StartsThere b.0.mine b.0.theirs → StartsThere b.0.mine a.0.theirs

stands : (a b : Sat) → (a ≡ b) ⊎ (a ≡ restarted b) → Stands a b
stands a b (inl e) = record {
  writes = ap (λ (m : Sat). m.0.writes) e;
  mine = ap (λ (m : Sat). m.0.mine) e;
  base = ap (λ (m : Sat). m.0.theirs.base) e;
  starts = λ h. subst (λ (m : Sat). StartsThere b.0.mine m.0.theirs) (sym e) h;
}
stands a b (inr e) = record {
  writes = ap (λ (m : Sat). m.0.writes) e;
  mine = ap (λ (m : Sat). m.0.mine) e;
  base = ap (λ (m : Sat). m.0.theirs.base) e;
  starts = λ h. subst (λ (m : Sat). StartsThere b.0.mine m.0.theirs) (sym e) (λ r l. absurd l);
}

pub invariant_of-held : goal.invariant_of-held
invariant_of-held g c =
    let h = c.certify.new.self in
    let s = stands c.in-Err-end.copier.seat.me h.copier.seat.me c.in-Err-end.ensures.known in
    let id = c.in-Err-end.ensures.row.0 in
    let size = c.in-Err-end.ensures.row.1 in
    record {
      both = s.writes ∙ h.both;
      row = (h.row.0 ∙ sym id, h.row.1 ∙ sym size);
      logging = ap (λ (m : Mine). m.logs) s.mine ∙ h.logging;
      empty = (h.empty.0, ap (λ (m : Mine). m.log) s.mine ∙ h.empty.1);
      ended = (ap (λ (m : Mine). length m.space.words) s.mine ∙ h.ended.0, ap (λ (m : Mine). m.space.size) s.mine ∙ (h.ended.1 ∙ sym size));
      sound = subst (λ (m : Mine). IsHeap (heap_of m h.roots.items)) (sym s.mine) h.sound;
      behind = (let e = ap (λ (m : Mine). end_of m.base.heap.space) s.mine in let b = h.behind in omega arith);
      begun = s.base ∙ (h.begun ∙ sym (ap (λ (m : Mine). m.base.heap) s.mine));
      wide = subst (λ n. n / 64 < length h.starts.items) (sym size) h.wide;
      marked = subst (λ (m : Mine). TellsStarts h.starts.items m.space.words) (sym s.mine) h.marked;
      starts_there = subst (λ (m : Mine). StartsThere m c.in-Err-end.copier.seat.me.0.theirs) (sym s.mine) (s.starts h.starts_there);
      leads = subst (λ (m : Mine). LeadsOnlyTo (MayBeCopied m.base) (graph_in (heap_of m h.roots.items))) (sym s.mine) h.leads;
    }
