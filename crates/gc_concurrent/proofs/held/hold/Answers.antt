-- Two seats become one, and the log changes hands.
use Rattle.std.proofs.Common.{◌≡◌, ◌/◌, ◌<◌, ◌≤◌, true, ℕ, List, [], ◌++◌, length, refl, ap, sym, ◌∙◌, subst, arith}
use Rattle.atomic_table.specs.Seated.{TableId}
use Rattle.gc_heap.specs.Heap.{IsHeap, graph_in}
use Rattle.gc_words.specs.Space.{end_of}
use Rattle.gc_model.specs.Carried.{LeadsOnlyTo}
use Rattle.gc_concurrent.specs.Unreachable.{MayBeCopied}
use Rattle.gc_concurrent.specs.Ends.{Known, Mine, Theirs, its}
use Rattle.gc_model.specs.Members.{In}
use Rattle.gc_model.specs.State.{new_end}
use Rattle.gc_model.proofs.Public.{in_right}
use Rattle.gc_concurrent.specs.Internal.Knowing.{Knows}
use Rattle.gc_concurrent.proofs.Knowing.{logs_brings}
use Rattle.gc_concurrent.proofs.Known.{can_tell, is_found, knows_caught}
use Rattle.gc_concurrent.specs.Heaps.{heap_of}
use Rattle.gc_concurrent.specs.Internal.Rule.{KnowsBelonging, Loose, RootWords, Sat, StartsThere, logs_taken}
use Rattle.gc_concurrent.proofs.TiedCells.{tied, tied_words}
use Rattle.gc_concurrent.proofs.Opening.{joins_rule}
use Rattle.gc_concurrent.proofs.Joined.{takes_rule}
use Rattle.gc_concurrent.specs.Internal.Following.{Follows, WroteEach}
use Rattle.gc_concurrent.proofs.Comparing.{along_caught}
use Rattle.gc_concurrent.specs.Internal.Starts.{TellsStarts}
use Rattle.gc_concurrent.proofs.held.hold.Goals as goal

pub join_seat-requires : goal.join_seat-requires
join_seat-requires c =
    let a = c.args.copier in
    let m = c.args.commander.mutator in
    let t : a.seat.table_id ≡ c.deref.result.now.shared.table_id = tied _ _ _ c.deref.ensures a.row.0 in (
      t,
      c.requires.row ∙ t,
      m.hands,
      (let low = a.shaped.end_low in let w = tied_words _ _ _ _ c.deref.ensures a.row.0 a.row.1 in let z = m.sized in
          let e : m.seat.table_id.words ≡ a.seat.table_id.words = ap (λ (i : TableId). i.words) c.requires.row in let x = m.row.1 in let y = a.row.1 in
          let l = c.args.commander.sound.space.end_low in let h = c.args.commander.sound.space.end_high in omega arith),
      joins_rule _ _ _ _ _ a.copies m.writes,
    )

pub load-requires : goal.load-requires
load-requires c =
    let a = c.args.copier in
    let m = c.args.commander.mutator in (
      c.join_seat.ensures.0 ∙ tied _ _ _ c.deref-2.ensures a.row.0,
      (let w = tied_words _ _ _ _ c.deref-2.ensures a.row.0 a.row.1 in let z = m.sized in
          let e : m.seat.table_id.words ≡ a.seat.table_id.words = ap (λ (i : TableId). i.words) c.requires.row in let x = m.row.1 in let y = a.row.1 in
          let l = c.args.commander.sound.space.end_low in let h = c.args.commander.sound.space.end_high in omega arith),
      takes_rule _ _ _ _ _ (ap (λ (x : Sat). x.0.writes) c.join_seat.ensures.2) (ap (λ (x : Sat). x.0.copies) c.join_seat.ensures.2),
    )

pub invariant_of-result-2 : goal.invariant_of-result-2
invariant_of-result-2 c =
    let a = c.args.copier in
    let m = c.args.commander.mutator in
    let joined = c.join_seat.ensures.2 in
    let took = c.load.ensures.2.0.0 in
    let mine : c.load.new.seat.me.0.mine ≡ record m.seat.me.0.mine { log = [] } = ap (λ (x : Sat). x.0.mine) took ∙ ap (λ (x : Sat). record x.0.mine { log = [] }) joined in
    let id : m.seat.table_id ≡ c.load.new.seat.table_id = c.requires.row ∙ (sym c.join_seat.ensures.0 ∙ sym c.load.ensures.0) in
    let size : m.size ≡ a.size = sym m.row.1 ∙ (ap (λ (i : TableId). i.words) c.requires.row ∙ a.row.1) in
    record {
      both = ap (λ (x : Sat). x.0.writes) took ∙ ap (λ (x : Sat). x.0.writes) joined;
      row = (m.row.0 ∙ id, m.row.2 ∙ size);
      logging = ap (λ (x : Mine). x.logs) mine ∙ m.logging;
      empty = (c.emptied.ensures, ap (λ (x : Mine). x.log) mine);
      ended = (ap (λ (x : Mine). length x.space.words) mine ∙ c.args.commander.ended, ap (λ (x : Mine). x.space.size) mine ∙ (m.sized ∙ size));
      behind = (let e = ap (λ (x : Mine). end_of x.base.heap.space) mine in let b = c.args.commander.behind in omega arith);
      begun = ap (λ (x : Sat). x.0.theirs.base) took ∙ (c.load.ensures.2.0.1 ∙ sym (ap (λ (x : Sat). x.0.mine.base.heap) took));
      starts_there = subst (λ (z : Mine × Theirs). StartsThere z.0 z.1) (λ i. ((sym took i).0.mine, (sym took i).0.theirs)) c.load.ensures.2.0.3;
      leads = subst (λ (x : Mine). LeadsOnlyTo (MayBeCopied x.base) (graph_in (heap_of x c.args.commander.roots.items))) (sym mine) c.args.commander.leads;
      sound = subst (λ (x : Mine). IsHeap (heap_of x c.args.commander.roots.items)) (sym mine) c.args.commander.sound;
      wide = subst (λ (n : ℕ). n / 64 < length m.starts.items) size m.wide;
      marked = subst (λ (x : Mine). TellsStarts m.starts.items x.space.words) (sym mine) m.marked;
    }

-- what the collector knows with the log
abbrev with_log : Known → Theirs
with_log v = record v.theirs { due = v.theirs.due ++ v.mine.log }

loose_after : (v : Known) (me : Sat) (hands : List (ℕ × RootWords)) → me ≡ (logs_taken v, hands) → v.copies ≡ true → KnowsBelonging me → ∥ Loose (with_log v) ∥₁
loose_after v me hands took copies knows = subst (λ (t : Theirs). ∥ Loose t ∥₁) (ap (λ (x : Sat). x.0.theirs) took) (knows (ap (λ (x : Sat). x.0.copies) took ∙ copies))

pub tell-requires-clause-found : goal.tell-requires-clause-found
tell-requires-clause-found c = is_found c.args.copier

pub tell-requires-clause-claims : goal.tell-requires-clause-claims
tell-requires-clause-claims c =
    let a = c.args.copier in
    let m = c.args.commander.mutator in
    let joined = c.join_seat.ensures.2 in
    let v = c.join_seat.new.seat.me.0 in
    let took = c.load.ensures.2.0.0 in
    let log : c.as_slice-2.result.now ≡ v.mine.log = c.as_slice-2.ensures.value ∙ sym m.logged ∙ sym (ap (λ (x : Sat). x.0.mine.log) joined) in
    can_tell a c.as_slice.result.now c.as_slice-2.result.now (with_log v) c.as_slice.ensures.value (loose_after v c.load.new.seat.me _ took (ap (λ (x : Sat). x.0.copies) joined) c.load.ensures.2.1) (ap (λ (x : Sat). x.0.theirs.replicas) joined)
    (λ x i there. (0, in_right (x, i) v.theirs.due v.mine.log (subst (In {X = ℕ × ℕ} (x, i)) log there)))

pub invariant_of-result-clause-along : goal.invariant_of-result-clause-along
invariant_of-result-clause-along c =
    let a = c.args.copier in
    let m = c.args.commander.mutator in
    let joined = c.join_seat.ensures.2 in
    let log : c.as_slice-2.result.now ≡ c.join_seat.new.seat.me.0.mine.log = c.as_slice-2.ensures.value ∙ sym m.logged ∙ sym (ap (λ (x : Sat). x.0.mine.log) joined) in
    subst (λ ws. ∥ Follows c.tell.new.standing ws a.space.words ∥₁) (sym (ap (λ (x : Sat). x.0.seen) c.load.ensures.2.0.0))
    (along_caught a c.join_seat.new.seat.me.0 c.tell.new.standing (ap (λ (x : Sat). x.0.seen) joined) (ap (λ (x : Sat). x.0.theirs) joined) c.load.ensures.2.0.2
    c.tell.ensures.lost
    (λ found. subst (λ xs. WroteEach xs a.standing c.tell.new.standing) log (c.tell.ensures.told found)))

pub invariant_of-result-clause-knows : goal.invariant_of-result-clause-knows
invariant_of-result-clause-knows c =
    let a = c.args.copier in
    let m = c.args.commander.mutator in
    let joined = c.join_seat.ensures.2 in
    let v = c.join_seat.new.seat.me.0 in
    let took = c.load.ensures.2.0.0 in
    let log : c.as_slice-2.result.now ≡ v.mine.log = c.as_slice-2.ensures.value ∙ sym m.logged ∙ sym (ap (λ (x : Sat). x.0.mine.log) joined) in
    subst (λ (z : List ℕ × Theirs). ∥ Knows c.tell.new.standing z.0 a.space.words z.1 ∥₁) (λ i. (sym (ap (λ (x : Sat). x.0.seen) took) i, sym (ap (λ (x : Sat). x.0.theirs) took) i))
    (knows_caught a v c.tell.new.standing (with_log v) (ap (λ (x : Sat). x.0.seen) joined) (ap (λ (x : Sat). x.0.theirs) joined) c.load.ensures.2.0.2
    (subst (λ xs. WroteEach xs a.standing c.tell.new.standing) log (c.tell.ensures.told c.tell.ensures.found)) (loose_after v c.load.new.seat.me _ took (ap (λ (x : Sat). x.0.copies) joined) c.load.ensures.2.1) (logs_brings v.mine.log v.theirs) refl
    (λ x i there. (0, in_right (x, i) v.theirs.due v.mine.log there)))

pub returns-clause-fits : goal.returns-clause-fits
returns-clause-fits c = subst (λ (x : Sat). new_end (its x.0.theirs) ≤ end_of x.0.mine.space) (sym c.load.ensures.2.0.0) c.load.ensures.2.0.4
