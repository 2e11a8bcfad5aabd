-- The bit and the entry of the last place are those of the replica, and no other place has another original.
use Rattle.std.proofs.Common.{◌≡◌, ◌≤◌, inl, inr, length, ◌+◌, ◌/◌, set, ◌∷◌, ◌++◌, replicate, refl, ◌∙◌, ap, arith}
use Rattle.std.specs.Vec.{with_items}
use Rattle.std.proofs.lemmas.List.{with_items_is}
use Rattle.gc_monitor.specs.Internal.InWords.{Origins}
use Rattle.gc_monitor.proofs.Halves.{IsAdded, seen_fits, added}
use Rattle.gc_monitor.proofs.origin_row.OriginRow.add.Goals as goal
use Rattle.gc_monitor.proofs.origin_row.OriginRow.add.Goals.{After-index_mut}

pub grow-requires : goal.grow-requires
grow-requires c =
    let fits = seen_fits _ _ _ _ _ _ c.self.view_is c.requires in
    let has = c.self.invariant.0 in
    record {
      few = omega (arith, c.from.ensures);
      words = omega (arith, c.from.ensures, has.bits, c.self.inside.starts.ok.0);
      halves = omega (arith, has.halves, c.self.inside.starts.ok.0, c.self.inside.originals.ok.0);
      room = omega (arith, c.from.ensures);
      room_for_halves = omega (arith, c.from.ensures);
    }

-- where there is room there is place 0
some : (c : After-index_mut) → 1 ≤ c.self.inside.len
some c = elim c.self.invariant.2 [
  | inl low ↦ low
  | inr none ↦ absurd (omega (arith, none, seen_fits _ _ _ _ _ _ c.self.view_is c.requires))
]

row : (c : After-index_mut) → IsAdded c.self.inside.starts.items c.self.inside.originals.items (with_items c.grow.new.starts c.mark.new.bits).items (set c.grow.new.originals.items (c.self.inside.len / 2) c.args.original)
    c.self.inside.len (c.self.inside.len + (c.from.result + 2)) c.args.fields c.args.original
row c =
    let long : length c.mark.new.bits ≡ c.grow.new.starts.len = omega (arith, c.mark.ensures.len, c.as_mut_slice.ensures.len, c.grow.new.starts.ok.0) in
    added _ _ _ _ _ _ _ _ _ _ _ c.args.fields c.args.original c.self.invariant.0 (some c) c.self.inside.starts.ok.0 c.self.inside.originals.ok.0 (c.as_mut_slice.ensures.value ∙ c.grow.ensures.starts) c.grow.ensures.originals (omega (arith, c.from.ensures)) refl
    c.mark.ensures.len c.mark.ensures.marked c.mark.ensures.others (with_items_is c.grow.new.starts c.mark.new.bits long)

pub invariant_of-self : goal.invariant_of-self
invariant_of-self c = (
  (row (goal.at.invariant_of-self c).After-index_mut).has,
  omega (arith, seen_fits _ _ _ _ _ _ c.self.view_is c.requires, c.from.ensures, c.grow.ensures.starts_capacity, c.grow.ensures.originals_capacity),
  inl (omega arith),
)

pub returns-clause-origins : goal.returns-clause-origins
returns-clause-origins c =
    (row (goal.at.returns-clause-origins c).After-index_mut).origins ∙ ap (λ (t : Origins). t.origins ++ c.args.original ∷ 0 ∷ replicate c.args.fields 0) c.self.view_is
