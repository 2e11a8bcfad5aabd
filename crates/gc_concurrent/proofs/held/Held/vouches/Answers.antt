-- The tables tell the truth of both spaces, so their yes is sound.
use Rattle.std.proofs.Common.{◌≡◌, ◌≤◌, ℕ, List, [], length, true, refl, ap, sym, ◌∙◌, subst, arith}
use Rattle.std.proofs.lemmas.List.{append-nil}
use Rattle.std.proofs.Math.Logic.{∥∥₁_elim}
use Rattle.std.proofs.Props.{props}
use Rattle.gc_words.specs.Image.{Image}
use Rattle.gc_words.specs.Space.{SpaceWords, image_with}
use Rattle.gc_words.specs.Certificate.{Certified}
use Rattle.gc_heap.specs.Heap.{IsHeap, image_of}
use Rattle.gc_concurrent.specs.Ends.{Mine, Theirs}
use Rattle.gc_concurrent.specs.Heaps.{heap_of}
use Rattle.gc_concurrent.specs.Internal.Flip.{Flips, HasNothingLeft}
use Rattle.gc_concurrent.specs.Internal.Knowing.{Knows}
use Rattle.gc_concurrent.proofs.InHand.{mem}
use Rattle.gc_concurrent.proofs.Vouching.{accepts_ready}
use Rattle.gc_monitor.specs.Tables.{Tables}
use Rattle.gc_monitor.specs.Claims.{Accepts}
use Rattle.gc_monitor.specs.Origins.{pairs_in}
use Rattle.gc_monitor.specs.Outline.{ImageOutline, outline_of}
use Rattle.gc_concurrent.specs.Holders.{heap_held}
use Rattle.gc_concurrent.specs.Internal.Rule.{Sat}
use Rattle.gc_concurrent.specs.Internal.Following.{Follows}
use Rattle.gc_concurrent.proofs.held.Held.vouches.Goals as goal

-- an outline with these numbers and roots
outline_is : (image : Image) (size end : ℕ) (roots : List ℕ) → size ≡ image.size → end ≡ image.end → end ≡ length image.words → roots ≡ image.roots → image.raws ≡ true
    → ◌≡◌ {A = ImageOutline} (record { size = size; end = end; count = end; roots = roots; raws = true }) (outline_of image)
outline_is image size end roots s e n r raws = λ i. record { size = s i; end = e i; count = n i; roots = r i; raws = sym raws i }

pub returns-clause-yes : goal.returns-clause-yes
returns-clause-yes c said =
    let h = c.args.self.now in
    let t : Tables = c.look.new.self.standing in
    let words : c.see.new.self.seat.me.0.mine.space.words ≡ h.copier.seat.me.0.mine.space.words = ap (λ (m : Sat). m.0.mine.space.words) c.see.ensures.seen in
    let space : c.look.new.self.space ≡ h.copier.space = c.look.ensures.space ∙ c.see.ensures.space in
    let f : ∥ Follows t h.copier.seat.me.0.mine.space.words h.copier.space.words ∥₁ = subst (λ (z : List ℕ × SpaceWords). ∥ Follows t z.0 z.1.words ∥₁) (λ i. (words i, c.see.ensures.space i))
    (c.look.ensures.along (ap (λ (m : Sat). m.0.mine.log) c.see.ensures.seen ∙ h.empty.1)) in
    let old : Image = image_of (heap_held h) in
    let new : Image = image_with h.copier.space c.args.moved.now in
    let accepts : Accepts t (outline_of old) (outline_of new) = subst (λ (z : ImageOutline × ImageOutline). Accepts t z.0 z.1)
    (λ i. (
      outline_is old c.look.new.self.size h.end _ (c.look.ensures.row.1 ∙ c.see.ensures.row.1 ∙ sym h.ended.1) (sym h.ended.0) (sym h.ended.0) (append-nil c.as_slice.result.now ∙ c.as_slice.ensures.value) refl i,
      outline_is new c.size.result c.end-new_end.result _ (c.size.ensures.value ∙ ap (λ (s : SpaceWords). s.size) space) (c.end-new_end.ensures.value ∙ ap (λ (s : SpaceWords). length s.words) space)
          (c.end-new_end.ensures.value ∙ ap (λ (s : SpaceWords). length s.words) space) (append-nil c.args.moved.now) refl i,
    )) (c.says_yes.ensures.exact.0 said) in
    let kept : t ≡ c.see.new.self.standing = c.look.ensures.standing in
    let same : record t { olds = h.copier.standing.olds } ≡ h.copier.standing = ap (λ (t : Tables). record t { olds = h.copier.standing.olds }) kept ∙ c.see.ensures.same in
    record {
      walked = t;
      same = same;
      accepts = accepts;
      certified = subst (λ (z : Tables). ∥ Certified old new (pairs_in z.origins) ∥₁) same (∥∥₁_elim f (hlevel props) (λ x. ∣ c.a_yes_is_sound.ensures.told old new t (x accepts.seen.found).0 accepts ∣₁));
    }

pub returns-clause-surely : goal.returns-clause-surely
returns-clause-surely c =
    let h = c.args.self.now in
    let t : Tables = c.look.new.self.standing in
    let m = h.copier.seat.me.0.mine in
    let x = h.copier.seat.me.0.theirs in
    let roots : List ℕ = h.roots.items in
    let went = c.see.ensures.seen in
    let words : c.see.new.self.seat.me.0.mine.space.words ≡ m.space.words = ap (λ (m : Sat). m.0.mine.space.words) went in
    let log : c.see.new.self.seat.me.0.mine.log ≡ [] = ap (λ (m : Sat). m.0.mine.log) went ∙ h.empty.1 in
    let space : c.look.new.self.space ≡ h.copier.space = c.look.ensures.space ∙ c.see.ensures.space in
    let f : ∥ Follows t m.space.words h.copier.space.words ∥₁ = subst (λ (z : List ℕ × SpaceWords). ∥ Follows t z.0 z.1.words ∥₁) (λ i. (words i, c.see.ensures.space i)) (c.look.ensures.along log) in
    let k : ∥ Knows t m.space.words h.copier.space.words x ∥₁
    = subst (λ (z : List ℕ × (SpaceWords × Theirs)). ∥ Knows t z.0 z.1.0.words z.1.1 ∥₁) (λ i. (words i, (c.see.ensures.space i, ap (λ (m : Sat). m.0.theirs) went i))) (c.look.ensures.knows log) in
    let left = c.requires.left in
    let flips : Flips roots m x = subst (λ (z : Mine × Theirs). Flips roots z.0 z.1) (λ i. (ap (λ (m : Sat). m.0.mine) went i, ap (λ (m : Sat). m.0.theirs) went i))
    (c.look.ensures.told roots (subst (λ (z : Mine). IsHeap (heap_of z roots)) (sym (ap (λ (m : Sat). m.0.mine) went)) h.sound)
    (subst (λ (m : Sat). HasNothingLeft roots m.0) (sym went) (record { logged = left.logged; applied = left.applied; scanned = left.scanned; rooted = left.rooted }))) in
    let old : Image = image_of (heap_held h) in
    let new : Image = image_with h.copier.space c.args.moved.now in
    ∥∥₁_elim f (hlevel props) (λ follows. ∥∥₁_elim k (hlevel props) (λ k.
    let accepts : Accepts t (outline_of old) (outline_of new) = subst (λ ws. Accepts t (outline_of old) (outline_of (image_with h.copier.space ws))) (sym c.requires.moved)
    (accepts_ready t roots m x h.copier.space (mem h.copier) h.copier.loose flips left.applied left.scanned follows k
    (let low : h.end ≤ length c.see.new.self.standing.olds = c.see.ensures.words h.both (let e = h.ended.0 in omega arith) in
    let same : length t.olds ≡ length c.see.new.self.standing.olds = ap (λ (t : Tables). length t.olds) c.look.ensures.standing in
    let high = (follows k.found).0.watches.old_seen.within in
    let e = h.ended.0 in omega arith)) in
    c.says_yes.ensures.exact.1 (subst (λ (z : ImageOutline × ImageOutline). Accepts t z.0 z.1)
    (λ i. (
      sym (outline_is old c.look.new.self.size h.end _ (c.look.ensures.row.1 ∙ c.see.ensures.row.1 ∙ sym h.ended.1) (sym h.ended.0) (sym h.ended.0) (append-nil c.as_slice.result.now ∙ c.as_slice.ensures.value) refl) i,
      sym (outline_is new c.size.result c.end-new_end.result _ (c.size.ensures.value ∙ ap (λ (s : SpaceWords). s.size) space) (c.end-new_end.ensures.value ∙ ap (λ (s : SpaceWords). length s.words) space)
          (c.end-new_end.ensures.value ∙ ap (λ (s : SpaceWords). length s.words) space) (append-nil c.args.moved.now) refl) i,
    )) accepts)))
