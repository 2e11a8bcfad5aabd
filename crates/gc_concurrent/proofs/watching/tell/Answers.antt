-- One entry more.
use Rattle.std.proofs.Common.{ℕ, zero, suc, ◌<◌, List, [], ◌∷◌, length, get_or, inl, inr, refl, sym, subst, arith, length-set}
use Rattle.std.specs.Prelude.{slice_index}
use Rattle.gc_words.specs.Layout.{field_place}
use Rattle.gc_model.specs.Members.{In}
use Rattle.gc_monitor.specs.Claims.{CanWriteAt}
use Rattle.gc_monitor.specs.Events.{Wrote}
use Rattle.gc_monitor.specs.Tables.{Tables}
use Rattle.gc_concurrent.specs.Moves.{half}
use Rattle.gc_concurrent.proofs.Following.{one_more}
use Rattle.gc_concurrent.proofs.watching.tell.Goals as goal

in_row : (xs : List (ℕ × ℕ)) (k : ℕ) → k < length xs → In (get_or xs k (0, 0)) xs
in_row [] k l = absurd (omega arith)
in_row (x ∷ xs) zero l = inl refl
in_row (x ∷ xs) (suc k) l = inr (in_row xs k (omega arith))

-- rows that a write leaves
still_can : (t after : Tables) (x j a i b : ℕ) → Wrote x j t after → CanWriteAt a i b t → CanWriteAt a i b after
still_can t after x j a i b (inl h) can = subst (CanWriteAt a i b) (sym h.1) can
still_can t after x j a i b (inr (c, at, within, is)) can = subst (CanWriteAt a i b) (sym is)
    (λ two. let w = can two in (w.0, w.1, (let n = w.2 in let m = length-set t.news (field_place c j) 3 in omega arith)))

pub loop-k-preserved : goal.loop-k-preserved
loop-k-preserved c =
    let e : ℕ × ℕ = get_or c.args.log.now c.loop-k.k (0, 0) in
    let can = subst (λ b. CanWriteAt e.0 e.1 b c.loop-k.standing) (sym c.claim_of-claim.ensures) (c.loop-k.invariant.3 e.0 e.1 (in_row c.args.log.now c.loop-k.k c.loop-k-test.true)) in
    let found = c.wrote.ensures.stays c.loop-k.invariant.2 can in (
      λ lost. c.wrote.ensures.lost (c.loop-k.invariant.0 lost),
      λ found. one_more c.args.log.now c.loop-k.k c.args.standing.now c.loop-k.standing c.wrote.new.self c.loop-k-test.true c.wrote.ensures.lost found c.loop-k.invariant.1 (c.wrote.ensures.wrote found),
      found,
      λ a i there. still_can c.loop-k.standing c.wrote.new.self e.0 e.1 a i (slice_index c.args.claims.now (half a)) (c.wrote.ensures.wrote found) (c.loop-k.invariant.3 a i there),
    )
