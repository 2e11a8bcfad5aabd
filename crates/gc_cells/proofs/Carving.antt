-- A `Vec` of words is its words, as a strip, and the way back. Assumes `Logic`.
use Rattle.std.proofs.Common.{◌≡◌, ℕ, ◌+◌, ◌*◌, ◌^◌, ◌<◌, List, [], ◌∷◌, length, true, refl, sym, arith, Vec}
use Rattle.std.proofs.lemmas.Bool.{ne_eqb, not_from_false}
use Rattle.std.proofs.lemmas.List.{with_items_is}
use seplogic.Ra.Ura.{Ura}
use mir.Val.{Val}
use base.Fraction.{full_share}
use base.Logic.{ent, sep, wand, never, id⊢}
use base.Fml.{fsep, feq, fall, fwand, ftrue}
use base.Shift.{Keyless}
use types.Logic.{Logic, sem}
use types.Kit.{‵, ◌$◌, ◌∵◌, !, qed, move, drop, frame, each, assume, show, fsplit, fjoin, fpack, feq_l, feq_i, flt_l, flt_i, rewrite, use1, done}
use types.SemTy.{cells}
use denote.RattleType.{RattleType}
use denote.Builtin.{u64}
use denote.Array.{Array}
use denote.ArrayMemory.{Array-apart, Array-whole}
use denote.Index.{row, whole_in, whole_out}
use denote.Memory.{mem}
use denote.Param.Send.{IsSend, IsSync, Frees, part_keyless, sendable, struct_send}
use denote.RawPtr.{Ptr, block_ptr, block_of, count_of, lies_at, in_block, in_a_block, InBlock}
use denote.Steps.{nothing}
use denote.Struct.Declared as declared
use Rattle.core.specs.Mem.{type_size}
use Rattle.std.specs.declared.alloc.Allocator.{Ghosts}
use Rattle.std.specs.Allocator.{block_with_items}
use Rattle.std.specs.Vec.{with_items}
use Rattle.std_alloc.specs.Vec.Ownership.{owns_if, has_block}
use Rattle.std_alloc.specs.contracts.vec.Vec as V
use Rattle.std_alloc.proofs.SendSync.{Vec-send}
use Rattle.bytes.proofs.Walks.{plainly, one, one_made}
use Rattle.atomic_table.specs.Seated.{strip}
use Rattle.gc_cells.specs.contracts.shell.Shell as Shell
use Rattle.gc_cells.specs.contracts.shell.Shell.TheInside as Inside

module _ (P : RattleType) (g : Ghosts P.Denot) {M : Type 1} {𝓤 : Ura M} (𝓛 : Logic 𝓤) (v : Vec ℕ P.Denot) (u : Val) where
  pub carve : 0 < v.len → ent 𝓤 (sem 𝓛 ((V.the_row u64 P g).own_val v (u ∷ []))) (sep 𝓤 (sem 𝓛 (strip u64 v.ptr v.items)) (sem 𝓛 (Shell.the_own P g (record { ptr = v.ptr; len = v.len }) (one u ∷ []))))
  carve some =
      let live : has_block v.cap ≡ true = not_from_false _ (ne_eqb v.cap 0 (λ e. omega (arith, v.ok.1))) in
      let t = g.dealloc_token v.alloc in
      let Blk = λ (p : Ptr) (xs : List ℕ). block_with_items t u64 p v.len v.cap xs in
      let Given = λ (ys : List ℕ). fsep (feq ℕ (length ys) v.len) (strip u64 v.ptr ys) in
      let Whole = λ (ys : List ℕ). (plainly (V.the_row u64 P g ∷ [])).own_val (with_items v ys, tt) (one u ∷ []) in
      qed 𝓛 (‵ ((V.the_row u64 P g).own_val v (u ∷ [])) ∷ []) ∵ fsplit ! $ move ! (1 ∷ []) $ fsplit ! $ flt_l ! (λ fit.
      let fits : v.cap * 8 < 2 ^ 63 = fit in
      let bound : length v.items * 8 < 2 ^ 63 = omega (arith, v.ok.0, v.ok.1) in
      in_a_block ! v.ptr (λ p. in_block p (owns_if (has_block v.cap) (Blk p v.items))) (id⊢ 𝓤 (never 𝓤)) (λ b o at.
      rewrite ! 0 (λ y. ‵ (owns_if y (Blk (block_ptr b o) v.items))) live refl $ fsplit ! $
      use1 𝓛 (‵ (fsep (feq ℕ (length v.items) v.len) (row u64 full_share v.items b o))) (Array-apart 𝓛 u64 full_share tt v.len v.items b o) $ fsplit ! $ feq_l ! (λ along.
      use1 𝓛 (‵ (cells (mem u64) v.items b o)) (whole_in 𝓛 u64 v.items b o) $
      nothing ! $ fpack ! (InBlock (block_ptr b o) × (length v.items * (mem u64).size < 2 ^ 63)) (λ _. ftrue) (tt, bound) $ fjoin ! $
      rewrite ! 0 (λ p. ‵ (strip u64 p v.items)) (sym at) refl $ frame ! $
      -- [the spare room and the right to free; the fields]
      show ! (λ i. sem 𝓛 (fsep (feq ℕ i.vec.len v.len) (fall (List ℕ) (λ ys. fwand (Given ys) ((plainly (V.the_row u64 P g ∷ [])).own_val (with_items i.vec ys, tt) (one u ∷ [])))))) (record { vec = v }) $
      feq_i ! ℕ v.len v.len refl $ frame ! $ each ! (λ ys. wand 𝓤 (sem 𝓛 (Given ys)) (sem 𝓛 (Whole ys))) (λ ys. assume ! (‵ (Given ys)) $ fsplit ! $ feq_l ! (λ long.
      rewrite ! 0 (λ p. ‵ (strip u64 p ys)) at refl $ fsplit ! $ drop ! $
      use1 𝓛 (‵ (row u64 full_share ys b o)) (whole_out 𝓛 u64 ys b o) $ feq_i ! ℕ (length ys) v.len long $ fjoin ! $
      use1 𝓛 (‵ (lies_at (Array u64 v.len) full_share (block_ptr b o) ys)) (Array-whole 𝓛 u64 full_share v.len ys b o) $ fjoin ! $
      rewrite ! 0 (λ xs. ‵ (Blk (block_ptr b o) xs)) (sym (with_items_is v ys long)) refl $
      let zs = (with_items v ys).items in
      rewrite ! 0 (λ y. ‵ (owns_if y (Blk (block_ptr b o) zs))) (sym live) refl $
      rewrite ! 0 (λ p. ‵ (in_block p (owns_if (has_block v.cap) (Blk p zs)))) (sym at) refl $
      flt_i ! (v.cap * type_size u64) (2 ^ 63) fit $ fjoin ! $ move ! (1 ∷ 0 ∷ []) $ fjoin ! $ one_made ! (V.the_row u64 P g) (with_items v ys) u $ done !)))))

-- ---- what a shell owns names no thread
u64_send : IsSend u64
u64_send = search sendable

cells_keyless : (xs : List ℕ) (b o : ℕ) → Keyless (cells (mem u64) xs b o)
cells_keyless [] b o = tt
cells_keyless (x ∷ xs) b o = (part_keyless u64 u64_send full_share x b o, cells_keyless xs b (o + (mem u64).size))

strip_keyless : (p : Ptr) (xs : List ℕ) → Keyless (strip u64 p xs)
strip_keyless p xs = ((λ _. tt), cells_keyless xs (block_of p) (count_of p))

pub shell_send : (A : RattleType) (g : Ghosts A.Denot) → IsSend A → Frees g g.dealloc_token → IsSend (Shell.the_row A g)
shell_send A g s f = record {
  owned = λ e vs. (
    (λ _. tt),
    λ v. (
      tt,
      λ xs. (
        (tt, strip_keyless e.ptr xs),
        (struct_send (declared.shape (Inside.the_type A g)) (Vec-send u64 A g u64_send s f, tt)).owned (with_items v.vec xs, tt) vs,
      ),
    ),
  );
  leaving = λ k x w. tt;
}

pub shell_sync : (A : RattleType) (g : Ghosts A.Denot) → IsSync (Shell.the_row A g)
shell_sync A g = record { shared = λ e b o κ. tt }
