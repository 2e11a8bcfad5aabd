-- A handle is compared with null, and does not change.
use Rattle.std.proofs.Common.{◌≡◌, ℕ, Bool, true, false, List, [], ◌∷◌, refl, sym, subst, lit<, Option, Some, None, IsSome, MatchBool}
use lib.Dec.{T}
use seplogic.Ra.Ura.{Ura}
use mir.Syntax.{named, ty_ptr, ptr_eq}
use mir.Raw.{raw as bare}
use mir.Val.{Val, vnull, vbool, has_ty, WT, op2_val}
use base.Fraction.{full_share}
use base.Logic.{ent, guard, guard_i, via, snd∗, fst∗, never}
use base.Fml.{ftrue, feq, flft}
use types.Logic.{Logic, sem}
use contract.Monad.{fact_use}
use contract.Running.{tables}
use types.Kit.{‵, ◌⊛◌, given, ◌$◌, ◌∵◌, !, qed, done, move, keep, use1, split, join, fsplit, fsplit3, fjoin, feq_i, feq_l, learn, check, rewrite, suffices, frame, group}
use types.Run.{enter, of_opd, lit, bin, load, fld, stop, returns}
use types.ByLocal.{is, alloc_all, pass_all, free_all, look_at, get, through, sets}
use types.Part.{whole, sub, look_in}
use denote.Laws.{shows}
use denote.Memory.{cell_at, lone}
use denote.RawPtr.{Ptr, block_ptr, null_ptr, ptr_val, in_a_block, InBlock, Testable, tests_null, lies_at}
use denote.Ref.{MutRef, mut_vals, mut_Tells}
use denote.Signature.{plain}
use denote.Steps.{nothing, opens, closes, peeks}
use denote.Triple.Walked.{Stays, walk_of, says, stay_ref, Goes-ref, ends_at}
use Rattle.std.specs.Box.Ownership.{box_owns}
use Rattle.std.specs.declared.alloc.Global.{Global}
use Rattle.std.specs.contracts.impls.GlobalAllocator.TheImpl.{ghosts}
use Rattle.std.proofs.GlobalToken.{dealloc_token-Testable}
use Rattle.std.proofs.raw_atomic.Walks.{proved}
use Rattle.gcflip_heap_c.specs.Handle.{owns_heap}
use Rattle.gc_model.specs.State.{State}
use Rattle.gc_collected.specs.Collected.{Beside}
use Rattle.gc_collected.specs.contracts.collected_heap.CollectedHeap as Row
use Rattle.gcflip_heap_c.specs.contracts.handle.GcflipHeap.is_empty as f
use Rattle.gcflip_heap_c.specs.contracts.handle.GcflipHeap.{the_row as R}
use Rattle.gcflip_heap_c.proofs.handle.GcflipHeap.is_empty.Statement.{statement}
use Rattle.gcflip_heap_c.proofs.handle.GcflipHeap.is_empty.Code as code
use Rattle.gcflip_heap_c.proofs.handle.GcflipHeap.TheLaws.{lowers}

abbrev stayed : Stays f.ended.signature.params f.ended.kept
stayed = (stay_ref (0 ∷ []) tt (plain (λ _. R)), tt)

abbrev X : Type 0
X = State

-- null if there is no value, otherwise the start of a block
abbrev Placed : Ptr → Option X → Type 0
Placed p None = p ≡ null_ptr
Placed p (Some x) = InBlock p

abbrev typed : (p : Ptr) → T (has_ty ty_ptr (ptr_val p)) × WT (ptr_val p)
typed (block_ptr b o) = (tt, tt)
typed null_ptr = (tt, record { fits = lit< tt })

answer : (p : Ptr) (row : Option X) → Placed p row → (y : Bool) × (op2_val ptr_eq (ptr_val p) vnull ≡ vbool y) × MatchBool y (row ≡ None) (IsSome row)
answer null_ptr None e = (true, refl, refl)
answer (block_ptr b o) None e = absurd (subst InBlock e tt)
answer (block_ptr b o) (Some x) t = (false, refl, refl)
answer null_ptr (Some x) t = absurd t

module _ {M : Type 1} {𝓤 : Ura M} (𝓛 : Logic 𝓤) (a : Global) (p : Ptr) (beside : Beside) (left : ℕ) where
  tested : (x : X) → ent 𝓤 (sem 𝓛 (owns_heap a p (Some x) beside left)) (guard 𝓤 (Testable p) (sem 𝓛 (owns_heap a p (Some x) beside left)))
  tested x = fact_use 𝓤 (Testable p)
      (via 𝓤 _ (snd∗ 𝓤 (sem 𝓛 (lies_at Row.the_row full_share p (record { core = x; beside = beside; roots_left = left }))) (sem 𝓛 (ghosts.dealloc_token a (bare (lone Row.the_row.mir)) p))) (dealloc_token-Testable 𝓛 a (bare (lone Row.the_row.mir)) p))
      (guard_i 𝓤 (Testable p) (sem 𝓛 (owns_heap a p (Some x) beside left)))

  tells : (row : Option X) → ent 𝓤 (sem 𝓛 (owns_heap a p row beside left)) (guard 𝓤 (Testable p × Placed p row) (sem 𝓛 (owns_heap a p row beside left)))
  tells None = qed 𝓛 (‵ (feq Ptr p null_ptr) ∷ []) ∵ feq_l ! (λ e. check ! (subst Testable (sym e) (lit< tt), e) $ feq_i ! Ptr p null_ptr e $ done !)
  tells (Some x) =
      let Owns = λ (q : Ptr). box_owns (ghosts.dealloc_token a) Row.the_row q (record { core = x; beside = beside; roots_left = left }) in
      qed 𝓛 (‵ (Owns p) ∷ []) ∵ use1 𝓛 (given (Testable p) (‵ (Owns p))) (tested x) $ learn ! (λ t.
      in_a_block ! p Owns (fst∗ 𝓤 (never 𝓤) (sem 𝓛 (ghosts.dealloc_token a (bare (lone Row.the_row.mir)) null_ptr))) (λ b o e.
      check ! (t, subst InBlock (sym e) tt) $ rewrite ! 0 (λ (q : Ptr). ‵ (Owns q)) (sym e) refl $ done !))

pub is_empty_spec : {M : Type 1} → statement M
is_empty_spec 𝓤 𝓛 𝓜 𝓡 wired =
    let c = f.clauses 𝓛 𝓜.mem 𝓡.returns in let W = walk_of 𝓛 f.ended stayed c in let 𝓣 = tables 𝓤 𝓛.H 𝓜 𝓡 𝓡.env in
    proved 𝓛 f.ended stayed c 𝓜 𝓡 (Goes-ref 𝓛 1 0 tt (plain (λ _. R)), tt)
    f.Key.name code.function (code.unfolded 𝓤 𝓛.H 𝓜 𝓡 wired)
    (λ κs. (mut_vals, tt)) (λ κs. (mut_Tells (named 0) κs.0 R, tt)) (λ κs qs bounds a _ are.
    let b = a.0.ref_ptr.0 in let o = a.0.ref_ptr.1 in let h = a.0.now in let vs = mut_vals a.0 in
    let y : W.Ghost = ((κs, qs, bounds, a, (vs, tt)), tt) in
    qed 𝓛 (((‵ (flft κs.0 qs.0) ⊛ ‵ ftrue) ⊛ ‵ ((MutRef (named 0) κs.0 R).own_val a.0 vs) ⊛ ‵ ftrue) ∷ ‵ ftrue ∷ []) ∵
    split ! $ split ! $ move ! (2 ∷ []) $ split ! $ keep ! (0 ∷ 2 ∷ []) $
    enter ! _ _ _ _ _ $ alloc_all ! (λ l. pass_all ! refl ((tt, tt), tt) $
    fsplit3 ! $ move ! (1 ∷ 2 ∷ 3 ∷ []) $ opens ! tt R b o (λ us.
    move ! (1 ∷ []) $ peeks ! R _ (shows 𝓛 R) h us (λ seen. fsplit ! $ move ! (1 ∷ []) $
    use1 𝓛 (given (Testable h.at × Placed h.at h.state) (‵ (owns_heap h.alloc h.at h.state h.beside h.roots_left))) (tells 𝓛 h.alloc h.at h.beside h.roots_left h.state) $ learn ! (λ there.
    let found = answer h.at h.state there.1 in
    let word = lowers.val_is h us seen in
    let Cell = λ (ws : List Val). ‵ (cell_at full_share R.mir ws b o) in
    rewrite ! 2 Cell word refl $
    -- [what the row owns; what the fields own; the struct's cell; the open borrow, in three entries]
    sets ! (of_opd ! (load ! (through ! refl (fld ! refl (stop !))) (look_in ! 2 (sub ! 0 refl (whole !))))) refl (typed h.at) $
    sets ! (is ! (bin ! (get ! refl) (lit ! tt) (tests_null h.at there.0)) found.1) refl (tt, tt) $
    rewrite ! 2 Cell (sym word) refl $ move ! (1 ∷ []) $ fjoin ! $ move ! (1 ∷ []) $ closes ! tt R h us b o $
    returns ! (look_at ! 0 refl) $ free_all ! refl $ move ! (3 ∷ []) $
    suffices ! _ (ends_at 𝓛 f.ended stayed c y (vbool found.0) found.0 (h, tt) (tt, tt)) $ says ! (found.2, refl) $
    group ! 3 $ nothing ! $ move ! (1 ∷ 0 ∷ []) $ join ! $ nothing ! $ move ! (2 ∷ 0 ∷ []) $ join ! $ frame ! $ frame ! $
    feq_i ! _ (vbool found.0 ∷ []) _ refl $ done !)))))
