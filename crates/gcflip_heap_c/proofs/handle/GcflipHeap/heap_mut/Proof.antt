-- The heap leaves through the pointer, and the handle follows it.
use Rattle.std.proofs.Common.{◌≡◌, ℕ, List, [], ◌∷◌, refl, Option, IsSome}
use seplogic.Ra.Ura.{Ura}
use mir.Syntax.{named}
use mir.Val.{Val, vptr}
use base.Fraction.{full_share}
use base.Logic.{ent, sep, id⊢}
use base.Fml.{GName, Fml, ftrue, fsep, flft}
use types.Logic.{Logic, sem}
use contract.Monad.{fact}
use contract.Running.{tables}
use types.Kit.{‵, raw, ◌⊛◌, some, later, at_ret, ◌$◌, ◌∵◌, !, qed, done, move, keep, use1, split, join, pick, await, fsplit, fsplit3, fjoin, fpack, rewrite, suffices, frame, group}
use types.Part.{whole, sub, look_in}
use types.Run.{enter, of_opd, load, addr, fld, stop, first, blocks, exec, returns}
use types.ByLocal.{alloc_all, pass_all, free_all, look_at, get, through, sets, sets_last, env}
use mir.Raw.{raw as bare}
use denote.Exit.{no}
use denote.Follow.{follows, Part, lends_Part}
use denote.Memory.{cell_at, part_at, part_of, mem}
use denote.RawPtr.{block_ptr}
use denote.Ref.{MutRef, mut_vals, mut_Tells}
use denote.Signature.{plain, mut_ref_to}
use denote.Steps.{heard, nothing, opens}
use denote.Triple.Walked.{Stays, walk_of, says, stay_dropped, Goes-spent_ref, ends_at}
use Rattle.core.proofs.alloc.Calls.{token}
use Rattle.std.proofs.raw_atomic.Walks.{proved}
use Rattle.std_alloc.proofs.BoxSteps.Form.{D, X, B, R, τ, word, handle}
use Rattle.std_alloc.proofs.BoxSteps.Steps.{box_out, box_in}
use Rattle.gcflip_heap_c.proofs.HeapBox.{heap_box, there}
use Rattle.gc_model.specs.State.{State}
use Rattle.gc_collected.specs.contracts.collected_heap.CollectedHeap as Heap
use Rattle.gcflip_heap_c.specs.Internal.Lending.{with_heap}
use Rattle.gcflip_heap_c.specs.contracts.handle.GcflipHeap.heap_mut as f
use Rattle.gcflip_heap_c.specs.contracts.handle.GcflipHeap.{the_row as Handle}
use Rattle.gcflip_heap_c.proofs.handle.GcflipHeap.heap_mut.Statement.{statement}
use Rattle.gcflip_heap_c.proofs.handle.GcflipHeap.heap_mut.Code as code

abbrev stayed : Stays f.ended.signature.params f.ended.kept
stayed = (stay_dropped (mut_ref_to (0 ∷ []) tt (plain (λ _. Handle))) no, tt)

module _ (h : Handle.Denot) (rb ro b o : ℕ) (bits : Val) where
  -- all of the handle but its heap
  abbrev Rest : Fml
  Rest = fsep (fsep (token heap_box.al h.alloc (bare (τ heap_box)) (block_ptr b o)) (handle heap_box h.alloc bits)) (cell_at full_share Handle.mir (word heap_box bits b o ∷ []) rb ro)

  module _ {M : Type 1} {𝓤 : Ura M} (𝓛 : Logic 𝓤) where
    back : h.at ≡ block_ptr b o → (w : X heap_box) → ent 𝓤 (sep 𝓤 (sem 𝓛 ((mem Heap.the_row).own_at w b o)) (sem 𝓛 Rest)) (sem 𝓛 ((mem Handle).own_at (with_heap h w) rb ro))
    unfolding part_of
    back place w =
        let boxed : D heap_box = record { ptr = h.at; alloc = h.alloc; value = w } in
        let held = word heap_box bits b o in
        qed 𝓛 (‵ (part_at (R heap_box) full_share w b o) ∷ ‵ Rest ∷ []) ∵ move ! (1 ∷ []) $ fsplit ! $ fsplit ! $ move ! (3 ∷ []) $
        box_in heap_box ! boxed b o w place refl $ use1 𝓛 (‵ (Handle.own_val (with_heap h w) (held ∷ []))) (id⊢ 𝓤 _) $ move ! (1 ∷ 0 ∷ []) $ fjoin ! $
        fpack ! (List Val) (λ us. fsep (cell_at full_share Handle.mir us rb ro) (Handle.own_val (with_heap h w) us)) (held ∷ []) $ done !

pub heap_mut_spec : {M : Type 1} → statement M
heap_mut_spec 𝓤 𝓛 𝓜 𝓡 wired =
    let c = f.clauses 𝓛 𝓜.mem 𝓡.returns in let W = walk_of 𝓛 f.ended stayed c in let 𝓣 = tables 𝓤 𝓛.H 𝓜 𝓡 𝓡.env in
    proved 𝓛 f.ended stayed c 𝓜 𝓡 (Goes-spent_ref 𝓛 1 (0 ∷ []) tt (plain (λ _. Handle)), tt)
    f.Key.name code.function (code.unfolded 𝓤 𝓛.H 𝓜 𝓡 wired)
    (λ κs. (mut_vals, tt)) (λ κs. (mut_Tells (named 0) κs.0 Handle, tt)) (λ κs qs bounds a _ are.
    let κ = κs.0 in let q = qs.0 in let rb = a.0.ref_ptr.0 in let ro = a.0.ref_ptr.1 in let γ = a.0.ghost_name in let h = a.0.now in let vs = mut_vals a.0 in
    let y : W.Ghost = ((κs, qs, bounds, a, (vs, tt)), tt) in
    qed 𝓛 (((‵ (flft κ q) ⊛ ‵ ftrue) ⊛ ‵ ((MutRef (named 0) κ Handle).own_val a.0 vs) ⊛ ‵ ftrue) ∷ raw (fact 𝓤 (IsSome h.state)) ∷ []) ∵
    move ! (1 ∷ []) $ heard ! _ (λ is. let heap = there h.state is in
    let kept : X heap_box = record { core = heap.0; beside = h.beside; roots_left = h.roots_left } in
    let boxed : D heap_box = record { ptr = h.at; alloc = h.alloc; value = kept } in
    split ! $ split ! $ move ! (2 ∷ []) $ split ! $ keep ! (0 ∷ 2 ∷ []) $
    enter ! _ _ _ _ _ $ alloc_all ! (λ l. pass_all ! refl ((tt, tt), tt) $
    fsplit3 ! $ move ! (1 ∷ 2 ∷ 3 ∷ []) $ opens ! tt Handle {h = h} rb ro (λ us. move ! (1 ∷ []) $
    rewrite ! 0 (λ (state : Option State). ‵ (Handle.own_val (record h { state = state }) us)) heap.1 refl $
    use1 𝓛 (‵ ((B heap_box).own_val boxed us)) (id⊢ 𝓤 _) $
    box_out heap_box ! boxed us (λ b o bits place words typed.
    let held = word heap_box bits b o in
    rewrite ! 3 (λ (ws : List Val). ‵ (cell_at full_share Handle.mir ws rb ro)) words refl $
    -- [the heap; the token; the allocator; the handle's cell; the open borrow, in three entries]
    sets ! (of_opd ! (load ! (through ! refl (fld ! refl (stop !))) (look_in ! 3 (sub ! 0 refl (whole !))))) refl (tt, tt) $
    sets ! (of_opd ! (get ! refl)) refl (tt, tt) $
    first ! $ blocks ! $ sets_last ! (addr ! (through ! refl (stop !))) refl (tt, tt) $
    exec ! 𝓣.C 𝓣.Λ (env code.Mir.locals l) code.Mir.t-4 (at_ret _ (W.post y)) $
    sets ! (of_opd ! (get ! refl)) refl (tt, tt) $
    move ! (1 ∷ 2 ∷ []) $ fjoin ! $ move ! (0 ∷ 2 ∷ []) $ fjoin ! $ move ! (2 ∷ 3 ∷ 4 ∷ 1 ∷ 0 ∷ []) $ group ! 5 $
    use1 𝓛 (later (some (λ (δ : GName). raw (Part 𝓛 Handle Heap.the_row (with_heap h) (named 0) κ q rb ro b o γ (sem 𝓛 (Rest h rb ro b o bits)) (back h rb ro b o bits 𝓛 place) kept δ))))
    (lends_Part 𝓛 Handle Heap.the_row (with_heap h) (named 0) κ q rb ro b o γ (sem 𝓛 (Rest h rb ro b o bits)) (back h rb ro b o bits 𝓛 place) (Handle.coded.code h) (Handle.coded.code h) kept) $ await ! tt $ pick ! (λ δ.
    returns ! (look_at ! 0 refl) $ free_all ! refl $ keep ! (0 ∷ []) $
    use1 𝓛 (‵ ((MutRef (named 0) κ Heap.the_row).own_val (record { ref_ptr = (b, o); ghost_name = δ; now = kept }) (vptr b o ∷ [])) ⊛ ‵ (flft κ q) ⊛ ‵ (follows Handle Heap.the_row γ δ (with_heap h))) (id⊢ 𝓤 _) $ split ! $ move ! (1 ∷ []) $ split ! $ move ! (2 ∷ 0 ∷ 1 ∷ []) $
    suffices ! _ (ends_at 𝓛 f.ended stayed c y (vptr b o) (record { ref_ptr = (b, o); ghost_name = δ; now = kept }) (tt, tt) (tt, tt)) $
    nothing ! $ nothing ! $ fjoin ! $ join ! $ nothing ! $ move ! (2 ∷ 0 ∷ []) $ join ! $ join ! $ frame ! $ says ! (heap.1, refl, refl) $ done !))))))
