-- The pointer and the allocator move out of the handle, and what they own goes with them.
use Rattle.std.proofs.Common.{List, [], ◌∷◌, ◌++◌, refl, sym, Option, IsSome}
use mir.Val.{Val}
use base.Logic.{id⊢}
use base.Fml.{ftrue, fsep}
use contract.Monad.{fact}
use contract.Running.{tables}
use prog.Wp.{WpFn}
use types.Kit.{‵, raw, prop, ◌⊛◌, ◌$◌, ◌∵◌, !, qed, done, move, drop, use1, split, join, fsplit, fjoin, regoal, rewrite, suffices}
use types.Part.{whole, sub, agg}
use types.Run.{enter, of_opd, stop, fld, no_more, and_then, returns}
use types.ByLocal.{alloc_all, pass_all, free_all, look_at, get, get_in, sets}
use denote.Exit.{yes}
use denote.Steps.{heard, nothing}
use denote.Triple.Walked.{Stays, walk_of, says, stay_dropped, Goes-dropped, ends_at}
use Rattle.std.proofs.raw_atomic.Walks.{proved_at}
use Rattle.gc_model.specs.State.{State}
use Rattle.std_alloc.proofs.BoxSteps.Form.{D, X, B, word, box_typed}
use Rattle.std_alloc.proofs.BoxSteps.Steps.{box_out, box_in}
use Rattle.gcflip_heap_c.proofs.HeapBox.{heap_box, its_handle, Held, there}
use Rattle.gcflip_heap_c.specs.contracts.handle.GcflipHeap.into_parts as f
use Rattle.gcflip_heap_c.specs.contracts.handle.GcflipHeap.{the_row as Handle}
use Rattle.gcflip_heap_c.proofs.handle.GcflipHeap.into_parts.Statement.{statement}
use Rattle.gcflip_heap_c.proofs.handle.GcflipHeap.into_parts.Code as code

abbrev stayed : Stays f.ended.signature.params f.ended.kept
stayed = (stay_dropped its_handle yes, tt)

pub into_parts_spec : {M : Type 1} → statement M
into_parts_spec 𝓤 𝓛 𝓜 𝓡 wired =
    let c = f.clauses 𝓛 𝓜.mem 𝓡.returns in let W = walk_of 𝓛 f.ended stayed c in let 𝓣 = tables 𝓤 𝓛.H 𝓜 𝓡 𝓡.env in
    proved_at 𝓛 f.ended stayed c 𝓜 𝓡 (Goes-dropped 𝓛 0 its_handle yes (λ κs x w. refl), tt)
    f.Key.name code.function (code.unfolded 𝓤 𝓛.H 𝓜 𝓡 wired) (λ y are.
    let handle = y.0.3.0 in
    qed 𝓛 ((‵ ftrue ⊛ ‵ (fsep (Handle.own_val handle y.0.4.0) ftrue)) ∷ raw (fact 𝓤 (IsSome handle.state)) ∷ []) ∵
    move ! (1 ∷ []) $ heard ! _ (λ is. let heap = there handle.state is in
    let kept : X heap_box = record { core = heap.0; beside = handle.beside; roots_left = handle.roots_left } in
    let boxed : D heap_box = record { ptr = handle.at; alloc = handle.alloc; value = kept } in
    let made : Held.Denot = record { at = handle.at; alloc = handle.alloc; value = kept } in
    split ! $ drop ! $ fsplit ! $
    rewrite ! 0 (λ (state : Option State). ‵ (Handle.own_val (record handle { state = state }) y.0.4.0)) heap.1 refl $
    use1 𝓛 (‵ ((B heap_box).own_val boxed y.0.4.0)) (id⊢ 𝓤 _) $
    box_out heap_box ! boxed y.0.4.0 (λ b o bits place words typed.
    let held = word heap_box bits b o in
    regoal ! (λ (vs : List Val). prop (WpFn 𝓤 𝓛.H 𝓣.C 𝓣.Λ code.function (vs ++ []) (W.post y))) words refl $
    box_in heap_box ! boxed b o kept place refl $ use1 𝓛 (‵ (Held.own_val made (held ∷ []))) (id⊢ 𝓤 _) $
    move ! (1 ∷ []) $ drop ! $
    -- [what the parts own; the locals]
    enter ! _ _ _ _ _ $ alloc_all ! (λ l. pass_all ! refl (box_typed heap_box bits b o typed, tt) $
    sets ! (of_opd ! (get_in ! (fld ! refl (stop !)) (sub ! 0 refl (whole !)))) refl (tt, tt) $
    sets ! (of_opd ! (get_in ! (fld ! refl (stop !)) (sub ! 1 refl (whole !)))) refl typed $
    sets ! (of_opd ! (get ! refl)) refl (tt, tt) $
    sets ! (agg ! (and_then ! (get ! refl) (and_then ! (get ! refl) (no_more !)))) refl (box_typed heap_box bits b o typed) $
    returns ! (look_at ! 0 refl) $ free_all ! refl $
    suffices ! _ (ends_at 𝓛 f.ended stayed c y held made (tt, tt) (tt, tt)) $ says ! (sym heap.1, refl, refl) $
    nothing ! $ nothing ! $ fjoin ! $ join ! $ nothing ! $ join ! $ done !))))
