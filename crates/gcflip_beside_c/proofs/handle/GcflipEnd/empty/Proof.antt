-- The handle is null, and owns nothing.
use Rattle.std.proofs.Common.{List, [], ◌∷◌, ◌++◌, refl, lit<, None}
use mir.Val.{Val, vnull, vstruct, vcons, vnil, has_ty}
use base.Logic.{emp}
use base.Fml.{ftrue, fsep}
use contract.Running.{tables}
use prog.Wp.{WpFn}
use types.Kit.{‵, raw, prop, ◌⊛◌, ◌$◌, ◌∵◌, !, qed, done, move, drop, split, join, fsplit, fjoin, fpack, feq_i, regoal, suffices}
use types.Part.{agg}
use types.Run.{enter, of_opd, lit, no_more, and_then, returns}
use types.ByLocal.{alloc_all, pass_all, free_all, look_at, get, sets}
use denote.Exit.{yes}
use denote.RattleType.{Valss}
use denote.RawPtr.{Ptr, RawPtr, null_ptr, ptr_val}
use denote.Signature.{plain}
use denote.Steps.{nothing}
use denote.Struct.Struct.{within}
use denote.Struct.Owning.{shape, to}
use denote.Triple.Walked.{Stays, walk_of, says, stay_dropped, Goes-dropped, ends_at}
use Rattle.core.proofs.alloc.Calls.{α, handle_tells}
use Rattle.std.proofs.raw_atomic.Walks.{proved_at}
use Rattle.std_alloc.proofs.ResultValues.{and_tt}
use Rattle.gcflip_beside_c.proofs.EndBox.{end_box}
use Rattle.gcflip_beside_c.specs.contracts.handle.GcflipEnd.empty as f
use Rattle.gcflip_beside_c.specs.contracts.handle.GcflipEnd.{the_row as Handle, the_type}
use Rattle.gcflip_beside_c.proofs.handle.GcflipEnd.empty.Statement.{statement}
use Rattle.gcflip_beside_c.proofs.handle.GcflipEnd.empty.Code as code

abbrev stayed : Stays f.ended.signature.params f.ended.kept
stayed = (stay_dropped (plain (λ _. end_box.al.row)) yes, tt)

-- the handle as a value of the machine
abbrev word : Val → Val
word bits = vstruct (vcons vnull (vcons bits vnil))

pub empty_spec : {M : Type 1} → statement M
empty_spec 𝓤 𝓛 𝓜 𝓡 wired =
    let c = f.clauses 𝓛 𝓜.mem 𝓡.returns in let W = walk_of 𝓛 f.ended stayed c in let 𝓣 = tables 𝓤 𝓛.H 𝓜 𝓡 𝓡.env in
    proved_at 𝓛 f.ended stayed c 𝓜 𝓡 (Goes-dropped 𝓛 0 (plain (λ _. end_box.al.row)) yes (λ κs x w. refl), tt)
    f.Key.name code.function (code.unfolded 𝓤 𝓛.H 𝓜 𝓡 wired) (λ y are.
    let alloc = y.0.3.0 in
    let made : Handle.Denot = record { at = null_ptr; alloc = alloc; end = None } in
    qed 𝓛 ((‵ ftrue ⊛ ‵ (fsep (end_box.al.row.own_val alloc y.0.4.0) ftrue)) ∷ raw (emp 𝓤) ∷ []) ∵
    split ! $ drop ! $ fsplit ! $ handle_tells end_box.al ! alloc y.0.4.0 (λ bits words typed.
    regoal ! (λ (vs : List Val). prop (WpFn 𝓤 𝓛.H 𝓣.C 𝓣.Λ code.function (vs ++ []) (W.post y))) words refl $
    move ! (1 ∷ 2 ∷ []) $ drop ! $ drop ! $
    -- [the allocator; the locals]
    enter ! _ _ _ _ _ $ alloc_all ! (λ l. pass_all ! refl (typed, tt) $
    sets ! (of_opd ! (lit ! tt)) refl (tt, record { fits = lit< tt }) $
    sets ! (agg ! (and_then ! (get ! refl) (and_then ! (get ! refl) (no_more !)))) refl (and_tt (has_ty (α end_box.al) bits) typed.0, (record { fits = lit< tt }, (typed.1, tt))) $
    returns ! (look_at ! 0 refl) $ free_all ! refl $
    suffices ! _ (ends_at 𝓛 f.ended stayed c y (word bits) made (tt, tt) (tt, tt)) $ says ! refl $
    feq_i ! Ptr null_ptr null_ptr refl $ nothing ! $ move ! (2 ∷ 0 ∷ []) $ fjoin ! $
    feq_i ! (List Val) (vnull ∷ []) (ptr_val null_ptr ∷ []) refl $ fjoin ! $
    feq_i ! (List Val) (word bits ∷ []) (word bits ∷ []) refl $ fjoin ! $
    fpack ! (Valss (RawPtr ∷ end_box.al.row ∷ [])) (within (shape the_type) (to the_type made) (word bits ∷ [])) (vnull ∷ [], (bits ∷ [], tt)) $ fjoin ! $
    -- [what the handle owns]
    nothing ! $ nothing ! $ fjoin ! $ join ! $ nothing ! $ join ! $ done !)))
