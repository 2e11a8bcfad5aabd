-- A call takes the box apart, and the parts own what it owned.
use Rattle.std.proofs.Common.{◌≡◌, List, [], ◌∷◌, ◌++◌, refl, ap, ◌∙◌}
use mir.Syntax.{Fn, Args, Dict, a_type, dcons, dnil}
use mir.MapTy.{inst_fn}
use mir.Raw.{raw as bare}
use mir.Val.{Val, vstruct, of_list}
use base.Logic.{id⊢, never, fst∗}
use base.Fml.{ftrue, fsep, flft}
use contract.BorrowLft.{◌⊑◌}
use contract.Monad.{fact}
use contract.Running.{tables}
use prog.Wp.{WpFn}
use types.Logic.{sem}
use types.Kit.{Item, ‵, raw, prop, ◌⊛◌, some, later, ◌$◌, ◌∵◌, !, qed, done, move, drop, use1, join, split, split3, pick, rewrite, regoal, fsplit, fjoin, fpick, feq_l, suffices, await}
use types.Part.{whole, sub, agg}
use types.Run.{enter, of_opd, stop, fld, no_more, and_then, returns}
use types.ByLocal.{alloc_all, pass_all, free_all, look_at, get, get_in, sets, lands_as}
use denote.Exit.{no}
use denote.Param.{bounded}
use denote.RattleType.{RattleType}
use denote.RawPtr.{Ptr, RawPtr, block_ptr, null_ptr, ptr_val, in_a_block}
use denote.Signature.{Slot, plain}
use denote.Steps.{heard, nothing, only}
use denote.Struct.Tuple.{Tuple}
use denote.Triple.Call.{calls_at}
use denote.Triple.Spec.{triple_of}
use denote.Triple.Table.{framed}
use denote.Triple.Walked.{says, Stays, stay_dropped, walk_of, ends_at}
use Rattle.core.proofs.alloc.Calls.{token, handle_tells, Goes-blank}
use Rattle.std.proofs.raw_atomic.Walks.{proved_at}
use Rattle.std_alloc.specs.Box.Ownership.{box_owns}
use Rattle.std_alloc.proofs.BoxSteps.Form.{Bx, D, τ, R, P, B, word, box_typed}
use Rattle.std_alloc.proofs.BoxSteps.Steps.{box_out, box_in}
use Rattle.std_alloc.specs.contracts.boxed.Box.into_raw_with_allocator as g
use Rattle.std_alloc.proofs.boxed.Box.into_raw_with_allocator.Met.{met}
use Rattle.gc_in_c.specs.contracts.parts.Parts as parts
use Rattle.gc_in_c.specs.contracts.parts.Parts.of as f
use Rattle.gc_in_c.proofs.parts.Parts.of.Statement.{statement}
use Rattle.gc_in_c.proofs.parts.Parts.of.Code as code

abbrev given : Bx → Slot 2
given E = plain (λ _. B E)

-- the type of the parts
abbrev Made : Bx → RattleType
Made E = parts.the_row (R E) (P E) E.al.g

abbrev its_args : Bx → Dict → Args
its_args E dx = bounded (a_type ∷ a_type ∷ []) (E.row, (E.al.row, tt)) (dcons E.al.d (dcons E.al.drops (dcons dx dnil)))

pub of_spec : {M : Type 1} → statement M
of_spec 𝓤 𝓛 𝓜 𝓡 wired X Z LX LZ gs d dd dx allocates drops drops_value =
    let E : Bx = record { row = X; laws = LX; al = record { row = Z; laws = LZ; g = gs; d = d; drops = dd } } in
    let ended = f.ended X Z gs d dd dx in let c = f.clauses X Z gs d dd dx 𝓛 𝓜.mem 𝓡.returns in
    let stayed : Stays ended.signature.params ended.kept = (stay_dropped (given E) no, tt) in
    let W = walk_of 𝓛 ended stayed c in let 𝓣 = tables 𝓤 𝓛.H 𝓜 𝓡 𝓡.env in
    let fn : Fn = inst_fn (its_args E dx) code.function in
    proved_at 𝓛 ended stayed c 𝓜 𝓡 (Goes-blank 𝓛 2 (given E) no (λ κs x w. tt), tt)
    (f.Key.name (its_args E dx)) fn (code.unfolded 𝓤 𝓛.H 𝓜 𝓡 wired (X, (Z, tt)) d dd dx) (λ y are.
    let κs = y.0.0 in let qs = y.0.1 in let boxed = y.0.3.0 in
    let tokens : Item 𝓤 = ‵ (flft κs.0 qs.0) ⊛ ‵ (flft κs.1.0 qs.1.0) ⊛ ‵ ftrue in
    let bounds : Item 𝓤 = raw (fact 𝓤 (κs.0 ⊑ X.lives)) ⊛ raw (fact 𝓤 (κs.1.0 ⊑ Z.lives)) ⊛ ‵ ftrue in
    qed 𝓛 ((tokens ⊛ ‵ (fsep ((B E).own_val boxed y.0.4.0) ftrue)) ∷ bounds ∷ []) ∵
    split ! $ move ! (1 ∷ []) $ fsplit ! $ box_out E ! boxed y.0.4.0 (λ b o bits place words typed. box_in E ! boxed b o boxed.value place refl $
    let held = word E bits b o in
    regoal ! (λ (vs : List Val). prop (WpFn 𝓤 𝓛.H 𝓣.C 𝓣.Λ fn (vs ++ []) (W.post y))) words refl $
    -- [the box; nothing; the tokens; the bounds]
    enter ! _ _ _ _ _ $ alloc_all ! (λ l. pass_all ! refl (box_typed E bits b o typed, tt) $
    sets ! (of_opd ! (get ! refl)) refl (box_typed E bits b o typed) $
    let Opens = triple_of 𝓛 (g.signature X Z gs d dd dx) (g.spec X Z gs d dd dx 𝓛 𝓜.mem 𝓡.returns) in
    let z : Opens.Ghost = ((κs, qs, tt, (boxed, tt), (held ∷ [], tt)), tt) in
    fjoin ! $ move ! (1 ∷ 0 ∷ []) $ join ! $ join ! $ use1 𝓛 (raw (Opens.pre z)) (id⊢ 𝓤 _) $
    calls_at ! (framed 𝓤 𝓛.H 𝓜 𝓣) Opens (met 𝓤 𝓛 𝓜 𝓡 (code.calls-std_alloc::boxed::Box::into_raw_with_allocator 𝓡.env wired) X Z LX LZ gs d dd dx allocates drops drops_value) z
    (and_then ! (get ! refl) (no_more !)) (λ opened.
    use1 𝓛 (later (some (λ (r : Ptr × Z.Denot). (tokens ⊛ ‵ ((Tuple (RawPtr ∷ P E ∷ [])).own_val r (opened ∷ [])))
    ⊛ some (λ (_ : (Unit {0} × (Unit {0} × Unit {0})) × Unit {0}). ‵ (fsep (fsep ftrue (fsep ftrue ftrue)) ftrue) ⊛ (raw (fact 𝓤 (r.1 ≡ boxed.alloc)) ⊛ ‵ (box_owns (token E.al boxed.alloc) (R E) r.0 boxed.value)))))) (id⊢ 𝓤 _) $
    await ! tt $ pick ! (λ r. split ! $ move ! (1 ∷ []) $ pick ! (λ _. split3 ! $ drop ! $ heard ! (r.1 ≡ boxed.alloc) (λ same.
    -- [the value with the right to free its block; the tokens with the pair; the locals]
    in_a_block ! r.0 (λ p. box_owns (token E.al boxed.alloc) (R E) p boxed.value) (fst∗ 𝓤 (never 𝓤) (sem 𝓛 (token E.al boxed.alloc (bare (τ E)) null_ptr))) (λ b' o' place'.
    move ! (1 ∷ []) $ split ! $ move ! (1 ∷ []) $
    fpick ! (λ parts_words. fsplit ! $ feq_l ! (λ is_pair. fsplit ! $ feq_l ! (λ is_ptr. fsplit ! $
    rewrite ! 0 (λ (alloc : Z.Denot). ‵ (Z.own_val alloc parts_words.1.0)) same refl $ handle_tells E.al ! boxed.alloc parts_words.1.0 (λ bits' is_bits typed'.
    let new : D E = record { ptr = block_ptr b' o'; alloc = boxed.alloc; value = boxed.value } in
    let made : (Made E).Denot = record { at = block_ptr b' o'; alloc = boxed.alloc; value = boxed.value } in
    let is_word = is_pair ∙ (λ i. vstruct (of_list ((is_ptr ∙ ap (λ (p : Ptr). ptr_val p ∷ []) place') i ++ (is_bits i ++ []))) ∷ []) in
    lands_as ! (ap only is_word) refl (box_typed E bits' b' o' typed') $
    sets ! (of_opd ! (get_in ! (fld ! refl (stop !)) (sub ! 0 refl (whole !)))) refl (tt, tt) $
    sets ! (of_opd ! (get_in ! (fld ! refl (stop !)) (sub ! 1 refl (whole !)))) refl typed' $
    sets ! (of_opd ! (get ! refl)) refl typed' $
    sets ! (agg ! (and_then ! (get ! refl) (and_then ! (get ! refl) (no_more !)))) refl (box_typed E bits' b' o' typed') $
    returns ! (look_at ! 0 refl) $ free_all ! refl $
    -- [the allocator; nothing; the tokens; the value with the right to free its block]
    move ! (3 ∷ []) $ fsplit ! $ box_in E ! new b' o' boxed.value refl refl $ use1 𝓛 (‵ ((Made E).own_val made (word E bits' b' o' ∷ []))) (id⊢ 𝓤 _) $
    move ! (1 ∷ []) $ drop ! $
    suffices ! _ (ends_at 𝓛 ended stayed c y (word E bits' b' o') made ((tt, (tt, tt)), tt) (tt, tt)) $ says ! refl $
    nothing ! $ nothing ! $ fjoin ! $ join ! $ move ! (1 ∷ 0 ∷ []) $ join ! $ done !))))))))))))
