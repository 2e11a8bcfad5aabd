-- `merge` is a load at which one seat takes in another's view.
use Rattle.atomic_table.proofs.Names.{◌≡◌, ℕ, ◌+◌, ◌*◌, ◌<◌, List, [], ◌∷◌, sym, refl, ap, subst, arith, lit<, a_type, dcons, dnil, named, Val, vunit, vptr, inst_fn, SProp, ent, sep, emp, Lft, Fml, ftrue, fsep, flft, sem, ‵, raw, ◌⊛◌, given, mean, at_ret, ◌$◌, ◌∵◌, !, qed, by, move, keep, drop, split, split3, join, fsplit, fsplit3, fjoin, fjoin3, learn, use0, use1, use3, rewrite, feq_i, stop, fld, load, lit, unit_lit, of_opd, no_more, and_then, first, blocks, exec, Calls-last, returns, enter, alloc_all, pass_all, free_all, look_at, get, through, sets, lands_last, is, env, agg, sub, whole, look_in, tables, yes, RattleType, owns, types_at, plain, Ptr, block_ptr, ptr_val, nothing, param, bounded, Stays, stay_dropped, walk_of, Goes-dropped, fact, fact_i, fact_use, Is, shows, cell_at, peeks, block_of, count_of, at_block, Coded, via, guard_i, RefOf, mut_vals, mut_Tells, shr_vals, shr_Tells, opens, closes, stay_ref, Goes-ref, unhide, hidden_shr, looks, shuts, lent_out, Tuple, shr_bor-open, obor_close, tokens_halve}
use Rattle.atomic_table.proofs.Walks.{proved, leaves}
use Rattle.core.proofs.atomic.Steps.{tail}
use Rattle.core.specs.Sync.RawAtomic.{asks, always}
use Rattle.core.specs.contracts.marker.PhantomData as marker
use Rattle.atomic_table.specs.Table.{Me, Joins}
use Rattle.atomic_table.specs.Seated.{TableId, Placed, age, common, mine}
use Rattle.gc_cells.specs.contracts.shared.Shared as table
use Rattle.gc_cells.specs.contracts.shared.Seat as seat
use Rattle.gc_cells.proofs.Fields.{hand_of, HandData, hand_told, hand_opens}
use Rattle.atomic_table.proofs.Moves.{placed, absorbs, merged}
use Rattle.atomic_table.proofs.Calls.{fm, seq_cst, found, finds, loads}
use Rattle.gc_cells.specs.contracts.shared.Shared.merge.{ended, clauses}
use Rattle.gc_cells.specs.contracts.shared.Shared.merge.Key.{name as #self}
use Rattle.gc_cells.proofs.shared.Shared.merge.Statement.{statement}
use Rattle.gc_cells.proofs.shared.Shared.merge.Code as code

pub merge_spec : {M : Type 1} → statement M
unfolding Rattle.atomic_table.specs.Seated.seal
merge_spec 𝓤 𝓛 𝓜 𝓡 wired T U Q P Mv _ _ _ _ _ g d g' d' _ _ =
    let H = 𝓛.H in let 𝓣 = tables 𝓤 H 𝓜 𝓡 𝓡.env in let R : RattleType = param 0 T in let W : RattleType = param 1 U in let X : RattleType = param 2 Q in let Y : RattleType = param 3 P in let En = ended T U Q P Mv g d g' d' in
    let inst = bounded (a_type ∷ a_type ∷ a_type ∷ a_type ∷ a_type ∷ []) (T, (U, (Q, (P, (Mv, tt))))) (dcons d (dcons d' dnil)) in let fn = inst_fn inst code.function in
    let Row : RattleType = table.the_row R W X Y g in let Sr : RattleType = seat.the_row R W in let D : RattleType = HandData R W X Y g in let self = RefOf (0 ∷ []) tt (plain (λ _. Row)) (λ _. tt) in let sitter = plain (λ _. Sr) in
    let hs : Stays En.signature.params En.kept = (stay_dropped self yes, (stay_ref (1 ∷ []) tt sitter, (stay_ref (2 ∷ []) tt sitter, tt))) in let c = clauses T U Q P Mv g d g' d' 𝓛 𝓜.mem 𝓡.returns in
    proved 𝓛 En hs c 𝓜 𝓡 (Goes-dropped 𝓛 8 self yes (λ κs x f. refl), (Goes-ref 𝓛 8 1 tt sitter, (Goes-ref 𝓛 8 2 tt sitter, tt))) (#self inst) fn (code.unfolded 𝓤 H 𝓜 𝓡 wired (T, (U, (Q, (P, (Mv, tt))))) d d')
    (λ κs. (shr_vals, (mut_vals, (mut_vals, tt)))) (λ κs. (shr_Tells (named 0) κs.0 Row, (mut_Tells (named 1) κs.1.0 Sr, (mut_Tells (named 2) κs.1.1.0 Sr, tt)))) (λ κs qs bounds a gh are.
    let b : ℕ = a.0.ref_ptr.0 in let o : ℕ = a.0.ref_ptr.1 in let κ : Lft = κs.0 in let t : Row.Denot = a.0.now in let w : Ptr = t.words in let p : Ptr = t.slots in let z : TableId = t.table_id in let α : Lft = age z in
    let us : List Val = hand_of w p ∷ [] in let cv : Coded U.Denot = W.coded in let C : Fml = common R cv.code (g.holds t.key) w p z in
    let b' : ℕ = a.1.0.ref_ptr.0 in let o' : ℕ = a.1.0.ref_ptr.1 in let h : Sr.Denot = a.1.0.now in let id : ℕ = h.id in let v : Me T.Denot U.Denot = h.me in let b₂ : ℕ = a.1.1.0.ref_ptr.0 in let o₂ : ℕ = a.1.1.0.ref_ptr.1 in let k : Sr.Denot = a.1.1.0.now in let u₂ : Me T.Denot U.Denot = k.me in let lv : U.Denot = g'.both v.0 u₂.0 in
    let y : (walk_of 𝓛 En hs c).Ghost = ((κs, qs, bounds, a, (vptr a.0.ref_ptr.0 a.0.ref_ptr.1 ∷ [], (vptr a.1.0.ref_ptr.0 a.1.0.ref_ptr.1 ∷ [], (vptr a.1.1.0.ref_ptr.0 a.1.1.0.ref_ptr.1 ∷ [], tt)))), gh) in let Post : Val → SProp 𝓤 = (walk_of 𝓛 En hs c).post y in
    let others : Fml = fsep (flft κs.1.1.1.0 qs.1.1.1.0) (fsep (flft κs.1.1.1.1.0 qs.1.1.1.1.0) (fsep (flft κs.1.1.1.1.1.0 qs.1.1.1.1.1.0) (fsep (flft κs.1.1.1.1.1.1.0 qs.1.1.1.1.1.1.0) (fsep (flft κs.1.1.1.1.1.1.1.0 qs.1.1.1.1.1.1.1.0) ftrue)))) in
    qed 𝓛 (((‵ (flft κs.0 qs.0) ⊛ ‵ (flft κs.1.0 qs.1.0) ⊛ ‵ (flft κs.1.1.0 qs.1.1.0) ⊛ ‵ others) ⊛ ‵ (owns (types_at En.signature.params κs) a y.0.4)) ∷ raw (fact 𝓤 _) ∷ raw (fact 𝓤 _) ∷ raw (fact 𝓤 _) ∷ raw (fact 𝓤 _) ∷ raw (fact 𝓤 _) ∷ given ((h.table_id ≡ z) × (k.table_id ≡ z) × (0 < z.words) × Joins (g.holds t.key) id v.0 k.id u₂.0 lv g'.spent) (‵ ftrue) ∷ []) ∵
    keep ! (6 ∷ 0 ∷ []) $ learn ! (λ asked. drop ! $ split ! $ split3 ! $ move ! (2 ∷ []) $ split ! $ move ! (4 ∷ []) $ fsplit3 ! $ fsplit ! $ move ! (2 ∷ []) $ fsplit3 ! $ move ! (5 ∷ []) $ fsplit ! $ fsplit3 ! $ keep ! (8 ∷ 11 ∷ 5 ∷ 6 ∷ 12 ∷ 10 ∷ 1 ∷ 2 ∷ 9 ∷ []) $ nothing ! $ drop ! $
    enter ! 𝓣.C 𝓣.Λ fn (vptr a.0.ref_ptr.0 a.0.ref_ptr.1 ∷ vptr a.1.0.ref_ptr.0 a.1.0.ref_ptr.1 ∷ vptr a.1.1.0.ref_ptr.0 a.1.1.0.ref_ptr.1 ∷ []) Post $ alloc_all ! (λ l. pass_all ! refl ((tt, tt), ((tt, tt), ((tt, tt), tt))) $ let Ev = env fn.locals l in
    use1 𝓛 (‵ (hidden_shr D κ (w, (p, (tt, tt))) b o) ⊛ ‵ (base.Fml.fhide (table.the_lent R W X Y g t (block_ptr b o) κ))) (lent_out 𝓛 (table.struct R W X Y g) (table.the_codes T.Denot U.Denot Q.Denot P.Denot R.coded W.coded X.coded Y.coded (marker.the_row (Tuple (Y ∷ W ∷ X ∷ []))).coded) (table.the_heap R W X Y g) (table.the_lent R W X Y g) κ t b o) $
    split ! $ move ! (1 ∷ []) $ unhide ! $ fsplit ! $ move ! (1 ∷ []) $
    use1 𝓛 (given (Placed R w p z) (‵ C)) (fact_use 𝓤 _ (placed 𝓛 R cv (g.holds t.key) w p z) (guard_i 𝓤 (Placed R w p z) (sem 𝓛 C))) $ learn ! (λ at. move ! (2 ∷ 3 ∷ []) $
    looks ! tt D (hand_opens R W X Y g 𝓛) (w, (p, (tt, tt))) b o (λ q' vs. move ! (1 ∷ []) $ peeks ! D (Is D) (shows 𝓛 D) (w, (p, (tt, tt))) vs (λ is-so. let ev : vs ≡ us = hand_told R W X Y g w p vs is-so in
    rewrite ! 1 (λ (ws : List Val). ‵ (cell_at q' D.mir ws b o)) ev refl $ let zero_is : 0 * 8 + count_of w ≡ count_of w = omega arith in let w' : Ptr = block_ptr (block_of w) (count_of w) in first ! $ blocks ! $
    sets ! (is ! (of_opd ! (load ! (through ! refl (fld ! refl (stop !))) (look_in ! 1 (sub ! 0 refl (whole !))))) (ap ptr_val (at_block w at.0))) refl (tt, tt) $
    rewrite ! 1 (λ (ws : List Val). ‵ (cell_at q' D.mir ws b o)) (sym ev) refl $ move ! (1 ∷ 0 ∷ 2 ∷ []) $ shuts ! tt D q' (w, (p, (tt, tt))) vs b o $ move ! (3 ∷ 0 ∷ []) $
    shr_bor-open ! tt (tokens_halve 𝓛 α) (λ s. let out : ℕ → Fml = λ n. fsep (flft α s) (merged 𝓛 R cv (g.holds t.key) w p z s id v k.id u₂ lv g'.spent) in
    move ! (8 ∷ 9 ∷ 10 ∷ []) $ opens ! tt Sr b₂ o₂ (λ ts₂. move ! (1 ∷ []) $ fsplit ! $ rewrite ! 1 (λ (x : TableId). ‵ (mine R cv.code x k.id u₂)) asked.1 refl $ move ! (10 ∷ 11 ∷ 12 ∷ []) $
    opens ! tt Sr b' o' (λ ts. move ! (1 ∷ []) $ fsplit ! $ rewrite ! 1 (λ (x : TableId). ‵ (mine R cv.code x id v)) asked.0 refl $ move ! (1 ∷ 7 ∷ []) $ fjoin ! $ move ! (14 ∷ 12 ∷ 0 ∷ []) $
    use3 𝓛 (raw (𝓣.C _ (vptr (block_of w) (count_of w) ∷ seq_cst ∷ []) (λ u. mean 𝓛 (found out u))))
    (via 𝓤 _ (subst (λ (e : ℕ). ent 𝓤 (sep 𝓤 (sem 𝓛 C) (sep 𝓤 (𝓛.A.lft α s) (sem 𝓛 (fsep (mine R cv.code z id v) (mine R cv.code z k.id u₂))))) (asks 𝓛 (block_ptr (block_of w) e) (λ n. n) always out)) zero_is (absorbs 𝓛 R cv (g.holds t.key) w p z s id v k.id u₂ lv g'.spent asked.2 asked.3))
    (loads 𝓛 𝓜 𝓡 (code.calls-core::raw_atomic::load 𝓡.env wired) w' out)) $
    sets ! (agg ! (and_then ! (lit ! tt) (no_more !))) refl (tt, (record { fits = lit< tt }, tt)) $
    Calls-last ! (fm 𝓛 𝓜 𝓡) (found out) (and_then ! (get ! refl) (and_then ! (get ! refl) (no_more !))) (λ u. finds ! out (λ n fits.
    lands_last ! refl (tt, record { fits = fits }) $ exec ! 𝓣.C 𝓣.Λ Ev (tail fn.body) (at_ret Ev Post) $ sets ! (of_opd ! (unit_lit !)) refl (tt, tt) $
    fsplit ! $ move ! (12 ∷ 0 ∷ []) $ obor_close ! tt $ drop ! $ move ! (1 ∷ []) $ fsplit ! $
    let h' : Sr.Denot = record { marker = h.marker; table_id = z; id = id; me = (lv, v.1) } in let k' : Sr.Denot = record { marker = k.marker; table_id = z; id = k.id; me = (g'.spent, u₂.1) } in
    let Told : Type 0 = (z ≡ h.table_id) × (id ≡ id) × (h'.me ≡ h'.me) in
    move ! (3 ∷ 0 ∷ []) $ fjoin ! $ move ! (3 ∷ 0 ∷ 4 ∷ 5 ∷ 6 ∷ []) $ closes ! tt Sr h' ts b' o' $ feq_i ! (List Val) (vptr b' o' ∷ []) (vptr b' o' ∷ []) refl $ fjoin3 ! $
    move ! (4 ∷ 2 ∷ []) $ fjoin ! $ move ! (4 ∷ 0 ∷ 5 ∷ 6 ∷ 7 ∷ []) $ closes ! tt Sr k' ts₂ b₂ o₂ $ feq_i ! (List Val) (vptr b₂ o₂ ∷ []) (vptr b₂ o₂ ∷ []) refl $ fjoin3 ! $
    nothing ! $ move ! (1 ∷ 0 ∷ []) $ fjoin ! $ move ! (2 ∷ 0 ∷ []) $ fjoin ! $ nothing ! $ fjoin ! $ move ! (1 ∷ 5 ∷ []) $ join ! $ move ! (2 ∷ 0 ∷ []) $ join ! $ move ! (2 ∷ 0 ∷ []) $ join ! $
    use0 𝓛 (raw (fact 𝓤 Told)) (fact_i 𝓤 Told (emp 𝓤) (sym asked.0, refl, refl)) $ feq_i ! (List Val) (vunit ∷ []) (vunit ∷ []) refl $
    returns ! (look_at ! 0 refl) $ free_all ! refl $ keep ! (2 ∷ 3 ∷ 0 ∷ 1 ∷ []) $ by ! (leaves 𝓛 En hs c y vunit tt (tt, (h', (k', tt))) (tt, (tt, (tt, tt)))))))))))))))
