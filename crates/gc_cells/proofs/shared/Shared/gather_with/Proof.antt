-- The table's lifetime ends, and what it lent comes back, in a state that has the seat's view.
use Rattle.atomic_table.proofs.Names.{◌≡◌, ℕ, List, [], ◌∷◌, ◌++◌, length, sym, refl, a_type, dcons, dnil, named, Val, vptr, vstruct, inst_fn, SProp, emp, Fml, ftrue, fsep, flft, ‵, raw, ◌⊛◌, some, given, later, ◌$◌, ◌∵◌, !, qed, by, move, keep, drop, split, split3, join, fsplit, fsplit3, fjoin, fjoin3, fpack, pick, learn, use0, use1, use2, await, rewrite, feq_i, stop, fld, of_opd, no_more, and_then, returns, enter, alloc_all, pass_all, free_all, look_at, get, get_in, sets, agg, sub, whole, tables, no, RattleType, owns, Valss, types_at, plain, Ptr, nothing, param, bounded, Stays, stay_dropped, walk_of, Goes-dropped, fact, fact_i, Coded, u64, mut_vals, mut_Tells, opens, closes, stay_ref, Goes-ref, of_list, InBlock}
use Rattle.atomic_table.proofs.Walks.{proved, leaves}
use Rattle.atomic_table.specs.Table.{Final, Seen}
use Rattle.atomic_table.specs.Seated.{TableId, strip, mine, table_owns}
use Rattle.gc_cells.specs.contracts.shared.Shared as table
use Rattle.gc_cells.specs.contracts.shared.Seat as seat
use Rattle.gc_cells.specs.contracts.strip.Strip as strips
use Rattle.gc_cells.proofs.Fields.{hand_of, hand_told, hand_good, Ptr-Good, strip_of, pair_of, strip_good, strips_good, StripData, strip_made}
use Rattle.atomic_table.proofs.Dealing.{table_lies, gathers_with}
use Rattle.gc_cells.specs.contracts.shared.Shared.gather_with.{ended, clauses}
use Rattle.gc_cells.specs.contracts.shared.Shared.gather_with.Key.{name as #self}
use Rattle.gc_cells.proofs.shared.Shared.gather_with.Statement.{statement}
use Rattle.gc_cells.proofs.shared.Shared.gather_with.Code as code

pub gather_with_spec : {M : Type 1} → statement M
gather_with_spec 𝓤 𝓛 𝓜 𝓡 wired T U Q P _ _ _ _ g d _ =
    let H = 𝓛.H in let 𝓣 = tables 𝓤 H 𝓜 𝓡 𝓡.env in let R : RattleType = param 0 T in let W : RattleType = param 1 U in let X : RattleType = param 2 Q in let Y : RattleType = param 3 P in let cv : Coded U.Denot = W.coded in
    let inst = bounded (a_type ∷ a_type ∷ a_type ∷ a_type ∷ []) (T, (U, (Q, (P, tt)))) (dcons d dnil) in let fn = inst_fn inst code.function in let c = clauses T U Q P g d 𝓛 𝓜.mem 𝓡.returns in let En = ended T U Q P g d in
    let Row : RattleType = table.the_row R W X Y g in let Sr : RattleType = seat.the_row R W in let Ws : RattleType = strips.the_row u64 in let Ss : RattleType = strips.the_row R in
    let hs : Stays En.signature.params En.kept = (stay_dropped (plain (λ _. Row)) no, (stay_ref (0 ∷ []) tt (plain (λ _. Sr)), tt)) in
    proved 𝓛 En hs c 𝓜 𝓡 (Goes-dropped 𝓛 5 (plain (λ _. Row)) no (λ κs x f. refl), (Goes-ref 𝓛 5 0 tt (plain (λ _. Sr)), tt)) (#self inst) fn (code.unfolded 𝓤 H 𝓜 𝓡 wired (T, (U, (Q, (P, tt)))) d)
    (λ κs. ((λ x. hand_of x.words x.slots ∷ []), (mut_vals, tt))) (λ κs. ((λ x vs so. hand_told R W X Y g x.words x.slots vs so.0), (mut_Tells (named 0) κs.0 Sr, tt))) (λ κs qs bounds a gh are.
    let w : Ptr = a.0.words in let p : Ptr = a.0.slots in let z : TableId = a.0.table_id in let b' : ℕ = a.1.0.ref_ptr.0 in let o' : ℕ = a.1.0.ref_ptr.1 in let h : Sr.Denot = a.1.0.now in let good = Seen (g.holds a.0.key) h.id h.me.0 in let Mine : TableId → Fml = λ x. mine R cv.code x h.id h.me in
    let others : Fml = fsep (flft κs.1.0 qs.1.0) (fsep (flft κs.1.1.0 qs.1.1.0) (fsep (flft κs.1.1.1.0 qs.1.1.1.0) (fsep (flft κs.1.1.1.1.0 qs.1.1.1.1.0) ftrue))) in let u : Val = pair_of (strip_of w) (strip_of p) in let Owns : Fml = table_owns R cv.code (g.holds a.0.key) w p z in
    let y : (walk_of 𝓛 En hs c).Ghost = ((κs, qs, bounds, a, (hand_of w p ∷ [], (vptr b' o' ∷ [], tt))), gh) in let Post : Val → SProp 𝓤 = (walk_of 𝓛 En hs c).post y in
    qed 𝓛 (((‵ (flft κs.0 qs.0) ⊛ ‵ others) ⊛ ‵ (owns (types_at En.signature.params κs) a y.0.4)) ∷ raw (fact 𝓤 _) ∷ raw (fact 𝓤 _) ∷ raw (fact 𝓤 _) ∷ raw (fact 𝓤 _) ∷ given (h.table_id ≡ z) (‵ ftrue) ∷ []) ∵
    keep ! (5 ∷ 0 ∷ []) $ learn ! (λ same. drop ! $ split ! $ split ! $ move ! (2 ∷ []) $ fsplit3 ! $ fsplit ! $ move ! (2 ∷ []) $ fsplit3 ! $ keep ! (4 ∷ 1 ∷ 2 ∷ 6 ∷ 7 ∷ []) $
    use1 𝓛 (given (InBlock w × InBlock p) (‵ Owns)) (table_lies 𝓛 R cv (g.holds a.0.key) w p z) $ learn ! (λ at.
    enter ! 𝓣.C 𝓣.Λ fn (hand_of w p ∷ vptr b' o' ∷ []) Post $ alloc_all ! (λ l. pass_all ! refl (hand_good w p at.0 at.1, ((tt, tt), tt)) $
    move ! (1 ∷ 2 ∷ 3 ∷ []) $ opens ! tt Sr b' o' (λ ts. move ! (1 ∷ []) $ fsplit ! $ rewrite ! 1 (λ (x : TableId). ‵ (Mine x)) same refl $ move ! (6 ∷ 1 ∷ []) $
    use2 𝓛 (later (some (λ (t : List ℕ × List T.Denot). given ((length t.0 ≡ z.words) × (length t.1 ≡ z.slots) × Final good t.0 t.1 × InBlock w × InBlock p) (‵ (strip u64 w t.0) ⊛ ‵ (strip R p t.1) ⊛ ‵ (Mine z))))) (gathers_with 𝓛 R cv (g.holds a.0.key) w p z h.id h.me) $ await ! tt $ pick ! (λ t. learn ! (λ so. split3 ! $
    rewrite ! 2 (λ (x : TableId). ‵ (Mine x)) (sym same) refl $ move ! (3 ∷ 2 ∷ []) $ fjoin ! $ move ! (3 ∷ 0 ∷ 4 ∷ 5 ∷ 6 ∷ []) $ closes ! tt Sr h ts b' o' $ feq_i ! (List Val) (vptr b' o' ∷ []) (vptr b' o' ∷ []) refl $ fjoin3 ! $
    nothing ! $ move ! (1 ∷ 0 ∷ []) $ fjoin ! $ nothing ! $ fjoin ! $ move ! (1 ∷ 4 ∷ []) $ join ! $ move ! (2 ∷ 3 ∷ []) $
    let r₀ : Ws.Denot = record { ptr = w; items = t.0 } in let r₁ : Ss.Denot = record { ptr = p; items = t.1 } in
    let A₁ : Type 0 = (w ≡ w) × (length t.0 ≡ z.words) × (p ≡ p) × (length t.1 ≡ z.slots) in let A₂ : Type 0 = Final good t.0 t.1 in
    use0 𝓛 (‵ ((StripData u64).own_val (w, tt) (strip_of w ∷ []))) (strip_made u64 𝓛 w) $ fjoin ! $ move ! (1 ∷ []) $
    use0 𝓛 (‵ ((StripData R).own_val (p, tt) (strip_of p ∷ []))) (strip_made R 𝓛 p) $ fjoin ! $ nothing ! $ move ! (2 ∷ 1 ∷ 0 ∷ []) $ fjoin3 ! $ feq_i ! (List Val) (u ∷ []) (u ∷ []) refl $ fjoin ! $
    fpack ! (Valss (Ws ∷ Ss ∷ [])) (λ vss. fsep (base.Fml.feq (List Val) (u ∷ []) (vstruct (of_list (vss.0 ++ (vss.1.0 ++ []))) ∷ [])) (owns (Ws ∷ Ss ∷ []) (r₀, (r₁, tt)) vss)) (strip_of w ∷ [], (strip_of p ∷ [], tt)) $
    sets ! (of_opd ! (get_in ! (fld ! refl (stop !)) (sub ! 0 refl (whole !)))) refl (Ptr-Good w at.0) $ sets ! (of_opd ! (get_in ! (fld ! refl (stop !)) (sub ! 1 refl (whole !)))) refl (Ptr-Good p at.1) $
    sets ! (agg ! (and_then ! (get ! refl) (no_more !))) refl (strip_good w at.0) $ sets ! (agg ! (and_then ! (get ! refl) (no_more !))) refl (strip_good p at.1) $ sets ! (agg ! (and_then ! (get ! refl) (and_then ! (get ! refl) (no_more !)))) refl (strips_good w p at.0 at.1) $
    use0 𝓛 (raw (fact 𝓤 A₂)) (fact_i 𝓤 A₂ (emp 𝓤) so.2) $ use0 𝓛 (raw (fact 𝓤 A₁)) (fact_i 𝓤 A₁ (emp 𝓤) (refl, so.0, refl, so.1)) $ join ! $
    returns ! (look_at ! 0 refl) $ free_all ! refl $ keep ! (2 ∷ 3 ∷ 1 ∷ 0 ∷ []) $ by ! (leaves 𝓛 En hs c y u (r₀, r₁) (tt, (h, tt)) (tt, (tt, tt))))))))))
