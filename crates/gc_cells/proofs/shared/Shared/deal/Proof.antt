-- The two strips go under the table's invariant, and the first seat is made.
use Rattle.atomic_table.proofs.Names.{◌≡◌, ℕ, ◌*◌, ◌^◌, ◌<◌, List, [], ◌∷◌, ◌++◌, length, refl, a_type, dcons, dnil, named, Val, vptr, vstruct, inst_fn, SProp, emp, ftrue, fsep, ‵, raw, ◌⊛◌, some, given, later, ◌$◌, ◌∵◌, !, qed, by, move, keep, drop, split, join, fsplit, fsplit3, fjoin, fjoin3, fpack, pick, learn, use0, use1, use2, await, feq_i, stop, fld, of_opd, no_more, and_then, returns, enter, alloc_all, pass_all, free_all, look_at, get, get_in, sets, agg, sub, whole, tables, yes, no, RattleType, owns, Valss, types_at, plain, Ptr, nothing, param, bounded, alive, Stays, stay_dropped, walk_of, Goes-dropped, fact, fact_i, Coded, RefOf, u64, shr_vals, shr_Tells, of_list, InBlock, mem}
use Rattle.atomic_table.proofs.Walks.{proved, leaves}
use Rattle.atomic_table.specs.Table.{opening}
use Rattle.atomic_table.specs.Seated.{TableId, strip, mine, table_owns}
use Rattle.gc_cells.specs.contracts.shared.Shared as table
use Rattle.gc_cells.specs.contracts.shared.Seat as seat
use Rattle.gc_cells.specs.contracts.strip.Strip as strips
use Rattle.gc_cells.proofs.Fields.{hand_of, HandData, hand_made, hand_good, Ptr-Good, Token, token_val, token_made, strip_of, pair_of, strip_good, dealt_good, strip_told}
use Rattle.atomic_table.proofs.Dealing.{strip_lies, deals}
use Rattle.gc_cells.specs.contracts.shared.Shared.deal.{ended, clauses}
use Rattle.gc_cells.specs.contracts.shared.Shared.deal.Key.{name as #self}
use Rattle.gc_cells.proofs.shared.Shared.deal.Statement.{statement}
use Rattle.gc_cells.proofs.shared.Shared.deal.Code as code

pub deal_spec : {M : Type 1} → statement M
deal_spec 𝓤 𝓛 𝓜 𝓡 wired T U Q P _ _ _ _ g d _ =
    let H = 𝓛.H in let 𝓣 = tables 𝓤 H 𝓜 𝓡 𝓡.env in let R : RattleType = param 0 T in let W : RattleType = param 1 U in let X : RattleType = param 2 Q in let Y : RattleType = param 3 P in let cv : Coded U.Denot = W.coded in
    let inst = bounded (a_type ∷ a_type ∷ a_type ∷ a_type ∷ []) (T, (U, (Q, (P, tt)))) (dcons d dnil) in let fn = inst_fn inst code.function in let c = clauses T U Q P g d 𝓛 𝓜.mem 𝓡.returns in let En = ended T U Q P g d in
    let Row : RattleType = table.the_row R W X Y g in let Sr : RattleType = seat.the_row R W in let Ws : RattleType = strips.the_row u64 in let Ss : RattleType = strips.the_row R in
    let hs : Stays En.signature.params En.kept = (stay_dropped (RefOf (0 ∷ []) tt (plain (λ _. X)) (λ _. tt)) yes, (stay_dropped (plain (λ _. Ws)) yes, (stay_dropped (plain (λ _. Ss)) no, tt))) in
    proved 𝓛 En hs c 𝓜 𝓡 (Goes-dropped 𝓛 5 (RefOf (0 ∷ []) tt (plain (λ _. X)) (λ _. tt)) yes (λ κs x f. refl), (Goes-dropped 𝓛 5 (plain (λ _. Ws)) yes (λ κs x f. refl), (Goes-dropped 𝓛 5 (plain (λ _. Ss)) no (λ κs x f. refl), tt))) (#self inst) fn (code.unfolded 𝓤 H 𝓜 𝓡 wired (T, (U, (Q, (P, tt)))) d)
    (λ κs. (shr_vals, ((λ x. strip_of x.ptr ∷ []), ((λ x. strip_of x.ptr ∷ []), tt)))) (λ κs. (shr_Tells (named 0) κs.0 X, ((λ x vs so. strip_told u64 x.ptr vs so.0), ((λ x vs so. strip_told R x.ptr vs so.0), tt)))) (λ κs qs bounds a gh are.
    let key : Q.Denot = a.0.now in let at : Val = vptr a.0.ref_ptr.0 a.0.ref_ptr.1 in let w : Ptr = a.1.0.ptr in let p : Ptr = a.1.1.0.ptr in let ns : List ℕ = a.1.0.items in let xs : List T.Denot = a.1.1.0.items in let v : U.Denot = g.first key ns in let u : Val = pair_of (hand_of w p) token_val in
    let y : (walk_of 𝓛 En hs c).Ghost = ((κs, qs, bounds, a, (at ∷ [], (strip_of w ∷ [], (strip_of p ∷ [], tt)))), gh) in let Post : Val → SProp 𝓤 = (walk_of 𝓛 En hs c).post y in
    qed 𝓛 ((raw (alive 𝓛 En.signature κs qs) ⊛ ‵ (owns (types_at En.signature.params κs) a y.0.4)) ∷ raw (fact 𝓤 _) ∷ raw (fact 𝓤 _) ∷ raw (fact 𝓤 _) ∷ raw (fact 𝓤 _) ∷ given ((g.holds key) (opening ns xs v)) (‵ ftrue) ∷ []) ∵
    keep ! (5 ∷ 0 ∷ []) $ learn ! (λ good. drop ! $ split ! $ move ! (1 ∷ []) $ fsplit ! $ drop ! $ fsplit3 ! $ fsplit ! $ drop ! $ move ! (1 ∷ []) $ fsplit ! $ drop ! $
    use1 𝓛 (given (InBlock p × (length xs * (mem R).size < 2 ^ 63)) (‵ (strip R p xs))) (strip_lies 𝓛 R p xs) $ learn ! (λ fp. move ! (1 ∷ []) $
    use1 𝓛 (given (InBlock w × (length ns * 8 < 2 ^ 63)) (‵ (strip u64 w ns))) (strip_lies 𝓛 u64 w ns) $ learn ! (λ fw.
    enter ! 𝓣.C 𝓣.Λ fn (at ∷ strip_of w ∷ strip_of p ∷ []) Post $ alloc_all ! (λ l. pass_all ! refl ((tt, tt), (strip_good w fw.0, (strip_good p fp.0, tt))) $
    use2 𝓛 (later (some (λ (z : TableId). given ((z.words ≡ length ns) × (z.slots ≡ length xs) × InBlock w × InBlock p) (‵ (table_owns R cv.code (g.holds key) w p z) ⊛ ‵ (mine R cv.code z 0 (v, [])))))) (deals 𝓛 R cv (g.holds key) w p ns xs v good) $ await ! tt $ pick ! (λ z. learn ! (λ so. split ! $
    let t : Row.Denot = record { words = w; slots = p; marker = record {}; table_id = z; key = key } in let r : Sr.Denot = record { marker = record {}; table_id = z; id = 0; me = (v, []) } in
    let A₁ : Type 0 = (z.words ≡ length ns) × (z.slots ≡ length xs) × (z ≡ z) in let A₂ : Type 0 = (w ≡ w) × (p ≡ p) × (key ≡ key) in let A₃ : Type 0 = (0 ≡ 0) × (r.me ≡ r.me) in
    use0 𝓛 (‵ ((HandData R W X Y g).own_val (w, (p, (tt, tt))) (hand_of w p ∷ []))) (hand_made R W X Y g 𝓛 w p) $ fjoin ! $ move ! (1 ∷ []) $
    use0 𝓛 (‵ ((Token R W).own_val (tt, tt) (token_val ∷ []))) (token_made R W 𝓛) $ fjoin ! $ nothing ! $ move ! (2 ∷ 1 ∷ 0 ∷ []) $ fjoin3 ! $ feq_i ! (List Val) (u ∷ []) (u ∷ []) refl $ fjoin ! $
    fpack ! (Valss (Row ∷ Sr ∷ [])) (λ vss. fsep (base.Fml.feq (List Val) (u ∷ []) (vstruct (of_list (vss.0 ++ (vss.1.0 ++ []))) ∷ [])) (owns (Row ∷ Sr ∷ []) (t, (r, tt)) vss)) (hand_of w p ∷ [], (token_val ∷ [], tt)) $
    sets ! (of_opd ! (get_in ! (fld ! refl (stop !)) (sub ! 0 refl (whole !)))) refl (Ptr-Good w fw.0) $ sets ! (of_opd ! (get_in ! (fld ! refl (stop !)) (sub ! 0 refl (whole !)))) refl (Ptr-Good p fp.0) $ sets ! (agg ! (no_more !)) refl (tt, tt) $
    sets ! (agg ! (and_then ! (get ! refl) (and_then ! (get ! refl) (and_then ! (get ! refl) (no_more !))))) refl (hand_good w p fw.0 fp.0) $ sets ! (agg ! (no_more !)) refl (tt, tt) $ sets ! (agg ! (and_then ! (get ! refl) (no_more !))) refl (tt, (tt, tt)) $
    sets ! (agg ! (and_then ! (get ! refl) (and_then ! (get ! refl) (no_more !)))) refl (dealt_good w p fw.0 fp.0) $
    use0 𝓛 (raw (fact 𝓤 A₃)) (fact_i 𝓤 A₃ (emp 𝓤) (refl, refl)) $ use0 𝓛 (raw (fact 𝓤 A₂)) (fact_i 𝓤 A₂ (emp 𝓤) (refl, refl, refl)) $ join ! $ use0 𝓛 (raw (fact 𝓤 A₁)) (fact_i 𝓤 A₁ (emp 𝓤) (so.0, so.1, refl)) $ join ! $
    nothing ! $ nothing ! $ fjoin ! $ nothing ! $ fjoin ! $ nothing ! $ fjoin ! $ returns ! (look_at ! 0 refl) $ free_all ! refl $ keep ! (4 ∷ 0 ∷ 2 ∷ 1 ∷ []) $ by ! (leaves 𝓛 En hs c y u (t, r) (tt, (tt, (tt, tt))) (tt, (tt, (tt, tt)))))))))))
