-- The table's lifetime ends, and what it lent comes back.
use Rattle.atomic_table.proofs.Names.{◌≡◌, ℕ, List, [], ◌∷◌, ◌++◌, length, refl, a_type, dcons, dnil, Val, vstruct, inst_fn, SProp, emp, Fml, ftrue, fsep, ‵, raw, ◌⊛◌, some, given, later, ◌$◌, ◌∵◌, !, qed, by, move, keep, drop, split, split3, join, fsplit, fjoin, fjoin3, fpack, pick, learn, use0, use1, await, feq_i, stop, fld, of_opd, no_more, and_then, returns, enter, alloc_all, pass_all, free_all, look_at, get, get_in, sets, agg, sub, whole, tables, no, RattleType, owns, Valss, types_at, plain, Ptr, nothing, param, bounded, alive, Stays, stay_dropped, walk_of, Goes-dropped, fact, fact_i, Coded, u64, of_list, InBlock}
use Rattle.atomic_table.proofs.Walks.{proved, leaves}
use Rattle.atomic_table.specs.Table.{Final}
use Rattle.atomic_table.specs.Seated.{TableId, strip, table_owns}
use Rattle.gc_cells.specs.contracts.shared.Shared as table
use Rattle.gc_cells.specs.contracts.shared.Seat as seat
use Rattle.gc_cells.specs.contracts.strip.Strip as strips
use Rattle.gc_cells.proofs.Fields.{hand_of, hand_told, hand_good, Ptr-Good, strip_of, pair_of, strip_good, strips_good, StripData, strip_made}
use Rattle.atomic_table.proofs.Dealing.{table_lies, gathers}
use Rattle.gc_cells.specs.contracts.shared.Shared.gather.{ended, clauses}
use Rattle.gc_cells.specs.contracts.shared.Shared.gather.Key.{name as #self}
use Rattle.gc_cells.proofs.shared.Shared.gather.Statement.{statement}
use Rattle.gc_cells.proofs.shared.Shared.gather.Code as code

pub gather_spec : {M : Type 1} → statement M
gather_spec 𝓤 𝓛 𝓜 𝓡 wired T U Q P _ _ _ _ g d _ =
    let H = 𝓛.H in let 𝓣 = tables 𝓤 H 𝓜 𝓡 𝓡.env in let R : RattleType = param 0 T in let W : RattleType = param 1 U in let X : RattleType = param 2 Q in let Y : RattleType = param 3 P in let cv : Coded U.Denot = W.coded in
    let inst = bounded (a_type ∷ a_type ∷ a_type ∷ a_type ∷ []) (T, (U, (Q, (P, tt)))) (dcons d dnil) in let fn = inst_fn inst code.function in let c = clauses T U Q P g d 𝓛 𝓜.mem 𝓡.returns in let En = ended T U Q P g d in
    let Row : RattleType = table.the_row R W X Y g in let Sr : RattleType = seat.the_row R W in let Ws : RattleType = strips.the_row u64 in let Ss : RattleType = strips.the_row R in
    let hs : Stays En.signature.params En.kept = (stay_dropped (plain (λ _. Row)) no, tt) in
    proved 𝓛 En hs c 𝓜 𝓡 (Goes-dropped 𝓛 4 (plain (λ _. Row)) no (λ κs x f. refl), tt) (#self inst) fn (code.unfolded 𝓤 H 𝓜 𝓡 wired (T, (U, (Q, (P, tt)))) d)
    (λ κs. ((λ x. hand_of x.words x.slots ∷ []), tt)) (λ κs. ((λ x vs so. hand_told R W X Y g x.words x.slots vs so.0), tt)) (λ κs qs bounds a gh are.
    let w : Ptr = a.0.words in let p : Ptr = a.0.slots in let z : TableId = a.0.table_id in let u : Val = pair_of (strip_of w) (strip_of p) in let Owns : Fml = table_owns R cv.code (g.holds a.0.key) w p z in
    let y : (walk_of 𝓛 En hs c).Ghost = ((κs, qs, bounds, a, (hand_of w p ∷ [], tt)), gh) in let Post : Val → SProp 𝓤 = (walk_of 𝓛 En hs c).post y in
    qed 𝓛 ((raw (alive 𝓛 En.signature κs qs) ⊛ ‵ (owns (types_at En.signature.params κs) a y.0.4)) ∷ raw ((c κs a).requires gh) ∷ []) ∵
    split ! $ move ! (1 ∷ []) $ fsplit ! $ fsplit ! $ keep ! (1 ∷ 3 ∷ []) $
    use1 𝓛 (given (InBlock w × InBlock p) (‵ Owns)) (table_lies 𝓛 R cv (g.holds a.0.key) w p z) $ learn ! (λ at.
    enter ! 𝓣.C 𝓣.Λ fn (hand_of w p ∷ []) Post $ alloc_all ! (λ l. pass_all ! refl (hand_good w p at.0 at.1, tt) $
    use1 𝓛 (later (some (λ (t : List ℕ × List T.Denot). given ((length t.0 ≡ z.words) × (length t.1 ≡ z.slots) × Final (g.holds a.0.key) t.0 t.1 × InBlock w × InBlock p) (‵ (strip u64 w t.0) ⊛ ‵ (strip R p t.1) ⊛ ‵ ftrue)))) (gathers 𝓛 R cv (g.holds a.0.key) w p z) $ await ! tt $ pick ! (λ t. learn ! (λ so. split3 ! $ move ! (2 ∷ []) $ drop ! $
    let r₀ : Ws.Denot = record { ptr = w; items = t.0 } in let r₁ : Ss.Denot = record { ptr = p; items = t.1 } in
    let A₁ : Type 0 = (w ≡ w) × (length t.0 ≡ z.words) × (p ≡ p) × (length t.1 ≡ z.slots) in let A₂ : Type 0 = Final (g.holds a.0.key) t.0 t.1 in
    use0 𝓛 (‵ ((StripData u64).own_val (w, tt) (strip_of w ∷ []))) (strip_made u64 𝓛 w) $ fjoin ! $ move ! (1 ∷ []) $
    use0 𝓛 (‵ ((StripData R).own_val (p, tt) (strip_of p ∷ []))) (strip_made R 𝓛 p) $ fjoin ! $ nothing ! $ move ! (2 ∷ 1 ∷ 0 ∷ []) $ fjoin3 ! $ feq_i ! (List Val) (u ∷ []) (u ∷ []) refl $ fjoin ! $
    fpack ! (Valss (Ws ∷ Ss ∷ [])) (λ vss. fsep (base.Fml.feq (List Val) (u ∷ []) (vstruct (of_list (vss.0 ++ (vss.1.0 ++ []))) ∷ [])) (owns (Ws ∷ Ss ∷ []) (r₀, (r₁, tt)) vss)) (strip_of w ∷ [], (strip_of p ∷ [], tt)) $
    sets ! (of_opd ! (get_in ! (fld ! refl (stop !)) (sub ! 0 refl (whole !)))) refl (Ptr-Good w at.0) $ sets ! (of_opd ! (get_in ! (fld ! refl (stop !)) (sub ! 1 refl (whole !)))) refl (Ptr-Good p at.1) $
    sets ! (agg ! (and_then ! (get ! refl) (no_more !))) refl (strip_good w at.0) $ sets ! (agg ! (and_then ! (get ! refl) (no_more !))) refl (strip_good p at.1) $ sets ! (agg ! (and_then ! (get ! refl) (and_then ! (get ! refl) (no_more !)))) refl (strips_good w p at.0 at.1) $
    use0 𝓛 (raw (fact 𝓤 A₂)) (fact_i 𝓤 A₂ (emp 𝓤) so.2) $ use0 𝓛 (raw (fact 𝓤 A₁)) (fact_i 𝓤 A₁ (emp 𝓤) (refl, so.0, refl, so.1)) $ join ! $
    nothing ! $ nothing ! $ fjoin ! $ returns ! (look_at ! 0 refl) $ free_all ! refl $ keep ! (3 ∷ 0 ∷ 2 ∷ 1 ∷ []) $ by ! (leaves 𝓛 En hs c y u (r₀, r₁) (tt, tt) (tt, tt)))))))
