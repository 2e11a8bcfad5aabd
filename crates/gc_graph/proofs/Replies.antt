-- Lists of commands on matched graphs.
use Rattle.std.proofs.lemmas.Grind.{common_steps}
use Rattle.std.proofs.Common.{◌≡◌, ℕ, suc, zero, ◌-◌, ◌≤◌, max, Bool, true, false, cond, not, ◌==◌, List, [], ◌∷◌, map, take, Option, is_some, refl, sym, ◌∙◌, ap, subst, arith}
use Rattle.std.specs.Prelude.{nat_lt}
use Rattle.std.specs.List.{AllZip, fold, list_any, list_all}
use Rattle.std.proofs.lemmas.Bool.{eqb-true, eq-eqb, ne_eqb, cases_Bool, and_parts}
use Rattle.gc_graph.specs.Graph.{Value, Object, Graph, lookup, names_in, IsUnused, fresh_name}
use Rattle.gc_graph.specs.Machine.{Roomy, step, words_taken, roomy_step}
use Rattle.gc_graph.specs.Runs.{replies, replies_by, AreUnused, is_full, HasRoom}
use Rattle.gc_graph.specs.Correspond.{paired}
use Rattle.gc_graph.proofs.Matching.{Alike, nils, numbers, partners, without_objects, ObjectsAlike, Matched}
use Rattle.gc_graph.specs.declared.command.Op.{Op}
use Rattle.gc_graph.specs.declared.reply.Reply.{Reply}
use Rattle.gc_graph.specs.declared.reply.Reply.TheVariants.{Full}
use Rattle.gc_graph.proofs.Lookups.{paired_cases, paired_more, paired_here}
use Rattle.gc_graph.proofs.Matched.{AlikeAfter, step_alike}

-- ---- a graph matches itself

abbrev pub own_pairs : List (ℕ × Object) → List (ℕ × ℕ)
own_pairs os = map (λ entry. (entry.0, entry.0)) os

own_from : (os : List (ℕ × Object)) (x y : ℕ) → paired (own_pairs os) x y ≡ true → (x ≡ y) × (is_some (lookup os x) ≡ true)
own_from [] x y e = cc
own_from (entry ∷ os) x y e = grind (arith, common_steps, paired_cases, is_some, eq-eqb, own_from os x y)

own_paired : (os : List (ℕ × Object)) (x : ℕ) → is_some (lookup os x) ≡ true → paired (own_pairs os) x x ≡ true
own_paired [] x e = cc
own_paired (entry ∷ os) x e = grind (arith, common_steps, cases_Bool, eqb-true, paired_here, paired_more, is_some, own_paired os x)

zip_itself : {X : Type 0} (R : X → X → Type 0) (xs : List X) → ((x : X) → R x x) → AllZip R xs xs
zip_itself R [] each = tt
zip_itself R (x ∷ xs) each = (each x, zip_itself R xs each)

object_itself : (pairs : List (ℕ × ℕ)) (os : List (ℕ × Object)) (o : Option Object) → ((v : Value) → Alike pairs os os v v) → is_some o ≡ true → ObjectsAlike pairs os os o o
object_itself pairs os o each e = grind (arith, common_steps, zip_itself)

pub matched_itself : (g : Graph) → Matched (own_pairs g.objects) g g
matched_itself g = grind (arith, common_steps, zip_itself, nils, numbers, without_objects, partners, own_paired, own_from, object_itself)

-- ---- the fresh name

above : (names : List ℕ) (least : ℕ) → least ≤ fold (λ least name. max least (suc name)) least names
above [] least = omega arith
above (x ∷ names) least = let ih : max least (suc x) ≤ fold (λ least name. max least (suc name)) (max least (suc x)) names = above names (max least (suc x)) in omega arith

none_at : (names : List ℕ) (least k : ℕ) → fold (λ least name. max least (suc name)) least names ≤ k → list_any (λ other. other == k) names ≡ false
none_at [] least k h = refl
none_at (x ∷ names) least k h = grind (arith, common_steps, above, ne_eqb, none_at names (max least (suc x)) k h)

pub fresh_unused : (g : Graph) → IsUnused g (fresh_name g)
fresh_unused g = none_at (names_in g) 0 (fresh_name g) (omega arith)

-- ---- with a bound on the words in use

-- the step if there is room
abbrev plain_step : Roomy → ℕ → Op → ℕ → Reply × Roomy
plain_step s m op name = let next = step s.graph m op name in (next.0, record { graph = next.1; free = s.free - words_taken op })

roomy_is_plain : (s : Roomy) (m : ℕ) (op : Op) (name : ℕ) → not (is_full (roomy_step s m op name).0) ≡ true → roomy_step s m op name ≡ plain_step s m op name
roomy_is_plain s m op name e = grind (arith, common_steps)

-- The replies are the same up to the first command for which one side has no room.
pub replies_alike : (commands : List (ℕ × Op)) (n : ℕ) (s t : Roomy) (pairs : List (ℕ × ℕ)) → Matched pairs s.graph t.graph
    → HasRoom s commands n → HasRoom t commands n → take n (replies s commands) ≡ take n (replies t commands)
replies_alike commands zero s t pairs matched r r' = refl
replies_alike [] (suc n) s t pairs matched r r' = refl
replies_alike (command ∷ rest) (suc n) s t pairs matched r r' =
    let left : Reply × Roomy = roomy_step s command.0 command.1 (fresh_name s.graph) in
    let right : Reply × Roomy = roomy_step t command.0 command.1 (fresh_name t.graph) in
    let room : (not (is_full left.0) ≡ true) × (list_all (λ reply. not (is_full reply)) (take n (replies left.1 rest)) ≡ true) = and_parts _ _ r in
    let room' : (not (is_full right.0) ≡ true) × (list_all (λ reply. not (is_full reply)) (take n (replies right.1 rest)) ≡ true) = and_parts _ _ r' in
    let e : left ≡ plain_step s command.0 command.1 (fresh_name s.graph) = roomy_is_plain s command.0 command.1 (fresh_name s.graph) room.0 in
    let e' : right ≡ plain_step t command.0 command.1 (fresh_name t.graph) = roomy_is_plain t command.0 command.1 (fresh_name t.graph) room'.0 in
    let stepped : AlikeAfter (step s.graph command.0 command.1 (fresh_name s.graph)) (step t.graph command.0 command.1 (fresh_name t.graph))
    = step_alike pairs s.graph t.graph matched command.0 command.1 (fresh_name s.graph) (fresh_name t.graph) (fresh_unused s.graph) (fresh_unused t.graph) in
    let matched' : Matched stepped.1 left.1.graph right.1.graph
    = subst (λ x. Matched stepped.1 x.1.graph right.1.graph) (sym e) (subst (λ x. Matched stepped.1 (plain_step s command.0 command.1 (fresh_name s.graph)).1.graph x.1.graph) (sym e') stepped.2) in
    λ i. (ap (λ x. x.0) e ∙ stepped.0 ∙ sym (ap (λ x. x.0) e')) i ∷ (replies_alike rest n left.1 right.1 stepped.1 matched' room.1 room'.1) i

-- ---- with the same bound on both sides

abbrev pub RoomyAlike : Reply × Roomy → Reply × Roomy → Type 0
RoomyAlike x y = (x.0 ≡ y.0) × (x.1.free ≡ y.1.free) × (after : List (ℕ × ℕ)) × Matched after x.1.graph y.1.graph

both_sides : (b : Bool) (s t : Roomy) (x y : Reply × Roomy) (pairs : List (ℕ × ℕ)) → Matched pairs s.graph t.graph → s.free ≡ t.free → RoomyAlike x y → RoomyAlike (cond b (Full, s) x) (cond b (Full, t) y)
both_sides true s t x y pairs matched same a = (refl, same, pairs, matched)
both_sides false s t x y pairs matched same a = a

roomy_alike : (s t : Roomy) (m : ℕ) (op : Op) (a b : ℕ) (pairs : List (ℕ × ℕ)) → Matched pairs s.graph t.graph → s.free ≡ t.free → IsUnused s.graph a → IsUnused t.graph b
    → RoomyAlike (roomy_step s m op a) (roomy_step t m op b)
roomy_alike s t m op a b pairs matched same u u' =
    let stepped : AlikeAfter (step s.graph m op a) (step t.graph m op b) = step_alike pairs s.graph t.graph matched m op a b u u' in
    subst (λ f. RoomyAlike (roomy_step s m op a) (cond (nat_lt f (words_taken op)) (Full, t) (plain_step t m op b))) same
    (both_sides (nat_lt s.free (words_taken op)) s t (plain_step s m op a) (plain_step t m op b) pairs matched same
    (stepped.0, ap (λ f. f - words_taken op) same, stepped.1, stepped.2))

pub same_replies : (commands : List (ℕ × Op)) (names others : List ℕ) (s t : Roomy) (pairs : List (ℕ × ℕ)) → Matched pairs s.graph t.graph → s.free ≡ t.free
    → AreUnused s names commands → AreUnused t others commands → replies_by s names commands ≡ replies_by t others commands
same_replies [] names others s t pairs matched same u u' = refl
same_replies (command ∷ rest) [] others s t pairs matched same u u' = absurd u
same_replies (command ∷ rest) (name ∷ names) [] s t pairs matched same u u' = absurd u'
same_replies (command ∷ rest) (name ∷ names) (other ∷ others) s t pairs matched same u u' =
    let a : RoomyAlike (roomy_step s command.0 command.1 name) (roomy_step t command.0 command.1 other) = roomy_alike s t command.0 command.1 name other pairs matched same u.0 u'.0 in
    let same_rest : replies_by (roomy_step s command.0 command.1 name).1 names rest ≡ replies_by (roomy_step t command.0 command.1 other).1 others rest
    = same_replies rest names others (roomy_step s command.0 command.1 name).1 (roomy_step t command.0 command.1 other).1 a.2 a.3 a.1 u.1 u'.1 in
    λ i. a.0 i ∷ same_rest i

-- the fresh names are one choice of names
pub same_as_fresh : (commands : List (ℕ × Op)) (names : List ℕ) (s t : Roomy) (pairs : List (ℕ × ℕ)) → Matched pairs s.graph t.graph → s.free ≡ t.free
    → AreUnused s names commands → replies_by s names commands ≡ replies t commands
same_as_fresh [] names s t pairs matched same u = refl
same_as_fresh (command ∷ rest) [] s t pairs matched same u = absurd u
same_as_fresh (command ∷ rest) (name ∷ names) s t pairs matched same u =
    let a : RoomyAlike (roomy_step s command.0 command.1 name) (roomy_step t command.0 command.1 (fresh_name t.graph))
    = roomy_alike s t command.0 command.1 name (fresh_name t.graph) pairs matched same u.0 (fresh_unused t.graph) in
    let same_rest : replies_by (roomy_step s command.0 command.1 name).1 names rest ≡ replies (roomy_step t command.0 command.1 (fresh_name t.graph)).1 rest
    = same_as_fresh rest names (roomy_step s command.0 command.1 name).1 (roomy_step t command.0 command.1 (fresh_name t.graph)).1 a.2 a.3 a.1 u.1 in
    λ i. a.0 i ∷ same_rest i
