-- A seat of the handshake with its slot.
use Rattle.std.proofs.Common.{◌≡◌, ℕ, ◌<◌, eqb, Bool, true, List, [], ◌∷◌, map, is_some, refl, ap, sym, ◌∙◌, subst, arith}
use Rattle.std.specs.Prelude.{Option, Some}
use mathlib.Core.Option.{none}
use prog.Atomic.{either}
use Rattle.std.specs.declared.alloc.Global.{Global}
use Rattle.atomic_table.specs.Seated.{TableId}
use Rattle.atomic_table.specs.declared.owned.Table.{Table}
use Rattle.atomic_table.specs.Table.{step, rest, Allows}
use Rattle.gc_concurrent.specs.declared.commands.Commander.{Commander}
use Rattle.gc_concurrent.specs.declared.handshake.HandshakeRule.{HandshakeRule}
use Rattle.gc_concurrent.specs.Holders.{situation_in}
use Rattle.gc_concurrent.specs.Moves.{StaysOrFlips}
use Rattle.gc_concurrent.specs.Internal.Handshakes.{HandshakeKnown, IsHandshake, HandshakeSat, hands, tells_start, tells_park, tells_resume, tells_hand_over, tells_withdraw, tells_go}
use Rattle.gc_concurrent.specs.Holders.{cells_of}
use Rattle.gc_concurrent.proofs.Handshaking.{starts_rule, parks_rule, resumes_rule, takes_over_rule, withdraws_rule, goes_rule}

abbrev pub Handshake : Type 0
Handshake = Table (Option Commander) HandshakeKnown Commander HandshakeRule Global

pub handshake_tied : (x y : Handshake) (tid : TableId) → x ≡ y → y.shared.table_id ≡ tid → tid ≡ x.shared.table_id
handshake_tied x y tid e r = sym (ap (λ (s : Handshake). s.shared.table_id) e ∙ r)

pub handshake_word : (x y : Handshake) (tid : TableId) → x ≡ y → y.shared.table_id ≡ tid → tid.words ≡ 1 → 0 < x.shared.table_id.words
handshake_word x y tid e r w = let z : x.shared.table_id.words ≡ 1 = ap (λ (s : Handshake). s.shared.table_id.words) e ∙ (ap (λ (i : TableId). i.words) r ∙ w) in omega arith

abbrev H : Type 0
H = List (ℕ × Option Commander)

seen : ℕ × Option Commander → ℕ × Bool
seen x = (x.0, is_some x.1)

no_hand : (c : H) → map {B = ℕ × Bool} (λ (x : ℕ × Option Commander). (x.0, is_some x.1)) c ≡ [] → c ≡ []
no_hand [] e = refl
no_hand (x ∷ xs) e = absurd cc

pub one_hand : (c : H) (b : Bool) → map {B = ℕ × Bool} (λ (x : ℕ × Option Commander). (x.0, is_some x.1)) c ≡ (0, b) ∷ [] → (y : Option Commander) × (c ≡ (0, y) ∷ [])
one_hand [] b e = absurd cc
one_hand (x ∷ []) b e = let p : ◌≡◌ {A = ℕ × Bool} (x.0, is_some x.1) (0, b) = cc e in (x.1, λ i. ((ap (λ (z : ℕ × Bool). z.0) p) i, x.1) ∷ [])
one_hand (x ∷ y ∷ ys) b e = absurd cc

-- what `exchange` asks
pub in_hand : (c : H) (y : Option Commander) (more : H) → c ≡ (0, y) ∷ more → (z : Option Commander) × (c ≡ (0, z) ∷ rest c)
in_hand c y more e = (y, e ∙ ap (λ (l : H). (0, y) ∷ rest l) (sym e))

pub resumes_at : (slots id : ℕ) (me : HandshakeSat) → me.0.goes ≡ true → hands me ≡ [] → Allows IsHandshake slots id me 0 (λ g. either (eqb g 3) 0 g) (tells_resume (step slots 0 3 0 none) me)
resumes_at slots id me goes e = subst (λ (c : H). Allows IsHandshake slots id (me.0, c) 0 (λ g. either (eqb g 3) 0 g) (tells_resume (step slots 0 3 0 none) (me.0, c))) (sym (no_hand me.1 e)) (resumes_rule slots id me.0 goes)

pub starts_at : (slots id : ℕ) (me : HandshakeSat) → me.0.goes ≡ true → me.0.keeps ≡ true → me.0.keeper.phase ≡ 4 → hands me ≡ [] → Allows IsHandshake slots id me 0 (λ g. either (eqb g 4) 0 g) (tells_start (step slots 0 4 0 none) me)
starts_at slots id me goes mine phase e = subst (λ (c : H). Allows IsHandshake slots id (me.0, c) 0 (λ g. either (eqb g 4) 0 g) (tells_start (step slots 0 4 0 none) (me.0, c))) (sym (no_hand me.1 e)) (starts_rule slots id me.0 goes mine phase)

pub takes_gate_at : (slots id : ℕ) (me : HandshakeSat) → me.0.keeps ≡ true → me.0.keeper.phase ≡ 1 → hands me ≡ [] → Allows IsHandshake slots id me 0 (λ g. g) (tells_hand_over (step slots 0 0 0 none) me)
takes_gate_at slots id me keeps phase e = subst (λ (c : H). Allows IsHandshake slots id (me.0, c) 0 (λ g. g) (tells_hand_over (step slots 0 0 0 none) (me.0, c))) (sym (no_hand me.1 e)) (takes_over_rule slots id me.0 keeps phase)

pub withdraws_at : (slots id : ℕ) (me : HandshakeSat) → me.0.keeps ≡ true → me.0.keeper.phase ≡ 1 → hands me ≡ [] → Allows IsHandshake slots id me 0 (λ g. either (eqb g 1) 0 g) (tells_withdraw (step slots 0 1 0 none) me)
withdraws_at slots id me keeps phase e = subst (λ (c : H). Allows IsHandshake slots id (me.0, c) 0 (λ g. either (eqb g 1) 0 g) (tells_withdraw (step slots 0 1 0 none) (me.0, c))) (sym (no_hand me.1 e)) (withdraws_rule slots id me.0 keeps phase)

-- a seat with one slot in hand has no other
pub taken_alone : (me me' : HandshakeSat) (v : HandshakeKnown) (x : ℕ × Option Commander) → hands me ≡ [] → me' ≡ (v, x ∷ me.1) → me' ≡ (v, x ∷ [])
taken_alone me me' v x e is = is ∙ ap (λ (l : H). (v, x ∷ l)) (no_hand me.1 e)

-- the seat after its slot was filled
pub filled : (me me' : HandshakeSat) (b : Bool) (y : Option Commander) → hands me ≡ (0, b) ∷ [] → me' ≡ (me.0, (0, y) ∷ rest me.1) → me' ≡ (me.0, (0, y) ∷ [])
filled me me' b y e is = is ∙ ap (λ (l : H). (me.0, (0, y) ∷ rest l)) (one_hand me.1 b e).1

pub parks_at : (slots id : ℕ) (me : HandshakeSat) (v : HandshakeKnown) (c : Commander) → me ≡ (v, (0, Some c) ∷ []) → v.goes ≡ true → v.goer.row ≡ cells_of c
    → Allows IsHandshake slots id me 0 (λ g. either (eqb g 1) 2 g) (tells_park (step slots 0 1 2 none) me)
parks_at slots id me v c e goes row = subst (λ (m : HandshakeSat). Allows IsHandshake slots id m 0 (λ g. either (eqb g 1) 2 g) (tells_park (step slots 0 1 2 none) m)) (sym e) (parks_rule slots id v c goes row)

pub goes_at : (slots id : ℕ) (me : HandshakeSat) (v : HandshakeKnown) (c : Commander) → me ≡ (v, (0, Some c) ∷ []) → v.keeps ≡ true → v.keeper.phase ≡ 2 → StaysOrFlips v.keeper.took (situation_in c)
    → Allows IsHandshake slots id me 0 (λ _. 3) (λ _. tells_go (step slots 0 3 0 none) me 3)
goes_at slots id me v c e keeps phase follows = subst (λ (m : HandshakeSat). Allows IsHandshake slots id m 0 (λ _. 3) (λ _. tells_go (step slots 0 3 0 none) m 3)) (sym e) (goes_rule slots id v c keeps phase follows)
