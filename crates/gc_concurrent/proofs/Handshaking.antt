-- Each step of the handshake keeps the handshake's rule.
use Rattle.std.proofs.Common.{◌≡◌, ◌≢◌, ◌⊎◌, ℕ, zero, suc, eqb, true, false, true≢false, List, [], ◌∷◌, ◌++◌, length, get_or, set, refl, ap, sym, ◌∙◌, subst, inl, inr, ⊎_elim, arith, length-set, get_or-set_same}
use Rattle.std.specs.Prelude.{Option, Some, None}
use mathlib.Core.Logic.{dite}
use native.Mathlib.Decide.{ℕ_discrete}
use lib.ListN.{get_elem?}
use lib.Seq.{set-get_or}
use mathlib.Core.Option.{some, none, some-injective, some-ne-none}
use prog.Atomic.{either}
use Rattle.atomic_table.specs.Table.{State, step, Act, Valid, carried_after, keeps, takes, gives, stepped, Allows, Splits, opening}
use Rattle.atomic_table.proofs.Lists.{at_set, set_here, set_again, exchanged}
use Rattle.gc_concurrent.specs.declared.commands.Commander.{Commander}
use Rattle.gc_concurrent.specs.Holders.{situation_in}
use Rattle.gc_concurrent.specs.Moves.{StaysOrFlips}
use Rattle.gc_concurrent.specs.Internal.Handshakes.{Goer, Keeper, HandshakeKnown, Stage, fresh, running, asked, handed, taken, finished, Slots, HandshakeStands, HandshakeSeated, IsHandshake, IsSeatOf, handshake_opening, only_goes, only_keeps, HandshakeSat, parked, resumed, in_phase, took_it, let_go, tells_start, tells_park, tells_resume, tells_ask, tells_hand_over, tells_withdraw, tells_go}
use Rattle.gc_concurrent.specs.Holders.{cells_of}

abbrev pub GSt : Type 0
GSt = State (Option Commander) HandshakeKnown

abbrev Views : Type 0
Views = List HandshakeKnown

abbrev AreGated : ℕ → ℕ → Goer → Keeper → Views → Type 0
AreGated goes_at keeps_at g k views = (j : ℕ) (v : HandshakeKnown) → get_elem? views j ≡ some v → HandshakeSeated goes_at keeps_at g k j v

seat_set : (F : ℕ → HandshakeKnown → Type 0) (views : Views) (id : ℕ) (w : HandshakeKnown) → F id w → ((j : ℕ) (u : HandshakeKnown) → j ≢ id → get_elem? views j ≡ some u → F j u)
    → (j : ℕ) (u : HandshakeKnown) → get_elem? (set views id w) j ≡ some u → F j u
seat_set F views id w mine others j u e = ⊎_elim (λ (x : (j ≡ id) × (w ≡ u)). subst (λ (y : ℕ × HandshakeKnown). F y.0 y.1) (λ i. (sym x.0 i, x.1 i)) mine)
    (λ (x : (j ≢ id) × (get_elem? views j ≡ some u)). others j u x.0 x.1) (at_set views id j w u e)

-- the mutator's end changes
goes_set : (goes_at keeps_at id : ℕ) (g g' : Goer) (k : Keeper) (views : Views) (v : HandshakeKnown) → get_elem? views id ≡ some v → v.goes ≡ true
    → AreGated goes_at keeps_at g k views → AreGated goes_at keeps_at g' k (set views id (record v { goer = g' }))
goes_set goes_at keeps_at id g g' k views v here goes h = let own = (h id v here).0 goes in
    seat_set (HandshakeSeated goes_at keeps_at g' k) views id (record v { goer = g' }) ((λ _. (own.0, refl)), (h id v here).1)
    (λ j u other e. ((λ p. absurd (other (((h j u e).0 p).0 ∙ sym own.0))), (h j u e).1))

-- the collector's end changes
keeps_set : (goes_at keeps_at id : ℕ) (g : Goer) (k k' : Keeper) (views : Views) (v : HandshakeKnown) → get_elem? views id ≡ some v → v.keeps ≡ true
    → AreGated goes_at keeps_at g k views → AreGated goes_at keeps_at g k' (set views id (record v { keeper = k' }))
keeps_set goes_at keeps_at id g k k' views v here mine h = let own = (h id v here).1 mine in
    seat_set (HandshakeSeated goes_at keeps_at g k') views id (record v { keeper = k' }) ((h id v here).0, λ _. (own.0, refl))
    (λ j u other e. ((h j u e).0, λ p. absurd (other (((h j u e).1 p).0 ∙ sym own.0))))

same : (s : GSt) (id : ℕ) (c : List (ℕ × Option Commander)) (v : HandshakeKnown) → get_elem? s.views id ≡ some v → IsHandshake s → IsHandshake (stepped s 0 (get_or s.words 0 0) id c v keeps)
same s id c v here r = subst (λ (x : List ℕ × Views). IsHandshake (record { words = x.0; homes = s.homes; views = x.1 })) (λ i. (sym (set-get_or s.words 0 0) i, sym (set_again s.views id v here) i)) r

rule_stays : (s : GSt) (r : IsHandshake s) (n : ℕ) (homes' : Slots) (views' : Views) (g' : Goer) (k' : Keeper) (stage' : Stage) → length homes' ≡ 1 → HandshakeStands stage' n g' k' homes' → AreGated r.goes_at r.keeps_at g' k' views'
    → IsHandshake (record { words = set s.words 0 n; homes = homes'; views = views' })
rule_stays s r n homes' views' g' k' stage' one fits seats =
    let wide = r.wide in record {
      goer = g';
      keeper = k';
      stage = stage';
      goes_at = r.goes_at;
      keeps_at = r.keeps_at;
      wide = length-set s.words 0 n ∙ wide;
      room = one;
      fits = subst (λ (z : ℕ). HandshakeStands stage' z g' k' homes') (sym (get_or-set_same s.words 0 n 0 (omega arith))) fits;
      seats = seats;
    }

-- ---- the mutator

fresh_only : (P : Type 0) (stage : Stage) (handshake : ℕ) (g : Goer) (k : Keeper) (homes : Slots) → k.phase ≡ 4 → HandshakeStands stage handshake g k homes
    → ((handshake ≡ 4) → (g.waits ≡ false) → (k.row ≡ g.row) → (get_elem? homes 0 ≡ some (some None)) → P) → P
fresh_only P fresh handshake g k homes e f h = h f.0 f.1 f.3 f.4
fresh_only P running handshake g k homes e f h = absurd (let a = f.2 in omega arith)
fresh_only P asked handshake g k homes e f h = absurd (let a = f.2 in omega arith)
fresh_only P handed handshake g k homes e f h = absurd (let a = f.2 in omega arith)
fresh_only P taken handshake g k homes e f h = absurd (let a = f.2 in omega arith)
fresh_only P finished handshake g k homes e f h = absurd (let a = f.2 in omega arith)

pub starts_rule : (slots id : ℕ) (v : HandshakeKnown) → v.goes ≡ true → v.keeps ≡ true → v.keeper.phase ≡ 4 → Allows IsHandshake slots id (v, []) 0 (λ g. either (eqb g 4) 0 g) (tells_start (step slots 0 4 0 none) (v, []))
starts_rule slots id v goes mine phase s r _ here _ =
    let me : HandshakeSat = (v, []) in
    let to : v.keeper ≡ r.keeper = ((r.seats id v here).1 mine).1 in
    let at : r.keeper.phase ≡ 4 = sym (ap (λ (k : Keeper). k.phase) to) ∙ phase in
    let handshake : ℕ = get_or s.words 0 0 in
    let room = r.room in
    let F : ℕ → Type 0 = λ z. (w : HandshakeKnown) × (a : Act (Option Commander)) × Valid s.homes me.1 a × IsHandshake (stepped s 0 z id me.1 w a) × tells_start (step slots 0 4 0 none) me handshake (w, carried_after me.1 a) in
    exchanged handshake 4 0 F
    (λ e. fresh_only (F 0) r.stage handshake r.goer r.keeper s.homes at r.fits
    (λ word waits rows home. (
      in_phase 0 v,
      takes 0 None,
      home,
      rule_stays s r 0 (set s.homes 0 none) (set s.views id (in_phase 0 v)) r.goer (in_phase 0 v).keeper running (length-set s.homes 0 none ∙ room) (refl, waits, refl, ap (λ (k : Keeper). k.row) to ∙ rows)
          (keeps_set r.goes_at r.keeps_at id r.goer r.keeper (in_phase 0 v).keeper s.views v here mine r.seats),
      (e, refl),
    )))
    (λ ne. fresh_only (F handshake) r.stage handshake r.goer r.keeper s.homes at r.fits (λ word waits rows home. absurd (ne word)))

asked_only : (P : Type 0) (stage : Stage) (handshake : ℕ) (g : Goer) (k : Keeper) (homes : Slots) → handshake ≡ 1 → HandshakeStands stage handshake g k homes → ((g.waits ≡ false) → (k.phase ≡ 1) → (k.row ≡ g.row) → P) → P
asked_only P fresh handshake g k homes e f h = absurd (let a = f.0 in omega arith)
asked_only P running handshake g k homes e f h = absurd (let a = f.0 in omega arith)
asked_only P asked handshake g k homes e f h = h f.1 f.2 f.3
asked_only P handed handshake g k homes e f h = absurd (let a = f.0 in omega arith)
asked_only P taken handshake g k homes e f h = absurd (let a = f.0 in omega arith)
asked_only P finished handshake g k homes e f h = absurd (let a = f.0 in omega arith)

pub parks_rule : (slots id : ℕ) (v : HandshakeKnown) (c : Commander) → v.goes ≡ true → v.goer.row ≡ cells_of c
    → Allows IsHandshake slots id (v, (0, Some c) ∷ []) 0 (λ g. either (eqb g 1) 2 g) (tells_park (step slots 0 1 2 none) (v, (0, Some c) ∷ []))
parks_rule slots id v c goes row s r _ here _ =
    let own = (r.seats id v here).0 goes in
    let me : HandshakeSat = (v, (0, Some c) ∷ []) in
    let handshake : ℕ = get_or s.words 0 0 in
    let room = r.room in
    let to : v.goer ≡ r.goer = own.1 in
    let F : ℕ → Type 0 = λ z. (w : HandshakeKnown) × (a : Act (Option Commander)) × Valid s.homes me.1 a × IsHandshake (stepped s 0 z id me.1 w a) × tells_park (step slots 0 1 2 none) me handshake (w, carried_after me.1 a) in
    exchanged handshake 1 2 F
    (λ e. asked_only (F 2) r.stage handshake r.goer r.keeper s.homes e r.fits
    (λ _ phase rows. (
      parked c v,
      gives,
      tt,
      rule_stays s r 2 (set s.homes 0 (some (Some c))) (set s.views id (parked c v)) (parked c v).goer r.keeper handed (length-set s.homes 0 (some (Some c)) ∙ room)
          (refl, refl, phase, (c, set_here s.homes 0 (some (Some c)) (omega arith), (refl, sym row ∙ (ap (λ (g : Goer). g.row) to ∙ sym rows))))
          (goes_set r.goes_at r.keeps_at id r.goer (parked c v).goer r.keeper s.views v here goes r.seats),
      ((λ _ d more is. λ i. (parked (first d more is i) v, [])), λ ne. absurd (ne e)),
    )))
    (λ ne. (v, keeps, tt, same s id me.1 v here r, ((λ e. absurd (ne e)), λ _. refl)))
  where
    first : (d : Commander) (more : List (ℕ × Option Commander)) → ◌≡◌ {A = List (ℕ × Option Commander)} ((0, Some c) ∷ []) ((0, Some d) ∷ more) → c ≡ d
    first d more is = let p : ◌≡◌ {A = ℕ × Option Commander} (0, Some c) (0, Some d) = cc is in let q : Some c ≡ Some d = ap (λ (x : ℕ × Option Commander). x.1) p in cc q

finished_only : (P : Type 0) (stage : Stage) (handshake : ℕ) (g : Goer) (k : Keeper) (homes : Slots) → handshake ≡ 3 → HandshakeStands stage handshake g k homes
    → ((k.phase ≡ 0) → (c : Commander) → (get_elem? homes 0 ≡ some (some (Some c))) → StaysOrFlips g.left (situation_in c) → (cells_of c ≡ k.row) → P) → P
finished_only P fresh handshake g k homes e f h = absurd (let a = f.0 in omega arith)
finished_only P running handshake g k homes e f h = absurd (let a = f.0 in omega arith)
finished_only P asked handshake g k homes e f h = absurd (let a = f.0 in omega arith)
finished_only P handed handshake g k homes e f h = absurd (let a = f.0 in omega arith)
finished_only P taken handshake g k homes e f h = absurd (let a = f.0 in omega arith)
finished_only P finished handshake g k homes e f h = let c = f.3 in h f.2 c.0 c.1 c.2.0 c.2.1

pub resumes_rule : (slots id : ℕ) (v : HandshakeKnown) → v.goes ≡ true → Allows IsHandshake slots id (v, []) 0 (λ g. either (eqb g 3) 0 g) (tells_resume (step slots 0 3 0 none) (v, []))
resumes_rule slots id v goes s r _ here _ =
    let own = (r.seats id v here).0 goes in
    let me : HandshakeSat = (v, []) in
    let handshake : ℕ = get_or s.words 0 0 in
    let room = r.room in
    let to : v.goer ≡ r.goer = own.1 in
    let F : ℕ → Type 0 = λ z. (w : HandshakeKnown) × (a : Act (Option Commander)) × Valid s.homes me.1 a × IsHandshake (stepped s 0 z id me.1 w a) × tells_resume (step slots 0 3 0 none) me handshake (w, carried_after me.1 a) in
    exchanged handshake 3 0 F
    (λ e. finished_only (F 0) r.stage handshake r.goer r.keeper s.homes e r.fits
    (λ phase c home follows row. (
      resumed c v,
      takes 0 (Some c),
      home,
      rule_stays s r 0 (set s.homes 0 none) (set s.views id (resumed c v)) (resumed c v).goer r.keeper running (length-set s.homes 0 none ∙ room) (refl, refl, phase, sym row)
          (goes_set r.goes_at r.keeps_at id r.goer (resumed c v).goer r.keeper s.views v here goes r.seats),
      ((λ _. (c, subst (λ (g : Goer). StaysOrFlips g.left (situation_in c)) (sym to) follows, refl)), λ ne. absurd (ne e)),
    )))
    (λ ne. (v, keeps, tt, same s id me.1 v here r, ((λ e. absurd (ne e)), λ _. refl)))

-- ---- the collector

running_only : (P : Type 0) (stage : Stage) (handshake : ℕ) (g : Goer) (k : Keeper) (homes : Slots) → handshake ≡ 0 → HandshakeStands stage handshake g k homes → ((g.waits ≡ false) → (k.row ≡ g.row) → P) → P
running_only P fresh handshake g k homes e f h = absurd (let a = f.0 in omega arith)
running_only P running handshake g k homes e f h = h f.1 f.3
running_only P asked handshake g k homes e f h = absurd (let a = f.0 in omega arith)
running_only P handed handshake g k homes e f h = absurd (let a = f.0 in omega arith)
running_only P taken handshake g k homes e f h = absurd (let a = f.0 in omega arith)
running_only P finished handshake g k homes e f h = absurd (let a = f.0 in omega arith)

pub asks_rule : (slots id : ℕ) (me : HandshakeSat) → me.0.keeps ≡ true → Allows IsHandshake slots id me 0 (λ g. either (eqb g 0) 1 g) (tells_ask (step slots 0 0 1 none) me)
asks_rule slots id me keeps' s r _ here _ =
    let own = (r.seats id me.0 here).1 keeps' in
    let to : me.0.keeper ≡ r.keeper = own.1 in
    let handshake : ℕ = get_or s.words 0 0 in
    let F : ℕ → Type 0 = λ z. (w : HandshakeKnown) × (a : Act (Option Commander)) × Valid s.homes me.1 a × IsHandshake (stepped s 0 z id me.1 w a) × tells_ask (step slots 0 0 1 none) me handshake (w, carried_after me.1 a) in
    exchanged handshake 0 1 F
    (λ e. running_only (F 1) r.stage handshake r.goer r.keeper s.homes e r.fits
    (λ waits rows. (
      in_phase 1 me.0,
      keeps,
      tt,
      rule_stays s r 1 s.homes (set s.views id (in_phase 1 me.0)) r.goer (in_phase 1 me.0).keeper asked r.room (refl, waits, refl, ap (λ (k : Keeper). k.row) to ∙ rows)
          (keeps_set r.goes_at r.keeps_at id r.goer r.keeper (in_phase 1 me.0).keeper s.views me.0 here keeps' r.seats),
      ((λ _. refl), λ ne. absurd (ne e)),
    )))
    (λ ne. (me.0, keeps, tt, same s id me.1 me.0 here r, ((λ e. absurd (ne e)), λ _. refl)))

handed_only : (P : Type 0) (stage : Stage) (handshake : ℕ) (g : Goer) (k : Keeper) (homes : Slots) → handshake ≡ 2 → k.phase ≡ 1 → HandshakeStands stage handshake g k homes
    → ((g.waits ≡ true) → (c : Commander) → (get_elem? homes 0 ≡ some (some (Some c))) → (situation_in c ≡ g.left) → (cells_of c ≡ k.row) → P) → P
handed_only P fresh handshake g k homes e p f h = absurd (let a = f.0 in omega arith)
handed_only P running handshake g k homes e p f h = absurd (let a = f.0 in omega arith)
handed_only P asked handshake g k homes e p f h = absurd (let a = f.0 in omega arith)
handed_only P handed handshake g k homes e p f h = let c = f.3 in h f.1 c.0 c.1 c.2.0 c.2.1
handed_only P taken handshake g k homes e p f h = absurd (let a = f.2 in omega arith)
handed_only P finished handshake g k homes e p f h = absurd (let a = f.0 in omega arith)

pub takes_over_rule : (slots id : ℕ) (v : HandshakeKnown) → v.keeps ≡ true → v.keeper.phase ≡ 1 → Allows IsHandshake slots id (v, []) 0 (λ g. g) (tells_hand_over (step slots 0 0 0 none) (v, []))
takes_over_rule slots id v keeps' phase s r _ here _ =
    let own = (r.seats id v here).1 keeps' in
    let to : v.keeper ≡ r.keeper = own.1 in
    let phase' : r.keeper.phase ≡ 1 = ap (λ (k : Keeper). k.phase) (sym to) ∙ phase in
    let me : HandshakeSat = (v, []) in
    let handshake : ℕ = get_or s.words 0 0 in
    let room = r.room in
    let F : Type 0 = (w : HandshakeKnown) × (a : Act (Option Commander)) × Valid s.homes me.1 a × IsHandshake (stepped s 0 handshake id me.1 w a) × tells_hand_over (step slots 0 0 0 none) me handshake (w, carried_after me.1 a) in
    dite (ℕ_discrete handshake 2)
    (λ e. handed_only F r.stage handshake r.goer r.keeper s.homes e phase' r.fits
    (λ waits c home left row. (
      took_it c v,
      takes 0 (Some c),
      home,
      rule_stays s r handshake (set s.homes 0 none) (set s.views id (took_it c v)) r.goer (took_it c v).keeper taken (length-set s.homes 0 none ∙ room) (e, waits, refl, left)
          (keeps_set r.goes_at r.keeps_at id r.goer r.keeper (took_it c v).keeper s.views v here keeps' r.seats),
      ((λ _. (c, row ∙ ap (λ (k : Keeper). k.row) (sym to), refl)), λ ne. absurd (ne e)),
    )))
    (λ ne. (v, keeps, tt, same s id me.1 v here r, ((λ e. absurd (ne e)), λ _. refl)))

-- while the collector asks, the mutator has stopped unless the word is 1
stopped_only : (P : Type 0) (stage : Stage) (handshake : ℕ) (g : Goer) (k : Keeper) (homes : Slots) → handshake ≢ 1 → k.phase ≡ 1 → HandshakeStands stage handshake g k homes
    → ((handshake ≡ 2) → (g.waits ≡ true) → (c : Commander) → (get_elem? homes 0 ≡ some (some (Some c))) → (situation_in c ≡ g.left) → (cells_of c ≡ k.row) → P) → P
stopped_only P fresh handshake g k homes n p f h = absurd (let a = f.2 in omega arith)
stopped_only P running handshake g k homes n p f h = absurd (let a = f.2 in omega arith)
stopped_only P asked handshake g k homes n p f h = absurd (n f.0)
stopped_only P handed handshake g k homes n p f h = let c = f.3 in h f.0 f.1 c.0 c.1 c.2.0 c.2.1
stopped_only P taken handshake g k homes n p f h = absurd (let a = f.2 in omega arith)
stopped_only P finished handshake g k homes n p f h = absurd (let a = f.2 in omega arith)

-- the collector's end knows the keeper
keeper_of : (s : GSt) (r : IsHandshake s) (id : ℕ) (v : HandshakeKnown) → get_elem? s.views id ≡ some v → v.keeps ≡ true → v.keeper ≡ r.keeper
keeper_of s r id v here mine = ((r.seats id v here).1 mine).1

pub withdraws_rule : (slots id : ℕ) (v : HandshakeKnown) → v.keeps ≡ true → v.keeper.phase ≡ 1 → Allows IsHandshake slots id (v, []) 0 (λ g. either (eqb g 1) 0 g) (tells_withdraw (step slots 0 1 0 none) (v, []))
withdraws_rule slots id v keeps' phase s r _ here _ =
    let to = keeper_of s r id v here keeps' in
    let me : HandshakeSat = (v, []) in
    let handshake : ℕ = get_or s.words 0 0 in
    let F : ℕ → Type 0 = λ z. (w : HandshakeKnown) × (a : Act (Option Commander)) × Valid s.homes me.1 a × IsHandshake (stepped s 0 z id me.1 w a) × tells_withdraw (step slots 0 1 0 none) me handshake (w, carried_after me.1 a) in
    exchanged handshake 1 0 F
    (λ e. asked_only (F 0) r.stage handshake r.goer r.keeper s.homes e r.fits
    (λ waits phase rows. (
      in_phase 0 v,
      keeps,
      tt,
      rule_stays s r 0 s.homes (set s.views id (in_phase 0 v)) r.goer (in_phase 0 v).keeper running r.room (refl, waits, refl, ap (λ (k : Keeper). k.row) to ∙ rows)
          (keeps_set r.goes_at r.keeps_at id r.goer r.keeper (in_phase 0 v).keeper s.views v here keeps' r.seats),
      ((λ _. refl), λ ne. absurd (ne e)),
    )))
    (λ ne. stopped_only (F handshake) r.stage handshake r.goer r.keeper s.homes ne (subst (λ (k : Keeper). k.phase ≡ 1) to phase) r.fits
    (λ two waits c home left row. (
      took_it c v,
      takes 0 (Some c),
      home,
      rule_stays s r handshake (set s.homes 0 none) (set s.views id (took_it c v)) r.goer (took_it c v).keeper taken (length-set s.homes 0 none ∙ r.room) (two, waits, refl, left)
          (keeps_set r.goes_at r.keeps_at id r.goer r.keeper (took_it c v).keeper s.views v here keeps' r.seats),
      ((λ e. absurd (ne e)), λ _. (c, row ∙ ap (λ (k : Keeper). k.row) (sym to), refl)),
    )))

taken_only : (P : Type 0) (stage : Stage) (handshake : ℕ) (g : Goer) (k : Keeper) (homes : Slots) → k.phase ≡ 2 → HandshakeStands stage handshake g k homes → ((g.waits ≡ true) → (k.took ≡ g.left) → P) → P
taken_only P fresh handshake g k homes p f h = absurd (let a = f.2 in omega arith)
taken_only P running handshake g k homes p f h = absurd (let a = f.2 in omega arith)
taken_only P asked handshake g k homes p f h = absurd (let a = f.2 in omega arith)
taken_only P handed handshake g k homes p f h = absurd (let a = f.2 in omega arith)
taken_only P taken handshake g k homes p f h = h f.1 f.3
taken_only P finished handshake g k homes p f h = absurd (let a = f.2 in omega arith)

pub goes_rule : (slots id : ℕ) (v : HandshakeKnown) (c : Commander) → v.keeps ≡ true → v.keeper.phase ≡ 2 → StaysOrFlips v.keeper.took (situation_in c)
    → Allows IsHandshake slots id (v, (0, Some c) ∷ []) 0 (λ _. 3) (λ _. tells_go (step slots 0 3 0 none) (v, (0, Some c) ∷ []) 3)
goes_rule slots id v c keeps' phase follows s r _ here _ =
    let own = (r.seats id v here).1 keeps' in
    let to : v.keeper ≡ r.keeper = own.1 in
    let phase' : r.keeper.phase ≡ 2 = ap (λ (k : Keeper). k.phase) (sym to) ∙ phase in
    let me : HandshakeSat = (v, (0, Some c) ∷ []) in
    let room = r.room in
    taken_only ((w : HandshakeKnown) × (a : Act (Option Commander)) × Valid s.homes me.1 a × IsHandshake (stepped s 0 3 id me.1 w a) × tells_go (step slots 0 3 0 none) me 3 (w, carried_after me.1 a)) r.stage (get_or s.words 0 0) r.goer r.keeper s.homes phase' r.fits
    (λ waits took. (
      let_go c v,
      gives,
      tt,
      rule_stays s r 3 (set s.homes 0 (some (Some c))) (set s.views id (let_go c v)) r.goer (let_go c v).keeper finished (length-set s.homes 0 (some (Some c)) ∙ room)
          (refl, waits, refl, (c, set_here s.homes 0 (some (Some c)) (omega arith), (subst (λ h. StaysOrFlips h (situation_in c)) (ap (λ (k : Keeper). k.took) to ∙ took) follows, refl)))
          (keeps_set r.goes_at r.keeps_at id r.goer r.keeper (let_go c v).keeper s.views v here keeps' r.seats),
      λ d more is. λ i. (let_go (first d more is i) v, []),
    ))
  where
    first : (d : Commander) (more : List (ℕ × Option Commander)) → ◌≡◌ {A = List (ℕ × Option Commander)} ((0, Some c) ∷ []) ((0, Some d) ∷ more) → c ≡ d
    first d more is = let p : ◌≡◌ {A = ℕ × Option Commander} (0, Some c) (0, Some d) = cc is in let q : Some c ≡ Some d = ap (λ (x : ℕ × Option Commander). x.1) p in cc q

-- what is held was left
pub held_as_left : (s : GSt) (v w : HandshakeKnown) → IsHandshake s → IsSeatOf s v → IsSeatOf s w → v.goes ≡ true → w.keeps ≡ true → w.keeper.phase ≡ 2 → w.keeper.took ≡ v.goer.left
held_as_left s v w r left held goes keeps' phase =
    let g : v.goer ≡ r.goer = ((r.seats left.0 v left.1).0 goes).1 in
    let k : w.keeper ≡ r.keeper = ((r.seats held.0 w held.1).1 keeps').1 in
    taken_only (w.keeper.took ≡ v.goer.left) r.stage (get_or s.words 0 0) r.goer r.keeper s.homes (ap (λ (x : Keeper). x.phase) (sym k) ∙ phase) r.fits
    (λ _ took. ap (λ (x : Keeper). x.took) k ∙ took ∙ sym (ap (λ (x : Goer). x.left) g))

-- ---- at first

snoc_cases : (l : Views) (a b : HandshakeKnown) (j : ℕ) → get_elem? (l ++ a ∷ []) j ≡ some b → (get_elem? l j ≡ some b) ⊎ ((j ≡ length l) × (a ≡ b))
snoc_cases [] a b zero e = inr (refl, some-injective a b e)
snoc_cases [] a b (suc j) e = absurd (some-ne-none b (sym e))
snoc_cases (x ∷ xs) a b zero e = inl e
snoc_cases (x ∷ xs) a b (suc j) e = ⊎_elim (λ h. inl h) (λ t. inr (ap suc t.0, t.1)) (snoc_cases xs a b j e)

pub handshake_splits : (id : ℕ) (v : HandshakeKnown) → v.goes ≡ true → v.keeps ≡ true → Splits IsHandshake id v (only_goes v) (only_keeps v)
handshake_splits id v goes mine s r here =
    let own = r.seats id v here in
    let l : HandshakeKnown = only_goes v in
    let q : HandshakeKnown = only_keeps v in
    let vs : Views = set s.views id l in
    let Old : ℕ → HandshakeKnown → Type 0 = λ j u. (u.goes ≡ true → (j ≡ r.goes_at) × (u.goer ≡ r.goer)) × (u.keeps ≡ true → ⊥) in
    let old : (j : ℕ) (u : HandshakeKnown) → get_elem? vs j ≡ some u → Old j u = seat_set Old s.views id l (own.0, λ p. true≢false (sym p)) (λ j u other e. ((r.seats j u e).0, λ p. other (((r.seats j u e).1 p).0 ∙ sym ((own.1 mine).0)))) in
    record {
      goer = r.goer;
      keeper = r.keeper;
      stage = r.stage;
      goes_at = r.goes_at;
      keeps_at = length vs;
      wide = r.wide;
      room = r.room;
      fits = r.fits;
      seats = λ j u e. ⊎_elim
          (λ (x : get_elem? vs j ≡ some u). ((old j u x).0, λ p. absurd ((old j u x).1 p)))
          (λ (x : (j ≡ length vs) × (q ≡ u)). ((λ p. absurd (true≢false (sym (ap (λ (z : HandshakeKnown). z.goes) x.1 ∙ p)))), λ p. (x.0, ap (λ (z : HandshakeKnown). z.keeper) (sym x.1) ∙ (own.1 mine).1)))
          (snoc_cases vs q u j e);
    }

pub handshake_opens : (c : Commander) (words : List ℕ) (slots : List (Option Commander)) → words ≡ 4 ∷ [] → slots ≡ None ∷ [] → IsHandshake (opening words slots (handshake_opening c))
handshake_opens c words slots e f = subst (λ (x : List ℕ × List (Option Commander)). IsHandshake (opening x.0 x.1 (handshake_opening c))) (λ i. (sym e i, sym f i)) (record {
  goer = (handshake_opening c).goer;
  keeper = (handshake_opening c).keeper;
  stage = fresh;
  goes_at = 0;
  keeps_at = 0;
  wide = refl;
  room = refl;
  fits = (refl, refl, refl, refl, refl);
  seats = λ j u e. ⊎_elim
      (λ (x : get_elem? [] j ≡ some u). absurd (some-ne-none u (sym x)))
      (λ (x : (j ≡ 0) × (handshake_opening c ≡ u)). ((λ _. (x.0, ap (λ (z : HandshakeKnown). z.goer) (sym x.1))), λ _. (x.0, ap (λ (z : HandshakeKnown). z.keeper) (sym x.1))))
      (snoc_cases [] (handshake_opening c) u j e);
})
