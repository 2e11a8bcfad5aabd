-- What writes do to the walk over a space.
use Rattle.std.proofs.lemmas.Grind.{common_steps}
use Rattle.std.proofs.Common.{◌≡◌, ℕ, suc, zero, ◌+◌, ◌-◌, ◌*◌, ◌%◌, ◌<◌, ◌≤◌, Bool, true, false, cond, ◌==◌, List, [], ◌∷◌, ◌++◌, map, length, take, drop, Option, Some, None, Result, Ok, Err, refl, sym, ◌∙◌, ap, subst, inl, inr, arith, length-append, length-set}
use Rattle.std.specs.Prelude.{IsOk, slice_set, ⊤}
use Rattle.std.specs.List.{AllByRecursion}
use Rattle.std.proofs.lemmas.Bool.{eqb-true, leb-true, le-leb, lt-ltb, le-ltb, and_from, and_parts, ltb-true, cases_Bool}
use Rattle.std.proofs.lemmas.List.{take-append-le, drop-append-le, take_all, map-set}
use Rattle.gc_graph.specs.Graph.{set_field}
use Rattle.gc_words.specs.Word.{IsHeader, least_header, is_header_word, header_word, read_header, header_in, field_value}
use Rattle.gc_words.specs.Image.{Block, walk, walk_all, walk_words, object_at, with_front, block_in, set_block, object_entry}
use Rattle.gc_words.specs.declared.header.Header.{Header}

-- ---- headers are read back

remainder : (raw : Bool) (kind len : ℕ) → kind < 256 → len < 65536 → (least_header raw + 65536 * kind + len) % 65536 ≡ len
remainder raw kind len k l = grind (arith, common_steps)

is_word : (raw : Bool) (kind len : ℕ) → kind < 256 → len < 65536 → is_header_word raw (least_header raw + 65536 * kind + len) ≡ true
is_word raw kind len k l = grind (arith, common_steps, and_from, le-leb, lt-ltb)

no_plain_word : (w : ℕ) → 33554432 ≤ w → is_header_word false w ≡ false
no_plain_word w high = grind (arith, common_steps, le-ltb)

read_by : (raw : Bool) (kind len : ℕ) → kind < 256 → len < 65536 → read_header (least_header raw + 65536 * kind + len) ≡ Some (record { raw = raw; kind = kind; len = len })
read_by raw kind len k l = grind (arith, common_steps, is_word, no_plain_word, remainder)

pub read_back : (h : Header) → IsHeader h → read_header (header_word h) ≡ Some h
read_back h is = read_by h.raw h.kind h.len is.kind is.len

-- a word that is read as a header is that header's word
pub written_back : (w : ℕ) (h : Header) → read_header w ≡ Some h → IsHeader h × (header_word h ≡ w)
written_back w h e = grind (arith, common_steps, and_parts, leb-true, ltb-true)

-- ---- the walk, one object at a time

abbrev pub Walked : ℕ → ℕ → List ℕ → List (ℕ × Block) → Type 0
Walked inside at ws bs = walk true inside at ws ≡ Ok bs

abbrev pub fields_in : Header → List ℕ → List ℕ
fields_in h words = take h.len (drop 1 words)

guard_ok : (b : Bool) (x : Result (List (ℕ × Block)) ℕ) (at : ℕ) (bs : List (ℕ × Block)) → cond b x (Err at) ≡ Ok bs → (b ≡ true) × (x ≡ Ok bs)
guard_ok b x at bs e = grind (arith, common_steps)

-- if the walk passes an object, its header is valid, it fits, and the rest is walked
abbrev pub First : ℕ → List ℕ → List (ℕ × Block) → Option Header → Type 0
First at words bs h? = (h : Header) × (h? ≡ Some h) × (h.len + 1 ≤ length words) × (rest : List (ℕ × Block)) × (walk true (h.len + 1) (suc at) words ≡ Ok rest) × (bs ≡ (at, record { header = h; fields = fields_in h words }) ∷ rest)

pub first : (at w : ℕ) (words : List ℕ) (bs : List (ℕ × Block)) → Walked 0 at (w ∷ words) bs → First at words bs (read_header w)
first at w words bs e = grind (arith, common_steps, guard_ok, leb-true)

-- the walk of one object and of the rest
pub object_result : (raws : Bool) (at w : ℕ) (words : List ℕ) (h : Header) → header_in raws w ≡ Some h → h.len + 1 ≤ length words
    → walk raws 0 at (w ∷ words) ≡ with_front (at, record { header = h; fields = fields_in h words }) (walk raws (h.len + 1) (suc at) words)
object_result raws at w words h is room = grind (arith, common_steps, le-leb)

pub object_walked : (at w : ℕ) (words : List ℕ) (h : Header) (rest : List (ℕ × Block)) → read_header w ≡ Some h → h.len + 1 ≤ length words → walk true (h.len + 1) (suc at) words ≡ Ok rest
    → Walked 0 at (w ∷ words) ((at, record { header = h; fields = fields_in h words }) ∷ rest)
object_walked at w words h rest is room e = object_result true at w words h is room ∙ ap (with_front (at, record { header = h; fields = fields_in h words })) e

-- ---- walks in which headers of raw objects do not count

pub header_counted : (raws : Bool) (w : ℕ) (h : Header) → header_in raws w ≡ Some h → read_header w ≡ Some h
header_counted raws w h e = grind (arith, common_steps)

-- a walk that reaches the end without them is also the walk with them
walk_counted : (raws : Bool) (ws : List ℕ) (inside at : ℕ) (bs : List (ℕ × Block)) → walk raws inside at ws ≡ Ok bs → Walked inside at ws bs
walk_counted raws [] inside at bs e = e
walk_counted raws (w ∷ ws) (suc inside) at bs e = walk_counted raws ws inside (suc at) bs e
walk_counted raws (w ∷ ws) zero at bs e = go (header_in raws w) refl e (λ inside rest walked. walk_counted raws ws inside (suc at) rest walked)
  where
    go : (o : Option Header) → header_in raws w ≡ o → object_at at o ws (λ inside. walk raws inside (suc at) ws) ≡ Ok bs
        → ((inside : ℕ) (rest : List (ℕ × Block)) → walk raws inside (suc at) ws ≡ Ok rest → Walked inside (suc at) ws rest) → Walked 0 at (w ∷ ws) bs
    go o is e behind = grind (arith, common_steps, guard_ok, object_walked, header_counted, leb-true)

pub same_walk : (raws : Bool) (words : List ℕ) → IsOk (walk_all raws words) → walk_all raws words ≡ walk_words words
same_walk raws words ok = grind (arith, common_steps, walk_counted)

-- ---- the range of starts

pub starts_above : (ws : List ℕ) (inside at : ℕ) (bs : List (ℕ × Block)) → Walked inside at ws bs → AllByRecursion (λ b. at + inside ≤ b.0) bs
starts_above [] inside at [] e = tt
starts_above [] inside at (b ∷ bs) e = cc
starts_above (w ∷ ws) (suc inside) at bs e = weaker bs (starts_above ws inside (suc at) bs e)
  where
    weaker : (bs : List (ℕ × Block)) → AllByRecursion (λ b. suc at + inside ≤ b.0) bs → AllByRecursion (λ b. at + suc inside ≤ b.0) bs
    weaker [] a = tt
    weaker (b ∷ bs) a = (let h : suc at + inside ≤ b.0 = a.0 in omega arith, weaker bs a.1)
starts_above (w ∷ ws) zero at bs e =
    let f : First at ws bs (read_header w) = first at w ws bs e in
    subst (AllByRecursion (λ b. at + 0 ≤ b.0)) (sym f.5) (omega arith, weaker (f.0.len + 1) f.3 (starts_above ws (f.0.len + 1) (suc at) f.3 f.4))
  where
    weaker : (k : ℕ) (bs : List (ℕ × Block)) → AllByRecursion (λ b. suc at + k ≤ b.0) bs → AllByRecursion (λ b. at + 0 ≤ b.0) bs
    weaker k [] a = tt
    weaker k (b ∷ bs) a = (let h : suc at + k ≤ b.0 = a.0 in omega arith, weaker k bs a.1)

-- ---- placing an object at the end

alone : (at : ℕ) (h : Header) (link : ℕ) (fields : List ℕ) → IsHeader h → length fields ≡ h.len → Walked 0 at (header_word h ∷ link ∷ fields) ((at, record { header = h; fields = fields }) ∷ [])
alone at h link fields is n =
    object_walked at (header_word h) (link ∷ fields) h [] (read_back h is) (omega arith) (past (h.len + 1) (suc at) (link ∷ fields) (omega arith))
    ∙ ap (λ fs. Ok ((at, record { header = h; fields = fs }) ∷ [])) (take_all h.len fields (omega arith))
  where
    past : (k at : ℕ) (xs : List ℕ) → length xs ≡ k → walk true k at xs ≡ Ok []
    past zero at [] e = refl
    past (suc k) at [] e = refl
    past zero at (x ∷ xs) e = absurd (omega arith)
    past (suc k) at (x ∷ xs) e = past k (suc at) xs (omega arith)

pub walk_placed : (ws : List ℕ) (inside at : ℕ) (bs : List (ℕ × Block)) (h : Header) (link : ℕ) (fields : List ℕ) → IsHeader h → length fields ≡ h.len
    → inside ≤ length ws → Walked inside at ws bs → Walked inside at (ws ++ header_word h ∷ link ∷ fields) (bs ++ (at + length ws, record { header = h; fields = fields }) ∷ [])
walk_placed [] zero at bs h link fields is n room e =
    alone at h link fields is n ∙ (let none : [] ≡ bs = cc in (λ i. Ok (none i ++ (here i, record { header = h; fields = fields }) ∷ [])))
  where
    here : at ≡ at + 0
    here = omega arith
walk_placed [] (suc inside) at bs h link fields is n room e = absurd (omega arith)
walk_placed (w ∷ ws) (suc inside) at bs h link fields is n room e =
    walk_placed ws inside (suc at) bs h link fields is n (omega arith) e ∙ ap (λ m. Ok (bs ++ (m, record { header = h; fields = fields }) ∷ [])) (omega arith)
walk_placed (w ∷ ws) zero at bs h link fields is n room e =
    let f : First at ws bs (read_header w) = first at w ws bs e in
    let more : List ℕ = header_word h ∷ link ∷ fields in
    let longer : length (ws ++ more) ≡ length ws + length more = length-append ws more in
    let dropped : drop 1 (ws ++ more) ≡ drop 1 ws ++ more = drop-append-le 1 ws more (let r : f.0.len + 1 ≤ length ws = f.2 in omega arith) in
    let kept : fields_in f.0 (ws ++ more) ≡ fields_in f.0 ws = ap (take f.0.len) dropped ∙ take-append-le f.0.len (drop 1 ws) more (let r : f.0.len + 1 ≤ length ws = f.2 in let d : length (drop 1 ws) ≡ length ws - 1 = length_drop_one ws in omega arith) in
    object_walked at w (ws ++ more) f.0 _ f.1 (let r : f.0.len + 1 ≤ length ws = f.2 in omega arith) (walk_placed ws (f.0.len + 1) (suc at) f.3 h link fields is n f.2 f.4)
    ∙ (λ i. Ok ((at, record { header = f.0; fields = kept i }) ∷ (f.3 ++ (place i, record { header = h; fields = fields }) ∷ [])))
    ∙ ap (λ bs. Ok (bs ++ (at + suc (length ws), record { header = h; fields = fields }) ∷ [])) (sym f.5)
  where
    place : suc at + length ws ≡ at + suc (length ws)
    place = omega arith

    length_drop_one : (xs : List ℕ) → length (drop 1 xs) ≡ length xs - 1
    length_drop_one xs = grind (arith, common_steps)

-- ---- words inside an object

-- the walk passes over a word of an earlier object
inside_set : (ws : List ℕ) (inside at p v : ℕ) → p < inside → walk true inside at (slice_set ws p v) ≡ walk true inside at ws
inside_set [] inside at p v h = refl
inside_set (w ∷ ws) zero at p v h = absurd (omega arith)
inside_set (w ∷ ws) (suc inside) at zero v h = refl
inside_set (w ∷ ws) (suc inside) at (suc p) v h = inside_set ws inside (suc at) p v (omega arith)

take_set_in : (n : ℕ) (ws : List ℕ) (i v : ℕ) → take n (slice_set ws i v) ≡ slice_set (take n ws) i v
take_set_in zero ws i v = refl
take_set_in (suc n) [] i v = refl
take_set_in (suc n) (w ∷ ws) zero v = refl
take_set_in (suc n) (w ∷ ws) (suc i) v = ap (λ xs. w ∷ xs) (take_set_in n ws i v)

drop_one_set : (ws : List ℕ) (i v : ℕ) → drop 1 (slice_set ws (suc i) v) ≡ slice_set (drop 1 ws) i v
drop_one_set ws i v = grind (arith, common_steps)

set_past_take : (n : ℕ) (ws : List ℕ) (i v : ℕ) → n ≤ i → take n (slice_set ws i v) ≡ take n ws
set_past_take zero ws i v h = refl
set_past_take (suc n) [] i v h = refl
set_past_take (suc n) (w ∷ ws) zero v h = absurd (omega arith)
set_past_take (suc n) (w ∷ ws) (suc i) v h = ap (λ xs. w ∷ xs) (set_past_take n ws i v (omega arith))

abbrev pub BlockHasField : Option Block → ℕ → Type 0
BlockHasField None i = ⊥
BlockHasField (Some b) i = i < b.header.len

first_key : (bs : List (ℕ × Block)) (a low : ℕ) (i : ℕ) → AllByRecursion (λ b. low ≤ b.0) bs → BlockHasField (block_in bs a) i → low ≤ a
first_key [] a low i all h = absurd h
first_key (b ∷ bs) a low i all h = grind (arith, common_steps, cases_Bool, eqb-true, first_key bs a low i)

abbrev pred_of : ℕ → ℕ
pred_of zero = zero
pred_of (suc n) = n

suc_pred : (n : ℕ) → 0 < n → n ≡ suc (pred_of n)
suc_pred n h = grind (arith, common_steps)

fields_past : (h : Header) (ws : List ℕ) (p v : ℕ) → h.len < p → fields_in h (slice_set ws p v) ≡ fields_in h ws
fields_past h ws p v l = grind (arith, common_steps, drop_one_set, set_past_take)

-- a word that is written behind the first object
walk_behind : (x : ℕ) (ws : List ℕ) (at p v : ℕ) (h : Header) (rest : List (ℕ × Block)) → read_header x ≡ Some h → h.len + 1 ≤ length ws → h.len + 1 < p → walk true (h.len + 1) (suc at) (slice_set ws (pred_of p) v) ≡ Ok rest
    → Walked 0 at (slice_set (x ∷ ws) p v) ((at, record { header = h; fields = fields_in h ws }) ∷ rest)
walk_behind x ws at zero v h rest is room past e = absurd (omega arith)
walk_behind x ws at (suc p) v h rest is room past e =
    object_walked at x (slice_set ws p v) h rest is (omega (arith, length-set ws p v)) e ∙ ap (λ fields. Ok ((at, record { header = h; fields = fields }) ∷ rest)) (fields_past h ws p v (omega arith))

-- a field word: p counts from the first word here, and field i of the object at a is at a + 2 + i
pub walk_field : (ws : List ℕ) (inside at : ℕ) (bs : List (ℕ × Block)) (a i p v : ℕ) → at + p ≡ a + 2 + i → BlockHasField (block_in bs a) i → Walked inside at ws bs → Walked inside at (slice_set ws p v) (set_block bs a i v)
walk_field [] inside at [] a i p v e h w = absurd h
walk_field [] inside at (b ∷ bs) a i p v e h w = cc
walk_field (x ∷ ws) (suc inside) at bs a i zero v e h w =
    absurd (let low : suc at + inside ≤ a = first_key bs a (suc at + inside) i (starts_above ws inside (suc at) bs w) h in omega arith)
walk_field (x ∷ ws) (suc inside) at bs a i (suc p) v e h w = walk_field ws inside (suc at) bs a i p v (omega arith) h w
walk_field (x ∷ ws) zero at bs a i p v e h w =
    let f : First at ws bs (read_header x) = first at x ws bs w in
    let b : Block = record { header = f.0; fields = fields_in f.0 ws } in
    elim (cases_Bool (at == a)) [
      | inl here ↦ (let same : at ≡ a = eqb-true _ _ here in
          let two : p ≡ suc (suc i) = omega arith in
          let small : i < f.0.len = subst (λ t. BlockHasField (cond t (Some b) (block_in f.3 a)) i) here (subst (λ bs. BlockHasField (block_in bs a) i) f.5 h) in
          let fields : fields_in f.0 (slice_set ws (suc i) v) ≡ slice_set (fields_in f.0 ws) i v = ap (take f.0.len) (drop_one_set ws i v) ∙ take_set_in f.0.len (drop 1 ws) i v in
          let sized : length (slice_set ws (suc i) v) ≡ length ws = length-set ws (suc i) v in
          subst (λ p. Walked 0 at (slice_set (x ∷ ws) p v) (set_block bs a i v)) (sym two)
          (object_walked at x (slice_set ws (suc i) v) f.0 f.3 f.1 (let r : f.0.len + 1 ≤ length ws = f.2 in omega arith) (inside_set ws (f.0.len + 1) (suc at) (suc i) v (omega arith) ∙ f.4)
          ∙ (λ j. Ok ((at, record { header = f.0; fields = fields j }) ∷ f.3))
          ∙ sym (ap (λ t. Ok (cond t ((at, record { header = f.0; fields = slice_set (fields_in f.0 ws) i v }) ∷ f.3) ((at, b) ∷ set_block f.3 a i v))) here)
          ∙ ap (λ bs. Ok (set_block bs a i v)) (sym f.5)))
      | inr other ↦ (let later : BlockHasField (block_in f.3 a) i = subst (λ t. BlockHasField (cond t (Some b) (block_in f.3 a)) i) other (subst (λ bs. BlockHasField (block_in bs a) i) f.5 h) in
          let low : suc at + (f.0.len + 1) ≤ a = first_key f.3 a (suc at + (f.0.len + 1)) i (starts_above ws (f.0.len + 1) (suc at) f.3 f.4) later in
          let back : p ≡ suc (pred_of p) = suc_pred p (omega arith) in
          let ih : Walked (f.0.len + 1) (suc at) (slice_set ws (pred_of p) v) (set_block f.3 a i v) = walk_field ws (f.0.len + 1) (suc at) f.3 a i (pred_of p) v (omega arith) later f.4 in
          walk_behind x ws at p v f.0 (set_block f.3 a i v) f.1 f.2 (omega arith) ih
          ∙ sym (ap (λ t. Ok (cond t ((at, record { header = f.0; fields = slice_set (fields_in f.0 ws) i v }) ∷ f.3) ((at, b) ∷ set_block f.3 a i v))) other)
          ∙ ap (λ bs. Ok (set_block bs a i v)) (sym f.5))
    ]

-- ---- a link word

abbrev pub IsThere : Option Block → Type 0
IsThere None = ⊥
IsThere (Some b) = ⊤

start_key : (bs : List (ℕ × Block)) (a low : ℕ) → AllByRecursion (λ b. low ≤ b.0) bs → IsThere (block_in bs a) → low ≤ a
start_key [] a low all h = absurd h
start_key (b ∷ bs) a low all h = grind (arith, common_steps, cases_Bool, eqb-true, start_key bs a low)

fields_first : (h : Header) (ws : List ℕ) (v : ℕ) → fields_in h (slice_set ws 0 v) ≡ fields_in h ws
fields_first h ws v = grind (arith, common_steps)

pub walk_link : (ws : List ℕ) (inside at : ℕ) (bs : List (ℕ × Block)) (a p v : ℕ) → at + p ≡ a + 1 → IsThere (block_in bs a) → Walked inside at ws bs → Walked inside at (slice_set ws p v) bs
walk_link [] inside at [] a p v e h w = absurd h
walk_link [] inside at (b ∷ bs) a p v e h w = cc
walk_link (x ∷ ws) (suc inside) at bs a zero v e h w =
    absurd (let low : suc at + inside ≤ a = start_key bs a (suc at + inside) (starts_above ws inside (suc at) bs w) h in omega arith)
walk_link (x ∷ ws) (suc inside) at bs a (suc p) v e h w = walk_link ws inside (suc at) bs a p v (omega arith) h w
walk_link (x ∷ ws) zero at bs a p v e h w =
    let f : First at ws bs (read_header x) = first at x ws bs w in
    let b : Block = record { header = f.0; fields = fields_in f.0 ws } in
    elim (cases_Bool (at == a)) [
      | inl here ↦ (let same : at ≡ a = eqb-true _ _ here in
          let one : p ≡ suc zero = omega arith in
          let sized : length (slice_set ws 0 v) ≡ length ws = length-set ws 0 v in
          subst (λ p. Walked 0 at (slice_set (x ∷ ws) p v) bs) (sym one)
          (object_walked at x (slice_set ws 0 v) f.0 f.3 f.1 (let r : f.0.len + 1 ≤ length ws = f.2 in omega arith) (inside_set ws (f.0.len + 1) (suc at) 0 v (omega arith) ∙ f.4)
          ∙ (λ j. Ok ((at, record { header = f.0; fields = fields_first f.0 ws v j }) ∷ f.3))
          ∙ ap (λ bs. Ok bs) (sym f.5)))
      | inr other ↦ (let later : IsThere (block_in f.3 a) = subst (λ t. IsThere (cond t (Some b) (block_in f.3 a))) other (subst (λ bs. IsThere (block_in bs a)) f.5 h) in
          let low : suc at + (f.0.len + 1) ≤ a = start_key f.3 a (suc at + (f.0.len + 1)) (starts_above ws (f.0.len + 1) (suc at) f.3 f.4) later in
          let back : p ≡ suc (pred_of p) = suc_pred p (omega arith) in
          let ih : Walked (f.0.len + 1) (suc at) (slice_set ws (pred_of p) v) f.3 = walk_link ws (f.0.len + 1) (suc at) f.3 a (pred_of p) v (omega arith) later f.4 in
          walk_behind x ws at p v f.0 f.3 f.1 f.2 (omega arith) ih ∙ ap (λ bs. Ok bs) (sym f.5))
    ]

-- ---- in the graph

pub objects_set : (bs : List (ℕ × Block)) (a i v : ℕ) (b : Block) → block_in bs a ≡ Some b → map object_entry (set_block bs a i v) ≡ set_field (map object_entry bs) a i (field_value b.header v)
objects_set [] a i v b e = absurd (let no : None ≡ Some b = e in cc)
objects_set (x ∷ bs) a i v b e = grind (arith, common_steps, map-set, objects_set bs a i v b)
