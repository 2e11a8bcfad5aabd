-- A walk over both images finds only pairs that every certificate has, and in the end all references have met.
use Rattle.std.specs.Option.{option_map}
use Rattle.std.proofs.lemmas.Option.{slice_get-map}
use Rattle.std.proofs.lemmas.Grind.{common_steps}
use Rattle.std.proofs.Common.{◌≡◌, ℕ, suc, ◌+◌, ◌<◌, Bool, true, false, cond, not, ◌&&◌, ◌==◌, List, [], ◌∷◌, ◌++◌, length, map, Option, Some, None, refl, sym, ◌∙◌, ap, subst, arith}
use Rattle.std.specs.Prelude.{slice_get, slice_index_or, IsTrue}
use Rattle.std.specs.List.{All, AllZip}
use Rattle.std.proofs.lemmas.Bool.{eq-eqb, cases_order, cases_Bool, and_parts, and_from, or_right}
use Rattle.std.proofs.lemmas.List.{append-nil, append_assoc, get_or_append_left}
use Rattle.std.proofs.lemmas.List.Elements.{All-push, All-nil}
use Rattle.std.proofs.lemmas.List.Folds.{list_any-append}
use Rattle.gc_graph.specs.Graph.{Value, Ref, Object, lookup, object_of, field_of, follow, at_path}
use Rattle.gc_graph.specs.Correspond.{paired}
use Rattle.gc_words.specs.Word.{value_of, read_value, read_correspond, words_correspond, field_words_correspond}
use Rattle.gc_words.specs.Image.{Image, Block, is_start, block_at, graph_of}
use Rattle.gc_words.specs.Certificate.{BlocksCorrespond, Certified}
use Rattle.gc_words.specs.Fault.{same_header}
use Rattle.gc_words.specs.declared.header.Header.{Header}
use Rattle.gc_words.proofs.Public.{same_header_of, header_same, object_option, lookup_of_blocks, place_of}
use Rattle.gc_check.specs.Infer.{Together, AreTogether}
use Rattle.gc_check.specs.Pairs.{pair_at}
use Rattle.gc_check.specs.Internal.Meetings.{is_free, met, met_all, met_blocks, met_objects, HaveMet, AllMet, BlocksMet, ObjectsMet, MetTo}
use Rattle.gc_check.proofs.Meetings.{free_parts}

-- ---- what is kept when words meet

module _ (old new : Image) (P : List (ℕ × ℕ) → Type 0) where
  -- what each new pair keeps
  abbrev Step : (ℕ → ℕ → Type 0) → Type 0
  Step R = (pairs : List (ℕ × ℕ)) (v w a b : ℕ) → R v w → read_value v ≡ Some (Ref a) → read_value w ≡ Some (Ref b) → is_free old new pairs a b ≡ true → P pairs → P (pairs ++ (a, b) ∷ [])

  met_keeps : (R : ℕ → ℕ → Type 0) → Step R → (pairs : List (ℕ × ℕ)) (v w : ℕ) → R v w → P pairs → P (met old new pairs v w)
  met_keeps R step pairs v w r p = grind (arith, common_steps, cases_Bool)

  met_all_keeps : (R : ℕ → ℕ → Type 0) → Step R → (pairs : List (ℕ × ℕ)) (vs ws : List ℕ) → AllZip R vs ws → P pairs → P (met_all old new pairs vs ws)
  met_all_keeps R step pairs [] ws z p = p
  met_all_keeps R step pairs (v ∷ vs) [] z p = p
  met_all_keeps R step pairs (v ∷ vs) (w ∷ ws) z p = met_all_keeps R step (met old new pairs v w) vs ws z.1 (met_keeps R step pairs v w z.0 p)

  met_all_keeps_free : Step (λ v w. ℕ) → (pairs : List (ℕ × ℕ)) (vs ws : List ℕ) → P pairs → P (met_all old new pairs vs ws)
  met_all_keeps_free step pairs [] ws p = p
  met_all_keeps_free step pairs (v ∷ vs) [] p = p
  met_all_keeps_free step pairs (v ∷ vs) (w ∷ ws) p = met_all_keeps_free step (met old new pairs v w) vs ws (met_keeps (λ v w. ℕ) step pairs v w 0 p)

-- ---- pairs are only added

abbrev pub Grows : List (ℕ × ℕ) → List (ℕ × ℕ) → Type 0
Grows before after = (more : List (ℕ × ℕ)) × (after ≡ before ++ more)

grows_none : (pairs : List (ℕ × ℕ)) → Grows pairs pairs
grows_none pairs = ([], sym (append-nil pairs))

grows_push : (before after : List (ℕ × ℕ)) (p : ℕ × ℕ) → Grows before after → Grows before (after ++ p ∷ [])
grows_push before after p g = (g.0 ++ p ∷ [], ap (λ t. t ++ p ∷ []) g.1 ∙ append_assoc before g.0 (p ∷ []))

pub met_all_grows : (old new : Image) (pairs : List (ℕ × ℕ)) (vs ws : List ℕ) → Grows pairs (met_all old new pairs vs ws)
met_all_grows old new pairs vs ws = met_all_keeps_free old new (Grows pairs) (λ now v w a b r e f free g. grows_push pairs now (a, b) g) pairs vs ws (grows_none pairs)

-- ---- words that have met

met_stays : (old new : Image) (before after : List (ℕ × ℕ)) (v w : ℕ) → Grows before after → HaveMet old new before v w → HaveMet old new after v w
met_stays old new before after v w g h = λ a b e f. grind (arith, common_steps, cases_Bool, free_parts, list_any-append, and_from)

all_met_stays : (old new : Image) (before after : List (ℕ × ℕ)) (vs ws : List ℕ) → Grows before after → AllMet old new before vs ws → AllMet old new after vs ws
all_met_stays old new before after [] ws g h = tt
all_met_stays old new before after (v ∷ vs) [] g h = tt
all_met_stays old new before after (v ∷ vs) (w ∷ ws) g h = (met_stays old new before after v w g h.0, all_met_stays old new before after vs ws g h.1)

words_met : (old new : Image) (pairs : List (ℕ × ℕ)) (v w : ℕ) → HaveMet old new (met old new pairs v w) v w
words_met old new pairs v w = grind (arith, common_steps, cases_Bool, free_parts, list_any-append, eq-eqb, or_right)

met_all_met : (old new : Image) (pairs : List (ℕ × ℕ)) (vs ws : List ℕ) → AllMet old new (met_all old new pairs vs ws) vs ws
met_all_met old new pairs [] ws = tt
met_all_met old new pairs (v ∷ vs) [] = tt
met_all_met old new pairs (v ∷ vs) (w ∷ ws) =
    let now : List (ℕ × ℕ) = met old new pairs v w in
    (met_stays old new now (met_all old new now vs ws) v w (met_all_grows old new now vs ws) (words_met old new pairs v w), met_all_met old new now vs ws)

-- ---- pairs join starts

abbrev JoinStarts : Image → Image → List (ℕ × ℕ) → Type 0
JoinStarts old new pairs = All (λ p. IsTrue (is_start old.words p.0) × IsTrue (is_start new.words p.1)) pairs

met_all_starts : (old new : Image) (pairs : List (ℕ × ℕ)) (vs ws : List ℕ) → JoinStarts old new pairs → JoinStarts old new (met_all old new pairs vs ws)
met_all_starts old new pairs vs ws h = met_all_keeps_free old new (JoinStarts old new)
    (λ now v w a b r e f free g. All-push (λ p. IsTrue (is_start old.words p.0) × IsTrue (is_start new.words p.1)) now (a, b) g ((free_parts old new now a b free).old_start, (free_parts old new now a b free).new_start)) pairs vs ws h

-- ---- pairs are forced

abbrev pub AreIn : List (ℕ × ℕ) → List (ℕ × ℕ) → Type 0
AreIn cert pairs = All (λ p. IsTrue (paired cert p.0 p.1)) pairs

met_all_forced : (old new : Image) (cert pairs : List (ℕ × ℕ)) (vs ws : List ℕ) → AllZip (λ v w. words_correspond cert v w ≡ true) vs ws → AreIn cert pairs → AreIn cert (met_all old new pairs vs ws)
met_all_forced old new cert pairs vs ws z h = met_all_keeps old new (AreIn cert) (λ v w. words_correspond cert v w ≡ true)
    (λ now v w a b r e f free g. All-push (λ p. IsTrue (paired cert p.0 p.1)) now (a, b) g ((λ i. read_correspond cert (sym e i) (sym f i)) ∙ r)) pairs vs ws z h

pub paired_objects : (old new : Image) (cert : List (ℕ × ℕ)) (a b : ℕ) → Certified old new cert → paired cert a b ≡ true → BlocksCorrespond cert (block_at old.words a) (block_at new.words b)
paired_objects old new cert a b certified e =
    let k : (k : ℕ) × (k < length cert) × ((d : ℕ × ℕ) → slice_index_or cert k d ≡ (a, b)) = place_of cert a b e in
    subst (λ (p : ℕ × ℕ). BlocksCorrespond cert (block_at old.words p.0) (block_at new.words p.1)) (k.2 (a, b)) (certified.objects k.0 (a, b) k.1)

-- the fields of objects that are not raw correspond as values
fields_as_values : (h : Header) (pairs : List (ℕ × ℕ)) (vs ws : List ℕ) → h.raw ≡ false → AllZip (λ v w. field_words_correspond h pairs v w ≡ true) vs ws → AllZip (λ v w. words_correspond pairs v w ≡ true) vs ws
fields_as_values h pairs vs ws e z = subst (λ b. AllZip (λ v w. cond b (v == w) (words_correspond pairs v w) ≡ true) vs ws) e z

not_true : (b : Bool) → not b ≡ true → b ≡ false
not_true b e = grind (arith, common_steps)

-- either the fields have met, or the headers differ or the objects are raw
blocks_cases : (old new : Image) (P : List (ℕ × ℕ) → Type 0) (pairs : List (ℕ × ℕ)) (a b : Block)
    → ((same_header a.header b.header && not a.header.raw) ≡ true → P (met_all old new pairs a.fields b.fields))
    → ((same_header a.header b.header && not a.header.raw) ≡ false → P pairs)
    → P (met_blocks old new pairs (Some a) (Some b))
blocks_cases old new P pairs a b alike other = grind (arith, common_steps, cases_Bool)

pub met_blocks_grow : (old new : Image) (pairs : List (ℕ × ℕ)) (o q : Option Block) → Grows pairs (met_blocks old new pairs o q)
met_blocks_grow old new pairs (Some a) (Some b) = blocks_cases old new (Grows pairs) pairs a b (λ e. met_all_grows old new pairs a.fields b.fields) (λ e. grows_none pairs)
met_blocks_grow old new pairs (Some a) None = grows_none pairs
met_blocks_grow old new pairs None q = grows_none pairs

met_blocks_starts : (old new : Image) (pairs : List (ℕ × ℕ)) (o q : Option Block) → JoinStarts old new pairs → JoinStarts old new (met_blocks old new pairs o q)
met_blocks_starts old new pairs (Some a) (Some b) h = blocks_cases old new (JoinStarts old new) pairs a b (λ e. met_all_starts old new pairs a.fields b.fields h) (λ e. h)
met_blocks_starts old new pairs (Some a) None h = h
met_blocks_starts old new pairs None q h = h

met_blocks_forced : (old new : Image) (cert pairs : List (ℕ × ℕ)) (o q : Option Block) → BlocksCorrespond cert o q → AreIn cert pairs → AreIn cert (met_blocks old new pairs o q)
met_blocks_forced old new cert pairs (Some a) (Some b) c h = blocks_cases old new (AreIn cert) pairs a b
    (λ e. met_all_forced old new cert pairs a.fields b.fields (fields_as_values a.header cert a.fields b.fields (not_true _ (and_parts (same_header a.header b.header) _ e).1) c.1) h) (λ e. h)
met_blocks_forced old new cert pairs (Some a) None c h = h
met_blocks_forced old new cert pairs None q c h = h

met_blocks_met : (old new : Image) (pairs : List (ℕ × ℕ)) (o q : Option Block) → BlocksMet old new (met_blocks old new pairs o q) o q
met_blocks_met old new pairs o q = grind (arith, common_steps, and_from, same_header_of, met_all_met)

-- ---- the same path finds both

pub follow_nil : (objects : List (ℕ × Object)) (o : Option Value) → follow objects o [] ≡ o
follow_nil objects o = grind (arith, common_steps)

follow_push : (objects : List (ℕ × Object)) (fields : List ℕ) (o : Option Value) (a i : ℕ) → follow objects o fields ≡ Some (Ref a) → follow objects o (fields ++ i ∷ []) ≡ field_of (lookup objects a) i
follow_push objects fields None a i e = absurd (let no : None ≡ Some (Ref a) = e in cc)
follow_push objects [] (Some v) a i e =
    let is : v ≡ Ref a = (let same : Some v ≡ Some (Ref a) = e in cc) in
    follow_nil objects (field_of (object_of objects v) i) ∙ ap (λ v. field_of (object_of objects v) i) is
follow_push objects (j ∷ fields) (Some v) a i e = follow_push objects fields (field_of (object_of objects v) j) a i e

get_map : (f : ℕ → Value) (xs : List ℕ) (i x : ℕ) → slice_get xs i ≡ Some x → slice_get (map f xs) i ≡ Some (f x)
get_map f xs i x e = slice_get-map f xs i ∙ ap (option_map f) e

-- some path finds the values of both words
abbrev SamePath : Image → Image → ℕ → ℕ → Type 0
SamePath old new v w = (place : ℕ) × (fields : List ℕ) × (at_path (graph_of old) place fields ≡ Some (value_of v)) × (at_path (graph_of new) place fields ≡ Some (value_of w))

same_path : (old new : Image) (v w a b : ℕ) → SamePath old new v w → read_value v ≡ Some (Ref a) → read_value w ≡ Some (Ref b) → Together old new a b
same_path old new v w a b s e f = grind (arith, common_steps)

met_all_together : (old new : Image) (pairs : List (ℕ × ℕ)) (vs ws : List ℕ) → ((i v w : ℕ) → slice_get vs i ≡ Some v → slice_get ws i ≡ Some w → SamePath old new v w) → AreTogether old new pairs → AreTogether old new (met_all old new pairs vs ws)
met_all_together old new pairs [] ws same h = h
met_all_together old new pairs (v ∷ vs) [] same h = h
met_all_together old new pairs (v ∷ vs) (w ∷ ws) same h =
    met_all_together old new (met old new pairs v w) vs ws (λ i x y e f. same (suc i) x y e f)
    (met_keeps old new (AreTogether old new) (SamePath old new)
    (λ now x y a b r e f free g. All-push (λ p. Together old new p.0 p.1) now (a, b) g (same_path old new x y a b r e f)) pairs v w (same 0 v w refl refl) h)

roots_together : (old new : Image) → AreTogether old new (met_all old new [] old.roots new.roots)
roots_together old new = met_all_together old new [] old.roots new.roots
    (λ i v w e f. (i, [], follow_nil (graph_of old).objects _ ∙ get_map value_of old.roots i v e, follow_nil (graph_of new).objects _ ∙ get_map value_of new.roots i w f)) (All-nil (λ p. Together old new p.0 p.1))

field_found : (image : Image) (a i v : ℕ) (b : Block) → block_at image.words a ≡ Some b → b.header.raw ≡ false → slice_get b.fields i ≡ Some v → field_of (lookup (graph_of image).objects a) i ≡ Some (value_of v)
field_found image a i v b e raw g = grind (arith, common_steps, lookup_of_blocks, object_option, get_map)

met_blocks_together : (old new : Image) (pairs : List (ℕ × ℕ)) (p : ℕ × ℕ) (o q : Option Block) → block_at old.words p.0 ≡ o → block_at new.words p.1 ≡ q → Together old new p.0 p.1 → AreTogether old new pairs → AreTogether old new (met_blocks old new pairs o q)
met_blocks_together old new pairs p (Some a) (Some b) eo eq t h = blocks_cases old new (AreTogether old new) pairs a b
    (λ e. let parts : (same_header a.header b.header ≡ true) × (not a.header.raw ≡ true) = and_parts (same_header a.header b.header) _ e in
    let raw : a.header.raw ≡ false = not_true _ parts.1 in
    let same : a.header ≡ b.header = header_same a.header b.header parts.0 in
    let raw' : b.header.raw ≡ false = ap (λ (h : Header). h.raw) (sym same) ∙ raw in
    met_all_together old new pairs a.fields b.fields
    (λ i v w f g. (
      t.0,
      t.1 ++ i ∷ [],
      follow_push (graph_of old).objects t.1 (slice_get (graph_of old).roots t.0) p.0 i t.2 ∙ field_found old p.0 i v a eo raw f,
      follow_push (graph_of new).objects t.1 (slice_get (graph_of new).roots t.0) p.1 i t.3 ∙ field_found new p.1 i w b eq raw' g,
    )) h)
    (λ e. h)
met_blocks_together old new pairs p (Some a) None eo eq t h = h
met_blocks_together old new pairs p None q eo eq t h = h

-- ---- the walk

pub roots_met : (old new : Image) → MetTo old new (met_all old new [] old.roots new.roots) 0
roots_met old new = record {
  starts = met_all_starts old new [] old.roots new.roots (All-nil (λ p. IsTrue (is_start old.words p.0) × IsTrue (is_start new.words p.1)));
  forced = λ cert certified. met_all_forced old new cert [] old.roots new.roots certified.roots (All-nil (λ p. IsTrue (paired cert p.0 p.1)));
  together = roots_together old new;
  roots = met_all_met old new [] old.roots new.roots;
  objects = λ k h l. absurd (omega (arith, h));
}

pub objects_met : (old new : Image) (pairs : List (ℕ × ℕ)) (done : ℕ) → done < length pairs → MetTo old new pairs done → MetTo old new (met_objects old new pairs (pair_at pairs done)) (done + 1)
objects_met old new pairs done inside m = record {
  starts = met_blocks_starts old new pairs (block_at old.words p.0) (block_at new.words p.1) m.starts;
  forced = λ cert certified. met_blocks_forced old new cert pairs (block_at old.words p.0) (block_at new.words p.1) (paired_objects old new cert p.0 p.1 certified (m.forced cert certified done (0, 0) inside)) (m.forced cert certified);
  together = met_blocks_together old new pairs p (block_at old.words p.0) (block_at new.words p.1) refl refl (m.together done (0, 0) inside) m.together;
  roots = all_met_stays old new pairs now old.roots new.roots grows m.roots;
  objects = objects;
}
  where
    p : ℕ × ℕ
    p = pair_at pairs done

    now : List (ℕ × ℕ)
    now = met_objects old new pairs p

    grows : Grows pairs now
    grows = met_blocks_grow old new pairs (block_at old.words p.0) (block_at new.words p.1)

    objects : (k : ℕ) → k < done + 1 → k < length now → ObjectsMet old new now (pair_at now k)
    objects k h l = grind (arith, common_steps, now, get_or_append_left, grows, cases_order, met_blocks_met, p, all_met_stays)
