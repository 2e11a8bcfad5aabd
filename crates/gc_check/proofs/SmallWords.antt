-- Small images mean the same if only words of small spaces are values: words, certificates and first faults.
use Rattle.std.proofs.lemmas.Grind.{common_steps}
use Rattle.std.proofs.Common.{◌≡◌, ◌⊎◌, inl, inr, ℕ, ◌/◌, ◌<◌, ◌≤◌, ◌==◌, true, false, cond, List, [], ◌∷◌, Option, Some, None, refl, sym, ap, subst, arith}
use Rattle.std.specs.List.{All, AllZip}
use Rattle.std.specs.Prelude.{◌↔◌, is_some, IsTrue, IsOk}
use Rattle.std.specs.Option.{option_map}
use Rattle.std.proofs.lemmas.Bool.{cases_Bool, cond-true, cond-false, or_cases, or_left, or_right, or_parts, ltb-true, leb-true, lt-ltb, ltb-false, ne_eqb, false_from_ne_true}
use Rattle.std.proofs.lemmas.List.Elements.{All-head, All-tail, All-weaker}
use Rattle.gc_graph.specs.Graph.{Value, Ref}
use Rattle.gc_graph.specs.Correspond.{paired}
use Rattle.gc_graph.proofs.Public.{paired_cases}
use Rattle.gc_words.specs.Word.{is_value_within, is_value, read_value_within, read_value, read_correspond, words_correspond}
use Rattle.gc_words.specs.Image.{Image, Block, IsShaped, walk_words, block_at, is_start}
use Rattle.gc_words.proofs.Public.{StandsIn, stands_in, same_walk, some_of, or_none, at_place_none}
use Rattle.gc_words.specs.Certificate.{BlocksCorrespond}
use Rattle.gc_words.specs.Fault.{◌or_else◌, shape_fault, first_over_pairs, place_faults, table_fault, first_difference, same_header, block_fault, object_faults, root_fault}
use Rattle.gc_words.specs.declared.refusal.Refusal.{Refusal}
use Rattle.gc_words.specs.declared.refusal.Refusal.TheVariants.{OldShape, NewShape, HeaderDiffers, FieldDiffers, RootDiffers}
use Rattle.gc_check.specs.Profile.{CertifiedSmall, small_shape_fault, first_small_fault, small_table_fault, small_words_correspond, SmallBlocksCorrespond, CertifiedAsSmall, small_block_fault, first_fault_as_small, MeanTheSame}
use Rattle.gc_check.proofs.Placements.{Fits, JoinsStarts, table_parts, all_join}

-- ---- words

-- a word is read alike in a small space and in any, or it is a reference that goes beyond a small one
abbrev Reads : ℕ → Type 0
Reads w = (read_value_within 1048576 w ≡ read_value w) ⊎ ((read_value_within 1048576 w ≡ None) × (read_value w ≡ Some (Ref (w / 2))) × (1048576 ≤ w / 2))

wider : (w : ℕ) → is_value_within 1048576 w ≡ true → is_value w ≡ true
wider w small = grind (arith, common_steps, or_cases, or_left, or_right, ltb-true, lt-ltb)

far : (w : ℕ) → is_value_within 1048576 w ≡ false → is_value w ≡ true → Reads w
far w large wide = grind (arith, common_steps, or_parts, ltb-false, ne_eqb, cond-false, cond-true)

reads : (w : ℕ) → Reads w
reads w = grind (arith, common_steps, cases_Bool, cond-true, wider, far, cond-false)

module _ (pairs : List (ℕ × ℕ)) (below : (a b : ℕ) → paired pairs a b ≡ true → (a < 1048576) × (b < 1048576)) where
  far_right : (o : Option Value) (b : ℕ) → 1048576 ≤ b → read_correspond pairs o (Some (Ref b)) ≡ false
  far_right o b high = grind (arith, common_steps, false_from_ne_true)

  same_words : (v w : ℕ) → small_words_correspond pairs v w ≡ words_correspond pairs v w
  same_words v w = grind (arith, common_steps, reads, false_from_ne_true, far_right)

-- ---- pairs

start_below : (image : Image) (a : ℕ) → IsShaped image → is_start image.words a ≡ true → a < image.size
start_below image a shaped start =
    let ok : IsOk (walk_words image.words) = subst IsOk (same_walk image.raws image.words shaped.walked) shaped.walked in
    let b : (b : Block) × (block_at image.words a ≡ Some b) = some_of (block_at image.words a) start in
    let stands : StandsIn image.words a b.0 = stands_in image.words a b.0 ok b.1 in
    omega (arith, stands.fits, shaped.count, shaped.end_high)

pairs_below : (old new : Image) (pairs : List (ℕ × ℕ)) → IsShaped old → IsShaped new → All (λ p. IsTrue (is_start old.words p.0) × IsTrue (is_start new.words p.1)) pairs
    → (a b : ℕ) → paired pairs a b ≡ true → (a < old.size) × (b < new.size)
pairs_below old new [] o n all a b e = absurd cc
pairs_below old new (p ∷ rest) o n all a b e = elim (paired_cases p rest a b e) [
  | inl here ↦ (let starts = All-head (λ p. IsTrue (is_start old.words p.0) × IsTrue (is_start new.words p.1)) p rest all in
      (subst (λ x. x < old.size) here.0 (start_below old p.0 o starts.0), subst (λ x. x < new.size) here.1 (start_below new p.1 n starts.1)))
  | inr later ↦ pairs_below old new rest o n (All-tail (λ p. IsTrue (is_start old.words p.0) × IsTrue (is_start new.words p.1)) p rest all) a b later
]

same_where_joined : (old new : Image) (pairs : List (ℕ × ℕ)) → IsShaped old → IsShaped new → old.size ≤ 1048576 → new.size ≤ 1048576 → All (JoinsStarts old new) pairs
    → small_words_correspond pairs ≡ words_correspond pairs
same_where_joined old new pairs o n small also starts =
    let below : (a b : ℕ) → paired pairs a b ≡ true → (a < 1048576) × (b < 1048576) =
    λ a b t. (let within = pairs_below old new pairs o n starts a b t in (omega (arith, within.0, small), omega (arith, within.1, also))) in
    λ i v w. same_words pairs below v w i

pub mean_the_same : (old new : Image) (pairs : List (ℕ × ℕ)) → MeanTheSame old new pairs
mean_the_same old new pairs o n small also placed = same_where_joined old new pairs o n small also placed.starts

-- ---- certificates

module _ (old new : Image) (pairs : List (ℕ × ℕ)) where
  abbrev Small : ℕ × ℕ → Type 0
  Small p = SmallBlocksCorrespond pairs (block_at old.words p.0) (block_at new.words p.1)

  abbrev Wide : ℕ × ℕ → Type 0
  Wide p = BlocksCorrespond pairs (block_at old.words p.0) (block_at new.words p.1)

  both_small : (o q : Option Block) → SmallBlocksCorrespond pairs o q → (is_some o ≡ true) × (is_some q ≡ true)
  both_small o q c = grind (arith, common_steps)

  both_wide : (o q : Option Block) → BlocksCorrespond pairs o q → (is_some o ≡ true) × (is_some q ≡ true)
  both_wide o q c = grind (arith, common_steps)

  widened : small_words_correspond pairs ≡ words_correspond pairs → (o q : Option Block) → SmallBlocksCorrespond pairs o q → BlocksCorrespond pairs o q
  widened e (Some a) (Some b) c = (c.0, subst (λ alike. AllZip (λ v w. IsTrue (cond a.header.raw (v == w) (alike v w))) a.fields b.fields) e c.1)
  widened e (Some a) None c = absurd c
  widened e None q c = absurd c

  narrowed : small_words_correspond pairs ≡ words_correspond pairs → (o q : Option Block) → BlocksCorrespond pairs o q → SmallBlocksCorrespond pairs o q
  narrowed e (Some a) (Some b) c = (c.0, subst (λ alike. AllZip (λ v w. IsTrue (cond a.header.raw (v == w) (alike v w))) a.fields b.fields) (sym e) c.1)
  narrowed e (Some a) None c = absurd c
  narrowed e None q c = absurd c

  pub certified_same : CertifiedAsSmall old new pairs ↔ CertifiedSmall old new pairs
  certified_same = (wide, small)
    where
      wide : CertifiedAsSmall old new pairs → CertifiedSmall old new pairs
      wide c =
          let starts : All (JoinsStarts old new) pairs = All-weaker Small (JoinsStarts old new) (λ p h. both_small _ _ h) pairs c.objects in
          let e : small_words_correspond pairs ≡ words_correspond pairs = same_where_joined old new pairs c.old_shaped c.new_shaped c.old_small c.new_small starts in
          record {
            old_small = c.old_small;
            new_small = c.new_small;
            certified = record {
              old_shaped = c.old_shaped;
              new_shaped = c.new_shaped;
              objects = All-weaker Small Wide (λ p h. widened e _ _ h) pairs c.objects;
              rising = c.rising;
              once = c.once;
              roots = subst (λ alike. AllZip (λ v w. IsTrue (alike v w)) old.roots new.roots) e c.roots;
            };
          }

      small : CertifiedSmall old new pairs → CertifiedAsSmall old new pairs
      small s =
          let c = s.certified in
          let e : small_words_correspond pairs ≡ words_correspond pairs = same_where_joined old new pairs c.old_shaped c.new_shaped s.old_small s.new_small (All-weaker Wide (JoinsStarts old new) (λ p h. both_wide _ _ h) pairs c.objects) in
          record {
            old_small = s.old_small;
            new_small = s.new_small;
            old_shaped = c.old_shaped;
            new_shaped = c.new_shaped;
            objects = All-weaker Wide Small (λ p h. narrowed e _ _ h) pairs c.objects;
            rising = c.rising;
            once = c.once;
            roots = subst (λ alike. AllZip (λ v w. IsTrue (alike v w)) old.roots new.roots) (sym e) c.roots;
          }

-- ---- first faults

-- an image without a fault is small and shaped
small_and_shaped : (image : Image) → small_shape_fault image ≡ None → (image.size ≤ 1048576) × (shape_fault image ≡ None)
small_and_shaped image e = grind (arith, common_steps, leb-true)

module _ (old new : Image) (pairs : List (ℕ × ℕ)) where
  same_block_fault : small_words_correspond pairs ≡ words_correspond pairs → (k : ℕ) (o q : Option Block) → small_block_fault pairs k o q ≡ block_fault pairs k o q
  same_block_fault e k (Some a) (Some b) =
      ap (λ alike. cond (same_header a.header b.header) (option_map (λ i. FieldDiffers k i) (first_difference (λ v w. cond a.header.raw (v == w) (alike v w)) 0 a.fields b.fields)) (Some (HeaderDiffers k))) e
  same_block_fault e k (Some a) None = refl
  same_block_fault e k None b = refl

  abbrev small_objects : Option Refusal
  small_objects = first_over_pairs (λ k p. small_block_fault pairs k (block_at old.words p.0) (block_at new.words p.1)) 0 pairs

  abbrev small_roots : Option Refusal
  small_roots = option_map (λ slot. RootDiffers slot) (first_difference (small_words_correspond pairs) 0 old.roots new.roots)

  same_rest : small_words_correspond pairs ≡ words_correspond pairs → (small_objects or_else small_roots) ≡ (object_faults old new pairs or_else root_fault old new pairs)
  same_rest e = λ i. first_over_pairs (λ k p. same_block_fault e k (block_at old.words p.0) (block_at new.words p.1) i) 0 pairs or_else option_map (λ slot. RootDiffers slot) (first_difference (e i) 0 old.roots new.roots)

  no_table_fault : small_table_fault old new pairs ≡ None → small_words_correspond pairs ≡ words_correspond pairs
  no_table_fault e =
      let tables : ((option_map (λ at. OldShape at) (small_shape_fault old) or_else option_map (λ at. NewShape at) (small_shape_fault new)) ≡ None) × (table_fault old new pairs ≡ None) = or_none _ _ e in
      let shapes : (option_map (λ at. OldShape at) (small_shape_fault old) ≡ None) × (option_map (λ at. NewShape at) (small_shape_fault new) ≡ None) = or_none _ _ tables.0 in
      let first = small_and_shaped old (at_place_none (small_shape_fault old) (λ at. OldShape at) shapes.0) in
      let second = small_and_shaped new (at_place_none (small_shape_fault new) (λ at. NewShape at) shapes.1) in
      let parts : Fits old new × (place_faults old new pairs ≡ None) = table_parts old new pairs tables.1 in
      same_where_joined old new pairs parts.0.old_shaped parts.0.new_shaped first.0 second.0 (λ j d inside. all_join old new pairs pairs 0 j d parts.1 inside)

  pub fault_same : first_fault_as_small old new pairs ≡ first_small_fault old new pairs
  fault_same = grind (arith, common_steps, same_rest, no_table_fault)
