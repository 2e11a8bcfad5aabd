-- Where all is seen, the certificate holds.
use Rattle.std.proofs.lemmas.Grind.{common_steps}
use Rattle.std.proofs.Common.{◌≡◌, ⊎_elim, ℕ, zero, suc, ◌+◌, ◌==◌, Bool, true, false, get_or, List, [], ◌∷◌, length, take, Option, Some, None, IsTrue, refl, sym, ◌∙◌, ap, subst, arith}
use Rattle.std.specs.Prelude.{slice_get}
use Rattle.std.specs.List.{AllZip, sum_by, list_all}
use Rattle.std.proofs.lemmas.Bool.{eq-eqb}
use Rattle.std.proofs.lemmas.List.Folds.{sum_by-zero}
use Rattle.std.proofs.lemmas.List.Sums.{sum_by-append}
use Rattle.std.proofs.lemmas.List.{take_all}
use Rattle.std.proofs.lemmas.List.Elements.{All-weaker}
use Rattle.gc_words.specs.Word.{field_words_correspond}
use Rattle.gc_words.specs.Image.{Image, Block, HasShape, IsShaped, block_at}
use Rattle.gc_words.specs.Certificate.{BlocksCorrespond, Certified}
use Rattle.gc_words.proofs.Public.{stands_in}
use Rattle.gc_monitor.specs.Outline.{outline_of}
use Rattle.gc_monitor.specs.Watch.{Watch, IsSeen, IsWatched, Watches, IsSized, RootsCorrespond, is_due, is_due_at, seen_at}
use Rattle.gc_monitor.specs.Internal.Watch.{HasSeenAll, bit, due_count}

pub all_of : (n : ℕ) (words : List ℕ) → n ≡ length words → take n words ≡ words
all_of n words e = take_all n words (omega arith)

shape_of : (n : ℕ) (words : List ℕ) → IsSeen n words → n ≡ length words → HasShape true 4294967295 (length words) words
shape_of n words seen e = subst (λ ws. HasShape true 4294967295 (length ws) ws) (all_of n words e) seen.space

shaped_of : (n : ℕ) (image : Image) → IsSeen n image.words → n ≡ length image.words → IsSized (outline_of image) → IsShaped image
shaped_of n image seen e sized = grind (arith, common_steps, shape_of)

none_in : (ds : List Bool) → list_all (λ d. bit d == 0) ds ≡ true → (place : ℕ) → get_or ds place false ≡ false
none_in [] h place = refl
none_in (true ∷ ds) h place = absurd (let no : false ≡ true = h in cc)
none_in (false ∷ ds) h zero = refl
none_in (false ∷ ds) h (suc place) = none_in ds h place

all_in : (ds : List Bool) → ((place : ℕ) → get_or ds place false ≡ false) → sum_by bit ds ≡ 0
all_in [] h = refl
all_in (true ∷ ds) h = absurd (let no : true ≡ false = h 0 in cc)
all_in (false ∷ ds) h = sum_by-append bit (false ∷ []) ds ∙ ap (λ n. 0 + n) (all_in ds (λ place. h (suc place)))

pub all_done : (w : Watch) → ((place : ℕ) → is_due_at w place ≡ false) → due_count w ≡ 0
all_done w h = all_in w.due h

-- fields of which none is due
zip : (R : ℕ → ℕ → Type 0) (vs us : List ℕ) → length vs ≡ length us → ((i v u : ℕ) → slice_get vs i ≡ Some v → slice_get us i ≡ Some u → R v u) → AllZip R vs us
zip R [] [] len h = tt
zip R [] (u ∷ us) len h = absurd (omega arith)
zip R (v ∷ vs) [] len h = absurd (omega arith)
zip R (v ∷ vs) (u ∷ us) len h = (h 0 v u refl refl, zip R vs us (omega arith) (λ i x y k l. h (suc i) x y k l))

alike : (w : Watch) (b : ℕ) (o q : Option Block) → ((i : ℕ) → is_due w b i ≡ false)
    → ((x : Block) → o ≡ Some x → length x.fields ≡ x.header.len) → ((y : Block) → q ≡ Some y → length y.fields ≡ y.header.len)
    → IsWatched w b o q → BlocksCorrespond w.pairs o q
alike w b (Some x) (Some y) none f g h =
    let m : length x.fields ≡ x.header.len = f x refl in
    let n : length y.fields ≡ y.header.len = g y refl in
    let same : x.header.len ≡ y.header.len = ap (λ (d : Rattle.gc_words.specs.declared.header.Header.Header). d.len) h.0 in (
      h.0,
      zip (λ v u. IsTrue (field_words_correspond x.header w.pairs v u)) x.fields y.fields (omega arith)
          (λ i v u k l. ⊎_elim (λ d. absurd (let no : true ≡ false = sym d ∙ none i in cc)) (λ c. c) (h.1 i v u k l)),
    )
alike w b (Some x) None none f g h = absurd h
alike w b None q none f g h = absurd h

pub certified : (old new : Image) (w : Watch) → Watches old.words new.words w → HasSeenAll old.words new.words w → IsSized (outline_of old) → IsSized (outline_of new) → RootsCorrespond w.pairs old.roots new.roots → Certified old new w.pairs
certified old new w h all old_sized new_sized roots =
    let old_is = all_of w.old_seen old.words all.old_seen in
    let new_is = all_of w.new_seen new.words all.new_seen in
    record {
      old_shaped = shaped_of w.old_seen old h.old_seen all.old_seen old_sized;
      new_shaped = shaped_of w.new_seen new h.new_seen all.new_seen new_sized;
      objects = All-weaker
          (λ (p : ℕ × ℕ). IsWatched w p.1 (seen_at w.old_seen old.words p.0) (seen_at w.new_seen new.words p.1))
          (λ (p : ℕ × ℕ). BlocksCorrespond w.pairs (block_at old.words p.0) (block_at new.words p.1))
          (λ p k. alike w p.1 (block_at old.words p.0) (block_at new.words p.1) (λ i. none_in w.due (sym (sum_by-zero bit w.due) ∙ eq-eqb (sum_by bit w.due) 0 all.none_due) _)
          (λ x e. (stands_in old.words p.0 x (shape_of w.old_seen old.words h.old_seen all.old_seen).walked e).whole.fields)
          (λ y e. (stands_in new.words p.1 y (shape_of w.new_seen new.words h.new_seen all.new_seen).walked e).whole.fields)
          (subst (λ ws. IsWatched w p.1 (block_at old.words p.0) (block_at ws p.1)) new_is (subst (λ ws. IsWatched w p.1 (block_at ws p.0) (seen_at w.new_seen new.words p.1)) old_is k)))
          w.pairs h.pairs;
      rising = h.rising;
      once = h.once;
      roots = roots;
    }
