-- What a flip prepares before anything changes.
use Rattle.std.specs.Prelude.{◌≡◌, ◌⊎◌, ◌<◌, ◌^◌, ℕ, List, length, map, Bool, IsTrue, IsFalse}
use Rattle.gc_words.specs.Space.{image_with}
use Rattle.gc_words.specs.Views.{addresses}
use Rattle.gc_cert.specs.Views.{image_in}
use Rattle.gc_cert.specs.declared.image.Image.{Image}
use Rattle.gc_heap.specs.Heap.{HeapWords}
use Rattle.gc_model.specs.State.{pairs_of}
use Rattle.gc_copy.specs.Words.{CollectionWords, collection_in, new_root_words, open_state}
use Rattle.gc_roots.specs.Twins.{RootRow, SlotsAreTwins}
use Rattle.gc_collected.specs.declared.flip.Draft.{Draft}
use Rattle.gc_collected.specs.declared.flip.Approved.{Approved}
use Rattle.gc_collected.specs.declared.flip.Approved.TheVariants.{Along, Whole, Pair}
use Rattle.gc_collected.specs.declared.flip.Keep.{Keep}
use Rattle.gc_collected.specs.declared.flip.Keep.TheVariants as keeps
use Rattle.gc_model.specs.declared.step.StepReply.{StepReply}
use Rattle.gc_model.specs.declared.step.StepReply.TheVariants.{NotReady, Refused}

-- the collection's pairs, and the moved roots
pub record IsDraft (heap : HeapWords) (c : CollectionWords) (draft : Draft) : Type 0 where
  pub pairs : map addresses draft.pairs.items ≡ pairs_of (collection_in c)
  pub roots : draft.roots.items ≡ new_root_words heap (collection_in c)

-- the image of the new space with these roots
abbrev pub IsNewImage : CollectionWords → List ℕ → Image → Type 0
IsNewImage c moved image = image_in image ≡ image_with c.space moved

-- what was approved is the flip of this collection, by the heap's own row of twins or by a draft
abbrev pub IsFlipOf : HeapWords → CollectionWords → RootRow → Approved → Type 0
IsFlipOf heap c row Along = SlotsAreTwins row (open_state heap c) (collection_in c)
IsFlipOf heap c row (Whole draft) = IsDraft heap c draft
IsFlipOf heap c row (Pair draft copy) = IsDraft heap c draft × IsNewImage c draft.roots.items copy × (c.epoch ≡ 0) × (length draft.pairs.items < 2 ^ 32)

-- what it keeps of the old space
abbrev pub keep_in : Approved → Keep
keep_in Along = keeps.Room
keep_in (Whole draft) = keeps.Room
keep_in (Pair draft copy) = keeps.Pair

-- the words that a flip rests on: of the one checker, or of the other one
abbrev pub AsAsked : Bool → Type 0 → Type 0 → Type 0
AsAsked whole said accepted = (IsTrue whole → said) × (IsFalse whole → accepted)

-- why there is no flip: the collection is not ready, or it is, and the standing checker is not sure and refuses
abbrev pub IsNoFlip : Bool → Bool → Type 0 → StepReply → Type 0
IsNoFlip whole ready sure reply = ((reply ≡ NotReady) × IsFalse ready) ⊎ ((reply ≡ Refused) × IsFalse whole × IsTrue ready × (sure → ⊥))
