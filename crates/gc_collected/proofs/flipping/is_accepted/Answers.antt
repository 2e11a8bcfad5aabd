-- The images of the words have the outlines of the model's images, because an outline does not depend on links.
use Rattle.std.proofs.Common.{◌≡◌, ◌++◌, ◌-◌, ℕ, List, take, replicate, length, sym, ◌∙◌, ap, subst}
use Rattle.std.proofs.lemmas.List.{take-append-drop}
use Rattle.gc_words.specs.Image.{Image}
use Rattle.gc_words.specs.Space.{SpaceWords, image_with}
use Rattle.gc_heap.specs.Heap.{HeapWords}
use Rattle.gc_model.specs.State.{Collection}
use Rattle.gc_model.specs.Linked.{old_links, old_image, new_image}
use Rattle.gc_copy.specs.Words.{AreMoved, collection_in, open_state}
use Rattle.gc_monitor.specs.Outline.{ImageOutline, outline_of, outline_in}
use Rattle.gc_collected.proofs.Shown.{same_outline}
use Rattle.gc_collected.proofs.flipping.is_accepted.Given as given
use Rattle.gc_collected.proofs.flipping.is_accepted.Goals as goal
use Rattle.gc_collected.proofs.flipping.is_accepted.Goals.{After-accepts}

-- an image with nils behind its roots
abbrev with_nils : ℕ → Image → Image
with_nils n image = record image { roots = image.roots ++ replicate n 0 }

-- the first roots, and the nils behind them, are all roots
all_roots : (heap : HeapWords) (c : Collection) (roots all : List ℕ) → AreMoved roots heap c → all ≡ heap.roots → take (length roots) all ++ replicate (length all - length roots) 0 ≡ heap.roots
all_roots heap c roots all is same =
    ap (λ ws. take (length roots) ws ++ replicate (length ws - length roots) 0) same
    ∙ ap (λ ws. take (length roots) heap.roots ++ ws) (sym is.nils)
    ∙ take-append-drop (length roots) heap.roots

-- the mutators' space has the old image's outline
old : (g : given.Over) (c : After-accepts g) → outline_in c.with_nils-old.result ≡ outline_of (old_image (open_state c.args.heap.now c.args.collection.now) (collection_in c.args.collection.now))
old g c =
    let heap = c.args.heap.now in
    let now = collection_in c.args.collection.now in
    let count = length c.args.roots.now in
    let nils = length c.roots-all.result.now - count in
    let image = c.image.ensures.value ∙ ap (λ (s : SpaceWords). image_with s (take count c.roots-all.result.now)) c.space.ensures.value in
    let roots = all_roots heap now c.args.roots.now c.roots-all.result.now c.requires.roots c.roots-all.ensures.value in
    c.with_nils-old.ensures ∙ ap (λ (image : Image). outline_of (with_nils nils image)) image ∙ ap (λ (ws : List ℕ). outline_of (image_with heap.space ws)) roots
    ∙ same_outline heap c.roots-all.ensures.sound (old_links now) (c.heaps_have_addresses_as_names.ensures.image heap c.roots-all.ensures.sound)

-- the new space has the new image's
new : (g : given.Over) (c : After-accepts g) → outline_in c.with_nils-new.result ≡ outline_of (new_image (open_state c.args.heap.now c.args.collection.now) (collection_in c.args.collection.now))
new g c =
    let heap = c.args.heap.now in
    let now = c.args.collection.now in
    let roots = c.args.roots.now in
    c.with_nils-new.ensures ∙ ap (λ (image : Image). outline_of (with_nils (length c.roots-all.result.now - length roots) image)) c.new_image.ensures.words
    ∙ ap (λ (ws : List ℕ). outline_of (image_with now.space (roots ++ replicate (length ws - length roots) 0))) c.roots-all.ensures.value
    ∙ ap (λ (ws : List ℕ). outline_of (image_with now.space ws)) c.requires.roots.moved
    ∙ ap outline_of (c.images_show_links.ensures.new heap now c.new_image.ensures.sound c.requires.belongs)

pub returns-clause-yes : goal.returns-clause-yes
returns-clause-yes g c = λ told.
    subst (λ (o : ImageOutline). g.W.Watcher.accepted c.args.along.now o (outline_of (new_image (open_state c.args.heap.now c.args.collection.now) (collection_in c.args.collection.now)))) (old g c)
    (subst (λ (n : ImageOutline). g.W.Watcher.accepted c.args.along.now (outline_in c.with_nils-old.result) n) (new g c) (c.accepts.ensures.yes told))

pub returns-clause-sure : goal.returns-clause-sure
returns-clause-sure g c = λ sure. c.accepts.ensures.sure
    (subst (λ (n : ImageOutline). g.W.Watcher.sure c.args.along.now (outline_in c.with_nils-old.result) n) (sym (new g c))
    (subst (λ (o : ImageOutline). g.W.Watcher.sure c.args.along.now o (outline_of (new_image (open_state c.args.heap.now c.args.collection.now) (collection_in c.args.collection.now)))) (sym (old g c)) sure))
