-- A standing checker whose tables know a ready collection accepts it.
-- For the theorem that the monitor accepts each ready collection.
use Rattle.std.proofs.Common.{◌≡◌, inl, inr, ℕ, true, false, refl, sym, ◌∙◌, subst}
use Rattle.std.specs.Prelude.{IsFalse, IsTrue}
use Rattle.std.specs.List.{AllZip}
use Rattle.std.proofs.lemmas.Bool.{cases_Bool}
use Rattle.gc_words.specs.Image.{Image, IsShaped}
use Rattle.gc_words.specs.Word.{words_correspond}
use Rattle.gc_model.specs.State.{Collection, State}
use Rattle.gc_model.specs.Steps.{is_ready}
use Rattle.gc_model.specs.Linked.{old_image, new_image, old_links, new_links}
use Rattle.gc_model.specs.Belonging.{IsSpaceGraph, IsOpened}
use Rattle.gc_model.proofs.Public.{certified, end_is, IsReady, ready_parts, none_due}
use Rattle.gc_monitor.specs.Claims.{Accepts}
use Rattle.gc_monitor.specs.Outline.{outline_of}
use Rattle.gc_monitor.specs.Tables.{Tables, watch_of}
use Rattle.gc_monitor.specs.Watch.{IsSized, is_due_at}
use Rattle.gc_monitor.proofs.Public.{all_done}
use Rattle.gc_collected.specs.Internal.Knows.{Knows}
use Rattle.gc_collected.proofs.Monitor.Agree.{replicas_shown}
use Rattle.gc_collected.proofs.Monitor.Events.{Goes}

sized : (image : Image) → IsShaped image → image.raws ≡ true → IsSized (outline_of image)
sized image k raws = record { low = k.end_low; high = k.end_high; size = k.size_high; count = k.count; raws = raws }

pub accepts : (s : State) (c : Collection) (t : Tables) → IsSpaceGraph s.size s.heap.free s.heap.graph → IsOpened s c → is_ready c s.heap.graph ≡ true → t.lost ≡ false → Goes s c (watch_of t) → Knows s c t
    → Accepts t (outline_of (old_image s c)) (outline_of (new_image s c))
accepts s c t heap opened ready found goes knows = record {
  seen = record {
    found = found;
    none_due = knows.agree.counted ∙ all_done (watch_of t) (λ place. none place);
    old_seen = goes.fits.old_seen ∙ sym (end_is (old_links c) s.size s.heap.free s.heap.graph heap);
    new_seen = goes.fits.new_seen ∙ sym (replicas_shown s c (old_links c) heap opened).count;
    old_sized = sized (old_image s c) certificate.old_shaped refl;
    new_sized = sized (new_image s c) certificate.new_shaped refl;
  };
  roots = subst (λ pairs. AllZip (λ v w. IsTrue (words_correspond pairs v w)) (old_image s c).roots (new_image s c).roots) (sym goes.fits.pairs) certificate.roots;
}
  where
    is : IsReady s.heap.graph c
    is = ready_parts c s.heap.graph ready

    certificate : Rattle.gc_words.specs.Certificate.Certified (old_image s c) (new_image s c) (Rattle.gc_model.specs.State.pairs_of c)
    certificate = certified (old_links c) (new_links c) s.size s.heap.free s.heap.graph c heap opened.belongs opened.size is

    none : (place : ℕ) → IsFalse (is_due_at (watch_of t) place)
    none place = elim (cases_Bool (is_due_at (watch_of t) place)) [
      | inl y ↦ (let d = knows.due place y in absurd (none_due s.heap.graph.objects s.heap.graph c d.0 d.2 opened.belongs is d.1 d.5))
      | inr n ↦ n
    ]
