-- The images of the words are the model's images with the same links, so the model's certificate of a ready collection holds of them.
use Rattle.gc_copy.proofs.LinkedImages.{idle_shown, old_shown, linked, new_shown, shown_certified}
use Rattle.gc_copy.proofs.laws.images_show_links.Goals as goal

pub returns : goal.returns
returns c = record { idle = idle_shown; old = old_shown; linked = linked; new = new_shown; certified = shown_certified }
