-- The walk over a heap's image finds its objects, and their words mean its values, so the image gives the heap back.
use Rattle.std.proofs.Common.{rules}
use Rattle.gc_model.proofs.Images.{image_shaped, graph_back}
use Rattle.gc_model.proofs.StateLaws.{in_runs, roomy_back, has_image}
use Rattle.gc_model.proofs.laws.images_have_their_graphs.Goals as goal

pub returns : goal.returns
returns = search (rules, image_shaped, graph_back, roomy_back, in_runs, has_image)
