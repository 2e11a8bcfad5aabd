-- A command sets no link, and only the field that it writes can be out of date afterwards.
use Rattle.gc_copy.proofs.LinkedImages.{command_leaves, nothing_left, no_links_kept, nothing_linked}
use Rattle.gc_copy.proofs.laws.commands_keep_collections.Goals as goal

pub returns : goal.returns
returns c = record { but = command_leaves; none = nothing_left; idle = no_links_kept; nothing = nothing_linked }
