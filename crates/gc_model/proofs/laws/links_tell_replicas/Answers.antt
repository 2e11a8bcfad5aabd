-- Each original has one replica, and each replica one place, so a search by name or by place finds the one that a link tells.
use Rattle.std.proofs.Common.{rules}
use Rattle.gc_model.proofs.Links.{found_by_name, found_by_place, zero_tells, old_link_is, new_link_is, write_is_set}
use Rattle.gc_model.proofs.laws.links_tell_replicas.Goals as goal

pub returns : goal.returns
returns = search (rules, found_by_name, found_by_place, zero_tells, old_link_is, new_link_is, write_is_set)
