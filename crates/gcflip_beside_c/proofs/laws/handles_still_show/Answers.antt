-- By cases of the stage.
use Rattle.gcflip_beside_c.proofs.Whole.{stops_show, resumes_show, full_shows}
use Rattle.gcflip_beside_c.proofs.laws.handles_still_show.Goals as goal

pub returns : goal.returns
returns c = let law = c.what_is_shown_stays.ensures in record { stops = stops_show; resumes = resumes_show law.safepoint; full = full_shows law.full }
