-- When lines may enter.
use Rattle.std.specs.Prelude.{◌≡◌, true, false, Some}
use Rattle.line_model.specs.declared.job.Job.{Job}
use Rattle.round_model.specs.Idle.{Idle, Live, live_at, keeps, stamp_of, is_same_stamp}

-- the paragraph of a job is live, its stamp is the present one, and the lines of its key aren't kept
pub record MayEnter (idle : Idle) (job : Job) (live : Live) : Type 0 where
  pub found : live_at job.par.0 idle.live ≡ Some live
  pub fresh : is_same_stamp job.stamp (stamp_of idle live) ≡ true
  pub wanted : keeps live job.key ≡ false
