use Rattle.std.proofs.Common.{◌≡◌, ◌++◌, drop}
use Rattle.page_model.specs.Frames.{frames_from}
use Rattle.paginate.proofs.frames.frames.Given as goal

abbrev pub invariant-masters : goal.invariant-masters
invariant-masters l = l.each ++ frames_from l.masters l.layouts l.place (drop l.place l.masters) ≡ frames_from l.masters l.layouts 0 l.masters
