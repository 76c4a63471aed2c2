use Rattle.share_vec.proofs.joins.+build.Given as goal

-- the items that are still to be moved
abbrev pub decreases-build : goal.decreases-build
decreases-build g l = l.count
