use Rattle.edit_checks.proofs.guards.+protected_at.Given as goal

abbrev pub decreases-protected_at : goal.decreases-protected_at
decreases-protected_at l = l.at
