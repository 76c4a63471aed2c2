use Rattle.std.proofs.Common.{◌≡◌, ℕ, List, vec_len}
use Rattle.expanded_names.specs.Scope.{in_force}
use Rattle.expanded_names.specs.Shadows.{without_all}
use Rattle.expanded_names.proofs.shadows.leave.Given as goal

abbrev pub invariant-shadows : goal.invariant-shadows
invariant-shadows l = (prefix : List ℕ) → without_all l.shadows.items (in_force l.scope) prefix ≡ without_all l.fn.shadows.items (in_force l.fn.scope) prefix

abbrev pub decreases-shadows : goal.decreases-shadows
decreases-shadows l = vec_len l.shadows
