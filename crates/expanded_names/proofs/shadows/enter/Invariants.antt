use Rattle.std.proofs.Common.{◌≡◌, ◌≤◌, ℕ, List, ◌++◌, drop, length}
use Rattle.std.specs.List.{flat_map}
use Rattle.load_model.specs.Names.{Binding, declared_by}
use Rattle.expanded_names.specs.Scope.{in_force, Holds}
use Rattle.expanded_names.specs.Shadows.{without_all}
use Rattle.expanded_names.proofs.shadows.enter.Given as goal

abbrev pub invariant-declarations : goal.invariant-declarations
invariant-declarations l = record {
  within : l.at ≤ length l.attrs;
  bindings : (around : List Binding) → Holds l.fn.scope around → Holds l.scope (flat_map declared_by (drop l.at l.attrs) ++ around);
  shadows : (prefix : List ℕ) → without_all l.shadows.items (in_force l.scope) prefix ≡ in_force l.fn.scope prefix;
}

abbrev pub decreases-declarations : goal.decreases-declarations
decreases-declarations l = l.at
