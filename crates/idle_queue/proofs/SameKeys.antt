-- Tests on keys.
use Rattle.std.proofs.Common.{◌≡◌, Bool, IsTrue, ◌↔◌}
use Rattle.std.proofs.lemmas.Bool.Decides.{same_from_decides}
use Rattle.line_model.specs.declared.key.Key.{Key}
use Rattle.line_model.specs.Keys.{is_same_key}
use Rattle.line_model.proofs.KeyLemmas.{is_same_key-Decides}

-- what tells whether two keys are equal is the test whether they are the same
pub same_tells : (b : Bool) (key other : Key) → (IsTrue b ↔ (key ≡ other)) → b ≡ is_same_key key other
same_tells b key other tells = same_from_decides b (is_same_key key other) (tells.0, tells.1) (is_same_key-Decides key other)
