-- Names are read back.
use Rattle.std.proofs.Common.{◌≡◌, ◌≢◌, ℕ, ◌≤◌, Bool, true, not, cond, nat_le, List, [], ◌∷◌, length, refl, ap, arith, Some, None}
use Rattle.load_model.specs.Fields.{own_name}
use Rattle.load_model.specs.Values.{name, name_or_none}

fits : (count : ℕ) → count ≤ 1024 → nat_le count 1024 ≡ true
fits count h = grind (arith, h)

pub name_back : (one : List ℕ) → one ≢ [] → length one ≤ 1024 → name one ≡ Some one
name_back [] is few = absurd (is refl)
name_back (c ∷ cs) is few = ap (λ (b : Bool). cond (not b) None (Some (c ∷ cs))) (fits (length (c ∷ cs)) few)

pub none_back : (one : List ℕ) → length one ≤ 1024 → name_or_none one ≡ Some one
none_back one few = ap (λ (b : Bool). cond b (Some one) None) (fits (length one) few)

pub own_back : (one : List ℕ) → length one ≤ 1024 → own_name true one ≡ Some one
own_back [] few = refl
own_back (c ∷ cs) few = name_back (c ∷ cs) (λ e. cc) few
