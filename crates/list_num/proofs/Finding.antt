-- A first item that passes a test, sought from the front.
use Rattle.std.proofs.Common.{◌≡◌, ℕ, zero, suc, ◌<◌, Bool, true, false, cond, List, [], ◌∷◌, length, take, get_or, Option, Some, None, refl, arith}
use Rattle.std.specs.List.{find}

still_none : {X : Type 0} (x : X) (b : Bool) (old new : Option X) → cond b (Some x) old ≡ None → (old ≡ None → new ≡ None) → cond b (Some x) new ≡ None
still_none x true old new e h = cc
still_none x false old new e h = h e

pub find_more : {X : Type 0} (p : X → Bool) (xs : List X) (i : ℕ) (d : X) → i < length xs → find p (take i xs) ≡ None → p (get_or xs i d) ≡ false → find p (take (suc i) xs) ≡ None
find_more p [] i d lt none fails = absurd (omega arith)
find_more p (x ∷ xs) zero d lt none fails = rw fails refl
find_more p (x ∷ xs) (suc i) d lt none fails = still_none x (p x) (find p (take i xs)) (find p (take (suc i) xs)) none (λ h. find_more p xs i d (omega arith) h fails)

then_here : {X : Type 0} (x y : X) (b : Bool) (front all : Option X) → cond b (Some x) front ≡ None → (front ≡ None → all ≡ Some y) → cond b (Some x) all ≡ Some y
then_here x y true front all e h = cc
then_here x y false front all e h = h e

pub find_here : {X : Type 0} (p : X → Bool) (xs : List X) (i : ℕ) (d : X) → i < length xs → find p (take i xs) ≡ None → p (get_or xs i d) ≡ true → find p xs ≡ Some (get_or xs i d)
find_here p [] i d lt none passes = absurd (omega arith)
find_here p (x ∷ xs) zero d lt none passes = rw passes refl
find_here p (x ∷ xs) (suc i) d lt none passes = then_here x (get_or xs i d) (p x) (find p (take i xs)) (find p xs) none (λ h. find_here p xs i d (omega arith) h passes)
