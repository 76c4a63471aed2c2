-- Lists element by element, in parts.
use Rattle.std.proofs.Common.{◌≡◌, List, [], ◌∷◌, ◌++◌, length, arith}
use Rattle.round_pars.specs.Pairs.{Pairwise}

-- two lists that are joined, against one that is cut
pub pairs_split : {X Y : Type 0} (R : X → Y → Type 0) (xs zs : List X) (front back : List Y) → length front ≡ length xs → Pairwise R (xs ++ zs) (front ++ back) → Pairwise R xs front × Pairwise R zs back
pairs_split R [] zs [] back e h = (tt, h)
pairs_split R [] zs (y ∷ front) back e h = absurd (omega (arith, e))
pairs_split R (x ∷ xs) zs [] back e h = absurd (omega (arith, e))
pairs_split R (x ∷ xs) zs (y ∷ front) back e h =
    let shorter : length front ≡ length xs = omega (arith, e) in
    let rest = pairs_split R xs zs front back shorter h.1 in
    ((h.0, rest.0), rest.1)

-- two lists that are both joined
pub pairs_join : {X Y : Type 0} (R : X → Y → Type 0) (xs zs : List X) (front back : List Y) → Pairwise R xs front → Pairwise R zs back → Pairwise R (xs ++ zs) (front ++ back)
pairs_join R [] zs [] back h k = k
pairs_join R [] zs (y ∷ front) back h k = absurd h
pairs_join R (x ∷ xs) zs [] back h k = absurd h
pairs_join R (x ∷ xs) zs (y ∷ front) back h k = (h.0, pairs_join R xs zs front back h.1 k)
