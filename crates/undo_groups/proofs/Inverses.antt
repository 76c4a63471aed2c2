-- The group that is kept of primitives fits the value after them, and gives the value before.
use Rattle.std.proofs.Common.{◌≡◌, List, [], ◌∷◌, ◌++◌, fold, sym, ◌∙◌, ap, subst, refl}
use Rattle.std.proofs.lemmas.Grind.{reverse_onto, fold-append}
use Rattle.undo_groups.specs.Meaning.{Meaning, FitInOrder, answers, inverse}

-- what is kept of p and then ps: what is kept of ps, and then the answer of p
pub inverse-cons : {V P : Type 0} (m : Meaning V P) (v : V) (p : P) (ps : List P) → inverse m v (p ∷ ps) ≡ inverse m (m.changed v p) ps ++ m.answer v p ∷ []
inverse-cons m v p ps = reverse_onto (answers m (m.changed v p) ps) (m.answer v p) []

pub FitInOrder-append : {V P : Type 0} (m : Meaning V P) (v : V) (ps qs : List P) → FitInOrder m v ps → FitInOrder m (fold m.changed v ps) qs → FitInOrder m v (ps ++ qs)
FitInOrder-append m v [] qs h k = k
FitInOrder-append m v (p ∷ ps) qs h k = (h.0, FitInOrder-append m (m.changed v p) ps qs h.1 k)

-- What holds of the meaning of every target: an answered primitive fits and restores.
pub record IsInvertible {V P : Type 0} (m : Meaning V P) : Type 0 where
  pub fits : (v : V) (p : P) → m.fits v p → m.fits (m.changed v p) (m.answer v p)
  pub restores : (v : V) (p : P) → m.fits v p → m.changed (m.changed v p) (m.answer v p) ≡ v

pub inverse-restores : {V P : Type 0} (m : Meaning V P) → IsInvertible m → (v : V) (ps : List P) → FitInOrder m v ps → fold m.changed (fold m.changed v ps) (inverse m v ps) ≡ v
inverse-restores m laws v [] h = refl
inverse-restores m laws v (p ∷ ps) h =
    let w = m.changed v p in
    let end = fold m.changed w ps in
    ap (fold m.changed end) (inverse-cons m v p ps)
    ∙ (fold-append m.changed end (inverse m w ps) (m.answer v p ∷ [])
    ∙ (ap (λ u. m.changed u (m.answer v p)) (inverse-restores m laws w ps h.1) ∙ laws.restores v p h.0))

pub inverse-fits : {V P : Type 0} (m : Meaning V P) → IsInvertible m → (v : V) (ps : List P) → FitInOrder m v ps → FitInOrder m (fold m.changed v ps) (inverse m v ps)
inverse-fits m laws v [] h = tt
inverse-fits m laws v (p ∷ ps) h =
    let w = m.changed v p in
    let end = fold m.changed w ps in
    subst (FitInOrder m end) (sym (inverse-cons m v p ps))
    (FitInOrder-append m end (inverse m w ps) (m.answer v p ∷ []) (inverse-fits m laws w ps h.1)
    (subst (λ u. m.fits u (m.answer v p)) (sym (inverse-restores m laws w ps h.1)) (laws.fits v p h.0), tt))

-- the value of the target that fitting primitives leave
pub value-fold : {S V P : Type 0} (m : Meaning V P) (after : S → P → S) (value : S → V)
    → ((s : S) (p : P) → m.fits (value s) p → value (after s p) ≡ m.changed (value s) p)
    → (s : S) (ps : List P) → FitInOrder m (value s) ps → value (fold after s ps) ≡ fold m.changed (value s) ps
value-fold m after value law s [] h = refl
value-fold m after value law s (p ∷ ps) h =
    let e = law s p h.0 in
    value-fold m after value law (after s p) ps (subst (λ v. FitInOrder m v ps) (sym e) h.1)
    ∙ ap (λ v. fold m.changed v ps) e
