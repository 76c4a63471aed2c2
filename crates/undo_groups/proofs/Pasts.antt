-- The past that lists of groups stand for, as a step changes it.
use Rattle.std.proofs.Common.{◌≡◌, ℕ, zero, suc, ◌-◌, List, [], ◌∷◌, ◌++◌, length, drop, fold, sym, ◌∙◌, ap, subst, refl}
use Rattle.undo_groups.specs.declared.way.Way.{Way}
use Rattle.undo_groups.specs.declared.way.Way.TheVariants.{Run, Undo, Redo}
use Rattle.undo_groups.specs.Meaning.{Meaning, FitInOrder, inverse}
use Rattle.undo_groups.specs.Lists.{Lists, newest, Moves}
use Rattle.undo_groups.specs.Step.{Applies}
use Rattle.undo_groups.specs.Past.{Steps, value_behind, values_behind, FitFromLast, AreOf, past_of}
use Rattle.undo_groups.proofs.Inverses.{IsInvertible, inverse-restores, inverse-fits, value-fold}

pub value_behind-last : {V P : Type 0} (m : Meaning V P) (v : V) (gs : List (List P)) (g : List P) → value_behind m v (gs ++ g ∷ []) ≡ value_behind m (fold m.changed v g) gs
value_behind-last m v [] g = refl
value_behind-last m v (h ∷ gs) g = ap (λ w. fold m.changed w h) (value_behind-last m v gs g)

pub values_behind-last : {V P : Type 0} (m : Meaning V P) (v : V) (gs : List (List P)) (g : List P) → values_behind m v (gs ++ g ∷ []) ≡ values_behind m (fold m.changed v g) gs ++ fold m.changed v g ∷ []
values_behind-last m v [] g = refl
values_behind-last m v (h ∷ gs) g =
    ap (λ w. w ∷ values_behind m v (gs ++ g ∷ [])) (value_behind-last m v (h ∷ gs) g)
    ∙ ap (λ ws. value_behind m (fold m.changed v g) (h ∷ gs) ∷ ws) (values_behind-last m v gs g)

pub FitFromLast-snoc : {V P : Type 0} (m : Meaning V P) (v : V) (gs : List (List P)) (g : List P) → FitInOrder m v g → FitFromLast m (fold m.changed v g) gs → FitFromLast m v (gs ++ g ∷ [])
FitFromLast-snoc m v [] g f h = (f, tt)
FitFromLast-snoc m v (k ∷ gs) g f h = (subst (λ w. FitInOrder m w k) (sym (value_behind-last m v gs g)) h.0, FitFromLast-snoc m v gs g f h.1)

pub FitFromLast-last : {V P : Type 0} (m : Meaning V P) (v : V) (gs : List (List P)) (g : List P) → FitFromLast m v (gs ++ g ∷ []) → FitInOrder m v g × FitFromLast m (fold m.changed v g) gs
FitFromLast-last m v [] g h = (h.0, tt)
FitFromLast-last m v (k ∷ gs) g h =
    let rest = FitFromLast-last m v gs g h.1 in
    (rest.0, (subst (λ w. FitInOrder m w k) (value_behind-last m v gs g) h.0, rest.1))

pub length-values_behind : {V P : Type 0} (m : Meaning V P) (v : V) (gs : List (List P)) → length (values_behind m v gs) ≡ length gs
length-values_behind m v [] = refl
length-values_behind m v (g ∷ gs) = ap suc (length-values_behind m v gs)

pub values_behind-drop : {V P : Type 0} (m : Meaning V P) (v : V) (n : ℕ) (gs : List (List P)) → values_behind m v (drop n gs) ≡ drop n (values_behind m v gs)
values_behind-drop m v zero gs = refl
values_behind-drop m v (suc n) [] = refl
values_behind-drop m v (suc n) (g ∷ gs) = values_behind-drop m v n gs

pub FitFromLast-drop : {V P : Type 0} (m : Meaning V P) (v : V) (n : ℕ) (gs : List (List P)) → FitFromLast m v gs → FitFromLast m v (drop n gs)
FitFromLast-drop m v zero gs h = h
FitFromLast-drop m v (suc n) [] h = tt
FitFromLast-drop m v (suc n) (g ∷ gs) h = FitFromLast-drop m v n gs h.1

-- the newest groups give the newest values
pub values_behind-newest : {V P : Type 0} (m : Meaning V P) (v : V) (n : ℕ) (gs : List (List P)) → values_behind m v (newest n gs) ≡ newest n (values_behind m v gs)
values_behind-newest m v n gs =
    values_behind-drop m v (length gs - n) gs
    ∙ ap (λ k. drop (k - n) (values_behind m v gs)) (sym (length-values_behind m v gs))

module _ {V P : Type 0} (m : Meaning V P) (laws : IsInvertible m) (v : V) (prims : List P) (fits : FitInOrder m v prims) where
  -- a list to which the kept group is appended stands for its old values and the old present one
  pub values_behind-kept : (gs : List (List P)) → values_behind m (fold m.changed v prims) (gs ++ inverse m v prims ∷ []) ≡ values_behind m v gs ++ v ∷ []
  values_behind-kept gs =
      values_behind-last m (fold m.changed v prims) gs (inverse m v prims)
      ∙ ap (λ w. values_behind m w gs ++ w ∷ []) (inverse-restores m laws v prims fits)

  pub FitFromLast-kept : (gs : List (List P)) → FitFromLast m v gs → FitFromLast m (fold m.changed v prims) (gs ++ inverse m v prims ∷ [])
  FitFromLast-kept gs h =
      FitFromLast-snoc m (fold m.changed v prims) gs (inverse m v prims) (inverse-fits m laws v prims fits)
      (subst (λ w. FitFromLast m w gs) (sym (inverse-restores m laws v prims fits)) h)

  -- the lists stand for the past after the step
  pub past-steps : (way : Way) (old new : Lists P) → AreOf m v old → Moves way prims (inverse m v prims) old new → Steps way (past_of m v old) (past_of m (fold m.changed v prims) new)
  past-steps Run old new are moves = record {
    earlier =
        ap (values_behind m (fold m.changed v prims)) moves.0
        ∙ (values_behind-newest m (fold m.changed v prims) _ (old.earlier ++ inverse m v prims ∷ [])
        ∙ ap (newest _) (values_behind-kept old.earlier));
    undone = ap (values_behind m (fold m.changed v prims)) moves.1;
  }
  past-steps Undo old new are moves = record {
    earlier = ap (values_behind m v) moves.0 ∙ values_behind-last m v new.earlier prims;
    undone = ap (values_behind m (fold m.changed v prims)) moves.1 ∙ values_behind-kept old.undone;
  }
  past-steps Redo old new are moves = record {
    earlier = ap (values_behind m (fold m.changed v prims)) moves.1 ∙ values_behind-kept old.earlier;
    undone = ap (values_behind m v) moves.0 ∙ values_behind-last m v new.undone prims;
  }

  -- they are of the target after the step
  pub AreOf-steps : (way : Way) (old new : Lists P) → AreOf m v old → Moves way prims (inverse m v prims) old new → AreOf m (fold m.changed v prims) new
  AreOf-steps Run old new are moves = record {
    earlier = subst (FitFromLast m (fold m.changed v prims)) (sym moves.0) (FitFromLast-drop m _ _ (old.earlier ++ inverse m v prims ∷ []) (FitFromLast-kept old.earlier are.earlier));
    undone = subst (FitFromLast m (fold m.changed v prims)) (sym moves.1) tt;
  }
  AreOf-steps Undo old new are moves = record {
    earlier = (FitFromLast-last m v new.earlier prims (subst (FitFromLast m v) moves.0 are.earlier)).1;
    undone = subst (FitFromLast m (fold m.changed v prims)) (sym moves.1) (FitFromLast-kept old.undone are.undone);
  }
  AreOf-steps Redo old new are moves = record {
    earlier = subst (FitFromLast m (fold m.changed v prims)) (sym moves.1) (FitFromLast-kept old.earlier are.earlier);
    undone = (FitFromLast-last m v new.undone prims (subst (FitFromLast m v) moves.0 are.undone)).1;
  }

-- What a step on a target makes of its past.
module _ {S V P : Type 0} (after : S → P → S) (value : S → V) (m : Meaning V P) (laws : IsInvertible m)
    (value_after : (s : S) (p : P) → m.fits (value s) p → value (after s p) ≡ m.changed (value s) p)
    (way : Way) (prims : List P) (s s' : S) (old new : Lists P)
    (fits : FitInOrder m (value s) prims) (are : AreOf m (value s) old) (applies : Applies after value m way prims s s' old new) where
  value_is : value s' ≡ fold m.changed (value s) prims
  value_is = ap value applies.target ∙ value-fold m after value value_after s prims fits

  pub Applies-steps : Steps way (past_of m (value s) old) (past_of m (value s') new)
  Applies-steps = subst (λ v. Steps way (past_of m (value s) old) (past_of m v new)) (sym value_is) (past-steps m laws (value s) prims fits way old new are applies.lists)

  pub Applies-are_of : AreOf m (value s') new
  Applies-are_of = subst (λ v. AreOf m v new) (sym value_is) (AreOf-steps m laws (value s) prims fits way old new are applies.lists)
