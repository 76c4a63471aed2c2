-- What fits ends between characters.
use Rattle.std.proofs.Common.{◌≡◌, ℕ, ◌-◌, Bool, true, false, cond, nat_le, List, [], ◌∷◌, ◌++◌, refl, sym, ap, subst, append-nil, IsUtf8, IsCharBoundary}
use Rattle.std.proofs.lemmas.Str.{IsCharBoundary-start}
use Rattle.line_model.specs.declared.unit.TextUnit.{TextUnit}
use Rattle.line_model.specs.Lines.{end_of}
use Rattle.line_model.specs.Units.{units_at}
use Rattle.break_units.proofs.Places.{Follow, Follow-units_at, end_of-append}
use Rattle.page_print.specs.Headers.{fitting}

-- units that fit begin all units
fitting-front : (columns : ℕ) (units : List TextUnit) → (more : List TextUnit) × (units ≡ fitting columns units ++ more)
fitting-front columns [] = ([], refl)
fitting-front columns (unit ∷ units) = by_test (nat_le unit.columns columns) (fitting-front (columns - unit.columns) units) where
  by_test : (fits : Bool) → (more : List TextUnit) × (units ≡ fitting (columns - unit.columns) units ++ more)
      → (more : List TextUnit) × (unit ∷ units ≡ cond fits (unit ∷ fitting (columns - unit.columns) units) [] ++ more)
  by_test true rest = (rest.0, ap (λ l. unit ∷ l) rest.1)
  by_test false rest = (unit ∷ units, refl)

pub fitting-boundary : (columns : ℕ) (text : List ℕ) → IsUtf8 text → IsCharBoundary text (end_of 0 (fitting columns (units_at 0 text)))
fitting-boundary columns text u =
    let whole : text ≡ text ++ [] = sym (append-nil text) in
    let front = fitting-front columns (units_at 0 text) in
    let follow : Follow text 0 (units_at 0 text) = Follow-units_at text [] text [] whole u (subst IsUtf8 whole u) in
    (end_of-append text 0 (fitting columns (units_at 0 text)) front.0 (IsCharBoundary-start text u) (subst (λ (units : List TextUnit). Follow text 0 units) front.1 follow)).boundary
