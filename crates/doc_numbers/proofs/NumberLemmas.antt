-- Numbers that follow one another.
use Rattle.std.proofs.Common.{◌≡◌, ℕ, ◌+◌, ◌<◌, List, [], ◌∷◌, ◌++◌, length, map, refl, sym, ap, ap₂, ◌∙◌, subst, append-nil, append_assoc, arith}
use Rattle.std.proofs.lemmas.List.{length-append}
use Rattle.std.specs.List.{flat_map}
use Rattle.doc_model.specs.declared.paragraph.Par.{Par}
use Rattle.doc_model.specs.Reading.{number_of, upwards}
use Rattle.load_model.specs.Loaded.{numbered}
use Rattle.doc_numbers.specs.Numbering.{Follow}

-- numbers that rise by one from the first on, in two parts
parted : (f : Par → ℕ) (first : ℕ) (front back : List Par) → map f (front ++ back) ≡ upwards first (length (front ++ back))
    → (map f front ≡ upwards first (length front)) × (map f back ≡ upwards (first + length front) (length back))
parted f first [] back e = let same : first ≡ first + 0 = omega arith in (refl, e ∙ ap (λ n. upwards n (length back)) same)
parted f first (par ∷ front) back e =
    let head : f par ≡ first = cc in
    let tail : map f (front ++ back) ≡ upwards (first + 1) (length (front ++ back)) = cc in
    let rest = parted f (first + 1) front back tail in
    let same : (first + 1) + length front ≡ first + length (par ∷ front) = omega arith in
    (ap₂ (λ (n : ℕ) (ns : List ℕ). n ∷ ns) head rest.0, rest.1 ∙ ap (λ n. upwards n (length back)) same)

pub follow_parts : (numbers : List ℕ) (last : ℕ) (front back : List Par) → Follow numbers last (front ++ back) → Follow numbers last front × Follow numbers (last + length front) back
follow_parts numbers last front back e =
    let parts = parted (λ par. number_of (numbered numbers par)) (last + 1) front back e in
    let same : (last + 1) + length front ≡ (last + length front) + 1 = omega arith in
    (parts.0, parts.1 ∙ ap (λ n. upwards n (length back)) same)

-- so many things are numbered, and so many are left
pub record Goes (X : Type 0) (pars_in : X → List Par) (change : List ℕ → X → X) (all done left : List X) (first last : ℕ) : Type 0 where
  pub counted : last + length (flat_map pars_in left) ≡ first + length (flat_map pars_in all)
  pub changed : (numbers : List ℕ) → Follow numbers first (flat_map pars_in all) → (done ++ map (change numbers) left ≡ map (change numbers) all) × Follow numbers last (flat_map pars_in left)

module _ {X : Type 0} (pars_in : X → List Par) (change : List ℕ → X → X) (all : List X) (first : ℕ) where
  pub goes_none : Goes X pars_in change all [] all first first
  goes_none = record { counted = refl; changed = λ numbers follow. (refl, follow) }

  pub goes_more : (done later left rest : List X) (item new : X) (last next : ℕ) → left ≡ item ∷ rest → Goes X pars_in change all done left first last
      → later ≡ done ++ new ∷ [] → next ≡ last + length (pars_in item) → ((numbers : List ℕ) → Follow numbers last (pars_in item) → new ≡ change numbers item)
      → Goes X pars_in change all later rest first next
  goes_more done later left rest item new last next is goes pushed moved changed =
      let here : Goes X pars_in change all done (item ∷ rest) first last = subst (λ (some : List X). Goes X pars_in change all done some first last) is goes in
      record {
        counted = let sum = length-append (pars_in item) (flat_map pars_in rest) in let whole = here.counted in omega (arith, sum, whole, moved);
        changed = λ numbers follow.
            let known = here.changed numbers follow in
            let parts = follow_parts numbers last (pars_in item) (flat_map pars_in rest) known.1 in (
              ap (λ (some : List X). some ++ map (change numbers) rest) (pushed ∙ ap (λ (one : X). done ++ one ∷ []) (changed numbers parts.0))
                  ∙ append_assoc done (change numbers item ∷ []) (map (change numbers) rest) ∙ known.0,
              subst (λ n. Follow numbers n (flat_map pars_in rest)) (sym moved) parts.1,
            );
      }

  pub goes_fits : (done left rest : List X) (item : X) (last most : ℕ) → left ≡ item ∷ rest → Goes X pars_in change all done left first last
      → first + length (flat_map pars_in all) < most → last + length (pars_in item) < most
  goes_fits done left rest item last most is goes fits =
      let here : Goes X pars_in change all done (item ∷ rest) first last = subst (λ (some : List X). Goes X pars_in change all done some first last) is goes in
      let sum = length-append (pars_in item) (flat_map pars_in rest) in
      let whole = here.counted in
      omega (arith, sum, whole, fits)

  pub goes_all : (done left : List X) (last : ℕ) → left ≡ [] → Goes X pars_in change all done left first last
      → (last ≡ first + length (flat_map pars_in all)) × ((numbers : List ℕ) → Follow numbers first (flat_map pars_in all) → done ≡ map (change numbers) all)
  goes_all done left last is goes =
      let here : Goes X pars_in change all done [] first last = subst (λ (some : List X). Goes X pars_in change all done some first last) is goes in
      let whole = here.counted in
      (omega (arith, whole), λ numbers follow. sym (append-nil done) ∙ (here.changed numbers follow).0)

-- a paragraph by itself
abbrev pub alone : Par → List Par
alone par = par ∷ []

pub all_alone : (pars : List Par) → flat_map alone pars ≡ pars
all_alone [] = refl
all_alone (par ∷ pars) = ap (λ (more : List Par). par ∷ more) (all_alone pars)
