-- The live paragraphs after a change.
use Rattle.std.proofs.Common.{◌≡◌, ℕ, ◌≤◌, Bool, true, false, List, [], ◌∷◌, refl, ap, sym, ◌∙◌, subst, Option, Some, None}
use Rattle.std.specs.Prelude.{◌==◌, ◌||◌, if◌then◌else◌, map}
use Rattle.std.specs.List.{AllByRecursion as Each, list_any}
use Rattle.std.proofs.lemmas.Bool.{eqb-true, cond_both}
use Rattle.doc_model.specs.declared.document.Document.{Document}
use Rattle.doc_model.specs.declared.paragraph.Par.{Par}
use Rattle.doc_model.specs.Reading.{paragraphs, number_of}
use Rattle.round_model.specs.Idle.{Live, live_at, live_after}

-- a paragraph that is live after a change, by what it was before
abbrev pub renewed : List ℕ → ℕ → ℕ → Option Live → Live
renewed touched version number None = record { par = number; revision = version; keys = [] }
renewed touched version number (Some live) = record live { revision = if list_any (λ other. other == number) touched then version else live.revision }

-- the paragraph that is found has the number that was looked for
pub found_par : (number : ℕ) (lives : List Live) (live : Live) → live_at number lives ≡ Some live → live.par ≡ number
found_par number [] live e = absurd (let clash : None ≡ Some live = e in cc)
found_par number (other ∷ lives) live e = of_test (other.par == number) refl e (found_par number lives live) where
  of_test : (here : Bool) → (other.par == number) ≡ here → (if here then Some other else live_at number lives) ≡ Some live → (live_at number lives ≡ Some live → live.par ≡ number) → live.par ≡ number
  of_test true is e more = let same : other ≡ live = cc in ap (λ (live : Live). live.par) (sym same) ∙ eqb-true other.par number is
  of_test false is e more = more e

-- what holds of all holds of the one that is found
pub Each-found : (P : Live → Type 0) (number : ℕ) (lives : List Live) (live : Live) → Each P lives → live_at number lives ≡ Some live → P live
Each-found P number [] live each e = absurd (let clash : None ≡ Some live = e in cc)
Each-found P number (other ∷ lives) live each e = of_test (other.par == number) e (Each-found P number lives live each.1) where
  of_test : (here : Bool) → (if here then Some other else live_at number lives) ≡ Some live → (live_at number lives ≡ Some live → P live) → P live
  of_test true e more = let same : other ≡ live = cc in subst P same each.0
  of_test false e more = more e

pub renewed_par : (touched : List ℕ) (version number : ℕ) (lives : List Live) (live : Option Live) → live_at number lives ≡ live → (renewed touched version number live).par ≡ number
renewed_par touched version number lives None e = refl
renewed_par touched version number lives (Some live) e = found_par number lives live e

-- live paragraphs that have the numbers of paragraphs
pub live_at-map : (number : ℕ) (f : ℕ → Live) → ((n : ℕ) → (f n).par ≡ n) → (pars : List Par)
    → live_at number (map (λ par. f (number_of par)) pars) ≡ (if list_any (λ par. number_of par == number) pars then Some (f number) else None)
live_at-map number f numbered [] = refl
live_at-map number f numbered (par ∷ pars) =
    ap (λ (n : ℕ). if n == number then Some (f (number_of par)) else live_at number (map (λ par. f (number_of par)) pars)) (numbered (number_of par))
    ∙ of_test (number_of par == number) refl (live_at-map number f numbered pars) where
      of_test : (here : Bool) → (number_of par == number) ≡ here
          → live_at number (map (λ par. f (number_of par)) pars) ≡ (if list_any (λ par. number_of par == number) pars then Some (f number) else None)
          → (if here then Some (f (number_of par)) else live_at number (map (λ par. f (number_of par)) pars)) ≡ (if here || list_any (λ par. number_of par == number) pars then Some (f number) else None)
      of_test true is more = ap (λ (n : ℕ). Some (f n)) (eqb-true (number_of par) number is)
      of_test false is more = more

pub live_at-live_after : (old : List Live) (doc : Document) (touched : List ℕ) (version number : ℕ)
    → live_at number (live_after old doc touched version) ≡ (if list_any (λ par. number_of par == number) (paragraphs doc) then Some (renewed touched version number (live_at number old)) else None)
live_at-live_after old doc touched version number =
    live_at-map number (λ n. renewed touched version n (live_at n old)) (λ n. renewed_par touched version n old (live_at n old) refl) (paragraphs doc)

renewed_revision : (touched : List ℕ) (version number bound : ℕ) (lives : List Live) → version ≤ bound → Each (λ live. live.revision ≤ bound) lives
    → (live : Option Live) → live_at number lives ≡ live → (renewed touched version number live).revision ≤ bound
renewed_revision touched version number bound lives least each None e = least
renewed_revision touched version number bound lives least each (Some live) e =
    cond_both (list_any (λ other. other == number) touched) version live.revision (λ (revision : ℕ). revision ≤ bound) (λ b. least)
    (λ b. Each-found (λ live. live.revision ≤ bound) number lives live each e)

Each-map_renewed : (touched : List ℕ) (version bound : ℕ) (lives : List Live) → version ≤ bound → Each (λ live. live.revision ≤ bound) lives → (pars : List Par)
    → Each (λ live. live.revision ≤ bound) (map (λ par. renewed touched version (number_of par) (live_at (number_of par) lives)) pars)
Each-map_renewed touched version bound lives least each [] = tt
Each-map_renewed touched version bound lives least each (par ∷ pars) =
    (renewed_revision touched version (number_of par) bound lives least each (live_at (number_of par) lives) refl, Each-map_renewed touched version bound lives least each pars)

pub Each-live_after : (old : List Live) (doc : Document) (touched : List ℕ) (version bound : ℕ) → version ≤ bound → Each (λ live. live.revision ≤ bound) old
    → Each (λ live. live.revision ≤ bound) (live_after old doc touched version)
Each-live_after old doc touched version bound least each = Each-map_renewed touched version bound old least each (paragraphs doc)
