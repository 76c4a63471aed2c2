-- Names that are looked up among those of other files.
use Rattle.std.proofs.Common.{Bor, ◌≡◌, ℕ, ◌+◌, ◌<◌, List, [], ◌∷◌, map, length, get_or, drop, Bool, true, false, refl, sym, ap, ◌∙◌, suc, add-one, drop-cons}
use Rattle.std.specs.Prelude.{Option, None, Some, ◌↔◌, is_some, option_copied, String, Vec, if◌then◌else◌}
use Rattle.std.specs.declared.alloc.Global.{Global}
use Rattle.std.specs.List.{IsDistinct, AllByRecursion}
use Rattle.std.specs.Str.{bytes_eq}
use Rattle.quill_io.specs.MemShelf.{File, bytes_at, files_of, HasDistinctNames}

-- the name is none of the files'
abbrev pub DiffersFromAll : List ℕ → List File → Type 0
DiffersFromAll name files = AllByRecursion (λ other. bytes_eq name other ≡ false) (map (λ (file : File). file.0) files)

-- what a look-up answers says whether the name was found
pub is_some-found : (answer : Option (Bor (List ℕ))) (found : Option (List ℕ)) → option_copied answer ≡ found → is_some found ≡ is_some answer
is_some-found None found e = ap is_some (sym e)
is_some-found (Some bytes) found e = ap is_some (sym e)

-- where the first name differs, the search goes on
after_other : (same : Bool) (bytes : List ℕ) (found : Option (List ℕ)) (P : Type 0) → is_some (if same then Some bytes else found) ≡ false
    → (is_some found ≡ false → P) → (same ≡ false) × P
after_other true bytes found P e rest = absurd (cc)
after_other false bytes found P e rest = (refl, rest e)

-- a name that is not found is none of them
pub DiffersFromAll-from_none : (name : List ℕ) (files : List File) → is_some (bytes_at files name) ≡ false → DiffersFromAll name files
DiffersFromAll-from_none name [] e = tt
DiffersFromAll-from_none name (file ∷ files) e =
    after_other (bytes_eq name file.0) file.1 (bytes_at files name) _ e (DiffersFromAll-from_none name files)

-- a name that is found is one of them
pub not_DiffersFromAll : (name : List ℕ) (files : List File) → is_some (bytes_at files name) ≡ true → DiffersFromAll name files → ⊥
not_DiffersFromAll name [] e differs = absurd (cc)
not_DiffersFromAll name (file ∷ files) e differs =
    not_DiffersFromAll name files (rw differs.0 at e) differs.1

pub HasDistinctNames-nil : HasDistinctNames []
unfolding IsDistinct
HasDistinctNames-nil = tt

pub HasDistinctNames-cons : (file : File) (files : List File) → is_some (bytes_at files file.0) ≡ false
    → HasDistinctNames (file ∷ files) ↔ HasDistinctNames files
unfolding IsDistinct
HasDistinctNames-cons file files e = ((λ h. h.1), (λ h. (DiffersFromAll-from_none file.0 files e, h)))

pub not_HasDistinctNames-cons : (file : File) (files : List File) → is_some (bytes_at files file.0) ≡ true
    → HasDistinctNames (file ∷ files) → ⊥
unfolding IsDistinct
not_HasDistinctNames-cons file files e h = not_DiffersFromAll file.0 files e h.0

-- the files from a place on, with the first set apart
pub files_of-drop : (files : List (String Global × Vec ℕ Global)) (place : ℕ) (first : String Global × Vec ℕ Global) → place < length files
    → first ≡ get_or files place first → files_of (drop place files) ≡ files_of (first ∷ drop (place + 1) files)
files_of-drop files place first within is =
    ap files_of (drop-cons files place first within ∙ ap (λ f. f ∷ drop (suc place) files) (sym is) ∙ ap (λ k. first ∷ drop k files) (sym (add-one place)))
