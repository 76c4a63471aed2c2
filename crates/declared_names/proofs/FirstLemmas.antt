-- The first declarations of each name.
use Rattle.std.proofs.Common.{◌≡◌, ℕ, ◌∙◌, not, ◌||◌, Bool, true, false, cond, List, [], ◌∷◌, ◌++◌, map, refl, sym, ap, ap₂, IsTrue}
use Rattle.std.specs.List.{list_any, filter}
use Rattle.std.specs.Str.{bytes_eq}
use Rattle.std.proofs.lemmas.List.{map-append}
use Rattle.std.proofs.lemmas.Slice.Eq.{bytes_eq-Decides}
use Rattle.load_model.specs.Blocks as blocks
use Rattle.load_model.specs.Left.{is_one_of}
use Rattle.sheet_kept.proofs.Firsts.{firsts_behind}
use Rattle.declared_names.specs.declared.stated.Stated.{Stated}
use Rattle.declared_names.specs.declared.stated.Kept.{Kept}
use Rattle.declared_names.specs.Kept.{Shown, stated_of, shown_declared, firsts_of, Keeps}
use Rattle.declared_names.specs.Names.{first_declarations}

bytes_same : (xs ys : List ℕ) → bytes_eq xs ys ≡ true → xs ≡ ys
bytes_same xs ys h = (bytes_eq-Decides xs ys).0 (is_true h) where
  is_true : bytes_eq xs ys ≡ true → IsTrue (bytes_eq xs ys)
  is_true e = e

pub through : (xs ys zs : List ℕ) → bytes_eq xs ys ≡ true → bytes_eq ys zs ≡ true → bytes_eq xs zs ≡ true
through xs ys zs e f = ap (λ (one : List ℕ). bytes_eq one zs) (bytes_same xs ys e) ∙ f

-- whether a name is one of those of some things
pub any_name : {X : Type 0} (name_of : X → List ℕ) (xs : List X) (name : List ℕ) → is_one_of (map name_of xs) name ≡ list_any (λ x. bytes_eq (name_of x) name) xs
any_name name_of [] name = refl
any_name name_of (x ∷ xs) name = ap (λ b. bytes_eq (name_of x) name || b) (any_name name_of xs name)

-- one declaration more
module _ (before : List Shown) (kept : Kept) (keeps : Keeps before kept) (one : Shown) where
  abbrev known : Bool
  known = list_any (λ (other : Shown). bytes_eq other.name one.name) (firsts_of before)

  abbrev names : List Shown → List (List ℕ)
  names some = map (λ (other : Shown). other.name) some

  more : (b : Bool) → known ≡ b → firsts_of (before ++ one ∷ []) ≡ cond b (firsts_of before) (firsts_of before ++ one ∷ [])
  more b e =
      firsts_behind (λ (x y : Shown). bytes_eq x.name y.name) (λ x y z e f. through x.name y.name z.name e f) before one
      ∙ ap (λ b. cond b (firsts_of before) (firsts_of before ++ one ∷ [])) e

  is_known : (b : Bool) → is_one_of kept.names one.name ≡ b → known ≡ b
  is_known b e = sym (ap (λ some. is_one_of some one.name) keeps.names_are ∙ any_name (λ (other : Shown). other.name) (firsts_of before) one.name) ∙ e

  pub keeps_again : (later : Kept) → is_one_of kept.names one.name ≡ true → later.kept ≡ kept.kept → later.names ≡ kept.names → Keeps (before ++ one ∷ []) later
  keeps_again later e same_kept same_names = record {
    kept_are = ap (λ all. map stated_of all.items) same_kept ∙ keeps.kept_are ∙ sym (more true (is_known true e));
    names_are = same_names ∙ keeps.names_are ∙ ap names (sym (more true (is_known true e)));
  }

  pub keeps_new : (later : Kept) (stated : Stated) → is_one_of kept.names one.name ≡ false → later.kept.items ≡ kept.kept.items ++ stated ∷ [] → stated_of stated ≡ one → later.names ≡ kept.names ++ one.name ∷ [] → Keeps (before ++ one ∷ []) later
  keeps_new later stated e pushed is put = record {
    kept_are = ap (map stated_of) pushed ∙ map-append stated_of kept.kept.items (stated ∷ []) ∙ ap₂ (λ (some : List Shown) (last : Shown). some ++ last ∷ []) keeps.kept_are is ∙ sym (more false (is_known false e));
    names_are = put ∙ ap (λ some. some ++ one.name ∷ []) keeps.names_are ∙ sym (map-append (λ (other : Shown). other.name) (firsts_of before) (one ∷ [])) ∙ ap names (sym (more false (is_known false e)));
  }

-- first ones, shown
filter_shown : {X Y : Type 0} (f : X → Y) (test : Y → Bool) (xs : List X) → filter test (map f xs) ≡ map f (filter (λ x. test (f x)) xs)
filter_shown f test [] = refl
filter_shown {X} {Y} f test (x ∷ xs) = by_test (test (f x)) (filter_shown f test xs) where
  by_test : (b : Bool) → filter test (map f xs) ≡ map f (filter (λ x. test (f x)) xs) → cond b (f x ∷ filter test (map f xs)) (filter test (map f xs)) ≡ map f (cond b (x ∷ filter (λ x. test (f x)) xs) (filter (λ x. test (f x)) xs))
  by_test true e = ap (λ (some : List Y). f x ∷ some) e
  by_test false e = e

pub firsts_shown : (declarations : List blocks.Declared) → firsts_of (map shown_declared declarations) ≡ map shown_declared (first_declarations declarations)
firsts_shown [] = refl
firsts_shown (one ∷ more) =
    ap (λ (some : List Shown). shown_declared one ∷ some)
    (ap (filter (λ (other : Shown). not (bytes_eq one.name other.name))) (firsts_shown more) ∙ filter_shown shown_declared (λ (other : Shown). not (bytes_eq one.name other.name)) (first_declarations more))

pub names_shown : (declarations : List blocks.Declared) → map (λ (one : Shown). one.name) (map shown_declared declarations) ≡ map (λ (declared : blocks.Declared). declared.name) declarations
names_shown [] = refl
names_shown (one ∷ more) = ap (λ (some : List (List ℕ)). one.name ∷ some) (names_shown more)
