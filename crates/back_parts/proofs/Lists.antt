-- Lists of things that are made of others.
use Rattle.std.proofs.Common.{◌≡◌, Bool, true, false, cond, not, List, [], ◌∷◌, ◌++◌, map, filter, filter_map, find, length, suc, refl, sym, ap, ap₂, ◌∙◌, Option, Some, None}
use Rattle.std.specs.List.{flat_map, cons_option, AllByRecursion as Each}
use Rattle.load_model.specs.Left.{Left, nothing, all_of, firsts}
use Rattle.tree_places.proofs.Within.{Pairs}

-- what holds of each of two lists one after another holds of each of both
pub each_front : {X : Type 0} (P : X → Type 0) (xs ys : List X) → Each P (xs ++ ys) → Each P xs
each_front P [] ys each = tt
each_front P (x ∷ xs) ys each = (each.0, each_front P xs ys each.1)

pub each_behind : {X : Type 0} (P : X → Type 0) (xs ys : List X) → Each P (xs ++ ys) → Each P ys
each_behind P [] ys each = each
each_behind P (x ∷ xs) ys each = each_behind P xs ys each.1

-- what holds of each thing that is made
pub each_made : {X Y : Type 0} (P : Y → Type 0) (made : X → Y) → ((x : X) → P (made x)) → (xs : List X) → Each P (map made xs)
each_made P made so [] = tt
each_made P made so (x ∷ xs) = (so x, each_made P made so xs)

pub each_of_made : {X Y : Type 0} (P : Y → Type 0) (made : X → Y) (xs : List X) → Each P (map made xs) → Each (λ x. P (made x)) xs
each_of_made P made [] each = tt
each_of_made P made (x ∷ xs) each = (each.0, each_of_made P made xs each.1)

pub made_of_each : {X Y : Type 0} (P : Y → Type 0) (made : X → Y) (xs : List X) → Each (λ x. P (made x)) xs → Each P (map made xs)
made_of_each P made [] each = tt
made_of_each P made (x ∷ xs) each = (each.0, made_of_each P made xs each.1)

pub each_joined : {X : Type 0} (P Q R : X → Type 0) → ((x : X) → P x → Q x → R x) → (xs : List X) → Each P xs → Each Q xs → Each R xs
each_joined P Q R so [] ps qs = tt
each_joined P Q R so (x ∷ xs) ps qs = (so x ps.0 qs.0, each_joined P Q R so xs ps.1 qs.1)

pub each_part : {X Y : Type 0} (P : Y → Type 0) (parts : X → List Y) (xs : List X) → Each P (flat_map parts xs) → Each (λ x. Each P (parts x)) xs
each_part P parts [] each = tt
each_part P parts (x ∷ xs) each = (each_front P (parts x) (flat_map parts xs) each, each_part P parts xs (each_behind P (parts x) (flat_map parts xs) each))

pub each_both : {X : Type 0} (P : X → Type 0) (xs ys : List X) → Each P xs → Each P ys → Each P (xs ++ ys)
each_both P [] ys one other = other
each_both P (x ∷ xs) ys one other = (one.0, each_both P xs ys one.1 other)

-- all pass a test, or none does
module _ {X : Type 0} (test : X → Bool) where
  pub filter_all : (xs : List X) → Each (λ x. test x ≡ true) xs → filter test xs ≡ xs
  filter_all [] each = refl
  filter_all (x ∷ xs) each = ap₂ (λ (b : Bool) (more : List X). cond b (x ∷ more) more) each.0 (filter_all xs each.1)

  pub filter_none : (xs : List X) → Each (λ x. test x ≡ false) xs → filter test xs ≡ []
  filter_none [] each = refl
  filter_none (x ∷ xs) each = ap₂ (λ (b : Bool) (more : List X). cond b (x ∷ more) more) each.0 (filter_none xs each.1)

  pub find_none : (xs : List X) → Each (λ x. test x ≡ false) xs → find test xs ≡ None
  find_none [] each = refl
  find_none (x ∷ xs) each = ap₂ (λ (b : Bool) (more : Option X). cond b (Some x) more) each.0 (find_none xs each.1)

pub filter_made : {X Y : Type 0} (test : Y → Bool) (made : X → Y) (xs : List X) → filter test (map made xs) ≡ map made (filter (λ x. test (made x)) xs)
filter_made test made [] = refl
filter_made {X} {Y} test made (x ∷ xs) = by_test (test (made x)) (filter_made test made xs) where
  by_test : (b : Bool) → filter test (map made xs) ≡ map made (filter (λ x. test (made x)) xs)
      → cond b (made x ∷ filter test (map made xs)) (filter test (map made xs)) ≡ map made (cond b (x ∷ filter (λ x. test (made x)) xs) (filter (λ x. test (made x)) xs))
  by_test true rest = ap (λ (more : List Y). made x ∷ more) rest
  by_test false rest = rest

-- the first ones of things that are apart are all of them
pub firsts_made : {X Y : Type 0} (made : X → Y) (same : Y → Y → Bool) (xs : List X) → Pairs (λ x y. same (made x) (made y) ≡ false) xs → firsts same (map made xs) ≡ map made xs
firsts_made made same [] apart = refl
firsts_made {X} {Y} made same (x ∷ xs) apart =
    ap (λ (more : List Y). made x ∷ filter (λ other. not (same (made x) other)) more) (firsts_made made same xs apart.1)
    ∙ ap (λ (more : List Y). made x ∷ more) (filter_all (λ other. not (same (made x) other)) (map made xs) (others xs apart.0))
  where
    others : (ys : List X) → Each (λ y. same (made x) (made y) ≡ false) ys → Each (λ other. not (same (made x) other) ≡ true) (map made ys)
    others [] each = tt
    others (y ∷ ys) each = (ap not each.0, others ys each.1)

-- pairs of things of which something more holds
pub pairs_joined : {X : Type 0} (P : X → Type 0) (R S : X → X → Type 0) → ((x y : X) → P x → P y → R x y → S x y) → (xs : List X) → Each P xs → Pairs R xs → Pairs S xs
pairs_joined P R S so [] each apart = tt
pairs_joined {X} P R S so (x ∷ xs) each apart = (one xs each.1 apart.0, pairs_joined P R S so xs each.1 apart.1) where
  one : (ys : List X) → Each P ys → Each (R x) ys → Each (S x) ys
  one [] ps rs = tt
  one (y ∷ ys) ps rs = (so x y each.0 ps.0 rs.0, one ys ps.1 rs.1)

pub pairs_of_made : {X Y : Type 0} (R : Y → Y → Type 0) (made : X → Y) (xs : List X) → Pairs R (map made xs) → Pairs (λ x y. R (made x) (made y)) xs
pairs_of_made R made [] apart = tt
pairs_of_made R made (x ∷ xs) apart = (each_of_made (R (made x)) made xs apart.0, pairs_of_made R made xs apart.1)

-- what is read of each thing that is made
pub all_read : {X Y Z : Type 0} (made : X → Y) (read : Y → List Z) (value : X → Z) (xs : List X) → Each (λ x. read (made x) ≡ value x ∷ []) xs → flat_map read (map made xs) ≡ map value xs
all_read made read value [] each = refl
all_read {X} {Y} {Z} made read value (x ∷ xs) each = ap₂ (λ (one more : List Z). one ++ more) each.0 (all_read made read value xs each.1)

pub all_kept : {X Y Z : Type 0} (made : X → Y) (read : Y → Option Z) (value : X → Z) (xs : List X) → Each (λ x. read (made x) ≡ Some (value x)) xs → filter_map read (map made xs) ≡ map value xs
all_kept made read value [] each = refl
all_kept {X} {Y} {Z} made read value (x ∷ xs) each = ap₂ (λ (one : Option Z) (more : List Z). cons_option one more) each.0 (all_kept made read value xs each.1)

pub map_same : {X : Type 0} (xs : List X) → map (λ x. x) xs ≡ xs
map_same [] = refl
map_same {X} (x ∷ xs) = ap (λ (more : List X). x ∷ more) (map_same xs)

pub length_made : {X Y : Type 0} (made : X → Y) (xs : List X) → length (map made xs) ≡ length xs
length_made made [] = refl
length_made made (x ∷ xs) = ap suc (length_made made xs)

-- nothing is left out in all where nothing is in each
pub all_nothing : {X : Type 0} (left : X → Left) (xs : List X) → Each (λ x. left x ≡ nothing) xs → all_of (map left xs) ≡ nothing
all_nothing left [] each = refl
all_nothing left (x ∷ xs) each = ap (λ (one : Left). all_of (one ∷ map left xs)) each.0 ∙ all_nothing left xs each.1

pub none_left : {X Y : Type 0} (made : X → Y) (left : Y → Left) (xs : List X) → Each (λ x. left (made x) ≡ nothing) xs → all_of (map left (map made xs)) ≡ nothing
none_left made left [] each = refl
none_left made left (x ∷ xs) each = ap (λ (one : Left). all_of (one ∷ map left (map made xs))) each.0 ∙ none_left made left xs each.1

-- those of one kind stand first, and then the others
module _ {X : Type 0} (is : X → Bool) where
  abbrev AreSorted : List X → Type 0
  AreSorted xs = Pairs (λ left right. is right ≡ false → is left ≡ false) xs

  pub sorted : (xs : List X) → AreSorted xs → filter (λ x. not (is x)) xs ++ filter is xs ≡ xs
  sorted [] ordered = refl
  sorted (x ∷ xs) ordered = by_test (is x) refl (sorted xs ordered.1) where
    by_test : (b : Bool) → is x ≡ b → filter (λ x. not (is x)) xs ++ filter is xs ≡ xs → cond (not (is x)) (x ∷ filter (λ x. not (is x)) xs) (filter (λ x. not (is x)) xs) ++ cond (is x) (x ∷ filter is xs) (filter is xs) ≡ x ∷ xs
    by_test false e rest =
        ap (λ (b : Bool). cond (not b) (x ∷ filter (λ x. not (is x)) xs) (filter (λ x. not (is x)) xs) ++ cond b (x ∷ filter is xs) (filter is xs)) e
        ∙ ap (λ (more : List X). x ∷ more) rest
    by_test true e rest =
        ap (λ (b : Bool). cond (not b) (x ∷ filter (λ x. not (is x)) xs) (filter (λ x. not (is x)) xs) ++ cond b (x ∷ filter is xs) (filter is xs)) e
        ∙ ap₂ (λ (front behind : List X). front ++ x ∷ behind) (filter_none (λ x. not (is x)) xs (ap_each xs ordered.0)) (filter_all is xs (later xs ordered.0))
      where
        true_false : true ≡ false → ⊥
        true_false e = cc

        one : (y : X) → (is y ≡ false → is x ≡ false) → is y ≡ true
        one y so = by_other (is y) refl where
          by_other : (b : Bool) → is y ≡ b → is y ≡ true
          by_other true f = f
          by_other false f = absurd (true_false (sym e ∙ so f))

        later : (ys : List X) → Each (λ y. is y ≡ false → is x ≡ false) ys → Each (λ y. is y ≡ true) ys
        later [] each = tt
        later (y ∷ ys) each = (one y each.0, later ys each.1)

        ap_each : (ys : List X) → Each (λ y. is y ≡ false → is x ≡ false) ys → Each (λ y. not (is y) ≡ false) ys
        ap_each [] each = tt
        ap_each (y ∷ ys) each = (ap not (one y each.0), ap_each ys each.1)

-- a test of those that pass another
pub each_passed : {X : Type 0} (test : X → Bool) (xs : List X) → Each (λ x. test x ≡ true) (filter test xs)
each_passed test [] = tt
each_passed {X} test (x ∷ xs) = by_test (test x) refl (each_passed test xs) where
  by_test : (b : Bool) → test x ≡ b → Each (λ x. test x ≡ true) (filter test xs) → Each (λ x. test x ≡ true) (cond b (x ∷ filter test xs) (filter test xs))
  by_test true e rest = (e, rest)
  by_test false e rest = rest
