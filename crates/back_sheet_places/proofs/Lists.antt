-- What is chosen, found and joined of changed things, where the changes are of no account.
use Rattle.std.proofs.Common.{◌≡◌, Bool, true, false, cond, not, List, [], ◌∷◌, ◌++◌, map, filter, filter_map, find, refl, ap, ap₂, sym, ◌∙◌, Option, Some, None, option_map, option_to_list}
use Rattle.std.specs.List.{flat_map, cons_option}
use Rattle.std.specs.Option.{option_map_or}
use Rattle.std.proofs.lemmas.List.{map-append}
use Rattle.load_model.specs.Left.{firsts}

module _ {X Y : Type 0} (change : X → Y) where
  pub filtered : (test : Y → Bool) (plain : X → Bool) → ((x : X) → test (change x) ≡ plain x) → (xs : List X) → filter test (map change xs) ≡ map change (filter plain xs)
  filtered test plain e [] = refl
  filtered test plain e (x ∷ xs) =
      ap₂ (λ (is : Bool) (more : List Y). cond is (change x ∷ more) more) (e x) (filtered test plain e xs) ∙ by_test (plain x)
    where
      by_test : (is : Bool) → cond is (change x ∷ map change (filter plain xs)) (map change (filter plain xs)) ≡ map change (cond is (x ∷ filter plain xs) (filter plain xs))
      by_test true = refl
      by_test false = refl

  pub firsts_changed : (same : Y → Y → Bool) (plain : X → X → Bool) → ((x y : X) → same (change x) (change y) ≡ plain x y) → (xs : List X) → firsts same (map change xs) ≡ map change (firsts plain xs)
  firsts_changed same plain e [] = refl
  firsts_changed same plain e (x ∷ xs) =
      ap (λ (more : List Y). change x ∷ more)
      (ap (filter (λ other. not (same (change x) other))) (firsts_changed same plain e xs)
      ∙ filtered (λ other. not (same (change x) other)) (λ other. not (plain x other)) (λ other. ap not (e x other)) (firsts plain xs))

  pub found : (test : Y → Bool) (plain : X → Bool) → ((x : X) → test (change x) ≡ plain x) → (xs : List X) → find test (map change xs) ≡ option_map change (find plain xs)
  found test plain e [] = refl
  found test plain e (x ∷ xs) = ap₂ (λ (is : Bool) (more : Option Y). cond is (Some (change x)) more) (e x) (found test plain e xs) ∙ by_test (plain x) where
    by_test : (is : Bool) → cond is (Some (change x)) (option_map change (find plain xs)) ≡ option_map change (cond is (Some x) (find plain xs))
    by_test true = refl
    by_test false = refl

  pub listed : (value : Option X) → option_to_list (option_map change value) ≡ map change (option_to_list value)
  listed None = refl
  listed (Some x) = refl

  pub or_otherwise : {A : Type 0} (made : Y → A) (plain : X → A) (otherwise : A) → ((x : X) → made (change x) ≡ plain x) → (value : Option X) → option_map_or made (option_map change value) otherwise ≡ option_map_or plain value otherwise
  or_otherwise made plain otherwise e None = refl
  or_otherwise made plain otherwise e (Some x) = e x

  pub mapped : {A : Type 0} (made : Y → A) (plain : X → A) → ((x : X) → made (change x) ≡ plain x) → (xs : List X) → map made (map change xs) ≡ map plain xs
  mapped made plain e [] = refl
  mapped made plain e (x ∷ xs) = ap₂ (λ one more. one ∷ more) (e x) (mapped made plain e xs)

  pub joined : {A : Type 0} (made : Y → List A) (plain : X → List A) → ((x : X) → made (change x) ≡ plain x) → (xs : List X) → flat_map made (map change xs) ≡ flat_map plain xs
  joined made plain e [] = refl
  joined made plain e (x ∷ xs) = ap₂ (λ one more. one ++ more) (e x) (joined made plain e xs)

  pub picked : {A : Type 0} (made : Y → Option A) (plain : X → Option A) → ((x : X) → made (change x) ≡ plain x) → (xs : List X) → filter_map made (map change xs) ≡ filter_map plain xs
  picked made plain e [] = refl
  picked made plain e (x ∷ xs) = ap₂ cons_option (e x) (picked made plain e xs)

  -- what several make, where each makes changed things
  pub joined_changed : {A : Type 0} (made : A → List Y) (plain : A → List X) → ((a : A) → made a ≡ map change (plain a)) → (all : List A) → flat_map made all ≡ map change (flat_map plain all)
  joined_changed made plain e [] = refl
  joined_changed made plain e (one ∷ more) = ap₂ (λ (front behind : List Y). front ++ behind) (e one) (joined_changed made plain e more) ∙ sym (map-append change (plain one) (flat_map plain more))

-- one more of some that are the same
pub next : {X : Type 0} {one other : X} {more others : List X} → one ≡ other → more ≡ others → (one ∷ more) ≡ (other ∷ others)
next e rest = ap₂ (λ x xs. x ∷ xs) e rest

pub last : {X : Type 0} {one other : X} → one ≡ other → (one ∷ []) ≡ (other ∷ [])
last e = ap (λ x. x ∷ []) e

pub none_changed : {X Y : Type 0} (change : X → Y) (xs : List X) → map change xs ≡ [] → xs ≡ []
none_changed change [] e = refl
none_changed change (x ∷ xs) e = absurd cc

-- what several make, each changed
pub changed_joined : {X Y Z : Type 0} (change : Y → Z) (made : X → List Y) (plain : X → List Z) → ((x : X) → map change (made x) ≡ plain x) → (xs : List X) → map change (flat_map made xs) ≡ flat_map plain xs
changed_joined change made plain e [] = refl
changed_joined change made plain e (x ∷ xs) = map-append change (made x) (flat_map made xs) ∙ ap₂ (λ one more. one ++ more) (e x) (changed_joined change made plain e xs)
