-- As many declarations and first uses are counted as names are declared.
use Rattle.std.proofs.Common.{◌≡◌, ℕ, ◌+◌, not, Bool, true, false, List, [], ◌∷◌, length, map, filter, arith, length-append, nat_lt}
use Rattle.std.proofs.lemmas.List.{length-map}
use Rattle.load_model.specs.declared.element.Element.{Element}
use Rattle.load_model.specs.Blocks.{Declared}
use Rattle.load_model.specs.Loaded.{declared_names, kept_declarations, used_names}
use Rattle.load_model.specs.Met.{MetName}
use Rattle.load_model.specs.Offences.{declaration_places, merged}
use Rattle.back_offences.proofs.Lists.{both_halves}

-- two lists as one are as many as both
merged_counted : (places more : List ℕ) → length (merged places more) ≡ length places + length more
merged_counted places [] = omega arith
merged_counted places (place ∷ more) =
    let lesser = filter (λ other. nat_lt other place) places in
    let others = filter (λ other. not (nat_lt other place)) places in
    let rest = merged_counted others more in
    let halves = both_halves (λ other. nat_lt other place) places in
    let size = length-append lesser (place ∷ merged others more) in
    omega (arith, rest, halves, size)

-- the names of one kind
abbrev stated : Bool → Element → List ℕ
stated sequences root = map (λ declared. declared.place) (kept_declarations sequences root)

abbrev used : Bool → Element → List ℕ
used sequences root = map (λ used. used.place) (used_names sequences root)

names_counted : (sequences : Bool) (root : Element) → length (declared_names sequences root) ≡ length (stated sequences root) + length (used sequences root)
names_counted sequences root =
    let kept = kept_declarations sequences root in
    let first = used_names sequences root in
    let size = length-append (map (λ (declared : Declared). declared.name) kept) (map (λ (used : MetName). used.name) first) in
    let one = length-map kept (λ (declared : Declared). declared.name) in
    let two = length-map first (λ (used : MetName). used.name) in
    let one_place = length-map kept (λ (declared : Declared). declared.place) in
    let two_places = length-map first (λ (used : MetName). used.place) in
    omega (arith, size, one, two, one_place, two_places)

pub declarations_counted : (root : Element) → length (declaration_places root) ≡ length (declared_names false root) + length (declared_names true root)
declarations_counted root =
    let size = length-append (merged (stated false root) (stated true root)) (merged (used false root) (used true root)) in
    let front = merged_counted (stated false root) (stated true root) in
    let behind = merged_counted (used false root) (used true root) in
    let variables = names_counted false root in
    let sequences = names_counted true root in
    omega (arith, size, front, behind, variables, sequences)
