-- How many more sections can stand in those that are met.
use Rattle.std.proofs.Common.{◌≡◌, ◌≢◌, ◌<◌, ◌≤◌, ◌+◌, ◌-◌, ◌==◌, ◌&&◌, inl, inr, ℕ, nat_le, nat_eq, Bool, true, false, cond, List, [], ◌∷◌, ◌++◌, map, filter, length, take, get_or, All, slice_get, refl, sym, ap, ap₂, ◌∙◌, subst, arith, append_assoc, Option, Some, None, option_to_list, unwrap_or, eq-eqb, ne_eqb, leb-true, leb-false}
use Rattle.std.specs.List.{filter_map, AllByRecursion as Each}
use Rattle.std.proofs.lemmas.List.{length-append, map-append, take_more, take_all, get_or-map, length-map}
use Rattle.std.proofs.lemmas.List.Elements.{filter-append, filter_agree, filter_map-append, All-nil, All-push, All-from_recursion, recursion_from_All}
use Rattle.load_model.specs.Met.{Met, MetSection, Section, Note, Reference, Mark, Sequence, Variable, Table, sections_met, kept_sections, is_at}
use Rattle.load_model.specs.Offences.{place_if, too_deep}
use Rattle.met_read.specs.declared.things.Met.{Met as Read}
use Rattle.met_read.specs.Read.{last, met_of, outlined}
use Rattle.met_read.proofs.WalkLemmas.{last_behind}
use Rattle.kept_names.specs.Places.{AreSame}
use Rattle.section_faults.specs.Nested.{AreNested, StandsIn, IsNested}
use Rattle.section_faults.specs.Rooms.{depth, kept_among, room_within, room_in, room_at, is_deep, Holds, Follows}
use Rattle.section_faults.specs.Sections.{outline, section_in}
use Rattle.section_faults.proofs.KeptLemmas.{place_of, kept_at}
use Rattle.section_faults.proofs.PartLemmas.{pairs_of_all, all_of_pairs, part_front, part_pairs, last_pair}

abbrev Differ : MetSection → MetSection → Type 0
Differ section other = section.place ≢ other.place

some_none : {X : Type 0} {x : X} → Some x ≡ None → ⊥
some_none e = cc

-- one more place
kept_behind : (kept around : List ℕ) (place : ℕ) → kept_among kept (around ++ place ∷ []) ≡ kept_among kept around + cond (is_at kept place) 1 0
kept_behind kept around place =
    ap (λ (some : List ℕ). length some) (filter-append (is_at kept) around (place ∷ [])) ∙ length-append (filter (is_at kept) around) (filter (is_at kept) (place ∷ []))
    ∙ ap (λ n. kept_among kept around + n) (one_more (is_at kept place)) where
      one_more : (b : Bool) → length (cond b (place ∷ []) []) ≡ cond b 1 0
      one_more true = refl
      one_more false = refl

less_again : (all some more : ℕ) → all - (some + more) ≡ (all - some) - more
less_again all some more = omega arith

room_behind : (kept around : List ℕ) (place : ℕ) → room_within kept (around ++ place ∷ []) ≡ room_within kept around - cond (is_at kept place) 1 0
room_behind kept around place = ap (λ n. depth - n) (kept_behind kept around place) ∙ less_again depth (kept_among kept around) (cond (is_at kept place) 1 0)

no_room : (all some : ℕ) → ((all - some) == 0) ≡ nat_le all some
no_room all some = by_test (nat_le all some) refl where
  by_test : (b : Bool) → nat_le all some ≡ b → ((all - some) == 0) ≡ b
  by_test true e = let l = leb-true all some e in eq-eqb (all - some) 0 (omega (arith, l))
  by_test false e = let l = leb-false all some e in ne_eqb (all - some) 0 (λ z. omega (arith, l, z))

-- the room where a section stands
same_option : (one other : Option ℕ) → option_to_list one ≡ option_to_list other → one ≡ other
same_option one other e = sym (back one) ∙ ap (λ (some : List ℕ). slice_get some 0) e ∙ back other where
  back : (o : Option ℕ) → slice_get (option_to_list o) 0 ≡ o
  back None = refl
  back (Some x) = refl

room_found : (kept : List ℕ) (rooms : ℕ → Option ℕ) (before : List MetSection) (this : MetSection) (within : Option ℕ) → All (λ (section : MetSection). rooms section.place ≡ Some (room_in kept section)) before
    → StandsIn before this → option_to_list within ≡ option_to_list (last this.around) → room_at rooms within ≡ room_within kept this.around
room_found kept rooms before this within known stands alike =
    let is : within ≡ last this.around = same_option within (last this.around) alike in
    elim stands [
      | inl none ↦ ap (room_at rooms) (is ∙ ap last none) ∙ sym (ap (room_within kept) none)
      | inr outer ↦
          let there : rooms outer.1.place ≡ Some (room_in kept outer.1) =
          subst (λ (section : MetSection). rooms section.place ≡ Some (room_in kept section)) outer.3 (known outer.0 outer.1 outer.2) in
          ap (room_at rooms) (is ∙ ap last outer.4 ∙ last_behind outer.1.around outer.1.place) ∙ ap (λ (o : Option ℕ). unwrap_or o depth) there ∙ sym (ap (room_within kept) outer.4)
    ]

-- the sections before the last one are nested, and stand elsewhere
nested_before : (before : List MetSection) (this : MetSection) → AreNested (before ++ this ∷ []) → AreNested before
nested_before before this nested = record {
  apart = all_of_pairs Differ before (part_pairs Differ before (before ++ this ∷ []) (part_front before (this ∷ [])) (pairs_of_all Differ (before ++ this ∷ []) nested.apart));
  inside = λ front section behind e. nested.inside front section (behind ++ this ∷ []) (ap (λ (some : List MetSection). some ++ this ∷ []) e ∙ append_assoc front (section ∷ behind) (this ∷ []));
}

set_others : (old new : ℕ → Option ℕ) (place inner : ℕ) (known : MetSection → ℕ) (some : List MetSection) → Each (λ (section : MetSection). section.place ≢ place) some
    → ((other : ℕ) → new other ≡ cond (nat_eq place other) (Some inner) (old other)) → Each (λ (section : MetSection). old section.place ≡ Some (known section)) some → Each (λ (section : MetSection). new section.place ≡ Some (known section)) some
set_others old new place inner known [] apart put h = tt
set_others old new place inner known (section ∷ some) apart put h = (
  put section.place ∙ ap (λ b. cond b (Some inner) (old section.place)) (ne_eqb place section.place (λ e. apart.0 (sym e))) ∙ h.0,
  set_others old new place inner known some apart.1 put h.1,
)

placed : (b : Bool) (this : MetSection) → place_if b this.place ≡ map place_of (cond b (this ∷ []) [])
placed true this = refl
placed false this = refl

-- one section more
module _ (kept : List ℕ) (old new : ℕ → Option ℕ) (before : List MetSection) (this : MetSection) (places later : List ℕ) (within : Option ℕ) (is_kept too_many : Bool) (room inner : ℕ)
    (alike : option_to_list within ≡ option_to_list (last this.around)) (told : is_kept ≡ is_at kept this.place) (found : room ≡ room_at old within) (decided : too_many ≡ (is_kept && room == 0))
    (less : inner ≡ room - cond is_kept 1 0) (pushed : later ≡ places ++ place_if too_many this.place) (put : (other : ℕ) → new other ≡ cond (nat_eq this.place other) (Some inner) (old other)) (follows : Follows kept old places before) where
  module _ (nested : AreNested (before ++ this ∷ [])) where
    holds : Holds kept old places before
    holds = follows (nested_before before this nested)

    has_room : room ≡ room_within kept this.around
    has_room = found ∙ room_found kept old before this within holds.rooms_are (nested.inside before this [] refl) alike

    deep_is : too_many ≡ is_deep kept this
    deep_is = decided ∙ ap₂ (λ a b. a && b) told (ap (λ n. n == 0) has_room ∙ no_room depth (kept_among kept this.around))

    inner_is : inner ≡ room_in kept this
    inner_is = less ∙ ap₂ (λ n b. n - cond b 1 0) has_room told ∙ sym (room_behind kept this.around this.place)

    others : Each (λ (section : MetSection). section.place ≢ this.place) before
    others = last_pair Differ before this (pairs_of_all Differ (before ++ this ∷ []) nested.apart)

    all_hold : Holds kept new later (before ++ this ∷ [])
    all_hold = record {
      rooms_are = All-push (λ (section : MetSection). new section.place ≡ Some (room_in kept section)) before this
          (All-from_recursion (λ (section : MetSection). new section.place ≡ Some (room_in kept section)) before
          (set_others old new this.place inner (room_in kept) before others put (recursion_from_All (λ (section : MetSection). old section.place ≡ Some (room_in kept section)) before holds.rooms_are)))
          (put this.place ∙ ap (λ b. cond b (Some inner) (old this.place)) (eq-eqb this.place this.place refl) ∙ ap Some inner_is);
      places_are = pushed ∙ ap₂ (λ (some more : List ℕ). some ++ more) holds.places_are (ap (λ b. place_if b this.place) deep_is ∙ placed (is_deep kept this) this)
          ∙ sym (map-append place_of (filter (is_deep kept) before) (filter (is_deep kept) (this ∷ [])))
          ∙ ap (map place_of) (sym (filter-append (is_deep kept) before (this ∷ [])));
    }

  pub follows_more : Follows kept new later (before ++ this ∷ [])
  follows_more nested = all_hold nested

pub follows_none : (kept : List ℕ) (rooms : ℕ → Option ℕ) (places : List ℕ) → places ≡ [] → Follows kept rooms places []
follows_none kept rooms places e nested = record { rooms_are = All-nil (λ (section : MetSection). rooms section.place ≡ Some (room_in kept section)); places_are = e }

-- of all sections those that are kept are asked
both_tests : {X : Type 0} (p q : X → Bool) (xs : List X) → filter (λ x. p x && q x) xs ≡ filter q (filter p xs)
both_tests p q [] = refl
both_tests {X} p q (x ∷ xs) = by_test (p x) (both_tests p q xs) where
  by_test : (b : Bool) → filter (λ x. p x && q x) xs ≡ filter q (filter p xs) → cond (b && q x) (x ∷ filter (λ x. p x && q x) xs) (filter (λ x. p x && q x) xs) ≡ filter q (cond b (x ∷ filter p xs) (filter p xs))
  by_test true e = ap (λ (more : List X). cond (q x) (x ∷ more) more) e
  by_test false e = e

pub deep_are : (kept : List ℕ) (rooms : ℕ → Option ℕ) (places : List ℕ) (all : List Met) → AreSame kept (map place_of (kept_sections all)) → IsNested all → Follows kept rooms places (sections_met all) → places ≡ too_deep all
deep_are kept rooms places all same nested follows =
    let there = map place_of (kept_sections all) in
    let holds : Holds kept rooms places (sections_met all) = follows nested in
    let test : MetSection → Bool = λ (section : MetSection). nat_le depth (kept_among there section.around) in
    holds.places_are
    ∙ ap (map place_of) (filter_agree (is_deep kept) (is_deep there) (λ section. ap₂ (λ a n. a && nat_le depth n) (same section.place)
    (ap (λ (some : List ℕ). length some) (filter_agree (is_at kept) (is_at there) same section.around))) (sections_met all)
    ∙ both_tests (λ (section : MetSection). is_at there section.place) test (sections_met all)
    ∙ ap (filter test) (kept_at all nested.apart))

-- what is met, one by one
sections_are : (met : List Met) → sections_met met ≡ filter_map section_in met
sections_are [] = refl
sections_are (Section section ∷ met) = ap (λ (more : List MetSection). section ∷ more) (sections_are met)
sections_are (Mark one ∷ met) = sections_are met
sections_are (Note one ∷ met) = sections_are met
sections_are (Reference one ∷ met) = sections_are met
sections_are (Sequence one ∷ met) = sections_are met
sections_are (Variable one ∷ met) = sections_are met
sections_are (Table one ∷ met) = sections_are met

pub sections_append : (some more : List Met) → sections_met (some ++ more) ≡ sections_met some ++ sections_met more
sections_append some more =
    sections_are (some ++ more) ∙ filter_map-append section_in some more ∙ ap₂ (λ (xs ys : List MetSection). xs ++ ys) (sym (sections_are some)) (sym (sections_are more))

sections_more : (all : List Met) (at : ℕ) (d : Met) → at < length all → sections_met (take at all) ++ sections_met (get_or all at d ∷ []) ≡ sections_met (take (at + 1) all)
sections_more all at d l = sym (ap sections_met (take_more all at d l) ∙ sections_append (take at all) (get_or all at d ∷ []))

abbrev no_thing : Met
no_thing = Table 0

as_many : (met : List Read) (all : List Met) → map met_of met ≡ map outlined all → length met ≡ length all
as_many met all alike = sym (length-map met met_of) ∙ ap (λ (some : List Met). length some) alike ∙ length-map all outlined

pub next_follows : (kept : List ℕ) (old new : ℕ → Option ℕ) (places later : List ℕ) (met : List Read) (at : ℕ) (d : Read) → at < length met
    → ((before : List MetSection) (this : Met) → met_of (get_or met at d) ≡ outlined this → Follows kept old places before → Follows kept new later (before ++ sections_met (this ∷ [])))
    → ((all : List Met) → map met_of met ≡ map outlined all → Follows kept old places (sections_met (take at all)))
    → (all : List Met) → map met_of met ≡ map outlined all → Follows kept new later (sections_met (take (at + 1) all))
next_follows kept old new places later met at d l step known all alike =
    let many = as_many met all alike in
    let inside : at < length all = omega (arith, l, many) in
    let here : met_of (get_or met at d) ≡ outlined (get_or all at no_thing) =
    sym (get_or-map met_of met at d no_thing l) ∙ ap (λ (some : List Met). get_or some at no_thing) alike ∙ get_or-map outlined all at no_thing no_thing inside in
    subst (Follows kept new later) (sections_more all at no_thing inside) (step (sections_met (take at all)) (get_or all at no_thing) here (known all alike))

pub all_follow : (kept : List ℕ) (rooms : ℕ → Option ℕ) (places : List ℕ) (met : List Read) (at : ℕ) → length met ≤ at
    → ((all : List Met) → map met_of met ≡ map outlined all → Follows kept rooms places (sections_met (take at all)))
    → (all : List Met) → map met_of met ≡ map outlined all → Follows kept rooms places (sections_met all)
all_follow kept rooms places met at l known all alike =
    let many = as_many met all alike in
    subst (λ (some : List Met). Follows kept rooms places (sections_met some)) (take_all at all (omega (arith, l, many))) (known all alike)

-- the section that is met
pub some_section : (this : Met) (section : MetSection) → Some section ≡ section_in (outlined this) → (one : MetSection) × (section ≡ outline one) × (sections_met (this ∷ []) ≡ one ∷ [])
some_section (Section one) section e = (one, ap (λ (o : Option MetSection). unwrap_or o section) e, refl)
some_section (Mark one) section e = absurd (some_none e)
some_section (Note one) section e = absurd (some_none e)
some_section (Reference one) section e = absurd (some_none e)
some_section (Sequence one) section e = absurd (some_none e)
some_section (Variable one) section e = absurd (some_none e)
some_section (Table one) section e = absurd (some_none e)

pub no_section : (this : Met) → None ≡ section_in (outlined this) → sections_met (this ∷ []) ≡ []
no_section (Section one) e = absurd (some_none (sym e))
no_section (Mark one) e = refl
no_section (Note one) e = refl
no_section (Reference one) e = refl
no_section (Sequence one) e = refl
no_section (Variable one) e = refl
no_section (Table one) e = refl
