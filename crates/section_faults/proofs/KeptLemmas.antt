-- The sections that are kept.
use Rattle.std.proofs.Common.{◌≡◌, ◌≢◌, ◌<◌, ◌≤◌, ◌+◌, ◌-◌, ℕ, zero, suc, Bool, true, false, cond, List, [], ◌∷◌, map, filter, length, take, drop, get_or, refl, sym, ap, ap₂, ◌∙◌, arith, Option, Some, None}
use Rattle.std.specs.List.{cons_option}
use Rattle.std.proofs.lemmas.List.{drop_more, drop_all}
use Rattle.std.proofs.lemmas.List.Elements.{filter_agree}
use Rattle.std.specs.Str.{bytes_eq}
use Rattle.load_model.specs.Met.{Met, MetSection, Section, Note, Reference, Mark, Sequence, Variable, Table, sections_met, kept_sections, is_at}
use Rattle.met_read.specs.declared.things.Met.{Met as Read}
use Rattle.met_read.specs.Read.{met_of, outlined}
use Rattle.kept_names.specs.Places.{AreSame}
use Rattle.section_faults.specs.Nested.{AreApart}
use Rattle.section_faults.specs.Sections.{kept_place, kept_places}
use Rattle.section_faults.proofs.PartLemmas.{pairs_of_all, part_firsts, those_at}

abbrev pub place_of : MetSection → ℕ
place_of section = section.place

-- the sections at the places of those that are kept
pub kept_at : (all : List Met) → AreApart (sections_met all) → filter (λ (section : MetSection). is_at (map place_of (kept_sections all)) section.place) (sections_met all) ≡ kept_sections all
kept_at all apart =
    those_at place_of (kept_sections all) (sections_met all) (part_firsts (λ (one other : MetSection). bytes_eq one.name other.name) (sections_met all))
    (pairs_of_all (λ (one other : MetSection). one.place ≢ other.place) (sections_met all) apart)

pub kept_by : (kept : List ℕ) (all : List Met) → AreSame kept (map place_of (kept_sections all)) → AreApart (sections_met all) → filter (λ (section : MetSection). is_at kept section.place) (sections_met all) ≡ kept_sections all
kept_by kept all same apart =
    filter_agree (λ (section : MetSection). is_at kept section.place) (λ (section : MetSection). is_at (map place_of (kept_sections all)) section.place) (λ section. same section.place) (sections_met all) ∙ kept_at all apart

-- their places, as they are met
filtered : (kept : List ℕ) (met : List Met) → kept_places kept met ≡ map place_of (filter (λ (section : MetSection). is_at kept section.place) (sections_met met))
filtered kept [] = refl
filtered kept (Section section ∷ met) = by_test (is_at kept section.place) (filtered kept met) where
  by_test : (b : Bool) → kept_places kept met ≡ map place_of (filter (λ (section : MetSection). is_at kept section.place) (sections_met met))
      → cons_option (cond b (Some section.place) None) (kept_places kept met)
      ≡ map place_of (cond b (section ∷ filter (λ (section : MetSection). is_at kept section.place) (sections_met met)) (filter (λ (section : MetSection). is_at kept section.place) (sections_met met)))
  by_test true e = ap (λ (more : List ℕ). section.place ∷ more) e
  by_test false e = e
filtered kept (Mark one ∷ met) = filtered kept met
filtered kept (Note one ∷ met) = filtered kept met
filtered kept (Reference one ∷ met) = filtered kept met
filtered kept (Sequence one ∷ met) = filtered kept met
filtered kept (Variable one ∷ met) = filtered kept met
filtered kept (Table one ∷ met) = filtered kept met

place_alike : (kept : List ℕ) (one : Met) → kept_place kept (outlined one) ≡ kept_place kept one
place_alike kept (Section one) = refl
place_alike kept (Mark one) = refl
place_alike kept (Note one) = refl
place_alike kept (Reference one) = refl
place_alike kept (Sequence one) = refl
place_alike kept (Variable one) = refl
place_alike kept (Table one) = refl

places_alike : (kept : List ℕ) (met : List Met) → kept_places kept (map outlined met) ≡ kept_places kept met
places_alike kept [] = refl
places_alike kept (one ∷ met) = ap₂ (λ (o : Option ℕ) (more : List ℕ). cons_option o more) (place_alike kept one) (places_alike kept met)

pub places_by : (kept : List ℕ) (read : List Read) (all : List Met) → map met_of read ≡ map outlined all → AreSame kept (map place_of (kept_sections all)) → AreApart (sections_met all)
    → kept_places kept (map met_of read) ≡ map place_of (kept_sections all)
places_by kept read all alike same apart =
    ap (kept_places kept) alike ∙ places_alike kept all ∙ filtered kept all ∙ ap (map place_of) (kept_by kept all same apart)

-- the one behind so many, of those that are left behind some
module _ (limit : ℕ) (kept : List ℕ) (met : List Read) (at : ℕ) (d : Read) (before : ℕ) (all : List ℕ) (l : at < length met) (rest : take 1 (drop (limit - before) (kept_places kept (map met_of (drop at met)))) ≡ all) where
  abbrev behind : List ℕ
  behind = kept_places kept (map met_of (drop (at + 1) met))

  opened : (place : Option ℕ) → place ≡ kept_place kept (met_of (get_or met at d)) → kept_places kept (map met_of (drop at met)) ≡ cons_option place behind
  opened place is = ap (λ (some : List Read). kept_places kept (map met_of some)) (drop_more met at d l) ∙ ap (λ (o : Option ℕ). cons_option o behind) (sym is)

  pub passed_here : None ≡ kept_place kept (met_of (get_or met at d)) → take 1 (drop (limit - before) behind) ≡ all
  passed_here is = sym (ap (λ (some : List ℕ). take 1 (drop (limit - before) some)) (opened None is)) ∙ rest

  pub counted_here : (place : ℕ) → Some place ≡ kept_place kept (met_of (get_or met at d)) → before < limit → take 1 (drop (limit - (before + 1)) behind) ≡ all
  counted_here place is few =
      let e : limit - before ≡ suc (limit - (before + 1)) = omega (arith, few) in
      sym (ap₂ (λ n (some : List ℕ). take 1 (drop n some)) e (opened (Some place) is)) ∙ rest

  pub found_here : (place : ℕ) → Some place ≡ kept_place kept (met_of (get_or met at d)) → before ≡ limit → place ∷ [] ≡ all
  found_here place is many =
      let e : limit - before ≡ 0 = omega (arith, many) in
      sym (ap₂ (λ n (some : List ℕ). take 1 (drop n some)) e (opened (Some place) is)) ∙ rest

pub none_left : (count : ℕ) (kept : List ℕ) (met : List Read) (at : ℕ) (all : List ℕ) → length met ≤ at → take 1 (drop count (kept_places kept (map met_of (drop at met)))) ≡ all → [] ≡ all
none_left count kept met at all l rest = sym (none count) ∙ sym (ap (λ (some : List Read). take 1 (drop count (kept_places kept (map met_of some)))) (drop_all at met l)) ∙ rest where
  none : (n : ℕ) → ◌≡◌ {A = List ℕ} (take 1 (drop n [])) []
  none zero = refl
  none (suc n) = refl
