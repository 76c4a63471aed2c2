-- The first of each name.
use Rattle.std.proofs.Common.{◌≡◌, ℕ, ◌+◌, ◌<◌, ◌==◌, ◌||◌, not, Bool, true, false, cond, List, [], ◌∷◌, ◌++◌, length, map, take, get_or, refl, sym, ap, ap₂, ◌∙◌, append-nil, Option, Some, None, Bor, IsTrue, subst}
use Rattle.std.proofs.lemmas.Bool.Decides.{same_from_decides, Decides-like, Decides-eqb}
use Rattle.std.proofs.lemmas.List.{map-append, take_more}
use Rattle.std.proofs.lemmas.List.Elements.{filter-append, filter_map-append}
use Rattle.std.proofs.lemmas.List.Folds.{list_any-append}
use Rattle.std.proofs.lemmas.Slice.Eq.{bytes_eq-Decides}
use Rattle.std.specs.List.{list_any, filter, cons_option}
use Rattle.std.specs.Str.{bytes_eq, IsUtf8, chars}
use Rattle.doc_model.proofs.SameText.{same_chars}
use Rattle.load_model.specs.Left.{firsts}
use Rattle.load_model.specs.Met.{Met, MetName, MetSection, Section, Note, Reference, Mark, Sequence, Variable, Table, first_of_each_name, is_at, notes_met, references_met, sections_met, kept_sections}
use Rattle.met_read.specs.declared.things.Met.{Met as Read}
use Rattle.met_read.specs.Read.{met_of, outlined}
use Rattle.kept_names.specs.declared.firsts.Kind.{Kind}
use Rattle.kept_names.specs.declared.firsts.Kind.TheVariants as kind
use Rattle.kept_names.specs.declared.firsts.Firsts.{Firsts}
use Rattle.kept_names.specs.Firsts.{Holds, name_met, named, first_places}
use Rattle.kept_names.specs.Places.{AreSame}

pub either_number : (x y : ℕ) → (x == y) ≡ (y == x)
either_number x y = same_from_decides (x == y) (y == x) (Decides-eqb x y) (Decides-like (y == x) (λ e. sym e) (λ e. sym e) (Decides-eqb y x))

pub either_text : (xs ys : List ℕ) → bytes_eq xs ys ≡ bytes_eq ys xs
either_text xs ys = same_from_decides (bytes_eq xs ys) (bytes_eq ys xs) (bytes_eq-Decides xs ys) (Decides-like (bytes_eq ys xs) (λ e. sym e) (λ e. sym e) (bytes_eq-Decides ys xs))

pub or_false : (b : Bool) → (b || false) ≡ b
or_false true = refl
or_false false = refl

-- places in another form
pub same_places : (places : List ℕ) (place : ℕ) → list_any (λ other. place == other) places ≡ is_at places place
same_places [] place = refl
same_places (other ∷ places) place = ap₂ (λ a b. a || b) (either_number place other) (same_places places place)

pub places_behind : (old others : List ℕ) (place : ℕ) → AreSame old others → AreSame (old ++ place ∷ []) (others ++ place ∷ [])
places_behind old others place same = λ p.
    list_any-append (λ other. other == p) old (place ∷ []) ∙ ap (λ b. b || ((place == p) || false)) (same p) ∙ sym (list_any-append (λ other. other == p) others (place ∷ []))

-- one more thing behind some: it is a first one where none of them is the same
module _ {X : Type 0} (same : X → X → Bool) where
  alone : (x y : X) (s b : Bool) → same x y ≡ s → filter (λ other. not (same x other)) (cond b [] (y ∷ [])) ≡ cond (s || b) [] (y ∷ [])
  alone x y true true e = refl
  alone x y false true e = refl
  alone x y true false e = ap (λ s. cond (not s) (y ∷ []) []) e
  alone x y false false e = ap (λ s. cond (not s) (y ∷ []) []) e

  pub firsts_behind : (xs : List X) (y : X) → firsts same (xs ++ y ∷ []) ≡ firsts same xs ++ cond (list_any (λ other. same other y) xs) [] (y ∷ [])
  firsts_behind [] y = refl
  firsts_behind (x ∷ xs) y =
      ap (λ (more : List X). x ∷ filter (λ other. not (same x other)) more) (firsts_behind xs y)
      ∙ ap (λ (more : List X). x ∷ more) (filter-append (λ other. not (same x other)) (firsts same xs) (cond (list_any (λ other. same other y) xs) [] (y ∷ [])))
      ∙ ap (λ (more : List X). x ∷ (filter (λ other. not (same x other)) (firsts same xs) ++ more)) (alone x y (same x y) (list_any (λ other. same other y) xs) refl)

-- the names that came, by texts and by characters
abbrev pub came : List (Bor (List ℕ)) → List ℕ → Bool
came keys text = list_any (λ (key : Bor (List ℕ)). bytes_eq text key.now) keys

abbrev pub came_before : List MetName → List ℕ → Bool
came_before before name = list_any (λ (one : MetName). bytes_eq one.name name) before

abbrev pub Knows : List (Bor (List ℕ)) → List MetName → Type 0
Knows keys before = (text : List ℕ) → IsUtf8 text → came keys text ≡ came_before before (chars text)

pub same_name : (one text : List ℕ) → IsUtf8 one → IsUtf8 text → bytes_eq text one ≡ bytes_eq (chars one) (chars text)
same_name one text u v = either_text text one ∙ same_chars one text u v

came_put : (keys : List (Bor (List ℕ))) (key : Bor (List ℕ)) (before : List MetName) (place : ℕ) → IsUtf8 key.now → Knows keys before
    → Knows (keys ++ key ∷ []) (before ++ record { place = place; name = chars key.now } ∷ [])
came_put keys key before place u knows = λ text v.
    list_any-append (λ (other : Bor (List ℕ)). bytes_eq text other.now) keys (key ∷ [])
    ∙ ap₂ (λ a b. a || (b || false)) (knows text v) (same_name key.now text u v)
    ∙ sym (list_any-append (λ (one : MetName). bytes_eq one.name (chars text)) before (record { place = place; name = chars key.now } ∷ []))

pub bytes_same : (xs ys : List ℕ) → bytes_eq xs ys ≡ true → xs ≡ ys
bytes_same xs ys h = (bytes_eq-Decides xs ys).0 (is_true h) where
  is_true : bytes_eq xs ys ≡ true → IsTrue (bytes_eq xs ys)
  is_true e = e

came_again : (keys : List (Bor (List ℕ))) (key : Bor (List ℕ)) (before : List MetName) (place : ℕ) → IsUtf8 key.now → Knows keys before → came keys key.now ≡ true
    → Knows keys (before ++ record { place = place; name = chars key.now } ∷ [])
came_again keys key before place u knows there = λ text v.
    by_test text v (bytes_eq (chars key.now) (chars text)) refl
    ∙ sym (list_any-append (λ (one : MetName). bytes_eq one.name (chars text)) before (record { place = place; name = chars key.now } ∷ [])) where
      by_test : (text : List ℕ) → IsUtf8 text → (b : Bool) → bytes_eq (chars key.now) (chars text) ≡ b → came keys text ≡ (came_before before (chars text) || (bytes_eq (chars key.now) (chars text) || false))
      by_test text v true e =
          let same : chars key.now ≡ chars text = bytes_same (chars key.now) (chars text) e in
          let already : came_before before (chars text) ≡ true = ap (came_before before) (sym same) ∙ sym (knows key.now u) ∙ there in
          knows text v ∙ already ∙ sym (ap (λ a. a || (bytes_eq (chars key.now) (chars text) || false)) already)
      by_test text v false e = knows text v ∙ sym (ap (λ b. came_before before (chars text) || (b || false)) e ∙ or_false (came_before before (chars text)))

pub knows_more : (keys later : List (Bor (List ℕ))) (key : Bor (List ℕ)) (before : List MetName) (place : ℕ) → IsUtf8 key.now → Knows keys before → later ≡ cond (came keys key.now) keys (keys ++ key ∷ [])
    → Knows later (before ++ record { place = place; name = chars key.now } ∷ [])
knows_more keys later key before place u knows e = by_test (came keys key.now) refl where
  by_test : (b : Bool) → came keys key.now ≡ b → Knows later (before ++ record { place = place; name = chars key.now } ∷ [])
  by_test true h = λ text v. ap (λ all. came all text) (e ∙ ap (λ b. cond b keys (keys ++ key ∷ [])) h) ∙ came_again keys key before place u knows h text v
  by_test false h = λ text v. ap (λ all. came all text) (e ∙ ap (λ b. cond b keys (keys ++ key ∷ [])) h) ∙ came_put keys key before place u knows text v

-- the places of first ones, with one thing more
places_of : (before : List MetName) (one : MetName) (b : Bool) → came_before before one.name ≡ b → first_places (before ++ one ∷ []) ≡ first_places before ++ cond b [] (one.place ∷ [])
places_of before one true h =
    ap (map (λ (each : MetName). each.place)) (firsts_behind (λ (each other : MetName). bytes_eq each.name other.name) before one
    ∙ ap (λ b. first_of_each_name before ++ cond b [] (one ∷ [])) h ∙ append-nil (first_of_each_name before))
    ∙ sym (append-nil (first_places before))
places_of before one false h =
    ap (map (λ (each : MetName). each.place)) (firsts_behind (λ (each other : MetName). bytes_eq each.name other.name) before one ∙ ap (λ b. first_of_each_name before ++ cond b [] (one ∷ [])) h)
    ∙ map-append (λ (each : MetName). each.place) (first_of_each_name before) (one ∷ [])

pub place_put : (keys : List (Bor (List ℕ))) (key : Bor (List ℕ)) (before : List MetName) (place : ℕ) (old new : List ℕ) → IsUtf8 key.now → Knows keys before → came keys key.now ≡ false
    → AreSame old (first_places before) → AreSame new (old ++ place ∷ []) → AreSame new (first_places (before ++ record { place = place; name = chars key.now } ∷ []))
place_put keys key before place old new u knows gone same put = λ p.
    put p ∙ places_behind old (first_places before) place same p
    ∙ sym (ap (λ places. is_at places p) (places_of before (record { place = place; name = chars key.now }) false (sym (knows key.now u) ∙ gone)))

pub place_kept : (keys : List (Bor (List ℕ))) (key : Bor (List ℕ)) (before : List MetName) (place : ℕ) (old : List ℕ) → IsUtf8 key.now → Knows keys before → came keys key.now ≡ true
    → AreSame old (first_places before) → AreSame old (first_places (before ++ record { place = place; name = chars key.now } ∷ []))
place_kept keys key before place old u knows there same = λ p.
    same p ∙ sym (ap (λ places. is_at places p) (places_of before (record { place = place; name = chars key.now }) true (sym (knows key.now u) ∙ there) ∙ append-nil (first_places before)))

-- what is met of a kind, by the definition's own words
pub notes_named : (met : List Met) → notes_met met ≡ named kind.Notes met
notes_named [] = refl
notes_named (Note note ∷ met) = ap (λ (more : List MetName). note ∷ more) (notes_named met)
notes_named (Section one ∷ met) = notes_named met
notes_named (Mark one ∷ met) = notes_named met
notes_named (Reference one ∷ met) = notes_named met
notes_named (Sequence one ∷ met) = notes_named met
notes_named (Variable one ∷ met) = notes_named met
notes_named (Table one ∷ met) = notes_named met

pub references_named : (met : List Met) → references_met met ≡ named kind.References met
references_named [] = refl
references_named (Reference field ∷ met) = ap (λ (more : List MetName). field ∷ more) (references_named met)
references_named (Section one ∷ met) = references_named met
references_named (Mark one ∷ met) = references_named met
references_named (Note one ∷ met) = references_named met
references_named (Sequence one ∷ met) = references_named met
references_named (Variable one ∷ met) = references_named met
references_named (Table one ∷ met) = references_named met

abbrev section_name : MetSection → MetName
section_name section = record { place = section.place; name = section.name }

sections_named : (met : List Met) → map section_name (sections_met met) ≡ named kind.Sections met
sections_named [] = refl
sections_named (Section section ∷ met) = ap (λ (more : List MetName). section_name section ∷ more) (sections_named met)
sections_named (Mark one ∷ met) = sections_named met
sections_named (Note one ∷ met) = sections_named met
sections_named (Reference one ∷ met) = sections_named met
sections_named (Sequence one ∷ met) = sections_named met
sections_named (Variable one ∷ met) = sections_named met
sections_named (Table one ∷ met) = sections_named met

filter_named : (section : MetSection) (sections : List MetSection)
    → map section_name (filter (λ other. not (bytes_eq section.name other.name)) sections) ≡ filter (λ (other : MetName). not (bytes_eq section.name other.name)) (map section_name sections)
filter_named section [] = refl
filter_named section (other ∷ sections) = by_test (not (bytes_eq section.name other.name)) (filter_named section sections) where
  kept : List MetSection
  kept = filter (λ other. not (bytes_eq section.name other.name)) sections

  named_kept : List MetName
  named_kept = filter (λ (other : MetName). not (bytes_eq section.name other.name)) (map section_name sections)

  by_test : (b : Bool) → map section_name kept ≡ named_kept → map section_name (cond b (other ∷ kept) kept) ≡ cond b (section_name other ∷ named_kept) named_kept
  by_test true same = ap (λ (more : List MetName). section_name other ∷ more) same
  by_test false same = same

firsts_named : (sections : List MetSection) → map section_name (firsts (λ one other. bytes_eq one.name other.name) sections) ≡ first_of_each_name (map section_name sections)
firsts_named [] = refl
firsts_named (section ∷ sections) =
    ap (λ (more : List MetName). section_name section ∷ more) (filter_named section (firsts (λ one other. bytes_eq one.name other.name) sections)
    ∙ ap (filter (λ (other : MetName). not (bytes_eq section.name other.name))) (firsts_named sections))

places_alike : (sections : List MetSection) → map (λ (section : MetSection). section.place) sections ≡ map (λ (one : MetName). one.place) (map section_name sections)
places_alike [] = refl
places_alike (section ∷ sections) = ap (λ (more : List ℕ). section.place ∷ more) (places_alike sections)

pub sections_places : (met : List Met) → map (λ (section : MetSection). section.place) (kept_sections met) ≡ first_places (named kind.Sections met)
sections_places met = places_alike (kept_sections met) ∙ ap (map (λ (one : MetName). one.place)) (firsts_named (sections_met met) ∙ ap first_of_each_name (sections_named met))

-- what is around a section is of no account
name_alike : (which : Kind) (one : Met) → name_met which (outlined one) ≡ name_met which one
name_alike kind.Sections (Section section) = refl
name_alike kind.Notes (Section section) = refl
name_alike kind.References (Section section) = refl
name_alike which (Mark one) = refl
name_alike which (Note one) = refl
name_alike which (Reference one) = refl
name_alike which (Sequence one) = refl
name_alike which (Variable one) = refl
name_alike which (Table one) = refl

pub named_alike : (which : Kind) (met : List Met) → named which (map outlined met) ≡ named which met
named_alike which [] = refl
named_alike which (one ∷ met) = ap₂ (λ (o : Option MetName) (more : List MetName). cons_option o more) (name_alike which one) (named_alike which met)

-- one thing more that is met
pub named_more : (which : Kind) (met : List Read) (i : ℕ) (d : Read) → i < length met
    → named which (map met_of (take (i + 1) met)) ≡ named which (map met_of (take i met)) ++ cons_option (name_met which (met_of (get_or met i d))) []
named_more which met i d h =
    ap (λ (some : List Read). named which (map met_of some)) (take_more met i d h) ∙ ap (named which) (map-append met_of (take i met) (get_or met i d ∷ []))
    ∙ filter_map-append (name_met which) (map met_of (take i met)) (met_of (get_or met i d) ∷ [])

pub holds_named : (which : Kind) (met : List Read) (i : ℕ) (d : Read) (firsts : Firsts) (one : MetName) → i < length met → Some one ≡ name_met which (met_of (get_or met i d))
    → Holds firsts (named which (map met_of (take i met)) ++ one ∷ []) → Holds firsts (named which (map met_of (take (i + 1) met)))
holds_named which met i d firsts one h is holds =
    let P : List MetName → Type 0 = λ before. Holds firsts before in
    subst P (sym (named_more which met i d h ∙ ap (λ o. named which (map met_of (take i met)) ++ cons_option o []) (sym is))) holds

pub holds_other : (which : Kind) (met : List Read) (i : ℕ) (d : Read) (firsts : Firsts) → i < length met → None ≡ name_met which (met_of (get_or met i d))
    → Holds firsts (named which (map met_of (take i met))) → Holds firsts (named which (map met_of (take (i + 1) met)))
holds_other which met i d firsts h is holds =
    let P : List MetName → Type 0 = λ before. Holds firsts before in
    subst P (sym (named_more which met i d h ∙ ap (λ o. named which (map met_of (take i met)) ++ cons_option o []) (sym is) ∙ append-nil (named which (map met_of (take i met))))) holds
