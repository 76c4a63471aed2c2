-- Offences one after another.
use Rattle.std.proofs.Common.{◌≡◌, Bool, ℕ, zero, suc, ◌≤◌, List, [], ◌∷◌, ◌++◌, map, length, take, drop, refl, sym, ap, ◌∙◌, append_assoc, append-nil, arith, Option, Some, None}
use Rattle.std.specs.Prelude.{nat_lt, option_to_list, slice_get}
use Rattle.std.specs.List.{filter}
use Rattle.std.proofs.lemmas.List.{map-append, length-map}
use Rattle.std.proofs.lemmas.List.Concat.{flat_map-append}
use Rattle.std.proofs.lemmas.List.Elements.{filter-append}
use Rattle.doc_model.specs.Limits.{limit_number}
use Rattle.doc_model.specs.Parts.{items_of}
use Rattle.doc_model.specs.Reading.{number_of, paragraphs}
use Rattle.doc_model.specs.declared.paragraph.Par.{Par}
use Rattle.doc_model.specs.declared.refusal.Limit.{Limit}
use Rattle.doc_model.specs.declared.refusal.Limit.TheVariants as limit
use Rattle.load_model.specs.declared.element.Element.{Element}
use Rattle.load_model.specs.declared.offence.TreeOffence.{TreeOffence}
use Rattle.load_model.specs.declared.offence.TreeOffenceKind.TheVariants as kind
use Rattle.doc_model.specs.Alike.{in_document}
use Rattle.doc_model.specs.declared.document.Document.{Document}
use Rattle.draft_numbers.proofs.DraftLemmas.{numbers_alike}
use Rattle.load_model.specs.Blocks.{with_place}
use Rattle.load_model.specs.Loaded.{at_most_ten, draft_of, met_of}
use Rattle.load_model.specs.Met.{tables_met}
use Rattle.load_model.specs.Offences.{Counted, counted_paragraphs, first_offence, least, limits, offences_at, places_beyond, places_of_loops, too_long}
use Rattle.markup_nodes.specs.declared.tree.Elem.{Elem}
use Rattle.expanded_names.specs.Places.{first_place}
use Rattle.doc_load.specs.Outcomes.{all_offences, first_in, limit_offences, root_offences}

-- the offences of one limit
abbrev pub of_limit : Element → Limit → List TreeOffence
of_limit root limit = offences_at (kind.Limit limit) (places_beyond limit root)

-- some limits, and then more
pub limits_more : (before : List TreeOffence) (root : Element) (some more : List Limit) → (before ++ limit_offences some root) ++ limit_offences more root ≡ before ++ limit_offences (some ++ more) root
limits_more before root some more =
    append_assoc before (limit_offences some root) (limit_offences more root)
    ∙ ap (λ (offences : List TreeOffence). before ++ offences) (sym (flat_map-append (of_limit root) some more))

-- one limit
pub one_limit : (root : Element) (one : Limit) (places : List ℕ) → places ≡ places_beyond one root → offences_at (kind.Limit one) places ≡ limit_offences (one ∷ []) root
one_limit root one places e = ap (offences_at (kind.Limit one)) e ∙ sym (append-nil (of_limit root one))

-- paragraphs that are too long, of some and of more
pub too_long_more : (some more : List Counted) → too_long (some ++ more) ≡ too_long some ++ too_long more
too_long_more some more =
    let test : Counted → Bool = λ (par : Counted). nat_lt (limit_number limit.ItemsOfParagraph) par.items in
    ap (map (λ (par : Counted). par.place)) (filter-append test some more)
    ∙ map-append (λ (par : Counted). par.place) (filter test some) (filter test more)

-- where there is no least offence there is none
no_offence : (offences : List TreeOffence) → least offences ≡ None → offences ≡ []
no_offence [] e = refl
no_offence (offence ∷ offences) e = absurd cc

-- an offence alone
pub least_alone : (first : Option TreeOffence) → first ≡ least (option_to_list first)
least_alone None = refl
least_alone (Some offence) = refl

nil_parts : {X : Type 0} (some more : List X) → some ++ more ≡ [] → (some ≡ []) × (more ≡ [])
nil_parts [] more e = (refl, e)
nil_parts (x ∷ some) more e = absurd cc

map_nil : {X Y : Type 0} (f : X → Y) (xs : List X) → map f xs ≡ [] → xs ≡ []
map_nil f [] e = refl
map_nil f (x ∷ xs) e = absurd cc

nothing_beyond : (count : ℕ) (places : List ℕ) → take 1 (drop count places) ≡ [] → length places ≤ count
nothing_beyond zero [] e = omega arith
nothing_beyond zero (place ∷ places) e = absurd cc
nothing_beyond (suc count) [] e = omega arith
nothing_beyond (suc count) (place ∷ places) e = let few = nothing_beyond count places e in omega arith

abbrev counted_by : Par → Counted
counted_by par = record { place = number_of par; items = length (items_of par) }

abbrev offence_at : Limit → ℕ → TreeOffence
offence_at limit place = record { kind = kind.Limit limit; place = place }

abbrev before_limits : List TreeOffence → Element → List TreeOffence
before_limits before root = root_offences before root ++ offences_at kind.StyleLoop (places_of_loops root)

-- a root without an offence has few paragraphs
pub few_paragraphs : (before : List TreeOffence) (root : Element) → least (all_offences before root) ≡ None → length (paragraphs (draft_of root)) ≤ 65536
few_paragraphs before root e =
    let all = nil_parts (before_limits before root ++ limit_offences limits root) (offences_at kind.Table (tables_met (met_of root))) (no_offence (all_offences before root) e) in
    let of_limits = nil_parts (before_limits before root) (limit_offences limits root) all.0 in
    let first = nil_parts (of_limit root limit.Paragraphs) (limit_offences (drop 1 limits) root) of_limits.1 in
    let none = map_nil (offence_at limit.Paragraphs) (places_beyond limit.Paragraphs root) first.0 in
    let few = nothing_beyond 65536 (map (λ (par : Counted). par.place) (counted_paragraphs root)) none in
    let as_many = length-map (counted_paragraphs root) (λ (par : Counted). par.place) in
    let as_many' = length-map (paragraphs (draft_of root)) counted_by in
    omega (arith, few, as_many, as_many')

-- the first of some places
pub first_is : (places : List ℕ) → first_place None places ≡ slice_get places 0
first_is [] = refl
first_is (place ∷ places) = refl

-- a draft has as many paragraphs whether its list places have at most ten levels already or not
pub as_many_paragraphs : (draft : Document) → length (paragraphs (in_document (with_place at_most_ten) draft)) ≡ length (paragraphs draft)
as_many_paragraphs draft =
    sym (length-map (paragraphs (in_document (with_place at_most_ten) draft)) number_of)
    ∙ ap (λ (numbers : List ℕ). length numbers) (numbers_alike draft) ∙ length-map (paragraphs draft) number_of

-- the first offence of a tree is the first one that is found
pub first_is_least : (tree : Elem) → first_in tree ≡ first_offence tree
first_is_least tree = refl
