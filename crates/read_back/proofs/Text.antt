-- The text of such a tree: its blocks and its declarations.
use Rattle.std.proofs.Common.{◌≡◌, ℕ, ◌-◌, not, Bool, true, false, List, [], ◌∷◌, ◌++◌, map, filter, length, refl, sym, ap, ap₂, subst, ◌∙◌, arith, append-nil, bytes_eq, Option}
use Rattle.std.specs.Option.{option_map_or}
use Rattle.std.proofs.lemmas.List.{map-append}
use Rattle.std.specs.List.{flat_map, AllByRecursion as Each}
use Rattle.doc_model.specs.declared.document.Document.{Document}
use Rattle.doc_model.specs.Valid.{AreNamesGiven, IsValid}
use Rattle.load_model.specs.declared.element.Element.{Element as Read}
use Rattle.load_model.specs.Blocks.{Declared, Known, ReadBlocks, ReadDeclarations, gives_of, no_blocks, without_sources}
use Rattle.load_model.specs.Left.{Left, all_of, both, firsts, is_one_of, nothing, only_elements}
use Rattle.load_model.specs.Loaded.{declarations_left, declared_names, kept_declarations, known_of, met_of, read_text, stated_declarations}
use Rattle.load_model.specs.Met.{Met, MetName, first_of_each_name, kept_of, met_in, sequences_met, variables_met}
use Rattle.load_model.specs.Styles.{names_of}
use Rattle.written_model.specs.Written.{written}
use Rattle.back_blocks.specs.Blocks as back
use Rattle.back_kept.proofs.Apart.{AreApart, firsts_all}
use Rattle.back_met.specs.Things.{AreMet, IsMet, block_things}
use Rattle.back_names.specs.Named.{named, placeless}
use Rattle.back_offences.proofs.Root.{file_is, met_is, text_is}
use Rattle.back_paragraphs.specs.Paragraphs.{outside}
use Rattle.back_sheet_places.proofs.Lists.{filtered}
use Rattle.back_text.specs.Written.{read_as}
use Rattle.back_text.proofs.Whole.{text_back}
use Rattle.back_text_places.specs.Bare.{bare_blocks, bare_declarations, bare_declared}
use Rattle.back_valid.specs.Found.{AreNamesOf}
use Rattle.back_met.proofs.Readable.{text_met}
use Rattle.read_back.specs.Back.{HasRanges}
use Rattle.read_back.proofs.Declared.{AreDeclared, apart, none_further, used_declared}

abbrev named_one : List ℕ → Declared
named_one name = record { place = 0; name = name; left = nothing }

names_again : (names : List (List ℕ)) → map (λ (one : Declared). one.name) (map named_one names) ≡ names
names_again [] = refl
names_again (name ∷ names) = ap (λ (more : List (List ℕ)). name ∷ more) (names_again names)

lefts_again : (names : List (List ℕ)) → all_of (map (λ (one : Declared). one.left) (map named_one names)) ≡ nothing
lefts_again [] = refl
lefts_again (name ∷ names) = lefts_again names

module _ (doc : Document) (root : Read) (valid : IsValid doc) (ranges : HasRanges doc) (same : placeless root ≡ named (written doc)) (are : AreNamesOf doc (names_of root)) where
  abbrev text : Read
  text = (file_is doc root same).text

  known_is : known_of root ≡ record { names = names_of root; kept = kept_of (met_in text) }
  known_is = ap (λ (met : List Met). record { names = names_of root; kept = kept_of met }) (met_is doc root same)

  read_is : read_text root ≡ without_sources ((gives_of (record { names = names_of root; kept = kept_of (met_in text) }) text).inside (outside false))
  read_is =
      ap (λ (found : Option Read). option_map_or (λ (one : Read). without_sources ((gives_of (known_of root) one).inside (outside false))) found (no_blocks nothing)) (text_is doc root same)
      ∙ ap (λ (known : Known). without_sources ((gives_of known text).inside (outside false))) known_is

  pub read_back : bare_blocks false (read_text root) ≡ read_as doc
  read_back =
      ap (bare_blocks false) read_is
      ∙ ap without_sources (text_back doc (names_of root) text valid are ranges.fields (file_is doc root same).written_so)

  pub all_met : AreMet IsMet (flat_map block_things doc.body) (met_of root)
  all_met = subst (AreMet IsMet (flat_map block_things doc.body)) (sym (met_is doc root same)) (text_met doc text valid (file_is doc root same).written_so)

  declared_met : AreDeclared doc (met_of root)
  declared_met = used_declared doc valid (met_of root) all_met

  abbrev parts : List ReadDeclarations
  parts = (read_text root).declarations

  parts_bare : map bare_declarations parts ≡ back.declared_names false doc.variables ++ back.declared_names true doc.sequences
  parts_bare = ap (λ (read : ReadBlocks). read.declarations) read_back

  -- what is left out between declarations
  lefts_same : (some : List ReadDeclarations) → map (λ (part : ReadDeclarations). part.left) (map bare_declarations some) ≡ map (λ (part : ReadDeclarations). part.left) some
  lefts_same [] = refl
  lefts_same (part ∷ some) = ap (λ (more : List Left). part.left ∷ more) (lefts_same some)

  lefts_none : (variables sequences : List (List ℕ)) → all_of (map (λ (part : ReadDeclarations). part.left) (back.declared_names false variables ++ back.declared_names true sequences)) ≡ nothing
  lefts_none [] [] = refl
  lefts_none [] (name ∷ names) = refl
  lefts_none (name ∷ names) [] = refl
  lefts_none (name ∷ names) (other ∷ others) = refl

  between_none : all_of (map (λ (part : ReadDeclarations). part.left) parts) ≡ nothing
  between_none = ap all_of (sym (lefts_same parts) ∙ ap (map (λ (part : ReadDeclarations). part.left)) parts_bare) ∙ lefts_none doc.variables doc.sequences

  -- the stated ones of a kind
  module _ (kind : ReadDeclarations → Bool) (kind_same : (part : ReadDeclarations) → kind (bare_declarations part) ≡ kind part) where
    abbrev stated_of : List ReadDeclarations → List Declared
    stated_of some = flat_map (λ (part : ReadDeclarations). part.declared) (filter kind some)

    joined_bare : (some : List ReadDeclarations) → flat_map (λ (part : ReadDeclarations). part.declared) (map bare_declarations some) ≡ map bare_declared (flat_map (λ (part : ReadDeclarations). part.declared) some)
    joined_bare [] = refl
    joined_bare (part ∷ some) = ap (λ (more : List Declared). map bare_declared part.declared ++ more) (joined_bare some) ∙ sym (map-append bare_declared part.declared (flat_map (λ (one : ReadDeclarations). one.declared) some))

    stated_bare : (some : List ReadDeclarations) → stated_of (map bare_declarations some) ≡ map bare_declared (stated_of some)
    stated_bare some = ap (flat_map (λ (part : ReadDeclarations). part.declared)) (filtered bare_declarations kind kind kind_same some) ∙ joined_bare (filter kind some)

  names_bare : (some : List Declared) → map (λ (one : Declared). one.name) (map bare_declared some) ≡ map (λ (one : Declared). one.name) some
  names_bare [] = refl
  names_bare (one ∷ some) = ap (λ (more : List (List ℕ)). one.name ∷ more) (names_bare some)

  own_lefts : (some : List Declared) → map (λ (one : Declared). one.left) (map bare_declared some) ≡ map (λ (one : Declared). one.left) some
  own_lefts [] = refl
  own_lefts (one ∷ some) = ap (λ (more : List Left). one.left ∷ more) (own_lefts some)

  abbrev is_variables : ReadDeclarations → Bool
  is_variables part = not part.sequences

  abbrev is_sequences : ReadDeclarations → Bool
  is_sequences part = part.sequences

  variables_of : (variables sequences : List (List ℕ)) → stated_of is_variables (λ part. refl) (back.declared_names false variables ++ back.declared_names true sequences) ≡ map named_one variables
  variables_of [] [] = refl
  variables_of [] (name ∷ names) = refl
  variables_of (name ∷ names) [] = append-nil (map named_one (name ∷ names))
  variables_of (name ∷ names) (other ∷ others) = append-nil (map named_one (name ∷ names))

  sequences_of : (variables sequences : List (List ℕ)) → stated_of is_sequences (λ part. refl) (back.declared_names false variables ++ back.declared_names true sequences) ≡ map named_one sequences
  sequences_of [] [] = refl
  sequences_of [] (name ∷ names) = append-nil (map named_one (name ∷ names))
  sequences_of (name ∷ names) [] = refl
  sequences_of (name ∷ names) (other ∷ others) = append-nil (map named_one (other ∷ others))

  variables_stated : map bare_declared (stated_declarations false root) ≡ map named_one doc.variables
  variables_stated = sym (stated_bare is_variables (λ part. refl) parts) ∙ ap (stated_of is_variables (λ part. refl)) parts_bare ∙ variables_of doc.variables doc.sequences

  sequences_stated : map bare_declared (stated_declarations true root) ≡ map named_one doc.sequences
  sequences_stated = sym (stated_bare is_sequences (λ part. refl) parts) ∙ ap (stated_of is_sequences (λ part. refl)) parts_bare ∙ sequences_of doc.variables doc.sequences

  -- declarations of names that are apart, none of which is used without one
  module _ (names : List (List ℕ)) (given : AreNamesGiven names) (stated : List Declared) (is : map bare_declared stated ≡ map named_one names) (used : List MetName) (there : Each (λ one. is_one_of names one.name ≡ true) used) where
    names_are : map (λ (one : Declared). one.name) stated ≡ names
    names_are = sym (names_bare stated) ∙ ap (map (λ (one : Declared). one.name)) is ∙ names_again names

    all_kept : firsts (λ (one other : Declared). bytes_eq one.name other.name) stated ≡ stated
    all_kept = firsts_all (λ (one : Declared). one.name) stated (subst AreApart (sym names_are) (apart names given))

    abbrev names_by : List Declared → List (List ℕ)
    names_by kept = map (λ (one : Declared). one.name) kept ++ map (λ (one : MetName). one.name) (first_of_each_name (filter (λ one. not (is_one_of (map (λ (declared : Declared). declared.name) kept) one.name)) used))

    declared_are : names_by (firsts (λ (one other : Declared). bytes_eq one.name other.name) stated) ≡ names
    declared_are =
        ap names_by all_kept
        ∙ ap (λ (own : List (List ℕ)). own ++ map (λ (one : MetName). one.name) (first_of_each_name (filter (λ one. not (is_one_of own one.name)) used))) names_are
        ∙ ap (λ (further : List MetName). names ++ map (λ (one : MetName). one.name) (first_of_each_name further)) (none_further names used there) ∙ append-nil names

    left_in : both (all_of (map (λ (one : Declared). one.left) (firsts (λ (one other : Declared). bytes_eq one.name other.name) stated))) (only_elements (length stated - length (firsts (λ (one other : Declared). bytes_eq one.name other.name) stated))) ≡ nothing
    left_in =
        ap (λ (kept : List Declared). both (all_of (map (λ (one : Declared). one.left) kept)) (only_elements (length stated - length kept))) all_kept
        ∙ ap₂ (λ (own : Left) (count : ℕ). both own (only_elements count)) (ap all_of (sym (own_lefts stated) ∙ ap (map (λ (one : Declared). one.left)) is) ∙ lefts_again names) (none_more (length stated))
      where
        none_more : (n : ℕ) → n - n ≡ 0
        none_more n = omega arith

  pub variables_are : declared_names false root ≡ doc.variables
  variables_are = declared_are doc.variables valid.variables (stated_declarations false root) variables_stated (variables_met (met_of root)) declared_met.variables

  pub sequences_are : declared_names true root ≡ doc.sequences
  sequences_are = declared_are doc.sequences valid.sequences (stated_declarations true root) sequences_stated (sequences_met (met_of root)) declared_met.sequences

  pub declarations_whole : declarations_left root ≡ nothing
  declarations_whole =
      ap₂ (λ (between : Left) (variables : Left). all_of (between ∷ variables ∷ sequences_left ∷ [])) between_none (left_in doc.variables valid.variables (stated_declarations false root) variables_stated (variables_met (met_of root)) declared_met.variables)
      ∙ ap (λ (sequences : Left). all_of (nothing ∷ nothing ∷ sequences ∷ [])) (left_in doc.sequences valid.sequences (stated_declarations true root) sequences_stated (sequences_met (met_of root)) declared_met.sequences)
    where
      sequences_left : Left
      sequences_left = both (all_of (map (λ (one : Declared). one.left) (kept_declarations true root))) (only_elements (length (stated_declarations true root) - length (kept_declarations true root)))
