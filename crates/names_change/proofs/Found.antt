-- What is found in an edited document, kind by kind.
use Rattle.std.proofs.Common.{◌≡◌, ℕ, ◌&&◌, Bool, true, false, eqb, List, [], ◌∷◌, ◌++◌, map, Some, None, refl, ap, sym, ◌∙◌, subst, arith}
use Rattle.std.specs.Prelude.{if◌then◌else◌}
use Rattle.std.specs.List.{flat_map, list_any, IsDistinct, AllByRecursion as Each}
use Rattle.std.specs.Str.{bytes_eq}
use Rattle.std.proofs.lemmas.Bool.Decides.{nat_tests, Decides-eqb}
use Rattle.std.proofs.lemmas.Map.Made.{IsDistinct-from_AllPairs}
use Rattle.doc_model.specs.declared.document.Document.{Document}
use Rattle.doc_model.specs.declared.paragraph.Par.{Par, out-Par}
use Rattle.doc_model.specs.declared.paragraph.ParId.{ParId}
use Rattle.doc_model.specs.declared.paragraph.Item.{Item}
use Rattle.doc_model.specs.declared.paragraph.Note.{Note, out-Note}
use Rattle.doc_model.specs.Reading.{number_of, notes_of}
use Rattle.name_index.specs.declared.names.NameKind.{NameKind}
use Rattle.name_index.specs.declared.names.NameKind.TheVariants as kinds
use Rattle.name_index.specs.Scan.{Placed, names_of_kind, section_names, names_of}
use Rattle.node_array.specs.declared.row.Row.{Row}
use Rattle.node_array.specs.declared.row.Row.TheVariants as row
use Rattle.node_array.specs.Rows.{par_rows}
use Rattle.paragraph_rows.specs.Flat.{has_flat_notes}
use Rattle.paragraph_rows.specs.OwnRow.{bare, text_rows, rows_of_notes}
use Rattle.paragraph_rows.proofs.Lists.{each_front, each_behind, same_joined, joined_map}
use Rattle.paragraph_rows.proofs.Opened.{par_open}
use Rattle.row_edits.specs.Sound.{AreSound}
use Rattle.row_edits.proofs.Distinct.{Apart}
use Rattle.rows_stay_sound.proofs.Neutral.{numbers, numbers_both}
use Rattle.names_change.specs.ItemNames.{item_names}
use Rattle.names_change.proofs.Places.{text_places}
use Rattle.names_change.specs.Leading.{have_name, leads_to, Redirects}
use Rattle.names_change.proofs.Bare.{bare_names}
use Rattle.names_change.proofs.Lead.{Pairs, Other, lead, none_found, found_leads, no_more}
use Rattle.names_change.proofs.Reading.{State, state, after, flat_after, Fits, fits, settled, read, read_both, par_read, IsOfItems}
use Rattle.names_change.proofs.Others.{Differs, Elsewhere, after_elsewhere, read_other}
use Rattle.names_change.proofs.Renamed.{Without}

-- the items of a row have the names of the paragraph's
pub have_bare : (kind : NameKind) (name : List ℕ) (items : List Item) → have_name kind name (map bare items) ≡ have_name kind name items
have_bare kind name items =
    ap (list_any (bytes_eq name)) (joined_map (item_names kind) bare items ∙ same_joined (λ item. item_names kind (bare item)) (item_names kind) (bare_names kind) items)

-- items have no sections
pub no_section : (name : List ℕ) (items : List Item) → have_name kinds.Section name items ≡ false
no_section name [] = refl
no_section name (item ∷ items) = no_section name items

-- what is found is told by what is found of each kind
pub redirects_by : (old new : Document) (which : NameKind → List ℕ → Bool) (from to : ParId) → ((name : List ℕ) → which kinds.Section name ≡ false) → section_names new ≡ section_names old
    → ((kind : NameKind) → IsOfItems kind → (name : List ℕ)
    → lead name (names_of_kind new kind) ≡ (if which kind name && leads_to from (lead name (names_of_kind old kind)) then Some to else lead name (names_of_kind old kind)))
    → Redirects which from to (names_of old) (names_of new)
redirects_by old new which from to none sections each kind [] =
    none_found new kind ∙ sym (ap (λ said. if which kind [] && leads_to from said then Some to else said) (none_found old kind) ∙ ap (λ (b : Bool). if b then Some to else None) (no_more (which kind [])))
redirects_by old new which from to none sections each kind (letter ∷ letters) =
    found_leads new kind letter letters ∙ by_kind kind ∙ ap (λ said. if which kind (letter ∷ letters) && leads_to from said then Some to else said) (sym (found_leads old kind letter letters)) where
      by_kind : (kind : NameKind) → lead (letter ∷ letters) (names_of_kind new kind)
          ≡ (if which kind (letter ∷ letters) && leads_to from (lead (letter ∷ letters) (names_of_kind old kind)) then Some to else lead (letter ∷ letters) (names_of_kind old kind))
      by_kind kinds.Bookmark = each kinds.Bookmark tt (letter ∷ letters)
      by_kind kinds.Section =
          ap (lead (letter ∷ letters)) sections
          ∙ sym (ap (λ (b : Bool). if b && leads_to from (lead (letter ∷ letters) (section_names old)) then Some to else lead (letter ∷ letters) (section_names old)) (none (letter ∷ letters)))
      by_kind kinds.Reference = each kinds.Reference tt (letter ∷ letters)
      by_kind kinds.Note = each kinds.Note tt (letter ∷ letters)

-- numbers round one of numbers that are apart
either_way : (one other : ℕ) → eqb one other ≡ false → eqb other one ≡ false
either_way one other differ = grind (arith, nat_tests)

all_differ : (number : ℕ) (others : List ℕ) → Each (λ other. eqb number other ≡ false) others → Each (Differs number) others
all_differ number [] differ = tt
all_differ number (other ∷ others) differ = (either_way number other differ.0, all_differ number others differ.1)

distinct_parts : (before : List ℕ) (number : ℕ) (behind : List ℕ) → IsDistinct eqb (before ++ number ∷ behind) → Each (Differs number) before × Each (Differs number) behind
unfolding IsDistinct
distinct_parts [] number behind distinct = (tt, all_differ number behind distinct.0)
distinct_parts (other ∷ before) number behind distinct =
    let rest = distinct_parts before number behind distinct.1 in
    (((each_behind (λ y. eqb other y ≡ false) before (number ∷ behind) distinct.0).0, rest.0), rest.1)

pub apart_parts : (before : List ℕ) (number : ℕ) (behind : List ℕ) → Apart (before ++ number ∷ behind) → Each (Differs number) before × Each (Differs number) behind
apart_parts before number behind apart = distinct_parts before number behind (IsDistinct-from_AllPairs Decides-eqb (before ++ number ∷ behind) apart)

-- notes whose rows are of other paragraphs
module _ (kind : NameKind) (id : ParId) where
  pars_without : (pars : List Par) → Each (Differs id.0) (numbers (flat_map par_rows pars)) → Each (λ par. Differs id.0 (number_of par)) pars
  pars_without [] differ = tt
  pars_without (par ∷ pars) differ =
      let parts : Each (Differs id.0) (numbers (par_rows par) ++ numbers (flat_map par_rows pars)) = subst (Each (Differs id.0)) (numbers_both (par_rows par) (flat_map par_rows pars)) differ in
      let mine : Each (Differs id.0) (numbers (par_rows par)) = each_front (Differs id.0) (numbers (par_rows par)) (numbers (flat_map par_rows pars)) parts in
      let opened : Each (Differs id.0) (number_of par ∷ numbers (rows_of_notes par)) = subst (λ (rows : List Row). Each (Differs id.0) (numbers rows)) (par_open par) mine in
      (opened.0, pars_without pars (each_behind (Differs id.0) (numbers (par_rows par)) (numbers (flat_map par_rows pars)) parts))

  notes_without : (notes : List Note) → Each (Differs id.0) (numbers (flat_map text_rows notes)) → Without kind id notes
  notes_without [] differ = tt
  notes_without (note ∷ notes) differ =
      let pars : List Row = flat_map par_rows (out-Note note).pars in
      let parts : Each (Differs id.0) (numbers (text_rows note) ++ numbers (flat_map text_rows notes)) = subst (Each (Differs id.0)) (numbers_both (text_rows note) (flat_map text_rows notes)) differ in
      let mine : Each (Differs id.0) (numbers (pars ++ row.End ∷ [])) = each_front (Differs id.0) (numbers (text_rows note)) (numbers (flat_map text_rows notes)) parts in
      let own : Each (Differs id.0) (numbers pars ++ []) = subst (Each (Differs id.0)) (numbers_both pars (row.End ∷ [])) mine in
      (pars_without (out-Note note).pars (each_front (Differs id.0) (numbers pars) [] own), notes_without notes (each_behind (Differs id.0) (numbers (text_rows note)) (numbers (flat_map text_rows notes)) parts))

-- the state behind rows
abbrev pub start : State
start = state false []

abbrev pub is_within : List Row → Bool
is_within before = (after before start).within

abbrev pub held_behind : List Row → List Placed
held_behind before = (after before start).held

-- a paragraph with its notes among rows that are sound
pub record Standing (before : List Row) (par : Par) (behind : List Row) : Type 0 where
  pub fit : Fits (is_within before) par
  pub flat : has_flat_notes (is_within before) behind ≡ true
  pub ahead : Each (Differs (number_of par)) (numbers before)
  pub after_it : Each (Differs (number_of par)) (numbers behind)
  pub notes : (kind : NameKind) → Without kind (out-Par par).id (notes_of par)

pub standing : (next : ℕ) (before : List Row) (par : Par) (behind : List Row) → AreSound next (before ++ (par_rows par ++ behind)) → Standing before par behind
standing next before par behind sound =
    let number : ℕ = number_of par in
    let texts : List Row = rows_of_notes par in
    let parts = fits (is_within before) par behind (flat_after before (par_rows par ++ behind) start sound.flat) in
    let cut : numbers (before ++ (par_rows par ++ behind)) ≡ numbers before ++ number ∷ (numbers texts ++ numbers behind) =
    numbers_both before (par_rows par ++ behind)
    ∙ ap (λ (some : List ℕ). numbers before ++ some) (ap (λ (rows : List Row). numbers (rows ++ behind)) (par_open par) ∙ ap (λ (some : List ℕ). number ∷ some) (numbers_both texts behind))
    in
    let round = apart_parts (numbers before) number (numbers texts ++ numbers behind) (subst Apart cut sound.apart) in
    record {
      fit = parts.0;
      flat = parts.1;
      ahead = round.0;
      after_it = each_behind (Differs number) (numbers texts) (numbers behind) round.1;
      notes = λ kind. notes_without kind (out-Par par).id (notes_of par) (each_front (Differs number) (numbers texts) (numbers behind) round.1);
    }

module _ (kind : NameKind) where
  -- the names that are read behind a paragraph
  abbrev pub names_behind : List Row → List Row → Pairs
  names_behind before behind = read kind behind (state (is_within before) (settled (is_within before) (held_behind before)))

  pub read_at : (before : List Row) (par : Par) (behind : List Row) → Fits (is_within before) par
      → read kind (before ++ (par_rows par ++ behind)) start ≡ read kind before start ++ (text_places kind par ++ names_behind before behind)
  read_at before par behind fit =
      read_both kind before (par_rows par ++ behind) start
      ∙ ap (λ (some : Pairs). read kind before start ++ some) (par_read kind (is_within before) (held_behind before) par behind fit)

  -- they are those of other paragraphs
  settled_elsewhere : (number : ℕ) (within : Bool) (held : List Placed) → Each (Elsewhere number) held → Each (Elsewhere number) (settled within held)
  settled_elsewhere number true held are = are
  settled_elsewhere number false held are = tt

  pub ahead_other : (number : ℕ) (before : List Row) → Each (Differs number) (numbers before) → Each (Other number) (read kind before start)
  ahead_other number before differ = read_other number kind before start differ tt

  pub behind_other : (number : ℕ) (before behind : List Row) → Each (Differs number) (numbers before) → Each (Differs number) (numbers behind) → Each (Other number) (names_behind before behind)
  behind_other number before behind ahead differ =
      read_other number kind behind (state (is_within before) (settled (is_within before) (held_behind before))) differ
      (settled_elsewhere number (is_within before) (held_behind before) (after_elsewhere number before start ahead tt))
